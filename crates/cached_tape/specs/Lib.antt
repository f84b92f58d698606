pub mod Flushing
pub mod Putting
pub mod Serving
pub mod Filling
pub mod FlushLaws
pub mod PutLaws
pub mod ServeLaws
pub mod FillLaws
