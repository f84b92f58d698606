pub mod FileBytesLaws
pub mod WriteLaws
pub mod MarkLaws
pub mod MarkOrder
pub mod EpochsLaws
pub mod SlotsLaws
