pub mod Spelled
pub mod Splits
pub mod Lengths
