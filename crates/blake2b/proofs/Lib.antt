pub mod Halves
pub mod Steps
pub mod Turns
pub mod Blocks
pub mod Refusals
