pub mod Ranges
pub mod Sends
pub mod Ripe
pub mod Removes
pub mod Directories
