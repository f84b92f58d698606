pub mod Level
pub mod Restarts
pub mod Kept
