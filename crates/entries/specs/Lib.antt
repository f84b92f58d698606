pub mod Reads
pub mod Popping
pub mod Existing
pub mod Ways
pub mod Laws
