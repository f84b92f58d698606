pub mod Seeing
pub mod Guards
pub mod Shifting
pub mod Cutting
pub mod Ways
pub mod Laws
