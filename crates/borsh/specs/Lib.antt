pub mod Encoding
pub mod Taking
pub mod Laws
pub mod Back
