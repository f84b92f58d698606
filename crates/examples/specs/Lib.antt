pub mod Examples
pub mod Settled
