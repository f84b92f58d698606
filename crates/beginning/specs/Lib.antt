pub mod Disks
pub mod Transactions
pub mod Calls
pub mod Sessions
pub mod Ways
pub mod Laws
pub mod StoreLaws
