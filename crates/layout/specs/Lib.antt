pub mod Names
pub mod NamesLaws
pub mod Joined
pub mod Disk
pub mod DiskLaws
pub mod Session
pub mod SessionLaws
pub mod Unique
