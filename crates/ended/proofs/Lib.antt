pub mod Commitable
