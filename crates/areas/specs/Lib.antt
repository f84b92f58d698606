pub mod Format
pub mod FormatLaws
