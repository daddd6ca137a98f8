pub mod Names
pub mod Scan
