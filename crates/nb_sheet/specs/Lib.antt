pub mod Lists
pub mod Derive
pub mod Sheet
pub mod Changes
pub mod Kept
pub mod Scan
pub mod Codes
