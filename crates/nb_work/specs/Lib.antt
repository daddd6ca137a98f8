pub mod Notices
pub mod Over
pub mod Tied
pub mod Work
