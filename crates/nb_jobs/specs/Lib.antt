pub mod Halts
pub mod Jobs
pub mod Left
