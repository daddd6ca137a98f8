pub mod Keeps
pub mod Scans
mod Worked
mod Back
mod Marks
pub mod Walk
pub mod Adds
