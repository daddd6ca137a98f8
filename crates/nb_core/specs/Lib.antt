pub mod Codes
pub mod Core
pub mod Edits
pub mod Parts
pub mod Sites
pub mod Stands
