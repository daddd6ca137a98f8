pub mod Forms
pub mod Fields
pub mod Reasons
pub mod Says
pub mod Reads
pub mod Lines
