pub mod Table
pub mod Law
pub mod Scratch
pub mod Summary
