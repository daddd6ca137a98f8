pub mod Names
pub mod Plan
pub mod Quiet
pub mod Sites
pub mod Tables
pub mod Ties
pub mod Told
pub mod Touched
