pub mod Ascending
pub mod ReadRows
pub mod Touched
pub mod NumberedKeys
pub mod Placed
