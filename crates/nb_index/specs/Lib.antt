pub mod Numbers
pub mod Rows
pub mod Table
pub mod Keys
pub mod Contents
pub mod Index
