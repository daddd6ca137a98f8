pub mod Printing
pub mod Pieces
pub mod Size
pub mod Written
pub mod Objects
pub mod Refused
