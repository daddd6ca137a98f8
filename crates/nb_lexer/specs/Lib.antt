pub mod Characters
pub mod Words
pub mod Spelling
pub mod Lexes
pub mod Faults
pub mod Scan
pub mod Written
