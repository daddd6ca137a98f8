pub mod Generator
pub mod Plain
pub mod Print
pub mod FreeNames
