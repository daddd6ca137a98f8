pub mod Firsts
pub mod Readies
pub mod Same
pub mod TiesAt
pub mod Works
