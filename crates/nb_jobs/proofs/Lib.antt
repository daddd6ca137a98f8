pub mod Asked
pub mod Leads
pub mod Left
