pub mod Follows
pub mod Keys
pub mod Spawns
pub mod Tickets
