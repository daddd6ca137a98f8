pub mod Firsts
pub mod KeysRead
pub mod Pulls
