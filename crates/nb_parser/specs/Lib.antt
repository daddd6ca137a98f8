pub mod Effects
pub mod Heads
pub mod Text
pub mod Parse
