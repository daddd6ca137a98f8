pub mod Codes
pub mod Footings
pub mod RunStates
pub mod Starts
pub mod Tickets
