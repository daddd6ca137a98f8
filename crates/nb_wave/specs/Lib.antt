pub mod Footings
pub mod Rules
pub mod Marks
pub mod Steps
pub mod Changes
pub mod Wave
pub mod Users
pub mod QuickRows
