pub mod Task
pub mod Ends
pub mod Run
pub mod Outcome
pub mod Made
pub mod Answers
pub mod Causes
pub mod Notes
