pub mod Laws
mod Turns
mod Lasts
mod IndexLemmas
mod InputLemmas
mod MemberLemmas
pub mod Calls
pub mod Wholes
pub mod Closed
pub mod Scopes
pub mod Yields
pub mod Endings
pub mod Spending
pub mod MoreAnswers
pub mod MorePulls
