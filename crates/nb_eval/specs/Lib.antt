pub mod Locals
pub mod LocalsIndex
pub mod Members
pub mod Run
pub mod Operate
pub mod Evaluation
pub mod Laws
pub mod Work
