pub mod Words
pub mod Grammar
pub mod Trees
pub mod Law
pub mod Reading
pub mod Machine
pub mod Forms
