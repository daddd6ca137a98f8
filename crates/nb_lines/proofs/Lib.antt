pub mod DataLemmas
pub mod EditorLemmas
pub mod FaultLemmas
pub mod FieldLemmas
pub mod LineLemmas
pub mod Once
