mod TableLemmas
mod ScratchLemmas
mod SummaryLemmas
pub mod Digits
pub mod UniqueJson
pub mod ValueParts
pub mod EditObjects
pub mod EntryValues
pub mod LinesOnce
