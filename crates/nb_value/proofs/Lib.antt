pub mod FieldLemmas
pub mod ValueLemmas
pub mod ValueLaws
pub mod JsonLaws
pub mod PutLemmas
pub mod TextLemmas
