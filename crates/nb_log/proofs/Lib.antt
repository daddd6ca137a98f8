pub mod SizeLemmas
pub mod PieceLemmas
pub mod ObjectLemmas
