pub mod MadeLemmas
