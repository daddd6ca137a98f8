pub mod EvaluationLemmas
