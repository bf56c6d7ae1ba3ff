pub mod ProbeLemmas
pub mod AnswerLemmas
