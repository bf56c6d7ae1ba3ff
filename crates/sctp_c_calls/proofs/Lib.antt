pub mod BatchLemmas
pub mod OutcomeLemmas
pub mod ReadyLemmas
