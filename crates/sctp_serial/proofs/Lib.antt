pub mod NumberLemmas
pub mod UnwrappedLemmas
