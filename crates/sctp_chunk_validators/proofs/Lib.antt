pub mod CoveredLemmas
pub mod CoveredOnceLemmas
pub mod ValidLemmas
