pub mod CauseLemmas
pub mod LawLemmas
pub mod OneCauseLemmas
pub mod ShapedLemmas
