pub mod ParameterLemmas
pub mod LawLemmas
pub mod OneParameterLemmas
pub mod ShapedLemmas
