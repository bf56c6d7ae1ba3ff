pub mod FlagLemmas
pub mod WorkLemmas
