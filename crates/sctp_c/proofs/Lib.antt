pub mod Handles
pub mod LooseValues
mod PutBackLemmas
