pub mod RunLemmas
pub mod PlaceLemmas
pub mod PieceLemmas
