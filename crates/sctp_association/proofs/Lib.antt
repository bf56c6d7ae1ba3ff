pub mod ReceiveLemmas
pub mod PlaceLemmas
pub mod StandsLemmas
pub mod InterruptedLemmas
