pub mod ForeignBytesLemmas
pub mod GoesLemmas
pub mod InterruptedLemmas
pub mod ReachableLemmas
