pub mod AnnouncedLemmas
pub mod RenewedLemmas
pub mod OutlineLemmas
pub mod JudgeLemmas
