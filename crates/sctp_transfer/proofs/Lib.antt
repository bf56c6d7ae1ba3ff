pub mod PrepareLemmas
pub mod CleanedLemmas
pub mod DataLemmas
pub mod EmittedLemmas
