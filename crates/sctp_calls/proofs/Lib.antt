pub mod EmittedLemmas
