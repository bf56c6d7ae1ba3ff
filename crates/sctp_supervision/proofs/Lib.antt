pub mod MisuseLemmas
