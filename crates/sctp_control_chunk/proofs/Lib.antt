pub mod InnerLemmas
