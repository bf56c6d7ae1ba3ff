pub mod SizeLemmas
pub mod ArgumentLemmas
