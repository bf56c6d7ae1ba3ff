pub mod ValueLemmas
pub mod FieldLemmas
pub mod FragmentLemmas
pub mod SackLemmas
pub mod SkipLemmas
pub mod ShapedLemmas
