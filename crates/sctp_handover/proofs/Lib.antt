pub mod FieldLemmas
pub mod OpenLemmas
pub mod PartLemmas
