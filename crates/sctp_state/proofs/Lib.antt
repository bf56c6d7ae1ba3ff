mod EqualityLemmas
pub mod EventLemmas
pub mod HandoverLemmas
mod Rows
mod ValidityLemmas
