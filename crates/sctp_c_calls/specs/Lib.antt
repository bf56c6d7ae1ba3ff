pub mod Answers
pub mod Asking
pub mod Handover
pub mod Batch
pub mod Events
