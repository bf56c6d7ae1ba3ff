pub mod Answers
pub mod Events
pub mod Records
