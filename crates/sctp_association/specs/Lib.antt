pub mod Socket
pub mod Kinds
pub mod Interrupted
