pub mod Interrupted
pub mod WorldView
