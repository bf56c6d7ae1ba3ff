pub mod Bounds
pub mod Bytes
pub mod Parts
pub mod Reads
