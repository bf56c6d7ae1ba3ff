pub mod Checksum
pub mod Probing
