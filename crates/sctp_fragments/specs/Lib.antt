pub mod Runs
pub mod ReassemblyKey
pub mod KeyLaws
pub mod Held
pub mod Interval
pub mod Entries
pub mod Pieces
