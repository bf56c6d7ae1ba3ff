pub mod Batch
pub mod Calls
pub mod Channels
pub mod Handle
pub mod Lending
pub mod Lent
pub mod Making
