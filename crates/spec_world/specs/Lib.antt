pub mod Observations
pub mod World
