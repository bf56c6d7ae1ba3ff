pub mod Messages
pub mod SerialNumber
pub mod Unwrapped
pub mod Keys
pub mod Time
