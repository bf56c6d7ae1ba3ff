pub mod Capabilities
pub mod StateCookie
