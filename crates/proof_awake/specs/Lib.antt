pub mod Awake
pub mod Invariant
pub mod Laws
pub mod Asking
pub mod Restored
pub mod Worlds
pub mod LeftBehind
pub mod Line
