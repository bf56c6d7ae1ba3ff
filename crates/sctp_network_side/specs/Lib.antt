pub mod Interrupted
pub mod SideView
