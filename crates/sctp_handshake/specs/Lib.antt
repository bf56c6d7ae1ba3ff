pub mod Beginning
pub mod ResolutionView
pub mod Outlines
pub mod RefusalView
