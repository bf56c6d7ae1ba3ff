pub mod Appended
pub mod Columns
pub mod Lengths
pub mod OneMore
pub mod Pictures
pub mod Written
