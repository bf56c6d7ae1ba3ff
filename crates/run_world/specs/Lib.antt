pub mod Script
pub mod Log
