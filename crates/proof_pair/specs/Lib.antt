pub mod Trace
pub mod Taking
pub mod Opens
pub mod Handing
pub mod HandoverInvariants
pub mod Agreement
pub mod Reopens
