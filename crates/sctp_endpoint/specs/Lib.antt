pub mod RequestViews
pub mod WrittenChunks
pub mod WrittenView
pub mod PacketView
pub mod Views
pub mod Lending
pub mod GoesOn
pub mod KeepsReady
