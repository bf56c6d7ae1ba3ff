pub mod SettleLemmas
pub mod CutLemmas
pub mod PacketLemmas
pub mod EmittedLemmas
pub mod SideLemmas
pub mod HandingLemmas
