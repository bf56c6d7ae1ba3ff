pub mod InsertLemmas
pub mod ListLemmas
pub mod CountLemmas
pub mod ListStateLemmas
pub mod PopLemmas
pub mod FindLemmas
pub mod DeliverLemmas
pub mod InterruptedLemmas
mod JoinedLemmas
mod HolderLemmas
mod InTurnLemmas
mod AtEndLemmas
mod DroppedLemmas
mod LowLemmas
mod AddedLemmas
pub mod StandsLemmas
pub mod InterruptedQueueLemmas
pub mod EntriesLemmas
pub mod SkipLemmas
pub mod SortLemmas
pub mod WaitingLemmas
pub mod ExtendsLemmas
pub mod RestoredLemmas
pub mod ReceptionLemmas
pub mod WrittenLemmas
pub mod HeldLemmas
pub mod NoteLemmas
pub mod ForgetLemmas
pub mod NamedLemmas
pub mod TurnLemmas
mod FinishedLemmas
pub mod MapLemmas
pub mod PutLemmas
pub mod WireNumberLemmas
