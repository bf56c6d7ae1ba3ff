-- What an end's values and packets say of one direction of an association, by the rules with epochs: as its sender, and as its receiver.
-- One end acts, and the state that the rules had before its action is `from`.
use Rattle.std.proofs.Common.{◌≡◌, ℕ, suc, ◌+◌, ◌*◌, ◌-◌, ◌^◌, ◌<◌, ◌≤◌, Bool, true, false, Option, Some, List, [], ◌∷◌, ◌++◌, length, slice_get, All}
use Rattle.std.specs.Prelude.{◌⊎◌, ⊤}
use Rattle.std.specs.List.{list_all}
use Rattle.sctp_serial.specs.Messages as messages
use Rattle.sctp_serial.specs.Unwrapped.{origin, u32_space, wire}
use Rattle.sctp_packet.specs.Chunk.{ChunkTree, FragmentTree, SackTree, data_chunk, idata_chunk, sack_chunk, re_config_chunk, forward_tsn_chunk, i_forward_tsn_chunk}
use Rattle.sctp_packet.specs.Grammar.{carried}
use Rattle.sctp_state.specs.Events as events
use Rattle.sctp_state.specs.Options.{Options}
use Rattle.sctp_capabilities.specs.Capabilities.{agreed}
use Rattle.sctp_tx_queue.specs.SendQueue.{Queue}
use Rattle.sctp_tx_outstanding.specs.OutstandingData.{no_items}
use Rattle.sctp_tx.specs.ForwardPoints.{most_of}
use Rattle.sctp_rx.specs.DataTracker.{IsTracker, tracker}
use Rattle.sctp_rx.specs.ReassemblyQueue.{reassembly}
use Rattle.proof_protocol.specs.State.{Message, ForwardPoint, Sender, Transfer, IsAmong, new_sender, fragment, count}
use Rattle.proof_protocol.specs.Rules.{TransferEvent, accept, begin, number, end_with_placeholder, give_up, data_comes, late_comes, become_ready, send_sack, acknowledge_next, send_forward, forward_comes, perform_reset}
use Rattle.proof_protocol.specs.Resets.{Epochs, ResetEvent, transfers, reset_stream, send_request, perform, commit, MayAll, go_all}
use Rattle.proof_protocol.specs.Based.{InEpochs, EpochWindows}
use Rattle.proof_refines.specs.SenderRefinement.{SenderRefines}
use Rattle.proof_refines.specs.Following.{FollowsEpochs, NoneIsReset}
use Rattle.proof_refines.specs.Reachable.{given_up_places, recorded_places, is_sending, delivered_ids, ids_at}
use Rattle.proof_refines.specs.Points.{chunk_of}
use Rattle.proof_refines.specs.Rows.{Carries}
use Rattle.proof_protocol.specs.Points.{AreApart}
use Rattle.proof_refines.specs.ReceiverRefinement.{ReceiverRefines}
use Rattle.proof_refines.specs.Near.{ReadsNear, AreFew}
use Rattle.proof_refines.specs.Resets.{base_now, IsWaitingFor}
use Rattle.spec_endpoint.specs.Association.{Tcb, State, Closed, CookieWait, Open}
use Rattle.spec_endpoint.specs.Laws.{Call}
use Rattle.proof_endpoint.specs.Mapped.{Carried}
use Rattle.proof_endpoint.specs.Acts.{EndWithPacket, BringsChunk}
use Rattle.proof_pair.specs.Trace.{AreValidOptions}
use Rattle.spec_endpoint.specs.Packets.{packets_in}
use Rattle.proof_pair.proofs.JoinActsLemmas.{Setting}
use Rattle.proof_delivery.specs.Asks.{ResetRequest, AreRequested, SaysOutgoing, SaysIncoming, IsAsking, IsAnswering}
use Rattle.proof_delivery.specs.Answered.{performed_in}
use Rattle.proof_delivery.specs.StreamEpochs.{StreamEpoch, shut_streams, reopen, performed_of, resets_emitted, failed_in}

-- ---- rules of one end

-- those of a receiver
abbrev pub is_receiving : TransferEvent → Bool
is_receiving accept = false
is_receiving (begin p) = false
is_receiving (number p bytes more) = false
is_receiving (end_with_placeholder p) = false
is_receiving (give_up p) = false
is_receiving (data_comes t) = true
is_receiving (late_comes t) = true
is_receiving (become_ready p) = true
is_receiving (send_sack c) = true
is_receiving (acknowledge_next c) = false
is_receiving (send_forward f) = false
is_receiving (forward_comes f) = true
is_receiving (perform_reset s c) = false

abbrev pub goes_out : ResetEvent → Bool
goes_out (transfers e) = is_sending e
goes_out (reset_stream s) = true
goes_out (send_request s) = true
goes_out (perform r) = false
goes_out (commit s) = true

abbrev pub goes_in : ResetEvent → Bool
goes_in (transfers e) = is_receiving e
goes_in (reset_stream s) = false
goes_in (send_request s) = false
goes_in (perform r) = true
goes_in (commit s) = false

-- what happens to the transfer alone
abbrev pub of_transfer : List ResetEvent → List TransferEvent
of_transfer [] = []
of_transfer (transfers e ∷ es) = e ∷ of_transfer es
of_transfer (e ∷ es) = of_transfer es

-- One direction: its state by the rules; and the requests to reset its streams, how many of them were performed, and how many answered.
-- No packet carries them all.
pub record Direction : Type 0 where
  pub rules : Epochs
  pub asks : List ResetRequest
  pub done : ℕ
  pub answered : ℕ

abbrev pub transfer_of : Direction → Transfer
transfer_of x = x.rules.transfer

-- what is true of every state that the rules lead to
pub record IsKept (message : ℕ → Message) (is_interleaved : Bool) (x : Direction) : Type 0 where
  pub epochs : InEpochs message is_interleaved x.rules
  pub asked : AreRequested x.rules x.asks x.done x.answered

-- rules of this kind lead from x to y; more may be asked, performed and answered
pub record GoesOn (message : ℕ → Message) (is_interleaved : Bool) (kind : ResetEvent → Bool) (x y : Direction) : Type 0 where
  pub events : List ResetEvent
  pub may : MayAll message is_interleaved x.rules events
  pub all : list_all kind events ≡ true
  pub leads : go_all message is_interleaved x.rules events ≡ y.rules
  pub more : List ResetRequest
  pub asks : y.asks ≡ x.asks ++ more
  pub further : ℕ
  pub done : y.done ≡ x.done + further
  pub answered : x.answered ≤ y.answered

-- what only one end's rules change
abbrev pub AsksStay : (x y : Direction) → Type 0
AsksStay x y = (y.asks ≡ x.asks) × (y.answered ≡ x.answered)

-- ---- chunks

-- DATA or I-DATA of a fragment that was kept when `least` were acknowledged
pub record SaysData (message : ℕ → Message) (first least : ℕ) (o : Sender) (tsn : ℕ) (f : FragmentTree) : Type 0 where
  pub carries : Carries message first o (tsn, f)
  pub from : least ≤ carries.at

-- a forward point that was sent, ahead of these
pub record SaysPoint (is_interleaved : Bool) (first least : ℕ) (x : Transfer) (chunk : ChunkTree) : Type 0 where
  pub point : ForwardPoint
  pub sent : IsAmong point x.forward_points
  pub written : chunk ≡ chunk_of is_interleaved first point
  pub apart : AreApart point.entries
  pub ahead : least < point.upto

-- a SACK of a point that was sent: where `least` were acknowledged
pub record SaysSack (first least : ℕ) (x : Transfer) (k : SackTree) : Type 0 where
  pub point : ℕ
  pub sent : IsAmong point x.sacks
  pub written : k.cumulative_tsn_ack ≡ wire u32_space first (origin + point - 1)
  pub from : least ≤ point

-- what the sender says, whose first TSN is `first`, where `least` were acknowledged. A RE-CONFIG speaks of both
-- directions
abbrev pub SaysOut : (message : ℕ → Message) (is_interleaved : Bool) (first least : ℕ) → Direction → ChunkTree → Type 0
SaysOut message is_interleaved first least x (data_chunk tsn is_immediate f) = (is_interleaved ≡ false) × SaysData message first least (transfer_of x).sender tsn f
SaysOut message is_interleaved first least x (idata_chunk tsn is_immediate f) = (is_interleaved ≡ true) × SaysData message first least (transfer_of x).sender tsn f
SaysOut message is_interleaved first least x (forward_tsn_chunk tsn skipped) = SaysPoint is_interleaved first least (transfer_of x) (forward_tsn_chunk tsn skipped)
SaysOut message is_interleaved first least x (i_forward_tsn_chunk tsn skipped) = SaysPoint is_interleaved first least (transfer_of x) (i_forward_tsn_chunk tsn skipped)
SaysOut message is_interleaved first least x (re_config_chunk parameters) = All (SaysOutgoing first x.asks) parameters
SaysOut message is_interleaved first least x chunk = ⊤

-- what its receiver says
abbrev pub SaysIn : (first least : ℕ) → Direction → ChunkTree → Type 0
SaysIn first least x (sack_chunk k) = SaysSack first least (transfer_of x) k
SaysIn first least x (re_config_chunk parameters) = All (SaysIncoming first x.done (length x.asks)) parameters
SaysIn first least x chunk = ⊤

-- the first TSN of what an end sends, and of what it receives
abbrev pub first_out : State → ℕ
first_out Closed = 0
first_out (CookieWait tag first t1) = 0
first_out (Open phase t) = t.sender.outstanding.first

abbrev pub first_in : State → ℕ
first_in Closed = 0
first_in (CookieWait tag first t1) = 0
first_in (Open phase t) = t.tracker.first

-- a chunk that is received was said: fields that its kind doesn't write are zero
pub record WasSaid (Says : ChunkTree → Type 0) (chunk : ChunkTree) : Type 0 where
  pub said : ChunkTree
  pub is : chunk ≡ carried said
  pub says : Says said

-- ---- the sender

-- the index of each fragment that is sent as data is written whole as an FSN
abbrev pub AreShort : Sender → Type 0
AreShort o = (t : ℕ) → t < count o → (fragment o t).placeholder ≡ false → (fragment o t).index < 2 ^ 32

-- what the rules reported from x to y is what was emitted meanwhile
pub record Reports (lifecycle : ℕ → Option ℕ) (x y : Transfer) (before after : List (events.Event Carried)) : Type 0 where
  pub places : List ℕ
  pub more : y.reports ≡ x.reports ++ places
  pub delivered_are : delivered_ids after ≡ delivered_ids before ++ ids_at lifecycle places

-- how the streams stand for what is accepted next: their epochs, and which are open
abbrev pub AreSo : (ℕ → StreamEpoch) → Epochs → Type 0
AreSo f x = (s : ℕ) → ((f s).epoch ≡ x.raised s) × ((f s).is_open ≡ true → x.raised s ≡ x.opened s) × ((f s).is_open ≡ false → x.raised s ≡ suc (x.opened s))

module _ (message : ℕ → Message) (lifecycle : ℕ → Option ℕ) (is_interleaved : Bool) where
  -- without a control block all that was accepted waits, and no stream was ever reset
  pub record IsWaiting (q : Queue) (x : Direction) : Type 0 where
    pub sender : (transfer_of x).sender ≡ record new_sender { accepted = (transfer_of x).sender.accepted }
    pub acknowledged : (transfer_of x).acknowledged ≡ 0
    pub no_points : (transfer_of x).forward_points ≡ []
    pub no_reports : (transfer_of x).reports ≡ []
    pub none_reset : NoneIsReset x.rules
    pub none_asked : x.asks ≡ []
    pub refines : SenderRefines message lifecycle false (transfer_of x) q (no_items false false)
    pub follows : FollowsEpochs x.rules q (no_items false false)

  -- with it the values show the state; a forward point with an entry fits a packet; the last ask waits, or none does
  pub record IsSending (t : Tcb) (q : Queue) (x : Direction) : Type 0 where
    pub refines : SenderRefines message lifecycle is_interleaved (transfer_of x) q t.sender.outstanding.items
    pub follows : FollowsEpochs x.rules q t.sender.outstanding.items
    pub first : t.sender.outstanding.first ≡ t.identity.my_first
    pub room : 16 ≤ most_of t.sender
    pub asks : IsAsking t.identity.my_first x.answered x.asks q t.requests

  abbrev pub SendsIn : State → Queue → Direction → Type 0
  SendsIn Closed q x = IsWaiting q x
  SendsIn (CookieWait tag first t1) q x = IsWaiting q x
  SendsIn (Open phase t) q x = IsSending t q x

  -- Each chunk that it puts into a packet or emits, now and behind what was emitted before. These streams were to be reset in the action. A
  -- request that waits did so before, or is of this action. Each answer is emitted, and none as failed.
  pub record SenderClaim (from : Direction) (prepared : List ℕ) (m : EndWithPacket Carried) (x : Direction) : Type 0 where
    pub kept : IsKept message is_interleaved x
    pub goes : GoesOn message is_interleaved goes_out from x
    pub done : x.done ≡ from.done
    pub shown : SendsIn m.state m.context.queue x
    pub since : (a : ResetRequest) → slice_get x.asks x.answered ≡ Some a → (slice_get from.asks x.answered ≡ Some a) ⊎ (count (transfer_of from).sender ≤ a.upto)
    pub given_up : recorded_places m.context.emitted ≡ given_up_places (of_transfer goes.events)
    pub reported : Reports lifecycle (transfer_of from) (transfer_of x) [] m.context.emitted.events
    pub performed : x.answered ≡ from.answered + performed_in m.context.emitted.events
    pub epochs : (f : ℕ → StreamEpoch) → AreSo f from.rules → AreSo (reopen (performed_of m.context.emitted.events) (shut_streams prepared f)) x.rules
    pub none_failed : failed_in m.context.emitted.events ≡ false
    pub emitted : All (λ (p : Carried). All (SaysOut message is_interleaved (first_out m.state) (transfer_of from).acknowledged x) p.chunks) (packets_in m.context.emitted.events)
    pub made : All (SaysOut message is_interleaved (first_out m.state) (transfer_of from).acknowledged x) m.packet.chunks

-- ---- the receiver, where the first messages that became ready were handed out

module _ (message : ℕ → Message) (is_interleaved : Bool) where
  -- without a control block nothing came: any new values are the receiver
  pub record IsFresh (handed : List messages.Message) (x : Direction) : Type 0 where
    pub none_handed : handed ≡ []
    pub no_sacks : (transfer_of x).sacks ≡ []
    pub none_done : x.done ≡ 0
    pub refines : (o : Options) (size most : ℕ) → ReceiverRefines message is_interleaved (base_now x.rules) 0 (transfer_of x) [] (tracker o origin) (record (reassembly size is_interleaved) { max_fragments = most })
    pub near : (first size most : ℕ) → ReadsNear message is_interleaved (base_now x.rules) first 0 (transfer_of x) (record (reassembly size is_interleaved) { max_fragments = most })

  -- with it, its numbers count from the epochs that it performed, and the next ask is deferred or none is
  pub record IsReceiving (handed : List messages.Message) (t : Tcb) (x : Direction) : Type 0 where
    pub shift : ℕ
    pub refines : ReceiverRefines message is_interleaved (base_now x.rules) shift (transfer_of x) handed t.tracker.tracker t.reassembly
    pub near : ReadsNear message is_interleaved (base_now x.rules) t.tracker.first shift (transfer_of x) t.reassembly
    pub is_tracker : IsTracker t.tracker.tracker
    pub waiting : IsWaitingFor shift x.rules t.reassembly.first t.reassembly.deferred
    pub first : t.tracker.first ≡ t.identity.peer_first
    pub answers : IsAnswering t.identity.peer_first x.done x.asks t.requests t.reassembly.deferred

  abbrev pub ReceivesIn : State → (handed : List messages.Message) → Direction → Type 0
  ReceivesIn Closed handed x = IsFresh handed x
  ReceivesIn (CookieWait tag first t1) handed x = IsFresh handed x
  ReceivesIn (Open phase t) handed x = IsReceiving handed t x

  -- each reset that it performs it emits
  pub record ReceiverClaim (from : Direction) (handed : List messages.Message) (m : EndWithPacket Carried) (x : Direction) : Type 0 where
    pub kept : IsKept message is_interleaved x
    pub goes : GoesOn message is_interleaved goes_in from x
    pub stay : AsksStay from x
    pub shown : ReceivesIn m.state handed x
    pub performed : (s : ℕ) → x.rules.performed s ≡ from.rules.performed s + resets_emitted s m.context.emitted.events
    pub emitted : All (λ (p : Carried). All (SaysIn (first_in m.state) (transfer_of from).acknowledged x) p.chunks) (packets_in m.context.emitted.events)
    pub made : All (SaysIn (first_in m.state) (transfer_of from).acknowledged x) m.packet.chunks

-- ---- what a call receives

-- Of a packet that the receiver emitted when `least` were acknowledged, as the sender receives it: fewer than 2^31 are numbered from there
-- on, and at most 2^30 from what is acknowledged now.
pub record ReceivesSacks (call : Call) (first : ℕ) (from : Direction) : Type 0 where
  pub least : ℕ
  pub past : least ≤ (transfer_of from).acknowledged
  pub near : count (transfer_of from).sender ≤ (transfer_of from).acknowledged + 2 ^ 30
  pub young : count (transfer_of from).sender < least + 2 ^ 31
  pub says : (tag : ℕ) (chunk : ChunkTree) → BringsChunk call tag chunk → WasSaid (SaysIn first least from) chunk

-- Of one that the sender emitted, as its receiver receives it.
pub record ReceivesData (message : ℕ → Message) (is_interleaved : Bool) (call : Call) (first : ℕ) (from : Direction) : Type 0 where
  pub least : ℕ
  pub young : count (transfer_of from).sender < least + 3 * 2 ^ 30
  pub says : (tag : ℕ) (chunk : ChunkTree) → BringsChunk call tag chunk → WasSaid (SaysOut message is_interleaved first least from) chunk

-- fewer than 2^31 are numbered from the ask that waits on
abbrev pub AsksSoon : Direction → Type 0
AsksSoon x = (a : ResetRequest) → slice_get x.asks x.answered ≡ Some a → count (transfer_of x).sender < a.upto + 2 ^ 31

-- ---- where an act leads, and what it may use

module _ (message : ℕ → Message) (lifecycle : ℕ → Option ℕ) (is_interleaved : Bool) where
  abbrev pub SenderGoes : Direction → (before after : EndWithPacket Carried) → Type 0
  SenderGoes from a b =
      (prepared : List ℕ) (x : Direction) → SenderClaim message lifecycle is_interleaved from prepared a x → (y : Direction) × SenderClaim message lifecycle is_interleaved from prepared b y

  -- of the receiver beside it, and of the SACKs and answers that come from there
  pub record SenderPremises (g : Setting) (call : Call) (from : Direction) : Type 0 where
    pub own : AreValidOptions g.own
    pub kept : IsKept message is_interleaved from
    pub mode : is_interleaved ≡ (agreed g.own g.other).message_interleaving
    pub few : length from.asks < 2 ^ 32
    pub handed : List messages.Message
    pub beside : ReceivesIn message is_interleaved g.beside handed from
    pub receives : ReceivesSacks call (first_in g.beside) from

  abbrev pub ReceiverGoes : Direction → List messages.Message → (before after : EndWithPacket Carried) → Type 0
  ReceiverGoes from handed a b = (x : Direction) → ReceiverClaim message is_interleaved from handed a x → (y : Direction) × ReceiverClaim message is_interleaved from handed b y

  -- of the sender beside it, its windows, and what comes from there
  pub record ReceiverPremises (g : Setting) (call : Call) (from : Direction) : Type 0 where
    pub own : AreValidOptions g.own
    pub kept : IsKept message is_interleaved from
    pub mode : is_interleaved ≡ (agreed g.own g.other).message_interleaving
    pub few_asks : length from.asks < 2 ^ 32
    pub queue : Queue
    pub beside : SendsIn message lifecycle is_interleaved g.beside queue from
    pub windows : EpochWindows message from.rules
    pub few : AreFew (transfer_of from).sender
    pub short : AreShort (transfer_of from).sender
    pub soon : AsksSoon from
    pub receives : ReceivesData message is_interleaved call (first_out g.beside) from
