-- Each operation of a sender's values is a run of the rules. `message` and `lifecycle` are any functions that say what was
-- accepted so far.
use Rattle.std.specs.Duration.{as_nanos}
use Rattle.std.specs.Prelude.{option_map, unwrap_or, ◌≡◌, ℕ, ◌+◌, ◌^◌, ◌<◌, ◌≤◌, ◌||◌, not, Bool, true, false, Option, Some, None, List, [], ◌∷◌, ◌++◌, length, replicate, slice_get}
use Rattle.sctp_serial.specs.Unwrapped.{origin, u32_space, wire}
use Rattle.sctp_serial.specs.declared.api.Message as given
use Rattle.sctp_packet.specs.Chunk.{FragmentTree}
use Rattle.sctp_chunk.specs.declared.sack.GapAckBlock.{GapAckBlock}
use Rattle.sctp_state.specs.Events.{Emitted, emit_given_up}
use Rattle.sctp_state.specs.Options.{Options}
use Rattle.sctp_state.specs.declared.api.GivenUpCause.{GivenUpCause}
use Rattle.sctp_state.specs.declared.api.options.SendOptions.{SendOptions}
use Rattle.sctp_tx_queue.specs.SendQueue.{Queued, Queue, queue, add, expiry_of, is_empty}
use Rattle.sctp_tx_queue.specs.Views.{queued_of}
use Rattle.sctp_tx_queue.specs.Produced.{Produced, produce}
use Rattle.sctp_tx_queue.specs.Settings.{set_mode, set_priority, set_low_threshold}
use Rattle.sctp_tx_queue.specs.Resets.{request_resets, commit_resets}
use Rattle.sctp_tx_queue.specs.Restarted.{reset}
use Rattle.sctp_tx_outstanding.specs.declared.item.MissIndication.{MissIndication}
use Rattle.sctp_tx_outstanding.specs.Item.{Item, is_abandoned}
use Rattle.sctp_tx_outstanding.specs.OutstandingData.{Items, no_items, append_item}
use Rattle.sctp_tx_outstanding.specs.Losses.{abandon_message, first_step, nack_below, nack_all, expire_below, expire_outstanding}
use Rattle.sctp_tx_outstanding.specs.Sack.{is_valid, leaving}
use Rattle.sctp_tx_outstanding.specs.Forward.{is_forward_due}
use Rattle.sctp_tx.specs.RetransmissionQueue.{Sender, handle_sack, step_of, timed_out_sender}
use Rattle.sctp_tx.specs.ForwardPoints.{abandon_expired, most_of}
use Rattle.sctp_tx.specs.Resent.{resent_fast, send_fast}
use Rattle.sctp_tx.specs.Sending.{item_of, discard_all, without_discards, send}
use Rattle.proof_protocol.specs.State as rules
use Rattle.proof_protocol.specs.State.{Message, Transfer, IsAmong, new_sender, start, has, fragment, count, stream_of, ordered_of}
use Rattle.proof_protocol.specs.Rules.{TransferEvent, accept, acknowledge_next, IsAllowed, Happens, after, run}
use Rattle.proof_protocol.specs.Resets.{restarts}
use Rattle.proof_protocol.specs.Claims.{AtRest}
use Rattle.proof_protocol.specs.Invariant.{Invariant}
use Rattle.proof_protocol.specs.Joints.{reports_of}
use Rattle.proof_refines.specs.SenderRefinement.{SenderRefines, tree_of}
use Rattle.proof_refines.specs.Reachable.{recorded_places, SenderLeads, SenderLeadsTo, delivered_ids, ids_at}
use Rattle.proof_refines.specs.Points.{IsSendable}

-- of each state that the rules lead to, and values that show it
abbrev pub InEachState : ((ℕ → Message) → (ℕ → Option ℕ) → Bool → Transfer → Queue → Sender → Type 0) → Type 0
InEachState P = (message : ℕ → Message) (lifecycle : ℕ → Option ℕ) (is_interleaved : Bool) (x : Transfer) (q : Queue) (s : Sender)
    → Invariant message is_interleaved x → SenderRefines message lifecycle is_interleaved x q s.outstanding.items → P message lifecycle is_interleaved x q s

-- what the receiver does, and what is under way, is not shown
abbrev pub RefinementReadsTheSender : Type 0
RefinementReadsTheSender = (message : ℕ → Message) (lifecycle : ℕ → Option ℕ) (is_interleaved : Bool) (x y : Transfer) (q : Queue) (s : Items)
    → y.sender ≡ x.sender → y.acknowledged ≡ x.acknowledged → SenderRefines message lifecycle is_interleaved x q s → SenderRefines message lifecycle is_interleaved y q s

-- ---- before anything is sent

-- so many messages were accepted
abbrev pub waiting : ℕ → Transfer
waiting n = record start { sender = record new_sender { accepted = n } }

abbrev pub NewRefine : Type 0
NewRefine = (message : ℕ → Message) (lifecycle : ℕ → Option ℕ) (o : Options) → SenderRefines message lifecycle false start (queue o) (no_items false false)

-- an association begins, in either mode
abbrev pub BeginningsRefine : Type 0
BeginningsRefine = (message : ℕ → Message) (lifecycle : ℕ → Option ℕ) (is_interleaved is_partial : Bool) (n : ℕ) (q : Queue)
    → SenderRefines message lifecycle false (waiting n) q (no_items false false) → SenderRefines message lifecycle is_interleaved (waiting n) (set_mode is_interleaved q) (no_items is_partial is_interleaved)

abbrev pub ResetsRefine : Type 0
ResetsRefine = (message : ℕ → Message) (lifecycle : ℕ → Option ℕ) (is_interleaved : Bool) (n : ℕ) (q : Queue) (s : Items)
    → SenderRefines message lifecycle is_interleaved (waiting n) q s → SenderRefines message lifecycle is_interleaved (waiting n) (reset q) s

-- ---- acceptance

-- the message of place p as it is queued
abbrev pub offered_entry : (ℕ → Message) → (ℕ → Option ℕ) → (p : ℕ) → (expires : Option ℕ) → (limit : ℕ) → Queued
offered_entry message lifecycle p expires limit = record {
  number = p;
  ppid = (message p).protocol_id;
  payload = (message p).payload;
  is_unordered = not (ordered_of message p);
  expires = expires;
  limit = limit;
  lifecycle = lifecycle p;
  offset = 0;
  numbers = None;
  fsn = 0;
}

-- what the rules know of a message that is offered
abbrev pub message_of : given.Message → SendOptions → Message
message_of m options = record { stream = m.stream_id.0; ordered = not options.unordered; protocol_id = m.ppid.0; payload = m.payload.items }

-- so it is queued
abbrev pub OffersAreQueued : Type 0
OffersAreQueued = (message : ℕ → Message) (lifecycle : ℕ → Option ℕ) (p now : ℕ) (m : given.Message) (options : SendOptions)
    → message p ≡ message_of m options → lifecycle p ≡ options.lifecycle_id
    → queued_of p now m options ≡ offered_entry message lifecycle p (expiry_of now (option_map as_nanos options.lifetime)) (unwrap_or options.max_retransmissions 65535)

abbrev pub Accepts : Type 0
Accepts = InEachState (λ message lifecycle is_interleaved x q s.
    (expires : Option ℕ) (limit : ℕ) → 0 < length (message x.sender.accepted).payload → x.sender.accepted + 1 < 2 ^ 32
    → SenderRefines message lifecycle is_interleaved (after message is_interleaved x accept)
    (add (stream_of message x.sender.accepted) (offered_entry message lifecycle x.sender.accepted expires limit) q) s.outstanding.items)

abbrev pub SettingsRefine : Type 0
SettingsRefine = InEachState (λ message lifecycle is_interleaved x q s.
    (id n : ℕ) (emitted : Emitted (List ℕ))
    → SenderRefines message lifecycle is_interleaved x (set_priority id n q) s.outstanding.items × SenderRefines message lifecycle is_interleaved x (set_low_threshold id n q emitted).queue s.outstanding.items)

-- ---- resets of streams

-- a stream that goes into a request sends nothing meanwhile
abbrev pub RequestsRefine : Type 0
RequestsRefine = InEachState (λ message lifecycle is_interleaved x q s. (most : ℕ) → SenderRefines message lifecycle is_interleaved x (request_resets most q) s.outstanding.items)

-- the numbers of these streams begin again
abbrev pub restart_numbers : List ℕ → Transfer → Transfer
restart_numbers [] x = x
restart_numbers (id ∷ ids) x = restart_numbers ids (record x { sender = restarts x.sender id })

-- the answer has come
abbrev pub CommitsRefine : Type 0
CommitsRefine = InEachState (λ message lifecycle is_interleaved x q s. (ids : List ℕ) → SenderRefines message lifecycle is_interleaved (restart_numbers ids x) (commit_resets ids q) s.outstanding.items)

-- ---- new fragments

abbrev pub with_made : ℕ → Option Produced → Items → Items
with_made now None s = s
with_made now (Some p) s = append_item (item_of now p) s

-- nothing waits to be discarded
abbrev pub Produces : Type 0
Produces = InEachState (λ message lifecycle is_interleaved x q s.
    (now size : ℕ) (emitted : Emitted (List ℕ)) → s.outstanding.items.discards ≡ [] → 0 < size
    → SenderLeadsTo message lifecycle is_interleaved x emitted (produce now size q emitted).queue (with_made now (produce now size q emitted).made s.outstanding.items) (produce now size q emitted).emitted)

-- ---- a SACK

-- n more fragments leave
abbrev pub leave_fragments : ℕ → Transfer → Transfer
leave_fragments n x = record x { acknowledged = x.acknowledged + n; reports = x.reports ++ reports_of x.sender x.acknowledged n }

-- n fragments leave, up to c, with the reports of the rules; then messages are given up that lost a fragment
pub record ReceivesSack {P : Type 0} (message : ℕ → Message) (lifecycle : ℕ → Option ℕ) (is_interleaved : Bool) (x : Transfer) (q : Queue) (n c : ℕ) (emitted : Emitted P) (s : Items) (later : Emitted P) : Type 0 where
  pub may : Happens message is_interleaved x (replicate n (acknowledge_next c))
  pub leaves : run message is_interleaved x (replicate n (acknowledge_next c)) ≡ leave_fragments n x
  pub upto : (leave_fragments n x).acknowledged ≡ c
  pub reported : delivered_ids later.events ≡ delivered_ids emitted.events ++ ids_at lifecycle (reports_of x.sender x.acknowledged n)
  pub losses : SenderLeadsTo message lifecycle is_interleaved (leave_fragments n x) emitted q s later

-- its cumulative point is that of a SACK of the rules
abbrev pub SacksAreReceived : Type 0
SacksAreReceived = InEachState (λ message lifecycle is_interleaved x q s.
    (now cumulative c a_rwnd : ℕ) (blocks : List GapAckBlock) (emitted : Emitted (List ℕ))
    → is_valid cumulative blocks s.outstanding.items ≡ true → cumulative + 1 ≡ origin + c → IsAmong c x.sacks
    → ReceivesSack message lifecycle is_interleaved x q (leaving cumulative s.outstanding.items) c emitted (handle_sack now cumulative a_rwnd blocks s emitted).outstanding.items (step_of cumulative blocks s emitted).emitted)

-- ---- giving up

-- all that is kept of a message
abbrev pub GivesUp : Type 0
GivesUp = InEachState (λ message lifecycle is_interleaved x q s.
    (p k : ℕ) (i : Item) (cause : GivenUpCause) (emitted : Emitted (List ℕ)) → slice_get s.outstanding.items.kept k ≡ Some i → i.number ≡ p → is_abandoned i ≡ false
    → SenderLeadsTo message lifecycle is_interleaved x emitted q (abandon_message p s.outstanding.items) (emit_given_up p cause emitted))

-- what is left of it in the queue
abbrev pub DiscardsRefine : Type 0
DiscardsRefine = InEachState (λ message lifecycle is_interleaved x q s.
    (emitted : Emitted (List ℕ))
    → SenderRefines message lifecycle is_interleaved x (discard_all s.outstanding.items.discards q emitted).queue (without_discards s).outstanding.items
    × (recorded_places (discard_all s.outstanding.items.discards q emitted).emitted ≡ recorded_places emitted))

-- missing reports and losses, and lifetimes, of the first n items
abbrev pub Loses : Type 0
Loses = InEachState (λ message lifecycle is_interleaved x q s.
    (indication : MissIndication) (fast : Bool) (n : ℕ) (emitted : Emitted (List ℕ))
    → SenderLeadsTo message lifecycle is_interleaved x emitted q (nack_below indication fast n (first_step s.outstanding.items emitted)).items (nack_below indication fast n (first_step s.outstanding.items emitted)).emitted)

abbrev pub Expires : Type 0
Expires = InEachState (λ message lifecycle is_interleaved x q s.
    (now n : ℕ) (emitted : Emitted (List ℕ))
    → SenderLeadsTo message lifecycle is_interleaved x emitted q (expire_below now n (first_step s.outstanding.items emitted)).items (expire_below now n (first_step s.outstanding.items emitted)).emitted)

-- a whole timeout, and the test before a forward point
abbrev pub TimesOut : Type 0
TimesOut = InEachState (λ message lifecycle is_interleaved x q s.
    (now : ℕ) (emitted : Emitted (List ℕ))
    → SenderLeadsTo message lifecycle is_interleaved x emitted q (timed_out_sender now (nack_all s.outstanding.items emitted).items s).outstanding.items (nack_all s.outstanding.items emitted).emitted)

abbrev pub LifetimesEnd : Type 0
LifetimesEnd = InEachState (λ message lifecycle is_interleaved x q s.
    (now : ℕ) (emitted : Emitted (List ℕ))
    → SenderLeadsTo message lifecycle is_interleaved x emitted q (abandon_expired now s emitted).outstanding.items (expire_outstanding now s.outstanding.items emitted).emitted)

-- the rules give up what they name, and nothing else
abbrev pub RecordsAreExact : Type 0
RecordsAreExact = (message : ℕ → Message) (is_interleaved : Bool) (x y : Transfer) (places : List ℕ)
    → SenderLeads message is_interleaved x y places → (p : ℕ) → y.sender.given_up p ≡ (has p places || x.sender.given_up p)

-- ---- forward points

-- one that is due, in a packet with room for an entry
abbrev pub PointsAreDue : Type 0
PointsAreDue = InEachState (λ message lifecycle is_interleaved x q s. is_forward_due s.outstanding.items ≡ true → 16 ≤ most_of s → IsSendable message is_interleaved x s)

-- ---- packets

-- a chunk carries a fragment that may come: it is numbered, and no placeholder. `first` is the first TSN
pub record Carries (message : ℕ → Message) (first : ℕ) (o : rules.Sender) (chunk : ℕ × FragmentTree) : Type 0 where
  pub at : ℕ
  pub below : at < count o
  pub real : (fragment o at).placeholder ≡ false
  pub tsn : chunk.0 ≡ wire u32_space first (origin + at)
  pub tree : chunk.1 ≡ tree_of message o (fragment o at)

-- each of these carries a fragment that is kept: those below `least` were acknowledged
abbrev pub AllCarry : (ℕ → Message) → (first least : ℕ) → rules.Sender → List (ℕ × FragmentTree) → Type 0
AllCarry message first least o [] = Unit {0}
AllCarry message first least o (c ∷ cs) = ((carries : Carries message first o c) × (least ≤ carries.at)) × AllCarry message first least o cs

-- a chunk carries its fragment after each rule too, whichever it is
abbrev pub CarryingStays : Type 0
CarryingStays = (message : ℕ → Message) (is_interleaved : Bool) (first : ℕ) (x : Transfer) (e : TransferEvent) (chunk : ℕ × FragmentTree)
    → Invariant message is_interleaved x → IsAllowed message is_interleaved x e → Carries message first x.sender chunk → Carries message first (after message is_interleaved x e).sender chunk

pub record SenderSends {P : Type 0} (message : ℕ → Message) (lifecycle : ℕ → Option ℕ) (is_interleaved : Bool) (x : Transfer) (now most : ℕ) (s : Sender) (q : Queue) (emitted : Emitted P) : Type 0 where
  pub leads : SenderLeadsTo message lifecycle is_interleaved x emitted (send now most s q emitted).queue (send now most s q emitted).sender.outstanding.items (send now most s q emitted).emitted
  pub carried : AllCarry message s.outstanding.first x.acknowledged leads.after.sender (send now most s q emitted).chunks

-- a whole packet: discards, what is sent again, and new fragments
abbrev pub PacketsAreSent : Type 0
PacketsAreSent = InEachState (λ message lifecycle is_interleaved x q s. (now most : ℕ) (emitted : Emitted (List ℕ)) → SenderSends message lifecycle is_interleaved x now most s q emitted)

-- the packet that ignores the congestion window
abbrev pub FastPacketsAreSent : Type 0
FastPacketsAreSent = InEachState (λ message lifecycle is_interleaved x q s.
    (now most : ℕ) → SenderRefines message lifecycle is_interleaved x q (send_fast now most s).outstanding.items × AllCarry message s.outstanding.first x.acknowledged x.sender (resent_fast most s).chunks)

-- ---- rest

-- with nothing queued and no item kept the rules are at rest
abbrev pub RestIsRest : Type 0
RestIsRest = InEachState (λ message lifecycle is_interleaved x q s. is_empty q ≡ true → s.outstanding.items.kept ≡ [] → AtRest x)
