-- What a sender's values keep of the epochs, all together, and where each of its calls leads by the rules with epochs (RFC 6525 section
-- 5.1.2).
use Rattle.std.specs.Prelude.{◌≡◌, ℕ, ◌+◌, ◌≤◌, Bool, true, false, Option, None, Some, List, [], ◌++◌, map, replicate}
use Rattle.sctp_serial.specs.Unwrapped.{origin}
use Rattle.sctp_chunk.specs.declared.sack.GapAckBlock.{GapAckBlock}
use Rattle.sctp_state.specs.Events.{Emitted}
use Rattle.sctp_state.specs.Options.{Options}
use Rattle.sctp_tx_queue.specs.declared.send_queue.stream.PauseState.TheVariants.{NotPaused, Paused, Resetting}
use Rattle.sctp_tx_queue.specs.SendQueue.{Queued, Queue, queue, stream, add}
use Rattle.sctp_tx_queue.specs.Settings.{set_priority, set_low_threshold, set_mode}
use Rattle.sctp_tx_queue.specs.Resets.{prepare_reset, streams_to_request, request_resets, commit_resets}
use Rattle.sctp_tx_queue.specs.Restarted.{reset}
use Rattle.sctp_tx_outstanding.specs.declared.item.MissIndication.{MissIndication}
use Rattle.sctp_tx_outstanding.specs.OutstandingData.{Items, no_items, next_number, begin_reset}
use Rattle.sctp_tx_outstanding.specs.Losses.{abandon_message, first_step, nack_below, nack_all, expire_below}
use Rattle.sctp_tx_outstanding.specs.Sack.{is_valid, leaving}
use Rattle.sctp_tx.specs.RetransmissionQueue.{Sender, handle_sack, step_of, timed_out_sender}
use Rattle.sctp_tx.specs.ForwardPoints.{abandon_expired}
use Rattle.sctp_tx.specs.Resent.{send_fast}
use Rattle.sctp_tx.specs.Sending.{send}
use Rattle.proof_protocol.specs.State.{Message, Transfer, IsAmong, count, stream_of}
use Rattle.proof_protocol.specs.Rules.{TransferEvent, accept, acknowledge_next, run}
use Rattle.proof_protocol.specs.Invariant.{Invariant}
use Rattle.proof_protocol.specs.Resets.{Epochs, first_epoch, transfers, send_request, commit, goes, MayAll, go_all}
use Rattle.proof_refines.specs.SenderRefinement.{find, messages_of, SenderRefines}
use Rattle.proof_refines.specs.Reachable.{SenderLeadsTo}
use Rattle.proof_refines.specs.Rows.{offered_entry, restart_numbers, waiting, ReceivesSack, SenderSends, InEachState}
use Rattle.proof_refines.specs.Pauses.{unsent_of, give_up_rules, prepare_events, ArePausedAs, HasBreaks, AreEach}
use Rattle.proof_refines.specs.Line.{are_ascending, IsInLine}

-- pauses agree with the epochs, no stream that is stopped is in line, each stream stands once, and each request has its breakpoint
pub record FollowsEpochs (x : Epochs) (q : Queue) (s : Items) : Type 0 where
  pub paused : ArePausedAs x q
  pub line : IsInLine q
  pub keyed : are_ascending 0 q.streams.entries ≡ true
  pub breaks : HasBreaks x s

-- of each state that the rules with epochs lead to, and values that show it and keep its epochs
abbrev pub InEachFollowed : ((ℕ → Message) → (ℕ → Option ℕ) → Bool → Epochs → Queue → Sender → Type 0) → Type 0
InEachFollowed P = (message : ℕ → Message) (lifecycle : ℕ → Option ℕ) (is_interleaved : Bool) (x : Epochs) (q : Queue) (s : Sender)
    → Invariant message is_interleaved x.transfer → SenderRefines message lifecycle is_interleaved x.transfer q s.outstanding.items → FollowsEpochs x q s.outstanding.items → P message lifecycle is_interleaved x q s

-- these rules may happen by the rules with epochs too, they change the transfer alone, and the values keep the epochs then
pub record LeadsInEpochs (message : ℕ → Message) (is_interleaved : Bool) (x : Epochs) (es : List TransferEvent) (y : Transfer) (q : Queue) (s : Items) : Type 0 where
  pub may : MayAll message is_interleaved x (map transfers es)
  pub goes_to : go_all message is_interleaved x (map transfers es) ≡ record x { transfer = y }
  pub follows : FollowsEpochs (record x { transfer = y }) q s

-- ---- what waits on a stream that isn't open waits still

pub record WaitsOn (q r : Queue) : Type 0 where
  pub shut : (k : ℕ) → ((stream k q.streams).pause ≡ NotPaused → ⊥) → (stream k r.streams).pause ≡ NotPaused → ⊥
  pub waiting : (k p : ℕ) (m : Queued) → ((stream k q.streams).pause ≡ NotPaused → ⊥) → find p (messages_of q k) ≡ Some m → m.numbers ≡ None → find p (messages_of r k) ≡ Some m

-- whatever leads to such a queue may happen by the rules with epochs, as it begins no message of a later epoch
abbrev pub LeadsBegin : Type 0
LeadsBegin = (message : ℕ → Message) (lifecycle : ℕ → Option ℕ) (is_interleaved : Bool) (x : Epochs) (q r : Queue) (s t : Items) (emitted later : Emitted (List ℕ))
    → Invariant message is_interleaved x.transfer → SenderRefines message lifecycle is_interleaved x.transfer q s → ArePausedAs x q → WaitsOn q r
    → (l : SenderLeadsTo message lifecycle is_interleaved x.transfer emitted r t later)
    → MayAll message is_interleaved x (map transfers l.leads.events) × (go_all message is_interleaved x (map transfers l.leads.events) ≡ record x { transfer = l.after })

-- ---- before anything is sent

-- no stream was ever reset
pub record NoneIsReset (x : Epochs) : Type 0 where
  pub first : (p : ℕ) → x.epoch p ≡ 0
  pub raised : (k : ℕ) → x.raised k ≡ 0
  pub opened : (k : ℕ) → x.opened k ≡ 0
  pub requests : x.requests ≡ []

pub record BeginningFollows : Type 0 where
  pub new : (o : Options) (s : Items) → FollowsEpochs first_epoch (queue o) s
  pub none : NoneIsReset first_epoch
  -- acceptance leaves it so
  pub accepting : (message : ℕ → Message) (is_interleaved : Bool) (x : Epochs) → NoneIsReset x → NoneIsReset (goes message is_interleaved x (transfers accept))
  -- an association begins, in either mode, with the queue as it is or anew
  pub mode : (message : ℕ → Message) (lifecycle : ℕ → Option ℕ) (is_interleaved is_partial : Bool) (n : ℕ) (x : Epochs) (q : Queue) (s t : Items)
      → SenderRefines message lifecycle false (waiting n) q (no_items false false) → NoneIsReset x → FollowsEpochs x q s → FollowsEpochs x (set_mode is_interleaved q) t
  pub anew : (x : Epochs) (q : Queue) (s t : Items) → NoneIsReset x → FollowsEpochs x q s → FollowsEpochs x (reset q) t
  pub anew_mode : (is_interleaved : Bool) (x : Epochs) (q : Queue) (s t : Items) → NoneIsReset x → FollowsEpochs x q s → FollowsEpochs x (set_mode is_interleaved (reset q)) t

-- ---- calls that change the queue

abbrev pub AcceptingFollows : Type 0
AcceptingFollows = InEachFollowed (λ message lifecycle is_interleaved x q s.
    (expires : Option ℕ) (limit : ℕ) → FollowsEpochs (goes message is_interleaved x (transfers accept))
    (add (stream_of message x.transfer.sender.accepted) (offered_entry message lifecycle x.transfer.sender.accepted expires limit) q) s.outstanding.items)

abbrev pub SettingFollows : Type 0
SettingFollows = InEachFollowed (λ message lifecycle is_interleaved x q s.
    (id n : ℕ) (emitted : Emitted (List ℕ)) → FollowsEpochs x (set_priority id n q) s.outstanding.items × FollowsEpochs x (set_low_threshold id n q emitted).queue s.outstanding.items)

-- the messages that a reset drops are given up, each with its record
pub record PreparesLead {P : Type 0} (message : ℕ → Message) (lifecycle : ℕ → Option ℕ) (is_interleaved : Bool) (x : Transfer) (q : Queue) (s : Items) (id : ℕ) (emitted : Emitted P) : Type 0 where
  pub leads : SenderLeadsTo message lifecycle is_interleaved x emitted (prepare_reset id q emitted).queue s (prepare_reset id q emitted).emitted
  pub gives_up : leads.leads.events ≡ give_up_rules (unsent_of q id)
  pub leads_to : leads.after ≡ run message is_interleaved x (give_up_rules (unsent_of q id))
  pub places_are : leads.places ≡ unsent_of q id

abbrev pub PreparingLeads : Type 0
PreparingLeads = InEachState (λ message lifecycle is_interleaved x q s. (id : ℕ) (emitted : Emitted (List ℕ)) → PreparesLead message lifecycle is_interleaved x q s.outstanding.items id emitted)

pub record PreparesFollow {P : Type 0} (message : ℕ → Message) (is_interleaved : Bool) (x : Epochs) (q : Queue) (s : Items) (id : ℕ) (emitted : Emitted P) : Type 0 where
  pub may : MayAll message is_interleaved x (prepare_events q id)
  pub transfer_is : (go_all message is_interleaved x (prepare_events q id)).transfer ≡ run message is_interleaved x.transfer (give_up_rules (unsent_of q id))
  pub follows : FollowsEpochs (go_all message is_interleaved x (prepare_events q id)) (prepare_reset id q emitted).queue s

abbrev pub PreparingFollows : Type 0
PreparingFollows = InEachFollowed (λ message lifecycle is_interleaved x q s. (id : ℕ) (emitted : Emitted (List ℕ)) → PreparesFollow message is_interleaved x q s.outstanding.items id emitted)

-- ---- a request, and its answer

-- what is numbered next is the count of the fragments: so a request names the last one before it
abbrev pub NextIsCounted : Type 0
NextIsCounted = InEachState (λ message lifecycle is_interleaved x q s. next_number s.outstanding.items ≡ origin + count x.sender)

-- the streams that go into a request are ready, each of them once
abbrev pub RequestedAreReady : Type 0
RequestedAreReady = (q : Queue) (most : ℕ) → are_ascending 0 q.streams.entries ≡ true → AreEach Paused q (streams_to_request most q)

pub record RequestsFollow (message : ℕ → Message) (lifecycle : ℕ → Option ℕ) (is_interleaved : Bool) (x : Epochs) (q : Queue) (s : Items) (most : ℕ) : Type 0 where
  pub may : MayAll message is_interleaved x (map send_request (streams_to_request most q))
  pub transfer_is : (go_all message is_interleaved x (map send_request (streams_to_request most q))).transfer ≡ x.transfer
  pub follows : FollowsEpochs (go_all message is_interleaved x (map send_request (streams_to_request most q))) (request_resets most q) (begin_reset s)
  pub refines : SenderRefines message lifecycle is_interleaved x.transfer (request_resets most q) (begin_reset s)
  -- they wait for its answer
  pub asked : AreEach Resetting (request_resets most q) (streams_to_request most q)

abbrev pub RequestingFollows : Type 0
RequestingFollows = InEachFollowed (λ message lifecycle is_interleaved x q s. (most : ℕ) → RequestsFollow message lifecycle is_interleaved x q s.outstanding.items most)

pub record AnswerFollows (message : ℕ → Message) (is_interleaved : Bool) (x : Epochs) (q : Queue) (s : Items) (ids : List ℕ) : Type 0 where
  pub may : MayAll message is_interleaved x (map commit ids)
  pub transfer_is : (go_all message is_interleaved x (map commit ids)).transfer ≡ restart_numbers ids x.transfer
  pub follows : FollowsEpochs (go_all message is_interleaved x (map commit ids)) (commit_resets ids q) s

-- of streams that wait for it, and that were reset by the receiver
abbrev pub AnsweringFollows : Type 0
AnsweringFollows = InEachFollowed (λ message lifecycle is_interleaved x q s.
    (ids : List ℕ) → AreEach Resetting q ids → ((id : ℕ) → IsAmong id ids → x.raised id ≤ x.performed id) → AnswerFollows message is_interleaved x q s.outstanding.items ids)

-- ---- packets

abbrev pub SendingFollows : Type 0
SendingFollows = InEachFollowed (λ message lifecycle is_interleaved x q s.
    (now most : ℕ) (emitted : Emitted (List ℕ)) (l : SenderSends message lifecycle is_interleaved x.transfer now most s q emitted)
    → LeadsInEpochs message is_interleaved x l.leads.leads.events l.leads.after (send now most s q emitted).queue (send now most s q emitted).sender.outstanding.items)

abbrev pub FastFollows : Type 0
FastFollows = InEachFollowed (λ message lifecycle is_interleaved x q s. (now most : ℕ) → FollowsEpochs x q (send_fast now most s).outstanding.items)

-- a SACK: fragments leave, and then messages may be given up
abbrev pub SackFollows : Type 0
SackFollows = InEachFollowed (λ message lifecycle is_interleaved x q s.
    (now cumulative c a_rwnd : ℕ) (blocks : List GapAckBlock) (emitted : Emitted (List ℕ))
    → is_valid cumulative blocks s.outstanding.items ≡ true → cumulative + 1 ≡ origin + c → IsAmong c x.transfer.sacks
    → (h : ReceivesSack message lifecycle is_interleaved x.transfer q (leaving cumulative s.outstanding.items) c emitted (handle_sack now cumulative a_rwnd blocks s emitted).outstanding.items (step_of cumulative blocks s emitted).emitted)
    → LeadsInEpochs message is_interleaved x (replicate (leaving cumulative s.outstanding.items) (acknowledge_next c) ++ h.losses.leads.events) h.losses.after q (handle_sack now cumulative a_rwnd blocks s emitted).outstanding.items)

-- ---- what changes the items alone

abbrev pub ItemsFollow : Type 0
ItemsFollow = InEachFollowed (λ message lifecycle is_interleaved x q s.
    (t : Items) (emitted later : Emitted (List ℕ)) → t.breaks ≡ s.outstanding.items.breaks → (l : SenderLeadsTo message lifecycle is_interleaved x.transfer emitted q t later)
    → LeadsInEpochs message is_interleaved x l.leads.events l.after q t)

pub record BreaksAreKept : Type 0 where
  pub message : (p : ℕ) (s : Items) → (abandon_message p s).breaks ≡ s.breaks
  pub losses : (indication : MissIndication) (fast : Bool) (n : ℕ) (s : Items) (emitted : Emitted (List ℕ)) → (nack_below indication fast n (first_step s emitted)).items.breaks ≡ s.breaks
  pub timeout : (now : ℕ) (s : Sender) (emitted : Emitted (List ℕ))
      → (timed_out_sender now (nack_all s.outstanding.items emitted).items s).outstanding.items.breaks ≡ s.outstanding.items.breaks
  pub lifetimes : (now n : ℕ) (s : Items) (emitted : Emitted (List ℕ)) → (expire_below now n (first_step s emitted)).items.breaks ≡ s.breaks
  pub expiry : (now : ℕ) (s : Sender) (emitted : Emitted (List ℕ)) → (abandon_expired now s emitted).outstanding.items.breaks ≡ s.outstanding.items.breaks

-- ---- what the receiver does

pub record IsOthers (x y : Epochs) : Type 0 where
  pub epoch : y.epoch ≡ x.epoch
  pub raised : y.raised ≡ x.raised
  pub opened : y.opened ≡ x.opened
  pub requests : y.requests ≡ x.requests
  pub acknowledged : y.transfer.acknowledged ≡ x.transfer.acknowledged

abbrev pub OthersFollow : Type 0
OthersFollow = (x y : Epochs) (q : Queue) (s : Items) → IsOthers x y → FollowsEpochs x q s → FollowsEpochs y q s
