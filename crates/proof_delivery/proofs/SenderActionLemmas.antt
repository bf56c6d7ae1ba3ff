-- Each action of the sender's end leaves one direction at a later state of the rules.
use Rattle.std.proofs.Common.{◌≡◌, inl, inr, ℕ, ◌+◌, ◌-◌, ◌^◌, ◌<◌, ◌≤◌, ◌==◌, ◌||◌, Bool, true, false, Option, Some, None, List, [], ◌∷◌, ◌++◌, length, replicate, take, slice_get, All, refl, sym, ap, subst, ◌∙◌, append-nil, arith}
use Rattle.std.proofs.lemmas.List.Elements.{All-nil}
use Rattle.std.proofs.lemmas.Bool.{or_left}
use Rattle.sctp_serial.specs.Messages as messages
use Rattle.sctp_packet.specs.Chunk.{ChunkTree}
use Rattle.sctp_packet.specs.Packet.{PacketTree}
use Rattle.sctp_state.specs.declared.api.ErrorKind.TheVariants.{ParseFailed}
use Rattle.sctp_state.specs.Options.{Options}
use Rattle.sctp_capabilities.specs.Capabilities.{agreed}
use Rattle.sctp_state.specs.declared.api.errors.SendError.{SendError}
use Rattle.sctp_state.specs.declared.api.errors.ResetStreamsError.{ResetStreamsError}
use Rattle.sctp_state.specs.Events.{Event, Emitted, OnError}
use Rattle.sctp_capabilities.proofs.CapabilitiesLemmas.{agreed_exchanged}
use Rattle.sctp_tx_queue.specs.SendQueue.{Queue}
use Rattle.proof_protocol.specs.State.{Message, count}
use Rattle.proof_protocol.specs.Resets.{Epochs, ResetEvent}
use Rattle.proof_protocol.specs.Based.{InEpochs, Bracketed}
use Rattle.proof_protocol.proofs.EpochLawsLemmas.{bracketed}
use Rattle.proof_refines.specs.Reachable.{recorded_places, delivered_ids}
use Rattle.spec_endpoint.specs.Association.{State, Closed, CookieWait, Open, Context, Endpoint, where_open}
use Rattle.spec_endpoint.specs.Calls.{ready_in, message_taken_in, send_refusal_of, sent_unless}
use Rattle.spec_endpoint.specs.Opening.{emit_parse_error}
use Rattle.spec_endpoint.specs.Input.{packet_refusal, count_packet_at, packet_unless}
use Rattle.spec_endpoint.specs.Laws.{Call, Connect, Close, Shutdown, Send, SendMany, ResetStreams, TakeMessage, SetLowThreshold, SetPriority, SetMaxMessageSize, Advance, HandOver, Restore, ReceivePacket, ReceiveNoPacket, called, ending, endings, ends, endings_in_call}
use Rattle.spec_endpoint.specs.Sending.{send_in}
use Rattle.spec_endpoint.specs.StreamReset.{reset_refusal, streams_reset_unless}
use Rattle.proof_endpoint.specs.Mapped.{Carried}
use Rattle.proof_endpoint.proofs.LawsLemmas.{emits_endings}
use Rattle.proof_endpoint.proofs.EmitsLemmas.{endings_append}
use Rattle.proof_endpoint.specs.Acts.{EndWithPacket, calm, end_of, HasNoEnd, PreservesUntilEnd}
use Rattle.proof_pair.specs.Trace.{Side, emitted_packets, EndAction, Calls, Gives, Refuses, as_received, give_carried, foreign_if, act, MayCall, MayAct, AreValidOptions, state_of}
use Rattle.spec_endpoint.specs.Packets.{packets_in}
use Rattle.proof_pair.proofs.UntilLemmas.{until_first_end}
use Rattle.proof_pair.proofs.JoinActsLemmas.{Setting, InvAt}
use Rattle.proof_pair.proofs.JoinKeepsLemmas.{Rules}
use Rattle.proof_pair.proofs.TraceLemmas.{setting, begins, rules_call, rules_given, Halves, none_of}
use Rattle.proof_pair.proofs.HandingActsLemmas.{Readies, readies}
use Rattle.proof_pair.proofs.HandingLemmas.{hands}
use Rattle.proof_pair.proofs.AskedLemmas.{is_offer}
use Rattle.proof_delivery.specs.Accepted.{AcceptedMessage, accepted_by, accepted_in}
use Rattle.proof_delivery.specs.GivenUp.{pending_emitted, emitted_given, emitted_foreign, emitted_by, given_up_by}
use Rattle.proof_delivery.specs.Windows.{Stamp, IsYoung, IsTimely, IsWithin, queue_of, numbered_count, left_count, stamp_packets}
use Rattle.proof_delivery.specs.Justified.{reset_unless, reset_by}
use Rattle.proof_delivery.specs.Answered.{numbered_before, performed_in}
use Rattle.proof_delivery.specs.StreamEpochs.{shut_streams, reopen, performed_of, epochs_of, failed_in}
use Rattle.proof_delivery.proofs.ClaimLemmas.{Direction, transfer_of, goes_out, GoesOn, SaysOut, first_out, first_in, AreSo, SendsIn, ReceivesIn, SenderClaim, ReceivesSacks, SenderGoes, SenderPremises, ReceiverGoes, ReceiverPremises}
use Rattle.proof_delivery.proofs.FrameLemmas.{is_other, KeepsJoined, Joined, not_other, frame, joined_call}
use Rattle.proof_delivery.proofs.SenderToolLemmas.{goes_none, goes_on, reports_none}
use Rattle.proof_delivery.proofs.ResetEventsLemmas.{resets_in, performed_counts, performed_names, failed_still}
use Rattle.proof_delivery.proofs.TraceResetLemmas.{emitted_turned, asked_again}
use Rattle.proof_delivery.proofs.ResetCallLemmas as calls
use Rattle.proof_delivery.proofs.WithinLemmas.{numbered_is, left_is, Holds}
use Rattle.proof_delivery.proofs.DirectionLemmas.{least_out, AtStamp, each_at, IsUnderWay, says_in, Stands, SoFar, Flows, IsSilent}
use Rattle.proof_delivery.proofs.PremisesLemmas.{IsNoPacket, receives_no_sacks, receives_sacks, holds_of, sender_premises, begins_out}
use Rattle.proof_delivery.proofs.ActionLemmas.{AreOffered, Offers, offers_none, Stay, is_outgoing, outgoing, so_again, after_action, so_far_then, ends_out}
use Rattle.proof_delivery.proofs.AccountLemmas.{Accounted, accounts_still, accounts_out}

-- ---- what becomes ready is of its epoch

module _ (message : ℕ → Message) (is_interleaved : Bool) where
  pub goes_bracketed : (kind : ResetEvent → Bool) (x y : Direction) → InEpochs message is_interleaved x.rules → GoesOn message is_interleaved kind x y → Bracketed message x.rules y.rules
  goes_bracketed kind x y k g = subst (λ (z : Epochs). Bracketed message x.rules z) g.leads (bracketed message is_interleaved g.events x.rules k g.may)

-- ---- what is offered

-- these are accepted, and fragments go out
pub record OffersOut (message : ℕ → Message) (lifecycle : ℕ → Option ℕ) (is_interleaved : Bool) (x : Direction) (os : List AcceptedMessage) (m : EndWithPacket Carried) : Type 0 where
  pub mid : Direction
  pub offers : Offers message is_interleaved (length os) x mid
  pub to : Direction
  pub claim : SenderClaim message lifecycle is_interleaved mid [] m to

-- ---- what each act preserves

pub record PreservedByActs (message : ℕ → Message) (lifecycle : ℕ → Option ℕ) (is_interleaved : Bool) : Type 0 where
  pub stay : Stay message lifecycle is_interleaved
  pub sender_keeps : (g : Setting) (call : Call) (from : Direction) → SenderPremises message lifecycle is_interleaved g call from
      → KeepsJoined g call (SenderGoes message lifecycle is_interleaved from)
  pub receiver_keeps : (g : Setting) (call : Call) (from : Direction) (handed : List messages.Message) → ReceiverPremises message lifecycle is_interleaved g call from
      → KeepsJoined g call (ReceiverGoes message lifecycle is_interleaved from handed)
  -- a message is handed out
  pub taken_out : (o : Options) (s : State) (q : Queue) (x : Direction) → SendsIn message lifecycle is_interleaved s q x → SendsIn message lifecycle is_interleaved (message_taken_in o s) q x
  pub taken_in_turn : (o : Options) (s : State) (handed : List messages.Message) (x : Direction) → ReceivesIn message is_interleaved s handed x
      → ReceivesIn message is_interleaved (message_taken_in o s) (handed ++ take 1 (ready_in s)) x
  -- messages are offered
  pub offered_out : (g : Setting) (call : Call) (x : Direction) (s : Side) → Rules g call → is_offer call ≡ true → SenderPremises message lifecycle is_interleaved g call x
      → AreOffered message lifecycle (transfer_of x).sender.accepted (accepted_by call s) → (transfer_of x).sender.accepted + length (accepted_by call s) < 2 ^ 32
      → HasNoEnd (calm (called call s.end)) → InvAt g (calm s.end) → IsSilent s → SendsIn message lifecycle is_interleaved (state_of s) (queue_of s) x
      → OffersOut message lifecycle is_interleaved x (accepted_by call s) (calm (called call s.end))
  pub offered_in : (g : Setting) (call : Call) (x : Direction) (s : Side) (handed : List messages.Message) → Rules g call → is_offer call ≡ true
      → ReceiverPremises message lifecycle is_interleaved g call x → HasNoEnd (calm (called call s.end)) → InvAt g (calm s.end)
      → ReceiverGoes message lifecycle is_interleaved x handed (calm s.end) (calm (called call s.end))

-- ---- where an action leads

-- of the sender, which emitted before what `before` did, and gave these up meanwhile
pub record DirectionAfterAction (message : ℕ → Message) (lifecycle : ℕ → Option ℕ) (is_interleaved : Bool) (of : Stamp → ℕ) (s r : Side) (accepted : ℕ)
    (handed : List messages.Message) (stamps_s stamps_r : List Stamp) (so_far : SoFar) (x : Direction) (before : Side) (by : List ℕ) : Type 0 where
  pub to : Direction
  pub flows : Flows message lifecycle is_interleaved of s r accepted handed stamps_s stamps_r so_far to
  pub bracketed : Bracketed message x.rules to.rules
  pub accounts : (abandoned : List ℕ) → Accounted lifecycle before abandoned x → Accounted lifecycle s (abandoned ++ by) to

-- what the trace says then
abbrev pub so_far_after_action : EndAction → (s r : Side) → SoFar → SoFar
so_far_after_action t s r k = record {
  streams = reopen (performed_of (emitted_by t s r).events) (shut_streams (reset_by t s) k.streams);
  epochs = k.epochs ++ epochs_of (accepted_in t s) k.streams;
  asked = numbered_before (state_of s) (state_of (act t s r)) k.asked;
}

-- it may say the same in other words
pub flows_again : (message : ℕ → Message) (lifecycle : ℕ → Option ℕ) (is_interleaved : Bool) (of : Stamp → ℕ) (s r : Side) (accepted : ℕ) (handed : List messages.Message)
    (stamps_s stamps_r : List Stamp) (k l : SoFar) (x : Direction) → ((n : ℕ) → l.streams n ≡ k.streams n) → l.epochs ≡ k.epochs → l.asked ≡ k.asked
    → Flows message lifecycle is_interleaved of s r accepted handed stamps_s stamps_r k x → Flows message lifecycle is_interleaved of s r accepted handed stamps_s stamps_r l x
flows_again message lifecycle is_interleaved of s r accepted handed stamps_s stamps_r k l x streams epochs asked f = record {
  kept = f.kept;
  filled = f.filled;
  short = f.short;
  sends = f.sends;
  refines = f.refines;
  accepted_is = f.accepted_is;
  out = f.out;
  answers = f.answers;
  streams = so_again k.streams l.streams x.rules streams f.streams;
  many = ap (λ (ns : List ℕ). length ns) epochs ∙ f.many;
  epochs = λ p n h. f.epochs p n (sym (ap (λ (ns : List ℕ). slice_get ns p) epochs) ∙ h);
  asked = λ a h. subst (λ (n : ℕ). n ≤ a.upto) (sym asked) (f.asked a h);
  answered = f.answered;
  performed = f.performed;
  none_failed = f.none_failed;
}

pub none_more : (ps : List Carried) (now : Stamp) (ss : List Stamp) → ss ++ replicate (length ps - length ps) now ≡ ss
none_more ps now ss = ap (λ (n : ℕ). ss ++ replicate n now) (zero_less (length ps)) ∙ append-nil ss
  where
    zero_less : (n : ℕ) → n - n ≡ 0
    zero_less n = omega arith

-- ---- what a call emits up to an end

same_first : (e f : Event Carried) (es fs : List (Event Carried)) → e ∷ es ≡ f ∷ fs → e ≡ f
same_first e f es fs h = ap (λ (l : List (Event Carried)). elim l [ [] ↦ e | z ∷ zs ↦ z ]) h

same_rest : (e f : Event Carried) (es fs : List (Event Carried)) → e ∷ es ≡ f ∷ fs → es ≡ fs
same_rest e f es fs h = ap (λ (l : List (Event Carried)). elim l [ [] ↦ es | z ∷ zs ↦ zs ]) h

-- in front of the first end of an association stands what the end at work had emitted
up_to : (a : List (Event Carried)) (e : Event Carried) (more early late : List (Event Carried)) → a ++ e ∷ more ≡ early ++ late → ending e ≡ 1 → endings early ≡ 0
    → (rest : List (Event Carried)) × (a ≡ early ++ rest)
up_to a e more [] late h is none = (a, refl)
up_to [] e more (f ∷ early) late h is none =
    let same : ending e ≡ ending f = ap (λ (z : Event Carried). ending z) (same_first e f more (early ++ late) h) in absurd (omega (arith, none, same, is))
up_to (g ∷ a) e more (f ∷ early) late h is none =
    let r = up_to a e more early late (same_rest g f (a ++ e ∷ more) (early ++ late) h) is (omega (arith, none)) in
    (r.0, ap (λ (z : Event Carried). z ∷ a) (same_first g f (a ++ e ∷ more) (early ++ late) h) ∙ ap (λ (es : List (Event Carried)). f ∷ es) r.1)

-- two relations at once
both_kept : {call : Call} {R S : EndWithPacket Carried → EndWithPacket Carried → Type 0} → PreservesUntilEnd call R → PreservesUntilEnd call S → PreservesUntilEnd call (λ a b. R a b × S a b)
both_kept k l = record {
  same = λ m. (k.same m, l.same m);
  through = λ {a} {b} {c} f g. (k.through f.0 g.0, l.through f.1 g.1);
  packets = λ act none. (k.packets act none, l.packets act none);
  opening = λ act none. (k.opening act none, l.opening act none);
  closing = λ act none. (k.closing act none, l.closing act none);
  data_acts = λ act none. (k.data_acts act none, l.data_acts act none);
  acknowledging = λ act none. (k.acknowledging act none, l.acknowledging act none);
  sending = λ act none. (k.sending act none, l.sending act none);
  time = λ act none. (k.time act none, l.time act none);
  calls = λ act none. (k.calls act none, l.calls act none);
  resets = λ act none. (k.resets act none, l.resets act none);
  handover = λ act none. (k.handover act none, l.handover act none);
  input = λ act none. (k.input act none, l.input act none);
}

-- a call that leaves an end open, or closed as it was, ends nothing
none_emitted : (call : Call) (x : Side) → IsSilent x → endings_in_call call x.end ≡ 0 → endings (pending_emitted (called call x.end)).events ≡ 0
none_emitted call x quiet none =
    let t = emits_endings call x.end in
    ap (λ (es : List (Event Carried)). endings es) (t.behind ∙ ap (λ (z : Emitted Carried). z.events ++ t.events) quiet.emitted) ∙ (t.counted ∙ none)

open_stays : (s : State) (c : Context Carried) → ends s (where_open send_in (record { state = s; context = c })).state ≡ 0
open_stays Closed c = refl
open_stays (CookieWait tag first t1) c = refl
open_stays (Open phase t) c = refl

sent_stays : (o : Option SendError) (s : State) (c : Context Carried) → ends s (sent_unless o (record { state = s; context = c })).state ≡ 0
sent_stays None s c = open_stays s c
sent_stays (Some e) Closed c = refl
sent_stays (Some e) (CookieWait tag first t1) c = refl
sent_stays (Some e) (Open phase t) c = refl

taken_stays : (o : Options) (s : State) → ends s (message_taken_in o s) ≡ 0
taken_stays o Closed = refl
taken_stays o (CookieWait tag first t1) = refl
taken_stays o (Open phase t) = refl

reset_stays : (o : Option ResetStreamsError) (ids : List ℕ) (s : State) (c : Context Carried) → ends s (streams_reset_unless o ids (record { state = s; context = c })).state ≡ 0
reset_stays None ids s c = open_stays s _
reset_stays (Some e) ids Closed c = refl
reset_stays (Some e) ids (CookieWait tag first t1) c = refl
reset_stays (Some e) ids (Open phase t) c = refl

-- what names no reset
none_performed : (es : List (Event Carried)) → resets_in es ≡ [] → performed_in es ≡ 0
none_performed es none = sym (performed_counts es) ∙ ap (λ (fs : List (Event Carried)). performed_in fs) none

none_named : (es : List (Event Carried)) → resets_in es ≡ [] → performed_of es ≡ []
none_named es none = sym (performed_names es) ∙ ap (λ (fs : List (Event Carried)). performed_of fs) none

none_fails : (es : List (Event Carried)) → resets_in es ≡ [] → failed_in es ≡ false
none_fails es none = sym (failed_still es) ∙ ap (λ (fs : List (Event Carried)). failed_in fs) none

module _ (message : ℕ → Message) (lifecycle : ℕ → Option ℕ) (is_interleaved : Bool) (of : Stamp → ℕ) (parts : PreservedByActs message lifecycle is_interleaved) (o q : Options) (own : AreValidOptions o)
    (other : AreValidOptions q) (mode : is_interleaved ≡ (agreed o q).message_interleaving) (s r : Side) (h : Halves o q s r) (quiet_s : IsSilent s) (quiet_r : IsSilent r)
    (within : IsWithin (state_of s) (queue_of s)) (accepted : ℕ) (handed : List messages.Message) (stamps_s stamps_r : List Stamp) (so_far : SoFar) (x : Direction)
    (f : Flows message lifecycle is_interleaved of s r accepted handed stamps_s stamps_r so_far x) (few_performed : performed_in s.emitted < 2 ^ 32 - 1)
    (now left : Stamp) (at_now : of now ≡ numbered_count (state_of s)) (at_left : of left ≡ left_count (state_of s) + 2 ^ 30) (young : (old : Stamp) → IsYoung now old → of now < of old + 2 ^ 31) where
  pub holds : Holds message lifecycle is_interleaved x (queue_of s) f.kept
  holds = holds_of message lifecycle is_interleaved of o q s r accepted handed stamps_s stamps_r so_far x f within

  pub counted : of now ≡ count (transfer_of x).sender
  counted = at_now ∙ numbered_is message lifecycle is_interleaved (state_of s) (queue_of s) x f.sends

  acknowledged : least_out of left ≡ (transfer_of x).acknowledged
  acknowledged = let l = left_is message lifecycle is_interleaved (state_of s) (queue_of s) x f.sends in omega (arith, at_left, l)

  pub mode_back : is_interleaved ≡ (agreed q o).message_interleaving
  mode_back = mode ∙ sym (ap (λ c. c.message_interleaving) (agreed_exchanged o q))

  pub young_now : (old : Stamp) → IsYoung now old → count (transfer_of x).sender < of old + 2 ^ 31
  young_now old y = let l = young old y in omega (arith, counted, l)

  -- ---- the sender's action

  abbrev pub Out : Side → List AcceptedMessage → SoFar → List ℕ → Type 0
  Out t os then by = DirectionAfterAction message lifecycle is_interleaved of t r (accepted + length os) handed (stamp_packets s t left stamps_s) stamps_r then x s by

  -- nothing is done yet
  start : SenderClaim message lifecycle is_interleaved x [] (calm s.end) x
  start = begins_out message lifecycle is_interleaved of o q s r accepted handed stamps_s stamps_r so_far x f quiet_s

  premises_out : (asked : Bool) (call : Call) → ReceivesSacks call (first_in (state_of r)) x → SenderPremises message lifecycle is_interleaved (setting o q s r asked) call x
  premises_out asked call receives = sender_premises message lifecycle is_interleaved of o q s r accepted handed stamps_s stamps_r so_far x f asked call own mode few_performed receives

  none_received : (call : Call) → IsNoPacket call → ReceivesSacks call (first_in (state_of r)) x
  none_received call plain = receives_no_sacks message is_interleaved (first_in (state_of r)) x call plain holds.windows

  still_out : (n : ℕ) → n ≡ so_far.asked → Out s [] (record { streams = reopen [] (shut_streams [] so_far.streams); epochs = so_far.epochs ++ []; asked = n }) []
  still_out n same = record {
    to = x;
    flows = flows_again message lifecycle is_interleaved of s r (accepted + 0) handed (stamp_packets s s left stamps_s) stamps_r so_far
        (record { streams = reopen [] (shut_streams [] so_far.streams); epochs = so_far.epochs ++ []; asked = n }) x (λ k. refl) (append-nil so_far.epochs) same
        (subst (λ (ss : List Stamp). Flows message lifecycle is_interleaved of s r (accepted + 0) handed ss stamps_r so_far x) (sym (none_more (emitted_packets s) left stamps_s))
        (subst (λ (n : ℕ). Flows message lifecycle is_interleaved of s r n handed stamps_s stamps_r so_far x) (plus_none accepted) f));
    bracketed = goes_bracketed message is_interleaved is_outgoing x x f.kept.epochs (goes_none message is_interleaved is_outgoing x);
    accounts = λ abandoned a. accounts_still lifecycle s abandoned x a;
  }
    where
      plus_none : (n : ℕ) → n ≡ n + 0
      plus_none n = omega arith

  -- where these streams were to be reset
  claim_out : (asked : Bool) (prepared : List ℕ) (e : Endpoint Carried) (y : Direction) → SenderClaim message lifecycle is_interleaved x prepared (calm e) y → Stands (state_of s) e.endpoint_state.state
      → Out (after_action asked e s) [] (so_far_then so_far s e [] prepared) (recorded_places (pending_emitted e))
  claim_out asked prepared e y c stands =
      let none : Offers message is_interleaved 0 x x = offers_none message is_interleaved x f.kept in
      record {
        to = y;
        flows = ends_out message lifecycle is_interleaved of parts.stay s r accepted handed stamps_s stamps_r so_far x f left asked acknowledged [] prepared x y e none tt c stands;
        bracketed = goes_bracketed message is_interleaved goes_out x y f.kept.epochs c.goes;
        accounts = λ abandoned a. accounts_out message lifecycle is_interleaved s abandoned x a 0 prepared x y e asked none c;
      }

  joined_out : (asked : Bool) (call : Call) → Rules (setting o q s r asked) call → is_other call ≡ true → (s.got_init ≡ true → asked ≡ true)
      → HasNoEnd (calm (called call s.end)) → ReceivesSacks call (first_in (state_of r)) x → Stands (state_of s) (called call s.end).endpoint_state.state
      → Out (after_action asked (called call s.end) s) [] (so_far_then so_far s (called call s.end) [] []) (recorded_places (pending_emitted (called call s.end)))
  joined_out asked call rules other_call le none receives stands =
      let g : Setting = setting o q s r asked in
      let goes : SenderGoes message lifecycle is_interleaved x (calm s.end) (calm (called call s.end)) =
      (joined_call g call rules other_call (parts.sender_keeps g call x (premises_out asked call receives)) s.end none (begins o q s r asked le h.own h.other)).1 in
      let c = goes [] x start in
      claim_out asked [] (called call s.end) c.0 c.1 stands

  offered_out : (call : Call) → Rules (setting o q s r s.got_init) call → is_offer call ≡ true → IsNoPacket call
      → AreOffered message lifecycle accepted (accepted_by call s) → accepted + length (accepted_by call s) < 2 ^ 32
      → HasNoEnd (calm (called call s.end)) → Stands (state_of s) (called call s.end).endpoint_state.state
      → Out (after_action s.got_init (called call s.end) s) (accepted_by call s) (so_far_then so_far s (called call s.end) (accepted_by call s) []) (recorded_places (pending_emitted (called call s.end)))
  offered_out call rules offer plain are few none stands =
      let g : Setting = setting o q s r s.got_init in
      let os : List AcceptedMessage = accepted_by call s in
      let c : OffersOut message lifecycle is_interleaved x os (calm (called call s.end)) =
      parts.offered_out g call x s rules offer (premises_out s.got_init call (none_received call plain))
      (subst (λ (n : ℕ). AreOffered message lifecycle n os) (sym f.accepted_is) are) (subst (λ (n : ℕ). n + length os < 2 ^ 32) (sym f.accepted_is) few)
      none (begins o q s r s.got_init (λ z. z) h.own h.other) quiet_s f.sends in
      record {
        to = c.to;
        flows = ends_out message lifecycle is_interleaved of parts.stay s r accepted handed stamps_s stamps_r so_far x f left s.got_init acknowledged os [] c.mid c.to (called call s.end)
            c.offers are c.claim stands;
        bracketed = goes_bracketed message is_interleaved is_outgoing x c.to f.kept.epochs (goes_on message is_interleaved is_outgoing x c.mid c.to c.offers.goes (outgoing message is_interleaved c.mid c.to c.claim.goes));
        accounts = λ abandoned a. accounts_out message lifecycle is_interleaved s abandoned x a (length os) [] c.mid c.to (called call s.end) s.got_init c.offers c.claim;
      }

  -- nothing happens that the rules see
  quietly_out : (m : EndWithPacket Carried) → SendsIn message lifecycle is_interleaved m.state m.context.queue x → recorded_places m.context.emitted ≡ []
      → delivered_ids m.context.emitted.events ≡ [] → packets_in m.context.emitted.events ≡ [] → resets_in m.context.emitted.events ≡ [] → m.packet.chunks ≡ [] → SenderClaim message lifecycle is_interleaved x [] m x
  quietly_out m shown given_up_is reports emitted resets made = record {
    kept = f.kept;
    goes = goes_none message is_interleaved goes_out x;
    done = refl;
    shown = shown;
    since = start.since;
    given_up = given_up_is;
    reported = reports_none lifecycle (transfer_of x) (transfer_of x) [] m.context.emitted.events refl reports;
    performed = let none = none_performed m.context.emitted.events resets in omega (arith, none);
    epochs = λ k so. subst (λ (ns : List ℕ). AreSo (reopen ns (shut_streams [] k)) x.rules) (sym (none_named m.context.emitted.events resets)) so;
    none_failed = none_fails m.context.emitted.events resets;
    emitted = subst (λ (ps : List Carried). All (λ (p : Carried). All (SaysOut message is_interleaved (first_out m.state) (transfer_of x).acknowledged x) p.chunks) ps) (sym emitted) (All-nil _);
    made = subst (λ (cs : List ChunkTree). All (SaysOut message is_interleaved (first_out m.state) (transfer_of x).acknowledged x) cs) (sym made) (All-nil _);
  }

  taken_out : Stands (state_of s) (message_taken_in s.end.endpoint_state.context.options (state_of s)) → Out (act (Calls TakeMessage) s r) [] (so_far_after_action (Calls TakeMessage) s r so_far) (given_up_by (Calls TakeMessage) s r)
  taken_out stands =
      claim_out s.got_init [] (called TakeMessage s.end) x
      (quietly_out (calm (called TakeMessage s.end)) (parts.taken_out s.end.endpoint_state.context.options (state_of s) (queue_of s) x f.sends) (ap (λ (t : Emitted Carried). recorded_places t) quiet_s.emitted)
      (ap (λ (t : Emitted Carried). delivered_ids t.events) quiet_s.emitted) (ap (λ (t : Emitted Carried). packets_in t.events) quiet_s.emitted)
      (ap (λ (t : Emitted Carried). resets_in t.events) quiet_s.emitted) refl) stands

  -- a packet is not taken for one
  refused_out : (p : PacketTree) (text : List ℕ) → called (ReceivePacket p) s.end ≡ emit_parse_error text (count_packet_at s.end)
      → Out (after_action s.got_init (called (ReceivePacket p) s.end) s) [] (so_far_then so_far s (called (ReceivePacket p) s.end) [] []) (recorded_places (pending_emitted (called (ReceivePacket p) s.end)))
  refused_out p text same =
      let e : Endpoint Carried = emit_parse_error text (count_packet_at s.end) in
      subst (λ (z : Endpoint Carried). Out (after_action s.got_init z s) [] (so_far_then so_far s z [] []) (recorded_places (pending_emitted z))) (sym same)
      (claim_out s.got_init [] e x
      (quietly_out (calm e) f.sends (ap (λ (t : Emitted Carried). recorded_places t) quiet_s.emitted)
      (ap (λ (t : Emitted Carried). delivered_ids (t.events ++ OnError ParseFailed text ∷ [])) quiet_s.emitted)
      (ap (λ (t : Emitted Carried). packets_in (t.events ++ OnError ParseFailed text ∷ [])) quiet_s.emitted)
      (ap (λ (t : Emitted Carried). resets_in (t.events ++ OnError ParseFailed text ∷ [])) quiet_s.emitted) refl) (λ a e. e))

  -- streams are to be reset, unless the end refuses
  reset_out : (ids : List ℕ) (refusal : Option ResetStreamsError) → reset_refusal (state_of s) ≡ refusal → MayCall (ResetStreams ids) s
      → HasNoEnd (calm (calls.reset_by refusal ids s.end)) → Stands (state_of s) (calls.reset_by refusal ids s.end).endpoint_state.state
      → Out (after_action s.got_init (calls.reset_by refusal ids s.end) s) [] (so_far_then so_far s (calls.reset_by refusal ids s.end) [] (reset_unless refusal ids))
      (recorded_places (pending_emitted (calls.reset_by refusal ids s.end)))
  reset_out ids (Some e) fine may none stands = claim_out s.got_init [] (calls.reset_by (Some e) ids s.end) x start stands
  reset_out ids None fine may none stands =
      let g : Setting = setting o q s r s.got_init in
      let quiet : Rules g ReceiveNoPacket = rules_call o q s r own other ReceiveNoPacket tt in
      let first = calls.claim_prepared message lifecycle is_interleaved x (state_of s) s.end.endpoint_state.context s.end.draws ids fine quiet_s.emitted x start in
      let goes : SenderGoes message lifecycle is_interleaved x (calls.preparing ids s.end) (calm (calls.reset_by None ids s.end)) =
      calls.then_reset g quiet (parts.sender_keeps g ReceiveNoPacket x (premises_out s.got_init ReceiveNoPacket (none_received ReceiveNoPacket (λ p e. cc)))) s.end ids
      (rules_call o q s r own other (ResetStreams ids) may) fine none (begins o q s r s.got_init (λ z. z) h.own h.other) in
      let c = goes ids first.0 first.1 in
      claim_out s.got_init ids (calls.reset_by None ids s.end) c.0 c.1 stands

  -- any call
  call_out : (call : Call) → MayCall call s → endings (act (Calls call) s r).emitted ≡ 0
      → AreOffered message lifecycle accepted (accepted_by call s) → accepted + length (accepted_by call s) < 2 ^ 32
      → Stands (state_of s) (state_of (act (Calls call) s r))
      → Out (act (Calls call) s r) (accepted_by call s) (so_far_after_action (Calls call) s r so_far) (given_up_by (Calls call) s r)
  call_out call may none are few stands = by_call call may are few stands (none_of s.emitted (called call s.end).endpoint_state.context.emitted.events none)
    where
      other_call : (call : Call) → is_other call ≡ true → IsNoPacket call → MayCall call s → Stands (state_of s) (state_of (act (Calls call) s r))
          → HasNoEnd (calm (called call s.end)) → Out (act (Calls call) s r) [] (so_far_then so_far s (called call s.end) [] []) (given_up_by (Calls call) s r)
      other_call call is plain may stands none =
          joined_out s.got_init call (rules_call o q s r own other call may) is (λ z. z) none (none_received call plain) stands

      by_call : (call : Call) → MayCall call s → AreOffered message lifecycle accepted (accepted_by call s)
          → accepted + length (accepted_by call s) < 2 ^ 32 → Stands (state_of s) (state_of (act (Calls call) s r)) → HasNoEnd (calm (called call s.end))
          → Out (act (Calls call) s r) (accepted_by call s) (so_far_after_action (Calls call) s r so_far) (given_up_by (Calls call) s r)
      by_call Connect may are few stands none = other_call Connect refl (λ p e. cc) may stands none
      by_call Close may are few stands none = other_call Close refl (λ p e. cc) may stands none
      by_call Shutdown may are few stands none = other_call Shutdown refl (λ p e. cc) may stands none
      by_call (Send m how) may are few stands none = offered_out (Send m how) (rules_call o q s r own other (Send m how) may) refl (λ p e. cc) are few none stands
      by_call (SendMany ms how) may are few stands none =
          offered_out (SendMany ms how) (rules_call o q s r own other (SendMany ms how) may) refl (λ p e. cc) are few none stands
      by_call (ResetStreams ids) may are few stands none = reset_out ids (reset_refusal (state_of s)) refl may none stands
      by_call TakeMessage may are few stands none = taken_out stands
      by_call (SetLowThreshold stream bytes) may are few stands none = other_call (SetLowThreshold stream bytes) refl (λ p e. cc) may stands none
      by_call (SetPriority stream priority) may are few stands none = other_call (SetPriority stream priority) refl (λ p e. cc) may stands none
      by_call (SetMaxMessageSize bytes) may are few stands none = other_call (SetMaxMessageSize bytes) refl (λ p e. cc) may stands none
      by_call (Advance n) may are few stands none = other_call (Advance n) refl (λ p e. cc) may stands none
      by_call HandOver may are few stands none = other_call HandOver refl (λ p e. cc) may stands none
      by_call (Restore k) may are few stands none = absurd may
      by_call (ReceivePacket p) may are few stands none = absurd may
      by_call ReceiveNoPacket may are few stands none = other_call ReceiveNoPacket refl (λ p e. cc) may stands none

  -- what the trace says, where that was emitted and the end is so
  abbrev so_emitted : Side → Emitted Carried → SoFar
  so_emitted t emitted = record {
    streams = reopen (performed_of emitted.events) (shut_streams [] so_far.streams);
    epochs = so_far.epochs ++ [];
    asked = numbered_before (state_of s) (state_of t) so_far.asked;
  }

  given_out : (p : Option Carried) (checksum n : ℕ) → slice_get (emitted_packets r) n ≡ p → ((old : Stamp) → slice_get stamps_r n ≡ Some old → IsYoung now old)
      → endings (give_carried p checksum s).emitted ≡ 0 → Stands (state_of s) (state_of (give_carried p checksum s))
      → Out (give_carried p checksum s) [] (so_emitted (give_carried p checksum s) (emitted_given p checksum s)) (recorded_places (emitted_given p checksum s))
  given_out None checksum n there timely none stands = still_out (numbered_before (state_of s) (state_of s) so_far.asked) (asked_again (state_of s) so_far.asked)
  given_out (Some p) checksum n there timely none stands =
      let a : AtStamp (λ stamp p. IsUnderWay (says_in message is_interleaved (first_in (state_of r))) x (of stamp) p) stamps_r n p =
      each_at (λ stamp p. IsUnderWay (says_in message is_interleaved (first_in (state_of r))) x (of stamp) p) (emitted_packets r) stamps_r n p there f.answers in
      joined_out (s.got_init || (p.header.verification_tag == 0)) (ReceivePacket (as_received p checksum)) (rules_given o q s r own other p checksum n there) refl
      (or_left s.got_init (p.header.verification_tag == 0)) (none_of s.emitted (called (ReceivePacket (as_received p checksum)) s.end).endpoint_state.context.emitted.events none)
      (receives_sacks message is_interleaved (first_in (state_of r)) x (of a.stamp) p checksum a.holds holds.windows (young_now a.stamp (timely a.stamp a.there))) stands

  foreign_out : (text : Option (List ℕ)) (p : PacketTree) → packet_refusal p.header.verification_tag p.chunks (state_of s) ≡ text
      → Out (foreign_if text p s) [] (so_emitted (foreign_if text p s) (emitted_foreign text p s)) (recorded_places (emitted_foreign text p s))
  foreign_out None p is = still_out (numbered_before (state_of s) (state_of s) so_far.asked) (asked_again (state_of s) so_far.asked)
  foreign_out (Some text) p is = refused_out p text (ap (λ (r : Option (List ℕ)). packet_unless r p.header.verification_tag p.chunks (count_packet_at s.end)) is)

  pub action_out : (t : EndAction) → MayAct t s → IsTimely t now stamps_r → endings (act t s r).emitted ≡ 0
      → AreOffered message lifecycle accepted (accepted_in t s) → accepted + length (accepted_in t s) < 2 ^ 32
      → Out (act t s r) (accepted_in t s) (so_far_after_action t s r so_far) (given_up_by t s r)
  action_out (Calls call) may timely none are few = call_out call may none are few (hands o q s r own other h (Calls call) may none).stands
  action_out (Gives which checksum) may timely none are few =
      given_out (slice_get (emitted_packets r) which) checksum which refl timely none (hands o q s r own other h (Gives which checksum) may none).stands
  action_out (Refuses p) may timely none are few = foreign_out (packet_refusal p.header.verification_tag p.chunks (state_of s)) p refl

  -- ---- where it ends an association, up to there

  -- a side that emitted what the action emits in front of an end, and maybe more
  pub record IsUntil (early : List (Event Carried)) (os : List AcceptedMessage) : Type 0 where
    pub side : Side
    pub then : SoFar
    pub by : List ℕ
    pub out : Out side os then by
    pub rest : List (Event Carried)
    pub emitted : side.emitted ≡ s.emitted ++ (early ++ rest)

  -- the packet that is put together isn't emitted
  set_aside : (m : EndWithPacket Carried) (y : Direction) → SenderClaim message lifecycle is_interleaved x [] m y → SenderClaim message lifecycle is_interleaved x [] (calm (end_of m)) y
  set_aside m y c = record {
    kept = c.kept;
    goes = c.goes;
    done = c.done;
    shown = c.shown;
    since = c.since;
    given_up = c.given_up;
    reported = c.reported;
    performed = c.performed;
    epochs = c.epochs;
    none_failed = c.none_failed;
    emitted = c.emitted;
    made = All-nil _;
  }

  joined_until : (asked : Bool) (call : Call) → Rules (setting o q s r asked) call → is_other call ≡ true → (s.got_init ≡ true → asked ≡ true)
      → ReceivesSacks call (first_in (state_of r)) x → (early late : List (Event Carried)) → (pending_emitted (called call s.end)).events ≡ early ++ late → endings early ≡ 0
      → IsUntil early []
  joined_until asked call rules other_call le receives early late is none =
      elim (until_first_end call both s.end (ap (λ (t : Emitted Carried). endings t.events) quiet_s.emitted)) [
        | inl whole ↦ here (calm (called call s.end)) whole.1 late is
        | inr first ↦ let rest = up_to first.here.context.emitted.events first.event first.more early late (sym first.emitted ∙ is) first.ends none in here first.here first.kept rest.0 rest.1
      ]
    where
      g : Setting
      g = setting o q s r asked

      premises : SenderPremises message lifecycle is_interleaved g call x
      premises = premises_out asked call receives

      takes_none : call ≡ TakeMessage → ⊥
      takes_none e = not_other call TakeMessage other_call e refl

      both : PreservesUntilEnd call (λ m n. Joined g (SenderGoes message lifecycle is_interleaved x) m n × Readies g call rules takes_none m n)
      both = both_kept (frame g call rules other_call (parts.sender_keeps g call x premises)) (readies g call rules takes_none)

      here : (m : EndWithPacket Carried) → Joined g (SenderGoes message lifecycle is_interleaved x) (calm s.end) m × Readies g call rules takes_none (calm s.end) m
          → (rest : List (Event Carried)) → m.context.emitted.events ≡ early ++ rest → IsUntil early []
      here m kept rest emitted =
          let inv : InvAt g (calm s.end) = begins o q s r asked le h.own h.other in
          let c = (kept.0 inv).1 [] x start in
          record {
            side = after_action asked (end_of m) s;
            then = so_far_then so_far s (end_of m) [] [];
            by = recorded_places m.context.emitted;
            out = claim_out asked [] (end_of m) c.0 (set_aside m c.0 c.1) (kept.1 inv).1.stands;
            rest = rest;
            emitted = ap (λ (es : List (Event Carried)). s.emitted ++ es) emitted;
          }

  pub action_until : (t : EndAction) → MayAct t s → IsTimely t now stamps_r → endings s.emitted ≡ 0
      → AreOffered message lifecycle accepted (accepted_in t s) → accepted + length (accepted_in t s) < 2 ^ 32
      → (early late : List (Event Carried)) → (emitted_by t s r).events ≡ early ++ late → endings early ≡ 0 → IsUntil early (accepted_in t s)
  action_until t may timely ended are few early late is none = by_turn t may timely are few is
    where
      -- an action that ends nothing
      whole : (t : EndAction) → MayAct t s → IsTimely t now stamps_r → AreOffered message lifecycle accepted (accepted_in t s)
          → accepted + length (accepted_in t s) < 2 ^ 32 → (emitted_by t s r).events ≡ early ++ late → endings (emitted_by t s r).events ≡ 0
          → IsUntil early (accepted_in t s)
      whole t may timely are few is quiet =
          let emitted : (act t s r).emitted ≡ s.emitted ++ (emitted_by t s r).events = emitted_turned t s r in
          let both = endings_append s.emitted (emitted_by t s r).events in
          let sum = ap (λ (es : List (Event Carried)). endings es) emitted in
          record {
            side = act t s r;
            then = so_far_after_action t s r so_far;
            by = given_up_by t s r;
            out = action_out t may timely (omega (arith, sum, both, ended, quiet)) are few;
            rest = late;
            emitted = emitted ∙ ap (λ (es : List (Event Carried)). s.emitted ++ es) is;
          }

      other_call : (call : Call) → is_other call ≡ true → IsNoPacket call → MayCall call s → (pending_emitted (called call s.end)).events ≡ early ++ late → IsUntil early []
      other_call call kind plain may is =
          joined_until s.got_init call (rules_call o q s r own other call may) kind (λ z. z)
          (none_received call plain) early late is none

      by_packet : (p : Option Carried) (checksum n : ℕ) → slice_get (emitted_packets r) n ≡ p → ((old : Stamp) → slice_get stamps_r n ≡ Some old → IsYoung now old)
          → (emitted_given p checksum s).events ≡ early ++ late → IsUntil early []
      by_packet None checksum n there timely is = record {
        side = s;
        then = record { streams = reopen [] (shut_streams [] so_far.streams); epochs = so_far.epochs ++ []; asked = so_far.asked };
        by = [];
        out = still_out so_far.asked refl;
        rest = late;
        emitted = sym (append-nil s.emitted) ∙ ap (λ (es : List (Event Carried)). s.emitted ++ es) is;
      }
      by_packet (Some p) checksum n there timely is =
          let a : AtStamp (λ stamp p. IsUnderWay (says_in message is_interleaved (first_in (state_of r))) x (of stamp) p) stamps_r n p =
          each_at (λ stamp p. IsUnderWay (says_in message is_interleaved (first_in (state_of r))) x (of stamp) p) (emitted_packets r) stamps_r n p there f.answers in
          joined_until (s.got_init || (p.header.verification_tag == 0)) (ReceivePacket (as_received p checksum)) (rules_given o q s r own other p checksum n there) refl
          (or_left s.got_init (p.header.verification_tag == 0))
          (receives_sacks message is_interleaved (first_in (state_of r)) x (of a.stamp) p checksum a.holds holds.windows (young_now a.stamp (timely a.stamp a.there))) early late is none

      by_foreign : (text : Option (List ℕ)) (p : PacketTree) → packet_refusal p.header.verification_tag p.chunks (state_of s) ≡ text → endings (emitted_foreign text p s).events ≡ 0
      by_foreign None p is = refl
      by_foreign (Some text) p is =
          ap (λ (e : Endpoint Carried). endings (pending_emitted e).events) (ap (λ (r : Option (List ℕ)). packet_unless r p.header.verification_tag p.chunks (count_packet_at s.end)) is)
          ∙ ap (λ (t : Emitted Carried). endings (t.events ++ OnError ParseFailed text ∷ [])) quiet_s.emitted

      by_turn : (t : EndAction) → MayAct t s → IsTimely t now stamps_r → AreOffered message lifecycle accepted (accepted_in t s)
          → accepted + length (accepted_in t s) < 2 ^ 32 → (emitted_by t s r).events ≡ early ++ late → IsUntil early (accepted_in t s)
      by_turn (Gives which checksum) may timely are few is = by_packet (slice_get (emitted_packets r) which) checksum which refl timely is
      by_turn (Refuses p) may timely are few is =
          whole (Refuses p) may timely are few is (by_foreign (packet_refusal p.header.verification_tag p.chunks (state_of s)) p refl)
      by_turn (Calls (Send m how)) may timely are few is =
          whole (Calls (Send m how)) may timely are few is (none_emitted (Send m how) s quiet_s (sent_stays (send_refusal_of m s.end.endpoint_state) (state_of s) _))
      by_turn (Calls (SendMany ms how)) may timely are few is =
          whole (Calls (SendMany ms how)) may timely are few is (none_emitted (SendMany ms how) s quiet_s (open_stays (state_of s) _))
      by_turn (Calls TakeMessage) may timely are few is =
          whole (Calls TakeMessage) may timely are few is (none_emitted TakeMessage s quiet_s (taken_stays s.end.endpoint_state.context.options (state_of s)))
      by_turn (Calls (ResetStreams ids)) may timely are few is =
          whole (Calls (ResetStreams ids)) may timely are few is (none_emitted (ResetStreams ids) s quiet_s (reset_stays (reset_refusal (state_of s)) ids (state_of s) _))
      by_turn (Calls (Restore k)) may timely are few is = absurd may
      by_turn (Calls (ReceivePacket p)) may timely are few is = absurd may
      by_turn (Calls Connect) may timely are few is = other_call Connect refl (λ p e. cc) may is
      by_turn (Calls Close) may timely are few is = other_call Close refl (λ p e. cc) may is
      by_turn (Calls Shutdown) may timely are few is = other_call Shutdown refl (λ p e. cc) may is
      by_turn (Calls (SetLowThreshold stream bytes)) may timely are few is = other_call (SetLowThreshold stream bytes) refl (λ p e. cc) may is
      by_turn (Calls (SetPriority stream priority)) may timely are few is = other_call (SetPriority stream priority) refl (λ p e. cc) may is
      by_turn (Calls (SetMaxMessageSize bytes)) may timely are few is = other_call (SetMaxMessageSize bytes) refl (λ p e. cc) may is
      by_turn (Calls (Advance n)) may timely are few is = other_call (Advance n) refl (λ p e. cc) may is
      by_turn (Calls HandOver) may timely are few is = other_call HandOver refl (λ p e. cc) may is
      by_turn (Calls ReceiveNoPacket) may timely are few is = other_call ReceiveNoPacket refl (λ p e. cc) may is
