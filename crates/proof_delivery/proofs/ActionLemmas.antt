-- An action of either end leaves one direction at a later state of the rules.
use Rattle.std.proofs.Common.{◌≡◌, ℕ, zero, suc, ◌+◌, ◌-◌, ◌<◌, ◌≤◌, not, Bool, true, false, cond, ◌⊎◌, inl, inr, Option, Some, None, List, [], ◌∷◌, ◌++◌, length, replicate, slice_get, All, refl, sym, ap, subst, ◌∙◌, arith}
use Rattle.std.specs.Prelude.{⊤}
use Rattle.std.specs.List.{list_all}
use Rattle.std.proofs.lemmas.List.{length-append, length-map}
use Rattle.std.proofs.lemmas.List.Elements.{All-weaker}
use Rattle.std.proofs.lemmas.Bool.{and_parts, and_from, eq-eqb}
use Rattle.std.proofs.lemmas.Option.{slice_get_within}
use Rattle.sctp_serial.specs.Messages as messages
use Rattle.sctp_state.specs.Events.{Event}
use Rattle.proof_protocol.specs.State.{Message, count, stream_of}
use Rattle.proof_protocol.specs.Rules.{accept, begin, number, end_with_placeholder, give_up, data_comes, late_comes, become_ready, send_sack, acknowledge_next, send_forward, forward_comes, perform_reset}
use Rattle.proof_protocol.specs.Resets.{Epochs, ResetEvent, transfers, reset_stream, send_request, perform, commit, goes, go_all}
use Rattle.sctp_tx_queue.specs.SendQueue.{Queue}
use Rattle.spec_endpoint.specs.Association.{State, Endpoint}
use Rattle.proof_endpoint.specs.Mapped.{Carried}
use Rattle.proof_endpoint.specs.Acts.{calm}
use Rattle.proof_pair.specs.Trace.{Side, emitted_packets, drain, state_of}
use Rattle.spec_endpoint.specs.Packets.{packets_in}
use Rattle.proof_pair.proofs.JoinActsLemmas.{packets_both}
use Rattle.proof_delivery.specs.Accepted.{AcceptedMessage}
use Rattle.proof_delivery.specs.Answered.{waiting_number, is_same, numbered_before}
use Rattle.proof_delivery.specs.Asks.{ResetRequest, number_of}
use Rattle.proof_delivery.specs.StreamEpochs.{StreamEpoch, shut_streams, reopen, performed_of, epochs_of}
use Rattle.proof_delivery.specs.Windows.{Stamp, numbered_count, queue_of, stamp_packets}
use Rattle.proof_delivery.proofs.ClaimLemmas.{Direction, transfer_of, goes_out, goes_in, IsKept, GoesOn, AsksStay, first_out, first_in, AreSo, SendsIn, ReceivesIn, SenderClaim, ReceiverClaim}
use Rattle.proof_delivery.proofs.ResetEventsLemmas.{performed_both, emitted_both, none_failed_both}
use Rattle.proof_delivery.proofs.FilledLemmas.{fills, filled_goes, receives_filled}
use Rattle.proof_delivery.proofs.SenderToolLemmas.{Grows, goes_grows, goes_none, receiver_stays, so_still}
use Rattle.proof_delivery.proofs.ReceiverToolLemmas.{SameSender, sender_stays}
use Rattle.proof_delivery.proofs.WithinLemmas.{numbered_is}
use Rattle.proof_delivery.proofs.DirectionLemmas.{least_out, Saying, IsUnderWay, AllUnderWay, each_behind, says_out, says_in, out_on, in_on, out_first, in_first, Stands, SoFar, Flows}
use Rattle.proof_delivery.proofs.PremisesLemmas.{waits, is_asked, waits_again}

-- ---- what no rule of a sender changes

module _ (message : ℕ → Message) (is_interleaved : Bool) where
  record SameAccepted (x y : Epochs) : Type 0 where
    accepted : y.transfer.sender.accepted ≡ x.transfer.sender.accepted
    epoch : y.epoch ≡ x.epoch

  accepted_once : (x : Epochs) (e : ResetEvent) → goes_out e ≡ true → SameAccepted x (goes message is_interleaved x e)
  accepted_once x (transfers accept) s = cc
  accepted_once x (transfers (begin p)) s = record { accepted = refl; epoch = refl }
  accepted_once x (transfers (number p bytes more)) s = record { accepted = refl; epoch = refl }
  accepted_once x (transfers (end_with_placeholder p)) s = record { accepted = refl; epoch = refl }
  accepted_once x (transfers (give_up p)) s = record { accepted = refl; epoch = refl }
  accepted_once x (transfers (acknowledge_next c)) s = record { accepted = refl; epoch = refl }
  accepted_once x (transfers (send_forward f)) s = record { accepted = refl; epoch = refl }
  accepted_once x (transfers (data_comes t)) s = cc
  accepted_once x (transfers (late_comes t)) s = cc
  accepted_once x (transfers (become_ready p)) s = cc
  accepted_once x (transfers (send_sack c)) s = cc
  accepted_once x (transfers (forward_comes f)) s = cc
  accepted_once x (transfers (perform_reset s c)) h = cc
  accepted_once x (reset_stream t) s = record { accepted = refl; epoch = refl }
  accepted_once x (send_request t) s = record { accepted = refl; epoch = refl }
  accepted_once x (perform r) s = cc
  accepted_once x (commit t) s = record { accepted = refl; epoch = refl }

  accepted_along : (es : List ResetEvent) (x : Epochs) → list_all goes_out es ≡ true → SameAccepted x (go_all message is_interleaved x es)
  accepted_along [] x s = record { accepted = refl; epoch = refl }
  accepted_along (e ∷ es) x s =
      let parts = and_parts (goes_out e) (list_all goes_out es) s in
      let one = accepted_once x e parts.0 in
      let rest = accepted_along es (goes message is_interleaved x e) parts.1 in
      record { accepted = rest.accepted ∙ one.accepted; epoch = rest.epoch ∙ one.epoch }

  accepted_stays : (x y : Direction) → GoesOn message is_interleaved goes_out x y → SameAccepted x.rules y.rules
  accepted_stays x y g = subst (λ (z : Epochs). SameAccepted x.rules z) g.leads (accepted_along g.events x.rules g.all)

-- ---- acceptance, and a sender's rules

abbrev pub is_outgoing : ResetEvent → Bool
is_outgoing (transfers accept) = true
is_outgoing e = goes_out e

-- so many messages are accepted, each of its stream's newest epoch, and nothing else happens
pub record Offers (message : ℕ → Message) (is_interleaved : Bool) (n : ℕ) (x mid : Direction) : Type 0 where
  pub goes : GoesOn message is_interleaved is_outgoing x mid
  pub kept : IsKept message is_interleaved mid
  pub accepted : (transfer_of mid).sender.accepted ≡ (transfer_of x).sender.accepted + n
  pub acknowledged : (transfer_of mid).acknowledged ≡ (transfer_of x).acknowledged
  pub given_up : (transfer_of mid).sender.given_up ≡ (transfer_of x).sender.given_up
  pub reports : (transfer_of mid).reports ≡ (transfer_of x).reports
  pub counted : count (transfer_of mid).sender ≡ count (transfer_of x).sender
  pub asks : mid.asks ≡ x.asks
  pub done : mid.done ≡ x.done
  pub answered : mid.answered ≡ x.answered
  pub raised : mid.rules.raised ≡ x.rules.raised
  pub opened : mid.rules.opened ≡ x.rules.opened
  pub performed : mid.rules.performed ≡ x.rules.performed
  pub old : (p : ℕ) → p < (transfer_of x).sender.accepted → mid.rules.epoch p ≡ x.rules.epoch p
  pub new : (p : ℕ) → (transfer_of x).sender.accepted ≤ p → p < (transfer_of mid).sender.accepted → mid.rules.epoch p ≡ x.rules.raised (stream_of message p)

pub offers_none : (message : ℕ → Message) (is_interleaved : Bool) (x : Direction) → IsKept message is_interleaved x → Offers message is_interleaved 0 x x
offers_none message is_interleaved x k = record {
  goes = goes_none message is_interleaved is_outgoing x;
  kept = k;
  accepted = omega arith;
  acknowledged = refl;
  given_up = refl;
  reports = refl;
  counted = refl;
  asks = refl;
  done = refl;
  answered = refl;
  raised = refl;
  opened = refl;
  performed = refl;
  old = λ p l. refl;
  new = λ p a b. absurd (omega (arith, a, b));
}

-- the messages of these places, from this one on
abbrev pub message_in : AcceptedMessage → Message
message_in o = record { stream = o.message.stream; ordered = not o.options.unordered; protocol_id = o.message.ppid; payload = o.message.payload }

abbrev pub AreOffered : (ℕ → Message) → (ℕ → Option ℕ) → ℕ → List AcceptedMessage → Type 0
AreOffered message lifecycle p [] = ⊤
AreOffered message lifecycle p (o ∷ os) = (message p ≡ message_in o) × (lifecycle p ≡ o.options.lifecycle_id) × AreOffered message lifecycle (p + 1) os

-- ---- what the rules of one end leave of the other

pub record Stay (message : ℕ → Message) (lifecycle : ℕ → Option ℕ) (is_interleaved : Bool) : Type 0 where
  pub refines : (s : State) (handed : List messages.Message) (x y : Direction) → IsKept message is_interleaved x → GoesOn message is_interleaved is_outgoing x y → y.done ≡ x.done
      → ReceivesIn message is_interleaved s handed x → ReceivesIn message is_interleaved s handed y
  pub sends : (s : State) (q : Queue) (x y : Direction) → IsKept message is_interleaved x → GoesOn message is_interleaved goes_in x y → AsksStay x y
      → SendsIn message lifecycle is_interleaved s q x → SendsIn message lifecycle is_interleaved s q y

outgoing_one : (e : ResetEvent) → goes_out e ≡ true → is_outgoing e ≡ true
outgoing_one (transfers accept) h = refl
outgoing_one (transfers (begin p)) h = refl
outgoing_one (transfers (number p bytes more)) h = h
outgoing_one (transfers (end_with_placeholder p)) h = refl
outgoing_one (transfers (give_up p)) h = refl
outgoing_one (transfers (acknowledge_next c)) h = refl
outgoing_one (transfers (send_forward f)) h = refl
outgoing_one (transfers (data_comes t)) h = h
outgoing_one (transfers (late_comes t)) h = h
outgoing_one (transfers (become_ready p)) h = h
outgoing_one (transfers (send_sack c)) h = h
outgoing_one (transfers (forward_comes f)) h = h
outgoing_one (transfers (perform_reset s c)) h = h
outgoing_one (reset_stream s) h = refl
outgoing_one (send_request s) h = refl
outgoing_one (perform r) h = h
outgoing_one (commit s) h = refl

outgoing_all : (es : List ResetEvent) → list_all goes_out es ≡ true → list_all is_outgoing es ≡ true
outgoing_all [] h = refl
outgoing_all (e ∷ es) h =
    let parts = and_parts (goes_out e) (list_all goes_out es) h in and_from (is_outgoing e) (list_all is_outgoing es) (outgoing_one e parts.0) (outgoing_all es parts.1)

outgoing_has : (e : ResetEvent) → is_outgoing e ≡ true → fills e ≡ true
outgoing_has (transfers (number p bytes more)) h = h
outgoing_has (transfers accept) h = refl
outgoing_has (transfers (begin p)) h = refl
outgoing_has (transfers (end_with_placeholder p)) h = refl
outgoing_has (transfers (give_up p)) h = refl
outgoing_has (transfers (data_comes t)) h = refl
outgoing_has (transfers (late_comes t)) h = refl
outgoing_has (transfers (become_ready p)) h = refl
outgoing_has (transfers (send_sack c)) h = refl
outgoing_has (transfers (acknowledge_next c)) h = refl
outgoing_has (transfers (send_forward f)) h = refl
outgoing_has (transfers (forward_comes f)) h = refl
outgoing_has (transfers (perform_reset s c)) h = refl
outgoing_has (reset_stream s) h = refl
outgoing_has (send_request s) h = refl
outgoing_has (perform r) h = refl
outgoing_has (commit s) h = refl

pub outgoing : (message : ℕ → Message) (is_interleaved : Bool) (x y : Direction) → GoesOn message is_interleaved goes_out x y → GoesOn message is_interleaved is_outgoing x y
outgoing message is_interleaved x y g = record {
  events = g.events;
  may = g.may;
  all = outgoing_all g.events g.all;
  leads = g.leads;
  more = g.more;
  asks = g.asks;
  further = g.further;
  done = g.done;
  answered = g.answered;
}

-- ---- more packets

-- those of an action, where at its beginning so much was acknowledged
more_under_way : (Says : Saying) (of : Stamp → ℕ) (left : Stamp) (from y : Direction) (past emitted : _) (ss : List Stamp) → of left ≡ (transfer_of from).acknowledged
    → (transfer_of from).acknowledged ≤ (transfer_of y).acknowledged → All (λ (p : Carried). All (Says (transfer_of from).acknowledged y) p.chunks) (packets_in emitted) → AllUnderWay Says of y (packets_in past) ss
    → AllUnderWay Says of y (packets_in (past ++ emitted)) (ss ++ replicate (length (packets_in (past ++ emitted)) - length (packets_in past)) left)
more_under_way Says of left from y past emitted ss is grows says h =
    let P : Stamp → Carried → Type 0 = λ stamp p. IsUnderWay Says y (of stamp) p in
    let new : All (P left) (packets_in emitted) =
    All-weaker (λ (p : Carried). All (Says (transfer_of from).acknowledged y) p.chunks) (P left)
    (λ p u. record { past = omega (arith, is, grows); says = subst (λ (n : ℕ). All (Says n y) p.chunks) (sym is) u }) (packets_in emitted) says in
    subst (λ (ps : List Carried). AllUnderWay Says of y ps (ss ++ replicate (length ps - length (packets_in past)) left)) (sym (packets_both past emitted))
    (each_behind P left (packets_in past) (packets_in emitted) ss h new)

-- ---- how the streams stand

pub so_again : (f g : ℕ → StreamEpoch) (x : Epochs) → ((s : ℕ) → g s ≡ f s) → AreSo f x → AreSo g x
so_again f g x same so s =
    subst (λ (e : StreamEpoch). (e.epoch ≡ x.raised s) × (e.is_open ≡ true → x.raised s ≡ x.opened s) × (e.is_open ≡ false → x.raised s ≡ suc (x.opened s))) (sym (same s)) (so s)

-- ---- the epochs of messages

-- one of a list, or one of those behind it
get_behind : (xs ys : List ℕ) (p n : ℕ) → slice_get (xs ++ ys) p ≡ Some n → (slice_get xs p ≡ Some n) ⊎ ((k : ℕ) × (p ≡ length xs + k) × (slice_get ys k ≡ Some n))
get_behind [] ys p n e = inr (p, omega arith, e)
get_behind (x ∷ xs) ys zero n e = inl e
get_behind (x ∷ xs) ys (suc p) n e = elim (get_behind xs ys p n e) [ inl a ↦ inl a | inr b ↦ let at = b.1 in inr (b.0, omega (arith, at), b.2) ]

module _ (message : ℕ → Message) (lifecycle : ℕ → Option ℕ) (f : ℕ → StreamEpoch) where
  offered_epochs : (os : List AcceptedMessage) (p k n : ℕ) → AreOffered message lifecycle p os → slice_get (epochs_of os f) k ≡ Some n
      → ((f (stream_of message (p + k))).epoch ≡ n) × (k < length os)
  offered_epochs [] p k n h e = cc
  offered_epochs (o ∷ os) p zero n h e =
      let here : (f o.message.stream).epoch ≡ n = some_same e in
      (subst (λ (m : ℕ). (f (stream_of message m)).epoch ≡ n) (omega arith) (ap (λ (m : Message). (f m.stream).epoch) h.0 ∙ here), omega arith)
    where
      some_same : {a b : ℕ} → Some a ≡ Some b → a ≡ b
      some_same {a} {b} e = ap (λ (o : Option ℕ). elim o [ None ↦ a | Some z ↦ z ]) e
  offered_epochs (o ∷ os) p (suc k) n h e =
      let r = offered_epochs os (p + 1) k n h.2 e in
      let l = r.1 in
      (subst (λ (m : ℕ). (f (stream_of message m)).epoch ≡ n) (omega arith) r.0, omega (arith, l))

  -- of those that were accepted, and of those that are offered
  offers_epochs : (is_interleaved : Bool) (x mid : Direction) (os : List AcceptedMessage) (before : List ℕ) → Offers message is_interleaved (length os) x mid → AreSo f x.rules
      → AreOffered message lifecycle (transfer_of x).sender.accepted os → length before ≡ (transfer_of x).sender.accepted
      → ((p n : ℕ) → slice_get before p ≡ Some n → x.rules.epoch p ≡ n) → (p n : ℕ) → slice_get (before ++ epochs_of os f) p ≡ Some n → mid.rules.epoch p ≡ n
  offers_epochs is_interleaved x mid os before offers so are many are_so p n e = elim (get_behind before (epochs_of os f) p n e) [
    | inl a ↦ let l = slice_get_within before p n a in offers.old p (omega (arith, l, many)) ∙ are_so p n a
    | inr b ↦
        let at : p ≡ (transfer_of x).sender.accepted + b.0 = b.1 ∙ ap (λ (m : ℕ). m + b.0) many in
        let r = offered_epochs os (transfer_of x).sender.accepted b.0 n are b.2 in
        let l = r.1 in
        let more = offers.accepted in
        offers.new p (omega (arith, at)) (omega (arith, at, l, more))
        ∙ (sym (so (stream_of message p)).0 ∙ subst (λ (m : ℕ). (f (stream_of message m)).epoch ≡ n) (sym at) r.0)
  ]

-- ---- the ask that waits

same_some : (o p : Option ℕ) (n : ℕ) → is_same o p ≡ true → p ≡ Some n → (m : ℕ) × (o ≡ Some m)
same_some None None n h e = cc
same_some None (Some m) n h e = cc
same_some (Some k) p n h e = (k, refl)

module _ (message : ℕ → Message) (lifecycle : ℕ → Option ℕ) (is_interleaved : Bool) (s t : State) (q r : Queue) (x y : Direction) (sends : SendsIn message lifecycle is_interleaved s q x)
    (shown : SendsIn message lifecycle is_interleaved t r y) (stands : Stands s t) (kept : IsKept message is_interleaved x) (answered : x.answered ≤ y.answered)
    (since : (a : ResetRequest) → slice_get y.asks y.answered ≡ Some a → (slice_get x.asks y.answered ≡ Some a) ⊎ (count (transfer_of x).sender ≤ a.upto))
    (n : ℕ) (asked : (a : ResetRequest) → slice_get x.asks x.answered ≡ Some a → n ≤ a.upto) where
  -- it waited before
  asked_still : (a : ResetRequest) → slice_get y.asks y.answered ≡ Some a → slice_get x.asks y.answered ≡ Some a → numbered_before s t n ≤ a.upto
  asked_still a there before =
      let l = slice_get_within x.asks y.answered a before in
      let o = kept.asked.order.2 in
      let same : y.answered ≡ x.answered = omega (arith, l, o, answered) in
      let was : slice_get x.asks x.answered ≡ Some a = ap (λ (k : ℕ). slice_get x.asks k) (sym same) ∙ before in
      let first = waits_again message lifecycle is_interleaved s t q r x y a sends shown stands was in
      let now : waiting_number t ≡ Some (number_of (first_out s) x.answered) =
      waits message lifecycle is_interleaved t r y a shown there ∙ (ap (λ (k : ℕ). Some (number_of k y.answered)) (sym first) ∙ ap (λ (k : ℕ). Some (number_of (first_out s) k)) same) in
      let is : is_same (waiting_number s) (waiting_number t) ≡ true =
      ap (λ (o : Option ℕ). is_same o (waiting_number t)) (waits message lifecycle is_interleaved s q x a sends was)
      ∙ (ap (λ (o : Option ℕ). is_same (Some (number_of (first_out s) x.answered)) o) now ∙ eq-eqb (number_of (first_out s) x.answered) (number_of (first_out s) x.answered) refl) in
      subst (λ (b : Bool). cond b n (numbered_count s) ≤ a.upto) (sym is) (asked a was)

  -- it is new: it ends at what was numbered before, or later
  asked_newly : (a : ResetRequest) → slice_get y.asks y.answered ≡ Some a → count (transfer_of x).sender ≤ a.upto → numbered_before s t n ≤ a.upto
  asked_newly a there l = by (is_same (waiting_number s) (waiting_number t)) refl
    where
      by : (b : Bool) → is_same (waiting_number s) (waiting_number t) ≡ b → cond b n (numbered_count s) ≤ a.upto
      by false e = let c = numbered_is message lifecycle is_interleaved s q x sends in omega (arith, c, l)
      by true e =
          let w = same_some (waiting_number s) (waiting_number t) (number_of (first_out t) y.answered) e (waits message lifecycle is_interleaved t r y a shown there) in
          let was = is_asked message lifecycle is_interleaved s q x w.0 sends w.1 in
          let up = asked was.0 was.1 in
          let within = (kept.asked.fine x.answered was.0 was.1).within in
          omega (arith, up, within, l)

  asked_then : (a : ResetRequest) → slice_get y.asks y.answered ≡ Some a → numbered_before s t n ≤ a.upto
  asked_then a there = elim (since a there) [ inl before ↦ asked_still a there before | inr l ↦ asked_newly a there l ]

-- ---- actions

-- what was emitted is taken
abbrev pub after_action : (asked : Bool) → Endpoint Carried → Side → Side
after_action asked e z = record (drain e z) { got_init = asked }

-- what the trace says then: the end accepted these, emitted that, and these streams were to be reset
abbrev pub so_far_then : SoFar → (s : Side) → Endpoint Carried → List AcceptedMessage → (prepared : List ℕ) → SoFar
so_far_then k s e os prepared = record {
  streams = reopen (performed_of e.endpoint_state.context.emitted.events) (shut_streams prepared k.streams);
  epochs = k.epochs ++ epochs_of os k.streams;
  asked = numbered_before (state_of s) e.endpoint_state.state k.asked;
}

module _ (message : ℕ → Message) (lifecycle : ℕ → Option ℕ) (is_interleaved : Bool) (of : Stamp → ℕ) (stay : Stay message lifecycle is_interleaved) (s r : Side) (accepted : ℕ)
    (handed : List messages.Message) (stamps_s stamps_r : List Stamp) (so_far : SoFar) (x : Direction)
    (f : Flows message lifecycle is_interleaved of s r accepted handed stamps_s stamps_r so_far x)
    (left : Stamp) (asked : Bool) where
  -- of the sender, which accepts these
  pub ends_out : least_out of left ≡ (transfer_of x).acknowledged → (os : List AcceptedMessage) (prepared : List ℕ) (mid y : Direction) (e : Endpoint Carried) → Offers message is_interleaved (length os) x mid
      → AreOffered message lifecycle accepted os → SenderClaim message lifecycle is_interleaved mid prepared (calm e) y → Stands (state_of s) e.endpoint_state.state
      → Flows message lifecycle is_interleaved of (after_action asked e s) r (accepted + length os) handed (stamp_packets s (after_action asked e s) left stamps_s) stamps_r (so_far_then so_far s e os prepared) y
  ends_out at_left os prepared mid y e offers are c stands =
      let went : GoesOn message is_interleaved is_outgoing mid y = outgoing message is_interleaved mid y c.goes in
      let there : AllUnderWay (says_out message is_interleaved (first_out e.endpoint_state.state)) (least_out of) x (emitted_packets s) stamps_s =
      out_first message lifecycle is_interleaved (least_out of) x (state_of s) e.endpoint_state.state (queue_of s) e.endpoint_state.context.queue y f.sends c.shown stands (emitted_packets s) stamps_s f.out in
      let old : AllUnderWay (says_out message is_interleaved (first_out e.endpoint_state.state)) (least_out of) y (emitted_packets s) stamps_s =
      out_on message is_interleaved is_outgoing mid y offers.kept.epochs went (first_out e.endpoint_state.state) (least_out of) (emitted_packets s) stamps_s
      (out_on message is_interleaved is_outgoing x mid f.kept.epochs offers.goes (first_out e.endpoint_state.state) (least_out of) (emitted_packets s) stamps_s there) in
      let answers : AllUnderWay (says_in message is_interleaved (first_in (state_of r))) of y (emitted_packets r) stamps_r =
      in_on message is_interleaved is_outgoing mid y offers.kept.epochs went (first_in (state_of r)) of (emitted_packets r) stamps_r
      (in_on message is_interleaved is_outgoing x mid f.kept.epochs offers.goes (first_in (state_of r)) of (emitted_packets r) stamps_r f.answers) in
      let grows : Grows message is_interleaved mid y = goes_grows message is_interleaved is_outgoing mid y offers.kept.epochs went in
      let same = accepted_stays message is_interleaved mid y c.goes in
      let few = same.accepted in
      let were = offers.accepted in
      let is = f.accepted_is in
      let counted = offers.counted in
      let many = f.many in
      let emitted : List (Event Carried) = e.endpoint_state.context.emitted.events in
      record {
        kept = c.kept;
        filled = filled_goes message is_interleaved is_outgoing outgoing_has mid y offers.kept.epochs went
            (filled_goes message is_interleaved is_outgoing outgoing_has x mid f.kept.epochs offers.goes f.filled);
        short = f.short;
        sends = c.shown;
        refines = stay.refines (state_of r) handed mid y offers.kept went c.done (stay.refines (state_of r) handed x mid f.kept offers.goes offers.done f.refines);
        accepted_is = omega (arith, few, were, is);
        out = more_under_way (says_out message is_interleaved (first_out e.endpoint_state.state)) (least_out of) left mid y s.emitted emitted stamps_s
            (at_left ∙ sym offers.acknowledged) grows.left c.emitted old;
        answers = answers;
        streams = c.epochs so_far.streams (so_still so_far.streams x.rules mid.rules offers.raised offers.opened f.streams);
        many = length-append so_far.epochs (epochs_of os so_far.streams) ∙ (ap (λ (n : ℕ). n + length (epochs_of os so_far.streams)) many
            ∙ ap (λ (n : ℕ). accepted + n) (length-map os (λ (o : AcceptedMessage). (so_far.streams o.message.stream).epoch)));
        epochs = λ p n h. ap (λ (g : ℕ → ℕ). g p) same.epoch
            ∙ offers_epochs message lifecycle so_far.streams is_interleaved x mid os so_far.epochs offers f.streams (subst (λ (n : ℕ). AreOffered message lifecycle n os) (sym is) are) (many ∙ sym is) f.epochs p n h;
        asked = asked_then message lifecycle is_interleaved (state_of s) e.endpoint_state.state (queue_of s) e.endpoint_state.context.queue x y f.sends c.shown stands f.kept
            (let a = offers.answered in let b = c.goes.answered in omega (arith, a, b))
            (λ a h. elim (c.since a h) [ inl g ↦ inl (subst (λ (l : List ResetRequest). slice_get l y.answered ≡ Some a) offers.asks g) | inr l ↦ inr (omega (arith, l, counted)) ])
            so_far.asked f.asked;
        answered = let a = f.answered in let b = offers.answered in let d = c.performed in let g = performed_both s.emitted emitted in omega (arith, a, b, d, g);
        performed = λ k. ap (λ (g : ℕ → ℕ). g k) ((receiver_stays message is_interleaved mid y c.goes).performed ∙ offers.performed) ∙ f.performed k;
        none_failed = none_failed_both s.emitted emitted f.none_failed c.none_failed;
      }

  -- of the receiver, which hands out these
  pub ends_in : of left ≡ (transfer_of x).acknowledged → (out : List messages.Message) (y : Direction) (e : Endpoint Carried) → ReceiverClaim message is_interleaved x (handed ++ out) (calm e) y → Stands (state_of r) e.endpoint_state.state
      → Flows message lifecycle is_interleaved of s (after_action asked e r) accepted (handed ++ out) stamps_s (stamp_packets r (after_action asked e r) left stamps_r) so_far y
  ends_in at_left out y e c stands =
      let there : AllUnderWay (says_in message is_interleaved (first_in e.endpoint_state.state)) of x (emitted_packets r) stamps_r =
      in_first message lifecycle is_interleaved of x (state_of r) e.endpoint_state.state handed (handed ++ out) y f.refines c.shown stands (emitted_packets r) stamps_r f.answers in
      let old : AllUnderWay (says_in message is_interleaved (first_in e.endpoint_state.state)) of y (emitted_packets r) stamps_r =
      in_on message is_interleaved goes_in x y f.kept.epochs c.goes (first_in e.endpoint_state.state) of (emitted_packets r) stamps_r there in
      let grows : Grows message is_interleaved x y = goes_grows message is_interleaved goes_in x y f.kept.epochs c.goes in
      let same : SameSender message is_interleaved x.rules y.rules = sender_stays message is_interleaved x y c.goes in
      let emitted : List (Event Carried) = e.endpoint_state.context.emitted.events in
      record {
        kept = c.kept;
        filled = receives_filled message is_interleaved x y f.kept.epochs c.goes f.filled;
        short = f.short;
        sends = stay.sends (state_of s) (queue_of s) x y f.kept c.goes c.stay f.sends;
        refines = c.shown;
        accepted_is = ap (λ o. o.accepted) same.sender ∙ f.accepted_is;
        out = out_on message is_interleaved goes_in x y f.kept.epochs c.goes (first_out (state_of s)) (least_out of) (emitted_packets s) stamps_s f.out;
        answers = more_under_way (says_in message is_interleaved (first_in e.endpoint_state.state)) of left x y r.emitted emitted stamps_r
            at_left grows.left c.emitted old;
        streams = so_still so_far.streams x.rules y.rules same.raised same.opened f.streams;
        many = f.many;
        epochs = λ p n h. ap (λ (g : ℕ → ℕ). g p) same.epoch ∙ f.epochs p n h;
        asked = λ a h. f.asked a (sym (ap (λ (l : List ResetRequest). slice_get l y.answered) c.stay.0 ∙ ap (λ (n : ℕ). slice_get x.asks n) c.stay.1) ∙ h);
        answered = c.stay.1 ∙ f.answered;
        performed = λ k. let a = c.performed k in let b = f.performed k in let d = emitted_both k r.emitted emitted in omega (arith, a, b, d);
        none_failed = f.none_failed;
      }
