-- A fragment that comes is a few of the rules.
use Rattle.std.proofs.Common.{◌≡◌, ℕ, ◌+◌, Bool, true, false, cond, inl, inr, Option, Some, None, List, [], ◌∷◌, ◌++◌, map, refl, ap, sym, ◌∙◌, subst, arith, append_assoc, eqb}
use Rattle.std.specs.Prelude.{◌||◌, ◌==◌, unwrap_or}
use Rattle.std.proofs.lemmas.Bool.{cases_eq, cond-true, cond-false, eq-eqb, ne_eqb}
use Rattle.sctp_serial.specs.Messages as messages
use Rattle.sctp_serial.specs.Unwrapped.{origin}
use Rattle.sctp_packet.specs.Chunk.{FragmentTree}
use Rattle.sctp_rx.specs.Held.{Held}
use Rattle.sctp_rx.specs.Delivery.{ordered_arrival, unordered_arrival}
use Rattle.proof_refines.specs.SettledStreams.{AreInOrder, AreSettled}
use Rattle.sctp_rx.specs.ReassemblyStreams as streams
use Rattle.sctp_rx.specs.ReassemblyStreams.{Streams, Outcome, unchanged, with_ordered, with_unordered, is_far, held_as, add_in_order, add_ordered, add_unordered}
use Rattle.sctp_rx.specs.ReassemblyQueue.{Reassembly, number_of, came, apply_outcome, add, is_kept_back}
use Rattle.sctp_rx.specs.DataTracker.{Tracker, IsTracker, observe}
use Rattle.sctp_rx.proofs.SeenOneFormLemmas.{contains_add}
use Rattle.proof_refines.proofs.SettledQueueLemmas.{settled_arrives}
use Rattle.proof_protocol.specs.State.{Message, Transfer, put}
use Rattle.proof_protocol.specs.Rules.{data_comes, late_comes, become_ready}
use Rattle.proof_protocol.specs.Invariant.{Invariant}
use Rattle.proof_protocol.specs.Reassembly.{Chunk, Queue, KeyOf, next_of, key_of, below_of, KeyLaws}
use Rattle.proof_protocol.specs.Lifted.{up_key, up_chunk, up_some, lift, wire_key, wire_chunk, IsOfCurrentEpoch}
use Rattle.proof_protocol.specs.Reassembly as queues
use Rattle.proof_protocol.proofs.ReceiverRowLemmas.{key_laws}
use Rattle.proof_protocol.proofs.LiftedLemmas.{lift_at, up_wire_key, up_wire_chunk, wire_chunk_row}
use Rattle.proof_protocol.proofs.WireResetLemmas.{wire_late_row}
use Rattle.proof_protocol.proofs.ToolsLemmas.{not_both}
use Rattle.proof_refines.specs.View.{IsSeenAs, was_seen, chunk_of_held, key_of_held, ordered_at, unordered_at, held_on, view_with, view_of}
use Rattle.proof_refines.specs.Read.{Carries, IsRead, shift_after, number_read, is_behind}
use Rattle.proof_refines.specs.ReceiverRefinement.{ReceiverRefines, Goes}
use Rattle.proof_refines.proofs.HeldKeyLemmas.{Decided}
use Rattle.proof_refines.proofs.TakesLemmas.{takes_fewer, takes_readied, AreAlike, seen_alike}
use Rattle.proof_refines.proofs.ReceiverRestLemmas.{AreSent}
use Rattle.proof_refines.proofs.ArrivalLemmas.{rest_of, Arrival, ordered_arrives, unordered_arrives, ordered_late, unordered_late}
use Rattle.proof_refines.proofs.FragmentLemmas.{item, chunk_is, key_is, filed, number_near, added_now, ordered_behind, unordered_behind, late_in}
use Rattle.proof_refines.proofs.ReceivesLemmas.{sent_of, none_left, none_ready, goes_to, seen_after}

-- the tracker's set with one fragment more
pub observed_seen : (t : Tracker) → IsTracker t → (seen : ℕ → Bool) → ((n : ℕ) → was_seen t n ≡ seen n) → (k n : ℕ) (now : Bool) → was_seen (observe (origin + k) now t) n ≡ put seen k true n
observed_seen t i seen same k n now = contains_add (origin + k) (origin + n) t.seen i.runs ∙ (ap (λ z. eqb (origin + n) (origin + k) || z) (same n) ∙ go (seen n))
  where
    go : (b : Bool) → (eqb (origin + n) (origin + k) || b) ≡ cond (n == k) true b
    go true = elim (eqb (origin + n) (origin + k)) as (λ c. (c || true) ≡ cond (n == k) true true) [
      | true ↦ elim (n == k) as (λ c. true ≡ cond c true true) [ true ↦ refl | false ↦ refl ]
      | false ↦ elim (n == k) as (λ c. true ≡ cond c true true) [ true ↦ refl | false ↦ refl ]
    ]
    go false =
        elim (cases_eq n k) [
          | inl e ↦ ap (λ z. z || false) (eq-eqb (origin + n) (origin + k) (ap (λ z. origin + z) e)) ∙ sym (cond-true (n == k) true false (eq-eqb n k e))
          | inr d ↦ ap (λ z. z || false) (ne_eqb (origin + n) (origin + k) (λ e. d (omega (arith, e)))) ∙ sym (cond-false (n == k) true false (ne_eqb n k d))
        ]

-- the mode stays
pub add_mode : (n : ℕ) (f : FragmentTree) (ss : Streams) → (streams.add n f ss).streams.is_interleaved ≡ ss.is_interleaved
add_mode n f ss = go f.is_unordered
  where
    ordered : (b : Bool) (id : ℕ) (h : Held) → (cond b (unchanged ss) (with_ordered id (ordered_arrival h (ordered_at ss id)) ss)).streams.is_interleaved ≡ ss.is_interleaved
    ordered true id h = refl
    ordered false id h = refl

    unordered : (b : Bool) (id : ℕ) (h : Held) → (cond b (unchanged ss) (with_unordered id (unordered_arrival h (unordered_at ss id)) ss)).streams.is_interleaved ≡ ss.is_interleaved
    unordered true id h = refl
    unordered false id h = refl

    go : (b : Bool) → (add_in_order b n f ss).streams.is_interleaved ≡ ss.is_interleaved
    go false = let h = held_as ss.is_interleaved (number_read false f ss) n f in ordered (is_far h.number) f.stream_id h
    go true = let h = held_as ss.is_interleaved (number_read true f ss) n f in unordered (is_far h.number) f.stream_id h

module _ (message : ℕ → Message) (is_interleaved : Bool) (base : Bool → ℕ → ℕ) (before : ℕ) (x : Transfer) (kept : Invariant message is_interleaved x) (handed : List messages.Message) (t : Tracker) (r : Reassembly)
    (shown : ReceiverRefines message is_interleaved base before x handed t r)
    (is_tracker : IsTracker t) (k tsn : ℕ) (f : FragmentTree) (at_once : is_kept_back (number_of r tsn) f.stream_id r.deferred ≡ false) (carries : Carries message is_interleaved x.sender k f) (read : IsRead message is_interleaved (shift_after r.first before k) x.sender r k tsn f) (unseen : was_seen t k ≡ false) (is_now : IsOfCurrentEpoch base message x.sender k) where
  abbrev shift : ℕ
  shift = shift_after r.first before k

  laws : KeyLaws (KeyOf is_interleaved) (next_of is_interleaved) is_interleaved x.sender (key_of is_interleaved message x.sender) (below_of is_interleaved)
  laws = key_laws message is_interleaved x kept

  abbrev decide : Decided is_interleaved
  decide = laws.decide

  abbrev q : Queue (KeyOf is_interleaved) (next_of is_interleaved)
  q = shown.queue

  seen_as : IsSeenAs is_interleaved shift (view_of handed r) q
  seen_as = seen_after is_interleaved before k handed r q shown.fresh shown.seen_as

  abbrev outcome : Outcome
  outcome = streams.add (number_of r tsn) f r.streams

  unseen_there : x.receiver.seen k ≡ false
  unseen_there = sym (shown.seen k) ∙ unseen

  key_at : key_of_held is_interleaved shift (item r tsn f) ≡ wire_key is_interleaved message x.sender k
  key_at = key_is message is_interleaved shift x.sender r k tsn f carries read shown.mode

  -- its protocol id
  abbrev wire_protocol_id : ℕ
  wire_protocol_id = (wire_chunk message is_interleaved x.sender k).protocol_id

  wire_protocol_id_is : f.is_beginning ≡ true → wire_protocol_id ≡ f.ppid
  wire_protocol_id_is b = sym (carries.protocol_id b)

  chunk_at : chunk_of_held wire_protocol_id (item r tsn f) ≡ wire_chunk message is_interleaved x.sender k
  chunk_at = chunk_is message is_interleaved shift x.sender r k tsn f carries read shown.mode

  new : q.chunks (key_of_held is_interleaved shift (item r tsn f)) ≡ None
  new = ap q.chunks key_at ∙ go (q.chunks (wire_key is_interleaved message x.sender k)) refl
    where
      go : (o : Option Chunk) → q.chunks (wire_key is_interleaved message x.sender k) ≡ o → o ≡ None
      go None e = refl
      go (Some w) e =
          let there = lift_at base is_interleaved q (wire_key is_interleaved message x.sender k) ∙ ap (up_some base is_interleaved) e in
          let key_up = up_wire_key base message x.sender k is_now is_interleaved in
          let s = shown.refines.held (key_of is_interleaved message x.sender k) (up_chunk base is_interleaved w) (ap (lift base is_interleaved q).chunks (sym key_up) ∙ there) in
          let seen = kept.incoming.held_seen s.0 s.1 in
          let same = laws.one s.0 k (kept.incoming.seen_below s.0 seen) carries.numbered s.2 in
          absurd (not_both (ap x.receiver.seen (sym same) ∙ seen) unseen_there)

  sorted : (kind : Bool) (s : ℕ) → AreInOrder (held_on r.streams kind s)
  sorted kind s = (rest_of r.streams [] shown.settled).order kind s

  -- the outcome is that of the stream
  in_order : f.is_unordered ≡ false → outcome ≡ add_ordered f.stream_id (item r tsn f) r.streams
  in_order e = ap (λ z. add_in_order z (number_of r tsn) f r.streams) e ∙ ap (λ z. add_ordered f.stream_id (held_as r.streams.is_interleaved (number_read z f r.streams) (number_of r tsn) f) r.streams) (sym e)

  out_of_order : f.is_unordered ≡ true → outcome ≡ add_unordered f.stream_id (item r tsn f) r.streams
  out_of_order e = ap (λ z. add_in_order z (number_of r tsn) f r.streams) e ∙ ap (λ z. add_unordered f.stream_id (held_as r.streams.is_interleaved (number_read z f r.streams) (number_of r tsn) f) r.streams) (sym e)

  near : is_far (item r tsn f).number ≡ false
  near = number_near message is_interleaved shift x.sender r k tsn f carries read shown.mode

  -- the view after the call
  view_is : view_of handed (apply_outcome outcome (came tsn r)) ≡ view_with outcome.streams ((handed ++ r.ready) ++ outcome.messages)
  view_is = ap (λ z. view_with outcome.streams z) (sym (append_assoc handed r.ready outcome.messages))

  call_is : add tsn f r ≡ apply_outcome outcome (came tsn r)
  call_is = added_now message is_interleaved shift x.sender r k tsn f carries read shown.mode at_once

  mode_is : (apply_outcome outcome (came tsn r)).streams.is_interleaved ≡ is_interleaved
  mode_is = add_mode (number_of r tsn) f r.streams ∙ shown.mode

  pub first_is : (add tsn f r).first ≡ Some (unwrap_or r.first tsn)
  first_is = ap (λ z. z.first) call_is

  pub row_held : is_behind message is_interleaved x.sender x.receiver k ≡ false → (now : Bool) → (ps : List ℕ) × Goes message is_interleaved base shift x (data_comes k ∷ map become_ready ps) handed r.deferred (observe (origin + k) now t) (add tsn f r)
  row_held current now =
      let a = arrival f.is_unordered refl in
      let p' : IsSeenAs is_interleaved shift (view_of handed (apply_outcome outcome (came tsn r))) a.leads.queue = subst (λ z. IsSeenAs is_interleaved shift z a.leads.queue) (sym view_is) a.leads.seen_as in
      let settled = subst (λ z. AreSettled z.streams) call_is (settled_arrives r shown.settled tsn f) in
      let comes : queues.Added (KeyOf is_interleaved) (next_of is_interleaved) q a.middle (wire_key is_interleaved message x.sender k) (wire_chunk message is_interleaved x.sender k) =
      subst (λ z. queues.Added (KeyOf is_interleaved) (next_of is_interleaved) q a.middle z (wire_chunk message is_interleaved x.sender k)) key_at (subst (λ z. queues.Added (KeyOf is_interleaved) (next_of is_interleaved) q a.middle (key_of_held is_interleaved shift (item r tsn f)) z) chunk_at a.comes) in
      let none_more = none_left message is_interleaved base shift x kept outcome.streams ((handed ++ r.ready) ++ outcome.messages) a.leads.queue a.leads.seen_as settled (λ κ w e. sent a.middle comes κ w (takes_fewer is_interleaved a.leads.takes κ w e)) in
      let l = wire_chunk_row message is_interleaved base x q a.middle a.leads.queue k kept shown.refines carries.numbered carries.real unseen_there is_now comes (takes_readied is_interleaved a.leads.takes none_more) in (
        l.0,
        subst (λ z. Goes message is_interleaved base shift x (data_comes k ∷ map become_ready l.0) handed r.deferred (observe (origin + k) now t) z) (sym call_is)
            (goes_to message is_interleaved base shift x kept (data_comes k) (map become_ready l.0) a.leads.queue l.1 handed r.deferred (observe (origin + k) now t) (apply_outcome outcome (came tsn r)) p'
            (λ n. observed_seen t is_tracker x.receiver.seen shown.seen k n now) mode_is settled (λ e. cc) refl),
      )
    where
      arrival : (b : Bool) → f.is_unordered ≡ b → Arrival is_interleaved shift decide r.streams (handed ++ r.ready) q seen_as sorted f.stream_id (item r tsn f) wire_protocol_id wire_protocol_id_is new outcome
      arrival false e =
          subst (Arrival is_interleaved shift decide r.streams (handed ++ r.ready) q seen_as sorted f.stream_id (item r tsn f) wire_protocol_id wire_protocol_id_is new) (sym (in_order e))
          (ordered_arrives is_interleaved shift decide r.streams (handed ++ r.ready) q seen_as sorted f.stream_id (item r tsn f) wire_protocol_id wire_protocol_id_is new (filed message is_interleaved shift x.sender r k tsn f carries read shown.mode true e)
          (ordered_behind message is_interleaved shift x handed r k tsn f carries read base q shown.refines seen_as is_now e ∙ current) near)
      arrival true e =
          subst (Arrival is_interleaved shift decide r.streams (handed ++ r.ready) q seen_as sorted f.stream_id (item r tsn f) wire_protocol_id wire_protocol_id_is new) (sym (out_of_order e))
          (unordered_arrives is_interleaved shift decide r.streams (handed ++ r.ready) q seen_as sorted f.stream_id (item r tsn f) wire_protocol_id wire_protocol_id_is new (filed message is_interleaved shift x.sender r k tsn f carries read shown.mode false e)
          (unordered_behind message is_interleaved shift x handed r k tsn f carries read base q shown.refines seen_as is_now e ∙ current) near)

      sent : (m : Queue (KeyOf is_interleaved) (next_of is_interleaved)) → queues.Added (KeyOf is_interleaved) (next_of is_interleaved) q m (wire_key is_interleaved message x.sender k) (wire_chunk message is_interleaved x.sender k) → AreSent message is_interleaved base x.sender m
      sent m z κ w e =
          elim (laws.decide κ (wire_key is_interleaved message x.sender k)) [
            | inl y ↦ (
              k,
              carries.numbered,
              sym (ap (up_key base is_interleaved) y ∙ up_wire_key base message x.sender k is_now is_interleaved),
              ap (up_chunk base is_interleaved) (let a = z.here in let b = ap m.chunks y in cc) ∙ up_wire_chunk base message x.sender k is_now is_interleaved,
            )
            | inr d ↦ sent_of message is_interleaved base shift x kept q shown.refines κ w (sym (z.kept κ d) ∙ e)
          ]

  pub row_late : is_behind message is_interleaved x.sender x.receiver k ≡ true → (now : Bool) → Goes message is_interleaved base shift x (late_comes k ∷ []) handed r.deferred (observe (origin + k) now t) (add tsn f r)
  row_late late now =
      let p' : IsSeenAs is_interleaved shift (view_of handed (apply_outcome outcome (came tsn r))) q = subst (λ z. IsSeenAs is_interleaved shift z q) (sym view_is) (seen_alike is_interleaved shift (view_of handed r) (view_with outcome.streams ((handed ++ r.ready) ++ outcome.messages)) q (alike f.is_unordered refl) seen_as) in
      let settled = subst (λ z. AreSettled z.streams) call_is (settled_arrives r shown.settled tsn f) in
      let l = wire_late_row message is_interleaved base x q k kept shown.refines carries.numbered unseen_there is_now
      (late_in message is_interleaved shift x handed r k tsn f carries read base q shown.refines seen_as is_now late) (none_ready message is_interleaved base before x kept handed t r shown) in
      subst (λ z. Goes message is_interleaved base shift x (late_comes k ∷ []) handed r.deferred (observe (origin + k) now t) z) (sym call_is)
      (goes_to message is_interleaved base shift x kept (late_comes k) [] q l handed r.deferred (observe (origin + k) now t) (apply_outcome outcome (came tsn r)) p' (λ n. observed_seen t is_tracker x.receiver.seen shown.seen k n now) mode_is settled (λ e. cc) refl)
    where
      alike : (b : Bool) → f.is_unordered ≡ b → AreAlike (view_of handed r) (view_with outcome.streams ((handed ++ r.ready) ++ outcome.messages))
      alike false e =
          subst (λ o. AreAlike (view_of handed r) (view_with o.streams ((handed ++ r.ready) ++ o.messages))) (sym (in_order e))
          (ordered_late r.streams (handed ++ r.ready) f.stream_id (item r tsn f) near (ordered_behind message is_interleaved shift x handed r k tsn f carries read base q shown.refines seen_as is_now e ∙ late))
      alike true e =
          subst (λ o. AreAlike (view_of handed r) (view_with o.streams ((handed ++ r.ready) ++ o.messages))) (sym (out_of_order e))
          (unordered_late r.streams (handed ++ r.ready) f.stream_id (item r tsn f) near (unordered_behind message is_interleaved shift x handed r k tsn f carries read base q shown.refines seen_as is_now e ∙ late))
