-- A forward point that comes is a few of the rules.
use Rattle.std.proofs.Common.{◌≡◌, ℕ, suc, ◌+◌, ◌-◌, ◌^◌, ◌<◌, Bool, true, false, not, inl, inr, Some, List, [], ◌∷◌, ◌++◌, map, refl, ap, sym, ◌∙◌, subst, arith, append_assoc, leb}
use Rattle.std.specs.Prelude.{◌||◌, nat_lt, unwrap_or}
use Rattle.std.proofs.lemmas.Bool.{cond-false, true≢false}
use Rattle.std.proofs.lemmas.Bool.Decides.{nat_tests}
use Rattle.sctp_serial.specs.Messages as messages
use Rattle.sctp_serial.specs.Unwrapped.{origin}
use Rattle.sctp_chunk.specs.declared.forward_tsn.SkippedStream.{SkippedStream}
use Rattle.sctp_chunk.specs.declared.forward_tsn.SkippedStream.TheVariants.{ForwardTsn, IForwardTsn}
use Rattle.sctp_rx.specs.Held.{Held}
use Rattle.proof_refines.specs.SettledStreams.{AreSettled}
use Rattle.sctp_rx.specs.ReassemblyStreams as streams
use Rattle.sctp_rx.specs.ReassemblyStreams.{Streams, Outcome, is_far, by_stream, dropped_to, entries_in}
use Rattle.sctp_rx.specs.ReassemblyQueue.{Reassembly, number_of, came, apply_outcome, forward, forward_now, forward_or_wait, point_waits, wait_with, resetting}
use Rattle.sctp_rx.specs.DataTracker as tracker
use Rattle.sctp_rx.specs.DataTracker.{Tracker}
use Rattle.sctp_rx.proofs.SeenOneFormLemmas.{contains_up_to}
use Rattle.proof_refines.proofs.SettledQueueLemmas.{settled_passes}
use Rattle.proof_protocol.specs.State.{Message, Entry, ForwardPoint, Transfer, IsAmong, place_of, ordered_of}
use Rattle.proof_protocol.specs.Rules.{forward_comes, become_ready}
use Rattle.proof_protocol.specs.Invariant.{Invariant}
use Rattle.proof_protocol.specs.Reassembly.{Queue, KeyOf, next_of, key_of, below_of, KeyLaws}
use Rattle.proof_protocol.proofs.ReceiverRowLemmas.{key_laws}
use Rattle.proof_protocol.proofs.LiftedLemmas.{wire_point_row}
use Rattle.proof_refines.specs.View.{IsSeenAs, was_seen, chunk_of_held, key_of_held, unordered_at, held_on, view_with, view_of}
use Rattle.proof_refines.specs.Read.{StandsFor, StandForAll, shift_after}
use Rattle.proof_protocol.specs.Points.{IsApart, AreApart}
use Rattle.proof_protocol.specs.Lifted.{up_chunk, as_written, wire_point, AreEntriesOfCurrentEpoch}
use Rattle.proof_refines.specs.ReceiverRefinement.{ReceiverRefines, Goes}
use Rattle.proof_refines.proofs.HeldKeyLemmas.{Decided, twice_not}
use Rattle.proof_refines.proofs.TakesLemmas.{takes_fewer, takes_readied}
use Rattle.proof_refines.proofs.ArrivalLemmas.{rest_of}
use Rattle.proof_refines.proofs.EntryLemmas.{put_entries, sorted_stands, sorted_covers, sorted_raised, sorted_apart}
use Rattle.proof_refines.proofs.SkipLemmas.{Done, skips, all_still}
use Rattle.proof_refines.proofs.ForwardLemmas.{left, point_left, left_fewer, left_seen, unordered_kept}
use Rattle.proof_refines.proofs.ReceivesLemmas.{sent_of, none_left, goes_to, seen_after}

-- without interleaving, each entry is of an ordered stream
all_ordered : (is_interleaved : Bool) (ss : Streams) (xs : List SkippedStream) (es : List Entry) → is_interleaved ≡ false → StandForAll is_interleaved ss xs es → (e : Entry) → IsAmong e es → e.ordered ≡ true
all_ordered is_interleaved ss [] [] m h e a = absurd a
all_ordered is_interleaved ss [] (d ∷ es) m h e a = absurd h
all_ordered is_interleaved ss (x ∷ xs) [] m h e a = absurd h
all_ordered is_interleaved ss (x ∷ xs) (d ∷ es) m h e (inl s) = ap (λ z. z.ordered) s ∙ go is_interleaved m x h.0
  where
    go : (b : Bool) → b ≡ false → (y : SkippedStream) → StandsFor b ss y d → d.ordered ≡ true
    go true m y h = cc
    go false m (ForwardTsn id ssn) h = h.0
    go false m (IForwardTsn key mid) h = absurd h
all_ordered is_interleaved ss (x ∷ xs) (d ∷ es) m h e (inr a) = all_ordered is_interleaved ss xs es m h.1 e a

-- the tracker's set up to a fragment
pub point_seen : (t : Tracker) (seen : ℕ → Bool) → ((n : ℕ) → was_seen t n ≡ seen n) → (k upto n : ℕ) → upto ≡ suc k → was_seen (tracker.forward (origin + k) t) n ≡ (nat_lt n upto || seen n)
point_seen t seen same k upto n e = contains_up_to (origin + k) (origin + n) t.seen ∙ (ap (λ z. leb (origin + n) (origin + k) || z) (same n) ∙ ap (λ z. z || seen n) (by n))
  where
    by : (n : ℕ) → leb (origin + n) (origin + k) ≡ nat_lt n upto
    by n = grind (arith, nat_tests, e)

-- ---- the call

module _ (r : Reassembly) (tsn k shift : ℕ) (xs : List SkippedStream) (tsn_is : number_of r tsn + shift ≡ origin + k) (small : k < 2 ^ 62) where
  abbrev at : ℕ
  at = number_of r tsn

  pub not_far : is_far at ≡ false
  not_far = by at shift tsn_is small
    where
      by : (a b : ℕ) → a + b ≡ origin + k → k < 2 ^ 62 → is_far a ≡ false
      by a b e l = grind (arith, nat_tests)

  -- no entry of it waits
  pub called_at_once : point_waits at r.deferred ≡ false → forward tsn xs r ≡ forward_now at xs (came tsn r)
  called_at_once at_once =
      cond-false (is_far at) r (forward_or_wait at xs (came tsn r)) not_far
      ∙ cond-false (point_waits at r.deferred) (wait_with at (entries_in true (resetting r.deferred) xs) (forward_now at (entries_in false (resetting r.deferred) xs) (came tsn r)))
      (forward_now at xs (came tsn r)) at_once

-- entries as they are written are apart where the entries are
pub written_apart : (es : List Entry) → AreApart es → AreApart (map as_written es)
written_apart [] h = tt
written_apart (e ∷ es) h = (each es h.0, written_apart es h.1)
  where
    each : (ds : List Entry) → ((d : Entry) → IsAmong d ds → IsApart e d) → (d : Entry) → IsAmong d (map as_written ds) → IsApart (as_written e) d
    each [] h d a = absurd a
    each (c ∷ ds) h d (inl same) = subst (λ (z : Entry). IsApart (as_written e) z) (sym same) (h c (inl refl))
    each (c ∷ ds) h d (inr a) = each ds (λ b m. h b (inr m)) d a

module _ (message : ℕ → Message) (is_interleaved : Bool) (base : Bool → ℕ → ℕ) (before : ℕ) (x : Transfer) (kept : Invariant message is_interleaved x) (handed : List messages.Message) (t : Tracker) (r : Reassembly)
    (shown : ReceiverRefines message is_interleaved base before x handed t r)
    (k tsn : ℕ) (xs : List SkippedStream) (call_is : forward tsn xs r ≡ forward_now (number_of r tsn) xs (came tsn r)) (f : ForwardPoint) (sent : IsAmong f x.forward_points) (last : f.upto ≡ suc k) (tsn_is : number_of r tsn + shift_after r.first before k ≡ origin + k)
    (stand : StandForAll is_interleaved r.streams xs (wire_point f).entries) (apart : AreApart f.entries) (are_now : AreEntriesOfCurrentEpoch base f) where
  abbrev shift : ℕ
  shift = shift_after r.first before k

  laws : KeyLaws (KeyOf is_interleaved) (next_of is_interleaved) is_interleaved x.sender (key_of is_interleaved message x.sender) (below_of is_interleaved)
  laws = key_laws message is_interleaved x kept

  abbrev decide : Decided is_interleaved
  decide = laws.decide

  abbrev q : Queue (KeyOf is_interleaved) (next_of is_interleaved)
  q = shown.queue

  abbrev n : ℕ
  n = number_of r tsn

  abbrev ready : List messages.Message
  ready = handed ++ r.ready

  seen_as : IsSeenAs is_interleaved shift (view_with r.streams ready) q
  seen_as = seen_after is_interleaved before k handed r q shown.fresh shown.seen_as

  abbrev outcome : Outcome
  outcome = streams.forward n xs r.streams

  -- the point as it is written
  abbrev w : ForwardPoint
  w = wire_point f

  -- the entries in order
  abbrev es : List Entry
  es = put_entries w.entries []

  sorted : StandForAll is_interleaved r.streams (by_stream xs) es
  sorted = sorted_stands is_interleaved r.streams xs w.entries [] [] stand tt

  es_apart : AreApart es
  es_apart = sorted_apart w.entries [] (written_apart f.entries apart) tt (λ e d a b. absurd b)

  -- unordered DATA has no number
  unnumbered : is_interleaved ≡ false → (s : ℕ) (h : Held) → IsAmong h (held_on r.streams false s) → h.number ≡ origin
  unnumbered m s h a =
      let file = seen_as.filed false s h a in
      let there = seen_as.holds false s h a in
      let c = sent_of message is_interleaved base shift x kept q shown.refines (key_of_held is_interleaved shift h) (chunk_of_held there.0 h) there.1 in
      let kind : ordered_of message (place_of x.sender c.0) ≡ false = sym (ap (λ z. z.ordered) c.3) ∙ twice_not h.fragment.is_unordered false file.kind_is in
      let own : (not h.fragment.is_unordered || is_interleaved) ≡ false = ap (λ z. z || is_interleaved) (twice_not h.fragment.is_unordered false file.kind_is) ∙ m in
      let up : (up_chunk base is_interleaved (chunk_of_held there.0 h)).number ≡ h.number - origin =
      cond-false (not h.fragment.is_unordered || is_interleaved) (base (not h.fragment.is_unordered) h.fragment.stream_id + (h.number - origin)) (h.number - origin) own in
      let number : h.number - origin ≡ 0 = sym up ∙ (ap (λ z. z.number) c.3 ∙ cond-false (ordered_of message (place_of x.sender c.0) || is_interleaved) (x.sender.number (place_of x.sender c.0)) 0 (ap (λ z. z || is_interleaved) kind ∙ m)) in
      let from = file.number_from in
      omega (arith, number, from)

  upto_is : n + shift + 1 ≡ origin + w.upto
  upto_is = omega (arith, tsn_is, last)

  abbrev m : Queue (KeyOf is_interleaved) (next_of is_interleaved)
  m = left is_interleaved shift r.streams ready q seen_as shown.mode n w es (λ kind s j. sorted_covers kind s j w.entries) (λ kind s j. sorted_raised kind s w.entries j) upto_is (λ b. all_ordered is_interleaved r.streams (by_stream xs) es b sorted) unnumbered

  done : Done is_interleaved shift decide m ready outcome
  done =
      let p = left_seen is_interleaved shift r.streams ready q seen_as shown.mode n w es (λ kind s j. sorted_covers kind s j w.entries) (λ kind s j. sorted_raised kind s w.entries j) upto_is (λ b. all_ordered is_interleaved r.streams (by_stream xs) es b sorted) unnumbered in
      skips is_interleaved shift decide (by_stream xs) es (dropped_to n r.streams) ready m
      (all_still is_interleaved r.streams (dropped_to n r.streams) (by_stream xs) es (record { ordered = λ e a o. refl; unordered = λ e a o. untouched is_interleaved refl e a o }) sorted) es_apart shown.mode
      (λ e a o. (rest_of r.streams [] shown.settled).order true e.stream) p
    where
      untouched : (b : Bool) → is_interleaved ≡ b → (e : Entry) → IsAmong e es → e.ordered ≡ false → unordered_at (dropped_to n r.streams) e.stream ≡ unordered_at r.streams e.stream
      untouched true c e a o = unordered_kept r.streams n true (shown.mode ∙ c) e.stream
      untouched false c e a o = absurd (true≢false (sym (all_ordered is_interleaved r.streams (by_stream xs) es c sorted e a) ∙ o))

  view_is : view_of handed (apply_outcome outcome (came tsn r)) ≡ view_with outcome.streams (ready ++ outcome.messages)
  view_is = ap (λ z. view_with outcome.streams z) (sym (append_assoc handed r.ready outcome.messages))

  pub first_is : (forward tsn xs r).first ≡ Some (unwrap_or r.first tsn)
  first_is = ap (λ z. z.first) call_is

  pub row_point : (ps : List ℕ) × Goes message is_interleaved base shift x (forward_comes f ∷ map become_ready ps) handed r.deferred (tracker.forward (origin + k) t) (forward tsn xs r)
  row_point =
      let d = done in
      let settled = subst (λ z. AreSettled z.streams) call_is (settled_passes r shown.settled tsn xs) in
      let point = point_left is_interleaved shift r.streams ready q seen_as shown.mode n w es (λ kind s j. sorted_covers kind s j w.entries) (λ kind s j. sorted_raised kind s w.entries j) upto_is (λ b. all_ordered is_interleaved r.streams (by_stream xs) es b sorted) unnumbered in
      let fewer = left_fewer is_interleaved shift r.streams ready q seen_as shown.mode n w es (λ kind s j. sorted_covers kind s j w.entries) (λ kind s j. sorted_raised kind s w.entries j) upto_is (λ b. all_ordered is_interleaved r.streams (by_stream xs) es b sorted) unnumbered in
      let none_more = none_left message is_interleaved base shift x kept outcome.streams (ready ++ outcome.messages) d.leads.queue d.leads.seen_as settled
      (λ κ c e. sent_of message is_interleaved base shift x kept q shown.refines κ c (fewer κ c (takes_fewer is_interleaved d.leads.takes κ c e))) in
      let l = wire_point_row message is_interleaved base x q m d.leads.queue f kept shown.refines sent are_now point (takes_readied is_interleaved d.leads.takes none_more) in
      let p' : IsSeenAs is_interleaved shift (view_of handed (apply_outcome outcome (came tsn r))) d.leads.queue = subst (λ z. IsSeenAs is_interleaved shift z d.leads.queue) (sym view_is) d.leads.seen_as in (
        l.0,
        subst (λ z. Goes message is_interleaved base shift x (forward_comes f ∷ map become_ready l.0) handed r.deferred (tracker.forward (origin + k) t) z) (sym call_is)
            (goes_to message is_interleaved base shift x kept (forward_comes f) (map become_ready l.0) d.leads.queue l.1 handed r.deferred (tracker.forward (origin + k) t) (apply_outcome outcome (came tsn r)) p'
            (λ i. point_seen t x.receiver.seen shown.seen k f.upto i last) d.mode settled (λ e. cc) refl),
      )
