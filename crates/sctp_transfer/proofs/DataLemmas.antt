-- What an observed fragment leaves.
use Rattle.std.proofs.Common.{◌≡◌, ℕ, Bool, true, false, ◌&&◌, not, IsTrue, refl, sym, ◌∙◌}
use Rattle.sctp_wire.proofs.WordLemmas.{clash}
use Rattle.sctp_chunk.specs.Chunk.{FragmentTree}
use Rattle.sctp_rx.specs.DataTracker.{DataTracker, number_of, is_valid, has_seen}
use Rattle.sctp_rx.specs.ReassemblyQueue.{Reassembly, add, admits_fragment}
use Rattle.spec_endpoint.specs.Association.{Tcb}
use Rattle.sctp_state.specs.Options.{Options}
use Rattle.spec_endpoint.specs.Data.{observe_tsn, added_unless, fragment_if, has_room, told_of_drop, take_data}

-- by whether its TSN is valid, and was seen
abbrev left_by : (valid seen : Bool) → (tsn : ℕ) → (is_immediate : Bool) → FragmentTree → Tcb → Tcb
left_by true seen tsn is_immediate f t = record t { tracker = observe_tsn tsn is_immediate t.tracker; reassembly = added_unless seen tsn f t.reassembly }
left_by false seen tsn is_immediate f t = t

left_if : (valid : Bool) (tsn : ℕ) (is_immediate : Bool) (f : FragmentTree) (t : Tcb)
    → left_by valid (has_seen t.tracker.tracker (number_of t.tracker tsn)) tsn is_immediate f t ≡ fragment_if valid tsn is_immediate f t
left_if true tsn is_immediate f t = refl
left_if false tsn is_immediate f t = refl

new_by : (valid seen : Bool) (tsn : ℕ) (is_immediate : Bool) (f : FragmentTree) (t : Tcb) (d : DataTracker) (r : Reassembly) → (valid && not seen) ≡ true
    → (IsTrue valid → d ≡ observe_tsn tsn is_immediate t.tracker) → r ≡ add tsn f t.reassembly → record t { tracker = d; reassembly = r } ≡ left_by valid seen tsn is_immediate f t
new_by true false tsn is_immediate f t d r e observed added = λ i. record t { tracker = observed refl i; reassembly = added i }
new_by true true tsn is_immediate f t d r e observed added = absurd (cc)
new_by false seen tsn is_immediate f t d r e observed added = absurd (cc)

other_by : (valid seen : Bool) (tsn : ℕ) (is_immediate : Bool) (f : FragmentTree) (t : Tcb) (d : DataTracker) → (valid && not seen) ≡ false
    → (IsTrue valid → d ≡ observe_tsn tsn is_immediate t.tracker) → (valid ≡ false → d ≡ t.tracker) → record t { tracker = d } ≡ left_by valid seen tsn is_immediate f t
other_by true true tsn is_immediate f t d e observed kept = λ i. record t { tracker = observed refl i }
other_by true false tsn is_immediate f t d e observed kept = absurd (clash e)
other_by false seen tsn is_immediate f t d e observed kept = λ i. record t { tracker = kept refl i }

-- one that is valid and new is kept
pub taken_new : (tsn : ℕ) (is_immediate : Bool) (f : FragmentTree) (t : Tcb) (d : DataTracker) (r : Reassembly)
    → (is_valid t.tracker.tracker (number_of t.tracker tsn) && not (has_seen t.tracker.tracker (number_of t.tracker tsn))) ≡ true
    → (IsTrue (is_valid t.tracker.tracker (number_of t.tracker tsn)) → d ≡ observe_tsn tsn is_immediate t.tracker) → r ≡ add tsn f t.reassembly
    → record t { tracker = d; reassembly = r } ≡ fragment_if (is_valid t.tracker.tracker (number_of t.tracker tsn)) tsn is_immediate f t
taken_new tsn is_immediate f t d r new observed added =
    new_by _ _ tsn is_immediate f t d r new observed added ∙ left_if (is_valid t.tracker.tracker (number_of t.tracker tsn)) tsn is_immediate f t

-- another one is not
pub not_taken : (tsn : ℕ) (is_immediate : Bool) (f : FragmentTree) (t : Tcb) (d : DataTracker)
    → (is_valid t.tracker.tracker (number_of t.tracker tsn) && not (has_seen t.tracker.tracker (number_of t.tracker tsn))) ≡ false
    → (IsTrue (is_valid t.tracker.tracker (number_of t.tracker tsn)) → d ≡ observe_tsn tsn is_immediate t.tracker)
    → (is_valid t.tracker.tracker (number_of t.tracker tsn) ≡ false → d ≡ t.tracker)
    → record t { tracker = d } ≡ fragment_if (is_valid t.tracker.tracker (number_of t.tracker tsn)) tsn is_immediate f t
not_taken tsn is_immediate f t d other observed kept =
    other_by _ _ tsn is_immediate f t d other observed kept ∙ left_if (is_valid t.tracker.tracker (number_of t.tracker tsn)) tsn is_immediate f t

-- ---- by whether there is room, and whether it may wait

kept_by : (avoids room valid admitted : Bool) (tsn : ℕ) (is_immediate : Bool) (f : FragmentTree) (t : Tcb) → room ≡ true → admitted ≡ true
    → fragment_if valid tsn is_immediate f t ≡ fragment_if ((room && valid) && admitted) tsn is_immediate f (told_of_drop avoids room t)
kept_by true true true true tsn is_immediate f t e d = refl
kept_by true true false true tsn is_immediate f t e d = refl
kept_by false true true true tsn is_immediate f t e d = refl
kept_by false true false true tsn is_immediate f t e d = refl
kept_by avoids false valid admitted tsn is_immediate f t e d = absurd (clash (sym e))
kept_by avoids true valid false tsn is_immediate f t e d = absurd (clash (sym d))

dropped_by : (avoids room valid admitted : Bool) (tsn : ℕ) (is_immediate : Bool) (f : FragmentTree) (t : Tcb) → room ≡ false
    → told_of_drop avoids false t ≡ fragment_if ((room && valid) && admitted) tsn is_immediate f (told_of_drop avoids room t)
dropped_by avoids true valid admitted tsn is_immediate f t e = absurd (clash e)
dropped_by avoids false valid admitted tsn is_immediate f t e = refl

lost_by : (avoids room valid admitted : Bool) (tsn : ℕ) (is_immediate : Bool) (f : FragmentTree) (t : Tcb) → room ≡ true → admitted ≡ false
    → t ≡ fragment_if ((room && valid) && admitted) tsn is_immediate f (told_of_drop avoids room t)
lost_by true true true false tsn is_immediate f t e d = refl
lost_by true true false false tsn is_immediate f t e d = refl
lost_by false true true false tsn is_immediate f t e d = refl
lost_by false true false false tsn is_immediate f t e d = refl
lost_by avoids false valid admitted tsn is_immediate f t e d = absurd (clash (sym e))
lost_by avoids true valid true tsn is_immediate f t e d = absurd (clash d)

module _ (o : Options) (tsn : ℕ) (is_immediate : Bool) (f : FragmentTree) (t : Tcb) where
  abbrev has : Bool
  has = has_room o tsn t

  abbrev valid : Bool
  valid = is_valid t.tracker.tracker (number_of t.tracker tsn)

  abbrev admitted : Bool
  admitted = admits_fragment tsn f.stream_id t.reassembly

  -- one that has room, and may wait if it does, is taken as ever
  pub kept_so : (u : Tcb) → has_room o tsn t ≡ true → admits_fragment tsn f.stream_id t.reassembly ≡ true
      → u ≡ fragment_if (is_valid t.tracker.tracker (number_of t.tracker tsn)) tsn is_immediate f t → u ≡ take_data o tsn is_immediate f t
  kept_so u room may e = e ∙ kept_by o.avoid_stalls has valid admitted tsn is_immediate f t room may

  -- of one without room the peer may be told
  pub dropped_so : (u : Tcb) → has_room o tsn t ≡ false → u ≡ told_of_drop o.avoid_stalls false t → u ≡ take_data o tsn is_immediate f t
  dropped_so u room e = e ∙ dropped_by o.avoid_stalls has valid admitted tsn is_immediate f t room

  -- one that may not wait is as lost
  pub lost_so : has_room o tsn t ≡ true → admits_fragment tsn f.stream_id t.reassembly ≡ false → t ≡ take_data o tsn is_immediate f t
  lost_so room may = lost_by o.avoid_stalls has valid admitted tsn is_immediate f t room may
