-- TSNs are near the last one that came, and near the tracker's front.
use Rattle.std.proofs.Common.{◌≡◌, ℕ, suc, ◌+◌, ◌-◌, ◌%◌, ◌^◌, ◌<◌, ◌≤◌, max, Bool, true, false, inl, inr, Option, Some, None, List, refl, sym, ap, ◌∙◌, subst, arith, ltb, leb}
use Rattle.std.specs.Prelude.{◌||◌, not, nat_lt, unwrap_or}
use Rattle.std.proofs.lemmas.Bool.{cases_lt, cond-true, cond-false, lt-ltb, le-ltb}
use Rattle.std.proofs.lemmas.Bool.Decides.{nat_tests}
use Rattle.sctp_serial.specs.Messages as messages
use Rattle.sctp_serial.specs.Unwrapped.{origin, u32_space, wire, nearest}
use Rattle.sctp_rx.specs.Seen.{in_runs}
use Rattle.sctp_rx.specs.DataTracker as tracker
use Rattle.sctp_rx.specs.DataTracker.{DataTracker, Tracker, IsTracker, moves_on}
use Rattle.sctp_rx.specs.ReassemblyQueue.{Reassembly, near_first, number_of, came}
use Rattle.sctp_rx.proofs.SeenRunsLemmas.{next_is_new}
use Rattle.proof_protocol.specs.State.{Message, Transfer, count}
use Rattle.proof_protocol.specs.Windows.{IsNear, IsTimely}
use Rattle.proof_protocol.specs.Invariant.{Invariant}
use Rattle.proof_protocol.proofs.ToolsLemmas.{not_both}
use Rattle.proof_protocol.proofs.WindowsLemmas.{front_window, words_read}
use Rattle.proof_refines.specs.View.{was_seen}
use Rattle.proof_refines.specs.Read.{shift_after}
use Rattle.proof_refines.specs.ReceiverRefinement.{ReceiverRefines}
use Rattle.proof_refines.specs.Near.{IsNearLast, IsNearQueue, IsInWindow}

-- a number less than half its space away is read as it was meant, also from just below `origin`
pub words_near : (first near n : ℕ) → IsNear (2 ^ 31) near n → 2 ^ 31 ≤ near → nearest (2 ^ 32) first near (wire (2 ^ 32) first n) ≡ n
words_near first near n d far =
    let a = d.0 in
    let b = d.1 in
    let ahead = (wire (2 ^ 32) first n + 2 ^ 32 - wire (2 ^ 32) first near) % 2 ^ 32 in
    elim (cases_lt ahead (2 ^ 31)) [
      | inl p ↦ let e : near + ahead ≡ n = omega (arith, a, b, far, p) in cond-true (ltb ahead (2 ^ 31)) (near + ahead) ((near + ahead) - 2 ^ 32) (lt-ltb ahead (2 ^ 31) p) ∙ e
      | inr p ↦ let e : (near + ahead) - 2 ^ 32 ≡ n = omega (arith, a, b, far, p) in cond-false (ltb ahead (2 ^ 31)) (near + ahead) ((near + ahead) - 2 ^ 32) (le-ltb ahead (2 ^ 31) p) ∙ e
    ]

-- a fragment is written the same where numbers are counted from fragment `shift`
written_from : (first shift k n : ℕ) → n + shift ≡ origin + k → wire u32_space (wire u32_space first (origin + shift)) n ≡ wire u32_space first (origin + k)
written_from first shift k n e = omega (arith, e)

module _ (message : ℕ → Message) (is_interleaved : Bool) (x : Transfer) (kept : Invariant message is_interleaved x) where
  -- what was not seen is not acknowledged
  pub not_acknowledged : (k : ℕ) → x.receiver.seen k ≡ false → x.acknowledged ≤ k
  not_acknowledged k unseen = elim (cases_lt k x.acknowledged) [ inl l ↦ absurd (not_both (kept.acknowledged_true.all_seen k l) unseen) | inr g ↦ g ]

  module _ (windows : IsInWindow x) where
    pub counted_from : (k : ℕ) → x.acknowledged ≤ k → k < count x.sender → count x.sender ≤ k + 2 ^ 30
    counted_from k a b = let i = windows (omega (arith, a, b)) in omega (arith, a, i)

    near_last : (first shift near w : ℕ) (q : IsNearLast first shift x near w) (k : ℕ) → x.acknowledged ≤ k → k < count x.sender → IsNear (2 ^ 31) q.last k
    near_last first shift near w q k a b =
        let c = counted_from k a b in
        let d = q.ahead in
        let e = q.numbered in
        let g = q.window in (
          omega (arith, c, d, e),
          elim (cases_lt q.upto (count x.sender)) [
            | inl l ↦ let h = counted_from q.upto (not_acknowledged q.upto (unseen (x.receiver.seen q.upto) refl)) l in omega (arith, b, g, h)
            | inr h ↦ omega (arith, b, g, h)
          ],
        )
      where
        unseen : (s : Bool) → x.receiver.seen q.upto ≡ s → s ≡ false
        unseen false e = refl
        unseen true e = let l = q.seen q.upto e in absurd (omega (arith, l))

    module _ (first shift : ℕ) (r : Reassembly) (near : IsNearQueue first shift x r) (k tsn : ℕ) (tsn_is : tsn ≡ wire u32_space first (origin + k)) (a : x.acknowledged ≤ k) (b : k < count x.sender) where
      -- the queue reads a TSN that is not acknowledged
      pub tsn_is_read : number_of r tsn + shift_after r.first shift k ≡ origin + k
      tsn_is_read = go r.first refl
        where
          go : (o : Option ℕ) → r.first ≡ o → near_first o r.near tsn + shift_after o shift k ≡ origin + k
          go None e = refl
          go (Some w) e =
              let q = near w e in
              let d = near_last first shift r.near w q k a b in
              let below = d.0 in
              let above = d.1 in
              let at = q.near_is in
              let from = q.from in
              let n = (origin + k) - shift in
              let n_is : n + shift ≡ origin + k = omega (arith, below, from) in
              let written : wire u32_space w n ≡ tsn = ap (λ z. wire u32_space z n) q.written ∙ (written_from first shift k n n_is ∙ sym tsn_is) in
              let read : nearest u32_space w r.near (wire u32_space w n) ≡ n = words_read w r.near n (omega (arith, below, at, n_is), omega (arith, above, at, n_is)) (omega (arith, at, from)) in
              ap (λ z. nearest u32_space w r.near z + shift) (sym written) ∙ (ap (λ z. z + shift) read ∙ n_is)

      -- and is near it after
      pub near_after : (y : Transfer) → Invariant message is_interleaved y → y.sender ≡ x.sender → IsNearQueue first (shift_after r.first shift k) y (came tsn r)
      near_after y later same = go r.first refl tsn_is_read
        where
          few : count x.sender ≤ k + 2 ^ 30
          few = counted_from k a b

          seen : (t : ℕ) → y.receiver.seen t ≡ true → t < count x.sender
          seen t s = subst (λ o. t < count o) same (later.incoming.seen_below t s)

          numbered : count x.sender ≤ count y.sender
          numbered = let e = ap count same in omega (arith, e)

          go : (o : Option ℕ) → r.first ≡ o → near_first o r.near tsn + shift_after o shift k ≡ origin + k
              → (w : ℕ) → Some (unwrap_or o tsn) ≡ Some w → IsNearLast first (shift_after o shift k) y (max origin (near_first o r.near tsn)) w
          go None e is w s =
              let w_is : tsn ≡ w = cc in
              record { written = sym w_is ∙ tsn_is; last = k; upto = count x.sender; near_is = refl; from = omega arith; ahead = b; window = few; numbered = numbered; seen = seen }
          go (Some v) e is w s =
              let w_is : v ≡ w = cc in
              let q = near v e in
              let c = q.from in
              let d = q.ahead in
              let g = q.numbered in
              record {
                written = sym w_is ∙ q.written;
                last = max shift k;
                upto = count x.sender;
                near_is = omega (arith, is);
                from = omega arith;
                ahead = omega (arith, b, c, d, g);
                window = omega (arith, few);
                numbered = numbered;
                seen = seen;
              }

-- ---- the tracker

module _ (message : ℕ → Message) (is_interleaved : Bool) (base : Bool → ℕ → ℕ) (shift : ℕ) (x : Transfer) (kept : Invariant message is_interleaved x) (handed : List messages.Message) (t : Tracker) (r : Reassembly)
    (shown : ReceiverRefines message is_interleaved base shift x handed t r) (is_tracker : IsTracker t) where
  -- the fragment above its front is the first that is not seen
  front_is : (f : ℕ) → origin + f ≡ suc t.seen.front → (x.acknowledged ≤ f) × (f ≤ count x.sender)
  front_is f e = front_window message is_interleaved x kept f (sym (shown.seen f) ∙ unseen (was_seen t f) (next_is_new t.seen.front (origin + f) t.seen.runs is_tracker.runs (omega (arith, e)))) (λ n l. sym (shown.seen n) ∙ below n l)
    where
      unseen : (b : Bool) → true ≡ not b → b ≡ false
      unseen false s = refl
      unseen true s = cc

      below : (n : ℕ) → n < f → was_seen t n ≡ true
      below n l = by (in_runs t.seen.runs (origin + n)) t.seen.front e l
        where
          by : (b : Bool) (d : ℕ) → origin + f ≡ suc d → n < f → (leb (origin + n) d || b) ≡ true
          by b d e l = grind (arith, nat_tests)

  abbrev pub front : ℕ
  front = suc t.seen.front - origin

  at : origin + front ≡ suc t.seen.front
  at = let l = is_tracker.least in let b = is_tracker.begun in omega (arith, l, b)

  -- it is not seen, and not above what would move the front
  pub front_unseen : x.receiver.seen front ≡ false
  front_unseen = sym (shown.seen front) ∙ unseen (was_seen t front) (next_is_new t.seen.front (origin + front) t.seen.runs is_tracker.runs (let e = at in omega (arith, e)))
    where
      unseen : (b : Bool) → true ≡ not b → b ≡ false
      unseen false s = refl
      unseen true s = cc

  pub front_below : (k : ℕ) → moves_on (origin + k) t ≡ true → front < suc k
  front_below k moves = let e = at in by t.seen.front front moves e
    where
      by : (a f : ℕ) → nat_lt a (origin + k) ≡ true → origin + f ≡ suc a → f < suc k
      by a f m e = grind (arith, nat_tests)

  -- what lies above the front is not acknowledged
  pub above_front : (k : ℕ) → moves_on (origin + k) t ≡ true → x.acknowledged ≤ k
  above_front k moves = let w = (front_is front at).0 in let e = at in by (t.seen.front) (front) moves e w
    where
      by : (a f : ℕ) → nat_lt a (origin + k) ≡ true → origin + f ≡ suc a → x.acknowledged ≤ f → x.acknowledged ≤ k
      by a f m e w = grind (arith, nat_tests)

-- a TSN that was emitted when n fragments were numbered, and its own or those above it were kept
pub tracker_reads : (message : ℕ → Message) (is_interleaved : Bool) (base : Bool → ℕ → ℕ) (shift : ℕ) (x : Transfer) (handed : List messages.Message) (d : DataTracker) (r : Reassembly) (k n : ℕ) → Invariant message is_interleaved x → IsInWindow x → ReceiverRefines message is_interleaved base shift x handed d.tracker r → IsTracker d.tracker
    → k < n → n ≤ k + 2 ^ 30 → IsTimely x n → tracker.number_of d (wire u32_space d.first (origin + k)) ≡ origin + k
tracker_reads message is_interleaved base shift x handed d r k n kept windows shown is_tracker below near timely =
    let e = at message is_interleaved base shift x kept handed d.tracker r shown is_tracker in
    let f = front message is_interleaved base shift x kept handed d.tracker r shown is_tracker in
    let w = front_is message is_interleaved base shift x kept handed d.tracker r shown is_tracker f e in
    let lo = w.0 in
    let hi = w.1 in
    let c = timely.0 in
    let g = timely.1 in
    let ahead : k < f + 2 ^ 30 =
    elim (cases_lt x.acknowledged (count x.sender)) [
      | inl l ↦ let i = windows l in omega (arith, below, c, lo, i)
      | inr h ↦ omega (arith, below, c, lo, h)
    ] in
    words_near d.first d.tracker.seen.front (origin + k) (omega (arith, e, hi, g, near), omega (arith, e, ahead)) (omega (arith, e))
