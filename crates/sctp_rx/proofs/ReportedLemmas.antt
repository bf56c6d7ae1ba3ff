-- The blocks of a SACK are the maximal runs of the set above the front, but those behind the first twenty or far above it.
use Rattle.std.proofs.Common.{◌≡◌, ℕ, zero, suc, ◌+◌, ◌-◌, ◌<◌, ◌≤◌, Bool, true, false, ltb, ◌&&◌, if◌then◌else◌, List, [], ◌∷◌, take, refl, sym, ap, ◌∙◌, inl, inr, arith}
use Rattle.std.specs.List.{All, AllByRecursion, Contains}
use Rattle.std.proofs.lemmas.Bool.{cases_lt, cases_order, both_ways, le-leb, lt-leb}
use Rattle.std.proofs.lemmas.Bool.Decides.{nat_tests}
use Rattle.std.proofs.lemmas.List.Elements.{All-from_recursion}
use Rattle.sctp_chunk.specs.declared.sack.GapAckBlock.{GapAckBlock}
use Rattle.sctp_chunk.specs.Covered as covered
use Rattle.sctp_rx.specs.Seen.{Run, Seen, in_runs, AreRuns, contains, IsInRuns}
use Rattle.sctp_rx.specs.Sack.{block, blocks_of, gap_ack_blocks}
use Rattle.sctp_rx.specs.Reported.{is_above, IsMaximalRun, begins_run, runs_below, IsReported}
use Rattle.sctp_rx.proofs.SeenOneFormLemmas.{before_first, past_last, within, later, above_front}

-- ---- how many runs begin

same_count : (s : Seen) (a b : ℕ) → a ≡ b → runs_below s a ≡ runs_below s b
same_count s a b e = ap (λ o. runs_below s o) e

one_more : (s : Seen) (o k : ℕ) (begun : Bool) → begins_run s o ≡ begun → runs_below s o ≡ k → runs_below s (suc o) ≡ k + (if begun then 1 else 0)
one_more s o k begun e f = rw (e, f) refl

-- where none begins, none is counted
runs_below_flat : (s : Seen) (low d : ℕ) → ((o : ℕ) → low ≤ o → o < low + d → begins_run s o ≡ false) → runs_below s (low + d) ≡ runs_below s low
runs_below_flat s low zero none = same_count s (low + 0) low (omega arith)
runs_below_flat s low (suc d) none =
    let before = runs_below_flat s low d (λ o h k. none o h (omega (arith, k))) in
    let here = none (low + d) (omega arith) (omega arith) in
    same_count s (low + suc d) (suc (low + d)) (omega arith) ∙ (one_more s (low + d) (runs_below s low) false here before ∙ plus_zero (runs_below s low))
  where
    plus_zero : (k : ℕ) → k + 0 ≡ k
    plus_zero k = omega arith

step_rises : (s : Seen) (o : ℕ) → runs_below s o ≤ runs_below s (suc o)
step_rises s o = rises (runs_below s o) (begins_run s o)
  where
    rises : (k : ℕ) (v : Bool) → k ≤ k + (if v then 1 else 0)
    rises k true = omega arith
    rises k false = omega arith

runs_below_rises : (s : Seen) (low d : ℕ) → runs_below s low ≤ runs_below s (low + d)
runs_below_rises s low zero =
    let same = same_count s (low + 0) low (omega arith) in
    equal_at_most (runs_below s low) (runs_below s (low + 0)) same
  where
    equal_at_most : (a b : ℕ) → b ≡ a → a ≤ b
    equal_at_most a b e = omega (arith, e)
runs_below_rises s low (suc d) =
    let same = same_count s (low + suc d) (suc (low + d)) (omega arith) in
    passes (runs_below s low) (runs_below s (low + d)) (runs_below s (suc (low + d))) (runs_below s (low + suc d)) (runs_below_rises s low d) (step_rises s (low + d)) same
  where
    passes : (a b c d : ℕ) → a ≤ b → b ≤ c → d ≡ c → a ≤ d
    passes a b c d h k e = omega (arith, h, k, e)

none_begins : (s : Seen) (o : ℕ) → is_above s o ≡ false → begins_run s o ≡ false
none_begins s o e = rw e refl

goes_on : (s : Seen) (o : ℕ) → is_above s (o - 1) ≡ true → begins_run s o ≡ false
goes_on s o e = rw e (never (is_above s o))
  where
    never : (v : Bool) → (v && false) ≡ false
    never true = refl
    never false = refl

begins : (s : Seen) (o : ℕ) → is_above s o ≡ true → is_above s (o - 1) ≡ false → begins_run s o ≡ true
begins s o e f = rw (e, f) refl

module _ (s : Seen) where
  -- the runs above q, of which k runs begin below
  record Left (q k : ℕ) (rs : List Run) : Type 0 where
    onward : s.front ≤ q
    runs : AreRuns q rs
    shows : (n : ℕ) → q < n → contains s n ≡ in_runs rs n
    count : runs_below s (q - s.front + 1) ≡ k

  above : (q k o : ℕ) (rs : List Run) → Left q k rs → q < s.front + o → is_above s o ≡ in_runs rs (s.front + o)
  above q k o rs l h = some (contains s (s.front + o)) (omega (arith, h, l.onward)) ∙ l.shows (s.front + o) h
    where
      some : (v : Bool) → 0 < o → (ltb 0 o && v) ≡ v
      some v k = grind (arith, nat_tests)

  record Next (q k : ℕ) (r : Run) (rs : List Run) : Type 0 where
    maximal : IsMaximalRun s (block s.front r)
    count : runs_below s (r.first - s.front) ≡ k
    left : Left r.last (suc k) rs

  module _ (q k : ℕ) (r : Run) (rs : List Run) (l : Left q k (r ∷ rs)) where
    start : ℕ
    start = r.first - s.front

    is_within : (o : ℕ) → r.first ≤ s.front + o → s.front + o ≤ r.last → is_above s o ≡ true
    is_within o h m = above q k o (r ∷ rs) l (omega (arith, l.runs.0)) ∙ within (s.front + o) r rs h m

    is_before : (o : ℕ) → q < s.front + o → s.front + o < r.first → is_above s o ≡ false
    is_before o h m = above q k o (r ∷ rs) l h ∙ before_first q (s.front + o) r rs l.runs m

    next_number : s.front + (r.last - s.front + 1) ≡ r.last + 1
    next_number = omega (arith, l.onward, l.runs.0, l.runs.1)

    is_behind : is_above s (r.last - s.front + 1) ≡ false
    is_behind =
        above q k (r.last - s.front + 1) (r ∷ rs) l (omega (arith, l.onward, l.runs.0, l.runs.1))
        ∙ (ap (λ n. in_runs (r ∷ rs) n) next_number ∙ past_last q r rs l.runs)

    is_maximal : IsMaximalRun s (block s.front r)
    is_maximal = record {
      full = omega (arith, l.runs.1);
      inside = λ o h m. is_within o (omega (arith, h)) (omega (arith, m, l.onward, l.runs.0, l.runs.1));
      before = λ o e. is_before o (omega (arith, e, l.onward, l.runs.0)) (omega (arith, e));
      behind = is_behind;
    }

    count_before : runs_below s (r.first - s.front) ≡ k
    count_before =
        let low : ℕ = q - s.front + 1 in
        let d : ℕ = r.first - s.front - low in
        let none = runs_below_flat s low d (λ o h m. none_begins s o (is_before o (omega (arith, h, l.onward)) (omega (arith, m)))) in
        same_count s (r.first - s.front) (low + d) (omega (arith, l.onward, l.runs.0)) ∙ (none ∙ l.count)

    count_here : runs_below s (r.first - s.front + 1) ≡ suc k
    count_here =
        let o : ℕ = r.first - s.front in
        let new = begins s o (is_within o (omega (arith, l.onward, l.runs.0)) (omega (arith, l.onward, l.runs.0, l.runs.1))) (is_before (o - 1) (omega (arith, l.onward, l.runs.0)) (omega (arith, l.onward, l.runs.0))) in
        let e : k + 1 ≡ suc k = omega arith in
        same_count s (o + 1) (suc o) (omega arith) ∙ (one_more s o k true new count_before ∙ e)

    count_behind : runs_below s (r.last - s.front + 1) ≡ suc k
    count_behind =
        let low : ℕ = r.first - s.front + 1 in
        let d : ℕ = r.last - r.first in
        let none = runs_below_flat s low d (λ o h m. goes_on s o (is_within (o - 1) (omega (arith, h, l.onward, l.runs.0)) (omega (arith, h, m, l.onward, l.runs.0, l.runs.1)))) in
        same_count s (r.last - s.front + 1) (low + d) (omega (arith, l.onward, l.runs.0, l.runs.1)) ∙ (none ∙ count_here)

    next : Next q k r rs
    next = record {
      maximal = is_maximal;
      count = count_before;
      left = record {
        onward = omega (arith, l.onward, l.runs.0, l.runs.1);
        runs = l.runs.2;
        shows = λ n h. l.shows n (omega (arith, h, l.runs.0, l.runs.1)) ∙ later n r rs h;
        count = count_behind;
      };
    }

    -- a maximal run that begins here is this one
    is_this : (b : GapAckBlock) → IsMaximalRun s b → q < s.front + b.start → s.front + b.start ≤ r.last → b ≡ block s.front r
    is_this b m low high =
        let made : ℕ → ℕ → GapAckBlock = λ x y. record { start = x; end = y } in
        ap (λ x. made x b.end) starts ∙ ap (λ y. made (r.first - s.front) y) ends
      where
        starts : b.start ≡ r.first - s.front
        starts =
            elim (cases_order b.start (r.first - s.front)) [
              | inl e ↦ e
              | inr (inl less) ↦ absurd (both_ways _ (is_before b.start low (omega (arith, less))) (m.inside b.start (omega arith) m.full))
              | inr (inr more) ↦ absurd (both_ways _ (m.before (b.start - 1) (omega (arith, more))) (is_within (b.start - 1) (omega (arith, more)) (omega (arith, high))))
            ]

        ends : b.end ≡ r.last - s.front
        ends =
            elim (cases_order b.end (r.last - s.front)) [
              | inl e ↦ e
              | inr (inl less) ↦ absurd (both_ways _ m.behind (is_within (b.end + 1) (omega (arith, starts, m.full, l.onward, l.runs.0)) (omega (arith, less))))
              | inr (inr more) ↦ absurd (both_ways _ is_behind (m.inside (r.last - s.front + 1) (omega (arith, high)) (omega (arith, more))))
            ]

  -- ---- each block is reported

  reported_from : (q k n : ℕ) (rs : List Run) → Left q k rs → k + n ≡ 20 → AllByRecursion (IsReported s) (blocks_of s.front (take n rs))
  reported_from q k zero rs l e = tt
  reported_from q k (suc n) [] l e = tt
  reported_from q k (suc n) (r ∷ rs) l e =
      let here = next q k r rs l in
      let others = reported_from r.last (suc k) n rs here.left (omega (arith, e)) in
      elim (cases_lt 65535 (r.last - s.front)) [
        | inl far ↦ rw (lt-leb (r.last - s.front) 65535 far) others
        | inr near ↦ rw (le-leb (r.last - s.front) 65535 near) (record { maximal = here.maximal; early = omega (arith, here.count, e); near = near }, others)
      ]

  -- ---- ascending, with an offset between that was not seen

  apart_from : (low q n : ℕ) (rs : List Run) → s.front ≤ q → AreRuns q rs → low ≤ q - s.front + 2 → covered.AreRuns low (blocks_of s.front (take n rs))
  apart_from low q zero rs h a l = tt
  apart_from low q (suc n) [] h a l = tt
  apart_from low q (suc n) (r ∷ rs) h a l =
      elim (cases_lt 65535 (r.last - s.front)) [
        | inl far ↦ rw (lt-leb (r.last - s.front) 65535 far) (apart_from low r.last n rs (omega (arith, h, a.0, a.1)) a.2 (omega (arith, h, l, a.0, a.1)))
        | inr near ↦ rw (le-leb (r.last - s.front) 65535 near) (omega (arith, h, l, a.0), omega (arith, a.1), apart_from (r.last - s.front + 2) r.last n rs (omega (arith, h, a.0, a.1)) a.2 (omega arith))
      ]

  -- ---- each run that is reported is a block

  behind : (x b : GapAckBlock) (bs : List GapAckBlock) → Contains bs b → Contains (x ∷ bs) b
  behind x b bs found = (suc found.0, omega (arith, found.1), found.2)

  every_from : (q k n : ℕ) (rs : List Run) (b : GapAckBlock) → Left q k rs → k + n ≡ 20 → IsReported s b → q < s.front + b.start → Contains (blocks_of s.front (take n rs)) b
  every_from q k zero rs b l e t h =
      let low : ℕ = q - s.front + 1 in
      let more = runs_below_rises s low (b.start - low) in
      let same = same_count s (low + (b.start - low)) b.start (omega (arith, h, l.onward)) in
      absurd (omega (arith, l.count, t.early, more, same, e))
  every_from q k (suc n) [] b l e t h =
      absurd (both_ways _ (above q k b.start [] l h) (t.maximal.inside b.start (omega arith) t.maximal.full))
  every_from q k (suc n) (r ∷ rs) b l e t h =
      let here = next q k r rs l in
      elim (cases_lt r.last (s.front + b.start)) [
        | inl past ↦
            let found = every_from r.last (suc k) n rs b here.left (omega (arith, e)) t past in
            elim (cases_lt 65535 (r.last - s.front)) [
              | inl far ↦ rw (lt-leb (r.last - s.front) 65535 far) found
              | inr near ↦ rw (le-leb (r.last - s.front) 65535 near) (behind (block s.front r) b (blocks_of s.front (take n rs)) found)
            ]
        | inr reaches ↦
            let this = is_this q k r rs l b t.maximal h reaches in
            let near : r.last - s.front ≤ 65535 = omega (arith, ap (λ (x : GapAckBlock). x.end) this, t.near) in
            rw (le-leb (r.last - s.front) 65535 near) (zero, omega arith, sym this)
      ]

  module _ (i : IsInRuns s) where
    all_left : Left s.front 0 s.runs
    all_left = record {
      onward = omega arith;
      runs = i;
      shows = λ n h. above_front s.front n s.runs h;
      count = none;
    }
      where
        none : runs_below s (s.front - s.front + 1) ≡ 0
        none = same_count s (s.front - s.front + 1) 1 (omega arith) ∙ one_more s 0 0 false (none_begins s 0 refl) refl

    pub blocks_are_reported : All (IsReported s) (gap_ack_blocks s)
    blocks_are_reported = All-from_recursion (IsReported s) (gap_ack_blocks s) (reported_from s.front 0 20 s.runs all_left refl)

    pub blocks_stand_apart : covered.AreRuns 2 (gap_ack_blocks s)
    blocks_stand_apart = apart_from 2 s.front 20 s.runs (omega arith) i (omega arith)

    pub reported_are_blocks : (b : GapAckBlock) → IsReported s b → Contains (gap_ack_blocks s) b
    reported_are_blocks b t = every_from s.front 0 20 s.runs b all_left refl t (some b.start (t.maximal.inside b.start (omega arith) t.maximal.full))
      where
        some : (o : ℕ) → is_above s o ≡ true → s.front < s.front + o
        some zero e = absurd (cc)
        some (suc o) e = omega arith
