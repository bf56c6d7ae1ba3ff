-- The rows of a receiver are sequences of the rules.
use Rattle.std.proofs.Common.{◌≡◌, ℕ, zero, suc, ◌<◌, ◌≤◌, Bool, true, false, not, cond, ◌&&◌, ◌||◌, inl, inr, List, [], ◌∷◌, ◌++◌, map, refl, sym, ap, ◌∙◌, arith, eqb}
use Rattle.std.proofs.lemmas.Bool.{cases_lt, cases_eq, and_parts, and_from, or_left, cond-true, eq-eqb, eqb-true, not_from_false, not-true, false_from_ne_true}
use Rattle.proof_protocol.specs.State.{Message, Transfer, fragment, place_of, count, gather, ordered_of, stream_of}
use Rattle.proof_protocol.specs.Rules.{become_ready, IsRipe, Happens, after, run}
use Rattle.proof_protocol.specs.Reassembly.{concatenation, Chunk, chunk_of, Queue, nth, ReadyRun, RunTaken, Readied, no_more, one_more, Sees, KeyLaws}
use Rattle.proof_protocol.specs.Invariant.{Invariant}
use Rattle.proof_protocol.proofs.ToolsLemmas.{not_both}
use Rattle.proof_protocol.proofs.IndexedLemmas.{joined_same}
use Rattle.proof_protocol.proofs.PiecesLemmas.{Pieces, which, pieces_complete, pieces_payload, complete_pieces}
use Rattle.proof_protocol.proofs.RulesKeepLemmas.{keeps}
use Rattle.proof_protocol.proofs.CommonLemmas.{none_some}

module _ (Key : Type 0) (succ : Key → Key) (message : ℕ → Message) (is_interleaved : Bool) (x : Transfer) (k : Invariant message is_interleaved x)
    (key : ℕ → Key) (below : Key → ℕ → Bool) (laws : KeyLaws Key succ is_interleaved x.sender key below) (q : Queue Key succ) (s : Sees Key succ message is_interleaved x.sender x.receiver key q) where
  in_count : (t : ℕ) → x.receiver.held t ≡ true → t < count x.sender
  in_count t h = k.incoming.seen_below t (k.incoming.held_seen t h)

  -- an ordered chunk has its message's number
  own_number : (t : ℕ) → ordered_of message (place_of x.sender t) ≡ true → (chunk_of message is_interleaved x.sender t).number ≡ x.sender.number (place_of x.sender t)
  own_number t h = cond-true (ordered_of message (place_of x.sender t) || is_interleaved) (x.sender.number (place_of x.sender t)) 0 (or_left (ordered_of message (place_of x.sender t)) is_interleaved h)

  module _ (κ : Key) (n : ℕ) (w : ℕ → Chunk) (y : ReadyRun Key succ q κ n w) where
    -- the fragments of the run. Past its end, any
    found : (j : ℕ) → (t : ℕ) × (j ≤ n → (x.receiver.held t ≡ true) × (key t ≡ nth Key succ κ j) × (w j ≡ chunk_of message is_interleaved x.sender t))
    found j =
        elim (cases_lt n j) [
          | inl l ↦ (0, λ h. absurd (omega (arith, l, h)))
          | inr g ↦ let f = s.held (nth Key succ κ j) (w j) (y.held j g) in (f.0, λ h. (f.1, f.2, f.3))
        ]

    abbrev ts : ℕ → ℕ
    ts j = (found j).0

    held_at : (j : ℕ) → j ≤ n → x.receiver.held (ts j) ≡ true
    held_at j h = ((found j).1 h).0

    key_at : (j : ℕ) → j ≤ n → key (ts j) ≡ nth Key succ κ j
    key_at j h = ((found j).1 h).1

    chunk_at : (j : ℕ) → j ≤ n → w j ≡ chunk_of message is_interleaved x.sender (ts j)
    chunk_at j h = ((found j).1 h).2

    place_at : (j : ℕ) → j ≤ n → (place_of x.sender (ts j) ≡ place_of x.sender (ts 0)) × ((fragment x.sender (ts j)).index ≡ j)
    place_at zero h = (refl, eqb-true ((fragment x.sender (ts 0)).index) 0 (sym (ap (λ z. z.is_beginning) (chunk_at 0 h)) ∙ y.begins))
    place_at (suc j) h =
        let le : j ≤ n = omega (arith, h) in
        let ih = place_at j le in
        let l = sym (ap (λ z. z.is_end) (chunk_at j le)) ∙ y.inner j h in
        let e = key_at (suc j) h ∙ ap succ (sym (key_at j le)) in
        let f = laws.follows (ts j) (ts (suc j)) (in_count (ts j) (held_at j le)) (in_count (ts (suc j)) (held_at (suc j) h)) l e in
        (f.0 ∙ ih.0, f.1 ∙ ap suc ih.1)

    pieces : Pieces x.sender x.receiver (place_of x.sender (ts 0)) n ts
    pieces = record {
      held = held_at;
      place_is = λ j h. (place_at j h).0;
      index_is = λ j h. (place_at j h).1;
      ends = sym (ap (λ z. z.is_end) (chunk_at n (omega arith))) ∙ y.ends;
    }

    chunk_zero : w 0 ≡ chunk_of message is_interleaved x.sender (ts 0)
    chunk_zero = chunk_at 0 (omega arith)

    ripe : IsRipe message x.sender x.receiver (place_of x.sender (ts 0))
    ripe = record {
      complete = pieces_complete message is_interleaved x.sender k.outgoing k.indexed x.receiver k.incoming (place_of x.sender (ts 0)) n ts pieces;
      in_turn = λ h.
          sym (ap (λ z. z.number) chunk_zero ∙ own_number (ts 0) h) ∙ (y.in_turn (ap (λ z. z.ordered) chunk_zero ∙ h) ∙ (s.next_is (w 0).stream ∙ ap x.receiver.next (ap (λ z. z.stream) chunk_zero)));
    }

    abbrev delivered : Transfer
    delivered = after message is_interleaved x (become_ready (place_of x.sender (ts 0)))

    sees_delivered : (r : Queue Key succ) → RunTaken Key succ q r κ n w → Sees Key succ message is_interleaved delivered.sender delivered.receiver key r
    sees_delivered r z = record {
      holds = λ t h.
          let p = and_parts (x.receiver.held t) (not (eqb (place_of x.sender t) (place_of x.sender (ts 0)))) h in
          let ne = not-true (eqb (place_of x.sender t) (place_of x.sender (ts 0))) p.1 in
          z.kept (key t) (λ j le e.
          let same = laws.one t (ts j) (in_count t p.0) (in_count (ts j) (held_at j le)) (e ∙ sym (key_at j le)) in
          not_both (eq-eqb (place_of x.sender t) (place_of x.sender (ts 0)) (ap (place_of x.sender) same ∙ (place_at j le).0)) ne)
          ∙ s.holds t p.0;
      held = λ κ' w' e.
          let old = sym (z.kept κ' (λ j le f. absurd (none_some (r.chunks κ') w' e (ap r.chunks f ∙ z.removed j le)))) ∙ e in
          let f = s.held κ' w' old in
          let ne = false_from_ne_true (eqb (place_of x.sender f.0) (place_of x.sender (ts 0))) (λ b.
          let one = which message is_interleaved x.sender k.outgoing k.indexed x.receiver k.incoming (place_of x.sender (ts 0)) n ts pieces f.0 (in_count f.0 f.1) (eqb-true (place_of x.sender f.0) (place_of x.sender (ts 0)) b) in
          let kk = sym f.2 ∙ (ap key one.2 ∙ key_at one.0 one.1) in
          none_some (r.chunks κ') w' e (ap r.chunks kk ∙ z.removed one.0 one.1)) in
          (f.0, and_from (x.receiver.held f.0) (not (eqb (place_of x.sender f.0) (place_of x.sender (ts 0)))) f.1 (not_from_false (eqb (place_of x.sender f.0) (place_of x.sender (ts 0))) ne), f.2, f.3);
      next_is = λ a.
          z.next a ∙ (ap (λ c. cond (c.ordered && eqb a c.stream) (suc c.number) (q.next a)) chunk_zero
          ∙ (next_same (ordered_of message (place_of x.sender (ts 0))) (eqb a (stream_of message (place_of x.sender (ts 0)))) _ _ (q.next a) (own_number (ts 0))
          ∙ ap (λ m. cond (ordered_of message (place_of x.sender (ts 0)) && eqb a (stream_of message (place_of x.sender (ts 0)))) (suc (x.sender.number (place_of x.sender (ts 0)))) m) (s.next_is a)));
      passed_is = λ m a. z.passed a ∙ s.passed_is m a;
      ready_is =
          z.ready ∙ (ap (λ l. l ++ record { stream = (w 0).stream; protocol_id = (w 0).protocol_id; payload = concatenation (λ j. (w j).payload) (suc n) } ∷ []) s.ready_is
          ∙ (ap (λ l. x.receiver.ready ++ record { stream = (w 0).stream; protocol_id = (w 0).protocol_id; payload = l } ∷ []) payload_is
          ∙ ap (λ c. x.receiver.ready ++ record { stream = c.stream; protocol_id = c.protocol_id; payload = gather (place_of x.sender (ts 0)) x.sender.numbered } ∷ []) chunk_zero));
    }
      where
        next_same : (b c : Bool) (n m v : ℕ) → (b ≡ true → n ≡ m) → cond (b && c) (suc n) v ≡ cond (b && c) (suc m) v
        next_same true c n m v h = ap (λ z. cond c (suc z) v) (h refl)
        next_same false c n m v h = refl

        payload_is : concatenation (λ j. (w j).payload) (suc n) ≡ gather (place_of x.sender (ts 0)) x.sender.numbered
        payload_is =
            joined_same (λ j. (w j).payload) (λ j. (fragment x.sender (ts j)).payload) (suc n) (λ j h. ap (λ c. c.payload) (chunk_at j (omega (arith, h))))
            ∙ sym (pieces_payload message is_interleaved x.sender k.outgoing k.indexed x.receiver k.incoming (place_of x.sender (ts 0)) n ts pieces)

  -- with no run that is ready, no message is ripe
  pub none_ripe : ((κ : Key) (n : ℕ) (w : ℕ → Chunk) → ReadyRun Key succ q κ n w → ⊥) → (p : ℕ) → IsRipe message x.sender x.receiver p → ⊥
  none_ripe none p r =
      let c = complete_pieces message is_interleaved x.sender k.outgoing k.indexed x.receiver k.incoming p r.complete in
      let n = c.0 in
      let us = c.1 in
      let y = c.2 in
      let e = y.place_is 0 (omega arith) in
      none (key (us 0)) n (λ j. chunk_of message is_interleaved x.sender (us j)) (record {
        held = λ j h. ap q.chunks (sym (keys n us y j h)) ∙ s.holds (us j) (y.held j h);
        begins = eq-eqb ((fragment x.sender (us 0)).index) 0 (y.index_is 0 (omega arith));
        ends = y.ends;
        inner = λ j h.
            false_from_ne_true ((fragment x.sender (us j)).is_end) (λ l.
            let le : j ≤ n = omega (arith, h) in
            let hj = in_count (us j) (y.held j le) in
            let hn = in_count (us n) (y.held n (omega arith)) in
            let a = k.outgoing.last_ends (us j) (us n) hj hn (y.place_is j le ∙ sym (y.place_is n (omega arith))) l in
            let ij = y.index_is j le in
            let iz = y.index_is n (omega arith) in
            elim (cases_eq (us n) (us j)) [
              | inl q ↦ let b = ap (λ z. (fragment x.sender z).index) q in absurd (omega (arith, b, ij, iz, h))
              | inr d ↦ let b = k.indexed.index_rises (us n) (us j) (omega (arith, a, d)) hj (y.place_is n (omega arith) ∙ sym (y.place_is j le)) in absurd (omega (arith, b, ij, iz, h))
            ]);
        in_turn = λ h. own_number (us 0) h ∙ (ap x.sender.number e ∙ (r.in_turn (sym (ap (ordered_of message) e) ∙ h) ∙ (ap x.receiver.next (sym (ap (stream_of message) e)) ∙ sym (s.next_is (stream_of message (place_of x.sender (us 0)))))));
      })
    where
      keys : (n : ℕ) (us : ℕ → ℕ) → Pieces x.sender x.receiver p n us → (j : ℕ) → j ≤ n → key (us j) ≡ nth Key succ (key (us 0)) j
      keys n us y zero h = refl
      keys n us y (suc j) h =
          let le : j ≤ n = omega (arith, h) in
          laws.leads (us j) (us (suc j)) (in_count (us j) (y.held j le)) (in_count (us (suc j)) (y.held (suc j) h))
          (y.place_is (suc j) h ∙ sym (y.place_is j le)) (y.index_is (suc j) h ∙ ap suc (sym (y.index_is j le)))
          ∙ ap succ (keys n us y j le)

-- what became ready in the queue became ready by the rules, and nothing more is ripe
pub readied : (Key : Type 0) (succ : Key → Key) (message : ℕ → Message) (is_interleaved : Bool) (key : ℕ → Key) (below : Key → ℕ → Bool) (q r : Queue Key succ) → Readied Key succ q r
    → (x : Transfer) → Invariant message is_interleaved x → KeyLaws Key succ is_interleaved x.sender key below → Sees Key succ message is_interleaved x.sender x.receiver key q
    → (ps : List ℕ) × Happens message is_interleaved x (map become_ready ps) × Sees Key succ message is_interleaved (run message is_interleaved x (map become_ready ps)).sender (run message is_interleaved x (map become_ready ps)).receiver key r
    × ((p : ℕ) → IsRipe message (run message is_interleaved x (map become_ready ps)).sender (run message is_interleaved x (map become_ready ps)).receiver p → ⊥)
readied Key succ message is_interleaved key below q r (no_more none) x k laws s = ([], tt, s, none_ripe Key succ message is_interleaved x k key below laws q s none)
readied Key succ message is_interleaved key below q r (one_more m κ n w y z more) x k laws s =
    let p = place_of x.sender (ts Key succ message is_interleaved x k key below laws q s κ n w y 0) in
    let ok = ripe Key succ message is_interleaved x k key below laws q s κ n w y in
    let rest = readied Key succ message is_interleaved key below m r more (after message is_interleaved x (become_ready p)) (keeps message is_interleaved x k (become_ready p) ok) laws (sees_delivered Key succ message is_interleaved x k key below laws q s κ n w y m z) in
    (p ∷ rest.0, (ok, rest.1), rest.2, rest.3)
