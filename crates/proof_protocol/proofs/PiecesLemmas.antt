-- The fragments of a message, from its first to its end.
use Rattle.std.proofs.Common.{◌≡◌, ℕ, suc, ◌<◌, ◌≤◌, Bool, true, inl, inr, sym, ap, ◌∙◌, subst, arith}
use Rattle.std.proofs.lemmas.Bool.{cases_lt, cases_eq}
use Rattle.proof_protocol.specs.State.{Message, Sender, Receiver, fragment, place_of, count, gather, parts}
use Rattle.proof_protocol.specs.Rules.{Complete}
use Rattle.proof_protocol.specs.Reassembly.{concatenation}
use Rattle.proof_protocol.specs.Invariant.{Outgoing, Incoming}
use Rattle.proof_protocol.specs.Invariant.{IsIndexed}
use Rattle.proof_protocol.proofs.IndexedLemmas.{one_index}

pub record Pieces (o : Sender) (i : Receiver) (p n : ℕ) (ts : ℕ → ℕ) : Type 0 where
  pub held : (j : ℕ) → j ≤ n → i.held (ts j) ≡ true
  pub place_is : (j : ℕ) → j ≤ n → place_of o (ts j) ≡ p
  pub index_is : (j : ℕ) → j ≤ n → (fragment o (ts j)).index ≡ j
  pub ends : (fragment o (ts n)).is_end ≡ true

module _ (message : ℕ → Message) (is_interleaved : Bool) (o : Sender) (out : Outgoing message o) (x : IsIndexed o.numbered) (i : Receiver) (inc : Incoming message o i) where
  pub within : (t : ℕ) → i.held t ≡ true → t < count o
  within t h = inc.seen_below t (inc.held_seen t h)

  module _ (p n : ℕ) (ts : ℕ → ℕ) (y : Pieces o i p n ts) where
    at_end : ts n < count o
    at_end = within (ts n) (y.held n (omega arith))

    up_to_end : (u : ℕ) → u < count o → place_of o u ≡ p → (fragment o u).index ≤ n
    up_to_end u h e =
        let q = y.place_is n (omega arith) in
        let m = y.index_is n (omega arith) in
        let le = out.last_ends (ts n) u at_end h (q ∙ sym e) y.ends in
        elim (cases_eq u (ts n)) [
          | inl s ↦ let a = ap (λ z. (fragment o z).index) s in omega (arith, a, m)
          | inr d ↦ let a = x.index_rises u (ts n) (omega (arith, le, d)) at_end (e ∙ sym q) in omega (arith, a, m)
        ]

    -- each fragment of the message is one of them
    pub which : (u : ℕ) → u < count o → place_of o u ≡ p → (j : ℕ) × (j ≤ n) × (u ≡ ts j)
    which u h e =
        let le = up_to_end u h e in
        let j = (fragment o u).index in
        (j, le, one_index o x u (ts j) h (within (ts j) (y.held j le)) (e ∙ sym (y.place_is j le)) (sym (y.index_is j le)))

    pub pieces_complete : Complete message o i p
    pieces_complete = record {
      ended = (ts n, at_end, y.place_is n (omega arith), y.ends);
      all_held = λ u h e. let z = which u h e in ap i.held z.2 ∙ y.held z.0 z.1;
    }

    pieces_count : parts p o.numbered ≡ suc n
    pieces_count =
        let a = subst (λ z. (fragment o (ts n)).index < parts z o.numbered) (y.place_is n (omega arith)) (x.index_below (ts n) at_end) in
        let m = y.index_is n (omega arith) in
        elim (cases_lt (suc n) (parts p o.numbered)) [
          | inr g ↦ omega (arith, a, m, g)
          | inl l ↦
              let u = x.index_found p (suc n) l in
              let le = up_to_end u.0 u.1 u.2 in
              let k = u.3 in
              absurd (omega (arith, le, k))
        ]

    pub pieces_payload : gather p o.numbered ≡ concatenation (λ j. (fragment o (ts j)).payload) (suc n)
    pieces_payload =
        let c = pieces_count in
        subst (λ z. gather p o.numbered ≡ concatenation (λ j. (fragment o (ts j)).payload) z) c
        (x.joins p ts (λ j l. let le : j ≤ n = omega (arith, l, c) in (within (ts j) (y.held j le), y.place_is j le, y.index_is j le)))

  module _ (p : ℕ) (c : Complete message o i p) where
    choose : (j : ℕ) → (t : ℕ) × (j < parts p o.numbered → (t < count o) × (place_of o t ≡ p) × ((fragment o t).index ≡ j))
    choose j =
        elim (cases_lt j (parts p o.numbered)) [
          | inl l ↦ let u = x.index_found p j l in (u.0, λ h. (u.1, u.2, u.3))
          | inr g ↦ (0, λ h. absurd (omega (arith, g, h)))
        ]

    pub complete_pieces : (n : ℕ) × (ts : ℕ → ℕ) × Pieces o i p n ts
    complete_pieces =
        let e = c.ended in
        let n = (fragment o e.0).index in
        let below = subst (λ z. n < parts z o.numbered) e.2 (x.index_below e.0 e.1) in
        let ts : ℕ → ℕ = λ j. (choose j).0 in
        let facts : ((j : ℕ) → j ≤ n → (ts j < count o) × (place_of o (ts j) ≡ p) × ((fragment o (ts j)).index ≡ j)) = (λ j h. (choose j).1 (omega (arith, h, below))) in
        let last = facts n (omega arith) in
        let s = one_index o x (ts n) e.0 last.0 e.1 (last.1 ∙ sym e.2) last.2 in (
          n,
          ts,
          record {
            held = λ j h. let f = facts j h in c.all_held (ts j) f.0 f.1;
            place_is = λ j h. (facts j h).1;
            index_is = λ j h. (facts j h).2;
            ends = ap (λ z. (fragment o z).is_end) s ∙ e.3;
          },
        )
