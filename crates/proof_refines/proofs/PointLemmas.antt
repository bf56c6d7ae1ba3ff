-- A forward point of the items may be sent.
use Rattle.std.proofs.Common.{◌≡◌, ℕ, suc, ◌+◌, ◌-◌, ◌<◌, ◌≤◌, Bool, true, false, not, cond, inl, inr, ◌⊎◌, Option, Some, None, List, [], ◌∷◌, map, refl, sym, ap, ◌∙◌, subst, arith, eqb, leb}
use Rattle.std.specs.Prelude.{◌==◌, ◌&&◌, ◌||◌, nat_lt, nat_le}
use Rattle.std.specs.List.{list_all, list_any}
use Rattle.std.proofs.lemmas.Bool.{cases_eq, cases_lt, lt-ltb, eq-eqb, eqb-true, or_cases, or_left, or_right, and_parts, and_from, leb-true, le-leb, false_from_ne_true}
use Rattle.std.proofs.lemmas.Bool.Decides.{nat_tests}
use Rattle.sctp_serial.specs.Unwrapped.{origin, u32_space, halves, wire}
use Rattle.sctp_packet.specs.Chunk.{FragmentTree}
use Rattle.sctp_tx_queue.specs.SendQueue.{Queue}
use Rattle.sctp_tx_outstanding.specs.declared.skips.SkipEntry.{SkipEntry}
use Rattle.sctp_tx_outstanding.specs.Item.{Item, is_abandoned}
use Rattle.sctp_tx_outstanding.specs.OutstandingData.{Items}
use Rattle.sctp_tx_outstanding.specs.Forward as points
use Rattle.sctp_tx_outstanding.specs.Forward.{entry_of, is_before, is_same, is_alike, put_entry, with_entry, size_with, stops, passes, pass_item, walk, forward_point}
use Rattle.sctp_tx_outstanding.specs.Point.{Ascend}
use Rattle.sctp_tx_outstanding.specs.Forward.{is_forward_due}
use Rattle.sctp_tx_outstanding.specs.Entries.{ssn_skip, mid_skip}
use Rattle.sctp_tx_outstanding.proofs.EntriesLemmas.{point_ascends}
use Rattle.sctp_tx_outstanding.proofs.PointLemmas.{points_are_sound}
use Rattle.sctp_packet.specs.Chunk.{forward_tsn_chunk, i_forward_tsn_chunk}
use Rattle.sctp_tx.specs.RetransmissionQueue as sending
use Rattle.sctp_tx.specs.ForwardPoints.{most_of, chunk_if, forward_chunk}
use Rattle.proof_protocol.specs.State.{Message, Entry, ForwardPoint, Sender, Transfer, IsAmong, fragment, place_of, count, stream_of, ordered_of}
use Rattle.proof_protocol.specs.Rules.{same, covers, AreWritten}
use Rattle.proof_protocol.specs.Invariant.{Outgoing, Invariant}
use Rattle.proof_protocol.proofs.ToolsLemmas.{same_is, same_self, not_both, among_covers}
use Rattle.proof_refines.specs.SenderRefinement.{StandsFor, AreKept, SenderRefines}
use Rattle.proof_refines.specs.Points.{skip_of, chunk_of, IsSendable}
use Rattle.proof_protocol.specs.Points.{AreApart}
use Rattle.proof_refines.proofs.ItemsLemmas.{kept_below}

-- ---- entries

abbrev one : Entry → Bool → ℕ → ℕ → Bool
one e kind s n = same e.ordered kind && ((e.stream == s) && nat_le n e.number)

-- the entry among others, in the place that it has as it is written
abbrev entered : Bool → Entry → List Entry → List Entry
entered is_interleaved e [] = e ∷ []
entered is_interleaved e (d ∷ ds) = cond (is_before (skip_of is_interleaved d) (skip_of is_interleaved e)) (d ∷ entered is_interleaved e ds) (cond (is_alike (skip_of is_interleaved e) (skip_of is_interleaved d)) (e ∷ ds) (e ∷ d ∷ ds))

entered_written : (is_interleaved : Bool) (e : Entry) (ds : List Entry) → map (skip_of is_interleaved) (entered is_interleaved e ds) ≡ put_entry (skip_of is_interleaved e) (map (skip_of is_interleaved) ds)
entered_written is_interleaved e [] = refl
entered_written is_interleaved e (d ∷ ds) = go (is_before (skip_of is_interleaved d) (skip_of is_interleaved e)) (is_alike (skip_of is_interleaved e) (skip_of is_interleaved d)) (entered_written is_interleaved e ds)
  where
    go : (a b : Bool) → map (skip_of is_interleaved) (entered is_interleaved e ds) ≡ put_entry (skip_of is_interleaved e) (map (skip_of is_interleaved) ds)
        → map (skip_of is_interleaved) (cond a (d ∷ entered is_interleaved e ds) (cond b (e ∷ ds) (e ∷ d ∷ ds)))
        ≡ cond a (skip_of is_interleaved d ∷ put_entry (skip_of is_interleaved e) (map (skip_of is_interleaved) ds)) (cond b (skip_of is_interleaved e ∷ map (skip_of is_interleaved) ds) (skip_of is_interleaved e ∷ skip_of is_interleaved d ∷ map (skip_of is_interleaved) ds))
    go true b ih = ap (λ z. skip_of is_interleaved d ∷ z) ih
    go false true ih = refl
    go false false ih = refl

module _ (is_interleaved : Bool) (e : Entry) (k : Bool) (s n : ℕ) where
  entered_in : (ds : List Entry) → covers (entered is_interleaved e ds) k s n ≡ true → (one e k s n ≡ true) ⊎ (covers ds k s n ≡ true)
  entered_in [] h = or_cases (one e k s n) false h
  entered_in (d ∷ ds) h = go (entered_in ds) (is_before (skip_of is_interleaved d) (skip_of is_interleaved e)) (is_alike (skip_of is_interleaved e) (skip_of is_interleaved d)) h
    where
      go : (covers (entered is_interleaved e ds) k s n ≡ true → (one e k s n ≡ true) ⊎ (covers ds k s n ≡ true)) → (a b : Bool)
          → covers (cond a (d ∷ entered is_interleaved e ds) (cond b (e ∷ ds) (e ∷ d ∷ ds))) k s n ≡ true → (one e k s n ≡ true) ⊎ (covers (d ∷ ds) k s n ≡ true)
      go ih true b h =
          elim (or_cases (one d k s n) (covers (entered is_interleaved e ds) k s n) h) [
            | inl x ↦ inr (or_left (one d k s n) (covers ds k s n) x)
            | inr y ↦ elim (ih y) [ inl z ↦ inl z | inr z ↦ inr (or_right (one d k s n) (covers ds k s n) z) ]
          ]
      go ih false true h = elim (or_cases (one e k s n) (covers ds k s n) h) [ inl x ↦ inl x | inr y ↦ inr (or_right (one d k s n) (covers ds k s n) y) ]
      go ih false false h = or_cases (one e k s n) (covers (d ∷ ds) k s n) h

  entered_new : (ds : List Entry) → one e k s n ≡ true → covers (entered is_interleaved e ds) k s n ≡ true
  entered_new [] h = or_left (one e k s n) false h
  entered_new (d ∷ ds) h = go (entered_new ds h) (is_before (skip_of is_interleaved d) (skip_of is_interleaved e)) (is_alike (skip_of is_interleaved e) (skip_of is_interleaved d))
    where
      go : covers (entered is_interleaved e ds) k s n ≡ true → (a b : Bool) → covers (cond a (d ∷ entered is_interleaved e ds) (cond b (e ∷ ds) (e ∷ d ∷ ds))) k s n ≡ true
      go ih true b = or_right (one d k s n) (covers (entered is_interleaved e ds) k s n) ih
      go ih false true = or_left (one e k s n) (covers ds k s n) h
      go ih false false = or_left (one e k s n) (covers (d ∷ ds) k s n) h

  entered_old : (ds : List Entry) → ((d : Entry) → IsAmong d ds → is_alike (skip_of is_interleaved e) (skip_of is_interleaved d) ≡ true → one d k s n ≡ true → one e k s n ≡ true)
      → covers ds k s n ≡ true → covers (entered is_interleaved e ds) k s n ≡ true
  entered_old [] up h = absurd (cc)
  entered_old (d ∷ ds) up h = go (entered_old ds (λ x a. up x (inr a))) (is_before (skip_of is_interleaved d) (skip_of is_interleaved e)) (is_alike (skip_of is_interleaved e) (skip_of is_interleaved d)) refl
    where
      go : (covers ds k s n ≡ true → covers (entered is_interleaved e ds) k s n ≡ true) → (a b : Bool) → is_alike (skip_of is_interleaved e) (skip_of is_interleaved d) ≡ b
          → covers (cond a (d ∷ entered is_interleaved e ds) (cond b (e ∷ ds) (e ∷ d ∷ ds))) k s n ≡ true
      go ih true b f =
          elim (or_cases (one d k s n) (covers ds k s n) h) [
            | inl x ↦ or_left (one d k s n) (covers (entered is_interleaved e ds) k s n) x
            | inr y ↦ or_right (one d k s n) (covers (entered is_interleaved e ds) k s n) (ih y)
          ]
      go ih false true f =
          elim (or_cases (one d k s n) (covers ds k s n) h) [
            | inl x ↦ or_left (one e k s n) (covers ds k s n) (up d (inl refl) f x)
            | inr y ↦ or_right (one e k s n) (covers ds k s n) y
          ]
      go ih false false f = or_right (one e k s n) (covers (d ∷ ds) k s n) h

one_self : (e : Entry) → one e e.ordered e.stream e.number ≡ true
one_self e =
    and_from (same e.ordered e.ordered) ((e.stream == e.stream) && nat_le e.number e.number) (same_self e.ordered e.ordered refl)
    (and_from (eqb e.stream e.stream) (leb e.number e.number) (eq-eqb e.stream e.stream refl) (le-leb e.number e.number (omega arith)))

alike_is : (a b : ℕ) (u v : Bool) → ((a == b) && is_same (not u) (not v)) ≡ true → (a ≡ b) × (u ≡ v)
alike_is a b u v h = (eqb-true a b (and_parts (eqb a b) (is_same (not u) (not v)) h).0, by u v (and_parts (eqb a b) (is_same (not u) (not v)) h).1)
  where
    by : (u v : Bool) → is_same (not u) (not v) ≡ true → u ≡ v
    by true true e = refl
    by true false e = absurd (cc)
    by false true e = absurd (cc)
    by false false e = refl

-- ---- written entries ascend, so they are apart

before_apart : (a b : ℕ) (u v : Bool) → (nat_lt a b || ((a == b) && (not u && v))) ≡ true → a ≡ b → u ≡ v → ⊥
before_apart a b true v h e f = grind (arith, nat_tests)
before_apart a b false true h e f = absurd (cc)
before_apart a b false false h e f = grind (arith, nat_tests)

ascend_apart : (is_interleaved : Bool) (es : List Entry) → Ascend (map (skip_of is_interleaved) es) → AreApart es
ascend_apart is_interleaved [] a = tt
ascend_apart is_interleaved (e ∷ es) a = (λ d m k s. behind es a.0 d m s k, ascend_apart is_interleaved es a.1)
  where
    behind : (ds : List Entry) → list_all (is_before (skip_of is_interleaved e)) (map (skip_of is_interleaved) ds) ≡ true → (d : Entry) → IsAmong d ds → e.stream ≡ d.stream → e.ordered ≡ d.ordered → ⊥
    behind [] h d m s k = absurd m
    behind (c ∷ ds) h d m s k =
        let hs = and_parts (is_before (skip_of is_interleaved e) (skip_of is_interleaved c)) (list_all (is_before (skip_of is_interleaved e)) (map (skip_of is_interleaved) ds)) h in
        elim m [
          | inl f ↦ before_apart e.stream c.stream (not e.ordered) (not c.ordered) hs.0 (s ∙ ap (λ (z : Entry). z.stream) f) (ap not (k ∙ ap (λ (z : Entry). z.ordered) f))
          | inr b ↦ behind ds hs.1 d b s k
        ]

-- ---- the walk

module _ (message : ℕ → Message) (lifecycle : ℕ → Option ℕ) (is_interleaved : Bool) (o : Sender) (out : Outgoing message o) (left : ℕ) where
  abbrev st : ℕ → ℕ
  st t = stream_of message (place_of o t)

  abbrev od : ℕ → Bool
  od t = ordered_of message (place_of o t)

  abbrev nr : ℕ → ℕ
  nr t = o.number (place_of o t)

  abbrev wr : ℕ → ℕ
  wr t = o.written (place_of o t)

  -- on a stream, numbers of a kind do not fall
  mono : (u n : ℕ) → u < n → n < count o → st u ≡ st n → od u ≡ od n → nr u ≤ nr n
  mono u n l h s k =
      let le = out.fifo u n l h s in
      elim (cases_eq (place_of o u) (place_of o n)) [
        | inl e ↦ let a = ap o.number e in omega (arith, a)
        | inr d ↦ let a = out.rises (place_of o u) (place_of o n) (out.place_begun u (omega (arith, l, h))) (out.place_begun n h) k s (omega (arith, le, d)) in omega (arith, a)
      ]

  -- the fragments below n are passed
  record Passing (n : ℕ) (es : List Entry) : Type 0 where
    from : left ≤ n
    given : (u : ℕ) → left ≤ u → u < n → o.given_up (place_of o u) ≡ true
    touched : (u : ℕ) → left ≤ u → u < n → (od u || is_interleaved) ≡ true → covers es (od u) (st u) (nr u) ≡ true
    sound : (k : Bool) (s m : ℕ) → covers es k s m ≡ true → (u : ℕ) × (left ≤ u) × (u < n) × (od u ≡ k) × (st u ≡ s) × (m ≤ nr u)
    only : is_interleaved ≡ false → (s m : ℕ) → covers es false s m ≡ false
    as_written : AreWritten message is_interleaved o left n es

  abbrev entry_at : ℕ → Entry
  entry_at t = record { ordered = od t; stream = st t; number = nr t; written = wr t }

  -- what the item says
  entry_is : (t : ℕ) (i : Item) → StandsFor message lifecycle o (fragment o t) i → entry_of is_interleaved i ≡ cond (is_interleaved || od t) (Some (skip_of is_interleaved (entry_at t))) None
  entry_is t i a = ap (λ z. entry_with z) a.carried ∙ go is_interleaved (od t) refl
    where
      entry_with : FragmentTree → Option SkipEntry
      entry_with f =
          cond (is_interleaved || not f.is_unordered) (Some (record { stream_id = record { 0 = f.stream_id }; is_unordered = f.is_unordered; number = cond is_interleaved f.mid f.ssn })) None

      go : (m b : Bool) → od t ≡ b
          → cond (m || not (not (od t))) (Some (record { stream_id = record { 0 = st t }; is_unordered = not (od t); number = cond m (wire u32_space 0 (origin + wr t)) (wire halves 0 (cond (od t) (origin + wr t) origin)) })) None
          ≡ cond (m || od t) (Some (skip_of m (entry_at t))) None
      go true b e = refl
      go false true e = ap (λ c. cond (not (not c)) (Some (record { stream_id = record { 0 = st t }; is_unordered = not c; number = wire halves 0 (cond c (origin + wr t) origin) })) None) e
          ∙ sym (ap (λ c. cond c (Some (record { stream_id = record { 0 = st t }; is_unordered = not c; number = wire halves 0 (origin + wr t) })) None) e)
      go false false e = ap (λ c. cond (not (not c)) (Some (record { stream_id = record { 0 = st t }; is_unordered = not c; number = wire halves 0 (cond c (origin + wr t) origin) })) None) e
          ∙ sym (ap (λ c. cond c (Some (record { stream_id = record { 0 = st t }; is_unordered = not c; number = wire halves 0 (origin + wr t) })) None) e)

  -- entries are written as the messages that they stand for
  written_on : (n : ℕ) (es : List Entry) → AreWritten message is_interleaved o left n es → AreWritten message is_interleaved o left (suc n) es
  written_on n [] h = tt
  written_on n (e ∷ es) h = let z = h.0 in let l = z.2 in ((z.0, z.1, omega (arith, l), z.3, z.4, z.5, z.6), written_on n es h.1)

  written_entered : (n : ℕ) → left ≤ n → (es : List Entry) → AreWritten message is_interleaved o left n es → AreWritten message is_interleaved o left (suc n) (entered is_interleaved (entry_at n) es)
  written_entered n from [] h = ((n, from, omega arith, refl, refl, refl, refl), tt)
  written_entered n from (d ∷ es) h =
      go (is_before (skip_of is_interleaved d) (skip_of is_interleaved (entry_at n))) (is_alike (skip_of is_interleaved (entry_at n)) (skip_of is_interleaved d)) (written_on n (d ∷ es) h) (written_entered n from es h.1)
    where
      go : (a b : Bool) → AreWritten message is_interleaved o left (suc n) (d ∷ es) → AreWritten message is_interleaved o left (suc n) (entered is_interleaved (entry_at n) es)
          → AreWritten message is_interleaved o left (suc n) (cond a (d ∷ entered is_interleaved (entry_at n) es) (cond b (entry_at n ∷ es) (entry_at n ∷ d ∷ es)))
      go true b old ih = (old.0, ih)
      go false true old ih = ((n, from, omega arith, refl, refl, refl, refl), old.1)
      go false false old ih = ((n, from, omega arith, refl, refl, refl, refl), old)

  -- one more is passed
  step : (n : ℕ) (es : List Entry) → n < count o → o.given_up (place_of o n) ≡ true → Passing n es → Passing (suc n) (cond (is_interleaved || od n) (entered is_interleaved (entry_at n) es) es)
  step n es h g p = go (is_interleaved || od n) refl
    where
      y : Entry
      y = entry_at n

      given1 : (u : ℕ) → left ≤ u → u < suc n → o.given_up (place_of o u) ≡ true
      given1 u lo hi = elim (cases_eq u n) [ inl e ↦ ap (λ z. o.given_up (place_of o z)) e ∙ g | inr d ↦ p.given u lo (omega (arith, hi, d)) ]

      up : (d : Entry) → IsAmong d es → is_alike (skip_of is_interleaved y) (skip_of is_interleaved d) ≡ true → (y.stream ≡ d.stream) × (y.ordered ≡ d.ordered) × (d.number ≤ y.number)
      up d am al =
          let q = alike_is y.stream d.stream y.ordered d.ordered al in
          let r = p.sound d.ordered d.stream d.number (among_covers d es am) in
          let top = r.5 in
          let mo = mono r.0 n r.2 h (r.4 ∙ sym q.0) (r.3 ∙ sym q.1) in
          (q.0, q.1, omega (arith, top, mo))

      older : (k : Bool) (s m : ℕ) → covers es k s m ≡ true → covers (entered is_interleaved y es) k s m ≡ true
      older k s m c =
          entered_old is_interleaved y k s m es (λ d am al x.
          let q = up d am al in
          let ab = and_parts (same d.ordered k) (eqb d.stream s && leb m d.number) x in
          let bc = and_parts (eqb d.stream s) (leb m d.number) ab.1 in
          let le = leb-true m d.number bc.1 in
          let u2 = q.2 in
          and_from (same y.ordered k) (eqb y.stream s && leb m y.number) (subst (λ z. same z k ≡ true) (sym q.1) ab.0)
          (and_from (eqb y.stream s) (leb m y.number) (subst (λ z. eqb z s ≡ true) (sym q.0) bc.0) (le-leb m y.number (omega (arith, le, u2))))) c

      or_true : (a b : Bool) → (a || b) ≡ true → (b || a) ≡ true
      or_true true true e = refl
      or_true true false e = refl
      or_true false true e = refl
      or_true false false e = e

      ordered_here : is_interleaved ≡ false → (is_interleaved || od n) ≡ true → od n ≡ true
      ordered_here plain e = ap (λ z. z || od n) (sym plain) ∙ e

      go : (b : Bool) → (is_interleaved || od n) ≡ b → Passing (suc n) (cond b (entered is_interleaved y es) es)
      go false e = record {
        from = let f = p.from in omega (arith, f);
        given = given1;
        touched = λ u lo hi k. elim (cases_eq u n) [ inl c ↦ absurd (not_both (or_true (od n) is_interleaved (ap (λ z. od z || is_interleaved) (sym c) ∙ k)) e) | inr d ↦ p.touched u lo (omega (arith, hi, d)) k ];
        sound = λ k s m c. let r = p.sound k s m c in let lt = r.2 in (r.0, r.1, omega (arith, lt), r.3, r.4, r.5);
        only = p.only;
        as_written = written_on n es p.as_written;
      }
      go true e = record {
        from = let f = p.from in omega (arith, f);
        given = given1;
        touched = λ u lo hi k. elim (cases_eq u n) [
          | inl c ↦ subst (λ z. covers (entered is_interleaved y es) (od z) (st z) (nr z) ≡ true) (sym c) (entered_new is_interleaved y (od n) (st n) (nr n) es (one_self y))
          | inr d ↦ older (od u) (st u) (nr u) (p.touched u lo (omega (arith, hi, d)) k)
        ];
        sound = λ k s m c. elim (entered_in is_interleaved y k s m es c) [
          | inl x ↦
              let ab = and_parts (same y.ordered k) (eqb y.stream s && leb m y.number) x in
              let bc = and_parts (eqb y.stream s) (leb m y.number) ab.1 in
              (n, p.from, omega arith, same_is y.ordered k ab.0, eqb-true y.stream s bc.0, leb-true m y.number bc.1)
          | inr x ↦ let r = p.sound k s m x in let lt = r.2 in (r.0, r.1, omega (arith, lt), r.3, r.4, r.5)
        ];
        only = λ plain s m. false_from_ne_true (covers (entered is_interleaved y es) false s m) (λ c.
            elim (entered_in is_interleaved y false s m es c) [
              | inl x ↦ let ab = and_parts (same y.ordered false) (eqb y.stream s && leb m y.number) x in not_both (ordered_here plain e) (same_is y.ordered false ab.0)
              | inr x ↦ not_both x (p.only plain s m)
            ]);
        as_written = written_entered n p.from es p.as_written;
      }

  -- the walk from here on
  record Walked (s : Items) (n : ℕ) (f after : points.ForwardPoint) : Type 0 where
    more : ℕ
    entries : List Entry
    count_is : after.count ≡ f.count + more
    within : n + more ≤ count o
    passing : Passing (n + more) entries
    written : map (skip_of is_interleaved) entries ≡ after.entries

  stands : (s : Items) (n : ℕ) (f : points.ForwardPoint) (es : List Entry) → n ≤ count o → Passing n es → map (skip_of is_interleaved) es ≡ f.entries → Walked s n f f
  stands s n f es l p w = record {
    more = 0;
    entries = es;
    count_is = omega arith;
    within = omega (arith, l);
    passing = subst (λ z. Passing z es) (let e : n ≡ n + 0 = omega arith in e) p;
    written = w;
  }

  walked : (most : ℕ) (s : Items) → s.is_interleaved ≡ is_interleaved → (n : ℕ) (f : points.ForwardPoint) (es : List Entry) (is : List Item) → AreKept message lifecycle o n is → Passing n es → map (skip_of is_interleaved) es ≡ f.entries
      → Walked s n f (walk most s f is)
  walked most s mode n f es [] a p w = stands s n f es (kept_below message lifecycle o n [] a) p w
  walked most s mode n f es (i ∷ is) a p w = go (passes most s f i) refl (λ p1 w1. walked most s mode (suc n) (pass_item s f i) es1 is a.1 p1 w1)
    where
      below : suc n ≤ count o
      below = kept_below message lifecycle o (suc n) is a.1

      es1 : List Entry
      es1 = cond (is_interleaved || od n) (entered is_interleaved (entry_at n) es) es

      written1 : map (skip_of is_interleaved) es1 ≡ (pass_item s f i).entries
      written1 =
          by (is_interleaved || od n)
          ∙ (ap (λ e. with_entry e (map (skip_of is_interleaved) es)) (sym (entry_is n i a.0)) ∙ (ap (λ m. with_entry (entry_of m i) (map (skip_of is_interleaved) es)) (sym mode) ∙ ap (λ z. with_entry (entry_of s.is_interleaved i) z) w))
        where
          by : (b : Bool) → map (skip_of is_interleaved) (cond b (entered is_interleaved (entry_at n) es) es) ≡ with_entry (cond b (Some (skip_of is_interleaved (entry_at n))) None) (map (skip_of is_interleaved) es)
          by true = entered_written is_interleaved (entry_at n) es
          by false = refl

      go : (b : Bool) → passes most s f i ≡ b → (Passing (suc n) es1 → map (skip_of is_interleaved) es1 ≡ (pass_item s f i).entries → Walked s (suc n) (pass_item s f i) (walk most s (pass_item s f i) is))
          → Walked s n f (cond b (walk most s (pass_item s f i) is) f)
      go false e ih = stands s n f es (omega (arith, below)) p w
      go true e ih =
          let given_up = (and_parts (is_abandoned i) (not (stops f.count s) && nat_le (size_with s.is_interleaved (entry_of s.is_interleaved i) f.entries) most) e).0 in
          let r = ih (step n es (omega (arith, below)) (sym a.0.given_up ∙ given_up) p) written1 in
          let c = r.count_is in
          let l = r.within in
          record {
            more = suc r.more;
            entries = r.entries;
            count_is = omega (arith, c);
            within = omega (arith, l);
            passing = subst (λ z. Passing z r.entries) (let e : suc n + r.more ≡ n + suc r.more = omega arith in e) r.passing;
            written = r.written;
          }

-- the tail of the chunk, where the point is known
module _ (message : ℕ → Message) (lifecycle : ℕ → Option ℕ) (is_interleaved : Bool) (x : Transfer) (q : Queue) (s : sending.Sender) (k : Invariant message is_interleaved x) (sh : SenderRefines message lifecycle is_interleaved x q s.outstanding.items) where
  abbrev items : Items
  items = s.outstanding.items

  abbrev most : ℕ
  most = most_of s

  way : Walked message lifecycle is_interleaved x.sender k.outgoing x.acknowledged items x.acknowledged (record { count = 0; entries = [] }) (forward_point most items)
  way =
      walked message lifecycle is_interleaved x.sender k.outgoing x.acknowledged most items sh.items.mode x.acknowledged (record { count = 0; entries = [] }) [] items.kept sh.items.kept
      (record {
        from = omega arith;
        given = λ u lo hi. absurd (omega (arith, lo, hi));
        touched = λ u lo hi e. absurd (omega (arith, lo, hi));
        sound = λ k s m c. absurd (cc);
        only = λ plain s m. refl;
        as_written = tt;
      }) refl

  abbrev point : ForwardPoint
  point = record { upto = x.acknowledged + way.more; entries = way.entries }

  written_point : forward_chunk s ≡ chunk_of is_interleaved s.outstanding.first point
  written_point = ap (λ m. chunk_if m s) sh.items.mode ∙ by is_interleaved (sym way.written)
    where
      last : items.acked + (forward_point most items).count ≡ origin + point.upto - 1
      last = let a = sh.items.point in let c = way.count_is in omega (arith, a, c)

      by : (m : Bool) → (forward_point most items).entries ≡ map (skip_of m) way.entries → chunk_if m s ≡ chunk_of m s.outstanding.first point
      by true e = λ i. i_forward_tsn_chunk (wire u32_space s.outstanding.first (last i)) (map mid_skip (e i))
      by false e = λ i. forward_tsn_chunk (wire u32_space s.outstanding.first (last i)) (map ssn_skip (e i))

  -- a breakpoint that is passed would have stopped it
  no_break : (b n : ℕ) → IsAmong b items.breaks → b ≡ items.acked + 1 + n → 0 < n → n < (forward_point most items).count → ⊥
  no_break b n m e some l = not_both (stops_at items.breaks m) ((points_are_sound most items).unbroken n l)
    where
      any_of : (bs : List ℕ) → IsAmong b bs → list_any (λ c. c == items.acked + 1 + n) bs ≡ true
      any_of [] a = absurd a
      any_of (c ∷ bs) a =
          elim a [
            | inl f ↦ or_left (eqb c (items.acked + 1 + n)) (list_any (λ c. c == items.acked + 1 + n) bs) (eq-eqb c (items.acked + 1 + n) (sym f ∙ e))
            | inr r ↦ or_right (eqb c (items.acked + 1 + n)) (list_any (λ c. c == items.acked + 1 + n) bs) (any_of bs r)
          ]

      stops_at : (bs : List ℕ) → IsAmong b bs → (nat_lt 0 n && list_any (λ c. c == items.acked + 1 + n) bs) ≡ true
      stops_at bs a = and_from (nat_lt 0 n) (list_any (λ c. c == items.acked + 1 + n) bs) (lt-ltb 0 n some) (any_of bs a)

  ends_at : (b : ℕ) → IsAmong b items.breaks → (origin + point.upto ≤ b) ⊎ (b ≤ origin + x.acknowledged)
  ends_at b m =
      let a = sh.items.point in
      let c = way.count_is in
      elim (cases_lt b (origin + point.upto)) [
        | inr g ↦ inl g
        | inl l ↦
            elim (cases_lt (origin + x.acknowledged) b) [
              | inr g ↦ inr g
              | inl g ↦
                  let n : ℕ = b - (origin + x.acknowledged) in
                  absurd (no_break b n m (omega (arith, a, g)) (omega (arith, g)) (omega (arith, g, l, c)))
            ]
      ]

  pub point_row : is_forward_due items ≡ true → 16 ≤ most → IsSendable message is_interleaved x s
  point_row due room =
      let c = way.count_is in
      let p = way.passing in
      let some = (points_are_sound most items).ahead due room in
      record {
        point = point;
        allowed = record { ahead = omega (arith, c, some); within = way.within; all_given_up = p.given; touched = p.touched; sound = p.sound; only_ordered = p.only; as_written = p.as_written };
        upto = omega (arith, c);
        chunk = written_point;
        apart = ascend_apart is_interleaved way.entries (subst (λ z. Ascend z) (sym way.written) (point_ascends most items items.kept));
        ends = ends_at;
      }
