-- Where the streams are at rest, no run is left in the queue.
use Rattle.std.proofs.Common.{◌≡◌, ℕ, zero, suc, ◌+◌, ◌-◌, ◌<◌, ◌≤◌, Bool, true, false, cond, inl, inr, Some, List, [], ◌∷◌, refl, ap, sym, ◌∙◌, subst, arith}
use Rattle.std.specs.Prelude.{not, ◌&&◌, ◌||◌, ◌==◌}
use Rattle.std.proofs.lemmas.Bool.{cases_lt, cases_Bool, eqb-true, eq-eqb, ne_eqb}
use Rattle.sctp_serial.specs.Unwrapped.{origin}
use Rattle.sctp_rx.specs.ReassemblyKey.{pair_rank}
use Rattle.sctp_rx.specs.Runs.{is_next, last_of, IsLinked, IsMessage}
use Rattle.sctp_rx.specs.Held.{Held, rank_of, goes_on, begins, ends, intervals_of, is_complete, is_in_turn, NoneComplete, NoneInTurn}
use Rattle.proof_refines.specs.SettledStreams.{AreInOrder}
use Rattle.proof_protocol.specs.State.{Message, Sender, IsAmong, fragment, place_of, count}
use Rattle.proof_protocol.specs.Reassembly.{Chunk, MessageKey, Queue, KeyOf, next_of, key_of, below_of, chunk_of, nth, ReadyRun, KeyLaws}
use Rattle.proof_protocol.specs.Lifted.{up_key, up_chunk}
use Rattle.proof_protocol.proofs.LiftedLemmas.{up_next}
use Rattle.proof_protocol.proofs.ToolsLemmas.{not_both}
use Rattle.proof_refines.specs.View.{View, IsFiled, IsSeenAs, chunk_of_held, key_of_held}
use Rattle.proof_refines.proofs.IntervalLemmas.{none_held}
use Rattle.proof_refines.proofs.HeldKeyLemmas.{twice_not}

-- nothing that is complete and in turn is held
pub record IsAtRest (v : View) : Type 0 where
  pub order : (kind : Bool) (s : ℕ) → AreInOrder (v.held kind s)
  pub in_turn : (s : ℕ) → NoneInTurn (v.next s) (intervals_of (v.held true s))
  pub complete : (s : ℕ) → NoneComplete (intervals_of (v.held false s))

-- each chunk carries a fragment of the sender, once the base is added to its number
abbrev pub AreSent : (ℕ → Message) → (is_interleaved : Bool) → (base : Bool → ℕ → ℕ) → Sender → Queue (KeyOf is_interleaved) (next_of is_interleaved) → Type 0
AreSent message is_interleaved base o q =
    (κ : KeyOf is_interleaved) (w : Chunk) → q.chunks κ ≡ Some w
    → (t : ℕ) × (t < count o) × (key_of is_interleaved message o t ≡ up_key base is_interleaved κ) × (up_chunk base is_interleaved w ≡ chunk_of message is_interleaved o t)

-- of one kind and stream, equal numbers with the base are equal without
number_back : (base : Bool → ℕ → ℕ) (is_interleaved : Bool) (v w : Chunk) → v.ordered ≡ w.ordered → v.stream ≡ w.stream → (up_chunk base is_interleaved v).number ≡ (up_chunk base is_interleaved w).number → v.number ≡ w.number
number_back base is_interleaved v w k s e =
    by (w.ordered || is_interleaved) (base w.ordered w.stream) v.number w.number
    (sym (ap (λ z. cond (z || is_interleaved) (base z w.stream + v.number) v.number) k) ∙ (sym (ap (λ z. cond (v.ordered || is_interleaved) (base v.ordered z + v.number) v.number) s) ∙ e))
  where
    by : (b : Bool) (c m n : ℕ) → cond b (c + m) m ≡ cond b (c + n) n → m ≡ n
    by true c m n h = omega (arith, h)
    by false c m n h = h

index_next : (is_interleaved : Bool) (shift : ℕ) (g h : Held) (κ : KeyOf is_interleaved) → (is_interleaved ≡ false → origin ≤ g.index + shift) → (is_interleaved ≡ false → origin ≤ h.index + shift) → key_of_held is_interleaved shift g ≡ κ → key_of_held is_interleaved shift h ≡ next_of is_interleaved κ → h.index ≡ suc g.index
index_next false shift g h κ a b p q = let c = a refl in let d = b refl in omega (arith, p, q, c, d)
index_next true shift g h κ a b p q = ap (λ (z : MessageKey). z.index) q ∙ ap (λ (z : MessageKey). suc z.index) (sym p)

module _ (message : ℕ → Message) (is_interleaved : Bool) (base : Bool → ℕ → ℕ) (shift : ℕ) (o : Sender) (laws : KeyLaws (KeyOf is_interleaved) (next_of is_interleaved) is_interleaved o (key_of is_interleaved message o) (below_of is_interleaved))
    (v : View) (q : Queue (KeyOf is_interleaved) (next_of is_interleaved)) (p : IsSeenAs is_interleaved shift v q) (sent : AreSent message is_interleaved base o q) (rest : IsAtRest v)
    (κ : KeyOf is_interleaved) (n : ℕ) (w : ℕ → Chunk) (y : ReadyRun (KeyOf is_interleaved) (next_of is_interleaved) q κ n w) where
  -- the fragments of the run. Past its end, any
  fragment_at : (j : ℕ) → (t : ℕ) × (j ≤ n → (t < count o) × (key_of is_interleaved message o t ≡ up_key base is_interleaved (nth (KeyOf is_interleaved) (next_of is_interleaved) κ j)) × (up_chunk base is_interleaved (w j) ≡ chunk_of message is_interleaved o t))
  fragment_at j =
      elim (cases_lt n j) [
        | inl l ↦ (0, λ h. absurd (omega (arith, l, h)))
        | inr g ↦ let f = sent (nth (KeyOf is_interleaved) (next_of is_interleaved) κ j) (w j) (y.held j g) in (f.0, λ h. (f.1, f.2, f.3))
      ]

  abbrev ts : ℕ → ℕ
  ts j = (fragment_at j).0

  chunk_is : (j : ℕ) → j ≤ n → up_chunk base is_interleaved (w j) ≡ chunk_of message is_interleaved o (ts j)
  chunk_is j h = ((fragment_at j).1 h).2

  -- they are of one message
  place_at : (j : ℕ) → j ≤ n → (place_of o (ts j) ≡ place_of o (ts 0)) × ((fragment o (ts j)).index ≡ j)
  place_at zero h = (refl, eqb-true ((fragment o (ts 0)).index) 0 (sym (ap (λ z. z.is_beginning) (chunk_is 0 h)) ∙ y.begins))
  place_at (suc j) h =
      let le : j ≤ n = omega (arith, h) in
      let ih = place_at j le in
      let a = (fragment_at j).1 le in
      let b = (fragment_at (suc j)).1 h in
      let l = sym (ap (λ z. z.is_end) (chunk_is j le)) ∙ y.inner j h in
      let f = laws.follows (ts j) (ts (suc j)) a.0 b.0 l (b.1 ∙ (up_next base is_interleaved (nth (KeyOf is_interleaved) (next_of is_interleaved) κ j) ∙ ap (next_of is_interleaved) (sym a.1))) in
      (f.0 ∙ ih.0, f.1 ∙ ap suc ih.1)

  abbrev kind : Bool
  kind = (w 0).ordered

  abbrev stream : ℕ
  stream = (w 0).stream

  first : up_chunk base is_interleaved (w 0) ≡ chunk_of message is_interleaved o (ts 0)
  first = chunk_is 0 (omega arith)

  one_kind : (j : ℕ) → j ≤ n → (w j).ordered ≡ kind
  one_kind j h = ap (λ z. z.ordered) (chunk_is j h) ∙ (ap (λ z. (message z).ordered) (place_at j h).0 ∙ sym (ap (λ z. z.ordered) first))

  one_stream : (j : ℕ) → j ≤ n → (w j).stream ≡ stream
  one_stream j h = ap (λ z. z.stream) (chunk_is j h) ∙ (ap (λ z. (message z).stream) (place_at j h).0 ∙ sym (ap (λ z. z.stream) first))

  one_number : (j : ℕ) → j ≤ n → (w j).number ≡ (w 0).number
  one_number j h =
      number_back base is_interleaved (w j) (w 0) (one_kind j h) (one_stream j h)
      (ap (λ z. z.number) (chunk_is j h)
      ∙ (ap (λ z. let c : ℕ = cond ((message z).ordered || is_interleaved) (o.number z) 0 in c) (place_at j h).0 ∙ sym (ap (λ z. z.number) first)))

  no_beginning : (j : ℕ) → suc j ≤ n → (w (suc j)).is_beginning ≡ false
  no_beginning j h = ap (λ z. z.is_beginning) (chunk_is (suc j) h) ∙ (ap (λ z. z == 0) (place_at (suc j) h).1 ∙ ne_eqb (suc j) 0 (λ e. omega (arith, e)))

  -- what is held of it
  record At (j : ℕ) (h : Held) : Type 0 where
    among : IsAmong h (v.held kind stream)
    key : key_of_held is_interleaved shift h ≡ nth (KeyOf is_interleaved) (next_of is_interleaved) κ j
    id : ℕ
    chunk : chunk_of_held id h ≡ w j

  at : (j : ℕ) → j ≤ n → (h : Held) × At j h
  at j l =
      let f = p.found (nth (KeyOf is_interleaved) (next_of is_interleaved) κ j) (w j) (y.held j l) in
      let file = p.filed f.0 f.1 f.2 f.3 in
      let k : f.0 ≡ kind = sym (twice_not f.2.fragment.is_unordered f.0 file.kind_is) ∙ (ap (λ z. z.ordered) f.5.1 ∙ one_kind j l) in
      let a : f.1 ≡ stream = sym file.stream_is ∙ (ap (λ z. z.stream) f.5.1 ∙ one_stream j l) in
      (f.2, record { among = subst (λ z. IsAmong f.2 (v.held z stream)) k (subst (λ z. IsAmong f.2 (v.held f.0 z)) a f.3); key = f.4; id = f.5.0; chunk = f.5.1 })

  any : (j : ℕ) → (h : Held) × (j ≤ n → At j h)
  any j =
      elim (cases_lt n j) [
        | inl l ↦ ((at 0 (omega arith)).0, λ h. absurd (omega (arith, l, h)))
        | inr g ↦ ((at j g).0, λ h. (at j g).1)
      ]

  abbrev item : ℕ → Held
  item j = (any j).0

  item_at : (j : ℕ) → j ≤ n → At j (item j)
  item_at j l = (any j).1 l

  filed : (j : ℕ) → j ≤ n → IsFiled is_interleaved shift kind stream (item j)
  filed j l = p.filed kind stream (item j) (item_at j l).among

  number_at : (j : ℕ) → j ≤ n → (item j).number ≡ origin + (w 0).number
  number_at j l =
      let a = (filed j l).number_from in
      let b : (item j).number - origin ≡ (w 0).number = ap (λ z. z.number) (item_at j l).chunk ∙ one_number j l in
      omega (arith, a, b)

  linked_next : (j : ℕ) → suc j ≤ n → is_next rank_of goes_on (item j) (item (suc j)) ≡ true
  linked_next j l =
      let m : j ≤ n = omega (arith, l) in
      let i : (item (suc j)).index ≡ suc (item j).index = index_next is_interleaved shift (item j) (item (suc j)) (nth (KeyOf is_interleaved) (next_of is_interleaved) κ j) (filed j m).index_from (filed (suc j) l).index_from (item_at j m).key (item_at (suc j) l).key in
      let c : (item (suc j)).number ≡ (item j).number = number_at (suc j) l ∙ sym (number_at j m) in
      let e : (item j).fragment.is_end ≡ false = ap (λ z. z.is_end) (item_at j m).chunk ∙ y.inner j l in
      let b : (item (suc j)).fragment.is_beginning ≡ false = ap (λ z. z.is_beginning) (item_at (suc j) l).chunk ∙ no_beginning j l in
      let r : rank_of (item (suc j)) ≡ suc (rank_of (item j)) = ap (λ z. pair_rank z (item (suc j)).index) c ∙ (ap (λ z. pair_rank (item j).number z) i ∙ up (item j).number (item j).index) in
      ap (λ z. z && goes_on (item j) (item (suc j))) (eq-eqb (rank_of (item (suc j))) (suc (rank_of (item j))) r) ∙ both (item j).fragment.is_end (item (suc j)).fragment.is_beginning e b
    where
      up : (a b : ℕ) → pair_rank a (suc b) ≡ suc (pair_rank a b)
      up a b = omega arith

      both : (a b : Bool) → a ≡ false → b ≡ false → (not a && not b) ≡ true
      both true b p q = cc
      both false true p q = cc
      both false false p q = refl

  -- as a list
  abbrev tail : ℕ → ℕ → List Held
  tail j zero = []
  tail j (suc m) = item (suc j) ∷ tail (suc j) m

  linked : (j m : ℕ) → j + m ≤ n → IsLinked rank_of goes_on (item j) (tail j m)
  linked j zero l = tt
  linked j (suc m) l = (linked_next j (omega (arith, l)), linked (suc j) m (omega (arith, l)))

  last : (j m : ℕ) → last_of (item j) (tail j m) ≡ item (j + m)
  last j zero = let e : j ≡ j + 0 = omega arith in ap item e
  last j (suc m) = let e : suc j + m ≡ j + suc m = omega arith in last (suc j) m ∙ ap item e

  all_there : (j m : ℕ) → j + m ≤ n → (h : Held) → IsAmong h (tail j m) → IsAmong h (v.held kind stream)
  all_there j zero l h a = absurd a
  all_there j (suc m) l h (inl e) = subst (λ z. IsAmong z (v.held kind stream)) (sym e) (item_at (suc j) (omega (arith, l))).among
  all_there j (suc m) l h (inr a) = all_there (suc j) m (omega (arith, l)) h a

  there : (h : Held) → IsAmong h (item 0 ∷ tail 0 n) → IsAmong h (v.held kind stream)
  there h (inl e) = subst (λ z. IsAmong z (v.held kind stream)) (sym e) (item_at 0 (omega arith)).among
  there h (inr a) = all_there 0 n (omega arith) h a

  begun : (item 0).fragment.is_beginning ≡ true
  begun = ap (λ z. z.is_beginning) (item_at 0 (omega arith)).chunk ∙ y.begins

  ended : (last_of (item 0) (tail 0 n)).fragment.is_end ≡ true
  ended =
      let e : 0 + n ≡ n = omega arith in
      ap (λ z. z.fragment.is_end) (last 0 n ∙ ap item e) ∙ (ap (λ z. z.is_end) (item_at n (omega arith)).chunk ∙ y.ends)

  message_is : IsMessage rank_of goes_on begins ends (item 0 ∷ tail 0 n)
  message_is = (begun, (ended, linked 0 n (omega arith)))

  whole : is_complete (item 0 ∷ tail 0 n) ≡ true
  whole = ap (λ z. z && (last_of (item 0) (tail 0 n)).fragment.is_end) begun ∙ ended

  pub no_run : ⊥
  no_run =
      elim (cases_Bool kind) [
        | inl k ↦
            let there' = subst (λ z. (h : Held) → IsAmong h (item 0 ∷ tail 0 n) → IsAmong h (v.held z stream)) k there in
            let none = none_held (is_in_turn (v.next stream)) (v.held true stream) (item 0) (tail 0 n) (rest.order true stream) (rest.in_turn stream) message_is there' in
            let turn : (item 0).number ≡ v.next stream = number_at 0 (omega arith) ∙ (ap (λ z. origin + z) (y.in_turn k) ∙ sym (p.next stream)) in
            not_both (ap (λ z. z && ((item 0).number == v.next stream)) whole ∙ eq-eqb (item 0).number (v.next stream) turn) none
        | inr k ↦
            let there' = subst (λ z. (h : Held) → IsAmong h (item 0 ∷ tail 0 n) → IsAmong h (v.held z stream)) k there in
            not_both whole (none_held is_complete (v.held false stream) (item 0) (tail 0 n) (rest.order false stream) (rest.complete stream) message_is there')
      ]
