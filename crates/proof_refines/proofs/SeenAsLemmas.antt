-- A fragment comes into a view, or a message goes out of it: the queue of the rules that is seen then.
use Rattle.std.proofs.Common.{◌≡◌, ℕ, zero, suc, ◌+◌, ◌-◌, ◌<◌, ◌≤◌, Bool, true, false, cond, ◌⊎◌, inl, inr, Some, None, List, [], ◌∷◌, ◌++◌, length, get_or, map, refl, ap, sym, ◌∙◌, subst, arith, append_assoc}
use Rattle.std.specs.Prelude.{◌&&◌, ◌==◌}
use Rattle.std.proofs.lemmas.Bool.{cases_lt, and_parts}
use Rattle.std.proofs.lemmas.List.{map-append}
use Rattle.std.proofs.lemmas.Option.{same_Some, none-some}
use Rattle.sctp_serial.specs.Unwrapped.{origin}
use Rattle.sctp_rx.specs.Runs.{is_next, last_of, IsLinked, put_in}
use Rattle.sctp_rx.specs.Held.{Held, rank_of, goes_on, is_complete, payload_of}
use Rattle.sctp_rx.specs.Held.{message_of_run}
use Rattle.proof_protocol.specs.State.{IsAmong}
use Rattle.proof_protocol.specs.Reassembly.{concatenation, Chunk, Queue, KeyOf, next_of, nth, ReadyRun, RunTaken, Added}
use Rattle.proof_protocol.proofs.ToolsLemmas.{among_left}
use Rattle.proof_refines.specs.View.{View, IsFiled, IsSeenAs, chunk_of_held, key_of_held, ready_of}
use Rattle.proof_refines.proofs.AmongLemmas.{among_right, among_cases, at_among, place_among, at_last, put_here, put_others, put_cases}
use Rattle.proof_refines.proofs.RisingLemmas.{Rising, rising_apart}
use Rattle.proof_refines.proofs.HeldKeyLemmas.{Decided, place_cases, kind_back, twice_not, rank_same, index_same, Next, next_item, next_key, pick, pick_yes, pick_no, without, without_among, without_apart, without_some}

-- one list of a view changed
pub record IsAt (v v' : View) (kind : Bool) (s : ℕ) (hs : List Held) : Type 0 where
  pub here : v'.held kind s ≡ hs
  pub others : (k : Bool) (a : ℕ) → (k ≡ kind → a ≡ s → ⊥) → v'.held k a ≡ v.held k a

-- payloads joined from the front
joined_first : (f : ℕ → List ℕ) (n : ℕ) → concatenation f (suc n) ≡ f 0 ++ concatenation (λ j. f (suc j)) n
joined_first f zero = nil_right (f 0)
  where
    nil_right : (xs : List ℕ) → [] ++ xs ≡ xs ++ []
    nil_right [] = refl
    nil_right (x ∷ xs) = ap (λ (t : List ℕ). x ∷ t) (nil_right xs)
joined_first f (suc n) =
    ap (λ (t : List ℕ). t ++ f (suc n)) (joined_first f n) ∙ append_assoc (f 0) (concatenation (λ j. f (suc j)) n) (f (suc n))

payload_joined : (e d : Held) (es : List Held) → concatenation (λ j. (get_or (e ∷ es) j d).fragment.payload) (suc (length es)) ≡ payload_of (e ∷ es)
payload_joined e d [] = joined_first (λ j. (get_or (e ∷ []) j d).fragment.payload) 0
payload_joined e d (f ∷ fs) =
    joined_first (λ j. (get_or (e ∷ (f ∷ fs)) j d).fragment.payload) (suc (length fs)) ∙ ap (λ (t : List ℕ). e.fragment.payload ++ t) (payload_joined f d fs)

linked_at : (e d : Held) (es : List Held) (j : ℕ) → IsLinked rank_of goes_on e es → j < length es → is_next rank_of goes_on (get_or (e ∷ es) j d) (get_or (e ∷ es) (suc j) d) ≡ true
linked_at e d [] j h l = absurd (omega (arith, l))
linked_at e d (f ∷ fs) zero h l = h.0
linked_at e d (f ∷ fs) (suc j) h l = linked_at f d fs j h.1 (omega (arith, l))

module _ (is_interleaved : Bool) (shift : ℕ) (v : View) (q : Queue (KeyOf is_interleaved) (next_of is_interleaved)) (p : IsSeenAs is_interleaved shift v q) where
  -- a key is that of one fragment
  pub record OnePlace (k c : Bool) (a b : ℕ) (g h : Held) : Type 0 where
    pub kind : k ≡ c
    pub stream : a ≡ b
    pub rank : rank_of g ≡ rank_of h

  pub one_place : (k c : Bool) (a b : ℕ) (g h : Held) → IsAmong g (v.held k a) → IsAmong h (v.held c b) → key_of_held is_interleaved shift g ≡ key_of_held is_interleaved shift h → OnePlace k c a b g h
  one_place k c a b g h x y e =
      let fg = p.filed k a g x in
      let fh = p.filed c b h y in
      let u = p.holds k a g x in
      let w = p.holds c b h y in
      let same : chunk_of_held u.0 g ≡ chunk_of_held w.0 h = same_Some (chunk_of_held u.0 g) (chunk_of_held w.0 h) (sym u.1 ∙ (ap q.chunks e ∙ w.1)) in
      let number : g.number - origin ≡ h.number - origin = ap (λ (z : Chunk). z.number) same in
      let from_g = fg.number_from in
      let from_h = fh.number_from in
      record {
        kind = kind_back g.fragment.is_unordered h.fragment.is_unordered k c fg.kind_is fh.kind_is (ap (λ (z : Chunk). z.ordered) same);
        stream = sym fg.stream_is ∙ (ap (λ (z : Chunk). z.stream) same ∙ fh.stream_is);
        rank = rank_same g h (omega (arith, number, from_g, from_h)) (index_same is_interleaved shift k c a b g h fg fh e);
      }

module _ (is_interleaved : Bool) (shift : ℕ) (decide : Decided is_interleaved) (v v' : View) (q : Queue (KeyOf is_interleaved) (next_of is_interleaved)) (p : IsSeenAs is_interleaved shift v q) (kind : Bool) (s : ℕ) where
  -- ---- a fragment comes
  module _ (x : Held) (id : ℕ) (own : x.fragment.is_beginning ≡ true → id ≡ x.fragment.ppid) (file : IsFiled is_interleaved shift kind s x) (new : q.chunks (key_of_held is_interleaved shift x) ≡ None) (at : IsAt v v' kind s (put_in rank_of x (v.held kind s)))
      (next : (a : ℕ) → v'.next a ≡ v.next a) (passed : (a : ℕ) → v'.passed a ≡ v.passed a) (ready : v'.ready ≡ v.ready) where
    abbrev pub with_chunk : Queue (KeyOf is_interleaved) (next_of is_interleaved)
    with_chunk = record q { chunks = λ κ. pick (decide κ (key_of_held is_interleaved shift x)) (Some (chunk_of_held id x)) (q.chunks κ) }

    pub added : Added (KeyOf is_interleaved) (next_of is_interleaved) q with_chunk (key_of_held is_interleaved shift x) (chunk_of_held id x)
    added = record {
      here = pick_yes (decide (key_of_held is_interleaved shift x) (key_of_held is_interleaved shift x)) (Some (chunk_of_held id x)) (q.chunks (key_of_held is_interleaved shift x)) refl;
      kept = λ κ d. pick_no (decide κ (key_of_held is_interleaved shift x)) (Some (chunk_of_held id x)) (q.chunks κ) d;
      next = λ a. refl;
      passed = λ a. refl;
      ready = refl;
    }

    came : (k : Bool) (a : ℕ) (h : Held) → IsAmong h (v'.held k a) → ((k ≡ kind) × (a ≡ s) × (h ≡ x)) ⊎ IsAmong h (v.held k a)
    came k a h y =
        elim (place_cases k kind a s) [
          | inl e ↦
              let there : v'.held k a ≡ put_in rank_of x (v.held kind s) = ap (λ (z : Bool). v'.held z a) e.0 ∙ (ap (v'.held kind) e.1 ∙ at.here) in
              elim (put_cases rank_of x h (v.held kind s) (subst (IsAmong h) there y)) [
                | inl f ↦ inl (e.0, e.1, f)
                | inr z ↦ inr (subst (IsAmong h) (sym (ap (λ (z : Bool). v.held z a) e.0 ∙ ap (v.held kind) e.1)) z)
              ]
          | inr d ↦ inr (subst (IsAmong h) (at.others k a d) y)
        ]

    stays : (k : Bool) (a : ℕ) (h : Held) → IsAmong h (v.held k a) → IsAmong h (v'.held k a)
    stays k a h y =
        elim (place_cases k kind a s) [
          | inl e ↦
              let there : v'.held k a ≡ put_in rank_of x (v.held kind s) = ap (λ (z : Bool). v'.held z a) e.0 ∙ (ap (v'.held kind) e.1 ∙ at.here) in
              subst (IsAmong h) (sym there) (put_others rank_of x h (v.held kind s) (subst (IsAmong h) (ap (λ (z : Bool). v.held z a) e.0 ∙ ap (v.held kind) e.1) y))
          | inr d ↦ subst (IsAmong h) (sym (at.others k a d)) y
        ]

    pub seen_with : IsSeenAs is_interleaved shift v' with_chunk
    seen_with = record {
      filed = λ k a h y.
          elim (came k a h y) [
            | inl e ↦ subst (λ (z : Bool). IsFiled is_interleaved shift z a h) (sym e.0) (subst (λ (z : ℕ). IsFiled is_interleaved shift kind z h) (sym e.1) (subst (IsFiled is_interleaved shift kind s) (sym e.2) file))
            | inr z ↦ p.filed k a h z
          ];
      holds = λ k a h y.
          elim (came k a h y) [
            | inl e ↦ (
              id,
              pick_yes (decide (key_of_held is_interleaved shift h) (key_of_held is_interleaved shift x)) (Some (chunk_of_held id x)) (q.chunks (key_of_held is_interleaved shift h)) (ap (key_of_held is_interleaved shift) e.2)
                  ∙ ap (λ (z : Held). Some (chunk_of_held id z)) (sym e.2),
              λ b. own (ap (λ (z : Held). z.fragment.is_beginning) (sym e.2) ∙ b) ∙ ap (λ (z : Held). z.fragment.ppid) (sym e.2),
            )
            | inr z ↦
                let c = p.holds k a h z in (
                  c.0,
                  pick_no (decide (key_of_held is_interleaved shift h) (key_of_held is_interleaved shift x)) (Some (chunk_of_held id x)) (q.chunks (key_of_held is_interleaved shift h)) (λ e. none-some (chunk_of_held c.0 h) (sym new ∙ (ap q.chunks (sym e) ∙ c.1)))
                      ∙ c.1,
                  c.2,
                )
          ];
      found = λ κ w e. find (decide κ (key_of_held is_interleaved shift x)) w e;
      next = λ a. next a ∙ p.next a;
      passed = λ m a. p.passed m a ∙ ap (λ (z : ℕ). z - origin) (sym (passed a));
      none_passed = λ m a. subst (λ (z : ℕ). z ≤ origin) (sym (passed a)) (p.none_passed m a);
      ready = p.ready ∙ ap (map ready_of) (sym ready);
    }
      where
        find : {κ : KeyOf is_interleaved} (d : (κ ≡ key_of_held is_interleaved shift x) ⊎ (κ ≡ key_of_held is_interleaved shift x → ⊥)) (w : Chunk) → pick d (Some (chunk_of_held id x)) (q.chunks κ) ≡ Some w
            → (k : Bool) × (a : ℕ) × (h : Held) × IsAmong h (v'.held k a) × (key_of_held is_interleaved shift h ≡ κ) × ((i : ℕ) × (chunk_of_held i h ≡ w))
        find (inl y) w e = (kind, s, x, subst (IsAmong x) (sym at.here) (put_here rank_of x (v.held kind s)), sym y, (id, same_Some (chunk_of_held id x) w e))
        find {κ = κ} (inr n) w e = let f = p.found κ w e in (f.0, f.1, f.2, stays f.0 f.1 f.2 f.3, f.4, f.5)

  -- ---- a message goes out
  module _ (e : Held) (es front back : List Held) (linked : IsLinked rank_of goes_on e es) (whole : v.held kind s ≡ front ++ ((e ∷ es) ++ back)) (rising : Rising rank_of (v.held kind s))
      (complete : is_complete (e ∷ es) ≡ true) (turn : kind ≡ true → e.number ≡ v.next s) (at : IsAt v v' kind s (front ++ back))
      (next : (a : ℕ) → v'.next a ≡ cond (kind && (a == s)) (suc (v.next s)) (v.next a)) (passed : (a : ℕ) → v'.passed a ≡ v.passed a)
      (ready : v'.ready ≡ v.ready ++ message_of_run (e ∷ es) ∷ []) where
    abbrev item : ℕ → Held
    item j = get_or (e ∷ es) j e

    -- the run is there
    run_there : (h : Held) → IsAmong h (e ∷ es) → IsAmong h (v.held kind s)
    run_there h y = subst (IsAmong h) (sym whole) (among_right h front ((e ∷ es) ++ back) (among_left h (e ∷ es) back y))

    item_there : (j : ℕ) → j ≤ length es → IsAmong (item j) (v.held kind s)
    item_there j l = run_there (item j) (at_among e e es j l)

    -- their protocol ids. Past the end, any
    pub id_at : (j : ℕ) → (id : ℕ) × (j ≤ length es → (q.chunks (key_of_held is_interleaved shift (item j)) ≡ Some (chunk_of_held id (item j))) × ((item j).fragment.is_beginning ≡ true → id ≡ (item j).fragment.ppid))
    id_at j =
        elim (cases_lt (length es) j) [
          | inl l ↦ (0, λ h. absurd (omega (arith, l, h)))
          | inr g ↦ let c = p.holds kind s (item j) (item_there j g) in (c.0, λ h. (c.1, c.2))
        ]

    abbrev pub chunk_at : ℕ → Chunk
    chunk_at j = chunk_of_held (id_at j).0 (item j)

    item_filed : (j : ℕ) → j ≤ length es → IsFiled is_interleaved shift kind s (item j)
    item_filed j l = p.filed kind s (item j) (item_there j l)

    next_at : (j : ℕ) → j < length es → Next (item j) (item (suc j))
    next_at j l = next_item (item j) (item (suc j)) (item_filed j (omega (arith, l))).index_below (item_filed (suc j) l).index_below (linked_at e e es j linked l)

    key_at : (j : ℕ) → j ≤ length es → nth (KeyOf is_interleaved) (next_of is_interleaved) (key_of_held is_interleaved shift e) j ≡ key_of_held is_interleaved shift (item j)
    key_at zero l = refl
    key_at (suc j) l =
        let m : j ≤ length es = omega (arith, l) in
        ap (next_of is_interleaved) (key_at j m) ∙ next_key is_interleaved shift kind s (item j) (item (suc j)) (item_filed j m) (item_filed (suc j) l) (next_at j l)

    first_kind : (chunk_at 0).ordered ≡ kind
    first_kind = twice_not e.fragment.is_unordered kind (item_filed 0 (omega arith)).kind_is

    first_stream : (chunk_at 0).stream ≡ s
    first_stream = (item_filed 0 (omega arith)).stream_is

    first_number : kind ≡ true → (chunk_at 0).number ≡ q.next s
    first_number k = let a = turn k in let b = p.next s in omega (arith, a, b)

    pub ready_run : ReadyRun (KeyOf is_interleaved) (next_of is_interleaved) q (key_of_held is_interleaved shift e) (length es) chunk_at
    ready_run =
        let w = and_parts e.fragment.is_beginning (last_of e es).fragment.is_end complete in
        record {
          held = λ j l. ap q.chunks (key_at j l) ∙ ((id_at j).1 l).0;
          begins = w.0;
          ends = ap (λ (z : Held). z.fragment.is_end) (at_last e e es) ∙ w.1;
          inner = λ j l. (next_at j l).no_end;
          in_turn = λ o. first_number (sym first_kind ∙ o) ∙ ap q.next (sym first_stream);
        }

    abbrev pub without_run : Queue (KeyOf is_interleaved) (next_of is_interleaved)
    without_run = record {
      chunks = without is_interleaved shift decide (e ∷ es) q.chunks;
      next = λ a. cond ((chunk_at 0).ordered && (a == (chunk_at 0).stream)) (suc (chunk_at 0).number) (q.next a);
      passed_below = q.passed_below;
      ready = q.ready ++ record { stream = (chunk_at 0).stream; protocol_id = (chunk_at 0).protocol_id; payload = concatenation (λ j. (chunk_at j).payload) (suc (length es)) } ∷ [];
    }

    pub run_taken : RunTaken (KeyOf is_interleaved) (next_of is_interleaved) q without_run (key_of_held is_interleaved shift e) (length es) chunk_at
    run_taken = record {
      removed = λ j l. without_among is_interleaved shift decide (e ∷ es) q.chunks (nth (KeyOf is_interleaved) (next_of is_interleaved) (key_of_held is_interleaved shift e) j) (item j) (at_among e e es j l) (key_at j l);
      kept = λ κ apart. without_apart is_interleaved shift decide (e ∷ es) q.chunks κ
          (λ h y k. let i = place_among h e e es y in apart i.0 i.1 (k ∙ (ap (key_of_held is_interleaved shift) i.2 ∙ sym (key_at i.0 i.1))));
      next = λ a. refl;
      passed = λ a. refl;
      ready = refl;
    }

    pub fewer : (κ : KeyOf is_interleaved) (w : Chunk) → without_run.chunks κ ≡ Some w → q.chunks κ ≡ Some w
    fewer κ w h = (without_some is_interleaved shift decide (e ∷ es) q.chunks κ w h).0

    -- what stays was there, and is none of the run
    stayed : (k : Bool) (a : ℕ) (h : Held) → IsAmong h (v'.held k a) → IsAmong h (v.held k a) × ((g : Held) → IsAmong g (e ∷ es) → key_of_held is_interleaved shift h ≡ key_of_held is_interleaved shift g → ⊥)
    stayed k a h y =
        elim (place_cases k kind a s) [
          | inl i ↦
              let new : v'.held k a ≡ front ++ back = ap (λ (z : Bool). v'.held z a) i.0 ∙ (ap (v'.held kind) i.1 ∙ at.here) in
              let old : v.held k a ≡ front ++ ((e ∷ es) ++ back) = ap (λ (z : Bool). v.held z a) i.0 ∙ (ap (v.held kind) i.1 ∙ whole) in
              let z = subst (IsAmong h) new y in
              let there : IsAmong h (v.held k a) = subst (IsAmong h) (sym old) (around z) in
              (there, λ g b c. rising_apart rank_of front (e ∷ es) back h g (subst (Rising rank_of) whole rising) z b (one_place is_interleaved shift v q p k kind a s h g there (run_there g b) c).rank)
          | inr d ↦
              let there = subst (IsAmong h) (at.others k a d) y in
              (there, λ g b c. let o = one_place is_interleaved shift v q p k kind a s h g there (run_there g b) c in d o.kind o.stream)
        ]
      where
        around : IsAmong h (front ++ back) → IsAmong h (front ++ ((e ∷ es) ++ back))
        around z =
            elim (among_cases h front back z) [
              | inl l ↦ among_left h front ((e ∷ es) ++ back) l
              | inr r ↦ among_right h front ((e ∷ es) ++ back) (among_right h (e ∷ es) back r)
            ]

    -- what was there and is none of the run stays
    kept_there : (k : Bool) (a : ℕ) (h : Held) → IsAmong h (v.held k a) → (IsAmong h (e ∷ es) → ⊥) → IsAmong h (v'.held k a)
    kept_there k a h y other =
        elim (place_cases k kind a s) [
          | inl i ↦
              let new : v'.held k a ≡ front ++ back = ap (λ (z : Bool). v'.held z a) i.0 ∙ (ap (v'.held kind) i.1 ∙ at.here) in
              let old : v.held k a ≡ front ++ ((e ∷ es) ++ back) = ap (λ (z : Bool). v.held z a) i.0 ∙ (ap (v.held kind) i.1 ∙ whole) in
              subst (IsAmong h) (sym new) (outside (subst (IsAmong h) old y))
          | inr d ↦ subst (IsAmong h) (sym (at.others k a d)) y
        ]
      where
        outside : IsAmong h (front ++ ((e ∷ es) ++ back)) → IsAmong h (front ++ back)
        outside z =
            elim (among_cases h front ((e ∷ es) ++ back) z) [
              | inl l ↦ among_left h front back l
              | inr r ↦ elim (among_cases h (e ∷ es) back r) [
                | inl m ↦ absurd (other m)
                | inr b ↦ among_right h front back b
              ]
            ]

    next_is : (a : ℕ) → cond (kind && (a == s)) (suc (v.next s)) (v.next a) ≡ origin + without_run.next a
    next_is a =
        by kind refl (a == s)
        ∙ (ap (λ (z : Bool). origin + cond (z && (a == s)) (suc (chunk_at 0).number) (q.next a)) (sym first_kind)
        ∙ ap (λ (z : ℕ). origin + cond ((chunk_at 0).ordered && (a == z)) (suc (chunk_at 0).number) (q.next a)) (sym first_stream))
      where
        by : (k : Bool) → kind ≡ k → (b : Bool) → cond (k && b) (suc (v.next s)) (v.next a) ≡ origin + cond (k && b) (suc (chunk_at 0).number) (q.next a)
        by true e true = let m = p.next s in let n = first_number e in omega (arith, m, n)
        by true e false = p.next a
        by false e b = p.next a

    own_id : (id_at 0).0 ≡ e.fragment.ppid
    own_id = ((id_at 0).1 (omega arith)).1 (and_parts e.fragment.is_beginning (last_of e es).fragment.is_end complete).0

    pub seen_without : IsSeenAs is_interleaved shift v' without_run
    seen_without = record {
      filed = λ k a h y. p.filed k a h (stayed k a h y).0;
      holds = λ k a h y.
          let z = stayed k a h y in
          let c = p.holds k a h z.0 in
          (c.0, without_apart is_interleaved shift decide (e ∷ es) q.chunks (key_of_held is_interleaved shift h) z.1 ∙ c.1, c.2);
      found = λ κ w h.
          let z = without_some is_interleaved shift decide (e ∷ es) q.chunks κ w h in
          let f = p.found κ w z.0 in
          (f.0, f.1, f.2, kept_there f.0 f.1 f.2 f.3 (λ b. z.1 f.2 b (sym f.4)), f.4, f.5);
      next = λ a. next a ∙ next_is a;
      passed = λ m a. p.passed m a ∙ ap (λ (z : ℕ). z - origin) (sym (passed a));
      none_passed = λ m a. subst (λ (z : ℕ). z ≤ origin) (sym (passed a)) (p.none_passed m a);
      ready =
          ap (λ z. q.ready ++ record { stream = e.fragment.stream_id; protocol_id = z; payload = concatenation (λ j. (chunk_at j).payload) (suc (length es)) } ∷ []) own_id
          ∙ (ap (λ z. q.ready ++ record { stream = e.fragment.stream_id; protocol_id = e.fragment.ppid; payload = z } ∷ []) (payload_joined e e es)
          ∙ (ap (λ z. z ++ ready_of (message_of_run (e ∷ es)) ∷ []) p.ready
          ∙ (sym (map-append ready_of v.ready (message_of_run (e ∷ es) ∷ [])) ∙ ap (map ready_of) (sym ready))));
    }
