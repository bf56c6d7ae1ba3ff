-- A forward point that comes is a few of the rules.
use Rattle.std.proofs.Common.{◌≡◌, ℕ, ◌+◌, ◌-◌, ◌^◌, ◌<◌, ◌≤◌, Bool, true, false, cond, Option, Some, None, List, map, refl, ap, sym, ◌∙◌, subst, arith}
use Rattle.std.specs.Prelude.{not, ◌&&◌, ◌||◌, ◌==◌, nat_lt, nat_le}
use Rattle.std.proofs.lemmas.Bool.{cond-false, or_from, or_parts}
use Rattle.std.proofs.lemmas.Bool.Decides.{nat_tests}
use Rattle.std.proofs.lemmas.Option.{same_Some, none-some}
use Rattle.sctp_serial.specs.Messages as messages
use Rattle.sctp_serial.specs.Unwrapped.{origin}
use Rattle.sctp_rx.specs.ReassemblyKey.{pair_rank}
use Rattle.sctp_rx.specs.Held.{Held, rank_of}
use Rattle.sctp_rx.specs.Delivery.{fresh_unordered, unordered_forward_tsn}
use Rattle.sctp_rx.specs.ReassemblyStreams.{Streams, stream_at, dropped_to}
use Rattle.proof_protocol.specs.State.{Entry, ForwardPoint, IsAmong}
use Rattle.proof_protocol.specs.Rules.{same, covers, raise}
use Rattle.proof_protocol.specs.Reassembly as queues
use Rattle.proof_protocol.specs.Reassembly.{Chunk, Queue, KeyOf, next_of, below_of, keep_undropped}
use Rattle.proof_refines.specs.View.{View, IsFiled, IsSeenAs, chunk_of_held, key_of_held, ordered_at, unordered_at, held_on, view_with}
use Rattle.proof_refines.proofs.AmongLemmas.{from_cases, from_kept}
use Rattle.proof_refines.proofs.HeldKeyLemmas.{twice_not}
use Rattle.proof_refines.proofs.StreamLemmas.{mapped_at}
use Rattle.proof_refines.proofs.PendingLemmas.{is_named, pending, lift_next, lift_passed, lift_none, cut_sub, cut_uncovered, cut_kept}

-- ---- what the point's TSN leaves

-- whether it drops the fragment
abbrev behind : Bool → Bool → ℕ → Held → Bool
behind is_interleaved kind n h = not is_interleaved && (not kind && nat_le h.index n)

module _ (ss : Streams) (n : ℕ) where
  pub unordered_kept : (b : Bool) → ss.is_interleaved ≡ b → (s : ℕ) → unordered_at (dropped_to n ss) s ≡ cond b (unordered_at ss s) (unordered_forward_tsn n (unordered_at ss s))
  unordered_kept true e s = ap (λ b. stream_at fresh_unordered s (cond b ss.unordered (map (λ x. (x.0, unordered_forward_tsn n x.1)) ss.unordered))) e
  unordered_kept false e s =
      ap (λ b. stream_at fresh_unordered s (cond b ss.unordered (map (λ x. (x.0, unordered_forward_tsn n x.1)) ss.unordered))) e
      ∙ mapped_at fresh_unordered s (unordered_forward_tsn n) refl ss.unordered

  passed_kept : (s : ℕ) → (unordered_at (dropped_to n ss) s).passed ≡ (unordered_at ss s).passed
  passed_kept s = go ss.is_interleaved refl
    where
      go : (b : Bool) → ss.is_interleaved ≡ b → (unordered_at (dropped_to n ss) s).passed ≡ (unordered_at ss s).passed
      go true e = ap (λ z. z.passed) (unordered_kept true e s)
      go false e = ap (λ z. z.passed) (unordered_kept false e s)

  -- by TSN, unordered DATA
  tsn_test : (h : Held) → h.number ≡ origin → h.index < 2 ^ 63 → nat_lt (rank_of h) (pair_rank origin (n + 1)) ≡ nat_le h.index n
  tsn_test h e l = by h.number h.index e
    where
      by : (a b : ℕ) → a ≡ origin → nat_lt (pair_rank a b) (pair_rank origin (n + 1)) ≡ nat_le b n
      by a b e = grind (arith, nat_tests)

  sub_dropped : (kind : Bool) (s : ℕ) (h : Held) → IsAmong h (held_on (dropped_to n ss) kind s) → IsAmong h (held_on ss kind s)
  sub_dropped true s h a = a
  sub_dropped false s h a = go ss.is_interleaved refl
    where
      go : (b : Bool) → ss.is_interleaved ≡ b → IsAmong h (held_on ss false s)
      go true e = subst (λ z. IsAmong h z.held) (unordered_kept true e s) a
      go false e = (from_cases rank_of (pair_rank origin (n + 1)) h (held_on ss false s) (subst (λ z. IsAmong h z.held) (unordered_kept false e s) a)).0

  -- unordered DATA has no number
  abbrev Unnumbered : Bool → Bool → Held → Type 0
  Unnumbered is_interleaved kind h = is_interleaved ≡ false → kind ≡ false → h.number ≡ origin

  dropped_above : (is_interleaved kind : Bool) (s : ℕ) (h : Held) → ss.is_interleaved ≡ is_interleaved → h.index < 2 ^ 63 → Unnumbered is_interleaved kind h → IsAmong h (held_on (dropped_to n ss) kind s)
      → behind is_interleaved kind n h ≡ false
  dropped_above true kind s h m l u a = refl
  dropped_above false true s h m l u a = refl
  dropped_above false false s h m l u a =
      sym (tsn_test h (u refl refl) l) ∙ (from_cases rank_of (pair_rank origin (n + 1)) h (held_on ss false s) (subst (λ z. IsAmong h z.held) (unordered_kept false m s) a)).1

  kept_above : (is_interleaved kind : Bool) (s : ℕ) (h : Held) → ss.is_interleaved ≡ is_interleaved → h.index < 2 ^ 63 → Unnumbered is_interleaved kind h → IsAmong h (held_on ss kind s) → behind is_interleaved kind n h ≡ false
      → IsAmong h (held_on (dropped_to n ss) kind s)
  kept_above is_interleaved true s h m l u a b = a
  kept_above true false s h m l u a b = subst (λ z. IsAmong h z.held) (sym (unordered_kept true m s)) a
  kept_above false false s h m l u a b =
      subst (λ z. IsAmong h z.held) (sym (unordered_kept false m s)) (from_kept rank_of (pair_rank origin (n + 1)) h (held_on ss false s) a (tsn_test h (u refl refl) l ∙ b))

-- ---- the queue that the point leaves

module _ (is_interleaved : Bool) (shift : ℕ) (ss : Streams) (ready : List messages.Message) (q : Queue (KeyOf is_interleaved) (next_of is_interleaved)) (p : IsSeenAs is_interleaved shift (view_with ss ready) q) (mode : ss.is_interleaved ≡ is_interleaved)
    (n : ℕ) (f : ForwardPoint) (es : List Entry) (covers_is : (kind : Bool) (s m : ℕ) → covers es kind s m ≡ covers f.entries kind s m) (raised_is : (kind : Bool) (s m : ℕ) → raise es kind s m ≡ raise f.entries kind s m)
    (upto : n + shift + 1 ≡ origin + f.upto) (all_ordered : is_interleaved ≡ false → (e : Entry) → IsAmong e es → e.ordered ≡ true)
    (unnumbered : is_interleaved ≡ false → (s : ℕ) (h : Held) → IsAmong h (held_on ss false s) → h.number ≡ origin) where
  abbrev pub left : Queue (KeyOf is_interleaved) (next_of is_interleaved)
  left = record {
    chunks = λ κ. keep_undropped (KeyOf is_interleaved) (next_of is_interleaved) is_interleaved (below_of is_interleaved) f κ (q.chunks κ);
    next = λ s. raise f.entries true s (q.next s);
    passed_below = λ s. raise f.entries false s (q.passed_below s);
    ready = q.ready;
  }

  pub point_left : queues.Forwarded (KeyOf is_interleaved) (next_of is_interleaved) is_interleaved (below_of is_interleaved) q left f
  point_left = record { chunks = λ κ. refl; next = λ s. refl; passed = λ s. refl; ready = refl }

  abbrev drops : KeyOf is_interleaved → Chunk → Bool
  drops κ w = covers f.entries w.ordered w.stream w.number || (not is_interleaved && (not w.ordered && below_of is_interleaved κ f.upto))

  drop_some : (κ : KeyOf is_interleaved) (o : Option Chunk) (w : Chunk) → keep_undropped (KeyOf is_interleaved) (next_of is_interleaved) is_interleaved (below_of is_interleaved) f κ o ≡ Some w → (o ≡ Some w) × (drops κ w ≡ false)
  drop_some κ None w e = absurd (none-some w e)
  drop_some κ (Some v) w e = go (drops κ v) refl e
    where
      go : (b : Bool) → drops κ v ≡ b → cond b None (Some v) ≡ Some w → (Some v ≡ Some w) × (drops κ w ≡ false)
      go true t e = absurd (none-some w e)
      go false t e = (e, ap (drops κ) (sym (same_Some v w e)) ∙ t)

  pub left_fewer : (κ : KeyOf is_interleaved) (w : Chunk) → left.chunks κ ≡ Some w → q.chunks κ ≡ Some w
  left_fewer κ w e = (drop_some κ (q.chunks κ) w e).0

  -- the test on a held fragment
  below_is : (m : Bool) (kind : Bool) (h : Held) → (m ≡ false → origin ≤ h.index + shift)
      → (not m && (not kind && below_of m (key_of_held m shift h) f.upto)) ≡ behind m kind n h
  below_is true kind h from = refl
  below_is false true h from = refl
  below_is false false h from = by h.index (from refl)
    where
      by : (a : ℕ) → origin ≤ a + shift → nat_lt (a + shift - origin) f.upto ≡ nat_le a n
      by a b = grind (arith, nat_tests, upto)

  drops_is : (kind : Bool) (s id : ℕ) (h : Held) → IsFiled is_interleaved shift kind s h → drops (key_of_held is_interleaved shift h) (chunk_of_held id h) ≡ (covers es kind s (h.number - origin) || behind is_interleaved kind n h)
  drops_is kind s id h file =
      let k : not h.fragment.is_unordered ≡ kind = twice_not h.fragment.is_unordered kind file.kind_is in
      ap (λ z. covers f.entries z h.fragment.stream_id (h.number - origin) || (not is_interleaved && (not z && below_of is_interleaved (key_of_held is_interleaved shift h) f.upto))) k
      ∙ (ap (λ z. covers f.entries kind z (h.number - origin) || (not is_interleaved && (not kind && below_of is_interleaved (key_of_held is_interleaved shift h) f.upto))) file.stream_is
      ∙ (ap (λ z. z || (not is_interleaved && (not kind && below_of is_interleaved (key_of_held is_interleaved shift h) f.upto))) (sym (covers_is kind s (h.number - origin)))
      ∙ ap (λ z. covers es kind s (h.number - origin) || z) (below_is is_interleaved kind h file.index_from)))

  abbrev v : View
  v = view_with ss ready

  abbrev w : View
  w = pending es (view_with (dropped_to n ss) ready)

  unnumbered_at : (kind : Bool) (s : ℕ) (h : Held) → IsAmong h (held_on ss kind s) → is_interleaved ≡ false → kind ≡ false → h.number ≡ origin
  unnumbered_at true s h a m k = cc
  unnumbered_at false s h a m k = unnumbered m s h a

  was_there : (kind : Bool) (s : ℕ) (h : Held) → IsAmong h (w.held kind s) → IsAmong h (held_on ss kind s)
  was_there kind s h a = sub_dropped ss n kind s h (cut_sub kind s es h (held_on (dropped_to n ss) kind s) a)

  not_dropped : (kind : Bool) (s id : ℕ) (h : Held) → IsAmong h (w.held kind s) → drops (key_of_held is_interleaved shift h) (chunk_of_held id h) ≡ false
  not_dropped kind s id h a =
      let there = was_there kind s h a in
      let file = p.filed kind s h there in
      drops_is kind s id h file ∙ or_from (covers es kind s (h.number - origin)) (behind is_interleaved kind n h) (cut_uncovered kind s es h (held_on (dropped_to n ss) kind s) file.index_below a)
      (dropped_above ss n is_interleaved kind s h mode file.index_below (unnumbered_at kind s h there) (cut_sub kind s es h (held_on (dropped_to n ss) kind s) a))

  stays_there : (kind : Bool) (s id : ℕ) (h : Held) → IsAmong h (held_on ss kind s) → drops (key_of_held is_interleaved shift h) (chunk_of_held id h) ≡ false → IsAmong h (w.held kind s)
  stays_there kind s id h there d =
      let file = p.filed kind s h there in
      let t = or_parts (covers es kind s (h.number - origin)) (behind is_interleaved kind n h) (sym (drops_is kind s id h file) ∙ d) in
      cut_kept kind s es h (held_on (dropped_to n ss) kind s) file.index_below (kept_above ss n is_interleaved kind s h mode file.index_below (unnumbered_at kind s h there) there t.1) t.0

  unnamed : is_interleaved ≡ false → (s : ℕ) (e : Entry) → IsAmong e es → is_named e false s ≡ false
  unnamed m s e a = ap (λ z. same z false && (e.stream == s)) (all_ordered m e a)

  pub left_seen : IsSeenAs is_interleaved shift w left
  left_seen = record {
    filed = λ kind s h a. p.filed kind s h (was_there kind s h a);
    holds = λ kind s h a.
        let c = p.holds kind s h (was_there kind s h a) in (
          c.0,
          ap (keep_undropped (KeyOf is_interleaved) (next_of is_interleaved) is_interleaved (below_of is_interleaved) f (key_of_held is_interleaved shift h)) c.1
              ∙ cond-false (drops (key_of_held is_interleaved shift h) (chunk_of_held c.0 h)) None (Some (chunk_of_held c.0 h)) (not_dropped kind s c.0 h a),
          c.2,
        );
    found = λ κ c e.
        let d = drop_some κ (q.chunks κ) c e in
        let g = p.found κ c d.0 in
        (g.0, g.1, g.2, stays_there g.0 g.1 g.5.0 g.2 g.3 (ap (λ z. drops z (chunk_of_held g.5.0 g.2)) g.4 ∙ (ap (drops κ) g.5.1 ∙ d.1)), g.4, g.5);
    next = λ s. lift_next es s (ordered_at ss s).next (q.next s) (p.next s) ∙ ap (λ z. origin + z) (raised_is true s (q.next s));
    passed = λ m s.
        sym (raised_is false s (q.passed_below s))
        ∙ lift_passed es s (unordered_at (dropped_to n ss) s).passed (q.passed_below s) (p.passed m s ∙ ap (λ z. z - origin) (sym (passed_kept ss n s)));
    none_passed = λ m s. subst (λ z. z ≤ origin) (sym (lift_none false s es (unnamed m s) (unordered_at (dropped_to n ss) s).passed ∙ passed_kept ss n s)) (p.none_passed m s);
    ready = p.ready;
  }
