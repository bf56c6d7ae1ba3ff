-- What a queue of numbers on the wire does is what the lifted queue does.
use Rattle.std.proofs.Common.{◌≡◌, ℕ, zero, suc, ◌+◌, ◌-◌, ◌<◌, ◌≤◌, ◌&&◌, ◌||◌, not, max, Bool, true, false, cond, inl, inr, Option, Some, None, List, [], ◌∷◌, map, refl, sym, ap, ◌∙◌, subst, arith, eqb, leb}
use Rattle.std.proofs.lemmas.Bool.{cases_lt, leb-true, le-leb, eqb-true, false_from_ne_true, cond-true, cond-false}
use Rattle.proof_protocol.specs.Reassembly.{Chunk, MessageKey, Queue, KeyOf, next_of, nth, ReadyRun, RunTaken, Readied, no_more, one_more, Added, NoneReady, Forwarded, keep_undropped, chunk_of, key_of, message_key, below_of}
use Rattle.proof_protocol.specs.State.{Message, Entry, ForwardPoint, IsAmong, Sender, Transfer, fragment, place_of, count, ordered_of, stream_of}
use Rattle.proof_protocol.specs.Rules.{same, covers, raise, data_comes, forward_comes, become_ready}
use Rattle.proof_protocol.specs.Invariant.{Invariant}
use Rattle.proof_protocol.specs.Joints.{Refines, LeadsTo}
use Rattle.proof_protocol.specs.Lifted.{as_written, wire_point, AreEntriesOfCurrentEpoch, up_key, down_key, is_from, up_chunk, up_some, lift, wire_chunk, wire_key, IsOfCurrentEpoch}
use Rattle.proof_protocol.proofs.ToolsLemmas.{same_is}
use Rattle.proof_protocol.proofs.ReceiverRowLemmas.{new_chunk, point_comes, key_laws}

module _ (base : Bool → ℕ → ℕ) where
  number_back : (b n : ℕ) → (b + n) - b ≡ n
  number_back b n = omega arith

  down_up : (is_interleaved : Bool) (κ : KeyOf is_interleaved) → down_key base is_interleaved (up_key base is_interleaved κ) ≡ κ
  down_up false κ = refl
  down_up true κ = ap (λ (n : ℕ). let y : MessageKey = record κ { number = n } in y) (number_back (base κ.ordered κ.stream) κ.number)

  from_up : (is_interleaved : Bool) (κ : KeyOf is_interleaved) → is_from base is_interleaved (up_key base is_interleaved κ) ≡ true
  from_up false κ = refl
  from_up true κ = le-leb (base κ.ordered κ.stream) (base κ.ordered κ.stream + κ.number) (omega arith)

  up_down : (is_interleaved : Bool) (κ : KeyOf is_interleaved) → is_from base is_interleaved κ ≡ true → up_key base is_interleaved (down_key base is_interleaved κ) ≡ κ
  up_down false κ h = refl
  up_down true κ h =
      let l = leb-true (base κ.ordered κ.stream) κ.number h in
      let e : base κ.ordered κ.stream + (κ.number - base κ.ordered κ.stream) ≡ κ.number = omega (arith, l) in
      ap (λ (n : ℕ). let y : MessageKey = record κ { number = n } in y) e

  pub up_next : (is_interleaved : Bool) (κ : KeyOf is_interleaved) → up_key base is_interleaved (next_of is_interleaved κ) ≡ next_of is_interleaved (up_key base is_interleaved κ)
  up_next false κ = refl
  up_next true κ = refl

  up_nth : (is_interleaved : Bool) (κ : KeyOf is_interleaved) (j : ℕ) → nth (KeyOf is_interleaved) (next_of is_interleaved) (up_key base is_interleaved κ) j ≡ up_key base is_interleaved (nth (KeyOf is_interleaved) (next_of is_interleaved) κ j)
  up_nth is_interleaved κ zero = refl
  up_nth is_interleaved κ (suc j) = ap (next_of is_interleaved) (up_nth is_interleaved κ j) ∙ sym (up_next is_interleaved (nth (KeyOf is_interleaved) (next_of is_interleaved) κ j))

  pub number_up : (m : Bool) (w : Chunk) → w.ordered ≡ true → (up_chunk base m w).number ≡ base true w.stream + w.number
  number_up m w e = ap (λ b. cond (b || m) (base b w.stream + w.number) w.number) e

module _ (base : Bool → ℕ → ℕ) (is_interleaved : Bool) (q : Queue (KeyOf is_interleaved) (next_of is_interleaved)) where
  abbrev l : Queue (KeyOf is_interleaved) (next_of is_interleaved)
  l = lift base is_interleaved q

  pub lift_at : (κ : KeyOf is_interleaved) → l.chunks (up_key base is_interleaved κ) ≡ up_some base is_interleaved (q.chunks κ)
  lift_at κ =
      cond-true (is_from base is_interleaved (up_key base is_interleaved κ)) (up_some base is_interleaved (q.chunks (down_key base is_interleaved (up_key base is_interleaved κ)))) None (from_up base is_interleaved κ)
      ∙ ap (λ z. up_some base is_interleaved (q.chunks z)) (down_up base is_interleaved κ)

  some_up : (o : Option Chunk) (v : Chunk) → up_some base is_interleaved o ≡ Some v → (w : Chunk) × (o ≡ Some w) × (v ≡ up_chunk base is_interleaved w)
  some_up None v e = cc
  some_up (Some w) v e = (w, refl, some_one (up_chunk base is_interleaved w) v e)
    where
      some_one : (a b : Chunk) → Some a ≡ Some b → b ≡ a
      some_one a b e = cc

  -- what is held is held under a number of the wire
  pub lift_some : (κ : KeyOf is_interleaved) (v : Chunk) → l.chunks κ ≡ Some v
      → (w : Chunk) × (up_key base is_interleaved (down_key base is_interleaved κ) ≡ κ) × (q.chunks (down_key base is_interleaved κ) ≡ Some w) × (v ≡ up_chunk base is_interleaved w)
  lift_some κ v e = go (is_from base is_interleaved κ) refl
    where
      go : (b : Bool) → is_from base is_interleaved κ ≡ b → (w : Chunk) × (up_key base is_interleaved (down_key base is_interleaved κ) ≡ κ) × (q.chunks (down_key base is_interleaved κ) ≡ Some w) × (v ≡ up_chunk base is_interleaved w)
      go true f =
          let z = some_up (q.chunks (down_key base is_interleaved κ)) v (sym (cond-true (is_from base is_interleaved κ) (up_some base is_interleaved (q.chunks (down_key base is_interleaved κ))) None f) ∙ e) in
          (z.0, up_down base is_interleaved κ f, z.1, z.2)
      go false f = absurd (no_some (sym (cond-false (is_from base is_interleaved κ) (up_some base is_interleaved (q.chunks (down_key base is_interleaved κ))) None f) ∙ e))
        where
          no_some : None ≡ Some v → ⊥
          no_some e = cc

  -- a run that is ready is ready there, and each that is ready there
  pub ready_up : (κ : KeyOf is_interleaved) (n : ℕ) (w : ℕ → Chunk) → ReadyRun (KeyOf is_interleaved) (next_of is_interleaved) q κ n w
      → ReadyRun (KeyOf is_interleaved) (next_of is_interleaved) l (up_key base is_interleaved κ) n (λ j. up_chunk base is_interleaved (w j))
  ready_up κ n w y = record {
    held = λ j h. ap l.chunks (up_nth base is_interleaved κ j) ∙ (lift_at (nth (KeyOf is_interleaved) (next_of is_interleaved) κ j) ∙ ap (up_some base is_interleaved) (y.held j h));
    begins = y.begins;
    ends = y.ends;
    inner = y.inner;
    in_turn = λ o. number_up base is_interleaved (w 0) o ∙ ap (λ z. base true (w 0).stream + z) (y.in_turn o);
  }

  key_down : (is_interleaved : Bool) (κ : KeyOf is_interleaved) (j : ℕ) → up_key base is_interleaved (down_key base is_interleaved κ) ≡ κ
      → down_key base is_interleaved (nth (KeyOf is_interleaved) (next_of is_interleaved) κ j) ≡ nth (KeyOf is_interleaved) (next_of is_interleaved) (down_key base is_interleaved κ) j
  key_down m κ j e =
      ap (λ z. down_key base m (nth (KeyOf m) (next_of m) z j)) (sym e)
      ∙ (ap (down_key base m) (up_nth base m (down_key base m κ) j) ∙ down_up base m (nth (KeyOf m) (next_of m) (down_key base m κ) j))

  pub none_up : NoneReady is_interleaved q → NoneReady is_interleaved l
  none_up none κ n v y = none (down_key base is_interleaved κ) n (λ j. (run j).0) (record {
    held = λ j h. ((run j).1 h).0;
    begins = sym (ap (λ (z : Chunk). z.is_beginning) (same 0 (omega arith))) ∙ y.begins;
    ends = sym (ap (λ (z : Chunk). z.is_end) (same n (omega arith))) ∙ y.ends;
    inner = λ j h. sym (ap (λ (z : Chunk). z.is_end) (same j (omega (arith, h)))) ∙ y.inner j h;
    in_turn = λ o.
        let e = same 0 (omega arith) in
        let ord : (v 0).ordered ≡ true = ap (λ (z : Chunk). z.ordered) e ∙ o in
        let t = y.in_turn ord in
        let s = ap (λ (z : Chunk). z.stream) e in
        let u = sym (ap (λ (z : Chunk). z.number) e ∙ number_up base is_interleaved (run 0).0 o) ∙ (t ∙ ap l.next s) in
        omega (arith, u);
  })
    where
      back : up_key base is_interleaved (down_key base is_interleaved κ) ≡ κ
      back = (lift_some κ (v 0) (y.held 0 (omega arith))).1

      run : (j : ℕ) → (w : Chunk) × (j ≤ n → (q.chunks (nth (KeyOf is_interleaved) (next_of is_interleaved) (down_key base is_interleaved κ) j) ≡ Some w) × (v j ≡ up_chunk base is_interleaved w))
      run j =
          elim (cases_lt n j) [
            | inl g ↦ (v 0, λ h. absurd (omega (arith, g, h)))
            | inr g ↦
                let z = lift_some (nth (KeyOf is_interleaved) (next_of is_interleaved) κ j) (v j) (y.held j g) in
                (z.0, λ h. (ap q.chunks (sym (key_down is_interleaved κ j back)) ∙ z.2, z.3))
          ]

      same : (j : ℕ) → j ≤ n → v j ≡ up_chunk base is_interleaved (run j).0
      same j h = ((run j).1 h).1

module _ (base : Bool → ℕ → ℕ) (is_interleaved : Bool) (q r : Queue (KeyOf is_interleaved) (next_of is_interleaved)) where
  keys_apart : (κ μ : KeyOf is_interleaved) → (κ ≡ up_key base is_interleaved μ → ⊥) → is_from base is_interleaved κ ≡ true → down_key base is_interleaved κ ≡ μ → ⊥
  keys_apart κ μ d f e = d (sym (up_down base is_interleaved κ f) ∙ ap (up_key base is_interleaved) e)

  -- a chunk is put under its key
  pub added_up : (κ : KeyOf is_interleaved) (w : Chunk) → Added (KeyOf is_interleaved) (next_of is_interleaved) q r κ w
      → Added (KeyOf is_interleaved) (next_of is_interleaved) (lift base is_interleaved q) (lift base is_interleaved r) (up_key base is_interleaved κ) (up_chunk base is_interleaved w)
  added_up κ w a = record {
    here = lift_at base is_interleaved r κ ∙ ap (up_some base is_interleaved) a.here;
    kept = λ μ d. by μ d (is_from base is_interleaved μ) refl;
    next = λ s. ap (λ z. base true s + z) (a.next s);
    passed = λ s. ap (λ z. base false s + z) (a.passed s);
    ready = a.ready;
  }
    where
      by : (μ : KeyOf is_interleaved) → (μ ≡ up_key base is_interleaved κ → ⊥) → (b : Bool) → is_from base is_interleaved μ ≡ b → (lift base is_interleaved r).chunks μ ≡ (lift base is_interleaved q).chunks μ
      by μ d true f = ap (λ z. cond (is_from base is_interleaved μ) (up_some base is_interleaved z) None) (a.kept (down_key base is_interleaved μ) (keys_apart μ κ d f))
      by μ d false f = ap (λ b. cond b (up_some base is_interleaved (r.chunks (down_key base is_interleaved μ))) None) f ∙ sym (ap (λ b. cond b (up_some base is_interleaved (q.chunks (down_key base is_interleaved μ))) None) f)

  -- a run becomes ready
  pub taken_up : (κ : KeyOf is_interleaved) (n : ℕ) (w : ℕ → Chunk) → RunTaken (KeyOf is_interleaved) (next_of is_interleaved) q r κ n w
      → RunTaken (KeyOf is_interleaved) (next_of is_interleaved) (lift base is_interleaved q) (lift base is_interleaved r) (up_key base is_interleaved κ) n (λ j. up_chunk base is_interleaved (w j))
  taken_up κ n w a = record {
    removed = λ j h. ap (lift base is_interleaved r).chunks (up_nth base is_interleaved κ j) ∙ (lift_at base is_interleaved r (nth (KeyOf is_interleaved) (next_of is_interleaved) κ j) ∙ ap (up_some base is_interleaved) (a.removed j h));
    kept = λ μ d. by μ d (is_from base is_interleaved μ) refl;
    next = λ s. ap (λ z. base true s + z) (a.next s) ∙ next_is s (w 0).ordered refl (eqb s (w 0).stream) refl;
    passed = λ s. ap (λ z. base false s + z) (a.passed s);
    ready = a.ready;
  }
    where
      by : (μ : KeyOf is_interleaved) → ((j : ℕ) → j ≤ n → μ ≡ nth (KeyOf is_interleaved) (next_of is_interleaved) (up_key base is_interleaved κ) j → ⊥) → (b : Bool) → is_from base is_interleaved μ ≡ b
          → (lift base is_interleaved r).chunks μ ≡ (lift base is_interleaved q).chunks μ
      by μ d true f =
          ap (λ z. cond (is_from base is_interleaved μ) (up_some base is_interleaved z) None)
          (a.kept (down_key base is_interleaved μ) (λ j h e. d j h (sym (up_down base is_interleaved μ f) ∙ (ap (up_key base is_interleaved) e ∙ sym (up_nth base is_interleaved κ j)))))
      by μ d false f = ap (λ b. cond b (up_some base is_interleaved (r.chunks (down_key base is_interleaved μ))) None) f ∙ sym (ap (λ b. cond b (up_some base is_interleaved (q.chunks (down_key base is_interleaved μ))) None) f)

      next_is : (s : ℕ) (o : Bool) → (w 0).ordered ≡ o → (b : Bool) → eqb s (w 0).stream ≡ b
          → base true s + cond ((w 0).ordered && eqb s (w 0).stream) (suc (w 0).number) (q.next s)
          ≡ cond ((w 0).ordered && eqb s (w 0).stream) (suc (up_chunk base is_interleaved (w 0)).number) (base true s + q.next s)
      next_is s true e true f =
          let i = eqb-true s (w 0).stream f in
          let b = ap (base true) i in
          let h : base true s + suc (w 0).number ≡ suc (base true (w 0).stream + (w 0).number) = omega (arith, b) in
          rw (e, f) h
      next_is s true e false f = rw (e, f) refl
      next_is s false e b f = rw e refl

pub readied_up : (base : Bool → ℕ → ℕ) (is_interleaved : Bool) (q r : Queue (KeyOf is_interleaved) (next_of is_interleaved)) → Readied (KeyOf is_interleaved) (next_of is_interleaved) q r
    → Readied (KeyOf is_interleaved) (next_of is_interleaved) (lift base is_interleaved q) (lift base is_interleaved r)
readied_up base is_interleaved q r (no_more none) = no_more (none_up base is_interleaved q none)
readied_up base is_interleaved q r (one_more m κ n w y z more) =
    one_more (lift base is_interleaved m) (up_key base is_interleaved κ) n (λ j. up_chunk base is_interleaved (w j)) (ready_up base is_interleaved q κ n w y) (taken_up base is_interleaved q m κ n w z) (readied_up base is_interleaved m r more)

-- ---- a fragment of the epoch that the receiver is in

module _ (base : Bool → ℕ → ℕ) (message : ℕ → Message) (o : Sender) (t : ℕ) (now : IsOfCurrentEpoch base message o t) where
  pub up_wire_key : (is_interleaved : Bool) → up_key base is_interleaved (wire_key is_interleaved message o t) ≡ key_of is_interleaved message o t
  up_wire_key false = refl
  up_wire_key true = ap (λ (n : ℕ). let y : MessageKey = record (message_key message o t) { number = n } in y) now

  pub up_wire_chunk : (is_interleaved : Bool) → up_chunk base is_interleaved (wire_chunk message is_interleaved o t) ≡ chunk_of message is_interleaved o t
  up_wire_chunk is_interleaved = ap with_number (by (ordered_of message (place_of o t) || is_interleaved))
    where
      with_number : ℕ → Chunk
      with_number n = record (chunk_of message is_interleaved o t) { number = n }

      by : (b : Bool) → cond b (base (ordered_of message (place_of o t)) (stream_of message (place_of o t)) + cond b (o.written (place_of o t)) 0) (cond b (o.written (place_of o t)) 0)
          ≡ cond b (o.number (place_of o t)) 0
      by true = now
      by false = refl

pub wire_chunk_row : (message : ℕ → Message) (is_interleaved : Bool) (base : Bool → ℕ → ℕ) (x : Transfer) (q m r : Queue (KeyOf is_interleaved) (next_of is_interleaved)) (t : ℕ)
    → Invariant message is_interleaved x → Refines message is_interleaved x (lift base is_interleaved q) → t < count x.sender → (fragment x.sender t).placeholder ≡ false → x.receiver.seen t ≡ false → IsOfCurrentEpoch base message x.sender t
    → Added (KeyOf is_interleaved) (next_of is_interleaved) q m (wire_key is_interleaved message x.sender t) (wire_chunk message is_interleaved x.sender t) → Readied (KeyOf is_interleaved) (next_of is_interleaved) m r
    → (ps : List ℕ) × LeadsTo message is_interleaved x (data_comes t) (map become_ready ps) (lift base is_interleaved r)
wire_chunk_row message is_interleaved base x q m r t k s within real unseen now added more =
    let a = added_up base is_interleaved q m (wire_key is_interleaved message x.sender t) (wire_chunk message is_interleaved x.sender t) added in
    let b = subst (λ (w : Chunk). Added (KeyOf is_interleaved) (next_of is_interleaved) (lift base is_interleaved q) (lift base is_interleaved m) (key_of is_interleaved message x.sender t) w) (up_wire_chunk base message x.sender t now is_interleaved)
    (subst (λ (κ : KeyOf is_interleaved). Added (KeyOf is_interleaved) (next_of is_interleaved) (lift base is_interleaved q) (lift base is_interleaved m) κ (up_chunk base is_interleaved (wire_chunk message is_interleaved x.sender t))) (up_wire_key base message x.sender t now is_interleaved) a) in
    new_chunk (KeyOf is_interleaved) (next_of is_interleaved) message is_interleaved x k (key_of is_interleaved message x.sender) (below_of is_interleaved) (key_laws message is_interleaved x k) (lift base is_interleaved q) s (lift base is_interleaved m) (lift base is_interleaved r) t within real unseen b
    (readied_up base is_interleaved m r more)

-- ---- a forward point whose entries are of that epoch

module _ (base : Bool → ℕ → ℕ) (kind : Bool) (s : ℕ) where
  abbrev b0 : ℕ
  b0 = base kind s

  covers_up : (es : List Entry) → ((e : Entry) → IsAmong e es → base e.ordered e.stream + e.written ≡ e.number) → (n : ℕ)
      → covers (map as_written es) kind s n ≡ covers es kind s (b0 + n)
  covers_up [] all n = refl
  covers_up (e ∷ es) all n = one (same e.ordered kind) refl (eqb e.stream s) refl (covers_up es (λ d m. all d (inr m)) n)
    where
      at : e.ordered ≡ kind → e.stream ≡ s → leb n e.written ≡ leb (b0 + n) e.number
      at k i =
          let h : b0 + e.written ≡ e.number = subst (λ z. base kind z + e.written ≡ e.number) i (subst (λ z. base z e.stream + e.written ≡ e.number) k (all e (inl refl))) in
          tests e.written e.number h
        where
          gt_leb : (a c : ℕ) → c < a → leb a c ≡ false
          gt_leb a c l = false_from_ne_true (leb a c) (λ t. let v = leb-true a c t in omega (arith, v, l))

          tests : (w m : ℕ) → b0 + w ≡ m → leb n w ≡ leb (b0 + n) m
          tests w m h = elim (cases_lt w n) [
            | inl l ↦ gt_leb n w l ∙ sym (gt_leb (b0 + n) m (omega (arith, h, l)))
            | inr g ↦ le-leb n w g ∙ sym (le-leb (b0 + n) m (omega (arith, h, g)))
          ]

      one : (a : Bool) → same e.ordered kind ≡ a → (c : Bool) → eqb e.stream s ≡ c → covers (map as_written es) kind s n ≡ covers es kind s (b0 + n)
          → ((same e.ordered kind && (eqb e.stream s && leb n e.written)) || covers (map as_written es) kind s n) ≡ ((same e.ordered kind && (eqb e.stream s && leb (b0 + n) e.number)) || covers es kind s (b0 + n))
      one true h true i ih = ap (λ z. (same e.ordered kind && (eqb e.stream s && z)) || covers (map as_written es) kind s n) (at (same_is e.ordered kind h) (eqb-true e.stream s i))
          ∙ ap (λ z. (same e.ordered kind && (eqb e.stream s && leb (b0 + n) e.number)) || z) ih
      one true h false i ih = rw (h, i) ih
      one false h c i ih = rw h ih

  pub raised_wire : (es : List Entry) → ((e : Entry) → IsAmong e es → base e.ordered e.stream + e.written ≡ e.number) → (n : ℕ)
      → b0 + raise (map as_written es) kind s n ≡ raise es kind s (b0 + n)
  raised_wire [] all n = refl
  raised_wire (e ∷ es) all n =
      raised_wire es (λ d m. all d (inr m)) (cond (same e.ordered kind && eqb e.stream s) (max n (suc e.written)) n)
      ∙ ap (λ z. raise es kind s z) (step (same e.ordered kind) refl (eqb e.stream s) refl)
    where
      step : (a : Bool) → same e.ordered kind ≡ a → (c : Bool) → eqb e.stream s ≡ c
          → b0 + cond (same e.ordered kind && eqb e.stream s) (max n (suc e.written)) n ≡ cond (same e.ordered kind && eqb e.stream s) (max (b0 + n) (suc e.number)) (b0 + n)
      step true h true i =
          let k = same_is e.ordered kind h in
          let j = eqb-true e.stream s i in
          let v : b0 + e.written ≡ e.number = subst (λ z. base kind z + e.written ≡ e.number) j (subst (λ z. base z e.stream + e.written ≡ e.number) k (all e (inl refl))) in
          let m : b0 + max n (suc e.written) ≡ max (b0 + n) (suc e.number) = omega (arith, v) in
          rw (h, i) m
      step true h false i = rw (h, i) refl
      step false h c i = rw h refl

pub forwarded_up : (base : Bool → ℕ → ℕ) (is_interleaved : Bool) (q r : Queue (KeyOf is_interleaved) (next_of is_interleaved)) (f : ForwardPoint) → AreEntriesOfCurrentEpoch base f
    → (is_interleaved ≡ false → (a n : ℕ) → covers f.entries false a n ≡ false)
    → Forwarded (KeyOf is_interleaved) (next_of is_interleaved) is_interleaved (below_of is_interleaved) q r (wire_point f)
    → Forwarded (KeyOf is_interleaved) (next_of is_interleaved) is_interleaved (below_of is_interleaved) (lift base is_interleaved q) (lift base is_interleaved r) f
forwarded_up base is_interleaved q r f now only z = record {
  chunks = λ κ. by κ (is_from base is_interleaved κ) refl;
  next = λ s. ap (λ n. base true s + n) (z.next s) ∙ raised_wire base true s f.entries now (q.next s);
  passed = λ s. ap (λ n. base false s + n) (z.passed s) ∙ raised_wire base false s f.entries now (q.passed_below s);
  ready = z.ready;
}
  where
    same_below : (m : Bool) (κ : KeyOf m) (b : Bool) → (not m && (b && below_of m (down_key base m κ) f.upto)) ≡ (not m && (b && below_of m κ f.upto))
    same_below true κ b = refl
    same_below false κ b = refl

    named : (m o : Bool) (s n : ℕ) → (m ≡ false → (a k : ℕ) → covers f.entries false a k ≡ false)
        → covers (map as_written f.entries) o s n ≡ covers f.entries o s (cond (o || m) (base o s + n) n)
    named m true s n h = covers_up base true s f.entries now n
    named true false s n h = covers_up base false s f.entries now n
    named false false s n h = covers_up base false s f.entries now n ∙ (h refl s (base false s + n) ∙ sym (h refl s n))

    left : (κ : KeyOf is_interleaved) (o : Option Chunk)
        → up_some base is_interleaved (keep_undropped (KeyOf is_interleaved) (next_of is_interleaved) is_interleaved (below_of is_interleaved) (wire_point f) (down_key base is_interleaved κ) o)
        ≡ keep_undropped (KeyOf is_interleaved) (next_of is_interleaved) is_interleaved (below_of is_interleaved) f κ (up_some base is_interleaved o)
    left κ None = refl
    left κ (Some w) =
        push (covers (map as_written f.entries) w.ordered w.stream w.number || (not is_interleaved && (not w.ordered && below_of is_interleaved (down_key base is_interleaved κ) f.upto)))
        ∙ (ap (λ c. cond (c || (not is_interleaved && (not w.ordered && below_of is_interleaved (down_key base is_interleaved κ) f.upto))) None (Some (up_chunk base is_interleaved w))) (named is_interleaved w.ordered w.stream w.number only)
        ∙ ap (λ c. cond (covers f.entries w.ordered w.stream (cond (w.ordered || is_interleaved) (base w.ordered w.stream + w.number) w.number) || c) None (Some (up_chunk base is_interleaved w))) (same_below is_interleaved κ (not w.ordered)))
      where
        push : (b : Bool) → up_some base is_interleaved (cond b None (Some w)) ≡ cond b None (Some (up_chunk base is_interleaved w))
        push true = refl
        push false = refl

    by : (κ : KeyOf is_interleaved) (b : Bool) → is_from base is_interleaved κ ≡ b
        → (lift base is_interleaved r).chunks κ ≡ keep_undropped (KeyOf is_interleaved) (next_of is_interleaved) is_interleaved (below_of is_interleaved) f κ ((lift base is_interleaved q).chunks κ)
    by κ true e =
        rw e (ap (up_some base is_interleaved) (z.chunks (down_key base is_interleaved κ)) ∙ left κ (q.chunks (down_key base is_interleaved κ)))
    by κ false e = rw e refl

pub wire_point_row : (message : ℕ → Message) (is_interleaved : Bool) (base : Bool → ℕ → ℕ) (x : Transfer) (q m r : Queue (KeyOf is_interleaved) (next_of is_interleaved)) (f : ForwardPoint)
    → Invariant message is_interleaved x → Refines message is_interleaved x (lift base is_interleaved q) → IsAmong f x.forward_points → AreEntriesOfCurrentEpoch base f
    → Forwarded (KeyOf is_interleaved) (next_of is_interleaved) is_interleaved (below_of is_interleaved) q m (wire_point f) → Readied (KeyOf is_interleaved) (next_of is_interleaved) m r
    → (ps : List ℕ) × LeadsTo message is_interleaved x (forward_comes f) (map become_ready ps) (lift base is_interleaved r)
wire_point_row message is_interleaved base x q m r f k s sent now z more =
    point_comes (KeyOf is_interleaved) (next_of is_interleaved) message is_interleaved x k (key_of is_interleaved message x.sender) (below_of is_interleaved) (key_laws message is_interleaved x k) (lift base is_interleaved q) s (lift base is_interleaved m) (lift base is_interleaved r) f sent
    (forwarded_up base is_interleaved q m f now (k.forwards_true f sent).only_ordered z) (readied_up base is_interleaved m r more)
