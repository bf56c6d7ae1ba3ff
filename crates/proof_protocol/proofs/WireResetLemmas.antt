-- A queue of numbers on the wire: chunks that come too late, and the reset of a stream, whose numbers begin at 0 again.
use Rattle.std.proofs.Common.{◌≡◌, ℕ, ◌+◌, ◌-◌, ◌<◌, ◌||◌, Bool, true, false, cond, inl, inr, Option, Some, None, [], refl, sym, ap, ◌∙◌, subst, arith, eqb}
use Rattle.std.specs.Prelude.{nat_le}
use Rattle.std.proofs.lemmas.Bool.{eqb-true, eq-eqb}
use Rattle.proof_protocol.specs.State.{Message, Transfer, count, put}
use Rattle.proof_protocol.specs.Rules.{late_comes, perform_reset, send_sack, IsAllowed, IsResettable}
use Rattle.proof_protocol.specs.Reassembly.{Chunk, MessageKey, Queue, KeyOf, next_of, key_of, below_of, IsLate, ResetPerformed, keep_other_streams, NoneReady}
use Rattle.proof_protocol.specs.Invariant.{Invariant}
use Rattle.proof_protocol.specs.Joints.{Refines, LeadsTo}
use Rattle.proof_protocol.specs.Resets.{restarts}
use Rattle.proof_protocol.specs.Lifted.{down_key, up_key, is_from, up_chunk, up_some, lift, wire_chunk, IsOfCurrentEpoch, IsRebased}
use Rattle.proof_protocol.proofs.ReceiverRowLemmas.{key_laws, late_chunk, sack_made, stream_reset}
use Rattle.proof_protocol.proofs.LiftedLemmas.{lift_at, none_up, number_up, up_wire_chunk}

-- ---- late chunks

module _ (base : Bool → ℕ → ℕ) (is_interleaved : Bool) (q : Queue (KeyOf is_interleaved) (next_of is_interleaved)) where
  late_up : (w : Chunk) → IsLate (KeyOf is_interleaved) (next_of is_interleaved) is_interleaved q w → IsLate (KeyOf is_interleaved) (next_of is_interleaved) is_interleaved (lift base is_interleaved q) (up_chunk base is_interleaved w)
  late_up w (inl a) =
      let n = number_up base is_interleaved w a.0 in
      let l = a.1 in
      inl (a.0, omega (arith, n, l))
  late_up w (inr a) =
      let l = a.2 in
      inr (a.0, a.1, number_is l)
    where
      number_is : w.number < q.passed_below w.stream → (up_chunk base is_interleaved w).number < (lift base is_interleaved q).passed_below w.stream
      number_is l =
          let n : (up_chunk base is_interleaved w).number ≡ base false w.stream + w.number =
          ap (λ b. cond (b || is_interleaved) (base b w.stream + w.number) w.number) a.1 ∙ ap (λ (b : Bool). cond b (base false w.stream + w.number) w.number) a.0 in
          omega (arith, n, l)

pub wire_late_row : (message : ℕ → Message) (is_interleaved : Bool) (base : Bool → ℕ → ℕ) (x : Transfer) (q : Queue (KeyOf is_interleaved) (next_of is_interleaved)) (t : ℕ)
    → Invariant message is_interleaved x → Refines message is_interleaved x (lift base is_interleaved q) → t < count x.sender → x.receiver.seen t ≡ false → IsOfCurrentEpoch base message x.sender t
    → IsLate (KeyOf is_interleaved) (next_of is_interleaved) is_interleaved q (wire_chunk message is_interleaved x.sender t) → NoneReady is_interleaved q
    → LeadsTo message is_interleaved x (late_comes t) [] (lift base is_interleaved q)
wire_late_row message is_interleaved base x q t k s within unseen now late none =
    late_chunk (KeyOf is_interleaved) (next_of is_interleaved) message is_interleaved x k (key_of is_interleaved message x.sender) (below_of is_interleaved) (key_laws message is_interleaved x k) (lift base is_interleaved q) s t within unseen
    (subst (λ (w : Chunk). IsLate (KeyOf is_interleaved) (next_of is_interleaved) is_interleaved (lift base is_interleaved q) w) (up_wire_chunk base message x.sender t now is_interleaved)
    (late_up base is_interleaved q (wire_chunk message is_interleaved x.sender t) late))
    (none_up base is_interleaved q none)

-- ---- SACKs

pub wire_sack_row : (message : ℕ → Message) (is_interleaved : Bool) (base : Bool → ℕ → ℕ) (x : Transfer) (q : Queue (KeyOf is_interleaved) (next_of is_interleaved)) (c : ℕ)
    → Invariant message is_interleaved x → Refines message is_interleaved x (lift base is_interleaved q) → ((t : ℕ) → t < c → x.receiver.seen t ≡ true) → NoneReady is_interleaved q
    → IsAllowed message is_interleaved x (send_sack c)
wire_sack_row message is_interleaved base x q c k s seen none =
    sack_made (KeyOf is_interleaved) (next_of is_interleaved) message is_interleaved x k (key_of is_interleaved message x.sender) (below_of is_interleaved) (key_laws message is_interleaved x k) (lift base is_interleaved q) s c seen (none_up base is_interleaved q none)

-- ---- a reset

-- with interleaving, a chunk's stream is its key's
stream_at : (message : ℕ → Message) (base : Bool → ℕ → ℕ) (x : Transfer) (q : Queue MessageKey (next_of true)) → Refines message true x (lift base true q)
    → (κ : MessageKey) (w : Chunk) → q.chunks κ ≡ Some w → w.stream ≡ κ.stream
stream_at message base x q s κ w e =
    let there : (lift base true q).chunks (up_key base true κ) ≡ Some (up_chunk base true w) = lift_at base true q κ ∙ ap (up_some base true) e in
    let z = s.held (up_key base true κ) (up_chunk base true w) there in
    ap (λ (v : Chunk). v.stream) z.3 ∙ ap (λ (c : MessageKey). c.stream) z.2

module _ (message : ℕ → Message) (base new : Bool → ℕ → ℕ) (x : Transfer) (s : ℕ) (is : IsRebased base new x.sender s) where
  at_stream : (kind : Bool) → new kind s ≡ x.sender.counts kind s
  at_stream kind = is kind s ∙ ap (λ b. cond b (x.sender.counts kind s) (base kind s)) (eq-eqb s s refl)

  off_stream : (kind : Bool) (a : ℕ) → eqb a s ≡ false → new kind a ≡ base kind a
  off_stream kind a e = is kind a ∙ ap (λ b. cond b (x.sender.counts kind s) (base kind a)) e

  -- what is left of a chunk
  chunk_left : (is_interleaved : Bool) (o : Option Chunk) → up_some new is_interleaved (keep_other_streams (KeyOf is_interleaved) (next_of is_interleaved) s o) ≡ keep_other_streams (KeyOf is_interleaved) (next_of is_interleaved) s (up_some base is_interleaved o)
  chunk_left is_interleaved None = refl
  chunk_left is_interleaved (Some w) = go (eqb w.stream s) refl
    where
      go : (b : Bool) → eqb w.stream s ≡ b → up_some new is_interleaved (cond (eqb w.stream s) None (Some w)) ≡ cond (eqb w.stream s) None (Some (up_chunk base is_interleaved w))
      go true e = rw e refl
      go false e = rw e (ap (λ n. Some (let v : Chunk = record w { number = cond (w.ordered || is_interleaved) (n + w.number) w.number } in v)) (off_stream w.ordered w.stream e))

  -- a chunk of the stream is forgotten
  none_left : (is_interleaved : Bool) (o : Option Chunk) → ((w : Chunk) → o ≡ Some w → w.stream ≡ s) → keep_other_streams (KeyOf is_interleaved) (next_of is_interleaved) s o ≡ None
  none_left is_interleaved None h = refl
  none_left is_interleaved (Some w) h = ap (λ b. cond b None (Some w)) (eq-eqb w.stream s (h w refl))

  module _ (is_interleaved : Bool) (q r : Queue (KeyOf is_interleaved) (next_of is_interleaved)) (z : ResetPerformed (KeyOf is_interleaved) (next_of is_interleaved) q r s 0 0) where
    number_left : (kind : Bool) (left before : ℕ → ℕ) → ((a : ℕ) → left a ≡ put before s 0 a)
        → (a : ℕ) → new kind a + left a ≡ put (λ c. base kind c + before c) s (x.sender.counts kind s) a
    number_left kind left before h a = go (eqb a s) refl
      where
        go : (b : Bool) → eqb a s ≡ b → new kind a + left a ≡ put (λ c. base kind c + before c) s (x.sender.counts kind s) a
        go true e =
            let l : left a ≡ 0 = h a ∙ ap (λ b. cond b 0 (before a)) e in
            let n : new kind a ≡ x.sender.counts kind s = ap (new kind) (eqb-true a s e) ∙ at_stream kind in
            let p : put (λ c. base kind c + before c) s (x.sender.counts kind s) a ≡ x.sender.counts kind s = ap (λ b. cond b (x.sender.counts kind s) (base kind a + before a)) e in
            omega (arith, l, n, p)
        go false e =
            let l : left a ≡ before a = h a ∙ ap (λ b. cond b 0 (before a)) e in
            let n = off_stream kind a e in
            let p : put (λ c. base kind c + before c) s (x.sender.counts kind s) a ≡ base kind a + before a = ap (λ b. cond b (x.sender.counts kind s) (base kind a + before a)) e in
            omega (arith, l, n, p)

  -- without interleaving the keys stay; with it those of the stream are no longer held
  chunks_left : (is_interleaved : Bool) (q r : Queue (KeyOf is_interleaved) (next_of is_interleaved)) → Refines message is_interleaved x (lift base is_interleaved q) → ResetPerformed (KeyOf is_interleaved) (next_of is_interleaved) q r s 0 0
      → (κ : KeyOf is_interleaved) → (lift new is_interleaved r).chunks κ ≡ keep_other_streams (KeyOf is_interleaved) (next_of is_interleaved) s ((lift base is_interleaved q).chunks κ)
  chunks_left false q r shows z κ = ap (up_some new false) (z.chunks κ) ∙ chunk_left false (q.chunks κ)
  chunks_left true q r shows z κ = go (eqb κ.stream s) refl
    where
      go : (b : Bool) → eqb κ.stream s ≡ b → (lift new true r).chunks κ ≡ keep_other_streams MessageKey (next_of true) s ((lift base true q).chunks κ)
      go true e = none_here (is_from new true κ) refl ∙ sym (none_left true ((lift base true q).chunks κ) (λ w h.
          let y = shows.held κ w h in
          ap (λ (v : Chunk). v.stream) y.3 ∙ (ap (λ (c : MessageKey). c.stream) y.2 ∙ eqb-true κ.stream s e)))
        where
          none_here : (c : Bool) → is_from new true κ ≡ c → (lift new true r).chunks κ ≡ None
          none_here true f =
              ap (λ b. cond b (up_some new true (r.chunks (down_key new true κ))) None) f
              ∙ (ap (up_some new true) (z.chunks (down_key new true κ))
              ∙ ap (up_some new true) (none_left true (q.chunks (down_key new true κ)) (λ w h. stream_at message base x q shows (down_key new true κ) w h ∙ eqb-true κ.stream s e)))
          none_here false f = ap (λ b. cond b (up_some new true (r.chunks (down_key new true κ))) None) f
      go false e =
          let n : new κ.ordered κ.stream ≡ base κ.ordered κ.stream = off_stream κ.ordered κ.stream e in
          at_base n ∙ by (is_from base true κ) refl
        where
          -- as a function of the base there
          seen_by : ℕ → Option Chunk
          seen_by n = cond (nat_le n κ.number) (up_some new true (r.chunks (let d : MessageKey = record κ { number = κ.number - n } in d))) None

          at_base : new κ.ordered κ.stream ≡ base κ.ordered κ.stream → (lift new true r).chunks κ ≡ seen_by (base κ.ordered κ.stream)
          at_base n = ap seen_by n

          by : (c : Bool) → is_from base true κ ≡ c → seen_by (base κ.ordered κ.stream) ≡ keep_other_streams MessageKey (next_of true) s ((lift base true q).chunks κ)
          by true f =
              ap (λ b. cond b (up_some new true (r.chunks (down_key base true κ))) None) f
              ∙ (ap (up_some new true) (z.chunks (down_key base true κ))
              ∙ (chunk_left true (q.chunks (down_key base true κ))
              ∙ ap (keep_other_streams MessageKey (next_of true) s) (sym (ap (λ b. cond b (up_some base true (q.chunks (down_key base true κ))) None) f))))
          by false f =
              ap (λ b. cond b (up_some new true (r.chunks (down_key base true κ))) None) f
              ∙ ap (keep_other_streams MessageKey (next_of true) s) (sym (ap (λ b. cond b (up_some base true (q.chunks (down_key base true κ))) None) f))

  pub forgotten_up : (is_interleaved : Bool) (q r : Queue (KeyOf is_interleaved) (next_of is_interleaved)) → Refines message is_interleaved x (lift base is_interleaved q) → ResetPerformed (KeyOf is_interleaved) (next_of is_interleaved) q r s 0 0
      → ResetPerformed (KeyOf is_interleaved) (next_of is_interleaved) (lift base is_interleaved q) (lift new is_interleaved r) s (x.sender.counts true s) (x.sender.counts false s)
  forgotten_up is_interleaved q r shows z = record {
    chunks = chunks_left is_interleaved q r shows z;
    next = number_left is_interleaved q r z true r.next q.next z.next;
    passed = number_left is_interleaved q r z false r.passed_below q.passed_below z.passed;
    ready = z.ready;
  }

pub wire_reset_row : (message : ℕ → Message) (is_interleaved : Bool) (base new : Bool → ℕ → ℕ) (x : Transfer) (q r : Queue (KeyOf is_interleaved) (next_of is_interleaved)) (s c : ℕ)
    → Invariant message is_interleaved x → Refines message is_interleaved x (lift base is_interleaved q) → IsResettable message x.sender x.receiver s c → IsRebased base new x.sender s
    → ResetPerformed (KeyOf is_interleaved) (next_of is_interleaved) q r s 0 0 → NoneReady is_interleaved q → LeadsTo message is_interleaved x (perform_reset s c) [] (lift new is_interleaved r)
wire_reset_row message is_interleaved base new x q r s c k shows resettable is z none =
    stream_reset (KeyOf is_interleaved) (next_of is_interleaved) message is_interleaved x k (key_of is_interleaved message x.sender) (below_of is_interleaved) (key_laws message is_interleaved x k) (lift base is_interleaved q) shows (lift new is_interleaved r) s c
    resettable (forgotten_up message base new x s is is_interleaved q r shows z) (none_up base is_interleaved q none)

-- ---- the sender's numbers begin again

pub still_shown : (message : ℕ → Message) (is_interleaved : Bool) (x : Transfer) (q : Queue (KeyOf is_interleaved) (next_of is_interleaved)) (s : ℕ) → Refines message is_interleaved x q
    → Refines message is_interleaved (record x { sender = restarts x.sender s }) q
still_shown message false x q s h = record { holds = h.holds; held = h.held; next_is = h.next_is; passed_is = h.passed_is; ready_is = h.ready_is }
still_shown message true x q s h = record { holds = h.holds; held = h.held; next_is = h.next_is; passed_is = h.passed_is; ready_is = h.ready_is }
