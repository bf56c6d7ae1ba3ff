-- Whole rows of the receiver are sequences of the rules, over any key that meets the keys' laws.
use Rattle.std.proofs.Common.{◌≡◌, ◌≢◌, ℕ, suc, ◌<◌, ◌≤◌, Bool, true, false, Some, List, [], ◌∷◌, map, refl, ◌∙◌, subst, sym, ap, arith, eqb}
use Rattle.proof_protocol.specs.State.{Message, ForwardPoint, Transfer, fragment, count, IsAmong}
use Rattle.proof_protocol.specs.Rules.{TransferEvent, data_comes, late_comes, become_ready, forward_comes, perform_reset, send_sack, IsAllowed, IsRipe, IsResettable, Happens, after, run}
use Rattle.proof_protocol.specs.Reassembly.{Chunk, chunk_of, Queue, nth, ReadyRun, IsLate, Readied, Added, Forwarded, ResetPerformed, Sees, KeyLaws, KeyOf, next_of, key_of, below_of}
use Rattle.proof_protocol.specs.Invariant.{Invariant}
use Rattle.proof_protocol.specs.Joints.{Leads, Refines}
use Rattle.proof_protocol.proofs.RulesKeepLemmas.{keeps, all_kept}
use Rattle.std.proofs.lemmas.Bool.{eq-eqb}
use Rattle.proof_protocol.proofs.ToolsLemmas.{put_off, not_both}
use Rattle.proof_protocol.proofs.KeysLemmas.{own_keys, message_keys}
use Rattle.proof_protocol.proofs.StepLemmas.{later}
use Rattle.proof_protocol.proofs.ForgetLemmas.{reset_aligned}
use Rattle.proof_protocol.proofs.ShowsLemmas.{unforgotten_some, sees_added, sees_forwarded, sees_forgotten, late_below, sees_later, chunk_same, message_key_same}
use Rattle.proof_protocol.proofs.ReadiedLemmas.{readied, none_ripe}

module _ (message : ℕ → Message) (is_interleaved : Bool) where
  delivered_stays : (ps : List ℕ) (x : Transfer) → run message is_interleaved x (map become_ready ps) ≡ record x { receiver = (run message is_interleaved x (map become_ready ps)).receiver }
  delivered_stays [] x = refl
  delivered_stays (p ∷ ps) x = delivered_stays ps (after message is_interleaved x (become_ready p))

  delivered_seen : (ps : List ℕ) (x : Transfer) (t : ℕ) → (run message is_interleaved x (map become_ready ps)).receiver.seen t ≡ x.receiver.seen t
  delivered_seen [] x t = refl
  delivered_seen (p ∷ ps) x t = delivered_seen ps (after message is_interleaved x (become_ready p)) t

module _ (Key : Type 0) (succ : Key → Key) (message : ℕ → Message) (is_interleaved : Bool) (x : Transfer) (k : Invariant message is_interleaved x)
    (key : ℕ → Key) (below : Key → ℕ → Bool) (laws : KeyLaws Key succ is_interleaved x.sender key below) (q : Queue Key succ) (s : Sees Key succ message is_interleaved x.sender x.receiver key q) where
  -- what a first event and the deliveries after it lead to
  leads : (e : TransferEvent) (ps : List ℕ) (m r : Queue Key succ) → IsAllowed message is_interleaved x e → Invariant message is_interleaved (after message is_interleaved x e)
      → after message is_interleaved x e ≡ record x { receiver = (after message is_interleaved x e).receiver }
      → Happens message is_interleaved (after message is_interleaved x e) (map become_ready ps)
      → Sees Key succ message is_interleaved (run message is_interleaved (after message is_interleaved x e) (map become_ready ps)).sender (run message is_interleaved (after message is_interleaved x e) (map become_ready ps)).receiver key r
      → ((p : ℕ) → IsRipe message (run message is_interleaved (after message is_interleaved x e) (map become_ready ps)).sender (run message is_interleaved (after message is_interleaved x e) (map become_ready ps)).receiver p → ⊥)
      → Leads Key succ message is_interleaved key x e (map become_ready ps) r
  leads e ps m r a ky stays h sees full =
      let y = run message is_interleaved (after message is_interleaved x e) (map become_ready ps) in
      let rest : y ≡ record x { receiver = y.receiver } = delivered_stays message is_interleaved ps (after message is_interleaved x e) ∙ ap (λ z. let w : Transfer = record z { receiver = y.receiver } in w) stays in
      let same = ap (λ z. z.sender) rest in
      record {
        may = (a, h);
        kept = all_kept message is_interleaved (map become_ready ps) (after message is_interleaved x e) ky h;
        sees = subst (λ o. Sees Key succ message is_interleaved o y.receiver key r) same sees;
        none_ripe = subst (λ o. (p : ℕ) → IsRipe message o y.receiver p → ⊥) same full;
        seen_is = delivered_seen message is_interleaved ps (after message is_interleaved x e);
        rest_stays = rest;
      }

  -- a chunk that was not seen
  pub new_chunk : (m r : Queue Key succ) (t : ℕ) → t < count x.sender → (fragment x.sender t).placeholder ≡ false → x.receiver.seen t ≡ false
      → Added Key succ q m (key t) (chunk_of message is_interleaved x.sender t) → Readied Key succ m r
      → (ps : List ℕ) × Leads Key succ message is_interleaved key x (data_comes t) (map become_ready ps) r
  new_chunk m r t h f n z more =
      let ky = keeps message is_interleaved x k (data_comes t) (h, f, n) in
      let sy = sees_added Key succ message is_interleaved x.sender x.receiver k.incoming key below laws q m s t h z in
      let d = readied Key succ message is_interleaved key below m r more (after message is_interleaved x (data_comes t)) ky laws sy in
      (d.0, leads (data_comes t) d.0 m r (h, f, n) ky refl d.1 d.2 d.3)

  -- a chunk that was not seen and is not kept
  pub late_chunk : (t : ℕ) → t < count x.sender → x.receiver.seen t ≡ false → IsLate Key succ is_interleaved q (chunk_of message is_interleaved x.sender t)
      → ((κ : Key) (n : ℕ) (w : ℕ → Chunk) → ReadyRun Key succ q κ n w → ⊥)
      → Leads Key succ message is_interleaved key x (late_comes t) [] q
  late_chunk t h n l none =
      let a : IsAllowed message is_interleaved x (late_comes t) = (h, n, late_below Key succ message is_interleaved x.sender x.receiver k.incoming key below laws q q s t l) in
      let sy : Sees Key succ message is_interleaved x.sender (after message is_interleaved x (late_comes t)).receiver key q =
      record { holds = s.holds; held = s.held; next_is = s.next_is; passed_is = s.passed_is; ready_is = s.ready_is } in
      let ky = keeps message is_interleaved x k (late_comes t) a in
      leads (late_comes t) [] q q a ky refl tt sy (none_ripe Key succ message is_interleaved (after message is_interleaved x (late_comes t)) ky key below laws q sy none)

  -- a forward point that was sent
  pub point_comes : (m r : Queue Key succ) (f : ForwardPoint) → IsAmong f x.forward_points → Forwarded Key succ is_interleaved below q m f → Readied Key succ m r
      → (ps : List ℕ) × Leads Key succ message is_interleaved key x (forward_comes f) (map become_ready ps) r
  point_comes m r f a z more =
      let ky = keeps message is_interleaved x k (forward_comes f) a in
      let sy = sees_forwarded Key succ message is_interleaved x.sender x.receiver k.incoming key below laws q m s f (k.forwards_true f a).only_ordered z in
      let d = readied Key succ message is_interleaved key below m r more (after message is_interleaved x (forward_comes f)) ky laws sy in
      (d.0, leads (forward_comes f) d.0 m r a ky refl d.1 d.2 d.3)

  -- a reset request is performed. What is left in the queue was there before
  pub stream_reset : (r : Queue Key succ) (a c : ℕ) → IsResettable message x.sender x.receiver a c
      → ResetPerformed Key succ q r a (x.sender.counts true a) (x.sender.counts false a) → ((κ : Key) (n : ℕ) (w : ℕ → Chunk) → ReadyRun Key succ q κ n w → ⊥)
      → Leads Key succ message is_interleaved key x (perform_reset a c) [] r
  stream_reset r a c h z none =
      let ky = keeps message is_interleaved x k (perform_reset a c) h in
      let sy = sees_forgotten Key succ message is_interleaved x.sender x.receiver k.incoming key below laws q r s a (reset_aligned message is_interleaved x.sender k.outgoing x.receiver k.incoming a c h) z in
      leads (perform_reset a c) [] r r h ky refl tt sy (none_ripe Key succ message is_interleaved (after message is_interleaved x (perform_reset a c)) ky key below laws r sy
      (λ κ n w y. none κ n w (was_ready r a c z κ n w y)))
    where
      was_ready : (r : Queue Key succ) (a c : ℕ) → ResetPerformed Key succ q r a (x.sender.counts true a) (x.sender.counts false a)
          → (κ : Key) (n : ℕ) (w : ℕ → Chunk) → ReadyRun Key succ r κ n w → ReadyRun Key succ q κ n w
      was_ready r a c z κ n w y =
          let left : (j : ℕ) → j ≤ n → (q.chunks (nth Key succ κ j) ≡ Some (w j)) × (eqb (w j).stream a ≡ false) =
          (λ j l. unforgotten_some Key succ message is_interleaved x.sender x.receiver k.incoming key below laws q r s a (q.chunks (nth Key succ κ j)) (w j) (sym (z.chunks (nth Key succ κ j)) ∙ y.held j l)) in
          record {
            held = λ j l. (left j l).0;
            begins = y.begins;
            ends = y.ends;
            inner = y.inner;
            in_turn = λ o.
                let other : (w 0).stream ≢ a = λ e. not_both (eq-eqb ((w 0).stream) a e) (left 0 (omega arith)).1 in
                y.in_turn o ∙ (z.next ((w 0).stream) ∙ put_off q.next a (x.sender.counts true a) ((w 0).stream) other);
          }

  -- a SACK is made of the tracker's front
  pub sack_made : (c : ℕ) → ((t : ℕ) → t < c → x.receiver.seen t ≡ true) → ((κ : Key) (n : ℕ) (w : ℕ → Chunk) → ReadyRun Key succ q κ n w → ⊥) → IsAllowed message is_interleaved x (send_sack c)
  sack_made c seen none = (seen, none_ripe Key succ message is_interleaved x k key below laws q s none)

-- the laws of both kinds of keys
pub key_laws : (message : ℕ → Message) (is_interleaved : Bool) (x : Transfer) → Invariant message is_interleaved x → KeyLaws (KeyOf is_interleaved) (next_of is_interleaved) is_interleaved x.sender (key_of is_interleaved message x.sender) (below_of is_interleaved)
key_laws message false x k = own_keys message x.sender k.outgoing k.indexed (k.runs refl)
key_laws message true x k = message_keys message x.sender k.outgoing k.indexed

-- a fragment's key stays
pub key_stays : (message : ℕ → Message) (is_interleaved : Bool) (x : Transfer) (e : TransferEvent) → Invariant message is_interleaved x → IsAllowed message is_interleaved x e → (t : ℕ) → t < count x.sender
    → key_of is_interleaved message (after message is_interleaved x e).sender t ≡ key_of is_interleaved message x.sender t
key_stays message false x e k a t h = refl
key_stays message true x e k a t h = message_key_same message x.sender (after message true x e).sender k.outgoing (later message true x k e a) t h

-- a sender's step changes nothing that the queue sees
pub still_sees : (message : ℕ → Message) (is_interleaved : Bool) (x : Transfer) (e : TransferEvent) → Invariant message is_interleaved x → IsAllowed message is_interleaved x e → (after message is_interleaved x e).receiver ≡ x.receiver
    → (q : Queue (KeyOf is_interleaved) (next_of is_interleaved)) → Refines message is_interleaved x q → Refines message is_interleaved (after message is_interleaved x e) q
still_sees message is_interleaved x e k a same q s =
    let y = after message is_interleaved x e in
    let z = sees_later (KeyOf is_interleaved) (next_of is_interleaved) message is_interleaved x.sender y.sender k.outgoing (later message is_interleaved x k e a) x.receiver k.incoming
    (key_of is_interleaved message x.sender) (key_of is_interleaved message y.sender) (key_stays message is_interleaved x e k a) q s in
    subst (λ i. Sees (KeyOf is_interleaved) (next_of is_interleaved) message is_interleaved y.sender i (key_of is_interleaved message y.sender) q) (sym same) z

-- a fragment is carried by the same chunk ever after
pub chunk_stays : (message : ℕ → Message) (is_interleaved : Bool) (x : Transfer) (e : TransferEvent) → Invariant message is_interleaved x → IsAllowed message is_interleaved x e → (t : ℕ) → t < count x.sender
    → (t < count (after message is_interleaved x e).sender) × (fragment (after message is_interleaved x e).sender t ≡ fragment x.sender t)
    × (chunk_of message is_interleaved (after message is_interleaved x e).sender t ≡ chunk_of message is_interleaved x.sender t)
chunk_stays message is_interleaved x e k a t h =
    let y = after message is_interleaved x e in
    let l = later message is_interleaved x k e a in
    let c = l.count_grows in
    (omega (arith, h, c), l.same_fragment t h, chunk_same ℕ suc message is_interleaved x.sender y.sender k.outgoing l x.receiver k.incoming t h)
