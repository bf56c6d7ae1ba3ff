-- Breakpoints: no forward point that is due goes on where a request was sent, before all below that is acknowledged.
use Rattle.std.proofs.Common.{◌≡◌, ℕ, zero, suc, ◌+◌, ◌≤◌, Bool, true, false, cond, inl, inr, Option, Some, None, List, [], ◌∷◌, ◌++◌, map, filter, refl, sym, ap, ◌∙◌, subst, arith}
use Rattle.std.specs.Prelude.{nat_lt, option_map, unwrap_or, slice_get}
use Rattle.std.proofs.lemmas.Bool.{cases_lt, cond-true, cond-false, eqb-true, lt-ltb}
use Rattle.sctp_serial.specs.Unwrapped.{origin}
use Rattle.sctp_tx_queue.specs.SendQueue.{Queue}
use Rattle.sctp_tx_outstanding.specs.declared.item.MissIndication.{MissIndication}
use Rattle.sctp_tx_outstanding.specs.Item.{Item}
use Rattle.sctp_tx_outstanding.specs.OutstandingData.{Items, next_number, is_last, with_break, begin_reset}
use Rattle.sctp_tx_outstanding.specs.Losses.{Step, is_to_be_abandoned, nack_item, nack_at, nack_below, option_bind, expired_of, given_up_if, expire_at, expire_below}
use Rattle.sctp_tx_outstanding.specs.Sack.{staying}
use Rattle.proof_protocol.specs.State.{Message, Transfer, IsAmong, count}
use Rattle.proof_protocol.specs.Rules.{send_forward}
use Rattle.proof_protocol.specs.Resets.{Request, Epochs, send_request, InEpoch, goes, go_all}
use Rattle.sctp_tx.specs.RetransmissionQueue.{Sender}
use Rattle.proof_refines.specs.SenderRefinement.{SenderRefines}
use Rattle.proof_refines.specs.Points.{IsSendable}
use Rattle.proof_refines.specs.Pauses.{HasBreaks}
use Rattle.proof_refines.proofs.ItemsLemmas.{kept_count}

-- ---- lists

among_first : (b : ℕ) (bs cs : List ℕ) → IsAmong b bs → IsAmong b (bs ++ cs)
among_first b [] cs a = absurd a
among_first b (d ∷ bs) cs (inl e) = inl e
among_first b (d ∷ bs) cs (inr a) = inr (among_first b bs cs a)

among_last : (b : ℕ) (bs : List ℕ) → IsAmong b (bs ++ b ∷ [])
among_last b [] = inl refl
among_last b (d ∷ bs) = inr (among_last b bs)

-- one breakpoint more, unless it is the last one
among_more : (b n : ℕ) (bs : List ℕ) → IsAmong b bs → IsAmong b (with_break n bs)
among_more b n bs a = go (is_last n bs)
  where
    go : (c : Bool) → IsAmong b (cond c bs (bs ++ n ∷ []))
    go true = a
    go false = among_first b bs (n ∷ []) a

last_among : (n : ℕ) (bs : List ℕ) → is_last n bs ≡ true → IsAmong n bs
last_among n [] e = absurd (cc)
last_among n (b ∷ []) e = inl (sym (eqb-true b n e))
last_among n (b ∷ c ∷ bs) e = inr (last_among n (c ∷ bs) e)

among_with : (n : ℕ) (bs : List ℕ) → IsAmong n (with_break n bs)
among_with n bs = go (is_last n bs) refl
  where
    go : (c : Bool) → is_last n bs ≡ c → IsAmong n (cond c bs (bs ++ n ∷ []))
    go true e = last_among n bs e
    go false e = among_last n bs

among_filtered : (f : ℕ → Bool) (b : ℕ) (bs : List ℕ) → f b ≡ true → IsAmong b bs → IsAmong b (filter f bs)
among_filtered f b [] t a = absurd a
among_filtered f b (d ∷ bs) t (inl e) = subst (λ z. IsAmong b z) (sym (cond-true (f d) (d ∷ filter f bs) (filter f bs) (ap f (sym e) ∙ t))) (inl e)
among_filtered f b (d ∷ bs) t (inr a) = go (f d) refl (among_filtered f b bs t a)
  where
    go : (c : Bool) → f d ≡ c → IsAmong b (filter f bs) → IsAmong b (filter f (d ∷ bs))
    go true e h = subst (λ z. IsAmong b z) (sym (cond-true (f d) (d ∷ filter f bs) (filter f bs) e)) (inr h)
    go false e h = subst (λ z. IsAmong b z) (sym (cond-false (f d) (d ∷ filter f bs) (filter f bs) e)) h

-- ---- calls that leave them

pub breaks_stay : (x y : Epochs) (s t : Items) → y.requests ≡ x.requests → x.transfer.acknowledged ≤ y.transfer.acknowledged → t.breaks ≡ s.breaks → HasBreaks x s → HasBreaks y t
breaks_stay x y s t same left breaks h r a = elim (h r (subst (IsAmong r) same a)) [
  | inl b ↦ inl (subst (IsAmong (origin + r.upto)) (sym breaks) b)
  | inr l ↦ inr (omega (arith, l, left))
]

module _ {P : Type 0} where
  nacked : (indication : MissIndication) (fast : Bool) (n : ℕ) (x : Step P) → (nack_at indication fast n x).items.breaks ≡ x.items.breaks
  nacked indication fast n x = go (slice_get x.items.kept n)
    where
      item : (i : Item) (b : Bool) → is_to_be_abandoned x.items.is_partial indication i ≡ b → (nack_item indication fast n i x).items.breaks ≡ x.items.breaks
      item i true e = rw e refl
      item i false e = rw e refl

      go : (o : Option Item) → (unwrap_or (option_map (λ i. nack_item indication fast n i x) o) x).items.breaks ≡ x.items.breaks
      go None = refl
      go (Some i) = item i (is_to_be_abandoned x.items.is_partial indication i) refl

  pub nacks_keep : (indication : MissIndication) (fast : Bool) (n : ℕ) (x : Step P) → (nack_below indication fast n x).items.breaks ≡ x.items.breaks
  nacks_keep indication fast zero x = refl
  nacks_keep indication fast (suc n) x = nacked indication fast n (nack_below indication fast n x) ∙ nacks_keep indication fast n x

  expired : (now n : ℕ) (x : Step P) → (expire_at now n x).items.breaks ≡ x.items.breaks
  expired now n x = go (option_bind (expired_of x.items.is_partial now) (slice_get x.items.kept n))
    where
      go : (o : Option ℕ) → (given_up_if o x).items.breaks ≡ x.items.breaks
      go None = refl
      go (Some number) = refl

  pub expiries_keep : (now n : ℕ) (x : Step P) → (expire_below now n x).items.breaks ≡ x.items.breaks
  expiries_keep now zero x = refl
  expiries_keep now (suc n) x = expired now n (expire_below now n x) ∙ expiries_keep now n x

-- ---- a SACK, a request, and a forward point

-- those that are acknowledged are passed
pub staying_keeps : (x y : Epochs) (s : Items) (cumulative c : ℕ) → y.requests ≡ x.requests → x.transfer.acknowledged ≤ y.transfer.acknowledged
    → cumulative + 1 ≡ origin + c → c ≤ y.transfer.acknowledged → HasBreaks x s → HasBreaks y (staying cumulative s)
staying_keeps x y s cumulative c same left is upto h r a = elim (h r (subst (IsAmong r) same a)) [
  | inr l ↦ inr (omega (arith, l, left))
  | inl b ↦ elim (cases_lt cumulative (origin + r.upto)) [
    | inl later ↦ inl (among_filtered (λ d. nat_lt cumulative d) (origin + r.upto) s.breaks (lt-ltb cumulative (origin + r.upto) later) b)
    | inr passed ↦ inr (omega (arith, passed, is, upto))
  ]
]

module _ (message : ℕ → Message) (lifecycle : ℕ → Option ℕ) (is_interleaved : Bool) where
  -- what is numbered next is a breakpoint from now on
  begun : (x : Epochs) (s : Items) → HasBreaks x s → HasBreaks x (begin_reset s)
  begun x s h r a = elim (h r a) [ inl b ↦ inl (among_more (origin + r.upto) (next_number s) s.breaks b) | inr l ↦ inr l ]

  requested_each : (ids : List ℕ) (x : Epochs) (t : Items) → IsAmong (origin + count x.transfer.sender) t.breaks → HasBreaks x t → HasBreaks (go_all message is_interleaved x (map send_request ids)) t
  requested_each [] x t b h = h
  requested_each (id ∷ ids) x t b h = requested_each ids (goes message is_interleaved x (send_request id)) t b one
    where
      one : HasBreaks (goes message is_interleaved x (send_request id)) t
      one r (inl e) = inl (subst (λ (z : Request). IsAmong (origin + z.upto) t.breaks) (sym e) b)
      one r (inr a) = h r a

  pub next_counted : (x : Transfer) (q : Queue) (s : Items) → SenderRefines message lifecycle is_interleaved x q s → next_number s ≡ origin + count x.sender
  next_counted x q s sh =
      let p = sh.items.point in
      let c = kept_count message lifecycle x.sender x.acknowledged s.kept sh.items.kept in
      omega (arith, p, c)

  pub requests_break : (ids : List ℕ) (x : Epochs) (q : Queue) (s : Items) → SenderRefines message lifecycle is_interleaved x.transfer q s → HasBreaks x s
      → HasBreaks (go_all message is_interleaved x (map send_request ids)) (begin_reset s)
  requests_break ids x q s sh h =
      let next = next_counted x.transfer q s sh in
      requested_each ids x (begin_reset s) (subst (λ n. IsAmong n (begin_reset s).breaks) next (among_with (next_number s) s.breaks)) (begun x s h)

  -- a point that is due is of one epoch
  pub points_end : (x : Epochs) (s : Sender) → HasBreaks x s.outstanding.items → (p : IsSendable message is_interleaved x.transfer s) → InEpoch message is_interleaved x (send_forward p.point)
  points_end x s h p r a = elim (h r a) [
    | inr l ↦ inr l
    | inl b ↦ elim (p.ends (origin + r.upto) b) [
      | inl l ↦ inl (omega (arith, l))
      | inr l ↦ inr (omega (arith, l))
    ]
  ]
