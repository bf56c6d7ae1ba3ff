-- Each fragment but a placeholder has bytes, so that a message has no more of them than bytes: the index of each is below its
-- message's length.
use Rattle.std.proofs.Common.{◌≡◌, ℕ, ◌<◌, ◌≤◌, Bool, true, false, not, inl, inr, List, [], ◌∷◌, ◌++◌, length, ◌&&◌, refl, sym, ap, ◌∙◌, subst, arith, length-append}
use Rattle.std.specs.List.{list_all}
use Rattle.std.proofs.lemmas.Bool.{cases_eq, cases_lt, and_parts}
use Rattle.proof_protocol.specs.State.{Message, Fragment, Sender, Transfer, blank, fragment, place_of, count, put, gather, parts, is_empty, new_sender}
use Rattle.proof_protocol.specs.Rules.{TransferEvent, accept, begin, number, end_with_placeholder, give_up, data_comes, late_comes, become_ready, send_sack, acknowledge_next, send_forward, forward_comes, perform_reset, Waits, IsAllowed, accepts, numbers, begins, part, placeholder_of, after}
use Rattle.proof_protocol.specs.Resets.{Epochs, ResetEvent, transfers, reset_stream, send_request, perform, commit, MayReset, goes, MayAll, go_all}
use Rattle.proof_protocol.specs.Based.{InEpochs}
use Rattle.proof_protocol.specs.Invariant.{Invariant}
use Rattle.proof_protocol.proofs.ToolsLemmas.{put_at, put_off, not_both, each_push, gathered_push, gathered_off}
use Rattle.proof_protocol.proofs.IndexedLemmas.{parts_push, parts_off}
use Rattle.proof_protocol.proofs.BasedLemmas.{keeps_epochs}
use Rattle.proof_delivery.proofs.ClaimLemmas.{Direction, transfer_of, goes_in, GoesOn}

pub record IsFilled (message : ℕ → Message) (o : Sender) : Type 0 where
  -- of what is partly sent, so far
  pub partly : (p : ℕ) → o.partly p ≡ true → parts p o.numbered ≤ length (gather p o.numbered)
  pub within : (t : ℕ) → t < count o → (fragment o t).placeholder ≡ false → (fragment o t).index < length (message (place_of o t)).payload

-- rules that number no fragment without bytes
abbrev pub has_bytes : TransferEvent → Bool
has_bytes (number p bytes more) = not (is_empty bytes)
has_bytes e = true

abbrev pub fills : ResetEvent → Bool
fills (transfers e) = has_bytes e
fills (reset_stream s) = true
fills (send_request s) = true
fills (perform r) = true
fills (commit s) = true

some_length : (bytes : List ℕ) → not (is_empty bytes) ≡ true → 0 < length bytes
some_length [] h = absurd (cc)
some_length (b ∷ bytes) h = omega arith

module _ (message : ℕ → Message) where
  -- where nothing is numbered
  pub filled_new : (accepted : ℕ) → IsFilled message (record new_sender { accepted = accepted })
  filled_new accepted = record { partly = λ p h. absurd (not_both h refl); within = λ t l r. absurd (omega (arith, l)) }

  -- ---- one rule

  filled_accept : (o : Sender) → IsFilled message o → IsFilled message (accepts o)
  filled_accept o f = record { partly = f.partly; within = f.within }

  module _ (o : Sender) (f : IsFilled message o) (p : ℕ) where
    filled_part : (bytes more : List ℕ) → o.partly p ≡ true → gather p o.numbered ++ (bytes ++ more) ≡ (message p).payload → 0 < length bytes
        → IsFilled message (numbers o (part o p bytes more))
    filled_part bytes more going whole some = record { partly = partly; within = each_push blank Within o.numbered g f.within (λ r. below) }
      where
        g : Fragment
        g = part o p bytes more

        Within : ℕ → Fragment → Type 0
        Within t h = h.placeholder ≡ false → h.index < length (message h.place).payload

        below : parts p o.numbered < length (message p).payload
        below =
            let few = f.partly p going in
            let all = ap length (sym whole) ∙ length-append (gather p o.numbered) (bytes ++ more) in
            omega (arith, few, all, length-append bytes more, some)

        partly : (q : ℕ) → put o.partly p (not (is_empty more)) q ≡ true → parts q (o.numbered ++ g ∷ []) ≤ length (gather q (o.numbered ++ g ∷ []))
        partly q h =
            elim (cases_eq p q) [
              | inl e ↦
                  let few = f.partly q (ap o.partly (sym e) ∙ going) in
                  let up = parts_push q o.numbered g e in
                  let on = ap length (gathered_push q o.numbered g e) ∙ length-append (gather q o.numbered) bytes in
                  omega (arith, few, up, on, some)
              | inr d ↦
                  let few = f.partly q (sym (put_off o.partly p (not (is_empty more)) q (λ e. d (sym e))) ∙ h) in
                  let same = parts_off q o.numbered g d in
                  let off = ap length (gathered_off q o.numbered g d) in
                  omega (arith, few, same, off)
            ]

    filled_end : IsFilled message (numbers o (placeholder_of o p))
    filled_end = record { partly = partly; within = each_push blank Within o.numbered g f.within (λ r. absurd (not_both refl r)) }
      where
        g : Fragment
        g = placeholder_of o p

        Within : ℕ → Fragment → Type 0
        Within t h = h.placeholder ≡ false → h.index < length (message h.place).payload

        partly : (q : ℕ) → put o.partly p false q ≡ true → parts q (o.numbered ++ g ∷ []) ≤ length (gather q (o.numbered ++ g ∷ []))
        partly q h =
            elim (cases_eq p q) [
              | inl e ↦ absurd (not_both h (put_at o.partly p false q (sym e)))
              | inr d ↦
                  let few = f.partly q (sym (put_off o.partly p false q (λ e. d (sym e))) ∙ h) in
                  let same = parts_off q o.numbered g d in
                  let off = ap length (gathered_off q o.numbered g d) in
                  omega (arith, few, same, off)
            ]

  module _ (is_interleaved : Bool) (x : Transfer) (k : Invariant message is_interleaved x) (f : IsFilled message x.sender) where
    -- what was not begun has no fragment
    none_numbered : (p : ℕ) → x.sender.begun p ≡ false → parts p x.sender.numbered ≡ 0
    none_numbered p h =
        elim (cases_lt 0 (parts p x.sender.numbered)) [
          | inl some ↦
              let t = k.indexed.index_found p 0 some in
              absurd (not_both (k.outgoing.place_begun t.0 t.1) (ap x.sender.begun t.2 ∙ h))
          | inr none ↦ omega (arith, none)
        ]

    filled_begin : (p : ℕ) → Waits x.sender p → IsFilled message (begins message x.sender p)
    filled_begin p w = record { partly = partly; within = f.within }
      where
        partly : (q : ℕ) → put x.sender.partly p true q ≡ true → parts q x.sender.numbered ≤ length (gather q x.sender.numbered)
        partly q h =
            elim (cases_eq q p) [
              | inl e ↦ let none = none_numbered q (ap x.sender.begun e ∙ w.not_begun) in omega (arith, none)
              | inr d ↦ f.partly q (sym (put_off x.sender.partly p true q d) ∙ h)
            ]

    pub filled_once : (e : TransferEvent) → IsAllowed message is_interleaved x e → has_bytes e ≡ true → IsFilled message (after message is_interleaved x e).sender
    filled_once accept a b = filled_accept x.sender f
    filled_once (begin p) a b = filled_begin p a.0
    filled_once (number p bytes more) a b = filled_part x.sender f p bytes more a.0 a.1 (some_length bytes b)
    filled_once (end_with_placeholder p) a b = filled_end x.sender f p
    filled_once (give_up p) a b = record { partly = f.partly; within = f.within }
    filled_once (data_comes t) a b = f
    filled_once (late_comes t) a b = f
    filled_once (become_ready p) a b = f
    filled_once (send_sack c) a b = f
    filled_once (acknowledge_next c) a b = f
    filled_once (send_forward p) a b = f
    filled_once (forward_comes p) a b = f
    filled_once (perform_reset s c) a b = f

  -- ---- runs

  module _ (is_interleaved : Bool) where
    filled_reset : (x : Epochs) → InEpochs message is_interleaved x → (e : ResetEvent) → MayReset message is_interleaved x e → fills e ≡ true
        → IsFilled message x.transfer.sender → IsFilled message (goes message is_interleaved x e).transfer.sender
    filled_reset x k (transfers e) a b f = filled_once is_interleaved x.transfer k.order.kept f e a.0 b
    filled_reset x k (reset_stream s) a b f = f
    filled_reset x k (send_request s) a b f = f
    filled_reset x k (perform r) a b f = f
    filled_reset x k (commit s) a b f = record { partly = f.partly; within = f.within }

    pub filled_along : (es : List ResetEvent) (x : Epochs) → InEpochs message is_interleaved x → MayAll message is_interleaved x es → list_all fills es ≡ true
        → IsFilled message x.transfer.sender → IsFilled message (go_all message is_interleaved x es).transfer.sender
    filled_along [] x k h b f = f
    filled_along (e ∷ es) x k h b f =
        let bs = and_parts (fills e) (list_all fills es) b in
        filled_along es (goes message is_interleaved x e) (keeps_epochs message is_interleaved x k e h.0) h.1 bs.1 (filled_reset x k e h.0 bs.0 f)

    all_have : (kind : ResetEvent → Bool) → ((e : ResetEvent) → kind e ≡ true → fills e ≡ true) → (es : List ResetEvent) → list_all kind es ≡ true → list_all fills es ≡ true
    all_have kind each [] h = refl
    all_have kind each (e ∷ es) h =
        let hs = and_parts (kind e) (list_all kind es) h in
        ap (λ b. b && list_all fills es) (each e hs.0) ∙ all_have kind each es hs.1

    pub filled_goes : (kind : ResetEvent → Bool) → ((e : ResetEvent) → kind e ≡ true → fills e ≡ true) → (x y : Direction) → InEpochs message is_interleaved x.rules
        → GoesOn message is_interleaved kind x y → IsFilled message (transfer_of x).sender → IsFilled message (transfer_of y).sender
    filled_goes kind each x y k g f =
        subst (λ (z : Epochs). IsFilled message z.transfer.sender) g.leads (filled_along g.events x.rules k g.may (all_have kind each g.events g.all) f)

    receiving_has : (e : ResetEvent) → goes_in e ≡ true → fills e ≡ true
    receiving_has (transfers (number p bytes more)) h = absurd (cc)
    receiving_has (transfers accept) h = refl
    receiving_has (transfers (begin p)) h = refl
    receiving_has (transfers (end_with_placeholder p)) h = refl
    receiving_has (transfers (give_up p)) h = refl
    receiving_has (transfers (data_comes t)) h = refl
    receiving_has (transfers (late_comes t)) h = refl
    receiving_has (transfers (become_ready p)) h = refl
    receiving_has (transfers (send_sack c)) h = refl
    receiving_has (transfers (acknowledge_next c)) h = refl
    receiving_has (transfers (send_forward f)) h = refl
    receiving_has (transfers (forward_comes f)) h = refl
    receiving_has (transfers (perform_reset s c)) h = refl
    receiving_has (reset_stream s) h = refl
    receiving_has (send_request s) h = refl
    receiving_has (perform r) h = refl
    receiving_has (commit s) h = refl

    pub receives_filled : (x y : Direction) → InEpochs message is_interleaved x.rules → GoesOn message is_interleaved goes_in x y → IsFilled message (transfer_of x).sender
        → IsFilled message (transfer_of y).sender
    receives_filled = filled_goes goes_in receiving_has

  -- ---- what it says

  -- where each message is shorter, an index is written whole
  pub short_index : (most : ℕ) (o : Sender) → IsFilled message o → ((t : ℕ) → t < count o → length (message (place_of o t)).payload < most)
      → (t : ℕ) → t < count o → (fragment o t).placeholder ≡ false → (fragment o t).index < most
  short_index most o f short t below real =
      let index = f.within t below real in
      let whole = short t below in
      omega (arith, index, whole)
