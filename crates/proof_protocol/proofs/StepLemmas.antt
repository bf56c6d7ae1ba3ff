-- What stays as any one rule is applied.
use Rattle.std.proofs.Common.{◌≡◌, ◌≢◌, ℕ, Bool, true, false, not, ◌++◌, sym, ap, ◌∙◌, subst, eqb, ltb, append-nil}
use Rattle.std.proofs.lemmas.Bool.{and_left, or_right}
use Rattle.proof_protocol.specs.State.{Message, Fragment, Transfer, place_of, gather, stream_of}
use Rattle.proof_protocol.specs.Rules.{TransferEvent, accept, begin, number, end_with_placeholder, give_up, data_comes, late_comes, become_ready, send_sack, acknowledge_next, send_forward, forward_comes, perform_reset, IsAllowed, after, IsSettled, part, placeholder_of, drops, numbers}
use Rattle.proof_protocol.specs.Invariant.{Invariant}
use Rattle.proof_protocol.proofs.LaterLemmas.{Later}
use Rattle.proof_protocol.proofs.ToolsLemmas.{put_off, put_keeps, not_both}
use Rattle.proof_protocol.proofs.StaysLemmas.{later_same}
use Rattle.proof_protocol.proofs.BeginLemmas.{begins_later, moved, unsettled}
use Rattle.proof_protocol.proofs.NumberedLemmas.{numbers_later}
use Rattle.proof_protocol.proofs.GivenLemmas.{gives_later, accepts_later, settled_given}
use Rattle.proof_protocol.proofs.RulesKeepLemmas.{none_left}

module _ (message : ℕ → Message) (is_interleaved : Bool) (x : Transfer) (k : Invariant message is_interleaved x) where
  pub later : (e : TransferEvent) → IsAllowed message is_interleaved x e → Later message x.sender (after message is_interleaved x e).sender
  later accept a = accepts_later message x.sender k.outgoing
  later (begin p) a = begins_later message is_interleaved x.sender k.outgoing p a.0 a.1
  later (number p bytes more) a =
      let f = part x.sender p bytes more in
      let fin : f.is_end ≡ true → f.placeholder ≡ false → gather p x.sender.numbered ++ bytes ≡ (message p).payload =
      (λ l nf. ap (λ z. gather p x.sender.numbered ++ z) (sym (append-nil bytes) ∙ ap (λ z. bytes ++ z) (sym (none_left more l))) ∙ a.1) in
      numbers_later message x.sender k.outgoing f a.0 fin
  later (end_with_placeholder p) a = numbers_later message x.sender k.outgoing (placeholder_of x.sender p) a (λ l nf. cc)
  later (give_up p) a = gives_later message x.sender k.outgoing p
  later (data_comes t) a = later_same message x.sender
  later (late_comes t) a = later_same message x.sender
  later (become_ready p) a = later_same message x.sender
  later (send_sack c) a = later_same message x.sender
  later (acknowledge_next c) a = later_same message x.sender
  later (send_forward f) a = later_same message x.sender
  later (forward_comes f) a = later_same message x.sender
  later (perform_reset s c) a = later_same message x.sender

  numbered_settled : (f : Fragment) → x.sender.partly f.place ≡ true → (q : ℕ) → IsSettled x.sender q → IsSettled (numbers x.sender f) q
  numbered_settled f partly q y =
      let d : q ≢ f.place = λ e. not_both (ap x.sender.partly e ∙ partly) y.not_partly in
      record { not_partly = put_off x.sender.partly f.place (not f.is_end) q d ∙ y.not_partly; begun_or_given_up = y.begun_or_given_up }

  -- what is out of the send queue stays out
  pub settled_stays : (e : TransferEvent) → IsAllowed message is_interleaved x e → (q : ℕ) → IsSettled x.sender q → IsSettled (after message is_interleaved x e).sender q
  settled_stays accept a q y = record { not_partly = y.not_partly; begun_or_given_up = y.begun_or_given_up }
  settled_stays (begin p) a q y =
      moved message is_interleaved x.sender k.outgoing p a.0 a.1 q
      (λ e. unsettled message is_interleaved x.sender k.outgoing p a.0 a.1 (subst (λ z. IsSettled x.sender z) e y)) y
  settled_stays (number p bytes more) a q y = numbered_settled (part x.sender p bytes more) a.0 q y
  settled_stays (end_with_placeholder p) a q y = numbered_settled (placeholder_of x.sender p) a q y
  settled_stays (give_up p) a q y = settled_given message x.sender k.outgoing p q y
  settled_stays (data_comes t) a q y = y
  settled_stays (late_comes t) a q y = y
  settled_stays (become_ready p) a q y = y
  settled_stays (send_sack c) a q y = y
  settled_stays (acknowledge_next c) a q y = y
  settled_stays (send_forward f) a q y = y
  settled_stays (forward_comes f) a q y = y
  settled_stays (perform_reset s c) a q y = y

  -- a fragment that was seen and isn't held isn't held again
  pub dropped_stays : (e : TransferEvent) → IsAllowed message is_interleaved x e → (t : ℕ) → x.receiver.seen t ≡ true → x.receiver.held t ≡ false
      → ((after message is_interleaved x e).receiver.seen t ≡ true) × ((after message is_interleaved x e).receiver.held t ≡ false)
  dropped_stays accept a t y h = (y, h)
  dropped_stays (begin p) a t y h = (y, h)
  dropped_stays (number p bytes more) a t y h = (y, h)
  dropped_stays (end_with_placeholder p) a t y h = (y, h)
  dropped_stays (give_up p) a t y h = (y, h)
  dropped_stays (data_comes u) a t y h =
      let d : t ≢ u = λ e. not_both (sym (ap x.receiver.seen e) ∙ y) a.2 in
      (put_keeps x.receiver.seen u t y, put_off x.receiver.held u true t d ∙ h)
  dropped_stays (late_comes u) a t y h = (put_keeps x.receiver.seen u t y, h)
  dropped_stays (become_ready p) a t y h = (y, and_left (x.receiver.held t) (not (eqb (place_of x.sender t) p)) h)
  dropped_stays (send_sack c) a t y h = (y, h)
  dropped_stays (acknowledge_next c) a t y h = (y, h)
  dropped_stays (send_forward f) a t y h = (y, h)
  dropped_stays (forward_comes f) a t y h = (or_right (ltb t f.upto) (x.receiver.seen t) y, and_left (x.receiver.held t) (not (drops message is_interleaved x.sender f t)) h)
  dropped_stays (perform_reset s c) a t y h = (y, and_left (x.receiver.held t) (not (eqb (stream_of message (place_of x.sender t)) s)) h)
