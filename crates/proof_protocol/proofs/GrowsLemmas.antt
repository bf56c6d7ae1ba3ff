-- What became ready only grows at its back.
use Rattle.std.proofs.Common.{◌≡◌, ℕ, Bool, List, [], ◌∷◌, ◌++◌, refl, sym, ap, ◌∙◌, append-nil, append_assoc}
use Rattle.proof_protocol.specs.State.{Message, Transfer, start}
use Rattle.proof_protocol.specs.Rules.{TransferEvent, accept, begin, number, end_with_placeholder, give_up, data_comes, late_comes, become_ready, send_sack, acknowledge_next, send_forward, forward_comes, perform_reset, after, run}
use Rattle.proof_protocol.specs.Claims.{Grows}

module _ (message : ℕ → Message) (is_interleaved : Bool) where
  pub one : (x : Transfer) (e : TransferEvent) → Grows x (after message is_interleaved x e)
  one x accept = ([], sym (append-nil x.receiver.places))
  one x (begin p) = ([], sym (append-nil x.receiver.places))
  one x (number p b m) = ([], sym (append-nil x.receiver.places))
  one x (end_with_placeholder p) = ([], sym (append-nil x.receiver.places))
  one x (give_up p) = ([], sym (append-nil x.receiver.places))
  one x (data_comes t) = ([], sym (append-nil x.receiver.places))
  one x (late_comes t) = ([], sym (append-nil x.receiver.places))
  one x (become_ready p) = (p ∷ [], refl)
  one x (send_sack c) = ([], sym (append-nil x.receiver.places))
  one x (acknowledge_next c) = ([], sym (append-nil x.receiver.places))
  one x (send_forward f) = ([], sym (append-nil x.receiver.places))
  one x (forward_comes f) = ([], sym (append-nil x.receiver.places))
  one x (perform_reset s c) = ([], sym (append-nil x.receiver.places))

  all : (es : List TransferEvent) (x : Transfer) → Grows x (run message is_interleaved x es)
  all [] x = ([], sym (append-nil x.receiver.places))
  all (e ∷ es) x =
      let a = one x e in
      let b = all es (after message is_interleaved x e) in
      (a.0 ++ b.0, b.1 ∙ (ap (λ z. z ++ b.0) a.1 ∙ append_assoc x.receiver.places a.0 b.0))

  pub run_more : (es fs : List TransferEvent) (x : Transfer) → run message is_interleaved x (es ++ fs) ≡ run message is_interleaved (run message is_interleaved x es) fs
  run_more [] fs x = refl
  run_more (e ∷ es) fs x = run_more es fs (after message is_interleaved x e)

  pub grown : (es fs : List TransferEvent) → Grows (run message is_interleaved start es) (run message is_interleaved start (es ++ fs))
  grown es fs =
      let b = all fs (run message is_interleaved start es) in
      (b.0, ap (λ z. z.receiver.places) (run_more es fs start) ∙ b.1)
