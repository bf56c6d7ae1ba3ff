-- What holds gives_up the claims.
use Rattle.std.proofs.Common.{◌≡◌, ℕ, ◌<◌, Bool, true, false, ◌⊎◌, inl, inr, List, get_or, sym, ap, ◌∙◌, arith}
use Rattle.proof_protocol.specs.State.{Message, Transfer, has, start, ordered_of, stream_of}
use Rattle.proof_protocol.specs.Rules.{TransferEvent, Happens, run}
use Rattle.proof_protocol.specs.Claims.{Claims, AtRest}
use Rattle.proof_protocol.specs.Invariant.{Invariant}
use Rattle.proof_protocol.proofs.ToolsLemmas.{not_both, has_at}
use Rattle.proof_protocol.proofs.RulesKeepLemmas.{at_start, all_kept}

module _ (message : ℕ → Message) (is_interleaved : Bool) (x : Transfer) (k : Invariant message is_interleaved x) where
  skipped : (p q : ℕ) → ordered_of message p ≡ true → ordered_of message q ≡ true → stream_of message p ≡ stream_of message q → p < q → has q x.receiver.places ≡ true → has p x.receiver.places ≡ false → x.sender.given_up p ≡ true
  skipped p q kp kq s l rq np =
      let bq = k.incoming.ready_begun q rq in
      elim (k.outgoing.settled q p bq l s).begun_or_given_up [
        | inr g ↦ g
        | inl bp ↦
            let n = k.outgoing.rises p q bp bq (kp ∙ sym kq) s l in
            let b = k.incoming.ready_below q rq kq in
            let e = ap x.receiver.next s in
            elim (k.incoming.below_next p bp kp (omega (arith, n, b, e))) [
              | inl r ↦ absurd (not_both r np)
              | inr g ↦ g
            ]
      ]

  rest : AtRest x → (p : ℕ) → p < x.sender.accepted → (has p x.receiver.places ≡ true) ⊎ (x.sender.given_up p ≡ true)
  rest r p h =
      elim (r.no_queue p h) [
        | inr g ↦ inr g
        | inl b ↦
            let e = k.outgoing.ended p b (r.no_part p) in
            let l = e.1 in
            let n = r.no_item in
            elim (k.acknowledged_true.done e.0 (omega (arith, l, n)) e.3) [
              | inl y ↦ inl (sym (ap (λ z. has z x.receiver.places) e.2) ∙ y)
              | inr g ↦ inr (sym (ap x.sender.given_up e.2) ∙ g)
            ]
      ]

  pub claimed : Claims message x
  claimed = record {
    fits = record {
      alike = k.incoming.alike;
      accepted = λ n h. k.outgoing.begun_below (get_or x.receiver.places n 0) (k.incoming.ready_begun (get_or x.receiver.places n 0) (has_at x.receiver.places n h));
      distinct = λ j n l h. (k.incoming.apart j n l h).distinct;
      rising = λ j n l h. (k.incoming.apart j n l h).rising;
    };
    skipped = skipped;
    reports = k.reports_true;
    rest = rest;
  }

pub always : (message : ℕ → Message) (is_interleaved : Bool) (es : List TransferEvent) → Happens message is_interleaved start es → Claims message (run message is_interleaved start es)
always message is_interleaved es h = claimed message is_interleaved (run message is_interleaved start es) (all_kept message is_interleaved es start (at_start message is_interleaved) h)
