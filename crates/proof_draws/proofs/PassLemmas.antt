-- A packet without a checksum is let through in one trace where its image is in the other.
use Rattle.std.proofs.Common.{◌≡◌, ℕ, ◌==◌, List, [], ◌∷◌, All, sym, ap, subst, ◌∙◌}
use Rattle.std.proofs.lemmas.List.Elements.{All-nil, All-cons, All-head, All-tail}
use Rattle.sctp_state.specs.Events.{Event, SendPacket, OnError, OnAborted}
use Rattle.spec_endpoint.specs.Association.{Context}
use Rattle.proof_endpoint.specs.Mapped.{Carried}
use Rattle.proof_pair.specs.Trace.{Side}
use Rattle.spec_endpoint.specs.Packets.{packets_in}
use Rattle.proof_draws.specs.Alike.{IsImage, AreEventsAlike, PassesAt, ImagesPass}
use Rattle.proof_draws.specs.Names.{named_context}

module _ (y z : Side) (tag : ℕ → ℕ) (same : z.end.endpoint_state.context ≡ named_context tag y.end.endpoint_state.context) where
  passes : (p q : Carried) → IsImage p q → PassesAt y p → PassesAt z q
  passes p q i h e =
      ap (λ (c : Context Carried). c.options.zero_checksum_method == 0) same ∙ h (sym (ap (λ (r : Carried). r.is_summed) i.is) ∙ e)

  passed : (es fs : List (Event Carried)) → AreEventsAlike es fs → All (PassesAt y) (packets_in es) → All (PassesAt z) (packets_in fs)
  passed [] [] t h = All-nil (PassesAt z)
  passed [] (f ∷ fs) t h = absurd t
  passed (e ∷ es) [] t h = absurd t
  passed (SendPacket p ∷ es) (f ∷ fs) t h =
      subst (λ (e : Event Carried). All (PassesAt z) (packets_in (e ∷ fs))) (sym t.0.1)
      (All-cons (PassesAt z) t.0.0 (packets_in fs) (passes p t.0.0 t.0.2 (All-head (PassesAt y) p (packets_in es) h))
      (passed es fs t.1 (All-tail (PassesAt y) p (packets_in es) h)))
  passed (OnError kind text ∷ es) (f ∷ fs) t h = subst (λ (e : Event Carried). All (PassesAt z) (packets_in (e ∷ fs))) (sym t.0.1) (passed es fs t.1 h)
  passed (OnAborted kind text ∷ es) (f ∷ fs) t h = subst (λ (e : Event Carried). All (PassesAt z) (packets_in (e ∷ fs))) (sym t.0.1) (passed es fs t.1 h)
  passed (e ∷ es) (f ∷ fs) t h = subst (λ (d : Event Carried). All (PassesAt z) (packets_in (d ∷ fs))) (sym t.0) (passed es fs t.1 h)

pub images_pass : ImagesPass
images_pass w v alike h = record {
  a = passed w.b v.b alike.b.names.tag alike.b.context w.a.emitted v.a.emitted alike.a.emitted h.a;
  b = passed w.a v.a alike.a.names.tag alike.a.context w.b.emitted v.b.emitted alike.b.emitted h.b;
}
