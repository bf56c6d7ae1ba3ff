-- The first run as a whole.
use Rattle.std.proofs.Common.{Some, [], ◌∷◌, refl, ap, ◌∙◌}
use Rattle.rand_core.specs.Stream.{Stream}
use Rattle.sctp_serial.specs.Messages.{Message}
use Rattle.sctp_state.specs.Options.{SendOptions}
use Rattle.spec_endpoint.specs.Association.{Endpoint, Packing}
use Rattle.spec_endpoint.specs.Calls.{send_refusal_of}
use Rattle.spec_endpoint.specs.Shown.{is_at_rest}
use Rattle.proof_endpoint.specs.FirstRun.{sending, taking, resting, IsSmall, association, Crosses, Rests}
use Rattle.spec_endpoint.specs.Packets.{drained}
use Rattle.proof_endpoint.proofs.OpeningRunLemmas.{opens, shows_by}
use Rattle.proof_endpoint.proofs.SendRunLemmas.{accepts_message, sent_end, sends}
use Rattle.proof_endpoint.proofs.TakeRunLemmas.{taken_end, takes_it}
use Rattle.proof_endpoint.proofs.RestRunLemmas.{rested_end, rests}

module _ {P : Type 0} (pack : Packing P) (a b : Stream) (m : Message) (o : SendOptions) (small : IsSmall m) where
  pub it_crosses : Crosses pack a b m o
  it_crosses = record {
    accepted = ap (λ (s : Endpoint P). send_refusal_of m (drained s).endpoint_state) (opens pack a b) ∙ accepts_message pack a m small;
    sent = shows_by pack (sending pack a b m o) (sent_end pack a b m o) _ (Some (association a b)) [] (sends pack a b m o small) refl refl;
    came = shows_by pack (taking pack a b m o) (taken_end pack a b m o) _ (Some (association b a)) (m ∷ []) (takes_it pack a b m o small) refl refl;
  }

  abbrev rested : Endpoint P
  rested = rested_end pack a b m o.lifetime o.max_retransmissions o.unordered o.lifecycle_id

  pub it_rests : Rests pack a b m o
  it_rests = record {
    received = shows_by pack (resting pack a b m o) rested _ (Some (association a b)) [] (rests pack a b m o small) refl refl;
    at_rest = ap (λ (s : Endpoint P). is_at_rest s.endpoint_state.state s.endpoint_state.context.queue) (rests pack a b m o small);
  }
