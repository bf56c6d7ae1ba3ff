use Rattle.std.proofs.Common.{ap, ◌∙◌}
use Rattle.sctp_tx_queue.specs.SendQueue.{Queued}
use Rattle.sctp_tx_queue.specs.Produced.{made_of}
use Rattle.sctp_tx_queue.specs.Whole.{with_payload}
use Rattle.sctp_tx_queue.proofs.WholeLemmas.{whole_payload}
use Rattle.sctp_tx_queue.proofs.send_queue.message.QueuedMessage.into_fragment.Goals as goal

pub returns : goal.returns
returns c =
    let made = made_of c.args.turn.id.0 c.args.turn.size c.args.numbers c.args.self in
    let payload = ap (λ (m : Queued). m.payload) c.self.view_is ∙ whole_payload c.args.turn.size c.args.self c.requires in
    ap (λ p. with_payload c.self.inside.payload.items p) c.fragment_with-made.ensures ∙ ap (λ bytes. with_payload bytes made) payload
