use Rattle.std.specs.Prelude.{[], option_map}
use Rattle.sctp_tx_queue.specs.SendQueue.{Queue}
use Rattle.sctp_tx_queue.proofs.SettledLemmas.{keeps_more, others_rest}
use Rattle.sctp_tx_queue.proofs.send_queue.SendQueue.emit_ended.Goals as goal

pub invariant_of-self : goal.invariant_of-self
invariant_of-self c =
    let q : Queue = record { streams = c.self.inside.streams; scheduler = c.self.inside.scheduler; next_number = c.self.inside.next_message_id.0; begun = option_map (λ i. i.0) c.self.inside.begun } in
    keeps_more [] c.self.inside.changed c.join_active.new.self q c.self.invariant c.join_active.ensures.kept

pub emit_some_ended-requires : goal.emit_some_ended-requires
emit_some_ended-requires c =
    let q : Queue = record { streams = c.self.inside.streams; scheduler = c.self.inside.scheduler; next_number = c.self.inside.next_message_id.0; begun = option_map (λ i. i.0) c.self.inside.begun } in
    others_rest c.self.inside.changed c.join_active.new.self q c.self.invariant (c.in_ok-join_active.ensures.joined c.if-branch.true)

pub invariant_of-self-then-branch : goal.invariant_of-self-then-branch
invariant_of-self-then-branch c =
    let q : Queue = record { streams = c.self.inside.streams; scheduler = c.self.inside.scheduler; next_number = c.self.inside.next_message_id.0; begun = option_map (λ i. i.0) c.self.inside.begun } in
    keeps_more [] c.self.inside.changed c.join_active.new.self q c.self.invariant c.join_active.ensures.kept

pub invariant_of-self-2 : goal.invariant_of-self-2
invariant_of-self-2 c =
    let q : Queue = record { streams = c.self.inside.streams; scheduler = c.self.inside.scheduler; next_number = c.self.inside.next_message_id.0; begun = option_map (λ i. i.0) c.self.inside.begun } in
    keeps_more [] c.self.inside.changed c.join_active.new.self q c.self.invariant c.join_active.ensures.kept
