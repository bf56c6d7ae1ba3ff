use Rattle.std.proofs.Common.{ap, sym, ◌∙◌, arith}
use Rattle.std.specs.Prelude.{sum_by}
use Rattle.sctp_state.specs.ThresholdWatcher.{Watched}
use Rattle.sctp_tx_queue.specs.SendQueue.{Stream, remaining_bytes}
use Rattle.sctp_tx_queue.specs.Produced.{front_ends, front_needs_room, moved_front}
use Rattle.sctp_tx_queue.specs.Whole.{front_ended}
use Rattle.sctp_tx_queue.proofs.StreamLemmas.{advanced_is, front_took_messages}
use Rattle.sctp_tx_queue.proofs.send_queue.stream.Stream.send_front.Goals as goal

pub move_front_on-ended-requires : goal.move_front_on-ended-requires
move_front_on-ended-requires c =
    let s = c.args.self.now in
    let same = ap (λ (t : Stream). t.messages) (c.self-2.view_is ∙ c.number_front.ensures) ∙ front_took_messages s.messages s in
    c.requires ∙ sym (ap (λ ms. front_needs_room c.args.size ms) same)

pub decrease-requires : goal.decrease-requires
decrease-requires c =
    let s = c.args.self.now in
    let same = ap (λ (t : Stream). t.messages) (c.self-2.view_is ∙ c.number_front.ensures) ∙ front_took_messages s.messages s in
    omega (arith, c.fragment_size-bytes.ensures, c.self-2.invariant, ap (λ ms. sum_by remaining_bytes ms) same)

pub invariant_of-self : goal.invariant_of-self
invariant_of-self c =
    let s = c.args.self.now in
    let same = ap (λ (t : Stream). t.messages) (c.self-2.view_is ∙ c.number_front.ensures) ∙ front_took_messages s.messages s in
    let moved = c.move_front_on-ended.ensures.messages ∙ ap (λ ms. moved_front c.args.size c.front_numbers-numbers.result ms) same ∙ ap (λ n. moved_front c.args.size n s.messages) c.front_numbers-numbers.ensures in
    omega (
      arith,
      c.fragment_size-bytes.ensures,
      c.self-2.invariant,
      ap (λ ms. sum_by remaining_bytes ms) same,
      ap (λ ms. sum_by remaining_bytes ms) moved,
      ap (λ (w : Watched). w.amount) c.decrease.ensures.after,
    )

pub returns-clause-ended : goal.returns-clause-ended
returns-clause-ended c =
    let s = c.args.self.now in
    let same = ap (λ (t : Stream). t.messages) (c.self-2.view_is ∙ c.number_front.ensures) ∙ front_took_messages s.messages s in
    c.move_front_on-ended.ensures.ended ∙ ap (λ ms. front_ended c.args.size ms) same

pub returns-clause-after : goal.returns-clause-after
returns-clause-after c =
    advanced_is c.args.size _ _ c.args.self.now _ _ _ _ c.front_numbers-numbers.ensures
    (c.front_ends-is_end.ensures ∙ ap (λ (s : Stream). front_ends c.args.size s.messages) c.self.view_is)
    (c.self-2.view_is ∙ c.number_front.ensures) c.move_front_on-ended.ensures.messages c.pause_after-self-inside.ensures (ap (λ (w : Watched). w.low_threshold) c.decrease.ensures.after)

pub returns-clause-less : goal.returns-clause-less
returns-clause-less c =
    let s = c.args.self.now in
    let same = ap (λ (t : Stream). t.messages) (c.self-2.view_is ∙ c.number_front.ensures) ∙ front_took_messages s.messages s in
    let moved = c.move_front_on-ended.ensures.messages ∙ ap (λ ms. moved_front c.args.size c.front_numbers-numbers.result ms) same ∙ ap (λ n. moved_front c.args.size n s.messages) c.front_numbers-numbers.ensures in
    omega (arith, c.fragment_size-bytes.ensures, ap (λ ms. sum_by remaining_bytes ms) moved)
