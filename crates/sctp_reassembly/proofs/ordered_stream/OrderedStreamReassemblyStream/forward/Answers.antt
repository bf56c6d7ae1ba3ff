use Rattle.std.proofs.Common.{◌≡◌, ◌++◌, sym, subst, ℕ, OnErr}
use Rattle.sctp_reassembly.specs.Delivery.{OrderedStream}
use Rattle.sctp_reassembly.specs.InterruptedStreams.{ordered_forward_in_part}
use Rattle.sctp_reassembly.specs.OrderedState.{ordered_of}
use Rattle.sctp_reassembly.proofs.ordered_stream.OrderedStreamReassemblyStream.forward.Goals as goal

pub returns-clause-err : goal.returns-clause-err
returns-clause-err g c n number index =
    let in_part : OrderedStream → OrderedStream → Type 0 = λ new old. OnErr c.forward_in-forwarded.result ((steps : ℕ) × ((new ≡ (ordered_forward_in_part steps n old).stream) × (c.forward_in-forwarded.new.ready ≡ c.args.ready.now ++ (ordered_forward_in_part steps n old).messages))) in
    subst (λ (old : OrderedStream). in_part (ordered_of c.give_back.new.state) old) c.self.view_is
    (subst (λ (new : OrderedStream). in_part new (ordered_of c.self.inside.state)) (sym c.give_back.ensures.same) (c.forward_in-forwarded.ensures.err n number index))
