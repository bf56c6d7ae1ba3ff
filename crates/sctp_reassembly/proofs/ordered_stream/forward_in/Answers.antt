use Rattle.std.proofs.Common.{◌≡◌, ◌≤◌, ◌<◌, ◌+◌, ◌^◌, ◌++◌, ap, sym, subst, ◌∙◌, length, ℕ, OnOk, OnErr}
use Rattle.sctp_fragments.specs.Held.{bytes_of}
use Rattle.sctp_reassembly.specs.Delivery.{OrderedStream, ordered_forward, ready_bytes}
use Rattle.sctp_reassembly.specs.InterruptedStreams.{ordered_forward_in_part}
use Rattle.sctp_reassembly.specs.OrderedState.{ordered_of}
use Rattle.sctp_reassembly.proofs.ordered_stream.forward_in.Goals as goal

pub returns-in-Holding-clause-err : goal.returns-in-Holding-clause-err
returns-in-Holding-clause-err g c n number index =
    subst (λ (s : OrderedStream). OnErr c.forward.result ((steps : ℕ) × ((c.forward.new.self ≡ (ordered_forward_in_part steps n s).stream) × (c.forward.new.ready ≡ c.args.ready.now ++ (ordered_forward_in_part steps n s).messages))))
    (c.deref_mut.ensures.value ∙ sym (ap ordered_of c.in-Holding.is)) (c.forward.ensures.err n number index)

pub forward-requires-clause-room : goal.forward-requires-clause-room
forward-requires-clause-room g c =
    let same = c.deref_mut.ensures.value ∙ sym (ap ordered_of c.in-Holding.is) in
    subst (λ (s : OrderedStream). bytes_of s.held + ready_bytes c.args.ready.now < 2 ^ 64) (sym same) c.requires.room

pub returns-in-Holding-clause-ok : goal.returns-in-Holding-clause-ok
returns-in-Holding-clause-ok g c n number index =
    let same = c.deref_mut.ensures.value ∙ sym (ap ordered_of c.in-Holding.is) in
    subst (λ (s : OrderedStream). OnOk c.forward.result (c.forward.new.self ≡ (ordered_forward n s).stream)) same (c.forward.ensures.ok n number index)

pub returns-in-Holding-clause-ready : goal.returns-in-Holding-clause-ready
returns-in-Holding-clause-ready g c n number index =
    let same = c.deref_mut.ensures.value ∙ sym (ap ordered_of c.in-Holding.is) in
    subst (λ (s : OrderedStream). OnOk c.forward.result (c.forward.new.ready ≡ c.args.ready.now ++ (ordered_forward n s).messages)) same (c.forward.ensures.ready n number index)

pub returns-in-Holding-clause-bytes : goal.returns-in-Holding-clause-bytes
returns-in-Holding-clause-bytes g c =
    let same = c.deref_mut.ensures.value ∙ sym (ap ordered_of c.in-Holding.is) in
    subst (λ (s : OrderedStream). bytes_of c.forward.new.self.held + ready_bytes c.forward.new.ready ≤ bytes_of s.held + ready_bytes c.args.ready.now) same c.forward.ensures.bytes

pub returns-in-Holding-clause-fragments : goal.returns-in-Holding-clause-fragments
returns-in-Holding-clause-fragments g c =
    let same = c.deref_mut.ensures.value ∙ sym (ap ordered_of c.in-Holding.is) in
    subst (λ (s : OrderedStream). length c.forward.new.self.held ≤ length s.held) same c.forward.ensures.fragments
