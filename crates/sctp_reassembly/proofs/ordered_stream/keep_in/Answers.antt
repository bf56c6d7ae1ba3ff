use Rattle.std.proofs.Common.{◌≡◌, ◌≤◌, ◌<◌, ◌+◌, ◌^◌, ◌++◌, false, ap, sym, subst, ◌∙◌, length, ℕ, OnOk, OnErr}
use Rattle.std.specs.Prelude.{nat_lt}
use Rattle.sctp_fragments.specs.Held.{bytes_of}
use Rattle.sctp_fragments.specs.Interval.{as_held}
use Rattle.sctp_reassembly.specs.Delivery.{OrderedStream, ordered_arrival, ready_bytes}
use Rattle.sctp_reassembly.specs.InterruptedStreams.{ordered_arrival_in_part}
use Rattle.sctp_reassembly.specs.OrderedState.{ordered_of}
use Rattle.sctp_reassembly.proofs.ordered_stream.keep_in.Goals as goal

pub keep-requires-clause-due : goal.keep-requires-clause-due
keep-requires-clause-due g c =
    let same = c.deref_mut.ensures.value ∙ sym (ap ordered_of c.in-Holding.is) in
    subst (λ (s : OrderedStream). nat_lt (g.K.ReassemblyKey.number c.args.key) s.next ≡ false) (sym same) c.requires.due

pub keep-requires-clause-room : goal.keep-requires-clause-room
keep-requires-clause-room g c =
    let same = c.deref_mut.ensures.value ∙ sym (ap ordered_of c.in-Holding.is) in
    subst (λ (s : OrderedStream). bytes_of s.held + ready_bytes c.args.ready.now + length c.args.fragment.payload.items < 2 ^ 64) (sym same) c.requires.room

pub keep-requires-clause-fragments : goal.keep-requires-clause-fragments
keep-requires-clause-fragments g c =
    let same = c.deref_mut.ensures.value ∙ sym (ap ordered_of c.in-Holding.is) in
    subst (λ (s : OrderedStream). length s.held + 1 < 2 ^ 64) (sym same) c.requires.fragments

pub returns-in-Holding-clause-ok : goal.returns-in-Holding-clause-ok
returns-in-Holding-clause-ok g c =
    let x = as_held (g.K.ReassemblyKey.number c.args.key) (g.K.ReassemblyKey.index c.args.key) c.args.fragment in
    let same = c.deref_mut.ensures.value ∙ sym (ap ordered_of c.in-Holding.is) in
    subst (λ (s : OrderedStream). OnOk c.keep.result (c.keep.new.self ≡ (ordered_arrival x s).stream)) same c.keep.ensures.ok

pub returns-in-Holding-clause-ready : goal.returns-in-Holding-clause-ready
returns-in-Holding-clause-ready g c =
    let x = as_held (g.K.ReassemblyKey.number c.args.key) (g.K.ReassemblyKey.index c.args.key) c.args.fragment in
    let same = c.deref_mut.ensures.value ∙ sym (ap ordered_of c.in-Holding.is) in
    subst (λ (s : OrderedStream). OnOk c.keep.result (c.keep.new.ready ≡ c.args.ready.now ++ (ordered_arrival x s).messages)) same c.keep.ensures.ready

pub returns-in-Holding-clause-err : goal.returns-in-Holding-clause-err
returns-in-Holding-clause-err g c =
    let x = as_held (g.K.ReassemblyKey.number c.args.key) (g.K.ReassemblyKey.index c.args.key) c.args.fragment in
    let same = c.deref_mut.ensures.value ∙ sym (ap ordered_of c.in-Holding.is) in
    subst (λ (s : OrderedStream). OnErr c.keep.result ((steps : ℕ) × ((c.keep.new.self ≡ (ordered_arrival_in_part steps x s).stream) × (c.keep.new.ready ≡ c.args.ready.now ++ (ordered_arrival_in_part steps x s).messages)))) same c.keep.ensures.err

pub returns-in-Holding-clause-bytes : goal.returns-in-Holding-clause-bytes
returns-in-Holding-clause-bytes g c =
    let same = c.deref_mut.ensures.value ∙ sym (ap ordered_of c.in-Holding.is) in
    subst (λ (s : OrderedStream). bytes_of c.keep.new.self.held + ready_bytes c.keep.new.ready ≤ bytes_of s.held + ready_bytes c.args.ready.now + length c.args.fragment.payload.items) same c.keep.ensures.bytes

pub returns-in-Holding-clause-fragments : goal.returns-in-Holding-clause-fragments
returns-in-Holding-clause-fragments g c =
    let same = c.deref_mut.ensures.value ∙ sym (ap ordered_of c.in-Holding.is) in
    subst (λ (s : OrderedStream). length c.keep.new.self.held ≤ length s.held + 1) same c.keep.ensures.fragments
