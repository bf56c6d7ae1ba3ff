use Rattle.std.proofs.Common.{◌≡◌, ℕ, [], cond, ◌++◌, ap, sym, ◌∙◌, arith, length}
use Rattle.std.proofs.lemmas.Result.{on_ok_weaker, on_err_weaker}
use Rattle.sctp_fragments.specs.Held.{Held, bytes_of}
use Rattle.sctp_fragments.specs.Interval.{as_held}
use Rattle.sctp_reassembly.specs.ReassemblyStreams.{bytes_held, fragments_held, is_far}
use Rattle.sctp_reassembly.specs.WireNumber.{nearest_of}
use Rattle.sctp_reassembly.proofs.EntriesLemmas.{sum_written, stream_there, stream_absent}
use Rattle.sctp_reassembly.proofs.InterruptedLemmas.{set_in_part}
use Rattle.sctp_reassembly.proofs.WireNumberLemmas.{near_first, on_err_both, set_first}
use Rattle.sctp_reassembly.proofs.stream_map.StreamMap.add_first.Goals as goal

pub overflow_add-self : goal.overflow_add-self
overflow_add-self g c =
    let blank = stream_there g.S.ReassemblyStream.fresh c.args.id.0 c.self.inside.streams.entries c.open.new.self c.in-Some.stream.now c.self.view_is c.in-Some.ensures.value ∙ c.in_ok-open.ensures.stream in
    let none : bytes_of (g.S.ReassemblyStream.held c.in-Some.stream.now) ≡ 0 = ap (λ s. bytes_of (g.S.ReassemblyStream.held s)) blank ∙ ap bytes_of g.met.S.ReassemblyStream.is_blank in
    omega (arith, none, c.add_to-added.ensures.bytes, c.queued_bytes.ensures, c.self.invariant.bytes_are, ap (bytes_held g.S.ReassemblyStream.held) c.self.view_is, c.open.ensures.bytes, c.requires.room)

pub overflow_add-self-2 : goal.overflow_add-self-2
overflow_add-self-2 g c =
    let blank = stream_there g.S.ReassemblyStream.fresh c.args.id.0 c.self.inside.streams.entries c.open.new.self c.in-Some.stream.now c.self.view_is c.in-Some.ensures.value ∙ c.in_ok-open.ensures.stream in
    let none : length (g.S.ReassemblyStream.held c.in-Some.stream.now) ≡ 0 = ap (λ s. length (g.S.ReassemblyStream.held s)) blank ∙ ap length g.met.S.ReassemblyStream.is_blank in
    omega (arith, none, c.add_to-added.ensures.fragments, c.held_fragments.ensures, c.self.invariant.fragments_are, ap (fragments_held g.S.ReassemblyStream.held) c.self.view_is, c.open.ensures.fragments, c.requires.fragments)

pub invariant_of-self-2 : goal.invariant_of-self-2
invariant_of-self-2 g c =
    let written = (c.get_mut.follows.holds c.add_to-added.new.stream).0 in
    let blank = stream_there g.S.ReassemblyStream.fresh c.args.id.0 c.self.inside.streams.entries c.open.new.self c.in-Some.stream.now c.self.view_is c.in-Some.ensures.value ∙ c.in_ok-open.ensures.stream in
    let no_bytes : bytes_of (g.S.ReassemblyStream.held c.in-Some.stream.now) ≡ 0 = ap (λ s. bytes_of (g.S.ReassemblyStream.held s)) blank ∙ ap bytes_of g.met.S.ReassemblyStream.is_blank in
    let no_fragments : length (g.S.ReassemblyStream.held c.in-Some.stream.now) ≡ 0 = ap (λ s. length (g.S.ReassemblyStream.held s)) blank ∙ ap length g.met.S.ReassemblyStream.is_blank in
    let bytes = sum_written (λ s. bytes_of (g.S.ReassemblyStream.held s)) c.args.id.0 c.self.inside.streams.entries c.in-Some.stream.now c.add_to-added.new.stream c.in-Some.ensures.value in
    let fragments = sum_written (λ s. length (g.S.ReassemblyStream.held s)) c.args.id.0 c.self.inside.streams.entries c.in-Some.stream.now c.add_to-added.new.stream c.in-Some.ensures.value in
    record {
      bytes_are = omega (arith, ap (bytes_held g.S.ReassemblyStream.held) written, bytes, no_bytes, c.queued_bytes.ensures, c.self.invariant.bytes_are);
      fragments_are = omega (arith, ap (fragments_held g.S.ReassemblyStream.held) written, fragments, no_fragments, c.held_fragments.ensures, c.self.invariant.fragments_are);
    }

pub returns-clause-ok : goal.returns-clause-ok
returns-clause-ok g c =
    let n : g.row.S.Denot → ℕ = λ s. nearest_of c.args.number (g.S.ReassemblyStream.reading_point s) in
    let x : g.row.S.Denot → Held = λ s. as_held (n s) c.args.index c.args.fragment in
    let fresh = g.S.ReassemblyStream.fresh in
    let at = stream_there g.S.ReassemblyStream.fresh c.args.id.0 c.self.inside.streams.entries c.open.new.self c.in-Some.stream.now c.self.view_is c.in-Some.ensures.value ∙ c.in_ok-open.ensures.stream ∙ stream_absent fresh c.args.id.0 c.args.self.now c.requires.absent in
    let near = ap (λ s. is_far (n s)) (sym (stream_absent fresh c.args.id.0 c.args.self.now c.requires.absent)) ∙ (ap (λ near. is_far (nearest_of c.args.number near)) g.met.S.ReassemblyStream.begins ∙ near_first c.args.number) in
    on_ok_weaker c.add_to-added.result
    (set_first fresh c.args.id.0 (λ s. is_far (n s)) (λ s. g.S.ReassemblyStream.after_arrival (x s) s) c.args.self.now _ c.in-Some.stream.now c.add_to-added.new.stream c.self.inside.streams.entries
    (c.get_mut.follows.holds c.add_to-added.new.stream).0 (c.self.view_is ∙ c.in_ok-open.ensures.ok) at near)
    c.add_to-added.ensures.ok

pub returns-clause-ready : goal.returns-clause-ready
returns-clause-ready g c =
    let n : g.row.S.Denot → ℕ = λ s. nearest_of c.args.number (g.S.ReassemblyStream.reading_point s) in
    let x : g.row.S.Denot → Held = λ s. as_held (n s) c.args.index c.args.fragment in
    let fresh = g.S.ReassemblyStream.fresh in
    let at = stream_there g.S.ReassemblyStream.fresh c.args.id.0 c.self.inside.streams.entries c.open.new.self c.in-Some.stream.now c.self.view_is c.in-Some.ensures.value ∙ c.in_ok-open.ensures.stream ∙ stream_absent fresh c.args.id.0 c.args.self.now c.requires.absent in
    on_ok_weaker c.add_to-added.result (λ e. e ∙ ap (λ s. c.args.ready.now ++ cond (is_far (n s)) [] (g.S.ReassemblyStream.made_ready (x s) s)) at) c.add_to-added.ensures.ready

pub returns-clause-err : goal.returns-clause-err
returns-clause-err g c =
    let n : g.row.S.Denot → ℕ = λ s. nearest_of c.args.number (g.S.ReassemblyStream.reading_point s) in
    let x : g.row.S.Denot → Held = λ s. as_held (n s) c.args.index c.args.fragment in
    let fresh = g.S.ReassemblyStream.fresh in
    let at = stream_there g.S.ReassemblyStream.fresh c.args.id.0 c.self.inside.streams.entries c.open.new.self c.in-Some.stream.now c.self.view_is c.in-Some.ensures.value ∙ c.in_ok-open.ensures.stream ∙ stream_absent fresh c.args.id.0 c.args.self.now c.requires.absent in
    on_err_weaker c.add_to-added.result
    (λ both. (
      ap (λ s. is_far (n s)) (sym at) ∙ both.0,
      set_in_part fresh c.args.id.0 c.self.inside.streams.entries c.args.self.now _ c.in-Some.stream.now c.add_to-added.new.stream (λ steps s. g.S.ReassemblyStream.arrival_in_part steps (x s) s) (λ steps s. g.S.ReassemblyStream.ready_in_part steps (x s) s) c.args.ready.now c.add_to-added.new.ready
          (c.get_mut.follows.holds c.add_to-added.new.stream).0 (c.self.view_is ∙ c.in_ok-open.ensures.ok) at both.1,
    ))
    (on_err_both _ _ c.add_to-added.result c.add_to-added.ensures.near c.add_to-added.ensures.err)

pub returns-clause-bytes : goal.returns-clause-bytes
returns-clause-bytes g c =
    let written = ap (bytes_held g.S.ReassemblyStream.held) (c.get_mut.follows.holds c.add_to-added.new.stream).0 in
    let sums = sum_written (λ s. bytes_of (g.S.ReassemblyStream.held s)) c.args.id.0 c.self.inside.streams.entries c.in-Some.stream.now c.add_to-added.new.stream c.in-Some.ensures.value in
    omega (arith, written, sums, c.add_to-added.ensures.bytes, ap (bytes_held g.S.ReassemblyStream.held) c.self.view_is, c.open.ensures.bytes)

pub returns-clause-fragments : goal.returns-clause-fragments
returns-clause-fragments g c =
    let written = ap (fragments_held g.S.ReassemblyStream.held) (c.get_mut.follows.holds c.add_to-added.new.stream).0 in
    let sums = sum_written (λ s. length (g.S.ReassemblyStream.held s)) c.args.id.0 c.self.inside.streams.entries c.in-Some.stream.now c.add_to-added.new.stream c.in-Some.ensures.value in
    omega (arith, written, sums, c.add_to-added.ensures.fragments, ap (fragments_held g.S.ReassemblyStream.held) c.self.view_is, c.open.ensures.fragments)
