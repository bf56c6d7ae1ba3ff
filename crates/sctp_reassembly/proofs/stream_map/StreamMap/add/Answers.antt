use Rattle.std.proofs.Common.{ℕ, [], ◌++◌, cond, ap, sym, ◌∙◌, arith, length}
use Rattle.std.proofs.lemmas.Result.{on_ok_weaker, on_err_weaker}
use Rattle.sctp_fragments.specs.Held.{Held, bytes_of}
use Rattle.sctp_fragments.specs.Interval.{as_held}
use Rattle.sctp_reassembly.specs.ReassemblyStreams.{bytes_held, fragments_held, is_far}
use Rattle.sctp_reassembly.specs.WireNumber.{nearest_of}
use Rattle.sctp_reassembly.proofs.EntriesLemmas.{sum_written, opened_there, stream_there}
use Rattle.sctp_reassembly.proofs.ForgetLemmas.{sum_removed}
use Rattle.sctp_reassembly.proofs.InterruptedLemmas.{set_in_part}
use Rattle.sctp_reassembly.proofs.WireNumberLemmas.{on_err_both, set_unless_far}
use Rattle.sctp_reassembly.proofs.stream_map.StreamMap.add.Goals as goal

pub invariant_of-self-2 : goal.invariant_of-self-2
invariant_of-self-2 g c =
    let entries = c.self.inside.streams.entries in
    let written = (c.get_mut.follows.holds c.add_to-added.new.stream).0 in
    let bytes = sum_written (λ s. bytes_of (g.S.ReassemblyStream.held s)) c.args.id.0 entries c.in-Some.stream.now c.add_to-added.new.stream c.in-Some.ensures.value in
    let least_bytes = sum_removed (λ s. bytes_of (g.S.ReassemblyStream.held s)) c.args.id.0 entries c.in-Some.stream.now c.in-Some.ensures.value in
    let fragments = sum_written (λ s. length (g.S.ReassemblyStream.held s)) c.args.id.0 entries c.in-Some.stream.now c.add_to-added.new.stream c.in-Some.ensures.value in
    let least = sum_removed (λ s. length (g.S.ReassemblyStream.held s)) c.args.id.0 entries c.in-Some.stream.now c.in-Some.ensures.value in
    record {
      bytes_are = omega (arith, ap (λ m. bytes_held g.S.ReassemblyStream.held m) written, bytes, least_bytes, c.queued_bytes-before.ensures, c.queued_bytes.ensures, c.self.invariant.bytes_are);
      fragments_are = omega (arith, ap (λ m. fragments_held g.S.ReassemblyStream.held m) written, fragments, least, c.held_fragments-fragments_before.ensures, c.held_fragments.ensures, c.self.invariant.fragments_are);
    }

pub returns-clause-bytes : goal.returns-clause-bytes
returns-clause-bytes g c =
    let entries = c.self.inside.streams.entries in
    let written = ap (λ m. bytes_held g.S.ReassemblyStream.held m) (c.get_mut.follows.holds c.add_to-added.new.stream).0 in
    let sums = sum_written (λ s. bytes_of (g.S.ReassemblyStream.held s)) c.args.id.0 entries c.in-Some.stream.now c.add_to-added.new.stream c.in-Some.ensures.value in
    let least = sum_removed (λ s. bytes_of (g.S.ReassemblyStream.held s)) c.args.id.0 entries c.in-Some.stream.now c.in-Some.ensures.value in
    omega (arith, written, sums, least, c.add_to-added.ensures.bytes, ap (bytes_held g.S.ReassemblyStream.held) c.self.view_is)

pub returns-clause-fragments : goal.returns-clause-fragments
returns-clause-fragments g c =
    let entries = c.self.inside.streams.entries in
    let written = ap (λ m. fragments_held g.S.ReassemblyStream.held m) (c.get_mut.follows.holds c.add_to-added.new.stream).0 in
    let sums = sum_written (λ s. length (g.S.ReassemblyStream.held s)) c.args.id.0 entries c.in-Some.stream.now c.add_to-added.new.stream c.in-Some.ensures.value in
    let least = sum_removed (λ s. length (g.S.ReassemblyStream.held s)) c.args.id.0 entries c.in-Some.stream.now c.in-Some.ensures.value in
    omega (arith, written, sums, least, c.add_to-added.ensures.fragments, ap (fragments_held g.S.ReassemblyStream.held) c.self.view_is)

pub returns-clause-ok : goal.returns-clause-ok
returns-clause-ok g c =
    let n : g.row.S.Denot → ℕ = λ s. nearest_of c.args.number (g.S.ReassemblyStream.reading_point s) in
    let x : g.row.S.Denot → Held = λ s. as_held (n s) c.args.index c.args.fragment in
    on_ok_weaker c.add_to-added.result
    (set_unless_far g.S.ReassemblyStream.fresh c.args.id.0 (λ s. is_far (n s)) (λ s. g.S.ReassemblyStream.after_arrival (x s) s) c.args.self.now _ c.in-Some.stream.now c.add_to-added.new.stream c.self.inside.streams.entries
    (c.get_mut.follows.holds c.add_to-added.new.stream).0 c.self.view_is c.in-Some.ensures.value)
    c.add_to-added.ensures.ok

pub returns-clause-ready : goal.returns-clause-ready
returns-clause-ready g c =
    let n : g.row.S.Denot → ℕ = λ s. nearest_of c.args.number (g.S.ReassemblyStream.reading_point s) in
    let x : g.row.S.Denot → Held = λ s. as_held (n s) c.args.index c.args.fragment in
    let at = stream_there g.S.ReassemblyStream.fresh c.args.id.0 c.self.inside.streams.entries c.args.self.now c.in-Some.stream.now c.self.view_is c.in-Some.ensures.value in
    on_ok_weaker c.add_to-added.result (λ e. e ∙ ap (λ s. c.args.ready.now ++ cond (is_far (n s)) [] (g.S.ReassemblyStream.made_ready (x s) s)) at) c.add_to-added.ensures.ready

pub returns-clause-err : goal.returns-clause-err
returns-clause-err g c =
    let n : g.row.S.Denot → ℕ = λ s. nearest_of c.args.number (g.S.ReassemblyStream.reading_point s) in
    let x : g.row.S.Denot → Held = λ s. as_held (n s) c.args.index c.args.fragment in
    let fresh = g.S.ReassemblyStream.fresh in
    let is = opened_there fresh c.args.id.0 c.self.inside.streams.entries c.args.self.now c.in-Some.stream.now c.self.view_is c.in-Some.ensures.value in
    let at = stream_there fresh c.args.id.0 c.self.inside.streams.entries c.args.self.now c.in-Some.stream.now c.self.view_is c.in-Some.ensures.value in
    on_err_weaker c.add_to-added.result
    (λ both. (
      ap (λ s. is_far (n s)) (sym at) ∙ both.0,
      set_in_part fresh c.args.id.0 c.self.inside.streams.entries c.args.self.now _ c.in-Some.stream.now c.add_to-added.new.stream (λ steps s. g.S.ReassemblyStream.arrival_in_part steps (x s) s) (λ steps s. g.S.ReassemblyStream.ready_in_part steps (x s) s) c.args.ready.now c.add_to-added.new.ready
          (c.get_mut.follows.holds c.add_to-added.new.stream).0 is at both.1,
    ))
    (on_err_both _ _ c.add_to-added.result c.add_to-added.ensures.near c.add_to-added.ensures.err)
