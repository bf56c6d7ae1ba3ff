use Rattle.std.proofs.Common.{ℕ, [], ◌++◌, cond, ap, sym, ◌∙◌, arith, length}
use Rattle.std.proofs.lemmas.Result.{on_ok_weaker, on_err_weaker}
use Rattle.sctp_fragments.specs.Held.{bytes_of}
use Rattle.sctp_reassembly.specs.ReassemblyStreams.{bytes_held, fragments_held, is_far}
use Rattle.sctp_reassembly.specs.WireNumber.{nearest_of}
use Rattle.sctp_reassembly.proofs.EntriesLemmas.{sum_written, opened_there, stream_there}
use Rattle.sctp_reassembly.proofs.ForgetLemmas.{sum_removed}
use Rattle.sctp_reassembly.proofs.InterruptedLemmas.{set_in_part}
use Rattle.sctp_reassembly.proofs.WireNumberLemmas.{on_err_both, set_unless_far}
use Rattle.sctp_reassembly.proofs.stream_map.StreamMap.forward.Goals as goal

pub invariant_of-self-2 : goal.invariant_of-self-2
invariant_of-self-2 g c =
    let entries = c.self.inside.streams.entries in
    let written = (c.get_mut.follows.holds c.forward_behind-forwarded.new.stream).0 in
    let bytes = sum_written (λ s. bytes_of (g.S.ReassemblyStream.held s)) c.args.id.0 entries c.in-Some.stream.now c.forward_behind-forwarded.new.stream c.in-Some.ensures.value in
    let least_bytes = sum_removed (λ s. bytes_of (g.S.ReassemblyStream.held s)) c.args.id.0 entries c.in-Some.stream.now c.in-Some.ensures.value in
    let fragments = sum_written (λ s. length (g.S.ReassemblyStream.held s)) c.args.id.0 entries c.in-Some.stream.now c.forward_behind-forwarded.new.stream c.in-Some.ensures.value in
    let least = sum_removed (λ s. length (g.S.ReassemblyStream.held s)) c.args.id.0 entries c.in-Some.stream.now c.in-Some.ensures.value in
    record {
      bytes_are = omega (arith, ap (λ m. bytes_held g.S.ReassemblyStream.held m) written, bytes, least_bytes, c.queued_bytes-before.ensures, c.queued_bytes.ensures, c.self.invariant.bytes_are);
      fragments_are = omega (arith, ap (λ m. fragments_held g.S.ReassemblyStream.held m) written, fragments, least, c.held_fragments-fragments_before.ensures, c.held_fragments.ensures, c.self.invariant.fragments_are);
    }

pub returns-clause-bytes : goal.returns-clause-bytes
returns-clause-bytes g c =
    let entries = c.self.inside.streams.entries in
    let written = ap (λ m. bytes_held g.S.ReassemblyStream.held m) (c.get_mut.follows.holds c.forward_behind-forwarded.new.stream).0 in
    let sums = sum_written (λ s. bytes_of (g.S.ReassemblyStream.held s)) c.args.id.0 entries c.in-Some.stream.now c.forward_behind-forwarded.new.stream c.in-Some.ensures.value in
    let least = sum_removed (λ s. bytes_of (g.S.ReassemblyStream.held s)) c.args.id.0 entries c.in-Some.stream.now c.in-Some.ensures.value in
    omega (arith, written, sums, least, c.forward_behind-forwarded.ensures.bytes, ap (bytes_held g.S.ReassemblyStream.held) c.self.view_is)

pub returns-clause-fragments : goal.returns-clause-fragments
returns-clause-fragments g c =
    let entries = c.self.inside.streams.entries in
    let written = ap (λ m. fragments_held g.S.ReassemblyStream.held m) (c.get_mut.follows.holds c.forward_behind-forwarded.new.stream).0 in
    let sums = sum_written (λ s. length (g.S.ReassemblyStream.held s)) c.args.id.0 entries c.in-Some.stream.now c.forward_behind-forwarded.new.stream c.in-Some.ensures.value in
    let least = sum_removed (λ s. length (g.S.ReassemblyStream.held s)) c.args.id.0 entries c.in-Some.stream.now c.in-Some.ensures.value in
    omega (arith, written, sums, least, c.forward_behind-forwarded.ensures.fragments, ap (fragments_held g.S.ReassemblyStream.held) c.self.view_is)

pub returns-clause-ok : goal.returns-clause-ok
returns-clause-ok g c =
    let n : g.row.S.Denot → ℕ = λ s. nearest_of c.args.number (g.S.ReassemblyStream.reading_point s) in
    on_ok_weaker c.forward_behind-forwarded.result
    (set_unless_far g.S.ReassemblyStream.fresh c.args.id.0 (λ s. is_far (n s)) (λ s. g.S.ReassemblyStream.after_forward (n s) s) c.args.self.now _ c.in-Some.stream.now c.forward_behind-forwarded.new.stream c.self.inside.streams.entries
    (c.get_mut.follows.holds c.forward_behind-forwarded.new.stream).0 c.self.view_is c.in-Some.ensures.value)
    c.forward_behind-forwarded.ensures.ok

pub returns-clause-ready : goal.returns-clause-ready
returns-clause-ready g c =
    let n : g.row.S.Denot → ℕ = λ s. nearest_of c.args.number (g.S.ReassemblyStream.reading_point s) in
    let at = stream_there g.S.ReassemblyStream.fresh c.args.id.0 c.self.inside.streams.entries c.args.self.now c.in-Some.stream.now c.self.view_is c.in-Some.ensures.value in
    on_ok_weaker c.forward_behind-forwarded.result (λ e. e ∙ ap (λ s. c.args.ready.now ++ cond (is_far (n s)) [] (g.S.ReassemblyStream.forwarded (n s) s)) at) c.forward_behind-forwarded.ensures.ready

pub returns-clause-err : goal.returns-clause-err
returns-clause-err g c =
    let n : g.row.S.Denot → ℕ = λ s. nearest_of c.args.number (g.S.ReassemblyStream.reading_point s) in
    let fresh = g.S.ReassemblyStream.fresh in
    let is = opened_there fresh c.args.id.0 c.self.inside.streams.entries c.args.self.now c.in-Some.stream.now c.self.view_is c.in-Some.ensures.value in
    let at = stream_there fresh c.args.id.0 c.self.inside.streams.entries c.args.self.now c.in-Some.stream.now c.self.view_is c.in-Some.ensures.value in
    on_err_weaker c.forward_behind-forwarded.result
    (λ both. (
      ap (λ s. is_far (n s)) (sym at) ∙ both.0,
      set_in_part fresh c.args.id.0 c.self.inside.streams.entries c.args.self.now _ c.in-Some.stream.now c.forward_behind-forwarded.new.stream (λ steps s. g.S.ReassemblyStream.forward_in_part steps (n s) s) (λ steps s. g.S.ReassemblyStream.forwarded_in_part steps (n s) s) c.args.ready.now c.forward_behind-forwarded.new.ready
          (c.get_mut.follows.holds c.forward_behind-forwarded.new.stream).0 is at both.1,
    ))
    (on_err_both _ _ c.forward_behind-forwarded.result c.forward_behind-forwarded.ensures.near c.forward_behind-forwarded.ensures.err)
