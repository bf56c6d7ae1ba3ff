use Rattle.std.proofs.Common.{◌≡◌, ◌≤◌, ap, ◌∙◌, arith}
use Rattle.sctp_state.specs.Handover.{receive_of}
use Rattle.sctp_reassembly.specs.ReassemblyMode.{streams_of}
use Rattle.sctp_reassembly.specs.ReassemblyStreams.{AreWithin, held_bytes, fragments_of}
use Rattle.sctp_reassembly.proofs.RestoredLemmas.{no_bytes_restored, no_fragments_restored}
use Rattle.sctp_reassembly.proofs.reassembly_streams.ReassemblyStreams.restore_from_state.Goals as goal

pub invariant_of-self : goal.invariant_of-self
invariant_of-self c =
    let is = ap streams_of c.replace.ensures.after ∙ c.in_ok-mode.ensures in
    let none : held_bytes (streams_of c.replace.new.dest) ≡ 0 = ap held_bytes is ∙ no_bytes_restored (receive_of c.args.state.now.rx) c.args.self.now in
    let no_fragments : fragments_of (streams_of c.replace.new.dest) ≡ 0 = ap fragments_of is ∙ no_fragments_restored (receive_of c.args.state.now.rx) c.args.self.now in
    let within : AreWithin (streams_of c.replace.new.dest) = record { bytes = omega (arith, none); fragments = omega (arith, no_fragments) } in
    within

pub returns-clause-bytes : goal.returns-clause-bytes
returns-clause-bytes c =
    let none : held_bytes (streams_of c.replace.new.dest) ≡ 0 = ap held_bytes (ap streams_of c.replace.ensures.after ∙ c.in_ok-mode.ensures) ∙ no_bytes_restored (receive_of c.args.state.now.rx) c.args.self.now in
    let fewer : held_bytes (streams_of c.replace.new.dest) ≤ held_bytes c.args.self.now = omega (arith, none) in
    fewer

pub returns-clause-fragments : goal.returns-clause-fragments
returns-clause-fragments c =
    let none : fragments_of (streams_of c.replace.new.dest) ≡ 0 = ap fragments_of (ap streams_of c.replace.ensures.after ∙ c.in_ok-mode.ensures) ∙ no_fragments_restored (receive_of c.args.state.now.rx) c.args.self.now in
    let fewer : fragments_of (streams_of c.replace.new.dest) ≤ fragments_of c.args.self.now = omega (arith, none) in
    fewer
