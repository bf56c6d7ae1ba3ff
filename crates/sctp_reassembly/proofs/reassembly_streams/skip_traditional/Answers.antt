use Rattle.std.proofs.Common.{suc, ◌++◌, refl, ap, sym, ◌∙◌, false}
use Rattle.std.proofs.lemmas.Result.{on_ok_weaker, on_err_weaker}
use Rattle.sctp_serial.specs.Unwrapped.{halves, nearest}
use Rattle.sctp_reassembly.specs.Delivery.{fresh_ordered}
use Rattle.sctp_reassembly.specs.ReassemblyStreams.{Streams, stream_at, skip}
use Rattle.sctp_reassembly.specs.InterruptedStreams.{ordered_forward_in_part, skip_in_part}
use Rattle.sctp_reassembly.proofs.SkipLemmas.{skipped_ordered, told_skipped}
use Rattle.sctp_reassembly.proofs.StandsLemmas.{stands_ordered, forwards}
use Rattle.sctp_reassembly.proofs.reassembly_streams.skip_traditional.Goals as goal

pub returns-clause-ok : goal.returns-clause-ok
returns-clause-ok c =
    let ss : Streams = record { is_interleaved = false; ordered = c.args.ordered.now; unordered = c.args.unordered.now } in
    let n = nearest halves 0 (stream_at fresh_ordered c.in-ForwardTsn.id.0 c.args.ordered.now).next c.in-ForwardTsn.ssn.0 in
    on_ok_weaker c.forward.result
    (λ e. skipped_ordered false c.args.ordered.now c.args.unordered.now c.in-ForwardTsn.id.0 n c.forward.new.self e ∙ ap (λ t. (skip t ss).streams) (sym c.in-ForwardTsn.is))
    c.forward.ensures.ok

pub returns-clause-ready : goal.returns-clause-ready
returns-clause-ready c =
    let ss : Streams = record { is_interleaved = false; ordered = c.args.ordered.now; unordered = c.args.unordered.now } in
    let n = nearest halves 0 (stream_at fresh_ordered c.in-ForwardTsn.id.0 c.args.ordered.now).next c.in-ForwardTsn.ssn.0 in
    on_ok_weaker c.forward.result
    (λ e. told_skipped false c.args.ordered.now c.args.unordered.now c.in-ForwardTsn.id.0 n c.args.ready.now c.forward.new.ready e ∙ ap (λ t. c.args.ready.now ++ (skip t ss).messages) (sym c.in-ForwardTsn.is))
    c.forward.ensures.ready

pub returns-clause-err : goal.returns-clause-err
returns-clause-err c =
    let ss : Streams = record { is_interleaved = false; ordered = c.args.ordered.now; unordered = c.args.unordered.now } in
    let n = nearest halves 0 (stream_at fresh_ordered c.in-ForwardTsn.id.0 c.args.ordered.now).next c.in-ForwardTsn.ssn.0 in
    on_err_weaker c.forward.result
    (λ both. stands_ordered ss (λ steps. skip_in_part steps c.args.entry ss) c.in-ForwardTsn.id.0 (λ steps. ordered_forward_in_part steps n (stream_at fresh_ordered c.in-ForwardTsn.id.0 c.args.ordered.now)) c.forward.new.self c.args.ready.now c.forward.new.ready
    refl
    (λ steps. ap (λ t. skip_in_part (suc steps) t ss) (c.in-ForwardTsn.is) ∙ forwards ss c.in-ForwardTsn.id.0 n steps both.0)
    both.1)
    c.forward.ensures.err
