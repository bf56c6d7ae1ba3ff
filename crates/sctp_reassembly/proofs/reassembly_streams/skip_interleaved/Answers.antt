use Rattle.std.proofs.Common.{suc, [], ◌++◌, refl, ap, sym, ◌∙◌, true}
use Rattle.std.proofs.lemmas.Result.{on_ok_weaker, on_err_weaker}
use Rattle.sctp_serial.specs.Unwrapped.{u32_space, nearest}
use Rattle.sctp_chunk.specs.declared.forward_tsn.SkippedStream.TheVariants.{IForwardTsn}
use Rattle.sctp_reassembly.specs.Delivery.{UnorderedDelivery, fresh_ordered, fresh_unordered, unordered_forward}
use Rattle.sctp_reassembly.specs.ReassemblyStreams.{Streams, stream_at, skip}
use Rattle.sctp_reassembly.specs.InterruptedStreams.{ordered_forward_in_part, skip_in_part}
use Rattle.sctp_reassembly.proofs.SkipLemmas.{skipped_ordered, told_skipped, skipped_unordered, told_silently}
use Rattle.sctp_reassembly.proofs.StandsLemmas.{stands_ordered, stands_unordered, forwards, forwards_unordered}
use Rattle.sctp_reassembly.proofs.reassembly_streams.skip_interleaved.Goals as goal

pub returns-in-Unordered-clause-ok : goal.returns-in-Unordered-clause-ok
returns-in-Unordered-clause-ok c =
    let ss : Streams = record { is_interleaved = true; ordered = c.args.ordered.now; unordered = c.args.unordered.now } in
    let n = nearest u32_space 0 (stream_at fresh_unordered c.in-Unordered.id.0 c.args.unordered.now).near c.in-IForwardTsn.mid.0 in
    on_ok_weaker c.forward.result
    (λ e. skipped_unordered true c.args.ordered.now c.args.unordered.now c.in-Unordered.id.0 n c.forward.new.self e ∙ (ap (λ k. (skip (IForwardTsn k c.in-IForwardTsn.mid) ss).streams) (sym c.in-Unordered.is) ∙ ap (λ t. (skip t ss).streams) (sym c.in-IForwardTsn.is)))
    c.forward.ensures.ok

pub returns-in-Unordered-clause-ready : goal.returns-in-Unordered-clause-ready
returns-in-Unordered-clause-ready c =
    let ss : Streams = record { is_interleaved = true; ordered = c.args.ordered.now; unordered = c.args.unordered.now } in
    let n = nearest u32_space 0 (stream_at fresh_unordered c.in-Unordered.id.0 c.args.unordered.now).near c.in-IForwardTsn.mid.0 in
    on_ok_weaker c.forward.result
    (λ e. told_silently true c.args.ordered.now c.args.unordered.now c.in-Unordered.id.0 n c.args.ready.now c.forward.new.ready e ∙ (ap (λ k. c.args.ready.now ++ (skip (IForwardTsn k c.in-IForwardTsn.mid) ss).messages) (sym c.in-Unordered.is) ∙ ap (λ t. c.args.ready.now ++ (skip t ss).messages) (sym c.in-IForwardTsn.is)))
    c.forward.ensures.ready

pub returns-in-Unordered-clause-err : goal.returns-in-Unordered-clause-err
returns-in-Unordered-clause-err c =
    let ss : Streams = record { is_interleaved = true; ordered = c.args.ordered.now; unordered = c.args.unordered.now } in
    let n = nearest u32_space 0 (stream_at fresh_unordered c.in-Unordered.id.0 c.args.unordered.now).near c.in-IForwardTsn.mid.0 in
    let d : UnorderedDelivery = record { stream = unordered_forward n (stream_at fresh_unordered c.in-Unordered.id.0 c.args.unordered.now); messages = [] } in
    on_err_weaker c.forward.result
    (λ both. stands_unordered ss (λ steps. skip_in_part steps c.args.entry ss) c.in-Unordered.id.0 (λ steps. d) c.forward.new.self c.args.ready.now c.forward.new.ready
    refl
    (λ steps. (ap (λ t. skip_in_part (suc steps) t ss) (c.in-IForwardTsn.is) ∙ ap (λ k. skip_in_part (suc steps) (IForwardTsn k c.in-IForwardTsn.mid) ss) (c.in-Unordered.is)) ∙ forwards_unordered ss c.in-Unordered.id.0 n both.0)
    both.1)
    c.forward.ensures.err

pub returns-in-Ordered-clause-ok : goal.returns-in-Ordered-clause-ok
returns-in-Ordered-clause-ok c =
    let ss : Streams = record { is_interleaved = true; ordered = c.args.ordered.now; unordered = c.args.unordered.now } in
    let n = nearest u32_space 0 (stream_at fresh_ordered c.in-Ordered.id.0 c.args.ordered.now).next c.in-IForwardTsn.mid.0 in
    on_ok_weaker c.forward-in-Ordered.result
    (λ e. skipped_ordered true c.args.ordered.now c.args.unordered.now c.in-Ordered.id.0 n c.forward-in-Ordered.new.self e ∙ (ap (λ k. (skip (IForwardTsn k c.in-IForwardTsn.mid) ss).streams) (sym c.in-Ordered.is) ∙ ap (λ t. (skip t ss).streams) (sym c.in-IForwardTsn.is)))
    c.forward-in-Ordered.ensures.ok

pub returns-in-Ordered-clause-ready : goal.returns-in-Ordered-clause-ready
returns-in-Ordered-clause-ready c =
    let ss : Streams = record { is_interleaved = true; ordered = c.args.ordered.now; unordered = c.args.unordered.now } in
    let n = nearest u32_space 0 (stream_at fresh_ordered c.in-Ordered.id.0 c.args.ordered.now).next c.in-IForwardTsn.mid.0 in
    on_ok_weaker c.forward-in-Ordered.result
    (λ e. told_skipped true c.args.ordered.now c.args.unordered.now c.in-Ordered.id.0 n c.args.ready.now c.forward-in-Ordered.new.ready e ∙ (ap (λ k. c.args.ready.now ++ (skip (IForwardTsn k c.in-IForwardTsn.mid) ss).messages) (sym c.in-Ordered.is) ∙ ap (λ t. c.args.ready.now ++ (skip t ss).messages) (sym c.in-IForwardTsn.is)))
    c.forward-in-Ordered.ensures.ready

pub returns-in-Ordered-clause-err : goal.returns-in-Ordered-clause-err
returns-in-Ordered-clause-err c =
    let ss : Streams = record { is_interleaved = true; ordered = c.args.ordered.now; unordered = c.args.unordered.now } in
    let n = nearest u32_space 0 (stream_at fresh_ordered c.in-Ordered.id.0 c.args.ordered.now).next c.in-IForwardTsn.mid.0 in
    on_err_weaker c.forward-in-Ordered.result
    (λ both. stands_ordered ss (λ steps. skip_in_part steps c.args.entry ss) c.in-Ordered.id.0 (λ steps. ordered_forward_in_part steps n (stream_at fresh_ordered c.in-Ordered.id.0 c.args.ordered.now)) c.forward-in-Ordered.new.self c.args.ready.now c.forward-in-Ordered.new.ready
    refl
    (λ steps. (ap (λ t. skip_in_part (suc steps) t ss) (c.in-IForwardTsn.is) ∙ ap (λ k. skip_in_part (suc steps) (IForwardTsn k c.in-IForwardTsn.mid) ss) (c.in-Ordered.is)) ∙ forwards ss c.in-Ordered.id.0 n steps both.0)
    both.1)
    c.forward-in-Ordered.ensures.err
