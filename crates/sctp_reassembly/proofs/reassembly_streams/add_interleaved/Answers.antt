use Rattle.std.proofs.Common.{◌≡◌, ℕ, refl, ap, true}
use Rattle.std.proofs.lemmas.Result.{on_ok_weaker, on_err_weaker}
use Rattle.sctp_fragments.specs.Held.{Held}
use Rattle.sctp_chunk.specs.Views.{fragment_tree, is_unordered_key}
use Rattle.sctp_chunk.specs.Written.{key_stream}
use Rattle.sctp_reassembly.specs.Delivery.{fresh_ordered, fresh_unordered}
use Rattle.sctp_reassembly.specs.ReassemblyStreams.{Streams, stream_at, held_as, ordered_number, unordered_number}
use Rattle.sctp_reassembly.specs.InterruptedStreams.{ordered_arrival_in_part, unordered_arrival_in_part, add_in_part}
use Rattle.sctp_reassembly.proofs.SkipLemmas.{added_ordered, told_ordered, added_unordered, told_unordered}
use Rattle.sctp_reassembly.proofs.StandsLemmas.{stands_ordered, stands_unordered, arrives_ordered, arrives_unordered}
use Rattle.sctp_reassembly.proofs.reassembly_streams.add_interleaved.Goals as goal

pub returns-in-Unordered-clause-ok : goal.returns-in-Unordered-clause-ok
returns-in-Unordered-clause-ok c =
    let f = fragment_tree c.args.fragment in
    on_ok_weaker c.add.result (added_unordered true c.args.ordered.now c.args.unordered.now c.args.tsn c.in-Unordered.id.0 c.place_of-index.result f (ap key_stream c.in-Unordered.is) (c.place_of-index.ensures c.args.tsn) (ap is_unordered_key c.in-Unordered.is) c.add.new.self) c.add.ensures.ok

pub returns-in-Unordered-clause-ready : goal.returns-in-Unordered-clause-ready
returns-in-Unordered-clause-ready c =
    let f = fragment_tree c.args.fragment in
    on_ok_weaker c.add.result (told_unordered true c.args.ordered.now c.args.unordered.now c.args.tsn c.in-Unordered.id.0 c.place_of-index.result f (ap key_stream c.in-Unordered.is) (c.place_of-index.ensures c.args.tsn) (ap is_unordered_key c.in-Unordered.is) c.args.ready.now c.add.new.ready) c.add.ensures.ready

pub returns-in-Unordered-clause-err : goal.returns-in-Unordered-clause-err
returns-in-Unordered-clause-err c =
    let f = fragment_tree c.args.fragment in
    let ss : Streams = record { is_interleaved = true; ordered = c.args.ordered.now; unordered = c.args.unordered.now } in
    let n = unordered_number true f (stream_at fresh_unordered c.in-Unordered.id.0 c.args.unordered.now) in
    let x : Held = record { number = n; index = c.place_of-index.result; fragment = f } in
    let is : x ≡ held_as true n c.args.tsn f = ap (λ (k : ℕ). let h : Held = record { number = n; index = k; fragment = f } in h) (c.place_of-index.ensures c.args.tsn) in
    on_err_weaker c.add.result
    (λ both. stands_unordered ss (λ steps. add_in_part steps c.args.tsn f ss) c.in-Unordered.id.0 (λ steps. unordered_arrival_in_part steps x (stream_at fresh_unordered c.in-Unordered.id.0 c.args.unordered.now)) c.add.new.self c.args.ready.now c.add.new.ready
    refl
    (λ steps. arrives_unordered ss c.args.tsn c.in-Unordered.id.0 f x (ap key_stream c.in-Unordered.is) steps (ap is_unordered_key c.in-Unordered.is) both.0 is)
    both.1)
    c.add.ensures.err

pub returns-in-Ordered-clause-ok : goal.returns-in-Ordered-clause-ok
returns-in-Ordered-clause-ok c =
    let f = fragment_tree c.args.fragment in
    on_ok_weaker c.add-in-Ordered.result (added_ordered true c.args.ordered.now c.args.unordered.now c.args.tsn c.in-Ordered.id.0 c.place_of-index.result f (ap key_stream c.in-Ordered.is) (c.place_of-index.ensures c.args.tsn) (ap is_unordered_key c.in-Ordered.is) c.add-in-Ordered.new.self) c.add-in-Ordered.ensures.ok

pub returns-in-Ordered-clause-ready : goal.returns-in-Ordered-clause-ready
returns-in-Ordered-clause-ready c =
    let f = fragment_tree c.args.fragment in
    on_ok_weaker c.add-in-Ordered.result (told_ordered true c.args.ordered.now c.args.unordered.now c.args.tsn c.in-Ordered.id.0 c.place_of-index.result f (ap key_stream c.in-Ordered.is) (c.place_of-index.ensures c.args.tsn) (ap is_unordered_key c.in-Ordered.is) c.args.ready.now c.add-in-Ordered.new.ready) c.add-in-Ordered.ensures.ready

pub returns-in-Ordered-clause-err : goal.returns-in-Ordered-clause-err
returns-in-Ordered-clause-err c =
    let f = fragment_tree c.args.fragment in
    let ss : Streams = record { is_interleaved = true; ordered = c.args.ordered.now; unordered = c.args.unordered.now } in
    let n = ordered_number true f (stream_at fresh_ordered c.in-Ordered.id.0 c.args.ordered.now) in
    let x : Held = record { number = n; index = c.place_of-index.result; fragment = f } in
    let is : x ≡ held_as true n c.args.tsn f = ap (λ (k : ℕ). let h : Held = record { number = n; index = k; fragment = f } in h) (c.place_of-index.ensures c.args.tsn) in
    on_err_weaker c.add-in-Ordered.result
    (λ both. stands_ordered ss (λ steps. add_in_part steps c.args.tsn f ss) c.in-Ordered.id.0 (λ steps. ordered_arrival_in_part steps x (stream_at fresh_ordered c.in-Ordered.id.0 c.args.ordered.now)) c.add-in-Ordered.new.self c.args.ready.now c.add-in-Ordered.new.ready
    refl
    (λ steps. arrives_ordered ss c.args.tsn c.in-Ordered.id.0 f x (ap key_stream c.in-Ordered.is) steps (ap is_unordered_key c.in-Ordered.is) both.0 is)
    both.1)
    c.add-in-Ordered.ensures.err
