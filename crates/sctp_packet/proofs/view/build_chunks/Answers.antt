use Rattle.std.proofs.Common.{List, ℕ, map, subst, arith}
use Rattle.std.proofs.lemmas.List.{map-append}
use Rattle.std.proofs.lemmas.Result.{err_from_is_err_and}
use Rattle.sctp_wire.specs.Item.{ParsesAll}
use Rattle.sctp_wire.proofs.ParsesAllLemmas.{ParsesAll_push, takes_four}
use Rattle.sctp_chunk.specs.Grammar.{IsChunk}
use Rattle.sctp_chunk.specs.Views.{raw_chunk}
use Rattle.sctp_control_chunk.specs.ChunkView.{chunk_tree}
use Rattle.sctp_packet.proofs.view.build_chunks.Goals as goal
use Rattle.sctp_packet.proofs.LawLemmas.{not_refused}

pub loop-raw-smaller : goal.loop-raw-smaller
loop-raw-smaller c = omega (arith, takes_four c.loop-raw.view.rest (raw_chunk c.in-Some.raw) c.next_chunk.new.self.rest c.in-Some.ensures.taken)

pub loop-raw-preserved : goal.loop-raw-preserved
loop-raw-preserved c =
    rw (c.in_ok-push.ensures.items, map-append) (ParsesAll_push IsChunk c.args.view.rest (map chunk_tree c.loop-raw.chunks.items) c.loop-raw.view.rest (raw_chunk c.in-Some.raw)
    (chunk_tree c.in_ok-try_from.field-0) c.next_chunk.new.self.rest c.loop-raw.invariant c.in-Some.ensures.taken c.in_ok-try_from.ensures.ok)

pub returns-in_err-try_from-clause-refused : goal.returns-in_err-try_from-clause-refused
returns-in_err-try_from-clause-refused c =
    let p = err_from_is_err_and c.from_residual.result c.from_residual.ensures.1 in
    rw (p.1, p.2) (not_refused (raw_chunk c.in-Some.raw) c.in-Some.ensures.chunk.0 c.in_err-try_from.field-0.0 c.in-Some.ensures.chunk.1 c.in_err-try_from.ensures.refused)

pub returns-clause-ok : goal.returns-clause-ok
returns-clause-ok c =
    subst (λ (b : List ℕ). ParsesAll IsChunk c.args.view.rest (map chunk_tree c.loop-raw.chunks.items) b) c.in_default.ensures.ended c.loop-raw.invariant
