use Rattle.std.proofs.Common.{rules, ◌≡◌, true, ◌∷◌, subst}
use Rattle.sctp_reassembly.proofs.NoteLemmas.{NotedOrLeft, noted_next}
use Rattle.sctp_reassembly.proofs.unordered_by_tsn.make_notes.Goals as goal

pub loop-id-preserved : goal.loop-id-preserved
loop-id-preserved c =
    let made : c.make_note.result ≡ true = search rules in
    let stream = c.in-Some.stream.now in
    let next : c.loop-id.id-iterator ≡ (c.in-Some.id.now, stream) ∷ c.next.new.self = search rules in
    noted_next (c.in-Some.id.now, stream) c.next.new.self c.loop-id.notes.entries c.make_note.new.notes.entries c.args.streams.now.entries (c.make_note.ensures.kept made)
    (c.make_note.ensures.made made stream.held c.first.ensures.some c.first.ensures.none) (subst (λ left. NotedOrLeft left c.loop-id.notes.entries c.args.streams.now.entries) next c.loop-id.invariant)
