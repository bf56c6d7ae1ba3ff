use Rattle.std.proofs.Common.{rules, ◌≡◌, true, sym, subst}
use Rattle.sctp_reassembly.specs.Delivery.{fresh_unordered}
use Rattle.sctp_reassembly.specs.ReassemblyStreams.{stream_at}
use Rattle.sctp_reassembly.specs.UnorderedByTsn.{KeepsOthers}
use Rattle.sctp_reassembly.proofs.NoteLemmas.{renewed}
use Rattle.sctp_reassembly.proofs.unordered_by_tsn.renew_note.Goals.{then-ne, else-ne}
use Rattle.sctp_reassembly.proofs.unordered_by_tsn.renew_note.Goals as goal

pub returns : goal.returns
returns c made =
    let noted : c.args.is_noted ≡ true = search rules in
    let note = c.make_note.ensures.made made (stream_at fresh_unordered c.args.id.0 c.args.streams.now).held c.first-now.ensures.some c.first-now.ensures.none in
    let out : KeepsOthers c.args.id.0 c.args.notes.now.entries c.if-ne.notes.entries =
    elim c.if-ne.branch [
      | then-ne w ↦ subst (λ notes. KeepsOthers c.args.id.0 c.args.notes.now.entries notes.entries) (sym w.notes-is) w.take_note.ensures
      | else-ne w ↦ subst (λ notes. KeepsOthers c.args.id.0 c.args.notes.now.entries notes.entries) (sym w.notes-is) (λ n other there. there)
    ] in
    (noted, λ others. renewed c.args.id.0 c.args.notes.now.entries c.if-ne.notes.entries c.make_note.new.notes.entries c.args.streams.now out (c.make_note.ensures.kept made) note others)
