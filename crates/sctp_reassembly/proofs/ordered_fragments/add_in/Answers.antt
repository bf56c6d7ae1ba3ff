use Rattle.std.proofs.Common.{refl, sym, ◌∙◌, rules}
use Rattle.sctp_fragments.specs.Interval.{as_held}
use Rattle.sctp_reassembly.proofs.DeliverLemmas.{none_turned}
use Rattle.sctp_reassembly.proofs.FinishedLemmas.{number_decides}
use Rattle.sctp_reassembly.proofs.HolderLemmas.{some_then, none_then}
use Rattle.sctp_reassembly.proofs.ordered_fragments.add_in.Goals as goal

pub returns-clause-none : goal.returns-clause-none
returns-clause-none g c no_turn none =
    none_turned c.args.list.now c.add.new.self (as_held (g.K.ReassemblyKey.number c.args.key) (g.K.ReassemblyKey.index c.args.key) c.args.fragment) c.args.next (c.in_ok-add.ensures.place (search rules)) (λ front back r runs held. sym no_turn ∙ number_decides g.K.ReassemblyKey.number g.K.ReassemblyKey.index c.args.next r c.note_in-first.result c.is_message.result c.is_message.ensures.some c.is_message.ensures.none (some_then c.note_in-first.result (λ k told. told front back r runs held) c.note_in-first.ensures.number) (none_then c.note_in-first.result (λ told. told front back r runs held) c.note_in-first.ensures.none)) none

pub returns-clause-noted : goal.returns-clause-noted
returns-clause-noted g c m none =
    c.note_in-first.ensures.noted m c.args.list.now (as_held (g.K.ReassemblyKey.number c.args.key) (g.K.ReassemblyKey.index c.args.key) c.args.fragment) (c.in_ok-add.ensures.place (search rules)) refl none
