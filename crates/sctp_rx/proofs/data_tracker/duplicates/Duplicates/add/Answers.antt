use Rattle.sctp_rx.proofs.DuplicatesLemmas.{Ascend_kept}
use Rattle.sctp_rx.proofs.data_tracker.duplicates.Duplicates.add.Goals as goal

pub invariant_of-self : goal.invariant_of-self
invariant_of-self c =
    (Ascend_kept c.remember.result c.args.number c.self.inside.numbers.items c.remember.new.duplicates.items c.remember.ensures.ok c.remember.ensures.err c.self.invariant.0, c.remember.ensures.few c.self.invariant.1)
