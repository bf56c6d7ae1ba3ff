use Rattle.std.proofs.Common.{List, subst, sym, ◌∙◌}
use Rattle.sctp_tx_outstanding.specs.declared.skips.Touched.{Touched}
use Rattle.sctp_tx_outstanding.specs.Point.{Ascend}
use Rattle.sctp_tx_outstanding.specs.Touched.{entries_in}
use Rattle.sctp_tx_outstanding.specs.Passed.{ArePassed}
use Rattle.sctp_tx_outstanding.proofs.PassedLemmas.{passed_kept}
use Rattle.sctp_tx_outstanding.proofs.TouchedLemmas.{kept_ascends}
use Rattle.sctp_tx_outstanding.proofs.passed.Passed.tidy.Goals as goal

pub chunk_size_with-size-requires : goal.chunk_size_with-size-requires
chunk_size_with-size-requires c =
    let old = c.args.self.now in
    subst (λ (ts : List Touched). Ascend (entries_in ts)) (sym c.forget_left.ensures ∙ sym c.deref.ensures.value) (kept_ascends old.left old.touched.items c.requires.ascends)

pub returns-then-self-end : goal.returns-then-self-end
returns-then-self-end c = c.forget.ensures c.args.is_interleaved c.args.items.now.items

pub returns-else-size-most : goal.returns-else-size-most
returns-else-size-most c =
    let old = c.args.self.now in
    subst (λ (ts : List Touched). ArePassed c.args.is_interleaved c.args.items.now.items old.count old.left ts) (sym c.forget_left.ensures)
    (passed_kept c.args.is_interleaved c.args.items.now.items old.count old.left old.touched.items c.requires)
