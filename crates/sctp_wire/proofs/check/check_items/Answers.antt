use Rattle.std.proofs.Common.{[], ◌∷◌, ◌++◌}
use Rattle.sctp_wire.specs.Views.{raw_item}
use Rattle.sctp_wire.proofs.ParsesAllLemmas.{ParsesAll_push}
use Rattle.sctp_wire.proofs.check.check_items.Goals as goal

pub loop-rest-preserved : goal.loop-rest-preserved
loop-rest-preserved g c =
    let before = c.loop-rest.invariant in
    let this = c.in_ok-check_item.ensures.ok in (
      before.0 ++ this.0 ∷ [],
      ParsesAll_push g.T.CheckItem.stands_for c.args.bytes.now before.0 c.loop-rest.rest.now (raw_item c.in_ok-item.item) this.0 c.in_ok-item.after.now
          before.1 c.in_ok-item.ensures.item this.1,
    )
