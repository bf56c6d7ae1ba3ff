use Rattle.sctp_wire.specs.Views.{raw_item}
use Rattle.sctp_wire.proofs.ParsesAllLemmas.{ParsesAll_push}
use Rattle.sctp_wire.proofs.read.items_from_bytes.Goals as goal

pub loop-rest-preserved : goal.loop-rest-preserved
loop-rest-preserved g c =
    rw (c.in_ok-push.ensures.items) (ParsesAll_push g.T.FromItem.stands_for c.args.bytes.now c.loop-rest.values.items c.loop-rest.rest.now
    (raw_item c.in_ok-item.item) c.in_ok-from_item.field-0 c.in_ok-item.after.now
    c.loop-rest.invariant c.in_ok-item.ensures.item c.in_ok-from_item.ensures.ok)
