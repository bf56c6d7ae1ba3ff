use Rattle.std.proofs.Common.{refl}
use Rattle.sctp_tx_outstanding.proofs.LossesLemmas.{nack_next_items, nack_next_emitted, nack_next_lossy}
use Rattle.sctp_tx_outstanding.proofs.outstanding_data.OutstandingData.nack_below.Goals as goal

pub loop-place-preserved : goal.loop-place-preserved
loop-place-preserved c = record {
  items =
      nack_next_items c.args.indication c.args.fast c.loop-place.place c.args.self.now.items c.args.events.now c.loop-place.self c.loop-place.events c.args.self.now
      c.loop-place.invariant.items c.loop-place.invariant.emitted c.nack_item.new.self c.in_ok-is_lost.ensures.items;
  emitted =
      nack_next_emitted c.args.indication c.args.fast c.loop-place.place c.args.self.now.items c.args.events.now c.loop-place.self c.loop-place.events c.args.self.now
      c.loop-place.invariant.items c.loop-place.invariant.emitted c.nack_item.new.events c.in_ok-is_lost.ensures.emitted;
  lossy =
      nack_next_lossy c.args.indication c.args.fast c.loop-place.place c.args.self.now.items c.args.events.now c.loop-place.self c.loop-place.events c.args.self.now
      c.loop-place.invariant.items c.loop-place.invariant.emitted c.loop-place.is_lossy c.in_ok-is_lost.is_lost _ c.loop-place.invariant.lossy c.in_ok-is_lost.ensures.lossy refl;
}
