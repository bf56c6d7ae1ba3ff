use Rattle.std.proofs.Common.{◌≡◌, refl, false}
use Rattle.sctp_tx_outstanding.specs.Flights.{flies_at}
use Rattle.sctp_tx_outstanding.proofs.FlightsLemmas.{still_items, still_emitted, still_lossy}
use Rattle.sctp_tx_outstanding.proofs.outstanding_data.OutstandingData.nack_item.Goals as goal

pub returns-in_default-clause-items : goal.returns-in_default-clause-items
returns-in_default-clause-items c =
    let quiet : flies_at c.args.place c.args.self.now.items.kept ≡ false = c.in_default.ensures.none in
    still_items c.args.indication c.args.fast c.args.place c.args.self.now.items c.args.events.now quiet c.args.self.now refl

pub returns-in_default-clause-emitted : goal.returns-in_default-clause-emitted
returns-in_default-clause-emitted c =
    let quiet : flies_at c.args.place c.args.self.now.items.kept ≡ false = c.in_default.ensures.none in
    still_emitted c.args.indication c.args.fast c.args.place c.args.self.now.items c.args.events.now quiet

pub returns-in_default-clause-lossy : goal.returns-in_default-clause-lossy
returns-in_default-clause-lossy c =
    let quiet : flies_at c.args.place c.args.self.now.items.kept ≡ false = c.in_default.ensures.none in
    still_lossy c.args.indication c.args.fast c.args.place c.args.self.now.items c.args.events.now quiet
