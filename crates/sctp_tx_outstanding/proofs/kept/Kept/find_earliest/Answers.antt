use Rattle.sctp_tx_outstanding.proofs.kept.Kept.find_earliest.Goals as goal

pub invariant_of-self : goal.invariant_of-self
invariant_of-self c =
    let before = c.self.invariant in
    let totals = before.totals in
    record {
      totals = record {
        packet = totals.packet;
        payload = totals.payload;
        flights = totals.flights;
        queued = totals.queued;
        fast = totals.fast;
        earliest = c.first_expiry-self-inside.ensures;
        small = totals.small;
      };
      last_blocks = before.last_blocks;
      runs = before.runs;
      messages = before.messages;
      expiries = c.drop_stale.ensures;
      passed = before.passed;
    }
