use Rattle.std.proofs.Common.{◌+◌, refl, arith}
use Rattle.sctp_tx_outstanding.proofs.ReceivedLemmas.{walk_past}
use Rattle.sctp_tx_outstanding.proofs.UncoveredLemmas.{quiet_on}
use Rattle.sctp_tx_outstanding.proofs.sack.pass_idle.Goals as goal

pub loop-next-preserved : goal.loop-next-preserved
loop-next-preserved c =
    let bs = c.args.blocks.now in
    let uncovered = c.pass_covered-later.result.1 in
    let flight = c.next_flight-flight.result in
    let before = c.loop-next.invariant in
    let le = c.next_flight-flight.ensures.onward in
    record {
      cursor = walk_past c.args.are_in_order bs (uncovered + 1) (flight + 1) c.pass_covered-later.result.0 (omega (arith, le)) c.pass_covered-later.ensures.cursor;
      onward = omega (arith, le, before.onward, c.pass_covered-later.ensures.onward);
      none = quiet_on bs c.args.place c.loop-next.next uncovered flight c.args.kept.now.items c.args.kept.now.items refl c.requires.rest before.none
          c.pass_covered-later.ensures.covered c.next_flight-flight.ensures.none;
    }
