use Rattle.std.proofs.Common.{◌++◌, [], ◌∷◌, length-append, arith}
use Rattle.sctp_chunk.specs.Grammar.{FitsSkip}
use Rattle.sctp_chunk.proofs.SkipLemmas.{SaysSkips_push, Each_push, behind_part}
use Rattle.sctp_chunk.proofs.forward_tsn.mid_skips_from_bytes.Goals as goal

pub loop-rest-preserved : goal.loop-rest-preserved
loop-rest-preserved c =
    let old = c.loop-rest.invariant.joined in
    let new = c.in_ok-skip.ensures.ok in
    rw c.in_ok-push.ensures.items (record {
      joined = (
        old.0 ++ new.0,
        behind_part c.args.bytes.now old.0 c.loop-rest.rest.now new.0 c.in_ok-skip.after.now old.1 new.1,
        SaysSkips_push old.0 new.0 c.loop-rest.skipped.items c.in_ok-skip.skip old.2 new.2,
      );
      count = omega (arith, c.loop-rest.invariant.count, c.in_ok-skip.ensures.len, length-append c.loop-rest.skipped.items (c.in_ok-skip.skip ∷ []));
      fits = Each_push FitsSkip c.loop-rest.skipped.items c.in_ok-skip.skip c.loop-rest.invariant.fits c.in_ok-skip.ensures.fits;
    })
