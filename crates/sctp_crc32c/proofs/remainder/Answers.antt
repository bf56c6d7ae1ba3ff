use Rattle.std.proofs.Common.{refl, ◌∙◌}
use Rattle.sctp_crc32c.proofs.Slices.{on_by_sixteen, on_by_four}
use Rattle.sctp_crc32c.proofs.remainder.Goals as goal

pub loop-rest-preserved : goal.loop-rest-preserved
loop-rest-preserved c = (
  on_by_sixteen c.loop-rest.word _ c.loop-rest.rest.now c.behind-front.result c.four-second.result c.four-third.result c.four-last.result refl c.in-len16-up.len_at_least
      c.behind-front.ensures c.four-second.ensures c.four-third.ensures c.four-last.ensures
      ∙ c.loop-rest.invariant.0,
  c.tables-entries.ensures,
)

pub loop-rest-2-preserved : goal.loop-rest-2-preserved
loop-rest-2-preserved c = (
  on_by_four c.loop-rest-2.word _ c.loop-rest-2.rest.now c.behind-word.result refl c.in-len4-up.len_at_least c.behind-word.ensures
      ∙ c.loop-rest-2.invariant.0,
  c.tables-entries.ensures,
)
