use Rattle.std.proofs.Common.{◌≡◌, List, map, subst, rules, tests}
use Rattle.std.specs.Prelude.{IfOk}
use Rattle.std.proofs.lemmas.Iterator.{items_from_collect, YieldsList-from_map, YieldsList-from_slice}
use Rattle.sctp_chunk.specs.declared.forward_tsn.SkippedStream.{SkippedStream}
use Rattle.sctp_tx_outstanding.specs.declared.skips.Touched.{Touched}
use Rattle.sctp_tx_outstanding.specs.Entries.{ssn_skip}
use Rattle.sctp_tx_outstanding.proofs.TouchedLemmas.{map_entries}
use Rattle.sctp_tx_outstanding.proofs.skips.ssn_skips.Goals as goal

pub returns : goal.returns
returns c =
    let found : IfOk c.collect.result (λ skips. skips.items ≡ map (λ (t : Touched). ssn_skip t.entry) c.args.touched.now) =
    items_from_collect _ c.collect.ensures.ran
    (YieldsList-from_map _ (λ (t : Touched). ssn_skip t.entry) (YieldsList-from_slice c.args.touched.now cc) c.map.ensures.closure (λ x r q k. search (rules, tests))) in
    subst (λ (xs : List SkippedStream). IfOk c.collect.result (λ skips. skips.items ≡ xs)) (map_entries ssn_skip c.args.touched.now) found
