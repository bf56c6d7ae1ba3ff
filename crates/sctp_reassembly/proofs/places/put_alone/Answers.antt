use Rattle.std.proofs.Common.{ap, ◌∙◌}
use Rattle.std.specs.BTreeMap.{insert_entry}
use Rattle.sctp_fragments.specs.ReassemblyKey.{rank_at}
use Rattle.sctp_reassembly.proofs.MapLemmas.{insert_mid}
use Rattle.sctp_reassembly.proofs.places.put_alone.Goals as goal

pub returns-clause-ok : goal.returns-clause-ok
returns-clause-ok g c ps qs is low high = record {
  interval = c.in_ok-interval.interval;
  is = c.in_ok-insert.ensures.entries ∙ (ap (λ t. insert_entry g.K.Ord.cmp t c.args.entry.key c.in_ok-interval.interval) is
      ∙ insert_mid g.K.Ord.cmp g.K.ReassemblyKey.is_key (rank_at g.K.ReassemblyKey.number g.K.ReassemblyKey.index) g.met.K.ReassemblyKey.by_rank c.args.entry.key c.known.ensures ps qs c.in_ok-interval.interval low high);
  run_is = c.in_ok-interval.ensures;
}
