use Rattle.std.proofs.Common.{◌≡◌, true, sym, subst}
use Rattle.sctp_fragments.specs.Runs.{is_held}
use Rattle.sctp_fragments.specs.ReassemblyKey.{rank_at}
use Rattle.std.specs.List.{All}
use Rattle.sctp_reassembly.proofs.FinishedLemmas.{keys_with, held_with, held_itself}
use Rattle.sctp_reassembly.proofs.finished.add_key.Goals as goal

pub returns-clause-keys : goal.returns-clause-keys
returns-clause-keys g c =
    subst (All g.K.ReassemblyKey.is_key) (sym c.in_ok-insert.ensures.keys) (keys_with g.K.ReassemblyKey.number g.K.ReassemblyKey.index g.K.Ord.cmp g.K.ReassemblyKey.is_key g.met.K.ReassemblyKey.by_rank c.args.key c.known.ensures c.args.keys.now.keys c.requires.keys)

pub returns-clause-kept : goal.returns-clause-kept
returns-clause-kept g c n held =
    subst (λ ks. is_held (rank_at g.K.ReassemblyKey.number g.K.ReassemblyKey.index) n ks ≡ true) (sym c.in_ok-insert.ensures.keys) (held_with g.K.ReassemblyKey.number g.K.ReassemblyKey.index g.K.Ord.cmp g.K.ReassemblyKey.is_key g.met.K.ReassemblyKey.by_rank c.args.key c.known.ensures c.args.keys.now.keys n held)

pub returns-clause-added : goal.returns-clause-added
returns-clause-added g c =
    subst (λ ks. is_held (rank_at g.K.ReassemblyKey.number g.K.ReassemblyKey.index) (rank_at g.K.ReassemblyKey.number g.K.ReassemblyKey.index c.args.key) ks ≡ true) (sym c.in_ok-insert.ensures.keys) (held_itself g.K.ReassemblyKey.number g.K.ReassemblyKey.index g.K.Ord.cmp g.K.ReassemblyKey.is_key g.met.K.ReassemblyKey.by_rank c.args.key c.known.ensures c.args.keys.now.keys c.requires.keys)
