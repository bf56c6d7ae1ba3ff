use Rattle.std.proofs.Common.{None}
use Rattle.sctp_fragments.specs.ReassemblyKey.{rank_at}
use Rattle.sctp_reassembly.proofs.MapLemmas.{split_for}
use Rattle.sctp_reassembly.proofs.HolderLemmas.{some_then, none_then, holds_below, holds_from, none_holds_it}
use Rattle.sctp_reassembly.proofs.places.amid_with.Goals as goal

pub returns-in-Some-clause-some : goal.returns-in-Some-clause-some
returns-in-Some-clause-some g c =
    let n = rank_at g.K.ReassemblyKey.number g.K.ReassemblyKey.index c.args.key in
    let s = split_for g.K.ReassemblyKey.is_key g.K.ReassemblyKey.number g.K.ReassemblyKey.index n None c.args.later.now.entries c.requires.named c.requires.runs in
    let found = c.in-Some.ensures.some s.ps s.qs s.split in
    holds_below g.K.ReassemblyKey.is_key g.K.ReassemblyKey.number g.K.ReassemblyKey.index n c.args.later.now.entries s.ps s.qs s.split c.requires.named c.requires.runs found.1.0 c.in-Some.found.0 c.in-Some.found.1.now found.1.1 found.0

pub returns-in-None-clause-some : goal.returns-in-None-clause-some
returns-in-None-clause-some g c =
    let n = rank_at g.K.ReassemblyKey.number g.K.ReassemblyKey.index c.args.key in
    let s = split_for g.K.ReassemblyKey.is_key g.K.ReassemblyKey.number g.K.ReassemblyKey.index n None c.args.later.now.entries c.requires.named c.requires.runs in
    some_then c.from_with.result (λ e told. let found = told s.ps s.qs s.split in holds_from g.K.ReassemblyKey.is_key g.K.ReassemblyKey.number g.K.ReassemblyKey.index n c.args.later.now.entries s.ps s.qs s.split c.requires.named c.requires.runs found.1.0 e.0 e.1.now found.1.1 found.0) c.from_with.ensures.some

pub returns-in-None-clause-none : goal.returns-in-None-clause-none
returns-in-None-clause-none g c =
    let n = rank_at g.K.ReassemblyKey.number g.K.ReassemblyKey.index c.args.key in
    let s = split_for g.K.ReassemblyKey.is_key g.K.ReassemblyKey.number g.K.ReassemblyKey.index n None c.args.later.now.entries c.requires.named c.requires.runs in
    none_then c.from_with.result (λ leads. none_holds_it g.K.ReassemblyKey.is_key g.K.ReassemblyKey.number g.K.ReassemblyKey.index n c.args.later.now.entries s.ps s.qs s.split c.requires.named c.requires.runs (c.in-None.ensures.none s.ps s.qs s.split) (leads s.ps s.qs s.split)) c.from_with.ensures.none
