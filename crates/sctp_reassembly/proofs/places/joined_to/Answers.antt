use Rattle.std.proofs.Common.{None}
use Rattle.sctp_fragments.specs.Held.{rank_of}
use Rattle.sctp_fragments.specs.Interval.{held_of}
use Rattle.sctp_reassembly.proofs.MapLemmas.{split_for}
use Rattle.sctp_reassembly.proofs.JoinedLemmas.{none_holds, is_in_before, is_in_behind}
use Rattle.sctp_reassembly.proofs.places.joined_to.Goals as goal

pub returns-in_err-before-clause-none : goal.returns-in_err-before-clause-none
returns-in_err-before-clause-none g c =
    let n = rank_of (held_of g.K.ReassemblyKey.number g.K.ReassemblyKey.index c.args.entry.now) in
    let s = split_for g.K.ReassemblyKey.is_key g.K.ReassemblyKey.number g.K.ReassemblyKey.index n None c.args.later.now.entries c.requires.named c.requires.runs in
    none_holds c.from_residual.result _ (is_in_before g.K.ReassemblyKey.is_key g.K.ReassemblyKey.number g.K.ReassemblyKey.index n c.args.later.now.entries s.ps s.qs s.split c.requires.named c.requires.runs (c.in_err-before.ensures.none s.ps s.qs s.split))

pub returns-in_err-behind-clause-none : goal.returns-in_err-behind-clause-none
returns-in_err-behind-clause-none g c =
    let n = rank_of (held_of g.K.ReassemblyKey.number g.K.ReassemblyKey.index c.args.entry.now) in
    let s = split_for g.K.ReassemblyKey.is_key g.K.ReassemblyKey.number g.K.ReassemblyKey.index n None c.args.later.now.entries c.requires.named c.requires.runs in
    none_holds c.from_residual-in_err-behind.result _ (is_in_behind g.K.ReassemblyKey.is_key g.K.ReassemblyKey.number g.K.ReassemblyKey.index n c.args.later.now.entries s.ps s.qs s.split c.requires.named c.requires.runs (c.in_err-behind.ensures.none s.ps s.qs s.split))

pub returns-clause-some : goal.returns-clause-some
returns-clause-some g c =
    let n = rank_of (held_of g.K.ReassemblyKey.number g.K.ReassemblyKey.index c.args.entry.now) in
    let s = split_for g.K.ReassemblyKey.is_key g.K.ReassemblyKey.number g.K.ReassemblyKey.index n None c.args.later.now.entries c.requires.named c.requires.runs in
    let before = c.in_ok-before.ensures.some s.ps s.qs s.split in
    let behind = c.in_ok-behind.ensures.some s.ps s.qs s.split in
    record { ps = s.ps; qs = s.qs; split = s.split; below = before.0; leads = behind.0; before_is = before.1; behind_is = behind.1 }
