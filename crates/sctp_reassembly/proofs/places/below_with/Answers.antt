use Rattle.std.proofs.Common.{◌≡◌, ◌∷◌, List, sym, subst, rules}
use Rattle.sctp_fragments.specs.Runs.{last_of, IsBelow}
use Rattle.sctp_fragments.specs.Held.{Held, rank_of}
use Rattle.sctp_fragments.specs.ReassemblyKey.{rank_at}
use Rattle.sctp_fragments.specs.Interval.{held_of, run_of}
use Rattle.sctp_fragments.proofs.PlaceLemmas.{emitted_less}
use Rattle.sctp_reassembly.proofs.JoinedLemmas.{ends_at, held_before}
use Rattle.sctp_reassembly.proofs.places.below_with.Goals as goal

pub returns-then-is_before-clause-none : goal.returns-then-is_before-clause-none
returns-then-is_before-clause-none g c ps qs s =
    let n = rank_at g.K.ReassemblyKey.number g.K.ReassemblyKey.index c.args.key in
    let e = held_of g.K.ReassemblyKey.number g.K.ReassemblyKey.index c.last.result.now in
    let t = c.in_ok-found.ensures.some ps qs s in
    let last : (h : Held) (hs : List Held) → run_of (held_of g.K.ReassemblyKey.number g.K.ReassemblyKey.index) c.in_ok-found.found.1.now ≡ h ∷ hs → e ≡ last_of h hs = search rules in
    subst (IsBelow rank_of n) (sym (ends_at g.K.ReassemblyKey.is_key g.K.ReassemblyKey.number g.K.ReassemblyKey.index ps t.0 c.in_ok-found.found.0 c.in_ok-found.found.1.now e t.1 last)) (emitted_less c.is_before.result (rank_of e) n c.if-is_before.true c.is_before.ensures)

pub returns-clause-some : goal.returns-clause-some
returns-clause-some g c ps qs s =
    let n = rank_at g.K.ReassemblyKey.number g.K.ReassemblyKey.index c.args.key in
    let e = held_of g.K.ReassemblyKey.number g.K.ReassemblyKey.index c.last.result.now in
    let t = c.in_ok-found.ensures.some ps qs s in
    let last : (h : Held) (hs : List Held) → run_of (held_of g.K.ReassemblyKey.number g.K.ReassemblyKey.index) c.in_ok-found.found.1.now ≡ h ∷ hs → e ≡ last_of h hs = search rules in
    (held_before g.K.ReassemblyKey.is_key g.K.ReassemblyKey.number g.K.ReassemblyKey.index n ps e c.is_before.result (ends_at g.K.ReassemblyKey.is_key g.K.ReassemblyKey.number g.K.ReassemblyKey.index ps t.0 c.in_ok-found.found.0 c.in_ok-found.found.1.now e t.1 last) c.is_before.ensures c.if-is_before.false, (t.0, t.1))
