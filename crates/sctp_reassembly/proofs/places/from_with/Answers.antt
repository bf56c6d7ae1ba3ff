use Rattle.std.proofs.Common.{◌≡◌, ◌∷◌, List, sym, subst, rules}
use Rattle.sctp_fragments.specs.Held.{Held, rank_of}
use Rattle.sctp_fragments.specs.Interval.{held_of, run_of}
use Rattle.sctp_fragments.specs.ReassemblyKey.{rank_at}
use Rattle.sctp_fragments.specs.Runs.{LeadsTo}
use Rattle.sctp_fragments.proofs.PlaceLemmas.{emitted_less}
use Rattle.sctp_reassembly.specs.Places.{runs_at}
use Rattle.sctp_reassembly.proofs.JoinedLemmas.{begins_at, held_behind}
use Rattle.sctp_reassembly.proofs.places.from_with.Goals as goal

pub returns-in_err-found-clause-none : goal.returns-in_err-found-clause-none
returns-in_err-found-clause-none g c =
    rw c.from_residual.ensures (λ ps qs s. subst (λ t. LeadsTo rank_of (rank_at g.K.ReassemblyKey.number g.K.ReassemblyKey.index c.args.key) (runs_at g.K.ReassemblyKey.number g.K.ReassemblyKey.index t)) (sym (c.in_err-found.ensures.none ps qs s)) tt)

pub returns-then-is_before-clause-none : goal.returns-then-is_before-clause-none
returns-then-is_before-clause-none g c ps qs s =
    let n = rank_at g.K.ReassemblyKey.number g.K.ReassemblyKey.index c.args.key in
    let e = held_of g.K.ReassemblyKey.number g.K.ReassemblyKey.index c.first.result.now in
    let t = c.in_ok-found.ensures.some ps qs s in
    let first : (h : Held) (hs : List Held) → run_of (held_of g.K.ReassemblyKey.number g.K.ReassemblyKey.index) c.in_ok-found.found.1.now ≡ h ∷ hs → e ≡ h = search rules in
    let b = begins_at g.K.ReassemblyKey.is_key g.K.ReassemblyKey.number g.K.ReassemblyKey.index qs t.0 c.in_ok-found.found.0 c.in_ok-found.found.1.now e t.1 first in
    subst (LeadsTo rank_of n) (sym b.is) (emitted_less c.is_before.result n (rank_of e) c.if-is_before.true c.is_before.ensures)

pub returns-clause-some : goal.returns-clause-some
returns-clause-some g c ps qs s =
    let n = rank_at g.K.ReassemblyKey.number g.K.ReassemblyKey.index c.args.key in
    let e = held_of g.K.ReassemblyKey.number g.K.ReassemblyKey.index c.first.result.now in
    let t = c.in_ok-found.ensures.some ps qs s in
    let first : (h : Held) (hs : List Held) → run_of (held_of g.K.ReassemblyKey.number g.K.ReassemblyKey.index) c.in_ok-found.found.1.now ≡ h ∷ hs → e ≡ h = search rules in
    let b = begins_at g.K.ReassemblyKey.is_key g.K.ReassemblyKey.number g.K.ReassemblyKey.index qs t.0 c.in_ok-found.found.0 c.in_ok-found.found.1.now e t.1 first in
    (held_behind g.K.ReassemblyKey.is_key g.K.ReassemblyKey.number g.K.ReassemblyKey.index n qs t.0 e c.is_before.result b c.is_before.ensures c.if-is_before.false, (t.0, t.1))
