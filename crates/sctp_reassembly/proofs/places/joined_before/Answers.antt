use Rattle.std.proofs.Common.{◌≡◌, ◌∷◌, List, rules}
use Rattle.sctp_fragments.specs.Held.{Held, rank_of}
use Rattle.sctp_fragments.specs.Interval.{held_of, run_of}
use Rattle.sctp_fragments.specs.Runs.{last_of}
use Rattle.sctp_reassembly.proofs.JoinedLemmas.{ends_at, held_before, apart_before, goes_before}
use Rattle.sctp_reassembly.proofs.places.joined_before.Goals as goal

pub returns-then-not-is_before-clause-none : goal.returns-then-not-is_before-clause-none
returns-then-not-is_before-clause-none g c ps qs s =
    let x = held_of g.K.ReassemblyKey.number g.K.ReassemblyKey.index c.args.entry.now in
    let e = held_of g.K.ReassemblyKey.number g.K.ReassemblyKey.index c.last-last.result.now in
    let t = c.in-Some.ensures.some ps qs s in
    let last : (h : Held) (hs : List Held) → run_of (held_of g.K.ReassemblyKey.number g.K.ReassemblyKey.index) c.in-Some.interval.now ≡ h ∷ hs → e ≡ last_of h hs = search rules in
    held_before g.K.ReassemblyKey.is_key g.K.ReassemblyKey.number g.K.ReassemblyKey.index (rank_of x) ps e c.is_before.result (ends_at g.K.ReassemblyKey.is_key g.K.ReassemblyKey.number g.K.ReassemblyKey.index ps t.0 c.in-Some.place c.in-Some.interval.now e t.1 last) c.is_before.ensures c.if-not-is_before.true

pub returns-then-not-goes_on_to-clause-some : goal.returns-then-not-goes_on_to-clause-some
returns-then-not-goes_on_to-clause-some g c ps qs s =
    let x = held_of g.K.ReassemblyKey.number g.K.ReassemblyKey.index c.args.entry.now in
    let e = held_of g.K.ReassemblyKey.number g.K.ReassemblyKey.index c.last-last.result.now in
    let t = c.in-Some.ensures.some ps qs s in
    let last : (h : Held) (hs : List Held) → run_of (held_of g.K.ReassemblyKey.number g.K.ReassemblyKey.index) c.in-Some.interval.now ≡ h ∷ hs → e ≡ last_of h hs = search rules in
    apart_before g.K.ReassemblyKey.is_key g.K.ReassemblyKey.number g.K.ReassemblyKey.index x ps e c.is_before.result c.goes_on_to.result (ends_at g.K.ReassemblyKey.is_key g.K.ReassemblyKey.number g.K.ReassemblyKey.index ps t.0 c.in-Some.place c.in-Some.interval.now e t.1 last) c.is_before.ensures c.if-not-is_before.false c.goes_on_to.ensures c.if-not-goes_on_to.true

pub returns-clause-some : goal.returns-clause-some
returns-clause-some g c ps qs s =
    let x = held_of g.K.ReassemblyKey.number g.K.ReassemblyKey.index c.args.entry.now in
    let e = held_of g.K.ReassemblyKey.number g.K.ReassemblyKey.index c.last-last.result.now in
    let t = c.in-Some.ensures.some ps qs s in
    let last : (h : Held) (hs : List Held) → run_of (held_of g.K.ReassemblyKey.number g.K.ReassemblyKey.index) c.in-Some.interval.now ≡ h ∷ hs → e ≡ last_of h hs = search rules in
    let made = goes_before g.K.ReassemblyKey.is_key g.K.ReassemblyKey.number g.K.ReassemblyKey.index x ps t.0 c.in-Some.place c.in-Some.interval.now e c.is_before.result c.goes_on_to.result t.1 (ends_at g.K.ReassemblyKey.is_key g.K.ReassemblyKey.number g.K.ReassemblyKey.index ps t.0 c.in-Some.place c.in-Some.interval.now e t.1 last) c.is_before.ensures c.if-not-is_before.false c.goes_on_to.ensures c.if-not-goes_on_to.false in
    (made.0, search (rules, made.1))
