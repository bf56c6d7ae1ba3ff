use Rattle.std.proofs.Common.{◌≡◌, ◌∷◌, List, rules}
use Rattle.sctp_fragments.specs.Held.{Held, rank_of}
use Rattle.sctp_fragments.specs.Interval.{held_of, run_of}
use Rattle.sctp_reassembly.proofs.JoinedLemmas.{begins_at, none_behind, held_behind, apart_behind, goes_behind}
use Rattle.sctp_reassembly.proofs.places.joined_behind.Goals as goal

pub returns-in_default-clause-some : goal.returns-in_default-clause-some
returns-in_default-clause-some g c ps qs s =
    none_behind g.K.ReassemblyKey.is_key g.K.ReassemblyKey.number g.K.ReassemblyKey.index (held_of g.K.ReassemblyKey.number g.K.ReassemblyKey.index c.args.entry.now) qs (c.in_default.ensures.none ps qs s)

pub returns-then-not-is_before-clause-none : goal.returns-then-not-is_before-clause-none
returns-then-not-is_before-clause-none g c ps qs s =
    let x = held_of g.K.ReassemblyKey.number g.K.ReassemblyKey.index c.args.entry.now in
    let e = held_of g.K.ReassemblyKey.number g.K.ReassemblyKey.index c.first-first.result.now in
    let t = c.in-Some.ensures.some ps qs s in
    let first : (h : Held) (hs : List Held) → run_of (held_of g.K.ReassemblyKey.number g.K.ReassemblyKey.index) c.in-Some.interval.now ≡ h ∷ hs → e ≡ h = search rules in
    held_behind g.K.ReassemblyKey.is_key g.K.ReassemblyKey.number g.K.ReassemblyKey.index (rank_of x) qs t.0 e c.is_before.result (begins_at g.K.ReassemblyKey.is_key g.K.ReassemblyKey.number g.K.ReassemblyKey.index qs t.0 c.in-Some.place c.in-Some.interval.now e t.1 first) c.is_before.ensures c.if-not-is_before.true

pub returns-then-not-goes_on_to-clause-some : goal.returns-then-not-goes_on_to-clause-some
returns-then-not-goes_on_to-clause-some g c ps qs s =
    let x = held_of g.K.ReassemblyKey.number g.K.ReassemblyKey.index c.args.entry.now in
    let e = held_of g.K.ReassemblyKey.number g.K.ReassemblyKey.index c.first-first.result.now in
    let t = c.in-Some.ensures.some ps qs s in
    let first : (h : Held) (hs : List Held) → run_of (held_of g.K.ReassemblyKey.number g.K.ReassemblyKey.index) c.in-Some.interval.now ≡ h ∷ hs → e ≡ h = search rules in
    apart_behind g.K.ReassemblyKey.is_key g.K.ReassemblyKey.number g.K.ReassemblyKey.index x qs t.0 e c.is_before.result c.goes_on_to.result (begins_at g.K.ReassemblyKey.is_key g.K.ReassemblyKey.number g.K.ReassemblyKey.index qs t.0 c.in-Some.place c.in-Some.interval.now e t.1 first) c.is_before.ensures c.if-not-is_before.false c.goes_on_to.ensures c.if-not-goes_on_to.true

pub returns-clause-some : goal.returns-clause-some
returns-clause-some g c ps qs s =
    let x = held_of g.K.ReassemblyKey.number g.K.ReassemblyKey.index c.args.entry.now in
    let e = held_of g.K.ReassemblyKey.number g.K.ReassemblyKey.index c.first-first.result.now in
    let t = c.in-Some.ensures.some ps qs s in
    let first : (h : Held) (hs : List Held) → run_of (held_of g.K.ReassemblyKey.number g.K.ReassemblyKey.index) c.in-Some.interval.now ≡ h ∷ hs → e ≡ h = search rules in
    let made = goes_behind g.K.ReassemblyKey.is_key g.K.ReassemblyKey.number g.K.ReassemblyKey.index x qs t.0 c.in-Some.place c.in-Some.interval.now e c.is_before.result c.goes_on_to.result t.1 (begins_at g.K.ReassemblyKey.is_key g.K.ReassemblyKey.number g.K.ReassemblyKey.index qs t.0 c.in-Some.place c.in-Some.interval.now e t.1 first) c.is_before.ensures c.if-not-is_before.false c.goes_on_to.ensures c.if-not-goes_on_to.false in
    (made.0, search (rules, made.1))
