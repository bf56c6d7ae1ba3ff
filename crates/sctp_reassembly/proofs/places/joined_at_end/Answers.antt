use Rattle.std.proofs.Common.{◌≡◌, ◌∷◌, List, true, false, rules}
use Rattle.sctp_fragments.specs.Held.{Held}
use Rattle.sctp_fragments.specs.Interval.{held_of, run_of}
use Rattle.sctp_fragments.specs.Runs.{last_of}
use Rattle.sctp_reassembly.proofs.AtEndLemmas.{last_is, not_none, goes_at_end, apart_at_end, none_at_end}
use Rattle.sctp_reassembly.proofs.places.joined_at_end.Goals as goal

pub returns-in_default : goal.returns-in_default
returns-in_default g c =
    none_at_end g.K.ReassemblyKey.is_key g.K.ReassemblyKey.number g.K.ReassemblyKey.index c.args.later.now.entries (held_of g.K.ReassemblyKey.number g.K.ReassemblyKey.index c.args.entry.now) (not_none c.args.later.now.entries c.in_default.ensures.variant.1)

pub returns-then-not-goes_on_to : goal.returns-then-not-goes_on_to
returns-then-not-goes_on_to g c =
    let x = held_of g.K.ReassemblyKey.number g.K.ReassemblyKey.index c.args.entry.now in
    let e = held_of g.K.ReassemblyKey.number g.K.ReassemblyKey.index c.last-last.result.now in
    let t = last_is c.args.later.now.entries (c.in-Some.place.now, c.in-Some.interval.now) c.in-Some.ensures.last in
    let last : (h : Held) (hs : List Held) → run_of (held_of g.K.ReassemblyKey.number g.K.ReassemblyKey.index) c.in-Some.interval.now ≡ h ∷ hs → e ≡ last_of h hs = search rules in
    let on : c.is_before.result ≡ true = search rules in
    let off : c.goes_on_to.result ≡ false = search rules in
    apart_at_end g.K.ReassemblyKey.is_key g.K.ReassemblyKey.number g.K.ReassemblyKey.index c.args.later.now.entries t.0 c.in-Some.place.now c.in-Some.interval.now t.1 c.requires.named c.requires.runs x e c.is_before.result on c.is_before.ensures last c.goes_on_to.result c.goes_on_to.ensures off

pub returns : goal.returns
returns g c =
    let x = held_of g.K.ReassemblyKey.number g.K.ReassemblyKey.index c.args.entry.now in
    let e = held_of g.K.ReassemblyKey.number g.K.ReassemblyKey.index c.last-last.result.now in
    let t = last_is c.args.later.now.entries (c.in-Some.place.now, c.in-Some.interval.now) c.in-Some.ensures.last in
    let last : (h : Held) (hs : List Held) → run_of (held_of g.K.ReassemblyKey.number g.K.ReassemblyKey.index) c.in-Some.interval.now ≡ h ∷ hs → e ≡ last_of h hs = search rules in
    let on : c.is_before.result ≡ true = search rules in
    let goes : c.goes_on_to.result ≡ true = search rules in
    goes_at_end g.K.ReassemblyKey.is_key g.K.ReassemblyKey.number g.K.ReassemblyKey.index c.args.later.now.entries t.0 c.in-Some.place.now c.in-Some.interval.now t.1 c.requires.named c.requires.runs x e c.is_before.result on c.is_before.ensures last c.goes_on_to.result c.goes_on_to.ensures goes
