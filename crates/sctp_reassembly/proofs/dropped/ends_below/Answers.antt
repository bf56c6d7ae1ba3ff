use Rattle.std.proofs.Common.{◌≡◌, ◌∷◌, Some, None, List, rules, sym, subst}
use Rattle.sctp_fragments.specs.ReassemblyKey.{rank_at}
use Rattle.sctp_fragments.specs.Runs.{last_of, end_of, IsBelow}
use Rattle.sctp_fragments.specs.Held.{Held, rank_of}
use Rattle.sctp_fragments.specs.Interval.{held_of, run_of, lists_of}
use Rattle.sctp_fragments.proofs.PlaceLemmas.{emitted_less, some_run}
use Rattle.sctp_reassembly.proofs.AtEndLemmas.{last_is, not_none}
use Rattle.sctp_reassembly.proofs.AddedLemmas.{below_last}
use Rattle.sctp_reassembly.specs.Places.{all_of}
use Rattle.sctp_reassembly.proofs.DroppedLemmas.{ends_later}
use Rattle.sctp_reassembly.proofs.dropped.ends_below.Goals as goal

pub returns-in-Some : goal.returns-in-Some
returns-in-Some g c below =
    let n = rank_at g.K.ReassemblyKey.number g.K.ReassemblyKey.index c.args.key in
    let e = held_of g.K.ReassemblyKey.number g.K.ReassemblyKey.index c.last.result.now in
    let t = last_is c.args.later.now.entries (c.in-Some.field-0-0.now, c.in-Some.interval.now) c.in-Some.ensures.last in
    let last : (h : Held) (hs : List Held) → run_of (held_of g.K.ReassemblyKey.number g.K.ReassemblyKey.index) c.in-Some.interval.now ≡ h ∷ hs → e ≡ last_of h hs = search rules in
    ends_later g.K.ReassemblyKey.is_key g.K.ReassemblyKey.number g.K.ReassemblyKey.index c.args.first.now c.args.later.now.entries t.0 c.in-Some.field-0-0.now c.in-Some.interval.now e n t.1 last (emitted_less c.is_before.result (rank_of e) n below c.is_before.ensures)

pub returns-in-Some-first : goal.returns-in-Some-first
returns-in-Some-first g c below =
    let f = held_of g.K.ReassemblyKey.number g.K.ReassemblyKey.index in
    let n = rank_at g.K.ReassemblyKey.number g.K.ReassemblyKey.index c.args.key in
    let i = c.in-Some-first.interval in
    let less = below_last (run_of f i) (f c.last-in-Some-first.result.now) n c.is_before-in-Some-first.result (some_run f i) c.last-in-Some-first.ensures below c.is_before-in-Some-first.ensures in
    let alone = subst (λ es. IsBelow rank_of n (end_of None (lists_of f (all_of (Some i) es)))) (sym (not_none c.args.later.now.entries c.in_default.ensures.variant.1)) less in
    subst (λ o. IsBelow rank_of n (end_of None (lists_of f (all_of o c.args.later.now.entries)))) (sym c.in-Some-first.is) alone
