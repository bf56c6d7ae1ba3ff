use Rattle.std.proofs.Common.{◌≡◌, true, ◌++◌, ◌∷◌, [], Some, ap, subst, sym, ◌∙◌, rules}
use Rattle.std.specs.Map.{keys_of}
use Rattle.std.specs.Ordering.{is_gt}
use Rattle.std.specs.List.{All}
use Rattle.sctp_fragments.specs.ReassemblyKey.{rank_at}
use Rattle.sctp_fragments.specs.Interval.{held_of, lists_of, first_below}
use Rattle.sctp_reassembly.specs.Places.{all_of, AreNamed, IsLed}
use Rattle.sctp_reassembly.proofs.AtEndLemmas.{not_none}
use Rattle.sctp_reassembly.proofs.LowLemmas.{low_cut}
use Rattle.sctp_reassembly.proofs.dropped.take_low.Goals as goal

pub returns-clause-taken : goal.returns-clause-taken
returns-clause-taken g c =
    let is : c.args.later.now.entries ≡ c.replace-low.result.entries ++ c.replace-low.new.dest.entries = c.in-Ok.ensures.parts ∙ (ap (λ m. m.entries ++ c.in-Ok.rest.entries) (sym c.replace-low.ensures.value) ∙ ap (λ m. c.replace-low.result.entries ++ m.entries) (sym c.replace-low.ensures.after)) in
    let last : c.replace-low.result.entries ≡ c.pop_last.new.self.entries ++ (c.in-Some.field-0-0, c.in-Some.last) ∷ [] = search rules in
    let gt : All (λ q. is_gt (g.K.Ord.cmp c.args.key q) ≡ true) (keys_of c.replace-low.result.entries) = subst (λ m. All (λ q. is_gt (g.K.Ord.cmp c.args.key q) ≡ true) (keys_of m.entries)) (sym c.replace-low.ensures.value) c.in-Ok.ensures.all_below in
    let cut = low_cut g.K.ReassemblyKey.is_key g.K.ReassemblyKey.number g.K.ReassemblyKey.index g.K.Ord.cmp g.met.K.ReassemblyKey.by_rank c.args.key c.known.ensures c.args.first.now c.args.later.now.entries c.replace-low.result.entries c.replace-low.new.dest.entries c.pop_last.new.self.entries c.in-Some.field-0-0 c.in-Some.last is last c.requires.named gt in
    let was : c.args.first.now ≡ c.replace.result = search rules in
    let now : Some c.in-Some.last ≡ c.replace.new.self = search rules in
    subst (λ o. lists_of (held_of g.K.ReassemblyKey.number g.K.ReassemblyKey.index) (all_of c.args.first.now c.args.later.now.entries) ≡ lists_of (held_of g.K.ReassemblyKey.number g.K.ReassemblyKey.index) (all_of c.replace.result c.pop_last.new.self.entries) ++ lists_of (held_of g.K.ReassemblyKey.number g.K.ReassemblyKey.index) (all_of o c.replace-low.new.dest.entries)) now
    (subst (λ o. lists_of (held_of g.K.ReassemblyKey.number g.K.ReassemblyKey.index) (all_of c.args.first.now c.args.later.now.entries) ≡ lists_of (held_of g.K.ReassemblyKey.number g.K.ReassemblyKey.index) (all_of o c.pop_last.new.self.entries) ++ lists_of (held_of g.K.ReassemblyKey.number g.K.ReassemblyKey.index) (all_of (Some c.in-Some.last) c.replace-low.new.dest.entries)) was cut.is)

pub returns-clause-below : goal.returns-clause-below
returns-clause-below g c =
    let is : c.args.later.now.entries ≡ c.replace-low.result.entries ++ c.replace-low.new.dest.entries = c.in-Ok.ensures.parts ∙ (ap (λ m. m.entries ++ c.in-Ok.rest.entries) (sym c.replace-low.ensures.value) ∙ ap (λ m. c.replace-low.result.entries ++ m.entries) (sym c.replace-low.ensures.after)) in
    let last : c.replace-low.result.entries ≡ c.pop_last.new.self.entries ++ (c.in-Some.field-0-0, c.in-Some.last) ∷ [] = search rules in
    let gt : All (λ q. is_gt (g.K.Ord.cmp c.args.key q) ≡ true) (keys_of c.replace-low.result.entries) = subst (λ m. All (λ q. is_gt (g.K.Ord.cmp c.args.key q) ≡ true) (keys_of m.entries)) (sym c.replace-low.ensures.value) c.in-Ok.ensures.all_below in
    let cut = low_cut g.K.ReassemblyKey.is_key g.K.ReassemblyKey.number g.K.ReassemblyKey.index g.K.Ord.cmp g.met.K.ReassemblyKey.by_rank c.args.key c.known.ensures c.args.first.now c.args.later.now.entries c.replace-low.result.entries c.replace-low.new.dest.entries c.pop_last.new.self.entries c.in-Some.field-0-0 c.in-Some.last is last c.requires.named gt in
    let now : Some c.in-Some.last ≡ c.replace.new.self = search rules in
    subst (λ o. first_below (rank_at g.K.ReassemblyKey.number g.K.ReassemblyKey.index c.args.key) (lists_of (held_of g.K.ReassemblyKey.number g.K.ReassemblyKey.index) (all_of o c.replace-low.new.dest.entries)) ≡ true) now cut.below

pub returns-clause-named : goal.returns-clause-named
returns-clause-named g c =
    let is : c.args.later.now.entries ≡ c.replace-low.result.entries ++ c.replace-low.new.dest.entries = c.in-Ok.ensures.parts ∙ (ap (λ m. m.entries ++ c.in-Ok.rest.entries) (sym c.replace-low.ensures.value) ∙ ap (λ m. c.replace-low.result.entries ++ m.entries) (sym c.replace-low.ensures.after)) in
    let last : c.replace-low.result.entries ≡ c.pop_last.new.self.entries ++ (c.in-Some.field-0-0, c.in-Some.last) ∷ [] = search rules in
    let gt : All (λ q. is_gt (g.K.Ord.cmp c.args.key q) ≡ true) (keys_of c.replace-low.result.entries) = subst (λ m. All (λ q. is_gt (g.K.Ord.cmp c.args.key q) ≡ true) (keys_of m.entries)) (sym c.replace-low.ensures.value) c.in-Ok.ensures.all_below in
    let cut = low_cut g.K.ReassemblyKey.is_key g.K.ReassemblyKey.number g.K.ReassemblyKey.index g.K.Ord.cmp g.met.K.ReassemblyKey.by_rank c.args.key c.known.ensures c.args.first.now c.args.later.now.entries c.replace-low.result.entries c.replace-low.new.dest.entries c.pop_last.new.self.entries c.in-Some.field-0-0 c.in-Some.last is last c.requires.named gt in
    cut.named

pub returns-in_default-pop_last-clause-later : goal.returns-in_default-pop_last-clause-later
returns-in_default-pop_last-clause-later g c =
    let is : c.args.later.now.entries ≡ c.replace-low.result.entries ++ c.replace-low.new.dest.entries = c.in-Ok.ensures.parts ∙ (ap (λ m. m.entries ++ c.in-Ok.rest.entries) (sym c.replace-low.ensures.value) ∙ ap (λ m. c.replace-low.result.entries ++ m.entries) (sym c.replace-low.ensures.after)) in
    let same : c.args.later.now.entries ≡ c.replace-low.new.dest.entries = is ∙ ap (λ t. t ++ c.replace-low.new.dest.entries) (not_none c.replace-low.result.entries c.in_default-pop_last.ensures.variant.1) in
    sym same

pub returns-in_default-pop_last-clause-led : goal.returns-in_default-pop_last-clause-led
returns-in_default-pop_last-clause-led g c =
    let is : c.args.later.now.entries ≡ c.replace-low.result.entries ++ c.replace-low.new.dest.entries = c.in-Ok.ensures.parts ∙ (ap (λ m. m.entries ++ c.in-Ok.rest.entries) (sym c.replace-low.ensures.value) ∙ ap (λ m. c.replace-low.result.entries ++ m.entries) (sym c.replace-low.ensures.after)) in
    let same : c.args.later.now.entries ≡ c.replace-low.new.dest.entries = is ∙ ap (λ t. t ++ c.replace-low.new.dest.entries) (not_none c.replace-low.result.entries c.in_default-pop_last.ensures.variant.1) in
    subst (IsLed c.args.first.now) same c.requires.led

pub returns-in_default-pop_last-clause-named : goal.returns-in_default-pop_last-clause-named
returns-in_default-pop_last-clause-named g c =
    let is : c.args.later.now.entries ≡ c.replace-low.result.entries ++ c.replace-low.new.dest.entries = c.in-Ok.ensures.parts ∙ (ap (λ m. m.entries ++ c.in-Ok.rest.entries) (sym c.replace-low.ensures.value) ∙ ap (λ m. c.replace-low.result.entries ++ m.entries) (sym c.replace-low.ensures.after)) in
    let same : c.args.later.now.entries ≡ c.replace-low.new.dest.entries = is ∙ ap (λ t. t ++ c.replace-low.new.dest.entries) (not_none c.replace-low.result.entries c.in_default-pop_last.ensures.variant.1) in
    subst (AreNamed g.K.ReassemblyKey.is_key g.K.ReassemblyKey.number g.K.ReassemblyKey.index) same c.requires.named
