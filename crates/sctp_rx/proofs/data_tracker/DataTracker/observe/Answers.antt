use Rattle.std.proofs.Common.{◌≡◌, ℕ, ◌≤◌, Bool, true, false, eqb, ltb, ◌||◌, ◌&&◌, cond, List, length, sym, subst, ap, ◌∙◌, arith}
use Rattle.std.proofs.lemmas.Bool.Decides.{nat_tests}
use Rattle.sctp_rx.specs.Seen.{Seen, contains}
use Rattle.sctp_rx.specs.DataTracker.{DataTracker, Tracker, IsTracker, is_valid, has_seen, number_of, with_duplicate}
use Rattle.sctp_rx.specs.Reported.{is_duplicate}
use Rattle.sctp_rx.proofs.DuplicatesLemmas.{holds, holds_observed}
use Rattle.sctp_rx.proofs.TrackerLemmas.{few_after}
use Rattle.sctp_rx.proofs.data_tracker.DataTracker.observe.Goals as goal
use Rattle.sctp_rx.proofs.data_tracker.DataTracker.observe.Goals.{then-not-is_new+in_ok-add, else-not-is_new}

pub returns-clause-few_runs : goal.returns-clause-few_runs
returns-clause-few_runs c =
    let same : c.if-not-is_new.self-inside.seen ≡ c.insert.new.self =
    elim c.if-not-is_new.branch [
      | then-not-is_new+in_ok-add w ↦ ap (λ x. x.seen) w.self-inside-is
      | else-not-is_new w ↦ ap (λ x. x.seen) w.self-inside-is
    ] in
    let t : Tracker = c.args.self.now.tracker in
    let old : c.self.inside.seen ≡ t.seen = ap (λ (d : DataTracker). d.tracker.seen) c.self.view_is in
    let Q : DataTracker → Type 0 = λ d. IsTracker d.tracker in
    let is : IsTracker t = subst Q c.self.view_is c.self.invariant in
    let valid : is_valid t c.unwrapped-number.result ≡ true = cc in
    let few = few_after t c.unwrapped-number.result c.self.inside.seen c.insert.new.self is old valid c.in_ok-is_new.ensures.runs c.in_ok-is_new.ensures.highest c.in_ok-is_new.ensures.onward in
    let P : Seen → Type 0 = λ s. length s.runs ≤ 50000 in
    subst P (sym same) few

pub returns-clause-again : goal.returns-clause-again
returns-clause-again c = λ valid m.
    let n : ℕ = c.unwrapped-number.result in
    let ds : List ℕ = c.self.inside.duplicates in
    let was : Bool = contains c.self.inside.seen n in
    let kept : c.if-not-is_new.self-inside.duplicates ≡ cond was (with_duplicate n ds) ds =
    elim c.if-not-is_new.branch [
      | then-not-is_new+in_ok-add w ↦
          let seen : was ≡ true = grind (arith, nat_tests, w.if-not-is_new.true, c.in_ok-is_new.ensures.answer) in
          ap (λ x. x.duplicates) w.self-inside-is ∙ (w.in_ok-add.ensures.ok ∙ ap (λ (v : Bool). cond v (with_duplicate n ds) ds) (sym seen))
      | else-not-is_new w ↦
          let unseen : was ≡ false = grind (arith, nat_tests, w.if-not-is_new.false, c.in_ok-is_new.ensures.answer) in
          ap (λ x. x.duplicates) w.self-inside-is ∙ ap (λ (v : Bool). cond v (with_duplicate n ds) ds) (sym unseen)
    ] in
    let now : Bool = holds c.if-not-is_new.self-inside.duplicates m in
    let is_held = ap (λ ns. holds ns m) kept ∙ holds_observed n m was ds in
    let P : DataTracker → Type 0 = λ d. now ≡ (is_duplicate d.tracker m || (eqb m n && (has_seen d.tracker n && ltb (length d.tracker.duplicates) 20))) in
    let t : Tracker = c.args.self.now.tracker in
    let R : ℕ → Type 0 = λ k. now ≡ (is_duplicate t m || (eqb m k && (has_seen t k && ltb (length t.duplicates) 20))) in
    let same : n ≡ number_of c.args.self.now c.args.tsn.0 = cc in
    subst R same (subst P c.self.view_is is_held)
