-- What is taken out of an interval list in turn.
use Rattle.std.proofs.Common.{◌≡◌, Bool, None, Some, List, ap, sym, ◌∙◌}
use Rattle.std.specs.List.{find}
use Rattle.sctp_fragments.specs.Runs.{flat, AreRuns}
use Rattle.sctp_fragments.specs.Held.{Held, rank_of, goes_on, without_first_of, left_by, intervals_of}
use Rattle.sctp_fragments.proofs.RunLemmas.{flat_append}
use Rattle.sctp_reassembly.specs.Turns.{IsFirstOut}
use Rattle.sctp_reassembly.proofs.ListLemmas.{intervals_flat, Takes}
use Rattle.sctp_reassembly.proofs.FindLemmas.{found, taken_left, taken_intervals}

module _ (test : List Held → Bool) (old new : List (List Held)) (run : List Held) (h : AreRuns rank_of goes_on None old) (o : IsFirstOut test old run new) where
  pub popped : Some run ≡ find test (intervals_of (flat old))
  popped = sym (ap (find test) (intervals_flat old h ∙ o.out.is) ∙ found test o.out.front o.out.back run o.none o.passes)

  pub popped_intervals : Takes (flat old) run (flat new) new → intervals_of (flat new) ≡ without_first_of test (intervals_of (flat old))
  popped_intervals t = taken_intervals test (flat old) run (flat new) o.out.front o.out.back (intervals_flat old h ∙ o.out.is) o.none o.passes (intervals_flat new t.runs ∙ o.out.left)

  pub popped_left : flat new ≡ left_by test (flat old)
  popped_left = taken_left test (flat old) run (flat new) o.out.front o.out.back (intervals_flat old h ∙ o.out.is) o.none o.passes (ap flat o.out.left ∙ flat_append o.out.front o.out.back)
