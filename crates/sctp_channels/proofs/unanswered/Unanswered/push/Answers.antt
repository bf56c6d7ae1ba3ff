use Rattle.std.proofs.Common.{ℕ, List, ap, ◌∷◌, ◌++◌, [], ◌∙◌}
use Rattle.sctp_channels.proofs.UnansweredLemmas.{is_absent, waiting_more}
use Rattle.sctp_channels.proofs.unanswered.Unanswered.push.Goals as goal

pub invariant_of-self-then-branch : goal.invariant_of-self-then-branch
invariant_of-self-then-branch c =
    waiting_more c.args.id c.self.inside.waiting.keys c.insert.new.self.keys c.self.inside.streams.items c.push_back_reserved.new.self.items c.self.invariant c.ranges.id.fits
    (is_absent _ c.in_ok-insert.field-0 c.in_ok-insert.ensures.added c.if-branch.true) c.in_ok-insert.ensures.updates.0
    (c.push_back_reserved.ensures.items ∙ ap (λ (ids : List ℕ). ids ++ c.args.id ∷ []) c.in_ok-reserve.ensures.items)
