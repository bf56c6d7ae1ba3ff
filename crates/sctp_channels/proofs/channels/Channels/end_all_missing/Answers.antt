use Rattle.std.proofs.Common.{◌≡◌, subst, sym}
use Rattle.std.specs.Map.{keys_of}
use Rattle.sctp_channels.specs.Channels.{Channels, end_missing}
use Rattle.sctp_channels.specs.Steps.{each}
use Rattle.sctp_channels.proofs.FollowsLemmas.{none_missing}
use Rattle.sctp_channels.proofs.channels.Channels.end_all_missing.Goals as goal

pub returns-then-are_below : goal.returns-then-are_below
returns-then-are_below c =
    subst (λ (x : Channels). x ≡ each end_missing (keys_of x.entries) x) c.self.view_is
    (sym (none_missing (keys_of c.self.inside.entries) _ (c.are_below.ensures c.if-are_below.true)))
