use Rattle.std.proofs.Common.{◌++◌, List, append-nil, ap, sym, ◌∙◌}
use Rattle.std.specs.List.{flat_map}
use Rattle.sctp_channels.specs.Channels.{Output}
use Rattle.sctp_channels.specs.TwoEnds.{message_in, told_in}
use Rattle.sctp_channels.proofs.TwoEndsLemmas.{told_was_accepted}
use Rattle.sctp_channels.proofs.two_ends_laws.what_is_told_was_accepted.Goals as goal

pub returns-clause-steps : goal.returns-clause-steps
returns-clause-steps c = told_was_accepted

pub returns-clause-calls : goal.returns-clause-calls
returns-clause-calls c = λ d e f none whole offers places short came.
    let told = told_was_accepted f.steps d e f.runs whole offers places short came in (
      told.0,
      sym (append-nil (flat_map told_in e.events)) ∙ ap (λ (os : List Output). flat_map told_in e.events ++ flat_map message_in os) (sym none) ∙ told.1,
    )
