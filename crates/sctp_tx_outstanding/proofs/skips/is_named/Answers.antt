use Rattle.std.proofs.Common.{◌≡◌, ◌<◌, ◌≤◌, length, slice_index_or, ap, ◌∙◌, rules}
use Rattle.sctp_tx_outstanding.specs.declared.skips.Touched.{Touched}
use Rattle.sctp_tx_outstanding.specs.Forward.{is_alike}
use Rattle.sctp_tx_outstanding.specs.Touched.{entries_in}
use Rattle.sctp_tx_outstanding.proofs.EntriesLemmas.{named_at}
use Rattle.sctp_tx_outstanding.proofs.TouchedLemmas.{alike_here, alike_beyond}
use Rattle.sctp_tx_outstanding.proofs.skips.is_named.Goals as goal

pub returns-in-Some : goal.returns-in-Some
returns-in-Some c =
    let ts = c.args.touched.now in
    let e = c.args.entry in
    let k = c.place_of.result in
    let t = c.in-Some.other.now in
    let within : k < length ts = search rules in
    let here : t ≡ slice_index_or ts k t = search rules in
    c.is_alike.ensures ∙ (ap (λ (x : Touched). is_alike e x.entry) here ∙ (alike_here e k ts t within ∙ named_at e (entries_in ts) k c.place_of.ensures.place c.requires))

pub returns-in-None : goal.returns-in-None
returns-in-None c =
    let ts = c.args.touched.now in
    let e = c.args.entry in
    let k = c.place_of.result in
    let beyond : length ts ≤ k = search rules in
    alike_beyond e k ts beyond ∙ named_at e (entries_in ts) k c.place_of.ensures.place c.requires
