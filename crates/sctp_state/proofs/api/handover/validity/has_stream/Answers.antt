use Rattle.std.proofs.Common.{◌∙◌, rules}
use Rattle.std.proofs.lemmas.List.Sorted.{answers_always}
use Rattle.sctp_state.specs.declared.api.handover.HandoverOutgoingStream.{HandoverOutgoingStream}
use Rattle.sctp_state.proofs.ValidityLemmas.{found}
use Rattle.sctp_state.proofs.api.handover.validity.has_stream.Goals as goal

pub returns : goal.returns
returns c =
    let looked = c.binary_search_by_key.ensures in
    c.is_ok.ensures.value ∙ found c.args.streams.now c.args.id c.binary_search_by_key.result looked.bound (looked.position (λ (s : HandoverOutgoingStream). s.id) (answers_always _ _ _ (λ f a r next called. search rules))) c.requires.rise
