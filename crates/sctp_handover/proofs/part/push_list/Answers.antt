use Rattle.std.proofs.Common.{refl}
use Rattle.sctp_handover.proofs.FieldLemmas.{passes_on}
use Rattle.sctp_handover.proofs.PartLemmas.{list_written}
use Rattle.sctp_handover.proofs.part.push_list.Goals as goal

pub returns-clause-wrote : goal.returns-clause-wrote
returns-clause-wrote g c = passes_on c.push_parts.result c.push_parts.ensures.wrote (λ last. list_written g.P.Part.value_of g.P.Part.bytes_of c.args.parts.now _ _ _ _ refl c.in_ok-push_u64.ensures.wrote last)
