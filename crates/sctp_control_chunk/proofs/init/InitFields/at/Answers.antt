use Rattle.std.proofs.Common.{List, ℕ, drop, ap, sym, ◌∙◌}
use Rattle.sctp_wire.specs.Field.{be16, be32}
use Rattle.sctp_control_chunk.proofs.init.InitFields.at.Goals as goal

pub returns-clause-behind : goal.returns-clause-behind
unfolding be16 be32
returns-clause-behind c =
    let a = c.first_u32-initiate_tag.ensures.number in
    let b = c.first_u32-a_rwnd.ensures.number in
    let d = c.first_u16-nbr_outbound_streams.ensures.number in
    let e = c.first_u16-nbr_inbound_streams.ensures.number in
    let f = c.first_u32-initial_tsn.ensures.number in
    sym (ap (λ (x : List ℕ). drop 16 x) a ∙ ap (λ (x : List ℕ). drop 12 x) b ∙ ap (λ (x : List ℕ). drop 8 x) d ∙ ap (λ (x : List ℕ). drop 6 x) e ∙ ap (λ (x : List ℕ). drop 4 x) f)
