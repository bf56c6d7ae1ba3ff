use Rattle.std.proofs.Common.{◌≡◌, ◌++◌, ℕ, List, rules, ap, sym, ◌∙◌}
use Rattle.sctp_wire.specs.Field.{be16, be32}
use Rattle.sctp_chunk.specs.Written.{data_value}
use Rattle.sctp_chunk.proofs.data.DataView.of_data.Goals as goal

pub returns-clause-ok : goal.returns-clause-ok
unfolding data_value
returns-clause-ok c =
    let whole : c.args.raw.value.now ≡ be32 c.first_u32-tsn.result.0 ++ (be16 c.first_u16-stream_id.result.0 ++ (be16 c.first_u16-ssn.result.0 ++ (be32 c.first_u32-ppid.result.0 ++ c.first_u32-ppid.result.1.now))) =
    sym c.in_ok-value.ensures.ok.1 ∙ (c.first_u32-tsn.ensures.number ∙ ap (λ (x : List ℕ). be32 c.first_u32-tsn.result.0 ++ x) (c.first_u16-stream_id.ensures.number ∙ ap (λ (x : List ℕ). be16 c.first_u16-stream_id.result.0 ++ x) (c.first_u16-ssn.ensures.number ∙ ap (λ (x : List ℕ). be16 c.first_u16-ssn.result.0 ++ x) (c.first_u32-ppid.ensures.number)))) in
    search rules
