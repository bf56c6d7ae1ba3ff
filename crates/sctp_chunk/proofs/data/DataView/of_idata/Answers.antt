use Rattle.std.proofs.Common.{◌≡◌, ◌++◌, ℕ, List, if◌then◌else◌, arith, refl, ap, sym, ◌∙◌}
use Rattle.sctp_wire.specs.Field.{be16, be32}
use Rattle.sctp_chunk.proofs.FragmentLemmas.{field_read, field_fits, idata_carries, idata_read}
use Rattle.sctp_chunk.proofs.data.DataView.of_idata.Goals as goal
use Rattle.sctp_chunk.proofs.data.DataView.of_idata.Goals.{then-is_beginning, else-is_beginning, then-is_beginning-2, else-is_beginning-2}

pub returns-clause-ok : goal.returns-clause-ok
returns-clause-ok c =
    let whole : c.args.raw.value.now ≡ be32 c.first_u32-tsn.result.0 ++ (be16 c.first_u16-stream_id.result.0 ++ (be16 c.first_u16-reserved.result.0
    ++ (be32 c.first_u32-mid.result.0 ++ (be32 c.first_u32-ppid_or_fsn.result.0 ++ c.first_u32-ppid_or_fsn.result.1.now)))) =
    sym c.in_ok-value.ensures.ok.1 ∙ (c.first_u32-tsn.ensures.number ∙ ap (λ (x : List ℕ). be32 c.first_u32-tsn.result.0 ++ x)
    (c.first_u16-stream_id.ensures.number ∙ ap (λ (x : List ℕ). be16 c.first_u16-stream_id.result.0 ++ x)
    (c.first_u16-reserved.ensures.number ∙ ap (λ (x : List ℕ). be16 c.first_u16-reserved.result.0 ++ x)
    (c.first_u32-mid.ensures.number ∙ ap (λ (x : List ℕ). be32 c.first_u32-mid.result.0 ++ x) c.first_u32-ppid_or_fsn.ensures.number)))) in
    let fsn : c.if-is_beginning.result ≡ (if c.has_flag-is_beginning.result then 0 else c.first_u32-ppid_or_fsn.result.0) =
    elim c.if-is_beginning.branch [ then-is_beginning w ↦ rw w.if-is_beginning.true w.result-is | else-is_beginning w ↦ rw w.if-is_beginning.false w.result-is ] in
    let ppid : c.if-is_beginning-2.result ≡ (if c.has_flag-is_beginning.result then c.first_u32-ppid_or_fsn.result.0 else 0) =
    elim c.if-is_beginning-2.branch [ then-is_beginning-2 w ↦ rw w.if-is_beginning-2.true w.result-is | else-is_beginning-2 w ↦ rw w.if-is_beginning-2.false w.result-is ] in
    let fits = field_fits c.has_flag-is_beginning.result c.first_u32-ppid_or_fsn.result.0 c.if-is_beginning.result c.if-is_beginning-2.result fsn ppid c.first_u32-ppid_or_fsn.ensures.fits in
    record {
      kind = c.in_ok-value.ensures.ok.0;
      of_its_type = tt;
      flags = record {
        immediate_flag = c.has_flag-3.ensures;
        unordered = c.stream_key.ensures.kind ∙ c.has_flag.ensures;
        beginning = c.has_flag-is_beginning.ensures;
        ending = c.has_flag-2.ensures;
      };
      value = (
        c.first_u16-reserved.result.0,
        c.first_u16-reserved.ensures.fits,
        idata_read c.args.raw.value.now _ _ _ _ _ _ _ c.first_u32-ppid_or_fsn.result.0 c.if-is_beginning.result c.if-is_beginning-2.result _ c.has_flag-is_beginning.result _ whole c.stream_key.ensures.stream refl
            (field_read c.has_flag-is_beginning.result c.first_u32-ppid_or_fsn.result.0 c.if-is_beginning.result c.if-is_beginning-2.result fsn ppid),
      );
      fits = (
        c.first_u32-tsn.ensures.fits,
        record {
          stream_id = rw c.stream_key.ensures.stream c.first_u16-stream_id.ensures.fits;
          ssn = omega arith;
          mid = c.first_u32-mid.ensures.fits;
          fsn = fits.0;
          ppid = fits.1;
        },
      );
      carries = idata_carries _ _ _ c.first_u32-ppid_or_fsn.result.0 c.if-is_beginning.result c.if-is_beginning-2.result _ _ c.has_flag-is_beginning.result _ _ fsn ppid;
    }
