-- Streams whose reset is prepared, one after the other.
use Rattle.std.proofs.Common.{◌≡◌, ℕ, ◌+◌, ◌<◌, suc, List, length, drop, get_or, sym, ap, ◌∙◌, add-one}
use Rattle.std.proofs.Math.Seq.{drop-cons}
use Rattle.sctp_serial.specs.declared.api.StreamId.{StreamId}
use Rattle.sctp_state.specs.Events.{numbers_of}
use Rattle.spec_endpoint.specs.Association.{Context}
use Rattle.spec_endpoint.specs.StreamReset.{prepare_reset_stream, prepare_all}

pub prepare_each : {P : Type 0} (streams : List StreamId) (i : ℕ) (none : StreamId) (c d : Context P) → i < length streams → d ≡ prepare_reset_stream (get_or streams i none).0 c
    → prepare_all (numbers_of (drop (i + 1) streams)) d ≡ prepare_all (numbers_of (drop i streams)) c
prepare_each {P} streams i none c d more after =
    ap (λ (k : ℕ). prepare_all (numbers_of (drop k streams)) d) (add-one i)
    ∙ (ap (λ (e : Context P). prepare_all (numbers_of (drop (suc i) streams)) e) after
    ∙ sym (ap (λ (rest : List StreamId). prepare_all (numbers_of rest) c) (drop-cons streams i none more)))
