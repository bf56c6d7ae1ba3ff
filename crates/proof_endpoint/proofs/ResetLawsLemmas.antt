-- The laws of resets.
use Rattle.std.proofs.Common.{◌≡◌, ℕ, Bool, true, false, List, refl}
use Rattle.std.proofs.lemmas.Bool.{lt-ltb}
use Rattle.sctp_serial.specs.declared.api.StreamId.{StreamId}
use Rattle.sctp_rx.specs.DataTracker.{number_of}
use Rattle.spec_endpoint.specs.ResetRequests.{is_final, is_last_request, is_next_request}
use Rattle.spec_endpoint.specs.StreamReset.{Handling, is_ahead, resets_unless, outgoing_by}
use Rattle.spec_endpoint.specs.ResetLaws.{DoneRequestsAreAnswered, IsNotPerformed, ResetsWait, RequestsFit}
use Rattle.proof_endpoint.proofs.RequestSizeLemmas.{request_fits}
use Rattle.sctp_serial.proofs.NumberLemmas.{is_itself}

pub done_are_answered : DoneRequestsAreAnswered
done_are_answered number last_tsn streams x e f =
    rw (e, is_itself x.tcb.requests.last, f) refl

waits_if : (b : Bool) (number last_tsn : ℕ) (streams : List StreamId) (x : Handling (List ℕ)) → b ≡ true → IsNotPerformed x (resets_unless b number last_tsn streams x)
waits_if true number last_tsn streams x e = record { context = refl; streams = refl }
waits_if false number last_tsn streams x e = absurd (cc)

waits_by : (a b d : Bool) (number last_tsn : ℕ) (streams : List StreamId) (x : Handling (List ℕ)) → is_ahead last_tsn x.tcb ≡ true
    → IsNotPerformed x (outgoing_by a b d number last_tsn streams x)
waits_by true b true number last_tsn streams x e = record { context = refl; streams = refl }
waits_by true b false number last_tsn streams x e = waits_if (is_ahead last_tsn x.tcb) number last_tsn streams x e
waits_by false true d number last_tsn streams x e = waits_if (is_ahead last_tsn x.tcb) number last_tsn streams x e
waits_by false false d number last_tsn streams x e = record { context = refl; streams = refl }

pub resets_wait : ResetsWait
resets_wait number last_tsn streams x h =
    waits_by (is_last_request number x.tcb.requests) (is_next_request number x.tcb.requests) (is_final x.tcb.requests.result) number last_tsn streams x
    (lt-ltb x.tcb.tracker.tracker.seen.front (number_of x.tcb.tracker last_tsn) h)

pub requests_fit : RequestsFit
requests_fit = request_fits
