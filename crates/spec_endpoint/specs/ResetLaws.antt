-- Laws of resets: what is performed once, what has to wait, and that a request has room for its streams.
use Rattle.std.specs.Prelude.{◌≡◌, ℕ, ◌^◌, ◌<◌, ◌≤◌, true, List, length}
use Rattle.sctp_serial.specs.declared.api.StreamId.{StreamId}
use Rattle.sctp_rx.specs.DataTracker.{number_of}
use Rattle.spec_endpoint.specs.Packets.{PacketDraft, room, fits}
use Rattle.spec_endpoint.specs.ResetRequests.{Request, request_chunk, is_final}
use Rattle.spec_endpoint.specs.Sending.{most_streams}
use Rattle.spec_endpoint.specs.StreamReset.{Handling, respond, on_outgoing}

-- the last request again, once it was done, changes nothing and is answered as before
abbrev pub DoneRequestsAreAnswered : Type 0
DoneRequestsAreAnswered =
    (number last_tsn : ℕ) (streams : List StreamId) (x : Handling (List ℕ)) → number ≡ x.tcb.requests.last → is_final x.tcb.requests.result ≡ true
    → on_outgoing number last_tsn streams x ≡ respond number x.tcb.requests.result x

-- while a TSN up to the last one of a request did not come, nothing is emitted, and no stream is reset
pub record IsNotPerformed (before after : Handling (List ℕ)) : Type 0 where
  pub context : after.context ≡ before.context
  pub streams : after.tcb.reassembly.streams ≡ before.tcb.reassembly.streams

abbrev pub ResetsWait : Type 0
ResetsWait =
    (number last_tsn : ℕ) (streams : List StreamId) (x : Handling (List ℕ)) → x.tcb.tracker.tracker.seen.front < number_of x.tcb.tracker last_tsn
    → IsNotPerformed x (on_outgoing number last_tsn streams x)

-- the chunk with the streams that are put into a request fits its packet
abbrev pub RequestsFit : Type 0
RequestsFit =
    (p : PacketDraft) (r : Request) → room p < 2 ^ 16 → 0 < length r.streams → length r.streams ≤ most_streams p → fits p (request_chunk r) ≡ true
