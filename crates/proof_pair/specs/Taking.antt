-- What becomes of data and of forward points that an end with a control block receives (RFC 9260 section 6.2, RFC 3758
-- section 3.6).
use Rattle.std.specs.Prelude.{◌≡◌, ℕ, ◌==◌, ◌||◌, not, Bool, true, false, None, List, length}
use Rattle.sctp_chunk.specs.declared.forward_tsn.SkippedStream.{SkippedStream}
use Rattle.sctp_packet.specs.Chunk.{ChunkTree, FragmentTree, data_chunk, idata_chunk, forward_tsn_chunk, i_forward_tsn_chunk}
use Rattle.sctp_state.specs.Options.{Options}
use Rattle.sctp_rx.specs.DataTracker.{number_of, has_seen, moves_on}
use Rattle.sctp_rx.specs.ReassemblyQueue.{add, forward}
use Rattle.spec_endpoint.specs.Association.{Tcb, Phase, Open, Endpoint}
use Rattle.spec_endpoint.specs.Data.{accepts_fragment, observe_tsn, advance_cumulative_tsn, accepts_point}
use Rattle.spec_endpoint.specs.Input.{misuse, receive}

-- an end in this phase, with this control block
abbrev pub opened : {P : Type 0} → Phase → Tcb → Endpoint P → Endpoint P
opened phase t e = record e { endpoint_state = record e.endpoint_state { state = Open phase t } }

-- I-DATA or DATA, I-FORWARD-TSN or FORWARD-TSN
abbrev pub fragment_chunk : (is_interleaved : Bool) → (tsn : ℕ) → (is_immediate : Bool) → FragmentTree → ChunkTree
fragment_chunk true tsn is_immediate f = idata_chunk tsn is_immediate f
fragment_chunk false tsn is_immediate f = data_chunk tsn is_immediate f

abbrev pub point_chunk : (is_interleaved : Bool) → (tsn : ℕ) → List SkippedStream → ChunkTree
point_chunk true tsn skipped = i_forward_tsn_chunk tsn skipped
point_chunk false tsn skipped = forward_tsn_chunk tsn skipped

-- it is empty, there is no room for it, its TSN is out of range, or too many wait for a reset as it would
abbrev pub is_refused : Options → (tsn : ℕ) → FragmentTree → Tcb → Bool
is_refused o tsn f t = (length f.payload == 0) || not (accepts_fragment o tsn f t)

-- its TSN wasn't seen before
abbrev pub is_new : (tsn : ℕ) → Tcb → Bool
is_new tsn t = not (has_seen t.tracker.tracker (number_of t.tracker tsn))

-- the end has another control block
pub record Leaves {P : Type 0} (e : Endpoint P) (phase : Phase) : Type 0 where
  pub tcb : Tcb
  pub is : e.endpoint_state.state ≡ Open phase tcb

-- Of the control block afterwards: nothing was observed or added. With stalls avoided an acknowledgement may be due; else nothing changed.
pub record IsLeft (o : Options) (before after : Tcb) : Type 0 where
  pub reassembly : after.reassembly ≡ before.reassembly
  pub seen : after.tracker.tracker.seen ≡ before.tracker.tracker.seen
  pub all : o.avoid_stalls ≡ false → after ≡ before

-- Of the control block afterwards: the TSN was observed, and the fragment added where it was new.
pub record IsTaken (tsn : ℕ) (is_immediate : Bool) (f : FragmentTree) (before after : Tcb) : Type 0 where
  pub observes : after.tracker ≡ observe_tsn tsn is_immediate before.tracker
  pub adds : is_new tsn before ≡ true → after.reassembly ≡ add tsn f before.reassembly
  pub keeps : is_new tsn before ≡ false → after.reassembly ≡ before.reassembly

-- The tracker has received the point, and reassembly where it moved the cumulative TSN.
pub record IsPassed (tsn : ℕ) (skipped : List SkippedStream) (before after : Tcb) : Type 0 where
  pub observes : after.tracker ≡ advance_cumulative_tsn tsn before.tracker
  pub forwards : moves_on (number_of before.tracker tsn) before.tracker.tracker ≡ true → after.reassembly ≡ forward tsn skipped before.reassembly
  pub keeps : moves_on (number_of before.tracker tsn) before.tracker.tracker ≡ false → after.reassembly ≡ before.reassembly

-- ---- the laws, of chunks that what was negotiated allows

-- what is refused before it is observed leaves reassembly, and what the tracker has seen, as they were
abbrev pub RefusedDataChangesNothing : Type 0
RefusedDataChangesNothing =
    (is_interleaved : Bool) (tag tsn : ℕ) (is_immediate : Bool) (f : FragmentTree) (phase : Phase) (t : Tcb) (e : Endpoint (List ℕ))
    → misuse t.capabilities (fragment_chunk is_interleaved tsn is_immediate f) ≡ None → is_refused e.endpoint_state.context.options tsn f t ≡ true
    → (l : Leaves (receive tag (fragment_chunk is_interleaved tsn is_immediate f) (opened phase t e)).end phase) × IsLeft e.endpoint_state.context.options t l.tcb

abbrev pub NewDataIsAdded : Type 0
NewDataIsAdded =
    (is_interleaved : Bool) (tag tsn : ℕ) (is_immediate : Bool) (f : FragmentTree) (phase : Phase) (t : Tcb) (e : Endpoint (List ℕ))
    → misuse t.capabilities (fragment_chunk is_interleaved tsn is_immediate f) ≡ None → is_refused e.endpoint_state.context.options tsn f t ≡ false
    → (l : Leaves (receive tag (fragment_chunk is_interleaved tsn is_immediate f) (opened phase t e)).end phase) × IsTaken tsn is_immediate f t l.tcb

abbrev pub RefusedPointsChangeNothing : Type 0
RefusedPointsChangeNothing =
    (is_interleaved : Bool) (tag tsn : ℕ) (skipped : List SkippedStream) (phase : Phase) (t : Tcb) (e : Endpoint (List ℕ))
    → misuse t.capabilities (point_chunk is_interleaved tsn skipped) ≡ None → accepts_point tsn skipped t ≡ false
    → (receive tag (point_chunk is_interleaved tsn skipped) (opened phase t e)).end.endpoint_state.state ≡ Open phase t

abbrev pub PointsReachReassembly : Type 0
PointsReachReassembly =
    (is_interleaved : Bool) (tag tsn : ℕ) (skipped : List SkippedStream) (phase : Phase) (t : Tcb) (e : Endpoint (List ℕ))
    → misuse t.capabilities (point_chunk is_interleaved tsn skipped) ≡ None → accepts_point tsn skipped t ≡ true
    → (l : Leaves (receive tag (point_chunk is_interleaved tsn skipped) (opened phase t e)).end phase) × IsPassed tsn skipped t l.tcb
