-- DATA, I-DATA and forward points (RFC 9260 section 6.2, RFC 8260, RFC 3758 section 3.6).
use Rattle.std.specs.Prelude.{ℕ, ◌+◌, ◌==◌, ◌||◌, ◌&&◌, not, nat_lt, nat_le, Bool, true, false, List, [], ◌∷◌, length, codes}
use Rattle.sctp_wire.specs.Cause.{no_user_data}
use Rattle.sctp_packet.specs.Chunk.{FragmentTree, error_chunk}
use Rattle.sctp_chunk.specs.declared.forward_tsn.SkippedStream.{SkippedStream}
use Rattle.sctp_state.specs.declared.api.ErrorKind.TheVariants.{NotConnected, ProtocolViolation}
use Rattle.sctp_state.specs.Options.{Options}
use Rattle.sctp_rx.specs.DataTracker.{DataTracker, number_of, is_valid, has_seen, moves_on, observe}
use Rattle.sctp_rx.specs.DataTracker as tracker
use Rattle.sctp_rx.specs.ReassemblyQueue.{Reassembly, watermark, queued_bytes, held_fragments}
use Rattle.sctp_rx.specs.ReassemblyQueue as reassembly
use Rattle.spec_endpoint.specs.Association.{Tcb, State, Closed, CookieWait, Open, Context, EndpointState, open_as, with_context}
use Rattle.spec_endpoint.specs.Packets.{emit_error, emit_chunk}
use Rattle.spec_endpoint.specs.Sending.{force_ack}

-- ---- DATA

abbrev pub no_data : {P : Type 0} → Context P → Context P
no_data c = emit_error ProtocolViolation (codes "Received DATA chunk with no user data") c

abbrev pub on_no_data : {P : Type 0} → (tsn : ℕ) → State → Context P → Context P
on_no_data tsn Closed c = no_data c
on_no_data tsn (CookieWait tag first t1) c = no_data c
on_no_data tsn (Open phase t) c = emit_chunk (error_chunk (no_user_data (record { 0 = tsn }) ∷ [])) t (no_data c)

abbrev pub not_connected : {P : Type 0} → Context P → Context P
not_connected c = emit_error NotConnected (codes "Received unexpected commands on socket that is not connected") c

-- no more may come: there are as many bytes, or as many fragments, as may be
abbrev pub is_full : Reassembly → Bool
is_full r = nat_le r.max_size (queued_bytes r) || (nat_le (watermark r) (queued_bytes r) || nat_le r.max_fragments (held_fragments r))

-- With stalls avoided the next TSN is taken all the same, so that what is held can become complete (RFC 9260 section 6.2); as long as there is room for
-- one message more, and for one fragment.
abbrev pub most_bytes : Options → ℕ
most_bytes o = o.max_receiver_window_buffer_size + o.max_message_size

abbrev pub has_reserve : Options → Reassembly → Bool
has_reserve o r = nat_lt (queued_bytes r) (most_bytes o) && nat_lt (held_fragments r) r.max_fragments

abbrev pub is_next : (tsn : ℕ) → DataTracker → Bool
is_next tsn d = number_of d tsn == d.tracker.seen.front + 1

abbrev pub takes_next : Options → (tsn : ℕ) → Tcb → Bool
takes_next o tsn t = o.avoid_stalls && (is_next tsn t.tracker && has_reserve o t.reassembly)

abbrev pub has_room : Options → (tsn : ℕ) → Tcb → Bool
has_room o tsn t = not (is_full t.reassembly) || takes_next o tsn t

abbrev pub accepts_tsn : Options → (tsn : ℕ) → Tcb → Bool
accepts_tsn o tsn t = has_room o tsn t && is_valid t.tracker.tracker (number_of t.tracker tsn)

-- a fragment is taken if its TSN may be, and if it may wait where it would wait for a reset
abbrev pub accepts_fragment : Options → (tsn : ℕ) → FragmentTree → Tcb → Bool
accepts_fragment o tsn f t = accepts_tsn o tsn t && reassembly.admits_fragment tsn f.stream_id t.reassembly

-- what is dropped for want of room is answered at once, with what was taken so far
abbrev pub told_unless : (has_room : Bool) → Tcb → Tcb
told_unless true t = t
told_unless false t = force_ack t

abbrev pub told_of_drop : (avoids_stalls has_room : Bool) → Tcb → Tcb
told_of_drop true has_room t = told_unless has_room t
told_of_drop false has_room t = t

abbrev pub observe_tsn : (tsn : ℕ) → (is_immediate : Bool) → DataTracker → DataTracker
observe_tsn tsn is_immediate d = record d { tracker = observe (number_of d tsn) is_immediate d.tracker }

-- a fragment whose TSN is new is kept
abbrev pub added_unless : (was_seen : Bool) → (tsn : ℕ) → FragmentTree → Reassembly → Reassembly
added_unless true tsn f r = r
added_unless false tsn f r = reassembly.add tsn f r

abbrev pub take_fragment : (tsn : ℕ) → (is_immediate : Bool) → FragmentTree → Tcb → Tcb
take_fragment tsn is_immediate f t = record t {
  tracker = observe_tsn tsn is_immediate t.tracker;
  reassembly = added_unless (has_seen t.tracker.tracker (number_of t.tracker tsn)) tsn f t.reassembly;
}

abbrev pub fragment_if : (takes : Bool) → (tsn : ℕ) → (is_immediate : Bool) → FragmentTree → Tcb → Tcb
fragment_if true tsn is_immediate f t = take_fragment tsn is_immediate f t
fragment_if false tsn is_immediate f t = t

abbrev pub take_data : Options → (tsn : ℕ) → (is_immediate : Bool) → FragmentTree → Tcb → Tcb
take_data o tsn is_immediate f t =
    fragment_if (accepts_fragment o tsn f t) tsn is_immediate f (told_of_drop o.avoid_stalls (has_room o tsn t) t)

abbrev pub on_data_in : {P : Type 0} → State → (tsn : ℕ) → (is_immediate : Bool) → FragmentTree → Context P → EndpointState P
on_data_in Closed tsn is_immediate f c = record { state = Closed; context = not_connected c }
on_data_in (CookieWait tag first t1) tsn is_immediate f c = record { state = CookieWait tag first t1; context = not_connected c }
on_data_in (Open phase t) tsn is_immediate f c = open_as phase (take_data c.options tsn is_immediate f t) c

abbrev pub on_data_if : {P : Type 0} → (is_empty : Bool) → (tsn : ℕ) → (is_immediate : Bool) → FragmentTree → EndpointState P → EndpointState P
on_data_if true tsn is_immediate f s = with_context s (on_no_data tsn s.state s.context)
on_data_if false tsn is_immediate f s = on_data_in s.state tsn is_immediate f s.context

abbrev pub on_data : {P : Type 0} → (tsn : ℕ) → (is_immediate : Bool) → FragmentTree → EndpointState P → EndpointState P
on_data tsn is_immediate f s = on_data_if (length f.payload == 0) tsn is_immediate f s

-- ---- a forward point, which reaches reassembly where it moves the cumulative TSN

abbrev pub advance_cumulative_tsn : (tsn : ℕ) → DataTracker → DataTracker
advance_cumulative_tsn tsn d = record d { tracker = tracker.forward (number_of d tsn) d.tracker }

abbrev pub skipped_if : (moves_on : Bool) → (tsn : ℕ) → List SkippedStream → Reassembly → Reassembly
skipped_if true tsn skipped r = reassembly.forward tsn skipped r
skipped_if false tsn skipped r = r

abbrev pub handle_forward_tsn : (tsn : ℕ) → List SkippedStream → Tcb → Tcb
handle_forward_tsn tsn skipped t = record t {
  tracker = advance_cumulative_tsn tsn t.tracker;
  reassembly = skipped_if (moves_on (number_of t.tracker tsn) t.tracker.tracker) tsn skipped t.reassembly;
}

-- one that is taken: its TSN is not too far away, and what of it waits for a reset has room
abbrev pub accepts_point : (tsn : ℕ) → List SkippedStream → Tcb → Bool
accepts_point tsn skipped t = is_valid t.tracker.tracker (number_of t.tracker tsn) && reassembly.admits_point tsn skipped t.reassembly

abbrev pub handle_forward_tsn_if : (is_accepted : Bool) → (tsn : ℕ) → List SkippedStream → Tcb → Tcb
handle_forward_tsn_if true tsn skipped t = handle_forward_tsn tsn skipped t
handle_forward_tsn_if false tsn skipped t = t

abbrev pub handle_forward_tsn_in : State → (tsn : ℕ) → List SkippedStream → State
handle_forward_tsn_in Closed tsn skipped = Closed
handle_forward_tsn_in (CookieWait tag first t1) tsn skipped = CookieWait tag first t1
handle_forward_tsn_in (Open phase t) tsn skipped = Open phase (handle_forward_tsn_if (accepts_point tsn skipped t) tsn skipped t)

abbrev pub on_forward : {P : Type 0} → (tsn : ℕ) → List SkippedStream → EndpointState P → EndpointState P
on_forward tsn skipped s = record s { state = handle_forward_tsn_in s.state tsn skipped }
