-- A call that leaves an end closed has ended its association.
use Rattle.std.proofs.Common.{◌≡◌, ℕ, ◌+◌, ◌≤◌, Bool, true, false, Option, Some, None, List, [], ◌∷◌, refl, sym, ◌∙◌, arith}
use Rattle.std.proofs.lemmas.Bool.{both_ways}
use Rattle.sctp_packet.specs.Chunk.{ChunkTree}
use Rattle.sctp_packet.specs.Packet.{PacketTree}
use Rattle.sctp_rx.specs.DataTracker.{is_ack_due}
use Rattle.spec_endpoint.specs.Association.{Tcb, Phase, CookieEchoed, Established, ShutdownPending, ShutdownSent, ShutdownReceived, ShutdownAckSent, State, Closed, CookieWait, Open, Context, EndpointState, Endpoint, where_open}
use Rattle.spec_endpoint.specs.Sending.{take_due_ack}
use Rattle.spec_endpoint.specs.Input.{packet_refusal, AfterChunk, receive, receive_rest, receive_all, has_data_chunk, repeats, repeats_if, ack_if_due, at_end, on_packet_end, in_endpoint_state, on_accepted_packet, count_packet_at, packet_unless, on_packet, packet_acked, shut_waiting, shut_if}
use Rattle.spec_endpoint.specs.Laws.{Call, Connect, Close, Shutdown, Send, SendMany, TakeMessage, SetLowThreshold, SetPriority, SetMaxMessageSize, Advance, HandOver, Restore, ReceivePacket, ReceiveNoPacket, called, is_closed, ends, endings_after, endings_by, endings_unless, endings_in, endings_in_call, ResetStreams}
use Rattle.spec_endpoint.specs.Shutdown.{}

one_ends : (s t : State) → is_closed s ≡ false → is_closed t ≡ true → 1 ≤ ends s t
one_ends Closed t e f = absurd (both_ways true e refl)
one_ends (CookieWait tag first t1) Closed e f = omega arith
one_ends (CookieWait tag first t1) (CookieWait new_tag new_first new_t1) e f = absurd (both_ways false refl f)
one_ends (CookieWait tag first t1) (Open phase t) e f = absurd (both_ways false refl f)
one_ends (Open phase t) Closed e f = omega arith
one_ends (Open phase t) (CookieWait tag first t1) e f = absurd (both_ways false refl f)
one_ends (Open phase t) (Open new_phase u) e f = absurd (both_ways false refl f)

module _ {P : Type 0} where
  stays_open_from : (row : Phase → Tcb → Context P → EndpointState P) (st : State) (c : Context P)
      → ((phase : Phase) (t : Tcb) (d : Context P) → is_closed (row phase t d).state ≡ false)
      → is_closed (where_open row (record { state = st; context = c })).state ≡ is_closed st
  stays_open_from row Closed c h = refl
  stays_open_from row (CookieWait tag first t1) c h = refl
  stays_open_from row (Open phase t) c h = h phase t c

  stays_open : (row : Phase → Tcb → Context P → EndpointState P) (s : EndpointState P) → ((phase : Phase) (t : Tcb) (d : Context P) → is_closed (row phase t d).state ≡ false)
      → is_closed (where_open row s).state ≡ is_closed s.state
  stays_open row s h = stays_open_from row s.state s.context h

  open_repeats : (phase : Phase) (t : Tcb) (c : Context P) → is_closed (repeats phase t c).state ≡ false
  open_repeats (CookieEchoed t1 cookie) t c = refl
  open_repeats Established t c = refl
  open_repeats ShutdownPending t c = refl
  open_repeats (ShutdownSent t2) t c = refl
  open_repeats ShutdownReceived t c = refl
  open_repeats (ShutdownAckSent t2) t c = refl

  same_repeats : (b : Bool) (s : EndpointState P) → is_closed (repeats_if b s).state ≡ is_closed s.state
  same_repeats true s = stays_open repeats s open_repeats
  same_repeats false s = refl

  open_ended_if : (b : Bool) (phase : Phase) (t : Tcb) (c : Context P) → is_closed (ack_if_due b phase t c).state ≡ false
  open_ended_if true phase t c = refl
  open_ended_if false phase t c = refl

  open_acked : (phase : Phase) (t : Tcb) (c : Context P) → is_closed (packet_acked phase t c).state ≡ false
  open_acked phase t c = open_ended_if (is_ack_due false (at_end c.now t).tracker.tracker.ack) phase (take_due_ack false (at_end c.now t)) c

  open_shut : (phase : Phase) (t : Tcb) (c : Context P) → is_closed (shut_waiting phase t c).state ≡ false
  open_shut phase t c = refl

  same_shut : (b : Bool) (s : EndpointState P) → is_closed (shut_if b s).state ≡ is_closed s.state
  same_shut true s = stays_open shut_waiting s open_shut
  same_shut false s = refl

  open_ended : (phase : Phase) (t : Tcb) (c : Context P) → is_closed (on_packet_end phase t c).state ≡ false
  open_ended phase t c = same_shut c.options.avoid_stalls (packet_acked phase t c) ∙ open_acked phase t c

  -- ---- the chunks

  some_rest : (b closed : Bool) (n : ℕ) (rest : Endpoint P → Endpoint P) (count : Endpoint P → ℕ) (s : Endpoint P) → is_closed s.endpoint_state.state ≡ closed
      → (closed ≡ true → 1 ≤ n)
      → ((t : Endpoint P) → is_closed t.endpoint_state.state ≡ false → is_closed (rest t).endpoint_state.state ≡ true → 1 ≤ count t)
      → is_closed (receive_rest rest (record { end = s; allows_next = b })).endpoint_state.state ≡ true → 1 ≤ n + endings_after count (record { end = s; allows_next = b })
  some_rest b true n rest count s e one more f =
      let k : 1 ≤ n = one refl in
      omega (arith, k)
  some_rest true false n rest count s e one more f =
      let k : 1 ≤ count s = more s e f in
      omega (arith, k)
  some_rest false false n rest count s e one more f = absurd (both_ways (is_closed s.endpoint_state.state) e f)

  some_by : (tag : ℕ) (chunks : List ChunkTree) (s : Endpoint P) → is_closed s.endpoint_state.state ≡ false → is_closed (receive_all tag chunks s).endpoint_state.state ≡ true
      → 1 ≤ endings_by tag chunks s
  some_by tag [] s e f = absurd (both_ways (is_closed s.endpoint_state.state) e f)
  some_by tag (chunk ∷ chunks) s e f =
      let h : AfterChunk P = receive tag chunk s in
      some_rest h.allows_next (is_closed h.end.endpoint_state.state) (ends s.endpoint_state.state h.end.endpoint_state.state) (receive_all tag chunks) (endings_by tag chunks) h.end refl
      (one_ends s.endpoint_state.state h.end.endpoint_state.state e) (some_by tag chunks) f

  some_handled : (tag : ℕ) (chunks : List ChunkTree) (s : Endpoint P) → is_closed s.endpoint_state.state ≡ false → is_closed (on_accepted_packet tag chunks s).endpoint_state.state ≡ true
      → 1 ≤ endings_by tag chunks (in_endpoint_state (repeats_if (has_data_chunk chunks)) s)
  some_handled tag chunks s e f =
      let first : Endpoint P = in_endpoint_state (repeats_if (has_data_chunk chunks)) s in
      let middle : Endpoint P = receive_all tag chunks first in
      some_by tag chunks first (same_repeats (has_data_chunk chunks) s.endpoint_state ∙ e) (sym (stays_open on_packet_end middle.endpoint_state open_ended) ∙ f)

  some_unless : (o : Option (List ℕ)) (tag : ℕ) (chunks : List ChunkTree) (s : Endpoint P) → is_closed s.endpoint_state.state ≡ false
      → is_closed (packet_unless o tag chunks s).endpoint_state.state ≡ true → 1 ≤ endings_unless o tag chunks s
  some_unless None tag chunks s e f = some_handled tag chunks s e f
  some_unless (Some text) tag chunks s e f = absurd (both_ways (is_closed s.endpoint_state.state) e f)

  some_packet : (p : PacketTree) (s : Endpoint P) → is_closed s.endpoint_state.state ≡ false → is_closed (on_packet p s).endpoint_state.state ≡ true → 1 ≤ endings_in p s
  some_packet p s e f =
      some_unless (packet_refusal p.header.verification_tag p.chunks s.endpoint_state.state) p.header.verification_tag p.chunks (count_packet_at s) e f

  pub some_call : (call : Call) (s : Endpoint P) → is_closed s.endpoint_state.state ≡ false → is_closed (called call s).endpoint_state.state ≡ true → 1 ≤ endings_in_call call s
  some_call (ReceivePacket p) s e f = some_packet p s e f
  some_call Connect s e f = one_ends s.endpoint_state.state (called Connect s).endpoint_state.state e f
  some_call Close s e f = one_ends s.endpoint_state.state (called Close s).endpoint_state.state e f
  some_call Shutdown s e f = one_ends s.endpoint_state.state (called Shutdown s).endpoint_state.state e f
  some_call (Send m o) s e f = one_ends s.endpoint_state.state (called (Send m o) s).endpoint_state.state e f
  some_call (SendMany ms o) s e f = one_ends s.endpoint_state.state (called (SendMany ms o) s).endpoint_state.state e f
  some_call (ResetStreams streams) s e f = one_ends s.endpoint_state.state (called (ResetStreams streams) s).endpoint_state.state e f
  some_call TakeMessage s e f = one_ends s.endpoint_state.state (called TakeMessage s).endpoint_state.state e f
  some_call (SetLowThreshold stream bytes) s e f = one_ends s.endpoint_state.state (called (SetLowThreshold stream bytes) s).endpoint_state.state e f
  some_call (SetPriority stream priority) s e f = one_ends s.endpoint_state.state (called (SetPriority stream priority) s).endpoint_state.state e f
  some_call (SetMaxMessageSize bytes) s e f = one_ends s.endpoint_state.state (called (SetMaxMessageSize bytes) s).endpoint_state.state e f
  some_call (Advance now) s e f = one_ends s.endpoint_state.state (called (Advance now) s).endpoint_state.state e f
  some_call HandOver s e f = one_ends s.endpoint_state.state (called HandOver s).endpoint_state.state e f
  some_call (Restore h) s e f = one_ends s.endpoint_state.state (called (Restore h) s).endpoint_state.state e f
  some_call ReceiveNoPacket s e f = one_ends s.endpoint_state.state (called ReceiveNoPacket s).endpoint_state.state e f
