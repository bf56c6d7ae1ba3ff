-- A RE-CONFIG keeps an end sound. Results of its answers may be those of requests that others have followed since: so it is told by rows, not by acts.
use Rattle.std.proofs.Common.{ℕ, ◌^◌, ◌<◌, ◌≤◌, ◌&&◌, ◌||◌, Bool, true, false, List, [], ◌∷◌, codes, refl, arith}
use Rattle.rand_core.specs.Stream.{Stream}
use Rattle.sctp_serial.specs.declared.api.StreamId.{StreamId}
use Rattle.sctp_wire.specs.Parameter.{ParameterTree, outgoing_reset_request, incoming_reset_request, reset_response}
use Rattle.sctp_packet.specs.Chunk.{re_config_chunk}
use Rattle.sctp_packet.specs.Grammar.{Each}
use Rattle.sctp_state.specs.declared.api.ErrorKind.TheVariants.{ProtocolViolation}
use Rattle.sctp_state.specs.Events.{OnIncomingStreamReset, numbers_of}
use Rattle.sctp_state.specs.RetransmissionTimeout.{rto}
use Rattle.sctp_rx.specs.ReassemblyQueue as reassembly
use Rattle.spec_endpoint.specs.Association.{Tcb, Phase, Open, Context}
use Rattle.spec_endpoint.specs.Packets.{PacketDraft, add, new_packet, emit_event_in}
use Rattle.spec_endpoint.specs.ResetRequests.{is_final, in_progress, performed, nothing_to_do, bad_number, outcome, is_last_request, is_next_request, is_known_request}
use Rattle.spec_endpoint.specs.Sending.{is_before_cookie_ack}
use Rattle.spec_endpoint.specs.StreamReset.{Handling, handling, respond, process, is_ahead, resets_unless, outgoing_by, incoming_if, is_outgoing, on_parameter, HandledParameters, handle_next, handle_all, send_responses, finish_reconfig_if, on_reconfig}
use Rattle.spec_endpoint.specs.Laws.{Call}
use Rattle.proof_endpoint.specs.Acts.{EndWithPacket, idle, all_along, Preserves}
use Rattle.proof_endpoint.specs.Fair.{IsFairParameter}
use Rattle.proof_endpoint.proofs.BundledLemmas.{first_more}
use Rattle.proof_endpoint.proofs.PacketActsLemmas.{does_out, does_begin_new, does_emit_error, does_send_buffered}
use Rattle.proof_endpoint.proofs.ReceivedLemmas.{each_push}
use Rattle.proof_endpoint.proofs.SoundTrackerLemmas.{size_reset}
use Rattle.proof_endpoint.proofs.SoundTcbLemmas.{with_requests, with_reassembly, handle_response_fits, set_last_request_fits, response_fits}
use Rattle.proof_endpoint.proofs.SoundPacketLemmas.{good_add, own_responses}
use Rattle.proof_endpoint.proofs.SoundActsLemmas.{Start, SoundAt, in_the_state, with_the_packet, saying, after_outcome}

-- what the parameters have done so far
record Handles {P : Type 0} (g : Start P) (phase : Phase) (w : Stream) (x : Handling P) : Type 0 where
  sound : SoundAt g (idle (Open phase x.tcb) x.context w)
  responses : Each IsFairParameter x.responses

module _ {P : Type 0} (g : Start P) (phase : Phase) (w : Stream) where
  abbrev Done : Handling P → Type 0
  Done x = Handles g phase w x

  responds : (number result : ℕ) (x : Handling P) → number < 2 ^ 32 → result ≤ 6 → Done x → Done (respond number result x)
  responds number result x n r h = record { sound = h.sound; responses = each_push IsFairParameter x.responses _ h.responses (response_fits number result n r) }

  processed : (number result : ℕ) (x : Handling P) → number < 2 ^ 32 → result ≤ 6 → Done x → Done (process number result x)
  processed number result x n r h =
      let s = h.sound.state in
      record {
        sound = in_the_state h.sound _ (s.0, with_requests x.tcb _ (set_last_request_fits number result x.tcb.requests r s.1.requests) s.1);
        responses = each_push IsFairParameter x.responses _ h.responses (response_fits number result n r);
      }

  resets_by : (b : Bool) (number last_tsn : ℕ) (streams : List StreamId) (x : Handling P) → number < 2 ^ 32 → Done x → Done (resets_unless b number last_tsn streams x)
  resets_by true number last_tsn streams x n h =
      let s = h.sound.state in
      let six : in_progress ≤ 6 = omega arith in
      let t : Tcb = record x.tcb { reassembly = reassembly.defer last_tsn streams x.tcb.reassembly } in
      processed number in_progress (record x { tcb = t }) n six
      (record { sound = in_the_state h.sound (Open phase t) (s.0, with_reassembly x.tcb _ refl s.1); responses = h.responses })
  resets_by false number last_tsn streams x n h =
      let s = h.sound.state in
      let one : performed ≤ 6 = omega arith in
      let t : Tcb = record x.tcb { reassembly = reassembly.reset streams x.tcb.reassembly } in
      let c : Context P = emit_event_in (OnIncomingStreamReset (numbers_of streams)) x.context in
      processed number performed (record x { tcb = t; context = c }) n one (record {
        sound = saying (in_the_state h.sound (Open phase t) (s.0, with_reassembly x.tcb _ (size_reset streams x.tcb.reassembly) s.1))
            (OnIncomingStreamReset (numbers_of streams)) tt;
        responses = h.responses;
      })

  outgoing : (a b d : Bool) (number last_tsn : ℕ) (streams : List StreamId) (x : Handling P) → number < 2 ^ 32 → Done x
      → Done (outgoing_by a b d number last_tsn streams x)
  outgoing true b true number last_tsn streams x n h = responds number x.tcb.requests.result x n h.sound.state.1.requests.result h
  outgoing true b false number last_tsn streams x n h = resets_by (is_ahead last_tsn x.tcb) number last_tsn streams x n h
  outgoing false true d number last_tsn streams x n h = resets_by (is_ahead last_tsn x.tcb) number last_tsn streams x n h
  outgoing false false d number last_tsn streams x n h =
      let five : bad_number ≤ 6 = omega arith in
      responds number bad_number x n five h

  incoming : (b : Bool) (number : ℕ) (x : Handling P) → number < 2 ^ 32 → Done x → Done (incoming_if b number x)
  incoming true number x n h =
      let zero : nothing_to_do ≤ 6 = omega arith in
      processed number nothing_to_do x n zero h
  incoming false number x n h =
      let five : bad_number ≤ 6 = omega arith in
      responds number bad_number x n five h

  parameter : (p : ParameterTree) (x : Handling P) → IsFairParameter p → Done x → Done (on_parameter p x)
  parameter (outgoing_reset_request number response last_tsn streams) x f h =
      outgoing (is_last_request number x.tcb.requests) (is_next_request number x.tcb.requests) (is_final x.tcb.requests.result) number last_tsn.0 streams x f.fits.0 h
  parameter (incoming_reset_request number streams) x f h = incoming (is_known_request number x.tcb.requests) number x f.fits.0 h
  parameter (reset_response number result sender receiver) x f h =
      let s = h.sound.state in
      let t : Tcb = (on_parameter (reset_response number result sender receiver) x).tcb in
      record {
        sound = after_outcome g (outcome number result x.tcb.requests.current) (idle (Open phase t) x.context w) (in_the_state h.sound (Open phase t)
            (s.0, with_requests x.tcb _ (handle_response_fits x.context.now (rto x.tcb.rtt) number result x.tcb.requests s.1.requests) s.1));
        responses = h.responses;
      }
  parameter p x f h = h

  next : (b : Bool) (rest : Handling P → HandledParameters P) (p : ParameterTree) (x : Handling P) → ((y : Handling P) → Done y → Done (rest y).handling)
      → IsFairParameter p → Done x → Done (handle_next b rest p x).handling
  next true rest p x on f h = h
  next false rest p x on f h = on (on_parameter p x) (parameter p x f h)

  handles_all : (ps : List ParameterTree) (b : Bool) (x : Handling P) → Each IsFairParameter ps → Done x → Done (handle_all ps b x).handling
  handles_all [] b x f h = h
  handles_all (p ∷ ps) b x f h =
      next (is_outgoing p && b) (handle_all ps (is_outgoing p || b)) p x (λ y k. handles_all ps (is_outgoing p || b) y f.1 k) f.0 h

  -- what any call's acts keep
  module _ (call : Call) (k : Preserves call (λ (m n : EndWithPacket P). SoundAt g m → SoundAt g n)) where
    sends_responses : (rs : List ParameterTree) (t : Tcb) (c : Context P) → Each IsFairParameter rs → SoundAt g (idle (Open phase t) c w)
        → SoundAt g (idle (Open phase t) (send_responses rs t c) w)
    sends_responses [] t c f h = h
    sends_responses (r ∷ rs) t c f h =
        let p : PacketDraft = new_packet c.options t in
        let begun = does_begin_new k phase t c w h in
        does_out k (Open phase t) c w (add (re_config_chunk (r ∷ rs)) p) (all_along (first_more (re_config_chunk (r ∷ rs)) p refl refl))
        (with_the_packet begun _ (good_add g.most p (re_config_chunk (r ∷ rs)) (own_responses (r ∷ rs) f) begun.packet))

    finished : (b : Bool) (x : Handling P) → Done x → SoundAt g (idle (finish_reconfig_if b phase x).state (finish_reconfig_if b phase x).context w)
    finished true x h =
        does_send_buffered k phase w (is_before_cookie_ack phase) x.tcb (send_responses x.responses x.tcb x.context)
        (sends_responses x.responses x.tcb x.context h.responses h.sound)
    finished false x h =
        does_emit_error k ProtocolViolation (codes "RE-CONFIG chunk must not have multiple Outgoing SSN Reset Request parameters") (Open phase x.tcb) x.context w h.sound

    pub reconfigured : (ps : List ParameterTree) (t : Tcb) (c : Context P) → Each IsFairParameter ps → SoundAt g (idle (Open phase t) c w)
        → SoundAt g (idle (on_reconfig ps phase t c).state (on_reconfig ps phase t c).context w)
    reconfigured [] t c f h = does_emit_error k ProtocolViolation (codes "RE-CONFIG chunk must have at least one parameter") (Open phase t) c w h
    reconfigured (p ∷ ps) t c f h =
        let x : HandledParameters P = handle_all (p ∷ ps) false (handling t c) in
        finished x.is_whole x.handling (handles_all (p ∷ ps) false (handling t c) f (record { sound = h; responses = tt }))
