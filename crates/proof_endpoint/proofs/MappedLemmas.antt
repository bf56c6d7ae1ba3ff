-- The law: each call commutes with a map of packets.
use Rattle.std.proofs.Common.{◌≡◌, refl}
use Rattle.spec_endpoint.specs.Association.{Endpoint, in_context}
use Rattle.spec_endpoint.specs.Shutdown.{close, shutdown}
use Rattle.spec_endpoint.specs.Calls.{send, send_many, set_low_threshold}
use Rattle.spec_endpoint.specs.StreamReset.{reset_streams}
use Rattle.spec_endpoint.specs.Timers.{advance}
use Rattle.spec_endpoint.specs.Handover.{hand_over, restore}
use Rattle.spec_endpoint.specs.Laws.{Call, Connect, Close, Shutdown, Send, SendMany, TakeMessage, SetLowThreshold, SetPriority, SetMaxMessageSize, Advance, HandOver, Restore, ReceivePacket, ReceiveNoPacket, called, ResetStreams}
use Rattle.proof_endpoint.specs.Mapped.{Mapping, map_end, as_bytes, BytesAreWrittenChunks}
use Rattle.proof_endpoint.proofs.RowMapsLemmas.{maps_in_state, maps_close, maps_shutdown}
use Rattle.proof_endpoint.proofs.OpeningMapsLemmas.{maps_connect}
use Rattle.proof_endpoint.proofs.TimeMapsLemmas.{maps_advance}
use Rattle.proof_endpoint.proofs.CallMapsLemmas.{maps_send, maps_send_many, maps_low_threshold}
use Rattle.proof_endpoint.proofs.HandoverMapsLemmas.{maps_hand_over, maps_restore}
use Rattle.proof_endpoint.proofs.ResetMapsLemmas.{maps_reset_streams}
use Rattle.proof_endpoint.proofs.InputMapsLemmas.{maps_on_endpoint_state, maps_packet, maps_no_packet}

pub maps_called : {P Q : Type 0} (f : Mapping P Q) (call : Call) (s : Endpoint P) → called call (map_end f s) ≡ map_end f (called call s)
maps_called f Connect s = maps_connect f s
maps_called f Close s = maps_on_endpoint_state f close close s (maps_close f s.endpoint_state)
maps_called f Shutdown s = maps_on_endpoint_state f shutdown shutdown s (maps_shutdown f s.endpoint_state)
maps_called f (Send m o) s = maps_on_endpoint_state f (send m o) (send m o) s (maps_send f m o s.endpoint_state)
maps_called f (SendMany ms o) s = maps_on_endpoint_state f (send_many ms o) (send_many ms o) s (maps_send_many f ms o s.endpoint_state)
maps_called f (ResetStreams streams) s = maps_on_endpoint_state f (reset_streams streams) (reset_streams streams) s (maps_reset_streams f streams s.endpoint_state)
maps_called f TakeMessage s = refl
maps_called f (SetLowThreshold stream bytes) s =
    maps_on_endpoint_state f (in_context (set_low_threshold stream bytes)) (in_context (set_low_threshold stream bytes)) s
    (maps_in_state f s.endpoint_state.state (set_low_threshold stream bytes s.endpoint_state.context) _ (maps_low_threshold f stream bytes s.endpoint_state.context))
maps_called f (SetPriority stream priority) s = refl
maps_called f (SetMaxMessageSize bytes) s = refl
maps_called f (Advance now) s = maps_on_endpoint_state f (advance now) (advance now) s (maps_advance f now s.endpoint_state)
maps_called f HandOver s = maps_on_endpoint_state f hand_over hand_over s (maps_hand_over f s.endpoint_state)
maps_called f (Restore h) s = maps_on_endpoint_state f (restore h) (restore h) s (maps_restore f h s.endpoint_state)
maps_called f (ReceivePacket p) s = maps_packet f p s
maps_called f ReceiveNoPacket s = maps_no_packet f s

pub bytes_written : BytesAreWrittenChunks
bytes_written word_of call s = maps_called (as_bytes word_of) call s
