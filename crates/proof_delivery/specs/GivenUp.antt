-- Along a trace: the messages that an end gave up, by their places, and whether anything is left to be sent.
use Rattle.std.specs.Prelude.{◌≡◌, ℕ, Bool, true, false, Option, Some, None, List, [], ◌∷◌, ◌++◌, map, slice_get}
use Rattle.sctp_packet.specs.Packet.{PacketTree}
use Rattle.sctp_state.specs.Events.{GivenUp, Emitted, nothing_emitted}
use Rattle.sctp_tx_queue.specs.SendQueue.{is_empty}
use Rattle.sctp_tx_outstanding.specs.Item.{Item}
use Rattle.spec_endpoint.specs.Association.{State, Closed, CookieWait, Open, Endpoint}
use Rattle.spec_endpoint.specs.Input.{packet_refusal}
use Rattle.spec_endpoint.specs.Laws.{ReceivePacket, called}
use Rattle.proof_endpoint.specs.Mapped.{Carried}
use Rattle.proof_pair.specs.Trace.{Side, Pair, emitted_packets, EndAction, Calls, Gives, Refuses, as_received, goes, state_of}
use Rattle.proof_delivery.specs.Windows.{queue_of}

-- ---- one action

abbrev pub pending_emitted : Endpoint Carried → Emitted Carried
pending_emitted e = e.endpoint_state.context.emitted

abbrev pub emitted_given : Option Carried → (checksum : ℕ) → Side → Emitted Carried
emitted_given None checksum x = nothing_emitted
emitted_given (Some p) checksum x = pending_emitted (called (ReceivePacket (as_received p checksum)) x.end)

abbrev pub emitted_foreign : (refusal : Option (List ℕ)) → PacketTree → Side → Emitted Carried
emitted_foreign None p x = nothing_emitted
emitted_foreign (Some text) p x = pending_emitted (called (ReceivePacket p) x.end)

-- what an end emits, before it is taken
abbrev pub emitted_by : EndAction → (x y : Side) → Emitted Carried
emitted_by (Calls call) x y = pending_emitted (called call x.end)
emitted_by (Gives which checksum) x y = emitted_given (slice_get (emitted_packets y) which) checksum x
emitted_by (Refuses p) x y = emitted_foreign (packet_refusal p.header.verification_tag p.chunks (state_of x)) p x

-- the messages that its records name
abbrev pub given_up_by : EndAction → (x y : Side) → List ℕ
given_up_by action x y = map (λ (g : GivenUp). g.number) (emitted_by action x y).given_up

-- true is end a: what end x gives up at an action of the end that acts
abbrev pub given_up_at : (x acts : Bool) → EndAction → Pair → List ℕ
given_up_at true true action w = given_up_by action w.a w.b
given_up_at false false action w = given_up_by action w.b w.a
given_up_at x acts action w = []

-- ---- traces

abbrev pub given_up : (x : Bool) → List (Bool × EndAction) → Pair → List ℕ
given_up x [] w = []
given_up x (e ∷ es) w = given_up_at x e.0 e.1 w ++ given_up x es (goes e.0 e.1 w)

-- ---- rest

-- the fragments that it may send again
abbrev pub kept_in : State → List Item
kept_in Closed = []
kept_in (CookieWait tag first t1) = []
kept_in (Open phase t) = t.sender.outstanding.items.kept

-- nothing waits, and nothing is kept
pub record IsAtRest (x : Side) : Type 0 where
  pub none_waits : is_empty (queue_of x) ≡ true
  pub none_kept : kept_in (state_of x) ≡ []
