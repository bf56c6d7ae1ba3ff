-- Along a trace: why an end gave messages up. A record is justified where its message was accepted, and either outlived its
-- lifetime, or was sent again as often as it may be, or is made as the end is asked to reset its stream, or as an association
-- of an end that avoids stalls is over.
use Rattle.std.specs.Prelude.{◌≡◌, ℕ, ◌^◌, ◌≤◌, ◌<◌, Bool, true, false, Option, Some, None, unwrap_or, List, [], ◌∷◌, ◌++◌, length, map, slice_get, ◌==◌}
use Rattle.std.specs.List.{AllByRecursion, list_any}
use Rattle.rand_core.specs.Stream.{Stream}
use Rattle.sctp_packet.specs.Packet.{PacketTree}
use Rattle.sctp_serial.specs.Time.{later}
use Rattle.sctp_state.specs.Options.{Options, plainly}
use Rattle.sctp_state.specs.Events.{GivenUp}
use Rattle.sctp_state.specs.declared.api.GivenUpCause.{GivenUpCause}
use Rattle.sctp_state.specs.declared.api.GivenUpCause.TheVariants.{Lifetime, Retransmissions, Reset, Ended}
use Rattle.sctp_state.specs.declared.api.errors.ResetStreamsError.{ResetStreamsError}
use Rattle.spec_endpoint.specs.Association.{Endpoint}
use Rattle.spec_endpoint.specs.Input.{packet_refusal}
use Rattle.spec_endpoint.specs.StreamReset.{reset_refusal}
use Rattle.spec_endpoint.specs.Laws.{Send, ResetStreams, Advance, Restore, ReceivePacket, called}
use Rattle.proof_endpoint.specs.Mapped.{Carried}
use Rattle.proof_pair.specs.Trace.{Side, Pair, emitted_packets, EndAction, Calls, Gives, Refuses, as_received, goes, run, side_of, KeepsRules, NoAssociationHasEnded, start, state_of}
use Rattle.proof_pair.specs.Handing.{text}
use Rattle.proof_pair.specs.Opens.{at_first, one_connects}
use Rattle.proof_delivery.specs.Accepted.{AcceptedMessage, accepted_at, accepted}

-- ---- acceptance

abbrev pub clock : Side → ℕ
clock x = x.end.endpoint_state.context.now

-- an accepted message, and the clock of its end then
pub record Acceptance : Type 0 where
  pub offer : AcceptedMessage
  pub at : ℕ

abbrev pub accepted_then : ℕ → AcceptedMessage → Acceptance
accepted_then now o = record { offer = o; at = now }

abbrev pub acceptances : (x : Bool) → List (Bool × EndAction) → Pair → List Acceptance
acceptances x [] w = []
acceptances x (e ∷ es) w = map (accepted_then (clock (side_of x w))) (accepted_at x e.0 e.1 w) ++ acceptances x es (goes e.0 e.1 w)

-- ---- records

-- those that wait to be taken
abbrev pub records_of : Endpoint Carried → List GivenUp
records_of e = e.endpoint_state.context.emitted.given_up

abbrev pub records_given : Option Carried → (checksum : ℕ) → Side → List GivenUp
records_given None checksum x = []
records_given (Some p) checksum x = records_of (called (ReceivePacket (as_received p checksum)) x.end)

abbrev pub records_foreign : (refusal : Option (List ℕ)) → PacketTree → Side → List GivenUp
records_foreign None p x = []
records_foreign (Some reason) p x = records_of (called (ReceivePacket p) x.end)

-- what one end gives up at its action, beside the other
abbrev pub records_by : EndAction → (x y : Side) → List GivenUp
records_by (Calls call) x y = records_of (called call x.end)
records_by (Gives which checksum) x y = records_given (slice_get (emitted_packets y) which) checksum x
records_by (Refuses p) x y = records_foreign (packet_refusal p.header.verification_tag p.chunks (state_of x)) p x

-- true is end a: what end x gives up at an action of the end that acts
abbrev pub records_at : (x acts : Bool) → EndAction → Pair → List GivenUp
records_at true true action w = records_by action w.a w.b
records_at false false action w = records_by action w.b w.a
records_at x acts action w = []

-- the streams that are reset, unless the end refuses
abbrev pub reset_unless : Option ResetStreamsError → (streams : List ℕ) → List ℕ
reset_unless None streams = streams
reset_unless (Some e) streams = []

-- the streams that an end is asked to reset at its action, and does
abbrev pub reset_by : EndAction → Side → List ℕ
reset_by (Calls (ResetStreams streams)) x = reset_unless (reset_refusal (state_of x)) streams
reset_by action x = []

-- true is end a: those of end x at an action of the end that acts
abbrev pub reset_at : (x acts : Bool) → EndAction → Pair → List ℕ
reset_at true true action w = reset_by action w.a
reset_at false false action w = reset_by action w.b
reset_at x acts action w = []

-- a record, whether its end avoids stalls, the end's clock then, and the streams that are reset at that action
pub record DatedRecord : Type 0 where
  pub given_up : GivenUp
  pub avoids_stalls : Bool
  pub at : ℕ
  pub resets : List ℕ

abbrev pub dated_record : (avoids_stalls : Bool) → (now : ℕ) → (resets : List ℕ) → GivenUp → DatedRecord
dated_record avoids_stalls now resets g = record { given_up = g; avoids_stalls = avoids_stalls; at = now; resets = resets }

abbrev pub avoids_stalls : Side → Bool
avoids_stalls x = x.end.endpoint_state.context.options.avoid_stalls

-- all of an end, in order
abbrev pub dated_records : (x : Bool) → List (Bool × EndAction) → Pair → List DatedRecord
dated_records x [] w = []
dated_records x (e ∷ es) w = map (dated_record (avoids_stalls (side_of x (goes e.0 e.1 w))) (clock (side_of x (goes e.0 e.1 w))) (reset_at x e.0 e.1 w)) (records_at x e.0 e.1 w) ++ dated_records x es (goes e.0 e.1 w)

-- ---- justified records

-- how often a fragment may be sent again
abbrev pub limit_of : AcceptedMessage → ℕ
limit_of o = unwrap_or o.options.max_retransmissions 65535

-- it has a lifetime, which is over
pub record HasExpired (now : ℕ) (a : Acceptance) : Type 0 where
  pub lifetime : ℕ
  pub given : a.offer.options.lifetime ≡ Some lifetime
  pub over : later a.at lifetime ≤ now

-- its stream is among these
abbrev pub is_of_one : (streams : List ℕ) → Acceptance → Bool
is_of_one streams a = list_any (λ id. id == a.offer.message.stream) streams

abbrev pub IsRight : GivenUpCause → (avoids_stalls : Bool) → (now : ℕ) → (resets : List ℕ) → Acceptance → Type 0
IsRight Lifetime avoids now resets a = HasExpired now a
IsRight (Retransmissions count) avoids now resets a = limit_of a.offer ≤ count
IsRight Reset avoids now resets a = is_of_one resets a ≡ true
IsRight Ended avoids now resets a = avoids ≡ true

-- of one of these messages, by its place
pub record IsJustified (accepted : List Acceptance) (f : DatedRecord) : Type 0 where
  pub acceptance : Acceptance
  pub there : slice_get accepted f.given_up.number ≡ Some acceptance
  pub right : IsRight f.given_up.cause f.avoids_stalls f.at f.resets acceptance

-- ---- the laws

abbrev pub restores : EndAction → Bool
restores (Calls (Restore h)) = true
restores action = false

-- no handover is taken up
abbrev pub RestoresNone : List (Bool × EndAction) → Type 0
RestoresNone trace = list_any (λ (e : Bool × EndAction). restores e.1) trace ≡ false

-- Along each trace in which no handover is taken up: all records of an end so far are justified, of the messages that it accepted
-- so far, where these are fewer than 2^32.
abbrev pub RecordsAreJustified : Type 0
RecordsAreJustified =
    (a b : Options) (draws_a draws_b : Stream) (trace : List (Bool × EndAction)) → RestoresNone trace → (x : Bool)
    → length (accepted x trace (start a b draws_a draws_b)) < 2 ^ 32
    → AllByRecursion (IsJustified (acceptances x trace (start a b draws_a draws_b))) (dated_records x trace (start a b draws_a draws_b))

-- acceptances are those of the accepted messages, one by one
abbrev pub AcceptancesAreAccepted : Type 0
AcceptancesAreAccepted = (x : Bool) (trace : List (Bool × EndAction)) (w : Pair) → map (λ (a : Acceptance). a.offer) (acceptances x trace w) ≡ accepted x trace w

-- ---- such a trace, computed: of two messages that are lost, one may not be sent again, and the other one's lifetime is over

abbrev pub ten_seconds : ℕ
ten_seconds = 10 ^ 10

abbrev pub two_are_lost : List (Bool × EndAction)
two_are_lost =
    one_connects
    ++ ((true, Calls (Send (text 97) (record plainly { max_retransmissions = Some 0 }))) ∷ (true, Calls (Send (text 98) (record plainly { lifetime = Some 0 })))
    ∷ (true, Calls (Advance ten_seconds)) ∷ [])

pub record TwoAreGivenUp : Type 0 where
  pub follows : KeepsRules two_are_lost at_first
  pub restores_none : RestoresNone two_are_lost
  pub not_ended : NoAssociationHasEnded (run two_are_lost at_first)
  pub gives_up : dated_records true two_are_lost at_first
      ≡ dated_record false ten_seconds [] (record { number = 0; cause = Retransmissions 0 }) ∷ dated_record false ten_seconds [] (record { number = 1; cause = Lifetime }) ∷ []
