-- Each run of a world is a trace of its two ends: the same actions, with packets as lists of chunks in place of bytes.
use Rattle.std.specs.Prelude.{◌≡◌, ℕ, ◌⊎◌, Bool, true, false, Some, List, [], ◌∷◌, map, slice_get, ⊤, All}
use Rattle.std.specs.List.{flat_map}
use Rattle.rand_core.specs.Stream.{Stream}
use Rattle.sctp_packet.specs.Packet.{PacketTree, IsPacket, lets_through}
use Rattle.sctp_state.specs.Options.{Options}
use Rattle.sctp_state.specs.Events.{nothing_emitted}
use Rattle.spec_endpoint.specs.Laws as table
use Rattle.spec_endpoint.specs.Receiving.{policy_of}
use Rattle.spec_endpoint.specs.Wire.{field_of, word_at}
use Rattle.proof_endpoint.specs.Mapped.{Carried, map_event, map_end, as_written, as_bytes}
use Rattle.proof_endpoint.specs.Sound.{OptionsFit}
use Rattle.proof_pair.specs.Trace as traces
use Rattle.proof_pair.specs.Trace.{Pair, EndAction, Calls, Refuses, emitted_packets, goes, run, start}
use Rattle.spec_world.specs.Observations.{End, A, B, same_end, none_unless, Entry, EmittedPacket, EmittedEvent}
use Rattle.spec_world.specs.World.{Side, World, Action, CallOf, Give, GiveForeign, AdvanceTime, Runs, fresh_world, table_call, emitted_entries}
use Rattle.proof_world.specs.Reachable.{ActionFits, IsInBytes}

-- ---- the trace of a run, an end's action for each of its actions

abbrev pub is_a : End → Bool
is_a A = true
is_a B = false

abbrev pub end_of : Action → End
end_of (CallOf x call) = x
end_of (Give packet x) = x
end_of (GiveForeign x bytes) = x
end_of (AdvanceTime x now) = x

-- whether a reader with such options lets the checksum of a packet through that was written
abbrev pub is_let_through : (reads writes : List ℕ → ℕ) → Options → Carried → Bool
is_let_through reads writes o p = lets_through (policy_of o) (word_at reads (as_written writes p)) (field_of writes p.header p.is_summed p.chunks)

abbrev pub give_action : Bool → (packet checksum : ℕ) → EndAction
give_action true packet checksum = traces.Gives packet checksum
give_action false packet checksum = Calls table.ReceiveNoPacket

-- A given packet is received as what was put in, where its checksum is let through, and else as no packet.
pub record IsGiveAction (reads writes : List ℕ → ℕ) (packet : ℕ) (end beside : traces.Side) (turn : EndAction) : Type 0 where
  pub carried : Carried
  pub there : slice_get (emitted_packets beside) packet ≡ Some carried
  pub received : turn ≡ give_action (is_let_through reads writes end.end.endpoint_state.context.options carried) packet (field_of writes carried.header carried.is_summed carried.chunks)

-- Bytes from elsewhere are a packet, which is given where the end refuses it, or none.
abbrev pub IsForeign : List ℕ → EndAction → Type 0
IsForeign bytes turn = ((p : PacketTree) × IsPacket bytes p × (turn ≡ Refuses p)) ⊎ (turn ≡ Calls table.ReceiveNoPacket)

abbrev pub IsActionOf : (word_of_a word_of_b : List ℕ → ℕ) → Action → EndAction → Pair → Type 0
IsActionOf f g (CallOf x call) turn c = turn ≡ Calls (table_call call)
IsActionOf f g (Give packet A) turn c = IsGiveAction f g packet c.a c.b turn
IsActionOf f g (Give packet B) turn c = IsGiveAction g f packet c.b c.a turn
IsActionOf f g (GiveForeign x bytes) turn c = IsForeign bytes turn
IsActionOf f g (AdvanceTime x now) turn c = turn ≡ Calls (table.Advance now)

abbrev pub AreActionsOf : (word_of_a word_of_b : List ℕ → ℕ) → List Action → List (Bool × EndAction) → Pair → Type 0
AreActionsOf f g [] [] c = ⊤
AreActionsOf f g [] (e ∷ es) c = ⊥
AreActionsOf f g (action ∷ actions) [] c = ⊥
AreActionsOf f g (action ∷ actions) (e ∷ es) c = (e.0 ≡ is_a (end_of action)) × IsActionOf f g action e.1 c × AreActionsOf f g actions es (goes e.0 e.1 c)

-- ---- what a run leads to

-- what the log has of an end's events: its packets by their numbers, the others as they are
abbrev pub emitted_by : End → Entry → List Entry
emitted_by x (EmittedPacket y packet) = none_unless (same_end x y) (EmittedPacket y packet)
emitted_by x (EmittedEvent y event) = none_unless (same_end x y) (EmittedEvent y event)
emitted_by x entry = []

abbrev pub emitted_in : End → List Entry → List Entry
emitted_in x log = flat_map (emitted_by x) log

-- A side is the trace's side with each packet written: its socket, its packets, and in the log all that it emitted, in order.
pub record IsWrittenAs (word_of : List ℕ → ℕ) (x : End) (log : List Entry) (side : Side) (end : traces.Side) : Type 0 where
  pub socket : side.socket ≡ map_end (as_bytes word_of) end.end
  pub quiet : end.end.endpoint_state.context.emitted ≡ nothing_emitted  -- nothing emitted is left
  pub packets : side.packets ≡ map (as_written word_of) (emitted_packets end)
  pub emitted : emitted_in x log ≡ emitted_entries x 0 (map (map_event (as_bytes word_of)) end.emitted)

pub record AreImages (word_of_a word_of_b : List ℕ → ℕ) (w : World) (c : Pair) : Type 0 where
  pub a : IsWrittenAs word_of_a A w.log w.a c.a
  pub b : IsWrittenAs word_of_b B w.log w.b c.b

pub record HasTrace (from : Pair) (word_of_a word_of_b : List ℕ → ℕ) (actions : List Action) (w : World) : Type 0 where
  pub trace : List (Bool × EndAction)
  pub are : AreActionsOf word_of_a word_of_b actions trace from
  pub images : AreImages word_of_a word_of_b w (run trace from)

-- ---- the law

-- For any options, words, checksum functions and actions that fit.
abbrev pub WorldsHaveTraces : Type 0
WorldsHaveTraces =
    (a b : Options) (draws_a draws_b : Stream) (word_of_a word_of_b : List ℕ → ℕ) (actions : List Action) (w : World)
    → OptionsFit a → OptionsFit b → All ActionFits actions
    → Runs actions (fresh_world a b draws_a draws_b word_of_a word_of_b) w → IsInBytes w
    → HasTrace (start a b draws_a draws_b) word_of_a word_of_b actions w
