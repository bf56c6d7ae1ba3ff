-- Two ends whose packets can all be read back, as the chunks that were put together.
use Rattle.std.specs.Prelude.{◌≡◌, ℕ, true, IfSome, List, [], slice_get, All}
use Rattle.rand_core.specs.Stream.{Stream}
use Rattle.sctp_wire.specs.declared.checksum.Policy.{Policy}
use Rattle.sctp_packet.specs.Grammar.{Each}
use Rattle.sctp_packet.specs.Packet.{PacketTree, Accepts, lets_through}
use Rattle.sctp_state.specs.Options.{Options}
use Rattle.spec_endpoint.specs.Wire.{writing, field_of, AreBytes}
use Rattle.proof_endpoint.specs.Mapped.{Carried, as_written}
use Rattle.proof_endpoint.specs.ReceivedBack.{as_received}
use Rattle.proof_endpoint.specs.Sound.{OptionsFit, IsSound, ArgumentFits}
use Rattle.proof_endpoint.specs.ReadBack.{ReadsBack}
use Rattle.proof_pair.specs.Trace.{emitted_packets, run, start}
use Rattle.spec_world.specs.World.{Side, World, Action, CallOf, Give, GiveForeign, AdvanceTime, Happens, Runs, fresh_world, side_of, other, table_call}
use Rattle.proof_world.specs.Reachable.{Origin}
use Rattle.proof_world.specs.Traces.{HasTrace}

-- ---- packets

-- A list of chunks, each of which can be read back. Every reader whose policy lets the checksum through accepts its bytes as this
-- list, its chunks as they are carried; and as nothing else.
pub record IsReadBack (word_of : List ℕ → ℕ) (packet : Carried) : Type 0 where
  pub reads_back : ReadsBack 65535 packet
  pub read : (policy : Policy) (word : ℕ) → lets_through policy word (field_of word_of packet.header packet.is_summed packet.chunks) ≡ true
      → Accepts policy word (as_written word_of packet) (as_received word_of packet)
  pub alone : (policy : Policy) (word : ℕ) (p : PacketTree) → Accepts policy word (as_written word_of packet) p → p ≡ as_received word_of packet

-- the bytes of such a list
pub record CanBeReadBack (word_of : List ℕ → ℕ) (bytes : List ℕ) : Type 0 where
  pub packet : Carried
  pub spelled : bytes ≡ as_written word_of packet
  pub is_read_back : IsReadBack word_of packet

-- The packets that the ends ever sent are those that the rows put in, by a trace of the run, each of them written and read back.
pub record PacketsReadBack (o : Origin) (actions : List Action) (w : World) : Type 0 where
  pub has : HasTrace (start o.a o.b o.draws_a o.draws_b) o.word_of_a o.word_of_b actions w
  pub of_a : All (IsReadBack o.word_of_a) (emitted_packets (run has.trace (start o.a o.b o.draws_a o.draws_b)).a)
  pub of_b : All (IsReadBack o.word_of_b) (emitted_packets (run has.trace (start o.a o.b o.draws_a o.draws_b)).b)

-- ---- a world

-- an end that is sound, of which each event emitted is taken, and whose packets can be read back
pub record IsReadableSide (word_of : List ℕ → ℕ) (side : Side) : Type 0 where
  pub own : side.socket.endpoint_state.context.pack ≡ writing word_of
  pub sound : IsSound side.socket
  pub taken : side.socket.endpoint_state.context.emitted.events ≡ []
  pub packets : All (CanBeReadBack word_of) side.packets

pub record IsReadable (word_of_a word_of_b : List ℕ → ℕ) (w : World) : Type 0 where
  pub a : IsReadableSide word_of_a w.a
  pub b : IsReadableSide word_of_b w.b

-- ---- what happens

-- Only what a call hands in has to fit: packets of the other end do, and bytes from elsewhere are given where they are refused.
abbrev pub ActionArgumentsFit : Action → Type 0
ActionArgumentsFit (CallOf x call) = ArgumentFits (table_call call)
ActionArgumentsFit (Give packet x) = Unit {0}
ActionArgumentsFit (GiveForeign x bytes) = Unit {0}
ActionArgumentsFit (AdvanceTime x now) = Unit {0}

-- A packet that is given is bytes, as all that a program has are.
abbrev pub GivesBytes : World → Action → Type 0
GivesBytes w (CallOf x call) = Unit {0}
GivesBytes w (Give packet x) = IfSome (slice_get (side_of (other x) w).packets packet) AreBytes
GivesBytes w (GiveForeign x bytes) = Unit {0}
GivesBytes w (AdvanceTime x now) = Unit {0}

-- ---- the laws

abbrev pub NewWorldsAreReadable : Type 0
NewWorldsAreReadable =
    (options_a options_b : Options) (draws_a draws_b : Stream) (word_of_a word_of_b : List ℕ → ℕ) → OptionsFit options_a → OptionsFit options_b
    → IsReadable word_of_a word_of_b (fresh_world options_a options_b draws_a draws_b word_of_a word_of_b)

abbrev pub EachActionKeepsWorldsReadable : Type 0
EachActionKeepsWorldsReadable =
    (word_of_a word_of_b : List ℕ → ℕ) (action : Action) (w v : World) → Happens action w v → ActionArgumentsFit action → GivesBytes w action
    → IsReadable word_of_a word_of_b w → IsReadable word_of_a word_of_b v

-- packets stay where they are, so those that were given are bytes where they are at the end
abbrev pub RunsKeepWorldsReadable : Type 0
RunsKeepWorldsReadable =
    (word_of_a word_of_b : List ℕ → ℕ) (actions : List Action) (w v : World) → Runs actions w v → Each ActionArgumentsFit actions → Each (GivesBytes v) actions
    → IsReadable word_of_a word_of_b w → IsReadable word_of_a word_of_b v
