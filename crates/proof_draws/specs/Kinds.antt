-- Packets by what opens an association in them.
use Rattle.std.specs.Prelude.{◌≡◌, ℕ, Bool, true, List, [], ◌∷◌, All}
use Rattle.std.specs.List.{list_all}
use Rattle.rand_core.specs.Stream.{Stream}
use Rattle.sctp_packet.specs.Chunk.{ChunkTree, InitTree, init_chunk, init_ack_chunk, cookie_echo_chunk}
use Rattle.sctp_state.specs.Options.{Options}
use Rattle.proof_endpoint.specs.Mapped.{Carried}
use Rattle.proof_pair.specs.Trace.{Pair, emitted_packets, EndAction, goes, run, KeepsRules, NoAssociationHasEnded, AreValidOptions, start, state_of}
use Rattle.proof_draws.specs.Laws.{NumbersFitIn, is_flowing}

-- INIT and INIT ACK are alone in their packets, and a COOKIE ECHO comes first (RFC 9260 sections 3.3.2, 3.3.3, 3.3.11). What else there is
-- opens no association, DATA has a payload, and request numbers are of 32 bits.
pub data IsKind (cs : List ChunkTree) : Type 0 where
  an_init : (i : InitTree) → cs ≡ init_chunk i ∷ [] → IsKind cs
  an_answer : (i : InitTree) → cs ≡ init_ack_chunk i ∷ [] → IsKind cs
  an_echo : (cookie : List ℕ) (rest : List ChunkTree) → cs ≡ cookie_echo_chunk cookie ∷ rest → list_all is_flowing rest ≡ true → IsKind cs
  a_flow : list_all is_flowing cs ≡ true → IsKind cs

-- all packets that were emitted so far; and the request numbers that both ends hold are of 32 bits
pub record AreOfAKind (w : Pair) : Type 0 where
  pub a : All (λ (p : Carried). IsKind p.chunks) (emitted_packets w.a)
  pub b : All (λ (p : Carried). IsKind p.chunks) (emitted_packets w.b)
  pub a_numbers : NumbersFitIn (state_of w.a)
  pub b_numbers : NumbersFitIn (state_of w.b)

-- at each point of a trace
abbrev pub KindsAlong : List (Bool × EndAction) → Pair → Type 0
KindsAlong [] w = AreOfAKind w
KindsAlong (e ∷ es) w = AreOfAKind w × KindsAlong es (goes e.0 e.1 w)

-- ---- the law

-- along each trace that follows the rules, until an association first ends
abbrev pub PacketsAreOfAKind : Type 0
PacketsAreOfAKind =
    (a b : Options) (draws_a draws_b : Stream) (es : List (Bool × EndAction)) → AreValidOptions a → AreValidOptions b → KeepsRules es (start a b draws_a draws_b)
    → NoAssociationHasEnded (run es (start a b draws_a draws_b)) → AreOfAKind (run es (start a b draws_a draws_b))
