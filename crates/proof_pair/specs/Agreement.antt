-- Along any trace of two ends: what each drew and held, and what an end that emits `OnConnected` knows of the other.
use Rattle.std.specs.Prelude.{◌≡◌, ℕ, Bool, true, false, Option, Some, None, List, [], ◌∷◌, ◌++◌, slice_get, length, drop, ⊤, ◌⊎◌}
use Rattle.rand_core.specs.Stream.{Stream}
use Rattle.sctp_packet.specs.Chunk.{ChunkTree, init_chunk}
use Rattle.sctp_packet.specs.Packet.{PacketTree}
use Rattle.sctp_state.specs.Options.{Options}
use Rattle.sctp_state.specs.Events.{Event}
use Rattle.spec_endpoint.specs.Association.{Tcb, Phase, CookieEchoed, Established, ShutdownPending, ShutdownSent, ShutdownReceived, ShutdownAckSent, State, Closed, CookieWait, Open, Endpoint}
use Rattle.spec_endpoint.specs.Opening.{tsn_from, tag_from, word, drew_word, next_first}
use Rattle.spec_endpoint.specs.Input.{AfterChunk, packet_refusal, count_packet_at, in_endpoint_state, repeats_if, has_data_chunk, receive}
use Rattle.spec_endpoint.specs.Laws.{Call, Connect, Restore, ReceivePacket}
use Rattle.proof_endpoint.specs.Mapped.{Carried}
use Rattle.proof_pair.specs.Trace.{Side, Pair, has_connected, emitted_packets, as_received, EndAction, Calls, Gives, Refuses, act, goes, AreValidOptions, start, state_of}

-- a verification tag, and the first TSN that goes with it
pub record Draw : Type 0 where
  pub tag : ℕ
  pub first : ℕ

pub record Association : Type 0 where
  pub mine : Draw
  pub peer : Draw

abbrev pub mirrored : Association → Association
mirrored a = record { mine = a.peer; peer = a.mine }

abbrev pub Has : {A : Type 0} → A → List A → Type 0
Has x [] = ⊥
Has x (y ∷ ys) = (x ≡ y) ⊎ Has x ys

-- ---- what an end drew and held, the newest first

pub record History : Type 0 where
  pub drawn : List Draw
  pub held : List Association

abbrev pub association_of : Tcb → Association
association_of t = record {
  mine = record { tag = t.identity.my_tag; first = t.identity.my_first };
  peer = record { tag = t.identity.peer_tag; first = t.identity.peer_first };
}

abbrev pub held_in : State → List Association
held_in Closed = []
held_in (CookieWait tag first t1) = []
held_in (Open phase t) = association_of t ∷ []

-- a first TSN and a tag are drawn; or the tag alone, by an end that may take up another association in this one's place
abbrev pub two_drawn : {P : Type 0} → Endpoint P → List Draw
two_drawn e = record { tag = tag_from (word (drew_word e)); first = tsn_from (word e) } ∷ []

abbrev pub one_drawn : {P : Type 0} → Tcb → Endpoint P → List Draw
one_drawn t e = record { tag = tag_from (word e); first = next_first t } ∷ []

abbrev pub drawn_open : {P : Type 0} → Phase → Tcb → Endpoint P → List Draw
drawn_open (CookieEchoed t1 cookie) t e = []
drawn_open Established t e = one_drawn t e
drawn_open ShutdownPending t e = one_drawn t e
drawn_open (ShutdownSent t2) t e = one_drawn t e
drawn_open ShutdownReceived t e = one_drawn t e
drawn_open (ShutdownAckSent t2) t e = []

-- for the answer to an INIT
abbrev pub drawn_for_init : {P : Type 0} → State → Endpoint P → List Draw
drawn_for_init Closed e = two_drawn e
drawn_for_init (CookieWait tag first t1) e = []
drawn_for_init (Open phase t) e = drawn_open phase t e

abbrev pub drawn_for : {P : Type 0} → ChunkTree → Endpoint P → List Draw
drawn_for (init_chunk i) e = drawn_for_init e.endpoint_state.state e
drawn_for chunk e = []

abbrev pub drawn_to_connect : {P : Type 0} → State → Endpoint P → List Draw
drawn_to_connect Closed e = two_drawn e
drawn_to_connect s e = []

-- chunk by chunk
abbrev pub drawn_behind : {P : Type 0} → (Endpoint P → List Draw) → AfterChunk P → List Draw
drawn_behind rest h = elim h.allows_next [ true ↦ rest h.end | false ↦ [] ]

abbrev pub drawn_receiving : {P : Type 0} → (tag : ℕ) → List ChunkTree → Endpoint P → List Draw
drawn_receiving tag [] e = []
drawn_receiving tag (c ∷ cs) e = drawn_behind (drawn_receiving tag cs) (receive tag c e) ++ drawn_for c e

abbrev pub drawn_taking : {P : Type 0} → Option (List ℕ) → PacketTree → Endpoint P → List Draw
drawn_taking None p e = drawn_receiving p.header.verification_tag p.chunks (in_endpoint_state (repeats_if (has_data_chunk p.chunks)) (count_packet_at e))
drawn_taking (Some text) p e = []

abbrev pub drawn_given : Option Carried → (checksum : ℕ) → Side → List Draw
drawn_given None checksum x = []
drawn_given (Some p) checksum x =
    let q : PacketTree = as_received p checksum in
    drawn_taking (packet_refusal q.header.verification_tag q.chunks (state_of x)) q x.end

abbrev pub drawn_in : EndAction → (x y : Side) → List Draw
drawn_in (Calls Connect) x y = drawn_to_connect (state_of x) x.end
drawn_in (Calls call) x y = []
drawn_in (Gives which checksum) x y = drawn_given (slice_get (emitted_packets y) which) checksum x
drawn_in (Refuses p) x y = []

-- of one action: what was drawn in it, and what is held after it
abbrev pub history_after : EndAction → (x y : Side) → History → History
history_after action x y n = record { drawn = drawn_in action x y ++ n.drawn; held = held_in (state_of (act action x y)) ++ n.held }

-- ---- of both ends, along a trace

pub record Histories : Type 0 where
  pub a : History
  pub b : History

abbrev pub no_history : History
no_history = record { drawn = []; held = [] }

abbrev pub no_histories : Histories
no_histories = record { a = no_history; b = no_history }

abbrev pub histories_after : Bool → EndAction → Pair → Histories → Histories
histories_after true action w k = record k { a = history_after action w.a w.b k.a }
histories_after false action w k = record k { b = history_after action w.b w.a k.b }

abbrev pub histories_along : List (Bool × EndAction) → Pair → Histories → Histories
histories_along [] w k = k
histories_along (e ∷ es) w k = histories_along es (goes e.0 e.1 w) (histories_after e.0 e.1 w k)

-- no tag is drawn twice
abbrev pub AreDistinct : List Draw → Type 0
AreDistinct [] = ⊤
AreDistinct (d ∷ ds) = ((e : Draw) → Has e ds → e.tag ≡ d.tag → ⊥) × AreDistinct ds

-- neither end draws a tag twice; both may draw the same one
abbrev pub AreDistinctPerEnd : Histories → Type 0
AreDistinctPerEnd k = AreDistinct k.a.drawn × AreDistinct k.b.drawn

-- ---- what is allowed: no record of a handover is taken up. Packets that can be read are given, not called

abbrev pub IsPlainCall : Call → Type 0
IsPlainCall (Restore h) = ⊥
IsPlainCall (ReceivePacket p) = ⊥
IsPlainCall call = ⊤

abbrev pub IsAllowed : EndAction → Type 0
IsAllowed (Calls call) = IsPlainCall call
IsAllowed action = ⊤

abbrev pub AreAllowed : List (Bool × EndAction) → Type 0
AreAllowed [] = ⊤
AreAllowed (e ∷ es) = IsAllowed e.1 × AreAllowed es

-- ---- the law

-- emitted since
abbrev pub emitted_since : (before after : Side) → List (Event Carried)
emitted_since before after = drop (length before.emitted) after.emitted

-- an end that emitted in an action that it is connected holds an association after it, which the other end holds or held mirrored
abbrev pub Agrees : (before after : Side) → (other : History) → Type 0
Agrees before after other =
    has_connected (emitted_since before after) ≡ true → (a : Association) × Has a (held_in (state_of after)) × Has (mirrored a) other.held

abbrev pub AgreesAt : Bool → EndAction → Pair → Histories → Type 0
AgreesAt true action w k = Agrees w.a (act action w.a w.b) k.b
AgreesAt false action w k = Agrees w.b (act action w.b w.a) k.a

abbrev pub AgreesAlong : List (Bool × EndAction) → Pair → Histories → Type 0
AgreesAlong [] w k = ⊤
AgreesAlong (e ∷ es) w k = AgreesAt e.0 e.1 w k × AgreesAlong es (goes e.0 e.1 w) (histories_after e.0 e.1 w k)

-- Along each trace in which no end draws a tag twice.
abbrev pub EndsAgree : Type 0
EndsAgree =
    (a b : Options) (draws_a draws_b : Stream) (trace : List (Bool × EndAction)) → AreValidOptions a → AreValidOptions b → AreAllowed trace
    → AreDistinctPerEnd (histories_along trace (start a b draws_a draws_b) no_histories) → AgreesAlong trace (start a b draws_a draws_b) no_histories
