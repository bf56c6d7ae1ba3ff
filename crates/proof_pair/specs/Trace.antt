-- Two ends, all that they ever emitted, and how they go on: any calls, any packets of the other end, again and in any order, any
-- moments, any foreign bytes that are refused.
use Rattle.std.specs.Prelude.{◌≡◌, ℕ, ◌==◌, ◌||◌, ◌^◌, ◌<◌, Bool, true, false, Option, Some, None, List, [], ◌∷◌, ◌++◌, map, slice_get, ⊤, ◌⊎◌}
use Rattle.rand_core.specs.Stream.{Stream}
use Rattle.sctp_packet.specs.Grammar.{carried}
use Rattle.sctp_packet.specs.Packet.{PacketTree}
use Rattle.sctp_state.specs.Options.{Options, IsValid}
use Rattle.sctp_capabilities.specs.Capabilities.{agreed, mirrored_capabilities}
use Rattle.sctp_state.specs.Events.{Event, OnConnected}
use Rattle.spec_endpoint.specs.Association.{Identity, Tcb, Phase, State, Open, Endpoint, fresh}
use Rattle.spec_endpoint.specs.Input.{packet_refusal}
use Rattle.spec_endpoint.specs.Laws.{Call, Connect, Shutdown, Restore, ReceivePacket, called, endings}
use Rattle.proof_endpoint.specs.Mapped.{Carried, as_carried}
use Rattle.spec_endpoint.specs.Packets.{packets_in, drained}

-- ---- an end, and what it emitted

pub record Side : Type 0 where
  pub end : Endpoint Carried
  pub emitted : List (Event Carried)  -- so far; what was emitted is taken after each action
  pub got_init : Bool  -- an INIT was given to it

pub record Pair : Type 0 where
  pub a : Side
  pub b : Side

abbrev pub new_side : Options → Stream → Side
new_side o draws = record { end = fresh o as_carried draws; emitted = []; got_init = false }

-- all packets that it ever emitted
abbrev pub emitted_packets : Side → List Carried
emitted_packets x = packets_in x.emitted

-- it emitted that it is connected
abbrev pub has_connected : {P : Type 0} → List (Event P) → Bool
has_connected [] = false
has_connected (OnConnected ∷ es) = true
has_connected (e ∷ es) = has_connected es

-- ---- actions

pub data EndAction : Type 0 where
  Calls : Call → EndAction  -- any call but for packets that can be read; moments and bytes that are no packet too
  Gives : (which checksum : ℕ) → EndAction  -- the packet with this number of all that the other end emitted
  Refuses : PacketTree → EndAction  -- foreign bytes: a packet that the end refuses; else nothing happens

-- what was emitted is taken
abbrev pub drain : Endpoint Carried → Side → Side
drain e x = record x { end = drained e; emitted = x.emitted ++ e.endpoint_state.context.emitted.events }

-- as it is received: fields that a kind of chunk doesn't write are zero
abbrev pub as_received : Carried → (checksum : ℕ) → PacketTree
as_received p checksum = record { header = p.header; checksum = checksum; chunks = map carried p.chunks }

-- an INIT goes under tag 0
abbrev pub give_carried : Option Carried → (checksum : ℕ) → Side → Side
give_carried None checksum x = x
give_carried (Some p) checksum x = record (drain (called (ReceivePacket (as_received p checksum)) x.end) x) { got_init = x.got_init || (p.header.verification_tag == 0) }

abbrev pub foreign_if : (refusal : Option (List ℕ)) → PacketTree → Side → Side
foreign_if None p x = x
foreign_if (Some text) p x = drain (called (ReceivePacket p) x.end) x

-- of one end, beside the other
abbrev pub act : EndAction → (x y : Side) → Side
act (Calls call) x y = drain (called call x.end) x
act (Gives which checksum) x y = give_carried (slice_get (emitted_packets y) which) checksum x
act (Refuses p) x y = foreign_if (packet_refusal p.header.verification_tag p.chunks x.end.endpoint_state.state) p x

-- true is end a
abbrev pub goes : Bool → EndAction → Pair → Pair
goes true action w = record w { a = act action w.a w.b }
goes false action w = record w { b = act action w.b w.a }

abbrev pub run : List (Bool × EndAction) → Pair → Pair
run [] w = w
run (e ∷ es) w = run es (goes e.0 e.1 w)

-- ---- the rules

-- Before it emitted that it is connected, an end is asked neither for a shutdown, nor to connect once an INIT was given to
-- it. No record of a handover is taken up.
abbrev pub MayCall : Call → Side → Type 0
MayCall Connect x = (has_connected x.emitted ≡ true) ⊎ (x.got_init ≡ false)
MayCall Shutdown x = has_connected x.emitted ≡ true
MayCall (Restore h) x = ⊥
MayCall (ReceivePacket p) x = ⊥
MayCall call x = ⊤

abbrev pub MayAct : EndAction → Side → Type 0
MayAct (Calls call) x = MayCall call x
MayAct action x = ⊤

abbrev pub side_of : Bool → Pair → Side
side_of true w = w.a
side_of false w = w.b

abbrev pub KeepsRules : List (Bool × EndAction) → Pair → Type 0
KeepsRules [] w = ⊤
KeepsRules (e ∷ es) w = MayAct e.1 (side_of e.0 w) × KeepsRules es (goes e.0 e.1 w)

-- no association has ended so far, at either end
pub record NoAssociationHasEnded (w : Pair) : Type 0 where
  pub a : endings w.a.emitted ≡ 0
  pub b : endings w.b.emitted ≡ 0

-- ---- what two ends start with

-- options that a socket can be made with: they are valid, and these numbers fit their types
pub record AreValidOptions (o : Options) : Type 0 where
  pub valid : IsValid o
  pub incoming : o.announced_maximum_incoming_streams < 2 ^ 16
  pub outgoing : o.announced_maximum_outgoing_streams < 2 ^ 16
  pub method : o.zero_checksum_method < 2 ^ 32

abbrev pub start : (a b : Options) → (draws_a draws_b : Stream) → Pair
start a b draws_a draws_b = record { a = new_side a draws_a; b = new_side b draws_b }

-- ---- the law

abbrev pub state_of : Side → State
state_of x = x.end.endpoint_state.state

-- tags and first TSNs are exchanged
pub record AreMirrored (i j : Identity) : Type 0 where
  pub tag : i.my_tag ≡ j.peer_tag
  pub first : i.my_first ≡ j.peer_first
  pub peer_tag : i.peer_tag ≡ j.my_tag
  pub peer_first : i.peer_first ≡ j.my_first

-- What each end's association can do is what was negotiated of the two option sets; and where both hold one, they hold it
-- mirrored, in the stream counts too.
pub record AreConsistent (a b : Options) (w : Pair) : Type 0 where
  pub a_negotiated : (phase : Phase) (t : Tcb) → state_of w.a ≡ Open phase t → t.capabilities ≡ agreed a b
  pub b_negotiated : (phase : Phase) (t : Tcb) → state_of w.b ≡ Open phase t → t.capabilities ≡ agreed b a
  pub mirrored : (phase next : Phase) (t u : Tcb) → state_of w.a ≡ Open phase t → state_of w.b ≡ Open next u → AreMirrored t.identity u.identity
  pub counts : agreed b a ≡ mirrored_capabilities (agreed a b)

-- Along each trace that follows the rules, until an association first ends.
abbrev pub EndsAreConsistent : Type 0
EndsAreConsistent =
    (a b : Options) (draws_a draws_b : Stream) (trace : List (Bool × EndAction)) → AreValidOptions a → AreValidOptions b
    → KeepsRules trace (start a b draws_a draws_b) → NoAssociationHasEnded (run trace (start a b draws_a draws_b))
    → AreConsistent a b (run trace (start a b draws_a draws_b))
