-- Each end of a world is awake: each event is a call of one end, or a packet that it takes.
use Rattle.std.proofs.Common.{◌≡◌, ℕ, false, List, [], ◌∷◌, refl, sym, subst}
use Rattle.rand_core.specs.Stream.{Stream}
use Rattle.sctp_state.specs.Options.{Options, IsValid}
use Rattle.spec_endpoint.specs.Association.{Endpoint}
use Rattle.spec_endpoint.specs.Laws.{Advance, ReceivePacket, ReceiveNoPacket}
use Rattle.spec_endpoint.specs.Wire.{writing}
use Rattle.spec_endpoint.specs.Receiving.{Receives, read, not_read}
use Rattle.spec_world.specs.Observations.{End, A, B, Call, Connect, Shutdown, Close, Send, SendMany, TakeMessage, Reset, SetPriority, SetMaxMessageSize, SetLowThreshold, HandOver, Entry}
use Rattle.spec_world.specs.World.{Side, World, Action, CallOf, Give, GiveForeign, AdvanceTime, table_call, call_entry, after_call, time_entry, after_time, side_of, other, record_news, TakesBytes, MeetsForeignAt, given, withheld, Happens, Runs, fresh_world}
use Rattle.proof_endpoint.specs.Lifecycles.{is_restore}
use Rattle.proof_awake.specs.Invariant.{IsTimed}
use Rattle.proof_awake.specs.Worlds.{WorldsAreAwake}
use Rattle.proof_awake.proofs.InputRowLemmas.{each_stays_timed}
use Rattle.proof_awake.proofs.LawLemmas.{new_ends, awake}

abbrev SideIsTimed : Side → Type 0
SideIsTimed side = IsTimed side.socket.endpoint_state

abbrev AreTimed : World → Type 0
AreTimed w = (x : End) → SideIsTimed (side_of x w)

pub no_restore : (call : Call) → is_restore (table_call call) ≡ false
no_restore Connect = refl
no_restore Shutdown = refl
no_restore Close = refl
no_restore (Send m o) = refl
no_restore (SendMany ms o) = refl
no_restore TakeMessage = refl
no_restore (Reset streams) = refl
no_restore (SetPriority stream priority) = refl
no_restore (SetMaxMessageSize bytes) = refl
no_restore (SetLowThreshold stream bytes) = refl
no_restore HandOver = refl

-- an end goes on, and the other one stays
goes_on : (x : End) (first : Entry) (s : Endpoint (List ℕ)) (w : World) → IsTimed s.endpoint_state → AreTimed w → AreTimed (record_news x first s w)
goes_on A first s w k h A = k
goes_on A first s w k h B = h B
goes_on B first s w k h A = h A
goes_on B first s w k h B = k

takes : {word_of : List ℕ → ℕ} (bytes : List ℕ) (s t : Endpoint (List ℕ)) → Receives word_of bytes s t → IsTimed s.endpoint_state → IsTimed t.endpoint_state
takes bytes s t (read p accepts is) h = subst (λ (u : Endpoint (List ℕ)). IsTimed u.endpoint_state) (sym is) (each_stays_timed (ReceivePacket p) s refl h)
takes bytes s t (not_read fault is_fault refuses is) h = subst (λ (u : Endpoint (List ℕ)). IsTimed u.endpoint_state) (sym is) (each_stays_timed ReceiveNoPacket s refl h)

taken : (x : End) (first : Entry) (bytes : List ℕ) (old new : Side) (log longer : List Entry) → TakesBytes x first bytes old new log longer → SideIsTimed old → SideIsTimed new
taken x first bytes old new log longer t h = subst SideIsTimed (sym t.side) (takes bytes old.socket t.after t.takes h)

met : (x : End) (bytes : List ℕ) (old new : Side) (log longer : List Entry) → MeetsForeignAt x bytes old new log longer → SideIsTimed old → SideIsTimed new
met x bytes old new log longer (given t judged) h = taken x _ bytes old new log longer t h
met x bytes old new log longer (withheld judged same logged) h = subst SideIsTimed (sym same) h

both : (x : End) (w v : World) → SideIsTimed (side_of x v) → side_of (other x) v ≡ side_of (other x) w → AreTimed w → AreTimed v
both A w v k same h A = k
both A w v k same h B = subst SideIsTimed (sym same) (h B)
both B w v k same h A = subst SideIsTimed (sym same) (h A)
both B w v k same h B = k

happens : (action : Action) (w v : World) → Happens action w v → AreTimed w → AreTimed v
happens (CallOf x call) w v e h =
    let s : Endpoint (List ℕ) = (side_of x w).socket in
    subst AreTimed (sym e) (goes_on x (call_entry x call s) (after_call call s) w (each_stays_timed (table_call call) s (no_restore call) (h x)) h)
happens (Give packet x) w v g h = both x w v (taken x _ g.bytes (side_of x w) (side_of x v) w.log v.log g.takes_bytes (h x)) g.other_side h
happens (GiveForeign x bytes) w v g h = both x w v (met x bytes (side_of x w) (side_of x v) w.log v.log g.comes (h x)) g.other_side h
happens (AdvanceTime x now) w v e h =
    let s : Endpoint (List ℕ) = (side_of x w).socket in
    subst AreTimed (sym e) (goes_on x (time_entry x now s) (after_time now s) w (each_stays_timed (Advance now) s refl (h x)) h)

pub runs_timed : (actions : List Action) (w v : World) → Runs actions w v → AreTimed w → AreTimed v
runs_timed [] w v e h = subst AreTimed (sym e) h
runs_timed (action ∷ actions) w v r h = runs_timed actions r.0 v r.2 (happens action w r.0 r.1 h)

new_world : (options_a options_b : Options) (draws_a draws_b : Stream) (word_of_a word_of_b : List ℕ → ℕ) → IsValid options_a → IsValid options_b
    → AreTimed (fresh_world options_a options_b draws_a draws_b word_of_a word_of_b)
new_world options_a options_b draws_a draws_b word_of_a word_of_b a b A = new_ends options_a (writing word_of_a) draws_a a
new_world options_a options_b draws_a draws_b word_of_a word_of_b a b B = new_ends options_b (writing word_of_b) draws_b b

pub worlds_awake : WorldsAreAwake
worlds_awake options_a options_b draws_a draws_b word_of_a word_of_b actions w a b r x =
    let first : World = fresh_world options_a options_b draws_a draws_b word_of_a word_of_b in
    awake (side_of x w).socket.endpoint_state (runs_timed actions first w r (new_world options_a options_b draws_a draws_b word_of_a word_of_b a b) x)
