-- What an end makes of bytes, and what the log has of it.
use Rattle.std.proofs.Common.{◌≡◌, ℕ, Bool, true, false, Option, None, Some, List, [], ◌∷◌, ◌++◌, length, refl, sym, ap, subst, ◌∙◌}
use Rattle.rand_core.specs.Stream.{Stream}
use Rattle.spec_endpoint.specs.Calls.{ready_in}
use Rattle.sctp_association.specs.Socket.{SocketValue, endpoint}
use Rattle.spec_endpoint.specs.Shown.{Association, association_in}
use Rattle.spec_endpoint.specs.Receiving.{Receives, Judges}
use Rattle.spec_world.specs.Observations.{End, Entry, Foreign}
use Rattle.spec_world.specs.World.{TakesBytes, MeetsForeignAt, IsJudged, take_emitted, news, clock}
use Rattle.spec_world.specs.World as comes
use Rattle.sctp_network_side.specs.Interrupted.{IsCut, StopsWithin, TakesBytesSo, MeetsForeignSo}
use Rattle.sctp_network_side.specs.Interrupted as stops
use Rattle.sctp_network_side.specs.SideView.{SideValue, side_in}
use Rattle.sctp_network_side.proofs.CutLemmas.{stops_as}

emitted_there : {R C : Type 0} (stream : R → Stream) (word_of : C → List ℕ → ℕ) (v new : SideValue R C) (x : End) (first : Entry) (bytes : List ℕ) (s : SocketValue R C)
    (log longer : List Entry) (ready : ℕ) (held : Option Association)
    → Receives (word_of v.socket.context.checksum) bytes (endpoint stream word_of v.socket) (endpoint stream word_of s)
    → held ≡ association_in v.socket.state → ready ≡ length (ready_in v.socket.state)
    → side_in stream word_of new ≡ take_emitted (side_in stream word_of (record v { socket = s })) (endpoint stream word_of s)
    → longer ≡ log ++ first ∷ news x (length v.packets) ready held (endpoint stream word_of s)
    → TakesBytes x first bytes (side_in stream word_of v) (side_in stream word_of new) log longer
emitted_there stream word_of v new x first bytes s log longer ready held takes_it a r side logged = record {
  after = endpoint stream word_of s;
  takes = takes_it;
  side = side;
  logged = logged
      ∙ ap (λ (k : ℕ). log ++ first ∷ news x (length v.packets) k held (endpoint stream word_of s)) r
      ∙ ap (λ (h : Option Association). log ++ first ∷ news x (length v.packets) (length (ready_in v.socket.state)) h (endpoint stream word_of s)) a;
}

pub emitted_as : {R C : Type 0} (stream : R → Stream) (word_of : C → List ℕ → ℕ) (v now new : SideValue R C) → v ≡ now → (x : End) (first : Entry) (bytes : List ℕ) (s : SocketValue R C)
    (log longer : List Entry) (ready : ℕ) (held : Option Association)
    → Receives (word_of v.socket.context.checksum) bytes (endpoint stream word_of v.socket) (endpoint stream word_of s)
    → held ≡ association_in now.socket.state → ready ≡ length (ready_in now.socket.state)
    → side_in stream word_of new ≡ take_emitted (side_in stream word_of (record v { socket = s })) (endpoint stream word_of s)
    → longer ≡ log ++ first ∷ news x (length v.packets) ready held (endpoint stream word_of s)
    → TakesBytes x first bytes (side_in stream word_of now) (side_in stream word_of new) log longer
emitted_as stream word_of v now new is x first bytes s log longer ready held takes_it a r side logged =
    subst (λ (w : SideValue _ _). TakesBytes x first bytes (side_in stream word_of w) (side_in stream word_of new) log longer) is
    (emitted_there stream word_of v new x first bytes s log longer ready held takes_it
    (a ∙ ap (λ (w : SideValue _ _). association_in w.socket.state) (sym is)) (r ∙ ap (λ (w : SideValue _ _). length (ready_in w.socket.state)) (sym is)) side logged)

-- ---- where memory ran out

pub cut_as : {R C : Type 0} (stream : R → Stream) (word_of : C → List ℕ → ℕ) (v now : SideValue R C) → v ≡ now → (x : End) (first : Entry) (bytes : List ℕ) (s : SocketValue R C)
    (log cut : List Entry) (ready : ℕ) (held : Option Association)
    → Receives (word_of v.socket.context.checksum) bytes (endpoint stream word_of v.socket) (endpoint stream word_of s)
    → held ≡ association_in now.socket.state → ready ≡ length (ready_in now.socket.state)
    → IsCut log (log ++ first ∷ news x (length v.packets) ready held (endpoint stream word_of s)) cut
    → StopsWithin (TakesBytesSo x first bytes (side_in stream word_of now) log) log cut
cut_as stream word_of v now is x first bytes s log cut ready held takes_it a r c =
    stops.begun (log ++ first ∷ news x (length v.packets) ready held (endpoint stream word_of s)) (
      take_emitted (side_in stream word_of now) (endpoint stream word_of s),
      record {
        after = endpoint stream word_of s;
        takes = subst (λ (w : SideValue _ _). Receives (word_of w.socket.context.checksum) bytes (endpoint stream word_of w.socket) (endpoint stream word_of s)) is takes_it;
        side = refl;
        logged = ap (λ (k : ℕ). log ++ first ∷ news x (length v.packets) k held (endpoint stream word_of s)) r
            ∙ ap (λ (h : Option Association). log ++ first ∷ news x (length v.packets) (length (ready_in now.socket.state)) h (endpoint stream word_of s)) a
            ∙ ap (λ (w : SideValue _ _). log ++ first ∷ news x (length w.packets) (length (ready_in now.socket.state)) (association_in now.socket.state) (endpoint stream word_of s)) is;
      },
    ) c

-- ---- bytes from elsewhere

judged_as : {R C : Type 0} (stream : R → Stream) (word_of : C → List ℕ → ℕ) (v now : SideValue R C) → v ≡ now → (bytes : List ℕ) (answer refused : Bool)
    → Judges (word_of v.socket.context.checksum) bytes v.socket.context.options v.socket.state answer → answer ≡ refused
    → IsJudged bytes (endpoint stream word_of now.socket) refused
judged_as stream word_of v now is bytes answer refused j answers =
    subst (λ (w : SideValue _ _). IsJudged bytes (endpoint stream word_of w.socket) refused) is
    (subst (λ (b : Bool). Judges (word_of v.socket.context.checksum) bytes v.socket.context.options v.socket.state b) answers j)

pub came : {R C : Type 0} (stream : R → Stream) (word_of : C → List ℕ → ℕ) (v now new : SideValue R C) → v ≡ now → (x : End) (bytes : List ℕ) (log longer : List Entry) (answer : Bool)
    → Judges (word_of v.socket.context.checksum) bytes v.socket.context.options v.socket.state answer → answer ≡ true
    → TakesBytes x (Foreign x (clock (side_in stream word_of now).socket) (Some bytes)) bytes
    (side_in stream word_of now) (side_in stream word_of new) log longer
    → MeetsForeignAt x bytes (side_in stream word_of now) (side_in stream word_of new) log longer
came stream word_of v now new is x bytes log longer answer j refused t =
    comes.given t (judged_as stream word_of v now is bytes answer true j refused)

pub passed : {R C : Type 0} (stream : R → Stream) (word_of : C → List ℕ → ℕ) (v now : SideValue R C) → v ≡ now → (x : End) (bytes : List ℕ) (log longer : List Entry) (answer : Bool)
    → Judges (word_of v.socket.context.checksum) bytes v.socket.context.options v.socket.state answer → answer ≡ false
    → longer ≡ log ++ Foreign x (clock (side_in stream word_of now).socket) None ∷ []
    → MeetsForeignAt x bytes (side_in stream word_of now) (side_in stream word_of now) log longer
passed stream word_of v now is x bytes log longer answer j taken l =
    comes.withheld (judged_as stream word_of v now is bytes answer false j taken) refl l

-- given to an end that refuses them
pub cut_foreign : {R C : Type 0} (stream : R → Stream) (word_of : C → List ℕ → ℕ) (v now : SideValue R C) → v ≡ now → (x : End) (bytes : List ℕ) (log cut : List Entry) (answer : Bool)
    → Judges (word_of v.socket.context.checksum) bytes v.socket.context.options v.socket.state answer → answer ≡ true
    → StopsWithin (TakesBytesSo x (Foreign x (clock (side_in stream word_of now).socket) (Some bytes)) bytes (side_in stream word_of now) log) log cut
    → StopsWithin (MeetsForeignSo x bytes (side_in stream word_of now) log) log cut
cut_foreign stream word_of v now is x bytes log cut answer j refused c =
    stops_as (TakesBytesSo x (Foreign x (clock (side_in stream word_of now).socket) (Some bytes)) bytes (side_in stream word_of now) log)
    (MeetsForeignSo x bytes (side_in stream word_of now) log) log cut (λ whole t. (t.0, comes.given t.1 (judged_as stream word_of v now is bytes answer true j refused))) c
