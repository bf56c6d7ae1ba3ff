-- What the log of a world has, where memory ran out.
use Rattle.std.proofs.Common.{◌≡◌, ℕ, Some, List, ◌∷◌, ◌++◌, refl, sym, ap, subst, ◌∙◌}
use Rattle.std.specs.Prelude.{slice_get}
use Rattle.rand_core.specs.Stream.{Stream}
use Rattle.spec_world.specs.Observations.{End, A, B, Call, Entry, Given}
use Rattle.spec_world.specs.World.{Side, World, Action, CallOf, Give, GiveForeign, AdvanceTime, Runs, IsDisabled, call_entry, after_call, time_entry, after_time, news_of, call_socket, advance_time, clock, with_side}
use Rattle.sctp_network_side.specs.Interrupted.{IsCut, StopsWithin, TakesBytesSo, MeetsForeignSo}
use Rattle.sctp_network_side.specs.Interrupted as stops
use Rattle.sctp_network_side.proofs.CutLemmas.{stops_as}
use Rattle.sctp_network.specs.Interrupted.{IsMadeBy, RunsUpToFailure}
use Rattle.sctp_network.specs.WorldView.{WorldValue, world_of}

-- ---- a call, a moment

pub call_cut_a : (x : End) (call : Call) (w : World) (log : List Entry) → x ≡ A
    → IsCut w.log (w.log ++ call_entry x call w.a.socket ∷ news_of x w.a (after_call call w.a.socket)) log → StopsWithin (IsMadeBy (CallOf A call) w) w.log log
call_cut_a x call w log is cut =
    stops.begun (call_socket A call w).log (call_socket A call w, refl, refl)
    (subst (λ (y : End). IsCut w.log (w.log ++ call_entry y call w.a.socket ∷ news_of y w.a (after_call call w.a.socket)) log) is cut)

pub call_cut_b : (x : End) (call : Call) (w : World) (log : List Entry) → x ≡ B
    → IsCut w.log (w.log ++ call_entry x call w.b.socket ∷ news_of x w.b (after_call call w.b.socket)) log → StopsWithin (IsMadeBy (CallOf B call) w) w.log log
call_cut_b x call w log is cut =
    stops.begun (call_socket B call w).log (call_socket B call w, refl, refl)
    (subst (λ (y : End). IsCut w.log (w.log ++ call_entry y call w.b.socket ∷ news_of y w.b (after_call call w.b.socket)) log) is cut)

pub time_cut_a : (x : End) (now : ℕ) (w : World) (log : List Entry) → x ≡ A
    → IsCut w.log (w.log ++ time_entry x now w.a.socket ∷ news_of x w.a (after_time now w.a.socket)) log → StopsWithin (IsMadeBy (AdvanceTime A now) w) w.log log
time_cut_a x now w log is cut =
    stops.begun (advance_time A now w).log (advance_time A now w, refl, refl)
    (subst (λ (y : End). IsCut w.log (w.log ++ time_entry y now w.a.socket ∷ news_of y w.a (after_time now w.a.socket)) log) is cut)

pub time_cut_b : (x : End) (now : ℕ) (w : World) (log : List Entry) → x ≡ B
    → IsCut w.log (w.log ++ time_entry x now w.b.socket ∷ news_of x w.b (after_time now w.b.socket)) log → StopsWithin (IsMadeBy (AdvanceTime B now) w) w.log log
time_cut_b x now w log is cut =
    stops.begun (advance_time B now w).log (advance_time B now w, refl, refl)
    (subst (λ (y : End). IsCut w.log (w.log ++ time_entry y now w.b.socket ∷ news_of y w.b (after_time now w.b.socket)) log) is cut)

-- ---- a packet, bytes from elsewhere

abbrev GivesSo : (x : End) (packet : ℕ) (from to : Side) (log longer : List Entry) → Type 0
GivesSo x packet from to log longer = (bytes : List ℕ) × (slice_get from.packets packet ≡ Some bytes) × TakesBytesSo x (Given x (clock to.socket) packet) bytes to log longer

pub give_cut_a : (x : End) (packet : ℕ) (w : World) (log : List Entry) → x ≡ A → StopsWithin (GivesSo x packet w.b w.a w.log) w.log log
    → StopsWithin (IsMadeBy (Give packet A) w) w.log log
give_cut_a x packet w log is cut =
    stops_as (GivesSo A packet w.b w.a w.log) (IsMadeBy (Give packet A) w) w.log log
    (λ whole g. (with_side A g.2.0 whole w, record { bytes = g.0; there = g.1; takes_bytes = g.2.1; other_side = refl }, refl))
    (subst (λ (y : End). StopsWithin (GivesSo y packet w.b w.a w.log) w.log log) is cut)

pub give_cut_b : (x : End) (packet : ℕ) (w : World) (log : List Entry) → x ≡ B → StopsWithin (GivesSo x packet w.a w.b w.log) w.log log
    → StopsWithin (IsMadeBy (Give packet B) w) w.log log
give_cut_b x packet w log is cut =
    stops_as (GivesSo B packet w.a w.b w.log) (IsMadeBy (Give packet B) w) w.log log
    (λ whole g. (with_side B g.2.0 whole w, record { bytes = g.0; there = g.1; takes_bytes = g.2.1; other_side = refl }, refl))
    (subst (λ (y : End). StopsWithin (GivesSo y packet w.a w.b w.log) w.log log) is cut)

pub foreign_cut_a : (x : End) (bytes : List ℕ) (w : World) (log : List Entry) → x ≡ A → StopsWithin (MeetsForeignSo x bytes w.a w.log) w.log log
    → StopsWithin (IsMadeBy (GiveForeign A bytes) w) w.log log
foreign_cut_a x bytes w log is cut =
    stops_as (MeetsForeignSo A bytes w.a w.log) (IsMadeBy (GiveForeign A bytes) w) w.log log
    (λ whole m. (with_side A m.0 whole w, record { comes = m.1; other_side = refl }, refl))
    (subst (λ (y : End). StopsWithin (MeetsForeignSo y bytes w.a w.log) w.log log) is cut)

pub foreign_cut_b : (x : End) (bytes : List ℕ) (w : World) (log : List Entry) → x ≡ B → StopsWithin (MeetsForeignSo x bytes w.b w.log) w.log log
    → StopsWithin (IsMadeBy (GiveForeign B bytes) w) w.log log
foreign_cut_b x bytes w log is cut =
    stops_as (MeetsForeignSo B bytes w.b w.log) (IsMadeBy (GiveForeign B bytes) w) w.log log
    (λ whole m. (with_side B m.0 whole w, record { comes = m.1; other_side = refl }, refl))
    (subst (λ (y : End). StopsWithin (MeetsForeignSo y bytes w.b w.log) w.log log) is cut)

-- ---- a run

pub failing : (all rest more : List Action) (action : Action) (w u : World) (log : List Entry)
    → (front : List Action) × (all ≡ front ++ rest) × Runs front w u → rest ≡ action ∷ more → (IsDisabled action u → ⊥) → StopsWithin (IsMadeBy action u) u.log log
    → RunsUpToFailure all w log
failing all rest more action w u log done next there cut = record {
  up_to = record {
    before = done.0;
    action = action;
    rest = more;
    split = done.1 ∙ ap (λ (r : List Action). done.0 ++ r) next;
    reached = u;
    runs = done.2;
    there = there;
  };
  stops = cut;
}

-- ---- the program's values

-- the event is this action, and the world is seen as this value
pub as_event : {R C : Type 0} (stream : R → Stream) (word_of : C → List ℕ → ℕ) (v now : WorldValue R C) → v ≡ now → (event action : Action) (log : List Entry) → event ≡ action
    → StopsWithin (IsMadeBy action (world_of stream word_of v)) v.log log → StopsWithin (IsMadeBy event (world_of stream word_of now)) now.log log
as_event stream word_of v now is event action log e cut =
    subst (λ (w : WorldValue _ _). StopsWithin (IsMadeBy event (world_of stream word_of w)) w.log log) is
    (subst (λ (a : Action). StopsWithin (IsMadeBy a (world_of stream word_of v)) v.log log) (sym e) cut)
