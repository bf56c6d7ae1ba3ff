-- What a log shows, whatever was drawn: packets are by their numbers already, of a handover only that it was done, and
-- associations and the texts of errors are left out.
use Rattle.std.specs.Prelude.{◌≡◌, ℕ, List, [], ◌∷◌}
use Rattle.std.specs.List.{flat_map}
use Rattle.sctp_state.specs.Events.{Event, OnError, OnAborted}
use Rattle.spec_world.specs.Observations.{Answer, Done, HandedOver, Entry, Called, Associated, EmittedEvent}
use Rattle.spec_world.specs.World.{World}

abbrev pub without_record : Answer → Answer
without_record (HandedOver h) = Done
without_record answer = answer

abbrev pub without_text : Event (List ℕ) → Event (List ℕ)
without_text (OnError kind text) = OnError kind []
without_text (OnAborted kind text) = OnAborted kind []
without_text event = event

abbrev pub shown_by : Entry → List Entry
shown_by (Called x clock call answer) = Called x clock call (without_record answer) ∷ []
shown_by (Associated x a) = []
shown_by (EmittedEvent x event) = EmittedEvent x (without_text event) ∷ []
shown_by entry = entry ∷ []

abbrev pub visible : List Entry → List Entry
visible log = flat_map shown_by log

abbrev pub ShowTheSame : (w v : World) → Type 0
ShowTheSame w v = visible v.log ≡ visible w.log
