-- Each record in the log of a world is justified: of each event, since its action of the trace emits justified records alone.
use Rattle.std.proofs.Common.{◌≡◌, inl, inr, ℕ, ◌^◌, ◌<◌, Bool, true, false, Some, None, List, [], ◌∷◌, ◌++◌, length, map, refl, sym, ap, subst, ◌∙◌, append-nil, append_assoc}
use Rattle.std.specs.Prelude.{⊤, All}
use Rattle.std.specs.List.{flat_map, AllByRecursion}
use Rattle.std.proofs.lemmas.Grind.{flat_map-append}
use Rattle.std.proofs.lemmas.List.{map-append, length-map}
use Rattle.std.proofs.lemmas.List.Elements.{All-head, All-tail}
use Rattle.rand_core.specs.Stream.{Stream}
use Rattle.sctp_state.specs.Options.{Options}
use Rattle.sctp_state.specs.Events.{GivenUp}
use Rattle.spec_endpoint.specs.Association.{Endpoint}
use Rattle.spec_endpoint.specs.Laws as table
use Rattle.proof_endpoint.specs.Mapped.{Mapping, Carried, map_end, as_bytes}
use Rattle.proof_pair.specs.Trace as traces
use Rattle.proof_pair.specs.Trace.{Pair, EndAction, Calls, act, goes, start}
use Rattle.proof_delivery.specs.Accepted.{AcceptedMessage, accepted_in}
use Rattle.proof_delivery.specs.Justified as delivery
use Rattle.proof_delivery.specs.Justified.{Acceptance, accepted_then, records_at, reset_by, reset_at, restores}
use Rattle.proof_delivery.proofs.JustifiedActsLemmas.{IsJustifiedAt}
use Rattle.proof_delivery.proofs.JustifiedOffersLemmas.{shorter}
use Rattle.proof_delivery.proofs.JustifiedTraceLemmas.{Rests, Actions, accepted_now, goes_on, offers_back, at_first}
use Rattle.spec_world.specs.Observations.{End, A, B, same_end, none_unless, Entry, Called, Given, Foreign, Timed, GaveUp, Call, Connect, given_up_by, given_up}
use Rattle.spec_world.specs.World.{Side, World, Action, CallOf, Give, GiveForeign, AdvanceTime, MeetsForeignAt, given, withheld, Gives, Happens, Runs, side_of, other, take_emitted, news_of, call_socket, call_entry, after_call, advance_time, time_entry, after_time, table_call, answer_to, association, fresh_world}
use Rattle.spec_world.specs.World as worlds
use Rattle.spec_endpoint.specs.Calls.{ready_at}
use Rattle.proof_world.specs.Reachable.{ActionFits, IsInBytes}
use Rattle.proof_world.specs.Traces.{is_a, end_of, give_action, IsForeign, IsActionOf}
use Rattle.proof_world.specs.Delivered.{accepted_messages_by, accepted_messages, reset_in}
use Rattle.proof_world.specs.Justified.{clock_if, clock_after, clock_from, clock, resets_if, resets_after, resets_from, resets, acceptances_by, acceptances, options_of, WorldsAreJustified, AcceptancesAreOfAcceptedMessages}
use Rattle.proof_world.proofs.LoggedLemmas.{IsQuietOn, none_in_news}
use Rattle.proof_world.proofs.EventLemmas.{same_itself}
use Rattle.proof_world.proofs.ClockLemmas.{moves, action_still}
use Rattle.proof_world.proofs.AvoidingLemmas.{option_stands}
use Rattle.proof_world.proofs.EmittingLemmas.{not_other, call_resets, BeginsWith, call_begins, given_accepts, given_resets, foreign_accepts, foreign_resets}
use Rattle.proof_world.proofs.WorldLemmas.{Both, Extends, extends_then, in_bytes_before, Stepped, steps}
use Rattle.proof_world.proofs.RunsLemmas.{runs_extends, happens_extends, fresh_both}
use Rattle.proof_world.proofs.PrefixLemmas.{split_head, split_tail}
use Rattle.proof_world.proofs.BlockLemmas.{same_front}
use Rattle.proof_world.proofs.DeliveredLemmas.{calls_log, time_side, time_log}
use Rattle.proof_protocol.proofs.ToolsLemmas.{not_both}

-- ---- a log, entry by entry

-- of a record of this end, which avoids stalls or doesn't, by what was accepted so far, the clock, and the streams that the event resets
abbrev IsRight : End → (avoids : Bool) → List Acceptance → (now : ℕ) → (resets : List ℕ) → Entry → Type 0
IsRight x avoids all now resets (GaveUp y g) = same_end x y ≡ true → IsJustifiedAt all avoids resets now g
IsRight x avoids all now resets entry = ⊤

abbrev Each : End → (avoids : Bool) → List Acceptance → (now : ℕ) → (resets : List ℕ) → List Entry → Type 0
Each x avoids all now resets [] = ⊤
Each x avoids all now resets (e ∷ log) = IsRight x avoids all now resets e × Each x avoids (all ++ acceptances_by x e) (clock_after x now e) (resets_after x resets e) log

each_both : (x : End) (avoids : Bool) (all : List Acceptance) (now : ℕ) (resets : List ℕ) (log more : List Entry) → Each x avoids all now resets log
    → Each x avoids (all ++ acceptances x log) (clock_from x now log) (resets_from x resets log) more → Each x avoids all now resets (log ++ more)
each_both x avoids all now resets [] more h k = subst (λ (l : List Acceptance). Each x avoids l now resets more) (append-nil all) k
each_both x avoids all now resets (e ∷ log) more h k =
    let later : List ℕ = resets_after x resets e in (
      h.0,
      each_both x avoids (all ++ acceptances_by x e) (clock_after x now e) later log more h.1
          (subst (λ (l : List Acceptance). Each x avoids l (clock_from x (clock_after x now e) log) (resets_from x later log) more)
          (sym (append_assoc all (acceptances_by x e) (acceptances x log))) k),
    )

at_each : (x : End) (avoids : Bool) (all : List Acceptance) (now : ℕ) (resets : List ℕ) (log before behind : List Entry) (g : GivenUp) → Each x avoids all now resets log
    → log ≡ before ++ GaveUp x g ∷ behind → IsJustifiedAt (all ++ acceptances x before) avoids (resets_from x resets before) (clock_from x now before) g
at_each x avoids all now resets [] [] behind g h is = cc
at_each x avoids all now resets [] (f ∷ before) behind g h is = cc
at_each x avoids all now resets (d ∷ log) [] behind g h is =
    subst (λ (l : List Acceptance). IsJustifiedAt l avoids resets now g) (sym (append-nil all))
    (subst (IsRight x avoids all now resets) (split_head d (GaveUp x g) log behind is) h.0 (same_itself x))
at_each x avoids all now resets (d ∷ log) (f ∷ before) behind g h is =
    subst (λ (e : Entry). IsJustifiedAt (all ++ (acceptances_by x e ++ acceptances x before)) avoids (resets_from x (resets_after x resets e) before) (clock_from x (clock_after x now e) before) g)
    (split_head d f log (before ++ GaveUp x g ∷ behind) is)
    (subst (λ (l : List Acceptance). IsJustifiedAt l avoids (resets_from x (resets_after x resets d) before) (clock_from x (clock_after x now d) before) g)
    (append_assoc all (acceptances_by x d) (acceptances x before))
    (at_each x avoids (all ++ acceptances_by x d) (clock_after x now d) (resets_after x resets d) log before behind g h.1 (split_tail d f log (before ++ GaveUp x g ∷ behind) is)))

-- ---- entries behind the first of an event

-- the calls, packets and moments
abbrev firsts : Entry → List Entry
firsts (Called y clock call answer) = Called y clock call answer ∷ []
firsts (Given y clock packet) = Given y clock packet ∷ []
firsts (Foreign y clock bytes) = Foreign y clock bytes ∷ []
firsts (Timed y clock now) = Timed y clock now ∷ []
firsts entry = []

none_first : (y : End) → IsQuietOn firsts y
none_first y = record { on_emitted = record { associated = λ a. refl; emitted = λ n. refl; happened = λ e. refl }; gave_up = λ g. refl }

accept_none : (x : End) (more : List Entry) → flat_map firsts more ≡ [] → acceptances x more ≡ []
accept_none x [] h = refl
accept_none x (Called y clock call answer ∷ more) h = cc
accept_none x (Given y clock packet ∷ more) h = cc
accept_none x (Foreign y clock bytes ∷ more) h = cc
accept_none x (Timed y clock now ∷ more) h = cc
accept_none x (e ∷ more) h = accept_none x more h

stand_still : (x : End) (now : ℕ) (more : List Entry) → flat_map firsts more ≡ [] → clock_from x now more ≡ now
stand_still x now [] h = refl
stand_still x now (Called y clock call answer ∷ more) h = cc
stand_still x now (Given y clock packet ∷ more) h = cc
stand_still x now (Foreign y clock bytes ∷ more) h = cc
stand_still x now (Timed y clock moment ∷ more) h = cc
stand_still x now (e ∷ more) h = stand_still x now more h

module _ (x : End) (avoids : Bool) (all : List Acceptance) (resets : List ℕ) (now : ℕ) where
  each_more : (log : List Entry) → Each x avoids all now resets log → Each x avoids (all ++ []) now resets log
  each_more log h = subst (λ (l : List Acceptance). Each x avoids l now resets log) (sym (append-nil all)) h

  each_quiet : (more : List Entry) → flat_map firsts more ≡ [] → AllByRecursion (IsJustifiedAt all avoids resets now) (given_up x more) → Each x avoids all now resets more
  each_quiet [] h k = tt
  each_quiet (Called y clock call answer ∷ more) h k = cc
  each_quiet (Given y clock packet ∷ more) h k = cc
  each_quiet (Foreign y clock bytes ∷ more) h k = cc
  each_quiet (Timed y clock moment ∷ more) h k = cc
  each_quiet (GaveUp y g ∷ more) h k = go (same_end x y) refl k (λ l. each_more more (each_quiet more h l))
    where
      go : (b : Bool) → same_end x y ≡ b → AllByRecursion (IsJustifiedAt all avoids resets now) (none_unless b g ++ given_up x more)
          → (AllByRecursion (IsJustifiedAt all avoids resets now) (given_up x more) → Each x avoids (all ++ []) now resets more) → Each x avoids all now resets (GaveUp y g ∷ more)
      go true is k rest = (λ e. k.0, rest k.1)
      go false is k rest = (λ e. absurd (not_both e is), rest k)
  each_quiet (e ∷ more) h k = (tt, each_more more (each_quiet more h k))

-- ---- one event at end x, which was `own` in the trace and is `next`

-- a first entry with this clock, at which these streams are reset
record HasClock (x : End) (n : ℕ) (cleared : List ℕ) (first : Entry) : Type 0 where
  right : (y : End) (avoids : Bool) (all : List Acceptance) (now : ℕ) (rs : List ℕ) → IsRight y avoids all now rs first
  takes : (y : End) → acceptances_by y first ≡ map (accepted_then n) (accepted_messages_by y first)
  ticks : (y : End) (m : ℕ) → clock_after y m first ≡ clock_if (same_end y x) n m
  clears : (y : End) (rs : List ℕ) → resets_after y rs first ≡ resets_if (same_end y x) cleared rs
  given_up : (y : End) → given_up_by y first ≡ []

record Marks (x : End) (turn : EndAction) (own next : traces.Side) (log longer : List Entry) : Type 0 where
  first : Entry
  more : List Entry
  logged : longer ≡ log ++ first ∷ more
  quiet : flat_map firsts more ≡ []
  right : (y : End) (avoids : Bool) (all : List Acceptance) (now : ℕ) (rs : List ℕ) → IsRight y avoids all now rs first
  given_up : (y : End) → given_up_by y first ≡ []
  accepts : acceptances_by x first ≡ map (accepted_then (delivery.clock own)) (accepted_in turn own)
  accepts_none : acceptances_by (other x) first ≡ []
  ticks : (m : ℕ) → clock_after x m first ≡ delivery.clock next
  ticks_none : (m : ℕ) → clock_after (other x) m first ≡ m
  clears : (rs : List ℕ) → resets_after x rs first ≡ reset_by turn own

marks_by : (x : End) (turn : EndAction) (own next : traces.Side) (log longer : List Entry) (first : Entry) (more : List Entry) (n : ℕ)
    → longer ≡ log ++ first ∷ more → flat_map firsts more ≡ [] → HasClock x n (reset_by turn own) first → accepted_messages_by x first ≡ accepted_in turn own → accepted_messages_by (other x) first ≡ []
    → map (accepted_then n) (accepted_in turn own) ≡ map (accepted_then (delivery.clock own)) (accepted_in turn own) → n ≡ delivery.clock next
    → Marks x turn own next log longer
marks_by x turn own next log longer first more n logged quiet h offers none then is = record {
  first = first;
  more = more;
  logged = logged;
  quiet = quiet;
  right = h.right;
  given_up = h.given_up;
  accepts = h.takes x ∙ (ap (map (accepted_then n)) offers ∙ then);
  accepts_none = h.takes (other x) ∙ ap (map (accepted_then n)) none;
  ticks = λ m. h.ticks x m ∙ (ap (λ (b : Bool). clock_if b n m) (same_itself x) ∙ is);
  ticks_none = λ m. h.ticks (other x) m ∙ ap (λ (b : Bool). clock_if b n m) (not_other x);
  clears = λ rs. h.clears x rs ∙ ap (λ (b : Bool). resets_if b (reset_by turn own) rs) (same_itself x);
}

call_still : (call : Call) → moves (Calls (table_call call)) ≡ false
call_still Connect = refl
call_still call = refl

module _ (f : Mapping Carried (List ℕ)) (x : End) (own beside : traces.Side) (turn : EndAction) (w u : World) (is : (side_of x w).socket ≡ map_end f own.end)
    (is_next : (side_of x u).socket ≡ map_end f (act turn own beside).end) where
  abbrev s : Endpoint (List ℕ)
  s = (side_of x w).socket

  abbrev next : traces.Side
  next = act turn own beside

  clock_is : worlds.clock s ≡ delivery.clock own
  clock_is = ap worlds.clock is

  quiet_news : (after : Endpoint (List ℕ)) → flat_map firsts (news_of x (side_of x w) after) ≡ []
  quiet_news after = none_in_news firsts x (none_first x) (λ m. refl) (length (side_of x w).packets) (length (ready_at s)) (association s) after

  still_marks : (first : Entry) (more : List Entry) → moves turn ≡ false → u.log ≡ w.log ++ first ∷ more → flat_map firsts more ≡ [] → HasClock x (worlds.clock s) (reset_by turn own) first
      → accepted_messages_by x first ≡ accepted_in turn own → accepted_messages_by (other x) first ≡ [] → Marks x turn own next w.log u.log
  still_marks first more still logged quiet h offers none =
      marks_by x turn own next w.log u.log first more (worlds.clock s) logged quiet h offers none (ap (λ (n : ℕ). map (accepted_then n) (accepted_in turn own)) clock_is)
      (clock_is ∙ sym (action_still turn own beside still))

  cleared_by : (cleared : List ℕ) → cleared ≡ reset_by turn own → (y : End) (rs : List ℕ) → resets_if (same_end y x) cleared rs ≡ resets_if (same_end y x) (reset_by turn own) rs
  cleared_by cleared e y rs = ap (λ (r : List ℕ). resets_if (same_end y x) r rs) e

  call_marks : (call : Call) → turn ≡ Calls (table_call call) → u ≡ call_socket x call w → Marks x turn own next w.log u.log
  call_marks call t e =
      let b : BeginsWith x (Calls (table_call call)) own (call_entry x call s) = call_begins f x own s is call in
      still_marks (call_entry x call s) (news_of x (side_of x w) (after_call call s)) (ap moves t ∙ call_still call) (ap (λ (z : World). z.log) e ∙ calls_log x call w)
      (quiet_news (after_call call s))
      (record { right = λ y avoids all now rs. tt; takes = λ y. refl; ticks = λ y m. refl; clears = cleared_by (reset_in call (answer_to call s)) (call_resets f x own s is call ∙ ap (λ (z : EndAction). reset_by z own) (sym t)); given_up = λ y. refl })
      (b.offers ∙ ap (λ (z : EndAction). accepted_in z own) (sym t)) b.no_offers

  time_marks : (now : ℕ) → turn ≡ Calls (table.Advance now) → u ≡ advance_time x now w → Marks x turn own next w.log u.log
  time_marks now t e =
      let after : Endpoint (List ℕ) = after_time now s in
      let none : accepted_in turn own ≡ [] = ap (λ (z : EndAction). accepted_in z own) t in
      let at : side_of x u ≡ take_emitted (side_of x w) after = ap (side_of x) e ∙ time_side x now w in
      marks_by x turn own next w.log u.log (time_entry x now s) (news_of x (side_of x w) after) (worlds.clock after) (ap (λ (z : World). z.log) e ∙ time_log x now w)
      (quiet_news after)
      (record { right = λ y avoids all m rs. tt; takes = λ y. refl; ticks = λ y m. refl; clears = cleared_by [] (sym (ap (λ (z : EndAction). reset_by z own) t)); given_up = λ y. refl })
      (sym none) refl
      (ap (map (accepted_then (worlds.clock after))) none ∙ sym (ap (map (accepted_then (delivery.clock own))) none))
      (ap (λ (z : Side). worlds.clock z.socket) (sym at) ∙ ap worlds.clock is_next)

  give_marks : (packet : ℕ) → moves turn ≡ false → accepted_in turn own ≡ [] → reset_by turn own ≡ [] → Gives x packet w u → Marks x turn own next w.log u.log
  give_marks packet still none clear g =
      still_marks (Given x (worlds.clock s) packet) (news_of x (side_of x w) g.takes_bytes.after) still g.takes_bytes.logged (quiet_news g.takes_bytes.after)
      (record { right = λ y avoids all now rs. tt; takes = λ y. refl; ticks = λ y m. refl; clears = cleared_by [] (sym clear); given_up = λ y. refl }) (sym none) refl

  foreign_marks : (bytes : List ℕ) → moves turn ≡ false → accepted_in turn own ≡ [] → reset_by turn own ≡ [] → MeetsForeignAt x bytes (side_of x w) (side_of x u) w.log u.log → Marks x turn own next w.log u.log
  foreign_marks bytes still none clear (given t judged) =
      still_marks (Foreign x (worlds.clock s) (Some bytes)) (news_of x (side_of x w) t.after) still t.logged (quiet_news t.after)
      (record { right = λ y avoids all now rs. tt; takes = λ y. refl; ticks = λ y m. refl; clears = cleared_by [] (sym clear); given_up = λ y. refl }) (sym none) refl
  foreign_marks bytes still none clear (withheld judged stays logged) =
      still_marks (Foreign x (worlds.clock s) None) [] still logged refl
      (record { right = λ y avoids all now rs. tt; takes = λ y. refl; ticks = λ y m. refl; clears = cleared_by [] (sym clear); given_up = λ y. refl }) (sym none) refl

-- ---- what the actions are

call_restores : (call : Call) → restores (Calls (table_call call)) ≡ false
call_restores Connect = refl
call_restores call = refl

receiving_moves : (b : Bool) (n sum : ℕ) → moves (give_action b n sum) ≡ false
receiving_moves true n sum = refl
receiving_moves false n sum = refl

receiving_restores : (b : Bool) (n sum : ℕ) → restores (give_action b n sum) ≡ false
receiving_restores true n sum = refl
receiving_restores false n sum = refl

foreign_moves : (bytes : List ℕ) (turn : EndAction) → IsForeign bytes turn → moves turn ≡ false
foreign_moves bytes turn (inl h) = ap moves h.2
foreign_moves bytes turn (inr h) = ap moves h

module _ (word_of_a word_of_b : List ℕ → ℕ) where
  action_restores : (action : Action) (turn : EndAction) (c : Pair) → IsActionOf word_of_a word_of_b action turn c → restores turn ≡ false
  action_restores (CallOf x call) turn c is = ap restores is ∙ call_restores call
  action_restores (Give n A) turn c is = ap restores is.received ∙ receiving_restores _ n _
  action_restores (Give n B) turn c is = ap restores is.received ∙ receiving_restores _ n _
  action_restores (GiveForeign x bytes) turn c (inl is) = ap restores is.2
  action_restores (GiveForeign x bytes) turn c (inr is) = ap restores is
  action_restores (AdvanceTime x now) turn c is = ap restores is

  marks_of : (action : Action) (w u : World) (c : Pair) (turn : EndAction) → Happens action w u → IsActionOf word_of_a word_of_b action turn c → Both word_of_a word_of_b w c
      → Both word_of_a word_of_b u (goes (is_a (end_of action)) turn c)
      → Marks (end_of action) turn (traces.side_of (is_a (end_of action)) c) (traces.side_of (is_a (end_of action)) (goes (is_a (end_of action)) turn c)) w.log u.log
  marks_of (CallOf A call) w u c turn e is h k = call_marks (as_bytes word_of_a) A c.a c.b turn w u h.a.image.socket k.a.image.socket call is e
  marks_of (CallOf B call) w u c turn e is h k = call_marks (as_bytes word_of_b) B c.b c.a turn w u h.b.image.socket k.b.image.socket call is e
  marks_of (Give n A) w u c turn g is h k =
      give_marks (as_bytes word_of_a) A c.a c.b turn w u h.a.image.socket k.a.image.socket n (ap moves is.received ∙ receiving_moves _ n _)
      (given_accepts word_of_a word_of_b n c.a c.b c.a turn is) (given_resets word_of_a word_of_b n c.a c.b c.a turn is) g
  marks_of (Give n B) w u c turn g is h k =
      give_marks (as_bytes word_of_b) B c.b c.a turn w u h.b.image.socket k.b.image.socket n (ap moves is.received ∙ receiving_moves _ n _)
      (given_accepts word_of_b word_of_a n c.b c.a c.b turn is) (given_resets word_of_b word_of_a n c.b c.a c.b turn is) g
  marks_of (GiveForeign A bytes) w u c turn g is h k =
      foreign_marks (as_bytes word_of_a) A c.a c.b turn w u h.a.image.socket k.a.image.socket bytes (foreign_moves bytes turn is) (foreign_accepts bytes c.a turn is) (foreign_resets bytes c.a turn is) g.comes
  marks_of (GiveForeign B bytes) w u c turn g is h k =
      foreign_marks (as_bytes word_of_b) B c.b c.a turn w u h.b.image.socket k.b.image.socket bytes (foreign_moves bytes turn is) (foreign_accepts bytes c.b turn is) (foreign_resets bytes c.b turn is) g.comes
  marks_of (AdvanceTime A now) w u c turn e is h k = time_marks (as_bytes word_of_a) A c.a c.b turn w u h.a.image.socket k.a.image.socket now is e
  marks_of (AdvanceTime B now) w u c turn e is h k = time_marks (as_bytes word_of_b) B c.b c.a turn w u h.b.image.socket k.b.image.socket now is e

-- ---- either end, at such an event

accepts_at : (x y : End) (turn : EndAction) (c : Pair) (log longer : List Entry) (m : Marks y turn (traces.side_of (is_a y) c) (traces.side_of (is_a y) (goes (is_a y) turn c)) log longer)
    → acceptances_by x m.first ≡ accepted_now (is_a x) (is_a y) turn c
accepts_at A A turn c log longer m = m.accepts
accepts_at B A turn c log longer m = m.accepts_none
accepts_at A B turn c log longer m = m.accepts_none
accepts_at B B turn c log longer m = m.accepts

ticks_at : (x y : End) (turn : EndAction) (c : Pair) (log longer : List Entry) (m : Marks y turn (traces.side_of (is_a y) c) (traces.side_of (is_a y) (goes (is_a y) turn c)) log longer)
    → clock_after x (delivery.clock (traces.side_of (is_a x) c)) m.first ≡ delivery.clock (traces.side_of (is_a x) (goes (is_a y) turn c))
ticks_at A A turn c log longer m = m.ticks (delivery.clock c.a)
ticks_at B A turn c log longer m = m.ticks_none (delivery.clock c.b)
ticks_at A B turn c log longer m = m.ticks_none (delivery.clock c.a)
ticks_at B B turn c log longer m = m.ticks (delivery.clock c.b)

-- what is emitted at the action of either end is justified, with the streams that the log says
emits_at : (x y : End) (turn : EndAction) (c : Pair) (log longer : List Entry) (m : Marks y turn (traces.side_of (is_a y) c) (traces.side_of (is_a y) (goes (is_a y) turn c)) log longer)
    (avoids : Bool) (all : List Acceptance) (now : ℕ) (rs : List ℕ) → AllByRecursion (IsJustifiedAt all avoids (reset_at (is_a x) (is_a y) turn c) now) (records_at (is_a x) (is_a y) turn c)
    → AllByRecursion (IsJustifiedAt all avoids (resets_after x rs m.first) now) (records_at (is_a x) (is_a y) turn c)
emits_at A A turn c log longer m avoids all now rs h = subst (λ (r : List ℕ). AllByRecursion (IsJustifiedAt all avoids r now) (records_at true true turn c)) (sym (m.clears rs)) h
emits_at B A turn c log longer m avoids all now rs h = tt
emits_at A B turn c log longer m avoids all now rs h = tt
emits_at B B turn c log longer m avoids all now rs h = subst (λ (r : List ℕ). AllByRecursion (IsJustifiedAt all avoids r now) (records_at false false turn c)) (sym (m.clears rs)) h

-- ---- along a run

-- what is known of an end and of its log
record Known (x : End) (avoids : Bool) (log : List Entry) (end : traces.Side) : Type 0 where
  each : Each x avoids [] 0 [] log
  option : delivery.avoids_stalls end ≡ avoids
  time : clock x log ≡ delivery.clock end
  rests : Rests (acceptances x log) end

clock_both : (x : End) (now : ℕ) (log more : List Entry) → clock_from x now (log ++ more) ≡ clock_from x (clock_from x now log) more
clock_both x now [] more = refl
clock_both x now (e ∷ log) more = clock_both x (clock_after x now e) log more

module _ (x y : End) (avoids : Bool) (turn : EndAction) (c : Pair) (log longer : List Entry)
    (m : Marks y turn (traces.side_of (is_a y) c) (traces.side_of (is_a y) (goes (is_a y) turn c)) log longer)
    (records : given_up x (m.first ∷ m.more) ≡ records_at (is_a x) (is_a y) turn c) (none : restores turn ≡ false)
    (few : length (acceptances x longer) < 2 ^ 32) (k : Known x avoids log (traces.side_of (is_a x) c)) where
  abbrev old : List Acceptance
  old = acceptances x log

  abbrev new : List Acceptance
  new = accepted_now (is_a x) (is_a y) turn c

  abbrev then : traces.Side
  then = traces.side_of (is_a x) (goes (is_a y) turn c)

  grown : acceptances x longer ≡ old ++ new
  grown =
      ap (acceptances x) m.logged
      ∙ (flat_map-append (acceptances_by x) log (m.first ∷ m.more)
      ∙ ap (λ (l : List Acceptance). old ++ l)
      (ap (λ (l : List Acceptance). acceptances_by x m.first ++ l) (accept_none x m.more m.quiet)
      ∙ (append-nil (acceptances_by x m.first) ∙ accepts_at x y turn c log longer m)))

  actions : Actions (old ++ new) (reset_at (is_a x) (is_a y) turn c) then (records_at (is_a x) (is_a y) turn c)
  actions = goes_on old (is_a x) (is_a y) turn c none (subst (λ (l : List Acceptance). length l < 2 ^ 32) grown few) k.rests

  ticked : clock_after x (clock x log) m.first ≡ delivery.clock then
  ticked = ap (λ (n : ℕ). clock_after x n m.first) k.time ∙ ticks_at x y turn c log longer m

  given_up_more : given_up x m.more ≡ records_at (is_a x) (is_a y) turn c
  given_up_more = sym (ap (λ (l : List GivenUp). l ++ given_up x m.more) (m.given_up x)) ∙ records

  option_then : delivery.avoids_stalls then ≡ avoids
  option_then = option_stands x y turn c ∙ k.option

  justified_so : AllByRecursion (IsJustifiedAt (old ++ new) avoids (reset_at (is_a x) (is_a y) turn c) (delivery.clock then)) (records_at (is_a x) (is_a y) turn c)
  justified_so =
      subst (λ (b : Bool). AllByRecursion (IsJustifiedAt (old ++ new) b (reset_at (is_a x) (is_a y) turn c) (delivery.clock then)) (records_at (is_a x) (is_a y) turn c))
      option_then actions.justified

  abbrev reset_now : List ℕ
  reset_now = resets_after x (resets x log) m.first

  behind : Each x avoids (old ++ acceptances_by x m.first) (clock_after x (clock x log) m.first) reset_now m.more
  behind =
      subst (λ (l : List Acceptance). Each x avoids (old ++ l) (clock_after x (clock x log) m.first) reset_now m.more) (sym (accepts_at x y turn c log longer m))
      (subst (λ (n : ℕ). Each x avoids (old ++ new) n reset_now m.more) (sym ticked)
      (each_quiet x avoids (old ++ new) reset_now (delivery.clock then) m.more m.quiet
      (subst (AllByRecursion (IsJustifiedAt (old ++ new) avoids reset_now (delivery.clock then))) (sym given_up_more)
      (emits_at x y turn c log longer m avoids (old ++ new) (delivery.clock then) (resets x log) justified_so))))

  known_on : Known x avoids longer then
  known_on = record {
    each = subst (Each x avoids [] 0 []) (sym m.logged) (each_both x avoids [] 0 [] log (m.first ∷ m.more) k.each (m.right x avoids old (clock x log) (resets x log), behind));
    option = option_then;
    time =
        ap (clock x) m.logged
        ∙ (clock_both x 0 log (m.first ∷ m.more) ∙ (stand_still x (clock_after x (clock x log) m.first) m.more m.quiet ∙ ticked));
    rests = subst (λ (l : List Acceptance). Rests l then) (sym grown) actions.rests;
  }

module _ (word_of_a word_of_b : List ℕ → ℕ) (x : End) (avoids : Bool) where
  along : (actions : List Action) (w v : World) (c : Pair) → All ActionFits actions → Runs actions w v → IsInBytes v → Both word_of_a word_of_b w c
      → length (acceptances x v.log) < 2 ^ 32 → Known x avoids w.log (traces.side_of (is_a x) c) → Each x avoids [] 0 [] v.log
  along [] w v c fit e small h few k = subst (λ (z : World). Each x avoids [] 0 [] z.log) (sym e) k.each
  along (action ∷ actions) w v c fit r small h few k =
      let u : World = r.0 in
      let later : Extends u v = runs_extends actions u v r.2 in
      let first : Extends w u = happens_extends action w u r.1 in
      let step : Stepped word_of_a word_of_b action w u c =
      steps word_of_a word_of_b action w u c (All-head ActionFits action actions fit) (in_bytes_before w v (extends_then w u v first later) small) r.1 h in
      let m = marks_of word_of_a word_of_b action w u c step.turn r.1 step.is h step.both in
      let more_is : step.extends.more ≡ m.first ∷ m.more = same_front w.log step.extends.more (m.first ∷ m.more) (sym step.extends.logged ∙ m.logged) in
      let both : acceptances x v.log ≡ acceptances x u.log ++ acceptances x later.more =
      ap (acceptances x) later.logged ∙ flat_map-append (acceptances_by x) u.log later.more in
      let few_yet : length (acceptances x u.log) < 2 ^ 32 =
      shorter (acceptances x u.log) (acceptances x later.more) (subst (λ (l : List Acceptance). length l < 2 ^ 32) both few) in
      along actions u v (goes (is_a (end_of action)) step.turn c) (All-tail ActionFits action actions fit) r.2 small step.both few
      (known_on x (end_of action) avoids step.turn c w.log u.log m (ap (given_up x) (sym more_is) ∙ step.records x)
      (action_restores word_of_a word_of_b action step.turn c step.is) few_yet k)

-- ---- the laws

one_entry : (x : End) (e : Entry) → map (λ (a : Acceptance). a.offer) (acceptances_by x e) ≡ accepted_messages_by x e
one_entry x (Called y clock call answer) = offers_back clock (accepted_messages_by x (Called y clock call answer))
one_entry x e = refl

pub acceptances_offers : AcceptancesAreOfAcceptedMessages
acceptances_offers x [] = refl
acceptances_offers x (e ∷ log) =
    map-append (λ (a : Acceptance). a.offer) (acceptances_by x e) (acceptances x log)
    ∙ (ap (λ (l : List AcceptedMessage). l ++ map (λ (a : Acceptance). a.offer) (acceptances x log)) (one_entry x e)
    ∙ ap (λ (l : List AcceptedMessage). accepted_messages_by x e ++ l) (acceptances_offers x log))

as_many : (x : End) (log : List Entry) → length (accepted_messages x log) ≡ length (acceptances x log)
as_many x log = sym (ap length (acceptances_offers x log)) ∙ length-map (acceptances x log) (λ (a : Acceptance). a.offer)

known_first : (x : End) (a b : Options) (draws_a draws_b : Stream) → Known x (options_of x a b).avoid_stalls [] (traces.side_of (is_a x) (start a b draws_a draws_b))
known_first A a b draws_a draws_b = record { each = tt; option = refl; time = refl; rests = at_first true a b draws_a draws_b }
known_first B a b draws_a draws_b = record { each = tt; option = refl; time = refl; rests = at_first false a b draws_a draws_b }

pub worlds_justified : WorldsAreJustified
worlds_justified a b draws_a draws_b word_of_a word_of_b actions w fits_a fits_b fit runs small x few before behind g is =
    at_each x (options_of x a b).avoid_stalls [] 0 [] w.log before behind g
    (along word_of_a word_of_b x (options_of x a b).avoid_stalls actions (fresh_world a b draws_a draws_b word_of_a word_of_b) w (start a b draws_a draws_b) fit runs small
    (fresh_both a b draws_a draws_b word_of_a word_of_b fits_a fits_b) (subst (λ (n : ℕ). n < 2 ^ 32) (as_many x w.log) few) (known_first x a b draws_a draws_b))
    is
