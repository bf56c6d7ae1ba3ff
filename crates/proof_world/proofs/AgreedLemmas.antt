-- Worlds agree, since their traces do.
use Rattle.std.proofs.Common.{◌≡◌, inl, inr, ℕ, ◌+◌, ◌≤◌, Bool, true, false, Option, Some, None, List, [], ◌∷◌, ◌++◌, length, map, drop, slice_get, refl, sym, ap, subst, ◌∙◌, append-nil, append_assoc, arith}
use Rattle.std.specs.Prelude.{All}
use Rattle.std.specs.List.{flat_map}
use Rattle.std.proofs.lemmas.Grind.{flat_map-append}
use Rattle.std.proofs.lemmas.Bool.{both_ways}
use Rattle.std.proofs.lemmas.List.{map-append}
use Rattle.std.proofs.lemmas.List.Elements.{All-nil, All-cons, All-head, All-tail, All-append}
use Rattle.rand_core.specs.Stream.{Stream}
use Rattle.sctp_serial.specs.Messages.{Message}
use Rattle.sctp_state.specs.Events.{Event, GivenUp, SendPacket, OnConnected}
use Rattle.spec_endpoint.specs.Association.{State, Closed, CookieWait, Open, Endpoint}
use Rattle.spec_endpoint.specs.Input.{packet_refusal}
use Rattle.spec_endpoint.specs.Shown.{Association, association_in}
use Rattle.proof_endpoint.specs.Mapped.{Mapping, Carried, as_bytes}
use Rattle.proof_pair.specs.Trace as traces
use Rattle.proof_pair.specs.Trace.{Pair, EndAction, Calls, Gives, Refuses, has_connected, emitted_packets, give_carried, foreign_if, act, goes, start, state_of}
use Rattle.proof_pair.specs.Agreement as agreement
use Rattle.proof_pair.specs.Agreement.{Draw, drawn_in, histories_along, AreDistinctPerEnd, Has, History, held_in, history_after, Histories, no_histories, histories_after, IsPlainCall, IsAllowed, AreAllowed, emitted_since, AgreesAlong}
use Rattle.proof_pair.proofs.AgreeTraceLemmas.{drop_emitted}
use Rattle.proof_pair.proofs.AgreeWithinLemmas.{has_either}
use Rattle.proof_pair.proofs.AgreeActionsLemmas.{ends_agree}
use Rattle.spec_world.specs.Observations.{End, A, B, same_end, none_unless, same_association, Entry, Associated, EmittedPacket, EmittedEvent, GaveUp, BecameReady, Call, Connect, Shutdown, Close, Send, SendMany, TakeMessage, Reset, SetPriority, SetMaxMessageSize, SetLowThreshold, HandOver, connected_by, times_connected, held_after, held_from, held}
use Rattle.spec_world.specs.World.{Side, World, Action, CallOf, Give, GiveForeign, AdvanceTime, MeetsForeignAt, given, withheld, Happens, Runs, side_of, other, news_of, emitted_entries, given_up_entries, ready_entries, ready_before, association, associated_unless, association_entries, call_entry, after_call, time_entry, after_time, table_call}
use Rattle.spec_endpoint.specs.Packets.{packets_in}
use Rattle.spec_endpoint.specs.Calls.{ready_at}
use Rattle.proof_world.specs.Reachable.{ActionFits, IsInBytes, initial_world}
use Rattle.proof_world.specs.Traces.{is_a, end_of, give_action, IsForeign, IsActionOf, AreActionsOf, emitted_in}
use Rattle.proof_world.specs.Agreed.{IsAgreed, WorldAgrees, EachEndDrawsDistinctTags, WorldsAgree}
use Rattle.proof_world.proofs.EventLemmas.{mapped, entries_both, same_itself, connected_emitted}
use Rattle.proof_world.proofs.NewsLemmas.{emitted_both, held_both, connected_by_emitted}
use Rattle.proof_world.proofs.PrefixLemmas.{one_is_longer}
use Rattle.proof_world.proofs.BlockLemmas.{same_front}
use Rattle.proof_world.proofs.SidesLemmas.{IsFirst, silent_first, silent_news, Good}
use Rattle.proof_world.proofs.WorldLemmas.{Both, Extends, extends_then, in_bytes_before, Stepped, steps}
use Rattle.proof_world.proofs.RunsLemmas.{happens_extends, runs_extends, fresh_both}
use Rattle.proof_world.proofs.ConsistentLemmas.{given_of}
use Rattle.proof_world.specs.Draws.{draws}
use Rattle.proof_world.proofs.BundledLemmas.{SideIsBundled, act_bundled, new_bundled}
use Rattle.proof_world.proofs.DrewLemmas.{DrawsSo, act_so}
use Rattle.proof_world.proofs.DrewRunLemmas.{AreDrawnOnce, none_before, beside_on, own_on}

-- ---- entries

abbrev is_happened : Entry → Bool
is_happened (EmittedEvent y e) = true
is_happened entry = false

abbrev is_associated : Entry → Bool
is_associated (Associated y a) = true
is_associated entry = false

-- no end takes up an association
abbrev Plain : Entry → Type 0
Plain e = is_associated e ≡ false

-- nothing is emitted
abbrev Mute : Entry → Type 0
Mute e = is_happened e ≡ false

all_back : {X : Type 0} (P : X → Type 0) (xs ys : List X) → All P (xs ++ ys) → All P ys
all_back P [] ys h = h
all_back P (x ∷ xs) ys h = all_back P xs ys (All-tail P x (xs ++ ys) h)

plain_emitted : (y : End) (n : ℕ) (es : List (Event (List ℕ))) → All Plain (emitted_entries y n es)
plain_emitted y n [] = All-nil Plain
plain_emitted y n (SendPacket p ∷ es) = All-cons Plain (EmittedPacket y n) (emitted_entries y (n + 1) es) refl (plain_emitted y (n + 1) es)
plain_emitted y n (e ∷ es) = All-cons Plain (EmittedEvent y e) (emitted_entries y n es) refl (plain_emitted y n es)

plain_given_up : (y : End) (gs : List GivenUp) → All Plain (given_up_entries y gs)
plain_given_up y [] = All-nil Plain
plain_given_up y (g ∷ gs) = All-cons Plain (GaveUp y g) (given_up_entries y gs) refl (plain_given_up y gs)

plain_ready : (y : End) (ms : List Message) → All Plain (map (BecameReady y) ms)
plain_ready y [] = All-nil Plain
plain_ready y (m ∷ ms) = All-cons Plain (BecameReady y m) (map (BecameReady y) ms) refl (plain_ready y ms)

plain_after : (x : End) (h : Option Association) (e : Entry) → Plain e → held_after x h e ≡ h
plain_after x h (Associated y a) p = cc
plain_after x h e p = refl

plain_from : (x : End) (h : Option Association) (l : List Entry) → All Plain l → held_from x h l ≡ h
plain_from x h [] p = refl
plain_from x h (e ∷ l) p =
    ap (λ (o : Option Association). held_from x o l) (plain_after x h e (All-head Plain e l p)) ∙ plain_from x h l (All-tail Plain e l p)

mute_associated : (b : Bool) (y : End) (a : Option Association) → All Mute (associated_unless b y a)
mute_associated true y a = All-nil Mute
mute_associated false y a = All-cons Mute (Associated y a) [] refl (All-nil Mute)

-- ---- what an event adds: an entry that says nothing, and news of its end, or none

data Adds (x : End) (old : Side) (log longer : List Entry) : Type 0 where
  news : (first : Entry) (after : Endpoint (List ℕ)) → IsFirst first → Mute first → longer ≡ log ++ first ∷ news_of x old after → Adds x old log longer
  none : (first : Entry) → IsFirst first → Mute first → longer ≡ log ++ first ∷ [] → Adds x old log longer

comes_adds : (x : End) (bytes : List ℕ) (old new : Side) (log longer : List Entry) → MeetsForeignAt x bytes old new log longer → Adds x old log longer
comes_adds x bytes old new log longer (given t judged) = news _ t.after (record { emitted = λ y. refl; quiet = λ y o. refl; given_up = λ y. refl }) refl t.logged
comes_adds x bytes old new log longer (withheld judged stays logged) = none _ (record { emitted = λ y. refl; quiet = λ y o. refl; given_up = λ y. refl }) refl logged

event_adds : (action : Action) (w u : World) → Happens action w u → Adds (end_of action) (side_of (end_of action) w) w.log u.log
event_adds (CallOf A call) w u e =
    news (call_entry A call w.a.socket) (after_call call w.a.socket) (record { emitted = λ y. refl; quiet = λ y o. refl; given_up = λ y. refl }) refl (ap (λ (z : World). z.log) e)
event_adds (CallOf B call) w u e =
    news (call_entry B call w.b.socket) (after_call call w.b.socket) (record { emitted = λ y. refl; quiet = λ y o. refl; given_up = λ y. refl }) refl (ap (λ (z : World). z.log) e)
event_adds (Give n x) w u g = news _ g.takes_bytes.after (record { emitted = λ y. refl; quiet = λ y o. refl; given_up = λ y. refl }) refl g.takes_bytes.logged
event_adds (GiveForeign x bytes) w u g = comes_adds x bytes (side_of x w) (side_of x u) w.log u.log g.comes
event_adds (AdvanceTime A now) w u e =
    news (time_entry A now w.a.socket) (after_time now w.a.socket) (record { emitted = λ y. refl; quiet = λ y o. refl; given_up = λ y. refl }) refl (ap (λ (z : World). z.log) e)
event_adds (AdvanceTime B now) w u e =
    news (time_entry B now w.b.socket) (after_time now w.b.socket) (record { emitted = λ y. refl; quiet = λ y o. refl; given_up = λ y. refl }) refl (ap (λ (z : World). z.log) e)

-- ---- an OnConnected of it

abbrev connection : End → Entry
connection y = EmittedEvent y OnConnected

-- it is old, or among what was added
data Stands (y : End) (log more before behind : List Entry) : Type 0 where
  old : (rest : List Entry) → log ≡ before ++ connection y ∷ rest → Stands y log more before behind
  added : (front : List Entry) → before ≡ log ++ front → more ≡ front ++ connection y ∷ behind → Stands y log more before behind

stands_in : (y : End) (log more before behind : List Entry) → log ++ more ≡ before ++ connection y ∷ behind → Stands y log more before behind
stands_in y log more before behind e = elim (one_is_longer log more before (connection y ∷ behind) e) [
  | inl l ↦ added l.between l.made l.behind
  | inr l ↦ split l.between l.made l.behind
]
  where
    split : (between : List Entry) → log ≡ before ++ between → connection y ∷ behind ≡ between ++ more → Stands y log more before behind
    split [] made is = added [] (sym (append-nil before) ∙ (sym made ∙ sym (append-nil log))) (sym is)
    split (b ∷ bs) made is =
        let same : b ≡ connection y = ap (λ (l : List Entry). elim l [ [] ↦ b | z ∷ zs ↦ z ]) (sym is) in
        old bs (made ∙ ap (λ (z : Entry). before ++ z ∷ bs) same)

-- it is emitted once at least
some_connected : (y : End) (front behind : List Entry) → 1 ≤ times_connected y (front ++ connection y ∷ behind)
some_connected y front behind =
    longer (flat_map (connected_by y) front) (flat_map (connected_by y) behind) (same_end y y) (same_itself y) (flat_map (connected_by y) (front ++ connection y ∷ behind))
    (flat_map-append (connected_by y) front (connection y ∷ behind))
  where
    behind_some : (xs zs : List End) → 1 ≤ length (xs ++ y ∷ zs)
    behind_some [] zs = omega arith
    behind_some (x ∷ xs) zs = omega arith

    longer : (xs zs : List End) (b : Bool) → b ≡ true → (all : List End) → all ≡ xs ++ (none_unless b y ++ zs) → 1 ≤ length all
    longer xs zs true is all e = subst (λ (l : List End). 1 ≤ length l) (sym e) (behind_some xs zs)
    longer xs zs false is all e = cc

-- by the end that acted
not_silent : {X : Type 0} (y : End) (more front behind : List Entry) → emitted_in y more ≡ [] → more ≡ front ++ connection y ∷ behind → X
not_silent y more front behind silent is =
    let h : 1 ≤ times_connected y more = subst (λ (l : List Entry). 1 ≤ times_connected y l) (sym is) (some_connected y front behind) in
    let none : times_connected y more ≡ 0 = ap (λ (l : List End). length l) (connected_by_emitted y more ∙ ap (flat_map (connected_by y)) silent) in
    absurd (omega (arith, h, none))

-- behind it no association is taken up
plain_behind : (y : End) (head rest front behind : List Entry) → All Mute head → All Plain rest → head ++ rest ≡ front ++ connection y ∷ behind
    → All Plain (connection y ∷ behind)
plain_behind y head rest front behind mute plain e = elim (one_is_longer head rest front (connection y ∷ behind) e) [
  | inl l ↦ all_back Plain l.between (connection y ∷ behind) (subst (All Plain) l.behind plain)
  | inr l ↦ split l.between l.made l.behind
]
  where
    split : (between : List Entry) → head ≡ front ++ between → connection y ∷ behind ≡ between ++ rest → All Plain (connection y ∷ behind)
    split [] made is = subst (All Plain) (sym is) plain
    split (b ∷ bs) made is =
        let same : b ≡ connection y = ap (λ (l : List Entry). elim l [ [] ↦ b | z ∷ zs ↦ z ]) (sym is) in
        let there : All Mute (b ∷ bs) = all_back Mute front (b ∷ bs) (subst (All Mute) made mute) in
        let not_connected : is_happened (connection y) ≡ false = subst Mute same (All-head Mute b bs there) in
        absurd (both_ways true not_connected refl)

-- ---- one end, and its action

emitted_grows : (t : EndAction) (x y : traces.Side) → (act t x y).emitted ≡ x.emitted ++ emitted_since x (act t x y)
emitted_grows (Calls call) x y = ap (λ (es : List (Event Carried)). x.emitted ++ es) (sym (drop_emitted x.emitted _))
emitted_grows (Gives which checksum) x y = by (slice_get (emitted_packets y) which)
  where
    by : (p : Option Carried) → (give_carried p checksum x).emitted ≡ x.emitted ++ emitted_since x (give_carried p checksum x)
    by None = sym (ap (λ (es : List (Event Carried)). x.emitted ++ es) (ap (drop (length x.emitted)) (sym (append-nil x.emitted)) ∙ drop_emitted x.emitted []) ∙ append-nil x.emitted)
    by (Some p) = ap (λ (es : List (Event Carried)). x.emitted ++ es) (sym (drop_emitted x.emitted _))
emitted_grows (Refuses p) x y = by (packet_refusal p.header.verification_tag p.chunks (state_of x))
  where
    by : (r : Option (List ℕ)) → (foreign_if r p x).emitted ≡ x.emitted ++ emitted_since x (foreign_if r p x)
    by None = sym (ap (λ (es : List (Event Carried)). x.emitted ++ es) (ap (drop (length x.emitted)) (sym (append-nil x.emitted)) ∙ drop_emitted x.emitted []) ∙ append-nil x.emitted)
    by (Some text) = ap (λ (es : List (Event Carried)). x.emitted ++ es) (sym (drop_emitted x.emitted _))

module _ (word_of : List ℕ → ℕ) (x : End) (log longer more : List Entry) (others others_now : List (List ℕ)) (side new : Side) (end beside : traces.Side) (t : EndAction)
    (logged : longer ≡ log ++ more) (g : Good word_of x log others side end) (h : Good word_of x longer others_now new (act t end beside)) where
  abbrev f : Mapping Carried (List ℕ)
  f = as_bytes word_of

  abbrev since : List (Event Carried)
  since = emitted_since end (act t end beside)

  -- so many packets were emitted before
  abbrev sent : ℕ
  sent = 0 + length (packets_in (mapped f end.emitted))

  emitted_more : emitted_in x more ≡ emitted_entries x sent (mapped f since)
  emitted_more =
      same_front (emitted_in x log) (emitted_in x more) (emitted_entries x sent (mapped f since))
      (sym (emitted_both x log more)
      ∙ (ap (emitted_in x) (sym logged)
      ∙ (h.image.emitted
      ∙ (ap (λ (es : List (Event Carried)). emitted_entries x 0 (mapped f es)) (emitted_grows t end beside)
      ∙ (ap (emitted_entries x 0) (map-append _ end.emitted since)
      ∙ (entries_both x 0 (mapped f end.emitted) (mapped f since) ∙ ap (λ (l : List Entry). l ++ emitted_entries x sent (mapped f since)) (sym g.image.emitted)))))))

  is_emitted : (front behind : List Entry) → more ≡ front ++ connection x ∷ behind → has_connected since ≡ true
  is_emitted front behind is =
      let some : 1 ≤ times_connected x more = subst (λ (l : List Entry). 1 ≤ times_connected x l) (sym is) (some_connected x front behind) in
      connected_emitted f x sent since
      (subst (λ (l : List Entry). 1 ≤ length (flat_map (connected_by x) l)) emitted_more (subst (λ (l : List End). 1 ≤ length l) (connected_by_emitted x more) some))

  state_now : new.socket.endpoint_state.state ≡ state_of (act t end beside)
  state_now = ap (λ (z : Endpoint (List ℕ)). z.endpoint_state.state) h.image.socket

  -- what it holds then it holds after the action
  holds_then : (front behind : List Entry) → more ≡ front ++ connection x ∷ behind → All Plain (connection x ∷ behind)
      → held x (log ++ front) ≡ association_in (state_of (act t end beside))
  holds_then front behind is plain =
      let at : List Entry = log ++ front in
      let whole : longer ≡ at ++ connection x ∷ behind =
      logged ∙ (ap (λ (l : List Entry). log ++ l) is ∙ sym (append_assoc log front (connection x ∷ behind))) in
      sym (plain_from x (held x at) (connection x ∷ behind) plain)
      ∙ (sym (held_both x None at (connection x ∷ behind))
      ∙ (ap (held x) (sym whole) ∙ (h.held ∙ ap association_in state_now)))

-- ---- associations

abbrev shown : agreement.Association → Association
shown a = record { my_tag = a.mine.tag; my_initial_tsn = a.mine.first; peer_tag = a.peer.tag; peer_initial_tsn = a.peer.first }

shown_in : (s : State) (a : agreement.Association) → Has a (held_in s) → association_in s ≡ Some (shown a)
shown_in Closed a h = absurd h
shown_in (CookieWait tag first t1) a h = absurd h
shown_in (Open phase t) a h = elim h [ inl e ↦ ap (λ (z : agreement.Association). Some (shown z)) (sym e) | inr e ↦ absurd e ]

-- at a beginning of the log the end held it
record WasHeld (y : End) (log : List Entry) (a : agreement.Association) : Type 0 where
  early : List Entry
  late : List Entry
  split : log ≡ early ++ late
  held_then : held y early ≡ Some (shown a)

abbrev WereHeld : End → List Entry → History → Type 0
WereHeld y log n = (a : agreement.Association) → Has a n.held → WasHeld y log a

was_longer : (y : End) (log longer more : List Entry) (a : agreement.Association) → longer ≡ log ++ more → WasHeld y log a → WasHeld y longer a
was_longer y log longer more a e h = record {
  early = h.early;
  late = h.late ++ more;
  split = e ∙ (ap (λ (l : List Entry). l ++ more) h.split ∙ append_assoc h.early h.late more);
  held_then = h.held_then;
}

were_longer : (y : End) (log longer more : List Entry) (n : History) → longer ≡ log ++ more → WereHeld y log n → WereHeld y longer n
were_longer y log longer more n e h = λ a k. was_longer y log longer more a e (h a k)

-- the end that went on
were_turned : (word_of : List ℕ → ℕ) (y : End) (log longer more : List Entry) (others : List (List ℕ)) (new : Side) (end beside : traces.Side) (t : EndAction) (n : History) → longer ≡ log ++ more
    → Good word_of y longer others new (act t end beside) → WereHeld y log n → WereHeld y longer (history_after t end beside n)
were_turned word_of y log longer more others new end beside t n e g h =
    let s : State = state_of (act t end beside) in
    λ a k. elim (has_either a (held_in s) n.held k) [
      | inl now ↦ record {
        early = longer;
        late = [];
        split = sym (append-nil longer);
        held_then = g.held ∙ (ap association_in (ap (λ (z : Endpoint (List ℕ)). z.endpoint_state.state) g.image.socket) ∙ shown_in s a now);
      }
      | inr was ↦ was_longer y log longer more a e (h a was)
    ]

-- ---- one event

-- by the law of its action
module _ (word_of : List ℕ → ℕ) (x : End) (log longer more : List Entry) (others others_now : List (List ℕ)) (side new : Side) (end beside : traces.Side) (t : EndAction)
    (logged : longer ≡ log ++ more) (g : Good word_of x log others side end) (h : Good word_of x longer others_now new (act t end beside))
    (theirs : History) (were : WereHeld (other x) log theirs) (law : agreement.Agrees end (act t end beside) theirs) where
  agreed_at : (front behind : List Entry) → more ≡ front ++ connection x ∷ behind → All Plain (connection x ∷ behind) → IsAgreed x (log ++ front)
  agreed_at front behind is plain =
      let a = law (is_emitted word_of x log longer more others others_now side new end beside t logged g h front behind is) in
      let was : WasHeld (other x) log (agreement.mirrored a.0) = were (agreement.mirrored a.0) a.2 in
      record {
        association = shown a.0;
        holds = holds_then word_of x log longer more others others_now side new end beside t logged g h front behind is plain
            ∙ shown_in (state_of (act t end beside)) a.0 a.1;
        early = was.early;
        late = was.late ++ front;
        split = ap (λ (l : List Entry). l ++ front) was.split ∙ append_assoc was.early was.late front;
        other_held = was.held_then;
      }

  -- of what was added by this end
  by_own : (front behind : List Entry) → more ≡ front ++ connection x ∷ behind → Adds x side log longer → IsAgreed x (log ++ front)
  by_own front behind is (none first k mute e) =
      let here : first ∷ [] ≡ front ++ connection x ∷ behind = same_front log (first ∷ []) more (sym e ∙ logged) ∙ is in
      agreed_at front behind is (plain_behind x (first ∷ []) [] front behind (All-cons Mute first [] mute (All-nil Mute)) (All-nil Plain) here)
  by_own front behind is (news first after k mute e) =
      let same : Bool = same_association (association side.socket) (association after) in
      let given_up_part : List Entry = given_up_entries x after.endpoint_state.context.emitted.given_up in
      let ready : List Entry = ready_entries x (ready_before same (length (ready_at side.socket))) (ready_at after) in
      let emitted_part : List Entry = emitted_entries x (length side.packets) after.endpoint_state.context.emitted.events in
      let here : (first ∷ association_entries x (association side.socket) (association after)) ++ (emitted_part ++ (given_up_part ++ ready)) ≡ front ++ connection x ∷ behind =
      same_front log (first ∷ news_of x side after) more (sym e ∙ logged) ∙ is in
      agreed_at front behind is
      (plain_behind x (first ∷ association_entries x (association side.socket) (association after)) (emitted_part ++ (given_up_part ++ ready)) front behind
      (All-cons Mute first _ mute (mute_associated same x (association after)))
      (All-append Plain emitted_part (given_up_part ++ ready) (plain_emitted x (length side.packets) after.endpoint_state.context.emitted.events)
      (All-append Plain given_up_part ready (plain_given_up x after.endpoint_state.context.emitted.given_up) (plain_ready x (drop (ready_before same (length (ready_at side.socket))) (ready_at after)))))
      here)

  silent_more : (y : End) → same_end y x ≡ false → Adds x side log longer → emitted_in y more ≡ []
  silent_more y d (none first k mute e) = ap (emitted_in y) (sym (same_front log (first ∷ []) more (sym e ∙ logged))) ∙ (silent_first y first k).emitted
  silent_more y d (news first after k mute e) =
      ap (emitted_in y) (sym (same_front log (first ∷ news_of x side after) more (sym e ∙ logged))) ∙ (silent_news y x d first k side after).emitted

  -- of any end
  by_any : (y : End) (b : Bool) → same_end y x ≡ b → (front behind : List Entry) → more ≡ front ++ connection y ∷ behind → Adds x side log longer → IsAgreed y (log ++ front)
  by_any y false d front behind is adds = not_silent y more front behind (silent_more y d adds) is
  by_any y true d front behind is adds =
      let same : x ≡ y = one_end y x d in
      subst (λ (z : End). IsAgreed z (log ++ front)) same
      (by_own front behind (subst (λ (z : End). more ≡ front ++ connection z ∷ behind) (sym same) is) adds)
    where
      one_end : (y x : End) → same_end y x ≡ true → x ≡ y
      one_end A A e = refl
      one_end A B e = cc
      one_end B A e = cc
      one_end B B e = refl

  agrees_on : Adds x side log longer → WorldAgrees log → WorldAgrees longer
  agrees_on adds before_it y before behind e = elim (stands_in y log more before behind (sym logged ∙ e)) [
    | old rest is ↦ before_it y before rest is
    | added front is new_is ↦ subst (IsAgreed y) (sym is) (by_any y (same_end y x) refl front behind new_is adds)
  ]

-- ---- runs

module _ (word_of_a word_of_b : List ℕ → ℕ) where
  -- what an end holds when its action begins, and what it drew then
  pub draws_a : (x : World) (c : Pair) → Both word_of_a word_of_b x c → draws A x ≡ c.a.end.draws
  draws_a x c h = ap (λ (s : Endpoint (List ℕ)). s.draws) h.a.image.socket

  pub draws_b : (x : World) (c : Pair) → Both word_of_a word_of_b x c → draws B x ≡ c.b.end.draws
  draws_b x c h = ap (λ (s : Endpoint (List ℕ)). s.draws) h.b.image.socket

  pub moved : (ds : List Draw) (s t u v : Stream) → s ≡ u → t ≡ v → DrawsSo ds u v → DrawsSo ds s t
  moved ds s t u v e f h = subst (λ (z : Stream). DrawsSo ds z t) (sym e) (subst (λ (z : Stream). DrawsSo ds u z) (sym f) h)

  -- no end has drawn a tag that it draws again
  record NoneIsDrawnAgain (actions : List Action) (w v : World) (r : Runs actions w v) (c : Pair) (k : Histories) : Type 0 where
    bundled_a : SideIsBundled c.a
    bundled_b : SideIsBundled c.b
    once : EachEndDrawsDistinctTags actions w v r
    a : AreDrawnOnce A k.a.drawn actions w v r
    b : AreDrawnOnce B k.b.drawn actions w v r

  drawn_on : (x : End) (t : EndAction) (action : Action) (actions : List Action) (w v : World) (r : Runs (action ∷ actions) w v) (c : Pair) (k : Histories) → Both word_of_a word_of_b w c
      → Both word_of_a word_of_b r.0 (goes (is_a x) t c) → NoneIsDrawnAgain (action ∷ actions) w v r c k
      → NoneIsDrawnAgain actions r.0 v r.2 (goes (is_a x) t c) (histories_after (is_a x) t c k)
  drawn_on A t action actions w v r c k h g n = record {
    bundled_a = act_bundled c.a c.b n.bundled_a t;
    bundled_b = n.bundled_b;
    once = λ x. (n.once x).1;
    a = own_on A action actions w v r (drawn_in t c.a c.b) k.a.drawn
        (moved (drawn_in t c.a c.b) (draws A w) (draws A r.0) c.a.end.draws (act t c.a c.b).end.draws (draws_a w c h) (draws_a r.0 (goes true t c) g) (act_so t c.a c.b n.bundled_b)) (n.once A) n.a;
    b = beside_on B action actions w v r k.b.drawn n.b;
  }
  drawn_on B t action actions w v r c k h g n = record {
    bundled_a = n.bundled_a;
    bundled_b = act_bundled c.b c.a n.bundled_b t;
    once = λ x. (n.once x).1;
    a = beside_on A action actions w v r k.a.drawn n.a;
    b = own_on B action actions w v r (drawn_in t c.b c.a) k.b.drawn
        (moved (drawn_in t c.b c.a) (draws B w) (draws B r.0) c.b.end.draws (act t c.b c.a).end.draws (draws_b w c h) (draws_b r.0 (goes false t c) g) (act_so t c.b c.a n.bundled_a)) (n.once B) n.b;
  }

  record Ran (actions : List Action) (w v : World) (r : Runs actions w v) (c : Pair) (k : Histories) : Type 0 where
    trace : List (Bool × EndAction)
    apart : NoneIsDrawnAgain actions w v r c k → AreDistinctPerEnd (histories_along trace c k)
    are : AreActionsOf word_of_a word_of_b actions trace c
    agrees : AgreesAlong trace c k → WorldAgrees w.log → WereHeld A w.log k.a → WereHeld B w.log k.b → WorldAgrees v.log

  step_on : (x : End) (t : EndAction) (w u : World) (c : Pair) (k : Histories) (more : List Entry) → u.log ≡ w.log ++ more → Both word_of_a word_of_b w c
      → Both word_of_a word_of_b u (goes (is_a x) t c) → Adds x (side_of x w) w.log u.log → agreement.AgreesAt (is_a x) t c k → WorldAgrees w.log
      → WereHeld A w.log k.a → WereHeld B w.log k.b
      → WorldAgrees u.log × WereHeld A u.log (histories_after (is_a x) t c k).a × WereHeld B u.log (histories_after (is_a x) t c k).b
  step_on A t w u c k more logged h g adds law agrees in_a in_b = (
    agrees_on word_of_a A w.log u.log more w.b.packets u.b.packets w.a u.a c.a c.b t logged h.a g.a k.b in_b law adds agrees,
    were_turned word_of_a A w.log u.log more u.b.packets u.a c.a c.b t k.a logged g.a in_a,
    were_longer B w.log u.log more k.b logged in_b,
  )
  step_on B t w u c k more logged h g adds law agrees in_a in_b = (
    agrees_on word_of_b B w.log u.log more w.a.packets u.a.packets w.b u.b c.b c.a t logged h.b g.b k.a in_a law adds agrees,
    were_longer A w.log u.log more k.a logged in_a,
    were_turned word_of_b B w.log u.log more u.a.packets u.b c.b c.a t k.b logged g.b in_b,
  )

  unfoldable ran : (actions : List Action) (w v : World) (c : Pair) (k : Histories) → All ActionFits actions → (r : Runs actions w v) → IsInBytes v → Both word_of_a word_of_b w c
      → Ran actions w v r c k
  ran [] w v c k fit e small h = record { trace = []; apart = λ n. (n.a.distinct, n.b.distinct); are = tt; agrees = λ law agrees in_a in_b. subst (λ (z : World). WorldAgrees z.log) (sym e) agrees }
  ran (action ∷ actions) w v c k fit r small h =
      let u : World = r.0 in
      let x : End = end_of action in
      let later : Extends u v = runs_extends actions u v r.2 in
      let first : Extends w u = happens_extends action w u r.1 in
      let step : Stepped word_of_a word_of_b action w u c =
      steps word_of_a word_of_b action w u c (All-head ActionFits action actions fit) (in_bytes_before w v (extends_then w u v first later) small) r.1 h in
      let rest : Ran actions u v r.2 (goes (is_a x) step.turn c) (histories_after (is_a x) step.turn c k) =
      ran actions u v (goes (is_a x) step.turn c) (histories_after (is_a x) step.turn c k) (All-tail ActionFits action actions fit) r.2 small step.both in
      record {
        trace = (is_a x, step.turn) ∷ rest.trace;
        apart = λ n. rest.apart (drawn_on x step.turn action actions w v r c k h step.both n);
        are = (refl, step.is, rest.are);
        agrees = λ law agrees in_a in_b.
            let on = step_on x step.turn w u c k step.extends.more step.extends.logged h step.both (event_adds action w u r.1) law.0 agrees in_a in_b in
            rest.agrees law.1 on.0 on.1 on.2;
      }

-- ---- what traces are asked

plain_call : (call : Call) → IsPlainCall (table_call call)
plain_call Connect = tt
plain_call Shutdown = tt
plain_call Close = tt
plain_call (Send m o) = tt
plain_call (SendMany ms o) = tt
plain_call TakeMessage = tt
plain_call (Reset streams) = tt
plain_call (SetPriority stream priority) = tt
plain_call (SetMaxMessageSize bytes) = tt
plain_call (SetLowThreshold stream bytes) = tt
plain_call HandOver = tt

allowed_receiving : (b : Bool) (n checksum : ℕ) → IsAllowed (give_action b n checksum)
allowed_receiving true n checksum = tt
allowed_receiving false n checksum = tt

allowed_foreign : (bytes : List ℕ) (turn : EndAction) → IsForeign bytes turn → IsAllowed turn
allowed_foreign bytes turn (inl p) = subst IsAllowed (sym p.2) tt
allowed_foreign bytes turn (inr e) = subst IsAllowed (sym e) tt

allowed_action : (f g : List ℕ → ℕ) (action : Action) (turn : EndAction) (c : Pair) → IsActionOf f g action turn c → IsAllowed turn
allowed_action f g (CallOf x call) turn c is = subst IsAllowed (sym is) (plain_call call)
allowed_action f g (Give n A) turn c is = subst IsAllowed (sym is.received) (allowed_receiving _ n _)
allowed_action f g (Give n B) turn c is = subst IsAllowed (sym is.received) (allowed_receiving _ n _)
allowed_action f g (GiveForeign x bytes) turn c is = allowed_foreign bytes turn is
allowed_action f g (AdvanceTime x now) turn c is = subst IsAllowed (sym is) tt

allowed_all : (f g : List ℕ → ℕ) (actions : List Action) (trace : List (Bool × EndAction)) (c : Pair) → AreActionsOf f g actions trace c → AreAllowed trace
allowed_all f g [] [] c are = tt
allowed_all f g [] (e ∷ es) c are = absurd are
allowed_all f g (action ∷ actions) [] c are = absurd are
allowed_all f g (action ∷ actions) (e ∷ es) c are = (allowed_action f g action e.1 c are.1, allowed_all f g actions es (goes e.0 e.1 c) are.2)

-- ---- the law

none_yet : (before behind : List Entry) (e : Entry) {X : Type 0} → [] ≡ before ++ e ∷ behind → X
none_yet [] behind e h = cc
none_yet (b ∷ before) behind e h = cc

pub worlds_agree : WorldsAgree
worlds_agree origin actions w l distinct =
    let c : Pair = start origin.a origin.b origin.draws_a origin.draws_b in
    let r : Ran origin.word_of_a origin.word_of_b actions (initial_world origin) w l.runs c no_histories =
    ran origin.word_of_a origin.word_of_b actions (initial_world origin) w c no_histories l.fit l.runs l.bytes (fresh_both origin.a origin.b origin.draws_a origin.draws_b origin.word_of_a origin.word_of_b l.fits_a l.fits_b) in
    r.agrees
    (ends_agree origin.a origin.b origin.draws_a origin.draws_b r.trace (given_of origin.a l.valid_a l.fits_a) (given_of origin.b l.valid_b l.fits_b)
    (allowed_all origin.word_of_a origin.word_of_b actions r.trace c r.are) (r.apart (record {
      bundled_a = new_bundled origin.a origin.draws_a;
      bundled_b = new_bundled origin.b origin.draws_b;
      once = distinct;
      a = none_before A actions (initial_world origin) w l.runs;
      b = none_before B actions (initial_world origin) w l.runs;
    })))
    (λ x before behind e. none_yet before behind (connection x) e) (λ a h. absurd h) (λ a h. absurd h)
