-- The event that ends an association: what the log has of it before that.
use Rattle.std.proofs.Common.{◌≡◌, ◌⊎◌, inl, inr, ℕ, ◌+◌, Bool, true, false, Option, Some, None, List, [], ◌∷◌, ◌++◌, length, take, drop, refl, sym, ap, subst, ◌∙◌, append-nil, append_assoc, arith}
use Rattle.std.specs.List.{flat_map}
use Rattle.std.proofs.lemmas.Grind.{flat_map-append}
use Rattle.std.proofs.lemmas.List.{take-append-drop}
use Rattle.sctp_serial.specs.Messages.{Message}
use Rattle.sctp_state.specs.Events.{Event, SendPacket, GivenUp}
use Rattle.sctp_rx.specs.Delivery as orders
use Rattle.sctp_reassembly.proofs.ExtendsLemmas.{extends_by}
use Rattle.spec_endpoint.specs.Association.{Endpoint}
use Rattle.spec_endpoint.specs.Shown.{Association}
use Rattle.spec_endpoint.specs.Laws as table
use Rattle.spec_endpoint.specs.Laws.{TakeMessage}
use Rattle.proof_endpoint.specs.Mapped.{Mapping, Carried, map_event, map_end, as_bytes}
use Rattle.proof_pair.specs.Trace as traces
use Rattle.proof_pair.specs.Trace.{Pair, EndAction, Calls, Gives, Refuses}
use Rattle.proof_pair.specs.Handing.{handed_by, handed_at}
use Rattle.proof_pair.specs.Handing as handing
use Rattle.proof_delivery.specs.Accepted.{accepted_at}
use Rattle.proof_delivery.specs.Accepted as turns
use Rattle.proof_delivery.specs.Justified.{reset_by}
use Rattle.spec_world.specs.Observations as observations
use Rattle.spec_world.specs.Observations.{End, A, B, Entry, Given, Foreign, Call, ready_by, handed_out_by, given_up_by}
use Rattle.spec_world.specs.World as worlds
use Rattle.spec_world.specs.World.{Side, World, Action, CallOf, Give, GiveForeign, AdvanceTime, MeetsForeignAt, given, withheld, Happens, side_of, other, news_of, association, associated_unless, association_entries, emitted_entries, given_up_entries, ready_entries, ready_before, call_socket, call_entry, after_call, advance_time, time_entry, after_time, clock, table_call}
use Rattle.proof_world.specs.Traces.{is_a, end_of, IsActionOf}
use Rattle.proof_world.specs.Delivered.{accepted_messages_by, emitted_events_by, reported_by}
use Rattle.proof_world.specs.Consistent.{association_ends_by, times_ended, NoEndingIsLogged}
use Rattle.proof_world.proofs.EventLemmas.{mapped}
use Rattle.proof_world.proofs.LoggedLemmas.{IsQuietOnEmitted, behind_none, none_ready, none_associated, none_emitted, quiet_offers, quiet_ready, quiet_handed, quiet_reported}
use Rattle.proof_world.proofs.StandingLemmas.{times_more}
use Rattle.proof_world.proofs.WorldLemmas.{Both}
use Rattle.proof_world.proofs.HappenedLemmas.{quiet_happened}
use Rattle.proof_world.proofs.EmittingLemmas.{not_other, BeginsWith, call_begins, time_begins, give_begins, foreign_begins, given_accepts, given_hands, given_resets, foreign_accepts, foreign_hands, foreign_resets}
use Rattle.proof_world.proofs.PrefixLemmas.{none_before, Longer, one_is_longer, split_head, split_tail}
use Rattle.proof_world.proofs.BlockLemmas.{same_front}
use Rattle.proof_world.proofs.DeliveredLemmas.{calls_log, time_log}
use Rattle.spec_endpoint.specs.Calls.{ready_at}

-- ---- an event's entries

-- the first one, what says nothing of messages but reports, and what says nothing of an end
pub record IsParted (x : End) (turn : EndAction) (own : traces.Side) (log longer : List Entry) : Type 0 where
  pub first : Entry
  pub begins : BeginsWith x turn own first
  pub no_end : (y : End) → association_ends_by y first ≡ []
  pub rest : List Entry
  pub behind : List Entry
  pub logged : longer ≡ log ++ first ∷ (rest ++ behind)
  pub offers : (y : End) → flat_map (accepted_messages_by y) rest ≡ []
  pub hands : (y : End) → flat_map (handed_out_by y) rest ≡ []
  pub ready : (y : End) → flat_map (ready_by y) rest ≡ []
  pub given_up : (y : End) → flat_map (given_up_by y) rest ≡ []
  pub reported : flat_map (reported_by (other x)) rest ≡ []
  pub happened : flat_map (emitted_events_by (other x)) rest ≡ []
  pub ended : (y : End) → flat_map (association_ends_by y) behind ≡ []

none_front : {X : Type 0} (f : Entry → List X) (x : End) → IsQuietOnEmitted f x → (b : Bool) (a : Option Association) (n : ℕ) (es : List (Event (List ℕ)))
    → flat_map f (associated_unless b x a ++ emitted_entries x n es) ≡ []
none_front f x q b a n es = behind_none f x (associated_unless b x a) (emitted_entries x n es) (none_associated f x q b a) ∙ none_emitted f x q n es

none_over : (x y : End) (gs : List GivenUp) → flat_map (association_ends_by y) (given_up_entries x gs) ≡ []
none_over x y [] = refl
none_over x y (g ∷ gs) = none_over x y gs

module _ (f : Mapping Carried (List ℕ)) (x : End) (own : traces.Side) (w u : World) (is : (side_of x w).socket ≡ map_end f own.end) (turn : EndAction) where
  abbrev s : Endpoint (List ℕ)
  s = (side_of x w).socket

  parted_by : (first : Entry) → BeginsWith x turn own first → ((y : End) → association_ends_by y first ≡ []) → (after : Endpoint (List ℕ)) → u.log ≡ w.log ++ first ∷ news_of x (side_of x w) after → IsParted x turn own w.log u.log
  parted_by first begins no_end after logged =
      let n : ℕ = length (side_of x w).packets in
      let old = association s in
      let es : List (Event (List ℕ)) = after.endpoint_state.context.emitted.events in
      let start : List Entry = association_entries x old (association after) in
      let given_up_part : List Entry = given_up_entries x after.endpoint_state.context.emitted.given_up in
      let last : List Entry = ready_entries x (ready_before (observations.same_association old (association after)) (length (ready_at s))) (ready_at after) in
      let same : Bool = observations.same_association old (association after) in
      record {
        first = first;
        begins = begins;
        no_end = no_end;
        rest = start ++ emitted_entries x n es;
        behind = given_up_part ++ last;
        logged = logged ∙ ap (λ (l : List Entry). w.log ++ first ∷ l) (sym (append_assoc start (emitted_entries x n es) (given_up_part ++ last)));
        offers = λ y. none_front (accepted_messages_by y) x (quiet_offers y x).on_emitted same (association after) n es;
        hands = λ y. none_front (handed_out_by y) x (quiet_handed y x).on_emitted same (association after) n es;
        ready = λ y. none_front (ready_by y) x (quiet_ready y x).on_emitted same (association after) n es;
        given_up = λ y. none_front (given_up_by y) x (record { associated = λ a. refl; emitted = λ k. refl; happened = λ e. refl }) same (association after) n es;
        reported = none_front (reported_by (other x)) x (quiet_reported (other x) x (not_other x)).on_emitted same (association after) n es;
        happened = none_front (emitted_events_by (other x)) x (quiet_happened (other x) x (not_other x)).on_emitted same (association after) n es;
        ended = λ y.
            flat_map-append (association_ends_by y) given_up_part last
            ∙ (ap (λ (l : List End). l ++ flat_map (association_ends_by y) last) (none_over x y after.endpoint_state.context.emitted.given_up)
            ∙ none_ready (association_ends_by y) x (λ m. refl) (drop (ready_before (observations.same_association old (association after)) (length (ready_at s))) (ready_at after)));
      }

  call_parted : (call : Call) → turn ≡ Calls (table_call call) → u ≡ call_socket x call w → IsParted x turn own w.log u.log
  call_parted call t e =
      parted_by (call_entry x call s) (subst (λ (z : EndAction). BeginsWith x z own (call_entry x call s)) (sym t) (call_begins f x own s is call)) (λ y. refl) (after_call call s)
      (ap (λ (z : World). z.log) e ∙ calls_log x call w)

  time_parted : (now : ℕ) → turn ≡ Calls (table.Advance now) → u ≡ advance_time x now w → IsParted x turn own w.log u.log
  time_parted now t e =
      parted_by (time_entry x now s) (subst (λ (z : EndAction). BeginsWith x z own (time_entry x now s)) (sym t) (time_begins f x own s now)) (λ y. refl) (after_time now s)
      (ap (λ (z : World). z.log) e ∙ time_log x now w)

  give_parted : (packet : ℕ) → turns.accepted_in turn own ≡ [] → handed_by turn own ≡ [] → reset_by turn own ≡ [] → worlds.Gives x packet w u → IsParted x turn own w.log u.log
  give_parted packet h k l g = parted_by (Given x (clock s) packet) (give_begins f x own turn (clock s) packet h k l) (λ y. refl) g.takes_bytes.after g.takes_bytes.logged

  foreign_parted : (bytes : List ℕ) → turns.accepted_in turn own ≡ [] → handed_by turn own ≡ [] → reset_by turn own ≡ [] → MeetsForeignAt x bytes (side_of x w) (side_of x u) w.log u.log
      → IsParted x turn own w.log u.log
  foreign_parted bytes h k l (given t judged) = parted_by (Foreign x (clock s) (Some bytes)) (foreign_begins f x own turn (clock s) (Some bytes) h k l) (λ y. refl) t.after t.logged
  foreign_parted bytes h k l (withheld judged stays logged) = record {
    first = Foreign x (clock s) None;
    begins = foreign_begins f x own turn (clock s) None h k l;
    no_end = λ y. refl;
    rest = [];
    behind = [];
    logged = logged;
    offers = λ y. refl;
    hands = λ y. refl;
    ready = λ y. refl;
    given_up = λ y. refl;
    reported = refl;
    happened = refl;
    ended = λ y. refl;
  }

module _ (word_of_a word_of_b : List ℕ → ℕ) where
  pub parted_of : (action : Action) (w u : World) (c : Pair) (turn : EndAction) → Happens action w u → IsActionOf word_of_a word_of_b action turn c → Both word_of_a word_of_b w c
      → IsParted (end_of action) turn (traces.side_of (is_a (end_of action)) c) w.log u.log
  parted_of (CallOf A call) w u c turn e is h = call_parted (as_bytes word_of_a) A c.a w u h.a.image.socket turn call is e
  parted_of (CallOf B call) w u c turn e is h = call_parted (as_bytes word_of_b) B c.b w u h.b.image.socket turn call is e
  parted_of (Give n A) w u c turn g is h =
      give_parted (as_bytes word_of_a) A c.a w u h.a.image.socket turn n (given_accepts word_of_a word_of_b n c.a c.b c.a turn is) (given_hands word_of_a word_of_b n c.a c.b c.a turn is)
      (given_resets word_of_a word_of_b n c.a c.b c.a turn is) g
  parted_of (Give n B) w u c turn g is h =
      give_parted (as_bytes word_of_b) B c.b w u h.b.image.socket turn n (given_accepts word_of_b word_of_a n c.b c.a c.b turn is) (given_hands word_of_b word_of_a n c.b c.a c.b turn is)
      (given_resets word_of_b word_of_a n c.b c.a c.b turn is) g
  parted_of (GiveForeign A bytes) w u c turn g is h =
      foreign_parted (as_bytes word_of_a) A c.a w u h.a.image.socket turn bytes (foreign_accepts bytes c.a turn is) (foreign_hands bytes c.a turn is) (foreign_resets bytes c.a turn is) g.comes
  parted_of (GiveForeign B bytes) w u c turn g is h =
      foreign_parted (as_bytes word_of_b) B c.b w u h.b.image.socket turn bytes (foreign_accepts bytes c.b turn is) (foreign_hands bytes c.b turn is) (foreign_resets bytes c.b turn is) g.comes
  parted_of (AdvanceTime A now) w u c turn e is h = time_parted (as_bytes word_of_a) A c.a w u h.a.image.socket turn now is e
  parted_of (AdvanceTime B now) w u c turn e is h = time_parted (as_bytes word_of_b) B c.b w u h.b.image.socket turn now is e

-- ---- a beginning in front of the end

-- the first entry, and a part of what was emitted
pub record IsFront (first : Entry) (rest early : List Entry) : Type 0 where
  pub some : List Entry
  pub more : List Entry
  pub is : early ≡ first ∷ some
  pub split : rest ≡ some ++ more

module _ (x : End) (turn : EndAction) (own : traces.Side) (log longer : List Entry) (b : IsParted x turn own log longer) where
  pub in_front : (early late : List Entry) → longer ≡ (log ++ early) ++ late → NoEndingIsLogged (log ++ early) → (NoEndingIsLogged longer → ⊥) → (early ≡ []) ⊎ IsFront b.first b.rest early
  in_front early late e stands over = go (one_is_longer (b.first ∷ b.rest) b.behind early late here)
    where
      here : (b.first ∷ b.rest) ++ b.behind ≡ early ++ late
      here = same_front log ((b.first ∷ b.rest) ++ b.behind) (early ++ late) (sym b.logged ∙ (e ∙ append_assoc log early late))

      by_first : (early between : List Entry) → b.first ∷ b.rest ≡ early ++ between → (early ≡ []) ⊎ IsFront b.first b.rest early
      by_first [] between is = inl refl
      by_first (k ∷ early) between is = inr (record {
        some = early;
        more = between;
        is = ap (λ (z : Entry). z ∷ early) (sym (split_head b.first k b.rest (early ++ between) is));
        split = split_tail b.first k b.rest (early ++ between) is;
      })

      -- all that says of an end would stand in it
      go : Longer (b.first ∷ b.rest) early late b.behind ⊎ Longer early (b.first ∷ b.rest) b.behind late → (early ≡ []) ⊎ IsFront b.first b.rest early
      go (inl m) =
          let stays : NoEndingIsLogged longer = λ y.
          let none : times_ended y (m.between ++ late) ≡ 0 = ap (λ (l : List End). length l) (sym (ap (flat_map (association_ends_by y)) m.behind) ∙ b.ended y) in
          let parts = times_more y m.between late in
          let sum = times_more y (log ++ early) late in
          let before = stands y in
          let whole : times_ended y longer ≡ times_ended y ((log ++ early) ++ late) = ap (times_ended y) e in
          omega (arith, none, parts, sum, before, whole) in
          absurd (over stays)
      go (inr m) = by_first early m.between m.made

  -- what is read off such a beginning
  pub read_front : (early : List Entry) → IsFront b.first b.rest early → {X : Type 0} (f : Entry → List X) → flat_map f b.rest ≡ []
      → flat_map f (log ++ early) ≡ flat_map f log ++ f b.first
  read_front early h {X} f none =
      let some : flat_map f h.some ≡ [] =
      none_before (flat_map f h.some) (flat_map f h.more) (sym (flat_map-append f h.some h.more) ∙ (sym (ap (flat_map f) h.split) ∙ none)) in
      flat_map-append f log early
      ∙ ap (λ (l : List X). flat_map f log ++ l) (ap (flat_map f) h.is ∙ (ap (λ (l : List X). f b.first ++ l) some ∙ append-nil (f b.first)))

-- of either end
pub first_offers : (y x : End) (turn : EndAction) (c : Pair) (first : Entry) → BeginsWith x turn (traces.side_of (is_a x) c) first → accepted_messages_by y first ≡ accepted_at (is_a y) (is_a x) turn c
first_offers A A turn c first b = b.offers
first_offers B B turn c first b = b.offers
first_offers A B turn c first b = b.no_offers
first_offers B A turn c first b = b.no_offers

pub first_hands : (y x : End) (turn : EndAction) (c : Pair) (first : Entry) → BeginsWith x turn (traces.side_of (is_a x) c) first → handed_out_by y first ≡ handed_at (is_a y) (is_a x) turn c
first_hands A A turn c first b = b.handed
first_hands B B turn c first b = b.handed
first_hands A B turn c first b = b.none_handed
first_hands B A turn c first b = b.none_handed

-- ---- what is handed out is ready

hands_of_ready : (t : EndAction) (own : traces.Side) → orders.Extends (handed_by t own) (handing.ready_at own)
hands_of_ready (Calls TakeMessage) own = extends_by (take 1 (handing.ready_at own)) (handing.ready_at own) (drop 1 (handing.ready_at own)) (sym (take-append-drop 1 (handing.ready_at own)))
hands_of_ready (Calls call) own = extends_by [] (handing.ready_at own) (handing.ready_at own) refl
hands_of_ready (Gives which checksum) own = extends_by [] (handing.ready_at own) (handing.ready_at own) refl
hands_of_ready (Refuses p) own = extends_by [] (handing.ready_at own) (handing.ready_at own) refl

hands_at_end : (y acts : Bool) (t : EndAction) (c : Pair) → orders.Extends (handed_at y acts t c) (handing.ready_at (traces.side_of y c))
hands_at_end true true t c = hands_of_ready t c.a
hands_at_end false false t c = hands_of_ready t c.b
hands_at_end true false t c = extends_by [] (handing.ready_at c.a) (handing.ready_at c.a) refl
hands_at_end false true t c = extends_by [] (handing.ready_at c.b) (handing.ready_at c.b) refl

-- so it stays a beginning of what became ready
pub still_prefix : (y acts : Bool) (t : EndAction) (c : Pair) (handed ready : List Message) → ready ≡ handed ++ handing.ready_at (traces.side_of y c)
    → orders.Extends (handed ++ handed_at y acts t c) ready
still_prefix y acts t c handed ready e =
    let h : orders.Extends (handed_at y acts t c) (handing.ready_at (traces.side_of y c)) = hands_at_end y acts t c in
    extends_by (handed ++ handed_at y acts t c) ready h.more
    (e ∙ (ap (λ (ms : List Message). handed ++ ms) h.made ∙ sym (append_assoc handed (handed_at y acts t c) h.more)))

-- ---- what was emitted in it

-- entries of what was emitted, one an event
entry_of : (x : End) (n : ℕ) (e : Event (List ℕ)) → (m : ℕ) × (z : Entry) × ((es : List (Event (List ℕ))) → emitted_entries x n (e ∷ es) ≡ z ∷ emitted_entries x m es)
entry_of x n (SendPacket bytes) = (n + 1, observations.EmittedPacket x n, λ es. refl)
entry_of x n e = (n, observations.EmittedEvent x e, λ es. refl)

-- a beginning of them is that of a beginning of the events
pub record IsEmitting (f : Mapping Carried (List ℕ)) (x : End) (n : ℕ) (es : List (Event Carried)) (front : List Entry) : Type 0 where
  pub some : List (Event Carried)
  pub more : List (Event Carried)
  pub split : es ≡ some ++ more
  pub are : front ≡ emitted_entries x n (mapped f some)

pub emitted_front : (f : Mapping Carried (List ℕ)) (x : End) (n : ℕ) (es : List (Event Carried)) (front behind : List Entry) → emitted_entries x n (mapped f es) ≡ front ++ behind
    → IsEmitting f x n es front
emitted_front f x n es [] behind h = record { some = []; more = es; split = refl; are = refl }
emitted_front f x n [] (k ∷ front) behind h = cc
emitted_front f x n (e ∷ es) (k ∷ front) behind h =
    let one = entry_of x n (map_event f e) in
    let there : one.1 ∷ emitted_entries x one.0 (mapped f es) ≡ k ∷ (front ++ behind) = sym (one.2 (mapped f es)) ∙ h in
    let r : IsEmitting f x one.0 es front =
    emitted_front f x one.0 es front behind (split_tail one.1 k (emitted_entries x one.0 (mapped f es)) (front ++ behind) there) in
    record {
      some = e ∷ r.some;
      more = r.more;
      split = ap (λ (l : List (Event Carried)). e ∷ l) r.split;
      are =
          ap (λ (z : Entry). z ∷ front) (sym (split_head one.1 k (emitted_entries x one.0 (mapped f es)) (front ++ behind) there))
          ∙ (ap (λ (l : List Entry). one.1 ∷ l) r.are ∙ sym (one.2 (mapped f r.some)));
    }
