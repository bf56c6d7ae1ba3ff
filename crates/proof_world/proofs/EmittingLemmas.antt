-- Of each event of a world: what it adds to the log of messages is what the action does in the trace.
use Rattle.std.proofs.Common.{◌≡◌, inl, inr, ℕ, zero, suc, Bool, true, false, Option, Some, None, List, [], ◌∷◌, ◌++◌, length, take, drop, refl, sym, ap, ◌∙◌, append-nil, arith}
use Rattle.std.specs.List.{flat_map}
use Rattle.std.proofs.lemmas.Bool.Decides.{nat_tests}
use Rattle.sctp_serial.specs.Messages.{Message}
use Rattle.sctp_state.specs.Events.{Event, GivenUp}
use Rattle.proof_refines.specs.Reachable.{delivered_ids}
use Rattle.spec_endpoint.specs.Association.{State, Closed, CookieWait, Open, Endpoint}
use Rattle.spec_endpoint.specs.Calls.{shown_state, send_refusal, ready_in, ready_at}
use Rattle.spec_endpoint.specs.Handover.{readiness}
use Rattle.spec_endpoint.specs.StreamReset.{reset_refusal}
use Rattle.spec_endpoint.specs.Shown.{Association, association_in}
use Rattle.spec_endpoint.specs.Laws as table
use Rattle.proof_endpoint.specs.Mapped.{Mapping, Carried, map_end}
use Rattle.proof_pair.specs.Trace as traces
use Rattle.proof_pair.specs.Trace.{EndAction, Calls}
use Rattle.proof_pair.specs.Handing as handing
use Rattle.proof_pair.specs.Handing.{new_behind, handed_by}
use Rattle.proof_delivery.specs.Accepted.{accepted_by, accepted_in}
use Rattle.proof_delivery.specs.GivenUp.{given_up_by}
use Rattle.proof_delivery.specs.Justified as turns
use Rattle.proof_delivery.specs.Justified.{reset_unless}
use Rattle.spec_world.specs.Observations.{End, A, B, same_end, same_association, same_numbers, all_if, Call, Connect, Shutdown, Close, Send, SendMany, TakeMessage, Reset, SetPriority, SetMaxMessageSize, SetLowThreshold, HandOver, Entry, Given, Foreign, ready_by, handed_out_in, handed_out_by, given_up}
use Rattle.spec_world.specs.Observations as observations
use Rattle.spec_world.specs.World.{Side, other, association, ready_before, news_of, take_emitted, handed_by as record_by, table_call, answer_to, call_entry, time_entry, clock}
use Rattle.proof_world.specs.Traces.{give_action, IsGiveAction, IsForeign}
use Rattle.proof_world.specs.Delivered.{accepted_messages_in, accepted_messages_by, emitted_events_by, emitted_events, reset_in, reset_by, given_up_places, reported_by, reported}
use Rattle.proof_world.proofs.EventLemmas.{same_itself}
use Rattle.proof_world.proofs.LoggedLemmas.{quiet_offers, quiet_handed, quiet_given_up, quiet_reported, none_in_news, ready_news, ready_news_other, first_handed, one_offer, many_offers}
use Rattle.proof_world.proofs.HappenedLemmas.{bare, begun_by, quiet_resets, quiet_begun, quiet_happened, IsEmittedFirst, none_emitted_first, news_emitted_first}

-- ---- ends

pub not_other : (x : End) → same_end (other x) x ≡ false
not_other A = refl
not_other B = refl

-- ---- associations

numbers_same : (a : Association) → same_numbers a a ≡ true
numbers_same a = grind (arith, nat_tests)

pub association_same : (a : Option Association) → same_association a a ≡ true
association_same None = refl
association_same (Some a) = numbers_same a

none_kept : (b : Bool) → ready_before b 0 ≡ 0
none_kept true = refl
none_kept false = refl

-- messages that were ready stay so, as long as the association stands
pub same_behind : (s t : State) → ((a : Association) → association_in s ≡ Some a → association_in t ≡ Some a) → (ms : List Message)
    → drop (ready_before (same_association (association_in s) (association_in t)) (length (ready_in s))) ms ≡ new_behind (ready_in s) ms
same_behind Closed t h ms = ap (λ (n : ℕ). drop n ms) (none_kept (same_association None (association_in t)))
same_behind (CookieWait tag first t1) t h ms = ap (λ (n : ℕ). drop n ms) (none_kept (same_association None (association_in t)))
same_behind (Open phase b) t h ms =
    ap (λ (o : Option Association). drop (ready_before (same_association (association_in (Open phase b)) o) (length b.reassembly.ready)) ms) (h _ refl)
    ∙ ap (λ (z : Bool). drop (ready_before z (length b.reassembly.ready)) ms) (association_same (association_in (Open phase b)))

pub none_new : (ms : List Message) → new_behind ms ms ≡ []
none_new [] = refl
none_new (m ∷ ms) = none_new ms

-- ---- calls

-- what a call's entry says is what the action does
module _ (f : Mapping Carried (List ℕ)) (x : End) (end : traces.Side) (s : Endpoint (List ℕ)) (is : s ≡ map_end f end.end) where
  call_offers : (call : Call) → accepted_messages_in call (answer_to call s) ≡ accepted_by (table_call call) end
  call_offers (Send m o) = ap (λ (z : Endpoint (List ℕ)). accepted_messages_in (Send m o) (answer_to (Send m o) z)) is ∙ one_offer (send_refusal m (shown_state end.end.endpoint_state.state) end.end.endpoint_state.context) m o
  call_offers (SendMany ms o) =
      ap (λ (z : Endpoint (List ℕ)). accepted_messages_in (SendMany ms o) (answer_to (SendMany ms o) z)) is
      ∙ many_offers 0 ms o (shown_state end.end.endpoint_state.state) (map_end f end.end).endpoint_state.context end.end.endpoint_state.context
      (record { options = refl; queue = refl; now = refl })
  call_offers Connect = refl
  call_offers Shutdown = refl
  call_offers Close = refl
  call_offers TakeMessage = refl
  call_offers (Reset streams) = refl
  call_offers (SetPriority stream priority) = refl
  call_offers (SetMaxMessageSize bytes) = refl
  call_offers (SetLowThreshold stream bytes) = refl
  call_offers HandOver = refl

  none_handed : (n : ℕ) → handed_out_in (record_by n s) ≡ []
  none_handed zero = refl
  none_handed (suc n) = refl

  call_hands : (call : Call) → handed_out_in (answer_to call s) ≡ handed_by (Calls (table_call call)) end
  call_hands TakeMessage = first_handed (ready_at s) ∙ ap (λ (z : Endpoint (List ℕ)). take 1 (ready_in z.endpoint_state.state)) is
  call_hands HandOver = none_handed (readiness s.endpoint_state)
  call_hands (Send m o) = refl
  call_hands (SendMany ms o) = refl
  call_hands Connect = refl
  call_hands Shutdown = refl
  call_hands Close = refl
  call_hands (Reset streams) = refl
  call_hands (SetPriority stream priority) = refl
  call_hands (SetMaxMessageSize bytes) = refl
  call_hands (SetLowThreshold stream bytes) = refl

  pub call_resets : (call : Call) → reset_in call (answer_to call s) ≡ turns.reset_by (Calls (table_call call)) end
  call_resets (Reset streams) = ap (λ (z : Endpoint (List ℕ)). reset_unless (reset_refusal z.endpoint_state.state) streams) is
  call_resets call = refl

-- ---- actions of packets

receiving_accepts : (b : Bool) (n sum : ℕ) (end : traces.Side) → accepted_in (give_action b n sum) end ≡ []
receiving_accepts true n sum end = refl
receiving_accepts false n sum end = refl

receiving_hands : (b : Bool) (n sum : ℕ) (end : traces.Side) → handed_by (give_action b n sum) end ≡ []
receiving_hands true n sum end = refl
receiving_hands false n sum end = refl

receiving_resets : (b : Bool) (n sum : ℕ) (end : traces.Side) → turns.reset_by (give_action b n sum) end ≡ []
receiving_resets true n sum end = refl
receiving_resets false n sum end = refl

pub given_accepts : (f g : List ℕ → ℕ) (n : ℕ) (own beside end : traces.Side) (action : EndAction) → IsGiveAction f g n own beside action → accepted_in action end ≡ []
given_accepts f g n own beside end action h = ap (λ (t : EndAction). accepted_in t end) h.received ∙ receiving_accepts _ n _ end

pub given_hands : (f g : List ℕ → ℕ) (n : ℕ) (own beside end : traces.Side) (action : EndAction) → IsGiveAction f g n own beside action → handed_by action end ≡ []
given_hands f g n own beside end action h = ap (λ (t : EndAction). handed_by t end) h.received ∙ receiving_hands _ n _ end

pub given_resets : (f g : List ℕ → ℕ) (n : ℕ) (own beside end : traces.Side) (action : EndAction) → IsGiveAction f g n own beside action → turns.reset_by action end ≡ []
given_resets f g n own beside end action h = ap (λ (t : EndAction). turns.reset_by t end) h.received ∙ receiving_resets _ n _ end

pub foreign_accepts : (bytes : List ℕ) (end : traces.Side) (action : EndAction) → IsForeign bytes action → accepted_in action end ≡ []
foreign_accepts bytes end action (inl h) = ap (λ (t : EndAction). accepted_in t end) h.2
foreign_accepts bytes end action (inr h) = ap (λ (t : EndAction). accepted_in t end) h

pub foreign_hands : (bytes : List ℕ) (end : traces.Side) (action : EndAction) → IsForeign bytes action → handed_by action end ≡ []
foreign_hands bytes end action (inl h) = ap (λ (t : EndAction). handed_by t end) h.2
foreign_hands bytes end action (inr h) = ap (λ (t : EndAction). handed_by t end) h

pub foreign_resets : (bytes : List ℕ) (end : traces.Side) (action : EndAction) → IsForeign bytes action → turns.reset_by action end ≡ []
foreign_resets bytes end action (inl h) = ap (λ (t : EndAction). turns.reset_by t end) h.2
foreign_resets bytes end action (inr h) = ap (λ (t : EndAction). turns.reset_by t end) h

-- ---- one event at end x, which was `own` in the trace and is `next`, beside the other end

pub record IsEmitted (x : End) (action : EndAction) (own beside next : traces.Side) (log longer : List Entry) : Type 0 where
  pub first : Entry
  pub more : List Entry
  pub logged : longer ≡ log ++ first ∷ more
  pub quiet : (y : End) → flat_map (accepted_messages_by y) more ≡ []
  pub hands_nothing : (y : End) → flat_map (handed_out_by y) more ≡ []
  pub offers : accepted_messages_by x first ≡ accepted_in action own
  pub no_offers : accepted_messages_by (other x) first ≡ []
  pub ready : flat_map (ready_by x) (first ∷ more) ≡ new_behind (handing.ready_at own) (handing.ready_at next)
  pub none_ready : flat_map (ready_by (other x)) (first ∷ more) ≡ []
  pub handed : flat_map (handed_out_by x) (first ∷ more) ≡ handed_by action own
  pub none_handed : flat_map (handed_out_by (other x)) (first ∷ more) ≡ []
  pub gave_up : given_up_places x longer ≡ given_up_places x log ++ given_up_by action own beside
  pub none_given_up : given_up (other x) (first ∷ more) ≡ []
  pub reports : reported x longer ≡ delivered_ids next.emitted
  pub none_reported : reported (other x) (first ∷ more) ≡ []
  pub resets : reset_by x first ≡ turns.reset_by action own
  pub no_resets : reset_by (other x) first ≡ []
  pub resets_nothing : (y : End) → flat_map (reset_by y) more ≡ []
  pub emits : emitted_events x longer ≡ bare next.emitted
  pub emits_none : emitted_events (other x) (first ∷ more) ≡ []
  pub first_emits : (y : End) → emitted_events_by y first ≡ []
  pub none_ready_first : (y : End) → ready_by y first ≡ []
  pub none_begins : flat_map begun_by more ≡ []
  pub emitted_first : IsEmittedFirst more

-- the first entries: what they say of messages and resets
pub record BeginsWith (x : End) (action : EndAction) (own : traces.Side) (first : Entry) : Type 0 where
  pub offers : accepted_messages_by x first ≡ accepted_in action own
  pub no_offers : accepted_messages_by (other x) first ≡ []
  pub ready : (y : End) → ready_by y first ≡ []
  pub handed : handed_out_by x first ≡ handed_by action own
  pub none_handed : handed_out_by (other x) first ≡ []
  pub given_up : (y : End) → observations.given_up_by y first ≡ []
  pub reported : (y : End) → reported_by y first ≡ []
  pub resets : reset_by x first ≡ turns.reset_by action own
  pub no_resets : reset_by (other x) first ≡ []
  pub happened : (y : End) → emitted_events_by y first ≡ []

module _ (f : Mapping Carried (List ℕ)) (x : End) (action : EndAction) (own beside next : traces.Side) (log longer : List Entry) (side new : Side)
    (is : side.socket ≡ map_end f own.end) (is_next : new.socket ≡ map_end f next.end)
    (stands : (a : Association) → association_in (traces.state_of own) ≡ Some a → association_in (traces.state_of next) ≡ Some a)
    (gave_up : given_up_places x longer ≡ given_up_places x log ++ given_up_by action own beside) (reports : reported x longer ≡ delivered_ids next.emitted)
    (emitted_is : emitted_events x longer ≡ bare next.emitted) (first : Entry) (b : BeginsWith x action own first) where
  state_is : side.socket.endpoint_state.state ≡ traces.state_of own
  state_is = ap (λ (z : Endpoint (List ℕ)). z.endpoint_state.state) is

  pub goes_on_emitted : (after : Endpoint (List ℕ)) → new ≡ take_emitted side after → longer ≡ log ++ first ∷ news_of x side after → IsEmitted x action own beside next log longer
  goes_on_emitted after at logged =
      let n : ℕ = length side.packets in
      let m : ℕ = length (ready_at side.socket) in
      let news : List Entry = news_of x side after in
      let then : after.endpoint_state.state ≡ traces.state_of next =
      ap (λ (z : Side). z.socket.endpoint_state.state) (sym at) ∙ ap (λ (z : Endpoint (List ℕ)). z.endpoint_state.state) is_next in
      record {
        first = first;
        more = news;
        logged = logged;
        quiet = λ y. none_in_news (accepted_messages_by y) x (quiet_offers y x) (λ z. refl) n m (association side.socket) after;
        hands_nothing = λ y. none_in_news (handed_out_by y) x (quiet_handed y x) (λ z. refl) n m (association side.socket) after;
        offers = b.offers;
        no_offers = b.no_offers;
        ready =
            ap (λ (z : List Message). z ++ flat_map (ready_by x) news) (b.ready x)
            ∙ (ready_news x (same_itself x) n m (association side.socket) after
            ∙ (ap (λ (s : State). drop (ready_before (same_association (association_in s) (association_in after.endpoint_state.state)) (length (ready_in s))) (ready_in after.endpoint_state.state)) state_is
            ∙ (ap (λ (s : State). drop (ready_before (same_association (association_in (traces.state_of own)) (association_in s)) (length (ready_in (traces.state_of own)))) (ready_in s)) then
            ∙ same_behind (traces.state_of own) (traces.state_of next) stands (ready_in (traces.state_of next)))));
        none_ready =
            ap (λ (z : List Message). z ++ flat_map (ready_by (other x)) news) (b.ready (other x))
            ∙ ready_news_other (other x) x (not_other x) n m (association side.socket) after;
        handed =
            ap (λ (z : List Message). z ++ flat_map (handed_out_by x) news) b.handed
            ∙ (ap (λ (z : List Message). handed_by action own ++ z) (none_in_news (handed_out_by x) x (quiet_handed x x) (λ z. refl) n m (association side.socket) after)
            ∙ append-nil (handed_by action own));
        none_handed =
            ap (λ (z : List Message). z ++ flat_map (handed_out_by (other x)) news) b.none_handed
            ∙ none_in_news (handed_out_by (other x)) x (quiet_handed (other x) x) (λ z. refl) n m (association side.socket) after;
        gave_up = gave_up;
        none_given_up =
            ap (λ (z : List GivenUp). z ++ given_up (other x) news) (b.given_up (other x))
            ∙ none_in_news (observations.given_up_by (other x)) x (quiet_given_up (other x) x (not_other x)) (λ z. refl) n m (association side.socket) after;
        reports = reports;
        none_reported =
            ap (λ (z : List ℕ). z ++ reported (other x) news) (b.reported (other x))
            ∙ none_in_news (reported_by (other x)) x (quiet_reported (other x) x (not_other x)) (λ z. refl) n m (association side.socket) after;
        resets = b.resets;
        no_resets = b.no_resets;
        resets_nothing = λ y. none_in_news (reset_by y) x (quiet_resets y x) (λ z. refl) n m (association side.socket) after;
        emits = emitted_is;
        emits_none =
            ap (λ (z : List (Event (List ℕ))). z ++ emitted_events (other x) news) (b.happened (other x))
            ∙ none_in_news (emitted_events_by (other x)) x (quiet_happened (other x) x (not_other x)) (λ z. refl) n m (association side.socket) after;
        first_emits = b.happened;
        none_ready_first = b.ready;
        none_begins = none_in_news begun_by x (quiet_begun x) (λ z. refl) n m (association side.socket) after;
        emitted_first = news_emitted_first x n m (association side.socket) after;
      }

  -- where nothing happens
  pub skipped_emitted : new ≡ side → longer ≡ log ++ first ∷ [] → IsEmitted x action own beside next log longer
  skipped_emitted at logged =
      let then : traces.state_of next ≡ traces.state_of own =
      ap (λ (z : Endpoint (List ℕ)). z.endpoint_state.state) (sym is_next) ∙ (ap (λ (z : Side). z.socket.endpoint_state.state) at ∙ state_is) in
      record {
        first = first;
        more = [];
        logged = logged;
        quiet = λ y. refl;
        hands_nothing = λ y. refl;
        offers = b.offers;
        no_offers = b.no_offers;
        ready = ap (λ (z : List Message). z ++ []) (b.ready x) ∙ sym (ap (λ (s : State). new_behind (handing.ready_at own) (ready_in s)) then ∙ none_new (handing.ready_at own));
        none_ready = ap (λ (z : List Message). z ++ []) (b.ready (other x));
        handed = ap (λ (z : List Message). z ++ []) b.handed ∙ append-nil (handed_by action own);
        none_handed = ap (λ (z : List Message). z ++ []) b.none_handed;
        gave_up = gave_up;
        none_given_up = ap (λ (z : List GivenUp). z ++ []) (b.given_up (other x));
        reports = reports;
        none_reported = ap (λ (z : List ℕ). z ++ []) (b.reported (other x));
        resets = b.resets;
        no_resets = b.no_resets;
        resets_nothing = λ y. refl;
        emits = emitted_is;
        emits_none = ap (λ (z : List (Event (List ℕ))). z ++ []) (b.happened (other x));
        first_emits = b.happened;
        none_ready_first = b.ready;
        none_begins = refl;
        emitted_first = none_emitted_first;
      }

-- ---- first entries

module _ (f : Mapping Carried (List ℕ)) (x : End) (own : traces.Side) where
  pub call_begins : (s : Endpoint (List ℕ)) → s ≡ map_end f own.end → (call : Call) → BeginsWith x (Calls (table_call call)) own (call_entry x call s)
  call_begins s is call = record {
    offers = ap (λ (b : Bool). all_if b (accepted_messages_in call (answer_to call s))) (same_itself x) ∙ call_offers f x own s is call;
    no_offers = ap (λ (b : Bool). all_if b (accepted_messages_in call (answer_to call s))) (not_other x);
    ready = λ y. refl;
    handed = ap (λ (b : Bool). all_if b (handed_out_in (answer_to call s))) (same_itself x) ∙ call_hands f x own s is call;
    none_handed = ap (λ (b : Bool). all_if b (handed_out_in (answer_to call s))) (not_other x);
    given_up = λ y. refl;
    reported = λ y. refl;
    resets = ap (λ (b : Bool). all_if b (reset_in call (answer_to call s))) (same_itself x) ∙ call_resets f x own s is call;
    no_resets = ap (λ (b : Bool). all_if b (reset_in call (answer_to call s))) (not_other x);
    happened = λ y. refl;
  }

  pub time_begins : (s : Endpoint (List ℕ)) (now : ℕ) → BeginsWith x (Calls (table.Advance now)) own (time_entry x now s)
  time_begins s now = record {
    offers = refl;
    no_offers = refl;
    ready = λ y. refl;
    handed = refl;
    none_handed = refl;
    given_up = λ y. refl;
    reported = λ y. refl;
    resets = refl;
    no_resets = refl;
    happened = λ y. refl;
  }

  pub give_begins : (action : EndAction) (clock packet : ℕ) → accepted_in action own ≡ [] → handed_by action own ≡ [] → turns.reset_by action own ≡ [] → BeginsWith x action own (Given x clock packet)
  give_begins action clock packet h k l = record {
    offers = sym h;
    no_offers = refl;
    ready = λ y. refl;
    handed = sym k;
    none_handed = refl;
    given_up = λ y. refl;
    reported = λ y. refl;
    resets = sym l;
    no_resets = refl;
    happened = λ y. refl;
  }

  pub foreign_begins : (action : EndAction) (clock : ℕ) (bytes : Option (List ℕ)) → accepted_in action own ≡ [] → handed_by action own ≡ [] → turns.reset_by action own ≡ [] → BeginsWith x action own (Foreign x clock bytes)
  foreign_begins action clock bytes h k l = record {
    offers = sym h;
    no_offers = refl;
    ready = λ y. refl;
    handed = sym k;
    none_handed = refl;
    given_up = λ y. refl;
    reported = λ y. refl;
    resets = sym l;
    no_resets = refl;
    happened = λ y. refl;
  }
