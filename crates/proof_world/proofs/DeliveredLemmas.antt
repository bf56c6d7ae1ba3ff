-- Each run of a world is made of blocks, keeps its trace's windows, and delivers what its trace delivers.
use Rattle.std.proofs.Common.{◌≡◌, ◌^◌, inl, inr, ℕ, ◌+◌, ◌-◌, ◌||◌, Bool, true, false, Some, None, List, [], ◌∷◌, ◌++◌, length, map, replicate, slice_get, refl, sym, ap, subst, ◌∙◌, append-nil, append_assoc, arith}
use Rattle.std.specs.Prelude.{All}
use Rattle.std.specs.List.{list_any}
use Rattle.std.proofs.lemmas.Bool.{lt-leb}
use Rattle.std.proofs.lemmas.List.{length-map, map-append}
use Rattle.std.proofs.lemmas.List.Elements.{All-head, All-tail}
use Rattle.sctp_serial.specs.Messages.{Message}
use Rattle.sctp_state.specs.Options.{Options, SendOptions}
use Rattle.spec_endpoint.specs.Association.{State, Endpoint}
use Rattle.spec_endpoint.specs.Laws as table
use Rattle.spec_endpoint.specs.Shown.{Association, association_in}
use Rattle.proof_endpoint.specs.Mapped.{Mapping, Carried, map_end, as_written, as_bytes}
use Rattle.proof_pair.specs.Trace as traces
use Rattle.proof_pair.specs.Trace.{Pair, EndAction, Calls, emitted_packets, act, goes, run, state_of, NoAssociationHasEnded, AreValidOptions}
use Rattle.proof_pair.specs.Handing.{handed_by}
use Rattle.proof_pair.proofs.TraceLemmas.{Halves, before_run, goes_consistent}
use Rattle.proof_pair.proofs.HandingLemmas.{hands_at}
use Rattle.proof_delivery.specs.Accepted.{AcceptedMessage, accepted}
use Rattle.proof_delivery.specs.Accepted as turns
use Rattle.proof_delivery.specs.Answered as requests
use Rattle.proof_delivery.specs.Answered.{NumberedBefore, numbered_before, IsAnswered}
use Rattle.proof_delivery.specs.Justified.{reset_by}
use Rattle.proof_delivery.specs.StreamEpochs.{all_open}
use Rattle.proof_delivery.specs.Windows as windows
use Rattle.proof_delivery.specs.Windows.{numbered_count, left_count, IsWithin, Stamp, Stamps, IsYoung}
use Rattle.proof_delivery.specs.GivenUp.{given_up_by, given_up_at}
use Rattle.proof_refines.specs.Reachable.{delivered_ids}
use Rattle.proof_delivery.specs.Ending as ending
use Rattle.spec_world.specs.Observations as observations
use Rattle.spec_world.specs.Observations.{End, A, B, same_end, all_if, unrefused, Entry, Called, Given, Foreign, Answer, Sent, SentMany, accepted_in, accepted_by, Call, Connect, Shutdown, Close, Send, SendMany, TakeMessage, Reset, SetPriority, SetMaxMessageSize, SetLowThreshold, HandOver}
use Rattle.spec_world.specs.World.{Side, World, Action, CallOf, Give, GiveForeign, AdvanceTime, MeetsForeignAt, given, withheld, Gives, Happens, Runs, side_of, take_emitted, news_of, clock, call_socket, call_entry, after_call, advance_time, time_entry, after_time, table_call}
use Rattle.proof_endpoint.specs.Sound.{ArgumentFits}
use Rattle.proof_world.specs.Reachable.{ActionFits, IsInBytes}
use Rattle.proof_world.specs.Traces.{is_a, end_of, give_action, IsActionOf}
use Rattle.proof_world.specs.Delivered.{given_up_places, reported, AlongRun, SideIsWithin, WorldIsWithin, world_numbered, world_stamp, stamp_packets, stamps_after, ActionIsTimely, WorldKeepsWindows, asked_after, WorldIsAnswered, WorldKeepsRequests, accepted_messages_in, accepted_messages_by, accepted_messages, emitted_events, AcceptedMessagesAgree, AcceptedMessagesHaveEpochs}
use Rattle.proof_world.specs.Consistent.{NoEndingIsLogged}
use Rattle.proof_world.proofs.StandingLemmas.{stands_front}
use Rattle.proof_world.proofs.UpToEndLemmas.{stamps_along}
use Rattle.proof_world.proofs.WorldLemmas.{Both, Extends, extends_then, in_bytes_before, Stepped, steps}
use Rattle.proof_world.proofs.RunsLemmas.{runs_extends, happens_extends, ran}
use Rattle.proof_world.proofs.HappenedLemmas.{bare, happened_is}
use Rattle.proof_world.proofs.LoggedEpochLemmas.{epochs_are_many}
use Rattle.proof_world.proofs.EmittingLemmas.{BeginsWith, IsEmitted, goes_on_emitted, skipped_emitted, call_begins, time_begins, give_begins, foreign_begins, given_accepts, given_hands, given_resets, foreign_accepts, foreign_hands, foreign_resets}
use Rattle.proof_world.proofs.BlockLemmas as block
use Rattle.proof_world.proofs.BlockLemmas.{IsBlock, AreBlocks, StandsAt, run_more, IsReached, reached_more}
use Rattle.proof_world.proofs.ReportedLemmas.{reported_is}

-- ---- one event is one block

calls_side : (x : End) (call : Call) (w : World) → side_of x (call_socket x call w) ≡ take_emitted (side_of x w) (after_call call (side_of x w).socket)
calls_side A call w = refl
calls_side B call w = refl

pub calls_log : (x : End) (call : Call) (w : World) → (call_socket x call w).log ≡ w.log ++ call_entry x call (side_of x w).socket ∷ news_of x (side_of x w) (after_call call (side_of x w).socket)
calls_log A call w = refl
calls_log B call w = refl

pub time_side : (x : End) (now : ℕ) (w : World) → side_of x (advance_time x now w) ≡ take_emitted (side_of x w) (after_time now (side_of x w).socket)
time_side A now w = refl
time_side B now w = refl

pub time_log : (x : End) (now : ℕ) (w : World) → (advance_time x now w).log ≡ w.log ++ time_entry x now (side_of x w).socket ∷ news_of x (side_of x w) (after_time now (side_of x w).socket)
time_log A now w = refl
time_log B now w = refl

module _ (f : Mapping Carried (List ℕ)) (x : End) (own beside next : traces.Side) (w u : World) (is : (side_of x w).socket ≡ map_end f own.end) (is_next : (side_of x u).socket ≡ map_end f next.end)
    (stands : (a : Association) → association_in (state_of own) ≡ Some a → association_in (state_of next) ≡ Some a) (turn : EndAction)
    (gave_up : given_up_places x u.log ≡ given_up_places x w.log ++ given_up_by turn own beside) (reports : reported x u.log ≡ delivered_ids next.emitted)
    (emits : emitted_events x u.log ≡ bare next.emitted) where
  abbrev s : Endpoint (List ℕ)
  s = (side_of x w).socket

  goes_emitted : (first : Entry) → BeginsWith x turn own first → (after : Endpoint (List ℕ)) → side_of x u ≡ take_emitted (side_of x w) after → u.log ≡ w.log ++ first ∷ news_of x (side_of x w) after
      → IsEmitted x turn own beside next w.log u.log
  goes_emitted first b after at logged = goes_on_emitted f x turn own beside next w.log u.log (side_of x w) (side_of x u) is is_next stands gave_up reports emits first b after at logged

  call_emitted : (call : Call) → turn ≡ Calls (table_call call) → u ≡ call_socket x call w → IsEmitted x turn own beside next w.log u.log
  call_emitted call t e =
      goes_emitted (call_entry x call s) (subst (λ (z : EndAction). BeginsWith x z own (call_entry x call s)) (sym t) (call_begins f x own s is call)) (after_call call s)
      (ap (side_of x) e ∙ calls_side x call w) (ap (λ (z : World). z.log) e ∙ calls_log x call w)

  time_emitted : (now : ℕ) → turn ≡ Calls (table.Advance now) → u ≡ advance_time x now w → IsEmitted x turn own beside next w.log u.log
  time_emitted now t e =
      goes_emitted (time_entry x now s) (subst (λ (z : EndAction). BeginsWith x z own (time_entry x now s)) (sym t) (time_begins f x own s now)) (after_time now s)
      (ap (side_of x) e ∙ time_side x now w) (ap (λ (z : World). z.log) e ∙ time_log x now w)

  give_emitted : (packet : ℕ) → turns.accepted_in turn own ≡ [] → handed_by turn own ≡ [] → reset_by turn own ≡ [] → Gives x packet w u → IsEmitted x turn own beside next w.log u.log
  give_emitted packet h k l g = goes_emitted (Given x (clock s) packet) (give_begins f x own turn (clock s) packet h k l) g.takes_bytes.after g.takes_bytes.side g.takes_bytes.logged

  foreign_emitted : (bytes : List ℕ) → turns.accepted_in turn own ≡ [] → handed_by turn own ≡ [] → reset_by turn own ≡ [] → MeetsForeignAt x bytes (side_of x w) (side_of x u) w.log u.log
      → IsEmitted x turn own beside next w.log u.log
  foreign_emitted bytes h k l (given t judged) = goes_emitted (Foreign x (clock s) (Some bytes)) (foreign_begins f x own turn (clock s) (Some bytes) h k l) t.after t.side t.logged
  foreign_emitted bytes h k l (withheld judged stays logged) =
      skipped_emitted f x turn own beside next w.log u.log (side_of x w) (side_of x u) is is_next stands gave_up reports emits (Foreign x (clock s) None)
      (foreign_begins f x own turn (clock s) None h k l) stays logged

module _ (word_of_a word_of_b : List ℕ → ℕ) where
  block_of : (action : Action) (w u : World) (c : Pair) (turn : EndAction) → Happens action w u → IsActionOf word_of_a word_of_b action turn c → Both word_of_a word_of_b w c
      → Both word_of_a word_of_b u (goes (is_a (end_of action)) turn c) → StandsAt (is_a (end_of action)) (is_a (end_of action), turn) c
      → ((x : End) → given_up_places x u.log ≡ given_up_places x w.log ++ given_up_at (is_a x) (is_a (end_of action)) turn c)
      → IsBlock (is_a (end_of action), turn) c w.log u.log
  block_of (CallOf A call) w u c turn e is h k stands gives_up =
      call_emitted (as_bytes word_of_a) A c.a c.b (act turn c.a c.b) w u h.a.image.socket k.a.image.socket stands turn (gives_up A)
      (reported_is word_of_a A u.log u.b.packets u.a (act turn c.a c.b) k.a)
      (happened_is word_of_a A u.log u.b.packets u.a (act turn c.a c.b) k.a) call is e
  block_of (CallOf B call) w u c turn e is h k stands gives_up =
      call_emitted (as_bytes word_of_b) B c.b c.a (act turn c.b c.a) w u h.b.image.socket k.b.image.socket stands turn (gives_up B)
      (reported_is word_of_b B u.log u.a.packets u.b (act turn c.b c.a) k.b)
      (happened_is word_of_b B u.log u.a.packets u.b (act turn c.b c.a) k.b) call is e
  block_of (Give n A) w u c turn g is h k stands gives_up =
      give_emitted (as_bytes word_of_a) A c.a c.b (act turn c.a c.b) w u h.a.image.socket k.a.image.socket stands turn (gives_up A)
      (reported_is word_of_a A u.log u.b.packets u.a (act turn c.a c.b) k.a)
      (happened_is word_of_a A u.log u.b.packets u.a (act turn c.a c.b) k.a) n
      (given_accepts word_of_a word_of_b n c.a c.b c.a turn is) (given_hands word_of_a word_of_b n c.a c.b c.a turn is)
      (given_resets word_of_a word_of_b n c.a c.b c.a turn is) g
  block_of (Give n B) w u c turn g is h k stands gives_up =
      give_emitted (as_bytes word_of_b) B c.b c.a (act turn c.b c.a) w u h.b.image.socket k.b.image.socket stands turn (gives_up B)
      (reported_is word_of_b B u.log u.a.packets u.b (act turn c.b c.a) k.b)
      (happened_is word_of_b B u.log u.a.packets u.b (act turn c.b c.a) k.b) n
      (given_accepts word_of_b word_of_a n c.b c.a c.b turn is) (given_hands word_of_b word_of_a n c.b c.a c.b turn is)
      (given_resets word_of_b word_of_a n c.b c.a c.b turn is) g
  block_of (GiveForeign A bytes) w u c turn g is h k stands gives_up =
      foreign_emitted (as_bytes word_of_a) A c.a c.b (act turn c.a c.b) w u h.a.image.socket k.a.image.socket stands turn (gives_up A)
      (reported_is word_of_a A u.log u.b.packets u.a (act turn c.a c.b) k.a)
      (happened_is word_of_a A u.log u.b.packets u.a (act turn c.a c.b) k.a) bytes
      (foreign_accepts bytes c.a turn is) (foreign_hands bytes c.a turn is) (foreign_resets bytes c.a turn is) g.comes
  block_of (GiveForeign B bytes) w u c turn g is h k stands gives_up =
      foreign_emitted (as_bytes word_of_b) B c.b c.a (act turn c.b c.a) w u h.b.image.socket k.b.image.socket stands turn (gives_up B)
      (reported_is word_of_b B u.log u.a.packets u.b (act turn c.b c.a) k.b)
      (happened_is word_of_b B u.log u.a.packets u.b (act turn c.b c.a) k.b) bytes
      (foreign_accepts bytes c.b turn is) (foreign_hands bytes c.b turn is) (foreign_resets bytes c.b turn is) g.comes
  block_of (AdvanceTime A now) w u c turn e is h k stands gives_up =
      time_emitted (as_bytes word_of_a) A c.a c.b (act turn c.a c.b) w u h.a.image.socket k.a.image.socket stands turn (gives_up A)
      (reported_is word_of_a A u.log u.b.packets u.a (act turn c.a c.b) k.a)
      (happened_is word_of_a A u.log u.b.packets u.a (act turn c.a c.b) k.a) now is e
  block_of (AdvanceTime B now) w u c turn e is h k stands gives_up =
      time_emitted (as_bytes word_of_b) B c.b c.a (act turn c.b c.a) w u h.b.image.socket k.b.image.socket stands turn (gives_up B)
      (reported_is word_of_b B u.log u.a.packets u.b (act turn c.b c.a) k.b)
      (happened_is word_of_b B u.log u.a.packets u.b (act turn c.b c.a) k.b) now is e

  -- ---- windows

  state_same : (f : Mapping Carried (List ℕ)) (side : Side) (end : traces.Side) → side.socket ≡ map_end f end.end → side.socket.endpoint_state.state ≡ state_of end
  state_same f side end e = ap (λ (z : Endpoint (List ℕ)). z.endpoint_state.state) e

  abbrev counts_of : (n m : State → ℕ) (s t : State) → Stamp
  counts_of n m s t = record { a = n s; b = m t }

  counts_same : (n m : State → ℕ) (w : World) (c : Pair) → Both word_of_a word_of_b w c
      → counts_of n m w.a.socket.endpoint_state.state w.b.socket.endpoint_state.state ≡ counts_of n m (state_of c.a) (state_of c.b)
  counts_same n m w c h =
      ap (λ (s : State). counts_of n m s w.b.socket.endpoint_state.state) (state_same (as_bytes word_of_a) w.a c.a h.a.image.socket)
      ∙ ap (λ (s : State). counts_of n m (state_of c.a) s) (state_same (as_bytes word_of_b) w.b c.b h.b.image.socket)

  pub numbered_same : (w : World) (c : Pair) → Both word_of_a word_of_b w c → world_numbered w ≡ windows.numbered c
  numbered_same w c h = counts_same numbered_count numbered_count w c h

  stamp_same : (x : End) (w : World) (c : Pair) → Both word_of_a word_of_b w c → world_stamp x w ≡ windows.stamp (is_a x) c
  stamp_same A w c h = counts_same (λ s. left_count s + 2 ^ 30) left_count w c h
  stamp_same B w c h = counts_same left_count (λ s. left_count s + 2 ^ 30) w c h

  within_same : (f : Mapping Carried (List ℕ)) (side : Side) (end : traces.Side) → side.socket ≡ map_end f end.end → SideIsWithin side → IsWithin (state_of end) (windows.queue_of end)
  within_same f side end e h = subst (λ (z : Endpoint (List ℕ)). IsWithin z.endpoint_state.state z.endpoint_state.context.queue) e h

  are_within : (w : World) (c : Pair) → Both word_of_a word_of_b w c → WorldIsWithin w → windows.AreWithin c
  are_within w c h k = record {
    a = within_same (as_bytes word_of_a) w.a c.a h.a.image.socket k.a;
    b = within_same (as_bytes word_of_b) w.b c.b h.b.image.socket k.b;
  }

  many_same : (f : Carried → List ℕ) (side : Side) (end : traces.Side) → side.packets ≡ map f (emitted_packets end) → length side.packets ≡ length (emitted_packets end)
  many_same f side end e = ap length e ∙ length-map (emitted_packets end) f

  stamped_same : (f : Carried → List ℕ) (before after : Side) (own next : traces.Side) (s t : Stamp) (stamps : List Stamp) → before.packets ≡ map f (emitted_packets own)
      → after.packets ≡ map f (emitted_packets next) → s ≡ t → stamp_packets before after s stamps ≡ windows.stamp_packets own next t stamps
  stamped_same f before after own next s t stamps e k i =
      ap (λ (n : ℕ). stamps ++ replicate (n - length before.packets) s) (many_same f after next k)
      ∙ (ap (λ (n : ℕ). stamps ++ replicate (length (emitted_packets next) - n) s) (many_same f before own e)
      ∙ ap (λ (z : Stamp). stamps ++ replicate (length (emitted_packets next) - length (emitted_packets own)) z) i)

  none_stamped : (x : traces.Side) (s : Stamp) (stamps : List Stamp) → windows.stamp_packets x x s stamps ≡ stamps
  none_stamped x s stamps =
      ap (λ (n : ℕ). stamps ++ replicate n s) (let e : length (emitted_packets x) - length (emitted_packets x) ≡ 0 = omega arith in e) ∙ append-nil stamps

  pub stamps_same : (at_a : Bool) (turn : EndAction) (w u : World) (c : Pair) (s : Stamps) → Both word_of_a word_of_b w c → Both word_of_a word_of_b u (goes at_a turn c)
      → stamps_after w u s ≡ windows.stamps_after at_a turn c s
  stamps_same true turn w u c s h k =
      ap (λ (l : List Stamp). record { of_a = l; of_b = stamp_packets w.b u.b (world_stamp B w) s.of_b })
      (stamped_same (as_written word_of_a) w.a u.a c.a (act turn c.a c.b) (world_stamp A w) (windows.stamp true c) s.of_a h.a.image.packets k.a.image.packets (stamp_same A w c h))
      ∙ ap (λ (l : List Stamp). record { of_a = windows.stamp_packets c.a (act turn c.a c.b) (windows.stamp true c) s.of_a; of_b = l })
      (stamped_same (as_written word_of_b) w.b u.b c.b c.b (world_stamp B w) (windows.stamp false c) s.of_b h.b.image.packets k.b.image.packets (stamp_same B w c h)
      ∙ none_stamped c.b (windows.stamp false c) s.of_b)
  stamps_same false turn w u c s h k =
      ap (λ (l : List Stamp). record { of_a = l; of_b = stamp_packets w.b u.b (world_stamp B w) s.of_b })
      (stamped_same (as_written word_of_a) w.a u.a c.a c.a (world_stamp A w) (windows.stamp true c) s.of_a h.a.image.packets k.a.image.packets (stamp_same A w c h)
      ∙ none_stamped c.a (windows.stamp true c) s.of_a)
      ∙ ap (λ (l : List Stamp). record { of_a = s.of_a; of_b = l })
      (stamped_same (as_written word_of_b) w.b u.b c.b (act turn c.b c.a) (world_stamp B w) (windows.stamp false c) s.of_b h.b.image.packets k.b.image.packets (stamp_same B w c h))

  receiving_timely : (b : Bool) (n sum : ℕ) (now : Stamp) (stamps : List Stamp) → ((old : Stamp) → slice_get stamps n ≡ Some old → IsYoung now old)
      → windows.IsTimely (give_action b n sum) now stamps
  receiving_timely true n sum now stamps h = h
  receiving_timely false n sum now stamps h = tt

  pub timely : (action : Action) (w : World) (c : Pair) (turn : EndAction) (s : Stamps) → Both word_of_a word_of_b w c → IsActionOf word_of_a word_of_b action turn c → ActionIsTimely action (world_numbered w) s
      → windows.IsTimely turn (windows.numbered c) (windows.stamps_for (is_a (end_of action)) s)
  timely (CallOf x call) w c turn s h is t = subst (λ (z : EndAction). windows.IsTimely z (windows.numbered c) (windows.stamps_for (is_a x) s)) (sym is) tt
  timely (Give n A) w c turn s h is t =
      subst (λ (z : EndAction). windows.IsTimely z (windows.numbered c) s.of_b) (sym is.received)
      (receiving_timely _ n _ (windows.numbered c) s.of_b (λ old e. subst (λ (z : Stamp). IsYoung z old) (numbered_same w c h) (t old e)))
  timely (Give n B) w c turn s h is t =
      subst (λ (z : EndAction). windows.IsTimely z (windows.numbered c) s.of_a) (sym is.received)
      (receiving_timely _ n _ (windows.numbered c) s.of_a (λ old e. subst (λ (z : Stamp). IsYoung z old) (numbered_same w c h) (t old e)))
  timely (GiveForeign x bytes) w c turn s h (inl is) t = subst (λ (z : EndAction). windows.IsTimely z (windows.numbered c) (windows.stamps_for (is_a x) s)) (sym is.2) tt
  timely (GiveForeign x bytes) w c turn s h (inr is) t = subst (λ (z : EndAction). windows.IsTimely z (windows.numbered c) (windows.stamps_for (is_a x) s)) (sym is) tt
  timely (AdvanceTime x now) w c turn s h is t = subst (λ (z : EndAction). windows.IsTimely z (windows.numbered c) (windows.stamps_for (is_a x) s)) (sym is) tt

  -- ---- requests to reset streams

  answered_same : (f : Mapping Carried (List ℕ)) (side : Side) (end : traces.Side) (n : ℕ) → side.socket ≡ map_end f end.end → IsAnswered side.socket.endpoint_state.state n → IsAnswered (state_of end) n
  answered_same f side end n e h = subst (λ (s : State). IsAnswered s n) (state_same f side end e) h

  are_answered : (w : World) (c : Pair) (k : NumberedBefore) → Both word_of_a word_of_b w c → WorldIsAnswered w k → requests.AreAnswered c k
  are_answered w c k h i = record {
    a = answered_same (as_bytes word_of_a) w.a c.a k.a h.a.image.socket i.a;
    b = answered_same (as_bytes word_of_b) w.b c.b k.b h.b.image.socket i.b;
  }

  pub asked_same : (at_a : Bool) (turn : EndAction) (w u : World) (c : Pair) (k : NumberedBefore) → Both word_of_a word_of_b w c → Both word_of_a word_of_b u (goes at_a turn c)
      → asked_after w u k ≡ requests.asked_after at_a turn c k
  asked_same at_a turn w u c k h i =
      ap (λ (n : ℕ). record { a = n; b = numbered_before w.b.socket.endpoint_state.state u.b.socket.endpoint_state.state k.b })
      (by_states w.a.socket.endpoint_state.state (state_of c.a) u.a.socket.endpoint_state.state (state_of (goes at_a turn c).a) k.a (state_same (as_bytes word_of_a) w.a c.a h.a.image.socket)
      (state_same (as_bytes word_of_a) u.a (goes at_a turn c).a i.a.image.socket))
      ∙ ap (λ (n : ℕ). record { a = numbered_before (state_of c.a) (state_of (goes at_a turn c).a) k.a; b = n })
      (by_states w.b.socket.endpoint_state.state (state_of c.b) u.b.socket.endpoint_state.state (state_of (goes at_a turn c).b) k.b (state_same (as_bytes word_of_b) w.b c.b h.b.image.socket)
      (state_same (as_bytes word_of_b) u.b (goes at_a turn c).b i.b.image.socket))
    where
      by_states : (s t after then : State) (n : ℕ) → s ≡ t → after ≡ then → numbered_before s after n ≡ numbered_before t then n
      by_states s t after then n e f = ap (λ (z : State). numbered_before z after n) e ∙ ap (λ (z : State). numbered_before t z n) f

  -- ---- limits

  call_more : (call : Call) → ArgumentFits (table_call call) → windows.sets_more (Calls (table_call call)) ≡ false
  call_more Connect h = refl
  call_more Shutdown h = refl
  call_more Close h = refl
  call_more (Send m o) h = refl
  call_more (SendMany ms o) h = refl
  call_more TakeMessage h = refl
  call_more (Reset streams) h = refl
  call_more (SetPriority stream priority) h = refl
  call_more (SetMaxMessageSize bytes) h = lt-leb (2 ^ 32) bytes h
  call_more (SetLowThreshold stream bytes) h = refl
  call_more HandOver h = refl

  receiving_more : (b : Bool) (n sum : ℕ) → windows.sets_more (give_action b n sum) ≡ false
  receiving_more true n sum = refl
  receiving_more false n sum = refl

  -- what is handed in fits, so no limit is wider than 32 bits
  pub action_more : (action : Action) (turn : EndAction) (c : Pair) → ActionFits action → IsActionOf word_of_a word_of_b action turn c → windows.sets_more turn ≡ false
  action_more (CallOf x call) turn c fits is = ap windows.sets_more is ∙ call_more call fits
  action_more (Give n A) turn c fits is = ap windows.sets_more is.received ∙ receiving_more _ n _
  action_more (Give n B) turn c fits is = ap windows.sets_more is.received ∙ receiving_more _ n _
  action_more (GiveForeign x bytes) turn c fits (inl is) = ap windows.sets_more is.2
  action_more (GiveForeign x bytes) turn c fits (inr is) = ap windows.sets_more is
  action_more (AdvanceTime x now) turn c fits is = ap windows.sets_more is

  -- ---- whole runs

  -- a world at which so many of the actions have been
  pub record IsPoint (all : List (Bool × EndAction)) (first : Pair) (u : World) : Type 0 where
    pub early : List (Bool × EndAction)
    pub late : List (Bool × EndAction)
    pub split : all ≡ early ++ late
    pub reached : IsReached first early u.log
    pub both : Both word_of_a word_of_b u (run early first)

  pub record Delivering (actions : List Action) (w v : World) (c : Pair) (runs : Runs actions w v) (trace : List (Bool × EndAction)) : Type 0 where
    pub blocks : block.Stands trace c → AreBlocks trace c w.log v.log
    pub windows_kept : (s : Stamps) → NoEndingIsLogged v.log → WorldKeepsWindows actions w v runs s → windows.KeepsWindows trace c s
    pub stamps : (s : Stamps) → stamps_along actions w v runs s ≡ ending.stamps_along trace c s
    pub requests_kept : (k : NumberedBefore) → NoEndingIsLogged v.log → WorldKeepsRequests actions w v runs k → requests.KeepsRequests trace c k
    pub limits : list_any (λ (e : Bool × EndAction). windows.sets_more e.1) trace ≡ false
    pub points : (all done : List (Bool × EndAction)) (first : Pair) → all ≡ done ++ trace → run done first ≡ c → block.Stands trace c → IsReached first done w.log
        → AlongRun (IsPoint all first) actions w v runs

  pub delivering : (actions : List Action) (w v : World) (c : Pair) (fit : All ActionFits actions) (r : Runs actions w v) (small : IsInBytes v) (h : Both word_of_a word_of_b w c)
      → Delivering actions w v c r (ran word_of_a word_of_b actions w v c fit r small h).trace
  unfolding ran
  delivering [] w v c fit r small h = record {
    blocks = λ s. ap (λ (z : World). z.log) r;
    windows_kept = λ s st k. are_within w c h (k (subst (λ (z : World). NoEndingIsLogged z.log) r st));
    stamps = λ s. refl;
    requests_kept = λ k st i. are_answered w c k h (i (subst (λ (z : World). NoEndingIsLogged z.log) r st));
    limits = refl;
    points = λ all done first split is s reached.
        record { early = done; late = []; split = split; reached = reached; both = subst (Both word_of_a word_of_b w) (sym is) h };
  }
  delivering (action ∷ actions) w v c fit r small h =
      let u : World = r.0 in
      let later : Extends u v = runs_extends actions u v r.2 in
      let first : Extends w u = happens_extends action w u r.1 in
      let step : Stepped word_of_a word_of_b action w u c =
      steps word_of_a word_of_b action w u c (All-head ActionFits action actions fit) (in_bytes_before w v (extends_then w u v first later) small) r.1 h in
      let at_end : Bool = is_a (end_of action) in
      let d : Pair = goes at_end step.turn c in
      let rest_turns : List (Bool × EndAction) = (ran word_of_a word_of_b actions u v d (All-tail ActionFits action actions fit) r.2 small step.both).trace in
      let rest = delivering actions u v d (All-tail ActionFits action actions fit) r.2 small step.both in
      record {
        blocks = λ s. (u.log, block_of action w u c step.turn r.1 step.is h step.both s.0 step.gives_up, rest.blocks s.1);
        windows_kept = λ s st k. let here = k.0 (stands_front w.log (extends_then w u v first later).more v.log (extends_then w u v first later).logged st) in (
          are_within w c h here.0,
          timely action w c step.turn s h step.is here.1,
          rest.windows_kept (windows.stamps_after at_end step.turn c s) st
              (subst (λ (z : Stamps). WorldKeepsWindows actions u v r.2 z) (stamps_same at_end step.turn w u c s h step.both) k.1),
        );
        stamps = λ s. rest.stamps (stamps_after w u s) ∙ ap (λ (z : Stamps). ending.stamps_along rest_turns d z) (stamps_same at_end step.turn w u c s h step.both);
        requests_kept = λ k st i. (
          are_answered w c k h (i.0 (stands_front w.log (extends_then w u v first later).more v.log (extends_then w u v first later).logged st)),
          rest.requests_kept (requests.asked_after at_end step.turn c k) st
              (subst (λ (z : NumberedBefore). WorldKeepsRequests actions u v r.2 z) (asked_same at_end step.turn w u c k h step.both) i.1),
        );
        limits = both_any (action_more action step.turn c (All-head ActionFits action actions fit) step.is) rest.limits;
        points = λ all done first split is s reached.
            let e : Bool × EndAction = (at_end, step.turn) in
            let b : IsBlock e c w.log u.log = block_of action w u c step.turn r.1 step.is h step.both s.0 step.gives_up in (
              record { early = done; late = e ∷ rest_turns; split = split; reached = reached; both = subst (Both word_of_a word_of_b w) (sym is) h },
              rest.points all (done ++ e ∷ []) first (split ∙ sym (append_assoc done (e ∷ []) rest_turns)) (run_more done e first ∙ ap (goes at_end step.turn) is) s.1
                  (reached_more first done e w.log u.log reached (subst (λ (z : Pair). IsBlock e z w.log u.log) (sym is) b)),
            );
      }
    where
      both_any : {p q x y : Bool} → p ≡ q → x ≡ y → (p || x) ≡ (q || y)
      both_any {p} {q} {x} {y} e f = ap (λ (z : Bool). z || x) e ∙ ap (λ (z : Bool). q || z) f

pub along_each : (P Q : World → Type 0) → ((u : World) → P u → Q u) → (actions : List Action) (w v : World) (r : Runs actions w v) → AlongRun P actions w v r → AlongRun Q actions w v r
along_each P Q f [] w v r h = f w h
along_each P Q f (action ∷ actions) w v r h = (f w h.0, along_each P Q f actions r.0 v r.2 h.1)

-- ---- an association that stands is not replaced

module _ (o q : Options) (own : AreValidOptions o) (other : AreValidOptions q) where
  pub stands_along : (es : List (Bool × EndAction)) (c : Pair) → traces.KeepsRules es c → NoAssociationHasEnded (run es c) → Halves o q c.a c.b → block.Stands es c
  stands_along [] c follows none h = tt
  stands_along (e ∷ es) c follows none h =
      let d : Pair = goes e.0 e.1 c in
      let not_yet : NoAssociationHasEnded d = before_run es d none in (
        (hands_at o q own other e.0 e.0 e.1 c follows.0 not_yet h).stands,
        stands_along es d follows.1 none (goes_consistent o q own other e.0 e.1 c follows.0 not_yet h),
      )

-- ---- offers and accepted messages

messages_with : (o : SendOptions) (ms : List Message) → map (λ (z : AcceptedMessage). z.message) (map (λ (m : Message). record { message = m; options = o }) ms) ≡ ms
messages_with o [] = refl
messages_with o (m ∷ ms) = ap (λ (l : List Message). m ∷ l) (messages_with o ms)

one_call : (call : Call) (answer : Answer) → accepted_in call answer ≡ map (λ (z : AcceptedMessage). z.message) (accepted_messages_in call answer)
one_call (Send m o) (Sent None) = refl
one_call (Send m o) (Sent (Some e)) = refl
one_call (SendMany ms o) (SentMany refused) = sym (messages_with o (unrefused 0 ms refused))
one_call call answer = refl

one_entry : (x : End) (e : Entry) → accepted_by x e ≡ map (λ (z : AcceptedMessage). z.message) (accepted_messages_by x e)
one_entry x (Called y clock call answer) = go (same_end x y)
  where
    go : (b : Bool) → all_if b (accepted_in call answer) ≡ map (λ (z : AcceptedMessage). z.message) (all_if b (accepted_messages_in call answer))
    go true = one_call call answer
    go false = refl
one_entry x e = refl

pub offers_have_epochs : AcceptedMessagesHaveEpochs
offers_have_epochs x log = epochs_are_many x log all_open

pub offers_accepted : AcceptedMessagesAgree
offers_accepted x [] = refl
offers_accepted x (e ∷ log) =
    ap (λ (l : List Message). l ++ observations.accepted x log) (one_entry x e)
    ∙ (ap (λ (l : List Message). map (λ (z : AcceptedMessage). z.message) (accepted_messages_by x e) ++ l) (offers_accepted x log)
    ∙ sym (map-append (λ (z : AcceptedMessage). z.message) (accepted_messages_by x e) (accepted_messages x log)))
