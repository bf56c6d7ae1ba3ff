-- Lifecycles in the log: what is emitted, what is alive and what was handed in.
use Rattle.std.proofs.Common.{◌≡◌, ℕ, ◌+◌, ◌≤◌, Bool, true, false, Option, List, [], ◌∷◌, ◌++◌, map, drop, length, refl, sym, ap, subst, ◌∙◌, arith}
use Rattle.rand_core.specs.Stream.{Stream}
use Rattle.sctp_serial.specs.Messages.{Message}
use Rattle.sctp_state.specs.Options.{Options}
use Rattle.sctp_state.specs.Events.{Event, SendPacket, OnConnected, OnClosed, OnConnectionRestarted, OnAborted, OnError, OnBufferedAmountLow, OnTotalBufferedAmountLow, OnStreamsResetFailed, OnStreamsResetPerformed, OnIncomingStreamReset, OnLifecycleMessageFullySent, OnLifecycleMessageMaybeExpired, OnLifecycleMessageExpired, OnLifecycleMessageDelivered, OnLifecycleEnd, GivenUp}
use Rattle.spec_endpoint.specs.Association.{Endpoint}
use Rattle.spec_endpoint.specs.Laws as table
use Rattle.spec_endpoint.specs.Shown.{Association}
use Rattle.spec_endpoint.specs.Receiving.{Receives, read, not_read}
use Rattle.proof_endpoint.specs.Lifecycles.{end_count, end_total, alive_count, handed_in_count, is_restore, EndsWithin}
use Rattle.proof_endpoint.proofs.LifecycleLemmas.{ends_within}
use Rattle.spec_world.specs.Observations.{End, A, B, Call, Connect, Shutdown, Close, Send, SendMany, TakeMessage, Reset, SetPriority, SetMaxMessageSize, SetLowThreshold, HandOver, Entry, Associated, GaveUp, BecameReady, same_end, same_association}
use Rattle.spec_world.specs.World.{Side, World, Action, CallOf, Give, GiveForeign, AdvanceTime, TakesBytes, MeetsForeignAt, given, withheld, MeetsForeign, Gives, Happens, Runs, fresh_world, emitted_entries, given_up_entries, association, associated_unless, association_entries, ready_before, ready_entries, news, news_of, take_emitted, table_call, after_call, after_time, call_entry, time_entry}
use Rattle.spec_endpoint.specs.Calls.{ready_at}
use Rattle.proof_world.specs.Ended.{only_if, total, handed_by, handed_to, lifecycle_ends_by, lifecycle_ends_at, EndedAreHandedIn, NoLifecycleEndsTwiceHere}

total_append : (f : Entry → ℕ) (xs ys : List Entry) → total f (xs ++ ys) ≡ total f xs + total f ys
total_append f [] ys = omega arith
total_append f (x ∷ xs) ys = omega (arith, total_append f xs ys)

plus_if : (b : Bool) (m k t : ℕ) → t ≡ only_if b k → only_if b m + t ≡ only_if b (m + k)
plus_if true m k t e = omega (arith, e)
plus_if false m k t e = omega (arith, e)

none_if : (b : Bool) (k t : ℕ) → t ≡ only_if b k → 0 + t ≡ only_if b (0 + k)
none_if true k t e = omega (arith, e)
none_if false k t e = omega (arith, e)

no_if : (b : Bool) → 0 ≡ only_if b 0
no_if true = refl
no_if false = refl

-- ---- what an end adds to the log

module _ (l : ℕ) (x z : End) where
  added : (e : Event (List ℕ)) (es : List (Event (List ℕ))) (t : ℕ) → t ≡ only_if (same_end x z) (end_total l es)
      → only_if (same_end x z) (end_count l e) + t ≡ only_if (same_end x z) (end_total l (e ∷ es))
  added e es t is = plus_if (same_end x z) (end_count l e) (end_total l es) t is

  ended_emitted : (n : ℕ) (es : List (Event (List ℕ))) → total (lifecycle_ends_by l x) (emitted_entries z n es) ≡ only_if (same_end x z) (end_total l es)
  ended_emitted n [] = no_if (same_end x z)
  ended_emitted n (SendPacket bytes ∷ es) = none_if (same_end x z) (end_total l es) _ (ended_emitted (n + 1) es)
  ended_emitted n (OnConnected ∷ es) = added OnConnected es _ (ended_emitted n es)
  ended_emitted n (OnClosed ∷ es) = added OnClosed es _ (ended_emitted n es)
  ended_emitted n (OnConnectionRestarted ∷ es) = added OnConnectionRestarted es _ (ended_emitted n es)
  ended_emitted n (OnAborted kind text ∷ es) = added (OnAborted kind text) es _ (ended_emitted n es)
  ended_emitted n (OnError kind text ∷ es) = added (OnError kind text) es _ (ended_emitted n es)
  ended_emitted n (OnBufferedAmountLow id ∷ es) = added (OnBufferedAmountLow id) es _ (ended_emitted n es)
  ended_emitted n (OnTotalBufferedAmountLow ∷ es) = added OnTotalBufferedAmountLow es _ (ended_emitted n es)
  ended_emitted n (OnStreamsResetFailed ids ∷ es) = added (OnStreamsResetFailed ids) es _ (ended_emitted n es)
  ended_emitted n (OnStreamsResetPerformed ids ∷ es) = added (OnStreamsResetPerformed ids) es _ (ended_emitted n es)
  ended_emitted n (OnIncomingStreamReset ids ∷ es) = added (OnIncomingStreamReset ids) es _ (ended_emitted n es)
  ended_emitted n (OnLifecycleMessageFullySent id ∷ es) = added (OnLifecycleMessageFullySent id) es _ (ended_emitted n es)
  ended_emitted n (OnLifecycleMessageMaybeExpired id ∷ es) = added (OnLifecycleMessageMaybeExpired id) es _ (ended_emitted n es)
  ended_emitted n (OnLifecycleMessageExpired id ∷ es) = added (OnLifecycleMessageExpired id) es _ (ended_emitted n es)
  ended_emitted n (OnLifecycleMessageDelivered id ∷ es) = added (OnLifecycleMessageDelivered id) es _ (ended_emitted n es)
  ended_emitted n (OnLifecycleEnd id ∷ es) = added (OnLifecycleEnd id) es _ (ended_emitted n es)

  handed_emitted : (n : ℕ) (es : List (Event (List ℕ))) → total (handed_by l x) (emitted_entries z n es) ≡ 0
  handed_emitted n [] = refl
  handed_emitted n (SendPacket bytes ∷ es) = omega (arith, handed_emitted (n + 1) es)
  handed_emitted n (OnConnected ∷ es) = omega (arith, handed_emitted n es)
  handed_emitted n (OnClosed ∷ es) = omega (arith, handed_emitted n es)
  handed_emitted n (OnConnectionRestarted ∷ es) = omega (arith, handed_emitted n es)
  handed_emitted n (OnAborted kind text ∷ es) = omega (arith, handed_emitted n es)
  handed_emitted n (OnError kind text ∷ es) = omega (arith, handed_emitted n es)
  handed_emitted n (OnBufferedAmountLow id ∷ es) = omega (arith, handed_emitted n es)
  handed_emitted n (OnTotalBufferedAmountLow ∷ es) = omega (arith, handed_emitted n es)
  handed_emitted n (OnStreamsResetFailed ids ∷ es) = omega (arith, handed_emitted n es)
  handed_emitted n (OnStreamsResetPerformed ids ∷ es) = omega (arith, handed_emitted n es)
  handed_emitted n (OnIncomingStreamReset ids ∷ es) = omega (arith, handed_emitted n es)
  handed_emitted n (OnLifecycleMessageFullySent id ∷ es) = omega (arith, handed_emitted n es)
  handed_emitted n (OnLifecycleMessageMaybeExpired id ∷ es) = omega (arith, handed_emitted n es)
  handed_emitted n (OnLifecycleMessageExpired id ∷ es) = omega (arith, handed_emitted n es)
  handed_emitted n (OnLifecycleMessageDelivered id ∷ es) = omega (arith, handed_emitted n es)
  handed_emitted n (OnLifecycleEnd id ∷ es) = omega (arith, handed_emitted n es)

  -- whatever is asked of an entry that is of neither kind
  module _ (f : Entry → ℕ) where
    none_associated : ((a : Option Association) → f (Associated z a) ≡ 0) → (b : Bool) (a : Option Association) → total f (associated_unless b z a) ≡ 0
    none_associated h true a = refl
    none_associated h false a = omega (arith, h a)

    none_given_up : ((g : GivenUp) → f (GaveUp z g) ≡ 0) → (records : List GivenUp) → total f (given_up_entries z records) ≡ 0
    none_given_up h [] = refl
    none_given_up h (g ∷ records) = omega (arith, h g, none_given_up h records)

    none_ready : ((m : Message) → f (BecameReady z m) ≡ 0) → (ms : List Message) → total f (map (BecameReady z) ms) ≡ 0
    none_ready h [] = refl
    none_ready h (m ∷ ms) = omega (arith, h m, none_ready h ms)

    total_news : (n r : ℕ) (old : Option Association) (s : Endpoint (List ℕ)) → ((a : Option Association) → f (Associated z a) ≡ 0)
        → ((g : GivenUp) → f (GaveUp z g) ≡ 0) → ((m : Message) → f (BecameReady z m) ≡ 0)
        → total f (news z n r old s) ≡ total f (emitted_entries z n s.endpoint_state.context.emitted.events)
    total_news n r old s of_a of_g of_m =
        let held : List Entry = association_entries z old (association s) in
        let es : List Entry = emitted_entries z n s.endpoint_state.context.emitted.events in
        let given_up_part : List Entry = given_up_entries z s.endpoint_state.context.emitted.given_up in
        let ready : List Entry = ready_entries z (ready_before (same_association old (association s)) r) (ready_at s) in
        omega (
          arith,
          total_append f held (es ++ (given_up_part ++ ready)),
          total_append f es (given_up_part ++ ready),
          total_append f given_up_part ready,
          none_associated of_a (same_association old (association s)) (association s),
          none_given_up of_g s.endpoint_state.context.emitted.given_up,
          none_ready of_m (drop (ready_before (same_association old (association s)) r) (ready_at s)),
        )

  ended_news : (side : Side) (s : Endpoint (List ℕ)) → total (lifecycle_ends_by l x) (news_of z side s) ≡ only_if (same_end x z) (end_total l s.endpoint_state.context.emitted.events)
  ended_news side s =
      total_news (lifecycle_ends_by l x) (length side.packets) (length (ready_at side.socket)) (association side.socket) s (λ a. refl) (λ g. refl) (λ m. refl)
      ∙ ended_emitted (length side.packets) s.endpoint_state.context.emitted.events

  handed_news : (side : Side) (s : Endpoint (List ℕ)) → total (handed_by l x) (news_of z side s) ≡ 0
  handed_news side s =
      total_news (handed_by l x) (length side.packets) (length (ready_at side.socket)) (association side.socket) s (λ a. refl) (λ g. refl) (λ m. refl)
      ∙ handed_emitted (length side.packets) s.endpoint_state.context.emitted.events

-- ---- an end and the log

-- all that it emitted is taken, and what it emitted and what is alive were handed in
record Counted (l : ℕ) (x : End) (side : Side) (log : List Entry) : Type 0 where
  taken : side.socket.endpoint_state.context.emitted.events ≡ []
  few : lifecycle_ends_at l x log + alive_count l side.socket.endpoint_state ≤ handed_to l x log

own_if : (x : End) (n : ℕ) → only_if (same_end x x) n ≡ n
own_if A n = refl
own_if B n = refl

module _ (l : ℕ) where
  own_goes : (x : End) (side : Side) (first : Entry) (s : Endpoint (List ℕ)) (n : ℕ) (log : List Entry) → EndsWithin l n side.socket.endpoint_state s.endpoint_state
      → handed_by l x first ≡ n → lifecycle_ends_by l x first ≡ 0 → Counted l x side log → Counted l x (take_emitted side s) (log ++ first ∷ news_of x side s)
  own_goes x side first s n log w handed_in none k =
      let emitted_now : end_total l s.endpoint_state.context.emitted.events ≡ end_total l w.events
      = ap (end_total l) (w.behind ∙ ap (λ (es : List (Event (List ℕ))). es ++ w.events) k.taken) in
      record {
        taken = refl;
        few = omega (
          arith,
          k.few,
          w.counted,
          handed_in,
          none,
          emitted_now,
          own_if x (end_total l s.endpoint_state.context.emitted.events),
          total_append (lifecycle_ends_by l x) log (first ∷ news_of x side s),
          total_append (handed_by l x) log (first ∷ news_of x side s),
          ended_news l x x side s,
          handed_news l x x side s,
        );
      }

  other_goes : (x z : End) → same_end x z ≡ false → (side moved : Side) (first : Entry) (s : Endpoint (List ℕ)) (log : List Entry)
      → handed_by l x first ≡ 0 → lifecycle_ends_by l x first ≡ 0 → Counted l x side log → Counted l x side (log ++ first ∷ news_of z moved s)
  other_goes x z apart side moved first s log handed_in none k =
      let nothing : only_if (same_end x z) (end_total l s.endpoint_state.context.emitted.events) ≡ 0
      = ap (λ (b : Bool). only_if b (end_total l s.endpoint_state.context.emitted.events)) apart in
      record {
        taken = k.taken;
        few = omega (
          arith,
          k.few,
          handed_in,
          none,
          nothing,
          total_append (lifecycle_ends_by l x) log (first ∷ news_of z moved s),
          total_append (handed_by l x) log (first ∷ news_of z moved s),
          ended_news l x z moved s,
          handed_news l x z moved s,
        );
      }

  not_restored : (call : Call) → is_restore (table_call call) ≡ false
  not_restored Connect = refl
  not_restored Shutdown = refl
  not_restored Close = refl
  not_restored (Send m o) = refl
  not_restored (SendMany ms o) = refl
  not_restored TakeMessage = refl
  not_restored (Reset streams) = refl
  not_restored (SetPriority stream priority) = refl
  not_restored (SetMaxMessageSize bytes) = refl
  not_restored (SetLowThreshold stream bytes) = refl
  not_restored HandOver = refl

  call_within : (call : Call) (s : Endpoint (List ℕ)) → EndsWithin l (handed_in_count l (table_call call)) s.endpoint_state (after_call call s).endpoint_state
  call_within call s = ends_within l (table_call call) s (not_restored call)

  time_within : (now : ℕ) (s : Endpoint (List ℕ)) → EndsWithin l 0 s.endpoint_state (after_time now s).endpoint_state
  time_within now s = ends_within l (table.Advance now) s refl

  received_within : (word_of : List ℕ → ℕ) (bytes : List ℕ) (s t : Endpoint (List ℕ)) → Receives word_of bytes s t → EndsWithin l 0 s.endpoint_state t.endpoint_state
  received_within word_of bytes s t (read p accepts is) =
      subst (λ (u : Endpoint (List ℕ)). EndsWithin l 0 s.endpoint_state u.endpoint_state) (sym is) (ends_within l (table.ReceivePacket p) s refl)
  received_within word_of bytes s t (not_read fault is_fault refuses is) =
      subst (λ (u : Endpoint (List ℕ)). EndsWithin l 0 s.endpoint_state u.endpoint_state) (sym is) (ends_within l table.ReceiveNoPacket s refl)

  -- ---- bytes

  own_emitted : (x : End) (first : Entry) (bytes : List ℕ) (old new : Side) (log longer : List Entry) → TakesBytes x first bytes old new log longer
      → handed_by l x first ≡ 0 → lifecycle_ends_by l x first ≡ 0 → Counted l x old log → Counted l x new longer
  own_emitted x first bytes old new log longer t handed_in none k =
      subst (λ (side : Side). Counted l x side longer) (sym t.side)
      (subst (λ (entries : List Entry). Counted l x (take_emitted old t.after) entries) (sym t.logged)
      (own_goes x old first t.after 0 log (received_within old.socket.endpoint_state.context.pack.word_of bytes old.socket t.after t.takes) handed_in none k))

  other_emitted : (x z : End) → same_end x z ≡ false → (side : Side) (first : Entry) (bytes : List ℕ) (old new : Side) (log longer : List Entry) → TakesBytes z first bytes old new log longer
      → handed_by l x first ≡ 0 → lifecycle_ends_by l x first ≡ 0 → Counted l x side log → Counted l x side longer
  other_emitted x z apart side first bytes old new log longer t handed_in none k =
      subst (λ (entries : List Entry). Counted l x side entries) (sym t.logged) (other_goes x z apart side old first t.after log handed_in none k)

  -- an entry that speaks of neither
  one_more : (x : End) (side : Side) (first : Entry) (log : List Entry) → handed_by l x first ≡ 0 → lifecycle_ends_by l x first ≡ 0 → Counted l x side log
      → Counted l x side (log ++ first ∷ [])
  one_more x side first log handed_in none k = record {
    taken = k.taken;
    few = omega (arith, k.few, handed_in, none, total_append (lifecycle_ends_by l x) log (first ∷ []), total_append (handed_by l x) log (first ∷ []));
  }

  own_came : (x : End) (bytes : List ℕ) (old new : Side) (log longer : List Entry) → MeetsForeignAt x bytes old new log longer → Counted l x old log → Counted l x new longer
  own_came x bytes old new log longer (given t j) k = own_emitted x _ bytes old new log longer t refl refl k
  own_came x bytes old new log longer (withheld j is logged) k =
      subst (λ (side : Side). Counted l x side longer) (sym is)
      (subst (λ (entries : List Entry). Counted l x old entries) (sym logged) (one_more x old _ log refl refl k))

  other_came : (x z : End) → same_end x z ≡ false → (side : Side) (bytes : List ℕ) (old new : Side) (log longer : List Entry) → MeetsForeignAt z bytes old new log longer
      → Counted l x side log → Counted l x side longer
  other_came x z apart side bytes old new log longer (given t j) k = other_emitted x z apart side _ bytes old new log longer t refl refl k
  other_came x z apart side bytes old new log longer (withheld j is logged) k =
      subst (λ (entries : List Entry). Counted l x side entries) (sym logged) (one_more x side _ log refl refl k)

  -- ---- both ends

  record AreCounted (w : World) : Type 0 where
    a : Counted l A w.a w.log
    b : Counted l B w.b w.log

  given_counted : (x : End) (packet : ℕ) (w v : World) → Gives x packet w v → AreCounted w → AreCounted v
  given_counted A packet w v g k = record {
    a = own_emitted A _ g.bytes w.a v.a w.log v.log g.takes_bytes refl refl k.a;
    b = subst (λ (side : Side). Counted l B side v.log) (sym g.other_side) (other_emitted B A refl w.b _ g.bytes w.a v.a w.log v.log g.takes_bytes refl refl k.b);
  }
  given_counted B packet w v g k = record {
    a = subst (λ (side : Side). Counted l A side v.log) (sym g.other_side) (other_emitted A B refl w.a _ g.bytes w.b v.b w.log v.log g.takes_bytes refl refl k.a);
    b = own_emitted B _ g.bytes w.b v.b w.log v.log g.takes_bytes refl refl k.b;
  }

  foreign_counted : (x : End) (bytes : List ℕ) (w v : World) → MeetsForeign x bytes w v → AreCounted w → AreCounted v
  foreign_counted A bytes w v g k = record {
    a = own_came A bytes w.a v.a w.log v.log g.comes k.a;
    b = subst (λ (side : Side). Counted l B side v.log) (sym g.other_side) (other_came B A refl w.b bytes w.a v.a w.log v.log g.comes k.b);
  }
  foreign_counted B bytes w v g k = record {
    a = subst (λ (side : Side). Counted l A side v.log) (sym g.other_side) (other_came A B refl w.a bytes w.b v.b w.log v.log g.comes k.a);
    b = own_came B bytes w.b v.b w.log v.log g.comes k.b;
  }

  happens_counted : (action : Action) (w v : World) → Happens action w v → AreCounted w → AreCounted v
  happens_counted (CallOf A call) w v e k = subst AreCounted (sym e) (record {
    a = own_goes A w.a (call_entry A call w.a.socket) (after_call call w.a.socket) (handed_in_count l (table_call call)) w.log (call_within call w.a.socket) refl refl k.a;
    b = other_goes B A refl w.b w.a (call_entry A call w.a.socket) (after_call call w.a.socket) w.log refl refl k.b;
  })
  happens_counted (CallOf B call) w v e k = subst AreCounted (sym e) (record {
    a = other_goes A B refl w.a w.b (call_entry B call w.b.socket) (after_call call w.b.socket) w.log refl refl k.a;
    b = own_goes B w.b (call_entry B call w.b.socket) (after_call call w.b.socket) (handed_in_count l (table_call call)) w.log (call_within call w.b.socket) refl refl k.b;
  })
  happens_counted (Give packet x) w v g k = given_counted x packet w v g k
  happens_counted (GiveForeign x bytes) w v g k = foreign_counted x bytes w v g k
  happens_counted (AdvanceTime A now) w v e k = subst AreCounted (sym e) (record {
    a = own_goes A w.a (time_entry A now w.a.socket) (after_time now w.a.socket) 0 w.log (time_within now w.a.socket) refl refl k.a;
    b = other_goes B A refl w.b w.a (time_entry A now w.a.socket) (after_time now w.a.socket) w.log refl refl k.b;
  })
  happens_counted (AdvanceTime B now) w v e k = subst AreCounted (sym e) (record {
    a = other_goes A B refl w.a w.b (time_entry B now w.b.socket) (after_time now w.b.socket) w.log refl refl k.a;
    b = own_goes B w.b (time_entry B now w.b.socket) (after_time now w.b.socket) 0 w.log (time_within now w.b.socket) refl refl k.b;
  })

  runs_counted : (actions : List Action) (w v : World) → Runs actions w v → AreCounted w → AreCounted v
  runs_counted [] w v e k = subst AreCounted (sym e) k
  runs_counted (action ∷ actions) w v r k = runs_counted actions r.0 v r.2 (happens_counted action w r.0 r.1 k)

  fresh_counted : (oa ob : Options) (a b : Stream) (f g : List ℕ → ℕ) → AreCounted (fresh_world oa ob a b f g)
  fresh_counted oa ob a b f g = record { a = record { taken = refl; few = omega arith }; b = record { taken = refl; few = omega arith } }

  few_at : (x : End) (w : World) → AreCounted w → lifecycle_ends_at l x w.log ≤ handed_to l x w.log
  few_at A w k = omega (arith, k.a.few)
  few_at B w k = omega (arith, k.b.few)

pub ended_handed : EndedAreHandedIn
ended_handed oa ob a b f g actions w r x l = few_at l x w (runs_counted l actions (fresh_world oa ob a b f g) w r (fresh_counted l oa ob a b f g))

pub ended_once : NoLifecycleEndsTwiceHere
ended_once oa ob a b f g actions w r x l one = omega (arith, ended_handed oa ob a b f g actions w r x l, one)
