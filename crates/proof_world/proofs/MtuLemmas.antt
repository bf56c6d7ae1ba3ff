-- No packet is above its sender's mtu.
use Rattle.std.proofs.Common.{◌≡◌, ℕ, ◌≤◌, List, [], ◌∷◌, ◌++◌, refl, sym, ap, subst, ◌∙◌, arith}
use Rattle.std.specs.Prelude.{All}
use Rattle.std.proofs.lemmas.List.Elements.{All-nil, All-cons, All-head, All-tail, All-append}
use Rattle.rand_core.specs.Stream.{Stream}
use Rattle.sctp_state.specs.Options.{Options, IsValid}
use Rattle.sctp_state.specs.Events.{Event, SendPacket, OnConnected, OnClosed, OnConnectionRestarted, OnAborted, OnError, OnBufferedAmountLow, OnTotalBufferedAmountLow, OnStreamsResetFailed, OnStreamsResetPerformed, OnIncomingStreamReset, OnLifecycleMessageFullySent, OnLifecycleMessageMaybeExpired, OnLifecycleMessageExpired, OnLifecycleMessageDelivered, OnLifecycleEnd}
use Rattle.spec_endpoint.specs.Association.{Context, Endpoint}
use Rattle.spec_endpoint.specs.Laws.{HasAtMost, SendsAtMost, StaysWithin, called}
use Rattle.spec_endpoint.specs.Laws as table
use Rattle.spec_endpoint.specs.Receiving.{Receives, read, not_read}
use Rattle.proof_endpoint.proofs.LawsLemmas.{stays_within, sends_at_most}
use Rattle.spec_world.specs.Observations.{End, Entry, A, B}
use Rattle.spec_world.specs.World.{Side, World, Action, CallOf, Give, GiveForeign, AdvanceTime, TakesBytes, MeetsForeignAt, given, withheld, MeetsForeign, Gives, Happens, Runs, IsShort, IsShortSide, AreShort, fresh_side, fresh_world, take_emitted, table_call}
use Rattle.spec_endpoint.specs.Packets.{packets_in}

packets_short : (mtu : ℕ) (events : List (Event (List ℕ))) → All (HasAtMost mtu) events → All (IsShort mtu) (packets_in events)
packets_short mtu [] h = All-nil (IsShort mtu)
packets_short mtu (SendPacket bytes ∷ events) h =
    All-cons (IsShort mtu) bytes (packets_in events) (All-head (HasAtMost mtu) (SendPacket bytes) events h) (packets_short mtu events (All-tail (HasAtMost mtu) (SendPacket bytes) events h))
packets_short mtu (OnConnected ∷ events) h = packets_short mtu events (All-tail (HasAtMost mtu) OnConnected events h)
packets_short mtu (OnClosed ∷ events) h = packets_short mtu events (All-tail (HasAtMost mtu) OnClosed events h)
packets_short mtu (OnConnectionRestarted ∷ events) h = packets_short mtu events (All-tail (HasAtMost mtu) OnConnectionRestarted events h)
packets_short mtu (OnAborted kind text ∷ events) h = packets_short mtu events (All-tail (HasAtMost mtu) (OnAborted kind text) events h)
packets_short mtu (OnError kind text ∷ events) h = packets_short mtu events (All-tail (HasAtMost mtu) (OnError kind text) events h)
packets_short mtu (OnBufferedAmountLow id ∷ events) h = packets_short mtu events (All-tail (HasAtMost mtu) (OnBufferedAmountLow id) events h)
packets_short mtu (OnTotalBufferedAmountLow ∷ events) h = packets_short mtu events (All-tail (HasAtMost mtu) OnTotalBufferedAmountLow events h)
packets_short mtu (OnStreamsResetFailed ids ∷ events) h = packets_short mtu events (All-tail (HasAtMost mtu) (OnStreamsResetFailed ids) events h)
packets_short mtu (OnStreamsResetPerformed ids ∷ events) h = packets_short mtu events (All-tail (HasAtMost mtu) (OnStreamsResetPerformed ids) events h)
packets_short mtu (OnIncomingStreamReset ids ∷ events) h = packets_short mtu events (All-tail (HasAtMost mtu) (OnIncomingStreamReset ids) events h)
packets_short mtu (OnLifecycleMessageFullySent id ∷ events) h = packets_short mtu events (All-tail (HasAtMost mtu) (OnLifecycleMessageFullySent id) events h)
packets_short mtu (OnLifecycleMessageMaybeExpired id ∷ events) h = packets_short mtu events (All-tail (HasAtMost mtu) (OnLifecycleMessageMaybeExpired id) events h)
packets_short mtu (OnLifecycleMessageExpired id ∷ events) h = packets_short mtu events (All-tail (HasAtMost mtu) (OnLifecycleMessageExpired id) events h)
packets_short mtu (OnLifecycleMessageDelivered id ∷ events) h = packets_short mtu events (All-tail (HasAtMost mtu) (OnLifecycleMessageDelivered id) events h)
packets_short mtu (OnLifecycleEnd id ∷ events) h = packets_short mtu events (All-tail (HasAtMost mtu) (OnLifecycleEnd id) events h)

-- ---- a side

emitted_short : (mtu : ℕ) (c d : Context (List ℕ)) → c.options.mtu ≡ mtu → c.emitted.events ≡ [] → SendsAtMost c.options.mtu c d → All (IsShort mtu) (packets_in d.emitted.events)
emitted_short mtu c d limit taken s =
    subst (λ (events : List (Event (List ℕ))). All (IsShort mtu) (packets_in events)) (sym (s.behind ∙ ap (λ (l : List (Event (List ℕ))). l ++ s.events) taken))
    (packets_short mtu s.events (subst (λ (m : ℕ). All (HasAtMost m) s.events) limit s.short))

settled_short : (mtu : ℕ) (call : table.Call) (side : Side) → IsShortSide mtu side → IsShortSide mtu (take_emitted side (called call side.socket))
settled_short mtu call side h =
    let s : Endpoint (List ℕ) = side.socket in
    let least : 12 ≤ s.endpoint_state.context.options.mtu = subst (λ (m : ℕ). 12 ≤ m) (sym h.limit) h.enough in
    let stays : StaysWithin s.endpoint_state.context (called call s).endpoint_state.context = stays_within call s least in
    record {
      word_of = h.word_of;
      own = stays.pack ∙ h.own;
      limit = stays.mtu ∙ h.limit;
      enough = h.enough;
      taken = refl;
      packets = All-append (IsShort mtu) side.packets (packets_in (called call s).endpoint_state.context.emitted.events) h.packets
          (emitted_short mtu s.endpoint_state.context (called call s).endpoint_state.context h.limit h.taken (sends_at_most h.word_of call s h.own least));
    }

received_short : (mtu : ℕ) (word_of : List ℕ → ℕ) (bytes : List ℕ) (side : Side) (after : Endpoint (List ℕ)) → Receives word_of bytes side.socket after → IsShortSide mtu side
    → IsShortSide mtu (take_emitted side after)
received_short mtu word_of bytes side after (read p accepts is) h =
    subst (λ (s : Endpoint (List ℕ)). IsShortSide mtu (take_emitted side s)) (sym is) (settled_short mtu (table.ReceivePacket p) side h)
received_short mtu word_of bytes side after (not_read fault is_fault refuses is) h =
    subst (λ (s : Endpoint (List ℕ)). IsShortSide mtu (take_emitted side s)) (sym is) (settled_short mtu table.ReceiveNoPacket side h)

taken_short : (mtu : ℕ) (x : End) (first : Entry) (bytes : List ℕ) (old new : Side) (log longer : List Entry) → TakesBytes x first bytes old new log longer → IsShortSide mtu old
    → IsShortSide mtu new
taken_short mtu x first bytes old new log longer t h =
    subst (IsShortSide mtu) (sym t.side) (received_short mtu old.socket.endpoint_state.context.pack.word_of bytes old t.after t.takes h)

came_short : (mtu : ℕ) (x : End) (bytes : List ℕ) (old new : Side) (log longer : List Entry) → MeetsForeignAt x bytes old new log longer → IsShortSide mtu old → IsShortSide mtu new
came_short mtu x bytes old new log longer (given t j) h = taken_short mtu x _ bytes old new log longer t h
came_short mtu x bytes old new log longer (withheld j is l) h = subst (IsShortSide mtu) (sym is) h

-- ---- the world

given_short : (mtu_a mtu_b : ℕ) (x : End) (packet : ℕ) (w v : World) → Gives x packet w v → AreShort mtu_a mtu_b w → AreShort mtu_a mtu_b v
given_short mtu_a mtu_b A packet w v g h = record {
  a = taken_short mtu_a A _ g.bytes w.a v.a w.log v.log g.takes_bytes h.a;
  b = subst (IsShortSide mtu_b) (sym g.other_side) h.b;
}
given_short mtu_a mtu_b B packet w v g h = record {
  a = subst (IsShortSide mtu_a) (sym g.other_side) h.a;
  b = taken_short mtu_b B _ g.bytes w.b v.b w.log v.log g.takes_bytes h.b;
}

foreign_short : (mtu_a mtu_b : ℕ) (x : End) (bytes : List ℕ) (w v : World) → MeetsForeign x bytes w v → AreShort mtu_a mtu_b w → AreShort mtu_a mtu_b v
foreign_short mtu_a mtu_b A bytes w v g h = record {
  a = came_short mtu_a A bytes w.a v.a w.log v.log g.comes h.a;
  b = subst (IsShortSide mtu_b) (sym g.other_side) h.b;
}
foreign_short mtu_a mtu_b B bytes w v g h = record {
  a = subst (IsShortSide mtu_a) (sym g.other_side) h.a;
  b = came_short mtu_b B bytes w.b v.b w.log v.log g.comes h.b;
}

pub happens_short : (mtu_a mtu_b : ℕ) (action : Action) (w v : World) → Happens action w v → AreShort mtu_a mtu_b w → AreShort mtu_a mtu_b v
happens_short mtu_a mtu_b (CallOf A call) w v e h = subst (AreShort mtu_a mtu_b) (sym e) (record { a = settled_short mtu_a (table_call call) w.a h.a; b = h.b })
happens_short mtu_a mtu_b (CallOf B call) w v e h = subst (AreShort mtu_a mtu_b) (sym e) (record { a = h.a; b = settled_short mtu_b (table_call call) w.b h.b })
happens_short mtu_a mtu_b (Give packet x) w v g h = given_short mtu_a mtu_b x packet w v g h
happens_short mtu_a mtu_b (GiveForeign x bytes) w v g h = foreign_short mtu_a mtu_b x bytes w v g h
happens_short mtu_a mtu_b (AdvanceTime A now) w v e h = subst (AreShort mtu_a mtu_b) (sym e) (record { a = settled_short mtu_a (table.Advance now) w.a h.a; b = h.b })
happens_short mtu_a mtu_b (AdvanceTime B now) w v e h = subst (AreShort mtu_a mtu_b) (sym e) (record { a = h.a; b = settled_short mtu_b (table.Advance now) w.b h.b })

pub runs_short : (mtu_a mtu_b : ℕ) (actions : List Action) (w v : World) → Runs actions w v → AreShort mtu_a mtu_b w → AreShort mtu_a mtu_b v
runs_short mtu_a mtu_b [] w v e h = subst (AreShort mtu_a mtu_b) (sym e) h
runs_short mtu_a mtu_b (action ∷ actions) w v r h = runs_short mtu_a mtu_b actions r.0 v r.2 (happens_short mtu_a mtu_b action w r.0 r.1 h)

-- ---- a new world

fresh_short : (o : Options) (draws : Stream) (word_of : List ℕ → ℕ) → IsValid o → IsShortSide o.mtu (fresh_side o draws word_of)
fresh_short o draws word_of valid = record {
  word_of = word_of;
  own = refl;
  limit = refl;
  enough = omega (arith, valid.sizes.mtu_least);
  taken = refl;
  packets = All-nil (IsShort o.mtu);
}

pub new_short : (oa ob : Options) (a b : Stream) (f g : List ℕ → ℕ) → IsValid oa → IsValid ob → (w : World) → w ≡ fresh_world oa ob a b f g → AreShort oa.mtu ob.mtu w
new_short oa ob a b f g valid_a valid_b w is =
    subst (AreShort oa.mtu ob.mtu) (sym is) (record { a = fresh_short oa a f valid_a; b = fresh_short ob b g valid_b })
