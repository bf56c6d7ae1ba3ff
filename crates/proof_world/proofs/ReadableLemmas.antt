-- Packets that can be read back, along each run.
use Rattle.std.proofs.Common.{◌≡◌, ℕ, zero, suc, ◌≤◌, Bool, true, Option, Some, IfSome, List, [], ◌∷◌, ◌++◌, slice_get, refl, sym, ap, subst, ◌∙◌, arith}
use Rattle.std.specs.Prelude.{All}
use Rattle.std.proofs.lemmas.List.Elements.{All-nil, All-cons, All-head, All-tail, All-append}
use Rattle.rand_core.specs.Stream.{Stream}
use Rattle.sctp_wire.specs.declared.checksum.Policy.{Policy}
use Rattle.sctp_packet.specs.Packet.{PacketTree, Accepts}
use Rattle.sctp_packet.proofs.LawLemmas.{one_packet_lem, never_both_lem}
use Rattle.sctp_state.specs.Options.{Options, defaults}
use Rattle.sctp_state.specs.Events.{Event, SendPacket, OnConnected, OnClosed, OnConnectionRestarted, OnAborted, OnError, OnBufferedAmountLow, OnTotalBufferedAmountLow, OnStreamsResetFailed, OnStreamsResetPerformed, OnIncomingStreamReset, OnLifecycleMessageFullySent, OnLifecycleMessageMaybeExpired, OnLifecycleMessageExpired, OnLifecycleMessageDelivered, OnLifecycleEnd}
use Rattle.spec_endpoint.specs.Association.{Context, Endpoint, Packing}
use Rattle.spec_endpoint.specs.Input.{packet_refusal, on_packet}
use Rattle.spec_endpoint.specs.Laws.{called}
use Rattle.spec_endpoint.specs.Laws as table
use Rattle.spec_endpoint.specs.Receiving.{Receives, read, not_read, Judges, taken, refused, unread, policy_of}
use Rattle.spec_endpoint.specs.Wire.{writing, word_at, AreBytes}
use Rattle.proof_endpoint.proofs.LawsLemmas.{stays_within}
use Rattle.proof_endpoint.specs.Mapped.{Carried, as_written}
use Rattle.proof_endpoint.specs.ReceivedBack.{IsReceivable, as_received}
use Rattle.proof_endpoint.specs.Sound.{OptionsFit, IsSound, ArgumentFits}
use Rattle.proof_endpoint.specs.ReadBack.{ReadsBack, IsOfSuch, CanBeRead, EmitsWhatCanBeRead}
use Rattle.proof_endpoint.proofs.ReceivedBackLemmas.{is_accepted}
use Rattle.proof_endpoint.proofs.SoundLawsLemmas.{is_new, stays_sound, stays_sound_refused, can_be_read, can_be_read_refused}
use Rattle.proof_endpoint.proofs.SoundReceivedLemmas.{emitted_fit}
use Rattle.spec_world.specs.Observations.{End, A, B, Entry}
use Rattle.spec_world.specs.World.{Side, World, Action, CallOf, Give, GiveForeign, AdvanceTime, TakesBytes, MeetsForeignAt, given, withheld, MeetsForeign, Gives, Happens, Runs, fresh_side, take_emitted, table_call, after_call, after_time}
use Rattle.spec_endpoint.specs.Packets.{packets_in}
use Rattle.proof_world.specs.Readable.{IsReadBack, CanBeReadBack, IsReadableSide, IsReadable, GivesBytes, NewWorldsAreReadable, EachActionKeepsWorldsReadable, RunsKeepWorldsReadable}
use Rattle.proof_pair.proofs.AddedLemmas.{all_get}

-- ---- a packet

-- options that let every checksum through
abbrev open_options : Options
open_options = record defaults { disable_checksum_verification = true }

module _ (word_of : List ℕ → ℕ) where
  accepted : (p : Carried) → ReadsBack 65535 p → Accepts (policy_of open_options) (word_at word_of (as_written word_of p)) (as_written word_of p) (as_received word_of p)
  accepted p r =
      let h : IsReceivable open_options p = record { header = r.header; chunks = r.chunks; short = r.short; sum = refl } in
      is_accepted word_of p open_options h

  read_back : (p : Carried) → ReadsBack 65535 p → IsReadBack word_of p
  read_back p r =
      let a : Accepts (policy_of open_options) (word_at word_of (as_written word_of p)) (as_written word_of p) (as_received word_of p) = accepted p r in
      record {
        reads_back = r;
        read = λ policy word lets. record { packet = a.packet; short_enough = a.short_enough; sum = lets };
        alone = λ policy word q accepts. one_packet_lem (as_written word_of p) q (as_received word_of p) accepts.packet a.packet;
      }

  pub all_read_back : (ps : List Carried) → All (ReadsBack 65535) ps → All (IsReadBack word_of) ps
  all_read_back [] h = All-nil (IsReadBack word_of)
  all_read_back (p ∷ ps) h = All-cons (IsReadBack word_of) p ps (read_back p (All-head (ReadsBack 65535) p ps h)) (all_read_back ps (All-tail (ReadsBack 65535) p ps h))

  reads_back_as : (bytes : List ℕ) (p : Carried) → bytes ≡ as_written word_of p → ReadsBack 65535 p → CanBeReadBack word_of bytes
  reads_back_as bytes p e r = record { packet = p; spelled = e; is_read_back = read_back p r }

  longer : (most : ℕ) (p : Carried) → most ≤ 65535 → ReadsBack most p → ReadsBack 65535 p
  longer most p m r = record { header = r.header; chunks = r.chunks; cookies = r.cookies; short = omega (arith, r.short, m) }

  such_reads_back : (most : ℕ) (bytes : List ℕ) → most ≤ 65535 → IsOfSuch (writing word_of) most bytes → CanBeReadBack word_of bytes
  such_reads_back most bytes m w = reads_back_as bytes w.carried w.made (longer most w.carried m w.reads_back)

  -- what is received of it fits
  received_fits : (bytes : List ℕ) (policy : Policy) (word : ℕ) (q : PacketTree) → CanBeReadBack word_of bytes → AreBytes bytes → Accepts policy word bytes q
      → ArgumentFits (table.ReceivePacket q)
  received_fits bytes policy word q r small accepts =
      emitted_fit word_of 65535 r.packet policy word q r.is_read_back.reads_back (subst AreBytes r.spelled small)
      (subst (λ (b : List ℕ). Accepts policy word b q) r.spelled accepts)

-- ---- what is emitted

module _ (pack : Packing (List ℕ)) (most : ℕ) where
  packets_of : (es : List (Event (List ℕ))) → All (CanBeRead pack most) es → All (IsOfSuch pack most) (packets_in es)
  packets_of [] h = All-nil (IsOfSuch pack most)
  packets_of (SendPacket bytes ∷ es) h =
      All-cons (IsOfSuch pack most) bytes (packets_in es) (All-head (CanBeRead pack most) (SendPacket bytes) es h)
      (packets_of es (All-tail (CanBeRead pack most) (SendPacket bytes) es h))
  packets_of (OnConnected ∷ es) h = packets_of es (All-tail (CanBeRead pack most) OnConnected es h)
  packets_of (OnClosed ∷ es) h = packets_of es (All-tail (CanBeRead pack most) OnClosed es h)
  packets_of (OnConnectionRestarted ∷ es) h = packets_of es (All-tail (CanBeRead pack most) OnConnectionRestarted es h)
  packets_of (OnAborted kind text ∷ es) h = packets_of es (All-tail (CanBeRead pack most) (OnAborted kind text) es h)
  packets_of (OnError kind text ∷ es) h = packets_of es (All-tail (CanBeRead pack most) (OnError kind text) es h)
  packets_of (OnBufferedAmountLow id ∷ es) h = packets_of es (All-tail (CanBeRead pack most) (OnBufferedAmountLow id) es h)
  packets_of (OnTotalBufferedAmountLow ∷ es) h = packets_of es (All-tail (CanBeRead pack most) OnTotalBufferedAmountLow es h)
  packets_of (OnStreamsResetFailed ids ∷ es) h = packets_of es (All-tail (CanBeRead pack most) (OnStreamsResetFailed ids) es h)
  packets_of (OnStreamsResetPerformed ids ∷ es) h = packets_of es (All-tail (CanBeRead pack most) (OnStreamsResetPerformed ids) es h)
  packets_of (OnIncomingStreamReset ids ∷ es) h = packets_of es (All-tail (CanBeRead pack most) (OnIncomingStreamReset ids) es h)
  packets_of (OnLifecycleMessageFullySent id ∷ es) h = packets_of es (All-tail (CanBeRead pack most) (OnLifecycleMessageFullySent id) es h)
  packets_of (OnLifecycleMessageMaybeExpired id ∷ es) h = packets_of es (All-tail (CanBeRead pack most) (OnLifecycleMessageMaybeExpired id) es h)
  packets_of (OnLifecycleMessageExpired id ∷ es) h = packets_of es (All-tail (CanBeRead pack most) (OnLifecycleMessageExpired id) es h)
  packets_of (OnLifecycleMessageDelivered id ∷ es) h = packets_of es (All-tail (CanBeRead pack most) (OnLifecycleMessageDelivered id) es h)
  packets_of (OnLifecycleEnd id ∷ es) h = packets_of es (All-tail (CanBeRead pack most) (OnLifecycleEnd id) es h)

all_such : (word_of : List ℕ → ℕ) (most : ℕ) → most ≤ 65535 → (packets : List (List ℕ)) → All (IsOfSuch (writing word_of) most) packets → All (CanBeReadBack word_of) packets
all_such word_of most m [] h = All-nil (CanBeReadBack word_of)
all_such word_of most m (bytes ∷ packets) h =
    All-cons (CanBeReadBack word_of) bytes packets (such_reads_back word_of most bytes m (All-head (IsOfSuch (writing word_of) most) bytes packets h))
    (all_such word_of most m packets (All-tail (IsOfSuch (writing word_of) most) bytes packets h))

emitted_read_back : (word_of : List ℕ → ℕ) (c d : Context (List ℕ)) → c.pack ≡ writing word_of → c.options.mtu ≤ 65535 → c.emitted.events ≡ [] → EmitsWhatCanBeRead c d
    → All (CanBeReadBack word_of) (packets_in d.emitted.events)
emitted_read_back word_of c d own m none w =
    let events : d.emitted.events ≡ w.events = w.behind ∙ ap (λ (es : List (Event (List ℕ))). es ++ w.events) none in
    subst (λ (es : List (Event (List ℕ))). All (CanBeReadBack word_of) (packets_in es)) (sym events)
    (all_such word_of c.options.mtu m (packets_in w.events)
    (subst (λ (pack : Packing (List ℕ)). All (IsOfSuch pack c.options.mtu) (packets_in w.events)) own (packets_of c.pack c.options.mtu w.events w.can_be_read)))

-- ---- an end

module _ (word_of : List ℕ → ℕ) where
  goes_on : (call : table.Call) (side : Side) → IsReadableSide word_of side → IsSound (called call side.socket)
      → EmitsWhatCanBeRead side.socket.endpoint_state.context (called call side.socket).endpoint_state.context → IsReadableSide word_of (take_emitted side (called call side.socket))
  goes_on call side h k w =
      let s : Endpoint (List ℕ) = side.socket in
      record {
        own = (stays_within call s h.sound.options.mtu_least).pack ∙ h.own;
        sound = record { options = k.options; queue = k.queue; state = k.state };
        taken = refl;
        packets = All-append (CanBeReadBack word_of) side.packets (packets_in (called call s).endpoint_state.context.emitted.events) h.packets
            (emitted_read_back word_of s.endpoint_state.context (called call s).endpoint_state.context h.own h.sound.options.mtu_most h.taken w);
      }

  call_readable : (call : table.Call) (side : Side) → ArgumentFits call → IsReadableSide word_of side → IsReadableSide word_of (take_emitted side (called call side.socket))
  call_readable call side fits h =
      goes_on call side h (stays_sound call side.socket h.sound fits) (can_be_read call side.socket h.sound fits)

  refused_readable : (p : PacketTree) (text : List ℕ) (side : Side) → packet_refusal p.header.verification_tag p.chunks side.socket.endpoint_state.state ≡ Some text
      → IsReadableSide word_of side → IsReadableSide word_of (take_emitted side (on_packet p side.socket))
  refused_readable p text side e h =
      goes_on (table.ReceivePacket p) side h (stays_sound_refused p text side.socket h.sound e) (can_be_read_refused p text side.socket h.sound e)

  -- a packet of the other end
  given_to : (sender own : List ℕ → ℕ) (bytes : List ℕ) (side : Side) (after : Endpoint (List ℕ)) → Receives own bytes side.socket after → CanBeReadBack sender bytes → AreBytes bytes
      → IsReadableSide word_of side → IsReadableSide word_of (take_emitted side after)
  given_to sender own bytes side after (read p accepts is) r small h =
      subst (λ (s : Endpoint (List ℕ)). IsReadableSide word_of (take_emitted side s)) (sym is)
      (call_readable (table.ReceivePacket p) side (received_fits sender bytes (policy_of side.socket.endpoint_state.context.options) (word_at own bytes) p r small accepts) h)
  given_to sender own bytes side after (not_read fault is_fault refuses is) r small h =
      subst (λ (s : Endpoint (List ℕ)). IsReadableSide word_of (take_emitted side s)) (sym is) (call_readable table.ReceiveNoPacket side tt h)

  -- bytes that it refuses
  refused_as : (own : List ℕ → ℕ) (bytes : List ℕ) (side : Side) (b : Bool) (q : PacketTree) → b ≡ true
      → Accepts (policy_of side.socket.endpoint_state.context.options) (word_at own bytes) bytes q
      → Judges own bytes side.socket.endpoint_state.context.options side.socket.endpoint_state.state b → IsReadableSide word_of side
      → IsReadableSide word_of (take_emitted side (on_packet q side.socket))
  refused_as own bytes side b q is_so accepts (taken p as_read e is) h = absurd (cc)
  refused_as own bytes side b q is_so accepts (refused p text as_read e is) h =
      subst (λ (x : PacketTree). IsReadableSide word_of (take_emitted side (on_packet x side.socket))) (one_packet_lem bytes p q as_read.packet accepts.packet)
      (refused_readable p text side e h)
  refused_as own bytes side b q is_so accepts (unread fault is_fault refuses is) h =
      absurd (never_both_lem (policy_of side.socket.endpoint_state.context.options) (word_at own bytes) bytes fault q is_fault refuses accepts)

  refused_by : (own : List ℕ → ℕ) (bytes : List ℕ) (side : Side) (after : Endpoint (List ℕ)) → Receives own bytes side.socket after
      → Judges own bytes side.socket.endpoint_state.context.options side.socket.endpoint_state.state true → IsReadableSide word_of side → IsReadableSide word_of (take_emitted side after)
  refused_by own bytes side after (read q accepts is) j h =
      subst (λ (s : Endpoint (List ℕ)). IsReadableSide word_of (take_emitted side s)) (sym is) (refused_as own bytes side true q refl accepts j h)
  refused_by own bytes side after (not_read fault is_fault refuses is) j h =
      subst (λ (s : Endpoint (List ℕ)). IsReadableSide word_of (take_emitted side s)) (sym is) (call_readable table.ReceiveNoPacket side tt h)

  emitted_readable : (sender : List ℕ → ℕ) (x : End) (first : Entry) (bytes : List ℕ) (old new : Side) (log more : List Entry) → TakesBytes x first bytes old new log more
      → CanBeReadBack sender bytes → AreBytes bytes → IsReadableSide word_of old → IsReadableSide word_of new
  emitted_readable sender x first bytes old new log more t r small h =
      subst (IsReadableSide word_of) (sym t.side) (given_to sender old.socket.endpoint_state.context.pack.word_of bytes old t.after t.takes r small h)

  came_readable : (x : End) (bytes : List ℕ) (old new : Side) (log more : List Entry) → MeetsForeignAt x bytes old new log more → IsReadableSide word_of old → IsReadableSide word_of new
  came_readable x bytes old new log more (given t j) h =
      subst (IsReadableSide word_of) (sym t.side) (refused_by old.socket.endpoint_state.context.pack.word_of bytes old t.after t.takes j h)
  came_readable x bytes old new log more (withheld j is logged) h = subst (IsReadableSide word_of) (sym is) h

-- ---- both ends

module _ {X : Type 0} (P : X → Type 0) where
  in_front : (xs ys : List X) (n : ℕ) → IfSome (slice_get (xs ++ ys) n) P → IfSome (slice_get xs n) P
  in_front [] ys n h = tt
  in_front (x ∷ xs) ys zero h = h
  in_front (x ∷ xs) ys (suc n) h = in_front xs ys n h

bytes_at : (side : Side) (packet : ℕ) (bytes : List ℕ) → slice_get side.packets packet ≡ Some bytes → IfSome (slice_get side.packets packet) AreBytes → AreBytes bytes
bytes_at side packet bytes e h = subst (λ (o : Option (List ℕ)). IfSome o AreBytes) e h

module _ (f g : List ℕ → ℕ) where
  given_readable : (x : End) (packet : ℕ) (w v : World) → Gives x packet w v → GivesBytes w (Give packet x) → IsReadable f g w → IsReadable f g v
  given_readable A packet w v e small h = record {
    a = emitted_readable f g A _ e.bytes w.a v.a w.log v.log e.takes_bytes (all_get (CanBeReadBack g) w.b.packets packet e.bytes e.there h.b.packets)
        (bytes_at w.b packet e.bytes e.there small) h.a;
    b = subst (IsReadableSide g) (sym e.other_side) h.b;
  }
  given_readable B packet w v e small h = record {
    a = subst (IsReadableSide f) (sym e.other_side) h.a;
    b = emitted_readable g f B _ e.bytes w.b v.b w.log v.log e.takes_bytes (all_get (CanBeReadBack f) w.a.packets packet e.bytes e.there h.a.packets)
        (bytes_at w.a packet e.bytes e.there small) h.b;
  }

  foreign_readable : (x : End) (bytes : List ℕ) (w v : World) → MeetsForeign x bytes w v → IsReadable f g w → IsReadable f g v
  foreign_readable A bytes w v e h = record { a = came_readable f A bytes w.a v.a w.log v.log e.comes h.a; b = subst (IsReadableSide g) (sym e.other_side) h.b }
  foreign_readable B bytes w v e h = record { a = subst (IsReadableSide f) (sym e.other_side) h.a; b = came_readable g B bytes w.b v.b w.log v.log e.comes h.b }

pub happens_readable : EachActionKeepsWorldsReadable
happens_readable f g (CallOf A call) w v e fits small h =
    subst (IsReadable f g) (sym e) (record { a = call_readable f (table_call call) w.a fits h.a; b = h.b })
happens_readable f g (CallOf B call) w v e fits small h =
    subst (IsReadable f g) (sym e) (record { a = h.a; b = call_readable g (table_call call) w.b fits h.b })
happens_readable f g (Give packet x) w v e fits small h = given_readable f g x packet w v e small h
happens_readable f g (GiveForeign x bytes) w v e fits small h = foreign_readable f g x bytes w v e h
happens_readable f g (AdvanceTime A now) w v e fits small h =
    subst (IsReadable f g) (sym e) (record { a = call_readable f (table.Advance now) w.a tt h.a; b = h.b })
happens_readable f g (AdvanceTime B now) w v e fits small h =
    subst (IsReadable f g) (sym e) (record { a = h.a; b = call_readable g (table.Advance now) w.b tt h.b })

-- ---- packets that are bytes at last were bytes before

abbrev WereBytes : (old new : Side) → Type 0
WereBytes old new = (packet : ℕ) → IfSome (slice_get new.packets packet) AreBytes → IfSome (slice_get old.packets packet) AreBytes

record Before (w v : World) : Type 0 where
  a : WereBytes w.a v.a
  b : WereBytes w.b v.b

settled_before : (side : Side) (s : Endpoint (List ℕ)) → WereBytes side (take_emitted side s)
settled_before side s packet h = in_front AreBytes side.packets (packets_in s.endpoint_state.context.emitted.events) packet h

same_before : (old new : Side) → new ≡ old → WereBytes old new
same_before old new e packet h = subst (λ (side : Side). IfSome (slice_get side.packets packet) AreBytes) e h

emitted_before : (x : End) (first : Entry) (bytes : List ℕ) (old new : Side) (log more : List Entry) → TakesBytes x first bytes old new log more → WereBytes old new
emitted_before x first bytes old new log more t packet h =
    settled_before old t.after packet (same_before (take_emitted old t.after) new t.side packet h)

came_before : (x : End) (bytes : List ℕ) (old new : Side) (log more : List Entry) → MeetsForeignAt x bytes old new log more → WereBytes old new
came_before x bytes old new log more (given t j) = emitted_before x _ bytes old new log more t
came_before x bytes old new log more (withheld j is logged) = same_before old new is

one_before : (action : Action) (w v : World) → Happens action w v → Before w v
one_before (CallOf A call) w v e = subst (Before w) (sym e) (record { a = settled_before w.a (after_call call w.a.socket); b = same_before w.b w.b refl })
one_before (CallOf B call) w v e = subst (Before w) (sym e) (record { a = same_before w.a w.a refl; b = settled_before w.b (after_call call w.b.socket) })
one_before (Give packet A) w v e = record { a = emitted_before A _ e.bytes w.a v.a w.log v.log e.takes_bytes; b = same_before w.b v.b e.other_side }
one_before (Give packet B) w v e = record { a = same_before w.a v.a e.other_side; b = emitted_before B _ e.bytes w.b v.b w.log v.log e.takes_bytes }
one_before (GiveForeign A bytes) w v e = record { a = came_before A bytes w.a v.a w.log v.log e.comes; b = same_before w.b v.b e.other_side }
one_before (GiveForeign B bytes) w v e = record { a = same_before w.a v.a e.other_side; b = came_before B bytes w.b v.b w.log v.log e.comes }
one_before (AdvanceTime A now) w v e = subst (Before w) (sym e) (record { a = settled_before w.a (after_time now w.a.socket); b = same_before w.b w.b refl })
one_before (AdvanceTime B now) w v e = subst (Before w) (sym e) (record { a = same_before w.a w.a refl; b = settled_before w.b (after_time now w.b.socket) })

all_before : (actions : List Action) (w v : World) → Runs actions w v → Before w v
all_before [] w v e = record { a = same_before w.a v.a (ap (λ (u : World). u.a) e); b = same_before w.b v.b (ap (λ (u : World). u.b) e) }
all_before (action ∷ actions) w v r =
    let first : Before w r.0 = one_before action w r.0 r.1 in
    let rest : Before r.0 v = all_before actions r.0 v r.2 in
    record { a = λ packet h. first.a packet (rest.a packet h); b = λ packet h. first.b packet (rest.b packet h) }

gives_before : (action : Action) (w v : World) → Before w v → GivesBytes v action → GivesBytes w action
gives_before (CallOf x call) w v k h = tt
gives_before (Give packet A) w v k h = k.b packet h
gives_before (Give packet B) w v k h = k.a packet h
gives_before (GiveForeign x bytes) w v k h = tt
gives_before (AdvanceTime x now) w v k h = tt

pub runs_readable : RunsKeepWorldsReadable
runs_readable f g [] w v e fits small h = subst (IsReadable f g) (sym e) h
runs_readable f g (action ∷ actions) w v r fits small h =
    runs_readable f g actions r.0 v r.2 fits.1 small.1
    (happens_readable f g action w r.0 r.1 fits.0 (gives_before action w v (all_before (action ∷ actions) w v r) small.0) h)

-- ---- a new world

fresh_readable : (word_of : List ℕ → ℕ) (o : Options) (draws : Stream) → OptionsFit o → IsReadableSide word_of (fresh_side o draws word_of)
fresh_readable word_of o draws fits = record { own = refl; sound = is_new o (writing word_of) draws fits; taken = refl; packets = All-nil (CanBeReadBack word_of) }

pub new_readable : NewWorldsAreReadable
new_readable oa ob a b f g fits_a fits_b = record { a = fresh_readable f oa a fits_a; b = fresh_readable g ob b fits_b }
