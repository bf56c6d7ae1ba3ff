-- What is told of what the other end accepted, step by step.
use Rattle.std.proofs.Common.{◌≡◌, inl, inr, ℕ, ◌+◌, ◌≤◌, ◌∙◌, nat_lt, cond, Bool, true, false, ◌||◌, Option, Some, None, List, [], ◌∷◌, ◌++◌, length, map, refl, sym, ap, subst, arith, le-ltb}
use Rattle.std.specs.Prelude.{All, IfSome, option_map, slice_get, unwrap_or}
use Rattle.std.specs.List.{flat_map}
use Rattle.std.specs.Map.{keys_of}
use Rattle.std.proofs.lemmas.Grind.{flat_map-append}
use Rattle.std.proofs.lemmas.List.{append-nil, append_assoc}
use Rattle.std.proofs.lemmas.List.Elements.{All-get_or}
use Rattle.std.proofs.lemmas.Option.{slice_get_within, unwrap_or-slice_get}
use Rattle.sctp_serial.specs.Messages.{Message}
use Rattle.sctp_state.specs.Events as sockets
use Rattle.sctp_channels.specs.Channel.{Channel, Received, exceeds, message, on_data, received, take_if, taken_if}
use Rattle.sctp_channels.specs.Channels.{Channels, OnControl, OnMessage, Output, acknowledge, change, data_from, emit, end_missing, hand, limit_of, on_ack, on_incoming_reset, on_reset_denied, on_reset_performed, on_payload, prioritize, reset, tell_closed, tell_message, tell_opened, tell_refused}
use Rattle.sctp_channels.specs.Steps.{DataChannels, Does, Event, Gets, PassesOn, Step, answers, buffers, carries_out, closes, counts, each, gets, heard, hears, named, passed_on, passes_on, refuses, told_by, with_outputs}
use Rattle.sctp_channels.specs.Entries.{channel_at}
use Rattle.sctp_channels.specs.Lifecycle.{takes_data}
use Rattle.sctp_channels.specs.Payload.{data_payload, data_ppid, protocol_of}
use Rattle.sctp_channels.specs.Runs.{Content}
use Rattle.sctp_channels.specs.TwoEnds.{AreAccepted, AreWhole, HasNoParts, IsShort, Offer, WhatIsToldWasAccepted, chosen, content_of, contents_at, got_by, message_in, of_opening, of_owner, offered_as, to_tell, told_in}
use Rattle.sctp_channels.specs.declared.output.Refusal.TheVariants.{NoChannel}
use Rattle.sctp_channels.specs.declared.payload.PayloadKind.{PayloadKind}
use Rattle.sctp_channels.specs.declared.payload.PayloadKind.TheVariants.{Text, Binary}
use Rattle.sctp_channels.specs.declared.payload.PayloadProtocol.{PayloadProtocol}
use Rattle.sctp_channels.specs.declared.payload.PayloadProtocol.TheVariants.{Data, Empty}
use Rattle.sctp_channels.proofs.QuietLemmas.{IsQuiet, acknowledged, all_end, at_place, changes, closes as closing, denies, drains, each_row, emits, ends_missing, establishes, performs, resets, turns_down}

-- ---- equations between lists and options

no_some : {A : Type 0} (x : A) → None ≡ Some x → ⊥
no_some x e = cc

no_cons : {A : Type 0} (x : A) (xs : List A) → [] ≡ x ∷ xs → ⊥
no_cons x xs e = cc

abbrev first_or : {A : Type 0} → A → List A → A
first_or x [] = x
first_or x (y ∷ ys) = y

abbrev rest_of : {A : Type 0} → List A → List A
rest_of [] = []
rest_of (y ∷ ys) = ys

-- ---- data comes

-- at most these contents are told
record Comes (old new : Channels) (xs : List Content) : Type 0 where
  limit : new.limit ≡ old.limit
  whole : AreWhole new
  choice : Bool
  told : flat_map message_in new.outputs ≡ flat_map message_in old.outputs ++ chosen (choice ∷ []) xs

-- where no message waits for a part, this payload is a whole message
record IsMessage (limit : ℕ) (protocol : PayloadProtocol) (payload : List ℕ) (kind : PayloadKind) (bytes : List ℕ) : Type 0 where
  limits : (parts : ℕ) (cs : Channels) → limit_of protocol parts cs ≡ cs.limit
  hands : (c : Channel) → HasNoParts c → received limit protocol payload c ≡ message kind bytes
  keeps : (c : Channel) → HasNoParts c → HasNoParts (on_data limit protocol payload c)

fits : (limit : ℕ) (bytes : List ℕ) (c : Channel) → HasNoParts c → length bytes ≤ limit → exceeds limit (length bytes) c ≡ false
fits limit bytes c h short =
    ap (λ (b : Bool). b || nat_lt limit (length c.parts + length bytes)) h.is_whole
    ∙ le-ltb limit (length c.parts + length bytes) (omega (arith, short, ap (λ (parts : List ℕ). length parts) h.parts))

taken_whole : (limit : ℕ) (kind : PayloadKind) (bytes : List ℕ) (c : Channel) → HasNoParts c → length bytes ≤ limit
    → taken_if (exceeds limit (length bytes) c) kind bytes c ≡ message kind bytes
taken_whole limit kind bytes c h short =
    ap (λ (b : Bool). taken_if b kind bytes c) (fits limit bytes c h short) ∙ ap (λ (parts : List ℕ). message kind (parts ++ bytes)) h.parts

stays_whole : (limit : ℕ) (bytes : List ℕ) (c : Channel) → HasNoParts c → length bytes ≤ limit → HasNoParts (take_if (exceeds limit (length bytes) c) bytes c)
stays_whole limit bytes c h short = subst (λ (b : Bool). HasNoParts (take_if b bytes c)) (sym (fits limit bytes c h short)) (record { parts = refl; is_whole = h.is_whole })

data_is : (limit : ℕ) (kind : PayloadKind) (bytes : List ℕ) → length bytes ≤ limit → IsMessage limit (Data kind) bytes kind bytes
data_is limit kind bytes short = record { limits = λ parts cs. refl; hands = λ c h. taken_whole limit kind bytes c h short; keeps = λ c h. stays_whole limit bytes c h short }

empty_is : (limit : ℕ) (kind : PayloadKind) (payload : List ℕ) → IsMessage limit (Empty kind) payload kind []
empty_is limit kind payload = record { limits = λ parts cs. refl; hands = λ c h. taken_whole limit kind [] c h (omega arith); keeps = λ c h. stays_whole limit [] c h (omega arith) }

refused : (id : ℕ) (x : Content) (cs : Channels) → AreWhole cs → Comes cs (emit (tell_refused id NoChannel) cs) (x ∷ [])
refused id x cs w = record {
  limit = refl;
  whole = w;
  choice = false;
  told = (emits (tell_refused id NoChannel) cs refl).told ∙ sym (append-nil (flat_map message_in cs.outputs));
}

handed_on : (id : ℕ) (protocol : PayloadProtocol) (payload : List ℕ) (kind : PayloadKind) (bytes : List ℕ) (c : Channel) (cs : Channels) → IsMessage cs.limit protocol payload kind bytes
    → HasNoParts c → AreWhole cs
    → Comes cs (hand (received (limit_of protocol (length c.parts) cs) protocol payload c) id (change (on_data (limit_of protocol (length c.parts) cs) protocol payload) id cs))
    (record { stream = id; kind = kind; bytes = bytes } ∷ [])
handed_on id protocol payload kind bytes c cs is h w =
    subst (λ (limit : ℕ). Comes cs (hand (received limit protocol payload c) id (change (on_data limit protocol payload) id cs)) (record { stream = id; kind = kind; bytes = bytes } ∷ []))
    (sym (is.limits (length c.parts) cs))
    (subst (λ (r : Received). Comes cs (hand r id (change (on_data cs.limit protocol payload) id cs)) (record { stream = id; kind = kind; bytes = bytes } ∷ [])) (sym (is.hands c h))
    (record {
      limit = refl;
      whole = (changes (on_data cs.limit protocol payload) id cs is.keeps).whole w;
      choice = true;
      told = flat_map-append message_in cs.outputs (tell_message id kind bytes ∷ []);
    }))

data_comes_if : (takes : Bool) (id : ℕ) (protocol : PayloadProtocol) (payload : List ℕ) (kind : PayloadKind) (bytes : List ℕ) (c : Channel) (cs : Channels)
    → IsMessage cs.limit protocol payload kind bytes → HasNoParts c → AreWhole cs
    → Comes cs (cond takes (hand (received (limit_of protocol (length c.parts) cs) protocol payload c) id (change (on_data (limit_of protocol (length c.parts) cs) protocol payload) id cs))
    (emit (tell_refused id NoChannel) cs))
    (record { stream = id; kind = kind; bytes = bytes } ∷ [])
data_comes_if true id protocol payload kind bytes c cs is h w = handed_on id protocol payload kind bytes c cs is h w
data_comes_if false id protocol payload kind bytes c cs is h w = refused id (record { stream = id; kind = kind; bytes = bytes }) cs w

data_comes : (o : Option Channel) (id : ℕ) (protocol : PayloadProtocol) (payload : List ℕ) (kind : PayloadKind) (bytes : List ℕ) (cs : Channels)
    → IsMessage cs.limit protocol payload kind bytes → IfSome o HasNoParts → AreWhole cs
    → Comes cs (data_from o id protocol payload cs) (record { stream = id; kind = kind; bytes = bytes } ∷ [])
data_comes None id protocol payload kind bytes cs is h w = refused id (record { stream = id; kind = kind; bytes = bytes }) cs w
data_comes (Some c) id protocol payload kind bytes cs is h w = data_comes_if (takes_data c.lifecycle) id protocol payload kind bytes c cs is h w

payload_comes : (id : ℕ) (protocol : PayloadProtocol) (payload : List ℕ) (kind : PayloadKind) (bytes : List ℕ) (cs new : Channels)
    → IsMessage cs.limit protocol payload kind bytes → AreWhole cs → new ≡ on_payload id protocol payload cs → Comes cs new (record { stream = id; kind = kind; bytes = bytes } ∷ [])
payload_comes id protocol payload kind bytes cs new is w e =
    let acked = on_ack id cs in
    let quiet = acknowledged id cs in
    let whole = quiet.whole w in
    let is_too = subst (λ (limit : ℕ). IsMessage limit protocol payload kind bytes) (sym quiet.limit) is in
    let comes = data_comes (channel_at id acked.entries) id protocol payload kind bytes acked is_too (at_place id acked.entries (channel_at id acked.entries) refl whole) whole in
    subst (λ (x : Channels). Comes cs x (record { stream = id; kind = kind; bytes = bytes } ∷ [])) (sym e)
    (record {
      limit = comes.limit ∙ quiet.limit;
      whole = comes.whole;
      choice = comes.choice;
      told = comes.told ∙ ap (λ (ms : List Content). ms ++ chosen (comes.choice ∷ []) (record { stream = id; kind = kind; bytes = bytes } ∷ [])) quiet.told;
    })

message_comes : (kind : PayloadKind) (bytes : List ℕ) (id : ℕ) (cs new : Channels) → length bytes ≤ cs.limit → AreWhole cs
    → OnMessage (protocol_of (data_ppid kind bytes)) id (data_payload bytes) cs new → Comes cs new (record { stream = id; kind = kind; bytes = bytes } ∷ [])
message_comes Text [] id cs new short w row = payload_comes id (Empty Text) (0 ∷ []) Text [] cs new (empty_is cs.limit Text (0 ∷ [])) w row
message_comes Text (b ∷ bytes) id cs new short w row = payload_comes id (Data Text) (b ∷ bytes) Text (b ∷ bytes) cs new (data_is cs.limit Text (b ∷ bytes) short) w row
message_comes Binary [] id cs new short w row = payload_comes id (Empty Binary) (0 ∷ []) Binary [] cs new (empty_is cs.limit Binary (0 ∷ [])) w row
message_comes Binary (b ∷ bytes) id cs new short w row = payload_comes id (Data Binary) (b ∷ bytes) Binary (b ∷ bytes) cs new (data_is cs.limit Binary (b ∷ bytes) short) w row

silently : (cs new : Channels) → IsQuiet cs new → AreWhole cs → Comes cs new []
silently cs new quiet w = record { limit = quiet.limit; whole = quiet.whole w; choice = false; told = quiet.told ∙ sym (append-nil (flat_map message_in cs.outputs)) }

opening_comes : (id : ℕ) (payload : List ℕ) (cs new : Channels) → AreWhole cs → OnControl id payload cs new → Comes cs new []
opening_comes id payload cs new w (inl is) = silently cs new (subst (IsQuiet cs) (sym is.2) (establishes id is.0 cs)) w
opening_comes id payload cs new w (inr is) = silently cs new (subst (IsQuiet cs) (sym is.3) (turns_down id _ cs)) w

offer_comes : (o : Offer) (cs new : Channels) → IsShort cs.limit o → AreWhole cs → OnMessage (protocol_of (offered_as o).ppid) (offered_as o).stream (offered_as o).payload cs new
    → Comes cs new (content_of (Some o))
offer_comes (of_owner m) cs new short w row = message_comes m.kind m.bytes m.stream cs new short w row
offer_comes (of_opening stream payload) cs new short w row = opening_comes stream payload cs new w row

-- ---- a step

record Tells (d e : DataChannels) (xs : List Content) : Type 0 where
  limit : e.channels.limit ≡ d.channels.limit
  whole : AreWhole e.channels
  choice : Bool
  told : to_tell e ≡ to_tell d ++ chosen (choice ∷ []) xs

got_one : (o : Offer) (m : Message) (d e : DataChannels) → offered_as o ≡ m → IsShort d.channels.limit o → AreWhole d.channels → Gets m d e → Tells d e (content_of (Some o))
got_one o m d e is short w got =
    let comes = offer_comes o d.channels got.channels short w (subst (λ (x : Message). OnMessage (protocol_of x.ppid) x.stream x.payload d.channels got.channels) (sym is) got.row) in
    subst (λ (x : DataChannels). Tells d x (content_of (Some o))) (sym got.done)
    (record {
      limit = comes.limit;
      whole = comes.whole;
      choice = comes.choice;
      told = ap (λ (ms : List Content). flat_map told_in d.events ++ ms) comes.told
          ∙ sym (append_assoc (flat_map told_in d.events) (flat_map message_in d.channels.outputs) (chosen (comes.choice ∷ []) (content_of (Some o))));
    })

-- nothing is told
record Stays (d e : DataChannels) : Type 0 where
  limit : e.channels.limit ≡ d.channels.limit
  whole : AreWhole d.channels → AreWhole e.channels
  told : to_tell e ≡ to_tell d

by_row : (d : DataChannels) (cs : Channels) (waiting : List ℕ) → IsQuiet d.channels cs → Stays d (record d { channels = cs; unanswered = waiting })
by_row d cs waiting quiet = record { limit = quiet.limit; whole = quiet.whole; told = ap (λ (ms : List Content). flat_map told_in d.events ++ ms) quiet.told }

unchanged : (d : DataChannels) → Stays d d
unchanged d = record { limit = refl; whole = λ w. w; told = refl }

hears_it : (event : sockets.Event (List ℕ)) (d : DataChannels) → Stays d (heard event d)
hears_it (sockets.OnIncomingStreamReset ids) d = by_row d (each on_incoming_reset (named ids d.channels) d.channels) d.unanswered (each_row on_incoming_reset resets (named ids d.channels) d.channels)
hears_it (sockets.OnStreamsResetPerformed ids) d = by_row d (each on_reset_performed ids d.channels) d.unanswered (each_row on_reset_performed performs ids d.channels)
hears_it (sockets.OnStreamsResetFailed ids) d = by_row d (each on_reset_denied ids d.channels) d.unanswered (each_row on_reset_denied denies ids d.channels)
hears_it sockets.OnClosed d = by_row d _ [] (all_end d.channels)
hears_it sockets.OnConnectionRestarted d = by_row d _ [] (all_end d.channels)
hears_it (sockets.OnAborted kind text) d = by_row d _ [] (all_end d.channels)
hears_it (sockets.SendPacket bytes) d = unchanged d
hears_it sockets.OnConnected d = by_row d (each end_missing (keys_of d.channels.entries) d.channels) d.unanswered (each_row end_missing ends_missing (keys_of d.channels.entries) d.channels)
hears_it (sockets.OnError kind text) d = unchanged d
hears_it (sockets.OnBufferedAmountLow id) d = unchanged d
hears_it sockets.OnTotalBufferedAmountLow d = unchanged d
hears_it (sockets.OnLifecycleMessageFullySent id) d = unchanged d
hears_it (sockets.OnLifecycleMessageMaybeExpired id) d = unchanged d
hears_it (sockets.OnLifecycleMessageExpired id) d = unchanged d
hears_it (sockets.OnLifecycleMessageDelivered id) d = unchanged d
hears_it (sockets.OnLifecycleEnd id) d = unchanged d

no_message : (event : sockets.Event (List ℕ)) (t : Event) → passed_on event ≡ Some t → told_in t ≡ []
no_message (sockets.OnIncomingStreamReset ids) t e = absurd (no_some t e)
no_message (sockets.OnStreamsResetPerformed ids) t e = absurd (no_some t e)
no_message (sockets.OnStreamsResetFailed ids) t e = absurd (no_some t e)
no_message (sockets.OnBufferedAmountLow id) t e = sym (ap (λ (x : Option Event). told_in (unwrap_or x t)) e)
no_message event t e = sym (ap (λ (x : Option Event). told_in (unwrap_or x t)) e)

passes_it_on : (event : sockets.Event (List ℕ)) (d e : DataChannels) → PassesOn event d e → Stays d e
passes_it_on event d e p =
    subst (Stays d) (sym p.done)
    (record {
      limit = refl;
      whole = λ w. w;
      told = ap (λ (ms : List Content). ms ++ flat_map message_in d.channels.outputs)
          (flat_map-append told_in d.events (p.told ∷ [])
          ∙ ap (λ (ms : List Content). flat_map told_in d.events ++ (ms ++ [])) (no_message event p.told p.left)
          ∙ append-nil (flat_map told_in d.events));
    })

told_once : (o : Output) → flat_map told_in (told_by o) ≡ message_in o
told_once (acknowledge id) = refl
told_once (reset id) = refl
told_once (prioritize id priority) = refl
told_once (tell_opened id) = refl
told_once (tell_message id kind bytes) = refl
told_once (tell_closed id) = refl
told_once (tell_refused id why) = refl

told_all : (os : List Output) → flat_map told_in (flat_map told_by os) ≡ flat_map message_in os
told_all [] = refl
told_all (o ∷ os) =
    flat_map-append told_in (told_by o) (flat_map told_by os)
    ∙ ap (λ (ms : List Content). ms ++ flat_map told_in (flat_map told_by os)) (told_once o)
    ∙ ap (λ (ms : List Content). message_in o ++ ms) (told_all os)

carries : (d : DataChannels) → Stays d (with_outputs d)
carries d = record {
  limit = refl;
  whole = λ w. w;
  told = append-nil (flat_map told_in (d.events ++ flat_map told_by d.channels.outputs))
      ∙ flat_map-append told_in d.events (flat_map told_by d.channels.outputs)
      ∙ ap (λ (ms : List Content). flat_map told_in d.events ++ ms) (told_all d.channels.outputs);
}

-- ---- steps

abbrev Told : List Offer → List ℕ → DataChannels → DataChannels → Type 0
Told offers places d e = (choice : List Bool) × (to_tell e ≡ to_tell d ++ chosen choice (contents_at offers places))

-- after a step that tells nothing
stays_then : (d c e : DataChannels) (offers : List Offer) (places : List ℕ) → Stays d c → Told offers places c e → Told offers places d e
stays_then d c e offers places s t = (t.0, t.1 ∙ ap (λ (ms : List Content). ms ++ chosen t.0 (contents_at offers places)) s.told)

joined : (o : Offer) (b : Bool) (choice : List Bool) (rest : List Content)
    → (all : List Bool) × (chosen all (content_of (Some o) ++ rest) ≡ chosen (b ∷ []) (content_of (Some o)) ++ chosen choice rest)
joined (of_owner m) true choice rest = (true ∷ choice, refl)
joined (of_owner m) false choice rest = (false ∷ choice, refl)
joined (of_opening stream payload) b choice rest = (choice, refl)

tells_then : (o : Offer) (d c e : DataChannels) (offers : List Offer) (place : ℕ) (places : List ℕ) → slice_get offers place ≡ Some o → Tells d c (content_of (Some o)) → Told offers places c e
    → Told offers (place ∷ places) d e
tells_then o d c e offers place places is t rest =
    let all = joined o t.choice rest.0 (contents_at offers places) in (
      all.0,
      rest.1
          ∙ ap (λ (ms : List Content). ms ++ chosen rest.0 (contents_at offers places)) t.told
          ∙ append_assoc (to_tell d) (chosen (t.choice ∷ []) (content_of (Some o))) (chosen rest.0 (contents_at offers places))
          ∙ ap (λ (ms : List Content). to_tell d ++ ms) (sym all.1)
          ∙ ap (λ (x : Option Offer). to_tell d ++ chosen all.0 (content_of x ++ contents_at offers places)) (sym is),
    )

-- an element of a list has what all have
all_at : (limit : ℕ) (offers : List Offer) (i : ℕ) (o : Offer) → slice_get offers i ≡ Some o → All (IsShort limit) offers → IsShort limit o
all_at limit offers i o is all =
    subst (IsShort limit) (sym (unwrap_or-slice_get offers i o) ∙ ap (λ (x : Option Offer). unwrap_or x o) is) (All-get_or (IsShort limit) offers i o (slice_get_within offers i o is) all)

got_from : (found : Option Offer) (m : Message) (d c e : DataChannels) (offers : List Offer) (place : ℕ) (places : List ℕ) → slice_get offers place ≡ found → option_map offered_as found ≡ Some m
    → All (IsShort d.channels.limit) offers → AreWhole d.channels → Gets m d c
    → (c.channels.limit ≡ d.channels.limit → AreWhole c.channels → Told offers places c e) → Told offers (place ∷ places) d e
got_from None m d c e offers place places is came short w got rest = absurd (no_some m came)
got_from (Some o) m d c e offers place places is came short w got rest =
    let same : offered_as o ≡ m = ap (λ (x : Option Message). unwrap_or x m) came in
    let t = got_one o m d c same (all_at d.channels.limit offers place o is short) w got in
    tells_then o d c e offers place places is t (rest t.limit t.whole)

shorter : (offers : List Offer) (d c : DataChannels) → c.channels.limit ≡ d.channels.limit → All (IsShort d.channels.limit) offers → All (IsShort c.channels.limit) offers
shorter offers d c same short = subst (λ (limit : ℕ). All (IsShort limit) offers) (sym same) short

went_on : (d c e : DataChannels) (offers : List Offer) (places : List ℕ) → Stays d c → AreWhole d.channels → All (IsShort d.channels.limit) offers
    → (AreWhole c.channels → All (IsShort c.channels.limit) offers → Told offers places c e) → Told offers places d e
went_on d c e offers places s w short rest = stays_then d c e offers places s (rest (s.whole w) (shorter offers d c s.limit short))

-- what one step does, but for a message
does_quietly : (s : Step) (d c : DataChannels) → got_by s ≡ [] → Does s d c → Stays d c
does_quietly (gets m) d c none does = absurd (no_cons m [] (sym none))
does_quietly (hears event) d c none does = subst (Stays d) (sym does) (hears_it event d)
does_quietly (passes_on event) d c none does = passes_it_on event d c does
does_quietly (counts stream_count) d c none does = subst (Stays d) (sym does) (record { limit = refl; whole = λ w. w; told = refl })
does_quietly (buffers id buffered) d c none does = subst (Stays d) (sym does) (by_row d _ d.unanswered (drains id buffered d.channels))
does_quietly (refuses ids) d c none does = subst (Stays d) (sym does) (by_row d _ d.unanswered (each_row on_reset_denied denies ids d.channels))
does_quietly (closes id) d c none does = subst (Stays d) (sym does) (by_row d _ d.unanswered (closing id d.channels))
does_quietly carries_out d c none does = subst (Stays d) (sym does) (carries d)
does_quietly answers d c none does = subst (Stays d) (sym does.done) (record { limit = refl; whole = λ w. w; told = refl })

pub told_was_accepted : WhatIsToldWasAccepted
told_was_accepted [] d e r w offers places short came = ([], ap to_tell (sym r) ∙ sym (append-nil (to_tell d)))
told_was_accepted (gets m ∷ ss) d e r w offers [] short came = absurd (no_cons (Some m) (map (λ (x : Message). Some x) (flat_map got_by ss)) came)
told_was_accepted (gets m ∷ ss) d e r w offers (place ∷ places) short came =
    let first : option_map offered_as (slice_get offers place) ≡ Some m = ap (first_or None) came in
    let others : AreAccepted offers places (flat_map got_by ss) = ap rest_of came in
    got_from (slice_get offers place) m d r.0 e offers place places refl first short w r.1
    (λ same whole. told_was_accepted ss r.0 e r.2 whole offers places (shorter offers d r.0 same short) others)
told_was_accepted (s ∷ ss) d e r w offers places short came =
    went_on d r.0 e offers places (does_quietly s d r.0 refl r.1) w short (λ whole less. told_was_accepted ss r.0 e r.2 whole offers places less came)
