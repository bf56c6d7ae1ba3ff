-- Channels that become others step by step, and what their owner is told meanwhile.
use Rattle.std.proofs.Common.{◌≡◌, Some, ℕ, suc, ◌+◌, ◌<◌, List, [], ◌∷◌, ◌++◌, length, drop, get_or, map, add-one, drop-cons, refl, sym, ap, subst, ◌∙◌, arith, All, Bool, true, cond, nat_lt}
use Rattle.std.proofs.lemmas.Grind.{flat_map-append}
use Rattle.std.proofs.lemmas.List.{append-nil, append_assoc, nil_from_length}
use Rattle.std.specs.List.{flat_map}
use Rattle.sctp_serial.specs.Messages.{Message}
use Rattle.sctp_serial.specs.declared.api.StreamId.{StreamId}
use Rattle.sctp_state.specs.Events as sockets
use Rattle.sctp_state.specs.Events.{numbers_of}
use Rattle.sctp_channels.specs.Channels as table
use Rattle.sctp_channels.specs.Channels.{Channels, Output, emit, tell_message, end_missing, tell_end, where_there, with_entries}
use Rattle.sctp_channels.specs.declared.payload.PayloadKind.{PayloadKind}
use Rattle.sctp_channels.specs.declared.event.ChannelEvent.{ChannelEvent}
use Rattle.sctp_channels.specs.Steps.{DataChannels, Does, Event, Follows, Gets, Runs, StaysTold, Step, acknowledged_by, acknowledged_by_all, answers, buffers, carries_out, closed_by, counts, each, event_of, gets, heard, hears, is_low, of_channels, of_socket, passed_on, passes_on, refuses, told_by, with_channels, with_outputs}
use Rattle.std.proofs.lemmas.List.Elements.{All-head, All-tail}
use Rattle.std.proofs.lemmas.Bool.Decides.{nat_tests}
use Rattle.sctp_channels.specs.Entries.{channel_at, forget}

-- ---- steps

runs_more : (ss ts : List Step) (c d e : DataChannels) → Runs ss c d → Runs ts d e → Runs (ss ++ ts) c e
runs_more [] ts c d e r t = subst (λ (x : DataChannels). Runs ts x e) (sym r) t
runs_more (s ∷ ss) ts c d e r t = (r.0, r.1, runs_more ss ts r.0 d e r.2 t)

pub follows_then : (c d e : DataChannels) → Follows c d → Follows d e → Follows c e
follows_then c d e f g = record {
  steps = f.steps ++ g.steps;
  runs = runs_more f.steps g.steps c d e f.runs g.runs;
  closes_none = flat_map-append closed_by f.steps g.steps ∙ ap (λ (ids : List ℕ). ids ++ flat_map closed_by g.steps) f.closes_none ∙ g.closes_none;
}

pub follows_same : (d e : DataChannels) → e ≡ d → Follows d e
follows_same d e same = record { steps = []; runs = sym same; closes_none = refl }

one_step : (s : Step) (d e : DataChannels) → closed_by s ≡ [] → Does s d e → Follows d e
one_step s d e none does = record { steps = s ∷ []; runs = (e, does, refl); closes_none = append-nil (closed_by s) ∙ none }

pub follows_gets : (m : Message) (d e : DataChannels) → Gets m d e → Follows d e
follows_gets m d e got = one_step (gets m) d e refl got

pub follows_hears : (event : sockets.Event (List ℕ)) (d e : DataChannels) → e ≡ heard event d → Follows d e
follows_hears event d e is = one_step (hears event) d e refl is

pub follows_passes : (event : sockets.Event (List ℕ)) (told : Event) (d e : DataChannels) → Some told ≡ passed_on event → e ≡ record d { events = d.events ++ told ∷ [] } → Follows d e
follows_passes event told d e left done = one_step (passes_on event) d e refl (record { told = told; left = sym left; done = done })

-- a packet, which concerns no channel, was told
pub packet_told : (bytes : List ℕ) (d e : DataChannels) → e ≡ record d { events = d.events ++ of_socket (sockets.SendPacket bytes) ∷ [] } → Follows d e
packet_told bytes d e is =
    follows_then d d e (follows_hears (sockets.SendPacket bytes) d d refl) (follows_passes (sockets.SendPacket bytes) (of_socket (sockets.SendPacket bytes)) d e refl is)

pub follows_counts : (n : ℕ) (d e : DataChannels) → e ≡ with_channels (record d.channels { stream_count = n }) d → Follows d e
follows_counts n d e is = one_step (counts n) d e refl is

pub follows_drains : (id buffered : ℕ) (d e : DataChannels) → e ≡ with_channels (table.drain id buffered d.channels) d → Follows d e
follows_drains id buffered d e is = one_step (buffers id buffered) d e refl is

pub follows_refuses : (ids : List ℕ) (d e : DataChannels) → e ≡ with_channels (each table.on_reset_denied ids d.channels) d → Follows d e
follows_refuses ids d e is = one_step (refuses ids) d e refl is

abbrev made_of : Channels → (peer_limit buffer_limit : ℕ) → List Event → List ℕ → DataChannels
made_of cs peer_limit buffer_limit events waiting = record { channels = cs; peer_limit = peer_limit; buffer_limit = buffer_limit; events = events; unanswered = waiting }

-- the same where the channels alone are looked at
pub refuses_within : (ids : List ℕ) (old new : Channels) (peer_limit buffer_limit : ℕ) (events : List Event) (waiting : List ℕ) (d : DataChannels)
    → made_of old peer_limit buffer_limit events waiting ≡ d → new ≡ each table.on_reset_denied ids old → Follows d (made_of new peer_limit buffer_limit events waiting)
refuses_within ids old new peer_limit buffer_limit events waiting d is row =
    subst (λ (x : DataChannels). Follows x (made_of new peer_limit buffer_limit events waiting)) is
    (follows_refuses ids (made_of old peer_limit buffer_limit events waiting) (made_of new peer_limit buffer_limit events waiting)
    (ap (λ (cs : Channels). made_of cs peer_limit buffer_limit events waiting) row))

pub follows_carried : (d e : DataChannels) → e ≡ with_outputs d → Follows d e
follows_carried d e is = one_step carries_out d e refl is

pub follows_answers : (answered rest : List ℕ) (d e : DataChannels) → d.unanswered ≡ answered ++ rest → e ≡ record d { unanswered = rest } → Follows d e
follows_answers answered rest d e waiting done = one_step answers d e refl (record { answered = answered; rest = rest; waiting = waiting; done = done })

-- ---- what is told

pub told_then : (c d e : DataChannels) → StaysTold c d → StaysTold d e → StaysTold c e
told_then c d e s t = record { more = s.more ++ t.more; events = t.events ∙ ap (λ (xs : List Event). xs ++ t.more) s.events ∙ append_assoc c.events s.more t.more }

pub told_same : (d e : DataChannels) → e.events ≡ d.events → StaysTold d e
told_same d e same = record { more = []; events = same ∙ sym (append-nil d.events) }

pub told_more : (d e : DataChannels) (event : Event) → e ≡ record d { events = d.events ++ event ∷ [] } → StaysTold d e
told_more d e event is = record { more = event ∷ []; events = ap (λ (x : DataChannels). x.events) is }

-- ---- what is taken out again

pub follows_told : (told : List Event) (c d e : DataChannels) → Follows c d → d ≡ record e { events = told ++ e.events } → Follows c (record e { events = told ++ e.events })
follows_told told c d e f is = subst (Follows c) is f

pub told_first : (told : List Event) (c d e : DataChannels) → StaysTold c d → d ≡ record e { events = told ++ e.events } → StaysTold c (record e { events = told ++ e.events })
told_first told c d e s is = subst (StaysTold c) is s

pub follows_none : (d : DataChannels) → Follows d (record d { events = [] ++ d.events })
follows_none d = follows_same d (record d { events = [] ++ d.events }) refl

pub told_none : (d : DataChannels) → StaysTold d (record d { events = [] ++ d.events })
told_none d = told_same d (record d { events = [] ++ d.events }) refl

pub nothing_told : (items : List ChannelEvent) → length items ≡ 0 → map event_of items ≡ []
nothing_told items none = ap (λ (xs : List ChannelEvent). map event_of xs) (nil_from_length items none)

-- ---- an event that is passed on at once, where nothing waits in front of it

at_once : (told : Event) (d : DataChannels) → d.events ≡ [] → record d { events = told ∷ d.events } ≡ record d { events = d.events ++ told ∷ [] }
at_once told d none =
    ap (λ (xs : List Event). record d { events = told ∷ xs }) none ∙ sym (ap (λ (xs : List Event). record d { events = xs ++ told ∷ [] }) none)

passed_at_once : (event : sockets.Event (List ℕ)) (told : Event) (d : DataChannels) → d ≡ heard event d → Some told ≡ passed_on event → d.events ≡ []
    → Follows d (record d { events = told ∷ d.events })
passed_at_once event told d unheard left none =
    follows_then d d (record d { events = told ∷ d.events }) (follows_hears event d d unheard)
    (follows_passes event told d (record d { events = told ∷ d.events }) left (at_once told d none))

pub packet_at_once : (bytes : List ℕ) (d : DataChannels) → d.events ≡ [] → Follows d (record d { events = of_socket (sockets.SendPacket bytes) ∷ d.events })
packet_at_once bytes d none = passed_at_once (sockets.SendPacket bytes) (of_socket (sockets.SendPacket bytes)) d refl refl none

pub low_at_once : (id : ℕ) (d : DataChannels) → d.events ≡ [] → Follows d (record d { events = is_low id ∷ d.events })
low_at_once id d none = passed_at_once (sockets.OnBufferedAmountLow id) (is_low id) d refl refl none

pub told_at_once : (told : Event) (d : DataChannels) → d.events ≡ [] → StaysTold d (record d { events = told ∷ d.events })
told_at_once told d none = told_more d (record d { events = told ∷ d.events }) told (at_once told d none)

-- ---- a row for each stream

pub each_one : (row : ℕ → Channels → Channels) (ids : List StreamId) (i : ℕ) (none : StreamId) (cs more : Channels) → i < length ids → more ≡ row (get_or ids i none).0 cs
    → each row (numbers_of (drop (i + 1) ids)) more ≡ each row (numbers_of (drop i ids)) cs
each_one row ids i none cs more is after =
    ap (λ (k : ℕ). each row (numbers_of (drop k ids)) more) (add-one i)
    ∙ ap (each row (numbers_of (drop (suc i) ids))) after
    ∙ sym (ap (λ (xs : List StreamId). each row (numbers_of xs) cs) (drop-cons ids i none is))

pub each_with : (row : ℕ → Channels → Channels) (ids : List StreamId) (i : ℕ) (none : StreamId) (d e : DataChannels) → i < length ids
    → e ≡ with_channels (row (get_or ids i none).0 d.channels) d
    → with_channels (each row (numbers_of (drop (i + 1) ids)) e.channels) e ≡ with_channels (each row (numbers_of (drop i ids)) d.channels) d
each_with row ids i none d e is after =
    ap (λ (x : DataChannels). with_channels (each row (numbers_of (drop (i + 1) ids)) e.channels) x) after
    ∙ ap (λ (cs : Channels). with_channels cs d) (each_one row ids i none d.channels e.channels is (ap (λ (x : DataChannels). x.channels) after))

-- ---- outputs

abbrev with_output : Output → DataChannels → DataChannels
with_output o d = record d { events = d.events ++ told_by o; unanswered = acknowledged_by o d.unanswered }

abbrev with_told : Channels → DataChannels → List Event → List ℕ → DataChannels
with_told cs d told unanswered = record { channels = cs; peer_limit = d.peer_limit; buffer_limit = d.buffer_limit; events = told; unanswered = unanswered }

pub one_less : (o : Output) (d e : DataChannels) → d ≡ with_channels (record e.channels { outputs = o ∷ e.channels.outputs }) e → with_outputs (with_output o e) ≡ with_outputs d
one_less o d e is =
    ap (λ (told : List Event). with_told (record e.channels { outputs = [] }) e told (acknowledged_by_all e.channels.outputs (acknowledged_by o e.unanswered)))
    (append_assoc e.events (told_by o) (flat_map told_by e.channels.outputs))
    ∙ sym (ap with_outputs is)

pub none_left : (d : DataChannels) → d.channels.outputs ≡ [] → with_outputs d ≡ d
none_left d none =
    ap (λ (os : List Output). with_told (record d.channels { outputs = [] }) d (d.events ++ flat_map told_by os) (acknowledged_by_all os d.unanswered)) none
    ∙ ap (λ (told : List Event). with_told (record d.channels { outputs = [] }) d told d.unanswered) (append-nil d.events)
    ∙ ap (λ (os : List Output). with_told (record d.channels { outputs = os }) d d.events d.unanswered) (sym none)

pub carried_all : (first d e : DataChannels) → with_outputs d ≡ with_outputs first → d.channels.outputs ≡ [] → d ≡ with_channels (record e.channels { outputs = [] ++ e.channels.outputs }) e
    → e ≡ with_outputs first
carried_all first d e before none is = sym is ∙ sym (none_left d none) ∙ before

-- a message that was told and not put behind what is to be done, where nothing was
pub done_at_once : (id : ℕ) (kind : PayloadKind) (bytes : List ℕ) (d e : DataChannels) → d.channels.outputs ≡ []
    → e ≡ record d { events = d.events ++ of_channels (tell_message id kind bytes) ∷ [] } → e ≡ with_outputs (with_channels (emit (tell_message id kind bytes) d.channels) d)
done_at_once id kind bytes d e none is =
    let o = tell_message id kind bytes in
    is
    ∙ ap (λ (os : List Output). with_told (record d.channels { outputs = os }) d (d.events ++ of_channels o ∷ []) d.unanswered) none
    ∙ ap (λ (os : List Output). with_told (record d.channels { outputs = [] }) d (d.events ++ flat_map told_by (os ++ o ∷ [])) (acknowledged_by_all (os ++ o ∷ []) d.unanswered)) (sym none)

pub told_of_outputs : (o : Output) (d e : DataChannels) → d ≡ with_channels (record e.channels { outputs = o ∷ e.channels.outputs }) e → StaysTold d (with_output o e)
told_of_outputs o d e is = record { more = told_by o; events = ap (λ (x : DataChannels). x.events ++ told_by o) (sym is) }

pub no_outputs : (os : List Output) → length os ≡ 0 → os ≡ []
no_outputs os none = nil_from_length os none

pub all_carried : (d e : DataChannels) → e ≡ with_outputs d → e.channels.outputs ≡ []
all_carried d e is = ap (λ (x : DataChannels). x.channels.outputs) is

pub fewer : (o : Output) (d e f : DataChannels) → d ≡ with_channels (record e.channels { outputs = o ∷ e.channels.outputs }) e → f ≡ with_output o e
    → length f.channels.outputs < length d.channels.outputs
fewer o d e f is row =
    let more : length d.channels.outputs ≡ suc (length e.channels.outputs) = ap (λ (x : DataChannels). length x.channels.outputs) is in
    let same : length f.channels.outputs ≡ length e.channels.outputs = ap (λ (x : DataChannels). length x.channels.outputs) row in
    omega (arith, more, same)

-- ---- answers

pub answered_none : (all : List ℕ) → (answered : List ℕ) × (all ≡ answered ++ all)
answered_none all = ([], refl)

pub answered_more : (all front old new : List ℕ) → old ≡ front ++ new → (answered : List ℕ) × (all ≡ answered ++ old) → (answered : List ℕ) × (all ≡ answered ++ new)
answered_more all front old new is before = (before.0 ++ front, before.1 ∙ ap (λ (ids : List ℕ). before.0 ++ ids) is ∙ sym (append_assoc before.0 front new))

-- ---- the association has the streams of all channels

has_it : (id count : ℕ) → id < count → nat_lt id count ≡ true
has_it id count below = grind (arith, nat_tests, below)

pub none_missing : (ids : List ℕ) (cs : Channels) → All (λ id. id < cs.stream_count) ids → each end_missing ids cs ≡ cs
none_missing [] cs below = refl
none_missing (id ∷ ids) cs below =
    let first : id < cs.stream_count = All-head (λ id. id < cs.stream_count) id ids below in
    let rest : All (λ id. id < cs.stream_count) ids = All-tail (λ id. id < cs.stream_count) id ids below in
    let same : end_missing id cs ≡ cs =
    ap (λ (b : Bool). cond b cs (where_there (channel_at id cs.entries) (λ c. tell_end c.lifecycle id (with_entries (forget id cs.entries) cs)) cs)) (has_it id cs.stream_count first) in
    ap (λ (x : Channels). each end_missing ids x) same ∙ none_missing ids cs rest
