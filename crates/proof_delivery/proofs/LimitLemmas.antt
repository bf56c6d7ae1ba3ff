-- No message that is accepted is longer than its end's limit, which fits 32 bits as long as none is set that doesn't.
use Rattle.std.proofs.Common.{◌≡◌, ℕ, ◌^◌, ◌<◌, Bool, true, false, Option, Some, None, List, [], ◌∷◌, length, slice_get, All, refl, sym, ap, ◌∙◌, arith}
use Rattle.std.specs.Prelude.{nat_lt, nat_le}
use Rattle.std.specs.List.{list_any}
use Rattle.std.proofs.lemmas.Bool.Decides.{nat_tests}
use Rattle.std.proofs.lemmas.List.Elements.{All-nil, All-cons, All-append}
use Rattle.std.proofs.lemmas.Bool.{or_parts}
use Rattle.rand_core.specs.Stream.{Stream}
use Rattle.sctp_serial.specs.Messages.{Message}
use Rattle.sctp_packet.specs.Packet.{PacketTree}
use Rattle.sctp_state.specs.declared.api.SocketState.{SocketState}
use Rattle.sctp_state.specs.declared.api.errors.SendError.{SendError}
use Rattle.sctp_state.specs.Options.{Options, SendOptions}
use Rattle.spec_endpoint.specs.Association.{Context}
use Rattle.spec_endpoint.specs.Calls.{shown_state, send_refusal_by, send_refusal, offered, offer}
use Rattle.spec_endpoint.specs.Input as input
use Rattle.spec_endpoint.specs.Laws.{Call, Send, SendMany, SetMaxMessageSize, ReceivePacket, called}
use Rattle.spec_endpoint.specs.ResetRequests.{Outcome, Unsettled, Done, Denied, outcome}
use Rattle.spec_endpoint.specs.StreamReset.{on_outcome}
use Rattle.proof_endpoint.specs.Mapped.{Carried}
use Rattle.proof_endpoint.specs.Acts.{EndWithPacket, PacketAct, begins, adds_plain, emits, emits_error, counts, before_packets, after_packets, OpeningAct, connects, adds_init, answers_new, answers_waiting, answers_echoed, answers_again, echoes, adds_cookie, establishes, opens, restarts, opens_again, maintains, adds_cookie_ack, before_opening, after_opening, ClosingAct, closes, shuts, shuts_on, before_closing, after_closing, DataAct, takes_data, takes_idata, takes_forward, takes_iforward, before_data, after_data, SackAct, takes_sack, samples, counts_errors, before_sack, after_sack, SendingAct, asks, forces_ack, adds_ack, expires, adds_forward, forwards_later, asks_no_reset, asks_reset, adds_request, sends, sends_fast, before_sending, after_sending, TimeAct, advances, delay_ends, times_out, beats, times_init, times_cookie, times_request, times_items, wakes_request, before_time, after_time, CallAct, accepts, refuses, takes_message, sets_low_threshold, sets_priority, sets_max_message_size, before_call, after_call, ResetAct, prepares, defers, performs, processes, takes_response, adds_responses, before_reset, after_reset, HandoverAct, leaves, takes_up, before_handover, after_handover, InputAct, ends_packet, before_input, after_input, Preserves}
use Rattle.proof_pair.specs.Trace.{Side, Pair, emitted_packets, EndAction, Calls, Gives, Refuses, as_received, give_carried, foreign_if, act, goes, AreValidOptions, new_side, start, state_of}
use Rattle.proof_endpoint.proofs.ActsLemmas.{keeps_call}
use Rattle.proof_delivery.specs.Accepted.{AcceptedMessage, unless_refused, accepted_of, accepted_by, accepted_in, accepted_at, accepted}
use Rattle.proof_delivery.specs.Windows.{sets_more, KeepsLimits}

-- ---- an act

abbrev HasLimit : Context Carried → Type 0
HasLimit c = c.options.max_message_size < 2 ^ 32

abbrev Stays : (before after : EndWithPacket Carried) → Type 0
Stays a b = HasLimit a.context → HasLimit b.context

stays_outcome : (o : Outcome) (c : Context Carried) → HasLimit c → HasLimit (on_outcome o c)
stays_outcome Unsettled c l = l
stays_outcome (Done streams) c l = l
stays_outcome (Denied streams) c l = l

module _ (call : Call) (fits : (bytes : ℕ) → call ≡ SetMaxMessageSize bytes → bytes < 2 ^ 32) where
  stays_packets : (act : PacketAct Carried call) → Stays (before_packets act) (after_packets act)
  stays_packets (begins p m new summed to) l = l
  stays_packets (adds_plain chunk m plain others fair) l = l
  stays_packets (emits m some bundled) l = l
  stays_packets (emits_error kind text m) l = l
  stays_packets (counts m) l = l

  stays_opening : (act : OpeningAct Carried call) → Stays (before_opening act) (after_opening act)
  stays_opening (connects m is) l = l
  stays_opening (adds_init tag first t1 m to) l = l
  stays_opening (answers_new tag i m received to) l = l
  stays_opening (answers_waiting tag i my_tag first t1 m received to) l = l
  stays_opening (answers_echoed tag i t1 cookie t m received to) l = l
  stays_opening (answers_again tag i phase t m received late to) l = l
  stays_opening (echoes tag i cookie my_tag first t1 m received brought) l = l
  stays_opening (adds_cookie t1 cookie t m to) l = l
  stays_opening (establishes tag t1 cookie t m received) l = l
  stays_opening (opens tag k m echoed none own) l = l
  stays_opening (restarts tag k phase t m echoed verdict) l = l
  stays_opening (opens_again tag k phase t m echoed verdict) l = l
  stays_opening (maintains tag k t1 cookie t m echoed verdict) l = l
  stays_opening (adds_cookie_ack tag back phase t m echoed late) l = l

  stays_closing : (act : ClosingAct Carried call) → Stays (before_closing act) (after_closing act)
  stays_closing (closes e m there is) l = l
  stays_closing (shuts phase t m is early) l = l
  stays_closing (shuts_on phase next t m late later) l = l

  stays_data : (act : DataAct Carried call) → Stays (before_data act) (after_data act)
  stays_data (takes_data tag tsn is_immediate f phase t m received right some takes) l = l
  stays_data (takes_idata tag tsn is_immediate f phase t m received right some takes) l = l
  stays_data (takes_forward tag tsn skipped phase t m received right valid) l = l
  stays_data (takes_iforward tag tsn skipped phase t m received right valid) l = l

  stays_sack : (act : SackAct Carried call) → Stays (before_sack act) (after_sack act)
  stays_sack (takes_sack tag k phase t m received valid) l = l
  stays_sack (samples r phase t m) l = l
  stays_sack (counts_errors e m) l = l

  stays_sending : (act : SendingAct Carried call) → Stays (before_sending act) (after_sending act)
  stays_sending (asks also_if_delayed phase t m) l = l
  stays_sending (forces_ack phase t m) l = l
  stays_sending (adds_ack phase t m) l = l
  stays_sending (expires phase t m) l = l
  stays_sending (adds_forward phase t m due) l = l
  stays_sending (forwards_later n m) l = l
  stays_sending (asks_no_reset most m none) l = l
  stays_sending (asks_reset most stream streams phase t m some free) l = l
  stays_sending (adds_request r phase t m is) l = l
  stays_sending (sends phase t m) l = l
  stays_sending (sends_fast phase t m some) l = l

  stays_time : (act : TimeAct Carried call) → Stays (before_time act) (after_time act)
  stays_time (advances now m is on) l = l
  stays_time (delay_ends phase t m) l = l
  stays_time (times_out phase t m due) l = l
  stays_time (beats h m) l = l
  stays_time (times_init tag first old new m) l = l
  stays_time (times_cookie old new cookie t m) l = l
  stays_time (times_request timer phase t m) l = l
  stays_time (times_items timer phase t m) l = l
  stays_time (wakes_request phase t m) l = l

  stays_call : (act : CallAct Carried call) → Stays (before_call act) (after_call act)
  stays_call (accepts message o m offered fine) l = l
  stays_call (refuses message o e m offered refused) l = l
  stays_call (takes_message phase t m is) l = l
  stays_call (sets_low_threshold stream bytes m is) l = l
  stays_call (sets_priority stream priority m is) l = l
  stays_call (sets_max_message_size bytes m is) l = fits bytes is

  stays_reset : (act : ResetAct Carried call) → Stays (before_reset act) (after_reset act)
  stays_reset (prepares stream phase t m asked can) l = l
  stays_reset (defers number response last_tsn streams phase t m asked known ahead) l = l
  stays_reset (performs number response last_tsn streams phase t m asked known there) l = l
  stays_reset (processes number streams phase t m asked known) l = l
  stays_reset (takes_response rto number result sender receiver phase t m asked) l = stays_outcome (outcome number result t.requests.current) m.context l
  stays_reset (adds_responses responses phase t m are answers) l = l

  stays_handover : (act : HandoverAct Carried call) → Stays (before_handover act) (after_handover act)
  stays_handover (leaves phase t m is) l = l
  stays_handover (takes_up h m is valid) l = l

  stays_input : (act : InputAct Carried call) → Stays (before_input act) (after_input act)
  stays_input (ends_packet phase t m) l = l

  stays : Preserves call Stays
  stays = record {
    same = λ m l. l;
    through = λ f g l. g (f l);
    packets = stays_packets;
    opening = stays_opening;
    closing = stays_closing;
    data_acts = stays_data;
    acknowledging = stays_sack;
    sending = stays_sending;
    time = stays_time;
    calls = stays_call;
    resets = stays_reset;
    handover = stays_handover;
    input = stays_input;
  }

-- ---- an action

abbrev pub IsLimited : Side → Type 0
IsLimited x = HasLimit x.end.endpoint_state.context

limited_packet : (p : PacketTree) (x : Side) → IsLimited x → HasLimit (called (ReceivePacket p) x.end).endpoint_state.context
limited_packet p x l = keeps_call (ReceivePacket p) (stays (ReceivePacket p) (λ bytes e. absurd (differ bytes e))) x.end l
  where
    differ : (bytes : ℕ) → ReceivePacket p ≡ SetMaxMessageSize bytes → ⊥
    differ bytes e = cc

limited_given : (p : Option Carried) (checksum : ℕ) (x : Side) → IsLimited x → IsLimited (give_carried p checksum x)
limited_given None checksum x l = l
limited_given (Some p) checksum x l = limited_packet (as_received p checksum) x l

limited_foreign : (text : Option (List ℕ)) (p : PacketTree) (x : Side) → IsLimited x → IsLimited (foreign_if text p x)
limited_foreign None p x l = l
limited_foreign (Some text) p x l = limited_packet p x l

limited_action : (t : EndAction) (x y : Side) → sets_more t ≡ false → IsLimited x → IsLimited (act t x y)
limited_action (Calls call) x y h l = keeps_call call (stays call fits) x.end l
  where
    below : (bytes : ℕ) → nat_le (2 ^ 32) bytes ≡ false → bytes < 2 ^ 32
    below bytes e = grind (arith, nat_tests)

    fits : (bytes : ℕ) → call ≡ SetMaxMessageSize bytes → bytes < 2 ^ 32
    fits bytes e = below bytes (sym (ap (λ (c : Call). sets_more (Calls c)) e) ∙ h)
limited_action (Gives which checksum) x y h l = limited_given (slice_get (emitted_packets y) which) checksum x l
limited_action (Refuses p) x y h l = limited_foreign (input.packet_refusal p.header.verification_tag p.chunks (state_of x)) p x l

limited_goes : (acts : Bool) (t : EndAction) (w : Pair) → sets_more t ≡ false → IsLimited w.a → IsLimited w.b → IsLimited (goes acts t w).a × IsLimited (goes acts t w).b
limited_goes true t w h a b = (limited_action t w.a w.b h a, b)
limited_goes false t w h a b = (a, limited_action t w.b w.a h b)

-- ---- what is accepted

abbrev IsShort : AcceptedMessage → Type 0
IsShort o = length o.message.payload < 2 ^ 32

not_larger : (is_empty is_large is_late is_full : Bool) (len limit : ℕ) → send_refusal_by is_empty is_large is_late is_full len limit ≡ None → is_large ≡ false
not_larger true is_large is_late is_full len limit e = cc
not_larger false true is_late is_full len limit e = cc
not_larger false false is_late is_full len limit e = refl

fits_limit : (limit len : ℕ) → nat_lt limit len ≡ false → limit < 2 ^ 32 → len < 2 ^ 32
fits_limit limit len e l = grind (arith, nat_tests)

one_short : (r : Option SendError) (m : Message) (o : SendOptions) (shown : SocketState) (c : Context Carried) → send_refusal m shown c ≡ r → HasLimit c → All IsShort (unless_refused r m o)
one_short (Some e) m o shown c is l = All-nil IsShort
one_short None m o shown c is l =
    let short = fits_limit c.options.max_message_size (length m.payload) (not_larger _ _ _ _ _ _ is) l in
    All-cons IsShort (record { message = m; options = o }) [] short (All-nil IsShort)

offer_stays : (r : Option SendError) (m : Message) (o : SendOptions) (c : Context Carried) → HasLimit c → HasLimit (offered r m o c)
offer_stays None m o c l = l
offer_stays (Some e) m o c l = l

all_short_of : (ms : List Message) (o : SendOptions) (shown : SocketState) (c : Context Carried) → HasLimit c → All IsShort (accepted_of ms o shown c)
all_short_of [] o shown c l = All-nil IsShort
all_short_of (m ∷ ms) o shown c l =
    All-append IsShort (unless_refused (send_refusal m shown c) m o) (accepted_of ms o shown (offer m o shown c)) (one_short (send_refusal m shown c) m o shown c refl l)
    (all_short_of ms o shown (offer m o shown c) (offer_stays (send_refusal m shown c) m o c l))

all_short_by : (call : Call) (x : Side) → IsLimited x → All IsShort (accepted_by call x)
all_short_by (Send m o) x l = all_short_of (m ∷ []) o (shown_state (state_of x)) x.end.endpoint_state.context l
all_short_by (SendMany ms o) x l = all_short_of ms o (shown_state (state_of x)) x.end.endpoint_state.context l
all_short_by call x l = All-nil IsShort

all_short_in : (t : EndAction) (x : Side) → IsLimited x → All IsShort (accepted_in t x)
all_short_in (Calls call) x l = all_short_by call x l
all_short_in t x l = All-nil IsShort

all_short_at : (x acts : Bool) (t : EndAction) (w : Pair) → IsLimited w.a → IsLimited w.b → All IsShort (accepted_at x acts t w)
all_short_at true true t w a b = all_short_in t w.a a
all_short_at false false t w a b = all_short_in t w.b b
all_short_at true false t w a b = All-nil IsShort
all_short_at false true t w a b = All-nil IsShort

-- ---- along a trace

pub accepted_short : (x : Bool) (es : List (Bool × EndAction)) (w : Pair) → KeepsLimits es → IsLimited w.a → IsLimited w.b → All IsShort (accepted x es w)
accepted_short x [] w k a b = All-nil IsShort
accepted_short x (e ∷ es) w k a b =
    let both = or_parts (sets_more e.1) (list_any (λ (e : Bool × EndAction). sets_more e.1) es) k in
    let on = limited_goes e.0 e.1 w both.0 a b in
    All-append IsShort (accepted_at x e.0 e.1 w) (accepted x es (goes e.0 e.1 w)) (all_short_at x e.0 e.1 w a b) (accepted_short x es (goes e.0 e.1 w) both.1 on.0 on.1)

limited_new : (o : Options) (draws : Stream) → AreValidOptions o → IsLimited (new_side o draws)
limited_new o draws h = let l = h.valid.sizes.message in omega (arith, l)

-- from the start on
pub all_accepted_short : (a b : Options) (draws_a draws_b : Stream) → AreValidOptions a → AreValidOptions b → (trace : List (Bool × EndAction)) → KeepsLimits trace → (from_a : Bool)
    → All (λ (o : AcceptedMessage). length o.message.payload < 2 ^ 32) (accepted from_a trace (start a b draws_a draws_b))
all_accepted_short a b draws_a draws_b own other trace k from_a =
    accepted_short from_a trace (start a b draws_a draws_b) k (limited_new a draws_a own) (limited_new b draws_b other)
