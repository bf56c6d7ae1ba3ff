-- What receives no chunk that opens an association takes up none, and emits no `OnConnected`.
use Rattle.std.proofs.Common.{◌≡◌, ℕ, ◌||◌, Bool, true, false, List, [], ◌∷◌, ◌++◌, refl, ap, ◌∙◌}
use Rattle.std.proofs.lemmas.Bool.{both_ways}
use Rattle.std.proofs.Math.Bool.{or-false}
use Rattle.sctp_packet.specs.Chunk.{ChunkTree, init_ack_chunk, cookie_echo_chunk, cookie_ack_chunk}
use Rattle.sctp_capabilities.specs.StateCookie.{Cookie}
use Rattle.sctp_state.specs.Handover.{HandoverState}
use Rattle.sctp_state.specs.Events.{Event, SendPacket, OnConnected, OnError, OnClosed}
use Rattle.spec_endpoint.specs.Association.{State, Closed}
use Rattle.spec_endpoint.specs.Shutdown.{ended, over}
use Rattle.spec_endpoint.specs.Laws.{Call, Restore, ending}
use Rattle.proof_endpoint.specs.Mapped.{Carried}
use Rattle.proof_endpoint.specs.Acts.{EndWithPacket, in_state, with_context, BringsChunk, IsEchoed, PacketAct, begins, adds_plain, emits, emits_error, counts, before_packets, after_packets, OpeningAct, connects, adds_init, answers_new, answers_waiting, answers_echoed, answers_again, echoes, adds_cookie, establishes, opens, restarts, opens_again, maintains, adds_cookie_ack, before_opening, after_opening, ClosingAct, closes, shuts, shuts_on, before_closing, after_closing, DataAct, takes_data, takes_idata, takes_forward, takes_iforward, before_data, after_data, SackAct, takes_sack, samples, counts_errors, before_sack, after_sack, SendingAct, asks, forces_ack, adds_ack, expires, adds_forward, forwards_later, asks_no_reset, asks_reset, adds_request, sends, sends_fast, before_sending, after_sending, TimeAct, advances, delay_ends, times_out, beats, times_init, times_cookie, times_request, times_items, wakes_request, before_time, after_time, CallAct, takes_message, before_call, after_call, ResetAct, prepares, defers, performs, processes, takes_response, adds_responses, before_reset, after_reset, HandoverAct, leaves, takes_up, before_handover, after_handover, InputAct, ends_packet, before_input, after_input, Preserves}
use Rattle.proof_pair.specs.Trace.{has_connected}
use Rattle.proof_pair.specs.Agreement.{Association, Has, held_in}
use Rattle.proof_pair.proofs.EmittedLemmas.{EmitsNoPacketOrStatus}
use Rattle.proof_pair.proofs.UntilLemmas.{over_gives_up, sack_act_emits_no_packet_or_status, sending_act_emits_no_packet_or_status, time_act_emits_no_packet_or_status, call_act_emits_no_packet_or_status, reset_act_emits_no_packet_or_status}
use Rattle.proof_pair.proofs.JoinActsLemmas.{connected_both, no_packet_or_status_not_connected}
use Rattle.proof_pair.proofs.AgreeLemmas.{is_opening}

-- what a call may receive and do
pub record BringsNoOpening (call : Call) : Type 0 where
  pub on_received : (tag : ℕ) (chunk : ChunkTree) → BringsChunk call tag chunk → is_opening chunk ≡ false
  pub restores : (h : HandoverState) → call ≡ Restore h → ⊥

-- what is held was held, and no `OnConnected` is emitted
pub record Rests (s : State) (es : List (Event Carried)) (t : State) (fs : List (Event Carried)) : Type 0 where
  pub held : (a : Association) → Has a (held_in t) → Has a (held_in s)
  pub emitted : has_connected fs ≡ has_connected es

abbrev pub RestsAt : (before after : EndWithPacket Carried) → Type 0
RestsAt a b = Rests a.state a.context.emitted.events b.state b.context.emitted.events

emitted_more : (es more : List (Event Carried)) → has_connected more ≡ false → has_connected (es ++ more) ≡ has_connected es
emitted_more es more none = connected_both es more ∙ (ap (λ (b : Bool). has_connected es || b) none ∙ or-false (has_connected es))

rests_same : (s : State) (es : List (Event Carried)) → Rests s es s es
rests_same s es = record { held = λ a h. h; emitted = refl }

rests_emitted : (s : State) (es more : List (Event Carried)) → has_connected more ≡ false → Rests s es s (es ++ more)
rests_emitted s es more none = record { held = λ a h. h; emitted = emitted_more es more none }

ends_unconnected : (e : Event Carried) → ending e ≡ 1 → has_connected (e ∷ []) ≡ false
ends_unconnected OnConnected h = cc
ends_unconnected e h = refl

module _ (call : Call) (calm : BringsNoOpening call) where
  -- what stays of the state, and what is emitted is light
  rests_emitting_no_packet_or_status : (s t : State) (m n : EndWithPacket Carried) → ((a : Association) → Has a (held_in t) → Has a (held_in s)) → EmitsNoPacketOrStatus m.context.emitted n.context.emitted
      → Rests s m.context.emitted.events t n.context.emitted.events
  rests_emitting_no_packet_or_status s t m n held l = record {
    held = held;
    emitted = ap has_connected l.behind ∙ emitted_more m.context.emitted.events l.events (no_packet_or_status_not_connected l.events l.all);
  }

  keeps_packets : (act : PacketAct Carried call) → RestsAt (before_packets act) (after_packets act)
  keeps_packets (begins p m new summed to) = rests_same m.state m.context.emitted.events
  keeps_packets (adds_plain chunk m plain others fair) = rests_same m.state m.context.emitted.events
  keeps_packets (emits m some bundled) = rests_emitted m.state m.context.emitted.events (SendPacket _ ∷ []) refl
  keeps_packets (emits_error kind text m) = rests_emitted m.state m.context.emitted.events (OnError kind text ∷ []) refl
  keeps_packets (counts m) = rests_same m.state m.context.emitted.events

  no_echo : {A : Type 0} (tag : ℕ) (k : Cookie) → IsEchoed call tag k → A
  no_echo tag k h = absurd (both_ways true (calm.on_received tag (cookie_echo_chunk h.cookie) h.received) refl)

  keeps_opening : (act : OpeningAct Carried call) → RestsAt (before_opening act) (after_opening act)
  keeps_opening (connects m is) = record { held = λ a h. h; emitted = refl }
  keeps_opening (adds_init tag first t1 m to) = record { held = λ a h. h; emitted = refl }
  keeps_opening (answers_new tag i m h to) = record { held = λ a h. h; emitted = refl }
  keeps_opening (answers_waiting tag i my_tag first t1 m h to) = record { held = λ a h. h; emitted = refl }
  keeps_opening (answers_echoed tag i t1 cookie t m h to) = record { held = λ a h. h; emitted = refl }
  keeps_opening (answers_again tag i phase t m h late to) = record { held = λ a h. h; emitted = refl }
  keeps_opening (echoes tag i cookie my_tag first t1 m h brought) = absurd (both_ways true (calm.on_received tag (init_ack_chunk i) h) refl)
  keeps_opening (adds_cookie t1 cookie t m to) = record { held = λ a h. h; emitted = refl }
  keeps_opening (establishes tag t1 cookie t m h) = absurd (both_ways true (calm.on_received tag cookie_ack_chunk h) refl)
  keeps_opening (opens tag k m h none is) = no_echo tag k h
  keeps_opening (restarts tag k phase t m h resolution) = no_echo tag k h
  keeps_opening (opens_again tag k phase t m h resolution) = no_echo tag k h
  keeps_opening (maintains tag k t1 cookie t m h resolution) = no_echo tag k h
  keeps_opening (adds_cookie_ack tag back phase t m h late) = record { held = λ a h. h; emitted = refl }

  keeps_closing : (act : ClosingAct Carried call) → RestsAt (before_closing act) (after_closing act)
  keeps_closing (closes e m there is) =
      let n : EndWithPacket Carried = in_state Closed (with_context (ended e m.context) m) in
      let rest : RestsAt n (in_state Closed (with_context (over e m.context) m)) =
      rests_emitting_no_packet_or_status Closed Closed n (in_state Closed (with_context (over e m.context) m)) (λ a h. h) (over_gives_up e m.context) in
      record { held = λ a h. absurd h; emitted = rest.emitted ∙ emitted_more m.context.emitted.events (e ∷ []) (ends_unconnected e is) }
  keeps_closing (shuts phase t m is early) = record { held = λ a h. h; emitted = refl }
  keeps_closing (shuts_on phase next t m late later) = record { held = λ a h. h; emitted = refl }

  keeps_data : (act : DataAct Carried call) → RestsAt (before_data act) (after_data act)
  keeps_data (takes_data tag tsn is_immediate f phase t m received right some is) = record { held = λ a h. h; emitted = refl }
  keeps_data (takes_idata tag tsn is_immediate f phase t m received right some is) = record { held = λ a h. h; emitted = refl }
  keeps_data (takes_forward tag tsn skipped phase t m received right valid) = record { held = λ a h. h; emitted = refl }
  keeps_data (takes_iforward tag tsn skipped phase t m received right valid) = record { held = λ a h. h; emitted = refl }

  keeps_sack : (act : SackAct Carried call) → RestsAt (before_sack act) (after_sack act)
  keeps_sack (takes_sack tag k phase t m received valid) =
      let act : SackAct Carried call = takes_sack tag k phase t m received valid in
      rests_emitting_no_packet_or_status (before_sack act).state (after_sack act).state (before_sack act) (after_sack act) (λ a h. h) (sack_act_emits_no_packet_or_status act)
  keeps_sack (samples r phase t m) = record { held = λ a h. h; emitted = refl }
  keeps_sack (counts_errors e m) = record { held = λ a h. h; emitted = refl }

  keeps_sending : (act : SendingAct Carried call) → RestsAt (before_sending act) (after_sending act)
  keeps_sending (asks also_if_delayed phase t m) = record { held = λ a h. h; emitted = refl }
  keeps_sending (forces_ack phase t m) = record { held = λ a h. h; emitted = refl }
  keeps_sending (adds_ack phase t m) = record { held = λ a h. h; emitted = refl }
  keeps_sending (expires phase t m) =
      let act : SendingAct Carried call = expires phase t m in
      rests_emitting_no_packet_or_status (before_sending act).state (after_sending act).state (before_sending act) (after_sending act) (λ a h. h) (sending_act_emits_no_packet_or_status act)
  keeps_sending (adds_forward phase t m due) = record { held = λ a h. h; emitted = refl }
  keeps_sending (forwards_later n m) = record { held = λ a h. h; emitted = refl }
  keeps_sending (asks_no_reset most m none) = record { held = λ a h. h; emitted = refl }
  keeps_sending (asks_reset most stream streams phase t m some free) = record { held = λ a h. h; emitted = refl }
  keeps_sending (adds_request k phase t m is) = record { held = λ a h. h; emitted = refl }
  keeps_sending (sends phase t m) =
      let act : SendingAct Carried call = sends phase t m in
      rests_emitting_no_packet_or_status (before_sending act).state (after_sending act).state (before_sending act) (after_sending act) (λ a h. h) (sending_act_emits_no_packet_or_status act)
  keeps_sending (sends_fast phase t m some) = record { held = λ a h. h; emitted = refl }

  keeps_time : (act : TimeAct Carried call) → RestsAt (before_time act) (after_time act)
  keeps_time (advances now m is on) = record { held = λ a h. h; emitted = refl }
  keeps_time (delay_ends phase t m) = record { held = λ a h. h; emitted = refl }
  keeps_time (times_out phase t m due) =
      let act : TimeAct Carried call = times_out phase t m due in
      rests_emitting_no_packet_or_status (before_time act).state (after_time act).state (before_time act) (after_time act) (λ a h. h) (time_act_emits_no_packet_or_status act)
  keeps_time (beats h m) = record { held = λ a h. h; emitted = refl }
  keeps_time (times_init tag first old new m) = record { held = λ a h. h; emitted = refl }
  keeps_time (times_cookie old new cookie t m) = record { held = λ a h. h; emitted = refl }
  keeps_time (times_request timer phase t m) = record { held = λ a h. h; emitted = refl }
  keeps_time (times_items timer phase t m) = record { held = λ a h. h; emitted = refl }
  keeps_time (wakes_request phase t m) = record { held = λ a h. h; emitted = refl }

  keeps_calls : (act : CallAct Carried call) → RestsAt (before_call act) (after_call act)
  keeps_calls (takes_message phase t m is) = record { held = λ a h. h; emitted = refl }
  keeps_calls act = rests_emitting_no_packet_or_status (before_call act).state (after_call act).state (before_call act) (after_call act) (λ a h. h) (call_act_emits_no_packet_or_status act)

  keeps_resets : (act : ResetAct Carried call) → RestsAt (before_reset act) (after_reset act)
  keeps_resets act = rests_emitting_no_packet_or_status (before_reset act).state (after_reset act).state (before_reset act) (after_reset act) (kept act) (reset_act_emits_no_packet_or_status act)
    where
      kept : (act : ResetAct Carried call) → (a : Association) → Has a (held_in (after_reset act).state) → Has a (held_in (before_reset act).state)
      kept (prepares stream phase t m asked can) a h = h
      kept (defers number response last_tsn streams phase t m asked known ahead) a h = h
      kept (performs number response last_tsn streams phase t m asked known there) a h = h
      kept (processes number streams phase t m asked known) a h = h
      kept (takes_response rto number result sender receiver phase t m asked) a h = h
      kept (adds_responses responses phase t m are answers) a h = h

  keeps_handover : (act : HandoverAct Carried call) → RestsAt (before_handover act) (after_handover act)
  keeps_handover (leaves phase t m is) = record { held = λ a h. absurd h; emitted = emitted_more m.context.emitted.events (OnClosed ∷ []) refl }
  keeps_handover (takes_up h m is valid) = absurd (calm.restores h is)

  keeps_input : (act : InputAct Carried call) → RestsAt (before_input act) (after_input act)
  keeps_input (ends_packet phase t m) = record { held = λ a h. h; emitted = refl }

  pub rests : Preserves call RestsAt
  rests = record {
    same = λ m. rests_same m.state m.context.emitted.events;
    through = λ {a} {b} {c} f g. record { held = λ x h. f.held x (g.held x h); emitted = g.emitted ∙ f.emitted };
    packets = keeps_packets;
    opening = keeps_opening;
    closing = keeps_closing;
    data_acts = keeps_data;
    acknowledging = keeps_sack;
    sending = keeps_sending;
    time = keeps_time;
    calls = keeps_calls;
    resets = keeps_resets;
    handover = keeps_handover;
    input = keeps_input;
  }
