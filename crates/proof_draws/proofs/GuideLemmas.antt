-- Which tags an end has after a call: those that it had, or those of what the call brings.
use Rattle.std.proofs.Common.{◌≡◌, ℕ}
use Rattle.sctp_packet.specs.Chunk.{InitTree, init_ack_chunk}
use Rattle.sctp_capabilities.specs.StateCookie.{Cookie}
use Rattle.sctp_state.specs.Handover.{HandoverState}
use Rattle.spec_endpoint.specs.Association.{Endpoint}
use Rattle.spec_endpoint.specs.Laws.{Call, Connect, Restore, called}
use Rattle.proof_endpoint.specs.Mapped.{Carried}
use Rattle.proof_endpoint.specs.Acts.{EndWithPacket, PacketAct, begins, adds_plain, emits, emits_error, counts, before_packets, after_packets, OpeningAct, connects, adds_init, answers_new, answers_waiting, answers_echoed, answers_again, echoes, adds_cookie, establishes, opens, restarts, opens_again, maintains, adds_cookie_ack, before_opening, after_opening, ClosingAct, closes, shuts, shuts_on, before_closing, after_closing, DataAct, takes_data, takes_idata, takes_forward, takes_iforward, before_data, after_data, SackAct, takes_sack, samples, counts_errors, before_sack, after_sack, SendingAct, asks, forces_ack, adds_ack, expires, adds_forward, forwards_later, asks_no_reset, asks_reset, adds_request, sends, sends_fast, before_sending, after_sending, TimeAct, advances, delay_ends, times_out, beats, times_init, times_cookie, times_request, times_items, wakes_request, before_time, after_time, CallAct, accepts, refuses, takes_message, sets_low_threshold, sets_priority, sets_max_message_size, before_call, after_call, ResetAct, prepares, defers, performs, processes, takes_response, adds_responses, before_reset, after_reset, HandoverAct, leaves, takes_up, before_handover, after_handover, InputAct, ends_packet, before_input, after_input, BringsChunk, IsEchoed, Preserves}
use Rattle.proof_endpoint.proofs.ActsLemmas.{keeps_call}
use Rattle.proof_draws.proofs.NamesLemmas.{TagsAre}

-- whoever opens an association by this call has these tags
pub record Guides (call : Call) (mine peer : ℕ) : Type 0 where
  pub answers : (tag : ℕ) (i : InitTree) → BringsChunk call tag (init_ack_chunk i) → i.initiate_tag ≡ peer
  pub own : (tag : ℕ) (k : Cookie) → IsEchoed call tag k → k.my_tag ≡ mine
  pub other : (tag : ℕ) (k : Cookie) → IsEchoed call tag k → k.peer_tag ≡ peer
  pub connects : call ≡ Connect → ⊥
  pub restores : (h : HandoverState) → call ≡ Restore h → ⊥

module _ (call : Call) (mine peer : ℕ) (g : Guides call mine peer) where
  abbrev Stays : (before after : EndWithPacket Carried) → Type 0
  Stays a b = TagsAre mine peer a.state → TagsAre mine peer b.state

  stays_packets : (act : PacketAct Carried call) → Stays (before_packets act) (after_packets act)
  stays_packets (begins p m new summed to) = λ h. h
  stays_packets (adds_plain chunk m plain others fair) = λ h. h
  stays_packets (emits m some bundled) = λ h. h
  stays_packets (emits_error kind text m) = λ h. h
  stays_packets (counts m) = λ h. h

  stays_opening : (act : OpeningAct Carried call) → Stays (before_opening act) (after_opening act)
  stays_opening (connects m is) = absurd (g.connects is)
  stays_opening (adds_init tag first t1 m to) = λ h. h
  stays_opening (answers_new tag i m received to) = λ h. h
  stays_opening (answers_waiting tag i my_tag first t1 m received to) = λ h. h
  stays_opening (answers_echoed tag i t1 cookie t m received to) = λ h. h
  stays_opening (answers_again tag i phase t m received late to) = λ h. h
  stays_opening (echoes tag i cookie my_tag first t1 m received brought) = λ h. (h, g.answers tag i received)
  stays_opening (adds_cookie t1 cookie t m to) = λ h. h
  stays_opening (establishes tag t1 cookie t m received) = λ h. h
  stays_opening (opens tag k m echoed none own) = λ h. (g.own tag k echoed, g.other tag k echoed)
  stays_opening (restarts tag k phase t m echoed resolution) = λ h. (g.own tag k echoed, g.other tag k echoed)
  stays_opening (opens_again tag k phase t m echoed resolution) = λ h. (g.own tag k echoed, g.other tag k echoed)
  stays_opening (maintains tag k t1 cookie t m echoed resolution) = λ h. h
  stays_opening (adds_cookie_ack tag back phase t m echoed late) = λ h. h

  stays_closing : (act : ClosingAct Carried call) → Stays (before_closing act) (after_closing act)
  stays_closing (closes e m there is) = λ h. tt
  stays_closing (shuts phase t m is early) = λ h. h
  stays_closing (shuts_on phase next t m late later) = λ h. h

  stays_data_acts : (act : DataAct Carried call) → Stays (before_data act) (after_data act)
  stays_data_acts (takes_data tag tsn is_immediate f phase t m received right some is) = λ h. h
  stays_data_acts (takes_idata tag tsn is_immediate f phase t m received right some is) = λ h. h
  stays_data_acts (takes_forward tag tsn skipped phase t m received right valid) = λ h. h
  stays_data_acts (takes_iforward tag tsn skipped phase t m received right valid) = λ h. h

  stays_acknowledging : (act : SackAct Carried call) → Stays (before_sack act) (after_sack act)
  stays_acknowledging (takes_sack tag k phase t m received valid) = λ h. h
  stays_acknowledging (samples k phase t m) = λ h. h
  stays_acknowledging (counts_errors e m) = λ h. h

  stays_sending : (act : SendingAct Carried call) → Stays (before_sending act) (after_sending act)
  stays_sending (asks also_if_delayed phase t m) = λ h. h
  stays_sending (forces_ack phase t m) = λ h. h
  stays_sending (adds_ack phase t m) = λ h. h
  stays_sending (expires phase t m) = λ h. h
  stays_sending (adds_forward phase t m due) = λ h. h
  stays_sending (forwards_later n m) = λ h. h
  stays_sending (asks_no_reset most m none) = λ h. h
  stays_sending (asks_reset most stream streams phase t m some free) = λ h. h
  stays_sending (adds_request k phase t m is) = λ h. h
  stays_sending (sends phase t m) = λ h. h
  stays_sending (sends_fast phase t m some) = λ h. h

  stays_time : (act : TimeAct Carried call) → Stays (before_time act) (after_time act)
  stays_time (advances now m is on) = λ h. h
  stays_time (delay_ends phase t m) = λ h. h
  stays_time (times_out phase t m due) = λ h. h
  stays_time (beats h m) = λ h. h
  stays_time (times_init tag first old new m) = λ h. h
  stays_time (times_cookie old new cookie t m) = λ h. h
  stays_time (times_request timer phase t m) = λ h. h
  stays_time (times_items timer phase t m) = λ h. h
  stays_time (wakes_request phase t m) = λ h. h

  stays_calls : (act : CallAct Carried call) → Stays (before_call act) (after_call act)
  stays_calls (accepts message o m offered fine) = λ h. h
  stays_calls (refuses message o e m offered is) = λ h. h
  stays_calls (takes_message phase t m is) = λ h. h
  stays_calls (sets_low_threshold stream bytes m is) = λ h. h
  stays_calls (sets_priority stream priority m is) = λ h. h
  stays_calls (sets_max_message_size bytes m is) = λ h. h

  stays_resets : (act : ResetAct Carried call) → Stays (before_reset act) (after_reset act)
  stays_resets (prepares stream phase t m asked can) = λ h. h
  stays_resets (defers number response last_tsn streams phase t m asked known ahead) = λ h. h
  stays_resets (performs number response last_tsn streams phase t m asked known there) = λ h. h
  stays_resets (processes number streams phase t m asked known) = λ h. h
  stays_resets (takes_response rto number result sender receiver phase t m asked) = λ h. h
  stays_resets (adds_responses responses phase t m are answers) = λ h. h

  stays_handover : (act : HandoverAct Carried call) → Stays (before_handover act) (after_handover act)
  stays_handover (leaves phase t m is) = λ h. tt
  stays_handover (takes_up h m is valid) = absurd (g.restores h is)

  stays_input : (act : InputAct Carried call) → Stays (before_input act) (after_input act)
  stays_input (ends_packet phase t m) = λ h. h

  pub stays : Preserves call Stays
  stays = record {
    same = λ m h. h;
    through = λ {a} {b} {c} f s h. s (f h);
    packets = stays_packets;
    opening = stays_opening;
    closing = stays_closing;
    data_acts = stays_data_acts;
    acknowledging = stays_acknowledging;
    sending = stays_sending;
    time = stays_time;
    calls = stays_calls;
    resets = stays_resets;
    handover = stays_handover;
    input = stays_input;
  }

  pub tags_after : (e : Endpoint Carried) → TagsAre mine peer e.endpoint_state.state → TagsAre mine peer (called call e).endpoint_state.state
  tags_after e h = keeps_call call stays e h
