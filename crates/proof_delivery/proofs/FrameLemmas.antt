-- What each act preserves of an end that is consistent with the other one, each call preserves: without what doesn't happen before an
-- association ends. Messages are offered and handed out elsewhere.
use Rattle.std.proofs.Common.{◌≡◌, Bool, true, false, refl, ap, ◌∙◌}
use Rattle.std.specs.Prelude.{⊤}
use Rattle.std.proofs.lemmas.Bool.{both_ways}
use Rattle.sctp_state.specs.Events.{OnClosed}
use Rattle.spec_endpoint.specs.Association.{Endpoint}
use Rattle.spec_endpoint.specs.Laws.{Call, Connect, Close, Shutdown, Send, SendMany, ResetStreams, TakeMessage, SetLowThreshold, SetPriority, SetMaxMessageSize, Advance, HandOver, Restore, ReceivePacket, ReceiveNoPacket, called}
use Rattle.proof_endpoint.specs.Mapped.{Carried}
use Rattle.proof_endpoint.specs.Acts.{EndWithPacket, calm, alone, among, PacketAct, before_packets, after_packets, OpeningAct, connects, adds_init, answers_new, answers_waiting, answers_echoed, answers_again, echoes, adds_cookie, establishes, opens, restarts, opens_again, maintains, adds_cookie_ack, before_opening, after_opening, ClosingAct, closes, shuts, shuts_on, before_closing, after_closing, DataAct, before_data, after_data, SackAct, before_sack, after_sack, SendingAct, before_sending, after_sending, TimeAct, before_time, after_time, CallAct, accepts, refuses, takes_message, sets_low_threshold, sets_priority, sets_max_message_size, before_call, after_call, ResetAct, prepares, defers, performs, processes, takes_response, adds_responses, before_reset, after_reset, HandoverAct, leaves, takes_up, before_handover, after_handover, InputAct, before_input, after_input, HasNoEnd, PreservesUntilEnd}
use Rattle.proof_pair.proofs.UntilLemmas.{no_end, no_end_over, until_end}
use Rattle.proof_pair.proofs.JoinActsLemmas.{Setting, InvAt}
use Rattle.proof_pair.proofs.JoinKeepsLemmas.{Rules, no_restart, no_again, same_verdict}
use Rattle.proof_pair.proofs.JoinFrameLemmas.{joins}

-- calls that neither send nor hand out a message, nor reset a stream
abbrev pub is_other : Call → Bool
is_other Connect = true
is_other Close = true
is_other Shutdown = true
is_other (Send m o) = false
is_other (SendMany ms o) = false
is_other (ResetStreams streams) = false
is_other TakeMessage = false
is_other (SetLowThreshold stream bytes) = true
is_other (SetPriority stream priority) = true
is_other (SetMaxMessageSize bytes) = true
is_other (Advance now) = true
is_other HandOver = true
is_other (Restore h) = true
is_other (ReceivePacket p) = true
is_other ReceiveNoPacket = true

-- the acts that are left
abbrev pub Lasts : {call : Call} → OpeningAct Carried call → Type 0
Lasts (restarts tag k phase t m echoed verdict) = ⊥
Lasts (opens_again tag k phase t m echoed verdict) = ⊥
Lasts act = ⊤

abbrev pub GoesOnShut : {call : Call} → ClosingAct Carried call → Type 0
GoesOnShut (closes e m there is) = ⊥
GoesOnShut act = ⊤

abbrev pub IsSetting : {call : Call} → CallAct Carried call → Type 0
IsSetting (accepts message o m offered fine) = ⊥
IsSetting (takes_message phase t m is) = ⊥
IsSetting act = ⊤

abbrev pub IsReceivedReset : {call : Call} → ResetAct Carried call → Type 0
IsReceivedReset (prepares stream phase t m asked can) = ⊥
IsReceivedReset act = ⊤

-- A relation that holds of nothing done, goes on, and holds of each of these acts, where both ends are consistent before and after.
pub record KeepsJoined (g : Setting) (call : Call) (R : EndWithPacket Carried → EndWithPacket Carried → Type 0) : Type 0 where
  pub same : (m : EndWithPacket Carried) → R m m
  pub through : {a b c : EndWithPacket Carried} → R a b → R b c → R a c
  pub packets : (act : PacketAct Carried call) → InvAt g (before_packets act) → InvAt g (after_packets act) → R (before_packets act) (after_packets act)
  pub opening : (act : OpeningAct Carried call) → Lasts act → InvAt g (before_opening act) → InvAt g (after_opening act)
      → R (before_opening act) (after_opening act)
  pub closing : (act : ClosingAct Carried call) → GoesOnShut act → InvAt g (before_closing act) → InvAt g (after_closing act)
      → R (before_closing act) (after_closing act)
  pub data_acts : (act : DataAct Carried call) → InvAt g (before_data act) → InvAt g (after_data act) → R (before_data act) (after_data act)
  pub acknowledging : (act : SackAct Carried call) → InvAt g (before_sack act) → InvAt g (after_sack act) → R (before_sack act) (after_sack act)
  pub sending : (act : SendingAct Carried call) → InvAt g (before_sending act) → InvAt g (after_sending act) → R (before_sending act) (after_sending act)
  pub time : (act : TimeAct Carried call) → InvAt g (before_time act) → InvAt g (after_time act) → R (before_time act) (after_time act)
  pub calls : (act : CallAct Carried call) → IsSetting act → InvAt g (before_call act) → InvAt g (after_call act) → R (before_call act) (after_call act)
  pub resets : (act : ResetAct Carried call) → IsReceivedReset act → InvAt g (before_reset act) → InvAt g (after_reset act)
      → R (before_reset act) (after_reset act)
  pub input : (act : InputAct Carried call) → InvAt g (before_input act) → InvAt g (after_input act) → R (before_input act) (after_input act)

-- with the joint of both ends
abbrev pub Joined : Setting → (EndWithPacket Carried → EndWithPacket Carried → Type 0) → EndWithPacket Carried → EndWithPacket Carried → Type 0
Joined g R a b = InvAt g a → InvAt g b × R a b

pub not_other : (call c : Call) → is_other call ≡ true → call ≡ c → is_other c ≡ false → ⊥
not_other call c other e f = (both_ways (is_other call) (ap is_other e ∙ f) other)

module _ (g : Setting) (call : Call) (r : Rules g call) (other : is_other call ≡ true) {R : EndWithPacket Carried → EndWithPacket Carried → Type 0} (k : KeepsJoined g call R) where
  j : PreservesUntilEnd call (λ a b. InvAt g a → InvAt g b)
  j = joins g call r

  frame_opening : (act : OpeningAct Carried call) → HasNoEnd (after_opening act) → Joined g R (before_opening act) (after_opening act)
  frame_opening (connects m is) none inv = let a : OpeningAct Carried call = connects m is in let n = j.opening a none inv in (n, k.opening a tt inv n)
  frame_opening (adds_init tag first t1 m to) none inv =
      let a : OpeningAct Carried call = adds_init tag first t1 m to in let n = j.opening a none inv in (n, k.opening a tt inv n)
  frame_opening (answers_new tag i m received to) none inv =
      let a : OpeningAct Carried call = answers_new tag i m received to in let n = j.opening a none inv in (n, k.opening a tt inv n)
  frame_opening (answers_waiting tag i my_tag first t1 m received to) none inv =
      let a : OpeningAct Carried call = answers_waiting tag i my_tag first t1 m received to in let n = j.opening a none inv in (n, k.opening a tt inv n)
  frame_opening (answers_echoed tag i t1 cookie t m received to) none inv =
      let a : OpeningAct Carried call = answers_echoed tag i t1 cookie t m received to in let n = j.opening a none inv in (n, k.opening a tt inv n)
  frame_opening (answers_again tag i phase t m received late to) none inv =
      let a : OpeningAct Carried call = answers_again tag i phase t m received late to in let n = j.opening a none inv in (n, k.opening a tt inv n)
  frame_opening (echoes tag i cookie my_tag first t1 m received brought) none inv =
      let a : OpeningAct Carried call = echoes tag i cookie my_tag first t1 m received brought in let n = j.opening a none inv in (n, k.opening a tt inv n)
  frame_opening (adds_cookie t1 cookie t m to) none inv =
      let a : OpeningAct Carried call = adds_cookie t1 cookie t m to in let n = j.opening a none inv in (n, k.opening a tt inv n)
  frame_opening (establishes tag t1 cookie t m received) none inv =
      let a : OpeningAct Carried call = establishes tag t1 cookie t m received in let n = j.opening a none inv in (n, k.opening a tt inv n)
  frame_opening (opens tag c m echoed closed own) none inv =
      let a : OpeningAct Carried call = opens tag c m echoed closed own in let n = j.opening a none inv in (n, k.opening a tt inv n)
  frame_opening (restarts tag c phase t m echoed verdict) none inv = absurd (no_restart _ (same_verdict g call r tag c phase t m echoed inv) verdict)
  frame_opening (opens_again tag c phase t m echoed verdict) none inv = absurd (no_again _ (same_verdict g call r tag c phase t m echoed inv) verdict)
  frame_opening (maintains tag c t1 cookie t m echoed verdict) none inv =
      let a : OpeningAct Carried call = maintains tag c t1 cookie t m echoed verdict in let n = j.opening a none inv in (n, k.opening a tt inv n)
  frame_opening (adds_cookie_ack tag back phase t m echoed late) none inv =
      let a : OpeningAct Carried call = adds_cookie_ack tag back phase t m echoed late in let n = j.opening a none inv in (n, k.opening a tt inv n)

  frame_closing : (act : ClosingAct Carried call) → HasNoEnd (after_closing act) → Joined g R (before_closing act) (after_closing act)
  frame_closing (closes e m there is) none inv = absurd (no_end_over e m is none)
  frame_closing (shuts phase t m is early) none inv =
      let a : ClosingAct Carried call = shuts phase t m is early in let n = j.closing a none inv in (n, k.closing a tt inv n)
  frame_closing (shuts_on phase next t m late later) none inv =
      let a : ClosingAct Carried call = shuts_on phase next t m late later in let n = j.closing a none inv in (n, k.closing a tt inv n)

  frame_calls : (act : CallAct Carried call) → HasNoEnd (after_call act) → Joined g R (before_call act) (after_call act)
  frame_calls (accepts message o m (alone is) fine) none inv = absurd (not_other call (Send message o) other is refl)
  frame_calls (accepts message o m (among ms is in_it) fine) none inv = absurd (not_other call (SendMany ms o) other is refl)
  frame_calls (refuses message o e m offered is) none inv =
      let a : CallAct Carried call = refuses message o e m offered is in let n = j.calls a none inv in (n, k.calls a tt inv n)
  frame_calls (takes_message phase t m is) none inv = absurd (not_other call TakeMessage other is refl)
  frame_calls (sets_low_threshold stream bytes m is) none inv =
      let a : CallAct Carried call = sets_low_threshold stream bytes m is in let n = j.calls a none inv in (n, k.calls a tt inv n)
  frame_calls (sets_priority stream priority m is) none inv =
      let a : CallAct Carried call = sets_priority stream priority m is in let n = j.calls a none inv in (n, k.calls a tt inv n)
  frame_calls (sets_max_message_size bytes m is) none inv =
      let a : CallAct Carried call = sets_max_message_size bytes m is in let n = j.calls a none inv in (n, k.calls a tt inv n)

  frame_resets : (act : ResetAct Carried call) → HasNoEnd (after_reset act) → Joined g R (before_reset act) (after_reset act)
  frame_resets (prepares stream phase t m asked can) none inv = absurd (not_other call (ResetStreams asked.streams) other asked.asked refl)
  frame_resets (defers number response last_tsn streams phase t m asked known ahead) none inv =
      let a : ResetAct Carried call = defers number response last_tsn streams phase t m asked known ahead in let n = j.resets a none inv in (n, k.resets a tt inv n)
  frame_resets (performs number response last_tsn streams phase t m asked known there) none inv =
      let a : ResetAct Carried call = performs number response last_tsn streams phase t m asked known there in let n = j.resets a none inv in (n, k.resets a tt inv n)
  frame_resets (processes number streams phase t m asked known) none inv =
      let a : ResetAct Carried call = processes number streams phase t m asked known in let n = j.resets a none inv in (n, k.resets a tt inv n)
  frame_resets (takes_response rto number result sender receiver phase t m asked) none inv =
      let a : ResetAct Carried call = takes_response rto number result sender receiver phase t m asked in let n = j.resets a none inv in (n, k.resets a tt inv n)
  frame_resets (adds_responses responses phase t m are answers) none inv =
      let a : ResetAct Carried call = adds_responses responses phase t m are answers in let n = j.resets a none inv in (n, k.resets a tt inv n)

  frame_handover : (act : HandoverAct Carried call) → HasNoEnd (after_handover act) → Joined g R (before_handover act) (after_handover act)
  frame_handover (leaves phase t m is) none inv = absurd (no_end m (after_handover {call = call} (leaves phase t m is)) OnClosed refl refl none)
  frame_handover (takes_up h m is valid) none inv = absurd (r.restores h is)

  pub frame : PreservesUntilEnd call (Joined g R)
  frame = record {
    same = λ m inv. (inv, k.same m);
    through = λ {a} {b} {c} f h inv. let x = f inv in let y = h x.0 in (y.0, k.through x.1 y.1);
    packets = λ act none inv. let n = j.packets act none inv in (n, k.packets act inv n);
    opening = frame_opening;
    closing = frame_closing;
    data_acts = λ act none inv. let n = j.data_acts act none inv in (n, k.data_acts act inv n);
    acknowledging = λ act none inv. let n = j.acknowledging act none inv in (n, k.acknowledging act inv n);
    sending = λ act none inv. let n = j.sending act none inv in (n, k.sending act inv n);
    time = λ act none inv. let n = j.time act none inv in (n, k.time act inv n);
    calls = frame_calls;
    resets = frame_resets;
    handover = frame_handover;
    input = λ act none inv. let n = j.input act none inv in (n, k.input act inv n);
  }

  -- each call of this kind that emits no end
  pub joined_call : (s : Endpoint Carried) → HasNoEnd (calm (called call s)) → InvAt g (calm s) → InvAt g (calm (called call s)) × R (calm s) (calm (called call s))
  joined_call s none inv = until_end call frame s none inv
