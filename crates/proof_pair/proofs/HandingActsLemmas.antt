-- What each act leaves of an association and of the messages that are ready: until one first ends, none is replaced, and more
-- messages come behind those that are ready.
use Rattle.std.proofs.Common.{◌≡◌, ℕ, Bool, true, false, None, Some, List, [], ◌∷◌, if◌then◌else◌, refl, ◌==◌, ◌&&◌, length}
use Rattle.sctp_serial.specs.Messages.{Message}
use Rattle.sctp_serial.specs.declared.api.StreamId.{StreamId}
use Rattle.sctp_chunk.specs.declared.forward_tsn.SkippedStream.{SkippedStream}
use Rattle.sctp_packet.specs.Chunk.{FragmentTree}
use Rattle.sctp_state.specs.Events.{OnClosed}
use Rattle.sctp_rx.specs.DataTracker.{number_of as tsn_of, has_seen, moves_on}
use Rattle.sctp_rx.specs.Delivery.{Extends}
use Rattle.sctp_rx.specs.ReassemblyStreams.{is_far, entries_in}
use Rattle.sctp_rx.specs.ReassemblyQueue.{Reassembly, Waiting, Added, Forwarded, number_of, came, add_now, forward_now, is_kept_back, point_waits, keep_back, add_or_keep_back, forward_or_wait, add, forward, apply, apply_each, waiting_in, reset, wait_with, resetting}
use Rattle.sctp_rx.specs.ReassemblyStreams as streams
use Rattle.sctp_reassembly.proofs.ExtendsLemmas.{extends_none, extends_by, extends_both}
use Rattle.spec_endpoint.specs.Association.{State, Closed, CookieWait, Open}
use Rattle.spec_endpoint.specs.Shown.{Association, association_in}
use Rattle.spec_endpoint.specs.Calls.{ready_in}
use Rattle.spec_endpoint.specs.Data.{added_unless, skipped_if}
use Rattle.spec_endpoint.specs.Laws.{Call, TakeMessage}
use Rattle.proof_endpoint.specs.Mapped.{Carried}
use Rattle.proof_endpoint.specs.Acts.{EndWithPacket, is_opened, PacketAct, begins, adds_plain, emits, emits_error, counts, before_packets, after_packets, OpeningAct, connects, adds_init, answers_new, answers_waiting, answers_echoed, answers_again, echoes, adds_cookie, establishes, opens, restarts, opens_again, maintains, adds_cookie_ack, before_opening, after_opening, ClosingAct, closes, shuts, shuts_on, before_closing, after_closing, DataAct, takes_data, takes_idata, takes_forward, takes_iforward, before_data, after_data, SackAct, takes_sack, samples, counts_errors, before_sack, after_sack, SendingAct, asks, forces_ack, adds_ack, expires, adds_forward, forwards_later, asks_no_reset, asks_reset, adds_request, sends, sends_fast, before_sending, after_sending, TimeAct, advances, delay_ends, times_out, beats, times_init, times_cookie, times_request, times_items, wakes_request, before_time, after_time, CallAct, accepts, refuses, takes_message, sets_low_threshold, sets_priority, sets_max_message_size, before_call, after_call, ResetAct, prepares, defers, performs, processes, takes_response, adds_responses, before_reset, after_reset, HandoverAct, leaves, takes_up, before_handover, after_handover, InputAct, ends_packet, before_input, after_input, HasNoEnd, PreservesUntilEnd}
use Rattle.proof_pair.proofs.UntilLemmas.{no_end, no_end_over}
use Rattle.proof_pair.proofs.JoinActsLemmas.{Setting, InvAt}
use Rattle.proof_pair.proofs.JoinKeepsLemmas.{Rules, same_verdict, no_restart, no_again}
use Rattle.proof_pair.proofs.JoinFrameLemmas.{joins}

-- ---- what reassembly does

behind_nothing : (ms : List Message) → Extends [] ms
behind_nothing ms = extends_by [] ms ms refl

more_if : (b : Bool) (ready : List Message) (p q : Reassembly) → Extends ready p.ready → Extends ready q.ready → Extends ready (if b then p else q).ready
more_if true ready p q h k = h
more_if false ready p q h k = k

module _ (r : Reassembly) where
  more_add_now : (n : ℕ) (f : FragmentTree) → Extends r.ready (add_now n f r).ready
  more_add_now n f = extends_by r.ready (add_now n f r).ready (streams.add n f r.streams).messages refl

  more_forward_now : (n : ℕ) (es : List SkippedStream) → Extends r.ready (forward_now n es r).ready
  more_forward_now n es = extends_by r.ready (forward_now n es r).ready (streams.forward n es r.streams).messages refl

  more_apply : (w : Waiting) → Extends r.ready (apply w r).ready
  more_apply (Added n f) = more_add_now n f
  more_apply (Forwarded n es) = more_forward_now n es

  more_add : (tsn : ℕ) (f : FragmentTree) → Extends r.ready (add tsn f r).ready
  more_add tsn f =
      let n : ℕ = number_of r tsn in
      let q : Reassembly = came tsn r in
      more_if (is_far n) r.ready r (add_or_keep_back n f q) (extends_none r.ready)
      (more_if (is_kept_back n f.stream_id q.deferred) r.ready (keep_back (Added n f) q) (add_now n f q) (extends_none r.ready)
      (extends_by r.ready (add_now n f q).ready (streams.add n f q.streams).messages refl))

  more_forward : (tsn : ℕ) (es : List SkippedStream) → Extends r.ready (forward tsn es r).ready
  more_forward tsn es =
      let n : ℕ = number_of r tsn in
      let q : Reassembly = came tsn r in
      let ids : List StreamId = resetting q.deferred in
      let named : List SkippedStream = entries_in true ids es in
      let others : List SkippedStream = entries_in false ids es in
      let part : Reassembly = forward_now n others q in
      let in_part : Extends r.ready part.ready = extends_by r.ready part.ready (streams.forward n others q.streams).messages refl in
      more_if (is_far n) r.ready r (forward_or_wait n es q) (extends_none r.ready)
      (more_if (point_waits n q.deferred) r.ready (wait_with n named part) (forward_now n es q)
      (more_if ((length named == 0) && (length (waiting_in part.deferred) == 0)) r.ready part (keep_back (Forwarded n named) part) in_part in_part)
      (extends_by r.ready (forward_now n es q).ready (streams.forward n es q.streams).messages refl))

  more_added : (was_seen : Bool) (tsn : ℕ) (f : FragmentTree) → Extends r.ready (added_unless was_seen tsn f r).ready
  more_added true tsn f = extends_none r.ready
  more_added false tsn f = more_add tsn f

  more_skipped : (on : Bool) (tsn : ℕ) (es : List SkippedStream) → Extends r.ready (skipped_if on tsn es r).ready
  more_skipped true tsn es = more_forward tsn es
  more_skipped false tsn es = extends_none r.ready

more_each : (ws : List Waiting) (r : Reassembly) → Extends r.ready (apply_each ws r).ready
more_each [] r = extends_none r.ready
more_each (w ∷ ws) r = extends_both r.ready (apply w r).ready (apply_each ws (apply w r)).ready (more_apply r w) (more_each ws (apply w r))

more_reset : (ids : List StreamId) (r : Reassembly) → Extends r.ready (reset ids r).ready
more_reset ids r = more_each (waiting_in r.deferred) (record r { streams = streams.reset ids r.streams; deferred = None })

-- ---- the acts, but for the call that takes a message

-- more is ready behind what was, and an association that stands is not replaced
pub record GoesOn (s t : State) : Type 0 where
  pub ready : Extends (ready_in s) (ready_in t)
  pub stands : (a : Association) → association_in s ≡ Some a → association_in t ≡ Some a

abbrev pub More : (before after : EndWithPacket Carried) → Type 0
More a b = GoesOn a.state b.state

pub goes_nowhere : (s : State) → GoesOn s s
goes_nowhere s = record { ready = extends_none (ready_in s); stands = λ a e. e }

goes_both : (s t u : State) → GoesOn s t → GoesOn t u → GoesOn s u
goes_both s t u h k = record {
  ready = extends_both (ready_in s) (ready_in t) (ready_in u) h.ready k.ready;
  stands = λ a e. k.stands a (h.stands a e);
}

from_unopened : (s t : State) → is_opened s ≡ false → GoesOn s t
from_unopened Closed t none = record { ready = behind_nothing (ready_in t); stands = λ a e. cc }
from_unopened (CookieWait tag first t1) t none = record { ready = behind_nothing (ready_in t); stands = λ a e. cc }
from_unopened (Open phase u) t none = cc

module _ (g : Setting) (call : Call) (r : Rules g call) (other : call ≡ TakeMessage → ⊥) where
  more_packets : (act : PacketAct Carried call) → More (before_packets act) (after_packets act)
  more_packets (begins p m new summed to) = goes_nowhere m.state
  more_packets (adds_plain chunk m plain others fair) = goes_nowhere m.state
  more_packets (emits m some bundled) = goes_nowhere m.state
  more_packets (emits_error kind text m) = goes_nowhere m.state
  more_packets (counts m) = goes_nowhere m.state

  more_opening : (act : OpeningAct Carried call) → InvAt g (before_opening act) → More (before_opening act) (after_opening act)
  more_opening (connects m is) inv = record { ready = extends_none []; stands = λ a e. e }
  more_opening (adds_init tag first t1 m to) inv = record { ready = extends_none []; stands = λ a e. e }
  more_opening (answers_new tag i m h to) inv = record { ready = extends_none []; stands = λ a e. e }
  more_opening (answers_waiting tag i own first t1 m h to) inv = record { ready = extends_none []; stands = λ a e. e }
  more_opening (answers_echoed tag i t1 cookie t m h to) inv = record { ready = extends_none t.reassembly.ready; stands = λ a e. e }
  more_opening (answers_again tag i phase t m h late to) inv = record { ready = extends_none t.reassembly.ready; stands = λ a e. e }
  more_opening (echoes tag i cookie own first t1 m h brought) inv = from_unopened _ _ refl
  more_opening (adds_cookie t1 cookie t m to) inv = record { ready = extends_none t.reassembly.ready; stands = λ a e. e }
  more_opening (establishes tag t1 cookie t m h) inv = record { ready = extends_none t.reassembly.ready; stands = λ a e. e }
  more_opening (opens tag k m h none own) inv = from_unopened m.state _ none
  more_opening (restarts tag k phase t m h resolution) inv = absurd (no_restart _ (same_verdict g call r tag k phase t m h inv) resolution)
  more_opening (opens_again tag k phase t m h resolution) inv = absurd (no_again _ (same_verdict g call r tag k phase t m h inv) resolution)
  more_opening (maintains tag k t1 cookie t m h resolution) inv = record { ready = extends_none t.reassembly.ready; stands = λ a e. e }
  more_opening (adds_cookie_ack tag back phase t m echoed late) inv = record { ready = extends_none t.reassembly.ready; stands = λ a e. e }

  more_closing : (act : ClosingAct Carried call) → HasNoEnd (after_closing act) → More (before_closing act) (after_closing act)
  more_closing (closes e m there is) none = absurd (no_end_over e m is none)
  more_closing (shuts phase t m is early) none = record { ready = extends_none t.reassembly.ready; stands = λ a e. e }
  more_closing (shuts_on phase next t m late later) none = record { ready = extends_none t.reassembly.ready; stands = λ a e. e }

  more_data : (act : DataAct Carried call) → More (before_data act) (after_data act)
  more_data (takes_data tag tsn is_immediate f phase t m received right some is) =
      record { ready = more_added t.reassembly (has_seen t.tracker.tracker (tsn_of t.tracker tsn)) tsn f; stands = λ a e. e }
  more_data (takes_idata tag tsn is_immediate f phase t m received right some is) =
      record { ready = more_added t.reassembly (has_seen t.tracker.tracker (tsn_of t.tracker tsn)) tsn f; stands = λ a e. e }
  more_data (takes_forward tag tsn skipped phase t m received right valid) =
      record { ready = more_skipped t.reassembly (moves_on (tsn_of t.tracker tsn) t.tracker.tracker) tsn skipped; stands = λ a e. e }
  more_data (takes_iforward tag tsn skipped phase t m received right valid) =
      record { ready = more_skipped t.reassembly (moves_on (tsn_of t.tracker tsn) t.tracker.tracker) tsn skipped; stands = λ a e. e }

  more_sack : (act : SackAct Carried call) → More (before_sack act) (after_sack act)
  more_sack (takes_sack tag k phase t m received valid) = record { ready = extends_none t.reassembly.ready; stands = λ a e. e }
  more_sack (samples k phase t m) = record { ready = extends_none t.reassembly.ready; stands = λ a e. e }
  more_sack (counts_errors e m) = goes_nowhere m.state

  more_sending : (act : SendingAct Carried call) → More (before_sending act) (after_sending act)
  more_sending (asks also_if_delayed phase t m) = record { ready = extends_none t.reassembly.ready; stands = λ a e. e }
  more_sending (forces_ack phase t m) = record { ready = extends_none t.reassembly.ready; stands = λ a e. e }
  more_sending (adds_ack phase t m) = record { ready = extends_none t.reassembly.ready; stands = λ a e. e }
  more_sending (expires phase t m) = record { ready = extends_none t.reassembly.ready; stands = λ a e. e }
  more_sending (adds_forward phase t m due) = record { ready = extends_none t.reassembly.ready; stands = λ a e. e }
  more_sending (forwards_later n m) = goes_nowhere m.state
  more_sending (asks_no_reset most m none) = goes_nowhere m.state
  more_sending (asks_reset most stream streams phase t m some free) = record { ready = extends_none t.reassembly.ready; stands = λ a e. e }
  more_sending (adds_request k phase t m is) = record { ready = extends_none t.reassembly.ready; stands = λ a e. e }
  more_sending (sends phase t m) = record { ready = extends_none t.reassembly.ready; stands = λ a e. e }
  more_sending (sends_fast phase t m some) = record { ready = extends_none t.reassembly.ready; stands = λ a e. e }

  more_time : (act : TimeAct Carried call) → More (before_time act) (after_time act)
  more_time (advances now m is on) = goes_nowhere m.state
  more_time (delay_ends phase t m) = record { ready = extends_none t.reassembly.ready; stands = λ a e. e }
  more_time (times_out phase t m due) = record { ready = extends_none t.reassembly.ready; stands = λ a e. e }
  more_time (beats h m) = goes_nowhere m.state
  more_time (times_init tag first old new m) = record { ready = extends_none []; stands = λ a e. e }
  more_time (times_cookie old new cookie t m) = record { ready = extends_none t.reassembly.ready; stands = λ a e. e }
  more_time (times_request timer phase t m) = record { ready = extends_none t.reassembly.ready; stands = λ a e. e }
  more_time (times_items timer phase t m) = record { ready = extends_none t.reassembly.ready; stands = λ a e. e }
  more_time (wakes_request phase t m) = record { ready = extends_none t.reassembly.ready; stands = λ a e. e }

  more_calls : (act : CallAct Carried call) → More (before_call act) (after_call act)
  more_calls (accepts message o m offered fine) = goes_nowhere m.state
  more_calls (refuses message o e m offered is) = goes_nowhere m.state
  more_calls (takes_message phase t m is) = absurd (other is)
  more_calls (sets_low_threshold stream bytes m is) = goes_nowhere m.state
  more_calls (sets_priority stream priority m is) = goes_nowhere m.state
  more_calls (sets_max_message_size bytes m is) = goes_nowhere m.state

  more_resets : (act : ResetAct Carried call) → More (before_reset act) (after_reset act)
  more_resets (prepares stream phase t m asked can) = record { ready = extends_none t.reassembly.ready; stands = λ a e. e }
  more_resets (defers number response last_tsn streams phase t m asked known ahead) = record { ready = extends_none t.reassembly.ready; stands = λ a e. e }
  more_resets (performs number response last_tsn streams phase t m asked known there) = record { ready = more_reset streams t.reassembly; stands = λ a e. e }
  more_resets (processes number streams phase t m asked known) = record { ready = extends_none t.reassembly.ready; stands = λ a e. e }
  more_resets (takes_response rto number result sender receiver phase t m asked) = record { ready = extends_none t.reassembly.ready; stands = λ a e. e }
  more_resets (adds_responses responses phase t m are answers) = record { ready = extends_none t.reassembly.ready; stands = λ a e. e }

  more_handover : (act : HandoverAct Carried call) → HasNoEnd (after_handover act) → More (before_handover act) (after_handover act)
  more_handover (leaves phase t m is) none = absurd (no_end m (after_handover {call = call} (leaves phase t m is)) OnClosed refl refl none)
  more_handover (takes_up h m is valid) none = from_unopened _ _ refl

  more_input : (act : InputAct Carried call) → More (before_input act) (after_input act)
  more_input (ends_packet phase t m) = record { ready = extends_none t.reassembly.ready; stands = λ a e. e }

  -- with what two ends know of each other
  abbrev pub Readies : (before after : EndWithPacket Carried) → Type 0
  Readies a b = InvAt g a → InvAt g b × More a b

  readies_through : (a b c : EndWithPacket Carried) → Readies a b → Readies b c → Readies a c
  readies_through a b c f h inv =
      let first : InvAt g b × More a b = f inv in
      let second : InvAt g c × More b c = h first.0 in
      (second.0, goes_both a.state b.state c.state first.1 second.1)

  pub readies : PreservesUntilEnd call Readies
  readies =
      let k : PreservesUntilEnd call (λ a b. InvAt g a → InvAt g b) = joins g call r in
      record {
        same = λ m inv. (inv, goes_nowhere m.state);
        through = λ {a} {b} {c}. readies_through a b c;
        packets = λ act none inv. (k.packets act none inv, more_packets act);
        opening = λ act none inv. (k.opening act none inv, more_opening act inv);
        closing = λ act none inv. (k.closing act none inv, more_closing act none);
        data_acts = λ act none inv. (k.data_acts act none inv, more_data act);
        acknowledging = λ act none inv. (k.acknowledging act none inv, more_sack act);
        sending = λ act none inv. (k.sending act none inv, more_sending act);
        time = λ act none inv. (k.time act none inv, more_time act);
        calls = λ act none inv. (k.calls act none inv, more_calls act);
        resets = λ act none inv. (k.resets act none inv, more_resets act);
        handover = λ act none inv. (k.handover act none inv, more_handover act none);
        input = λ act none inv. (k.input act none inv, more_input act);
      }
