-- Each act that can happen before an association ends keeps what an end says and refines as a sender.
use Rattle.std.proofs.Common.{◌≡◌, ℕ, Bool, Option, List, [], refl, sym, ap, subst}
use Rattle.sctp_packet.specs.Chunk.{re_config_chunk}
use Rattle.sctp_tx_queue.specs.declared.send_queue.stream.ResetStep.TheVariants.{Requested}
use Rattle.sctp_tx_queue.specs.SendQueue.{Queue}
use Rattle.sctp_tx_queue.specs.Resets.{each_stepped, streams_to_request, request_resets}
use Rattle.proof_protocol.specs.State.{Message}
use Rattle.spec_endpoint.specs.Association.{CookieEchoed, CookieWait}
use Rattle.spec_endpoint.specs.Sack.{timed_by}
use Rattle.spec_endpoint.specs.ResetRequests.{clear_deferral}
use Rattle.spec_endpoint.specs.Sending.{selective_ack, take_due_ack, force_ack, without_duplicates}
use Rattle.spec_endpoint.specs.Laws.{Call}
use Rattle.proof_endpoint.specs.Mapped.{Carried}
use Rattle.sctp_rx.specs.DataTracker.{ack_timeout}
use Rattle.proof_endpoint.specs.Acts.{EndWithPacket, in_open, in_state, with_chunk, with_context, SackAct, takes_sack, samples, counts_errors, before_sack, after_sack, SendingAct, asks, forces_ack, adds_ack, expires, adds_forward, forwards_later, asks_no_reset, asks_reset, adds_request, sends, sends_fast, before_sending, after_sending, TimeAct, advances, delay_ends, times_out, beats, times_init, times_cookie, times_request, times_items, wakes_request, before_time, after_time, ResetAct, prepares, defers, performs, processes, takes_response, adds_responses, before_reset, after_reset}
use Rattle.proof_pair.proofs.JoinActsLemmas.{Setting, InvAt}
use Rattle.proof_delivery.proofs.ClaimLemmas.{Direction, SendsIn, SenderGoes, SenderPremises}
use Rattle.proof_delivery.proofs.FrameLemmas.{IsReceivedReset, KeepsJoined}
use Rattle.proof_delivery.proofs.SenderAsksLemmas.{asking_reads, asking_woken}
use Rattle.proof_delivery.proofs.SenderStaysLemmas.{emits_nothing, responses_ask_nothing, goes_through, goes_same, goes_saying, goes_adding, goes_open, packet_act_goes, closing_act_goes, data_act_goes, call_act_goes, defers_goes, performs_goes, processes_goes, input_act_goes}
use Rattle.proof_delivery.proofs.SenderMovesLemmas.{expires_keeps, times_out_keeps, adds_forward_keeps, sends_keeps, sends_fast_keeps, takes_sack_keeps}
use Rattle.proof_delivery.proofs.SenderResetLemmas.{asks_reset_keeps, adds_request_keeps, takes_response_keeps}
use Rattle.proof_delivery.proofs.SenderOpeningLemmas.{opening_act_goes}

module _ (message : ℕ → Message) (lifecycle : ℕ → Option ℕ) (is_interleaved : Bool) (from : Direction) where
  -- no stream is ready
  goes_unasked : (most : ℕ) (m : EndWithPacket Carried) → streams_to_request most m.context.queue ≡ []
      → SenderGoes message lifecycle is_interleaved from m (with_context (record m.context { queue = request_resets most m.context.queue }) m)
  goes_unasked most m none =
      let q : Queue = m.context.queue in
      let same : request_resets most q ≡ q = ap (λ (ids : List ℕ). each_stepped Requested ids q) none in
      goes_same message lifecycle is_interleaved from m (with_context (record m.context { queue = request_resets most q }) m)
      (λ x h. subst (λ (z : Queue). SendsIn message lifecycle is_interleaved m.state z x) (sym same) h) refl refl refl refl (emits_nothing m.context.emitted.events) refl

  module _ (g : Setting) (call : Call) (p : SenderPremises message lifecycle is_interleaved g call from) where
    keeps_sack : (act : SackAct Carried call) → InvAt g (before_sack act) → InvAt g (after_sack act) → SenderGoes message lifecycle is_interleaved from (before_sack act) (after_sack act)
    keeps_sack (takes_sack tag k phase t m received valid) inv later = takes_sack_keeps message lifecycle is_interleaved from g call p tag k phase t m received valid inv
    keeps_sack (samples r phase t m) inv later = goes_open message lifecycle is_interleaved from phase phase t (timed_by r t) m refl refl refl (λ x h. h)
    keeps_sack (counts_errors e m) inv later =
        goes_same message lifecycle is_interleaved from m (after_sack {call = call} (counts_errors e m)) (λ x h. h) refl refl refl refl (emits_nothing m.context.emitted.events) refl

    keeps_sending : (act : SendingAct Carried call) → InvAt g (before_sending act) → InvAt g (after_sending act)
        → SenderGoes message lifecycle is_interleaved from (before_sending act) (after_sending act)
    keeps_sending (asks also_if_delayed phase t m) inv later = goes_open message lifecycle is_interleaved from phase phase t (take_due_ack also_if_delayed t) m refl refl refl (λ x h. h)
    keeps_sending (forces_ack phase t m) inv later = goes_open message lifecycle is_interleaved from phase phase t (force_ack t) m refl refl refl (λ x h. h)
    keeps_sending (adds_ack phase t m) inv later =
        goes_through message lifecycle is_interleaved from (in_open phase t m) (in_open phase (without_duplicates t) m) (with_chunk (selective_ack t) (in_open phase (without_duplicates t) m))
        (goes_open message lifecycle is_interleaved from phase phase t (without_duplicates t) m refl refl refl (λ x h. h))
        (goes_adding message lifecycle is_interleaved from (in_open phase (without_duplicates t) m) (selective_ack t) (λ first least x. tt))
    keeps_sending (expires phase t m) inv later = expires_keeps message lifecycle is_interleaved from call phase t m
    keeps_sending (adds_forward phase t m due) inv later = adds_forward_keeps message lifecycle is_interleaved from call p.kept phase t m due
    keeps_sending (forwards_later n m) inv later =
        goes_same message lifecycle is_interleaved from m (after_sending {call = call} (forwards_later n m)) (λ x h. h) refl refl refl refl (emits_nothing m.context.emitted.events) refl
    keeps_sending (asks_no_reset most m none) inv later = goes_unasked most m none
    keeps_sending (asks_reset most stream streams phase t m some free) inv later = asks_reset_keeps message lifecycle is_interleaved from p.kept most stream streams phase t m some free
    keeps_sending (adds_request r phase t m is) inv later = adds_request_keeps message lifecycle is_interleaved from r phase t m is
    keeps_sending (sends phase t m) inv later = sends_keeps message lifecycle is_interleaved from g call p phase t m inv
    keeps_sending (sends_fast phase t m some) inv later = sends_fast_keeps message lifecycle is_interleaved from g call p phase t m some inv

    keeps_time : (act : TimeAct Carried call) → InvAt g (before_time act) → InvAt g (after_time act) → SenderGoes message lifecycle is_interleaved from (before_time act) (after_time act)
    keeps_time (advances now m is on) inv later =
        goes_same message lifecycle is_interleaved from m (after_time {call = call} (advances now m is on)) (λ x h. h) refl refl refl refl (emits_nothing m.context.emitted.events) refl
    keeps_time (delay_ends phase t m) inv later =
        goes_open message lifecycle is_interleaved from phase phase t (record t { tracker = record t.tracker { tracker = ack_timeout m.context.now t.tracker.tracker } }) m refl refl refl (λ x h. h)
    keeps_time (times_out phase t m due) inv later = times_out_keeps message lifecycle is_interleaved from call phase t m due
    keeps_time (beats h m) inv later = goes_same message lifecycle is_interleaved from m (after_time {call = call} (beats h m)) (λ x h. h) refl refl refl refl (emits_nothing m.context.emitted.events) refl
    keeps_time (times_init tag first old new m) inv later =
        goes_same message lifecycle is_interleaved from (in_state (CookieWait tag first old) m) (in_state (CookieWait tag first new) m) (λ x h. h) refl refl refl refl (emits_nothing m.context.emitted.events) refl
    keeps_time (times_cookie old new cookie t m) inv later =
        goes_open message lifecycle is_interleaved from (CookieEchoed old cookie) (CookieEchoed new cookie) t t m refl refl refl (λ x h. h)
    keeps_time (times_request timer phase t m) inv later =
        goes_open message lifecycle is_interleaved from phase phase t (record t { requests = record t.requests { timer = timer } }) m refl refl refl
        (λ x h. asking_reads t.identity.my_first x.answered x.asks m.context.queue t.requests (record t.requests { timer = timer }) refl refl h)
    keeps_time (times_items timer phase t m) inv later =
        goes_open message lifecycle is_interleaved from phase phase t (record t { sender = record t.sender { t3 = timer } }) m refl refl refl (λ x h. h)
    keeps_time (wakes_request phase t m) inv later =
        goes_open message lifecycle is_interleaved from phase phase t (record t { requests = clear_deferral t.requests }) m refl refl refl
        (λ x h. asking_woken t.identity.my_first x.answered x.asks m.context.queue t.requests h)

    keeps_reset : (act : ResetAct Carried call) → IsReceivedReset act → InvAt g (before_reset act) → SenderGoes message lifecycle is_interleaved from (before_reset act) (after_reset act)
    keeps_reset (prepares stream phase t m asked can) on inv = absurd on
    keeps_reset (defers number response last_tsn streams phase t m asked known ahead) on inv = defers_goes message lifecycle is_interleaved from phase t m number last_tsn.0 streams
    keeps_reset (performs number response last_tsn streams phase t m asked known there) on inv = performs_goes message lifecycle is_interleaved from phase t m number streams
    keeps_reset (processes number streams phase t m asked known) on inv = processes_goes message lifecycle is_interleaved from phase t m number
    keeps_reset (takes_response rto number result sender receiver phase t m asked) on inv =
        takes_response_keeps message lifecycle is_interleaved from g call p rto number result sender receiver phase t m asked inv
    keeps_reset (adds_responses responses phase t m are answers) on inv =
        goes_saying message lifecycle is_interleaved from (in_open phase t m) (re_config_chunk responses)
        (λ prepared x claim. responses_ask_nothing t.sender.outstanding.first x.asks responses are)

    pub sender_keeps : KeepsJoined g call (SenderGoes message lifecycle is_interleaved from)
    sender_keeps = record {
      same = λ m prepared x claim. (x, claim);
      through = λ {a} {b} {c}. goes_through message lifecycle is_interleaved from a b c;
      packets = λ act inv later. packet_act_goes message lifecycle is_interleaved from g act inv;
      opening = opening_act_goes message lifecycle is_interleaved from g call p;
      closing = λ act on inv later. closing_act_goes message lifecycle is_interleaved from act on;
      data_acts = λ act inv later. data_act_goes message lifecycle is_interleaved from act;
      acknowledging = keeps_sack;
      sending = keeps_sending;
      time = keeps_time;
      calls = λ act on inv later. call_act_goes message lifecycle is_interleaved from act on;
      resets = λ act on inv later. keeps_reset act on inv;
      input = λ act inv later. input_act_goes message lifecycle is_interleaved from act;
    }
