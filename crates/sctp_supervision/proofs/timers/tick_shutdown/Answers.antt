use Rattle.std.proofs.Common.{◌≡◌, ℕ, Bool, true, false, cond, ap, ◌∙◌}
use Rattle.std.proofs.lemmas.Result.{IfOk-weaker}
use Rattle.sctp_endpoint.specs.Views.{context_of, timer_outcome_of, tcb_of, ticking_of}
use Rattle.sctp_endpoint.proofs.GoesOnLemmas.{goes_on_through}
use Rattle.sctp_state.specs.Timer.{Timer, is_due, is_running, expire}
use Rattle.spec_endpoint.specs.Association.{Tcb, Context}
use Rattle.spec_endpoint.specs.Shutdown.{send_shutdown, send_shutdown_ack}
use Rattle.spec_endpoint.specs.Timers as table
use Rattle.sctp_supervision.proofs.timers.tick_shutdown.Goals as goal

module _ {P : Type 0} (now : ℕ) (again : Tcb → Context P → Context P) (t2 : Timer) (x y : table.Ticking P) (is : x ≡ y) where
  not_due : false ≡ is_due now t2 → table.after_ticks x ≡ table.tick_t2 now again t2 y
  not_due d = ap (λ b. table.t2_if b now again t2 x) d ∙ ap (λ z. table.tick_t2 now again t2 z) is

  due : (b : Bool) → true ≡ is_due now t2 → b ≡ is_running (expire now t2) → table.t2_expired b again x.tcb x.context ≡ table.tick_t2 now again t2 y
  due b d r =
      ap (λ e. table.t2_expired e again x.tcb x.context) r ∙ ap (λ e. table.t2_if e now again t2 x) d ∙ ap (λ z. table.tick_t2 now again t2 z) is

pub returns-then-not-expire-clause-timer : goal.returns-then-not-expire-clause-timer
returns-then-not-expire-clause-timer g c =
    IfOk-weaker c.after_ticks.result _ _ (λ _ _. c.if-not-expire.ensures.after ∙ ap (λ u. expire u.clock c.args.t2_shutdown.now) c.context.view_is) c.after_ticks.ensures.ok

pub returns-then-not-expire-clause-left : goal.returns-then-not-expire-clause-left
returns-then-not-expire-clause-left g c =
    let word_of = g.C.Checksum.word_of in
    let again = cond c.args.is_ack send_shutdown_ack send_shutdown in
    let t2 = c.args.t2_shutdown.now in
    let now = c.args.context.now.clock in
    let x = ticking_of word_of c.tick_tcb.new.tcb c.tick_tcb.new.context c.in_ok-has_expired.has_expired in
    let y = table.tick_timers (tcb_of c.args.tcb.now) (context_of word_of c.args.context.now) in
    let answer = c.if-not-expire.ensures.answer ∙ ap (λ u. is_due u.clock t2) c.context.view_is in
    let to = not_due now again t2 x y c.in_ok-has_expired.ensures.ok answer in
    IfOk-weaker c.after_ticks.result (λ ended. timer_outcome_of word_of c.after_ticks.new.tcb c.after_ticks.new.context ended ≡ table.after_ticks x)
    (λ ended. timer_outcome_of word_of c.after_ticks.new.tcb c.after_ticks.new.context ended ≡ table.tick_t2 now again t2 y) (λ _ h. h ∙ to) c.after_ticks.ensures.ok

pub returns-then-not-expire-clause-goes_on : goal.returns-then-not-expire-clause-goes_on
returns-then-not-expire-clause-goes_on g c =
    goes_on_through c.args.context.now c.tick_tcb.new.context c.after_ticks.new.context c.in_ok-has_expired.ensures.goes_on c.after_ticks.ensures.goes_on

pub returns-then-not-is_running-clause-timer : goal.returns-then-not-is_running-clause-timer
returns-then-not-is_running-clause-timer g c =
    c.if-not-expire.ensures.after ∙ ap (λ u. expire u.clock c.args.t2_shutdown.now) c.context.view_is

pub returns-then-not-is_running-clause-left : goal.returns-then-not-is_running-clause-left
returns-then-not-is_running-clause-left g c =
    let word_of = g.C.Checksum.word_of in
    let again = cond c.args.is_ack send_shutdown_ack send_shutdown in
    let t2 = c.args.t2_shutdown.now in
    let now = c.args.context.now.clock in
    let x = ticking_of word_of c.tick_tcb.new.tcb c.tick_tcb.new.context c.in_ok-has_expired.has_expired in
    let y = table.tick_timers (tcb_of c.args.tcb.now) (context_of word_of c.args.context.now) in
    let answer = c.if-not-expire.ensures.answer ∙ ap (λ u. is_due u.clock t2) c.context.view_is in
    let running = c.if-not-is_running.ensures ∙ ap is_running (c.if-not-expire.ensures.after ∙ ap (λ u. expire u.clock t2) c.context.view_is) in
    ap (λ d. table.timer_outcome x.tcb d true) c.in_ok-abort_by_retransmissions.ensures.ok ∙ due now again t2 x y c.in_ok-has_expired.ensures.ok false answer running

pub returns-then-not-is_running-clause-goes_on : goal.returns-then-not-is_running-clause-goes_on
returns-then-not-is_running-clause-goes_on g c =
    goes_on_through c.args.context.now c.tick_tcb.new.context c.abort_by_retransmissions.new.self c.in_ok-has_expired.ensures.goes_on
    c.in_ok-abort_by_retransmissions.ensures.goes_on

pub returns-clause-timer : goal.returns-clause-timer
returns-clause-timer g c =
    IfOk-weaker c.abort_or_send.result _ _ (λ _ _. c.if-not-expire.ensures.after ∙ ap (λ u. expire u.clock c.args.t2_shutdown.now) c.context.view_is) c.abort_or_send.ensures.ok

pub returns-clause-left : goal.returns-clause-left
returns-clause-left g c =
    let word_of = g.C.Checksum.word_of in
    let again = cond c.args.is_ack send_shutdown_ack send_shutdown in
    let t2 = c.args.t2_shutdown.now in
    let now = c.args.context.now.clock in
    let x = ticking_of word_of c.tick_tcb.new.tcb c.tick_tcb.new.context c.in_ok-has_expired.has_expired in
    let y = table.tick_timers (tcb_of c.args.tcb.now) (context_of word_of c.args.context.now) in
    let answer = c.if-not-expire.ensures.answer ∙ ap (λ u. is_due u.clock t2) c.context.view_is in
    let running = c.if-not-is_running.ensures ∙ ap is_running (c.if-not-expire.ensures.after ∙ ap (λ u. expire u.clock t2) c.context.view_is) in
    let d = context_of word_of c.send_again.new.context in
    let to = ap (λ e. table.abort_or_send x.tcb e) c.in_ok-send_again.ensures.ok ∙ due now again t2 x y c.in_ok-has_expired.ensures.ok true answer running in
    IfOk-weaker c.abort_or_send.result (λ ended. timer_outcome_of word_of c.abort_or_send.new.tcb c.abort_or_send.new.context ended ≡ table.abort_or_send x.tcb d)
    (λ ended. timer_outcome_of word_of c.abort_or_send.new.tcb c.abort_or_send.new.context ended ≡ table.tick_t2 now again t2 y) (λ _ h. h ∙ to) c.abort_or_send.ensures.ok

pub returns-clause-goes_on : goal.returns-clause-goes_on
returns-clause-goes_on g c =
    goes_on_through c.args.context.now c.tick_tcb.new.context c.abort_or_send.new.context c.in_ok-has_expired.ensures.goes_on
    (goes_on_through c.tick_tcb.new.context c.send_again.new.context c.abort_or_send.new.context c.in_ok-send_again.ensures.goes_on c.abort_or_send.ensures.goes_on)

pub returns-in_err-abort_by_retransmissions-clause-goes_on : goal.returns-in_err-abort_by_retransmissions-clause-goes_on
returns-in_err-abort_by_retransmissions-clause-goes_on g c =
    goes_on_through c.args.context.now c.tick_tcb.new.context c.abort_by_retransmissions.new.self c.in_ok-has_expired.ensures.goes_on
    c.abort_by_retransmissions.ensures.goes_on

pub returns-in_err-send_again-clause-goes_on : goal.returns-in_err-send_again-clause-goes_on
returns-in_err-send_again-clause-goes_on g c =
    goes_on_through c.args.context.now c.tick_tcb.new.context c.send_again.new.context c.in_ok-has_expired.ensures.goes_on c.send_again.ensures.goes_on

pub returns-then-not-expire-clause-received : goal.returns-then-not-expire-clause-received
returns-then-not-expire-clause-received g c = c.after_ticks.ensures.received ∙ c.in_ok-has_expired.ensures.received

pub returns-then-not-expire-clause-identity : goal.returns-then-not-expire-clause-identity
returns-then-not-expire-clause-identity g c = c.after_ticks.ensures.identity ∙ c.in_ok-has_expired.ensures.identity

pub returns-clause-received : goal.returns-clause-received
returns-clause-received g c = c.abort_or_send.ensures.received ∙ c.in_ok-has_expired.ensures.received

pub returns-clause-identity : goal.returns-clause-identity
returns-clause-identity g c = c.abort_or_send.ensures.identity ∙ c.in_ok-has_expired.ensures.identity
