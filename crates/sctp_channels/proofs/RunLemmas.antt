-- What each act keeps, and so each run of them.
use Rattle.std.proofs.Common.{◌≡◌, ℕ, ◌+◌, ◌≤◌, ◌==◌, cond, Bool, true, false, not, ◌&&◌, ◌||◌, List, [], ◌∷◌, refl, sym, ap, ◌∙◌, arith}
use Rattle.sctp_channels.specs.Lifecycle.{answered, closed, confirmed, drained, is_connecting, is_draining, is_over, is_sending, is_stopped, may_send, settled, waits_for_answer}
use Rattle.sctp_channels.specs.Runs.{Act, confirms, closes, stops_incoming, drains, finishes, denies, act, asks, has, is_answer, is_confirmation, is_finish, is_stop, resets_asked, run}
use Rattle.sctp_channels.specs.declared.lifecycle.Lifecycle.{Lifecycle}
use Rattle.sctp_channels.specs.declared.lifecycle.Opening.{Opening}
use Rattle.sctp_channels.specs.declared.lifecycle.Opening.TheVariants.{Connecting, Established, Refused}
use Rattle.sctp_channels.specs.declared.lifecycle.Outgoing.{Outgoing}
use Rattle.sctp_channels.specs.declared.lifecycle.Outgoing.TheVariants.{Sending, Draining, Resetting, Stopped, Denied}

-- ---- tests

clash : true ≡ false → ⊥
clash e = cc

or_true : (a b : Bool) → (a || b) ≡ true → a ≡ false → b ≡ true
or_true true b e f = cc
or_true false b e f = e

or_assoc : (a b c : Bool) → ((a || b) || c) ≡ (a || (b || c))
or_assoc true b c = refl
or_assoc false b c = refl

or_false : (a b : Bool) → (a || b) ≡ false → (a ≡ false) × (b ≡ false)
or_false true b e = cc
or_false false b e = (refl, e)

both_true : (a b : Bool) → (a && b) ≡ true → (a ≡ true) × (b ≡ true)
both_true true b e = (refl, e)
both_true false b e = cc

-- ---- resets that are still to be asked for

abbrev left : Outgoing → ℕ
left Sending = 1
left Draining = 1
left _ = 0

left_closed : (o : Outgoing) → left (closed o) ≡ left o
left_closed Sending = refl
left_closed Draining = refl
left_closed Resetting = refl
left_closed Stopped = refl
left_closed Denied = refl

left_drained : (b : Bool) (o : Outgoing) → cond (is_draining o && b) 1 0 + left (drained (is_draining o && b) o) ≡ left o
left_drained b Sending = refl
left_drained true Draining = refl
left_drained false Draining = refl
left_drained b Resetting = refl
left_drained b Stopped = refl
left_drained b Denied = refl

left_settled : (outcome o : Outgoing) → left outcome ≡ 0 → left (settled outcome o) ≡ left o
left_settled outcome Sending e = refl
left_settled outcome Draining e = refl
left_settled outcome Resetting e = e
left_settled outcome Stopped e = refl
left_settled outcome Denied e = refl

left_answered : (b : Bool) (outcome : Outgoing) (l : Lifecycle) → left outcome ≡ 0 → left (answered b outcome l).outgoing ≡ left l.outgoing
left_answered true outcome l e = refl
left_answered false outcome l e = left_settled outcome l.outgoing e

act_left : (a : Act) (l : Lifecycle) → cond (asks a l) 1 0 + left (act a l).outgoing ≡ left l.outgoing
act_left confirms l = omega arith
act_left closes l = omega (arith, left_closed l.outgoing)
act_left stops_incoming l = omega (arith, left_closed l.outgoing)
act_left (drains buffered) l = left_drained (not l.awaits_answer && (buffered == 0)) l.outgoing
act_left finishes l = omega (arith, left_answered l.awaits_answer Stopped l refl)
act_left denies l = omega (arith, left_answered l.awaits_answer Denied l refl)

run_left : (acts : List Act) (l : Lifecycle) → resets_asked acts l + left (run acts l).outgoing ≡ left l.outgoing
run_left [] l = omega arith
run_left (a ∷ acts) l = omega (arith, run_left acts (act a l), act_left a l)

left_at_most : (o : Outgoing) → left o ≤ 1
left_at_most Sending = omega arith
left_at_most Draining = omega arith
left_at_most Resetting = omega arith
left_at_most Stopped = omega arith
left_at_most Denied = omega arith

pub at_most_one_reset : (acts : List Act) (l : Lifecycle) → resets_asked acts l ≤ 1
at_most_one_reset acts l = omega (arith, run_left acts l, left_at_most l.outgoing)

left_of_sending : (o : Outgoing) → is_sending o ≡ true → left o ≡ 1
left_of_sending Sending e = refl
left_of_sending Draining e = cc
left_of_sending Resetting e = cc
left_of_sending Stopped e = cc
left_of_sending Denied e = cc

left_of_stopped : (o : Outgoing) → is_stopped o ≡ true → left o ≡ 0
left_of_stopped Sending e = cc
left_of_stopped Draining e = cc
left_of_stopped Resetting e = cc
left_of_stopped Stopped e = refl
left_of_stopped Denied e = cc

-- ---- while the reset before is unanswered

act_awaits : (a : Act) (l : Lifecycle) → is_answer a ≡ false → (act a l).awaits_answer ≡ l.awaits_answer
act_awaits confirms l e = refl
act_awaits closes l e = refl
act_awaits stops_incoming l e = refl
act_awaits (drains buffered) l e = refl
act_awaits finishes l e = cc
act_awaits denies l e = cc

not_meanwhile : (drains awaits sent : Bool) → awaits ≡ true → (drains && (not awaits && sent)) ≡ false
not_meanwhile false awaits sent e = refl
not_meanwhile true true sent e = refl
not_meanwhile true false sent e = cc

asks_none : (a : Act) (l : Lifecycle) → l.awaits_answer ≡ true → asks a l ≡ false
asks_none confirms l e = refl
asks_none closes l e = refl
asks_none stops_incoming l e = refl
asks_none (drains buffered) l e = not_meanwhile (is_draining l.outgoing) l.awaits_answer (buffered == 0) e
asks_none finishes l e = refl
asks_none denies l e = refl

none_counted : (b : Bool) → b ≡ false → ◌≡◌ {A = ℕ} (cond b 1 0) 0
none_counted true e = cc
none_counted false e = refl

pub none_before_the_answer : (acts : List Act) (l : Lifecycle) → l.awaits_answer ≡ true → has is_answer acts ≡ false → resets_asked acts l ≡ 0
none_before_the_answer [] l e none = refl
none_before_the_answer (a ∷ acts) l e none =
    let parts = or_false (is_answer a) (has is_answer acts) none in
    omega (arith, none_counted (asks a l) (asks_none a l e), none_before_the_answer acts (act a l) (act_awaits a l parts.0 ∙ e) parts.1)

-- ---- the incoming stream

incoming_answered : (b : Bool) (outcome : Outgoing) (l : Lifecycle) → (answered b outcome l).is_incoming_reset ≡ l.is_incoming_reset
incoming_answered true outcome l = refl
incoming_answered false outcome l = refl

or_same : (a : Bool) → a ≡ (a || false)
or_same true = refl
or_same false = refl

or_last : (a : Bool) → true ≡ (a || true)
or_last true = refl
or_last false = refl

act_incoming : (a : Act) (l : Lifecycle) → (act a l).is_incoming_reset ≡ (l.is_incoming_reset || is_stop a)
act_incoming confirms l = or_same l.is_incoming_reset
act_incoming closes l = or_same l.is_incoming_reset
act_incoming stops_incoming l = or_last l.is_incoming_reset
act_incoming (drains buffered) l = or_same l.is_incoming_reset
act_incoming finishes l = incoming_answered l.awaits_answer Stopped l ∙ or_same l.is_incoming_reset
act_incoming denies l = incoming_answered l.awaits_answer Denied l ∙ or_same l.is_incoming_reset

run_incoming : (acts : List Act) (l : Lifecycle) → (run acts l).is_incoming_reset ≡ (l.is_incoming_reset || has is_stop acts)
run_incoming [] l = or_same l.is_incoming_reset
run_incoming (a ∷ acts) l =
    run_incoming acts (act a l) ∙ ap (λ (b : Bool). b || has is_stop acts) (act_incoming a l) ∙ or_assoc l.is_incoming_reset (is_stop a) (has is_stop acts)

-- ---- a stream that is stopped

stopped_closed : (o : Outgoing) → is_stopped (closed o) ≡ is_stopped o
stopped_closed Sending = refl
stopped_closed Draining = refl
stopped_closed Resetting = refl
stopped_closed Stopped = refl
stopped_closed Denied = refl

stopped_drained : (b : Bool) (o : Outgoing) → is_stopped (drained (is_draining o && b) o) ≡ is_stopped o
stopped_drained b Sending = refl
stopped_drained true Draining = refl
stopped_drained false Draining = refl
stopped_drained b Resetting = refl
stopped_drained b Stopped = refl
stopped_drained b Denied = refl

stopped_denied : (o : Outgoing) → is_stopped (settled Denied o) ≡ is_stopped o
stopped_denied Sending = refl
stopped_denied Draining = refl
stopped_denied Resetting = refl
stopped_denied Stopped = refl
stopped_denied Denied = refl

stopped_answered : (b : Bool) (l : Lifecycle) → is_stopped (answered b Denied l).outgoing ≡ is_stopped l.outgoing
stopped_answered true l = refl
stopped_answered false l = stopped_denied l.outgoing

act_stopped : (a : Act) (l : Lifecycle) → is_finish a ≡ false → is_stopped (act a l).outgoing ≡ is_stopped l.outgoing
act_stopped confirms l e = refl
act_stopped closes l e = stopped_closed l.outgoing
act_stopped stops_incoming l e = stopped_closed l.outgoing
act_stopped (drains buffered) l e = stopped_drained (not l.awaits_answer && (buffered == 0)) l.outgoing
act_stopped finishes l e = cc
act_stopped denies l e = stopped_answered l.awaits_answer l

run_stopped_by : (f : Bool) (a : Act) (acts : List Act) (l : Lifecycle) → is_finish a ≡ f
    → (is_stopped (act a l).outgoing ≡ false → has is_finish acts ≡ true) → is_stopped l.outgoing ≡ false → (is_finish a || has is_finish acts) ≡ true
run_stopped_by true a acts l e rest off = ap (λ (b : Bool). b || has is_finish acts) e
run_stopped_by false a acts l e rest off = ap (λ (b : Bool). b || has is_finish acts) e ∙ rest (act_stopped a l e ∙ off)

run_stopped : (acts : List Act) (l : Lifecycle) → is_stopped (run acts l).outgoing ≡ true → is_stopped l.outgoing ≡ false → has is_finish acts ≡ true
run_stopped [] l e off = absurd (clash (sym e ∙ off))
run_stopped (a ∷ acts) l e off = run_stopped_by (is_finish a) a acts l refl (run_stopped acts (act a l) e) off

sending_not_stopped : (o : Outgoing) → is_sending o ≡ true → is_stopped o ≡ false
sending_not_stopped Sending e = refl
sending_not_stopped Draining e = cc
sending_not_stopped Resetting e = cc
sending_not_stopped Stopped e = cc
sending_not_stopped Denied e = cc

pub over_by_both : (acts : List Act) (l : Lifecycle) → may_send l ≡ true → l.is_incoming_reset ≡ false → is_over (run acts l) ≡ true
    → (has is_stop acts ≡ true) × (has is_finish acts ≡ true) × (resets_asked acts l ≡ 1)
over_by_both acts l sends comes over =
    let both = both_true (is_stopped (run acts l).outgoing) (run acts l).is_incoming_reset over in (
      or_true l.is_incoming_reset (has is_stop acts) (sym (run_incoming acts l) ∙ both.1) comes,
      run_stopped acts l both.0 (sending_not_stopped l.outgoing sends),
      omega (arith, run_left acts l, left_of_sending l.outgoing sends, left_of_stopped (run acts l).outgoing both.0),
    )

-- ---- who has closed

silent_closed : (o : Outgoing) → is_sending (closed o) ≡ false
silent_closed Sending = refl
silent_closed Draining = refl
silent_closed Resetting = refl
silent_closed Stopped = refl
silent_closed Denied = refl

silent_drained : (b : Bool) (o : Outgoing) → is_sending o ≡ false → is_sending (drained b o) ≡ false
silent_drained true o e = refl
silent_drained false o e = e

silent_settled : (outcome o : Outgoing) → is_sending outcome ≡ false → is_sending o ≡ false → is_sending (settled outcome o) ≡ false
silent_settled outcome Sending f e = e
silent_settled outcome Draining f e = refl
silent_settled outcome Resetting f e = f
silent_settled outcome Stopped f e = refl
silent_settled outcome Denied f e = refl

silent_answered : (b : Bool) (outcome : Outgoing) (l : Lifecycle) → is_sending outcome ≡ false → is_sending l.outgoing ≡ false → is_sending (answered b outcome l).outgoing ≡ false
silent_answered true outcome l f e = e
silent_answered false outcome l f e = silent_settled outcome l.outgoing f e

act_silent : (a : Act) (l : Lifecycle) → may_send l ≡ false → may_send (act a l) ≡ false
act_silent confirms l e = e
act_silent closes l e = silent_closed l.outgoing
act_silent stops_incoming l e = silent_closed l.outgoing
act_silent (drains buffered) l e = silent_drained (is_draining l.outgoing && (not l.awaits_answer && (buffered == 0))) l.outgoing e
act_silent finishes l e = silent_answered l.awaits_answer Stopped l refl e
act_silent denies l e = silent_answered l.awaits_answer Denied l refl e

pub stays_silent : (acts : List Act) (l : Lifecycle) → may_send l ≡ false → may_send (run acts l) ≡ false
stays_silent [] l e = e
stays_silent (a ∷ acts) l e = stays_silent acts (act a l) (act_silent a l e)

-- ---- whether an answer came

opening_answered : (b : Bool) (outcome : Outgoing) (l : Lifecycle) → (answered b outcome l).opening ≡ l.opening
opening_answered true outcome l = refl
opening_answered false outcome l = refl

act_connecting : (a : Act) (l : Lifecycle) → is_confirmation a ≡ false → is_connecting (act a l) ≡ is_connecting l
act_connecting confirms l e = cc
act_connecting closes l e = refl
act_connecting stops_incoming l e = refl
act_connecting (drains buffered) l e = refl
act_connecting finishes l e = ap waits_for_answer (opening_answered l.awaits_answer Stopped l)
act_connecting denies l e = ap waits_for_answer (opening_answered l.awaits_answer Denied l)

pub unconfirmed : (acts : List Act) (l : Lifecycle) → has is_confirmation acts ≡ false → is_connecting (run acts l) ≡ is_connecting l
unconfirmed [] l e = refl
unconfirmed (a ∷ acts) l e =
    let parts = or_false (is_confirmation a) (has is_confirmation acts) e in
    unconfirmed acts (act a l) parts.1 ∙ act_connecting a l parts.0

confirmed_waits : (o : Opening) → waits_for_answer (confirmed o) ≡ false
confirmed_waits Connecting = refl
confirmed_waits Established = refl
confirmed_waits Refused = refl

act_after : (b : Bool) (a : Act) (l : Lifecycle) → is_confirmation a ≡ b → is_connecting l ≡ false → is_connecting (act a l) ≡ false
act_after true confirms l e off = confirmed_waits l.opening
act_after true closes l e off = cc
act_after true stops_incoming l e off = cc
act_after true (drains buffered) l e off = cc
act_after true finishes l e off = cc
act_after true denies l e off = cc
act_after false a l e off = act_connecting a l e ∙ off

stays_connected : (acts : List Act) (l : Lifecycle) → is_connecting l ≡ false → is_connecting (run acts l) ≡ false
stays_connected [] l e = e
stays_connected (a ∷ acts) l e = stays_connected acts (act a l) (act_after (is_confirmation a) a l refl e)

confirms_now : (a : Act) (l : Lifecycle) → is_confirmation a ≡ true → is_connecting (act a l) ≡ false
confirms_now confirms l e = confirmed_waits l.opening
confirms_now closes l e = cc
confirms_now stops_incoming l e = cc
confirms_now (drains buffered) l e = cc
confirms_now finishes l e = cc
confirms_now denies l e = cc

confirmed_by : (b : Bool) (a : Act) (acts : List Act) (l : Lifecycle) → is_confirmation a ≡ b → (has is_confirmation acts ≡ true → is_connecting (run acts (act a l)) ≡ false)
    → (is_confirmation a || has is_confirmation acts) ≡ true → is_connecting (run acts (act a l)) ≡ false
confirmed_by true a acts l e rest some = stays_connected acts (act a l) (confirms_now a l e)
confirmed_by false a acts l e rest some = rest (or_true (is_confirmation a) (has is_confirmation acts) some e)

pub confirmed_once : (acts : List Act) (l : Lifecycle) → has is_confirmation acts ≡ true → is_connecting (run acts l) ≡ false
confirmed_once [] l e = cc
confirmed_once (a ∷ acts) l e = confirmed_by (is_confirmation a) a acts l refl (confirmed_once acts (act a l)) e
