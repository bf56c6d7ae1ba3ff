use Rattle.std.proofs.Common.{◌≡◌, ◌<◌, ◌^◌, ℕ, Bool, List, length, rules, refl, ap, sym, subst, ◌∙◌, arith}
use Rattle.std.specs.Prelude.{nat_lt}
use Rattle.sctp_tx.specs.RetransmissionQueue.{Sender}
use Rattle.sctp_tx.specs.Resent.{resent, start_t3_if}
use Rattle.sctp_tx.specs.Sending.{Filling, filling, discard_all, without_discards, timed_filling, send}
use Rattle.sctp_tx.specs.Flight.{StaysWithin}
use Rattle.sctp_tx.specs.Interrupted.{Stands, PartlySent}
use Rattle.sctp_tx.specs.Taken.{taken_all}
use Rattle.sctp_tx.proofs.FitLemmas.{sent_fits}
use Rattle.sctp_tx.proofs.FlightLemmas.{stays_within}
use Rattle.sctp_tx.proofs.PartlyLemmas.{on_err, stopped_discarding, stopped_resending, stopped_filling}
use Rattle.sctp_tx.proofs.TakenLemmas.{behind, begun, new, discarded_is, filling_stopped, begun_is, sender_is, sent_as, sent_is, taken_is}
use Rattle.sctp_tx.proofs.retransmission_queue.RetransmissionQueue.send_into.Given.{Over}
use Rattle.sctp_tx.proofs.retransmission_queue.RetransmissionQueue.send_into.Goals as goal

-- ---- what several answers cite

is : (g : Over) (c : goal.After-run_if g) → (let v : Sender = record { outstanding = c.self.inside.outstanding; windows = c.self.inside.windows; t3 = c.self.inside.t3_rtx; rtx_packets = c.self.inside.rtx_packets_count; rtx_bytes = c.self.inside.rtx_bytes_count; is_sampled = c.self.inside.is_sampled } in record v { outstanding = c.discard_all.new.outstanding }) ≡ without_discards c.args.self.now
is g c =
    let v : Sender = record { outstanding = c.self.inside.outstanding; windows = c.self.inside.windows; t3 = c.self.inside.t3_rtx; rtx_packets = c.self.inside.rtx_packets_count; rtx_bytes = c.self.inside.rtx_bytes_count; is_sampled = c.self.inside.is_sampled } in
    discarded_is c.args.opportunity.now c.args.opportunity.max_bytes c.args.self.now c.args.queue.now c.args.events.now v c.discard_all.new.outstanding c.self.view_is c.in_ok-discard_all.ensures.items

start : (g : Over) (c : goal.After-run_if g) → filling c.resend.new.self c.discard_all.new.queue c.discard_all.new.events (begun c.args.opportunity.now c.args.opportunity.max_bytes c.args.self.now c.args.queue.now c.args.events.now).chunks c.saturating_sub-left.result
    ≡ begun c.args.opportunity.now c.args.opportunity.max_bytes c.args.self.now c.args.queue.now c.args.events.now
start g c =
    let v : Sender = record { outstanding = c.self.inside.outstanding; windows = c.self.inside.windows; t3 = c.self.inside.t3_rtx; rtx_packets = c.self.inside.rtx_packets_count; rtx_bytes = c.self.inside.rtx_bytes_count; is_sampled = c.self.inside.is_sampled } in
    begun_is c.args.opportunity.now c.args.opportunity.max_bytes c.args.self.now c.args.queue.now c.args.events.now v c.discard_all.new.outstanding c.self.view_is c.in_ok-discard_all.ensures.items
    c.discard_all.new.queue c.discard_all.new.events c.in_ok-discard_all.ensures.queue c.in_ok-discard_all.ensures.emitted
    c.resend.new.self c.in_ok-is_again.bytes c.saturating_sub-left.result c.in_ok-is_again.ensures.sender c.in_ok-is_again.ensures.bytes c.saturating_sub-left.ensures

again : (g : Over) (c : goal.After-run_if g) → c.in_ok-is_again.is_again ≡ nat_lt 0 (length (begun c.args.opportunity.now c.args.opportunity.max_bytes c.args.self.now c.args.queue.now c.args.events.now).chunks)
again g c = subst (λ (t : Sender). c.in_ok-is_again.is_again ≡ nat_lt 0 (length (resent c.args.opportunity.max_bytes t).chunks)) (is g c) c.in_ok-is_again.ensures.sent

last : (g : Over) (c : goal.After-run_if g) → c.run_if.new.self ≡ (send c.args.opportunity.now c.args.opportunity.max_bytes c.args.self.now c.args.queue.now c.args.events.now).sender
last g c =
    sender_is c.args.opportunity.now c.args.opportunity.max_bytes c.args.self.now c.args.queue.now c.args.events.now c.resend.new.self c.discard_all.new.queue c.discard_all.new.events c.saturating_sub-left.result (start g c)
    c.run_if.new.self c.in_ok-is_again.is_again c.in_ok-is_new.is_new (again g c) c.in_ok-is_new.ensures.sent c.fill.new.self c.in_ok-is_new.ensures.sender
    (subst (λ (b : Bool). c.run_if.new.self ≡ start_t3_if b c.args.opportunity.now c.fill.new.self) c.either-is_sent.ensures c.run_if.ensures)

as_sent : (g : Over) (c : goal.After-run_if g) → send c.args.opportunity.now c.args.opportunity.max_bytes c.args.self.now c.args.queue.now c.args.events.now ≡ timed_filling c.args.opportunity.now (behind (begun c.args.opportunity.now c.args.opportunity.max_bytes c.args.self.now c.args.queue.now c.args.events.now).chunks (new c.args.opportunity.now c.args.opportunity.max_bytes c.args.self.now c.args.queue.now c.args.events.now c.resend.new.self c.discard_all.new.queue c.discard_all.new.events c.saturating_sub-left.result (start g c)))
as_sent g c = sent_as c.args.opportunity.now c.args.opportunity.max_bytes c.args.self.now c.args.queue.now c.args.events.now c.resend.new.self c.discard_all.new.queue c.discard_all.new.events c.saturating_sub-left.result (start g c)

-- ---- the answers

pub returns-clause-sender : goal.returns-clause-sender
returns-clause-sender g c = last g c

pub returns-clause-queue : goal.returns-clause-queue
returns-clause-queue g c = c.in_ok-is_new.ensures.queue ∙ ap (λ (f : Filling (List ℕ)). f.queue) (sym (as_sent g c))

pub returns-clause-emitted : goal.returns-clause-emitted
returns-clause-emitted g c = c.in_ok-is_new.ensures.emitted ∙ ap (λ (f : Filling (List ℕ)). f.emitted) (sym (as_sent g c))

pub returns-clause-packet : goal.returns-clause-packet
returns-clause-packet g c =
    let taken = g.P.TakesFragments.taken c.args.opportunity.form in
    let first = subst (λ (t : Sender). c.resend.new.packet ≡ taken_all taken (resent c.args.opportunity.max_bytes t).chunks c.args.packet.now) (is g c) c.in_ok-is_again.ensures.packet in
    taken_is c.args.opportunity.now c.args.opportunity.max_bytes c.args.self.now c.args.queue.now c.args.events.now c.resend.new.self c.discard_all.new.queue c.discard_all.new.events c.saturating_sub-left.result (start g c)
    taken c.args.packet.now c.resend.new.packet c.fill.new.packet first c.in_ok-is_new.ensures.packet

pub returns-clause-sent : goal.returns-clause-sent
returns-clause-sent g c =
    c.either-is_sent.ensures ∙ sent_is c.args.opportunity.now c.args.opportunity.max_bytes c.args.self.now c.args.queue.now c.args.events.now c.resend.new.self c.discard_all.new.queue c.discard_all.new.events c.saturating_sub-left.result (start g c)
    c.run_if.new.self c.in_ok-is_again.is_again c.in_ok-is_new.is_new (again g c) c.in_ok-is_new.ensures.sent

pub returns-clause-fits : goal.returns-clause-fits
returns-clause-fits g c =
    let small : c.args.opportunity.max_bytes < 2 ^ 64 = omega (arith, c.requires.small) in
    sent_fits c.args.opportunity.now c.args.opportunity.max_bytes c.args.self.now c.args.queue.now c.args.events.now small

pub returns-clause-flight : goal.returns-clause-flight
returns-clause-flight g c =
    let small : c.args.self.now.windows.cwnd < 2 ^ 64 = omega (arith, c.cwnd-cwnd.ensures) in
    subst (λ (t : Sender). StaysWithin c.args.self.now t) (sym (last g c)) (stays_within c.args.opportunity.now c.args.opportunity.max_bytes c.args.self.now c.args.queue.now c.args.events.now small)

pub returns-in_err-discard_all-clause-err : goal.returns-in_err-discard_all-clause-err
returns-in_err-discard_all-clause-err g c =
    let v : Sender = record { outstanding = c.self.inside.outstanding; windows = c.self.inside.windows; t3 = c.self.inside.t3_rtx; rtx_packets = c.self.inside.rtx_packets_count; rtx_bytes = c.self.inside.rtx_bytes_count; is_sampled = c.self.inside.is_sampled } in
    let new = c.discard_all.new in
    let x : Sender = record v { outstanding = new.outstanding } in
    let of_v = stopped_discarding c.args.opportunity.now c.args.opportunity.max_bytes v c.args.queue.now c.args.events.now x new.queue new.events new.outstanding refl c.in_err-discard_all.ensures.err in
    let h : PartlySent c.args.opportunity.now c.args.opportunity.max_bytes c.args.self.now c.args.queue.now c.args.events.now x new.queue new.events =
    subst (λ (t : Sender). PartlySent c.args.opportunity.now c.args.opportunity.max_bytes t c.args.queue.now c.args.events.now x new.queue new.events) c.self.view_is of_v in
    on_err _ _ h

pub returns-in_err-is_again-clause-err : goal.returns-in_err-is_again-clause-err
returns-in_err-is_again-clause-err g c =
    let v : Sender = record { outstanding = c.self.inside.outstanding; windows = c.self.inside.windows; t3 = c.self.inside.t3_rtx; rtx_packets = c.self.inside.rtx_packets_count; rtx_bytes = c.self.inside.rtx_bytes_count; is_sampled = c.self.inside.is_sampled } in
    let old = discarded_is c.args.opportunity.now c.args.opportunity.max_bytes c.args.self.now c.args.queue.now c.args.events.now v c.discard_all.new.outstanding c.self.view_is c.in_ok-discard_all.ensures.items in
    let gone : Stands (discard_all c.args.self.now.outstanding.items.discards c.args.queue.now c.args.events.now) c.discard_all.new.queue c.discard_all.new.events = search rules in
    on_err _ _ (stopped_resending c.args.opportunity.now c.args.opportunity.max_bytes c.args.self.now c.args.queue.now c.args.events.now c.resend.new.self c.discard_all.new.queue c.discard_all.new.events _ old c.in_err-is_again.ensures.err gone)

pub returns-in_err-is_new-clause-err : goal.returns-in_err-is_new-clause-err
returns-in_err-is_new-clause-err g c =
    let v : Sender = record { outstanding = c.self.inside.outstanding; windows = c.self.inside.windows; t3 = c.self.inside.t3_rtx; rtx_packets = c.self.inside.rtx_packets_count; rtx_bytes = c.self.inside.rtx_bytes_count; is_sampled = c.self.inside.is_sampled } in
    let start = begun_is c.args.opportunity.now c.args.opportunity.max_bytes c.args.self.now c.args.queue.now c.args.events.now v c.discard_all.new.outstanding c.self.view_is c.in_ok-discard_all.ensures.items
    c.discard_all.new.queue c.discard_all.new.events c.in_ok-discard_all.ensures.queue c.in_ok-discard_all.ensures.emitted
    c.resend.new.self c.in_ok-is_again.bytes c.saturating_sub-left.result c.in_ok-is_again.ensures.sender c.in_ok-is_again.ensures.bytes c.saturating_sub-left.ensures in
    on_err _ _ (stopped_filling c.args.opportunity.now c.args.opportunity.max_bytes c.args.self.now c.args.queue.now c.args.events.now c.fill.new.self c.fill.new.queue c.fill.new.events (begun c.args.opportunity.now c.args.opportunity.max_bytes c.args.self.now c.args.queue.now c.args.events.now) refl
    (filling_stopped c.args.opportunity.now c.args.opportunity.max_bytes c.args.self.now c.args.queue.now c.args.events.now c.resend.new.self c.discard_all.new.queue c.discard_all.new.events c.saturating_sub-left.result start c.fill.new.self c.fill.new.queue c.fill.new.events c.in_err-is_new.ensures.err))
