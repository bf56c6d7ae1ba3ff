use Rattle.std.proofs.Common.{◌≡◌, ◌+◌, ◌≤◌, suc, length, ap, sym, subst, ◌∙◌, rules, arith}
use Rattle.sctp_tx_outstanding.specs.Views.{resent_of}
use Rattle.sctp_tx_outstanding.specs.OutstandingData.{Outstanding}
use Rattle.sctp_tx_outstanding.specs.Waiting.{NoneWaits}
use Rattle.sctp_tx_outstanding.specs.Resending.{Resent, waiting_for, step_at, resent_below, SomeResent}
use Rattle.sctp_tx_outstanding.proofs.RoomLemmas.{no_more_lem, quiet_on}
use Rattle.sctp_tx_outstanding.proofs.IdleLemmas.{idle_at, none_less, full_at, left_at}
use Rattle.sctp_tx_outstanding.proofs.outstanding_data.OutstandingData.resend.Goals as goal

pub loop-place-preserved : goal.loop-place-preserved
loop-place-preserved c =
    let fast = c.args.fast in
    let x = resent_of c.args.self.now c.args.filling.now in
    let now = resent_of c.loop-place.self c.loop-place.filling in
    let next = c.next_waiting-next.result in
    let none : NoneWaits fast c.loop-place.place next c.loop-place.self.items.kept = subst (λ (d : Outstanding). NoneWaits fast c.loop-place.place next d.items.kept) c.self-in-loop-place.view_is c.next_waiting-next.ensures.none in
    let here : now ≡ resent_below fast next x = idle_at fast x now c.loop-place.place next c.loop-place.invariant.resent c.next_waiting-next.ensures.onward none in
    let same : resent_of c.pass_large-end.new.self c.loop-place.filling ≡ now = ap (λ (d : Outstanding). resent_of d c.loop-place.filling) c.pass_large-end.ensures.same in
    let one : suc next ≡ next + 1 = omega arith in
    record {
      within = omega (arith, c.if-count-next.false);
      resent = c.in_ok-take_turn.ensures.ok ∙ (ap (λ (y : Resent). step_at fast next y) (same ∙ here) ∙ ap (λ n. resent_below fast n x) one);
    }

pub loop-place-preserved-then-next-end : goal.loop-place-preserved-then-next-end
loop-place-preserved-then-next-end c =
    let fast = c.args.fast in
    let x = resent_of c.args.self.now c.args.filling.now in
    let now = resent_of c.loop-place.self c.loop-place.filling in
    let next = c.next_waiting-next.result in
    let end = c.min-place.result in
    let none : NoneWaits fast c.loop-place.place next c.loop-place.self.items.kept = subst (λ (d : Outstanding). NoneWaits fast c.loop-place.place next d.items.kept) c.self-in-loop-place.view_is c.next_waiting-next.ensures.none in
    let here : now ≡ resent_below fast next x = idle_at fast x now c.loop-place.place next c.loop-place.invariant.resent c.next_waiting-next.ensures.onward none in
    let same : resent_of c.pass_large-end.new.self c.loop-place.filling ≡ now = ap (λ (d : Outstanding). resent_of d c.loop-place.filling) c.pass_large-end.ensures.same in
    let onward : next ≤ end = omega (arith, c.min-place.ensures, c.if-count-next.false, c.if-next-end.true) in
    record {
      within = omega (arith, c.min-place.ensures);
      resent = same ∙ left_at fast x now next end here onward (λ k above below. c.pass_large-end.ensures.left k above (omega (arith, below, c.min-place.ensures)));
    }

pub returns-then-count-next-clause-ok : goal.returns-then-count-next-clause-ok
returns-then-count-next-clause-ok c =
    let fast = c.args.fast in
    let x = resent_of c.args.self.now c.args.filling.now in
    let now = resent_of c.loop-place.self c.loop-place.filling in
    let next = c.next_waiting-next.result in
    let none : NoneWaits fast c.loop-place.place next c.loop-place.self.items.kept = subst (λ (d : Outstanding). NoneWaits fast c.loop-place.place next d.items.kept) c.self-in-loop-place.view_is c.next_waiting-next.ensures.none in
    let all : c.len-count.result ≡ length c.args.self.now.items.kept = search rules in
    idle_at fast x now c.loop-place.place c.len-count.result c.loop-place.invariant.resent c.loop-place.invariant.within
    (none_less fast c.loop-place.place next c.len-count.result c.loop-place.self.items.kept c.if-count-next.true none)
    ∙ ap (λ n. resent_below fast n x) all

pub returns-then-not-has_waiting-clause-ok : goal.returns-then-not-has_waiting-clause-ok
returns-then-not-has_waiting-clause-ok c =
    let fast = c.args.fast in
    let x = resent_of c.args.self.now c.args.filling.now in
    let place = c.loop-place.place in
    let none : waiting_for fast c.loop-place.self.items ≤ 0 = no_more_lem (waiting_for fast c.loop-place.self.items) (sym c.has_waiting.ensures ∙ c.if-not-has_waiting.true) in
    let there : waiting_for fast (resent_below fast place x).outstanding.items ≤ 0 = subst (λ (y : Resent). waiting_for fast y.outstanding.items ≤ 0) c.loop-place.invariant.resent none in
    let all : length c.args.self.now.items.kept ≡ c.len-count.result = search rules in
    c.loop-place.invariant.resent ∙ sym (quiet_on fast x place (length c.args.self.now.items.kept) (omega (arith, all, c.loop-place.invariant.within)) there)

pub returns-then-is_full-clause-ok : goal.returns-then-is_full-clause-ok
returns-then-is_full-clause-ok c =
    let fast = c.args.fast in
    let x = resent_of c.args.self.now c.args.filling.now in
    let now = resent_of c.loop-place.self c.loop-place.filling in
    let all : c.len-count.result ≡ length c.args.self.now.items.kept = search rules in
    full_at fast x now c.loop-place.place c.len-count.result (c.is_full.ensures.slow c.if-is_full.true) c.loop-place.invariant.resent c.loop-place.invariant.within (c.is_full.ensures.full c.if-is_full.true)
    ∙ ap (λ n. resent_below fast n x) all

pub returns-clause-ok : goal.returns-clause-ok
returns-clause-ok c =
    let fast = c.args.fast in
    let x = resent_of c.args.self.now c.args.filling.now in
    let all : length c.args.self.now.items.kept ≡ c.len-count.result = search rules in
    let done : c.loop-place.place ≡ length c.args.self.now.items.kept = omega (arith, all, c.loop-place.invariant.within, c.loop-place-test.false) in
    c.loop-place.invariant.resent ∙ ap (λ n. resent_below fast n x) done

pub returns-in_err-take_turn-clause-err : goal.returns-in_err-take_turn-clause-err
returns-in_err-take_turn-clause-err c =
    let some : SomeResent c.args.fast (resent_of c.args.self.now c.args.filling.now) c.take_turn.new.self = (c.loop-place.place, c.in_err-take_turn.ensures.err ∙ c.pass_large-end.ensures.same ∙ ap (λ (x : Resent). x.outstanding) c.loop-place.invariant.resent) in
    search (rules, some)
