use Rattle.std.proofs.Common.{◌≡◌, ◌+◌, ◌∙◌, Option, suc, ap, sym, subst, rules, arith}
use Rattle.std.specs.Prelude.{option_map, slice_get, true}
use Rattle.sctp_tx_outstanding.specs.Item.{Item}
use Rattle.sctp_tx_outstanding.specs.Forward.{entry_in, is_next}
use Rattle.sctp_tx_outstanding.specs.Passed.{ArePassed}
use Rattle.sctp_tx_outstanding.specs.Touched.{entries_in, touched_with}
use Rattle.sctp_tx_outstanding.proofs.PassedLemmas.{looked_up, passed_next}
use Rattle.sctp_tx_outstanding.proofs.passed.Passed.pass_next.Goals as goal

pub returns-in_default-pass : goal.returns-in_default-pass
returns-in_default-pass c = c.forget.ensures c.args.is_interleaved c.args.items.now.items

pub returns-then-passes : goal.returns-then-passes
returns-then-passes c =
    let m = c.args.is_interleaved in
    let is = c.args.items.now.items in
    let most = c.args.most in
    let old = c.args.self.now in
    let ts = old.touched.items in
    let here : option_map (λ i. i.now) c.get-item.result ≡ slice_get is old.count = looked_up (λ i. i.now) is _ old.count c.get-item.result (search rules) c.get-item.ensures.variant c.get-item.ensures.lookup in
    let up : c.in-Ok.passes ≡ true = search rules in
    let next : is_next m most (entries_in ts) (slice_get is old.count) ≡ true =
    ap (λ (o : Option Item). is_next m most (entries_in ts) o) (sym here) ∙ (sym c.in-Ok.ensures.passes ∙ up) in
    let number : c.in-Some.number ≡ old.left + old.count = search rules in
    let put : c.pass.new.touched.items ≡ touched_with (entry_in m (slice_get is old.count)) (old.left + old.count) ts =
    c.in-Ok.ensures.on up ∙ (ap (λ (o : Option Item). touched_with (entry_in m o) c.in-Some.number ts) here ∙ ap (λ n. touched_with (entry_in m (slice_get is old.count)) n ts) number) in
    let more : suc old.count ≡ old.count + 1 = omega arith in
    subst (λ n. ArePassed m is n old.left c.pass.new.touched.items) more (passed_next m most is old.count old.left ts c.pass.new.touched.items next put c.requires)
