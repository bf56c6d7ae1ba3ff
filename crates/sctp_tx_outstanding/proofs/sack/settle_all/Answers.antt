use Rattle.std.proofs.Common.{◌≡◌, ◌≤◌, ◌+◌, ◌-◌, ◌^◌, List, min, drop, refl, ap, sym, subst, ◌∙◌, arith, length}
use Rattle.sctp_tx_outstanding.specs.Item.{Item}
use Rattle.sctp_tx_outstanding.specs.OutstandingData.{Kept}
use Rattle.sctp_tx_outstanding.specs.Sack.{ack_or_uncover_all, newly_acked, below_highest}
use Rattle.sctp_tx_outstanding.specs.Passes.{Advances}
use Rattle.sctp_tx_outstanding.specs.LastBlocks.{Rest, AreAsBlocksSaid}
use Rattle.sctp_tx_outstanding.proofs.ReceivedLemmas.{rest_settle}
use Rattle.sctp_tx_outstanding.proofs.SackLemmas.{kept_as}
use Rattle.sctp_tx_outstanding.proofs.AdvanceLemmas.{rest_behind, further, settle_end, acked_end, below_end}
use Rattle.sctp_tx_outstanding.proofs.sack.settle_all.Goals as goal

pub settle_stretch-walk-requires-clause-rest : goal.settle_stretch-walk-requires-clause-rest
settle_stretch-walk-requires-clause-rest c = λ yes.
    let last = c.take_last_blocks-last.result in
    let k = c.loop-walk.walk.place in
    let is = c.args.kept.now.items in
    let known : AreAsBlocksSaid last is = c.take_last_blocks-last.ensures.known yes in
    let behind : drop k c.loop-walk.kept.items ≡ drop k is = c.loop-walk.invariant.settled.behind ∙ ap (λ (x : Kept). drop k x.items) c.take_last_blocks-last.ensures.same in
    subst (λ (xs : List Item). Rest last.gap_ack_blocks.items (k + last.offset) xs) (sym behind) (rest_behind last.gap_ack_blocks.items k last.offset (k + last.offset) is refl known.rest)

pub loop-walk-preserved : goal.loop-walk-preserved
loop-walk-preserved c =
    let step = c.settle_stretch-walk in
    let before = c.loop-walk.invariant in
    let start = c.take_last_blocks-last.new.self in
    let walk = c.loop-walk.walk in
    let onward : walk.place ≤ step.result.place = omega (arith, step.ensures.onward) in
    record {
      mode = step.ensures.mode ∙ before.mode;
      within = step.ensures.within;
      earlier = step.ensures.earlier;
      later = step.ensures.later;
      settled =
          further c.args.blocks.now start.is_interleaved 0 walk.place step.result.place (record { bytes = 0; below = 0 }) walk.covered step.result.covered start.items c.loop-walk.kept.items step.new.kept.items onward before.settled
          (subst (λ m. Advances c.args.blocks.now m walk.place step.result.place walk.covered step.result.covered c.loop-walk.kept.items step.new.kept.items) before.mode step.ensures.settled);
    }

-- at the end of the items

pub remember-requires : goal.remember-requires
remember-requires c =
    let bs = c.args.blocks.now in
    let k = c.loop-walk.walk.place in
    let is = c.loop-walk.kept.items in
    let start = c.take_last_blocks-last.new.self in
    let end : length is ≤ k = omega (arith, c.loop-walk.invariant.settled.length, c.len-count.ensures) in
    let done : is ≡ ack_or_uncover_all bs 1 start.items = sym (settle_end bs k (k + 1) is end) ∙ c.loop-walk.invariant.settled.items in
    subst (λ (xs : List Item). Rest bs 1 xs) (sym done) (rest_settle bs 1 start.items)

pub returns-clause-items : goal.returns-clause-items
returns-clause-items c =
    let bs = c.args.blocks.now in
    let k = c.loop-walk.walk.place in
    let is = c.loop-walk.kept.items in
    let start = c.take_last_blocks-last.new.self in
    let same = c.take_last_blocks-last.ensures.same in
    let end : length is ≤ k = omega (arith, c.loop-walk.invariant.settled.length, c.len-count.ensures) in
    let done : is ≡ ack_or_uncover_all bs 1 start.items = sym (settle_end bs k (k + 1) is end) ∙ c.loop-walk.invariant.settled.items in
    c.remember.ensures
    ∙ kept_as c.loop-walk.kept c.args.kept.now.is_interleaved (ack_or_uncover_all bs 1 c.args.kept.now.items) (c.loop-walk.invariant.mode ∙ ap (λ (x : Kept). x.is_interleaved) same)
    (done ∙ ap (λ (x : Kept). ack_or_uncover_all bs 1 x.items) same)

pub returns-clause-bytes : goal.returns-clause-bytes
returns-clause-bytes c =
    let bs = c.args.blocks.now in
    let k = c.loop-walk.walk.place in
    let is = c.loop-walk.kept.items in
    let start = c.take_last_blocks-last.new.self in
    let settled = c.loop-walk.invariant.settled in
    let found = c.loop-walk.walk.covered.bytes in
    let end : length is ≤ k = omega (arith, settled.length, c.len-count.ensures) in
    let none = acked_end bs start.is_interleaved k (k + 1) is end in
    let whole : found ≡ min (newly_acked bs start.is_interleaved 1 start.items) (2 ^ 64 - 1) = omega (arith, none, settled.fits, settled.bytes) in
    whole ∙ ap (λ (x : Kept). min (newly_acked bs x.is_interleaved 1 x.items) (2 ^ 64 - 1)) c.take_last_blocks-last.ensures.same

pub returns-clause-below : goal.returns-clause-below
returns-clause-below c =
    let bs = c.args.blocks.now in
    let k = c.loop-walk.walk.place in
    let is = c.loop-walk.kept.items in
    let settled = c.loop-walk.invariant.settled in
    let end : length is ≤ k = omega (arith, settled.length, c.len-count.ensures) in
    sym (below_end bs k (k + 1) k c.loop-walk.walk.covered.below is end) ∙ settled.below ∙ ap (λ (x : Kept). below_highest bs 1 0 0 x.items) c.take_last_blocks-last.ensures.same

pub returns-clause-rests : goal.returns-clause-rests
returns-clause-rests c =
    let bs = c.args.blocks.now in
    let k = c.loop-walk.walk.place in
    let is = c.loop-walk.kept.items in
    let start = c.take_last_blocks-last.new.self in
    let end : length is ≤ k = omega (arith, c.loop-walk.invariant.settled.length, c.len-count.ensures) in
    let done : is ≡ ack_or_uncover_all bs 1 start.items = sym (settle_end bs k (k + 1) is end) ∙ c.loop-walk.invariant.settled.items in
    subst (λ (x : Kept). Rest bs 1 x.items) (sym c.remember.ensures) (subst (λ (xs : List Item). Rest bs 1 xs) (sym done) (rest_settle bs 1 start.items))
