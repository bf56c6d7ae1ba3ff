use Rattle.std.proofs.Common.{◌≡◌, rules, arith, ap, sym, ◌∙◌, true, false, slice_index_or}
use Rattle.std.specs.List.{insert}
use Rattle.sctp_tx_outstanding.specs.declared.skips.Touched.{Touched}
use Rattle.sctp_tx_outstanding.specs.Forward.{is_alike, is_alike_at, entries_before}
use Rattle.sctp_tx_outstanding.specs.Touched.{entries_in}
use Rattle.sctp_tx_outstanding.proofs.TouchedLemmas.{put_set_at, put_insert_at, alike_here, alike_beyond}
use Rattle.sctp_tx_outstanding.proofs.skips.put.Goals.{else-place-len-via-then-place-len+else-is_alike, else-place-len-via-else-place-len}
use Rattle.sctp_tx_outstanding.proofs.skips.put.Goals as goal

pub returns-then-is_alike-clause-ok : goal.returns-then-is_alike-clause-ok
returns-then-is_alike-clause-ok c =
    let ts = c.args.touched.now.items in
    let t = c.args.one in
    let k = c.place_of-place.result in
    let at : k ≡ entries_before t.entry (entries_in ts) = search rules in
    let here : c.index.result.now ≡ slice_index_or ts k c.index.result.now = search rules in
    let same : is_alike_at t.entry k (entries_in ts) ≡ true =
    sym (alike_here t.entry k ts c.index.result.now (omega arith)) ∙ (sym (ap (λ (u : Touched). is_alike t.entry u.entry) here) ∙ (sym c.is_alike.ensures ∙ c.if-is_alike.true)) in
    put_set_at t ts k at same

pub returns-clause-ok : goal.returns-clause-ok
returns-clause-ok c =
    let ts = c.args.touched.now.items in
    let t = c.args.one in
    let k = c.place_of-place.result in
    let at : k ≡ entries_before t.entry (entries_in ts) = search rules in
    let other : is_alike_at t.entry k (entries_in ts) ≡ false =
    elim c.else-place-len.branch [
      | else-place-len-via-then-place-len+else-is_alike w ↦
          let here : w.index.result.now ≡ slice_index_or ts k w.index.result.now = search rules in
          sym (alike_here t.entry k ts w.index.result.now (omega (arith, w.if-place-len.true))) ∙ (sym (ap (λ (u : Touched). is_alike t.entry u.entry) here) ∙ (sym w.is_alike.ensures ∙ w.if-is_alike.false))
      | else-place-len-via-else-place-len w ↦ sym (alike_beyond t.entry k ts (omega (arith, w.if-place-len.false)))
    ]
    in
    let is : c.insert.new.self.items ≡ insert ts k t = search rules in
    is ∙ put_insert_at t ts k at other
