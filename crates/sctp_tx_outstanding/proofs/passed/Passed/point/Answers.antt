use Rattle.std.proofs.Common.{◌≡◌, ◌≤◌, ◌∙◌, List, None, filter, subst, sym, ap, arith}
use Rattle.sctp_tx_outstanding.specs.declared.skips.Touched.{Touched}
use Rattle.sctp_tx_outstanding.specs.Forward.{size_with}
use Rattle.sctp_tx_outstanding.specs.Point.{Ascend}
use Rattle.sctp_tx_outstanding.specs.Touched.{entries_in, is_kept}
use Rattle.sctp_tx_outstanding.specs.Passed.{BeginsPoint}
use Rattle.sctp_tx_outstanding.proofs.ForwardLemmas.{at}
use Rattle.sctp_tx_outstanding.proofs.PassedLemmas.{begun}
use Rattle.sctp_tx_outstanding.proofs.TouchedLemmas.{kept_ascends}
use Rattle.sctp_tx_outstanding.proofs.passed.Passed.point.Goals as goal

pub returns-then-self-eq0 : goal.returns-then-self-eq0
returns-then-self-eq0 c = c.nothing.ensures c.args.most c.args.end c.args.is_interleaved c.args.items.now.items

pub chunk_size_with-requires : goal.chunk_size_with-requires
chunk_size_with-requires c =
    let old = c.args.self.now in
    let kept = filter (λ t. is_kept old.left t) old.touched.items in
    let is : c.in_ok-touched.touched.items ≡ kept = c.in_ok-touched.ensures ∙ ap (λ (ts : List Touched). filter (λ t. is_kept old.left t) ts) c.deref.ensures.value in
    subst (λ (ts : List Touched). Ascend (entries_in ts)) (sym is ∙ sym c.deref-2.ensures.value) (kept_ascends old.left old.touched.items c.requires.ascends)

pub returns-then-chunk_size_with-most : goal.returns-then-chunk_size_with-most
returns-then-chunk_size_with-most c = c.nothing-then-chunk_size_with-most.ensures c.args.most c.args.end c.args.is_interleaved c.args.items.now.items

pub returns : goal.returns
returns c =
    let m = c.args.is_interleaved in
    let is = c.args.items.now.items in
    let most = c.args.most in
    let old = c.args.self.now in
    let kept = filter (λ t. is_kept old.left t) old.touched.items in
    let same : c.in_ok-touched.touched.items ≡ kept = c.in_ok-touched.ensures ∙ ap (λ (ts : List Touched). filter (λ t. is_kept old.left t) ts) c.deref.ensures.value in
    let size = c.chunk_size_with.ensures ∙ ap (λ (ts : List Touched). size_with m None (entries_in ts)) (c.deref-2.ensures.value ∙ same) in
    let fits : size_with m None (entries_in kept) ≤ most = omega (arith, size, c.if-chunk_size_with-most.false) in
    subst (λ (ts : List Touched). BeginsPoint most c.args.end m is (at old.count (entries_in ts))) (sym same)
    (begun most c.args.end m is old.count old.left old.touched.items c.requires (omega (arith, c.if-self-end.false)) fits)
