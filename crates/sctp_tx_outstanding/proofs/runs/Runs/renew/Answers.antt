use Rattle.std.proofs.Common.{◌≡◌, ℕ, inl, inr, arith}
use Rattle.std.proofs.lemmas.Bool.{cases_lt}
use Rattle.sctp_tx_outstanding.specs.Runs.{run_of}
use Rattle.sctp_tx_outstanding.specs.Sizes.{IsLargeAt}
use Rattle.sctp_tx_outstanding.proofs.runs.Runs.renew.Goals as goal

pub returns : goal.returns
returns c = λ h.
    let items = c.args.items.now.items in
    let offset = c.args.self.now.offset in
    let run = c.run_of-run.result in
    let whole : (k : ℕ) → run_of offset k ≡ run → IsLargeAt c.least_between-least.result k items = λ k at. elim (cases_lt k c.end_of-end.result) [
      | inl within ↦ c.least_between-least.ensures k (c.begin_of-begin.ensures.from k (omega (arith, at))) within
      | inr behind ↦ absurd (omega (arith, c.end_of-end.ensures.behind k behind, at, c.run_of-run.ensures))
    ] in
    c.settle_least.ensures items whole h
