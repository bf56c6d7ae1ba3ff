use Rattle.std.proofs.Common.{◌≡◌, List, take, sym, subst, ap, ◌∙◌}
use Rattle.std.specs.Prelude.{IfOk}
use Rattle.sctp_rx.specs.Seen.{Run, Seen, AreRuns}
use Rattle.sctp_rx.specs.SeenSteps.{runs_of}
use Rattle.sctp_rx.specs.Sack.{blocks_of, gap_ack_blocks}
use Rattle.sctp_rx.proofs.SeenPlacesLemmas.{runs_of_read, AreRuns_take}
use Rattle.sctp_rx.proofs.data_tracker.seen.Seen.gap_ack_blocks.Goals as goal

pub blocks_of-requires : goal.blocks_of-requires
blocks_of-requires c =
    let es = c.self.inside.runs.entries in
    let first : runs_of c.deref.result.now ≡ take 20 (runs_of es) = ap runs_of (c.deref.ensures.value ∙ c.in_ok-runs.ensures) ∙ runs_of_read 20 es in
    subst (λ (rs : List Run). AreRuns c.self.inside.front rs) (sym first) (AreRuns_take c.self.inside.front 20 (runs_of es) c.self.invariant.runs)

pub returns : goal.returns
returns c =
    let es = c.self.inside.runs.entries in
    let first : runs_of c.deref.result.now ≡ take 20 (runs_of es) = ap runs_of (c.deref.ensures.value ∙ c.in_ok-runs.ensures) ∙ runs_of_read 20 es in
    let P : List Run → Type 0 = λ rs. IfOk c.blocks_of.result (λ blocks. blocks.items ≡ blocks_of c.self.inside.front rs) in
    let Q : Seen → Type 0 = λ s. IfOk c.blocks_of.result (λ blocks. blocks.items ≡ gap_ack_blocks s) in
    subst Q c.self.view_is (subst P first c.blocks_of.ensures)
