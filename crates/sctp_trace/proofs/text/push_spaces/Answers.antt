use Rattle.std.proofs.Common.{ℕ, List, [], ◌∷◌, ◌++◌, append_assoc, ap, ◌∙◌, arith}
use Rattle.std.proofs.lemmas.List.{replicate_more}
use Rattle.std.specs.Prelude.{replicate}
use Rattle.sctp_trace.proofs.text.push_spaces.Goals as goal

pub loop-preserved : goal.loop-preserved
loop-preserved c =
    c.in_ok-push.ensures.items
    ∙ (ap (λ (l : List ℕ). l ++ (32 ∷ [])) c.loop.invariant
    ∙ (append_assoc c.args.text.now.items (replicate c.loop.counter 32) (32 ∷ [])
    ∙ ap (λ (l : List ℕ). c.args.text.now.items ++ l) (replicate_more c.loop.counter 32)))

pub returns : goal.returns
returns c =
    c.loop.invariant
    ∙ ap (λ (n : ℕ). c.args.text.now.items ++ replicate n 32) (omega (arith, c.loop-test.false, c.loop.auto.counter-end))
