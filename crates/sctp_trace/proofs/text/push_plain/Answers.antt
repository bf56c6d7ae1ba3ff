use Rattle.std.proofs.Common.{ℕ, List, [], ◌∷◌, ◌++◌, map, ap, ◌∙◌, arith}
use Rattle.std.proofs.lemmas.List.{take_all}
use Rattle.sctp_trace.specs.Ascii.{plain}
use Rattle.sctp_trace.proofs.Appended.{map_more}
use Rattle.sctp_trace.proofs.text.push_plain.Goals as goal

pub loop-byte-preserved : goal.loop-byte-preserved
loop-byte-preserved c = map_more plain c.args.text.now.items c.loop-byte.text.items _ c.args.words.now c.loop-byte.byte-index _
    c.loop-byte-test.true c.loop-byte.invariant
    (c.in_ok-push.ensures.items ∙ ap (λ (byte : ℕ). c.loop-byte.text.items ++ (byte ∷ [])) c.plain.ensures)

pub returns : goal.returns
returns c =
    c.loop-byte.invariant
    ∙ ap (λ (l : List ℕ). c.args.text.now.items ++ map plain l) (take_all c.loop-byte.byte-index c.args.words.now (omega (arith, c.loop-byte-test.false)))
