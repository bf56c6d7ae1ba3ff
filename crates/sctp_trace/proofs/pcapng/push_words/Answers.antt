use Rattle.std.proofs.Common.{ℕ, List, ◌++◌, ap, ◌∙◌, arith}
use Rattle.std.proofs.lemmas.List.{take_all}
use Rattle.std.specs.List.{flat_map}
use Rattle.sctp_trace.specs.Bytes.{le32}
use Rattle.sctp_trace.proofs.Appended.{flat_more}
use Rattle.sctp_trace.proofs.pcapng.push_words.Goals as goal

pub loop-word-preserved : goal.loop-word-preserved
loop-word-preserved c = flat_more le32 c.args.bytes.now.items c.loop-word.bytes.items _ c.args.words.now c.loop-word.word-index _
    c.loop-word-test.true c.loop-word.invariant c.in_ok-push_u32.ensures

pub returns : goal.returns
returns c =
    c.loop-word.invariant
    ∙ ap (λ (l : List ℕ). c.args.bytes.now.items ++ flat_map le32 l) (take_all c.loop-word.word-index c.args.words.now (omega (arith, c.loop-word-test.false)))
