use Rattle.std.proofs.Common.{refl}
use Rattle.std.proofs.lemmas.List.{drop_all}
use Rattle.sctp_reassembly.proofs.NamedLemmas.{begins, comes_one, ended}
use Rattle.sctp_reassembly.proofs.stream_id_set.words_of.Goals as goal

pub loop-id-init : goal.loop-id-init
loop-id-init c = record { comes = begins 1024 c.in_ok-words.words.items c.args.ids.now (c.in_ok-words.ensures.items_if_clones_equal (λ y same. same)) refl }

pub loop-id-preserved : goal.loop-id-preserved
loop-id-preserved c = record {
  comes = comes_one c.args.ids.now c.loop-id.id-index _ c.loop-id.words.items c.set_bit.new.words.items c.loop-id-test.true c.set_bit.ensures.length c.set_bit.ensures.bits c.loop-id.invariant.comes;
}

pub returns : goal.returns
returns c = ended c.loop-id.words.items _ c.args.ids.now (drop_all c.loop-id.id-index c.args.ids.now c.loop-id-test.false) c.loop-id.invariant.comes
