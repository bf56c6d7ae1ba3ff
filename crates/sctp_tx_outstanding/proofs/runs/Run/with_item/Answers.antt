use Rattle.std.proofs.Common.{◌≡◌, inl, inr, sym, ◌∙◌, arith, rules}
use Rattle.std.proofs.lemmas.Bool.{cases_lt, both_ways}
use Rattle.std.specs.Int.{bit_at}
use Rattle.sctp_tx_outstanding.specs.Item.{should_be_retransmitted}
use Rattle.sctp_tx_outstanding.proofs.RunsLemmas.{no_bit, some_bit}
use Rattle.sctp_tx_outstanding.proofs.runs.Run.with_item.Goals as goal

pub returns-clause-here : goal.returns-clause-here
returns-clause-here c = record {
  flies = search rules;
  waits = search rules;
  fast = search rules;
  given_up = search rules;
  least = λ w.
      let set : bit_at c.with_bit-waiting.result c.args.bit ≡ 1 = c.with_bit-waiting.ensures.set (c.should_be_retransmitted-waits.ensures ∙ w) in
      omega (arith, c.bound_of.ensures (some_bit c.with_bit-waiting.result c.args.bit set), c.lesser-least.ensures.size (c.should_be_retransmitted-waits.ensures ∙ w), c.payload_size.ensures.size);
}

pub returns-clause-others : goal.returns-clause-others
returns-clause-others c = λ b i less other h.
    let same : bit_at c.with_bit-waiting.result b ≡ bit_at c.args.self.waiting b = c.with_bit-waiting.ensures.others b less other in
    record {
      flies = λ e. h.flies (sym (c.with_bit.ensures.others b less other) ∙ e);
      waits = λ e. h.waits (sym same ∙ e);
      fast = λ e. h.fast (sym (c.with_bit-2.ensures.others b less other) ∙ e);
      given_up = λ e. h.given_up (sym (c.with_bit-3.ensures.others b less other) ∙ e);
      least = λ t. elim (cases_lt 0 c.with_bit-waiting.result) [
        | inl some ↦ omega (arith, h.least t, c.lesser-least.ensures.less, c.bound_of.ensures some)
        | inr none ↦ absurd (both_ways (should_be_retransmitted i) (h.waits (sym same ∙ no_bit c.with_bit-waiting.result b none)) t)
      ];
    }
