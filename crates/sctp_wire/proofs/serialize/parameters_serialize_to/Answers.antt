use Rattle.std.proofs.Common.{◌≡◌, ◌∙◌, refl, sym, ap, subst, take, map, length, arith}
use Rattle.std.proofs.lemmas.List.{append-nil}
use Rattle.sctp_item.specs.Item.{padding}
use Rattle.sctp_wire.specs.Serialize.{IsEncodable, inner_items}
use Rattle.sctp_wire.proofs.SerializeLemmas.{written_more, padding_more, taken_more, length_item_bytes, length_inner_items_more}
use Rattle.sctp_wire.proofs.serialize.parameters_serialize_to.Goals as goal

pub loop-parameter-init : goal.loop-parameter-init
unfolding inner_items
loop-parameter-init g c = record { wrote = sym (append-nil _); len = omega arith; capacity = omega arith; between = refl }

pub loop-parameter-preserved : goal.loop-parameter-preserved
loop-parameter-preserved g c =
    let f = g.T.SerializableTlv.item_of in
    let i = c.loop-parameter.parameter-index in
    let x = c.parameter-item.result in
    let before = map f (take i c.args.parameters.now) in
    let more = taken_more f c.args.parameters.now i x c.loop-parameter-test.true c.parameter-item.is in
    let fit : IsEncodable (f x) = subst (λ y. IsEncodable (f y)) (sym c.parameter-item.is) (c.requires.fit i x c.loop-parameter-test.true) in
    let pad : c.padding_len-padding.result ≡ padding (length (f x).value) = omega arith in
    record {
      wrote = written_more c.args.output.now.items _ _ _ before _ (f x) c.loop-parameter.padding c.loop-parameter.invariant.wrote c.loop-parameter.invariant.between
          c.in_ok-push_zeros.ensures.wrote c.in_ok-push_item.ensures.wrote more;
      len = omega (arith, c.loop-parameter.invariant.len, c.loop-parameter.invariant.between, c.in_ok-push_zeros.ensures.room.len, c.in_ok-push_item.ensures.room.len, length_item_bytes (f x), ap length (ap inner_items more), length_inner_items_more before (f x));
      capacity = omega (arith, c.loop-parameter.invariant.capacity, c.in_ok-push_zeros.ensures.room.capacity, c.in_ok-push_item.ensures.room.capacity);
      between = pad ∙ padding_more before _ (f x) more;
    }
