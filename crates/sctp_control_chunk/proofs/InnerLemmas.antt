-- Items inside a chunk: where all of them fit, each does.
use Rattle.std.proofs.Common.{◌≡◌, ℕ, ◌+◌, ◌^◌, ◌<◌, List, [], ◌∷◌, ◌++◌, length, map, arith}
use Rattle.std.specs.Prelude.{All}
use Rattle.std.proofs.lemmas.List.{length-append}
use Rattle.std.proofs.lemmas.List.Elements.{All-nil, All-cons}
use Rattle.sctp_wire.specs.Item.{Item}
use Rattle.sctp_wire.specs.Serialize.{IsEncodable, padded_item, inner_items}
use Rattle.sctp_wire.proofs.SerializeLemmas.{length_item_bytes, length_padded_item}
use Rattle.sctp_wire.specs.Field.{be16, be32}
use Rattle.sctp_chunk.specs.Chunk.{InitTree}
use Rattle.sctp_chunk.specs.Written.{init_fields}

pub length_init : (t : InitTree) (inner : List ℕ) → length (init_fields t ++ inner) ≡ 16 + length inner
unfolding init_fields be16 be32
length_init t inner = omega arith

pub each_fits : {X : Type 0} (f : X → Item) (xs : List X) → 4 + length (inner_items (map f xs)) < 2 ^ 16 → All (λ x. IsEncodable (f x)) xs
unfolding inner_items
each_fits f [] h = All-nil (λ x. IsEncodable (f x))
each_fits f (x ∷ []) h = All-cons (λ y. IsEncodable (f y)) x [] (omega (arith, h, length_item_bytes (f x))) (All-nil (λ y. IsEncodable (f y)))
each_fits f (x ∷ y ∷ xs) h =
    let len = length-append (padded_item (f x)) (inner_items (map f (y ∷ xs))) in
    All-cons (λ z. IsEncodable (f z)) x (y ∷ xs) (omega (arith, h, len, length_padded_item (f x))) (each_fits f (y ∷ xs) (omega (arith, h, len)))
