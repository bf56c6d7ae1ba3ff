-- What two ends agree on, by whichever of INIT and INIT ACK they meet.
use Rattle.std.proofs.Common.{◌≡◌, ℕ, zero, suc, ◌==◌, ◌||◌, ◌&&◌, not, min, Bool, true, false, List, [], ◌∷◌, ◌++◌, map, refl, sym, ap, ◌∙◌, arith}
use Rattle.std.proofs.lemmas.Bool.Decides.{nat_tests}
use Rattle.std.proofs.Math.Dec.{eqb-suc-zero}
use Rattle.std.specs.List.{list_any}
use Rattle.std.proofs.Common.{All, length, ◌≤◌}
use Rattle.std.proofs.lemmas.List.Elements.{All-cons, All-nil}
use Rattle.sctp_wire.specs.Field.{be32}
use Rattle.sctp_wire.specs.Serialize.{IsEncodable, inner_items, padded_item}
use Rattle.sctp_wire.specs.Parameter.{ParameterTree, supported_extensions, forward_tsn_supported, zero_checksum_acceptable, parameter_item, parameter_value, parameter_is_whole}
use Rattle.sctp_state.specs.Options.{Options}
use Rattle.sctp_capabilities.specs.Capabilities.{Capabilities, announced_parameters, i_data, re_config, forward_tsn, i_forward_tsn, where_enabled, extensions_in, method_in, is_forward_tsn_supported, has_type, same_method, negotiate, agreed, mirrored_capabilities, announced_with, announced_by_init, announced_by_init_ack}

pub list_any_map : {X Y : Type 0} (p : Y → Bool) (f : X → Y) (xs : List X) → list_any p (map f xs) ≡ list_any (λ x. p (f x)) xs
list_any_map p f [] = refl
list_any_map p f (x ∷ xs) = ap (λ (b : Bool). p (f x) || b) (list_any_map p f xs)

-- ---- what announced parameters say

-- the chunk types and the parameters, by what is enabled
abbrev types_by : (partial_reliability interleaving : Bool) → List ℕ
types_by p i = re_config ∷ (where_enabled p (forward_tsn ∷ []) ++ where_enabled i (i_data ∷ i_forward_tsn ∷ []))

abbrev list_by : (partial_reliability interleaving has_method : Bool) → ℕ → List ParameterTree
list_by p i h method =
    where_enabled p (forward_tsn_supported ∷ [])
    ++ (where_enabled h (zero_checksum_acceptable method ∷ []) ++ supported_extensions (types_by p i) ∷ [])

extensions_in_list_by : (p i h : Bool) (method : ℕ) → extensions_in (list_by p i h method) ≡ types_by p i
extensions_in_list_by true i true method = refl
extensions_in_list_by true i false method = refl
extensions_in_list_by false i true method = refl
extensions_in_list_by false i false method = refl

method_in_list_by : (p i : Bool) (method : ℕ) → method_in (list_by p i (not (method == 0)) method) ≡ method
method_in_list_by true i zero = refl
method_in_list_by true i (suc n) = rw (eqb-suc-zero n) refl
method_in_list_by false i zero = refl
method_in_list_by false i (suc n) = rw (eqb-suc-zero n) refl

announces_forward_tsn : (p i h : Bool) (method : ℕ) → (list_any is_forward_tsn_supported (list_by p i h method) || has_type forward_tsn (types_by p i)) ≡ p
announces_forward_tsn true i true method = refl
announces_forward_tsn true i false method = refl
announces_forward_tsn false true true method = refl
announces_forward_tsn false true false method = refl
announces_forward_tsn false false true method = refl
announces_forward_tsn false false false method = refl

has_i_data : (p i : Bool) → has_type i_data (types_by p i) ≡ i
has_i_data true true = refl
has_i_data true false = refl
has_i_data false true = refl
has_i_data false false = refl

has_re_config : (p i : Bool) → has_type re_config (types_by p i) ≡ true
has_re_config p i = refl

-- an end announces its options, with the method that it announces
pub announced_with_options : (method : ℕ) (o : Options) → announced_with method o ≡ record {
  partial_reliability = o.enable_partial_reliability;
  message_interleaving = o.enable_message_interleaving;
  reconfig = true;
  zero_checksum_method = method;
  incoming = o.announced_maximum_outgoing_streams;
  outgoing = o.announced_maximum_incoming_streams;
}
announced_with_options method o =
    let p = o.enable_partial_reliability in
    let i = o.enable_message_interleaving in
    let h = not (method == 0) in
    let types = extensions_in_list_by p i h method in
    let forward = ap (λ (ts : List ℕ). list_any is_forward_tsn_supported (list_by p i h method) || has_type forward_tsn ts) types ∙ announces_forward_tsn p i h method in
    let interleaving = ap (has_type i_data) types ∙ has_i_data p i in
    let reset = ap (has_type re_config) types ∙ has_re_config p i in
    let known = method_in_list_by p i method in
    λ j. record {
      partial_reliability = forward j;
      message_interleaving = interleaving j;
      reconfig = reset j;
      zero_checksum_method = known j;
      incoming = o.announced_maximum_outgoing_streams;
      outgoing = o.announced_maximum_incoming_streams;
    }

-- ---- agreed

-- the method that the answer names is the one that both name
same_again : (a b : ℕ) → same_method a (same_method b a) ≡ same_method a b
same_again a b = grind (arith, nat_tests)

-- the end that takes an INIT
pub negotiated_by_init : (own peer : Options) → negotiate own (announced_by_init peer) ≡ agreed own peer
negotiated_by_init own peer = ap (negotiate own) (announced_with_options peer.zero_checksum_method peer)

-- the end that takes the INIT ACK which answers its INIT
pub negotiated_by_init_ack : (own peer : Options) → negotiate own (announced_by_init_ack peer own) ≡ agreed own peer
negotiated_by_init_ack own peer =
    let answer = ap (λ (k : Capabilities). k.zero_checksum_method) (negotiated_by_init peer own) in
    let again = same_again own.zero_checksum_method peer.zero_checksum_method in
    ap (λ (method : ℕ). negotiate own (announced_with method peer)) answer
    ∙ ap (negotiate own) (announced_with_options (agreed peer own).zero_checksum_method peer)
    ∙ ap (λ (method : ℕ). record (agreed own peer) { zero_checksum_method = method }) again

-- both ends do the same, with the stream counts exchanged
and_comm : (a b : Bool) → (a && b) ≡ (b && a)
and_comm true true = refl
and_comm true false = refl
and_comm false true = refl
and_comm false false = refl

same_method_comm : (a b : ℕ) → same_method a b ≡ same_method b a
same_method_comm a b = grind (arith, nat_tests)

min_comm : (a b : ℕ) → min a b ≡ min b a
min_comm a b = omega arith

pub agreed_exchanged : (own peer : Options) → agreed peer own ≡ mirrored_capabilities (agreed own peer)
agreed_exchanged own peer =
    let partial = and_comm peer.enable_partial_reliability own.enable_partial_reliability in
    let interleaving = and_comm peer.enable_message_interleaving own.enable_message_interleaving in
    let method = same_method_comm peer.zero_checksum_method own.zero_checksum_method in
    let incoming = min_comm peer.announced_maximum_incoming_streams own.announced_maximum_outgoing_streams in
    let outgoing = min_comm peer.announced_maximum_outgoing_streams own.announced_maximum_incoming_streams in
    λ j. record {
      partial_reliability = partial j;
      message_interleaving = interleaving j;
      reconfig = true;
      zero_checksum_method = method j;
      incoming = incoming j;
      outgoing = outgoing j;
    }

-- ---- announced parameters can be written

abbrev pub IsWritable : ParameterTree → Type 0
IsWritable p = IsEncodable (parameter_item p) × (parameter_is_whole p ≡ true)

extensions_writable : (p i : Bool) → IsWritable (supported_extensions (types_by p i))
unfolding parameter_value
extensions_writable true true = (omega arith, refl)
extensions_writable true false = (omega arith, refl)
extensions_writable false true = (omega arith, refl)
extensions_writable false false = (omega arith, refl)

behind_method : (h : Bool) (method : ℕ) (ps : List ParameterTree) → All IsWritable ps
    → All IsWritable (where_enabled h (zero_checksum_acceptable method ∷ []) ++ ps)
unfolding parameter_value be32
behind_method true method ps rest = All-cons IsWritable (zero_checksum_acceptable method) ps (omega arith, refl) rest
behind_method false method ps rest = rest

behind_forward_tsn : (p : Bool) (ps : List ParameterTree) → All IsWritable ps → All IsWritable (where_enabled p (forward_tsn_supported ∷ []) ++ ps)
unfolding parameter_value
behind_forward_tsn true ps rest = All-cons IsWritable forward_tsn_supported ps (omega arith, refl) rest
behind_forward_tsn false ps rest = rest

pub announced_writable : (o : Options) (method : ℕ) → All IsWritable (announced_parameters o method)
announced_writable o method =
    let p = o.enable_partial_reliability in
    let i = o.enable_message_interleaving in
    behind_forward_tsn p _ (behind_method (not (method == 0)) method _
    (All-cons IsWritable (supported_extensions (types_by p i)) [] (extensions_writable p i) (All-nil IsWritable)))

-- their bytes, but for the padding of the last one
size_by : (p i h : Bool) (method : ℕ) → length (inner_items (map parameter_item (list_by p i h method))) ≤ 20
unfolding inner_items padded_item parameter_value be32
size_by true true true method = omega arith
size_by true true false method = omega arith
size_by true false true method = omega arith
size_by true false false method = omega arith
size_by false true true method = omega arith
size_by false true false method = omega arith
size_by false false true method = omega arith
size_by false false false method = omega arith

pub announced_size : (o : Options) (method : ℕ) → length (inner_items (map parameter_item (announced_parameters o method))) ≤ 20
announced_size o method = size_by o.enable_partial_reliability o.enable_message_interleaving (not (method == 0)) method
