-- A chunk under other names is as long, and fits its items as well.
use Rattle.std.proofs.Common.{◌≡◌, ℕ, ◌+◌, ◌&&◌, Bool, Option, Some, None, option_map, List, [], ◌∷◌, ◌++◌, length, map, refl, sym, ap, ◌∙◌, arith}
use Rattle.std.specs.List.{flat_map, list_all}
use Rattle.std.proofs.lemmas.List.{length-append}
use Rattle.std.proofs.lemmas.List.Concat.{flat_map-cons}
use Rattle.sctp_serial.specs.declared.types.tsn.Tsn.{Tsn}
use Rattle.sctp_wire.specs.Field.{be16, be32}
use Rattle.sctp_wire.specs.Item.{Item, item_bytes, padding}
use Rattle.sctp_wire.specs.Serialize.{padded_item, inner_items}
use Rattle.sctp_wire.specs.Parameter.{ParameterTree, heartbeat_info, state_cookie, outgoing_reset_request, incoming_reset_request, ssn_tsn_reset_request, reset_response, add_outgoing_streams_request, add_incoming_streams_request, supported_extensions, forward_tsn_supported, zero_checksum_acceptable, unknown_parameter, parameter_item, parameter_value, parameter_is_whole, optional_tsn_bytes}
use Rattle.sctp_wire.proofs.SerializeLemmas.{length_item_bytes, length_padded_item}
use Rattle.sctp_parameter.proofs.ParameterLemmas.{length_outgoing, length_incoming, length_response}
use Rattle.sctp_packet.specs.Chunk.{ChunkTree, FragmentTree, InitTree, SackTree, data_chunk, init_chunk, init_ack_chunk, sack_chunk, heartbeat_request_chunk, heartbeat_ack_chunk, abort_chunk, shutdown_chunk, shutdown_ack_chunk, error_chunk, cookie_echo_chunk, cookie_ack_chunk, shutdown_complete_chunk, idata_chunk, re_config_chunk, forward_tsn_chunk, i_forward_tsn_chunk, unknown_chunk}
use Rattle.sctp_chunk.specs.declared.forward_tsn.SkippedStream.{SkippedStream}
use Rattle.sctp_packet.specs.Written.{chunk_item, chunk_value, chunk_bytes, chunks_bytes, chunk_is_whole, data_value, idata_value, init_fields, sack_value, forward_value, tsn_bytes, block_bytes}
use Rattle.sctp_packet.proofs.OneChunkLemmas.{length_front}
use Rattle.proof_draws.specs.NamedChunks.{Names, AreNames, move_by, moved_tsn, named_parameter, named_init, named_sack, named_chunk, named_chunks}

-- ---- items

-- an item with a value as long is as long
same_item : (i j : Item) → length i.value ≡ length j.value → length (item_bytes i) ≡ length (item_bytes j)
same_item i j h = omega (arith, length_item_bytes i, length_item_bytes j, h)

same_padded : (i j : Item) → length i.value ≡ length j.value → length (padded_item i) ≡ length (padded_item j)
same_padded i j h =
    length_padded_item i ∙ (ap (λ (k : ℕ). 4 + (k + padding k)) h ∙ sym (length_padded_item j))

module _ {A : Type 0} (f : A → A) (item : A → Item) (each : (a : A) → length (item (f a)).value ≡ length (item a).value) where
  same_inner : (xs : List A) → length (inner_items (map item (map f xs))) ≡ length (inner_items (map item xs))
  unfolding inner_items
  same_inner [] = refl
  same_inner (a ∷ []) = same_item (item (f a)) (item a) (each a)
  same_inner (a ∷ b ∷ xs) =
      let rest : length (inner_items (map item (map f (b ∷ xs)))) ≡ length (inner_items (map item (b ∷ xs))) = same_inner (b ∷ xs) in
      length-append (padded_item (item (f a))) (inner_items (map item (map f (b ∷ xs))))
      ∙ (ap (λ (k : ℕ). k + length (inner_items (map item (map f (b ∷ xs))))) (same_padded (item (f a)) (item a) (each a))
      ∙ (ap (λ (k : ℕ). length (padded_item (item a)) + k) rest
      ∙ sym (length-append (padded_item (item a)) (inner_items (map item (b ∷ xs))))))

module _ (n : Names) (are : AreNames n) where
  -- ---- parameters

  same_optional : (by : ℕ) (o : Option Tsn) → length (optional_tsn_bytes (option_map (moved_tsn by) o)) ≡ length (optional_tsn_bytes o)
  unfolding be32
  same_optional by None = refl
  same_optional by (Some tsn) = refl

  same_parameter : (p : ParameterTree) → length (parameter_item (named_parameter n p)).value ≡ length (parameter_item p).value
  unfolding parameter_value
  same_parameter (heartbeat_info info) = refl
  same_parameter (state_cookie cookie) = are.size cookie
  same_parameter (outgoing_reset_request number response tsn streams) =
      length_outgoing (move_by n.own number) (move_by n.own response) (moved_tsn n.own tsn) streams ∙ sym (length_outgoing number response tsn streams)
  same_parameter (incoming_reset_request number streams) = length_incoming (move_by n.own number) streams ∙ sym (length_incoming number streams)
  same_parameter (ssn_tsn_reset_request typ value) = refl
  same_parameter (reset_response number result sender receiver) =
      length_response (move_by n.peer number) result (option_map (moved_tsn n.own) sender) (option_map (moved_tsn n.peer) receiver)
      ∙ (ap (λ (k : ℕ). 8 + (k + length (optional_tsn_bytes (option_map (moved_tsn n.peer) receiver)))) (same_optional n.own sender)
      ∙ (ap (λ (k : ℕ). 8 + (length (optional_tsn_bytes sender) + k)) (same_optional n.peer receiver) ∙ sym (length_response number result sender receiver)))
  same_parameter (add_outgoing_streams_request typ value) = refl
  same_parameter (add_incoming_streams_request typ value) = refl
  same_parameter (supported_extensions types) = refl
  same_parameter forward_tsn_supported = refl
  same_parameter (zero_checksum_acceptable method) = refl
  same_parameter (unknown_parameter typ value) = refl

  same_parameters : (ps : List ParameterTree) → length (inner_items (map parameter_item (map (named_parameter n) ps))) ≡ length (inner_items (map parameter_item ps))
  same_parameters ps = same_inner (named_parameter n) parameter_item same_parameter ps

  -- ---- values

  same_init : (i : InitTree) → length (init_fields (named_init n i) ++ inner_items (map parameter_item (named_init n i).parameters)) ≡ length (init_fields i ++ inner_items (map parameter_item i.parameters))
  same_init i =
      length-append (init_fields (named_init n i)) (inner_items (map parameter_item (named_init n i).parameters))
      ∙ (ap (λ (k : ℕ). k + length (inner_items (map parameter_item (named_init n i).parameters))) (length_front (named_init n i) ∙ sym (length_front i))
      ∙ (ap (λ (k : ℕ). length (init_fields i) + k) (same_parameters i.parameters)
      ∙ sym (length-append (init_fields i) (inner_items (map parameter_item i.parameters)))))

  -- numbers take four bytes each
  same_tsns : (by : ℕ) (ts : List Tsn) → length (flat_map tsn_bytes (map (moved_tsn by) ts)) ≡ length (flat_map tsn_bytes ts)
  unfolding be32
  same_tsns by [] = refl
  same_tsns by (t ∷ ts) =
      ap length (flat_map-cons tsn_bytes (moved_tsn by t) (map (moved_tsn by) ts))
      ∙ (length-append (tsn_bytes (moved_tsn by t)) (flat_map tsn_bytes (map (moved_tsn by) ts))
      ∙ (ap (λ (k : ℕ). 4 + k) (same_tsns by ts)
      ∙ (sym (length-append (tsn_bytes t) (flat_map tsn_bytes ts)) ∙ ap length (sym (flat_map-cons tsn_bytes t ts)))))

  same_sack : (k : SackTree) → length (sack_value (named_sack n k)) ≡ length (sack_value k)
  unfolding sack_value be16 be32
  same_sack k =
      let blocks : List ℕ = flat_map block_bytes k.gap_ack_blocks in
      let both : length (blocks ++ flat_map tsn_bytes (map (moved_tsn n.peer) k.duplicate_tsns)) ≡ length (blocks ++ flat_map tsn_bytes k.duplicate_tsns) =
      length-append blocks (flat_map tsn_bytes (map (moved_tsn n.peer) k.duplicate_tsns))
      ∙ (ap (λ (l : ℕ). length blocks + l) (same_tsns n.peer k.duplicate_tsns) ∙ sym (length-append blocks (flat_map tsn_bytes k.duplicate_tsns))) in
      omega (arith, both)

  same_data : (tsn : ℕ) (f : FragmentTree) → length (data_value (move_by n.own tsn) f) ≡ length (data_value tsn f)
  unfolding data_value be16 be32
  same_data tsn f = refl

  same_idata : (tsn : ℕ) (f : FragmentTree) → length (idata_value 0 (move_by n.own tsn) f) ≡ length (idata_value 0 tsn f)
  unfolding idata_value be16 be32
  same_idata tsn f = refl

  same_forward : (tsn : ℕ) (skipped : List SkippedStream) → length (forward_value (move_by n.own tsn) skipped) ≡ length (forward_value tsn skipped)
  unfolding forward_value be32
  same_forward tsn skipped = refl

  same_number : (by tsn : ℕ) → length (be32 (move_by by tsn)) ≡ length (be32 tsn)
  unfolding be32
  same_number by tsn = refl

  pub same_value : (c : ChunkTree) → length (chunk_value (named_chunk n c)) ≡ length (chunk_value c)
  unfolding chunk_value
  same_value (data_chunk tsn immediate f) = same_data tsn f
  same_value (idata_chunk tsn immediate f) = same_idata tsn f
  same_value (init_chunk i) = same_init i
  same_value (init_ack_chunk i) = same_init i
  same_value (sack_chunk k) = same_sack k
  same_value (heartbeat_request_chunk parameters) = refl
  same_value (heartbeat_ack_chunk parameters) = refl
  same_value (abort_chunk reflected causes) = refl
  same_value (shutdown_chunk tsn) = same_number n.peer tsn
  same_value shutdown_ack_chunk = refl
  same_value (error_chunk causes) = refl
  same_value (cookie_echo_chunk cookie) = are.size cookie
  same_value cookie_ack_chunk = refl
  same_value (shutdown_complete_chunk reflected) = refl
  same_value (re_config_chunk parameters) = same_parameters parameters
  same_value (forward_tsn_chunk tsn skipped) = same_forward tsn skipped
  same_value (i_forward_tsn_chunk tsn skipped) = same_forward tsn skipped
  same_value (unknown_chunk typ flags value) = refl

  pub size_named : (c : ChunkTree) → length (chunk_bytes (named_chunk n c)) ≡ length (chunk_bytes c)
  unfolding chunk_bytes
  size_named c = same_padded (chunk_item (named_chunk n c)) (chunk_item c) (same_value c)

  pub sizes_named : (cs : List ChunkTree) → length (chunks_bytes (named_chunks n cs)) ≡ length (chunks_bytes cs)
  unfolding chunks_bytes
  sizes_named [] = refl
  sizes_named (c ∷ cs) =
      ap length (flat_map-cons chunk_bytes (named_chunk n c) (named_chunks n cs))
      ∙ (length-append (chunk_bytes (named_chunk n c)) (chunks_bytes (named_chunks n cs))
      ∙ (ap (λ (k : ℕ). k + length (chunks_bytes (named_chunks n cs))) (size_named c)
      ∙ (ap (λ (k : ℕ). length (chunk_bytes c) + k) (sizes_named cs)
      ∙ (sym (length-append (chunk_bytes c) (chunks_bytes cs)) ∙ ap length (sym (flat_map-cons chunk_bytes c cs))))))

  -- ---- parts agree as before

  whole_parameter : (p : ParameterTree) → parameter_is_whole (named_parameter n p) ≡ parameter_is_whole p
  whole_parameter (heartbeat_info info) = refl
  whole_parameter (state_cookie cookie) = refl
  whole_parameter (outgoing_reset_request number response tsn streams) = refl
  whole_parameter (incoming_reset_request number streams) = refl
  whole_parameter (ssn_tsn_reset_request typ value) = refl
  whole_parameter (reset_response number result None None) = refl
  whole_parameter (reset_response number result None (Some receiver)) = refl
  whole_parameter (reset_response number result (Some sender) None) = refl
  whole_parameter (reset_response number result (Some sender) (Some receiver)) = refl
  whole_parameter (add_outgoing_streams_request typ value) = refl
  whole_parameter (add_incoming_streams_request typ value) = refl
  whole_parameter (supported_extensions types) = refl
  whole_parameter forward_tsn_supported = refl
  whole_parameter (zero_checksum_acceptable method) = refl
  whole_parameter (unknown_parameter typ value) = refl

  whole_parameters : (ps : List ParameterTree) → list_all parameter_is_whole (map (named_parameter n) ps) ≡ list_all parameter_is_whole ps
  whole_parameters [] = refl
  whole_parameters (p ∷ ps) =
      ap (λ (b : Bool). b && list_all parameter_is_whole (map (named_parameter n) ps)) (whole_parameter p)
      ∙ ap (λ (b : Bool). parameter_is_whole p && b) (whole_parameters ps)

  pub whole_named : (c : ChunkTree) → chunk_is_whole (named_chunk n c) ≡ chunk_is_whole c
  whole_named (data_chunk tsn immediate f) = refl
  whole_named (idata_chunk tsn immediate f) = refl
  whole_named (init_chunk i) = whole_parameters i.parameters
  whole_named (init_ack_chunk i) = whole_parameters i.parameters
  whole_named (sack_chunk k) = refl
  whole_named (heartbeat_request_chunk parameters) = refl
  whole_named (heartbeat_ack_chunk parameters) = refl
  whole_named (abort_chunk reflected causes) = refl
  whole_named (shutdown_chunk tsn) = refl
  whole_named shutdown_ack_chunk = refl
  whole_named (error_chunk causes) = refl
  whole_named (cookie_echo_chunk cookie) = refl
  whole_named cookie_ack_chunk = refl
  whole_named (shutdown_complete_chunk reflected) = refl
  whole_named (re_config_chunk parameters) = whole_parameters parameters
  whole_named (forward_tsn_chunk tsn skipped) = refl
  whole_named (i_forward_tsn_chunk tsn skipped) = refl
  whole_named (unknown_chunk typ flags value) = refl
