-- Parameters: RFC 9260 sections 3.2.1, 3.3.2 and 3.3.5, RFC 6525 section 4 (stream resets), RFC 3758 section 3.1
-- (forward TSN), RFC 5061 section 4.2.7 (supported extensions), RFC 9653 section 4 (zero checksum).
-- One grammar for reader and writer: the type and the value of a tree.
use Rattle.std.specs.Prelude.{◌≡◌, ℕ, ◌<◌, ◌≤◌, ◌^◌, Bool, true, false, cond, ◌==◌, ◌||◌, List, [], ◌++◌, Option, None, Some, All, IfSome}
use Rattle.std.specs.List.{flat_map}
use Rattle.sctp_serial.specs.declared.api.StreamId.{StreamId}
use Rattle.sctp_serial.specs.declared.types.tsn.Tsn.{Tsn}
use Rattle.sctp_wire.specs.declared.error.ChunkParseError.{ChunkParseError}
use Rattle.sctp_wire.specs.Field.{be16, be32}
use Rattle.sctp_item.specs.Item.{Item}
use Rattle.sctp_wire.specs.Serialize.{item_of_type, type_of}
use Rattle.sctp_wire.specs.Shape.{Shape, any_length, exactly, either, in_steps, RefusesAs}

-- what a parameter says
pub data ParameterTree : Type 0 where
  heartbeat_info : (info : List ℕ) → ParameterTree
  state_cookie : (cookie : List ℕ) → ParameterTree
  outgoing_reset_request : (request_seq_nbr response_seq_nbr : ℕ) (sender_last_assigned_tsn : Tsn) (streams : List StreamId) → ParameterTree
  incoming_reset_request : (request_seq_nbr : ℕ) (streams : List StreamId) → ParameterTree
  ssn_tsn_reset_request : (typ : ℕ) (value : List ℕ) → ParameterTree
  reset_response : (response_seq_nbr result : ℕ) (sender_next_tsn receiver_next_tsn : Option Tsn) → ParameterTree
  add_outgoing_streams_request : (typ : ℕ) (value : List ℕ) → ParameterTree
  add_incoming_streams_request : (typ : ℕ) (value : List ℕ) → ParameterTree
  supported_extensions : (chunk_types : List ℕ) → ParameterTree
  forward_tsn_supported : ParameterTree
  zero_checksum_acceptable : (method : ℕ) → ParameterTree
  unknown_parameter : (typ : ℕ) (value : List ℕ) → ParameterTree

abbrev pub parameter_type : ParameterTree → ℕ
parameter_type (heartbeat_info info) = 1
parameter_type (state_cookie cookie) = 7
parameter_type (outgoing_reset_request request response tsn streams) = 13
parameter_type (incoming_reset_request request streams) = 14
parameter_type (ssn_tsn_reset_request typ value) = typ
parameter_type (reset_response response result sender receiver) = 16
parameter_type (add_outgoing_streams_request typ value) = typ
parameter_type (add_incoming_streams_request typ value) = typ
parameter_type (supported_extensions chunk_types) = 0x8008
parameter_type forward_tsn_supported = 0xC000
parameter_type (zero_checksum_acceptable method) = 0x8001
parameter_type (unknown_parameter typ value) = typ

-- streams, two bytes each
abbrev pub stream_bytes : StreamId → List ℕ
stream_bytes id = be16 id.0

-- a TSN that may be absent
abbrev pub optional_tsn_bytes : Option Tsn → List ℕ
optional_tsn_bytes None = []
optional_tsn_bytes (Some tsn) = be32 tsn.0

unfoldable pub parameter_value : ParameterTree → List ℕ
parameter_value (heartbeat_info info) = info
parameter_value (state_cookie cookie) = cookie
parameter_value (outgoing_reset_request request response tsn streams) = be32 request ++ (be32 response ++ (be32 tsn.0 ++ flat_map stream_bytes streams))
parameter_value (incoming_reset_request request streams) = be32 request ++ flat_map stream_bytes streams
parameter_value (ssn_tsn_reset_request typ value) = value
parameter_value (reset_response response result sender receiver) = be32 response ++ (be32 result ++ (optional_tsn_bytes sender ++ optional_tsn_bytes receiver))
parameter_value (add_outgoing_streams_request typ value) = value
parameter_value (add_incoming_streams_request typ value) = value
parameter_value (supported_extensions chunk_types) = chunk_types
parameter_value forward_tsn_supported = []
parameter_value (zero_checksum_acceptable method) = be32 method
parameter_value (unknown_parameter typ value) = value

-- the types of the parameters above
abbrev pub is_known_parameter : ℕ → Bool
is_known_parameter typ = (typ == 1) || ((typ == 7) || ((typ == 13) || ((typ == 14) || ((typ == 15) || ((typ == 16)
    || ((typ == 17) || ((typ == 18) || ((typ == 0x8001) || ((typ == 0x8008) || (typ == 0xC000))))))))))

-- a response holds both TSNs or neither
abbrev pub parameter_is_whole : ParameterTree → Bool
parameter_is_whole (reset_response response result None (Some receiver)) = false
parameter_is_whole (reset_response response result (Some sender) None) = false
parameter_is_whole _ = true

-- The type is one that its variant holds, and a response has one of seven results.
abbrev pub IsOfItsVariant : ParameterTree → Type 0
IsOfItsVariant (ssn_tsn_reset_request typ value) = typ ≡ 15
IsOfItsVariant (reset_response response result sender receiver) = result ≤ 6
IsOfItsVariant (add_outgoing_streams_request typ value) = typ ≡ 17
IsOfItsVariant (add_incoming_streams_request typ value) = typ ≡ 18
IsOfItsVariant (unknown_parameter typ value) = is_known_parameter typ ≡ false
IsOfItsVariant _ = Unit {0}

-- the tree's numbers fit their fields
abbrev pub ParameterFits : ParameterTree → Type 0
ParameterFits (outgoing_reset_request request response tsn streams) = (request < 2 ^ 32) × (response < 2 ^ 32) × (tsn.0 < 2 ^ 32) × All (λ id. id.0 < 2 ^ 16) streams
ParameterFits (incoming_reset_request request streams) = (request < 2 ^ 32) × All (λ id. id.0 < 2 ^ 16) streams
ParameterFits (reset_response response result sender receiver) = (response < 2 ^ 32) × (result < 2 ^ 32) × IfSome sender (λ tsn. tsn.0 < 2 ^ 32) × IfSome receiver (λ tsn. tsn.0 < 2 ^ 32)
ParameterFits (zero_checksum_acceptable method) = method < 2 ^ 32
ParameterFits _ = Unit {0}

-- a parameter of this type and this value says what the tree says
pub record SaysParameter (typ : ℕ) (value : List ℕ) (t : ParameterTree) : Type 0 where
  pub typed : typ ≡ parameter_type t
  pub valued : value ≡ parameter_value t
  pub whole : parameter_is_whole t ≡ true
  pub of_its_variant : IsOfItsVariant t
  pub fits : ParameterFits t

-- the item stands for the tree
abbrev pub IsParameter : Item → ParameterTree → Type 0
IsParameter i t = SaysParameter (type_of i) i.value t

-- the item that is written for the tree
abbrev pub parameter_item : ParameterTree → Item
parameter_item t = item_of_type (parameter_type t) (parameter_value t)

-- the lengths that each type allows
abbrev pub parameter_shape : ℕ → Shape
parameter_shape typ = cond (typ == 13) (in_steps 12 2) (cond (typ == 14) (in_steps 4 2) (cond (typ == 16) (either 8 16)
    (cond (typ == 0x8001) (exactly 4) (cond (typ == 0xC000) (exactly 0) any_length))))

-- a response whose result is none of the seven
pub record HasNoResult (typ : ℕ) (value : List ℕ) : Type 0 where
  pub response_seq_nbr : ℕ
  pub result : ℕ
  pub tsns : List ℕ
  pub typed : typ ≡ 16
  pub valued : value ≡ be32 response_seq_nbr ++ (be32 result ++ tsns)
  pub none : 6 < result
  pub fits : result < 2 ^ 32

abbrev pub RefusesParameterAs : ℕ → ℕ → List ℕ → ChunkParseError → Type 0
RefusesParameterAs = RefusesAs parameter_shape HasNoResult

-- the item stands for no parameter, for this reason
abbrev pub RefusesParameter : Item → ChunkParseError → Type 0
RefusesParameter i = RefusesParameterAs (type_of i) (type_of i) i.value
