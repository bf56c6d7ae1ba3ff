-- Chunks read: which item stands for which chunk, and why an item stands for none. A relation between an item and a tree.
use Rattle.std.specs.Prelude.{◌≡◌, ◌≢◌, ◌⊎◌, ℕ, ◌+◌, ◌-◌, ◌*◌, ◌%◌, ◌<◌, ◌≤◌, ◌^◌, Bool, true, false, if◌then◌else◌, cond, ◌==◌, List, [], ◌∷◌, ◌++◌, length, drop, All}
use Rattle.std.specs.List.{list_all}
use Rattle.sctp_serial.specs.declared.types.tsn.Tsn.{Tsn}
use Rattle.sctp_wire.specs.declared.error.ChunkParseError.{ChunkParseError}
use Rattle.sctp_wire.specs.declared.error.ChunkParseError.TheVariants.{InvalidLength, InvalidType, Memory}
use Rattle.sctp_wire.specs.Field.{be16, be32}
use Rattle.sctp_wire.specs.Item.{Item, ParsesAll}
use Rattle.sctp_wire.specs.Refusal.{FailsToParseAs}
use Rattle.sctp_wire.specs.Parameter.{ParameterTree, IsParameter, RefusesParameter}
use Rattle.sctp_wire.specs.Cause.{CauseTree, IsCause, RefusesCause}
use Rattle.sctp_chunk.specs.declared.sack.GapAckBlock.{GapAckBlock}
use Rattle.sctp_chunk.specs.declared.forward_tsn.SkippedStream.{SkippedStream}
use Rattle.sctp_chunk.specs.declared.forward_tsn.SkippedStream.TheVariants as skips
use Rattle.sctp_chunk.specs.Chunk.{ChunkTree, FragmentTree, InitTree, SackTree, data_chunk, init_chunk, init_ack_chunk, sack_chunk, heartbeat_request_chunk, heartbeat_ack_chunk, abort_chunk, shutdown_chunk, shutdown_ack_chunk, error_chunk, cookie_echo_chunk, cookie_ack_chunk, shutdown_complete_chunk, idata_chunk, re_config_chunk, forward_tsn_chunk, i_forward_tsn_chunk, unknown_chunk}
use Rattle.sctp_chunk.specs.Written.{chunk_type, is_known_chunk, flag, data_value, idata_value, init_fields, sack_value, forward_value, key_stream, key_flag, is_ssn_skip}

-- ---- what an item says

-- the flags of DATA and I-DATA; others aren't read
pub record SaysFragment (flags : ℕ) (immediate : Bool) (f : FragmentTree) : Type 0 where
  pub immediate_flag : immediate ≡ flag flags 8
  pub unordered : f.is_unordered ≡ flag flags 4
  pub beginning : f.is_beginning ≡ flag flags 2
  pub ending : f.is_end ≡ flag flags 1

abbrev pub SaysFlags : ℕ → ChunkTree → Type 0
SaysFlags flags (data_chunk tsn immediate f) = SaysFragment flags immediate f
SaysFlags flags (idata_chunk tsn immediate f) = SaysFragment flags immediate f
SaysFlags flags (shutdown_complete_chunk reflected) = reflected ≡ flag flags 1
SaysFlags flags (unknown_chunk typ all value) = all ≡ flags
SaysFlags flags (abort_chunk reflected causes) = reflected ≡ flag flags 1
SaysFlags flags _ = Unit {0}

-- fixed fields, and parameters behind them
abbrev pub SaysInit : List ℕ → InitTree → Type 0
SaysInit value t = (behind : List ℕ) × (value ≡ init_fields t ++ behind) × ParsesAll IsParameter behind t.parameters []

-- an entry of I-FORWARD-TSN: of its flags only U is read (RFC 8260 section 2.3.1)
abbrev pub SaysSkip : List ℕ → SkippedStream → Type 0
SaysSkip bytes (skips.ForwardTsn id ssn) = ⊥
SaysSkip bytes (skips.IForwardTsn key mid) = (flags : ℕ) × (flags < 2 ^ 16) × (bytes ≡ be16 (key_stream key) ++ (be16 flags ++ be32 mid.0))
    × (flag flags 1 ≡ flag (key_flag key) 1)

abbrev pub SaysSkips : List ℕ → List SkippedStream → Type 0
SaysSkips bytes [] = bytes ≡ []
SaysSkips bytes (skip ∷ skipped) = (front : List ℕ) × (rest : List ℕ) × (bytes ≡ front ++ rest) × SaysSkip front skip × SaysSkips rest skipped

abbrev pub SaysValue : List ℕ → ChunkTree → Type 0
SaysValue value (data_chunk tsn immediate f) = value ≡ data_value tsn f
SaysValue value (init_chunk init) = SaysInit value init
SaysValue value (init_ack_chunk init) = SaysInit value init
SaysValue value (sack_chunk sack) = value ≡ sack_value sack
SaysValue value (heartbeat_request_chunk parameters) = ParsesAll IsParameter value parameters []
SaysValue value (heartbeat_ack_chunk parameters) = ParsesAll IsParameter value parameters []
SaysValue value (abort_chunk reflected causes) = ParsesAll IsCause value causes []
SaysValue value (shutdown_chunk tsn) = value ≡ be32 tsn
SaysValue value shutdown_ack_chunk = value ≡ []
SaysValue value (error_chunk causes) = ParsesAll IsCause value causes []
SaysValue value (cookie_echo_chunk cookie) = (value ≡ cookie) × (0 < length cookie)
SaysValue value cookie_ack_chunk = value ≡ []
SaysValue value (shutdown_complete_chunk reflected) = value ≡ []
SaysValue value (idata_chunk tsn immediate f) = (reserved : ℕ) × (reserved < 2 ^ 16) × (value ≡ idata_value reserved tsn f)
SaysValue value (re_config_chunk parameters) = ParsesAll IsParameter value parameters []
SaysValue value (forward_tsn_chunk tsn skipped) = (value ≡ forward_value tsn skipped) × (list_all is_ssn_skip skipped ≡ true)
SaysValue value (i_forward_tsn_chunk tsn skipped) = (entries : List ℕ) × (value ≡ be32 tsn ++ entries) × SaysSkips entries skipped
SaysValue value (unknown_chunk typ flags bytes) = value ≡ bytes

-- ---- numbers in their ranges: they make the tree unique

pub record FitsFragment (f : FragmentTree) : Type 0 where
  pub stream_id : f.stream_id < 2 ^ 16
  pub ssn : f.ssn < 2 ^ 16
  pub mid : f.mid < 2 ^ 32
  pub fsn : f.fsn < 2 ^ 32
  pub ppid : f.ppid < 2 ^ 32

pub record FitsInit (t : InitTree) : Type 0 where
  pub initiate_tag : t.initiate_tag < 2 ^ 32
  pub a_rwnd : t.a_rwnd < 2 ^ 32
  pub nbr_outbound_streams : t.nbr_outbound_streams < 2 ^ 16
  pub nbr_inbound_streams : t.nbr_inbound_streams < 2 ^ 16
  pub initial_tsn : t.initial_tsn < 2 ^ 32

abbrev pub FitsBlock : GapAckBlock → Type 0
FitsBlock b = (b.start < 2 ^ 16) × (b.end < 2 ^ 16)

abbrev pub FitsTsn : Tsn → Type 0
FitsTsn tsn = tsn.0 < 2 ^ 32

abbrev pub FitsSkip : SkippedStream → Type 0
FitsSkip (skips.ForwardTsn id ssn) = (id.0 < 2 ^ 16) × (ssn.0 < 2 ^ 16)
FitsSkip (skips.IForwardTsn key mid) = (key_stream key < 2 ^ 16) × (mid.0 < 2 ^ 32)

-- each of the list
abbrev pub Each : {X : Type 0} → (X → Type 0) → List X → Type 0
Each P [] = Unit {0}
Each P (x ∷ xs) = P x × Each P xs

pub record FitsSack (s : SackTree) : Type 0 where
  pub cumulative_tsn_ack : s.cumulative_tsn_ack < 2 ^ 32
  pub a_rwnd : s.a_rwnd < 2 ^ 32
  pub few_blocks : length s.gap_ack_blocks < 2 ^ 16
  pub few_duplicates : length s.duplicate_tsns < 2 ^ 16
  pub blocks : All FitsBlock s.gap_ack_blocks
  pub duplicates : All FitsTsn s.duplicate_tsns

-- a TSN, and entries
pub record FitsForward (tsn : ℕ) (skipped : List SkippedStream) : Type 0 where
  pub new_cumulative_tsn : tsn < 2 ^ 32
  pub entries : Each FitsSkip skipped

abbrev pub FitsChunk : ChunkTree → Type 0
FitsChunk (data_chunk tsn immediate f) = (tsn < 2 ^ 32) × FitsFragment f
FitsChunk (init_chunk init) = FitsInit init
FitsChunk (init_ack_chunk init) = FitsInit init
FitsChunk (sack_chunk sack) = FitsSack sack
FitsChunk (shutdown_chunk tsn) = tsn < 2 ^ 32
FitsChunk (idata_chunk tsn immediate f) = (tsn < 2 ^ 32) × FitsFragment f
FitsChunk (forward_tsn_chunk tsn skipped) = FitsForward tsn skipped
FitsChunk (i_forward_tsn_chunk tsn skipped) = FitsForward tsn skipped
FitsChunk _ = Unit {0}

-- ---- fields that a kind does not write

-- the chunk with the fields that its kind does not write at zero
abbrev pub carried : ChunkTree → ChunkTree
carried (data_chunk tsn immediate f) = data_chunk tsn immediate (record f { mid = 0; fsn = 0 })
carried (idata_chunk tsn immediate f) = idata_chunk tsn immediate (record f { ssn = 0; ppid = if f.is_beginning then f.ppid else 0; fsn = if f.is_beginning then 0 else f.fsn })
carried t = t

-- Only an unknown chunk may have any type but the known ones.
abbrev pub IsOfItsType : ChunkTree → Type 0
IsOfItsType (unknown_chunk typ flags value) = is_known_chunk typ ≡ false
IsOfItsType _ = Unit {0}

-- the item is this chunk
pub record IsChunk (i : Item) (t : ChunkTree) : Type 0 where
  pub kind : i.first ≡ chunk_type t
  pub of_its_type : IsOfItsType t
  pub flags : SaysFlags i.second t
  pub value : SaysValue i.value t
  pub fits : FitsChunk t
  pub carries : t ≡ carried t

-- ---- why an item is no chunk

-- The values that a type allows: any; of one length; of a length or more; fixed fields and then entries of a width;
-- those of a SACK, whose length its counts fix; fixed fields and then parameters; causes.
pub data ValueShape : Type 0 where
  any_value : ValueShape
  exactly : ℕ → ValueShape
  at_least : ℕ → ValueShape
  in_steps : ℕ → ℕ → ValueShape
  by_counts : ValueShape
  parameters_behind : ℕ → ValueShape
  of_causes : ValueShape

abbrev pub known_shape : ℕ → ValueShape
known_shape typ =
    cond (typ == 0) (at_least 12) (cond (typ == 1) (parameters_behind 16) (cond (typ == 2) (parameters_behind 16) (cond (typ == 3) by_counts
    (cond (typ == 4) (parameters_behind 0) (cond (typ == 5) (parameters_behind 0) (cond (typ == 6) of_causes (cond (typ == 7) (exactly 4) (cond (typ == 8) (exactly 0)
    (cond (typ == 9) of_causes (cond (typ == 10) (at_least 1) (cond (typ == 11) (exactly 0) (cond (typ == 14) (exactly 0) (cond (typ == 64) (at_least 16)
    (cond (typ == 130) (parameters_behind 0) (cond (typ == 192) (in_steps 4 4) (cond (typ == 194) (in_steps 4 8) any_value))))))))))))))))

-- of an unknown type any value is a chunk's
abbrev pub value_shape : ℕ → ValueShape
value_shape typ = cond (is_known_chunk typ) (known_shape typ) any_value

-- as many blocks and duplicates as the counts say
abbrev pub IsCounted : List ℕ → Type 0
IsCounted value = (front : List ℕ) × (blocks : ℕ) × (duplicates : ℕ) × (behind : List ℕ) × (length front ≡ 8) × (blocks < 2 ^ 16) × (duplicates < 2 ^ 16)
    × (value ≡ front ++ (be16 blocks ++ (be16 duplicates ++ behind))) × (length behind ≡ 4 * blocks + 4 * duplicates)

abbrev pub IsFaulty : ValueShape → List ℕ → ChunkParseError → Type 0
IsFaulty any_value value fault = ⊥
IsFaulty (exactly n) value fault = (fault ≡ InvalidLength) × (length value ≢ n)
IsFaulty (at_least n) value fault = (fault ≡ InvalidLength) × (length value < n)
IsFaulty (in_steps n width) value fault = (fault ≡ InvalidLength) × ((length value < n) ⊎ ((length value - n) % width ≢ 0))
IsFaulty by_counts value fault = (fault ≡ InvalidLength) × (IsCounted value → ⊥)
IsFaulty (parameters_behind n) value fault =
    ((fault ≡ InvalidLength) × (length value < n)) ⊎ ((n ≤ length value) × FailsToParseAs IsParameter RefusesParameter (drop n value) fault)
IsFaulty of_causes value fault = FailsToParseAs IsCause RefusesCause value fault

-- the values that a shape allows: those without a fault
abbrev pub HasChunkShape : ValueShape → List ℕ → Type 0
HasChunkShape any_value value = Unit {0}
HasChunkShape (exactly n) value = length value ≡ n
HasChunkShape (at_least n) value = n ≤ length value
HasChunkShape (in_steps n width) value = (n ≤ length value) × ((length value - n) % width ≡ 0)
HasChunkShape by_counts value = IsCounted value
HasChunkShape (parameters_behind n) value = (n ≤ length value) × ((ps : List ParameterTree) × ParsesAll IsParameter (drop n value) ps [])
HasChunkShape of_causes value = (cs : List CauseTree) × ParsesAll IsCause value cs []

-- An item, read as a chunk of type `asked`, is refused: there was no memory, it is of another type, or its value has this fault.
abbrev pub RefusesChunkAs : ℕ → Item → ChunkParseError → Type 0
RefusesChunkAs asked i fault = (fault ≡ Memory) ⊎ (((i.first ≢ asked) × (fault ≡ InvalidType))
    ⊎ ((i.first ≡ asked) × IsFaulty (value_shape asked) i.value fault))

-- the item stands for no chunk, for this reason
abbrev pub RefusesChunk : Item → ChunkParseError → Type 0
RefusesChunk i fault = (fault ≡ Memory) ⊎ IsFaulty (value_shape i.first) i.value fault
