-- A capture in the format pcapng: blocks, of which each has its length at both ends. Numbers have their lowest byte first.
use Rattle.std.specs.Prelude.{◌≡◌, ℕ, ◌+◌, ◌/◌, ◌%◌, ◌^◌, Bool, false, List, [], ◌∷◌, ◌++◌, length, codes, replicate, zero, suc, nat_lt}
use Rattle.std.specs.List.{flat_map, list_any}
use Rattle.sctp_wire.specs.Item.{padding}
use Rattle.sctp_trace.specs.declared.rows.End.{End}
use Rattle.sctp_trace.specs.declared.rows.End.TheVariants as ends
use Rattle.sctp_trace.specs.declared.rows.What.{What}
use Rattle.sctp_trace.specs.declared.rows.What.TheVariants as kinds
use Rattle.sctp_trace.specs.declared.rows.Row.{Row}
use Rattle.sctp_trace.specs.Rows.{end_name}
use Rattle.sctp_trace.specs.Giving.{times_given}
use Rattle.sctp_trace.specs.Bytes.{le16, le32, with_crc32c}

-- zeros up to a multiple of four
unfoldable pub pad : List ℕ → List ℕ
pad bytes = bytes ++ replicate (padding (length bytes)) 0

unfoldable pub option_bytes : (code : ℕ) → (value : List ℕ) → List ℕ
option_bytes code value = le16 code ++ (le16 (length value) ++ pad value)

-- the option that ends a list of options
abbrev pub end_of_options : List ℕ
end_of_options = le32 0

-- a type, the length of the whole, the body, and the length again
unfoldable pub block : (kind : ℕ) → (body : List ℕ) → List ℕ
block kind body = le32 kind ++ (le32 (length body + 12) ++ (body ++ le32 (length body + 12)))

-- the order of bytes, version 1.0, and a length that isn't given
unfoldable pub section_body : List ℕ
section_body = le32 0x1a2b3c4d ++ (le16 1 ++ (le16 0 ++ (le32 0xffffffff ++ le32 0xffffffff)))

abbrev pub section_header : List ℕ
section_header = block 0x0a0d0d0a section_body

-- link type 248, SCTP without IP; no limit of a packet's length; a name; times in nanoseconds
unfoldable pub interface_body : (name : List ℕ) → List ℕ
interface_body name = le16 248 ++ (le16 0 ++ (le32 0 ++ (option_bytes 2 name ++ (option_bytes 9 (9 ∷ []) ++ end_of_options))))

abbrev pub interface : End → List ℕ
interface end = block 1 (interface_body (end_name end))

-- how often it was given
abbrev pub fate : ℕ → List ℕ
fate zero = codes "never given"
fate (suc zero) = codes "given once"
fate (suc (suc zero)) = codes "given twice"
fate (suc (suc (suc more))) = codes "given three times or more"

abbrev pub interface_number : End → ℕ
interface_number ends.A = 0
interface_number ends.B = 1

-- the interface, the time's upper and lower half, and the packet's length as captured and as sent
abbrev pub packet_numbers : (interface nanoseconds size : ℕ) → List ℕ
packet_numbers interface nanoseconds size = le32 interface ++ (le32 (nanoseconds / 2 ^ 32) ++ (le32 (nanoseconds % 2 ^ 32) ++ (le32 size ++ le32 size)))

-- these numbers, the packet, and a comment
unfoldable pub packet_body : (interface nanoseconds : ℕ) → (packet comment : List ℕ) → List ℕ
packet_body interface nanoseconds packet comment =
    packet_numbers interface nanoseconds (length packet) ++ (pad packet ++ (option_bytes 1 comment ++ end_of_options))

-- how long the block of such a packet is, whatever its end and time
abbrev pub IsPacketSize : (packet comment : List ℕ) → (size : ℕ) → Type 0
IsPacketSize packet comment size = (interface nanoseconds : ℕ) → size ≡ length (packet_body interface nanoseconds packet comment) + 12

abbrev pub packet_block : End → (nanoseconds : ℕ) → (packet comment : List ℕ) → List ℕ
packet_block end nanoseconds packet comment = block 6 (packet_body (interface_number end) nanoseconds packet comment)

-- a block for each packet that was sent, at the interface of its end, with its CRC32c
abbrev pub what_bytes : (all : List Row) → End → (nanoseconds : ℕ) → What → List ℕ
what_bytes all end nanoseconds (kinds.Sent number bytes label) = packet_block end nanoseconds (with_crc32c bytes.items) (fate (times_given all end number))
what_bytes all end nanoseconds (kinds.Given number) = []
what_bytes all end nanoseconds (kinds.Note text) = []

abbrev pub row_bytes : (all : List Row) → Row → List ℕ
row_bytes all row = what_bytes all row.end row.nanoseconds row.what

-- the packets in the order in which they were sent
abbrev pub capture_bytes : List Row → List ℕ
capture_bytes rows = section_header ++ (interface ends.A ++ (interface ends.B ++ flat_map (row_bytes rows) rows))

-- more than the 65,535 bytes that a packet may have
abbrev pub is_too_long : What → Bool
is_too_long (kinds.Sent number bytes label) = nat_lt 65535 (length bytes.items)
is_too_long (kinds.Given number) = false
is_too_long (kinds.Note text) = false

abbrev pub has_long_packet : List Row → Bool
has_long_packet rows = list_any (λ (row : Row). is_too_long row.what) rows
