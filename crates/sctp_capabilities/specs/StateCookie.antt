-- The state cookie: what an end that answers an INIT would have to remember, sent along and brought back (RFC 9260
-- section 5.1.3). 48 bytes: the magic, then each field at its place.
use Rattle.std.specs.Prelude.{◌≡◌, ℕ, ◌==◌, ◌&&◌, ◌<◌, ◌^◌, not, nat_eq, Bool, true, false, Result, Ok, Err, List, [], ◌∷◌, ◌++◌, length, take, drop, slice_index, codes}
use Rattle.std.specs.Int.{w16, w32, w64, from_be_bytes}
use Rattle.std.specs.List.{starts_with}
use Rattle.sctp_wire.specs.Field.{be16, be32, be64}
use Rattle.sctp_capabilities.specs.Capabilities.{Capabilities, capabilities_of}
use Rattle.sctp_capabilities.specs.declared.state_cookie.StateCookie.{StateCookie}
use Rattle.sctp_capabilities.specs.declared.state_cookie.StateCookieError.{StateCookieError}
use Rattle.sctp_capabilities.specs.declared.state_cookie.StateCookieError.TheVariants.{InvalidSize, InvalidMagic, InvalidVerificationTag}

pub record Cookie : Type 0 where
  pub peer_tag : ℕ
  pub my_tag : ℕ
  pub peer_initial_tsn : ℕ
  pub my_initial_tsn : ℕ
  pub a_rwnd : ℕ
  pub tie_tag : ℕ
  pub peer_capabilities : Capabilities

abbrev pub cookie_of : StateCookie → Cookie
cookie_of c = record {
  peer_tag = c.peer_tag;
  my_tag = c.my_tag;
  peer_initial_tsn = c.peer_initial_tsn.0;
  my_initial_tsn = c.my_initial_tsn.0;
  a_rwnd = c.a_rwnd;
  tie_tag = c.tie_tag;
  peer_capabilities = capabilities_of c.peer_capabilities;
}

-- ---- written

abbrev pub magic : List ℕ
magic = codes "dcSCTPr0"

abbrev pub flag_byte : Bool → ℕ
flag_byte true = 1
flag_byte false = 0

-- three flags, a zero, the checksum's method, the counts of streams
unfoldable pub capability_bytes : Capabilities → List ℕ
capability_bytes k =
    (flag_byte k.partial_reliability ∷ flag_byte k.message_interleaving ∷ flag_byte k.reconfig ∷ 0 ∷ [])
    ++ (be32 k.zero_checksum_method ++ (be16 k.incoming ++ be16 k.outgoing))

unfoldable pub cookie_bytes : Cookie → List ℕ
cookie_bytes c =
    magic ++ (be32 c.peer_tag ++ (be32 c.my_tag ++ (be32 c.peer_initial_tsn ++ (be32 c.my_initial_tsn
    ++ (be32 c.a_rwnd ++ (be64 c.tie_tag ++ capability_bytes c.peer_capabilities))))))

-- ---- read

-- the number whose most significant byte stands at this place
abbrev pub u16_in : ℕ → List ℕ → ℕ
u16_in place bytes = from_be_bytes w16 (take 2 (drop place bytes))

abbrev pub u32_in : ℕ → List ℕ → ℕ
u32_in place bytes = from_be_bytes w32 (take 4 (drop place bytes))

abbrev pub u64_in : ℕ → List ℕ → ℕ
u64_in place bytes = from_be_bytes w64 (take 8 (drop place bytes))

-- a flag is set where its byte isn't 0
abbrev pub is_set : ℕ → Bool
is_set byte = not (byte == 0)

-- byte 39 isn't looked at
unfoldable pub cookie_from : List ℕ → Cookie
cookie_from bytes = record {
  peer_tag = u32_in 8 bytes;
  my_tag = u32_in 12 bytes;
  peer_initial_tsn = u32_in 16 bytes;
  my_initial_tsn = u32_in 20 bytes;
  a_rwnd = u32_in 24 bytes;
  tie_tag = u64_in 28 bytes;
  peer_capabilities = record {
    partial_reliability = is_set (slice_index bytes 36);
    message_interleaving = is_set (slice_index bytes 37);
    reconfig = is_set (slice_index bytes 38);
    zero_checksum_method = u32_in 40 bytes;
    incoming = u16_in 44 bytes;
    outgoing = u16_in 46 bytes;
  };
}

-- no verification tag is 0 (RFC 9260 section 5.3.1)
abbrev pub has_tags : Cookie → Bool
has_tags c = not (c.peer_tag == 0) && not (c.my_tag == 0)

-- a cookie is refused by the first of three tests that it doesn't pass
abbrev pub check_cookie : (is_of_size has_magic has_both_tags : Bool) → Cookie → Result Cookie StateCookieError
check_cookie false has_magic has_both_tags c = Err InvalidSize
check_cookie true false has_both_tags c = Err InvalidMagic
check_cookie true true false c = Err InvalidVerificationTag
check_cookie true true true c = Ok c

unfoldable pub read_cookie : List ℕ → Result Cookie StateCookieError
read_cookie bytes =
    check_cookie (length bytes == 48) (starts_with nat_eq bytes magic) (has_tags (cookie_from bytes)) (cookie_from bytes)

abbrev pub refusal_text : StateCookieError → List ℕ
refusal_text InvalidSize = codes "Invalid state cookie size"
refusal_text InvalidMagic = codes "Invalid state cookie magic"
refusal_text InvalidVerificationTag = codes "Invalid verification tag in state cookie"

-- ---- what can be written: each number fits its field

pub record CapabilitiesFit (k : Capabilities) : Type 0 where
  pub zero_checksum_method : k.zero_checksum_method < 2 ^ 32
  pub incoming : k.incoming < 2 ^ 16
  pub outgoing : k.outgoing < 2 ^ 16

pub record CookieFits (c : Cookie) : Type 0 where
  pub peer_tag : c.peer_tag < 2 ^ 32
  pub my_tag : c.my_tag < 2 ^ 32
  pub peer_initial_tsn : c.peer_initial_tsn < 2 ^ 32
  pub my_initial_tsn : c.my_initial_tsn < 2 ^ 32
  pub a_rwnd : c.a_rwnd < 2 ^ 32
  pub tie_tag : c.tie_tag < 2 ^ 64
  pub peer_capabilities : CapabilitiesFit c.peer_capabilities

-- ---- field by field

-- The bytes spell these capabilities: three flags, a byte that says nothing, and three numbers.
pub record SpellsCapabilities (bytes : List ℕ) (k : Capabilities) : Type 0 where
  pub flags : List ℕ
  pub spelled : bytes ≡ flags ++ (be32 k.zero_checksum_method ++ (be16 k.incoming ++ be16 k.outgoing))
  pub four : length flags ≡ 4
  pub partial_reliability : k.partial_reliability ≡ is_set (slice_index flags 0)
  pub message_interleaving : k.message_interleaving ≡ is_set (slice_index flags 1)
  pub reconfig : k.reconfig ≡ is_set (slice_index flags 2)
  pub fits : CapabilitiesFit k

-- The bytes, those behind the magic, spell this cookie.
pub record SpellsCookie (bytes : List ℕ) (c : Cookie) : Type 0 where
  pub capabilities : List ℕ
  pub spelled : bytes ≡ be32 c.peer_tag ++ (be32 c.my_tag ++ (be32 c.peer_initial_tsn ++ (be32 c.my_initial_tsn
      ++ (be32 c.a_rwnd ++ (be64 c.tie_tag ++ capabilities)))))
  pub spells : SpellsCapabilities capabilities c.peer_capabilities
  pub fits : CookieFits c
