-- Worked examples of cookies and capabilities, computed.
use Rattle.std.proofs.Common.{◌≡◌, ℕ, true, false, Some, None, Ok, Err, List, [], ◌∷◌, ◌++◌, take, drop, refl}
use Rattle.std.specs.Prelude.{codes}
use Rattle.sctp_wire.specs.Field.{be16, be32, be64}
use Rattle.sctp_wire.specs.Parameter.{ParameterTree, state_cookie, supported_extensions, forward_tsn_supported, zero_checksum_acceptable}
use Rattle.sctp_state.specs.Options.{Options, defaults}
use Rattle.sctp_capabilities.specs.Capabilities.{Capabilities, agreed, announced_parameters, negotiate, nothing, announced_by, announced_by_init, announced_by_init_ack}
use Rattle.sctp_capabilities.specs.StateCookie.{Cookie, capability_bytes, cookie_bytes, cookie_from, read_cookie}
use Rattle.sctp_state.specs.TxErrorCounter.{is_exhausted, no_errors, one_error}
use Rattle.sctp_capabilities.specs.declared.state_cookie.StateCookieError.TheVariants.{InvalidSize, InvalidMagic, InvalidVerificationTag}

-- ---- a cookie, by its bytes

abbrev worked : Cookie
worked = record {
  peer_tag = 123;
  my_tag = 321;
  peer_initial_tsn = 456;
  my_initial_tsn = 654;
  a_rwnd = 789;
  tie_tag = 1020304050;
  peer_capabilities = record {
    partial_reliability = true;
    message_interleaving = false;
    reconfig = true;
    zero_checksum_method = 1;
    incoming = 123;
    outgoing = 234;
  };
}

abbrev tags : List ℕ
tags = 0 ∷ 0 ∷ 0 ∷ 0x7b ∷ 0 ∷ 0 ∷ 1 ∷ 0x41 ∷ []

-- what stands behind the tags, with this byte where none is looked at
abbrev behind : ℕ → List ℕ
behind free =
    0 ∷ 0 ∷ 1 ∷ 0xc8 ∷ 0 ∷ 0 ∷ 2 ∷ 0x8e ∷ 0 ∷ 0 ∷ 3 ∷ 0x15 ∷ 0 ∷ 0 ∷ 0 ∷ 0 ∷ 0x3c ∷ 0xd0 ∷ 0x9a ∷ 0xb2
    ∷ 1 ∷ 0 ∷ 1 ∷ free ∷ 0 ∷ 0 ∷ 0 ∷ 1 ∷ 0 ∷ 0x7b ∷ 0 ∷ 0xea ∷ []

abbrev bytes : List ℕ
bytes = (0x64 ∷ 0x63 ∷ 0x53 ∷ 0x43 ∷ 0x54 ∷ 0x50 ∷ 0x72 ∷ 0x30 ∷ []) ++ (tags ++ behind 0)

written : cookie_bytes worked ≡ bytes
unfolding cookie_bytes capability_bytes be16 be32 be64
written = refl

said : read_cookie bytes ≡ Ok worked
unfolding read_cookie cookie_from
said = refl

said_with_another_byte : read_cookie (codes "dcSCTPr0" ++ (tags ++ behind 77)) ≡ Ok worked
unfolding read_cookie cookie_from
said_with_another_byte = refl

-- too short, and of another magic: the size is reported
short : read_cookie (0 ∷ take 46 (drop 1 bytes)) ≡ Err InvalidSize
unfolding read_cookie cookie_from
short = refl

other_magic : read_cookie (codes "KAME-BSD" ++ ((0 ∷ 0 ∷ 0 ∷ 0 ∷ drop 4 tags) ++ behind 0)) ≡ Err InvalidMagic
unfolding read_cookie cookie_from
other_magic = refl

no_own_tag : read_cookie (codes "dcSCTPr0" ++ (take 4 tags ++ (0 ∷ 0 ∷ 0 ∷ 0 ∷ behind 0))) ≡ Err InvalidVerificationTag
unfolding read_cookie cookie_from
no_own_tag = refl

no_peer_tag : read_cookie (codes "dcSCTPr0" ++ ((0 ∷ 0 ∷ 0 ∷ 0 ∷ drop 4 tags) ++ behind 0)) ≡ Err InvalidVerificationTag
unfolding read_cookie cookie_from
no_peer_tag = refl

-- ---- capabilities

-- what a browser announces
by_default : announced_parameters defaults 0 ≡ forward_tsn_supported ∷ supported_extensions (130 ∷ 192 ∷ []) ∷ []
by_default = refl

abbrev all : Options
all = record defaults { enable_message_interleaving = true; zero_checksum_method = 1; announced_maximum_incoming_streams = 10; announced_maximum_outgoing_streams = 20 }

all_announced : announced_parameters all 1 ≡ forward_tsn_supported ∷ zero_checksum_acceptable 1 ∷ supported_extensions (130 ∷ 192 ∷ 64 ∷ 194 ∷ []) ∷ []
all_announced = refl

abbrev unreliable : Options
unreliable = record all { enable_partial_reliability = false; announced_maximum_incoming_streams = 15; announced_maximum_outgoing_streams = 5 }

agreed_by_both : agreed unreliable all ≡ record {
  partial_reliability = false;
  message_interleaving = true;
  reconfig = true;
  zero_checksum_method = 1;
  incoming = 15;
  outgoing = 5;
}
agreed_by_both = refl

by_init : negotiate unreliable (announced_by_init all) ≡ agreed unreliable all
by_init = refl

by_init_ack : negotiate all (announced_by_init_ack unreliable all) ≡ agreed all unreliable
by_init_ack = refl

-- the first parameter of a type counts, and a parameter of its own says as much as a chunk type
first_counts : announced_by 7 8 (state_cookie [] ∷ supported_extensions (192 ∷ []) ∷ zero_checksum_acceptable 2 ∷ supported_extensions (64 ∷ []) ∷ zero_checksum_acceptable 1 ∷ [])
    ≡ record nothing { partial_reliability = true; zero_checksum_method = 2; incoming = 7; outgoing = 8 }
first_counts = refl

own_parameter : announced_by 0 0 (forward_tsn_supported ∷ []) ≡ record nothing { partial_reliability = true }
own_parameter = refl

-- ---- errors with the limit 1

two_errors : is_exhausted (one_error (one_error (no_errors (Some 1)))) ≡ true
two_errors = refl

one_is_not_many : is_exhausted (one_error (no_errors (Some 1))) ≡ false
one_is_not_many = refl

three_errors : one_error (one_error (one_error (no_errors (Some 1)))) ≡ record { limit = Some 1; value = 2 }
three_errors = refl

no_limit : one_error (no_errors None) ≡ no_errors None
no_limit = refl
