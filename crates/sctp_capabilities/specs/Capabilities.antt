-- What an association can do: what an end announces, what its parameters say to the other end, and what both agree on.
use Rattle.std.specs.Prelude.{ℕ, ◌==◌, ◌&&◌, ◌||◌, not, min, Bool, true, false, if◌then◌else◌, List, [], ◌∷◌, ◌++◌}
use Rattle.std.specs.List.{list_any}
use Rattle.sctp_wire.specs.Parameter.{ParameterTree, supported_extensions, forward_tsn_supported, zero_checksum_acceptable}
use Rattle.sctp_state.specs.Options.{Options}
use Rattle.sctp_capabilities.specs.declared.capabilities.Capabilities as given

pub record Capabilities : Type 0 where
  pub partial_reliability : Bool
  pub message_interleaving : Bool
  pub reconfig : Bool
  pub zero_checksum_method : ℕ
  pub incoming : ℕ
  pub outgoing : ℕ

abbrev pub capabilities_of : given.Capabilities → Capabilities
capabilities_of c = record {
  partial_reliability = c.partial_reliability;
  message_interleaving = c.message_interleaving;
  reconfig = c.reconfig;
  zero_checksum_method = c.zero_checksum_method.0;
  incoming = c.negotiated_maximum_incoming_streams;
  outgoing = c.negotiated_maximum_outgoing_streams;
}

abbrev pub nothing : Capabilities
nothing = record {
  partial_reliability = false;
  message_interleaving = false;
  reconfig = false;
  zero_checksum_method = 0;
  incoming = 0;
  outgoing = 0;
}

-- packets go without a checksum (RFC 9653)
abbrev pub zero_checksum_enabled : Capabilities → Bool
zero_checksum_enabled c = not (c.zero_checksum_method == 0)

-- ---- announced

-- chunk types
abbrev pub i_data : ℕ
i_data = 64

abbrev pub re_config : ℕ
re_config = 130

abbrev pub forward_tsn : ℕ
forward_tsn = 192

abbrev pub i_forward_tsn : ℕ
i_forward_tsn = 194

abbrev pub where_enabled : {A : Type 0} → Bool → List A → List A
where_enabled true xs = xs
where_enabled false xs = []

abbrev pub extensions : Options → List ℕ
extensions o =
    re_config ∷ (where_enabled o.enable_partial_reliability (forward_tsn ∷ [])
    ++ where_enabled o.enable_message_interleaving (i_data ∷ i_forward_tsn ∷ []))

-- The parameters of an INIT or INIT ACK, but for the cookie, with this method of checking. An INIT has the end's own
-- method, an INIT ACK the negotiated one.
abbrev pub announced_parameters : Options → (zero_checksum_method : ℕ) → List ParameterTree
announced_parameters o method =
    where_enabled o.enable_partial_reliability (forward_tsn_supported ∷ [])
    ++ (where_enabled (not (method == 0)) (zero_checksum_acceptable method ∷ [])
    ++ supported_extensions (extensions o) ∷ [])

-- ---- announced

-- the chunk types of the first parameter that names some
abbrev pub extensions_in : List ParameterTree → List ℕ
extensions_in [] = []
extensions_in (supported_extensions chunk_types ∷ ps) = chunk_types
extensions_in (p ∷ ps) = extensions_in ps

-- the method of the first parameter that names one
abbrev pub method_in : List ParameterTree → ℕ
method_in [] = 0
method_in (zero_checksum_acceptable method ∷ ps) = method
method_in (p ∷ ps) = method_in ps

abbrev pub is_forward_tsn_supported : ParameterTree → Bool
is_forward_tsn_supported forward_tsn_supported = true
is_forward_tsn_supported p = false

abbrev pub has_type : ℕ → List ℕ → Bool
has_type type chunk_types = list_any (λ t. t == type) chunk_types

-- What the sender of these parameters can do. What goes out from it comes in here.
abbrev pub announced_by : (outbound inbound : ℕ) → List ParameterTree → Capabilities
announced_by outbound inbound ps =
    let types = extensions_in ps in
    record {
      partial_reliability = list_any is_forward_tsn_supported ps || has_type forward_tsn types;
      message_interleaving = has_type i_data types;
      reconfig = has_type re_config types;
      zero_checksum_method = method_in ps;
      incoming = outbound;
      outgoing = inbound;
    }

-- ---- negotiated

abbrev pub same_method : ℕ → ℕ → ℕ
same_method own other = if own == other then own else 0

-- what an end with these options does with a peer that can do this
abbrev pub negotiate : Options → Capabilities → Capabilities
negotiate o peer = record {
  partial_reliability = o.enable_partial_reliability && peer.partial_reliability;
  message_interleaving = o.enable_message_interleaving && peer.message_interleaving;
  reconfig = peer.reconfig;
  zero_checksum_method = same_method o.zero_checksum_method peer.zero_checksum_method;
  incoming = min o.announced_maximum_incoming_streams peer.incoming;
  outgoing = min o.announced_maximum_outgoing_streams peer.outgoing;
}

-- What two ends do together, from their options alone: the first end's view.
abbrev pub agreed : (own other : Options) → Capabilities
agreed own other = record {
  partial_reliability = own.enable_partial_reliability && other.enable_partial_reliability;
  message_interleaving = own.enable_message_interleaving && other.enable_message_interleaving;
  reconfig = true;
  zero_checksum_method = same_method own.zero_checksum_method other.zero_checksum_method;
  incoming = min own.announced_maximum_incoming_streams other.announced_maximum_outgoing_streams;
  outgoing = min own.announced_maximum_outgoing_streams other.announced_maximum_incoming_streams;
}

-- the other end's view: what goes out there comes in here
abbrev pub mirrored_capabilities : Capabilities → Capabilities
mirrored_capabilities k = record k { incoming = k.outgoing; outgoing = k.incoming }

abbrev pub announced_with : ℕ → Options → Capabilities
announced_with method o =
    announced_by o.announced_maximum_outgoing_streams o.announced_maximum_incoming_streams (announced_parameters o method)

-- what an INIT announces
abbrev pub announced_by_init : Options → Capabilities
announced_by_init o = announced_with o.zero_checksum_method o

-- what an INIT ACK announces that answers an INIT of the other end
abbrev pub announced_by_init_ack : (own other : Options) → Capabilities
announced_by_init_ack own other = announced_with (negotiate own (announced_by_init other)).zero_checksum_method own
