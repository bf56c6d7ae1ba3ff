-- The packets of the first run can be written and read.
use Rattle.std.proofs.Common.{◌≡◌, ℕ, ◌+◌, ◌-◌, ◌^◌, ◌<◌, ◌≤◌, false, List, [], ◌∷◌, ◌++◌, length, map, refl, sym, ap, subst, ◌∙◌, arith}
use Rattle.std.proofs.lemmas.List.{append-nil}
use Rattle.std.proofs.lemmas.List.Elements.{All-cons, All-nil}
use Rattle.std.proofs.lemmas.List.Concat.{flat_map-cons}
use Rattle.rand_core.specs.Stream as rng
use Rattle.sctp_serial.specs.Messages.{Message}
use Rattle.sctp_wire.specs.Field.{be16, be32}
use Rattle.sctp_wire.specs.Item.{padding}
use Rattle.sctp_wire.specs.Serialize.{padded_item, inner_items}
use Rattle.sctp_wire.specs.Parameter.{ParameterTree, parameter_item, parameter_value, state_cookie, supported_extensions, forward_tsn_supported}
use Rattle.sctp_wire.specs.ReadBack.{ParameterReadsBack}
use Rattle.sctp_wire.proofs.SerializeLemmas.{length_padded_item, length_inner_items_more}
use Rattle.sctp_packet.specs.Grammar.{FitsBlock, FitsTsn, carried}
use Rattle.sctp_packet.specs.Chunk.{ChunkTree, SackTree, data_chunk, init_chunk, init_ack_chunk, sack_chunk, cookie_echo_chunk, cookie_ack_chunk}
use Rattle.sctp_packet.specs.Written.{chunk_item, chunk_value, chunk_bytes, chunks_bytes}
use Rattle.sctp_packet.specs.ReadBack.{ChunkReadsBack}
use Rattle.sctp_chunk.proofs.ValueLemmas.{length_data, length_init, length_init_ack, length_sack}
use Rattle.sctp_state.specs.Options.{Options, SendOptions, defaults}
use Rattle.sctp_capabilities.specs.Capabilities.{announced_parameters}
use Rattle.sctp_capabilities.specs.StateCookie.{Cookie, cookie_bytes}
use Rattle.sctp_capabilities.proofs.CookieLemmas.{length_cookie_bytes, cookie_bytes_writable}
use Rattle.spec_endpoint.specs.Association.{Endpoint, fresh, Packing}
use Rattle.spec_endpoint.specs.Opening.{init_of, cookie_for, init_ack_of}
use Rattle.spec_endpoint.specs.Wire.{writing}
use Rattle.spec_endpoint.specs.Receiving.{Receives}
use Rattle.proof_endpoint.specs.Mapped.{Carried, as_written}
use Rattle.proof_endpoint.specs.FirstRun.{first_of, tag_of, packet, init_tree, fragment, init_packet, init_ack_packet, cookie_echo_packet, cookie_ack_packet, data_packet, sack_packet, give, asking, answering, echoing, accepting, sending, IsSmall, LeadsOn}
use Rattle.proof_endpoint.specs.ReceivedBack.{IsReceivable}
use Rattle.spec_endpoint.specs.Packets.{drained}
use Rattle.proof_endpoint.proofs.OpeningRunLemmas.{tag_small, first_small, asks, answers, echoes, accepts}
use Rattle.proof_endpoint.proofs.SendRunLemmas.{sends, padding_small}
use Rattle.proof_endpoint.proofs.ReceivedBackLemmas.{written_alone}

-- a chunk that is read back, of no more than 1,100 bytes
pub record IsShort (c : ChunkTree) : Type 0 where
  pub reads_back : ChunkReadsBack c
  pub short : length (chunk_value c) ≤ 1100

length_chunk : (c : ChunkTree) → length (chunk_bytes c) ≤ 7 + length (chunk_value c)
unfolding chunk_bytes
length_chunk c = omega (arith, length_padded_item (chunk_item c), padding_small (length (chunk_value c)))

length_one : (c : ChunkTree) → length (chunks_bytes (c ∷ [])) ≡ length (chunk_bytes c)
unfolding chunks_bytes
length_one c = ap length (flat_map-cons chunk_bytes c []) ∙ ap length (append-nil (chunk_bytes c))

hearable : (tag : ℕ) (c : ChunkTree) → tag < 2 ^ 32 → IsShort c → IsReceivable defaults (packet tag c)
hearable tag c fits h = record {
  header = record { source_port = omega arith; destination_port = omega arith; verification_tag = fits };
  chunks = All-cons ChunkReadsBack c [] h.reads_back (All-nil ChunkReadsBack);
  short = omega (arith, length_one c, length_chunk c, h.short);
  sum = refl;
}

-- an end with default options that receives the packet takes it as it was made
abbrev IsGiven : (word_of : List ℕ → ℕ) → Carried → Type 0
IsGiven word_of p = (s t : Endpoint (List ℕ)) → s.endpoint_state.context.options ≡ defaults → Receives word_of (as_written word_of p) s t → t ≡ give p s

-- such a chunk alone in a packet, of which all is carried
is_given : (word_of : List ℕ → ℕ) (tag : ℕ) (c : ChunkTree) → carried c ≡ c → tag < 2 ^ 32 → IsShort c → IsGiven word_of (packet tag c)
is_given word_of tag c whole fits h s t e receives =
    written_alone word_of (packet tag c) s t (subst (λ (o : Options). IsReceivable o (packet tag c)) (sym e) (hearable tag c fits h)) receives
    ∙ ap (λ (x : ChunkTree). give (packet tag x) s) whole

-- ---- what INIT and INIT ACK announce

forward_reads : ParameterReadsBack forward_tsn_supported
unfolding parameter_value
forward_reads = record { encodable = omega arith; fits = tt; whole = refl; of_its_variant = tt }

extensions_read : ParameterReadsBack (supported_extensions (130 ∷ 192 ∷ []))
unfolding parameter_value
extensions_read = record { encodable = omega arith; fits = tt; whole = refl; of_its_variant = tt }

cookie_reads : (k : Cookie) → ParameterReadsBack (state_cookie (cookie_bytes k))
cookie_reads k = record { encodable = cookie_bytes_writable k; fits = tt; whole = refl; of_its_variant = tt }

length_announced : length (inner_items (map parameter_item (announced_parameters defaults 0))) ≡ 10
unfolding inner_items padded_item parameter_value be16 be32
length_announced = refl

length_cookie_value : (k : Cookie) → length (parameter_value (state_cookie (cookie_bytes k))) ≡ 48
unfolding parameter_value
length_cookie_value k = length_cookie_bytes k

length_with_cookie : (k : Cookie) → length (inner_items (map parameter_item (announced_parameters defaults 0 ++ state_cookie (cookie_bytes k) ∷ []))) ≡ 64
length_with_cookie k =
    length_inner_items_more (map parameter_item (announced_parameters defaults 0)) (parameter_item (state_cookie (cookie_bytes k)))
    ∙ ap (λ (n : ℕ). n + (padding n + (4 + length (parameter_value (state_cookie (cookie_bytes k)))))) length_announced
    ∙ ap (λ (n : ℕ). 10 + (2 + (4 + n))) (length_cookie_value k)

-- ---- the chunks

init_short : (tag first : ℕ) → tag < 2 ^ 32 → first < 2 ^ 32 → IsShort (init_chunk (init_of defaults tag first (announced_parameters defaults 0)))
init_short tag first t f =
    let size : length (chunk_value (init_chunk (init_of defaults tag first (announced_parameters defaults 0)))) ≡ 26 =
    length_init (init_of defaults tag first (announced_parameters defaults 0)) ∙ ap (λ (n : ℕ). 16 + n) length_announced in
    record {
      reads_back = record {
        encodable = omega (arith, size);
        whole = refl;
        fits = record { initiate_tag = t; a_rwnd = omega arith; nbr_outbound_streams = omega arith; nbr_inbound_streams = omega arith; initial_tsn = f };
        readable = All-cons ParameterReadsBack forward_tsn_supported (supported_extensions (130 ∷ 192 ∷ []) ∷ []) forward_reads
            (All-cons ParameterReadsBack (supported_extensions (130 ∷ 192 ∷ [])) [] extensions_read (All-nil ParameterReadsBack));
      };
      short = omega (arith, size);
    }

init_ack_short : (tag first : ℕ) (k : Cookie) → tag < 2 ^ 32 → first < 2 ^ 32
    → IsShort (init_ack_chunk (init_of defaults tag first (announced_parameters defaults 0 ++ state_cookie (cookie_bytes k) ∷ [])))
init_ack_short tag first k t f =
    let ps : List ParameterTree = announced_parameters defaults 0 ++ state_cookie (cookie_bytes k) ∷ [] in
    let size : length (chunk_value (init_ack_chunk (init_of defaults tag first ps))) ≡ 80 =
    length_init_ack (init_of defaults tag first ps) ∙ ap (λ (n : ℕ). 16 + n) (length_with_cookie k) in
    record {
      reads_back = record {
        encodable = omega (arith, size);
        whole = refl;
        fits = record { initiate_tag = t; a_rwnd = omega arith; nbr_outbound_streams = omega arith; nbr_inbound_streams = omega arith; initial_tsn = f };
        readable = All-cons ParameterReadsBack forward_tsn_supported (supported_extensions (130 ∷ 192 ∷ []) ∷ state_cookie (cookie_bytes k) ∷ []) forward_reads
            (All-cons ParameterReadsBack (supported_extensions (130 ∷ 192 ∷ [])) (state_cookie (cookie_bytes k) ∷ []) extensions_read
            (All-cons ParameterReadsBack (state_cookie (cookie_bytes k)) [] (cookie_reads k) (All-nil ParameterReadsBack)));
      };
      short = omega (arith, size);
    }

length_echo : (cookie : List ℕ) → length (chunk_value (cookie_echo_chunk cookie)) ≡ length cookie
unfolding chunk_value
length_echo cookie = refl

cookie_echo_short : (k : Cookie) → IsShort (cookie_echo_chunk (cookie_bytes k))
cookie_echo_short k =
    let size : length (chunk_value (cookie_echo_chunk (cookie_bytes k))) ≡ 48 = length_echo (cookie_bytes k) ∙ length_cookie_bytes k in
    record {
      reads_back = record { encodable = omega (arith, size); whole = refl; fits = tt; readable = omega (arith, length_cookie_bytes k) };
      short = omega (arith, size);
    }

length_ack : length (chunk_value cookie_ack_chunk) ≡ 0
unfolding chunk_value
length_ack = refl

cookie_ack_short : IsShort cookie_ack_chunk
cookie_ack_short = record {
  reads_back = record { encodable = omega (arith, length_ack); whole = refl; fits = tt; readable = tt };
  short = omega (arith, length_ack);
}

data_short : (tsn : ℕ) (m : Message) (o : SendOptions) → tsn < 2 ^ 32 → IsSmall m → IsShort (data_chunk tsn false (fragment m o))
data_short tsn m o t small =
    let size = length_data tsn false (fragment m o) in
    record {
      reads_back = record {
        encodable = omega (arith, size, small.few);
        whole = refl;
        fits = (t, record { stream_id = small.stream; ssn = omega arith; mid = omega arith; fsn = omega arith; ppid = small.ppid });
        readable = tt;
      };
      short = omega (arith, size, small.few);
    }

abbrev sack_of : ℕ → ℕ → SackTree
sack_of tsn window = record { cumulative_tsn_ack = tsn; a_rwnd = window; gap_ack_blocks = []; duplicate_tsns = [] }

sack_short : (tsn window : ℕ) → tsn < 2 ^ 32 → window < 2 ^ 32 → IsShort (sack_chunk (sack_of tsn window))
sack_short tsn window t w =
    let size = length_sack (sack_of tsn window) in
    record {
      reads_back = record {
        encodable = omega (arith, size);
        whole = refl;
        fits = record { cumulative_tsn_ack = t; a_rwnd = w; few_blocks = omega arith; few_duplicates = omega arith; blocks = All-nil FitsBlock; duplicates = All-nil FitsTsn };
        readable = tt;
      };
      short = omega (arith, size);
    }

-- ---- the packets

module _ (word_of : List ℕ → ℕ) (a b : rng.Stream) (m : Message) (o : SendOptions) (small : IsSmall m) where
  abbrev pack : Packing (List ℕ)
  pack = writing word_of

  abbrev cookie : Cookie
  cookie = cookie_for (init_tree a) (tag_of b) (first_of b) 0

  gives_init : IsGiven word_of (init_packet a)
  gives_init = is_given word_of 0 (init_chunk (init_tree a)) refl (omega arith) (init_short (tag_of a) (first_of a) (tag_small a) (first_small a))

  gives_init_ack : IsGiven word_of (init_ack_packet a b)
  gives_init_ack =
      is_given word_of (tag_of a) (init_ack_chunk (init_ack_of defaults (init_tree a) (tag_of b) (first_of b) 0)) refl (tag_small a)
      (init_ack_short (tag_of b) (first_of b) cookie (tag_small b) (first_small b))

  gives_cookie_echo : IsGiven word_of (cookie_echo_packet a b)
  gives_cookie_echo = is_given word_of (tag_of b) (cookie_echo_chunk (cookie_bytes cookie)) refl (tag_small b) (cookie_echo_short cookie)

  gives_cookie_ack : IsGiven word_of (cookie_ack_packet a)
  gives_cookie_ack = is_given word_of (tag_of a) cookie_ack_chunk refl (tag_small a) cookie_ack_short

  gives_data : IsGiven word_of (data_packet a b m o)
  gives_data = is_given word_of (tag_of b) (data_chunk (first_of a) false (fragment m o)) refl (tag_small b) (data_short (first_of a) m o (first_small a) small)

  gives_sack : IsGiven word_of (sack_packet a m)
  gives_sack =
      is_given word_of (tag_of a) (sack_chunk (sack_of (first_of a) (4718592 - length m.payload))) refl (tag_small a)
      (sack_short (first_of a) (4718592 - length m.payload) (first_small a) (omega arith))

  abbrev options : Endpoint (List ℕ) → Options
  options s = s.endpoint_state.context.options

  pub leads_on : LeadsOn word_of a b m o
  leads_on = record {
    init = λ t. gives_init (fresh defaults pack b) t refl;
    init_ack = λ t. gives_init_ack (drained (asking pack a b)) t (ap options (asks pack a b));
    cookie_echo = λ t. gives_cookie_echo (drained (answering pack a b)) t (ap options (answers pack a b));
    cookie_ack = λ t. gives_cookie_ack (drained (echoing pack a b)) t (ap options (echoes pack a b));
    message = λ t. gives_data (drained (accepting pack a b)) t (ap options (accepts pack a b));
    sack = λ t. gives_sack (drained (sending pack a b m o)) t (ap options (sends pack a b m o small));
  }
