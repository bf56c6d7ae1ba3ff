-- The bytes determine the parameter.
use Rattle.std.proofs.Common.{◌≡◌, ℕ, suc, ◌+◌, ◌*◌, ◌<◌, ◌^◌, ◌==◌, Bool, cond, List, [], ◌∷◌, ◌++◌, length, drop, refl, sym, ap, ◌∙◌, Option, None, Some, arith}
use Rattle.std.specs.Prelude.{All}
use Rattle.std.specs.List.{flat_map}
use Rattle.std.proofs.lemmas.List.{append-nil}
use Rattle.std.proofs.lemmas.List.Concat.{flat_map-cons}
use Rattle.sctp_serial.specs.declared.api.StreamId.{StreamId}
use Rattle.sctp_serial.specs.declared.types.tsn.Tsn.{Tsn}
use Rattle.sctp_wire.specs.Field.{be16, be32, length_be32}
use Rattle.sctp_parameter.proofs.ParameterLemmas.{length_response}
use Rattle.sctp_wire.specs.Item.{Item}
use Rattle.sctp_wire.specs.Serialize.{type_of}
use Rattle.sctp_wire.specs.Parameter.{ParameterTree, heartbeat_info, state_cookie, outgoing_reset_request, incoming_reset_request, ssn_tsn_reset_request, reset_response, add_outgoing_streams_request, add_incoming_streams_request, supported_extensions, forward_tsn_supported, zero_checksum_acceptable, unknown_parameter, IsParameter, SaysParameter, parameter_value, is_known_parameter, stream_bytes}
use Rattle.sctp_wire.proofs.WordLemmas.{word, word_back, behind_word, two_bytes, tsn, clash}

abbrev stream : ℕ → StreamId
stream n = record { 0 = n }

abbrev streams_of : List ℕ → List StreamId
streams_of [] = []
streams_of (a ∷ []) = []
streams_of (a ∷ b ∷ bytes) = stream (a * 256 + b) ∷ streams_of bytes

stream_front : (id : StreamId) (rest : List ℕ) → id.0 < 2 ^ 16 → streams_of (stream_bytes id ++ rest) ≡ id ∷ streams_of rest
unfolding be16
stream_front id rest h = ap (λ (n : ℕ). stream n ∷ streams_of rest) (two_bytes id.0 h)

streams_back : (ids : List StreamId) → All (λ id. id.0 < 2 ^ 16) ids → streams_of (flat_map stream_bytes ids) ≡ ids
streams_back [] h = refl
streams_back (id ∷ ids) h =
    ap streams_of (flat_map-cons stream_bytes id ids)
    ∙ stream_front id (flat_map stream_bytes ids) (h 0 id (omega arith))
    ∙ ap (λ (others : List StreamId). id ∷ others) (streams_back ids (λ k d less. h (suc k) d (omega arith)))

abbrev short_response : List ℕ → ParameterTree
short_response value = reset_response (word value) (word (drop 4 value)) None None

abbrev long_response : List ℕ → ParameterTree
long_response value = reset_response (word value) (word (drop 4 value)) (Some (tsn (word (drop 4 (drop 4 value))))) (Some (tsn (word (drop 4 (drop 4 (drop 4 value))))))

-- what a parameter of a known type says
abbrev known : ℕ → List ℕ → ParameterTree
known typ value =
    cond (typ == 1) (heartbeat_info value)
    (cond (typ == 7) (state_cookie value)
    (cond (typ == 13) (outgoing_reset_request (word value) (word (drop 4 value)) (tsn (word (drop 4 (drop 4 value)))) (streams_of (drop 4 (drop 4 (drop 4 value)))))
    (cond (typ == 14) (incoming_reset_request (word value) (streams_of (drop 4 value)))
    (cond (typ == 15) (ssn_tsn_reset_request typ value)
    (cond (typ == 16) (cond (length value == 8) (short_response value) (long_response value))
    (cond (typ == 17) (add_outgoing_streams_request typ value)
    (cond (typ == 18) (add_incoming_streams_request typ value)
    (cond (typ == 0x8001) (zero_checksum_acceptable (word value))
    (cond (typ == 0x8008) (supported_extensions value) forward_tsn_supported)))))))))

abbrev emitted : ℕ → List ℕ → ParameterTree
emitted typ value = cond (is_known_parameter typ) (known typ value) (unknown_parameter typ value)

same_outgoing : (a b c d : ℕ) (t u : Tsn) (x y : List StreamId) → a ≡ c → b ≡ d → t ≡ u → x ≡ y → outgoing_reset_request a b t x ≡ outgoing_reset_request c d u y
same_outgoing a b c d t u x y p q r s = cc

same_response : (a b c d : ℕ) (t u v w : Option Tsn) → a ≡ c → b ≡ d → t ≡ u → v ≡ w → reset_response a b t v ≡ reset_response c d u w
same_response a b c d t u v w p q r s = cc

at_type : (typ k : ℕ) (value : List ℕ) (t : ParameterTree) → typ ≡ k → emitted k value ≡ t → emitted typ value ≡ t
at_type typ k value t e h = ap (λ (n : ℕ). emitted n value) e ∙ h

pub parameter_emitted : (typ : ℕ) (value : List ℕ) (t : ParameterTree) → SaysParameter typ value t → emitted typ value ≡ t
unfolding parameter_value
parameter_emitted typ value (heartbeat_info info) s = at_type typ 1 value _ s.typed (ap heartbeat_info s.valued)
parameter_emitted typ value (state_cookie cookie) s = at_type typ 7 value _ s.typed (ap state_cookie s.valued)
parameter_emitted typ value (outgoing_reset_request request response last streams) s =
    let first : drop 4 value ≡ be32 response ++ (be32 last.0 ++ flat_map stream_bytes streams) = ap (drop 4) s.valued ∙ behind_word request _ in
    let second : drop 4 (drop 4 value) ≡ be32 last.0 ++ flat_map stream_bytes streams = ap (drop 4) first ∙ behind_word response _ in
    let third : drop 4 (drop 4 (drop 4 value)) ≡ flat_map stream_bytes streams = ap (drop 4) second ∙ behind_word last.0 _ in
    at_type typ 13 value _ s.typed (same_outgoing _ _ _ _ _ _ _ _
    (ap word s.valued ∙ word_back request _ s.fits.0)
    (ap word first ∙ word_back response _ s.fits.1)
    (ap tsn (ap word second ∙ word_back last.0 _ s.fits.2))
    (ap streams_of third ∙ streams_back streams s.fits.3))
parameter_emitted typ value (incoming_reset_request request streams) s =
    let first : word value ≡ request = ap word s.valued ∙ word_back request _ s.fits.0 in
    let second : streams_of (drop 4 value) ≡ streams = ap streams_of (ap (drop 4) s.valued ∙ behind_word request _) ∙ streams_back streams s.fits.1 in
    at_type typ 14 value _ s.typed (ap (λ (n : ℕ). incoming_reset_request n (streams_of (drop 4 value))) first ∙ ap (incoming_reset_request request) second)
parameter_emitted typ value (ssn_tsn_reset_request kept bytes) s =
    at_type typ 15 value _ (s.typed ∙ s.of_its_variant) (ap (ssn_tsn_reset_request 15) s.valued ∙ ap (λ (n : ℕ). ssn_tsn_reset_request n bytes) (sym s.of_its_variant))
parameter_emitted typ value (reset_response response result None None) s =
    let len : length value ≡ 8 = ap length s.valued ∙ length_response response result None None in
    let second : drop 4 value ≡ be32 result ++ [] = ap (drop 4) s.valued ∙ behind_word response _ in
    at_type typ 16 value _ s.typed (ap (λ (n : ℕ). cond (n == 8) (short_response value) (long_response value)) len
    ∙ same_response _ _ _ _ _ _ _ _
    (ap word s.valued ∙ word_back response _ s.fits.0)
    (ap word second ∙ word_back result _ s.fits.1) refl refl)
parameter_emitted typ value (reset_response response result None (Some receiver)) s = absurd (clash (sym s.whole))
parameter_emitted typ value (reset_response response result (Some sender) None) s = absurd (clash (sym s.whole))
parameter_emitted typ value (reset_response response result (Some sender) (Some receiver)) s =
    let len : length value ≡ 16 = omega (arith, ap length s.valued, length_response response result (Some sender) (Some receiver), length_be32 sender.0, length_be32 receiver.0) in
    let first : drop 4 value ≡ be32 result ++ (be32 sender.0 ++ be32 receiver.0) = ap (drop 4) s.valued ∙ behind_word response _ in
    let second : drop 4 (drop 4 value) ≡ be32 sender.0 ++ be32 receiver.0 = ap (drop 4) first ∙ behind_word result _ in
    let third : drop 4 (drop 4 (drop 4 value)) ≡ be32 receiver.0 ++ [] = ap (drop 4) second ∙ behind_word sender.0 _ ∙ sym (append-nil (be32 receiver.0)) in
    at_type typ 16 value _ s.typed (ap (λ (n : ℕ). cond (n == 8) (short_response value) (long_response value)) len
    ∙ same_response _ _ _ _ _ _ _ _
    (ap word s.valued ∙ word_back response _ s.fits.0)
    (ap word first ∙ word_back result _ s.fits.1)
    (ap (λ (n : ℕ). Some (tsn n)) (ap word second ∙ word_back sender.0 _ s.fits.2))
    (ap (λ (n : ℕ). Some (tsn n)) (ap word third ∙ word_back receiver.0 [] s.fits.3)))
parameter_emitted typ value (add_outgoing_streams_request kept bytes) s =
    at_type typ 17 value _ (s.typed ∙ s.of_its_variant) (ap (add_outgoing_streams_request 17) s.valued ∙ ap (λ (n : ℕ). add_outgoing_streams_request n bytes) (sym s.of_its_variant))
parameter_emitted typ value (add_incoming_streams_request kept bytes) s =
    at_type typ 18 value _ (s.typed ∙ s.of_its_variant) (ap (add_incoming_streams_request 18) s.valued ∙ ap (λ (n : ℕ). add_incoming_streams_request n bytes) (sym s.of_its_variant))
parameter_emitted typ value (supported_extensions chunk_types) s = at_type typ 0x8008 value _ s.typed (ap supported_extensions s.valued)
parameter_emitted typ value forward_tsn_supported s = at_type typ 0xC000 value _ s.typed refl
parameter_emitted typ value (zero_checksum_acceptable method) s =
    at_type typ 0x8001 value _ s.typed (ap zero_checksum_acceptable (ap word (s.valued ∙ sym (append-nil (be32 method))) ∙ word_back method [] s.fits))
parameter_emitted typ value (unknown_parameter kept bytes) s =
    at_type typ kept value _ s.typed (ap (λ (b : Bool). cond b (known kept value) (unknown_parameter kept value)) s.of_its_variant ∙ ap (unknown_parameter kept) s.valued)

pub one_parameter_lem : (i : Item) (t u : ParameterTree) → IsParameter i t → IsParameter i u → t ≡ u
one_parameter_lem i t u s r = sym (parameter_emitted (type_of i) i.value t s) ∙ parameter_emitted (type_of i) i.value u r
