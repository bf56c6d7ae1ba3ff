-- Chunks that are received where they lie: which chunk an item carries.
use Rattle.std.proofs.Common.{◌≡◌, ◌⊎◌, inl, inr, ℕ, ◌<◌, ◌==◌, ◌||◌, Bool, true, false, None, length, refl, sym, ap, ◌∙◌, arith}
use Rattle.std.proofs.lemmas.Bool.Decides.{nat_tests}
use Rattle.sctp_wire.specs.Item.{Item}
use Rattle.sctp_wire.proofs.WordLemmas.{clash}
use Rattle.sctp_chunk.specs.declared.data.DataView.{DataView}
use Rattle.sctp_packet.specs.Chunk.{ChunkTree, SackTree, data_chunk, init_chunk, init_ack_chunk, sack_chunk, heartbeat_request_chunk, heartbeat_ack_chunk, abort_chunk, shutdown_chunk, shutdown_ack_chunk, error_chunk, cookie_echo_chunk, cookie_ack_chunk, shutdown_complete_chunk, idata_chunk, re_config_chunk, forward_tsn_chunk, i_forward_tsn_chunk, unknown_chunk}
use Rattle.sctp_packet.specs.Written.{is_known_chunk}
use Rattle.sctp_packet.specs.Grammar.{IsChunk}
use Rattle.sctp_packet.specs.Views.{viewed_data, viewed_idata}
use Rattle.sctp_packet.proofs.OneChunkLemmas.{one_chunk}
use Rattle.rand_core.specs.Stream.{Stream}
use Rattle.spec_endpoint.specs.Association.{Tcb, State, Closed, CookieWait, Open, EndpointState}
use Rattle.spec_endpoint.specs.Sack.{on_sack}
use Rattle.spec_endpoint.specs.Input.{misuse, violation, receive}
use Rattle.sctp_association.specs.Kinds.{carries_data, carrying}
use Rattle.sctp_supervision.specs.MisuseView.{data_misused}
use Rattle.sctp_packet.proofs.StandsLemmas.{length_data, length_idata}

-- ---- DATA and I-DATA

carried_by : (is_interleaved : Bool) (i : Item) (v : DataView) (t : ChunkTree) → (i.first == 64) ≡ is_interleaved → (i.first ≡ 0 → IsChunk i (viewed_data v)) → (i.first ≡ 64 → IsChunk i (viewed_idata v))
    → (i.first ≡ 0) ⊎ (i.first ≡ 64) → IsChunk i t → carrying is_interleaved v ≡ t
carried_by true i v t e plain interleaved (inl zero) is = absurd (clash (sym e ∙ ap (λ (n : ℕ). n == 64) zero))
carried_by true i v t e plain interleaved (inr same) is = one_chunk i (viewed_idata v) t (interleaved same) is
carried_by false i v t e plain interleaved (inl zero) is = one_chunk i (viewed_data v) t (plain zero) is
carried_by false i v t e plain interleaved (inr same) is = absurd (clash (sym (ap (λ (n : ℕ). n == 64) same) ∙ e))

-- what a fragment's chunk says is what its item stands for
pub carries_it : (i : Item) (v : DataView) (t : ChunkTree) → (i.first ≡ 0 → IsChunk i (viewed_data v)) → (i.first ≡ 64 → IsChunk i (viewed_idata v))
    → (i.first ≡ 0) ⊎ (i.first ≡ 64) → IsChunk i t → carrying (i.first == 64) v ≡ t
carries_it i v t plain interleaved either is = carried_by (i.first == 64) i v t refl plain interleaved either is

-- an unknown type is neither
neither_by : (typ : ℕ) (zero other : Bool) → (typ == 0) ≡ zero → (typ == 64) ≡ other → is_known_chunk typ ≡ false → ((typ == 0) || (typ == 64)) ≡ false
neither_by typ zero other e f unknown = grind (arith, nat_tests)

-- an item that carries no fragment stands for no DATA and no I-DATA
pub carries_none : (i : Item) (t : ChunkTree) → (i.first ≡ 0 → length i.value < 12) → (i.first ≡ 64 → length i.value < 16) → IsChunk i t → carries_data t ≡ false
carries_none i (data_chunk tsn immediate f) short long h = absurd (omega (arith, short h.kind, ap length h.value, length_data tsn f))
carries_none i (idata_chunk tsn immediate f) short long h = absurd (omega (arith, long h.kind, ap length h.value.2, length_idata h.value.0 tsn f))
carries_none i (init_chunk init) short long h = refl
carries_none i (init_ack_chunk init) short long h = refl
carries_none i (sack_chunk sack) short long h = refl
carries_none i (heartbeat_request_chunk parameters) short long h = refl
carries_none i (heartbeat_ack_chunk parameters) short long h = refl
carries_none i (abort_chunk reflected causes) short long h = refl
carries_none i (shutdown_chunk tsn) short long h = refl
carries_none i shutdown_ack_chunk short long h = refl
carries_none i (error_chunk causes) short long h = refl
carries_none i (cookie_echo_chunk cookie) short long h = refl
carries_none i cookie_ack_chunk short long h = refl
carries_none i (shutdown_complete_chunk reflected) short long h = refl
carries_none i (re_config_chunk parameters) short long h = refl
carries_none i (forward_tsn_chunk tsn skipped) short long h = refl
carries_none i (i_forward_tsn_chunk tsn skipped) short long h = refl
carries_none i (unknown_chunk typ flags value) short long h = neither_by typ (typ == 0) (typ == 64) refl refl h.of_its_type

-- ---- a fragment

pub misused_as : (is_interleaved : Bool) (t : Tcb) (v : DataView) → data_misused t.capabilities.message_interleaving is_interleaved ≡ misuse t.capabilities (carrying is_interleaved v)
misused_as true t v = refl
misused_as false t v = refl

-- ---- a SACK

never_misused : (s : State) (k : SackTree) → violation s (sack_chunk k) ≡ None
never_misused Closed k = refl
never_misused (CookieWait tag first t1) k = refl
never_misused (Open phase t) k = refl

-- a SACK that was received by itself
pub sack_received : {P : Type 0} (tag : ℕ) (words : Stream) (i : Item) (k : SackTree) (t : ChunkTree) (s next : EndpointState P) → IsChunk i (sack_chunk k) → IsChunk i t → next ≡ on_sack k s
    → record { end = record { endpoint_state = next; draws = words }; allows_next = true } ≡ receive tag t (record { endpoint_state = s; draws = words })
sack_received tag words i k t s next read is e = rw (sym (one_chunk i (sack_chunk k) t read is), e, never_misused s.state k) refl
