-- Chunks under the names of their sender are chunks that the reader receives under its own, where these are of the same two tags; and
-- chunks without numbers are the same under all names.
use Rattle.std.proofs.Common.{◌≡◌, ℕ, ◌&&◌, not, Bool, true, false, List, [], ◌∷◌, ◌++◌, map, refl, sym, ap, ◌∙◌}
use Rattle.std.specs.List.{list_all}
use Rattle.std.proofs.lemmas.Bool.{and_parts}
use Rattle.std.proofs.lemmas.List.{map-append}
use Rattle.sctp_wire.specs.Parameter.{ParameterTree, state_cookie}
use Rattle.sctp_packet.specs.Chunk.{ChunkTree, InitTree, data_chunk, idata_chunk, init_chunk, init_ack_chunk, sack_chunk, heartbeat_request_chunk, heartbeat_ack_chunk, abort_chunk, shutdown_chunk, shutdown_ack_chunk, error_chunk, cookie_echo_chunk, cookie_ack_chunk, shutdown_complete_chunk, re_config_chunk, forward_tsn_chunk, i_forward_tsn_chunk, unknown_chunk}
use Rattle.sctp_packet.specs.Grammar.{carried}
use Rattle.sctp_state.specs.Options.{Options}
use Rattle.sctp_capabilities.specs.Capabilities.{announced_parameters}
use Rattle.spec_endpoint.specs.Opening.{init_of}
use Rattle.proof_pair.specs.Agreement.{Draw}
use Rattle.proof_pair.proofs.AgreeLemmas.{is_load}
use Rattle.proof_draws.specs.NamedChunks.{Names, flip, move_by, named_parameter, named_init, named_chunk, named_chunks}
use Rattle.proof_draws.specs.Laws.{is_flowing}
use Rattle.proof_draws.proofs.OpeningLemmas.{announced_named}
use Rattle.proof_draws.specs.Pairing.{names}
use Rattle.proof_draws.proofs.BlankLemmas.{blank, blanks}

-- ---- as it is received

carried_named : (n : Names) (c : ChunkTree) → carried (named_chunk n c) ≡ named_chunk n (carried c)
carried_named n (data_chunk tsn immediate f) = refl
carried_named n (idata_chunk tsn immediate f) = refl
carried_named n (init_chunk i) = refl
carried_named n (init_ack_chunk i) = refl
carried_named n (sack_chunk k) = refl
carried_named n (heartbeat_request_chunk parameters) = refl
carried_named n (heartbeat_ack_chunk parameters) = refl
carried_named n (abort_chunk reflected causes) = refl
carried_named n (shutdown_chunk tsn) = refl
carried_named n shutdown_ack_chunk = refl
carried_named n (error_chunk causes) = refl
carried_named n (cookie_echo_chunk cookie) = refl
carried_named n cookie_ack_chunk = refl
carried_named n (shutdown_complete_chunk reflected) = refl
carried_named n (re_config_chunk parameters) = refl
carried_named n (forward_tsn_chunk tsn skipped) = refl
carried_named n (i_forward_tsn_chunk tsn skipped) = refl
carried_named n (unknown_chunk typ flags value) = refl

pub all_carried_named : (n : Names) (cs : List ChunkTree) → map carried (named_chunks n cs) ≡ named_chunks n (map carried cs)
all_carried_named n [] = refl
all_carried_named n (c ∷ cs) =
    ap (λ (d : ChunkTree). d ∷ map carried (named_chunks n cs)) (carried_named n c)
    ∙ ap (λ (ds : List ChunkTree). named_chunk n (carried c) ∷ ds) (all_carried_named n cs)

-- ---- names that differ in ties alone

abbrev pub named_with : (tag : ℕ → ℕ) (own peer : ℕ) (cookie : List ℕ → List ℕ) (tie cookie_tie : ℕ → ℕ) → Names
named_with tag own peer cookie tie cookie_tie = record { tag = tag; tie = tie; cookie_tie = cookie_tie; own = own; peer = peer; cookie = cookie }

module _ (tag : ℕ → ℕ) (own peer : ℕ) (cookie : List ℕ → List ℕ) (t c u d : ℕ → ℕ) where
  chunk_ties : (k : ChunkTree) → named_chunk (named_with tag own peer cookie t c) k ≡ named_chunk (named_with tag own peer cookie u d) k
  chunk_ties k = refl

  pub chunks_ties : (ks : List ChunkTree) → named_chunks (named_with tag own peer cookie t c) ks ≡ named_chunks (named_with tag own peer cookie u d) ks
  chunks_ties [] = refl
  chunks_ties (k ∷ ks) =
      ap (λ (z : ChunkTree). z ∷ named_chunks (named_with tag own peer cookie t c) ks) (chunk_ties k)
      ∙ ap (λ (zs : List ChunkTree). named_chunk (named_with tag own peer cookie u d) k ∷ zs) (chunks_ties ks)

-- the reader's names are those of the sender, flipped
pub chunks_received : (ps : List (Draw × Draw)) (mine peer : ℕ) (tie own_tie cookie_tie : ℕ → ℕ) (cs : List ChunkTree)
    → map carried (named_chunks (names ps mine peer tie cookie_tie) cs) ≡ named_chunks (flip (names ps peer mine own_tie cookie_tie)) (map carried cs)
chunks_received ps mine peer tie own_tie cookie_tie cs =
    let n : Names = names ps mine peer tie cookie_tie in
    all_carried_named n cs ∙ chunks_ties n.tag n.own n.peer n.cookie tie cookie_tie own_tie cookie_tie (map carried cs)

-- ---- without numbers

-- chunks that are the same under all names
abbrev pub is_bare : ChunkTree → Bool
is_bare (init_chunk i) = false
is_bare (init_ack_chunk i) = false
is_bare (cookie_echo_chunk c) = false
is_bare c = not (is_load c)

-- but for the TSN of a SHUTDOWN
bare_named : (m n : Names) (c : ChunkTree) → is_bare c ≡ true → blank (carried (named_chunk m c)) ≡ blank (named_chunk n (carried c))
bare_named m n (data_chunk tsn immediate f) h = cc
bare_named m n (idata_chunk tsn immediate f) h = cc
bare_named m n (init_chunk i) h = cc
bare_named m n (init_ack_chunk i) h = cc
bare_named m n (sack_chunk k) h = cc
bare_named m n (heartbeat_request_chunk parameters) h = refl
bare_named m n (heartbeat_ack_chunk parameters) h = refl
bare_named m n (abort_chunk reflected causes) h = refl
bare_named m n (shutdown_chunk tsn) h = refl
bare_named m n shutdown_ack_chunk h = refl
bare_named m n (error_chunk causes) h = refl
bare_named m n (cookie_echo_chunk cookie) h = cc
bare_named m n cookie_ack_chunk h = refl
bare_named m n (shutdown_complete_chunk reflected) h = refl
bare_named m n (re_config_chunk parameters) h = cc
bare_named m n (forward_tsn_chunk tsn skipped) h = cc
bare_named m n (i_forward_tsn_chunk tsn skipped) h = cc
bare_named m n (unknown_chunk typ flags value) h = refl

pub chunks_bare : (m n : Names) (cs : List ChunkTree) → list_all is_bare cs ≡ true → blanks (map carried (named_chunks m cs)) ≡ blanks (named_chunks n (map carried cs))
chunks_bare m n [] h = refl
chunks_bare m n (c ∷ cs) h =
    let parts = and_parts (is_bare c) (list_all is_bare cs) h in
    ap (λ (d : ChunkTree). d ∷ blanks (map carried (named_chunks m cs))) (bare_named m n c parts.0)
    ∙ ap (λ (ds : List ChunkTree). blank (named_chunk n (carried c)) ∷ ds) (chunks_bare m n cs parts.1)

-- ---- INIT and INIT ACK carry the sender's numbers alone

pub init_received : (m n : Names) (o : Options) (tag first method : ℕ) → m.tag tag ≡ n.tag tag → m.own ≡ n.own
    → named_init m (init_of o tag first (announced_parameters o method)) ≡ named_init n (init_of o tag first (announced_parameters o method))
init_received m n o tag first method e f =
    let init_with : (z own : ℕ) → List ParameterTree → InitTree = λ z own ps. init_of o z (move_by own first) ps in
    ap (λ (z : ℕ). init_with z m.own (map (named_parameter m) (announced_parameters o method))) e
    ∙ (ap (λ (own : ℕ). init_with (n.tag tag) own (map (named_parameter m) (announced_parameters o method))) f
    ∙ ap (λ (ps : List ParameterTree). init_with (n.tag tag) n.own ps) (announced_named m o method ∙ sym (announced_named n o method)))

with_cookie : (n : Names) (o : Options) (method : ℕ) (cookie : List ℕ)
    → map (named_parameter n) (announced_parameters o method ++ state_cookie cookie ∷ []) ≡ announced_parameters o method ++ state_cookie (n.cookie cookie) ∷ []
with_cookie n o method cookie =
    map-append (named_parameter n) (announced_parameters o method) (state_cookie cookie ∷ [])
    ∙ ap (λ (qs : List ParameterTree). qs ++ state_cookie (n.cookie cookie) ∷ []) (announced_named n o method)

pub init_ack_received : (m n : Names) (o : Options) (tag first method : ℕ) (cookie : List ℕ) → m.tag tag ≡ n.tag tag → m.own ≡ n.own → m.cookie cookie ≡ n.cookie cookie
    → named_init m (init_of o tag first (announced_parameters o method ++ state_cookie cookie ∷ []))
    ≡ named_init n (init_of o tag first (announced_parameters o method ++ state_cookie cookie ∷ []))
init_ack_received m n o tag first method cookie e f g =
    let init_with : (z own : ℕ) → List ParameterTree → InitTree = λ z own ps. init_of o z (move_by own first) ps in
    let all : List ParameterTree = announced_parameters o method ++ state_cookie cookie ∷ [] in
    ap (λ (z : ℕ). init_with z m.own (map (named_parameter m) all)) e
    ∙ (ap (λ (own : ℕ). init_with (n.tag tag) own (map (named_parameter m) all)) f
    ∙ ap (λ (ps : List ParameterTree). init_with (n.tag tag) n.own ps)
    (with_cookie m o method cookie
    ∙ (ap (λ (c : List ℕ). announced_parameters o method ++ state_cookie c ∷ []) g ∙ sym (with_cookie n o method cookie))))

-- ---- what flows is received as flowing

flows_carried : (c : ChunkTree) → is_flowing (carried c) ≡ is_flowing c
flows_carried (data_chunk tsn immediate f) = refl
flows_carried (idata_chunk tsn immediate f) = refl
flows_carried (init_chunk i) = refl
flows_carried (init_ack_chunk i) = refl
flows_carried (sack_chunk k) = refl
flows_carried (heartbeat_request_chunk parameters) = refl
flows_carried (heartbeat_ack_chunk parameters) = refl
flows_carried (abort_chunk reflected causes) = refl
flows_carried (shutdown_chunk tsn) = refl
flows_carried shutdown_ack_chunk = refl
flows_carried (error_chunk causes) = refl
flows_carried (cookie_echo_chunk cookie) = refl
flows_carried cookie_ack_chunk = refl
flows_carried (shutdown_complete_chunk reflected) = refl
flows_carried (re_config_chunk parameters) = refl
flows_carried (forward_tsn_chunk tsn skipped) = refl
flows_carried (i_forward_tsn_chunk tsn skipped) = refl
flows_carried (unknown_chunk typ flags value) = refl

pub all_flow_carried : (cs : List ChunkTree) → list_all is_flowing (map carried cs) ≡ list_all is_flowing cs
all_flow_carried [] = refl
all_flow_carried (c ∷ cs) =
    ap (λ (b : Bool). b && list_all is_flowing (map carried cs)) (flows_carried c)
    ∙ ap (λ (b : Bool). is_flowing c && b) (all_flow_carried cs)
