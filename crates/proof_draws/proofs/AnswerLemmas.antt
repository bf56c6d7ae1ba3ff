-- Answers to an INIT, and associations made by cookies, under other names.
use Rattle.std.proofs.Common.{◌≡◌, ℕ, ◌+◌, ◌-◌, ◌%◌, ◌||◌, not, Bool, true, false, List, [], ◌∷◌, ◌++◌, map, min, refl, sym, ap, ◌∙◌, arith}
use Rattle.std.specs.List.{list_any}
use Rattle.std.proofs.lemmas.List.{map-append}
use Rattle.sctp_serial.specs.Unwrapped.{u32_space}
use Rattle.sctp_wire.specs.Parameter.{ParameterTree, heartbeat_info, state_cookie, outgoing_reset_request, incoming_reset_request, ssn_tsn_reset_request, reset_response, add_outgoing_streams_request, add_incoming_streams_request, supported_extensions, forward_tsn_supported, zero_checksum_acceptable, unknown_parameter}
use Rattle.sctp_packet.specs.Chunk.{ChunkTree, InitTree, init_ack_chunk, cookie_ack_chunk, cookie_echo_chunk}
use Rattle.sctp_state.specs.Options.{Options}
use Rattle.sctp_state.specs.declared.api.SctpImplementation.{SctpImplementation}
use Rattle.sctp_capabilities.specs.Capabilities.{Capabilities, i_data, re_config, forward_tsn, announced_parameters, extensions_in, method_in, is_forward_tsn_supported, has_type, announced_by, negotiate, zero_checksum_enabled}
use Rattle.sctp_capabilities.specs.StateCookie.{Cookie, cookie_bytes}
use Rattle.spec_endpoint.specs.Association.{Identity, Tcb, tcb, Phase, CookieEchoed, Established, Context, EndpointState, Packing}
use Rattle.spec_endpoint.specs.ResetRequests.{previous_number}
use Rattle.spec_endpoint.specs.Packets.{PacketDraft, fits, add, packet_to, emit}
use Rattle.spec_endpoint.specs.Sending.{AfterSending, open_with, send_with, cookie_if, send_cookie}
use Rattle.spec_endpoint.specs.Opening.{init_of, cookie_for, agreed_by, answer, maker, queue_anew, t1_cookie, echo, enter_connected, establish, cookie_ack, identity_of, queue_for, tcb_by, anew}
use Rattle.proof_draws.specs.NamedChunks.{Names, AreNames, flip, move_by, named_parameter, named_init}
use Rattle.proof_draws.specs.Names.{named_packet, named_identity, named_tcb, named_endpoint_state, named_cookie, plain}
use Rattle.proof_draws.specs.Laws.{Makes}
use Rattle.proof_draws.proofs.MovedLemmas.{sum_moved}
use Rattle.proof_draws.proofs.WritingLemmas.{Knows, same_fits, named_add, named_emit}
use Rattle.proof_draws.proofs.OpeningLemmas.{announced_named}
use Rattle.proof_draws.proofs.FillingLemmas.{named_sent, send_with_named, send_buffered_named}

-- ---- what an INIT announces is not drawn

abbrev emitted_with : (outbound inbound : ℕ) → (is_partial : Bool) → (types : List ℕ) → (method : ℕ) → Capabilities
emitted_with outbound inbound is_partial types method = record {
  partial_reliability = is_partial || has_type forward_tsn types;
  message_interleaving = has_type i_data types;
  reconfig = has_type re_config types;
  zero_checksum_method = method;
  incoming = outbound;
  outgoing = inbound;
}

-- with this number of the peer's last request
abbrev last_in : (last : ℕ) → Tcb → Tcb
last_in last t = record t { requests = record t.requests { last = last } }

module _ (n : Names) where
  extensions_named : (ps : List ParameterTree) → extensions_in (map (named_parameter n) ps) ≡ extensions_in ps
  extensions_named [] = refl
  extensions_named (heartbeat_info info ∷ ps) = extensions_named ps
  extensions_named (state_cookie cookie ∷ ps) = extensions_named ps
  extensions_named (outgoing_reset_request number response tsn streams ∷ ps) = extensions_named ps
  extensions_named (incoming_reset_request number streams ∷ ps) = extensions_named ps
  extensions_named (ssn_tsn_reset_request typ value ∷ ps) = extensions_named ps
  extensions_named (reset_response number result sender receiver ∷ ps) = extensions_named ps
  extensions_named (add_outgoing_streams_request typ value ∷ ps) = extensions_named ps
  extensions_named (add_incoming_streams_request typ value ∷ ps) = extensions_named ps
  extensions_named (supported_extensions types ∷ ps) = refl
  extensions_named (forward_tsn_supported ∷ ps) = extensions_named ps
  extensions_named (zero_checksum_acceptable method ∷ ps) = extensions_named ps
  extensions_named (unknown_parameter typ value ∷ ps) = extensions_named ps

  method_named : (ps : List ParameterTree) → method_in (map (named_parameter n) ps) ≡ method_in ps
  method_named [] = refl
  method_named (heartbeat_info info ∷ ps) = method_named ps
  method_named (state_cookie cookie ∷ ps) = method_named ps
  method_named (outgoing_reset_request number response tsn streams ∷ ps) = method_named ps
  method_named (incoming_reset_request number streams ∷ ps) = method_named ps
  method_named (ssn_tsn_reset_request typ value ∷ ps) = method_named ps
  method_named (reset_response number result sender receiver ∷ ps) = method_named ps
  method_named (add_outgoing_streams_request typ value ∷ ps) = method_named ps
  method_named (add_incoming_streams_request typ value ∷ ps) = method_named ps
  method_named (supported_extensions types ∷ ps) = method_named ps
  method_named (forward_tsn_supported ∷ ps) = method_named ps
  method_named (zero_checksum_acceptable method ∷ ps) = refl
  method_named (unknown_parameter typ value ∷ ps) = method_named ps

  partial_named : (ps : List ParameterTree) → list_any is_forward_tsn_supported (map (named_parameter n) ps) ≡ list_any is_forward_tsn_supported ps
  partial_named [] = refl
  partial_named (heartbeat_info info ∷ ps) = partial_named ps
  partial_named (state_cookie cookie ∷ ps) = partial_named ps
  partial_named (outgoing_reset_request number response tsn streams ∷ ps) = partial_named ps
  partial_named (incoming_reset_request number streams ∷ ps) = partial_named ps
  partial_named (ssn_tsn_reset_request typ value ∷ ps) = partial_named ps
  partial_named (reset_response number result sender receiver ∷ ps) = partial_named ps
  partial_named (add_outgoing_streams_request typ value ∷ ps) = partial_named ps
  partial_named (add_incoming_streams_request typ value ∷ ps) = partial_named ps
  partial_named (supported_extensions types ∷ ps) = partial_named ps
  partial_named (forward_tsn_supported ∷ ps) = refl
  partial_named (zero_checksum_acceptable method ∷ ps) = partial_named ps
  partial_named (unknown_parameter typ value ∷ ps) = partial_named ps

  pub emitted_named : (i : InitTree) → announced_by i.nbr_outbound_streams i.nbr_inbound_streams (map (named_parameter n) i.parameters) ≡ announced_by i.nbr_outbound_streams i.nbr_inbound_streams i.parameters
  emitted_named i =
      let o : ℕ = i.nbr_outbound_streams in
      let b : ℕ = i.nbr_inbound_streams in
      let qs : List ParameterTree = map (named_parameter n) i.parameters in
      ap (λ (x : Bool). emitted_with o b x (extensions_in qs) (method_in qs)) (partial_named i.parameters)
      ∙ (ap (λ (x : List ℕ). emitted_with o b (list_any is_forward_tsn_supported i.parameters) x (method_in qs)) (extensions_named i.parameters)
      ∙ ap (λ (x : ℕ). emitted_with o b (list_any is_forward_tsn_supported i.parameters) (extensions_in i.parameters) x) (method_named i.parameters))

  pub agreed_named : (o : Options) (i : InitTree) → agreed_by o (named_init n i) ≡ agreed_by o i
  agreed_named o i = ap (λ (k : Capabilities). negotiate o k) (emitted_named i)

  -- ---- a new control block

  before_named : (by k : ℕ) → previous_number (move_by by k) ≡ move_by by (previous_number k)
  before_named by k =
      let at : (j : ℕ) → (j + u32_space - 1) % u32_space ≡ (j + (u32_space - 1)) % u32_space = λ j. let same : j + u32_space - 1 ≡ j + (u32_space - 1) = omega arith in ap (λ x. x % u32_space) same in
      at (move_by by k) ∙ (sum_moved u32_space k (u32_space - 1) by ∙ ap (λ x. move_by by x) (sym (at k)))

  pub tcb_named : (o : Options) (i : Identity) (a_rwnd : ℕ) (k : Capabilities) → tcb o (named_identity n i) a_rwnd k ≡ named_tcb n (tcb o i a_rwnd k)
  tcb_named o i a_rwnd k = ap (λ (last : ℕ). last_in last (named_tcb n (tcb o i a_rwnd k))) (before_named n.peer i.peer_first)

-- ---- INIT

-- the cookie of what an INIT announced
abbrev cookie_with : InitTree → (tag first tie : ℕ) → Capabilities → Cookie
cookie_with i tag first tie k = record (cookie_for i tag first tie) { peer_capabilities = k }

-- an INIT ACK with this cookie, by what was agreed
abbrev answered_by : {P : Type 0} → (to tag first : ℕ) → Capabilities → (cookie : List ℕ) → Context P → Context P
answered_by to tag first k cookie c =
    emit (add (init_ack_chunk (init_of c.options tag first (announced_parameters c.options k.zero_checksum_method ++ state_cookie cookie ∷ [])))
    (record (packet_to to c.options.mtu) { is_summed = not (zero_checksum_enabled k) })) c

-- a cookie is echoed, by what was agreed
abbrev echoed_by : {P : Type 0} → Phase → (cookie : List ℕ) → SctpImplementation → Capabilities → Identity → (a_rwnd : ℕ) → Context P → EndpointState P
echoed_by phase cookie peer k me a_rwnd c =
    open_with phase (send_cookie cookie (tcb c.options me a_rwnd k) (record c { peer = peer; last_tag = me.my_tag; queue = queue_anew k.message_interleaving c.queue }))

module _ {P : Type 0} (n : Names) (are : AreNames n) (pack : Packing P) where
  written_named : (to tag first : ℕ) (k : Capabilities) (cookie : List ℕ) (c : Context P) → Knows n pack c
      → answered_by (n.tag to) (n.tag tag) (move_by n.own first) k (n.cookie cookie) (plain n pack c) ≡ plain n pack (answered_by to tag first k cookie c)
  written_named to tag first k cookie c knows =
      let ps : List ParameterTree = announced_parameters c.options k.zero_checksum_method in
      let p : PacketDraft = record (packet_to to c.options.mtu) { is_summed = not (zero_checksum_enabled k) } in
      let chunk : ChunkTree = init_ack_chunk (init_of c.options tag first (ps ++ state_cookie cookie ∷ [])) in
      let each : map (named_parameter n) (ps ++ state_cookie cookie ∷ []) ≡ ps ++ state_cookie (n.cookie cookie) ∷ [] =
      map-append (named_parameter n) ps (state_cookie cookie ∷ [])
      ∙ ap (λ (qs : List ParameterTree). qs ++ state_cookie (n.cookie cookie) ∷ []) (announced_named n c.options k.zero_checksum_method) in
      ap (λ (qs : List ParameterTree). emit (add (init_ack_chunk (init_of c.options (n.tag tag) (move_by n.own first) qs)) (named_packet n p)) (plain n pack c)) (sym each)
      ∙ (ap (λ (q : PacketDraft). emit q (plain n pack c)) (named_add n are chunk p) ∙ named_emit n are pack (add chunk p) c knows)

  pub answer_named : (i : InitTree) (tag first tie : ℕ) (c : Context P) → Makes n (cookie_for i tag first tie) → Knows n pack c
      → answer (named_init (flip n) i) (n.tag tag) (move_by n.own first) (n.cookie_tie tie) (plain n pack c) ≡ plain n pack (answer i tag first tie c)
  answer_named i tag first tie c makes knows =
      let j : InitTree = named_init (flip n) i in
      let k : Capabilities = agreed_by c.options i in
      let d : Context P = plain n pack c in
      ap (λ (x : Capabilities). answered_by (n.tag i.initiate_tag) (n.tag tag) (move_by n.own first) x (cookie_bytes (cookie_for j (n.tag tag) (move_by n.own first) (n.cookie_tie tie))) d) (agreed_named (flip n) c.options i)
      ∙ (ap (λ (x : Capabilities). answered_by (n.tag i.initiate_tag) (n.tag tag) (move_by n.own first) k (cookie_bytes (cookie_with j (n.tag tag) (move_by n.own first) (n.cookie_tie tie) x)) d) (emitted_named (flip n) i)
      ∙ (ap (λ (x : List ℕ). answered_by (n.tag i.initiate_tag) (n.tag tag) (move_by n.own first) k x d) (sym makes)
      ∙ written_named i.initiate_tag tag first k (cookie_bytes (cookie_for i tag first tie)) c knows))

  -- ---- a new control block

  pub cookie_ack_named : (tag : ℕ) (t : Tcb) (c : Context P) → Knows n pack c → cookie_ack (n.tag tag) (named_tcb n t) (plain n pack c) ≡ named_sent n pack (cookie_ack tag t c)
  cookie_ack_named tag t c knows =
      let p : PacketDraft = record (packet_to tag c.options.mtu) { is_summed = not (zero_checksum_enabled t.capabilities) } in
      ap (λ (q : PacketDraft). send_with false q (named_tcb n t) (plain n pack c)) (named_add n are cookie_ack_chunk p)
      ∙ send_with_named n are pack false (add cookie_ack_chunk p) t c knows

  pub anew_named : (resets : Bool) (k : Cookie) (tie : ℕ) (c : Context P) → Knows n pack c
      → anew resets (named_cookie n k) (n.tie tie) (plain n pack c) ≡ named_endpoint_state n pack (anew resets k tie c)
  anew_named resets k tie c knows =
      let d : Context P = enter_connected (record c { queue = queue_for resets (negotiate c.options k.peer_capabilities).message_interleaving c.queue; last_tag = k.my_tag }) in
      ap (λ (t : Tcb). open_with Established (cookie_ack (n.tag k.peer_tag) t (plain n pack d)))
      (tcb_named n c.options (identity_of k tie) (min k.a_rwnd c.options.max_send_buffer_size) (negotiate c.options k.peer_capabilities))
      ∙ ap (λ (x : AfterSending P). open_with Established x) (cookie_ack_named k.peer_tag (tcb_by c.options k tie) d knows)

  -- ---- COOKIE ACK, and the cookie that is echoed

  pub established_named : (t : Tcb) (c : Context P) → Knows n pack c → establish (named_tcb n t) (plain n pack c) ≡ named_endpoint_state n pack (establish t c)
  established_named t c knows = ap (λ (x : AfterSending P). open_with Established x) (send_buffered_named n are pack false t (enter_connected c) knows)

  cookie_if_named : (b : Bool) (cookie : List ℕ) (t : Tcb) (c : Context P) → Knows n pack c
      → cookie_if b (n.cookie cookie) (named_tcb n t) (plain n pack c) ≡ named_sent n pack (cookie_if b cookie t c)
  cookie_if_named true cookie t c knows =
      let p : PacketDraft = packet_to t.identity.peer_tag c.options.mtu in
      ap (λ (q : PacketDraft). send_with true q (named_tcb n t) (plain n pack c)) (named_add n are (cookie_echo_chunk cookie) p)
      ∙ send_with_named n are pack true (add (cookie_echo_chunk cookie) p) t c knows
  cookie_if_named false cookie t c knows = refl

  pub send_cookie_named : (cookie : List ℕ) (t : Tcb) (c : Context P) → Knows n pack c
      → send_cookie (n.cookie cookie) (named_tcb n t) (plain n pack c) ≡ named_sent n pack (send_cookie cookie t c)
  send_cookie_named cookie t c knows =
      let p : PacketDraft = packet_to t.identity.peer_tag c.options.mtu in
      ap (λ (b : Bool). cookie_if b (n.cookie cookie) (named_tcb n t) (plain n pack c)) (same_fits n are p (cookie_echo_chunk cookie))
      ∙ cookie_if_named (fits p (cookie_echo_chunk cookie)) cookie t c knows

  -- an INIT ACK that brought a cookie
  pub echo_named : (i : InitTree) (cookie : List ℕ) (me : Identity) (c : Context P) → maker (n.cookie cookie) ≡ maker cookie → Knows n pack c
      → echo (named_init (flip n) i) (n.cookie cookie) (named_identity n me) (plain n pack c) ≡ named_endpoint_state n pack (echo i cookie me c)
  echo_named i cookie me c same knows =
      let k : Capabilities = agreed_by c.options i in
      let d : Context P = record c { peer = maker cookie; last_tag = me.my_tag; queue = queue_anew k.message_interleaving c.queue } in
      let p : Phase = CookieEchoed (t1_cookie c) (n.cookie cookie) in
      ap (λ (x : Capabilities). echoed_by p (n.cookie cookie) (maker (n.cookie cookie)) x (named_identity n me) i.a_rwnd (plain n pack c)) (agreed_named (flip n) c.options i)
      ∙ (ap (λ (x : SctpImplementation). echoed_by p (n.cookie cookie) x k (named_identity n me) i.a_rwnd (plain n pack c)) same
      ∙ (ap (λ (t : Tcb). open_with p (send_cookie (n.cookie cookie) t (plain n pack d))) (tcb_named n c.options me i.a_rwnd k)
      ∙ ap (λ (x : AfterSending P). open_with p x) (send_cookie_named cookie (tcb c.options me i.a_rwnd k) d knows)))
