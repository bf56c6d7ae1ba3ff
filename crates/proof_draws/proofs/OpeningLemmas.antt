-- The rows that draw, where what is drawn under other names are the names of what is drawn.
use Rattle.std.proofs.Common.{◌≡◌, ℕ, ◌==◌, not, Bool, true, false, List, [], ◌∷◌, ◌++◌, map, refl, sym, ap, ◌∙◌}
use Rattle.rand_core.specs.Stream.{Stream}
use Rattle.std.proofs.lemmas.List.{map-append}
use Rattle.sctp_wire.specs.Parameter.{ParameterTree, supported_extensions, forward_tsn_supported, zero_checksum_acceptable}
use Rattle.sctp_packet.specs.Chunk.{ChunkTree, init_chunk}
use Rattle.sctp_state.specs.Options.{Options}
use Rattle.sctp_capabilities.specs.Capabilities.{where_enabled, extensions, announced_parameters}
use Rattle.spec_endpoint.specs.Association.{State, Closed, CookieWait, Open, Context, EndpointState, Endpoint, Packing}
use Rattle.spec_endpoint.specs.Packets.{PacketDraft, add, packet_to, emit}
use Rattle.spec_endpoint.specs.Opening.{tsn_from, tag_from, word, drew_word, init_of, send_init, t1_init, waiting, connect_in, connect}
use Rattle.proof_draws.specs.NamedChunks.{Names, AreNames, move_by, named_parameter, named_chunk}
use Rattle.proof_draws.specs.Names.{named_state, named_endpoint_state, plain, with_random}
use Rattle.proof_draws.specs.Laws.{DrawsTwo}
use Rattle.proof_draws.proofs.WritingLemmas.{Knows, named_add, named_emit}
use Rattle.proof_endpoint.proofs.RowMapsLemmas.{endpoint_state_in}

module _ (n : Names) where
  where_named : (b : Bool) (p : ParameterTree) → named_parameter n p ≡ p → map (named_parameter n) (where_enabled b (p ∷ [])) ≡ where_enabled b (p ∷ [])
  where_named true p h = ap (λ (q : ParameterTree). q ∷ []) h
  where_named false p h = refl

  -- what is announced is not drawn
  pub announced_named : (o : Options) (method : ℕ) → map (named_parameter n) (announced_parameters o method) ≡ announced_parameters o method
  announced_named o method =
      let first : List ParameterTree = where_enabled o.enable_partial_reliability (forward_tsn_supported ∷ []) in
      let second : List ParameterTree = where_enabled (not (method == 0)) (zero_checksum_acceptable method ∷ []) in
      let last : List ParameterTree = supported_extensions (extensions o) ∷ [] in
      map-append (named_parameter n) first (second ++ last)
      ∙ (ap (λ (ps : List ParameterTree). ps ++ map (named_parameter n) (second ++ last)) (where_named o.enable_partial_reliability forward_tsn_supported refl)
      ∙ ap (λ (ps : List ParameterTree). first ++ ps)
      (map-append (named_parameter n) second last
      ∙ ap (λ (ps : List ParameterTree). ps ++ last) (where_named (not (method == 0)) (zero_checksum_acceptable method) refl)))

module _ {P : Type 0} (n : Names) (are : AreNames n) (pack : Packing P) where
  pub named_send_init : (tag first : ℕ) (c : Context P) → Knows n pack c → send_init (n.tag tag) (move_by n.own first) (plain n pack c) ≡ plain n pack (send_init tag first c)
  named_send_init tag first c k =
      let ps : List ParameterTree = announced_parameters c.options c.options.zero_checksum_method in
      let chunk : ChunkTree = init_chunk (init_of c.options tag first ps) in
      let to : PacketDraft = packet_to 0 c.options.mtu in
      ap (λ (qs : List ParameterTree). emit (add (init_chunk (init_of c.options (n.tag tag) (move_by n.own first) qs)) to) (plain n pack c)) (sym (announced_named n c.options c.options.zero_checksum_method))
      ∙ (ap (λ (none : ℕ). emit (add (named_chunk n chunk) (packet_to none c.options.mtu)) (plain n pack c)) (sym are.none)
      ∙ (ap (λ (p : PacketDraft). emit p (plain n pack c)) (named_add n are chunk to) ∙ named_emit n are pack (add chunk to) c k))

  named_waiting : (tag first : ℕ) (c : Context P) → Knows n pack c → waiting (n.tag tag) (move_by n.own first) (plain n pack c) ≡ named_endpoint_state n pack (waiting tag first c)
  named_waiting tag first c k =
      ap (λ (d : Context P). endpoint_state_in (CookieWait (n.tag tag) (move_by n.own first) (t1_init c)) d) (named_send_init tag first c k)

  connect_in_named : (st : State) (c : Context P) (w v : Stream) → Knows n pack c → (st ≡ Closed → DrawsTwo n w v)
      → (connect_in (named_state n st) (with_random v (endpoint_state_in (named_state n st) (plain n pack c)))).endpoint_state ≡ named_endpoint_state n pack (connect_in st (with_random w (endpoint_state_in st c))).endpoint_state
  connect_in_named Closed c w v k draws =
      let d : DrawsTwo n w v = draws refl in
      let e : Endpoint P = with_random w (endpoint_state_in Closed c) in
      ap (λ (tag : ℕ). waiting tag (tsn_from (word (with_random v (endpoint_state_in Closed (plain n pack c))))) (plain n pack c)) d.tag
      ∙ (ap (λ (first : ℕ). waiting (n.tag (tag_from (word (drew_word e)))) first (plain n pack c)) d.first
      ∙ named_waiting (tag_from (word (drew_word e))) (tsn_from (word e)) c k)
  connect_in_named (CookieWait tag first t1) c w v k draws = refl
  connect_in_named (Open phase t) c w v k draws = refl

  pub named_connect : (s : EndpointState P) (w v : Stream) → Knows n pack s.context → (s.state ≡ Closed → DrawsTwo n w v)
      → (connect (with_random v (named_endpoint_state n pack s))).endpoint_state ≡ named_endpoint_state n pack (connect (with_random w s)).endpoint_state
  named_connect s w v k draws = connect_in_named s.state s.context w v k draws
