-- What each call emits, of packets of each kind.
use Rattle.std.proofs.Common.{◌≡◌, ℕ, not, Bool, true, false, Option, Some, None, List, [], ◌∷◌, All, refl, sym, ap, subst, ◌∙◌}
use Rattle.std.specs.List.{list_all}
use Rattle.std.proofs.lemmas.Bool.{both_ways}
use Rattle.std.proofs.lemmas.List.Elements.{All-nil, All-cons, All-head, All-weaker}
use Rattle.sctp_packet.specs.Chunk.{ChunkTree, InitTree, init_chunk, init_ack_chunk, cookie_echo_chunk, cookie_ack_chunk}
use Rattle.sctp_packet.specs.Packet.{PacketTree, HeaderTree}
use Rattle.sctp_capabilities.specs.Capabilities.{zero_checksum_enabled}
use Rattle.sctp_state.specs.Events.{SendPacket, OnError}
use Rattle.sctp_state.specs.declared.api.ErrorKind.TheVariants.{ParseFailed}
use Rattle.spec_endpoint.specs.Association.{State, Closed, CookieWait, Open, Context, Endpoint, Packing}
use Rattle.spec_endpoint.specs.Packets.{fits, added_if, emit_if, has_chunks, packet_to, header_to}
use Rattle.spec_endpoint.specs.Opening.{tag_from, tsn_from, word, drew_word, init_ack_of, agreed_by}
use Rattle.spec_endpoint.specs.Input.{packet_refusal, count_packet_at, packet_unless, on_accepted_packet}
use Rattle.spec_endpoint.specs.Laws.{Call, Restore, ReceivePacket as Given, called, endings, is_closed}
use Rattle.proof_endpoint.specs.Mapped.{Carried, as_carried}
use Rattle.proof_draws.specs.Laws.{is_flowing}
use Rattle.proof_draws.proofs.StepLemmas.{first_is_init, receives_init, IsOwnIn, EachChunk, EmitsOwn}
use Rattle.proof_draws.proofs.ReceivedLemmas.{all_received}
use Rattle.proof_draws.proofs.FlowLemmas.{all_true}
use Rattle.proof_draws.proofs.InitLemmas.{at_state, init_leaves}
use Rattle.proof_draws.specs.Kinds.{IsKind, an_init, an_answer, an_echo, a_flow}
use Rattle.proof_draws.proofs.EmittedByActsLemmas.{Receives, May, each_both, each_weaker, emits_may}
use Rattle.proof_draws.proofs.ActionLemmas.{ReceivesKind, EndsEmitEventOwn}

-- ---- what is received of each kind

abbrev IsInit : ChunkTree → Type 0
IsInit (init_chunk i) = Unit {0}
IsInit c = ⊥

abbrev IsNoInit : ChunkTree → Type 0
IsNoInit (init_chunk i) = ⊥
IsNoInit c = Unit {0}

flows_on : (c : ChunkTree) → is_flowing c ≡ true → IsNoInit c
flows_on (init_chunk i) h = cc
flows_on c h = tt

flowing_first : (cs : List ChunkTree) → All IsNoInit cs → first_is_init cs ≡ false
flowing_first [] h = refl
flowing_first (init_chunk i ∷ cs) h = absurd (All-head IsNoInit (init_chunk i) cs h)
flowing_first (c ∷ cs) h = refl

module _ (p : PacketTree) where
  receives_one : (i : InitTree) → p.chunks ≡ init_chunk i ∷ [] → Receives (Given p)
  receives_one i alone =
      let all : All IsInit p.chunks = subst (All IsInit) (sym alone) (All-cons IsInit (init_chunk i) [] tt (All-nil IsInit)) in
      record {
        inits = λ tag j h. ap first_is_init alone;
        answers = λ tag j h. absurd (all_received IsInit p all tag (init_ack_chunk j) h);
        echoes = λ tag c h. absurd (all_received IsInit p all tag (cookie_echo_chunk c) h);
        acks = λ tag h. absurd (all_received IsInit p all tag cookie_ack_chunk h);
        restores = λ h e. cc;
      }

  receives_others : All IsNoInit p.chunks → Receives (Given p)
  receives_others all =
      let silent : receives_init (Given p) ≡ false = flowing_first p.chunks all in
      record {
        inits = λ tag i h. absurd (all_received IsNoInit p all tag (init_chunk i) h);
        answers = λ tag j h. silent;
        echoes = λ tag c h. silent;
        acks = λ tag h. silent;
        restores = λ h e. cc;
      }

  others : (cs : List ChunkTree) → list_all is_flowing cs ≡ true → All IsNoInit cs
  others cs h = All-weaker (λ c. is_flowing c ≡ true) IsNoInit flows_on cs (all_true is_flowing cs h)

-- a call that is no packet
receives_nothing : (c : Call) → ReceivesKind c → ((p : PacketTree) → c ≡ Given p → ⊥) → receives_init c ≡ false → Receives c
receives_nothing c k none silent = record {
  inits = λ tag i h. absurd (none h.packet h.given);
  answers = λ tag j h. silent;
  echoes = λ tag d h. silent;
  acks = λ tag h. silent;
  restores = λ h e. subst ReceivesKind e k;
}

-- ---- what it emits, unless it is an INIT

own_of : (c : Call) (e : Endpoint Carried) (s : State) → (is_closed s ≡ true → receives_init c ≡ false) → (chunk : ChunkTree) → May c s chunk → IsOwnIn c e s chunk
own_of c e s f (init_ack_chunk i) h = λ closed. absurd (both_ways (receives_init c) (f closed) h)
own_of c e s f (cookie_echo_chunk cookie) h = h
own_of c e s f chunk h = h

module _ (c : Call) (e : Endpoint Carried) (packing : e.endpoint_state.context.pack ≡ as_carried) (quiet : e.endpoint_state.context.emitted.events ≡ [])
    (none : endings (called c e).endpoint_state.context.emitted.events ≡ 0) where
  emits_by : Receives c → (is_closed (called c e).endpoint_state.state ≡ true → receives_init c ≡ false) → EmitsOwn c e
  emits_by h f =
      let s : State = (called c e).endpoint_state.state in
      each_weaker (May c s) (IsOwnIn c e s) (own_of c e s f) (called c e).endpoint_state.context.emitted.events (emits_may c h e packing quiet none)

-- ---- an INIT alone

-- the answer, where it fits
answer_emits : (P : ChunkTree → Type 0) (b is_summed : Bool) (tag limit : ℕ) (chunk : ChunkTree) (c : Context Carried) → c.pack ≡ as_carried → c.emitted.events ≡ []
    → P chunk → EachChunk P (emit_if (has_chunks (added_if b chunk (record (packet_to tag limit) { is_summed = is_summed })))
    (added_if b chunk (record (packet_to tag limit) { is_summed = is_summed })) c).emitted.events
answer_emits P true is_summed tag limit chunk c packing quiet h =
    let header : HeaderTree = header_to c.options tag in
    let all : All P (chunk ∷ []) = All-cons P chunk [] h (All-nil P) in
    each_both P c.emitted.events (SendPacket (c.pack.write header is_summed (chunk ∷ [])) ∷ []) (subst (EachChunk P) (sym quiet) tt)
    (subst (λ (pack : Packing Carried). All P (pack.write header is_summed (chunk ∷ [])).chunks) (sym packing) all, tt)
answer_emits P false is_summed tag limit chunk c packing quiet h = subst (EachChunk P) (sym quiet) tt

module _ (p : PacketTree) (e : Endpoint Carried) (packing : e.endpoint_state.context.pack ≡ as_carried) (quiet : e.endpoint_state.context.emitted.events ≡ []) (i : InitTree)
    (alone : p.chunks ≡ init_chunk i ∷ []) where
  abbrev tag : ℕ
  tag = p.header.verification_tag

  abbrev call : Call
  call = Given p

  abbrev P : ChunkTree → Type 0
  P chunk = IsOwnIn call e (called call e).endpoint_state.state chunk

  receives : receives_init call ≡ true
  receives = ap first_is_init alone

  abbrev EmitsP : Endpoint Carried → Type 0
  EmitsP x = EachChunk P x.endpoint_state.context.emitted.events

  closed_emits : EmitsP (on_accepted_packet tag (init_chunk i ∷ []) (at_state Closed (count_packet_at e).endpoint_state.context (count_packet_at e).draws))
  closed_emits =
      let d : Context Carried = (count_packet_at e).endpoint_state.context in
      let a : InitTree = init_ack_of d.options i (tag_from (word (drew_word e))) (tsn_from (word e)) 0 in
      answer_emits P (fits (record (packet_to i.initiate_tag d.options.mtu) { is_summed = not (zero_checksum_enabled (agreed_by d.options i)) }) (init_ack_chunk a))
      (not (zero_checksum_enabled (agreed_by d.options i))) i.initiate_tag d.options.mtu (init_ack_chunk a) d packing quiet (λ closed. (receives, refl))

  refused_emits : (text : List ℕ) → packet_refusal tag p.chunks e.endpoint_state.state ≡ Some text → EmitsP (called call e)
  refused_emits text is =
      subst EmitsP (sym (ap (λ (r : Option (List ℕ)). packet_unless r tag p.chunks (count_packet_at e)) is))
      (each_both P e.endpoint_state.context.emitted.events (OnError ParseFailed text ∷ []) (subst (EachChunk P) (sym quiet) tt) tt)

  module _ (none : packet_refusal tag p.chunks e.endpoint_state.state ≡ None) where
    goes : (s : State) → e.endpoint_state.state ≡ s → called call e ≡ on_accepted_packet tag (init_chunk i ∷ []) (at_state s (count_packet_at e).endpoint_state.context (count_packet_at e).draws)
    goes s is =
        ap (λ (r : Option (List ℕ)). packet_unless r tag p.chunks (count_packet_at e)) none
        ∙ (ap (λ (cs : List ChunkTree). on_accepted_packet tag cs (count_packet_at e)) alone
        ∙ ap (λ (u : State). on_accepted_packet tag (init_chunk i ∷ []) (at_state u (count_packet_at e).endpoint_state.context (count_packet_at e).draws)) is)

    not_closed : (s : State) → e.endpoint_state.state ≡ s → is_closed s ≡ false → is_closed (called call e).endpoint_state.state ≡ false
    not_closed s is h = ap (λ (x : Endpoint Carried). is_closed x.endpoint_state.state) (goes s is) ∙ init_leaves tag i s (count_packet_at e).endpoint_state.context (count_packet_at e).draws h

    init_by_state : (s : State) → e.endpoint_state.state ≡ s → endings (called call e).endpoint_state.context.emitted.events ≡ 0 → EmitsP (called call e)
    init_by_state Closed is no_end = subst EmitsP (sym (goes Closed is)) closed_emits
    init_by_state (CookieWait own first t1) is no_end =
        emits_by call e packing quiet no_end (receives_one p i alone)
        (λ closed. absurd (both_ways (is_closed (called call e).endpoint_state.state) (not_closed (CookieWait own first t1) is refl) closed))
    init_by_state (Open phase t) is no_end =
        emits_by call e packing quiet no_end (receives_one p i alone)
        (λ closed. absurd (both_ways (is_closed (called call e).endpoint_state.state) (not_closed (Open phase t) is refl) closed))

  init_emits : (r : Option (List ℕ)) → packet_refusal tag p.chunks e.endpoint_state.state ≡ r → endings (called call e).endpoint_state.context.emitted.events ≡ 0 → EmitsP (called call e)
  init_emits None is no_end = init_by_state is e.endpoint_state.state refl no_end
  init_emits (Some text) is no_end = refused_emits text is

-- ---- every call

packet_emits : (p : PacketTree) (e : Endpoint Carried) → e.endpoint_state.context.pack ≡ as_carried → e.endpoint_state.context.emitted.events ≡ [] → IsKind p.chunks
    → endings (called (Given p) e).endpoint_state.context.emitted.events ≡ 0 → EmitsOwn (Given p) e
packet_emits p e packing quiet (an_init i alone) none =
    init_emits p e packing quiet i alone (packet_refusal p.header.verification_tag p.chunks e.endpoint_state.state) refl none
packet_emits p e packing quiet (an_answer i alone) none =
    let all : All IsNoInit p.chunks = subst (All IsNoInit) (sym alone) (All-cons IsNoInit (init_ack_chunk i) [] tt (All-nil IsNoInit)) in
    emits_by (Given p) e packing quiet none (receives_others p all) (λ closed. flowing_first p.chunks all)
packet_emits p e packing quiet (an_echo cookie rest begins flows) none =
    let all : All IsNoInit p.chunks = subst (All IsNoInit) (sym begins) (All-cons IsNoInit (cookie_echo_chunk cookie) rest tt (others p rest flows)) in
    emits_by (Given p) e packing quiet none (receives_others p all) (λ closed. flowing_first p.chunks all)
packet_emits p e packing quiet (a_flow flows) none =
    let all : All IsNoInit p.chunks = others p p.chunks flows in
    emits_by (Given p) e packing quiet none (receives_others p all) (λ closed. flowing_first p.chunks all)

pub ends_emit_event_own : EndsEmitEventOwn
ends_emit_event_own (Given p) e packing quiet kind none = packet_emits p e packing quiet kind none
ends_emit_event_own (Restore h) e packing quiet kind none = absurd kind
ends_emit_event_own c e packing quiet kind none = emits_by c e packing quiet none (receives_nothing c kind (λ p g. cc) refl) (λ closed. refl)
