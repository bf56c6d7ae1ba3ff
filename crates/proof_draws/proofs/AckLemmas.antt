-- An INIT ACK: its cookie is echoed by an end that waits for it; an end with a control block does nothing with it.
use Rattle.std.proofs.Common.{◌≡◌, ℕ, true, false, Option, Some, None, List, [], ◌∷◌, map, All, inl, refl, sym, ap, subst, ◌∙◌}
use Rattle.std.proofs.lemmas.Bool.{both_ways}
use Rattle.std.proofs.lemmas.List.Elements.{All-nil, All-cons}
use Rattle.std.proofs.lemmas.Option.{same_Some}
use Rattle.rand_core.specs.Stream.{Stream, next_u64}
use Rattle.sctp_packet.specs.Chunk.{ChunkTree, InitTree, init_ack_chunk, cookie_echo_chunk}
use Rattle.sctp_packet.specs.Grammar.{carried}
use Rattle.sctp_state.specs.Options.{Options}
use Rattle.sctp_capabilities.specs.StateCookie.{cookie_bytes}
use Rattle.sctp_state.specs.Timer.{Timer}
use Rattle.spec_endpoint.specs.Association.{State, Closed, CookieWait, Open, Context, Endpoint}
use Rattle.spec_endpoint.specs.Shown.{Association}
use Rattle.spec_endpoint.specs.Opening.{init_ack_of, agreed_by, cookie_for, cookie_in}
use Rattle.spec_endpoint.specs.Input.{my_tag, packet_refusal, count_packet_at, packet_unless}
use Rattle.spec_endpoint.specs.Laws.{Call, ReceivePacket, called}
use Rattle.proof_endpoint.specs.Mapped.{Carried, as_carried}
use Rattle.proof_endpoint.specs.Acts.{is_opened}
use Rattle.proof_pair.specs.Trace.{Side, as_received, state_of}
use Rattle.proof_pair.specs.Agreement.{Draw as Drawn}
use Rattle.proof_pair.proofs.JoinLemmas.{init_by, IsInitAck}
use Rattle.proof_pair.proofs.TraceLemmas.{seen}
use Rattle.proof_draws.specs.NamedChunks.{Names, flip, named_init, named_chunks}
use Rattle.proof_draws.specs.Names.{named_state}
use Rattle.proof_draws.specs.NamedCookies.{cookie_named}
use Rattle.proof_draws.specs.Laws.{NumbersFitIn}
use Rattle.proof_draws.specs.NamedCalls.{EchoIsNamed, InitAckIsNamed, init_ack, EachCallIsNamed}
use Rattle.proof_draws.proofs.CookieLemmas.{cookies_named}
use Rattle.proof_draws.specs.Pairing.{far, cookie_under, names, Knows}
use Rattle.proof_draws.proofs.NamesLemmas.{same_tie, peer_in, names_in, TagsAre}
use Rattle.proof_draws.proofs.TwinLemmas.{IsTaken, Stand, Twin, IsNamedBy}
use Rattle.proof_draws.proofs.ChunkLemmas.{init_ack_received}
use Rattle.proof_draws.proofs.GuideLemmas.{Guides, tags_after}
use Rattle.proof_draws.proofs.StepLemmas.{receives_init, Named}
use Rattle.proof_draws.proofs.ReceivedLemmas.{all_received, taken_as, taken_too}
use Rattle.proof_draws.proofs.BlankLemmas.{on_chunks}
use Rattle.proof_draws.proofs.FlowLemmas.{held_by}

-- the one chunk of such a packet
abbrev IsThat : InitTree → ChunkTree → Type 0
IsThat i (init_ack_chunk j) = j.initiate_tag ≡ i.initiate_tag
IsThat i (cookie_echo_chunk c) = ⊥
IsThat i chunk = Unit {0}

module _ (ps : List (Drawn × Drawn)) (k : Knows ps) (law : EachCallIsNamed) (o q : Options) (x y z : Side) (t : Twin ps x y z) (p r : Carried)
    (checksum other : ℕ) (packing : x.end.endpoint_state.context.pack ≡ as_carried) (quiet : x.end.endpoint_state.context.emitted.events ≡ []) (i : InitTree)
    (n : IsNamedBy ps (state_of y) (state_of x) p r) (alone : p.chunks ≡ init_ack_chunk i ∷ [])
    (none : packet_refusal p.header.verification_tag (map carried p.chunks) (state_of x) ≡ None) (numbers : NumbersFitIn (state_of x)) (said : IsInitAck q o (seen y) (seen x) y.got_init i)
    (taken : IsTaken i n.mine n.cookie_tie) where
  abbrev call : Call
  call = ReceivePacket (as_received p checksum)

  abbrev f : Endpoint Carried
  f = called (ReceivePacket (as_received r other)) z.end

  abbrev received : List ChunkTree
  received = map carried p.chunks

  abbrev tie : ℕ → ℕ
  tie old = (next_u64 z.end.draws).0

  received_alone : received ≡ init_ack_chunk i ∷ []
  received_alone = ap (λ (cs : List ChunkTree). map carried cs) alone

  silent : receives_init call ≡ false
  silent = ap (λ (cs : List ChunkTree). receives_init (ReceivePacket (record (as_received p checksum) { chunks = cs }))) received_alone

  guides : (mine : ℕ) → Guides call mine i.initiate_tag
  guides mine =
      let all : All (IsThat i) received = subst (All (IsThat i)) (sym received_alone) (All-cons (IsThat i) (init_ack_chunk i) [] refl (All-nil (IsThat i))) in
      record {
        answers = λ tag j h. all_received (IsThat i) (as_received p checksum) all tag (init_ack_chunk j) h;
        own = λ tag c e. absurd (all_received (IsThat i) (as_received p checksum) all tag (cookie_echo_chunk e.cookie) e.received);
        other = λ tag c e. absurd (all_received (IsThat i) (as_received p checksum) all tag (cookie_echo_chunk e.cookie) e.received);
        connects = λ e. cc;
        restores = λ h e. cc;
      }

  module _ (tag first : ℕ) (t1 : Timer) (waits : state_of x ≡ CookieWait tag first t1) where
    abbrev m : Names
    m = names ps tag i.initiate_tag tie same_tie

    state : state_of z ≡ named_state m (state_of x)
    state =
        t.state
        ∙ (ap (λ (s : State). named_state (names_in ps s t.tie) s) waits ∙ sym (ap (λ (s : State). named_state m s) waits))

    -- what it says is named alike by its sender and its reader
    init_received : (j : InitTree) → j ≡ init_ack_of q (init_by o said.other) said.draw.tag said.draw.first said.tie → far ps n.mine ≡ far ps i.initiate_tag
        → named_init (names ps n.mine n.peer n.tie n.cookie_tie) j ≡ named_init (flip m) j
    init_received j is same =
        let a : InitTree = init_by o said.other in
        let l : Names = names ps n.mine n.peer n.tie n.cookie_tie in
        let cookie : List ℕ = cookie_bytes (cookie_for a said.draw.tag said.draw.first said.tie) in
        let method : ℕ = (agreed_by q a).zero_checksum_method in
        subst (λ (h : InitTree). named_init l h ≡ named_init (flip m) h) (sym is)
        (init_ack_received l (flip m) q said.draw.tag said.draw.first method cookie refl same
        (ap (λ (g : ℕ → ℕ). cookie_named (cookie_under ps g) cookie) taken.tie))

    chunks : map carried (named_chunks (names ps n.mine n.peer n.tie n.cookie_tie) p.chunks) ≡ named_chunks (flip m) received
    chunks =
        ap (λ (cs : List ChunkTree). map carried (named_chunks (names ps n.mine n.peer n.tie n.cookie_tie) cs)) alone
        ∙ (ap (λ (j : InitTree). init_ack_chunk j ∷ []) (init_received i said.is (ap (λ (a : ℕ). far ps a) (sym taken.own)))
        ∙ sym (ap (λ (cs : List ChunkTree). named_chunks (flip m) cs) received_alone))

    echo_of : (c : Option (List ℕ)) → EchoIsNamed m c x.end.draws z.end.draws
    echo_of None = tt
    echo_of (Some cookie) = record { maker = (cookies_named (cookie_under ps same_tie)).same_maker cookie; draws = record { tie = refl } }

    ack_is : InitAckIsNamed m i (state_of x) x.end.draws z.end.draws
    ack_is = subst (λ (s : State). InitAckIsNamed m i s x.end.draws z.end.draws) (sym waits) (echo_of (cookie_in i.parameters))

    pub ack_named : Named ps x z (state_of y) call f
    ack_named = record {
      mine = tag;
      peer = i.initiate_tag;
      tie = tie;
      cookie_tie = same_tie;
      before = state;
      is = taken_too ps k x z p r checksum other n.mine n.peer n.tie n.cookie_tie n.is t.tie t.state law packing quiet t.context none numbers tag i.initiate_tag tie same_tie
          state chunks (init_ack i received_alone ack_is);
      tags = λ stand. tags_after call tag i.initiate_tag (guides tag) x.end (subst (TagsAre tag i.initiate_tag) (sym waits) refl);
      ties = inl refl;
      drew = λ receives closed. absurd (both_ways (receives_init call) silent receives);
    }

-- ---- an end with a control block does nothing with it

abbrev at_state : State → Context Carried → Stream → Endpoint Carried
at_state s c w = record { endpoint_state = record { state = s; context = c }; draws = w }

any_ack : (tag : ℕ) (i j : InitTree) (s : State) (c : Context Carried) (w : Stream) → is_opened s ≡ true
    → on_chunks tag (init_ack_chunk i ∷ []) (at_state s c w) ≡ on_chunks tag (init_ack_chunk j ∷ []) (at_state s c w)
any_ack tag i j Closed c w h = cc
any_ack tag i j (CookieWait own first t1) c w h = cc
any_ack tag i j (Open phase t) c w h = any_taken (packet_refusal tag (init_ack_chunk i ∷ []) (Open phase t))
  where
    any_taken : (r : Option (List ℕ)) → packet_unless r tag (init_ack_chunk i ∷ []) (count_packet_at (at_state (Open phase t) c w))
        ≡ packet_unless r tag (init_ack_chunk j ∷ []) (count_packet_at (at_state (Open phase t) c w))
    any_taken None = refl
    any_taken (Some text) = refl

opened_named : (n : Names) (s : State) → is_opened (named_state n s) ≡ is_opened s
opened_named n Closed = refl
opened_named n (CookieWait tag first t1) = refl
opened_named n (Open phase t) = refl

-- an association that stands has its tags
pub stand_tags : (s u : State) → Stand s u → is_opened s ≡ true → TagsAre (my_tag s) (peer_in s) u
stand_tags Closed u f h = cc
stand_tags (CookieWait tag first t1) u f h = cc
stand_tags (Open phase t) Closed f h = let none = f (held_by t) refl in cc
stand_tags (Open phase t) (CookieWait tag first t1) f h = let none = f (held_by t) refl in cc
stand_tags (Open phase t) (Open next v) f h =
    let same : held_by v ≡ held_by t = same_Some (held_by v) (held_by t) (f (held_by t) refl) in
    (ap (λ (a : Association). a.my_tag) same, ap (λ (a : Association). a.peer_tag) same)

does_nothing : (n : Names) (i : InitTree) (s : State) (w v : Stream) → is_opened s ≡ true → InitAckIsNamed n i s w v
does_nothing n i Closed w v h = cc
does_nothing n i (CookieWait tag first t1) w v h = cc
does_nothing n i (Open phase t) w v h = tt

module _ (ps : List (Drawn × Drawn)) (k : Knows ps) (law : EachCallIsNamed) (x y z : Side) (t : Twin ps x y z) (p r : Carried)
    (checksum other : ℕ) (packing : x.end.endpoint_state.context.pack ≡ as_carried) (quiet : x.end.endpoint_state.context.emitted.events ≡ []) (i : InitTree)
    (n : IsNamedBy ps (state_of y) (state_of x) p r) (alone : p.chunks ≡ init_ack_chunk i ∷ [])
    (none : packet_refusal p.header.verification_tag (map carried p.chunks) (state_of x) ≡ None) (numbers : NumbersFitIn (state_of x)) (opened : is_opened (state_of x) ≡ true) where
  pub ack_unheard : Named ps x z (state_of y) (ReceivePacket (as_received p checksum)) (called (ReceivePacket (as_received r other)) z.end)
  ack_unheard =
      let s : State = state_of x in
      let tag : ℕ = p.header.verification_tag in
      let l : Names = names ps n.mine n.peer n.tie n.cookie_tie in
      let m : Names = names_in ps s t.tie in
      let e : Endpoint Carried = z.end in
      let is_received : map carried p.chunks ≡ init_ack_chunk i ∷ [] = ap (λ (cs : List ChunkTree). map carried cs) alone in
      let open_too : is_opened (state_of z) ≡ true = ap is_opened t.state ∙ (opened_named m s ∙ opened) in
      let first : map carried (named_chunks l p.chunks) ≡ init_ack_chunk (named_init l i) ∷ [] =
      ap (λ (cs : List ChunkTree). map carried (named_chunks l cs)) alone in
      let second : named_chunks (flip m) (map carried p.chunks) ≡ init_ack_chunk (named_init (flip m) i) ∷ [] =
      ap (λ (cs : List ChunkTree). named_chunks (flip m) cs) is_received in
      let does : (on_chunks (l.tag tag) (map carried (named_chunks l p.chunks)) e).endpoint_state ≡ (on_chunks (l.tag tag) (named_chunks (flip m) (map carried p.chunks)) e).endpoint_state =
      ap (λ (cs : List ChunkTree). (on_chunks (l.tag tag) cs e).endpoint_state) first
      ∙ (ap (λ (f : Endpoint Carried). f.endpoint_state) (any_ack (l.tag tag) (named_init l i) (named_init (flip m) i) (state_of z) e.endpoint_state.context e.draws open_too)
      ∙ sym (ap (λ (cs : List ChunkTree). (on_chunks (l.tag tag) cs e).endpoint_state) second)) in
      record {
        mine = my_tag s;
        peer = peer_in s;
        tie = t.tie;
        cookie_tie = same_tie;
        before = t.state;
        is = taken_as ps k x z p r checksum other n.mine n.peer n.tie n.cookie_tie n.is t.tie t.state law packing quiet t.context none numbers (my_tag s) (peer_in s) t.tie same_tie
            t.state does (init_ack i is_received (does_nothing m i s x.end.draws z.end.draws opened));
        tags = λ stand. stand_tags s (called (ReceivePacket (as_received p checksum)) x.end).endpoint_state.state stand opened;
        ties = inl refl;
        drew = λ receives closed.
            let silent : receives_init (ReceivePacket (as_received p checksum)) ≡ false =
            ap (λ (cs : List ChunkTree). receives_init (ReceivePacket (record (as_received p checksum) { chunks = cs }))) is_received in
            absurd (both_ways (receives_init (ReceivePacket (as_received p checksum))) silent receives);
      }
