-- An INIT: it is answered with the own draw, or with one that is drawn for it.
use Rattle.std.proofs.Common.{◌≡◌, ℕ, Bool, true, false, Option, None, List, [], ◌∷◌, map, All, inl, refl, sym, ap, subst, ◌∙◌}
use Rattle.std.proofs.lemmas.Bool.{both_ways}
use Rattle.std.proofs.lemmas.List.Elements.{All-nil, All-cons}
use Rattle.rand_core.specs.Stream.{Stream}
use Rattle.sctp_packet.specs.Chunk.{ChunkTree, InitTree, init_chunk, init_ack_chunk, cookie_echo_chunk}
use Rattle.sctp_packet.specs.Grammar.{carried}
use Rattle.sctp_state.specs.Options.{Options}
use Rattle.sctp_state.specs.Timer.{Timer}
use Rattle.spec_endpoint.specs.Association.{Tcb, Phase, CookieEchoed, Established, ShutdownPending, ShutdownSent, ShutdownReceived, ShutdownAckSent, State, Closed, CookieWait, Open, Context, Endpoint}
use Rattle.sctp_rx.specs.DataTracker.{is_ack_due}
use Rattle.spec_endpoint.specs.Sending.{take_due_ack}
use Rattle.spec_endpoint.specs.Opening.{tsn_from, tag_from, word, drew_word, cookie_for}
use Rattle.spec_endpoint.specs.Input.{packet_refusal, count_packet_at, packet_unless, in_endpoint_state, repeats_if, receive_all, on_accepted_packet, ack_if_due, at_end, shut_if, on_packet_end}
use Rattle.spec_endpoint.specs.Laws.{Call, ReceivePacket, called, is_closed}
use Rattle.proof_endpoint.specs.Mapped.{Carried, as_carried}
use Rattle.proof_pair.specs.Trace.{Side, AreValidOptions, as_received, state_of}
use Rattle.proof_pair.specs.Agreement.{Draw as Drawn, Has}
use Rattle.proof_pair.proofs.JoinLemmas.{Draw, IsDraw, drawn_is, init_by, cookie_by, IsInit}
use Rattle.proof_pair.proofs.TraceLemmas.{seen}
use Rattle.proof_draws.specs.NamedChunks.{Names, flip, named_init, named_chunks}
use Rattle.proof_draws.specs.Names.{named_state}
use Rattle.proof_draws.specs.Laws.{NumbersFitIn, Makes}
use Rattle.proof_draws.specs.NamedCalls.{KnowsAnswer, InitIsNamed, init, EachCallIsNamed}
use Rattle.proof_draws.specs.Pairing.{far, names, Knows}
use Rattle.proof_draws.proofs.NamesLemmas.{same_tie, TagsAre, state_by, makes}
use Rattle.proof_draws.proofs.TwinLemmas.{Twin, IsNamedBy}
use Rattle.proof_draws.proofs.ChunkLemmas.{init_received}
use Rattle.proof_draws.proofs.GuideLemmas.{Guides, tags_after}
use Rattle.proof_draws.proofs.StepLemmas.{drawn_tag, two_of, Named}
use Rattle.proof_draws.proofs.ReceivedLemmas.{all_received, taken_too}
use Rattle.proof_draws.proofs.EchoLemmas.{cookie_made}

-- ---- an end that receives an INIT alone keeps its state

ended_by : (avoids b : Bool) (phase : Phase) (t : Tcb) (c : Context Carried) → is_closed (shut_if avoids (ack_if_due b phase t c)).state ≡ false
ended_by true true phase t c = refl
ended_by true false phase t c = refl
ended_by false true phase t c = refl
ended_by false false phase t c = refl

pub ended_stays : (phase : Phase) (t : Tcb) (c : Context Carried) → is_closed (on_packet_end phase t c).state ≡ false
ended_stays phase t c = let u : Tcb = at_end c.now t in ended_by c.options.avoid_stalls (is_ack_due false u.tracker.tracker.ack) phase (take_due_ack false u) c

abbrev pub at_state : State → Context Carried → Stream → Endpoint Carried
at_state s c w = record { endpoint_state = record { state = s; context = c }; draws = w }

-- the context once it was received
abbrev pub init_received_in : (tag : ℕ) → InitTree → State → Context Carried → Stream → Context Carried
init_received_in tag i s c w = (receive_all tag (init_chunk i ∷ []) (in_endpoint_state (repeats_if false) (at_state s c w))).endpoint_state.context

module _ (tag : ℕ) (i : InitTree) where
  pub init_leaves : (s : State) (c : Context Carried) (w : Stream) → is_closed s ≡ false
      → is_closed (on_accepted_packet tag (init_chunk i ∷ []) (at_state s c w)).endpoint_state.state ≡ false
  init_leaves Closed c w h = cc
  init_leaves (CookieWait own first t1) c w h = refl
  init_leaves (Open (CookieEchoed t1 cookie) t) c w h = ended_stays (CookieEchoed t1 cookie) t (init_received_in tag i (Open (CookieEchoed t1 cookie) t) c w)
  init_leaves (Open Established t) c w h = ended_stays Established t (init_received_in tag i (Open Established t) c w)
  init_leaves (Open ShutdownPending t) c w h = ended_stays ShutdownPending t (init_received_in tag i (Open ShutdownPending t) c w)
  init_leaves (Open (ShutdownSent t2) t) c w h = ended_stays (ShutdownSent t2) t (init_received_in tag i (Open (ShutdownSent t2) t) c w)
  init_leaves (Open ShutdownReceived t) c w h = ended_stays ShutdownReceived t (init_received_in tag i (Open ShutdownReceived t) c w)
  init_leaves (Open (ShutdownAckSent t2) t) c w h = ended_stays (ShutdownAckSent t2) t (init_received_in tag i (Open (ShutdownAckSent t2) t) c w)

-- the one chunk of such a packet
abbrev pub IsThat : ChunkTree → Type 0
IsThat (init_chunk i) = Unit {0}
IsThat (init_ack_chunk i) = ⊥
IsThat (cookie_echo_chunk c) = ⊥
IsThat chunk = Unit {0}

module _ (ps : List (Drawn × Drawn)) (k : Knows ps) (law : EachCallIsNamed) (o q : Options) (given : AreValidOptions q) (x y z : Side) (t : Twin ps x y z) (p r : Carried)
    (checksum other : ℕ) (packing : x.end.endpoint_state.context.pack ≡ as_carried) (quiet : x.end.endpoint_state.context.emitted.events ≡ []) (i : InitTree)
    (n : IsNamedBy ps (state_of y) (state_of x) p r) (alone : p.chunks ≡ init_chunk i ∷ [])
    (none : packet_refusal p.header.verification_tag (map carried p.chunks) (state_of x) ≡ None) (numbers : NumbersFitIn (state_of x)) (said : IsInit q (seen y) p.header.verification_tag i)
    (peer_is : IsDraw said.draw) (mark : i.initiate_tag ≡ n.mine) where
  abbrev call : Call
  call = ReceivePacket (as_received p checksum)

  abbrev f : Endpoint Carried
  f = called (ReceivePacket (as_received r other)) z.end

  abbrev received : List ChunkTree
  received = map carried p.chunks

  received_alone : received ≡ init_chunk i ∷ []
  received_alone = ap (λ (cs : List ChunkTree). map carried cs) alone

  guides : (mine peer : ℕ) → Guides call mine peer
  guides mine peer =
      let all : All IsThat received = subst (All IsThat) (sym received_alone) (All-cons IsThat (init_chunk i) [] tt (All-nil IsThat)) in
      record {
        answers = λ tag j h. absurd (all_received IsThat (as_received p checksum) all tag (init_ack_chunk j) h);
        own = λ tag c e. absurd (all_received IsThat (as_received p checksum) all tag (cookie_echo_chunk e.cookie) e.received);
        other = λ tag c e. absurd (all_received IsThat (as_received p checksum) all tag (cookie_echo_chunk e.cookie) e.received);
        connects = λ e. cc;
        restores = λ h e. cc;
      }

  -- an end that isn't closed isn't closed by it
  stays_open : is_closed (state_of x) ≡ false → is_closed (called call x.end).endpoint_state.state ≡ false
  stays_open h =
      let tag : ℕ = p.header.verification_tag in
      let e : Endpoint Carried = count_packet_at x.end in
      ap (λ (a : Option (List ℕ)). is_closed (packet_unless a tag received e).endpoint_state.state) none
      ∙ (ap (λ (cs : List ChunkTree). is_closed (on_accepted_packet tag cs e).endpoint_state.state) received_alone
      ∙ init_leaves tag i (state_of x) e.endpoint_state.context e.draws h)

  -- answered with this draw
  module _ (own : Draw) (own_is : IsDraw own) (tags : TagsAre own.tag i.initiate_tag (state_of x)) where
    abbrev m : Names
    m = names ps own.tag i.initiate_tag t.tie same_tie

    state : state_of z ≡ named_state m (state_of x)
    state = t.state ∙ state_by ps own.tag i.initiate_tag t.tie (state_of x) tags

    chunks : map carried (named_chunks (names ps n.mine n.peer n.tie n.cookie_tie) p.chunks) ≡ named_chunks (flip m) received
    chunks =
        let l : Names = names ps n.mine n.peer n.tie n.cookie_tie in
        let same : (j : InitTree) → j ≡ init_by q said.draw → far ps n.mine ≡ far ps i.initiate_tag → named_init l j ≡ named_init (flip m) j =
        λ j is far_is. subst (λ (h : InitTree). named_init l h ≡ named_init (flip m) h) (sym is)
        (init_received l (flip m) q said.draw.tag said.draw.first q.zero_checksum_method refl far_is) in
        ap (λ (cs : List ChunkTree). map carried (named_chunks l cs)) alone
        ∙ (ap (λ (j : InitTree). init_chunk j ∷ []) (same i said.is (ap (λ (a : ℕ). far ps a) (sym mark)))
        ∙ sym (ap (λ (cs : List ChunkTree). named_chunks (flip m) cs) received_alone))

    -- the cookie of the answer
    makes_cookie : Makes m (cookie_for i own.tag own.first 0)
    makes_cookie =
        subst (λ (j : InitTree). far ps j.initiate_tag ≡ far ps i.initiate_tag → Makes m (cookie_for j own.tag own.first 0)) (sym said.is)
        (λ same. makes ps k own.tag i.initiate_tag t.tie same_tie (cookie_by q said.draw own) (record { own = refl; other = same })
        (cookie_made q said.draw own given peer_is own_is ps k own.tag i.initiate_tag t.tie same_tie)) refl

    pub answer_known : KnowsAnswer m i own.tag own.first 0 0
    answer_known = record { makes = makes_cookie; cookie_tie = refl }

    pub init_named : InitIsNamed m i (state_of x) x.end.draws z.end.draws → (is_closed (state_of x) ≡ true → drawn_tag x.end ≡ own.tag)
        → Named ps x z (state_of y) call f
    init_named is drew = record {
      mine = own.tag;
      peer = i.initiate_tag;
      tie = t.tie;
      cookie_tie = same_tie;
      before = state;
      is = taken_too ps k x z p r checksum other n.mine n.peer n.tie n.cookie_tie n.is t.tie t.state law packing quiet t.context none numbers own.tag i.initiate_tag t.tie same_tie
          state chunks (init i received_alone is);
      tags = λ stand. tags_after call own.tag i.initiate_tag (guides own.tag i.initiate_tag) x.end tags;
      ties = inl refl;
      drew = λ receives closed. drew_before closed (is_closed (state_of x)) refl;
    }
      where
        drew_before : is_closed (called call x.end).endpoint_state.state ≡ true → (b : Bool) → is_closed (state_of x) ≡ b → drawn_tag x.end ≡ own.tag
        drew_before closed true e = drew e
        drew_before closed false e = absurd (both_ways (is_closed (called call x.end).endpoint_state.state) (stays_open e) closed)

  -- ---- by what the end is

  pub closed_named : state_of x ≡ Closed → Has (two_of x.end, two_of z.end) ps → Named ps x z (state_of y) call f
  closed_named is there =
      let own : Draw = record { tag = tag_from (word (drew_word x.end)); first = tsn_from (word x.end) } in
      let mine : Drawn = two_of x.end in
      let theirs : Drawn = two_of z.end in
      let own_is : IsDraw own = drawn_is (word x.end) (word (drew_word x.end)) in
      let tags : TagsAre own.tag i.initiate_tag (state_of x) = subst (TagsAre own.tag i.initiate_tag) (sym is) tt in
      init_named own own_is tags
      (subst (λ (s : State). InitIsNamed (names ps own.tag i.initiate_tag t.tie same_tie) i s x.end.draws z.end.draws) (sym is)
      (record {
        draws = record { first = sym (k.firsts mine theirs there); tag = sym (k.tags mine theirs there) };
        knows = answer_known own own_is tags;
      })) (λ closed. refl)

  pub waiting_named : (tag first : ℕ) (t1 : Timer) → state_of x ≡ CookieWait tag first t1 → IsDraw (record { tag = tag; first = first })
      → Named ps x z (state_of y) call f
  waiting_named tag first t1 is own_is =
      let own : Draw = record { tag = tag; first = first } in
      let tags : TagsAre own.tag i.initiate_tag (state_of x) = subst (TagsAre own.tag i.initiate_tag) (sym is) refl in
      init_named own own_is tags
      (subst (λ (s : State). InitIsNamed (names ps own.tag i.initiate_tag t.tie same_tie) i s x.end.draws z.end.draws) (sym is) (answer_known own own_is tags))
      (λ closed. absurd (both_ways (is_closed (state_of x)) (ap is_closed is) closed))

  pub echoing_named : (t1 : Timer) (cookie : List ℕ) (u : Tcb) → state_of x ≡ Open (CookieEchoed t1 cookie) u
      → IsDraw (record { tag = u.identity.my_tag; first = u.identity.my_first }) → u.identity.peer_tag ≡ i.initiate_tag → Named ps x z (state_of y) call f
  echoing_named t1 cookie u is own_is peer =
      let own : Draw = record { tag = u.identity.my_tag; first = u.identity.my_first } in
      let tags : TagsAre own.tag i.initiate_tag (state_of x) = subst (TagsAre own.tag i.initiate_tag) (sym is) (refl, peer) in
      init_named own own_is tags
      (subst (λ (s : State). InitIsNamed (names ps own.tag i.initiate_tag t.tie same_tie) i s x.end.draws z.end.draws) (sym is) (answer_known own own_is tags))
      (λ closed. absurd (both_ways (is_closed (state_of x)) (ap is_closed is) closed))
