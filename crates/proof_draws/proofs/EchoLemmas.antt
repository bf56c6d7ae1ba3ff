-- A COOKIE ECHO, with what stands behind it: it brings back the cookie of the association that its sender holds.
use Rattle.std.proofs.Common.{◌≡◌, ℕ, ◌==◌, ◌^◌, ◌<◌, not, Bool, true, false, Some, None, Ok, List, [], ◌∷◌, map, All, inl, refl, sym, ap, subst, ◌∙◌, arith}
use Rattle.std.specs.List.{list_all}
use Rattle.std.proofs.lemmas.Bool.{both_ways, eq-eqb}
use Rattle.std.proofs.lemmas.List.Elements.{All-cons, All-weaker}
use Rattle.std.proofs.lemmas.Option.{same_Some}
use Rattle.sctp_serial.specs.Unwrapped.{u32_space}
use Rattle.rand_core.specs.Stream.{next_u64}
use Rattle.sctp_packet.specs.Chunk.{ChunkTree, init_ack_chunk, cookie_echo_chunk}
use Rattle.sctp_packet.specs.Grammar.{carried}
use Rattle.sctp_state.specs.Options.{Options}
use Rattle.sctp_capabilities.specs.StateCookie.{Cookie, read_cookie}
use Rattle.spec_endpoint.specs.Association.{Phase, Tcb, Identity, State, Closed, CookieWait, Open, Endpoint}
use Rattle.spec_endpoint.specs.Shown.{Association}
use Rattle.spec_endpoint.specs.Opening.{by_tags, resolve_by_tags, resolve_cookie}
use Rattle.spec_endpoint.specs.Input.{packet_refusal}
use Rattle.spec_endpoint.specs.Laws.{Call, ReceivePacket, called}
use Rattle.proof_endpoint.specs.Mapped.{Carried, as_carried}
use Rattle.proof_endpoint.specs.Acts.{IsEchoed}
use Rattle.proof_pair.specs.Trace.{Side, AreValidOptions, as_received, state_of}
use Rattle.proof_pair.specs.Agreement.{Draw as Drawn}
use Rattle.proof_pair.proofs.JoinLemmas.{Draw, Both, IsDraw, view_of, cookie_by, IsEcho}
use Rattle.proof_pair.proofs.TraceLemmas.{seen}
use Rattle.proof_pair.proofs.JoinKeepsLemmas.{read_back, cookie_fits, eq_test}
use Rattle.proof_draws.specs.NamedChunks.{Names}
use Rattle.proof_draws.specs.Names.{named_state}
use Rattle.proof_draws.specs.Laws.{NumbersFitIn, TiesTell, is_flowing}
use Rattle.proof_draws.specs.NamedCalls.{read_under, is_new, CookieIsNamed, cookie_echo, EachCallIsNamed}
use Rattle.proof_draws.specs.Pairing.{far, names, Knows}
use Rattle.proof_draws.proofs.NamesLemmas.{TagsAre, state_by, IsOwn, Made, reads}
use Rattle.proof_draws.proofs.TwinLemmas.{Holds, IsEchoing, Twin, IsNamedBy}
use Rattle.proof_draws.proofs.ChunkLemmas.{chunks_received, all_flow_carried}
use Rattle.proof_draws.proofs.GuideLemmas.{Guides, tags_after}
use Rattle.proof_draws.proofs.StepLemmas.{receives_init, Named}
use Rattle.proof_draws.proofs.ReceivedLemmas.{all_received, taken_too}
use Rattle.proof_draws.proofs.FlowLemmas.{held_by, all_true}

-- ---- the cookie

pub cookie_made : (o : Options) (d e : Draw) → AreValidOptions o → IsDraw d → IsDraw e → (ps : List (Drawn × Drawn)) (k : Knows ps) (mine peer : ℕ) (tie cookie_tie : ℕ → ℕ)
    → Made ps k mine peer tie cookie_tie (cookie_by o d e)
cookie_made o d e fine fd fe ps k mine peer tie cookie_tie = record { fits = cookie_fits o d e fine fd fe; some_peer = fd.some; some_own = fe.some }

-- ---- no association takes the place of another

kept_by : (a b x y : Bool) → a ≡ false → b ≡ false → is_new (by_tags a b x y) ≡ false
kept_by false false x y e f = refl
kept_by true b x y e f = cc
kept_by false true x y e f = cc

kept_association : (tag : ℕ) (i : Identity) (k : Cookie) → tag ≡ i.my_tag → k.peer_tag ≡ i.peer_tag → is_new (resolve_by_tags tag i k) ≡ false
kept_association tag i k e f =
    kept_by (not (tag == i.my_tag)) (not (k.peer_tag == i.peer_tag)) (k.tie_tag == i.tie) (k.tie_tag == 0) (eq_test tag i.my_tag e) (eq_test k.peer_tag i.peer_tag f)

-- the tie that is drawn where a control block is made; else ties are as they were
abbrev pub pick : State → (ℕ → ℕ) → ℕ → ℕ → ℕ
pick Closed tie new old = new
pick (CookieWait tag first t1) tie new old = new
pick (Open phase t) tie new old = tie old

pub picked : (ps : List (Drawn × Drawn)) (mine peer : ℕ) (tie cookie_tie : ℕ → ℕ) (new : ℕ) (s : State)
    → named_state (names ps mine peer tie cookie_tie) s ≡ named_state (names ps mine peer (pick s tie new) cookie_tie) s
picked ps mine peer tie cookie_tie new Closed = refl
picked ps mine peer tie cookie_tie new (CookieWait tag first t1) = refl
picked ps mine peer tie cookie_tie new (Open phase t) = refl

draws_by : (tag : ℕ) (k : Cookie) (s : State) (tie : ℕ → ℕ) (new old : ℕ) → ((phase : Phase) (t : Tcb) → s ≡ Open phase t → is_new (resolve_by_tags tag t.identity k) ≡ false)
    → is_new (resolve_cookie false tag k s) ≡ true → new ≡ pick s tie new old
draws_by tag k Closed tie new old f h = refl
draws_by tag k (CookieWait own first t1) tie new old f h = refl
draws_by tag k (Open phase t) tie new old f h = absurd (both_ways (is_new (resolve_by_tags tag t.identity k)) (f phase t refl) h)

-- the association that is held, seen either way
both_tags_held : (s : State) (mine peer : ℕ) (b : Both) → Holds s mine peer → (view_of s).holds ≡ Some b → (b.mine.tag ≡ mine) × (b.peer.tag ≡ peer)
both_tags_held Closed mine peer b h e = cc
both_tags_held (CookieWait tag first t1) mine peer b h e = cc
both_tags_held (Open phase t) mine peer b h e =
    let same : held_by t ≡ h.association = same_Some (held_by t) h.association h.held in
    let view : _ ≡ b = same_Some (record {
      mine = record { tag = t.identity.my_tag; first = t.identity.my_first };
      peer = record { tag = t.identity.peer_tag; first = t.identity.peer_first };
    }) b e in (
      sym (ap (λ (z : Both). z.mine.tag) view) ∙ (ap (λ (a : Association). a.my_tag) same ∙ h.own),
      sym (ap (λ (z : Both). z.peer.tag) view) ∙ (ap (λ (a : Association). a.peer_tag) same ∙ h.other),
    )

tags_at : (mine peer : ℕ) (s : State) (phase : Phase) (t : Tcb) → s ≡ Open phase t → TagsAre mine peer s → (t.identity.my_tag ≡ mine) × (t.identity.peer_tag ≡ peer)
tags_at mine peer s phase t e h = subst (TagsAre mine peer) e h

-- the chunks of such a packet: this cookie, and what flows
abbrev IsThat : List ℕ → ChunkTree → Type 0
IsThat cookie (cookie_echo_chunk c) = c ≡ cookie
IsThat cookie (init_ack_chunk i) = ⊥
IsThat cookie chunk = Unit {0}

flows_as_that : (cookie : List ℕ) (c : ChunkTree) → is_flowing c ≡ true → IsThat cookie c
flows_as_that cookie (cookie_echo_chunk c) h = cc
flows_as_that cookie (init_ack_chunk i) h = cc
flows_as_that cookie c h = tt

module _ (ps : List (Drawn × Drawn)) (k : Knows ps) (law : EachCallIsNamed) (o q : Options) (given : AreValidOptions q) (x y z : Side) (t : Twin ps x y z) (p r : Carried)
    (checksum other : ℕ) (packing : x.end.endpoint_state.context.pack ≡ as_carried) (quiet : x.end.endpoint_state.context.emitted.events ≡ []) (cookie : List ℕ)
    (rest : List ChunkTree) (n : IsNamedBy ps (state_of y) (state_of x) p r) (begins : p.chunks ≡ cookie_echo_chunk cookie ∷ rest)
    (flows : list_all is_flowing rest ≡ true) (none : packet_refusal p.header.verification_tag (map carried p.chunks) (state_of x) ≡ None) (numbers : NumbersFitIn (state_of x))
    (said : IsEcho q (seen y) p.header.verification_tag cookie) (echoing : IsEchoing (state_of y) n.mine n.peer n.cookie_tie) where
  abbrev call : Call
  call = ReceivePacket (as_received p checksum)

  abbrev f : Endpoint Carried
  f = called (ReceivePacket (as_received r other)) z.end

  abbrev received : List ChunkTree
  received = map carried p.chunks

  abbrev made : Cookie
  made = cookie_by q said.both.mine said.both.peer

  abbrev new_tie : ℕ → ℕ
  new_tie = pick (state_of x) t.tie (next_u64 z.end.draws).0

  received_begins : received ≡ cookie_echo_chunk cookie ∷ map carried rest
  received_begins = ap (λ (cs : List ChunkTree). map carried cs) begins

  rest_flows : list_all is_flowing (map carried rest) ≡ true
  rest_flows = all_flow_carried rest ∙ flows

  sender_tags : (said.both.mine.tag ≡ n.mine) × (said.both.peer.tag ≡ n.peer)
  sender_tags = both_tags_held (state_of y) n.mine n.peer said.both echoing.holds said.holds

  guides : Guides call n.peer n.mine
  guides =
      let all : All (IsThat cookie) received =
      subst (All (IsThat cookie)) (sym received_begins)
      (All-cons (IsThat cookie) (cookie_echo_chunk cookie) (map carried rest) refl
      (All-weaker (λ c. is_flowing c ≡ true) (IsThat cookie) (flows_as_that cookie) (map carried rest) (all_true is_flowing (map carried rest) rest_flows))) in
      let read : (tag : ℕ) (c : Cookie) → IsEchoed call tag c → c ≡ made =
      λ tag c e. read_back q said.both.mine said.both.peer cookie c given said.mine said.peer said.is
      (ap read_cookie (sym (all_received (IsThat cookie) (as_received p checksum) all tag (cookie_echo_chunk e.cookie) e.received)) ∙ e.reads) in
      record {
        answers = λ tag i h. absurd (all_received (IsThat cookie) (as_received p checksum) all tag (init_ack_chunk i) h);
        own = λ tag c e. ap (λ (d : Cookie). d.my_tag) (read tag c e) ∙ sender_tags.1;
        other = λ tag c e. ap (λ (d : Cookie). d.peer_tag) (read tag c e) ∙ sender_tags.0;
        connects = λ e. cc;
        restores = λ h e. cc;
      }

  silent : receives_init call ≡ false
  silent = ap (λ (cs : List ChunkTree). receives_init (ReceivePacket (record (as_received p checksum) { chunks = cs }))) received_begins

  module _ (tags : TagsAre n.peer n.mine (state_of x)) where
    abbrev m : Names
    m = names ps n.peer n.mine new_tie n.cookie_tie

    state : state_of z ≡ named_state m (state_of x)
    state =
        t.state
        ∙ (state_by ps n.peer n.mine t.tie (state_of x) tags
        ∙ (ap (λ (g : ℕ → ℕ). named_state (names ps n.peer n.mine t.tie g) (state_of x)) (sym echoing.tie)
        ∙ picked ps n.peer n.mine t.tie n.cookie_tie (next_u64 z.end.draws).0 (state_of x)))

    own_cookie : IsOwn ps k n.peer n.mine new_tie n.cookie_tie made
    own_cookie = record { own = ap (λ (tag : ℕ). far ps tag) sender_tags.1; other = ap (λ (tag : ℕ). far ps tag) sender_tags.0 }

    small : n.cookie_tie made.tie_tag < 2 ^ 64
    small = subst (λ (g : ℕ → ℕ). g 0 < 2 ^ 64) (sym echoing.tie) (omega arith)

    reads_too : read_cookie (m.cookie cookie) ≡ read_under m (read_cookie cookie)
    reads_too =
        subst (λ (c : List ℕ). read_cookie (m.cookie c) ≡ read_under m (read_cookie c)) (sym said.is)
        (reads ps k n.peer n.mine new_tie n.cookie_tie made own_cookie
        (cookie_made q said.both.mine said.both.peer given said.mine said.peer ps k n.peer n.mine new_tie n.cookie_tie) small)

    under_own : (phase : Phase) (u : Tcb) → state_of x ≡ Open phase u → p.header.verification_tag ≡ u.identity.my_tag
    under_own phase u e = said.under ∙ (sender_tags.1 ∙ sym (tags_at n.peer n.mine (state_of x) phase u e tags).0)

    keeps : (c : Cookie) → read_cookie cookie ≡ Ok c → (phase : Phase) (u : Tcb) → state_of x ≡ Open phase u
        → is_new (resolve_by_tags p.header.verification_tag u.identity c) ≡ false
    keeps c e phase u is =
        kept_association p.header.verification_tag u.identity c (under_own phase u is)
        (ap (λ (d : Cookie). d.peer_tag) (read_back q said.both.mine said.both.peer cookie c given said.mine said.peer said.is e)
        ∙ (sender_tags.0 ∙ sym (tags_at n.peer n.mine (state_of x) phase u is tags).1))

    echo_is : CookieIsNamed m p.header.verification_tag cookie (state_of x) x.end.draws z.end.draws
    echo_is = record {
      reads = reads_too;
      ties = λ c e phase u is. TiesTell.under_own (eq-eqb p.header.verification_tag u.identity.my_tag (under_own phase u is));
      draws = λ c e new. record {
        tie = draws_by p.header.verification_tag c (state_of x) t.tie (next_u64 z.end.draws).0 (next_u64 x.end.draws).0 (keeps c e) new;
      };
      first = λ c e. subst (λ (d : Cookie). d.my_initial_tsn < u32_space)
          (sym (read_back q said.both.mine said.both.peer cookie c given said.mine said.peer said.is e)) said.peer.first;
    }

    pub echo_named : Named ps x z (state_of y) call f
    echo_named = record {
      mine = n.peer;
      peer = n.mine;
      tie = new_tie;
      cookie_tie = n.cookie_tie;
      before = state;
      is = taken_too ps k x z p r checksum other n.mine n.peer n.tie n.cookie_tie n.is t.tie t.state law packing quiet t.context none numbers n.peer n.mine new_tie n.cookie_tie
          state (chunks_received ps n.mine n.peer n.tie new_tie n.cookie_tie p.chunks) (cookie_echo cookie (map carried rest) received_begins echo_is rest_flows);
      tags = λ stand. tags_after call n.peer n.mine guides x.end tags;
      ties = inl echoing.tie;
      drew = λ receives closed. absurd (both_ways (receives_init call) silent receives);
    }
