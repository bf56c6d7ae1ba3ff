-- A packet of the other end, given to an end and its image to the image: whatever it is, both do the same under the names of one call.
use Rattle.std.proofs.Common.{◌≡◌, ℕ, true, false, Option, Some, None, List, [], ◌∷◌, map, All, ◌⊎◌, inl, inr, refl, sym, ap, subst, ◌∙◌}
use Rattle.std.proofs.lemmas.List.Elements.{All-head}
use Rattle.rand_core.specs.Stream.{Stream}
use Rattle.sctp_packet.specs.Chunk.{ChunkTree, InitTree, init_chunk, init_ack_chunk, cookie_echo_chunk}
use Rattle.sctp_packet.specs.Grammar.{carried}
use Rattle.sctp_state.specs.Options.{Options}
use Rattle.spec_endpoint.specs.Association.{Tcb, Phase, CookieEchoed, Established, ShutdownPending, ShutdownSent, ShutdownReceived, ShutdownAckSent, State, Closed, CookieWait, Open, Context, Endpoint}
use Rattle.spec_endpoint.specs.Sending.{is_before_cookie_ack}
use Rattle.spec_endpoint.specs.Input.{packet_refusal, count_packet_at, in_endpoint_state, repeats_if, has_data_chunk}
use Rattle.spec_endpoint.specs.Laws.{Call, ReceivePacket, called}
use Rattle.proof_endpoint.specs.Mapped.{Carried}
use Rattle.proof_endpoint.specs.Acts.{is_opened}
use Rattle.proof_pair.specs.Trace.{Side, AreValidOptions, as_received, state_of}
use Rattle.proof_pair.specs.Agreement.{Draw as Drawn, Has, drawn_receiving, drawn_taking, drawn_given}
use Rattle.proof_pair.proofs.JoinLemmas.{Draw, IsDraw, view_of, IsInit, IsInitAck, IsEcho, Says, Drawn as IsDrawn, Faces}
use Rattle.proof_pair.proofs.TraceLemmas.{SaysAll, seen, Halves}
use Rattle.proof_draws.specs.NamedChunks.{Names, named_init, named_chunks}
use Rattle.proof_draws.specs.Names.{named_state}
use Rattle.proof_draws.specs.Laws.{NumbersFitIn}
use Rattle.proof_draws.specs.NamedCalls.{EachCallIsNamed}
use Rattle.proof_draws.specs.Pairing.{names, pairs_of, Knows}
use Rattle.proof_draws.specs.Kinds.{IsKind, an_init, an_answer, an_echo, a_flow}
use Rattle.proof_draws.proofs.NamesLemmas.{names_in}
use Rattle.proof_draws.proofs.TwinLemmas.{HoldsOne, IsTaken, Marked, Twin, IsNamedBy}
use Rattle.proof_draws.proofs.StepLemmas.{two_of, Named, Outcome}
use Rattle.proof_draws.proofs.ReceivedLemmas.{refused_too, refused_as_well}
use Rattle.proof_draws.proofs.FlowLemmas.{faced_tags, flow_named}
use Rattle.proof_draws.proofs.EchoLemmas.{echo_named}
use Rattle.proof_draws.proofs.AckLemmas.{ack_named, ack_unheard}
use Rattle.proof_draws.proofs.InitLemmas.{closed_named, waiting_named, echoing_named}

-- ---- what a closed end draws for an INIT

abbrev at_state : State → Context Carried → Stream → Endpoint Carried
at_state s c w = record { endpoint_state = record { state = s; context = c }; draws = w }

drew_two : (p : Carried) (checksum : ℕ) (x : Side) (i : InitTree) → map carried p.chunks ≡ init_chunk i ∷ []
    → packet_refusal p.header.verification_tag (map carried p.chunks) (state_of x) ≡ None → state_of x ≡ Closed → drawn_given (Some p) checksum x ≡ two_of x.end ∷ []
drew_two p checksum x i alone none closed =
    let tag : ℕ = p.header.verification_tag in
    let e : Endpoint Carried = count_packet_at x.end in
    ap (λ (r : Option (List ℕ)). drawn_taking r (as_received p checksum) x.end) none
    ∙ (ap (λ (cs : List ChunkTree). drawn_receiving tag cs (in_endpoint_state (repeats_if (has_data_chunk cs)) e)) alone
    ∙ ap (λ (s : State). drawn_receiving tag (init_chunk i ∷ []) (at_state s e.endpoint_state.context e.draws)) closed)

pub two_paired : (ps : List (Drawn × Drawn)) (xs ys : List Drawn) (a b : Drawn) → xs ≡ a ∷ [] → ys ≡ b ∷ []
    → ((d e : Drawn) → Has (d, e) (pairs_of xs ys) → Has (d, e) ps) → Has (a, b) ps
two_paired ps xs ys a b f g h =
    h a b (subst (λ (zs : List Drawn). Has (a, b) (pairs_of zs ys)) (sym f) (subst (λ (zs : List Drawn). Has (a, b) (pairs_of (a ∷ []) zs)) (sym g) (inl refl)))

-- ---- reading what two ends know

pub draw_is : (o : Options) (s : State) (d : Draw) → (view_of s).mine ≡ Some d → IsDrawn (view_of s).mine → IsDraw d
draw_is o s d e h = subst IsDrawn e h

waits_not : (s : State) (d : Draw) → (view_of s).mine ≡ Some d → s ≡ Closed → ⊥
waits_not s d e is = let no : None ≡ Some d = sym (ap (λ (z : State). (view_of z).mine) is) ∙ e in cc

open_at : (s : State) → HoldsOne s → is_opened s ≡ true
open_at Closed h = let none = h.held in cc
open_at (CookieWait tag first t1) h = let none = h.held in cc
open_at (Open phase t) h = refl

pub peer_at : (s : State) (phase : Phase) (u : Tcb) (m : Option Draw) (d : Draw) → s ≡ Open phase u → m ≡ Some d → Faces (view_of s).holds m → u.identity.peer_tag ≡ d.tag
peer_at s phase u m d e f h =
    let here : Faces (view_of (Open phase u)).holds (Some d) =
    subst (λ (n : Option Draw). Faces (view_of (Open phase u)).holds n) f (subst (λ (z : State). Faces (view_of z).holds m) e h) in
    sym (ap (λ (x : Draw). x.tag) here)

module _ (ps : List (Drawn × Drawn)) (k : Knows ps) (law : EachCallIsNamed) (o q : Options) (given : AreValidOptions q) (x y z v : Side) (h : Halves o q x y)
    (t : Twin ps x y z) (p r : Carried) (checksum other : ℕ) (n : IsNamedBy ps (state_of y) (state_of x) p r)
    (says : SaysAll q o (seen y) (seen x) y.got_init p)
    (numbers : NumbersFitIn (state_of x))
    (late : (i : InitTree) → p.chunks ≡ init_chunk i ∷ [] → packet_refusal p.header.verification_tag (map carried p.chunks) (state_of x) ≡ None
    → (phase : Phase) (u : Tcb) → state_of x ≡ Open phase u → is_before_cookie_ack phase ≡ false → Named ps x z (state_of y) (ReceivePacket (as_received p checksum)) (called (ReceivePacket (as_received r other)) z.end))
    (pair : (d e : Drawn) → Has (d, e) (pairs_of (drawn_given (Some p) checksum x) (drawn_given (Some r) other z)) → Has (d, e) ps) where
  abbrev tag : ℕ
  tag = p.header.verification_tag

  abbrev received : List ChunkTree
  received = map carried p.chunks

  abbrev u : State
  u = state_of y

  abbrev call : Call
  call = ReceivePacket (as_received p checksum)

  abbrev f : Endpoint Carried
  f = called (ReceivePacket (as_received r other)) z.end

  abbrev Marks : ChunkTree → Type 0
  Marks c = Marked u (state_of x) n.mine n.peer n.cookie_tie c

  abbrev SaysThis : ChunkTree → Type 0
  SaysThis c = Says q o (seen y) (seen x) y.got_init tag c

  first_of : (P : ChunkTree → Type 0) (c : ChunkTree) (cs : List ChunkTree) → p.chunks ≡ c ∷ cs → All P p.chunks → P c
  first_of P c cs e all = All-head P c cs (subst (All P) e all)

  module _ (none : packet_refusal tag received (state_of x) ≡ None) where
    -- ---- INIT

    closed_pair : (i : InitTree) → p.chunks ≡ init_chunk i ∷ [] → state_of x ≡ Closed → Has (two_of x.end, two_of z.end) ps
    closed_pair i alone closed =
        let l : Names = names ps n.mine n.peer n.tie n.cookie_tie in
        let first : received ≡ init_chunk i ∷ [] = ap (λ (cs : List ChunkTree). map carried cs) alone in
        let second : map carried r.chunks ≡ init_chunk (named_init l i) ∷ [] =
        ap (λ (a : Carried). map carried a.chunks) n.is ∙ ap (λ (cs : List ChunkTree). map carried (named_chunks l cs)) alone in
        let closed_too : state_of z ≡ Closed = t.state ∙ ap (λ (s : State). named_state (names_in ps s t.tie) s) closed in
        two_paired ps (drawn_given (Some p) checksum x) (drawn_given (Some r) other z) (two_of x.end) (two_of z.end)
        (drew_two p checksum x i first none closed)
        (drew_two r other z (named_init l i) second (refused_as_well ps k x z p r checksum other n.mine n.peer n.tie n.cookie_tie n.is t.tie t.state none) closed_too)
        pair

    init_by_state : (i : InitTree) (s : State) → state_of x ≡ s → p.chunks ≡ init_chunk i ∷ [] → IsInit q (seen y) tag i → i.initiate_tag ≡ n.mine → Named ps x z u call f
    init_by_state i Closed is alone said mark =
        closed_named ps k law o q given x y z t p r checksum other h.own.packing h.own.quiet i n alone none numbers said
        (draw_is q u said.draw said.own h.other.stands.draw) mark is (closed_pair i alone is)
    init_by_state i (CookieWait own first t1) is alone said mark =
        waiting_named ps k law o q given x y z t p r checksum other h.own.packing h.own.quiet i n alone none numbers said
        (draw_is q u said.draw said.own h.other.stands.draw) mark own first t1 is
        (subst (λ (s : State). IsDrawn (view_of s).mine) is h.own.stands.draw)
    init_by_state i (Open (CookieEchoed t1 cookie) b) is alone said mark =
        echoing_named ps k law o q given x y z t p r checksum other h.own.packing h.own.quiet i n alone none numbers said
        (draw_is q u said.draw said.own h.other.stands.draw) mark t1 cookie b is
        (subst (λ (s : State). IsDrawn (view_of s).mine) is h.own.stands.draw)
        (peer_at (state_of x) (CookieEchoed t1 cookie) b (seen y).mine said.draw is said.own h.own.stands.faces ∙ sym (ap (λ (j : InitTree). j.initiate_tag) said.is))
    init_by_state i (Open Established b) is alone said mark = late i alone none Established b is refl
    init_by_state i (Open ShutdownPending b) is alone said mark = late i alone none ShutdownPending b is refl
    init_by_state i (Open (ShutdownSent t2) b) is alone said mark = late i alone none (ShutdownSent t2) b is refl
    init_by_state i (Open ShutdownReceived b) is alone said mark = late i alone none ShutdownReceived b is refl
    init_by_state i (Open (ShutdownAckSent t2) b) is alone said mark = late i alone none (ShutdownAckSent t2) b is refl

    -- ---- INIT ACK

    ack_opened : (i : InitTree) → p.chunks ≡ init_ack_chunk i ∷ [] → is_opened (state_of x) ≡ true → Named ps x z u call f
    ack_opened i alone opened = ack_unheard ps k law x y z t p r checksum other h.own.packing h.own.quiet i n alone none numbers opened

    ack_by_state : (i : InitTree) (s : State) → state_of x ≡ s → p.chunks ≡ init_ack_chunk i ∷ [] → IsInitAck q o (seen y) (seen x) y.got_init i → IsTaken i n.mine n.cookie_tie
        → Named ps x z u call f
    ack_by_state i Closed is alone said mark = absurd (waits_not (state_of x) said.other said.to is)
    ack_by_state i (CookieWait own first t1) is alone said mark =
        ack_named ps k law o q x y z t p r checksum other h.own.packing h.own.quiet i n alone none numbers said mark own first t1 is
    ack_by_state i (Open phase b) is alone said mark = ack_opened i alone (ap is_opened is)

    ack_by : (i : InitTree) → p.chunks ≡ init_ack_chunk i ∷ [] → IsInitAck q o (seen y) (seen x) y.got_init i → HoldsOne (state_of x) ⊎ IsTaken i n.mine n.cookie_tie
        → Named ps x z u call f
    ack_by i alone said (inl one) = ack_opened i alone (open_at (state_of x) one)
    ack_by i alone said (inr mark) = ack_by_state i (state_of x) refl alone said mark

    -- ---- by kind

    by_kind : IsKind p.chunks → Named ps x z u call f
    by_kind (an_init i alone) =
        init_by_state i (state_of x) refl alone (first_of SaysThis (init_chunk i) [] alone says) (first_of Marks (init_chunk i) [] alone n.marks)
    by_kind (an_answer i alone) = ack_by i alone (first_of SaysThis (init_ack_chunk i) [] alone says) (first_of Marks (init_ack_chunk i) [] alone n.marks)
    by_kind (an_echo cookie rest begins flows) =
        let said : IsEcho q (seen y) tag cookie = first_of SaysThis (cookie_echo_chunk cookie) rest begins says in
        let mark = first_of Marks (cookie_echo_chunk cookie) rest begins n.marks in
        echo_named ps k law o q given x y z t p r checksum other h.own.packing h.own.quiet cookie rest n begins flows none numbers said mark
        (faced_tags (state_of x) u n.mine n.peer mark.holds h.own.stands.faced h.own.stands.faces)
    by_kind (a_flow flows) = flow_named ps k law x y z t p r checksum other h.own.packing h.own.quiet none numbers n flows h.own.stands.faced h.own.stands.faces

  by_refusal : (a : Option (List ℕ)) → packet_refusal tag received (state_of x) ≡ a → IsKind p.chunks → Outcome ps x z u call f
  by_refusal None is kind = inl (by_kind is kind)
  by_refusal (Some text) is kind = inr (refused_too ps k x z p r checksum other n.mine n.peer n.tie n.cookie_tie n.is t.tie t.state text is)

  pub given_outcome : IsKind p.chunks → Outcome ps x z u call f
  given_outcome kind = by_refusal (packet_refusal tag received (state_of x)) refl kind
