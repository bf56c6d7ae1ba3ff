-- An INIT that comes to an end with an established association: it is answered with a tag drawn for it and the association's tie.
use Rattle.std.proofs.Common.{◌≡◌, ◌≢◌, ℕ, ◌%◌, ◌^◌, ◌<◌, not, Bool, true, false, Option, Some, None, List, [], ◌∷◌, map, All, inr, refl, sym, ap, subst, ◌∙◌, arith}
use Rattle.std.proofs.lemmas.Bool.{both_ways}
use Rattle.std.proofs.lemmas.List.Elements.{All-nil, All-cons, All-head}
use Rattle.rand_core.specs.Stream.{Stream}
use Rattle.sctp_packet.specs.Chunk.{ChunkTree, InitTree, init_chunk, init_ack_chunk, cookie_echo_chunk}
use Rattle.sctp_packet.specs.Grammar.{carried}
use Rattle.sctp_capabilities.specs.StateCookie.{Cookie, CookieFits, cookie_bytes}
use Rattle.spec_endpoint.specs.Association.{Tcb, Phase, CookieEchoed, Established, ShutdownPending, ShutdownSent, ShutdownReceived, ShutdownAckSent, State, Open, Context, Endpoint}
use Rattle.sctp_rx.specs.DataTracker.{is_ack_due}
use Rattle.spec_endpoint.specs.Packets.{add}
use Rattle.spec_endpoint.specs.Sending.{AfterSending, is_before_cookie_ack, selective_ack, take_due_ack, without_duplicates, send_with, answer_packet}
use Rattle.spec_endpoint.specs.Shutdown.{pending_next, received_next, maybe_send_shutdown_or_ack, is_quiet}
use Rattle.spec_endpoint.specs.Opening.{tag_from, word, next_first, cookie_for}
use Rattle.spec_endpoint.specs.Input.{my_tag, packet_refusal, count_packet_at, packet_unless, on_accepted_packet, in_endpoint_state, repeats_if, has_data_chunk, ack_if_due, at_end, shut_if, on_packet_end}
use Rattle.spec_endpoint.specs.Laws.{Call, ReceivePacket, called, is_closed}
use Rattle.proof_endpoint.specs.Mapped.{Carried}
use Rattle.proof_pair.specs.Trace.{Side, as_received, state_of}
use Rattle.proof_pair.specs.Agreement.{Draw as Drawn, Has, drawn_receiving, drawn_taking, drawn_given}
use Rattle.proof_pair.proofs.JoinLemmas.{Draw, IsDraw, view_of, init_by, cookie_by, IsInit, Says}
use Rattle.proof_pair.proofs.TraceLemmas.{seen}
use Rattle.proof_pair.proofs.NegotiatedLemmas.{be64_wraps}
use Rattle.proof_pair.proofs.JoinKeepsLemmas.{cookie_fits}
use Rattle.proof_draws.specs.NamedChunks.{Names, flip, move_by, named_init, named_chunks}
use Rattle.proof_draws.specs.Names.{named_state, named_tcb}
use Rattle.proof_draws.specs.Laws.{Makes}
use Rattle.proof_draws.specs.NamedCalls.{AnswersAgain, InitIsNamedOpen, InitIsNamed, init, EachCallIsNamed}
use Rattle.proof_draws.proofs.HandshakeNamedLemmas.{next_first_named}
use Rattle.proof_draws.specs.Pairing.{distance, far, names, Knows}
use Rattle.proof_draws.proofs.PairingLemmas.{far_below, moved_distance}
use Rattle.proof_draws.proofs.NamesLemmas.{same_tie, names_in, TagsAre, state_by, makes}
use Rattle.proof_draws.proofs.TwinLemmas.{Marked}
use Rattle.proof_draws.proofs.ChunkLemmas.{init_received}
use Rattle.proof_draws.proofs.GuideLemmas.{Guides, tags_after}
use Rattle.proof_draws.proofs.StepLemmas.{receives_init, is_past, one_held}
use Rattle.proof_draws.proofs.ReceivedLemmas.{all_received, refused_as_well, taken_too}
use Rattle.proof_draws.proofs.InitLemmas.{IsThat, at_state, init_received_in, ended_stays}
use Rattle.proof_draws.proofs.GivenLemmas.{two_paired, draw_is, peer_at}
use Rattle.proof_draws.proofs.ActionLemmas.{LateInitsAreNamed}

-- ---- the cookie with a tie of any size

abbrev low_tie : Cookie → Cookie
low_tie c = record c { tie_tag = c.tie_tag % 2 ^ 64 }

same_bytes : (c : Cookie) → cookie_bytes (low_tie c) ≡ cookie_bytes c
unfolding cookie_bytes
same_bytes c = rw (be64_wraps c.tie_tag) refl

with_tie : (c : Cookie) (tie : ℕ) → tie < 2 ^ 64 → CookieFits c → CookieFits (record c { tie_tag = tie })
with_tie c tie small f = record {
  peer_tag = f.peer_tag;
  my_tag = f.my_tag;
  peer_initial_tsn = f.peer_initial_tsn;
  my_initial_tsn = f.my_initial_tsn;
  a_rwnd = f.a_rwnd;
  tie_tag = small;
  peer_capabilities = f.peer_capabilities;
}

-- ---- the first TSN of an association in this one's place

-- ---- it keeps its state, and no cookie is kept

pending_past : (b : Bool) (t : Tcb) (c : Context Carried) → is_past (Open (pending_next b t c).phase t) ≡ true
pending_past true t c = refl
pending_past false t c = refl

received_past : (b : Bool) (t : Tcb) (c : Context Carried) → is_past (Open (received_next b t c).phase t) ≡ true
received_past true t c = refl
received_past false t c = refl

-- where a shutdown goes on
goes_past : (phase : Phase) (t : Tcb) (c : Context Carried) → is_past (Open (maybe_send_shutdown_or_ack phase t c).phase t) ≡ not (is_before_cookie_ack phase)
goes_past (CookieEchoed t1 cookie) t c = refl
goes_past Established t c = refl
goes_past ShutdownPending t c = pending_past (is_quiet t c) t c
goes_past (ShutdownSent t2) t c = refl
goes_past ShutdownReceived t c = received_past (is_quiet t c) t c
goes_past (ShutdownAckSent t2) t c = refl

ended_by : (avoids b : Bool) (phase : Phase) (t : Tcb) (c : Context Carried) → is_past (shut_if avoids (ack_if_due b phase t c)).state ≡ not (is_before_cookie_ack phase)
ended_by true true phase t c =
    let x : AfterSending Carried = send_with (is_before_cookie_ack phase) (add (selective_ack t) (answer_packet phase c.options t)) (without_duplicates t) c in
    goes_past phase x.tcb x.context
ended_by true false phase t c = goes_past phase t c
ended_by false true phase t c = refl
ended_by false false phase t c = refl

ended_past : (phase : Phase) (t : Tcb) (c : Context Carried) → is_past (on_packet_end phase t c).state ≡ not (is_before_cookie_ack phase)
ended_past phase t c = let u : Tcb = at_end c.now t in ended_by c.options.avoid_stalls (is_ack_due false u.tracker.tracker.ack) phase (take_due_ack false u) c

init_leaves_past : (tag : ℕ) (i : InitTree) (phase : Phase) (t : Tcb) (c : Context Carried) (w : Stream) → is_before_cookie_ack phase ≡ false
    → is_past (on_accepted_packet tag (init_chunk i ∷ []) (at_state (Open phase t) c w)).endpoint_state.state ≡ true
init_leaves_past tag i (CookieEchoed t1 cookie) t c w h = cc
init_leaves_past tag i Established t c w h = ended_past Established t (init_received_in tag i (Open Established t) c w)
init_leaves_past tag i ShutdownPending t c w h = ended_past ShutdownPending t (init_received_in tag i (Open ShutdownPending t) c w)
init_leaves_past tag i (ShutdownSent t2) t c w h = ended_past (ShutdownSent t2) t (init_received_in tag i (Open (ShutdownSent t2) t) c w)
init_leaves_past tag i ShutdownReceived t c w h = ended_past ShutdownReceived t (init_received_in tag i (Open ShutdownReceived t) c w)
init_leaves_past tag i (ShutdownAckSent t2) t c w h = ended_past (ShutdownAckSent t2) t (init_received_in tag i (Open (ShutdownAckSent t2) t) c w)

init_leaves_open : (tag : ℕ) (i : InitTree) (phase : Phase) (t : Tcb) (c : Context Carried) (w : Stream) → is_before_cookie_ack phase ≡ false
    → is_closed (on_accepted_packet tag (init_chunk i ∷ []) (at_state (Open phase t) c w)).endpoint_state.state ≡ false
init_leaves_open tag i (CookieEchoed t1 cookie) t c w h = cc
init_leaves_open tag i Established t c w h = ended_stays Established t (init_received_in tag i (Open Established t) c w)
init_leaves_open tag i ShutdownPending t c w h = ended_stays ShutdownPending t (init_received_in tag i (Open ShutdownPending t) c w)
init_leaves_open tag i (ShutdownSent t2) t c w h = ended_stays (ShutdownSent t2) t (init_received_in tag i (Open (ShutdownSent t2) t) c w)
init_leaves_open tag i ShutdownReceived t c w h = ended_stays ShutdownReceived t (init_received_in tag i (Open ShutdownReceived t) c w)
init_leaves_open tag i (ShutdownAckSent t2) t c w h = ended_stays (ShutdownAckSent t2) t (init_received_in tag i (Open (ShutdownAckSent t2) t) c w)

-- the same under one tie
late_state : (ps : List (Drawn × Drawn)) (mine peer : ℕ) (tie : ℕ → ℕ) (phase : Phase) (u : Tcb) → is_before_cookie_ack phase ≡ false
    → named_state (names ps mine peer tie same_tie) (Open phase u)
    ≡ named_state (names ps mine peer (λ old. tie u.identity.tie) (λ old. tie u.identity.tie)) (Open phase u)
late_state ps mine peer tie (CookieEchoed t1 cookie) u h = cc
late_state ps mine peer tie Established u h = refl
late_state ps mine peer tie ShutdownPending u h = refl
late_state ps mine peer tie (ShutdownSent t2) u h = refl
late_state ps mine peer tie ShutdownReceived u h = refl
late_state ps mine peer tie (ShutdownAckSent t2) u h = refl

-- ---- the tag that is drawn

abbrev one_of : Tcb → Endpoint Carried → Drawn
one_of t e = record { tag = tag_from (word e); first = next_first t }

abbrev answers : Phase → Bool
answers (CookieEchoed t1 cookie) = false
answers Established = true
answers ShutdownPending = true
answers (ShutdownSent t2) = true
answers ShutdownReceived = true
answers (ShutdownAckSent t2) = false

drew_in : (tag : ℕ) (i : InitTree) (phase : Phase) (t : Tcb) (c : Context Carried) (w : Stream) → answers phase ≡ true
    → drawn_receiving tag (init_chunk i ∷ []) (at_state (Open phase t) c w) ≡ one_of t (at_state (Open phase t) c w) ∷ []
drew_in tag i (CookieEchoed t1 cookie) t c w h = cc
drew_in tag i Established t c w h = refl
drew_in tag i ShutdownPending t c w h = refl
drew_in tag i (ShutdownSent t2) t c w h = refl
drew_in tag i ShutdownReceived t c w h = refl
drew_in tag i (ShutdownAckSent t2) t c w h = cc

drew_one : (p : Carried) (checksum : ℕ) (x : Side) (i : InitTree) → map carried p.chunks ≡ init_chunk i ∷ []
    → packet_refusal p.header.verification_tag (map carried p.chunks) (state_of x) ≡ None → (phase : Phase) (t : Tcb) → state_of x ≡ Open phase t → answers phase ≡ true
    → drawn_given (Some p) checksum x ≡ one_of t x.end ∷ []
drew_one p checksum x i alone none phase t is late =
    let tag : ℕ = p.header.verification_tag in
    let e : Endpoint Carried = count_packet_at x.end in
    ap (λ (r : Option (List ℕ)). drawn_taking r (as_received p checksum) x.end) none
    ∙ (ap (λ (cs : List ChunkTree). drawn_receiving tag cs (in_endpoint_state (repeats_if (has_data_chunk cs)) e)) alone
    ∙ (ap (λ (s : State). drawn_receiving tag (init_chunk i ∷ []) (at_state s e.endpoint_state.context e.draws)) is
    ∙ drew_in tag i phase t e.endpoint_state.context e.draws late))

-- in the second trace too
named_open : (n : Names) (phase : Phase) (t : Tcb) → answers phase ≡ true → named_state n (Open phase t) ≡ Open phase (named_tcb n t)
named_open n (CookieEchoed t1 cookie) t h = cc
named_open n Established t h = refl
named_open n ShutdownPending t h = refl
named_open n (ShutdownSent t2) t h = refl
named_open n ShutdownReceived t h = refl
named_open n (ShutdownAckSent t2) t h = cc

open_is : (n : Names) (i : InitTree) (phase : Phase) (u : Tcb) (w v : Stream) → is_before_cookie_ack phase ≡ false → (answers phase ≡ true → AnswersAgain n i u w v)
    → InitIsNamedOpen n i phase u w v
open_is n i (CookieEchoed t1 cookie) u w v h f = cc
open_is n i Established u w v h f = f refl
open_is n i ShutdownPending u w v h f = f refl
open_is n i (ShutdownSent t2) u w v h f = f refl
open_is n i ShutdownReceived u w v h f = f refl
open_is n i (ShutdownAckSent t2) u w v h f = tt

opened_late : (s u : State) (phase : Phase) (t : Tcb) → s ≡ Open phase t → is_before_cookie_ack phase ≡ false → ((view_of s).is_late ≡ true → (view_of u).is_opened ≡ true)
    → (view_of u).is_opened ≡ true
opened_late s u phase t is late f = f (ap (λ (z : State). (view_of z).is_late) is ∙ ap not late)

module _ (ps : List (Drawn × Drawn)) (k : Knows ps) (law : EachCallIsNamed) where
  pub late_named : LateInitsAreNamed ps
  late_named o q x y z p r checksum other given h t n says pair i alone none numbers phase u is late =
      let tag : ℕ = p.header.verification_tag in
      let received : map carried p.chunks ≡ init_chunk i ∷ [] = ap (λ (cs : List ChunkTree). map carried cs) alone in
      let s : State = state_of x in
      let call : Call = ReceivePacket (as_received p checksum) in
      let l : Names = names ps n.mine n.peer n.tie n.cookie_tie in
      let own : ℕ = u.identity.my_tag in
      let peer : ℕ = i.initiate_tag in
      let tie : ℕ → ℕ = λ old. t.tie u.identity.tie in
      let m : Names = names ps own peer tie tie in
      let said : IsInit q (seen y) tag i =
      All-head (Says q o (seen y) (seen x) y.got_init tag) (init_chunk i) [] (subst (All (Says q o (seen y) (seen x) y.got_init tag)) alone says) in
      let mark : i.initiate_tag ≡ n.mine =
      All-head (Marked (state_of y) s n.mine n.peer n.cookie_tie) (init_chunk i) [] (subst (All (Marked (state_of y) s n.mine n.peer n.cookie_tie)) alone n.marks) in
      let theirs : IsDraw said.draw = draw_is q (state_of y) said.draw said.own h.other.stands.draw in
      let faces : u.identity.peer_tag ≡ peer =
      peer_at s phase u (seen y).mine said.draw is said.own h.own.stands.faces ∙ sym (ap (λ (j : InitTree). j.initiate_tag) said.is) in
      let tags : TagsAre own peer s = subst (TagsAre own peer) (sym is) (refl, faces) in
      let state : state_of z ≡ named_state m s =
      t.state
      ∙ (state_by ps own peer t.tie s tags
      ∙ subst (λ (a : State). named_state (names ps own peer t.tie same_tie) a ≡ named_state m a) (sym is) (late_state ps own peer t.tie phase u late)) in
      let received_as : (j : InitTree) → j ≡ init_by q said.draw → far ps n.mine ≡ far ps peer → named_init l j ≡ named_init (flip m) j =
      λ j e far_is. subst (λ (a : InitTree). named_init l a ≡ named_init (flip m) a) (sym e)
      (init_received l (flip m) q said.draw.tag said.draw.first q.zero_checksum_method refl far_is) in
      let chunks : map carried (named_chunks l p.chunks) ≡ named_chunks (flip m) (map carried p.chunks) =
      ap (λ (cs : List ChunkTree). map carried (named_chunks l cs)) alone
      ∙ (ap (λ (j : InitTree). init_chunk j ∷ []) (received_as i said.is (ap (λ (a : ℕ). far ps a) (sym mark)))
      ∙ sym (ap (λ (cs : List ChunkTree). named_chunks (flip m) cs) received)) in
      let again : answers phase ≡ true → AnswersAgain m i u x.end.draws z.end.draws =
      λ answering.
      let before : Names = names_in ps s t.tie in
      let open_too : state_of z ≡ Open phase (named_tcb before u) = t.state ∙ (ap (λ (a : State). named_state before a) is ∙ named_open before phase u answering) in
      let second : map carried r.chunks ≡ init_chunk (named_init l i) ∷ [] =
      ap (λ (a : Carried). map carried a.chunks) n.is ∙ ap (λ (cs : List ChunkTree). map carried (named_chunks l cs)) alone in
      let mine : Drawn = one_of u x.end in
      let its : Drawn = one_of (named_tcb before u) z.end in
      let there : Has (mine, its) ps =
      two_paired ps (drawn_given (Some p) checksum x) (drawn_given (Some r) other z) mine its (drew_one p checksum x i received none phase u is answering)
      (drew_one r other z (named_init l i) second (refused_as_well ps k x z p r checksum other n.mine n.peer n.tie n.cookie_tie n.is t.tie t.state none) phase
      (named_tcb before u) open_too answering) pair in
      let drawn : Draw = record { tag = mine.tag; first = mine.first } in
      let own_is : IsDraw drawn = record { some = λ e. omega (arith, e); tag = omega arith; first = omega arith } in
      let made : Cookie = cookie_for i drawn.tag drawn.first u.identity.tie in
      let small : next_first u < 2 ^ 32 = omega arith in
      let own_far : far ps drawn.tag ≡ far ps own =
      k.by mine its there
      ∙ (ap (λ (a : ℕ). distance (next_first u) a)
      (next_first_named before u ∙ ap (λ (a : State). move_by (far ps (my_tag a)) (next_first u)) is)
      ∙ moved_distance (next_first u) (far ps own) small (far_below ps own)) in
      let fits : CookieFits (low_tie made) =
      subst (λ (j : InitTree). CookieFits (low_tie (cookie_for j drawn.tag drawn.first u.identity.tie))) (sym said.is)
      (with_tie (cookie_by q said.draw drawn) (u.identity.tie % 2 ^ 64) (omega arith) (cookie_fits q said.draw drawn given theirs own_is)) in
      let some : i.initiate_tag ≢ 0 = λ e. theirs.some (sym (ap (λ (j : InitTree). j.initiate_tag) said.is) ∙ e) in
      let knows : Makes m made =
      ap m.cookie (sym (same_bytes made))
      ∙ makes ps k own peer tie tie (low_tie made) (record { own = own_far; other = refl })
      (record { fits = fits; some_peer = some; some_own = own_is.some }) in
      record { draws = record { tag = sym (k.tags mine its there) }; knows = record { makes = knows; cookie_tie = refl } } in
      let all : All IsThat (map carried p.chunks) = subst (All IsThat) (sym received) (All-cons IsThat (init_chunk i) [] tt (All-nil IsThat)) in
      let guides : Guides call own peer = record {
        answers = λ a j e. absurd (all_received IsThat (as_received p checksum) all a (init_ack_chunk j) e);
        own = λ a c e. absurd (all_received IsThat (as_received p checksum) all a (cookie_echo_chunk e.cookie) e.received);
        other = λ a c e. absurd (all_received IsThat (as_received p checksum) all a (cookie_echo_chunk e.cookie) e.received);
        connects = λ e. cc;
        restores = λ a e. cc;
      } in
      let e : Endpoint Carried = count_packet_at x.end in
      let after : (P : State → Bool) → P (called call x.end).endpoint_state.state ≡ P (on_accepted_packet tag (init_chunk i ∷ []) (at_state (Open phase u) e.endpoint_state.context e.draws)).endpoint_state.state =
      λ P. ap (λ (a : Option (List ℕ)). P (packet_unless a tag (map carried p.chunks) e).endpoint_state.state) none
      ∙ (ap (λ (cs : List ChunkTree). P (on_accepted_packet tag cs e).endpoint_state.state) received
      ∙ ap (λ (a : State). P (on_accepted_packet tag (init_chunk i ∷ []) (at_state a e.endpoint_state.context e.draws)).endpoint_state.state) is) in
      record {
        mine = own;
        peer = peer;
        tie = tie;
        cookie_tie = tie;
        before = state;
        is = taken_too ps k x z p r checksum other n.mine n.peer n.tie n.cookie_tie n.is t.tie t.state law h.own.packing h.own.quiet t.context none numbers own peer tie tie state
            chunks (init i received (subst (λ (a : State). InitIsNamed m i a x.end.draws z.end.draws) (sym is) (open_is m i phase u x.end.draws z.end.draws late again)));
        tags = λ stand. tags_after call own peer guides x.end tags;
        ties = inr (record {
          receives = ap (λ (cs : List ChunkTree). receives_init (ReceivePacket (record (as_received p checksum) { chunks = cs }))) received;
          held = one_held (state_of y) (opened_late s (state_of y) phase u is late h.own.stands.late);
          past = after is_past ∙ init_leaves_past tag i phase u e.endpoint_state.context e.draws late;
        });
        drew = λ receives closed.
            absurd (both_ways (is_closed (called call x.end).endpoint_state.state) (after is_closed ∙ init_leaves_open tag i phase u e.endpoint_state.context e.draws late) closed);
      }
