-- Each act preserves what two ends know of each other, as long as no association has ended.
use Rattle.std.proofs.Common.{◌≡◌, ℕ, ◌==◌, ◌||◌, not, Bool, true, false, Option, Some, None, Result, Ok, Err, List, [], ◌∷◌, ◌++◌, All, ◌⊎◌, inl, inr, refl, sym, ap, subst, ◌∙◌, append-nil, arith}
use Rattle.std.specs.List.{list_any}
use Rattle.std.proofs.lemmas.Bool.Decides.{nat_tests}
use Rattle.std.proofs.lemmas.Option.{same_Some}
use Rattle.sctp_wire.specs.Parameter.{ParameterTree, supported_extensions, forward_tsn_supported, zero_checksum_acceptable, state_cookie}
use Rattle.sctp_packet.specs.Chunk.{ChunkTree, InitTree, init_chunk, init_ack_chunk, cookie_echo_chunk}
use Rattle.sctp_capabilities.specs.declared.state_cookie.StateCookieError.{StateCookieError}
use Rattle.sctp_state.specs.Handover.{HandoverState}
use Rattle.sctp_state.specs.Options.{Options}
use Rattle.sctp_state.specs.Timer.{Timer}
use Rattle.sctp_capabilities.specs.Capabilities.{where_enabled, announced_parameters, announced_by, negotiate, agreed, extensions_in, method_in, is_forward_tsn_supported, has_type, forward_tsn, i_data, re_config}
use Rattle.sctp_capabilities.specs.StateCookie.{Cookie, CapabilitiesFit, CookieFits, cookie_bytes, read_cookie}
use Rattle.sctp_capabilities.proofs.CapabilitiesLemmas.{announced_with_options, negotiated_by_init, negotiated_by_init_ack}
use Rattle.sctp_capabilities.proofs.CookieLemmas.{both_tags, read_cookie_bytes}
use Rattle.sctp_state.specs.Events.{Event, OnConnected}
use Rattle.spec_endpoint.specs.Association.{Identity, Tcb, Phase, CookieEchoed, Closed, CookieWait, Open, Packing}
use Rattle.spec_endpoint.specs.Opening.{word, drew_word, init_of, init_ack_of, cookie_for, agreed_by, cookie_in, CookieResolution, RestartDetected, SimultaneousInit, MaintainExisting, by_tags, resolve_by_tags, tcb_by, as_restart}
use Rattle.spec_endpoint.specs.Laws.{Call, Connect, Shutdown, Restore}
use Rattle.proof_endpoint.specs.Mapped.{Carried}
use Rattle.proof_endpoint.specs.Acts.{EndWithPacket, end_of, drawn_tag, drawn_first, BringsChunk, IsEchoed, connects, echoes, before_opening, after_opening}
use Rattle.proof_pair.specs.Trace.{has_connected, AreValidOptions}
use Rattle.proof_pair.proofs.JoinLemmas.{Draw, Both, IsDraw, drawn_is, View, own_draw, peer_draw, both_of, view_of, late_view, init_by, cookie_by, IsInit, IsPlain, IsInitAck, IsEcho, Faces, faces_plain, faced_by, faced_at, faces_at, holds_mine, faced_none}
use Rattle.proof_pair.proofs.JoinActsLemmas.{Setting, OtherSays, OtherSaysAll, Inv, InvAt, inv_view, connected_both}
use Rattle.proof_protocol.proofs.ToolsLemmas.{not_both}

-- what the call of this action may be, and receives
pub record Rules (g : Setting) (call : Call) : Type 0 where
  pub says : (tag : ℕ) (chunk : ChunkTree) → BringsChunk call tag chunk → (v : View) → All (OtherSaysAll g v) g.others → OtherSays g v tag chunk
  pub asks : (tag : ℕ) (chunk : ChunkTree) → BringsChunk call tag chunk → tag ≡ 0 → g.asked ≡ true
  pub connects : call ≡ Connect → (has_connected g.past ≡ true) ⊎ (g.asked ≡ false)
  pub shuts : call ≡ Shutdown → has_connected g.past ≡ true
  pub restores : (h : HandoverState) → call ≡ Restore h → ⊥
  pub own : AreValidOptions g.own
  pub other : AreValidOptions g.other

-- ---- the parameters of an INIT ACK

extensions_with : (ps : List ParameterTree) (c : List ℕ) → extensions_in (ps ++ state_cookie c ∷ []) ≡ extensions_in ps
extensions_with [] c = refl
extensions_with (supported_extensions types ∷ ps) c = refl
extensions_with (p ∷ ps) c = extensions_with ps c

method_with : (ps : List ParameterTree) (c : List ℕ) → method_in (ps ++ state_cookie c ∷ []) ≡ method_in ps
method_with [] c = refl
method_with (zero_checksum_acceptable method ∷ ps) c = refl
method_with (p ∷ ps) c = method_with ps c

forward_with : (ps : List ParameterTree) (c : List ℕ) → list_any is_forward_tsn_supported (ps ++ state_cookie c ∷ []) ≡ list_any is_forward_tsn_supported ps
forward_with [] c = refl
forward_with (p ∷ ps) c = ap (λ (b : Bool). is_forward_tsn_supported p || b) (forward_with ps c)

-- the cookie says nothing of what its sender can do
pub emitted_with_cookie : (outbound inbound : ℕ) (ps : List ParameterTree) (c : List ℕ) → announced_by outbound inbound (ps ++ state_cookie c ∷ []) ≡ announced_by outbound inbound ps
emitted_with_cookie outbound inbound ps c =
    let types = extensions_with ps c in
    let method = method_with ps c in
    let forward = forward_with ps c in
    λ j. record {
      partial_reliability = forward j || has_type forward_tsn (types j);
      message_interleaving = has_type i_data (types j);
      reconfig = has_type re_config (types j);
      zero_checksum_method = method j;
      incoming = outbound;
      outgoing = inbound;
    }

found_by : (p h : Bool) (method : ℕ) (types c : List ℕ)
    → cookie_in ((where_enabled p (forward_tsn_supported ∷ []) ++ (where_enabled h (zero_checksum_acceptable method ∷ []) ++ supported_extensions types ∷ [])) ++ state_cookie c ∷ []) ≡ Some c
found_by true true method types c = refl
found_by true false method types c = refl
found_by false true method types c = refl
found_by false false method types c = refl

pub cookie_found : (o : Options) (method : ℕ) (c : List ℕ) → cookie_in (announced_parameters o method ++ state_cookie c ∷ []) ≡ Some c
cookie_found o method c = found_by o.enable_partial_reliability (not (method == 0)) method _ c

-- ---- the cookie that comes back

pub cookie_fits : (o : Options) (d e : Draw) → AreValidOptions o → IsDraw d → IsDraw e → CookieFits (cookie_by o d e)
cookie_fits o d e fine fd fe = record {
  peer_tag = fd.tag;
  my_tag = fe.tag;
  peer_initial_tsn = fd.first;
  my_initial_tsn = fe.first;
  a_rwnd = omega (arith, fine.valid.sizes.receiver_window);
  tie_tag = omega arith;
  peer_capabilities = subst CapabilitiesFit (sym (announced_with_options o.zero_checksum_method o))
      (record { zero_checksum_method = fine.method; incoming = fine.outgoing; outgoing = fine.incoming });
}

-- it is read as it was made
pub read_back : (o : Options) (d e : Draw) (c : List ℕ) (k : Cookie) → AreValidOptions o → IsDraw d → IsDraw e → c ≡ cookie_bytes (cookie_by o d e)
    → read_cookie c ≡ Ok k → k ≡ cookie_by o d e
read_back o d e c k fine fd fe is reads =
    let written : Cookie = cookie_by o d e in
    let good : read_cookie (cookie_bytes written) ≡ Ok written = read_cookie_bytes written (cookie_fits o d e fine fd fe) (both_tags written fd.some fe.some) in
    let same : Ok k ≡ Ok written = sym reads ∙ (ap read_cookie is ∙ good) in
    ap (λ (r : Result Cookie StateCookieError). elim r [ Ok x ↦ x | Err fault ↦ k ]) same

pub eq_test : (a b : ℕ) → a ≡ b → not (a == b) ≡ false
eq_test a b e = grind (arith, nat_tests, e)

maintain_by : (a b x y : Bool) → a ≡ false → b ≡ false → by_tags a b x y ≡ MaintainExisting
maintain_by false false x y e f = refl
maintain_by true b x y e f = cc
maintain_by false true x y e f = cc

compared_same : (tag : ℕ) (i : Identity) (k : Cookie) → tag ≡ i.my_tag → k.peer_tag ≡ i.peer_tag → resolve_by_tags tag i k ≡ MaintainExisting
compared_same tag i k e f =
    maintain_by (not (tag == i.my_tag)) (not (k.peer_tag == i.peer_tag)) (k.tie_tag == i.tie) (k.tie_tag == 0) (eq_test tag i.my_tag e)
    (eq_test k.peer_tag i.peer_tag f)

pub no_restart : (v : CookieResolution) → v ≡ MaintainExisting → as_restart true v ≡ RestartDetected → ⊥
no_restart v e f = cc

pub no_again : (v : CookieResolution) → v ≡ MaintainExisting → v ≡ SimultaneousInit → ⊥
no_again v e f = cc

abbrev draw_in : InitTree → Draw
draw_in j = record { tag = j.initiate_tag; first = j.initial_tsn }

abbrev own_in : Cookie → Draw
own_in k = record { tag = k.my_tag; first = k.my_initial_tsn }

abbrev peer_in : Cookie → Draw
peer_in k = record { tag = k.peer_tag; first = k.peer_initial_tsn }

-- ---- the acts of the handshake

module _ (g : Setting) (call : Call) (r : Rules g call) where
  abbrev u : View
  u = view_of g.beside

  -- an INIT, a cookie was said by the other end
  pub init_said : (tag : ℕ) (i : InitTree) (m : EndWithPacket Carried) → BringsChunk call tag (init_chunk i) → InvAt g m → IsInit g.other u tag i
  init_said tag i m h inv = r.says tag (init_chunk i) h (view_of m.state) inv.received

  pub does_connects : (m : EndWithPacket Carried) (is : call ≡ Connect) → InvAt g (before_opening {call = call} (connects m is)) → InvAt g (after_opening {call = call} (connects m is))
  does_connects m is inv =
      let d : Draw = record { tag = drawn_tag m; first = drawn_first m } in
      let es : List (Event Carried) = m.context.emitted.events in
      let v : View = view_of Closed in
      let w : View = record v { mine = Some d } in
      let yet : has_connected (g.past ++ es) ≡ true → ⊥ = λ e. not_both (inv.connected e) refl in
      let not_connected : has_connected g.past ≡ true → ⊥ = λ e. yet (connected_both g.past es ∙ ap (λ (b : Bool). b || has_connected es) e) in
      let not_asked : g.asked ≡ false = elim (r.connects is) [ inl e ↦ absurd (not_connected e) | inr e ↦ e ] in
      let alone : u.is_opened ≡ true → ⊥ = λ e. not_both (inv.stands.was e refl) not_asked in
      inv_view g v m.context.options m.context.pack es m.packet.tag m.packet.chunks inv w [] es (sym (append-nil es)) refl (λ e. refl) (λ e. cc)
      (record { mine = λ x e. cc; holds = λ b e. e; opened = λ e. e; none = λ e. inr (inr not_asked) })
      (record {
        faces = tt;
        faced = faced_none g.beside d alone;
        late = λ e. cc;
        other_late = λ e. inv.stands.other_late e;
        draw = drawn_is (word (end_of m)) (word (drew_word (end_of m)));
        kept = tt;
        can = tt;
        was = inv.stands.was;
        other_was = λ e. cc;
      })

  pub same_init : (os : Options) (size tag first : ℕ) → os ≡ record g.own { max_message_size = size }
      → init_of os tag first (announced_parameters os os.zero_checksum_method) ≡ init_by g.own (record { tag = tag; first = first })
  same_init os size tag first e = ap (λ (x : Options). init_of x tag first (announced_parameters x x.zero_checksum_method)) e

  -- an INIT is answered with this draw
  pub says_answer : (v : View) (os : Options) (size : ℕ) (tag : ℕ) (i : InitTree) (d : Draw) (tie : ℕ) → os ≡ record g.own { max_message_size = size }
      → BringsChunk call tag (init_chunk i) → IsInit g.other u tag i → ((u.is_opened ≡ true) ⊎ IsPlain v d tie)
      → IsInitAck g.own g.other v u g.asked (init_ack_of os i d.tag d.first tie)
  says_answer v os size tag i d tie e h said how = record {
    draw = d;
    other = said.draw;
    tie = tie;
    to = said.own;
    is = ap (λ (x : Options). init_ack_of x i d.tag d.first tie) e ∙ ap (λ (j : InitTree). init_ack_of g.own j d.tag d.first tie) said.is;
    was = r.asks tag (init_chunk i) h said.under;
    how = how;
  }

  -- the INIT ACK that brought a cookie, in answer to the INIT with this draw
  module _ (i : InitTree) (cookie : List ℕ) (own d : Draw) (tie : ℕ) (is : i ≡ init_ack_of g.other (init_by g.own own) d.tag d.first tie) where
    ack_draw : (own_of : Draw) → own_of ≡ record { tag = i.initiate_tag; first = i.initial_tsn } → own_of ≡ d
    ack_draw x e = e ∙ ap draw_in is

    ack_kept : (x : Draw) → x ≡ d → tie ≡ 0 → cookie_in i.parameters ≡ Some cookie → cookie ≡ cookie_bytes (cookie_by g.own own x)
    ack_kept x e none brought =
        let made : List ℕ = cookie_bytes (cookie_for (init_by g.own own) d.tag d.first tie) in
        let method : ℕ = (agreed_by g.other (init_by g.own own)).zero_checksum_method in
        let found : Some cookie ≡ Some made = sym brought ∙ (ap (λ (j : InitTree). cookie_in j.parameters) is ∙ cookie_found g.other method made) in
        same_Some cookie made found
        ∙ (ap (λ (z : Draw). cookie_bytes (cookie_for (init_by g.own own) z.tag z.first tie)) (sym e)
        ∙ ap (λ (z : ℕ). cookie_bytes (cookie_for (init_by g.own own) x.tag x.first z)) none)

    ack_can : (os : Options) (size : ℕ) → os ≡ record g.own { max_message_size = size } → agreed_by os i ≡ agreed g.own g.other
    ack_can os size e =
        let made : List ℕ = cookie_bytes (cookie_for (init_by g.own own) d.tag d.first tie) in
        let method : ℕ = (agreed_by g.other (init_by g.own own)).zero_checksum_method in
        let o : Options = g.other in
        ap (λ (z : Options). agreed_by z i) e
        ∙ (ap (λ (j : InitTree). agreed_by g.own j) is
        ∙ (ap (negotiate g.own) (emitted_with_cookie o.announced_maximum_outgoing_streams o.announced_maximum_incoming_streams (announced_parameters o method) made)
        ∙ negotiated_by_init_ack g.own g.other))

  pub does_echoes : (tag : ℕ) (i : InitTree) (cookie : List ℕ) (my_tag first : ℕ) (t1 : Timer) (m : EndWithPacket Carried) (h : BringsChunk call tag (init_ack_chunk i))
      (brought : cookie_in i.parameters ≡ Some cookie) → InvAt g (before_opening (echoes tag i cookie my_tag first t1 m h brought))
      → InvAt g (after_opening (echoes tag i cookie my_tag first t1 m h brought))
  does_echoes tag i cookie my_tag first t1 m h brought inv =
      let own : Draw = record { tag = my_tag; first = first } in
      let peer : Draw = record { tag = i.initiate_tag; first = i.initial_tsn } in
      let es : List (Event Carried) = m.context.emitted.events in
      let v : View = view_of (CookieWait my_tag first t1) in
      let w : View = view_of (after_opening {call = call} (echoes tag i cookie my_tag first t1 m h brought)).state in
      let said : IsInitAck g.other g.own u v g.other_asked i = r.says tag (init_ack_chunk i) h v inv.received in
      let plain : IsPlain u said.draw said.tie = elim said.how [ inl e ↦ cc | inr p ↦ p ] in
      let is : i ≡ init_ack_of g.other (init_by g.own own) said.draw.tag said.draw.first said.tie =
      said.is ∙ ap (λ (z : Draw). init_ack_of g.other (init_by g.own z) said.draw.tag said.draw.first said.tie) (sym (same_Some own said.other said.to)) in
      let same : peer ≡ said.draw = ack_draw i cookie own said.draw said.tie is peer refl in
      inv_view g v m.context.options m.context.pack es m.packet.tag m.packet.chunks inv w [] es (sym (append-nil es)) refl (λ e. refl) (λ e. cc)
      (record { mine = λ x e. e; holds = λ b e. cc; opened = λ e. cc; none = λ e. cc })
      (record {
        faces = faces_plain u.mine (record { mine = own; peer = peer }) said.draw plain.own same;
        faced = inv.stands.faced;
        late = λ e. cc;
        other_late = λ e. refl;
        draw = inv.stands.draw;
        kept = record { is = ack_kept i cookie own said.draw said.tie is peer same plain.tie_is brought; peer = subst IsDraw (sym same) plain.draw };
        can = ack_can i cookie own said.draw said.tie is m.context.options inv.size inv.options;
        was = λ e f. cc;
        other_was = λ e f. said.was;
      })

  -- the COOKIE ECHO was answered: the same association goes on
  pub does_late : (t1 : Timer) (cookie : List ℕ) (t : Tcb) (os : Options) (pack : Packing Carried) (es : List (Event Carried)) (tag : ℕ) (cs : List ChunkTree)
      → u.is_opened ≡ true → Inv g (view_of (Open (CookieEchoed t1 cookie) t)) os pack es tag cs → Inv g (late_view t) os pack (es ++ OnConnected ∷ []) tag cs
  does_late t1 cookie t os pack es tag cs opened inv =
      let v : View = view_of (Open (CookieEchoed t1 cookie) t) in
      inv_view g v os pack es tag cs inv (late_view t) (OnConnected ∷ []) (es ++ OnConnected ∷ []) refl refl (λ e. cc) (λ e. refl)
      (record { mine = λ x e. e; holds = λ b e. e; opened = λ e. e; none = λ e. cc })
      (record {
        faces = inv.stands.faces;
        faced = inv.stands.faced;
        late = λ e. opened;
        other_late = λ e. refl;
        draw = inv.stands.draw;
        kept = tt;
        can = inv.stands.can;
        was = λ e f. cc;
        other_was = inv.stands.other_was;
      })

  -- a control block by a cookie, where there was none: w has the draws of the cookie
  pub does_opened : (v : View) (os : Options) (pack : Packing Carried) (es : List (Event Carried)) (tag : ℕ) (cs : List ChunkTree) (header : ℕ) (k : Cookie) (cookie : List ℕ)
      (tie : ℕ) → v.is_opened ≡ false → v.holds ≡ None → IsEcho g.other u header cookie → read_cookie cookie ≡ Ok k
      → Inv g v os pack es tag cs → Inv g (late_view (tcb_by os k tie)) os pack (es ++ OnConnected ∷ []) tag cs
  does_opened v os pack es tag cs header k cookie tie closed none said reads inv =
      let b : Both = said.both in
      let w : View = late_view (tcb_by os k tie) in
      let is : k ≡ cookie_by g.other b.mine b.peer = read_back g.other b.mine b.peer cookie k r.other said.mine said.peer said.is reads in
      let own : Draw = record { tag = k.my_tag; first = k.my_initial_tsn } in
      let peer : Draw = record { tag = k.peer_tag; first = k.peer_initial_tsn } in
      let own_is : own ≡ b.peer = ap (λ (z : Cookie). own_in z) is in
      let peer_is : peer ≡ b.mine = ap (λ (z : Cookie). peer_in z) is in
      let opened : u.is_opened ≡ true = said.opened in
      let can : negotiate os k.peer_capabilities ≡ agreed g.own g.other =
      ap (λ (z : Options). negotiate z k.peer_capabilities) inv.options
      ∙ (ap (λ (z : Cookie). negotiate g.own z.peer_capabilities) is ∙ negotiated_by_init g.own g.other) in
      inv_view g v os pack es tag cs inv w (OnConnected ∷ []) (es ++ OnConnected ∷ []) refl refl (λ e. cc) (λ e. refl)
      (record {
        mine = λ x e. ap (λ (z : Draw). Some z) (own_is ∙ sym (faced_at u.holds b x said.holds (subst (λ (z : Option Draw). Faces u.holds z) e inv.stands.faced)));
        holds = λ c e. cc;
        opened = λ e. refl;
        none = λ e. inr (inl opened);
      })
      (record {
        faces = faces_plain u.mine (both_of (tcb_by os k tie)) b.mine (inr (holds_mine g.beside b said.holds)) peer_is;
        faced = faced_by u.holds b own said.holds own_is;
        late = λ e. opened;
        other_late = λ e. refl;
        draw = subst IsDraw (sym own_is) said.peer;
        kept = tt;
        can = can;
        was = λ e f. cc;
        other_was = λ e f. absurd (not_both opened f);
      })

  -- a cookie that comes to the association that it made
  pub same_verdict : (tag : ℕ) (k : Cookie) (phase : Phase) (t : Tcb) (m : EndWithPacket Carried) (h : IsEchoed call tag k)
      → Inv g (view_of (Open phase t)) m.context.options m.context.pack m.context.emitted.events m.packet.tag m.packet.chunks
      → resolve_by_tags tag t.identity k ≡ MaintainExisting
  same_verdict tag k phase t m h inv =
      let said : IsEcho g.other u tag h.cookie = r.says tag (cookie_echo_chunk h.cookie) h.received (view_of (Open phase t)) inv.received in
      let b : Both = said.both in
      let is : k ≡ cookie_by g.other b.mine b.peer = read_back g.other b.mine b.peer h.cookie k r.other said.mine said.peer said.is h.reads in
      let own : own_draw t ≡ b.peer = faced_at u.holds b (own_draw t) said.holds inv.stands.faced in
      let peer : b.mine ≡ peer_draw t = faces_at u.mine (both_of t) b.mine (holds_mine g.beside b said.holds) inv.stands.faces in
      compared_same tag t.identity k (said.under ∙ sym (ap (λ (z : Draw). z.tag) own))
      (ap (λ (z : Cookie). z.peer_tag) is ∙ ap (λ (z : Draw). z.tag) peer)
