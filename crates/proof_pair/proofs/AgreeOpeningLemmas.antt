-- How an association is opened, over every trace: each row of the handshake keeps what holds of an end.
use Rattle.std.proofs.Common.{◌≡◌, ℕ, ◌^◌, ◌%◌, Bool, true, false, Some, None, Result, Ok, Err, List, [], ◌∷◌, ◌++◌, inl, inr, refl, sym, ap, subst, ◌∙◌, arith}
use Rattle.std.proofs.lemmas.List.Elements.{All-nil}
use Rattle.std.proofs.lemmas.Option.{same_Some}
use Rattle.rand_core.specs.Stream.{Stream}
use Rattle.sctp_packet.specs.Chunk.{InitTree, init_ack_chunk}
use Rattle.sctp_packet.specs.Packet.{PacketTree}
use Rattle.sctp_capabilities.specs.declared.state_cookie.StateCookieError.{StateCookieError}
use Rattle.sctp_capabilities.specs.StateCookie.{Cookie, cookie_bytes, read_cookie}
use Rattle.sctp_capabilities.proofs.CookieLemmas.{both_tags, read_cookie_bytes}
use Rattle.sctp_state.specs.Events.{OnConnected}
use Rattle.sctp_state.specs.Options.{Options}
use Rattle.sctp_state.specs.Timer.{Timer}
use Rattle.spec_endpoint.specs.Association.{Tcb, CookieEchoed, State, Closed, CookieWait, Open, Context, Endpoint}
use Rattle.spec_endpoint.specs.Packets.{PacketDraft, add}
use Rattle.spec_endpoint.specs.Opening.{tsn_from, tag_from, word, drew_word, t1_init, connect, cookie_for, agreed_by, init_ack_of, answer, next_first, cookie_in}
use Rattle.spec_endpoint.specs.Laws.{ReceiveNoPacket, ReceivePacket as Given}
use Rattle.proof_endpoint.specs.Mapped.{Carried}
use Rattle.proof_endpoint.specs.Acts.{EndWithPacket, at, no_packet, idle, calm, echo_step, an_init_ack_alone, Preserves}
use Rattle.proof_pair.specs.Trace.{has_connected, AreValidOptions}
use Rattle.proof_pair.specs.Agreement.{Draw, Association, mirrored, Has, association_of, two_drawn, AreDistinct}
use Rattle.proof_endpoint.proofs.BundledLemmas.{one_bundled}
use Rattle.proof_endpoint.proofs.PacketActsLemmas.{does_out}
use Rattle.proof_endpoint.proofs.OpeningActsLemmas.{answering, does_send_init}
use Rattle.proof_pair.proofs.JoinKeepsLemmas.{cookie_found}
use Rattle.proof_pair.proofs.AgreeLemmas.{Past, rests, waits, holds, view_of, own_in, peer_in, Names, draw_in, FitsDraw, FitsInit, SaysInit, SaysInitAck, SaysAck, Says, Waits, Holds, Tagged, tagged_holds, Later, later_same, one_draw}
use Rattle.proof_pair.proofs.AgreeActsLemmas.{Setting, Inv, InvAt, inv_made, inv_view, inv_later, adds}
use Rattle.proof_pair.proofs.AgreeQuietLemmas.{Quiet, quiet}
use Rattle.proof_pair.proofs.NegotiatedLemmas.{be64_wraps}

-- ---- the cookie that is made

-- only the tie may be too large for its field
wrapped : (k : Cookie) → cookie_bytes k ≡ cookie_bytes (record k { tie_tag = k.tie_tag % 2 ^ 64 })
unfolding cookie_bytes
wrapped k = rw (be64_wraps k.tie_tag) refl

names_made : (i : InitTree) (tag first tie : ℕ) → FitsInit i → FitsDraw (record { tag = tag; first = first })
    → Names (cookie_bytes (cookie_for i tag first tie)) (record { tag = tag; first = first }) (draw_in i)
names_made i tag first tie fits mine = record {
  own_is = λ k h. ap (λ (z : Cookie). own_in z) (is k h);
  peer_is = λ k h. ap (λ (z : Cookie). peer_in z) (is k h);
}
  where
    small : Cookie
    small = record (cookie_for i tag first tie) { tie_tag = tie % 2 ^ 64 }

    reads : read_cookie (cookie_bytes (cookie_for i tag first tie)) ≡ Ok small
    reads =
        ap read_cookie (wrapped (cookie_for i tag first tie))
        ∙ read_cookie_bytes small
        (record {
          peer_tag = fits.draw.tag;
          my_tag = mine.tag;
          peer_initial_tsn = fits.draw.first;
          my_initial_tsn = mine.first;
          a_rwnd = fits.window;
          tie_tag = omega arith;
          peer_capabilities = fits.can;
        }) (both_tags small fits.draw.some mine.some)

    is : (k : Cookie) → read_cookie (cookie_bytes (cookie_for i tag first tie)) ≡ Ok k → k ≡ small
    is k h = ap (λ (r : Result Cookie StateCookieError). elim r [ Ok x ↦ x | Err fault ↦ k ]) (sym h ∙ reads)

pub drawn_fits : (v w : ℕ) → FitsDraw (record { tag = tag_from w; first = tsn_from v })
drawn_fits v w = record { some = λ e. omega (arith, e); tag = omega arith; first = omega arith }

pub again_fits : (t : Tcb) (w : ℕ) → FitsDraw (record { tag = tag_from w; first = next_first t })
again_fits t w = record { some = λ e. omega (arith, e); tag = omega arith; first = omega arith }

-- ---- rows

quiet_call : Quiet ReceiveNoPacket
quiet_call = record { on_received = λ tag chunk h. no_packet h.given; connects = λ e. cc; restores = λ h e. cc }
  where
    no_packet : {A : Type 0} {p : PacketTree} → ReceiveNoPacket ≡ Given p → A
    no_packet e = cc

-- each association whose cookie an end echoed is one of a draw of its own
abbrev pub Known : Past → Type 0
Known x = (b : Association) → Has b x.echoed → Has b.mine x.drawn

module _ (g : Setting) (y : Past) (own : AreValidOptions g.own) where
  pub kept_quiet : (x : Past) → Preserves ReceiveNoPacket (λ a b. InvAt g x y a → InvAt g x y b)
  kept_quiet x = quiet g x y ReceiveNoPacket own quiet_call

  -- ---- an INIT is answered

  says_answer : (x : Past) (o : Options) (i : InitTree) (tag first tie : ℕ) → FitsInit i → FitsDraw (record { tag = tag; first = first })
      → Has (record { tag = tag; first = first }) x.drawn → Has (draw_in i) y.drawn → SaysInitAck x y i.initiate_tag (init_ack_of o i tag first tie)
  says_answer x o i tag first tie fits mine here there =
      let made : List ℕ = cookie_bytes (cookie_for i tag first tie) in
      let found : cookie_in (init_ack_of o i tag first tie).parameters ≡ Some made = cookie_found o (agreed_by o i).zero_checksum_method made in
      record {
        peer = draw_in i;
        names = λ c e. subst (λ (z : List ℕ). Names z (record { tag = tag; first = first }) (draw_in i)) (same_Some made c (sym found ∙ e))
            (names_made i tag first tie fits mine);
        own = here;
        other = there;
        under = refl;
      }

  pub does_answer : (x : Past) (s : State) (c : Context Carried) (w : Stream) (i : InitTree) (tag first tie : ℕ) → FitsDraw (record { tag = tag; first = first })
      → Has (record { tag = tag; first = first }) x.drawn → SaysInit y i → InvAt g x y (idle s c w) → InvAt g x y (idle s (answer i tag first tie c) w)
  does_answer x s c w i tag first tie mine here said inv =
      let k : Preserves ReceiveNoPacket (λ a b. InvAt g x y a → InvAt g x y b) = kept_quiet x in
      let p : PacketDraft = answering c.options i in
      let j : InitTree = init_ack_of c.options i tag first tie in
      let begun : InvAt g x y (at s c w p) =
      inv_made g x y (view_of s) c.options c.pack c.emitted.events no_packet.tag [] inv p.tag [] (All-nil (Says x y p.tag)) (inl refl) in
      does_out k s c w (add (init_ack_chunk j) p) (one_bundled (init_ack_chunk j) p refl (an_init_ack_alone j refl))
      (adds g x y (view_of s) c.options c.pack c.emitted.events p (init_ack_chunk j) begun (says_answer x c.options i tag first tie said.fits mine here said.own) (inr (refl, refl)))

  -- ---- `connect`

  pub does_connect : (x : Past) (e : Endpoint Carried) → Known x → AreDistinct (two_drawn e ++ x.drawn) → has_connected e.endpoint_state.context.emitted.events ≡ false
      → Tagged g.under (waits (record { tag = tag_from (word (drew_word e)); first = tsn_from (word e) }))
      → InvAt g x y (idle Closed e.endpoint_state.context e.draws)
      → InvAt g (record x { drawn = two_drawn e ++ x.drawn }) y (calm (connect (record e { endpoint_state = record e.endpoint_state { state = Closed } })))
  does_connect x e known distinct silent free inv =
      let d : Draw = record { tag = tag_from (word (drew_word e)); first = tsn_from (word e) } in
      let z : Past = record x { drawn = d ∷ x.drawn } in
      let l : Later x z = record { drawn = λ f h. inr h; held = λ a h. h; echoed = λ a h. h } in
      let c : Context Carried = e.endpoint_state.context in
      let m : EndWithPacket Carried = idle (CookieWait d.tag d.first (t1_init c)) c (drew_word (drew_word e)).draws in
      let drew : InvAt g z y m =
      inv_later g x y rests c.options c.pack c.emitted.events no_packet.tag [] inv z y l (later_same y) (waits d)
      (record { own = inl refl; fits = drawn_fits (word e) (word (drew_word e)); new = λ b h t. distinct.0 b.mine (known b h) t })
      (λ h. no_both h silent) free in
      does_send_init (kept_quiet z) d.tag d.first (t1_init c) c m.draws drew
    where
      no_both : {A : Type 0} {b : Bool} → b ≡ true → b ≡ false → A
      no_both e f = cc

  -- ---- INIT ACK

  pub does_echo : (x : Past) (tag : ℕ) (i : InitTree) (cookie : List ℕ) (my_tag first : ℕ) (t1 : Timer) (c : Context Carried) (w : Stream)
      → AreDistinct x.drawn → SaysInitAck y x tag i → cookie_in i.parameters ≡ Some cookie → my_tag ≡ tag
      → Tagged g.under (holds (record { mine = record { tag = my_tag; first = first }; peer = draw_in i }) (Some cookie))
      → InvAt g x y (idle (CookieWait my_tag first t1) c w)
      → InvAt g (record x {
        held = record { mine = record { tag = my_tag; first = first }; peer = draw_in i } ∷ x.held;
        echoed = record { mine = record { tag = my_tag; first = first }; peer = draw_in i } ∷ x.echoed;
      }) y (echo_step i cookie my_tag first (idle (CookieWait my_tag first t1) c w))
  does_echo x tag i cookie my_tag first t1 c w distinct said brought under tagged inv =
      let d : Draw = record { tag = my_tag; first = first } in
      let a : Association = record { mine = d; peer = draw_in i } in
      let z : Past = record x { held = a ∷ x.held; echoed = a ∷ x.echoed } in
      let l : Later x z = record { drawn = λ f h. h; held = λ b h. inr h; echoed = λ b h. inr h } in
      let there : Waits x d = inv.stands in
      let is : said.peer ≡ d = one_draw x.drawn said.peer d distinct said.other there.own (sym said.under ∙ sym under) in
      let names : Names cookie a.peer a.mine = subst (λ (f : Draw). Names cookie (draw_in i) f) is (said.names cookie brought) in
      inv_later g x y (waits d) c.options c.pack c.emitted.events no_packet.tag [] inv z y l (later_same y) (holds a (Some cookie))
      (record {
        own = there.own;
        other = said.own;
        held = inl refl;
        is_kept = record {
          names = names;
          fits = there.fits;
          echoed = inl refl;
          only = λ b h t. elim h [ inl e ↦ e | inr n ↦ absurd (there.new b n t) ];
        };
      })
      (λ h. absurd (inv.agreed h)) tagged

  -- ---- COOKIE ACK

  pub does_establish : (x : Past) (tag : ℕ) (t1 : Timer) (cookie : List ℕ) (t : Tcb) (c : Context Carried) (w : Stream) → SaysAck y x tag
      → t.identity.my_tag ≡ tag → InvAt g x y (idle (Open (CookieEchoed t1 cookie) t) c w)
      → Inv g x y (holds (association_of t) None) c.options c.pack (c.emitted.events ++ OnConnected ∷ []) no_packet.tag []
  does_establish x tag t1 cookie t c w said under inv =
      let a : Association = association_of t in
      let h : Holds x y a (Some cookie) = inv.stands in
      let is : said.a ≡ a = h.is_kept.only said.a said.echoed (sym said.under ∙ sym under) in
      inv_view g x y (holds a (Some cookie)) c.options c.pack c.emitted.events no_packet.tag [] inv (holds a None) (OnConnected ∷ []) refl
      (record { own = h.own; other = h.other; held = h.held; is_kept = tt })
      (λ e. subst (λ (b : Association). Has (mirrored b) y.held) is said.held) (tagged_holds g.under a (Some cookie) None inv.tagged)
