-- A packet is received chunk by chunk, over every trace: what holds of an end is kept, and its histories grow.
use Rattle.std.proofs.Common.{◌≡◌, ℕ, true, false, Option, Some, None, Result, Ok, Err, List, [], ◌∷◌, ◌++◌, All, codes, inl, inr, refl, sym, ap, subst, ◌∙◌, Bool}
use Rattle.std.proofs.lemmas.List.Elements.{All-nil, All-cons}
use Rattle.std.proofs.lemmas.Option.{same_Some}
use Rattle.rand_core.specs.Stream.{Stream}
use Rattle.sctp_wire.specs.Cause.{missing_mandatory_parameter}
use Rattle.sctp_packet.specs.Chunk.{ChunkTree, InitTree, data_chunk, init_chunk, init_ack_chunk, sack_chunk, heartbeat_request_chunk, heartbeat_ack_chunk, abort_chunk, shutdown_chunk, shutdown_ack_chunk, error_chunk, cookie_echo_chunk, cookie_ack_chunk, shutdown_complete_chunk, idata_chunk, re_config_chunk, forward_tsn_chunk, i_forward_tsn_chunk, unknown_chunk}
use Rattle.sctp_packet.specs.Packet.{PacketTree}
use Rattle.sctp_state.specs.declared.api.ErrorKind.TheVariants.{ParseFailed, ProtocolViolation}
use Rattle.sctp_capabilities.specs.declared.state_cookie.StateCookieError.{StateCookieError}
use Rattle.sctp_capabilities.specs.StateCookie.{Cookie, read_cookie, refusal_text}
use Rattle.sctp_state.specs.Events.{Event, OnAborted}
use Rattle.sctp_state.specs.Options.{Options}
use Rattle.sctp_state.specs.Timer.{Timer}
use Rattle.spec_endpoint.specs.Association.{Tcb, tcb, Phase, CookieEchoed, Established, ShutdownPending, ShutdownSent, ShutdownReceived, ShutdownAckSent, State, Closed, CookieWait, Open, Context, Endpoint}
use Rattle.spec_endpoint.specs.Packets.{PacketDraft, packet_to, round_down_to_4, add, emit}
use Rattle.spec_endpoint.specs.Sending.{send_cookie}
use Rattle.spec_endpoint.specs.Opening.{word, drew_word, long_word, tag_from, tsn_from, next_first, answer, identity_of_init_ack, agreed_by, cookie_in, t1_cookie, enter_connected, echo_or_abort as echoed_by, on_read_cookie, is_spent_at}
use Rattle.spec_endpoint.specs.Input.{receive}
use Rattle.spec_endpoint.specs.Laws.{Call, ReceivePacket as Given, ReceiveNoPacket}
use Rattle.proof_endpoint.specs.Mapped.{Carried}
use Rattle.proof_endpoint.proofs.OpeningStepsLemmas.{end_in}
use Rattle.proof_endpoint.specs.Acts.{EndWithPacket, idle, calm, no_packet, echo_step, BringsChunk, always, Preserves}
use Rattle.proof_pair.specs.Trace.{AreValidOptions}
use Rattle.proof_pair.specs.Agreement.{Draw, Association, Has, History, association_of, held_in, two_drawn, one_drawn, drawn_for, AreDistinct}
use Rattle.proof_endpoint.proofs.PacketActsLemmas.{rounded_addressed, does_plain, does_emit_error, does_send_buffered, does_send_cookie}
use Rattle.proof_endpoint.proofs.RowActsLemmas.{does_closed, does_send_shutdown_ack}
use Rattle.proof_endpoint.proofs.ActsLemmas.{does_receive}
use Rattle.proof_pair.proofs.AddedLemmas.{all_at}
use Rattle.proof_pair.proofs.AgreeLemmas.{Past, View, view_of, holds, draw_in, SaysInit, SaysInitAck, SaysEcho, SaysAck, Says, waits, Waits, Holds, IsUnder, Tagged, Later}
use Rattle.proof_pair.proofs.AgreeActsLemmas.{Setting, Inv, InvAt, inv_grown, inv_bound}
use Rattle.proof_pair.proofs.AgreeQuietLemmas.{opens_nothing, Quiet, quiet}
use Rattle.proof_pair.proofs.AgreeNotesLemmas.{noted}
use Rattle.proof_pair.proofs.AgreeOpeningLemmas.{Known, kept_quiet, drawn_fits, again_fits, does_answer, does_echo, does_establish}
use Rattle.proof_pair.proofs.AgreeCookieLemmas.{past_of, bounded, Goes, has_behind, goes_held, does_cookie}
use Rattle.proof_pair.proofs.TraceLemmas.{packet_of}

-- ---- a packet whose chunks don't open an association

pub quiet_packet : (p : PacketTree) → All (λ c. opens_nothing c ≡ true) p.chunks → Quiet (Given p)
quiet_packet p all = record {
  on_received = λ tag chunk h.
      let same : p ≡ h.packet = ap (λ (c : Call). packet_of c p) h.given in
      let there : All (λ c. opens_nothing c ≡ true) h.packet.chunks = subst (λ (q : PacketTree). All (λ c. opens_nothing c ≡ true) q.chunks) same all in
      all_at (λ c. opens_nothing c ≡ true) h.among.before h.among.behind chunk (subst (All (λ c. opens_nothing c ≡ true)) h.among.split there);
  connects = λ e. cc;
  restores = λ h e. cc;
}

-- a packet with one of these is taken under other tags than the own one
abbrev pub is_mild : ChunkTree → Bool
is_mild (abort_chunk reflected causes) = false
is_mild (shutdown_complete_chunk reflected) = false
is_mild shutdown_ack_chunk = false
is_mild (cookie_echo_chunk c) = false
is_mild chunk = true

abbrev pub is_no_answer : ChunkTree → Bool
is_no_answer (init_ack_chunk i) = false
is_no_answer cookie_ack_chunk = false
is_no_answer chunk = true

-- how a packet came that has this chunk
pub record Comes (under : Option ℕ) (tag : ℕ) (c : ChunkTree) : Type 0 where
  pub answers : is_no_answer c ≡ false → under ≡ Some tag
  pub cookies : is_mild c ≡ false → under ≡ None

pub later_through : (x y z : Past) → Later x y → Later y z → Later x z
later_through x y z l m = record {
  drawn = λ d h. m.drawn d (l.drawn d h);
  held = λ a h. m.held a (l.held a h);
  echoed = λ a h. m.echoed a (l.echoed a h);
}

pub goes_through : (g : Setting) (y : Past) (n : History) (e1 : List Association) (m l : History) (s t : Endpoint Carried) (a : Goes g y n e1 m s)
    → Goes g y m a.more l t → Goes g y n e1 l t
goes_through g y n e1 m l s t a b = record {
  more = b.more;
  later = later_through (past_of n e1) (past_of m a.more) (past_of l b.more) a.later b.later;
  known = b.known;
  inv = b.inv;
}

-- what is held is what was just taken up
settled : (o : Options) (past : List (Event Carried)) (y : Past) (under : Option ℕ) (a : Association) (n : History) (e1 e2 : List Association)
    → ((b : Association) → Has b e1 → Has b e2) → Known (past_of n e2) → (phase : Phase) (t : Tcb) (d : Context Carried) (w : Stream)
    → InvAt (bounded o past under (Some a)) (past_of (record n { held = a ∷ n.held }) e2) y (idle (Open phase t) d w)
    → Goes (bounded o past under None) y n e1 (noted [] (Open phase t) n) (record { endpoint_state = record { state = Open phase t; context = d }; draws = w })
settled o past y under a n e1 e2 more known phase t d w inv =
    let b : Association = association_of t in
    let v : View = view_of (Open phase t) in
    let g : Setting = bounded o past under (Some a) in
    let m : History = record n { held = a ∷ n.held } in
    let next : History = noted [] (Open phase t) n in
    let l : Later (past_of m e2) (past_of next e2) =
    record { drawn = λ f h. h; held = λ f h. elim h [ inl e ↦ inl (e ∙ inv.tagged.same) | inr r ↦ inr r ]; echoed = λ f h. h } in
    let grown : Inv g (past_of next e2) y v d.options d.pack d.emitted.events no_packet.tag [] =
    inv_grown g (past_of m e2) y v d.options d.pack d.emitted.events no_packet.tag [] inv (past_of next e2) l refl in
    record {
      more = e2;
      later = record { drawn = λ f h. h; held = λ f h. inr h; echoed = more };
      known = known;
      inv = inv_bound g (past_of next e2) y v d.options d.pack d.emitted.events no_packet.tag [] grown (record { tag = under; only = None })
          (record { under = inv.tagged.under; same = tt });
    }

module _ (o : Options) (past : List (Event Carried)) (under : Option ℕ) (y : Past) (fine : AreValidOptions o) (theirs : AreDistinct y.drawn) (p : PacketTree) where
  abbrev g : Setting
  g = bounded o past under None

  abbrev tag : ℕ
  tag = p.header.verification_tag

  module _ (n : History) (e1 : List Association) (known : Known (past_of n e1)) where
    abbrev x : Past
    x = past_of n e1

    -- where this chunk came, and was received
    abbrev Receives : ChunkTree → Endpoint Carried → Type 0
    Receives c e = Goes g y n e1 (noted (drawn_for c e) (receive tag c e).end.endpoint_state.state n) (receive tag c e).end

    k : Preserves ReceiveNoPacket (λ a b. InvAt g x y a → InvAt g x y b)
    k = kept_quiet g y fine x

    receives_quiet : (c : ChunkTree) (e : Endpoint Carried) → opens_nothing c ≡ true → InvAt g x y (calm e)
        → Goes g y n e1 (noted [] (receive tag c e).end.endpoint_state.state n) (receive tag c e).end
    receives_quiet c e nothing_opens inv =
        let one : PacketTree = record p { chunks = c ∷ [] } in
        let all : All (λ d. opens_nothing d ≡ true) (c ∷ []) =
        All-cons (λ d. opens_nothing d ≡ true) c [] nothing_opens (All-nil (λ d. opens_nothing d ≡ true)) in
        let h : BringsChunk (Given one) tag c = record { packet = one; given = refl; under = refl; among = record { before = []; behind = []; split = refl } } in
        goes_held g y n e1 (receive tag c e).end known (does_receive (quiet g x y (Given one) fine (quiet_packet one all)) tag c e h inv)

    -- ---- INIT

    grown : (ds : List Draw) (held : List Association) (s : State) (c : Context Carried) (w : Stream) → InvAt g x y (idle s c w)
        → InvAt g (past_of (record { drawn = ds ++ n.drawn; held = held ++ n.held }) e1) y (idle s c w)
    grown ds held s c w inv =
        inv_grown g x y (view_of s) c.options c.pack c.emitted.events no_packet.tag [] inv
        (past_of (record { drawn = ds ++ n.drawn; held = held ++ n.held }) e1)
        (record { drawn = λ d h. has_behind d ds n.drawn h; held = λ a h. has_behind a held n.held h; echoed = λ a h. h }) refl

    goes_drawn : (ds : List Draw) (e : Endpoint Carried)
        → InvAt g (past_of (noted ds e.endpoint_state.state n) e1) y (calm e) → Goes g y n e1 (noted ds e.endpoint_state.state n) e
    goes_drawn ds e inv = record {
      more = e1;
      later = record {
        drawn = λ d h. has_behind d ds n.drawn h;
        held = λ a h. has_behind a (held_in e.endpoint_state.state) n.held h;
        echoed = λ a h. h;
      };
      known = λ b h. has_behind b.mine ds n.drawn (known b h);
      inv = inv;
    }

    init_again : (i : InitTree) (phase : Phase) (t : Tcb) (s : Endpoint Carried) → SaysInit y i → InvAt g x y (calm (end_in (Open phase t) s))
        → InvAt g (past_of (noted (one_drawn t s) (Open phase t) n) e1) y
        (idle (Open phase t) (answer i (tag_from (word s)) (next_first t) t.identity.tie s.endpoint_state.context) (drew_word s).draws)
    init_again i phase t s said inv =
        let m : History = noted (one_drawn t s) (Open phase t) n in
        let c : Context Carried = s.endpoint_state.context in
        does_answer g y fine (past_of m e1) (Open phase t) c (drew_word s).draws i (tag_from (word s)) (next_first t) t.identity.tie (again_fits t (word s)) (inl refl) said
        (grown (one_drawn t s) (association_of t ∷ []) (Open phase t) c s.draws inv)

    init_open : (i : InitTree) (phase : Phase) (t : Tcb) (s : Endpoint Carried) → SaysInit y i → InvAt g x y (calm (end_in (Open phase t) s))
        → Receives (init_chunk i) (end_in (Open phase t) s)
    init_open i (CookieEchoed t1 cookie) t s said inv =
        let st : State = Open (CookieEchoed t1 cookie) t in
        let h : Holds x y (association_of t) (Some cookie) = inv.stands in
        let m : History = noted [] st n in
        goes_drawn [] (receive tag (init_chunk i) (end_in st s)).end
        (does_answer g y fine (past_of m e1) st s.endpoint_state.context s.draws i t.identity.my_tag t.identity.my_first 0 h.is_kept.fits h.own said
        (grown [] (association_of t ∷ []) st s.endpoint_state.context s.draws inv))
    init_open i Established t s said inv =
        goes_drawn (one_drawn t s) (receive tag (init_chunk i) (end_in (Open Established t) s)).end (init_again i Established t s said inv)
    init_open i ShutdownPending t s said inv =
        goes_drawn (one_drawn t s) (receive tag (init_chunk i) (end_in (Open ShutdownPending t) s)).end (init_again i ShutdownPending t s said inv)
    init_open i (ShutdownSent t2) t s said inv =
        goes_drawn (one_drawn t s) (receive tag (init_chunk i) (end_in (Open (ShutdownSent t2) t) s)).end (init_again i (ShutdownSent t2) t s said inv)
    init_open i ShutdownReceived t s said inv =
        goes_drawn (one_drawn t s) (receive tag (init_chunk i) (end_in (Open ShutdownReceived t) s)).end (init_again i ShutdownReceived t s said inv)
    init_open i (ShutdownAckSent t2) t s said inv =
        goes_held g y n e1 (receive tag (init_chunk i) (end_in (Open (ShutdownAckSent t2) t) s)).end known
        (does_send_shutdown_ack k s.draws (ShutdownAckSent t2) t s.endpoint_state.context inv)

    receives_init : (i : InitTree) (st : State) (s : Endpoint Carried) → SaysInit y i → InvAt g x y (calm (end_in st s)) → Receives (init_chunk i) (end_in st s)
    receives_init i Closed s said inv =
        let m : History = noted (two_drawn s) Closed n in
        let c : Context Carried = s.endpoint_state.context in
        goes_drawn (two_drawn s) (receive tag (init_chunk i) (end_in Closed s)).end
        (does_answer g y fine (past_of m e1) Closed c (drew_word (drew_word s)).draws i (tag_from (word (drew_word s))) (tsn_from (word s)) 0
        (drawn_fits (word s) (word (drew_word s))) (inl refl) said (grown (two_drawn s) [] Closed c s.draws inv))
    receives_init i (CookieWait my_tag first t1) s said inv =
        let st : State = CookieWait my_tag first t1 in
        let h : Waits x (record { tag = my_tag; first = first }) = inv.stands in
        goes_held g y n e1 (receive tag (init_chunk i) (end_in st s)).end known
        (does_answer g y fine x st s.endpoint_state.context s.draws i my_tag first 0 h.fits h.own said inv)
    receives_init i (Open phase t) s said inv = init_open i phase t s said inv

    -- ---- INIT ACK

    module _ (i : InitTree) (said : SaysInitAck y x tag i) (is : under ≡ Some tag) (mine : AreDistinct n.drawn) where
      own_tag : (u : Option ℕ) (d : Draw) → u ≡ Some tag → IsUnder u (waits d) → d.tag ≡ tag
      own_tag None d e h = cc
      own_tag (Some v) d e h = h ∙ same_Some v tag e

      taken : (cookie : List ℕ) (my_tag first : ℕ) (t1 : Timer) (s : Endpoint Carried) → cookie_in i.parameters ≡ Some cookie
          → InvAt g x y (calm (end_in (CookieWait my_tag first t1) s))
          → Goes g y n e1 (noted [] (echoed_by i (Some cookie) my_tag first (end_in (CookieWait my_tag first t1) s)).endpoint_state.state n)
          (echoed_by i (Some cookie) my_tag first (end_in (CookieWait my_tag first t1) s))
      taken cookie my_tag first t1 s brought inv =
          let c : Context Carried = s.endpoint_state.context in
          let d : Draw = record { tag = my_tag; first = first } in
          let a : Association = record { mine = d; peer = draw_in i } in
          let e : Endpoint Carried = end_in (CookieWait my_tag first t1) s in
          let m : EndWithPacket Carried = echo_step i cookie my_tag first (calm e) in
          let t : Tcb = tcb c.options (identity_of_init_ack i my_tag first (long_word s)) i.a_rwnd (agreed_by c.options i) in
          let z : Past = past_of (record n { held = a ∷ n.held }) (a ∷ e1) in
          let u : my_tag ≡ tag = own_tag under d is inv.tagged.under in
          let tagged : Tagged g.under (holds a (Some cookie)) = record { under = subst (λ (o : Option ℕ). IsUnder o (holds a (Some cookie))) (sym is) u; same = tt } in
          let next : InvAt g z y m = does_echo g y fine x tag i cookie my_tag first t1 c s.draws mine said brought u tagged inv in
          let h : Setting = bounded o past under (Some a) in
          let bound : InvAt h z y m =
          inv_bound g z y (holds a (Some cookie)) m.context.options m.context.pack m.context.emitted.events no_packet.tag [] next h.under
          (record { under = tagged.under; same = refl }) in
          let there : Waits x d = inv.stands in
          settled o past y under a n e1 (a ∷ e1) (λ b q. inr q)
          (λ b q. elim q [ inl r ↦ subst (λ (f : Association). Has f.mine n.drawn) (sym r) there.own | inr r ↦ known b r ])
          (CookieEchoed (t1_cookie c) cookie) (send_cookie cookie t m.context).tcb (send_cookie cookie t m.context).context m.draws
          (does_send_cookie (kept_quiet h y fine z) (t1_cookie c) cookie m.draws t m.context bound)

      without : (my_tag first : ℕ) (t1 : Timer) (s : Endpoint Carried) → InvAt g x y (calm (end_in (CookieWait my_tag first t1) s))
          → Goes g y n e1 (noted [] Closed n) (echoed_by i None my_tag first (end_in (CookieWait my_tag first t1) s))
      without my_tag first t1 s inv =
          let c : Context Carried = s.endpoint_state.context in
          let st : State = CookieWait my_tag first t1 in
          let chunk : ChunkTree = abort_chunk false (missing_mandatory_parameter (7 ∷ []) ∷ []) in
          let q : PacketDraft = packet_to i.initiate_tag (round_down_to_4 c.options.mtu) in
          goes_held g y n e1 (echoed_by i None my_tag first (end_in st s)) known
          (does_closed k s.draws (OnAborted ProtocolViolation (codes "InitAck chunk doesn't contain a cookie")) st (emit (add chunk q) c) refl refl
          (does_plain k chunk q st c s.draws refl refl (always refl) (rounded_addressed st c s.draws i.initiate_tag (λ f. absurd (f.some refl))) (λ f. absurd (f.some refl)) inv))

      answered : (b : Option (List ℕ)) (my_tag first : ℕ) (t1 : Timer) (s : Endpoint Carried) → cookie_in i.parameters ≡ b
          → InvAt g x y (calm (end_in (CookieWait my_tag first t1) s))
          → Goes g y n e1 (noted [] (echoed_by i b my_tag first (end_in (CookieWait my_tag first t1) s)).endpoint_state.state n)
          (echoed_by i b my_tag first (end_in (CookieWait my_tag first t1) s))
      answered None my_tag first t1 s brought inv = without my_tag first t1 s inv
      answered (Some cookie) my_tag first t1 s brought inv = taken cookie my_tag first t1 s brought inv

      receives_init_ack : (st : State) (s : Endpoint Carried) → InvAt g x y (calm (end_in st s)) → Receives (init_ack_chunk i) (end_in st s)
      receives_init_ack Closed s inv = goes_held g y n e1 (end_in Closed s) known inv
      receives_init_ack (CookieWait my_tag first t1) s inv = answered (cookie_in i.parameters) my_tag first t1 s refl inv
      receives_init_ack (Open phase t) s inv = goes_held g y n e1 (end_in (Open phase t) s) known inv

    -- ---- COOKIE ACK

    module _ (said : SaysAck y x tag) (is : under ≡ Some tag) where
      mine_under : (u : Option ℕ) (a : Association) (kept : Option (List ℕ)) → u ≡ Some tag → IsUnder u (holds a kept) → a.mine.tag ≡ tag
      mine_under None a kept e h = cc
      mine_under (Some v) a kept e h = h ∙ same_Some v tag e

      acked_open : (phase : Phase) (t : Tcb) (s : Endpoint Carried) → InvAt g x y (calm (end_in (Open phase t) s)) → Receives cookie_ack_chunk (end_in (Open phase t) s)
      acked_open (CookieEchoed t1 cookie) t s inv =
          let c : Context Carried = s.endpoint_state.context in
          let st : State = Open (CookieEchoed t1 cookie) t in
          let own : t.identity.my_tag ≡ tag = mine_under under (association_of t) (Some cookie) is inv.tagged.under in
          goes_held g y n e1 (receive tag cookie_ack_chunk (end_in st s)).end known
          (does_send_buffered k Established s.draws false t (enter_connected c) (does_establish g y fine x tag t1 cookie t c s.draws said own inv))
      acked_open Established t s inv = goes_held g y n e1 (end_in (Open Established t) s) known inv
      acked_open ShutdownPending t s inv = goes_held g y n e1 (end_in (Open ShutdownPending t) s) known inv
      acked_open (ShutdownSent t2) t s inv = goes_held g y n e1 (end_in (Open (ShutdownSent t2) t) s) known inv
      acked_open ShutdownReceived t s inv = goes_held g y n e1 (end_in (Open ShutdownReceived t) s) known inv
      acked_open (ShutdownAckSent t2) t s inv = goes_held g y n e1 (end_in (Open (ShutdownAckSent t2) t) s) known inv

      receives_ack : (st : State) (s : Endpoint Carried) → InvAt g x y (calm (end_in st s)) → Receives cookie_ack_chunk (end_in st s)
      receives_ack Closed s inv = goes_held g y n e1 (end_in Closed s) known inv
      receives_ack (CookieWait my_tag first t1) s inv = goes_held g y n e1 (end_in (CookieWait my_tag first t1) s) known inv
      receives_ack (Open phase t) s inv = acked_open phase t s inv

-- ---- COOKIE ECHO

module _ (o : Options) (past : List (Event Carried)) (y : Past) (fine : AreValidOptions o) (theirs : AreDistinct y.drawn) (p : PacketTree)
    (n : History) (e1 : List Association) (known : Known (past_of n e1)) (mine : AreDistinct n.drawn) (cookie : List ℕ)
    (said : SaysEcho y (past_of n e1) p.header.verification_tag cookie) where
  read_as : (r : Result Cookie StateCookieError) (st : State) (s : Endpoint Carried) → read_cookie cookie ≡ r
      → InvAt (bounded o past None None) (past_of n e1) y (calm (end_in st s))
      → Goes (bounded o past None None) y n e1 (noted [] (on_read_cookie p.header.verification_tag r (end_in st s)).endpoint_state.state n)
      (on_read_cookie p.header.verification_tag r (end_in st s))
  read_as (Ok a) st s reads inv =
      does_cookie o past y fine n e1 known p.header.verification_tag cookie said a reads mine theirs (is_spent_at a (end_in st s).endpoint_state) st s inv
  read_as (Err fault) st s reads inv =
      goes_held (bounded o past None None) y n e1 (on_read_cookie p.header.verification_tag (Err fault) (end_in st s)) known
      (does_emit_error (kept_quiet (bounded o past None None) y fine (past_of n e1)) ParseFailed (refusal_text fault) st s.endpoint_state.context s.draws inv)

  receives_cookie : (st : State) (s : Endpoint Carried) → InvAt (bounded o past None None) (past_of n e1) y (calm (end_in st s))
      → Goes (bounded o past None None) y n e1 (noted [] (receive p.header.verification_tag (cookie_echo_chunk cookie) (end_in st s)).end.endpoint_state.state n)
      (receive p.header.verification_tag (cookie_echo_chunk cookie) (end_in st s)).end
  receives_cookie Closed s inv = read_as (read_cookie cookie) Closed s refl inv
  receives_cookie (CookieWait my_tag first t1) s inv = read_as (read_cookie cookie) (CookieWait my_tag first t1) s refl inv
  receives_cookie (Open phase t) s inv = read_as (read_cookie cookie) (Open phase t) s refl inv

-- ---- any chunk

module _ (o : Options) (past : List (Event Carried)) (y : Past) (fine : AreValidOptions o) (theirs : AreDistinct y.drawn) (p : PacketTree) where
  receives_echo : (under : Option ℕ) (n : History) (e1 : List Association) (cookie : List ℕ) (e : Endpoint Carried) → under ≡ None → Known (past_of n e1) → AreDistinct n.drawn
      → SaysEcho y (past_of n e1) p.header.verification_tag cookie → InvAt (bounded o past under None) (past_of n e1) y (calm e)
      → Goes (bounded o past under None) y n e1 (noted [] (receive p.header.verification_tag (cookie_echo_chunk cookie) e).end.endpoint_state.state n)
      (receive p.header.verification_tag (cookie_echo_chunk cookie) e).end
  receives_echo None n e1 cookie e is known mine said inv = receives_cookie o past y fine theirs p n e1 known mine cookie said e.endpoint_state.state e inv
  receives_echo (Some tag) n e1 cookie e is known mine said inv = cc

  module _ (under : Option ℕ) (n : History) (e1 : List Association) (known : Known (past_of n e1)) where
    abbrev ReceivedBy : ChunkTree → Endpoint Carried → Type 0
    ReceivedBy c e =
        Goes (bounded o past under None) y n e1 (noted (drawn_for c e) (receive p.header.verification_tag c e).end.endpoint_state.state n) (receive p.header.verification_tag c e).end

    pub receives : (c : ChunkTree) (e : Endpoint Carried) → Comes under p.header.verification_tag c → Says y (past_of n e1) p.header.verification_tag c
        → AreDistinct n.drawn → InvAt (bounded o past under None) (past_of n e1) y (calm e) → ReceivedBy c e
    receives (init_chunk i) e comes said mine inv = receives_init o past under y fine theirs p n e1 known i e.endpoint_state.state e said inv
    receives (init_ack_chunk i) e comes said mine inv = receives_init_ack o past under y fine theirs p n e1 known i said (comes.answers refl) mine e.endpoint_state.state e inv
    receives (cookie_echo_chunk c) e comes said mine inv = receives_echo under n e1 c e (comes.cookies refl) known mine said inv
    receives cookie_ack_chunk e comes said mine inv = receives_ack o past under y fine theirs p n e1 known said (comes.answers refl) e.endpoint_state.state e inv
    receives (data_chunk tsn immediate f) e comes said mine inv = receives_quiet o past under y fine theirs p n e1 known (data_chunk tsn immediate f) e refl inv
    receives (idata_chunk tsn immediate f) e comes said mine inv = receives_quiet o past under y fine theirs p n e1 known (idata_chunk tsn immediate f) e refl inv
    receives (sack_chunk s) e comes said mine inv = receives_quiet o past under y fine theirs p n e1 known (sack_chunk s) e refl inv
    receives (heartbeat_request_chunk ps) e comes said mine inv = receives_quiet o past under y fine theirs p n e1 known (heartbeat_request_chunk ps) e refl inv
    receives (heartbeat_ack_chunk ps) e comes said mine inv = receives_quiet o past under y fine theirs p n e1 known (heartbeat_ack_chunk ps) e refl inv
    receives (abort_chunk reflected causes) e comes said mine inv = receives_quiet o past under y fine theirs p n e1 known (abort_chunk reflected causes) e refl inv
    receives (shutdown_chunk tsn) e comes said mine inv = receives_quiet o past under y fine theirs p n e1 known (shutdown_chunk tsn) e refl inv
    receives shutdown_ack_chunk e comes said mine inv = receives_quiet o past under y fine theirs p n e1 known shutdown_ack_chunk e refl inv
    receives (error_chunk causes) e comes said mine inv = receives_quiet o past under y fine theirs p n e1 known (error_chunk causes) e refl inv
    receives (shutdown_complete_chunk reflected) e comes said mine inv = receives_quiet o past under y fine theirs p n e1 known (shutdown_complete_chunk reflected) e refl inv
    receives (re_config_chunk ps) e comes said mine inv = receives_quiet o past under y fine theirs p n e1 known (re_config_chunk ps) e refl inv
    receives (forward_tsn_chunk tsn skipped) e comes said mine inv = receives_quiet o past under y fine theirs p n e1 known (forward_tsn_chunk tsn skipped) e refl inv
    receives (i_forward_tsn_chunk tsn skipped) e comes said mine inv = receives_quiet o past under y fine theirs p n e1 known (i_forward_tsn_chunk tsn skipped) e refl inv
    receives (unknown_chunk typ flags value) e comes said mine inv = receives_quiet o past under y fine theirs p n e1 known (unknown_chunk typ flags value) e refl inv
