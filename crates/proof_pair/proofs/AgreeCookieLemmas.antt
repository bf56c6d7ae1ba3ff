-- A cookie that comes back, over every trace: who made it, and what becomes of it.
use Rattle.std.proofs.Common.{◌≡◌, ℕ, ◌==◌, not, Bool, true, false, Option, Some, None, Ok, List, [], ◌∷◌, ◌++◌, codes, inl, inr, refl, sym, ap, subst, ◌∙◌, ◌&&◌}
use Rattle.std.proofs.lemmas.Bool.Decides.{nat_tests}
use Rattle.std.proofs.Common.{arith}
use Rattle.sctp_wire.specs.Cause.{cookie_received_while_shutting_down}
use Rattle.rand_core.specs.Stream.{Stream}
use Rattle.sctp_packet.specs.Chunk.{ChunkTree, error_chunk, cookie_ack_chunk, shutdown_ack_chunk}
use Rattle.sctp_capabilities.specs.StateCookie.{Cookie, read_cookie}
use Rattle.sctp_state.specs.Events.{Event, OnConnected, OnConnectionRestarted}
use Rattle.sctp_state.specs.Options.{Options}
use Rattle.sctp_state.specs.declared.api.ErrorKind.TheVariants.{ParseFailed, WrongSequence}
use Rattle.spec_endpoint.specs.Association.{Tcb, Phase, CookieEchoed, Established, ShutdownPending, ShutdownSent, ShutdownReceived, ShutdownAckSent, State, Closed, CookieWait, Open, Context, Endpoint}
use Rattle.spec_endpoint.specs.Packets.{PacketDraft, new_packet, fits, add, emit, packet_to}
use Rattle.spec_endpoint.specs.Opening.{long_word, enter_connected, cookie_ack, tcb_by, establishes, CookieResolution, EstablishNew, RestartDetected, SimultaneousInit, MaintainExisting, Discard, InvalidTag, new_if, resolve_cookie, resolve_by_tags, by_tags, maintain_existing, too_late, restarts_in, on_resolution, new_unless, restarted as restarted_in, as_restart, spent_chunk, refuse_spent, on_cookie_unless}
use Rattle.spec_endpoint.specs.Laws.{ReceiveNoPacket}
use Rattle.proof_endpoint.specs.Mapped.{Carried}
use Rattle.proof_endpoint.proofs.OpeningStepsLemmas.{end_in}
use Rattle.proof_endpoint.specs.Acts.{at, no_packet, idle, calm, is_opened, all_along, as_held, adds_plain, Preserves, always}
use Rattle.proof_pair.specs.Trace.{AreValidOptions}
use Rattle.proof_pair.specs.Agreement.{Draw, Association, mirrored, Has, History, association_of, held_in, AreDistinct}
use Rattle.proof_endpoint.proofs.BundledLemmas.{added_more, first_more, plain_added}
use Rattle.proof_endpoint.proofs.PacketActsLemmas.{new_addressed, whole_addressed, does_begin, does_out, does_emit_error, does_send_with, does_plain}
use Rattle.proof_endpoint.proofs.OpeningActsLemmas.{accepting, maintained_alone}
use Rattle.proof_pair.proofs.AgreeLemmas.{Past, View, holds, view_of, own_in, peer_in, SaysEcho, SaysAck, Holds, Tagged, Later, later_same, one_draw}
use Rattle.proof_pair.proofs.AgreeActsLemmas.{Setting, Inv, InvAt, inv_view, inv_silent, inv_later, inv_grown, inv_bound, adds, inv_no_packet_or_status}
use Rattle.proof_pair.proofs.AgreeNotesLemmas.{noted}
use Rattle.proof_pair.proofs.AgreeOpeningLemmas.{Known, kept_quiet}
use Rattle.spec_endpoint.specs.Shutdown.{emptied_if}
use Rattle.proof_pair.proofs.UntilLemmas.{restart_gives_up}
use Rattle.proof_pair.proofs.EmittedLemmas.{EmitsNoPacketOrStatus}
use Rattle.spec_endpoint.specs.Sending.{is_before_cookie_ack}

abbrev pub past_of : History → List Association → Past
past_of n echoed = record { drawn = n.drawn; held = n.held; echoed = echoed }

abbrev pub bounded : Options → List (Event Carried) → Option ℕ → Option Association → Setting
bounded o past tag only = record { own = o; past = past; under = record { tag = tag; only = only } }

-- an end goes on, from these histories to those
pub record Goes (g : Setting) (y : Past) (n : History) (echoed : List Association) (m : History) (e : Endpoint Carried) : Type 0 where
  pub more : List Association
  pub later : Later (past_of n echoed) (past_of m more)
  pub known : Known (past_of m more)
  pub inv : InvAt g (past_of m more) y (calm e)

pub has_behind : {A : Type 0} (x : A) (xs ys : List A) → Has x ys → Has x (xs ++ ys)
has_behind x [] ys h = h
has_behind x (z ∷ xs) ys h = inr (has_behind x xs ys h)

pub goes_held : (g : Setting) (y : Past) (n : History) (echoed : List Association) (e : Endpoint Carried) → Known (past_of n echoed)
    → InvAt g (past_of n echoed) y (calm e) → Goes g y n echoed (noted [] e.endpoint_state.state n) e
goes_held g y n echoed e known inv =
    let m : History = noted [] e.endpoint_state.state n in
    let l : Later (past_of n echoed) (past_of m echoed) =
    record { drawn = λ d h. h; held = λ a h. has_behind a (held_in e.endpoint_state.state) n.held h; echoed = λ a h. h } in
    let c : Context Carried = e.endpoint_state.context in
    record {
      more = echoed;
      later = l;
      known = known;
      inv = inv_grown g (past_of n echoed) y (view_of e.endpoint_state.state) c.options c.pack c.emitted.events no_packet.tag [] inv (past_of m echoed) l refl;
    }

same_numbers : (a b : ℕ) → not (a == b) ≡ false → a ≡ b
same_numbers a b h = grind (arith, nat_tests)

both_false : (a b x z : Bool) → by_tags a b x z ≡ MaintainExisting → (a ≡ false) × (b ≡ false)
both_false true true true z e = cc
both_false true true false z e = cc
both_false false true x z e = cc
both_false true false x true e = cc
both_false true false x false e = cc
both_false false false x z e = (refl, refl)

module _ (o : Options) (past : List (Event Carried)) (y : Past) (fine : AreValidOptions o) (n : History) (echoed : List Association) (known : Known (past_of n echoed))
    (tag : ℕ) (cookie : List ℕ) (said : SaysEcho y (past_of n echoed) tag cookie) (k : Cookie) (reads : read_cookie cookie ≡ Ok k) where
  abbrev g : Setting
  g = bounded o past None None

  abbrev x : Past
  x = past_of n echoed

  abbrev a : Association
  a = record { mine = own_in k; peer = peer_in k }

  own_is : own_in k ≡ said.a.peer
  own_is = said.names.own_is k reads

  peer_is : peer_in k ≡ said.a.mine
  peer_is = said.names.peer_is k reads

  mirrored_is : said.a ≡ mirrored a
  mirrored_is =
      sym (ap (λ (d : Draw). record { mine = d; peer = own_in k }) peer_is ∙ ap (λ (d : Draw). record { mine = said.a.mine; peer = d }) own_is)

  there : Has (mirrored a) y.held
  there = subst (λ (b : Association). Has b y.held) mirrored_is said.held

  -- the COOKIE ACK, by an end that holds or held the association
  acks : (z : Past) → Has a z.held → SaysAck z y k.peer_tag
  acks z h = record { a = mirrored a; echoed = subst (λ (b : Association). Has b y.echoed) mirrored_is said.echoed; held = h; under = refl }

  accepts : (h : Setting) (z : Past) (phase : Phase) (t : Tcb) (c : Context Carried) (w : Stream) → h.own ≡ o → Has a z.held
      → InvAt h z y (idle (Open phase t) c w)
      → InvAt h z y (idle (Open phase (cookie_ack k.peer_tag t c).tcb) (cookie_ack k.peer_tag t c).context w)
  accepts h z phase t c w same here inv =
      let own : AreValidOptions h.own = subst AreValidOptions (sym same) fine in
      let q : Preserves ReceiveNoPacket (λ a b. InvAt h z y a → InvAt h z y b) = kept_quiet h y own z in
      let p : PacketDraft = accepting c.options k.peer_tag t in
      let begun : InvAt h z y (at (Open phase t) c w p) = does_begin q (Open phase t) c w p refl (as_held phase t refl refl)
      (whole_addressed (Open phase t) c w p refl (λ f held. absurd (f.some refl))) inv in
      does_send_with q phase w false (add cookie_ack_chunk p) t c (first_more cookie_ack_chunk p refl refl)
      (adds h z y (view_of (Open phase t)) c.options c.pack c.emitted.events p cookie_ack_chunk begun (acks z here) (inr (refl, refl)))

  -- ---- a control block is made

  -- what is held then is this association
  ended_as : (st : State) (d : Context Carried) (w : Stream) → InvAt (bounded o past None (Some a)) (past_of (record n { held = a ∷ n.held }) echoed) y (idle st d w)
      → is_opened st ≡ true → Goes g y n echoed (noted [] st n) (record { endpoint_state = record { state = st; context = d }; draws = w })
  ended_as Closed d w inv is = cc
  ended_as (CookieWait my_tag first t1) d w inv is = cc
  ended_as (Open phase t) d w inv is =
      let b : Association = association_of t in
      let v : View = view_of (Open phase t) in
      let m : History = record n { held = a ∷ n.held } in
      let next : History = noted [] (Open phase t) n in
      let l : Later (past_of m echoed) (past_of next echoed) = record { drawn = λ f h. h; held = λ f h. elim h [ inl e ↦ inl (e ∙ inv.tagged.same) | inr r ↦ inr r ]; echoed = λ f h. h } in
      let grown : Inv (bounded o past None (Some a)) (past_of next echoed) y v d.options d.pack d.emitted.events no_packet.tag [] =
      inv_grown (bounded o past None (Some a)) (past_of m echoed) y v d.options d.pack d.emitted.events no_packet.tag [] inv (past_of next echoed) l refl in
      record {
        more = echoed;
        later = record { drawn = λ f h. h; held = λ f h. inr h; echoed = λ f h. h };
        known = known;
        inv = inv_bound (bounded o past None (Some a)) (past_of next echoed) y v d.options d.pack d.emitted.events no_packet.tag [] grown g.under (record { under = tt; same = tt });
      }

  anew : (resets : Bool) (v : View) (c : Context Carried) (s : Endpoint Carried) → Inv g x y v c.options c.pack c.emitted.events no_packet.tag []
      → Goes g y n echoed (noted [] (establishes resets k c s).endpoint_state.state n) (establishes resets k c s)
  anew resets v c s inv =
      let e : Endpoint Carried = establishes resets k c s in
      let m : History = record n { held = a ∷ n.held } in
      let z : Past = past_of m echoed in
      let l : Later x z = record { drawn = λ d h. h; held = λ b h. inr h; echoed = λ b h. h } in
      let free : Tagged g.under (holds a None) = record { under = tt; same = tt } in
      let opened : Inv g z y (holds a None) c.options c.pack c.emitted.events no_packet.tag [] =
      inv_later g x y v c.options c.pack c.emitted.events no_packet.tag [] inv z y l (later_same y) (holds a None)
      (record {
        own = subst (λ (d : Draw). Has d n.drawn) (sym own_is) said.other;
        other = subst (λ (d : Draw). Has d y.drawn) (sym peer_is) said.own;
        held = inl refl;
        is_kept = tt;
      })
      (λ h. there) free in
      let connected : Inv g z y (holds a None) c.options c.pack (c.emitted.events ++ OnConnected ∷ []) no_packet.tag [] =
      inv_view g z y (holds a None) c.options c.pack c.emitted.events no_packet.tag [] opened (holds a None) (OnConnected ∷ []) refl opened.stands (λ h. there) free in
      let h : Setting = bounded o past None (Some a) in
      let bound : Inv h z y (holds a None) c.options c.pack (c.emitted.events ++ OnConnected ∷ []) no_packet.tag [] =
      inv_bound g z y (holds a None) c.options c.pack (c.emitted.events ++ OnConnected ∷ []) no_packet.tag [] connected h.under (record { under = tt; same = refl }) in
      let done : InvAt h z y (calm e) = accepts h z Established (tcb_by c.options k (long_word s)) _ e.draws refl (inl refl) bound in
      ended_as e.endpoint_state.state e.endpoint_state.context e.draws done refl

  -- ---- `OnConnected` is emitted again of the own association

  is_own : (t : Tcb) (late : Option (List ℕ)) → AreDistinct n.drawn → AreDistinct y.drawn → resolve_by_tags tag t.identity k ≡ MaintainExisting
      → Holds x y (association_of t) late → a ≡ association_of t
  is_own t late mine theirs resolution h =
      let tests = both_false (not (tag == t.identity.my_tag)) (not (k.peer_tag == t.identity.peer_tag)) (k.tie_tag == t.identity.tie) (k.tie_tag == 0) resolution in
      let b : Association = association_of t in
      let first : own_in k ≡ b.mine =
      own_is ∙ one_draw n.drawn said.a.peer b.mine mine said.other h.own (sym said.under ∙ same_numbers tag t.identity.my_tag tests.0) in
      let second : peer_in k ≡ b.peer =
      peer_is ∙ one_draw y.drawn said.a.mine b.peer theirs said.own h.other
      (sym (ap (λ (d : Draw). d.tag) peer_is) ∙ same_numbers k.peer_tag t.identity.peer_tag tests.1) in
      ap (λ (d : Draw). record { mine = d; peer = peer_in k }) first ∙ ap (λ (d : Draw). record { mine = b.mine; peer = d }) second

  module _ (mine : AreDistinct n.drawn) (theirs : AreDistinct y.drawn) where
    kept_late : (phase : Phase) (t : Tcb) (c : Context Carried) (w : Stream) → a ≡ association_of t → Has (association_of t) n.held
        → InvAt g x y (idle (Open phase t) c w)
        → Goes g y n echoed (noted [] (Open phase (cookie_ack k.peer_tag t c).tcb) n)
        (record { endpoint_state = record { state = Open phase (cookie_ack k.peer_tag t c).tcb; context = (cookie_ack k.peer_tag t c).context }; draws = w })
    kept_late phase t c w is here inv =
        goes_held g y n echoed
        (record { endpoint_state = record { state = Open phase (cookie_ack k.peer_tag t c).tcb; context = (cookie_ack k.peer_tag t c).context }; draws = w }) known
        (accepts g x phase t c w refl (subst (λ (b : Association). Has b n.held) (sym is) here) inv)

    keeps : (phase : Phase) (t : Tcb) (c : Context Carried) (w : Stream) → resolve_by_tags tag t.identity k ≡ MaintainExisting → InvAt g x y (idle (Open phase t) c w)
        → Goes g y n echoed (noted [] (maintain_existing k phase t c).state n) (record { endpoint_state = maintain_existing k phase t c; draws = w })
    keeps (CookieEchoed t1 held) t c w resolution inv =
        let b : Association = association_of t in
        let h : Holds x y b (Some held) = inv.stands in
        let is : a ≡ b = is_own t (Some held) mine theirs resolution h in
        let connected : Inv g x y (holds b None) c.options c.pack (c.emitted.events ++ OnConnected ∷ []) no_packet.tag [] =
        inv_view g x y (holds b (Some held)) c.options c.pack c.emitted.events no_packet.tag [] inv (holds b None) (OnConnected ∷ []) refl
        (record { own = h.own; other = h.other; held = h.held; is_kept = tt }) (λ e. subst (λ (z : Association). Has (mirrored z) y.held) is there)
        (record { under = tt; same = tt }) in
        kept_late Established t (enter_connected c) w is h.held connected
    keeps Established t c w resolution inv =
        kept_late Established t c w (is_own t None mine theirs resolution inv.stands) inv.stands.held inv
    keeps ShutdownPending t c w resolution inv =
        kept_late ShutdownPending t c w (is_own t None mine theirs resolution inv.stands) inv.stands.held inv
    keeps (ShutdownSent t2) t c w resolution inv =
        kept_late (ShutdownSent t2) t c w (is_own t None mine theirs resolution inv.stands) inv.stands.held inv
    keeps ShutdownReceived t c w resolution inv =
        kept_late ShutdownReceived t c w (is_own t None mine theirs resolution inv.stands) inv.stands.held inv
    keeps (ShutdownAckSent t2) t c w resolution inv =
        kept_late (ShutdownAckSent t2) t c w (is_own t None mine theirs resolution inv.stands) inv.stands.held inv

    -- ---- as it is judged

    quiet_here : Preserves ReceiveNoPacket (λ p q. InvAt g x y p → InvAt g x y q)
    quiet_here = kept_quiet g y fine x

    late_by : (phase : Phase) (t : Tcb) (c : Context Carried) (w : Stream) → InvAt g x y (idle (Open phase t) c w) → InvAt g x y (idle (Open phase t) (too_late t c) w)
    late_by phase t c w inv =
        let p : PacketDraft = new_packet c.options t in
        let q : PacketDraft = add shutdown_ack_chunk p in
        let chunk : ChunkTree = error_chunk (cookie_received_while_shutting_down ∷ []) in
        let s : State = Open phase t in
        let begun : InvAt g x y (at s c w p) = does_begin quiet_here s c w p refl (as_held phase t refl refl) (new_addressed phase t c w) inv in
        let one : InvAt g x y (at s c w q) = quiet_here.packets (adds_plain shutdown_ack_chunk (at s c w p) refl refl (λ f. absurd (f.some refl))) begun in
        let two : InvAt g x y (at s c w (add chunk q)) =
        quiet_here.packets (adds_plain chunk (at s c w q) refl (plain_added (fits p shutdown_ack_chunk) p refl) (λ f. absurd (f.some refl))) one in
        does_emit_error quiet_here WrongSequence (codes "Received COOKIE-ECHO while shutting down") s (emit (add chunk q) c) w (does_out quiet_here s c w (add chunk q) (all_along (added_more chunk q (first_more shutdown_ack_chunk p refl refl) refl)) two)

    restarts_by : (phase : Phase) (t : Tcb) (c : Context Carried) (s : Endpoint Carried) → InvAt g x y (idle (Open phase t) c s.draws)
        → Goes g y n echoed (noted [] (establishes true k (restarted_in c) s).endpoint_state.state n) (establishes true k (restarted_in c) s)
    restarts_by phase t c s inv =
        let v : View = view_of (Open phase t) in
        let l : EmitsNoPacketOrStatus c.emitted (emptied_if c.options.avoid_stalls c).emitted = restart_gives_up c in
        let es : List (Event Carried) = (emptied_if c.options.avoid_stalls c).emitted.events in
        anew true v (restarted_in c) s
        (inv_light_restart v c es (inv_no_packet_or_status g x y v c.options c.pack c.emitted.events no_packet.tag [] inv l.events es l.behind l.all))
      where
        inv_light_restart : (v : View) (c : Context Carried) (es : List (Event Carried)) → Inv g x y v c.options c.pack es no_packet.tag []
            → Inv g x y v c.options c.pack (es ++ OnConnectionRestarted ∷ []) no_packet.tag []
        inv_light_restart v c es i = inv_silent g x y v c.options c.pack es no_packet.tag [] i (OnConnectionRestarted ∷ []) refl refl

    restarted : (phase : Phase) (t : Tcb) (s : Endpoint Carried) → InvAt g x y (calm (end_in (Open phase t) s))
        → Goes g y n echoed (noted [] (restarts_in phase t k (end_in (Open phase t) s)).endpoint_state.state n) (restarts_in phase t k (end_in (Open phase t) s))
    restarted (CookieEchoed t1 held) t s inv = restarts_by (CookieEchoed t1 held) t s.endpoint_state.context (end_in (Open (CookieEchoed t1 held) t) s) inv
    restarted Established t s inv = restarts_by Established t s.endpoint_state.context (end_in (Open Established t) s) inv
    restarted ShutdownPending t s inv = restarts_by ShutdownPending t s.endpoint_state.context (end_in (Open ShutdownPending t) s) inv
    restarted (ShutdownSent t2) t s inv = restarts_by (ShutdownSent t2) t s.endpoint_state.context (end_in (Open (ShutdownSent t2) t) s) inv
    restarted ShutdownReceived t s inv = restarts_by ShutdownReceived t s.endpoint_state.context (end_in (Open ShutdownReceived t) s) inv
    restarted (ShutdownAckSent t2) t s inv =
        goes_held g y n echoed (restarts_in (ShutdownAckSent t2) t k (end_in (Open (ShutdownAckSent t2) t) s)) known
        (late_by (ShutdownAckSent t2) t s.endpoint_state.context s.draws inv)

    invalid : (st : State) (s : Endpoint Carried) → InvAt g x y (calm (end_in st s))
        → Goes g y n echoed (noted [] st n) (on_resolution InvalidTag k (end_in st s))
    invalid st s inv =
        goes_held g y n echoed (on_resolution InvalidTag k (end_in st s)) known
        (does_emit_error quiet_here ParseFailed (codes "Received CookieEcho with invalid verification tag") st s.endpoint_state.context s.draws inv)

    judged_open : (is_late : Bool) (v : CookieResolution) (phase : Phase) (t : Tcb) (s : Endpoint Carried) → as_restart is_late (resolve_by_tags tag t.identity k) ≡ v → InvAt g x y (calm (end_in (Open phase t) s))
        → Goes g y n echoed (noted [] (on_resolution v k (end_in (Open phase t) s)).endpoint_state.state n) (on_resolution v k (end_in (Open phase t) s))
    judged_open is_late EstablishNew phase t s is inv = anew s.endpoint_state.context.options.avoid_stalls (view_of (Open phase t)) s.endpoint_state.context (end_in (Open phase t) s) inv
    judged_open is_late RestartDetected phase t s is inv = restarted phase t s inv
    judged_open is_late SimultaneousInit phase t s is inv = anew true (view_of (Open phase t)) s.endpoint_state.context (end_in (Open phase t) s) inv
    judged_open is_late MaintainExisting phase t s is inv = keeps phase t s.endpoint_state.context s.draws (maintained_alone is_late _ is) inv
    judged_open is_late Discard phase t s is inv = goes_held g y n echoed (end_in (Open phase t) s) known inv
    judged_open is_late InvalidTag phase t s is inv = invalid (Open phase t) s inv

    judged_new : (b : Bool) (st : State) (s : Endpoint Carried) → InvAt g x y (calm (end_in st s))
        → Goes g y n echoed (noted [] (on_resolution (new_if b) k (end_in st s)).endpoint_state.state n) (on_resolution (new_if b) k (end_in st s))
    judged_new true st s inv = anew s.endpoint_state.context.options.avoid_stalls (view_of st) s.endpoint_state.context (end_in st s) inv
    judged_new false st s inv = invalid st s inv

    judged_unless : (late b : Bool) (st : State) (s : Endpoint Carried) → InvAt g x y (calm (end_in st s))
        → Goes g y n echoed (noted [] (on_resolution (new_unless late b) k (end_in st s)).endpoint_state.state n) (on_resolution (new_unless late b) k (end_in st s))
    judged_unless true b st s inv = goes_held g y n echoed (end_in st s) known inv
    judged_unless false b st s inv = judged_new b st s inv

    does_judged : (st : State) (s : Endpoint Carried) → InvAt g x y (calm (end_in st s))
        → Goes g y n echoed (noted [] (on_resolution (resolve_cookie s.endpoint_state.context.options.avoid_stalls tag k st) k (end_in st s)).endpoint_state.state n)
        (on_resolution (resolve_cookie s.endpoint_state.context.options.avoid_stalls tag k st) k (end_in st s))
    does_judged Closed s inv = judged_new (tag == k.my_tag) Closed s inv
    does_judged (CookieWait my_tag first t1) s inv =
        judged_unless (s.endpoint_state.context.options.avoid_stalls && not (k.my_tag == my_tag)) (tag == k.my_tag) (CookieWait my_tag first t1) s inv
    does_judged (Open phase t) s inv =
        let is_late : Bool = s.endpoint_state.context.options.avoid_stalls && not (is_before_cookie_ack phase) in
        judged_open is_late (as_restart is_late (resolve_by_tags tag t.identity k)) phase t s refl inv

    -- a closed end refuses one of its last association
    spent : (st : State) (s : Endpoint Carried) → InvAt g x y (calm (end_in st s)) → InvAt g x y (idle st (refuse_spent k s.endpoint_state.context) s.draws)
    spent st s inv =
        let c : Context Carried = s.endpoint_state.context in
        let p : PacketDraft = packet_to k.peer_tag c.options.mtu in
        does_plain quiet_here spent_chunk p st c s.draws refl refl (always refl) (whole_addressed st c s.draws p refl (λ f held. absurd (f.some refl))) (λ f. absurd (f.some refl)) inv

    pub does_cookie : (b : Bool) (st : State) (s : Endpoint Carried) → InvAt g x y (calm (end_in st s))
        → Goes g y n echoed (noted [] (on_cookie_unless b tag k (end_in st s)).endpoint_state.state n) (on_cookie_unless b tag k (end_in st s))
    does_cookie true st s inv = goes_held g y n echoed (on_cookie_unless true tag k (end_in st s)) known (spent st s inv)
    does_cookie false st s inv = does_judged st s inv
