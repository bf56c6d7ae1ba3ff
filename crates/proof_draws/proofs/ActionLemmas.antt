-- One action of both traces: the ends that act are alike after it, and twins where no association ends.
use Rattle.std.proofs.Common.{◌≡◌, ℕ, ◌==◌, ◌||◌, ◌≤◌, Bool, false, Option, Some, None, List, [], ◌∷◌, ◌++◌, map, slice_get, All, ◌⊎◌, inl, inr, refl, sym, ap, subst, ◌∙◌, arith}
use Rattle.std.specs.Prelude.{⊤}
use Rattle.sctp_packet.specs.Chunk.{ChunkTree, InitTree, init_chunk}
use Rattle.sctp_packet.specs.Grammar.{carried}
use Rattle.sctp_state.specs.Options.{Options}
use Rattle.sctp_state.specs.Events.{GivenUp}
use Rattle.spec_endpoint.specs.Association.{Tcb, Phase, State, Closed, CookieWait, Open, Endpoint}
use Rattle.spec_endpoint.specs.Sending.{is_before_cookie_ack}
use Rattle.spec_endpoint.specs.Input.{packet_refusal}
use Rattle.spec_endpoint.specs.Laws.{Call, Connect, Restore, ReceivePacket, called, endings}
use Rattle.proof_endpoint.specs.Mapped.{Carried, as_carried}
use Rattle.proof_endpoint.proofs.LawsLemmas.{stays_within}
use Rattle.proof_pair.specs.Trace.{Side, emitted_packets, EndAction, Calls, Gives, Refuses, drain, as_received, give_carried, act, MayCall, MayAct, AreValidOptions, state_of}
use Rattle.proof_pair.specs.Agreement.{Draw as Drawn, Has, drawn_to_connect, drawn_given, drawn_in}
use Rattle.proof_pair.proofs.AddedLemmas.{all_get}
use Rattle.proof_pair.proofs.TraceLemmas.{SaysAll, seen, Half, Halves, none_of, actions}
use Rattle.proof_pair.proofs.HandingLemmas.{hands}
use Rattle.proof_draws.specs.NamedChunks.{Names, AreNames}
use Rattle.proof_draws.specs.Names.{named_state}
use Rattle.proof_draws.specs.Laws.{NumbersFitIn}
use Rattle.proof_draws.specs.NamedCalls.{EachCallIsNamed}
use Rattle.proof_draws.specs.Pairing.{names, pairs_of, Knows}
use Rattle.proof_draws.specs.Alike.{AreAlike, records_given, records_by, SameAction}
use Rattle.proof_draws.proofs.NamesLemmas.{names_in, are_names}
use Rattle.proof_draws.proofs.ImageLemmas.{alike_after, given_up_after, asked_as}
use Rattle.proof_draws.proofs.TwinLemmas.{Stand, Twin, IsNamedBy, Found, twin_found, twin_none, packets_twin, are_alike}
use Rattle.proof_draws.proofs.ChunkLemmas.{all_flow_carried}
use Rattle.proof_draws.proofs.StepLemmas.{two_of, EmitsOwn, Named, Outcome, mirrors, twin_after}
use Rattle.proof_draws.proofs.PairCallLemmas.{call_named}
use Rattle.proof_draws.specs.Kinds.{IsKind, an_init, an_answer, an_echo, a_flow}
use Rattle.proof_draws.proofs.GivenLemmas.{given_outcome}

-- ---- what is taken of single calls

-- a packet that is received is of a kind, and no record of a handover is taken up
abbrev pub ReceivesKind : Call → Type 0
ReceivesKind (ReceivePacket p) = IsKind p.chunks
ReceivesKind (Restore h) = ⊥
ReceivesKind c = ⊤

abbrev pub EndsEmitEventOwn : Type 0
EndsEmitEventOwn =
    (c : Call) (e : Endpoint Carried) → e.endpoint_state.context.pack ≡ as_carried → e.endpoint_state.context.emitted.events ≡ [] → ReceivesKind c
    → endings (called c e).endpoint_state.context.emitted.events ≡ 0 → EmitsOwn c e

-- an end with an established association answers an INIT
abbrev pub LateInitsAreNamed : List (Drawn × Drawn) → Type 0
LateInitsAreNamed ps =
    (o q : Options) (x y z : Side) (p r : Carried) (checksum other : ℕ) → AreValidOptions q → Halves o q x y → (t : Twin ps x y z)
    → (n : IsNamedBy ps (state_of y) (state_of x) p r) → SaysAll q o (seen y) (seen x) y.got_init p
    → ((d e : Drawn) → Has (d, e) (pairs_of (drawn_given (Some p) checksum x) (drawn_given (Some r) other z)) → Has (d, e) ps)
    → (i : InitTree) → p.chunks ≡ init_chunk i ∷ [] → packet_refusal p.header.verification_tag (map carried p.chunks) (state_of x) ≡ None
    → NumbersFitIn (state_of x) → (phase : Phase) (u : Tcb) → state_of x ≡ Open phase u → is_before_cookie_ack phase ≡ false
    → Named ps x z (state_of y) (ReceivePacket (as_received p checksum)) (called (ReceivePacket (as_received r other)) z.end)

pub kind_received : (cs : List ChunkTree) → IsKind cs → IsKind (map carried cs)
kind_received cs (an_init i alone) = an_init i (ap (λ (z : List ChunkTree). map carried z) alone)
kind_received cs (an_answer i alone) = an_answer i (ap (λ (z : List ChunkTree). map carried z) alone)
kind_received cs (an_echo cookie rest begins flows) =
    an_echo cookie (map carried rest) (ap (λ (z : List ChunkTree). map carried z) begins) (all_flow_carried rest ∙ flows)
kind_received cs (a_flow flows) = a_flow (all_flow_carried cs ∙ flows)

-- ---- an action, as it goes

-- one call on both ends, or nothing
pub record Turning (ps : List (Drawn × Drawn)) (x z : Side) (u : State) (a b : Side) (records too : List GivenUp) : Type 0 where
  pub call : Call
  pub second : Endpoint Carried
  pub asked : Bool
  pub both_asked : Bool
  pub same : both_asked ≡ asked
  pub first_is : a ≡ asked_as asked (drain (called call x.end) x)
  pub second_is : b ≡ asked_as both_asked (drain second z)
  pub records_are : records ≡ (called call x.end).endpoint_state.context.emitted.given_up
  pub records_too : too ≡ second.endpoint_state.context.emitted.given_up
  pub outcome : Outcome ps x z u call second
  pub receives : ReceivesKind call

pub record Idle (x z a b : Side) (records too : List GivenUp) : Type 0 where
  pub first_is : a ≡ x
  pub second_is : b ≡ z
  pub records_are : records ≡ []
  pub records_too : too ≡ []

module _ (ps : List (Drawn × Drawn)) (k : Knows ps) (o q : Options) (own : AreValidOptions o) (x y z : Side) (h : Halves o q x y) (t : Twin ps x y z) where
  least : 12 ≤ x.end.endpoint_state.context.options.mtu
  least = omega (arith, own.valid.sizes.mtu_least, ap (λ (p : Options). p.mtu) h.own.options)

  packs : (c : Call) → (called c x.end).endpoint_state.context.pack ≡ as_carried
  packs c = (stays_within c x.end least).pack ∙ h.own.packing

  alike : AreAlike x z
  alike = are_alike ps k x y z t

  -- alike, whatever ended
  pub turning_alike : (a b : Side) (records too : List GivenUp) → Turning ps x z (state_of y) a b records too → AreAlike a b × (too ≡ records)
  turning_alike a b records too g =
      let m = mirrors ps k x z (state_of y) g.call g.second (packs g.call) g.outcome in (
        subst (λ (s : Side). AreAlike s b) (sym g.first_is)
            (subst (λ (s : Side). AreAlike (asked_as g.asked (drain (called g.call x.end) x)) s) (sym g.second_is)
            (alike_after x z alike h.own.quiet (called g.call x.end) g.second g.asked g.both_asked g.same m)),
        g.records_too ∙ (given_up_after x z alike h.own.quiet (called g.call x.end) g.second m ∙ sym g.records_are),
      )

  pub idle_alike : (a b : Side) (records too : List GivenUp) → Idle x z a b records too → AreAlike a b × (too ≡ records)
  idle_alike a b records too g = (
    subst (λ (s : Side). AreAlike s b) (sym g.first_is) (subst (λ (s : Side). AreAlike x s) (sym g.second_is) alike),
    g.records_too ∙ sym g.records_are,
  )

  -- twins, where none has ended
  module _ (emits : EndsEmitEventOwn) where
    turning_at : (records too : List GivenUp) (b : Side) (c : Call) (second : Endpoint Carried) (asked both : Bool) → both ≡ asked → b ≡ asked_as both (drain second z)
        → Outcome ps x z (state_of y) c second → ReceivesKind c → Half o q (asked_as asked (drain (called c x.end) x)) y
        → Stand (state_of x) (called c x.end).endpoint_state.state → endings (x.emitted ++ (called c x.end).endpoint_state.context.emitted.events) ≡ 0
        → Twin ps (asked_as asked (drain (called c x.end) x)) y b
    turning_at records too b c second asked both same is outcome receives after stand none =
        subst (λ (s : Side). Twin ps (asked_as asked (drain (called c x.end) x)) y s) (sym is)
        (twin_after ps k o q x y z c second asked both same t stand (packs c)
        (emits c x.end h.own.packing h.own.quiet receives (none_of x.emitted (called c x.end).endpoint_state.context.emitted.events none)) outcome h.own.quiet after.said)

    pub turning_twin : (a b : Side) (records too : List GivenUp) → Turning ps x z (state_of y) a b records too → Half o q a y → Stand (state_of x) (state_of a)
        → endings a.emitted ≡ 0 → Twin ps a y b
    turning_twin a b records too g after stand none =
        let there : Side = asked_as g.asked (drain (called g.call x.end) x) in
        subst (λ (s : Side). Twin ps s y b) (sym g.first_is)
        (turning_at records too b g.call g.second g.asked g.both_asked g.same g.second_is g.outcome g.receives (subst (λ (s : Side). Half o q s y) g.first_is after)
        (subst (λ (s : Side). Stand (state_of x) (state_of s)) g.first_is stand) (subst (λ (s : Side). endings s.emitted ≡ 0) g.first_is none))

    pub idle_twin : (a b : Side) (records too : List GivenUp) → Idle x z a b records too → Twin ps a y b
    idle_twin a b records too g = subst (λ (s : Side). Twin ps s y b) (sym g.first_is) (subst (λ (s : Side). Twin ps x y s) (sym g.second_is) t)

-- ---- the actions

receives_call : (x : Side) (c : Call) → MayCall c x → ReceivesKind c
receives_call x (ReceivePacket p) may = absurd may
receives_call x (Restore h) may = absurd may
receives_call x c may = tt

same_action : (c : Call) (u : EndAction) → SameAction (Calls c) u → u ≡ Calls c
same_action c u h = h

two_connect : (s r : State) (e f : Endpoint Carried) → s ≡ Closed → r ≡ Closed → Has (two_of e, two_of f) (pairs_of (drawn_to_connect s e) (drawn_to_connect r f))
two_connect Closed Closed e f p q = inl refl
two_connect Closed (CookieWait tag first t1) e f p q = cc
two_connect Closed (Open phase t) e f p q = cc
two_connect (CookieWait tag first t1) r e f p q = cc
two_connect (Open phase t) r e f p q = cc

module _ (ps : List (Drawn × Drawn)) (k : Knows ps) (law : EachCallIsNamed) (late : LateInitsAreNamed ps) (o q : Options) (own : AreValidOptions o) (other : AreValidOptions q)
    (x y z v : Side) (h : Halves o q x y) (t : Twin ps x y z) (b : Twin ps y x v) (kinds : All (λ (p : Carried). IsKind p.chunks) (emitted_packets y))
    (numbers : NumbersFitIn (state_of x)) where
  -- none of it is drawn but what stands among the pairs
  abbrev pub Drew : (t u : EndAction) → Type 0
  Drew t u = (d e : Drawn) → Has (d, e) (pairs_of (drawn_in t x y) (drawn_in u z v)) → Has (d, e) ps

  connect_pair : (c : Call) → Drew (Calls c) (Calls c) → c ≡ Connect → state_of x ≡ Closed → Has (two_of x.end, two_of z.end) ps
  connect_pair c drew is closed =
      let d : Drew (Calls Connect) (Calls Connect) = subst (λ (a : Call). Drew (Calls a) (Calls a)) is drew in
      d (two_of x.end) (two_of z.end)
      (two_connect (state_of x) (state_of z) x.end z.end closed (t.state ∙ ap (λ (s : State). named_state (names_in ps s t.tie) s) closed))

  pub call_actions : (c : Call) → MayCall c x → Drew (Calls c) (Calls c)
      → Turning ps x z (state_of y) (act (Calls c) x y) (act (Calls c) z v) (records_by (Calls c) x y) (records_by (Calls c) z v)
  call_actions c may drew = record {
    call = c;
    second = called c z.end;
    asked = x.got_init;
    both_asked = z.got_init;
    same = t.asked;
    first_is = refl;
    second_is = refl;
    records_are = refl;
    records_too = refl;
    outcome = inl (call_named ps k law x y z t h.own.packing h.own.quiet c may (connect_pair c drew));
    receives = receives_call x c may;
  }

  -- ---- packets

  asked_too : (p r : Carried) → IsNamedBy ps (state_of y) (state_of x) p r → (r.header.verification_tag == 0) ≡ (p.header.verification_tag == 0)
  asked_too p r n =
      let m : Names = names ps n.mine n.peer n.tie n.cookie_tie in
      let are : AreNames m = are_names ps k n.mine n.peer n.tie n.cookie_tie in
      ap (λ (c : Carried). c.header.verification_tag == 0) n.is
      ∙ (ap (λ (zero : ℕ). m.tag p.header.verification_tag == zero) (sym are.none) ∙ are.apart p.header.verification_tag 0)

  some_actions : (p r : Carried) (which checksum other_checksum : ℕ) → slice_get (emitted_packets y) which ≡ Some p → IsNamedBy ps (state_of y) (state_of x) p r
      → ((d e : Drawn) → Has (d, e) (pairs_of (drawn_given (Some p) checksum x) (drawn_given (Some r) other_checksum z)) → Has (d, e) ps)
      → Turning ps x z (state_of y) (give_carried (Some p) checksum x) (give_carried (Some r) other_checksum z) (records_given (Some p) checksum x) (records_given (Some r) other_checksum z)
  some_actions p r which checksum other_checksum there n pair =
      let kind : IsKind p.chunks = all_get (λ (c : Carried). IsKind c.chunks) (emitted_packets y) which p there kinds in
      let says : SaysAll q o (seen y) (seen x) y.got_init p = all_get (SaysAll q o (seen y) (seen x) y.got_init) (emitted_packets y) which p there h.other.said in
      record {
        call = ReceivePacket (as_received p checksum);
        second = called (ReceivePacket (as_received r other_checksum)) z.end;
        asked = x.got_init || (p.header.verification_tag == 0);
        both_asked = z.got_init || (r.header.verification_tag == 0);
        same = ap (λ (a : Bool). a || (r.header.verification_tag == 0)) t.asked ∙ ap (λ (a : Bool). x.got_init || a) (asked_too p r n);
        first_is = refl;
        second_is = refl;
        records_are = refl;
        records_too = refl;
        outcome = given_outcome ps k law o q other x y z v h t p r checksum other_checksum n says numbers
            (λ i alone none phase u is l. late o q x y z p r checksum other_checksum other h t n says pair i alone none numbers phase u is l) pair kind;
        receives = kind_received p.chunks kind;
      }

  abbrev pub Goes : (t u : EndAction) → Type 0
  Goes t u =
      Turning ps x z (state_of y) (act t x y) (act u z v) (records_by t x y) (records_by u z v)
      ⊎ Idle x z (act t x y) (act u z v) (records_by t x y) (records_by u z v)

  abbrev GoesAs : Option Carried → Option Carried → (checksum other_checksum : ℕ) → Type 0
  GoesAs a c checksum other_checksum =
      Turning ps x z (state_of y) (give_carried a checksum x) (give_carried c other_checksum z) (records_given a checksum x) (records_given c other_checksum z)
      ⊎ Idle x z (give_carried a checksum x) (give_carried c other_checksum z) (records_given a checksum x) (records_given c other_checksum z)

  give_by : (a : Option Carried) (which checksum other_checksum : ℕ) → slice_get (emitted_packets y) which ≡ a → Drew (Gives which checksum) (Gives which other_checksum)
      → Goes (Gives which checksum) (Gives which other_checksum)
  give_by None which checksum other_checksum there drew =
      let none : slice_get (emitted_packets v) which ≡ None =
      twin_none ps (state_of y) (state_of x) (emitted_packets y) (emitted_packets v) which (packets_twin ps (state_of y) (state_of x) y.emitted v.emitted b.emitted) there in
      subst (λ (a : Option Carried). GoesAs a (slice_get (emitted_packets v) which) checksum other_checksum) (sym there)
      (subst (λ (a : Option Carried). GoesAs None a checksum other_checksum) (sym none)
      (inr (record { first_is = refl; second_is = refl; records_are = refl; records_too = refl })))
  give_by (Some p) which checksum other_checksum there drew =
      let f : Found ps (state_of y) (state_of x) p (emitted_packets v) which =
      twin_found ps (state_of y) (state_of x) (emitted_packets y) (emitted_packets v) which p (packets_twin ps (state_of y) (state_of x) y.emitted v.emitted b.emitted) there in
      let pair : (d e : Drawn) → Has (d, e) (pairs_of (drawn_given (Some p) checksum x) (drawn_given (Some f.packet) other_checksum z)) → Has (d, e) ps =
      subst (λ (a : Option Carried). (d e : Drawn) → Has (d, e) (pairs_of (drawn_given (Some p) checksum x) (drawn_given a other_checksum z)) → Has (d, e) ps) f.there
      (subst (λ (a : Option Carried). (d e : Drawn) → Has (d, e) (pairs_of (drawn_given a checksum x) (drawn_given (slice_get (emitted_packets v) which) other_checksum z)) → Has (d, e) ps)
      there drew) in
      subst (λ (a : Option Carried). GoesAs a (slice_get (emitted_packets v) which) checksum other_checksum) (sym there)
      (subst (λ (a : Option Carried). GoesAs (Some p) a checksum other_checksum) (sym f.there)
      (inl (some_actions p f.packet which checksum other_checksum there f.named pair)))

  pub actions_so : (a c : EndAction) → SameAction a c → MayAct a x → Drew a c → Goes a c
  actions_so (Calls call) c same may drew =
      let is : c ≡ Calls call = same_action call c same in
      subst (λ (u : EndAction). Goes (Calls call) u) (sym is) (inl (call_actions call may (subst (λ (u : EndAction). Drew (Calls call) u) is drew)))
  actions_so (Gives which checksum) c same may drew =
      subst (λ (u : EndAction). Goes (Gives which checksum) u) (sym same.1)
      (give_by (slice_get (emitted_packets y) which) which checksum same.0 refl (subst (λ (u : EndAction). Drew (Gives which checksum) u) same.1 drew))
  actions_so (Refuses p) c same may drew = absurd same

  -- ---- after it

  pub action_alike : (a c : EndAction) → Goes a c → AreAlike (act a x y) (act c z v) × (records_by c z v ≡ records_by a x y)
  action_alike a c (inl g) = turning_alike ps k o q own x y z h t (act a x y) (act c z v) (records_by a x y) (records_by c z v) g
  action_alike a c (inr g) = idle_alike ps k o q own x y z h t (act a x y) (act c z v) (records_by a x y) (records_by c z v) g

  action_twin_by : (emits : EndsEmitEventOwn) (a c : EndAction) → Goes a c → Half o q (act a x y) y → Stand (state_of x) (state_of (act a x y))
      → endings (act a x y).emitted ≡ 0 → Twin ps (act a x y) y (act c z v)
  action_twin_by emits a c (inl g) after stand none =
      turning_twin ps k o q own x y z h t emits (act a x y) (act c z v) (records_by a x y) (records_by c z v) g after stand none
  action_twin_by emits a c (inr g) after stand none =
      idle_twin ps k o q own x y z h t emits (act a x y) (act c z v) (records_by a x y) (records_by c z v) g

  pub action_stands : (a : EndAction) → MayAct a x → endings (act a x y).emitted ≡ 0 → Stand (state_of x) (state_of (act a x y))
  action_stands a may none = (hands o q x y own other h a may none).stands

  pub action_halves : (a : EndAction) → MayAct a x → endings (act a x y).emitted ≡ 0 → Halves o q (act a x y) y
  action_halves a may none = actions o q x y own other h a may none

  pub action_twin : (emits : EndsEmitEventOwn) (a c : EndAction) → Goes a c → MayAct a x → endings (act a x y).emitted ≡ 0 → Twin ps (act a x y) y (act c z v)
  action_twin emits a c g may none = action_twin_by emits a c g (action_halves a may none).own (action_stands a may none) none
