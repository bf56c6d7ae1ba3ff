-- Along each trace that follows the rules, two ends are consistent until an association first ends.
use Rattle.std.proofs.Common.{◌≡◌, ℕ, ◌==◌, ◌||◌, Bool, true, false, Option, Some, None, List, [], ◌∷◌, ◌++◌, map, slice_get, All, refl, sym, ap, subst, ◌∙◌, append-nil, arith}
use Rattle.std.proofs.lemmas.Bool.Decides.{nat_tests}
use Rattle.std.proofs.lemmas.List.Elements.{All-nil, All-cons, All-head, All-tail, All-weaker}
use Rattle.std.proofs.lemmas.Bool.{or_right, or_left}
use Rattle.rand_core.specs.Stream.{Stream}
use Rattle.sctp_packet.specs.Chunk.{ChunkTree, init_ack_chunk}
use Rattle.sctp_packet.specs.Grammar.{carried}
use Rattle.sctp_packet.specs.Packet.{PacketTree}
use Rattle.sctp_state.specs.declared.api.ErrorKind.TheVariants.{ParseFailed}
use Rattle.sctp_state.specs.Options.{Options}
use Rattle.sctp_capabilities.specs.Capabilities.{agreed}
use Rattle.sctp_capabilities.proofs.CapabilitiesLemmas.{agreed_exchanged}
use Rattle.sctp_state.specs.Events.{Event, OnError}
use Rattle.spec_endpoint.specs.Association.{State, Endpoint}
use Rattle.spec_endpoint.specs.Opening.{emit_parse_error}
use Rattle.spec_endpoint.specs.Input.{packet_refusal, count_packet_at, packet_unless}
use Rattle.spec_endpoint.specs.Laws.{Call, ReceivePacket, called, endings}
use Rattle.proof_endpoint.specs.Mapped.{Carried, as_carried}
use Rattle.proof_endpoint.proofs.EmitsLemmas.{endings_append}
use Rattle.proof_endpoint.specs.Acts.{calm, no_packet, BringsChunk}
use Rattle.proof_pair.specs.Trace.{Side, Pair, new_side, emitted_packets, has_connected, EndAction, Calls, Gives, Refuses, drain, as_received, give_carried, foreign_if, act, goes, run, MayCall, MayAct, side_of, KeepsRules, NoAssociationHasEnded, AreValidOptions, start, state_of, AreConsistent}
use Rattle.spec_endpoint.specs.Packets.{packets_in}
use Rattle.proof_pair.proofs.UntilLemmas.{until_end}
use Rattle.proof_pair.proofs.AddedLemmas.{all_at, all_get}
use Rattle.proof_pair.proofs.JoinLemmas.{Draw, View, own_draw, peer_draw, view_of, Says, says_carried, Faces, Can, Stands}
use Rattle.proof_pair.proofs.JoinActsLemmas.{Setting, OtherSays, OtherSaysAll, Inv, InvAt, inv_no_packet_or_status}
use Rattle.proof_pair.proofs.JoinKeepsLemmas.{Rules}
use Rattle.proof_pair.proofs.JoinFrameLemmas.{joins}

-- ---- as INITs are given

says_asked : (o q : Options) (v u : View) (a b : Bool) (tag : ℕ) → (a ≡ true → b ≡ true) → (c : ChunkTree) → Says o q v u a tag c → Says o q v u b tag c
says_asked o q v u a b tag f (init_ack_chunk i) h = record {
  draw = h.draw;
  other = h.other;
  tie = h.tie;
  to = h.to;
  is = h.is;
  was = f h.was;
  how = h.how;
}
says_asked o q v u a b tag f c h = h

-- ---- between actions

abbrev pub SaysAll : (o q : Options) (v u : View) (asked : Bool) → Carried → Type 0
SaysAll o q v u asked p = All (Says o q v u asked p.header.verification_tag) p.chunks

abbrev pub seen : Side → View
seen x = view_of (state_of x)

pub record Half (o q : Options) (x y : Side) : Type 0 where
  pub stands : Stands o q (seen x) (seen y) x.got_init y.got_init
  pub size : ℕ
  pub options : x.end.endpoint_state.context.options ≡ record o { max_message_size = size }
  pub packing : x.end.endpoint_state.context.pack ≡ as_carried
  pub quiet : x.end.endpoint_state.context.emitted.events ≡ []
  pub connected : has_connected x.emitted ≡ true → (seen x).is_late ≡ true
  pub said : All (SaysAll o q (seen x) (seen y) x.got_init) (packets_in x.emitted)

abbrev pub setting : (o q : Options) (x y : Side) (asked : Bool) → Setting
setting o q x y asked = record {
  own = o;
  other = q;
  past = x.emitted;
  beside = state_of y;
  asked = asked;
  other_asked = y.got_init;
  others = emitted_packets y;
}

module _ (o q : Options) (x y : Side) (asked : Bool) where
  -- an action begins
  pub begins : (x.got_init ≡ true → asked ≡ true) → Half o q x y → Half q o y x → InvAt (setting o q x y asked) (calm x.end)
  begins f h k =
      let g : Setting = setting o q x y asked in
      let v : View = seen x in
      let u : View = seen y in
      let n : List (Event Carried) = [] in
      let emitted_same : x.emitted ++ n ≡ x.emitted = append-nil x.emitted in
      let said : All (SaysAll o q v u asked) (packets_in x.emitted) =
      All-weaker (SaysAll o q v u x.got_init) (SaysAll o q v u asked)
      (λ p. All-weaker (Says o q v u x.got_init p.header.verification_tag) (Says o q v u asked p.header.verification_tag)
      (says_asked o q v u x.got_init asked p.header.verification_tag f) p.chunks) (packets_in x.emitted) h.said in
      let stands : Stands o q v u asked y.got_init = record {
        faces = h.stands.faces;
        faced = h.stands.faced;
        late = h.stands.late;
        other_late = h.stands.other_late;
        draw = h.stands.draw;
        kept = h.stands.kept;
        can = h.stands.can;
        was = λ e d. f (h.stands.was e d);
        other_was = h.stands.other_was;
      } in
      let inv : Inv g v x.end.endpoint_state.context.options x.end.endpoint_state.context.pack [] no_packet.tag [] = record {
        stands = stands;
        size = h.size;
        options = h.options;
        packing = h.packing;
        connected = λ e. h.connected (sym (ap has_connected emitted_same) ∙ e);
        said = subst (λ (es : List (Event Carried)). All (SaysAll o q v u asked) (packets_in es)) (sym emitted_same) said;
        received = k.said;
        made = All-nil (Says o q v u asked no_packet.tag);
      } in
      subst (λ (es : List (Event Carried)). Inv g v x.end.endpoint_state.context.options x.end.endpoint_state.context.pack es no_packet.tag []) (sym h.quiet) inv

  -- and ends
  abbrev pub after : Endpoint Carried → Side
  after e = record (drain e x) { got_init = asked }

  pub ends_own : (e : Endpoint Carried) → InvAt (setting o q x y asked) (calm e) → Half o q (after e) y
  ends_own e inv = record {
    stands = inv.stands;
    size = inv.size;
    options = inv.options;
    packing = inv.packing;
    quiet = refl;
    connected = inv.connected;
    said = inv.said;
  }

  pub ends_other : (e : Endpoint Carried) → InvAt (setting o q x y asked) (calm e) → Half q o y x → Half q o y (after e)
  ends_other e inv k = record {
    stands = record {
      faces = inv.stands.faced;
      faced = inv.stands.faces;
      late = inv.stands.other_late;
      other_late = inv.stands.late;
      draw = k.stands.draw;
      kept = k.stands.kept;
      can = k.stands.can;
      was = inv.stands.other_was;
      other_was = inv.stands.was;
    };
    size = k.size;
    options = k.options;
    packing = k.packing;
    quiet = k.quiet;
    connected = k.connected;
    said = inv.received;
  }

-- ---- what a call receives

abbrev pub packet_of : Call → PacketTree → PacketTree
packet_of (ReceivePacket p) q = p
packet_of c q = q

-- each chunk of a packet as it is received
all_carried : (g : Setting) (v : View) (tag : ℕ) (cs : List ChunkTree) → All (OtherSays g v tag) cs → All (OtherSays g v tag) (map carried cs)
all_carried g v tag [] h = All-nil (OtherSays g v tag)
all_carried g v tag (c ∷ cs) h =
    All-cons (OtherSays g v tag) (carried c) (map carried cs)
    (says_carried g.other g.own (view_of g.beside) v g.other_asked tag c (All-head (OtherSays g v tag) c cs h))
    (all_carried g v tag cs (All-tail (OtherSays g v tag) c cs h))

is_zero : (n : ℕ) → n ≡ 0 → (n == 0) ≡ true
is_zero n e = grind (arith, nat_tests, e)

module _ (o q : Options) (x y : Side) (own : AreValidOptions o) (other : AreValidOptions q) where
  -- a call of the user, a moment, or bytes that are no packet
  pub rules_call : (call : Call) → MayCall call x → Rules (setting o q x y x.got_init) call
  rules_call call may = record {
    says = λ tag chunk h v all. absurd (subst (λ (c : Call). MayCall c x) h.given may);
    asks = λ tag chunk h e. absurd (subst (λ (c : Call). MayCall c x) h.given may);
    connects = λ e. subst (λ (c : Call). MayCall c x) e may;
    shuts = λ e. subst (λ (c : Call). MayCall c x) e may;
    restores = λ h e. subst (λ (c : Call). MayCall c x) e may;
    own = own;
    other = other;
  }

  -- a packet of the other end
  module _ (p : Carried) (checksum n : ℕ) (there : slice_get (emitted_packets y) n ≡ Some p) where
    abbrev pub asked : Bool
    asked = x.got_init || (p.header.verification_tag == 0)

    same_packet : (tag : ℕ) (chunk : ChunkTree) (h : BringsChunk (ReceivePacket (as_received p checksum)) tag chunk) → as_received p checksum ≡ h.packet
    same_packet tag chunk h = ap (λ (c : Call). packet_of c (as_received p checksum)) h.given

    says_given : (tag : ℕ) (chunk : ChunkTree) (h : BringsChunk (ReceivePacket (as_received p checksum)) tag chunk) (v : View)
        → All (OtherSaysAll (setting o q x y asked) v) (emitted_packets y) → OtherSays (setting o q x y asked) v tag chunk
    says_given tag chunk h v all =
        let g : Setting = setting o q x y asked in
        let here : All (OtherSays g v p.header.verification_tag) (map carried p.chunks) =
        all_carried g v p.header.verification_tag p.chunks (all_get (OtherSaysAll g v) (emitted_packets y) n p there all) in
        let that : All (OtherSays g v h.packet.header.verification_tag) h.packet.chunks =
        subst (λ (z : PacketTree). All (OtherSays g v z.header.verification_tag) z.chunks) (same_packet tag chunk h) here in
        let those : All (OtherSays g v tag) h.packet.chunks = subst (λ (z : ℕ). All (OtherSays g v z) h.packet.chunks) h.under that in
        all_at (OtherSays g v tag) h.among.before h.among.behind chunk (subst (All (OtherSays g v tag)) h.among.split those)

    pub rules_given : Rules (setting o q x y asked) (ReceivePacket (as_received p checksum))
    rules_given = record {
      says = says_given;
      asks = λ tag chunk h e. or_right x.got_init (p.header.verification_tag == 0)
          (is_zero p.header.verification_tag (ap (λ (z : PacketTree). z.header.verification_tag) (same_packet tag chunk h) ∙ (h.under ∙ e)));
      connects = λ e. cc;
      shuts = λ e. cc;
      restores = λ h e. cc;
      own = own;
      other = other;
    }

-- ---- actions

pub record Halves (o q : Options) (x y : Side) : Type 0 where
  pub own : Half o q x y
  pub other : Half q o y x

pub swapped : (o q : Options) (x y : Side) → Halves o q x y → Halves q o y x
swapped o q x y h = record { own = h.other; other = h.own }

pub none_of : (past es : List (Event Carried)) → endings (past ++ es) ≡ 0 → endings es ≡ 0
none_of past es h = omega (arith, endings_append past es, h)

none_past : (past es : List (Event Carried)) → endings (past ++ es) ≡ 0 → endings past ≡ 0
none_past past es h = omega (arith, endings_append past es, h)

module _ (o q : Options) (x y : Side) (own : AreValidOptions o) (other : AreValidOptions q) (h : Halves o q x y) where
  pub ends_action : (asked : Bool) (e : Endpoint Carried) → InvAt (setting o q x y asked) (calm e) → Halves o q (record (drain e x) { got_init = asked }) y
  ends_action asked e inv = record { own = ends_own o q x y asked e inv; other = ends_other o q x y asked e inv h.other }

  pub actions_call : (call : Call) → MayCall call x → endings (act (Calls call) x y).emitted ≡ 0 → Halves o q (act (Calls call) x y) y
  actions_call call may none =
      let g : Setting = setting o q x y x.got_init in
      let e : Endpoint Carried = called call x.end in
      ends_action x.got_init e
      (until_end call (joins g call (rules_call o q x y own other call may)) x.end (none_of x.emitted e.endpoint_state.context.emitted.events none)
      (begins o q x y x.got_init (λ z. z) h.own h.other))

  pub actions_given : (p : Option Carried) (checksum n : ℕ) → slice_get (emitted_packets y) n ≡ p → endings (give_carried p checksum x).emitted ≡ 0
      → Halves o q (give_carried p checksum x) y
  actions_given None checksum n there none = h
  actions_given (Some p) checksum n there none =
      let now : Bool = x.got_init || (p.header.verification_tag == 0) in
      let g : Setting = setting o q x y now in
      let call : Call = ReceivePacket (as_received p checksum) in
      let e : Endpoint Carried = called call x.end in
      ends_action now e
      (until_end call (joins g call (rules_given o q x y own other p checksum n there)) x.end (none_of x.emitted e.endpoint_state.context.emitted.events none)
      (begins o q x y now (or_left x.got_init (p.header.verification_tag == 0)) h.own h.other))

  pub actions_refused : (r : Option (List ℕ)) (p : PacketTree) → packet_refusal p.header.verification_tag p.chunks (state_of x) ≡ r → Halves o q (foreign_if r p x) y
  actions_refused None p is = h
  actions_refused (Some text) p is =
      let g : Setting = setting o q x y x.got_init in
      let s : Endpoint Carried = x.end in
      let same : called (ReceivePacket p) s ≡ emit_parse_error text (count_packet_at s) =
      ap (λ (r : Option (List ℕ)). packet_unless r p.header.verification_tag p.chunks (count_packet_at s)) is in
      let inv : InvAt g (calm s) = begins o q x y x.got_init (λ z. z) h.own h.other in
      let there : InvAt g (calm (emit_parse_error text (count_packet_at s))) =
      inv_no_packet_or_status g (seen x) s.endpoint_state.context.options s.endpoint_state.context.pack s.endpoint_state.context.emitted.events no_packet.tag [] inv (OnError ParseFailed text ∷ [])
      (s.endpoint_state.context.emitted.events ++ OnError ParseFailed text ∷ []) refl refl in
      ends_action x.got_init (called (ReceivePacket p) s) (subst (λ (e : Endpoint Carried). InvAt g (calm e)) (sym same) there)

  pub actions : (t : EndAction) → MayAct t x → endings (act t x y).emitted ≡ 0 → Halves o q (act t x y) y
  actions (Calls call) may none = actions_call call may none
  actions (Gives which checksum) may none = actions_given (slice_get (emitted_packets y) which) checksum which refl none
  actions (Refuses p) may none = actions_refused (packet_refusal p.header.verification_tag p.chunks (state_of x)) p refl

-- ---- traces

-- what was emitted before stands
module _ (x y : Side) where
  before_given : (p : Option Carried) (checksum : ℕ) → endings (give_carried p checksum x).emitted ≡ 0 → endings x.emitted ≡ 0
  before_given None checksum none = none
  before_given (Some p) checksum none = none_past x.emitted _ none

  before_foreign : (r : Option (List ℕ)) (p : PacketTree) → endings (foreign_if r p x).emitted ≡ 0 → endings x.emitted ≡ 0
  before_foreign None p none = none
  before_foreign (Some text) p none = none_past x.emitted _ none

  pub before_action : (t : EndAction) → endings (act t x y).emitted ≡ 0 → endings x.emitted ≡ 0
  before_action (Calls call) none = none_past x.emitted _ none
  before_action (Gives which checksum) none = before_given (slice_get (emitted_packets y) which) checksum none
  before_action (Refuses p) none = before_foreign (packet_refusal p.header.verification_tag p.chunks (state_of x)) p none

pub before_goes : (at_a : Bool) (t : EndAction) (w : Pair) → NoAssociationHasEnded (goes at_a t w) → NoAssociationHasEnded w
before_goes true t w h = record { a = before_action w.a w.b t h.a; b = h.b }
before_goes false t w h = record { a = h.a; b = before_action w.b w.a t h.b }

pub before_run : (es : List (Bool × EndAction)) (w : Pair) → NoAssociationHasEnded (run es w) → NoAssociationHasEnded w
before_run [] w h = h
before_run (e ∷ es) w h = before_goes e.0 e.1 w (before_run es (goes e.0 e.1 w) h)

module _ (o q : Options) (own : AreValidOptions o) (other : AreValidOptions q) where
  pub goes_consistent : (at_a : Bool) (t : EndAction) (w : Pair) → MayAct t (side_of at_a w) → NoAssociationHasEnded (goes at_a t w) → Halves o q w.a w.b
      → Halves o q (goes at_a t w).a (goes at_a t w).b
  goes_consistent true t w may none h = actions o q w.a w.b own other h t may none.a
  goes_consistent false t w may none h =
      swapped q o (act t w.b w.a) w.a (actions q o w.b w.a other own (swapped o q w.a w.b h) t may none.b)

  pub run_consistent : (es : List (Bool × EndAction)) (w : Pair) → KeepsRules es w → NoAssociationHasEnded (run es w) → Halves o q w.a w.b
      → Halves o q (run es w).a (run es w).b
  run_consistent [] w follows none h = h
  run_consistent (e ∷ es) w follows none h =
      run_consistent es (goes e.0 e.1 w) follows.1 none
      (goes_consistent e.0 e.1 w follows.0 (before_run es (goes e.0 e.1 w) none) h)

pub first_half : (o q : Options) (v w : Stream) → Half o q (new_side o v) (new_side q w)
first_half o q v w = record {
  stands = record {
    faces = tt;
    faced = tt;
    late = λ e. cc;
    other_late = λ e. cc;
    draw = tt;
    kept = tt;
    can = tt;
    was = λ e. cc;
    other_was = λ e. cc;
  };
  size = o.max_message_size;
  options = refl;
  packing = refl;
  quiet = refl;
  connected = λ e. cc;
  said = All-nil _;
}

consistent_of : (a b : Options) (w : Pair) → Halves a b w.a w.b → AreConsistent a b w
consistent_of a b w h = record {
  a_negotiated = λ phase t e. subst (λ (s : State). Can (agreed a b) (view_of s).can) e h.own.stands.can;
  b_negotiated = λ phase t e. subst (λ (s : State). Can (agreed b a) (view_of s).can) e h.other.stands.can;
  mirrored = λ phase next t u e f.
      let to_b : own_draw u ≡ peer_draw t =
      subst (λ (s : State). Faces (view_of s).holds (Some (own_draw u))) e
      (subst (λ (s : State). Faces (seen w.a).holds (view_of s).mine) f h.own.stands.faces) in
      let to_a : own_draw t ≡ peer_draw u =
      subst (λ (s : State). Faces (view_of s).holds (Some (own_draw t))) f
      (subst (λ (s : State). Faces (seen w.b).holds (view_of s).mine) e h.other.stands.faces) in
      record {
        tag = ap (λ (d : Draw). d.tag) to_a;
        first = ap (λ (d : Draw). d.first) to_a;
        peer_tag = sym (ap (λ (d : Draw). d.tag) to_b);
        peer_first = sym (ap (λ (d : Draw). d.first) to_b);
      };
  counts = agreed_exchanged a b;
}

pub ends_consistent : (a b : Options) (draws_a draws_b : Stream) (es : List (Bool × EndAction)) → AreValidOptions a → AreValidOptions b
    → KeepsRules es (start a b draws_a draws_b) → NoAssociationHasEnded (run es (start a b draws_a draws_b)) → AreConsistent a b (run es (start a b draws_a draws_b))
ends_consistent a b draws_a draws_b es own other follows none =
    let w : Pair = start a b draws_a draws_b in
    consistent_of a b (run es w) (run_consistent a b own other es w follows none (record { own = first_half a b draws_a draws_b; other = first_half b a draws_b draws_a }))

pub run_both : (es fs : List (Bool × EndAction)) (c : Pair) → run (es ++ fs) c ≡ run fs (run es c)
run_both [] fs c = refl
run_both (e ∷ es) fs c = run_both es fs (goes e.0 e.1 c)

pub follows_more : (es : List (Bool × EndAction)) (e : Bool × EndAction) (c : Pair) → KeepsRules es c → MayAct e.1 (side_of e.0 (run es c))
    → KeepsRules (es ++ e ∷ []) c
follows_more [] e c h may = (may, tt)
follows_more (d ∷ es) e c h may = (h.0, follows_more es e (goes d.0 d.1 c) h.1 may)

pub follows_front : (es fs : List (Bool × EndAction)) (w : Pair) → KeepsRules (es ++ fs) w → KeepsRules es w
follows_front [] fs w h = tt
follows_front (e ∷ es) fs w h = (h.0, follows_front es fs (goes e.0 e.1 w) h.1)
