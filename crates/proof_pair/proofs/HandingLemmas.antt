-- Along each trace that follows the rules, messages are handed out in the order in which they became ready.
use Rattle.std.proofs.Common.{◌≡◌, ℕ, ◌≤◌, ◌||◌, ◌==◌, Bool, true, false, Option, Some, None, List, [], ◌∷◌, ◌++◌, length, take, drop, slice_get, refl, sym, ap, subst, ◌∙◌, append_assoc, append-nil, arith}
use Rattle.std.proofs.Math.ListN.{drop_of_length-le}
use Rattle.std.proofs.Math.Seq.{drop-append_seam}
use Rattle.std.proofs.lemmas.List.{take-append-drop, length-drop}
use Rattle.std.proofs.lemmas.Bool.{or_left}
use Rattle.rand_core.specs.Stream.{Stream}
use Rattle.sctp_serial.specs.Messages.{Message}
use Rattle.sctp_packet.specs.Packet.{PacketTree}
use Rattle.sctp_state.specs.Options.{Options}
use Rattle.sctp_rx.specs.Delivery.{Extends}
use Rattle.sctp_reassembly.proofs.ExtendsLemmas.{extends_by}
use Rattle.spec_endpoint.specs.Association.{Tcb, Phase, State, Closed, CookieWait, Open, Endpoint}
use Rattle.spec_endpoint.specs.Shown.{Association, association_in}
use Rattle.spec_endpoint.specs.Calls.{ready_in, without_first_message, opens_window, told_if, message_taken_in}
use Rattle.spec_endpoint.specs.Opening.{emit_parse_error}
use Rattle.spec_endpoint.specs.Input.{packet_refusal, count_packet_at, packet_unless}
use Rattle.spec_endpoint.specs.Laws.{Call, TakeMessage, ReceivePacket, called, endings}
use Rattle.proof_endpoint.specs.Mapped.{Carried}
use Rattle.proof_pair.specs.Trace.{Side, Pair, emitted_packets, EndAction, Calls, Gives, Refuses, as_received, give_carried, foreign_if, act, goes, run, MayCall, MayAct, side_of, KeepsRules, NoAssociationHasEnded, AreValidOptions, start, state_of}
use Rattle.proof_pair.specs.Handing.{ready_at, handed_by, handed_at, new_behind, messages_handed_out, messages_made_ready, AreHandedInOrder}
use Rattle.proof_pair.proofs.UntilLemmas.{until_end}
use Rattle.proof_pair.proofs.JoinActsLemmas.{Setting}
use Rattle.proof_pair.proofs.TraceLemmas.{setting, begins, rules_call, rules_given, Halves, swapped, none_of, before_run, goes_consistent, first_half}
use Rattle.proof_pair.proofs.HandingActsLemmas.{GoesOn, goes_nowhere, readies}

-- ---- lists

seam : (before after : List Message) → Extends before after → before ++ new_behind before after ≡ after
seam before after h =
    ap (λ (ms : List Message). before ++ drop (length before) ms) h.made
    ∙ (ap (λ (ms : List Message). before ++ ms) (drop-append_seam before h.more) ∙ sym h.made)

without_first : (ms : List Message) → length (drop 1 ms) ≤ length ms
without_first ms = omega (arith, length-drop 1 ms)

seam_taken : (ms : List Message) → ms ++ new_behind ms (drop 1 ms) ≡ take 1 ms ++ drop 1 ms
seam_taken ms =
    ap (λ (z : List Message). ms ++ z) (drop_of_length-le (drop 1 ms) {i = length ms} (without_first ms)) ∙ (append-nil ms ∙ sym (take-append-drop 1 ms))

-- one action, then the others
in_action : (before new later out rest now last : List Message) → before ++ new ≡ out ++ now → now ++ later ≡ rest ++ last
    → before ++ (new ++ later) ≡ (out ++ rest) ++ last
in_action before new later out rest now last h k =
    sym (append_assoc before new later)
    ∙ (ap (λ (z : List Message). z ++ later) h
    ∙ (append_assoc out now later ∙ (ap (λ (z : List Message). out ++ z) k ∙ sym (append_assoc out rest last))))

-- ---- actions

-- What is ready, and what is new behind it, is what is handed out, and what is ready then. An association that stands is not
-- replaced.
pub record Hands (out : List Message) (s t : State) : Type 0 where
  pub all : ready_in s ++ new_behind (ready_in s) (ready_in t) ≡ out ++ ready_in t
  pub stands : (a : Association) → association_in s ≡ Some a → association_in t ≡ Some a

hands_none : (s t : State) → GoesOn s t → Hands [] s t
hands_none s t h = record { all = seam (ready_in s) (ready_in t) h.ready; stands = h.stands }

pub hands_still : (s : State) → Hands [] s s
hands_still s = hands_none s s (goes_nowhere s)

hands_told : (b : Bool) (phase : Phase) (t : Tcb) → Hands (take 1 t.reassembly.ready) (Open phase t) (Open phase (told_if b (without_first_message t)))
hands_told true phase t = record { all = seam_taken t.reassembly.ready; stands = λ a e. e }
hands_told false phase t = record { all = seam_taken t.reassembly.ready; stands = λ a e. e }

hands_taken : (o : Options) (s : State) → Hands (take 1 (ready_in s)) s (message_taken_in o s)
hands_taken o Closed = record { all = refl; stands = λ a e. e }
hands_taken o (CookieWait tag first t1) = record { all = refl; stands = λ a e. e }
hands_taken o (Open phase t) = hands_told (opens_window o t.reassembly (without_first_message t).reassembly) phase t

module _ (o q : Options) (x y : Side) (own : AreValidOptions o) (other : AreValidOptions q) (h : Halves o q x y) where
  hands_other : (call : Call) → (call ≡ TakeMessage → ⊥) → MayCall call x → endings (act (Calls call) x y).emitted ≡ 0
      → Hands [] (state_of x) (state_of (act (Calls call) x y))
  hands_other call not may none =
      let e : Endpoint Carried = called call x.end in
      hands_none (state_of x) e.endpoint_state.state
      (until_end call (readies (setting o q x y x.got_init) call (rules_call o q x y own other call may) not) x.end
      (none_of x.emitted e.endpoint_state.context.emitted.events none) (begins o q x y x.got_init (λ z. z) h.own h.other)).1

  hands_call : (call : Call) → MayCall call x → endings (act (Calls call) x y).emitted ≡ 0
      → Hands (handed_by (Calls call) x) (state_of x) (state_of (act (Calls call) x y))
  hands_call TakeMessage may none = hands_taken x.end.endpoint_state.context.options (state_of x)
  hands_call call may none = hands_other call (λ e. cc) may none

  hands_given : (p : Option Carried) (checksum n : ℕ) → slice_get (emitted_packets y) n ≡ p → endings (give_carried p checksum x).emitted ≡ 0
      → Hands [] (state_of x) (state_of (give_carried p checksum x))
  hands_given None checksum n there none = hands_still (state_of x)
  hands_given (Some p) checksum n there none =
      let now : Bool = x.got_init || (p.header.verification_tag == 0) in
      let g : Setting = setting o q x y now in
      let call : Call = ReceivePacket (as_received p checksum) in
      let e : Endpoint Carried = called call x.end in
      hands_none (state_of x) e.endpoint_state.state
      (until_end call (readies g call (rules_given o q x y own other p checksum n there) (λ e. cc)) x.end
      (none_of x.emitted e.endpoint_state.context.emitted.events none) (begins o q x y now (or_left x.got_init (p.header.verification_tag == 0)) h.own h.other)).1

  hands_refused : (r : Option (List ℕ)) (p : PacketTree) → packet_refusal p.header.verification_tag p.chunks (state_of x) ≡ r
      → Hands [] (state_of x) (state_of (foreign_if r p x))
  hands_refused None p is = hands_still (state_of x)
  hands_refused (Some text) p is =
      let s : Endpoint Carried = x.end in
      let same : called (ReceivePacket p) s ≡ emit_parse_error text (count_packet_at s) =
      ap (λ (r : Option (List ℕ)). packet_unless r p.header.verification_tag p.chunks (count_packet_at s)) is in
      subst (λ (t : State). Hands [] (state_of x) t) (sym (ap (λ (e : Endpoint Carried). e.endpoint_state.state) same)) (hands_still (state_of x))

  pub hands : (t : EndAction) → MayAct t x → endings (act t x y).emitted ≡ 0 → Hands (handed_by t x) (state_of x) (state_of (act t x y))
  hands (Calls call) may none = hands_call call may none
  hands (Gives which checksum) may none = hands_given (slice_get (emitted_packets y) which) checksum which refl none
  hands (Refuses p) may none = hands_refused (packet_refusal p.header.verification_tag p.chunks (state_of x)) p refl

-- ---- traces

abbrev held : (x : Bool) → Pair → Option Association
held x w = association_in (state_of (side_of x w))

module _ (o q : Options) (own : AreValidOptions o) (other : AreValidOptions q) where
  pub hands_at : (x acts : Bool) (t : EndAction) (w : Pair) → MayAct t (side_of acts w) → NoAssociationHasEnded (goes acts t w) → Halves o q w.a w.b
      → Hands (handed_at x acts t w) (state_of (side_of x w)) (state_of (side_of x (goes acts t w)))
  hands_at true true t w may none h = hands o q w.a w.b own other h t may none.a
  hands_at false false t w may none h = hands q o w.b w.a other own (swapped o q w.a w.b h) t may none.b
  hands_at true false t w may none h = hands_still (state_of w.a)
  hands_at false true t w may none h = hands_still (state_of w.b)

  run_handed : (x : Bool) (es : List (Bool × EndAction)) (w : Pair) → KeepsRules es w → NoAssociationHasEnded (run es w) → Halves o q w.a w.b
      → ready_at (side_of x w) ++ messages_made_ready x es w ≡ messages_handed_out x es w ++ ready_at (side_of x (run es w))
  run_handed x [] w follows none h = append-nil (ready_at (side_of x w))
  run_handed x (e ∷ es) w follows none h =
      let v : Pair = goes e.0 e.1 w in
      let not_yet : NoAssociationHasEnded v = before_run es v none in
      in_action (ready_at (side_of x w)) (new_behind (ready_at (side_of x w)) (ready_at (side_of x v))) (messages_made_ready x es v) (handed_at x e.0 e.1 w) (messages_handed_out x es v)
      (ready_at (side_of x v)) (ready_at (side_of x (run es v))) (hands_at x e.0 e.1 w follows.0 not_yet h).all
      (run_handed x es v follows.1 none (goes_consistent o q own other e.0 e.1 w follows.0 not_yet h))

  run_stands : (x : Bool) (p : Association) (es : List (Bool × EndAction)) (w : Pair) → KeepsRules es w → NoAssociationHasEnded (run es w) → Halves o q w.a w.b
      → held x w ≡ Some p → held x (run es w) ≡ Some p
  run_stands x p [] w follows none h is = is
  run_stands x p (e ∷ es) w follows none h is =
      let v : Pair = goes e.0 e.1 w in
      let not_yet : NoAssociationHasEnded v = before_run es v none in
      run_stands x p es v follows.1 none (goes_consistent o q own other e.0 e.1 w follows.0 not_yet h)
      ((hands_at x e.0 e.1 w follows.0 not_yet h).stands p is)

  later_stands : (x : Bool) (p : Association) (es more : List (Bool × EndAction)) (w : Pair) → KeepsRules (es ++ more) w → NoAssociationHasEnded (run (es ++ more) w)
      → Halves o q w.a w.b → held x (run es w) ≡ Some p → held x (run (es ++ more) w) ≡ Some p
  later_stands x p [] more w follows none h is = run_stands x p more w follows none h is
  later_stands x p (e ∷ es) more w follows none h is =
      let v : Pair = goes e.0 e.1 w in
      let not_yet : NoAssociationHasEnded v = before_run (es ++ more) v none in
      later_stands x p es more v follows.1 none (goes_consistent o q own other e.0 e.1 w follows.0 not_yet h) is

pub first_halves : (a b : Options) (draws_a draws_b : Stream) → Halves a b (start a b draws_a draws_b).a (start a b draws_a draws_b).b
first_halves a b draws_a draws_b = record { own = first_half a b draws_a draws_b; other = first_half b a draws_b draws_a }

pub associations_stand : (a b : Options) (draws_a draws_b : Stream) (es more : List (Bool × EndAction)) → AreValidOptions a → AreValidOptions b
    → KeepsRules (es ++ more) (start a b draws_a draws_b) → NoAssociationHasEnded (run (es ++ more) (start a b draws_a draws_b)) → (x : Bool) (p : Association)
    → association_in (state_of (side_of x (run es (start a b draws_a draws_b)))) ≡ Some p
    → association_in (state_of (side_of x (run (es ++ more) (start a b draws_a draws_b)))) ≡ Some p
associations_stand a b draws_a draws_b es more own other follows none x p is =
    later_stands a b own other x p es more (start a b draws_a draws_b) follows none (first_halves a b draws_a draws_b) is

pub nothing_ready : (x : Bool) (a b : Options) (draws_a draws_b : Stream) → ready_at (side_of x (start a b draws_a draws_b)) ≡ []
nothing_ready true a b draws_a draws_b = refl
nothing_ready false a b draws_a draws_b = refl

pub handed_in_order : (a b : Options) (draws_a draws_b : Stream) (es : List (Bool × EndAction)) → AreValidOptions a → AreValidOptions b
    → KeepsRules es (start a b draws_a draws_b) → NoAssociationHasEnded (run es (start a b draws_a draws_b)) → (x : Bool)
    → AreHandedInOrder x es (start a b draws_a draws_b)
handed_in_order a b draws_a draws_b es own other follows none x =
    let w : Pair = start a b draws_a draws_b in
    ap (λ (ms : List Message). ms ++ messages_made_ready x es w) (sym (nothing_ready x a b draws_a draws_b)) ∙ run_handed a b own other x es w follows none (first_halves a b draws_a draws_b)

pub handed_prefix : (a b : Options) (draws_a draws_b : Stream) (es : List (Bool × EndAction)) → AreValidOptions a → AreValidOptions b
    → KeepsRules es (start a b draws_a draws_b) → NoAssociationHasEnded (run es (start a b draws_a draws_b)) → (x : Bool)
    → Extends (messages_handed_out x es (start a b draws_a draws_b)) (messages_made_ready x es (start a b draws_a draws_b))
handed_prefix a b draws_a draws_b es own other follows none x =
    let w : Pair = start a b draws_a draws_b in
    extends_by (messages_handed_out x es w) (messages_made_ready x es w) (ready_at (side_of x (run es w))) (handed_in_order a b draws_a draws_b es own other follows none x)

-- ---- as actions follow

extends_behind : (front before after : List Message) → Extends before after → Extends (front ++ before) (front ++ after)
extends_behind front before after h =
    extends_by (front ++ before) (front ++ after) h.more
    (ap (λ (ms : List Message). front ++ ms) h.made ∙ sym (append_assoc front before h.more))

pub readied_grows : (x : Bool) (es more : List (Bool × EndAction)) (w : Pair) → Extends (messages_made_ready x es w) (messages_made_ready x (es ++ more) w)
readied_grows x [] more w = extends_by [] (messages_made_ready x more w) (messages_made_ready x more w) refl
readied_grows x (e ∷ es) more w =
    let v : Pair = goes e.0 e.1 w in
    extends_behind (new_behind (ready_at (side_of x w)) (ready_at (side_of x v))) (messages_made_ready x es v) (messages_made_ready x (es ++ more) v) (readied_grows x es more v)

pub handed_grows : (x : Bool) (es more : List (Bool × EndAction)) (w : Pair) → Extends (messages_handed_out x es w) (messages_handed_out x (es ++ more) w)
handed_grows x [] more w = extends_by [] (messages_handed_out x more w) (messages_handed_out x more w) refl
handed_grows x (e ∷ es) more w =
    let v : Pair = goes e.0 e.1 w in
    extends_behind (handed_at x e.0 e.1 w) (messages_handed_out x es v) (messages_handed_out x (es ++ more) v) (handed_grows x es more v)
