-- Along each trace that follows the rules, ends stay whole until an association first ends: packets are of a kind, and are let through.
use Rattle.std.proofs.Common.{◌≡◌, ℕ, ◌==◌, ◌||◌, Bool, true, false, Option, Some, None, List, [], ◌∷◌, ◌++◌, map, slice_get, All, refl, sym, ap, subst, ◌∙◌}
use Rattle.std.specs.List.{list_all}
use Rattle.std.proofs.lemmas.Bool.{and_parts, or_left}
use Rattle.std.proofs.lemmas.List.Folds.{list_all-append}
use Rattle.std.proofs.lemmas.List.Elements.{All-nil, All-append, All-weaker}
use Rattle.rand_core.specs.Stream.{Stream}
use Rattle.sctp_packet.specs.Chunk.{ChunkTree}
use Rattle.sctp_packet.specs.Grammar.{carried}
use Rattle.sctp_packet.specs.Packet.{PacketTree}
use Rattle.sctp_state.specs.declared.api.ErrorKind.TheVariants.{ParseFailed}
use Rattle.sctp_state.specs.Options.{Options}
use Rattle.sctp_state.specs.Events.{Event, OnError}
use Rattle.sctp_tx_queue.specs.InOrder.{HasRests}
use Rattle.spec_endpoint.specs.Association.{Endpoint}
use Rattle.spec_endpoint.specs.Opening.{emit_parse_error}
use Rattle.spec_endpoint.specs.Input.{packet_refusal, count_packet_at, packet_unless}
use Rattle.spec_endpoint.specs.Laws.{Call, ReceivePacket, called, endings}
use Rattle.proof_endpoint.specs.Mapped.{Carried}
use Rattle.proof_endpoint.specs.Acts.{calm, BringsChunk}
use Rattle.proof_pair.specs.Trace.{Side, Pair, new_side, emitted_packets, EndAction, Calls, Gives, Refuses, drain, as_received, give_carried, foreign_if, act, goes, run, MayCall, MayAct, side_of, KeepsRules, NoAssociationHasEnded, AreValidOptions, start, state_of}
use Rattle.spec_endpoint.specs.Packets.{packets_in}
use Rattle.proof_pair.proofs.UntilLemmas.{until_end}
use Rattle.proof_pair.proofs.AddedLemmas.{all_get}
use Rattle.proof_pair.proofs.JoinActsLemmas.{packets_both, Setting}
use Rattle.proof_pair.proofs.TraceLemmas.{setting, begins, rules_call, rules_given, Halves, swapped, none_of, before_run, goes_consistent, packet_of}
use Rattle.proof_pair.proofs.HandingLemmas.{first_halves}
use Rattle.sctp_tx_queue.proofs.RestLemmas.{calls_leave_rests}
use Rattle.proof_draws.specs.Alike.{PassesAt, PacketsPass}
use Rattle.proof_draws.specs.Kinds.{IsKind, AreOfAKind, KindsAlong, PacketsAreOfAKind}
use Rattle.proof_draws.proofs.ActionLemmas.{kind_received}
use Rattle.proof_draws.proofs.WholeLemmas.{is_whole, kind_whole}
use Rattle.proof_draws.proofs.WholeActsLemmas.{StateIsWhole, numbers_in, IsSaid, IsWhole, wholes}

-- ---- between actions

-- an end, beside one with this method
pub record SideIsWhole (method : ℕ) (x : Side) : Type 0 where
  pub state : StateIsWhole (state_of x)
  pub queue : HasRests x.end.endpoint_state.context.queue
  pub said : All (IsSaid method) (packets_in x.emitted)

module _ (o q : Options) (x y : Side) (own : AreValidOptions o) (other : AreValidOptions q) (h : Halves o q x y) (a : SideIsWhole q.zero_checksum_method x) where
  -- an action begins
  whole_begins : (asked : Bool) → IsWhole q.zero_checksum_method (state_of x) x.end.endpoint_state.context.queue x.end.endpoint_state.context.emitted.events (calm x.end).packet
  whole_begins asked = (
    a.state,
    a.queue,
    refl,
    λ e. cc,
    subst (λ (es : List (Event Carried)). All (IsSaid q.zero_checksum_method) (packets_in es)) (sym h.own.quiet) (All-nil (IsSaid q.zero_checksum_method)),
  )

  -- and ends
  whole_ends : (asked : Bool) (e : Endpoint Carried)
      → IsWhole q.zero_checksum_method e.endpoint_state.state e.endpoint_state.context.queue e.endpoint_state.context.emitted.events (calm e).packet
      → SideIsWhole q.zero_checksum_method (record (drain e x) { got_init = asked })
  whole_ends asked e w = record {
    state = w.0;
    queue = w.1;
    said = subst (All (IsSaid q.zero_checksum_method)) (sym (packets_both x.emitted e.endpoint_state.context.emitted.events))
        (All-append (IsSaid q.zero_checksum_method) (packets_in x.emitted) (packets_in e.endpoint_state.context.emitted.events) a.said w.4);
  }

  whole_call : (call : Call) → MayCall call x → endings (act (Calls call) x y).emitted ≡ 0 → SideIsWhole q.zero_checksum_method (act (Calls call) x y)
  whole_call call may none =
      let g : Setting = setting o q x y x.got_init in
      let e : Endpoint Carried = called call x.end in
      whole_ends x.got_init e
      (until_end call (wholes g call (rules_call o q x y own other call may) (λ tag chunk received. absurd (subst (λ (c : Call). MayCall c x) received.given may))) x.end
      (none_of x.emitted e.endpoint_state.context.emitted.events none) (begins o q x y x.got_init (λ z. z) h.own h.other, whole_begins x.got_init)).1

  -- each chunk of a packet of a kind is whole
  received_whole : (p : Carried) (checksum : ℕ) → IsKind p.chunks → (tag : ℕ) (chunk : ChunkTree) → BringsChunk (ReceivePacket (as_received p checksum)) tag chunk
      → is_whole chunk ≡ true
  received_whole p checksum kind tag chunk received =
      let same : as_received p checksum ≡ received.packet = ap (λ (c : Call). packet_of c (as_received p checksum)) received.given in
      let before : List ChunkTree = received.among.before in
      let behind : List ChunkTree = received.among.behind in
      let all : list_all is_whole (before ++ chunk ∷ behind) ≡ true =
      sym (ap (λ (z : PacketTree). list_all is_whole z.chunks) same ∙ ap (list_all is_whole) received.among.split)
      ∙ kind_whole (map carried p.chunks) (kind_received p.chunks kind) in
      let rest : list_all is_whole (chunk ∷ behind) ≡ true =
      (and_parts (list_all is_whole before) (list_all is_whole (chunk ∷ behind)) (sym (list_all-append is_whole before (chunk ∷ behind)) ∙ all)).1 in
      (and_parts (is_whole chunk) (list_all is_whole behind) rest).0

  module _ (b : SideIsWhole o.zero_checksum_method y) where
    whole_given : (p : Option Carried) (checksum n : ℕ) → slice_get (emitted_packets y) n ≡ p → endings (give_carried p checksum x).emitted ≡ 0
        → SideIsWhole q.zero_checksum_method (give_carried p checksum x)
    whole_given None checksum n there none = a
    whole_given (Some p) checksum n there none =
        let now : Bool = x.got_init || (p.header.verification_tag == 0) in
        let g : Setting = setting o q x y now in
        let call : Call = ReceivePacket (as_received p checksum) in
        let e : Endpoint Carried = called call x.end in
        let kind : IsKind p.chunks = (all_get (IsSaid o.zero_checksum_method) (emitted_packets y) n p there b.said).kind in
        whole_ends now e
        (until_end call (wholes g call (rules_given o q x y own other p checksum n there) (received_whole p checksum kind)) x.end
        (none_of x.emitted e.endpoint_state.context.emitted.events none)
        (begins o q x y now (or_left x.got_init (p.header.verification_tag == 0)) h.own h.other, whole_begins now)).1

    whole_refused : (r : Option (List ℕ)) (p : PacketTree) → packet_refusal p.header.verification_tag p.chunks (state_of x) ≡ r
        → SideIsWhole q.zero_checksum_method (foreign_if r p x)
    whole_refused None p is = a
    whole_refused (Some text) p is =
        let s : Endpoint Carried = x.end in
        let same : called (ReceivePacket p) s ≡ emit_parse_error text (count_packet_at s) =
        ap (λ (r : Option (List ℕ)). packet_unless r p.header.verification_tag p.chunks (count_packet_at s)) is in
        let w = whole_begins x.got_init in
        let none : packets_in (s.endpoint_state.context.emitted.events ++ OnError ParseFailed text ∷ []) ≡ [] =
        ap (λ (es : List (Event Carried)). packets_in (es ++ OnError ParseFailed text ∷ [])) h.own.quiet in
        whole_ends x.got_init (called (ReceivePacket p) s)
        (subst (λ (e : Endpoint Carried). IsWhole q.zero_checksum_method e.endpoint_state.state e.endpoint_state.context.queue e.endpoint_state.context.emitted.events (calm e).packet) (sym same)
        (w.0, w.1, refl, λ e. cc, subst (All (IsSaid q.zero_checksum_method)) (sym none) (All-nil (IsSaid q.zero_checksum_method))))

    pub whole_turned : (t : EndAction) → MayAct t x → endings (act t x y).emitted ≡ 0 → SideIsWhole q.zero_checksum_method (act t x y)
    whole_turned (Calls call) may none = whole_call call may none
    whole_turned (Gives which checksum) may none = whole_given (slice_get (emitted_packets y) which) checksum which refl none
    whole_turned (Refuses p) may none = whole_refused (packet_refusal p.header.verification_tag p.chunks (state_of x)) p refl

-- ---- traces

pub record AreWhole (o q : Options) (w : Pair) : Type 0 where
  pub halves : Halves o q w.a w.b
  pub a : SideIsWhole q.zero_checksum_method w.a
  pub b : SideIsWhole o.zero_checksum_method w.b

module _ (o q : Options) (own : AreValidOptions o) (other : AreValidOptions q) where
  whole_goes : (at_a : Bool) (t : EndAction) (w : Pair) → MayAct t (side_of at_a w) → NoAssociationHasEnded (goes at_a t w) → AreWhole o q w → AreWhole o q (goes at_a t w)
  whole_goes true t w may none h = record {
    halves = goes_consistent o q own other true t w may none h.halves;
    a = whole_turned o q w.a w.b own other h.halves h.a h.b t may none.a;
    b = h.b;
  }
  whole_goes false t w may none h = record {
    halves = goes_consistent o q own other false t w may none h.halves;
    a = h.a;
    b = whole_turned q o w.b w.a other own (swapped o q w.a w.b h.halves) h.b h.a t may none.b;
  }

  whole_run : (es : List (Bool × EndAction)) (w : Pair) → KeepsRules es w → NoAssociationHasEnded (run es w) → AreWhole o q w → AreWhole o q (run es w)
  whole_run [] w follows none h = h
  whole_run (e ∷ es) w follows none h =
      whole_run es (goes e.0 e.1 w) follows.1 none (whole_goes e.0 e.1 w follows.0 (before_run es (goes e.0 e.1 w) none) h)

  -- ---- kinds

  kinds_in : (method : ℕ) (x : Side) → SideIsWhole method x → All (λ (p : Carried). IsKind p.chunks) (emitted_packets x)
  kinds_in method x h = All-weaker (IsSaid method) (λ (p : Carried). IsKind p.chunks) (λ p s. s.kind) (emitted_packets x) h.said

  are_of_a_kind : (w : Pair) → AreWhole o q w → AreOfAKind w
  are_of_a_kind w h = record {
    a = kinds_in q.zero_checksum_method w.a h.a;
    b = kinds_in o.zero_checksum_method w.b h.b;
    a_numbers = numbers_in (state_of w.a) h.a.state;
    b_numbers = numbers_in (state_of w.b) h.b.state;
  }

  kinds_along : (es : List (Bool × EndAction)) (w : Pair) → KeepsRules es w → NoAssociationHasEnded (run es w) → AreWhole o q w → KindsAlong es w
  kinds_along [] w follows none h = are_of_a_kind w h
  kinds_along (e ∷ es) w follows none h = (
    are_of_a_kind w h,
    kinds_along es (goes e.0 e.1 w) follows.1 none (whole_goes e.0 e.1 w follows.0 (before_run es (goes e.0 e.1 w) none) h),
  )

  -- ---- checksums

  passes_at : (x y : Side) (size : ℕ) → y.end.endpoint_state.context.options ≡ record q { max_message_size = size } → SideIsWhole q.zero_checksum_method x
      → All (PassesAt y) (emitted_packets x)
  passes_at x y size is h =
      All-weaker (IsSaid q.zero_checksum_method) (PassesAt y)
      (λ p s none. ap (λ (z : Options). z.zero_checksum_method == 0) is ∙ s.passes none) (emitted_packets x) h.said

new_whole : (method : ℕ) (o : Options) (draws : Stream) → SideIsWhole method (new_side o draws)
new_whole method o draws = record { state = tt; queue = calls_leave_rests.new o; said = All-nil (IsSaid method) }

pub start_whole : (a b : Options) (draws_a draws_b : Stream) → AreWhole a b (start a b draws_a draws_b)
start_whole a b draws_a draws_b = record {
  halves = first_halves a b draws_a draws_b;
  a = new_whole b.zero_checksum_method a draws_a;
  b = new_whole a.zero_checksum_method b draws_b;
}

pub packets_of_a_kind : PacketsAreOfAKind
packets_of_a_kind a b draws_a draws_b es own other follows none =
    let w : Pair = start a b draws_a draws_b in
    are_of_a_kind a b own other (run es w) (whole_run a b own other es w follows none (start_whole a b draws_a draws_b))

pub along_of_a_kind : (a b : Options) (draws_a draws_b : Stream) (es : List (Bool × EndAction)) → AreValidOptions a → AreValidOptions b
    → KeepsRules es (start a b draws_a draws_b) → NoAssociationHasEnded (run es (start a b draws_a draws_b)) → KindsAlong es (start a b draws_a draws_b)
along_of_a_kind a b draws_a draws_b es own other follows none =
    kinds_along a b own other es (start a b draws_a draws_b) follows none (start_whole a b draws_a draws_b)

pub packets_pass : PacketsPass
packets_pass a b draws_a draws_b es own other follows none =
    let w : Pair = start a b draws_a draws_b in
    let h : AreWhole a b (run es w) = whole_run a b own other es w follows none (start_whole a b draws_a draws_b) in
    record {
      a = passes_at a b own other (run es w).a (run es w).b h.halves.other.size h.halves.other.options h.a;
      b = passes_at b a other own (run es w).b (run es w).a h.halves.own.size h.halves.own.options h.b;
    }

-- ---- without the kinds
