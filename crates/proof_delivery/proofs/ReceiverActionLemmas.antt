-- Each action of the receiver's end leaves the direction at a later state of the rules.
use Rattle.std.proofs.Common.{◌≡◌, ℕ, ◌+◌, ◌-◌, ◌^◌, ◌<◌, ◌==◌, ◌||◌, Bool, true, Option, Some, None, List, [], ◌∷◌, ◌++◌, take, slice_get, All, refl, sym, ap, subst, ◌∙◌, append-nil, arith}
use Rattle.std.proofs.lemmas.List.Elements.{All-nil}
use Rattle.std.proofs.lemmas.Bool.{or_left}
use Rattle.sctp_serial.specs.Messages as messages
use Rattle.sctp_packet.specs.Chunk.{ChunkTree}
use Rattle.sctp_packet.specs.Packet.{PacketTree}
use Rattle.sctp_state.specs.declared.api.ErrorKind.TheVariants.{ParseFailed}
use Rattle.sctp_state.specs.Options.{Options}
use Rattle.sctp_capabilities.specs.Capabilities.{agreed}
use Rattle.sctp_state.specs.declared.api.errors.ResetStreamsError.{ResetStreamsError}
use Rattle.sctp_state.specs.Events.{Event, Emitted, OnError}
use Rattle.proof_protocol.specs.State.{Message}
use Rattle.spec_endpoint.specs.Association.{Endpoint}
use Rattle.spec_endpoint.specs.Calls.{ready_in, message_taken_in}
use Rattle.spec_endpoint.specs.Opening.{emit_parse_error}
use Rattle.spec_endpoint.specs.StreamReset.{reset_refusal}
use Rattle.spec_endpoint.specs.Input.{packet_refusal, count_packet_at, packet_unless}
use Rattle.spec_endpoint.specs.Laws.{Call, Connect, Close, Shutdown, Send, SendMany, ResetStreams, TakeMessage, SetLowThreshold, SetPriority, SetMaxMessageSize, Advance, HandOver, Restore, ReceivePacket, ReceiveNoPacket, called, endings}
use Rattle.proof_endpoint.specs.Mapped.{Carried}
use Rattle.proof_endpoint.specs.Acts.{EndWithPacket, calm, HasNoEnd}
use Rattle.proof_pair.specs.Trace.{Side, emitted_packets, EndAction, Calls, Gives, Refuses, as_received, give_carried, foreign_if, act, MayCall, MayAct, AreValidOptions, state_of}
use Rattle.proof_pair.specs.Handing.{handed_by}
use Rattle.spec_endpoint.specs.Packets.{packets_in}
use Rattle.proof_pair.proofs.JoinActsLemmas.{Setting}
use Rattle.proof_pair.proofs.JoinKeepsLemmas.{Rules}
use Rattle.proof_pair.proofs.TraceLemmas.{setting, begins, rules_call, rules_given, Halves, swapped, none_of}
use Rattle.proof_pair.proofs.HandingLemmas.{hands}
use Rattle.proof_pair.proofs.AskedLemmas.{is_offer}
use Rattle.proof_delivery.specs.Windows.{Stamp, IsYoung, IsTimely, IsWithin, queue_of, numbered_count, left_count, stamp_packets}
use Rattle.proof_delivery.specs.Answered.{IsAnswered, performed_in}
use Rattle.proof_delivery.specs.StreamEpochs.{resets_emitted}
use Rattle.proof_delivery.proofs.ClaimLemmas.{Direction, transfer_of, goes_in, SaysIn, first_out, first_in, ReceivesIn, ReceiverClaim, ReceivesData, ReceiverGoes, ReceiverPremises}
use Rattle.proof_delivery.proofs.FrameLemmas.{is_other, joined_call}
use Rattle.proof_delivery.proofs.SenderToolLemmas.{goes_none}
use Rattle.proof_delivery.proofs.ResetEventsLemmas.{resets_in, emitted_counts}
use Rattle.proof_delivery.proofs.ResetCallLemmas as calls
use Rattle.proof_delivery.proofs.WithinLemmas.{left_is, Holds}
use Rattle.proof_delivery.proofs.DirectionLemmas.{least_out, AtStamp, each_at, IsUnderWay, says_out, Stands, SoFar, Flows, IsSilent}
use Rattle.proof_delivery.proofs.PremisesLemmas.{IsNoPacket, receives_no_data, receives_data, receiver_premises, begins_in}
use Rattle.proof_delivery.proofs.ActionLemmas.{after_action, ends_in}
use Rattle.proof_delivery.proofs.AccountLemmas.{accounts_still, accounts_in}
use Rattle.proof_delivery.proofs.SenderActionLemmas.{goes_bracketed, none_more, PreservedByActs, DirectionAfterAction, holds, mode_back, young_now}

module _ (message : ℕ → Message) (lifecycle : ℕ → Option ℕ) (is_interleaved : Bool) (of : Stamp → ℕ) (parts : PreservedByActs message lifecycle is_interleaved) (o q : Options) (own : AreValidOptions o)
    (other : AreValidOptions q) (mode : is_interleaved ≡ (agreed o q).message_interleaving) (s r : Side) (h : Halves o q s r) (quiet_s : IsSilent s) (quiet_r : IsSilent r)
    (within : IsWithin (state_of s) (queue_of s)) (accepted : ℕ) (handed : List messages.Message) (stamps_s stamps_r : List Stamp) (so_far : SoFar) (x : Direction)
    (f : Flows message lifecycle is_interleaved of s r accepted handed stamps_s stamps_r so_far x) (soon : IsAnswered (state_of s) so_far.asked) (few_performed : performed_in s.emitted < 2 ^ 32 - 1)
    (now left later : Stamp) (at_now : of now ≡ numbered_count (state_of s)) (at_left : of left ≡ left_count (state_of s) + 2 ^ 30)
    (at_later : of later ≡ left_count (state_of s)) (young : (old : Stamp) → IsYoung now old → of now < of old + 2 ^ 31) where
  hold : Holds message lifecycle is_interleaved x (queue_of s) f.kept
  hold = holds message lifecycle is_interleaved of parts o q own other mode s r h quiet_s quiet_r within accepted handed stamps_s stamps_r so_far x f few_performed now left at_now at_left young

  back : is_interleaved ≡ (agreed q o).message_interleaving
  back = mode_back message lifecycle is_interleaved of parts o q own other mode s r h quiet_s quiet_r within accepted handed stamps_s stamps_r so_far x f few_performed now left at_now at_left young

  left_now : of later ≡ (transfer_of x).acknowledged
  left_now = at_later ∙ left_is message lifecycle is_interleaved (state_of s) (queue_of s) x f.sends

  -- hands out these
  abbrev pub In : Side → List messages.Message → Type 0
  In t out = DirectionAfterAction message lifecycle is_interleaved of s t accepted (handed ++ out) stamps_s (stamp_packets r t later stamps_r) so_far x s []

  same_handed : handed ++ [] ≡ handed
  same_handed = append-nil handed

  still_in : In r []
  still_in = record {
    to = x;
    flows = subst (λ (ss : List Stamp). Flows message lifecycle is_interleaved of s r accepted (handed ++ []) stamps_s ss so_far x) (sym (none_more (emitted_packets r) later stamps_r))
        (subst (λ (ms : List messages.Message). Flows message lifecycle is_interleaved of s r accepted ms stamps_s stamps_r so_far x) (sym same_handed) f);
    bracketed = goes_bracketed message is_interleaved goes_in x x f.kept.epochs (goes_none message is_interleaved goes_in x);
    accounts = λ abandoned a. accounts_still lifecycle s abandoned x a;
  }

  claim_in : (asked : Bool) (out : List messages.Message) (e : Endpoint Carried) (y : Direction) → ReceiverClaim message is_interleaved x (handed ++ out) (calm e) y
      → Stands (state_of r) e.endpoint_state.state → In (after_action asked e r) out
  claim_in asked out e y c stands = record {
    to = y;
    flows = ends_in message lifecycle is_interleaved of parts.stay s r accepted handed stamps_s stamps_r so_far x f later asked left_now out y e c stands;
    bracketed = goes_bracketed message is_interleaved goes_in x y f.kept.epochs c.goes;
    accounts = λ abandoned a. accounts_in message lifecycle is_interleaved s abandoned x a y c.goes;
  }

  none_handed : (m : EndWithPacket Carried) (y : Direction) → ReceiverClaim message is_interleaved x handed m y → ReceiverClaim message is_interleaved x (handed ++ []) m y
  none_handed m y c = subst (λ (ms : List messages.Message). ReceiverClaim message is_interleaved x ms m y) (sym same_handed) c

  -- nothing is done yet
  start : ReceiverClaim message is_interleaved x handed (calm r.end) x
  start = begins_in message lifecycle is_interleaved of o q s r accepted handed stamps_s stamps_r so_far x f quiet_r

  leads_in : (asked : Bool) (call : Call) → ReceiverGoes message lifecycle is_interleaved x handed (calm r.end) (calm (called call r.end))
      → Stands (state_of r) (called call r.end).endpoint_state.state → In (after_action asked (called call r.end) r) []
  leads_in asked call goes stands =
      let c = goes x start in
      claim_in asked [] (called call r.end) c.0 (none_handed (calm (called call r.end)) c.0 c.1) stands

  premises : (asked : Bool) (call : Call) → ReceivesData message is_interleaved call (first_out (state_of s)) x → ReceiverPremises message lifecycle is_interleaved (setting q o r s asked) call x
  premises asked call receives = receiver_premises message lifecycle is_interleaved of o q s r accepted handed stamps_s stamps_r so_far x f asked call other back few_performed soon hold receives

  joined_in : (asked : Bool) (call : Call) → Rules (setting q o r s asked) call → is_other call ≡ true → (r.got_init ≡ true → asked ≡ true)
      → HasNoEnd (calm (called call r.end)) → ReceivesData message is_interleaved call (first_out (state_of s)) x → Stands (state_of r) (called call r.end).endpoint_state.state
      → In (after_action asked (called call r.end) r) []
  joined_in asked call rules other_call le none receives stands =
      let g : Setting = setting q o r s asked in
      leads_in asked call (joined_call g call rules other_call (parts.receiver_keeps g call x handed (premises asked call receives)) r.end none (begins q o r s asked le h.other h.own)).1 stands

  offered_in : (call : Call) → Rules (setting q o r s r.got_init) call → is_offer call ≡ true → IsNoPacket call → HasNoEnd (calm (called call r.end))
      → Stands (state_of r) (called call r.end).endpoint_state.state → In (after_action r.got_init (called call r.end) r) []
  offered_in call rules offer plain none stands =
      let g : Setting = setting q o r s r.got_init in
      leads_in r.got_init call
      (parts.offered_in g call x r handed rules offer (premises r.got_init call (receives_no_data message is_interleaved (first_out (state_of s)) x call plain hold.windows)) none
      (begins q o r s r.got_init (λ z. z) h.other h.own)) stands

  -- nothing happens that the rules see
  quietly_in : (out : List messages.Message) (m : EndWithPacket Carried) → ReceivesIn message is_interleaved m.state (handed ++ out) x → packets_in m.context.emitted.events ≡ []
      → resets_in m.context.emitted.events ≡ [] → m.packet.chunks ≡ [] → ReceiverClaim message is_interleaved x (handed ++ out) m x
  quietly_in out m shown emitted resets made = record {
    kept = f.kept;
    goes = goes_none message is_interleaved goes_in x;
    stay = (refl, refl);
    shown = shown;
    performed = λ k. let none = sym (emitted_counts k m.context.emitted.events) ∙ ap (λ (es : List (Event Carried)). resets_emitted k es) resets in omega (arith, none);
    emitted = subst (λ (ps : List Carried). All (λ (p : Carried). All (SaysIn (first_in m.state) (transfer_of x).acknowledged x) p.chunks) ps) (sym emitted) (All-nil _);
    made = subst (λ (cs : List ChunkTree). All (SaysIn (first_in m.state) (transfer_of x).acknowledged x) cs) (sym made) (All-nil _);
  }

  taken_action : Stands (state_of r) (message_taken_in r.end.endpoint_state.context.options (state_of r)) → In (act (Calls TakeMessage) r s) (take 1 (ready_in (state_of r)))
  taken_action stands =
      let out : List messages.Message = take 1 (ready_in (state_of r)) in
      claim_in r.got_init out (called TakeMessage r.end) x
      (quietly_in out (calm (called TakeMessage r.end)) (parts.taken_in_turn r.end.endpoint_state.context.options (state_of r) handed x f.refines) (ap (λ (t : Emitted Carried). packets_in t.events) quiet_r.emitted)
      (ap (λ (t : Emitted Carried). resets_in t.events) quiet_r.emitted) refl) stands

  refused_in : (p : PacketTree) (text : List ℕ) → called (ReceivePacket p) r.end ≡ emit_parse_error text (count_packet_at r.end) → In (after_action r.got_init (called (ReceivePacket p) r.end) r) []
  refused_in p text same =
      let e : Endpoint Carried = emit_parse_error text (count_packet_at r.end) in
      subst (λ (z : Endpoint Carried). In (after_action r.got_init z r) []) (sym same)
      (claim_in r.got_init [] e x
      (quietly_in [] (calm e) (subst (λ (ms : List messages.Message). ReceivesIn message is_interleaved (state_of r) ms x) (sym same_handed) f.refines)
      (ap (λ (t : Emitted Carried). packets_in (t.events ++ OnError ParseFailed text ∷ [])) quiet_r.emitted)
      (ap (λ (t : Emitted Carried). resets_in (t.events ++ OnError ParseFailed text ∷ [])) quiet_r.emitted) refl) (λ a e. e))

  -- streams are to be reset, unless the end refuses
  reset_in : (ids : List ℕ) (refusal : Option ResetStreamsError) → reset_refusal (state_of r) ≡ refusal → MayCall (ResetStreams ids) r
      → HasNoEnd (calm (calls.reset_by refusal ids r.end)) → Stands (state_of r) (calls.reset_by refusal ids r.end).endpoint_state.state → In (after_action r.got_init (calls.reset_by refusal ids r.end) r) []
  reset_in ids (Some e) fine may none stands =
      claim_in r.got_init [] (calls.reset_by (Some e) ids r.end) x (none_handed (calm r.end) x start) stands
  reset_in ids None fine may none stands =
      let g : Setting = setting q o r s r.got_init in
      let quiet : Rules g ReceiveNoPacket = rules_call q o r s other own ReceiveNoPacket tt in
      let goes : ReceiverGoes message lifecycle is_interleaved x handed (calls.preparing ids r.end) (calm (calls.reset_by None ids r.end)) =
      calls.then_reset g quiet (parts.receiver_keeps g ReceiveNoPacket x handed (premises r.got_init ReceiveNoPacket (receives_no_data message is_interleaved (first_out (state_of s)) x ReceiveNoPacket (λ p e. cc) hold.windows)))
      r.end ids (rules_call q o r s other own (ResetStreams ids) may) fine none (begins q o r s r.got_init (λ z. z) h.other h.own) in
      let c = goes x (calls.claim_preparing message is_interleaved x handed ids r.end x start) in
      claim_in r.got_init [] (calls.reset_by None ids r.end) c.0 (none_handed (calm (calls.reset_by None ids r.end)) c.0 c.1) stands

  -- any call
  call_in : (call : Call) → MayCall call r → endings (act (Calls call) r s).emitted ≡ 0
      → Stands (state_of r) (state_of (act (Calls call) r s)) → In (act (Calls call) r s) (handed_by (Calls call) r)
  call_in call may none stands = by_call call may stands (none_of r.emitted (called call r.end).endpoint_state.context.emitted.events none)
    where
      other_call : (call : Call) → is_other call ≡ true → IsNoPacket call → MayCall call r → Stands (state_of r) (state_of (act (Calls call) r s))
          → HasNoEnd (calm (called call r.end)) → In (act (Calls call) r s) []
      other_call call is plain may stands none =
          joined_in r.got_init call (rules_call q o r s other own call may) is (λ z. z) none (receives_no_data message is_interleaved (first_out (state_of s)) x call plain hold.windows) stands

      by_call : (call : Call) → MayCall call r → Stands (state_of r) (state_of (act (Calls call) r s)) → HasNoEnd (calm (called call r.end))
          → In (act (Calls call) r s) (handed_by (Calls call) r)
      by_call Connect may stands none = other_call Connect refl (λ p e. cc) may stands none
      by_call Close may stands none = other_call Close refl (λ p e. cc) may stands none
      by_call Shutdown may stands none = other_call Shutdown refl (λ p e. cc) may stands none
      by_call (Send m how) may stands none = offered_in (Send m how) (rules_call q o r s other own (Send m how) may) refl (λ p e. cc) none stands
      by_call (SendMany ms how) may stands none = offered_in (SendMany ms how) (rules_call q o r s other own (SendMany ms how) may) refl (λ p e. cc) none stands
      by_call (ResetStreams ids) may stands none = reset_in ids (reset_refusal (state_of r)) refl may none stands
      by_call TakeMessage may stands none = taken_action stands
      by_call (SetLowThreshold stream bytes) may stands none = other_call (SetLowThreshold stream bytes) refl (λ p e. cc) may stands none
      by_call (SetPriority stream priority) may stands none = other_call (SetPriority stream priority) refl (λ p e. cc) may stands none
      by_call (SetMaxMessageSize bytes) may stands none = other_call (SetMaxMessageSize bytes) refl (λ p e. cc) may stands none
      by_call (Advance n) may stands none = other_call (Advance n) refl (λ p e. cc) may stands none
      by_call HandOver may stands none = other_call HandOver refl (λ p e. cc) may stands none
      by_call (Restore k) may stands none = absurd may
      by_call (ReceivePacket p) may stands none = absurd may
      by_call ReceiveNoPacket may stands none = other_call ReceiveNoPacket refl (λ p e. cc) may stands none

  given_in : (p : Option Carried) (checksum n : ℕ) → slice_get (emitted_packets s) n ≡ p → ((old : Stamp) → slice_get stamps_s n ≡ Some old → IsYoung now old)
      → endings (give_carried p checksum r).emitted ≡ 0 → Stands (state_of r) (state_of (give_carried p checksum r)) → In (give_carried p checksum r) []
  given_in None checksum n there timely none stands = still_in
  given_in (Some p) checksum n there timely none stands =
      let a : AtStamp (λ stamp p. IsUnderWay (says_out message is_interleaved (first_out (state_of s))) x (least_out of stamp) p) stamps_s n p =
      each_at (λ stamp p. IsUnderWay (says_out message is_interleaved (first_out (state_of s))) x (least_out of stamp) p) (emitted_packets s) stamps_s n p there f.out in
      joined_in (r.got_init || (p.header.verification_tag == 0)) (ReceivePacket (as_received p checksum)) (rules_given q o r s other own p checksum n there) refl
      (or_left r.got_init (p.header.verification_tag == 0)) (none_of r.emitted (called (ReceivePacket (as_received p checksum)) r.end).endpoint_state.context.emitted.events none)
      (receives_data message is_interleaved (first_out (state_of s)) x (least_out of a.stamp) p checksum a.holds
      (let l = young_now message lifecycle is_interleaved of parts o q own other mode s r h quiet_s quiet_r within accepted handed stamps_s stamps_r so_far x f few_performed now left at_now at_left young a.stamp (timely a.stamp a.there) in omega (arith, l))) stands

  foreign_in : (text : Option (List ℕ)) (p : PacketTree) → packet_refusal p.header.verification_tag p.chunks (state_of r) ≡ text → In (foreign_if text p r) []
  foreign_in None p is = still_in
  foreign_in (Some text) p is = refused_in p text (ap (λ (z : Option (List ℕ)). packet_unless z p.header.verification_tag p.chunks (count_packet_at r.end)) is)

  pub action_in : (t : EndAction) → MayAct t r → IsTimely t now stamps_s → endings (act t r s).emitted ≡ 0 → In (act t r s) (handed_by t r)
  action_in (Calls call) may timely none =
      call_in call may none (hands q o r s other own (swapped o q s r h) (Calls call) may none).stands
  action_in (Gives which checksum) may timely none =
      given_in (slice_get (emitted_packets s) which) checksum which refl timely none (hands q o r s other own (swapped o q s r h) (Gives which checksum) may none).stands
  action_in (Refuses p) may timely none = foreign_in (packet_refusal p.header.verification_tag p.chunks (state_of r)) p refl
