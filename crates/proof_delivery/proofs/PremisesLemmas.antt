-- What an action begins with: the claim that nothing is done yet, and what is received, of packets that are under way.
use Rattle.std.proofs.Common.{◌≡◌, ℕ, ◌+◌, ◌*◌, ◌-◌, ◌^◌, ◌<◌, ◌≤◌, Bool, Option, Some, inl, inr, List, [], ◌∷◌, length, map, slice_get, All, refl, sym, ap, subst, ◌∙◌, arith}
use Rattle.std.specs.Prelude.{option_map}
use Rattle.std.proofs.lemmas.Bool.{cases_lt}
use Rattle.std.proofs.lemmas.List.Elements.{All-nil, All-cons, All-head, All-tail}
use Rattle.std.proofs.lemmas.Option.{slice_get_within}
use Rattle.sctp_serial.specs.Messages as messages
use Rattle.sctp_packet.specs.Chunk.{ChunkTree}
use Rattle.sctp_packet.specs.Grammar.{carried}
use Rattle.sctp_packet.specs.Packet.{PacketTree}
use Rattle.sctp_state.specs.Options.{Options}
use Rattle.sctp_capabilities.specs.Capabilities.{agreed}
use Rattle.sctp_state.specs.Events.{Emitted}
use Rattle.proof_protocol.specs.State.{Message, place_of, count}
use Rattle.proof_protocol.specs.Based.{EpochWindows}
use Rattle.sctp_tx_queue.specs.SendQueue.{Queue}
use Rattle.spec_endpoint.specs.Association.{State, Closed, CookieWait, Open}
use Rattle.spec_endpoint.specs.ResetRequests.{Request}
use Rattle.proof_refines.specs.Reachable.{recorded_places, delivered_ids}
use Rattle.spec_endpoint.specs.Laws.{Call, ReceivePacket}
use Rattle.proof_endpoint.specs.Mapped.{Carried}
use Rattle.proof_endpoint.specs.Acts.{calm, BringsChunk}
use Rattle.proof_pair.specs.Trace.{Side, as_received, AreValidOptions, state_of}
use Rattle.spec_endpoint.specs.Packets.{packets_in}
use Rattle.proof_pair.proofs.AddedLemmas.{all_at}
use Rattle.proof_pair.proofs.TraceLemmas.{setting, packet_of}
use Rattle.proof_delivery.specs.Answered.{waiting_number, IsAnswered, performed_in}
use Rattle.proof_delivery.specs.Asks.{ResetRequest, number_of}
use Rattle.proof_delivery.specs.StreamEpochs.{shut_streams, reopen, performed_of, resets_emitted, failed_in}
use Rattle.proof_delivery.specs.Windows.{Stamp, IsWithin, queue_of}
use Rattle.proof_delivery.proofs.ClaimLemmas.{Direction, transfer_of, goes_out, goes_in, SaysOut, SaysIn, first_out, first_in, WasSaid, AreSo, SendsIn, SenderClaim, ReceiverClaim, ReceivesSacks, ReceivesData, AsksSoon, SenderPremises, ReceiverPremises}
use Rattle.proof_delivery.proofs.SenderToolLemmas.{goes_none, reports_none}
use Rattle.proof_delivery.proofs.WithinLemmas.{numbered_is, Holds, within}
use Rattle.proof_delivery.proofs.FilledLemmas.{short_index}
use Rattle.proof_delivery.proofs.DirectionLemmas.{IsUnderWay, says_out, says_in, Stands, none_stands, same_out, SoFar, Flows, IsSilent}

-- ---- chunks that are received

all_were_said : (P : ChunkTree → Type 0) (cs : List ChunkTree) → All P cs → All (WasSaid P) (map carried cs)
all_were_said P [] h = All-nil (WasSaid P)
all_were_said P (c ∷ cs) h =
    All-cons (WasSaid P) (carried c) (map carried cs) (record { said = c; is = refl; says = All-head P c cs h }) (all_were_said P cs (All-tail P c cs h))

pub received_was_said : (P : ChunkTree → Type 0) (p : Carried) (checksum : ℕ) → All P p.chunks → (tag : ℕ) (chunk : ChunkTree)
    → BringsChunk (ReceivePacket (as_received p checksum)) tag chunk → WasSaid P chunk
received_was_said P p checksum all tag chunk h =
    let same : as_received p checksum ≡ h.packet = ap (λ (c : Call). packet_of c (as_received p checksum)) h.given in
    let those : All (WasSaid P) h.packet.chunks = subst (λ (z : PacketTree). All (WasSaid P) z.chunks) same (all_were_said P p.chunks all) in
    all_at (WasSaid P) h.among.before h.among.behind chunk (subst (All (WasSaid P)) h.among.split those)

-- ---- the windows

pub in_window : (message : ℕ → Message) (x : Direction) → EpochWindows message x.rules → count (transfer_of x).sender ≤ (transfer_of x).acknowledged + 2 ^ 30
in_window message x w =
    elim (cases_lt (transfer_of x).acknowledged (count (transfer_of x).sender)) [
      | inl ahead ↦ w.items ahead
      | inr rest ↦ omega (arith, rest)
    ]

-- a call that is no packet
abbrev pub IsNoPacket : Call → Type 0
IsNoPacket call = (p : PacketTree) → call ≡ ReceivePacket p → ⊥

module _ (message : ℕ → Message) (is_interleaved : Bool) (first : ℕ) (x : Direction) where
  pub receives_no_sacks : (call : Call) → IsNoPacket call → EpochWindows message x.rules → ReceivesSacks call first x
  receives_no_sacks call not w = record {
    least = (transfer_of x).acknowledged;
    past = omega arith;
    near = in_window message x w;
    young = let n = in_window message x w in omega (arith, n);
    says = λ tag chunk h. absurd (not h.packet h.given);
  }

  pub receives_no_data : (call : Call) → IsNoPacket call → EpochWindows message x.rules → ReceivesData message is_interleaved call first x
  receives_no_data call not w = record {
    least = (transfer_of x).acknowledged;
    young = let n = in_window message x w in omega (arith, n);
    says = λ tag chunk h. absurd (not h.packet h.given);
  }

  pub receives_sacks : (least : ℕ) (p : Carried) (checksum : ℕ) → IsUnderWay (says_in message is_interleaved first) x least p → EpochWindows message x.rules
      → count (transfer_of x).sender < least + 2 ^ 31 → ReceivesSacks (ReceivePacket (as_received p checksum)) first x
  receives_sacks least p checksum u w young = record {
    least = least;
    past = u.past;
    near = in_window message x w;
    young = young;
    says = received_was_said (SaysIn first least x) p checksum u.says;
  }

  pub receives_data : (least : ℕ) (p : Carried) (checksum : ℕ) → IsUnderWay (says_out message is_interleaved first) x least p → count (transfer_of x).sender < least + 3 * 2 ^ 30
      → ReceivesData message is_interleaved (ReceivePacket (as_received p checksum)) first x
  receives_data least p checksum u young = record {
    least = least;
    young = young;
    says = received_was_said (SaysOut message is_interleaved first least x) p checksum u.says;
  }

-- ---- an own request that waits

module _ (message : ℕ → Message) (lifecycle : ℕ → Option ℕ) (is_interleaved : Bool) where
  none_there : (x : Direction) (a : ResetRequest) → x.asks ≡ [] → slice_get x.asks x.answered ≡ Some a → ⊥
  none_there x a none there = let e = ap (λ (l : List ResetRequest). slice_get l x.answered) (sym none) ∙ there in cc

  -- it is the ask that waits
  pub waits : (s : State) (q : Queue) (x : Direction) (a : ResetRequest) → SendsIn message lifecycle is_interleaved s q x → slice_get x.asks x.answered ≡ Some a
      → waiting_number s ≡ Some (number_of (first_out s) x.answered)
  waits Closed q x a h there = absurd (none_there x a h.none_asked there)
  waits (CookieWait tag first t1) q x a h there = absurd (none_there x a h.none_asked there)
  waits (Open phase t) q x a h there = elim h.asks.current [
    | inl n ↦ let l = slice_get_within x.asks x.answered a there in let e = n.0 in absurd (omega (arith, l, e))
    | inr c ↦
        ap (λ (o : Option Request). option_map (λ (r : Request). r.number) o) c.1.is
        ∙ (ap (λ (n : ℕ). Some n) c.1.says.number ∙ ap (λ (n : ℕ). Some (number_of n x.answered)) (sym h.first))
  ]

  pub is_asked : (s : State) (q : Queue) (x : Direction) (n : ℕ) → SendsIn message lifecycle is_interleaved s q x → waiting_number s ≡ Some n → (a : ResetRequest) × (slice_get x.asks x.answered ≡ Some a)
  is_asked Closed q x n h w = cc
  is_asked (CookieWait tag first t1) q x n h w = cc
  is_asked (Open phase t) q x n h w = elim h.asks.current [
    | inl none ↦ let e = ap (λ (o : Option Request). option_map (λ (r : Request). r.number) o) (sym none.1.none) ∙ w in cc
    | inr c ↦ (c.1.ask, c.1.there)
  ]

  -- with the first TSN of an association that stands
  pub waits_again : (s t : State) (q r : Queue) (x y : Direction) (a : ResetRequest) → SendsIn message lifecycle is_interleaved s q x → SendsIn message lifecycle is_interleaved t r y → Stands s t
      → slice_get x.asks x.answered ≡ Some a → first_out s ≡ first_out t
  waits_again Closed t q r x y a h k f there = absurd (none_there x a h.none_asked there)
  waits_again (CookieWait tag first t1) t q r x y a h k f there = absurd (none_there x a h.none_asked there)
  waits_again (Open phase t) Closed q r x y a h k f there = absurd (none_stands (f _ refl))
  waits_again (Open phase t) (CookieWait tag first t1) q r x y a h k f there = absurd (none_stands (f _ refl))
  waits_again (Open phase t) (Open next u) q r x y a h k f there = same_out message lifecycle is_interleaved phase t next u q r x y h k f

-- ---- both ends

module _ (message : ℕ → Message) (lifecycle : ℕ → Option ℕ) (is_interleaved : Bool) (of : Stamp → ℕ) (own other : Options) (s r : Side)
    (accepted : ℕ) (handed : List messages.Message) (stamps_s stamps_r : List Stamp) (so_far : SoFar) (x : Direction)
    (f : Flows message lifecycle is_interleaved of s r accepted handed stamps_s stamps_r so_far x) where
  pub holds_of : IsWithin (state_of s) (queue_of s) → Holds message lifecycle is_interleaved x (queue_of s) f.kept
  holds_of w = within message lifecycle is_interleaved x (queue_of s) f.kept (state_of s) f.sends w

  pub asks_soon : IsAnswered (state_of s) so_far.asked → AsksSoon x
  asks_soon soon a there =
      let l = soon (number_of (first_out (state_of s)) x.answered) (waits message lifecycle is_interleaved (state_of s) (queue_of s) x a f.sends there) in
      let c = numbered_is message lifecycle is_interleaved (state_of s) (queue_of s) x f.sends in
      let below = f.asked a there in
      omega (arith, l, c, below)

  -- fewer asks than their numbers tell apart
  pub few_asks : performed_in s.emitted < 2 ^ 32 - 1 → length x.asks < 2 ^ 32
  few_asks few =
      let a = f.answered in
      let o = f.kept.asked.order.2 in
      omega (arith, few, a, o)

  pub sender_premises : (asked : Bool) (call : Call) → AreValidOptions own → is_interleaved ≡ (agreed own other).message_interleaving → performed_in s.emitted < 2 ^ 32 - 1
      → ReceivesSacks call (first_in (state_of r)) x → SenderPremises message lifecycle is_interleaved (setting own other s r asked) call x
  sender_premises asked call given mode few receives = record {
    kept = f.kept;
    own = given;
    mode = mode;
    few = few_asks few;
    handed = handed;
    beside = f.refines;
    receives = receives;
  }

  pub receiver_premises : (asked : Bool) (call : Call) → AreValidOptions other → is_interleaved ≡ (agreed other own).message_interleaving → performed_in s.emitted < 2 ^ 32 - 1
      → IsAnswered (state_of s) so_far.asked → Holds message lifecycle is_interleaved x (queue_of s) f.kept → ReceivesData message is_interleaved call (first_out (state_of s)) x
      → ReceiverPremises message lifecycle is_interleaved (setting other own r s asked) call x
  receiver_premises asked call given mode few soon holds receives = record {
    kept = f.kept;
    own = given;
    mode = mode;
    few_asks = few_asks few;
    queue = queue_of s;
    beside = f.sends;
    windows = holds.windows;
    few = holds.few;
    short = short_index message (2 ^ 32) (transfer_of x).sender f.filled (λ t below. f.short (place_of (transfer_of x).sender t));
    soon = asks_soon soon;
    receives = receives;
  }

  -- nothing is done yet
  pub begins_out : IsSilent s → SenderClaim message lifecycle is_interleaved x [] (calm s.end) x
  begins_out q = record {
    kept = f.kept;
    goes = goes_none message is_interleaved goes_out x;
    done = refl;
    shown = f.sends;
    since = λ a there. inl there;
    given_up = ap (λ (t : Emitted Carried). recorded_places t) q.emitted;
    reported = reports_none lifecycle (transfer_of x) (transfer_of x) [] s.end.endpoint_state.context.emitted.events refl (ap (λ (t : Emitted Carried). delivered_ids t.events) q.emitted);
    performed = let none = ap (λ (t : Emitted Carried). performed_in t.events) q.emitted in omega (arith, none);
    epochs = λ g so. subst (λ (t : Emitted Carried). AreSo (reopen (performed_of t.events) (shut_streams [] g)) x.rules) (sym q.emitted) so;
    none_failed = ap (λ (t : Emitted Carried). failed_in t.events) q.emitted;
    emitted = subst (λ (t : Emitted Carried). All (λ (p : Carried). All (SaysOut message is_interleaved (first_out (state_of s)) (transfer_of x).acknowledged x) p.chunks) (packets_in t.events))
        (sym q.emitted) (All-nil _);
    made = All-nil _;
  }

  pub begins_in : IsSilent r → ReceiverClaim message is_interleaved x handed (calm r.end) x
  begins_in q = record {
    kept = f.kept;
    goes = goes_none message is_interleaved goes_in x;
    stay = (refl, refl);
    shown = f.refines;
    performed = λ k. let none = ap (λ (t : Emitted Carried). resets_emitted k t.events) q.emitted in omega (arith, none);
    emitted = subst (λ (t : Emitted Carried). All (λ (p : Carried). All (SaysIn (first_in (state_of r)) (transfer_of x).acknowledged x) p.chunks) (packets_in t.events))
        (sym q.emitted) (All-nil _);
    made = All-nil _;
  }
