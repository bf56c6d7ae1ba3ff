-- What an end receives as receiver, in the middle of its action: each fragment and each forward point has its number there, and each request
-- is an ask.
use Rattle.std.proofs.Common.{◌≡◌, ℕ, suc, ◌+◌, ◌*◌, ◌^◌, ◌<◌, ◌≤◌, Bool, true, false, Option, Some, List, length, slice_get, All, sym, ap, ◌∙◌, subst, arith}
use Rattle.std.proofs.lemmas.List.Elements.{All-weaker}
use Rattle.std.proofs.lemmas.Option.{slice_get_within}
use Rattle.sctp_serial.specs.Messages as messages
use Rattle.sctp_serial.specs.Unwrapped.{origin, u32_space, wire}
use Rattle.sctp_serial.specs.declared.api.StreamId.{StreamId}
use Rattle.sctp_serial.specs.declared.types.tsn.Tsn.{Tsn}
use Rattle.sctp_wire.specs.Parameter.{ParameterTree, outgoing_reset_request, incoming_reset_request}
use Rattle.sctp_packet.specs.Chunk.{ChunkTree, FragmentTree, data_chunk, idata_chunk, re_config_chunk, forward_tsn_chunk, i_forward_tsn_chunk}
use Rattle.sctp_chunk.specs.declared.forward_tsn.SkippedStream.{SkippedStream}
use Rattle.sctp_tx_queue.specs.SendQueue.{Queue}
use Rattle.sctp_rx.specs.DataTracker as tracker
use Rattle.sctp_rx.specs.DataTracker.{DataTracker}
use Rattle.proof_protocol.specs.State.{Message, ForwardPoint, Sender, Transfer, IsAmong, place_of, count, ordered_of, stream_of}
use Rattle.proof_protocol.specs.Points.{AreApart}
use Rattle.proof_protocol.specs.Resets.{Epochs}
use Rattle.proof_protocol.specs.Based.{EpochWindows}
use Rattle.proof_refines.specs.Read.{Carries}
use Rattle.proof_refines.specs.Near.{IsWritten, AreEntries, AreFew}
use Rattle.proof_refines.specs.Resets.{base_now}
use Rattle.spec_endpoint.specs.Association.{Tcb, Phase, State, Closed, CookieWait, Open}
use Rattle.spec_endpoint.specs.ResetRequests.{ids}
use Rattle.spec_endpoint.specs.Laws.{Call}
use Rattle.proof_endpoint.specs.Mapped.{Carried}
use Rattle.proof_endpoint.specs.Acts.{EndWithPacket, in_open, BringsChunk, IsAsked, HasRequest, for_outgoing, for_incoming, AsksNoIncoming}
use Rattle.proof_pair.proofs.JoinActsLemmas.{Setting, InvAt}
use Rattle.proof_pair.proofs.JoinLemmas.{Draw, view_of, both_of, Faces}
use Rattle.proof_pair.proofs.AddedLemmas.{all_at}
use Rattle.proof_delivery.specs.Asks.{ResetRequest, number_of, last_tsn_of, SaysAsk, SaysOutgoing}
use Rattle.proof_delivery.proofs.ClaimLemmas.{Direction, transfer_of, IsKept, SaysData, SaysPoint, SaysOut, WasSaid, IsWaiting, SendsIn, IsReceiving, first_out, AreShort, AsksSoon, ReceiverPremises}
use Rattle.proof_delivery.proofs.ReceiverToolLemmas.{SameSender}
use Rattle.proof_delivery.proofs.ReadingLemmas.{DataSaid, PointSaid, data_was_said, idata_was_said, point_was_said, ipoint_was_said, parameters_were_said, number_is_read}

-- ---- of one state of the rules, what another says too

module _ (message : ℕ → Message) (is_interleaved : Bool) (first least : ℕ) (x y : Direction) (sender : (transfer_of x).sender ≡ (transfer_of y).sender)
    (points : (transfer_of x).forward_points ≡ (transfer_of y).forward_points) (asks : x.asks ≡ y.asks) where
  data_same : (tsn : ℕ) (f : FragmentTree) → SaysData message first least (transfer_of y).sender tsn f → SaysData message first least (transfer_of x).sender tsn f
  data_same tsn f h = subst (λ (o : Sender). SaysData message first least o tsn f) (sym sender) h

  point_same : (chunk : ChunkTree) → SaysPoint is_interleaved first least (transfer_of y) chunk → SaysPoint is_interleaved first least (transfer_of x) chunk
  point_same chunk h = record {
    point = h.point;
    sent = subst (IsAmong h.point) (sym points) h.sent;
    written = h.written;
    apart = h.apart;
    ahead = h.ahead;
  }

  out_same : (chunk : ChunkTree) → SaysOut message is_interleaved first least y chunk → SaysOut message is_interleaved first least x chunk
  out_same (data_chunk tsn is_immediate f) h = (h.0, data_same tsn f h.1)
  out_same (idata_chunk tsn is_immediate f) h = (h.0, data_same tsn f h.1)
  out_same (forward_tsn_chunk tsn skipped) h = point_same (forward_tsn_chunk tsn skipped) h
  out_same (i_forward_tsn_chunk tsn skipped) h = point_same (i_forward_tsn_chunk tsn skipped) h
  out_same (re_config_chunk parameters) h = subst (λ (l : List ResetRequest). All (SaysOutgoing first l) parameters) (sym asks) h
  out_same chunk h = tt

-- ---- the first TSN is the one that is expected

module _ (message : ℕ → Message) (lifecycle : ℕ → Option ℕ) (is_interleaved : Bool) (least : ℕ) (x : Direction) (q : Queue) where
  -- without a control block nothing was sent
  module _ (waits : IsWaiting message lifecycle is_interleaved q x) (one other : ℕ) where
    no_data : (tsn : ℕ) (f : FragmentTree) → SaysData message one least (transfer_of x).sender tsn f → ⊥
    no_data tsn f h =
        let below : h.carries.at < count (transfer_of x).sender = h.carries.below in
        let none : count (transfer_of x).sender ≡ 0 = ap count waits.sender in
        omega (arith, below, none)

    no_point : (chunk : ChunkTree) → SaysPoint is_interleaved one least (transfer_of x) chunk → ⊥
    no_point chunk h = subst (IsAmong h.point) waits.no_points h.sent

    no_ask : (n last_tsn : ℕ) (streams : List StreamId) → SaysAsk one x.asks n last_tsn streams → ⊥
    no_ask n last_tsn streams h =
        let l = slice_get_within x.asks h.at h.ask h.there in
        let none : length x.asks ≡ 0 = ap length waits.none_asked in
        omega (arith, l, none)

    none_asked : (p : ParameterTree) → SaysOutgoing one x.asks p → SaysOutgoing other x.asks p
    none_asked (outgoing_reset_request n response last_tsn streams) h = absurd (no_ask n last_tsn.0 streams h)
    none_asked p h = h

    waiting_says : (chunk : ChunkTree) → SaysOut message is_interleaved one least x chunk → SaysOut message is_interleaved other least x chunk
    waiting_says (data_chunk tsn is_immediate f) h = absurd (no_data tsn f h.1)
    waiting_says (idata_chunk tsn is_immediate f) h = absurd (no_data tsn f h.1)
    waiting_says (forward_tsn_chunk tsn skipped) h = absurd (no_point (forward_tsn_chunk tsn skipped) h)
    waiting_says (i_forward_tsn_chunk tsn skipped) h = absurd (no_point (i_forward_tsn_chunk tsn skipped) h)
    waiting_says (re_config_chunk parameters) h = All-weaker (SaysOutgoing one x.asks) (SaysOutgoing other x.asks) none_asked parameters h
    waiting_says chunk h = tt

  expected : (s : State) (t : Tcb) → SendsIn message lifecycle is_interleaved s q x → Faces (Some (both_of t)) (view_of s).mine → t.tracker.first ≡ t.identity.peer_first
      → (chunk : ChunkTree) → SaysOut message is_interleaved (first_out s) least x chunk → SaysOut message is_interleaved t.tracker.first least x chunk
  expected Closed t sends faces first chunk h = waiting_says sends 0 t.tracker.first chunk h
  expected (CookieWait tag my_first t1) t sends faces first chunk h = waiting_says sends 0 t.tracker.first chunk h
  expected (Open phase u) t sends faces first chunk h =
      let crossed : u.identity.my_first ≡ t.identity.peer_first = ap (λ (d : Draw). d.first) faces in
      subst (λ (n : ℕ). SaysOut message is_interleaved n least x chunk) (sends.first ∙ (crossed ∙ sym first)) h

-- ---- what is received

-- the fragment with its number, as the tracker reads it
pub record DataReceived (message : ℕ → Message) (is_interleaved : Bool) (x : Transfer) (d : DataTracker) (tsn : ℕ) (f : FragmentTree) : Type 0 where
  pub at : ℕ
  pub below : at < count x.sender
  pub tsn_is : tsn ≡ wire u32_space d.first (origin + at)
  pub number_is : tracker.is_valid d.tracker (tracker.number_of d tsn) ≡ true → tracker.number_of d tsn ≡ origin + at
  pub carries : Carries message is_interleaved x.sender at f
  pub written : IsWritten message is_interleaved x.sender at f

-- the forward point, with the last number that it passes
pub record PointReceived (is_interleaved : Bool) (x : Transfer) (d : DataTracker) (tsn : ℕ) (skipped : List SkippedStream) : Type 0 where
  pub point : ForwardPoint
  pub at : ℕ
  pub sent : IsAmong point x.forward_points
  pub upto : point.upto ≡ suc at
  pub below : at < count x.sender
  pub tsn_is : tsn ≡ wire u32_space d.first (origin + at)
  pub number_is : tracker.is_valid d.tracker (tracker.number_of d tsn) ≡ true → tracker.number_of d tsn ≡ origin + at
  pub apart : AreApart point.entries
  pub entries : AreEntries is_interleaved skipped point.entries

-- the request is an ask, and its last TSN is the last one before it
pub record RequestReceived (x : Direction) (d : DataTracker) (number last_tsn : ℕ) (streams : List StreamId) : Type 0 where
  pub at : ℕ
  pub ask : ResetRequest
  pub there : slice_get x.asks at ≡ Some ask
  pub number_is : number ≡ number_of d.first at
  pub streams_are : streams ≡ ids ask.streams
  pub within : ask.upto ≤ count (transfer_of x).sender
  pub tsn_is : last_tsn ≡ last_tsn_of d.first ask

-- the windows of what is sent, whose epochs and points stay
module _ (message : ℕ → Message) (is_interleaved : Bool) (x y : Epochs) (same : SameSender message is_interleaved x y) (windows : EpochWindows message x) where
  abbrev AreNear : (o : Sender) (least : ℕ) (epoch opened : ℕ → ℕ) → Type 0
  AreNear o least epoch opened =
      (t : ℕ) → least ≤ t → t < count o → ordered_of message (place_of o t) ≡ true → epoch (place_of o t) ≡ opened (stream_of message (place_of o t))
      → o.counts true (stream_of message (place_of o t)) < o.number (place_of o t) + 32000

  pub windows_still : EpochWindows message y
  windows_still = record {
    items = subst (λ (o : Sender). y.transfer.acknowledged < count o → count o ≤ y.transfer.acknowledged + 2 ^ 30) (sym same.sender)
        (subst (λ (n : ℕ). n < count x.transfer.sender → count x.transfer.sender ≤ n + 2 ^ 30) (sym same.acknowledged) windows.items);
    messages = subst (λ (o : Sender). AreNear o y.transfer.acknowledged y.epoch y.opened) (sym same.sender)
        (subst (λ (n : ℕ). AreNear x.transfer.sender n y.epoch y.opened) (sym same.acknowledged)
        (subst (λ (f : ℕ → ℕ). AreNear x.transfer.sender x.transfer.acknowledged f y.opened) (sym same.epoch)
        (subst (λ (f : ℕ → ℕ). AreNear x.transfer.sender x.transfer.acknowledged x.epoch f) (sym same.opened) windows.messages)));
  }

module _ (message : ℕ → Message) (lifecycle : ℕ → Option ℕ) (is_interleaved : Bool) (g : Setting) (call : Call) (from : Direction)
    (premises : ReceiverPremises message lifecycle is_interleaved g call from) (handed : List messages.Message) (phase : Phase) (t : Tcb) (m : EndWithPacket Carried)
    (inv : InvAt g (in_open phase t m)) (x : Direction) (kept : IsKept message is_interleaved x) (shown : IsReceiving message is_interleaved handed t x)
    (same : SameSender message is_interleaved from.rules x.rules) (asks : x.asks ≡ from.asks) where
  count_same : count (transfer_of x).sender ≡ count (transfer_of from).sender
  count_same = ap count same.sender

  pub windows_stay : EpochWindows message x.rules
  windows_stay = windows_still message is_interleaved from.rules x.rules same premises.windows

  pub few_stay : AreFew (transfer_of x).sender
  few_stay = subst AreFew (sym same.sender) premises.few

  -- the ask that waits is no older
  pub soon_stays : x.answered ≡ from.answered → AsksSoon x
  soon_stays answered a there =
      let e = count_same in
      let l = premises.soon a (ap (λ (k : ℕ). slice_get from.asks k) (sym answered) ∙ (ap (λ (l : List ResetRequest). slice_get l x.answered) (sym asks) ∙ there)) in
      omega (arith, e, l)

  pub short_stays : AreShort (transfer_of x).sender
  short_stays = subst AreShort (sym same.sender) premises.short

  abbrev least : ℕ
  least = premises.receives.least

  abbrev Says : ChunkTree → Type 0
  Says = SaysOut message is_interleaved t.tracker.first least x

  received_here : (tag : ℕ) (chunk : ChunkTree) → BringsChunk call tag chunk → WasSaid Says chunk
  received_here tag chunk received =
      let h : WasSaid (SaysOut message is_interleaved (first_out g.beside) least from) chunk = premises.receives.says tag chunk received in
      record {
        said = h.said;
        is = h.is;
        says = out_same message is_interleaved t.tracker.first least x from same.sender same.forward_points asks h.said
            (expected message lifecycle is_interleaved least from premises.queue g.beside t premises.beside inv.stands.faces shown.first h.said h.says);
      }

  number_here : (k tsn : ℕ) → k < count (transfer_of x).sender → least ≤ k → tsn ≡ wire u32_space t.tracker.first (origin + k)
      → tracker.is_valid t.tracker.tracker (tracker.number_of t.tracker tsn) ≡ true → tracker.number_of t.tracker tsn ≡ origin + k
  number_here k tsn below past tsn_is =
      let young : count (transfer_of from).sender < least + 3 * 2 ^ 30 = premises.receives.young in
      let e = count_same in
      number_is_read message is_interleaved (base_now x.rules) shown.shift (transfer_of x) handed t.tracker t.reassembly k tsn kept.epochs.order.kept windows_stay.items shown.refines
      shown.is_tracker below (omega (arith, e, young, past)) tsn_is

  data_here : (tsn : ℕ) (f : FragmentTree) → DataSaid message is_interleaved t.tracker.first least (transfer_of x) tsn f → DataReceived message is_interleaved (transfer_of x) t.tracker tsn f
  data_here tsn f s = record {
    at = s.at;
    below = s.below;
    tsn_is = s.tsn_is;
    number_is = number_here s.at tsn s.below s.from s.tsn_is;
    carries = s.carries;
    written = s.written;
  }

  point_here : (tsn : ℕ) (skipped : List SkippedStream) → PointSaid is_interleaved t.tracker.first least (transfer_of x) tsn skipped → PointReceived is_interleaved (transfer_of x) t.tracker tsn skipped
  point_here tsn skipped s = record {
    point = s.point;
    at = s.at;
    sent = s.sent;
    upto = s.upto;
    below = s.below;
    tsn_is = s.tsn_is;
    number_is = number_here s.at tsn s.below s.from s.tsn_is;
    apart = s.apart;
    entries = s.entries;
  }

  pub data_is_received : (tag tsn : ℕ) (is_immediate : Bool) (f : FragmentTree) → BringsChunk call tag (data_chunk tsn is_immediate f)
      → (is_interleaved ≡ false) × DataReceived message is_interleaved (transfer_of x) t.tracker tsn f
  data_is_received tag tsn is_immediate f received =
      let s = data_was_said message is_interleaved x t.tracker.first least tsn is_immediate f (received_here tag (data_chunk tsn is_immediate f) received) in
      (s.0, data_here tsn f s.1)

  pub idata_is_received : (tag tsn : ℕ) (is_immediate : Bool) (f : FragmentTree) → BringsChunk call tag (idata_chunk tsn is_immediate f)
      → (is_interleaved ≡ true) × DataReceived message is_interleaved (transfer_of x) t.tracker tsn f
  idata_is_received tag tsn is_immediate f received =
      let s = idata_was_said message is_interleaved x t.tracker.first least short_stays tsn is_immediate f (received_here tag (idata_chunk tsn is_immediate f) received) in
      (s.0, data_here tsn f s.1)

  pub point_is_received : (tag tsn : ℕ) (skipped : List SkippedStream) → BringsChunk call tag (forward_tsn_chunk tsn skipped)
      → (is_interleaved ≡ false) × PointReceived is_interleaved (transfer_of x) t.tracker tsn skipped
  point_is_received tag tsn skipped received =
      let s = point_was_said message is_interleaved x kept.epochs.order.kept t.tracker.first least tsn skipped (received_here tag (forward_tsn_chunk tsn skipped) received) in
      (s.0, point_here tsn skipped s.1)

  pub ipoint_is_received : (tag tsn : ℕ) (skipped : List SkippedStream) → BringsChunk call tag (i_forward_tsn_chunk tsn skipped)
      → (is_interleaved ≡ true) × PointReceived is_interleaved (transfer_of x) t.tracker tsn skipped
  ipoint_is_received tag tsn skipped received =
      let s = ipoint_was_said message is_interleaved x kept.epochs.order.kept t.tracker.first least tsn skipped (received_here tag (i_forward_tsn_chunk tsn skipped) received) in
      (s.0, point_here tsn skipped s.1)

  -- ---- requests

  parameter_here : (p : ParameterTree) → IsAsked call p → SaysOutgoing t.tracker.first x.asks p
  parameter_here p asked =
      let all = parameters_were_said message is_interleaved x t.tracker.first least asked.parameters (received_here asked.tag (re_config_chunk asked.parameters) asked.received) in
      all_at (SaysOutgoing t.tracker.first x.asks) asked.among.before asked.among.behind p (subst (All (SaysOutgoing t.tracker.first x.asks)) asked.among.split all)

  pub request_is_received : (n response : ℕ) (last_tsn : Tsn) (streams : List StreamId) → IsAsked call (outgoing_reset_request n response last_tsn streams)
      → RequestReceived x t.tracker n last_tsn.0 streams
  request_is_received n response last_tsn streams asked =
      let s : SaysAsk t.tracker.first x.asks n last_tsn.0 streams = parameter_here (outgoing_reset_request n response last_tsn streams) asked in
      record {
        at = s.at;
        ask = s.ask;
        there = s.there;
        number_is = s.number_is;
        streams_are = s.streams_are;
        within = (kept.asked.fine s.at s.ask s.there).within;
        tsn_is = s.last_is;
      }

  -- it doesn't ask for incoming streams
  pub none_incoming : AsksNoIncoming call
  none_incoming n streams asked = parameter_here (incoming_reset_request n streams) asked

  -- a request of the call
  pub has_ask : (n : ℕ) → HasRequest call n → (at : ℕ) × (at < length x.asks) × (n ≡ number_of t.tracker.first at)
  has_ask n (for_outgoing response last_tsn streams asked) =
      let s = request_is_received n response last_tsn streams asked in
      (s.at, slice_get_within x.asks s.at s.ask s.there, s.number_is)
  has_ask n (for_incoming streams asked) = absurd (none_incoming n streams asked)
