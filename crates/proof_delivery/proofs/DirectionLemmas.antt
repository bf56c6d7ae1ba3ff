-- Between actions, one direction of two ends: the sender's values, the receiver's, and all packets that either ever emitted, at a
-- state of the rules.
use Rattle.std.proofs.Common.{◌≡◌, ℕ, zero, suc, ◌-◌, ◌^◌, ◌≤◌, Bool, true, false, Option, Some, None, List, [], ◌∷◌, ◌++◌, length, replicate, slice_get, All, refl, sym, ap, subst, ◌∙◌, arith, ◌<◌}
use Rattle.std.proofs.lemmas.List.{length-append}
use Rattle.std.proofs.lemmas.List.Elements.{All-head, All-tail, All-weaker}
use Rattle.std.specs.Prelude.{⊤}
use Rattle.sctp_serial.specs.Messages as messages
use Rattle.sctp_wire.specs.Parameter.{ParameterTree, outgoing_reset_request, incoming_reset_request}
use Rattle.sctp_packet.specs.Chunk.{ChunkTree, data_chunk, idata_chunk, re_config_chunk, forward_tsn_chunk, i_forward_tsn_chunk}
use Rattle.sctp_state.specs.Events.{nothing_emitted}
use Rattle.proof_protocol.specs.State.{Message, IsAmong, count}
use Rattle.proof_protocol.specs.Resets.{ResetEvent}
use Rattle.proof_protocol.specs.Based.{InEpochs}
use Rattle.spec_endpoint.specs.Association.{State, Closed, CookieWait, Open}
use Rattle.spec_endpoint.specs.Shown.{Association, association_in}
use Rattle.proof_endpoint.specs.Mapped.{Carried}
use Rattle.proof_pair.specs.Trace.{Side, emitted_packets, state_of}
use Rattle.proof_delivery.specs.Answered.{performed_in}
use Rattle.proof_delivery.specs.Asks.{ResetRequest, SaysOutgoing}
use Rattle.proof_delivery.specs.StreamEpochs.{StreamEpoch, resets_emitted, failed_in}
use Rattle.proof_delivery.specs.Windows.{Stamp, queue_of}
use Rattle.proof_delivery.proofs.ClaimLemmas.{Direction, transfer_of, IsKept, GoesOn, SaysOut, SaysIn, first_out, first_in, AreSo, SendsIn, ReceivesIn}
use Rattle.proof_delivery.proofs.FilledLemmas.{IsFilled}
use Rattle.proof_delivery.proofs.SenderToolLemmas.{Grows, goes_grows, all_out_stay, all_in_stay}
use Rattle.proof_delivery.proofs.ReceiverToolLemmas.{no_chunks_said}

-- ---- packets and their stamps, one by one

abbrev pub Each : (Stamp → Carried → Type 0) → List Carried → List Stamp → Type 0
Each P [] [] = ⊤
Each P [] (s ∷ ss) = ⊥
Each P (p ∷ ps) [] = ⊥
Each P (p ∷ ps) (s ∷ ss) = P s p × Each P ps ss

pub each_weaker : (P Q : Stamp → Carried → Type 0) → ((s : Stamp) (p : Carried) → P s p → Q s p) → (ps : List Carried) (ss : List Stamp) → Each P ps ss → Each Q ps ss
each_weaker P Q f [] [] h = tt
each_weaker P Q f [] (s ∷ ss) h = absurd h
each_weaker P Q f (p ∷ ps) [] h = absurd h
each_weaker P Q f (p ∷ ps) (s ∷ ss) h = (f s p h.0, each_weaker P Q f ps ss h.1)

-- all with one stamp
each_alike : (P : Stamp → Carried → Type 0) (s : Stamp) (ps : List Carried) → All (P s) ps → Each P ps (replicate (length ps) s)
each_alike P s [] h = tt
each_alike P s (p ∷ ps) h = (All-head (P s) p ps h, each_alike P s ps (All-tail (P s) p ps h))

each_both : (P : Stamp → Carried → Type 0) (ps qs : List Carried) (ss us : List Stamp) → Each P ps ss → Each P qs us → Each P (ps ++ qs) (ss ++ us)
each_both P [] qs [] us h k = k
each_both P [] qs (s ∷ ss) us h k = absurd h
each_both P (p ∷ ps) qs [] us h k = absurd h
each_both P (p ∷ ps) qs (s ∷ ss) us h k = (h.0, each_both P ps qs ss us h.1 k)

behind_length : (ps qs : List Carried) → length (ps ++ qs) - length ps ≡ length qs
behind_length ps qs = let e = length-append ps qs in omega (arith, e)

-- more of them with one stamp
pub each_behind : (P : Stamp → Carried → Type 0) (s : Stamp) (ps qs : List Carried) (ss : List Stamp) → Each P ps ss → All (P s) qs
    → Each P (ps ++ qs) (ss ++ replicate (length (ps ++ qs) - length ps) s)
each_behind P s ps qs ss h k =
    subst (λ (n : ℕ). Each P (ps ++ qs) (ss ++ replicate n s)) (sym (behind_length ps qs)) (each_both P ps qs ss (replicate (length qs) s) h (each_alike P s qs k))

-- the packet with this number
pub record AtStamp (P : Stamp → Carried → Type 0) (ss : List Stamp) (n : ℕ) (p : Carried) : Type 0 where
  pub stamp : Stamp
  pub there : slice_get ss n ≡ Some stamp
  pub holds : P stamp p

some_packet : (p q : Carried) → Some p ≡ Some q → p ≡ q
some_packet p q e = ap (λ (o : Option Carried). elim o [ None ↦ p | Some z ↦ z ]) e

pub each_at : (P : Stamp → Carried → Type 0) (ps : List Carried) (ss : List Stamp) (n : ℕ) (p : Carried) → slice_get ps n ≡ Some p → Each P ps ss → AtStamp P ss n p
each_at P [] ss n p e h = cc
each_at P (q ∷ ps) [] n p e h = absurd h
each_at P (q ∷ ps) (s ∷ ss) zero p e h = record { stamp = s; there = refl; holds = subst (λ (z : Carried). P s z) (some_packet q p e) h.0 }
each_at P (q ∷ ps) (s ∷ ss) (suc n) p e h = let r = each_at P ps ss n p e h.1 in record { stamp = r.stamp; there = r.there; holds = r.holds }

-- what was acknowledged, by the stamp of a packet of the sender
abbrev pub least_out : (Stamp → ℕ) → Stamp → ℕ
least_out of s = of s - 2 ^ 30

-- ---- what packets say

-- of what was acknowledged when a packet was emitted
abbrev pub Saying : Type 1
Saying = (least : ℕ) → Direction → ChunkTree → Type 0

pub record IsUnderWay (Says : Saying) (x : Direction) (least : ℕ) (p : Carried) : Type 0 where
  pub past : least ≤ (transfer_of x).acknowledged
  pub says : All (Says least x) p.chunks

abbrev pub AllUnderWay : Saying → (of : Stamp → ℕ) → Direction → List Carried → List Stamp → Type 0
AllUnderWay Says of x ps ss = Each (λ stamp p. IsUnderWay Says x (of stamp) p) ps ss

module _ (message : ℕ → Message) (is_interleaved : Bool) where
  abbrev pub says_out : (first : ℕ) → Saying
  says_out first = λ least x chunk. SaysOut message is_interleaved first least x chunk

  abbrev pub says_in : (first : ℕ) → Saying
  says_in first = λ least x chunk. SaysIn first least x chunk

  under_way_on : (Says New : Saying) (x y : Direction) → Grows message is_interleaved x y
      → ((least : ℕ) (chunks : List ChunkTree) → All (Says least x) chunks → All (New least y) chunks) → (least : ℕ) (p : Carried)
      → IsUnderWay Says x least p → IsUnderWay New y least p
  under_way_on Says New x y g f least p h =
      let l = h.past in
      let m = g.left in
      record { past = omega (arith, l, m); says = f least p.chunks h.says }

  -- what was said stays true along rules
  pub out_on : (kind : ResetEvent → Bool) (x y : Direction) → InEpochs message is_interleaved x.rules → GoesOn message is_interleaved kind x y → (first : ℕ) (of : Stamp → ℕ) (ps : List Carried) (ss : List Stamp)
      → AllUnderWay (says_out first) of x ps ss → AllUnderWay (says_out first) of y ps ss
  out_on kind x y k g first of ps ss h =
      each_weaker (λ stamp p. IsUnderWay (says_out first) x (of stamp) p) (λ stamp p. IsUnderWay (says_out first) y (of stamp) p)
      (λ stamp p. under_way_on (says_out first) (says_out first) x y (goes_grows message is_interleaved kind x y k g)
      (λ least chunks. all_out_stay message is_interleaved kind x y k g first least chunks) (of stamp) p) ps ss h

  pub in_on : (kind : ResetEvent → Bool) (x y : Direction) → InEpochs message is_interleaved x.rules → GoesOn message is_interleaved kind x y → (first : ℕ) (of : Stamp → ℕ) (ps : List Carried) (ss : List Stamp)
      → AllUnderWay (says_in first) of x ps ss → AllUnderWay (says_in first) of y ps ss
  in_on kind x y k g first of ps ss h =
      each_weaker (λ stamp p. IsUnderWay (says_in first) x (of stamp) p) (λ stamp p. IsUnderWay (says_in first) y (of stamp) p)
      (λ stamp p. under_way_on (says_in first) (says_in first) x y (goes_grows message is_interleaved kind x y k g)
      (λ least chunks. all_in_stay message is_interleaved kind x y k g first least chunks) (of stamp) p) ps ss h

  -- ---- the first TSN is that of the association, which stands

  -- where nothing was sent, whichever it is
  asks_anew : (asks : List ResetRequest) → asks ≡ [] → (first new : ℕ) (p : ParameterTree) → SaysOutgoing first asks p → SaysOutgoing new asks p
  asks_anew asks none first new (outgoing_reset_request number response last_tsn streams) h =
      absurd (none_some h.ask (ap (λ (l : List ResetRequest). slice_get l h.at) (sym none) ∙ h.there))
    where
      none_some : (a : ResetRequest) → None ≡ Some a → ⊥
      none_some a e = cc
  asks_anew asks none first new (incoming_reset_request number streams) h = h
  asks_anew asks none first new p h = tt

  out_anew : (x : Direction) → count (transfer_of x).sender ≡ 0 → (transfer_of x).forward_points ≡ [] → x.asks ≡ [] → (first new least : ℕ) (chunk : ChunkTree)
      → SaysOut message is_interleaved first least x chunk → SaysOut message is_interleaved new least x chunk
  out_anew x none no_points no_asks first new least (data_chunk tsn is_immediate f) h = let b = h.1.carries.below in absurd (omega (arith, none, b))
  out_anew x none no_points no_asks first new least (idata_chunk tsn is_immediate f) h = let b = h.1.carries.below in absurd (omega (arith, none, b))
  out_anew x none no_points no_asks first new least (forward_tsn_chunk tsn skipped) h = absurd (subst (λ z. IsAmong h.point z) no_points h.sent)
  out_anew x none no_points no_asks first new least (i_forward_tsn_chunk tsn skipped) h = absurd (subst (λ z. IsAmong h.point z) no_points h.sent)
  out_anew x none no_points no_asks first new least (re_config_chunk parameters) h =
      All-weaker (SaysOutgoing first x.asks) (SaysOutgoing new x.asks) (λ p. asks_anew x.asks no_asks first new p) parameters h
  out_anew x none no_points no_asks first new least chunk h = h

  all_anew : (x : Direction) → count (transfer_of x).sender ≡ 0 → (transfer_of x).forward_points ≡ [] → x.asks ≡ [] → (first new least : ℕ) (chunks : List ChunkTree)
      → All (SaysOut message is_interleaved first least x) chunks → All (SaysOut message is_interleaved new least x) chunks
  all_anew x none no_points no_asks first new least chunks h =
      All-weaker (SaysOut message is_interleaved first least x) (SaysOut message is_interleaved new least x) (λ chunk. out_anew x none no_points no_asks first new least chunk) chunks h

  anew : (Says New : Saying) (x : Direction) → ((least : ℕ) (chunks : List ChunkTree) → All (Says least x) chunks → All (New least x) chunks) → (of : Stamp → ℕ)
      (ps : List Carried) (ss : List Stamp) → AllUnderWay Says of x ps ss → AllUnderWay New of x ps ss
  anew Says New x f of ps ss h =
      each_weaker (λ stamp p. IsUnderWay Says x (of stamp) p) (λ stamp p. IsUnderWay New x (of stamp) p)
      (λ stamp p u. record { past = u.past; says = f (of stamp) p.chunks u.says }) ps ss h

-- an association that stands is not replaced
abbrev pub Stands : (before after : State) → Type 0
Stands s t = (a : Association) → association_in s ≡ Some a → association_in t ≡ Some a

abbrev initial : (mine : Bool) → Option Association → ℕ
initial mine None = 0
initial true (Some a) = a.my_initial_tsn
initial false (Some a) = a.peer_initial_tsn

pub none_stands : {a : Association} → None ≡ Some a → ⊥
none_stands e = cc

-- of the sender: its first TSN is the same
pub same_out : (message : ℕ → Message) (lifecycle : ℕ → Option ℕ) (is_interleaved : Bool) (p : _) (t : _) (next : _) (u : _) (q r : _) (x y : Direction) → SendsIn message lifecycle is_interleaved (Open p t) q x
    → SendsIn message lifecycle is_interleaved (Open next u) r y → Stands (Open p t) (Open next u) → t.sender.outstanding.first ≡ u.sender.outstanding.first
same_out message lifecycle is_interleaved p t next u q r x y h k f = h.first ∙ (sym (ap (initial true) (f _ refl)) ∙ sym k.first)

module _ (message : ℕ → Message) (lifecycle : ℕ → Option ℕ) (is_interleaved : Bool) (of : Stamp → ℕ) (x : Direction) where
  -- after an action of the sender
  pub out_first : (s t : State) (q r : _) (y : Direction) → SendsIn message lifecycle is_interleaved s q x → SendsIn message lifecycle is_interleaved t r y → Stands s t
      → (ps : List Carried) (ss : List Stamp) → AllUnderWay (says_out message is_interleaved (first_out s)) of x ps ss → AllUnderWay (says_out message is_interleaved (first_out t)) of x ps ss
  out_first Closed t q r y h k f ps ss a =
      anew message is_interleaved (says_out message is_interleaved 0) (says_out message is_interleaved (first_out t)) x
      (all_anew message is_interleaved x (ap count h.sender) h.no_points h.none_asked 0 (first_out t)) of ps ss a
  out_first (CookieWait tag first t1) t q r y h k f ps ss a =
      anew message is_interleaved (says_out message is_interleaved 0) (says_out message is_interleaved (first_out t)) x
      (all_anew message is_interleaved x (ap count h.sender) h.no_points h.none_asked 0 (first_out t)) of ps ss a
  out_first (Open phase t) Closed q r y h k f ps ss a = absurd (none_stands (f _ refl))
  out_first (Open phase t) (CookieWait tag first t1) q r y h k f ps ss a = absurd (none_stands (f _ refl))
  out_first (Open phase t) (Open next u) q r y h k f ps ss a =
      subst (λ (n : ℕ). AllUnderWay (says_out message is_interleaved n) of x ps ss) (same_out message lifecycle is_interleaved phase t next u q r x y h k f) a

  -- and of the receiver
  pub in_first : (s t : State) (before after : List messages.Message) (y : Direction) → ReceivesIn message is_interleaved s before x → ReceivesIn message is_interleaved t after y → Stands s t
      → (ps : List Carried) (ss : List Stamp) → AllUnderWay (says_in message is_interleaved (first_in s)) of x ps ss → AllUnderWay (says_in message is_interleaved (first_in t)) of x ps ss
  in_first Closed t before after y h k f ps ss a =
      anew message is_interleaved (says_in message is_interleaved 0) (says_in message is_interleaved (first_in t)) x
      (no_chunks_said x h.no_sacks h.none_done 0 (first_in t)) of ps ss a
  in_first (CookieWait tag first t1) t before after y h k f ps ss a =
      anew message is_interleaved (says_in message is_interleaved 0) (says_in message is_interleaved (first_in t)) x
      (no_chunks_said x h.no_sacks h.none_done 0 (first_in t)) of ps ss a
  in_first (Open phase t) Closed before after y h k f ps ss a = absurd (none_stands (f _ refl))
  in_first (Open phase t) (CookieWait tag first t1) before after y h k f ps ss a = absurd (none_stands (f _ refl))
  in_first (Open phase t) (Open next u) before after y h k f ps ss a =
      subst (λ (n : ℕ). AllUnderWay (says_in message is_interleaved n) of x ps ss) (h.first ∙ (sym (ap (initial false) (f _ refl)) ∙ sym k.first)) a

-- ---- the direction from s to r

-- What the trace so far says of its resets: how the streams stand, the epoch of each message that was accepted, and how many
-- fragments were numbered before the action in which the ask that waits was sent.
pub record SoFar : Type 0 where
  pub streams : ℕ → StreamEpoch
  pub epochs : List ℕ
  pub asked : ℕ

module _ (message : ℕ → Message) (lifecycle : ℕ → Option ℕ) (is_interleaved : Bool) (of : Stamp → ℕ) where
  -- Where so many messages were accepted, these were handed out, and all packets have these stamps. Each message is shorter than
  -- an FSN says. Each reset that was performed was emitted, by both ends.
  pub record Flows (s r : Side) (accepted : ℕ) (handed : List messages.Message) (stamps_s stamps_r : List Stamp) (so_far : SoFar) (x : Direction) : Type 0 where
    pub kept : IsKept message is_interleaved x
    pub filled : IsFilled message (transfer_of x).sender
    pub short : (p : ℕ) → length (message p).payload < 2 ^ 32
    pub sends : SendsIn message lifecycle is_interleaved (state_of s) (queue_of s) x
    pub refines : ReceivesIn message is_interleaved (state_of r) handed x
    pub accepted_is : (transfer_of x).sender.accepted ≡ accepted
    pub out : AllUnderWay (says_out message is_interleaved (first_out (state_of s))) (least_out of) x (emitted_packets s) stamps_s
    pub answers : AllUnderWay (says_in message is_interleaved (first_in (state_of r))) of x (emitted_packets r) stamps_r
    pub streams : AreSo so_far.streams x.rules
    pub many : length so_far.epochs ≡ accepted
    pub epochs : (p n : ℕ) → slice_get so_far.epochs p ≡ Some n → x.rules.epoch p ≡ n
    pub asked : (a : ResetRequest) → slice_get x.asks x.answered ≡ Some a → so_far.asked ≤ a.upto
    pub answered : x.answered ≡ performed_in s.emitted
    pub performed : (k : ℕ) → x.rules.performed k ≡ resets_emitted k r.emitted
    pub none_failed : failed_in s.emitted ≡ false

-- what it emitted was taken
pub record IsSilent (x : Side) : Type 0 where
  pub emitted : x.end.endpoint_state.context.emitted ≡ nothing_emitted
