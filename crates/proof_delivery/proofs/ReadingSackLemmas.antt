-- What an end receives as sender, in the middle of its action: a SACK has the number there that the receiver meant, and an answer that is final is
-- to a request that was performed.
use Rattle.std.proofs.Common.{◌≡◌, ℕ, ◌+◌, ◌-◌, ◌^◌, ◌<◌, ◌≤◌, Bool, true, inl, inr, Option, Some, List, length, All, sym, ap, ◌∙◌, subst, arith}
use Rattle.std.proofs.lemmas.Bool.{cases_lt}
use Rattle.sctp_serial.specs.Messages as messages
use Rattle.sctp_serial.specs.declared.types.tsn.Tsn.{Tsn}
use Rattle.sctp_serial.specs.Unwrapped.{origin, u32_space, wire}
use Rattle.sctp_wire.specs.Parameter.{ParameterTree, reset_response}
use Rattle.sctp_packet.specs.Chunk.{ChunkTree, SackTree, sack_chunk, re_config_chunk}
use Rattle.sctp_packet.specs.Grammar.{carried}
use Rattle.sctp_tx_queue.specs.SendQueue.{Queue}
use Rattle.sctp_tx_outstanding.specs.OutstandingData.{Outstanding, number_of}
use Rattle.proof_protocol.specs.State.{Message, Receiver, Transfer, IsAmong, count}
use Rattle.proof_protocol.specs.Invariant.{Invariant}
use Rattle.spec_endpoint.specs.Association.{Tcb, Phase, State, Closed, CookieWait, Open}
use Rattle.spec_endpoint.specs.ResetRequests.{is_final}
use Rattle.spec_endpoint.specs.Laws.{Call}
use Rattle.proof_endpoint.specs.Mapped.{Carried}
use Rattle.proof_endpoint.specs.Acts.{EndWithPacket, in_open, BringsChunk, IsAsked, point_of}
use Rattle.proof_pair.proofs.AddedLemmas.{all_at}
use Rattle.proof_pair.proofs.JoinActsLemmas.{Setting, InvAt}
use Rattle.proof_pair.proofs.JoinLemmas.{Draw, view_of, own_draw, Faces}
use Rattle.proof_delivery.specs.Asks.{SaysDone, SaysIncoming}
use Rattle.proof_delivery.proofs.ClaimLemmas.{Direction, transfer_of, IsKept, SaysSack, SaysIn, WasSaid, IsFresh, IsSending, ReceivesIn, first_in, SenderPremises}
use Rattle.proof_refines.proofs.NearTsnLemmas.{words_near}

-- ---- the point of a SACK

-- it was sent
pub sack_was_said : (first least : ℕ) (x : Direction) (k : SackTree) → WasSaid (SaysIn first least x) (sack_chunk k) → SaysSack first least (transfer_of x) k
sack_was_said first least x k h = go h.said h.is h.says
  where
    go : (said : ChunkTree) → sack_chunk k ≡ carried said → SaysIn first least x said → SaysSack first least (transfer_of x) k
    go (sack_chunk other) e s = subst (SaysSack first least (transfer_of x)) (same e) s
      where
        same : sack_chunk k ≡ sack_chunk other → other ≡ k
        same e = cc
    go said e s = cc

-- what has left is less than half the space from the point c
sack_number : (d : Outstanding) (acknowledged c tsn : ℕ) → d.items.acked + 1 ≡ origin + acknowledged → tsn ≡ wire u32_space d.first (origin + c - 1)
    → acknowledged < c + 2 ^ 31 → c < acknowledged + 2 ^ 31 → number_of d tsn + 1 ≡ origin + c
sack_number d acknowledged c tsn point tsn_is a b =
    let n : ℕ = origin + c - 1 in
    let read : number_of d tsn ≡ n = ap (λ (w : ℕ). number_of d w) tsn_is ∙ words_near d.first d.items.acked n (omega (arith, point, a), omega (arith, point, b)) (omega (arith, point)) in
    let more : number_of d tsn + 1 ≡ n + 1 = ap (λ (z : ℕ). z + 1) read in
    more ∙ (let e : n + 1 ≡ origin + c = omega arith in e)

-- ---- while the end acts, whose receiver doesn't

module _ (message : ℕ → Message) (is_interleaved : Bool) (from x : Transfer) (before : Invariant message is_interleaved from) (kept : Invariant message is_interleaved x) (receiver : x.receiver ≡ from.receiver) where
  -- nothing leaves that was numbered in this action
  pub left_were_numbered : x.acknowledged ≤ count from.sender
  left_were_numbered = elim (cases_lt (count from.sender) x.acknowledged) [
    | inl l ↦
        let seen : from.receiver.seen (count from.sender) ≡ true = ap (λ (i : Receiver). i.seen (count from.sender)) (sym receiver) ∙ kept.acknowledged_true.all_seen (count from.sender) l in
        let below = before.incoming.seen_below (count from.sender) seen in
        absurd (omega (arith, below))
    | inr g ↦ g
  ]

  -- nor what was acknowledged
  sent_were_numbered : (c : ℕ) → IsAmong c from.sacks → c ≤ count from.sender
  sent_were_numbered c sent = elim (cases_lt (count from.sender) c) [
    | inl l ↦ let below = before.incoming.seen_below (count from.sender) ((before.sacks_true c sent).all_seen (count from.sender) l) in absurd (omega (arith, below))
    | inr g ↦ g
  ]

  pub sack_is_read : (first least : ℕ) (d : Outstanding) (k : SackTree) → d.first ≡ first → d.items.acked + 1 ≡ origin + x.acknowledged → from.acknowledged ≤ x.acknowledged
      → count from.sender ≤ from.acknowledged + 2 ^ 30 → count from.sender < least + 2 ^ 31
      → (s : SaysSack first least from k) → number_of d k.cumulative_tsn_ack + 1 ≡ origin + s.point
  sack_is_read first least d k first_is point grows near young s =
      let left = left_were_numbered in
      let c : ℕ = s.point in
      let from_is : least ≤ c = s.from in
      let to_is = sent_were_numbered c s.sent in
      let tsn_is : k.cumulative_tsn_ack ≡ wire u32_space d.first (origin + c - 1) = s.written ∙ ap (λ (z : ℕ). wire u32_space z (origin + c - 1)) (sym first_is) in
      sack_number d x.acknowledged c k.cumulative_tsn_ack point tsn_is (omega (arith, left, young, from_is)) (omega (arith, to_is, near, grows))

-- ---- answers

-- what each answer of a RE-CONFIG says
answers_were_said : (first least : ℕ) (x : Direction) (ps : List ParameterTree) → WasSaid (SaysIn first least x) (re_config_chunk ps) → All (SaysIncoming first x.done (length x.asks)) ps
answers_were_said first least x ps h = go h.said h.is h.says
  where
    go : (said : ChunkTree) → re_config_chunk ps ≡ carried said → SaysIn first least x said → All (SaysIncoming first x.done (length x.asks)) ps
    go (re_config_chunk qs) e s = subst (All (SaysIncoming first x.done (length x.asks))) (same e) s
      where
        same : re_config_chunk ps ≡ re_config_chunk qs → qs ≡ ps
        same e = cc
    go said e s = cc

-- ---- the first TSN is the own one

-- of what no receiver without a control block said
own_first : (message : ℕ → Message) (is_interleaved : Bool) (handed : List messages.Message) (x : Direction) (Said : ℕ → Type 0) → (IsFresh message is_interleaved handed x → Said 0 → ⊥)
    → (s : State) (t : Tcb) → ReceivesIn message is_interleaved s handed x → Faces (view_of s).holds (Some (own_draw t)) → Said (first_in s) → Said t.identity.my_first
own_first message is_interleaved handed x Said none Closed t receives faced h = absurd (none receives h)
own_first message is_interleaved handed x Said none (CookieWait tag my_first t1) t receives faced h = absurd (none receives h)
own_first message is_interleaved handed x Said none (Open phase u) t receives faced h =
    let crossed : t.identity.my_first ≡ u.identity.peer_first = ap (λ (d : Draw). d.first) faced in
    subst Said (receives.first ∙ sym crossed) h

-- ---- what is received

-- the point, and the number that the end reads
pub record SackReceived (x : Transfer) (t : Tcb) (k : SackTree) : Type 0 where
  pub point : ℕ
  pub sent : IsAmong point x.sacks
  pub number_is : point_of k t + 1 ≡ origin + point

module _ (message : ℕ → Message) (lifecycle : ℕ → Option ℕ) (is_interleaved : Bool) (g : Setting) (call : Call) (from : Direction) (premises : SenderPremises message lifecycle is_interleaved g call from)
    (phase : Phase) (t : Tcb) (m : EndWithPacket Carried) (inv : InvAt g (in_open phase t m)) where
  said_of_my_first : (Said : ℕ → Type 0) → (IsFresh message is_interleaved premises.handed from → Said 0 → ⊥) → Said (first_in g.beside) → Said t.identity.my_first
  said_of_my_first Said none h = own_first message is_interleaved premises.handed from Said none g.beside t premises.beside inv.stands.faced h

  pub sack_is_received : (q : Queue) (x : Direction) → IsKept message is_interleaved x → IsSending message lifecycle is_interleaved t q x
      → (transfer_of x).receiver ≡ (transfer_of from).receiver → (transfer_of x).sacks ≡ (transfer_of from).sacks → (transfer_of from).acknowledged ≤ (transfer_of x).acknowledged
      → (tag : ℕ) (k : SackTree) → BringsChunk call tag (sack_chunk k) → SackReceived (transfer_of x) t k
  sack_is_received q x kept shown receiver sacks grows tag k is_received =
      let h = premises.receives in
      let said = sack_was_said (first_in g.beside) h.least from k (h.says tag (sack_chunk k) is_received) in
      let s : SaysSack t.identity.my_first h.least (transfer_of from) k =
      said_of_my_first (λ n. SaysSack n h.least (transfer_of from) k) (λ fresh s. subst (IsAmong s.point) fresh.no_sacks s.sent) said in
      record {
        point = s.point;
        sent = subst (IsAmong s.point) (sym sacks) s.sent;
        number_is = sack_is_read message is_interleaved (transfer_of from) (transfer_of x) premises.kept.epochs.order.kept kept.epochs.order.kept receiver t.identity.my_first h.least
            t.sender.outstanding k shown.first shown.refines.items.point grows h.near h.young s;
      }

  -- an answer that is final
  pub answer_is_received : (number result : ℕ) (sender receiver : Option Tsn) → IsAsked call (reset_response number result sender receiver) → is_final result ≡ true
      → SaysDone t.identity.my_first from.done (length from.asks) number result
  answer_is_received number result sender receiver asked final =
      let h = premises.receives in
      let p : ParameterTree = reset_response number result sender receiver in
      let said = answers_were_said (first_in g.beside) h.least from asked.parameters (h.says asked.tag (re_config_chunk asked.parameters) asked.received) in
      let one : SaysIncoming (first_in g.beside) from.done (length from.asks) p =
      all_at (SaysIncoming (first_in g.beside) from.done (length from.asks)) asked.among.before asked.among.behind p
      (subst (All (SaysIncoming (first_in g.beside) from.done (length from.asks))) asked.among.split said) in
      said_of_my_first (λ n. SaysDone n from.done (length from.asks) number result) (λ fresh s. let b = s.below in let none = fresh.none_done in absurd (omega (arith, b, none))) (one final)
