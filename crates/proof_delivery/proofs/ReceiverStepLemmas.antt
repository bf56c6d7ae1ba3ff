-- For an act of a receiver: its claim after it, where the rules stay or go on, where a chunk is put into the packet, and where
-- the packet goes out.
use Rattle.std.proofs.Common.{◌≡◌, ℕ, ◌+◌, Bool, true, inl, inr, Option, List, [], ◌∷◌, ◌++◌, All, refl, sym, ap, ◌∙◌, subst, arith}
use Rattle.std.proofs.lemmas.List.Elements.{All-nil, All-push}
use Rattle.sctp_serial.specs.Messages as messages
use Rattle.sctp_serial.specs.Unwrapped.{origin}
use Rattle.sctp_packet.specs.Chunk.{ChunkTree, sack_chunk, re_config_chunk}
use Rattle.sctp_state.specs.RetransmissionTimeout.{Rtt}
use Rattle.sctp_state.specs.Events.{SendPacket}
use Rattle.sctp_tx.specs.RetransmissionQueue.{Sender}
use Rattle.sctp_rx.specs.Seen.{Seen, contains}
use Rattle.sctp_rx.specs.ReassemblyQueue.{Deferred}
use Rattle.sctp_rx.specs.DataTracker.{Tracker, IsTracker}
use Rattle.proof_protocol.specs.State.{Message}
use Rattle.spec_endpoint.specs.Association.{Tcb, Phase, Packing}
use Rattle.spec_endpoint.specs.Packets.{PacketDraft, add_all, header_to, emit_if, packets_in}
use Rattle.spec_endpoint.specs.ResetRequests.{Requests}
use Rattle.proof_endpoint.specs.Mapped.{Carried, as_carried}
use Rattle.proof_endpoint.specs.Acts.{EndWithPacket, is_plain, with_chunk, with_packet, in_open}
use Rattle.proof_pair.proofs.AddedLemmas.{holds_added, holds_all_added}
use Rattle.proof_pair.proofs.JoinActsLemmas.{packets_both}
use Rattle.proof_delivery.specs.Asks.{ResetRequest, IsAnswering}
use Rattle.proof_delivery.specs.StreamEpochs.{resets_emitted}
use Rattle.proof_delivery.proofs.ClaimLemmas.{Direction, transfer_of, goes_in, IsKept, GoesOn, AsksStay, SaysIn, first_in, IsReceiving, ReceivesIn, ReceiverClaim, ReceiverGoes}
use Rattle.proof_delivery.proofs.ResetEventsLemmas.{resets_in, none_behind, emitted_same}
use Rattle.proof_delivery.proofs.SenderToolLemmas.{goes_none, goes_on, all_in_stay, emitted_in_stays}
use Rattle.proof_delivery.proofs.ReceiverDataLemmas.{Leads}

-- chunks of no weight here
pub plain_says : (first least : ℕ) (x : Direction) (chunk : ChunkTree) → is_plain chunk ≡ true → SaysIn first least x chunk
plain_says first least x (sack_chunk k) e = cc
plain_says first least x (re_config_chunk parameters) e = cc
plain_says first least x chunk e = tt

-- with the same last request of the peer
answers_by : (first done : ℕ) (asks : List ResetRequest) (q r : Requests) (d : Option Deferred) → q.last ≡ r.last → q.result ≡ r.result → IsAnswering first done asks r d → IsAnswering first done asks q d
answers_by first done asks q r d last result (inl p) =
    inl (record { last = last ∙ p.last; result = elim p.result [ inl e ↦ inl (result ∙ e) | inr e ↦ inr (result ∙ e.0, e.1) ]; none = p.none })
answers_by first done asks q r d last result (inr p) =
    inr (record { ask = p.ask; there = p.there; last = last ∙ p.last; result = result ∙ p.result; reset = p.reset; is = p.is; streams = p.streams })

module _ (message : ℕ → Message) (is_interleaved : Bool) (handed : List messages.Message) where
  -- ---- other parts of a control block

  pub rest_changes : (t : Tcb) (s : Sender) (r : Rtt) (q : Requests) (x : Direction) → q.last ≡ t.requests.last → q.result ≡ t.requests.result → IsReceiving message is_interleaved handed t x
      → IsReceiving message is_interleaved handed (record t { sender = s; rtt = r; requests = q }) x
  rest_changes t s r q x last result h = record {
    shift = h.shift;
    refines = h.refines;
    near = h.near;
    is_tracker = h.is_tracker;
    waiting = h.waiting;
    first = h.first;
    answers = answers_by t.identity.peer_first x.done x.asks q t.requests t.reassembly.deferred last result h.answers;
  }

  -- a tracker that has seen the same
  pub acknowledging_changes : (t : Tcb) (u : Tracker) (x : Direction) → u.seen ≡ t.tracker.tracker.seen → IsTracker u → IsReceiving message is_interleaved handed t x
      → IsReceiving message is_interleaved handed (record t { tracker = record t.tracker { tracker = u } }) x
  acknowledging_changes t u x same is h = record {
    shift = h.shift;
    refines = record {
      queue = h.refines.queue;
      refines = h.refines.refines;
      seen_as = h.refines.seen_as;
      seen = λ n. ap (λ (s : Seen). contains s (origin + n)) same ∙ h.refines.seen n;
      mode = h.refines.mode;
      settled = h.refines.settled;
      fresh = h.refines.fresh;
    };
    near = h.near;
    is_tracker = is;
    waiting = h.waiting;
    first = h.first;
    answers = h.answers;
  }

module _ (message : ℕ → Message) (lifecycle : ℕ → Option ℕ) (is_interleaved : Bool) (from : Direction) (handed : List messages.Message) where
  abbrev least : ℕ
  least = (transfer_of from).acknowledged

  abbrev Says : (first : ℕ) → Direction → List ChunkTree → Type 0
  Says first x chunks = All (SaysIn first least x) chunks

  abbrev SaysAll : (first : ℕ) → Direction → List Carried → Type 0
  SaysAll first x ps = All (λ (p : Carried). All (SaysIn first least x) p.chunks) ps

  abbrev Claim : EndWithPacket Carried → Direction → Type 0
  Claim m x = ReceiverClaim message is_interleaved from handed m x

  abbrev Goes : (a b : EndWithPacket Carried) → Type 0
  Goes a b = ReceiverGoes message lifecycle is_interleaved from handed a b

  -- ---- the claim after an act

  pub record ReceiverStep (a b : EndWithPacket Carried) (x y : Direction) : Type 0 where
    pub goes : GoesOn message is_interleaved goes_in x y
    pub kept : IsKept message is_interleaved y
    pub stay : AsksStay x y
    pub shown : ReceivesIn message is_interleaved b.state handed y
    pub performed : (s : ℕ) → y.rules.performed s + resets_emitted s a.context.emitted.events ≡ x.rules.performed s + resets_emitted s b.context.emitted.events
    pub emitted : SaysAll (first_in a.state) y (packets_in a.context.emitted.events) → SaysAll (first_in b.state) y (packets_in b.context.emitted.events)
    pub made : Says (first_in a.state) y a.packet.chunks → Says (first_in b.state) y b.packet.chunks

  pub step_claims : (a b : EndWithPacket Carried) (x y : Direction) → Claim a x → ReceiverStep a b x y → Claim b y
  step_claims a b x y c s =
      let first = first_in a.state in
      record {
        kept = s.kept;
        goes = goes_on message is_interleaved goes_in from x y c.goes s.goes;
        stay = (s.stay.0 ∙ c.stay.0, s.stay.1 ∙ c.stay.1);
        shown = s.shown;
        performed = λ n. let p = c.performed n in let q = s.performed n in omega (arith, p, q);
        emitted = s.emitted (emitted_in_stays message is_interleaved goes_in x y c.kept.epochs s.goes first least (packets_in a.context.emitted.events) c.emitted);
        made = s.made (all_in_stay message is_interleaved goes_in x y c.kept.epochs s.goes first least a.packet.chunks c.made);
      }

  pub goes_through : (a b c : EndWithPacket Carried) → Goes a b → Goes b c → Goes a c
  goes_through a b c g h x claim = let y = g x claim in h y.0 y.1

  -- to the same state of the rules, with chunks in the packet or packets emitted
  pub stays_by : (a b : EndWithPacket Carried) (x : Direction) → Claim a x → ReceivesIn message is_interleaved b.state handed x
      → ((s : ℕ) → resets_emitted s b.context.emitted.events ≡ resets_emitted s a.context.emitted.events)
      → (SaysAll (first_in a.state) x (packets_in a.context.emitted.events) → SaysAll (first_in b.state) x (packets_in b.context.emitted.events))
      → (Says (first_in a.state) x a.packet.chunks → Says (first_in b.state) x b.packet.chunks) → (y : Direction) × Claim b y
  stays_by a b x claim shown resets emitted made = (
    x,
    step_claims a b x x claim
        (record {
          goes = goes_none message is_interleaved goes_in x;
          kept = claim.kept;
          stay = (refl, refl);
          shown = shown;
          performed = λ s. let e = resets s in omega (arith, e);
          emitted = emitted;
          made = made;
        }),
  )

  pub goes_same : (a b : EndWithPacket Carried) → ((x : Direction) → ReceivesIn message is_interleaved a.state handed x → ReceivesIn message is_interleaved b.state handed x)
      → first_in b.state ≡ first_in a.state → packets_in b.context.emitted.events ≡ packets_in a.context.emitted.events
      → resets_in b.context.emitted.events ≡ resets_in a.context.emitted.events → b.packet.chunks ≡ a.packet.chunks → Goes a b
  goes_same a b shown first packets resets chunks x claim =
      stays_by a b x claim (shown x claim.shown) (λ s. emitted_same s a.context.emitted.events b.context.emitted.events resets)
      (λ h. subst (λ (n : ℕ). SaysAll n x (packets_in b.context.emitted.events)) (sym first) (subst (SaysAll (first_in a.state) x) (sym packets) h))
      (λ h. subst (λ (n : ℕ). Says n x b.packet.chunks) (sym first) (subst (Says (first_in a.state) x) (sym chunks) h))

  -- the rules go on, and nothing is emitted or put into the packet
  pub goes_led : (phase next : Phase) (t u : Tcb) (m : EndWithPacket Carried) → u.tracker.first ≡ t.tracker.first
      → ((x : Direction) → Claim (in_open phase t m) x → Leads message is_interleaved handed x u) → Goes (in_open phase t m) (in_open next u m)
  goes_led phase next t u m first leads x claim =
      let l = leads x claim in (
        l.to,
        step_claims (in_open phase t m) (in_open next u m) x l.to claim
            (record {
              goes = l.goes;
              kept = l.kept;
              stay = l.stay;
              shown = l.shown;
              performed = λ s. let e = l.performed s in omega (arith, e);
              emitted = λ h. subst (λ (n : ℕ). SaysAll n l.to (packets_in m.context.emitted.events)) (sym first) h;
              made = λ h. subst (λ (n : ℕ). Says n l.to m.packet.chunks) (sym first) h;
            }),
      )

  -- ---- packets

  pub goes_adding : (m : EndWithPacket Carried) (chunk : ChunkTree)
      → ((x : Direction) → Claim m x → SaysIn (first_in m.state) least x chunk) → Goes m (with_chunk chunk m)
  goes_adding m chunk says x claim =
      stays_by m (with_chunk chunk m) x claim claim.shown (λ s. refl) (λ h. h)
      (λ h. holds_added (λ tag. SaysIn (first_in m.state) least x) m.packet chunk h (says x claim))

  pub goes_adding_all : (m : EndWithPacket Carried) (chunks : List ChunkTree)
      → ((x : Direction) → Says (first_in m.state) x chunks) → Goes m (with_packet (add_all chunks m.packet) m)
  goes_adding_all m chunks says x claim =
      stays_by m (with_packet (add_all chunks m.packet) m) x claim claim.shown (λ s. refl) (λ h. h)
      (λ h. holds_all_added (λ tag. SaysIn (first_in m.state) least x) chunks m.packet h (λ tag. says x))

  pub goes_begun : (p : PacketDraft) (m : EndWithPacket Carried) → p.chunks ≡ [] → Goes m (with_packet p m)
  goes_begun p m new x claim =
      stays_by m (with_packet p m) x claim claim.shown (λ s. refl) (λ h. h)
      (λ h. subst (Says (first_in m.state) x) (sym new) (All-nil (SaysIn (first_in m.state) least x)))

  pub goes_emitted : (m : EndWithPacket Carried) → m.context.pack ≡ as_carried
      → Goes m (record m { context = emit_if true m.packet m.context; packet = record m.packet { chunks = [] } })
  goes_emitted m packing x claim =
      let first = first_in m.state in
      let header = header_to m.context.options m.packet.tag in
      let p : Carried = m.context.pack.write header m.packet.is_summed m.packet.chunks in
      let is : p ≡ as_carried.write header m.packet.is_summed m.packet.chunks = ap (λ (f : Packing Carried). f.write header m.packet.is_summed m.packet.chunks) packing in
      let Q : Carried → Type 0 = λ q. Says first x q.chunks in
      let says : Q p = subst Q (sym is) claim.made in
      stays_by m (record m { context = emit_if true m.packet m.context; packet = record m.packet { chunks = [] } }) x claim claim.shown
      (λ s. emitted_same s m.context.emitted.events (m.context.emitted.events ++ SendPacket p ∷ []) (none_behind m.context.emitted.events (SendPacket p ∷ []) refl))
      (λ h. subst (SaysAll first x) (sym (packets_both m.context.emitted.events (SendPacket p ∷ []))) (All-push Q (packets_in m.context.emitted.events) p h says))
      (λ h. All-nil (SaysIn first least x))
