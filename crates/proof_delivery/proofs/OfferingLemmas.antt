-- Messages that an end accepts take the next places, one after the other; then fragments go out.
use Rattle.std.proofs.Common.{◌≡◌, ℕ, ◌+◌, ◌==◌, ◌^◌, ◌<◌, not, Bool, false, inl, inr, Option, Some, None, List, [], ◌∷◌, ◌++◌, length, refl, sym, ap, subst, ◌∙◌, append-nil, length-append, arith}
use Rattle.std.specs.Prelude.{unwrap_or}
use Rattle.std.proofs.lemmas.Bool.Decides.{nat_tests}
use Rattle.std.proofs.lemmas.Bool.{cases_lt, true≢false}
use Rattle.std.proofs.Math.Bool.{not-not}
use Rattle.sctp_serial.specs.Messages as messages
use Rattle.sctp_state.specs.declared.api.SocketState.{SocketState}
use Rattle.sctp_state.specs.declared.api.errors.SendError.{SendError}
use Rattle.sctp_state.specs.Options.{SendOptions}
use Rattle.sctp_tx_queue.specs.SendQueue.{Queued, Queue, expiry_of, add}
use Rattle.sctp_tx_outstanding.specs.OutstandingData.{no_items}
use Rattle.proof_protocol.specs.State.{Message, Sender, IsAmong, count, stream_of}
use Rattle.proof_protocol.specs.Rules.{accept, accepts}
use Rattle.proof_protocol.specs.Invariant.{Invariant}
use Rattle.proof_protocol.specs.Resets.{transfers, goes}
use Rattle.proof_protocol.proofs.BasedLemmas.{keeps_epochs}
use Rattle.proof_protocol.proofs.ToolsLemmas.{put_at, put_off}
use Rattle.proof_refines.specs.Reachable.{recorded_places, delivered_ids}
use Rattle.proof_refines.specs.Rows.{offered_entry}
use Rattle.proof_refines.proofs.AcceptLemmas.{accept_row}
use Rattle.proof_refines.proofs.AskedLemmas.{calls_keep_asked}
use Rattle.proof_refines.proofs.FollowLemmas.{beginning_follows, accepting_follows}
use Rattle.spec_endpoint.specs.Association.{State, Closed, CookieWait, Open, Context}
use Rattle.spec_endpoint.specs.Calls.{shown_state, send_refusal, queue_entry, offer, offer_all}
use Rattle.spec_endpoint.specs.Calls as calls
use Rattle.proof_endpoint.specs.Mapped.{Carried}
use Rattle.spec_endpoint.specs.Packets.{packets_in}
use Rattle.proof_pair.proofs.EmittedLemmas.{emits_refused, quiet_refused}
use Rattle.proof_pair.proofs.AskedKeepsLemmas.{some_payload}
use Rattle.proof_delivery.specs.Accepted.{AcceptedMessage, unless_refused, accepted_of}
use Rattle.proof_delivery.proofs.AsksLemmas.{asks_stay}
use Rattle.proof_delivery.proofs.ClaimLemmas.{Direction, transfer_of, IsKept, IsWaiting, SendsIn}
use Rattle.proof_delivery.proofs.ResetEventsLemmas.{resets_in, resets_refused}
use Rattle.proof_delivery.proofs.SenderAsksLemmas.{asking_stays}
use Rattle.proof_delivery.proofs.SenderToolLemmas.{goes_on, same_packets, same_delivered}
use Rattle.proof_delivery.proofs.ActionLemmas.{is_outgoing, Offers, offers_none, message_in, AreOffered}

-- ---- what is emitted

offered_packets : (r : Option SendError) (m : messages.Message) (how : SendOptions) (c : Context Carried)
    → packets_in (calls.offered r m how c).emitted.events ≡ packets_in c.emitted.events
offered_packets None m how c = refl
offered_packets (Some e) m how c = same_packets c.emitted (calls.offered (Some e) m how c).emitted (emits_refused e how.lifecycle_id c.emitted)

offered_resets : (r : Option SendError) (m : messages.Message) (how : SendOptions) (c : Context Carried)
    → resets_in (calls.offered r m how c).emitted.events ≡ resets_in c.emitted.events
offered_resets None m how c = refl
offered_resets (Some e) m how c = resets_refused e how.lifecycle_id c.emitted

pub offers_packets : (ms : List messages.Message) (how : SendOptions) (shown : SocketState) (c : Context Carried)
    → packets_in (offer_all ms how shown c).emitted.events ≡ packets_in c.emitted.events
offers_packets [] how shown c = refl
offers_packets (m ∷ ms) how shown c = offers_packets ms how shown (offer m how shown c) ∙ offered_packets (send_refusal m shown c) m how c

pub offers_resets : (ms : List messages.Message) (how : SendOptions) (shown : SocketState) (c : Context Carried)
    → resets_in (offer_all ms how shown c).emitted.events ≡ resets_in c.emitted.events
offers_resets [] how shown c = refl
offers_resets (m ∷ ms) how shown c = offers_resets ms how shown (offer m how shown c) ∙ offered_resets (send_refusal m shown c) m how c

-- ---- a message as it is queued

abbrev queued_as : ℕ → Message → Option ℕ → (expires : Option ℕ) → (limit : ℕ) → Queued
queued_as p m lifecycle expires limit = record {
  number = p;
  ppid = m.protocol_id;
  payload = m.payload;
  is_unordered = not m.ordered;
  expires = expires;
  limit = limit;
  lifecycle = lifecycle;
  offset = 0;
  numbers = None;
  fsn = 0;
}

abbrev offer_of : messages.Message → SendOptions → AcceptedMessage
offer_of m how = record { message = m; options = how }

module _ (message : ℕ → Message) (lifecycle : ℕ → Option ℕ) (p now : ℕ) (m : messages.Message) (how : SendOptions) (is : message p ≡ message_in (offer_of m how))
    (id : lifecycle p ≡ how.lifecycle_id) where
  queued_is : (n : ℕ) → n ≡ p → queue_entry n now m how ≡ offered_entry message lifecycle p (expiry_of now how.lifetime) (unwrap_or how.max_retransmissions 65535)
  queued_is n e =
      let expires : Option ℕ = expiry_of now how.lifetime in
      let limit : ℕ = unwrap_or how.max_retransmissions 65535 in
      ap (λ (b : Bool). record (queue_entry n now m how) { is_unordered = b }) (sym (not-not how.unordered))
      ∙ (ap (λ (k : ℕ). queued_as k (message_in (offer_of m how)) how.lifecycle_id expires limit) e
      ∙ (ap (λ (z : Message). queued_as p z how.lifecycle_id expires limit) (sym is) ∙ ap (λ (z : Option ℕ). queued_as p (message p) z expires limit) (sym id)))

-- ---- one more place

not_empty : (n : ℕ) → (n == 0) ≡ false → 0 < n
not_empty n e = grind (arith, nat_tests, e)

module _ (message : ℕ → Message) (lifecycle : ℕ → Option ℕ) (is_interleaved : Bool) where
  -- what waits meets the invariant in either mode
  waits_plain : (q : Queue) (x : Direction) → Invariant message is_interleaved (transfer_of x) → IsWaiting message lifecycle is_interleaved q x → Invariant message false (transfer_of x)
  waits_plain q x k h =
      let none : count (transfer_of x).sender ≡ 0 = ap count h.sender in
      record {
        outgoing = k.outgoing;
        incoming = k.incoming;
        indexed = k.indexed;
        runs = λ e. record {
          next_same = λ t l f. absurd (omega (arith, none, l));
          tail_partly = λ t l f. absurd (omega (arith, none, l));
          single = λ p q f g. absurd (true≢false (sym f ∙ ap (λ (o : Sender). o.partly p) h.sender));
        };
        acknowledged_true = k.acknowledged_true;
        sacks_true = k.sacks_true;
        forwards_true = λ f a. absurd (subst (λ z. IsAmong f z) h.no_points a);
        reports_true = k.reports_true;
      }

  -- the next message is accepted
  abbrev accepts_one : Direction → Direction
  accepts_one x = record x { rules = goes message is_interleaved x.rules (transfers accept) }

  kept_more : (x : Direction) → IsKept message is_interleaved x → IsKept message is_interleaved (accepts_one x)
  kept_more x k = record {
    epochs = keeps_epochs message is_interleaved x.rules k.epochs (transfers accept) (tt, tt);
    asked = asks_stay message is_interleaved x.rules x.asks x.done x.answered k.asked accept k.epochs.order.kept tt;
  }

  module _ (x : Direction) (kept : IsKept message is_interleaved x) (p_few : (transfer_of x).sender.accepted + 1 < 2 ^ 32) (expires : Option ℕ) (limit : ℕ)
      (some : 0 < length (message (transfer_of x).sender.accepted).payload) where
    abbrev next_queue : Queue → Queue
    next_queue q = add (stream_of message (transfer_of x).sender.accepted) (offered_entry message lifecycle (transfer_of x).sender.accepted expires limit) q

    waits_more : (q : Queue) → IsWaiting message lifecycle is_interleaved q x → IsWaiting message lifecycle is_interleaved (next_queue q) (accepts_one x)
    waits_more q h =
        let plain : Invariant message false (transfer_of x) = waits_plain q x kept.epochs.order.kept h in
        record {
          sender = ap (λ (o : Sender). accepts o) h.sender;
          acknowledged = h.acknowledged;
          no_points = h.no_points;
          no_reports = h.no_reports;
          none_reset = beginning_follows.accepting message is_interleaved x.rules h.none_reset;
          none_asked = h.none_asked;
          refines = accept_row message lifecycle false (transfer_of x) q (no_items false false) h.refines plain expires limit some p_few;
          follows = accepting_follows message lifecycle false x.rules q (no_items false false) plain h.refines h.follows expires limit;
        }

    sends_more : (s : State) (q : Queue) → SendsIn message lifecycle is_interleaved s q x → SendsIn message lifecycle is_interleaved s (next_queue q) (accepts_one x)
    sends_more Closed q h = waits_more q h
    sends_more (CookieWait tag first t1) q h = waits_more q h
    sends_more (Open phase t) q h = record {
      refines = accept_row message lifecycle is_interleaved (transfer_of x) q t.sender.outstanding.items h.refines kept.epochs.order.kept expires limit some p_few;
      follows = accepting_follows message lifecycle is_interleaved x.rules q t.sender.outstanding.items kept.epochs.order.kept h.refines h.follows expires limit;
      first = h.first;
      room = h.room;
      asks = asking_stays t.identity.my_first x.answered x.asks q (next_queue q) t.requests
          (calls_keep_asked.accepting (stream_of message (transfer_of x).sender.accepted) (offered_entry message lifecycle (transfer_of x).sender.accepted expires limit) q) h.asks;
    }

  number_is : (s : State) (q : Queue) (x : Direction) → SendsIn message lifecycle is_interleaved s q x → q.next_number ≡ (transfer_of x).sender.accepted
  number_is Closed q x h = h.refines.queue.accepted
  number_is (CookieWait tag first t1) q x h = h.refines.queue.accepted
  number_is (Open phase t) q x h = h.refines.queue.accepted

  -- ---- as messages are offered

  pub record IsOffering (s : State) (c : Context Carried) (x : Direction) : Type 0 where
    pub kept : IsKept message is_interleaved x
    pub shown : SendsIn message lifecycle is_interleaved s c.queue x
    pub given_up : recorded_places c.emitted ≡ []
    pub reported : delivered_ids c.emitted.events ≡ []
    pub no_reset : resets_in c.emitted.events ≡ []

  pub record OfferedTo (s : State) (c : Context Carried) (x : Direction) (n : ℕ) : Type 0 where
    pub mid : Direction
    pub offers : Offers message is_interleaved n x mid
    pub is : IsOffering s c mid

  abbrev offered_none : (s : State) (c : Context Carried) (x : Direction) → IsOffering s c x → OfferedTo s c x 0
  offered_none s c x h = record { mid = x; offers = offers_none message is_interleaved x h.kept; is = h }

  -- one more message, of its stream's newest epoch
  offers_one : (x : Direction) → IsKept message is_interleaved x → Offers message is_interleaved 1 x (accepts_one x)
  offers_one x k = record {
    goes = record { events = transfers accept ∷ []; may = ((tt, tt), tt); all = refl; leads = refl; more = []; asks = sym (append-nil x.asks); further = 0; done = omega arith; answered = omega arith };
    kept = kept_more x k;
    accepted = omega arith;
    acknowledged = refl;
    given_up = refl;
    reports = refl;
    counted = refl;
    asks = refl;
    done = refl;
    answered = refl;
    raised = refl;
    opened = refl;
    performed = refl;
    old = λ p l. put_off x.rules.epoch (transfer_of x).sender.accepted (x.rules.raised (stream_of message (transfer_of x).sender.accepted)) p (λ e. omega (arith, l, e));
    new = λ p a b.
        let e : p ≡ (transfer_of x).sender.accepted = omega (arith, a, b) in
        put_at x.rules.epoch (transfer_of x).sender.accepted (x.rules.raised (stream_of message (transfer_of x).sender.accepted)) p e
        ∙ ap (λ (n : ℕ). x.rules.raised (stream_of message n)) (sym e);
  }

  accepted_one : (s : State) (c : Context Carried) (x : Direction) (m : messages.Message) (how : SendOptions) → IsOffering s c x → send_refusal m (shown_state s) c ≡ None
      → message (transfer_of x).sender.accepted ≡ message_in (offer_of m how) → lifecycle (transfer_of x).sender.accepted ≡ how.lifecycle_id → (transfer_of x).sender.accepted + 1 < 2 ^ 32
      → OfferedTo s (calls.accept m how c) x 1
  accepted_one s c x m how h fine is id few = record {
    mid = accepts_one x;
    offers = offers_one x h.kept;
    is = record {
      kept = kept_more x h.kept;
      shown = subst (λ (q : Queue). SendsIn message lifecycle is_interleaved s q (accepts_one x)) (sym same)
          (sends_more x h.kept few (expiry_of c.now how.lifetime) (unwrap_or how.max_retransmissions 65535) some s c.queue h.shown);
      given_up = h.given_up;
      reported = h.reported;
      no_reset = h.no_reset;
    };
  }
    where
      p : ℕ
      p = (transfer_of x).sender.accepted

      some : 0 < length (message p).payload
      some =
          subst (λ (z : Message). 0 < length z.payload) (sym is)
          (not_empty (length m.payload) (some_payload (length m.payload == 0) _ _ _ (length m.payload) c.options.max_message_size fine))

      same : (calls.accept m how c).queue
          ≡ add (stream_of message p) (offered_entry message lifecycle p (expiry_of c.now how.lifetime) (unwrap_or how.max_retransmissions 65535)) c.queue
      same =
          ap (λ (z : Queued). add m.stream z c.queue) (queued_is message lifecycle p c.now m how is id c.queue.next_number (number_is s c.queue x h.shown))
          ∙ ap (λ (z : Message). add z.stream (offered_entry message lifecycle p (expiry_of c.now how.lifetime) (unwrap_or how.max_retransmissions 65535)) c.queue) (sym is)

  -- then others
  offers_both : (n k : ℕ) (x y z : Direction) → Offers message is_interleaved n x y → Offers message is_interleaved k y z → Offers message is_interleaved (n + k) x z
  offers_both n k x y z a b =
      let p = a.accepted in
      let q = b.accepted in
      record {
        goes = goes_on message is_interleaved is_outgoing x y z a.goes b.goes;
        kept = b.kept;
        accepted = omega (arith, p, q);
        acknowledged = b.acknowledged ∙ a.acknowledged;
        given_up = b.given_up ∙ a.given_up;
        reports = b.reports ∙ a.reports;
        counted = b.counted ∙ a.counted;
        asks = b.asks ∙ a.asks;
        done = b.done ∙ a.done;
        answered = b.answered ∙ a.answered;
        raised = b.raised ∙ a.raised;
        opened = b.opened ∙ a.opened;
        performed = b.performed ∙ a.performed;
        old = λ r l. b.old r (omega (arith, l, p)) ∙ a.old r l;
        new = λ r l m.
            elim (cases_lt r (transfer_of y).sender.accepted) [
              | inl below ↦ b.old r below ∙ a.new r l below
              | inr past ↦ b.new r (omega (arith, past)) m ∙ ap (λ (f : ℕ → ℕ). f (stream_of message r)) a.raised
            ];
      }

  offered_then : (n k : ℕ) (s : State) (d : Context Carried) (x : Direction) → (a : OfferedTo s d x n) → (e : Context Carried) → OfferedTo s e a.mid k → OfferedTo s e x (n + k)
  offered_then n k s d x a e b = record { mid = b.mid; offers = offers_both n k x a.mid b.mid a.offers b.offers; is = b.is }

  -- the first, whether it is refused or not, and what is left
  pub record OffersFirst (s : State) (d : Context Carried) (x : Direction) (n : ℕ) (rest : List AcceptedMessage) : Type 0 where
    pub first : OfferedTo s d x n
    pub are : AreOffered message lifecycle (transfer_of first.mid).sender.accepted rest

  offers_first : (r : Option SendError) (s : State) (c : Context Carried) (x : Direction) (m : messages.Message) (how : SendOptions) (rest : List AcceptedMessage) → send_refusal m (shown_state s) c ≡ r
      → IsOffering s c x → AreOffered message lifecycle (transfer_of x).sender.accepted (unless_refused r m how ++ rest)
      → (transfer_of x).sender.accepted + length (unless_refused r m how ++ rest) < 2 ^ 32
      → OffersFirst s (calls.offered r m how c) x (length (unless_refused r m how)) rest
  offers_first None s c x m how rest is h are few =
      let one : OfferedTo s (calls.accept m how c) x 1 = accepted_one s c x m how h is are.0 are.1 (omega (arith, few)) in
      record { first = one; are = subst (λ (n : ℕ). AreOffered message lifecycle n rest) (sym one.offers.accepted) are.2 }
  offers_first (Some e) s c x m how rest is h are few = record {
    first = offered_none s (calls.refuse e how.lifecycle_id c) x (record {
      kept = h.kept;
      shown = h.shown;
      given_up = h.given_up;
      reported = same_delivered c.emitted (calls.refuse e how.lifecycle_id c).emitted (quiet_refused e how.lifecycle_id c.emitted) ∙ h.reported;
      no_reset = resets_refused e how.lifecycle_id c.emitted ∙ h.no_reset;
    });
    are = are;
  }

  pub offers_all : (ms : List messages.Message) (s : State) (c : Context Carried) (x : Direction) (how : SendOptions) → IsOffering s c x
      → AreOffered message lifecycle (transfer_of x).sender.accepted (accepted_of ms how (shown_state s) c)
      → (transfer_of x).sender.accepted + length (accepted_of ms how (shown_state s) c) < 2 ^ 32
      → OfferedTo s (offer_all ms how (shown_state s) c) x (length (accepted_of ms how (shown_state s) c))
  offers_all [] s c x how h are few = offered_none s c x h
  offers_all (m ∷ ms) s c x how h are few =
      let r : Option SendError = send_refusal m (shown_state s) c in
      let d : Context Carried = offer m how (shown_state s) c in
      let rest : List AcceptedMessage = accepted_of ms how (shown_state s) d in
      let f : OffersFirst s d x (length (unless_refused r m how)) rest = offers_first r s c x m how rest refl h are few in
      let n = length-append (unless_refused r m how) rest in
      let p = f.first.offers.accepted in
      subst (λ (k : ℕ). OfferedTo s (offer_all ms how (shown_state s) d) x k) (sym n)
      (offered_then (length (unless_refused r m how)) (length rest) s d x f.first (offer_all ms how (shown_state s) d)
      (offers_all ms s d f.first.mid how f.first.is f.are (omega (arith, few, n, p))))
