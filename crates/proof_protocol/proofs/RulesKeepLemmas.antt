-- Each rule keeps what holds.
use Rattle.std.proofs.Common.{◌≡◌, ℕ, ◌<◌, Bool, true, false, not, ◌&&◌, ◌⊎◌, inl, inr, List, [], ◌∷◌, ◌++◌, refl, sym, ap, ◌∙◌, subst, arith, append-nil}
use Rattle.std.proofs.lemmas.Bool.{cases_Bool, and_parts, not-true, cond-true, cond-false}
use Rattle.proof_protocol.specs.State.{Message, Sender, Receiver, Transfer, fragment, place_of, has, gather, is_empty, IsAmong, start}
use Rattle.proof_protocol.specs.Rules.{TransferEvent, accept, begin, number, end_with_placeholder, give_up, data_comes, late_comes, become_ready, send_sack, acknowledge_next, send_forward, forward_comes, perform_reset, IsAllowed, after, Happens, run, report, part, placeholder_of}
use Rattle.proof_protocol.specs.Invariant.{Outgoing, Incoming, InRuns, Invariant, IsIndexed, SackTrue, ForwardTrue}
use Rattle.proof_protocol.proofs.ToolsLemmas.{not_both, has_push}
use Rattle.proof_protocol.proofs.IndexedLemmas.{indexed_none, indexed_push}
use Rattle.proof_protocol.proofs.StaysLemmas.{later_same, onward_same, incoming_stays, sack_stays, forward_stays}
use Rattle.proof_protocol.proofs.BeginLemmas.{begins_outgoing, begins_later, begins_runs}
use Rattle.proof_protocol.proofs.NumberedLemmas.{numbers_outgoing, numbers_later, numbers_runs}
use Rattle.proof_protocol.proofs.GivenLemmas.{gives_outgoing, gives_later, gives_runs, accepts_outgoing, accepts_later, accepts_runs}
use Rattle.proof_protocol.proofs.DataLemmas.{takes_onward, takes_incoming, marks_onward, marks_incoming, late_passed}
use Rattle.proof_protocol.proofs.DeliverLemmas.{delivers_onward, delivers_incoming}
use Rattle.proof_protocol.proofs.ForwardLemmas.{skips_onward, skips_incoming}
use Rattle.proof_protocol.proofs.SackLemmas.{sack_true}
use Rattle.proof_protocol.proofs.ForgetLemmas.{forgets_incoming, forgets_onward}
use Rattle.proof_protocol.proofs.DueLemmas.{forward_true}
use Rattle.proof_protocol.proofs.LaterLemmas.{Later, Onward}

-- what is left of a message is nothing where its last fragment is numbered
pub none_left : (bytes : List ℕ) → is_empty bytes ≡ true → bytes ≡ []
none_left [] h = refl
none_left (x ∷ xs) h = cc

module _ (message : ℕ → Message) (is_interleaved : Bool) (x : Transfer) (k : Invariant message is_interleaved x) where
  pub sender_moves : (o' : Sender) → Outgoing message o' → Later message x.sender o' → (is_interleaved ≡ false → InRuns message o') → IsIndexed o'.numbered → Invariant message is_interleaved (record x { sender = o' })
  sender_moves o' out l r n = record {
    outgoing = out;
    indexed = n;
    incoming = incoming_stays message x.sender o' k.outgoing l x.receiver k.incoming;
    runs = r;
    acknowledged_true = sack_stays message x.sender o' k.outgoing l x.receiver k.incoming x.receiver (onward_same message x.receiver) x.acknowledged k.acknowledged_true;
    sacks_true = λ c a. sack_stays message x.sender o' k.outgoing l x.receiver k.incoming x.receiver (onward_same message x.receiver) c (k.sacks_true c a);
    forwards_true = λ f a. forward_stays message x.sender o' k.outgoing l x.receiver k.incoming x.receiver (onward_same message x.receiver) is_interleaved f (k.forwards_true f a);
    reports_true = k.reports_true;
  }

  receiver_moves : (i' : Receiver) → Incoming message x.sender i' → Onward message x.receiver i' → Invariant message is_interleaved (record x { receiver = i' })
  receiver_moves i' inc w = record {
    outgoing = k.outgoing;
    indexed = k.indexed;
    incoming = inc;
    runs = k.runs;
    acknowledged_true = sack_stays message x.sender x.sender k.outgoing (later_same message x.sender) x.receiver k.incoming i' w x.acknowledged k.acknowledged_true;
    sacks_true = λ c a. sack_stays message x.sender x.sender k.outgoing (later_same message x.sender) x.receiver k.incoming i' w c (k.sacks_true c a);
    forwards_true = λ f a. forward_stays message x.sender x.sender k.outgoing (later_same message x.sender) x.receiver k.incoming i' w is_interleaved f (k.forwards_true f a);
    reports_true = λ p h. w.ready_stays p (k.reports_true p h);
  }

  -- the report of the item that leaves
  reported : (qs : List ℕ) → (p : ℕ) → has p (qs ++ report x.sender x.acknowledged) ≡ true
      → (has p qs ≡ true) ⊎ ((p ≡ place_of x.sender x.acknowledged) × ((fragment x.sender x.acknowledged).is_end ≡ true) × (x.sender.given_up (place_of x.sender x.acknowledged) ≡ false))
  reported qs p h =
      let t = (fragment x.sender x.acknowledged).is_end && not (x.sender.given_up (place_of x.sender x.acknowledged)) in
      elim (cases_Bool t) [
        | inl e ↦
            let r = cond-true t (place_of x.sender x.acknowledged ∷ []) [] e in
            let ab = and_parts ((fragment x.sender x.acknowledged).is_end) (not (x.sender.given_up (place_of x.sender x.acknowledged))) e in
            elim (has_push p qs (place_of x.sender x.acknowledged) (subst (λ z. has p (qs ++ z) ≡ true) r h)) [
              | inl a ↦ inl a
              | inr b ↦ inr (b, ab.0, not-true (x.sender.given_up (place_of x.sender x.acknowledged)) ab.1)
            ]
        | inr e ↦
            let r = cond-false t (place_of x.sender x.acknowledged ∷ []) [] e in
            let h2 = subst (λ z. has p (qs ++ z) ≡ true) r h in
            inl (subst (λ z. has p z ≡ true) (append-nil qs) h2)
      ]

  leaves : (c : ℕ) → IsAmong c x.sacks → x.acknowledged < c → Invariant message is_interleaved (after message is_interleaved x (acknowledge_next c))
  leaves c a l = record {
    outgoing = k.outgoing;
    incoming = k.incoming;
    indexed = k.indexed;
    runs = k.runs;
    acknowledged_true =
        let s = k.sacks_true c a in
        record { all_seen = λ t h. s.all_seen t (omega (arith, h, l)); done = λ t h e. s.done t (omega (arith, h, l)) e; behind = λ t h. s.behind t (omega (arith, h, l)) };
    sacks_true = k.sacks_true;
    forwards_true = k.forwards_true;
    reports_true = λ p h.
        elim (reported x.reports p h) [
          | inl r ↦ k.reports_true p r
          | inr y ↦
              elim ((k.sacks_true c a).done x.acknowledged l y.1) [
                | inl r ↦ ap (λ z. has z x.receiver.places) y.0 ∙ r
                | inr g ↦ absurd (not_both g y.2)
              ]
        ];
  }

  pub keeps : (e : TransferEvent) → IsAllowed message is_interleaved x e → Invariant message is_interleaved (after message is_interleaved x e)
  keeps accept a = sender_moves _ (accepts_outgoing message x.sender k.outgoing) (accepts_later message x.sender k.outgoing) (λ m. accepts_runs message x.sender k.outgoing (k.runs m)) k.indexed
  keeps (begin p) a =
      sender_moves _ (begins_outgoing message is_interleaved x.sender k.outgoing p a.0 a.1) (begins_later message is_interleaved x.sender k.outgoing p a.0 a.1)
      (λ m. begins_runs message is_interleaved x.sender k.outgoing p a.0 a.1 m a.2 (k.runs m)) k.indexed
  keeps (number p bytes more) a =
      let f = part x.sender p bytes more in
      let fin : f.is_end ≡ true → f.placeholder ≡ false → gather p x.sender.numbered ++ bytes ≡ (message p).payload =
      (λ l nf. ap (λ z. gather p x.sender.numbered ++ z) (sym (append-nil bytes) ∙ ap (λ z. bytes ++ z) (sym (none_left more l))) ∙ a.1) in
      sender_moves _ (numbers_outgoing message x.sender k.outgoing f a.0 fin) (numbers_later message x.sender k.outgoing f a.0 fin) (λ m. numbers_runs message x.sender k.outgoing f a.0 fin (k.runs m)) (indexed_push x.sender.numbered k.indexed f refl)
  keeps (end_with_placeholder p) a =
      let f = placeholder_of x.sender p in
      let fin : f.is_end ≡ true → f.placeholder ≡ false → gather p x.sender.numbered ++ [] ≡ (message p).payload = (λ l nf. cc) in
      sender_moves _ (numbers_outgoing message x.sender k.outgoing f a fin) (numbers_later message x.sender k.outgoing f a fin) (λ m. numbers_runs message x.sender k.outgoing f a fin (k.runs m)) (indexed_push x.sender.numbered k.indexed f refl)
  keeps (give_up p) a = sender_moves _ (gives_outgoing message x.sender k.outgoing p a.0 a.1) (gives_later message x.sender k.outgoing p) (λ m. gives_runs message x.sender k.outgoing p (k.runs m)) k.indexed
  keeps (data_comes t) a = receiver_moves _ (takes_incoming message x.sender x.receiver k.incoming t a.0 a.1 a.2) (takes_onward message x.sender x.receiver k.incoming t a.0 a.1 a.2)
  keeps (late_comes t) a =
      let given = late_passed message x.sender k.outgoing x.receiver k.incoming t a.0 a.1 a.2 in
      receiver_moves _ (marks_incoming message x.sender x.receiver k.incoming t a.0 a.1 given) (marks_onward message x.sender x.receiver k.incoming t a.0 a.1 given)
  keeps (become_ready p) a = receiver_moves _ (delivers_incoming message is_interleaved x.sender k.outgoing x.receiver k.incoming p a) (delivers_onward message is_interleaved x.sender k.outgoing x.receiver k.incoming p a)
  keeps (send_sack c) a = record {
    outgoing = k.outgoing;
    incoming = k.incoming;
    indexed = k.indexed;
    runs = k.runs;
    acknowledged_true = k.acknowledged_true;
    sacks_true = λ d h.
        elim h [
          | inl e ↦ subst (λ z. SackTrue message x.sender x.receiver z) (sym e) (sack_true message is_interleaved x.sender k.outgoing x.receiver k.incoming c a.0 a.1)
          | inr b ↦ k.sacks_true d b
        ];
    forwards_true = k.forwards_true;
    reports_true = k.reports_true;
  }
  keeps (acknowledge_next c) a = leaves c a.0 a.1
  keeps (send_forward f) a = record {
    outgoing = k.outgoing;
    incoming = k.incoming;
    indexed = k.indexed;
    runs = k.runs;
    acknowledged_true = k.acknowledged_true;
    sacks_true = k.sacks_true;
    forwards_true = λ g h.
        elim h [
          | inl e ↦ subst (λ z. ForwardTrue message is_interleaved x.sender x.receiver z) (sym e) (forward_true message is_interleaved x.sender k.outgoing x.receiver k.runs x.acknowledged k.acknowledged_true f a)
          | inr b ↦ k.forwards_true g b
        ];
    reports_true = k.reports_true;
  }
  keeps (forward_comes f) a =
      let ft = k.forwards_true f a in
      receiver_moves _ (skips_incoming message is_interleaved x.sender k.outgoing x.receiver k.incoming f ft) (skips_onward message is_interleaved x.sender k.outgoing x.receiver k.incoming f ft)
  keeps (perform_reset s c) a =
      receiver_moves _ (forgets_incoming message is_interleaved x.sender k.outgoing x.receiver k.incoming s c a) (forgets_onward message is_interleaved x.sender k.outgoing x.receiver k.incoming s c a)

module _ (message : ℕ → Message) (is_interleaved : Bool) where
  pub at_start : Invariant message is_interleaved start
  at_start = record {
    outgoing = record {
      place_begun = λ t h. absurd (omega arith);
      begun_below = λ p h. cc;
      given_up_below = λ p h. cc;
      partly_begun = λ p h. h;
      partly_kept = λ p h. cc;
      fifo = λ t u l h s. absurd (omega arith);
      settled = λ p q b l s. cc;
      rises = λ p q b c. cc;
      counted = λ p h. cc;
      following_counts = λ kind s. omega arith;
      dense = λ kind s n l. absurd (omega arith);
      ended = λ p b e. cc;
      last_ends = λ t u h. absurd (omega arith);
      partly_no_last = λ t h. absurd (omega arith);
      whole = λ t h. absurd (omega arith);
    };
    incoming = record {
      seen_below = λ t h. cc;
      held_seen = λ t h. h;
      held_real = λ t h. cc;
      passed = λ t h. cc;
      below_next = λ p b. cc;
      below_passed = λ p b k n. absurd (omega (arith, n));
      passed_counts = λ s. omega arith;
      next_counts = λ s. omega arith;
      ready_below = λ p h. cc;
      ready_parts = λ t h. absurd (omega arith);
      ready_begun = λ p h. h;
      ready_ended = λ p h. cc;
      alike = refl;
      apart = λ j n l h. absurd (omega arith);
    };
    indexed = indexed_none;
    runs = λ m. record {
      next_same = λ t h l. absurd (omega arith);
      tail_partly = λ t h l. cc;
      single = λ p q h. cc;
    };
    acknowledged_true = record { all_seen = λ t h. absurd (omega arith); done = λ t h. absurd (omega arith); behind = λ t h. absurd (omega arith) };
    sacks_true = λ c h. absurd h;
    forwards_true = λ f h. absurd h;
    reports_true = λ p h. h;
  }

  pub all_kept : (es : List TransferEvent) (x : Transfer) → Invariant message is_interleaved x → Happens message is_interleaved x es → Invariant message is_interleaved (run message is_interleaved x es)
  all_kept [] x k h = k
  all_kept (e ∷ es) x k h = all_kept es (after message is_interleaved x e) (keeps message is_interleaved x k e h.0) h.1
