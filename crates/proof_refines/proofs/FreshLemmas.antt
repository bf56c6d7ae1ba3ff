-- Messages at the front of a stream that expired are given up.
use Rattle.std.proofs.Common.{◌≡◌, ◌≢◌, ℕ, ◌+◌, Bool, true, false, not, cond, inl, inr, Option, Some, None, List, [], ◌∷◌, ◌++◌, refl, sym, ap, ◌∙◌, subst, arith, append_assoc, append-nil}
use Rattle.std.specs.Prelude.{is_some}
use Rattle.std.proofs.lemmas.Bool.{cases_eq, and_parts, not-true, false_from_ne_true}
use Rattle.std.proofs.lemmas.List.{map-append}
use Rattle.sctp_state.specs.Events as events
use Rattle.sctp_state.specs.Events.{Emitted, emit_events, expired_events}
use Rattle.sctp_state.specs.declared.api.GivenUpCause.TheVariants.{Lifetime}
use Rattle.sctp_tx_queue.specs.SendQueue.{Queued}
use Rattle.sctp_tx_queue.specs.Produced.{is_stale, is_expired, fresh, emit_expired}
use Rattle.sctp_tx_queue.specs.InOrder.{are_rising}
use Rattle.sctp_tx_outstanding.specs.OutstandingData.{Items}
use Rattle.proof_protocol.specs.State.{Message, Sender, Transfer, place_of, put, stream_of}
use Rattle.proof_protocol.specs.Rules.{Waits, give_up, IsAllowed, after, gives_up}
use Rattle.proof_protocol.specs.Invariant.{Invariant}
use Rattle.proof_protocol.proofs.ToolsLemmas.{put_at, put_off, put_keeps, not_both}
use Rattle.proof_protocol.proofs.SenderRowLemmas.{unsent_dropped}
use Rattle.proof_protocol.proofs.CommonLemmas.{none_some}
use Rattle.proof_refines.specs.SenderRefinement.{find, waiting_of, queue_of, IsEntry, AreKept, AreQueued, AreDiscards}
use Rattle.proof_refines.specs.Reachable.{recorded_places, SenderLeads}
use Rattle.proof_refines.proofs.FoundLemmas.{funext, found_at, found_off, found_behind, found_alike, once, rises}
use Rattle.proof_refines.proofs.QueuedLemmas.{Frame, queue_some, queue_given, change, change_discards}
use Rattle.proof_refines.proofs.ItemsLemmas.{kept_moves}
use Rattle.proof_refines.proofs.LedLemmas.{leads_none, leads_on}

pub put_here : {A : Type 0} (f : ℕ → A) (k : ℕ) (v : A) → f k ≡ v → put f k v ≡ f
put_here f k v e = funext (put f k v) f same
  where
    same : (n : ℕ) → put f k v n ≡ f n
    same n = elim (cases_eq n k) [ inl c ↦ put_at f k v n c ∙ (sym e ∙ ap f (sym c)) | inr d ↦ put_off f k v n d ]

pub put_over : {A : Type 0} (f : ℕ → A) (k : ℕ) (v w : A) → put (put f k v) k w ≡ put f k w
put_over f k v w = funext (put (put f k v) k w) (put f k w) same
  where
    same : (n : ℕ) → put (put f k v) k w n ≡ put f k w n
    same n =
        elim (cases_eq n k) [
          | inl c ↦ put_at (put f k v) k w n c ∙ sym (put_at f k w n c)
          | inr d ↦ put_off (put f k v) k w n d ∙ (put_off f k v n d ∙ sym (put_off f k w n d))
        ]

-- the list of a stream changes in the first message alone
pub put_elsewhere : (ms : ℕ → List Queued) (id : ℕ) (m : Queued) (rest new : List Queued) → ms id ≡ m ∷ rest → ((r : ℕ) → r ≢ m.number → find r new ≡ find r rest)
    → (k r : ℕ) → r ≢ m.number → find r (put ms id new k) ≡ find r (ms k)
put_elsewhere ms id m rest new h same k r d =
    elim (cases_eq k id) [
      | inl e ↦ ap (find r) (put_at ms id new k e) ∙ (same r d ∙ (sym (found_off r m rest (λ c. d (sym c))) ∙ ap (find r) (sym (ap ms e ∙ h))))
      | inr n ↦ ap (find r) (put_off ms id new k n)
    ]

-- without one message the others are found as before
put_without : (ms : ℕ → List Queued) (id : ℕ) (front : List Queued) (m : Queued) (rest : List Queued) → ms id ≡ front ++ m ∷ rest
    → (k r : ℕ) → r ≢ m.number → find r (put ms id (front ++ rest) k) ≡ find r (ms k)
put_without ms id front m rest h k r d =
    elim (cases_eq k id) [
      | inl e ↦
          ap (find r) (put_at ms id (front ++ rest) k e)
          ∙ (found_alike r front rest (m ∷ rest) (sym (found_off r m rest (λ c. d (sym c)))) ∙ ap (find r) (sym (ap ms e ∙ h)))
      | inr n ↦ ap (find r) (put_off ms id (front ++ rest) k n)
    ]

module _ (message : ℕ → Message) (lifecycle : ℕ → Option ℕ) where
  -- a message behind others of its stream, as the rules see it
  module _ (o : Sender) (ms : ℕ → List Queued) (a : AreQueued message lifecycle o ms) (id : ℕ) (front : List Queued) (m : Queued) (rest : List Queued)
      (h : ms id ≡ front ++ m ∷ rest) (before : find m.number front ≡ None) where
    behind_found : find m.number (ms id) ≡ Some m
    behind_found = ap (find m.number) h ∙ (found_behind m.number front (m ∷ rest) before ∙ found_at m.number m rest refl)

    behind_entry : IsEntry message lifecycle o id m.number m
    behind_entry = a.entries id m.number m behind_found

    behind_own : find m.number (ms (stream_of message m.number)) ≡ Some m
    behind_own = ap (λ z. find m.number (ms z)) behind_entry.on_stream ∙ behind_found

    -- it is on no other stream
    behind_there : (new : List Queued) (k : ℕ) (n : Queued) → find m.number (put ms id new k) ≡ Some n → k ≡ id
    behind_there new k n f =
        elim (cases_eq k id) [
          | inl e ↦ e
          | inr d ↦ let e = a.entries k m.number n (sym (ap (find m.number) (put_off ms id new k d)) ∙ f) in absurd (d (sym e.on_stream ∙ behind_entry.on_stream))
        ]

  -- the first message of a stream
  module _ (o : Sender) (ms : ℕ → List Queued) (a : AreQueued message lifecycle o ms) (id : ℕ) (m : Queued) (rest : List Queued) (h : ms id ≡ m ∷ rest) where
    pub first_found : find m.number (ms id) ≡ Some m
    first_found = behind_found o ms a id [] m rest h refl

    pub first_entry : IsEntry message lifecycle o id m.number m
    first_entry = behind_entry o ms a id [] m rest h refl

    pub first_own : find m.number (ms (stream_of message m.number)) ≡ Some m
    first_own = behind_own o ms a id [] m rest h refl

    pub first_there : (new : List Queued) (k : ℕ) (n : Queued) → find m.number (put ms id new k) ≡ Some n → k ≡ id
    first_there = behind_there o ms a id [] m rest h refl

  -- a message of which nothing was sent is dropped
  module _ (is_interleaved : Bool) (x : Transfer) (k : Invariant message is_interleaved x) (ms : ℕ → List Queued) (a : AreQueued message lifecycle x.sender ms) (s : Items)
      (kept : AreKept message lifecycle x.sender x.acknowledged s.kept) (discards : AreDiscards x.sender ms s.discards)
      (id : ℕ) (front : List Queued) (m : Queued) (rest : List Queued) (h : ms id ≡ front ++ m ∷ rest) (before : find m.number front ≡ None) (none : find m.number rest ≡ None)
      (unsent : is_some m.numbers ≡ false) where
    abbrev p : ℕ
    p = m.number

    live : x.sender.given_up p ≡ false
    live = false_from_ne_true (x.sender.given_up p) (λ g. not_both ((behind_entry x.sender ms a id front m rest h before).partly_sent g) unsent)

    queued_here : queue_of message x.sender ms p ≡ Some (waiting_of m)
    queued_here = queue_some message x.sender ms p m live (behind_own x.sender ms a id front m rest h before)

    waits : Waits x.sender p
    waits = a.queued.waits p (waiting_of m) queued_here unsent

    pub record Drops : Type 0 where
      pub may : IsAllowed message is_interleaved x (give_up p)
      pub leads : SenderLeads message is_interleaved x (after message is_interleaved x (give_up p)) (p ∷ [])
      pub kept_is : Invariant message is_interleaved (after message is_interleaved x (give_up p))
      pub queued : AreQueued message lifecycle (gives_up x.sender p) (put ms id (front ++ rest))
      pub items : AreKept message lifecycle (gives_up x.sender p) x.acknowledged s.kept
      pub discards_are : AreDiscards (gives_up x.sender p) (put ms id (front ++ rest)) s.discards

    frame : (r : ℕ) → r ≢ p → Frame x.sender (gives_up x.sender p) r
    frame r d = record { number = refl; given_up = put_off x.sender.given_up p true r d; parts_are = refl }

    elsewhere : (k r : ℕ) → r ≢ p → find r (put ms id (front ++ rest) k) ≡ find r (ms k)
    elsewhere = put_without ms id front m rest h

    none_left : (k : ℕ) (n : Queued) → find p (put ms id (front ++ rest) k) ≡ Some n → ⊥
    none_left k n f =
        none_some (find p (front ++ rest)) n (sym (ap (find p) (put_at ms id (front ++ rest) k (behind_there x.sender ms a id front m rest h before (front ++ rest) k n f))) ∙ f)
        (found_behind p front rest before ∙ none)

    pub drops : Drops
    drops =
        let r = unsent_dropped message is_interleaved x k (queue_of message x.sender ms) a.queued p (waiting_of m) queued_here unsent in
        record {
          may = r.may.0;
          leads = record { events = give_up p ∷ []; may = r.may; leads = refl; sends = refl; given_up = refl; rest_stays = refl };
          kept_is = r.kept;
          queued =
              change message lifecycle x.sender (gives_up x.sender p) ms (put ms id (front ++ rest)) p elsewhere frame (omega arith) (λ k n f. absurd (none_left k n f)) None
              (queue_given message (gives_up x.sender p) (put ms id (front ++ rest)) p (put_at x.sender.given_up p true p refl)) r.queued a;
          items =
              kept_moves message lifecycle x.sender (gives_up x.sender p)
              (record { same = λ t l. refl; number = λ t l. refl; given_up = λ t l. put_off x.sender.given_up p true (place_of x.sender t) (λ e. not_both (sym (ap x.sender.begun e) ∙ k.outgoing.place_begun t l) waits.not_begun) })
              refl x.acknowledged s.kept kept;
          discards_are = change_discards message lifecycle x.sender (gives_up x.sender p) ms (put ms id (front ++ rest)) p elsewhere frame s.discards discards (λ k n f g. absurd (none_left k n f)) (λ r g. put_keeps x.sender.given_up p r g);
        }

  -- all that expired at the front of a stream
  pub record Freshened {P : Type 0} (is_interleaved : Bool) (x : Transfer) (s : Items) (ms : ℕ → List Queued) (now id : ℕ) (front : List Queued) (emitted : Emitted P) : Type 0 where
    pub after : Transfer
    pub places : List ℕ
    pub leads : SenderLeads message is_interleaved x after places
    pub kept_is : Invariant message is_interleaved after
    pub queued : AreQueued message lifecycle after.sender (put ms id (fresh now front))
    pub items : AreKept message lifecycle after.sender after.acknowledged s.kept
    pub discards_are : AreDiscards after.sender (put ms id (fresh now front)) s.discards
    pub counts_stay : after.sender.following ≡ x.sender.following
    pub accepted_stays : after.sender.accepted ≡ x.sender.accepted
    pub recorded_are : recorded_places (emit_expired now front emitted) ≡ recorded_places emitted ++ places

  pub freshens : {P : Type 0} (is_interleaved : Bool) (now id least most : ℕ) (front : List Queued) (x : Transfer) (k : Invariant message is_interleaved x) (s : Items) (ms : ℕ → List Queued) → ms id ≡ front → are_rising least most front ≡ true
      → AreQueued message lifecycle x.sender ms → AreKept message lifecycle x.sender x.acknowledged s.kept → AreDiscards x.sender ms s.discards → (emitted : Emitted P)
      → Freshened is_interleaved x s ms now id front emitted
  freshens is_interleaved now id least most [] x k s ms h r a kept d emitted = record {
    after = x;
    places = [];
    leads = leads_none message is_interleaved x;
    kept_is = k;
    queued = subst (λ (z : ℕ → List Queued). AreQueued message lifecycle x.sender z) (sym (put_here ms id [] h)) a;
    items = kept;
    discards_are = subst (λ (z : ℕ → List Queued). AreDiscards x.sender z s.discards) (sym (put_here ms id [] h)) d;
    counts_stay = refl;
    accepted_stays = refl;
    recorded_are = sym (append-nil (recorded_places emitted));
  }
  freshens {P} is_interleaved now id least most (m ∷ rest) x k s ms h r a kept d emitted =
      go (is_stale now m) refl (λ y ky my hy ay ty dy emitted. freshens is_interleaved now id (m.number + 1) most rest y ky s my hy (rises least most m rest r).behind ay ty dy emitted)
    where
      Goal : Bool → Type 0
      Goal b = (after : Transfer) × (places : List ℕ) × SenderLeads message is_interleaved x after places × Invariant message is_interleaved after
          × AreQueued message lifecycle after.sender (put ms id (cond b (fresh now rest) (m ∷ rest))) × AreKept message lifecycle after.sender after.acknowledged s.kept
          × AreDiscards after.sender (put ms id (cond b (fresh now rest) (m ∷ rest))) s.discards
          × (after.sender.following ≡ x.sender.following) × (after.sender.accepted ≡ x.sender.accepted)
          × (recorded_places (cond b (emit_expired now rest (emit_events (expired_events m.lifecycle) (events.emit_given_up m.number Lifetime emitted))) emitted) ≡ recorded_places emitted ++ places)

      done : (b : Bool) → is_stale now m ≡ b → Goal b → Freshened is_interleaved x s ms now id (m ∷ rest) emitted
      done b e g = record {
        after = g.0;
        places = g.1;
        leads = g.2;
        kept_is = g.3;
        queued = subst (λ z. AreQueued message lifecycle g.0.sender (put ms id (cond z (fresh now rest) (m ∷ rest)))) (sym e) g.4;
        items = g.5;
        discards_are = subst (λ z. AreDiscards g.0.sender (put ms id (cond z (fresh now rest) (m ∷ rest))) s.discards) (sym e) g.6;
        counts_stay = g.7;
        accepted_stays = g.8;
        recorded_are = ap (λ z. recorded_places (cond z (emit_expired now rest (emit_events (expired_events m.lifecycle) (events.emit_given_up m.number Lifetime emitted))) emitted)) e ∙ g.9;
      }

      go : (b : Bool) → is_stale now m ≡ b
          → ((y : Transfer) (ky : Invariant message is_interleaved y) (my : ℕ → List Queued) → my id ≡ rest → AreQueued message lifecycle y.sender my → AreKept message lifecycle y.sender y.acknowledged s.kept → AreDiscards y.sender my s.discards
          → (emitted : Emitted P) → Freshened is_interleaved y s my now id rest emitted)
          → Freshened is_interleaved x s ms now id (m ∷ rest) emitted
      go false e ih =
          done false e (
            x,
            [],
            leads_none message is_interleaved x,
            k,
            subst (λ (z : ℕ → List Queued). AreQueued message lifecycle x.sender z) (sym (put_here ms id (m ∷ rest) h)) a,
            kept,
            subst (λ (z : ℕ → List Queued). AreDiscards x.sender z s.discards) (sym (put_here ms id (m ∷ rest) h)) d,
            refl,
            refl,
            sym (append-nil (recorded_places emitted)),
          )
      go true e ih =
          let unsent = not-true (is_some m.numbers) (and_parts (not (is_some m.numbers)) (is_expired now m.expires) e).0 in
          let one = drops is_interleaved x k ms a s kept d id [] m rest h refl (once least most m rest r) unsent in
          let x1 : Transfer = after message is_interleaved x (give_up m.number) in
          let later : Emitted P = emit_events (expired_events m.lifecycle) (events.emit_given_up m.number Lifetime emitted) in
          let f = ih x1 one.kept_is (put ms id rest) (put_at ms id rest id refl) one.queued one.items one.discards_are later in
          let over = put_over ms id rest (fresh now rest) in
          done true e (
            f.after,
            m.number ∷ f.places,
            leads_on message is_interleaved x x1 f.after (m.number ∷ []) f.places one.leads f.leads,
            f.kept_is,
            subst (λ (z : ℕ → List Queued). AreQueued message lifecycle f.after.sender z) over f.queued,
            f.items,
            subst (λ (z : ℕ → List Queued). AreDiscards f.after.sender z s.discards) over f.discards_are,
            f.counts_stay,
            f.accepted_stays,
            f.recorded_are ∙ (ap (λ z. z ++ f.places) (map-append (λ g. g.number) emitted.given_up (record { number = m.number; cause = Lifetime } ∷ [])) ∙ append_assoc (recorded_places emitted) (m.number ∷ []) f.places),
          )
