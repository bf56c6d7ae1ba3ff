-- Each rule keeps the bases of the epochs.
use Rattle.std.proofs.Common.{◌≡◌, ℕ, suc, ◌+◌, ◌<◌, ◌≤◌, Bool, true, false, cond, not, ◌&&◌, ◌||◌, ◌⊎◌, inl, inr, List, [], ◌∷◌, refl, sym, ap, ◌∙◌, subst, arith, eqb, ltb}
use Rattle.std.proofs.lemmas.Bool.{cases_lt, cases_eq, and_parts, eqb-true, ne_eqb, eq-eqb, cond-true, cond-false, not-true, or_left, or_right}
use Rattle.proof_protocol.specs.State.{Message, Entry, ForwardPoint, IsAmong, put, count, place_of, stream_of, ordered_of}
use Rattle.proof_protocol.specs.Rules.{TransferEvent, accept, begin, number, end_with_placeholder, give_up, data_comes, late_comes, become_ready, send_sack, acknowledge_next, send_forward, forward_comes, perform_reset, same, covers, drops, IsResettable, AreWritten, IsAllowed, after}
use Rattle.proof_protocol.specs.Resets.{Request, Epochs, ResetEvent, transfers, reset_stream, send_request, perform, commit, first_epoch, rebase, InEpoch, MayReset, epochs_after, goes, MayAll, go_all, EpochInvariant}
use Rattle.proof_protocol.specs.Based.{Names, IsWritten, LastPerformed, Based, UnseenIsOfCurrentEpoch, InEpochs}
use Rattle.proof_protocol.proofs.ToolsLemmas.{put_at, put_off, put_true, put_keeps, not_both, raised_up}
use Rattle.proof_protocol.proofs.BeginLemmas.{unsettled}
use Rattle.proof_protocol.proofs.StepLemmas.{later}
use Rattle.proof_protocol.proofs.EpochLemmas.{keeps_order, resettable, order_at_first}
use Rattle.proof_protocol.proofs.ForgetLemmas.{reset_aligned}

-- ---- what only grows at the receiver

module _ (message : ℕ → Message) (is_interleaved : Bool) (x : Epochs) (k : EpochInvariant message is_interleaved x) where
  pub seen_stays : (e : TransferEvent) (t : ℕ) → x.transfer.receiver.seen t ≡ true → (after message is_interleaved x.transfer e).receiver.seen t ≡ true
  seen_stays accept t h = h
  seen_stays (begin p) t h = h
  seen_stays (number p bytes more) t h = h
  seen_stays (end_with_placeholder p) t h = h
  seen_stays (give_up p) t h = h
  seen_stays (data_comes u) t h = put_keeps x.transfer.receiver.seen u t h
  seen_stays (late_comes u) t h = put_keeps x.transfer.receiver.seen u t h
  seen_stays (become_ready p) t h = h
  seen_stays (send_sack c) t h = h
  seen_stays (acknowledge_next c) t h = h
  seen_stays (send_forward f) t h = h
  seen_stays (forward_comes f) t h = or_right (ltb t f.upto) (x.transfer.receiver.seen t) h
  seen_stays (perform_reset s c) t h = h

  next_delivered : (p : ℕ) → IsAllowed message is_interleaved x.transfer (become_ready p) → (s : ℕ) → x.transfer.receiver.next s ≤ (after message is_interleaved x.transfer (become_ready p)).receiver.next s
  next_delivered p a s = go (ordered_of message p) refl (eqb s (stream_of message p)) refl
    where
      go : (b : Bool) → ordered_of message p ≡ b → (c : Bool) → eqb s (stream_of message p) ≡ c
          → x.transfer.receiver.next s ≤ cond (ordered_of message p && eqb s (stream_of message p)) (suc (x.transfer.sender.number p)) (x.transfer.receiver.next s)
      go true h true e =
          let n : x.transfer.sender.number p ≡ x.transfer.receiver.next s = a.in_turn h ∙ ap x.transfer.receiver.next (sym (eqb-true s (stream_of message p) e)) in
          rw (h, e) (omega (arith, n))
      go true h false e = rw (h, e) (omega arith)
      go false h c e = rw h (omega arith)

  pub next_stays : (e : TransferEvent) → IsAllowed message is_interleaved x.transfer e → (s : ℕ) → x.transfer.receiver.next s ≤ (after message is_interleaved x.transfer e).receiver.next s
  next_stays accept a s = omega arith
  next_stays (begin p) a s = omega arith
  next_stays (number p bytes more) a s = omega arith
  next_stays (end_with_placeholder p) a s = omega arith
  next_stays (give_up p) a s = omega arith
  next_stays (data_comes u) a s = omega arith
  next_stays (late_comes u) a s = omega arith
  next_stays (become_ready p) a s = next_delivered p a s
  next_stays (send_sack c) a s = omega arith
  next_stays (acknowledge_next c) a s = omega arith
  next_stays (send_forward f) a s = omega arith
  next_stays (forward_comes f) a s = raised_up f.entries true s (x.transfer.receiver.next s)
  next_stays (perform_reset s c) a b = omega arith

  pub passed_stays : (e : TransferEvent) → InEpoch message is_interleaved x e → (s : ℕ) → x.transfer.receiver.passed_below s ≤ (after message is_interleaved x.transfer e).receiver.passed_below s
  passed_stays accept i s = omega arith
  passed_stays (begin p) i s = omega arith
  passed_stays (number p bytes more) i s = omega arith
  passed_stays (end_with_placeholder p) i s = omega arith
  passed_stays (give_up p) i s = omega arith
  passed_stays (data_comes u) i s = omega arith
  passed_stays (late_comes u) i s = omega arith
  passed_stays (become_ready p) i s = omega arith
  passed_stays (send_sack c) i s = omega arith
  passed_stays (acknowledge_next c) i s = omega arith
  passed_stays (send_forward f) i s = omega arith
  passed_stays (forward_comes f) i s = raised_up f.entries false s (x.transfer.receiver.passed_below s)
  passed_stays (perform_reset s c) i b = absurd i

  -- what is held was held, or was not seen
  pub held_before : (e : TransferEvent) → IsAllowed message is_interleaved x.transfer e → (t : ℕ) → (after message is_interleaved x.transfer e).receiver.held t ≡ true
      → (x.transfer.receiver.held t ≡ true) ⊎ ((t < count x.transfer.sender) × (x.transfer.receiver.seen t ≡ false))
  held_before accept a t h = inl h
  held_before (begin p) a t h = inl h
  held_before (number p bytes more) a t h = inl h
  held_before (end_with_placeholder p) a t h = inl h
  held_before (give_up p) a t h = inl h
  held_before (data_comes u) a t h =
      elim (put_true x.transfer.receiver.held u t h) [
        | inl e ↦ inr (subst (λ z. z < count x.transfer.sender) (sym e) a.0, ap x.transfer.receiver.seen e ∙ a.2)
        | inr o ↦ inl o
      ]
  held_before (late_comes u) a t h = inl h
  held_before (become_ready p) a t h = inl (and_parts (x.transfer.receiver.held t) (not (eqb (place_of x.transfer.sender t) p)) h).0
  held_before (send_sack c) a t h = inl h
  held_before (acknowledge_next c) a t h = inl h
  held_before (send_forward f) a t h = inl h
  held_before (forward_comes f) a t h = inl (and_parts (x.transfer.receiver.held t) (not (drops message is_interleaved x.transfer.sender f t)) h).0
  held_before (perform_reset s c) a t h = inl (and_parts (x.transfer.receiver.held t) (not (eqb (stream_of message (place_of x.transfer.sender t)) s)) h).0

-- ---- of which epoch what comes is

module _ (message : ℕ → Message) (is_interleaved : Bool) (x : Epochs) (k : EpochInvariant message is_interleaved x) (b : Based message x) where
  abbrev st : ℕ → ℕ
  st p = stream_of message p

  pub not_later : (p : ℕ) → x.transfer.sender.begun p ≡ true → x.epoch p ≤ x.performed (st p)
  not_later p h = let i = k.begun p h in let c = (k.chain (st p)).0 in omega (arith, i, c)

  pub unseen_is_now : UnseenIsOfCurrentEpoch message x
  unseen_is_now t h u =
      let p = place_of x.transfer.sender t in
      let m = not_later p (k.kept.outgoing.place_begun t h) in
      elim (cases_lt (x.epoch p) (x.performed (st p))) [
        | inr g ↦ omega (arith, m, g)
        | inl l ↦
            let z = b.last (st p) (omega (arith, l)) in
            let ze = z.epoch in
            let i = (k.asked z.request z.sent).below t h (sym z.on_stream) (omega (arith, l, ze)) in
            absurd (not_both (z.all_seen t i) u)
      ]

  -- a message that may begin is of the epoch that is open and performed
  begins_now : (p : ℕ) → IsAllowed message is_interleaved x.transfer (begin p) → x.epoch p ≤ x.opened (st p) → (x.epoch p ≡ x.performed (st p)) × (x.opened (st p) ≡ x.performed (st p))
  begins_now p a i =
      let c = (k.chain (st p)).0 in
      elim (cases_lt (x.epoch p) (x.performed (st p))) [
        | inl l ↦ absurd (unsettled message is_interleaved x.transfer.sender k.kept.outgoing p a.0 a.1 (k.settled p a.0.below l))
        | inr g ↦ (omega (arith, i, c, g), omega (arith, i, c, g))
      ]

  -- ---- a rule of the transfer

  module _ (e : TransferEvent) (a : IsAllowed message is_interleaved x.transfer e) (i : InEpoch message is_interleaved x e)
      (same : (p : ℕ) → p < x.transfer.sender.accepted → epochs_after message is_interleaved x e p ≡ x.epoch p)
      (begins : (p : ℕ) → (after message is_interleaved x.transfer e).sender.begun p ≡ true
      → (x.transfer.sender.begun p ≡ true) ⊎ ((epochs_after message is_interleaved x e p ≡ x.performed (st p)) × (epochs_after message is_interleaved x e p ≡ x.opened (st p))
      × ((after message is_interleaved x.transfer e).sender.number p ≡ x.transfer.sender.counts (ordered_of message p) (st p))
      × ((after message is_interleaved x.transfer e).sender.written p ≡ x.transfer.sender.following (ordered_of message p) (st p))))
      (writes : (p : ℕ) → x.transfer.sender.begun p ≡ true → (after message is_interleaved x.transfer e).sender.written p ≡ x.transfer.sender.written p)
      (follows : (s : ℕ) (kind : Bool)
      → (((after message is_interleaved x.transfer e).sender.counts kind s ≡ x.transfer.sender.counts kind s) × ((after message is_interleaved x.transfer e).sender.following kind s ≡ x.transfer.sender.following kind s))
      ⊎ (((after message is_interleaved x.transfer e).sender.counts kind s ≡ suc (x.transfer.sender.counts kind s)) × ((after message is_interleaved x.transfer e).sender.following kind s ≡ suc (x.transfer.sender.following kind s))))
      (stay : (s : ℕ) (kind : Bool) → x.opened s < x.performed s → (after message is_interleaved x.transfer e).sender.counts kind s ≡ x.transfer.sender.counts kind s)
      (sends : (f : ForwardPoint) → IsAmong f (after message is_interleaved x.transfer e).forward_points → IsAmong f x.transfer.forward_points
      ⊎ ((f.upto ≤ count x.transfer.sender) × ((kind : Bool) (s n : ℕ) → covers f.entries kind s n ≡ true → Names message x.transfer.sender x.epoch x.requests f kind s n)
      × ((d : Entry) → IsAmong d f.entries → IsWritten message x.transfer.sender d))) where
    abbrev y : Epochs
    y = goes message is_interleaved x (transfers e)

    l : (t : ℕ) → t < count x.transfer.sender → place_of y.transfer.sender t ≡ place_of x.transfer.sender t
    l t h = ap (λ z. z.place) ((later message is_interleaved x.transfer k.kept e a).same_fragment t h)

    accepted_at : (t : ℕ) → t < count x.transfer.sender → place_of x.transfer.sender t < x.transfer.sender.accepted
    accepted_at t h = k.kept.outgoing.begun_below (place_of x.transfer.sender t) (k.kept.outgoing.place_begun t h)

    grows : (kind : Bool) (s : ℕ) → x.transfer.sender.counts kind s ≤ y.transfer.sender.counts kind s
    grows kind s = (later message is_interleaved x.transfer k.kept e a).counts_grow kind s

    epoch_at : (t : ℕ) → t < count x.transfer.sender → y.epoch (place_of y.transfer.sender t) ≡ x.epoch (place_of x.transfer.sender t)
    epoch_at t h = ap y.epoch (l t h) ∙ same (place_of x.transfer.sender t) (accepted_at t h)

    number_at : (p : ℕ) → x.transfer.sender.begun p ≡ true → y.transfer.sender.number p ≡ x.transfer.sender.number p
    number_at p h = (later message is_interleaved x.transfer k.kept e a).number_stays p h

    old_epoch : (p : ℕ) → x.transfer.sender.begun p ≡ true → y.epoch p ≡ x.epoch p
    old_epoch p h = same p (k.kept.outgoing.begun_below p h)

    -- a point passes numbered fragments
    names_stay : (f : ForwardPoint) → IsAmong f x.transfer.forward_points ⊎ (f.upto ≤ count x.transfer.sender) → (kind : Bool) (s n : ℕ)
        → Names message x.transfer.sender x.epoch x.requests f kind s n → Names message y.transfer.sender y.epoch y.requests f kind s n
    names_stay f w kind s n z =
        let zb = z.below in
        let h : z.at < count x.transfer.sender =
        elim w [
          | inl m ↦ let u = (k.kept.forwards_true f m).within in omega (arith, zb, u)
          | inr u ↦ omega (arith, zb, u)
        ] in
        let num = number_at (place_of x.transfer.sender z.at) (k.kept.outgoing.place_begun z.at h) in
        let n2 = ap y.transfer.sender.number (l z.at h) ∙ num in
        record {
          at = z.at;
          below = z.below;
          kind_is = ap (ordered_of message) (l z.at h) ∙ z.kind_is;
          on_stream = ap (stream_of message) (l z.at h) ∙ z.on_stream;
          above = subst (λ m. n ≤ m) (sym n2) z.above;
          named = ap (λ m. covers f.entries kind s m) n2 ∙ z.named;
          ends = λ r m q g. z.ends r m q (subst (λ m. m < r.epoch) (epoch_at z.at h) g);
        }

    still_written : (d : Entry) → IsWritten message x.transfer.sender d → IsWritten message y.transfer.sender d
    still_written d w = record {
      place = w.place;
      begun = (later message is_interleaved x.transfer k.kept e a).begun_stays w.place w.begun;
      kind_is = w.kind_is;
      on_stream = w.on_stream;
      number = number_at w.place w.begun ∙ w.number;
      written = writes w.place w.begun ∙ w.written;
    }

    pub moves : Based message y
    moves = record {
      at_first = b.at_first;
      numbered = λ p h.
          elim (begins p h) [
            | inl o ↦
                let z = b.numbered p o in
                subst (λ m. x.base (st p) m (ordered_of message p) ≤ y.transfer.sender.number p) (sym (old_epoch p o))
                (subst (λ m. x.base (st p) (x.epoch p) (ordered_of message p) ≤ m) (sym (number_at p o)) z)
            | inr n ↦
                let w = b.within (st p) (x.performed (st p)) (ordered_of message p) (omega arith) in
                let c = n.2 in
                subst (λ m. x.base (st p) m (ordered_of message p) ≤ y.transfer.sender.number p) (sym n.0) (omega (arith, w, c))
          ];
      written = λ p h.
          elim (begins p h) [
            | inl o ↦
                let z = b.written p o in
                let w = writes p o in
                let m = number_at p o in
                subst (λ d. x.base (st p) d (ordered_of message p) + y.transfer.sender.written p ≡ y.transfer.sender.number p) (sym (old_epoch p o)) (omega (arith, z, w, m))
            | inr n ↦
                let z = b.following (st p) (ordered_of message p) in
                let c = n.2 in
                let w = n.3 in
                subst (λ d. x.base (st p) d (ordered_of message p) + y.transfer.sender.written p ≡ y.transfer.sender.number p) (sym n.1) (omega (arith, z, c, w))
          ];
      following = λ s kind.
          let z = b.following s kind in
          elim (follows s kind) [
            | inl q ↦ let c = q.0 in let w = q.1 in omega (arith, z, c, w)
            | inr q ↦ let c = q.0 in let w = q.1 in omega (arith, z, c, w)
          ];
      entries = λ f m d n.
          elim (sends f m) [
            | inl o ↦ still_written d (b.entries f o d n)
            | inr z ↦ still_written d (z.2 d n)
          ];
      earlier = λ p d h most less.
          elim (begins p h) [
            | inl o ↦
                let z = b.earlier p d o most (subst (λ m. m < d) (old_epoch p o) less) in
                subst (λ m. m < x.base (st p) d (ordered_of message p)) (sym (number_at p o)) z
            | inr n ↦ let q = n.0 in absurd (omega (arith, q, most, less))
          ];
      frozen = λ s kind h. b.frozen s kind h ∙ sym (stay s kind h);
      within = λ s d kind h. let w = b.within s d kind h in let g = grows kind s in omega (arith, w, g);
      next_from = λ s. let w = b.next_from s in let u = next_stays message is_interleaved x k e a s in omega (arith, w, u);
      passed_from = λ s. let w = b.passed_from s in let u = passed_stays message is_interleaved x k e i s in omega (arith, w, u);
      held_now = λ t h.
          elim (held_before message is_interleaved x k e a t h) [
            | inl o ↦
                let q = k.kept.incoming.seen_below t (k.kept.incoming.held_seen t o) in
                epoch_at t q ∙ (b.held_now t o ∙ ap (λ z. x.performed (st z)) (sym (l t q)))
            | inr n ↦ epoch_at t n.0 ∙ (unseen_is_now t n.0 n.1 ∙ ap (λ z. x.performed (st z)) (sym (l t n.0)))
          ];
      last = λ s h.
          let z = b.last s h in
          record { request = z.request; sent = z.sent; on_stream = z.on_stream; epoch = z.epoch; all_seen = λ t g. seen_stays message is_interleaved x k e t (z.all_seen t g) };
      points = λ f m kind s n c.
          elim (sends f m) [
            | inl o ↦ names_stay f (inl o) kind s n (b.points f o kind s n c)
            | inr z ↦ names_stay f (inr z.0) kind s n (z.1 kind s n c)
          ];
    }

  -- a rule that accepts nothing, begins nothing and sends no forward point
  plain : (e : TransferEvent) (a : IsAllowed message is_interleaved x.transfer e) (i : InEpoch message is_interleaved x e) → ((p : ℕ) → epochs_after message is_interleaved x e p ≡ x.epoch p)
      → ((p : ℕ) → (after message is_interleaved x.transfer e).sender.begun p ≡ x.transfer.sender.begun p)
      → ((s : ℕ) (kind : Bool) → (after message is_interleaved x.transfer e).sender.counts kind s ≡ x.transfer.sender.counts kind s)
      → ((p : ℕ) → (after message is_interleaved x.transfer e).sender.written p ≡ x.transfer.sender.written p)
      → ((s : ℕ) (kind : Bool) → (after message is_interleaved x.transfer e).sender.following kind s ≡ x.transfer.sender.following kind s)
      → ((f : ForwardPoint) → IsAmong f (after message is_interleaved x.transfer e).forward_points → IsAmong f x.transfer.forward_points)
      → Based message (goes message is_interleaved x (transfers e))
  plain e a i same begun counts writes follows points =
      moves e a i (λ p h. same p) (λ p h. inl (sym (begun p) ∙ h)) (λ p h. writes p) (λ s kind. inl (counts s kind, follows s kind)) (λ s kind h. counts s kind) (λ f m. inl (points f m))

  accepts_next : IsAllowed message is_interleaved x.transfer accept → Based message (goes message is_interleaved x (transfers accept))
  accepts_next a =
      let n = x.transfer.sender.accepted in
      moves accept a tt (λ p h. put_off x.epoch n (x.raised (st n)) p (omega (arith, h))) (λ p h. inl h) (λ p h. refl) (λ s kind. inl (refl, refl)) (λ s kind h. refl) (λ f m. inl m)

  counts_at : (p : ℕ) (s : ℕ) (kind : Bool) → (st p ≡ s → ⊥)
      → cond (same (ordered_of message p) kind && eqb s (st p)) (suc (x.transfer.sender.counts kind s)) (x.transfer.sender.counts kind s) ≡ x.transfer.sender.counts kind s
  counts_at p s kind d = go (same (ordered_of message p) kind)
    where
      go : (b : Bool) → cond (b && eqb s (st p)) (suc (x.transfer.sender.counts kind s)) (x.transfer.sender.counts kind s) ≡ x.transfer.sender.counts kind s
      go true = cond-false (eqb s (st p)) (suc (x.transfer.sender.counts kind s)) (x.transfer.sender.counts kind s) (ne_eqb s (st p) (λ e. d (sym e)))
      go false = refl

  follows_by : (s : ℕ) (kind b : Bool)
      → ((cond b (suc (x.transfer.sender.counts kind s)) (x.transfer.sender.counts kind s) ≡ x.transfer.sender.counts kind s) × (cond b (suc (x.transfer.sender.following kind s)) (x.transfer.sender.following kind s) ≡ x.transfer.sender.following kind s))
      ⊎ ((cond b (suc (x.transfer.sender.counts kind s)) (x.transfer.sender.counts kind s) ≡ suc (x.transfer.sender.counts kind s)) × (cond b (suc (x.transfer.sender.following kind s)) (x.transfer.sender.following kind s) ≡ suc (x.transfer.sender.following kind s)))
  follows_by s kind true = inr (refl, refl)
  follows_by s kind false = inl (refl, refl)

  begins_next : (p : ℕ) → IsAllowed message is_interleaved x.transfer (begin p) → InEpoch message is_interleaved x (begin p) → Based message (goes message is_interleaved x (transfers (begin p)))
  begins_next p a i =
      let now = begins_now p a i in
      let n = x.transfer.sender.counts (ordered_of message p) (st p) in
      moves (begin p) a i (λ q h. refl)
      (λ q h. elim (put_true x.transfer.sender.begun p q h) [
        | inl f ↦
            let at = put_at x.transfer.sender.number p n q f in
            let c = ap (λ z. x.transfer.sender.counts (ordered_of message z) (st z)) f in
            let w = ap (λ z. x.transfer.sender.following (ordered_of message z) (st z)) f in
            inr (
              ap x.epoch f ∙ (now.0 ∙ ap (λ z. x.performed (st z)) (sym f)),
              ap x.epoch f ∙ (now.0 ∙ (sym now.1 ∙ ap (λ z. x.opened (st z)) (sym f))),
              at ∙ sym c,
              put_at x.transfer.sender.written p (x.transfer.sender.following (ordered_of message p) (st p)) q f ∙ sym w,
            )
        | inr o ↦ inl o
      ])
      (λ q h. put_off x.transfer.sender.written p (x.transfer.sender.following (ordered_of message p) (st p)) q (λ f. not_both h (ap x.transfer.sender.begun f ∙ a.0.not_begun)))
      (λ s kind. follows_by s kind (same (ordered_of message p) kind && eqb s (st p)))
      (λ s kind h. counts_at p s kind (λ e. let o = now.1 in let oe = ap x.opened e in let pe = ap x.performed e in omega (arith, h, o, oe, pe)))
      (λ f m. inl m)

  -- a point that ends at a request or begins there names fragments of one epoch
  names_now : (f : ForwardPoint) → IsAllowed message is_interleaved x.transfer (send_forward f) → InEpoch message is_interleaved x (send_forward f)
      → (kind : Bool) (s n : ℕ) → covers f.entries kind s n ≡ true → Names message x.transfer.sender x.epoch x.requests f kind s n
  names_now f a i kind s n c =
      let z = a.sound kind s n c in
      let t = z.0 in
      let w = a.within in
      let zb = z.2 in
      let h : t < count x.transfer.sender = omega (arith, w, zb) in
      record {
        at = t;
        below = z.2;
        kind_is = z.3;
        on_stream = z.4;
        above = z.5;
        named = subst (λ m. covers f.entries m s (x.transfer.sender.number (place_of x.transfer.sender t)) ≡ true) z.3
            (subst (λ m. covers f.entries (ordered_of message (place_of x.transfer.sender t)) m (x.transfer.sender.number (place_of x.transfer.sender t)) ≡ true) z.4
            (a.touched t z.1 z.2 (weighs (ordered_of message (place_of x.transfer.sender t)) kind z.3 refl is_interleaved refl)));
        ends = λ r m q g.
            elim (i r m) [
              | inl u ↦ u
              | inr u ↦
                  let lo = z.1 in
                  let v = (k.asked r m).below t h (z.4 ∙ sym q) g in
                  absurd (omega (arith, u, lo, v))
            ];
      }
    where
      weighs : (o d : Bool) → o ≡ d → kind ≡ d → (v : Bool) → is_interleaved ≡ v → (o || is_interleaved) ≡ true
      weighs o true e q v m = or_left o is_interleaved e
      weighs o false e q true m = or_right o is_interleaved m
      weighs o false e q false m = absurd (not_both (subst (λ z. covers f.entries z s n ≡ true) q c) (a.only_ordered m s n))

  written_now : (f : ForwardPoint) → IsAllowed message is_interleaved x.transfer (send_forward f) → (d : Entry) → IsAmong d f.entries → IsWritten message x.transfer.sender d
  written_now f a d m = by f.entries a.as_written m
    where
      by : (es : List Entry) → AreWritten message is_interleaved x.transfer.sender x.transfer.acknowledged f.upto es → IsAmong d es → IsWritten message x.transfer.sender d
      by [] h n = absurd n
      by (e ∷ es) h n =
          elim n [
            | inr o ↦ by es h.1 o
            | inl q ↦
                let z = h.0 in
                let w = a.within in
                let zb = z.2 in
                subst (λ (v : Entry). IsWritten message x.transfer.sender v) (sym q)
                (record {
                  place = place_of x.transfer.sender z.0;
                  begun = k.kept.outgoing.place_begun z.0 (omega (arith, w, zb));
                  kind_is = z.3;
                  on_stream = z.4;
                  number = z.5;
                  written = z.6;
                })
          ]

  sends_next : (f : ForwardPoint) → IsAllowed message is_interleaved x.transfer (send_forward f) → InEpoch message is_interleaved x (send_forward f) → Based message (goes message is_interleaved x (transfers (send_forward f)))
  sends_next f a i =
      moves (send_forward f) a i (λ p h. refl) (λ p h. inl h) (λ p h. refl) (λ s kind. inl (refl, refl)) (λ s kind h. refl)
      (λ g m. elim m [
        | inl e ↦ inr (subst (λ (z : ForwardPoint). (z.upto ≤ count x.transfer.sender) × ((kind : Bool) (s n : ℕ) → covers z.entries kind s n ≡ true → Names message x.transfer.sender x.epoch x.requests z kind s n) × ((d : Entry) → IsAmong d z.entries → IsWritten message x.transfer.sender d)) (sym e)
            (a.within, names_now f a i, written_now f a))
        | inr o ↦ inl o
      ])

  transfer_rule : (e : TransferEvent) → IsAllowed message is_interleaved x.transfer e → InEpoch message is_interleaved x e → Based message (goes message is_interleaved x (transfers e))
  transfer_rule accept a i = accepts_next a
  transfer_rule (begin p) a i = begins_next p a i
  transfer_rule (number p bytes more) a i = plain (number p bytes more) a i (λ q. refl) (λ q. refl) (λ s kind. refl) (λ q. refl) (λ s kind. refl) (λ f m. m)
  transfer_rule (end_with_placeholder p) a i = plain (end_with_placeholder p) a i (λ q. refl) (λ q. refl) (λ s kind. refl) (λ q. refl) (λ s kind. refl) (λ f m. m)
  transfer_rule (give_up p) a i = plain (give_up p) a i (λ q. refl) (λ q. refl) (λ s kind. refl) (λ q. refl) (λ s kind. refl) (λ f m. m)
  transfer_rule (data_comes t) a i = plain (data_comes t) a i (λ q. refl) (λ q. refl) (λ s kind. refl) (λ q. refl) (λ s kind. refl) (λ f m. m)
  transfer_rule (late_comes t) a i = plain (late_comes t) a i (λ q. refl) (λ q. refl) (λ s kind. refl) (λ q. refl) (λ s kind. refl) (λ f m. m)
  transfer_rule (become_ready p) a i = plain (become_ready p) a i (λ q. refl) (λ q. refl) (λ s kind. refl) (λ q. refl) (λ s kind. refl) (λ f m. m)
  transfer_rule (send_sack c) a i = plain (send_sack c) a i (λ q. refl) (λ q. refl) (λ s kind. refl) (λ q. refl) (λ s kind. refl) (λ f m. m)
  transfer_rule (acknowledge_next c) a i = plain (acknowledge_next c) a i (λ q. refl) (λ q. refl) (λ s kind. refl) (λ q. refl) (λ s kind. refl) (λ f m. m)
  transfer_rule (send_forward f) a i = sends_next f a i
  transfer_rule (forward_comes f) a i = plain (forward_comes f) a i (λ q. refl) (λ q. refl) (λ s kind. refl) (λ q. refl) (λ s kind. refl) (λ f m. m)
  transfer_rule (perform_reset s c) a i = absurd i

  -- ---- resets

  module _ (r : Request) (a : MayReset message is_interleaved x (perform r)) where
    ok : IsResettable message x.transfer.sender x.transfer.receiver r.stream r.upto
    ok = resettable message is_interleaved x k r a

    base_new : (s e : ℕ) (kind : Bool) → s ≡ r.stream → e ≡ r.epoch → rebase x r s e kind ≡ x.transfer.sender.counts kind s
    base_new s e kind p q = go (eqb s r.stream) (eq-eqb s r.stream p) (eqb e r.epoch) (eq-eqb e r.epoch q)
      where
        go : (b : Bool) → b ≡ true → (c : Bool) → c ≡ true → cond (b && c) (x.transfer.sender.counts kind s) (x.base s e kind) ≡ x.transfer.sender.counts kind s
        go true h true i = refl
        go false h c i = cc
        go true h false i = cc

    base_stream : (s e : ℕ) (kind : Bool) → (s ≡ r.stream → ⊥) → rebase x r s e kind ≡ x.base s e kind
    base_stream s e kind d = go (eqb s r.stream) (ne_eqb s r.stream d)
      where
        go : (b : Bool) → b ≡ false → cond (b && eqb e r.epoch) (x.transfer.sender.counts kind s) (x.base s e kind) ≡ x.base s e kind
        go true h = cc
        go false h = refl

    base_epoch : (s e : ℕ) (kind : Bool) → (e ≡ r.epoch → ⊥) → rebase x r s e kind ≡ x.base s e kind
    base_epoch s e kind d = go (eqb s r.stream) (eqb e r.epoch) (ne_eqb e r.epoch d)
      where
        go : (b c : Bool) → c ≡ false → cond (b && c) (x.transfer.sender.counts kind s) (x.base s e kind) ≡ x.base s e kind
        go true true h = cc
        go true false h = refl
        go false c h = refl

    abbrev z : Epochs
    z = goes message is_interleaved x (perform r)

    performed_here : (s : ℕ) → s ≡ r.stream → z.performed s ≡ r.epoch
    performed_here s e = put_at x.performed r.stream r.epoch s e

    performed_off : (s : ℕ) → (s ≡ r.stream → ⊥) → z.performed s ≡ x.performed s
    performed_off s d = put_off x.performed r.stream r.epoch s d

    -- begun messages are of no later epoch than the one before
    before : (p : ℕ) → x.transfer.sender.begun p ≡ true → st p ≡ r.stream → x.epoch p < r.epoch
    before p h e =
        let m = not_later p h in
        let n = a.1 in
        let q = ap x.performed e in
        omega (arith, m, n, q)

    old_base : (p : ℕ) → x.transfer.sender.begun p ≡ true → rebase x r (st p) (x.epoch p) (ordered_of message p) ≡ x.base (st p) (x.epoch p) (ordered_of message p)
    old_base p h =
        elim (cases_eq (st p) r.stream) [
          | inl e ↦ base_epoch (st p) (x.epoch p) (ordered_of message p) (λ q. let l = before p h e in omega (arith, q, l))
          | inr d ↦ base_stream (st p) (x.epoch p) (ordered_of message p) d
        ]

    -- the epoch that is open began before
    old_open : (s : ℕ) (kind : Bool) → rebase x r s (x.opened s) kind ≡ x.base s (x.opened s) kind
    old_open s kind =
        elim (cases_eq s r.stream) [
          | inl e ↦
              base_epoch s (x.opened s) kind (λ q.
              let c = (k.chain s).0 in
              let n = a.1 in
              let pe = ap x.performed e in
              omega (arith, q, c, n, pe))
          | inr d ↦ base_stream s (x.opened s) kind d
        ]

    earlier_at : (p d : ℕ) → x.transfer.sender.begun p ≡ true → d ≤ z.performed (st p) → x.epoch p < d → x.transfer.sender.number p < rebase x r (st p) d (ordered_of message p)
    earlier_at p d h most less =
        elim (cases_eq (st p) r.stream) [
          | inr o ↦
              let off = performed_off (st p) o in
              let old = b.earlier p d h (omega (arith, most, off)) less in
              subst (λ m. x.transfer.sender.number p < m) (sym (base_stream (st p) d (ordered_of message p) o)) old
          | inl e ↦
              elim (cases_eq d r.epoch) [
                | inl q ↦ subst (λ m. x.transfer.sender.number p < m) (sym (base_new (st p) d (ordered_of message p) e q)) (k.kept.outgoing.counted p h)
                | inr q ↦
                    let here = performed_here (st p) e in
                    let n = a.1 in
                    let pe = ap x.performed e in
                    let old = b.earlier p d h (omega (arith, most, here, n, pe, q)) less in
                    subst (λ m. x.transfer.sender.number p < m) (sym (base_epoch (st p) d (ordered_of message p) q)) old
              ]
        ]

    frozen_at : (s : ℕ) (kind : Bool) → x.opened s < z.performed s → rebase x r s (z.performed s) kind ≡ x.transfer.sender.counts kind s
    frozen_at s kind h =
        elim (cases_eq s r.stream) [
          | inl e ↦ base_new s (z.performed s) kind e (performed_here s e)
          | inr d ↦
              let off = performed_off s d in
              base_stream s (z.performed s) kind d ∙ (ap (λ m. x.base s m kind) off ∙ b.frozen s kind (omega (arith, h, off)))
        ]

    within_at : (s e : ℕ) (kind : Bool) → e ≤ z.performed s → rebase x r s e kind ≤ x.transfer.sender.counts kind s
    within_at s e kind h =
        elim (cases_eq s r.stream) [
          | inr d ↦
              let off = performed_off s d in
              let w = b.within s e kind (omega (arith, h, off)) in
              let q = base_stream s e kind d in
              omega (arith, w, q)
          | inl p ↦
              elim (cases_eq e r.epoch) [
                | inl q ↦ let n = base_new s e kind p q in omega (arith, n)
                | inr q ↦
                    let here = performed_here s p in
                    let n = a.1 in
                    let pe = ap x.performed p in
                    let w = b.within s e kind (omega (arith, h, here, n, pe, q)) in
                    let v = base_epoch s e kind q in
                    omega (arith, w, v)
              ]
        ]

    next_at : (s : ℕ) → rebase x r s (z.performed s) true ≤ x.transfer.receiver.next s
    next_at s =
        elim (cases_eq s r.stream) [
          | inl e ↦
              let n = base_new s (z.performed s) true e (performed_here s e) in
              let al = reset_aligned message is_interleaved x.transfer.sender k.kept.outgoing x.transfer.receiver k.kept.incoming r.stream r.upto ok in
              let ne = ap x.transfer.receiver.next e in
              let ce = ap (x.transfer.sender.counts true) e in
              omega (arith, n, al, ne, ce)
          | inr d ↦
              let off = ap (λ m. x.base s m true) (performed_off s d) in
              let q = base_stream s (z.performed s) true d in
              let w = b.next_from s in
              omega (arith, off, q, w)
        ]

    passed_at : (s : ℕ) → rebase x r s (z.performed s) false ≤ z.transfer.receiver.passed_below s
    passed_at s =
        elim (cases_eq s r.stream) [
          | inl e ↦
              let n = base_new s (z.performed s) false e (performed_here s e) in
              let at = put_at x.transfer.receiver.passed_below r.stream (x.transfer.sender.counts false r.stream) s e in
              let ce = ap (x.transfer.sender.counts false) e in
              omega (arith, n, at, ce)
          | inr d ↦
              let off = ap (λ m. x.base s m false) (performed_off s d) in
              let q = base_stream s (z.performed s) false d in
              let w = b.passed_from s in
              let at = put_off x.transfer.receiver.passed_below r.stream (x.transfer.sender.counts false r.stream) s d in
              omega (arith, off, q, w, at)
        ]

    held_at : (t : ℕ) → z.transfer.receiver.held t ≡ true → x.epoch (place_of x.transfer.sender t) ≡ z.performed (st (place_of x.transfer.sender t))
    held_at t h =
        let v = and_parts (x.transfer.receiver.held t) (not (eqb (st (place_of x.transfer.sender t)) r.stream)) h in
        elim (cases_eq (st (place_of x.transfer.sender t)) r.stream) [
          | inl e ↦ absurd (not_both (eq-eqb (st (place_of x.transfer.sender t)) r.stream e) (not-true (eqb (st (place_of x.transfer.sender t)) r.stream) v.1))
          | inr d ↦ b.held_now t v.0 ∙ sym (performed_off (st (place_of x.transfer.sender t)) d)
        ]

    last_at : (s : ℕ) → 0 < z.performed s → LastPerformed z s
    last_at s h =
        elim (cases_eq s r.stream) [
          | inl e ↦ record { request = r; sent = a.0; on_stream = sym e; epoch = sym (performed_here s e); all_seen = a.2 }
          | inr d ↦
              let off = performed_off s d in
              let l = b.last s (omega (arith, h, off)) in
              record { request = l.request; sent = l.sent; on_stream = l.on_stream; epoch = l.epoch ∙ sym off; all_seen = l.all_seen }
        ]

    performs : Based message z
    performs = record {
      at_first = λ s kind. let n = a.1 in base_epoch s 0 kind (λ q. omega (arith, n, q)) ∙ b.at_first s kind;
      numbered = λ p h. let w = b.numbered p h in let o = old_base p h in omega (arith, w, o);
      written = λ p h. let w = b.written p h in let o = old_base p h in omega (arith, w, o);
      following = λ s kind. let w = b.following s kind in let o = old_open s kind in omega (arith, w, o);
      entries = b.entries;
      earlier = earlier_at;
      frozen = frozen_at;
      within = within_at;
      next_from = next_at;
      passed_from = passed_at;
      held_now = held_at;
      last = last_at;
      points = b.points;
    }

  resets : (s : ℕ) → Based message (goes message is_interleaved x (reset_stream s))
  resets s = record {
    at_first = b.at_first;
    numbered = b.numbered;
    written = b.written;
    following = b.following;
    entries = b.entries;
    earlier = b.earlier;
    frozen = b.frozen;
    within = b.within;
    next_from = b.next_from;
    passed_from = b.passed_from;
    held_now = b.held_now;
    last = λ a h. let l = b.last a h in record { request = l.request; sent = l.sent; on_stream = l.on_stream; epoch = l.epoch; all_seen = l.all_seen };
    points = b.points;
  }

  requests : (s : ℕ) → Based message (goes message is_interleaved x (send_request s))
  requests s = record {
    at_first = b.at_first;
    numbered = b.numbered;
    written = b.written;
    following = b.following;
    entries = b.entries;
    earlier = b.earlier;
    frozen = b.frozen;
    within = b.within;
    next_from = b.next_from;
    passed_from = b.passed_from;
    held_now = b.held_now;
    last = λ a h. let l = b.last a h in record { request = l.request; sent = inr l.sent; on_stream = l.on_stream; epoch = l.epoch; all_seen = l.all_seen };
    points = λ f m kind a n c.
        let q = b.points f m kind a n c in
        record {
          at = q.at;
          below = q.below;
          kind_is = q.kind_is;
          on_stream = q.on_stream;
          above = q.above;
          named = q.named;
          ends = λ r w o g.
              elim w [
                | inl e ↦ subst (λ (v : Request). f.upto ≤ v.upto) (sym e) (k.kept.forwards_true f m).within
                | inr u ↦ q.ends r u o g
              ];
        };
  }

  commits : (s : ℕ) → MayReset message is_interleaved x (commit s) → Based message (goes message is_interleaved x (commit s))
  commits s a = record {
    at_first = b.at_first;
    numbered = b.numbered;
    written = b.written;
    following = λ d kind.
        elim (cases_eq d s) [
          | inl e ↦
              let zero_is = cond-true (eqb d s) 0 (x.transfer.sender.following kind d) (eq-eqb d s e) in
              let at = put_at x.opened s (x.raised s) d e in
              let re = ap x.raised e in
              let oe = ap x.opened e in
              let pe = ap x.performed e in
              let c = (k.chain d).1 in
              let a0 = a.0 in
              let a1 = a.1 in
              let z = b.frozen d kind (omega (arith, oe, pe, a0, a1)) in
              let same : put x.opened s (x.raised s) d ≡ x.performed d = omega (arith, at, re, pe, a1, c) in
              let base = ap (λ m. x.base d m kind) same in
              omega (arith, zero_is, z, base)
          | inr o ↦
              let off = put_off x.opened s (x.raised s) d o in
              let same = cond-false (eqb d s) 0 (x.transfer.sender.following kind d) (ne_eqb d s o) in
              let base = ap (λ m. x.base d m kind) off in
              let z = b.following d kind in
              omega (arith, same, base, z)
        ];
    entries = λ f m d n. let w = b.entries f m d n in record { place = w.place; begun = w.begun; kind_is = w.kind_is; on_stream = w.on_stream; number = w.number; written = w.written };
    earlier = b.earlier;
    frozen = λ d kind h.
        elim (cases_eq d s) [
          | inl e ↦
              let at = put_at x.opened s (x.raised s) d e in
              let c = (k.chain d).1 in
              let re = ap x.raised e in
              absurd (omega (arith, h, at, c, re))
          | inr o ↦ let off = put_off x.opened s (x.raised s) d o in b.frozen d kind (omega (arith, h, off))
        ];
    within = b.within;
    next_from = b.next_from;
    passed_from = b.passed_from;
    held_now = b.held_now;
    last = λ d h. let l = b.last d h in record { request = l.request; sent = l.sent; on_stream = l.on_stream; epoch = l.epoch; all_seen = l.all_seen };
    points = λ f m kind d n c.
        let q = b.points f m kind d n c in
        record { at = q.at; below = q.below; kind_is = q.kind_is; on_stream = q.on_stream; above = q.above; named = q.named; ends = q.ends };
  }

  pub keeps_based : (e : ResetEvent) → MayReset message is_interleaved x e → Based message (goes message is_interleaved x e)
  keeps_based (transfers e) a = transfer_rule e a.0 a.1
  keeps_based (reset_stream s) a = resets s
  keeps_based (send_request s) a = requests s
  keeps_based (perform r) a = performs r a
  keeps_based (commit s) a = commits s a

module _ (message : ℕ → Message) (is_interleaved : Bool) where
  pub based_at_first : Based message first_epoch
  based_at_first = record {
    at_first = λ s kind. refl;
    numbered = λ p h. cc;
    written = λ p h. cc;
    following = λ s kind. refl;
    entries = λ f m. absurd m;
    earlier = λ p e h. cc;
    frozen = λ s kind h. absurd (omega (arith, h));
    within = λ s e kind h. omega arith;
    next_from = λ s. omega arith;
    passed_from = λ s. omega arith;
    held_now = λ t h. cc;
    last = λ s h. absurd (omega (arith, h));
    points = λ f m. absurd m;
  }

  pub epochs_at_first : InEpochs message is_interleaved first_epoch
  epochs_at_first = record { order = order_at_first message is_interleaved; based = based_at_first }

  pub keeps_epochs : (x : Epochs) → InEpochs message is_interleaved x → (e : ResetEvent) → MayReset message is_interleaved x e → InEpochs message is_interleaved (goes message is_interleaved x e)
  keeps_epochs x k e a = record { order = keeps_order message is_interleaved x k.order e a; based = keeps_based message is_interleaved x k.order k.based e a }

  pub all_in_epochs : (es : List ResetEvent) (x : Epochs) → InEpochs message is_interleaved x → MayAll message is_interleaved x es → InEpochs message is_interleaved (go_all message is_interleaved x es)
  all_in_epochs [] x k h = k
  all_in_epochs (e ∷ es) x k h = all_in_epochs es (goes message is_interleaved x e) (keeps_epochs x k e h.0) h.1

  -- the answer has come: the sender's numbers begin again
  pub commit_again : (x : Epochs) → InEpochs message is_interleaved x → (s : ℕ) (kind : Bool) → x.raised s ≡ suc (x.opened s) → MayReset message is_interleaved x (commit s)
      → x.base s ((goes message is_interleaved x (commit s)).opened s) kind ≡ x.transfer.sender.counts kind s
  commit_again x k s kind w a =
      let c = (k.order.chain s).1 in
      let a1 = a.1 in
      let at = put_at x.opened s (x.raised s) s refl in
      let e : (goes message is_interleaved x (commit s)).opened s ≡ x.performed s = omega (arith, at, a1, c) in
      ap (λ z. x.base s z kind) e ∙ k.based.frozen s kind (omega (arith, w, a1))
