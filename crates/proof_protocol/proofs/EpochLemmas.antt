-- Each message becomes ready in its epoch.
use Rattle.std.proofs.Common.{◌≡◌, ℕ, suc, ◌<◌, ◌≤◌, Bool, true, false, ◌⊎◌, inl, inr, List, [], ◌∷◌, refl, sym, ap, ◌∙◌, subst, arith}
use Rattle.std.proofs.lemmas.Bool.{cases_lt, cases_eq}
use Rattle.proof_protocol.specs.State.{Message, IsAmong, put, count, place_of, stream_of}
use Rattle.proof_protocol.specs.Rules.{TransferEvent, accept, begin, number, end_with_placeholder, give_up, data_comes, late_comes, become_ready, send_sack, acknowledge_next, send_forward, forward_comes, perform_reset, IsSettled, IsResettable, IsAllowed, after}
use Rattle.proof_protocol.specs.Resets.{Request, Epochs, ResetEvent, transfers, reset_stream, send_request, perform, commit, first_epoch, InEpoch, MayReset, restarts, goes, MayAll, go_all, RequestTrue, EpochInvariant, EachInItsEpoch}
use Rattle.proof_protocol.proofs.ToolsLemmas.{put_at, put_off, put_true, not_both}
use Rattle.proof_protocol.proofs.RulesKeepLemmas.{keeps, at_start}
use Rattle.proof_protocol.proofs.BeginLemmas.{unsettled}
use Rattle.proof_protocol.proofs.StepLemmas.{later, settled_stays, dropped_stays}
use Rattle.proof_protocol.proofs.ForgetLemmas.{none_held}
use Rattle.proof_protocol.proofs.RestartLemmas.{restarts_kept}

module _ (message : ℕ → Message) (is_interleaved : Bool) (x : Epochs) (k : EpochInvariant message is_interleaved x) where
  abbrev st : ℕ → ℕ
  st p = stream_of message p

  -- a rule of the transfer, where new places and newly begun messages keep the order
  module _ (e : TransferEvent) (a : IsAllowed message is_interleaved x.transfer e) (epoch : ℕ → ℕ)
      (grows : x.transfer.sender.accepted ≤ (after message is_interleaved x.transfer e).sender.accepted)
      (same : (p : ℕ) → p < x.transfer.sender.accepted → epoch p ≡ x.epoch p)
      (new : (p : ℕ) → p < (after message is_interleaved x.transfer e).sender.accepted → (p < x.transfer.sender.accepted) ⊎ (epoch p ≡ x.raised (st p)))
      (begins : (p : ℕ) → (after message is_interleaved x.transfer e).sender.begun p ≡ true
      → (x.transfer.sender.begun p ≡ true) ⊎ ((epoch p ≤ x.opened (st p)) × (p < x.transfer.sender.accepted) × (IsSettled x.transfer.sender p → ⊥))) where
    abbrev y : Epochs
    y = record x { transfer = after message is_interleaved x.transfer e; epoch = epoch }

    l : (t : ℕ) → t < count x.transfer.sender → place_of y.transfer.sender t ≡ place_of x.transfer.sender t
    l t h = ap (λ z. z.place) ((later message is_interleaved x.transfer k.kept e a).same_fragment t h)

    accepted_at : (t : ℕ) → t < count x.transfer.sender → place_of x.transfer.sender t < x.transfer.sender.accepted
    accepted_at t h = k.kept.outgoing.begun_below (place_of x.transfer.sender t) (k.kept.outgoing.place_begun t h)

    asked : (r : Request) → IsAmong r x.requests → RequestTrue message is_interleaved y r
    asked r m =
        let old = k.asked r m in
        record {
          begins = old.begins;
          settled = λ p h s b.
              elim (new p h) [
                | inl i ↦ settled_stays message is_interleaved x.transfer k.kept e a p (old.settled p i s (subst (λ z. z < r.epoch) (same p i) b))
                | inr n ↦ let o = old.begins in let ns = n ∙ ap x.raised s in absurd (omega (arith, b, ns, o))
              ];
          below = λ t h s b.
              elim (cases_lt t (count x.transfer.sender)) [
                | inl i ↦
                    let e2 = l t i in
                    let b2 = subst (λ z. epoch z < r.epoch) e2 b in
                    let b3 = subst (λ z. z < r.epoch) (same (place_of x.transfer.sender t) (accepted_at t i)) b2 in
                    old.below t i (sym (ap st e2) ∙ s) b3
                | inr g ↦
                    let p = place_of y.transfer.sender t in
                    let partly = (later message is_interleaved x.transfer k.kept e a).new_part t g h in
                    let i = k.kept.outgoing.begun_below p (k.kept.outgoing.partly_begun p partly) in
                    absurd (not_both partly (old.settled p i s (subst (λ z. z < r.epoch) (same p i) b)).not_partly)
              ];
        }

    pub moves : EpochInvariant message is_interleaved y
    moves = record {
      kept = keeps message is_interleaved x.transfer k.kept e a;
      chain = k.chain;
      placed = λ p h.
          elim (new p h) [
            | inl i ↦ subst (λ z. z ≤ x.raised (st p)) (sym (same p i)) (k.placed p i)
            | inr n ↦ omega (arith, n)
          ];
      begun = λ p b.
          elim (begins p b) [
            | inl o ↦ subst (λ z. z ≤ x.opened (st p)) (sym (same p (k.kept.outgoing.begun_below p o))) (k.begun p o)
            | inr n ↦ n.0
          ];
      asked = asked;
      settled = λ p h b.
          elim (new p h) [
            | inl i ↦ settled_stays message is_interleaved x.transfer k.kept e a p (k.settled p i (subst (λ z. z < x.performed (st p)) (same p i) b))
            | inr n ↦ let c = (k.chain (st p)).1 in absurd (omega (arith, b, n, c))
          ];
      over = λ p b h.
          elim (begins p b) [
            | inl o ↦
                let z = k.over p o (subst (λ w. w < x.performed (st p)) (same p (k.kept.outgoing.begun_below p o)) h) in
                let d = dropped_stays message is_interleaved x.transfer k.kept e a z.0 z.3 z.4 in
                let c = (later message is_interleaved x.transfer k.kept e a).count_grows in
                let i = z.1 in
                (z.0, omega (arith, c, i), l z.0 z.1 ∙ z.2, d.0, d.1)
            | inr n ↦ absurd (n.2 (k.settled p n.1 (subst (λ w. w < x.performed (st p)) (same p n.1) h)))
          ];
    }

  -- a rule that accepts nothing and begins nothing
  plain : (e : TransferEvent) (a : IsAllowed message is_interleaved x.transfer e) → (after message is_interleaved x.transfer e).sender.accepted ≡ x.transfer.sender.accepted
      → ((p : ℕ) → (after message is_interleaved x.transfer e).sender.begun p ≡ x.transfer.sender.begun p)
      → EpochInvariant message is_interleaved (record x { transfer = after message is_interleaved x.transfer e })
  plain e a n b =
      moves e a x.epoch (omega (arith, n)) (λ p h. refl) (λ p h. inl (subst (λ z. p < z) n h)) (λ p h. inl (sym (b p) ∙ h))

  transfer_rule : (e : TransferEvent) → IsAllowed message is_interleaved x.transfer e → InEpoch message is_interleaved x e → EpochInvariant message is_interleaved (goes message is_interleaved x (transfers e))
  transfer_rule accept a i =
      let n = x.transfer.sender.accepted in
      moves accept a (put x.epoch n (x.raised (st n))) (omega arith)
      (λ p h. put_off x.epoch n (x.raised (st n)) p (omega (arith, h)))
      (λ p h. elim (cases_eq p n) [
        | inl q ↦ inr (put_at x.epoch n (x.raised (st n)) p q ∙ ap (λ z. x.raised (st z)) (sym q))
        | inr d ↦ inl (omega (arith, h, d))
      ])
      (λ p b. inl b)
  transfer_rule (begin p) a i =
      moves (begin p) a x.epoch (omega arith) (λ q h. refl) (λ q h. inl h)
      (λ q b. elim (put_true x.transfer.sender.begun p q b) [
        | inl f ↦ inr (subst (λ z. (x.epoch z ≤ x.opened (st z)) × (z < x.transfer.sender.accepted) × (IsSettled x.transfer.sender z → ⊥)) (sym f)
            (i, a.0.below, unsettled message is_interleaved x.transfer.sender k.kept.outgoing p a.0 a.1))
        | inr o ↦ inl o
      ])
  transfer_rule (number p bytes more) a i = plain (number p bytes more) a refl (λ q. refl)
  transfer_rule (end_with_placeholder p) a i = plain (end_with_placeholder p) a refl (λ q. refl)
  transfer_rule (give_up p) a i = plain (give_up p) a refl (λ q. refl)
  transfer_rule (data_comes t) a i = plain (data_comes t) a refl (λ q. refl)
  transfer_rule (late_comes t) a i = plain (late_comes t) a refl (λ q. refl)
  transfer_rule (become_ready p) a i = plain (become_ready p) a refl (λ q. refl)
  transfer_rule (send_sack c) a i = plain (send_sack c) a refl (λ q. refl)
  transfer_rule (acknowledge_next c) a i = plain (acknowledge_next c) a refl (λ q. refl)
  transfer_rule (send_forward f) a i = plain (send_forward f) a refl (λ q. refl)
  transfer_rule (forward_comes f) a i = plain (forward_comes f) a refl (λ q. refl)
  transfer_rule (perform_reset s c) a i = absurd i

  -- all that the receiver's side of a reset asks
  pub resettable : (r : Request) → MayReset message is_interleaved x (perform r) → IsResettable message x.transfer.sender x.transfer.receiver r.stream r.upto
  resettable r a =
      let asked = k.asked r a.0 in
      let next = a.1 in
      let old : ((p : ℕ) → x.transfer.sender.begun p ≡ true → st p ≡ r.stream → x.epoch p < r.epoch) =
      (λ p b s. let c = (k.chain r.stream).0 in let h = subst (λ z. x.epoch p ≤ x.opened z) s (k.begun p b) in omega (arith, c, h, next)) in
      record {
        all_seen = a.2;
        none_ripe = a.3;
        all_below = λ t h s. asked.below t h s (old (place_of x.transfer.sender t) (k.kept.outgoing.place_begun t h) s);
        none_partly = λ p s. none p s (x.transfer.sender.partly p) refl;
      }
    where
      none : (p : ℕ) → st p ≡ r.stream → (b : Bool) → x.transfer.sender.partly p ≡ b → x.transfer.sender.partly p ≡ false
      none p s false e = e
      none p s true e =
          let b = k.kept.outgoing.partly_begun p e in
          let c = (k.chain r.stream).0 in
          let next = a.1 in
          let h = subst (λ z. x.epoch p ≤ x.opened z) s (k.begun p b) in
          absurd (not_both e ((k.asked r a.0).settled p (k.kept.outgoing.begun_below p b) s (omega (arith, c, h, next))).not_partly)

  performs : (r : Request) → MayReset message is_interleaved x (perform r) → EpochInvariant message is_interleaved (goes message is_interleaved x (perform r))
  performs r a =
      let ok = resettable r a in
      let z = plain (perform_reset r.stream r.upto) ok refl (λ q. refl) in
      let next = a.1 in
      record {
        kept = z.kept;
        chain = λ s.
            elim (cases_eq s r.stream) [
              | inl e ↦
                  let c = k.chain s in
                  let c0 = c.0 in
                  let c1 = c.2 in
                  let at = put_at x.performed r.stream r.epoch s e in
                  let b = (k.asked r a.0).begins in
                  let be = ap x.raised e in
                  let pe = ap x.performed e in
                  (omega (arith, c0, at, next, pe), omega (arith, at, b, be), c1)
              | inr d ↦
                  let off = put_off x.performed r.stream r.epoch s d in
                  let c = k.chain s in
                  let c0 = c.0 in
                  let c1 = c.1 in
                  (omega (arith, off, c0), omega (arith, off, c1), c.2)
            ];
        placed = k.placed;
        begun = k.begun;
        asked = λ q m. let y = k.asked q m in record { begins = y.begins; settled = y.settled; below = y.below };
        settled = λ p h b.
            elim (cases_eq (st p) r.stream) [
              | inl e ↦ (k.asked r a.0).settled p h e (subst (λ w. x.epoch p < w) (put_at x.performed r.stream r.epoch (st p) e) b)
              | inr d ↦ k.settled p h (subst (λ w. x.epoch p < w) (put_off x.performed r.stream r.epoch (st p) d) b)
            ];
        over = λ p b h.
            elim (cases_eq (st p) r.stream) [
              | inl e ↦
                  let u = k.kept.outgoing.ended p b (ok.none_partly p e) in
                  let s = ap st u.2 ∙ e in (
                    u.0,
                    u.1,
                    u.2,
                    a.2 u.0 (ok.all_below u.0 u.1 s),
                    none_held message is_interleaved x.transfer.sender k.kept.outgoing x.transfer.receiver k.kept.incoming r.stream r.upto ok u.0 s,
                  )
              | inr d ↦ z.over p b (subst (λ w. x.epoch p < w) (put_off x.performed r.stream r.epoch (st p) d) h)
            ];
      }

  resets : (s : ℕ) → MayReset message is_interleaved x (reset_stream s) → EpochInvariant message is_interleaved (goes message is_interleaved x (reset_stream s))
  resets s a =
      let up : ((b : ℕ) → x.raised b ≤ put x.raised s (suc (x.raised s)) b) =
      (λ b. elim (cases_eq b s) [
        | inl e ↦ let at = put_at x.raised s (suc (x.raised s)) b e in let q = ap x.raised e in omega (arith, at, q)
        | inr d ↦ let off = put_off x.raised s (suc (x.raised s)) b d in omega (arith, off)
      ]) in
      record {
        kept = k.kept;
        chain = λ b.
            let c = k.chain b in
            let c1 = c.1 in
            let c2 = c.2 in
            let u = up b in (
              c.0,
              omega (arith, c1, u),
              elim (cases_eq b s) [
                | inl e ↦
                    let at = put_at x.raised s (suc (x.raised s)) b e in
                    let q = ap x.opened e in
                    omega (arith, at, a, q)
                | inr d ↦ let off = put_off x.raised s (suc (x.raised s)) b d in omega (arith, off, c2)
              ],
            );
        placed = λ p h. let i = k.placed p h in let u = up (st p) in omega (arith, i, u);
        begun = k.begun;
        asked = λ r m. let y = k.asked r m in record { begins = let i = y.begins in let u = up r.stream in omega (arith, i, u); settled = y.settled; below = y.below };
        settled = k.settled;
        over = k.over;
      }

  requests : (s : ℕ) → MayReset message is_interleaved x (send_request s) → EpochInvariant message is_interleaved (goes message is_interleaved x (send_request s))
  requests s a = record {
    kept = k.kept;
    chain = k.chain;
    placed = k.placed;
    begun = k.begun;
    asked = λ r m.
        elim m [
          | inl e ↦ subst (λ z. RequestTrue message is_interleaved (goes message is_interleaved x (send_request s)) z) (sym e)
              (record { begins = omega arith; settled = a.1; below = λ t h q b. h })
          | inr o ↦ let y = k.asked r o in record { begins = y.begins; settled = y.settled; below = y.below }
        ];
    settled = k.settled;
    over = k.over;
  }

  commits : (s : ℕ) → MayReset message is_interleaved x (commit s) → EpochInvariant message is_interleaved (goes message is_interleaved x (commit s))
  commits s a = record {
    kept = restarts_kept message is_interleaved x.transfer k.kept s;
    chain = λ b.
        let c = k.chain b in
        let c0 = c.0 in
        let c1 = c.1 in
        let c2 = c.2 in
        elim (cases_eq b s) [
          | inl e ↦
              let at = put_at x.opened s (x.raised s) b e in
              let p = ap x.performed e in
              let q = ap x.raised e in
              let a1 = a.1 in
              (omega (arith, at, a1, p), c1, omega (arith, at, q))
          | inr d ↦ let off = put_off x.opened s (x.raised s) b d in (omega (arith, off, c0), c1, omega (arith, off, c2))
        ];
    placed = k.placed;
    begun = λ p b.
        elim (cases_eq (st p) s) [
          | inl e ↦
              let at = put_at x.opened s (x.raised s) (st p) e in
              let i = k.placed p (k.kept.outgoing.begun_below p b) in
              let q = ap x.raised e in
              omega (arith, at, i, q)
          | inr d ↦ let off = put_off x.opened s (x.raised s) (st p) d in let i = k.begun p b in omega (arith, off, i)
        ];
    asked = λ r m. let y = k.asked r m in record { begins = y.begins; settled = λ p h q b. again p (y.settled p h q b); below = y.below };
    settled = λ p h b. again p (k.settled p h b);
    over = k.over;
  }
    where
      again : (p : ℕ) → IsSettled x.transfer.sender p → IsSettled (restarts x.transfer.sender s) p
      again p y = record { not_partly = y.not_partly; begun_or_given_up = y.begun_or_given_up }

  pub keeps_order : (e : ResetEvent) → MayReset message is_interleaved x e → EpochInvariant message is_interleaved (goes message is_interleaved x e)
  keeps_order (transfers e) a = transfer_rule e a.0 a.1
  keeps_order (reset_stream s) a = resets s a
  keeps_order (send_request s) a = requests s a
  keeps_order (perform r) a = performs r a
  keeps_order (commit s) a = commits s a

  pub in_its_epoch : EachInItsEpoch message is_interleaved x
  in_its_epoch p ripe =
      let u = ripe.complete.ended in
      let b = sym (ap x.transfer.sender.begun u.2) ∙ k.kept.outgoing.place_begun u.0 u.1 in
      let i = k.begun p b in
      let c = (k.chain (st p)).0 in
      elim (cases_lt (x.epoch p) (x.performed (st p))) [
        | inr g ↦ omega (arith, i, c, g)
        | inl h ↦
            let z = k.over p b h in
            absurd (not_both (ripe.complete.all_held z.0 z.1 z.2) z.4)
      ]

module _ (message : ℕ → Message) (is_interleaved : Bool) where
  pub order_at_first : EpochInvariant message is_interleaved first_epoch
  order_at_first = record {
    kept = at_start message is_interleaved;
    chain = λ s. (omega arith, omega arith, omega arith);
    placed = λ p h. omega arith;
    begun = λ p b. cc;
    asked = λ r m. absurd m;
    settled = λ p h b. absurd (omega (arith, b));
    over = λ p b h. absurd (omega (arith, h));
  }

  pub all_in_order : (es : List ResetEvent) (x : Epochs) → EpochInvariant message is_interleaved x → MayAll message is_interleaved x es → EpochInvariant message is_interleaved (go_all message is_interleaved x es)
  all_in_order [] x k h = k
  all_in_order (e ∷ es) x k h = all_in_order es (goes message is_interleaved x e) (keeps_order message is_interleaved x k e h.0) h.1
