-- The rows of the send queue are sequences of the rules.
use Rattle.std.proofs.Common.{◌≡◌, ◌≢◌, ℕ, suc, ◌<◌, Bool, true, false, not, cond, inl, inr, Option, Some, None, List, [], ◌∷◌, ◌++◌, length, get_or, refl, sym, ap, ◌∙◌, subst, arith, eqb, append_assoc}
use Rattle.std.proofs.lemmas.Bool.{cases_eq, cond-false, ne_eqb, false_from_ne_true}
use Rattle.proof_protocol.specs.State.{Message, Fragment, Sender, blank, place_of, gather, is_empty, put, stream_of}
use Rattle.proof_protocol.specs.Rules.{Waits, IsSettled, accepts, begins, numbers, gives_up, part, placeholder_of}
use Rattle.proof_protocol.specs.Sending.{Waiting, Queued}
use Rattle.proof_protocol.specs.Invariant.{Outgoing}
use Rattle.proof_protocol.proofs.ToolsLemmas.{put_at, put_off, put_keeps, not_both, gathered_push, gathered_off}
use Rattle.proof_protocol.proofs.CommonLemmas.{none_some}

-- no fragment of the message, nothing gathered
gathered_none : (p : ℕ) (fs : List Fragment) → ((t : ℕ) → t < length fs → (get_or fs t blank).place ≢ p) → gather p fs ≡ []
gathered_none p [] h = refl
gathered_none p (f ∷ fs) h =
    let d = h 0 (omega arith) in
    cond-false (eqb f.place p) (f.payload ++ gather p fs) (gather p fs) (ne_eqb f.place p d) ∙ gathered_none p fs (λ t l. h (suc t) (omega (arith, l)))

module _ (message : ℕ → Message) (is_interleaved : Bool) (o : Sender) (out : Outgoing message o) (queue : ℕ → Option Waiting) (q : Queued message o queue) where
  -- a message is accepted
  pub queued_accept : Queued message (accepts o) (put queue o.accepted (Some (record { begun = false; rest = (message o.accepted).payload })))
  queued_accept =
      let w0 : Waiting = record { begun = false; rest = (message o.accepted).payload } in
      record {
        dequeued = λ p h e.
            elim (cases_eq p o.accepted) [
              | inl s ↦ absurd (none_some (put queue o.accepted (Some w0) p) w0 (put_at queue o.accepted (Some w0) p s) e)
              | inr d ↦
                  let x = q.dequeued p (omega (arith, h, d)) (sym (put_off queue o.accepted (Some w0) p d) ∙ e) in
                  record { not_partly = x.not_partly; begun_or_given_up = x.begun_or_given_up }
            ];
        waits = λ p w e b.
            elim (cases_eq p o.accepted) [
              | inl s ↦ record {
                below = omega (arith, s);
                not_begun = false_from_ne_true (o.begun p) (λ h. let a = out.begun_below p h in omega (arith, a, s));
                not_given_up = false_from_ne_true (o.given_up p) (λ h. let a = out.given_up_below p h in omega (arith, a, s));
              }
              | inr d ↦
                  let x = q.waits p w (sym (put_off queue o.accepted (Some w0) p d) ∙ e) b in
                  let l = x.below in
                  record { below = omega (arith, l); not_begun = x.not_begun; not_given_up = x.not_given_up }
            ];
        partly = λ p w e b.
            elim (cases_eq p o.accepted) [
              | inl s ↦
                  let c : w0 ≡ w = (let a = put_at queue o.accepted (Some w0) p s in cc) in
                  absurd (not_both b (ap (λ z. z.begun) (sym c)))
              | inr d ↦ q.partly p w (sym (put_off queue o.accepted (Some w0) p d) ∙ e) b
            ];
        rest = λ p w e.
            elim (cases_eq p o.accepted) [
              | inl s ↦
                  let c : w0 ≡ w = (let a = put_at queue o.accepted (Some w0) p s in cc) in
                  let n = gathered_none p o.numbered (λ t h f. let a = out.begun_below (place_of o t) (out.place_begun t h) in omega (arith, a, f, s)) in
                  ap (λ z. z ++ w.rest) n ∙ (ap (λ z. z.rest) (sym c) ∙ ap (λ z. (message z).payload) (sym s))
              | inr d ↦ q.rest p w (sym (put_off queue o.accepted (Some w0) p d) ∙ e)
            ];
      }

  -- what may begin: a message that waits, the first of its stream in the queue
  pub may_begin : (p : ℕ) (w : Waiting) → queue p ≡ Some w → w.begun ≡ false → ((a : ℕ) → a < p → stream_of message a ≡ stream_of message p → queue a ≡ None)
      → (is_interleaved ≡ false → (a : ℕ) (v : Waiting) → queue a ≡ Some v → v.begun ≡ false)
      → Waits o p × ((a : ℕ) → a < p → stream_of message a ≡ stream_of message p → IsSettled o a) × (is_interleaved ≡ false → (a : ℕ) → o.partly a ≡ false)
  may_begin p w e b first none =
      let x = q.waits p w e b in
      let l = x.below in (
        x,
        (λ a h s. q.dequeued a (omega (arith, h, l)) (first a h s)),
        (λ m a. false_from_ne_true (o.partly a) (λ y.
            let ha = out.begun_below a (out.partly_begun a y) in
            by_entry a (queue a) refl ha y m)),
      )
    where
      by_entry : (a : ℕ) (c : Option Waiting) → queue a ≡ c → a < o.accepted → o.partly a ≡ true → is_interleaved ≡ false → ⊥
      by_entry a None f ha y m = not_both y (q.dequeued a ha f).not_partly
      by_entry a (Some v) f ha y m = not_both (out.partly_begun a y) (q.waits a v f (none m a v f)).not_begun

  pub queued_begin : (p : ℕ) (w : Waiting) → queue p ≡ Some w → w.begun ≡ false → Queued message (begins message o p) (put queue p (Some (record { begun = true; rest = w.rest })))
  queued_begin p w e b =
      let w1 : Waiting = record { begun = true; rest = w.rest } in
      let new = begins message o p in
      let off : ((a : ℕ) → a ≢ p → put queue p (Some w1) a ≡ queue a) = (λ a d. put_off queue p (Some w1) a d) in
      let here : ((a : ℕ) (v : Waiting) → a ≡ p → put queue p (Some w1) a ≡ Some v → w1 ≡ v) = (λ a v s f. let c = put_at queue p (Some w1) a s in cc) in
      record {
        dequeued = λ a h f.
            elim (cases_eq a p) [
              | inl s ↦ absurd (none_some (put queue p (Some w1) a) w1 (put_at queue p (Some w1) a s) f)
              | inr d ↦
                  let x = q.dequeued a h (sym (off a d) ∙ f) in
                  record { not_partly = put_off o.partly p true a d ∙ x.not_partly; begun_or_given_up = elim x.begun_or_given_up [ inl y ↦ inl (put_keeps o.begun p a y) | inr g ↦ inr g ] }
            ];
        waits = λ a v f n.
            elim (cases_eq a p) [
              | inl s ↦ absurd (not_both (sym (ap (λ z. z.begun) (here a v s f))) n)
              | inr d ↦
                  let x = q.waits a v (sym (off a d) ∙ f) n in
                  record { below = x.below; not_begun = put_off o.begun p true a d ∙ x.not_begun; not_given_up = x.not_given_up }
            ];
        partly = λ a v f n.
            elim (cases_eq a p) [
              | inl s ↦ put_at o.partly p true a s
              | inr d ↦ put_keeps o.partly p a (q.partly a v (sym (off a d) ∙ f) n)
            ];
        rest = λ a v f.
            elim (cases_eq a p) [
              | inl s ↦
                  let c = here a v s f in
                  let r = subst (λ z. gather z o.numbered ++ w.rest ≡ (message z).payload) (sym s) (q.rest p w e) in
                  ap (λ z. gather a o.numbered ++ z.rest) (sym c) ∙ r
              | inr d ↦ q.rest a v (sym (off a d) ∙ f)
            ];
      }

  -- the next fragment of what is partly sent: its bytes are the next ones
  pub queued_number : (p : ℕ) (w : Waiting) (bytes more : List ℕ) → queue p ≡ Some w → w.begun ≡ true → w.rest ≡ bytes ++ more
      → Queued message (numbers o (part o p bytes more)) (put queue p (cond (is_empty more) None (Some (record { begun = true; rest = more }))))
  queued_number p w bytes more e b r =
      let w1 : Waiting = record { begun = true; rest = more } in
      let entry = cond (is_empty more) None (Some w1) in
      let f = part o p bytes more in
      let new = numbers o f in
      let off : ((a : ℕ) → a ≢ p → put queue p entry a ≡ queue a) = (λ a d. put_off queue p entry a d) in
      let begun = out.partly_begun p (q.partly p w e b) in
      let some : ((a : ℕ) (v : Waiting) → a ≡ p → put queue p entry a ≡ Some v → (is_empty more ≡ false) × (w1 ≡ v)) =
      (λ a v s g. left_some (is_empty more) w1 v (sym (put_at queue p entry a s) ∙ g)) in
      record {
        dequeued = λ a h g.
            elim (cases_eq a p) [
              | inl s ↦
                  let c = left_none (is_empty more) w1 (sym (put_at queue p entry a s) ∙ g) in
                  record { not_partly = put_at o.partly p (not (is_empty more)) a s ∙ ap not c; begun_or_given_up = inl (ap o.begun s ∙ begun) }
              | inr d ↦
                  let x = q.dequeued a h (sym (off a d) ∙ g) in
                  record { not_partly = put_off o.partly p (not (is_empty more)) a d ∙ x.not_partly; begun_or_given_up = x.begun_or_given_up }
            ];
        waits = λ a v g n.
            elim (cases_eq a p) [
              | inl s ↦ let c = (some a v s g).1 in absurd (not_both (sym (ap (λ z. z.begun) c)) n)
              | inr d ↦ let x = q.waits a v (sym (off a d) ∙ g) n in record { below = x.below; not_begun = x.not_begun; not_given_up = x.not_given_up }
            ];
        partly = λ a v g n.
            elim (cases_eq a p) [
              | inl s ↦ put_at o.partly p (not (is_empty more)) a s ∙ ap not (some a v s g).0
              | inr d ↦ put_off o.partly p (not (is_empty more)) a d ∙ q.partly a v (sym (off a d) ∙ g) n
            ];
        rest = λ a v g.
            elim (cases_eq a p) [
              | inl s ↦
                  let c = (some a v s g).1 in
                  let old = q.rest p w e in
                  let step : gather p new.numbered ++ more ≡ (message p).payload =
                  ap (λ z. z ++ more) (gathered_push p o.numbered f refl) ∙ (append_assoc (gather p o.numbered) bytes more ∙ (ap (λ z. gather p o.numbered ++ z) (sym r) ∙ old)) in
                  ap (λ z. gather a new.numbered ++ z.rest) (sym c) ∙ subst (λ z. gather z new.numbered ++ more ≡ (message z).payload) (sym s) step
              | inr d ↦
                  let n : p ≢ a = λ s. d (sym s) in
                  ap (λ z. z ++ v.rest) (gathered_off a o.numbered f n) ∙ q.rest a v (sym (off a d) ∙ g)
            ];
      }
    where
      left_some : (t : Bool) (w1 v : Waiting) → cond t None (Some w1) ≡ Some v → (t ≡ false) × (w1 ≡ v)
      left_some true w1 v h = cc
      left_some false w1 v h = (refl, cc)

      left_none : (t : Bool) (w1 : Waiting) → cond t None (Some w1) ≡ None → t ≡ true
      left_none true w1 h = refl
      left_none false w1 h = cc

  -- what the rule of the fragment asks
  pub may_number : (p : ℕ) (w : Waiting) (bytes more : List ℕ) → queue p ≡ Some w → w.begun ≡ true → w.rest ≡ bytes ++ more
      → (o.partly p ≡ true) × (gather p o.numbered ++ (bytes ++ more) ≡ (message p).payload)
  may_number p w bytes more e b r = (q.partly p w e b, ap (λ z. gather p o.numbered ++ z) (sym r) ∙ q.rest p w e)

  -- a message that waits is dropped
  pub queued_drop : (p : ℕ) (w : Waiting) → queue p ≡ Some w → w.begun ≡ false → Queued message (gives_up o p) (put queue p None)
  queued_drop p w e b =
      let off : ((a : ℕ) → a ≢ p → put queue p None a ≡ queue a) = (λ a d. put_off queue p None a d) in
      let never : ((a : ℕ) (v : Waiting) → put queue p None a ≡ Some v → a ≢ p) = (λ a v g s. none_some (put queue p None a) v g (put_at queue p None a s)) in
      let x = q.waits p w e b in
      record {
        dequeued = λ a h g.
            elim (cases_eq a p) [
              | inl s ↦ record {
                not_partly = false_from_ne_true (o.partly a) (λ y. not_both (sym (ap o.begun s) ∙ out.partly_begun a y) x.not_begun);
                begun_or_given_up = inr (put_at o.given_up p true a s);
              }
              | inr d ↦
                  let y = q.dequeued a h (sym (off a d) ∙ g) in
                  record { not_partly = y.not_partly; begun_or_given_up = elim y.begun_or_given_up [ inl z ↦ inl z | inr z ↦ inr (put_keeps o.given_up p a z) ] }
            ];
        waits = λ a v g n.
            let d = never a v g in
            let y = q.waits a v (sym (off a d) ∙ g) n in
            record { below = y.below; not_begun = y.not_begun; not_given_up = put_off o.given_up p true a d ∙ y.not_given_up };
        partly = λ a v g n. q.partly a v (sym (off a (never a v g)) ∙ g) n;
        rest = λ a v g. q.rest a v (sym (off a (never a v g)) ∙ g);
      }

  -- what was given up while partly sent has a placeholder end, and the rest leaves the queue
  pub queued_close : (p : ℕ) (w : Waiting) → queue p ≡ Some w → w.begun ≡ true → Queued message (gives_up (numbers o (placeholder_of o p)) p) (put queue p None)
  queued_close p w e b =
      let off : ((a : ℕ) → a ≢ p → put queue p None a ≡ queue a) = (λ a d. put_off queue p None a d) in
      let never : ((a : ℕ) (v : Waiting) → put queue p None a ≡ Some v → a ≢ p) = (λ a v g s. none_some (put queue p None a) v g (put_at queue p None a s)) in
      let begun = out.partly_begun p (q.partly p w e b) in
      record {
        dequeued = λ a h g.
            elim (cases_eq a p) [
              | inl s ↦ record { not_partly = put_at o.partly p false a s; begun_or_given_up = inr (put_at o.given_up p true a s) }
              | inr d ↦
                  let y = q.dequeued a h (sym (off a d) ∙ g) in
                  record { not_partly = put_off o.partly p false a d ∙ y.not_partly; begun_or_given_up = elim y.begun_or_given_up [ inl z ↦ inl z | inr z ↦ inr (put_keeps o.given_up p a z) ] }
            ];
        waits = λ a v g n.
            let d = never a v g in
            let y = q.waits a v (sym (off a d) ∙ g) n in
            record { below = y.below; not_begun = y.not_begun; not_given_up = put_off o.given_up p true a d ∙ y.not_given_up };
        partly = λ a v g n. let d = never a v g in put_off o.partly p false a d ∙ q.partly a v (sym (off a d) ∙ g) n;
        rest = λ a v g.
            let d = never a v g in
            let m : p ≢ a = λ s. d (sym s) in
            ap (λ z. z ++ v.rest) (gathered_off a o.numbered (placeholder_of o p) m) ∙ q.rest a v (sym (off a d) ∙ g);
      }

  -- a message that is fully numbered is given up
  pub queued_give : (p : ℕ) → queue p ≡ None → Queued message (gives_up o p) queue
  queued_give p e = record {
    dequeued = λ a h g. let y = q.dequeued a h g in record { not_partly = y.not_partly; begun_or_given_up = elim y.begun_or_given_up [ inl z ↦ inl z | inr z ↦ inr (put_keeps o.given_up p a z) ] };
    waits = λ a v g n.
        let d : a ≢ p = λ s. none_some (queue a) v g (ap queue s ∙ e) in
        let y = q.waits a v g n in
        record { below = y.below; not_begun = y.not_begun; not_given_up = put_off o.given_up p true a d ∙ y.not_given_up };
    partly = q.partly;
    rest = q.rest;
  }
