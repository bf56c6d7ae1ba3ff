-- What streams that are prepared, requested and answered change of the epochs.
use Rattle.std.proofs.Common.{◌≡◌, ℕ, suc, Bool, true, false, inl, inr, List, [], ◌∷◌, map, refl, sym, ap, ◌∙◌, subst}
use Rattle.std.specs.Prelude.{◌==◌, ◌||◌}
use Rattle.std.proofs.lemmas.Bool.{cases_eq, eq-eqb, ne_eqb, or_parts, or_from}
use Rattle.sctp_tx_queue.specs.declared.send_queue.stream.PauseState.{PauseState}
use Rattle.sctp_tx_queue.specs.declared.send_queue.stream.PauseState.TheVariants.{NotPaused, Pending, Paused, Resetting}
use Rattle.sctp_tx_queue.specs.SendQueue.{Queue, stream}
use Rattle.proof_protocol.specs.State.{Message, has, count}
use Rattle.proof_protocol.specs.Rules.{run}
use Rattle.proof_protocol.specs.Resets.{Request, Epochs, transfers, send_request, commit, goes, go_all}
use Rattle.proof_protocol.proofs.ToolsLemmas.{put_at, put_off, not_both}
use Rattle.proof_refines.specs.Pauses.{unsent_of, give_up_rules, opens_next, prepare_events}
use Rattle.proof_refines.specs.Asked.{Raises, SenderRequests, SenderOpens}
use Rattle.proof_refines.proofs.PausedLemmas.{go_given, go_more}

module _ (message : ℕ → Message) (is_interleaved : Bool) where
  -- ---- streams that are prepared

  module _ (x : Epochs) (q : Queue) (id : ℕ) where
    abbrev given : Epochs
    given = record x { transfer = run message is_interleaved x.transfer (give_up_rules (unsent_of q id)) }

    raises : (p : PauseState) → (stream id q.streams).pause ≡ p → Raises x (go_all message is_interleaved given (opens_next p id)) q id
    raises NotPaused e = record {
      opens = λ c. put_at x.raised id (suc (x.raised id)) id refl;
      waits = λ n. absurd (n e);
      others = λ k d. put_off x.raised id (suc (x.raised id)) k d;
      rest = refl;
    }
    raises Pending e = record { opens = λ c. absurd (flows (sym e ∙ c)); waits = λ n. refl; others = λ k d. refl; rest = refl }
      where
        flows : Pending ≡ NotPaused → ⊥
        flows c = cc
    raises Paused e = record { opens = λ c. absurd (flows (sym e ∙ c)); waits = λ n. refl; others = λ k d. refl; rest = refl }
      where
        flows : Paused ≡ NotPaused → ⊥
        flows c = cc
    raises Resetting e = record { opens = λ c. absurd (flows (sym e ∙ c)); waits = λ n. refl; others = λ k d. refl; rest = refl }
      where
        flows : Resetting ≡ NotPaused → ⊥
        flows c = cc

    pub prepared_raises : Raises x (go_all message is_interleaved x (prepare_events q id)) q id
    prepared_raises =
        let p = (stream id q.streams).pause in
        let leads : go_all message is_interleaved x (prepare_events q id) ≡ go_all message is_interleaved given (opens_next p id)
        = go_more message is_interleaved (map transfers (give_up_rules (unsent_of q id))) (opens_next p id) x
        ∙ ap (λ (w : Epochs). go_all message is_interleaved w (opens_next p id)) (go_given message is_interleaved (unsent_of q id) x) in
        subst (λ (z : Epochs). Raises x z q id) (sym leads) (raises p refl)

  -- ---- a request

  pub requests_sent : (ids : List ℕ) (x : Epochs) → SenderRequests x (go_all message is_interleaved x (map send_request ids)) ids
  requests_sent [] x = record { sent = λ s t. absurd (cc); stay = λ r a. a; rest = refl }
  requests_sent (id ∷ ids) x =
      let z = requests_sent ids (goes message is_interleaved x (send_request id)) in
      record {
        sent = λ s t. elim (cases_eq s id) [
          | inl c ↦
              z.stay (record { stream = s; upto = count x.transfer.sender; epoch = x.raised s })
              (inl (ap (λ (j : ℕ). let r : Request = record { stream = j; upto = count x.transfer.sender; epoch = x.raised j } in r) c))
          | inr d ↦ z.sent s (ap (λ b. b || has s ids) (sym (ne_eqb s id d)) ∙ t)
        ];
        stay = λ r a. z.stay r (inr a);
        rest = z.rest;
      }

  -- ---- its answer

  pub answers_open : (ids : List ℕ) (x : Epochs) → SenderOpens x (go_all message is_interleaved x (map commit ids)) ids
  answers_open [] x = record { opened = λ s t. absurd (cc); others = λ s n. refl; rest = refl }
  answers_open (id ∷ ids) x = next (answers_open ids (goes message is_interleaved x (commit id)))
    where
      y : Epochs
      y = goes message is_interleaved x (commit id)

      next : SenderOpens y (go_all message is_interleaved y (map commit ids)) ids → SenderOpens x (go_all message is_interleaved x (map commit (id ∷ ids))) (id ∷ ids)
      next z = record { opened = λ s t. here s t (has s ids) refl; others = off; rest = z.rest }
        where
          here : (s : ℕ) → has s (id ∷ ids) ≡ true → (b : Bool) → has s ids ≡ b → (go_all message is_interleaved y (map commit ids)).opened s ≡ x.raised s
          here s t true e = z.opened s e
          here s t false e = elim (cases_eq s id) [
            | inl c ↦ z.others s e ∙ (put_at x.opened id (x.raised id) s c ∙ ap x.raised (sym c))
            | inr d ↦ absurd (not_both t (or_from (s == id) (has s ids) (ne_eqb s id d) e))
          ]

          off : (s : ℕ) → has s (id ∷ ids) ≡ false → (go_all message is_interleaved y (map commit ids)).opened s ≡ x.opened s
          off s n =
              let parts = or_parts (s == id) (has s ids) n in
              z.others s parts.1 ∙ put_off x.opened id (x.raised id) s (λ c. not_both (eq-eqb s id c) parts.0)
