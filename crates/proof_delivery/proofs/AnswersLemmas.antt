-- What an answer does to the own request that waits, and what number a request has for the end that answers it.
use Rattle.std.proofs.Common.{◌≡◌, ◌≢◌, ℕ, suc, ◌+◌, ◌-◌, ◌^◌, ◌<◌, ◌≤◌, Bool, true, false, ◌⊎◌, inl, inr, Option, Some, List, length, slice_get, ap, sym, ◌∙◌, arith}
use Rattle.std.specs.Prelude.{not}
use Rattle.std.proofs.lemmas.Bool.{cases_eq, cases_lt, eqb-true, eq-eqb, ne_eqb}
use Rattle.std.proofs.lemmas.Option.{slice_get_within}
use Rattle.sctp_serial.specs.Unwrapped.{origin, u32_space, wire}
use Rattle.sctp_rx.specs.ReassemblyQueue.{Deferred}
use Rattle.sctp_tx_queue.specs.SendQueue.{Queue}
use Rattle.spec_endpoint.specs.ResetRequests.{Request, Requests, Outcome, Unsettled, Done, outcome, outcome_by, outcome_if, performed, in_progress, is_final, is_success, next_number, is_last_request, is_next_request}
use Rattle.proof_protocol.proofs.ToolsLemmas.{not_both}
use Rattle.proof_delivery.specs.Asks.{ResetRequest, number_of, SaysDone, IsAsking, IsCurrent, IsAnswering}

-- fewer than 2^32 have numbers of their own
pub number_once : (first i j : ℕ) → i < 2 ^ 32 → j < 2 ^ 32 → number_of first i ≡ number_of first j → i ≡ j
number_once first i j a b e = omega (arith, a, b, e)

-- the one after it
pub number_after : (first i : ℕ) → next_number (number_of first i) ≡ number_of first (suc i)
number_after first i = omega arith

-- before a first one
pub number_before : (first done : ℕ) → next_number (wire u32_space first (origin + done - 1)) ≡ number_of first done
number_before first done = omega arith

less : (m n : ℕ) → m ≤ n → m ≢ n → m < n
less m n l d = elim (cases_lt m n) [ inl k ↦ k | inr g ↦ absurd (d (omega (arith, l, g))) ]

-- ---- the end that asked

-- The answer settles nothing, or it is to the last ask, which was performed, and its streams go on. None is denied.
module _ (first answered done : ℕ) (asks : List ResetRequest) (q : Queue) (r : Requests) (asking : IsAsking first answered asks q r) (below : answered ≤ done) (few : done < 2 ^ 32) where
  abbrev Settles : (number result : ℕ) → Type 0
  Settles number result =
      (outcome number result r.current ≡ Unsettled)
      ⊎ ((a : ResetRequest) × (slice_get asks answered ≡ Some a) × (answered < done) × (outcome number result r.current ≡ Done a.streams))

  module _ (number result : ℕ) (said : is_final result ≡ true → SaysDone first done (length asks) number result) (long : length asks ≡ suc answered) (c : IsCurrent first answered asks q r.current) where
    abbrev by_result : ℕ → Outcome
    by_result n = outcome_by (is_success n) (is_final n) c.request.streams

    its : number_of first answered ≡ number → Settles number result
    its same = elim (cases_eq result in_progress) [
      | inl e ↦ inl (whole ∙ ap by_result e)
      | inr d ↦
          let s = said (ap not (ne_eqb result in_progress d)) in
          let at_below = s.below in
          let at_is : s.at ≡ answered = number_once first s.at answered (omega (arith, at_below, few)) (omega (arith, below, few)) (sym s.number_is ∙ sym same) in
          elim s.performed_or_older [
            | inl p ↦ inr (c.ask, c.there, omega (arith, at_below, at_is), whole ∙ (ap by_result p ∙ ap Done c.says.streams))
            | inr m ↦ absurd (omega (arith, m, at_is, long))
          ]
    ]
      where
        whole : outcome number result r.current ≡ by_result result
        whole =
            ap (λ (o : Option Request). outcome number result o) c.is
            ∙ ap (λ (b : Bool). outcome_if b result c.request.streams) (eq-eqb c.request.number number (c.says.number ∙ same))

    settles_by : Settles number result
    settles_by = elim (cases_eq c.request.number number) [
      | inl e ↦ its (sym c.says.number ∙ e)
      | inr d ↦ inl (ap (λ (o : Option Request). outcome number result o) c.is ∙ ap (λ (b : Bool). outcome_if b result c.request.streams) (ne_eqb c.request.number number d))
    ]

  pub response_settles : (number result : ℕ) → (is_final result ≡ true → SaysDone first done (length asks) number result) → Settles number result
  response_settles number result said = elim asking.current [
    | inl n ↦ inl (ap (λ (o : Option Request). outcome number result o) n.1.none)
    | inr c ↦ settles_by number result said c.0 c.1
  ]

-- ---- the end that answers

-- A request that is the next one is the next ask; one that was the last is the last ask that was performed, or the one that is deferred;
-- any other was performed, and isn't the last ask.
module _ (first done : ℕ) (asks : List ResetRequest) (r : Requests) (deferred : Option Deferred) (answering : IsAnswering first done asks r deferred) (below : done ≤ length asks) (order : length asks ≤ suc done)
    (few : length asks < 2 ^ 32) (at : ℕ) (there : at < length asks) where
  abbrev number : ℕ
  number = number_of first at

  -- as numbers of asks are
  same_as : (j : ℕ) → j ≤ length asks → number ≡ number_of first j → at ≡ j
  same_as j l e = number_once first at j (omega (arith, there, few)) (omega (arith, l, few)) e

  next_as : (j : ℕ) → j ≤ length asks → number_of first (suc at) ≡ number_of first j → suc at ≡ j
  next_as j l e = number_once first (suc at) j (omega (arith, there, few)) (omega (arith, l, few)) e

  pub next_is_ask : is_next_request number r ≡ true → at ≡ done
  next_is_ask h = elim answering [
    | inl p ↦ same_as done below (eqb-true number (next_number r.last) h ∙ (ap next_number p.last ∙ number_before first done))
    | inr d ↦
        let l = slice_get_within asks done d.ask d.there in
        let e = same_as (suc done) (omega (arith, l)) (eqb-true number (next_number r.last) h ∙ (ap next_number d.last ∙ number_after first done)) in
        absurd (omega (arith, e, there, order))
  ]

  pub last_is_ask : is_last_request number r ≡ true → ((suc at ≡ done) × (is_final r.result ≡ true → r.result ≡ performed)) ⊎ ((at ≡ done) × (r.result ≡ in_progress))
  last_is_ask h = elim answering [
    | inl p ↦
        let e : suc at ≡ done = next_as done below (sym (number_after first at) ∙ (ap next_number (eqb-true number r.last h ∙ p.last) ∙ number_before first done)) in
        inl (e, λ final. elim p.result [ inl x ↦ x | inr x ↦ let z = x.1 in absurd (omega (arith, e, z)) ])
    | inr d ↦ inr (same_as done below (eqb-true number r.last h ∙ d.last), d.result)
  ]

  pub other_is_older : is_last_request number r ≡ false → is_next_request number r ≡ false → (at < done) × (suc at < length asks)
  other_is_older not_last not_next = elim answering [
    | inl p ↦
        let a : at ≢ done = λ e. not_both (eq-eqb number (next_number r.last) (ap (number_of first) e ∙ sym (ap next_number p.last ∙ number_before first done))) not_next in
        let b : suc at ≢ done = λ e. not_both (eq-eqb number r.last (before_is e ∙ sym p.last)) not_last in
        let c = less at done (omega (arith, there, order)) a in
        let e = less (suc at) done (omega (arith, c)) b in
        (c, omega (arith, e, below))
    | inr d ↦
        let l = slice_get_within asks done d.ask d.there in
        let a : at ≢ done = λ e. not_both (eq-eqb number r.last (ap (number_of first) e ∙ sym d.last)) not_last in
        let c = less at done (omega (arith, there, order)) a in
        (c, omega (arith, c, l))
  ]
    where
      before_is : suc at ≡ done → number ≡ wire u32_space first (origin + done - 1)
      before_is e = omega (arith, e)
