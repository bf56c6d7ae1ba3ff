-- What an end that asks for resets of its streams holds, as its queue or its requests change; and how its streams stand once it has emitted an
-- answer.
use Rattle.std.proofs.Common.{◌≡◌, ℕ, zero, suc, ◌<◌, ◌≤◌, Bool, true, false, cond, inl, inr, Option, Some, None, List, [], ◌∷◌, ◌++◌, refl, sym, ap, ◌∙◌, subst, arith}
use Rattle.std.specs.Prelude.{◌||◌, ◌==◌, option_map, slice_get}
use Rattle.std.proofs.lemmas.Bool.{cases_eq, eq-eqb, ne_eqb}
use Rattle.std.proofs.lemmas.Bool.Decides.{nat_tests}
use Rattle.std.proofs.lemmas.Option.{same_Some}
use Rattle.std.proofs.Math.Bool.{or-true, or-false}
use Rattle.sctp_tx_queue.specs.SendQueue.{Queue}
use Rattle.proof_protocol.specs.State.{has}
use Rattle.proof_protocol.specs.Resets.{Epochs}
use Rattle.proof_refines.specs.Asked.{AreSameAsked}
use Rattle.spec_endpoint.specs.ResetRequests.{Request, Requests, Unsettled, Done, outcome, outcome_by, outcome_if, is_final, is_success, without_deferral, clear_deferral, defer_request, end_or_defer, response_if, handle_response_in}
use Rattle.spec_endpoint.specs.ResetRequests as requests
use Rattle.proof_delivery.specs.Asks.{ResetRequest, named_in, IsRequestOf, IsAsking}
use Rattle.proof_delivery.specs.StreamEpochs.{StreamEpoch, are_named, opened_if, reopen}
use Rattle.proof_delivery.proofs.AsksLemmas.{named_next}
use Rattle.proof_delivery.proofs.ClaimLemmas.{AreSo}

-- ---- the queue, or the requests

module _ (first answered : ℕ) (asks : List ResetRequest) where
  -- the same streams wait for the answer
  pub asking_stays : (q r : Queue) (rs : Requests) → AreSameAsked q r → IsAsking first answered asks q rs → IsAsking first answered asks r rs
  asking_stays q r rs same h = record {
    next = h.next;
    current = elim h.current [
      | inl n ↦ inl (n.0, record { none = n.1.none; resetting = λ s e. n.1.resetting s (same.before s e) })
      | inr c ↦
          let z = c.1 in
          inr (
            c.0,
            record {
              ask = z.ask;
              there = z.there;
              request = z.request;
              is = z.is;
              says = z.says;
              resetting = λ s e. same.still s (z.resetting s e);
              others = λ s e. z.others s (same.before s e);
            },
          )
    ];
  }

  -- the same is asked, and the same request waits
  pub asking_reads : (q : Queue) (r u : Requests) → u.next ≡ r.next → u.current ≡ r.current → IsAsking first answered asks q r → IsAsking first answered asks q u
  asking_reads q r u next current h = record {
    next = next ∙ h.next;
    current = elim h.current [
      | inl n ↦ inl (n.0, record { none = current ∙ n.1.none; resetting = n.1.resetting })
      | inr c ↦
          let z = c.1 in
          inr (c.0, record { ask = z.ask; there = z.there; request = z.request; is = current ∙ z.is; says = z.says; resetting = z.resetting; others = z.others })
    ];
  }

  -- but that it was put off, or no more
  pub asking_again : (q : Queue) (r u : Requests) (c d : Request) → u.next ≡ r.next → r.current ≡ Some c → u.current ≡ Some d → d.number ≡ c.number → d.last_tsn ≡ c.last_tsn → d.streams ≡ c.streams
      → IsAsking first answered asks q r → IsAsking first answered asks q u
  asking_again q r u c d next was is number last streams h = record {
    next = next ∙ h.next;
    current = elim h.current [
      | inl n ↦ absurd (none_some r.current c n.1.none was)
      | inr k ↦
          let z = k.1 in
          let says : IsRequestOf first answered z.ask c = subst (IsRequestOf first answered z.ask) (same_Some z.request c (sym z.is ∙ was)) z.says in
          inr (
            k.0,
            record {
              ask = z.ask;
              there = z.there;
              request = d;
              is = is;
              says = record { number = number ∙ says.number; last_tsn = last ∙ says.last_tsn; streams = streams ∙ says.streams };
              resetting = z.resetting;
              others = z.others;
            },
          )
    ];
  }
    where
      none_some : (o : Option Request) (c : Request) → o ≡ None → o ≡ Some c → ⊥
      none_some o c e f = cc

  pub asking_woken : (q : Queue) (r : Requests) → IsAsking first answered asks q r → IsAsking first answered asks q (clear_deferral r)
  asking_woken q r h = by r.current refl
    where
      by : (o : Option Request) → r.current ≡ o → IsAsking first answered asks q (clear_deferral r)
      by None e = asking_reads q r (clear_deferral r) refl (ap (option_map without_deferral) e ∙ sym e) h
      by (Some c) e = asking_again q r (clear_deferral r) c (without_deferral c) refl e (ap (option_map without_deferral) e) refl refl refl h

  -- an answer that settles nothing
  pub asking_unsettled : (q : Queue) (now rto number result : ℕ) (r : Requests) → outcome number result r.current ≡ Unsettled → IsAsking first answered asks q r
      → IsAsking first answered asks q (requests.handle_response now rto number result r)
  asking_unsettled q now rto number result r settles h = by r.current refl settles
    where
      by_result : (c : Request) → r.current ≡ Some c → (s f : Bool) → outcome_by s f c.streams ≡ Unsettled → IsAsking first answered asks q (end_or_defer f now rto c r)
      by_result c e true f u = cc
      by_result c e false true u = cc
      by_result c e false false u = asking_again q r (defer_request now rto c r) c (record c { is_deferred = true }) refl e refl refl refl refl h

      by_number : (c : Request) → r.current ≡ Some c → (b : Bool) → outcome_if b result c.streams ≡ Unsettled → IsAsking first answered asks q (response_if b now rto result c r)
      by_number c e true u = by_result c e (is_success result) (is_final result) u
      by_number c e false u = h

      by : (o : Option Request) → r.current ≡ o → outcome number result o ≡ Unsettled → IsAsking first answered asks q (handle_response_in o now rto number result r)
      by None e u = h
      by (Some c) e u = by_number c e (c.number == number) u

-- one that says that it is done
module _ (now rto number result : ℕ) (streams : List ℕ) (r : Requests) where
  record Ends (u : Requests) : Type 0 where
    next : u.next ≡ r.next
    none : u.current ≡ None

  success_final : is_success result ≡ true → is_final result ≡ false → ⊥
  success_final s f = grind (arith, nat_tests, s, f)

  ends_by : (c : Request) (s f : Bool) → is_success result ≡ s → is_final result ≡ f → outcome_by s f c.streams ≡ Done streams → Ends (end_or_defer f now rto c r)
  ends_by c s true a b e = record { next = refl; none = refl }
  ends_by c true false a b e = absurd (success_final a b)
  ends_by c false false a b e = cc

  ends_if : (c : Request) (b : Bool) → outcome_if b result c.streams ≡ Done streams → Ends (response_if b now rto result c r)
  ends_if c true e = ends_by c (is_success result) (is_final result) refl refl e
  ends_if c false e = cc

  ends_in : (o : Option Request) → outcome number result o ≡ Done streams → Ends (handle_response_in o now rto number result r)
  ends_in None e = cc
  ends_in (Some c) e = ends_if c (c.number == number) e

  pub done_ends : outcome number result r.current ≡ Done streams → ((requests.handle_response now rto number result r).next ≡ r.next) × ((requests.handle_response now rto number result r).current ≡ None)
  done_ends e = let z = ends_in r.current e in (z.next, z.none)

-- ---- how often a stream is named

named_up : (s m n : ℕ) (asks : List ResetRequest) → m ≤ n → named_in s m asks ≤ named_in s n asks
named_up s zero n asks l = omega arith
named_up s (suc m) zero asks l = absurd (omega (arith, l))
named_up s (suc m) (suc n) [] l = omega arith
named_up s (suc m) (suc n) (a ∷ asks) l = by (has s a.streams) (named_in s m asks) (named_in s n asks) (named_up s m n asks (omega (arith, l)))
  where
    by : (b : Bool) (i j : ℕ) → i ≤ j → cond b (suc i) i ≤ cond b (suc j) j
    by true i j l = omega (arith, l)
    by false i j l = l

-- once more, from an ask that names it on
pub named_later : (s n m : ℕ) (asks : List ResetRequest) (a : ResetRequest) → slice_get asks n ≡ Some a → has s a.streams ≡ true → n < m → named_in s n asks < named_in s m asks
named_later s n m asks a there named l =
    let one : named_in s (suc n) asks ≡ suc (named_in s n asks) = named_next s n asks a there ∙ ap (λ (b : Bool). cond b (suc (named_in s n asks)) (named_in s n asks)) named in
    let up = named_up s (suc n) m asks (omega (arith, l)) in
    omega (arith, one, up)

-- ---- streams that are emitted as reset

pub named_has : (s : ℕ) (ids : List ℕ) → are_named ids s ≡ has s ids
named_has s [] = refl
named_has s (id ∷ ids) = elim (cases_eq s id) [
  | inl e ↦ ap (λ (b : Bool). b || are_named ids s) (eq-eqb id s (sym e)) ∙ sym (ap (λ (b : Bool). b || has s ids) (eq-eqb s id e))
  | inr d ↦ ap (λ (b : Bool). b || are_named ids s) (ne_eqb id s (λ e. d (sym e))) ∙ (named_has s ids ∙ sym (ap (λ (b : Bool). b || has s ids) (ne_eqb s id d)))
]

pub named_more : (s : ℕ) (ids more : List ℕ) → are_named (ids ++ more) s ≡ (are_named ids s || are_named more s)
named_more s [] more = refl
named_more s (id ∷ ids) more = by (id == s) (named_more s ids more)
  where
    by : (b : Bool) → are_named (ids ++ more) s ≡ (are_named ids s || are_named more s) → (b || are_named (ids ++ more) s) ≡ ((b || are_named ids s) || are_named more s)
    by true h = refl
    by false h = h

-- the streams of an ask that is answered are open from now on, and the others as they were
pub so_opened : (ids streams : List ℕ) (f : ℕ → StreamEpoch) (x y : Epochs) → y.raised ≡ x.raised → ((s : ℕ) → has s streams ≡ true → y.opened s ≡ x.raised s)
    → ((s : ℕ) → has s streams ≡ false → y.opened s ≡ x.opened s) → AreSo (reopen ids f) x → AreSo (reopen (ids ++ streams) f) y
so_opened ids streams f x y raised opens others h s = by (has s streams) refl
  where
    r : y.raised s ≡ x.raised s
    r = ap (λ (g : ℕ → ℕ). g s) raised

    named : (b : Bool) → has s streams ≡ b → are_named (ids ++ streams) s ≡ (are_named ids s || b)
    named b e = named_more s ids streams ∙ ap (λ (c : Bool). are_named ids s || c) (named_has s streams ∙ e)

    Stands : StreamEpoch → Type 0
    Stands e = (e.epoch ≡ y.raised s) × (e.is_open ≡ true → y.raised s ≡ y.opened s) × (e.is_open ≡ false → y.raised s ≡ suc (y.opened s))

    by : (b : Bool) → has s streams ≡ b → Stands (reopen (ids ++ streams) f s)
    by true e =
        subst (λ (b : Bool). Stands (opened_if b (f s))) (sym (named true e ∙ or-true (are_named ids s)))
        ((h s).0 ∙ sym r, λ g. r ∙ sym (opens s e), λ g. cc)
    by false e =
        let o = others s e in
        let i = h s in
        subst (λ (b : Bool). Stands (opened_if b (f s))) (sym (named false e ∙ or-false (are_named ids s)))
        (i.0 ∙ sym r, λ g. r ∙ (i.1 g ∙ sym o), λ g. r ∙ (i.2 g ∙ ap suc (sym o)))
