-- One record a message: the rules give up each message once.
use Rattle.std.proofs.Common.{◌≡◌, ℕ, Bool, true, false, not, inl, inr, Option, List, [], ◌∷◌, ◌++◌, map, refl, sym, ap, ◌∙◌, subst, append_assoc}
use Rattle.std.specs.Prelude.{◌==◌, ◌||◌}
use Rattle.std.specs.List.{AllByRecursion}
use Rattle.std.proofs.lemmas.Bool.{and_parts, and_from, cases_eq, eq-eqb, ne_eqb, false_from_ne_true, or_parts, not_from_false, not-true}
use Rattle.std.proofs.Math.Bool.{or_comm}
use Rattle.sctp_state.specs.Events.{GivenUp, Emitted}
use Rattle.sctp_tx_queue.specs.SendQueue.{Queue}
use Rattle.sctp_tx_outstanding.specs.Item.{Item, is_abandoned}
use Rattle.sctp_tx_outstanding.specs.OutstandingData.{Items}
use Rattle.proof_protocol.specs.State.{Message, Sender, Transfer, start, has}
use Rattle.proof_protocol.specs.Rules.{TransferEvent, accept, begin, number, end_with_placeholder, give_up, data_comes, late_comes, become_ready, send_sack, acknowledge_next, send_forward, forward_comes, perform_reset, Happens, after}
use Rattle.proof_protocol.proofs.ToolsLemmas.{put_at, put_off, not_both}
use Rattle.proof_refines.specs.Reachable.{given_up_places, recorded_places, SenderLeadsTo}
use Rattle.proof_refines.specs.SenderRefinement.{SenderRefines, AreKept}
use Rattle.proof_refines.specs.Records.{are_distinct, all_recorded, OneRecord, HasOneRecord}
use Rattle.proof_refines.proofs.SenderRestLemmas.{has_more, records_row}

-- ---- distinct places

pub distinct_more : (ps qs : List ℕ) → are_distinct ps ≡ true → are_distinct qs ≡ true → ((p : ℕ) → has p qs ≡ true → has p ps ≡ false) → are_distinct (ps ++ qs) ≡ true
distinct_more [] qs a b apart = b
distinct_more (p ∷ ps) qs a b apart =
    let parts = and_parts (not (has p ps)) (are_distinct ps) a in
    and_from (not (has p (ps ++ qs))) (are_distinct (ps ++ qs))
    (not_from_false (has p (ps ++ qs)) (has_more p ps qs ∙ (ap (λ c. c || has p qs) (not-true (has p ps) parts.0) ∙ behind)))
    (distinct_more ps qs parts.1 b (λ r h. (or_parts (r == p) (has r ps) (apart r h)).1))
  where
    behind : has p qs ≡ false
    behind = false_from_ne_true (has p qs) (λ h. not_both (eq-eqb p p refl) (or_parts (p == p) (has p ps) (apart p h)).0)

-- ---- the rules give up each message once

module _ (message : ℕ → Message) (is_interleaved : Bool) where
  pub record GivesOnce (x : Transfer) (es : List TransferEvent) : Type 0 where
    pub once : are_distinct (given_up_places es) ≡ true
    pub fresh : (p : ℕ) → has p (given_up_places es) ≡ true → x.sender.given_up p ≡ false

  gives : (x : Transfer) (q : ℕ) (es : List TransferEvent) → x.sender.given_up q ≡ false → GivesOnce (after message is_interleaved x (give_up q)) es → GivesOnce x (give_up q ∷ es)
  gives x q es live g = record {
    once =
        and_from (not (has q (given_up_places es))) (are_distinct (given_up_places es))
        (not_from_false (has q (given_up_places es)) (false_from_ne_true (has q (given_up_places es)) (λ h. not_both (put_at x.sender.given_up q true q refl) (g.fresh q h)))) g.once;
    fresh = λ p h. elim (cases_eq p q) [ inl e ↦ subst (λ (r : ℕ). x.sender.given_up r ≡ false) (sym e) live | inr d ↦ earlier p d h ];
  }
    where
      earlier : (p : ℕ) → (p ≡ q → ⊥) → ((p == q) || has p (given_up_places es)) ≡ true → x.sender.given_up p ≡ false
      earlier p d h = sym (put_off x.sender.given_up q true p d) ∙ g.fresh p (ap (λ b. b || has p (given_up_places es)) (sym (ne_eqb p q d)) ∙ h)

  pub gives_once : (es : List TransferEvent) (x : Transfer) → Happens message is_interleaved x es → GivesOnce x es
  gives_once [] x h = record { once = refl; fresh = λ p e. cc }
  gives_once (accept ∷ es) x h = let g = gives_once es _ h.1 in record { once = g.once; fresh = g.fresh }
  gives_once (begin p ∷ es) x h = let g = gives_once es _ h.1 in record { once = g.once; fresh = g.fresh }
  gives_once (number p bytes more ∷ es) x h = let g = gives_once es _ h.1 in record { once = g.once; fresh = g.fresh }
  gives_once (end_with_placeholder p ∷ es) x h = let g = gives_once es _ h.1 in record { once = g.once; fresh = g.fresh }
  gives_once (give_up p ∷ es) x h = gives x p es h.0.2 (gives_once es (after message is_interleaved x (give_up p)) h.1)
  gives_once (data_comes t ∷ es) x h = let g = gives_once es _ h.1 in record { once = g.once; fresh = g.fresh }
  gives_once (late_comes t ∷ es) x h = let g = gives_once es _ h.1 in record { once = g.once; fresh = g.fresh }
  gives_once (become_ready p ∷ es) x h = let g = gives_once es _ h.1 in record { once = g.once; fresh = g.fresh }
  gives_once (send_sack c ∷ es) x h = let g = gives_once es _ h.1 in record { once = g.once; fresh = g.fresh }
  gives_once (acknowledge_next c ∷ es) x h = let g = gives_once es _ h.1 in record { once = g.once; fresh = g.fresh }
  gives_once (send_forward f ∷ es) x h = let g = gives_once es _ h.1 in record { once = g.once; fresh = g.fresh }
  gives_once (forward_comes f ∷ es) x h = let g = gives_once es _ h.1 in record { once = g.once; fresh = g.fresh }
  gives_once (perform_reset s c ∷ es) x h = let g = gives_once es _ h.1 in record { once = g.once; fresh = g.fresh }

  -- what was given up before, and is now
  pub one_more : (ps : List ℕ) (es : List TransferEvent) (x : Transfer) → Happens message is_interleaved x es → are_distinct ps ≡ true → ((p : ℕ) → x.sender.given_up p ≡ has p ps)
      → are_distinct (ps ++ given_up_places es) ≡ true
  one_more ps es x h once exact = let g = gives_once es x h in distinct_more ps (given_up_places es) once g.once (λ p m. sym (exact p) ∙ g.fresh p m)

-- ---- records

pub new_row : {P : Type 0} → (emitted : Emitted P) → emitted.given_up ≡ [] → OneRecord [] start.sender emitted
new_row emitted none = record { once = ap (λ (gs : List GivenUp). are_distinct (map (λ (g : GivenUp). g.number) gs)) none; exact = λ p. sym (ap (λ (gs : List GivenUp). has p (map (λ (g : GivenUp). g.number) gs)) none) }

module _ {P : Type 0} (message : ℕ → Message) (lifecycle : ℕ → Option ℕ) (is_interleaved : Bool) (x : Transfer) (q : Queue) (s : Items) (emitted later : Emitted P) (taken : List ℕ)
    (l : SenderLeadsTo message lifecycle is_interleaved x emitted q s later) (one : OneRecord taken x.sender emitted) where
  all_more : all_recorded taken later ≡ all_recorded taken emitted ++ l.places
  all_more = ap (λ (ps : List ℕ). taken ++ ps) l.recorded ∙ sym (append_assoc taken (recorded_places emitted) l.places)

  pub sending_row : OneRecord taken l.after.sender later
  sending_row = record {
    once =
        ap are_distinct all_more
        ∙ (ap (λ (ps : List ℕ). are_distinct (all_recorded taken emitted ++ ps)) (sym l.leads.given_up)
        ∙ one_more message is_interleaved (all_recorded taken emitted) l.leads.events x l.leads.may one.once one.exact);
    exact = λ p.
        records_row message is_interleaved x l.after l.places l.leads p
        ∙ (ap (λ b. has p l.places || b) (one.exact p)
        ∙ (or_comm (has p l.places) (has p (all_recorded taken emitted)) ∙ (sym (has_more p (all_recorded taken emitted) l.places) ∙ ap (has p) (sym all_more))));
  }

taken_row_all : (taken : List ℕ) (g : GivenUp) (rest gs : List GivenUp) → gs ≡ g ∷ rest
    → taken ++ map (λ (z : GivenUp). z.number) gs ≡ (taken ++ g.number ∷ []) ++ map (λ (z : GivenUp). z.number) rest
taken_row_all taken g rest gs e = ap (λ (zs : List GivenUp). taken ++ map (λ (z : GivenUp). z.number) zs) e ∙ sym (append_assoc taken (g.number ∷ []) (map (λ (z : GivenUp). z.number) rest))

pub taking_row : {P : Type 0} → (o : Sender) (taken : List ℕ) (g : GivenUp) (rest : List GivenUp) (emitted : Emitted P)
    → emitted.given_up ≡ g ∷ rest → OneRecord taken o emitted → OneRecord (taken ++ g.number ∷ []) o (record emitted { given_up = rest })
taking_row o taken g rest emitted e one = record {
  once = ap are_distinct (sym (taken_row_all taken g rest emitted.given_up e)) ∙ one.once;
  exact = λ p. one.exact p ∙ ap (has p) (taken_row_all taken g rest emitted.given_up e);
}

-- ---- what the values say

module _ (message : ℕ → Message) (lifecycle : ℕ → Option ℕ) where
  kept_has : (o : Sender) (all : List ℕ) → ((p : ℕ) → o.given_up p ≡ has p all) → (t : ℕ) (is : List Item) → AreKept message lifecycle o t is
      → AllByRecursion (λ (i : Item). is_abandoned i ≡ has i.number all) is
  kept_has o all exact t [] a = tt
  kept_has o all exact t (i ∷ is) a = (a.0.given_up ∙ (ap o.given_up (sym a.0.place) ∙ exact i.number), kept_has o all exact _ is a.1)

  pub values_row : {P : Type 0} → (is_interleaved : Bool) (x : Transfer) (q : Queue) (s : Items) (taken : List ℕ) (emitted : Emitted P)
      → SenderRefines message lifecycle is_interleaved x q s → OneRecord taken x.sender emitted → HasOneRecord taken q s emitted
  values_row is_interleaved x q s taken emitted sh one = record {
    once = one.once;
    kept = kept_has x.sender (all_recorded taken emitted) one.exact x.acknowledged s.kept sh.items.kept;
    queued = λ k p m here none. sym (one.exact p) ∙ false_from_ne_true (x.sender.given_up p) (λ g. none (sh.discards.named k p m here g));
  }
