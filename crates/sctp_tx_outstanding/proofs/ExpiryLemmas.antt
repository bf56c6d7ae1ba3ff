-- Before the earliest moment, or where nothing may be given up, nothing expires; and the steps from one item that expires to the next.
use Rattle.std.proofs.Common.{◌≡◌, ℕ, zero, suc, ◌+◌, ◌<◌, ◌≤◌, Bool, true, false, cond, List, [], ◌∷◌, ◌++◌, length, refl, ap, sym, ◌∙◌, inl, inr, arith}
use Rattle.std.specs.Prelude.{Option, Some, None, map, slice_get, ◌&&◌}
use Rattle.std.proofs.lemmas.Bool.{cases_lt}
use Rattle.std.specs.List.{All}
use Rattle.std.proofs.lemmas.List.Elements.{All-head, All-tail, All-cons, All-nil}
use Rattle.sctp_state.specs.Events.{Emitted}
use Rattle.sctp_chunk.specs.Chunk.{FragmentTree}
use Rattle.sctp_tx_outstanding.specs.Item.{Item, NotBefore, is_of, abandon}
use Rattle.sctp_tx_outstanding.specs.OutstandingData.{Items, Outstanding, abandon_if_of, last_of}
use Rattle.sctp_tx_outstanding.specs.Expiries.{expires_at, NoneExpires}
use Rattle.sctp_tx_outstanding.specs.Losses.{Step, placeholder, placeholders, expires, expired_of, option_bind, expired_at, given_up_if, expire_at, expire_below, expire_outstanding, first_step}

pub none_expires : (now : ℕ) (earliest : ℕ) (is : List Item) → now < earliest → All (NotBefore earliest) is → All (λ i. expires now i ≡ false) is
none_expires now earliest [] e h = All-nil (λ i. expires now i ≡ false)
none_expires now earliest (i ∷ is) e h =
    All-cons (λ j. expires now j ≡ false) i is (All-head (NotBefore earliest) i is h now e) (none_expires now earliest is e (All-tail (NotBefore earliest) i is h))

quiet_below : {P : Type 0} (now n : ℕ) (x : Step P) → ((k : ℕ) → expired_at now k x.items ≡ None) → expire_below now n x ≡ x
quiet_below now zero x h = refl
quiet_below now (suc n) x h = ap (expire_at now n) (quiet_below now n x h) ∙ ap (λ o. given_up_if o x) (h n)

pub expire_quiet : {P : Type 0} (now : ℕ) (s : Items) (emitted : Emitted P) → ((k : ℕ) → expired_at now k s ≡ None) → expire_outstanding now s emitted ≡ first_step s emitted
expire_quiet now s emitted h = quiet_below now (length s.kept) (first_step s emitted) h

-- ---- giving up a message makes no item expire

laid_quiet : (now : ℕ) (b : Bool) (i : Item) → expires now i ≡ false → expires now (cond b (abandon i) i) ≡ false
laid_quiet now true i h = refl
laid_quiet now false i h = h

end_quiet : (now number k : ℕ) (o : Option FragmentTree) → expires_at now k (map (abandon_if_of number) (placeholders number o)) ≡ false
end_quiet now number k None = refl
end_quiet now number k (Some f) = by_end f.is_end
  where
    one : (b : Bool) (k : ℕ) → expires_at now k (cond b (abandon (placeholder number f)) (placeholder number f) ∷ []) ≡ false
    one true zero = refl
    one false zero = refl
    one b (suc k) = refl

    by_end : (e : Bool) → expires_at now k (map (abandon_if_of number) (cond e [] (placeholder number f ∷ []))) ≡ false
    by_end true = refl
    by_end false = one (is_of number (placeholder number f)) k

more_quiet : (now number k : ℕ) (o : Option FragmentTree) (is : List Item) → expires_at now k is ≡ false → expires_at now k (map (abandon_if_of number) (is ++ placeholders number o)) ≡ false
more_quiet now number k o [] h = end_quiet now number k o
more_quiet now number zero o (i ∷ is) h = laid_quiet now (is_of number i) i h
more_quiet now number (suc k) o (i ∷ is) h = more_quiet now number k o is h

step_quiet : {P : Type 0} (now k : ℕ) (o : Option ℕ) (x : Step P) → expires_at now k x.items.kept ≡ false → expires_at now k (given_up_if o x).items.kept ≡ false
step_quiet now k None x h = h
step_quiet now k (Some number) x h = more_quiet now number k (last_of number x.items.kept) x.items.kept h

below_quiet : {P : Type 0} (now k n : ℕ) (x : Step P) → expires_at now k x.items.kept ≡ false → expires_at now k (expire_below now n x).items.kept ≡ false
below_quiet now k zero x h = h
below_quiet now k (suc n) x h = step_quiet now k (expired_at now n (expire_below now n x).items) (expire_below now n x) (below_quiet now k n x h)

none_at : (now k : ℕ) (b : Bool) (is : List Item) → expires_at now k is ≡ false → option_bind (expired_of b now) (slice_get is k) ≡ None
none_at now k b [] h = refl
none_at now zero b (i ∷ is) h = ap (λ t. cond t (Some i.number) None) (ap (λ t. b && t) h ∙ and_false b)
  where
    and_false : (b : Bool) → (b && false) ≡ false
    and_false true = refl
    and_false false = refl
none_at now (suc k) b (i ∷ is) h = none_at now k b is h

-- so where none expires from one place up to another, those steps leave all as it is
pub expire_past : {P : Type 0} (now from to : ℕ) (x : Step P) → from ≤ to → NoneExpires now from to x.items.kept → expire_below now to x ≡ expire_below now from x
expire_past now from zero x le none = ap (λ n. expire_below now n x) zero_is
  where
    zero_is : zero ≡ from
    zero_is = omega (arith, le)
expire_past now from (suc n) x le none = elim (cases_lt n from) [
  | inl less ↦ ap (λ m. expire_below now m x) (last less)
  | inr above ↦
      let y = expire_below now n x in
      let none-here : expired_at now n y.items ≡ None = none_at now n y.items.is_partial y.items.kept (below_quiet now n n x (none n above (omega arith))) in
      ap (λ o. given_up_if o y) none-here ∙ expire_past now from n x above (λ k up below. none k up (omega (arith, below)))
]
  where
    last : n < from → suc n ≡ from
    last less = omega (arith, le, less)

-- and the next step
step_apart : {P : Type 0} (o : Option ℕ) (x : Step P) → ((given_up_if o (first_step x.items x.emitted)).items ≡ (given_up_if o x).items) × ((given_up_if o (first_step x.items x.emitted)).emitted ≡ (given_up_if o x).emitted)
step_apart None x = (refl, refl)
step_apart (Some number) x = (refl, refl)

module _ {P : Type 0} (now from next : ℕ) (d : Outstanding) (emitted : Emitted P) (le : from ≤ next) (none : NoneExpires now from next d.items.kept) (self : Outstanding) (later : Emitted P)
    (is_now : self ≡ record d { items = (expire_below now from (first_step d.items emitted)).items }) (is_emitted : later ≡ (expire_below now from (first_step d.items emitted)).emitted) where
  abbrev before : Step P
  before = expire_below now next (first_step d.items emitted)

  pub past_items : self ≡ record d { items = before.items }
  past_items = is_now ∙ ap (λ (x : Step P). record d { items = x.items }) (sym (expire_past now from next (first_step d.items emitted) le none))

  pub past_emitted : later ≡ before.emitted
  past_emitted = is_emitted ∙ ap (λ (x : Step P). x.emitted) (sym (expire_past now from next (first_step d.items emitted) le none))

  is_there : expire_at now next (first_step self.items later) ≡ expire_at now next (first_step before.items before.emitted)
  is_there =
      ap (λ (n : Outstanding). expire_at now next (first_step n.items later)) past_items
      ∙ ap (λ (t : Emitted P). expire_at now next (first_step before.items t)) past_emitted

  one_more : suc next ≡ next + 1
  one_more = omega arith

  pub expired_items : (after : Outstanding) → after ≡ record self { items = (expire_at now next (first_step self.items later)).items }
      → after ≡ record d { items = (expire_below now (next + 1) (first_step d.items emitted)).items }
  expired_items after is_next =
      is_next ∙ ap (λ (n : Outstanding). record n { items = (expire_at now next (first_step self.items later)).items }) past_items
      ∙ ap (λ (x : Step P). record d { items = x.items }) is_there
      ∙ ap (λ (z : Items). record d { items = z }) (step_apart (expired_at now next before.items) before).0
      ∙ ap (λ n. record d { items = (expire_below now n (first_step d.items emitted)).items }) one_more

  pub expired_emitted : (after : Emitted P) → after ≡ (expire_at now next (first_step self.items later)).emitted → after ≡ (expire_below now (next + 1) (first_step d.items emitted)).emitted
  expired_emitted after is_next =
      is_next ∙ ap (λ (x : Step P). x.emitted) is_there ∙ (step_apart (expired_at now next before.items) before).1
      ∙ ap (λ n. (expire_below now n (first_step d.items emitted)).emitted) one_more
