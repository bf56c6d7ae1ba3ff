-- Missing reports pass over the items that blocks cover.
use Rattle.std.proofs.lemmas.Bool.{cases_lt}
use Rattle.std.proofs.Common.{inl, inr, ◌≡◌, ℕ, zero, suc, ◌+◌, ◌-◌, ◌≤◌, ◌||◌, Bool, true, false, cond, List, [], ◌∷◌, ◌++◌, refl, ap, sym, subst, ◌∙◌, arith}
use Rattle.std.specs.Prelude.{Option, Some, None, unwrap_or, option_map, slice_get}
use Rattle.sctp_chunk.specs.Chunk.{FragmentTree}
use Rattle.sctp_chunk.specs.declared.sack.GapAckBlock.{GapAckBlock}
use Rattle.sctp_chunk.specs.Covered.{is_covered}
use Rattle.sctp_state.specs.Events.{Emitted}
use Rattle.sctp_state.specs.declared.api.GivenUpCause.TheVariants.{Retransmissions}
use Rattle.sctp_tx_outstanding.specs.declared.item.MissIndication.{MissIndication}
use Rattle.sctp_tx_outstanding.specs.declared.kept.Change.TheVariants as changes
use Rattle.sctp_tx_outstanding.specs.Item.{Item, ack, nack}
use Rattle.sctp_tx_outstanding.specs.OutstandingData.{Items, Outstanding, last_of}
use Rattle.sctp_tx_outstanding.specs.Losses.{Step, first_step, placeholder, placeholders, abandon_with_record, is_to_be_abandoned, loses, change_items, nack_item, nack_at, nack_below}
use Rattle.sctp_tx_outstanding.specs.Passes.{AllAre}
use Rattle.sctp_tx_outstanding.specs.LastBlocks.{Rests, Rest}
use Rattle.sctp_tx_outstanding.proofs.ReceivedLemmas.{still, state_of_lem, rest_changed, rest_laid}
use Rattle.sctp_tx_outstanding.specs.Flights.{flies_at, NoneFlies}
use Rattle.sctp_tx_outstanding.proofs.FlightsLemmas.{passed}

-- ---- what blocks cover isn't outstanding

quiet_at : (bs : List GapAckBlock) (k offset next : ℕ) (is : List Item) → next ≡ k + offset → Rest bs offset is → is_covered bs next ≡ true → flies_at k is ≡ false
quiet_at bs zero offset next [] e h c = refl
quiet_at bs (suc k) offset next [] e h c = refl
quiet_at bs zero offset next (i ∷ is) e h c =
    let at : next ≡ offset = omega (arith, e) in
    let here : is_covered bs offset ≡ true = subst (λ n. is_covered bs n ≡ true) at c in
    still i.state (state_of_lem (ack i) i (subst (λ b. Rests b i) here h.0))
quiet_at bs (suc k) offset next (i ∷ is) e h c = quiet_at bs k (suc offset) next is (omega (arith, e)) h.1 c

pub covered_quiet : (bs : List GapAckBlock) (place next : ℕ) (is : List Item) → Rest bs 1 is → AllAre true bs 1 place next → NoneFlies place next is
covered_quiet bs place next is h c = λ k le less. quiet_at bs k 1 (k + 1) is refl h (c k le less)

-- a walk over those from `from` on goes on to `uncovered`, and from there to `flight`
pub quiet_on : (bs : List GapAckBlock) (place from uncovered flight : ℕ) (is js : List Item) → js ≡ is → Rest bs 1 is → NoneFlies place from is → AllAre true bs 1 from uncovered → NoneFlies uncovered flight js
    → NoneFlies place flight is
quiet_on bs place from uncovered flight is js same rest none covered more k begin end = elim (cases_lt k from) [
  | inl before ↦ none k begin before
  | inr le ↦ elim (cases_lt k uncovered) [
    | inl within ↦ covered_quiet bs from uncovered is rest covered k le within
    | inr behind ↦ subst (λ xs. flies_at k xs ≡ false) same (more k behind end)
  ]
]

pub quiet_less : (place count next : ℕ) (is : List Item) → count ≤ next → NoneFlies place next is → NoneFlies place count is
quiet_less place count next is le h = λ k from less. h k from (omega (arith, le, less))

pub quiet_nowhere : (place count : ℕ) (is : List Item) → count ≤ place → NoneFlies place count is
quiet_nowhere place count is le = λ k from less. absurd (omega (arith, le, from, less))

-- ---- reports leave the items as the blocks say

rest_behind : (bs : List GapAckBlock) (offset : ℕ) (is js : List Item) → ((o : ℕ) → Rest bs o js) → Rest bs offset is → Rest bs offset (is ++ js)
rest_behind bs offset [] js behind h = behind offset
rest_behind bs offset (i ∷ is) js behind h = (h.0, rest_behind bs (suc offset) is js behind h.1)

rests_placed : (c : Bool) (number : ℕ) (f : FragmentTree) → Rests c (placeholder number f)
rests_placed true number f = refl
rests_placed false number f = refl

rest_one : (bs : List GapAckBlock) (offset : ℕ) (b : Bool) (i : Item) → ((c : Bool) → Rests c i) → Rest bs offset (cond b [] (i ∷ []))
rest_one bs offset true i h = tt
rest_one bs offset false i h = (h (is_covered bs offset), tt)

rest_placed : (bs : List GapAckBlock) (number offset : ℕ) (o : Option FragmentTree) → Rest bs offset (placeholders number o)
rest_placed bs number offset None = tt
rest_placed bs number offset (Some f) = rest_one bs offset f.is_end (placeholder number f) (λ c. rests_placed c number f)

module _ {P : Type 0} (indication : MissIndication) (fast : Bool) (bs : List GapAckBlock) where
  rest_cond : (b : Bool) (y z : Step P) → Rest bs 1 y.items.kept → Rest bs 1 z.items.kept → Rest bs 1 (cond b y z).items.kept
  rest_cond true y z h k = h
  rest_cond false y z h k = k

  rest_item : (k : ℕ) (x : Step P) (i : Item) → Rest bs 1 x.items.kept → Rest bs 1 (nack_item indication fast k i x).items.kept
  rest_item k x i h =
      let more = placeholders i.number (last_of i.number x.items.kept) in
      rest_cond (is_to_be_abandoned x.items.is_partial indication i) (abandon_with_record i.number (Retransmissions (i.sent - 1)) x)
      (record x { items = change_items k (nack indication fast) x.items; is_lossy = x.is_lossy || loses indication i })
      (rest_laid bs 1 i.number (x.items.kept ++ more) (rest_behind bs 1 x.items.kept more (λ o. rest_placed bs i.number o (last_of i.number x.items.kept)) h))
      (rest_changed bs (changes.Nack indication fast) 1 k x.items.kept refl h)

  rest_option : (k : ℕ) (x : Step P) (o : Option Item) → Rest bs 1 x.items.kept → Rest bs 1 (unwrap_or (option_map (λ i. nack_item indication fast k i x) o) x).items.kept
  rest_option k x None h = h
  rest_option k x (Some i) h = rest_item k x i h

  pub rest_at : (k : ℕ) (x : Step P) → Rest bs 1 x.items.kept → Rest bs 1 (nack_at indication fast k x).items.kept
  rest_at k x h = rest_option k x (slice_get x.items.kept k) h

  -- one report more
  pub rest_next : (k : ℕ) (x : Step P) → Rest bs 1 (nack_below indication fast k x).items.kept → Rest bs 1 (nack_below indication fast (k + 1) x).items.kept
  rest_next k x h =
      let one : suc k ≡ k + 1 = omega arith in
      subst (λ n. Rest bs 1 (nack_below indication fast n x).items.kept) one (rest_at k (nack_below indication fast k x) h)

-- ---- the walk goes on behind items that aren't outstanding

module _ {P : Type 0} (indication : MissIndication) (fast : Bool) (bs : List GapAckBlock) (s : Items) (emitted : Emitted P) (place next : ℕ) (le : place ≤ next)
    (rest : Rest bs 1 (nack_below indication fast place (first_step s emitted)).items.kept) (none : NoneFlies place next (nack_below indication fast place (first_step s emitted)).items.kept) where
  same : nack_below indication fast next (first_step s emitted) ≡ nack_below indication fast place (first_step s emitted)
  same = passed indication fast (first_step s emitted) place next le none

  pub passed_items : (d now : Outstanding) → now ≡ record d { items = (nack_below indication fast place (first_step s emitted)).items } → now ≡ record d { items = (nack_below indication fast next (first_step s emitted)).items }
  passed_items d now is_now = is_now ∙ ap (λ (y : Step P). record d { items = y.items }) (sym same)

  pub passed_emitted : (now : Emitted P) → now ≡ (nack_below indication fast place (first_step s emitted)).emitted → now ≡ (nack_below indication fast next (first_step s emitted)).emitted
  passed_emitted now is_now = is_now ∙ ap (λ (y : Step P). y.emitted) (sym same)

  pub passed_lossy : (now : Bool) → now ≡ (nack_below indication fast place (first_step s emitted)).is_lossy → now ≡ (nack_below indication fast next (first_step s emitted)).is_lossy
  passed_lossy now is_now = is_now ∙ ap (λ (y : Step P). y.is_lossy) (sym same)

  pub passed_rest : Rest bs 1 (nack_below indication fast (next + 1) (first_step s emitted)).items.kept
  passed_rest = rest_next indication fast bs next (first_step s emitted) (subst (λ (y : Step P). Rest bs 1 y.items.kept) (sym same) rest)
