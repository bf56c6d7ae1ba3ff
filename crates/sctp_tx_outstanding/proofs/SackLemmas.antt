-- A walk through items and blocks.
use Rattle.std.proofs.Common.{◌≡◌, ℕ, zero, suc, ◌+◌, ◌<◌, ◌≤◌, ◌||◌, Bool, false, cond, List, [], ◌∷◌, length, drop, slice_index_or, min, refl, ap, sym, subst, ◌∙◌, arith}
use Rattle.std.specs.Prelude.{slice_get}
use Rattle.std.proofs.Math.Seq.{drop-cons}
use Rattle.sctp_chunk.specs.declared.sack.GapAckBlock.{GapAckBlock}
use Rattle.sctp_chunk.specs.Covered.{is_covered, covers, AreRuns}
use Rattle.sctp_tx_outstanding.specs.Item.{Item}
use Rattle.sctp_tx_outstanding.specs.OutstandingData.{Kept, change_at}
use Rattle.sctp_tx_outstanding.specs.Sack.{ack_or_uncover, is_new_at, new_bytes_at, newly_of, bytes_of}
use Rattle.sctp_tx_outstanding.specs.Passes.{IsCursor, ack_or_uncover_from, acked_from, below_from}
use Rattle.sctp_chunk.proofs.SackLemmas.{is_covered_below}

-- ---- blocks

uncovered_first : (lowest o : ℕ) (b : GapAckBlock) (bs : List GapAckBlock) → AreRuns lowest (b ∷ bs) → o < b.start → is_covered (b ∷ bs) o ≡ false
uncovered_first lowest o b bs h less = is_covered_below b.start o (b ∷ bs) (omega arith, h.1, h.2) less

pub uncovered_at : (bs : List GapAckBlock) (at offset o : ℕ) (d : GapAckBlock) → IsCursor bs offset at → at < length bs → offset ≤ o → o < (slice_index_or bs at d).start → is_covered bs o ≡ false
uncovered_at bs at offset o d h less le before =
    let e : drop at bs ≡ slice_index_or bs at d ∷ drop (suc at) bs = drop-cons bs at d less in
    let order = subst (λ cs. AreRuns h.lowest cs) e h.order in
    sym (h.same o le) ∙ ap (λ cs. is_covered cs o) e ∙ uncovered_first h.lowest o (slice_index_or bs at d) (drop (suc at) bs) order before

-- one block more
pub alike_next : (b : GapAckBlock) (bs cs : List GapAckBlock) (place next here : ℕ) → cs ≡ b ∷ bs → ((p : ℕ) → place ≤ p → p < here → covers (p + 1) b ≡ covers (place + 1) b)
    → ((p : ℕ) → place ≤ p → p < next → is_covered bs (p + 1) ≡ is_covered bs (place + 1)) → (p : ℕ) → place ≤ p → p < min next here → is_covered cs (p + 1) ≡ is_covered cs (place + 1)
alike_next b bs cs place next here e first rest = λ p le less.
    ap (λ (xs : List GapAckBlock). is_covered xs (p + 1)) e
    ∙ ap (λ t. t || is_covered bs (p + 1)) (first p le (omega (arith, less)))
    ∙ ap (λ t. covers (place + 1) b || t) (rest p le (omega (arith, less))) ∙ ap (λ (xs : List GapAckBlock). is_covered xs (place + 1)) (sym e)

-- ---- items

pub settle_next : (bs : List GapAckBlock) (k offset : ℕ) (is : List Item) → ack_or_uncover_from bs (suc k) (suc offset) (change_at k (ack_or_uncover (is_covered bs offset)) is) ≡ ack_or_uncover_from bs k offset is
settle_next bs zero offset [] = refl
settle_next bs zero offset (i ∷ is) = refl
settle_next bs (suc k) offset [] = refl
settle_next bs (suc k) offset (i ∷ is) = ap (λ js. i ∷ js) (settle_next bs k offset is)

pub acked_next : (bs : List GapAckBlock) (m : Bool) (f : Item → Item) (k offset : ℕ) (is : List Item)
    → bytes_of (is_covered bs offset) m (slice_get is k) + acked_from bs m (suc k) (suc offset) (change_at k f is) ≡ acked_from bs m k offset is
acked_next bs m f zero offset [] = refl
acked_next bs m f zero offset (i ∷ is) = refl
acked_next bs m f (suc k) offset [] = refl
acked_next bs m f (suc k) offset (i ∷ is) = acked_next bs m f k offset is

pub below_next : (bs : List GapAckBlock) (f : Item → Item) (k offset place most : ℕ) (is : List Item) → k < length is
    → below_from bs (suc k) (suc offset) (suc place) (cond (newly_of (is_covered bs offset) (slice_get is k)) place most) (change_at k f is) ≡ below_from bs k offset place most is
below_next bs f zero offset place most [] h = absurd (omega (arith, h))
below_next bs f zero offset place most (i ∷ is) h = refl
below_next bs f (suc k) offset place most [] h = absurd (omega (arith, h))
below_next bs f (suc k) offset place most (i ∷ is) h = below_next bs f k offset place most is (omega (arith, h))

-- ---- one item more

up : (k : ℕ) → k + 1 ≡ suc k
up k = omega arith

pub settle_step : (bs : List GapAckBlock) (k : ℕ) (is js : List Item) → js ≡ change_at k (ack_or_uncover (is_covered bs (k + 1))) is → ack_or_uncover_from bs (k + 1) (k + 1 + 1) js ≡ ack_or_uncover_from bs k (k + 1) is
settle_step bs k is js e =
    ap (λ xs. ack_or_uncover_from bs (k + 1) (k + 1 + 1) xs) e
    ∙ ap (λ n. ack_or_uncover_from bs n (k + 1 + 1) (change_at k (ack_or_uncover (is_covered bs (k + 1))) is)) (up k)
    ∙ ap (λ n. ack_or_uncover_from bs (suc k) n (change_at k (ack_or_uncover (is_covered bs (k + 1))) is)) (up (k + 1)) ∙ settle_next bs k (k + 1) is

pub acked_step : (bs : List GapAckBlock) (m : Bool) (f : Item → Item) (k : ℕ) (is js : List Item) → js ≡ change_at k f is
    → new_bytes_at bs m k is + acked_from bs m (k + 1) (k + 1 + 1) js ≡ acked_from bs m k (k + 1) is
acked_step bs m f k is js e =
    ap (λ xs. new_bytes_at bs m k is + acked_from bs m (k + 1) (k + 1 + 1) xs) e
    ∙ ap (λ n. new_bytes_at bs m k is + acked_from bs m n (k + 1 + 1) (change_at k f is)) (up k)
    ∙ ap (λ n. new_bytes_at bs m k is + acked_from bs m (suc k) n (change_at k f is)) (up (k + 1)) ∙ acked_next bs m f k (k + 1) is

pub below_step : (bs : List GapAckBlock) (f : Item → Item) (k most next : ℕ) (is js : List Item) → k < length is → js ≡ change_at k f is → next ≡ cond (is_new_at bs k is) k most
    → below_from bs (k + 1) (k + 1 + 1) (k + 1) next js ≡ below_from bs k (k + 1) k most is
below_step bs f k most next is js h e is_next =
    ap (λ n. below_from bs (k + 1) (k + 1 + 1) (k + 1) n js) is_next
    ∙ ap (λ xs. below_from bs (k + 1) (k + 1 + 1) (k + 1) (cond (is_new_at bs k is) k most) xs) e
    ∙ ap (λ n. below_from bs n (k + 1 + 1) (k + 1) (cond (is_new_at bs k is) k most) (change_at k f is)) (up k)
    ∙ ap (λ n. below_from bs (suc k) n (k + 1) (cond (is_new_at bs k is) k most) (change_at k f is)) (up (k + 1))
    ∙ ap (λ n. below_from bs (suc k) (suc (k + 1)) n (cond (is_new_at bs k is) k most) (change_at k f is)) (up k) ∙ below_next bs f k (k + 1) k most is h

pub summed : (bytes more rest next whole most : ℕ) → next ≡ min (bytes + more) most → min (bytes + (more + rest)) most ≡ whole → min (next + rest) most ≡ whole
summed bytes more rest next whole most a b = omega (arith, a, b)

pub kept_as : (k : Kept) (m : Bool) (is : List Item) → k.is_interleaved ≡ m → k.items ≡ is → k ≡ record { is_interleaved = m; items = is }
kept_as k m is a b = λ i. record { is_interleaved = a i; items = b i }
