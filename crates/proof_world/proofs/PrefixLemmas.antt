-- What fits a list of places, each beginning of it fits; and logs that are made of the actions of a trace.
use Rattle.std.proofs.Common.{◌≡◌, ◌⊎◌, inl, inr, ℕ, zero, suc, ◌<◌, ◌≤◌, Some, List, [], ◌∷◌, ◌++◌, length, map, take, refl, sym, ap, ◌∙◌, arith}
use Rattle.std.specs.Prelude.{slice_index, slice_get}
use Rattle.std.proofs.lemmas.List.{take-map, take_at}
use Rattle.sctp_serial.specs.Messages.{Message}
use Rattle.proof_delivery.specs.Accepted.{AcceptedMessage}
use Rattle.proof_delivery.specs.Delivery.{message_at, Fits}

-- ---- lists

pub split_head : {X : Type 0} (x y : X) (xs ys : List X) → x ∷ xs ≡ y ∷ ys → x ≡ y
split_head {X} x y xs ys e = ap (λ (l : List X). elim l [ [] ↦ x | z ∷ zs ↦ z ]) e

pub split_tail : {X : Type 0} (x y : X) (xs ys : List X) → x ∷ xs ≡ y ∷ ys → xs ≡ ys
split_tail {X} x y xs ys e = ap (λ (l : List X). elim l [ [] ↦ xs | z ∷ zs ↦ zs ]) e

pub none_before : {X : Type 0} (xs ys : List X) → xs ++ ys ≡ [] → xs ≡ []
none_before [] ys h = refl
none_before (x ∷ xs) ys h = cc

pub none_behind : {X : Type 0} (xs ys : List X) → xs ++ ys ≡ [] → ys ≡ []
none_behind [] ys h = h
none_behind (x ∷ xs) ys h = cc

pub record Longer {X : Type 0} (short long last : List X) (rest : List X) : Type 0 where
  pub between : List X
  pub made : long ≡ short ++ between
  pub behind : rest ≡ between ++ last

-- of two beginnings of a list one is the beginning of the other
pub one_is_longer : {X : Type 0} (a b c d : List X) → a ++ b ≡ c ++ d → Longer a c d b ⊎ Longer c a b d
one_is_longer [] b c d e = inl (record { between = c; made = refl; behind = e })
one_is_longer (x ∷ a) b [] d e = inr (record { between = x ∷ a; made = refl; behind = sym e })
one_is_longer {X} (x ∷ a) b (y ∷ c) d e = go (one_is_longer a b c d (split_tail x y (a ++ b) (c ++ d) e))
  where
    same : x ≡ y
    same = split_head x y (a ++ b) (c ++ d) e

    go : Longer a c d b ⊎ Longer c a b d → Longer (x ∷ a) (y ∷ c) d b ⊎ Longer (y ∷ c) (x ∷ a) b d
    go (inl h) = inl (record { between = h.between; made = ap (λ (z : X). z ∷ c) (sym same) ∙ ap (λ (l : List X). x ∷ l) h.made; behind = h.behind })
    go (inr h) = inr (record { between = h.between; made = ap (λ (z : X). z ∷ a) same ∙ ap (λ (l : List X). y ∷ l) h.made; behind = h.behind })

pub no_front : {X : Type 0} (xs ys zs : List X) → xs ++ ys ≡ zs → zs ≡ [] → xs ≡ []
no_front [] ys zs e f = refl
no_front (x ∷ xs) ys zs e f = cc

take_of_take : {X : Type 0} (m n : ℕ) (xs : List X) → m ≤ n → take m (take n xs) ≡ take m xs
take_of_take zero n xs l = refl
take_of_take (suc m) zero xs l = absurd (omega (arith, l))
take_of_take (suc m) (suc n) [] l = refl
take_of_take {X} (suc m) (suc n) (x ∷ xs) l = ap (λ (z : List X). x ∷ z) (take_of_take m n xs (omega (arith, l)))

pub length_front : {X : Type 0} (xs ys : List X) → length xs ≤ length (xs ++ ys)
length_front [] ys = omega arith
length_front (x ∷ xs) ys = let h = length_front xs ys in omega (arith, h)

length_shorter : {X : Type 0} (m n : ℕ) (xs : List X) → m ≤ n → length (take m xs) ≤ length (take n xs)
length_shorter zero n xs l = omega arith
length_shorter (suc m) zero xs l = absurd (omega (arith, l))
length_shorter (suc m) (suc n) [] l = omega arith
length_shorter (suc m) (suc n) (x ∷ xs) l = let h = length_shorter m n xs (omega (arith, l)) in omega (arith, h)

pub index_front : (m n : ℕ) (xs : List ℕ) (k : ℕ) → m ≤ n → k < length (take m xs) → slice_index (take m xs) k ≡ slice_index (take n xs) k
index_front zero n xs k l h = absurd (omega (arith, h))
index_front (suc m) zero xs k l h = absurd (omega (arith, l))
index_front (suc m) (suc n) [] k l h = absurd (omega (arith, h))
index_front (suc m) (suc n) (x ∷ xs) zero l h = refl
index_front (suc m) (suc n) (x ∷ xs) (suc k) l h = index_front m n xs k (omega (arith, l)) (omega (arith, h))

-- ---- a beginning of what is ready

module _ (offers : List AcceptedMessage) (ready front behind : List Message) (places : List ℕ) (split : ready ≡ front ++ behind) where
  shorter : length front ≤ length ready
  shorter = let h = length_front front behind in let e = ap length split in omega (arith, h, e)

  abbrev m : ℕ
  m = length front

  abbrev n : ℕ
  n = length ready

  pub fits_front : Fits offers ready (take n places) → Fits offers front (take m places)
  fits_front f = record {
    alike =
        ap (map (message_at offers)) (sym (take_of_take m n places shorter))
        ∙ (sym (take-map (message_at offers) m (take n places))
        ∙ (ap (take m) f.alike
        ∙ (take-map (λ (z : Message). Some z) m ready
        ∙ ap (map (λ (z : Message). Some z)) (ap (take m) split ∙ take_at front behind (length front) refl))));
    distinct = λ j k l h e.
        let below = length_shorter m n places shorter in
        f.distinct j k l (omega (arith, h, below))
        (sym (index_front m n places j shorter (omega (arith, l, h))) ∙ (e ∙ index_front m n places k shorter h));
    rising = λ j k l h o p first second line.
        let below = length_shorter m n places shorter in
        let at_j : slice_index (take m places) j ≡ slice_index (take n places) j = index_front m n places j shorter (omega (arith, l, h)) in
        let at_k : slice_index (take m places) k ≡ slice_index (take n places) k = index_front m n places k shorter h in
        let up = f.rising j k l (omega (arith, h, below)) o p (ap (slice_get offers) (sym at_j) ∙ first) (ap (slice_get offers) (sym at_k) ∙ second) line in
        omega (arith, up, at_j, at_k);
  }
