-- What is delivered before and behind a block of the log, is delivered within it.
use Rattle.std.proofs.Common.{◌≡◌, ◌⊎◌, inl, inr, ℕ, zero, suc, ◌<◌, ◌≤◌, ◌==◌, ◌||◌, Bool, true, false, Option, Some, None, List, [], ◌∷◌, ◌++◌, length, map, take, refl, sym, ap, subst, ◌∙◌, append-nil, arith}
use Rattle.std.specs.Prelude.{slice_index, option_map, slice_get}
use Rattle.std.proofs.lemmas.Bool.{cases_lt, eqb-true, or_right, or_cases}
use Rattle.std.proofs.lemmas.Option.{slice_get_within}
use Rattle.sctp_serial.specs.Messages.{Message}
use Rattle.proof_protocol.specs.State.{has}
use Rattle.proof_protocol.proofs.ToolsLemmas.{has_at, has_keeps, not_both}
use Rattle.proof_delivery.specs.Accepted.{AcceptedMessage}
use Rattle.proof_delivery.specs.Delivery.{message_at, Fits, SkippedAreGivenUp, IsReady}
use Rattle.proof_world.proofs.PrefixLemmas.{split_head, split_tail, length_front, index_front, fits_front}

-- so far: what is offered, ready, given up and reported, by the beginning of these places
pub record IsDelivered (offers : List AcceptedMessage) (ready : List Message) (given_up reported places : List ℕ) : Type 0 where
  pub fits : Fits offers ready (take (length ready) places)
  pub skipped : SkippedAreGivenUp offers given_up (take (length ready) places)
  pub reports : (id : ℕ) → has id reported ≡ true → IsReady offers (take (length ready) places) id

pub same_delivered : (o p : List AcceptedMessage) (m n : List Message) (g h r s places : List ℕ) → p ≡ o → n ≡ m → h ≡ g → s ≡ r → IsDelivered o m g r places → IsDelivered p n h s places
same_delivered o p m n g h r s places a b c d i =
    subst (λ (z : List AcceptedMessage). IsDelivered z n h s places) (sym a)
    (subst (λ (z : List Message). IsDelivered o z h s places) (sym b)
    (subst (λ (z : List ℕ). IsDelivered o m z s places) (sym c) (subst (λ (z : List ℕ). IsDelivered o m g z places) (sym d) i)))

-- ---- places

pub record IsAt (p : ℕ) (xs : List ℕ) : Type 0 where
  pub index : ℕ
  pub within : index < length xs
  pub there : slice_index xs index ≡ p

found : (p : ℕ) (xs : List ℕ) → has p xs ≡ true → IsAt p xs
found p [] h = cc
found p (q ∷ xs) h =
    elim (or_cases (p == q) (has p xs) h) [
      | inl e ↦ record { index = 0; within = omega arith; there = sym (eqb-true p q e) }
      | inr e ↦ let f = found p xs e in record { index = suc f.index; within = let l = f.within in omega (arith, l); there = f.there }
    ]

has_front : (p m n : ℕ) (xs : List ℕ) → m ≤ n → has p (take m xs) ≡ true → has p (take n xs) ≡ true
has_front p zero n xs l h = cc
has_front p (suc m) zero xs l h = absurd (omega (arith, l))
has_front p (suc m) (suc n) [] l h = cc
has_front p (suc m) (suc n) (x ∷ xs) l h =
    elim (or_cases (p == x) (has p (take m xs)) h) [
      | inl e ↦ ap (λ (b : Bool). b || has p (take n xs)) e
      | inr e ↦ or_right (p == x) (has p (take n xs)) (has_front p m n xs (omega (arith, l)) e)
    ]

-- ---- fewer are ready

-- of one stream, a place that comes later is larger
skipped_shorter : (offers : List AcceptedMessage) (ready : List Message) (given_up places : List ℕ) (m n : ℕ) → m ≤ n → Fits offers ready (take n places) → SkippedAreGivenUp offers given_up (take n places)
    → SkippedAreGivenUp offers given_up (take m places)
skipped_shorter offers ready given_up places m n small f skipped p q o r first second line less is_ready not_ready = go (has p (take n places)) refl
  where
    k : IsAt q (take m places)
    k = found q (take m places) is_ready

    at_k : slice_index (take n places) k.index ≡ q
    at_k = sym (index_front m n places k.index small k.within) ∙ k.there

    later : (j : IsAt p (take n places)) → (j.index < length (take m places)) ⊎ (length (take m places) ≤ j.index) → ⊥
    later j (inl l) =
        not_both
        (subst (λ (z : ℕ). has z (take m places) ≡ true) (index_front m n places j.index small l ∙ j.there) (has_at (take m places) j.index l)) not_ready
    later j (inr l) =
        let within = k.within in
        let up : slice_index (take n places) k.index < slice_index (take n places) j.index =
        f.rising k.index j.index (omega (arith, within, l)) j.within r o
        (ap (slice_get offers) at_k ∙ second) (ap (slice_get offers) j.there ∙ first)
        (record { first = line.second; second = line.first; stream = sym line.stream }) in
        let there = j.there in
        omega (arith, up, at_k, there, less)

    go : (b : Bool) → has p (take n places) ≡ b → has p given_up ≡ true
    go false e = skipped p q o r first second line less (has_front q m n places small is_ready) e
    go true e = let j = found p (take n places) e in absurd (later j (cases_lt j.index (length (take m places))))

ready_longer : (offers : List AcceptedMessage) (places : List ℕ) (m n id : ℕ) → m ≤ n → IsReady offers (take m places) id → IsReady offers (take n places) id
ready_longer offers places m n id small i =
    record { place = i.place; offer = i.offer; there = i.there; its_id = i.its_id; is_ready = has_front i.place m n places small i.is_ready }

-- in a block of the end at which they become ready
pub ready_between : (offers : List AcceptedMessage) (before here after more behind : List Message) (given_up reported places : List ℕ) → here ≡ before ++ more → after ≡ here ++ behind
    → IsDelivered offers before given_up reported places → IsDelivered offers after given_up reported places → IsDelivered offers here given_up reported places
ready_between offers before here after more behind given_up reported places e f h k = record {
  fits = fits_front offers after here behind places f k.fits;
  skipped = skipped_shorter offers after given_up places (length here) (length after) (shorter here after behind f) k.fits k.skipped;
  reports = λ id is_reported. ready_longer offers places (length before) (length here) id (shorter before here more e) (h.reports id is_reported);
}
  where
    shorter : (short long rest : List Message) → long ≡ short ++ rest → length short ≤ length long
    shorter short long rest e = let h = length_front short rest in let s = ap length e in omega (arith, h, s)

-- ---- more is offered, given up, reported

get_front : (xs ys : List AcceptedMessage) (p : ℕ) → p < length xs → slice_get (xs ++ ys) p ≡ slice_get xs p
get_front [] ys p l = absurd (omega (arith, l))
get_front (x ∷ xs) ys zero l = refl
get_front (x ∷ xs) ys (suc p) l = get_front xs ys p (omega (arith, l))

offered_at : (offers : List AcceptedMessage) (p : ℕ) (m : Message) (o : Option AcceptedMessage) → slice_get offers p ≡ o → option_map (λ (z : AcceptedMessage). z.message) o ≡ Some m → p < length offers
offered_at offers p m None e h = cc
offered_at offers p m (Some o) e h = slice_get_within offers p o e

-- what is ready was offered
placed : (offers : List AcceptedMessage) (places : List ℕ) (ready : List Message) → map (message_at offers) places ≡ map (λ (m : Message). Some m) ready → (q : ℕ) → has q places ≡ true
    → q < length offers
placed offers [] ready e q h = cc
placed offers (p ∷ places) [] e q h = cc
placed offers (p ∷ places) (m ∷ ready) e q h =
    elim (or_cases (q == p) (has q places) h) [
      | inl same ↦ let l = offered_at offers p m (slice_get offers p) refl (front e) in let s = eqb-true q p same in omega (arith, l, s)
      | inr later ↦ placed offers places ready (rest e) q later
    ]
  where
    front : {x y : Option Message} {xs ys : List (Option Message)} → x ∷ xs ≡ y ∷ ys → x ≡ y
    front {x} {y} {xs} {ys} e = ap (λ (l : List (Option Message)). elim l [ [] ↦ x | z ∷ zs ↦ z ]) e

    rest : {x y : Option Message} {xs ys : List (Option Message)} → x ∷ xs ≡ y ∷ ys → xs ≡ ys
    rest {x} {y} {xs} {ys} e = ap (λ (l : List (Option Message)). elim l [ [] ↦ xs | z ∷ zs ↦ zs ]) e

skipped_more : (offers more : List AcceptedMessage) (ready : List Message) (given_up new places : List ℕ) → Fits offers ready places → SkippedAreGivenUp offers given_up places
    → SkippedAreGivenUp (offers ++ more) (given_up ++ new) places
skipped_more offers more ready given_up new places f skipped p q o r first second line less is_ready not_ready =
    let l = placed offers places ready f.alike q is_ready in
    has_keeps p given_up new
    (skipped p q o r (sym (get_front offers more p (omega (arith, l, less))) ∙ first) (sym (get_front offers more q l) ∙ second) line less is_ready not_ready)

-- in a block of the end that offers
pub emitted_between : (offers more after : List AcceptedMessage) (ready : List Message) (given_up new last reported later all_reported places : List ℕ) → after ≡ offers ++ more → all_reported ≡ reported ++ later
    → {earlier : List ℕ} → IsDelivered offers ready given_up earlier places → IsDelivered after ready last all_reported places → IsDelivered after ready (given_up ++ new) reported places
emitted_between offers more after ready given_up new last reported later all_reported places e f h k = record {
  fits = k.fits;
  skipped = subst (λ (o : List AcceptedMessage). SkippedAreGivenUp o (given_up ++ new) (take (length ready) places)) (sym e) (skipped_more offers more ready given_up new (take (length ready) places) h.fits h.skipped);
  reports = λ id is. k.reports id (ap (has id) f ∙ has_keeps id reported later is);
}

-- ---- more is offered, and nothing becomes ready

alike_more : (offers more : List AcceptedMessage) (places : List ℕ) (ready : List Message) → map (message_at offers) places ≡ map (λ (m : Message). Some m) ready
    → map (message_at (offers ++ more)) places ≡ map (λ (m : Message). Some m) ready
alike_more offers more [] ready e = e
alike_more offers more (p ∷ places) [] e = cc
alike_more offers more (p ∷ places) (m ∷ ready) e =
    let here : message_at offers p ≡ Some m = split_head (message_at offers p) (Some m) (map (message_at offers) places) (map (λ (m : Message). Some m) ready) e in
    let l = offered_at offers p m (slice_get offers p) refl here in
    ap (λ (o : Option AcceptedMessage). option_map (λ (z : AcceptedMessage). z.message) o ∷ map (message_at (offers ++ more)) places) (get_front offers more p l)
    ∙ (ap (λ (z : Option Message). z ∷ map (message_at (offers ++ more)) places) here
    ∙ ap (λ (l : List (Option Message)). Some m ∷ l)
    (alike_more offers more places ready (split_tail (message_at offers p) (Some m) (map (message_at offers) places) (map (λ (m : Message). Some m) ready) e)))

fits_more : (offers more : List AcceptedMessage) (ready : List Message) (places : List ℕ) → Fits offers ready places → Fits (offers ++ more) ready places
fits_more offers more ready places f = record {
  alike = alike_more offers more places ready f.alike;
  distinct = f.distinct;
  rising = λ j k l h o p first second line.
      f.rising j k l h o p (sym (same j (omega (arith, l, h))) ∙ first) (sym (same k h) ∙ second) line;
}
  where
    same : (k : ℕ) → k < length places → slice_get (offers ++ more) (slice_index places k) ≡ slice_get offers (slice_index places k)
    same k h = get_front offers more (slice_index places k) (placed offers places ready f.alike (slice_index places k) (has_at places k h))

pub offered_between : (offers more : List AcceptedMessage) (ready : List Message) (given_up reported all_reported places : List ℕ) → IsDelivered offers ready given_up reported places
    → ((id : ℕ) → has id all_reported ≡ true → IsReady (offers ++ more) (take (length ready) places) id) → IsDelivered (offers ++ more) ready given_up all_reported places
offered_between offers more ready given_up reported all_reported places h reports = record {
  fits = fits_more offers more ready (take (length ready) places) h.fits;
  skipped =
      subst (λ (g : List ℕ). SkippedAreGivenUp (offers ++ more) g (take (length ready) places)) (append-nil given_up)
      (skipped_more offers more ready given_up [] (take (length ready) places) h.fits h.skipped);
  reports = reports;
}
