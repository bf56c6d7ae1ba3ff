-- Steps on a circle of any size.
use Rattle.std.proofs.Common.{◌≡◌, ℕ, ◌+◌, ◌-◌, ◌/◌, ◌%◌, ◌<◌, ◌≤◌, ◌⊎◌, inl, inr, sym, ◌∙◌, ap, subst, refl, arith}
use Rattle.std.proofs.lemmas.Bool.{cases_lt, lt-ltb, le-ltb}
use Rattle.std.proofs.lemmas.Nat.{mod_below}
use Rattle.std.proofs.Math.Nat.{mod-eq_of_lt, mod-eq-sub-mod, mod-add-mod, add-mod_right}
use Rattle.sctp_serial.specs.SerialNumber.{IsGreater, serial_difference, serial_sum}
use Rattle.sctp_serial.specs.Unwrapped.{IsNearest, nearest, stepped, wire}

-- fewer steps than the space go round at most once
pub wraps_once : (space x d : ℕ) → d < space → ((x + d) % space ≡ x % space + d) ⊎ (((x + d) % space + space ≡ x % space + d))
wraps_once space x d small =
    let below : x % space < space = mod_below x space (omega (arith, small)) in
    let parts : (x % space + d) % space ≡ (x + d) % space = mod-add-mod x space d in
    elim (cases_lt (x % space + d) space) [
      | inl fits ↦ inl (sym parts ∙ mod-eq_of_lt fits)
      | inr over ↦
          let less : x % space + d - space < space = omega (arith, below, small, over) in
          let cut : (x + d) % space ≡ x % space + d - space = sym parts ∙ mod-eq-sub-mod over ∙ mod-eq_of_lt less in
          inr (omega (arith, cut, over))
    ]

-- what is d steps on is d ahead
pub difference_ahead : (space first n d : ℕ) → d < space → serial_difference space (wire space first (n + d)) (wire space first n) ≡ d
difference_ahead space first n d small =
    let below : (first + n) % space < space = mod_below (first + n) space (omega (arith, small)) in
    let same : first + (n + d) ≡ first + n + d = omega arith in
    elim (wraps_once space (first + n) d small) [
      | inl on ↦
          let here : (first + (n + d)) % space + space - (first + n) % space ≡ d + space = rw (same, on) (omega arith) in
          ap (λ k. k % space) here ∙ add-mod_right d space ∙ mod-eq_of_lt small
      | inr over ↦
          let here : (first + (n + d)) % space + space - (first + n) % space ≡ d = rw same (omega (arith, over, below)) in
          ap (λ k. k % space) here ∙ mod-eq_of_lt small
    ]

-- and what it began at is the rest of the circle ahead
pub difference_behind : (space first n d : ℕ) → 0 < d → d < space → serial_difference space (wire space first n) (wire space first (n + d)) ≡ space - d
difference_behind space first n d some small =
    let below : (first + n) % space < space = mod_below (first + n) space (omega (arith, small)) in
    let same : first + (n + d) ≡ first + n + d = omega arith in
    let rest : space - d < space = omega (arith, some, small) in
    elim (wraps_once space (first + n) d small) [
      | inl on ↦
          let here : (first + n) % space + space - (first + (n + d)) % space ≡ space - d = rw (same, on) (omega arith) in
          ap (λ k. k % space) here ∙ mod-eq_of_lt rest
      | inr over ↦
          let here : (first + n) % space + space - (first + (n + d)) % space ≡ space - d + space = rw same (omega (arith, over, below, small)) in
          ap (λ k. k % space) here ∙ add-mod_right (space - d) space ∙ mod-eq_of_lt rest
    ]

-- a number less than half the space away, or exactly half below, is told from how it is written
pub nearest_ahead : (space first near d : ℕ) → d < space / 2 → nearest space first near (wire space first (near + d)) ≡ near + d
nearest_ahead space first near d close =
    let here : stepped space near d ≡ near + d = rw (lt-ltb d (space / 2) close) refl in
    ap (stepped space near) (difference_ahead space first near d (omega (arith, close))) ∙ here

pub nearest_behind : (space first n d : ℕ) → space ≤ n + d → 0 < d → d ≤ space / 2 → nearest space first (n + d) (wire space first n) ≡ n
nearest_behind space first n d room some close =
    let far : space / 2 ≤ space - d = omega (arith, close) in
    let here : stepped space (n + d) (space - d) ≡ n = rw (le-ltb (space - d) (space / 2) far) (omega (arith, close, room)) in
    ap (stepped space (n + d)) (difference_behind space first n d some (omega (arith, some, close))) ∙ here

pub nearest_wire : (space first near n : ℕ) → space ≤ near → n < near + space / 2 → near ≤ n + space / 2 → nearest space first near (wire space first n) ≡ n
nearest_wire space first near n room above below =
    elim (cases_lt n near) [
      | inl behind ↦
          let at : n + (near - n) ≡ near = omega (arith, behind) in
          let P : ℕ → Type 0 = λ m. nearest space first m (wire space first n) ≡ n in
          subst P at (nearest_behind space first n (near - n) (omega (arith, at, room)) (omega (arith, behind)) (omega (arith, below)))
      | inr onward ↦
          let at : near + (n - near) ≡ n = omega (arith, onward) in
          let P : ℕ → Type 0 = λ m. nearest space first near (wire space first m) ≡ m in
          subst P at (nearest_ahead space first near (n - near) (omega (arith, above, onward)))
    ]

-- so the number does not depend on the first one that was drawn
pub nearest_shifted : (space first other near n : ℕ) → space ≤ near → n < near + space / 2 → near ≤ n + space / 2 → nearest space first near (wire space first n) ≡ nearest space other near (wire space other n)
nearest_shifted space first other near n room above below =
    nearest_wire space first near n room above below ∙ sym (nearest_wire space other near n room above below)

-- the steps ahead lead there
pub wire_ahead : (space first near w : ℕ) → w < space → wire space first (near + serial_difference space w (wire space first near)) ≡ w
wire_ahead space first near w small =
    let r : ℕ = (first + near) % space in
    let below : r < space = mod_below (first + near) space (omega (arith, small)) in
    let ahead : (d : ℕ) → d < space → (r + d ≡ w) ⊎ (r + d ≡ w + space) → wire space first (near + d) ≡ w =
    λ d less lands.
    let same : first + (near + d) ≡ first + near + d = omega arith in
    let here : (first + near + d) % space < space = mod_below (first + near + d) space (omega (arith, small)) in
    ap (λ k. k % space) same ∙ elim (wraps_once space (first + near) d less) [
      | inl on ↦ elim lands [ inl e ↦ omega (arith, on, e) | inr e ↦ omega (arith, on, e, here, small) ]
      | inr over ↦ elim lands [ inl e ↦ omega (arith, over, e, here, small) | inr e ↦ omega (arith, over, e) ]
    ] in
    elim (cases_lt w r) [
      | inl under ↦
          let less : w + space - r < space = omega (arith, under) in
          let P : ℕ → Type 0 = λ d. wire space first (near + d) ≡ w in
          subst P (sym (mod-eq_of_lt less)) (ahead (w + space - r) less (inr (omega (arith, below))))
      | inr past ↦
          let less : w - r < space = omega (arith, small) in
          let on : w + space - r ≡ w - r + space = omega (arith, past) in
          let P : ℕ → Type 0 = λ d. wire space first (near + d) ≡ w in
          subst P (sym (ap (λ k. k % space) on ∙ add-mod_right (w - r) space ∙ mod-eq_of_lt less)) (ahead (w - r) less (inl (omega (arith, past))))
    ]

-- `nearest` gives what its name says
pub IsNearest_stepped : (space first near w d : ℕ) → space % 2 ≡ 0 → d < space → space ≤ near → wire space first (near + d) ≡ w → IsNearest space first near w (stepped space near d)
IsNearest_stepped space first near w d even less room lands =
    elim (cases_lt d (space / 2)) [
      | inl close ↦
          let P : ℕ → Type 0 = λ n. IsNearest space first near w n in
          let at : near + d ≡ stepped space near d = sym (rw (lt-ltb d (space / 2) close) refl) in
          subst P at (record { written = lands; not_above = omega (arith, close); not_below = omega arith })
      | inr far ↦
          let P : ℕ → Type 0 = λ n. IsNearest space first near w n in
          let at : near + d - space ≡ stepped space near d = sym (rw (le-ltb d (space / 2) far) refl) in
          let back : first + (near + d - space) + space ≡ first + (near + d) = omega (arith, room) in
          let lower : wire space first (near + d - space) ≡ w =
          sym (add-mod_right (first + (near + d - space)) space) ∙ ap (λ k. k % space) back ∙ lands in
          subst P at (record { written = lower; not_above = omega (arith, less); not_below = omega (arith, even, far, room) })
    ]

pub IsNearest_nearest : (space first near w : ℕ) → space % 2 ≡ 0 → w < space → space ≤ near → IsNearest space first near w (nearest space first near w)
IsNearest_nearest space first near w even small room =
    let ahead : ℕ = serial_difference space w (wire space first near) in
    let less : ahead < space = mod_below (w + space - wire space first near) space (omega (arith, small)) in
    IsNearest_stepped space first near w ahead even less room (wire_ahead space first near w small)

-- from one base, offsets below half the space compare as integers
pub difference_sum : (space base i j : ℕ) → i < space / 2 → j ≤ i → serial_difference space (serial_sum space base i) (serial_sum space base j) ≡ i - j
difference_sum space base i j small le =
    let at : j + (i - j) ≡ i = omega (arith, le) in
    let P : ℕ → Type 0 = λ m. serial_difference space (serial_sum space base m) (serial_sum space base j) ≡ i - j in
    subst P at (difference_ahead space base j (i - j) (omega (arith, small)))

pub IsGreater_sum : (space base i j : ℕ) → i < space / 2 → j < i → IsGreater space (serial_sum space base i) (serial_sum space base j)
IsGreater_sum space base i j small less =
    let ahead = difference_sum space base i j small (omega (arith, less)) in
    (omega (arith, ahead, less), omega (arith, ahead, small))

pub lt_of_IsGreater_sum : (space base i j : ℕ) → i < space / 2 → j < space / 2 → IsGreater space (serial_sum space base i) (serial_sum space base j) → j < i
lt_of_IsGreater_sum space base i j first second greater =
    elim (cases_lt i j) [
      | inl past ↦
          let at : i + (j - i) ≡ j = omega (arith, past) in
          let P : ℕ → Type 0 = λ m. serial_difference space (serial_sum space base i) (serial_sum space base m) ≡ space - (j - i) in
          let rest : P j = subst P at (difference_behind space base i (j - i) (omega (arith, past)) (omega (arith, second))) in
          omega (arith, rest, greater.1, second, past)
      | inr le ↦ omega (arith, difference_sum space base i j first le, greater.0)
    ]
