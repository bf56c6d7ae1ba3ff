-- Numbers that are moved on: differences stay, and so does what a number on the wire stands for.
use Rattle.std.proofs.Common.{◌≡◌, ℕ, ◌+◌, ◌-◌, ◌%◌, ◌<◌, inl, inr, sym, ◌∙◌, ap, arith}
use Rattle.std.proofs.lemmas.Bool.{cases_lt}
use Rattle.std.proofs.lemmas.Nat.{mod_below}
use Rattle.std.proofs.Math.Nat.{mod-eq_of_lt, mod-eq-sub-mod, mod-add-mod, add-mod_right}
use Rattle.sctp_serial.specs.SerialNumber.{serial_difference, serial_sum}
use Rattle.sctp_serial.specs.Unwrapped.{u32_space, wire, nearest, stepped}
use Rattle.proof_draws.specs.NamedChunks.{move_by}

-- sums that are taken round the circle in either order
pub sum_moved : (space a b d : ℕ) → ((a + d) % space + b) % space ≡ ((a + b) % space + d) % space
sum_moved space a b d =
    let swap : a + d + b ≡ a + b + d = omega arith in
    mod-add-mod (a + d) space b ∙ (ap (λ k. k % space) swap ∙ sym (mod-add-mod (a + b) space d))

-- how a number is written
pub moved_wire : (by first n : ℕ) → wire u32_space (move_by by first) n ≡ move_by by (wire u32_space first n)
moved_wire by first n = sum_moved u32_space first n by

-- both moved by less than a round
difference_near : (space a b d : ℕ) → b < space → d < space → serial_difference space (serial_sum space a d) (serial_sum space b d) ≡ serial_difference space a b
difference_near space a b d small less =
    elim (cases_lt (b + d) space) [
      | inl on ↦
          let at : (b + d) % space ≡ b + d = mod-eq_of_lt on in
          let apart : (a + d) % space + space - (b + d) % space ≡ (a + d) % space + (space - (b + d)) = omega (arith, at, on) in
          let back : a + d + (space - (b + d)) ≡ a + space - b = omega (arith, on) in
          ap (λ k. k % space) apart ∙ (mod-add-mod (a + d) space (space - (b + d)) ∙ ap (λ k. k % space) back)
      | inr over ↦
          let less_on : b + d - space < space = omega (arith, small, less, over) in
          let at : (b + d) % space ≡ b + d - space = mod-eq-sub-mod over ∙ mod-eq_of_lt less_on in
          let apart : (a + d) % space + space - (b + d) % space ≡ (a + d) % space + (space - (b + d - space)) = omega (arith, at, less_on) in
          let back : a + d + (space - (b + d - space)) ≡ a + space - b + space = omega (arith, over, small, less) in
          ap (λ k. k % space) apart ∙ (mod-add-mod (a + d) space (space - (b + d - space)) ∙ (ap (λ k. k % space) back ∙ add-mod_right (a + space - b) space))
    ]

-- by any number of rounds
pub difference_moved : (space a b d : ℕ) → b < space → serial_difference space (serial_sum space a d) (serial_sum space b d) ≡ serial_difference space a b
difference_moved space a b d small =
    let some : d % space < space = mod_below d space (omega (arith, small)) in
    let at : (k : ℕ) → (k + d) % space ≡ (k + d % space) % space =
    λ k. let turn : k + d ≡ d + k = omega arith in
    let back : d % space + k ≡ k + d % space = omega arith in
    ap (λ j. j % space) turn ∙ (sym (mod-add-mod d space k) ∙ ap (λ j. j % space) back) in
    ap (λ x. serial_difference space x (serial_sum space b d)) (at a)
    ∙ (ap (λ x. serial_difference space ((a + d % space) % space) x) (at b) ∙ difference_near space a b (d % space) small some)

-- what a TSN stands for near another number
pub moved_nearest : (by first near tsn : ℕ) → nearest u32_space (move_by by first) near (move_by by tsn) ≡ nearest u32_space first near tsn
moved_nearest by first near tsn =
    let small : wire u32_space first near < u32_space = mod_below (first + near) u32_space (omega arith) in
    ap (λ w. stepped u32_space near (serial_difference u32_space (move_by by tsn) w)) (moved_wire by first near)
    ∙ ap (λ d. stepped u32_space near d) (difference_moved u32_space tsn (wire u32_space first near) by small)
