-- Packets of a burst, one after the other.
use Rattle.std.proofs.Common.{◌≡◌, ℕ, suc, ◌+◌, ◌-◌, ◌<◌, arith, Bool, true, false, refl, ap, ◌∙◌, sym}
use Rattle.std.specs.Prelude.{◌==◌}
use Rattle.std.proofs.lemmas.Bool.Decides.{nat_tests}
use Rattle.spec_endpoint.specs.Sending.{Filling, BurstStep, next_packet, continue_burst, burst}

goes_on : {P : Type 0} (rest : Filling P → Filling P) (t : BurstStep P) → t.is_more ≡ true → continue_burst rest t ≡ rest t.filling
goes_on rest t more = rw more refl

stops : {P : Type 0} (rest : Filling P → Filling P) (t : BurstStep P) → t.is_more ≡ false → continue_burst rest t ≡ t.filling
stops rest t none = rw none refl

-- after packet k of n, which another may follow
pub burst_on : {P : Type 0} (n k : ℕ) (is_first is_alone more : Bool) (x y : Filling P) → k < n → y ≡ (next_packet is_first is_alone x).filling
    → more ≡ (next_packet is_first is_alone x).is_more → more ≡ true → burst (n - k) is_first is_alone x ≡ burst (n - (k + 1)) false is_alone y
burst_on n k is_first is_alone more x y lt e said is =
    let left : n - k ≡ suc (n - (k + 1)) = omega (arith, lt) in
    rw left (goes_on (burst (n - (k + 1)) false is_alone) (next_packet is_first is_alone x) (sym said ∙ is) ∙ ap (burst (n - (k + 1)) false is_alone) (sym e))

-- after the last one
pub burst_off : {P : Type 0} (n k : ℕ) (is_first is_alone more : Bool) (x y : Filling P) → k < n → y ≡ (next_packet is_first is_alone x).filling
    → more ≡ (next_packet is_first is_alone x).is_more → more ≡ false → y ≡ burst (n - k) is_first is_alone x
burst_off n k is_first is_alone more x y lt e said is =
    let left : n - k ≡ suc (n - (k + 1)) = omega (arith, lt) in
    rw left (e ∙ sym (stops (burst (n - (k + 1)) false is_alone) (next_packet is_first is_alone x) (sym said ∙ is)))

pub not_first : (k : ℕ) → (k + 1 == 0) ≡ false
not_first k = grind (arith, nat_tests)
