-- What one more row says.
use Rattle.std.proofs.Common.{◌≡◌, ℕ, suc, zero, ◌+◌, ◌<◌, List, [], ◌∷◌, take, length, get_or, Vec, String, Global, cond, nat_cmp, refl, ap, sym, ◌∙◌, arith}
use Rattle.std.proofs.lemmas.Bool.Decides.{nat_tests}
use Rattle.std.specs.BTreeMap.{is_at}
use Rattle.std.specs.Option.{unwrap_or}
use Rattle.std.specs.Prelude.{Bool, true, false, ◌&&◌, ◌==◌, Option, Some, None, if◌then◌else◌}
use Rattle.sctp_trace.specs.declared.rows.End.{End}
use Rattle.sctp_trace.specs.declared.rows.What.{What}
use Rattle.sctp_trace.specs.declared.rows.What.TheVariants as kinds
use Rattle.sctp_trace.specs.declared.rows.Row.{Row}
use Rattle.sctp_trace.specs.Rows.{sends, sends_number}
use Rattle.sctp_trace.specs.Giving.{sending, sending_from}
use Rattle.sctp_serial.proofs.NumberLemmas.{at_equal}

-- what was found before stays; else the row may be the first
abbrev or_here : Option ℕ → Bool → ℕ → Option ℕ
or_here (Some row) is_sent here = Some row
or_here None is_sent here = if is_sent then Some here else None

here_first : (is_sent : Bool) (base : ℕ) → (if is_sent then Some base else None) ≡ or_here None is_sent (base + 0)
here_first true base = ap (λ (n : ℕ). Some n) (omega arith)
here_first false base = refl

found_here : (is_sent next : Bool) (base here other : ℕ) (front back : Option ℕ) → back ≡ or_here front next here → here ≡ other
    → (if is_sent then Some base else back) ≡ or_here (if is_sent then Some base else front) next other
found_here true next base here other front back e p = refl
found_here false next base here other front back e p = e ∙ ap (or_here front next) p

sending_more : (base i : ℕ) (from : End) (number : ℕ) (rows : List Row) (d : Row) → i < length rows
    → sending_from base from number (take (suc i) rows) ≡ or_here (sending_from base from number (take i rows)) (sends from number (get_or rows i d)) (base + i)
sending_more base i from number [] d inside = absurd (omega arith)
sending_more base zero from number (row ∷ rows) d inside = here_first (sends from number row) base
sending_more base (suc i) from number (row ∷ rows) d inside =
    found_here (sends from number row) (sends from number (get_or rows i d)) base (base + 1 + i) (base + suc i)
    (sending_from (base + 1) from number (take i rows)) (sending_from (base + 1) from number (take (suc i) rows))
    (sending_more (base + 1) i from number rows d (omega arith)) (omega arith)

first_here : (is_sent : Bool) (front : Option ℕ) (here : ℕ) → is_sent ≡ true → or_here front is_sent here ≡ Some (unwrap_or front here)
first_here is_sent (Some row) here e = refl
first_here true None here e = refl
first_here false None here e = let never : false ≡ true = e in cc

none_here : (is_sent : Bool) (front : Option ℕ) (here : ℕ) → is_sent ≡ false → or_here front is_sent here ≡ front
none_here is_sent (Some row) here e = refl
none_here false None here e = refl
none_here true None here e = let never : true ≡ false = e in cc

chosen : (same : Bool) (n q i : ℕ) (old known : ℕ → Option ℕ) → (n == q) ≡ same → ((k : ℕ) → old k ≡ known k)
    → cond same (Some (unwrap_or (old n) i)) (old q) ≡ or_here (known q) same i
chosen true n q i old known e before =
    let here : n ≡ q = grind (arith, nat_tests) in
    ap (λ (k : ℕ). Some (unwrap_or (old k) i)) here ∙ (ap (λ (o : Option ℕ). Some (unwrap_or o i)) (before q) ∙ sym (first_here true (known q) i refl))
chosen false n q i old known e before = before q ∙ sym (none_here false (known q) i refl)

-- an end's own packet is the one of its number
pub own_packet_has_number : (is_its : Bool) (n : ℕ) (is_it : ℕ → Bool) → ((q : ℕ) → is_it q ≡ (is_its && (n == q))) → is_it n ≡ true → (q : ℕ) → is_it q ≡ (n == q)
own_packet_has_number true n is_it same e q = same q
own_packet_has_number false n is_it same e q = let never : false ≡ true = sym (same n) ∙ e in cc

other_end : (is_its same : Bool) → (is_its && same) ≡ false → same ≡ true → is_its ≡ false
other_end true same e one = let never : false ≡ true = sym e ∙ one in cc
other_end false same e one = refl

pub not_own_packet : (is_its : Bool) (n : ℕ) (is_it : ℕ → Bool) → ((q : ℕ) → is_it q ≡ (is_its && (n == q))) → is_it n ≡ false → (q : ℕ) → is_it q ≡ false
not_own_packet is_its n is_it same e q =
    same q ∙ ap (λ (b : Bool). b && (n == q)) (other_end is_its (n == n) (sym (same n) ∙ e) (grind (arith, nat_tests)))

module _ (rows : List Row) (from : End) (i : ℕ) (row : Row) (inside : i < length rows) (is : row ≡ get_or rows i row) where
  row_sends : (q : ℕ) → sending (take (i + 1) rows) from q ≡ or_here (sending (take i rows) from q) (sends from q row) i
  row_sends q =
      let next : i + 1 ≡ suc i = omega arith in
      let here : 0 + i ≡ i = omega arith in
      let before : Option ℕ = sending_from 0 from q (take i rows) in
      ap (λ (n : ℕ). sending_from 0 from q (take n rows)) next
      ∙ (sending_more 0 i from q rows row inside
      ∙ (ap (λ (n : ℕ). or_here before (sends from q (get_or rows i row)) n) here
      ∙ ap (λ (r : Row). or_here before (sends from q r) i) (sym is)))

  -- the row sends no packet of the end
  pub none_sent : (old : ℕ → Option ℕ) → ((q : ℕ) → sends from q row ≡ false) → ((q : ℕ) → old q ≡ sending (take i rows) from q)
      → (q : ℕ) → old q ≡ sending (take (i + 1) rows) from q
  none_sent old none before q = before q ∙ sym (row_sends q ∙ none_here (sends from q row) (sending (take i rows) from q) i (none q))

  -- the row sends its packet n
  pub one_sent : (n : ℕ) (old new : ℕ → Option ℕ) → ((q : ℕ) → sends from q row ≡ (n == q)) → ((q : ℕ) → old q ≡ sending (take i rows) from q)
      → ((q : ℕ) → new q ≡ cond (is_at (nat_cmp n) q) (Some (unwrap_or (old n) i)) (old q))
      → (q : ℕ) → new q ≡ sending (take (i + 1) rows) from q
  one_sent n old new one before put q =
      put q
      ∙ (ap (λ (b : Bool). cond b (Some (unwrap_or (old n) i)) (old q)) (at_equal n q)
      ∙ (chosen (n == q) n q i old (λ k. sending (take i rows) from k) refl before
      ∙ (ap (λ (b : Bool). or_here (sending (take i rows) from q) b i) (sym (one q)) ∙ sym (row_sends q))))

-- what is no sending sends no packet
pub no_sending : (is_its : Bool) (q : ℕ) (what : What) → ((number : ℕ) (bytes : Vec ℕ Global) (label : String Global) → what ≡ kinds.Sent number bytes label → ⊥)
    → sends_number is_its q what ≡ false
no_sending is_its q (kinds.Sent number bytes label) apart = absurd (apart number bytes label refl)
no_sending is_its q (kinds.Given number) apart = refl
no_sending is_its q (kinds.Note text) apart = refl
