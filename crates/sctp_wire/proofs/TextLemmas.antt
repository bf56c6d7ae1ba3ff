-- Characters at the front of bytes.
use Rattle.std.proofs.Common.{◌≡◌, inl, inr, ℕ, zero, suc, ◌≤◌, Bool, true, false, cond, List, [], ◌∷◌, ◌++◌, length, take, refl, sym, ap, subst, ◌∙◌, append_assoc, arith}
use Rattle.std.proofs.lemmas.List.{length-append, append-nil, take_at}
use Rattle.std.proofs.lemmas.Bool.{cases_lt, and_parts}
use Rattle.std.proofs.lemmas.Str.{IsUtf8-append, IsUtf8-encode, is_utf8-from_IsUtf8, encodes-append, length-encode, len_utf8_bounds}
use Rattle.std.specs.Char.{encode_utf8}
use Rattle.std.proofs.Math.Utf8.{scalar}
use Rattle.std.specs.Str.{IsUtf8, is_utf8, encode_utf8_all, all_scalars, StartsWithNoChar}
use Rattle.std.specs.Str.Lossy.{valid_len_up_to, utf8_valid_len}
use Rattle.sctp_wire.specs.Text.{ReadsChars}

-- no front that is UTF-8 is longer than the longest one
clash : true ≡ false → ⊥
clash q = cc

valid_step : (n m most : ℕ) (b : Bool) → m ≤ suc n → (m ≤ n → m ≤ most) → (m ≡ suc n → b ≡ true) → m ≤ cond b (suc n) most
valid_step n m most true h below at = h
valid_step n m most false h below at =
    elim (cases_lt m (suc n)) [
      | inl less ↦ below (omega arith)
      | inr more ↦ absurd (clash (sym (at (omega arith))))
    ]

valid_most : (bs : List ℕ) (n m : ℕ) → m ≤ n → is_utf8 (take m bs) ≡ true → m ≤ valid_len_up_to bs n
valid_most bs zero m h e = h
valid_most bs (suc n) m h e =
    valid_step n m (valid_len_up_to bs n) (is_utf8 (take (suc n) bs)) h (λ less. valid_most bs n m less e)
    (λ same. sym (ap (λ (k : ℕ). is_utf8 (take k bs)) same) ∙ e)

-- behind the longest front that is UTF-8 begins no character
pub none_behind : (bs front rest : List ℕ) → bs ≡ front ++ rest → IsUtf8 front → length front ≡ utf8_valid_len bs → StartsWithNoChar rest
unfolding utf8_valid_len
none_behind bs front rest e is len c after scalar begins =
    let longer : List ℕ = front ++ encode_utf8 c in
    let split : bs ≡ longer ++ after = e ∙ ap (λ (x : List ℕ). front ++ x) begins ∙ sym (append_assoc front (encode_utf8 c) after) in
    let cut : take (length longer) bs ≡ longer = ap (take (length longer)) split ∙ take_at longer after (length longer) refl in
    let utf8 : is_utf8 (take (length longer) bs) ≡ true = ap is_utf8 cut ∙ is_utf8-from_IsUtf8 longer (IsUtf8-append front (encode_utf8 c) is (IsUtf8-encode c scalar)) in
    let fits : length longer ≤ length bs = omega (arith, ap length split, length-append longer after) in
    let most : length longer ≤ valid_len_up_to bs (length bs) = valid_most bs (length bs) (length longer) fits utf8 in
    omega (arith, most, len, length-append front (encode_utf8 c), length-encode c, len_utf8_bounds c)

pub none_in_nothing : (bs : List ℕ) → bs ≡ [] → StartsWithNoChar bs
none_in_nothing bs empty c after scalar begins =
    omega (arith, ap length (sym empty ∙ begins), length-append (encode_utf8 c) after, length-encode c, len_utf8_bounds c)

-- characters read one after the other
pub reads_on : (bytes mid rest cs ds : List ℕ) → ReadsChars bytes cs mid → ReadsChars mid ds rest → ReadsChars bytes (cs ++ ds) rest
reads_on bytes mid rest [] ds a b = subst (λ (x : List ℕ). ReadsChars x ds rest) (sym a) b
reads_on bytes mid rest (c ∷ cs) ds a b = (a.0, a.1, reads_on a.0 mid rest cs ds a.2 b)

pub reads_text : (cs rest : List ℕ) → all_scalars cs ≡ true → ReadsChars (encode_utf8_all cs ++ rest) cs rest
reads_text [] rest all = refl
reads_text (c ∷ cs) rest all =
    let parts = and_parts (scalar c) (all_scalars cs) all in
    (encode_utf8_all cs ++ rest, inl (parts.0, append_assoc (encode_utf8 c) (encode_utf8_all cs) rest), reads_text cs rest parts.1)

-- a text behind what was read
pub reads_front : (bytes mid front behind text : List ℕ) → IsUtf8 front → mid ≡ front ++ behind
    → ((cs : List ℕ) × ReadsChars bytes cs mid × (text ≡ encode_utf8_all cs))
    → (cs : List ℕ) × ReadsChars bytes cs behind × (text ++ front ≡ encode_utf8_all cs)
reads_front bytes mid front behind text is e before =
    let read : ReadsChars mid is.0 behind = subst (λ (x : List ℕ). ReadsChars x is.0 behind) (sym (e ∙ ap (λ (x : List ℕ). x ++ behind) (sym is.1.1))) (reads_text is.0 behind is.1.0) in (
      before.0 ++ is.0,
      reads_on bytes mid behind before.0 is.0 before.1 read,
      ap (λ (x : List ℕ). x ++ front) before.2 ∙ ap (λ (x : List ℕ). encode_utf8_all before.0 ++ x) (sym is.1.1) ∙ sym (encodes-append before.0 is.0),
    )

-- and then a byte at which no character begins
pub reads_byte : (bytes behind after text : List ℕ) (b : ℕ) → StartsWithNoChar behind → behind ≡ b ∷ after
    → ((cs : List ℕ) × ReadsChars bytes cs behind × (text ≡ encode_utf8_all cs))
    → (cs : List ℕ) × ReadsChars bytes cs after × (text ++ encode_utf8 0xFFFD ≡ encode_utf8_all cs)
reads_byte bytes behind after text b none first before = (
  before.0 ++ 0xFFFD ∷ [],
  reads_on bytes behind after before.0 (0xFFFD ∷ []) before.1 (after, inr (none, refl, b, first), refl),
  ap (λ (x : List ℕ). x ++ encode_utf8 0xFFFD) before.2
      ∙ ap (λ (x : List ℕ). encode_utf8_all before.0 ++ x) (sym (append-nil (encode_utf8 0xFFFD)))
      ∙ sym (encodes-append before.0 (0xFFFD ∷ [])),
)
