-- What stands in bytes of a right length: numbers, entries, and a text.
use Rattle.std.proofs.Common.{◌≡◌, inr, ℕ, zero, suc, ◌+◌, ◌*◌, ◌^◌, ◌<◌, ◌≤◌, ◌==◌, Bool, true, false, cond, List, [], ◌∷◌, ◌++◌, length, take, drop, refl, sym, ap, subst, ◌∙◌, arith}
use Rattle.std.specs.Prelude.{All}
use Rattle.std.specs.Int.{w16, w32, from_be_bytes}
use Rattle.std.specs.List.{flat_map}
use Rattle.std.specs.Str.{IsUtf8, is_utf8, encode_utf8_all, StartsWithNoChar}
use Rattle.std.specs.Str.Lossy.{valid_len_up_to, utf8_valid_len}
use Rattle.std.proofs.lemmas.List.{get_or-drop, length-drop, length-take-le, take-append-drop, nil_from_length}
use Rattle.std.proofs.lemmas.Bool.{eqb-true}
use Rattle.std.proofs.lemmas.List.Concat.{flat_map-cons}
use Rattle.std.proofs.lemmas.List.Elements.{All-nil, All-cons}
use Rattle.std.proofs.lemmas.Str.{IsUtf8-nil, IsUtf8-from_is_utf8, utf8_valid_len_le}
use Rattle.sctp_wire.specs.Field.{be16, be32}
use Rattle.sctp_wire.specs.Text.{ReadsChars, IsTextOf}
use Rattle.sctp_item.proofs.ItemLemmas.{IsBytes}
use Rattle.sctp_wire.proofs.FieldLemmas.{be16_front, be32_front}
use Rattle.sctp_wire.proofs.TextLemmas.{none_behind, reads_on, reads_text}

pub IsBytes_drop : (n : ℕ) (bytes : List ℕ) → IsBytes bytes → IsBytes (drop n bytes)
IsBytes_drop n bytes h i = subst (λ (b : ℕ). b < 256) (sym (get_or-drop n bytes i 0)) (h (n + i))

-- ---- numbers

pub number16 : (bytes : List ℕ) → IsBytes bytes → 2 ≤ length bytes → (n : ℕ) × (n < 2 ^ 16) × (bytes ≡ be16 n ++ drop 2 bytes)
number16 [] fits long = absurd (omega arith)
number16 (a ∷ []) fits long = absurd (omega arith)
number16 (a ∷ b ∷ bytes) fits long = (
  from_be_bytes w16 (a ∷ b ∷ []),
  omega (arith, fits 0, fits 1),
  be16_front (a ∷ b ∷ bytes) (from_be_bytes w16 (a ∷ b ∷ [])) fits long refl,
)

pub number32 : (bytes : List ℕ) → IsBytes bytes → 4 ≤ length bytes → (n : ℕ) × (n < 2 ^ 32) × (bytes ≡ be32 n ++ drop 4 bytes)
number32 [] fits long = absurd (omega arith)
number32 (a ∷ []) fits long = absurd (omega arith)
number32 (a ∷ b ∷ []) fits long = absurd (omega arith)
number32 (a ∷ b ∷ c ∷ []) fits long = absurd (omega arith)
number32 (a ∷ b ∷ c ∷ d ∷ bytes) fits long = (
  from_be_bytes w32 (a ∷ b ∷ c ∷ d ∷ []),
  omega (arith, fits 0, fits 1, fits 2, fits 3),
  be32_front (a ∷ b ∷ c ∷ d ∷ bytes) (from_be_bytes w32 (a ∷ b ∷ c ∷ d ∷ [])) fits long refl,
)

-- ---- entries

-- Bytes of so many widths are entries, where each width of bytes is one.
pub entries_in : {E : Type 0} (f : E → List ℕ) (P : E → Type 0) (width : ℕ)
    → ((bytes : List ℕ) → IsBytes bytes → width ≤ length bytes → (e : E) × P e × (bytes ≡ f e ++ drop width bytes))
    → (n : ℕ) (bytes : List ℕ) → IsBytes bytes → length bytes ≡ n * width → (es : List E) × All P es × (bytes ≡ flat_map f es)
entries_in f P width one zero bytes fits len = ([], All-nil P, nil_from_length bytes (omega (arith, len)))
entries_in f P width one (suc n) bytes fits len =
    let first = one bytes fits (omega (arith, len)) in
    let others = entries_in f P width one n (drop width bytes) (IsBytes_drop width bytes fits) (omega (arith, len, length-drop width bytes)) in (
      first.0 ∷ others.0,
      All-cons P first.0 others.0 first.1 others.1,
      first.2 ∙ ap (λ (x : List ℕ). f first.0 ++ x) others.2 ∙ sym (flat_map-cons f first.0 others.0),
    )

-- ---- a text

valid_at : (bs : List ℕ) (n m : ℕ) (b : Bool) → (b ≡ true → IsUtf8 (take n bs)) → IsUtf8 (take m bs) → IsUtf8 (take (cond b n m) bs)
valid_at bs n m true is below = is refl
valid_at bs n m false is below = below

valid_is_utf8 : (bs : List ℕ) (n : ℕ) → IsUtf8 (take (valid_len_up_to bs n) bs)
valid_is_utf8 [] zero = IsUtf8-nil
valid_is_utf8 (b ∷ bs) zero = IsUtf8-nil
valid_is_utf8 bs (suc n) =
    valid_at bs (suc n) (valid_len_up_to bs n) (is_utf8 (take (suc n) bs)) (IsUtf8-from_is_utf8 (take (suc n) bs)) (valid_is_utf8 bs n)

longest_is_utf8 : (bs : List ℕ) → IsUtf8 (take (utf8_valid_len bs) bs)
unfolding utf8_valid_len
longest_is_utf8 bs = valid_is_utf8 bs (length bs)

-- where no character begins, the first byte is read as one
reads_behind : (k : ℕ) → ((bytes : List ℕ) → length bytes ≤ k → (cs : List ℕ) × ReadsChars bytes cs [])
    → (behind : List ℕ) → length behind ≤ suc k → StartsWithNoChar behind → (cs : List ℕ) × ReadsChars behind cs []
reads_behind k below [] small none = ([], refl)
reads_behind k below (b ∷ after) small none =
    let more = below after (omega (arith, small)) in
    (0xFFFD ∷ more.0, (after, inr (none, refl, b, refl), more.1))

reads_all : (k : ℕ) (bytes : List ℕ) → length bytes ≤ k → (cs : List ℕ) × ReadsChars bytes cs []
reads_all zero bytes small = ([], nil_from_length bytes (omega (arith, small)))
reads_all (suc k) bytes small =
    let n : ℕ = utf8_valid_len bytes in
    let front : List ℕ = take n bytes in
    let behind : List ℕ = drop n bytes in
    let split : bytes ≡ front ++ behind = sym (take-append-drop n bytes) in
    let is : IsUtf8 front = longest_is_utf8 bytes in
    let none : StartsWithNoChar behind = none_behind bytes front behind split is (length-take-le n bytes (utf8_valid_len_le bytes)) in
    let more = reads_behind k (reads_all k) behind (omega (arith, small, length-drop n bytes)) none in
    let read : ReadsChars bytes is.0 behind =
    subst (λ (x : List ℕ). ReadsChars x is.0 behind) (sym (split ∙ ap (λ (x : List ℕ). x ++ behind) (sym is.1.1))) (reads_text is.0 behind is.1.0) in
    (is.0 ++ more.0, reads_on bytes behind [] is.0 more.0 read more.1)

-- bytes are read as some text
pub text_in : (bytes : List ℕ) → (text : List ℕ) × IsTextOf bytes text
text_in bytes =
    let read = reads_all (length bytes) bytes (omega arith) in
    (encode_utf8_all read.0, (read.0, read.1, refl))

-- ---- types

pick_by : (typ k : ℕ) (P : ℕ → Type 0) (b : Bool) → (typ == k) ≡ b → P k → ((typ == k) ≡ false → P typ) → P typ
pick_by typ k P true e at other = subst P (sym (eqb-true typ k e)) at
pick_by typ k P false e at other = other e

-- what holds at this type, and at any other
pub by_type : (typ k : ℕ) (P : ℕ → Type 0) → P k → ((typ == k) ≡ false → P typ) → P typ
by_type typ k P at other = pick_by typ k P (typ == k) refl at other
