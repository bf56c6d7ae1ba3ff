-- The bytes determine the cause.
use Rattle.std.proofs.Common.{◌≡◌, ◌⊎◌, inl, inr, ℕ, suc, ◌+◌, ◌*◌, ◌<◌, ◌^◌, ◌==◌, Bool, true, false, cond, List, [], ◌∷◌, ◌++◌, length, drop, refl, sym, ap, subst, ◌∙◌, arith}
use Rattle.std.specs.Prelude.{All}
use Rattle.std.specs.Char.{encode_utf8}
use Rattle.std.specs.Str.{encode_utf8_all}
use Rattle.std.specs.List.{flat_map}
use Rattle.std.proofs.lemmas.List.{append-nil, length-append}
use Rattle.std.proofs.lemmas.List.Concat.{flat_map-cons}
use Rattle.std.proofs.lemmas.Bool.{eqb-true}
use Rattle.std.proofs.lemmas.Str.{encode_same, length-encode, len_utf8_bounds}
use Rattle.sctp_wire.specs.Field.{be16, be32}
use Rattle.sctp_wire.specs.Item.{Item}
use Rattle.sctp_wire.specs.Serialize.{type_of}
use Rattle.sctp_wire.specs.Text.{ReadsChar, ReadsChars, IsTextOf}
use Rattle.sctp_wire.specs.Cause.{CauseTree, missing_mandatory_parameter, unrecognized_chunk, no_user_data, cookie_received_while_shutting_down, user_initiated_abort, protocol_violation, unknown_cause, IsCause, SaysCause, cause_value, is_known_cause}
use Rattle.sctp_wire.proofs.WordLemmas.{word, word_back, behind_word, two_bytes, tsn, clash}

-- one character begins the bytes, and the same bytes are left
char_same : (bytes : List ℕ) (c d : ℕ) (x y : List ℕ) → ReadsChar bytes c x → ReadsChar bytes d y → (c ≡ d) × (x ≡ y)
char_same bytes c d x y (inl p) (inl q) = encode_same c d x y (sym p.1 ∙ q.1)
char_same bytes c d x y (inl p) (inr q) = absurd (q.0 c x p.0 p.1)
char_same bytes c d x y (inr p) (inl q) = absurd (p.0 d y q.0 q.1)
char_same bytes c d x y (inr p) (inr q) = (p.1 ∙ sym q.1, ap (drop 1) (sym p.3 ∙ q.3))

some_byte : (bytes : List ℕ) (c : ℕ) (x : List ℕ) → ReadsChar bytes c x → bytes ≡ [] → ⊥
some_byte bytes c x (inl p) empty = omega (arith, ap length (sym empty ∙ p.1), length-append (encode_utf8 c) x, length-encode c, len_utf8_bounds c)
some_byte bytes c x (inr p) empty = omega (arith, ap length (sym empty ∙ p.3))

reads_same : (bytes : List ℕ) (cs ds : List ℕ) → ReadsChars bytes cs [] → ReadsChars bytes ds [] → cs ≡ ds
reads_same bytes [] [] p q = refl
reads_same bytes [] (d ∷ ds) p q = absurd (some_byte bytes d q.0 q.1 p)
reads_same bytes (c ∷ cs) [] p q = absurd (some_byte bytes c p.0 p.1 q)
reads_same bytes (c ∷ cs) (d ∷ ds) p q =
    let same = char_same bytes c d p.0 q.0 p.1 q.1 in
    let others = reads_same q.0 cs ds (subst (λ (x : List ℕ). ReadsChars x cs []) same.1 p.2) q.2 in
    ap (λ (n : ℕ). n ∷ cs) same.0 ∙ ap (λ (ns : List ℕ). d ∷ ns) others

-- bytes are read as one text
pub one_text_lem : (bytes x y : List ℕ) → IsTextOf bytes x → IsTextOf bytes y → x ≡ y
one_text_lem bytes x y p q = p.2 ∙ ap encode_utf8_all (reads_same bytes p.0 q.0 p.1 q.1) ∙ sym q.2

abbrev numbers_of : List ℕ → List ℕ
numbers_of [] = []
numbers_of (a ∷ []) = []
numbers_of (a ∷ b ∷ bytes) = (a * 256 + b) ∷ numbers_of bytes

number_front : (n : ℕ) (rest : List ℕ) → n < 2 ^ 16 → numbers_of (be16 n ++ rest) ≡ n ∷ numbers_of rest
unfolding be16
number_front n rest h = ap (λ (m : ℕ). m ∷ numbers_of rest) (two_bytes n h)

numbers_back : (ns : List ℕ) → All (λ n. n < 2 ^ 16) ns → numbers_of (flat_map be16 ns) ≡ ns
numbers_back [] h = refl
numbers_back (n ∷ ns) h =
    ap numbers_of (flat_map-cons be16 n ns)
    ∙ number_front n (flat_map be16 ns) (h 0 n (omega arith))
    ∙ ap (λ (others : List ℕ). n ∷ others) (numbers_back ns (λ k d less. h (suc k) d (omega arith)))

-- what a cause says, given its text
abbrev known : ℕ → List ℕ → List ℕ → CauseTree
known typ value text =
    cond (typ == 2) (missing_mandatory_parameter (numbers_of (drop 4 value)))
    (cond (typ == 6) (unrecognized_chunk value)
    (cond (typ == 9) (no_user_data (tsn (word value)))
    (cond (typ == 12) (user_initiated_abort text)
    (cond (typ == 13) (protocol_violation text) cookie_received_while_shutting_down))))

abbrev emitted : ℕ → List ℕ → List ℕ → CauseTree
emitted typ value text = cond (is_known_cause typ) (known typ value text) (unknown_cause typ value)

abbrev text_in : CauseTree → List ℕ
text_in (user_initiated_abort reason) = reason
text_in (protocol_violation information) = information
text_in _ = []

at_type : (typ k : ℕ) (value text : List ℕ) (t : CauseTree) → typ ≡ k → emitted k value text ≡ t → emitted typ value text ≡ t
at_type typ k value text t e h = ap (λ (n : ℕ). emitted n value text) e ∙ h

cause_emitted : (typ : ℕ) (value : List ℕ) (t : CauseTree) → SaysCause typ value t → emitted typ value (text_in t) ≡ t
unfolding cause_value
cause_emitted typ value (missing_mandatory_parameter types) s =
    at_type typ 2 value [] _ s.typed (ap missing_mandatory_parameter (ap numbers_of (ap (drop 4) s.valued ∙ behind_word (length types) _) ∙ numbers_back types s.fits.1))
cause_emitted typ value (unrecognized_chunk chunk) s = at_type typ 6 value [] _ s.typed (ap unrecognized_chunk s.valued)
cause_emitted typ value (no_user_data missing) s =
    at_type typ 9 value [] _ s.typed (ap (λ (n : ℕ). no_user_data (tsn n)) (ap word (s.valued ∙ sym (append-nil (be32 missing.0))) ∙ word_back missing.0 [] s.fits))
cause_emitted typ value cookie_received_while_shutting_down s = at_type typ 10 value [] _ s.typed refl
cause_emitted typ value (user_initiated_abort reason) s = at_type typ 12 value reason _ s.typed refl
cause_emitted typ value (protocol_violation information) s = at_type typ 13 value information _ s.typed refl
cause_emitted typ value (unknown_cause kept bytes) s =
    at_type typ kept value [] _ s.typed (ap (λ (b : Bool). cond b (known kept value []) (unknown_cause kept value)) s.of_its_variant ∙ ap (unknown_cause kept) s.valued)

-- a cause of the types 12 and 13 has a text
has_text : (typ : ℕ) (value : List ℕ) (t : CauseTree) → (typ ≡ 12) ⊎ (typ ≡ 13) → SaysCause typ value t → IsTextOf value (text_in t)
has_text typ value (user_initiated_abort reason) k s = s.valued
has_text typ value (protocol_violation information) k s = s.valued
has_text typ value (unknown_cause kept bytes) (inl k) s = absurd (clash (subst (λ (n : ℕ). is_known_cause n ≡ false) (sym s.typed ∙ k) s.of_its_variant))
has_text typ value (unknown_cause kept bytes) (inr k) s = absurd (clash (subst (λ (n : ℕ). is_known_cause n ≡ false) (sym s.typed ∙ k) s.of_its_variant))
has_text typ value t k s = absurd (omega (arith, s.typed, k))

-- of other types the text does not matter
no_text : (typ : ℕ) (value x y : List ℕ) → (typ == 12) ≡ false → (typ == 13) ≡ false → emitted typ value x ≡ emitted typ value y
no_text typ value x y p q = rw (p, q) refl

same_emitted : (typ : ℕ) (value : List ℕ) (t u : CauseTree) → SaysCause typ value t → SaysCause typ value u → (a b : Bool) → (typ == 12) ≡ a → (typ == 13) ≡ b
    → emitted typ value (text_in t) ≡ emitted typ value (text_in u)
same_emitted typ value t u s r true b p q =
    let k = inl (eqb-true typ 12 p) in
    ap (emitted typ value) (one_text_lem value (text_in t) (text_in u) (has_text typ value t k s) (has_text typ value u k r))
same_emitted typ value t u s r false true p q =
    let k = inr (eqb-true typ 13 q) in
    ap (emitted typ value) (one_text_lem value (text_in t) (text_in u) (has_text typ value t k s) (has_text typ value u k r))
same_emitted typ value t u s r false false p q = no_text typ value (text_in t) (text_in u) p q

pub one_cause_lem : (i : Item) (t u : CauseTree) → IsCause i t → IsCause i u → t ≡ u
one_cause_lem i t u s r =
    sym (cause_emitted (type_of i) i.value t s)
    ∙ same_emitted (type_of i) i.value t u s r (type_of i == 12) (type_of i == 13) refl refl
    ∙ cause_emitted (type_of i) i.value u r
