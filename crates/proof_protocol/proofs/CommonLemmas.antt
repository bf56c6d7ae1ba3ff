-- Options, lists, and maps with numbers for keys, of no one part of the rules.
use Rattle.std.proofs.Common.{◌≡◌, ◌≢◌, ℕ, zero, suc, cond, Option, Some, None, List, [], ◌∷◌, ◌++◌, length, refl, sym, ap, ◌∙◌, arith, Ordering, Less, Equal, Greater}
use Rattle.std.specs.Prelude.{slice_get}
use Rattle.std.specs.Map.{lookup}
use Rattle.std.specs.Ordering.{nat_cmp, match_ordering}
use Rattle.std.specs.BTreeMap.{is_at, insert_entry}
use Rattle.std.proofs.lemmas.Bool.Decides.{nat_tests}
use Rattle.sctp_serial.proofs.NumberLemmas.{at_itself, at_same, at_other}

-- ---- options and lists

pub none_some : {A : Type 0} (o : Option A) (v : A) → o ≡ Some v → o ≡ None → ⊥
none_some o v a b = cc

pub get_front : {A : Type 0} (xs ys : List A) (n : ℕ) (x : A) → slice_get xs n ≡ Some x → slice_get (xs ++ ys) n ≡ Some x
get_front [] ys n x e = cc
get_front (y ∷ xs) ys zero x e = e
get_front (y ∷ xs) ys (suc n) x e = get_front xs ys n x e

pub get_last : {A : Type 0} (xs : List A) (x : A) → slice_get (xs ++ x ∷ []) (length xs) ≡ Some x
get_last [] x = refl
get_last (y ∷ xs) x = get_last xs x

-- ---- a map where one key is put

module _ {V : Type 0} (id : ℕ) where
  pub inserted_here : (v : V) (es : List (ℕ × V)) → lookup (is_at (nat_cmp id)) (insert_entry nat_cmp es id v) ≡ Some v
  inserted_here v [] = ap (λ t. cond t (Some v) None) (at_itself id)
  inserted_here v (e ∷ es) = go (nat_cmp id e.0) refl (inserted_here v es)
    where
      go : (o : Ordering) → nat_cmp id e.0 ≡ o → lookup (is_at (nat_cmp id)) (insert_entry nat_cmp es id v) ≡ Some v
          → lookup (is_at (nat_cmp id)) (match_ordering o ((id, v) ∷ e ∷ es) ((e.0, v) ∷ es) (e ∷ insert_entry nat_cmp es id v)) ≡ Some v
      go Less h ih = ap (λ t. cond t (Some v) (lookup (is_at (nat_cmp id)) (e ∷ es))) (at_itself id)
      go Equal h ih = ap (λ t. cond t (Some v) (lookup (is_at (nat_cmp id)) es)) (let n : id ≡ e.0 = grind (arith, nat_tests) in at_same id e.0 n)
      go Greater h ih = ap (λ t. cond t (Some e.1) (lookup (is_at (nat_cmp id)) (insert_entry nat_cmp es id v))) (let n : id ≢ e.0 = λ x. grind (arith, nat_tests) in at_other id e.0 n) ∙ ih

  pub inserted_off : (q : ℕ) → q ≢ id → (v : V) (es : List (ℕ × V)) → lookup (is_at (nat_cmp q)) (insert_entry nat_cmp es id v) ≡ lookup (is_at (nat_cmp q)) es
  inserted_off q d v [] = ap (λ t. cond t (Some v) None) (at_other q id d)
  inserted_off q d v (e ∷ es) = go (nat_cmp id e.0) refl (inserted_off q d v es)
    where
      go : (o : Ordering) → nat_cmp id e.0 ≡ o → lookup (is_at (nat_cmp q)) (insert_entry nat_cmp es id v) ≡ lookup (is_at (nat_cmp q)) es
          → lookup (is_at (nat_cmp q)) (match_ordering o ((id, v) ∷ e ∷ es) ((e.0, v) ∷ es) (e ∷ insert_entry nat_cmp es id v)) ≡ lookup (is_at (nat_cmp q)) (e ∷ es)
      go Less h ih = ap (λ t. cond t (Some v) (lookup (is_at (nat_cmp q)) (e ∷ es))) (at_other q id d)
      go Equal h ih =
          let n : id ≡ e.0 = grind (arith, nat_tests) in
          let off = at_other q e.0 (λ x. d (x ∙ sym n)) in
          ap (λ t. cond t (Some v) (lookup (is_at (nat_cmp q)) es)) off ∙ sym (ap (λ t. cond t (Some e.1) (lookup (is_at (nat_cmp q)) es)) off)
      go Greater h ih = ap (λ t. cond (is_at (nat_cmp q) e.0) (Some e.1) t) ih
