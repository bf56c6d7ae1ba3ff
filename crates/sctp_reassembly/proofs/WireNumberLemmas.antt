-- Numbers that are read near one of their stream.
use Rattle.std.proofs.Common.{◌≡◌, ℕ, ◌++◌, Bool, true, false, cond, List, [], ◌∷◌, append-nil, Some, None, refl, ap, sym, ◌∙◌, arith}
use Rattle.std.proofs.lemmas.Bool.Decides.{nat_tests}
use Rattle.std.specs.Prelude.{Result, Ok, Err, OnErr, is_some}
use Rattle.std.proofs.Common.{Ordering, Less, Equal, Greater}
use Rattle.std.specs.Ordering.{is_eq, match_ordering, nat_cmp}
use Rattle.std.specs.Map.{lookup}
use Rattle.std.specs.BTreeMap.{is_at, insert_entry}
use Rattle.std.proofs.lemmas.Map.Steps.{set_value_same}
use Rattle.sctp_serial.specs.Messages.{Message}
use Rattle.sctp_serial.specs.Unwrapped.{origin, halves, u32_space, nearest}
use Rattle.sctp_reassembly.specs.declared.near.WireNumber.{WireNumber}
use Rattle.sctp_reassembly.specs.declared.near.WireNumber.TheVariants.{First, Ssn, Mid}
use Rattle.sctp_reassembly.specs.ReassemblyStreams.{Entries, is_far, stream_at, with_stream, put_stream, set_stream}
use Rattle.sctp_reassembly.specs.WireNumber.{nearest_of}
use Rattle.sctp_reassembly.proofs.EntriesLemmas.{opened_there, stream_there, set_opened}
use Rattle.sctp_reassembly.proofs.MapLemmas.{nat_cmp_same}

-- of a stream of which nothing came, none is too far
near_ssn : (w : ℕ) → is_far (nearest halves 0 origin w) ≡ false
near_ssn w = grind (arith, nat_tests)

near_mid : (w : ℕ) → is_far (nearest u32_space 0 origin w) ≡ false
near_mid w = grind (arith, nat_tests)

pub near_first : (number : WireNumber) → is_far (nearest_of number origin) ≡ false
near_first First = refl
near_first (Ssn ssn) = near_ssn ssn.0
near_first (Mid mid) = near_mid mid.0

pub on_err_both : {T E : Type 0} (P Q : Type 0) (r : Result T E) → OnErr r P → OnErr r Q → OnErr r (P × Q)
on_err_both P Q (Ok x) p q = tt
on_err_both P Q (Err e) p q = (p, q)

pub silent_unless_far : (b : Bool) (made ready new : List Message) → made ≡ [] → new ≡ ready ++ cond b [] made → new ≡ ready
silent_unless_far true made ready new none is = is ∙ append-nil ready
silent_unless_far false made ready new none is = is ∙ (ap (λ (t : List Message). ready ++ t) none ∙ append-nil ready)

-- a stream is put in as it is in the end
module _ {S : Type 0} (id : ℕ) (a b : S) where
  pub put_opened : (es : Entries S) → insert_entry nat_cmp es id b ≡ put_stream id b (insert_entry nat_cmp es id a)
  put_opened [] = sym (ap (λ (o : Ordering). cond (is_eq o) ((id, b) ∷ []) ((id, a) ∷ [])) (nat_cmp_same id id refl))
  put_opened (e ∷ es) = go (nat_cmp id e.0) refl (put_opened es)
    where
      go : (o : Ordering) → nat_cmp id e.0 ≡ o → insert_entry nat_cmp es id b ≡ put_stream id b (insert_entry nat_cmp es id a)
          → match_ordering o ((id, b) ∷ e ∷ es) ((e.0, b) ∷ es) (e ∷ insert_entry nat_cmp es id b) ≡ put_stream id b (match_ordering o ((id, a) ∷ e ∷ es) ((e.0, a) ∷ es) (e ∷ insert_entry nat_cmp es id a))
      go Less is ih = sym (ap (λ (o : Ordering). cond (is_eq o) ((id, b) ∷ e ∷ es) ((id, a) ∷ put_stream id b (e ∷ es))) (nat_cmp_same id id refl))
      go Equal is ih = sym (ap (λ (o : Ordering). cond (is_eq o) ((e.0, b) ∷ es) ((e.0, a) ∷ put_stream id b es)) is)
      go Greater is ih =
          ap (λ (t : Entries S). e ∷ t) ih ∙ sym (ap (λ (o : Ordering). cond (is_eq o) ((e.0, b) ∷ insert_entry nat_cmp es id a) (e ∷ put_stream id b (insert_entry nat_cmp es id a))) is)

pub opened_absent : {S : Type 0} (fresh : S) (id : ℕ) (es old : Entries S) → es ≡ old → None ≡ lookup (is_at (nat_cmp id)) old → insert_entry nat_cmp es id fresh ≡ with_stream fresh id old
opened_absent fresh id es old same none =
    ap (λ m. insert_entry nat_cmp m id fresh) same ∙ ap (λ o. cond (is_some o) old (insert_entry nat_cmp old id fresh)) none

-- a write of what becomes of a stream, unless the number is too far
module _ {S : Type 0} (fresh : S) (id : ℕ) (far : S → Bool) (op : S → S) (old new : Entries S) (v w : S) where
  abbrev at : S
  at = stream_at fresh id old

  read_at : v ≡ at → w ≡ cond (far v) v (op v) → w ≡ cond (far at) v (op v)
  read_at same made = made ∙ ap (λ (s : S). cond (far s) v (op v)) same

  pub set_unless_far : (es : Entries S) → new ≡ put_stream id w es → es ≡ old → Some v ≡ lookup (is_at (nat_cmp id)) es → w ≡ cond (far v) v (op v) → new ≡ cond (far at) old (set_stream fresh id (op at) old)
  set_unless_far es written same there made = go (far at) (read_at (stream_there fresh id es old v same there) made)
    where
      go : (b : Bool) → w ≡ cond b v (op v) → new ≡ cond b old (set_stream fresh id (op at) old)
      go true is = written ∙ (ap (λ (s : S). put_stream id s es) is ∙ (set_value_same (is_at (nat_cmp id)) es v (sym there) ∙ same))
      go false is = set_opened fresh id es old new v w op written (opened_there fresh id es old v same there) (stream_there fresh id es old v same there) is

  pub set_first : (opened : Entries S) → new ≡ put_stream id w opened → opened ≡ with_stream fresh id old → v ≡ at → far at ≡ false → w ≡ cond (far v) v (op v) → new ≡ cond (far at) old (set_stream fresh id (op at) old)
  set_first opened written is same near made =
      set_opened fresh id opened old new v w op written is same (read_at same made ∙ ap (λ (b : Bool). cond b v (op v)) near)
      ∙ sym (ap (λ (b : Bool). cond b old (set_stream fresh id (op at) old)) near)
