-- A map of streams where one stream changes.
use Rattle.std.proofs.Common.{◌≡◌, ◌≢◌, ℕ, Bool, true, false, cond, Some, [], ◌∷◌, refl, ap, sym, ◌∙◌, arith}
use Rattle.std.specs.Prelude.{unwrap_or, is_some, map}
use Rattle.std.specs.List.{All}
use Rattle.std.specs.Map.{lookup, values_of}
use Rattle.std.specs.Ordering.{nat_cmp}
use Rattle.std.specs.BTreeMap.{is_at, insert_entry}
use Rattle.std.proofs.lemmas.Bool.Decides.{nat_tests}
use Rattle.std.proofs.lemmas.List.Elements.{All-head, All-tail}
use Rattle.sctp_rx.specs.ReassemblyStreams.{Entries, stream_at, with_stream, put_stream, set_stream}
use Rattle.proof_protocol.proofs.CommonLemmas.{inserted_here, inserted_off}
use Rattle.sctp_serial.proofs.NumberLemmas.{at_other}

module _ {S : Type 0} (fresh : S) (id : ℕ) where
  opened_some : (es : Entries S) → is_some (lookup (is_at (nat_cmp id)) (with_stream fresh id es)) ≡ true
  opened_some es = go (is_some (lookup (is_at (nat_cmp id)) es)) refl
    where
      go : (b : Bool) → is_some (lookup (is_at (nat_cmp id)) es) ≡ b → is_some (lookup (is_at (nat_cmp id)) (cond b es (insert_entry nat_cmp es id fresh))) ≡ true
      go true e = e
      go false e = ap is_some (inserted_here id fresh es)

  opened_off : (q : ℕ) → q ≢ id → (es : Entries S) → lookup (is_at (nat_cmp q)) (with_stream fresh id es) ≡ lookup (is_at (nat_cmp q)) es
  opened_off q d es = go (is_some (lookup (is_at (nat_cmp id)) es))
    where
      go : (b : Bool) → lookup (is_at (nat_cmp q)) (cond b es (insert_entry nat_cmp es id fresh)) ≡ lookup (is_at (nat_cmp q)) es
      go true = refl
      go false = inserted_off id q d fresh es

  written_here : (s : S) (es : Entries S) → is_some (lookup (is_at (nat_cmp id)) es) ≡ true → lookup (is_at (nat_cmp id)) (put_stream id s es) ≡ Some s
  written_here s [] h = absurd (cc)
  written_here s (e ∷ es) h = go (is_at (nat_cmp id) e.0) refl h (written_here s es)
    where
      go : (b : Bool) → is_at (nat_cmp id) e.0 ≡ b → is_some (cond b (Some e.1) (lookup (is_at (nat_cmp id)) es)) ≡ true
          → (is_some (lookup (is_at (nat_cmp id)) es) ≡ true → lookup (is_at (nat_cmp id)) (put_stream id s es) ≡ Some s)
          → lookup (is_at (nat_cmp id)) (cond b ((e.0, s) ∷ es) (e ∷ put_stream id s es)) ≡ Some s
      go true t h ih = ap (λ b. cond b (Some s) (lookup (is_at (nat_cmp id)) es)) t
      go false t h ih = ap (λ b. cond b (Some e.1) (lookup (is_at (nat_cmp id)) (put_stream id s es))) t ∙ ih h

  written_off : (q : ℕ) → q ≢ id → (s : S) (es : Entries S) → lookup (is_at (nat_cmp q)) (put_stream id s es) ≡ lookup (is_at (nat_cmp q)) es
  written_off q d s [] = refl
  written_off q d s (e ∷ es) = go (is_at (nat_cmp id) e.0) refl (written_off q d s es)
    where
      go : (b : Bool) → is_at (nat_cmp id) e.0 ≡ b → lookup (is_at (nat_cmp q)) (put_stream id s es) ≡ lookup (is_at (nat_cmp q)) es
          → lookup (is_at (nat_cmp q)) (cond b ((e.0, s) ∷ es) (e ∷ put_stream id s es)) ≡ lookup (is_at (nat_cmp q)) (e ∷ es)
      go true t ih =
          let n : id ≡ e.0 = grind (arith, nat_tests) in
          let off = at_other q e.0 (λ x. d (x ∙ sym n)) in
          ap (λ b. cond b (Some s) (lookup (is_at (nat_cmp q)) es)) off ∙ sym (ap (λ b. cond b (Some e.1) (lookup (is_at (nat_cmp q)) es)) off)
      go false t ih = ap (λ z. cond (is_at (nat_cmp q) e.0) (Some e.1) z) ih

  -- the stream, and the others
  pub changed_here : (s : S) (es : Entries S) → stream_at fresh id (set_stream fresh id s es) ≡ s
  changed_here s es = ap (λ o. unwrap_or o fresh) (written_here s (with_stream fresh id es) (opened_some es))

  pub changed_off : (q : ℕ) → q ≢ id → (s : S) (es : Entries S) → stream_at fresh q (set_stream fresh id s es) ≡ stream_at fresh q es
  changed_off q d s es = ap (λ o. unwrap_or o fresh) (written_off q d s (with_stream fresh id es) ∙ opened_off q d es)

  -- each by its id
  pub mapped_at : (f : S → S) → f fresh ≡ fresh → (es : Entries S) → stream_at fresh id (map (λ e. (e.0, f e.1)) es) ≡ f (stream_at fresh id es)
  mapped_at f at_first [] = sym at_first
  mapped_at f at_first (e ∷ es) = go (is_at (nat_cmp id) e.0) (mapped_at f at_first es)
    where
      go : (b : Bool) → unwrap_or (lookup (is_at (nat_cmp id)) (map (λ e. (e.0, f e.1)) es)) fresh ≡ f (unwrap_or (lookup (is_at (nat_cmp id)) es) fresh)
          → unwrap_or (cond b (Some (f e.1)) (lookup (is_at (nat_cmp id)) (map (λ e. (e.0, f e.1)) es))) fresh ≡ f (unwrap_or (cond b (Some e.1) (lookup (is_at (nat_cmp id)) es)) fresh)
      go true ih = refl
      go false ih = ih

  pub all_at : (P : S → Type 0) → P fresh → (es : Entries S) → All P (values_of es) → P (stream_at fresh id es)
  all_at P at_first [] h = at_first
  all_at P at_first (e ∷ es) h = go (all_at P at_first es (All-tail P e.1 (values_of es) h)) (is_at (nat_cmp id) e.0)
    where
      go : P (stream_at fresh id es) → (b : Bool) → P (unwrap_or (cond b (Some e.1) (lookup (is_at (nat_cmp id)) es)) fresh)
      go rest true = All-head P e.1 (values_of es) h
      go rest false = rest
