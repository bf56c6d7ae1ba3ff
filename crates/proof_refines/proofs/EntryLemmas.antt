-- Entries of a forward point in the order of their streams.
use Rattle.std.proofs.Common.{◌≡◌, ℕ, suc, max, Bool, true, false, cond, ◌⊎◌, inl, inr, List, [], ◌∷◌, refl, ap, sym, ◌∙◌, arith}
use Rattle.std.specs.Prelude.{◌&&◌, ◌||◌, ◌==◌, nat_lt, nat_le}
use Rattle.std.proofs.Math.Bool.{or-false}
use Rattle.sctp_serial.specs.declared.types.StreamKey.TheVariants.{Ordered, Unordered}
use Rattle.sctp_chunk.specs.declared.forward_tsn.SkippedStream.{SkippedStream}
use Rattle.sctp_chunk.specs.declared.forward_tsn.SkippedStream.TheVariants.{ForwardTsn, IForwardTsn}
use Rattle.sctp_rx.specs.ReassemblyStreams.{Streams, skipped_id, put_skip, put_each}
use Rattle.proof_protocol.specs.State.{Entry, IsAmong}
use Rattle.proof_protocol.specs.Rules.{same, covers, raise}
use Rattle.proof_refines.specs.Read.{StandsFor, StandForAll}
use Rattle.proof_protocol.specs.Points.{AreApart, IsApart}
use Rattle.sctp_serial.proofs.NumberLemmas.{or_swap}

abbrev pub put_entry : Entry → List Entry → List Entry
put_entry e [] = e ∷ []
put_entry e (x ∷ xs) = cond (nat_lt e.stream x.stream) (e ∷ (x ∷ xs)) (x ∷ put_entry e xs)

abbrev pub put_entries : List Entry → List Entry → List Entry
put_entries [] xs = xs
put_entries (e ∷ es) xs = put_entries es (put_entry e xs)

-- ---- the entries as they came are sorted alike

pub id_is : (is_interleaved : Bool) (ss : Streams) (x : SkippedStream) (e : Entry) → StandsFor is_interleaved ss x e → skipped_id x ≡ e.stream
id_is false ss (ForwardTsn id ssn) e h = sym h.1
id_is false ss (IForwardTsn key mid) e h = absurd h
id_is true ss (ForwardTsn id ssn) e h = absurd h
id_is true ss (IForwardTsn (Ordered id) mid) e h = sym h.1
id_is true ss (IForwardTsn (Unordered id) mid) e h = sym h.1

module _ (is_interleaved : Bool) (ss : Streams) where
  put_stands : (x : SkippedStream) (e : Entry) (xs : List SkippedStream) (es : List Entry) → StandsFor is_interleaved ss x e → StandForAll is_interleaved ss xs es → StandForAll is_interleaved ss (put_skip x xs) (put_entry e es)
  put_stands x e [] [] h all = (h, tt)
  put_stands x e [] (d ∷ es) h all = absurd all
  put_stands x e (y ∷ xs) [] h all = absurd all
  put_stands x e (y ∷ xs) (d ∷ es) h all = go (nat_lt (skipped_id x) (skipped_id y)) (nat_lt e.stream d.stream) same_test (put_stands x e xs es h all.1)
    where
      same_test : nat_lt (skipped_id x) (skipped_id y) ≡ nat_lt e.stream d.stream
      same_test = ap (λ z. nat_lt z (skipped_id y)) (id_is is_interleaved ss x e h) ∙ ap (λ z. nat_lt e.stream z) (id_is is_interleaved ss y d all.0)

      go : (a b : Bool) → a ≡ b → StandForAll is_interleaved ss (put_skip x xs) (put_entry e es) → StandForAll is_interleaved ss (cond a (x ∷ (y ∷ xs)) (y ∷ put_skip x xs)) (cond b (e ∷ (d ∷ es)) (d ∷ put_entry e es))
      go true true s ih = (h, (all.0, all.1))
      go true false s ih = absurd (cc)
      go false true s ih = absurd (cc)
      go false false s ih = (all.0, ih)

  pub sorted_stands : (xs : List SkippedStream) (es : List Entry) (ys : List SkippedStream) (ds : List Entry) → StandForAll is_interleaved ss xs es → StandForAll is_interleaved ss ys ds → StandForAll is_interleaved ss (put_each xs ys) (put_entries es ds)
  sorted_stands [] [] ys ds h all = all
  sorted_stands [] (e ∷ es) ys ds h all = absurd h
  sorted_stands (x ∷ xs) [] ys ds h all = absurd h
  sorted_stands (x ∷ xs) (e ∷ es) ys ds h all = sorted_stands xs es (put_skip x ys) (put_entry e ds) h.1 (put_stands x e ys ds h.0 all)

-- ---- they say the same

module _ (kind : Bool) (s n : ℕ) where
  turn : (a b c : Bool) → (a || (b || c)) ≡ ((b || a) || c)
  turn true true c = refl
  turn true false c = refl
  turn false true c = refl
  turn false false c = refl

  put_covers : (e : Entry) (es : List Entry) → covers (put_entry e es) kind s n ≡ covers (e ∷ es) kind s n
  put_covers e [] = refl
  put_covers e (d ∷ es) = go (nat_lt e.stream d.stream) (put_covers e es)
    where
      go : (b : Bool) → covers (put_entry e es) kind s n ≡ covers (e ∷ es) kind s n → covers (cond b (e ∷ (d ∷ es)) (d ∷ put_entry e es)) kind s n ≡ covers (e ∷ (d ∷ es)) kind s n
      go true ih = refl
      go false ih =
          ap (λ z. (same d.ordered kind && ((d.stream == s) && nat_le n d.number)) || z) ih
          ∙ or_swap (same d.ordered kind && ((d.stream == s) && nat_le n d.number)) (same e.ordered kind && ((e.stream == s) && nat_le n e.number)) (covers es kind s n)

  puts_covers : (es ds : List Entry) → covers (put_entries es ds) kind s n ≡ (covers es kind s n || covers ds kind s n)
  puts_covers [] ds = refl
  puts_covers (e ∷ es) ds =
      puts_covers es (put_entry e ds) ∙ (ap (λ z. covers es kind s n || z) (put_covers e ds)
      ∙ turn (covers es kind s n) (same e.ordered kind && ((e.stream == s) && nat_le n e.number)) (covers ds kind s n))

  pub sorted_covers : (es : List Entry) → covers (put_entries es []) kind s n ≡ covers es kind s n
  sorted_covers es = puts_covers es [] ∙ or-false (covers es kind s n)

module _ (kind : Bool) (s : ℕ) where
  abbrev lifted : Entry → ℕ → ℕ
  lifted e n = cond (same e.ordered kind && (e.stream == s)) (max n (suc e.number)) n

  lifts : (b c : Bool) (n x y : ℕ) → cond b (max (cond c (max n y) n) x) (cond c (max n y) n) ≡ cond c (max (cond b (max n x) n) y) (cond b (max n x) n)
  lifts true true n x y = omega arith
  lifts true false n x y = refl
  lifts false true n x y = refl
  lifts false false n x y = refl

  lift_swap : (d e : Entry) (n : ℕ) → lifted e (lifted d n) ≡ lifted d (lifted e n)
  lift_swap d e n = lifts (same e.ordered kind && (e.stream == s)) (same d.ordered kind && (d.stream == s)) n (suc e.number) (suc d.number)

  put_raised : (e : Entry) (es : List Entry) (n : ℕ) → raise (put_entry e es) kind s n ≡ raise es kind s (lifted e n)
  put_raised e [] n = refl
  put_raised e (d ∷ es) n = go (nat_lt e.stream d.stream) (put_raised e es)
    where
      go : (b : Bool) → ((m : ℕ) → raise (put_entry e es) kind s m ≡ raise es kind s (lifted e m)) → raise (cond b (e ∷ (d ∷ es)) (d ∷ put_entry e es)) kind s n ≡ raise es kind s (lifted d (lifted e n))
      go true ih = refl
      go false ih = ih (lifted d n) ∙ ap (raise es kind s) (lift_swap d e n)

  raise_swap : (e : Entry) (es : List Entry) (n : ℕ) → lifted e (raise es kind s n) ≡ raise es kind s (lifted e n)
  raise_swap e [] n = refl
  raise_swap e (d ∷ es) n = raise_swap e es (lifted d n) ∙ ap (raise es kind s) (lift_swap d e n)

  puts_raised : (es ds : List Entry) (n : ℕ) → raise (put_entries es ds) kind s n ≡ raise ds kind s (raise es kind s n)
  puts_raised [] ds n = refl
  puts_raised (e ∷ es) ds n = puts_raised es (put_entry e ds) n ∙ (put_raised e ds (raise es kind s n) ∙ ap (raise ds kind s) (raise_swap e es n))

  pub sorted_raised : (es : List Entry) (n : ℕ) → raise (put_entries es []) kind s n ≡ raise es kind s n
  sorted_raised es n = puts_raised es [] n

-- ---- they stay apart

among_put : (d e : Entry) (es : List Entry) → IsAmong d (put_entry e es) → (d ≡ e) ⊎ IsAmong d es
among_put d e [] (inl s) = inl s
among_put d e [] (inr a) = absurd a
among_put d e (x ∷ es) a = go (nat_lt e.stream x.stream) (among_put d e es) a
  where
    go : (b : Bool) → (IsAmong d (put_entry e es) → (d ≡ e) ⊎ IsAmong d es) → IsAmong d (cond b (e ∷ (x ∷ es)) (x ∷ put_entry e es)) → (d ≡ e) ⊎ IsAmong d (x ∷ es)
    go true ih (inl s) = inl s
    go true ih (inr a) = inr a
    go false ih (inl s) = inr (inl s)
    go false ih (inr a) = elim (ih a) [ inl s ↦ inl s | inr b ↦ inr (inr b) ]

put_apart : (e : Entry) (es : List Entry) → ((d : Entry) → IsAmong d es → IsApart e d) → AreApart es → AreApart (put_entry e es)
put_apart e [] h a = (h, tt)
put_apart e (x ∷ es) h a = go (nat_lt e.stream x.stream) (put_apart e es (λ d b. h d (inr b)) a.1)
  where
    go : (b : Bool) → AreApart (put_entry e es) → AreApart (cond b (e ∷ (x ∷ es)) (x ∷ put_entry e es))
    go true ih = (h, a)
    go false ih = (λ d b k s. elim (among_put d e es b) [ inl i ↦ h x (inl refl) (sym (k ∙ ap (λ z. z.ordered) i)) (sym (s ∙ ap (λ z. z.stream) i)) | inr c ↦ a.0 d c k s ], ih)

pub sorted_apart : (es ds : List Entry) → AreApart es → AreApart ds → ((e d : Entry) → IsAmong e es → IsAmong d ds → IsApart e d) → AreApart (put_entries es ds)
sorted_apart [] ds a b h = b
sorted_apart (e ∷ es) ds a b h =
    sorted_apart es (put_entry e ds) a.1 (put_apart e ds (λ d c. h e d (inl refl) c) b)
    (λ x d c k. elim (among_put d e ds k) [ inl i ↦ (λ o s. a.0 x c (sym (o ∙ ap (λ z. z.ordered) i)) (sym (s ∙ ap (λ z. z.stream) i))) | inr j ↦ h x d (inr c) j ])
