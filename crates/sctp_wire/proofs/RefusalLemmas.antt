-- Lists of items that stand for values, seen as what the values say.
use Rattle.std.proofs.Common.{◌≡◌, ◌≢◌, inl, inr, ℕ, List, [], ◌∷◌, map, refl, sym, subst, ◌∙◌}
use Rattle.sctp_item.specs.Item.{Item, Takes, ParsesAll, FailsToParse}
use Rattle.sctp_wire.specs.Refusal.{IsStuck, FailsToParseAs}
use Rattle.sctp_wire.specs.Shape.{Shape, RefusesAs}
use Rattle.sctp_wire.proofs.ParsesAllLemmas.{one_item_lem}
use Rattle.sctp_wire.specs.declared.error.ChunkParseError.{ChunkParseError}
use Rattle.sctp_wire.specs.declared.error.ChunkParseError.TheVariants.{InvalidLength, InvalidType, InvalidPadding, InvalidValue, Memory}

pub ParsesAll_map : {X Y : Type 0} (R : Item → X → Type 0) (S : Item → Y → Type 0) (f : X → Y) → ((i : Item) (x : X) → R i x → S i (f x))
    → (bytes : List ℕ) (xs : List X) (rest : List ℕ) → ParsesAll R bytes xs rest → ParsesAll S bytes (map f xs) rest
ParsesAll_map R S f each bytes [] rest t = t
ParsesAll_map R S f each bytes (x ∷ xs) rest t = (t.0, t.1, t.2, each t.0 x t.3, ParsesAll_map R S f each t.1 xs rest t.4)

pub BreaksAs_map : {X Y : Type 0} (R : Item → X → Type 0) (S : Item → Y → Type 0) (f : X → Y) → ((i : Item) (x : X) → R i x → S i (f x))
    → (Refuses : Item → ChunkParseError → Type 0) (bytes : List ℕ) (fault : ChunkParseError) → FailsToParseAs R Refuses bytes fault → FailsToParseAs S Refuses bytes fault
BreaksAs_map R S f each Refuses bytes fault b = record {
  front = map f b.front;
  rest = b.rest;
  parses = ParsesAll_map R S f each bytes b.front b.rest b.parses;
  some = b.some;
  stuck = b.stuck;
}

-- Where what stands for a value is refused for want of memory alone, a list of such items is too.
module _ {X : Type 0} (R : Item → X → Type 0) (Refuses : Item → ChunkParseError → Type 0)
    (stands : (i : Item) (x : X) (fault : ChunkParseError) → R i x → Refuses i fault → fault ≡ Memory)
    (one_fault : (i : Item) (fault other : ChunkParseError) → Refuses i fault → Refuses i other → fault ≢ Memory → other ≢ Memory → fault ≡ other) where
  -- bytes that are stuck begin with no item that stands for a value
  stuck_for_all : (bytes : List ℕ) (fault : ChunkParseError) → IsStuck Refuses bytes fault → fault ≢ Memory
      → (i : Item) (after : List ℕ) (x : X) → Takes bytes i after → R i x → ⊥
  stuck_for_all bytes fault (inl none) memory i after x taken means = none.1 i after taken
  stuck_for_all bytes fault (inr refused) memory i after x taken means =
      let same = one_item_lem bytes after refused.1 i refused.0 taken refused.2 in
      memory (stands refused.0 x fault (subst (λ (j : Item). R j x) same.0 means) refused.3)

  pub BreaksAs_Breaks : (bytes : List ℕ) (fault : ChunkParseError) → FailsToParseAs R Refuses bytes fault → fault ≢ Memory → FailsToParse R bytes
  BreaksAs_Breaks bytes fault b memory = record {
    front = b.front;
    rest = b.rest;
    parses = b.parses;
    some = b.some;
    stuck = stuck_for_all b.rest fault b.stuck memory;
  }

  stuck_same : (bytes : List ℕ) (fault other : ChunkParseError) → IsStuck Refuses bytes fault → IsStuck Refuses bytes other → fault ≢ Memory → other ≢ Memory → fault ≡ other
  stuck_same bytes fault other (inl p) (inl q) m n = p.0 ∙ sym q.0
  stuck_same bytes fault other (inl p) (inr q) m n = absurd (p.1 q.0 q.1 q.2)
  stuck_same bytes fault other (inr p) (inl q) m n = absurd (q.1 p.0 p.1 p.2)
  stuck_same bytes fault other (inr p) (inr q) m n =
      let same = one_item_lem bytes p.1 q.1 p.0 q.0 p.2 q.2 in
      one_fault q.0 fault other (subst (λ (j : Item). Refuses j fault) same.0 p.3) q.3 m n

  breaks_same : (bytes : List ℕ) (fault other : ChunkParseError) (xs ys : List X) (x_rest y_rest : List ℕ)
      → ParsesAll R bytes xs x_rest → ParsesAll R bytes ys y_rest → IsStuck Refuses x_rest fault → IsStuck Refuses y_rest other
      → fault ≢ Memory → other ≢ Memory → fault ≡ other
  breaks_same bytes fault other [] [] x_rest y_rest t s p q m n =
      stuck_same y_rest fault other (subst (λ (b : List ℕ). IsStuck Refuses b fault) (sym t ∙ s) p) q m n
  breaks_same bytes fault other [] (y ∷ ys) x_rest y_rest t s p q m n =
      absurd (stuck_for_all bytes fault (subst (λ (b : List ℕ). IsStuck Refuses b fault) (sym t) p) m s.0 s.1 y s.2 s.3)
  breaks_same bytes fault other (x ∷ xs) [] x_rest y_rest t s p q m n =
      absurd (stuck_for_all bytes other (subst (λ (b : List ℕ). IsStuck Refuses b other) (sym s) q) n t.0 t.1 x t.2 t.3)
  breaks_same bytes fault other (x ∷ xs) (y ∷ ys) x_rest y_rest t s p q m n =
      let same = one_item_lem bytes t.1 s.1 t.0 s.0 t.2 s.2 in
      breaks_same s.1 fault other xs ys x_rest y_rest (subst (λ (b : List ℕ). ParsesAll R b xs x_rest) same.1 t.4) s.4 p q m n

  -- a list has one fault
  pub one_break : (bytes : List ℕ) (fault other : ChunkParseError) → FailsToParseAs R Refuses bytes fault → FailsToParseAs R Refuses bytes other
      → fault ≢ Memory → other ≢ Memory → fault ≡ other
  one_break bytes fault other b c m n = breaks_same bytes fault other b.front c.front b.rest c.rest b.parses c.parses b.stuck c.stuck m n

-- A parameter or a cause has one fault.
pub one_fault_as : (shape : ℕ → Shape) (Misspeaks : ℕ → List ℕ → Type 0) (asked typ : ℕ) (value : List ℕ) (fault other : ChunkParseError)
    → RefusesAs shape Misspeaks asked typ value fault → RefusesAs shape Misspeaks asked typ value other → fault ≢ Memory → other ≢ Memory → fault ≡ other
one_fault_as shape Misspeaks asked typ value InvalidLength InvalidLength p q m n = refl
one_fault_as shape Misspeaks asked typ value InvalidLength InvalidType p q m n = absurd (q p.0)
one_fault_as shape Misspeaks asked typ value InvalidLength InvalidPadding p q m n = absurd q
one_fault_as shape Misspeaks asked typ value InvalidLength InvalidValue p q m n = absurd (p.1 q.1)
one_fault_as shape Misspeaks asked typ value InvalidType InvalidLength p q m n = absurd (p q.0)
one_fault_as shape Misspeaks asked typ value InvalidType InvalidType p q m n = refl
one_fault_as shape Misspeaks asked typ value InvalidType InvalidPadding p q m n = absurd q
one_fault_as shape Misspeaks asked typ value InvalidType InvalidValue p q m n = absurd (p q.0)
one_fault_as shape Misspeaks asked typ value InvalidPadding other p q m n = absurd p
one_fault_as shape Misspeaks asked typ value InvalidValue InvalidLength p q m n = absurd (q.1 p.1)
one_fault_as shape Misspeaks asked typ value InvalidValue InvalidType p q m n = absurd (q p.0)
one_fault_as shape Misspeaks asked typ value InvalidValue InvalidPadding p q m n = absurd q
one_fault_as shape Misspeaks asked typ value InvalidValue InvalidValue p q m n = refl
one_fault_as shape Misspeaks asked typ value Memory other p q m n = absurd (m refl)
one_fault_as shape Misspeaks asked typ value fault Memory p q m n = absurd (n refl)
