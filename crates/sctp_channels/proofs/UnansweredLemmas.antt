-- The set of the streams that wait for an answer, and their list.
use Rattle.std.proofs.Common.{◌≡◌, ℕ, ◌<◌, ◌≤◌, cond, Bool, true, false, List, [], ◌∷◌, ◌++◌, length, refl, sym, ap, subst, ◌∙◌}
use Rattle.std.specs.Prelude.{◌||◌, ◌^◌, nat_eq, not, All}
use Rattle.std.specs.BTreeMap.{is_at}
use Rattle.std.specs.Cmp.{nat_eq_equiv}
use Rattle.std.specs.List.{AllByRecursion, list_any}
use Rattle.std.specs.Ordering.{nat_cmp}
use Rattle.std.proofs.lemmas.Bool.{eqb-true}
use Rattle.std.proofs.lemmas.List.Elements.{All-append, All-cons, All-head, All-nil, All-tail}
use Rattle.std.proofs.lemmas.List.Folds.{list_any-append}
use Rattle.std.proofs.lemmas.Map.Keys.{IsDistinct-head, IsDistinct-push, IsDistinct-tail}
use Rattle.std.proofs.lemmas.Map.Steps.{length-le_from_distinct_below, list_any_congr}
use Rattle.std.proofs.lemmas.Map.Made.{IsDistinct-from_count}
use Rattle.sctp_serial.proofs.NumberLemmas.{at_equal}
use Rattle.sctp_channels.specs.Entries.{IsStream}
use Rattle.sctp_channels.specs.Unanswered.{AreWaiting, waits}

pub has : (id : ℕ) (keys : List ℕ) → list_any (is_at (nat_cmp id)) keys ≡ waits id keys
has id [] = refl
has id (k ∷ keys) = ap (λ (b : Bool). b || list_any (is_at (nat_cmp id)) keys) (at_equal id k) ∙ ap (λ (b : Bool). nat_eq id k || b) (has id keys)

pub waiting_none : (keys ids : List ℕ) → keys ≡ [] → ids ≡ [] → AreWaiting keys ids
waiting_none keys ids no_keys no_ids =
    subst (λ (ks : List ℕ). AreWaiting ks ids) (sym no_keys)
    (subst (AreWaiting []) (sym no_ids) (record { same = λ q. refl; once = IsDistinct-from_count nat_eq_equiv [] refl; streams = All-nil IsStream }))

-- ---- one more

one_more : (here before : Bool) → cond here true before ≡ (before || (here || false))
one_more true true = refl
one_more true false = refl
one_more false true = refl
one_more false false = refl

-- what the set has, once one is put to it or taken out
abbrev pub HasInstead : ℕ → Bool → (keys new : List ℕ) → Type 0
HasInstead id b keys new = (q : ℕ) → list_any (is_at (nat_cmp q)) new ≡ cond (is_at (nat_cmp id) q) b (list_any (is_at (nat_cmp q)) keys)

instead : (id : ℕ) (b : Bool) (keys new ids : List ℕ) → AreWaiting keys ids → HasInstead id b keys new → (q : ℕ) → waits q new ≡ cond (nat_eq q id) b (waits q ids)
instead id b keys new ids a has_now q =
    sym (has q new) ∙ has_now q
    ∙ ap (λ (old : Bool). cond (is_at (nat_cmp id) q) b old) (has q keys ∙ a.same q)
    ∙ ap (λ (here : Bool). cond here b (waits q ids)) (at_equal id q ∙ nat_eq_equiv.symm id q)

pub is_absent : (has_it is_new : Bool) → is_new ≡ not has_it → is_new ≡ true → has_it ≡ false
is_absent true is_new e new = absurd cc
is_absent false is_new e new = refl

pub waiting_more : (id : ℕ) (keys new ids more : List ℕ) → AreWaiting keys ids → id < 2 ^ 16 → list_any (is_at (nat_cmp id)) keys ≡ false → HasInstead id true keys new
    → more ≡ ids ++ id ∷ [] → AreWaiting new more
waiting_more id keys new ids more a stream absent has_now pushed =
    subst (AreWaiting new) (sym pushed)
    (record {
      same = λ q. instead id true keys new ids a has_now q ∙ one_more (nat_eq q id) (waits q ids) ∙ sym (list_any-append (nat_eq q) ids (id ∷ []));
      once = IsDistinct-push nat_eq_equiv ids id a.once (sym (a.same id) ∙ sym (has id keys) ∙ absent);
      streams = All-append IsStream ids (id ∷ []) a.streams (All-cons IsStream id [] stream (All-nil IsStream));
    })

-- ---- one less

none_waits : (id : ℕ) (ids : List ℕ) → AllByRecursion (λ (x : ℕ). nat_eq id x ≡ false) ids → waits id ids ≡ false
none_waits id [] others = refl
none_waits id (x ∷ ids) others = ap (λ (b : Bool). b || waits id ids) others.0 ∙ none_waits id ids others.1

one_less : (here behind : Bool) → (here ≡ true → behind ≡ false) → cond here false (here || behind) ≡ behind
one_less true behind last = sym (last refl)
one_less false behind last = refl

first_taken : (id : ℕ) (keys new rest : List ℕ) → AreWaiting keys (id ∷ rest) → HasInstead id false keys new → AreWaiting new rest
first_taken id keys new rest a has_now = record {
  same = λ q. instead id false keys new (id ∷ rest) a has_now q
      ∙ one_less (nat_eq q id) (waits q rest) (λ here. list_any_congr nat_eq_equiv q id rest here ∙ none_waits id rest (IsDistinct-head nat_eq id rest a.once));
  once = IsDistinct-tail nat_eq id rest a.once;
  streams = All-tail IsStream id rest a.streams;
}

pub waiting_less : (id : ℕ) (keys new ids rest : List ℕ) → AreWaiting keys ids → ids ≡ id ∷ rest → HasInstead id false keys new → AreWaiting new rest
waiting_less id keys new ids rest a taken has_now = first_taken id keys new rest (subst (AreWaiting keys) taken a) has_now

-- ---- how many

found_here : (q x : ℕ) (here rest : Bool) → nat_eq q x ≡ here → IsStream x → (here || rest) ≡ true → (rest ≡ true → IsStream q) → IsStream q
found_here q x true rest e stream is later = subst IsStream (sym (eqb-true q x e)) stream
found_here q x false rest e stream is later = later is

is_stream : (q : ℕ) (ids : List ℕ) → All IsStream ids → waits q ids ≡ true → IsStream q
is_stream q [] streams is = absurd cc
is_stream q (x ∷ ids) streams is = found_here q x (nat_eq q x) (waits q ids) refl (All-head IsStream x ids streams) is (is_stream q ids (All-tail IsStream x ids streams))

pub few_wait : (keys ids : List ℕ) → AreWaiting keys ids → length ids ≤ 65_536
few_wait keys ids a = length-le_from_distinct_below ids 65_536 a.once (λ q is. is_stream q ids a.streams is)
