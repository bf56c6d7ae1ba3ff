-- What the entries of a forward point leave of a view, before anything becomes ready.
use Rattle.std.proofs.Common.{◌≡◌, ◌≢◌, ℕ, suc, ◌+◌, ◌-◌, ◌^◌, ◌<◌, max, Bool, true, false, cond, ◌⊎◌, inl, inr, List, [], ◌∷◌, refl, ap, sym, ◌∙◌, arith}
use Rattle.std.specs.Prelude.{◌&&◌, ◌||◌, ◌==◌, nat_lt, nat_le}
use Rattle.std.proofs.lemmas.Bool.{cases_eq, cond-true, cond-false, eq-eqb, ne_eqb, eqb-true, false≢true}
use Rattle.std.proofs.lemmas.Bool.Decides.{nat_tests}
use Rattle.sctp_serial.specs.Messages.{Message}
use Rattle.sctp_serial.specs.Unwrapped.{origin}
use Rattle.sctp_rx.specs.ReassemblyKey.{pair_rank}
use Rattle.sctp_rx.specs.Runs.{from_rank}
use Rattle.sctp_rx.specs.Held.{Held, rank_of}
use Rattle.proof_protocol.specs.State.{Entry, IsAmong}
use Rattle.proof_protocol.specs.Rules.{same, covers, raise}
use Rattle.proof_protocol.proofs.ToolsLemmas.{same_is, same_self}
use Rattle.proof_refines.specs.View.{View}
use Rattle.proof_protocol.specs.Points.{IsApart}
use Rattle.proof_refines.proofs.AmongLemmas.{from_cases, from_kept}
use Rattle.proof_refines.proofs.HeldKeyLemmas.{place_cases}
use Rattle.proof_refines.proofs.TakesLemmas.{AreAlike, is_place, is_here, is_off, moved}

-- whether the entry is of the kind and stream
abbrev pub is_named : Entry → Bool → ℕ → Bool
is_named e kind s = same e.ordered kind && (e.stream == s)

-- what the entries leave of what is held
abbrev pub cut : List Entry → Bool → ℕ → List Held → List Held
cut [] kind s hs = hs
cut (e ∷ es) kind s hs = cut es kind s (cond (is_named e kind s) (from_rank rank_of (pair_rank (suc (origin + e.number)) 0) hs) hs)

-- and to what they raise a number
abbrev pub lift : List Entry → Bool → ℕ → ℕ → ℕ
lift [] kind s n = n
lift (e ∷ es) kind s n = lift es kind s (cond (is_named e kind s) (max n (suc (origin + e.number))) n)

abbrev pub pending : List Entry → View → View
pending es v = record { held = λ k a. cut es k a (v.held k a); next = λ a. lift es true a (v.next a); passed = λ a. lift es false a (v.passed a); ready = v.ready }

-- ---- by the rules

pub lift_next : (es : List Entry) (s n m : ℕ) → n ≡ origin + m → lift es true s n ≡ origin + raise es true s m
lift_next [] s n m h = h
lift_next (e ∷ es) s n m h = lift_next es s (cond (is_named e true s) (max n (suc (origin + e.number))) n) (cond (is_named e true s) (max m (suc e.number)) m) (go (is_named e true s))
  where
    go : (b : Bool) → cond b (max n (suc (origin + e.number))) n ≡ origin + cond b (max m (suc e.number)) m
    go true = omega (arith, h)
    go false = h

pub lift_passed : (es : List Entry) (s n m : ℕ) → m ≡ n - origin → raise es false s m ≡ lift es false s n - origin
lift_passed [] s n m h = h
lift_passed (e ∷ es) s n m h = lift_passed es s (cond (is_named e false s) (max n (suc (origin + e.number))) n) (cond (is_named e false s) (max m (suc e.number)) m) (go (is_named e false s))
  where
    go : (b : Bool) → cond b (max m (suc e.number)) m ≡ cond b (max n (suc (origin + e.number))) n - origin
    go true = omega (arith, h)
    go false = h

-- where none is of the kind and stream
module _ (kind : Bool) (s : ℕ) where
  pub cut_none : (es : List Entry) → ((e : Entry) → IsAmong e es → is_named e kind s ≡ false) → (hs : List Held) → cut es kind s hs ≡ hs
  cut_none [] h hs = refl
  cut_none (e ∷ es) h hs = ap (cut es kind s) (cond-false (is_named e kind s) (from_rank rank_of (pair_rank (suc (origin + e.number)) 0) hs) hs (h e (inl refl))) ∙ cut_none es (λ d a. h d (inr a)) hs

  pub lift_none : (es : List Entry) → ((e : Entry) → IsAmong e es → is_named e kind s ≡ false) → (n : ℕ) → lift es kind s n ≡ n
  lift_none [] h n = refl
  lift_none (e ∷ es) h n = ap (lift es kind s) (cond-false (is_named e kind s) (max n (suc (origin + e.number))) n (h e (inl refl))) ∙ lift_none es (λ d a. h d (inr a)) n

  -- what stays
  pub cut_sub : (es : List Entry) (h : Held) (hs : List Held) → IsAmong h (cut es kind s hs) → IsAmong h hs
  cut_sub [] h hs a = a
  cut_sub (e ∷ es) h hs a = go (is_named e kind s) (cut_sub es h (cond (is_named e kind s) (from_rank rank_of (pair_rank (suc (origin + e.number)) 0) hs) hs) a)
    where
      go : (b : Bool) → IsAmong h (cond b (from_rank rank_of (pair_rank (suc (origin + e.number)) 0) hs) hs) → IsAmong h hs
      go true a = (from_cases rank_of (pair_rank (suc (origin + e.number)) 0) h hs a).0
      go false a = a

  at_test : (h : Held) (n : ℕ) → h.index < 2 ^ 63 → nat_lt (rank_of h) (pair_rank (suc (origin + n)) 0) ≡ nat_le (h.number - origin) n
  at_test h n l = by h.number h.index l
    where
      by : (a b : ℕ) → b < 2 ^ 63 → nat_lt (pair_rank a b) (pair_rank (suc (origin + n)) 0) ≡ nat_le (a - origin) n
      by a b l = grind (arith, nat_tests)

  parts : (a b c d : Bool) → (a && b) ≡ true → c ≡ false → d ≡ false → ((a && (b && c)) || d) ≡ false
  parts true true c d h p q = ap (λ z. z || d) p ∙ q
  parts true false c d h p q = cc
  parts false b c d h p q = cc

  off : (a b c d : Bool) → (a && b) ≡ false → d ≡ false → ((a && (b && c)) || d) ≡ false
  off true true c d h q = cc
  off true false c d h q = q
  off false b c d h q = q

  pub cut_uncovered : (es : List Entry) (h : Held) (hs : List Held) → h.index < 2 ^ 63 → IsAmong h (cut es kind s hs) → covers es kind s (h.number - origin) ≡ false
  cut_uncovered [] h hs l a = refl
  cut_uncovered (e ∷ es) h hs l a =
      go (is_named e kind s) refl (cut_sub es h (cond (is_named e kind s) (from_rank rank_of (pair_rank (suc (origin + e.number)) 0) hs) hs) a) (cut_uncovered es h (cond (is_named e kind s) (from_rank rank_of (pair_rank (suc (origin + e.number)) 0) hs) hs) l a)
    where
      go : (b : Bool) → is_named e kind s ≡ b → IsAmong h (cond b (from_rank rank_of (pair_rank (suc (origin + e.number)) 0) hs) hs) → covers es kind s (h.number - origin) ≡ false → covers (e ∷ es) kind s (h.number - origin) ≡ false
      go true t a ih =
          let u = (from_cases rank_of (pair_rank (suc (origin + e.number)) 0) h hs a).1 in
          parts (same e.ordered kind) (e.stream == s) (nat_le (h.number - origin) e.number) (covers es kind s (h.number - origin)) t (sym (at_test h e.number l) ∙ u) ih
      go false t a ih = off (same e.ordered kind) (e.stream == s) (nat_le (h.number - origin) e.number) (covers es kind s (h.number - origin)) t ih

  keep : (a b c d : Bool) → ((a && (b && c)) || d) ≡ false → (d ≡ false) × ((a && b) ≡ true → c ≡ false)
  keep true true true d h = cc
  keep true true false d h = (h, λ t. refl)
  keep true false c d h = (h, λ t. cc)
  keep false b c d h = (h, λ t. cc)

  pub cut_kept : (es : List Entry) (h : Held) (hs : List Held) → h.index < 2 ^ 63 → IsAmong h hs → covers es kind s (h.number - origin) ≡ false → IsAmong h (cut es kind s hs)
  cut_kept [] h hs l a c = a
  cut_kept (e ∷ es) h hs l a c =
      let k = keep (same e.ordered kind) (e.stream == s) (nat_le (h.number - origin) e.number) (covers es kind s (h.number - origin)) c in
      cut_kept es h (cond (is_named e kind s) (from_rank rank_of (pair_rank (suc (origin + e.number)) 0) hs) hs) l (go (is_named e kind s) k.1) k.0
    where
      go : (b : Bool) → (b ≡ true → nat_le (h.number - origin) e.number ≡ false) → IsAmong h (cond b (from_rank rank_of (pair_rank (suc (origin + e.number)) 0) hs) hs)
      go true t = from_kept rank_of (pair_rank (suc (origin + e.number)) 0) h hs a (at_test h e.number l ∙ t refl)
      go false t = a

-- ---- entry after entry

pub others_apart : (e : Entry) (es : List Entry) → ((d : Entry) → IsAmong d es → IsApart e d) → (d : Entry) → IsAmong d es → is_named d e.ordered e.stream ≡ false
others_apart e es h d a = go (same d.ordered e.ordered) refl (d.stream == e.stream) refl
  where
    go : (b : Bool) → same d.ordered e.ordered ≡ b → (c : Bool) → (d.stream == e.stream) ≡ c → (b && c) ≡ false
    go true p true q = absurd (h d a (sym (same_is d.ordered e.ordered p)) (sym (eqb-true d.stream e.stream q)))
    go true p false q = refl
    go false p c q = refl

pub named_here : (e : Entry) (k : Bool) (a : ℕ) → k ≡ e.ordered → a ≡ e.stream → is_named e k a ≡ true
named_here e k a p q = ap (λ z. z && (e.stream == a)) (same_self e.ordered k (sym p)) ∙ eq-eqb e.stream a (sym q)

pub named_off : (e : Entry) (k : Bool) (a : ℕ) → (k ≡ e.ordered → a ≡ e.stream → ⊥) → is_named e k a ≡ false
named_off e k a d = go (same e.ordered k) refl (e.stream == a) refl
  where
    go : (b : Bool) → same e.ordered k ≡ b → (c : Bool) → (e.stream == a) ≡ c → (b && c) ≡ false
    go true p true q = absurd (d (sym (same_is e.ordered k p)) (sym (eqb-true e.stream a q)))
    go true p false q = refl
    go false p c q = refl

-- a delivery on the stream of the first entry, whatever the others do
pub pending_moved : (e : Entry) (es : List Entry) → e.ordered ≡ true → ((d : Entry) → IsAmong d es → is_named d true e.stream ≡ false) → (v : View) (hs : List Held) (n : ℕ) (ms : List Message)
    → AreAlike (moved (pending (e ∷ es) v) true e.stream hs n ms) (pending es (moved v true e.stream hs n ms))
pending_moved e es o others v hs n ms = record {
  held = λ k a. held k a (place_cases k true a e.stream);
  next = λ a. next a (cases_eq a e.stream);
  passed = λ a. ap (lift es false a) (sym (cond-false (is_named e false a) (max (v.passed a) (suc (origin + e.number))) (v.passed a) (named_off e false a (λ p q. false≢true (p ∙ o)))));
  ready = refl;
}
  where
    held : (k : Bool) (a : ℕ) → ((k ≡ true) × (a ≡ e.stream)) ⊎ (k ≡ true → a ≡ e.stream → ⊥)
        → cut es k a (cond (is_place true e.stream k a) hs (v.held k a)) ≡ cond (is_place true e.stream k a) hs (cut (e ∷ es) k a (v.held k a))
    held k a (inl p) =
        let t = is_here true k e.stream a p.0 p.1 in
        ap (cut es k a) (cond-true (is_place true e.stream k a) hs (v.held k a) t)
        ∙ (cut_none k a es (λ d b. ap (λ z. is_named d z a) p.0 ∙ (ap (λ z. is_named d true z) p.1 ∙ others d b)) hs ∙ sym (cond-true (is_place true e.stream k a) hs (cut (e ∷ es) k a (v.held k a)) t))
    held k a (inr d) =
        let f = is_off true k e.stream a d in
        let n = named_off e k a (λ p q. d (p ∙ o) q) in
        ap (cut es k a) (cond-false (is_place true e.stream k a) hs (v.held k a) f ∙ sym (cond-false (is_named e k a) (from_rank rank_of (pair_rank (suc (origin + e.number)) 0) (v.held k a)) (v.held k a) n))
        ∙ sym (cond-false (is_place true e.stream k a) hs (cut (e ∷ es) k a (v.held k a)) f)

    next : (a : ℕ) → (a ≡ e.stream) ⊎ (a ≢ e.stream) → lift es true a (cond (true && (a == e.stream)) n (v.next a)) ≡ cond (true && (a == e.stream)) n (lift (e ∷ es) true a (v.next a))
    next a (inl p) =
        let t = eq-eqb a e.stream p in
        ap (lift es true a) (cond-true (a == e.stream) n (v.next a) t)
        ∙ (lift_none true a es (λ d b. ap (λ z. is_named d true z) p ∙ others d b) n ∙ sym (cond-true (a == e.stream) n (lift (e ∷ es) true a (v.next a)) t))
    next a (inr d) =
        let f = ne_eqb a e.stream d in
        let n' = named_off e true a (λ p q. d q) in
        ap (lift es true a) (cond-false (a == e.stream) n (v.next a) f ∙ sym (cond-false (is_named e true a) (max (v.next a) (suc (origin + e.number))) (v.next a) n'))
        ∙ sym (cond-false (a == e.stream) n (lift (e ∷ es) true a (v.next a)) f)

-- what the first entry leaves of its own stream
pub pending_here : (e : Entry) (es : List Entry) (v : View) → ((d : Entry) → IsAmong d es → is_named d e.ordered e.stream ≡ false)
    → (pending (e ∷ es) v).held e.ordered e.stream ≡ from_rank rank_of (pair_rank (suc (origin + e.number)) 0) (v.held e.ordered e.stream)
pending_here e es v others =
    cut_none e.ordered e.stream es others (cond (is_named e e.ordered e.stream) (from_rank rank_of (pair_rank (suc (origin + e.number)) 0) (v.held e.ordered e.stream)) (v.held e.ordered e.stream))
    ∙ cond-true (is_named e e.ordered e.stream) (from_rank rank_of (pair_rank (suc (origin + e.number)) 0) (v.held e.ordered e.stream)) (v.held e.ordered e.stream) (named_here e e.ordered e.stream refl refl)

pub pending_next : (e : Entry) (es : List Entry) (v : View) → e.ordered ≡ true → ((d : Entry) → IsAmong d es → is_named d true e.stream ≡ false) → (pending (e ∷ es) v).next e.stream ≡ max (suc (origin + e.number)) (v.next e.stream)
pending_next e es v o others =
    lift_none true e.stream es others (cond (is_named e true e.stream) (max (v.next e.stream) (suc (origin + e.number))) (v.next e.stream))
    ∙ (cond-true (is_named e true e.stream) (max (v.next e.stream) (suc (origin + e.number))) (v.next e.stream) (named_here e true e.stream (sym o) refl) ∙ turned (v.next e.stream) (suc (origin + e.number)))
  where
    turned : (a b : ℕ) → max a b ≡ max b a
    turned a b = omega arith

-- an unordered entry: nothing becomes ready
pub pending_first : (e : Entry) (es : List Entry) (v w : View) → ((k : Bool) (a : ℕ) → w.held k a ≡ cond (is_named e k a) (from_rank rank_of (pair_rank (suc (origin + e.number)) 0) (v.held k a)) (v.held k a))
    → e.ordered ≡ false → ((a : ℕ) → w.next a ≡ v.next a) → ((a : ℕ) → w.passed a ≡ cond (is_named e false a) (max (v.passed a) (suc (origin + e.number))) (v.passed a)) → w.ready ≡ v.ready
    → AreAlike (pending (e ∷ es) v) (pending es w)
pending_first e es v w held o next passed ready = record {
  held = λ k a. ap (cut es k a) (held k a);
  next = λ a. ap (lift es true a) (next a ∙ sym (cond-false (is_named e true a) (max (v.next a) (suc (origin + e.number))) (v.next a) (named_off e true a (λ p q. false≢true (sym (p ∙ o))))));
  passed = λ a. ap (lift es false a) (passed a);
  ready = ready;
}
