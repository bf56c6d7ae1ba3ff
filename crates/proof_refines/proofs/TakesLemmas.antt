-- Message after message becomes ready in a view.
use Rattle.std.proofs.Common.{◌≡◌, ℕ, zero, suc, Bool, true, false, cond, ◌⊎◌, inl, inr, Option, Some, None, List, [], ◌∷◌, ◌++◌, refl, ap, sym, ◌∙◌, subst, append_assoc, append-nil}
use Rattle.std.specs.Prelude.{◌&&◌, ◌==◌, option_map, option_to_list}
use Rattle.std.specs.List.{find}
use Rattle.std.proofs.lemmas.Bool.{cases_eq, and_parts, eqb-true, eq-eqb, ne_eqb, cond-true, cond-false}
use Rattle.sctp_serial.specs.Messages.{Message}
use Rattle.sctp_rx.specs.Held.{Held, rank_of, intervals_of, is_complete, is_in_turn, left_by}
use Rattle.proof_refines.specs.SettledStreams.{AreInOrder}
use Rattle.sctp_rx.specs.Delivery.{OrderedDelivery, preceded_by, delivering, deliver_within, first_complete}
use Rattle.sctp_rx.specs.Held.{message_of_run}
use Rattle.proof_refines.proofs.SettledRunsLemmas.{left_order}
use Rattle.sctp_reassembly.proofs.FindLemmas.{left_unfound}
use Rattle.proof_protocol.specs.Rules.{same}
use Rattle.proof_protocol.proofs.ToolsLemmas.{same_is, same_self}
use Rattle.proof_protocol.specs.Reassembly.{Chunk, Queue, KeyOf, next_of, ReadyRun, RunTaken, Readied, no_more, one_more, NoneReady}
use Rattle.proof_refines.specs.View.{View, IsSeenAs}
use Rattle.proof_refines.proofs.RisingLemmas.{Rising}
use Rattle.proof_refines.proofs.IntervalLemmas.{rising, Out, found_passes, out, turn_some, complete_some}
use Rattle.proof_refines.proofs.HeldKeyLemmas.{Decided, place_cases}
use Rattle.proof_refines.proofs.SeenAsLemmas.{IsAt, ready_run, without_run, run_taken, fewer, seen_without}

module _ (is_interleaved : Bool) where
  -- run after run became ready
  pub data Takes : Queue (KeyOf is_interleaved) (next_of is_interleaved) → Queue (KeyOf is_interleaved) (next_of is_interleaved) → Type 0 where
    none : {q : Queue (KeyOf is_interleaved) (next_of is_interleaved)} → Takes q q
    one : {q r : Queue (KeyOf is_interleaved) (next_of is_interleaved)} (m : Queue (KeyOf is_interleaved) (next_of is_interleaved)) (κ : KeyOf is_interleaved) (n : ℕ) (w : ℕ → Chunk) → ReadyRun (KeyOf is_interleaved) (next_of is_interleaved) q κ n w → RunTaken (KeyOf is_interleaved) (next_of is_interleaved) q m κ n w
        → ((μ : KeyOf is_interleaved) (c : Chunk) → m.chunks μ ≡ Some c → q.chunks μ ≡ Some c) → Takes m r → Takes q r

  pub takes_on : {q m r : Queue (KeyOf is_interleaved) (next_of is_interleaved)} → Takes q m → Takes m r → Takes q r
  takes_on none t = t
  takes_on (one m κ n w a b c s) t = one m κ n w a b c (takes_on s t)

  pub takes_fewer : {q r : Queue (KeyOf is_interleaved) (next_of is_interleaved)} → Takes q r → (μ : KeyOf is_interleaved) (c : Chunk) → r.chunks μ ≡ Some c → q.chunks μ ≡ Some c
  takes_fewer none μ c h = h
  takes_fewer (one m κ n w a b d s) μ c h = d μ c (takes_fewer s μ c h)

  pub takes_readied : {q r : Queue (KeyOf is_interleaved) (next_of is_interleaved)} → Takes q r → NoneReady is_interleaved r → Readied (KeyOf is_interleaved) (next_of is_interleaved) q r
  takes_readied none h = no_more h
  takes_readied (one m κ n w a b d s) h = one_more m κ n w a b (takes_readied s h)

module _ (is_interleaved : Bool) (shift : ℕ) where
  -- to what a view is seen as
  pub record Leads (q : Queue (KeyOf is_interleaved) (next_of is_interleaved)) (v : View) : Type 0 where
    pub queue : Queue (KeyOf is_interleaved) (next_of is_interleaved)
    pub takes : Takes is_interleaved q queue
    pub seen_as : IsSeenAs is_interleaved shift v queue

-- views that are alike
pub record AreAlike (v v' : View) : Type 0 where
  pub held : (k : Bool) (a : ℕ) → v'.held k a ≡ v.held k a
  pub next : (a : ℕ) → v'.next a ≡ v.next a
  pub passed : (a : ℕ) → v'.passed a ≡ v.passed a
  pub ready : v'.ready ≡ v.ready

pub alike_same : (v v' : View) → AreAlike v v' → v ≡ v'
alike_same v v' l =
    let h : v.held ≡ v'.held = (λ i k a. sym (l.held k a) i) in
    let n : v.next ≡ v'.next = (λ i a. sym (l.next a) i) in
    let p : v.passed ≡ v'.passed = (λ i a. sym (l.passed a) i) in
    let r : v.ready ≡ v'.ready = sym l.ready in
    λ i. record { held = h i; next = n i; passed = p i; ready = r i }

pub seen_alike : (is_interleaved : Bool) (shift : ℕ) (v v' : View) (q : Queue (KeyOf is_interleaved) (next_of is_interleaved)) → AreAlike v v' → IsSeenAs is_interleaved shift v q → IsSeenAs is_interleaved shift v' q
seen_alike is_interleaved shift v v' q l p = subst (λ (z : View). IsSeenAs is_interleaved shift z q) (alike_same v v' l) p

-- whether this is the place
abbrev pub is_place : Bool → ℕ → Bool → ℕ → Bool
is_place kind s k a = same kind k && (a == s)

pub is_here : (kind k : Bool) (s a : ℕ) → k ≡ kind → a ≡ s → is_place kind s k a ≡ true
is_here kind k s a e f = ap (λ (z : Bool). z && (a == s)) (same_self kind k (sym e)) ∙ eq-eqb a s f

pub is_off : (kind k : Bool) (s a : ℕ) → (k ≡ kind → a ≡ s → ⊥) → is_place kind s k a ≡ false
is_off kind k s a d = go (same kind k) refl (a == s) refl
  where
    go : (b : Bool) → same kind k ≡ b → (c : Bool) → (a == s) ≡ c → (b && c) ≡ false
    go true e true f = absurd (d (sym (same_is kind k e)) (eqb-true a s f))
    go true e false f = refl
    go false e c f = refl

-- a view with another list at one place, the next number of an ordered stream, and more messages
abbrev pub moved : View → Bool → ℕ → List Held → ℕ → List Message → View
moved v kind s hs n ms = record {
  held = λ k a. cond (is_place kind s k a) hs (v.held k a);
  next = λ a. cond (kind && (a == s)) n (v.next a);
  passed = v.passed;
  ready = v.ready ++ ms;
}

pub moved_at : (v : View) (kind : Bool) (s : ℕ) (hs : List Held) (n : ℕ) (ms : List Message) → IsAt v (moved v kind s hs n ms) kind s hs
moved_at v kind s hs n ms = record {
  here = cond-true (is_place kind s kind s) hs (v.held kind s) (is_here kind kind s s refl refl);
  others = λ k a d. cond-false (is_place kind s k a) hs (v.held k a) (is_off kind k s a d);
}

-- what is there already
pub moved_none : (v : View) (kind : Bool) (s : ℕ) (hs : List Held) (n : ℕ) → v.held kind s ≡ hs → v.next s ≡ n → AreAlike v (moved v kind s hs n [])
moved_none v kind s hs n here next = record {
  held = λ k a. elim (place_cases k kind a s) [
    | inl e ↦ cond-true (is_place kind s k a) hs (v.held k a) (is_here kind k s a e.0 e.1) ∙ (sym here ∙ sym (ap (λ (z : Bool). v.held z a) e.0 ∙ ap (v.held kind) e.1))
    | inr d ↦ cond-false (is_place kind s k a) hs (v.held k a) (is_off kind k s a d)
  ];
  next = λ a. next_is kind a (cases_eq a s);
  passed = λ a. refl;
  ready = append-nil v.ready;
}
  where
    next_is : (b : Bool) (a : ℕ) → (a ≡ s) ⊎ (a ≡ s → ⊥) → cond (b && (a == s)) n (v.next a) ≡ v.next a
    next_is false a d = refl
    next_is true a (inl e) = cond-true (a == s) n (v.next a) (eq-eqb a s e) ∙ (sym next ∙ ap v.next (sym e))
    next_is true a (inr d) = cond-false (a == s) n (v.next a) (ne_eqb a s d)

-- twice at one place
pub moved_twice : (v : View) (kind : Bool) (s : ℕ) (hs gs : List Held) (n m : ℕ) (ms ns : List Message) → AreAlike (moved (moved v kind s hs n ms) kind s gs m ns) (moved v kind s gs m (ms ++ ns))
moved_twice v kind s hs gs n m ms ns = record {
  held = λ k a. twice hs gs (is_place kind s k a) (v.held k a);
  next = λ a. twice n m (kind && (a == s)) (v.next a);
  passed = λ a. refl;
  ready = sym (append_assoc v.ready ms ns);
}
  where
    twice : {X : Type 0} (x y : X) (b : Bool) (z : X) → cond b y z ≡ cond b y (cond b x z)
    twice x y true z = refl
    twice x y false z = refl

module _ (is_interleaved : Bool) (shift : ℕ) (decide : Decided is_interleaved) where
  -- a complete message goes out
  pub goes_out : (v : View) (q : Queue (KeyOf is_interleaved) (next_of is_interleaved)) (kind : Bool) (s : ℕ) (hs left : List Held) (e : Held) (es : List Held) → IsSeenAs is_interleaved shift v q → v.held kind s ≡ hs → AreInOrder hs → Out hs e es left
      → is_complete (e ∷ es) ≡ true → (kind ≡ true → e.number ≡ v.next s) → Leads is_interleaved shift q (moved v kind s left (suc (v.next s)) (message_of_run (e ∷ es) ∷ []))
  goes_out v q kind s hs left e es p here order o complete turn =
      let v' = moved v kind s left (suc (v.next s)) (message_of_run (e ∷ es) ∷ []) in
      let at = moved_at v kind s left (suc (v.next s)) (message_of_run (e ∷ es) ∷ []) in
      let at' : IsAt v v' kind s (o.front ++ o.back) = record { here = at.here ∙ o.left_is; others = at.others } in
      let whole = here ∙ o.is in
      let rises = subst (Rising rank_of) (sym here) (rising hs order) in
      record {
        queue = without_run is_interleaved shift decide v v' q p kind s e es o.front o.back o.linked whole rises complete turn at' (λ a. refl) (λ a. refl) refl;
        takes = one (without_run is_interleaved shift decide v v' q p kind s e es o.front o.back o.linked whole rises complete turn at' (λ a. refl) (λ a. refl) refl)
            _ _ _
            (ready_run is_interleaved shift decide v v' q p kind s e es o.front o.back o.linked whole rises complete turn at' (λ a. refl) (λ a. refl) refl)
            (run_taken is_interleaved shift decide v v' q p kind s e es o.front o.back o.linked whole rises complete turn at' (λ a. refl) (λ a. refl) refl)
            (fewer is_interleaved shift decide v v' q p kind s e es o.front o.back o.linked whole rises complete turn at' (λ a. refl) (λ a. refl) refl) none;
        seen_as = seen_without is_interleaved shift decide v v' q p kind s e es o.front o.back o.linked whole rises complete turn at' (λ a. refl) (λ a. refl) refl;
      }

  pub leads_alike : (q : Queue (KeyOf is_interleaved) (next_of is_interleaved)) (v v' : View) → AreAlike v v' → Leads is_interleaved shift q v → Leads is_interleaved shift q v'
  leads_alike q v v' l x = record { queue = x.queue; takes = x.takes; seen_as = seen_alike is_interleaved shift v v' x.queue l x.seen_as }

  pub leads_on : (q : Queue (KeyOf is_interleaved) (next_of is_interleaved)) (v v' : View) (x : Leads is_interleaved shift q v) → Leads is_interleaved shift x.queue v' → Leads is_interleaved shift q v'
  leads_on q v v' x y = record { queue = y.queue; takes = takes_on is_interleaved x.takes y.takes; seen_as = y.seen_as }

  turn_parts : (n : ℕ) (e : Held) (es : List Held) → is_in_turn n (e ∷ es) ≡ true → (is_complete (e ∷ es) ≡ true) × (e.number ≡ n)
  turn_parts n e es h = let w = and_parts (is_complete (e ∷ es)) (e.number == n) h in (w.0, eqb-true e.number n w.1)

  -- on an ordered stream, message after message
  abbrev pub after_delivery : View → ℕ → OrderedDelivery → View
  after_delivery v s d = moved v true s d.stream.held d.stream.next d.messages

  pub delivers : (most : ℕ) (v : View) (q : Queue (KeyOf is_interleaved) (next_of is_interleaved)) (s n : ℕ) (hs : List Held) → IsSeenAs is_interleaved shift v q → v.held true s ≡ hs → v.next s ≡ n → AreInOrder hs
      → Leads is_interleaved shift q (after_delivery v s (deliver_within most n hs))
  delivers zero v q s n hs p here next order = record { queue = q; takes = none; seen_as = seen_alike is_interleaved shift v (moved v true s hs n []) q (moved_none v true s hs n here next) p }
  delivers (suc most) v q s n hs p here next order = go (find (is_in_turn n) (intervals_of hs)) refl (delivers most)
    where
      left : List Held
      left = left_by (is_in_turn n) hs

      later : OrderedDelivery
      later = deliver_within most (suc n) left

      go : (o : Option (List Held)) → find (is_in_turn n) (intervals_of hs) ≡ o
          → ((w : View) (r : Queue (KeyOf is_interleaved) (next_of is_interleaved)) (a m : ℕ) (gs : List Held) → IsSeenAs is_interleaved shift w r → w.held true a ≡ gs → w.next a ≡ m → AreInOrder gs → Leads is_interleaved shift r (after_delivery w a (deliver_within most m gs)))
          → Leads is_interleaved shift q (after_delivery v s (delivering o n hs later))
      go None is ih = record { queue = q; takes = none; seen_as = seen_alike is_interleaved shift v (moved v true s hs n []) q (moved_none v true s hs n here next) p }
      go (Some []) is ih = absurd (turn_some n (found_passes (is_in_turn n) hs [] is))
      go (Some (e ∷ es)) is ih =
          let t = turn_parts n e es (found_passes (is_in_turn n) hs (e ∷ es) is) in
          let m = message_of_run (e ∷ es) in
          let w = moved v true s left (suc (v.next s)) (m ∷ []) in
          let x = goes_out v q true s hs left e es p here order (out (is_in_turn n) hs e es order is) t.0 (λ k. t.1 ∙ sym next) in
          let here' : w.held true s ≡ left = (moved_at v true s left (suc (v.next s)) (m ∷ [])).here in
          let next' : w.next s ≡ suc n = cond-true (s == s) (suc (v.next s)) (v.next s) (eq-eqb s s refl) ∙ ap suc next in
          let y = ih w x.queue s (suc n) left x.seen_as here' next' (left_order (is_in_turn n) hs order) in
          leads_alike q (after_delivery w s later) (after_delivery v s (preceded_by m later)) (moved_twice v true s left later.stream.held (suc (v.next s)) later.stream.next (m ∷ []) later.messages) (leads_on q w (after_delivery w s later) x y)

  -- on an unordered stream, the first complete message
  pub completes : (v : View) (q : Queue (KeyOf is_interleaved) (next_of is_interleaved)) (s : ℕ) (hs : List Held) → IsSeenAs is_interleaved shift v q → v.held false s ≡ hs → AreInOrder hs
      → Leads is_interleaved shift q (moved v false s (left_by is_complete hs) 0 (first_complete hs))
  completes v q s hs p here order = go (find is_complete (intervals_of hs)) refl
    where
      go : (o : Option (List Held)) → find is_complete (intervals_of hs) ≡ o → Leads is_interleaved shift q (moved v false s (left_by is_complete hs) 0 (option_to_list (option_map message_of_run o)))
      go None is = record { queue = q; takes = none; seen_as = seen_alike is_interleaved shift v (moved v false s (left_by is_complete hs) 0 []) q (same is) p }
        where
          same : find is_complete (intervals_of hs) ≡ None → AreAlike v (moved v false s (left_by is_complete hs) 0 [])
          same is =
              let a = moved_none v false s (left_by is_complete hs) (v.next s) (here ∙ sym (left_unfound is_complete hs is)) refl in
              record { held = a.held; next = λ a. refl; passed = λ a. refl; ready = append-nil v.ready }
      go (Some []) is = absurd (complete_some (found_passes is_complete hs [] is))
      go (Some (e ∷ es)) is =
          let m = message_of_run (e ∷ es) in
          let x = goes_out v q false s hs (left_by is_complete hs) e es p here order (out is_complete hs e es order is) (found_passes is_complete hs (e ∷ es) is) (λ k. cc) in
          leads_alike q (moved v false s (left_by is_complete hs) (suc (v.next s)) (m ∷ [])) (moved v false s (left_by is_complete hs) 0 (m ∷ []))
          (record { held = λ k a. refl; next = λ a. refl; passed = λ a. refl; ready = refl }) x
