-- A fragment that comes, in the view of the streams.
use Rattle.std.proofs.Common.{◌≡◌, ◌≢◌, ℕ, ◌+◌, ◌-◌, ◌^◌, ◌<◌, Bool, true, false, cond, ◌⊎◌, inl, inr, None, List, [], ◌++◌, length, refl, ap, sym, ◌∙◌, subst, arith, append-nil}
use Rattle.std.specs.Prelude.{not, ◌&&◌, ◌==◌, nat_lt, max}
use Rattle.std.proofs.lemmas.Bool.{cases_eq, cases_Bool, cond-true, cond-false, eq-eqb, ne_eqb}
use Rattle.std.proofs.lemmas.Option.{none-some}
use Rattle.sctp_serial.specs.Messages.{Message}
use Rattle.sctp_serial.specs.Unwrapped.{origin}
use Rattle.sctp_rx.specs.ReassemblyKey.{pair_rank}
use Rattle.sctp_rx.specs.Runs.{is_held, put_in, with_item}
use Rattle.sctp_rx.specs.Held.{Held, rank_of, intervals_of, is_complete, left_by}
use Rattle.proof_refines.specs.SettledStreams.{AreInOrder, AreSettled, IsSettledInOrder, IsSettled}
use Rattle.sctp_rx.specs.Delivery.{OrderedDelivery, UnorderedDelivery, fresh_ordered, fresh_unordered, deliver, first_complete, at_rest, deliver_first_complete, ordered_arrival, unordered_arrival}
use Rattle.sctp_rx.specs.ReassemblyStreams.{Streams, Outcome, with_ordered, with_unordered, unchanged, is_far, add_ordered, add_unordered}
use Rattle.proof_refines.proofs.SettledInsertLemmas.{came_in}
use Rattle.proof_protocol.specs.Reassembly.{Queue, KeyOf, next_of, Added}
use Rattle.proof_refines.specs.View.{View, IsFiled, IsSeenAs, chunk_of_held, key_of_held, ordered_at, unordered_at, held_on, view_with}
use Rattle.proof_refines.proofs.AmongLemmas.{held_item}
use Rattle.proof_refines.proofs.HeldKeyLemmas.{Decided}
use Rattle.proof_refines.proofs.SeenAsLemmas.{with_chunk, added, seen_with}
use Rattle.proof_refines.proofs.TakesLemmas.{Leads, AreAlike, is_place, moved, moved_at, moved_none, moved_twice, leads_alike, after_delivery, delivers, completes}
use Rattle.proof_refines.proofs.StreamLemmas.{changed_here, changed_off, all_at}
use Rattle.proof_refines.proofs.ReceiverRestLemmas.{IsAtRest}
use Rattle.proof_refines.proofs.SettledStreamsLemmas.{first_ordered, first_unordered}

-- ---- streams at rest

pub rest_of : (ss : Streams) (ready : List Message) → AreSettled ss → IsAtRest (view_with ss ready)
rest_of ss ready h = record {
  order = λ kind s. order kind s;
  in_turn = λ s. (all_at fresh_ordered s IsSettledInOrder first_ordered ss.ordered h.ordered).none;
  complete = λ s. (all_at fresh_unordered s IsSettled first_unordered ss.unordered h.unordered).none;
}
  where
    order : (kind : Bool) (s : ℕ) → AreInOrder (held_on ss kind s)
    order true s = (all_at fresh_ordered s IsSettledInOrder first_ordered ss.ordered h.ordered).order
    order false s = (all_at fresh_unordered s IsSettled first_unordered ss.unordered h.unordered).order

-- ---- one stream is written

module _ (ss : Streams) (id : ℕ) (ready : List Message) where
  pub ordered_moved : (d : OrderedDelivery) → AreAlike (moved (view_with ss ready) true id d.stream.held d.stream.next d.messages) (view_with (with_ordered id d ss).streams (ready ++ d.messages))
  ordered_moved d = record {
    held = λ k a. held k a (cases_eq a id);
    next = λ a. next a (cases_eq a id);
    passed = λ a. refl;
    ready = refl;
  }
    where
      held : (k : Bool) (a : ℕ) → (a ≡ id) ⊎ (a ≢ id) → held_on (with_ordered id d ss).streams k a ≡ cond (is_place true id k a) d.stream.held (held_on ss k a)
      held true a (inl e) =
          ap (λ z. (ordered_at (with_ordered id d ss).streams z).held) e ∙ (ap (λ z. z.held) (changed_here fresh_ordered id d.stream ss.ordered)
          ∙ sym (cond-true (a == id) d.stream.held (held_on ss true a) (eq-eqb a id e)))
      held true a (inr n) = ap (λ z. z.held) (changed_off fresh_ordered id a n d.stream ss.ordered) ∙ sym (cond-false (a == id) d.stream.held (held_on ss true a) (ne_eqb a id n))
      held false a c = refl

      next : (a : ℕ) → (a ≡ id) ⊎ (a ≢ id) → (ordered_at (with_ordered id d ss).streams a).next ≡ cond (true && (a == id)) d.stream.next (ordered_at ss a).next
      next a (inl e) =
          ap (λ z. (ordered_at (with_ordered id d ss).streams z).next) e ∙ (ap (λ z. z.next) (changed_here fresh_ordered id d.stream ss.ordered)
          ∙ sym (cond-true (a == id) d.stream.next (ordered_at ss a).next (eq-eqb a id e)))
      next a (inr n) = ap (λ z. z.next) (changed_off fresh_ordered id a n d.stream ss.ordered) ∙ sym (cond-false (a == id) d.stream.next (ordered_at ss a).next (ne_eqb a id n))

  pub unordered_moved : (d : UnorderedDelivery) → d.stream.passed ≡ (unordered_at ss id).passed → AreAlike (moved (view_with ss ready) false id d.stream.held 0 d.messages) (view_with (with_unordered id d ss).streams (ready ++ d.messages))
  unordered_moved d same = record {
    held = λ k a. held k a (cases_eq a id);
    next = λ a. refl;
    passed = λ a. passed a (cases_eq a id);
    ready = refl;
  }
    where
      held : (k : Bool) (a : ℕ) → (a ≡ id) ⊎ (a ≢ id) → held_on (with_unordered id d ss).streams k a ≡ cond (is_place false id k a) d.stream.held (held_on ss k a)
      held false a (inl e) =
          ap (λ z. (unordered_at (with_unordered id d ss).streams z).held) e ∙ (ap (λ z. z.held) (changed_here fresh_unordered id d.stream ss.unordered)
          ∙ sym (cond-true (a == id) d.stream.held (held_on ss false a) (eq-eqb a id e)))
      held false a (inr n) = ap (λ z. z.held) (changed_off fresh_unordered id a n d.stream ss.unordered) ∙ sym (cond-false (a == id) d.stream.held (held_on ss false a) (ne_eqb a id n))
      held true a c = refl

      passed : (a : ℕ) → (a ≡ id) ⊎ (a ≢ id) → (unordered_at (with_unordered id d ss).streams a).passed ≡ (unordered_at ss a).passed
      passed a (inl e) =
          ap (λ z. (unordered_at (with_unordered id d ss).streams z).passed) e ∙ (ap (λ z. z.passed) (changed_here fresh_unordered id d.stream ss.unordered) ∙ (same ∙ ap (λ z. (unordered_at ss z).passed) (sym e)))
      passed a (inr n) = ap (λ z. z.passed) (changed_off fresh_unordered id a n d.stream ss.unordered)

pub alike_through : {u v w : View} → AreAlike u v → AreAlike v w → AreAlike u w
alike_through a b = record { held = λ k s. b.held k s ∙ a.held k s; next = λ s. b.next s ∙ a.next s; passed = λ s. b.passed s ∙ a.passed s; ready = b.ready ∙ a.ready }

-- ---- a fragment that is not late

module _ (is_interleaved : Bool) (shift : ℕ) (decide : Decided is_interleaved) (ss : Streams) (ready : List Message) (q : Queue (KeyOf is_interleaved) (next_of is_interleaved)) (p : IsSeenAs is_interleaved shift (view_with ss ready) q)
    (sorted : (kind : Bool) (s : ℕ) → AreInOrder (held_on ss kind s)) (id : ℕ) (x : Held) (own : ℕ) (own_is : x.fragment.is_beginning ≡ true → own ≡ x.fragment.ppid) (new : q.chunks (key_of_held is_interleaved shift x) ≡ None) where
  abbrev v : View
  v = view_with ss ready

  -- the queue with it, and where that leads
  pub record Arrival (o : Outcome) : Type 0 where
    pub middle : Queue (KeyOf is_interleaved) (next_of is_interleaved)
    pub comes : Added (KeyOf is_interleaved) (next_of is_interleaved) q middle (key_of_held is_interleaved shift x) (chunk_of_held own x)
    pub leads : Leads is_interleaved shift middle (view_with o.streams (ready ++ o.messages))

  module _ (kind : Bool) (file : IsFiled is_interleaved shift kind id x) where
    not_held : is_held rank_of (rank_of x) (held_on ss kind id) ≡ false
    not_held =
        elim (cases_Bool (is_held rank_of (rank_of x) (held_on ss kind id))) [
          | inr n ↦ n
          | inl t ↦
              let h = held_item rank_of (rank_of x) (held_on ss kind id) t in
              let c = p.holds kind id h.0 h.1 in absurd (none-some (chunk_of_held c.0 h.0) (sym new ∙ (ap q.chunks (sym (same_key h.0 (p.filed kind id h.0 h.1) h.2)) ∙ c.1)))
        ]
      where
        numbers : (a b c d : ℕ) → b < 2 ^ 63 → d < 2 ^ 63 → pair_rank a b ≡ pair_rank c d → (a ≡ c) × (b ≡ d)
        numbers a b c d l m e = (omega (arith, l, m, e), omega (arith, l, m, e))

        key_is : (m : Bool) (h : Held) → h.fragment.is_unordered ≡ x.fragment.is_unordered → h.fragment.stream_id ≡ x.fragment.stream_id → h.number ≡ x.number → h.index ≡ x.index → key_of_held m shift h ≡ key_of_held m shift x
        key_is false h a b c d = ap (λ z. z + shift - origin) d
        key_is true h a b c d = λ i. record { ordered = not (a i); stream = b i; number = c i - origin; index = d i }

        same_key : (h : Held) → IsFiled is_interleaved shift kind id h → rank_of h ≡ rank_of x → key_of_held is_interleaved shift h ≡ key_of_held is_interleaved shift x
        same_key h f e =
            let n = numbers h.number h.index x.number x.index f.index_below file.index_below e in
            key_is is_interleaved h (f.kind_is ∙ sym file.kind_is) (f.stream_is ∙ sym file.stream_is) n.0 n.1

    put_is : with_item rank_of x (held_on ss kind id) ≡ put_in rank_of x (held_on ss kind id)
    put_is = ap (λ (b : Bool). cond b (held_on ss kind id) (put_in rank_of x (held_on ss kind id))) not_held

    -- with the fragment alone
    abbrev w : View
    w = moved v kind id (put_in rank_of x (held_on ss kind id)) (v.next id) []

    next_stays : (a : ℕ) → w.next a ≡ v.next a
    next_stays a = go kind (cases_eq a id)
      where
        go : (b : Bool) → (a ≡ id) ⊎ (a ≢ id) → cond (b && (a == id)) (v.next id) (v.next a) ≡ v.next a
        go false c = refl
        go true (inl e) = cond-true (a == id) (v.next id) (v.next a) (eq-eqb a id e) ∙ ap v.next (sym e)
        go true (inr n) = cond-false (a == id) (v.next id) (v.next a) (ne_eqb a id n)

    abbrev m : Queue (KeyOf is_interleaved) (next_of is_interleaved)
    m = with_chunk is_interleaved shift decide v w q p kind id x own own_is file new (moved_at v kind id (put_in rank_of x (held_on ss kind id)) (v.next id) []) next_stays (λ a. refl) (append-nil v.ready)

    m_added : Added (KeyOf is_interleaved) (next_of is_interleaved) q m (key_of_held is_interleaved shift x) (chunk_of_held own x)
    m_added = added is_interleaved shift decide v w q p kind id x own own_is file new (moved_at v kind id (put_in rank_of x (held_on ss kind id)) (v.next id) []) next_stays (λ a. refl) (append-nil v.ready)

    m_seen : IsSeenAs is_interleaved shift w m
    m_seen = seen_with is_interleaved shift decide v w q p kind id x own own_is file new (moved_at v kind id (put_in rank_of x (held_on ss kind id)) (v.next id) []) next_stays (λ a. refl) (append-nil v.ready)

    w_held : w.held kind id ≡ with_item rank_of x (held_on ss kind id)
    w_held = (moved_at v kind id (put_in rank_of x (held_on ss kind id)) (v.next id) []).here ∙ sym put_is

    w_order : AreInOrder (with_item rank_of x (held_on ss kind id))
    w_order = (came_in x (held_on ss kind id) (sorted kind id)).order

  pub ordered_arrives : IsFiled is_interleaved shift true id x → nat_lt x.number (ordered_at ss id).next ≡ false → is_far x.number ≡ false → Arrival (add_ordered id x ss)
  ordered_arrives file current near =
      let hs = with_item rank_of x (held_on ss true id) in
      let n = (ordered_at ss id).next in
      let d = deliver n hs in
      let l = delivers is_interleaved shift decide (length (intervals_of hs)) (w true file) (m true file) id n hs (m_seen true file) (w_held true file) (next_stays true file id) (w_order true file) in
      let l' = leads_alike is_interleaved shift decide (m true file) (after_delivery is_interleaved shift decide (w true file) id d) (moved v true id d.stream.held d.stream.next d.messages)
      (moved_twice v true id (put_in rank_of x (held_on ss true id)) d.stream.held (v.next id) d.stream.next [] d.messages) l in
      let l'' = leads_alike is_interleaved shift decide (m true file) (moved v true id d.stream.held d.stream.next d.messages) (view_with (with_ordered id d ss).streams (ready ++ d.messages)) (ordered_moved ss id ready d) l' in
      subst Arrival (sym is) (record { middle = m true file; comes = m_added true file; leads = l'' })
    where
      is : add_ordered id x ss ≡ with_ordered id (deliver (ordered_at ss id).next (with_item rank_of x (ordered_at ss id).held)) ss
      is =
          cond-false (is_far x.number) (unchanged ss) (with_ordered id (ordered_arrival x (ordered_at ss id)) ss) near
          ∙ ap (λ z. with_ordered id z ss) (cond-false (nat_lt x.number (ordered_at ss id).next) (at_rest (ordered_at ss id).next (ordered_at ss id).held) (deliver (ordered_at ss id).next (with_item rank_of x (ordered_at ss id).held)) current)

  pub unordered_arrives : IsFiled is_interleaved shift false id x → nat_lt x.number (unordered_at ss id).passed ≡ false → is_far x.number ≡ false → Arrival (add_unordered id x ss)
  unordered_arrives file current near =
      let hs = with_item rank_of x (held_on ss false id) in
      let s = unordered_at ss id in
      let d : UnorderedDelivery = deliver_first_complete (record s { near = max origin x.number; held = hs }) in
      let l = completes is_interleaved shift decide (w false file) (m false file) id hs (m_seen false file) (w_held false file) (w_order false file) in
      let l' = leads_alike is_interleaved shift decide (m false file) (moved (w false file) false id (left_by is_complete hs) 0 (first_complete hs)) (moved v false id (left_by is_complete hs) 0 (first_complete hs))
      (moved_twice v false id (put_in rank_of x (held_on ss false id)) (left_by is_complete hs) (v.next id) 0 [] (first_complete hs)) l in
      let l'' = leads_alike is_interleaved shift decide (m false file) (moved v false id (left_by is_complete hs) 0 (first_complete hs)) (view_with (with_unordered id d ss).streams (ready ++ first_complete hs)) (unordered_moved ss id ready d refl) l' in
      subst Arrival (sym is) (record { middle = m false file; comes = m_added false file; leads = l'' })
    where
      is : add_unordered id x ss ≡ with_unordered id (deliver_first_complete (let s = unordered_at ss id in record s { near = max origin x.number; held = with_item rank_of x s.held })) ss
      is =
          cond-false (is_far x.number) (unchanged ss) (with_unordered id (unordered_arrival x (unordered_at ss id)) ss) near
          ∙ ap (λ (z : UnorderedDelivery). with_unordered id z ss)
          (cond-false (nat_lt x.number (unordered_at ss id).passed) (let s = unordered_at ss id in record { stream = record s { near = max origin x.number }; messages = [] })
          (deliver_first_complete (let s = unordered_at ss id in record s { near = max origin x.number; held = with_item rank_of x s.held })) current)

-- ---- a late fragment

module _ (ss : Streams) (ready : List Message) (id : ℕ) (x : Held) (near : is_far x.number ≡ false) where
  pub ordered_late : nat_lt x.number (ordered_at ss id).next ≡ true → AreAlike (view_with ss ready) (view_with (add_ordered id x ss).streams (ready ++ (add_ordered id x ss).messages))
  ordered_late late = subst (λ (o : Outcome). AreAlike (view_with ss ready) (view_with o.streams (ready ++ o.messages))) (sym is)
      (alike_through (moved_none (view_with ss ready) true id (ordered_at ss id).held (ordered_at ss id).next refl refl) (ordered_moved ss id ready (at_rest (ordered_at ss id).next (ordered_at ss id).held)))
    where
      is : add_ordered id x ss ≡ with_ordered id (at_rest (ordered_at ss id).next (ordered_at ss id).held) ss
      is =
          cond-false (is_far x.number) (unchanged ss) (with_ordered id (ordered_arrival x (ordered_at ss id)) ss) near
          ∙ ap (λ z. with_ordered id z ss) (cond-true (nat_lt x.number (ordered_at ss id).next) (at_rest (ordered_at ss id).next (ordered_at ss id).held) (deliver (ordered_at ss id).next (with_item rank_of x (ordered_at ss id).held)) late)

  pub unordered_late : nat_lt x.number (unordered_at ss id).passed ≡ true → AreAlike (view_with ss ready) (view_with (add_unordered id x ss).streams (ready ++ (add_unordered id x ss).messages))
  unordered_late late = subst (λ (o : Outcome). AreAlike (view_with ss ready) (view_with o.streams (ready ++ o.messages))) (sym is)
      (alike_through (unmoved (moved_none (view_with ss ready) false id (unordered_at ss id).held (ordered_at ss id).next refl refl))
      (unordered_moved ss id ready (let s = unordered_at ss id in record { stream = record s { near = max origin x.number }; messages = [] }) refl))
    where
      unmoved : AreAlike (view_with ss ready) (moved (view_with ss ready) false id (unordered_at ss id).held (ordered_at ss id).next []) → AreAlike (view_with ss ready) (moved (view_with ss ready) false id (unordered_at ss id).held 0 [])
      unmoved l = record { held = l.held; next = l.next; passed = l.passed; ready = l.ready }

      is : add_unordered id x ss ≡ with_unordered id (let s = unordered_at ss id in record { stream = record s { near = max origin x.number }; messages = [] }) ss
      is =
          cond-false (is_far x.number) (unchanged ss) (with_unordered id (unordered_arrival x (unordered_at ss id)) ss) near
          ∙ ap (λ (z : UnorderedDelivery). with_unordered id z ss)
          (cond-true (nat_lt x.number (unordered_at ss id).passed) (let s = unordered_at ss id in record { stream = record s { near = max origin x.number }; messages = [] })
          (deliver_first_complete (let s = unordered_at ss id in record s { near = max origin x.number; held = with_item rank_of x s.held })) late)
