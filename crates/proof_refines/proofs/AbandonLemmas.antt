-- A message is given up of which an item is kept.
use Rattle.std.proofs.Common.{◌≡◌, ◌≢◌, ℕ, zero, suc, ◌+◌, ◌%◌, ◌^◌, ◌<◌, ◌≤◌, Bool, true, false, cond, inl, inr, ◌⊎◌, Option, Some, None, List, [], ◌∷◌, ◌++◌, map, refl, sym, ap, ◌∙◌, subst, arith, eqb, length-append, append-nil}
use Rattle.std.specs.Prelude.{◌-◌, ◌==◌, slice_get, is_some}
use Rattle.std.specs.List.{list_all}
use Rattle.std.proofs.lemmas.Bool.{cases_eq, cases_Bool, cases_order, eq-eqb, ne_eqb, false_from_ne_true}
use Rattle.std.proofs.lemmas.Bool.Decides.{nat_tests}
use Rattle.std.proofs.lemmas.List.{get_or_push, get_or_append_left, map-append}
use Rattle.sctp_packet.specs.Chunk.{FragmentTree}
use Rattle.sctp_tx_queue.specs.SendQueue.{Queued}
use Rattle.sctp_tx_outstanding.specs.Item.{Item, is_of, abandon}
use Rattle.sctp_tx_outstanding.specs.OutstandingData.{Items, Discard, abandon_if_of, without_payload, later_of, last_of}
use Rattle.sctp_tx_outstanding.specs.Losses.{placeholder, placeholders, discards_of, abandon_message}
use Rattle.proof_protocol.specs.State.{Message, Fragment, Sender, Transfer, IsAmong, fragment, place_of, count, parts, blank, put, stream_of}
use Rattle.proof_protocol.specs.Rules.{TransferEvent, end_with_placeholder, give_up, run, numbers, gives_up, placeholder_of, Happens}
use Rattle.proof_protocol.specs.Invariant.{Invariant}
use Rattle.proof_protocol.specs.Sending as sending
use Rattle.proof_protocol.specs.Sending.{Waiting}
use Rattle.proof_protocol.proofs.ToolsLemmas.{put_at, put_off, put_keeps, not_both, among_left}
use Rattle.proof_protocol.proofs.IndexedLemmas.{parts_off}
use Rattle.proof_protocol.proofs.SenderRowLemmas.{rest_dropped, sent_given_up}
use Rattle.proof_protocol.proofs.CommonLemmas.{none_some}
use Rattle.proof_refines.specs.SenderRefinement.{find, waiting_of, queue_of, tree_of, StandsFor, AreKept, IsEntry, AreQueued, AreDiscards}
use Rattle.proof_refines.specs.Reachable.{is_sending, given_up_places}
use Rattle.proof_refines.proofs.FoundLemmas.{one_value}
use Rattle.proof_refines.proofs.QueuedLemmas.{Frame, queue_some, queue_given, queue_as, change, change_discards}
use Rattle.proof_refines.proofs.ItemsLemmas.{Stays, kept_push}

pub among_last : {A : Type 0} (x : A) (xs : List A) → IsAmong x (xs ++ x ∷ [])
among_last x [] = inl refl
among_last x (y ∷ xs) = inr (among_last x xs)

pub among_push : {A : Type 0} (x y : A) (xs : List A) → IsAmong x (xs ++ y ∷ []) → (IsAmong x xs) ⊎ (x ≡ y)
among_push x y [] a = elim a [ inl e ↦ inr e | inr b ↦ absurd b ]
among_push x y (z ∷ xs) a = elim a [ inl e ↦ inl (inl e) | inr b ↦ elim (among_push x y xs b) [ inl c ↦ inl (inr c) | inr e ↦ inr e ] ]

module _ (message : ℕ → Message) (lifecycle : ℕ → Option ℕ) where
  -- ---- the last item of a message

  -- of the items below n
  pub record IsLast (o : Sender) (p from n : ℕ) (f : FragmentTree) : Type 0 where
    pub at : ℕ
    pub above : from ≤ at
    pub below : at < n
    pub place : place_of o at ≡ p
    pub is : f ≡ without_payload (tree_of message o (fragment o at))
    pub last : (u : ℕ) → from ≤ u → u < n → place_of o u ≡ p → u ≤ at

  last_before : (o : Sender) (p from n : ℕ) (d : Option FragmentTree) (is : List Item) → from ≤ n → AreKept message lifecycle o n is
      → ((f : FragmentTree) → d ≡ Some f → IsLast o p from n f) → (f : FragmentTree) → later_of p d is ≡ Some f → IsLast o p from (count o) f
  last_before o p from n d [] l a s f e = subst (λ z. IsLast o p from z f) a (s f e)
  last_before o p from n d (i ∷ is) l a s f e =
      elim (cases_eq i.number p) [
        | inl c ↦ last_before o p from (suc n) (Some (without_payload i.fragment)) is (omega (arith, l)) a.1 (here c) f (sym (ap (λ b. later_of p (cond b (Some (without_payload i.fragment)) d) is) (eq-eqb i.number p c)) ∙ e)
        | inr c ↦ last_before o p from (suc n) d is (omega (arith, l)) a.1 (there c) f (sym (ap (λ b. later_of p (cond b (Some (without_payload i.fragment)) d) is) (ne_eqb i.number p c)) ∙ e)
      ]
    where
      here : i.number ≡ p → (f : FragmentTree) → Some (without_payload i.fragment) ≡ Some f → IsLast o p from (suc n) f
      here c f g = record {
        at = n;
        above = l;
        below = omega arith;
        place = sym a.0.place ∙ c;
        is = sym (one_value (Some (without_payload i.fragment)) (without_payload i.fragment) f refl g) ∙ ap without_payload a.0.carried;
        last = λ u lo hi pl. omega (arith, hi);
      }

      there : i.number ≢ p → (f : FragmentTree) → d ≡ Some f → IsLast o p from (suc n) f
      there c f g =
          let r = s f g in
          let b = r.below in
          record {
            at = r.at;
            above = r.above;
            below = omega (arith, b);
            place = r.place;
            is = r.is;
            last = λ u lo hi pl. elim (cases_eq u n) [ inl z ↦ absurd (c (a.0.place ∙ (ap (place_of o) (sym z) ∙ pl))) | inr z ↦ r.last u lo (omega (arith, hi, z)) pl ];
          }

  some_later : (p : ℕ) (f : FragmentTree) (is : List Item) → (g : FragmentTree) × (later_of p (Some f) is ≡ Some g)
  some_later p f [] = (f, refl)
  some_later p f (i ∷ is) = go (λ h. some_later p h is) (is_of p i)
    where
      go : ((h : FragmentTree) → (g : FragmentTree) × (later_of p (Some h) is ≡ Some g)) → (b : Bool) → (g : FragmentTree) × (later_of p (cond b (Some (without_payload i.fragment)) (Some f)) is ≡ Some g)
      go ih true = ih (without_payload i.fragment)
      go ih false = ih f

  pub some_last : (p k : ℕ) (d : Option FragmentTree) (is : List Item) (i : Item) → slice_get is k ≡ Some i → i.number ≡ p → (g : FragmentTree) × (later_of p d is ≡ Some g)
  some_last p k d [] i e f = absurd (cc)
  some_last p zero d (j ∷ is) i e f =
      let same : j ≡ i = cc in
      let here : is_of p j ≡ true = eq-eqb j.number p (ap (λ (z : Item). z.number) same ∙ f) in
      subst (λ b. (g : FragmentTree) × (later_of p (cond b (Some (without_payload j.fragment)) d) is ≡ Some g)) (sym here) (some_later p (without_payload j.fragment) is)
  some_last p (suc k) d (j ∷ is) i e f = some_last p k (cond (is_of p j) (Some (without_payload j.fragment)) d) is i e f

  -- ---- the items that are kept of it

  given_stands : (o : Sender) (p : ℕ) (f : Fragment) (i : Item) → StandsFor message lifecycle o f i → StandsFor message lifecycle (gives_up o p) f (abandon_if_of p i)
  given_stands o p f i a = go (is_of p i) refl
    where
      go : (b : Bool) → is_of p i ≡ b → StandsFor message lifecycle (gives_up o p) f (cond b (abandon i) i)
      go true e =
          let g = put_at o.given_up p true f.place (sym a.place ∙ of_is i.number p e) in
          record { place = a.place; carried = a.carried; lifecycle_id = a.lifecycle_id; given_up = sym g; placeholder = λ h. g }
        where
          of_is : (n p : ℕ) → eqb n p ≡ true → n ≡ p
          of_is n p e = grind (arith, nat_tests)
      go false e =
          let g = put_off o.given_up p true f.place (λ c. not_of i.number p e (a.place ∙ c)) in
          record { place = a.place; carried = a.carried; lifecycle_id = a.lifecycle_id; given_up = a.given_up ∙ sym g; placeholder = λ h. g ∙ a.placeholder h }
        where
          not_of : (n p : ℕ) → eqb n p ≡ false → n ≡ p → ⊥
          not_of n p e c = grind (arith, nat_tests)

  laid : (o : Sender) (p t : ℕ) (is : List Item) → AreKept message lifecycle o t is → AreKept message lifecycle (gives_up o p) t (map (abandon_if_of p) is)
  laid o p t [] a = a
  laid o p t (i ∷ is) a = (given_stands o p (fragment o t) i a.0, laid o p (suc t) is a.1)

  -- ---- the whole

  pub record GivesUp (is_interleaved : Bool) (x : Transfer) (ms : ℕ → List Queued) (s : Items) (p : ℕ) (es : List TransferEvent) : Type 0 where
    pub may : Happens message is_interleaved x es
    pub rest_stays : run message is_interleaved x es ≡ record x { sender = (run message is_interleaved x es).sender }
    pub counts_stay : (run message is_interleaved x es).sender.following ≡ x.sender.following
    pub accepted_stays : (run message is_interleaved x es).sender.accepted ≡ x.sender.accepted
    pub kept : AreKept message lifecycle (run message is_interleaved x es).sender x.acknowledged (abandon_message p s).kept
    pub messages : AreQueued message lifecycle (run message is_interleaved x es).sender ms
    pub discards : AreDiscards (run message is_interleaved x es).sender ms (abandon_message p s).discards

module _ (message : ℕ → Message) (lifecycle : ℕ → Option ℕ) (is_interleaved : Bool) (x : Transfer) (k : Invariant message is_interleaved x) (ms : ℕ → List Queued) (s : Items)
    (kept : AreKept message lifecycle x.sender x.acknowledged s.kept) (queue : AreQueued message lifecycle x.sender ms) (discards : AreDiscards x.sender ms s.discards)
    (p : ℕ) (live : x.sender.given_up p ≡ false) (f : FragmentTree) (is : last_of p s.kept ≡ Some f) where
  abbrev o : Sender
  o = x.sender

  the_last : IsLast message lifecycle o p x.acknowledged (count o) f
  the_last = last_before message lifecycle o p x.acknowledged x.acknowledged None s.kept (omega arith) kept (λ g e. absurd (none_some None g e refl)) f is

  abbrev at : ℕ
  at = the_last.at

  begun : o.begun p ≡ true
  begun = subst (λ z. o.begun z ≡ true) the_last.place (k.outgoing.place_begun at the_last.below)

  below : p < o.accepted
  below = k.outgoing.begun_below p begun

  ends : f.is_end ≡ (fragment o at).is_end
  ends = ap (λ (z : FragmentTree). z.is_end) the_last.is

  abbrev waits : Option Waiting
  waits = queue_of message o ms p

  -- ---- its end was numbered

  module _ (end : f.is_end ≡ true) where
    not_partly : o.partly p ≡ false
    not_partly = false_from_ne_true (o.partly p) (λ y. not_both (sym ends ∙ end) (k.outgoing.partly_no_last at the_last.below (ap o.partly the_last.place ∙ y)))

    out : waits ≡ None
    out = go waits refl
      where
        go : (w : Option Waiting) → waits ≡ w → waits ≡ None
        go None e = e
        go (Some w) e = by_begun w.begun refl
          where
            by_begun : (b : Bool) → w.begun ≡ b → waits ≡ None
            by_begun true c = absurd (not_both (queue.queued.partly p w e c) not_partly)
            by_begun false c = absurd (not_both begun (queue.queued.waits p w e c).not_begun)

    unqueued : (k : ℕ) (m : Queued) → find p (ms k) ≡ Some m → ⊥
    unqueued k m h =
        let at_own = ap (λ z. find p (ms z)) ((queue.entries k p m h).on_stream) ∙ h in
        none_some waits (waiting_of m) (queue_some message o ms p m live at_own) out

    nothing_more : abandon_message p s ≡ record s { kept = map (abandon_if_of p) s.kept; discards = s.discards }
    nothing_more = ap with_last is ∙ (ap ended end ∙ (λ i. shown (append-nil s.kept i) (append-nil s.discards i)))
      where
        with_last : Option FragmentTree → Items
        with_last d = record s { kept = map (abandon_if_of p) (s.kept ++ placeholders p d); discards = s.discards ++ discards_of p d }

        ended : Bool → Items
        ended b = record s { kept = map (abandon_if_of p) (s.kept ++ cond b [] (placeholder p f ∷ [])); discards = s.discards ++ cond b [] (record { stream = f.stream_id; number = p } ∷ []) }

        shown : List Item → List Discard → Items
        shown is ds = record s { kept = map (abandon_if_of p) is; discards = ds }

    ended_row : GivesUp message lifecycle is_interleaved x ms s p (give_up p ∷ [])
    ended_row =
        let r = sent_given_up message is_interleaved x k (queue_of message o ms) queue.queued p below live out in
        let frame : ((r : ℕ) → r ≢ p → Frame o (gives_up o p) r) = (λ r d. record { number = refl; given_up = put_off o.given_up p true r d; parts_are = refl }) in
        record {
          may = r.may;
          rest_stays = refl;
          counts_stay = refl;
          accepted_stays = refl;
          kept = subst (λ (z : Items). AreKept message lifecycle (gives_up o p) x.acknowledged z.kept) (sym nothing_more) (laid message lifecycle o p x.acknowledged s.kept kept);
          messages =
              change message lifecycle o (gives_up o p) ms ms p (λ k r d. refl) frame (omega arith) (λ k m h. absurd (unqueued k m h)) None
              (queue_given message (gives_up o p) ms p (put_at o.given_up p true p refl)) (same_put r.queued) queue;
          discards =
              subst (λ (z : Items). AreDiscards (gives_up o p) ms z.discards) (sym nothing_more)
              (change_discards message lifecycle o (gives_up o p) ms ms p (λ k r d. refl) frame s.discards discards (λ k m h g. absurd (unqueued k m h)) (λ r g. put_keeps o.given_up p r g));
        }
      where
        same_put : sending.Queued message (gives_up o p) (queue_of message o ms) → sending.Queued message (gives_up o p) (put (queue_of message o ms) p None)
        same_put q = queue_as message (gives_up o p) (queue_of message o ms) (put (queue_of message o ms) p None) alike q
          where
            alike : (r : ℕ) → put (queue_of message o ms) p None r ≡ queue_of message o ms r
            alike r =
                elim (cases_eq r p) [
                  | inl e ↦ put_at (queue_of message o ms) p None r e ∙ sym (ap (λ z. queue_of message o ms z) e ∙ out)
                  | inr d ↦ put_off (queue_of message o ms) p None r d
                ]

  -- ---- it was not: a placeholder takes the next TSN

  module _ (open_end : f.is_end ≡ false) where
    abbrev o1 : Sender
    o1 = numbers o (placeholder_of o p)

    abbrev o2 : Sender
    o2 = gives_up o1 p

    -- it is the last fragment of all of its message's
    no_end : (t : ℕ) → t < count o → place_of o t ≡ p → (fragment o t).is_end ≡ true → ⊥
    no_end t h e l =
        let up = k.outgoing.last_ends t at h the_last.below (e ∙ sym the_last.place) l in
        let lo = the_last.above in
        let down = the_last.last t (omega (arith, up, lo)) h e in
        let eq : t ≡ at = omega (arith, up, down) in
        not_both (ends ∙ (ap (λ z. (fragment o z).is_end) (sym eq) ∙ l)) open_end

    partly : o.partly p ≡ true
    partly = elim (cases_Bool (o.partly p)) [ inl y ↦ y | inr y ↦ let e = k.outgoing.ended p begun y in absurd (no_end e.0 e.1 e.2 e.3) ]

    some_parts : 0 < parts p o.numbered
    some_parts = let l = k.indexed.index_below at the_last.below in subst (λ z. 0 < parts z o.numbered) the_last.place (omega (arith, l))

    -- so its index is that of the last one
    index_is : suc ((fragment o at).index) ≡ parts p o.numbered
    index_is =
        let l = subst (λ z. (fragment o at).index < parts z o.numbered) the_last.place (k.indexed.index_below at the_last.below) in
        let n : ℕ = parts p o.numbered - 1 in
        let y = k.indexed.index_found p n (omega (arith, some_parts)) in
        let lo = the_last.above in
        elim (cases_order y.0 at) [
          | inl e ↦ let i : (fragment o y.0).index ≡ n = y.3 in let j = ap (λ z. (fragment o z).index) e in omega (arith, i, j, some_parts)
          | inr (inl b) ↦ let r = k.indexed.index_rises y.0 at b the_last.below (y.2 ∙ sym the_last.place) in let i : (fragment o y.0).index ≡ n = y.3 in absurd (omega (arith, r, i, l))
          | inr (inr b) ↦ let r = the_last.last y.0 (omega (arith, b, lo)) y.1 y.2 in absurd (omega (arith, r, b))
        ]

    queued : (w : Waiting) × (waits ≡ Some w) × (w.begun ≡ true)
    queued = go waits refl
      where
        go : (w : Option Waiting) → waits ≡ w → (w : Waiting) × (waits ≡ Some w) × (w.begun ≡ true)
        go None e = absurd (not_both partly (queue.queued.dequeued p below e).not_partly)
        go (Some w) e = (w, e, by_begun w.begun refl)
          where
            by_begun : (b : Bool) → w.begun ≡ b → w.begun ≡ true
            by_begun true c = c
            by_begun false c = absurd (not_both begun (queue.queued.waits p w e c).not_begun)

    counts : count o1 ≡ suc (count o)
    counts = let l = length-append o.numbered (placeholder_of o p ∷ []) in omega (arith, l)

    -- the placeholder
    not_first : (n : ℕ) → 0 < n → false ≡ (n == 0)
    not_first n h = grind (arith, nat_tests)

    next_index : (a b : ℕ) → suc a ≡ b → (a % 2 ^ 32 + 1) % 2 ^ 32 ≡ b % 2 ^ 32
    next_index a b e = omega (arith, e)

    stands : StandsFor message lifecycle o2 (placeholder_of o p) (abandon_if_of p (placeholder p f))
    stands = go (is_of p (placeholder p f))
      where
        tree : (placeholder p f).fragment ≡ tree_of message o2 (placeholder_of o p)
        tree =
            ap (λ (z : FragmentTree). let r : FragmentTree = record z { fsn = (z.fsn + 1) % 2 ^ 32; payload = []; is_beginning = false; is_end = true } in r) the_last.is
            ∙ (ap (λ q. at_place q ((fragment o at).index)) the_last.place
            ∙ (ap (λ n. with_fsn n) (next_index ((fragment o at).index) (parts p o.numbered) index_is) ∙ ap (λ b. let r : FragmentTree = record (tree_of message o2 (placeholder_of o p)) { is_beginning = b } in r) (not_first (parts p o.numbered) some_parts)))
          where
            at_place : ℕ → ℕ → FragmentTree
            at_place q n = record (tree_of message o2 (record (placeholder_of o p) { place = q })) { fsn = (n % 2 ^ 32 + 1) % 2 ^ 32; is_beginning = false }

            with_fsn : ℕ → FragmentTree
            with_fsn n = record (tree_of message o2 (placeholder_of o p)) { fsn = n; is_beginning = false }

        go : (b : Bool) → StandsFor message lifecycle o2 (placeholder_of o p) (cond b (abandon (placeholder p f)) (placeholder p f))
        go true = record { place = refl; carried = tree; lifecycle_id = refl; given_up = sym (put_at o.given_up p true p refl); placeholder = λ h. put_at o.given_up p true p refl }
        go false = record { place = refl; carried = tree; lifecycle_id = refl; given_up = sym (put_at o.given_up p true p refl); placeholder = λ h. put_at o.given_up p true p refl }

    one_more : abandon_message p s ≡ record s { kept = map (abandon_if_of p) s.kept ++ abandon_if_of p (placeholder p f) ∷ []; discards = s.discards ++ record { stream = f.stream_id; number = p } ∷ [] }
    one_more = ap with_last is ∙ (ap ended open_end ∙ ap shown (map-append (abandon_if_of p) s.kept (placeholder p f ∷ [])))
      where
        with_last : Option FragmentTree → Items
        with_last d = record s { kept = map (abandon_if_of p) (s.kept ++ placeholders p d); discards = s.discards ++ discards_of p d }

        ended : Bool → Items
        ended b = record s { kept = map (abandon_if_of p) (s.kept ++ cond b [] (placeholder p f ∷ [])); discards = s.discards ++ cond b [] (record { stream = f.stream_id; number = p } ∷ []) }

        shown : List Item → Items
        shown z = record s { kept = z; discards = s.discards ++ record { stream = f.stream_id; number = p } ∷ [] }

    stays : Stays message lifecycle (gives_up o p) o2
    stays = record { same = λ t h. get_or_append_left o.numbered (placeholder_of o p ∷ []) blank t h; number = λ t h. refl; given_up = λ t h. refl }

    stream_is : f.stream_id ≡ stream_of message p
    stream_is = ap (λ (z : FragmentTree). z.stream_id) the_last.is ∙ ap (stream_of message) the_last.place

    open_row : GivesUp message lifecycle is_interleaved x ms s p (end_with_placeholder p ∷ give_up p ∷ [])
    open_row =
        let r = rest_dropped message is_interleaved x k (queue_of message o ms) queue.queued p queued.0 queued.1 queued.2 in
        let frame : ((r : ℕ) → r ≢ p → Frame o o2 r) = (λ r d. record { number = refl; given_up = put_off o.given_up p true r d; parts_are = parts_off r o.numbered (placeholder_of o p) (λ e. d (sym e)) }) in
        record {
          may = r.may;
          rest_stays = refl;
          counts_stay = refl;
          accepted_stays = refl;
          kept =
              subst (λ (z : Items). AreKept message lifecycle o2 x.acknowledged z.kept) (sym one_more)
              (kept_push message lifecycle (gives_up o p) o2 stays counts (abandon_if_of p (placeholder p f))
              (subst (λ (z : Fragment). StandsFor message lifecycle o2 z (abandon_if_of p (placeholder p f))) (sym (get_or_push o.numbered (placeholder_of o p) blank (count o) refl)) stands)
              x.acknowledged (map (abandon_if_of p) s.kept) (laid message lifecycle o p x.acknowledged s.kept kept));
          messages =
              change message lifecycle o o2 ms ms p (λ k r d. refl) frame (omega arith) entry None
              (queue_given message o2 ms p (put_at o.given_up p true p refl)) r.queued queue;
          discards =
              subst (λ (z : Items). AreDiscards o2 ms z.discards) (sym one_more) (record { named = named; given_up = given });
        }
      where
        partly_sent : (k : ℕ) (m : Queued) → find p (ms k) ≡ Some m → is_some m.numbers ≡ true
        partly_sent k m h =
            let at_own = ap (λ z. find p (ms z)) ((queue.entries k p m h).on_stream) ∙ h in
            let e = queue_some message o ms p m live at_own in
            ap (λ (z : Waiting). z.begun) (one_value waits (waiting_of m) queued.0 e queued.1) ∙ queued.2

        entry : (k : ℕ) (m : Queued) → find p (ms k) ≡ Some m → IsEntry message lifecycle o2 k p m
        entry k m h =
            let e = queue.entries k p m h in
            let is_given_up = put_at o.given_up p true p refl in
            record {
              accepted = e.accepted;
              on_stream = e.on_stream;
              kind = e.kind;
              protocol_id = e.protocol_id;
              payload = e.payload;
              lifecycle_id = e.lifecycle_id;
              numbers = λ g. absurd (not_both is_given_up g);
              index = λ g. absurd (not_both is_given_up g);
              begins = λ g. absurd (not_both is_given_up g);
              partly_sent = λ g. partly_sent k m h;
            }

        named : (k r : ℕ) (m : Queued) → find r (ms k) ≡ Some m → o2.given_up r ≡ true → IsAmong (record { stream = k; number = r }) (s.discards ++ record { stream = f.stream_id; number = p } ∷ [])
        named k r m h g =
            elim (cases_eq r p) [
              | inl e ↦
                  let on = (queue.entries k r m h).on_stream in
                  let same : f.stream_id ≡ k = stream_is ∙ (ap (stream_of message) (sym e) ∙ on) in
                  subst (λ (d : Discard). IsAmong d (s.discards ++ record { stream = f.stream_id; number = p } ∷ [])) (λ i. record { stream = same i; number = sym e i }) (among_last (record { stream = f.stream_id; number = p }) s.discards)
              | inr d ↦ among_left (record { stream = k; number = r }) s.discards (record { stream = f.stream_id; number = p } ∷ []) (discards.named k r m h (sym (put_off o.given_up p true r d) ∙ g))
            ]

        given : (d : Discard) → IsAmong d (s.discards ++ record { stream = f.stream_id; number = p } ∷ []) → o2.given_up d.number ≡ true
        given d a =
            elim (among_push d (record { stream = f.stream_id; number = p }) s.discards a) [
              | inl b ↦ put_keeps o.given_up p d.number (discards.given_up d b)
              | inr e ↦ put_at o.given_up p true d.number (ap (λ (z : Discard). z.number) e)
            ]

  pub gives : (es : List TransferEvent) × GivesUp message lifecycle is_interleaved x ms s p es × (given_up_places es ≡ p ∷ []) × (list_all is_sending es ≡ true)
  gives = go f.is_end refl
    where
      go : (b : Bool) → f.is_end ≡ b → (es : List TransferEvent) × GivesUp message lifecycle is_interleaved x ms s p es × (given_up_places es ≡ p ∷ []) × (list_all is_sending es ≡ true)
      go true e = (give_up p ∷ [], ended_row e, refl, refl)
      go false e = (end_with_placeholder p ∷ give_up p ∷ [], open_row e, refl, refl)
