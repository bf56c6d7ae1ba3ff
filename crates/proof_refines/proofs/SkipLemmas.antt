-- Entry after entry, what became ready is a run of the queue that all entries had left.
use Rattle.std.proofs.Common.{◌≡◌, ◌≢◌, ℕ, suc, ◌+◌, ◌^◌, ◌<◌, max, Bool, true, false, cond, ◌⊎◌, inl, inr, List, [], ◌∷◌, ◌++◌, length, refl, ap, sym, ◌∙◌, subst, arith, append_assoc, append-nil}
use Rattle.std.proofs.lemmas.Bool.{cases_eq, cond-true, cond-false, true≢false}
use Rattle.std.proofs.lemmas.Bool.Decides.{nat_tests}
use Rattle.sctp_serial.specs.Messages.{Message}
use Rattle.sctp_serial.specs.Unwrapped.{origin, u32_space, halves, nearest}
use Rattle.sctp_serial.specs.declared.types.StreamKey.TheVariants.{Ordered, Unordered}
use Rattle.sctp_chunk.specs.declared.forward_tsn.SkippedStream.{SkippedStream}
use Rattle.sctp_chunk.specs.declared.forward_tsn.SkippedStream.TheVariants.{ForwardTsn, IForwardTsn}
use Rattle.sctp_rx.specs.ReassemblyKey.{pair_rank}
use Rattle.sctp_rx.specs.Runs.{from_rank}
use Rattle.sctp_rx.specs.Held.{rank_of, intervals_of}
use Rattle.proof_refines.specs.SettledStreams.{AreInOrder}
use Rattle.sctp_rx.specs.Delivery.{OrderedDelivery, fresh_ordered, fresh_unordered, ordered_forward, unordered_forward}
use Rattle.sctp_rx.specs.ReassemblyStreams.{Streams, Outcome, set_stream, with_ordered, unchanged, is_far, skip, skip_of, skip_ordered, skip_unordered, skip_each}
use Rattle.proof_refines.proofs.SettledRunsLemmas.{from_order}
use Rattle.proof_protocol.specs.State.{Entry, IsAmong}
use Rattle.proof_protocol.specs.Reassembly.{Queue, KeyOf, next_of}
use Rattle.proof_refines.specs.View.{IsSeenAs, ordered_at, unordered_at, held_on, view_with}
use Rattle.proof_refines.specs.Read.{StandsFor, StandForAll}
use Rattle.proof_protocol.specs.Points.{AreApart, IsApart}
use Rattle.proof_refines.proofs.HeldKeyLemmas.{Decided}
use Rattle.proof_refines.proofs.TakesLemmas.{none, Leads, AreAlike, alike_same, moved, seen_alike, leads_alike, leads_on, after_delivery, delivers}
use Rattle.proof_refines.proofs.StreamLemmas.{changed_here, changed_off}
use Rattle.proof_refines.proofs.ArrivalLemmas.{ordered_moved}
use Rattle.proof_refines.proofs.PendingLemmas.{is_named, pending, others_apart, named_here, named_off, pending_moved, pending_here, pending_next, pending_first}

-- an entry of an unordered stream
abbrev pub passed_on : ℕ → ℕ → Streams → Streams
passed_on id n ss = record ss { unordered = set_stream fresh_unordered id (unordered_forward n (unordered_at ss id)) ss.unordered }

-- what an entry does
pub data Does (ss : Streams) (x : SkippedStream) (e : Entry) : Type 0 where
  in_order : e.ordered ≡ true → skip x ss ≡ with_ordered e.stream (ordered_forward (origin + e.number) (ordered_at ss e.stream)) ss → Does ss x e
  out_of_order : e.ordered ≡ false → skip x ss ≡ record { streams = passed_on e.stream (origin + e.number) ss; messages = [] } → Does ss x e

near : (n : ℕ) → n < 2 ^ 62 → is_far (origin + n) ≡ false
near n l = grind (arith, nat_tests)

module _ (ss : Streams) (e : Entry) where
  ordered_so : (id n : ℕ) → e.stream ≡ id → n ≡ origin + e.number → e.number < 2 ^ 62 → skip_ordered id n ss ≡ with_ordered e.stream (ordered_forward (origin + e.number) (ordered_at ss e.stream)) ss
  ordered_so id n s m l =
      ap (λ z. skip_ordered z n ss) (sym s) ∙ (ap (λ z. skip_ordered e.stream z ss) m
      ∙ cond-false (is_far (origin + e.number)) (unchanged ss) (with_ordered e.stream (ordered_forward (origin + e.number) (ordered_at ss e.stream)) ss) (near e.number l))

  unordered_so : (id n : ℕ) → e.stream ≡ id → n ≡ origin + e.number → e.number < 2 ^ 62 → skip_unordered id n ss ≡ record { streams = passed_on e.stream (origin + e.number) ss; messages = [] }
  unordered_so id n s m l =
      ap (λ z. skip_unordered z n ss) (sym s) ∙ (ap (λ z. skip_unordered e.stream z ss) m
      ∙ cond-false (is_far (origin + e.number)) (unchanged ss) (record { streams = passed_on e.stream (origin + e.number) ss; messages = [] }) (near e.number l))

  pub does : (is_interleaved : Bool) (x : SkippedStream) → ss.is_interleaved ≡ is_interleaved → StandsFor is_interleaved ss x e → Does ss x e
  does false (ForwardTsn id ssn) m h = in_order h.0 (ap (λ b. skip_of b (ForwardTsn id ssn) ss) m ∙ ordered_so id.0 (nearest halves 0 (ordered_at ss id.0).next ssn.0) h.1 h.2 h.3)
  does false (IForwardTsn key mid) m h = absurd h
  does true (ForwardTsn id ssn) m h = absurd h
  does true (IForwardTsn (Ordered id) mid) m h = in_order h.0 (ap (λ b. skip_of b (IForwardTsn (Ordered id) mid) ss) m ∙ ordered_so id.0 (nearest u32_space 0 (ordered_at ss id.0).next mid.0) h.1 h.2 h.3)
  does true (IForwardTsn (Unordered id) mid) m h = out_of_order h.0 (ap (λ b. skip_of b (IForwardTsn (Unordered id) mid) ss) m ∙ unordered_so id.0 (nearest u32_space 0 (unordered_at ss id.0).near mid.0) h.1 h.2 h.3)

-- the entries stand for the same where their streams stayed as they were
pub record AreLike (es : List Entry) (ss new : Streams) : Type 0 where
  pub ordered : (e : Entry) → IsAmong e es → e.ordered ≡ true → ordered_at new e.stream ≡ ordered_at ss e.stream
  pub unordered : (e : Entry) → IsAmong e es → e.ordered ≡ false → unordered_at new e.stream ≡ unordered_at ss e.stream

stands_still : (is_interleaved : Bool) (ss new : Streams) (x : SkippedStream) (e : Entry) → (e.ordered ≡ true → ordered_at new e.stream ≡ ordered_at ss e.stream) → (e.ordered ≡ false → unordered_at new e.stream ≡ unordered_at ss e.stream)
    → StandsFor is_interleaved ss x e → StandsFor is_interleaved new x e
stands_still false ss new (ForwardTsn id ssn) e o u h =
    (h.0, h.1, ap (λ z. nearest halves 0 z ssn.0) (ap (λ z. (ordered_at new z).next) (sym h.1) ∙ (ap (λ z. z.next) (o h.0) ∙ ap (λ z. (ordered_at ss z).next) h.1)) ∙ h.2, h.3)
stands_still false ss new (IForwardTsn key mid) e o u h = absurd h
stands_still true ss new (ForwardTsn id ssn) e o u h = absurd h
stands_still true ss new (IForwardTsn (Ordered id) mid) e o u h =
    (h.0, h.1, ap (λ z. nearest u32_space 0 z mid.0) (ap (λ z. (ordered_at new z).next) (sym h.1) ∙ (ap (λ z. z.next) (o h.0) ∙ ap (λ z. (ordered_at ss z).next) h.1)) ∙ h.2, h.3)
stands_still true ss new (IForwardTsn (Unordered id) mid) e o u h =
    (h.0, h.1, ap (λ z. nearest u32_space 0 z mid.0) (ap (λ z. (unordered_at new z).near) (sym h.1) ∙ (ap (λ z. z.near) (u h.0) ∙ ap (λ z. (unordered_at ss z).near) h.1)) ∙ h.2, h.3)

pub all_still : (is_interleaved : Bool) (ss new : Streams) (xs : List SkippedStream) (es : List Entry) → AreLike es ss new → StandForAll is_interleaved ss xs es → StandForAll is_interleaved new xs es
all_still is_interleaved ss new [] [] l h = tt
all_still is_interleaved ss new [] (e ∷ es) l h = absurd h
all_still is_interleaved ss new (x ∷ xs) [] l h = absurd h
all_still is_interleaved ss new (x ∷ xs) (e ∷ es) l h =
    (stands_still is_interleaved ss new x e (l.ordered e (inl refl)) (l.unordered e (inl refl)) h.0, all_still is_interleaved ss new xs es (record { ordered = λ d a. l.ordered d (inr a); unordered = λ d a. l.unordered d (inr a) }) h.1)

module _ (is_interleaved : Bool) (shift : ℕ) (decide : Decided is_interleaved) where
  pub record Done (q : Queue (KeyOf is_interleaved) (next_of is_interleaved)) (ready : List Message) (o : Outcome) : Type 0 where
    pub leads : Leads is_interleaved shift q (view_with o.streams (ready ++ o.messages))
    pub mode : o.streams.is_interleaved ≡ is_interleaved

  -- the ordered streams that are named
  abbrev AreOrdered : List Entry → Streams → Type 0
  AreOrdered es ss = (e : Entry) → IsAmong e es → e.ordered ≡ true → AreInOrder (ordered_at ss e.stream).held

  module _ (e : Entry) (es : List Entry) (ss : Streams) (ready : List Message) (apart : (d : Entry) → IsAmong d es → IsApart e d) where
    -- an ordered one
    module _ (o : e.ordered ≡ true) (sorted : AreInOrder (ordered_at ss e.stream).held) where
      abbrev delivery : OrderedDelivery
      delivery = ordered_forward (origin + e.number) (ordered_at ss e.stream)

      others : (d : Entry) → IsAmong d es → is_named d true e.stream ≡ false
      others d a = ap (λ z. is_named d z e.stream) (sym o) ∙ others_apart e es apart d a

      abbrev new : Streams
      new = (with_ordered e.stream delivery ss).streams

      like : AreLike es ss new
      like = record {
        ordered = λ d a k. changed_off fresh_ordered e.stream d.stream (λ s. apart d a (o ∙ sym k) (sym s)) delivery.stream ss.ordered;
        unordered = λ d a k. refl;
      }

      goes_on : (q : Queue (KeyOf is_interleaved) (next_of is_interleaved)) → IsSeenAs is_interleaved shift (pending (e ∷ es) (view_with ss ready)) q → Leads is_interleaved shift q (pending es (view_with new (ready ++ delivery.messages)))
      goes_on q p =
          let v = view_with ss ready in
          let w = pending (e ∷ es) v in
          let hs = from_rank rank_of (pair_rank (suc (origin + e.number)) 0) (ordered_at ss e.stream).held in
          let n = max (suc (origin + e.number)) (ordered_at ss e.stream).next in
          let here : w.held true e.stream ≡ hs = ap (λ z. w.held z e.stream) (sym o) ∙ (pending_here e es v (others_apart e es apart) ∙ ap (λ z. from_rank rank_of (pair_rank (suc (origin + e.number)) 0) (v.held z e.stream)) o) in
          let l = delivers is_interleaved shift decide (length (intervals_of hs)) w q e.stream n hs p here (pending_next e es v o others) (from_order (pair_rank (suc (origin + e.number)) 0) (ordered_at ss e.stream).held sorted) in
          let a = pending_moved e es o others v delivery.stream.held delivery.stream.next delivery.messages in
          let b : moved v true e.stream delivery.stream.held delivery.stream.next delivery.messages ≡ view_with new (ready ++ delivery.messages) =
          alike_same (moved v true e.stream delivery.stream.held delivery.stream.next delivery.messages) (view_with new (ready ++ delivery.messages)) (ordered_moved ss e.stream ready delivery) in
          subst (λ z. Leads is_interleaved shift q (pending es z)) b
          (leads_alike is_interleaved shift decide q (after_delivery is_interleaved shift decide w e.stream delivery) (pending es (moved v true e.stream delivery.stream.held delivery.stream.next delivery.messages)) a l)

    -- an unordered one
    module _ (o : e.ordered ≡ false) where
      abbrev past : Streams
      past = passed_on e.stream (origin + e.number) ss

      past_like : AreLike es ss past
      past_like = record {
        ordered = λ d a k. refl;
        unordered = λ d a k. changed_off fresh_unordered e.stream d.stream (λ s. apart d a (o ∙ sym k) (sym s)) (unordered_forward (origin + e.number) (unordered_at ss e.stream)) ss.unordered;
      }

      held_past : (k : Bool) (a : ℕ) → held_on past k a ≡ cond (is_named e k a) (from_rank rank_of (pair_rank (suc (origin + e.number)) 0) (held_on ss k a)) (held_on ss k a)
      held_past true a = sym (cond-false (is_named e true a) (from_rank rank_of (pair_rank (suc (origin + e.number)) 0) (held_on ss true a)) (held_on ss true a) (named_off e true a (λ p q. true≢false (p ∙ o))))
      held_past false a = go (cases_eq a e.stream)
        where
          go : (a ≡ e.stream) ⊎ (a ≢ e.stream) → held_on past false a ≡ cond (is_named e false a) (from_rank rank_of (pair_rank (suc (origin + e.number)) 0) (held_on ss false a)) (held_on ss false a)
          go (inl s) =
              ap (λ z. (unordered_at past z).held) s ∙ (ap (λ z. z.held) (changed_here fresh_unordered e.stream (unordered_forward (origin + e.number) (unordered_at ss e.stream)) ss.unordered)
              ∙ (ap (λ z. from_rank rank_of (pair_rank (suc (origin + e.number)) 0) (unordered_at ss z).held) (sym s)
              ∙ sym (cond-true (is_named e false a) (from_rank rank_of (pair_rank (suc (origin + e.number)) 0) (held_on ss false a)) (held_on ss false a) (named_here e false a (sym o) s))))
          go (inr d) =
              ap (λ z. z.held) (changed_off fresh_unordered e.stream a d (unordered_forward (origin + e.number) (unordered_at ss e.stream)) ss.unordered)
              ∙ sym (cond-false (is_named e false a) (from_rank rank_of (pair_rank (suc (origin + e.number)) 0) (held_on ss false a)) (held_on ss false a) (named_off e false a (λ p q. d q)))

      passed_past : (a : ℕ) → (unordered_at past a).passed ≡ cond (is_named e false a) (max (unordered_at ss a).passed (suc (origin + e.number))) (unordered_at ss a).passed
      passed_past a = go (cases_eq a e.stream)
        where
          go : (a ≡ e.stream) ⊎ (a ≢ e.stream) → (unordered_at past a).passed ≡ cond (is_named e false a) (max (unordered_at ss a).passed (suc (origin + e.number))) (unordered_at ss a).passed
          go (inl s) =
              ap (λ z. (unordered_at past z).passed) s ∙ (ap (λ z. z.passed) (changed_here fresh_unordered e.stream (unordered_forward (origin + e.number) (unordered_at ss e.stream)) ss.unordered)
              ∙ (ap (λ z. max (unordered_at ss z).passed (suc (origin + e.number))) (sym s)
              ∙ sym (cond-true (is_named e false a) (max (unordered_at ss a).passed (suc (origin + e.number))) (unordered_at ss a).passed (named_here e false a (sym o) s))))
          go (inr d) =
              ap (λ z. z.passed) (changed_off fresh_unordered e.stream a d (unordered_forward (origin + e.number) (unordered_at ss e.stream)) ss.unordered)
              ∙ sym (cond-false (is_named e false a) (max (unordered_at ss a).passed (suc (origin + e.number))) (unordered_at ss a).passed (named_off e false a (λ p q. d q)))

      pub goes_past : AreAlike (pending (e ∷ es) (view_with ss ready)) (pending es (view_with past ready))
      goes_past = pending_first e es (view_with ss ready) (view_with past ready) held_past o (λ a. refl) passed_past refl

  -- all of them
  pub skips : (xs : List SkippedStream) (es : List Entry) (ss : Streams) (ready : List Message) (q : Queue (KeyOf is_interleaved) (next_of is_interleaved)) → StandForAll is_interleaved ss xs es → AreApart es → ss.is_interleaved ≡ is_interleaved → AreOrdered es ss
      → IsSeenAs is_interleaved shift (pending es (view_with ss ready)) q → Done q ready (skip_each xs ss)
  skips [] [] ss ready q h apart mode sorted p = record {
    leads = record { queue = q; takes = none; seen_as = seen_alike is_interleaved shift (pending [] (view_with ss ready)) (view_with ss (ready ++ [])) q (record { held = λ k a. refl; next = λ a. refl; passed = λ a. refl; ready = append-nil ready }) p };
    mode = mode;
  }
  skips [] (e ∷ es) ss ready q h apart mode sorted p = absurd h
  skips (x ∷ xs) [] ss ready q h apart mode sorted p = absurd h
  skips (x ∷ xs) (e ∷ es) ss ready q h apart mode sorted p = go (does ss e is_interleaved x mode h.0) (skips xs es)
    where
      Rest : Type 0
      Rest = (new : Streams) (emitted : List Message) (r : Queue (KeyOf is_interleaved) (next_of is_interleaved)) → StandForAll is_interleaved new xs es → AreApart es → new.is_interleaved ≡ is_interleaved → AreOrdered es new
          → IsSeenAs is_interleaved shift (pending es (view_with new emitted)) r → Done r emitted (skip_each xs new)

      join : (o : Outcome) → skip x ss ≡ o → Done q ready (record { streams = (skip_each xs o.streams).streams; messages = o.messages ++ (skip_each xs o.streams).messages }) → Done q ready (skip_each (x ∷ xs) ss)
      join o is d = subst (λ (z : Outcome). Done q ready (record { streams = (skip_each xs z.streams).streams; messages = z.messages ++ (skip_each xs z.streams).messages })) (sym is) d

      go : Does ss x e → Rest → Done q ready (skip_each (x ∷ xs) ss)
      go (in_order o is) rest =
          let s = sorted e (inl refl) o in
          let l = goes_on e es ss ready apart.0 o s q p in
          let k = like e es ss ready apart.0 o s in
          let n = new e es ss ready apart.0 o s in
          let emitted = ready ++ (delivery e es ss ready apart.0 o s).messages in
          let d = rest n emitted l.queue (all_still is_interleaved ss n xs es k h.1) apart.1 mode (λ c a b. subst (λ z. AreInOrder z.held) (sym (k.ordered c a b)) (sorted c (inr a) b)) l.seen_as in
          join (with_ordered e.stream (delivery e es ss ready apart.0 o s) ss) is (record {
            leads = leads_on is_interleaved shift decide q (pending es (view_with n emitted)) (view_with (skip_each xs n).streams (ready ++ ((delivery e es ss ready apart.0 o s).messages ++ (skip_each xs n).messages))) l
                (subst (λ z. Leads is_interleaved shift l.queue (view_with (skip_each xs n).streams z)) (append_assoc ready (delivery e es ss ready apart.0 o s).messages (skip_each xs n).messages) d.leads);
            mode = d.mode;
          })
      go (out_of_order o is) rest =
          let k = past_like e es ss ready apart.0 o in
          let n = past e es ss ready apart.0 o in
          let d = rest n ready q (all_still is_interleaved ss n xs es k h.1) apart.1 mode (λ c a b. subst (λ z. AreInOrder z.held) (sym (k.ordered c a b)) (sorted c (inr a) b))
          (seen_alike is_interleaved shift (pending (e ∷ es) (view_with ss ready)) (pending es (view_with n ready)) q (goes_past e es ss ready apart.0 o) p) in
          join (record { streams = n; messages = [] }) is (record { leads = d.leads; mode = d.mode })
