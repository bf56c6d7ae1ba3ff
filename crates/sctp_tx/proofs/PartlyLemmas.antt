-- A packet that was being filled: what the call leaves that ran out of memory.
use Rattle.std.proofs.Common.{◌≡◌, ℕ, zero, suc, Some, List, [], ◌∷◌, take, drop, refl, ap, sym, subst, ◌∙◌, inl, inr}
use Rattle.std.specs.Prelude.{Result, Ok, Err, OnErr}
use Rattle.sctp_state.specs.Events.{Emitted, first_of}
use Rattle.sctp_tx_outstanding.specs.OutstandingData.{Discard, Outstanding}
use Rattle.sctp_tx_queue.specs.SendQueue.{Queue}
use Rattle.sctp_tx_queue.specs.Settings.{Changed, discard}
use Rattle.sctp_tx_queue.specs.Interrupted.{Same}
use Rattle.sctp_tx.specs.RetransmissionQueue.{Sender}
use Rattle.sctp_tx.specs.Resent.{resent}
use Rattle.sctp_tx.specs.Sending.{Filling, next_turn, discard_all, without_discards, filled_with}
use Rattle.sctp_tx.specs.Interrupted.{Stands, SomeDiscarded, PartlyResent, TurnStopped, after_turns, PartlyFilled, PartlySent}

pub on_err : {T E : Type 0} (r : Result T E) (P : Type 0) → P → OnErr r P
on_err (Ok x) P p = tt
on_err (Err e) P p = p

-- ---- messages that were given up

-- so many left the queue
pub record Discarding (d : Outstanding) (q : Queue) (emitted : Emitted (List ℕ)) (after : Outstanding) (rest : Queue) (later : Emitted (List ℕ)) : Type 0 where
  pub count : ℕ
  pub items : after ≡ record d { items = record d.items { discards = drop count d.items.discards } }
  pub queue : Stands (discard_all (take count d.items.discards) q emitted) rest later

pub discarding_none : (d : Outstanding) (q : Queue) (emitted : Emitted (List ℕ)) → Discarding d q emitted d q emitted
discarding_none d q emitted = record { count = 0; items = refl; queue = record { queue = refl; events = refl } }

without_first : (count : ℕ) (ds : List Discard) → drop 1 (drop count ds) ≡ drop (suc count) ds
without_first zero ds = refl
without_first (suc count) [] = refl
without_first (suc count) (d ∷ ds) = without_first count ds

one_more : (count : ℕ) (ds : List Discard) (next : Discard) (q : Queue) (emitted : Emitted (List ℕ)) → first_of (drop count ds) ≡ Some next
    → discard_all (take (suc count) ds) q emitted ≡ (let x = discard_all (take count ds) q emitted in discard next.stream next.number x.queue x.emitted)
one_more zero [] next q emitted is = absurd (cc)
one_more zero (d ∷ ds) next q emitted is =
    let same : d ≡ next = cc in
    subst (λ (n : Discard). discard_all (d ∷ []) q emitted ≡ discard n.stream n.number q emitted) same refl
one_more (suc count) [] next q emitted is = absurd (cc)
one_more (suc count) (d ∷ ds) next q emitted is = let x = discard d.stream d.number q emitted in one_more count ds next x.queue x.emitted is

module _ (d : Outstanding) (q : Queue) (emitted : Emitted (List ℕ)) (m : Outstanding) (r : Queue) (sofar : Emitted (List ℕ)) (h : Discarding d q emitted m r sofar)
    (next : Discard) (after : Outstanding) (named : first_of m.items.discards ≡ Some next) (others : after ≡ record m { items = record m.items { discards = drop 1 m.items.discards } }) where
  items_on : after ≡ record d { items = record d.items { discards = drop (suc h.count) d.items.discards } }
  items_on =
      others ∙ ap (λ (x : Outstanding). record x { items = record x.items { discards = drop 1 x.items.discards } }) h.items
      ∙ ap (λ (ds : List Discard). record d { items = record d.items { discards = ds } }) (without_first h.count d.items.discards)

  pub discarding_on : (rest : Queue) (later : Emitted (List ℕ)) → rest ≡ (discard next.stream next.number r sofar).queue → later ≡ (discard next.stream next.number r sofar).emitted → Discarding d q emitted after rest later
  discarding_on rest later er el =
      let x : Changed (List ℕ) = discard_all (take h.count d.items.discards) q emitted in
      let first : first_of (drop h.count d.items.discards) ≡ Some next = sym (ap (λ (o : Outstanding). first_of o.items.discards) h.items) ∙ named in
      let here : discard next.stream next.number r sofar ≡ discard next.stream next.number x.queue x.emitted = rw (h.queue.queue, h.queue.events) refl in
      let is : discard next.stream next.number r sofar ≡ discard_all (take (suc h.count) d.items.discards) q emitted = here ∙ sym (one_more h.count d.items.discards next q emitted first) in
      record {
        count = suc h.count;
        items = items_on;
        queue = record { queue = er ∙ ap (λ (c : Changed (List ℕ)). c.queue) is; events = el ∙ ap (λ (c : Changed (List ℕ)). c.emitted) is };
      }

pub discarding_stops : (d : Outstanding) (q : Queue) (emitted : Emitted (List ℕ)) (m : Outstanding) (r : Queue) (sofar : Emitted (List ℕ)) (rest : Queue) (later : Emitted (List ℕ)) → Discarding d q emitted m r sofar → Same r sofar rest later → SomeDiscarded d q emitted m rest later
discarding_stops d q emitted m r sofar rest later h same = record { count = h.count; items = h.items; queue = record { queue = same.queue ∙ h.queue.queue; events = same.events ∙ h.queue.events } }

-- ---- new fragments

-- so many turns were taken
pub record Turned (now : ℕ) (start x : Filling (List ℕ)) : Type 0 where
  pub turns : ℕ
  pub is : x ≡ after_turns turns now start

module _ (now : ℕ) (start : Filling (List ℕ)) where
  pub turned_none : Turned now start start
  turned_none = record { turns = 0; is = refl }

  module _ (x : Filling (List ℕ)) (h : Turned now start x) where
    pub turned_on : (y : Filling (List ℕ)) → y ≡ (next_turn now x).filling → Turned now start y
    turned_on y is = record { turns = suc h.turns; is = is ∙ ap (λ (z : Filling (List ℕ)). (next_turn now z).filling) h.is }

    pub turned_stops : (after : Sender) (rest : Queue) (later : Emitted (List ℕ)) → TurnStopped now x after rest later → PartlyFilled now start after rest later
    turned_stops after rest later stopped = record { turns = h.turns; turn = subst (λ (z : Filling (List ℕ)). TurnStopped now z after rest later) h.is stopped }

-- ---- the whole

module _ (now most : ℕ) (s : Sender) (q : Queue) (emitted : Emitted (List ℕ)) (after : Sender) (rest : Queue) (later : Emitted (List ℕ)) where
  pub stopped_discarding : (d : Outstanding) → after ≡ record s { outstanding = d } → SomeDiscarded s.outstanding q emitted d rest later → PartlySent now most s q emitted after rest later
  stopped_discarding d is h = subst (λ (t : Sender). PartlySent now most s q emitted t rest later) (sym is) (inl (record { discarded = h; alone = refl }))

  pub stopped_resending : (x : Sender) → x ≡ without_discards s → PartlyResent most x after → Stands (discard_all s.outstanding.items.discards q emitted) rest later → PartlySent now most s q emitted after rest later
  stopped_resending x is h stands = inr (inl (record { sender = subst (λ (t : Sender). PartlyResent most t after) is h; queue = stands }))

  pub stopped_filling : (x : Filling (List ℕ)) → x ≡ filled_with most (without_discards s) (resent most (without_discards s)) (discard_all s.outstanding.items.discards q emitted) → PartlyFilled now x after rest later
      → PartlySent now most s q emitted after rest later
  stopped_filling x is h = inr (inr (subst (λ (z : Filling (List ℕ)). PartlyFilled now z after rest later) is h))
