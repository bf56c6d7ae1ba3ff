-- Missing reports, timeouts and lifetimes.
use Rattle.std.proofs.Common.{◌≡◌, ℕ, zero, suc, ◌+◌, ◌<◌, Bool, true, false, cond, Option, Some, None, List, [], ◌∷◌, ◌++◌, refl, sym, ap, ◌∙◌, subst, arith, append_assoc}
use Rattle.std.specs.Prelude.{◌^◌, slice_get, option_map, unwrap_or, ◌&&◌, ◌||◌, ◌-◌}
use Rattle.std.specs.List.{list_all}
use Rattle.std.proofs.lemmas.Bool.{and_parts}
use Rattle.std.proofs.lemmas.List.{map-append}
use Rattle.sctp_serial.specs.Unwrapped.{origin}
use Rattle.sctp_packet.specs.Chunk.{FragmentTree}
use Rattle.sctp_state.specs.Events as events
use Rattle.sctp_state.specs.Events.{Emitted}
use Rattle.sctp_state.specs.declared.api.GivenUpCause.{GivenUpCause}
use Rattle.sctp_state.specs.declared.api.GivenUpCause.TheVariants.{Lifetime, Retransmissions}
use Rattle.sctp_tx_queue.specs.SendQueue.{Queue}
use Rattle.sctp_tx_outstanding.specs.declared.item.MissIndication.{MissIndication}
use Rattle.sctp_tx_outstanding.specs.declared.item.ItemState.{ItemState}
use Rattle.sctp_tx_outstanding.specs.declared.item.ItemState.TheVariants.{InFlight, Missing, Queued, QueuedFast, Acked, GivenUp}
use Rattle.sctp_tx_outstanding.specs.Item.{Item, is_in_flight, has_nack, is_given_up, is_lost, is_used_up, is_outstanding, is_nacked, is_abandoned, has_expired, nack}
use Rattle.sctp_tx_outstanding.specs.OutstandingData.{Items, later_of}
use Rattle.sctp_tx_outstanding.specs.Losses.{Step, abandon_message, abandon_with_record, given_up_if, is_to_be_abandoned, loses, change_items, nack_item, nack_at, nack_below, expires, expired_of, option_bind, expire_at, expire_below}
use Rattle.proof_protocol.specs.State.{Message, Sender, Transfer, fragment}
use Rattle.proof_protocol.specs.Rules.{TransferEvent, run}
use Rattle.proof_protocol.proofs.RulesKeepLemmas.{all_kept}
use Rattle.proof_refines.specs.SenderRefinement.{StandsFor, AreKept, QueueRefines, AreQueued, messages_of}
use Rattle.proof_refines.specs.Reachable.{is_sending, given_up_places, recorded_places, SenderLeadsTo}
use Rattle.proof_refines.proofs.ItemsLemmas.{Alike, by_nack, kept_changed}
use Rattle.proof_refines.proofs.LedLemmas.{leads_on}
use Rattle.proof_refines.proofs.AbandonLemmas.{GivesUp, gives, some_last}

pub in_flight_lives : (s : ItemState) → is_in_flight s ≡ true → is_given_up s ≡ false
in_flight_lives InFlight e = refl
in_flight_lives Missing e = refl
in_flight_lives Queued e = refl
in_flight_lives QueuedFast e = refl
in_flight_lives Acked e = refl
in_flight_lives GivenUp e = absurd (cc)

pub nacked_lives : (s : ItemState) → has_nack s ≡ true → is_given_up s ≡ false
nacked_lives InFlight e = refl
nacked_lives Missing e = refl
nacked_lives Queued e = refl
nacked_lives QueuedFast e = refl
nacked_lives Acked e = refl
nacked_lives GivenUp e = absurd (cc)

module _ (message : ℕ → Message) (lifecycle : ℕ → Option ℕ) where
  pub kept_at : (o : Sender) (t k : ℕ) (is : List Item) (i : Item) → slice_get is k ≡ Some i → AreKept message lifecycle o t is → StandsFor message lifecycle o (fragment o (t + k)) i
  kept_at o t k [] i e a = absurd (cc)
  kept_at o t zero (j ∷ is) i e a =
      let same : j ≡ i = cc in
      let at : t ≡ t + 0 = omega arith in
      subst (λ n. StandsFor message lifecycle o (fragment o n) i) at (subst (λ (z : Item). StandsFor message lifecycle o (fragment o t) z) same a.0)
  kept_at o t (suc k) (j ∷ is) i e a =
      let at : suc t + k ≡ t + suc k = omega arith in
      subst (λ n. StandsFor message lifecycle o (fragment o n) i) at (kept_at o (suc t) k is i e a.1)

  -- the queue stays, and so do the counts
  pub queue_stays : (is_interleaved : Bool) (o o' : Sender) (q : Queue) → o'.following ≡ o.following → o'.accepted ≡ o.accepted → AreQueued message lifecycle o' (messages_of q)
      → QueueRefines message lifecycle is_interleaved o q → QueueRefines message lifecycle is_interleaved o' q
  queue_stays is_interleaved o o' q counts accepted messages h = record {
    mode = h.mode;
    order = h.order;
    rising = h.rising;
    rests = h.rests;
    accepted = h.accepted ∙ sym accepted;
    few = subst (λ n. n < 2 ^ 32) (sym accepted) h.few;
    next = λ k.
        let n = h.next k in
        record {
          ssn = n.ssn ∙ ap (λ c. origin + c true k) (sym counts);
          ordered_mid = n.ordered_mid ∙ ap (λ c. origin + c true k) (sym counts);
          unordered_mid = n.unordered_mid ∙ ap (λ c. origin + c false k) (sym counts);
        };
    messages = messages;
  }

module _ {P : Type 0} (message : ℕ → Message) (lifecycle : ℕ → Option ℕ) (is_interleaved : Bool) (x : Transfer) (emitted : Emitted P) (q : Queue) where
  abbrev pub To : Items → Emitted P → Type 0
  To s later = SenderLeadsTo message lifecycle is_interleaved x emitted q s later

  pub abandoned : (p k : ℕ) (s : Items) (later : Emitted P) (cause : GivenUpCause) (i : Item) → slice_get s.kept k ≡ Some i → i.number ≡ p → is_abandoned i ≡ false
      → To s later → To (abandon_message p s) (events.emit_given_up p cause later)
  abandoned p k s later cause i here number lives a = record {
    after = z;
    places = a.places ++ p ∷ [];
    leads = leads_on message is_interleaved x y z a.places (p ∷ []) a.leads (record { events = r.0; may = r.1.may; leads = refl; sends = r.3; given_up = r.2; rest_stays = r.1.rest_stays });
    kept = all_kept message is_interleaved r.0 y a.kept r.1.may;
    refines = record {
      queue = queue_stays message lifecycle is_interleaved y.sender z.sender q r.1.counts_stay r.1.accepted_stays r.1.messages a.refines.queue;
      items = record {
        mode = a.refines.items.mode;
        point = a.refines.items.point ∙ ap (λ (w : Transfer). origin + w.acknowledged) (sym r.1.rest_stays);
        kept = subst (λ (w : Transfer). AreKept message lifecycle z.sender w.acknowledged (abandon_message p s).kept) (sym r.1.rest_stays) r.1.kept;
      };
      discards = r.1.discards;
    };
    recorded =
        map-append (λ g. g.number) later.given_up (record { number = p; cause = cause } ∷ [])
        ∙ (ap (λ w. w ++ p ∷ []) a.recorded ∙ append_assoc (recorded_places emitted) a.places (p ∷ []));
  }
    where
      y : Transfer
      y = a.after

      stands : StandsFor message lifecycle y.sender (fragment y.sender (y.acknowledged + k)) i
      stands = kept_at message lifecycle y.sender y.acknowledged k s.kept i here a.refines.items.kept

      live : y.sender.given_up p ≡ false
      live = ap (λ n. y.sender.given_up n) (sym number ∙ stands.place) ∙ (sym stands.given_up ∙ lives)

      l : (g : FragmentTree) × (later_of p None s.kept ≡ Some g)
      l = some_last message lifecycle p k None s.kept i here number

      r : (es : List TransferEvent) × GivesUp message lifecycle is_interleaved y (messages_of q) s p es × (given_up_places es ≡ p ∷ []) × (list_all is_sending es ≡ true)
      r = gives message lifecycle is_interleaved y a.kept (messages_of q) s a.refines.items.kept a.refines.queue.messages a.refines.discards p live l.0 l.1

      z : Transfer
      z = run message is_interleaved y r.0

  -- one item changes, and is not given up by it
  pub altered : (k : ℕ) (g : Item → Item) (s : Items) (later : Emitted P) → ((i : Item) → Alike i (g i)) → To s later → To (change_items k g s) later
  altered k g s later alike a = record {
    after = a.after;
    places = a.places;
    leads = a.leads;
    kept = a.kept;
    refines = record {
      queue = a.refines.queue;
      items = record { mode = a.refines.items.mode; point = a.refines.items.point; kept = kept_changed message lifecycle a.after.sender g alike k a.after.acknowledged s.kept a.refines.items.kept };
      discards = a.refines.discards;
    };
    recorded = a.recorded;
  }

  module _ (indication : MissIndication) (fast : Bool) where
    one_lost : (k : ℕ) (i : Item) (y : Step P) → slice_get y.items.kept k ≡ Some i → To y.items y.emitted → To (nack_item indication fast k i y).items (nack_item indication fast k i y).emitted
    one_lost k i y here a = go (is_to_be_abandoned y.items.is_partial indication i) refl
      where
        step : Bool → Step P
        step b = cond b (abandon_with_record i.number (Retransmissions (i.sent - 1)) y) (record y { items = change_items k (nack indication fast) y.items; is_lossy = y.is_lossy || loses indication i })

        go : (b : Bool) → is_to_be_abandoned y.items.is_partial indication i ≡ b → To (step b).items (step b).emitted
        go true e =
            let lost = (and_parts (loses indication i) (y.items.is_partial && is_used_up i) e).0 in
            let flying = (and_parts (is_outstanding i) (is_lost indication i) lost).0 in
            abandoned i.number k y.items y.emitted (Retransmissions (i.sent - 1)) i here refl (in_flight_lives i.state flying) a
        go false e = altered k (nack indication fast) y.items y.emitted (by_nack indication fast) a

    at_lost : (k : ℕ) (y : Step P) → To y.items y.emitted → To (nack_at indication fast k y).items (nack_at indication fast k y).emitted
    at_lost k y a = go (slice_get y.items.kept k) refl
      where
        step : Option Item → Step P
        step o = unwrap_or (option_map (λ i. nack_item indication fast k i y) o) y

        go : (o : Option Item) → slice_get y.items.kept k ≡ o → To (step o).items (step o).emitted
        go None e = a
        go (Some i) e = one_lost k i y e a

    pub losses : (n : ℕ) (y : Step P) → To y.items y.emitted → To (nack_below indication fast n y).items (nack_below indication fast n y).emitted
    losses zero y a = a
    losses (suc n) y a = at_lost n (nack_below indication fast n y) (losses n y a)

  module _ (now : ℕ) where
    at_expired : (k : ℕ) (y : Step P) → To y.items y.emitted → To (expire_at now k y).items (expire_at now k y).emitted
    at_expired k y a = go (slice_get y.items.kept k) refl
      where
        step : Option Item → Step P
        step o = given_up_if (option_bind (expired_of y.items.is_partial now) o) y

        go : (o : Option Item) → slice_get y.items.kept k ≡ o → To (step o).items (step o).emitted
        go None e = a
        go (Some i) e = pick (y.items.is_partial && expires now i) refl
          where
            one : Bool → Step P
            one b = given_up_if (cond b (Some i.number) None) y

            pick : (b : Bool) → (y.items.is_partial && expires now i) ≡ b → To (one b).items (one b).emitted
            pick false f = a
            pick true f =
                let due = (and_parts y.items.is_partial (expires now i) f).1 in
                let missing = (and_parts (is_nacked i) (has_expired now i) due).0 in
                abandoned i.number k y.items y.emitted Lifetime i e refl (nacked_lives i.state missing) a

    pub lifetimes : (n : ℕ) (y : Step P) → To y.items y.emitted → To (expire_below now n y).items (expire_below now n y).emitted
    lifetimes zero y a = a
    lifetimes (suc n) y a = at_expired n (expire_below now n y) (lifetimes n y a)
