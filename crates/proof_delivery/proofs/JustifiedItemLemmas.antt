-- What is known of the message of a kept item stays known until the item is given up; and where a message is given up for an
-- item, the record is right.
use Rattle.std.proofs.Common.{◌≡◌, ℕ, zero, suc, ◌-◌, ◌≤◌, ◌&&◌, ◌||◌, not, nat_lt, nat_le, Bool, true, false, cond, Option, Some, None, List, [], ◌∷◌, ◌++◌, length, map, drop, slice_get, refl, subst, sym, ◌∙◌}
use Rattle.std.specs.Prelude.{unwrap_or, option_map}
use Rattle.std.specs.List.{AllByRecursion}
use Rattle.std.proofs.lemmas.Bool.{and_parts, leb-true}
use Rattle.sctp_chunk.specs.declared.sack.GapAckBlock.{GapAckBlock}
use Rattle.sctp_packet.specs.Covered.{is_covered}
use Rattle.sctp_packet.specs.Chunk.{FragmentTree}
use Rattle.sctp_state.specs.declared.api.GivenUpCause.{GivenUpCause}
use Rattle.sctp_state.specs.declared.api.GivenUpCause.TheVariants.{Lifetime, Retransmissions}
use Rattle.sctp_state.specs.Events.{GivenUp, Emitted}
use Rattle.sctp_tx_outstanding.specs.declared.item.MissIndication.{MissIndication}
use Rattle.sctp_tx_outstanding.specs.declared.item.MissIndication.TheVariants.{Timeout}
use Rattle.sctp_tx_outstanding.specs.Item.{Item, is_in_flight, has_nack, is_given_up, is_of, is_fast, is_lost, is_used_up, is_nacked, is_outstanding, should_be_retransmitted, has_expired, nack, abandon, mark_as_retransmitted, miss_fast}
use Rattle.sctp_tx_outstanding.specs.Item as item
use Rattle.sctp_tx_outstanding.specs.OutstandingData.{Items, change_at, abandon_if_of, last_of}
use Rattle.sctp_tx_outstanding.specs.Losses.{placeholder, placeholders, abandon_message, Step, first_step, abandon_with_record, change_items, loses, is_to_be_abandoned, nack_item, nack_below, nack_all, expires, expired_of, option_bind, given_up_if, expire_below, expire_outstanding}
use Rattle.sctp_tx_outstanding.specs.Resending.{Resent, size_in, allowance, again_of, fast_turn, queued_turn, turn_of, apply_turn, resent_below}
use Rattle.sctp_tx_outstanding.specs.Sack.{report_by, leaving, staying, ack_or_uncover, ack_or_uncover_all, reported_below, receive_sack_first, receive_sack}
use Rattle.sctp_tx_queue.specs.SendQueue.{Queue}
use Rattle.sctp_tx_queue.specs.Produced as queued
use Rattle.sctp_tx_queue.specs.Settings.{Changed}
use Rattle.sctp_tx.specs.Windows.{is_open}
use Rattle.sctp_tx.specs.RetransmissionQueue.{Sender, sender_if, emitted_if, timed_out_sender}
use Rattle.sctp_tx.specs.Resent.{resent, resent_fast, may_send_new, start_t3_if, send_fast}
use Rattle.sctp_tx.specs.ForwardPoints.{abandon_expired}
use Rattle.sctp_tx.specs.Sending.{Filling, offered_payload, item_of, append, QueueStep, queue_step_if, next_turn, fill, discard_all, without_discards, filled_with, send}
use Rattle.proof_refines.proofs.LossLemmas.{in_flight_lives, nacked_lives}
use Rattle.proof_delivery.proofs.JustifiedQueueLemmas.{Holds, Makes, Turns, all_behind, due_right, same_discards, holds_discards, produces}
use Rattle.sctp_tx_outstanding.proofs.RecordLemmas.{resent_same, slowed_same, acked_same, uncovered_same, nacked_same}

-- ---- tests

same_due : (now : ℕ) (o : Option ℕ) → queued.is_expired now o ≡ item.is_past now o
same_due now None = refl
same_due now (Some moment) = refl

-- ---- what is known of an item stays known while it changes

module _ (Known : ℕ → ℕ → Option ℕ → ℕ → Type 0) where
  abbrev pub Stays : Item → Type 0
  Stays i = is_given_up i.state ≡ false → Known i.fragment.stream_id i.number i.expires i.limit

  abbrev pub AllStay : List Item → Type 0
  AllStay is = AllByRecursion Stays is

  abbrev pub Keeps : Sender → Type 0
  Keeps s = AllStay s.outstanding.items.kept

  nack_stays : (indication : MissIndication) (fast : Bool) (i : Item) → Stays i → Stays (nack indication fast i)
  nack_stays indication fast i h e = h (sym (nacked_same (is_lost indication i) fast i.state) ∙ e)

  again_stays : (i : Item) → Stays i → Stays (mark_as_retransmitted i)
  again_stays i h e = h (sym (resent_same i.state) ∙ e)

  slow_stays : (i : Item) → Stays i → Stays (miss_fast i)
  slow_stays i h e = h (sym (slowed_same i.state) ∙ e)

  ack_or_uncover_stays : (covered : Bool) (i : Item) → Stays i → Stays (ack_or_uncover covered i)
  ack_or_uncover_stays true i h e = h (sym (acked_same i.state) ∙ e)
  ack_or_uncover_stays false i h e = h (sym (uncovered_same i.state) ∙ e)

  laid_stays : (number : ℕ) (i : Item) → Stays i → Stays (abandon_if_of number i)
  laid_stays number i h = go (is_of number i)
    where
      go : (b : Bool) → Stays (cond b (abandon i) i)
      go true = λ e. cc
      go false = h

  -- ---- lists

  changed : (f : Item → Item) (k : ℕ) (is : List Item) → ((i : Item) → Stays i → Stays (f i)) → AllStay is → AllStay (change_at k f is)
  changed f k [] s h = h
  changed f zero (i ∷ is) s h = (s i h.0, h.1)
  changed f (suc k) (i ∷ is) s h = (h.0, changed f k is s h.1)

  settles : (blocks : List GapAckBlock) (offset : ℕ) (is : List Item) → AllStay is → AllStay (ack_or_uncover_all blocks offset is)
  settles blocks offset [] h = h
  settles blocks offset (i ∷ is) h = (ack_or_uncover_stays (is_covered blocks offset) i h.0, settles blocks (suc offset) is h.1)

  dropped : (k : ℕ) (is : List Item) → AllStay is → AllStay (drop k is)
  dropped zero is h = h
  dropped (suc k) [] h = h
  dropped (suc k) (i ∷ is) h = dropped k is h.1

  found : (k : ℕ) (is : List Item) (i : Item) → AllStay is → slice_get is k ≡ Some i → Stays i
  found k [] i h e = cc
  found zero (j ∷ is) i h e = let same : j ≡ i = cc in subst Stays same h.0
  found (suc k) (j ∷ is) i h e = found k is i h.1 e

  lays : (number : ℕ) (is : List Item) → AllStay is → AllStay (map (abandon_if_of number) is)
  lays number [] h = h
  lays number (i ∷ is) h = (laid_stays number i h.0, lays number is h.1)

  ends : (number : ℕ) (o : Option FragmentTree) → AllStay (placeholders number o)
  ends number None = tt
  ends number (Some f) = go f.is_end
    where
      go : (b : Bool) → AllStay (cond b [] (placeholder number f ∷ []))
      go true = tt
      go false = (λ e. cc, tt)

  abandons : (number : ℕ) (s : Items) → AllStay s.kept → AllStay (abandon_message number s).kept
  abandons number s h =
      let more : List Item = placeholders number (last_of number s.kept) in
      lays number (s.kept ++ more) (all_behind Stays s.kept more h (ends number (last_of number s.kept)))

  -- ---- what is sent again

  abbrev KeepsAgain : Resent → Type 0
  KeepsAgain x = AllStay x.outstanding.items.kept

  again_at : (k : ℕ) (o : Option Item) (x : Resent) → KeepsAgain x → KeepsAgain (again_of k o x)
  again_at k None x h = h
  again_at k (Some i) x h = changed mark_as_retransmitted k x.outstanding.items.kept again_stays h

  fast_at : (a b : Bool) (i : Item) (k : ℕ) (x : Resent) → is_fast i ≡ a → nat_le (size_in x i) x.room ≡ b → KeepsAgain x → KeepsAgain (apply_turn (fast_turn i x) k x)
  fast_at true true i k x e f h = rw (e, f) (again_at k (slice_get x.outstanding.items.kept k) x h)
  fast_at true false i k x e f h = rw (e, f) (changed miss_fast k x.outstanding.items.kept slow_stays h)
  fast_at false b i k x e f h = rw e h

  queued_at : (b : Bool) (i : Item) (k : ℕ) (x : Resent) → (should_be_retransmitted i && nat_le (size_in x i) (allowance x)) ≡ b → KeepsAgain x
      → KeepsAgain (apply_turn (queued_turn i x) k x)
  queued_at true i k x e h = rw e (again_at k (slice_get x.outstanding.items.kept k) x h)
  queued_at false i k x e h = rw e h

  apply_turn_keeps_again : (fast : Bool) (o : Option Item) (k : ℕ) (x : Resent) → KeepsAgain x → KeepsAgain (apply_turn (turn_of fast o x) k x)
  apply_turn_keeps_again fast None k x h = h
  apply_turn_keeps_again true (Some i) k x h = fast_at (is_fast i) (nat_le (size_in x i) x.room) i k x refl refl h
  apply_turn_keeps_again false (Some i) k x h = queued_at (should_be_retransmitted i && nat_le (size_in x i) (allowance x)) i k x refl h

  below : (fast : Bool) (n : ℕ) (x : Resent) → KeepsAgain x → KeepsAgain (resent_below fast n x)
  below fast zero x h = h
  below fast (suc n) x h =
      let y : Resent = resent_below fast n x in
      apply_turn_keeps_again fast (slice_get y.outstanding.items.kept n) n y (below fast n x h)

  timed_keeps : (b : Bool) (now : ℕ) (s : Sender) → Keeps s → Keeps (start_t3_if b now s)
  timed_keeps true now s h = h
  timed_keeps false now s h = h

  pub keeps_fast : (now most : ℕ) (s : Sender) → Keeps s → Keeps (send_fast now most s)
  keeps_fast now most s h =
      let x : Resent = resent_fast most s in
      timed_keeps (nat_lt 0 (length x.chunks)) now _ (below true (length s.outstanding.items.kept) _ h)

-- ---- losses and lifetimes, where a message that is known to have expired, or to have used its resendings up, may be given up

module _ {P : Type 0} (Known : ℕ → ℕ → Option ℕ → ℕ → Type 0) (Right : GivenUp → Type 0) (now : ℕ)
    (late : (id n limit moment : ℕ) → Known id n (Some moment) limit → moment ≤ now → Right (record { number = n; cause = Lifetime }))
    (used : (id n limit count : ℕ) (o : Option ℕ) → Known id n o limit → limit ≤ count → Right (record { number = n; cause = Retransmissions count })) where
  abbrev Emits : Emitted P → Type 0
  Emits t = AllByRecursion Right t.given_up

  pub record Fares (x : Step P) : Type 0 where
    pub stay : AllStay Known x.items.kept
    pub right : Emits x.emitted

  gives : (number : ℕ) (cause : GivenUpCause) (x : Step P) → Right (record { number = number; cause = cause }) → Fares x → Fares (abandon_with_record number cause x)
  gives number cause x r h = record { stay = abandons Known number x.items h.stay; right = all_behind Right x.emitted.given_up _ h.right (r, tt) }

  nacks_item : (b : Bool) (indication : MissIndication) (fast is_lossy : Bool) (k : ℕ) (i : Item) (x : Step P) → is_to_be_abandoned x.items.is_partial indication i ≡ b → Stays Known i → Fares x
      → Fares (cond b (abandon_with_record i.number (Retransmissions (i.sent - 1)) x) (record x { items = change_items k (nack indication fast) x.items; is_lossy = is_lossy }))
  nacks_item true indication fast is_lossy k i x e s h =
      let lost : loses indication i ≡ true = (and_parts (loses indication i) (x.items.is_partial && is_used_up i) e).0 in
      let flown : is_in_flight i.state ≡ true = (and_parts (is_outstanding i) (is_lost indication i) lost).0 in
      let spent : is_used_up i ≡ true = (and_parts x.items.is_partial (is_used_up i) (and_parts (loses indication i) (x.items.is_partial && is_used_up i) e).1).1 in
      gives i.number (Retransmissions (i.sent - 1)) x
      (used i.fragment.stream_id i.number i.limit (i.sent - 1) i.expires (s (in_flight_lives i.state flown)) (leb-true i.limit (i.sent - 1) spent)) h
  nacks_item false indication fast is_lossy k i x e s h =
      record { stay = changed Known (nack indication fast) k x.items.kept (nack_stays Known indication fast) h.stay; right = h.right }

  nacks_at : (o : Option Item) (indication : MissIndication) (fast : Bool) (k : ℕ) (x : Step P) → slice_get x.items.kept k ≡ o → Fares x
      → Fares (unwrap_or (option_map (λ i. nack_item indication fast k i x) o) x)
  nacks_at None indication fast k x e h = h
  nacks_at (Some i) indication fast k x e h =
      nacks_item (is_to_be_abandoned x.items.is_partial indication i) indication fast (x.is_lossy || loses indication i) k i x refl (found Known k x.items.kept i h.stay e) h

  nacks_below : (indication : MissIndication) (fast : Bool) (n : ℕ) (x : Step P) → Fares x → Fares (nack_below indication fast n x)
  nacks_below indication fast zero x h = h
  nacks_below indication fast (suc n) x h =
      let y : Step P = nack_below indication fast n x in
      nacks_at (slice_get y.items.kept n) indication fast n y refl (nacks_below indication fast n x h)

  expires_item : (b : Bool) (i : Item) (x : Step P) → (x.items.is_partial && expires now i) ≡ b → Stays Known i → Fares x
      → Fares (given_up_if (cond b (Some i.number) None) x)
  expires_item true i x e s h =
      let over : expires now i ≡ true = (and_parts x.items.is_partial (expires now i) e).1 in
      let lost : has_nack i.state ≡ true = (and_parts (is_nacked i) (has_expired now i) over).0 in
      let due : has_expired now i ≡ true = (and_parts (is_nacked i) (has_expired now i) over).1 in
      gives i.number Lifetime x
      (due_right Known Right now late i.fragment.stream_id i.number i.limit i.expires (s (nacked_lives i.state lost)) (same_due now i.expires ∙ due)) h
  expires_item false i x e s h = h

  expires_at : (o : Option Item) (k : ℕ) (x : Step P) → slice_get x.items.kept k ≡ o → Fares x
      → Fares (given_up_if (option_bind (expired_of x.items.is_partial now) o) x)
  expires_at None k x e h = h
  expires_at (Some i) k x e h = expires_item (x.items.is_partial && expires now i) i x refl (found Known k x.items.kept i h.stay e) h

  expires_below : (n : ℕ) (x : Step P) → Fares x → Fares (expire_below now n x)
  expires_below zero x h = h
  expires_below (suc n) x h =
      let y : Step P = expire_below now n x in
      expires_at (slice_get y.items.kept n) n y refl (expires_below n x h)

  pub fares_nack_all : (s : Items) (t : Emitted P) → AllStay Known s.kept → Emits t → Fares (nack_all s t)
  fares_nack_all s t h k = nacks_below Timeout false (length s.kept) (first_step s t) (record { stay = h; right = k })

  pub fares_expired : (s : Items) (t : Emitted P) → AllStay Known s.kept → Emits t → Fares (expire_outstanding now s t)
  fares_expired s t h k = expires_below (length s.kept) (first_step s t) (record { stay = h; right = k })

  fares_received : (n : ℕ) (blocks : List GapAckBlock) (once fast : Bool) (s : Items) (t : Emitted P) → AllStay Known s.kept → Emits t → Fares (receive_sack n blocks once fast s t)
  fares_received n blocks once fast s t h k =
      nacks_below (report_by once n blocks s) (not fast) (reported_below blocks (staying n s)) (receive_sack_first n blocks s t)
      (record { stay = settles Known blocks 1 (drop (leaving n s) s.kept) (dropped Known (leaving n s) s.kept h); right = k })

  -- a sender, and what was emitted
  pub record Goes (s : Sender) (t : Emitted P) : Type 0 where
    pub keeps : Keeps Known s
    pub right : Emits t

  pub goes_sack : (is_valid : Bool) (n a_rwnd : ℕ) (blocks : List GapAckBlock) (s : Sender) (t : Emitted P) → Goes s t
      → Goes (sender_if is_valid now n a_rwnd blocks s t) (emitted_if is_valid n blocks s t)
  goes_sack true n a_rwnd blocks s t h =
      let f : Fares (receive_sack n blocks s.windows.avoids_stalls (not (is_open n s.windows)) s.outstanding.items t) =
      fares_received n blocks s.windows.avoids_stalls (not (is_open n s.windows)) s.outstanding.items t h.keeps h.right in
      record { keeps = f.stay; right = f.right }
  goes_sack false n a_rwnd blocks s t h = h

  pub goes_expired : (s : Sender) (t : Emitted P) → Goes s t → Goes (abandon_expired now s t) (expire_outstanding now s.outstanding.items t).emitted
  goes_expired s t h = let f : Fares (expire_outstanding now s.outstanding.items t) = fares_expired s.outstanding.items t h.keeps h.right in record { keeps = f.stay; right = f.right }

  pub goes_timed_out : (s : Sender) (t : Emitted P) → Goes s t
      → Goes (timed_out_sender now (nack_all s.outstanding.items t).items s) (nack_all s.outstanding.items t).emitted
  goes_timed_out s t h = let f : Fares (nack_all s.outstanding.items t) = fares_nack_all s.outstanding.items t h.keeps h.right in record { keeps = f.stay; right = f.right }

  -- ---- new fragments

  module _ (next : ℕ) where
    pub record Fills (x : Filling P) : Type 0 where
      pub holds : Holds Known next x.queue
      pub keeps : Keeps Known x.sender
      pub right : Emits x.emitted

    appends : (o : Option queued.Produced) (x : Filling P) → Makes Known o → Fills x → Fills (append now o x)
    appends None x m h = h
    appends (Some p) x m h = record {
      holds = h.holds;
      keeps = all_behind (Stays Known) x.sender.outstanding.items.kept (item_of now p ∷ []) h.keeps (λ e. m, tt);
      right = h.right;
    }

    actions_if : (b : Bool) (x : Filling P) → Fills x → Fills (queue_step_if b now x).filling
    actions_if true x h =
        let y : queued.Turn P = queued.produce now (offered_payload x.left x.sender) x.queue x.emitted in
        let t : Turns Known Right now late next y = produces Known Right now late next (offered_payload x.left x.sender) x.queue x.emitted h.holds h.right in
        appends y.made (record x { queue = y.queue; emitted = y.emitted }) t.made (record { holds = t.holds; keeps = h.keeps; right = t.right })
    actions_if false x h = h

    fills_if : (b : Bool) (x y : Filling P) → Fills x → Fills y → Fills (cond b y x)
    fills_if true x y h k = k
    fills_if false x y h k = h

    fills : (n : ℕ) (x : Filling P) → Fills x → Fills (fill n now x)
    fills zero x h = h
    fills (suc n) x h =
        let y : QueueStep P = next_turn now x in
        let k : Fills y.filling = actions_if (may_send_new x.sender && nat_lt 0 (offered_payload x.left x.sender)) x h in
        fills_if y.is_more y.filling (fill n now y.filling) k (fills n y.filling k)

    pub fills_sent : (most : ℕ) (s : Sender) (q : Queue) (t : Emitted P) → Holds Known next q → Keeps Known s → Emits t → Fills (send now most s q t)
    fills_sent most s q t h k r =
        let left : Changed P = discard_all s.outstanding.items.discards q t in
        let bare : Sender = without_discards s in
        let x : Filling P = filled_with most bare (resent most bare) left in
        let z : Fills x = record {
          holds = holds_discards Known next s.outstanding.items.discards q t h;
          keeps = below Known false (length bare.outstanding.items.kept) _ k;
          right = subst (AllByRecursion Right) (sym (same_discards s.outstanding.items.discards q t)) r;
        } in
        let y : Fills (fill (suc x.left) now x) = fills (suc x.left) x z in
        record { holds = y.holds; keeps = timed_keeps Known _ now (fill (suc x.left) now x).sender y.keeps; right = y.right }
