-- Lifecycles of messages whose ends are kept, and what a packet takes of the queue.
use Rattle.std.proofs.Common.{◌≡◌, ℕ, zero, suc, ◌+◌, ◌-◌, ◌&&◌, ◌||◌, not, nat_lt, nat_le, Bool, true, false, cond, Option, Some, None, unwrap_or, option_map, List, [], ◌∷◌, ◌++◌, length, map, take, drop, slice_get, refl, ap, ◌∙◌, arith}
use Rattle.sctp_chunk.specs.declared.sack.GapAckBlock.{GapAckBlock}
use Rattle.sctp_packet.specs.Covered.{is_covered}
use Rattle.sctp_packet.specs.Chunk.{FragmentTree}
use Rattle.sctp_state.specs.declared.api.GivenUpCause.{GivenUpCause}
use Rattle.sctp_state.specs.declared.api.GivenUpCause.TheVariants.{Lifetime, Retransmissions}
use Rattle.sctp_state.specs.Events.{Emitted}
use Rattle.sctp_tx_outstanding.specs.declared.item.MissIndication.{MissIndication}
use Rattle.sctp_tx_outstanding.specs.declared.item.MissIndication.TheVariants.{Timeout}
use Rattle.sctp_tx_outstanding.specs.Item.{Item, is_of, is_fast, should_be_retransmitted, abandon, mark_as_retransmitted, miss_fast}
use Rattle.sctp_tx_outstanding.specs.Item as item
use Rattle.sctp_tx_outstanding.specs.OutstandingData.{Items, change_at, abandon_if_of, last_of}
use Rattle.sctp_tx_outstanding.specs.Losses.{placeholder, placeholders, abandon_message, Step, abandon_with_record, change_items, loses, is_to_be_abandoned, nack_item, nack_below, nack_all, first_step, expired_at, given_up_if, expire_below, expire_outstanding}
use Rattle.sctp_tx_outstanding.specs.Resending.{Resent, size_in, again_of, allowance, fast_turn, queued_turn, turn_of, apply_turn, resent_below, empty_packet}
use Rattle.sctp_tx_outstanding.specs.Sack.{report_by, all_leaving_events, leaving, staying, ack_or_uncover, ack_or_uncover_all, reported_below, receive_sack_first, receive_sack}
use Rattle.sctp_tx_queue.specs.SendQueue.{Queue}
use Rattle.sctp_tx_queue.specs.Produced as queued
use Rattle.sctp_tx_queue.specs.Settings.{Changed}
use Rattle.sctp_tx.specs.Windows.{is_open}
use Rattle.sctp_tx.specs.RetransmissionQueue.{Sender, sender_if, emitted_if}
use Rattle.sctp_tx.specs.Resent.{resent_by, resent, resent_fast, may_send_new, start_t3_if, send_fast}
use Rattle.sctp_tx.specs.Sending.{Filling, offered_payload, item_of, append, QueueStep, queue_step_if, next_turn, fill, discard_all, without_discards, filled_with, fill_and_start_t3, send}
use Rattle.proof_endpoint.specs.Lifecycles.{lifecycle_count, where_end, kept_ends}
use Rattle.proof_endpoint.proofs.SpendsLemmas.{Spends, kept_append, kept_split, ends_reports, spends_nothing, spends_given_up, spends_all, spends_then, spends_within}
use Rattle.proof_endpoint.proofs.QueueSpendsLemmas.{made_end, in_queue, spends_produced, spends_discards}

module _ (l : ℕ) where
  -- what the end of an item counts
  abbrev part : Item → ℕ
  part i = where_end i.fragment.is_end (lifecycle_count l i.lifecycle)

  abbrev pub kept_of : Sender → ℕ
  kept_of s = kept_ends l s.outstanding.items.kept

  -- ---- one item changes, or each

  kept_changed : (k : ℕ) (f : Item → Item) (is : List Item) → ((i : Item) → part (f i) ≡ part i) → kept_ends l (change_at k f is) ≡ kept_ends l is
  kept_changed k f [] h = refl
  kept_changed zero f (i ∷ is) h = ap (λ (n : ℕ). n + kept_ends l is) (h i)
  kept_changed (suc k) f (i ∷ is) h = ap (λ (n : ℕ). part i + n) (kept_changed k f is h)

  part_laid : (number : ℕ) (i : Item) → part (abandon_if_of number i) ≡ part i
  part_laid number i = go (is_of number i)
    where
      go : (b : Bool) → part (cond b (abandon i) i) ≡ part i
      go true = refl
      go false = refl

  kept_laid : (number : ℕ) (is : List Item) → kept_ends l (map (abandon_if_of number) is) ≡ kept_ends l is
  kept_laid number [] = refl
  kept_laid number (i ∷ is) = omega (arith, part_laid number i, kept_laid number is)

  kept_placeholders : (number : ℕ) (o : Option FragmentTree) → kept_ends l (placeholders number o) ≡ 0
  kept_placeholders number None = refl
  kept_placeholders number (Some f) = go f.is_end
    where
      go : (b : Bool) → kept_ends l (cond b [] (placeholder number f ∷ [])) ≡ 0
      go true = refl
      go false = refl

  kept_abandoned : (number : ℕ) (s : Items) → kept_ends l (abandon_message number s).kept ≡ kept_ends l s.kept
  kept_abandoned number s =
      let more : List Item = placeholders number (last_of number s.kept) in
      omega (arith, kept_laid number (s.kept ++ more), kept_append l s.kept more, kept_placeholders number (last_of number s.kept))

  kept_ack_or_uncover : (covered : Bool) (i : Item) → part (ack_or_uncover covered i) ≡ part i
  kept_ack_or_uncover true i = refl
  kept_ack_or_uncover false i = refl

  kept_settle : (blocks : List GapAckBlock) (offset : ℕ) (is : List Item) → kept_ends l (ack_or_uncover_all blocks offset is) ≡ kept_ends l is
  kept_settle blocks offset [] = refl
  kept_settle blocks offset (i ∷ is) = omega (arith, kept_ack_or_uncover (is_covered blocks offset) i, kept_settle blocks (suc offset) is)

  -- ---- losses and lifetimes

  module _ {P : Type 0} (t : Emitted P) (w : ℕ) where
    -- from there to a step
    abbrev Reaches : Step P → Type 0
    Reaches x = Spends l t x.emitted w (kept_ends l x.items.kept)

    given_up_too : (number : ℕ) (cause : GivenUpCause) (x : Step P) → Reaches x → Reaches (abandon_with_record number cause x)
    given_up_too number cause x h =
        spends_then l h
        (spends_given_up l number cause x.emitted (kept_ends l x.items.kept) (kept_ends l (abandon_message number x.items).kept) (omega (arith, kept_abandoned number x.items)))

    nacks_item : (b : Bool) (indication : MissIndication) (fast is_lossy : Bool) (k : ℕ) (i : Item) (x : Step P) → Reaches x
        → Reaches (cond b (abandon_with_record i.number (Retransmissions (i.sent - 1)) x) (record x { items = change_items k (item.nack indication fast) x.items; is_lossy = is_lossy }))
    nacks_item true indication fast is_lossy k i x h = given_up_too i.number (Retransmissions (i.sent - 1)) x h
    nacks_item false indication fast is_lossy k i x h =
        spends_within l w (kept_ends l (change_items k (item.nack indication fast) x.items).kept) h (omega (arith, kept_changed k (item.nack indication fast) x.items.kept (λ j. refl)))

    nacks_at : (o : Option Item) (indication : MissIndication) (fast : Bool) (k : ℕ) (x : Step P) → Reaches x
        → Reaches (unwrap_or (option_map (λ i. nack_item indication fast k i x) o) x)
    nacks_at None indication fast k x h = h
    nacks_at (Some i) indication fast k x h =
        nacks_item (is_to_be_abandoned x.items.is_partial indication i) indication fast (x.is_lossy || loses indication i) k i x h

    nacks_below : (indication : MissIndication) (fast : Bool) (n : ℕ) (x : Step P) → Reaches x → Reaches (nack_below indication fast n x)
    nacks_below indication fast zero x h = h
    nacks_below indication fast (suc n) x h =
        let y : Step P = nack_below indication fast n x in
        nacks_at (slice_get y.items.kept n) indication fast n y (nacks_below indication fast n x h)

    gives_up_if : (o : Option ℕ) (x : Step P) → Reaches x → Reaches (given_up_if o x)
    gives_up_if None x h = h
    gives_up_if (Some n) x h = given_up_too n Lifetime x h

    expires_below : (now n : ℕ) (x : Step P) → Reaches x → Reaches (expire_below now n x)
    expires_below now zero x h = h
    expires_below now (suc n) x h =
        let y : Step P = expire_below now n x in
        gives_up_if (expired_at now n y.items) y (expires_below now n x h)

  module _ {P : Type 0} where
    pub spends_nack_all : (s : Items) (t : Emitted P) → Spends l t (nack_all s t).emitted (kept_ends l s.kept) (kept_ends l (nack_all s t).items.kept)
    spends_nack_all s t =
        let n : ℕ = kept_ends l s.kept in
        nacks_below t n Timeout false (length s.kept) (first_step s t) (spends_nothing l t n n (omega arith))

    pub spends_expired : (now : ℕ) (s : Items) (t : Emitted P) → Spends l t (expire_outstanding now s t).emitted (kept_ends l s.kept) (kept_ends l (expire_outstanding now s t).items.kept)
    spends_expired now s t =
        let n : ℕ = kept_ends l s.kept in
        expires_below t n now (length s.kept) (first_step s t) (spends_nothing l t n n (omega arith))

    -- ---- acknowledgements

    spends_received : (n : ℕ) (blocks : List GapAckBlock) (once fast : Bool) (s : Items) (t : Emitted P)
        → Spends l t (receive_sack n blocks once fast s t).emitted (kept_ends l s.kept) (kept_ends l (receive_sack n blocks once fast s t).items.kept)
    spends_received n blocks once fast s t =
        let removed : List Item = take (leaving n s) s.kept in
        let stay : List Item = drop (leaving n s) s.kept in
        let x : Step P = receive_sack_first n blocks s t in
        nacks_below t (kept_ends l s.kept) (report_by once n blocks s) (not fast) (reported_below blocks (staying n s)) x
        (spends_all l (all_leaving_events removed) t (kept_ends l s.kept) (kept_ends l x.items.kept)
        (omega (arith, ends_reports P l removed, kept_settle blocks 1 stay, kept_split l (leaving n s) s.kept)))

    pub spends_sack : (is_valid : Bool) (now n a_rwnd : ℕ) (blocks : List GapAckBlock) (s : Sender) (t : Emitted P)
        → Spends l t (emitted_if is_valid n blocks s t) (kept_of s) (kept_of (sender_if is_valid now n a_rwnd blocks s t))
    spends_sack true now n a_rwnd blocks s t = spends_received n blocks s.windows.avoids_stalls (not (is_open n s.windows)) s.outstanding.items t
    spends_sack false now n a_rwnd blocks s t = spends_nothing l t (kept_of s) (kept_of s) (omega arith)

  -- ---- what is sent again

  abbrev kept_resent : Resent → ℕ
  kept_resent x = kept_ends l x.outstanding.items.kept

  kept_again : (k : ℕ) (o : Option Item) (x : Resent) → kept_resent (again_of k o x) ≡ kept_resent x
  kept_again k None x = refl
  kept_again k (Some i) x = kept_changed k mark_as_retransmitted x.outstanding.items.kept (λ j. refl)

  kept_fast_turn : (i : Item) (k : ℕ) (x : Resent) → kept_resent (apply_turn (fast_turn i x) k x) ≡ kept_resent x
  kept_fast_turn i k x = go (is_fast i) refl (nat_le (size_in x i) x.room) refl
    where
      go : (b : Bool) → is_fast i ≡ b → (d : Bool) → nat_le (size_in x i) x.room ≡ d → kept_resent (apply_turn (fast_turn i x) k x) ≡ kept_resent x
      go true e true f = rw (e, f) (kept_again k (slice_get x.outstanding.items.kept k) x)
      go true e false f = rw (e, f) (kept_changed k miss_fast x.outstanding.items.kept (λ j. refl))
      go false e d f = rw e refl

  kept_queued_turn : (i : Item) (k : ℕ) (x : Resent) → kept_resent (apply_turn (queued_turn i x) k x) ≡ kept_resent x
  kept_queued_turn i k x = go (should_be_retransmitted i && nat_le (size_in x i) (allowance x)) refl
    where
      go : (b : Bool) → (should_be_retransmitted i && nat_le (size_in x i) (allowance x)) ≡ b → kept_resent (apply_turn (queued_turn i x) k x) ≡ kept_resent x
      go true e = rw e (kept_again k (slice_get x.outstanding.items.kept k) x)
      go false e = rw e refl

  kept_turn : (fast : Bool) (o : Option Item) (k : ℕ) (x : Resent) → kept_resent (apply_turn (turn_of fast o x) k x) ≡ kept_resent x
  kept_turn fast None k x = refl
  kept_turn true (Some i) k x = kept_fast_turn i k x
  kept_turn false (Some i) k x = kept_queued_turn i k x

  kept_below : (fast : Bool) (n : ℕ) (x : Resent) → kept_resent (resent_below fast n x) ≡ kept_resent x
  kept_below fast zero x = refl
  kept_below fast (suc n) x =
      let y : Resent = resent_below fast n x in
      kept_turn fast (slice_get y.outstanding.items.kept n) n y ∙ kept_below fast n x

  kept_timed : (b : Bool) (now : ℕ) (s : Sender) → kept_of (start_t3_if b now s) ≡ kept_of s
  kept_timed true now s = refl
  kept_timed false now s = refl

  pub kept_fast : (now most : ℕ) (s : Sender) → kept_of (send_fast now most s) ≡ kept_of s
  kept_fast now most s =
      let x : Resent = resent_fast most s in
      kept_timed (nat_lt 0 (length x.chunks)) now (resent_by s x)
      ∙ kept_below true (length s.outstanding.items.kept) (empty_packet most 0 s.outstanding)

  kept_after : (most : ℕ) (s : Sender) → kept_resent (resent most s) ≡ kept_of s
  kept_after most s = kept_below false (length s.outstanding.items.kept) (empty_packet _ s.windows.rwnd s.outstanding)

  -- ---- new fragments

  module _ {P : Type 0} where
    abbrev in_filling : Filling P → ℕ
    in_filling x = in_queue l x.queue + kept_of x.sender

    appends : (now w : ℕ) (o : Option queued.Produced) (t : Emitted P) (x : Filling P) → Spends l t x.emitted w (in_filling x + made_end l o)
        → Spends l t (append now o x).emitted w (in_filling (append now o x))
    appends now w None t x h = spends_within l w (in_filling x) h (omega arith)
    appends now w (Some p) t x h =
        spends_within l w (in_filling (append now (Some p) x)) h (omega (arith, kept_append l x.sender.outstanding.items.kept (item_of now p ∷ [])))

    turns_if : (b : Bool) (now : ℕ) (x : Filling P) → Spends l x.emitted (queue_step_if b now x).filling.emitted (in_filling x) (in_filling (queue_step_if b now x).filling)
    turns_if true now x =
        let y : queued.Turn P = queued.produce now (offered_payload x.left x.sender) x.queue x.emitted in
        let z : Filling P = record x { queue = y.queue; emitted = y.emitted } in
        appends now (in_filling x) y.made x.emitted z
        (spends_within l (in_filling x) (in_filling z + made_end l y.made) (spends_produced l now (offered_payload x.left x.sender) x.queue x.emitted) (omega arith))
    turns_if false now x = spends_nothing l x.emitted (in_filling x) (in_filling x) (omega arith)

    fills_if : (b : Bool) (w : ℕ) (t : Emitted P) (x y : Filling P) → Spends l t x.emitted w (in_filling x) → Spends l x.emitted y.emitted (in_filling x) (in_filling y)
        → Spends l t (cond b y x).emitted w (in_filling (cond b y x))
    fills_if true w t x y h k = spends_then l h k
    fills_if false w t x y h k = h

    fills : (n now : ℕ) (x : Filling P) → Spends l x.emitted (fill n now x).emitted (in_filling x) (in_filling (fill n now x))
    fills zero now x = spends_nothing l x.emitted (in_filling x) (in_filling x) (omega arith)
    fills (suc n) now x =
        let y : QueueStep P = next_turn now x in
        fills_if y.is_more (in_filling x) x.emitted y.filling (fill n now y.filling) (turns_if (may_send_new x.sender && nat_lt 0 (offered_payload x.left x.sender)) now x)
        (fills n now y.filling)

    pub spends_sent : (now most : ℕ) (s : Sender) (q : Queue) (t : Emitted P) → Spends l t (send now most s q t).emitted (in_queue l q + kept_of s) (in_filling (send now most s q t))
    spends_sent now most s q t =
        let left : Changed P = discard_all s.outstanding.items.discards q t in
        let x : Filling P = filled_with most (without_discards s) (resent most (without_discards s)) left in
        let y : Filling P = fill (suc x.left) now x in
        spends_then l
        (spends_within l (in_queue l q + kept_of s) (in_filling x) (spends_discards l s.outstanding.items.discards q t) (omega (arith, kept_after most (without_discards s))))
        (spends_within l (in_filling x) (in_filling (fill_and_start_t3 now x)) (fills (suc x.left) now x) (omega (arith, kept_timed (nat_lt 0 (length y.chunks)) now y.sender)))
