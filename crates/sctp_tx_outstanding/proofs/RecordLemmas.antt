-- Each message has one record at most, and an item is given up exactly where its message has one.
use Rattle.std.proofs.Common.{◌≡◌, ℕ, zero, suc, Bool, true, false, cond, Option, Some, None, List, [], ◌∷◌, ◌++◌, refl, ap, sym, subst, ◌∙◌, arith}
use Rattle.std.specs.Prelude.{◌≤◌, nat_le, ◌-◌, ◌==◌, ◌&&◌, ◌||◌, not, map, drop, slice_get, option_map, unwrap_or, if◌then◌else◌}
use Rattle.std.specs.List.{AllByRecursion}
use Rattle.std.proofs.lemmas.List.{append_assoc}
use Rattle.std.proofs.lemmas.Bool.Decides.{nat_tests}
use Rattle.sctp_chunk.specs.declared.sack.GapAckBlock.{GapAckBlock}
use Rattle.sctp_chunk.specs.Covered.{is_covered}
use Rattle.sctp_state.specs.Events.{GivenUp, Emitted}
use Rattle.sctp_state.specs.declared.api.GivenUpCause.{GivenUpCause}
use Rattle.sctp_state.specs.declared.api.GivenUpCause.TheVariants.{Lifetime, Retransmissions}
use Rattle.sctp_tx_outstanding.specs.declared.item.MissIndication.{MissIndication}
use Rattle.sctp_tx_outstanding.specs.declared.item.ItemState.{ItemState}
use Rattle.sctp_tx_outstanding.specs.declared.item.ItemState.TheVariants.{InFlight, Missing, Queued, QueuedFast, Acked, GivenUp as Abandoned}
use Rattle.sctp_tx_outstanding.specs.declared.outstanding_data.Turn.{Turn}
use Rattle.sctp_tx_outstanding.specs.declared.outstanding_data.Turn.TheVariants.{Send, PassOver, Leave}
use Rattle.sctp_tx_outstanding.specs.Item.{Item, is_in_flight, has_nack, is_given_up, is_of, is_lost, is_used_up, is_nacked, is_abandoned, has_expired, acked, uncovered, nack_state, resent, demote_fast, nack, mark_as_retransmitted, miss_fast, abandon}
use Rattle.sctp_tx_outstanding.specs.OutstandingData.{Items, change_at, abandon_if_of, last_of, append_item, no_items}
use Rattle.sctp_tx_outstanding.specs.Losses.{Step, placeholders, placeholder, abandon_message, abandon_with_record, given_up_if, is_to_be_abandoned, loses, nack_item, nack_at, nack_below, expires, expired_of, option_bind, expire_at, expire_below, change_items}
use Rattle.sctp_tx_outstanding.specs.Resending.{Resent, again_of, again_at, apply_turn, turn_at, step_at, resent_below}
use Rattle.sctp_tx_outstanding.specs.Sack.{report_by, ack_or_uncover_all, ack_or_uncover, leaving, staying, receive_sack, receive_sack_first, reported_below}
use Rattle.sctp_chunk.specs.Chunk.{FragmentTree}
use Rattle.sctp_tx_outstanding.specs.Records.{is_recorded, are_distinct, IsGivenUpAsRecorded, RecordedOnce, RecordsRetransmissions, RecordsLifetime}
use Rattle.sctp_serial.proofs.NumberLemmas.{or_regroup}
use Rattle.std.proofs.lemmas.Bool.{and_from}

-- ---- records

abbrev All : List GivenUp → List Item → Type 0
All gs is = AllByRecursion (IsGivenUpAsRecorded gs) is

or_none : (b : Bool) → (b || false) ≡ b
or_none true = refl
or_none false = refl

recorded_pushed : (n : ℕ) (gs : List GivenUp) (g : GivenUp) → is_recorded n (gs ++ g ∷ []) ≡ (is_recorded n gs || (g.number == n))
recorded_pushed n [] g = or_none (g.number == n)
recorded_pushed n (h ∷ gs) g = ap (λ b. (h.number == n) || b) (recorded_pushed n gs g) ∙ or_regroup (h.number == n) (is_recorded n gs) (g.number == n)

-- of two that differ
apart : (a b : ℕ) (x y z : Bool) → (not x && y) ≡ true → ((a == b) || z) ≡ false → not (x || (b == a)) ≡ true
apart a b true y z h k = absurd (cc)
apart a b false y z h k = grind (arith, nat_tests)

second : (a b : Bool) → (a && b) ≡ true → b ≡ true
second true b h = h
second false b h = absurd (cc)

other : (a b : Bool) → (a || b) ≡ false → b ≡ false
other true b h = absurd (cc)
other false b h = h

distinct_pushed : (gs : List GivenUp) (g : GivenUp) → are_distinct gs ≡ true → is_recorded g.number gs ≡ false → are_distinct (gs ++ g ∷ []) ≡ true
distinct_pushed [] g h k = refl
distinct_pushed (f ∷ gs) g h k =
    and_from (not (is_recorded f.number (gs ++ g ∷ []))) (are_distinct (gs ++ g ∷ []))
    (ap not (recorded_pushed f.number gs g) ∙ apart f.number g.number (is_recorded f.number gs) (are_distinct gs) (is_recorded g.number gs) h k)
    (distinct_pushed gs g (second (not (is_recorded f.number gs)) (are_distinct gs) h) (other (f.number == g.number) (is_recorded g.number gs) k))

-- ---- lists of items

emitted_before : (gs : List GivenUp) (is js : List Item) → All gs is → All gs js → All gs (is ++ js)
emitted_before gs [] js a b = b
emitted_before gs (i ∷ is) js a b = (a.0, emitted_before gs is js a.1 b)

emitted_behind : (gs : List GivenUp) (k : ℕ) (is : List Item) → All gs is → All gs (drop k is)
emitted_behind gs zero is a = a
emitted_behind gs (suc k) [] a = tt
emitted_behind gs (suc k) (i ∷ is) a = emitted_behind gs k is a.1

emitted_at : (gs : List GivenUp) (k : ℕ) (is : List Item) (i : Item) → All gs is → slice_get is k ≡ Some i → IsGivenUpAsRecorded gs i
emitted_at gs k [] i a e = absurd (cc)
emitted_at gs zero (j ∷ is) i a e = let same : j ≡ i = cc in subst (λ x. IsGivenUpAsRecorded gs x) same a.0
emitted_at gs (suc k) (j ∷ is) i a e = emitted_at gs k is i a.1 e

-- what stays as it was, given up or not
record Alike (i j : Item) : Type 0 where
  number : j.number ≡ i.number
  given_up : is_abandoned j ≡ is_abandoned i

alike_emitted : (gs : List GivenUp) (i j : Item) → Alike i j → IsGivenUpAsRecorded gs i → IsGivenUpAsRecorded gs j
alike_emitted gs i j h t = h.given_up ∙ t ∙ ap (λ n. is_recorded n gs) (sym h.number)

module _ (gs : List GivenUp) (f : Item → Item) (h : (i : Item) → Alike i (f i)) where
  emitted_changed : (k : ℕ) (is : List Item) → All gs is → All gs (change_at k f is)
  emitted_changed k [] a = tt
  emitted_changed zero (i ∷ is) a = (alike_emitted gs i (f i) (h i) a.0, a.1)
  emitted_changed (suc k) (i ∷ is) a = (a.0, emitted_changed k is a.1)

pub acked_same : (s : ItemState) → is_given_up (acked s) ≡ is_given_up s
acked_same InFlight = refl
acked_same Missing = refl
acked_same Queued = refl
acked_same QueuedFast = refl
acked_same Acked = refl
acked_same Abandoned = refl

pub uncovered_same : (s : ItemState) → is_given_up (uncovered s) ≡ is_given_up s
uncovered_same InFlight = refl
uncovered_same Missing = refl
uncovered_same Queued = refl
uncovered_same QueuedFast = refl
uncovered_same Acked = refl
uncovered_same Abandoned = refl

pub resent_same : (s : ItemState) → is_given_up (resent s) ≡ is_given_up s
resent_same InFlight = refl
resent_same Missing = refl
resent_same Queued = refl
resent_same QueuedFast = refl
resent_same Acked = refl
resent_same Abandoned = refl

pub slowed_same : (s : ItemState) → is_given_up (demote_fast s) ≡ is_given_up s
slowed_same InFlight = refl
slowed_same Missing = refl
slowed_same Queued = refl
slowed_same QueuedFast = refl
slowed_same Acked = refl
slowed_same Abandoned = refl

pub nacked_stays : (lost fast : Bool) → is_given_up (nack_state lost fast) ≡ false
nacked_stays true true = refl
nacked_stays true false = refl
nacked_stays false fast = refl

pub nacked_same : (lost fast : Bool) (s : ItemState) → is_given_up (cond (is_in_flight s) (nack_state lost fast) s) ≡ is_given_up s
nacked_same lost fast InFlight = nacked_stays lost fast
nacked_same lost fast Missing = nacked_stays lost fast
nacked_same lost fast Queued = refl
nacked_same lost fast QueuedFast = refl
nacked_same lost fast Acked = refl
nacked_same lost fast Abandoned = refl

alike_nack : (indication : MissIndication) (fast : Bool) (i : Item) → Alike i (nack indication fast i)
alike_nack indication fast i = record { number = refl; given_up = nacked_same (is_lost indication i) fast i.state }

alike_resent : (i : Item) → Alike i (mark_as_retransmitted i)
alike_resent i = record { number = refl; given_up = resent_same i.state }

alike_slowed : (i : Item) → Alike i (miss_fast i)
alike_slowed i = record { number = refl; given_up = slowed_same i.state }

alike_ack_or_uncover : (b : Bool) (i : Item) → Alike i (ack_or_uncover b i)
alike_ack_or_uncover true i = record { number = refl; given_up = acked_same i.state }
alike_ack_or_uncover false i = record { number = refl; given_up = uncovered_same i.state }

emitted_settled : (gs : List GivenUp) (bs : List GapAckBlock) (offset : ℕ) (is : List Item) → All gs is → All gs (ack_or_uncover_all bs offset is)
emitted_settled gs bs offset [] a = tt
emitted_settled gs bs offset (i ∷ is) a = (alike_emitted gs i (ack_or_uncover (is_covered bs offset) i) (alike_ack_or_uncover (is_covered bs offset) i) a.0, emitted_settled gs bs (suc offset) is a.1)

-- ---- a message is given up

same_number : (a b : ℕ) (c x : Bool) → (a == b) ≡ c → ((x || (b == a)) ≡ (if c then true else x))
same_number a b true x e = grind (arith, nat_tests)
same_number a b false x e = grind (arith, nat_tests)

itself_named : (n : ℕ) (x : Bool) → (x || (n == n)) ≡ true
itself_named n true = refl
itself_named n false = grind (arith, nat_tests)

module _ (gs : List GivenUp) (g : GivenUp) where
  abbrev more : List GivenUp
  more = gs ++ g ∷ []

  laid : (i : Item) (b : Bool) → is_of g.number i ≡ b → IsGivenUpAsRecorded gs i → IsGivenUpAsRecorded more (cond b (abandon i) i)
  laid i true e t = sym (recorded_pushed i.number gs g ∙ same_number i.number g.number true (is_recorded i.number gs) e)
  laid i false e t = t ∙ sym (recorded_pushed i.number gs g ∙ same_number i.number g.number false (is_recorded i.number gs) e)

  -- the end that the message gets
  end_laid : (f : FragmentTree) (b : Bool) → IsGivenUpAsRecorded more (cond b (abandon (placeholder g.number f)) (placeholder g.number f))
  end_laid f true = sym (recorded_pushed g.number gs g ∙ itself_named g.number (is_recorded g.number gs))
  end_laid f false = sym (recorded_pushed g.number gs g ∙ itself_named g.number (is_recorded g.number gs))

  ends_laid_if : (f : FragmentTree) (b : Bool) → All more (map (abandon_if_of g.number) (if b then [] else placeholder g.number f ∷ []))
  ends_laid_if f true = tt
  ends_laid_if f false = (end_laid f (is_of g.number (placeholder g.number f)), tt)

  ends_laid : (o : Option FragmentTree) → All more (map (abandon_if_of g.number) (placeholders g.number o))
  ends_laid None = tt
  ends_laid (Some f) = ends_laid_if f f.is_end

  down_with : (is js : List Item) → All gs is → All more (map (abandon_if_of g.number) js) → All more (map (abandon_if_of g.number) (is ++ js))
  down_with [] js a b = b
  down_with (i ∷ is) js a b = (laid i (is_of g.number i) refl a.0, down_with is js a.1 b)

module _ (before : List GivenUp) where
  emitted_given_up : (number : ℕ) (cause : GivenUpCause) (x : Step (List ℕ)) → is_recorded number (before ++ x.emitted.given_up) ≡ false → RecordedOnce before x.items x.emitted.given_up
      → RecordedOnce before (abandon_with_record number cause x).items (abandon_with_record number cause x).emitted.given_up
  emitted_given_up number cause x new h =
      let g : GivenUp = record { number = number; cause = cause } in
      let gs = before ++ x.emitted.given_up in
      let joins : (gs ++ g ∷ []) ≡ (before ++ (x.emitted.given_up ++ g ∷ [])) = append_assoc before x.emitted.given_up (g ∷ []) in
      record {
        once = subst (λ l. are_distinct l ≡ true) joins (distinct_pushed gs g h.once new);
        exact = subst (λ l. All l (abandon_message number x.items).kept) joins (down_with gs g x.items.kept (placeholders number (last_of number x.items.kept)) h.exact (ends_laid gs g (last_of number x.items.kept)));
      }

  emitted_items : (s t : Items) (records : List GivenUp) → All (before ++ records) t.kept → RecordedOnce before s records → RecordedOnce before t records
  emitted_items s t records a h = record { once = h.once; exact = a }

  -- ---- missing reports

  flying_stays : (s : ItemState) (b : Bool) → (is_in_flight s && b) ≡ true → is_given_up s ≡ false
  flying_stays InFlight b e = refl
  flying_stays Missing b e = refl
  flying_stays Queued b e = absurd (cc)
  flying_stays QueuedFast b e = absurd (cc)
  flying_stays Acked b e = absurd (cc)
  flying_stays Abandoned b e = absurd (cc)

  first : (a b : Bool) → (a && b) ≡ true → a ≡ true
  first true b h = refl
  first false b h = absurd (cc)

  module _ (indication : MissIndication) (fast : Bool) where
    emitted_nack_item : (k : ℕ) (i : Item) (x : Step (List ℕ)) → slice_get x.items.kept k ≡ Some i → RecordedOnce before x.items x.emitted.given_up
        → RecordedOnce before (nack_item indication fast k i x).items (nack_item indication fast k i x).emitted.given_up
    emitted_nack_item k i x there h = go (is_to_be_abandoned x.items.is_partial indication i) refl where
      given : (b : Bool) → Step (List ℕ)
      given b = if b then abandon_with_record i.number (Retransmissions (i.sent - 1)) x else record x { items = change_items k (nack indication fast) x.items; is_lossy = x.is_lossy || loses indication i }

      go : (b : Bool) → is_to_be_abandoned x.items.is_partial indication i ≡ b
          → RecordedOnce before (if b then abandon_with_record i.number (Retransmissions (i.sent - 1)) x else record x { items = change_items k (nack indication fast) x.items; is_lossy = x.is_lossy || loses indication i }).items
          (if b then abandon_with_record i.number (Retransmissions (i.sent - 1)) x else record x { items = change_items k (nack indication fast) x.items; is_lossy = x.is_lossy || loses indication i }).emitted.given_up
      go true e =
          let stays : is_abandoned i ≡ false = flying_stays i.state (is_lost indication i) (first (loses indication i) (x.items.is_partial && is_used_up i) e) in
          emitted_given_up i.number (Retransmissions (i.sent - 1)) x (sym (emitted_at (before ++ x.emitted.given_up) k x.items.kept i h.exact there) ∙ stays) h
      go false e = emitted_items x.items (change_items k (nack indication fast) x.items) x.emitted.given_up (emitted_changed (before ++ x.emitted.given_up) (nack indication fast) (alike_nack indication fast) k x.items.kept h.exact) h

    emitted_nack_at : (k : ℕ) (x : Step (List ℕ)) → RecordedOnce before x.items x.emitted.given_up → RecordedOnce before (nack_at indication fast k x).items (nack_at indication fast k x).emitted.given_up
    emitted_nack_at k x h = go (slice_get x.items.kept k) refl where
      go : (o : Option Item) → slice_get x.items.kept k ≡ o
          → RecordedOnce before (unwrap_or (option_map (λ i. nack_item indication fast k i x) o) x).items (unwrap_or (option_map (λ i. nack_item indication fast k i x) o) x).emitted.given_up
      go None e = h
      go (Some i) e = emitted_nack_item k i x e h

    pub losses_emit_event_once : (n : ℕ) (x : Step (List ℕ)) → RecordedOnce before x.items x.emitted.given_up → RecordedOnce before (nack_below indication fast n x).items (nack_below indication fast n x).emitted.given_up
    losses_emit_event_once zero x h = h
    losses_emit_event_once (suc n) x h = emitted_nack_at n (nack_below indication fast n x) (losses_emit_event_once n x h)

  -- ---- lifetimes

  lacking_stays : (s : ItemState) (b : Bool) → (has_nack s && b) ≡ true → is_given_up s ≡ false
  lacking_stays InFlight b e = absurd (cc)
  lacking_stays Missing b e = refl
  lacking_stays Queued b e = refl
  lacking_stays QueuedFast b e = refl
  lacking_stays Acked b e = absurd (cc)
  lacking_stays Abandoned b e = absurd (cc)

  module _ (now : ℕ) where
    emitted_expired : (k : ℕ) (i : Item) (x : Step (List ℕ)) → slice_get x.items.kept k ≡ Some i → RecordedOnce before x.items x.emitted.given_up
        → RecordedOnce before (given_up_if (expired_of x.items.is_partial now i) x).items (given_up_if (expired_of x.items.is_partial now i) x).emitted.given_up
    emitted_expired k i x there h = go (x.items.is_partial && expires now i) refl where
      go : (b : Bool) → (x.items.is_partial && expires now i) ≡ b
          → RecordedOnce before (given_up_if (if b then Some i.number else None) x).items (given_up_if (if b then Some i.number else None) x).emitted.given_up
      go true e =
          let stays : is_abandoned i ≡ false = lacking_stays i.state (has_expired now i) (second x.items.is_partial (expires now i) e) in
          emitted_given_up i.number Lifetime x (sym (emitted_at (before ++ x.emitted.given_up) k x.items.kept i h.exact there) ∙ stays) h
      go false e = h

    emitted_expire_at : (k : ℕ) (x : Step (List ℕ)) → RecordedOnce before x.items x.emitted.given_up → RecordedOnce before (expire_at now k x).items (expire_at now k x).emitted.given_up
    emitted_expire_at k x h = go (slice_get x.items.kept k) refl where
      go : (o : Option Item) → slice_get x.items.kept k ≡ o
          → RecordedOnce before (given_up_if (option_bind (expired_of x.items.is_partial now) o) x).items (given_up_if (option_bind (expired_of x.items.is_partial now) o) x).emitted.given_up
      go None e = h
      go (Some i) e = emitted_expired k i x e h

    pub lifetimes_emit_event_once : (n : ℕ) (x : Step (List ℕ)) → RecordedOnce before x.items x.emitted.given_up → RecordedOnce before (expire_below now n x).items (expire_below now n x).emitted.given_up
    lifetimes_emit_event_once zero x h = h
    lifetimes_emit_event_once (suc n) x h = emitted_expire_at n (expire_below now n x) (lifetimes_emit_event_once n x h)

  -- ---- SACKs

  pub sacks_emit_event_once : (cumulative : ℕ) (blocks : List GapAckBlock) (once_a_flight is_in_fast_recovery : Bool) (s : Items) (emitted : Emitted (List ℕ)) → RecordedOnce before s emitted.given_up
      → RecordedOnce before (receive_sack cumulative blocks once_a_flight is_in_fast_recovery s emitted).items (receive_sack cumulative blocks once_a_flight is_in_fast_recovery s emitted).emitted.given_up
  sacks_emit_event_once cumulative blocks once_a_flight is_in_fast_recovery s emitted h =
      let left = staying cumulative s in
      let x : Step (List ℕ) = receive_sack_first cumulative blocks s emitted in
      let gs = before ++ emitted.given_up in
      let a : RecordedOnce before x.items x.emitted.given_up =
      record { once = h.once; exact = emitted_settled gs blocks 1 left.kept (emitted_behind gs (leaving cumulative s) s.kept h.exact) } in
      losses_emit_event_once (report_by once_a_flight cumulative blocks s) (not is_in_fast_recovery) (reported_below blocks left) x a

  -- ---- what is sent, again and for the first time

  module _ (records : List GivenUp) where
    emitted_again : (k : ℕ) (x : Resent) → RecordedOnce before x.outstanding.items records → RecordedOnce before (again_at k x).outstanding.items records
    emitted_again k x h = go (slice_get x.outstanding.items.kept k) where
      go : (o : Option Item) → RecordedOnce before (again_of k o x).outstanding.items records
      go None = h
      go (Some i) = emitted_items x.outstanding.items (change_items k mark_as_retransmitted x.outstanding.items) records (emitted_changed (before ++ records) mark_as_retransmitted alike_resent k x.outstanding.items.kept h.exact) h

    emitted_turn : (fast : Bool) (k : ℕ) (x : Resent) → RecordedOnce before x.outstanding.items records → RecordedOnce before (step_at fast k x).outstanding.items records
    emitted_turn fast k x h = go (turn_at fast k x) where
      go : (t : Turn) → RecordedOnce before (apply_turn t k x).outstanding.items records
      go Send = emitted_again k x h
      go PassOver = emitted_items x.outstanding.items (change_items k miss_fast x.outstanding.items) records (emitted_changed (before ++ records) miss_fast alike_slowed k x.outstanding.items.kept h.exact) h
      go Leave = h

    pub resending_emits_once : (fast : Bool) (n : ℕ) (x : Resent) → RecordedOnce before x.outstanding.items records → RecordedOnce before (resent_below fast n x).outstanding.items records
    resending_emits_once fast zero x h = h
    resending_emits_once fast (suc n) x h = emitted_turn fast n (resent_below fast n x) (resending_emits_once fast n x h)

    pub new_items_emit_event_once : (i : Item) (s : Items) → is_abandoned i ≡ false → is_recorded i.number (before ++ records) ≡ false → RecordedOnce before s records → RecordedOnce before (append_item i s) records
    new_items_emit_event_once i s stays new h = record { once = h.once; exact = emitted_before (before ++ records) s.kept (i ∷ []) h.exact (stays ∙ sym new, tt) }

    pub taking_emits_once : (g : GivenUp) (s : Items) → RecordedOnce before s (g ∷ records) → RecordedOnce (before ++ g ∷ []) s records
    taking_emits_once g s h =
        let joins : (before ++ (g ∷ records)) ≡ ((before ++ g ∷ []) ++ records) = sym (append_assoc before (g ∷ []) records) in
        record { once = subst (λ l. are_distinct l ≡ true) joins h.once; exact = subst (λ l. All l s.kept) joins h.exact }

pub new_is_emitted_once : (is_partial is_interleaved : Bool) → RecordedOnce [] (no_items is_partial is_interleaved) []
new_is_emitted_once is_partial is_interleaved = record { once = refl; exact = tt }

-- ---- what a record says

at_most : (a b : ℕ) → nat_le a b ≡ true → a ≤ b
at_most a b e = grind (arith, nat_tests)

pub counts_are_emitted : (indication : MissIndication) (fast : Bool) (k : ℕ) (i : Item) (x : Step (List ℕ)) → slice_get x.items.kept k ≡ Some i → RecordsRetransmissions indication fast k i x
counts_are_emitted indication fast k i x there =
    let here : (nack_at indication fast k x).emitted ≡ (nack_item indication fast k i x).emitted = ap (λ (o : Option Item). (unwrap_or (option_map (λ j. nack_item indication fast k j x) o) x).emitted) there in
    record {
      made = λ e. here ∙ ap (λ b. (if b then abandon_with_record i.number (Retransmissions (i.sent - 1)) x else record x { items = change_items k (nack indication fast) x.items; is_lossy = x.is_lossy || loses indication i }).emitted) e;
      used_up = λ e. at_most i.limit (i.sent - 1) (second x.items.is_partial (is_used_up i) (second (loses indication i) (x.items.is_partial && is_used_up i) e));
      else = λ e. here ∙ ap (λ b. (if b then abandon_with_record i.number (Retransmissions (i.sent - 1)) x else record x { items = change_items k (nack indication fast) x.items; is_lossy = x.is_lossy || loses indication i }).emitted) e;
    }

pub lifetimes_are_emitted : (now k : ℕ) (i : Item) (x : Step (List ℕ)) → slice_get x.items.kept k ≡ Some i → RecordsLifetime now k i x
lifetimes_are_emitted now k i x there =
    let here : (expire_at now k x).emitted ≡ (given_up_if (expired_of x.items.is_partial now i) x).emitted =
    ap (λ (o : Option Item). (given_up_if (option_bind (expired_of x.items.is_partial now) o) x).emitted) there in
    record {
      made = λ e. here ∙ ap (λ b. (given_up_if (if b then Some i.number else None) x).emitted) e;
      passed = λ e. second (is_nacked i) (has_expired now i) (second x.items.is_partial (expires now i) e);
      else = λ e. here ∙ ap (λ b. (given_up_if (if b then Some i.number else None) x).emitted) e;
    }
