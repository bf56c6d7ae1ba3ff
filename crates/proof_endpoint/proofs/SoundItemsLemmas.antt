-- What is kept stays fitting, and so does what is sent again and what a forward point says.
use Rattle.std.proofs.Common.{◌≡◌, ℕ, zero, suc, ◌+◌, ◌-◌, ◌^◌, ◌<◌, ◌||◌, not, Bool, true, false, cond, Option, Some, None, List, [], ◌∷◌, length, drop, refl, arith}
use Rattle.std.specs.Prelude.{unwrap_or, option_map, map, slice_get, nat_le, ◌&&◌}
use Rattle.sctp_serial.specs.declared.types.StreamKey.TheVariants.{Ordered, Unordered}
use Rattle.sctp_serial.specs.declared.api.StreamId.{StreamId}
use Rattle.sctp_serial.specs.Unwrapped.{u32_space, wire}
use Rattle.sctp_chunk.specs.declared.sack.GapAckBlock.{GapAckBlock}
use Rattle.sctp_packet.specs.Covered.{is_covered}
use Rattle.sctp_packet.specs.Chunk.{FragmentTree}
use Rattle.sctp_packet.specs.Written.{key_stream}
use Rattle.sctp_packet.specs.Grammar.{Each, FitsFragment, FitsSkip}
use Rattle.sctp_state.specs.declared.api.GivenUpCause.{GivenUpCause}
use Rattle.sctp_state.specs.declared.api.GivenUpCause.TheVariants.{Lifetime, Retransmissions}
use Rattle.sctp_state.specs.Events.{Emitted}
use Rattle.sctp_state.specs.Handover.{OutstandingData}
use Rattle.sctp_tx_outstanding.specs.declared.item.MissIndication.{MissIndication}
use Rattle.sctp_tx_outstanding.specs.declared.item.MissIndication.TheVariants.{Timeout}
use Rattle.sctp_tx_outstanding.specs.declared.skips.SkipEntry.{SkipEntry}
use Rattle.sctp_tx_outstanding.specs.Item as item
use Rattle.sctp_tx_outstanding.specs.Item.{Item, is_of, is_fast, should_be_retransmitted, mark_as_retransmitted, miss_fast}
use Rattle.sctp_tx_outstanding.specs.OutstandingData.{Items, Outstanding, change_at, abandon_if_of, without_payload, later_of, last_of}
use Rattle.sctp_tx_outstanding.specs.Losses.{placeholder, placeholders, end_with_placeholder, Step, abandon_with_record, change_items, is_to_be_abandoned, loses, nack_item, nack_below, nack_all, first_step, expired_at, given_up_if, expire_below, expire_outstanding}
use Rattle.sctp_tx_outstanding.specs.Sack.{report_by, leaving, staying, ack_or_uncover_all, ack_or_uncover, reported_below, receive_sack_first, receive_sack}
use Rattle.sctp_tx_outstanding.specs.Forward.{entry_of, is_before, is_alike, put_entry, with_entry, ForwardPoint, passes, pass_item, walk, forward_point}
use Rattle.sctp_tx_outstanding.specs.Entries.{ssn_skip, mid_skip}
use Rattle.sctp_tx_outstanding.specs.Resending.{Resent, size_in, allowance, again_of, again_at, passed_over, fast_turn, queued_turn, turn_of, apply_turn, resent_below, resend}
use Rattle.sctp_tx_outstanding.specs.Handover.{fragment_from, items_from}
use Rattle.proof_endpoint.specs.Sound.{FitsItem, FitsItems}
use Rattle.proof_endpoint.proofs.ReceivedLemmas.{each_append, each_push, each_drop}

-- ---- lists of items

abbrev AreKept : List Item → Type 0
AreKept is = Each FitsItem is

abbrev IsGot : Option Item → Type 0
IsGot None = Unit {0}
IsGot (Some i) = FitsItem i

got : (is : List Item) (k : ℕ) → AreKept is → IsGot (slice_get is k)
got [] k h = tt
got (i ∷ is) zero h = h.0
got (i ∷ is) (suc k) h = got is k h.1

module _ (f : Item → Item) (keeps : (i : Item) → FitsItem i → FitsItem (f i)) where
  change_fits : (k : ℕ) (is : List Item) → AreKept is → AreKept (change_at k f is)
  change_fits k [] h = tt
  change_fits zero (i ∷ is) h = (keeps i h.0, h.1)
  change_fits (suc k) (i ∷ is) h = (h.0, change_fits k is h.1)

  map_fits : (is : List Item) → AreKept is → AreKept (map f is)
  map_fits [] h = tt
  map_fits (i ∷ is) h = (keeps i h.0, map_fits is h.1)

-- ---- what is given up

abbrev IsFound : Option FragmentTree → Type 0
IsFound None = Unit {0}
IsFound (Some f) = FitsFragment f

bare_fits : (f : FragmentTree) → FitsFragment f → FitsFragment (without_payload f)
bare_fits f h = record { stream_id = h.stream_id; ssn = h.ssn; mid = h.mid; fsn = h.fsn; ppid = h.ppid }

later_fits : (number : ℕ) (found : Option FragmentTree) (is : List Item) → IsFound found → AreKept is → IsFound (later_of number found is)
later_fits number found [] f h = f
later_fits number found (i ∷ is) f h = later_fits number (cond (is_of number i) (Some (without_payload i.fragment)) found) is (go (is_of number i)) h.1
  where
    go : (b : Bool) → IsFound (cond b (Some (without_payload i.fragment)) found)
    go true = bare_fits i.fragment h.0
    go false = f

placeholders_fit : (number : ℕ) (o : Option FragmentTree) → IsFound o → AreKept (placeholders number o)
placeholders_fit number None h = tt
placeholders_fit number (Some f) h = go f.is_end
  where
    go : (b : Bool) → AreKept (cond b [] (placeholder number f ∷ []))
    go true = tt
    go false = (record { stream_id = h.stream_id; ssn = h.ssn; mid = h.mid; fsn = omega arith; ppid = h.ppid }, tt)

laid_fits : (number : ℕ) (i : Item) → FitsItem i → FitsItem (abandon_if_of number i)
laid_fits number i h = go (is_of number i)
  where
    go : (b : Bool) → FitsItem (cond b (item.abandon i) i)
    go true = record { stream_id = h.stream_id; ssn = h.ssn; mid = h.mid; fsn = h.fsn; ppid = h.ppid }
    go false = h

closed_fits : (number : ℕ) (s : Items) → FitsItems s → FitsItems (end_with_placeholder number s)
closed_fits number s h =
    each_append FitsItem s.kept (placeholders number (last_of number s.kept)) h (placeholders_fit number (last_of number s.kept) (later_fits number None s.kept tt h))

ack_or_uncover_fits : (b : Bool) (i : Item) → FitsItem i → FitsItem (ack_or_uncover b i)
ack_or_uncover_fits true i h = record { stream_id = h.stream_id; ssn = h.ssn; mid = h.mid; fsn = h.fsn; ppid = h.ppid }
ack_or_uncover_fits false i h = record { stream_id = h.stream_id; ssn = h.ssn; mid = h.mid; fsn = h.fsn; ppid = h.ppid }

settle_fits : (blocks : List GapAckBlock) (offset : ℕ) (is : List Item) → AreKept is → AreKept (ack_or_uncover_all blocks offset is)
settle_fits blocks offset [] h = tt
settle_fits blocks offset (i ∷ is) h = (ack_or_uncover_fits (is_covered blocks offset) i h.0, settle_fits blocks (suc offset) is h.1)

abbrev FitsStep : {P : Type 0} → Step P → Type 0
FitsStep x = FitsItems x.items

module _ {P : Type 0} where
  given_up_fits : (number : ℕ) (cause : GivenUpCause) (x : Step P) → FitsStep x → FitsStep (abandon_with_record number cause x)
  given_up_fits number cause x h = map_fits (abandon_if_of number) (laid_fits number) (end_with_placeholder number x.items).kept (closed_fits number x.items h)

  nack_item_fits : (indication : MissIndication) (fast : Bool) (k : ℕ) (i : Item) (x : Step P) → FitsStep x → FitsStep (nack_item indication fast k i x)
  nack_item_fits indication fast k i x h = go (is_to_be_abandoned x.items.is_partial indication i)
    where
      go : (b : Bool) → FitsStep (cond b (abandon_with_record i.number (Retransmissions (i.sent - 1)) x)
          (record x { items = change_items k (item.nack indication fast) x.items; is_lossy = x.is_lossy || loses indication i }))
      go true = given_up_fits i.number (Retransmissions (i.sent - 1)) x h
      go false = change_fits (item.nack indication fast) (λ j f. record { stream_id = f.stream_id; ssn = f.ssn; mid = f.mid; fsn = f.fsn; ppid = f.ppid }) k x.items.kept h

  nack_at_fits : (o : Option Item) (indication : MissIndication) (fast : Bool) (k : ℕ) (x : Step P) → FitsStep x → FitsStep (unwrap_or (option_map (λ i. nack_item indication fast k i x) o) x)
  nack_at_fits None indication fast k x h = h
  nack_at_fits (Some i) indication fast k x h = nack_item_fits indication fast k i x h

  nacks_fit : (indication : MissIndication) (fast : Bool) (n : ℕ) (x : Step P) → FitsStep x → FitsStep (nack_below indication fast n x)
  nacks_fit indication fast zero x h = h
  nacks_fit indication fast (suc n) x h =
      let y : Step P = nack_below indication fast n x in
      nack_at_fits (slice_get y.items.kept n) indication fast n y (nacks_fit indication fast n x h)

  pub nack_all_fits : (s : Items) (t : Emitted P) → FitsItems s → FitsItems (nack_all s t).items
  nack_all_fits s t h = nacks_fit Timeout false (length s.kept) (first_step s t) h

  given_up_if_fits : (o : Option ℕ) (x : Step P) → FitsStep x → FitsStep (given_up_if o x)
  given_up_if_fits None x h = h
  given_up_if_fits (Some number) x h = given_up_fits number Lifetime x h

  expire_fits : (now n : ℕ) (x : Step P) → FitsStep x → FitsStep (expire_below now n x)
  expire_fits now zero x h = h
  expire_fits now (suc n) x h =
      let y : Step P = expire_below now n x in
      given_up_if_fits (expired_at now n y.items) y (expire_fits now n x h)

  pub expired_fits : (now : ℕ) (s : Items) (t : Emitted P) → FitsItems s → FitsItems (expire_outstanding now s t).items
  expired_fits now s t h = expire_fits now (length s.kept) (first_step s t) h

  pub receive_fits : (n : ℕ) (blocks : List GapAckBlock) (once fast : Bool) (s : Items) (t : Emitted P) → FitsItems s → FitsItems (receive_sack n blocks once fast s t).items
  receive_fits n blocks once fast s t h =
      nacks_fit (report_by once n blocks s) (not fast) (reported_below blocks (staying n s)) (receive_sack_first n blocks s t)
      (settle_fits blocks 1 (drop (leaving n s) s.kept) (each_drop FitsItem (leaving n s) s.kept h))

-- ---- what is sent again

abbrev pub FitsSent : ℕ × FragmentTree → Type 0
FitsSent c = (c.0 < 2 ^ 32) × FitsFragment c.1

pub word_small : (first n : ℕ) → wire u32_space first n < 2 ^ 32
word_small first n = omega arith

pub record FitsResent (x : Resent) : Type 0 where
  pub items : FitsItems x.outstanding.items
  pub chunks : Each FitsSent x.chunks

again_fits : (k : ℕ) (o : Option Item) (x : Resent) → IsGot o → FitsResent x → FitsResent (again_of k o x)
again_fits k None x f h = h
again_fits k (Some i) x f h = record {
  items = change_fits mark_as_retransmitted (λ j g. record { stream_id = g.stream_id; ssn = g.ssn; mid = g.mid; fsn = g.fsn; ppid = g.ppid }) k x.outstanding.items.kept h.items;
  chunks = each_push FitsSent x.chunks _ h.chunks (word_small x.outstanding.first (x.outstanding.items.acked + 1 + k), f);
}

again_at_fits : (k : ℕ) (x : Resent) → FitsResent x → FitsResent (again_at k x)
again_at_fits k x h = again_fits k (slice_get x.outstanding.items.kept k) x (got x.outstanding.items.kept k h.items) h

passed_over_fits : (k : ℕ) (x : Resent) → FitsResent x → FitsResent (passed_over k x)
passed_over_fits k x h = record {
  items = change_fits miss_fast (λ j g. record { stream_id = g.stream_id; ssn = g.ssn; mid = g.mid; fsn = g.fsn; ppid = g.ppid }) k x.outstanding.items.kept h.items;
  chunks = h.chunks;
}

fast_fits : (a b : Bool) (i : Item) (k : ℕ) (x : Resent) → is_fast i ≡ a → nat_le (size_in x i) x.room ≡ b → FitsResent x → FitsResent (apply_turn (fast_turn i x) k x)
fast_fits true true i k x e f h = rw (e, f) (again_at_fits k x h)
fast_fits true false i k x e f h = rw (e, f) (passed_over_fits k x h)
fast_fits false b i k x e f h = rw e h

queued_fits : (b : Bool) (i : Item) (k : ℕ) (x : Resent) → (should_be_retransmitted i && nat_le (size_in x i) (allowance x)) ≡ b → FitsResent x
    → FitsResent (apply_turn (queued_turn i x) k x)
queued_fits true i k x e h = rw e (again_at_fits k x h)
queued_fits false i k x e h = rw e h

turn_fits : (fast : Bool) (o : Option Item) (k : ℕ) (x : Resent) → FitsResent x → FitsResent (apply_turn (turn_of fast o x) k x)
turn_fits fast None k x h = h
turn_fits true (Some i) k x h = fast_fits (is_fast i) (nat_le (size_in x i) x.room) i k x refl refl h
turn_fits false (Some i) k x h = queued_fits (should_be_retransmitted i && nat_le (size_in x i) (allowance x)) i k x refl h

resents_fit : (fast : Bool) (n : ℕ) (x : Resent) → FitsResent x → FitsResent (resent_below fast n x)
resents_fit fast zero x h = h
resents_fit fast (suc n) x h =
    let y : Resent = resent_below fast n x in
    turn_fits fast (slice_get y.outstanding.items.kept n) n y (resents_fit fast n x h)

pub resend_fits : (fast : Bool) (room window : ℕ) (d : Outstanding) → FitsItems d.items → FitsResent (resend fast room window d)
resend_fits fast room window d h = resents_fit fast (length d.items.kept) _ (record { items = h; chunks = tt })

-- ---- forward points

pub record FitsEntry (e : SkipEntry) : Type 0 where
  pub stream_id : e.stream_id.0 < 2 ^ 16
  pub number : e.number < 2 ^ 32

abbrev IsEntry : Option SkipEntry → Type 0
IsEntry None = Unit {0}
IsEntry (Some e) = FitsEntry e

entry_fits : (m : Bool) (i : Item) → FitsItem i → IsEntry (entry_of m i)
entry_fits m i h = go (m || not i.fragment.is_unordered) m
  where
    number : (b : Bool) → cond b i.fragment.mid i.fragment.ssn < 2 ^ 32
    number true = h.mid
    number false = omega (arith, h.ssn)

    go : (b d : Bool) → IsEntry (cond b (Some (record { stream_id = record { 0 = i.fragment.stream_id }; is_unordered = i.fragment.is_unordered; number = cond d i.fragment.mid i.fragment.ssn })) None)
    go true d = record { stream_id = h.stream_id; number = number d }
    go false d = tt

named_fits : (e : SkipEntry) (es : List SkipEntry) → FitsEntry e → Each FitsEntry es → Each FitsEntry (put_entry e es)
named_fits e [] f h = (f, tt)
named_fits e (d ∷ ds) f h = go (is_before d e) (is_alike e d) (named_fits e ds f h.1)
  where
    go : (a b : Bool) → Each FitsEntry (put_entry e ds) → Each FitsEntry (cond a (d ∷ put_entry e ds) (cond b (e ∷ ds) (e ∷ d ∷ ds)))
    go true b rest = (h.0, rest)
    go false true rest = (f, h.1)
    go false false rest = (f, h)

with_fits : (o : Option SkipEntry) (es : List SkipEntry) → IsEntry o → Each FitsEntry es → Each FitsEntry (with_entry o es)
with_fits None es f h = h
with_fits (Some e) es f h = named_fits e es f h

walk_fits : (most : ℕ) (s : Items) (f : ForwardPoint) (is : List Item) → Each FitsEntry f.entries → AreKept is → Each FitsEntry (walk most s f is).entries
walk_fits most s f [] e h = e
walk_fits most s f (i ∷ is) e h =
    go (passes most s f i) (walk_fits most s (pass_item s f i) is (with_fits (entry_of s.is_interleaved i) f.entries (entry_fits s.is_interleaved i h.0) e) h.1)
  where
    go : (b : Bool) → Each FitsEntry (walk most s (pass_item s f i) is).entries → Each FitsEntry (cond b (walk most s (pass_item s f i) is) f).entries
    go true on = on
    go false on = e

pub point_fits : (most : ℕ) (s : Items) → FitsItems s → Each FitsEntry (forward_point most s).entries
point_fits most s h = walk_fits most s _ s.kept tt h

pub ssn_skips_fit : (es : List SkipEntry) → Each FitsEntry es → Each FitsSkip (map ssn_skip es)
ssn_skips_fit [] h = tt
ssn_skips_fit (e ∷ es) h = ((h.0.stream_id, omega arith), ssn_skips_fit es h.1)

key_fits : (b : Bool) (id : StreamId) → id.0 < 2 ^ 16 → key_stream (cond b (Unordered id) (Ordered id)) < 2 ^ 16
key_fits true id h = h
key_fits false id h = h

pub mid_skips_fit : (es : List SkipEntry) → Each FitsEntry es → Each FitsSkip (map mid_skip es)
mid_skips_fit [] h = tt
mid_skips_fit (e ∷ es) h = ((key_fits e.is_unordered e.stream_id h.0.stream_id, h.0.number), mid_skips_fit es h.1)

-- ---- taken up

pub items_from_fit : (now : ℕ) (ds : List OutstandingData) → Each (λ (d : OutstandingData). FitsFragment (fragment_from d)) ds → AreKept (items_from now ds)
items_from_fit now [] h = tt
items_from_fit now (d ∷ ds) h = (h.0, items_from_fit now ds h.1)
