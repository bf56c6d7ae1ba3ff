-- Which records are valid, found by halves and in one walk.
use Rattle.std.proofs.Common.{◌≡◌, ℕ, zero, suc, ◌+◌, ◌<◌, ◌≤◌, ◌==◌, ◌&&◌, ◌||◌, not, Bool, true, false, cond, List, [], ◌∷◌, length, drop, map, get_or, refl, ap, sym, subst, ◌∙◌, Result, Ok, Err, Less, Equal, Greater, arith, inl, inr}
use Rattle.std.specs.Prelude.{nat_le}
use Rattle.std.specs.Result.{is_ok}
use Rattle.std.specs.List.{list_all, list_any}
use Rattle.std.specs.List.Sorted.{IsBinarySearchResult, IsSearchInRange}
use Rattle.std.specs.Ordering.{nat_cmp, is_lt}
use Rattle.std.specs.BTreeMap.{is_at}
use Rattle.std.specs.BTreeSet.{BTreeSet, IsEmpty, Updates, contains}
use Rattle.std.specs.Cmp.{second_so}
use Rattle.std.proofs.lemmas.Bool.{cases_lt}
use Rattle.std.proofs.lemmas.Bool.Decides.{nat_tests}
use Rattle.std.proofs.lemmas.Cmp.{nat_cmp_total}
use Rattle.std.proofs.lemmas.List.{drop_more}
use Rattle.std.proofs.lemmas.List.Elements.{All-from_all_within}
use Rattle.std.proofs.lemmas.List.Folds.{list_any_at, list_any_none}
use Rattle.std.proofs.lemmas.List.Sorted.{searchable_from_sorted}
use Rattle.sctp_serial.proofs.NumberLemmas.{at_equal}
use Rattle.sctp_state.specs.Handover.{StreamMessage, stream_message_of}
use Rattle.sctp_state.specs.Validity.{rises_from, outgoing_ids, has_stream, has_message_id, message_ids_differ, is_partly_sent, has_partly_sent, first_alone_is_partly_sent}
use Rattle.sctp_state.specs.declared.api.handover.HandoverOutgoingStream.{HandoverOutgoingStream}
use Rattle.sctp_state.specs.declared.api.handover.HandoverStreamMessage.{HandoverStreamMessage}

-- ---- a stream among those that rise

abbrev id_of : HandoverOutgoingStream → ℕ
id_of s = s.id

abbrev no_stream : HandoverOutgoingStream
no_stream = record { id = 0; next_ssn = 0; next_unordered_mid = 0; next_ordered_mid = 0; priority = 0 }

not_below : (id next : ℕ) (more : Bool) → (nat_le (id + 1) next && more) ≡ true → is_lt (nat_cmp next id) ≡ false
not_below id next true e = grind (arith, nat_tests)
not_below id next false e = grind (arith, nat_tests)

is_met : (a b : ℕ) → nat_cmp a b ≡ Equal → (a == b) ≡ true
is_met a b e = grind (arith, nat_tests)

is_less : (a b : ℕ) → nat_cmp a b ≡ Less → (a == b) ≡ false
is_less a b e = grind (arith, nat_tests)

is_greater : (a b : ℕ) → nat_cmp a b ≡ Greater → (a == b) ≡ false
is_greater a b e = grind (arith, nat_tests)

neighbours_rise : (least : ℕ) (ss : List HandoverOutgoingStream) → rises_from least (outgoing_ids ss) ≡ true → (k : ℕ) (d : HandoverOutgoingStream) → k + 1 < length ss
    → is_lt (nat_cmp (get_or ss (suc k) d).id (get_or ss k d).id) ≡ false
neighbours_rise least [] rises k d l = absurd (omega (arith, l))
neighbours_rise least (s ∷ []) rises k d l = absurd (omega (arith, l))
neighbours_rise least (s ∷ (t ∷ ss)) rises zero d l = not_below s.id t.id _ (second_so (nat_le least s.id) _ rises)
neighbours_rise least (s ∷ (t ∷ ss)) rises (suc k) d l = neighbours_rise (s.id + 1) (t ∷ ss) (second_so (nat_le least s.id) _ rises) k d (omega (arith, l))

next_is : (k : ℕ) → suc k ≡ k + 1
next_is k = omega arith

pub found : (ss : List HandoverOutgoingStream) (id : ℕ) (r : Result ℕ ℕ) → IsSearchInRange r (length ss) → IsBinarySearchResult (λ (s : HandoverOutgoingStream). nat_cmp s.id id) ss r → rises_from 0 (outgoing_ids ss) ≡ true
    → is_ok r ≡ has_stream ss id
found ss id (Ok i) bound at rises = sym (list_any_at (λ (s : HandoverOutgoingStream). s.id == id) ss i no_stream bound (is_met (get_or ss i no_stream).id id (at no_stream)))
found ss id (Err i) bound split rises =
    let sides = split (searchable_from_sorted nat_cmp_total id_of ss id (λ k d low high. subst (λ (n : ℕ). is_lt (nat_cmp (get_or ss n d).id (get_or ss k d).id) ≡ false) (next_is k) (neighbours_rise 0 ss rises k d high))) in
    sym (list_any_none (λ (s : HandoverOutgoingStream). s.id == id) ss (All-from_all_within (λ (s : HandoverOutgoingStream). (s.id == id) ≡ false) ss
    (λ k d low high. elim (cases_lt k i) [
      | inl below ↦ is_less (get_or ss k d).id id (sides.0 k d low below)
      | inr above ↦ is_greater (get_or ss k d).id id (sides.1 k d above high)
    ])))

-- ---- a walk that notes what it met

module _ (key : StreamMessage → ℕ) (counts : StreamMessage → Bool) where
  -- of the messages that count none has a key that was met
  abbrev pub are_unmet : BTreeSet ℕ → List StreamMessage → Bool
  are_unmet met ms = list_all (λ (m : StreamMessage). not (counts m && contains nat_cmp met (key m))) ms

  unmet : (b : Bool) → not (b && false) ≡ true
  unmet true = refl
  unmet false = refl

  pub none_met : (met : BTreeSet ℕ) (ms : List StreamMessage) → IsEmpty met → are_unmet met ms ≡ true
  none_met met [] none = refl
  none_met met (m ∷ ms) none =
      ap (λ keys. not (counts m && list_any (is_at (nat_cmp (key m))) keys) && are_unmet met ms) none
      ∙ (ap (λ b. b && are_unmet met ms) (unmet (counts m)) ∙ none_met met ms none)

  one_more : (b a p A B : Bool) → (not (p && cond b true a) && (A && not B)) ≡ ((not (p && a) && A) && not ((p && b) || B))
  one_more true true true A B = refl
  one_more true true false true B = refl
  one_more true true false false B = refl
  one_more true false true true B = refl
  one_more true false true false B = refl
  one_more true false false true B = refl
  one_more true false false false B = refl
  one_more false true true A B = refl
  one_more false true false true B = refl
  one_more false true false false B = refl
  one_more false false true A B = refl
  one_more false false false A B = refl

  pub met_one : (is_later : ℕ → StreamMessage → Bool) → ((k : ℕ) (m : StreamMessage) → is_later k m ≡ (counts m && (k == key m))) → (met new : BTreeSet ℕ) (k : ℕ) (ms : List StreamMessage) → Updates nat_cmp met new k true
      → are_unmet new ms ≡ (are_unmet met ms && not (list_any (is_later k) ms))
  met_one is_later is met new k [] put = refl
  met_one is_later is met new k (m ∷ ms) put =
      ap (λ b. not (counts m && b) && are_unmet new ms) (put.0 (key m) ∙ ap (λ b. cond b true (contains nat_cmp met (key m))) (at_equal k (key m)))
      ∙ (ap (λ b. not (counts m && cond (k == key m) true (contains nat_cmp met (key m))) && b) (met_one is_later is met new k ms put)
      ∙ (one_more (k == key m) (contains nat_cmp met (key m)) (counts m) (are_unmet met ms) (list_any (is_later k) ms)
      ∙ ap (λ b. (not (counts m && contains nat_cmp met (key m)) && are_unmet met ms) && not (b || list_any (is_later k) ms)) (sym (is k m))))

turned : (k n : ℕ) → (n == k) ≡ (k == n)
turned k n = grind (arith, nat_tests)

swapped : (a b : Bool) → (a && b) ≡ (b && a)
swapped true true = refl
swapped true false = refl
swapped false true = refl
swapped false false = refl

grouped : (a b c : Bool) → ((a && b) && c) ≡ (a && (b && c))
grouped true b c = refl
grouped false b c = refl

begins_with : (messages : List HandoverStreamMessage) (i : ℕ) (m : HandoverStreamMessage) → i < length messages → m ≡ get_or messages i m → (m ∷ drop (i + 1) messages) ≡ drop i messages
begins_with messages i m l at = ap (λ (n : HandoverStreamMessage). n ∷ drop (i + 1) messages) at ∙ sym (drop_more messages i m l)

-- ---- ids

abbrev pub message_id : StreamMessage → ℕ
message_id m = m.message_id

abbrev pub always : StreamMessage → Bool
always m = true

-- the messages that are left have ids that differ from those that were met, and from one another
abbrev pub ids_differ_on : BTreeSet ℕ → List StreamMessage → Bool
ids_differ_on met ms = are_unmet message_id always met ms && message_ids_differ ms

id_is_new : (met new : BTreeSet ℕ) (m : StreamMessage) (ms : List StreamMessage) → contains nat_cmp met m.message_id ≡ false → Updates nat_cmp met new m.message_id true → ids_differ_on new ms ≡ ids_differ_on met (m ∷ ms)
id_is_new met new m ms is_new put =
    ap (λ b. b && message_ids_differ ms) (met_one message_id always (λ k n. n.message_id == k) (λ k n. turned k n.message_id) met new m.message_id ms put)
    ∙ (grouped (are_unmet message_id always met ms) (not (has_message_id m.message_id ms)) (message_ids_differ ms)
    ∙ ap (λ b. (not b && are_unmet message_id always met ms) && (not (has_message_id m.message_id ms) && message_ids_differ ms)) (sym is_new))

pub next_id : (messages : List HandoverStreamMessage) (i : ℕ) (m : HandoverStreamMessage) (met new : BTreeSet ℕ) (whole : Bool) → i < length messages → m ≡ get_or messages i m → contains nat_cmp met m.message_id ≡ false → Updates nat_cmp met new m.message_id true
    → ids_differ_on met (map stream_message_of (drop i messages)) ≡ whole → ids_differ_on new (map stream_message_of (drop (i + 1) messages)) ≡ whole
next_id messages i m met new whole l at is_new put held =
    id_is_new met new (stream_message_of m) (map stream_message_of (drop (i + 1) messages)) is_new put
    ∙ (ap (λ left. ids_differ_on met (map stream_message_of left)) (begins_with messages i m l at) ∙ held)

-- ---- streams

abbrev pub stream_id : StreamMessage → ℕ
stream_id m = m.stream_id

-- of the messages that are left none is partly sent behind one that was met, or one another
abbrev pub none_is_partly_sent_on : BTreeSet ℕ → List StreamMessage → Bool
none_is_partly_sent_on met ms = are_unmet stream_id is_partly_sent met ms && first_alone_is_partly_sent ms

is_first : (met new : BTreeSet ℕ) (m : StreamMessage) (ms : List StreamMessage) → (is_partly_sent m && contains nat_cmp met m.stream_id) ≡ false → Updates nat_cmp met new m.stream_id true
    → none_is_partly_sent_on new ms ≡ none_is_partly_sent_on met (m ∷ ms)
is_first met new m ms first put =
    ap (λ b. b && first_alone_is_partly_sent ms)
    (met_one stream_id is_partly_sent (λ k n. (n.stream_id == k) && is_partly_sent n) (λ k n. swapped (n.stream_id == k) (is_partly_sent n) ∙ ap (λ b. is_partly_sent n && b) (turned k n.stream_id)) met new m.stream_id ms put)
    ∙ (grouped (are_unmet stream_id is_partly_sent met ms) (not (has_partly_sent m.stream_id ms)) (first_alone_is_partly_sent ms)
    ∙ ap (λ b. (not b && are_unmet stream_id is_partly_sent met ms) && (not (has_partly_sent m.stream_id ms) && first_alone_is_partly_sent ms)) (sym first))

pub first_by_set : (begun met : Bool) → met ≡ false → (begun && met) ≡ false
first_by_set true met e = e
first_by_set false met e = refl

pub first_by_offset : (m : StreamMessage) (met : Bool) → m.remaining_offset ≤ 0 → (is_partly_sent m && met) ≡ false
first_by_offset m true l = grind (arith, nat_tests)
first_by_offset m false l = grind (arith, nat_tests)

pub next_stream : (messages : List HandoverStreamMessage) (i : ℕ) (m : HandoverStreamMessage) (met new : BTreeSet ℕ) (whole : Bool) → i < length messages → m ≡ get_or messages i m
    → (is_partly_sent (stream_message_of m) && contains nat_cmp met m.stream_id) ≡ false → Updates nat_cmp met new m.stream_id true
    → none_is_partly_sent_on met (map stream_message_of (drop i messages)) ≡ whole → none_is_partly_sent_on new (map stream_message_of (drop (i + 1) messages)) ≡ whole
next_stream messages i m met new whole l at first put held =
    is_first met new (stream_message_of m) (map stream_message_of (drop (i + 1) messages)) first put
    ∙ (ap (λ left. none_is_partly_sent_on met (map stream_message_of left)) (begins_with messages i m l at) ∙ held)
