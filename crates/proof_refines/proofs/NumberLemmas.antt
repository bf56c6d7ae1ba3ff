-- A fragment of the first message of a stream takes its TSN.
use Rattle.std.proofs.Common.{◌≡◌, ◌≢◌, ℕ, suc, ◌+◌, ◌-◌, ◌%◌, ◌^◌, ◌<◌, Bool, true, false, cond, Option, Some, None, List, [], ◌∷◌, ◌++◌, length, take, drop, refl, sym, ap, ◌∙◌, subst, arith, length-append, length-drop}
use Rattle.std.specs.Prelude.{◌==◌, ◌&&◌, nat_le, nat_lt}
use Rattle.std.proofs.lemmas.Bool.Decides.{nat_tests}
use Rattle.std.proofs.lemmas.List.{get_or_push, get_or_append_left, drop-drop, length-take}
use Rattle.std.proofs.lemmas.Bool.{false≢true, ltb-true}
use Rattle.sctp_serial.specs.Unwrapped.{u32_space, halves, wire}
use Rattle.sctp_tx_queue.specs.declared.send_queue.message.MessageNumbers.{MessageNumbers}
use Rattle.sctp_tx_queue.specs.SendQueue.{Queued}
use Rattle.sctp_tx_queue.specs.Produced.{move_past, ends, made_of, piece}
use Rattle.sctp_tx_outstanding.specs.OutstandingData.{Items}
use Rattle.sctp_tx.specs.Sending.{item_of}
use Rattle.proof_protocol.specs.State.{Message, Fragment, Sender, place_of, count, put, parts, blank, is_empty, stream_of}
use Rattle.proof_protocol.specs.Rules.{numbers, part}
use Rattle.proof_protocol.specs.Sending as sending
use Rattle.proof_protocol.specs.Sending.{Waiting}
use Rattle.proof_protocol.proofs.ToolsLemmas.{put_at, not_both}
use Rattle.proof_protocol.proofs.IndexedLemmas.{parts_push, parts_off}
use Rattle.proof_protocol.proofs.CommonLemmas.{none_some}
use Rattle.proof_refines.specs.SenderRefinement.{find, queue_of, numbers_at, tree_of, StandsFor, IsEntry, AreKept, AreQueued, AreDiscards}
use Rattle.proof_refines.proofs.FoundLemmas.{one_value, found_at, found_off}
use Rattle.proof_refines.proofs.QueuedLemmas.{Frame, queue_some, queue_lacks, change, change_discards}
use Rattle.proof_refines.proofs.ItemsLemmas.{Stays, kept_push}
use Rattle.proof_refines.proofs.FreshLemmas.{put_elsewhere, first_entry, first_there}
use Rattle.sctp_serial.proofs.NumberLemmas.{not_zero}

empty_length : (xs : List ℕ) → is_empty xs ≡ (length xs == 0)
empty_length [] = refl
empty_length (x ∷ xs) = grind (arith, nat_tests)

-- nothing is left where the fragment has the rest
pub ends_is : (offset size : ℕ) (payload : List ℕ) → is_empty (drop size (drop offset payload)) ≡ nat_le (length payload - offset) size
ends_is offset size payload =
    empty_length (drop size (drop offset payload))
    ∙ tests (length (drop size (drop offset payload))) (length payload - offset) (length-drop size (drop offset payload) ∙ ap (λ z. z - size) (length-drop offset payload))
  where
    tests : (n a : ℕ) → n ≡ a - size → (n == 0) ≡ nat_le a size
    tests n a e = grind (arith, nat_tests, e)

mod_next : (a : ℕ) → (a % 2 ^ 32 + 1) % 2 ^ 32 ≡ suc a % 2 ^ 32
mod_next a = omega arith

-- where something is left, the fragment has bytes
pub some_bytes : (offset size : ℕ) (payload : List ℕ) → 0 < size → nat_lt offset (length payload) ≡ true → is_empty (take size (drop offset payload)) ≡ false
some_bytes offset size payload some rest =
    let l = ltb-true offset (length payload) rest in
    empty_length (take size (drop offset payload))
    ∙ not_zero (length (take size (drop offset payload))) (omega (arith, length-take size (drop offset payload), length-drop offset payload, some, l))

module _ (message : ℕ → Message) (lifecycle : ℕ → Option ℕ) (o : Sender) (ms : ℕ → List Queued) (a : AreQueued message lifecycle o ms)
    (id : ℕ) (m : Queued) (rest : List Queued) (h : ms id ≡ m ∷ rest) (none : find m.number rest ≡ None) (live : o.given_up m.number ≡ false) (size : ℕ) (some : 0 < size)
    (begun partly : ℕ → Bool) (number written : ℕ → ℕ) (counts following : Bool → ℕ → ℕ)
    (number_off : (r : ℕ) → r ≢ m.number → written r ≡ o.written r) (number_begun : (t : ℕ) → t < count o → written (place_of o t) ≡ o.written (place_of o t))
    (n : MessageNumbers) where
  abbrev p : ℕ
  p = m.number

  abbrev bytes : List ℕ
  bytes = take size (drop m.offset m.payload)

  abbrev more : List ℕ
  more = drop size (drop m.offset m.payload)

  -- the sender before its fragment is numbered, and after
  abbrev pub o1 : Sender
  o1 = record o { begun = begun; partly = partly; number = number; counts = counts; written = written; following = following }

  abbrev pub o' : Sender
  o' = numbers o1 (part o1 p bytes more)

  abbrev pub left_of : Option Waiting
  left_of = cond (is_empty more) None (Some (record { begun = true; rest = more }))

  abbrev front : List Queued
  front = cond (ends size m) rest (move_past size n m ∷ rest)

  ends_so : is_empty more ≡ ends size m
  ends_so = ends_is m.offset size m.payload

  pub record Numbered (now : ℕ) (acknowledged : ℕ) (s : Items) : Type 0 where
    pub queued : AreQueued message lifecycle o' (put ms id front)
    pub items : AreKept message lifecycle o' acknowledged (s.kept ++ item_of now (made_of id size n m) ∷ [])
    pub discards_are : AreDiscards o' (put ms id front) s.discards

  module _ (named : n ≡ numbers_at message o1 p) (queue : sending.Queued message o' (put (queue_of message o ms) p left_of)) where
    entry : IsEntry message lifecycle o id p m
    entry = first_entry message lifecycle o ms a id m rest h

    more_parts : parts p o'.numbered ≡ suc (parts p o.numbered)
    more_parts = parts_push p o.numbered (part o1 p bytes more) refl

    frame : (r : ℕ) → r ≢ p → Frame o o' r
    frame r d = record { number = number_off r d; given_up = refl; parts_are = parts_off r o.numbered (part o1 p bytes more) (λ e. d (sym e)) }

    front_off : (b : Bool) (r : ℕ) → r ≢ p → find r (cond b rest (move_past size n m ∷ rest)) ≡ find r rest
    front_off true r d = refl
    front_off false r d = found_off r (move_past size n m) rest (λ e. d (sym e))

    elsewhere : (k r : ℕ) → r ≢ p → find r (put ms id front k) ≡ find r (ms k)
    elsewhere k r d = put_elsewhere ms id m rest front h (front_off (ends size m)) k r d

    -- what is left of the message
    moved_entry : IsEntry message lifecycle o' id p (move_past size n m)
    moved_entry = record {
      accepted = entry.accepted;
      on_stream = entry.on_stream;
      kind = entry.kind;
      protocol_id = entry.protocol_id;
      payload = entry.payload;
      lifecycle_id = entry.lifecycle_id;
      numbers = λ g q e. sym (one_value (Some n) n q refl e) ∙ named;
      index = λ g. ap (λ z. (z + 1) % 2 ^ 32) (entry.index live) ∙ (mod_next (parts p o.numbered) ∙ ap (λ z. z % 2 ^ 32) (sym more_parts));
      begins = λ g. not_zero (m.offset + size) (omega (arith, some)) ∙ sym (ap (λ z. z == 0) more_parts ∙ not_zero (suc (parts p o.numbered)) (omega arith));
      partly_sent = λ g. refl;
    }

    here : (k : ℕ) (q : Queued) → find p (put ms id front k) ≡ Some q → IsEntry message lifecycle o' k p q
    here k q f = go (ends size m) (sym (ap (find p) (put_at ms id front k on)) ∙ f)
      where
        on : k ≡ id
        on = first_there message lifecycle o ms a id m rest h front k q f

        go : (b : Bool) → find p (cond b rest (move_past size n m ∷ rest)) ≡ Some q → IsEntry message lifecycle o' k p q
        go true g = absurd (none_some (find p rest) q g none)
        go false g =
            let same : move_past size n m ≡ q = one_value (find p (move_past size n m ∷ rest)) (move_past size n m) q (found_at p (move_past size n m) rest refl) g in
            subst (λ z. IsEntry message lifecycle o' z p q) (sym on) (subst (λ (z : Queued). IsEntry message lifecycle o' id p z) same moved_entry)

    left_is : queue_of message o' (put ms id front) p ≡ left_of
    left_is = go (ends size m) refl
      where
        own : put ms id front (stream_of message p) ≡ front
        own = put_at ms id front (stream_of message p) entry.on_stream

        waiting : Bool → Option Waiting
        waiting b = cond b None (Some (record { begun = true; rest = more }))

        go : (b : Bool) → ends size m ≡ b → queue_of message o' (put ms id front) p ≡ left_of
        go true e =
            let f : find p (put ms id front (stream_of message p)) ≡ None = ap (find p) own ∙ (ap (λ b. find p (cond b rest (move_past size n m ∷ rest))) e ∙ none) in
            queue_lacks message o' (put ms id front) p f ∙ sym (ap waiting (ends_so ∙ e))
        go false e =
            let f : find p (put ms id front (stream_of message p)) ≡ Some (move_past size n m) =
            ap (find p) own ∙ (ap (λ b. find p (cond b rest (move_past size n m ∷ rest))) e ∙ found_at p (move_past size n m) rest refl) in
            queue_some message o' (put ms id front) p (move_past size n m) live f
            ∙ (ap (λ (z : List ℕ). let w : Waiting = record { begun = true; rest = z } in Some w) (sym (drop-drop size m.offset m.payload)) ∙ sym (ap waiting (ends_so ∙ e)))

    count_up : count o' ≡ suc (count o)
    count_up = let l = length-append o.numbered (part o1 p bytes more ∷ []) in omega (arith, l)

    stays : Stays message lifecycle o o'
    stays = record { same = λ t l. get_or_append_left o.numbered (part o1 p bytes more ∷ []) blank t l; number = number_begun; given_up = λ t l. refl }

    tree_is : piece id size n m ≡ tree_of message o' (part o1 p bytes more)
    tree_is = λ i. record {
      stream_id = sym entry.on_stream i;
      is_unordered = entry.kind i;
      ssn = wire halves 0 (named i).ssn;
      mid = wire u32_space 0 (named i).mid;
      fsn = entry.index live i;
      ppid = entry.protocol_id i;
      payload = bytes;
      is_beginning = entry.begins live i;
      is_end = sym ends_so i;
    }

    stands : (now : ℕ) → StandsFor message lifecycle o' (part o1 p bytes more) (item_of now (made_of id size n m))
    stands now = record {
      place = refl;
      carried = tree_is;
      lifecycle_id = with_end (ends size m) (is_empty more) (sym ends_so);
      given_up = sym live;
      placeholder = λ e. absurd (false≢true e);
    }
      where
        with_end : (b c : Bool) → b ≡ c → cond b m.lifecycle None ≡ cond (c && true) (lifecycle p) None
        with_end true true e = entry.lifecycle_id
        with_end false false e = refl
        with_end true false e = absurd (cc)
        with_end false true e = absurd (cc)

    pub numbered : (now acknowledged : ℕ) (s : Items) → AreKept message lifecycle o acknowledged s.kept → AreDiscards o ms s.discards → Numbered now acknowledged s
    numbered now acknowledged s kept discards = record {
      queued = change message lifecycle o o' ms (put ms id front) p elsewhere frame (omega arith) here left_of left_is queue a;
      items =
          kept_push message lifecycle o o' stays count_up (item_of now (made_of id size n m))
          (subst (λ (z : Fragment). StandsFor message lifecycle o' z (item_of now (made_of id size n m))) (sym (get_or_push o.numbered (part o1 p bytes more) blank (count o) refl)) (stands now))
          acknowledged s.kept kept;
      discards_are = change_discards message lifecycle o o' ms (put ms id front) p elsewhere frame s.discards discards (λ k q f g. absurd (not_both g live)) (λ r g. g);
    }
