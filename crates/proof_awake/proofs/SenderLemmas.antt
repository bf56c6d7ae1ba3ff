-- Where an item is kept T3-rtx runs: what each operation of a sender leaves.
use Rattle.std.proofs.Common.{◌≡◌, ℕ, zero, suc, ◌+◌, ◌≤◌, inl, inr, Bool, true, false, cond, Option, Some, None, List, [], ◌∷◌, ◌++◌, length, refl, sym, ap, subst, ◌∙◌, arith}
use Rattle.std.specs.Prelude.{◌-◌, ◌==◌, ◌||◌, ◌&&◌, nat_lt, not, drop}
use Rattle.std.specs.List.{sum_by}
use Rattle.std.proofs.lemmas.List.{length-append}
use Rattle.std.proofs.lemmas.List.Sums.{sum_by-append}
use Rattle.std.proofs.lemmas.Bool.Decides.{nat_tests}
use Rattle.sctp_chunk.specs.Chunk.{FragmentTree}
use Rattle.sctp_chunk.specs.declared.sack.GapAckBlock.{GapAckBlock}
use Rattle.sctp_state.specs.Events.{Emitted}
use Rattle.sctp_state.specs.Timer.{Timer, start, is_running, expire, set_duration}
use Rattle.sctp_tx_outstanding.specs.Item.{Item}
use Rattle.sctp_tx_outstanding.specs.OutstandingData.{Items, flight_part, flight_bytes, flight_payload, next_number}
use Rattle.sctp_tx_outstanding.specs.Losses.{nack_all}
use Rattle.sctp_tx_outstanding.specs.Resending.{Resent}
use Rattle.sctp_tx_outstanding.specs.Sack.{report_by, acked_bytes, sample, leaving, staying, reported_below, receive_sack_first, ack_or_uncover_all}
use Rattle.sctp_tx_queue.specs.SendQueue.{Queue}
use Rattle.sctp_tx_queue.specs.Produced.{Produced, Turn, produce}
use Rattle.sctp_tx_queue.specs.Settings.{Changed}
use Rattle.sctp_tx.specs.Windows.{Windows, is_open, saturate_u64}
use Rattle.sctp_tx.specs.RetransmissionQueue.{Sender, kept_running, nothing_in_flight, restart_or_stop, t3_after_sack, restarts, stays_backed_off, backed_off_if, step_of, windows_by, sender_if, timed_out_sender}
use Rattle.sctp_tx.specs.Resent.{may_send_new, resent, resent_fast, resent_by, start_t3_if, send_fast}
use Rattle.sctp_tx.specs.ForwardPoints.{abandon_expired}
use Rattle.sctp_tx.specs.Sending.{Filling, QueueStep, item_of, append, offered_payload, queue_step_if, next_turn, fill, discard_all, without_discards, filled_with, timed_filling, send}
use Rattle.proof_awake.specs.Awake.{Runs, is_none, ItemsAreTimed}
use Rattle.proof_awake.specs.Invariant.{Lasts, HasItems, SenderHolds, WindowsHaveRoom}
use Rattle.proof_awake.proofs.TimerLemmas.{started, goes_on, lasts_started, lasts_stopped, lasts_set, lasts_on, lasts_backed, runs_backed}
use Rattle.proof_awake.proofs.RoomLemmas.{sack_room, room_started, room_filled}
use Rattle.proof_awake.proofs.ItemsLemmas.{Alike, is_no_item, none_below, none_lost, none_expired, none_resent}

pub has_alike : (b : Bool) (before after : List Item) → Alike before after → HasItems b before → HasItems b after
has_alike true before after e h = e ∙ h
has_alike false before after e h = tt

pub timed_alike : (before after : List Item) (t u : Timer) → Alike before after → (Runs t → Runs u) → ItemsAreTimed before t → ItemsAreTimed after u
timed_alike before after t u e f (inl z) = inl (e ∙ z)
timed_alike before after t u e f (inr r) = inr (f r)

-- ---- the timer is kept running

kept_on : (q : Bool) (now : ℕ) (t : Timer) → Runs t → Runs (kept_running q now t)
kept_on q now t h = subst (λ b. Runs (let u : Timer = cond (b || q) t (start now t) in u)) (sym h) h

made_run : (q : Bool) (now : ℕ) (t : Timer) → Lasts t → q ≡ false → Runs (kept_running q now t)
made_run true now t l e = absurd (cc)
made_run false now t l e = go (is_running t) refl
  where
    go : (b : Bool) → is_running t ≡ b → Runs (let u : Timer = cond (b || false) t (start now t) in u)
    go true r = r
    go false r = started now t l.duration

lasts_kept : (q : Bool) (now : ℕ) (t : Timer) → Lasts t → Lasts (kept_running q now t)
lasts_kept q now t l = go (is_running t || q)
  where
    go : (b : Bool) → Lasts (let u : Timer = cond b t (start now t) in u)
    go true = l
    go false = lasts_started now t l

-- ---- a timeout, what expires

module _ {P : Type 0} (b : Bool) (now : ℕ) (s : Sender) (h : SenderHolds b s) where
  pub timeout_holds : (e : Emitted P) → SenderHolds b (timed_out_sender now (nack_all s.outstanding.items e).items s)
  timeout_holds e =
      let after : List Item = (nack_all s.outstanding.items e).items.kept in
      let n : Alike s.outstanding.items.kept after = none_lost s.outstanding.items e in
      record {
        lasts = lasts_on now s.t3 h.lasts;
        timed = timed_alike s.outstanding.items.kept after s.t3 (expire now s.t3) n (goes_on now s.t3 h.lasts.restarts) h.timed;
        some = has_alike b s.outstanding.items.kept after n h.some;
        windows = record { some = h.windows.some; most = h.windows.most; whole = omega arith; least = h.windows.least };
      }

  pub expired_holds : (e : Emitted P) → SenderHolds b (abandon_expired now s e)
  expired_holds e =
      let after : List Item = (abandon_expired now s e).outstanding.items.kept in
      let n : Alike s.outstanding.items.kept after = none_expired now s.outstanding.items e in
      record {
        lasts = h.lasts;
        timed = timed_alike s.outstanding.items.kept after s.t3 s.t3 n (λ r. r) h.timed;
        some = has_alike b s.outstanding.items.kept after n h.some;
        windows = h.windows;
      }

-- a round trip was taken
pub timed_holds : (b : Bool) (n : ℕ) (s : Sender) → 1 ≤ n → SenderHolds b s → SenderHolds b (record s { t3 = set_duration n s.t3; is_sampled = true })
timed_holds b n s l h = record { lasts = lasts_set n s.t3 l h.lasts; timed = h.timed; some = h.some; windows = h.windows }

-- ---- a SACK

none_taken : (n : ℕ) (is : List Item) → is ≡ [] → is_none (drop n is) ≡ true
none_taken zero [] e = refl
none_taken (suc n) [] e = refl
none_taken n (i ∷ is) e = absurd (cc)

-- the cumulative TSN moved
pub lasts_or_stops : (b : Bool) (now : ℕ) (t : Timer) → Lasts t → Lasts (restart_or_stop b now t)
lasts_or_stops true now t l = lasts_stopped t l
lasts_or_stops false now t l = lasts_started now t l

lasts_if : (moved : Bool) (s : Items) (now : ℕ) (t : Timer) → Lasts t → Lasts (t3_after_sack moved s now t)
lasts_if true s now t l = lasts_kept (nothing_in_flight s) now _ (lasts_or_stops (length s.kept == 0) now t l)
lasts_if false s now t l = lasts_kept (nothing_in_flight s) now t l

pub some_items : (is : List Item) → is_none is ≡ false → (length is == 0) ≡ false
some_items [] e = absurd (cc)
some_items (i ∷ is) e = positive (length is)
  where
    positive : (n : ℕ) → (suc n == 0) ≡ false
    positive n = grind (arith, nat_tests)

-- it is started again for what is left
restarted : (s : Items) (now : ℕ) (t : Timer) → Lasts t → ItemsAreTimed s.kept (t3_after_sack true s now t)
restarted s now t l = go (is_none s.kept) refl
  where
    go : (b : Bool) → is_none s.kept ≡ b → ItemsAreTimed s.kept (t3_after_sack true s now t)
    go true e = inl e
    go false e =
        inr (kept_on (nothing_in_flight s) now (restart_or_stop (length s.kept == 0) now t)
        (subst (λ b. Runs (restart_or_stop b now t)) (sym (some_items s.kept e)) (started now t l.duration)))

module _ {P : Type 0} (now n a_rwnd : ℕ) (blocks : List GapAckBlock) (s : Sender) (e : Emitted P) where
  abbrev after : Items
  after = (step_of n blocks s e).items

  none_of_none : s.outstanding.items.kept ≡ [] → is_none after.kept ≡ true
  none_of_none z =
      none_below (report_by s.windows.avoids_stalls n blocks s.outstanding.items) (not (not (is_open n s.windows))) (reported_below blocks (staying n s.outstanding.items)) (receive_sack_first n blocks s.outstanding.items e)
      ∙ none_acked (drop (leaving n s.outstanding.items) s.outstanding.items.kept) (none_taken (leaving n s.outstanding.items) s.outstanding.items.kept z)
    where
      none_acked : (is : List Item) → is_none is ≡ true → is_none (ack_or_uncover_all blocks 1 is) ≡ true
      none_acked [] h = refl
      none_acked (i ∷ is) h = absurd (cc)

  sack_times : (moved backs_off : Bool) → Lasts s.t3 → ItemsAreTimed s.outstanding.items.kept s.t3 → ItemsAreTimed after.kept (t3_after_sack moved after now (backed_off_if backs_off now s.t3))
  sack_times true backs_off l h = restarted after now (backed_off_if backs_off now s.t3) (lasts_backed backs_off now s.t3 l)
  sack_times false backs_off l (inl z) = inl (none_of_none (is_no_item s.outstanding.items.kept z))
  sack_times false backs_off l (inr r) = inr (kept_on (nothing_in_flight after) now (backed_off_if backs_off now s.t3) (runs_backed backs_off now s.t3 l.duration r))

  abbrev windows : Windows
  windows = windows_by n a_rwnd blocks s (step_of n blocks s e)

  -- whether t3-rtx begins anew
  abbrev anew : Bool
  anew = restarts (nat_lt s.outstanding.items.acked n) s.windows windows s.t3

  -- and whether it stays backed off
  abbrev backs_off : Bool
  backs_off = stays_backed_off (nat_lt s.outstanding.items.acked n) (sample now n s.outstanding.items) s

  pub sack_holds : (b valid : Bool) → SenderHolds b s → SenderHolds false (sender_if valid now n a_rwnd blocks s e)
  sack_holds b true h = record {
    lasts = lasts_if anew after now (backed_off_if backs_off now s.t3) (lasts_backed backs_off now s.t3 h.lasts);
    timed = sack_times anew backs_off h.lasts h.timed;
    some = tt;
    windows = sack_room n a_rwnd (nat_lt s.outstanding.items.acked n) (step_of n blocks s e).is_lossy (saturate_u64 (flight_bytes s.outstanding.items))
        (saturate_u64 (acked_bytes n blocks s.outstanding.items)) (saturate_u64 (flight_payload after)) (next_number after - 1) s.windows h.windows;
  }
  sack_holds b false h = record { lasts = h.lasts; timed = h.timed; some = tt; windows = h.windows }

-- ---- the packet that ignores the congestion window

starts_lasts : (b : Bool) (now : ℕ) (s : Sender) → Lasts s.t3 → Lasts (start_t3_if b now s).t3
starts_lasts true now s l = lasts_kept (nothing_in_flight s.outstanding.items) now s.t3 l
starts_lasts false now s l = l

starts_on : (b : Bool) (now : ℕ) (s : Sender) → Runs s.t3 → Runs (start_t3_if b now s).t3
starts_on true now s r = kept_on (nothing_in_flight s.outstanding.items) now s.t3 r
starts_on false now s r = r

pub starts_same : (b : Bool) (now : ℕ) (s : Sender) → (start_t3_if b now s).outstanding.items.kept ≡ s.outstanding.items.kept
starts_same true now s = refl
starts_same false now s = refl

-- of a sender whose items are as empty as they were, whatever was sent
sent_holds : (b sent : Bool) (now : ℕ) (s u : Sender) → u.t3 ≡ s.t3 → Alike s.outstanding.items.kept u.outstanding.items.kept → WindowsHaveRoom u.windows → SenderHolds b s
    → SenderHolds b (start_t3_if sent now u)
sent_holds b sent now s u t n w h =
    let after : List Item = (start_t3_if sent now u).outstanding.items.kept in
    let m : Alike s.outstanding.items.kept after = ap is_none (starts_same sent now u) ∙ n in
    record {
      lasts = starts_lasts sent now u (subst Lasts (sym t) h.lasts);
      timed = timed_alike s.outstanding.items.kept after s.t3 (start_t3_if sent now u).t3 m (λ r. starts_on sent now u (subst Runs (sym t) r)) h.timed;
      some = has_alike b s.outstanding.items.kept after m h.some;
      windows = room_started sent now u w;
    }

pub fast_holds : (b : Bool) (now most : ℕ) (s : Sender) → SenderHolds b s → SenderHolds b (send_fast now most s)
fast_holds b now most s h =
    let x : Resent = resent_fast most s in
    sent_holds b (nat_lt 0 (length x.chunks)) now s (resent_by s x) refl (none_resent true most 0 s.outstanding) (record { some = h.windows.some; most = h.windows.most; whole = h.windows.whole; least = h.windows.least }) h

-- ---- what a packet takes

-- as empty as before, or something new is in flight
data Grown (before after : Items) (chunks : List (ℕ × FragmentTree)) : Type 0 where
  as_before : Alike before.kept after.kept → Grown before after chunks
  new : is_none after.kept ≡ false → nat_lt 0 (length chunks) ≡ true → nothing_in_flight after ≡ false → Grown before after chunks

record Filled {P : Type 0} (s : Sender) (x : Filling P) : Type 0 where
  t3 : x.sender.t3 ≡ s.t3
  items : Grown s.outstanding.items x.sender.outstanding.items x.chunks

some_chunk : (xs : List (ℕ × FragmentTree)) (x : ℕ × FragmentTree) → nat_lt 0 (length (xs ++ x ∷ [])) ≡ true
some_chunk xs x = let l = length-append xs (x ∷ []) in subst (λ n. nat_lt 0 n ≡ true) (sym l) (positive (length xs))
  where
    positive : (n : ℕ) → nat_lt 0 (n + 1) ≡ true
    positive n = grind (arith, nat_tests)

pub some_more : (is : List Item) (i : Item) → is_none (is ++ i ∷ []) ≡ false
some_more [] i = refl
some_more (j ∷ is) i = refl

more_in_flight : (is : List Item) (i : Item) → flight_part i ≡ 1 → (sum_by flight_part (is ++ i ∷ []) == 0) ≡ false
more_in_flight is i one =
    let one_more : sum_by flight_part (is ++ i ∷ []) ≡ sum_by flight_part is + (0 + flight_part i) = sum_by-append flight_part is (i ∷ []) in
    subst (λ n. (n == 0) ≡ false) (sym (one_more ∙ ap (λ n. sum_by flight_part is + (0 + n)) one)) (positive (sum_by flight_part is))
  where
    positive : (n : ℕ) → (n + (0 + 1) == 0) ≡ false
    positive n = grind (arith, nat_tests)

module _ {P : Type 0} (s : Sender) where
  appended_fills : (now : ℕ) (o : Option Produced) (x : Filling P) → Filled s x → Filled s (append now o x)
  appended_fills now None x h = h
  appended_fills now (Some p) x h = record {
    t3 = h.t3;
    items = new (some_more x.sender.outstanding.items.kept (item_of now p)) (some_chunk x.chunks _) (more_in_flight x.sender.outstanding.items.kept (item_of now p) refl);
  }

  turn_fills : (b : Bool) (now : ℕ) (x : Filling P) → Filled s x → Filled s (queue_step_if b now x).filling
  turn_fills true now x h =
      let y : Turn P = produce now (offered_payload x.left x.sender) x.queue x.emitted in
      appended_fills now y.made (record x { queue = y.queue; emitted = y.emitted }) (record { t3 = h.t3; items = h.items })
  turn_fills false now x h = h

  fills_if : (b : Bool) (x y : Filling P) → Filled s x → Filled s y → Filled s (cond b x y)
  fills_if true x y h k = h
  fills_if false x y h k = k

  fills : (n now : ℕ) (x : Filling P) → Filled s x → Filled s (fill n now x)
  fills zero now x h = h
  fills (suc n) now x h =
      let y : QueueStep P = next_turn now x in
      let k : Filled s y.filling = turn_fills (may_send_new x.sender && nat_lt 0 (offered_payload x.left x.sender)) now x h in
      fills_if y.is_more (fill n now y.filling) y.filling (fills n now y.filling k) k

  started_holds : (b : Bool) (now : ℕ) (x : Filling P) → Grown s.outstanding.items x.sender.outstanding.items x.chunks → x.sender.t3 ≡ s.t3 → WindowsHaveRoom x.sender.windows → SenderHolds b s
      → SenderHolds b (timed_filling now x).sender
  started_holds b now x (as_before n) t w h = sent_holds b (nat_lt 0 (length x.chunks)) now s x.sender t n w h
  started_holds b now x (new some sent flight) t w h =
      subst (λ (c : Bool). SenderHolds b (start_t3_if c now x.sender)) (sym sent) (record {
        lasts = lasts_kept (nothing_in_flight x.sender.outstanding.items) now x.sender.t3 (subst Lasts (sym t) h.lasts);
        timed = inr (made_run (nothing_in_flight x.sender.outstanding.items) now x.sender.t3 (subst Lasts (sym t) h.lasts) flight);
        some = has_some b some;
        windows = w;
      })
    where
      has_some : (b : Bool) → is_none x.sender.outstanding.items.kept ≡ false → HasItems b x.sender.outstanding.items.kept
      has_some true e = e
      has_some false e = tt

  -- the timer is as it was until the packet is full
  pub same_t3 : (now most : ℕ) (left : Changed P)
      → let x : Filling P = filled_with most (without_discards s) (resent most (without_discards s)) left in (fill (suc x.left) now x).sender.t3 ≡ s.t3
  same_t3 now most left =
      let x : Filling P = filled_with most (without_discards s) (resent most (without_discards s)) left in
      (fills (suc x.left) now x (record { t3 = refl; items = as_before (none_resent false _ _ (without_discards s).outstanding) })).t3

  pub send_holds : (b : Bool) (now most : ℕ) (q : Queue) (e : Emitted P) → SenderHolds b s → SenderHolds b (send now most s q e).sender
  send_holds b now most q e h =
      let left : Changed P = discard_all s.outstanding.items.discards q e in
      let again : Resent = resent most (without_discards s) in
      let x : Filling P = filled_with most (without_discards s) again left in
      let y : Filling P = fill (suc x.left) now x in
      let f : Filled s y = fills (suc x.left) now x (record { t3 = refl; items = as_before (none_resent false _ _ (without_discards s).outstanding) }) in
      started_holds b now y f.items f.t3 (room_filled (suc x.left) now x (record { some = h.windows.some; most = h.windows.most; whole = h.windows.whole; least = h.windows.least })) h
