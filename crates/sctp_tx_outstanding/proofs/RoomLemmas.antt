-- Items that are sent again take as much of a packet's room as they add to the bytes in flight.
use Rattle.std.proofs.Common.{◌≡◌, ℕ, zero, suc, ◌+◌, ◌-◌, ◌≤◌, Bool, true, false, min, Option, Some, None, List, [], ◌∷◌, length, refl, ap, sym, subst, ◌∙◌, arith}
use Rattle.std.specs.Prelude.{◌&&◌, ◌==◌, nat_lt, nat_le, slice_get, if◌then◌else◌}
use Rattle.std.specs.List.{sum_by}
use Rattle.std.proofs.lemmas.Bool.{and_parts, leb-true}
use Rattle.std.proofs.lemmas.Bool.Decides.{nat_tests}
use Rattle.std.proofs.lemmas.List.Sums.{sum_by-cons, sum_by_push}
use Rattle.sctp_tx_outstanding.specs.declared.item.ItemState.{ItemState}
use Rattle.sctp_tx_outstanding.specs.declared.item.ItemState.TheVariants.{InFlight, Missing, Queued, QueuedFast, Acked, GivenUp}
use Rattle.sctp_tx_outstanding.specs.declared.outstanding_data.Turn.{Turn}
use Rattle.sctp_tx_outstanding.specs.declared.outstanding_data.Turn.TheVariants.{Send, PassOver, Leave}
use Rattle.sctp_chunk.specs.Chunk.{FragmentTree}
use Rattle.sctp_tx_outstanding.specs.Item.{Item, is_in_flight, waits, waits_fast, resent, demote_fast, miss_fast, should_be_retransmitted, is_fast, size_of, mark_as_retransmitted}
use Rattle.sctp_tx_outstanding.specs.OutstandingData.{Outstanding, when, wire_tsn, packet_part, queued_part, fast_part, flight_bytes, flight_items, waiting_items, fast_items, change_at}
use Rattle.sctp_tx_outstanding.specs.Resending.{Resent, size_in, allowance, waiting_for, again_of, turn_of, turn_at, apply_turn, step_at, resent_below, empty_packet, resend, chunk_bytes}
use Rattle.sctp_tx_outstanding.proofs.WaitingLemmas.{false_from_none}

module _ (p : Item → ℕ) (f : Item → Item) where
  sum_changed : (k : ℕ) (is : List Item) (i : Item) → slice_get is k ≡ Some i → sum_by p (change_at k f is) + p i ≡ sum_by p is + p (f i)
  sum_changed k [] i h = absurd (cc)
  sum_changed zero (j ∷ is) i h =
      let a = sum_by-cons p j is in
      let b = sum_by-cons p (f j) is in
      let same : j ≡ i = cc in
      let c : p j ≡ p i = ap p same in
      let d : p (f j) ≡ p (f i) = ap (λ x. p (f x)) same in
      omega (arith, a, b, c, d)
  sum_changed (suc k) (j ∷ is) i h =
      let ih = sum_changed k is i h in
      let a = sum_by-cons p j is in
      let b = sum_by-cons p j (change_at k f is) in
      omega (arith, ih, a, b)

waiting_lands : (s : ItemState) (n : ℕ) → waits s ≡ true → (when (is_in_flight s) n ≡ 0) × (when (is_in_flight (resent s)) n ≡ n)
waiting_lands InFlight n e = absurd (cc)
waiting_lands Missing n e = absurd (cc)
waiting_lands Queued n e = (refl, refl)
waiting_lands QueuedFast n e = (refl, refl)
waiting_lands Acked n e = absurd (cc)
waiting_lands GivenUp n e = absurd (cc)

allowed_room : (b : Bool) (room window : ℕ) → (if b then room else min room window) ≤ room
allowed_room true room window = omega arith
allowed_room false room window = omega arith

abbrev pub flying : Resent → ℕ
flying x = flight_bytes x.outstanding.items

-- what is sent again takes as much of the room as it adds
sent_again_lem : (k : ℕ) (x : Resent) (i : Item) → slice_get x.outstanding.items.kept k ≡ Some i → waits i.state ≡ true → size_in x i ≤ x.room
    → flying (again_of k (Some i) x) + (again_of k (Some i) x).room ≤ flying x + x.room
sent_again_lem k x i there waiting fits =
    let m = x.outstanding.items.is_interleaved in
    let sum = sum_changed (packet_part m) mark_as_retransmitted k x.outstanding.items.kept i there in
    let parts = waiting_lands i.state (size_in x i) waiting in
    omega (arith, sum, parts.0, parts.1, fits)

step_room : (k : ℕ) (x : Resent) → flying (step_at false k x) + (step_at false k x).room ≤ flying x + x.room
step_room k x = at_item (slice_get x.outstanding.items.kept k) refl where
  turn_room : (i : Item) → slice_get x.outstanding.items.kept k ≡ Some i → (b : Bool) → should_be_retransmitted i && nat_le (size_in x i) (allowance x) ≡ b
      → flying (apply_turn (if b then Send else Leave) k x) + (apply_turn (if b then Send else Leave) k x).room ≤ flying x + x.room
  turn_room i there true e =
      let t = and_parts (should_be_retransmitted i) (nat_le (size_in x i) (allowance x)) e in
      let fits : size_in x i ≤ x.room = omega (arith, leb-true (size_in x i) (allowance x) t.1, allowed_room (flight_items x.outstanding.items == 0) x.room x.window) in
      subst (λ (o : Option Item). flying (again_of k o x) + (again_of k o x).room ≤ flying x + x.room) (sym there) (sent_again_lem k x i there t.0 fits)
  turn_room i there false e = omega arith

  at_item : (o : Option Item) → slice_get x.outstanding.items.kept k ≡ o → flying (apply_turn (turn_of false o x) k x) + (apply_turn (turn_of false o x) k x).room ≤ flying x + x.room
  at_item None e = omega arith
  at_item (Some i) e = turn_room i e (should_be_retransmitted i && nat_le (size_in x i) (allowance x)) refl

pub resent_room : (n : ℕ) (x : Resent) → flying (resent_below false n x) + (resent_below false n x).room ≤ flying x + x.room
resent_room zero x = omega arith
resent_room (suc n) x =
    let ih = resent_room n x in
    let one = step_room n (resent_below false n x) in
    omega (arith, ih, one)

-- ---- what is handed out fits the room

abbrev load : Resent → ℕ
load x = chunk_bytes x.outstanding.items.is_interleaved x.chunks

again_load : (k : ℕ) (x : Resent) (i : Item) → size_in x i ≤ x.room → load (again_of k (Some i) x) + (again_of k (Some i) x).room ≤ load x + x.room
again_load k x i fits =
    let m = x.outstanding.items.is_interleaved in
    let sum = sum_by_push (λ (c : ℕ × FragmentTree). size_of m c.1) x.chunks (wire_tsn x.outstanding (x.outstanding.items.acked + 1 + k), i.fragment) in
    omega (arith, sum, fits)

apply_turn_load : (k : ℕ) (x : Resent) (i : Item) → slice_get x.outstanding.items.kept k ≡ Some i → (t : Turn) → (t ≡ Send → size_in x i ≤ x.room) → load (apply_turn t k x) + (apply_turn t k x).room ≤ load x + x.room
apply_turn_load k x i there Send fits = subst (λ (o : Option Item). load (again_of k o x) + (again_of k o x).room ≤ load x + x.room) (sym there) (again_load k x i (fits refl))
apply_turn_load k x i there PassOver fits = omega arith
apply_turn_load k x i there Leave fits = omega arith

fast_sends : (b c : Bool) (size room : ℕ) → nat_le size room ≡ c → (if b then (if c then Send else PassOver) else Leave) ≡ Send → size ≤ room
fast_sends true true size room e h = leb-true size room e
fast_sends true false size room e h = absurd (cc)
fast_sends false c size room e h = absurd (cc)

slow_sends : (b : Bool) (size allowed room : ℕ) → (b && nat_le size allowed) ≡ true → allowed ≤ room → size ≤ room
slow_sends b size allowed room e h = let t = and_parts b (nat_le size allowed) e in omega (arith, leb-true size allowed t.1, h)

sends_only : (b : Bool) → (if b then Send else Leave) ≡ Send → b ≡ true
sends_only true h = refl
sends_only false h = absurd (cc)

turn_fits : (fast : Bool) (x : Resent) (i : Item) → turn_of fast (Some i) x ≡ Send → size_in x i ≤ x.room
turn_fits true x i h = fast_sends (is_fast i) (nat_le (size_in x i) x.room) (size_in x i) x.room refl h
turn_fits false x i h =
    slow_sends (should_be_retransmitted i) (size_in x i) (allowance x) x.room (sends_only (should_be_retransmitted i && nat_le (size_in x i) (allowance x)) h)
    (allowed_room (flight_items x.outstanding.items == 0) x.room x.window)

step_load : (fast : Bool) (k : ℕ) (x : Resent) → load (step_at fast k x) + (step_at fast k x).room ≤ load x + x.room
step_load fast k x = at_item (slice_get x.outstanding.items.kept k) refl where
  at_item : (o : Option Item) → slice_get x.outstanding.items.kept k ≡ o → load (apply_turn (turn_of fast o x) k x) + (apply_turn (turn_of fast o x) k x).room ≤ load x + x.room
  at_item None e = omega arith
  at_item (Some i) e = apply_turn_load k x i e (turn_of fast (Some i) x) (turn_fits fast x i)

resent_load : (fast : Bool) (n : ℕ) (x : Resent) → load (resent_below fast n x) + (resent_below fast n x).room ≤ load x + x.room
resent_load fast zero x = omega arith
resent_load fast (suc n) x =
    let ih = resent_load fast n x in
    let one = step_load fast n (resent_below fast n x) in
    omega (arith, ih, one)

-- whether messages are interleaved stays
step_is_interleaved : (fast : Bool) (k : ℕ) (x : Resent) → (step_at fast k x).outstanding.items.is_interleaved ≡ x.outstanding.items.is_interleaved
step_is_interleaved fast k x = by_turn (turn_at fast k x) where
  by_item : (o : Option Item) → (again_of k o x).outstanding.items.is_interleaved ≡ x.outstanding.items.is_interleaved
  by_item None = refl
  by_item (Some i) = refl

  by_turn : (t : Turn) → (apply_turn t k x).outstanding.items.is_interleaved ≡ x.outstanding.items.is_interleaved
  by_turn Send = by_item (slice_get x.outstanding.items.kept k)
  by_turn PassOver = refl
  by_turn Leave = refl

pub resent_is_interleaved : (fast : Bool) (n : ℕ) (x : Resent) → (resent_below fast n x).outstanding.items.is_interleaved ≡ x.outstanding.items.is_interleaved
resent_is_interleaved fast zero x = refl
resent_is_interleaved fast (suc n) x = step_is_interleaved fast n (resent_below fast n x) ∙ resent_is_interleaved fast n x

pub resend_fits : (fast : Bool) (room window : ℕ) (d : Outstanding) → chunk_bytes d.items.is_interleaved (resend fast room window d).chunks ≤ room
resend_fits fast room window d =
    let x = empty_packet room window d in
    let y = resend fast room window d in
    let h : load y + y.room ≤ load x + x.room = resent_load fast (length d.items.kept) x in
    let m : y.outstanding.items.is_interleaved ≡ d.items.is_interleaved = resent_is_interleaved fast (length d.items.kept) x in
    let same : chunk_bytes d.items.is_interleaved y.chunks ≡ load y = ap (λ b. chunk_bytes b y.chunks) (sym m) in
    omega (arith, h, same)

-- ---- where nothing waits nothing is handed out

none_waits_lem : (k : ℕ) (is : List Item) (i : Item) → sum_by queued_part is ≤ 0 → slice_get is k ≡ Some i → should_be_retransmitted i ≡ false
none_waits_lem k [] i h e = absurd (cc)
none_waits_lem zero (j ∷ is) i h e =
    let sum = sum_by-cons queued_part j is in
    let same : j ≡ i = cc in
    subst (λ x. should_be_retransmitted x ≡ false) same (false_from_none (should_be_retransmitted j) (omega (arith, sum, h)))
none_waits_lem (suc k) (j ∷ is) i h e =
    let sum = sum_by-cons queued_part j is in
    none_waits_lem k is i (omega (arith, sum, h)) e

quiet_step : (k : ℕ) (x : Resent) → waiting_items x.outstanding.items ≤ 0 → step_at false k x ≡ x
quiet_step k x h = at_item (slice_get x.outstanding.items.kept k) refl where
  at_item : (o : Option Item) → slice_get x.outstanding.items.kept k ≡ o → apply_turn (turn_of false o x) k x ≡ x
  at_item None e = refl
  at_item (Some i) e = ap (λ b. apply_turn (if b && nat_le (size_in x i) (allowance x) then Send else Leave) k x) (none_waits_lem k x.outstanding.items.kept i h e)

none_fast : (k : ℕ) (is : List Item) (i : Item) → sum_by fast_part is ≤ 0 → slice_get is k ≡ Some i → is_fast i ≡ false
none_fast k [] i h e = absurd (cc)
none_fast zero (j ∷ is) i h e =
    let sum = sum_by-cons fast_part j is in
    let same : j ≡ i = cc in
    subst (λ x. is_fast x ≡ false) same (false_from_none (is_fast j) (omega (arith, sum, h)))
none_fast (suc k) (j ∷ is) i h e =
    let sum = sum_by-cons fast_part j is in
    none_fast k is i (omega (arith, sum, h)) e

quiet_fast : (k : ℕ) (x : Resent) → fast_items x.outstanding.items ≤ 0 → step_at true k x ≡ x
quiet_fast k x h = at_item (slice_get x.outstanding.items.kept k) refl where
  at_item : (o : Option Item) → slice_get x.outstanding.items.kept k ≡ o → apply_turn (turn_of true o x) k x ≡ x
  at_item None e = refl
  at_item (Some i) e = ap (λ b. apply_turn (if b then (if nat_le (size_in x i) x.room then Send else PassOver) else Leave) k x) (none_fast k x.outstanding.items.kept i h e)

quiet_turn : (fast : Bool) (k : ℕ) (x : Resent) → waiting_for fast x.outstanding.items ≤ 0 → step_at fast k x ≡ x
quiet_turn true k x h = quiet_fast k x h
quiet_turn false k x h = quiet_step k x h

quiet_more : (fast : Bool) (x : Resent) (more p n : ℕ) → n ≡ more + p → waiting_for fast (resent_below fast p x).outstanding.items ≤ 0 → resent_below fast n x ≡ resent_below fast p x
quiet_more fast x zero p n e h =
    let same : n ≡ p = omega (arith, e) in
    ap (λ k. resent_below fast k x) same
quiet_more fast x (suc more) p n e h =
    let is_next : n ≡ suc (more + p) = omega (arith, e) in
    let ih = quiet_more fast x more p (more + p) refl h in
    ap (λ k. resent_below fast k x) is_next ∙ ap (λ (y : Resent). step_at fast (more + p) y) ih ∙ quiet_turn fast (more + p) (resent_below fast p x) h

-- once nothing waits the others' turns change nothing
pub quiet_on : (fast : Bool) (x : Resent) (p n : ℕ) → p ≤ n → waiting_for fast (resent_below fast p x).outstanding.items ≤ 0 → resent_below fast n x ≡ resent_below fast p x
quiet_on fast x p n le h = quiet_more fast x (n - p) p n (omega (arith, le)) h

quiet_below : (n : ℕ) (x : Resent) → waiting_items x.outstanding.items ≤ 0 → resent_below false n x ≡ x
quiet_below zero x h = refl
quiet_below (suc n) x h = ap (step_at false n) (quiet_below n x h) ∙ quiet_step n x h

pub resend_quiet : (room window : ℕ) (d : Outstanding) → waiting_items d.items ≤ 0 → resend false room window d ≡ empty_packet room window d
resend_quiet room window d h = quiet_below (length d.items.kept) (empty_packet room window d) h

pub no_more_lem : (n : ℕ) → nat_lt 0 n ≡ false → n ≤ 0
no_more_lem n e = grind (arith, nat_tests)

-- ---- the same of the packet that ignores the congestion window

fast_waits : (s : ItemState) → waits_fast s ≡ true → waits s ≡ true
fast_waits InFlight e = absurd (cc)
fast_waits Missing e = absurd (cc)
fast_waits Queued e = absurd (cc)
fast_waits QueuedFast e = refl
fast_waits Acked e = absurd (cc)
fast_waits GivenUp e = absurd (cc)

pub slowed_in_flight : (s : ItemState) → is_in_flight (demote_fast s) ≡ is_in_flight s
slowed_in_flight InFlight = refl
slowed_in_flight Missing = refl
slowed_in_flight Queued = refl
slowed_in_flight QueuedFast = refl
slowed_in_flight Acked = refl
slowed_in_flight GivenUp = refl

sum_same : (p : Item → ℕ) (f : Item → Item) → ((i : Item) → p (f i) ≡ p i) → (k : ℕ) (is : List Item) → sum_by p (change_at k f is) ≡ sum_by p is
sum_same p f h k [] = refl
sum_same p f h zero (i ∷ is) =
    let a = sum_by-cons p i is in
    let b = sum_by-cons p (f i) is in
    let c : p (f i) ≡ p i = h i in
    omega (arith, a, b, c)
sum_same p f h (suc k) (i ∷ is) =
    let ih = sum_same p f h k is in
    let a = sum_by-cons p i is in
    let b = sum_by-cons p i (change_at k f is) in
    omega (arith, ih, a, b)

fast_goes : (b c : Bool) (size room : ℕ) → (if b then (if c then Send else PassOver) else Leave) ≡ Send → b ≡ true
fast_goes true c size room e = refl
fast_goes false c size room e = absurd (cc)

fast_step_room : (k : ℕ) (x : Resent) → flying (step_at true k x) + (step_at true k x).room ≤ flying x + x.room
fast_step_room k x = at_item (slice_get x.outstanding.items.kept k) refl where
  by_turn : (i : Item) → slice_get x.outstanding.items.kept k ≡ Some i → (t : Turn) → turn_of true (Some i) x ≡ t → flying (apply_turn t k x) + (apply_turn t k x).room ≤ flying x + x.room
  by_turn i there Send e =
      let waiting : waits i.state ≡ true = fast_waits i.state (fast_goes (is_fast i) (nat_le (size_in x i) x.room) 0 0 e) in
      subst (λ (o : Option Item). flying (again_of k o x) + (again_of k o x).room ≤ flying x + x.room) (sym there) (sent_again_lem k x i there waiting (turn_fits true x i e))
  by_turn i there PassOver e =
      let m = x.outstanding.items.is_interleaved in
      let same : sum_by (packet_part m) (change_at k miss_fast x.outstanding.items.kept) ≡ sum_by (packet_part m) x.outstanding.items.kept =
      sum_same (packet_part m) miss_fast (λ j. ap (λ b. when b (size_in x j)) (slowed_in_flight j.state)) k x.outstanding.items.kept in
      omega (arith, same)
  by_turn i there Leave e = omega arith

  at_item : (o : Option Item) → slice_get x.outstanding.items.kept k ≡ o → flying (apply_turn (turn_of true o x) k x) + (apply_turn (turn_of true o x) k x).room ≤ flying x + x.room
  at_item None e = omega arith
  at_item (Some i) e = by_turn i e (turn_of true (Some i) x) refl

pub fast_room : (n : ℕ) (x : Resent) → flying (resent_below true n x) + (resent_below true n x).room ≤ flying x + x.room
fast_room zero x = omega arith
fast_room (suc n) x =
    let ih = fast_room n x in
    let one = fast_step_room n (resent_below true n x) in
    omega (arith, ih, one)
