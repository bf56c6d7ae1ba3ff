-- A sending leaves no stream in line where no item is kept: a packet with room takes what the queue has.
use Rattle.std.proofs.Common.{◌≡◌, ℕ, zero, suc, ◌+◌, ◌-◌, ◌*◌, ◌/◌, ◌≤◌, Bool, true, false, min, Option, Some, None, List, [], ◌∷◌, ◌++◌, length, refl, sym, ap, subst, ◌∙◌, arith}
use Rattle.std.specs.Prelude.{◌==◌, ◌&&◌, ◌||◌, not, nat_lt, nat_le, is_some}
use Rattle.std.specs.List.{sum_by}
use Rattle.std.proofs.lemmas.Bool.{le-leb, and_from}
use Rattle.sctp_packet.specs.Chunk.{ChunkTree}
use Rattle.sctp_packet.specs.Written.{chunks_bytes}
use Rattle.sctp_state.specs.Events.{Emitted}
use Rattle.sctp_tx_outstanding.specs.Item.{Item, header_size}
use Rattle.sctp_tx_outstanding.specs.OutstandingData.{flight_part, packet_part, queued_part, waiting_items}
use Rattle.sctp_tx_outstanding.specs.Forward.{is_forward_due}
use Rattle.sctp_tx_outstanding.specs.Resending.{Resent, resent_below, empty_packet}
use Rattle.sctp_rx.specs.DataTracker.{is_ack_due}
use Rattle.sctp_tx_queue.specs.SendQueue.{Queue}
use Rattle.sctp_tx_queue.specs.Resets.{streams_to_request, request_resets}
use Rattle.sctp_tx.specs.Windows.{saturate_u64, room_within, may_send}
use Rattle.sctp_tx.specs.RetransmissionQueue.{Sender, nothing_in_flight}
use Rattle.sctp_tx.specs.Resent.{flight, sizes, is_interleaved, room_of, may_send_new, resent, start_t3_if}
use Rattle.sctp_tx.specs.ForwardPoints.{forward_chunk}
use Rattle.sctp_tx.specs.Sending as fragments
use Rattle.sctp_tx.specs.Sending.{item_of, offered_payload, fill, without_discards, send}
use Rattle.proof_refines.specs.Filled as filled
use Rattle.proof_refines.specs.Filled.{windows, nothing, IsFilled, ends, goes_on, began}
use Rattle.proof_refines.proofs.FilledLemmas.{filled_by}
use Rattle.spec_endpoint.specs.Association.{Tcb, Context}
use Rattle.spec_endpoint.specs.Packets.{PacketDraft, room, fits, added_if, add, add_all, is_some_chunk, has_chunks, emit_if}
use Rattle.spec_endpoint.specs.ResetRequests.{Request, request_chunk}
use Rattle.spec_endpoint.specs.Sending.{Filling, ack_if, has_data_to_send, take_due_ack, with_ack, forward_added_if, forward_if, with_expired_abandoned, forward_if_time, with_forward, most_streams, add_request, request_of, request_unless, with_request, data_chunks, asks_at_once, with_data, emit_packet, burst_step_if, continue_burst, burst, send_with, selective_ack}
use Rattle.proof_awake.specs.Awake.{is_none}
use Rattle.proof_awake.specs.Invariant.{WindowsHaveRoom}
use Rattle.proof_awake.specs.Line.{IsNoneInLine}
use Rattle.proof_awake.proofs.ItemsLemmas.{is_no_item, none_resent}
use Rattle.proof_awake.proofs.SenderLemmas.{some_more, starts_same}
use Rattle.proof_awake.proofs.RoomLemmas.{room_sent}

-- ---- what a packet takes of the queue

abbrev kept_of : Sender → List Item
kept_of s = s.outstanding.items.kept

module _ {P : Type 0} (now : ℕ) where
  stays_some : (x z : fragments.Filling P) → IsFilled now x z → is_none (kept_of x.sender) ≡ false → is_none (kept_of z.sender) ≡ false
  stays_some x z (ends (windows e same)) h = subst (λ (y : fragments.Filling P). is_none (kept_of y.sender) ≡ false) (sym same) h
  stays_some x z (ends (filled.room e same)) h = subst (λ (y : fragments.Filling P). is_none (kept_of y.sender) ≡ false) (sym same) h
  stays_some x z (ends (nothing e idle chunks sender)) h = subst (λ (s : Sender). is_none (kept_of s) ≡ false) (sym sender) h
  stays_some x z (goes_on y p g f) h =
      stays_some y z f (subst (λ (s : Sender). is_none (kept_of s) ≡ false) (sym g.sender) (some_more (kept_of x.sender) (item_of now p)))

-- the windows let a fragment go where nothing is kept
lets_go : (s : Sender) → kept_of s ≡ [] → WindowsHaveRoom s.windows → may_send_new s ≡ true
lets_go s e w = and_from _ _ wide waits
  where
    -- nothing is in flight
    quiet : may_send (nothing_in_flight s.outstanding.items) (flight s) s.windows ≡ (nat_lt s.windows.cwnd s.windows.unfragmented_cwnd || nat_le s.windows.mtu (s.windows.cwnd - 0))
    quiet = ap (λ (is : List Item). may_send (sum_by flight_part is == 0) (saturate_u64 (sum_by (packet_part s.outstanding.items.is_interleaved) is)) s.windows) e

    whole : nat_le s.windows.mtu (s.windows.cwnd - 0) ≡ true
    whole = let a = w.whole in le-leb s.windows.mtu (s.windows.cwnd - 0) (omega (arith, a))

    either : (c : Bool) → (c || true) ≡ true
    either true = refl
    either false = refl

    wide : may_send (nothing_in_flight s.outstanding.items) (flight s) s.windows ≡ true
    wide = quiet ∙ (ap (λ (c : Bool). nat_lt s.windows.cwnd s.windows.unfragmented_cwnd || c) whole ∙ either (nat_lt s.windows.cwnd s.windows.unfragmented_cwnd))

    -- nor is any to be sent again
    none : (b : Bool) → not (b && false) ≡ true
    none true = refl
    none false = refl

    waits : not (s.windows.avoids_stalls && nat_lt 0 (waiting_items s.outstanding.items)) ≡ true
    waits = ap (λ (is : List Item). not (s.windows.avoids_stalls && nat_lt 0 (sum_by queued_part is))) e ∙ none s.windows.avoids_stalls

header_most : (b : Bool) → header_size b ≤ 20
header_most true = omega arith
header_most false = omega arith

-- and a packet with room offers some
offers : (s : Sender) (left : ℕ) → kept_of s ≡ [] → WindowsHaveRoom s.windows → 32 ≤ left → offered_payload left s ≡ 0 → ⊥
offers s left e w l z =
    let free : room_of s ≡ s.windows.cwnd - 0 =
    ap (λ (is : List Item). room_within (sum_by flight_part is == 0) (s.windows.cwnd - saturate_u64 (sum_by (packet_part s.outstanding.items.is_interleaved) is)) s.windows.rwnd) e in
    let a = w.some in
    let b = w.whole in
    let h = header_most (is_interleaved s) in
    none (room_of s) s.windows.cwnd (header_size (is_interleaved s)) s.windows.mtu free a b h z
  where
    none : (free_room cwnd header mtu : ℕ) → free_room ≡ cwnd - 0 → 256 ≤ mtu → mtu ≤ cwnd → header ≤ 20 → min left free_room / 4 * 4 - header ≡ 0 → ⊥
    none free_room cwnd header mtu free a b h z = omega (arith, l, free, a, b, h, z)

module _ {P : Type 0} (now most : ℕ) (s : Sender) (q : Queue) (e : Emitted P) (w : WindowsHaveRoom s.windows) (l : 32 ≤ most) where
  abbrev again : Resent
  again = resent most (without_discards s)

  abbrev first : fragments.Filling P
  first = began most s q e

  -- with nothing kept nothing goes again
  all_left : kept_of s ≡ [] → first.left ≡ most
  all_left z =
      let none : again.chunks ≡ [] = ap (λ (n : ℕ). (resent_below false n (empty_packet (min most (s.windows.cwnd - flight (without_discards s))) s.windows.rwnd (without_discards s).outstanding)).chunks) (ap length z) in
      let size : sizes (is_interleaved first.sender) again.chunks ≡ 0 = ap (sizes (is_interleaved first.sender)) none in
      whole (sizes (is_interleaved first.sender) again.chunks) size
    where
      whole : (n : ℕ) → n ≡ 0 → most - saturate_u64 n ≡ most
      whole n f = omega (arith, f)

  none_first : is_none (kept_of first.sender) ≡ true → kept_of first.sender ≡ []
  none_first h = is_no_item (kept_of first.sender) h

  none_before : is_none (kept_of first.sender) ≡ true → kept_of s ≡ []
  none_before h = is_no_item (kept_of s) (sym (none_resent false (min most (s.windows.cwnd - flight (without_discards s))) s.windows.rwnd (without_discards s).outstanding) ∙ h)

  done_by : (z : fragments.Filling P) → IsFilled now first z → (b : Bool) → is_none (kept_of first.sender) ≡ b → is_none (kept_of z.sender) ≡ true → z.queue.scheduler.times ≡ []
  done_by z f false n h = absurd (let k = stays_some now first z f n in cc)
  done_by z (ends (windows c same)) true n h = absurd (let k = lets_go first.sender (none_first n) w in cc)
  done_by z (ends (filled.room c same)) true n h =
      absurd (offers first.sender first.left (none_first n) w (subst (λ (k : ℕ). 32 ≤ k) (sym (all_left (none_before n))) l) c)
  done_by z (ends (nothing c idle chunks sender)) true n h = idle
  done_by z (goes_on y p g f) true n h =
      absurd (let k = stays_some now y z f (subst (λ (u : Sender). is_none (kept_of u) ≡ false) (sym g.sender) (some_more (kept_of first.sender) (item_of now p))) in cc)

  abbrev last : fragments.Filling P
  last = fill (suc first.left) now first

  started_same : (b : Bool) → is_none (kept_of (start_t3_if b now last.sender)) ≡ true → is_none (kept_of last.sender) ≡ true
  started_same b h = sym (ap is_none (starts_same b now last.sender)) ∙ h

  pub data_done : is_none (kept_of (send now most s q e).sender) ≡ true → (send now most s q e).queue.scheduler.times ≡ []
  data_done h = done_by last (filled_by now (suc first.left) first (omega arith)) (is_none (kept_of first.sender)) refl (started_same (nat_lt 0 (length last.chunks)) h)

-- ---- packets

limit_if : (b : Bool) (chunk : ChunkTree) (p : PacketDraft) → (added_if b chunk p).limit ≡ p.limit
limit_if true chunk p = refl
limit_if false chunk p = refl

pub limit_added : (chunk : ChunkTree) (p : PacketDraft) → (add chunk p).limit ≡ p.limit
limit_added chunk p = limit_if (fits p chunk) chunk p

limit_all : (chunks : List ChunkTree) (p : PacketDraft) → (add_all chunks p).limit ≡ p.limit
limit_all [] p = refl
limit_all (chunk ∷ chunks) p = limit_all chunks (add chunk p) ∙ limit_added chunk p

some_if : (b : Bool) (chunk : ChunkTree) (p : PacketDraft) → has_chunks p ≡ true → has_chunks (added_if b chunk p) ≡ true
some_if true chunk p h = more p.chunks
  where
    more : (cs : List ChunkTree) → is_some_chunk (cs ++ chunk ∷ []) ≡ true
    more [] = refl
    more (c ∷ cs) = refl
some_if false chunk p h = h

some_all : (chunks : List ChunkTree) (p : PacketDraft) → has_chunks p ≡ true → has_chunks (add_all chunks p) ≡ true
some_all [] p h = h
some_all (chunk ∷ chunks) p h = some_all chunks (add chunk p) (some_if (fits p chunk) chunk p h)

-- what stays empty was empty
none_all : (chunks : List ChunkTree) (p : PacketDraft) → has_chunks (add_all chunks p) ≡ false → p.chunks ≡ []
none_all chunks p h = by p.chunks refl
  where
    by : (cs : List ChunkTree) → p.chunks ≡ cs → p.chunks ≡ []
    by [] e = e
    by (c ∷ cs) e = absurd (let k = some_all chunks p (ap is_some_chunk e) in cc)

room_empty : (p : PacketDraft) → p.chunks ≡ [] → 44 ≤ p.limit → 32 ≤ room p
unfolding chunks_bytes
room_empty p e l =
    let r : room p ≡ p.limit - (12 + 0) = ap (λ (cs : List ChunkTree). p.limit - (12 + length (chunks_bytes cs))) e in
    omega (arith, r, l)

-- ---- what goes into the first packet

abbrev SameRoom : Sender → Sender → Type 0
SameRoom s u = WindowsHaveRoom s.windows → WindowsHaveRoom u.windows

limit_request : (o : Option Request) (p : PacketDraft) → (add_request o p).limit ≡ p.limit
limit_request None p = refl
limit_request (Some r) p = limit_added (request_chunk r) p

record Keeps {P : Type 0} (x y : Filling P) : Type 0 where
  limit : y.packet.limit ≡ x.packet.limit
  windows_are : SameRoom x.tcb.sender y.tcb.sender

module _ {P : Type 0} where
  keeps_both : (x y z : Filling P) → Keeps x y → Keeps y z → Keeps x z
  keeps_both x y z h k = record { limit = k.limit ∙ h.limit; windows_are = λ w. k.windows_are (h.windows_are w) }

  keeps_ack : (b : Bool) (x : Filling P) → Keeps x (ack_if b x)
  keeps_ack true x = record { limit = limit_added (selective_ack x.tcb) x.packet; windows_are = λ w. w }
  keeps_ack false x = record { limit = refl; windows_are = λ w. w }

  keeps_acked : (x : Filling P) → Keeps x (with_ack x)
  keeps_acked x =
      let also : Bool = has_data_to_send x in
      let k = keeps_ack (is_ack_due also x.tcb.tracker.tracker.ack) (record x { tcb = take_due_ack also x.tcb }) in
      record { limit = k.limit; windows_are = k.windows_are }

  keeps_added : (b : Bool) (x : Filling P) → Keeps x (forward_added_if b x)
  keeps_added true x = record { limit = limit_added (forward_chunk x.tcb.sender) x.packet; windows_are = λ w. w }
  keeps_added false x = record { limit = refl; windows_are = λ w. w }

  keeps_due : (b : Bool) (x : Filling P) → Keeps x (forward_if b x)
  keeps_due true x = keeps_added (fits x.packet (forward_chunk x.tcb.sender)) x
  keeps_due false x = record { limit = refl; windows_are = λ w. w }

  keeps_time : (b : Bool) (x : Filling P) → Keeps x (forward_if_time b x)
  keeps_time true x =
      let y : Filling P = with_expired_abandoned x in
      let k = keeps_due (is_forward_due y.tcb.sender.outstanding.items) y in
      record { limit = k.limit; windows_are = k.windows_are }
  keeps_time false x = record { limit = refl; windows_are = λ w. w }

  keeps_of : (ids : List ℕ) (x : Filling P) → Keeps x (request_of ids x)
  keeps_of [] x = record { limit = refl; windows_are = λ w. w }
  keeps_of (id ∷ ids) x = record { limit = limit_request (request_of (id ∷ ids) x).tcb.requests.current x.packet; windows_are = λ w. w }

  keeps_request : (b : Bool) (x : Filling P) → Keeps x (request_unless b x)
  keeps_request true x = record { limit = refl; windows_are = λ w. w }
  keeps_request false x =
      let most : ℕ = most_streams x.packet in
      let k = keeps_of (streams_to_request most x.context.queue) (record x { context = record x.context { queue = request_resets most x.context.queue } }) in
      record { limit = k.limit; windows_are = k.windows_are }

  keeps_first : (x : Filling P) → Keeps x (with_request (with_forward (with_ack x)))
  keeps_first x =
      let y : Filling P = with_ack x in
      let z : Filling P = with_forward y in
      keeps_both x z (with_request z) (keeps_both x y z (keeps_acked x) (keeps_time (nat_le y.context.forward_from y.context.now) y)) (keeps_request (is_some z.tcb.requests.current) z)

  abbrev sent_of : Filling P → fragments.Filling P
  sent_of x = send x.context.now (room x.packet) x.tcb.sender x.context.queue x.context.emitted

  keeps_data : (x : Filling P) → Keeps x (with_data x)
  keeps_data x = record {
    limit = limit_all (data_chunks x.tcb (asks_at_once x.context.options x.tcb.sender) (sent_of x).chunks) x.packet;
    windows_are = room_sent x.context.now (room x.packet) x.tcb.sender x.context.queue x.context.emitted;
  }

  -- ---- bursts

  abbrev IsDone : Filling P → Type 0
  IsDone x = is_none (kept_of x.tcb.sender) ≡ true → x.context.queue.scheduler.times ≡ []

  -- an empty packet takes what there is
  takes : (x : Filling P) → x.packet.chunks ≡ [] → 44 ≤ x.packet.limit → WindowsHaveRoom x.tcb.sender.windows → IsDone (with_data x)
  takes x e l w = data_done x.context.now (room x.packet) x.tcb.sender x.context.queue x.context.emitted w (room_empty x.packet e l)

  same_queue : (b : Bool) (p : PacketDraft) (c : Context P) → (emit_if b p c).queue ≡ c.queue
  same_queue true p c = refl
  same_queue false p c = refl

  out : (x : Filling P) → IsDone x → IsDone (emit_packet x)
  out x h n = ap (λ (q : Queue). q.scheduler.times) (same_queue (has_chunks x.packet) x.packet x.context) ∙ h n

  later_by : (k : ℕ) (x : Filling P) → ((y : Filling P) → y.packet.chunks ≡ [] → 44 ≤ y.packet.limit → WindowsHaveRoom y.tcb.sender.windows → IsDone y → IsDone (burst k false false y))
      → x.packet.chunks ≡ [] → 44 ≤ x.packet.limit → WindowsHaveRoom x.tcb.sender.windows → (b : Bool)
      → IsDone (continue_burst (burst k false false) (burst_step_if b false (with_data x)))
  later_by k x ih e l w true =
      let y : Filling P = with_data x in
      let t = keeps_data x in
      ih (emit_packet y) refl (subst (λ (n : ℕ). 44 ≤ n) (sym t.limit) l) (t.windows_are w) (out y (takes x e l w))
  later_by k x ih e l w false = takes x e l w

  later : (k : ℕ) (x : Filling P) → x.packet.chunks ≡ [] → 44 ≤ x.packet.limit → WindowsHaveRoom x.tcb.sender.windows → IsDone x → IsDone (burst k false false x)
  later zero x e l w h = h
  later (suc k) x e l w h = later_by k x (later k) e l w (has_chunks (with_data x).packet)

  first_by : (k : ℕ) (x : Filling P) → 44 ≤ x.packet.limit → WindowsHaveRoom x.tcb.sender.windows → (b : Bool) → has_chunks (with_data x).packet ≡ b
      → IsDone (continue_burst (burst (suc k) false false) (burst_step_if b false (with_data x)))
  first_by k x l w true e =
      let y : Filling P = with_data x in
      let t = keeps_data x in
      let m : 44 ≤ y.packet.limit = subst (λ (n : ℕ). 44 ≤ n) (sym t.limit) l in
      later_by k (emit_packet y) (later k) refl m (t.windows_are w) (has_chunks (with_data (emit_packet y)).packet)
  first_by k x l w false e =
      takes x (none_all (data_chunks x.tcb (asks_at_once x.context.options x.tcb.sender) (sent_of x).chunks) x.packet e) l w

  bursts : (most : ℕ) (x : Filling P) → 2 ≤ most → 44 ≤ x.packet.limit → WindowsHaveRoom x.tcb.sender.windows → IsDone (burst most true false x)
  bursts zero x m l w = absurd (omega (arith, m))
  bursts (suc zero) x m l w = absurd (omega (arith, m))
  bursts (suc (suc k)) x m l w =
      let z : Filling P = with_request (with_forward (with_ack x)) in
      let t = keeps_first x in
      first_by k z (subst (λ (n : ℕ). 44 ≤ n) (sym t.limit) l) (t.windows_are w) (has_chunks (with_data z).packet) refl

  pub none_in_line : (p : PacketDraft) (t : Tcb) (c : Context P) → 2 ≤ c.options.max_burst → 44 ≤ p.limit → WindowsHaveRoom t.sender.windows → IsNoneInLine (send_with false p t c)
  none_in_line p t c m l w = bursts c.options.max_burst (record { packet = p; tcb = t; context = c }) m l w
