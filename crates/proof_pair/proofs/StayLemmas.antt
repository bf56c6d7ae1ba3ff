-- What stays as a control block was made, whatever is sent, received and lost.
use Rattle.std.proofs.Common.{◌≡◌, ℕ, zero, suc, ◌-◌, ◌&&◌, ◌||◌, nat_le, Bool, true, false, cond, Option, Some, None, unwrap_or, option_map, List, [], ◌∷◌, length, slice_get, refl, ◌∙◌, ◌==◌}
use Rattle.sctp_serial.specs.declared.api.StreamId.{StreamId}
use Rattle.sctp_serial.specs.declared.types.StreamKey.TheVariants.{Ordered, Unordered}
use Rattle.sctp_chunk.specs.declared.forward_tsn.SkippedStream.{SkippedStream}
use Rattle.sctp_chunk.specs.declared.forward_tsn.SkippedStream.TheVariants.{ForwardTsn, IForwardTsn}
use Rattle.sctp_chunk.specs.declared.sack.GapAckBlock.{GapAckBlock}
use Rattle.sctp_packet.specs.Chunk.{FragmentTree}
use Rattle.sctp_state.specs.declared.api.GivenUpCause.TheVariants.{Retransmissions}
use Rattle.sctp_state.specs.Events.{Emitted}
use Rattle.sctp_rx.specs.Held.{Held}
use Rattle.sctp_rx.specs.Delivery.{fresh_ordered, fresh_unordered, ordered_arrival, ordered_forward, unordered_arrival, unordered_forward}
use Rattle.sctp_rx.specs.ReassemblyStreams.{Streams, stream_at, set_stream, is_far, unchanged, with_ordered, with_unordered, add_in_order, ordered_number, unordered_number, held_as, skip_ordered, skip_unordered, skip_of, skip, skip_each, by_stream, dropped_to, entries_in}
use Rattle.sctp_rx.specs.ReassemblyStreams as streams
use Rattle.sctp_rx.specs.ReassemblyQueue.{Waiting, Added, Forwarded, Reassembly, add_now, forward_now, keep_back, came, is_kept_back, add_or_keep_back, point_waits, forward_or_wait, apply, apply_each, waiting_in, wait_with, resetting}
use Rattle.sctp_rx.specs.ReassemblyQueue as reassembly
use Rattle.sctp_tx_outstanding.specs.declared.item.MissIndication.{MissIndication}
use Rattle.sctp_tx_outstanding.specs.declared.item.MissIndication.TheVariants.{Timeout}
use Rattle.sctp_tx_outstanding.specs.Item.{Item, nack, is_fast, should_be_retransmitted}
use Rattle.sctp_tx_outstanding.specs.OutstandingData.{Items, Outstanding}
use Rattle.sctp_tx_outstanding.specs.Losses.{Step, abandon_with_record, given_up_if, change_items, loses, is_to_be_abandoned, nack_item, nack_at, nack_below, nack_all, expired_at, expire_at, expire_below, expire_outstanding}
use Rattle.sctp_tx_outstanding.specs.Sack.{report_by, receive_sack, receive_sack_first, staying, reported_below}
use Rattle.sctp_tx_outstanding.specs.Resending.{Resent, size_in, allowance, again_of, fast_turn, queued_turn, turn_of, apply_turn, step_at, resent_below, resend}
use Rattle.sctp_tx.specs.RetransmissionQueue.{Sender}
use Rattle.sctp_tx.specs.Resent.{start_t3_if, start_t3_if_sent, resent_fast, send_fast, resent_by}
use Rattle.spec_endpoint.specs.Association.{Tcb}

-- ---- items

pub record Alike (s r : Items) : Type 0 where
  pub partial : r.is_partial ≡ s.is_partial
  pub mode : r.is_interleaved ≡ s.is_interleaved

alike_same : (s : Items) → Alike s s
alike_same s = record { partial = refl; mode = refl }

alike_then : (s r q : Items) → Alike s r → Alike r q → Alike s q
alike_then s r q a b = record { partial = b.partial ∙ a.partial; mode = b.mode ∙ a.mode }

module _ {P : Type 0} where
  alike_item : (indication : MissIndication) (fast : Bool) (k : ℕ) (i : Item) (x : Step P) → Alike x.items (nack_item indication fast k i x).items
  alike_item indication fast k i x = go (is_to_be_abandoned x.items.is_partial indication i)
    where
      go : (b : Bool) → Alike x.items (cond b (abandon_with_record i.number (Retransmissions (i.sent - 1)) x)
          (record x { items = change_items k (nack indication fast) x.items; is_lossy = x.is_lossy || loses indication i })).items
      go true = record { partial = refl; mode = refl }
      go false = record { partial = refl; mode = refl }

  alike_at : (indication : MissIndication) (fast : Bool) (k : ℕ) (x : Step P) → Alike x.items (nack_at indication fast k x).items
  alike_at indication fast k x = go (slice_get x.items.kept k)
    where
      go : (o : Option Item) → Alike x.items (unwrap_or (option_map (λ i. nack_item indication fast k i x) o) x).items
      go None = alike_same x.items
      go (Some i) = alike_item indication fast k i x

  alike_below : (indication : MissIndication) (fast : Bool) (n : ℕ) (x : Step P) → Alike x.items (nack_below indication fast n x).items
  alike_below indication fast zero x = alike_same x.items
  alike_below indication fast (suc n) x =
      let y : Step P = nack_below indication fast n x in
      alike_then x.items y.items (nack_at indication fast n y).items (alike_below indication fast n x) (alike_at indication fast n y)

  pub alike_all : (s : Items) (t : Emitted P) → Alike s (nack_all s t).items
  alike_all s t = alike_below Timeout false (length s.kept) (record { items = s; emitted = t; is_lossy = false })

  alike_expired : (o : Option ℕ) (x : Step P) → Alike x.items (given_up_if o x).items
  alike_expired None x = alike_same x.items
  alike_expired (Some n) x = record { partial = refl; mode = refl }

  alike_expire : (now n : ℕ) (x : Step P) → Alike x.items (expire_below now n x).items
  alike_expire now zero x = alike_same x.items
  alike_expire now (suc n) x =
      let y : Step P = expire_below now n x in
      alike_then x.items y.items (expire_at now n y).items (alike_expire now n x) (alike_expired (expired_at now n y.items) y)

  pub alike_outstanding : (now : ℕ) (s : Items) (t : Emitted P) → Alike s (expire_outstanding now s t).items
  alike_outstanding now s t = alike_expire now (length s.kept) (record { items = s; emitted = t; is_lossy = false })

  pub alike_received : (n : ℕ) (blocks : List GapAckBlock) (once fast : Bool) (s : Items) (t : Emitted P) → Alike s (receive_sack n blocks once fast s t).items
  alike_received n blocks once fast s t =
      let y : Step P = receive_sack_first n blocks s t in
      alike_then s y.items (receive_sack n blocks once fast s t).items (record { partial = refl; mode = refl }) (alike_below (report_by once n blocks s) _ (reported_below blocks (staying n s)) y)

-- with the first TSN
pub record Stays (d e : Outstanding) : Type 0 where
  pub first : e.first ≡ d.first
  pub items : Alike d.items e.items

pub stays_same : (d : Outstanding) → Stays d d
stays_same d = record { first = refl; items = alike_same d.items }

pub stays_then : (d e f : Outstanding) → Stays d e → Stays e f → Stays d f
stays_then d e f a b = record { first = b.first ∙ a.first; items = alike_then d.items e.items f.items a.items b.items }

stays_again : (k : ℕ) (o : Option Item) (x : Resent) → Stays x.outstanding (again_of k o x).outstanding
stays_again k None x = stays_same x.outstanding
stays_again k (Some i) x = record { first = refl; items = record { partial = refl; mode = refl } }

stays_fast_action : (i : Item) (k : ℕ) (x : Resent) → Stays x.outstanding (apply_turn (fast_turn i x) k x).outstanding
stays_fast_action i k x = go (is_fast i) refl (nat_le (size_in x i) x.room) refl
  where
    go : (b : Bool) → is_fast i ≡ b → (d : Bool) → nat_le (size_in x i) x.room ≡ d → Stays x.outstanding (apply_turn (fast_turn i x) k x).outstanding
    go true e true f = rw (e, f) (stays_again k (slice_get x.outstanding.items.kept k) x)
    go true e false f = rw (e, f) (record { first = refl; items = record { partial = refl; mode = refl } })
    go false e d f = rw e (stays_same x.outstanding)

stays_queued_action : (i : Item) (k : ℕ) (x : Resent) → Stays x.outstanding (apply_turn (queued_turn i x) k x).outstanding
stays_queued_action i k x = go (should_be_retransmitted i && nat_le (size_in x i) (allowance x)) refl
  where
    go : (b : Bool) → (should_be_retransmitted i && nat_le (size_in x i) (allowance x)) ≡ b → Stays x.outstanding (apply_turn (queued_turn i x) k x).outstanding
    go true e = rw e (stays_again k (slice_get x.outstanding.items.kept k) x)
    go false e = rw e (stays_same x.outstanding)

stays_action : (fast : Bool) (o : Option Item) (k : ℕ) (x : Resent) → Stays x.outstanding (apply_turn (turn_of fast o x) k x).outstanding
stays_action fast None k x = stays_same x.outstanding
stays_action true (Some i) k x = stays_fast_action i k x
stays_action false (Some i) k x = stays_queued_action i k x

stays_below : (fast : Bool) (n : ℕ) (x : Resent) → Stays x.outstanding (resent_below fast n x).outstanding
stays_below fast zero x = stays_same x.outstanding
stays_below fast (suc n) x =
    let y : Resent = resent_below fast n x in
    stays_then x.outstanding y.outstanding (step_at fast n y).outstanding (stays_below fast n x) (stays_action fast (slice_get y.outstanding.items.kept n) n y)

pub stays_resent : (fast : Bool) (room window : ℕ) (d : Outstanding) → Stays d (resend fast room window d).outstanding
stays_resent fast room window d = stays_below fast (length d.items.kept) (record { outstanding = d; chunks = []; room = room; window = window })

stays_timed_if : (b : Bool) (now : ℕ) (s : Sender) → Stays s.outstanding (start_t3_if b now s).outstanding
stays_timed_if true now s = stays_same s.outstanding
stays_timed_if false now s = stays_same s.outstanding

pub stays_timed : (now : ℕ) (chunks : List (ℕ × FragmentTree)) (s : Sender) → Stays s.outstanding (start_t3_if_sent now chunks s).outstanding
stays_timed now chunks s = stays_timed_if _ now s

-- ---- streams that are received

abbrev mode_of : Streams → Bool
mode_of ss = ss.is_interleaved

add_mode : (n : ℕ) (f : FragmentTree) (ss : Streams) → mode_of (streams.add n f ss).streams ≡ mode_of ss
add_mode n f ss = go f.is_unordered
  where
    ordered : (b : Bool) (h : Held) → mode_of (cond b (unchanged ss) (with_ordered f.stream_id (ordered_arrival h (stream_at fresh_ordered f.stream_id ss.ordered)) ss)).streams ≡ mode_of ss
    ordered true h = refl
    ordered false h = refl

    unordered : (b : Bool) (h : Held) → mode_of (cond b (unchanged ss) (with_unordered f.stream_id (unordered_arrival h (stream_at fresh_unordered f.stream_id ss.unordered)) ss)).streams ≡ mode_of ss
    unordered true h = refl
    unordered false h = refl

    go : (b : Bool) → mode_of (add_in_order b n f ss).streams ≡ mode_of ss
    go false =
        let h : Held = held_as ss.is_interleaved (ordered_number ss.is_interleaved f (stream_at fresh_ordered f.stream_id ss.ordered)) n f in
        ordered (is_far h.number) h
    go true =
        let h : Held = held_as ss.is_interleaved (unordered_number ss.is_interleaved f (stream_at fresh_unordered f.stream_id ss.unordered)) n f in
        unordered (is_far h.number) h

skip_ordered_mode : (id n : ℕ) (ss : Streams) → mode_of (skip_ordered id n ss).streams ≡ mode_of ss
skip_ordered_mode id n ss = go (is_far n)
  where
    go : (b : Bool) → mode_of (cond b (unchanged ss) (with_ordered id (ordered_forward n (stream_at fresh_ordered id ss.ordered)) ss)).streams ≡ mode_of ss
    go true = refl
    go false = refl

skip_unordered_mode : (id n : ℕ) (ss : Streams) → mode_of (skip_unordered id n ss).streams ≡ mode_of ss
skip_unordered_mode id n ss = go (is_far n)
  where
    go : (b : Bool) → mode_of (cond b (unchanged ss)
        (record { streams = record ss { unordered = set_stream fresh_unordered id (unordered_forward n (stream_at fresh_unordered id ss.unordered)) ss.unordered }; messages = [] })).streams ≡ mode_of ss
    go true = refl
    go false = refl

skip_of_mode : (b : Bool) (e : SkippedStream) (ss : Streams) → mode_of (skip_of b e ss).streams ≡ mode_of ss
skip_of_mode false (ForwardTsn id ssn) ss = skip_ordered_mode id.0 _ ss
skip_of_mode false (IForwardTsn key mid) ss = refl
skip_of_mode true (ForwardTsn id ssn) ss = refl
skip_of_mode true (IForwardTsn (Ordered id) mid) ss = skip_ordered_mode id.0 _ ss
skip_of_mode true (IForwardTsn (Unordered id) mid) ss = skip_unordered_mode id.0 _ ss

skip_each_mode : (es : List SkippedStream) (ss : Streams) → mode_of (skip_each es ss).streams ≡ mode_of ss
skip_each_mode [] ss = refl
skip_each_mode (e ∷ es) ss = skip_each_mode es (skip e ss).streams ∙ skip_of_mode ss.is_interleaved e ss

forward_mode : (n : ℕ) (es : List SkippedStream) (ss : Streams) → mode_of (streams.forward n es ss).streams ≡ mode_of ss
forward_mode n es ss = skip_each_mode (by_stream es) (dropped_to n ss)

-- ---- reassembly

abbrev mode_in : Reassembly → Bool
mode_in r = r.streams.is_interleaved

pub added_mode : (tsn : ℕ) (f : FragmentTree) (r : Reassembly) → mode_in (reassembly.add tsn f r) ≡ mode_in r
added_mode tsn f r = far (is_far (reassembly.number_of r tsn))
  where
    n : ℕ
    n = reassembly.number_of r tsn

    q : Reassembly
    q = came tsn r

    late : (b : Bool) → mode_in (cond b (keep_back (Added n f) q) (add_now n f q)) ≡ mode_in r
    late true = refl
    late false = add_mode n f r.streams

    far : (b : Bool) → mode_in (cond b r (add_or_keep_back n f q)) ≡ mode_in r
    far true = refl
    far false = late (is_kept_back n f.stream_id q.deferred)

pub forwarded_mode : (tsn : ℕ) (es : List SkippedStream) (r : Reassembly) → mode_in (reassembly.forward tsn es r) ≡ mode_in r
forwarded_mode tsn es r = far (is_far (reassembly.number_of r tsn))
  where
    n : ℕ
    n = reassembly.number_of r tsn

    q : Reassembly
    q = came tsn r

    named : List SkippedStream
    named = entries_in true (resetting q.deferred) es

    others : List SkippedStream
    others = entries_in false (resetting q.deferred) es

    part : Reassembly
    part = forward_now n others q

    kept : (b : Bool) → mode_in (cond b part (keep_back (Forwarded n named) part)) ≡ mode_in r
    kept true = forward_mode n others r.streams
    kept false = forward_mode n others r.streams

    late : (b : Bool) → mode_in (cond b (wait_with n named part) (forward_now n es q)) ≡ mode_in r
    late true = kept ((length named == 0) && (length (waiting_in part.deferred) == 0))
    late false = forward_mode n es r.streams

    far : (b : Bool) → mode_in (cond b r (forward_or_wait n es q)) ≡ mode_in r
    far true = refl
    far false = late (point_waits n q.deferred)

apply_mode : (w : Waiting) (r : Reassembly) → mode_in (apply w r) ≡ mode_in r
apply_mode (Added n f) r = add_mode n f r.streams
apply_mode (Forwarded n es) r = forward_mode n es r.streams

apply_each_mode : (ws : List Waiting) (r : Reassembly) → mode_in (apply_each ws r) ≡ mode_in r
apply_each_mode [] r = refl
apply_each_mode (w ∷ ws) r = apply_each_mode ws (apply w r) ∙ apply_mode w r

pub reset_mode : (ids : List StreamId) (r : Reassembly) → mode_in (reassembly.reset ids r) ≡ mode_in r
reset_mode ids r = apply_each_mode (waiting_in r.deferred) (record r { streams = streams.reset ids r.streams; deferred = None })

-- ---- the control block

pub record Lasts (t u : Tcb) : Type 0 where
  pub identity : u.identity ≡ t.identity
  pub capabilities : u.capabilities ≡ t.capabilities
  pub received : u.tracker.first ≡ t.tracker.first
  pub sent : Stays t.sender.outstanding u.sender.outstanding
  pub mode : u.reassembly.streams.is_interleaved ≡ t.reassembly.streams.is_interleaved

pub lasts_same : (t : Tcb) → Lasts t t
lasts_same t = record { identity = refl; capabilities = refl; received = refl; sent = stays_same t.sender.outstanding; mode = refl }

-- with another tracker, reassembly, sender, round trip and requests
pub lasts_sent : (t : Tcb) (s : Sender) → Stays t.sender.outstanding s.outstanding → Lasts t (record t { sender = s })
lasts_sent t s h = record { identity = refl; capabilities = refl; received = refl; sent = h; mode = refl }

pub stays_fast : (now most : ℕ) (s : Sender) → Stays s.outstanding (send_fast now most s).outstanding
stays_fast now most s =
    let x = resent_fast most s in
    stays_then s.outstanding x.outstanding (send_fast now most s).outstanding (stays_resent true most 0 s.outstanding) (stays_timed now x.chunks (resent_by s x))
