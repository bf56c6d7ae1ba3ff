-- Bursts: each packet takes the same under other names, and goes out written under them.
use Rattle.std.proofs.Common.{◌≡◌, ℕ, zero, suc, ◌+◌, ◌-◌, ◌*◌, ◌/◌, ◌==◌, not, nat_le, nat_lt, Bool, true, false, is_some, Option, Some, None, option_map, List, [], ◌∷◌, length, map, refl, ap, ◌∙◌}
use Rattle.sctp_serial.specs.declared.types.tsn.Tsn.{Tsn}
use Rattle.sctp_serial.specs.Unwrapped.{u32_space}
use Rattle.sctp_packet.specs.Chunk.{ChunkTree, FragmentTree, sack_chunk, forward_tsn_chunk, i_forward_tsn_chunk, fragment_chunk}
use Rattle.sctp_state.specs.RetransmissionTimeout.{rto}
use Rattle.sctp_tx_outstanding.specs.OutstandingData.{wire_tsn, fast_items}
use Rattle.sctp_tx_outstanding.specs.OutstandingData as items
use Rattle.sctp_tx_outstanding.specs.Entries.{ssn_skip, mid_skip}
use Rattle.sctp_tx_outstanding.specs.Forward.{is_forward_due}
use Rattle.sctp_rx.specs.DataTracker.{is_ack_due}
use Rattle.sctp_rx.specs.DataTracker as tracker
use Rattle.sctp_rx.specs.Sack.{gap_ack_blocks, tsns}
use Rattle.sctp_rx.specs.Sack as sacks
use Rattle.sctp_tx_queue.specs.Resets.{streams_to_request, request_resets}
use Rattle.sctp_tx.specs.RetransmissionQueue.{Sender}
use Rattle.sctp_tx.specs.Resent.{is_interleaved, resent_fast}
use Rattle.sctp_tx.specs.ForwardPoints.{point_of, forward_chunk, chunk_if}
use Rattle.sctp_tx.specs.Sending as fragments
use Rattle.sctp_tx.specs.Sending.{send}
use Rattle.spec_endpoint.specs.Association.{Tcb, Context, Packing}
use Rattle.spec_endpoint.specs.Heartbeats.{restart_interval_if}
use Rattle.spec_endpoint.specs.ResetRequests.{Request, Requests, request_chunk, start_request}
use Rattle.spec_endpoint.specs.Packets.{PacketDraft, clear_chunks, room, fits, add, add_all, has_chunks, new_packet, emit}
use Rattle.spec_endpoint.specs.Sending.{Filling, window, selective_ack, take_due_ack, without_duplicates, ack_if, has_data_to_send, with_ack, forward_later, forward_added_if, forward_if, with_expired_abandoned, forward_if_time, with_forward, most_streams, last_assigned, add_reset_breakpoint, request_started, add_request, carrying, request_of, request_at_most, request_unless, with_request, asks_at_once, with_fragments, with_data, filled_as, emit_packet, BurstStep, burst_step_if, next_packet, continue_burst, burst, AfterSending, after_sending, sent_by, send_with, send_buffered, fast_most, fast_packet, fast_if, send_lost}
use Rattle.proof_draws.specs.NamedChunks.{Names, AreNames, move_by, moved_tsn, named_chunk, named_chunks}
use Rattle.proof_draws.specs.Names.{named_packet, named_sender, named_request, named_requests, named_tcb, plain}
use Rattle.proof_draws.proofs.MovedLemmas.{moved_wire, sum_moved}
use Rattle.proof_draws.proofs.SizeLemmas.{sizes_named}
use Rattle.proof_draws.proofs.WritingLemmas.{Knows, same_fits, named_add, named_add_all, some_in, named_emit, emit_stays}
use Rattle.proof_draws.proofs.FragmentLemmas.{named_pairs, named_fragments, length_pairs, fast_chunks_named, send_fast_named, send_named}
use Rattle.proof_endpoint.proofs.SendingMapsLemmas.{filling_with, turned_with}

abbrev pub named_filling : {P : Type 0} → Names → Packing P → Filling P → Filling P
named_filling n pack x = record { packet = named_packet n x.packet; tcb = named_tcb n x.tcb; context = plain n pack x.context }

abbrev pub named_sent : {P : Type 0} → Names → Packing P → AfterSending P → AfterSending P
named_sent n pack x = record { tcb = named_tcb n x.tcb; context = plain n pack x.context }

abbrev named_turned : {P : Type 0} → Names → Packing P → BurstStep P → BurstStep P
named_turned n pack x = record { filling = named_filling n pack x.filling; is_more = x.is_more }

-- ---- chunks

abbrev sack_with : (a_rwnd cumulative : ℕ) → Tcb → List Tsn → ChunkTree
sack_with a_rwnd cumulative t duplicates = sack_chunk (record {
  cumulative_tsn_ack = cumulative;
  a_rwnd = a_rwnd;
  gap_ack_blocks = gap_ack_blocks t.tracker.tracker.seen;
  duplicate_tsns = duplicates;
})

abbrev tsn_of : ℕ → Tsn
tsn_of w = record { 0 = w }

abbrev pub with_requests : Tcb → Requests → Tcb
with_requests t r = record t { requests = r }

-- with this packet, where so many fragments were sent
abbrev filled_by : {P : Type 0} → Filling P → PacketDraft → Filling P → (count : ℕ) → Filling P
filled_by y p x count = record y { packet = p; context = record y.context { heartbeats = restart_interval_if (not (count == 0)) x.context.now x.context.heartbeats } }

module _ (n : Names) where
  tsns_named : (by first : ℕ) (ns : List ℕ) → tsns (move_by by first) ns ≡ map (moved_tsn by) (tsns first ns)
  tsns_named by first [] = refl
  tsns_named by first (k ∷ ks) =
      ap (λ (w : ℕ). tsn_of w ∷ tsns (move_by by first) ks) (moved_wire by first k) ∙ ap (λ (ts : List Tsn). moved_tsn by (sacks.tsn first k) ∷ ts) (tsns_named by first ks)

  pub ack_named : (t : Tcb) → selective_ack (named_tcb n t) ≡ named_chunk n (selective_ack t)
  ack_named t =
      let a_rwnd : ℕ = window t.reassembly in
      ap (λ (w : ℕ). sack_with a_rwnd w t (tsns (move_by n.peer t.tracker.first) t.tracker.tracker.duplicates)) (moved_wire n.peer t.tracker.first t.tracker.tracker.seen.front)
      ∙ ap (λ (ts : List Tsn). sack_with a_rwnd (move_by n.peer (tracker.wire_tsn t.tracker t.tracker.tracker.seen.front)) t ts) (tsns_named n.peer t.tracker.first t.tracker.tracker.duplicates)

  point_named : (is_interleaved : Bool) (s : Sender) → chunk_if is_interleaved (named_sender n s) ≡ named_chunk n (chunk_if is_interleaved s)
  point_named true s =
      ap (λ (w : ℕ). i_forward_tsn_chunk w (map mid_skip (point_of s).entries)) (moved_wire n.own s.outstanding.first (s.outstanding.items.acked + (point_of s).count))
  point_named false s =
      ap (λ (w : ℕ). forward_tsn_chunk w (map ssn_skip (point_of s).entries)) (moved_wire n.own s.outstanding.first (s.outstanding.items.acked + (point_of s).count))

  forward_named : (s : Sender) → forward_chunk (named_sender n s) ≡ named_chunk n (forward_chunk s)
  forward_named s = point_named (is_interleaved s) s

  -- a request to reset streams
  pub started_named : (now : ℕ) (streams : List ℕ) (t : Tcb) → request_started now streams (named_tcb n t) ≡ named_tcb n (request_started now streams t)
  started_named now streams t =
      let s : Sender = add_reset_breakpoint t.sender in
      let r : Requests = named_requests n t.requests in
      let u : Tcb = named_tcb n (request_started now streams t) in
      ap (λ (w : ℕ). with_requests u (start_request now (rto t.rtt) w streams r)) (moved_wire n.own s.outstanding.first (items.next_number s.outstanding.items - 1))
      ∙ ap (λ (next : ℕ). with_requests u (record (start_request now (rto t.rtt) (move_by n.own (last_assigned s)) streams r) { next = next })) (sum_moved u32_space t.requests.next 1 n.own)

  pub data_named : (m is_immediate : Bool) (cs : List (ℕ × FragmentTree))
      → map (fragment_chunk m is_immediate) (named_pairs n cs) ≡ named_chunks n (map (fragment_chunk m is_immediate) cs)
  data_named m is_immediate [] = refl
  data_named true is_immediate (c ∷ cs) = ap (λ (xs : List ChunkTree). named_chunk n (fragment_chunk true is_immediate c) ∷ xs) (data_named true is_immediate cs)
  data_named false is_immediate (c ∷ cs) = ap (λ (xs : List ChunkTree). named_chunk n (fragment_chunk false is_immediate c) ∷ xs) (data_named false is_immediate cs)

-- ---- what a packet is filled with

module _ {P : Type 0} (n : Names) (are : AreNames n) (pack : Packing P) where
  ack_if_named : (b : Bool) (x : Filling P) → ack_if b (named_filling n pack x) ≡ named_filling n pack (ack_if b x)
  ack_if_named true x =
      let t : Tcb = named_tcb n (without_duplicates x.tcb) in
      ap (λ (c : ChunkTree). filling_with (add c (named_packet n x.packet)) t (plain n pack x.context)) (ack_named n x.tcb)
      ∙ ap (λ (p : PacketDraft). filling_with p t (plain n pack x.context)) (named_add n are (selective_ack x.tcb) x.packet)
  ack_if_named false x = refl

  pub with_ack_named : (x : Filling P) → with_ack (named_filling n pack x) ≡ named_filling n pack (with_ack x)
  with_ack_named x = ack_if_named (is_ack_due (has_data_to_send x) x.tcb.tracker.tracker.ack) (record x { tcb = take_due_ack (has_data_to_send x) x.tcb })

  forward_added_named : (b : Bool) (x : Filling P) → forward_added_if b (named_filling n pack x) ≡ named_filling n pack (forward_added_if b x)
  forward_added_named true x =
      let c : Context P = plain n pack (forward_later x.tcb x.context) in
      ap (λ (k : ChunkTree). filling_with (add k (named_packet n x.packet)) (named_tcb n x.tcb) c) (forward_named n x.tcb.sender)
      ∙ ap (λ (p : PacketDraft). filling_with p (named_tcb n x.tcb) c) (named_add n are (forward_chunk x.tcb.sender) x.packet)
  forward_added_named false x = refl

  forward_if_named : (b : Bool) (x : Filling P) → forward_if b (named_filling n pack x) ≡ named_filling n pack (forward_if b x)
  forward_if_named true x =
      let y : Filling P = named_filling n pack x in
      ap (λ (k : ChunkTree). forward_added_if (fits y.packet k) y) (forward_named n x.tcb.sender)
      ∙ (ap (λ (b : Bool). forward_added_if b y) (same_fits n are x.packet (forward_chunk x.tcb.sender))
      ∙ forward_added_named (fits x.packet (forward_chunk x.tcb.sender)) x)
  forward_if_named false x = refl

  tested_if_named : (b : Bool) (x : Filling P) → forward_if_time b (named_filling n pack x) ≡ named_filling n pack (forward_if_time b x)
  tested_if_named true x = forward_if_named (is_forward_due (with_expired_abandoned x).tcb.sender.outstanding.items) (with_expired_abandoned x)
  tested_if_named false x = refl

  with_forward_named : (x : Filling P) → with_forward (named_filling n pack x) ≡ named_filling n pack (with_forward x)
  with_forward_named x = tested_if_named (nat_le x.context.forward_from x.context.now) x

  pub add_request_named : (o : Option Request) (p : PacketDraft) → add_request (option_map (named_request n) o) (named_packet n p) ≡ named_packet n (add_request o p)
  add_request_named None p = refl
  add_request_named (Some r) p = named_add n are (request_chunk r) p

  carrying_named : (t : Tcb) (x : Filling P) → carrying (named_tcb n t) (named_filling n pack x) ≡ named_filling n pack (carrying t x)
  carrying_named t x = ap (λ (p : PacketDraft). filling_with p (named_tcb n t) (plain n pack x.context)) (add_request_named t.requests.current x.packet)

  request_of_named : (streams : List ℕ) (x : Filling P) → request_of streams (named_filling n pack x) ≡ named_filling n pack (request_of streams x)
  request_of_named [] x = refl
  request_of_named (id ∷ ids) x =
      ap (λ (t : Tcb). carrying t (named_filling n pack x)) (started_named n x.context.now (id ∷ ids) x.tcb)
      ∙ carrying_named (request_started x.context.now (id ∷ ids) x.tcb) x

  most_named : (p : PacketDraft) → room (named_packet n p) ≡ room p
  most_named p = ap (λ (k : ℕ). p.limit - (12 + k)) (sizes_named n are p.chunks)

  request_at_named : (most : ℕ) (x : Filling P) → request_at_most most (named_filling n pack x) ≡ named_filling n pack (request_at_most most x)
  request_at_named most x =
      request_of_named (streams_to_request most x.context.queue) (record x { context = record x.context { queue = request_resets most x.context.queue } })

  request_if_named : (b : Bool) (x : Filling P) → request_unless b (named_filling n pack x) ≡ named_filling n pack (request_unless b x)
  request_if_named true x = refl
  request_if_named false x =
      ap (λ (k : ℕ). request_at_most ((k / 4 * 4 - 20) / 2) (named_filling n pack x)) (most_named x.packet) ∙ request_at_named (most_streams x.packet) x

  some_request : (o : Option Request) → is_some (option_map (named_request n) o) ≡ is_some o
  some_request None = refl
  some_request (Some r) = refl

  with_request_named : (x : Filling P) → with_request (named_filling n pack x) ≡ named_filling n pack (with_request x)
  with_request_named x =
      ap (λ (b : Bool). request_unless b (named_filling n pack x)) (some_request x.tcb.requests.current) ∙ request_if_named (is_some x.tcb.requests.current) x

  filled_named : (f : fragments.Filling P) (x : Filling P) → with_fragments (named_fragments n f) (named_filling n pack x) ≡ named_filling n pack (with_fragments f x)
  filled_named f x =
      let y : Filling P = named_filling n pack (with_fragments f x) in
      let m : Bool = x.tcb.capabilities.message_interleaving in
      let small : Bool = asks_at_once x.context.options x.tcb.sender in
      ap (λ (k : ℕ). filled_by y (add_all (map (fragment_chunk m small) (named_pairs n f.chunks)) (named_packet n x.packet)) x k) (length_pairs n f.chunks)
      ∙ (ap (λ (cs : List ChunkTree). filled_by y (add_all cs (named_packet n x.packet)) x (length f.chunks)) (data_named n m small f.chunks)
      ∙ ap (λ (p : PacketDraft). filled_by y p x (length f.chunks)) (named_add_all n are (map (fragment_chunk m small) f.chunks) x.packet))

  with_data_named : (x : Filling P) → with_data (named_filling n pack x) ≡ named_filling n pack (with_data x)
  with_data_named x =
      let c : Context P = x.context in
      ap (λ (k : ℕ). with_fragments (send c.now k (named_sender n x.tcb.sender) c.queue c.emitted) (named_filling n pack x)) (most_named x.packet)
      ∙ (ap (λ (f : fragments.Filling P). with_fragments f (named_filling n pack x)) (send_named n c.now (room x.packet) x.tcb.sender c.queue c.emitted)
      ∙ filled_named (send c.now (room x.packet) x.tcb.sender c.queue c.emitted) x)

  filled_as_named : (is_first : Bool) (x : Filling P) → filled_as is_first (named_filling n pack x) ≡ named_filling n pack (filled_as is_first x)
  filled_as_named true x =
      let y : Filling P = with_ack x in
      let r : Filling P = with_forward y in
      ap (λ (z : Filling P). with_data (with_request (with_forward z))) (with_ack_named x)
      ∙ (ap (λ (z : Filling P). with_data (with_request z)) (with_forward_named y)
      ∙ (ap (λ (z : Filling P). with_data z) (with_request_named r) ∙ with_data_named (with_request r)))
  filled_as_named false x = with_data_named x

-- ---- who writes stays

module _ {P : Type 0} where
  ack_stays : (b : Bool) (x : Filling P) → (ack_if b x).context.pack ≡ x.context.pack
  ack_stays true x = refl
  ack_stays false x = refl

  forward_added_stays : (b : Bool) (x : Filling P) → (forward_added_if b x).context.pack ≡ x.context.pack
  forward_added_stays true x = refl
  forward_added_stays false x = refl

  forward_stays : (b : Bool) (x : Filling P) → (forward_if b x).context.pack ≡ x.context.pack
  forward_stays true x = forward_added_stays (fits x.packet (forward_chunk x.tcb.sender)) x
  forward_stays false x = refl

  tested_stays : (b : Bool) (x : Filling P) → (forward_if_time b x).context.pack ≡ x.context.pack
  tested_stays true x = forward_stays (is_forward_due (with_expired_abandoned x).tcb.sender.outstanding.items) (with_expired_abandoned x)
  tested_stays false x = refl

  request_of_stays : (streams : List ℕ) (x : Filling P) → (request_of streams x).context.pack ≡ x.context.pack
  request_of_stays [] x = refl
  request_of_stays (id ∷ ids) x = refl

  request_stays : (b : Bool) (x : Filling P) → (request_unless b x).context.pack ≡ x.context.pack
  request_stays true x = refl
  request_stays false x =
      let most : ℕ = most_streams x.packet in
      request_of_stays (streams_to_request most x.context.queue) (record x { context = record x.context { queue = request_resets most x.context.queue } })

  filled_stays : (is_first : Bool) (x : Filling P) → (filled_as is_first x).context.pack ≡ x.context.pack
  filled_stays true x =
      let y : Filling P = with_ack x in
      let r : Filling P = with_forward y in
      request_stays (is_some r.tcb.requests.current) r
      ∙ (tested_stays (nat_le y.context.forward_from y.context.now) y
      ∙ ack_stays (is_ack_due (has_data_to_send x) x.tcb.tracker.tracker.ack) (record x { tcb = take_due_ack (has_data_to_send x) x.tcb }))
  filled_stays false x = refl

  turned_if_stays : (b is_alone : Bool) (x : Filling P) → (burst_step_if b is_alone x).filling.context.pack ≡ x.context.pack
  turned_if_stays true is_alone x = emit_stays x.packet x.context
  turned_if_stays false is_alone x = refl

  turned_stays : (is_first is_alone : Bool) (x : Filling P) → (next_packet is_first is_alone x).filling.context.pack ≡ x.context.pack
  turned_stays is_first is_alone x = let y : Filling P = filled_as is_first x in turned_if_stays (has_chunks y.packet) is_alone y ∙ filled_stays is_first x

  go_on_stays : (rest : Filling P → Filling P) (b : Bool) (x : Filling P) → ((y : Filling P) → (rest y).context.pack ≡ y.context.pack)
      → (continue_burst rest (turned_with b x)).context.pack ≡ x.context.pack
  go_on_stays rest true x h = h x
  go_on_stays rest false x h = refl

  burst_stays : (most : ℕ) (is_first is_alone : Bool) (x : Filling P) → (burst most is_first is_alone x).context.pack ≡ x.context.pack
  burst_stays zero is_first is_alone x = refl
  burst_stays (suc most) is_first is_alone x =
      let t : BurstStep P = next_packet is_first is_alone x in
      go_on_stays (burst most false is_alone) t.is_more t.filling (burst_stays most false is_alone) ∙ turned_stays is_first is_alone x

  pub send_with_stays : (is_alone : Bool) (p : PacketDraft) (t : Tcb) (c : Context P) → (send_with is_alone p t c).context.pack ≡ c.pack
  send_with_stays is_alone p t c = burst_stays c.options.max_burst true is_alone (filling_with p t c)

-- ---- bursts

module _ {P : Type 0} (n : Names) (are : AreNames n) (pack : Packing P) where
  emitted_named : (x : Filling P) → Knows n pack x.context → emit_packet (named_filling n pack x) ≡ named_filling n pack (emit_packet x)
  emitted_named x k = ap (λ (c : Context P). filling_with (named_packet n (clear_chunks x.packet)) (named_tcb n x.tcb) c) (named_emit n are pack x.packet x.context k)

  turned_if_named : (b is_alone : Bool) (x : Filling P) → Knows n pack x.context → burst_step_if b is_alone (named_filling n pack x) ≡ named_turned n pack (burst_step_if b is_alone x)
  turned_if_named true is_alone x k = ap (λ (y : Filling P). turned_with (not is_alone) y) (emitted_named x k)
  turned_if_named false is_alone x k = refl

  turned_named : (is_first is_alone : Bool) (x : Filling P) → Knows n pack x.context → next_packet is_first is_alone (named_filling n pack x) ≡ named_turned n pack (next_packet is_first is_alone x)
  turned_named is_first is_alone x k =
      let y : Filling P = filled_as is_first x in
      ap (λ (z : Filling P). burst_step_if (has_chunks z.packet) is_alone z) (filled_as_named n are pack is_first x)
      ∙ (ap (λ (b : Bool). burst_step_if b is_alone (named_filling n pack y)) (some_in n are y.packet)
      ∙ turned_if_named (has_chunks y.packet) is_alone y (filled_stays is_first x ∙ k))

  go_on_named : (rest : Filling P → Filling P) (b : Bool) (x : Filling P) → (rest (named_filling n pack x) ≡ named_filling n pack (rest x))
      → continue_burst rest (turned_with b (named_filling n pack x)) ≡ named_filling n pack (continue_burst rest (turned_with b x))
  go_on_named rest true x h = h
  go_on_named rest false x h = refl

  burst_named : (most : ℕ) (is_first is_alone : Bool) (x : Filling P) → Knows n pack x.context
      → burst most is_first is_alone (named_filling n pack x) ≡ named_filling n pack (burst most is_first is_alone x)
  burst_named zero is_first is_alone x k = refl
  burst_named (suc most) is_first is_alone x k =
      let t : BurstStep P = next_packet is_first is_alone x in
      ap (λ (y : BurstStep P). continue_burst (burst most false is_alone) y) (turned_named is_first is_alone x k)
      ∙ go_on_named (burst most false is_alone) t.is_more t.filling (burst_named most false is_alone t.filling (turned_stays is_first is_alone x ∙ k))

  pub send_with_named : (is_alone : Bool) (p : PacketDraft) (t : Tcb) (c : Context P) → Knows n pack c
      → send_with is_alone (named_packet n p) (named_tcb n t) (plain n pack c) ≡ named_sent n pack (send_with is_alone p t c)
  send_with_named is_alone p t c k = ap (λ (x : Filling P). sent_by x) (burst_named c.options.max_burst true is_alone (filling_with p t c) k)

  pub send_buffered_named : (is_alone : Bool) (t : Tcb) (c : Context P) → Knows n pack c
      → send_buffered is_alone (named_tcb n t) (plain n pack c) ≡ named_sent n pack (send_buffered is_alone t c)
  send_buffered_named is_alone t c k = send_with_named is_alone (new_packet c.options t) t c k

  -- ---- the packet of what was lost

  fast_packet_named : (t : Tcb) (c : Context P) → fast_packet c.options (named_tcb n t) ≡ named_packet n (fast_packet c.options t)
  fast_packet_named t c =
      let m : Bool = t.capabilities.message_interleaving in
      let p : PacketDraft = named_packet n (new_packet c.options t) in
      let cs : List (ℕ × FragmentTree) = (resent_fast (fast_most c.options) t.sender).chunks in
      ap (λ (xs : List (ℕ × FragmentTree)). add_all (map (fragment_chunk m false) xs) p) (fast_chunks_named n (fast_most c.options) t.sender)
      ∙ (ap (λ (xs : List ChunkTree). add_all xs p) (data_named n m false cs) ∙ named_add_all n are (map (fragment_chunk m false) cs) (new_packet c.options t))

  fast_if_named : (b : Bool) (t : Tcb) (c : Context P) → Knows n pack c → fast_if b (named_tcb n t) (plain n pack c) ≡ named_sent n pack (fast_if b t c)
  fast_if_named true t c k =
      let u : Tcb = named_tcb n t in
      ap (λ (s : Sender). after_sending (record u { sender = s }) (emit (fast_packet c.options u) (plain n pack c))) (send_fast_named n c.now (fast_most c.options) t.sender)
      ∙ (ap (λ (p : PacketDraft). after_sending (named_tcb n (fast_if true t c).tcb) (emit p (plain n pack c))) (fast_packet_named t c)
      ∙ ap (λ (d : Context P). after_sending (named_tcb n (fast_if true t c).tcb) d) (named_emit n are pack (fast_packet c.options t) c k))
  fast_if_named false t c k = refl

  pub send_lost_named : (t : Tcb) (c : Context P) → Knows n pack c → send_lost (named_tcb n t) (plain n pack c) ≡ named_sent n pack (send_lost t c)
  send_lost_named t c k = fast_if_named (nat_lt 0 (fast_items t.sender.outstanding.items)) t c k

module _ {P : Type 0} where
  fast_if_stays : (b : Bool) (t : Tcb) (c : Context P) → (fast_if b t c).context.pack ≡ c.pack
  fast_if_stays true t c = emit_stays (fast_packet c.options t) c
  fast_if_stays false t c = refl

  pub send_lost_stays : (t : Tcb) (c : Context P) → (send_lost t c).context.pack ≡ c.pack
  send_lost_stays t c = fast_if_stays (nat_lt 0 (fast_items t.sender.outstanding.items)) t c
