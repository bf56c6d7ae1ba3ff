-- The walk over the rows: packets and bursts.
use Rattle.std.proofs.Common.{◌≡◌, ℕ, ◌<◌, ◌^◌, arith, zero, suc, nat_le, nat_lt, Bool, true, false, Option, Some, None, is_some, List, [], ◌∷◌, refl, ap}
use Rattle.std.specs.List.{list_all}
use Rattle.rand_core.specs.Stream.{Stream}
use Rattle.sctp_packet.specs.Chunk.{ChunkTree, cookie_echo_chunk}
use Rattle.sctp_state.specs.declared.api.ErrorKind.{ErrorKind}
use Rattle.sctp_state.specs.Timer.{Timer}
use Rattle.sctp_tx_outstanding.specs.OutstandingData.{fast_items}
use Rattle.sctp_tx_outstanding.specs.Forward.{is_forward_due}
use Rattle.sctp_rx.specs.DataTracker.{is_ack_due}
use Rattle.sctp_tx.specs.ForwardPoints.{forward_chunk}
use Rattle.sctp_tx.specs.Resent.{resent_fast}
use Rattle.sctp_tx_queue.specs.Resets.{streams_to_request, request_resets}
use Rattle.spec_endpoint.specs.Association.{Tcb, Phase, CookieEchoed, State, Open, Context, Established, ShutdownPending, ShutdownSent, ShutdownReceived, ShutdownAckSent}
use Rattle.spec_endpoint.specs.ResetRequests.{Request}
use Rattle.spec_endpoint.specs.Packets.{PacketDraft, clear_chunks, fits, add, has_chunks, round_down_to_4, packet_to, new_packet, emit_error, emit_if, emit, emit_chunk}
use Rattle.spec_endpoint.specs.Sending.{Filling, take_due_ack, ack_if, has_data_to_send, with_ack, forward_later, forward_added_if, forward_if, with_expired_abandoned, forward_if_time, with_forward, most_streams, add_request, request_started, request_of, request_unless, with_request, with_data, filled_as, BurstStep, burst_step_if, next_packet, continue_burst, burst, send_with, send_buffered, cookie_if, send_cookie, fast_most, fast_packet, fast_if, send_lost, cookie_packet_if, answer_packet}
use Rattle.spec_endpoint.specs.Laws.{Call}
use Rattle.proof_endpoint.specs.Sound.{FitsState}
use Rattle.proof_endpoint.specs.Fair.{IsFair}
use Rattle.proof_endpoint.specs.Acts.{EndWithPacket, at, no_packet, idle, Fitting, is_plain, takes_more, IsBundled, all_along, IsSummedSo, always, as_held, as_before, IsAddressed, begins, adds_plain, emits, emits_error, adds_cookie, asks, adds_ack, expires, adds_forward, forwards_later, asks_no_reset, asks_reset, adds_request, sends, sends_fast, Preserves}
use Rattle.proof_endpoint.proofs.BundledLemmas.{plain_first, first_more, data_more, TakesMore, filled_more, turned_more}

-- ---- packets

module _ {P : Type 0} {call : Call} where
  nothing_addressed : (m : EndWithPacket P) → IsAddressed call m no_packet
  nothing_addressed m = record { limit = omega arith; tag = λ f held before. omega arith }

  -- a packet to the peer
  pub new_addressed : (phase : Phase) (t : Tcb) (c : Context P) (w : Stream) → IsAddressed call (idle (Open phase t) c w) (new_packet c.options t)
  new_addressed phase t c w = record { limit = omega arith; tag = λ f held before. held.1.identity.peer_tag }

  -- one of the mtu
  pub whole_addressed : (s : State) (c : Context P) (w : Stream) (p : PacketDraft) → p.limit ≡ c.options.mtu → (Fitting call → FitsState s → p.tag < 2 ^ 32)
      → IsAddressed call (idle s c w) p
  whole_addressed s c w p e h = record { limit = omega (arith, e); tag = λ f held before. h f held }

  pub rounded_addressed : (s : State) (c : Context P) (w : Stream) (tag : ℕ) → (Fitting call → tag < 2 ^ 32)
      → IsAddressed call (idle s c w) (packet_to tag (round_down_to_4 c.options.mtu))
  rounded_addressed s c w tag h = record { limit = omega arith; tag = λ f held before. h f }

module _ {P : Type 0} {call : Call} {R : EndWithPacket P → EndWithPacket P → Type 0} (k : Preserves call R) where
  does_emit_if : (b : Bool) (s : State) (c : Context P) (w : Stream) (p : PacketDraft) → has_chunks p ≡ b → IsBundled p.chunks
      → R (at s c w p) (at s (emit_if b p c) w (clear_chunks p))
  does_emit_if true s c w p e bundled = k.packets (emits (at s c w p) e bundled)
  does_emit_if false s c w p e bundled = k.packets (begins (clear_chunks p) (at s c w p) refl (as_before refl) (record { limit = omega arith; tag = λ f held before. before }))

  pub does_emit : (s : State) (c : Context P) (w : Stream) (p : PacketDraft) → IsBundled p.chunks → R (at s c w p) (at s (emit p c) w (clear_chunks p))
  does_emit s c w p bundled = does_emit_if (has_chunks p) s c w p refl bundled

  pub does_drop : (s : State) (c : Context P) (w : Stream) (p : PacketDraft) → R (at s c w p) (idle s c w)
  does_drop s c w p = k.packets (begins no_packet (at s c w p) refl (always refl) (nothing_addressed (at s c w p)))

  -- and nothing is begun
  pub does_out : (s : State) (c : Context P) (w : Stream) (p : PacketDraft) → IsBundled p.chunks → R (at s c w p) (idle s (emit p c) w)
  does_out s c w p bundled = k.through (does_emit s c w p bundled) (does_drop s (emit p c) w (clear_chunks p))

  pub does_begin : (s : State) (c : Context P) (w : Stream) (p : PacketDraft) → p.chunks ≡ [] → IsSummedSo call (idle s c w) p → IsAddressed call (idle s c w) p
      → R (idle s c w) (at s c w p)
  does_begin s c w p new summed to = k.packets (begins p (idle s c w) new summed to)

  -- a packet to the peer
  pub does_begin_new : (phase : Phase) (t : Tcb) (c : Context P) (w : Stream) → R (idle (Open phase t) c w) (at (Open phase t) c w (new_packet c.options t))
  does_begin_new phase t c w = does_begin (Open phase t) c w (new_packet c.options t) refl (as_held phase t refl refl) (new_addressed phase t c w)

  -- a packet of one chunk
  pub does_plain : (chunk : ChunkTree) (p : PacketDraft) (s : State) (c : Context P) (w : Stream) → is_plain chunk ≡ true → p.chunks ≡ []
      → IsSummedSo call (idle s c w) p → IsAddressed call (idle s c w) p → (Fitting call → IsFair chunk) → R (idle s c w) (idle s (emit (add chunk p) c) w)
  does_plain chunk p s c w plain new summed to fair =
      k.through (does_begin s c w p new summed to)
      (k.through (k.packets (adds_plain chunk (at s c w p) plain (ap (list_all is_plain) new) fair))
      (does_out s c w (add chunk p) (all_along (first_more chunk p new (plain_first chunk plain)))))

  pub does_chunk : (chunk : ChunkTree) (phase : Phase) (t : Tcb) (c : Context P) (w : Stream) → is_plain chunk ≡ true → (Fitting call → IsFair chunk)
      → R (idle (Open phase t) c w) (idle (Open phase t) (emit_chunk chunk t c) w)
  does_chunk chunk phase t c w plain fair =
      does_plain chunk (new_packet c.options t) (Open phase t) c w plain refl (as_held phase t refl refl) (new_addressed phase t c w) fair

  pub does_emit_error : (kind : ErrorKind) (text : List ℕ) (s : State) (c : Context P) (w : Stream) → R (idle s c w) (idle s (emit_error kind text c) w)
  does_emit_error kind text s c w = k.packets (emits_error kind text (idle s c w))

-- ---- sending

-- an end that fills a packet
abbrev pub filling : {P : Type 0} → Phase → Stream → Filling P → EndWithPacket P
filling phase w x = at (Open phase x.tcb) x.context w x.packet

module _ {P : Type 0} {call : Call} {R : EndWithPacket P → EndWithPacket P → Type 0} (k : Preserves call R) (phase : Phase) (w : Stream) where
  does_ack_if : (b : Bool) (x : Filling P) → R (filling phase w x) (filling phase w (ack_if b x))
  does_ack_if true x = k.sending (adds_ack phase x.tcb (filling phase w x))
  does_ack_if false x = k.same (filling phase w x)

  does_ack : (x : Filling P) → R (filling phase w x) (filling phase w (with_ack x))
  does_ack x =
      let y : Filling P = record x { tcb = take_due_ack (has_data_to_send x) x.tcb } in
      k.through (k.sending (asks (has_data_to_send x) phase x.tcb (filling phase w x))) (does_ack_if (is_ack_due (has_data_to_send x) x.tcb.tracker.tracker.ack) y)

  does_forward_added : (b : Bool) (x : Filling P) → is_forward_due x.tcb.sender.outstanding.items ≡ true
      → R (filling phase w x) (filling phase w (forward_added_if b x))
  does_forward_added true x due =
      let m : EndWithPacket P = at (Open phase x.tcb) x.context w (add (forward_chunk x.tcb.sender) x.packet) in
      k.through (k.sending (adds_forward phase x.tcb (filling phase w x) due)) (k.sending (forwards_later (forward_later x.tcb x.context).forward_from m))
  does_forward_added false x due = k.same (filling phase w x)

  does_forward_if : (b : Bool) (x : Filling P) → is_forward_due x.tcb.sender.outstanding.items ≡ b → R (filling phase w x) (filling phase w (forward_if b x))
  does_forward_if true x due = does_forward_added (fits x.packet (forward_chunk x.tcb.sender)) x due
  does_forward_if false x due = k.same (filling phase w x)

  does_tested_if : (b : Bool) (x : Filling P) → R (filling phase w x) (filling phase w (forward_if_time b x))
  does_tested_if true x =
      let y : Filling P = with_expired_abandoned x in
      k.through (k.sending (expires phase x.tcb (filling phase w x))) (does_forward_if (is_forward_due y.tcb.sender.outstanding.items) y refl)
  does_tested_if false x = k.same (filling phase w x)

  does_forward : (x : Filling P) → R (filling phase w x) (filling phase w (with_forward x))
  does_forward x = does_tested_if (nat_le x.context.forward_from x.context.now) x

  -- the current request goes along
  pub does_add_request : (o : Option Request) (t : Tcb) (c : Context P) (p : PacketDraft) → t.requests.current ≡ o
      → R (at (Open phase t) c w p) (at (Open phase t) c w (add_request o p))
  does_add_request None t c p is = k.same (at (Open phase t) c w p)
  does_add_request (Some r) t c p is = k.sending (adds_request r phase t (at (Open phase t) c w p) is)

  does_request_of : (streams : List ℕ) (most : ℕ) (x : Filling P) → streams_to_request most x.context.queue ≡ streams → x.tcb.requests.current ≡ None
      → R (filling phase w x) (filling phase w (request_of streams (record x { context = record x.context { queue = request_resets most x.context.queue } })))
  does_request_of [] most x some free = k.sending (asks_no_reset most (filling phase w x) some)
  does_request_of (id ∷ ids) most x some free =
      let c : Context P = record x.context { queue = request_resets most x.context.queue } in
      let t : Tcb = request_started x.context.now (id ∷ ids) x.tcb in
      k.through (k.sending (asks_reset most id ids phase x.tcb (filling phase w x) some free)) (does_add_request t.requests.current t c x.packet refl)

  does_request_by : (o : Option Request) (x : Filling P) → x.tcb.requests.current ≡ o → R (filling phase w x) (filling phase w (request_unless (is_some o) x))
  does_request_by (Some r) x is = k.same (filling phase w x)
  does_request_by None x is = does_request_of (streams_to_request (most_streams x.packet) x.context.queue) (most_streams x.packet) x refl is

  does_request : (x : Filling P) → R (filling phase w x) (filling phase w (with_request x))
  does_request x = does_request_by x.tcb.requests.current x refl

  does_data : (x : Filling P) → R (filling phase w x) (filling phase w (with_data x))
  does_data x = k.sending (sends phase x.tcb (filling phase w x))

  does_filled : (is_first : Bool) (x : Filling P) → R (filling phase w x) (filling phase w (filled_as is_first x))
  does_filled true x =
      let y : Filling P = with_ack x in
      let z : Filling P = with_forward y in
      k.through (does_ack x) (k.through (does_forward y) (k.through (does_request z) (does_data (with_request z))))
  does_filled false x = does_data x

  does_turned_if : (b is_alone : Bool) (x : Filling P) → TakesMore x → R (filling phase w x) (filling phase w (burst_step_if b is_alone x).filling)
  does_turned_if true is_alone x more = does_emit k (Open phase x.tcb) x.context w x.packet (all_along more)
  does_turned_if false is_alone x more = k.same (filling phase w x)

  does_turned : (is_first is_alone : Bool) (x : Filling P) → TakesMore x → R (filling phase w x) (filling phase w (next_packet is_first is_alone x).filling)
  does_turned is_first is_alone x more =
      let y : Filling P = filled_as is_first x in
      k.through (does_filled is_first x) (does_turned_if (has_chunks y.packet) is_alone y (filled_more is_first x more))

  does_go_on : (rest : Filling P → Filling P) (b : Bool) (x : Filling P) → TakesMore x
      → ((y : Filling P) → TakesMore y → R (filling phase w y) (filling phase w (rest y)))
      → R (filling phase w x) (filling phase w (continue_burst rest (record { filling = x; is_more = b })))
  does_go_on rest true x more f = f x more
  does_go_on rest false x more f = k.same (filling phase w x)

  does_burst : (most : ℕ) (is_first is_alone : Bool) (x : Filling P) → TakesMore x → R (filling phase w x) (filling phase w (burst most is_first is_alone x))
  does_burst zero is_first is_alone x more = k.same (filling phase w x)
  does_burst (suc most) is_first is_alone x more =
      let t : BurstStep P = next_packet is_first is_alone x in
      k.through (does_turned is_first is_alone x more)
      (does_go_on (burst most false is_alone) t.is_more t.filling (turned_more is_first is_alone x more) (does_burst most false is_alone))

  -- ---- the sendings

  pub does_send_with : (is_alone : Bool) (p : PacketDraft) (t : Tcb) (c : Context P) → takes_more p.chunks ≡ true
      → R (at (Open phase t) c w p) (idle (Open phase (send_with is_alone p t c).tcb) (send_with is_alone p t c).context w)
  does_send_with is_alone p t c more =
      let x : Filling P = record { packet = p; tcb = t; context = c } in
      let y : Filling P = burst c.options.max_burst true is_alone x in
      k.through (does_burst c.options.max_burst true is_alone x more) (does_drop k (Open phase y.tcb) y.context w y.packet)

  pub does_send_buffered : (is_alone : Bool) (t : Tcb) (c : Context P)
      → R (idle (Open phase t) c w) (idle (Open phase (send_buffered is_alone t c).tcb) (send_buffered is_alone t c).context w)
  does_send_buffered is_alone t c =
      k.through (does_begin_new k phase t c w) (does_send_with is_alone (new_packet c.options t) t c refl)

  does_fast_if : (b : Bool) (t : Tcb) (c : Context P) → nat_lt 0 (fast_items t.sender.outstanding.items) ≡ b
      → R (idle (Open phase t) c w) (idle (Open phase (fast_if b t c).tcb) (fast_if b t c).context w)
  does_fast_if true t c some =
      let p : PacketDraft = new_packet c.options t in
      k.through (does_begin_new k phase t c w)
      (k.through (k.sending (sends_fast phase t (at (Open phase t) c w p) some))
      (does_out k (Open phase (fast_if true t c).tcb) c w (fast_packet c.options t) (all_along (data_more t false (resent_fast (fast_most c.options) t.sender).chunks p refl))))
  does_fast_if false t c some = k.same (idle (Open phase t) c w)

  pub does_send_lost : (t : Tcb) (c : Context P) → R (idle (Open phase t) c w) (idle (Open phase (send_lost t c).tcb) (send_lost t c).context w)
  does_send_lost t c = does_fast_if (nat_lt 0 (fast_items t.sender.outstanding.items)) t c refl

-- the cookie goes out, from the phase that keeps it
module _ {P : Type 0} {call : Call} {R : EndWithPacket P → EndWithPacket P → Type 0} (k : Preserves call R) (t1 : Timer) (cookie : List ℕ) (w : Stream) where
  does_begin_cookie : (t : Tcb) (c : Context P)
      → R (idle (Open (CookieEchoed t1 cookie) t) c w) (at (Open (CookieEchoed t1 cookie) t) c w (add (cookie_echo_chunk cookie) (packet_to t.identity.peer_tag c.options.mtu)))
  does_begin_cookie t c =
      let p : PacketDraft = packet_to t.identity.peer_tag c.options.mtu in
      let s : State = Open (CookieEchoed t1 cookie) t in
      k.through (does_begin k s c w p refl (always refl) (whole_addressed s c w p refl (λ f held. held.1.identity.peer_tag)))
      (k.opening (adds_cookie t1 cookie t (at s c w p) refl))

  does_cookie_if : (b : Bool) (t : Tcb) (c : Context P)
      → R (idle (Open (CookieEchoed t1 cookie) t) c w) (idle (Open (CookieEchoed t1 cookie) (cookie_if b cookie t c).tcb) (cookie_if b cookie t c).context w)
  does_cookie_if true t c =
      let p : PacketDraft = packet_to t.identity.peer_tag c.options.mtu in
      k.through (does_begin_cookie t c)
      (does_send_with k (CookieEchoed t1 cookie) w true (add (cookie_echo_chunk cookie) p) t c (first_more (cookie_echo_chunk cookie) p refl refl))
  does_cookie_if false t c = k.same (idle (Open (CookieEchoed t1 cookie) t) c w)

  does_cookie_packet : (b : Bool) (t : Tcb) (c : Context P) → R (idle (Open (CookieEchoed t1 cookie) t) c w) (at (Open (CookieEchoed t1 cookie) t) c w (cookie_packet_if b cookie c.options t))
  does_cookie_packet true t c = does_begin_cookie t c
  does_cookie_packet false t c = does_begin_new k (CookieEchoed t1 cookie) t c w

  pub does_send_cookie : (t : Tcb) (c : Context P)
      → R (idle (Open (CookieEchoed t1 cookie) t) c w) (idle (Open (CookieEchoed t1 cookie) (send_cookie cookie t c).tcb) (send_cookie cookie t c).context w)
  does_send_cookie t c = does_cookie_if (fits (packet_to t.identity.peer_tag c.options.mtu) (cookie_echo_chunk cookie)) t c

-- a packet in which something is answered is begun
module _ {P : Type 0} {call : Call} {R : EndWithPacket P → EndWithPacket P → Type 0} (k : Preserves call R) (w : Stream) where
  pub does_begin_answer : (phase : Phase) (t : Tcb) (c : Context P) → R (idle (Open phase t) c w) (at (Open phase t) c w (answer_packet phase c.options t))
  does_begin_answer (CookieEchoed t1 cookie) t c = does_cookie_packet k t1 cookie w c.options.avoid_stalls t c
  does_begin_answer Established t c = does_begin_new k Established t c w
  does_begin_answer ShutdownPending t c = does_begin_new k ShutdownPending t c w
  does_begin_answer (ShutdownSent t2) t c = does_begin_new k (ShutdownSent t2) t c w
  does_begin_answer ShutdownReceived t c = does_begin_new k ShutdownReceived t c w
  does_begin_answer (ShutdownAckSent t2) t c = does_begin_new k (ShutdownAckSent t2) t c w
