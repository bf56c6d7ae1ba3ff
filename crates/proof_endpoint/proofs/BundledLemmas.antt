-- What stands in a packet as it is filled: an INIT and an INIT ACK are alone, and a COOKIE ECHO comes first.
use Rattle.std.proofs.Common.{◌≡◌, ℕ, ◌&&◌, nat_le, Bool, true, false, Option, Some, None, is_some, List, [], ◌∷◌, ◌++◌, map, refl, sym, ap, subst, ◌∙◌}
use Rattle.std.specs.List.{list_all}
use Rattle.std.proofs.lemmas.Bool.{and_parts, and_from}
use Rattle.std.proofs.lemmas.List.Folds.{list_all-append}
use Rattle.sctp_packet.specs.Chunk.{ChunkTree, FragmentTree, init_chunk, init_ack_chunk, cookie_echo_chunk, shutdown_ack_chunk, fragment_chunk}
use Rattle.sctp_tx.specs.RetransmissionQueue.{Sender}
use Rattle.sctp_tx.specs.Resent.{is_interleaved}
use Rattle.sctp_tx.specs.ForwardPoints.{chunk_if, forward_chunk}
use Rattle.sctp_tx.specs.Sending.{send}
use Rattle.sctp_tx_queue.specs.Resets.{streams_to_request, request_resets}
use Rattle.sctp_rx.specs.DataTracker.{is_ack_due}
use Rattle.sctp_tx_outstanding.specs.Forward.{is_forward_due}
use Rattle.spec_endpoint.specs.Association.{Tcb, Phase, CookieEchoed, Established, ShutdownPending, ShutdownSent, ShutdownReceived, ShutdownAckSent}
use Rattle.spec_endpoint.specs.Packets.{PacketDraft, room, fits, added_if, add, add_all, has_chunks, packet_to}
use Rattle.spec_endpoint.specs.ResetRequests.{Request, request_chunk}
use Rattle.spec_endpoint.specs.Sending as sending
use Rattle.spec_endpoint.specs.Sending.{Filling, selective_ack, with_expired_abandoned, most_streams, request_started, asks_at_once, ack_if, with_ack, forward_added_if, forward_if, forward_if_time, with_forward, add_request, request_of, request_unless, with_request, data_chunks, with_data, filled_as, burst_step_if, next_packet}
use Rattle.proof_endpoint.specs.Acts.{is_plain, goes_along, goes_first, takes_more, IsBundled, all_along}
use Rattle.sctp_state.specs.Options.{Options}

-- ---- chunks

along_first : (c : ChunkTree) → goes_along c ≡ true → goes_first c ≡ true
along_first (init_chunk i) e = cc
along_first (init_ack_chunk i) e = cc
along_first c e = refl

pub plain_along : (c : ChunkTree) → is_plain c ≡ true → goes_along c ≡ true
plain_along (init_chunk i) e = cc
plain_along (init_ack_chunk i) e = cc
plain_along (cookie_echo_chunk cookie) e = cc
plain_along c e = refl

pub plain_first : (c : ChunkTree) → is_plain c ≡ true → goes_first c ≡ true
plain_first c e = along_first c (plain_along c e)

takes_pushed : (cs : List ChunkTree) (c : ChunkTree) → takes_more cs ≡ true → goes_along c ≡ true → takes_more (cs ++ c ∷ []) ≡ true
takes_pushed [] c h e = and_from (goes_first c) true (along_first c e) refl
takes_pushed (d ∷ ds) c h e =
    let parts = and_parts (goes_first d) (list_all goes_along ds) h in
    and_from (goes_first d) (list_all goes_along (ds ++ c ∷ [])) parts.0
    (list_all-append goes_along ds (c ∷ []) ∙ and_from (list_all goes_along ds) (goes_along c && true) parts.1 (and_from (goes_along c) true e refl))

-- ---- packets

added_if_more : (b : Bool) (c : ChunkTree) (p : PacketDraft) → takes_more p.chunks ≡ true → goes_along c ≡ true → takes_more (added_if b c p).chunks ≡ true
added_if_more true c p h e = takes_pushed p.chunks c h e
added_if_more false c p h e = h

pub added_more : (c : ChunkTree) (p : PacketDraft) → takes_more p.chunks ≡ true → goes_along c ≡ true → takes_more (add c p).chunks ≡ true
added_more c p h e = added_if_more (fits p c) c p h e

pub all_added_more : (cs : List ChunkTree) (p : PacketDraft) → takes_more p.chunks ≡ true → list_all goes_along cs ≡ true → takes_more (add_all cs p).chunks ≡ true
all_added_more [] p h e = h
all_added_more (c ∷ cs) p h e =
    let parts = and_parts (goes_along c) (list_all goes_along cs) e in
    all_added_more cs (add c p) (added_more c p h parts.0) parts.1

-- nothing is put in yet
pub new_more : (cs : List ChunkTree) → cs ≡ [] → takes_more cs ≡ true
new_more cs new = ap takes_more new

-- one chunk, which is alone or may have others behind it
one_if : (b : Bool) (c : ChunkTree) (p : PacketDraft) → p.chunks ≡ [] → IsBundled (c ∷ []) → IsBundled (added_if b c p).chunks
one_if true c p new h = subst (λ (cs : List ChunkTree). IsBundled (cs ++ c ∷ [])) (sym new) h
one_if false c p new h = all_along (new_more p.chunks new)

pub one_bundled : (c : ChunkTree) (p : PacketDraft) → p.chunks ≡ [] → IsBundled (c ∷ []) → IsBundled (add c p).chunks
one_bundled c p new h = one_if (fits p c) c p new h

first_if : (b : Bool) (c : ChunkTree) (p : PacketDraft) → p.chunks ≡ [] → goes_first c ≡ true → takes_more (added_if b c p).chunks ≡ true
first_if true c p new e = subst (λ (cs : List ChunkTree). takes_more (cs ++ c ∷ []) ≡ true) (sym new) (and_from (goes_first c) true e refl)
first_if false c p new e = new_more p.chunks new

pub first_more : (c : ChunkTree) (p : PacketDraft) → p.chunks ≡ [] → goes_first c ≡ true → takes_more (add c p).chunks ≡ true
first_more c p new e = first_if (fits p c) c p new e

-- one that answers has nothing in it, or the COOKIE ECHO
cookie_packet_more : (avoids : Bool) (cookie : List ℕ) (o : Options) (t : Tcb) → takes_more (sending.cookie_packet_if avoids cookie o t).chunks ≡ true
cookie_packet_more true cookie o t = first_more (cookie_echo_chunk cookie) (packet_to t.identity.peer_tag o.mtu) refl refl
cookie_packet_more false cookie o t = refl

pub answer_more : (phase : Phase) (o : Options) (t : Tcb) → takes_more (sending.answer_packet phase o t).chunks ≡ true
answer_more (CookieEchoed t1 cookie) o t = cookie_packet_more o.avoid_stalls cookie o t
answer_more Established o t = refl
answer_more ShutdownPending o t = refl
answer_more (ShutdownSent t2) o t = refl
answer_more ShutdownReceived o t = refl
answer_more (ShutdownAckSent t2) o t = refl

-- ---- a burst

data_along : (is_interleaved is_immediate : Bool) (cs : List (ℕ × FragmentTree)) → list_all goes_along (map (fragment_chunk is_interleaved is_immediate) cs) ≡ true
data_along is_interleaved is_immediate [] = refl
data_along true is_immediate (c ∷ cs) = data_along true is_immediate cs
data_along false is_immediate (c ∷ cs) = data_along false is_immediate cs

pub data_more : (t : Tcb) (is_immediate : Bool) (cs : List (ℕ × FragmentTree)) (p : PacketDraft) → takes_more p.chunks ≡ true
    → takes_more (add_all (data_chunks t is_immediate cs) p).chunks ≡ true
data_more t is_immediate cs p h =
    all_added_more (data_chunks t is_immediate cs) p h (data_along t.capabilities.message_interleaving is_immediate cs)

pub request_more : (o : Option Request) (p : PacketDraft) → takes_more p.chunks ≡ true → takes_more (add_request o p).chunks ≡ true
request_more None p h = h
request_more (Some r) p h = added_more (request_chunk r) p h refl

forward_along : (b : Bool) (s : Sender) → goes_along (chunk_if b s) ≡ true
forward_along true s = refl
forward_along false s = refl

module _ {P : Type 0} where
  abbrev pub TakesMore : Filling P → Type 0
  TakesMore x = takes_more x.packet.chunks ≡ true

  ack_more : (b : Bool) (x : Filling P) → TakesMore x → TakesMore (ack_if b x)
  ack_more true x h = added_more (selective_ack x.tcb) x.packet h refl
  ack_more false x h = h

  forward_added_more : (b : Bool) (x : Filling P) → TakesMore x → TakesMore (forward_added_if b x)
  forward_added_more true x h = added_more (forward_chunk x.tcb.sender) x.packet h (forward_along (is_interleaved x.tcb.sender) x.tcb.sender)
  forward_added_more false x h = h

  forward_more : (b : Bool) (x : Filling P) → TakesMore x → TakesMore (forward_if b x)
  forward_more true x h = forward_added_more (fits x.packet (forward_chunk x.tcb.sender)) x h
  forward_more false x h = h

  tested_more : (b : Bool) (x : Filling P) → TakesMore x → TakesMore (forward_if_time b x)
  tested_more true x h = forward_more (is_forward_due (with_expired_abandoned x).tcb.sender.outstanding.items) (with_expired_abandoned x) h
  tested_more false x h = h

  request_of_more : (ids : List ℕ) (x : Filling P) → TakesMore x → TakesMore (request_of ids x)
  request_of_more [] x h = h
  request_of_more (id ∷ ids) x h = request_more (request_started x.context.now (id ∷ ids) x.tcb).requests.current x.packet h

  request_if_more : (b : Bool) (x : Filling P) → TakesMore x → TakesMore (request_unless b x)
  request_if_more true x h = h
  request_if_more false x h =
      let most : ℕ = most_streams x.packet in
      request_of_more (streams_to_request most x.context.queue) (record x { context = record x.context { queue = request_resets most x.context.queue } }) h

  with_data_more : (x : Filling P) → TakesMore x → TakesMore (with_data x)
  with_data_more x h =
      let f = send x.context.now (room x.packet) x.tcb.sender x.context.queue x.context.emitted in
      data_more x.tcb (asks_at_once x.context.options x.tcb.sender) f.chunks x.packet h

  pub filled_more : (is_first : Bool) (x : Filling P) → TakesMore x → TakesMore (filled_as is_first x)
  filled_more true x h =
      let b : Bool = sending.has_data_to_send x in
      let y : Filling P = with_ack x in
      let z : Filling P = with_forward y in
      with_data_more (with_request z)
      (request_if_more (is_some z.tcb.requests.current) z
      (tested_more (nat_le y.context.forward_from y.context.now) y (ack_more (is_ack_due b x.tcb.tracker.tracker.ack) (record x { tcb = sending.take_due_ack b x.tcb }) h)))
  filled_more false x h = with_data_more x h

  turned_if_more : (b is_alone : Bool) (x : Filling P) → TakesMore x → TakesMore (burst_step_if b is_alone x).filling
  turned_if_more true is_alone x h = refl
  turned_if_more false is_alone x h = h

  pub turned_more : (is_first is_alone : Bool) (x : Filling P) → TakesMore x → TakesMore (next_packet is_first is_alone x).filling
  turned_more is_first is_alone x h = turned_if_more (has_chunks (filled_as is_first x).packet) is_alone (filled_as is_first x) (filled_more is_first x h)

pub plain_added : (b : Bool) (p : PacketDraft) → p.chunks ≡ [] → list_all is_plain (added_if b shutdown_ack_chunk p).chunks ≡ true
plain_added true p new = ap (λ (cs : List ChunkTree). list_all is_plain (cs ++ shutdown_ack_chunk ∷ [])) new
plain_added false p new = ap (list_all is_plain) new
