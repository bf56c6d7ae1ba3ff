-- What a handover asks of an end holds of each end that calls lead to: of a new one, and after each call.
use Rattle.std.specs.Prelude.{◌≡◌, ℕ, ◌+◌, ◌^◌, ◌<◌, ◌≤◌, true, false, List, [], ◌∷◌, length}
use Rattle.std.specs.List.{list_all}
use Rattle.std.specs.List.Sorted.{IsStrictlySortedBy}
use Rattle.std.specs.Map.{keys_of}
use Rattle.std.specs.Ordering.{nat_cmp}
use Rattle.rand_core.specs.Stream.{Stream as Words}
use Rattle.sctp_serial.specs.Unwrapped.{u32_space}
use Rattle.sctp_packet.specs.Chunk.{ChunkTree, init_ack_chunk, cookie_echo_chunk}
use Rattle.sctp_packet.specs.Grammar.{Each}
use Rattle.sctp_state.specs.Events.{Emitted}
use Rattle.sctp_state.specs.Handover.{HandoverState}
use Rattle.sctp_state.specs.Options.{Options}
use Rattle.sctp_tx_queue.specs.SendQueue.{Queue}
use Rattle.sctp_tx_queue.specs.InOrder.{IsInOrder, HasRests}
use Rattle.sctp_tx_queue.specs.TakenUp.{is_numbered_as_sent}
use Rattle.spec_endpoint.specs.Association.{Tcb, State, Closed, CookieWait, Open, Context, Endpoint, fresh, Packing}
use Rattle.spec_endpoint.specs.Handover.{readiness}
use Rattle.spec_endpoint.specs.Laws.{Call, Send, SendMany, Restore, ReceivePacket, called}
use Rattle.proof_endpoint.specs.HandoverRoundTrip.{IsConnected, IsNumberedOnce, Fits, established_state, GoesOn}
use Rattle.proof_endpoint.specs.Lifecycles.{is_restore}

-- ---- an end

-- A tag above 0 and a first TSN are drawn for an INIT. A control block is connected as a handover asks, in every state.
abbrev pub IsAssociated : State → Context (List ℕ) → Type 0
IsAssociated Closed c = Unit {0}
IsAssociated (CookieWait tag first t1) c = (0 < tag) × (first < u32_space)
IsAssociated (Open phase t) c = IsConnected t c

-- the queue, but for the numbers of its messages, which may wrap
pub record IsOrdered (q : Queue) : Type 0 where
  pub sorted : IsStrictlySortedBy nat_cmp (keys_of q.streams.entries)
  pub order : IsInOrder q
  pub next : q.next_number < 2 ^ 32
  pub rests : HasRests q

pub record HandoverInvariantOf (s : State) (c : Context (List ℕ)) : Type 0 where
  pub association : IsAssociated s c
  pub queued : IsOrdered c.queue

abbrev pub HandoverInvariant : Endpoint (List ℕ) → Type 0
HandoverInvariant e = HandoverInvariantOf e.endpoint_state.state e.endpoint_state.context

-- ---- what a call hands in

-- A peer names a tag above 0 (RFC 9260 section 3.3.3) and a first TSN of 32 bits. Of a cookie bytes are enough.
abbrev pub NamesPeer : ChunkTree → Type 0
NamesPeer (init_ack_chunk i) = (0 < i.initiate_tag) × (i.initial_tsn < u32_space)
NamesPeer (cookie_echo_chunk cookie) = Each (λ (b : ℕ). b < 2 ^ 8) cookie
NamesPeer chunk = Unit {0}

-- a record, beside what makes it valid: numbers of 32 bits, and messages with numbers exactly where something of them is sent
pub record IsRecord (h : HandoverState) : Type 0 where
  pub my_first : h.my_initial_tsn < u32_space
  pub peer_first : h.peer_initial_tsn < u32_space
  pub numbered : list_all is_numbered_as_sent h.tx.queued_messages ≡ true

abbrev pub HandsIn : Call → Type 0
HandsIn (ReceivePacket p) = Each NamesPeer p.chunks
HandsIn (Restore h) = IsRecord h
HandsIn call = Unit {0}

-- how many messages a call offers
abbrev pub offers : Call → ℕ
offers (Send m o) = 1
offers (SendMany ms o) = length ms
offers call = 0

-- ---- call by call

abbrev pub NewEndsMeetHandoverInvariant : Type 0
NewEndsMeetHandoverInvariant = (o : Options) (pack : Packing (List ℕ)) (random : Words) → HandoverInvariant (fresh o pack random)

abbrev pub EachCallPreservesHandoverInvariant : Type 0
EachCallPreservesHandoverInvariant = (call : Call) (e : Endpoint (List ℕ)) → HandsIn call → HandoverInvariant e → HandoverInvariant (called call e)

-- as long as the numbers of messages don't wrap
pub record NumbersOn (count : ℕ) (q r : Queue) : Type 0 where
  pub once : IsNumberedOnce r
  pub next : r.next_number ≤ q.next_number + count

abbrev pub EachCallNumbersOnce : Type 0
EachCallNumbersOnce =
    (call : Call) (e : Endpoint (List ℕ)) → HandsIn call → HandoverInvariant e → is_restore call ≡ false
    → e.endpoint_state.context.queue.next_number + offers call < 2 ^ 32 → IsNumberedOnce e.endpoint_state.context.queue
    → NumbersOn (offers call) e.endpoint_state.context.queue (called call e).endpoint_state.context.queue

-- ---- what a user does with an end

-- a call; or what was emitted is taken, as far as it is
pub data Use : Type 0 where
  Calls : Call → Use
  Takes : (left : Emitted (List ℕ)) → Use

abbrev pub after_use : Use → Endpoint (List ℕ) → Endpoint (List ℕ)
after_use (Calls call) e = called call e
after_use (Takes left) e = record e { endpoint_state = record e.endpoint_state { context = record e.endpoint_state.context { emitted = left } } }

abbrev pub after_uses : List Use → Endpoint (List ℕ) → Endpoint (List ℕ)
after_uses [] e = e
after_uses (u ∷ us) e = after_uses us (after_use u e)

abbrev pub MayUse : Use → Type 0
MayUse (Calls call) = HandsIn call × (is_restore call ≡ false)
MayUse (Takes left) = Unit {0}

abbrev pub offers_in : Use → ℕ
offers_in (Calls call) = offers call
offers_in (Takes left) = 0

abbrev pub offers_along : List Use → ℕ
offers_along [] = 0
offers_along (u ∷ us) = offers_in u + offers_along us

-- ---- the law

-- Fewer than 2^32 messages are offered to a new end, and nothing is restored. Whenever its association stands, nothing
-- keeps it from being handed over, and a record has room (`Fits`), its record is valid, and a new end that takes it up goes on in its place.
abbrev pub EachEndGoesOn : Type 0
EachEndGoesOn =
    (o : Options) (pack : Packing (List ℕ)) (random : Words) (uses : List Use) → Each MayUse uses → offers_along uses < 2 ^ 32
    → (t : Tcb) (c : Context (List ℕ)) → (after_uses uses (fresh o pack random)).endpoint_state ≡ established_state t c → readiness (established_state t c) ≡ 0 → Fits t c.queue
    → (other : Packing (List ℕ)) (draws : Words) → GoesOn t c other draws
