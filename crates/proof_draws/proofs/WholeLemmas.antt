-- Chunks whose numbers and payloads are as they have to be, packets that are put together of them, and which packets go without a checksum.
use Rattle.std.proofs.Common.{◌≡◌, ℕ, ◌<◌, ◌==◌, ◌&&◌, ◌||◌, not, nat_lt, cond, Bool, true, false, Option, Some, None, option_map, List, [], ◌∷◌, map, length, refl, sym, ap, ◌∙◌, arith}
use Rattle.std.specs.Prelude.{All}
use Rattle.std.specs.List.{list_all}
use Rattle.std.proofs.lemmas.Bool.{and_parts, lt-ltb, and_from, not-false, eqb-true}
use Rattle.std.proofs.lemmas.Bool.Decides.{nat_tests}
use Rattle.std.proofs.lemmas.List.Folds.{list_all-append}
use Rattle.std.proofs.lemmas.List.Elements.{All-head, All-tail}
use Rattle.std.proofs.lemmas.Nat.{mod_below}
use Rattle.sctp_serial.specs.Unwrapped.{u32_space}
use Rattle.sctp_wire.specs.Parameter.{ParameterTree, reset_response}
use Rattle.sctp_packet.specs.Chunk.{ChunkTree, FragmentTree, data_chunk, idata_chunk, init_chunk, init_ack_chunk, cookie_echo_chunk, re_config_chunk, fragment_chunk}
use Rattle.sctp_packet.specs.Grammar.{Each}
use Rattle.sctp_state.specs.Options.{Options}
use Rattle.sctp_capabilities.specs.Capabilities.{Capabilities, agreed, zero_checksum_enabled}
use Rattle.sctp_tx_queue.specs.SendQueue.{Queue}
use Rattle.sctp_tx_queue.specs.InOrder.{HasRests}
use Rattle.sctp_tx_queue.proofs.RestLemmas.{calls_leave_rests}
use Rattle.sctp_tx.specs.RetransmissionQueue.{Sender}
use Rattle.sctp_tx.specs.ForwardPoints.{chunk_if}
use Rattle.spec_endpoint.specs.Association.{Tcb}
use Rattle.spec_endpoint.specs.Packets.{PacketDraft, fits, added_if, add, add_all}
use Rattle.spec_endpoint.specs.ResetRequests.{Request, Requests, requests, request_chunk, is_known_request, is_last_request, is_next_request, without_deferral, clear_deferral, next_number}
use Rattle.spec_endpoint.specs.Sending.{data_chunks}
use Rattle.spec_endpoint.specs.Opening.{queue_if, other_mode, queue_for, queue_anew}
use Rattle.spec_endpoint.specs.Laws.{Call}
use Rattle.proof_endpoint.specs.Acts.{is_plain, goes_along, takes_more, IsBundled, an_init_alone, an_init_ack_alone, all_along, HasRequest, Answers}
use Rattle.proof_draws.specs.Laws.{NumberFits, NumbersFit, number_fits, is_flowing}
use Rattle.proof_draws.proofs.NumberLemmas.{next_fits}
use Rattle.proof_draws.specs.Kinds.{IsKind, an_init, an_answer, an_echo, a_flow}
use Rattle.proof_draws.proofs.FilledItemsLemmas.{HasPayload}

-- ---- chunks

-- DATA has a payload, and request numbers are of 32 bits
abbrev pub is_whole : ChunkTree → Bool
is_whole (data_chunk tsn is_immediate f) = not (length f.payload == 0)
is_whole (idata_chunk tsn is_immediate f) = not (length f.payload == 0)
is_whole (re_config_chunk parameters) = list_all number_fits parameters
is_whole chunk = true

pub plain_whole : (c : ChunkTree) → is_plain c ≡ true → is_whole c ≡ true
plain_whole (data_chunk tsn is_immediate f) e = cc
plain_whole (idata_chunk tsn is_immediate f) e = cc
plain_whole (re_config_chunk parameters) e = cc
plain_whole c e = refl

whole_flows : (c : ChunkTree) → goes_along c ≡ true → is_whole c ≡ true → is_flowing c ≡ true
whole_flows (init_chunk i) e w = cc
whole_flows (init_ack_chunk i) e w = cc
whole_flows (cookie_echo_chunk cookie) e w = cc
whole_flows (data_chunk tsn is_immediate f) e w = w
whole_flows (idata_chunk tsn is_immediate f) e w = w
whole_flows (re_config_chunk parameters) e w = w
whole_flows c e w = refl

all_flow : (cs : List ChunkTree) → list_all goes_along cs ≡ true → list_all is_whole cs ≡ true → list_all is_flowing cs ≡ true
all_flow [] e w = refl
all_flow (c ∷ cs) e w =
    let a = and_parts (goes_along c) (list_all goes_along cs) e in
    let b = and_parts (is_whole c) (list_all is_whole cs) w in
    and_from (is_flowing c) (list_all is_flowing cs) (whole_flows c a.0 b.0) (all_flow cs a.1 b.1)

kind_of_others : (cs : List ChunkTree) → takes_more cs ≡ true → list_all is_whole cs ≡ true → IsKind cs
kind_of_others [] e w = a_flow refl
kind_of_others (init_chunk i ∷ cs) e w = cc
kind_of_others (init_ack_chunk i ∷ cs) e w = cc
kind_of_others (cookie_echo_chunk cookie ∷ cs) e w = an_echo cookie cs refl (all_flow cs e w)
kind_of_others (c ∷ cs) e w = a_flow (all_flow (c ∷ cs) e w)

pub kind_of : (cs : List ChunkTree) → IsBundled cs → list_all is_whole cs ≡ true → IsKind cs
kind_of cs (an_init_alone i e) w = an_init i e
kind_of cs (an_init_ack_alone i e) w = an_answer i e
kind_of cs (all_along e) w = kind_of_others cs e w

-- and back
flows_whole : (c : ChunkTree) → is_flowing c ≡ true → is_whole c ≡ true
flows_whole (data_chunk tsn is_immediate f) e = e
flows_whole (idata_chunk tsn is_immediate f) e = e
flows_whole (re_config_chunk parameters) e = e
flows_whole c e = refl

flows_whole_all : (cs : List ChunkTree) → list_all is_flowing cs ≡ true → list_all is_whole cs ≡ true
flows_whole_all [] e = refl
flows_whole_all (c ∷ cs) e =
    let a = and_parts (is_flowing c) (list_all is_flowing cs) e in
    and_from (is_whole c) (list_all is_whole cs) (flows_whole c a.0) (flows_whole_all cs a.1)

pub kind_whole : (cs : List ChunkTree) → IsKind cs → list_all is_whole cs ≡ true
kind_whole cs (an_init i e) = ap (list_all is_whole) e
kind_whole cs (an_answer i e) = ap (list_all is_whole) e
kind_whole cs (an_echo cookie rest e flows) = ap (list_all is_whole) e ∙ flows_whole_all rest flows
kind_whole cs (a_flow flows) = flows_whole_all cs flows

-- ---- packets

added_if_whole : (b : Bool) (c : ChunkTree) (p : PacketDraft) → list_all is_whole p.chunks ≡ true → is_whole c ≡ true → list_all is_whole (added_if b c p).chunks ≡ true
added_if_whole true c p h e =
    list_all-append is_whole p.chunks (c ∷ [])
    ∙ and_from (list_all is_whole p.chunks) (is_whole c && true) h (and_from (is_whole c) true e refl)
added_if_whole false c p h e = h

pub added_whole : (c : ChunkTree) (p : PacketDraft) → list_all is_whole p.chunks ≡ true → is_whole c ≡ true → list_all is_whole (add c p).chunks ≡ true
added_whole c p h e = added_if_whole (fits p c) c p h e

pub added_all_whole : (cs : List ChunkTree) (p : PacketDraft) → list_all is_whole p.chunks ≡ true → list_all is_whole cs ≡ true → list_all is_whole (add_all cs p).chunks ≡ true
added_all_whole [] p h e = h
added_all_whole (c ∷ cs) p h e =
    let a = and_parts (is_whole c) (list_all is_whole cs) e in
    added_all_whole cs (add c p) (added_whole c p h a.0) a.1

added_if_summed : (b : Bool) (c : ChunkTree) (p : PacketDraft) → (added_if b c p).is_summed ≡ p.is_summed
added_if_summed true c p = refl
added_if_summed false c p = refl

pub added_summed : (c : ChunkTree) (p : PacketDraft) → (add c p).is_summed ≡ p.is_summed
added_summed c p = added_if_summed (fits p c) c p

pub added_all_summed : (cs : List ChunkTree) (p : PacketDraft) → (add_all cs p).is_summed ≡ p.is_summed
added_all_summed [] p = refl
added_all_summed (c ∷ cs) p = added_all_summed cs (add c p) ∙ added_summed c p

-- ---- what is put in

data_whole : (is_interleaved is_immediate : Bool) (cs : List (ℕ × FragmentTree)) → Each HasPayload cs
    → list_all is_whole (map (fragment_chunk is_interleaved is_immediate) cs) ≡ true
data_whole is_interleaved is_immediate [] h = refl
data_whole true is_immediate (c ∷ cs) h =
    and_from (not (length c.1.payload == 0)) (list_all is_whole (map (fragment_chunk true is_immediate) cs)) (ap not h.0) (data_whole true is_immediate cs h.1)
data_whole false is_immediate (c ∷ cs) h =
    and_from (not (length c.1.payload == 0)) (list_all is_whole (map (fragment_chunk false is_immediate) cs)) (ap not h.0) (data_whole false is_immediate cs h.1)

pub data_chunks_whole : (t : Tcb) (is_immediate : Bool) (cs : List (ℕ × FragmentTree)) → Each HasPayload cs → list_all is_whole (data_chunks t is_immediate cs) ≡ true
data_chunks_whole t is_immediate cs h = data_whole t.capabilities.message_interleaving is_immediate cs h

pub forward_whole : (b : Bool) (s : Sender) → is_whole (chunk_if b s) ≡ true
forward_whole true s = refl
forward_whole false s = refl

pub request_whole : (r : Request) → r.number < u32_space → is_whole (request_chunk r) ≡ true
request_whole r h = and_from (nat_lt r.number u32_space) true (lt-ltb r.number u32_space h) refl

-- an answer has the number of a request that was received
response_fits : (call : Call) → ((number : ℕ) → HasRequest call number → number < u32_space) → (r : Requests) (p : ParameterTree) → Answers call r p → number_fits p ≡ true
response_fits call f r (reset_response number result sender receiver) h = lt-ltb number u32_space (f number h.0)
response_fits call f r p h = absurd h

pub responses_whole : (call : Call) → ((number : ℕ) → HasRequest call number → number < u32_space) → (r : Requests) (ps : List ParameterTree) → All (Answers call r) ps
    → list_all number_fits ps ≡ true
responses_whole call f r [] h = refl
responses_whole call f r (p ∷ ps) h =
    and_from (number_fits p) (list_all number_fits ps) (response_fits call f r p (All-head (Answers call r) p ps h))
    (responses_whole call f r ps (All-tail (Answers call r) p ps h))

-- ---- request numbers

pub new_numbers : (o : Options) (first peer : ℕ) → first < u32_space → NumbersFit (requests o first peer)
new_numbers o first peer h = record { next = h; current = tt; last = mod_below _ u32_space (omega arith) }

same_number : (a b : ℕ) → (a == b) ≡ true → b < u32_space → a < u32_space
same_number a b e h = omega (arith, eqb-true a b e, h)

known_by : (a b : Bool) (number : ℕ) (r : Requests) → is_last_request number r ≡ a → is_next_request number r ≡ b → (a || b) ≡ true → NumbersFit r → number < u32_space
known_by true b number r e f k h = same_number number r.last e h.last
known_by false true number r e f k h = same_number number (next_number r.last) f (next_fits r.last)
known_by false false number r e f k h = cc

pub known_small : (number : ℕ) (r : Requests) → is_known_request number r ≡ true → NumbersFit r → number < u32_space
known_small number r k h = known_by (is_last_request number r) (is_next_request number r) number r refl refl k h

awake_fits : (o : Option Request) → NumberFits o → NumberFits (option_map without_deferral o)
awake_fits None h = tt
awake_fits (Some r) h = h

pub woken_fits : (r : Requests) → NumbersFit r → NumbersFit (clear_deferral r)
woken_fits r h = record { next = h.next; current = awake_fits r.current h.current; last = h.last }

-- ---- the queue of an association that begins

pub rests_anew : (mode : Bool) (q : Queue) → HasRests q → HasRests (queue_anew mode q)
rests_anew mode q h = calls_leave_rests.mode mode _ (calls_leave_rests.restarted q h)

rests_if : (b : Bool) (q : Queue) → HasRests q → HasRests (queue_if b q)
rests_if true q h = calls_leave_rests.restarted q h
rests_if false q h = h

pub rests_for : (resets mode : Bool) (q : Queue) → HasRests q → HasRests (queue_for resets mode q)
rests_for resets mode q h =
    let b : Bool = resets || other_mode mode q.scheduler.is_interleaved in calls_leave_rests.mode mode (queue_if b q) (rests_if b q h)

-- ---- checksums

method_by : (a b : ℕ) (t : Bool) → (a == b) ≡ t → not (cond t a 0 == 0) ≡ true → (b == 0) ≡ false
method_by a b true e h = grind (arith, nat_tests, e, h)
method_by a b false e h = cc

-- Where packets go without a checksum by what was agreed, the other end has a method.
pub agreed_method : (own other : Options) (can : Capabilities) → can ≡ agreed own other → not (zero_checksum_enabled can) ≡ false
    → (other.zero_checksum_method == 0) ≡ false
agreed_method own other can is none =
    method_by own.zero_checksum_method other.zero_checksum_method (own.zero_checksum_method == other.zero_checksum_method) refl
    (sym (ap zero_checksum_enabled is) ∙ not-false (zero_checksum_enabled can) none)
