-- Requests to reset streams: the own one that waits for its answer, and the last one of the peer (RFC 6525 section 5).
-- Numbers are as on the wire: one is the next one or the same as another, and no other order counts.
use Rattle.std.specs.Prelude.{ℕ, ◌==◌, ◌||◌, not, nat_le, Bool, true, false, Option, Some, None, option_map, List, [], ◌∷◌, map}
use Rattle.sctp_serial.specs.declared.api.StreamId.{StreamId}
use Rattle.sctp_serial.specs.SerialNumber.{serial_sum, serial_difference}
use Rattle.sctp_serial.specs.Unwrapped.{u32_space}
use Rattle.sctp_wire.specs.Parameter.{outgoing_reset_request}
use Rattle.sctp_packet.specs.Chunk.{ChunkTree, re_config_chunk}
use Rattle.sctp_state.specs.declared.timer.BackoffAlgorithm.TheVariants.{Exponential}
use Rattle.sctp_state.specs.Options.{Options, reconfig_backoff}
use Rattle.sctp_state.specs.Timer.{Timer, timer, start, stop, set_duration, expire}

-- an own request that waits for its answer
pub record Request : Type 0 where
  pub number : ℕ
  pub last_tsn : ℕ  -- the last one that was assigned before the reset
  pub streams : List ℕ
  pub is_deferred : Bool  -- answered by "in progress", and not sent again since

pub record Requests : Type 0 where
  pub next : ℕ  -- the number of the next own one
  pub current : Option Request
  pub timer : Timer
  pub last : ℕ  -- the number of the peer's request that was processed last
  pub result : ℕ  -- and its result

-- ---- results (RFC 6525 section 4.4)

abbrev pub nothing_to_do : ℕ
nothing_to_do = 0

abbrev pub performed : ℕ
performed = 1

abbrev pub bad_number : ℕ
bad_number = 5

abbrev pub in_progress : ℕ
in_progress = 6

-- there is nothing more to do
abbrev pub is_final : (result : ℕ) → Bool
is_final result = not (result == in_progress)

-- the reset took place
abbrev pub is_success : (result : ℕ) → Bool
is_success result = nat_le result performed

-- ---- a new association: each side counts its requests from its first TSN

abbrev pub previous_number : ℕ → ℕ
previous_number number = serial_difference u32_space number 1

abbrev pub next_number : ℕ → ℕ
next_number number = serial_sum u32_space number 1

abbrev pub requests : Options → (my_first peer_first : ℕ) → Requests
requests o my_first peer_first = record {
  next = my_first;
  current = None;
  timer = timer o.rto_initial Exponential None (reconfig_backoff o);
  last = previous_number peer_first;
  result = nothing_to_do;
}

-- ---- an own request (RFC 6525 section 5.1.2)

abbrev pub ids : List ℕ → List StreamId
ids streams = map (λ n. record { 0 = n }) streams

-- its number stands for the number of an answer too
abbrev pub request_chunk : Request → ChunkTree
request_chunk r = re_config_chunk (outgoing_reset_request r.number r.number (record { 0 = r.last_tsn }) (ids r.streams) ∷ [])

abbrev pub lasting : (rto : ℕ) → Requests → Requests
lasting rto r = record r { timer = set_duration rto r.timer }

-- the timer starts with it
abbrev pub start_request : (now rto last_tsn : ℕ) → List ℕ → Requests → Requests
start_request now rto last_tsn streams r = record r {
  next = next_number r.next;
  current = Some (record { number = r.next; last_tsn = last_tsn; streams = streams; is_deferred = false });
  timer = start now (set_duration rto r.timer);
}

-- ---- its answer (RFC 6525 section 5.2.7)

-- what an answer says of the streams
pub data Outcome : Type 0 where
  Unsettled : Outcome
  Done : (streams : List ℕ) → Outcome
  Denied : (streams : List ℕ) → Outcome

abbrev pub outcome_by : (is_success is_final : Bool) → List ℕ → Outcome
outcome_by true is_final streams = Done streams
outcome_by false true streams = Denied streams
outcome_by false false streams = Unsettled

abbrev pub outcome_if : (is_its : Bool) → (result : ℕ) → List ℕ → Outcome
outcome_if true result streams = outcome_by (is_success result) (is_final result) streams
outcome_if false result streams = Unsettled

-- an answer to another request says nothing
abbrev pub outcome : (number result : ℕ) → Option Request → Outcome
outcome number result None = Unsettled
outcome number result (Some r) = outcome_if (r.number == number) result r.streams

-- after "in progress" it is to be sent again later
abbrev pub defer_request : (now rto : ℕ) → Request → Requests → Requests
defer_request now rto r x = record x { current = Some (record r { is_deferred = true }); timer = start now (set_duration rto x.timer) }

abbrev pub end_request : Requests → Requests
end_request x = record x { current = None; timer = stop x.timer }

abbrev pub end_or_defer : (is_final : Bool) → (now rto : ℕ) → Request → Requests → Requests
end_or_defer true now rto r x = end_request x
end_or_defer false now rto r x = defer_request now rto r x

abbrev pub response_if : (is_its : Bool) → (now rto result : ℕ) → Request → Requests → Requests
response_if true now rto result r x = end_or_defer (is_final result) now rto r x
response_if false now rto result r x = x

abbrev pub handle_response_in : Option Request → (now rto number result : ℕ) → Requests → Requests
handle_response_in None now rto number result x = x
handle_response_in (Some r) now rto number result x = response_if (r.number == number) now rto result r x

abbrev pub handle_response : (now rto number result : ℕ) → Requests → Requests
handle_response now rto number result x = handle_response_in x.current now rto number result x

-- ---- the timer (RFC 6525 section 5.1.1)

abbrev pub expire_reconfig_timer : (now : ℕ) → Requests → Requests
expire_reconfig_timer now r = record r { timer = expire now r.timer }

-- no answer came: an error, unless the request was put off
abbrev pub is_unanswered : Option Request → Bool
is_unanswered None = false
is_unanswered (Some r) = not r.is_deferred

abbrev pub without_deferral : Request → Request
without_deferral r = record r { is_deferred = false }

abbrev pub clear_deferral : Requests → Requests
clear_deferral r = record r { current = option_map without_deferral r.current }

-- ---- requests of the peer (RFC 6525 section 5.2.1)

abbrev pub is_last_request : (number : ℕ) → Requests → Bool
is_last_request number r = number == r.last

abbrev pub is_next_request : (number : ℕ) → Requests → Bool
is_next_request number r = number == next_number r.last

abbrev pub is_known_request : (number : ℕ) → Requests → Bool
is_known_request number r = is_last_request number r || is_next_request number r

abbrev pub set_last_request : (number result : ℕ) → Requests → Requests
set_last_request number result r = record r { last = number; result = result }
