-- The requests by which an end resets its outgoing streams, in their order: what the rules know of them, and what RE-CONFIG chunks say
-- (RFC 6525 sections 4.1, 4.4, 5). Requests are counted from 0; a request's number on the wire is that many above the first TSN.
use Rattle.std.specs.Prelude.{◌≡◌, ◌≢◌, ℕ, zero, suc, ◌+◌, ◌-◌, ◌<◌, ◌≤◌, ◌⊎◌, true, cond, Option, Some, None, List, [], ◌∷◌, length, slice_get, ⊤}
use Rattle.sctp_serial.specs.Unwrapped.{origin, u32_space, wire}
use Rattle.sctp_serial.specs.declared.api.StreamId.{StreamId}
use Rattle.sctp_wire.specs.Parameter.{ParameterTree, outgoing_reset_request, incoming_reset_request, reset_response}
use Rattle.sctp_tx_queue.specs.declared.send_queue.stream.PauseState.TheVariants.{Resetting}
use Rattle.sctp_tx_queue.specs.SendQueue.{Queue, stream}
use Rattle.sctp_rx.specs.ReassemblyQueue.{Deferred}
use Rattle.proof_protocol.specs.State.{IsAmong, has, count}
use Rattle.proof_protocol.specs.Resets as rules
use Rattle.proof_protocol.specs.Resets.{Epochs}
use Rattle.proof_refines.specs.Records.{are_distinct}
use Rattle.spec_endpoint.specs.ResetRequests.{Request, Requests, ids, performed, nothing_to_do, in_progress, is_final}

pub record ResetRequest : Type 0 where
  pub streams : List ℕ
  pub upto : ℕ  -- how many fragments were numbered before

-- how many of the first n name stream s
abbrev pub named_in : (s n : ℕ) → List ResetRequest → ℕ
named_in s zero asks = 0
named_in s (suc n) [] = 0
named_in s (suc n) (a ∷ asks) = cond (has s a.streams) (suc (named_in s n asks)) (named_in s n asks)

-- the request of the rules that ask j makes for stream s: with it the stream's next epoch begins, and each ask before it that names s
-- began one
abbrev pub request_for : (s j upto : ℕ) → List ResetRequest → rules.Request
request_for s j upto asks = record { stream = s; upto = upto; epoch = suc (named_in s j asks) }

-- an ask names some streams, each once, and all that was numbered then is numbered still
pub record IsResetRequest (x : Epochs) (a : ResetRequest) : Type 0 where
  pub some : a.streams ≢ []
  pub distinct : are_distinct a.streams ≡ true
  pub within : a.upto ≤ count x.transfer.sender

-- of these asks so many were performed, and so many answered; at most one has no answer
pub record AreRequested (x : Epochs) (asks : List ResetRequest) (done answered : ℕ) : Type 0 where
  pub opened : (s : ℕ) → x.opened s ≡ named_in s answered asks
  pub performed : (s : ℕ) → x.performed s ≡ named_in s done asks
  pub fine : (j : ℕ) (a : ResetRequest) → slice_get asks j ≡ Some a → IsResetRequest x a
  pub sent : (j : ℕ) (a : ResetRequest) → slice_get asks j ≡ Some a → (s : ℕ) → has s a.streams ≡ true → IsAmong (request_for s j a.upto asks) x.requests
  pub order : (answered ≤ done) × (done ≤ length asks) × (length asks ≤ suc answered)

-- ---- on the wire

-- the number of ask j, where the first TSN is `first`
abbrev pub number_of : (first j : ℕ) → ℕ
number_of first j = wire u32_space first (origin + j)

-- the last TSN before it
abbrev pub last_tsn_of : (first : ℕ) → ResetRequest → ℕ
last_tsn_of first a = wire u32_space first (origin + a.upto - 1)

-- A request parameter with this number, last TSN and streams is one of the asks.
pub record SaysAsk (first : ℕ) (asks : List ResetRequest) (number last_tsn : ℕ) (streams : List StreamId) : Type 0 where
  pub at : ℕ
  pub ask : ResetRequest
  pub there : slice_get asks at ≡ Some ask
  pub number_is : number ≡ number_of first at
  pub last_is : last_tsn ≡ last_tsn_of first ask
  pub streams_are : streams ≡ ids ask.streams

-- An answer that is final is to a request that was performed. Where it isn't "performed", another one was sent since: `asked` are all.
pub record SaysDone (first done asked number result : ℕ) : Type 0 where
  pub at : ℕ
  pub number_is : number ≡ number_of first at
  pub below : at < done
  pub performed_or_older : (result ≡ performed) ⊎ (suc at < asked)

-- A parameter says something of both directions: requests of the one that its end sends, answers of the other. No end asks for
-- incoming streams to be reset.
abbrev pub SaysOutgoing : (first : ℕ) → List ResetRequest → ParameterTree → Type 0
SaysOutgoing first asks (outgoing_reset_request number response last_tsn streams) = SaysAsk first asks number last_tsn.0 streams
SaysOutgoing first asks (incoming_reset_request number streams) = ⊥
SaysOutgoing first asks parameter = ⊤

abbrev pub SaysIncoming : (first done asked : ℕ) → ParameterTree → Type 0
SaysIncoming first done asked (reset_response number result sender receiver) = is_final result ≡ true → SaysDone first done asked number result
SaysIncoming first done asked parameter = ⊤

-- ---- what the ends hold

-- it is ask j
pub record IsRequestOf (first j : ℕ) (a : ResetRequest) (r : Request) : Type 0 where
  pub number : r.number ≡ number_of first j
  pub last_tsn : r.last_tsn ≡ last_tsn_of first a
  pub streams : r.streams ≡ a.streams

-- the last ask, which waits for its answer, and the streams that are being reset are its streams
pub record IsCurrent (first answered : ℕ) (asks : List ResetRequest) (q : Queue) (current : Option Request) : Type 0 where
  pub ask : ResetRequest
  pub there : slice_get asks answered ≡ Some ask
  pub request : Request
  pub is : current ≡ Some request
  pub says : IsRequestOf first answered ask request
  pub resetting : (s : ℕ) → has s ask.streams ≡ true → (stream s q.streams).pause ≡ Resetting
  pub others : (s : ℕ) → (stream s q.streams).pause ≡ Resetting → has s ask.streams ≡ true

-- none waits, and no stream is being reset
pub record NoneCurrent (q : Queue) (current : Option Request) : Type 0 where
  pub none : current ≡ None
  pub resetting : (s : ℕ) → (stream s q.streams).pause ≡ Resetting → ⊥

-- the end that asks
pub record IsAsking (first answered : ℕ) (asks : List ResetRequest) (q : Queue) (r : Requests) : Type 0 where
  pub next : r.next ≡ number_of first (length asks)
  pub current : ((length asks ≡ answered) × NoneCurrent q r.current) ⊎ ((length asks ≡ suc answered) × IsCurrent first answered asks q r.current)

-- the last of those that were performed was answered so; before a first one, nothing was to do
pub record HasPerformed (first done : ℕ) (r : Requests) (deferred : Option Deferred) : Type 0 where
  pub last : r.last ≡ wire u32_space first (origin + done - 1)
  pub result : (r.result ≡ performed) ⊎ ((r.result ≡ nothing_to_do) × (done ≡ 0))
  pub none : deferred ≡ None

-- the next one is deferred
pub record HasDeferred (first done : ℕ) (asks : List ResetRequest) (r : Requests) (deferred : Option Deferred) : Type 0 where
  pub ask : ResetRequest
  pub there : slice_get asks done ≡ Some ask
  pub last : r.last ≡ number_of first done
  pub result : r.result ≡ in_progress
  pub reset : Deferred
  pub is : deferred ≡ Some reset
  pub streams : reset.streams ≡ ids ask.streams

-- the end that performs what the other one asks
abbrev pub IsAnswering : (first done : ℕ) → List ResetRequest → Requests → Option Deferred → Type 0
IsAnswering first done asks r deferred = HasPerformed first done r deferred ⊎ HasDeferred first done asks r deferred
