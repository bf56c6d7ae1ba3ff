-- Conversations of two ends with default options, as they have to go.
use Rattle.std.specs.Prelude.{◌≡◌, ℕ, ◌*◌, Bool, true, false, Some, List, [], ◌∷◌, ◌++◌, replicate, codes}
use Rattle.sctp_serial.specs.Messages.{Message}
use Rattle.sctp_state.specs.Numbers.{ms}
use Rattle.sctp_state.specs.Options.{plainly}
use Rattle.sctp_state.specs.declared.api.ErrorKind.TheVariants.{PeerReported}
use Rattle.sctp_state.specs.declared.api.GivenUpCause.TheVariants.{Retransmissions}
use Rattle.sctp_state.specs.Events.{OnConnected, OnClosed, OnAborted, OnBufferedAmountLow, OnLifecycleMessageFullySent, OnLifecycleMessageDelivered, OnLifecycleEnd, OnIncomingStreamReset, OnStreamsResetPerformed}
use Rattle.sctp_state.specs.declared.api.errors.RestoreError.TheVariants.{InvalidState, SocketNotClosed}
use Rattle.sctp_state.specs.Handover.{HandoverState}
use Rattle.spec_endpoint.specs.Association.{Identity, State, Closed, Open, EndpointState}
use Rattle.spec_endpoint.specs.Handover.{readiness, handed_over, restore_refusal_in}
use Rattle.spec_endpoint.specs.Pair.{SentPacket, Line, PacketLine, Says, GaveUp, Move, Connect, Give, Send, TakeReady, Time, Close, Shutdown, HandOver, TakeUp, after_moves, then, ready_b, Reset, results_b}

abbrev pub message : (stream : ℕ) → List ℕ → Message
message stream bytes = record { stream = stream; ppid = 53; payload = bytes }

abbrev pub opened : List Move
opened = Connect true ∷ Give 0 false ∷ Give 0 true ∷ Give 1 false ∷ Give 1 true ∷ []

-- each end's tags and first TSNs are the other's, exchanged
abbrev pub AreIdentitiesMirrored : Identity → Identity → Type 0
AreIdentitiesMirrored i j = (i.my_tag ≡ j.peer_tag) × (i.my_first ≡ j.peer_first) × (i.peer_tag ≡ j.my_tag) × (i.peer_first ≡ j.my_first)

abbrev pub AreMirrored : State → State → Type 0
AreMirrored (Open p t) (Open q u) = AreIdentitiesMirrored t.identity u.identity
AreMirrored s r = ⊥

abbrev pub AreMirroredAfter : List Move → Type 0
AreMirroredAfter moves = AreMirrored (after_moves moves).a.endpoint_state.state (after_moves moves).b.endpoint_state.state

abbrev pub size : ℕ → Line
size bytes = PacketLine bytes

-- ---- the first conversation

abbrev pub first_message : Move
first_message = Send true (message 1 (1 ∷ 2 ∷ 3 ∷ [])) (record plainly { lifecycle_id = Some 7 })

abbrev pub sent_first : List Move
sent_first = opened ++ (first_message ∷ [])

pub record FirstConversation : Type 0 where
  pub opening : (after_moves opened).log ≡ size 44 ∷ size 96 ∷ size 64 ∷ Says OnConnected ∷ size 16 ∷ Says OnConnected ∷ []
  pub mirrored : AreMirroredAfter opened
  pub sent : then opened (first_message ∷ []) ≡ Says (OnBufferedAmountLow 1) ∷ Says (OnLifecycleMessageFullySent 7) ∷ size 32 ∷ []
  pub came : ready_b (sent_first ++ (Give 2 false ∷ [])) ≡ message 1 (1 ∷ 2 ∷ 3 ∷ []) ∷ []
  pub answered : then sent_first (Give 2 false ∷ TakeReady false ∷ Give 2 true ∷ []) ≡
      size 28 ∷ Says (OnLifecycleMessageDelivered 7) ∷ Says (OnLifecycleEnd 7) ∷ []
  pub repeated : ready_b (sent_first ++ (Give 2 false ∷ Give 2 false ∷ Give 2 false ∷ [])) ≡ message 1 (1 ∷ 2 ∷ 3 ∷ []) ∷ []

-- ---- two messages that come in the other order

abbrev pub two : (is_unordered : Bool) → List Move
two is_unordered = opened
    ++ (Send true (message 1 (97 ∷ [])) (record plainly { unordered = is_unordered })
    ∷ Send true (message 1 (98 ∷ [])) (record plainly { unordered = is_unordered }) ∷ [])

pub record OtherOrder : Type 0 where
  pub waits : ready_b (two false ++ (Give 3 false ∷ [])) ≡ []
  pub ordered : ready_b (two false ++ (Give 3 false ∷ Give 2 false ∷ [])) ≡ message 1 (97 ∷ []) ∷ message 1 (98 ∷ []) ∷ []
  pub unordered : ready_b (two true ++ (Give 3 false ∷ Give 2 false ∷ [])) ≡ message 1 (98 ∷ []) ∷ message 1 (97 ∷ []) ∷ []

-- ---- both ends connect

abbrev pub simultaneous : List Move
simultaneous = Connect true ∷ Connect false ∷ Give 0 false ∷ Give 0 true ∷ Give 1 true ∷ Give 1 false ∷ Give 2 false ∷ Give 2 true ∷ Give 3 true ∷ Give 3 false ∷ []

abbrev pub late_cookie : List Move
late_cookie = Connect true ∷ Give 0 false ∷ Connect false ∷ Give 1 true ∷ Give 1 false ∷ Give 0 true ∷ []

pub record BothConnect : Type 0 where
  pub together : (after_moves simultaneous).log ≡ size 44 ∷ size 44 ∷ size 96 ∷ size 96 ∷ size 64 ∷ size 64 ∷ Says OnConnected ∷ size 16 ∷ Says OnConnected ∷ size 16 ∷ []
  pub mirrored : AreMirroredAfter simultaneous
  pub discarded : then late_cookie (Give 2 false ∷ []) ≡ []
  pub goes_on : then late_cookie (Give 2 false ∷ Give 2 true ∷ []) ≡ Says OnConnected ∷ size 16 ∷ []
  pub mirrored_late : AreMirroredAfter (late_cookie ++ (Give 2 false ∷ Give 2 true ∷ Give 3 false ∷ []))
  pub again : then opened (Give 1 false ∷ []) ≡ size 16 ∷ []
  pub same : AreMirroredAfter (opened ++ (Give 1 false ∷ []))

-- ---- a message that is given up

abbrev pub lossy : List Move
lossy = opened ++ (Send true (message 1 (120 ∷ [])) (record plainly { max_retransmissions = Some 0 })
    ∷ Send true (message 1 (120 ∷ [])) (record plainly { lifecycle_id = Some 9 }) ∷ [])

abbrev pub lost : List Move
lost = lossy ++ (Give 3 false ∷ Give 2 true ∷ [])

abbrev pub passed : List Move
passed = lost ++ (Time (500 * ms) ∷ Give 4 false ∷ [])

pub record GivenUpOnce : Type 0 where
  pub held : then lossy (Give 3 false ∷ Give 2 true ∷ []) ≡ size 32 ∷ []
  pub given_up : then lost (Time (500 * ms) ∷ []) ≡ size 24 ∷ GaveUp (record { number = 0; cause = Retransmissions 0 }) ∷ []
  pub came : ready_b passed ≡ message 1 (120 ∷ []) ∷ []
  pub silent : then (lost ++ (Time (500 * ms) ∷ [])) (Give 4 false ∷ []) ≡ []
  pub delivered : then passed (Time (700 * ms) ∷ Give 3 true ∷ []) ≡ size 28 ∷ Says (OnLifecycleMessageDelivered 9) ∷ Says (OnLifecycleEnd 9) ∷ []

-- ---- three fragments, a close, and an INIT that isn't answered

abbrev pub long_message : Move
long_message = Send true (message 1 (replicate 2500 0)) plainly

pub record Fragments : Type 0 where
  pub sent : then opened (long_message ∷ []) ≡ size 1188 ∷ size 1188 ∷ Says (OnBufferedAmountLow 1) ∷ size 208 ∷ []
  pub answered : then (opened ++ (long_message ∷ [])) (Give 2 false ∷ Give 3 false ∷ Give 4 false ∷ []) ≡ size 28 ∷ size 28 ∷ []
  pub came : ready_b (opened ++ (long_message ∷ Give 2 false ∷ Give 3 false ∷ Give 4 false ∷ [])) ≡ message 1 (replicate 2500 0) ∷ []

pub record Closes : Type 0 where
  pub emitted : then opened (Close true ∷ Give 2 false ∷ []) ≡
      size 32 ∷ Says OnClosed ∷ Says (OnAborted PeerReported (codes "USER INITIATED ABORT, reason=Close called")) ∷ []
  pub resent : then (Connect true ∷ []) (Time (999 * ms) ∷ Time (1000 * ms) ∷ []) ≡ size 44 ∷ []

-- ---- ends that send no data: each asks for the other

abbrev pub short_message : Move
short_message = Send true (message 1 (120 ∷ [])) plainly

abbrev pub idle : List Move
idle = opened ++ (Time (30000 * ms) ∷ [])

pub record Beats : Type 0 where
  pub asked : then opened (Time (29999 * ms) ∷ Time (30000 * ms) ∷ []) ≡ size 24 ∷ size 24 ∷ []
  pub answered : then idle (Give 2 false ∷ Give 3 true ∷ []) ≡ size 24 ∷ []
  pub again : then idle (Give 2 false ∷ Give 3 true ∷ Time (60000 * ms) ∷ []) ≡ size 24 ∷ size 24 ∷ size 24 ∷ []
  pub errors : (after_moves (idle ++ (Time (30500 * ms) ∷ []))).a.endpoint_state.context.errors.value ≡ 1
  pub none : (after_moves (idle ++ (Give 2 false ∷ Give 3 true ∷ Time (30500 * ms) ∷ []))).a.endpoint_state.context.errors.value ≡ 0
  pub later : then opened (Time (20000 * ms) ∷ short_message ∷ Give 2 false ∷ Give 2 true ∷ Time (30000 * ms) ∷ []) ≡
      Says (OnBufferedAmountLow 1) ∷ size 32 ∷ size 28 ∷ size 24 ∷ []

-- ---- a shutdown, at once and behind a message

pub record ShutsDown : Type 0 where
  pub emitted : then opened (Shutdown true ∷ Give 2 false ∷ Give 2 true ∷ Give 3 false ∷ []) ≡ size 20 ∷ size 16 ∷ size 16 ∷ Says OnClosed ∷ Says OnClosed ∷ []
  pub waits : then (opened ++ (short_message ∷ [])) (Shutdown true ∷ []) ≡ []
  pub goes_on : then (opened ++ (short_message ∷ Shutdown true ∷ Give 2 false ∷ [])) (Give 2 true ∷ []) ≡ size 20 ∷ []
  pub at_once : then (opened ++ (Shutdown true ∷ Shutdown false ∷ [])) (Give 2 false ∷ Give 2 true ∷ []) ≡ size 16 ∷ size 16 ∷ []
  pub gives_up : then (Connect true ∷ []) (Shutdown true ∷ []) ≡ Says OnClosed ∷ []

-- ---- an end that is handed over, and a new one in its place

abbrev pub endpoint_state_a : List Move → EndpointState SentPacket
endpoint_state_a moves = (after_moves moves).a.endpoint_state

abbrev pub record_of : List Move → HandoverState
record_of moves = handed_over (endpoint_state_a moves)

abbrev pub no_tag : HandoverState → HandoverState
no_tag h = record h { my_verification_tag = 0 }

abbrev pub carried_on : List Move
carried_on = opened ++ (HandOver true ∷ TakeUp true (record_of opened) ∷ [])

pub record TakenUp : Type 0 where
  pub ready : readiness (endpoint_state_a opened) ≡ 0
  pub left : then opened (HandOver true ∷ []) ≡ Says OnClosed ∷ []
  pub restored : then opened (HandOver true ∷ TakeUp true (record_of opened) ∷ []) ≡ Says OnClosed ∷ Says OnConnected ∷ []
  pub mirrored : AreMirroredAfter carried_on
  pub sent : then carried_on (short_message ∷ Give 2 false ∷ Give 2 true ∷ []) ≡ Says (OnBufferedAmountLow 1) ∷ size 32 ∷ size 28 ∷ []
  pub invalid : restore_refusal_in Closed (no_tag (record_of opened)) ≡ Some InvalidState
  pub not_closed : restore_refusal_in (endpoint_state_a opened).state (record_of opened) ≡ Some SocketNotClosed
  pub neither : restore_refusal_in (endpoint_state_a opened).state (no_tag (record_of opened)) ≡ Some SocketNotClosed

-- ---- a stream that is reset, and what comes again

abbrev pub asked_for : List Move
asked_for = opened ++ (Reset true 1 ∷ [])

pub record ResetsOnce : Type 0 where
  pub asked : then opened (Reset true 1 ∷ []) ≡ size 36 ∷ []
  pub performed : then asked_for (Give 2 false ∷ []) ≡ Says (OnIncomingStreamReset (1 ∷ [])) ∷ size 28 ∷ []
  pub repeated : then (asked_for ++ (Give 2 false ∷ [])) (Give 2 false ∷ []) ≡ size 28 ∷ []
  pub answered : then (asked_for ++ (Give 2 false ∷ Give 2 false ∷ [])) (Give 2 true ∷ Give 3 true ∷ []) ≡ Says (OnStreamsResetPerformed (1 ∷ [])) ∷ []

-- ---- a reset that waits for what was sent before it: the first message is there, the second comes later

abbrev pub behind_two : List Move
behind_two = opened ++ (short_message ∷ short_message ∷ Reset true 1 ∷ Give 2 false ∷ [])

abbrev pub put_off_moves : List Move
put_off_moves = behind_two ++ (Give 4 false ∷ [])

abbrev pub there : List Move
there = put_off_moves ++ (Give 3 false ∷ [])

pub record ResetWaits : Type 0 where
  pub waits : then behind_two (Give 4 false ∷ []) ≡ size 28 ∷ []
  pub in_progress : results_b put_off_moves ≡ 6 ∷ []
  pub performed : then there (Give 4 false ∷ []) ≡ Says (OnIncomingStreamReset (1 ∷ [])) ∷ size 28 ∷ size 28 ∷ []
  pub repeated : then (there ++ (Give 4 false ∷ [])) (Give 4 false ∷ []) ≡ size 28 ∷ []
  pub results : results_b (there ++ (Give 4 false ∷ Give 4 false ∷ [])) ≡ 6 ∷ 1 ∷ 1 ∷ []
  pub again : then (put_off_moves ++ (Give 3 true ∷ [])) (Time (500 * ms) ∷ []) ≡ size 36 ∷ size 52 ∷ []
  pub errors : (after_moves (put_off_moves ++ (Give 3 true ∷ Time (500 * ms) ∷ []))).a.endpoint_state.context.errors.value ≡ 1  -- of the data alone
