-- Where the rules of a sender lead, and what is emitted meanwhile.
use Rattle.std.specs.Prelude.{◌≡◌, ℕ, Bool, true, false, not, Option, Some, None, List, [], ◌∷◌, ◌++◌, map}
use Rattle.std.specs.List.{list_all}
use Rattle.sctp_state.specs.Events as events
use Rattle.sctp_state.specs.Events.{Emitted}
use Rattle.sctp_tx_queue.specs.SendQueue.{Queue}
use Rattle.sctp_tx_outstanding.specs.OutstandingData.{Items}
use Rattle.proof_protocol.specs.State.{Message, Transfer, is_empty}
use Rattle.proof_protocol.specs.Rules.{TransferEvent, accept, begin, number, end_with_placeholder, give_up, data_comes, late_comes, become_ready, send_sack, acknowledge_next, send_forward, forward_comes, perform_reset, Happens, run}
use Rattle.proof_protocol.specs.Invariant.{Invariant}
use Rattle.proof_refines.specs.SenderRefinement.{SenderRefines}

-- the place that a rule gives up
abbrev pub given_up_by : TransferEvent → List ℕ
given_up_by accept = []
given_up_by (begin p) = []
given_up_by (number p bytes more) = []
given_up_by (end_with_placeholder p) = []
given_up_by (give_up p) = p ∷ []
given_up_by (data_comes t) = []
given_up_by (late_comes t) = []
given_up_by (become_ready p) = []
given_up_by (send_sack c) = []
given_up_by (acknowledge_next c) = []
given_up_by (send_forward f) = []
given_up_by (forward_comes f) = []
given_up_by (perform_reset s c) = []

-- the rules of a sender, but for acceptance. A fragment has bytes
abbrev pub is_sending : TransferEvent → Bool
is_sending accept = false
is_sending (begin p) = true
is_sending (number p bytes more) = not (is_empty bytes)
is_sending (end_with_placeholder p) = true
is_sending (give_up p) = true
is_sending (data_comes t) = false
is_sending (late_comes t) = false
is_sending (become_ready p) = false
is_sending (send_sack c) = false
is_sending (acknowledge_next c) = true
is_sending (send_forward f) = true
is_sending (forward_comes f) = false
is_sending (perform_reset s c) = false

abbrev pub given_up_places : List TransferEvent → List ℕ
given_up_places [] = []
given_up_places (e ∷ es) = given_up_by e ++ given_up_places es

-- the messages of which a record says that they were given up
abbrev pub recorded_places : {P : Type 0} → Emitted P → List ℕ
recorded_places emitted = map (λ g. g.number) emitted.given_up

-- rules of a sender, which change it alone, lead from x to y, and give these places up
pub record SenderLeads (message : ℕ → Message) (is_interleaved : Bool) (x y : Transfer) (places : List ℕ) : Type 0 where
  pub events : List TransferEvent
  pub may : Happens message is_interleaved x events
  pub leads : run message is_interleaved x events ≡ y
  pub sends : list_all is_sending events ≡ true
  pub given_up : given_up_places events ≡ places
  pub rest_stays : y ≡ record x { sender = y.sender }

-- such rules lead from x to a state that the values refine, and each message given up meanwhile has one record
pub record SenderLeadsTo {P : Type 0} (message : ℕ → Message) (lifecycle : ℕ → Option ℕ) (is_interleaved : Bool) (x : Transfer) (emitted : Emitted P) (q : Queue) (s : Items) (later : Emitted P) : Type 0 where
  pub after : Transfer
  pub places : List ℕ
  pub leads : SenderLeads message is_interleaved x after places
  pub kept : Invariant message is_interleaved after
  pub refines : SenderRefines message lifecycle is_interleaved after q s
  pub recorded : recorded_places later ≡ recorded_places emitted ++ places

-- ---- what is emitted of messages that leave

abbrev pub delivered_by : {P : Type 0} → events.Event P → List ℕ
delivered_by (events.SendPacket p) = []
delivered_by events.OnConnected = []
delivered_by events.OnClosed = []
delivered_by events.OnConnectionRestarted = []
delivered_by (events.OnAborted kind text) = []
delivered_by (events.OnError kind text) = []
delivered_by (events.OnBufferedAmountLow id) = []
delivered_by events.OnTotalBufferedAmountLow = []
delivered_by (events.OnStreamsResetFailed ids) = []
delivered_by (events.OnStreamsResetPerformed ids) = []
delivered_by (events.OnIncomingStreamReset ids) = []
delivered_by (events.OnLifecycleMessageFullySent id) = []
delivered_by (events.OnLifecycleMessageMaybeExpired id) = []
delivered_by (events.OnLifecycleMessageExpired id) = []
delivered_by (events.OnLifecycleMessageDelivered id) = id ∷ []
delivered_by (events.OnLifecycleEnd id) = []

-- the lifecycle ids that are emitted as delivered
abbrev pub delivered_ids : {P : Type 0} → List (events.Event P) → List ℕ
delivered_ids [] = []
delivered_ids (e ∷ es) = delivered_by e ++ delivered_ids es

abbrev pub id_of : Option ℕ → List ℕ
id_of None = []
id_of (Some id) = id ∷ []

-- the lifecycle ids of the messages at these places
abbrev pub ids_at : (ℕ → Option ℕ) → List ℕ → List ℕ
ids_at lifecycle [] = []
ids_at lifecycle (p ∷ ps) = id_of (lifecycle p) ++ ids_at lifecycle ps
