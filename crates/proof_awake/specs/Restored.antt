-- An end that takes up a record starts no timer, unless stalls are avoided. From when on its timers run again, whether they ran before or not.
use Rattle.std.specs.Prelude.{◌≡◌, ℕ, ◌≤◌, ◌⊎◌, Bool, true, false, List, [], ◌∷◌}
use Rattle.sctp_packet.specs.Chunk.{FragmentTree}
use Rattle.sctp_chunk.specs.declared.sack.GapAckBlock.{GapAckBlock}
use Rattle.sctp_state.specs.Events.{Emitted}
use Rattle.sctp_state.specs.Handover.{HandoverState}
use Rattle.sctp_tx.specs.RetransmissionQueue.{Sender, nothing_in_flight, handle_sack}
use Rattle.sctp_tx.specs.Sending as fragments
use Rattle.sctp_tx.specs.Sending.{send}
use Rattle.spec_endpoint.specs.Association.{Endpoint}
use Rattle.spec_endpoint.specs.Laws.{Restore, called}
use Rattle.spec_endpoint.specs.Packets.{room}
use Rattle.spec_endpoint.specs.Sending.{Filling, with_data}
use Rattle.proof_awake.specs.Awake.{Runs, BeatsOn}
use Rattle.proof_awake.specs.Invariant.{IsTimed}

abbrev pub FlightIsTimed : Sender → Type 0
FlightIsTimed s = (nothing_in_flight s.outstanding.items ≡ true) ⊎ Runs s.t3

-- what goes into a packet that is filled
abbrev pub fragments_for : Filling (List ℕ) → fragments.Filling (List ℕ)
fragments_for x = send x.context.now (room x.packet) x.tcb.sender x.context.queue x.context.emitted

abbrev pub has_data : List (ℕ × FragmentTree) → Bool
has_data [] = false
has_data (c ∷ cs) = true

-- a packet with data starts T3-rtx for what is in flight, and the heartbeats' interval
pub record DataStartsTimers (x : Filling (List ℕ)) : Type 0 where
  pub t3 : 1 ≤ x.tcb.sender.t3.duration → FlightIsTimed (with_data x).tcb.sender
  pub beats : BeatsOn (with_data x).context.heartbeats.interval

abbrev pub EachPacketWithDataStartsTimers : Type 0
EachPacketWithDataStartsTimers = (x : Filling (List ℕ)) → has_data (fragments_for x).chunks ≡ true → DataStartsTimers x

-- and so does a SACK that is valid start T3-rtx
abbrev pub EachSackStartsT3 : Type 0
EachSackStartsT3 =
    (now cumulative a_rwnd : ℕ) (blocks : List GapAckBlock) (s : Sender) (emitted : Emitted (List ℕ)) → 1 ≤ s.t3.duration
    → FlightIsTimed (handle_sack now cumulative a_rwnd blocks s emitted)

-- With stalls avoided its timers start as it is taken up, where its congestion window lets a packet go, as each end's does.
abbrev pub EachRestoreKeepsTimed : Type 0
EachRestoreKeepsTimed =
    (h : HandoverState) (s : Endpoint (List ℕ)) → s.endpoint_state.context.options.avoid_stalls ≡ true → s.endpoint_state.context.options.mtu ≤ h.tx.cwnd → IsTimed s.endpoint_state
    → IsTimed (called (Restore h) s).endpoint_state
