use Rattle.std.proofs.Common.{◌∙◌, ◌≡◌, ℕ, ◌<◌, true, false, Some, None, List, [], ◌∷◌, rules, refl, ap, sym, inl, inr, arith}
use Rattle.sctp_chunk.specs.Chunk.{FragmentTree}
use Rattle.sctp_chunk.specs.Views.{fragment_tree}
use Rattle.sctp_tx_outstanding.specs.OutstandingData.{next_number, wire_tsn}
use Rattle.sctp_tx_queue.specs.Views.{produced_of}
use Rattle.sctp_tx.specs.Resent.{may_send_new}
use Rattle.sctp_tx.specs.Sending.{Filling, filling, next_turn, offered_payload}
use Rattle.sctp_tx.specs.Interrupted.{NotAppended, TurnStopped}
use Rattle.sctp_tx.specs.RetransmissionQueue.{Sender}
use Rattle.sctp_tx.specs.Taken.{taken_all}
use Rattle.sctp_tx.proofs.PartlyLemmas.{on_err}
use Rattle.sctp_tx.proofs.SendingLemmas.{made_fits}
use Rattle.sctp_tx.proofs.TurnLemmas.{Gives, queue_idle, windows_shut, no_room, none_given, one_given}
use Rattle.sctp_tx.proofs.retransmission_queue.RetransmissionQueue.add_new.Goals as goal
use Rattle.sctp_tx.proofs.retransmission_queue.RetransmissionQueue.add_new.Goals.{then-not-can_send_data-via-then-not-can_send_data, then-not-can_send_data-via-else-not-can_send_data+then-max_payload-eq0}

-- no fragment is larger than what was offered
pub append-requires : goal.append-requires
append-requires g c =
    let fits = made_fits c.args.opportunity.now c.offered-max_payload.result c.args.queue.now c.args.events.now (Some (produced_of c.in-Some.fragment)) (rw c.in-Some.is at c.in_ok-fragment.ensures.made) in
    record { small = omega (arith, fits, c.offered-max_payload.ensures.small, c.requires.small) }

-- the queue has no stream to ask
idle : (g : _) (c : goal.Then-not-has_next_stream g)
    → Gives (next_turn c.args.opportunity.now (filling c.args.self.now c.args.queue.now c.args.events.now [] c.args.opportunity.max_bytes)) c.args.self.now c.args.queue.now c.args.events.now [] c.args.opportunity.max_bytes false
idle g c = queue_idle c.args.opportunity.now c.args.opportunity.max_bytes c.args.self.now c.args.queue.now c.args.events.now c.if-not-has_next_stream.ensures

pub returns-then-not-has_next_stream-clause-sender : goal.returns-then-not-has_next_stream-clause-sender
returns-then-not-has_next_stream-clause-sender g c = (idle g c).sender

pub returns-then-not-has_next_stream-clause-queue : goal.returns-then-not-has_next_stream-clause-queue
returns-then-not-has_next_stream-clause-queue g c = (idle g c).queue

pub returns-then-not-has_next_stream-clause-emitted : goal.returns-then-not-has_next_stream-clause-emitted
returns-then-not-has_next_stream-clause-emitted g c = (idle g c).emitted

pub returns-then-not-has_next_stream-clause-packet : goal.returns-then-not-has_next_stream-clause-packet
returns-then-not-has_next_stream-clause-packet g c = ap (λ (cs : List (ℕ × FragmentTree)). taken_all (g.P.TakesFragments.taken c.args.opportunity.form) cs c.args.packet.now) (idle g c).chunks

pub returns-then-not-has_next_stream-clause-more : goal.returns-then-not-has_next_stream-clause-more
returns-then-not-has_next_stream-clause-more g c = (idle g c).more

-- the windows or the packet have no room
full : (g : _) (c : goal.Joined-then-not-can_send_data g)
    → Gives (next_turn c.args.opportunity.now (filling c.args.self.now c.args.queue.now c.args.events.now [] c.args.opportunity.max_bytes)) c.args.self.now c.args.queue.now c.args.events.now [] c.args.opportunity.max_bytes false
full g c = elim c.then-not-can_send_data.branch [
  | then-not-can_send_data-via-then-not-can_send_data w ↦ windows_shut c.args.opportunity.now c.args.opportunity.max_bytes c.args.self.now c.args.queue.now c.args.events.now w.if-not-can_send_data.ensures
  | then-not-can_send_data-via-else-not-can_send_data+then-max_payload-eq0 w ↦ no_room c.args.opportunity.now c.args.opportunity.max_bytes c.args.self.now c.args.queue.now c.args.events.now (sym c.offered-max_payload.ensures.size ∙ w.if-max_payload-eq0.true)
]

pub returns-then-not-can_send_data-clause-sender : goal.returns-then-not-can_send_data-clause-sender
returns-then-not-can_send_data-clause-sender g c = (full g c).sender

pub returns-then-not-can_send_data-clause-queue : goal.returns-then-not-can_send_data-clause-queue
returns-then-not-can_send_data-clause-queue g c = (full g c).queue

pub returns-then-not-can_send_data-clause-emitted : goal.returns-then-not-can_send_data-clause-emitted
returns-then-not-can_send_data-clause-emitted g c = (full g c).emitted

pub returns-then-not-can_send_data-clause-packet : goal.returns-then-not-can_send_data-clause-packet
returns-then-not-can_send_data-clause-packet g c = ap (λ (cs : List (ℕ × FragmentTree)). taken_all (g.P.TakesFragments.taken c.args.opportunity.form) cs c.args.packet.now) (full g c).chunks

pub returns-then-not-can_send_data-clause-more : goal.returns-then-not-can_send_data-clause-more
returns-then-not-can_send_data-clause-more g c = (full g c).more

-- the queue gave no fragment
none : (g : _) (c : goal.In_default g)
    → Gives (next_turn c.args.opportunity.now (filling c.args.self.now c.args.queue.now c.args.events.now [] c.args.opportunity.max_bytes))
    (record { outstanding = c.self.inside.outstanding; windows = c.self.inside.windows; t3 = c.self.inside.t3_rtx; rtx_packets = c.self.inside.rtx_packets_count; rtx_bytes = c.self.inside.rtx_bytes_count; is_sampled = c.self.inside.is_sampled })
    c.produce_in.new.self c.produce_in.new.events [] c.args.opportunity.max_bytes false
none g c =
    let some : 0 < c.offered-max_payload.result = omega (arith, c.if-max_payload-eq0.false) in
    none_given c.args.opportunity.now c.args.opportunity.max_bytes c.args.self.now c.args.queue.now c.args.events.now c.if-not-can_send_data.ensures c.offered-max_payload.result c.offered-max_payload.ensures.size some
    _ c.self.view_is c.produce_in.new.self c.produce_in.new.events c.in_ok-fragment.ensures.queue c.in_ok-fragment.ensures.emitted (rw c.in_default.is at c.in_ok-fragment.ensures.made)

pub returns-in_default-clause-sender : goal.returns-in_default-clause-sender
returns-in_default-clause-sender g c = (none g c).sender

pub returns-in_default-clause-queue : goal.returns-in_default-clause-queue
returns-in_default-clause-queue g c = (none g c).queue

pub returns-in_default-clause-emitted : goal.returns-in_default-clause-emitted
returns-in_default-clause-emitted g c = (none g c).emitted

pub returns-in_default-clause-packet : goal.returns-in_default-clause-packet
returns-in_default-clause-packet g c = ap (λ (cs : List (ℕ × FragmentTree)). taken_all (g.P.TakesFragments.taken c.args.opportunity.form) cs c.args.packet.now) (none g c).chunks

pub returns-in_default-clause-more : goal.returns-in_default-clause-more
returns-in_default-clause-more g c = (none g c).more

-- it gave one
one : (g : _) (c : goal.After-saturating_sub g)
    → Gives (next_turn c.args.opportunity.now (filling c.args.self.now c.args.queue.now c.args.events.now [] c.args.opportunity.max_bytes))
    c.append.new.self c.produce_in.new.self c.produce_in.new.events
    ((wire_tsn c.self.inside.outstanding (next_number c.self.inside.outstanding.items), fragment_tree c.in-Some.fragment.data) ∷ []) c.saturating_sub.result true
one g c =
    let some : 0 < c.offered-max_payload.result = omega (arith, c.if-max_payload-eq0.false) in
    one_given c.args.opportunity.now c.args.opportunity.max_bytes c.args.self.now c.args.queue.now c.args.events.now c.if-not-can_send_data.ensures c.offered-max_payload.result c.offered-max_payload.ensures.size some
    _ c.self.view_is c.produce_in.new.self c.produce_in.new.events c.in_ok-fragment.ensures.queue c.in_ok-fragment.ensures.emitted
    (produced_of c.in-Some.fragment) (rw c.in-Some.is at c.in_ok-fragment.ensures.made) c.append.new.self c.in_ok-size.ensures.sender c.in_ok-size.size c.in_ok-size.ensures.size c.saturating_sub.result c.saturating_sub.ensures

pub returns-clause-sender : goal.returns-clause-sender
returns-clause-sender g c = (one g c).sender

pub returns-clause-queue : goal.returns-clause-queue
returns-clause-queue g c = (one g c).queue

pub returns-clause-emitted : goal.returns-clause-emitted
returns-clause-emitted g c = (one g c).emitted

pub returns-clause-packet : goal.returns-clause-packet
returns-clause-packet g c = c.in_ok-size.ensures.packet ∙ ap (λ (cs : List (ℕ × FragmentTree)). taken_all (g.P.TakesFragments.taken c.args.opportunity.form) cs c.args.packet.now) (one g c).chunks

pub returns-clause-left : goal.returns-clause-left
returns-clause-left g c = (one g c).left

pub returns-clause-more : goal.returns-clause-more
returns-clause-more g c = (one g c).more

pub returns-in_err-fragment-clause-err : goal.returns-in_err-fragment-clause-err
returns-in_err-fragment-clause-err g c =
    let x : Filling (List ℕ) = filling c.args.self.now c.args.queue.now c.args.events.now [] c.args.opportunity.max_bytes in
    let some : 0 < offered_payload c.args.opportunity.max_bytes c.args.self.now = omega (arith, c.if-max_payload-eq0.false, c.offered-max_payload.ensures.size) in
    let after : Sender = record {
      outstanding = c.self.inside.outstanding;
      windows = c.self.inside.windows;
      t3 = c.self.inside.t3_rtx;
      rtx_packets = c.self.inside.rtx_packets_count;
      rtx_bytes = c.self.inside.rtx_bytes_count;
      is_sampled = c.self.inside.is_sampled;
    } in
    on_err _ (TurnStopped c.args.opportunity.now x after c.produce_in.new.self c.produce_in.new.events) (record { may_send = sym c.if-not-can_send_data.ensures; room = some; stopped = inl (record { sender = c.self.view_is; queue = rw c.offered-max_payload.ensures.size at c.in_err-fragment.ensures.err }) })

pub returns-in_err-size-clause-err : goal.returns-in_err-size-clause-err
returns-in_err-size-clause-err g c =
    let x : Filling (List ℕ) = filling c.args.self.now c.args.queue.now c.args.events.now [] c.args.opportunity.max_bytes in
    let some : 0 < offered_payload c.args.opportunity.max_bytes c.args.self.now = omega (arith, c.if-max_payload-eq0.false, c.offered-max_payload.ensures.size) in
    let not_appended : NotAppended c.args.opportunity.now x c.append.new.self c.produce_in.new.self c.produce_in.new.events =
    record { fragment = produced_of c.in-Some.fragment; made = search rules; sender = c.in_err-size.ensures.err ∙ c.self.view_is; queue = search rules; events = search rules } in
    on_err _ (TurnStopped c.args.opportunity.now x c.append.new.self c.produce_in.new.self c.produce_in.new.events) (record { may_send = sym c.if-not-can_send_data.ensures; room = some; stopped = inr not_appended })
