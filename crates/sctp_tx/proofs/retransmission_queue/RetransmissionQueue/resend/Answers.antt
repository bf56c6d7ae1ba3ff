use Rattle.std.proofs.Common.{◌≡◌, ◌-◌, ◌<◌, ◌^◌, ℕ, List, [], false, length, min, rules, refl, ap, sym, subst, ◌∙◌, arith}
use Rattle.std.specs.Prelude.{nat_lt}
use Rattle.sctp_tx_outstanding.specs.OutstandingData.{waiting_items}
use Rattle.sctp_tx_outstanding.specs.Resending.{Resent, SomeResent, empty_packet}
use Rattle.sctp_tx.specs.RetransmissionQueue.{Sender}
use Rattle.sctp_chunk.specs.Chunk.{FragmentTree}
use Rattle.sctp_tx.specs.Windows.{saturate_u64}
use Rattle.sctp_tx.specs.Resent.{flight, is_interleaved, sizes, resent}
use Rattle.sctp_tx.specs.Interrupted.{PartlyResent}
use Rattle.sctp_tx.specs.Taken.{taken_all}
use Rattle.sctp_tx.proofs.IdleLemmas.{none_again, same_again}
use Rattle.sctp_tx.proofs.PartlyLemmas.{on_err}
use Rattle.sctp_tx.proofs.retransmission_queue.RetransmissionQueue.resend.Goals as goal

pub returns-then-not-has_data_to_be_retransmitted-clause-sender : goal.returns-then-not-has_data_to_be_retransmitted-clause-sender
returns-then-not-has_data_to_be_retransmitted-clause-sender g c =
    let quiet : nat_lt 0 (waiting_items c.args.self.now.outstanding.items) ≡ false =
    sym (ap (λ (t : Sender). nat_lt 0 (waiting_items t.outstanding.items)) c.self.view_is) ∙ sym c.has_data_to_be_retransmitted.ensures ∙ c.if-not-has_data_to_be_retransmitted.true in
    let small : c.args.self.now.rtx_bytes < 2 ^ 64 = omega (arith, c.rtx_bytes_count-count.ensures) in
    same_again c.args.max_bytes c.args.self.now small quiet

pub returns-then-not-has_data_to_be_retransmitted-clause-packet : goal.returns-then-not-has_data_to_be_retransmitted-clause-packet
returns-then-not-has_data_to_be_retransmitted-clause-packet g c =
    let quiet : nat_lt 0 (waiting_items c.args.self.now.outstanding.items) ≡ false =
    sym (ap (λ (t : Sender). nat_lt 0 (waiting_items t.outstanding.items)) c.self.view_is) ∙ sym c.has_data_to_be_retransmitted.ensures ∙ c.if-not-has_data_to_be_retransmitted.true in
    let none : (resent c.args.max_bytes c.args.self.now).chunks ≡ [] = ap (λ (r : Resent). r.chunks) (none_again c.args.max_bytes c.args.self.now quiet) in
    sym (ap (λ (l : List (ℕ × FragmentTree)). taken_all (g.P.TakesFragments.taken c.args.form) l c.args.packet.now) none)

pub returns-then-not-has_data_to_be_retransmitted-clause-sent : goal.returns-then-not-has_data_to_be_retransmitted-clause-sent
returns-then-not-has_data_to_be_retransmitted-clause-sent g c =
    let quiet : nat_lt 0 (waiting_items c.args.self.now.outstanding.items) ≡ false =
    sym (ap (λ (t : Sender). nat_lt 0 (waiting_items t.outstanding.items)) c.self.view_is) ∙ sym c.has_data_to_be_retransmitted.ensures ∙ c.if-not-has_data_to_be_retransmitted.true in
    let none : (resent c.args.max_bytes c.args.self.now).chunks ≡ [] = ap (λ (r : Resent). r.chunks) (none_again c.args.max_bytes c.args.self.now quiet) in
    sym (ap (λ (l : List (ℕ × FragmentTree)). nat_lt 0 (length l)) none)

pub returns-then-not-has_data_to_be_retransmitted-clause-bytes : goal.returns-then-not-has_data_to_be_retransmitted-clause-bytes
returns-then-not-has_data_to_be_retransmitted-clause-bytes g c =
    let quiet : nat_lt 0 (waiting_items c.args.self.now.outstanding.items) ≡ false =
    sym (ap (λ (t : Sender). nat_lt 0 (waiting_items t.outstanding.items)) c.self.view_is) ∙ sym c.has_data_to_be_retransmitted.ensures ∙ c.if-not-has_data_to_be_retransmitted.true in
    let none : (resent c.args.max_bytes c.args.self.now).chunks ≡ [] = ap (λ (r : Resent). r.chunks) (none_again c.args.max_bytes c.args.self.now quiet) in
    sym (ap (λ (l : List (ℕ × FragmentTree)). saturate_u64 (sizes (is_interleaved c.args.self.now) l)) none)

pub returns-in_err-chunks-clause-err : goal.returns-in_err-chunks-clause-err
returns-in_err-chunks-clause-err g c =
    let v : Sender = record { outstanding = c.self.inside.outstanding; windows = c.self.inside.windows; t3 = c.self.inside.t3_rtx; rtx_packets = c.self.inside.rtx_packets_count; rtx_bytes = c.self.inside.rtx_bytes_count; is_sampled = c.self.inside.is_sampled } in
    let room : c.min-room.result ≡ min c.args.max_bytes (v.windows.cwnd - flight v) = search rules in
    let some : SomeResent false (empty_packet c.min-room.result v.windows.rwnd v.outstanding) c.get_chunks_to_be_retransmitted.new.self =
    subst (λ (n : ℕ). SomeResent false (empty_packet c.min-room.result n v.outstanding) c.get_chunks_to_be_retransmitted.new.self) c.rwnd-rwnd.ensures c.in_err-chunks.ensures.err in
    let h : PartlyResent c.args.max_bytes v (record v { outstanding = c.get_chunks_to_be_retransmitted.new.self }) =
    record { items = subst (λ (n : ℕ). SomeResent false (empty_packet n v.windows.rwnd v.outstanding) c.get_chunks_to_be_retransmitted.new.self) room some; alone = refl } in
    on_err _ (PartlyResent c.args.max_bytes c.args.self.now (record v { outstanding = c.get_chunks_to_be_retransmitted.new.self }))
    (subst (λ (t : Sender). PartlyResent c.args.max_bytes t (record v { outstanding = c.get_chunks_to_be_retransmitted.new.self })) c.self.view_is h)

-- all of them were
pub returns-in_err-take_each-clause-err : goal.returns-in_err-take_each-clause-err
returns-in_err-take_each-clause-err g c =
    let v : Sender = record { outstanding = c.self.inside.outstanding; windows = c.self.inside.windows; t3 = c.self.inside.t3_rtx; rtx_packets = c.self.inside.rtx_packets_count; rtx_bytes = c.self.inside.rtx_bytes_count; is_sampled = c.self.inside.is_sampled } in
    let room : c.min-room.result ≡ min c.args.max_bytes (v.windows.cwnd - flight v) = search rules in
    let all : SomeResent false (empty_packet c.min-room.result v.windows.rwnd v.outstanding) c.get_chunks_to_be_retransmitted.new.self =
    subst (λ (n : ℕ). SomeResent false (empty_packet c.min-room.result n v.outstanding) c.get_chunks_to_be_retransmitted.new.self) c.rwnd-rwnd.ensures (length v.outstanding.items.kept, c.in_ok-chunks.ensures.items) in
    let h : PartlyResent c.args.max_bytes v (record v { outstanding = c.get_chunks_to_be_retransmitted.new.self }) =
    record { items = subst (λ (n : ℕ). SomeResent false (empty_packet n v.windows.rwnd v.outstanding) c.get_chunks_to_be_retransmitted.new.self) room all; alone = refl } in
    on_err _ (PartlyResent c.args.max_bytes c.args.self.now (record v { outstanding = c.get_chunks_to_be_retransmitted.new.self }))
    (subst (λ (t : Sender). PartlyResent c.args.max_bytes t (record v { outstanding = c.get_chunks_to_be_retransmitted.new.self })) c.self.view_is h)
