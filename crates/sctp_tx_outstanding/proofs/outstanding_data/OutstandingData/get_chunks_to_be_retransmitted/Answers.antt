use Rattle.std.proofs.Common.{◌≡◌, ◌≤◌, ℕ, List, false, ◌∙◌, map, rules, ap, sym, subst}
use Rattle.sctp_chunk.specs.Chunk.{FragmentTree}
use Rattle.sctp_tx_outstanding.specs.Views.{chunk_of}
use Rattle.sctp_tx_outstanding.specs.OutstandingData.{waiting_items}
use Rattle.sctp_tx_outstanding.specs.Resending.{Resent, resend, chunk_bytes}
use Rattle.sctp_tx_outstanding.proofs.RoomLemmas.{resend_fits, resend_quiet, no_more_lem}
use Rattle.sctp_tx_outstanding.proofs.outstanding_data.OutstandingData.get_chunks_to_be_retransmitted.Goals as goal

pub returns-clause-fits : goal.returns-clause-fits
returns-clause-fits c =
    let d = c.args.self.now in
    let is : map chunk_of c.resend.new.filling.chunks.items ≡ (resend false c.args.max_size c.args.rwnd d).chunks = search rules in
    subst (λ (l : List (ℕ × FragmentTree)). chunk_bytes d.items.is_interleaved l ≤ c.args.max_size) (sym is) (resend_fits false c.args.max_size c.args.rwnd d)

pub returns-then-not-has_data_to_be_retransmitted-clause-items : goal.returns-then-not-has_data_to_be_retransmitted-clause-items
returns-then-not-has_data_to_be_retransmitted-clause-items c =
    let d = c.args.self.now in
    let none : waiting_items d.items ≤ 0 = no_more_lem (waiting_items d.items) (sym c.has_data_to_be_retransmitted.ensures ∙ c.if-not-has_data_to_be_retransmitted.true) in
    ap (λ (x : Resent). x.outstanding) (sym (resend_quiet c.args.max_size c.args.rwnd d none))

pub returns-then-not-has_data_to_be_retransmitted-clause-chunks : goal.returns-then-not-has_data_to_be_retransmitted-clause-chunks
returns-then-not-has_data_to_be_retransmitted-clause-chunks c =
    let d = c.args.self.now in
    let none : waiting_items d.items ≤ 0 = no_more_lem (waiting_items d.items) (sym c.has_data_to_be_retransmitted.ensures ∙ c.if-not-has_data_to_be_retransmitted.true) in
    ap (map chunk_of) c.new.ensures.items ∙ ap (λ (x : Resent). x.chunks) (sym (resend_quiet c.args.max_size c.args.rwnd d none))
