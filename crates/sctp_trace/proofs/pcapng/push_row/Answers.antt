use Rattle.std.proofs.Common.{List, ℕ, ◌++◌, ap, ap₂, sym, ◌∙◌}
use Rattle.sctp_trace.specs.Bytes.{with_crc32c}
use Rattle.sctp_trace.specs.Pcapng.{fate, packet_block, what_bytes}
use Rattle.sctp_trace.proofs.pcapng.push_row.Goals as goal

pub returns-in_ok-push_sent-clause-wrote : goal.returns-in_ok-push_sent-clause-wrote
returns-in_ok-push_sent-clause-wrote c =
    c.in_ok-push_sent.ensures
    ∙ ap (λ (x : List ℕ). c.args.bytes.now.items ++ x)
    (ap₂ (λ (packet : List ℕ) (times : ℕ). packet_block c.args.row.now.end c.args.row.now.nanoseconds (with_crc32c packet) (fate times))
    c.deref.ensures.value
    c.times_given-times.ensures
    ∙ sym (ap (what_bytes c.args.conversation.now.rows.now c.args.row.now.end c.args.row.now.nanoseconds) c.in-Sent.is))
