use Rattle.std.proofs.Common.{ℕ, ap, sym, ◌∙◌, nat_cmp, arith}
use Rattle.std.proofs.lemmas.Grind.{common_steps}
use Rattle.std.specs.BTreeMap.{get}
use Rattle.sctp_trace.specs.Rows.{same_end, sends, sends_number}
use Rattle.sctp_trace.proofs.OneMore.{own_packet_has_number, not_own_packet, none_sent, one_sent, no_sending}
use Rattle.sctp_trace.proofs.conversation.note_sending.Goals as goal

pub returns-in_ok-insert : goal.returns-in_ok-insert
returns-in_ok-insert c = one_sent
    c.args.rows.now c.args.from c.args.at c.index-rows-at.result c.requires.inside c.index-rows-at.is
    c.in-Sent.number (get nat_cmp c.args.sent.now) (get nat_cmp c.insert.new.self)
    (own_packet_has_number (same_end c.index-rows-at.result.end c.args.from) c.in-Sent.number
    (λ (q : ℕ). sends c.args.from q c.index-rows-at.result)
    (λ q. ap (sends_number (same_end c.index-rows-at.result.end c.args.from) q) c.in-Sent.is)
    (sym c.sends.ensures ∙ c.if-sends.true))
    c.requires.before
    (λ q. grind (arith, common_steps, c.in_ok-insert.ensures.updates.0 q))

pub returns-else-sends : goal.returns-else-sends
returns-else-sends c = none_sent
    c.args.rows.now c.args.from c.args.at c.index-rows-at.result c.requires.inside c.index-rows-at.is
    (get nat_cmp c.args.sent.now)
    (not_own_packet (same_end c.index-rows-at.result.end c.args.from) c.in-Sent.number
    (λ (q : ℕ). sends c.args.from q c.index-rows-at.result)
    (λ q. ap (sends_number (same_end c.index-rows-at.result.end c.args.from) q) c.in-Sent.is)
    (sym c.sends.ensures ∙ c.if-sends.false))
    c.requires.before

pub returns-in_default : goal.returns-in_default
returns-in_default c = none_sent
    c.args.rows.now c.args.from c.args.at c.index-rows-at.result c.requires.inside c.index-rows-at.is
    (get nat_cmp c.args.sent.now) (λ q. no_sending (same_end c.index-rows-at.result.end c.args.from) q c.index-rows-at.result.what c.in_default.not-Sent) c.requires.before
