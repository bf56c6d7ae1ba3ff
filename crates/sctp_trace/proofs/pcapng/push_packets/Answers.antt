use Rattle.std.proofs.Common.{◌≡◌, Bool, true, List, ◌++◌, get_or, ap, sym, ◌∙◌, arith, rules}
use Rattle.std.specs.Prelude.{◌||◌}
use Rattle.std.proofs.lemmas.List.{take_all}
use Rattle.std.proofs.lemmas.List.Folds.{list_any_at, list_any_more}
use Rattle.std.specs.List.{flat_map}
use Rattle.sctp_trace.specs.declared.rows.End.TheVariants as ends
use Rattle.sctp_trace.specs.declared.rows.Row.{Row}
use Rattle.sctp_trace.specs.Pcapng.{section_header, interface, row_bytes, is_too_long, has_long_packet}
use Rattle.sctp_trace.proofs.Appended.{flat_more, three_in_front}
use Rattle.sctp_trace.proofs.pcapng.push_packets.Goals as goal

abbrev is_long : Row → Bool
is_long row = is_too_long row.what

pub loop-row-preserved : goal.loop-row-preserved
loop-row-preserved c = record {
  wrote = flat_more (row_bytes c.args.conversation.now.rows.now) c.push_front.new.bytes.items c.loop-row.bytes.items _ c.args.conversation.now.rows.now
      c.loop-row.row-index c.row-item.result c.loop-row-test.true c.loop-row.invariant.wrote
      (c.in_ok-push_row.ensures.wrote
      ∙ ap (λ (row : Row). c.loop-row.bytes.items ++ row_bytes c.args.conversation.now.rows.now row) c.row-item.is);
  short = list_any_more is_long c.args.conversation.now.rows.now c.loop-row.row-index c.row-item.result c.loop-row-test.true
      ∙ (ap (λ (before : Bool). before || is_long (get_or c.args.conversation.now.rows.now c.loop-row.row-index c.row-item.result)) c.loop-row.invariant.short
      ∙ (sym (ap is_long c.row-item.is) ∙ c.in_ok-push_row.ensures.short));
}

pub returns-clause-wrote : goal.returns-clause-wrote
returns-clause-wrote c =
    three_in_front c.args.bytes.now.items section_header (interface ends.A) (interface ends.B) _ _ _ c.in_ok-push_front.ensures
    (c.loop-row.invariant.wrote
    ∙ ap (λ (rows : List Row). c.push_front.new.bytes.items ++ flat_map (row_bytes c.args.conversation.now.rows.now) rows)
    (take_all c.loop-row.row-index c.args.conversation.now.rows.now (omega (arith, c.loop-row-test.false))))

pub returns-clause-short : goal.returns-clause-short
returns-clause-short c =
    sym (ap has_long_packet (take_all c.loop-row.row-index c.args.conversation.now.rows.now (omega (arith, c.loop-row-test.false))))
    ∙ c.loop-row.invariant.short

pub returns-in_err-push_row-clause-long : goal.returns-in_err-push_row-clause-long
returns-in_err-push_row-clause-long c =
    let long : is_too_long c.row-item.result.what ≡ true → has_long_packet c.args.conversation.now.rows.now ≡ true =
    λ e. list_any_at is_long c.args.conversation.now.rows.now c.loop-row.row-index c.row-item.result c.loop-row-test.true (sym (ap is_long c.row-item.is) ∙ e) in
    search rules
