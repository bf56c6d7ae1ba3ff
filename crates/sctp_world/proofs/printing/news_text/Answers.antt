use Rattle.std.proofs.Common.{List, ◌-◌, length, map, drop, sym, ap, ◌∙◌, arith}
use Rattle.std.specs.List.{flat_map}
use Rattle.std.proofs.lemmas.List.{drop-map, length-drop, take_all}
use Rattle.std.proofs.lemmas.Result.{IfOk-weaker}
use Rattle.spec_world.specs.Observations.{Entry}
use Rattle.sctp_world.specs.Printing.{entry_text}
use Rattle.sctp_network_side.specs.SideView.{entry_tree}
use Rattle.sctp_network.specs.WorldView.{world_of}
use Rattle.sctp_world.proofs.printing.news_text.Goals as goal

pub returns-in-Some : goal.returns-in-Some
returns-in-Some g c =
    let w = world_of g.R.Rng.stream g.C.Checksum.word_of c.args.world.now in
    let part = c.in-Some.ensures.lookup in
    let log = c.log.result.now in
    let rest = take_all (length log - c.args.before) (drop c.args.before log) (omega (arith, length-drop c.args.before log)) in
    IfOk-weaker c.entries_text.result _ _
    (λ text is. is ∙ ap (λ (entries : List Entry). flat_map (entry_text w) entries) (ap (map entry_tree) (part.0.2 ∙ rest) ∙ sym (drop-map entry_tree c.args.before c.log.result.now) ∙ ap (drop c.args.before) c.log.ensures))
    c.entries_text.ensures
