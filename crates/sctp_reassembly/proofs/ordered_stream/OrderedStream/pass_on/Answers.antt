use Rattle.std.proofs.Common.{◌++◌, ap, sym, ◌∙◌}
use Rattle.sctp_fragments.specs.Interval.{as_held}
use Rattle.sctp_reassembly.proofs.DeliverLemmas.{no_items, whole_arrives, whole_leaves}
use Rattle.sctp_reassembly.proofs.ordered_stream.OrderedStream.pass_on.Goals as goal

pub returns-clause-ok : goal.returns-clause-ok
returns-clause-ok g c =
    let x = as_held (g.K.ReassemblyKey.number c.args.key) (g.K.ReassemblyKey.index c.args.key) c.args.fragment in
    whole_leaves x _ _ _ c.requires.none c.requires.turn (c.number-number.ensures ∙ c.requires.number) (sym (no_items _ c.requires.none))

pub returns-clause-ready : goal.returns-clause-ready
returns-clause-ready g c =
    let x = as_held (g.K.ReassemblyKey.number c.args.key) (g.K.ReassemblyKey.index c.args.key) c.args.fragment in
    c.in_ok-hand_on.ensures.ready ∙ ap (λ ms. c.args.ready.now ++ ms) (sym (ap (λ d. d.messages) (whole_arrives x _ c.requires.none c.requires.turn)))
