use Rattle.std.proofs.Common.{◌≡◌, ◌++◌, length, map, option_map, sym, ap, subst, ◌∙◌}
use Rattle.std.proofs.lemmas.List.{length-map, map_push}
use Rattle.std.proofs.lemmas.Result.{on_err_weaker}
use Rattle.sctp_association.specs.Socket.{SocketValue, association_of}
use Rattle.spec_world.specs.World.{given_up_entries, ready_before}
use Rattle.sctp_network_side.specs.Interrupted.{IsCut}
use Rattle.sctp_network_side.specs.SideView.{SideValue, end_tree, entry_tree}
use Rattle.sctp_network_side.proofs.CutLemmas.{cut_at_once, when_err}
use Rattle.sctp_network_side.proofs.SettleLemmas.{settles_associated, settles_emitted, settles_given_up, settles_ready, from_ready, from_none}
use Rattle.sctp_network_side.proofs.side.Side.settle.Goals.{then-is_same, else-is_same}
use Rattle.sctp_network_side.proofs.side.Side.settle.Goals as goal

pub returns-in_err-push-clause-cut : goal.returns-in_err-push-clause-cut
returns-in_err-push-clause-cut g c = when_err c.from_residual.result (cut_at_once (map entry_tree c.args.log.now.items) _ (map entry_tree c.push.new.self.items) (ap (map entry_tree) c.in_err-push.ensures.items))

pub returns-in_err-log_association-clause-cut : goal.returns-in_err-log_association-clause-cut
returns-in_err-log_association-clause-cut g c =
    let v : SideValue _ _ = record { socket = c.self.inside.socket; packets = map (λ bytes. bytes.items) c.self.inside.packets.items } in
    when_err c.from_residual-in_err-log_association.result (settles_associated g.R.Rng.stream g.C.Checksum.word_of v c.args.self.now c.self.view_is (end_tree c.args.end) (entry_tree c.args.first)
    c.args.before.ready (option_map association_of c.args.before.association) (map entry_tree c.args.log.now.items) (map entry_tree c.log_association.new.log.items) (map entry_tree c.push.new.self.items)
    (ap (map entry_tree) c.in_ok-push.ensures.items ∙ map_push entry_tree c.args.log.now.items c.args.first) c.in_err-log_association.ensures.kept)

pub returns-in_err-take_events-clause-cut : goal.returns-in_err-take_events-clause-cut
returns-in_err-take_events-clause-cut g c =
    let v : SideValue _ _ = record { socket = c.self.inside.socket; packets = map (λ bytes. bytes.items) c.self.inside.packets.items } in
    when_err c.from_residual-in_err-take_events.result (settles_emitted g.R.Rng.stream g.C.Checksum.word_of v c.args.self.now c.self.view_is (end_tree c.args.end) (entry_tree c.args.first)
    c.args.before.ready (option_map association_of c.args.before.association) (map entry_tree c.args.log.now.items) (map entry_tree c.take_events.new.log.items)
    (map entry_tree c.push.new.self.items) (map entry_tree c.log_association.new.log.items) c.is_same-is_same.result (option_map association_of c.association-association.result)
    (ap (map entry_tree) c.in_ok-push.ensures.items ∙ map_push entry_tree c.args.log.now.items c.args.first) c.is_same-is_same.ensures c.association-association.ensures c.in_ok-log_association.ensures.log
    (length c.self.inside.packets.items) (sym (length-map c.self.inside.packets.items (λ bytes. bytes.items))) c.in_err-take_events.ensures.cut)

pub returns-in_err-take_given_up-clause-cut : goal.returns-in_err-take_given_up-clause-cut
returns-in_err-take_given_up-clause-cut g c =
    let v : SideValue _ _ = record { socket = c.self.inside.socket; packets = map (λ bytes. bytes.items) c.self.inside.packets.items } in
    let l3 = map entry_tree c.take_events.new.log.items in
    when_err c.from_residual-in_err-take_given_up.result (settles_given_up g.R.Rng.stream g.C.Checksum.word_of v c.args.self.now c.self.view_is (end_tree c.args.end) (entry_tree c.args.first)
    c.args.before.ready (option_map association_of c.args.before.association) (map entry_tree c.args.log.now.items) (map entry_tree c.take_given_up.new.log.items)
    (map entry_tree c.push.new.self.items) (map entry_tree c.log_association.new.log.items) c.is_same-is_same.result (option_map association_of c.association-association.result)
    (ap (map entry_tree) c.in_ok-push.ensures.items ∙ map_push entry_tree c.args.log.now.items c.args.first) c.is_same-is_same.ensures c.association-association.ensures c.in_ok-log_association.ensures.log
    l3 (length c.self.inside.packets.items) (sym (length-map c.self.inside.packets.items (λ bytes. bytes.items))) c.in_ok-take_events.ensures.log
    (subst (λ (s : SocketValue _ _). IsCut l3 (l3 ++ given_up_entries (end_tree c.args.end) s.context.emitted.given_up) (map entry_tree c.take_given_up.new.log.items))
    c.in_ok-take_events.ensures.socket c.in_err-take_given_up.ensures.cut))

pub returns-clause-cut : goal.returns-clause-cut
returns-clause-cut g c =
    let v : SideValue _ _ = record { socket = c.self.inside.socket; packets = map (λ bytes. bytes.items) c.self.inside.packets.items } in
    let l3 = map entry_tree c.take_events.new.log.items in
    let same = c.is_same-is_same.result in
    let from : c.if-is_same.place ≡ ready_before same c.args.before.ready = elim c.if-is_same.branch [
      | then-is_same w ↦ from_ready same c.if-is_same.place c.args.before.ready w.if-is_same.true w.place-is
      | else-is_same w ↦ from_none same c.if-is_same.place c.args.before.ready w.if-is_same.false w.place-is
    ] in
    on_err_weaker c.log_ready.result (settles_ready g.R.Rng.stream g.C.Checksum.word_of v c.args.self.now c.self.view_is (end_tree c.args.end) (entry_tree c.args.first)
    c.args.before.ready (option_map association_of c.args.before.association) (map entry_tree c.args.log.now.items) (map entry_tree c.log_ready.new.log.items)
    (map entry_tree c.push.new.self.items) (map entry_tree c.log_association.new.log.items) same (option_map association_of c.association-association.result)
    (ap (map entry_tree) c.in_ok-push.ensures.items ∙ map_push entry_tree c.args.log.now.items c.args.first) c.is_same-is_same.ensures c.association-association.ensures c.in_ok-log_association.ensures.log
    l3 (length c.self.inside.packets.items) (sym (length-map c.self.inside.packets.items (λ bytes. bytes.items))) c.in_ok-take_events.ensures.log
    (map entry_tree c.take_given_up.new.log.items) c.if-is_same.place c.take_given_up.new.socket.state
    (c.in_ok-take_given_up.ensures.log ∙ ap (λ (s : SocketValue _ _). l3 ++ given_up_entries (end_tree c.args.end) s.context.emitted.given_up) c.in_ok-take_events.ensures.socket)
    from (ap (λ (s : SocketValue _ _). s.state) c.in_ok-take_given_up.ensures.socket ∙ ap (λ (s : SocketValue _ _). s.state) c.in_ok-take_events.ensures.socket)) c.log_ready.ensures.cut
