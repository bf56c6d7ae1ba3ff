use Rattle.std.proofs.Common.{map}
use Rattle.std.proofs.lemmas.Result.{on_ok_weaker}
use Rattle.spec_world.specs.World.{World}
use Rattle.proof_world.proofs.AlongLemmas.{worlds_show}
use Rattle.sctp_network_side.specs.SideView.{action_of}
use Rattle.sctp_network.specs.WorldView.{world_of}
use Rattle.sctp_network.proofs.ReachableLemmas.{continues, reachable_by, both_reachable, both_stopped}
use Rattle.sctp_network.proofs.world.pair.run_pair.Goals as goal

pub returns-clause-reachable : goal.returns-clause-reachable
returns-clause-reachable g c =
    let w : World = world_of g.R.Rng.stream g.C.Checksum.word_of c.args.first.now in
    let v : World = world_of g.S.Rng.stream g.C.Checksum.word_of c.args.second.now in
    let x : World = world_of g.R.Rng.stream g.C.Checksum.word_of c.lead-answer.new.first in
    let y : World = world_of g.S.Rng.stream g.C.Checksum.word_of c.lead-answer.new.second in
    both_reachable c.lead-answer.result (map action_of c.args.events.now) w v x y
    (reachable_by w x c.sent-first_a.result c.sent-first_b.result c.sent-first_a.ensures c.sent-first_b.ensures c.sent_bytes.ensures.bytes c.sent_bytes-2.ensures.bytes
    c.lead-answer.result (map action_of c.args.events.now) c.events_fit.ensures.fit (on_ok_weaker c.lead-answer.result (λ both. both.first) c.lead-answer.ensures.ok))
    (reachable_by v y c.sent-second_a.result c.sent-second_b.result c.sent-second_a.ensures c.sent-second_b.ensures c.sent_bytes-3.ensures.bytes c.sent_bytes-4.ensures.bytes
    c.lead-answer.result (map action_of c.args.events.now) c.events_fit.ensures.fit (on_ok_weaker c.lead-answer.result (λ both. both.second) c.lead-answer.ensures.ok))

pub returns-clause-stopped : goal.returns-clause-stopped
returns-clause-stopped g c =
    let w : World = world_of g.R.Rng.stream g.C.Checksum.word_of c.args.first.now in
    let v : World = world_of g.S.Rng.stream g.C.Checksum.word_of c.args.second.now in
    let x : World = world_of g.R.Rng.stream g.C.Checksum.word_of c.lead-answer.new.first in
    let y : World = world_of g.S.Rng.stream g.C.Checksum.word_of c.lead-answer.new.second in
    both_stopped c.lead-answer.result (map action_of c.args.events.now) w v x y c.events_fit.ensures.fit
    (continues w x c.sent-first_a.result c.sent-first_b.result c.sent-first_a.ensures c.sent-first_b.ensures c.sent_bytes.ensures.bytes c.sent_bytes-2.ensures.bytes)
    (continues v y c.sent-second_a.result c.sent-second_b.result c.sent-second_a.ensures c.sent-second_b.ensures c.sent_bytes-3.ensures.bytes c.sent_bytes-4.ensures.bytes)
    c.lead-answer.ensures.disabled

pub returns-clause-alike : goal.returns-clause-alike
returns-clause-alike g c = λ t actions p q comparable. worlds_show t actions _ _ p q comparable
