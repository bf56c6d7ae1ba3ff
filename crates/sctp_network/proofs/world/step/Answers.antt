use Rattle.std.proofs.Common.{[], ◌∷◌, ap}
use Rattle.std.proofs.lemmas.Result.{on_ok_weaker, IfErr-weaker}
use Rattle.std.proofs.lemmas.List.Elements.{All-nil, All-cons}
use Rattle.proof_delivery.proofs.LawLemmas.{delivered, refused_none, delivered_then}
use Rattle.spec_world.specs.World.{World}
use Rattle.spec_world.proofs.RunLemmas.{runs_one}
use Rattle.proof_world.specs.Reachable.{ActionFits}
use Rattle.proof_awake.proofs.WorldLemmas.{worlds_awake}
use Rattle.proof_awake.proofs.WorldLineLemmas.{worlds_lined}
use Rattle.proof_world.proofs.AgreedLemmas.{worlds_agree}
use Rattle.proof_world.proofs.ComposedLemmas.{compose}
use Rattle.sctp_network_side.specs.SideView.{action_of}
use Rattle.sctp_network.specs.WorldView.{world_of}
use Rattle.sctp_network.proofs.GoesLemmas.{leads_on, only_memory}
use Rattle.sctp_network.proofs.ReachableLemmas.{reachable_by, lacks_then}
use Rattle.sctp_network.proofs.world.step.Goals as goal

pub returns-clause-first_run : goal.returns-clause-first_run
returns-clause-first_run g c =
    let w : World = world_of g.R.Rng.stream g.C.Checksum.word_of c.args.world.now in
    let v : World = world_of g.R.Rng.stream g.C.Checksum.word_of c.happen-answer.new.self in
    on_ok_weaker c.happen-answer.result (λ happens. leads_on (action_of c.args.event.now ∷ []) w v (runs_one (action_of c.args.event.now) w v happens)) c.happen-answer.ensures.ok

pub returns-clause-nothing_lacks : goal.returns-clause-nothing_lacks
returns-clause-nothing_lacks g c =
    let w : World = world_of g.R.Rng.stream g.C.Checksum.word_of c.args.world.now in
    let v : World = world_of g.R.Rng.stream g.C.Checksum.word_of c.happen-answer.new.self in
    IfErr-weaker c.happen-answer.result _ _ (λ e disabled. only_memory (action_of c.args.event.now ∷ []) w v e disabled)
    (lacks_then c.happen-answer.result (action_of c.args.event.now) w v c.happen-answer.ensures.disabled
    (IfErr-weaker c.happen-answer.result _ _ (λ e same is. ap (world_of g.R.Rng.stream g.C.Checksum.word_of) (same is)) c.happen-answer.ensures.same))

pub returns-clause-reachable : goal.returns-clause-reachable
returns-clause-reachable g c =
    let w : World = world_of g.R.Rng.stream g.C.Checksum.word_of c.args.world.now in
    let v : World = world_of g.R.Rng.stream g.C.Checksum.word_of c.happen-answer.new.self in
    reachable_by w v c.sent-a.result c.sent-b.result c.sent-a.ensures c.sent-b.ensures c.sent_bytes.ensures.bytes c.sent_bytes-2.ensures.bytes
    c.happen-answer.result (action_of c.args.event.now ∷ []) (All-cons ActionFits (action_of c.args.event.now) [] c.an_event_fits.ensures.fits (All-nil ActionFits))
    (on_ok_weaker c.happen-answer.result (λ happens. runs_one (action_of c.args.event.now) w v happens) c.happen-answer.ensures.ok)

pub returns-clause-composes : goal.returns-clause-composes
returns-clause-composes g c = λ o actions l. compose delivered refused_none delivered_then o actions _ l

pub returns-clause-agrees : goal.returns-clause-agrees
returns-clause-agrees g c = λ o actions l distinct. worlds_agree o actions _ l distinct

pub returns-clause-awake : goal.returns-clause-awake
returns-clause-awake g c = λ o actions l. worlds_awake o.a o.b o.draws_a o.draws_b o.word_of_a o.word_of_b actions _ l.valid_a l.valid_b l.runs

pub returns-clause-no_line : goal.returns-clause-no_line
returns-clause-no_line g c = λ o actions l. worlds_lined o actions _ l
