use Rattle.std.proofs.Common.{ℕ, List, refl}
use Rattle.std.specs.List.{flat_map}
use Rattle.sctp_serial.specs.declared.api.StreamId.{StreamId}
use Rattle.sctp_state.specs.Events.{numbers_of}
use Rattle.sctp_c_records.specs.Event.{low_first}
use Rattle.sctp_c_records.proofs.WorkLemmas.{work_more, work_done}
use Rattle.sctp_c_records.proofs.streams.spelled.Goals as goal

abbrev spelled : List StreamId → List ℕ
spelled ids = flat_map low_first (numbers_of ids)

pub loop-id-preserved : goal.loop-id-preserved
loop-id-preserved c = work_more spelled (λ (id : StreamId). low_first id.0) (λ _ _. refl) c.loop-id.bytes.items c.push_number.new.bytes.items c.args.ids.now
    c.loop-id.id-index _ c.loop-id-test.true c.in_ok-push_number.ensures c.loop-id.invariant

pub returns : goal.returns
returns c = work_done spelled refl c.loop-id.bytes.items c.args.ids.now c.loop-id.id-index c.loop-id-test.false c.loop-id.invariant
