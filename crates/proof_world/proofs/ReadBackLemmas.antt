-- Along each run the packets of a world are those of its trace, each of them read back.
use Rattle.std.proofs.Common.{List}
use Rattle.spec_world.specs.World.{World, Action}
use Rattle.proof_pair.specs.Trace.{Pair, emitted_packets, run, start}
use Rattle.proof_world.specs.Reachable.{Origin, initial_world, IsReachable}
use Rattle.proof_world.specs.Readable.{PacketsReadBack}
use Rattle.proof_world.proofs.ReadableLemmas.{all_read_back}
use Rattle.proof_world.proofs.RunsLemmas.{Ran, ran, fresh_both}

pub packets_read_back : (o : Origin) (actions : List Action) (w : World) → IsReachable o actions w → PacketsReadBack o actions w
packets_read_back o actions w l =
    let first : Pair = start o.a o.b o.draws_a o.draws_b in
    let r : Ran o.word_of_a o.word_of_b actions (initial_world o) w first =
    ran o.word_of_a o.word_of_b actions (initial_world o) w first l.fit l.runs l.bytes (fresh_both o.a o.b o.draws_a o.draws_b o.word_of_a o.word_of_b l.fits_a l.fits_b) in
    record {
      has = record { trace = r.trace; are = r.are; images = record { a = r.both.a.image; b = r.both.b.image } };
      of_a = all_read_back o.word_of_a (emitted_packets (run r.trace first).a) r.both.a.readable;
      of_b = all_read_back o.word_of_b (emitted_packets (run r.trace first).b) r.both.b.readable;
    }
