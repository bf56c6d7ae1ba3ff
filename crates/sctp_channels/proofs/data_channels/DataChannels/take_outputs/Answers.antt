use Rattle.std.proofs.Common.{ap, subst, sym, ◌∙◌}
use Rattle.sctp_channels.specs.Channels.{output_of}
use Rattle.sctp_channels.specs.Steps.{StaysTold, with_outputs}
use Rattle.sctp_channels.proofs.FollowsLemmas.{one_less, told_of_outputs, told_then}
use Rattle.sctp_channels.proofs.data_channels.DataChannels.take_outputs.Goals as goal

pub loop-output-preserved : goal.loop-output-preserved
loop-output-preserved g c =
    let o = output_of c.in-Some.output in
    let taken = c.in-Some.ensures.taken in
    let row = c.in_ok-take_output.ensures.row in
    record {
      row = ap with_outputs row ∙ one_less o c.loop-output.self c.next_output.new.self taken ∙ c.loop-output.invariant.row;
      told = told_then c.args.self.now c.loop-output.self c.take_output.new.self c.loop-output.invariant.told (subst (StaysTold c.loop-output.self) (sym row) (told_of_outputs o c.loop-output.self c.next_output.new.self taken));
    }
