use Rattle.sctp_channels.proofs.FollowsLemmas.{follows_counts}
use Rattle.sctp_channels.proofs.data_channels.DataChannels.note_streams.Goals as goal

pub returns-in-Some-clause-steps : goal.returns-in-Some-clause-steps
returns-in-Some-clause-steps g c = follows_counts c.min.result c.args.self.now c.set_stream_count.new.self c.set_stream_count.ensures
