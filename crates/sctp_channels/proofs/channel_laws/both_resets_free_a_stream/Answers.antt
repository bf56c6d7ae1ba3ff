use Rattle.sctp_channels.proofs.RunLemmas.{over_by_both}
use Rattle.sctp_channels.proofs.channel_laws.both_resets_free_a_stream.Goals as goal

pub returns : goal.returns
returns c = over_by_both
