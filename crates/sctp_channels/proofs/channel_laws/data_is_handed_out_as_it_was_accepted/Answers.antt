use Rattle.sctp_channels.proofs.DataLemmas.{handed_out_as_accepted}
use Rattle.sctp_channels.proofs.channel_laws.data_is_handed_out_as_it_was_accepted.Goals as goal

pub returns : goal.returns
returns c = handed_out_as_accepted
