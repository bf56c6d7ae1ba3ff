use Rattle.sctp_channels.proofs.RunLemmas.{confirmed_once, unconfirmed}
use Rattle.sctp_channels.proofs.channel_laws.ordered_until_it_is_confirmed.Goals as goal

pub returns-clause-until : goal.returns-clause-until
returns-clause-until c = unconfirmed

pub returns-clause-not_longer : goal.returns-clause-not_longer
returns-clause-not_longer c = confirmed_once
