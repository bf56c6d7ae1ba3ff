use Rattle.sctp_capabilities.proofs.CookieLemmas.{spelled_cookie}
use Rattle.sctp_capabilities.proofs.laws.spelled_cookie_is_read.Goals as goal

pub returns : goal.returns
returns c = spelled_cookie
