use Rattle.std.proofs.Common.{subst, sym}
use Rattle.std.specs.Prelude.{List, ℕ}
use Rattle.std.proofs.lemmas.Result.{IfOk-weaker, IfErr-weaker}
use Rattle.sctp_channels.specs.Message.{Says}
use Rattle.sctp_channels.specs.Views.{message_of}
use Rattle.sctp_channels.proofs.AnswerLemmas.{never_both_lem}
use Rattle.sctp_channels.proofs.MessageLemmas.{one_message_lem, read_back_lem}
use Rattle.sctp_channels.proofs.message.ChannelMessage.from_bytes.Goals as goal

pub returns-clause-back : goal.returns-clause-back
returns-clause-back c =
    IfOk-weaker c.read.result _ _ (λ message says. λ m fits e. one_message_lem c.args.bytes.now (message_of message) m says (subst (λ (bytes : List ℕ). Says bytes m) (sym e) (read_back_lem m fits))) c.read.ensures.ok

pub returns-clause-rightly : goal.returns-clause-rightly
returns-clause-rightly c = IfErr-weaker c.read.result _ _ (λ fault refused. λ m says. never_both_lem c.args.bytes.now m fault says refused) c.read.ensures.refused
