use Rattle.std.proofs.Common.{subst, OnOk, Result, Ok, Err}
use Rattle.std.proofs.lemmas.Str.{IsUtf8-string_bytes}
use Rattle.sctp_channels.specs.Message.{HeaderFits}
use Rattle.sctp_channels.proofs.MessageLemmas.{open_fits}
use Rattle.sctp_channels.specs.Views.{open_of}
use Rattle.sctp_channels.proofs.message.DataChannelOpen.push_to.Goals as goal

always : {T E P : Type 0} (r : Result T E) → P → OnOk r P
always (Ok x) p = p
always (Err e) p = tt

pub returns-clause-fits : goal.returns-clause-fits
returns-clause-fits c =
    always c.extend_from_slice-2.result (open_fits (open_of c.args.self.now)
    (subst HeaderFits c.header.ensures c.push_to.ensures.fits)
    (IsUtf8-string_bytes c.args.self.now.label)
    (IsUtf8-string_bytes c.args.self.now.protocol))
