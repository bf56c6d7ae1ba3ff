use Rattle.std.proofs.Common.{◌≡◌, ap, arith}
use Rattle.sctp_tx_outstanding.specs.declared.runs.Run.{Run}
use Rattle.sctp_tx_outstanding.specs.Runs.{known_of}
use Rattle.sctp_tx_outstanding.proofs.SizesLemmas.{exceeds_lem}
use Rattle.sctp_tx_outstanding.proofs.runs.Runs.is_large.Goals as goal

pub returns : goal.returns
returns c = λ yes i large.
    let known : c.known.result.least ≡ (known_of c.args.self.now.known.items c.args.run).least = ap (λ (r : Run). r.least) c.known.ensures in
    let least = (known_of c.args.self.now.known.items c.args.run).least in
    exceeds_lem c.args.is_interleaved c.args.allowed least c.min.result c.padded_size.result i (omega (arith, c.min.ensures, known)) c.padded_size.ensures yes large
