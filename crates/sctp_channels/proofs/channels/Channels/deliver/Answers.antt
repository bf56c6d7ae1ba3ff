use Rattle.std.proofs.Common.{ap, map, ◌∙◌}
use Rattle.std.proofs.lemmas.Result.{on_err_weaker}
use Rattle.sctp_channels.specs.Channel.{on_data}
use Rattle.sctp_channels.specs.Channels.{change, output_of}
use Rattle.sctp_channels.proofs.StandsLemmas.{made_of, stands_changed}
use Rattle.sctp_channels.proofs.channels.Channels.deliver.Goals as goal

pub returns-clause-err : goal.returns-clause-err
returns-clause-err c =
    let before = c.self.inside in
    let row = on_data c.limit_of-limit.result c.args.protocol c.args.payload.items in
    on_err_weaker c.hand.result
    (λ same. stands_changed row c.args.id.0 c.args.self.now c.hand.new.self
    (same ∙ ap (made_of before.is_client before.stream_count before.limit before.max_kept_bytes (map output_of before.outputs.items)) c.in_ok-received.ensures.row ∙ ap (change row c.args.id.0) c.self.view_is))
    c.hand.ensures.err
