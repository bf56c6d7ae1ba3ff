use Rattle.std.proofs.Common.{◌≡◌, ℕ, List, Option, Some, None, ap, sym, subst, ◌∙◌}
use Rattle.std.specs.Prelude.{IfOk, map, filter, option_map}
use Rattle.std.specs.Map.{keys_of}
use Rattle.sctp_tx_queue.specs.Restarted.{may_differ}
use Rattle.sctp_tx_queue.proofs.CommonLemmas.{those_present, all_of}
use Rattle.sctp_tx_queue.proofs.send_queue.changes.ChangedStreams.of.Goals as goal

pub returns-in-Some : goal.returns-in-Some
returns-in-Some c =
    let entries = c.args.streams.now.entries in
    let known : Some c.in-Some.ids.keys ≡ c.args.self.now = ap (λ o. option_map (λ ids. ids.keys) o) (sym c.in-Some.is) ∙ c.self.view_is in
    subst (λ (ks : List ℕ). IfOk c.present.result (λ ids. map (λ id. id.0) ids.items ≡ ks))
    (those_present c.in-Some.ids.keys entries c.len-known.ensures.ordered c.len-count.ensures.ordered ∙ ap (λ (o : Option (List ℕ)). filter (may_differ o) (keys_of entries)) known) c.present.ensures

pub returns-in-None : goal.returns-in-None
returns-in-None c =
    let keys = keys_of c.args.streams.now.entries in
    let known : None ≡ c.args.self.now = ap (λ o. option_map (λ ids. ids.keys) o) (sym c.in-None.is) ∙ c.self.view_is in
    subst (λ (ks : List ℕ). IfOk c.stream_ids.result (λ ids. map (λ id. id.0) ids.items ≡ ks)) (all_of keys ∙ ap (λ (o : Option (List ℕ)). filter (may_differ o) keys) known) c.stream_ids.ensures
