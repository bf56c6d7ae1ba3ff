use Rattle.std.proofs.Common.{◌≡◌, cond, Bool, true, List, ◌++◌, ◌∷◌, [], ap, sym, ◌∙◌, map}
use Rattle.std.proofs.lemmas.List.{append_assoc, append-nil}
use Rattle.sctp_channels.specs.Channels.{Output, is_shown, output_of, shown_streams, tell_closed}
use Rattle.sctp_channels.specs.Entries.{Entries}
use Rattle.sctp_channels.specs.declared.lifecycle.Lifecycle.{Lifecycle}
use Rattle.sctp_channels.proofs.StandsLemmas.{told_closed}
use Rattle.sctp_channels.proofs.channels.tell_all_closed.Goals as goal

pub loop-id-preserved-in-Continue-1 : goal.loop-id-preserved-in-Continue-1
loop-id-preserved-in-Continue-1 c =
    let id = c.in-Some.id.now in
    let before = c.loop-id.outputs.items in
    let after = c.push_back.new.self.items in
    let rest = shown_streams c.next.new.self in
    let more = c.loop-id.invariant.more in
    let pushed = c.in_ok-push_back.ensures.items in
    let shown : is_shown c.in-Some.channel.now.lifecycle ≡ true = ap (λ (l : Lifecycle). is_shown l) (sym c.lifecycle.ensures) ∙ sym c.is_shown.ensures ∙ c.if-is_shown.true in
    record {
      row = told_closed before after (record { 0 = id }) (map tell_closed rest) pushed
          ∙ ap (λ (b : Bool). map output_of before ++ map tell_closed (cond b (id ∷ rest) rest)) (sym shown)
          ∙ ap (λ (es : Entries). map output_of before ++ map tell_closed (shown_streams es)) (sym c.in-Some.ensures.steps)
          ∙ c.loop-id.invariant.row;
      more = (
        more.0 ++ tell_closed id ∷ [],
        sym (append-nil (map output_of after))
            ∙ told_closed before after (record { 0 = id }) [] pushed
            ∙ ap (λ (os : List Output). os ++ tell_closed id ∷ []) more.1
            ∙ append_assoc (map output_of c.args.outputs.now.items) more.0 (tell_closed id ∷ []),
      );
    }
