-- An event that was handed out.
use Rattle.std.proofs.Common.{◌≡◌, ℕ, List, sym, ap, subst, ◌∙◌}
use Rattle.sctp_c_records.specs.Event.{event_bytes}
use Rattle.sctp_c_records.specs.declared.event.EventRecord.{EventRecord}
use Rattle.sctp_channels.specs.declared.event.ChannelEvent.{ChannelEvent}
use Rattle.sctp_c_records.specs.Answers.{OnAnswer}
use Rattle.sctp_c_channels.specs.Events.{Shows, content_of, head_of}

pub shows : (event : ChannelEvent) (head : EventRecord) (answer : ℕ) (old new bytes : List ℕ) → answer ≡ 0 → new ≡ event_bytes head old → head ≡ head_of event
    → bytes ≡ content_of event → OnAnswer 0 answer (Shows old new bytes)
shows event head answer old new bytes zero written is content =
    subst (λ (n : ℕ). OnAnswer 0 n (Shows old new bytes)) (sym zero)
    (record { event = event; head = written ∙ ap (λ (r : EventRecord). event_bytes r old) is; content = content })
