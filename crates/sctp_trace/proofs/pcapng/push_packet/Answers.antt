use Rattle.std.proofs.Common.{List, ℕ, [], ◌∷◌, ◌++◌, ◌/◌, ◌%◌, ◌^◌, length, ap, ◌∙◌}
use Rattle.std.proofs.lemmas.Result.{on_ok_weaker}
use Rattle.std.specs.List.{flat_map}
use Rattle.sctp_trace.specs.Bytes.{le32}
use Rattle.sctp_trace.specs.Pcapng.{option_bytes, interface_number}
use Rattle.sctp_trace.proofs.Appended.{packet_in_parts}
use Rattle.sctp_trace.proofs.pcapng.push_packet.Goals as goal

pub returns : goal.returns
returns c =
    let old : List ℕ = c.args.bytes.now.items in
    let size : ℕ = c.packet_size-size.result in
    let long : ℕ = length c.args.packet.now in
    on_ok_weaker
    c.push_words-2.result
    (packet_in_parts (interface_number c.args.end) c.args.nanoseconds size c.args.packet.now c.args.comment.now old _ _ _ _
    (c.packet_size-size.ensures (interface_number c.args.end) c.args.nanoseconds)
    (c.in_ok-push_words.ensures
    ∙ ap (λ (i : ℕ). old ++ flat_map le32 (6 ∷ size ∷ i ∷ c.args.nanoseconds / 2 ^ 32 ∷ c.args.nanoseconds % 2 ^ 32 ∷ long ∷ long ∷ []))
    c.interface_number.ensures)
    c.in_ok-push_padded.ensures
    (c.in_ok-push_option.ensures ∙ ap (λ (value : List ℕ). c.push_padded.new.bytes.items ++ option_bytes 1 value) c.as_bytes.ensures.value))
    c.push_words-2.ensures
