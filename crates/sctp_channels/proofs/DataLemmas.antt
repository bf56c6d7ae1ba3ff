-- Data of one end, at the other.
use Rattle.std.proofs.Common.{◌≡◌, ℕ, ◌+◌, ◌≤◌, nat_lt, Bool, false, ◌||◌, List, [], ◌∷◌, length, refl, ap, ◌∙◌, arith, le-ltb}
use Rattle.std.specs.Prelude.{All, map}
use Rattle.std.proofs.lemmas.List.Elements.{All-head, All-tail}
use Rattle.sctp_channels.specs.declared.payload.PayloadKind.{PayloadKind}
use Rattle.sctp_channels.specs.declared.payload.PayloadKind.TheVariants.{Text, Binary}
use Rattle.sctp_channels.specs.Payload.{data_payload, data_ppid, protocol_of}
use Rattle.sctp_channels.specs.Channel.{Channel, Received, exceeds, message, take_if}
use Rattle.sctp_channels.specs.Runs.{Content, IsShort, handed_out, hands_out, on_message, received_from, sent_as}

-- nothing waits, and the message isn't too long
record IsReady (limit : ℕ) (bytes : List ℕ) (c : Channel) : Type 0 where
  parts : c.parts ≡ []
  is_too_long : c.is_too_long ≡ false
  short : length bytes ≤ limit

fits : (limit : ℕ) (bytes : List ℕ) (c : Channel) → IsReady limit bytes c → exceeds limit (length bytes) c ≡ false
fits limit bytes c r =
    ap (λ (b : Bool). b || nat_lt limit (length c.parts + length bytes)) r.is_too_long
    ∙ le-ltb limit (length c.parts + length bytes) (omega (arith, r.short, ap (λ (parts : List ℕ). length parts) r.parts))

-- the message as it is handed out, and what is left of the channel
handed : (limit : ℕ) (kind : PayloadKind) (bytes : List ℕ) (c : Channel) → IsReady limit bytes c
    → received_from limit (protocol_of (data_ppid kind bytes)) (data_payload bytes) c ≡ message kind bytes
handed limit Text [] c r = rw (fits limit [] c r, r.parts) refl
handed limit Text (b ∷ bytes) c r = rw (fits limit (b ∷ bytes) c r, r.parts) refl
handed limit Binary [] c r = rw (fits limit [] c r, r.parts) refl
handed limit Binary (b ∷ bytes) c r = rw (fits limit (b ∷ bytes) c r, r.parts) refl

left : (limit : ℕ) (kind : PayloadKind) (bytes : List ℕ) (c : Channel) → IsReady limit bytes c
    → on_message limit (protocol_of (data_ppid kind bytes)) (data_payload bytes) c ≡ take_if false bytes c
left limit Text [] c r = ap (λ (b : Bool). take_if b [] c) (fits limit [] c r)
left limit Text (b ∷ bytes) c r = ap (λ (is : Bool). take_if is (b ∷ bytes) c) (fits limit (b ∷ bytes) c r)
left limit Binary [] c r = ap (λ (b : Bool). take_if b [] c) (fits limit [] c r)
left limit Binary (b ∷ bytes) c r = ap (λ (is : Bool). take_if is (b ∷ bytes) c) (fits limit (b ∷ bytes) c r)

pub handed_out_as_accepted : (limit : ℕ) (contents : List Content) (c : Channel) → c.parts ≡ [] → c.is_too_long ≡ false → All (IsShort limit) contents
    → hands_out limit (map sent_as contents) c ≡ contents
handed_out_as_accepted limit [] c parts long short = refl
handed_out_as_accepted limit (m ∷ contents) c parts long short =
    let ready : IsReady limit m.bytes c = record { parts = parts; is_too_long = long; short = All-head (IsShort limit) m contents short } in
    let next = left limit m.kind m.bytes c ready in
    ap (λ (r : Received). handed_out m.stream r (hands_out limit (map sent_as contents) (on_message limit (protocol_of (data_ppid m.kind m.bytes)) (data_payload m.bytes) c)))
    (handed limit m.kind m.bytes c ready)
    ∙ ap (λ (rest : List Content). m ∷ rest)
    (handed_out_as_accepted limit contents (on_message limit (protocol_of (data_ppid m.kind m.bytes)) (data_payload m.bytes) c)
    (ap (λ (d : Channel). d.parts) next) (ap (λ (d : Channel). d.is_too_long) next ∙ long) (All-tail (IsShort limit) m contents short))
