-- The bytes of a packet determine the answer.
use Rattle.std.proofs.Common.{◌≡◌, ℕ, Bool, List, [], ◌∷◌, refl, sym, ap, subst, ◌∙◌}
use Rattle.sctp_packet.specs.Chunk.{ChunkTree, FragmentTree, data_chunk}
use Rattle.sctp_packet.specs.Packet.{PacketTree}
use Rattle.sctp_packet.specs.Faults.{fault_number}
use Rattle.sctp_packet.proofs.LawLemmas.{one_packet_lem, never_both_lem, one_reason_lem}
use Rattle.sctp_probe.specs.Probing.{Answer, replied, refused, other, Probes, IsMessage, default_policy, packet_word, reply_bytes}

same_chunk : (t u : ℕ) (i j : Bool) (f g : FragmentTree) (xs ys : List ChunkTree) → xs ≡ ys → xs ≡ data_chunk t i f ∷ [] → ys ≡ data_chunk u j g ∷ [] → (t ≡ u) × (f ≡ g)
same_chunk t u i j f g xs ys s h k = (cc, cc)

same_reply : (s p : ℕ) (m r : List ℕ) (s' p' : ℕ) (m' r' : List ℕ) → s ≡ s' → p ≡ p' → m ≡ m' → r ≡ r' → replied s p m r ≡ replied s' p' m' r'
same_reply s p m r s' p' m' r' e0 e1 e2 e3 = cc

pub one_answer_lem : (bytes : List ℕ) (a b : Answer) → Probes bytes a → Probes bytes b → a ≡ b
one_answer_lem bytes (replied s p m r) (replied s' p' m' r') h k =
    let packet : h.packet ≡ k.packet = one_packet_lem bytes h.packet k.packet h.accepted.packet k.accepted.packet in
    let chunk = same_chunk h.tsn k.tsn h.message.immediate k.message.immediate h.fragment k.fragment h.packet.chunks k.packet.chunks (ap (λ (x : PacketTree). x.chunks) packet) h.message.alone k.message.alone in
    same_reply s p m r s' p' m' r'
    (h.stream_is ∙ ap (λ (f : FragmentTree). f.stream_id) chunk.1 ∙ sym k.stream_is)
    (h.ppid_is ∙ ap (λ (f : FragmentTree). f.ppid) chunk.1 ∙ sym k.ppid_is)
    (h.payload_is ∙ ap (λ (f : FragmentTree). f.payload) chunk.1 ∙ sym k.payload_is)
    (h.reply_is ∙ ap (λ (x : PacketTree). reply_bytes x.header h.tsn) packet ∙ ap (reply_bytes k.packet.header) chunk.0 ∙ sym k.reply_is)
one_answer_lem bytes (replied s p m r) (refused n) h k = absurd (never_both_lem default_policy (packet_word bytes) bytes k.fault h.packet k.is_fault k.refused h.accepted)
one_answer_lem bytes (replied s p m r) other h k =
    absurd (k.no_message h.tsn h.fragment (subst (λ (x : PacketTree). IsMessage x.chunks h.tsn h.fragment) (one_packet_lem bytes h.packet k.packet h.accepted.packet k.accepted.packet) h.message))
one_answer_lem bytes (refused n) (replied s p m r) h k = absurd (never_both_lem default_policy (packet_word bytes) bytes h.fault k.packet h.is_fault h.refused k.accepted)
one_answer_lem bytes (refused n) (refused n') h k =
    ap refused (h.number ∙ ap fault_number (one_reason_lem default_policy (packet_word bytes) bytes h.fault k.fault h.is_fault k.is_fault h.refused k.refused) ∙ sym k.number)
one_answer_lem bytes (refused n) other h k = absurd (never_both_lem default_policy (packet_word bytes) bytes h.fault k.packet h.is_fault h.refused k.accepted)
one_answer_lem bytes other (replied s p m r) h k =
    absurd (h.no_message k.tsn k.fragment (subst (λ (x : PacketTree). IsMessage x.chunks k.tsn k.fragment) (one_packet_lem bytes k.packet h.packet k.accepted.packet h.accepted.packet) k.message))
one_answer_lem bytes other (refused n) h k = absurd (never_both_lem default_policy (packet_word bytes) bytes k.fault h.packet k.is_fault k.refused h.accepted)
one_answer_lem bytes other other h k = refl
