-- What the bytes of a message determine.
use Rattle.std.proofs.Common.{◌≡◌, ℕ, ◌==◌, Bool, true, false, cond, List, [], ◌∷◌, ◌++◌, get_or, drop, refl, sym, ap, subst, ◌∙◌, arith, append_assoc}
use Rattle.std.specs.Str.{IsUtf8}
use Rattle.sctp_wire.specs.Field.{be16, be32}
use Rattle.sctp_wire.proofs.FieldLemmas.{be16_same, be32_same}
use Rattle.sctp_wire.proofs.ParsesAllLemmas.{cut_same}
use Rattle.sctp_channels.specs.declared.header.Header.{Header}
use Rattle.sctp_channels.specs.declared.reliability.Reliability.{Reliability}
use Rattle.sctp_channels.specs.declared.reliability.Reliability.TheVariants.{Reliable, MaxRetransmissions, MaxLifetime}
use Rattle.sctp_channels.specs.Message.{Open, Establishment, opens, acknowledges, channel_type, parameter, MeansParameter, Begins, HeaderFits, MessageFits, OpenFits, Says, SaysOpen, header_bytes, header_of, message_bytes, open_bytes}

opened : (h : Header) (after : List ℕ) → header_bytes h ++ after ≡ h.channel_type ∷ (be16 h.priority ++ (be32 h.parameter ++ (be16 h.label_length ++ (be16 h.protocol_length ++ after))))
unfolding header_bytes
opened h after = simp append_assoc

same_header : (h g : Header) (x y : List ℕ) → HeaderFits h → HeaderFits g → header_bytes h ++ x ≡ header_bytes g ++ y → (h ≡ g) × (x ≡ y)
same_header h g x y fits other e =
    let all = sym (opened h x) ∙ e ∙ opened g y in
    let typ = ap (λ (bytes : List ℕ). get_or bytes 0 0) all in
    let priority = be16_same h.priority g.priority _ _ fits.priority other.priority (ap (λ (bytes : List ℕ). drop 1 bytes) all) in
    let number = be32_same h.parameter g.parameter _ _ fits.parameter other.parameter priority.1 in
    let label = be16_same h.label_length g.label_length _ _ fits.label_length other.label_length number.1 in
    let protocol = be16_same h.protocol_length g.protocol_length x y fits.protocol_length other.protocol_length label.1 in
    (λ i. record { channel_type = typ i; priority = priority.0 i; parameter = number.0 i; label_length = label.0 i; protocol_length = protocol.0 i }, protocol.1)

-- the fields and what is behind them are those of the bytes
pub begins_once : (bytes : List ℕ) (h g : Header) (x y : List ℕ) → Begins bytes h x → Begins bytes g y → (h ≡ g) × (x ≡ y)
begins_once bytes h g x y b c = same_header h g x y b.fits c.fits (ap (λ (bs : List ℕ). drop 1 bs) (sym b.joined ∙ c.joined))

-- a channel type and its parameter, read
abbrev reads : ℕ → ℕ → Bool × Reliability
reads t n = cond (t == 0x00) (false, Reliable) (cond (t == 0x01) (false, MaxRetransmissions n) (cond (t == 0x02) (false, MaxLifetime n)
    (cond (t == 0x80) (true, Reliable) (cond (t == 0x81) (true, MaxRetransmissions n) (true, MaxLifetime n)))))

reads_back : (unordered : Bool) (r : Reliability) (n : ℕ) → MeansParameter r n → reads (channel_type unordered r) n ≡ (unordered, r)
reads_back false Reliable n means = refl
reads_back false (MaxRetransmissions count) n means = ap (λ (k : ℕ). (false, MaxRetransmissions k)) (sym means)
reads_back false (MaxLifetime milliseconds) n means = ap (λ (k : ℕ). (false, MaxLifetime k)) (sym means)
reads_back true Reliable n means = refl
reads_back true (MaxRetransmissions count) n means = ap (λ (k : ℕ). (true, MaxRetransmissions k)) (sym means)
reads_back true (MaxLifetime milliseconds) n means = ap (λ (k : ℕ). (true, MaxLifetime k)) (sym means)

one_open : (bytes : List ℕ) (o p : Open) → SaysOpen bytes o → SaysOpen bytes p → o ≡ p
one_open bytes o p s t =
    let same = begins_once bytes (header_of o s.number) (header_of p t.number) (o.label ++ o.protocol) (p.label ++ p.protocol) s.begins t.begins in
    let typ : channel_type o.unordered o.reliability ≡ channel_type p.unordered p.reliability = ap (λ (h : Header). h.channel_type) same.0 in
    let number : s.number ≡ t.number = ap (λ (h : Header). h.parameter) same.0 in
    let priority : o.priority ≡ p.priority = ap (λ (h : Header). h.priority) same.0 in
    let kinds : (o.unordered, o.reliability) ≡ (p.unordered, p.reliability) =
    sym (reads_back o.unordered o.reliability s.number s.means) ∙ (λ i. reads (typ i) (number i)) ∙ reads_back p.unordered p.reliability t.number t.means in
    let texts = cut_same o.label o.protocol p.label p.protocol (ap (λ (h : Header). h.label_length) same.0) same.1 in
    λ i. record { unordered = (kinds i).0; reliability = (kinds i).1; priority = priority i; label = texts.0 i; protocol = texts.1 i }

-- no message of one type is one of the other
pub types_differ : (bytes x y : List ℕ) → bytes ≡ 3 ∷ x → bytes ≡ 2 ∷ y → ⊥
types_differ bytes x y p q = absurd (omega (arith, ap (λ (bs : List ℕ). get_or bs 0 0) (sym p ∙ q)))

pub one_message_lem : (bytes : List ℕ) (m n : Establishment) → Says bytes m → Says bytes n → m ≡ n
one_message_lem bytes (opens o) (opens p) s t = ap opens (one_open bytes o p s t)
one_message_lem bytes (opens o) acknowledges s t = absurd (types_differ bytes _ [] s.begins.joined t)
one_message_lem bytes acknowledges (opens p) s t = absurd (types_differ bytes _ [] t.begins.joined s)
one_message_lem bytes acknowledges acknowledges s t = refl

means_itself : (r : Reliability) → MeansParameter r (parameter r)
means_itself Reliable = tt
means_itself (MaxRetransmissions count) = refl
means_itself (MaxLifetime milliseconds) = refl

open_read_back : (o : Open) → OpenFits o → SaysOpen (open_bytes o) o
unfolding open_bytes
open_read_back o fits = record {
  number = parameter o.reliability;
  begins = record { joined = refl; fits = record { priority = fits.priority; parameter = fits.parameter; label_length = fits.label_length; protocol_length = fits.protocol_length } };
  means = means_itself o.reliability;
  label = fits.label;
  protocol = fits.protocol;
}

pub read_back_lem : (m : Establishment) → MessageFits m → Says (message_bytes m) m
read_back_lem (opens o) fits = open_read_back o fits
read_back_lem acknowledges fits = refl

pub written_alike_lem : (m n : Establishment) → MessageFits m → MessageFits n → message_bytes m ≡ message_bytes n → m ≡ n
written_alike_lem m n fits other e = one_message_lem (message_bytes n) m n (subst (λ (bs : List ℕ). Says bs m) e (read_back_lem m fits)) (read_back_lem n other)

pub open_fits : (o : Open) → HeaderFits (header_of o (parameter o.reliability)) → IsUtf8 o.label → IsUtf8 o.protocol → OpenFits o
open_fits o fits label protocol = record {
  priority = fits.priority;
  parameter = fits.parameter;
  label_length = fits.label_length;
  protocol_length = fits.protocol_length;
  label = label;
  protocol = protocol;
}
