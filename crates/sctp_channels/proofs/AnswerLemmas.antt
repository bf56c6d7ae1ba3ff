-- Bytes have one answer: each says a number of the bytes alone.
use Rattle.std.proofs.Common.{◌≡◌, ◌≢◌, ◌⊎◌, inl, inr, ℕ, ◌+◌, ◌<◌, ◌≤◌, ◌==◌, Bool, true, false, cond, List, ◌∷◌, ◌++◌, length, get_or, take, drop, refl, sym, ap, ◌∙◌, arith, eq-eqb, ne_eqb}
use Rattle.std.specs.Str.{IsUtf8, is_utf8}
use Rattle.std.proofs.lemmas.List.{length-append, take_at, drop_at}
use Rattle.std.proofs.lemmas.Str.{IsUtf8-from_is_utf8, is_utf8-from_IsUtf8}
use Rattle.sctp_wire.specs.Field.{be16, be32}
use Rattle.sctp_channels.specs.declared.fault.ChannelMessageFault.{ChannelMessageFault}
use Rattle.sctp_channels.specs.declared.fault.ChannelMessageFault.TheVariants.{TooShort, UnknownMessageType, UnknownChannelType, LengthMismatch, LabelNotUtf8, ProtocolNotUtf8, Memory}
use Rattle.sctp_channels.specs.declared.header.Header.{Header}
use Rattle.sctp_channels.specs.declared.reliability.Reliability.{Reliability}
use Rattle.sctp_channels.specs.declared.reliability.Reliability.TheVariants.{Reliable, MaxRetransmissions, MaxLifetime}
use Rattle.sctp_channels.specs.Message.{Open, Establishment, opens, acknowledges, channel_type, is_channel_type, Begins, RefusedAs, Says, SaysOpen, Splits, header_bytes, header_of}
use Rattle.sctp_channels.proofs.MessageLemmas.{begins_once}

abbrev first : List ℕ → ℕ
first bytes = get_or bytes 0 0

abbrev number_of : ChannelMessageFault → ℕ
number_of Memory = 0
number_of TooShort = 1
number_of UnknownMessageType = 2
number_of UnknownChannelType = 3
number_of LengthMismatch = 4
number_of LabelNotUtf8 = 5
number_of ProtocolNotUtf8 = 6

abbrev fault_at : ℕ → ChannelMessageFault
fault_at n = cond (n == 0) Memory (cond (n == 1) TooShort (cond (n == 2) UnknownMessageType (cond (n == 3) UnknownChannelType (cond (n == 4) LengthMismatch
    (cond (n == 5) LabelNotUtf8 ProtocolNotUtf8)))))

fault_back : (fault : ChannelMessageFault) → fault_at (number_of fault) ≡ fault
fault_back Memory = refl
fault_back TooShort = refl
fault_back UnknownMessageType = refl
fault_back UnknownChannelType = refl
fault_back LengthMismatch = refl
fault_back LabelNotUtf8 = refl
fault_back ProtocolNotUtf8 = refl

-- of bytes that don't begin with the fields of what is opened
abbrev outer : List ℕ → ℕ
outer bytes = cond (length bytes == 0) 1 (cond (first bytes == 2) (cond (length bytes == 1) 0 4) (cond (first bytes == 3) 1 2))

-- of those that do
abbrev inner : Header → List ℕ → ℕ
inner h rest = cond (is_channel_type h.channel_type) (cond (length rest == h.label_length + h.protocol_length)
    (cond (is_utf8 (take h.label_length rest)) (cond (is_utf8 (drop h.label_length rest)) 0 6) 5) 4) 3

record Outside (bytes : List ℕ) (n : ℕ) : Type 0 where
  short : first bytes ≡ 3 → length bytes < 12
  number : outer bytes ≡ n

record Inside (bytes : List ℕ) (n : ℕ) : Type 0 where
  header : Header
  rest : List ℕ
  begins : Begins bytes header rest
  number : inner header rest ≡ n

abbrev Numbered : List ℕ → ℕ → Type 0
Numbered bytes n = Outside bytes n ⊎ Inside bytes n

length_header : (h : Header) → length (header_bytes h) ≡ 11
unfolding header_bytes be16 be32
length_header h = omega arith

begun_first : (bytes rest : List ℕ) (h : Header) → Begins bytes h rest → first bytes ≡ 3
begun_first bytes rest h b = ap (λ (bs : List ℕ). first bs) b.joined

begun_long : (bytes rest : List ℕ) (h : Header) → Begins bytes h rest → 12 ≤ length bytes
begun_long bytes rest h b = omega (arith, ap (λ (bs : List ℕ). length bs) b.joined, length-append (header_bytes h) rest, length_header h)

apart : (bytes : List ℕ) (m n : ℕ) → Outside bytes m → Inside bytes n → ⊥
apart bytes m n o i = absurd (omega (arith, o.short (begun_first bytes i.rest i.header i.begins), begun_long bytes i.rest i.header i.begins))

same_inner : (h g : Header) (x y : List ℕ) → h ≡ g → x ≡ y → inner h x ≡ inner g y
same_inner h g x y p q = λ i. inner (p i) (q i)

one_number : (bytes : List ℕ) (m n : ℕ) → Numbered bytes m → Numbered bytes n → m ≡ n
one_number bytes m n (inl o) (inl p) = sym o.number ∙ p.number
one_number bytes m n (inl o) (inr i) = absurd (apart bytes m n o i)
one_number bytes m n (inr i) (inl p) = absurd (apart bytes n m p i)
one_number bytes m n (inr i) (inr j) =
    let same = begins_once bytes i.header j.header i.rest j.rest i.begins j.begins in
    sym i.number ∙ same_inner i.header j.header i.rest j.rest same.0 same.1 ∙ j.number

not_utf8 : (bytes : List ℕ) → (IsUtf8 bytes → ⊥) → (b : Bool) → is_utf8 bytes ≡ b → is_utf8 bytes ≡ false
not_utf8 bytes refuted true e = absurd (refuted (IsUtf8-from_is_utf8 bytes e))
not_utf8 bytes refuted false e = e

known_type : (unordered : Bool) (r : Reliability) → is_channel_type (channel_type unordered r) ≡ true
known_type false Reliable = refl
known_type false (MaxRetransmissions count) = refl
known_type false (MaxLifetime milliseconds) = refl
known_type true Reliable = refl
known_type true (MaxRetransmissions count) = refl
known_type true (MaxLifetime milliseconds) = refl

-- lengths that add up leave the tests of the texts
of_texts : (bytes : List ℕ) (h : Header) (label protocol : List ℕ) (n : ℕ) → Splits bytes h label protocol
    → cond (is_utf8 label) (cond (is_utf8 protocol) 0 6) 5 ≡ n → Inside bytes n
of_texts bytes h label protocol n s e = record {
  header = h;
  rest = label ++ protocol;
  begins = s.begins;
  number = rw (
    s.known,
    eq-eqb (length (label ++ protocol)) (h.label_length + h.protocol_length) (omega (arith, length-append label protocol, s.label_length, s.protocol_length)),
    take_at label protocol h.label_length s.label_length,
    drop_at label protocol h.label_length s.label_length,
  ) e;
}

open_numbered : (bytes : List ℕ) (o : Open) → SaysOpen bytes o → Numbered bytes 0
open_numbered bytes o s =
    inr (of_texts bytes (header_of o s.number) o.label o.protocol 0
    (record { begins = s.begins; known = known_type o.unordered o.reliability; label_length = refl; protocol_length = refl })
    (rw (is_utf8-from_IsUtf8 o.label s.label, is_utf8-from_IsUtf8 o.protocol s.protocol) refl))

says_numbered : (bytes : List ℕ) (m : Establishment) → Says bytes m → Numbered bytes 0
says_numbered bytes (opens o) s = open_numbered bytes o s
says_numbered bytes acknowledges s = inl (record { short = λ e. omega (arith, ap (λ (bs : List ℕ). length bs) s); number = ap outer s })

some : (b : ℕ) (rest : List ℕ) → (length (b ∷ rest) == 0) ≡ false
some b rest = ne_eqb (length (b ∷ rest)) 0 (λ e. absurd (omega (arith, e)))

outer_open : (rest : List ℕ) → outer (3 ∷ rest) ≡ 1
outer_open rest = rw (some 3 rest) refl

outer_other : (typ : ℕ) (rest : List ℕ) → typ ≢ 2 → typ ≢ 3 → outer (typ ∷ rest) ≡ 2
outer_other typ rest not_ack not_open = rw (some typ rest, ne_eqb typ 2 not_ack, ne_eqb typ 3 not_open) refl

outer_ack : (rest : List ℕ) → 0 < length rest → outer (2 ∷ rest) ≡ 4
outer_ack rest more = rw (some 2 rest, ne_eqb (length (2 ∷ rest)) 1 (λ e. absurd (omega (arith, e, more)))) refl

refused_numbered : (bytes : List ℕ) (fault : ChannelMessageFault) → fault ≢ Memory → RefusedAs bytes fault → Numbered bytes (number_of fault)
refused_numbered bytes TooShort present (inl e) = inl (record { short = λ _. omega (arith, ap (λ (bs : List ℕ). length bs) e); number = ap outer e })
refused_numbered bytes TooShort present (inr (rest, e, short)) = inl (record { short = λ _. omega (arith, ap (λ (bs : List ℕ). length bs) e, short); number = ap outer e ∙ outer_open rest })
refused_numbered bytes UnknownMessageType present (typ, rest, e, not_ack, not_open) = inl (record { short = λ three. absurd (not_open (sym (ap first e) ∙ three)); number = ap outer e ∙ outer_other typ rest not_ack not_open })
refused_numbered bytes UnknownChannelType present (h, rest, b, unknown) = inr (record { header = h; rest = rest; begins = b; number = rw unknown refl })
refused_numbered bytes LengthMismatch present (inl (rest, e, more)) = inl (record { short = λ three. absurd (omega (arith, sym (ap first e) ∙ three)); number = ap outer e ∙ outer_ack rest more })
refused_numbered bytes LengthMismatch present (inr (h, rest, b, known, other)) =
    inr (record { header = h; rest = rest; begins = b; number = rw (known, ne_eqb (length rest) (h.label_length + h.protocol_length) other) refl })
refused_numbered bytes LabelNotUtf8 present (h, label, protocol, s, refuted) =
    inr (of_texts bytes h label protocol 5 s (rw (not_utf8 label refuted (is_utf8 label) refl) refl))
refused_numbered bytes ProtocolNotUtf8 present (h, label, protocol, s, text, refuted) =
    inr (of_texts bytes h label protocol 6 s (rw (is_utf8-from_IsUtf8 label text, not_utf8 protocol refuted (is_utf8 protocol) refl) refl))
refused_numbered bytes Memory present r = absurd (present refl)

pub never_both_lem : (bytes : List ℕ) (m : Establishment) (fault : ChannelMessageFault) → Says bytes m → RefusedAs bytes fault → fault ≡ Memory
never_both_lem bytes m Memory s r = refl
never_both_lem bytes m fault s r =
    sym (fault_back fault) ∙ ap fault_at (one_number bytes (number_of fault) 0 (refused_numbered bytes fault (λ e. cc) r) (says_numbered bytes m s))

pub one_fault_lem : (bytes : List ℕ) (fault other : ChannelMessageFault) → RefusedAs bytes fault → RefusedAs bytes other → fault ≢ Memory → other ≢ Memory → fault ≡ other
one_fault_lem bytes fault other r q present too =
    sym (fault_back fault)
    ∙ ap fault_at (one_number bytes (number_of fault) (number_of other) (refused_numbered bytes fault present r) (refused_numbered bytes other too q))
    ∙ fault_back other
