-- Entries of FORWARD-TSN and I-FORWARD-TSN.
use Rattle.std.proofs.Common.{◌≡◌, ℕ, zero, suc, ◌+◌, ◌*◌, ◌%◌, ◌<◌, ◌≤◌, ◌≢◌, true, List, [], ◌∷◌, ◌++◌, length, take, get_or, refl, sym, ap, ◌∙◌, append_assoc, arith}
use Rattle.std.specs.List.{flat_map, list_all}
use Rattle.std.proofs.lemmas.List.{length-append, append-nil}
use Rattle.std.proofs.lemmas.List.Concat.{flat_map-cons}
use Rattle.sctp_serial.specs.declared.api.StreamId.{StreamId}
use Rattle.sctp_serial.specs.declared.types.ssn.Ssn.{Ssn}
use Rattle.sctp_serial.specs.declared.types.mid.Mid.{Mid}
use Rattle.sctp_serial.specs.declared.types.StreamKey.{StreamKey}
use Rattle.sctp_wire.specs.Field.{be16, be32}
use Rattle.sctp_chunk.specs.declared.forward_tsn.SkippedStream.{SkippedStream}
use Rattle.sctp_chunk.specs.declared.forward_tsn.SkippedStream.TheVariants as skips
use Rattle.sctp_chunk.specs.Written.{skip_bytes, is_ssn_skip}
use Rattle.sctp_chunk.specs.Grammar.{Each, SaysSkip, SaysSkips}

-- one more fits where all of them do
pub front_fits : {X : Type 0} (f : X → List ℕ) (xs : List X) (i : ℕ) (d : X) → i < length xs
    → length (flat_map f (take i xs)) + length (f (get_or xs i d)) ≤ length (flat_map f xs)
front_fits f [] i d low = absurd (omega arith)
front_fits f (y ∷ ys) zero d low = omega (arith, ap length (flat_map-cons f y ys), length-append (f y) (flat_map f ys))
front_fits f (y ∷ ys) (suc i) d low =
    omega (
      arith,
      front_fits f ys i d (omega arith),
      ap length (flat_map-cons f y ys),
      length-append (f y) (flat_map f ys),
      ap length (flat_map-cons f y (take i ys)),
      length-append (f y) (flat_map f (take i ys)),
    )

pub length_ssn_skip : (id : StreamId) (ssn : Ssn) → length (skip_bytes (skips.ForwardTsn id ssn)) ≡ 4
unfolding skip_bytes be16
length_ssn_skip id ssn = refl

pub length_mid_skip : (key : StreamKey) (mid : Mid) → length (skip_bytes (skips.IForwardTsn key mid)) ≡ 8
unfolding skip_bytes be16 be32
length_mid_skip key mid = refl

pub length_ssn_skips : (ss : List SkippedStream) → list_all is_ssn_skip ss ≡ true → length (flat_map skip_bytes ss) ≡ length ss * 4
unfolding skip_bytes be16
length_ssn_skips [] h = omega arith
length_ssn_skips (skips.ForwardTsn id ssn ∷ ss) h =
    let more = length_ssn_skips ss h in
    ap length (flat_map-cons skip_bytes (skips.ForwardTsn id ssn) ss) ∙ omega (arith, more)
length_ssn_skips (skips.IForwardTsn key mid ∷ ss) h = cc

pub cut_short_skip : (ss : List SkippedStream) (bytes rest : List ℕ) → list_all is_ssn_skip ss ≡ true → bytes ≡ flat_map skip_bytes ss ++ rest
    → 0 < length rest → length rest < 4 → length bytes % 4 ≢ 0
cut_short_skip ss bytes rest kind e some short =
    omega (arith, ap length e, length-append (flat_map skip_bytes ss) rest, length_ssn_skips ss kind)

pub three_fields : (bytes : List ℕ) (a b m : ℕ) (r1 r2 r3 : List ℕ) → bytes ≡ be16 a ++ r1 → r1 ≡ be16 b ++ r2 → r2 ≡ be32 m ++ r3
    → bytes ≡ (be16 a ++ (be16 b ++ be32 m)) ++ r3
three_fields bytes a b m r1 r2 r3 e1 e2 e3 = rw (e1, e2, e3) (simp append_assoc)

pub Each_push : {X : Type 0} (P : X → Type 0) (xs : List X) (x : X) → Each P xs → P x → Each P (xs ++ x ∷ [])
Each_push P [] x h p = (p, tt)
Each_push P (y ∷ xs) x h p = (h.0, Each_push P xs x h.1 p)

pub behind_part : (bytes front rest part after : List ℕ) → bytes ≡ front ++ rest → rest ≡ part ++ after → bytes ≡ (front ++ part) ++ after
behind_part bytes front rest part after e f = rw (e, f) (sym (append_assoc front part after))

-- one more entry at the end
pub SaysSkips_push : (front part : List ℕ) (ss : List SkippedStream) (s : SkippedStream) → SaysSkips front ss → SaysSkip part s → SaysSkips (front ++ part) (ss ++ s ∷ [])
SaysSkips_push front part [] s h p = (part, [], ap (λ (x : List ℕ). x ++ part) h ∙ sym (append-nil part), p, refl)
SaysSkips_push front part (t ∷ ss) s h p =
    (h.0, h.1 ++ part, ap (λ (x : List ℕ). x ++ part) h.2 ∙ append_assoc h.0 h.1 part, h.3, SaysSkips_push h.1 part ss s h.4 p)
