-- I-DATA chunks read: one field is the protocol of a beginning, and the number of any other fragment.
use Rattle.std.proofs.Common.{◌≡◌, ℕ, ◌^◌, ◌<◌, Bool, true, false, if◌then◌else◌, List, ◌++◌, ap, arith}
use Rattle.sctp_wire.specs.Field.{be16, be32}
use Rattle.sctp_chunk.specs.Chunk.{idata_chunk}
use Rattle.sctp_chunk.specs.Written.{idata_value}
use Rattle.sctp_chunk.specs.Grammar.{carried}

pub field_read : (beginning : Bool) (n fsn ppid : ℕ) → fsn ≡ (if beginning then 0 else n) → ppid ≡ (if beginning then n else 0) → (if beginning then ppid else fsn) ≡ n
field_read true n fsn ppid a b = b
field_read false n fsn ppid a b = a

pub field_fits : (beginning : Bool) (n fsn ppid : ℕ) → fsn ≡ (if beginning then 0 else n) → ppid ≡ (if beginning then n else 0) → n < 2 ^ 32 → (fsn < 2 ^ 32) × (ppid < 2 ^ 32)
field_fits true n fsn ppid a b h = (omega arith, omega arith)
field_fits false n fsn ppid a b h = (omega arith, omega arith)

pub idata_carries : (tsn stream mid n fsn ppid : ℕ) (immediate unordered beginning end : Bool) (payload : List ℕ)
    → fsn ≡ (if beginning then 0 else n) → ppid ≡ (if beginning then n else 0)
    → idata_chunk tsn immediate (record { stream_id = stream; is_unordered = unordered; ssn = 0; mid = mid; fsn = fsn; ppid = ppid; payload = payload; is_beginning = beginning; is_end = end })
    ≡ carried (idata_chunk tsn immediate (record { stream_id = stream; is_unordered = unordered; ssn = 0; mid = mid; fsn = fsn; ppid = ppid; payload = payload; is_beginning = beginning; is_end = end }))
idata_carries tsn stream mid n fsn ppid immediate unordered true end payload a b =
    ap (λ (x : ℕ). idata_chunk tsn immediate (record { stream_id = stream; is_unordered = unordered; ssn = 0; mid = mid; fsn = x; ppid = ppid; payload = payload; is_beginning = true; is_end = end })) a
idata_carries tsn stream mid n fsn ppid immediate unordered false end payload a b =
    ap (λ (x : ℕ). idata_chunk tsn immediate (record { stream_id = stream; is_unordered = unordered; ssn = 0; mid = mid; fsn = fsn; ppid = x; payload = payload; is_beginning = false; is_end = end })) b

pub idata_read : (value rest payload : List ℕ) (tsn stream id reserved mid n fsn ppid : ℕ) (unordered beginning end : Bool)
    → value ≡ be32 tsn ++ (be16 id ++ (be16 reserved ++ (be32 mid ++ (be32 n ++ rest)))) → stream ≡ id → payload ≡ rest → (if beginning then ppid else fsn) ≡ n
    → value ≡ idata_value reserved tsn (record { stream_id = stream; is_unordered = unordered; ssn = 0; mid = mid; fsn = fsn; ppid = ppid; payload = payload; is_beginning = beginning; is_end = end })
unfolding idata_value
idata_read value rest payload tsn stream id reserved mid n fsn ppid unordered beginning end e es ep en = rw (es, ep, en) e
