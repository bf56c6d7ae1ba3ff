-- What stands in the way of a handover: bits, with their names.
use Rattle.std.specs.Prelude.{ℕ, Bool, true, false, nat_lt, List, [], ◌∷◌, ◌++◌, map, codes, bit_and}
use Rattle.std.specs.List.{filter, join_by}
use Rattle.std.specs.Borrow.{Bor}
use Rattle.sctp_state.specs.declared.api.handover.readiness.HandoverReadiness.{HandoverReadiness}

pub record Reason : Type 0 where
  pub bit : ℕ
  pub name : List ℕ

abbrev pub reasons : List Reason
reasons =
    record { bit = 1; name = codes "wrong_connection_state" }
    ∷ record { bit = 2; name = codes "send_queue_not_empty" }
    ∷ record { bit = 4; name = codes "pending_stream_reset_request" }
    ∷ record { bit = 8; name = codes "data_tracker_tsn_blocks_pending" }
    ∷ record { bit = 16; name = codes "pending_stream_reset" }
    ∷ record { bit = 64; name = codes "stream_reset_deferred" }
    ∷ record { bit = 128; name = codes "stream_has_unassembled_chunks" }
    ∷ record { bit = 512; name = codes "retransmission_queue_outstanding_data" }
    ∷ record { bit = 1024; name = codes "retransmission_queue_fast_recovery" }
    ∷ record { bit = 2048; name = codes "retransmission_queue_not_empty" }
    ∷ []

-- whether two values share a bit
abbrev pub shares_bit : ℕ → ℕ → Bool
shares_bit a b = nat_lt 0 (bit_and a b)

abbrev pub names_among : ℕ → List Reason → List (List ℕ)
names_among bits rs = map (λ (r : Reason). r.name) (filter (λ r. shares_bit bits r.bit) rs)

-- names joined by commas
abbrev pub join : List (List ℕ) → List ℕ
join names = join_by (λ name. name) (codes ",") names

-- the names of those reasons whose bit is set
abbrev pub joined_names : ℕ → List Reason → List ℕ
joined_names bits rs = join (names_among bits rs)

abbrev pub readiness_text : ℕ → List ℕ
readiness_text bits = joined_names bits reasons

-- reasons as the program has them
abbrev pub reason_of : HandoverReadiness × Bor (List ℕ) → Reason
reason_of r = record { bit = r.0.0; name = r.1.now }

abbrev pub reasons_of : List (HandoverReadiness × Bor (List ℕ)) → List Reason
reasons_of rs = map reason_of rs

-- what one reason adds to a text, where nothing was written before it or something was
abbrev pub part : (is_first is_set : Bool) → List ℕ → List ℕ
part true true name = name
part false true name = codes "," ++ name
part true false name = []
part false false name = []

abbrev pub is_nil : {X : Type 0} → List X → Bool
is_nil [] = true
is_nil (x ∷ xs) = false
