-- Worked rows of the reassembly, which the checker computes.
use Rattle.std.proofs.Common.{◌≡◌, ℕ, Bool, true, false, List, [], ◌∷◌, refl}
use Rattle.sctp_fragments.specs.Runs.{with_item}
use Rattle.sctp_fragments.specs.Held.{Held, rank_of, intervals_of, is_complete, payload_of}

abbrev pub piece : Bool → Bool → ℕ → ℕ → Held
piece begins ends tsn byte = record {
  number = 0;
  index = tsn;
  fragment = record {
    stream_id = 1;
    is_unordered = true;
    ssn = 0;
    mid = 0;
    fsn = 0;
    ppid = 53;
    payload = 112 ∷ byte ∷ [];
    is_beginning = begins;
    is_end = ends;
  };
}

-- TSN 10 begins a message, 12 ends it, then 11 comes: one interval, complete, p0 p1 p2
abbrev pub row_8 : List (List Held)
row_8 = intervals_of (with_item rank_of (piece false false 11 49) (with_item rank_of (piece false true 12 50) (with_item rank_of (piece true false 10 48) [])))

pub one_interval : row_8 ≡ (piece true false 10 48 ∷ piece false false 11 49 ∷ piece false true 12 50 ∷ []) ∷ []
one_interval = refl

pub is_message : is_complete (piece true false 10 48 ∷ piece false false 11 49 ∷ piece false true 12 50 ∷ []) ≡ true
is_message = refl

pub its_payload : payload_of (piece true false 10 48 ∷ piece false false 11 49 ∷ piece false true 12 50 ∷ []) ≡ 112 ∷ 48 ∷ 112 ∷ 49 ∷ 112 ∷ 50 ∷ []
its_payload = refl
