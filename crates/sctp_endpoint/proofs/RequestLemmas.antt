-- Requests to reset streams: their streams as numbers, and their sizes.
use Rattle.std.proofs.Common.{◌≡◌, ℕ, ◌==◌, false, Result, OnOk, List, [], ◌∷◌, length, refl, ap}
use Rattle.sctp_serial.specs.declared.api.StreamId.{StreamId}
use Rattle.sctp_state.specs.Events.{numbers_of}
use Rattle.spec_endpoint.specs.ResetRequests.{ids}
use Rattle.spec_endpoint.specs.Sending.{Filling, request_started, carrying, request_of}
use Rattle.sctp_serial.proofs.NumberLemmas.{not_zero_by_test}

-- ---- streams as numbers

pub ids_numbers : (streams : List StreamId) → ids (numbers_of streams) ≡ streams
ids_numbers [] = refl
ids_numbers (id ∷ streams) = ap (λ (rest : List StreamId). id ∷ rest) (ids_numbers streams)

-- ---- a request begins where there are streams

pub request_of_some : {T E P : Type 0} (r : Result T E) (n : ℕ) (streams : List StreamId) (x y : Filling P) → false ≡ (n == 0) → n ≡ length streams
    → OnOk r (y ≡ carrying (request_started x.context.now (numbers_of streams) x.tcb) x) → OnOk r (y ≡ request_of (numbers_of streams) x)
request_of_some r n [] x y e len h = absurd (not_zero_by_test n e len)
request_of_some r n (id ∷ streams) x y e len h = h
