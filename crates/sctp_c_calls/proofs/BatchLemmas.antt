-- Where messages were refused, the batch's number says so.
use Rattle.std.proofs.Common.{◌≡◌, ◌<◌, ℕ, List, [], ◌∷◌, length, refl, arith}
use Rattle.sctp_state.specs.declared.api.errors.SendError.{SendError}
use Rattle.sctp_c_calls.specs.Answers.{batch_number}

some : (rs xs : List (ℕ × SendError)) → rs ≡ xs → 0 < length rs → 18 ≡ batch_number xs
some rs (x ∷ xs) e many = refl
some [] [] e many = absurd (omega (arith, many))
some (r ∷ rs) [] e many = cc

pub some_refused : {rs xs : List (ℕ × SendError)} → rs ≡ xs → 0 < length rs → 18 ≡ batch_number xs
some_refused {rs = rs} {xs = xs} e many = some rs xs e many
