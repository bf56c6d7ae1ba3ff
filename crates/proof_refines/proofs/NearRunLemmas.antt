-- The windows in the run with DATA.
use Rattle.std.proofs.Common.{◌≡◌, ℕ, zero, suc, ◌+◌, ◌<◌, true, refl, arith}
use Rattle.proof_protocol.specs.State.{place_of, count, ordered_of, stream_of}
use Rattle.proof_protocol.specs.Runs.{three}
use Rattle.proof_protocol.specs.Windows.{Windows}
use Rattle.proof_refines.specs.Near.{AreFew}
use Rattle.proof_refines.specs.Runs.{numbered_transfer}

count_is : count numbered_transfer.sender ≡ 4
count_is = refl

few_counted : (c n : ℕ) → c ≡ 2 → c < n + 32000
few_counted c n e = omega (arith, e)

messages : (t : ℕ) → t < 4 → ordered_of three (place_of numbered_transfer.sender t) ≡ true
    → numbered_transfer.sender.counts true (stream_of three (place_of numbered_transfer.sender t)) < numbered_transfer.sender.number (place_of numbered_transfer.sender t) + 32000
messages zero l o = few_counted (numbered_transfer.sender.counts true (stream_of three (place_of numbered_transfer.sender 0))) (numbered_transfer.sender.number (place_of numbered_transfer.sender 0)) refl
messages (suc zero) l o = few_counted (numbered_transfer.sender.counts true (stream_of three (place_of numbered_transfer.sender 1))) (numbered_transfer.sender.number (place_of numbered_transfer.sender 1)) refl
messages (suc (suc zero)) l o = few_counted (numbered_transfer.sender.counts true (stream_of three (place_of numbered_transfer.sender 2))) (numbered_transfer.sender.number (place_of numbered_transfer.sender 2)) refl
messages (suc (suc (suc zero))) l o = cc
messages (suc (suc (suc (suc t)))) l o = absurd (omega (arith, l))

pub windows : Windows three numbered_transfer
windows = record {
  items = λ l. omega (arith, count_is);
  messages = λ t a b o. messages t (omega (arith, b, count_is)) o;
}

pub few : AreFew numbered_transfer.sender
few = record { fragments = omega (arith, count_is); messages = omega arith }
