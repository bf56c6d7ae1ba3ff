-- Items that wait to be sent again.
use Rattle.std.proofs.Common.{◌≡◌, ℕ, ◌+◌, ◌*◌, ◌/◌, ◌≤◌, Bool, true, false, length, refl, arith}
use Rattle.sctp_tx_outstanding.specs.declared.kept.Change.{Change}
use Rattle.sctp_tx_outstanding.specs.declared.kept.Change.TheVariants as changes
use Rattle.sctp_tx_outstanding.specs.Item.{Item, should_be_retransmitted, header_size, chunk_size}
use Rattle.sctp_tx_outstanding.specs.Change.{apply_change}
use Rattle.sctp_tx_outstanding.specs.OutstandingData.{when}
use Rattle.sctp_tx_outstanding.specs.Waiting.{IsAtLeast}

pub false_from_none : (b : Bool) → when b 1 ≤ 0 → b ≡ false
false_from_none true h = absurd (omega (arith, h))
false_from_none false h = refl

pub same_fragment : (x : Change) (i : Item) → (apply_change x i).fragment ≡ i.fragment
same_fragment changes.Ack i = refl
same_fragment changes.Uncover i = refl
same_fragment (changes.Nack indication fast) i = refl
same_fragment changes.Retransmit i = refl
same_fragment changes.MissFast i = refl
same_fragment changes.Abandon i = refl

padded : (a b : ℕ) → a ≤ b → (a + 3) / 4 * 4 ≤ (b + 3) / 4 * 4
padded a b le = omega (arith, le)

pub chunk_at_least : (m : Bool) (least size : ℕ) (i : Item) → size ≤ least → IsAtLeast least i → should_be_retransmitted i ≡ true → (header_size m + size + 3) / 4 * 4 ≤ chunk_size m i
chunk_at_least m least size i le h = λ t. padded (header_size m + size) (header_size m + length i.fragment.payload) (omega (arith, le, h t))
