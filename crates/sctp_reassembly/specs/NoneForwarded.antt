-- A stream of which nothing came has nothing that a forward point makes ready.
use Rattle.std.specs.Prelude.{◌≡◌, ℕ, zero, suc, refl, []}
use Rattle.sctp_reassembly.specs.Delivery.{fresh_ordered}
use Rattle.sctp_reassembly.specs.InterruptedStreams.{ordered_forward_in_part}

pub none_forwarded : (steps n : ℕ) → (ordered_forward_in_part steps n fresh_ordered).messages ≡ []
none_forwarded zero n = refl
none_forwarded (suc steps) n = refl
