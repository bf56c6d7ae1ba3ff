-- What was ready stays ready.
use Rattle.std.proofs.Common.{◌≡◌, ℕ, ◌-◌, ◌<◌, ◌≤◌, ◌^◌, List, [], ◌++◌, length, ap, sym, ◌∙◌, arith, append_assoc, append-nil, length-append}
use Rattle.sctp_serial.specs.Messages.{Message}
use Rattle.sctp_reassembly.specs.Delivery.{Extends}
use Rattle.sctp_reassembly.specs.ReassemblyQueue.{Reassembly, saturating_sum, IsCounted}

pub extends_none : (old : List Message) → Extends old old
extends_none old = record { more = []; made = sym (append-nil old) }

pub extends_by : (old new more : List Message) → new ≡ old ++ more → Extends old new
extends_by old new more made = record { more = more; made = made }

pub extends_both : (a b c : List Message) → Extends a b → Extends b c → Extends a c
extends_both a b c p q = record { more = p.more ++ q.more; made = q.made ∙ (ap (λ (t : List Message). t ++ q.more) p.made ∙ append_assoc a p.more q.more) }

-- ---- how many became ready

pub extends_length : (a b : List Message) → Extends a b → length a ≤ length b
extends_length a b e = omega (arith, ap length e.made, length-append a e.more)

pub saturating_sum_none : (n l : ℕ) → n < 2 ^ 64 → n ≡ saturating_sum n (l - l)
saturating_sum_none n l small = omega (arith, small)

saturating_sum_twice : (n m k a b c : ℕ) → a ≤ b → b ≤ c → m ≡ saturating_sum n (b - a) → k ≡ saturating_sum m (c - b) → k ≡ saturating_sum n (c - a)
saturating_sum_twice n m k a b c up more first then = omega (arith, up, more, first, then)

pub counted_both : (p q r : Reassembly) → Extends p.ready q.ready → Extends q.ready r.ready → IsCounted p q → IsCounted q r → IsCounted p r
counted_both p q r e f first then =
    saturating_sum_twice p.ready_count q.ready_count r.ready_count (length p.ready) (length q.ready) (length r.ready) (extends_length p.ready q.ready e) (extends_length q.ready r.ready f) first then
