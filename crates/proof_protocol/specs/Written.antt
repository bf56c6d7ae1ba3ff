-- Where no stream was reset, the numbers on the wire are those of the rules.
use Rattle.std.specs.Prelude.{◌≡◌, ℕ, Bool, List}
use Rattle.proof_protocol.specs.State.{Entry, ForwardPoint, Sender, IsAmong}

-- so it is of each message, of the next one of each stream and kind, and of the entries of these points
pub record AreTheirOwn (o : Sender) (points : List ForwardPoint) : Type 0 where
  pub messages : (p : ℕ) → o.written p ≡ o.number p
  pub next : (kind : Bool) (s : ℕ) → o.following kind s ≡ o.counts kind s
  pub entries : (f : ForwardPoint) → IsAmong f points → (e : Entry) → IsAmong e f.entries → e.written ≡ e.number
