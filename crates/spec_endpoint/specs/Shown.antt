-- What is asked of an end.
use Rattle.std.specs.Prelude.{ℕ, ◌&&◌, not, Bool, Option, Some, None}
use Rattle.sctp_tx_queue.specs.SendQueue.{Queue, is_empty}
use Rattle.spec_endpoint.specs.Association.{State, Closed, CookieWait, Open}
use Rattle.spec_endpoint.specs.Calls.{keeps_items}

-- what both ends of an association hold, mirrored: tags and first TSNs
pub record Association : Type 0 where
  pub my_tag : ℕ
  pub my_initial_tsn : ℕ
  pub peer_tag : ℕ
  pub peer_initial_tsn : ℕ

-- nothing queued, no item kept
abbrev pub is_at_rest : State → Queue → Bool
is_at_rest s q = is_empty q && not (keeps_items s)

abbrev pub association_in : State → Option Association
association_in Closed = None
association_in (CookieWait tag first t1) = None
association_in (Open phase t) = Some (record {
  my_tag = t.identity.my_tag;
  my_initial_tsn = t.identity.my_first;
  peer_tag = t.identity.peer_tag;
  peer_initial_tsn = t.identity.peer_first;
})
