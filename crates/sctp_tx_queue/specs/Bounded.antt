-- No sum of bytes overflows, also once each message is whole: there are at most 2^32 messages, each of less than 2^32 bytes,
-- and something of each is left. What is counted beside the streams is what a walk over them would find.
use Rattle.std.specs.Prelude.{◌≡◌, ℕ, ◌^◌, ◌≤◌, ◌&&◌, nat_lt, Bool, true, false, if◌then◌else◌, List, length, sum_by}
use Rattle.std.specs.List.{list_all}
use Rattle.std.specs.Map.{values_of}
use Rattle.std.specs.Ordering.{nat_cmp}
use Rattle.std.specs.BTreeMap.{is_at}
use Rattle.std.specs.BTreeSet.{insert_key}
use Rattle.std.specs.Set.{remove_key}
use Rattle.sctp_tx_queue.specs.declared.send_queue.ready_ids.ReadyIds.{ReadyIds}
use Rattle.sctp_tx_queue.specs.SendQueue.{Queued, Stream, Entries, total_of}
use Rattle.sctp_tx_queue.specs.Resets.{is_ready, ready}

-- something of it is left, and it has less than 2^32 bytes
abbrev pub is_small : Queued → Bool
is_small m = nat_lt m.offset (length m.payload) && nat_lt (length m.payload) (2 ^ 32)

abbrev pub are_small : Stream → Bool
are_small s = list_all is_small s.messages

abbrev pub message_count : Stream → ℕ
message_count s = length s.messages

pub record AreFew (es : Entries) : Type 0 where
  pub small : list_all are_small (values_of es) ≡ true
  pub count : sum_by message_count (values_of es) ≤ 2 ^ 32

abbrev pub one : Bool → ℕ
one b = if b then 1 else 0

-- how many streams can be reset and are in no request
abbrev pub ready_count : Entries → ℕ
ready_count es = sum_by (λ s. one (is_ready s)) (values_of es)

-- the ids that are listed, once a stream is ready or isn't and was so before or wasn't
abbrev pub ids_after : ℕ → (was is : Bool) → List ℕ → List ℕ
ids_after id true true ids = ids
ids_after id true false ids = remove_key (is_at (nat_cmp id)) ids
ids_after id false true ids = insert_key nat_cmp ids id
ids_after id false false ids = ids

-- the ids of the streams that can be reset and are in no request, where they are known
abbrev pub Lists : ReadyIds → Entries → Type 0
Lists r es = r.is_known ≡ true → r.ids.keys ≡ ready es

-- the amount is that of all streams, which are bounded, and so many of them can be reset, with these ids
pub record IsCounted (amount count : ℕ) (ids : ReadyIds) (es : Entries) : Type 0 where
  pub counted : amount ≡ total_of es
  pub few : AreFew es
  pub ready : count ≡ ready_count es
  pub listed : Lists ids es
