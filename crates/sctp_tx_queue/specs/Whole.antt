-- A fragment that is a whole message.
use Rattle.std.specs.Prelude.{ℕ, ◌==◌, ◌&&◌, Bool, false, if◌then◌else◌, Option, Some, None, List, [], ◌∷◌}
use Rattle.sctp_tx_queue.specs.SendQueue.{Queued}
use Rattle.sctp_tx_queue.specs.Produced.{Produced, ends}

-- nothing of the message is sent, and a fragment of this size is its end
abbrev pub is_whole : ℕ → Queued → Bool
is_whole size m = m.offset == 0 && ends size m

abbrev pub is_front_whole : ℕ → List Queued → Bool
is_front_whole size [] = false
is_front_whole size (m ∷ rest) = is_whole size m

abbrev pub front_lifecycle : List Queued → Option ℕ
front_lifecycle [] = None
front_lifecycle (m ∷ rest) = m.lifecycle

-- the message at the front, where a fragment of this size ends it
abbrev pub front_ended : ℕ → List Queued → Option Queued
front_ended size [] = None
front_ended size (m ∷ rest) = if ends size m then Some m else None

-- with these bytes in place of the payload
abbrev pub with_payload : List ℕ → Produced → Produced
with_payload bytes p = record p { fragment = record p.fragment { payload = bytes } }
