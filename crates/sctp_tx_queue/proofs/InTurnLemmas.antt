-- Messages that are given up stream by stream, each emptied in its turn, are those of all streams, ascending by id.
use Rattle.std.proofs.Common.{◌≡◌, ℕ, ◌<◌, Bool, false, Option, Some, [], ◌∷◌, cond, refl, ap, sym, ◌∙◌, arith}
use Rattle.std.specs.Prelude.{unwrap_or}
use Rattle.std.specs.List.Sorted.{IsStrictlySortedBy}
use Rattle.std.specs.Map.{lookup, keys_of, values_of}
use Rattle.std.specs.Ordering.{nat_cmp}
use Rattle.std.specs.BTreeMap.{is_at}
use Rattle.std.proofs.lemmas.Bool.Decides.{nat_tests}
use Rattle.sctp_serial.proofs.NumberLemmas.{at_itself, greater_differs}
use Rattle.sctp_state.specs.Events.{Emitted}
use Rattle.sctp_tx_queue.specs.SendQueue.{Stream, Entries, Queue, blank, stream}
use Rattle.sctp_tx_queue.specs.Emptied.{emptied, emptied_one, emit_ended, emit_all_ended, emit_each_ended, empty}
use Rattle.sctp_tx_queue.proofs.AgainLemmas.{AreAbove, are_above}
use Rattle.sctp_tx_queue.proofs.InOrderLemmas.{put_elsewhere}

-- these entries are found among all
abbrev AreFound : (all es : Entries) → Type 0
AreFound all [] = Unit {0}
AreFound all (e ∷ es) = (lookup (is_at (nat_cmp e.0)) all ≡ Some e.1) × AreFound all es

below : (k m : ℕ) → m < k → is_at (nat_cmp k) m ≡ false
below k m l = grind (arith, nat_tests)

found_behind : (e : ℕ × Stream) (all es : Entries) → AreAbove e.0 es → AreFound all es → AreFound (e ∷ all) es
found_behind e all [] above h = tt
found_behind e all (x ∷ xs) above h = (
  ap (λ (b : Bool). cond b (Some e.1) (lookup (is_at (nat_cmp x.0)) all)) (below x.0 e.0 above.0) ∙ h.0,
  found_behind e all xs above.1 h.1,
)

all_found : (es : Entries) → IsStrictlySortedBy nat_cmp (keys_of es) → AreFound es es
unfolding IsStrictlySortedBy
all_found [] s = tt
all_found (e ∷ es) s =
    (ap (λ (b : Bool). cond b (Some e.1) (lookup (is_at (nat_cmp e.0)) es)) (at_itself e.0), found_behind e es es (are_above e.0 es s) (all_found es s.1))

-- the queue has these streams
abbrev pub Has : Queue → Entries → Type 0
Has q [] = Unit {0}
Has q (e ∷ es) = (stream e.0 q.streams ≡ e.1) × Has q es

has_found : (q : Queue) (es : Entries) → AreFound q.streams.entries es → Has q es
has_found q [] h = tt
has_found q (e ∷ es) h = (ap (λ (o : Option Stream). unwrap_or o (blank q.streams)) h.0, has_found q es h.1)

pub has_all : (q : Queue) → IsStrictlySortedBy nat_cmp (keys_of q.streams.entries) → Has q q.streams.entries
has_all q s = has_found q q.streams.entries (all_found q.streams.entries s)

-- and still those above one that is emptied
has_others : (q : Queue) (id : ℕ) (es : Entries) → AreAbove id es → Has q es → Has (emptied_one id q) es
has_others q id [] above h = tt
has_others q id (e ∷ es) above h =
    (put_elsewhere e.0 id (emptied (stream id q.streams)) q.streams (greater_differs id e.0 above.0) ∙ h.0, has_others q id es above.1 h.1)

in_turn : {P : Type 0} (es : Entries) (q : Queue) (t : Emitted P) → IsStrictlySortedBy nat_cmp (keys_of es) → Has q es
    → emit_each_ended (keys_of es) q t ≡ emit_all_ended (values_of es) t
unfolding IsStrictlySortedBy
in_turn [] q t s h = refl
in_turn (e ∷ es) q t s h =
    in_turn es (emptied_one e.0 q) (emit_ended (stream e.0 q.streams).messages t) s.1 (has_others q e.0 es (are_above e.0 es s) h.1)
    ∙ ap (λ (x : Stream). emit_all_ended (values_of es) (emit_ended x.messages t)) h.0

pub emitted_in_turn : {P : Type 0} (q : Queue) (t : Emitted P) → IsStrictlySortedBy nat_cmp (keys_of q.streams.entries)
    → emit_all_ended (values_of q.streams.entries) t ≡ (empty q t).emitted
emitted_in_turn q t s = sym (in_turn q.streams.entries q t s (has_all q s))
