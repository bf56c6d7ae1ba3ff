-- A first message in the send queue.
use Rattle.std.proofs.Common.{◌≡◌, ℕ, ◌+◌, ◌-◌, ◌<◌, ◌≤◌, ◌==◌, nat_lt, nat_le, Bool, true, false, Option, Some, None, List, [], ◌∷◌, length, take, refl, arith}
use Rattle.std.proofs.lemmas.List.{append-nil, take_all}
use Rattle.std.specs.Prelude.{unwrap_or}
use Rattle.std.proofs.lemmas.Bool.Decides.{nat_tests}
use Rattle.sctp_serial.specs.Messages.{Message}
use Rattle.sctp_state.specs.Options.{SendOptions, defaults}
use Rattle.sctp_stream_scheduler.specs.StreamScheduler.{scheduler}
use Rattle.sctp_tx_queue.specs.SendQueue.{Queued, Stream, Queue, queue, no_streams, blank, add, expiry_of}
use Rattle.sctp_tx_queue.specs.Produced.{Produced, is_expired, produce, took, fully_sent}
use Rattle.sctp_serial.specs.Time.{later}
use Rattle.sctp_state.specs.Numbers.{ms}
use Rattle.sctp_state.specs.Events.{Emitted, emit_events, OnBufferedAmountLow}
use Rattle.proof_endpoint.specs.FirstRun.{fragment}
use Rattle.spec_endpoint.specs.Calls.{queue_entry}
use Rattle.sctp_serial.proofs.NumberLemmas.{is_itself}

pub not_below_itself : (n : ℕ) → nat_lt n n ≡ false
not_below_itself n = grind (arith)

pub some_left : (n : ℕ) → 0 < n → (n - 0 == 0) ≡ false
some_left n h = grind (arith, nat_tests)

pub some_to_go : (n : ℕ) → 0 < n → nat_lt 0 (0 + (n - 0)) ≡ true
some_to_go n h = grind (arith)

pub few_to_go : (n : ℕ) → n ≤ 1000 → nat_lt 1800000 (0 + (0 + (n - 0))) ≡ false
few_to_go n h = grind (arith)

pub ends_at_once : (n : ℕ) → n ≤ 1000 → nat_le (n - 0) 1160 ≡ true
ends_at_once n h = grind (arith)

pub all_taken : (xs : List ℕ) → length xs ≤ 1000 → take 1160 xs ≡ xs
all_taken xs h = take_all 1160 xs (omega (arith, h))

positive_due : (n : ℕ) → nat_le (later (later 0 n) ms) 0 ≡ false
positive_due n = grind (arith)

-- what was accepted now is not expired
pub not_due : (lifetime : Option ℕ) → is_expired 0 (expiry_of 0 lifetime) ≡ false
not_due None = refl
not_due (Some n) = positive_due n

module _ (m : Message) (o : SendOptions) where
  abbrev pub waiting_message : Queued
  waiting_message = queue_entry 0 0 m o

  abbrev pub stream_with : List Queued → Stream
  stream_with ms = record (blank (no_streams defaults)) { messages = ms }

  abbrev pub holding : Queue
  holding = record (queue defaults) {
    streams = record (no_streams defaults) { entries = (m.stream, stream_with (waiting_message ∷ [])) ∷ [] };
    scheduler = record (scheduler 1159) { times = (m.stream, 1) ∷ [] };
    next_number = 1;
  }

  pub queues : 0 < length m.payload → add m.stream waiting_message (queue defaults) ≡ holding
  queues some = rw (not_below_itself m.stream, is_itself m.stream, some_left (length m.payload) some) refl

  abbrev pub produced : Produced
  produced = record {
    number = 0;
    fragment = fragment m o;
    expires = expiry_of 0 o.lifetime;
    limit = unwrap_or o.max_retransmissions 65535;
    lifecycle = o.lifecycle_id;
  }

  -- the stream has taken its number
  abbrev numbered : Stream
  numbered = took waiting_message (stream_with [])

  abbrev after_it : Stream
  after_it = record (stream_with []) {
    next_ssn = numbered.next_ssn;
    next_ordered_mid = numbered.next_ordered_mid;
    next_unordered_mid = numbered.next_unordered_mid;
  }

  abbrev pub emptied : Queue
  emptied = record (queue defaults) {
    streams = record (no_streams defaults) { entries = (m.stream, after_it) ∷ [] };
    scheduler = record (scheduler 1159) { virtual_time = 1 };
    next_number = 1;
  }

module _ (m : Message) (lifetime retransmissions lifecycle : Option ℕ) {P : Type 0} (emitted : Emitted P) (some : 0 < length m.payload) (few : length m.payload ≤ 1000) where
  abbrev options : (is_unordered : Bool) → SendOptions
  options is_unordered = record { unordered = is_unordered; lifetime = lifetime; max_retransmissions = retransmissions; lifecycle_id = lifecycle }

  produces_as : (is_unordered : Bool) → produce 0 1160 (holding m (options is_unordered)) emitted
      ≡ record { queue = emptied m (options is_unordered); emitted = emit_events (OnBufferedAmountLow m.stream ∷ fully_sent lifecycle) emitted; made = Some (produced m (options is_unordered)) }
  produces_as true = simp (append-nil emitted.events, not_below_itself, is_itself, not_due, ends_at_once (length m.payload) few, some_to_go (length m.payload) some, few_to_go (length m.payload) few, all_taken m.payload few) refl
  produces_as false = simp (append-nil emitted.events, not_below_itself, is_itself, not_due, ends_at_once (length m.payload) few, some_to_go (length m.payload) some, few_to_go (length m.payload) few, all_taken m.payload few) refl

pub produces : (m : Message) (o : SendOptions) {P : Type 0} (emitted : Emitted P) → 0 < length m.payload → length m.payload ≤ 1000
    → produce 0 1160 (holding m o) emitted ≡ record { queue = emptied m o; emitted = emit_events (OnBufferedAmountLow m.stream ∷ fully_sent o.lifecycle_id) emitted; made = Some (produced m o) }
produces m o emitted some few = produces_as m o.lifetime o.max_retransmissions o.lifecycle_id emitted some few o.unordered
