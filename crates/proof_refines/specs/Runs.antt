-- A run of the values beside one of the rules, with DATA and with I-DATA. The peer's first TSN is 2^32 - 1.
use Rattle.std.specs.Prelude.{ℕ, ◌+◌, Bool, true, false, List, [], ◌∷◌, take}
use Rattle.sctp_serial.specs.Unwrapped.{origin}
use Rattle.sctp_packet.specs.Chunk.{FragmentTree}
use Rattle.sctp_chunk.specs.declared.forward_tsn.SkippedStream.{SkippedStream}
use Rattle.sctp_chunk.specs.declared.forward_tsn.SkippedStream.TheVariants.{ForwardTsn}
use Rattle.sctp_state.specs.Options.{defaults}
use Rattle.sctp_rx.specs.DataTracker.{Tracker, tracker, observe}
use Rattle.sctp_rx.specs.DataTracker as tracker
use Rattle.sctp_rx.specs.ReassemblyQueue.{Reassembly, reassembly, add, forward}
use Rattle.proof_protocol.specs.State.{Transfer, start}
use Rattle.proof_protocol.specs.Rules.{run}
use Rattle.proof_protocol.specs.Runs.{three, plain_run, woven, woven_run}

-- ---- DATA: of four fragments the second is lost, the third comes first, and a forward point passes the first two

-- the rules once all four have their TSNs
abbrev pub numbered_transfer : Transfer
numbered_transfer = run three false start (take 10 plain_run)

-- before the forward point comes
abbrev pub point_sent : Transfer
point_sent = run three false start (take 18 plain_run)

abbrev pub begun : (stream : ℕ) (unordered : Bool) (ssn ppid byte : ℕ) (ends : Bool) → FragmentTree
begun stream unordered ssn ppid byte ends = record {
  stream_id = stream;
  is_unordered = unordered;
  ssn = ssn;
  mid = 0;
  fsn = 0;
  ppid = ppid;
  payload = byte ∷ [];
  is_beginning = true;
  is_end = ends;
}

abbrev pub first_part : FragmentTree
first_part = begun 0 false 0 50 1 false

abbrev pub second_message : FragmentTree
second_message = begun 0 false 1 51 3 true

abbrev pub third_message : FragmentTree
third_message = begun 1 true 0 52 4 true

abbrev pub empty : Reassembly
empty = reassembly 1000 false

abbrev pub after_second : Reassembly
after_second = add 1 second_message empty

abbrev pub after_third : Reassembly
after_third = add 2 third_message after_second

abbrev pub after_first : Reassembly
after_first = add 4294967295 first_part after_third

abbrev pub skipped : List SkippedStream
skipped = ForwardTsn (record { 0 = 0 }) (record { 0 = 0 }) ∷ []

abbrev pub after_point : Reassembly
after_point = forward 0 skipped after_first

abbrev pub tracked : Tracker
tracked = tracker.forward (origin + 1) (observe origin false (observe (origin + 3) false (observe (origin + 2) false (tracker defaults origin))))

-- ---- I-DATA: of a message's second fragment, which names no protocol id, and a queue that holds nothing yet

abbrev pub woven_numbered : Transfer
woven_numbered = run woven true start (take 9 woven_run)

abbrev pub woven_part : FragmentTree
woven_part = record {
  stream_id = 1;
  is_unordered = false;
  ssn = 0;
  mid = 0;
  fsn = 1;
  ppid = 0;
  payload = 2 ∷ [];
  is_beginning = false;
  is_end = false;
}

abbrev pub woven_empty : Reassembly
woven_empty = reassembly 1000 true
