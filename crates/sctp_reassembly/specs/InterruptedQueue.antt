-- What a call on the queue leaves where memory runs out before its end: its first steps are done, and of what comes behind them nothing. A
-- reset that is deferred stays so, with what waits for it, but where streams are reset (`reset_in_part`).
use Rattle.std.specs.Prelude.{ℕ, zero, suc, false, if◌then◌else◌, Option, None, List, [], ◌∷◌}
use Rattle.sctp_serial.specs.declared.api.StreamId.{StreamId}
use Rattle.sctp_chunk.specs.Chunk.{FragmentTree}
use Rattle.sctp_chunk.specs.declared.forward_tsn.SkippedStream.{SkippedStream}
use Rattle.sctp_reassembly.specs.ReassemblyStreams as streams
use Rattle.sctp_reassembly.specs.ReassemblyStreams.{is_far, entries_in}
use Rattle.sctp_reassembly.specs.InterruptedStreams as interrupted
use Rattle.sctp_reassembly.specs.ReassemblyQueue.{Waiting, Added, Forwarded, Deferred, Reassembly, number_of, came, apply_outcome, is_kept_back, point_waits, resetting, waiting_in, apply}

abbrev pub add_now_in_part : ℕ → ℕ → FragmentTree → Reassembly → Reassembly
add_now_in_part steps n f r = apply_outcome (interrupted.add_in_part steps n f r.streams) r

-- so many entries were taken, and of the one behind them so many steps
abbrev pub forward_now_in_part : ℕ → ℕ → ℕ → List SkippedStream → Reassembly → Reassembly
forward_now_in_part taken steps n es r = apply_outcome (interrupted.forward_in_part taken steps n es r.streams) r

-- a fragment that should wait is lost
abbrev pub add_or_lose : ℕ → ℕ → FragmentTree → Reassembly → Reassembly
add_or_lose steps n f r = if is_kept_back n f.stream_id r.deferred then r else add_now_in_part steps n f r

-- a fragment with this TSN
abbrev pub add_in_part : ℕ → ℕ → FragmentTree → Reassembly → Reassembly
add_in_part steps tsn f r = if is_far (number_of r tsn) then r else add_or_lose steps (number_of r tsn) f (came tsn r)

-- entries that should wait are lost
abbrev pub entries_at_once : ℕ → List SkippedStream → Option Deferred → List SkippedStream
entries_at_once n es d = if point_waits n d then entries_in false (resetting d) es else es

-- a forward point to this TSN
abbrev pub forward_in_part : ℕ → ℕ → ℕ → List SkippedStream → Reassembly → Reassembly
forward_in_part taken steps tsn es r =
    if is_far (number_of r tsn) then r else forward_now_in_part taken steps (number_of r tsn) (entries_at_once (number_of r tsn) es r.deferred) (came tsn r)

abbrev pub apply_in_part : ℕ → ℕ → Waiting → Reassembly → Reassembly
apply_in_part taken steps (Added n f) r = add_now_in_part steps n f r
apply_in_part taken steps (Forwarded n es) r = forward_now_in_part taken steps n es r

-- so much of what waited was applied, the next in part, and the rest is lost
abbrev pub apply_each_in_part : ℕ → ℕ → ℕ → List Waiting → Reassembly → Reassembly
apply_each_in_part applied taken steps [] r = r
apply_each_in_part zero taken steps (w ∷ ws) r = apply_in_part taken steps w r
apply_each_in_part (suc applied) taken steps (w ∷ ws) r = apply_each_in_part applied taken steps ws (apply w r)

-- the streams are reset, and no reset is deferred any more
abbrev pub reset_in_part : ℕ → ℕ → ℕ → List StreamId → Reassembly → Reassembly
reset_in_part applied taken steps ids r = apply_each_in_part applied taken steps (waiting_in r.deferred) (record r { streams = streams.reset ids r.streams; deferred = None })
