use Rattle.std.proofs.Common.{arith}
use Rattle.sctp_c_records.proofs.options.OptionsRecord.invalid_place.Goals as goal

pub returns-clause-none : goal.returns-clause-none
returns-clause-none c = λ e. (
  record {
    sizes = record { mtu_least = omega (arith, c.if-self-lt256.false); mtu_most = omega (arith, c.if-self-gt65535.false); receiver_window = c.is_number.ensures; send_buffer = c.is_number-2.ensures; stream_queue = c.is_number-3.ensures; message = c.is_number-4.ensures };
    times = c.invalid_time.ensures.none e;
    windows = record { initial_least = omega (arith, c.if-self-lt1.false); initial_most = omega (arith, c.if-self-gt65535-2.false); min_least = omega (arith, c.if-self-lt1-2.false); min_most = omega (arith, c.if-self-gt65535-3.false); avoid_least = omega (arith, c.if-self-lt1-3.false); avoid_most = omega (arith, c.if-self-gt65535-4.false); immediate_most = omega (arith, c.if-self-gt65535-5.false) };
  },
  (omega (arith, c.if-self-gt63.false), omega (arith, c.if-self-gt1.false)),
)

pub returns-clause-some : goal.returns-clause-some
returns-clause-some c = λ more valid. c.invalid_time.ensures.some more valid.0.times
