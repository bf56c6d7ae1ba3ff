use Rattle.std.proofs.Common.{rules}
use Rattle.sctp_state.specs.Options.{options_of}
use Rattle.sctp_c_records.proofs.FlagLemmas.{has_flags}
use Rattle.sctp_c_records.proofs.options.OptionsRecord.of.Goals as goal

pub returns-clause-options : goal.returns-clause-options
returns-clause-options c =
    let o = options_of c.args.options.now in
    let flags = has_flags o.enable_partial_reliability o.enable_message_interleaving o.disable_checksum_verification o.enable_handover_with_outstanding_data o.heartbeat_interval_include_rtt o.avoid_stalls in
    simp (
      c.size_number.ensures,
      c.size_number-2.ensures,
      c.size_number-3.ensures,
      c.size_number-4.ensures,
      c.size_number-5.ensures,
      c.size_number-6.ensures,
      c.size_number-7.ensures,
      c.size_number-8.ensures,
      c.size_number-9.ensures,
      c.size_number-10.ensures,
      c.size_number-11.ensures,
      c.nanos_of.ensures,
      c.nanos_of-2.ensures,
      c.nanos_of-3.ensures,
      c.nanos_of-4.ensures,
      c.nanos_of-5.ensures,
      c.nanos_of-6.ensures,
      c.nanos_of-7.ensures,
      c.nanos_of-8.ensures,
      c.nanos_of-9.ensures,
      c.nanos_of-10.ensures,
      c.span_number.ensures,
      c.limit_number.ensures,
      c.limit_number-2.ensures,
      c.flags_of.ensures,
      flags.first,
      flags.second,
      flags.third,
      flags.fourth,
      flags.fifth,
      flags.sixth,
    ) (search rules)
