-- What the program's values say, without where they lie in memory.
use Rattle.std.specs.Prelude.{ℕ, None, unwrap_or, option_map}
use Rattle.std.specs.Duration.{as_nanos}
use Rattle.sctp_serial.specs.declared.api.Message.{Message}
use Rattle.sctp_state.specs.declared.api.options.SendOptions.{SendOptions}
use Rattle.sctp_chunk.specs.Views.{fragment_tree}
use Rattle.sctp_tx_queue.specs.declared.data_to_send.DataToSend.{DataToSend}
use Rattle.sctp_tx_queue.specs.SendQueue.{Queued, expiry_of}
use Rattle.sctp_tx_queue.specs.Produced.{Produced}

abbrev pub produced_of : DataToSend → Produced
produced_of d = record {
  number = d.message_id.0;
  fragment = fragment_tree d.data;
  expires = d.expires_at;
  limit = d.max_retransmissions;
  lifecycle = d.lifecycle_id;
}

-- a message that is accepted at a moment; without a limit its fragments are sent again 65,535 times
abbrev pub queued_of : ℕ → ℕ → Message → SendOptions → Queued
queued_of number now message options = record {
  number = number;
  ppid = message.ppid.0;
  payload = message.payload.items;
  is_unordered = options.unordered;
  expires = expiry_of now (option_map as_nanos options.lifetime);
  limit = unwrap_or options.max_retransmissions 65535;
  lifecycle = options.lifecycle_id;
  offset = 0;
  numbers = None;
  fsn = 0;
}
