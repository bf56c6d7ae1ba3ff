use Rattle.spec_endpoint.specs.Opening.{on_cookie_ack}
use Rattle.spec_endpoint.specs.Shutdown.{on_shutdown, on_shutdown_complete}
use Rattle.spec_endpoint.specs.Input.{on_packet_end}
use Rattle.proof_draws.proofs.ClosingLemmas.{where_named, close_named, shutdown_named, on_shutdown_named, shutdown_complete_named, aborted_named, on_cookie_ack_named, ended_named}
use Rattle.proof_draws.proofs.endings_are_named.Goals as goal

pub returns : goal.returns
returns c = record {
  endings = record {
    close = λ n are pack s k. close_named n are pack s k;
    shutdown = λ n are pack s k. shutdown_named n are pack s k;
    on_shutdown = λ n are pack s k. where_named n are pack on_shutdown s (on_shutdown_named n are pack) k;
    on_shutdown_complete = λ n are pack s k. where_named n are pack on_shutdown_complete s (shutdown_complete_named n are pack) k;
    aborted = λ causes n are pack s k. aborted_named n are pack causes s;
    on_cookie_ack = λ n are pack s k. where_named n are pack on_cookie_ack s (on_cookie_ack_named n are pack) k;
    packet_end = λ n are pack s k. where_named n are pack on_packet_end s (ended_named n are pack) k;
  };
}
