-- What is written of a world.
use Rattle.std.specs.Prelude.{◌≡◌, ℕ, List, map}
use Rattle.spec_world.specs.Observations as observations
use Rattle.sctp_trace.specs.declared.rows.Row.{Row}
use Rattle.sctp_trace.specs.Pcapng.{capture_bytes}
use Rattle.sctp_trace.specs.Svg.{IsChart}
use Rattle.sctp_trace.specs.Text.{ladder_text}
use Rattle.run_world.specs.declared.script.Format.{Format}
use Rattle.run_world.specs.declared.script.Format.TheVariants as formats
use Rattle.run_world.specs.Log.{row_shows, row_time, entry_shows, times_of}

abbrev pub IsDrawing : Format → List Row → List ℕ → Type 0
IsDrawing formats.Text rows bytes = bytes ≡ ladder_text rows
IsDrawing formats.Chart rows bytes = IsChart rows bytes
IsDrawing formats.Pcap rows bytes = bytes ≡ capture_bytes rows

-- the bytes draw rows, one for each entry of the log, with the packets that the ends sent
pub record Draws (format : Format) (log : List observations.Entry) (packets : observations.End → List (List ℕ)) (bytes : List ℕ) : Type 0 where
  pub rows : List Row
  pub shown : map row_shows rows ≡ map (entry_shows packets) log
  pub times : map row_time rows ≡ times_of log
  pub drawn : IsDrawing format rows bytes
