-- What waits for a reset.
use Rattle.std.proofs.Common.{◌<◌, ◌^◌, List, [], ◌∷◌, ◌++◌}
use Rattle.sctp_reassembly.specs.ReassemblyQueue.{Waiting, AreSmall, waiting_number}

pub small_more : (ws : List Waiting) (w : Waiting) → AreSmall ws → waiting_number w < 2 ^ 63 → AreSmall (ws ++ w ∷ [])
small_more [] w h k = (k, tt)
small_more (v ∷ ws) w h k = (h.0, small_more ws w h.1 k)
