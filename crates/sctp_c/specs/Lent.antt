-- What a socket lends to C.
use Rattle.std.specs.Prelude.{◌≡◌}
use Rattle.core.specs.Ptr.{Ptr}
use Rattle.std.specs.Vec.{vec_ptr}
use Rattle.sctp_c.specs.declared.endpoint.Endpoint.{Endpoint}

-- the pointer is where the bytes lie that the socket lends
abbrev pub PointsAt : Ptr → Endpoint → Type 0
PointsAt p e = p ≡ vec_ptr e.lent
