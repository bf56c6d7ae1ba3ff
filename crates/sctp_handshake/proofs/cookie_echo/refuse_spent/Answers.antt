use Rattle.std.proofs.Common.{◌≡◌, ℕ, List, [], ◌∷◌, ap, ◌∙◌}
use Rattle.std.specs.Prelude.{Result, Ok, Err, OnOk, false, codes}
use Rattle.sctp_wire.specs.Cause.{CauseTree, user_initiated_abort}
use Rattle.sctp_packet.specs.Chunk.{abort_chunk}
use Rattle.spec_endpoint.specs.Association.{Context}
use Rattle.spec_endpoint.specs.Packets.{add, emit, packet_to}
use Rattle.sctp_handshake.proofs.cookie_echo.refuse_spent.Goals as goal

by_cause : {T F : Type 0} (r : Result T F) (tag mtu : ℕ) (cause given : CauseTree) (c d : Context (List ℕ)) → cause ≡ given
    → OnOk r (d ≡ emit (add (abort_chunk false (cause ∷ [])) (packet_to tag mtu)) c) → OnOk r (d ≡ emit (add (abort_chunk false (given ∷ [])) (packet_to tag mtu)) c)
by_cause (Ok x) tag mtu cause given c d is ok = ok ∙ ap (λ (k : CauseTree). emit (add (abort_chunk false (k ∷ [])) (packet_to tag mtu)) c) is
by_cause (Err x) tag mtu cause given c d is ok = record {}

pub returns-clause-ok : goal.returns-clause-ok
returns-clause-ok g c =
    by_cause c.send_abort.result c.args.cookie.now.peer_tag c.args.context.now.options.mtu _ (user_initiated_abort (codes "The association is over")) _ _
    c.in_ok-cause.ensures c.send_abort.ensures.ok
