-- What a state is after its control block was changed through a reference to it.
use Rattle.sctp_endpoint.specs.declared.transmission_control_block.TransmissionControlBlock.{TransmissionControlBlock}
use Rattle.sctp_endpoint.specs.declared.state.State.{State}
use Rattle.sctp_endpoint.specs.declared.state.State.TheVariants.{Closed, CookieWait, Open}

abbrev pub with_block : State → TransmissionControlBlock → State
with_block Closed _ = Closed
with_block (CookieWait s) _ = CookieWait s
with_block (Open phase _) t = Open phase t
