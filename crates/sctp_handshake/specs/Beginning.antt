-- The two halves of an association that begins by a cookie: it is there, and then it is spoken of.
use Rattle.std.specs.Prelude.{ℕ, Bool, true, false}
use Rattle.sctp_capabilities.specs.Capabilities.{negotiate}
use Rattle.sctp_capabilities.specs.StateCookie.{Cookie}
use Rattle.spec_endpoint.specs.Association.{Tcb, Phase, Established, Context, EndpointState, open_as}
use Rattle.spec_endpoint.specs.Sending.{open_with}
use Rattle.spec_endpoint.specs.Opening.{CookieResolution, EstablishNew, RestartDetected, SimultaneousInit, MaintainExisting, Discard, InvalidTag, cookie_ack, enter_connected, queue_for, tcb_by}
use Rattle.spec_endpoint.specs.Shown.{Association}

abbrev pub begun : {P : Type 0} → (resets : Bool) → Cookie → (tie : ℕ) → Context P → EndpointState P
begun resets k tie c = open_as Established (tcb_by c.options k tie) (record c { queue = queue_for resets (negotiate c.options k.peer_capabilities).message_interleaving c.queue; last_tag = k.my_tag })

abbrev pub greets : {P : Type 0} → (peer_tag : ℕ) → Phase → Tcb → Context P → EndpointState P
greets peer_tag phase t c = open_with phase (cookie_ack peer_tag t (enter_connected c))

-- the association that a cookie stands for
abbrev pub association_by : Cookie → Association
association_by k = record {
  my_tag = k.my_tag;
  my_initial_tsn = k.my_initial_tsn;
  peer_tag = k.peer_tag;
  peer_initial_tsn = k.peer_initial_tsn;
}

-- whether it is in place of what the end was
abbrev pub begins_anew : CookieResolution → Bool
begins_anew EstablishNew = true
begins_anew RestartDetected = true
begins_anew SimultaneousInit = true
begins_anew MaintainExisting = false
begins_anew Discard = false
begins_anew InvalidTag = false
