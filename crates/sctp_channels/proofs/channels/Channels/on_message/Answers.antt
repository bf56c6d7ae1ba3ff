use Rattle.std.proofs.Common.{◌≡◌, ℕ, List, Option, Some, subst, sym, ap, ◌∙◌}
use Rattle.std.proofs.lemmas.Result.{on_ok_weaker}
use Rattle.sctp_channels.specs.declared.payload.PayloadProtocol.{PayloadProtocol}
use Rattle.sctp_channels.specs.declared.payload.PayloadProtocol.TheVariants.{Control}
use Rattle.sctp_channels.specs.Channels.{Channels, OnControl, OnMessage}
use Rattle.sctp_channels.proofs.channels.Channels.on_message.Goals as goal

-- a message under the PPID of those that open channels
of_control : (p : PayloadProtocol) (o : Option PayloadProtocol) (id : ℕ) (bytes payload : List ℕ) (old new : Channels) → p ≡ Control → Some p ≡ o → bytes ≡ payload
    → OnControl id bytes old new → OnMessage o id payload old new
of_control p o id bytes payload old new is found same on =
    subst (λ (q : Option PayloadProtocol). OnMessage q id payload old new) (ap (λ (q : PayloadProtocol). Some q) (sym is) ∙ found) (subst (λ (bs : List ℕ). OnControl id bs old new) same on)

pub returns-in-Some-Control-clause-ok : goal.returns-in-Some-Control-clause-ok
returns-in-Some-Control-clause-ok c =
    on_ok_weaker c.on_control.result (of_control c.in-Some-Control.field-0 _ c.args.message.stream_id.0 c.deref.result.now c.args.message.payload.items c.args.self.now c.on_control.new.self
    c.in-Some-Control.field-0-is c.in-Some-Control.ensures c.deref.ensures.value) c.on_control.ensures.ok
