use Rattle.std.proofs.Common.{◌+◌, Option, ◌∷◌, map, ap, subst}
use Rattle.sctp_serial.specs.Unwrapped.{origin}
use Rattle.sctp_rx.specs.ReassemblyQueue.{Deferred, number_of, point_waits, forward}
use Rattle.sctp_rx.specs.DataTracker as tracker
use Rattle.proof_protocol.specs.Rules.{forward_comes, become_ready}
use Rattle.proof_refines.specs.Read.{shift_after}
use Rattle.proof_refines.specs.ReceiverRefinement.{Goes}
use Rattle.proof_refines.proofs.ForwardRowLemmas.{called_at_once, first_is, row_point}
use Rattle.proof_refines.proofs.receiver.forward_point_comes.Goals as goal

pub returns-clause-goes : goal.returns-clause-goes
returns-clause-goes c message is_interleaved base shift x handed t r k tsn entries f kept shown none sent last tsn_is small stand apart are_now =
    (let l = row_point message is_interleaved base shift x kept handed t r shown k tsn entries
    (called_at_once r tsn k (shift_after r.first shift k) entries tsn_is small (ap (point_waits (number_of r tsn)) none)) f sent last tsn_is stand apart are_now in
    (l.0, subst (λ (d : Option Deferred). Goes message is_interleaved base (shift_after r.first shift k) x (forward_comes f ∷ map become_ready l.0) handed d (tracker.forward (origin + k) t) (forward tsn entries r)) none l.1))

pub returns-clause-first : goal.returns-clause-first
returns-clause-first c message is_interleaved base shift x handed t r k tsn entries f kept shown none sent last tsn_is small stand apart are_now =
    first_is message is_interleaved base shift x kept handed t r shown k tsn entries
    (called_at_once r tsn k (shift_after r.first shift k) entries tsn_is small (ap (point_waits (number_of r tsn)) none)) f sent last tsn_is stand apart are_now
