use Rattle.std.proofs.Common.{◌+◌, Option, [], ◌∷◌, map, ap, subst}
use Rattle.sctp_serial.specs.Unwrapped.{origin}
use Rattle.sctp_rx.specs.ReassemblyQueue.{Deferred, number_of, is_kept_back, add}
use Rattle.sctp_rx.specs.DataTracker.{observe}
use Rattle.proof_protocol.specs.Rules.{data_comes, late_comes, become_ready}
use Rattle.proof_refines.specs.Read.{shift_after}
use Rattle.proof_refines.specs.ReceiverRefinement.{Goes}
use Rattle.proof_refines.proofs.FragmentRowLemmas.{first_is, row_held, row_late}
use Rattle.proof_refines.proofs.receiver.fragment_comes.Goals as goal

pub returns-clause-held : goal.returns-clause-held
returns-clause-held c message is_interleaved base shift x handed t r k tsn f now kept shown i none carries read unseen is_now current =
    (let l = row_held message is_interleaved base shift x kept handed t r shown i k tsn f (ap (is_kept_back (number_of r tsn) f.stream_id) none) carries read unseen is_now current now in
    (l.0, subst (λ (d : Option Deferred). Goes message is_interleaved base (shift_after r.first shift k) x (data_comes k ∷ map become_ready l.0) handed d (observe (origin + k) now t) (add tsn f r)) none l.1))

pub returns-clause-late : goal.returns-clause-late
returns-clause-late c message is_interleaved base shift x handed t r k tsn f now kept shown i none carries read unseen is_now late =
    subst (λ (d : Option Deferred). Goes message is_interleaved base (shift_after r.first shift k) x (late_comes k ∷ []) handed d (observe (origin + k) now t) (add tsn f r)) none
    (row_late message is_interleaved base shift x kept handed t r shown i k tsn f (ap (is_kept_back (number_of r tsn) f.stream_id) none) carries read unseen is_now late now)

pub returns-clause-first : goal.returns-clause-first
returns-clause-first c message is_interleaved base shift x handed t r k tsn f kept shown i none carries read unseen is_now =
    first_is message is_interleaved base shift x kept handed t r shown i k tsn f (ap (is_kept_back (number_of r tsn) f.stream_id) none) carries read unseen is_now
