-- What is ready stays ready where memory ran out in a chunk.
use Rattle.std.proofs.Common.{◌≡◌, ◌++◌, inl, List, [], ap, sym, subst, append-nil, Result, Ok, Err, OnErr}
use Rattle.sctp_serial.specs.Messages.{Message}
use Rattle.sctp_rx.specs.Delivery.{Extends}
use Rattle.spec_endpoint.specs.Association.{State}
use Rattle.spec_endpoint.specs.Calls.{ready_in}
use Rattle.sctp_endpoint.specs.declared.state.State as given_state
use Rattle.sctp_endpoint.specs.KeepsReady.{KeepsReady}
use Rattle.sctp_endpoint.specs.Views.{state_of}

same_ready : (old : List Message) → Extends old old
same_ready old = record { more = []; made = sym (append-nil old) }

pub from_nothing : (s t : State) → ready_in s ≡ [] → KeepsReady s t
from_nothing s t none = inl (record { more = ready_in t; made = ap (λ (ms : List Message). ms ++ ready_in t) (sym none) })

pub keeps_alone : (s : State) → KeepsReady s s
keeps_alone s = inl (same_ready (ready_in s))

pub keeps_same : (s t : State) → ready_in t ≡ ready_in s → KeepsReady s t
keeps_same s t e = inl (subst (λ (ms : List Message). Extends (ready_in s) ms) (sym e) (same_ready (ready_in s)))

pub keeps_more : (s t : State) → Extends (ready_in s) (ready_in t) → KeepsReady s t
keeps_more s t e = inl e

-- an end that is what it was
pub keeps_given : (s t : given_state.State) → t ≡ s → KeepsReady (state_of s) (state_of t)
keeps_given s t e = keeps_same (state_of s) (state_of t) (ap (λ (u : given_state.State). ready_in (state_of u)) e)

on_err : {T F P : Type 0} (r : Result T F) → P → OnErr r P
on_err (Ok x) p = tt
on_err (Err x) p = p

pub err_alone : {T F : Type 0} (r : Result T F) (s : State) → OnErr r (KeepsReady s s)
err_alone r s = on_err r (keeps_alone s)

pub err_same : {T F : Type 0} (r : Result T F) (s t : State) → ready_in t ≡ ready_in s → OnErr r (KeepsReady s t)
err_same r s t e = on_err r (keeps_same s t e)

pub err_more : {T F : Type 0} (r : Result T F) (s t : State) → Extends (ready_in s) (ready_in t) → OnErr r (KeepsReady s t)
err_more r s t e = on_err r (keeps_more s t e)

-- a call that leaves the end as it was
pub err_given : {T F : Type 0} (r : Result T F) (s t : given_state.State) → OnErr r (t ≡ s) → OnErr r (KeepsReady (state_of s) (state_of t))
err_given (Ok x) s t e = tt
err_given (Err x) s t e = keeps_given s t e
