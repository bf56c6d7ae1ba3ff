-- What is done to a control block, and to its requests, keeps it fitting.
use Rattle.std.proofs.Common.{◌≡◌, ℕ, ◌^◌, ◌<◌, ◌≤◌, ◌==◌, Bool, true, false, Option, Some, None, List, refl, sym, subst, arith}
use Rattle.std.specs.Prelude.{IfSome, option_map}
use Rattle.sctp_wire.specs.Parameter.{reset_response}
use Rattle.sctp_chunk.specs.declared.forward_tsn.SkippedStream.{SkippedStream}
use Rattle.sctp_packet.specs.Chunk.{FragmentTree, InitTree}
use Rattle.sctp_packet.specs.Grammar.{Each}
use Rattle.sctp_state.specs.Options.{Options}
use Rattle.sctp_state.specs.Handover.{HandoverState}
use Rattle.sctp_state.specs.RetransmissionTimeout.{Rtt, rto}
use Rattle.sctp_capabilities.specs.Capabilities.{Capabilities}
use Rattle.sctp_capabilities.specs.StateCookie.{Cookie}
use Rattle.sctp_rx.specs.DataTracker.{DataTracker}
use Rattle.sctp_rx.specs.ReassemblyQueue.{Reassembly}
use Rattle.sctp_tx.specs.RetransmissionQueue.{Sender}
use Rattle.spec_endpoint.specs.Association.{Identity, Tcb, tcb}
use Rattle.spec_endpoint.specs.ResetRequests.{Request, Requests, start_request, without_deferral, clear_deferral, is_final, end_or_defer, response_if, handle_response_in}
use Rattle.spec_endpoint.specs.ResetRequests as requests
use Rattle.spec_endpoint.specs.Opening.{identity_of_init_ack, identity_of}
use Rattle.spec_endpoint.specs.Data.{added_unless, take_fragment, skipped_if, handle_forward_tsn}
use Rattle.spec_endpoint.specs.Sack.{timed_by}
use Rattle.spec_endpoint.specs.Handover.{identity_from, capabilities_from, tcb_from}
use Rattle.proof_endpoint.specs.Sound.{OptionsFit, FitsTracker, FitsRequest, FitsRequests, FitsIdentity, FitsTcb, FitsRecord}
use Rattle.proof_endpoint.specs.Fair.{IsFairParameter}
use Rattle.proof_endpoint.proofs.ReceivedLemmas.{FitsCookie}
use Rattle.proof_endpoint.proofs.SoundTrackerLemmas.{tracker_fits, rto_fits, observe_fits, forward_fits, restored_fits, size_added, size_forwarded}
use Rattle.proof_endpoint.proofs.SoundTxLemmas.{FitsSender, sender_restored_fits}

-- ---- a control block of which one part is another one

pub with_tracker : (t : Tcb) (d : DataTracker) → FitsTracker d.tracker → FitsTcb t → FitsTcb (record t { tracker = d })
with_tracker t d f h = record { identity = h.identity; tracker = f; window = h.window; items = h.items; requests = h.requests }

pub with_sender : (t : Tcb) (s : Sender) → FitsSender s → FitsTcb t → FitsTcb (record t { sender = s })
with_sender t s f h = record { identity = h.identity; tracker = h.tracker; window = h.window; items = f; requests = h.requests }

pub with_requests : (t : Tcb) (r : Requests) → FitsRequests r → FitsTcb t → FitsTcb (record t { requests = r })
with_requests t r f h = record { identity = h.identity; tracker = h.tracker; window = h.window; items = h.items; requests = f }

pub with_reassembly : (t : Tcb) (r : Reassembly) → r.max_size ≡ t.reassembly.max_size → FitsTcb t → FitsTcb (record t { reassembly = r })
with_reassembly t r e h = record {
  identity = h.identity;
  tracker = h.tracker;
  window = subst (λ (n : ℕ). n < 2 ^ 32) (sym e) h.window;
  items = h.items;
  requests = h.requests;
}

-- ---- what comes

size_unless : (b : Bool) (tsn : ℕ) (f : FragmentTree) (r : Reassembly) → (added_unless b tsn f r).max_size ≡ r.max_size
size_unless true tsn f r = refl
size_unless false tsn f r = size_added tsn f r

pub took_fits : (tsn : ℕ) (is_immediate : Bool) (f : FragmentTree) (t : Tcb) → FitsTcb t → FitsTcb (take_fragment tsn is_immediate f t)
took_fits tsn is_immediate f t h = record {
  identity = h.identity;
  tracker = observe_fits _ is_immediate t.tracker.tracker h.tracker;
  window = subst (λ (n : ℕ). n < 2 ^ 32) (sym (size_unless _ tsn f t.reassembly)) h.window;
  items = h.items;
  requests = h.requests;
}

size_skipped : (b : Bool) (tsn : ℕ) (es : List SkippedStream) (r : Reassembly) → (skipped_if b tsn es r).max_size ≡ r.max_size
size_skipped true tsn es r = size_forwarded tsn es r
size_skipped false tsn es r = refl

pub passed_fits : (tsn : ℕ) (es : List SkippedStream) (t : Tcb) → FitsTcb t → FitsTcb (handle_forward_tsn tsn es t)
passed_fits tsn es t h = record {
  identity = h.identity;
  tracker = forward_fits _ t.tracker.tracker h.tracker;
  window = subst (λ (n : ℕ). n < 2 ^ 32) (sym (size_skipped _ tsn es t.reassembly)) h.window;
  items = h.items;
  requests = h.requests;
}

pub timed_fits : (r : Rtt) (t : Tcb) → FitsTcb t → FitsTcb (timed_by r t)
timed_fits r t h =
    record { identity = h.identity; tracker = rto_fits (rto r) t.tracker.tracker h.tracker; window = h.window; items = h.items; requests = h.requests }

-- ---- requests

pub started_fits : (now span last : ℕ) (streams : List ℕ) (r : Requests) → last < 2 ^ 32 → Each (λ (id : ℕ). id < 2 ^ 16) streams → FitsRequests r
    → FitsRequests (start_request now span last streams r)
started_fits now span last streams r l f h = record {
  next = omega arith;
  current = record { number = h.next; last_tsn = l; streams = f };
  result = h.result;
}

awake_fits : (o : Option Request) → IfSome o FitsRequest → IfSome (option_map without_deferral o) FitsRequest
awake_fits None h = tt
awake_fits (Some r) h = record { number = h.number; last_tsn = h.last_tsn; streams = h.streams }

pub woken_fits : (r : Requests) → FitsRequests r → FitsRequests (clear_deferral r)
woken_fits r h = record { next = h.next; current = awake_fits r.current h.current; result = h.result }

outcome_fits : (b : Bool) (now span : ℕ) (r : Request) (x : Requests) → FitsRequest r → FitsRequests x → FitsRequests (end_or_defer b now span r x)
outcome_fits true now span r x f h = record { next = h.next; current = tt; result = h.result }
outcome_fits false now span r x f h =
    record { next = h.next; current = record { number = f.number; last_tsn = f.last_tsn; streams = f.streams }; result = h.result }

answered_if_fits : (b : Bool) (now span result : ℕ) (r : Request) (x : Requests) → FitsRequest r → FitsRequests x → FitsRequests (response_if b now span result r x)
answered_if_fits true now span result r x f h = outcome_fits (is_final result) now span r x f h
answered_if_fits false now span result r x f h = h

answered_in_fits : (o : Option Request) (now span number result : ℕ) (x : Requests) → IfSome o FitsRequest → FitsRequests x → FitsRequests (handle_response_in o now span number result x)
answered_in_fits None now span number result x f h = h
answered_in_fits (Some r) now span number result x f h = answered_if_fits (r.number == number) now span result r x f h

pub handle_response_fits : (now span number result : ℕ) (x : Requests) → FitsRequests x → FitsRequests (requests.handle_response now span number result x)
handle_response_fits now span number result x h = answered_in_fits x.current now span number result x h.current h

pub set_last_request_fits : (number result : ℕ) (x : Requests) → result ≤ 6 → FitsRequests x → FitsRequests (requests.set_last_request number result x)
set_last_request_fits number result x r h = record { next = h.next; current = h.current; result = r }

pub response_fits : (number result : ℕ) → number < 2 ^ 32 → result ≤ 6 → IsFairParameter (reset_response number result None None)
response_fits number result n r =
    let small : result < 2 ^ 32 = omega (arith, r) in
    record { fits = (n, small, tt, tt); of_its_variant = r }

-- ---- a new control block

pub tcb_fits : (o : Options) (i : Identity) (a_rwnd : ℕ) (k : Capabilities) → OptionsFit o → FitsIdentity i → FitsTcb (tcb o i a_rwnd k)
tcb_fits o i a_rwnd k h f = record {
  identity = f;
  tracker = tracker_fits o;
  window = h.receiver_window;
  items = tt;
  requests = record { next = f.my_first; current = tt; result = omega arith };
}

pub names_fit : (i : InitTree) (tag first tie : ℕ) → i.initiate_tag < 2 ^ 32 → tag < 2 ^ 32 → first < 2 ^ 32 → FitsIdentity (identity_of_init_ack i tag first tie)
names_fit i tag first tie p t f = record { my_tag = t; my_first = f; peer_tag = p }

pub cookie_identity : (k : Cookie) (tie : ℕ) → FitsCookie k → FitsIdentity (identity_of k tie)
cookie_identity k tie h = record { my_tag = h.my_tag; my_first = h.my_first; peer_tag = h.peer_tag }

-- what a handover's record makes of a control block
pub taken_fits : (now : ℕ) (o : Options) (h : HandoverState) → OptionsFit o → FitsRecord h → FitsTcb (tcb_from now o h)
taken_fits now o h k f =
    let t : Tcb = tcb o (identity_from h) h.tx.rwnd (capabilities_from o h.capabilities) in
    let g : FitsTcb t = tcb_fits o (identity_from h) _ _ k (record { my_tag = f.my_tag; my_first = f.my_first; peer_tag = f.peer_tag }) in
    record {
      identity = g.identity;
      tracker = restored_fits h.rx t.tracker g.tracker;
      window = g.window;
      items = sender_restored_fits now h.tx t.sender f.items;
      requests = record { next = f.next_request; current = tt; result = g.requests.result };
    }
