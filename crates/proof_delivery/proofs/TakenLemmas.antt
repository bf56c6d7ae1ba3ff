-- A message that is handed out leaves the sender's part as it is, and moves the receiver's.
use Rattle.std.proofs.Common.{◌≡◌, ℕ, Bool, true, false, Option, List, [], ◌++◌, take, drop, refl, sym, ap, subst, ◌∙◌, append-nil, append_assoc}
use Rattle.std.proofs.lemmas.List.{take-append-drop}
use Rattle.sctp_serial.specs.Messages as messages
use Rattle.sctp_tx_queue.specs.SendQueue.{Queue}
use Rattle.sctp_state.specs.Options.{Options}
use Rattle.sctp_rx.specs.DataTracker.{Tracker, force_ack}
use Rattle.sctp_rx.specs.ReassemblyQueue.{Reassembly}
use Rattle.proof_protocol.specs.State.{Message, Transfer}
use Rattle.proof_refines.specs.View.{view_with, IsSeenAs}
use Rattle.proof_refines.specs.ReceiverRefinement.{ReceiverRefines}
use Rattle.proof_refines.specs.Near.{ReadsNear}
use Rattle.proof_refines.specs.Resets.{base_now}
use Rattle.spec_endpoint.specs.Association.{Tcb, Phase, State, Closed, CookieWait, Open}
use Rattle.spec_endpoint.specs.Calls.{ready_in, without_first_message, opens_window, told_if, message_taken_in}
use Rattle.proof_delivery.proofs.TrackerStaysLemmas.{tracker_forced}
use Rattle.proof_delivery.proofs.ReceiverStepLemmas.{acknowledging_changes}
use Rattle.proof_delivery.proofs.ClaimLemmas.{Direction, transfer_of, SendsIn, IsFresh, ReceivesIn}

-- ---- the sender's part

-- whether an acknowledgement is due afterwards or not
module _ (message : ℕ → Message) (lifecycle : ℕ → Option ℕ) (is_interleaved : Bool) where
  sends_told : (b : Bool) (phase : Phase) (t : Tcb) (q : Queue) (x : Direction) → SendsIn message lifecycle is_interleaved (Open phase t) q x
      → SendsIn message lifecycle is_interleaved (Open phase (told_if b (without_first_message t))) q x
  sends_told true phase t q x h = record { refines = h.refines; follows = h.follows; first = h.first; room = h.room; asks = h.asks }
  sends_told false phase t q x h = record { refines = h.refines; follows = h.follows; first = h.first; room = h.room; asks = h.asks }

  pub sends_taken : (o : Options) (s : State) (q : Queue) (x : Direction) → SendsIn message lifecycle is_interleaved s q x
      → SendsIn message lifecycle is_interleaved (message_taken_in o s) q x
  sends_taken o Closed q x h = h
  sends_taken o (CookieWait tag first t1) q x h = h
  sends_taken o (Open phase t) q x h = sends_told (opens_window o t.reassembly (without_first_message t).reassembly) phase t q x h

-- ---- the receiver's part

abbrev without_first : Reassembly → Reassembly
without_first r = record r { ready = drop 1 r.ready }

module _ (message : ℕ → Message) (is_interleaved : Bool) (base : Bool → ℕ → ℕ) (x : Transfer) where
  receives_taken : (shift : ℕ) (handed : List messages.Message) (t : Tracker) (r : Reassembly) → ReceiverRefines message is_interleaved base shift x handed t r
      → ReceiverRefines message is_interleaved base shift x (handed ++ take 1 r.ready) t (without_first r)
  receives_taken shift handed t r h =
      let all : handed ++ r.ready ≡ (handed ++ take 1 r.ready) ++ drop 1 r.ready =
      ap (λ (ms : List messages.Message). handed ++ ms) (sym (take-append-drop 1 r.ready)) ∙ sym (append_assoc handed (take 1 r.ready) (drop 1 r.ready)) in
      record {
        queue = h.queue;
        refines = h.refines;
        seen_as = subst (λ (ms : List messages.Message). IsSeenAs is_interleaved shift (view_with r.streams ms) h.queue) all h.seen_as;
        seen = h.seen;
        mode = h.mode;
        settled = h.settled;
        fresh = h.fresh;
      }

  near_taken : (first shift : ℕ) (r : Reassembly) → ReadsNear message is_interleaved base first shift x r → ReadsNear message is_interleaved base first shift x (without_first r)
  near_taken first shift r h = record {
    tsns = h.tsns;
    mids = λ m. record { streams = (h.mids m).streams; points = (h.mids m).points };
    start = h.start;
  }

-- the control block, or none
module _ (message : ℕ → Message) (is_interleaved : Bool) (x : Direction) where
  fresh_taken : (handed : List messages.Message) → IsFresh message is_interleaved handed x → IsFresh message is_interleaved (handed ++ []) x
  fresh_taken handed h = subst (λ (ms : List messages.Message). IsFresh message is_interleaved ms x) (sym (append-nil handed)) h

  receives_told : (b : Bool) (phase : Phase) (t : Tcb) (handed : List messages.Message) → ReceivesIn message is_interleaved (Open phase t) handed x
      → ReceivesIn message is_interleaved (Open phase (told_if b t)) handed x
  receives_told true phase t handed h =
      acknowledging_changes message is_interleaved handed t (force_ack t.tracker.tracker) x refl (tracker_forced t.tracker.tracker h.is_tracker) h
  receives_told false phase t handed h = h

  receives_without : (phase : Phase) (t : Tcb) (handed : List messages.Message) → ReceivesIn message is_interleaved (Open phase t) handed x
      → ReceivesIn message is_interleaved (Open phase (without_first_message t)) (handed ++ take 1 t.reassembly.ready) x
  receives_without phase t handed h = record {
    shift = h.shift;
    refines = receives_taken message is_interleaved (base_now x.rules) (transfer_of x) h.shift handed t.tracker.tracker t.reassembly h.refines;
    near = near_taken message is_interleaved (base_now x.rules) (transfer_of x) t.tracker.first h.shift t.reassembly h.near;
    is_tracker = h.is_tracker;
    waiting = h.waiting;
    first = h.first;
    answers = h.answers;
  }

  pub receives_in_taken : (o : Options) (s : State) (handed : List messages.Message) → ReceivesIn message is_interleaved s handed x
      → ReceivesIn message is_interleaved (message_taken_in o s) (handed ++ take 1 (ready_in s)) x
  receives_in_taken o Closed handed h = fresh_taken handed h
  receives_in_taken o (CookieWait tag first t1) handed h = fresh_taken handed h
  receives_in_taken o (Open phase t) handed h =
      let u : Tcb = without_first_message t in
      receives_told (opens_window o t.reassembly u.reassembly) phase u (handed ++ take 1 t.reassembly.ready) (receives_without phase t handed h)
