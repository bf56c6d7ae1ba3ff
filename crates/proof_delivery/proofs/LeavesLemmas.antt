-- What one rule of a sender, or acceptance, leaves of the receiver beside it.
use Rattle.std.proofs.Common.{◌≡◌, ℕ, Bool, inl, inr, List, refl, sym, ap, subst}
use Rattle.sctp_serial.specs.Messages as messages
use Rattle.sctp_rx.specs.DataTracker.{Tracker}
use Rattle.sctp_rx.specs.ReassemblyQueue.{Reassembly}
use Rattle.proof_protocol.specs.State.{Message, Transfer, IsAmong}
use Rattle.proof_protocol.specs.Rules.{TransferEvent, IsAllowed, after}
use Rattle.proof_protocol.specs.Invariant.{Invariant}
use Rattle.proof_protocol.specs.Lifted.{lift}
use Rattle.proof_protocol.specs.Resets.{Request, Epochs, transfers, commit, goes}
use Rattle.proof_protocol.proofs.WireResetLemmas.{still_shown}
use Rattle.proof_refines.specs.ReceiverRefinement.{ReceiverRefines}
use Rattle.proof_refines.specs.Near.{IsOn, ReadsNear}
use Rattle.proof_refines.specs.Resets.{base_now}
use Rattle.proof_refines.proofs.RowLemmas.{sender_goes}
use Rattle.proof_refines.proofs.NearRowLemmas.{sender_keeps}
use Rattle.proof_refines.proofs.NearKeptLemmas.{sender_keeps_mids}

module _ (message : ℕ → Message) (is_interleaved : Bool) where
  pub record Leaves (x y : Epochs) : Type 0 where
    pub performed : y.performed ≡ x.performed
    pub sacks : y.transfer.sacks ≡ x.transfer.sacks
    pub requests : (r : Request) → IsAmong r x.requests → IsAmong r y.requests
    pub refines : (shift : ℕ) (handed : List messages.Message) (t : Tracker) (r : Reassembly)
        → ReceiverRefines message is_interleaved (base_now x) shift x.transfer handed t r → ReceiverRefines message is_interleaved (base_now y) shift y.transfer handed t r
    pub near : (first shift : ℕ) (r : Reassembly) → ReadsNear message is_interleaved (base_now x) first shift x.transfer r → ReadsNear message is_interleaved (base_now y) first shift y.transfer r

  pub by_transfer : (x : Epochs) (e : TransferEvent) → Invariant message is_interleaved x.transfer → IsAllowed message is_interleaved x.transfer e → (after message is_interleaved x.transfer e).receiver ≡ x.transfer.receiver
      → (after message is_interleaved x.transfer e).sacks ≡ x.transfer.sacks → Leaves x (goes message is_interleaved x (transfers e))
  by_transfer x e k may same sacks = record {
    performed = refl;
    sacks = sacks;
    requests = λ r a. a;
    refines = λ shift handed t r h. sender_goes message is_interleaved shift (base_now x) x.transfer handed t r h e k may same;
    near = λ first shift r h. record {
      tsns = sender_keeps message is_interleaved first shift x.transfer e r k may same h.tsns;
      mids = λ m. sender_keeps_mids message is_interleaved x.transfer k m e may same (base_now x) r (h.mids m);
      start = h.start;
    };
  }

  -- numbers on the wire that begin again are the sender's
  pub by_commit : (x : Epochs) (s : ℕ) → Leaves x (goes message is_interleaved x (commit s))
  by_commit x s = record {
    performed = refl;
    sacks = refl;
    requests = λ r a. a;
    refines = λ shift handed t r h. record {
      queue = h.queue;
      refines = still_shown message is_interleaved x.transfer (lift (base_now x) is_interleaved h.queue) s h.refines;
      seen_as = h.seen_as;
      seen = h.seen;
      mode = h.mode;
      settled = h.settled;
      fresh = h.fresh;
    };
    near = λ first shift r h. record {
      tsns = λ w e.
          let n = h.tsns w e in
          record {
            written = n.written;
            last = n.last;
            upto = n.upto;
            near_is = n.near_is;
            from = n.from;
            ahead = n.ahead;
            window = n.window;
            numbered = n.numbered;
            seen = n.seen;
          };
      mids = λ m.
          let n = h.mids m in
          record {
            streams = λ a.
                let z = n.streams a in
                record {
                  number = z.number;
                  near_is = z.near_is;
                  met = elim z.met [ inl none ↦ inl none | inr o ↦ inr (o.0, record { on = on_still x s a o.0 o.1.on; number = o.1.number }) ];
                  seen = λ t saw on. z.seen t saw (on_before x s a t on);
                };
            points = λ f among.
                let z = n.points f among in
                record {
                  unseen = λ a t on below. z.unseen a t (on_before x s a t on) below;
                  last = λ a k c.
                      let l = z.last a k c in
                      (l.0, on_still x s a l.0 l.1, l.2, λ u on below. l.3 u (on_before x s a u on) below, l.4, l.5);
                };
          };
      start = h.start;
    };
  }
    where
      on_still : (x : Epochs) (s a t : ℕ) → IsOn message x.transfer.sender a t → IsOn message (goes message is_interleaved x (commit s)).transfer.sender a t
      on_still x s a t on = record { numbered = on.numbered; unordered = on.unordered; stream = on.stream }

      on_before : (x : Epochs) (s a t : ℕ) → IsOn message (goes message is_interleaved x (commit s)).transfer.sender a t → IsOn message x.transfer.sender a t
      on_before x s a t on = record { numbered = on.numbered; unordered = on.unordered; stream = on.stream }

  -- of requests and of streams that wait it doesn't know
  pub by_request : (x y : Epochs) → y.transfer ≡ x.transfer → y.performed ≡ x.performed → y.base ≡ x.base → ((r : Request) → IsAmong r x.requests → IsAmong r y.requests) → Leaves x y
  by_request x y transfer performed base requests = record {
    performed = performed;
    sacks = ap (λ (z : Transfer). z.sacks) transfer;
    requests = requests;
    refines = λ shift handed t r h.
        subst (λ (f : ℕ → ℕ). ReceiverRefines message is_interleaved (λ kind s. y.base s (f s) kind) shift y.transfer handed t r) (sym performed)
        (subst (λ (b : ℕ → ℕ → Bool → ℕ). ReceiverRefines message is_interleaved (λ kind s. b s (x.performed s) kind) shift y.transfer handed t r) (sym base)
        (subst (λ (z : Transfer). ReceiverRefines message is_interleaved (base_now x) shift z handed t r) (sym transfer) h));
    near = λ first shift r h.
        subst (λ (f : ℕ → ℕ). ReadsNear message is_interleaved (λ kind s. y.base s (f s) kind) first shift y.transfer r) (sym performed)
        (subst (λ (b : ℕ → ℕ → Bool → ℕ). ReadsNear message is_interleaved (λ kind s. b s (x.performed s) kind) first shift y.transfer r) (sym base)
        (subst (λ (z : Transfer). ReadsNear message is_interleaved (base_now x) first shift z r) (sym transfer) h));
  }
