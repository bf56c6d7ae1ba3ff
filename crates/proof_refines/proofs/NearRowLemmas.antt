-- What comes is read as it was meant, and so is what comes after it.
use Rattle.std.proofs.Common.{◌≡◌, ℕ, suc, ◌+◌, ◌^◌, ◌<◌, ◌≤◌, Bool, true, false, Option, List, sym, ap, ◌∙◌, subst, arith}
use Rattle.sctp_serial.specs.Messages as messages
use Rattle.sctp_serial.specs.Unwrapped.{origin, u32_space, wire}
use Rattle.sctp_packet.specs.Chunk.{FragmentTree}
use Rattle.sctp_chunk.specs.declared.forward_tsn.SkippedStream.{SkippedStream}
use Rattle.sctp_rx.specs.DataTracker.{Tracker, IsTracker, moves_on}
use Rattle.sctp_rx.specs.ReassemblyQueue.{Reassembly, Deferred, number_of, is_kept_back, came, add, forward, reassembly, forward_now}
use Rattle.proof_protocol.specs.State.{Message, ForwardPoint, Transfer, IsAmong, place_of, count, start}
use Rattle.proof_protocol.specs.Rules.{TransferEvent, IsAllowed, after, run}
use Rattle.proof_protocol.specs.Lifted.{IsOfCurrentEpoch}
use Rattle.proof_protocol.specs.Invariant.{Invariant}
use Rattle.proof_protocol.proofs.StepLemmas.{later}
use Rattle.proof_refines.specs.View.{was_seen}
use Rattle.proof_refines.specs.Read.{Carries, IsRead, number_read, shift_after}
use Rattle.proof_refines.specs.ReceiverRefinement.{ReceiverRefines, Goes}
use Rattle.proof_refines.specs.Near.{IsWritten, AreFew, IsNearQueue, IsInWindow, IsNearNext}
use Rattle.proof_refines.proofs.FragmentLemmas.{added_now}
use Rattle.proof_refines.proofs.NearTsnLemmas.{not_acknowledged, tsn_is_read, near_after, above_front}
use Rattle.proof_refines.proofs.NearNumberLemmas.{number_is_read, number_is_below, index_below}

-- the last fragment that a forward point passes is numbered
point_numbered : (message : ℕ → Message) (is_interleaved : Bool) (x : Transfer) → Invariant message is_interleaved x → (k : ℕ) (f : ForwardPoint) → IsAmong f x.forward_points → f.upto ≡ suc k → k < count x.sender
point_numbered message is_interleaved x kept k f sent last = let w = (kept.forwards_true f sent).within in omega (arith, w, last)

pub point_below : (message : ℕ → Message) (is_interleaved : Bool) (x : Transfer) → Invariant message is_interleaved x → AreFew x.sender → (k : ℕ) (f : ForwardPoint) → IsAmong f x.forward_points → f.upto ≡ suc k → k < 2 ^ 62
point_below message is_interleaved x kept few k f sent last = let a = point_numbered message is_interleaved x kept k f sent last in let b = few.fragments in omega (arith, a, b)

pub is_ahead : (message : ℕ → Message) (is_interleaved : Bool) (base : Bool → ℕ → ℕ) (shift : ℕ) (x : Transfer) (kept : Invariant message is_interleaved x) (handed : List messages.Message) (t : Tracker) (r : Reassembly) (shown : ReceiverRefines message is_interleaved base shift x handed t r) → IsTracker t
    → (k : ℕ) (f : ForwardPoint) → f.upto ≡ suc k → moves_on (origin + k) t ≡ true → x.acknowledged < f.upto
is_ahead message is_interleaved base shift x kept handed t r shown is_tracker k f last moves = let a = above_front message is_interleaved base shift x kept handed t r shown is_tracker k moves in omega (arith, a, last)

module _ (message : ℕ → Message) (is_interleaved : Bool) (base : Bool → ℕ → ℕ) (first shift : ℕ) (x : Transfer) (kept : Invariant message is_interleaved x) (windows : IsInWindow x) (handed : List messages.Message) (t : Tracker) (r : Reassembly)
    (shown : ReceiverRefines message is_interleaved base shift x handed t r)
    (near : IsNearQueue first shift x r) where
  -- ---- a fragment

  module _ (k tsn : ℕ) (f : FragmentTree) (tsn_is : tsn ≡ wire u32_space first (origin + k)) (carries : Carries message is_interleaved x.sender k f) (unseen : was_seen t k ≡ false) where
    pub kept_yet : x.acknowledged ≤ k
    kept_yet = not_acknowledged message is_interleaved x kept k (sym (shown.seen k) ∙ unseen)

    pub fragment_is_read : AreFew x.sender → IsWritten message is_interleaved x.sender k f → IsOfCurrentEpoch base message x.sender k → IsNearNext message x k
        → (is_interleaved ≡ true → f.is_unordered ≡ true → number_read true f r.streams ≡ origin + x.sender.written (place_of x.sender k))
        → IsRead message is_interleaved (shift_after r.first shift k) x.sender r k tsn f
    fragment_is_read few written now ordered unordered = record {
      tsn_is = tsn_is_read message is_interleaved x kept windows first shift r near k tsn tsn_is kept_yet carries.numbered;
      tsn_below = let a = carries.numbered in let b = few.fragments in omega (arith, a, b);
      number_is = number_is_read message is_interleaved base shift x kept handed t r shown k f carries written now ordered unordered;
      number_below = number_is_below message is_interleaved base shift x kept handed t r shown k f carries written now ordered unordered few;
      index_below = index_below message is_interleaved x kept few k carries.numbered;
    }

    pub fragment_keeps : is_kept_back (number_of r tsn) f.stream_id r.deferred ≡ false → IsRead message is_interleaved (shift_after r.first shift k) x.sender r k tsn f → (es : List TransferEvent) (waiting : Option Deferred) (u : Tracker)
        → Goes message is_interleaved base (shift_after r.first shift k) x es handed waiting u (add tsn f r)
        → IsNearQueue first (shift_after r.first shift k) (run message is_interleaved x es) (add tsn f r)
    fragment_keeps at_once read es waiting u goes =
        subst (λ z. IsNearQueue first (shift_after r.first shift k) (run message is_interleaved x es) z) (sym (added_now message is_interleaved (shift_after r.first shift k) x.sender r k tsn f carries read shown.mode at_once))
        (near_after message is_interleaved x kept windows first shift r near k tsn tsn_is kept_yet carries.numbered (run message is_interleaved x es) goes.kept (ap (λ z. z.sender) goes.rest_stays))

  -- ---- a forward point

  module _ (is_tracker : IsTracker t) (k tsn : ℕ) (f : ForwardPoint) (sent : IsAmong f x.forward_points) (last : f.upto ≡ suc k) (moves : moves_on (origin + k) t ≡ true) (tsn_is : tsn ≡ wire u32_space first (origin + k)) where
    unpassed : x.acknowledged ≤ k
    unpassed = above_front message is_interleaved base shift x kept handed t r shown is_tracker k moves

    pub point_is_read : number_of r tsn + shift_after r.first shift k ≡ origin + k
    point_is_read = tsn_is_read message is_interleaved x kept windows first shift r near k tsn tsn_is unpassed (point_numbered message is_interleaved x kept k f sent last)

    pub point_keeps : (entries : List SkippedStream) → forward tsn entries r ≡ forward_now (number_of r tsn) entries (came tsn r)
        → (es : List TransferEvent) (waiting : Option Deferred) (u : Tracker) → Goes message is_interleaved base (shift_after r.first shift k) x es handed waiting u (forward tsn entries r)
        → IsNearQueue first (shift_after r.first shift k) (run message is_interleaved x es) (forward tsn entries r)
    point_keeps entries call_is es waiting u goes =
        subst (λ z. IsNearQueue first (shift_after r.first shift k) (run message is_interleaved x es) z)
        (sym call_is)
        (near_after message is_interleaved x kept windows first shift r near k tsn tsn_is unpassed (point_numbered message is_interleaved x kept k f sent last) (run message is_interleaved x es) goes.kept (ap (λ z. z.sender) goes.rest_stays))

-- ---- the rest

pub new_is_near : (is_interleaved : Bool) (first shift max_size max_fragments : ℕ) → IsNearQueue first shift start (record (reassembly max_size is_interleaved) { max_fragments = max_fragments })
new_is_near is_interleaved first shift max_size max_fragments w e = cc

pub sender_keeps : (message : ℕ → Message) (is_interleaved : Bool) (first shift : ℕ) (x : Transfer) (e : TransferEvent) (r : Reassembly) → Invariant message is_interleaved x → IsAllowed message is_interleaved x e → (after message is_interleaved x e).receiver ≡ x.receiver
    → IsNearQueue first shift x r → IsNearQueue first shift (after message is_interleaved x e) r
sender_keeps message is_interleaved first shift x e r kept may same near w h =
    let q = near w h in
    let c = (later message is_interleaved x kept e may).count_grows in
    let n = q.numbered in
    record {
      written = q.written;
      last = q.last;
      upto = q.upto;
      near_is = q.near_is;
      from = q.from;
      ahead = q.ahead;
      window = q.window;
      numbered = omega (arith, n, c);
      seen = λ k s. q.seen k (sym (ap (λ z. z.seen k) same) ∙ s);
    }
