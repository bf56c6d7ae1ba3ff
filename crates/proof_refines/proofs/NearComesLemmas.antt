-- What comes as it was written is a few of the rules, and what comes next is read as it was meant.
use Rattle.std.proofs.Common.{◌≡◌, ℕ, suc, ◌+◌, Bool, true, false, Option, Some, None, List, [], ◌∷◌, map, sym, ap, ◌∙◌, subst}
use Rattle.sctp_serial.specs.Messages as messages
use Rattle.sctp_serial.specs.Unwrapped.{origin, u32_space, wire}
use Rattle.sctp_packet.specs.Chunk.{FragmentTree}
use Rattle.sctp_chunk.specs.declared.forward_tsn.SkippedStream.{SkippedStream}
use Rattle.sctp_rx.specs.DataTracker as tracker
use Rattle.sctp_rx.specs.DataTracker.{Tracker, IsTracker, moves_on, observe}
use Rattle.sctp_rx.specs.ReassemblyQueue.{Reassembly, Deferred, number_of, is_kept_back, point_waits, came, add, forward, forward_now}
use Rattle.proof_protocol.specs.State.{Message, ForwardPoint, Transfer, IsAmong}
use Rattle.proof_protocol.specs.Rules.{TransferEvent, data_comes, late_comes, become_ready, forward_comes, run}
use Rattle.proof_protocol.specs.Lifted.{wire_point, IsOfCurrentEpoch, AreEntriesOfCurrentEpoch}
use Rattle.proof_protocol.specs.Invariant.{Invariant}
use Rattle.proof_refines.specs.View.{was_seen}
use Rattle.proof_refines.specs.Read.{Carries, IsRead, StandForAll, is_behind, shift_after}
use Rattle.proof_protocol.specs.Points.{AreApart}
use Rattle.proof_refines.specs.ReceiverRefinement.{ReceiverRefines, Goes}
use Rattle.proof_refines.specs.Near.{IsWritten, AreEntries, AreFew, ReadsNear, GoesNear, IsInWindow, IsNearNext, AreNearNext}
use Rattle.proof_refines.proofs.FragmentRowLemmas.{first_is, row_held, row_late}
use Rattle.proof_refines.proofs.ForwardRowLemmas.{called_at_once, row_point}
use Rattle.proof_refines.proofs.NearRowLemmas.{kept_yet, fragment_is_read, fragment_keeps, point_is_read, point_below, point_keeps, is_ahead}
use Rattle.proof_refines.proofs.NearNumberLemmas.{entries_are_read}
use Rattle.proof_refines.proofs.NearMidLemmas.{fragment_number, entry_mid}
use Rattle.proof_refines.proofs.NearKeptLemmas.{fragment_keeps_mids, point_keeps_mids}

pub some_none : {n : ℕ} → Some n ≡ None → ⊥
some_none e = cc

module _ (message : ℕ → Message) (is_interleaved : Bool) (base : Bool → ℕ → ℕ) (first shift : ℕ) (x : Transfer) (kept : Invariant message is_interleaved x) (windows : IsInWindow x) (handed : List messages.Message) (t : Tracker) (r : Reassembly)
    (shown : ReceiverRefines message is_interleaved base shift x handed t r) (near : ReadsNear message is_interleaved base first shift x r) where
  -- ---- a fragment

  module _ (k tsn : ℕ) (f : FragmentTree) (tsn_is : tsn ≡ wire u32_space first (origin + k)) (carries : Carries message is_interleaved x.sender k f) (unseen : was_seen t k ≡ false)
      (is_now : IsOfCurrentEpoch base message x.sender k) where
    abbrev later : ℕ
    later = shift_after r.first shift k

    pub is_read : AreFew x.sender → IsWritten message is_interleaved x.sender k f → IsNearNext message x k → IsRead message is_interleaved later x.sender r k tsn f
    is_read few written ordered =
        fragment_is_read message is_interleaved base first shift x kept windows handed t r shown near.tsns k tsn f tsn_is carries unseen few written is_now ordered
        (λ m e. fragment_number message is_interleaved base x kept windows r (near.mids m) k f carries written (kept_yet message is_interleaved base first shift x kept windows handed t r shown near.tsns k tsn f tsn_is carries unseen)
        is_now m shown.mode e)

    module _ (is_tracker : IsTracker t) (at_once : is_kept_back (number_of r tsn) f.stream_id r.deferred ≡ false) where
      pub near_then : IsRead message is_interleaved later x.sender r k tsn f → (now : Bool) (es : List TransferEvent) (waiting : Option Deferred)
          → Goes message is_interleaved base later x es handed waiting (observe (origin + k) now t) (add tsn f r) → ReadsNear message is_interleaved base first later (run message is_interleaved x es) (add tsn f r)
      near_then read now es waiting goes = record {
        tsns = fragment_keeps message is_interleaved base first shift x kept windows handed t r shown near.tsns k tsn f tsn_is carries unseen at_once read es waiting (observe (origin + k) now t) goes;
        mids = λ m. fragment_keeps_mids message is_interleaved base shift x kept windows handed t r shown m (near.mids m) is_tracker k tsn f at_once carries read unseen is_now now es waiting goes;
        start = λ e. absurd (some_none (sym (first_is message is_interleaved base shift x kept handed t r shown is_tracker k tsn f at_once carries read unseen is_now) ∙ e));
      }

      pub held_comes : AreFew x.sender → IsWritten message is_interleaved x.sender k f → IsNearNext message x k → (now : Bool) → is_behind message is_interleaved x.sender x.receiver k ≡ false
          → (ps : List ℕ) × GoesNear message is_interleaved base first later x (data_comes k ∷ map become_ready ps) handed r.deferred (observe (origin + k) now t) (add tsn f r)
      held_comes few written ordered now current =
          let read = is_read few written ordered in
          let l = row_held message is_interleaved base shift x kept handed t r shown is_tracker k tsn f at_once carries read unseen is_now current now in
          (l.0, record { goes = l.1; near = near_then read now (data_comes k ∷ map become_ready l.0) r.deferred l.1 })

      pub late_comes_then : AreFew x.sender → IsWritten message is_interleaved x.sender k f → IsNearNext message x k → (now : Bool) → is_behind message is_interleaved x.sender x.receiver k ≡ true
          → GoesNear message is_interleaved base first later x (late_comes k ∷ []) handed r.deferred (observe (origin + k) now t) (add tsn f r)
      late_comes_then few written ordered now late =
          let read = is_read few written ordered in
          let l = row_late message is_interleaved base shift x kept handed t r shown is_tracker k tsn f at_once carries read unseen is_now late now in
          record { goes = l; near = near_then read now (late_comes k ∷ []) r.deferred l }

    -- where no reset is deferred
    module _ (is_tracker : IsTracker t) (none : r.deferred ≡ None) where
      at_once : is_kept_back (number_of r tsn) f.stream_id r.deferred ≡ false
      at_once = ap (is_kept_back (number_of r tsn) f.stream_id) none

      pub held_near : AreFew x.sender → IsWritten message is_interleaved x.sender k f → IsNearNext message x k → (now : Bool) → is_behind message is_interleaved x.sender x.receiver k ≡ false
          → (ps : List ℕ) × GoesNear message is_interleaved base first later x (data_comes k ∷ map become_ready ps) handed None (observe (origin + k) now t) (add tsn f r)
      held_near few written ordered now current =
          let l = held_comes is_tracker at_once few written ordered now current in
          (l.0, subst (λ (d : Option Deferred). GoesNear message is_interleaved base first later x (data_comes k ∷ map become_ready l.0) handed d (observe (origin + k) now t) (add tsn f r)) none l.1)

      pub late_near : AreFew x.sender → IsWritten message is_interleaved x.sender k f → IsNearNext message x k → (now : Bool) → is_behind message is_interleaved x.sender x.receiver k ≡ true
          → GoesNear message is_interleaved base first later x (late_comes k ∷ []) handed None (observe (origin + k) now t) (add tsn f r)
      late_near few written ordered now late =
          subst (λ (d : Option Deferred). GoesNear message is_interleaved base first later x (late_comes k ∷ []) handed d (observe (origin + k) now t) (add tsn f r)) none
          (late_comes_then is_tracker at_once few written ordered now late)

  -- ---- a forward point

  module _ (is_tracker : IsTracker t) (k tsn : ℕ) (f : ForwardPoint) (sent : IsAmong f x.forward_points) (last : f.upto ≡ suc k) (moves : moves_on (origin + k) t ≡ true)
      (are_now : AreEntriesOfCurrentEpoch base f) where
    pub entries_read : AreFew x.sender → AreApart f.entries → AreNearNext x f → (entries : List SkippedStream) → AreEntries is_interleaved entries f.entries
        → StandForAll is_interleaved r.streams entries (wire_point f).entries
    entries_read few apart ordered entries are =
        let ahead = is_ahead message is_interleaved base shift x kept handed t r shown is_tracker k f last moves in
        entries_are_read message is_interleaved base shift x kept handed t r shown few f sent are_now ordered
        (λ m e a u. entry_mid message is_interleaved base x kept windows r (near.mids m) f sent ahead apart e a u (are_now e a)) entries are

    module _ (tsn_is : tsn ≡ wire u32_space first (origin + k)) (apart : AreApart f.entries) where
      pub read : number_of r tsn + shift_after r.first shift k ≡ origin + k
      read = point_is_read message is_interleaved base first shift x kept windows handed t r shown near.tsns is_tracker k tsn f sent last moves tsn_is

      module _ (entries : List SkippedStream) (call_is : forward tsn entries r ≡ forward_now (number_of r tsn) entries (came tsn r)) where
        pub point_near_then : StandForAll is_interleaved r.streams entries (wire_point f).entries → (es : List TransferEvent) (waiting : Option Deferred)
            → Goes message is_interleaved base (shift_after r.first shift k) x es handed waiting (tracker.forward (origin + k) t) (forward tsn entries r)
            → ReadsNear message is_interleaved base first (shift_after r.first shift k) (run message is_interleaved x es) (forward tsn entries r)
        point_near_then stand es waiting goes = record {
          tsns = point_keeps message is_interleaved base first shift x kept windows handed t r shown near.tsns is_tracker k tsn f sent last moves tsn_is entries call_is es waiting (tracker.forward (origin + k) t) goes;
          mids = λ m. point_keeps_mids message is_interleaved base shift x kept windows handed t r shown m (near.mids m) k tsn entries call_is f sent last stand apart are_now es waiting goes;
          start = λ e. absurd (some_none (sym (ap (λ (z : Reassembly). z.first) call_is) ∙ e));
        }

        pub point_comes : AreFew x.sender → AreNearNext x f → AreEntries is_interleaved entries f.entries
            → (ps : List ℕ) × GoesNear message is_interleaved base first (shift_after r.first shift k) x (forward_comes f ∷ map become_ready ps) handed r.deferred (tracker.forward (origin + k) t) (forward tsn entries r)
        point_comes few ordered are =
            let stand = entries_read few apart ordered entries are in
            let l = row_point message is_interleaved base shift x kept handed t r shown k tsn entries call_is f sent last read stand apart are_now in
            (l.0, record { goes = l.1; near = point_near_then stand (forward_comes f ∷ map become_ready l.0) r.deferred l.1 })

      -- where no reset is deferred
      module _ (none : r.deferred ≡ None) (few : AreFew x.sender) where
        pub called : (entries : List SkippedStream) → forward tsn entries r ≡ forward_now (number_of r tsn) entries (came tsn r)
        called entries =
            called_at_once r tsn k (shift_after r.first shift k) entries read (point_below message is_interleaved x kept few k f sent last) (ap (point_waits (number_of r tsn)) none)

        pub point_near : AreNearNext x f → (entries : List SkippedStream) → AreEntries is_interleaved entries f.entries
            → (ps : List ℕ) × GoesNear message is_interleaved base first (shift_after r.first shift k) x (forward_comes f ∷ map become_ready ps) handed None (tracker.forward (origin + k) t) (forward tsn entries r)
        point_near ordered entries are =
            let l = point_comes entries (called entries) few ordered are in (
              l.0,
              subst (λ (d : Option Deferred). GoesNear message is_interleaved base first (shift_after r.first shift k) x (forward_comes f ∷ map become_ready l.0) handed d (tracker.forward (origin + k) t) (forward tsn entries r)) none
                  l.1,
            )
