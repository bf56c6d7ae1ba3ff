-- What comes while a reset is deferred, and how one is deferred, over the rules with epochs.
use Rattle.std.proofs.Common.{◌≡◌, ℕ, suc, ◌+◌, ◌<◌, ◌≤◌, Bool, true, false, cond, Option, Some, None, List, [], ◌∷◌, map, refl, ap, sym, ◌∙◌, subst, arith}
use Rattle.std.specs.Prelude.{unwrap_or, is_some}
use Rattle.std.specs.List.{list_all}
use Rattle.std.proofs.lemmas.Bool.{and_parts}
use Rattle.sctp_serial.specs.Messages as messages
use Rattle.sctp_serial.specs.Unwrapped.{origin, u32_space, wire}
use Rattle.sctp_serial.specs.declared.api.StreamId.{StreamId}
use Rattle.sctp_packet.specs.Chunk.{FragmentTree}
use Rattle.sctp_chunk.specs.declared.forward_tsn.SkippedStream.{SkippedStream}
use Rattle.sctp_rx.specs.DataTracker as tracker
use Rattle.sctp_rx.specs.DataTracker.{Tracker, IsTracker, moves_on, observe}
use Rattle.sctp_rx.specs.ReassemblyQueue.{Reassembly, Deferred, number_of, is_kept_back, waiting_in, came, add, forward, defer, forward_now}
use Rattle.proof_protocol.specs.State.{Message, ForwardPoint, Transfer, IsAmong, count}
use Rattle.proof_protocol.specs.Rules.{TransferEvent, accept, begin, number, end_with_placeholder, give_up, data_comes, late_comes, become_ready, send_sack, acknowledge_next, send_forward, forward_comes, perform_reset, IsAllowed, Happens, after, run}
use Rattle.proof_protocol.specs.Lifted.{wire_point, IsOfCurrentEpoch, AreEntriesOfCurrentEpoch}
use Rattle.proof_protocol.specs.Points.{AreApart}
use Rattle.proof_protocol.specs.Invariant.{Invariant}
use Rattle.proof_protocol.specs.Resets.{Request, Epochs, transfers, MayReset, MayAll, goes, go_all}
use Rattle.proof_protocol.specs.Based.{InEpochs}
use Rattle.proof_protocol.proofs.EpochLawsLemmas.{unseen_on_wire, entries_are_now}
use Rattle.proof_refines.specs.View.{was_seen}
use Rattle.proof_refines.specs.Read.{Carries, IsRead, StandForAll, is_behind, shift_after}
use Rattle.proof_refines.specs.ReceiverRefinement.{ReceiverRefines}
use Rattle.proof_refines.specs.Near.{IsWritten, AreEntries, AreFew, IsNearLast, ReadsNear, GoesNear, IsInWindow, IsNearNext, AreNearNext}
use Rattle.proof_refines.specs.Resets.{base_now, AreNext, AreNextTo, IsWaitingFor, Comes, named_by}
use Rattle.proof_refines.proofs.FragmentRowLemmas.{first_is}
use Rattle.proof_refines.proofs.ReceivesLemmas.{seen_after}
use Rattle.proof_refines.proofs.NearTsnLemmas.{not_acknowledged, counted_from, tsn_is_read, front, front_unseen, front_below}
use Rattle.proof_refines.proofs.NearNumberLemmas.{greatest}
use Rattle.proof_refines.proofs.NearRowLemmas.{point_below}
use Rattle.proof_refines.proofs.NearComesLemmas.{some_none, is_read, held_comes, late_comes_then, read, entries_read, called, point_comes}
use Rattle.proof_refines.proofs.DeferralLemmas.{fragment_at_once, point_called}

-- ---- the rules go on

abbrev is_arrival : TransferEvent → Bool
is_arrival (data_comes t) = true
is_arrival (late_comes t) = true
is_arrival (become_ready p) = true
is_arrival (forward_comes f) = true
is_arrival e = false

all_ready : (ps : List ℕ) → list_all is_arrival (map become_ready ps) ≡ true
all_ready [] = refl
all_ready (p ∷ ps) = all_ready ps

module _ (message : ℕ → Message) (is_interleaved : Bool) where
  one_arrives : (x : Epochs) (e : TransferEvent) → is_arrival e ≡ true → IsAllowed message is_interleaved x.transfer e
      → MayReset message is_interleaved x (transfers e) × (goes message is_interleaved x (transfers e) ≡ record x { transfer = after message is_interleaved x.transfer e })
  one_arrives x (data_comes t) is may = ((may, tt), refl)
  one_arrives x (late_comes t) is may = ((may, tt), refl)
  one_arrives x (become_ready p) is may = ((may, tt), refl)
  one_arrives x (forward_comes f) is may = ((may, tt), refl)
  one_arrives x accept is may = cc
  one_arrives x (begin p) is may = cc
  one_arrives x (number p bytes more) is may = cc
  one_arrives x (end_with_placeholder p) is may = cc
  one_arrives x (give_up p) is may = cc
  one_arrives x (send_sack c) is may = cc
  one_arrives x (acknowledge_next c) is may = cc
  one_arrives x (send_forward f) is may = cc
  one_arrives x (perform_reset s c) is may = cc

  record Arrived (x : Epochs) (es : List TransferEvent) : Type 0 where
    may : MayAll message is_interleaved x (map transfers es)
    is : go_all message is_interleaved x (map transfers es) ≡ record x { transfer = run message is_interleaved x.transfer es }

  all_arrive : (es : List TransferEvent) (x : Epochs) → list_all is_arrival es ≡ true → Happens message is_interleaved x.transfer es → Arrived x es
  all_arrive [] x all h = record { may = tt; is = refl }
  all_arrive (e ∷ es) x all h =
      let a = and_parts (is_arrival e) (list_all is_arrival es) all in
      let s = one_arrives x e a.0 h.0 in
      let g = all_arrive es (record x { transfer = after message is_interleaved x.transfer e }) a.1 h.1 in
      record {
        may = (s.0, subst (λ (z : Epochs). MayAll message is_interleaved z (map transfers es)) (sym s.1) g.may);
        is = ap (λ (z : Epochs). go_all message is_interleaved z (map transfers es)) s.1 ∙ g.is;
      }

-- ---- what is waited for

next_later : (x : Epochs) (y : Transfer) (upto : ℕ) (rs : List Request) → AreNextTo x upto rs → AreNextTo (record x { transfer = y }) upto rs
next_later x y upto [] h = tt
next_later x y upto (r ∷ rs) h = (record { sent = h.0.sent; epoch = h.0.epoch; last = h.0.last }, h.1, next_later x y upto rs h.2)

-- in a later state, of a queue that counts as before
waits_later : (x : Epochs) (y : Transfer) (shift later : ℕ) (first new : Option ℕ) (d : Option Deferred) → ((w : ℕ) → first ≡ Some w → (later ≡ shift) × (new ≡ Some w))
    → IsWaitingFor shift x first d → IsWaitingFor later (record x { transfer = y }) new d
waits_later x y shift later first new None same h = tt
waits_later x y shift later first new (Some d) same h =
    let s = same h.counts_from h.begun in
    let e = s.0 in
    let last = h.last in
    record {
      request = h.request;
      more = h.more;
      upto = h.upto;
      next = next_later x y h.upto (h.request ∷ h.more) h.next;
      names = h.names;
      last = omega (arith, last, e);
      idle = h.idle;
      counts_from = h.counts_from;
      begun = s.1;
    }

-- once all is seen, it may be performed
pub next_once_seen : (x : Epochs) (upto : ℕ) (rs : List Request) → AreNextTo x upto rs → ((t : ℕ) → t < upto → x.transfer.receiver.seen t ≡ true) → AreNext x rs
next_once_seen x upto [] h seen = tt
next_once_seen x upto (r ∷ rs) h seen =
    let e = h.0.last in
    (record { sent = h.0.sent; epoch = h.0.epoch; all_seen = λ t l. seen t (omega (arith, l, e)) }, h.1, next_once_seen x upto rs h.2 seen)

pub waits_none : (shift : ℕ) (x : Epochs) (r : Reassembly) → r.deferred ≡ None → IsWaitingFor shift x r.first r.deferred
waits_none shift x r e = subst (λ (o : Option Deferred). IsWaitingFor shift x r.first o) (sym e) tt

pub none_waits : (shift : ℕ) (x : Epochs) (first : Option ℕ) (d : Option Deferred) → IsWaitingFor shift x first d → waiting_in d ≡ []
none_waits shift x first None h = refl
none_waits shift x first (Some d) h = h.idle

module _ (message : ℕ → Message) (is_interleaved : Bool) (first shift : ℕ) (x : Epochs) (k : InEpochs message is_interleaved x) (windows : IsInWindow x.transfer) (handed : List messages.Message) (t : Tracker) (r : Reassembly)
    (shown : ReceiverRefines message is_interleaved (base_now x) shift x.transfer handed t r) (near : ReadsNear message is_interleaved (base_now x) first shift x.transfer r) (waiting : IsWaitingFor shift x r.first r.deferred) where
  abbrev transfer_invariant : Invariant message is_interleaved x.transfer
  transfer_invariant = k.order.kept

  comes : (later : ℕ) (es : List TransferEvent) (u : Tracker) (s : Reassembly) → list_all is_arrival es ≡ true → ((w : ℕ) → r.first ≡ Some w → (later ≡ shift) × (s.first ≡ Some w))
      → GoesNear message is_interleaved (base_now x) first later x.transfer es handed r.deferred u s → Comes message is_interleaved first later x es handed u s
  comes later es u s all same n =
      let y = run message is_interleaved x.transfer es in
      let g = all_arrive message is_interleaved es x all n.goes.may in
      let w : IsWaitingFor later (record x { transfer = y }) s.first r.deferred = waits_later x y shift later r.first s.first r.deferred same waiting in
      record {
        may = g.may;
        refines = subst (λ (z : Epochs). ReceiverRefines message is_interleaved (base_now z) later z.transfer handed u s) (sym g.is) n.goes.refines;
        near = subst (λ (z : Epochs). ReadsNear message is_interleaved (base_now z) first later z.transfer s) (sym g.is) n.near;
        waiting = subst (λ (z : Epochs). IsWaitingFor later z s.first s.deferred) (sym g.is)
            (subst (λ (o : Option Deferred). IsWaitingFor later (record x { transfer = y }) s.first o) (sym n.goes.deferred) w);
      }

  -- the queue counts as before
  same_shift : (at w : ℕ) → r.first ≡ Some w → shift_after r.first shift at ≡ shift
  same_shift at w e = ap (λ (o : Option ℕ). shift_after o shift at) e

  -- ---- a fragment

  module _ (is_tracker : IsTracker t) (at tsn : ℕ) (f : FragmentTree) (few : AreFew x.transfer.sender) (tsn_is : tsn ≡ wire u32_space first (origin + at)) (carries : Carries message is_interleaved x.transfer.sender at f)
      (written : IsWritten message is_interleaved x.transfer.sender at f) (unseen : was_seen t at ≡ false) (ordered : IsNearNext message x.transfer at) where
    is_now : IsOfCurrentEpoch (base_now x) message x.transfer.sender at
    is_now = unseen_on_wire message is_interleaved x k at carries.numbered (sym (shown.seen at) ∙ unseen)

    as_read : IsRead message is_interleaved (shift_after r.first shift at) x.transfer.sender r at tsn f
    as_read = is_read message is_interleaved (base_now x) first shift x.transfer transfer_invariant windows handed t r shown near at tsn f tsn_is carries unseen is_now few written ordered

    at_once : is_kept_back (number_of r tsn) f.stream_id r.deferred ≡ false
    at_once = go r.deferred refl waiting
      where
        go : (o : Option Deferred) → r.deferred ≡ o → IsWaitingFor shift x r.first o → is_kept_back (number_of r tsn) f.stream_id r.deferred ≡ false
        go None e w = ap (is_kept_back (number_of r tsn) f.stream_id) e
        go (Some d) e w =
            let here = as_read.tsn_is in
            let same = same_shift at w.counts_from w.begun in
            ap (is_kept_back (number_of r tsn) f.stream_id) e
            ∙ fragment_at_once message is_interleaved x k shift r.first d w (number_of r tsn) at f.stream_id (omega (arith, here, same)) carries.numbered carries.stream

    begun_then : (w : ℕ) → r.first ≡ Some w → (shift_after r.first shift at ≡ shift) × ((add tsn f r).first ≡ Some w)
    begun_then w e = (
      same_shift at w e,
      first_is message is_interleaved (base_now x) shift x.transfer transfer_invariant handed t r shown is_tracker at tsn f at_once carries as_read unseen is_now ∙ ap (λ (o : Option ℕ). Some (unwrap_or o tsn)) e,
    )

    pub held_while : (now : Bool) → is_behind message is_interleaved x.transfer.sender x.transfer.receiver at ≡ false
        → (ps : List ℕ) × Comes message is_interleaved first (shift_after r.first shift at) x (data_comes at ∷ map become_ready ps) handed (observe (origin + at) now t) (add tsn f r)
    held_while now current =
        let l = held_comes message is_interleaved (base_now x) first shift x.transfer transfer_invariant windows handed t r shown near at tsn f tsn_is carries unseen is_now is_tracker at_once few written ordered now current in
        (l.0, comes (shift_after r.first shift at) (data_comes at ∷ map become_ready l.0) (observe (origin + at) now t) (add tsn f r) (all_ready l.0) begun_then l.1)

    pub late_while : (now : Bool) → is_behind message is_interleaved x.transfer.sender x.transfer.receiver at ≡ true
        → Comes message is_interleaved first (shift_after r.first shift at) x (late_comes at ∷ []) handed (observe (origin + at) now t) (add tsn f r)
    late_while now late =
        comes (shift_after r.first shift at) (late_comes at ∷ []) (observe (origin + at) now t) (add tsn f r) refl begun_then
        (late_comes_then message is_interleaved (base_now x) first shift x.transfer transfer_invariant windows handed t r shown near at tsn f tsn_is carries unseen is_now is_tracker at_once few written ordered now late)

  -- ---- a forward point

  module _ (is_tracker : IsTracker t) (at tsn : ℕ) (f : ForwardPoint) (few : AreFew x.transfer.sender) (sent : IsAmong f x.transfer.forward_points) (last : f.upto ≡ suc at) (moves : moves_on (origin + at) t ≡ true)
      (tsn_is : tsn ≡ wire u32_space first (origin + at)) (apart : AreApart f.entries) (ordered : AreNearNext x.transfer f) (xs : List SkippedStream) (are : AreEntries is_interleaved xs f.entries) where
    are_now : AreEntriesOfCurrentEpoch (base_now x) f
    are_now e a =
        let u = front message is_interleaved (base_now x) shift x.transfer transfer_invariant handed t r shown is_tracker in
        let below = front_below message is_interleaved (base_now x) shift x.transfer transfer_invariant handed t r shown is_tracker at moves in
        entries_are_now message is_interleaved x k f u e sent (omega (arith, below, last)) (front_unseen message is_interleaved (base_now x) shift x.transfer transfer_invariant handed t r shown is_tracker) a (greatest f.entries apart e a)

    stand : StandForAll is_interleaved r.streams xs (wire_point f).entries
    stand = entries_read message is_interleaved (base_now x) first shift x.transfer transfer_invariant windows handed t r shown near is_tracker at tsn f sent last moves are_now few apart ordered xs are

    there : number_of r tsn + shift_after r.first shift at ≡ origin + at
    there = read message is_interleaved (base_now x) first shift x.transfer transfer_invariant windows handed t r shown near is_tracker at tsn f sent last moves are_now tsn_is apart

    is_called : forward tsn xs r ≡ forward_now (number_of r tsn) xs (came tsn r)
    is_called = go r.deferred refl waiting
      where
        go : (o : Option Deferred) → r.deferred ≡ o → IsWaitingFor shift x r.first o → forward tsn xs r ≡ forward_now (number_of r tsn) xs (came tsn r)
        go None e w = called message is_interleaved (base_now x) first shift x.transfer transfer_invariant windows handed t r shown near is_tracker at tsn f sent last moves are_now tsn_is apart e few xs
        go (Some d) e w =
            let here = there in
            let same = same_shift at w.counts_from w.begun in
            point_called message is_interleaved x k shift r.first d w r e tsn at xs f (omega (arith, here, same)) (point_below message is_interleaved x.transfer transfer_invariant few at f sent last) last sent stand

    pub point_while : (ps : List ℕ) × Comes message is_interleaved first (shift_after r.first shift at) x (forward_comes f ∷ map become_ready ps) handed (tracker.forward (origin + at) t) (forward tsn xs r)
    point_while =
        let c = is_called in
        let l = point_comes message is_interleaved (base_now x) first shift x.transfer transfer_invariant windows handed t r shown near is_tracker at tsn f sent last moves are_now tsn_is apart xs c few ordered are in
        let begun : (w : ℕ) → r.first ≡ Some w → (shift_after r.first shift at ≡ shift) × ((forward tsn xs r).first ≡ Some w) =
        λ w e. (same_shift at w e, ap (λ (z : Reassembly). z.first) c ∙ ap (λ (o : Option ℕ). Some (unwrap_or o tsn)) e) in
        (l.0, comes (shift_after r.first shift at) (forward_comes f ∷ map become_ready l.0) (tracker.forward (origin + at) t) (forward tsn xs r) (all_ready l.0) begun l.1)

  -- ---- a reset is deferred

  module _ (none : r.deferred ≡ None) (at tsn : ℕ) (q : Request) (rs : List Request) (next : AreNextTo x (suc at) (q ∷ rs)) (within : at < count x.transfer.sender)
      (u : ℕ) (below : u ≤ at) (unseen : was_seen t u ≡ false) (tsn_is : tsn ≡ wire u32_space first (origin + at)) where
    abbrev later : ℕ
    later = shift_after r.first shift at

    abbrev postponed : Reassembly
    postponed = defer tsn (named_by (q ∷ rs)) r

    abbrev waits : Deferred
    waits = record { last = number_of r tsn; streams = named_by (q ∷ rs); waiting = [] }

    kept_yet : x.transfer.acknowledged ≤ at
    kept_yet = let a = not_acknowledged message is_interleaved x.transfer transfer_invariant u (sym (shown.seen u) ∙ unseen) in omega (arith, a, below)

    begins : postponed.first ≡ Some (unwrap_or r.first tsn)
    begins = ap (λ (o : Option Deferred). cond (is_some o) r.first (Some (unwrap_or r.first tsn))) none

    waits_now : postponed.deferred ≡ Some waits
    waits_now = ap (λ (o : Option Deferred). cond (is_some o) o (Some waits)) none

    near_last : (w : ℕ) → postponed.first ≡ Some w → IsNearLast first later x.transfer postponed.near w
    near_last w e = go r.first refl (sym begins ∙ e)
      where
        go : (o : Option ℕ) → r.first ≡ o → Some (unwrap_or o tsn) ≡ Some w → IsNearLast first (shift_after o shift at) x.transfer r.near w
        go None f s =
            let w_is : tsn ≡ w = cc in
            let n = near.start f in
            let few = counted_from message is_interleaved x.transfer transfer_invariant windows at kept_yet within in
            record {
              written = sym w_is ∙ tsn_is;
              last = at;
              upto = count x.transfer.sender;
              near_is = omega (arith, n);
              from = omega arith;
              ahead = within;
              window = few;
              numbered = omega arith;
              seen = λ n h. transfer_invariant.incoming.seen_below n h;
            }
        go (Some v) f s = let v_is : v ≡ w = cc in near.tsns w (f ∙ ap (λ (n : ℕ). Some n) v_is)

    pub deferred_row : Comes message is_interleaved first later x [] handed t postponed
    deferred_row = record {
      may = tt;
      refines = record {
        queue = shown.queue;
        refines = shown.refines;
        seen_as = seen_after is_interleaved shift at handed r shown.queue shown.fresh shown.seen_as;
        seen = shown.seen;
        mode = shown.mode;
        settled = shown.settled;
        fresh = λ e. absurd (some_none (sym begins ∙ e));
      };
      near = record {
        tsns = near_last;
        mids = λ m. record { streams = (near.mids m).streams; points = (near.mids m).points };
        start = λ e. absurd (some_none (sym begins ∙ e));
      };
      waiting = subst (λ (o : Option Deferred). IsWaitingFor later x postponed.first o) (sym waits_now)
          (let here = tsn_is_read message is_interleaved x.transfer transfer_invariant windows first shift r near.tsns at tsn tsn_is kept_yet within in
          record {
            request = q;
            more = rs;
            upto = suc at;
            next = next;
            names = refl;
            last = omega (arith, here);
            idle = refl;
            counts_from = unwrap_or r.first tsn;
            begun = begins;
          });
    }

-- one that is deferred already stays so
pub deferred_again : (tsn : ℕ) (ids : List StreamId) (r : Reassembly) (d : Deferred) → r.deferred ≡ Some d → defer tsn ids r ≡ r
deferred_again tsn ids r d e =
    ap (λ (b : Bool). record r {
      first = cond b r.first (Some (unwrap_or r.first tsn));
      deferred = cond b r.deferred (Some (record { last = number_of r tsn; streams = ids; waiting = [] }));
    }) (ap (λ (o : Option Deferred). is_some o) e)
