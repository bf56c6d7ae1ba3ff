-- What an end keeps between actions is within the rules' windows.
use Rattle.std.proofs.Common.{◌≡◌, ℕ, suc, ◌+◌, ◌^◌, ◌<◌, ◌≤◌, Bool, true, false, not, Option, inl, inr, List, [], ◌∷◌, All, refl, sym, ap, ◌∙◌, subst, arith}
use Rattle.std.proofs.lemmas.List.Elements.{All-head, All-tail}
use Rattle.std.proofs.lemmas.Bool.{cases_lt}
use Rattle.sctp_serial.specs.Unwrapped.{origin, u32_space, wire}
use Rattle.sctp_packet.specs.Chunk.{FragmentTree}
use Rattle.sctp_tx_queue.specs.SendQueue.{Queue, stream}
use Rattle.sctp_tx_outstanding.specs.Item.{Item}
use Rattle.sctp_tx_outstanding.specs.OutstandingData.{Items}
use Rattle.spec_endpoint.specs.Association.{Tcb, State, Closed, CookieWait, Open}
use Rattle.proof_protocol.specs.State.{Message, Transfer, fragment, place_of, count, ordered_of, stream_of}
use Rattle.proof_protocol.specs.Based.{EpochWindows}
use Rattle.proof_refines.specs.Near.{AreFew}
use Rattle.proof_refines.proofs.NearNumberLemmas.{number_le_place}
use Rattle.proof_refines.specs.SenderRefinement.{StandsFor, AreKept, SenderRefines}
use Rattle.proof_refines.proofs.ItemsLemmas.{kept_count}
use Rattle.proof_refines.proofs.BreakLemmas.{next_counted}
use Rattle.proof_delivery.specs.Windows.{numbered_count, left_count, IsNearNext, KeepsWithin, IsWithin}
use Rattle.proof_delivery.proofs.ClaimLemmas.{Direction, transfer_of, IsKept, IsWaiting, IsSending, SendsIn}

-- ---- what was numbered

module _ (message : ℕ → Message) (lifecycle : ℕ → Option ℕ) (is_interleaved : Bool) where
  pub none_numbered : (x : Direction) (q : Queue) → IsWaiting message lifecycle is_interleaved q x → count (transfer_of x).sender ≡ 0
  none_numbered x q w = ap count w.sender

  -- how many fragments the end has numbered
  pub numbered_is : (s : State) (q : Queue) (x : Direction) → SendsIn message lifecycle is_interleaved s q x → numbered_count s ≡ count (transfer_of x).sender
  numbered_is Closed q x h = sym (none_numbered x q h)
  numbered_is (CookieWait tag first t1) q x h = sym (none_numbered x q h)
  numbered_is (Open phase t) q x h = let e = next_counted message lifecycle is_interleaved (transfer_of x) q t.sender.outstanding.items h.refines in omega (arith, e)

  -- and how many it keeps no more
  pub left_is : (s : State) (q : Queue) (x : Direction) → SendsIn message lifecycle is_interleaved s q x → left_count s ≡ (transfer_of x).acknowledged
  left_is Closed q x h = sym h.acknowledged
  left_is (CookieWait tag first t1) q x h = sym h.acknowledged
  left_is (Open phase t) q x h = let e = h.refines.items.point in omega (arith, e)

-- ---- the windows

-- a number below 2^32 is written as it is
wire_small : (n : ℕ) → n < 2 ^ 32 → wire u32_space 0 (origin + n) ≡ n
wire_small n l = omega (arith, l)

near_by : (next written mid : ℕ) (c : ℕ) → next ≡ origin + c → mid ≡ wire u32_space 0 (origin + written) → written < 2 ^ 32 → next < origin + mid + 32000 → c < written + 32000
near_by next written mid c e f l h = let w = f ∙ wire_small written l in omega (arith, e, w, h)

module _ (message : ℕ → Message) (lifecycle : ℕ → Option ℕ) (is_interleaved : Bool) (x : Direction) (q : Queue) (kept : IsKept message is_interleaved x) where
  abbrev now : Transfer
  now = transfer_of x

  -- on the wire numbers are no greater than those of the rules
  written_small : now.sender.accepted < 2 ^ 32 → (p : ℕ) → now.sender.begun p ≡ true → now.sender.written p < 2 ^ 32
  written_small few p b =
      let w = kept.epochs.based.written p b in
      let l = number_le_place message now.sender kept.epochs.order.kept.outgoing (now.sender.number p) p b refl in
      let a = kept.epochs.order.kept.outgoing.begun_below p b in
      omega (arith, few, w, l, a)

  -- numbers of one epoch are as far from each other on the wire
  same_distance : (p : ℕ) → now.sender.begun p ≡ true → ordered_of message p ≡ true → x.rules.epoch p ≡ x.rules.opened (stream_of message p)
      → now.sender.following true (stream_of message p) < now.sender.written p + 32000 → now.sender.counts true (stream_of message p) < now.sender.number p + 32000
  same_distance p b o e l =
      let w = kept.epochs.based.written p b in
      let f = kept.epochs.based.following (stream_of message p) true in
      let one = ap (λ (n : ℕ). x.rules.base (stream_of message p) n (ordered_of message p)) e in
      let base : x.rules.base (stream_of message p) (x.rules.epoch p) (ordered_of message p) ≡ x.rules.base (stream_of message p) (x.rules.opened (stream_of message p)) true =
      one ∙ ap (λ (b : Bool). x.rules.base (stream_of message p) (x.rules.opened (stream_of message p)) b) o in
      omega (arith, w, f, base, l)

  -- of the items from t on
  item_near : (s : Items) → SenderRefines message lifecycle is_interleaved now q s → (t : ℕ) (is : List Item) → AreKept message lifecycle now.sender t is → All (IsNearNext q) is
      → (u : ℕ) → t ≤ u → u < count now.sender → ordered_of message (place_of now.sender u) ≡ true
      → x.rules.epoch (place_of now.sender u) ≡ x.rules.opened (stream_of message (place_of now.sender u))
      → now.sender.counts true (stream_of message (place_of now.sender u)) < now.sender.number (place_of now.sender u) + 32000
  item_near s h t [] a n u l below o in_it = absurd (omega (arith, a, l, below))
  item_near s h t (i ∷ is) a n u l below o in_it =
      elim (cases_lt t u) [
        | inl later ↦ item_near s h (suc t) is a.1 (All-tail (IsNearNext q) i is n) u later below o in_it
        | inr here ↦
            let e : t ≡ u = omega (arith, l, here) in
            let f : StandsFor message lifecycle now.sender (fragment now.sender u) i = subst (λ z. StandsFor message lifecycle now.sender (fragment now.sender z) i) e a.0 in
            let p : ℕ = place_of now.sender u in
            let on : i.fragment.stream_id ≡ stream_of message p = ap (λ (z : FragmentTree). z.stream_id) f.carried in
            let kind : i.fragment.is_unordered ≡ false = ap (λ (z : FragmentTree). z.is_unordered) f.carried ∙ ap not o in
            let mid : i.fragment.mid ≡ wire u32_space 0 (origin + now.sender.written p) = ap (λ (z : FragmentTree). z.mid) f.carried in
            let next : (stream i.fragment.stream_id q.streams).next_ordered_mid ≡ origin + now.sender.following true (stream_of message p) =
            ap (λ z. (stream z q.streams).next_ordered_mid) on ∙ (h.queue.next (stream_of message p)).ordered_mid in
            let begun = kept.epochs.order.kept.outgoing.place_begun u below in
            same_distance p begun o in_it
            (near_by (stream i.fragment.stream_id q.streams).next_ordered_mid (now.sender.written p) i.fragment.mid (now.sender.following true (stream_of message p)) next mid
            (written_small h.queue.few p begun) (All-head (IsNearNext q) i is n kind))
      ]

  pub record Holds : Type 0 where
    pub windows : EpochWindows message x.rules
    pub few : AreFew now.sender

  open_holds : (t : Tcb) → IsSending message lifecycle is_interleaved t q x → KeepsWithin q t → Holds
  open_holds t h w =
      let s : Items = t.sender.outstanding.items in
      let c = kept_count message lifecycle now.sender now.acknowledged s.kept h.refines.items.kept in
      let n = next_counted message lifecycle is_interleaved now q s h.refines in
      let i = w.items in
      let f = w.fragments in
      let m = h.refines.queue.few in
      record {
        windows = record {
          items = λ l. omega (arith, c, i);
          messages = item_near s h.refines now.acknowledged s.kept h.refines.items.kept w.messages;
        };
        few = record { fragments = omega (arith, n, f); messages = omega (arith, m) };
      }

  waiting_holds : IsWaiting message lifecycle is_interleaved q x → Holds
  waiting_holds w =
      let c = none_numbered message lifecycle is_interleaved x q w in
      let m = w.refines.queue.few in
      record {
        windows = record {
          items = λ l. omega (arith, c, l);
          messages = λ t a l o in_it. absurd (omega (arith, c, l));
        };
        few = record { fragments = omega (arith, c); messages = omega (arith, m) };
      }

  pub within : (s : State) → SendsIn message lifecycle is_interleaved s q x → IsWithin s q → Holds
  within Closed h w = waiting_holds h
  within (CookieWait tag first t1) h w = waiting_holds h
  within (Open phase t) h w = open_holds t h w
