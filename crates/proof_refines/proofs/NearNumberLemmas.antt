-- SSNs and MIDs of ordered messages are near their stream's next one, and none is out of bounds.
use Rattle.std.proofs.Common.{◌≡◌, ℕ, zero, suc, ◌+◌, ◌^◌, ◌<◌, ◌≤◌, Bool, true, false, cond, inl, inr, List, [], ◌∷◌, length, map, refl, sym, ap, ◌∙◌, subst, arith, eqb, leb}
use Rattle.std.specs.Prelude.{◌||◌, ◌&&◌}
use Rattle.std.proofs.lemmas.Bool.{cond-true, cond-false, or_cases, or_left, or_right, and_parts, leb-true, eqb-true}
use Rattle.sctp_serial.specs.Messages as messages
use Rattle.sctp_serial.specs.Unwrapped.{origin, u32_space, halves, wire, nearest}
use Rattle.sctp_serial.specs.declared.types.StreamKey.TheVariants.{Ordered, Unordered}
use Rattle.sctp_packet.specs.Chunk.{FragmentTree}
use Rattle.sctp_chunk.specs.declared.forward_tsn.SkippedStream.{SkippedStream}
use Rattle.sctp_chunk.specs.declared.forward_tsn.SkippedStream.TheVariants.{ForwardTsn, IForwardTsn}
use Rattle.sctp_rx.specs.ReassemblyStreams.{ordered_number, unordered_number}
use Rattle.sctp_rx.specs.DataTracker.{Tracker}
use Rattle.sctp_rx.specs.ReassemblyQueue.{Reassembly}
use Rattle.proof_protocol.specs.State.{Message, Fragment, Entry, ForwardPoint, Sender, Transfer, IsAmong, fragment, place_of, count, parts, ordered_of, stream_of}
use Rattle.proof_protocol.specs.Rules.{same, covers}
use Rattle.proof_protocol.specs.Invariant.{Invariant, Outgoing}
use Rattle.proof_protocol.specs.Lifted.{as_written, wire_chunk, wire_point, IsOfCurrentEpoch, AreEntriesOfCurrentEpoch}
use Rattle.proof_protocol.proofs.ToolsLemmas.{same_is, among_covers}
use Rattle.proof_protocol.proofs.DeliverLemmas.{lower_place}
use Rattle.proof_protocol.proofs.WindowsLemmas.{words_read, halves_read}
use Rattle.proof_refines.specs.View.{ordered_at, unordered_at}
use Rattle.proof_refines.specs.Read.{Carries, StandsFor, StandForAll, number_read}
use Rattle.proof_protocol.specs.Points.{AreApart}
use Rattle.proof_refines.specs.ReceiverRefinement.{ReceiverRefines}
use Rattle.proof_refines.specs.Near.{IsWritten, IsEntry, AreEntries, AreFew, IsNearNext, AreNearNext}
use Rattle.proof_refines.proofs.HeldKeyLemmas.{ordered_is}

-- ---- bounds

-- a message has at least as many before it as its number says
pub number_le_place : (message : ℕ → Message) (o : Sender) → Outgoing message o → (n p : ℕ) → o.begun p ≡ true → o.number p ≡ n → n ≤ p
number_le_place message o out zero p b e = omega arith
number_le_place message o out (suc n) p b e =
    let c = out.counted p b in
    let d = out.dense (ordered_of message p) (stream_of message p) n (omega (arith, c, e)) in
    let nq = d.4 in
    let l = lower_place message o out d.0 p d.1 b d.2 d.3 (omega (arith, nq, e)) in
    let ih = number_le_place message o out n d.0 d.1 d.4 in
    omega (arith, l, ih)

pub number_below : (message : ℕ → Message) (o : Sender) → Outgoing message o → AreFew o → (p : ℕ) → o.begun p ≡ true → o.number p < 2 ^ 62
number_below message o out few p b =
    let l = number_le_place message o out (o.number p) p b refl in
    let a = out.begun_below p b in
    let c = few.messages in
    omega (arith, l, a, c)

parts_le : (p : ℕ) (fs : List Fragment) → parts p fs ≤ length fs
parts_le p [] = omega arith
parts_le p (f ∷ fs) =
    let ih = parts_le p fs in
    elim (eqb f.place p) as (λ b. cond b (suc (parts p fs)) (parts p fs) ≤ suc (length fs)) [ true ↦ omega (arith, ih) | false ↦ omega (arith, ih) ]

pub index_below : (message : ℕ → Message) (is_interleaved : Bool) (x : Transfer) → Invariant message is_interleaved x → AreFew x.sender → (k : ℕ) → k < count x.sender → (fragment x.sender k).index < 2 ^ 62
index_below message is_interleaved x kept few k h =
    let a = kept.indexed.index_below k h in
    let b = parts_le (place_of x.sender k) x.sender.numbered in
    let c = few.fragments in
    omega (arith, a, b, c)

-- ---- among entries

-- some entry names it
covered_by : (kind : Bool) (s m : ℕ) (es : List Entry) → covers es kind s m ≡ true → (c : Entry) × IsAmong c es × (c.ordered ≡ kind) × (c.stream ≡ s) × (m ≤ c.number)
covered_by kind s m [] h = cc
covered_by kind s m (d ∷ es) h =
    elim (or_cases (same d.ordered kind && (eqb d.stream s && leb m d.number)) (covers es kind s m) h) [
      | inl a ↦
          let p = and_parts (same d.ordered kind) (eqb d.stream s && leb m d.number) a in
          let q = and_parts (eqb d.stream s) (leb m d.number) p.1 in
          (d, inl refl, same_is d.ordered kind p.0, eqb-true d.stream s q.0, leb-true m d.number q.1)
      | inr a ↦ let c = covered_by kind s m es a in (c.0, inr c.1, c.2, c.3, c.4)
    ]

-- of one stream and kind there is one entry
only_one : (es : List Entry) → AreApart es → (c e : Entry) → IsAmong c es → IsAmong e es → c.ordered ≡ e.ordered → c.stream ≡ e.stream → c ≡ e
only_one [] apart c e a b k s = absurd a
only_one (d ∷ es) apart c e (inl a) (inl b) k s = a ∙ sym b
only_one (d ∷ es) apart c e (inl a) (inr b) k s = absurd (apart.0 e b (ap (λ z. z.ordered) (sym a) ∙ k) (ap (λ z. z.stream) (sym a) ∙ s))
only_one (d ∷ es) apart c e (inr a) (inl b) k s = absurd (apart.0 c a (ap (λ z. z.ordered) (sym b) ∙ sym k) (ap (λ z. z.stream) (sym b) ∙ sym s))
only_one (d ∷ es) apart c e (inr a) (inr b) k s = only_one es apart.1 c e a b k s

pub greatest : (es : List Entry) → AreApart es → (e : Entry) → IsAmong e es → (m : ℕ) → covers es e.ordered e.stream m ≡ true → m ≤ e.number
greatest es apart e a m h =
    let c = covered_by e.ordered e.stream m es h in
    let same_one = only_one es apart c.0 e c.1 a c.2 c.3 in
    let l = c.4 in
    let n = ap (λ z. z.number) same_one in
    omega (arith, l, n)

module _ (message : ℕ → Message) (is_interleaved : Bool) (base : Bool → ℕ → ℕ) (shift : ℕ) (x : Transfer) (kept : Invariant message is_interleaved x) (handed : List messages.Message) (t : Tracker) (r : Reassembly)
    (shown : ReceiverRefines message is_interleaved base shift x handed t r) where
  -- number n, which is w on the wire, near a stream's next one, in either mode
  ordered_read : (s w n : ℕ) → base true s + w ≡ n → n < x.receiver.next s + 32001 → x.receiver.next s < n + 32002
      → (nearest halves 0 (ordered_at r.streams s).next (wire halves 0 (origin + w)) ≡ origin + w) × (nearest u32_space 0 (ordered_at r.streams s).next (wire u32_space 0 (origin + w)) ≡ origin + w)
  ordered_read s w n is a b =
      let e = shown.seen_as.next s in
      let v = shown.refines.next_is s in (
        halves_read 0 (ordered_at r.streams s).next (origin + w) (omega (arith, b, e, v, is), omega (arith, a, e, v, is)) (omega (arith, e)),
        words_read 0 (ordered_at r.streams s).next (origin + w) (omega (arith, b, e, v, is), omega (arith, a, e, v, is)) (omega (arith, e)),
      )

  -- ---- a fragment

  module _ (k : ℕ) (f : FragmentTree) (carries : Carries message is_interleaved x.sender k f) (written : IsWritten message is_interleaved x.sender k f) (is_now : IsOfCurrentEpoch base message x.sender k) (near : IsNearNext message x k)
      (unordered : is_interleaved ≡ true → f.is_unordered ≡ true → number_read true f r.streams ≡ origin + x.sender.written (place_of x.sender k)) where
    abbrev place : ℕ
    place = place_of x.sender k

    abbrev number : ℕ
    number = x.sender.number place

    -- as it is on the wire
    abbrev written_number : ℕ
    written_number = x.sender.written place

    in_order : ordered_of message place ≡ true → number_read false f r.streams ≡ origin + written_number
    in_order o = ap (λ z. ordered_number z f (ordered_at r.streams f.stream_id)) shown.mode ∙ go is_interleaved refl
      where
        window : (number < x.receiver.next f.stream_id + 32001) × (x.receiver.next f.stream_id < number + 32002)
        window =
            let w = near o in
            let a = w.0 in
            let b = w.1 in
            let s = ap x.receiver.next carries.stream in
            (omega (arith, b, s), omega (arith, a, s))

        is : base true f.stream_id + written_number ≡ number
        is = subst (λ z. base true z + written_number ≡ number) (sym carries.stream) (subst (λ z. base z (stream_of message place) + written_number ≡ number) o is_now)

        go : (m : Bool) → is_interleaved ≡ m → ordered_number m f (ordered_at r.streams f.stream_id) ≡ origin + written_number
        go false m = ap (λ z. nearest halves 0 (ordered_at r.streams f.stream_id).next z) (written.ssn m o) ∙ (ordered_read f.stream_id written_number number is window.0 window.1).0
        go true m = ap (λ z. nearest u32_space 0 (ordered_at r.streams f.stream_id).next z) (written.mid m) ∙ (ordered_read f.stream_id written_number number is window.0 window.1).1

    written_number_is : (ordered_of message place || is_interleaved) ≡ true → (wire_chunk message is_interleaved x.sender k).number ≡ written_number
    written_number_is h = cond-true (ordered_of message place || is_interleaved) written_number 0 h

    pub number_is_read : number_read f.is_unordered f r.streams ≡ origin + (wire_chunk message is_interleaved x.sender k).number
    number_is_read = go f.is_unordered refl
      where
        go : (b : Bool) → f.is_unordered ≡ b → number_read b f r.streams ≡ origin + (wire_chunk message is_interleaved x.sender k).number
        go false e = let o = ordered_is f.is_unordered false (ordered_of message place) carries.kind e in in_order o ∙ ap (λ z. origin + z) (sym (written_number_is (or_left (ordered_of message place) is_interleaved o)))
        go true e = by is_interleaved refl
          where
            by : (m : Bool) → is_interleaved ≡ m → number_read true f r.streams ≡ origin + (wire_chunk message is_interleaved x.sender k).number
            by true m = unordered m e ∙ ap (λ z. origin + z) (sym (written_number_is (or_right (ordered_of message place) is_interleaved m)))
            by false m =
                ap (λ z. unordered_number z f (unordered_at r.streams f.stream_id)) (shown.mode ∙ m)
                ∙ ap (λ z. origin + z) (sym (cond-false (ordered_of message place || is_interleaved) written_number 0 (ap (λ z. z || is_interleaved) (ordered_is f.is_unordered true (ordered_of message place) carries.kind e) ∙ m)))

    pub number_is_below : AreFew x.sender → (wire_chunk message is_interleaved x.sender k).number < 2 ^ 62
    number_is_below few =
        let a = number_below message x.sender kept.outgoing few place (kept.outgoing.place_begun k carries.numbered) in
        let l : written_number < 2 ^ 62 = omega (arith, a, is_now) in
        elim (ordered_of message place || is_interleaved) as (λ b. cond b written_number 0 < 2 ^ 62) [ true ↦ l | false ↦ omega arith ]

  -- ---- entries

  module _ (few : AreFew x.sender) (f : ForwardPoint) (sent : IsAmong f x.forward_points) (are_now : AreEntriesOfCurrentEpoch base f) (near : AreNearNext x f)
      (unordered : is_interleaved ≡ true → (e : Entry) → IsAmong e f.entries → e.ordered ≡ false → nearest u32_space 0 (unordered_at r.streams e.stream).near (wire u32_space 0 (origin + e.written)) ≡ origin + e.written) where
    named_below : (e : Entry) → IsAmong e f.entries → e.written < 2 ^ 62
    named_below e a =
        let c = (kept.forwards_true f sent).named_counts e.ordered e.stream e.number (among_covers e f.entries a) in
        let d = kept.outgoing.dense e.ordered e.stream e.number c in
        let l = number_below message x.sender kept.outgoing few d.0 d.1 in
        let n = d.4 in
        let is = are_now e a in
        omega (arith, l, n, is)

    named_near : (e : Entry) → IsAmong e f.entries → e.ordered ≡ true → (e.number < x.receiver.next e.stream + 32001) × (x.receiver.next e.stream < e.number + 32002)
    named_near e a o =
        let w = near e a o in
        let b = w.0 in
        let c = w.1 in
        (omega (arith, b), omega (arith, c))

    -- its number is the one on the wire with the base
    named_is : (e : Entry) → IsAmong e f.entries → e.ordered ≡ true → base true e.stream + e.written ≡ e.number
    named_is e a o = subst (λ z. base z e.stream + e.written ≡ e.number) o (are_now e a)

    entry_read : (m : Bool) → is_interleaved ≡ m → (y : SkippedStream) (e : Entry) → IsAmong e f.entries → IsEntry m y e → StandsFor m r.streams y (as_written e)
    entry_read false m (ForwardTsn id ssn) e a h =
        let window = named_near e a h.0 in
        let s = h.1 in
        (h.0, h.1, ap (λ z. nearest halves 0 z ssn.0) (ap (λ z. (ordered_at r.streams z).next) (sym s)) ∙ (ap (λ z. nearest halves 0 (ordered_at r.streams e.stream).next z) h.2 ∙ (ordered_read e.stream e.written e.number (named_is e a h.0) window.0 window.1).0), named_below e a)
    entry_read false m (IForwardTsn key mid) e a h = absurd h
    entry_read true m (ForwardTsn id ssn) e a h = absurd h
    entry_read true m (IForwardTsn (Ordered id) mid) e a h =
        let window = named_near e a h.0 in
        let s = h.1 in
        (h.0, h.1, ap (λ z. nearest u32_space 0 z mid.0) (ap (λ z. (ordered_at r.streams z).next) (sym s)) ∙ (ap (λ z. nearest u32_space 0 (ordered_at r.streams e.stream).next z) h.2 ∙ (ordered_read e.stream e.written e.number (named_is e a h.0) window.0 window.1).1), named_below e a)
    entry_read true m (IForwardTsn (Unordered id) mid) e a h =
        let s = h.1 in
        (h.0, h.1, ap (λ z. nearest u32_space 0 z mid.0) (ap (λ z. (unordered_at r.streams z).near) (sym s)) ∙ (ap (λ z. nearest u32_space 0 (unordered_at r.streams e.stream).near z) h.2 ∙ unordered m e a h.0), named_below e a)

    each_read : (ys : List SkippedStream) (es : List Entry) → ((e : Entry) → IsAmong e es → IsAmong e f.entries) → AreEntries is_interleaved ys es → StandForAll is_interleaved r.streams ys (map as_written es)
    each_read [] [] all h = tt
    each_read [] (e ∷ es) all h = absurd h
    each_read (y ∷ ys) [] all h = absurd h
    each_read (y ∷ ys) (e ∷ es) all h = (entry_read is_interleaved refl y e (all e (inl refl)) h.0, each_read ys es (λ d a. all d (inr a)) h.1)

    pub entries_are_read : (ys : List SkippedStream) → AreEntries is_interleaved ys f.entries → StandForAll is_interleaved r.streams ys (wire_point f).entries
    entries_are_read ys h = each_read ys f.entries (λ e a. a) h
