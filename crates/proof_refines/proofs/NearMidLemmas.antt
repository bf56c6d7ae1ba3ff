-- MIDs of unordered messages are near the last one met.
use Rattle.std.proofs.Common.{◌≡◌, ℕ, zero, suc, ◌+◌, ◌-◌, ◌^◌, ◌<◌, ◌≤◌, Bool, true, false, inl, inr, refl, sym, ap, ◌∙◌, subst, arith}
use Rattle.std.specs.Prelude.{not}
use Rattle.std.proofs.lemmas.Bool.{cases_lt, cases_order}
use Rattle.sctp_serial.specs.Unwrapped.{origin, u32_space, wire, nearest}
use Rattle.sctp_packet.specs.Chunk.{FragmentTree}
use Rattle.sctp_rx.specs.ReassemblyStreams.{unordered_number}
use Rattle.sctp_rx.specs.ReassemblyQueue.{Reassembly}
use Rattle.proof_protocol.specs.State.{Message, Entry, ForwardPoint, Sender, Transfer, IsAmong, place_of, count, ordered_of, stream_of}
use Rattle.proof_protocol.specs.Rules.{covers}
use Rattle.proof_protocol.specs.Lifted.{IsOfCurrentEpoch}
use Rattle.proof_protocol.specs.Invariant.{Invariant, Outgoing}
use Rattle.proof_protocol.proofs.DeliverLemmas.{lower_place}
use Rattle.proof_protocol.proofs.SackLemmas.{end_before}
use Rattle.proof_protocol.proofs.WindowsLemmas.{words_read}
use Rattle.proof_protocol.proofs.ToolsLemmas.{among_covers}
use Rattle.proof_refines.specs.View.{unordered_at}
use Rattle.proof_refines.specs.Read.{Carries, number_read}
use Rattle.proof_protocol.specs.Points.{AreApart}
use Rattle.proof_refines.specs.Near.{IsOn, IsNearStream, AreNearStreams, IsWritten, IsInWindow}
use Rattle.proof_refines.proofs.HeldKeyLemmas.{twice_not}
use Rattle.proof_refines.proofs.NearTsnLemmas.{not_acknowledged, counted_from}
use Rattle.proof_refines.proofs.NearNumberLemmas.{greatest}

module _ (message : ℕ → Message) (o : Sender) (out : Outgoing message o) (s : ℕ) where
  abbrev number : ℕ → ℕ
  number t = o.number (place_of o t)

  begun : (t : ℕ) → IsOn message o s t → o.begun (place_of o t) ≡ true
  begun t a = out.place_begun t a.numbered

  -- the numbers of a stream rise with the fragments
  pub rising : (t u : ℕ) → IsOn message o s t → IsOn message o s u → t ≤ u → number t ≤ number u
  rising t u a b l =
      elim (cases_order t u) [
        | inl e ↦ let q = ap number e in omega (arith, q)
        | inr (inr g) ↦ absurd (omega (arith, g, l))
        | inr (inl h) ↦
            let m = out.fifo t u h b.numbered (a.stream ∙ sym b.stream) in
            elim (cases_order (place_of o t) (place_of o u)) [
              | inl e ↦ let q = ap o.number e in omega (arith, q)
              | inr (inr g) ↦ absurd (omega (arith, g, m))
              | inr (inl p) ↦ let r = out.rises (place_of o t) (place_of o u) (begun t a) (begun u b) (a.unordered ∙ sym b.unordered) (a.stream ∙ sym b.stream) p in omega (arith, r)
            ]
      ]

  -- a message of a lower number has a fragment before
  pub part_before : (n u : ℕ) → IsOn message o s u → n < number u → (v : ℕ) × IsOn message o s v × (v < u) × (number v ≡ n)
  part_before n u b l =
      let below = subst (λ (z : ℕ). number u < o.counts false z) b.stream (subst (λ z. number u < o.counts z (stream_of message (place_of o u))) b.unordered (out.counted (place_of o u) (begun u b))) in
      let d = out.dense false s n (omega (arith, l, below)) in
      let nq = d.4 in
      let lt = lower_place message o out d.0 (place_of o u) d.1 (begun u b) (d.2 ∙ sym b.unordered) (d.3 ∙ sym b.stream) (omega (arith, nq, l)) in
      let z = end_before message o out d.0 (place_of o u) u d.1 lt (d.3 ∙ sym b.stream) b.numbered refl in
      let zl = z.1 in
      let h = b.numbered in
      (z.0, record { numbered = omega (arith, zl, h); unordered = ap (ordered_of message) z.2 ∙ d.2; stream = ap (stream_of message) z.2 ∙ d.3 }, z.1, ap o.number z.2 ∙ d.4)

  -- and by one at most with each
  pub steps : (d t u : ℕ) → IsOn message o s t → IsOn message o s u → t ≤ u → number u ≡ number t + d → d + t ≤ u
  steps zero t u a b l e = omega (arith, l)
  steps (suc zero) t u a b l e =
      elim (cases_lt t u) [
        | inl h ↦ omega (arith, h)
        | inr g ↦ let q = rising u t b a g in absurd (omega (arith, q, e))
      ]
  steps (suc (suc d)) t u a b l e =
      let v = part_before (number t + suc d) u b (omega (arith, e)) in
      let vl = v.2 in
      let vn = v.3 in
      let after : t ≤ v.0 =
      elim (cases_lt v.0 t) [
        | inr g ↦ g
        | inl h ↦ let q = rising v.0 t v.1 a (omega (arith, h)) in absurd (omega (arith, q, vn))
      ] in
      let ih = steps (suc d) t v.0 a v.1 after vn in
      omega (arith, ih, vl)

  pub stepped : (t u : ℕ) → IsOn message o s t → IsOn message o s u → t ≤ u → number u + t ≤ number t + u
  stepped t u a b l =
      let r = rising t u a b l in
      let d = o.number (place_of o u) - o.number (place_of o t) in
      let h = steps d t u a b l (omega (arith, r)) in
      omega (arith, h, r)

module _ (message : ℕ → Message) (is_interleaved : Bool) (base : Bool → ℕ → ℕ) (x : Transfer) (kept : Invariant message is_interleaved x) (windows : IsInWindow x) (s : ℕ) where
  abbrev number_at : ℕ → ℕ
  number_at t = x.sender.number (place_of x.sender t)

  -- not too far ahead of what was met
  not_ahead : (n : ℕ) → ((t : ℕ) → x.receiver.seen t ≡ true → IsOn message x.sender s t → number_at t < n + 2 ^ 30)
      → (k : ℕ) → IsOn message x.sender s k → number_at k < n + 2 ^ 31
  not_ahead n seen k on =
      elim (cases_lt (n + 2 ^ 30) (number_at k)) [
        | inr g ↦ omega (arith, g)
        | inl l ↦
            let v = part_before message x.sender kept.outgoing s (n + 2 ^ 30) k on l in
            let vl = v.2 in
            let vn = v.3 in
            let h = on.numbered in
            let c = counted_from message is_interleaved x kept windows v.0 (not_acknowledged message is_interleaved x kept v.0 (unseen v.0 v.1 v.3 (x.receiver.seen v.0) refl)) (omega (arith, vl, h)) in
            let q = stepped message x.sender kept.outgoing s v.0 k v.1 on (omega (arith, vl)) in
            omega (arith, c, q, vn, h)
      ]
    where
      unseen : (v : ℕ) → IsOn message x.sender s v → number_at v ≡ n + 2 ^ 30 → (b : Bool) → x.receiver.seen v ≡ b → b ≡ false
      unseen v a e false h = refl
      unseen v a e true h = let q = seen v h a in absurd (omega (arith, q, e))

  -- nor behind, where of the stream no greater number is passed below `upto`, and little is numbered from there on
  not_behind : (near : ℕ) (q : IsNearStream message base s x near) (k upto w : ℕ) → base false s + w ≡ number_at k → IsOn message x.sender s k → ((u : ℕ) → IsOn message x.sender s u → u < upto → number_at u ≤ number_at k)
      → count x.sender < upto + 2 ^ 30 → base false s + q.number < number_at k + 2 ^ 31
  not_behind near q k upto w is on last c =
      elim q.met [
        | inl z ↦ omega (arith, z, is)
        | inr m ↦
            let t = m.0 in
            let a = m.1.on in
            let n = m.1.number in
            let h = a.numbered in
            elim (cases_lt (number_at k) (number_at t)) [
              | inr g ↦ omega (arith, g, n)
              | inl l ↦ let w = passed t a l in omega (arith, w, n, h, c)
            ]
      ]
    where
      passed : (t : ℕ) → IsOn message x.sender s t → number_at k < number_at t → number_at t + upto ≤ suc (number_at k) + t
      passed t a l = elim (cases_lt (suc (number_at k)) (number_at t)) [
        | inr g ↦ let b = behind t a l in omega (arith, b, g)
        | inl more ↦
            let v = part_before message x.sender kept.outgoing s (suc (number_at k)) t a more in
            let vl = v.2 in
            let vn = v.3 in
            let b = behind v.0 v.1 (omega (arith, vn)) in
            let w = stepped message x.sender kept.outgoing s v.0 t v.1 a (omega (arith, vl)) in
            omega (arith, w, vn, b)
      ]
        where
          behind : (v : ℕ) → IsOn message x.sender s v → number_at k < number_at v → upto ≤ v
          behind v a l = elim (cases_lt v upto) [
            | inr g ↦ g
            | inl b ↦ let w = last v a b in absurd (omega (arith, w, l))
          ]

  pub mid_read : (near : ℕ) → IsNearStream message base s x near → (k upto w : ℕ) → base false s + w ≡ number_at k → IsOn message x.sender s k → ((u : ℕ) → IsOn message x.sender s u → u < upto → number_at u ≤ number_at k)
      → count x.sender < upto + 2 ^ 30 → nearest u32_space 0 near (wire u32_space 0 (origin + w)) ≡ origin + w
  mid_read near q k upto w is on last c =
      let a = not_ahead (base false s + q.number) q.seen k on in
      let b = not_behind near q k upto w is on last c in
      let e = q.near_is in
      words_read 0 near (origin + w) (omega (arith, b, e, is), omega (arith, a, e, is)) (omega (arith, e))

  -- from a fragment that is not acknowledged no numbered one is far ahead
  pub few_ahead : (k : ℕ) → IsOn message x.sender s k → x.acknowledged ≤ k → (t : ℕ) → IsOn message x.sender s t → number_at t < number_at k + 2 ^ 30
  few_ahead k on a t b =
      let c = counted_from message is_interleaved x kept windows k a on.numbered in
      let h = b.numbered in
      elim (cases_lt k t) [
        | inl l ↦ let w = stepped message x.sender kept.outgoing s k t on b (omega (arith, l)) in omega (arith, w, c, h)
        | inr g ↦ let w = rising message x.sender kept.outgoing s t k b on g in omega (arith, w)
      ]

module _ (message : ℕ → Message) (is_interleaved : Bool) (base : Bool → ℕ → ℕ) (x : Transfer) (kept : Invariant message is_interleaved x) (windows : IsInWindow x) (r : Reassembly) (near : AreNearStreams message base x r) where
  -- a fragment that is not acknowledged
  pub fragment_mid : (k : ℕ) → x.acknowledged ≤ k → (s : ℕ) → IsOn message x.sender s k → base false s + x.sender.written (place_of x.sender k) ≡ x.sender.number (place_of x.sender k)
      → nearest u32_space 0 (unordered_at r.streams s).near (wire u32_space 0 (origin + x.sender.written (place_of x.sender k))) ≡ origin + x.sender.written (place_of x.sender k)
  fragment_mid k a s on is =
      let c = counted_from message is_interleaved x kept windows k a on.numbered in
      mid_read message is_interleaved base x kept windows s (unordered_at r.streams s).near (near.streams s) k (suc k) (x.sender.written (place_of x.sender k)) is on
      (λ u b l. rising message x.sender kept.outgoing s u k b on (omega (arith, l))) (omega (arith, c))

  -- an entry of a forward point that is ahead
  pub entry_mid : (f : ForwardPoint) → IsAmong f x.forward_points → x.acknowledged < f.upto → AreApart f.entries → (e : Entry) → IsAmong e f.entries → e.ordered ≡ false
      → base e.ordered e.stream + e.written ≡ e.number → nearest u32_space 0 (unordered_at r.streams e.stream).near (wire u32_space 0 (origin + e.written)) ≡ origin + e.written
  entry_mid f sent ahead apart e a u now =
      let named = near.points f sent in
      let z = named.last e.stream e.number (subst (λ z. covers f.entries z e.stream e.number ≡ true) u (among_covers e f.entries a)) in
      let on = z.1 in
      let lo = z.4 in
      let hi = greatest f.entries apart e a (x.sender.number (place_of x.sender z.0)) (subst (λ b. covers f.entries b e.stream (x.sender.number (place_of x.sender z.0)) ≡ true) (sym u) z.5) in
      let within = (kept.forwards_true f sent).within in
      let c = windows (omega (arith, ahead, within)) in
      let own : base false e.stream + e.written ≡ e.number = subst (λ b. base b e.stream + e.written ≡ e.number) u now in
      let n : x.sender.number (place_of x.sender z.0) ≡ e.number = omega (arith, lo, hi) in
      mid_read message is_interleaved base x kept windows e.stream (unordered_at r.streams e.stream).near (near.streams e.stream) z.0 f.upto e.written (own ∙ sym n) on z.3 (omega (arith, c, ahead))

  -- as the queue reads it
  pub fragment_number : (k : ℕ) (f : FragmentTree) → Carries message is_interleaved x.sender k f → IsWritten message is_interleaved x.sender k f → x.acknowledged ≤ k → IsOfCurrentEpoch base message x.sender k → is_interleaved ≡ true → r.streams.is_interleaved ≡ is_interleaved → f.is_unordered ≡ true
      → number_read true f r.streams ≡ origin + x.sender.written (place_of x.sender k)
  fragment_number k f carries written a now interleaved mode e =
      let on : IsOn message x.sender f.stream_id k = record { numbered = carries.numbered; unordered = sym (twice_not f.is_unordered (ordered_of message (place_of x.sender k)) carries.kind) ∙ ap not e; stream = sym carries.stream } in
      let is : base false f.stream_id + x.sender.written (place_of x.sender k) ≡ x.sender.number (place_of x.sender k) =
      subst (λ z. base false z + x.sender.written (place_of x.sender k) ≡ x.sender.number (place_of x.sender k)) on.stream
      (subst (λ z. base z (stream_of message (place_of x.sender k)) + x.sender.written (place_of x.sender k) ≡ x.sender.number (place_of x.sender k)) on.unordered now) in
      ap (λ z. unordered_number z f (unordered_at r.streams f.stream_id)) (mode ∙ interleaved) ∙ (ap (λ z. nearest u32_space 0 (unordered_at r.streams f.stream_id).near z) (written.mid interleaved) ∙ fragment_mid k a f.stream_id on is)
