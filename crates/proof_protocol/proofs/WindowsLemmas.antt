-- Where the numbers lie that the receiver and the sender compare.
use Rattle.std.proofs.Common.{◌≡◌, ℕ, suc, ◌+◌, ◌-◌, ◌%◌, ◌^◌, ◌<◌, ◌≤◌, Bool, true, false, inl, inr, refl, sym, ap, ◌∙◌, subst, arith, ltb}
use Rattle.std.proofs.lemmas.Bool.{cases_lt, cases_Bool, cond-true, cond-false, lt-ltb, le-ltb}
use Rattle.proof_protocol.specs.State.{Message, ForwardPoint, Transfer, place_of, count, IsAmong, ordered_of, stream_of}
use Rattle.proof_protocol.specs.Rules.{covers}
use Rattle.proof_protocol.specs.Windows.{Windows, IsNear, IsTimely, IsFirstUnseen}
use Rattle.sctp_serial.specs.Unwrapped.{wire, nearest}
use Rattle.proof_protocol.specs.Invariant.{Invariant}
use Rattle.proof_protocol.proofs.ToolsLemmas.{not_both}
use Rattle.proof_protocol.proofs.DeliverLemmas.{lower_place}
use Rattle.proof_protocol.proofs.SackLemmas.{end_before}

module _ (message : ℕ → Message) (is_interleaved : Bool) (x : Transfer) (k : Invariant message is_interleaved x) where
  -- the receiver's front lies from the sender's left end to its count
  pub front_window : (f : ℕ) → x.receiver.seen f ≡ false → ((t : ℕ) → t < f → x.receiver.seen t ≡ true) → (x.acknowledged ≤ f) × (f ≤ count x.sender)
  front_window f n below = (
    elim (cases_lt f x.acknowledged) [ inl l ↦ absurd (not_both (k.acknowledged_true.all_seen f l) n) | inr g ↦ g ],
    elim (cases_lt (count x.sender) f) [ inl l ↦ let a = k.incoming.seen_below (count x.sender) (below (count x.sender) l) in absurd (omega (arith, a)) | inr g ↦ g ],
  )

  module _ (windows : Windows message x) where
    -- a fragment that was kept when n were numbered comes in time
    pub data_window : (f t n : ℕ) → IsFirstUnseen x.receiver f → t < n → n ≤ t + 2 ^ 30 → IsTimely x n → IsNear (2 ^ 31) f t
    data_window f t n front a b timely =
        let w = front_window f front.0 front.1 in
        let lo = w.0 in
        let hi = w.1 in
        let c = timely.0 in
        let d = timely.1 in
        elim (cases_lt x.acknowledged (count x.sender)) [
          | inl l ↦ let i = windows.items l in (omega (arith, a, b, c, d, lo, hi, i), omega (arith, a, b, c, d, lo, hi, i))
          | inr g ↦ (omega (arith, a, b, c, d, lo, hi, g), omega (arith, a, b, c, d, lo, hi, g))
        ]

    -- a cumulative point that was sent when n were numbered and the sender's own point was at most it
    pub sack_window : (c own n : ℕ) → own ≤ c → c ≤ n → n ≤ own + 2 ^ 30 → IsTimely x n → x.acknowledged ≤ count x.sender → IsNear (2 ^ 31) x.acknowledged c
    sack_window c own n a b e timely lc =
        let g = timely.0 in
        let h = timely.1 in
        elim (cases_lt x.acknowledged (count x.sender)) [
          | inl l ↦ let i = windows.items l in (omega (arith, a, b, e, g, h, i), omega (arith, a, b, e, g, h, i))
          | inr q ↦ (omega (arith, a, b, e, g, h, q, lc), omega (arith, a, b, e, g, h, q, lc))
        ]

    -- an ordered message with the stream's next number, where a later one has fragments, still has a kept item
    next_kept : (p t : ℕ) → t < count x.sender → place_of x.sender t ≡ p → ordered_of message p ≡ true → x.receiver.next (stream_of message p) < x.sender.number p
        → x.sender.counts true (stream_of message p) < x.receiver.next (stream_of message p) + 32000
    next_kept p t h e o l =
        let b = sym (ap x.sender.begun e) ∙ k.outgoing.place_begun t h in
        let n = subst (λ z. x.sender.number p < x.sender.counts z (stream_of message p)) o (k.outgoing.counted p b) in
        let d = k.outgoing.dense true (stream_of message p) (x.receiver.next (stream_of message p)) (omega (arith, l, n)) in
        let nq = d.4 in
        let lt = lower_place message x.sender k.outgoing d.0 p d.1 b (d.2 ∙ sym o) d.3 (omega (arith, nq, l)) in
        let z = end_before message x.sender k.outgoing d.0 p t d.1 lt d.3 h e in
        let zl = z.1 in
        let zo = ap (ordered_of message) z.2 ∙ d.2 in
        let zs = ap (stream_of message) z.2 ∙ d.3 in
        let zn = ap x.sender.number z.2 ∙ d.4 in
        elim (cases_lt z.0 x.acknowledged) [
          | inl a ↦
              let v = subst (λ y. x.sender.number (place_of x.sender z.0) < x.receiver.next y) zs (k.acknowledged_true.behind z.0 a z.3 zo) in
              absurd (omega (arith, v, zn))
          | inr g ↦
              let v = subst (λ y. x.sender.counts true y < x.sender.number (place_of x.sender z.0) + 32000) zs (windows.messages z.0 g (omega (arith, zl, h)) zo) in
              omega (arith, v, zn)
        ]

    -- the number of a kept ordered fragment, against its stream's next number
    pub number_window : (t : ℕ) → x.acknowledged ≤ t → t < count x.sender → ordered_of message (place_of x.sender t) ≡ true
        → IsNear 32000 (x.receiver.next (stream_of message (place_of x.sender t))) (x.sender.number (place_of x.sender t))
    number_window t lo hi o =
        let p = place_of x.sender t in
        let m = windows.messages t lo hi o in
        let c = k.incoming.next_counts (stream_of message p) in
        let b = k.outgoing.place_begun t hi in
        let n = subst (λ z. x.sender.number p < x.sender.counts z (stream_of message p)) o (k.outgoing.counted p b) in (
          omega (arith, m, c),
          elim (cases_lt (x.receiver.next (stream_of message p)) (x.sender.number p)) [
            | inl l ↦ let v = next_kept p t hi refl o l in omega (arith, v, n)
            | inr g ↦ omega (arith, g)
          ],
        )

    -- the number that a forward point names for a stream, where the point lies ahead of the receiver's front
    pub named_window : (f : ForwardPoint) → IsAmong f x.forward_points → x.acknowledged < f.upto → (s n : ℕ) → covers f.entries true s n ≡ true → ((m : ℕ) → covers f.entries true s m ≡ true → m ≤ n)
        → (n < x.receiver.next s + 32000) × (x.receiver.next s ≤ n + 32001)
    named_window f a ahead s n c greatest =
        let ft = k.forwards_true f a in
        let r = ft.reach s n c in
        let w = ft.within in
        let rb = r.below in
        let ht : r.at < count x.sender = omega (arith, rb, w) in
        let p = place_of x.sender r.at in
        let bp = k.outgoing.place_begun r.at ht in
        let up = greatest (x.sender.number p) (r.further r.at (omega arith) r.below r.is_ordered r.on_stream) in
        let ab = r.above in
        let np : x.sender.number p ≡ n = omega (arith, up, ab) in
        let cn = subst (λ y. x.sender.number p < x.sender.counts true y) r.on_stream (subst (λ z. x.sender.number p < x.sender.counts z (stream_of message p)) r.is_ordered (k.outgoing.counted p bp)) in
        let nc = k.incoming.next_counts s in (
          elim (cases_lt (x.receiver.next s) n) [
            | inr g ↦ omega (arith, g)
            | inl l ↦
                let v = next_kept p r.at ht refl r.is_ordered (subst (λ y. x.receiver.next y < x.sender.number p) (sym r.on_stream) (omega (arith, l, np))) in
                let v2 = subst (λ y. x.sender.counts true y < x.receiver.next y + 32000) r.on_stream v in
                omega (arith, v2, cn, np)
          ],
          elim (cases_lt (suc n) (x.receiver.next s)) [
            | inr g ↦ omega (arith, g)
            | inl l ↦
                let d = k.outgoing.dense true s (suc n) (omega (arith, l, nc)) in
                let q = d.0 in
                let nq = d.4 in
                let lt = lower_place message x.sender k.outgoing p q bp d.1 (r.is_ordered ∙ sym d.2) (r.on_stream ∙ sym d.3) (omega (arith, nq, np)) in
                elim (cases_Bool (x.sender.partly q)) [
                  | inl y ↦
                      elim (cases_lt (suc (suc n)) (x.sender.counts true s)) [
                        | inr g ↦ omega (arith, g, nc)
                        | inl m ↦
                            let e = k.outgoing.dense true s (suc (suc n)) m in
                            let ne = e.4 in
                            let lq = lower_place message x.sender k.outgoing q e.0 d.1 e.1 (d.2 ∙ sym e.2) (d.3 ∙ sym e.3) (omega (arith, nq, ne)) in
                            absurd (not_both y (k.outgoing.settled e.0 q e.1 lq (d.3 ∙ sym e.3)).not_partly)
                      ]
                  | inr y ↦
                      let z = k.outgoing.ended q d.1 y in
                      let zh = z.1 in
                      let zo = ap (ordered_of message) z.2 ∙ d.2 in
                      let zs = ap (stream_of message) z.2 ∙ d.3 in
                      let zn = ap x.sender.number z.2 ∙ d.4 in
                      let zp = z.2 in
                      let after_it : r.at ≤ z.0 =
                      elim (cases_lt z.0 r.at) [
                        | inr g ↦ g
                        | inl b ↦ let m = k.outgoing.fifo z.0 r.at b ht (zs ∙ sym r.on_stream) in absurd (omega (arith, m, zp, lt))
                      ] in
                      elim (cases_lt z.0 x.acknowledged) [
                        | inr g ↦
                            let v = subst (λ y. x.sender.counts true y < x.sender.number (place_of x.sender z.0) + 32000) zs (windows.messages z.0 g z.1 zo) in
                            omega (arith, v, zn, nc)
                        | inl b ↦
                            let v = greatest (x.sender.number (place_of x.sender z.0)) (r.further z.0 after_it (omega (arith, b, ahead)) zo zs) in
                            absurd (omega (arith, v, zn))
                      ]
                ]
          ],
        )

-- the acknowledged point never passes the count
pub acknowledged_within : (message : ℕ → Message) (is_interleaved : Bool) (x : Transfer) → Invariant message is_interleaved x → x.acknowledged ≤ count x.sender
acknowledged_within message is_interleaved x k =
    elim (cases_lt (count x.sender) x.acknowledged) [
      | inr g ↦ g
      | inl l ↦ let a = k.incoming.seen_below (count x.sender) (k.acknowledged_true.all_seen (count x.sender) l) in absurd (omega (arith, a))
    ]

-- a number less than half its space away is read as it was meant
pub words_read : (first near n : ℕ) → IsNear (2 ^ 31) near n → 2 ^ 32 ≤ near → nearest (2 ^ 32) first near (wire (2 ^ 32) first n) ≡ n
words_read first near n d far =
    let a = d.0 in
    let b = d.1 in
    let ahead = (wire (2 ^ 32) first n + 2 ^ 32 - wire (2 ^ 32) first near) % 2 ^ 32 in
    elim (cases_lt ahead (2 ^ 31)) [
      | inl p ↦ let e : near + ahead ≡ n = omega (arith, a, b, far, p) in cond-true (ltb ahead (2 ^ 31)) (near + ahead) ((near + ahead) - 2 ^ 32) (lt-ltb ahead (2 ^ 31) p) ∙ e
      | inr p ↦ let e : (near + ahead) - 2 ^ 32 ≡ n = omega (arith, a, b, far, p) in cond-false (ltb ahead (2 ^ 31)) (near + ahead) ((near + ahead) - 2 ^ 32) (le-ltb ahead (2 ^ 31) p) ∙ e
    ]

pub halves_read : (first near n : ℕ) → IsNear (2 ^ 15) near n → 2 ^ 16 ≤ near → nearest (2 ^ 16) first near (wire (2 ^ 16) first n) ≡ n
halves_read first near n d far =
    let a = d.0 in
    let b = d.1 in
    let ahead = (wire (2 ^ 16) first n + 2 ^ 16 - wire (2 ^ 16) first near) % 2 ^ 16 in
    elim (cases_lt ahead (2 ^ 15)) [
      | inl p ↦ let e : near + ahead ≡ n = omega (arith, a, b, far, p) in cond-true (ltb ahead (2 ^ 15)) (near + ahead) ((near + ahead) - 2 ^ 16) (lt-ltb ahead (2 ^ 15) p) ∙ e
      | inr p ↦ let e : (near + ahead) - 2 ^ 16 ≡ n = omega (arith, a, b, far, p) in cond-false (ltb ahead (2 ^ 15)) (near + ahead) ((near + ahead) - 2 ^ 16) (le-ltb ahead (2 ^ 15) p) ∙ e
    ]
