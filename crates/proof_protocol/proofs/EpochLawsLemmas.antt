-- What follows of the bases of the epochs.
use Rattle.std.proofs.Common.{◌≡◌, ℕ, suc, ◌+◌, ◌<◌, ◌≤◌, Bool, true, false, ◌⊎◌, inl, inr, List, [], ◌∷◌, ◌++◌, refl, sym, ap, ◌∙◌, subst, arith, append-nil, append_assoc, eqb}
use Rattle.std.proofs.lemmas.Bool.{cases_lt, cases_eq, cases_Bool, or_cases, or_left, or_right, eqb-true, cases_order}
use Rattle.proof_protocol.specs.State.{Message, ForwardPoint, IsAmong, has, count, place_of, stream_of, ordered_of}
use Rattle.proof_protocol.specs.Rules.{accept, begin, number, end_with_placeholder, give_up, data_comes, late_comes, become_ready, send_sack, acknowledge_next, send_forward, forward_comes, perform_reset, same, covers, IsAllowed}
use Rattle.proof_protocol.specs.Windows.{IsNear}
use Rattle.proof_protocol.specs.Resets.{Request, Epochs, ResetEvent, transfers, reset_stream, send_request, perform, commit, MayReset, goes, MayAll, go_all}
use Rattle.proof_protocol.specs.Lifted.{IsOfCurrentEpoch}
use Rattle.proof_protocol.specs.Based.{base_at, NamedIsOfCurrentEpoch, EntriesAreOfCurrentEpoch, NothingWaits, EpochWindows, Bracketed, InEpochs}
use Rattle.proof_protocol.proofs.ToolsLemmas.{put_at, put_off, not_both, among_covers}
use Rattle.proof_protocol.proofs.DeliverLemmas.{lower_place}
use Rattle.proof_protocol.proofs.SackLemmas.{end_before}
use Rattle.proof_protocol.proofs.EpochLemmas.{in_its_epoch}
use Rattle.proof_protocol.proofs.BasedLemmas.{not_later, unseen_is_now, keeps_epochs}

module _ (message : ℕ → Message) (is_interleaved : Bool) (x : Epochs) (k : InEpochs message is_interleaved x) where
  abbrev st : ℕ → ℕ
  st p = stream_of message p

  -- a number from the base of the epoch that the receiver is in on
  now_from : (q : ℕ) → x.transfer.sender.begun q ≡ true → x.base (st q) (x.performed (st q)) (ordered_of message q) ≤ x.transfer.sender.number q → x.epoch q ≡ x.performed (st q)
  now_from q h l =
      let m = not_later message is_interleaved x k.order k.based q h in
      elim (cases_lt (x.epoch q) (x.performed (st q))) [
        | inr g ↦ omega (arith, m, g)
        | inl g ↦ let e = k.based.earlier q (x.performed (st q)) h (omega arith) g in absurd (omega (arith, e, l))
      ]

  pub named_is_now : NamedIsOfCurrentEpoch message x
  named_is_now f u s n kind m l unseen c greatest =
      let z = k.based.points f m kind s n c in
      let o = x.transfer.sender in
      let p = place_of o z.at in
      let zb = z.below in
      let w = (k.order.kept.forwards_true f m).within in
      let h : z.at < count o = omega (arith, zb, w) in
      let b = k.order.kept.outgoing.place_begun z.at h in
      let up = z.above in
      let down = greatest (o.number p) z.named in
      let num : o.number p ≡ n = omega (arith, up, down) in
      let most : x.epoch p ≤ x.performed s = subst (λ a. x.epoch p ≤ x.performed a) z.on_stream (not_later message is_interleaved x k.order k.based p b) in
      let now : x.epoch p ≡ x.performed s =
      elim (cases_lt (x.epoch p) (x.performed s)) [
        | inr g ↦ omega (arith, most, g)
        | inl g ↦
            let r = k.based.last s (omega (arith, g)) in
            let re = r.epoch in
            let e = z.ends r.request r.sent r.on_stream (omega (arith, g, re)) in
            absurd (not_both (r.all_seen u (omega (arith, l, e))) unseen)
      ] in
      let base = k.based.numbered p b in
      let base_s : x.base s (x.performed s) kind ≤ o.number p =
      subst (λ a. x.base s a kind ≤ o.number p) now (subst (λ a. x.base s (x.epoch p) a ≤ o.number p) z.kind_is (subst (λ a. x.base a (x.epoch p) (ordered_of message p) ≤ o.number p) z.on_stream base)) in
      (p, b, z.kind_is, z.on_stream, num, now, omega (arith, base_s, num))

  -- a fragment that was not seen has the number of the rules that the receiver reads
  pub unseen_on_wire : (t : ℕ) → t < count x.transfer.sender → x.transfer.receiver.seen t ≡ false → IsOfCurrentEpoch (λ kind s. x.base s (x.performed s) kind) message x.transfer.sender t
  unseen_on_wire t h u =
      let p = place_of x.transfer.sender t in
      let e = unseen_is_now message is_interleaved x k.order k.based t h u in
      let w = k.based.written p (k.order.kept.outgoing.place_begun t h) in
      subst (λ d. x.base (st p) d (ordered_of message p) + x.transfer.sender.written p ≡ x.transfer.sender.number p) e w

  -- no two messages of a stream and kind have one number
  one_number : (p q : ℕ) → x.transfer.sender.begun p ≡ true → x.transfer.sender.begun q ≡ true → ordered_of message p ≡ ordered_of message q → st p ≡ st q
      → x.transfer.sender.number p ≡ x.transfer.sender.number q → p ≡ q
  one_number p q bp bq kind on e =
      elim (cases_order p q) [
        | inl s ↦ s
        | inr (inl l) ↦ let r = k.order.kept.outgoing.rises p q bp bq kind on l in absurd (omega (arith, r, e))
        | inr (inr l) ↦ let r = k.order.kept.outgoing.rises q p bq bp (sym kind) (sym on) l in absurd (omega (arith, r, e))
      ]

  pub entries_are_now : EntriesAreOfCurrentEpoch message x
  entries_are_now f u e m l unseen among greatest =
      let w = k.based.entries f m e among in
      let z = named_is_now f u e.stream e.number e.ordered m l unseen (among_covers e f.entries among) greatest in
      let same = one_number w.place z.0 w.begun z.1 (w.kind_is ∙ sym z.2) (w.on_stream ∙ sym z.3) (w.number ∙ sym z.4) in
      let a = k.based.written w.place w.begun in
      let now : x.epoch w.place ≡ x.performed e.stream = ap x.epoch same ∙ z.5 in
      let b : base_at message x w.place ≡ x.base e.stream (x.performed e.stream) e.ordered =
      ap (λ d. x.base (st w.place) d (ordered_of message w.place)) now ∙ (ap (λ d. x.base d (x.performed e.stream) (ordered_of message w.place)) w.on_stream ∙ ap (x.base e.stream (x.performed e.stream)) w.kind_is) in
      let n = w.number in
      let v = w.written in
      omega (arith, a, b, n, v)

  pub nothing_waits : (r : Request) → IsAmong r x.requests → x.performed r.stream < r.epoch → NothingWaits message x r
  nothing_waits r m l = record {
    fragments = below;
    points = λ f g a kind n. none f g a kind n (covers f.entries kind r.stream n) refl;
  }
    where
      earlier : (t : ℕ) → t < count x.transfer.sender → st (place_of x.transfer.sender t) ≡ r.stream → x.epoch (place_of x.transfer.sender t) < r.epoch
      earlier t h e =
          let n = not_later message is_interleaved x k.order k.based (place_of x.transfer.sender t) (k.order.kept.outgoing.place_begun t h) in
          let q = ap x.performed e in
          omega (arith, n, q, l)

      below : (t : ℕ) → t < count x.transfer.sender → st (place_of x.transfer.sender t) ≡ r.stream → t < r.upto
      below t h e = (k.order.asked r m).below t h e (earlier t h e)

      none : (f : ForwardPoint) → IsAmong f x.transfer.forward_points → r.upto < f.upto → (kind : Bool) (n : ℕ) → (b : Bool) → covers f.entries kind r.stream n ≡ b → covers f.entries kind r.stream n ≡ false
      none f g a kind n false e = e
      none f g a kind n true e =
          let z = k.based.points f g kind r.stream n e in
          let zb = z.below in
          let w = (k.order.kept.forwards_true f g).within in
          let h : z.at < count x.transfer.sender = omega (arith, zb, w) in
          let u = z.ends r m refl (earlier z.at h z.on_stream) in
          absurd (omega (arith, a, u))

  -- ---- windows

  module _ (windows : EpochWindows message x) where
    -- of the epoch that is sent and received
    open_now : (p : ℕ) → x.transfer.sender.begun p ≡ true → x.epoch p ≡ x.performed (st p) → x.epoch p ≡ x.opened (st p)
    open_now p b e =
        let i = k.order.begun p b in
        let c = (k.order.chain (st p)).0 in
        omega (arith, i, c, e)

    next_kept : (p t : ℕ) → t < count x.transfer.sender → place_of x.transfer.sender t ≡ p → ordered_of message p ≡ true → x.epoch p ≡ x.performed (st p)
        → x.transfer.receiver.next (st p) < x.transfer.sender.number p
        → x.transfer.sender.counts true (st p) < x.transfer.receiver.next (st p) + 32000
    next_kept p t h e ord now l =
        let out = k.order.kept.outgoing in
        let b = sym (ap x.transfer.sender.begun e) ∙ out.place_begun t h in
        let n = subst (λ z. x.transfer.sender.number p < x.transfer.sender.counts z (st p)) ord (out.counted p b) in
        let d = out.dense true (st p) (x.transfer.receiver.next (st p)) (omega (arith, l, n)) in
        let nq = d.4 in
        let lt = lower_place message x.transfer.sender out d.0 p d.1 b (d.2 ∙ sym ord) d.3 (omega (arith, nq, l)) in
        let z = end_before message x.transfer.sender out d.0 p t d.1 lt d.3 h e in
        let zl = z.1 in
        let zo = ap (ordered_of message) z.2 ∙ d.2 in
        let zs = ap (stream_of message) z.2 ∙ d.3 in
        let zn = ap x.transfer.sender.number z.2 ∙ d.4 in
        let from = k.based.next_from (st p) in
        let dn : x.epoch d.0 ≡ x.performed (st d.0) =
        now_from d.0 d.1 (subst (λ a. x.base (st d.0) (x.performed (st d.0)) a ≤ x.transfer.sender.number d.0) (sym d.2)
        (subst (λ a. x.base a (x.performed a) true ≤ x.transfer.sender.number d.0) (sym d.3) (omega (arith, from, nq)))) in
        let zp : x.epoch (place_of x.transfer.sender z.0) ≡ x.opened (st (place_of x.transfer.sender z.0)) = subst (λ a. x.epoch a ≡ x.opened (st a)) (sym z.2) (open_now d.0 d.1 dn) in
        elim (cases_lt z.0 x.transfer.acknowledged) [
          | inl a ↦
              let v = subst (λ y. x.transfer.sender.number (place_of x.transfer.sender z.0) < x.transfer.receiver.next y) zs (k.order.kept.acknowledged_true.behind z.0 a z.3 zo) in
              absurd (omega (arith, v, zn))
          | inr g ↦
              let v = subst (λ y. x.transfer.sender.counts true y < x.transfer.sender.number (place_of x.transfer.sender z.0) + 32000) zs (windows.messages z.0 g (omega (arith, zl, h)) zo zp) in
              omega (arith, v, zn)
        ]

    pub epoch_number_window : (t : ℕ) → x.transfer.acknowledged ≤ t → t < count x.transfer.sender → ordered_of message (place_of x.transfer.sender t) ≡ true
        → x.epoch (place_of x.transfer.sender t) ≡ x.performed (st (place_of x.transfer.sender t))
        → IsNear 32000 (x.transfer.receiver.next (st (place_of x.transfer.sender t))) (x.transfer.sender.number (place_of x.transfer.sender t))
    epoch_number_window t lo hi ord now =
        let p = place_of x.transfer.sender t in
        let b = k.order.kept.outgoing.place_begun t hi in
        let m = windows.messages t lo hi ord (open_now p b now) in
        let c = k.order.kept.incoming.next_counts (st p) in
        let n = subst (λ z. x.transfer.sender.number p < x.transfer.sender.counts z (st p)) ord (k.order.kept.outgoing.counted p b) in (
          omega (arith, m, c),
          elim (cases_lt (x.transfer.receiver.next (st p)) (x.transfer.sender.number p)) [
            | inl l ↦ let v = next_kept p t hi refl ord now l in omega (arith, v, n)
            | inr g ↦ omega (arith, g)
          ],
        )

    -- the greatest number that a point names, where the point passes a fragment that was not seen
    pub epoch_named_window : (f : ForwardPoint) (u s n : ℕ) → IsAmong f x.transfer.forward_points → u < f.upto → x.transfer.receiver.seen u ≡ false → covers f.entries true s n ≡ true
        → ((m : ℕ) → covers f.entries true s m ≡ true → m ≤ n) → (n < x.transfer.receiver.next s + 32000) × (x.transfer.receiver.next s ≤ n + 32001)
    epoch_named_window f u s n a less unseen c greatest =
        let ft = k.order.kept.forwards_true f a in
        let out = k.order.kept.outgoing in
        let r = ft.reach s n c in
        let w = ft.within in
        let rb = r.below in
        let ht : r.at < count x.transfer.sender = omega (arith, rb, w) in
        let p = place_of x.transfer.sender r.at in
        let bp = out.place_begun r.at ht in
        let up = greatest (x.transfer.sender.number p) (r.further r.at (omega arith) r.below r.is_ordered r.on_stream) in
        let ab = r.above in
        let np : x.transfer.sender.number p ≡ n = omega (arith, up, ab) in
        let cur = named_is_now f u s n true a less unseen c greatest in
        let base_n = cur.6 in
        let now_p : x.epoch p ≡ x.performed (st p) =
        now_from p bp (subst (λ z. x.base (st p) (x.performed (st p)) z ≤ x.transfer.sender.number p) (sym r.is_ordered)
        (subst (λ z. x.base z (x.performed z) true ≤ x.transfer.sender.number p) (sym r.on_stream) (omega (arith, base_n, np)))) in
        let ahead : x.transfer.acknowledged < f.upto =
        elim (cases_lt x.transfer.acknowledged f.upto) [
          | inl l ↦ l
          | inr g ↦ absurd (not_both (k.order.kept.acknowledged_true.all_seen u (omega (arith, less, g))) unseen)
        ] in
        let cn = subst (λ y. x.transfer.sender.number p < x.transfer.sender.counts true y) r.on_stream (subst (λ z. x.transfer.sender.number p < x.transfer.sender.counts z (st p)) r.is_ordered (out.counted p bp)) in
        let nc = k.order.kept.incoming.next_counts s in (
          elim (cases_lt (x.transfer.receiver.next s) n) [
            | inr g ↦ omega (arith, g)
            | inl l ↦
                let v = next_kept p r.at ht refl r.is_ordered now_p (subst (λ y. x.transfer.receiver.next y < x.transfer.sender.number p) (sym r.on_stream) (omega (arith, l, np))) in
                let v2 = subst (λ y. x.transfer.sender.counts true y < x.transfer.receiver.next y + 32000) r.on_stream v in
                omega (arith, v2, cn, np)
          ],
          elim (cases_lt (suc n) (x.transfer.receiver.next s)) [
            | inr g ↦ omega (arith, g)
            | inl l ↦
                let d = out.dense true s (suc n) (omega (arith, l, nc)) in
                let q = d.0 in
                let nq = d.4 in
                let lt = lower_place message x.transfer.sender out p q bp d.1 (r.is_ordered ∙ sym d.2) (r.on_stream ∙ sym d.3) (omega (arith, nq, np)) in
                elim (cases_Bool (x.transfer.sender.partly q)) [
                  | inl y ↦
                      elim (cases_lt (suc (suc n)) (x.transfer.sender.counts true s)) [
                        | inr g ↦ omega (arith, g, nc)
                        | inl m ↦
                            let e = out.dense true s (suc (suc n)) m in
                            let ne = e.4 in
                            let lq = lower_place message x.transfer.sender out q e.0 d.1 e.1 (d.2 ∙ sym e.2) (d.3 ∙ sym e.3) (omega (arith, nq, ne)) in
                            absurd (not_both y (out.settled e.0 q e.1 lq (d.3 ∙ sym e.3)).not_partly)
                      ]
                  | inr y ↦
                      let z = out.ended q d.1 y in
                      let zh = z.1 in
                      let zo = ap (ordered_of message) z.2 ∙ d.2 in
                      let zs = ap (stream_of message) z.2 ∙ d.3 in
                      let zn = ap x.transfer.sender.number z.2 ∙ d.4 in
                      let zp = z.2 in
                      let dn : x.epoch q ≡ x.performed (st q) =
                      now_from q d.1 (subst (λ b. x.base (st q) (x.performed (st q)) b ≤ x.transfer.sender.number q) (sym d.2)
                      (subst (λ b. x.base b (x.performed b) true ≤ x.transfer.sender.number q) (sym d.3) (omega (arith, base_n, nq)))) in
                      let zq : x.epoch (place_of x.transfer.sender z.0) ≡ x.opened (st (place_of x.transfer.sender z.0)) = subst (λ b. x.epoch b ≡ x.opened (st b)) (sym z.2) (open_now q d.1 dn) in
                      let after_it : r.at ≤ z.0 =
                      elim (cases_lt z.0 r.at) [
                        | inr g ↦ g
                        | inl b ↦ let m = out.fifo z.0 r.at b ht (zs ∙ sym r.on_stream) in absurd (omega (arith, m, zp, lt))
                      ] in
                      elim (cases_lt z.0 x.transfer.acknowledged) [
                        | inr g ↦
                            let v = subst (λ y. x.transfer.sender.counts true y < x.transfer.sender.number (place_of x.transfer.sender z.0) + 32000) zs (windows.messages z.0 g z.1 zo zq) in
                            omega (arith, v, zn, nc)
                        | inl b ↦
                            let v = greatest (x.transfer.sender.number (place_of x.transfer.sender z.0)) (r.further z.0 after_it (omega (arith, b, ahead)) zo zs) in
                            absurd (omega (arith, v, zn))
                      ]
                ]
          ],
        )

-- ---- the epoch of what becomes ready meanwhile

module _ (message : ℕ → Message) (is_interleaved : Bool) where
  none_added : (x y : Epochs) → y.transfer.receiver.places ≡ x.transfer.receiver.places → Bracketed message x y
  none_added x y e = record { more = []; places = e ∙ sym (append-nil x.transfer.receiver.places); least = λ p h. cc; most = λ p h. cc }

  delivered : (x : Epochs) → InEpochs message is_interleaved x → (p : ℕ) → IsAllowed message is_interleaved x.transfer (become_ready p) → Bracketed message x (goes message is_interleaved x (transfers (become_ready p)))
  delivered x k p a =
      let e = in_its_epoch message is_interleaved x k.order p a in
      record {
        more = p ∷ [];
        places = refl;
        least = λ q h. let i = one q h in subst (λ z. x.performed (stream_of message z) ≤ x.epoch z) (sym i) (omega (arith, e));
        most = λ q h. let i = one q h in subst (λ z. x.epoch z ≤ x.performed (stream_of message z)) (sym i) (omega (arith, e));
      }
    where
      one : (q : ℕ) → has q (p ∷ []) ≡ true → q ≡ p
      one q h = elim (or_cases (eqb q p) false h) [ inl e ↦ eqb-true q p e | inr f ↦ absurd (not_both f refl) ]

  once : (x : Epochs) → InEpochs message is_interleaved x → (e : ResetEvent) → MayReset message is_interleaved x e → Bracketed message x (goes message is_interleaved x e)
  once x k (transfers accept) a = none_added x (goes message is_interleaved x (transfers accept)) refl
  once x k (transfers (begin p)) a = none_added x (goes message is_interleaved x (transfers (begin p))) refl
  once x k (transfers (number p bytes more)) a = none_added x (goes message is_interleaved x (transfers (number p bytes more))) refl
  once x k (transfers (end_with_placeholder p)) a = none_added x (goes message is_interleaved x (transfers (end_with_placeholder p))) refl
  once x k (transfers (give_up p)) a = none_added x (goes message is_interleaved x (transfers (give_up p))) refl
  once x k (transfers (data_comes t)) a = none_added x (goes message is_interleaved x (transfers (data_comes t))) refl
  once x k (transfers (late_comes t)) a = none_added x (goes message is_interleaved x (transfers (late_comes t))) refl
  once x k (transfers (become_ready p)) a = delivered x k p a.0
  once x k (transfers (send_sack c)) a = none_added x (goes message is_interleaved x (transfers (send_sack c))) refl
  once x k (transfers (acknowledge_next c)) a = none_added x (goes message is_interleaved x (transfers (acknowledge_next c))) refl
  once x k (transfers (send_forward f)) a = none_added x (goes message is_interleaved x (transfers (send_forward f))) refl
  once x k (transfers (forward_comes f)) a = none_added x (goes message is_interleaved x (transfers (forward_comes f))) refl
  once x k (transfers (perform_reset s c)) a = absurd a.1
  once x k (reset_stream s) a = none_added x (goes message is_interleaved x (reset_stream s)) refl
  once x k (send_request s) a = none_added x (goes message is_interleaved x (send_request s)) refl
  once x k (perform r) a = none_added x (goes message is_interleaved x (perform r)) refl
  once x k (commit s) a = none_added x (goes message is_interleaved x (commit s)) refl

  -- what was performed only rises
  performed_once : (x : Epochs) (e : ResetEvent) → MayReset message is_interleaved x e → (s : ℕ) → x.performed s ≤ (goes message is_interleaved x e).performed s
  performed_once x (transfers e) a s = omega arith
  performed_once x (reset_stream b) a s = omega arith
  performed_once x (send_request b) a s = omega arith
  performed_once x (commit b) a s = omega arith
  performed_once x (perform r) a s =
      elim (cases_eq s r.stream) [
        | inl e ↦
            let at = put_at x.performed r.stream r.epoch s e in
            let n = a.1 in
            let pe = ap x.performed e in
            omega (arith, at, n, pe)
        | inr d ↦ let off = put_off x.performed r.stream r.epoch s d in omega (arith, off)
      ]

  -- an accepted message keeps its epoch
  epoch_once : (x : Epochs) (e : ResetEvent) (p : ℕ) → p < x.transfer.sender.accepted → (goes message is_interleaved x e).epoch p ≡ x.epoch p
  epoch_once x (transfers accept) p h = put_off x.epoch x.transfer.sender.accepted (x.raised (stream_of message x.transfer.sender.accepted)) p (omega (arith, h))
  epoch_once x (transfers (begin q)) p h = refl
  epoch_once x (transfers (number q bytes more)) p h = refl
  epoch_once x (transfers (end_with_placeholder q)) p h = refl
  epoch_once x (transfers (give_up q)) p h = refl
  epoch_once x (transfers (data_comes t)) p h = refl
  epoch_once x (transfers (late_comes t)) p h = refl
  epoch_once x (transfers (become_ready q)) p h = refl
  epoch_once x (transfers (send_sack c)) p h = refl
  epoch_once x (transfers (acknowledge_next c)) p h = refl
  epoch_once x (transfers (send_forward f)) p h = refl
  epoch_once x (transfers (forward_comes f)) p h = refl
  epoch_once x (transfers (perform_reset s c)) p h = refl
  epoch_once x (reset_stream b) p h = refl
  epoch_once x (send_request b) p h = refl
  epoch_once x (perform r) p h = refl
  epoch_once x (commit b) p h = refl

  accepted_once : (x : Epochs) (e : ResetEvent) → x.transfer.sender.accepted ≤ (goes message is_interleaved x e).transfer.sender.accepted
  accepted_once x (transfers accept) = omega arith
  accepted_once x (transfers (begin q)) = omega arith
  accepted_once x (transfers (number q bytes more)) = omega arith
  accepted_once x (transfers (end_with_placeholder q)) = omega arith
  accepted_once x (transfers (give_up q)) = omega arith
  accepted_once x (transfers (data_comes t)) = omega arith
  accepted_once x (transfers (late_comes t)) = omega arith
  accepted_once x (transfers (become_ready q)) = omega arith
  accepted_once x (transfers (send_sack c)) = omega arith
  accepted_once x (transfers (acknowledge_next c)) = omega arith
  accepted_once x (transfers (send_forward f)) = omega arith
  accepted_once x (transfers (forward_comes f)) = omega arith
  accepted_once x (transfers (perform_reset s c)) = omega arith
  accepted_once x (reset_stream b) = omega arith
  accepted_once x (send_request b) = omega arith
  accepted_once x (perform r) = omega arith
  accepted_once x (commit b) = omega arith

  epoch_along : (es : List ResetEvent) (x : Epochs) (p : ℕ) → p < x.transfer.sender.accepted → (go_all message is_interleaved x es).epoch p ≡ x.epoch p
  epoch_along [] x p h = refl
  epoch_along (e ∷ es) x p h =
      let c = accepted_once x e in
      epoch_along es (goes message is_interleaved x e) p (omega (arith, h, c)) ∙ epoch_once x e p h

  performed_along : (es : List ResetEvent) (x : Epochs) → MayAll message is_interleaved x es → (s : ℕ) → x.performed s ≤ (go_all message is_interleaved x es).performed s
  performed_along [] x h s = omega arith
  performed_along (e ∷ es) x h s =
      let a = performed_once x e h.0 s in
      let b = performed_along es (goes message is_interleaved x e) h.1 s in
      omega (arith, a, b)

  has_parts : (p : ℕ) (xs ys : List ℕ) → has p (xs ++ ys) ≡ true → (has p xs ≡ true) ⊎ (has p ys ≡ true)
  has_parts p [] ys h = inr h
  has_parts p (q ∷ xs) ys h =
      elim (or_cases (eqb p q) (has p (xs ++ ys)) h) [
        | inl e ↦ inl (or_left (eqb p q) (has p xs) e)
        | inr o ↦ elim (has_parts p xs ys o) [ inl l ↦ inl (or_right (eqb p q) (has p xs) l) | inr r ↦ inr r ]
      ]

  has_left : (p : ℕ) (xs ys : List ℕ) → has p ys ≡ true → has p (xs ++ ys) ≡ true
  has_left p [] ys h = h
  has_left p (q ∷ xs) ys h = or_right (eqb p q) (has p (xs ++ ys)) (has_left p xs ys h)

  pub bracketed : (es : List ResetEvent) (x : Epochs) → InEpochs message is_interleaved x → MayAll message is_interleaved x es → Bracketed message x (go_all message is_interleaved x es)
  bracketed [] x k h = none_added x x refl
  bracketed (e ∷ es) x k h =
      let y = goes message is_interleaved x e in
      let ky = keeps_epochs message is_interleaved x k e h.0 in
      let a = once x k e h.0 in
      let b = bracketed es y ky h.1 in
      let z = go_all message is_interleaved y es in
      record {
        more = a.more ++ b.more;
        places = b.places ∙ (ap (λ v. v ++ b.more) a.places ∙ append_assoc x.transfer.receiver.places a.more b.more);
        least = λ p m.
            let first = performed_once x e h.0 (stream_of message p) in
            elim (has_parts p a.more b.more m) [
              | inl i ↦ let l = a.least p i in let same = epoch_along es y p (accepted_of p i) in omega (arith, l, same)
              | inr i ↦ let l = b.least p i in omega (arith, first, l)
            ];
        most = λ p m.
            let later = performed_along es y h.1 (stream_of message p) in
            elim (has_parts p a.more b.more m) [
              | inl i ↦ let l = a.most p i in let same = epoch_along es y p (accepted_of p i) in omega (arith, l, same, later)
              | inr i ↦ b.most p i
            ];
      }
    where
      -- a ready message was accepted
      accepted_of : (p : ℕ) → has p (once x k e h.0).more ≡ true → p < (goes message is_interleaved x e).transfer.sender.accepted
      accepted_of p i =
          let a = once x k e h.0 in
          let ky = keeps_epochs message is_interleaved x k e h.0 in
          let r = subst (λ v. has p v ≡ true) (sym a.places) (has_left p x.transfer.receiver.places a.more i) in
          ky.order.kept.outgoing.begun_below p (ky.order.kept.incoming.ready_begun p r)
