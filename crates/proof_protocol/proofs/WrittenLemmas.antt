-- No rule of the transfer lets numbers on the wire begin again.
use Rattle.std.proofs.Common.{◌≡◌, ℕ, suc, ◌&&◌, Bool, cond, inl, inr, List, [], ◌∷◌, refl, sym, ap, ◌∙◌, subst, eqb}
use Rattle.proof_protocol.specs.State.{Message, Entry, ForwardPoint, Transfer, IsAmong, start, ordered_of, stream_of}
use Rattle.proof_protocol.specs.Rules.{TransferEvent, accept, begin, number, end_with_placeholder, give_up, data_comes, late_comes, become_ready, send_sack, acknowledge_next, send_forward, forward_comes, perform_reset, same, AreWritten, Happens, IsAllowed, after, run}
use Rattle.proof_protocol.specs.Written.{AreTheirOwn}

pub own_at_start : AreTheirOwn start.sender start.forward_points
own_at_start = record { messages = λ p. refl; next = λ kind s. refl; entries = λ f a. absurd a }

module _ (message : ℕ → Message) (is_interleaved : Bool) (x : Transfer) (h : AreTheirOwn x.sender x.forward_points) where
  -- a message takes its number
  own_begun : (p : ℕ) → AreTheirOwn (after message is_interleaved x (begin p)).sender x.forward_points
  own_begun p = record { messages = messages; next = next; entries = h.entries }
    where
      messages : (q : ℕ) → (after message is_interleaved x (begin p)).sender.written q ≡ (after message is_interleaved x (begin p)).sender.number q
      messages q =
          ap (λ n. cond (eqb q p) n (x.sender.written q)) (h.next (ordered_of message p) (stream_of message p))
          ∙ ap (λ n. cond (eqb q p) (x.sender.counts (ordered_of message p) (stream_of message p)) n) (h.messages q)

      next : (kind : Bool) (s : ℕ) → (after message is_interleaved x (begin p)).sender.following kind s ≡ (after message is_interleaved x (begin p)).sender.counts kind s
      next kind s = ap (λ n. cond (same (ordered_of message p) kind && eqb s (stream_of message p)) (suc n) n) (h.next kind s)

  -- the entries of a point are written as messages
  own_entries : (from upto : ℕ) (es : List Entry) → AreWritten message is_interleaved x.sender from upto es → (e : Entry) → IsAmong e es → e.written ≡ e.number
  own_entries from upto [] w e a = absurd a
  own_entries from upto (d ∷ es) w e (inl is) =
      let z = w.0 in
      subst (λ (v : Entry). v.written ≡ v.number) (sym is) (sym z.6 ∙ (h.messages _ ∙ z.5))
  own_entries from upto (d ∷ es) w e (inr a) = own_entries from upto es w.1 e a

  pub own_after : (e : TransferEvent) → IsAllowed message is_interleaved x e → AreTheirOwn (after message is_interleaved x e).sender (after message is_interleaved x e).forward_points
  own_after accept a = record { messages = h.messages; next = h.next; entries = h.entries }
  own_after (begin p) a = own_begun p
  own_after (number p bytes more) a = record { messages = h.messages; next = h.next; entries = h.entries }
  own_after (end_with_placeholder p) a = record { messages = h.messages; next = h.next; entries = h.entries }
  own_after (give_up p) a = record { messages = h.messages; next = h.next; entries = h.entries }
  own_after (data_comes t) a = h
  own_after (late_comes t) a = h
  own_after (become_ready p) a = h
  own_after (send_sack c) a = h
  own_after (acknowledge_next c) a = h
  own_after (send_forward f) a = record { messages = h.messages; next = h.next; entries = entries }
    where
      entries : (g : ForwardPoint) → IsAmong g (f ∷ x.forward_points) → (e : Entry) → IsAmong e g.entries → e.written ≡ e.number
      entries g (inl is) e b =
          own_entries x.acknowledged f.upto f.entries a.as_written e (subst (λ (z : ForwardPoint). IsAmong e z.entries) is b)
      entries g (inr old) e b = h.entries g old e b
  own_after (forward_comes f) a = h
  own_after (perform_reset s c) a = h

pub own_along : (message : ℕ → Message) (is_interleaved : Bool) (es : List TransferEvent) (x : Transfer) → Happens message is_interleaved x es → AreTheirOwn x.sender x.forward_points
    → AreTheirOwn (run message is_interleaved x es).sender (run message is_interleaved x es).forward_points
own_along message is_interleaved [] x m h = h
own_along message is_interleaved (e ∷ es) x m h = own_along message is_interleaved es (after message is_interleaved x e) m.1 (own_after message is_interleaved x h e m.0)
