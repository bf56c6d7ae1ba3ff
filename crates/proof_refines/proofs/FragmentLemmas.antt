-- A fragment of the sender that comes.
use Rattle.std.proofs.Common.{◌≡◌, ℕ, ◌+◌, ◌-◌, ◌^◌, ◌<◌, ◌≤◌, Bool, true, false, cond, inl, inr, List, refl, ap, sym, ◌∙◌, subst, arith}
use Rattle.std.specs.Prelude.{not, ◌&&◌, ◌||◌, nat_lt}
use Rattle.std.proofs.lemmas.Bool.{cond-true, cond-false, eqb-true, and_parts, or_right}
use Rattle.std.proofs.lemmas.Bool.Decides.{nat_tests}
use Rattle.std.proofs.Math.Bool.{not-not}
use Rattle.sctp_serial.specs.Messages as messages
use Rattle.sctp_serial.specs.Unwrapped.{origin}
use Rattle.sctp_packet.specs.Chunk.{FragmentTree}
use Rattle.sctp_rx.specs.Held.{Held}
use Rattle.sctp_rx.specs.ReassemblyStreams as streams
use Rattle.sctp_rx.specs.ReassemblyStreams.{is_far, held_as, place_of}
use Rattle.sctp_rx.specs.ReassemblyQueue.{Reassembly, number_of, came, apply_outcome, add, add_now, add_or_keep_back, is_kept_back, keep_back, Added}
use Rattle.proof_protocol.specs.State as rules
use Rattle.proof_protocol.specs.State.{Message, Transfer, Sender, fragment, ordered_of, stream_of}
use Rattle.proof_protocol.specs.Rules.{floor}
use Rattle.proof_protocol.specs.Joints.{Refines}
use Rattle.proof_protocol.specs.Reassembly.{Queue, KeyOf, next_of, IsLate}
use Rattle.proof_protocol.specs.Lifted.{lift, wire_key, wire_chunk, IsOfCurrentEpoch}
use Rattle.proof_refines.specs.View.{IsFiled, IsSeenAs, chunk_of_held, key_of_held, ordered_at, unordered_at, view_of}
use Rattle.proof_refines.specs.Read.{Carries, IsRead, number_read, is_behind}
use Rattle.proof_refines.proofs.HeldKeyLemmas.{ordered_is}

-- ---- what is read

-- the fragment as it would be held
abbrev pub item : Reassembly → ℕ → FragmentTree → Held
item r tsn f = held_as r.streams.is_interleaved (number_read f.is_unordered f r.streams) (number_of r tsn) f

module _ (message : ℕ → Message) (is_interleaved : Bool) (shift : ℕ) (o : Sender) (r : Reassembly) (k tsn : ℕ) (f : FragmentTree) (carries : Carries message is_interleaved o k f) (read : IsRead message is_interleaved shift o r k tsn f) (mode : r.streams.is_interleaved ≡ is_interleaved) where
  kind_is : not f.is_unordered ≡ ordered_of message (rules.place_of o k)
  kind_is = ap not carries.kind ∙ not-not (ordered_of message (rules.place_of o k))

  number_is : number_read f.is_unordered f r.streams - origin ≡ (wire_chunk message is_interleaved o k).number
  number_is = let e = read.number_is in omega (arith, e)

  pub chunk_is : chunk_of_held (wire_chunk message is_interleaved o k).protocol_id (item r tsn f) ≡ wire_chunk message is_interleaved o k
  chunk_is =
      let a = kind_is in
      let b = carries.stream in
      let c = number_is in
      let d = carries.begins in
      let e = carries.ends in
      let h = carries.payload in
      λ i. record { ordered = a i; stream = b i; number = c i; is_beginning = d i; is_end = e i; protocol_id = (wire_chunk message is_interleaved o k).protocol_id; payload = h i }

  -- its place in its message
  fsn_is : (m : Bool) → is_interleaved ≡ m → m ≡ true → place_of m (number_of r tsn) f ≡ (fragment o k).index
  fsn_is false e t = cc
  fsn_is true e t = go f.is_beginning refl
    where
      go : (b : Bool) → f.is_beginning ≡ b → cond b 0 f.fsn ≡ (fragment o k).index
      go true s = sym (eqb-true ((fragment o k).index) 0 (sym carries.begins ∙ s))
      go false s = carries.fsn e s

  item_key : (m : Bool) → is_interleaved ≡ m → key_of_held m shift (held_as m (number_read f.is_unordered f r.streams) (number_of r tsn) f) ≡ wire_key m message o k
  item_key false e = let h = read.tsn_is in omega (arith, h)
  item_key true e =
      let a = kind_is in
      let b = carries.stream in
      let c : number_read f.is_unordered f r.streams - origin ≡ o.written (rules.place_of o k) =
      number_is ∙ cond-true (ordered_of message (rules.place_of o k) || is_interleaved) (o.written (rules.place_of o k)) 0 (or_right (ordered_of message (rules.place_of o k)) is_interleaved e) in
      let d = fsn_is true e refl in
      λ i. record { ordered = a i; stream = b i; number = c i; index = d i }

  pub key_is : key_of_held is_interleaved shift (item r tsn f) ≡ wire_key is_interleaved message o k
  key_is = subst (λ z. key_of_held is_interleaved shift (held_as z (number_read f.is_unordered f r.streams) (number_of r tsn) f) ≡ wire_key is_interleaved message o k) (sym mode) (item_key is_interleaved refl)

  index_from : (m : Bool) → m ≡ false → origin ≤ place_of m (number_of r tsn) f + shift
  index_from false e = let h = read.tsn_is in omega (arith, h)
  index_from true e = cc

  index_below : (m : Bool) → is_interleaved ≡ m → place_of m (number_of r tsn) f < 2 ^ 63
  index_below false e = let b = read.tsn_below in let h = read.tsn_is in omega (arith, b, h)
  index_below true e = let b = read.index_below in let i = fsn_is true e refl in omega (arith, b, i)

  pub filed : (kind : Bool) → f.is_unordered ≡ not kind → IsFiled is_interleaved shift kind f.stream_id (item r tsn f)
  filed kind is = record {
    kind_is = is;
    stream_is = refl;
    number_from = let e = read.number_is in omega (arith, e);
    index_from = λ m. subst (λ z. origin ≤ place_of z (number_of r tsn) f + shift) (sym mode) (index_from is_interleaved m);
    index_below = subst (λ z. place_of z (number_of r tsn) f < 2 ^ 63) (sym mode) (index_below is_interleaved refl);
  }

  far_is : (a n : ℕ) → a ≤ origin + n → n < 2 ^ 62 → is_far a ≡ false
  far_is a n e l = grind (arith, nat_tests)

  pub number_near : is_far (item r tsn f).number ≡ false
  number_near = let e = read.number_is in far_is (number_read f.is_unordered f r.streams) (wire_chunk message is_interleaved o k).number (omega (arith, e)) read.number_below

  -- the call
  pub added_now : is_kept_back (number_of r tsn) f.stream_id r.deferred ≡ false → add tsn f r ≡ apply_outcome (streams.add (number_of r tsn) f r.streams) (came tsn r)
  added_now at_once =
      cond-false (is_far (number_of r tsn)) r (add_or_keep_back (number_of r tsn) f (came tsn r)) (let e = read.tsn_is in far_is (number_of r tsn) k (omega (arith, e)) read.tsn_below)
      ∙ cond-false (is_kept_back (number_of r tsn) f.stream_id r.deferred) (keep_back (Added (number_of r tsn) f) (came tsn r)) (add_now (number_of r tsn) f (came tsn r)) at_once

-- ---- is it late?

module _ (message : ℕ → Message) (is_interleaved : Bool) (shift : ℕ) (x : Transfer) (handed : List messages.Message) (r : Reassembly) (k tsn : ℕ) (f : FragmentTree) (carries : Carries message is_interleaved x.sender k f) (read : IsRead message is_interleaved shift x.sender r k tsn f)
    (base : Bool → ℕ → ℕ) (q : Queue (KeyOf is_interleaved) (next_of is_interleaved)) (shows : Refines message is_interleaved x (lift base is_interleaved q)) (p : IsSeenAs is_interleaved shift (view_of handed r) q)
    (current : IsOfCurrentEpoch base message x.sender k) where
  abbrev place : ℕ
  place = rules.place_of x.sender k

  abbrev number : ℕ
  number = x.sender.number place

  abbrev written : ℕ
  written = x.sender.written place

  abbrev wire_number : ℕ
  wire_number = (wire_chunk message is_interleaved x.sender k).number

  -- with the base b on both sides
  below : (a c w n d e b : ℕ) → a ≡ origin + w → c ≡ origin + n → b + w ≡ d → b + n ≡ e → nat_lt a c ≡ nat_lt d e
  below a c w n d e b f g h i = grind (arith, nat_tests)

  below_passed : (a c w n d e b : ℕ) → a ≡ origin + w → n ≡ c - origin → b + w ≡ d → b + n ≡ e → nat_lt a c ≡ nat_lt d e
  below_passed a c w n d e b f g h i = grind (arith, nat_tests)

  -- the number of the rules
  now_as : (b : Bool) → ordered_of message place ≡ b → base b (stream_of message place) + written ≡ number
  now_as b e = subst (λ z. base z (stream_of message place) + written ≡ number) e current

  not_below : (a b c : ℕ) → a ≡ origin + c → c ≡ 0 → b ≤ origin → nat_lt a b ≡ false
  not_below a b c e g l = grind (arith, nat_tests)

  pub ordered_behind : f.is_unordered ≡ false → nat_lt (item r tsn f).number (ordered_at r.streams f.stream_id).next ≡ is_behind message is_interleaved x.sender x.receiver k
  ordered_behind e =
      let o = ordered_is f.is_unordered false (ordered_of message place) carries.kind e in
      let own_is : wire_number ≡ written = cond-true (ordered_of message place || is_interleaved) written 0 (ap (λ z. z || is_interleaved) o) in
      let next_is : (ordered_at r.streams f.stream_id).next ≡ origin + q.next (stream_of message place) = p.next f.stream_id ∙ ap (λ z. origin + q.next z) carries.stream in
      below (item r tsn f).number (ordered_at r.streams f.stream_id).next written (q.next (stream_of message place)) number (x.receiver.next (stream_of message place)) (base true (stream_of message place))
      (read.number_is ∙ ap (λ z. origin + z) own_is) next_is (now_as true o) (shows.next_is (stream_of message place))
      ∙ sym (ap (λ b. (b || is_interleaved) && nat_lt number (floor x.receiver b (stream_of message place))) o)

  pub unordered_behind : f.is_unordered ≡ true → nat_lt (item r tsn f).number (unordered_at r.streams f.stream_id).passed ≡ is_behind message is_interleaved x.sender x.receiver k
  unordered_behind e = go is_interleaved refl ∙ sym (ap (λ b. (b || is_interleaved) && nat_lt number (floor x.receiver b (stream_of message place))) o)
    where
      o : ordered_of message place ≡ false
      o = ordered_is f.is_unordered true (ordered_of message place) carries.kind e

      go : (m : Bool) → is_interleaved ≡ m → nat_lt (item r tsn f).number (unordered_at r.streams f.stream_id).passed ≡ ((false || m) && nat_lt number (x.receiver.passed_below (stream_of message place)))
      go false m =
          let own_is : wire_number ≡ 0 = cond-false (ordered_of message place || is_interleaved) written 0 (ap (λ z. z || is_interleaved) o ∙ m) in
          not_below (item r tsn f).number (unordered_at r.streams f.stream_id).passed wire_number read.number_is own_is (p.none_passed m f.stream_id)
      go true m =
          let own_is : wire_number ≡ written = cond-true (ordered_of message place || is_interleaved) written 0 (ap (λ z. z || is_interleaved) o ∙ m) in
          let passed_is : q.passed_below (stream_of message place) ≡ (unordered_at r.streams f.stream_id).passed - origin =
          ap q.passed_below (sym carries.stream) ∙ p.passed m f.stream_id in
          below_passed (item r tsn f).number (unordered_at r.streams f.stream_id).passed written (q.passed_below (stream_of message place)) number (x.receiver.passed_below (stream_of message place))
          (base false (stream_of message place)) (read.number_is ∙ ap (λ z. origin + z) own_is) passed_is (now_as false o) (shows.passed_is m (stream_of message place))

  -- as the queue sees it
  pub late_in : is_behind message is_interleaved x.sender x.receiver k ≡ true → IsLate (KeyOf is_interleaved) (next_of is_interleaved) is_interleaved q (wire_chunk message is_interleaved x.sender k)
  late_in h = go (ordered_of message place) refl
    where
      less : (a w n d e b : ℕ) → a ≡ w → b + w ≡ d → b + n ≡ e → nat_lt d e ≡ true → a < n
      less a w n d e b f g h t = grind (arith, nat_tests)

      go : (b : Bool) → ordered_of message place ≡ b → IsLate (KeyOf is_interleaved) (next_of is_interleaved) is_interleaved q (wire_chunk message is_interleaved x.sender k)
      go true o =
          let t : nat_lt number (x.receiver.next (stream_of message place)) ≡ true = sym (ap (λ b. (b || is_interleaved) && nat_lt number (floor x.receiver b (stream_of message place))) o) ∙ h in
          let own_is : wire_number ≡ written = cond-true (ordered_of message place || is_interleaved) written 0 (ap (λ z. z || is_interleaved) o) in
          inl (
            o,
            less wire_number written (q.next (stream_of message place)) number (x.receiver.next (stream_of message place)) (base true (stream_of message place)) own_is (now_as true o)
                (shows.next_is (stream_of message place)) t,
          )
      go false o =
          let t = and_parts is_interleaved (nat_lt number (x.receiver.passed_below (stream_of message place))) (sym (ap (λ b. (b || is_interleaved) && nat_lt number (floor x.receiver b (stream_of message place))) o) ∙ h) in
          let own_is : wire_number ≡ written = cond-true (ordered_of message place || is_interleaved) written 0 (ap (λ z. z || is_interleaved) o ∙ t.0) in
          inr (
            t.0,
            o,
            less wire_number written (q.passed_below (stream_of message place)) number (x.receiver.passed_below (stream_of message place)) (base false (stream_of message place)) own_is (now_as false o)
                (shows.passed_is t.0 (stream_of message place)) t.1,
          )
