-- The next fragment of all streams takes its TSN.
use Rattle.std.proofs.Common.{◌≡◌, ◌≢◌, ℕ, suc, ◌+◌, ◌^◌, ◌<◌, Bool, true, false, not, cond, inl, inr, Option, Some, None, List, [], ◌∷◌, refl, sym, ap, ◌∙◌, subst, arith}
use Rattle.std.specs.Prelude.{is_some, unwrap_or, ◌==◌, ◌&&◌}
use Rattle.std.specs.List.{list_all}
use Rattle.std.specs.Map.{lookup}
use Rattle.std.specs.Ordering.{nat_cmp}
use Rattle.std.specs.BTreeMap.{is_at}
use Rattle.std.proofs.lemmas.Bool.{cases_eq, eq-eqb, ne_eqb, and_parts, eqb-true}
use Rattle.std.proofs.Math.Nat.{mod-eq_of_lt}
use Rattle.sctp_serial.specs.Unwrapped.{origin}
use Rattle.sctp_state.specs.Events.{Emitted}
use Rattle.sctp_stream_scheduler.specs.StreamScheduler.{peek}
use Rattle.sctp_tx_queue.specs.declared.send_queue.message.MessageNumbers.{MessageNumbers}
use Rattle.sctp_tx_queue.specs.SendQueue as queue
use Rattle.sctp_tx_queue.specs.SendQueue.{Queued, Queue, Stream, Streams, blank, stream}
use Rattle.sctp_tx_queue.specs.Produced.{Produced, numbers_of, took, next_wrapping, emitted_made, next_stream}
use Rattle.sctp_tx_queue.specs.InOrder.{is_unsent, is_begun_or_waiting, are_in_order, is_first_begun, is_this}
use Rattle.sctp_tx_queue.proofs.InOrderLemmas.{unnumbered}
use Rattle.sctp_tx_queue.proofs.StreamsLemmas.{stream_put, stream_nowhere, put_nowhere}
use Rattle.proof_protocol.specs.State.{Message, Sender, stream_of, ordered_of}
use Rattle.proof_protocol.specs.Rules.{begins, same}
use Rattle.proof_protocol.proofs.ToolsLemmas.{put_at, not_both}
use Rattle.proof_refines.specs.SenderRefinement.{find, numbers_at, IsNext}
use Rattle.proof_refines.specs.Reachable.{recorded_places}
use Rattle.proof_refines.proofs.FoundLemmas.{one_value, found_at, found_off}

-- ---- streams

-- a stream after a change that leaves a blank one as it is
pub stream_changed : (id : ℕ) (f : Stream → Stream) (ss : Streams) → f (blank ss) ≡ blank ss → stream id (queue.put_stream id (f (stream id ss)) ss) ≡ f (stream id ss)
stream_changed id f ss same = go (lookup (is_at (nat_cmp id)) ss.entries) refl
  where
    go : (o : Option Stream) → lookup (is_at (nat_cmp id)) ss.entries ≡ o → stream id (queue.put_stream id (f (stream id ss)) ss) ≡ f (stream id ss)
    go None e =
        let blank_is = stream_nowhere id ss (sym e) in
        ap (λ (z : Streams). stream id z) (put_nowhere id (f (stream id ss)) ss (sym e)) ∙ (blank_is ∙ (sym same ∙ ap f (sym blank_is)))
    go (Some s) e = stream_put id (f (stream id ss)) ss (ap is_some e)

pub is_other : (k id : ℕ) → k ≢ id → (k == id) ≡ false
is_other k id d = ne_eqb k id d

pub emitted_same : {P : Type 0} (id : ℕ) (a b : Bool) (made : Option Produced) (emitted : Emitted P) → recorded_places (emitted_made id a b made emitted) ≡ recorded_places emitted
emitted_same id a b None emitted = refl
emitted_same id a b (Some made) emitted = refl

-- ---- only the first of a stream has its number

pub behind_waits : (p : ℕ) (ms : List Queued) (m : Queued) → list_all is_unsent ms ≡ true → find p ms ≡ Some m → is_some m.numbers ≡ false
behind_waits p [] m h f = absurd (cc)
behind_waits p (a ∷ rest) m h f =
    let hs = and_parts (is_unsent a) (list_all is_unsent rest) h in
    elim (cases_eq a.number p) [
      | inl e ↦ subst (λ (z : Queued). is_some z.numbers ≡ false) (one_value (find p (a ∷ rest)) a m (found_at p a rest e) f) (unnumbered (is_some a.numbers) (a.offset == 0) hs.0)
      | inr d ↦ behind_waits p rest m hs.1 (sym (found_off p a rest d) ∙ f)
    ]

pub begun_first : (p : ℕ) (ms : List Queued) (m : Queued) → are_in_order ms ≡ true → find p ms ≡ Some m → is_some m.numbers ≡ true → is_first_begun ms ≡ true
begun_first p [] m h f b = absurd (cc)
begun_first p (a ∷ rest) m h f b =
    elim (cases_eq a.number p) [
      | inl e ↦ subst (λ (z : Queued). is_some z.numbers ≡ true) (sym (one_value (find p (a ∷ rest)) a m (found_at p a rest e) f)) b
      | inr d ↦ absurd (not_both b (behind_waits p rest m (and_parts (is_begun_or_waiting a) (list_all is_unsent rest) h).1 (sym (found_off p a rest d) ∙ f)))
    ]

pub this_is : (k : ℕ) (begun : Option ℕ) → is_this k begun ≡ true → begun ≡ Some k
this_is k None h = absurd (cc)
this_is k (Some id) h = ap Some (sym (eqb-true k id h))

pub next_begun : (q : Queue) (k id : ℕ) → next_stream q ≡ Some id → q.begun ≡ Some k → k ≡ id
next_begun q k id next e = one_value (next_stream q) k id (ap (λ (b : Option ℕ). cond (is_some b) b (peek q.scheduler)) e) next

-- ---- numbers are taken

counted_is : (n c : ℕ) → n ≡ origin + c → c < 2 ^ 32 → next_wrapping n ≡ origin + suc c
counted_is n c e l = mod-eq_of_lt (omega (arith, e, l)) ∙ (omega (arith, e))

module _ (message : ℕ → Message) where
  -- the stream of a message that takes its numbers
  pub took_next : (o : Sender) (id : ℕ) (m : Queued) (t : Stream) → m.numbers ≡ None → m.is_unordered ≡ not (ordered_of message m.number) → stream_of message m.number ≡ id
      → ((kind : Bool) → o.following kind id < 2 ^ 32) → IsNext o id t → IsNext (begins message o m.number) id (took m t)
  took_next o id m t none kind on few h = go (ordered_of message m.number) refl
    where
      o1 : Sender
      o1 = begins message o m.number

      taken : Bool → Stream
      taken u = cond u (record t { next_unordered_mid = next_wrapping t.next_unordered_mid }) (record t { next_ssn = next_wrapping t.next_ssn; next_ordered_mid = next_wrapping t.next_ordered_mid })

      same_id : (id == stream_of message m.number) ≡ true
      same_id = eq-eqb id (stream_of message m.number) (sym on)

      took_is : took m t ≡ taken (not (ordered_of message m.number))
      took_is = ap (λ (o : Option MessageNumbers). cond (is_some o) t (taken m.is_unordered)) none ∙ ap taken kind

      count_is : (kind b : Bool) → ordered_of message m.number ≡ b → o1.following kind id ≡ cond (same b kind) (suc (o.following kind id)) (o.following kind id)
      count_is kind b e =
          ap (λ z. cond (same (ordered_of message m.number) kind && z) (suc (o.following kind id)) (o.following kind id)) same_id
          ∙ (ap (λ z. cond (same z kind && true) (suc (o.following kind id)) (o.following kind id)) e ∙ by (same b kind))
        where
          by : (c : Bool) → cond (c && true) (suc (o.following kind id)) (o.following kind id) ≡ cond c (suc (o.following kind id)) (o.following kind id)
          by true = refl
          by false = refl

      go : (b : Bool) → ordered_of message m.number ≡ b → IsNext o1 id (took m t)
      go true e =
          let is : took m t ≡ taken false = took_is ∙ ap (λ z. taken (not z)) e in
          subst (λ (z : Stream). IsNext o1 id z) (sym is) (record {
            ssn = counted_is t.next_ssn (o.following true id) h.ssn (few true) ∙ ap (λ z. origin + z) (sym (count_is true true e));
            ordered_mid = counted_is t.next_ordered_mid (o.following true id) h.ordered_mid (few true) ∙ ap (λ z. origin + z) (sym (count_is true true e));
            unordered_mid = h.unordered_mid ∙ ap (λ z. origin + z) (sym (count_is false true e));
          })
      go false e =
          let is : took m t ≡ taken true = took_is ∙ ap (λ z. taken (not z)) e in
          subst (λ (z : Stream). IsNext o1 id z) (sym is) (record {
            ssn = h.ssn ∙ ap (λ z. origin + z) (sym (count_is true false e));
            ordered_mid = h.ordered_mid ∙ ap (λ z. origin + z) (sym (count_is true false e));
            unordered_mid = counted_is t.next_unordered_mid (o.following false id) h.unordered_mid (few false) ∙ ap (λ z. origin + z) (sym (count_is false false e));
          })

  -- the numbers that it takes
  pub took_numbers : (o : Sender) (id : ℕ) (m : Queued) (t : Stream) → m.numbers ≡ None → m.is_unordered ≡ not (ordered_of message m.number) → stream_of message m.number ≡ id
      → IsNext o id t → numbers_of t m ≡ numbers_at message (begins message o m.number) m.number
  took_numbers o id m t none kind on h =
      ap (λ (z : Option MessageNumbers). unwrap_or z (fresh_numbers m.is_unordered)) none ∙ (ap fresh_numbers kind ∙ go (ordered_of message m.number) refl)
    where
      fresh_numbers : Bool → MessageNumbers
      fresh_numbers u = record { ssn = cond u origin t.next_ssn; mid = cond u t.next_unordered_mid t.next_ordered_mid }

      number_is : (b : Bool) → ordered_of message m.number ≡ b → (begins message o m.number).written m.number ≡ o.following b id
      number_is b e = put_at o.written m.number (o.following (ordered_of message m.number) (stream_of message m.number)) m.number refl ∙ (ap (λ z. o.following z (stream_of message m.number)) e ∙ ap (o.following b) on)

      at_number : Bool → ℕ → MessageNumbers
      at_number b n = record { ssn = cond b (origin + n) origin; mid = origin + n }

      go : (b : Bool) → ordered_of message m.number ≡ b → fresh_numbers (not (ordered_of message m.number)) ≡ numbers_at message (begins message o m.number) m.number
      go b e =
          ap (λ z. fresh_numbers (not z)) e
          ∙ (by b ∙ (sym (ap (λ n. at_number b n) (number_is b e)) ∙ sym (ap (λ z. at_number z ((begins message o m.number).written m.number)) e)))
        where
          by : (b : Bool) → fresh_numbers (not b) ≡ at_number b (o.following b id)
          by true = λ i. record { ssn = h.ssn i; mid = h.ordered_mid i }
          by false = λ i. record { ssn = origin; mid = h.unordered_mid i }
