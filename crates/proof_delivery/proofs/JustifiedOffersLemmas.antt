-- What an end knows of its messages once it accepted more.
use Rattle.std.proofs.Common.{◌≡◌, ℕ, ◌+◌, ◌^◌, ◌<◌, Bool, Option, Some, None, List, [], ◌∷◌, ◌++◌, length, map, slice_get, refl, sym, ap, subst, ◌∙◌, append_assoc, append-nil, arith}
use Rattle.std.specs.List.{AllByRecursion}
use Rattle.std.proofs.lemmas.List.{length-append}
use Rattle.sctp_serial.specs.Messages.{Message}
use Rattle.sctp_state.specs.Options.{SendOptions}
use Rattle.sctp_state.specs.declared.api.SocketState.{SocketState}
use Rattle.sctp_state.specs.declared.api.errors.SendError.{SendError}
use Rattle.sctp_state.specs.Events.{GivenUp}
use Rattle.sctp_tx_queue.specs.SendQueue.{Queued, Stream, Queue, next_number}
use Rattle.sctp_tx_outstanding.specs.Item.{Item}
use Rattle.spec_endpoint.specs.Association.{Context}
use Rattle.spec_endpoint.specs.Calls.{send_refusal, queue_entry, accept, offered, offer_all}
use Rattle.proof_endpoint.specs.Mapped.{Carried}
use Rattle.proof_delivery.specs.Accepted.{unless_refused, accepted_of}
use Rattle.proof_delivery.specs.Justified.{Acceptance, accepted_then}
use Rattle.proof_delivery.proofs.JustifiedQueueLemmas.{Waits, Stands, Holds, holds_added}
use Rattle.proof_delivery.proofs.JustifiedItemLemmas.{Stays}
use Rattle.proof_delivery.proofs.JustifiedActsLemmas.{Known, Sound, IsJustifiedAt}
use Rattle.proof_protocol.proofs.CommonLemmas.{get_front, get_last}

-- ---- lists

all_weaker : {X : Type 0} (Q R : X → Type 0) → ((x : X) → Q x → R x) → (xs : List X) → AllByRecursion Q xs → AllByRecursion R xs
all_weaker Q R f [] h = tt
all_weaker Q R f (x ∷ xs) h = (f x h.0, all_weaker Q R f xs h.1)

-- ---- more acceptances

module _ (resets : List ℕ) (old more : List Acceptance) where
  abbrev all : List Acceptance
  all = old ++ more

  known_more : (id n : ℕ) (o : Option ℕ) (limit : ℕ) → Known old id n o limit → Known all id n o limit
  known_more id n o limit k = record { acceptance = k.acceptance; there = get_front old more n k.acceptance k.there; on = k.on; moment = k.moment; often = k.often }

  waits_more : (id : ℕ) (m : Queued) → Waits (Known old) id m → Waits (Known all) id m
  waits_more id m k = known_more id m.number m.expires m.limit k

  stands_more : (e : ℕ × Stream) → Stands (Known old) e → Stands (Known all) e
  stands_more e k = all_weaker (Waits (Known old) e.0) (Waits (Known all) e.0) (waits_more e.0) e.1.messages k

  stays_more : (i : Item) → Stays (Known old) i → Stays (Known all) i
  stays_more i k e = known_more i.fragment.stream_id i.number i.expires i.limit (k e)

  pub justified_more : (avoids : Bool) (now : ℕ) (g : GivenUp) → IsJustifiedAt old avoids resets now g → IsJustifiedAt all avoids resets now g
  justified_more avoids now g p = record { acceptance = p.acceptance; there = get_front old more g.number p.acceptance p.there; right = p.right }

  holds_more : (q : Queue) → Holds (Known old) (length old) q → Holds (Known all) (length old) q
  holds_more q h = record { stand = all_weaker (Stands (Known old)) (Stands (Known all)) stands_more q.streams.entries h.stand; counts = h.counts }

-- ---- one message is accepted

fits : (n : ℕ) → n + 1 < 2 ^ 32 → next_number n ≡ n + 1
fits n h = omega (arith, h)

abbrev pub SoundIn : List Acceptance → (resets : List ℕ) → List Item → Context Carried → Type 0
SoundIn all resets kept c = Sound all c.options.avoid_stalls resets kept c.now c.queue c.emitted.given_up

module _ (resets : List ℕ) (old : List Acceptance) (kept : List Item) (m : Message) (o : SendOptions) (c : Context Carried) where
  abbrev new : Acceptance
  new = accepted_then c.now (record { message = m; options = o })

  abbrev with_new : List Acceptance
  with_new = old ++ new ∷ []

  is_known : c.queue.next_number ≡ length old → Waits (Known with_new) m.stream (queue_entry c.queue.next_number c.now m o)
  is_known e = record { acceptance = new; there = ap (slice_get with_new) e ∙ get_last old new; on = refl; moment = refl; often = refl }

  sound_accepted : length with_new < 2 ^ 32 → SoundIn old resets kept c → SoundIn with_new resets kept (accept m o c)
  sound_accepted few h =
      let one : length with_new ≡ length old + 1 = length-append old (new ∷ []) in
      let next : next_number (length old) ≡ length with_new = fits (length old) (subst (λ (n : ℕ). n < 2 ^ 32) one few) ∙ sym one in
      record {
        holds = subst (λ (n : ℕ). Holds (Known with_new) n (accept m o c).queue) next
            (holds_added (Known with_new) m.stream (length old) (queue_entry c.queue.next_number c.now m o) c.queue (is_known h.holds.counts)
            (holds_more resets old (new ∷ []) c.queue h.holds));
        stay = all_weaker (Stays (Known old)) (Stays (Known with_new)) (stays_more resets old (new ∷ [])) kept h.stay;
        justified = all_weaker (IsJustifiedAt old c.options.avoid_stalls resets c.now) (IsJustifiedAt with_new c.options.avoid_stalls resets c.now) (justified_more resets old (new ∷ []) c.options.avoid_stalls c.now) c.emitted.given_up h.justified;
      }

-- ---- messages are offered

pub shorter : (a b : List Acceptance) → length (a ++ b) < 2 ^ 32 → length a < 2 ^ 32
shorter a b h = let e : length (a ++ b) ≡ length a + length b = length-append a b in omega (arith, e, h)

module _ (resets : List ℕ) (kept : List Item) (how : SendOptions) (shown : SocketState) where
  -- those that a context accepts
  abbrev pub taken : List Message → Context Carried → List Acceptance
  taken ms c = map (accepted_then c.now) (accepted_of ms how shown c)

  -- the first, by whether it is refused, and then the others
  offers_next : (r : Option SendError) (old : List Acceptance) (m : Message) (ms : List Message) (c : Context Carried)
      → ((before : List Acceptance) (d : Context Carried) → length (before ++ taken ms d) < 2 ^ 32 → SoundIn before resets kept d → SoundIn (before ++ taken ms d) resets kept (offer_all ms how shown d))
      → length (old ++ map (accepted_then c.now) (unless_refused r m how ++ accepted_of ms how shown (offered r m how c))) < 2 ^ 32 → SoundIn old resets kept c
      → SoundIn (old ++ map (accepted_then c.now) (unless_refused r m how ++ accepted_of ms how shown (offered r m how c))) resets kept (offer_all ms how shown (offered r m how c))
  offers_next None old m ms c rest few h =
      let d : Context Carried = accept m how c in
      let one : List Acceptance = new resets old kept m how c ∷ [] in
      let joins : (old ++ one) ++ taken ms d ≡ old ++ (one ++ taken ms d) = append_assoc old one (taken ms d) in
      let short : length ((old ++ one) ++ taken ms d) < 2 ^ 32 = subst (λ (xs : List Acceptance). length xs < 2 ^ 32) (sym joins) few in
      subst (λ (xs : List Acceptance). SoundIn xs resets kept (offer_all ms how shown d)) joins
      (rest (old ++ one) d short (sound_accepted resets old kept m how c (shorter (old ++ one) (taken ms d) short) h))
  offers_next (Some e) old m ms c rest few h = rest old (offered (Some e) m how c) few h

  pub offers_sound : (ms : List Message) (old : List Acceptance) (c : Context Carried) → length (old ++ taken ms c) < 2 ^ 32 → SoundIn old resets kept c
      → SoundIn (old ++ taken ms c) resets kept (offer_all ms how shown c)
  offers_sound [] old c few h = subst (λ (xs : List Acceptance). SoundIn xs resets kept c) (sym (append-nil old)) h
  offers_sound (m ∷ ms) old c few h = offers_next (send_refusal m shown c) old m ms c (offers_sound ms) few h
