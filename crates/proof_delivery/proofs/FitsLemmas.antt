-- What became ready fits: these are the messages that the rules made ready, read off what was accepted.
use Rattle.std.proofs.Common.{◌≡◌, ℕ, zero, suc, ◌+◌, ◌<◌, not, Bool, false, Option, Some, None, inl, inr, List, [], ◌∷◌, ◌++◌, length, map, take, slice_get, slice_index, refl, sym, ap, subst, ◌∙◌, append_assoc, arith, ◌^◌, All}
use Rattle.std.specs.Prelude.{option_map}
use Rattle.std.proofs.lemmas.List.{length-map}
use Rattle.std.proofs.lemmas.List.Elements.{All-head, All-tail}
use Rattle.std.proofs.lemmas.Option.{slice_get_cases}
use Rattle.std.proofs.Math.Seq.{take-append_seam}
use Rattle.sctp_serial.specs.Messages as messages
use Rattle.sctp_state.specs.Options.{defaults}
use Rattle.proof_refines.specs.View.{ready_of}
use Rattle.proof_protocol.specs.State.{Message, ReadyMessage, Transfer}
use Rattle.proof_protocol.specs.Claims.{ready_message}
use Rattle.proof_protocol.specs.Claims as rules
use Rattle.proof_protocol.specs.Invariant.{Invariant}
use Rattle.proof_protocol.proofs.ClaimsLemmas.{claimed}
use Rattle.spec_endpoint.specs.Association.{State, Closed, CookieWait, Open}
use Rattle.spec_endpoint.specs.Calls.{ready_in}
use Rattle.proof_delivery.specs.Accepted.{AcceptedMessage}
use Rattle.proof_delivery.specs.Delivery.{message_at, Fits}
use Rattle.proof_delivery.proofs.ClaimLemmas.{Direction, transfer_of, ReceivesIn, IsFresh}
use Rattle.proof_delivery.proofs.ActionLemmas.{message_in, AreOffered}

-- ---- what was accepted, by place

-- and nothing beyond
abbrev pub message_of : List AcceptedMessage → ℕ → Message
message_of os p = elim (slice_get os p) [ None ↦ record { stream = 0; ordered = false; protocol_id = 0; payload = [] } | Some o ↦ message_in o ]

abbrev pub lifecycle_of : List AcceptedMessage → ℕ → Option ℕ
lifecycle_of os p = elim (slice_get os p) [ None ↦ None | Some o ↦ o.options.lifecycle_id ]

-- as short as what was accepted
pub all_short : (os : List AcceptedMessage) → All (λ (o : AcceptedMessage). length o.message.payload < 2 ^ 32) os → (p : ℕ) → length (message_of os p).payload < 2 ^ 32
all_short [] h p = omega arith
all_short (o ∷ os) h zero = All-head (λ (o : AcceptedMessage). length o.message.payload < 2 ^ 32) o os h
all_short (o ∷ os) h (suc p) = all_short os (All-tail (λ (o : AcceptedMessage). length o.message.payload < 2 ^ 32) o os h) p

pub get_behind : (xs ys : List AcceptedMessage) (n : ℕ) (o : AcceptedMessage) → slice_get xs n ≡ Some o → slice_get (xs ++ ys) n ≡ Some o
get_behind [] ys n o e = cc
get_behind (x ∷ xs) ys zero o e = e
get_behind (x ∷ xs) ys (suc n) o e = get_behind xs ys n o e

get_next : (xs ys : List AcceptedMessage) (o : AcceptedMessage) → slice_get (xs ++ o ∷ ys) (length xs) ≡ Some o
get_next [] ys o = refl
get_next (x ∷ xs) ys o = get_next xs ys o

one_more : (xs : List AcceptedMessage) (o : AcceptedMessage) → length (xs ++ o ∷ []) ≡ length xs + 1
one_more [] o = refl
one_more (x ∷ xs) o = let e = one_more xs o in omega (arith, e)

module _ (all : List AcceptedMessage) where
  message_there : (p : ℕ) (o : AcceptedMessage) → slice_get all p ≡ Some o → message_of all p ≡ message_in o
  message_there p o e =
      ap (λ (z : Option AcceptedMessage). elim z [ None ↦ record { stream = 0; ordered = false; protocol_id = 0; payload = [] } | Some o ↦ message_in o ]) e

  lifecycle_there : (p : ℕ) (o : AcceptedMessage) → slice_get all p ≡ Some o → lifecycle_of all p ≡ o.options.lifecycle_id
  lifecycle_there p o e = ap (λ (z : Option AcceptedMessage). elim z [ None ↦ None | Some o ↦ o.options.lifecycle_id ]) e

  -- behind what was accepted before
  pub offered_from : (done rest later : List AcceptedMessage) → all ≡ done ++ (rest ++ later) → AreOffered (message_of all) (lifecycle_of all) (length done) rest
  offered_from done [] later e = tt
  offered_from done (o ∷ rest) later e =
      let there : slice_get all (length done) ≡ Some o = ap (λ (z : List AcceptedMessage). slice_get z (length done)) e ∙ get_next done (rest ++ later) o in
      let next : all ≡ (done ++ o ∷ []) ++ (rest ++ later) = e ∙ sym (append_assoc done (o ∷ []) (rest ++ later)) in (
        message_there (length done) o there,
        lifecycle_there (length done) o there,
        subst (λ (n : ℕ). AreOffered (message_of all) (lifecycle_of all) n rest) (one_more done o) (offered_from (done ++ o ∷ []) rest later next),
      )

  pub lifecycle_accepted : (done later : List AcceptedMessage) → all ≡ done ++ later → (p : ℕ) (o : AcceptedMessage) → slice_get done p ≡ Some o → lifecycle_of all p ≡ o.options.lifecycle_id
  lifecycle_accepted done later e p o there = lifecycle_there p o (ap (λ (z : List AcceptedMessage). slice_get z p) e ∙ get_behind done later p o there)

  pub accepted_there : (done later : List AcceptedMessage) → all ≡ done ++ later → (p : ℕ) (o : AcceptedMessage) → slice_get done p ≡ Some o → message_of all p ≡ message_in o
  accepted_there done later e p o there = message_there p o (ap (λ (z : List AcceptedMessage). slice_get z p) e ∙ get_behind done later p o there)

-- ---- what the values show of what became ready

pub ready_is : (message : ℕ → Message) (is_interleaved : Bool) (s : State) (handed : List messages.Message) (x : Direction) → ReceivesIn message is_interleaved s handed x
    → (transfer_of x).receiver.ready ≡ map ready_of (handed ++ ready_in s)
ready_is message is_interleaved Closed handed x h = fresh_ready handed h
  where
    fresh_ready : (handed : List messages.Message) → IsFresh message is_interleaved handed x → (transfer_of x).receiver.ready ≡ map ready_of (handed ++ [])
    fresh_ready handed h =
        let r = h.refines defaults 0 0 in
        subst (λ (ms : List messages.Message). (transfer_of x).receiver.ready ≡ map ready_of (ms ++ [])) (sym h.none_handed) (sym r.refines.ready_is ∙ r.seen_as.ready)
ready_is message is_interleaved (CookieWait tag first t1) handed x h = fresh_ready handed h
  where
    fresh_ready : (handed : List messages.Message) → IsFresh message is_interleaved handed x → (transfer_of x).receiver.ready ≡ map ready_of (handed ++ [])
    fresh_ready handed h =
        let r = h.refines defaults 0 0 in
        subst (λ (ms : List messages.Message). (transfer_of x).receiver.ready ≡ map ready_of (ms ++ [])) (sym h.none_handed) (sym r.refines.ready_is ∙ r.seen_as.ready)
ready_is message is_interleaved (Open phase t) handed x h = sym h.refines.refines.ready_is ∙ h.refines.seen_as.ready

-- ---- it fits

-- as it was accepted
abbrev given_back : ReadyMessage → messages.Message
given_back m = record { stream = m.stream; ppid = m.protocol_id; payload = m.payload }

abbrev first_ready : (xs : List ReadyMessage) → ReadyMessage → ReadyMessage
first_ready [] d = d
first_ready (x ∷ xs) d = x

abbrev other_ready : List ReadyMessage → List ReadyMessage
other_ready [] = []
other_ready (x ∷ xs) = xs

module _ (message : ℕ → Message) (os : List AcceptedMessage) (there : (p : ℕ) (o : AcceptedMessage) → slice_get os p ≡ Some o → message p ≡ message_in o) where
  one_alike : (p : ℕ) (m : messages.Message) → p < length os → ready_of m ≡ ready_message message p → message_at os p ≡ Some m
  one_alike p m l e =
      elim (slice_get_cases os p).1 [
        | inl a ↦
            let o : AcceptedMessage = a.0 in
            let is : message p ≡ message_in o = there p o a.2 in
            let same : m ≡ o.message =
            ap given_back e ∙ ap (λ (z : Message). given_back (record { stream = z.stream; protocol_id = z.protocol_id; payload = z.payload })) is in
            ap (λ (z : Option AcceptedMessage). option_map (λ (o : AcceptedMessage). o.message) z) a.2 ∙ ap (λ (z : messages.Message). Some z) (sym same)
        | inr b ↦ let past = b.0 in absurd (omega (arith, past, l))
      ]

  all_alike : (ps : List ℕ) (ms : List messages.Message) → ((k : ℕ) → k < length ps → slice_index ps k < length os) → map ready_of ms ≡ map (ready_message message) ps
      → map (message_at os) ps ≡ map (λ (m : messages.Message). Some m) ms
  all_alike [] [] below e = refl
  all_alike [] (m ∷ ms) below e = cc
  all_alike (p ∷ ps) [] below e = cc
  all_alike (p ∷ ps) (m ∷ ms) below e =
      let head : message_at os p ≡ Some m = one_alike p m (below 0 (omega arith)) (ap (λ (z : List ReadyMessage). first_ready z (ready_of m)) e) in
      let rest : map (message_at os) ps ≡ map (λ (m : messages.Message). Some m) ms =
      all_alike ps ms (λ k l. below (suc k) (omega (arith, l))) (ap other_ready e) in
      ap (λ (z : Option messages.Message). z ∷ map (message_at os) ps) head ∙ ap (λ (z : List (Option messages.Message)). Some m ∷ z) rest

  pub places_fit : (is_interleaved : Bool) (x : Transfer) (ready : List messages.Message) → Invariant message is_interleaved x → x.sender.accepted ≡ length os → x.receiver.ready ≡ map ready_of ready
      → Fits os ready x.receiver.places
  places_fit is_interleaved x ready k few is =
      let c : rules.Fits message x = (claimed message is_interleaved x k).fits in
      record {
        alike = all_alike x.receiver.places ready (λ n l. let b = c.accepted n l in omega (arith, b, few)) (sym is ∙ c.alike);
        distinct = c.distinct;
        rising = λ j n l b o p at_j at_n line.
            let first : message (slice_index x.receiver.places j) ≡ message_in o = there (slice_index x.receiver.places j) o at_j in
            let second : message (slice_index x.receiver.places n) ≡ message_in p = there (slice_index x.receiver.places n) p at_n in
            c.rising j n l b (ap (λ (z : Message). z.ordered) first ∙ ap not line.first) (ap (λ (z : Message). z.ordered) second ∙ ap not line.second)
            (ap (λ (z : Message). z.stream) first ∙ (line.stream ∙ sym (ap (λ (z : Message). z.stream) second)));
      }

  -- one each
  pub many_places : (is_interleaved : Bool) (x : Transfer) (ready : List messages.Message) → Invariant message is_interleaved x → x.receiver.ready ≡ map ready_of ready → length ready ≡ length x.receiver.places
  many_places is_interleaved x ready k is =
      let c : rules.Fits message x = (claimed message is_interleaved x k).fits in
      sym (length-map ready ready_of) ∙ (ap (λ (z : List ReadyMessage). length z) (sym is ∙ c.alike) ∙ length-map x.receiver.places (ready_message message))

  -- also where more became ready since
  pub first_places : (is_interleaved : Bool) (x : Transfer) (ready : List messages.Message) → Invariant message is_interleaved x → x.receiver.ready ≡ map ready_of ready
      → (places more : List ℕ) → places ≡ x.receiver.places ++ more → take (length ready) places ≡ x.receiver.places
  first_places is_interleaved x ready k is places more e =
      ap (λ (n : ℕ). take n places) (many_places is_interleaved x ready k is) ∙ (ap (λ (z : List ℕ). take (length x.receiver.places) z) e ∙ take-append_seam x.receiver.places more)
