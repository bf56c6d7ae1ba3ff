-- Each point of a world's log delivers what its trace delivers.
use Rattle.std.proofs.Common.{◌≡◌, ◌⊎◌, inl, inr, ℕ, ◌==◌, not, Bool, true, false, List, [], ◌∷◌, ◌++◌, length, take, refl, sym, ap, subst, ◌∙◌, arith}
use Rattle.std.proofs.lemmas.Grind.{flat_map-append}
use Rattle.std.proofs.lemmas.Bool.Decides.{nat_tests}
use Rattle.std.proofs.lemmas.Bool.{and_parts}
use Rattle.sctp_serial.specs.Messages.{Message}
use Rattle.sctp_tx_queue.specs.SendQueue.{is_empty}
use Rattle.sctp_tx_outstanding.specs.Item.{Item}
use Rattle.spec_endpoint.specs.Association.{State, Closed, CookieWait, Open, Endpoint}
use Rattle.spec_endpoint.specs.Calls.{keeps_items}
use Rattle.spec_endpoint.specs.Shown as socket
use Rattle.proof_endpoint.specs.Mapped.{Mapping, Carried, map_end, as_bytes}
use Rattle.proof_refines.specs.Reachable.{delivered_ids}
use Rattle.proof_refines.specs.Records.{are_distinct}
use Rattle.proof_pair.specs.Trace as traces
use Rattle.proof_pair.specs.Trace.{Pair, EndAction, run, state_of}
use Rattle.proof_pair.specs.Handing.{messages_made_ready}
use Rattle.proof_delivery.specs.Accepted.{AcceptedMessage, accepted}
use Rattle.proof_delivery.specs.Delivery as delivery
use Rattle.proof_delivery.specs.Delivery.{AllAreDone}
use Rattle.proof_delivery.specs.GivenUp.{given_up, kept_in, IsAtRest}
use Rattle.proof_delivery.specs.Windows.{queue_of}
use Rattle.spec_world.specs.Observations as observations
use Rattle.spec_world.specs.Observations.{End, A, B, Entry, ready_by, ready, given_up_by}
use Rattle.spec_world.specs.World.{Side, World, other, is_at_rest}
use Rattle.proof_world.specs.Traces.{is_a}
use Rattle.proof_world.specs.Delivered.{accepted_messages_by, accepted_messages, given_up_places, reported_by, reported, ready_places}
use Rattle.proof_world.proofs.WorldLemmas.{Both, given_up_places_more, numbers_of}
use Rattle.proof_world.proofs.BetweenLemmas.{IsDelivered, same_delivered, ready_between, emitted_between}
use Rattle.proof_world.proofs.BlockLemmas.{IsBlock, AreBlocks, IsReached, at_each, whole, none_said, all_first, ready_split, ready_before}

-- ---- within a block

-- in the other end's block an end says nothing
pub record IsBeside (x : End) (block : List Entry) : Type 0 where
  pub offers : accepted_messages x block ≡ []
  pub given_up : observations.given_up x block ≡ []
  pub reported : reported x block ≡ []

-- and in its own, nothing becomes ready at the other one
pub own_or_beside : (x : End) (e : Bool × EndAction) (d : Pair) (log mid : List Entry) (b : IsBlock e d log mid) → (ready (other x) (b.first ∷ b.more) ≡ []) ⊎ IsBeside x (b.first ∷ b.more)
own_or_beside A (true, t) d log mid b = inl b.none_ready
own_or_beside B (false, t) d log mid b = inl b.none_ready
own_or_beside A (false, t) d log mid b =
    inr (record { offers = ap (λ (l : List AcceptedMessage). l ++ accepted_messages A b.more) b.no_offers ∙ b.quiet A; given_up = b.none_given_up; reported = b.none_reported })
own_or_beside B (true, t) d log mid b =
    inr (record { offers = ap (λ (l : List AcceptedMessage). l ++ accepted_messages B b.more) b.no_offers ∙ b.quiet B; given_up = b.none_given_up; reported = b.none_reported })

abbrev pub IsDeliveredAt : End → (places : List ℕ) → List Entry → Type 0
IsDeliveredAt x places log = IsDelivered (accepted_messages x log) (ready (other x) log) (given_up_places x log) (reported x log) places

module _ (x : End) (places : List ℕ) (e : Bool × EndAction) (d : Pair) (log mid front behind : List Entry) (b : IsBlock e d log mid) (split : b.more ≡ front ++ behind)
    (h : IsDeliveredAt x places log) (k : IsDeliveredAt x places mid) where
  abbrev here : List Entry
  here = log ++ b.first ∷ front

  offered_first : accepted_messages x mid ≡ accepted_messages x here
  offered_first = all_first e d log mid front behind b split (accepted_messages_by x) (b.quiet x)

  in_own : ready (other x) (b.first ∷ b.more) ≡ [] → IsDeliveredAt x places here
  in_own none =
      let same = none_said e d log mid front behind b split (ready_by (other x)) none in
      let before : IsDelivered (accepted_messages x log) (ready (other x) here) (given_up_places x log) (reported x log) places =
      same_delivered (accepted_messages x log) (accepted_messages x log) (ready (other x) log) (ready (other x) here) (given_up_places x log) (given_up_places x log) (reported x log) (reported x log) places refl same.0 refl refl h in
      let after : IsDelivered (accepted_messages x here) (ready (other x) here) (given_up_places x mid) (reported x mid) places =
      same_delivered (accepted_messages x mid) (accepted_messages x here) (ready (other x) mid) (ready (other x) here) (given_up_places x mid) (given_up_places x mid) (reported x mid) (reported x mid) places
      (sym offered_first) (sym same.1) refl refl k in
      let reported_is : reported x mid ≡ reported x here ++ reported x behind =
      ap (reported x) (whole e d log mid front behind b split) ∙ flat_map-append (reported_by x) here behind in
      let given : given_up_places x here ≡ given_up_places x log ++ given_up_places x (b.first ∷ front) =
      given_up_places_more x log here (b.first ∷ front) (given_up_places x (b.first ∷ front)) refl refl in
      subst (λ (g : List ℕ). IsDelivered (accepted_messages x here) (ready (other x) here) g (reported x here) places) (sym given)
      (emitted_between (accepted_messages x log) (accepted_messages x (b.first ∷ front)) (accepted_messages x here) (ready (other x) here) (given_up_places x log) (given_up_places x (b.first ∷ front)) (given_up_places x mid)
      (reported x here) (reported x behind) (reported x mid) places (flat_map-append (accepted_messages_by x) log (b.first ∷ front)) reported_is before after)

  beside : IsBeside x (b.first ∷ b.more) → IsDeliveredAt x places here
  beside n =
      let o = none_said e d log mid front behind b split (accepted_messages_by x) n.offers in
      let g = none_said e d log mid front behind b split (given_up_by x) n.given_up in
      let r = none_said e d log mid front behind b split (reported_by x) n.reported in
      let before : IsDelivered (accepted_messages x here) (ready (other x) log) (given_up_places x here) (reported x here) places =
      same_delivered (accepted_messages x log) (accepted_messages x here) (ready (other x) log) (ready (other x) log) (given_up_places x log) (given_up_places x here) (reported x log) (reported x here) places
      o.0 refl (numbers_of (observations.given_up x here) (observations.given_up x log) g.0) r.0 h in
      let after : IsDelivered (accepted_messages x here) (ready (other x) mid) (given_up_places x here) (reported x here) places =
      same_delivered (accepted_messages x mid) (accepted_messages x here) (ready (other x) mid) (ready (other x) mid) (given_up_places x mid) (given_up_places x here) (reported x mid) (reported x here) places
      (sym o.1) refl (sym (numbers_of (observations.given_up x mid) (observations.given_up x here) g.1)) (sym r.1) k in
      ready_between (accepted_messages x here) (ready (other x) log) (ready (other x) here) (ready (other x) mid) (ready (other x) (b.first ∷ front)) (ready (other x) behind)
      (given_up_places x here) (reported x here) places (ready_before e d log mid front behind b split (other x)) (ready_split e d log mid front behind b split (other x)) before after

  delivered_within : IsDeliveredAt x places here
  delivered_within = elim (own_or_beside x e d log mid b) [ inl none ↦ in_own none | inr n ↦ beside n ]

-- ---- at each point

pub is_a_other : (x : End) → is_a (other x) ≡ not (is_a x)
is_a_other A = refl
is_a_other B = refl

zero_of : (n : ℕ) → not (not (n == 0)) ≡ true → n ≡ 0
zero_of n e = grind (arith, nat_tests, e)

none_of : (items : List Item) → not (not (length items == 0)) ≡ true → items ≡ []
none_of [] e = refl
none_of (i ∷ items) e = let z = zero_of (length (i ∷ items)) e in absurd (omega (arith, z))

none_kept : (s : State) → not (keeps_items s) ≡ true → kept_in s ≡ []
none_kept Closed e = refl
none_kept (CookieWait tag first t1) e = refl
none_kept (Open phase t) e = none_of t.sender.outstanding.items.kept e

rests : (f : Mapping Carried (List ℕ)) (side : Side) (end : traces.Side) → side.socket ≡ map_end f end.end → socket.is_at_rest side.socket.endpoint_state.state side.socket.endpoint_state.context.queue ≡ true
    → IsAtRest end
rests f side end e h =
    let there : socket.is_at_rest (state_of end) (queue_of end) ≡ true =
    sym (ap (λ (z : Endpoint (List ℕ)). socket.is_at_rest z.endpoint_state.state z.endpoint_state.context.queue) e) ∙ h in
    record {
      none_waits = (and_parts (is_empty (queue_of end)) (not (keeps_items (state_of end))) there).0;
      none_kept = none_kept (state_of end) (and_parts (is_empty (queue_of end)) (not (keeps_items (state_of end))) there).1;
    }

module _ (x : End) (all : List (Bool × EndAction)) (c : Pair) (from : delivery.Delivers (is_a x) all c) where
  ready_so_far : (done : List (Bool × EndAction)) (log : List Entry) → IsReached c done log → ready (other x) log ≡ messages_made_ready (not (is_a x)) done c
  ready_so_far done log r = r.ready_are (other x) ∙ ap (λ (z : Bool). messages_made_ready z done c) (is_a_other x)

  delivered_action : (done rest : List (Bool × EndAction)) (log : List Entry) → all ≡ done ++ rest → IsReached c done log → IsDeliveredAt x from.places log
  delivered_action done rest log e r =
      same_delivered (accepted (is_a x) done c) (accepted_messages x log) (messages_made_ready (not (is_a x)) done c) (ready (other x) log) (given_up (is_a x) done c) (given_up_places x log)
      (delivered_ids (traces.side_of (is_a x) (run done c)).emitted) (reported x log) from.places (r.offers_are x) (ready_so_far done log r) (r.given_up_are x) (r.reported_are x)
      (record { fits = from.fits done rest e; skipped = from.skipped done rest e; reports = from.reports done rest e })

  pub once_at : (done rest : List (Bool × EndAction)) (log : List Entry) → all ≡ done ++ rest → IsReached c done log → are_distinct (given_up_places x log) ≡ true
  once_at done rest log e r = ap are_distinct (r.given_up_are x) ∙ from.once done rest e

  pub delivered_each : (log early late : List Entry) → IsReached c [] [] → AreBlocks all c [] log → log ≡ early ++ late → IsDeliveredAt x from.places early
  delivered_each log early late r h is =
      at_each all c (IsDeliveredAt x from.places) delivered_action
      (λ done rest e l mid front behind s before_it b split before after. delivered_within x from.places e (run done c) l mid front behind b split before after)
      [] all [] log early late refl r h is

module _ (word_of_a word_of_b : List ℕ → ℕ) where
  rests_at : (x : End) (u : World) (c : Pair) → Both word_of_a word_of_b u c → is_at_rest x u ≡ true → IsAtRest (traces.side_of (is_a x) c)
  rests_at A u c h e = rests (as_bytes word_of_a) u.a c.a h.a.image.socket e
  rests_at B u c h e = rests (as_bytes word_of_b) u.b c.b h.b.image.socket e

  pub at_rest : (x : End) (all : List (Bool × EndAction)) (c : Pair) (from : delivery.Delivers (is_a x) all c) (done rest : List (Bool × EndAction)) (u : World) → all ≡ done ++ rest
      → IsReached c done u.log → Both word_of_a word_of_b u (run done c) → is_at_rest x u ≡ true → AllAreDone (accepted_messages x u.log) (given_up_places x u.log) (ready_places x u.log from.places)
  at_rest x all c from done rest u e r h still =
      subst (λ (o : List AcceptedMessage). AllAreDone o (given_up_places x u.log) (ready_places x u.log from.places)) (sym (r.offers_are x))
      (subst (λ (g : List ℕ). AllAreDone (accepted (is_a x) done c) g (ready_places x u.log from.places)) (sym (r.given_up_are x))
      (subst (λ (m : List Message). AllAreDone (accepted (is_a x) done c) (given_up (is_a x) done c) (take (length m) from.places)) (sym (ready_so_far x all c from done u.log r))
      (from.rest done rest e (rests_at x u (run done c) h still))))
