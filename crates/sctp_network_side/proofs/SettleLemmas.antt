-- What the log has of an event, where memory ran out as it was logged: a beginning of what is new.
use Rattle.std.proofs.Common.{◌≡◌, ℕ, Bool, true, false, Option, List, [], ◌∷◌, ◌++◌, length, sym, ap, subst, ◌∙◌}
use Rattle.rand_core.specs.Stream.{Stream}
use Rattle.spec_endpoint.specs.Association.{State}
use Rattle.spec_endpoint.specs.Calls.{ready_in}
use Rattle.spec_endpoint.specs.Shown.{Association, association_in}
use Rattle.sctp_association.specs.Socket.{endpoint}
use Rattle.spec_world.specs.Observations.{End, Entry, same_association}
use Rattle.spec_world.specs.World.{news, associated_unless, emitted_entries, given_up_entries, ready_entries, ready_before}
use Rattle.sctp_network_side.specs.Interrupted.{IsCut}
use Rattle.sctp_network_side.specs.SideView.{SideValue}
use Rattle.sctp_network_side.proofs.CutLemmas.{cut_at_once, cut_behind, cut_before}

-- the old log, the first entry, and four parts
module _ (old : List Entry) (first : Entry) (associated emitted given_up ready : List Entry) where
  abbrev All : List Entry
  All = old ++ first ∷ (associated ++ (emitted ++ (given_up ++ ready)))

  pub cut_in_associated : (l1 log : List Entry) → l1 ≡ old ++ first ∷ [] → log ≡ l1 → IsCut old All log
  cut_in_associated l1 log e same =
      cut_behind old l1 (first ∷ []) (associated ++ (emitted ++ (given_up ++ ready))) log e (cut_at_once l1 (associated ++ (emitted ++ (given_up ++ ready))) log same)

  behind_two : (l1 l2 rest log : List Entry) → l1 ≡ old ++ first ∷ [] → l2 ≡ l1 ++ associated → IsCut l2 (l2 ++ rest) log → IsCut old (old ++ first ∷ (associated ++ rest)) log
  behind_two l1 l2 rest log e f cut = cut_behind old l1 (first ∷ []) (associated ++ rest) log e (cut_behind l1 l2 associated rest log f cut)

  pub cut_in_emitted : (l1 l2 log : List Entry) → l1 ≡ old ++ first ∷ [] → l2 ≡ l1 ++ associated → IsCut l2 (l2 ++ emitted) log → IsCut old All log
  cut_in_emitted l1 l2 log e f cut = behind_two l1 l2 (emitted ++ (given_up ++ ready)) log e f (cut_before l2 emitted (given_up ++ ready) log cut)

  pub cut_in_given_up : (l1 l2 l3 log : List Entry) → l1 ≡ old ++ first ∷ [] → l2 ≡ l1 ++ associated → l3 ≡ l2 ++ emitted → IsCut l3 (l3 ++ given_up) log → IsCut old All log
  cut_in_given_up l1 l2 l3 log e f g cut =
      behind_two l1 l2 (emitted ++ (given_up ++ ready)) log e f (cut_behind l2 l3 emitted (given_up ++ ready) log g (cut_before l3 given_up ready log cut))

  pub cut_in_ready : (l1 l2 l3 l4 log : List Entry) → l1 ≡ old ++ first ∷ [] → l2 ≡ l1 ++ associated → l3 ≡ l2 ++ emitted → l4 ≡ l3 ++ given_up → IsCut l4 (l4 ++ ready) log
      → IsCut old All log
  cut_in_ready l1 l2 l3 l4 log e f g h cut =
      behind_two l1 l2 (emitted ++ (given_up ++ ready)) log e f (cut_behind l2 l3 emitted (given_up ++ ready) log g (cut_behind l3 l4 given_up ready log h cut))

-- as what is new of an end
abbrev part_associated : {R C : Type 0} → End → Option Association → SideValue R C → List Entry
part_associated x held v = associated_unless (same_association held (association_in v.socket.state)) x (association_in v.socket.state)

abbrev part_emitted : {R C : Type 0} → End → SideValue R C → List Entry
part_emitted x v = emitted_entries x (length v.packets) v.socket.context.emitted.events

abbrev part_given_up : {R C : Type 0} → End → SideValue R C → List Entry
part_given_up x v = given_up_entries x v.socket.context.emitted.given_up

abbrev part_ready : {R C : Type 0} → End → Option Association → ℕ → SideValue R C → List Entry
part_ready x held ready v = ready_entries x (ready_before (same_association held (association_in v.socket.state)) ready) (ready_in v.socket.state)

abbrev Whole : {R C : Type 0} → (R → Stream) → (C → List ℕ → ℕ) → List Entry → Entry → End → ℕ → Option Association → SideValue R C → List Entry
Whole stream word_of old first x ready held v = old ++ first ∷ news x (length v.packets) ready held (endpoint stream word_of v.socket)

module _ {R C : Type 0} (stream : R → Stream) (word_of : C → List ℕ → ℕ) (v now : SideValue R C) (is : v ≡ now) (x : End) (first : Entry) (ready : ℕ) (held : Option Association)
    (old log : List Entry) where
  seen : IsCut old (old ++ first ∷ (part_associated x held v ++ (part_emitted x v ++ (part_given_up x v ++ part_ready x held ready v)))) log
      → IsCut old (Whole stream word_of old first x ready held now) log
  seen cut = subst (λ (w : SideValue R C). IsCut old (Whole stream word_of old first x ready held w) log) is cut

  pub settles_associated : (l1 : List Entry) → l1 ≡ old ++ first ∷ [] → log ≡ l1 → IsCut old (Whole stream word_of old first x ready held now) log
  settles_associated l1 e same =
      seen (cut_in_associated old first (part_associated x held v) (part_emitted x v) (part_given_up x v) (part_ready x held ready v) l1 log e same)

  module _ (l1 l2 : List Entry) (same : Bool) (a : Option Association) (e : l1 ≡ old ++ first ∷ []) (tells : same ≡ same_association held a)
      (holds : a ≡ association_in v.socket.state) (f : l2 ≡ l1 ++ associated_unless same x a) where
    own : l2 ≡ l1 ++ part_associated x held v
    own = f ∙ ap (λ (b : Bool). l1 ++ associated_unless b x a) tells ∙ ap (λ (o : Option Association). l1 ++ associated_unless (same_association held o) x o) holds

    pub settles_emitted : (n : ℕ) → n ≡ length v.packets → IsCut l2 (l2 ++ emitted_entries x n v.socket.context.emitted.events) log
        → IsCut old (Whole stream word_of old first x ready held now) log
    settles_emitted n counted cut =
        seen (cut_in_emitted old first (part_associated x held v) (part_emitted x v) (part_given_up x v) (part_ready x held ready v) l1 l2 log e own
        (subst (λ (k : ℕ). IsCut l2 (l2 ++ emitted_entries x k v.socket.context.emitted.events) log) counted cut))

    module _ (l3 : List Entry) (n : ℕ) (counted : n ≡ length v.packets) (g : l3 ≡ l2 ++ emitted_entries x n v.socket.context.emitted.events) where
      out : l3 ≡ l2 ++ part_emitted x v
      out = g ∙ ap (λ (k : ℕ). l2 ++ emitted_entries x k v.socket.context.emitted.events) counted

      pub settles_given_up : IsCut l3 (l3 ++ part_given_up x v) log → IsCut old (Whole stream word_of old first x ready held now) log
      settles_given_up cut =
          seen (cut_in_given_up old first (part_associated x held v) (part_emitted x v) (part_given_up x v) (part_ready x held ready v) l1 l2 l3 log e own out cut)

      pub settles_ready : (l4 : List Entry) (place : ℕ) (state : State) → l4 ≡ l3 ++ part_given_up x v → place ≡ ready_before same ready → state ≡ v.socket.state
          → IsCut l4 (l4 ++ ready_entries x place (ready_in state)) log → IsCut old (Whole stream word_of old first x ready held now) log
      settles_ready l4 place state h from stays cut =
          let counted_from : place ≡ ready_before (same_association held (association_in v.socket.state)) ready =
          from ∙ ap (λ (b : Bool). ready_before b ready) tells ∙ ap (λ (o : Option Association). ready_before (same_association held o) ready) holds in
          seen (cut_in_ready old first (part_associated x held v) (part_emitted x v) (part_given_up x v) (part_ready x held ready v) l1 l2 l3 l4 log e own out h
          (subst (λ (k : ℕ). IsCut l4 (l4 ++ ready_entries x k (ready_in v.socket.state)) log) counted_from
          (subst (λ (z : State). IsCut l4 (l4 ++ ready_entries x place (ready_in z)) log) stays cut)))

pub from_ready : (same : Bool) (place ready : ℕ) → same ≡ true → place ≡ ready → place ≡ ready_before same ready
from_ready same place ready t e = e ∙ sym (ap (λ (b : Bool). ready_before b ready) t)

pub from_none : (same : Bool) (place ready : ℕ) → same ≡ false → place ≡ 0 → place ≡ ready_before same ready
from_none same place ready t e = e ∙ sym (ap (λ (b : Bool). ready_before b ready) t)
