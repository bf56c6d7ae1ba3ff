-- One run of the rules after another.
use Rattle.std.proofs.Common.{◌≡◌, ℕ, Bool, ◌&&◌, Option, List, [], ◌∷◌, ◌++◌, refl, sym, ap, ◌∙◌, subst, append_assoc, append-nil}
use Rattle.std.specs.List.{list_all}
use Rattle.std.proofs.lemmas.List.Folds.{list_all-append}
use Rattle.sctp_state.specs.Events.{Emitted}
use Rattle.sctp_tx_queue.specs.SendQueue.{Queue}
use Rattle.sctp_tx_outstanding.specs.OutstandingData.{Items}
use Rattle.proof_protocol.specs.State.{Message, Transfer}
use Rattle.proof_protocol.specs.Rules.{TransferEvent, Happens, after, run}
use Rattle.proof_protocol.specs.Invariant.{Invariant}
use Rattle.proof_protocol.proofs.GrowsLemmas.{run_more}
use Rattle.proof_refines.specs.SenderRefinement.{SenderRefines}
use Rattle.proof_refines.specs.Reachable.{is_sending, given_up_by, given_up_places, recorded_places, SenderLeads, SenderLeadsTo}

module _ (message : ℕ → Message) (is_interleaved : Bool) where
  pub happens_more : (es fs : List TransferEvent) (x : Transfer) → Happens message is_interleaved x es → Happens message is_interleaved (run message is_interleaved x es) fs → Happens message is_interleaved x (es ++ fs)
  happens_more [] fs x a b = b
  happens_more (e ∷ es) fs x a b = (a.0, happens_more es fs (after message is_interleaved x e) a.1 b)

  pub given_more : (es fs : List TransferEvent) → given_up_places (es ++ fs) ≡ given_up_places es ++ given_up_places fs
  given_more [] fs = refl
  given_more (e ∷ es) fs = ap (λ z. given_up_by e ++ z) (given_more es fs) ∙ sym (append_assoc (given_up_by e) (given_up_places es) (given_up_places fs))

  pub leads_none : (x : Transfer) → SenderLeads message is_interleaved x x []
  leads_none x = record { events = []; may = tt; leads = refl; sends = refl; given_up = refl; rest_stays = refl }

  pub leads_on : (x y z : Transfer) (ps qs : List ℕ) → SenderLeads message is_interleaved x y ps → SenderLeads message is_interleaved y z qs → SenderLeads message is_interleaved x z (ps ++ qs)
  leads_on x y z ps qs a b = record {
    events = a.events ++ b.events;
    may = happens_more a.events b.events x a.may (subst (λ w. Happens message is_interleaved w b.events) (sym a.leads) b.may);
    leads = run_more message is_interleaved a.events b.events x ∙ (ap (λ w. run message is_interleaved w b.events) a.leads ∙ b.leads);
    sends = list_all-append is_sending a.events b.events ∙ (ap (λ z. z && list_all is_sending b.events) a.sends ∙ b.sends);
    given_up = given_more a.events b.events ∙ (ap (λ w. w ++ given_up_places b.events) a.given_up ∙ ap (λ w. ps ++ w) b.given_up);
    rest_stays = b.rest_stays ∙ ap with_sender a.rest_stays;
  }
    where
      with_sender : Transfer → Transfer
      with_sender w = record w { sender = z.sender }

unfoldable pub led_on : {P : Type 0} (message : ℕ → Message) (lifecycle : ℕ → Option ℕ) (is_interleaved : Bool) (x : Transfer) (emitted later last : Emitted P) (q r : Queue) (s t : Items)
    → (a : SenderLeadsTo message lifecycle is_interleaved x emitted q s later) → SenderLeadsTo message lifecycle is_interleaved a.after later r t last → SenderLeadsTo message lifecycle is_interleaved x emitted r t last
led_on message lifecycle is_interleaved x emitted later last q r s t a b = record {
  after = b.after;
  places = a.places ++ b.places;
  leads = leads_on message is_interleaved x a.after b.after a.places b.places a.leads b.leads;
  kept = b.kept;
  refines = b.refines;
  recorded = b.recorded ∙ (ap (λ z. z ++ b.places) a.recorded ∙ append_assoc (recorded_places emitted) a.places b.places);
}

pub led_none : {P : Type 0} (message : ℕ → Message) (lifecycle : ℕ → Option ℕ) (is_interleaved : Bool) (x : Transfer) (emitted : Emitted P) (q : Queue) (s : Items) → Invariant message is_interleaved x → SenderRefines message lifecycle is_interleaved x q s
    → SenderLeadsTo message lifecycle is_interleaved x emitted q s emitted
led_none message lifecycle is_interleaved x emitted q s k h = record { after = x; places = []; leads = leads_none message is_interleaved x; kept = k; refines = h; recorded = sym (append-nil (recorded_places emitted)) }
