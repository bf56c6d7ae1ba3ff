-- Calls that offer messages: what an end says and refines as a sender, and as a receiver, after them.
use Rattle.std.proofs.Common.{◌≡◌, ℕ, ◌+◌, ◌^◌, ◌<◌, Bool, true, false, Option, List, [], ◌∷◌, length, All, inl, refl, sym, ap, subst, ◌∙◌, arith}
use Rattle.std.proofs.lemmas.List.Elements.{All-nil}
use Rattle.sctp_serial.specs.Messages as messages
use Rattle.sctp_packet.specs.Chunk.{ChunkTree}
use Rattle.sctp_state.specs.Options.{SendOptions}
use Rattle.sctp_state.specs.Events.{Event, Emitted}
use Rattle.proof_protocol.specs.State.{Message, count}
use Rattle.proof_refines.specs.Reachable.{recorded_places, delivered_ids}
use Rattle.spec_endpoint.specs.Association.{Context, EndpointState, Endpoint, with_context}
use Rattle.spec_endpoint.specs.Sending.{send_in}
use Rattle.spec_endpoint.specs.Calls.{shown_state, send_refusal_of, offer, offer_all}
use Rattle.spec_endpoint.specs.Laws.{Call, Send, SendMany, ReceiveNoPacket, called}
use Rattle.proof_endpoint.specs.Mapped.{Carried}
use Rattle.proof_endpoint.specs.Acts.{EndWithPacket, idle, calm, BringsChunk, alone, HasNoEnd, PreservesUntilEnd}
use Rattle.proof_pair.specs.Trace.{Side, state_of}
use Rattle.spec_endpoint.specs.Packets.{packets_in}
use Rattle.proof_pair.proofs.UntilLemmas.{none_before, Until, frame}
use Rattle.proof_endpoint.proofs.RowActsLemmas.{does_where_open}
use Rattle.proof_endpoint.proofs.CallActsLemmas.{does_offer, does_offer_all, does_send_in, does_sent_unless}
use Rattle.proof_pair.proofs.JoinActsLemmas.{Setting, InvAt}
use Rattle.proof_pair.proofs.JoinKeepsLemmas.{Rules}
use Rattle.proof_pair.proofs.JoinFrameLemmas.{joins}
use Rattle.proof_pair.proofs.AskedLemmas.{is_offer}
use Rattle.proof_delivery.specs.Accepted.{AcceptedMessage, accepted_of, accepted_by}
use Rattle.proof_delivery.specs.Answered.{performed_in}
use Rattle.proof_delivery.specs.Asks.{ResetRequest}
use Rattle.proof_delivery.specs.StreamEpochs.{StreamEpoch, shut_streams, reopen, performed_of, resets_emitted, failed_in}
use Rattle.proof_delivery.specs.Windows.{queue_of}
use Rattle.proof_delivery.proofs.ClaimLemmas.{Direction, transfer_of, goes_out, first_out, first_in, SaysIn, AreSo, SendsIn, SenderClaim, ReceiverClaim, ReceivesSacks, ReceivesData, SenderGoes, SenderPremises, ReceiverGoes, ReceiverPremises}
use Rattle.proof_delivery.proofs.FrameLemmas.{Joined, KeepsJoined}
use Rattle.proof_delivery.proofs.FrameLemmas as frames
use Rattle.proof_delivery.proofs.ResetEventsLemmas.{resets_in, performed_counts, performed_names, failed_still, emitted_same}
use Rattle.proof_delivery.proofs.SenderToolLemmas.{goes_none, reports_none, SaysAll, SaysPackets}
use Rattle.proof_delivery.proofs.DirectionLemmas.{IsSilent}
use Rattle.proof_delivery.proofs.ActionLemmas.{AreOffered, Stay}
use Rattle.proof_delivery.proofs.SenderActionLemmas.{OffersOut}
use Rattle.proof_delivery.proofs.OfferingLemmas.{offers_packets, offers_resets, OfferedTo, IsOffering, offers_all}

-- ---- the rest of such a call is like one that says nothing

module _ (g : Setting) (call : Call) (r : Rules g call) where
  rules_of_none : Rules g ReceiveNoPacket
  rules_of_none = record {
    says = λ tag chunk h v all. absurd (no_packet h);
    asks = λ tag chunk h e. absurd (no_packet h);
    connects = λ e. cc;
    shuts = λ e. cc;
    restores = λ h e. cc;
    own = r.own;
    other = r.other;
  }
    where
      no_packet : {tag : ℕ} {chunk : ChunkTree} → BringsChunk ReceiveNoPacket tag chunk → ⊥
      no_packet h = let e = h.given in cc

-- where the messages are offered
abbrev offering : List messages.Message → SendOptions → Endpoint Carried → EndWithPacket Carried
offering ms how e = idle e.endpoint_state.state (offer_all ms how (shown_state e.endpoint_state.state) e.endpoint_state.context) e.draws

-- there are two such calls
each_offer : (P : Call → Type 0) → ((m : messages.Message) (how : SendOptions) → P (Send m how)) → ((ms : List messages.Message) (how : SendOptions) → P (SendMany ms how))
    → (call : Call) → is_offer call ≡ true → P call
each_offer P one many (Send m how) h = one m how
each_offer P one many (SendMany ms how) h = many ms how
each_offer P one many call h = cc

module _ (g : Setting) {R : EndWithPacket Carried → EndWithPacket Carried → Type 0} (k : KeepsJoined g ReceiveNoPacket R) (e : Endpoint Carried) where
  then_many : (ms : List messages.Message) (how : SendOptions) → Rules g (SendMany ms how) → HasNoEnd (calm (called (SendMany ms how) e)) → InvAt g (calm e)
      → R (offering ms how e) (calm (called (SendMany ms how) e))
  then_many ms how r none inv =
      let f : PreservesUntilEnd ReceiveNoPacket (Joined g R) = frames.frame g ReceiveNoPacket (rules_of_none g (SendMany ms how) r) refl k in
      let d : Context Carried = offer_all ms how (shown_state e.endpoint_state.state) e.endpoint_state.context in
      let s : EndpointState Carried = with_context e.endpoint_state d in
      let before : Until (λ a b. InvAt g a → InvAt g b) (calm e) (offering ms how e) =
      does_offer_all (frame (joins g (SendMany ms how) r)) e.draws ms [] ms how e.endpoint_state.state e.endpoint_state.context refl refl in
      let rest : Until (Joined g R) (offering ms how e) (calm (called (SendMany ms how) e)) = does_where_open (frame f) e.draws send_in s (does_send_in (frame f) e.draws) in
      (rest.1 none (before.1 (none_before (offering ms how e) (calm (called (SendMany ms how) e)) rest.0 none) inv)).1

  then_one : (m : messages.Message) (how : SendOptions) → Rules g (Send m how) → HasNoEnd (calm (called (Send m how) e)) → InvAt g (calm e)
      → R (offering (m ∷ []) how e) (calm (called (Send m how) e))
  then_one m how r none inv =
      let f : PreservesUntilEnd ReceiveNoPacket (Joined g R) = frames.frame g ReceiveNoPacket (rules_of_none g (Send m how) r) refl k in
      let d : Context Carried = offer m how (shown_state e.endpoint_state.state) e.endpoint_state.context in
      let s : EndpointState Carried = with_context e.endpoint_state d in
      let before : Until (λ a b. InvAt g a → InvAt g b) (calm e) (offering (m ∷ []) how e) =
      does_offer (frame (joins g (Send m how) r)) e.draws m how e.endpoint_state.state e.endpoint_state.context (alone refl) in
      let rest : Until (Joined g R) (offering (m ∷ []) how e) (calm (called (Send m how) e)) = does_sent_unless (frame f) e.draws (send_refusal_of m e.endpoint_state) s in
      (rest.1 none (before.1 (none_before (offering (m ∷ []) how e) (calm (called (Send m how) e)) rest.0 none) inv)).1

-- ---- what it receives is nothing

no_received : {tag : ℕ} {chunk : ChunkTree} → BringsChunk ReceiveNoPacket tag chunk → ⊥
no_received h = let e = h.given in cc

sacks_of_none : (call : Call) (first : ℕ) (x y : Direction) → (transfer_of y).acknowledged ≡ (transfer_of x).acknowledged → count (transfer_of y).sender ≡ count (transfer_of x).sender
    → ReceivesSacks call first x → ReceivesSacks ReceiveNoPacket first y
sacks_of_none call first x y a c h =
    let past = h.past in
    let near = h.near in
    let young = h.young in
    record {
      least = h.least;
      past = omega (arith, a, past);
      near = omega (arith, a, c, near);
      young = omega (arith, c, young);
      says = λ tag chunk is. absurd (no_received is);
    }

data_of_none : (message : ℕ → Message) (is_interleaved : Bool) (call : Call) (first : ℕ) (x : Direction) → ReceivesData message is_interleaved call first x → ReceivesData message is_interleaved ReceiveNoPacket first x
data_of_none message is_interleaved call first x h = record {
  least = h.least;
  young = h.young;
  says = λ tag chunk is. absurd (no_received is);
}

-- nor is anything emitted of resets
record EmitsNoReset (es : List (Event Carried)) : Type 0 where
  counted : performed_in es ≡ 0
  named : performed_of es ≡ []
  none_failed : failed_in es ≡ false

emits_none : (es : List (Event Carried)) → resets_in es ≡ [] → EmitsNoReset es
emits_none es none = record {
  counted = sym (performed_counts es) ∙ ap (λ (fs : List (Event Carried)). performed_in fs) none;
  named = sym (performed_names es) ∙ ap (λ (fs : List (Event Carried)). performed_of fs) none;
  none_failed = sym (failed_still es) ∙ ap (λ (fs : List (Event Carried)). failed_in fs) none;
}

emitted_so : (es : List (Event Carried)) (x : Direction) (f : ℕ → StreamEpoch) → EmitsNoReset es → AreSo f x.rules → AreSo (reopen (performed_of es) (shut_streams [] f)) x.rules
emitted_so es x f none so = subst (λ (ns : List ℕ). AreSo (reopen ns (shut_streams [] f)) x.rules) (sym none.named) so

answered_so : (n : ℕ) (es : List (Event Carried)) → EmitsNoReset es → n ≡ n + performed_in es
answered_so n es none = let c = none.counted in omega (arith, c)

performed_so : (k a b : ℕ) (es fs : List (Event Carried)) → resets_in fs ≡ resets_in es → a ≡ b + resets_emitted k es → a ≡ b + resets_emitted k fs
performed_so k a b es fs same e = let c = emitted_same k es fs same in omega (arith, c, e)

module _ (message : ℕ → Message) (lifecycle : ℕ → Option ℕ) (is_interleaved : Bool) (g : Setting) (x : Direction) (s : Side) where
  -- where these are offered at an end
  abbrev offered_at : List messages.Message → SendOptions → Context Carried
  offered_at ms how = offer_all ms how (shown_state (state_of s)) s.end.endpoint_state.context

  -- ---- the sender

  module _ (stay : Stay message lifecycle is_interleaved)
      (sender_keeps : (from : Direction) → SenderPremises message lifecycle is_interleaved g ReceiveNoPacket from → KeepsJoined g ReceiveNoPacket (SenderGoes message lifecycle is_interleaved from)) where
    -- once the messages are offered
    premises_then : (call : Call) (c : Context Carried) (n : ℕ) → SenderPremises message lifecycle is_interleaved g call x → (o : OfferedTo message lifecycle is_interleaved (state_of s) c x n)
        → SenderPremises message lifecycle is_interleaved g ReceiveNoPacket o.mid
    premises_then call c n p o = record {
      kept = o.is.kept;
      own = p.own;
      mode = p.mode;
      few = subst (λ (l : List ResetRequest). length l < 2 ^ 32) (sym o.offers.asks) p.few;
      handed = p.handed;
      beside = stay.refines g.beside p.handed x o.mid p.kept o.offers.goes o.offers.done p.beside;
      receives = sacks_of_none call (first_in g.beside) x o.mid o.offers.acknowledged o.offers.counted p.receives;
    }

    claim_then : (ms : List messages.Message) (how : SendOptions) (n : ℕ) → IsSilent s
        → (o : OfferedTo message lifecycle is_interleaved (state_of s) (offered_at ms how) x n) → SenderClaim message lifecycle is_interleaved o.mid [] (offering ms how s.end) o.mid
    claim_then ms how n q o =
        let emitted : List (Event Carried) = (offered_at ms how).emitted.events in
        let none : EmitsNoReset emitted = emits_none emitted o.is.no_reset in
        record {
          kept = o.is.kept;
          goes = goes_none message is_interleaved goes_out o.mid;
          done = refl;
          shown = o.is.shown;
          since = λ a there. inl there;
          given_up = o.is.given_up;
          reported = reports_none lifecycle (transfer_of o.mid) (transfer_of o.mid) [] emitted refl o.is.reported;
          performed = answered_so o.mid.answered emitted none;
          epochs = λ f so. emitted_so emitted o.mid f none so;
          none_failed = none.none_failed;
          emitted = subst (SaysPackets message lifecycle is_interleaved o.mid (first_out (state_of s)) o.mid)
              (sym (offers_packets ms how (shown_state (state_of s)) s.end.endpoint_state.context ∙ ap (λ (t : Emitted Carried). packets_in t.events) q.emitted))
              (All-nil (λ (p : Carried). SaysAll message lifecycle is_interleaved o.mid (first_out (state_of s)) o.mid p.chunks));
          made = All-nil _;
        }

    module _ (call : Call) (q : IsSilent s) (p : SenderPremises message lifecycle is_interleaved g call x) (shown : SendsIn message lifecycle is_interleaved (state_of s) (queue_of s) x) where
      is_offering : IsOffering message lifecycle is_interleaved (state_of s) s.end.endpoint_state.context x
      is_offering = record {
        kept = p.kept;
        shown = shown;
        given_up = ap (λ (t : Emitted Carried). recorded_places t) q.emitted;
        reported = ap (λ (t : Emitted Carried). delivered_ids t.events) q.emitted;
        no_reset = ap (λ (t : Emitted Carried). resets_in t.events) q.emitted;
      }

      -- where the rest of the call is done behind the offers
      behind_offers : (ms : List messages.Message) (how : SendOptions) → AreOffered message lifecycle (transfer_of x).sender.accepted (accepted_of ms how (shown_state (state_of s)) s.end.endpoint_state.context)
          → (transfer_of x).sender.accepted + length (accepted_of ms how (shown_state (state_of s)) s.end.endpoint_state.context) < 2 ^ 32
          → ((mid : Direction) → KeepsJoined g ReceiveNoPacket (SenderGoes message lifecycle is_interleaved mid) → SenderGoes message lifecycle is_interleaved mid (offering ms how s.end) (calm (called call s.end)))
          → OffersOut message lifecycle is_interleaved x (accepted_of ms how (shown_state (state_of s)) s.end.endpoint_state.context) (calm (called call s.end))
      behind_offers ms how are few goes =
          let os : List AcceptedMessage = accepted_of ms how (shown_state (state_of s)) s.end.endpoint_state.context in
          let o : OfferedTo message lifecycle is_interleaved (state_of s) (offered_at ms how) x (length os) =
          offers_all message lifecycle is_interleaved ms (state_of s) s.end.endpoint_state.context x how is_offering are few in
          let c = goes o.mid (sender_keeps o.mid (premises_then call (offered_at ms how) (length os) p o)) [] o.mid (claim_then ms how (length os) q o) in
          record { mid = o.mid; offers = o.offers; to = c.0; claim = c.1 }

    -- each such call
    abbrev GoesOut : Call → Type 0
    GoesOut call = Rules g call → SenderPremises message lifecycle is_interleaved g call x
        → AreOffered message lifecycle (transfer_of x).sender.accepted (accepted_by call s) → (transfer_of x).sender.accepted + length (accepted_by call s) < 2 ^ 32
        → HasNoEnd (calm (called call s.end)) → InvAt g (calm s.end) → IsSilent s → SendsIn message lifecycle is_interleaved (state_of s) (queue_of s) x
        → OffersOut message lifecycle is_interleaved x (accepted_by call s) (calm (called call s.end))

    pub offered_out : (call : Call) → Rules g call → is_offer call ≡ true → SenderPremises message lifecycle is_interleaved g call x
        → AreOffered message lifecycle (transfer_of x).sender.accepted (accepted_by call s) → (transfer_of x).sender.accepted + length (accepted_by call s) < 2 ^ 32
        → HasNoEnd (calm (called call s.end)) → InvAt g (calm s.end) → IsSilent s → SendsIn message lifecycle is_interleaved (state_of s) (queue_of s) x
        → OffersOut message lifecycle is_interleaved x (accepted_by call s) (calm (called call s.end))
    offered_out call r offer =
        each_offer GoesOut
        (λ m how r p are few none inv q shown.
        behind_offers (Send m how) q p shown (m ∷ []) how are few (λ mid k. then_one g k s.end m how r none inv))
        (λ ms how r p are few none inv q shown.
        behind_offers (SendMany ms how) q p shown ms how are few (λ mid k. then_many g k s.end ms how r none inv)) call offer r

  -- ---- the receiver

  module _ (handed : List messages.Message)
      (receiver_keeps : ReceiverPremises message lifecycle is_interleaved g ReceiveNoPacket x → KeepsJoined g ReceiveNoPacket (ReceiverGoes message lifecycle is_interleaved x handed)) where
    none_premises : (call : Call) → ReceiverPremises message lifecycle is_interleaved g call x → ReceiverPremises message lifecycle is_interleaved g ReceiveNoPacket x
    none_premises call p = record {
      kept = p.kept;
      own = p.own;
      mode = p.mode;
      few_asks = p.few_asks;
      queue = p.queue;
      beside = p.beside;
      windows = p.windows;
      few = p.few;
      short = p.short;
      soon = p.soon;
      receives = data_of_none message is_interleaved call (first_out g.beside) x p.receives;
    }

    -- the offers themselves are nothing to it
    claim_offering : (ms : List messages.Message) (how : SendOptions) (z : Direction) → ReceiverClaim message is_interleaved x handed (calm s.end) z
        → ReceiverClaim message is_interleaved x handed (offering ms how s.end) z
    claim_offering ms how z c =
        let before : List (Event Carried) = s.end.endpoint_state.context.emitted.events in
        let emitted : List (Event Carried) = (offered_at ms how).emitted.events in
        record {
          kept = c.kept;
          goes = c.goes;
          stay = c.stay;
          shown = c.shown;
          performed = λ k. performed_so k (z.rules.performed k) (x.rules.performed k) before emitted (offers_resets ms how (shown_state (state_of s)) s.end.endpoint_state.context) (c.performed k);
          emitted = subst (λ (ps : List Carried). All (λ (p : Carried). All (SaysIn (first_in (state_of s)) (transfer_of x).acknowledged z) p.chunks) ps)
              (sym (offers_packets ms how (shown_state (state_of s)) s.end.endpoint_state.context)) c.emitted;
          made = c.made;
        }

    abbrev GoesIn : Call → Type 0
    GoesIn call = Rules g call → ReceiverPremises message lifecycle is_interleaved g call x → HasNoEnd (calm (called call s.end)) → InvAt g (calm s.end)
        → ReceiverGoes message lifecycle is_interleaved x handed (calm s.end) (calm (called call s.end))

    pub offered_in : (call : Call) → Rules g call → is_offer call ≡ true → ReceiverPremises message lifecycle is_interleaved g call x → HasNoEnd (calm (called call s.end))
        → InvAt g (calm s.end) → ReceiverGoes message lifecycle is_interleaved x handed (calm s.end) (calm (called call s.end))
    offered_in call r offer =
        each_offer GoesIn
        (λ m how r p none inv z c. then_one g (receiver_keeps (none_premises (Send m how) p)) s.end m how r none inv z (claim_offering (m ∷ []) how z c))
        (λ ms how r p none inv z c. then_many g (receiver_keeps (none_premises (SendMany ms how) p)) s.end ms how r none inv z (claim_offering ms how z c)) call offer r
