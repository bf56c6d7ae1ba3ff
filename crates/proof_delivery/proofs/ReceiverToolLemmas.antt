-- Rules of a receiver that lead on: the sender's part, what is under way and what was asked stay, and so does the reset that is
-- deferred.
use Rattle.std.proofs.Common.{◌≡◌, ℕ, suc, Bool, true, Option, Some, None, List, [], ◌∷◌, length, map, All, refl, sym, ◌∙◌, subst, ap, arith, append-nil}
use Rattle.std.specs.List.{list_all}
use Rattle.std.proofs.lemmas.Bool.{and_parts}
use Rattle.std.proofs.lemmas.List.Elements.{All-weaker}
use Rattle.sctp_wire.specs.Parameter.{ParameterTree, reset_response}
use Rattle.sctp_packet.specs.Chunk.{ChunkTree, sack_chunk, re_config_chunk}
use Rattle.sctp_rx.specs.ReassemblyQueue.{Deferred}
use Rattle.proof_protocol.specs.State.{Message, IsAmong}
use Rattle.proof_protocol.specs.Rules.{TransferEvent, accept, begin, number, end_with_placeholder, give_up, data_comes, late_comes, become_ready, send_sack, acknowledge_next, send_forward, forward_comes, perform_reset}
use Rattle.proof_protocol.specs.Resets.{Request, Epochs, ResetEvent, transfers, reset_stream, send_request, perform, commit, goes, MayAll, go_all}
use Rattle.proof_protocol.specs.Based.{InEpochs}
use Rattle.proof_protocol.proofs.BasedLemmas.{keeps_epochs, all_in_epochs}
use Rattle.proof_refines.specs.Resets.{AreNextTo, IsWaitingFor}
use Rattle.proof_endpoint.specs.Mapped.{Carried}
use Rattle.proof_delivery.specs.Asks.{ResetRequest, AreRequested, SaysIncoming}
use Rattle.proof_delivery.proofs.AsksLemmas.{asks_stay}
use Rattle.proof_delivery.proofs.ClaimLemmas.{Direction, transfer_of, is_receiving, goes_in, IsKept, GoesOn, SaysIn}
use Rattle.proof_delivery.proofs.SenderToolLemmas.{all_transfers}

-- what becomes ready is a receiver's
pub ready_is_receiving : (ps : List ℕ) → list_all is_receiving (map become_ready ps) ≡ true
ready_is_receiving [] = refl
ready_is_receiving (p ∷ ps) = ready_is_receiving ps

module _ (message : ℕ → Message) (is_interleaved : Bool) where
  -- ---- of the transfer alone

  -- where these lead
  abbrev pub led : Direction → List TransferEvent → Direction
  led x es = record x { rules = go_all message is_interleaved x.rules (map transfers es) }

  -- by the laws of the receiver's values
  pub receiving_goes : (x : Direction) (es : List TransferEvent) → MayAll message is_interleaved x.rules (map transfers es) → list_all is_receiving es ≡ true → GoesOn message is_interleaved goes_in x (led x es)
  receiving_goes x es may all = record {
    events = map transfers es;
    may = may;
    all = all_transfers goes_in is_receiving (λ e h. h) es all;
    leads = refl;
    more = [];
    asks = sym (append-nil x.asks);
    further = 0;
    done = omega arith;
    answered = omega arith;
  }

  pub performed_along : (es : List TransferEvent) (x : Epochs) → (go_all message is_interleaved x (map transfers es)).performed ≡ x.performed
  performed_along [] x = refl
  performed_along (e ∷ es) x = performed_along es (goes message is_interleaved x (transfers e))

  asked_along : (es : List TransferEvent) (x : Epochs) (asks : List ResetRequest) (done answered : ℕ) → InEpochs message is_interleaved x → MayAll message is_interleaved x (map transfers es) → AreRequested x asks done answered
      → AreRequested (go_all message is_interleaved x (map transfers es)) asks done answered
  asked_along [] x asks done answered k may are = are
  asked_along (e ∷ es) x asks done answered k may are =
      asked_along es (goes message is_interleaved x (transfers e)) asks done answered (keeps_epochs message is_interleaved x k (transfers e) may.0) may.1
      (asks_stay message is_interleaved x asks done answered are e k.order.kept may.0.0)

  pub led_kept : (x : Direction) (es : List TransferEvent) → IsKept message is_interleaved x → MayAll message is_interleaved x.rules (map transfers es) → IsKept message is_interleaved (led x es)
  led_kept x es k may = record {
    epochs = all_in_epochs message is_interleaved (map transfers es) x.rules k.epochs may;
    asked = asked_along es x.rules x.asks x.done x.answered k.epochs may k.asked;
  }

  -- ---- what stays

  pub record SameSender (x y : Epochs) : Type 0 where
    pub sender : y.transfer.sender ≡ x.transfer.sender
    pub acknowledged : y.transfer.acknowledged ≡ x.transfer.acknowledged
    pub reports : y.transfer.reports ≡ x.transfer.reports
    pub forward_points : y.transfer.forward_points ≡ x.transfer.forward_points
    pub epoch : y.epoch ≡ x.epoch
    pub raised : y.raised ≡ x.raised
    pub opened : y.opened ≡ x.opened
    pub requests : y.requests ≡ x.requests

  none_changed : (x y : Epochs) → y.transfer.sender ≡ x.transfer.sender → y.transfer.acknowledged ≡ x.transfer.acknowledged → y.transfer.reports ≡ x.transfer.reports
      → y.transfer.forward_points ≡ x.transfer.forward_points → y.epoch ≡ x.epoch → y.raised ≡ x.raised → y.opened ≡ x.opened → y.requests ≡ x.requests → SameSender x y
  none_changed x y a b c d e f g h = record { sender = a; acknowledged = b; reports = c; forward_points = d; epoch = e; raised = f; opened = g; requests = h }

  same_once : (x : Epochs) (e : ResetEvent) → goes_in e ≡ true → SameSender x (goes message is_interleaved x e)
  same_once x (transfers (data_comes t)) is = none_changed x _ refl refl refl refl refl refl refl refl
  same_once x (transfers (late_comes t)) is = none_changed x _ refl refl refl refl refl refl refl refl
  same_once x (transfers (become_ready p)) is = none_changed x _ refl refl refl refl refl refl refl refl
  same_once x (transfers (send_sack c)) is = none_changed x _ refl refl refl refl refl refl refl refl
  same_once x (transfers (forward_comes f)) is = none_changed x _ refl refl refl refl refl refl refl refl
  same_once x (transfers (perform_reset s c)) is = cc
  same_once x (transfers accept) is = cc
  same_once x (transfers (begin p)) is = cc
  same_once x (transfers (number p bytes more)) is = cc
  same_once x (transfers (end_with_placeholder p)) is = cc
  same_once x (transfers (give_up p)) is = cc
  same_once x (transfers (acknowledge_next c)) is = cc
  same_once x (transfers (send_forward f)) is = cc
  same_once x (reset_stream s) is = cc
  same_once x (send_request s) is = cc
  same_once x (perform r) is = none_changed x _ refl refl refl refl refl refl refl refl
  same_once x (commit s) is = cc

  same_along : (es : List ResetEvent) (x : Epochs) → list_all goes_in es ≡ true → SameSender x (go_all message is_interleaved x es)
  same_along [] x is = none_changed x x refl refl refl refl refl refl refl refl
  same_along (e ∷ es) x is =
      let parts = and_parts (goes_in e) (list_all goes_in es) is in
      let one = same_once x e parts.0 in
      let rest = same_along es (goes message is_interleaved x e) parts.1 in
      record {
        sender = rest.sender ∙ one.sender;
        acknowledged = rest.acknowledged ∙ one.acknowledged;
        reports = rest.reports ∙ one.reports;
        forward_points = rest.forward_points ∙ one.forward_points;
        epoch = rest.epoch ∙ one.epoch;
        raised = rest.raised ∙ one.raised;
        opened = rest.opened ∙ one.opened;
        requests = rest.requests ∙ one.requests;
      }

  pub sender_stays : (x y : Direction) → GoesOn message is_interleaved goes_in x y → SameSender x.rules y.rules
  sender_stays x y g = subst (λ (z : Epochs). SameSender x.rules z) g.leads (same_along g.events x.rules g.all)

-- ---- a reset that is deferred

module _ (x y : Epochs) (performed : y.performed ≡ x.performed) (sent : (r : Request) → IsAmong r x.requests → IsAmong r y.requests) where
  next_still : (upto : ℕ) (rs : List Request) → AreNextTo x upto rs → AreNextTo y upto rs
  next_still upto [] h = tt
  next_still upto (r ∷ rs) h = (
    record { sent = sent r h.0.sent; epoch = h.0.epoch ∙ ap (λ (f : ℕ → ℕ). suc (f r.stream)) (sym performed); last = h.0.last },
    h.1,
    next_still upto rs h.2,
  )

  -- waits still, as long as no other is performed
  pub waits_still : (shift : ℕ) (first : Option ℕ) (d : Option Deferred) → IsWaitingFor shift x first d → IsWaitingFor shift y first d
  waits_still shift first None h = tt
  waits_still shift first (Some d) h = record {
    request = h.request;
    more = h.more;
    upto = h.upto;
    next = next_still h.upto (h.request ∷ h.more) h.next;
    names = h.names;
    last = h.last;
    idle = h.idle;
    counts_from = h.counts_from;
    begun = h.begun;
  }

-- ---- where no SACK was sent and nothing performed, none was said, whatever the first TSN is

module _ (x : Direction) (none : (transfer_of x).sacks ≡ []) (none_done : x.done ≡ 0) (one other least : ℕ) where
  none_answered : (p : ParameterTree) → SaysIncoming one x.done (length x.asks) p → SaysIncoming other x.done (length x.asks) p
  none_answered (reset_response n result sender receiver) h = λ final. let l = (h final).below in absurd (omega (arith, l, none_done))
  none_answered p h = h

  none_said : (chunk : ChunkTree) → SaysIn one least x chunk → SaysIn other least x chunk
  none_said (sack_chunk k) s = absurd (subst (IsAmong s.point) none s.sent)
  none_said (re_config_chunk parameters) s = All-weaker (SaysIncoming one x.done (length x.asks)) (SaysIncoming other x.done (length x.asks)) none_answered parameters s
  none_said chunk s = s

  pub no_chunks_said : (chunks : List ChunkTree) → All (SaysIn one least x) chunks → All (SaysIn other least x) chunks
  no_chunks_said chunks a = All-weaker (SaysIn one least x) (SaysIn other least x) none_said chunks a

  pub no_packets_said : (ps : List Carried) → All (λ (p : Carried). All (SaysIn one least x) p.chunks) ps
      → All (λ (p : Carried). All (SaysIn other least x) p.chunks) ps
  no_packets_said ps a =
      All-weaker (λ (p : Carried). All (SaysIn one least x) p.chunks) (λ (p : Carried). All (SaysIn other least x) p.chunks)
      (λ p s. no_chunks_said p.chunks s) ps a
