-- Rules that lead on: what an end says stays true, and what one end's rules leave of the other's part. For an act of a sender:
-- its claim after it.
use Rattle.std.proofs.Common.{◌≡◌, ℕ, suc, ◌+◌, ◌≤◌, ◌&&◌, ◌⊎◌, Bool, true, false, Option, Some, slice_get, inr, List, [], ◌∷◌, ◌++◌, length, map, All, refl, sym, ap, ◌∙◌, subst, arith, append-nil, append_assoc, length-append}
use Rattle.std.specs.List.{list_all}
use Rattle.std.proofs.lemmas.List.Folds.{list_all-append}
use Rattle.std.proofs.lemmas.List.Elements.{All-weaker}
use Rattle.std.proofs.lemmas.Bool.{and_parts}
use Rattle.sctp_wire.specs.Parameter.{ParameterTree}
use Rattle.sctp_packet.specs.Chunk.{ChunkTree, FragmentTree, data_chunk, idata_chunk, sack_chunk, re_config_chunk, forward_tsn_chunk, i_forward_tsn_chunk}
use Rattle.sctp_state.specs.Events as events
use Rattle.sctp_state.specs.Events.{Emitted, OnLifecycleMessageDelivered}
use Rattle.proof_protocol.specs.State.{Message, ForwardPoint, Transfer, IsAmong, count}
use Rattle.proof_protocol.specs.Rules.{TransferEvent, accept, begin, number, end_with_placeholder, give_up, data_comes, late_comes, become_ready, send_sack, acknowledge_next, send_forward, forward_comes, perform_reset, after}
use Rattle.proof_protocol.specs.Resets.{Request, Epochs, ResetEvent, transfers, reset_stream, send_request, perform, commit, MayReset, goes, MayAll, go_all}
use Rattle.proof_protocol.specs.Based.{InEpochs}
use Rattle.proof_protocol.proofs.BasedLemmas.{keeps_epochs, all_in_epochs}
use Rattle.proof_protocol.proofs.StepLemmas.{later}
use Rattle.proof_refines.specs.Reachable.{given_up_places, recorded_places, delivered_ids, ids_at}
use Rattle.proof_refines.proofs.LedLemmas.{given_more}
use Rattle.proof_refines.proofs.PausedLemmas.{go_more, may_more}
use Rattle.proof_refines.proofs.SackLemmas.{delivered_more, ids_more}
use Rattle.proof_refines.proofs.SendLemmas.{carries_along}
use Rattle.proof_endpoint.specs.Mapped.{Carried}
use Rattle.proof_endpoint.specs.Acts.{EndWithPacket}
use Rattle.spec_endpoint.specs.Packets.{packets_in}
use Rattle.proof_pair.proofs.EmittedLemmas.{is_quiet, EmitsNoPacketOrStatus, EmitsQuietly}
use Rattle.proof_pair.proofs.JoinActsLemmas.{packets_both, no_packet_or_status_has_no_packets}
use Rattle.proof_delivery.specs.Asks.{ResetRequest, request_for, AreRequested, SaysOutgoing, SaysIncoming}
use Rattle.proof_delivery.specs.Answered.{performed_in}
use Rattle.proof_delivery.specs.StreamEpochs.{StreamEpoch, shut_streams, reopen, performed_of, failed_in}
use Rattle.proof_delivery.proofs.AsksLemmas.{asks_said, answers_said}
use Rattle.proof_delivery.proofs.ClaimLemmas.{Direction, transfer_of, of_transfer, goes_out, GoesOn, SaysData, SaysPoint, SaysOut, SaysIn, first_out, SendsIn, Reports, AreSo, SenderClaim}
use Rattle.proof_delivery.proofs.ResetEventsLemmas.{resets_in, performed_counts, performed_names, failed_still}

-- ---- one run after another

pub transfer_more : (es fs : List ResetEvent) → of_transfer (es ++ fs) ≡ of_transfer es ++ of_transfer fs
transfer_more [] fs = refl
transfer_more (transfers e ∷ es) fs = ap (λ (gs : List TransferEvent). e ∷ gs) (transfer_more es fs)
transfer_more (reset_stream s ∷ es) fs = transfer_more es fs
transfer_more (send_request s ∷ es) fs = transfer_more es fs
transfer_more (perform r ∷ es) fs = transfer_more es fs
transfer_more (commit s ∷ es) fs = transfer_more es fs

pub of_transfers : (es : List TransferEvent) → of_transfer (map transfers es) ≡ es
of_transfers [] = refl
of_transfers (e ∷ es) = ap (λ (gs : List TransferEvent). e ∷ gs) (of_transfers es)

pub all_transfers : (kind : ResetEvent → Bool) (only : TransferEvent → Bool) → ((e : TransferEvent) → only e ≡ true → kind (transfers e) ≡ true) → (es : List TransferEvent) → list_all only es ≡ true
    → list_all kind (map transfers es) ≡ true
all_transfers kind only each [] h = refl
all_transfers kind only each (e ∷ es) h =
    let hs = and_parts (only e) (list_all only es) h in
    ap (λ b. b && list_all kind (map transfers es)) (each e hs.0) ∙ all_transfers kind only each es hs.1

module _ (message : ℕ → Message) (is_interleaved : Bool) where
  abbrev pub goes_none : (kind : ResetEvent → Bool) (x : Direction) → GoesOn message is_interleaved kind x x
  goes_none kind x = record {
    events = [];
    may = tt;
    all = refl;
    leads = refl;
    more = [];
    asks = sym (append-nil x.asks);
    further = 0;
    done = omega arith;
    answered = omega arith;
  }

  module _ (kind : ResetEvent → Bool) where
    -- with what they give up
    pub goes_given : (x y z : Direction) → (a : GoesOn message is_interleaved kind x y) → (b : GoesOn message is_interleaved kind y z)
        → (c : GoesOn message is_interleaved kind x z) × (given_up_places (of_transfer c.events) ≡ given_up_places (of_transfer a.events) ++ given_up_places (of_transfer b.events))
    goes_given x y z a b =
        let one = a.done in
        let two = b.done in
        let few = a.answered in
        let some = b.answered in
        let c : GoesOn message is_interleaved kind x z = record {
          events = a.events ++ b.events;
          may = may_more message is_interleaved a.events b.events x.rules a.may (subst (λ w. MayAll message is_interleaved w b.events) (sym a.leads) b.may);
          all = list_all-append kind a.events b.events ∙ (ap (λ (t : Bool). t && list_all kind b.events) a.all ∙ b.all);
          leads = go_more message is_interleaved a.events b.events x.rules ∙ (ap (λ w. go_all message is_interleaved w b.events) a.leads ∙ b.leads);
          more = a.more ++ b.more;
          asks = b.asks ∙ (ap (λ (l : List ResetRequest). l ++ b.more) a.asks ∙ append_assoc x.asks a.more b.more);
          further = a.further + b.further;
          done = omega (arith, one, two);
          answered = omega (arith, few, some);
        } in
        (c, ap given_up_places (transfer_more a.events b.events) ∙ given_more message is_interleaved (of_transfer a.events) (of_transfer b.events))

    pub goes_on : (x y z : Direction) → GoesOn message is_interleaved kind x y → GoesOn message is_interleaved kind y z → GoesOn message is_interleaved kind x z
    goes_on x y z a b = (goes_given x y z a b).0

    pub goes_epochs : (x y : Direction) → InEpochs message is_interleaved x.rules → GoesOn message is_interleaved kind x y → InEpochs message is_interleaved y.rules
    goes_epochs x y k g = subst (λ (z : Epochs). InEpochs message is_interleaved z) g.leads (all_in_epochs message is_interleaved g.events x.rules k g.may)

  -- the transfer goes on, and nothing else changes
  abbrev pub with_transfer : Direction → Transfer → Direction
  with_transfer x t = record x { rules = record x.rules { transfer = t } }

  abbrev pub transfers_go : (kind : ResetEvent → Bool) (x : Direction) (t : Transfer) (es : List TransferEvent) → MayAll message is_interleaved x.rules (map transfers es) → list_all kind (map transfers es) ≡ true
      → go_all message is_interleaved x.rules (map transfers es) ≡ record x.rules { transfer = t } → GoesOn message is_interleaved kind x (with_transfer x t)
  transfers_go kind x t es may all leads = record {
    events = map transfers es;
    may = may;
    all = all;
    leads = leads;
    more = [];
    asks = sym (append-nil x.asks);
    further = 0;
    done = omega arith;
    answered = omega arith;
  }

-- ---- what only grows, along rules of any kind

module _ (message : ℕ → Message) (is_interleaved : Bool) where
  -- from x to y
  pub record Grows (x y : Direction) : Type 0 where
    pub numbered : count (transfer_of x).sender ≤ count (transfer_of y).sender
    pub left : (transfer_of x).acknowledged ≤ (transfer_of y).acknowledged
    pub points : (f : ForwardPoint) → IsAmong f (transfer_of x).forward_points → IsAmong f (transfer_of y).forward_points
    pub sacks : (c : ℕ) → IsAmong c (transfer_of x).sacks → IsAmong c (transfer_of y).sacks

  left_once : (x : Transfer) (e : TransferEvent) → x.acknowledged ≤ (after message is_interleaved x e).acknowledged
  left_once x (acknowledge_next c) = omega arith
  left_once x accept = omega arith
  left_once x (begin p) = omega arith
  left_once x (number p bytes more) = omega arith
  left_once x (end_with_placeholder p) = omega arith
  left_once x (give_up p) = omega arith
  left_once x (data_comes t) = omega arith
  left_once x (late_comes t) = omega arith
  left_once x (become_ready p) = omega arith
  left_once x (send_sack c) = omega arith
  left_once x (send_forward f) = omega arith
  left_once x (forward_comes f) = omega arith
  left_once x (perform_reset s c) = omega arith

  points_once : (x : Transfer) (e : TransferEvent) (f : ForwardPoint) → IsAmong f x.forward_points → IsAmong f (after message is_interleaved x e).forward_points
  points_once x (send_forward g) f a = inr a
  points_once x accept f a = a
  points_once x (begin p) f a = a
  points_once x (number p bytes more) f a = a
  points_once x (end_with_placeholder p) f a = a
  points_once x (give_up p) f a = a
  points_once x (data_comes t) f a = a
  points_once x (late_comes t) f a = a
  points_once x (become_ready p) f a = a
  points_once x (send_sack c) f a = a
  points_once x (acknowledge_next c) f a = a
  points_once x (forward_comes g) f a = a
  points_once x (perform_reset s c) f a = a

  sacks_once : (x : Transfer) (e : TransferEvent) (n : ℕ) → IsAmong n x.sacks → IsAmong n (after message is_interleaved x e).sacks
  sacks_once x (send_sack c) n a = inr a
  sacks_once x accept n a = a
  sacks_once x (begin p) n a = a
  sacks_once x (number p bytes more) n a = a
  sacks_once x (end_with_placeholder p) n a = a
  sacks_once x (give_up p) n a = a
  sacks_once x (data_comes t) n a = a
  sacks_once x (late_comes t) n a = a
  sacks_once x (become_ready p) n a = a
  sacks_once x (acknowledge_next c) n a = a
  sacks_once x (send_forward f) n a = a
  sacks_once x (forward_comes f) n a = a
  sacks_once x (perform_reset s c) n a = a

  -- of the transfers alone
  record Goes (x y : Transfer) : Type 0 where
    numbered : count x.sender ≤ count y.sender
    left : x.acknowledged ≤ y.acknowledged
    points : (f : ForwardPoint) → IsAmong f x.forward_points → IsAmong f y.forward_points
    sacks : (c : ℕ) → IsAmong c x.sacks → IsAmong c y.sacks

  goes_alike : (x y : Transfer) → count y.sender ≡ count x.sender → y.acknowledged ≡ x.acknowledged → y.forward_points ≡ x.forward_points → y.sacks ≡ x.sacks → Goes x y
  goes_alike x y numbered left points sacks = record {
    numbered = omega (arith, numbered);
    left = omega (arith, left);
    points = λ f a. subst (IsAmong f) (sym points) a;
    sacks = λ c a. subst (IsAmong c) (sym sacks) a;
  }

  goes_once : (x : Epochs) (e : ResetEvent) → InEpochs message is_interleaved x → MayReset message is_interleaved x e → Goes x.transfer (goes message is_interleaved x e).transfer
  goes_once x (transfers e) k may = record {
    numbered = (later message is_interleaved x.transfer k.order.kept e may.0).count_grows;
    left = left_once x.transfer e;
    points = points_once x.transfer e;
    sacks = sacks_once x.transfer e;
  }
  goes_once x (reset_stream s) k may = goes_alike x.transfer x.transfer refl refl refl refl
  goes_once x (send_request s) k may = goes_alike x.transfer x.transfer refl refl refl refl
  goes_once x (perform r) k may = goes_alike x.transfer (goes message is_interleaved x (perform r)).transfer refl refl refl refl
  goes_once x (commit s) k may = goes_alike x.transfer (goes message is_interleaved x (commit s)).transfer refl refl refl refl

  goes_then : (x y z : Transfer) → Goes x y → Goes y z → Goes x z
  goes_then x y z a b =
      let c = a.numbered in
      let d = b.numbered in
      let l = a.left in
      let m = b.left in
      record { numbered = omega (arith, c, d); left = omega (arith, l, m); points = λ f i. b.points f (a.points f i); sacks = λ n i. b.sacks n (a.sacks n i) }

  goes_along : (es : List ResetEvent) (x : Epochs) → InEpochs message is_interleaved x → MayAll message is_interleaved x es → Goes x.transfer (go_all message is_interleaved x es).transfer
  goes_along [] x k h = goes_alike x.transfer x.transfer refl refl refl refl
  goes_along (e ∷ es) x k h =
      goes_then x.transfer (goes message is_interleaved x e).transfer (go_all message is_interleaved (goes message is_interleaved x e) es).transfer (goes_once x e k h.0)
      (goes_along es (goes message is_interleaved x e) (keeps_epochs message is_interleaved x k e h.0) h.1)

  pub goes_grows : (kind : ResetEvent → Bool) (x y : Direction) → InEpochs message is_interleaved x.rules → GoesOn message is_interleaved kind x y → Grows x y
  goes_grows kind x y k g =
      let r = subst (λ (z : Epochs). Goes x.rules.transfer z.transfer) g.leads (goes_along g.events x.rules k g.may) in
      record { numbered = r.numbered; left = r.left; points = r.points; sacks = r.sacks }

  -- ---- what was said stays true

  abbrev SaysFrom : (first least tsn : ℕ) → FragmentTree → Transfer → Type 0
  SaysFrom first least tsn f x = SaysData message first least x.sender tsn f

  data_once : (x : Epochs) (e : ResetEvent) → InEpochs message is_interleaved x → MayReset message is_interleaved x e → (first least tsn : ℕ) (f : FragmentTree)
      → SaysFrom first least tsn f x.transfer → SaysFrom first least tsn f (goes message is_interleaved x e).transfer
  data_once x (transfers e) k may first least tsn f s =
      let c = carries_along message is_interleaved first (e ∷ []) x.transfer k.order.kept (may.0, tt) (tsn, f) s.carries in
      record { carries = c.0; from = subst (λ n. least ≤ n) (sym c.1) s.from }
  data_once x (reset_stream t) k may first least tsn f s = s
  data_once x (send_request t) k may first least tsn f s = s
  data_once x (perform r) k may first least tsn f s = s
  data_once x (commit t) k may first least tsn f s =
      record { carries = record { at = s.carries.at; below = s.carries.below; real = s.carries.real; tsn = s.carries.tsn; tree = s.carries.tree }; from = s.from }

  data_along : (es : List ResetEvent) (x : Epochs) → InEpochs message is_interleaved x → MayAll message is_interleaved x es → (first least tsn : ℕ) (f : FragmentTree)
      → SaysFrom first least tsn f x.transfer → SaysFrom first least tsn f (go_all message is_interleaved x es).transfer
  data_along [] x k h first least tsn f s = s
  data_along (e ∷ es) x k h first least tsn f s =
      data_along es (goes message is_interleaved x e) (keeps_epochs message is_interleaved x k e h.0) h.1 first least tsn f (data_once x e k h.0 first least tsn f s)

  module _ (kind : ResetEvent → Bool) (x y : Direction) (k : InEpochs message is_interleaved x.rules) (g : GoesOn message is_interleaved kind x y) where
    data_stays : (first least tsn : ℕ) (f : FragmentTree) → SaysData message first least (transfer_of x).sender tsn f → SaysData message first least (transfer_of y).sender tsn f
    data_stays first least tsn f s = subst (λ (z : Epochs). SaysFrom first least tsn f z.transfer) g.leads (data_along g.events x.rules k g.may first least tsn f s)

    point_stays : (first least : ℕ) (chunk : ChunkTree) → SaysPoint is_interleaved first least (transfer_of x) chunk → SaysPoint is_interleaved first least (transfer_of y) chunk
    point_stays first least chunk s =
        record { point = s.point; sent = (goes_grows kind x y k g).points s.point s.sent; written = s.written; apart = s.apart; ahead = s.ahead }

    asks_stay : (first : ℕ) (ps : List ParameterTree) → All (SaysOutgoing first x.asks) ps → All (SaysOutgoing first y.asks) ps
    asks_stay first ps h =
        subst (λ (l : List ResetRequest). All (SaysOutgoing first l) ps) (sym g.asks)
        (All-weaker (SaysOutgoing first x.asks) (SaysOutgoing first (x.asks ++ g.more)) (λ p s. asks_said first x.asks g.more p s) ps h)

    answers_stay : (first : ℕ) (ps : List ParameterTree) → All (SaysIncoming first x.done (length x.asks)) ps → All (SaysIncoming first y.done (length y.asks)) ps
    answers_stay first ps h =
        subst (λ (n : ℕ). All (SaysIncoming first n (length y.asks)) ps) (sym g.done)
        (subst (λ (n : ℕ). All (SaysIncoming first (x.done + g.further) n) ps) (sym (ap length g.asks ∙ length-append x.asks g.more))
        (All-weaker (SaysIncoming first x.done (length x.asks)) (SaysIncoming first (x.done + g.further) (length x.asks + length g.more))
        (λ p s. answers_said first x.done (length x.asks) (g.further) (length g.more) p s) ps h))

    pub out_stays : (first least : ℕ) (chunk : ChunkTree) → SaysOut message is_interleaved first least x chunk → SaysOut message is_interleaved first least y chunk
    out_stays first least (data_chunk tsn is_immediate f) s = (s.0, data_stays first least tsn f s.1)
    out_stays first least (idata_chunk tsn is_immediate f) s = (s.0, data_stays first least tsn f s.1)
    out_stays first least (forward_tsn_chunk tsn skipped) s = point_stays first least (forward_tsn_chunk tsn skipped) s
    out_stays first least (i_forward_tsn_chunk tsn skipped) s = point_stays first least (i_forward_tsn_chunk tsn skipped) s
    out_stays first least (re_config_chunk parameters) s = asks_stay first parameters s
    out_stays first least chunk s = s

    pub in_stays : (first least : ℕ) (chunk : ChunkTree) → SaysIn first least x chunk → SaysIn first least y chunk
    in_stays first least (sack_chunk sack) s =
        record { point = s.point; sent = (goes_grows kind x y k g).sacks s.point s.sent; written = s.written; from = s.from }
    in_stays first least (re_config_chunk parameters) s = answers_stay first parameters s
    in_stays first least chunk s = s

    -- chunks, and packets
    pub all_out_stay : (first least : ℕ) (chunks : List ChunkTree) → All (SaysOut message is_interleaved first least x) chunks → All (SaysOut message is_interleaved first least y) chunks
    all_out_stay first least chunks a =
        All-weaker (SaysOut message is_interleaved first least x) (SaysOut message is_interleaved first least y) (λ chunk s. out_stays first least chunk s) chunks a

    pub all_in_stay : (first least : ℕ) (chunks : List ChunkTree) → All (SaysIn first least x) chunks → All (SaysIn first least y) chunks
    all_in_stay first least chunks a = All-weaker (SaysIn first least x) (SaysIn first least y) (λ chunk s. in_stays first least chunk s) chunks a

    pub emitted_out_stays : (first least : ℕ) (packets : List Carried) → All (λ (p : Carried). All (SaysOut message is_interleaved first least x) p.chunks) packets
        → All (λ (p : Carried). All (SaysOut message is_interleaved first least y) p.chunks) packets
    emitted_out_stays first least packets a =
        All-weaker (λ (p : Carried). All (SaysOut message is_interleaved first least x) p.chunks) (λ (p : Carried). All (SaysOut message is_interleaved first least y) p.chunks)
        (λ p s. all_out_stay first least p.chunks s) packets a

    pub emitted_in_stays : (first least : ℕ) (packets : List Carried) → All (λ (p : Carried). All (SaysIn first least x) p.chunks) packets
        → All (λ (p : Carried). All (SaysIn first least y) p.chunks) packets
    emitted_in_stays first least packets a =
        All-weaker (λ (p : Carried). All (SaysIn first least x) p.chunks) (λ (p : Carried). All (SaysIn first least y) p.chunks)
        (λ p s. all_in_stay first least p.chunks s) packets a

  -- ---- a sender's rules leave the receiver as it is

  pub record SameReceiver (x y : Epochs) : Type 0 where
    pub receiver : y.transfer.receiver ≡ x.transfer.receiver
    pub sacks : y.transfer.sacks ≡ x.transfer.sacks
    pub performed : y.performed ≡ x.performed
    pub base : y.base ≡ x.base

  same_once : (x : Epochs) (e : ResetEvent) → goes_out e ≡ true → SameReceiver x (goes message is_interleaved x e)
  same_once x (transfers (begin p)) s = record { receiver = refl; sacks = refl; performed = refl; base = refl }
  same_once x (transfers (number p bytes more)) s = record { receiver = refl; sacks = refl; performed = refl; base = refl }
  same_once x (transfers (end_with_placeholder p)) s = record { receiver = refl; sacks = refl; performed = refl; base = refl }
  same_once x (transfers (give_up p)) s = record { receiver = refl; sacks = refl; performed = refl; base = refl }
  same_once x (transfers (acknowledge_next c)) s = record { receiver = refl; sacks = refl; performed = refl; base = refl }
  same_once x (transfers (send_forward f)) s = record { receiver = refl; sacks = refl; performed = refl; base = refl }
  same_once x (transfers accept) s = cc
  same_once x (transfers (data_comes t)) s = cc
  same_once x (transfers (late_comes t)) s = cc
  same_once x (transfers (become_ready p)) s = cc
  same_once x (transfers (send_sack c)) s = cc
  same_once x (transfers (forward_comes f)) s = cc
  same_once x (transfers (perform_reset s c)) h = cc
  same_once x (reset_stream t) s = record { receiver = refl; sacks = refl; performed = refl; base = refl }
  same_once x (send_request t) s = record { receiver = refl; sacks = refl; performed = refl; base = refl }
  same_once x (perform r) s = cc
  same_once x (commit t) s = record { receiver = refl; sacks = refl; performed = refl; base = refl }

  same_along : (es : List ResetEvent) (x : Epochs) → list_all goes_out es ≡ true → SameReceiver x (go_all message is_interleaved x es)
  same_along [] x s = record { receiver = refl; sacks = refl; performed = refl; base = refl }
  same_along (e ∷ es) x s =
      let parts = and_parts (goes_out e) (list_all goes_out es) s in
      let one = same_once x e parts.0 in
      let rest = same_along es (goes message is_interleaved x e) parts.1 in
      record { receiver = rest.receiver ∙ one.receiver; sacks = rest.sacks ∙ one.sacks; performed = rest.performed ∙ one.performed; base = rest.base ∙ one.base }

  pub receiver_stays : (x y : Direction) → GoesOn message is_interleaved goes_out x y → SameReceiver x.rules y.rules
  receiver_stays x y g = subst (λ (z : Epochs). SameReceiver x.rules z) g.leads (same_along g.events x.rules g.all)

-- ---- what is emitted lightly are no packets

pub same_packets : (t u : Emitted Carried) → EmitsNoPacketOrStatus t u → packets_in u.events ≡ packets_in t.events
same_packets t u l =
    ap packets_in l.behind ∙ (packets_both t.events l.events ∙ (ap (λ (ps : List Carried). packets_in t.events ++ ps) (no_packet_or_status_has_no_packets l.events l.all) ∙ append-nil (packets_in t.events)))

-- ---- what is reported

quiet_reports : (es : List (events.Event Carried)) → list_all is_quiet es ≡ true → delivered_ids es ≡ []
quiet_reports [] h = refl
quiet_reports (OnLifecycleMessageDelivered id ∷ es) h = cc
quiet_reports (e ∷ es) h = quiet_reports es (and_parts (is_quiet e) (list_all is_quiet es) h).1

pub same_delivered : (t u : Emitted Carried) → EmitsQuietly t u → delivered_ids u.events ≡ delivered_ids t.events
same_delivered t u l =
    ap delivered_ids l.behind ∙ (delivered_more t.events l.events ∙ (ap (λ (ids : List ℕ). delivered_ids t.events ++ ids) (quiet_reports l.events l.all) ∙ append-nil (delivered_ids t.events)))

module _ (lifecycle : ℕ → Option ℕ) where
  pub reports_none : (x y : Transfer) (es fs : List (events.Event Carried)) → y.reports ≡ x.reports → delivered_ids fs ≡ delivered_ids es → Reports lifecycle x y es fs
  reports_none x y es fs same emitted = record { places = []; more = same ∙ sym (append-nil x.reports); delivered_are = emitted ∙ sym (append-nil (delivered_ids es)) }

  pub reports_then : (x y z : Transfer) (es fs gs : List (events.Event Carried)) → Reports lifecycle x y es fs → Reports lifecycle y z fs gs → Reports lifecycle x z es gs
  reports_then x y z es fs gs a b = record {
    places = a.places ++ b.places;
    more = b.more ∙ (ap (λ (ps : List ℕ). ps ++ b.places) a.more ∙ append_assoc x.reports a.places b.places);
    delivered_are = b.delivered_are ∙ (ap (λ (ids : List ℕ). ids ++ ids_at lifecycle b.places) a.delivered_are ∙ (append_assoc (delivered_ids es) (ids_at lifecycle a.places) (ids_at lifecycle b.places)
        ∙ ap (λ (ids : List ℕ). delivered_ids es ++ ids) (sym (ids_more lifecycle a.places b.places))));
  }

-- ---- the asks, where none is sent, performed or answered

-- and the transfer, and what is raised, may go on
pub asked_still : (x y : Epochs) (asks : List ResetRequest) (done answered : ℕ) → y.opened ≡ x.opened → y.performed ≡ x.performed → y.requests ≡ x.requests → count x.transfer.sender ≤ count y.transfer.sender
    → AreRequested x asks done answered → AreRequested y asks done answered
asked_still x y asks done answered opened performed requests grows are = record {
  opened = λ s. ap (λ (f : ℕ → ℕ). f s) opened ∙ are.opened s;
  performed = λ s. ap (λ (f : ℕ → ℕ). f s) performed ∙ are.performed s;
  fine = λ j a g. let f = are.fine j a g in let w = f.within in record { some = f.some; distinct = f.distinct; within = omega (arith, w, grows) };
  sent = λ j a g s h. subst (λ (rs : List Request). IsAmong (request_for s j a.upto asks) rs) (sym requests) (are.sent j a g s h);
  order = are.order;
}

-- ---- the claim after an act

-- it waited before this action, or is of this action
abbrev pub IsSince : (from x : Direction) → Type 0
IsSince from x = (a : ResetRequest) → slice_get x.asks x.answered ≡ Some a → (slice_get from.asks x.answered ≡ Some a) ⊎ (count (transfer_of from).sender ≤ a.upto)

pub so_still : (f : ℕ → StreamEpoch) (x y : Epochs) → y.raised ≡ x.raised → y.opened ≡ x.opened → AreSo f x → AreSo f y
so_still f x y raised opened h s =
    let i = h s in
    let r : y.raised s ≡ x.raised s = ap (λ (g : ℕ → ℕ). g s) raised in
    let o : y.opened s ≡ x.opened s = ap (λ (g : ℕ → ℕ). g s) opened in
    (i.0 ∙ sym r, λ e. r ∙ (i.1 e ∙ sym o), λ e. r ∙ (i.2 e ∙ ap suc (sym o)))

-- What is emitted of resets as the rules go from x to y, where these streams were to be reset in the action before, and these now: each answer,
-- so that streams stand as the rules say, and none as failed.
pub record EmitsResets (prepared later : List ℕ) (es fs : List (events.Event Carried)) (x y : Direction) : Type 0 where
  pub performed : y.answered + performed_in es ≡ x.answered + performed_in fs
  pub epochs : (f : ℕ → StreamEpoch) → AreSo (reopen (performed_of es) (shut_streams prepared f)) x.rules → AreSo (reopen (performed_of fs) (shut_streams later f)) y.rules
  pub none_failed : failed_in es ≡ false → failed_in fs ≡ false

-- no answer
pub record EmitsNoAnswer (es fs : List (events.Event Carried)) : Type 0 where
  pub counted : performed_in fs ≡ performed_in es
  pub named : performed_of fs ≡ performed_of es
  pub failed : failed_in fs ≡ failed_in es

-- nor anything of resets
pub no_answer : (es fs : List (events.Event Carried)) → resets_in fs ≡ resets_in es → EmitsNoAnswer es fs
no_answer es fs same = record {
  counted = sym (performed_counts fs) ∙ (ap performed_in same ∙ performed_counts es);
  named = sym (performed_names fs) ∙ (ap performed_of same ∙ performed_names es);
  failed = sym (failed_still fs) ∙ (ap failed_in same ∙ failed_still es);
}

pub emits_no_answer : (prepared : List ℕ) (es fs : List (events.Event Carried)) (x y : Direction) → EmitsNoAnswer es fs → y.answered ≡ x.answered → y.rules.raised ≡ x.rules.raised
    → y.rules.opened ≡ x.rules.opened → EmitsResets prepared prepared es fs x y
emits_no_answer prepared es fs x y none answered raised opened =
    let n = none.counted in
    record {
      performed = omega (arith, n, answered);
      epochs = λ f h. subst (λ (ns : List ℕ). AreSo (reopen ns (shut_streams prepared f)) y.rules) (sym none.named) (so_still (reopen (performed_of es) (shut_streams prepared f)) x.rules y.rules raised opened h);
      none_failed = λ e. none.failed ∙ e;
    }

module _ (message : ℕ → Message) (lifecycle : ℕ → Option ℕ) (is_interleaved : Bool) (from : Direction) where
  -- what is said in these chunks, and packets
  abbrev pub SaysAll : (first : ℕ) → Direction → List ChunkTree → Type 0
  SaysAll first x chunks = All (SaysOut message is_interleaved first (transfer_of from).acknowledged x) chunks

  abbrev pub SaysPackets : (first : ℕ) → Direction → List Carried → Type 0
  SaysPackets first x packets = All (λ (p : Carried). All (SaysOut message is_interleaved first (transfer_of from).acknowledged x) p.chunks) packets

  -- where an act leads the rules from x to y, with what it gives up
  pub record SenderStep (prepared later : List ℕ) (a b : EndWithPacket Carried) (x y : Direction) : Type 0 where
    pub goes : GoesOn message is_interleaved goes_out x y
    pub asked : AreRequested y.rules y.asks y.done y.answered
    pub done : y.done ≡ x.done
    pub shown : SendsIn message lifecycle is_interleaved b.state b.context.queue y
    pub since : IsSince from x → IsSince from y
    pub given_up : recorded_places b.context.emitted ≡ recorded_places a.context.emitted ++ given_up_places (of_transfer goes.events)
    pub reported : Reports lifecycle (transfer_of x) (transfer_of y) a.context.emitted.events b.context.emitted.events
    pub resets : EmitsResets prepared later a.context.emitted.events b.context.emitted.events x y
    pub first : first_out b.state ≡ first_out a.state
    pub packets : packets_in b.context.emitted.events ≡ packets_in a.context.emitted.events
    pub made : SaysAll (first_out a.state) y a.packet.chunks → SaysAll (first_out a.state) y b.packet.chunks

  pub step_claims : (prepared later : List ℕ) (a b : EndWithPacket Carried) (x y : Direction) → SenderClaim message lifecycle is_interleaved from prepared a x → SenderStep prepared later a b x y
      → SenderClaim message lifecycle is_interleaved from later b y
  step_claims prepared later a b x y c s =
      let least : ℕ = (transfer_of from).acknowledged in
      let g = goes_given message is_interleaved goes_out from x y c.goes s.goes in
      let first = first_out a.state in
      let made = s.made (all_out_stay message is_interleaved goes_out x y c.kept.epochs s.goes first least a.packet.chunks c.made) in
      let emitted = emitted_out_stays message is_interleaved goes_out x y c.kept.epochs s.goes first least (packets_in a.context.emitted.events) c.emitted in
      let so_far = c.performed in
      let now = s.resets.performed in
      record {
        kept = record { epochs = goes_epochs message is_interleaved goes_out x y c.kept.epochs s.goes; asked = s.asked };
        goes = g.0;
        done = s.done ∙ c.done;
        shown = s.shown;
        since = s.since c.since;
        given_up = s.given_up ∙ (ap (λ (ps : List ℕ). ps ++ given_up_places (of_transfer s.goes.events)) c.given_up ∙ sym g.1);
        reported = reports_then lifecycle (transfer_of from) (transfer_of x) (transfer_of y) [] a.context.emitted.events b.context.emitted.events c.reported s.reported;
        performed = omega (arith, so_far, now);
        epochs = λ f h. s.resets.epochs f (c.epochs f h);
        none_failed = s.resets.none_failed c.none_failed;
        emitted = subst (λ (n : ℕ). SaysPackets n y (packets_in b.context.emitted.events)) (sym s.first)
            (subst (λ (ps : List Carried). SaysPackets first y ps) (sym s.packets) emitted);
        made = subst (λ (n : ℕ). SaysAll n y b.packet.chunks) (sym s.first) made;
      }
