-- A SACK that is valid.
use Rattle.std.proofs.Common.{◌≡◌, ℕ, zero, suc, ◌+◌, ◌-◌, ◌<◌, ◌≤◌, Bool, true, false, not, cond, Option, Some, None, List, [], ◌∷◌, ◌++◌, length, take, drop, replicate, refl, sym, ap, ◌∙◌, subst, arith, append_assoc, append-nil}
use Rattle.std.specs.Prelude.{nat_le, nat_lt, slice_get, option_map, unwrap_or, ◌&&◌, ◌||◌}
use Rattle.std.proofs.lemmas.Bool.{and_parts, leb-true, ltb-true}
use Rattle.sctp_packet.specs.Chunk.{FragmentTree}
use Rattle.sctp_chunk.specs.declared.sack.GapAckBlock.{GapAckBlock}
use Rattle.sctp_serial.specs.Unwrapped.{origin}
use Rattle.sctp_state.specs.Events.{Event, Emitted}
use Rattle.sctp_state.specs.declared.api.GivenUpCause.TheVariants.{Retransmissions}
use Rattle.sctp_tx_queue.specs.SendQueue.{Queue}
use Rattle.sctp_tx_outstanding.specs.declared.item.MissIndication.{MissIndication}
use Rattle.sctp_tx_outstanding.specs.Item.{Item, is_abandoned, nack}
use Rattle.sctp_tx_outstanding.specs.OutstandingData.{Items, next_number}
use Rattle.sctp_tx_outstanding.specs.Losses.{Step, abandon_with_record, is_to_be_abandoned, loses, change_items, nack_item, nack_at, nack_below}
use Rattle.sctp_tx_outstanding.specs.Sack.{report_by, highest_end, bound, is_valid, ending, leaving_events, all_leaving_events, leaving, staying, acked_by, reported_below, receive_sack_first, receive_sack}
use Rattle.proof_protocol.specs.State.{Message, Sender, Transfer, IsAmong, fragment, place_of}
use Rattle.proof_protocol.specs.Rules as laws
use Rattle.proof_protocol.specs.Rules.{acknowledge_next, Happens, run}
use Rattle.proof_protocol.specs.Joints.{reports_of}
use Rattle.proof_protocol.specs.Invariant.{Invariant}
use Rattle.proof_protocol.proofs.RulesKeepLemmas.{all_kept}
use Rattle.proof_protocol.proofs.ShowsLemmas.{leave_all}
use Rattle.proof_protocol.proofs.ToolsLemmas.{not_both}
use Rattle.proof_refines.specs.SenderRefinement.{StandsFor, AreKept, SenderRefines}
use Rattle.proof_refines.specs.Reachable.{recorded_places, delivered_by, delivered_ids, id_of, ids_at, SenderLeadsTo}
use Rattle.proof_refines.specs.Rows.{leave_fragments, ReceivesSack}
use Rattle.proof_refines.proofs.ItemsLemmas.{kept_drop, kept_settled}
use Rattle.proof_refines.proofs.LedLemmas.{leads_none}
use Rattle.proof_refines.proofs.LossLemmas.{losses}

-- ---- losses emit no event

module _ {P : Type 0} (indication : MissIndication) (fast : Bool) where
  item_quiet : (k : ℕ) (i : Item) (y : Step P) → (nack_item indication fast k i y).emitted.events ≡ y.emitted.events
  item_quiet k i y = go (is_to_be_abandoned y.items.is_partial indication i)
    where
      go : (b : Bool) → (let r : Step P = cond b (abandon_with_record i.number (Retransmissions (i.sent - 1)) y) (record y { items = change_items k (nack indication fast) y.items; is_lossy = y.is_lossy || loses indication i }) in r.emitted.events) ≡ y.emitted.events
      go true = refl
      go false = refl

  at_quiet : (k : ℕ) (y : Step P) → (nack_at indication fast k y).emitted.events ≡ y.emitted.events
  at_quiet k y = go (slice_get y.items.kept k)
    where
      go : (o : Option Item) → (unwrap_or (option_map (λ i. nack_item indication fast k i y) o) y).emitted.events ≡ y.emitted.events
      go None = refl
      go (Some i) = item_quiet k i y

  below_quiet : (n : ℕ) (y : Step P) → (nack_below indication fast n y).emitted.events ≡ y.emitted.events
  below_quiet zero y = refl
  below_quiet (suc n) y = at_quiet n (nack_below indication fast n y) ∙ below_quiet n y

-- ---- what is emitted as delivered

pub delivered_more : {P : Type 0} (es fs : List (Event P)) → delivered_ids (es ++ fs) ≡ delivered_ids es ++ delivered_ids fs
delivered_more [] fs = refl
delivered_more (e ∷ es) fs = ap (λ z. delivered_by e ++ z) (delivered_more es fs) ∙ sym (append_assoc (delivered_by e) (delivered_ids es) (delivered_ids fs))

pub ids_more : (lifecycle : ℕ → Option ℕ) (ps qs : List ℕ) → ids_at lifecycle (ps ++ qs) ≡ ids_at lifecycle ps ++ ids_at lifecycle qs
ids_more lifecycle [] qs = refl
ids_more lifecycle (p ∷ ps) qs = ap (λ z. id_of (lifecycle p) ++ z) (ids_more lifecycle ps qs) ∙ sym (append_assoc (id_of (lifecycle p)) (ids_at lifecycle ps) (ids_at lifecycle qs))

module _ (P : Type 0) (message : ℕ → Message) (lifecycle : ℕ → Option ℕ) (o : Sender) where
  abbrev emitted_of : Bool → Bool → Option ℕ → List (Event P)
  emitted_of is_end given_up id = cond is_end (ending given_up id) []

  one_report : (t : ℕ) (i : Item) → StandsFor message lifecycle o (fragment o t) i → delivered_ids (leaving_events {P = P} i) ≡ ids_at lifecycle (laws.report o t)
  one_report t i a =
      ap (λ b. delivered_ids (emitted_of b (is_abandoned i) i.lifecycle)) (ap (λ (z : FragmentTree). z.is_end) a.carried)
      ∙ (ap (λ b. delivered_ids (emitted_of ((fragment o t).is_end) b i.lifecycle)) a.given_up
      ∙ (ap (λ z. delivered_ids (emitted_of ((fragment o t).is_end) (o.given_up (place_of o t)) z)) a.lifecycle_id
      ∙ go ((fragment o t).is_end) (o.given_up (place_of o t)) ((fragment o t).placeholder) refl refl))
    where
      none : (l : Option ℕ) → delivered_ids (ending {P = P} true l) ≡ []
      none None = refl
      none (Some id) = refl

      own : (l : Option ℕ) → delivered_ids (ending {P = P} false l) ≡ id_of l ++ []
      own None = refl
      own (Some id) = refl

      go : (e g h : Bool) → o.given_up (place_of o t) ≡ g → (fragment o t).placeholder ≡ h
          → delivered_ids (emitted_of e g (cond (e && not h) (lifecycle (place_of o t)) None)) ≡ ids_at lifecycle (cond (e && not g) (place_of o t ∷ []) [])
      go false g h c d = refl
      go true true h c d = none (cond (not h) (lifecycle (place_of o t)) None)
      go true false true c d = absurd (not_both (a.placeholder d) c)
      go true false false c d = own (lifecycle (place_of o t))

  all_reports : (t n : ℕ) (is : List Item) → n ≤ length is → AreKept message lifecycle o t is → delivered_ids (all_leaving_events {P = P} (take n is)) ≡ ids_at lifecycle (reports_of o t n)
  all_reports t zero is l a = refl
  all_reports t (suc n) [] l a = absurd (omega (arith, l))
  all_reports t (suc n) (i ∷ is) l a =
      delivered_more (leaving_events i) (all_leaving_events (take n is))
      ∙ (ap (λ z. z ++ delivered_ids (all_leaving_events {P = P} (take n is))) (one_report t i a.0)
      ∙ (ap (λ z. ids_at lifecycle (laws.report o t) ++ z) (all_reports (suc t) n is (omega (arith, l)) a.1) ∙ sym (ids_more lifecycle (laws.report o t) (reports_of o (suc t) n))))

-- ---- the whole

module _ {P : Type 0} (message : ℕ → Message) (lifecycle : ℕ → Option ℕ) (is_interleaved : Bool) (x : Transfer) (q : Queue) (s : Items) (cumulative c : ℕ) (blocks : List GapAckBlock) (once fast : Bool) (emitted : Emitted P)
    (k : Invariant message is_interleaved x) (sh : SenderRefines message lifecycle is_interleaved x q s) (valid : is_valid cumulative blocks s ≡ true) (upto : cumulative + 1 ≡ origin + c) (sent : IsAmong c x.sacks) where
  abbrev n : ℕ
  n = leaving cumulative s

  abbrev x1 : Transfer
  x1 = leave_fragments n x

  parts : (nat_le s.acked cumulative ≡ true) × ((nat_lt (cumulative + highest_end blocks) (next_number s) && nat_lt cumulative bound) ≡ true)
  parts = and_parts (nat_le s.acked cumulative) (nat_lt (cumulative + highest_end blocks) (next_number s) && nat_lt cumulative bound) valid

  ahead : s.acked ≤ cumulative
  ahead = leb-true s.acked cumulative parts.0

  within : cumulative + highest_end blocks < s.acked + 1 + length s.kept
  within = ltb-true (cumulative + highest_end blocks) (next_number s) (and_parts (nat_lt (cumulative + highest_end blocks) (next_number s)) (nat_lt cumulative bound) parts.1).0

  enough : n ≤ length s.kept
  enough = omega (arith, ahead, within)

  point_is : x.acknowledged + n ≡ c
  point_is = let a = sh.items.point in omega (arith, a, upto, ahead)

  all_leave : Happens message is_interleaved x (replicate n (acknowledge_next c)) × (run message is_interleaved x (replicate n (acknowledge_next c)) ≡ x1)
  all_leave = leave_all message is_interleaved n c x sent (omega (arith, point_is))

  kept1 : Invariant message is_interleaved x1
  kept1 = subst (λ (w : Transfer). Invariant message is_interleaved w) all_leave.1 (all_kept message is_interleaved (replicate n (acknowledge_next c)) x k all_leave.0)

  shows1 : SenderRefines message lifecycle is_interleaved x1 q (acked_by blocks (staying cumulative s))
  shows1 = record {
    queue = sh.queue;
    items = record {
      mode = sh.items.mode;
      point = (let a = sh.items.point in omega (arith, a, ahead));
      kept = kept_settled message lifecycle x.sender blocks 1 (x.acknowledged + n) (drop n s.kept) (kept_drop message lifecycle x.sender x.acknowledged n s.kept enough sh.items.kept);
    };
    discards = sh.discards;
  }

  abbrev first : Step P
  first = receive_sack_first cumulative blocks s emitted

  at_first : SenderLeadsTo message lifecycle is_interleaved x1 emitted q first.items first.emitted
  at_first = record { after = x1; places = []; leads = leads_none message is_interleaved x1; kept = kept1; refines = shows1; recorded = sym (append-nil (recorded_places emitted)) }

  pub sack_row : ReceivesSack message lifecycle is_interleaved x q n c emitted (receive_sack cumulative blocks once fast s emitted).items (receive_sack cumulative blocks once fast s emitted).emitted
  sack_row = record {
    may = all_leave.0;
    leaves = all_leave.1;
    upto = point_is;
    reported =
        ap delivered_ids (below_quiet (report_by once cumulative blocks s) (not fast) (reported_below blocks (staying cumulative s)) first)
        ∙ (delivered_more emitted.events (all_leaving_events (take n s.kept)) ∙ ap (λ z. delivered_ids emitted.events ++ z) (all_reports P message lifecycle x.sender x.acknowledged n s.kept enough sh.items.kept));
    losses = losses message lifecycle is_interleaved x1 emitted q (report_by once cumulative blocks s) (not fast) (reported_below blocks (staying cumulative s)) first at_first;
  }
