-- The values keep the epochs through packets, SACKs, and whatever changes the items alone: what happens then may happen by the rules with
-- epochs.
use Rattle.std.proofs.Common.{◌≡◌, ℕ, zero, suc, ◌+◌, ◌-◌, Bool, true, false, cond, not, Option, Some, None, List, ◌++◌, length, map, replicate, refl, sym, ap, ◌∙◌, subst, arith}
use Rattle.std.specs.Prelude.{slice_get, nat_lt, ◌&&◌, min}
use Rattle.std.specs.List.{list_all}
use Rattle.std.proofs.lemmas.Bool.{and_from}
use Rattle.std.proofs.lemmas.List.{map-append}
use Rattle.sctp_serial.specs.Unwrapped.{origin}
use Rattle.sctp_chunk.specs.declared.sack.GapAckBlock.{GapAckBlock}
use Rattle.sctp_state.specs.Events.{Emitted}
use Rattle.sctp_tx_queue.specs.SendQueue.{Queue}
use Rattle.sctp_tx_queue.specs.Settings.{Changed}
use Rattle.sctp_tx_queue.specs.Produced.{Produced, Turn, produce}
use Rattle.sctp_tx_outstanding.specs.declared.item.MissIndication.TheVariants.{Timeout}
use Rattle.sctp_tx_outstanding.specs.Item.{Item}
use Rattle.sctp_tx_outstanding.specs.OutstandingData.{Items}
use Rattle.sctp_tx_outstanding.specs.Losses.{first_step}
use Rattle.sctp_tx_outstanding.specs.Resending.{Resent, again_of, step_at, resent_below, empty_packet}
use Rattle.sctp_tx_outstanding.specs.Sack.{report_by, leaving, staying, receive_sack_first, reported_below}
use Rattle.sctp_tx.specs.Windows.{is_open}
use Rattle.sctp_tx.specs.RetransmissionQueue.{Sender, handle_sack, step_of}
use Rattle.sctp_tx.specs.Resent.{send_fast, resent, resent_by, flight, resent_fast, may_send_new, start_t3_if}
use Rattle.sctp_tx.specs.Sending.{Filling, offered_payload, append, queue_step_if, next_turn, fill, discard_all, without_discards, filled_with, send}
use Rattle.proof_protocol.specs.State.{Message, Transfer}
use Rattle.proof_protocol.specs.Rules.{TransferEvent, acknowledge_next, Happens}
use Rattle.proof_protocol.specs.Invariant.{Invariant}
use Rattle.proof_protocol.specs.Resets.{Epochs, ResetEvent, transfers, goes, MayAll, go_all}
use Rattle.proof_protocol.proofs.RulesKeepLemmas.{all_kept}
use Rattle.proof_refines.specs.SenderRefinement.{SenderRefines}
use Rattle.proof_refines.specs.Reachable.{is_sending, SenderLeadsTo}
use Rattle.proof_refines.specs.Rows.{leave_fragments, ReceivesSack, SenderSends}
use Rattle.proof_refines.specs.Following.{FollowsEpochs, LeadsInEpochs, BreaksAreKept}
use Rattle.proof_refines.proofs.SendLemmas.{by_turn}
use Rattle.proof_refines.proofs.PausedLemmas.{go_more, may_more}
use Rattle.proof_refines.proofs.BreakLemmas.{breaks_stay, nacks_keep, expiries_keep, staying_keeps}
use Rattle.proof_refines.proofs.WaitsLemmas.{Stands, waits_same, send_stands}
use Rattle.proof_refines.proofs.BegunLemmas.{goes_sending, queue_begins}
use Rattle.proof_refines.proofs.FollowLemmas.{paused_as}

-- ---- breakpoints stay

again_breaks : (k : ℕ) (i : Option Item) (r : Resent) → (again_of k i r).outstanding.items.breaks ≡ r.outstanding.items.breaks
again_breaks k None r = refl
again_breaks k (Some i) r = refl

one_breaks : (fast : Bool) (k : ℕ) (r : Resent) → (step_at fast k r).outstanding.items.breaks ≡ r.outstanding.items.breaks
one_breaks fast k r =
    by_turn (λ (z : Resent). z.outstanding.items.breaks ≡ r.outstanding.items.breaks) k r (λ i h l. again_breaks k (slice_get r.outstanding.items.kept k) r) refl refl fast

resent_breaks : (fast : Bool) (n : ℕ) (r : Resent) → (resent_below fast n r).outstanding.items.breaks ≡ r.outstanding.items.breaks
resent_breaks fast zero r = refl
resent_breaks fast (suc n) r = one_breaks fast n (resent_below fast n r) ∙ resent_breaks fast n r

timed_breaks : (b : Bool) (now : ℕ) (s : Sender) → (start_t3_if b now s).outstanding.items.breaks ≡ s.outstanding.items.breaks
timed_breaks true now s = refl
timed_breaks false now s = refl

module _ {P : Type 0} where
  appended_breaks : (now : ℕ) (made : Option Produced) (f : Filling P) → (append now made f).sender.outstanding.items.breaks ≡ f.sender.outstanding.items.breaks
  appended_breaks now None f = refl
  appended_breaks now (Some p) f = refl

  turned_breaks : (b : Bool) (now : ℕ) (f : Filling P) → (queue_step_if b now f).filling.sender.outstanding.items.breaks ≡ f.sender.outstanding.items.breaks
  turned_breaks false now f = refl
  turned_breaks true now f =
      let t : Turn P = produce now (offered_payload f.left f.sender) f.queue f.emitted in
      appended_breaks now t.made (record f { queue = t.queue; emitted = t.emitted })

  fill_breaks : (n now : ℕ) (f : Filling P) → (fill n now f).sender.outstanding.items.breaks ≡ f.sender.outstanding.items.breaks
  fill_breaks zero now f = refl
  fill_breaks (suc n) now f =
      let y : Filling P = (next_turn now f).filling in
      let one : y.sender.outstanding.items.breaks ≡ f.sender.outstanding.items.breaks = turned_breaks (may_send_new f.sender && nat_lt 0 (offered_payload f.left f.sender)) now f in
      by (next_turn now f).is_more y (fill n now y) (fill_breaks n now y) ∙ one
    where
      by : (b : Bool) (y z : Filling P) → z.sender.outstanding.items.breaks ≡ y.sender.outstanding.items.breaks
          → (let w : Filling P = cond b z y in w).sender.outstanding.items.breaks ≡ y.sender.outstanding.items.breaks
      by true y z e = e
      by false y z e = refl

  send_breaks : (now most : ℕ) (s : Sender) (q : Queue) (emitted : Emitted P) → (send now most s q emitted).sender.outstanding.items.breaks ≡ s.outstanding.items.breaks
  send_breaks now most s q emitted =
      let quiet = without_discards s in
      let left : Changed P = discard_all s.outstanding.items.discards q emitted in
      let begun : Filling P = filled_with most quiet (resent most quiet) left in
      let whole : Filling P = fill (suc begun.left) now begun in
      timed_breaks (nat_lt 0 (length whole.chunks)) now whole.sender
      ∙ (fill_breaks (suc begun.left) now begun
      ∙ resent_breaks false (length s.outstanding.items.kept) (empty_packet (min most (quiet.windows.cwnd - flight quiet)) quiet.windows.rwnd quiet.outstanding))

fast_breaks : (now most : ℕ) (s : Sender) → (send_fast now most s).outstanding.items.breaks ≡ s.outstanding.items.breaks
fast_breaks now most s =
    timed_breaks (nat_lt 0 (length (resent_fast most s).chunks)) now (resent_by s (resent_fast most s))
    ∙ resent_breaks true (length s.outstanding.items.kept) (empty_packet most 0 s.outstanding)

pub breaks_are_kept : BreaksAreKept
breaks_are_kept = record {
  message = λ p s. refl;
  losses = λ indication fast n s emitted. nacks_keep indication fast n (first_step s emitted);
  timeout = λ now s emitted. nacks_keep Timeout false (length s.outstanding.items.kept) (first_step s.outstanding.items emitted);
  lifetimes = λ now n s emitted. expiries_keep now n (first_step s emitted);
  expiry = λ now s emitted. expiries_keep now (length s.outstanding.items.kept) (first_step s.outstanding.items emitted);
}

-- ---- what leads there may happen by the rules with epochs

module _ (message : ℕ → Message) (lifecycle : ℕ → Option ℕ) (is_interleaved : Bool) (x : Epochs) (q : Queue) (s : Sender) (k : Invariant message is_interleaved x.transfer)
    (sh : SenderRefines message lifecycle is_interleaved x.transfer q s.outstanding.items) (h : FollowsEpochs x q s.outstanding.items) where
  abbrev items : Items
  items = s.outstanding.items

  pub items_follow : {P : Type 0} (t : Items) (emitted later : Emitted P) → t.breaks ≡ items.breaks → (l : SenderLeadsTo message lifecycle is_interleaved x.transfer emitted q t later)
      → LeadsInEpochs message is_interleaved x l.leads.events l.after q t
  items_follow t emitted later breaks l =
      let y : Epochs = record x { transfer = l.after } in
      let z = queue_begins message lifecycle is_interleaved x q q t emitted later k sh.queue h.paused (waits_same q) l in
      let same : l.after.acknowledged ≡ x.transfer.acknowledged = ap (λ (w : Transfer). w.acknowledged) l.leads.rest_stays in
      record {
        may = z.0;
        goes_to = z.1;
        follows = record {
          paused = paused_as x y q refl refl refl h.paused;
          line = h.line;
          keyed = h.keyed;
          breaks = breaks_stay x y items t refl (omega (arith, same)) breaks h.breaks;
        };
      }

  pub sending_follows : {P : Type 0} (now most : ℕ) (emitted : Emitted P) (l : SenderSends message lifecycle is_interleaved x.transfer now most s q emitted)
      → LeadsInEpochs message is_interleaved x l.leads.leads.events l.leads.after (send now most s q emitted).queue (send now most s q emitted).sender.outstanding.items
  sending_follows now most emitted l =
      let r : Queue = (send now most s q emitted).queue in
      let t : Items = (send now most s q emitted).sender.outstanding.items in
      let y : Epochs = record x { transfer = l.leads.after } in
      let stands : Stands x q = record { ordered = sh.queue.order; numbered = sh.queue.rising; line = h.line; paused = h.paused; keyed = h.keyed } in
      let on = send_stands x now message lifecycle is_interleaved x.transfer.sender most s q emitted sh.queue sh.discards stands in
      let z = queue_begins message lifecycle is_interleaved x q r t emitted (send now most s q emitted).emitted k sh.queue h.paused on.waits l.leads in
      let same : l.leads.after.acknowledged ≡ x.transfer.acknowledged = ap (λ (w : Transfer). w.acknowledged) l.leads.leads.rest_stays in
      record {
        may = z.0;
        goes_to = z.1;
        follows = record {
          paused = paused_as x y r refl refl refl on.stands.paused;
          line = on.stands.line;
          keyed = on.stands.keyed;
          breaks = breaks_stay x y items t refl (omega (arith, same)) (send_breaks now most s q emitted) h.breaks;
        };
      }

  pub fast_follows : (now most : ℕ) → FollowsEpochs x q (send_fast now most s).outstanding.items
  fast_follows now most = record {
    paused = h.paused;
    line = h.line;
    keyed = h.keyed;
    breaks = breaks_stay x x items (send_fast now most s).outstanding.items refl (omega arith) (fast_breaks now most s) h.breaks;
  }

-- ---- a SACK

pub leaves_send : (n c : ℕ) → list_all is_sending (replicate n (acknowledge_next c)) ≡ true
leaves_send zero c = refl
leaves_send (suc n) c = and_from true (list_all is_sending (replicate n (acknowledge_next c))) refl (leaves_send n c)

leaves_may : (message : ℕ → Message) (is_interleaved : Bool) (n c : ℕ) (x : Epochs) → Happens message is_interleaved x.transfer (replicate n (acknowledge_next c)) → MayAll message is_interleaved x (map transfers (replicate n (acknowledge_next c)))
leaves_may message is_interleaved zero c x h = tt
leaves_may message is_interleaved (suc n) c x h = ((h.0, tt), leaves_may message is_interleaved n c (goes message is_interleaved x (transfers (acknowledge_next c))) h.1)

module _ {P : Type 0} (message : ℕ → Message) (lifecycle : ℕ → Option ℕ) (is_interleaved : Bool) (x : Epochs) (q : Queue) (s : Sender) (k : Invariant message is_interleaved x.transfer)
    (sh : SenderRefines message lifecycle is_interleaved x.transfer q s.outstanding.items) (h : FollowsEpochs x q s.outstanding.items) (now cumulative c a_rwnd : ℕ) (blocks : List GapAckBlock) (emitted : Emitted P)
    (upto : cumulative + 1 ≡ origin + c)
    (hr : ReceivesSack message lifecycle is_interleaved x.transfer q (leaving cumulative s.outstanding.items) c emitted (handle_sack now cumulative a_rwnd blocks s emitted).outstanding.items (step_of cumulative blocks s emitted).emitted) where
  abbrev n : ℕ
  n = leaving cumulative s.outstanding.items

  abbrev es : List TransferEvent
  es = replicate n (acknowledge_next c)

  abbrev fs : List TransferEvent
  fs = hr.losses.leads.events

  abbrev x1 : Epochs
  x1 = record x { transfer = leave_fragments n x.transfer }

  abbrev y : Epochs
  y = record x { transfer = hr.losses.after }

  abbrev to : Items
  to = (handle_sack now cumulative a_rwnd blocks s emitted).outstanding.items

  reached : go_all message is_interleaved x (map transfers es) ≡ x1
  reached = goes_sending message is_interleaved es x (leaves_send n c) ∙ ap with_transfer hr.leaves
    where
      with_transfer : Transfer → Epochs
      with_transfer z = record x { transfer = z }

  kept_on : Invariant message is_interleaved (leave_fragments n x.transfer)
  kept_on = subst (λ (z : Transfer). Invariant message is_interleaved z) hr.leaves (all_kept message is_interleaved es x.transfer k hr.may)

  lost : MayAll message is_interleaved x1 (map transfers fs) × (go_all message is_interleaved x1 (map transfers fs) ≡ y)
  lost = queue_begins message lifecycle is_interleaved x1 q q to emitted (step_of cumulative blocks s emitted).emitted kept_on sh.queue (paused_as x x1 q refl refl refl h.paused) (waits_same q) hr.losses

  both : map transfers (es ++ fs) ≡ map transfers es ++ map transfers fs
  both = map-append transfers es fs

  stays : hr.losses.after.acknowledged ≡ x.transfer.acknowledged + n
  stays = ap (λ (w : Transfer). w.acknowledged) hr.losses.leads.rest_stays

  pub receiving_follows : LeadsInEpochs message is_interleaved x (es ++ fs) hr.losses.after q to
  receiving_follows =
      let first = leaves_may message is_interleaved n c x hr.may in
      let lossy = subst (λ (z : Epochs). MayAll message is_interleaved z (map transfers fs)) (sym reached) lost.0 in
      let a = stays in
      let b = hr.upto in
      record {
        may = subst (λ (z : List ResetEvent). MayAll message is_interleaved x z) (sym both) (may_more message is_interleaved (map transfers es) (map transfers fs) x first lossy);
        goes_to =
            ap (λ (z : List ResetEvent). go_all message is_interleaved x z) both
            ∙ (go_more message is_interleaved (map transfers es) (map transfers fs) x ∙ (ap (λ (z : Epochs). go_all message is_interleaved z (map transfers fs)) reached ∙ lost.1));
        follows = record {
          paused = paused_as x y q refl refl refl h.paused;
          line = h.line;
          keyed = h.keyed;
          breaks =
              breaks_stay y y (staying cumulative s.outstanding.items) to refl (omega arith)
              (nacks_keep (report_by s.windows.avoids_stalls cumulative blocks s.outstanding.items) (not (not (is_open cumulative s.windows))) (reported_below blocks (staying cumulative s.outstanding.items)) (receive_sack_first cumulative blocks s.outstanding.items emitted))
              (staying_keeps x y s.outstanding.items cumulative c refl (omega (arith, a)) upto (omega (arith, a, b)) h.breaks);
        };
      }
