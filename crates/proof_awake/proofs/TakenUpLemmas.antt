-- With stalls avoided an end that takes up a record starts its timers.
use Rattle.std.proofs.Common.{◌≡◌, ℕ, ◌≤◌, inl, inr, Bool, true, false, Option, Some, None, List, length, refl, sym, subst}
use Rattle.std.specs.Prelude.{◌==◌}
use Rattle.sctp_state.specs.declared.api.errors.RestoreError.{RestoreError}
use Rattle.sctp_state.specs.declared.api.handover.HandoverSocketState.{HandoverSocketState}
use Rattle.sctp_state.specs.declared.api.handover.HandoverSocketState.TheVariants as handed
use Rattle.sctp_state.specs.Handover.{HandoverState}
use Rattle.sctp_state.specs.Options.{Options}
use Rattle.sctp_state.specs.Timer.{Timer, stop}
use Rattle.sctp_tx_outstanding.specs.Item.{Item}
use Rattle.sctp_tx.specs.Handover as sender
use Rattle.sctp_tx.specs.RetransmissionQueue.{Sender, restart_or_stop, wake}
use Rattle.spec_endpoint.specs.Association.{Tcb, tcb, Context, EndpointState}
use Rattle.spec_endpoint.specs.Handover.{identity_from, capabilities_from, tcb_from, context_restored, woken_if, goes_on, take_up, restore_refusal_in, restored_as, restored_unless, restore}
use Rattle.spec_endpoint.specs.Laws.{Restore, called}
use Rattle.proof_awake.specs.Awake.{Runs, is_none, ItemsAreTimed}
use Rattle.proof_awake.specs.Invariant.{Lasts, HasLimits, SenderHolds, BlockHolds, StateHolds}
use Rattle.proof_awake.specs.Restored.{EachRestoreKeepsTimed}
use Rattle.proof_awake.proofs.TimerLemmas.{started, lasts_stopped}
use Rattle.proof_awake.proofs.SenderLemmas.{some_items, lasts_or_stops}
use Rattle.proof_awake.proofs.BlockLemmas.{new_block}
use Rattle.proof_awake.proofs.SendingRowLemmas.{interval_started, Beside, sends_buffered}
use Rattle.proof_awake.proofs.RowLemmas.{EndHolds}
use Rattle.proof_awake.proofs.OpeningRowLemmas.{beside_in}
use Rattle.proof_awake.proofs.InputRowLemmas.{timed_as}

-- what is kept is timed from now on
woken_timed : (kept : List Item) (now : ℕ) (t : Timer) → Lasts t → ItemsAreTimed kept (restart_or_stop (length kept == 0) now t)
woken_timed kept now t l = go (is_none kept) refl
  where
    go : (b : Bool) → is_none kept ≡ b → ItemsAreTimed kept (restart_or_stop (length kept == 0) now t)
    go true e = inl e
    go false e = inr (subst (λ b. Runs (restart_or_stop b now t)) (sym (some_items kept e)) (started now t l.duration))

woken_sender : (now : ℕ) (h : HandoverState) (s : Sender) → s.windows.mtu ≤ h.tx.cwnd → SenderHolds false s → SenderHolds false (wake now (sender.restore now h.tx s))
woken_sender now h s wide k =
    let kept : List Item = (sender.restore now h.tx s).outstanding.items.kept in
    let t : Timer = stop s.t3 in
    let l : Lasts t = lasts_stopped s.t3 k.lasts in
    record {
      lasts = lasts_or_stops (length kept == 0) now t l;
      timed = woken_timed kept now t l;
      some = tt;
      windows = record { some = k.windows.some; most = k.windows.most; whole = wide; least = k.windows.least };
    }

-- the control block that is made of a record
abbrev woken : ℕ → Options → HandoverState → Tcb
woken now o h = let t : Tcb = tcb_from now o h in record t { sender = wake now t.sender }

woken_block : (now : ℕ) (o : Options) (h : HandoverState) → o.mtu ≤ h.tx.cwnd → HasLimits true o → BlockHolds false (woken now o h)
woken_block now o h wide l =
    let t : Tcb = tcb o (identity_from h) h.tx.rwnd (capabilities_from o h.capabilities) in
    let n : BlockHolds false t = new_block true o (identity_from h) h.tx.rwnd (capabilities_from o h.capabilities) l in
    record {
      sender = woken_sender now h t.sender wide n.sender;
      requests = record { lasts = n.requests.lasts; timed = n.requests.timed };
      tracker = record { duration = n.tracker.duration; most_delay = n.tracker.most_delay; timed = n.tracker.timed };
      rtt = n.rtt;
    }

module _ {P : Type 0} where
  taken_up_holds : (h : HandoverState) (c : Context P) → c.options.mtu ≤ h.tx.cwnd → Beside true false c → EndHolds true (take_up h c)
  taken_up_holds h c wide k =
      let t : Tcb = tcb_from c.now c.options h in
      let d : Context P = context_restored h c in
      let b : Beside true true (woken_if true t d).context = interval_started true false true d.now d.options d.heartbeats k in
      let x = sends_buffered true true false false (woken c.now c.options h) _ (b, woken_block c.now c.options h wide k.options) in
      subst (λ (avoids : Bool). EndHolds true (goes_on (woken_if avoids t d))) (sym k.options.stalls) (x.0, (tt, x.1))

  as_recorded : (state : HandoverSocketState) (h : HandoverState) (s : EndpointState P) → EndHolds true s → EndHolds true (take_up h s.context) → EndHolds true (restored_as state h s)
  as_recorded handed.Closed h s stays goes = stays
  as_recorded handed.Connected h s stays goes = goes

  unless_refused : (refusal : Option RestoreError) (h : HandoverState) (s : EndpointState P) → EndHolds true s → EndHolds true (take_up h s.context)
      → EndHolds true (restored_unless refusal h s)
  unless_refused None h s stays goes = as_recorded h.socket_state h s stays goes
  unless_refused (Some e) h s stays goes = stays

  restore_holds : (h : HandoverState) (s : EndpointState P) → s.context.options.mtu ≤ h.tx.cwnd → EndHolds true s → EndHolds true (restore h s)
  restore_holds h s wide k = unless_refused (restore_refusal_in s.state h) h s k (taken_up_holds h s.context wide (beside_in true s.state s.context k))

pub restores_keep : EachRestoreKeepsTimed
restores_keep h s avoids wide k =
    timed_as true (called (Restore h) s).endpoint_state
    (restore_holds h s.endpoint_state wide
    (subst (λ (b : Bool). StateHolds b s.endpoint_state.state s.endpoint_state.context.options s.endpoint_state.context.heartbeats) avoids k))
