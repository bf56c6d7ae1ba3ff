-- Congestion control leaves the size of a packet and the least window as they are.
use Rattle.std.proofs.Common.{◌≡◌, ℕ, Bool, true, false, refl, ap, ◌∙◌}
use Rattle.std.specs.Prelude.{nat_le}
use Rattle.sctp_tx.specs.declared.retransmission_queue.congestion_control.CongestionControl.{CongestionControl}
use Rattle.sctp_tx.specs.CongestionControl.{avoidance, grown_by}
use Rattle.sctp_tx.specs.CongestionControl as control
use Rattle.sctp_tx.specs.Windows.{Windows, windows_of, grow}

record KeepsSizes (c after : CongestionControl) : Type 0 where
  pub mtu : after.mtu ≡ c.mtu
  pub least_cwnd : after.least_cwnd ≡ c.least_cwnd

avoids : (is_whole : Bool) (sum : ℕ) (c : CongestionControl) → KeepsSizes c (avoidance is_whole sum c)
avoids true sum c = record { mtu = refl; least_cwnd = refl }
avoids false sum c = record { mtu = refl; least_cwnd = refl }

grows_by : (is_slow : Bool) (before acked : ℕ) (c : CongestionControl) → KeepsSizes c (grown_by is_slow before acked c)
grows_by true before acked c = record { mtu = refl; least_cwnd = refl }
grows_by false before acked c = avoids _ _ c

module _ (before acked rwnd unfragmented_cwnd : ℕ) (avoids_stalls : Bool) (c : CongestionControl) where
  abbrev with_sizes : (mtu least_cwnd : ℕ) → Windows
  with_sizes mtu least_cwnd = record (windows_of (control.grow before acked c) rwnd unfragmented_cwnd avoids_stalls) { mtu = mtu; least_cwnd = least_cwnd }

  -- the windows grow as congestion control does
  grown : windows_of (control.grow before acked c) rwnd unfragmented_cwnd avoids_stalls ≡ grow before acked (windows_of c rwnd unfragmented_cwnd avoids_stalls)
  grown =
      let sizes = grows_by (nat_le c.cwnd c.ssthresh) before acked c in
      ap (λ (n : ℕ). with_sizes n (control.grow before acked c).least_cwnd) sizes.mtu ∙ ap (λ (n : ℕ). with_sizes c.mtu n) sizes.least_cwnd

  pub windows_grown : (after : CongestionControl) (w : Windows) → after ≡ control.grow before acked c → windows_of c rwnd unfragmented_cwnd avoids_stalls ≡ w
      → windows_of after rwnd unfragmented_cwnd avoids_stalls ≡ grow before acked w
  windows_grown after w is viewed = ap (λ (d : CongestionControl). windows_of d rwnd unfragmented_cwnd avoids_stalls) is ∙ (grown ∙ ap (λ (v : Windows). grow before acked v) viewed)
