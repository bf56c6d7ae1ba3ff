-- The start, what is not new, a SACK, and a sender's step.
use Rattle.std.proofs.Common.{◌≡◌, ℕ, suc, ◌+◌, ◌-◌, ◌<◌, Bool, true, false, inl, inr, None, List, [], refl, ap, sym, ◌∙◌, arith, leb}
use Rattle.std.specs.Prelude.{◌||◌, ◌==◌, nat_lt, nat_le}
use Rattle.std.proofs.lemmas.Bool.{cases_eq, cond-true, cond-false, eq-eqb, ne_eqb}
use Rattle.std.proofs.lemmas.Bool.Decides.{nat_tests}
use Rattle.std.proofs.lemmas.Option.{none-some}
use Rattle.sctp_serial.specs.Messages as messages
use Rattle.sctp_serial.specs.Unwrapped.{origin}
use Rattle.sctp_state.specs.Options.{Options}
use Rattle.sctp_rx.specs.Held.{Held}
use Rattle.sctp_rx.specs.Seen.{in_runs}
use Rattle.sctp_rx.specs.DataTracker.{Tracker, IsTracker, tracker, observe, forward, moves_on}
use Rattle.sctp_rx.specs.ReassemblyQueue.{Reassembly, reassembly}
use Rattle.sctp_rx.proofs.SeenOneFormLemmas.{contains_up_to}
use Rattle.proof_refines.proofs.SettledQueueLemmas.{settled_new}
use Rattle.proof_protocol.specs.State.{Message, Transfer, IsAmong, start, put}
use Rattle.proof_protocol.specs.Rules.{TransferEvent, IsAllowed, after, send_sack}
use Rattle.proof_protocol.specs.Invariant.{Invariant}
use Rattle.proof_protocol.specs.Reassembly.{Queue, KeyOf, next_of}
use Rattle.proof_protocol.specs.Lifted.{lift, no_base}
use Rattle.proof_protocol.proofs.ReceiverRowLemmas.{still_sees}
use Rattle.proof_protocol.proofs.LiftedLemmas.{lift_some}
use Rattle.proof_protocol.proofs.WireResetLemmas.{wire_sack_row}
use Rattle.proof_refines.specs.View.{IsSeenAs, was_seen, held_on, view_of}
use Rattle.proof_refines.specs.ReceiverRefinement.{ReceiverRefines}
use Rattle.proof_refines.proofs.FragmentRowLemmas.{observed_seen}
use Rattle.proof_refines.proofs.ReceivesLemmas.{none_ready}

module _ (message : ℕ → Message) (is_interleaved : Bool) (shift : ℕ) where
  -- ---- the start

  abbrev first_queue : Queue (KeyOf is_interleaved) (next_of is_interleaved)
  first_queue = record { chunks = λ κ. None; next = λ s. 0; passed_below = λ s. 0; ready = [] }

  empty : (max_size : ℕ) (kind : Bool) (s : ℕ) (h : Held) → IsAmong h (held_on (reassembly max_size is_interleaved).streams kind s) → ⊥
  empty max_size true s h a = a
  empty max_size false s h a = a

  first_seen : (max_size : ℕ) → IsSeenAs is_interleaved shift (view_of [] (reassembly max_size is_interleaved)) first_queue
  first_seen max_size = record {
    filed = λ kind s h a. absurd (empty max_size kind s h a);
    holds = λ kind s h a. absurd (empty max_size kind s h a);
    found = λ κ w e. absurd (none-some w e);
    next = λ s. refl;
    passed = λ m s. refl;
    none_passed = λ m s. omega arith;
    ready = refl;
  }

  -- at first no stream was reset
  pub first_receives : (options : Options) (max_size max_fragments : ℕ) → ReceiverRefines message is_interleaved no_base shift start [] (tracker options origin) (record (reassembly max_size is_interleaved) { max_fragments = max_fragments })
  first_receives options max_size max_fragments = record {
    queue = first_queue;
    refines = record {
      holds = λ t h. cc;
      held = λ κ w e. absurd (let z = lift_some no_base is_interleaved first_queue κ w e in none-some z.0 z.2);
      next_is = λ s. refl;
      passed_is = λ m s. refl;
      ready_is = refl;
    };
    seen_as = first_seen max_size;
    seen = λ n. above n;
    mode = refl;
    settled = settled_new max_size is_interleaved;
    fresh = λ e kind s h a. empty max_size kind s h a;
  }
    where
      above : (n : ℕ) → (nat_le (origin + n) (origin - 1) || false) ≡ false
      above n = grind (arith, nat_tests)

  module _ (base : Bool → ℕ → ℕ) (x : Transfer) (handed : List messages.Message) (t : Tracker) (r : Reassembly) (shown : ReceiverRefines message is_interleaved base shift x handed t r) where
    -- with another tracker that has seen the same
    same_seen : (u : Tracker) → ((n : ℕ) → was_seen u n ≡ was_seen t n) → ReceiverRefines message is_interleaved base shift x handed u r
    same_seen u same = record { queue = shown.queue; refines = shown.refines; seen_as = shown.seen_as; seen = λ n. same n ∙ shown.seen n; mode = shown.mode; settled = shown.settled; fresh = shown.fresh }

    -- ---- nothing new

    pub old_point : (last : ℕ) → moves_on last t ≡ false → ReceiverRefines message is_interleaved base shift x handed (forward last t) r
    old_point last old = same_seen (forward last t) (λ n. contains_up_to last (origin + n) t.seen ∙ below n)
      where
        below : (n : ℕ) → (leb (origin + n) last || (leb (origin + n) t.seen.front || in_runs t.seen.runs (origin + n))) ≡ (leb (origin + n) t.seen.front || in_runs t.seen.runs (origin + n))
        below n = by (in_runs t.seen.runs (origin + n)) t.seen.front old
          where
            by : (b : Bool) (c : ℕ) → nat_lt c last ≡ false → (leb (origin + n) last || (leb (origin + n) c || b)) ≡ (leb (origin + n) c || b)
            by b c e = grind (arith, nat_tests)

    pub again : (k : ℕ) (now : Bool) → IsTracker t → was_seen t k ≡ true → ReceiverRefines message is_interleaved base shift x handed (observe (origin + k) now t) r
    again k now i seen = same_seen (observe (origin + k) now t) (λ n. observed_seen t i (was_seen t) (λ m. refl) k n now ∙ there n)
      where
        there : (n : ℕ) → put (was_seen t) k true n ≡ was_seen t n
        there n =
            elim (cases_eq n k) [
              | inl e ↦ cond-true (n == k) true (was_seen t n) (eq-eqb n k e) ∙ sym (ap (was_seen t) e ∙ seen)
              | inr d ↦ cond-false (n == k) true (was_seen t n) (ne_eqb n k d)
            ]

    -- ---- a SACK

    pub sack_allowed : Invariant message is_interleaved x → (c : ℕ) → origin + c ≡ suc t.seen.front → IsAllowed message is_interleaved x (send_sack c)
    sack_allowed kept c at =
        wire_sack_row message is_interleaved base x shown.queue c kept shown.refines (λ n l. sym (shown.seen n) ∙ below n l) (none_ready message is_interleaved base shift x kept handed t r shown)
      where
        below : (n : ℕ) → n < c → was_seen t n ≡ true
        below n l = by (in_runs t.seen.runs (origin + n)) t.seen.front at l
          where
            by : (b : Bool) (d : ℕ) → origin + c ≡ suc d → n < c → (leb (origin + n) d || b) ≡ true
            by b d e l = grind (arith, nat_tests)

    -- ---- the sender goes on

    pub sender_goes : (e : TransferEvent) → Invariant message is_interleaved x → IsAllowed message is_interleaved x e → (after message is_interleaved x e).receiver ≡ x.receiver → ReceiverRefines message is_interleaved base shift (after message is_interleaved x e) handed t r
    sender_goes e kept may same = record {
      queue = shown.queue;
      refines = still_sees message is_interleaved x e kept may same (lift base is_interleaved shown.queue) shown.refines;
      seen_as = shown.seen_as;
      seen = λ n. shown.seen n ∙ ap (λ z. z.seen n) (sym same);
      mode = shown.mode;
      settled = shown.settled;
      fresh = shown.fresh;
    }
