use Rattle.std.proofs.Common.{◌≡◌, Bool, true, false, List, [], ◌∷◌, refl, ap, sym, subst, ◌∙◌, arith}
use Rattle.std.proofs.lemmas.Bool.{eqb-true}
use Rattle.std.specs.Prelude.{not, ◌==◌, length, sum_by}
use Rattle.std.specs.Map.{lookup}
use Rattle.std.specs.Ordering.{nat_cmp}
use Rattle.std.specs.BTreeMap.{is_at}
use Rattle.sctp_tx_queue.specs.SendQueue.{Queued, Stream, Streams, Entries, amount_of, total_of, remaining_bytes, has_nothing}
use Rattle.sctp_tx_queue.specs.Bounded.{IsCounted}
use Rattle.sctp_tx_queue.specs.Resets.{is_ready}
use Rattle.sctp_tx_queue.specs.Restarted.{restart, whole_front}
use Rattle.sctp_tx_queue.proofs.BoundLemmas.{few_changed, keeps_whole}
use Rattle.sctp_tx_queue.proofs.ReadyIdsLemmas.{lists_changed}
use Rattle.sctp_tx_queue.proofs.ReadyLemmas.{ready_changed, ready_most}
use Rattle.sctp_tx_queue.proofs.StreamsLemmas.{total_written, written_same, put_nowhere}
use Rattle.sctp_tx_queue.proofs.send_queue.streams.Streams.restart_idle.Goals as goal

pub returns-in_default-clause-done : goal.returns-in_default-clause-done
returns-in_default-clause-done c = λ h.
    let view : Entries → Streams = λ es. record { entries = es; total_threshold = c.self.inside.total.low_threshold; default_threshold = c.self.inside.default_threshold; default_priority = c.self.inside.default_priority; avoids_stalls = c.self.inside.avoids_stalls } in
    ap view (ap (λ m. m.entries) c.get_mut.follows.holds-at-none) ∙ c.self.view_is
    ∙ sym (put_nowhere c.args.id.0 _ c.args.self.now (c.in_default.ensures.value ∙ ap (λ ss. lookup (is_at (nat_cmp c.args.id.0)) ss.entries) c.self.view_is))

pub invariant_of-self-then-has_messages : goal.invariant_of-self-then-has_messages
invariant_of-self-then-has_messages c =
    let v = c.in-Some.stream.now in
    let entries = c.self.inside.streams.entries in
    let unchanged = (c.get_mut.follows.holds v).0 ∙ written_same (is_at (nat_cmp c.args.id.0)) v entries c.in-Some.ensures.value in
    subst (λ (es : Entries). IsCounted c.self.inside.total.amount c.self.inside.ready_count c.self.inside.ready_ids es) (sym unchanged) c.self.invariant

pub returns-then-has_messages-clause-same : goal.returns-then-has_messages-clause-same
returns-then-has_messages-clause-same c = λ h.
    let v = c.in-Some.stream.now in
    let entries = c.self.inside.streams.entries in
    let view : Entries → Streams = λ es. record { entries = es; total_threshold = c.self.inside.total.low_threshold; default_threshold = c.self.inside.default_threshold; default_priority = c.self.inside.default_priority; avoids_stalls = c.self.inside.avoids_stalls } in
    ap view ((c.get_mut.follows.holds v).0 ∙ written_same (is_at (nat_cmp c.args.id.0)) v entries c.in-Some.ensures.value) ∙ c.self.view_is

pub ready_count_after-self-inside-requires-clause-most : goal.ready_count_after-self-inside-requires-clause-most
ready_count_after-self-inside-requires-clause-most c = omega (arith, c.self.invariant.ready, ready_most c.self.inside.streams.entries, c.len-count.ensures.len, c.len-count.ensures.small)

shown : (b : Bool) → not b ≡ false → b ≡ true
shown true e = refl
shown false e = cc

-- a stream on which no message waits has none after its restart
idle_amount : (s : Stream) → has_nothing s ≡ true → amount_of (restart s) ≡ amount_of s
idle_amount s none = go s.messages none
  where
    go : (ms : List Queued) → (length ms == 0) ≡ true → sum_by remaining_bytes (whole_front ms) ≡ sum_by remaining_bytes ms
    go [] h = refl
    go (m ∷ ms) h = absurd (omega (arith, eqb-true (length (m ∷ ms)) 0 h))

pub invariant_of-self-2 : goal.invariant_of-self-2
invariant_of-self-2 c =
    let id = c.args.id.0 in
    let v = c.in-Some.stream.now in
    let w = c.restart.new.self in
    let entries = c.self.inside.streams.entries in
    let written = (c.get_mut.follows.holds w).0 in
    let is = sym (ap is_ready c.restart.ensures) in
    record {
      counted = omega (arith, c.self.invariant.counted, ap total_of written, total_written id entries v w c.in-Some.ensures.value, ap amount_of c.restart.ensures, idle_amount v (shown (has_nothing v) (sym c.has_messages.ensures ∙ c.if-has_messages.false)));
      few = few_changed id entries _ v w (restart v) c.in-Some.ensures.value written c.restart.ensures (keeps_whole v.messages) c.self.invariant.few;
      ready = ready_changed id c.self.inside.ready_count _ _ _ entries _ v w c.in-Some.ensures.value written c.is_ready-was_ready.ensures is c.self.invariant.ready c.ready_count_after-self-inside.ensures;
      listed = lists_changed id _ _ c.self.inside.ready_ids _ entries _ v w c.len-count.ensures.ordered c.in-Some.ensures.value written c.is_ready-was_ready.ensures is c.follow.ensures c.self.invariant.listed;
    }
