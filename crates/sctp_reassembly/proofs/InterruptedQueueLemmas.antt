-- What a call on the queue leaves where memory runs out before its end.
use Rattle.std.proofs.Common.{◌≡◌, ℕ, suc, ◌-◌, ◌<◌, ◌^◌, Bool, true, false, cond, Option, None, List, length, ap, sym, subst, ◌∙◌}
use Rattle.std.proofs.lemmas.Bool.{lt-leb}
use Rattle.sctp_serial.specs.Messages.{Message}
use Rattle.sctp_chunk.specs.Chunk.{FragmentTree}
use Rattle.sctp_chunk.specs.declared.forward_tsn.SkippedStream.{SkippedStream}
use Rattle.sctp_serial.specs.declared.api.StreamId.{StreamId}
use Rattle.sctp_reassembly.specs.ReassemblyStreams.{Streams, Outcome, limit, is_far, by_stream, dropped_to, entries_in}
use Rattle.sctp_reassembly.specs.ReassemblyStreams as whole
use Rattle.sctp_reassembly.specs.ReassemblyQueue.{Reassembly, Deferred, Waiting, waiting_in, Added, Forwarded, number_of, came, is_kept_back, point_waits, resetting, forward_now, saturating_sum}
use Rattle.sctp_reassembly.specs.InterruptedStreams as streams
use Rattle.sctp_reassembly.specs.InterruptedStreams.{Stands}
use Rattle.sctp_reassembly.specs.InterruptedQueue.{add_now_in_part, forward_now_in_part, add_or_lose, add_in_part, entries_at_once, forward_in_part, apply_in_part, apply_each_in_part, reset_in_part}
use Rattle.sctp_reassembly.proofs.StandsLemmas.{applied_in_part, nothing_applied, wholly_forwarded}

module _ (n : ℕ) (old now new : Reassembly) (ss : Streams) (ready : List Message) (before : ℕ) (same : old ≡ now) (is : new ≡ record old { streams = ss; ready = ready; ready_count = saturating_sum old.ready_count (length ready - before) }) (counted : before ≡ length old.ready) where
  count : saturating_sum old.ready_count (length ready - before) ≡ saturating_sum old.ready_count (length ready - length old.ready)
  count = ap (λ (k : ℕ). saturating_sum old.ready_count (length ready - k)) counted

  pub added_in_part : (f : FragmentTree) → (steps : ℕ) × Stands (streams.add_in_part steps n f old.streams) old.ready ss ready → (steps : ℕ) × (new ≡ add_now_in_part steps n f now)
  added_in_part f (steps, stands) =
      (steps, is ∙ (applied_in_part (streams.add_in_part steps n f old.streams) old ss ready _ count stands ∙ ap (add_now_in_part steps n f) same))

  pub passed_in_part : (es : List SkippedStream) → (taken steps : ℕ) × Stands (streams.forward_in_part taken steps n es old.streams) old.ready ss ready → (taken steps : ℕ) × (new ≡ forward_now_in_part taken steps n es now)
  passed_in_part es (taken, steps, stands) =
      (taken, steps, is ∙ (applied_in_part (streams.forward_in_part taken steps n es old.streams) old ss ready _ count stands ∙ ap (forward_now_in_part taken steps n es) same))

pub nothing_forwarded : (n : ℕ) (es : List SkippedStream) (r : Reassembly) → r.ready_count < 2 ^ 64 → (taken steps : ℕ) × (r ≡ forward_now_in_part taken steps n es r)
nothing_forwarded n es r small = (0, 0, nothing_applied r small)

pub all_forwarded : (n : ℕ) (es : List SkippedStream) (r mid new : Reassembly) → mid ≡ forward_now n es r → new ≡ mid → (taken steps : ℕ) × (new ≡ forward_now_in_part taken steps n es r)
all_forwarded n es r mid new made same = (suc (length (by_stream es)), 0, same ∙ (made ∙ wholly_forwarded n es r))

-- a forward point on all streams
pub passes_in_part : (tsn : ℕ) (es entries : List SkippedStream) (ss mid after : Streams) (before ready : List Message) → entries ≡ by_stream es → mid ≡ dropped_to tsn ss → (taken steps : ℕ) × Stands (streams.skip_each_in_part taken steps entries mid) before after ready
    → (taken steps : ℕ) × Stands (streams.forward_in_part taken steps tsn es ss) before after ready
passes_in_part tsn es entries ss mid after before ready is dropped (taken, steps, stands) =
    (suc taken, steps, subst (λ (o : Outcome). Stands o before after ready) (ap (λ (t : List SkippedStream). streams.skip_each_in_part taken steps t mid) is ∙ ap (streams.skip_each_in_part taken steps (by_stream es)) dropped) stands)

-- ---- a TSN came

module _ (tsn n : ℕ) (r mid new : Reassembly) (is : mid ≡ came tsn r) (number : n ≡ number_of r tsn) (near : n < limit) where
  abbrev told : ℕ
  told = number_of r tsn

  none_far : is_far told ≡ false
  none_far = ap is_far (sym number) ∙ lt-leb limit n near

  lost_or_added : (f : FragmentTree) (steps : ℕ) (b : Bool) → b ≡ is_kept_back n f.stream_id mid.deferred → cond b mid (add_now_in_part steps n f mid) ≡ add_in_part steps tsn f r
  lost_or_added f steps b kept =
      ap (λ (t : Bool). cond t mid (add_now_in_part steps n f mid)) kept
      ∙ (ap (λ (k : ℕ). add_or_lose steps k f mid) number ∙ (ap (add_or_lose steps told f) is ∙ sym (ap (λ (b : Bool). cond b r (add_or_lose steps told f (came tsn r))) none_far)))

  pub fragment_lost : (f : FragmentTree) → true ≡ is_kept_back n f.stream_id mid.deferred → new ≡ mid → (steps : ℕ) × (new ≡ add_in_part steps tsn f r)
  fragment_lost f kept same = (0, same ∙ lost_or_added f 0 true kept)

  pub fragment_comes : (f : FragmentTree) → false ≡ is_kept_back n f.stream_id mid.deferred → (steps : ℕ) × (new ≡ add_now_in_part steps n f mid) → (steps : ℕ) × (new ≡ add_in_part steps tsn f r)
  fragment_comes f kept (steps, made) = (steps, made ∙ lost_or_added f steps false kept)

  module _ (es : List SkippedStream) where
    at_once : (taken steps : ℕ) (b : Bool) → b ≡ point_waits n mid.deferred → forward_now_in_part taken steps n (cond b (entries_in false (resetting mid.deferred) es) es) mid ≡ forward_in_part taken steps tsn es r
    at_once taken steps b waits =
        ap (λ (t : Bool). forward_now_in_part taken steps n (cond t (entries_in false (resetting mid.deferred) es) es) mid) waits
        ∙ (ap (λ (k : ℕ). forward_now_in_part taken steps k (cond (point_waits k mid.deferred) (entries_in false (resetting mid.deferred) es) es) mid) number
        ∙ (ap (λ (q : Reassembly). forward_now_in_part taken steps told (entries_at_once told es q.deferred) q) is
        ∙ sym (ap (λ (b : Bool). cond b r (forward_now_in_part taken steps told (entries_at_once told es r.deferred) (came tsn r))) none_far)))

    pub point_comes_in_parts : true ≡ point_waits n mid.deferred → (taken steps : ℕ) × (new ≡ forward_now_in_part taken steps n (entries_in false (resetting mid.deferred) es) mid) → (taken steps : ℕ) × (new ≡ forward_in_part taken steps tsn es r)
    point_comes_in_parts waits (taken, steps, made) = (taken, steps, made ∙ at_once taken steps true waits)

    pub point_comes : false ≡ point_waits n mid.deferred → (taken steps : ℕ) × (new ≡ forward_now_in_part taken steps n es mid) → (taken steps : ℕ) × (new ≡ forward_in_part taken steps tsn es r)
    point_comes waits (taken, steps, made) = (taken, steps, made ∙ at_once taken steps false waits)

-- ---- what waited

pub fragment_applied : (w : Waiting) (n : ℕ) (f : FragmentTree) (r new : Reassembly) → w ≡ Added n f → (steps : ℕ) × (new ≡ add_now_in_part steps n f r) → (taken steps : ℕ) × (new ≡ apply_in_part taken steps w r)
fragment_applied w n f r new is (steps, made) = (0, steps, made ∙ sym (ap (λ (t : Waiting). apply_in_part 0 steps t r) is))

pub point_applied : (w : Waiting) (n : ℕ) (es : List SkippedStream) (r new : Reassembly) → w ≡ Forwarded n es → (taken steps : ℕ) × (new ≡ forward_now_in_part taken steps n es r) → (taken steps : ℕ) × (new ≡ apply_in_part taken steps w r)
point_applied w n es r new is (taken, steps, made) = (taken, steps, made ∙ sym (ap (λ (t : Waiting). apply_in_part taken steps t r) is))

pub reset_goes_on : (ids : List StreamId) (ws : List Waiting) (r old new : Reassembly) (ss : Streams) (d : Option Deferred) → ws ≡ waiting_in r.deferred → old ≡ r → ss ≡ whole.reset ids old.streams → d ≡ None
    → (applied taken steps : ℕ) × (new ≡ apply_each_in_part applied taken steps ws (record old { streams = ss; deferred = d })) → (applied taken steps : ℕ) × (new ≡ reset_in_part applied taken steps ids r)
reset_goes_on ids ws r old new ss d waited same forgot none (applied, taken, steps, made) =
    (applied, taken, steps, made ∙ (ap (λ (t : List Waiting). apply_each_in_part applied taken steps t (record old { streams = ss; deferred = d })) waited ∙ ap (apply_each_in_part applied taken steps (waiting_in r.deferred)) begun))
  where
    begun : record old { streams = ss; deferred = d } ≡ record r { streams = whole.reset ids r.streams; deferred = None }
    begun =
        ap (λ (t : Streams). record old { streams = t; deferred = d }) forgot
        ∙ (ap (λ (t : Option Deferred). record old { streams = whole.reset ids old.streams; deferred = t }) none ∙ ap (λ (q : Reassembly). record q { streams = whole.reset ids q.streams; deferred = None }) same)
