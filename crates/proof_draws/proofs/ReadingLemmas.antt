-- Numbers that come in stand for the same under other names: DATA, forward points and SACKs.
use Rattle.std.proofs.Common.{◌≡◌, ℕ, ◌+◌, ◌==◌, ◌&&◌, ◌||◌, not, Bool, true, false, cond, max, unwrap_or, Option, Some, None, option_map, List, length, refl, sym, ap, ◌∙◌}
use Rattle.sctp_serial.specs.Unwrapped.{origin}
use Rattle.sctp_chunk.specs.declared.forward_tsn.SkippedStream.{SkippedStream}
use Rattle.sctp_packet.specs.Chunk.{FragmentTree}
use Rattle.sctp_rx.specs.DataTracker.{DataTracker}
use Rattle.sctp_rx.specs.DataTracker as tracker
use Rattle.sctp_rx.specs.ReassemblyStreams.{is_far, entries_in}
use Rattle.sctp_rx.specs.ReassemblyQueue.{Reassembly, is_kept_back, point_waits, add_or_keep_back, forward_or_wait}
use Rattle.sctp_rx.specs.ReassemblyQueue as reassembly
use Rattle.sctp_tx_outstanding.specs.OutstandingData.{Outstanding}
use Rattle.sctp_tx_outstanding.specs.OutstandingData as items
use Rattle.spec_endpoint.specs.Association.{Tcb, Phase, State, Closed, CookieWait, Open, Context, EndpointState, Packing}
use Rattle.spec_endpoint.specs.Data.{is_full, accepts_tsn, accepts_fragment, added_unless, take_fragment, fragment_if, on_data_in, on_data_if, on_data, skipped_if, accepts_point, handle_forward_tsn, handle_forward_tsn_if, handle_forward_tsn_in, on_forward, has_reserve, has_room, told_of_drop, take_data}
use Rattle.sctp_state.specs.Options.{Options}
use Rattle.proof_draws.specs.NamedChunks.{Names, move_by}
use Rattle.proof_draws.specs.Names.{named_phase, named_tracker, named_reassembly, named_outstanding, named_tcb, named_state, named_endpoint_state, plain}
use Rattle.proof_draws.proofs.MovedLemmas.{moved_nearest}
use Rattle.proof_endpoint.proofs.RowMapsLemmas.{endpoint_state_in}

abbrev room_at : Options → (number : ℕ) → Tcb → Bool
room_at o number t = not (is_full t.reassembly) || (o.avoid_stalls && ((number == t.tracker.tracker.seen.front + 1) && has_reserve o t.reassembly))

abbrev takes_at : Options → (number : ℕ) → Tcb → Bool
takes_at o number t = room_at o number t && tracker.is_valid t.tracker.tracker number

abbrev open_state : Names → Phase → Tcb → State
open_state n phase t = Open (named_phase n phase) t

abbrev open_endpoint_state : {P : Type 0} → Names → Phase → Tcb → Context P → EndpointState P
open_endpoint_state n phase t c = endpoint_state_in (open_state n phase t) c

abbrev came_at : (number first : ℕ) → Reassembly → Reassembly
came_at number first r = record r { first = Some first; near = max origin number }

abbrev added_at : (number first : ℕ) → FragmentTree → Reassembly → Reassembly
added_at number first f r = cond (is_far number) r (add_or_keep_back number f (came_at number first r))

abbrev skipped_at : (number first : ℕ) → List SkippedStream → Reassembly → Reassembly
skipped_at number first es r = cond (is_far number) r (forward_or_wait number es (came_at number first r))

abbrev tcb_with : Tcb → DataTracker → Reassembly → Tcb
tcb_with t d r = record t { tracker = d; reassembly = r }

-- ---- what the parts of a control block read

module _ (n : Names) where
  pub received_number : (d : DataTracker) (tsn : ℕ) → tracker.number_of (named_tracker n d) (move_by n.peer tsn) ≡ tracker.number_of d tsn
  received_number d tsn = moved_nearest n.peer d.first d.tracker.seen.front tsn

  pub acked_number : (d : Outstanding) (tsn : ℕ) → items.number_of (named_outstanding n d) (move_by n.own tsn) ≡ items.number_of d tsn
  acked_number d tsn = moved_nearest n.own d.first d.items.acked tsn

  near_named : (o : Option ℕ) (near tsn : ℕ) → reassembly.near_first (option_map (move_by n.peer) o) near (move_by n.peer tsn) ≡ reassembly.near_first o near tsn
  near_named None near tsn = refl
  near_named (Some first) near tsn = moved_nearest n.peer first near tsn

  pub queue_number : (r : Reassembly) (tsn : ℕ) → reassembly.number_of (named_reassembly n r) (move_by n.peer tsn) ≡ reassembly.number_of r tsn
  queue_number r tsn = near_named r.first r.near tsn

  -- the first that came
  pub first_named : (o : Option ℕ) (tsn : ℕ) → unwrap_or (option_map (move_by n.peer) o) (move_by n.peer tsn) ≡ move_by n.peer (unwrap_or o tsn)
  first_named None tsn = refl
  first_named (Some first) tsn = refl

  -- ---- reassembly

  -- with another first number each queue does the same
  added_any : (far waits : Bool) (number first : ℕ) (f : FragmentTree) (r : Reassembly)
      → cond far (named_reassembly n r) (cond waits (reassembly.keep_back (reassembly.Added number f) (came_at number (move_by n.peer first) (named_reassembly n r))) (reassembly.add_now number f (came_at number (move_by n.peer first) (named_reassembly n r))))
      ≡ named_reassembly n (cond far r (cond waits (reassembly.keep_back (reassembly.Added number f) (came_at number first r)) (reassembly.add_now number f (came_at number first r))))
  added_any true waits number first f r = refl
  added_any false true number first f r = refl
  added_any false false number first f r = refl

  -- the part of a forward point that is taken at once, and that which waits or has nothing to do
  abbrev taken_in_part : (none : Bool) (number : ℕ) → List SkippedStream → Reassembly → Reassembly
  taken_in_part none number es r =
      let part : Reassembly = reassembly.forward_now number (entries_in false (reassembly.resetting r.deferred) es) r in
      cond none part (reassembly.keep_back (reassembly.Forwarded number (entries_in true (reassembly.resetting r.deferred) es)) part)

  skipped_any : (far waits none : Bool) (number first : ℕ) (es : List SkippedStream) (r : Reassembly)
      → cond far (named_reassembly n r) (cond waits (taken_in_part none number es (came_at number (move_by n.peer first) (named_reassembly n r))) (reassembly.forward_now number es (came_at number (move_by n.peer first) (named_reassembly n r))))
      ≡ named_reassembly n (cond far r (cond waits (taken_in_part none number es (came_at number first r)) (reassembly.forward_now number es (came_at number first r))))
  skipped_any true waits none number first es r = refl
  skipped_any false true true number first es r = refl
  skipped_any false true false number first es r = refl
  skipped_any false false none number first es r = refl

  pub named_added : (tsn : ℕ) (f : FragmentTree) (r : Reassembly) → reassembly.add (move_by n.peer tsn) f (named_reassembly n r) ≡ named_reassembly n (reassembly.add tsn f r)
  named_added tsn f r =
      let number : ℕ = reassembly.number_of r tsn in
      let first : ℕ = unwrap_or r.first tsn in
      ap (λ (k : ℕ). added_at k (unwrap_or (option_map (move_by n.peer) r.first) (move_by n.peer tsn)) f (named_reassembly n r)) (queue_number r tsn)
      ∙ (ap (λ (k : ℕ). added_at number k f (named_reassembly n r)) (first_named r.first tsn)
      ∙ added_any (is_far number) (is_kept_back number f.stream_id r.deferred) number first f r)

  pub named_skipped : (tsn : ℕ) (es : List SkippedStream) (r : Reassembly) → reassembly.forward (move_by n.peer tsn) es (named_reassembly n r) ≡ named_reassembly n (reassembly.forward tsn es r)
  named_skipped tsn es r =
      let number : ℕ = reassembly.number_of r tsn in
      let first : ℕ = unwrap_or r.first tsn in
      ap (λ (k : ℕ). skipped_at k (unwrap_or (option_map (move_by n.peer) r.first) (move_by n.peer tsn)) es (named_reassembly n r)) (queue_number r tsn)
      ∙ (ap (λ (k : ℕ). skipped_at number k es (named_reassembly n r)) (first_named r.first tsn)
      ∙ skipped_any (is_far number) (point_waits number r.deferred)
      ((length (entries_in true (reassembly.resetting r.deferred) es) == 0) && (length (reassembly.waiting_in r.deferred) == 0)) number first es r)

  -- ---- DATA in a control block

  added_named : (was_seen : Bool) (tsn : ℕ) (f : FragmentTree) (r : Reassembly)
      → added_unless was_seen (move_by n.peer tsn) f (named_reassembly n r) ≡ named_reassembly n (added_unless was_seen tsn f r)
  added_named true tsn f r = refl
  added_named false tsn f r = named_added tsn f r

  taken_named : (tsn : ℕ) (is_immediate : Bool) (f : FragmentTree) (t : Tcb) → take_fragment (move_by n.peer tsn) is_immediate f (named_tcb n t) ≡ named_tcb n (take_fragment tsn is_immediate f t)
  taken_named tsn is_immediate f t =
      let d : DataTracker = named_tracker n t.tracker in
      let r : Reassembly = named_reassembly n t.reassembly in
      let at : ℕ → Tcb = λ k. tcb_with (named_tcb n t) (record d { tracker = tracker.observe k is_immediate d.tracker })
      (added_unless (tracker.has_seen d.tracker k) (move_by n.peer tsn) f r) in
      let number : ℕ = tracker.number_of t.tracker tsn in
      ap at (received_number t.tracker tsn)
      ∙ ap (λ (q : Reassembly). tcb_with (named_tcb n t) (record d { tracker = tracker.observe number is_immediate d.tracker }) q)
      (added_named (tracker.has_seen t.tracker.tracker number) tsn f t.reassembly)

  taken_if_named : (b : Bool) (tsn : ℕ) (is_immediate : Bool) (f : FragmentTree) (t : Tcb)
      → fragment_if b (move_by n.peer tsn) is_immediate f (named_tcb n t) ≡ named_tcb n (fragment_if b tsn is_immediate f t)
  taken_if_named true tsn is_immediate f t = taken_named tsn is_immediate f t
  taken_if_named false tsn is_immediate f t = refl

  room_named : (o : Options) (tsn : ℕ) (t : Tcb) → has_room o (move_by n.peer tsn) (named_tcb n t) ≡ has_room o tsn t
  room_named o tsn t = ap (λ (k : ℕ). room_at o k t) (received_number t.tracker tsn)

  takes_named : (o : Options) (tsn : ℕ) (t : Tcb) → accepts_tsn o (move_by n.peer tsn) (named_tcb n t) ≡ accepts_tsn o tsn t
  takes_named o tsn t = ap (λ (k : ℕ). takes_at o k t) (received_number t.tracker tsn)

  waiting_named : (tsn id : ℕ) (r : Reassembly) → reassembly.admits_fragment (move_by n.peer tsn) id (named_reassembly n r) ≡ reassembly.admits_fragment tsn id r
  waiting_named tsn id r = ap (λ (k : ℕ). reassembly.may_wait k id r.deferred) (queue_number r tsn)

  fragment_named : (o : Options) (tsn : ℕ) (f : FragmentTree) (t : Tcb) → accepts_fragment o (move_by n.peer tsn) f (named_tcb n t) ≡ accepts_fragment o tsn f t
  fragment_named o tsn f t =
      ap (λ (b : Bool). b && reassembly.admits_fragment (move_by n.peer tsn) f.stream_id (named_reassembly n t.reassembly)) (takes_named o tsn t)
      ∙ ap (λ (b : Bool). accepts_tsn o tsn t && b) (waiting_named tsn f.stream_id t.reassembly)

  told_named : (b room : Bool) (t : Tcb) → told_of_drop b room (named_tcb n t) ≡ named_tcb n (told_of_drop b room t)
  told_named true true t = refl
  told_named true false t = refl
  told_named false room t = refl

  take_data_named : (o : Options) (tsn : ℕ) (is_immediate : Bool) (f : FragmentTree) (t : Tcb)
      → take_data o (move_by n.peer tsn) is_immediate f (named_tcb n t) ≡ named_tcb n (take_data o tsn is_immediate f t)
  take_data_named o tsn is_immediate f t =
      let m : ℕ = move_by n.peer tsn in
      let takes : Bool = accepts_fragment o tsn f t in
      let room : Bool = has_room o tsn t in
      ap (λ (b : Bool). fragment_if b m is_immediate f (told_of_drop o.avoid_stalls (has_room o m (named_tcb n t)) (named_tcb n t))) (fragment_named o tsn f t)
      ∙ (ap (λ (b : Bool). fragment_if takes m is_immediate f (told_of_drop o.avoid_stalls b (named_tcb n t))) (room_named o tsn t)
      ∙ (ap (λ (u : Tcb). fragment_if takes m is_immediate f u) (told_named o.avoid_stalls room t)
      ∙ taken_if_named takes tsn is_immediate f (told_of_drop o.avoid_stalls room t)))

  -- ---- a forward point

  skipped_named : (b : Bool) (tsn : ℕ) (es : List SkippedStream) (r : Reassembly)
      → skipped_if b (move_by n.peer tsn) es (named_reassembly n r) ≡ named_reassembly n (skipped_if b tsn es r)
  skipped_named true tsn es r = named_skipped tsn es r
  skipped_named false tsn es r = refl

  valid_named : (tsn : ℕ) (t : Tcb) → tracker.is_valid t.tracker.tracker (tracker.number_of (named_tracker n t.tracker) (move_by n.peer tsn))
      ≡ tracker.is_valid t.tracker.tracker (tracker.number_of t.tracker tsn)
  valid_named tsn t = ap (λ (k : ℕ). tracker.is_valid t.tracker.tracker k) (received_number t.tracker tsn)

  admitted_named : (tsn : ℕ) (es : List SkippedStream) (r : Reassembly) → reassembly.admits_point (move_by n.peer tsn) es (named_reassembly n r) ≡ reassembly.admits_point tsn es r
  admitted_named tsn es r = ap (λ (k : ℕ). reassembly.fits_behind k es r.deferred) (queue_number r tsn)

  accepted_named : (tsn : ℕ) (es : List SkippedStream) (t : Tcb) → accepts_point (move_by n.peer tsn) es (named_tcb n t) ≡ accepts_point tsn es t
  accepted_named tsn es t =
      ap (λ (b : Bool). b && reassembly.admits_point (move_by n.peer tsn) es (named_reassembly n t.reassembly)) (valid_named tsn t)
      ∙ ap (λ (b : Bool). tracker.is_valid t.tracker.tracker (tracker.number_of t.tracker tsn) && b) (admitted_named tsn es t.reassembly)

  forwarded_named : (tsn : ℕ) (es : List SkippedStream) (t : Tcb) → handle_forward_tsn (move_by n.peer tsn) es (named_tcb n t) ≡ named_tcb n (handle_forward_tsn tsn es t)
  forwarded_named tsn es t =
      let d : DataTracker = named_tracker n t.tracker in
      let r : Reassembly = named_reassembly n t.reassembly in
      let at : ℕ → Tcb = λ k. tcb_with (named_tcb n t) (record d { tracker = tracker.forward k d.tracker })
      (skipped_if (tracker.moves_on k d.tracker) (move_by n.peer tsn) es r) in
      let number : ℕ = tracker.number_of t.tracker tsn in
      ap at (received_number t.tracker tsn)
      ∙ ap (λ (q : Reassembly). tcb_with (named_tcb n t) (record d { tracker = tracker.forward number d.tracker }) q)
      (skipped_named (tracker.moves_on number t.tracker.tracker) tsn es t.reassembly)

  forwarded_if_named : (b : Bool) (tsn : ℕ) (es : List SkippedStream) (t : Tcb)
      → handle_forward_tsn_if b (move_by n.peer tsn) es (named_tcb n t) ≡ named_tcb n (handle_forward_tsn_if b tsn es t)
  forwarded_if_named true tsn es t = forwarded_named tsn es t
  forwarded_if_named false tsn es t = refl

  forwarded_in_named : (s : State) (tsn : ℕ) (es : List SkippedStream) → handle_forward_tsn_in (named_state n s) (move_by n.peer tsn) es ≡ named_state n (handle_forward_tsn_in s tsn es)
  forwarded_in_named Closed tsn es = refl
  forwarded_in_named (CookieWait tag first t1) tsn es = refl
  forwarded_in_named (Open phase t) tsn es =
      ap (λ (b : Bool). open_state n phase (handle_forward_tsn_if b (move_by n.peer tsn) es (named_tcb n t))) (accepted_named tsn es t)
      ∙ ap (λ (u : Tcb). open_state n phase u) (forwarded_if_named (accepts_point tsn es t) tsn es t)

-- ---- the rows

module _ {P : Type 0} (n : Names) (pack : Packing P) where
  data_in_named : (s : State) (tsn : ℕ) (is_immediate : Bool) (f : FragmentTree) (c : Context P)
      → on_data_in (named_state n s) (move_by n.peer tsn) is_immediate f (plain n pack c) ≡ named_endpoint_state n pack (on_data_in s tsn is_immediate f c)
  data_in_named Closed tsn is_immediate f c = refl
  data_in_named (CookieWait tag first t1) tsn is_immediate f c = refl
  data_in_named (Open phase t) tsn is_immediate f c =
      ap (λ (u : Tcb). open_endpoint_state n phase u (plain n pack c)) (take_data_named n c.options tsn is_immediate f t)

  -- a fragment with a payload
  pub named_data : (tsn : ℕ) (is_immediate : Bool) (f : FragmentTree) (s : EndpointState P) → (length f.payload == 0) ≡ false
      → on_data (move_by n.peer tsn) is_immediate f (named_endpoint_state n pack s) ≡ named_endpoint_state n pack (on_data tsn is_immediate f s)
  named_data tsn is_immediate f s some =
      ap (λ (b : Bool). on_data_if b (move_by n.peer tsn) is_immediate f (named_endpoint_state n pack s)) some
      ∙ (data_in_named s.state tsn is_immediate f s.context
      ∙ ap (λ (b : Bool). named_endpoint_state n pack (on_data_if b tsn is_immediate f s)) (sym some))

  pub named_forward : (tsn : ℕ) (es : List SkippedStream) (s : EndpointState P)
      → on_forward (move_by n.peer tsn) es (named_endpoint_state n pack s) ≡ named_endpoint_state n pack (on_forward tsn es s)
  named_forward tsn es s = ap (λ (st : State). endpoint_state_in st (plain n pack s.context)) (forwarded_in_named n s.state tsn es)
