-- Data and forward points: refused ones change nothing, new ones are added, and points reach reassembly.
use Rattle.std.proofs.Common.{◌≡◌, ℕ, ◌==◌, ◌||◌, not, Bool, true, false, cond, Option, None, List, length, refl, ap, ◌∙◌}
use Rattle.std.proofs.lemmas.Bool.{and_parts}
use Rattle.sctp_state.specs.Options.{Options}
use Rattle.sctp_chunk.specs.declared.forward_tsn.SkippedStream.{SkippedStream}
use Rattle.sctp_packet.specs.Chunk.{FragmentTree}
use Rattle.sctp_rx.specs.DataTracker.{number_of, is_valid, has_seen, moves_on}
use Rattle.sctp_rx.specs.ReassemblyQueue.{Reassembly, add, forward, admits_fragment}
use Rattle.spec_endpoint.specs.Association.{Tcb, Phase, Open, Context, EndpointState, Endpoint}
use Rattle.spec_endpoint.specs.Data.{has_room, accepts_tsn, accepts_fragment, told_of_drop, added_unless, take_fragment, fragment_if, on_data_if, on_data, skipped_if, handle_forward_tsn, handle_forward_tsn_if, handle_forward_tsn_in}
use Rattle.spec_endpoint.specs.Input.{misuse, received_unless, receive}
use Rattle.proof_pair.specs.Taking.{opened, fragment_chunk, point_chunk, IsLeft, IsTaken, IsPassed, RefusedDataChangesNothing, NewDataIsAdded, RefusedPointsChangeNothing, PointsReachReassembly}

-- ---- by tests

none_taken : (accepts : Bool) → not accepts ≡ true → accepts ≡ false
none_taken true e = cc
none_taken false e = refl

some_taken : (accepts : Bool) → not accepts ≡ false → accepts ≡ true
some_taken true e = refl
some_taken false e = cc

not_told : (b room : Bool) (t : Tcb) → room ≡ true → told_of_drop b room t ≡ t
not_told true true t e = refl
not_told true false t e = cc
not_told false room t e = refl

left_by : (o : Options) (b room : Bool) (t : Tcb) → o.avoid_stalls ≡ b → IsLeft o t (told_of_drop b room t)
left_by o true true t e = record { reassembly = refl; seen = refl; all = λ off. refl }
left_by o true false t e = record { reassembly = refl; seen = refl; all = λ off. absurd (cc) }
left_by o false room t e = record { reassembly = refl; seen = refl; all = λ off. refl }

new_by : (b : Bool) (tsn : ℕ) (f : FragmentTree) (r : Reassembly) → not b ≡ true → added_unless b tsn f r ≡ add tsn f r
new_by true tsn f r e = cc
new_by false tsn f r e = refl

seen_by : (b : Bool) (tsn : ℕ) (f : FragmentTree) (r : Reassembly) → not b ≡ false → added_unless b tsn f r ≡ r
seen_by true tsn f r e = refl
seen_by false tsn f r e = cc

moved_by : (b : Bool) (tsn : ℕ) (skipped : List SkippedStream) (r : Reassembly) → b ≡ true → skipped_if b tsn skipped r ≡ forward tsn skipped r
moved_by true tsn skipped r e = refl
moved_by false tsn skipped r e = cc

kept_by : (b : Bool) (tsn : ℕ) (skipped : List SkippedStream) (r : Reassembly) → b ≡ false → skipped_if b tsn skipped r ≡ r
kept_by true tsn skipped r e = cc
kept_by false tsn skipped r e = refl

module _ {P : Type 0} (tsn : ℕ) (is_immediate : Bool) (f : FragmentTree) (phase : Phase) (t : Tcb) (c : Context P) where
  abbrev endpoint_state : EndpointState P
  endpoint_state = record { state = Open phase t; context = c }

  abbrev o : Options
  o = c.options

  abbrev told : Tcb
  told = told_of_drop o.avoid_stalls (has_room o tsn t) t

  -- what a chunk leaves that isn't taken
  abbrev left : (is_empty : Bool) → Tcb
  left is_empty = cond is_empty t told

  left_is : (a : Bool) → IsLeft o t (left a)
  left_is true = record { reassembly = refl; seen = refl; all = λ off. refl }
  left_is false = left_by o o.avoid_stalls (has_room o tsn t) t refl

  refused_by : (a : Bool) → (a || not (accepts_fragment o tsn f t)) ≡ true → (on_data_if a tsn is_immediate f endpoint_state).state ≡ Open phase (left a)
  refused_by true e = refl
  refused_by false e = ap (λ (b : Bool). Open phase (fragment_if b tsn is_immediate f told)) (none_taken (accepts_fragment o tsn f t) e)

  taken_by : (a : Bool) → (a || not (accepts_fragment o tsn f t)) ≡ false
      → (on_data_if a tsn is_immediate f endpoint_state).state ≡ Open phase (take_fragment tsn is_immediate f t)
  taken_by true e = cc
  taken_by false e =
      let accepted : accepts_fragment o tsn f t ≡ true = some_taken (accepts_fragment o tsn f t) e in
      let in_room : accepts_tsn o tsn t ≡ true = (and_parts (accepts_tsn o tsn t) (admits_fragment tsn f.stream_id t.reassembly) accepted).0 in
      let room : has_room o tsn t ≡ true = (and_parts (has_room o tsn t) (is_valid t.tracker.tracker (number_of t.tracker tsn)) in_room).0 in
      ap (λ (b : Bool). Open phase (fragment_if b tsn is_immediate f told)) accepted
      ∙ ap (λ (u : Tcb). Open phase (take_fragment tsn is_immediate f u)) (not_told o.avoid_stalls (has_room o tsn t) t room)

  is_taken : IsTaken tsn is_immediate f t (take_fragment tsn is_immediate f t)
  is_taken = record {
    observes = refl;
    adds = λ e. new_by (has_seen t.tracker.tracker (number_of t.tracker tsn)) tsn f t.reassembly e;
    keeps = λ e. seen_by (has_seen t.tracker.tracker (number_of t.tracker tsn)) tsn f t.reassembly e;
  }

module _ {P : Type 0} (tag tsn : ℕ) (is_immediate : Bool) (f : FragmentTree) (phase : Phase) (t : Tcb) (e : Endpoint P) where
  -- the row of both kinds
  data_row : (is_interleaved : Bool) → misuse t.capabilities (fragment_chunk is_interleaved tsn is_immediate f) ≡ None
      → (receive tag (fragment_chunk is_interleaved tsn is_immediate f) (opened phase t e)).end.endpoint_state.state
      ≡ (on_data tsn is_immediate f (record { state = Open phase t; context = e.endpoint_state.context })).state
  data_row true right = ap (λ (v : Option (List ℕ)). (received_unless v tag (fragment_chunk true tsn is_immediate f) (opened phase t e)).end.endpoint_state.state) right
  data_row false right = ap (λ (v : Option (List ℕ)). (received_unless v tag (fragment_chunk false tsn is_immediate f) (opened phase t e)).end.endpoint_state.state) right

module _ {P : Type 0} (tag tsn : ℕ) (skipped : List SkippedStream) (phase : Phase) (t : Tcb) (e : Endpoint P) where
  point_row : (is_interleaved : Bool) → misuse t.capabilities (point_chunk is_interleaved tsn skipped) ≡ None
      → (receive tag (point_chunk is_interleaved tsn skipped) (opened phase t e)).end.endpoint_state.state ≡ handle_forward_tsn_in (Open phase t) tsn skipped
  point_row true right = ap (λ (v : Option (List ℕ)). (received_unless v tag (point_chunk true tsn skipped) (opened phase t e)).end.endpoint_state.state) right
  point_row false right = ap (λ (v : Option (List ℕ)). (received_unless v tag (point_chunk false tsn skipped) (opened phase t e)).end.endpoint_state.state) right

  is_passed : IsPassed tsn skipped t (handle_forward_tsn tsn skipped t)
  is_passed = record {
    observes = refl;
    forwards = λ h. moved_by (moves_on (number_of t.tracker tsn) t.tracker.tracker) tsn skipped t.reassembly h;
    keeps = λ h. kept_by (moves_on (number_of t.tracker tsn) t.tracker.tracker) tsn skipped t.reassembly h;
  }

-- ---- the laws

pub refused_data : RefusedDataChangesNothing
refused_data is_interleaved tag tsn is_immediate f phase t e right refused = (
  record {
    tcb = left tsn is_immediate f phase t e.endpoint_state.context (length f.payload == 0);
    is = data_row tag tsn is_immediate f phase t e is_interleaved right
        ∙ refused_by tsn is_immediate f phase t e.endpoint_state.context (length f.payload == 0) refused;
  },
  left_is tsn is_immediate f phase t e.endpoint_state.context (length f.payload == 0),
)

pub new_data : NewDataIsAdded
new_data is_interleaved tag tsn is_immediate f phase t e right fine = (
  record {
    tcb = take_fragment tsn is_immediate f t;
    is = data_row tag tsn is_immediate f phase t e is_interleaved right
        ∙ taken_by tsn is_immediate f phase t e.endpoint_state.context (length f.payload == 0) fine;
  },
  is_taken tsn is_immediate f phase t e.endpoint_state.context,
)

pub refused_points : RefusedPointsChangeNothing
refused_points is_interleaved tag tsn skipped phase t e right refused =
    point_row tag tsn skipped phase t e is_interleaved right ∙ ap (λ (b : Bool). Open phase (handle_forward_tsn_if b tsn skipped t)) refused

pub points_reach : PointsReachReassembly
points_reach is_interleaved tag tsn skipped phase t e right accepted = (
  record {
    tcb = handle_forward_tsn tsn skipped t;
    is = point_row tag tsn skipped phase t e is_interleaved right ∙ ap (λ (b : Bool). Open phase (handle_forward_tsn_if b tsn skipped t)) accepted;
  },
  is_passed tag tsn skipped phase t e,
)
