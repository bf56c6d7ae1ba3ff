-- What each act emits, and the frame up to the first end of an association.
use Rattle.std.proofs.Common.{◌≡◌, ◌⊎◌, inl, inr, true, List, [], ◌∷◌, ◌++◌, refl, sym, ap, ◌∙◌, append_assoc, append-nil, arith}
use Rattle.std.specs.List.{list_all}
use Rattle.std.proofs.lemmas.Bool.{and_parts}
use Rattle.sctp_state.specs.Events.{Event, OnConnected, OnConnectionRestarted, OnClosed, OnAborted, OnIncomingStreamReset, OnStreamsResetPerformed, OnStreamsResetFailed, OnError, numbers_of}
use Rattle.spec_endpoint.specs.Association.{Closed, Context, Endpoint}
use Rattle.spec_endpoint.specs.Sack.{clean_blocks}
use Rattle.spec_endpoint.specs.ResetRequests.{Outcome, Unsettled, Done, Denied, outcome}
use Rattle.spec_endpoint.specs.Packets.{room}
use Rattle.spec_endpoint.specs.StreamReset.{on_outcome}
use Rattle.spec_endpoint.specs.Shutdown.{ended, over, emptied_if}
use Rattle.spec_endpoint.specs.Laws.{Call, called, ending, endings}
use Rattle.proof_endpoint.specs.Acts.{EndWithPacket, in_state, with_context, calm, PacketAct, begins, adds_plain, emits, emits_error, counts, before_packets, after_packets, OpeningAct, connects, adds_init, answers_new, answers_waiting, answers_echoed, answers_again, echoes, adds_cookie, establishes, opens, restarts, opens_again, maintains, adds_cookie_ack, before_opening, after_opening, ClosingAct, closes, shuts, shuts_on, before_closing, after_closing, DataAct, takes_data, takes_idata, takes_forward, takes_iforward, before_data, after_data, SackAct, takes_sack, samples, counts_errors, point_of, before_sack, after_sack, SendingAct, asks, forces_ack, adds_ack, expires, adds_forward, forwards_later, asks_no_reset, asks_reset, adds_request, sends, sends_fast, before_sending, after_sending, TimeAct, advances, delay_ends, times_out, beats, times_init, times_cookie, times_request, times_items, wakes_request, before_time, after_time, CallAct, accepts, refuses, takes_message, sets_low_threshold, sets_priority, sets_max_message_size, before_call, after_call, ResetAct, prepares, defers, performs, processes, takes_response, adds_responses, before_reset, after_reset, HandoverAct, leaves, takes_up, before_handover, after_handover, InputAct, ends_packet, before_input, after_input, Preserves, HasNoEnd, PreservesUntilEnd}
use Rattle.proof_pair.proofs.EmittedLemmas.{is_no_packet_or_status, EmitsNoPacketOrStatus, emits_same, emits_all, emits_nack_all, emits_expired, emits_sack, emits_threshold, emits_sent, emits_prepared, emits_emptied, emits_refused}
use Rattle.proof_endpoint.proofs.ActsLemmas.{keeps_call}
use Rattle.proof_endpoint.proofs.EmitsLemmas.{endings_append}
use Rattle.spec_endpoint.specs.Opening.{restarted}

-- ---- acts that emit nothing of how the association stands

abbrev pub ActEmitsNoPacketOrStatus : {P : Type 0} → (before after : EndWithPacket P) → Type 0
ActEmitsNoPacketOrStatus a b = EmitsNoPacketOrStatus a.context.emitted b.context.emitted

outcome_emits_no_packet_or_status : {P : Type 0} (o : Outcome) (c : Context P) → EmitsNoPacketOrStatus c.emitted (on_outcome o c).emitted
outcome_emits_no_packet_or_status Unsettled c = emits_same c.emitted
outcome_emits_no_packet_or_status (Done streams) c = emits_all (OnStreamsResetPerformed streams ∷ []) c.emitted refl
outcome_emits_no_packet_or_status (Denied streams) c = emits_all (OnStreamsResetFailed streams ∷ []) c.emitted refl

module _ {P : Type 0} {call : Call} where
  pub data_act_emits_no_packet_or_status : (act : DataAct P call) → ActEmitsNoPacketOrStatus (before_data act) (after_data act)
  data_act_emits_no_packet_or_status (takes_data tag tsn is_immediate f phase t m received right some is) = emits_same m.context.emitted
  data_act_emits_no_packet_or_status (takes_idata tag tsn is_immediate f phase t m received right some is) = emits_same m.context.emitted
  data_act_emits_no_packet_or_status (takes_forward tag tsn skipped phase t m received right valid) = emits_same m.context.emitted
  data_act_emits_no_packet_or_status (takes_iforward tag tsn skipped phase t m received right valid) = emits_same m.context.emitted

  pub sack_act_emits_no_packet_or_status : (act : SackAct P call) → ActEmitsNoPacketOrStatus (before_sack act) (after_sack act)
  sack_act_emits_no_packet_or_status (takes_sack tag k phase t m received valid) = emits_sack true (point_of k t) (clean_blocks k.gap_ack_blocks) t.sender m.context.emitted
  sack_act_emits_no_packet_or_status (samples r phase t m) = emits_same m.context.emitted
  sack_act_emits_no_packet_or_status (counts_errors e m) = emits_same m.context.emitted

  pub sending_act_emits_no_packet_or_status : (act : SendingAct P call) → ActEmitsNoPacketOrStatus (before_sending act) (after_sending act)
  sending_act_emits_no_packet_or_status (expires phase t m) = emits_expired m.context.now t.sender.outstanding.items m.context.emitted
  sending_act_emits_no_packet_or_status (sends phase t m) = emits_sent m.context.now (room m.packet) t.sender m.context.queue m.context.emitted
  sending_act_emits_no_packet_or_status (asks also_if_delayed phase t m) = emits_same m.context.emitted
  sending_act_emits_no_packet_or_status (forces_ack phase t m) = emits_same m.context.emitted
  sending_act_emits_no_packet_or_status (adds_ack phase t m) = emits_same m.context.emitted
  sending_act_emits_no_packet_or_status (adds_forward phase t m due) = emits_same m.context.emitted
  sending_act_emits_no_packet_or_status (forwards_later n m) = emits_same m.context.emitted
  sending_act_emits_no_packet_or_status (asks_no_reset most m none) = emits_same m.context.emitted
  sending_act_emits_no_packet_or_status (asks_reset most stream streams phase t m some free) = emits_same m.context.emitted
  sending_act_emits_no_packet_or_status (adds_request r phase t m is) = emits_same m.context.emitted
  sending_act_emits_no_packet_or_status (sends_fast phase t m some) = emits_same m.context.emitted

  pub time_act_emits_no_packet_or_status : (act : TimeAct P call) → ActEmitsNoPacketOrStatus (before_time act) (after_time act)
  time_act_emits_no_packet_or_status (times_out phase t m due) = emits_nack_all t.sender.outstanding.items m.context.emitted
  time_act_emits_no_packet_or_status (advances now m is on) = emits_same m.context.emitted
  time_act_emits_no_packet_or_status (delay_ends phase t m) = emits_same m.context.emitted
  time_act_emits_no_packet_or_status (beats h m) = emits_same m.context.emitted
  time_act_emits_no_packet_or_status (times_init tag first old new m) = emits_same m.context.emitted
  time_act_emits_no_packet_or_status (times_cookie old new cookie t m) = emits_same m.context.emitted
  time_act_emits_no_packet_or_status (times_request timer phase t m) = emits_same m.context.emitted
  time_act_emits_no_packet_or_status (times_items timer phase t m) = emits_same m.context.emitted
  time_act_emits_no_packet_or_status (wakes_request phase t m) = emits_same m.context.emitted

  pub call_act_emits_no_packet_or_status : (act : CallAct P call) → ActEmitsNoPacketOrStatus (before_call act) (after_call act)
  call_act_emits_no_packet_or_status (accepts message o m offered fine) = emits_same m.context.emitted
  call_act_emits_no_packet_or_status (refuses message o e m offered is) = emits_refused e o.lifecycle_id m.context.emitted
  call_act_emits_no_packet_or_status (takes_message phase t m is) = emits_same m.context.emitted
  call_act_emits_no_packet_or_status (sets_low_threshold stream bytes m is) = emits_threshold stream bytes m.context.queue m.context.emitted
  call_act_emits_no_packet_or_status (sets_priority stream priority m is) = emits_same m.context.emitted
  call_act_emits_no_packet_or_status (sets_max_message_size bytes m is) = emits_same m.context.emitted

  pub reset_act_emits_no_packet_or_status : (act : ResetAct P call) → ActEmitsNoPacketOrStatus (before_reset act) (after_reset act)
  reset_act_emits_no_packet_or_status (prepares stream phase t m asked can) = emits_prepared stream m.context.queue m.context.emitted
  reset_act_emits_no_packet_or_status (performs number response last_tsn streams phase t m asked known there) =
      emits_all (OnIncomingStreamReset (numbers_of streams) ∷ []) m.context.emitted refl
  reset_act_emits_no_packet_or_status (takes_response rto number result sender receiver phase t m asked) = outcome_emits_no_packet_or_status (outcome number result t.requests.current) m.context
  reset_act_emits_no_packet_or_status (defers number response last_tsn streams phase t m asked known ahead) = emits_same m.context.emitted
  reset_act_emits_no_packet_or_status (processes number streams phase t m asked known) = emits_same m.context.emitted
  reset_act_emits_no_packet_or_status (adds_responses responses phase t m are answers) = emits_same m.context.emitted

  pub input_act_emits_no_packet_or_status : (act : InputAct P call) → ActEmitsNoPacketOrStatus (before_input act) (after_input act)
  input_act_emits_no_packet_or_status (ends_packet phase t m) = emits_same m.context.emitted

-- ---- an association is over

module _ {P : Type 0} where
  -- what waits is given up behind the event that says so
  pub over_gives_up : (e : Event P) (c : Context P) → EmitsNoPacketOrStatus (ended e c).emitted (over e c).emitted
  over_gives_up e c = emits_emptied c.options.avoid_stalls c.queue (ended e c).emitted

  pub over_emits : (e : Event P) (c : Context P) → (over e c).emitted.events ≡ c.emitted.events ++ e ∷ (over_gives_up e c).events
  over_emits e c = (over_gives_up e c).behind ∙ append_assoc c.emitted.events (e ∷ []) (over_gives_up e c).events

  -- before the event of a restart
  pub restart_gives_up : (c : Context P) → EmitsNoPacketOrStatus c.emitted (emptied_if c.options.avoid_stalls c).emitted
  restart_gives_up c = emits_emptied c.options.avoid_stalls c.queue c.emitted

  pub restart_emits : (c : Context P)
      → (restarted c).emitted.events ++ OnConnected ∷ [] ≡ c.emitted.events ++ ((restart_gives_up c).events ++ OnConnectionRestarted ∷ OnConnected ∷ [])
  restart_emits c =
      let more : List (Event P) = (restart_gives_up c).events in
      let last : List (Event P) = OnConnectionRestarted ∷ OnConnected ∷ [] in
      append_assoc (emptied_if c.options.avoid_stalls c).emitted.events (OnConnectionRestarted ∷ []) (OnConnected ∷ [])
      ∙ (ap (λ (es : List (Event P)). es ++ last) (restart_gives_up c).behind ∙ append_assoc c.emitted.events more last)

-- ---- what was emitted stands

pub record Grows {P : Type 0} (before after : EndWithPacket P) : Type 0 where
  pub events : List (Event P)
  pub behind : after.context.emitted.events ≡ before.context.emitted.events ++ events

module _ {P : Type 0} where
  pub grows_if_no_packet_or_status : (a b : EndWithPacket P) → ActEmitsNoPacketOrStatus a b → Grows a b
  grows_if_no_packet_or_status a b h = record { events = h.events; behind = h.behind }

  grows_same : (a b : EndWithPacket P) → b.context.emitted.events ≡ a.context.emitted.events → Grows a b
  grows_same a b e = record { events = []; behind = e ∙ sym (append-nil a.context.emitted.events) }

  grows_one : (e : Event P) (a b : EndWithPacket P) → b.context.emitted.events ≡ a.context.emitted.events ++ e ∷ [] → Grows a b
  grows_one e a b is = record { events = e ∷ []; behind = is }

  grows_through : (a b c : EndWithPacket P) → Grows a b → Grows b c → Grows a c
  grows_through a b c g h = record {
    events = g.events ++ h.events;
    behind = h.behind ∙ (ap (λ (es : List (Event P)). es ++ h.events) g.behind ∙ append_assoc a.context.emitted.events g.events h.events);
  }

module _ {P : Type 0} {call : Call} where
  grows_packets : (act : PacketAct P call) → Grows (before_packets act) (after_packets act)
  grows_packets (begins p m new summed to) = grows_same m (after_packets {call = call} (begins p m new summed to)) refl
  grows_packets (adds_plain chunk m plain others fair) = grows_same m (after_packets {call = call} (adds_plain chunk m plain others fair)) refl
  grows_packets (emits m some bundled) = grows_one _ m (after_packets {call = call} (emits m some bundled)) refl
  grows_packets (emits_error kind text m) = grows_one (OnError kind text) m (after_packets {call = call} (emits_error kind text m)) refl
  grows_packets (counts m) = grows_same m (after_packets {call = call} (counts m)) refl

  grows_opening : (act : OpeningAct P call) → Grows (before_opening act) (after_opening act)
  grows_opening (connects m is) = record { events = []; behind = sym (append-nil m.context.emitted.events) }
  grows_opening (adds_init tag first t1 m to) = record { events = []; behind = sym (append-nil m.context.emitted.events) }
  grows_opening (answers_new tag i m received to) = record { events = []; behind = sym (append-nil m.context.emitted.events) }
  grows_opening (answers_waiting tag i my_tag first t1 m received to) = record { events = []; behind = sym (append-nil m.context.emitted.events) }
  grows_opening (answers_echoed tag i t1 cookie t m received to) = record { events = []; behind = sym (append-nil m.context.emitted.events) }
  grows_opening (answers_again tag i phase t m received late to) = record { events = []; behind = sym (append-nil m.context.emitted.events) }
  grows_opening (echoes tag i cookie my_tag first t1 m received brought) = record { events = []; behind = sym (append-nil m.context.emitted.events) }
  grows_opening (adds_cookie t1 cookie t m to) = record { events = []; behind = sym (append-nil m.context.emitted.events) }
  grows_opening (establishes tag t1 cookie t m received) = record { events = OnConnected ∷ []; behind = refl }
  grows_opening (opens tag k m echoed none own) = record { events = OnConnected ∷ []; behind = refl }
  grows_opening (restarts tag k phase t m echoed resolution) = record {
    events = (restart_gives_up m.context).events ++ OnConnectionRestarted ∷ OnConnected ∷ [];
    behind = restart_emits m.context;
  }
  grows_opening (opens_again tag k phase t m echoed resolution) = record { events = OnConnected ∷ []; behind = refl }
  grows_opening (maintains tag k t1 cookie t m echoed resolution) = record { events = OnConnected ∷ []; behind = refl }
  grows_opening (adds_cookie_ack tag back phase t m echoed late) = record { events = []; behind = sym (append-nil m.context.emitted.events) }

  grows_closing : (act : ClosingAct P call) → Grows (before_closing act) (after_closing act)
  grows_closing (closes e m there is) = record { events = e ∷ (over_gives_up e m.context).events; behind = over_emits e m.context }
  grows_closing (shuts phase t m is early) = record { events = []; behind = sym (append-nil m.context.emitted.events) }
  grows_closing (shuts_on phase next t m late later) = record { events = []; behind = sym (append-nil m.context.emitted.events) }

  grows_handover : (act : HandoverAct P call) → Grows (before_handover act) (after_handover act)
  grows_handover (leaves phase t m is) = record { events = OnClosed ∷ []; behind = refl }
  grows_handover (takes_up h m is valid) = record { events = OnConnected ∷ []; behind = refl }

-- ---- no end so far

module _ {P : Type 0} where
  -- none before either
  pub none_before : (a b : EndWithPacket P) → Grows a b → HasNoEnd b → HasNoEnd a
  none_before a b g h = omega (arith, ap endings g.behind, endings_append a.context.emitted.events g.events, h)

  -- an end that is emitted is one
  pub no_end : (a b : EndWithPacket P) (e : Event P) → b.context.emitted.events ≡ a.context.emitted.events ++ e ∷ [] → ending e ≡ 1 → HasNoEnd b → ⊥
  no_end a b e is one h = omega (arith, ap endings is, endings_append a.context.emitted.events (e ∷ []), one, h)

  pub no_end_over : (e : Event P) (m : EndWithPacket P) → ending e ≡ 1 → HasNoEnd (in_state Closed (with_context (over e m.context) m)) → ⊥
  no_end_over e m one h =
      let more : List (Event P) = (over_gives_up e m.context).events in
      omega (arith, ap endings (over_emits e m.context), endings_append m.context.emitted.events (e ∷ more), one, h)

  -- as long as there is none
  abbrev pub Until : (EndWithPacket P → EndWithPacket P → Type 0) → EndWithPacket P → EndWithPacket P → Type 0
  Until R a b = Grows a b × (HasNoEnd b → R a b)

  module _ {call : Call} {R : EndWithPacket P → EndWithPacket P → Type 0} (k : PreservesUntilEnd call R) where
    goes_through : (a b c : EndWithPacket P) → Until R a b → Until R b c → Until R a c
    goes_through a b c g h = (grows_through a b c g.0 h.0, λ none. k.through (g.1 (none_before b c h.0 none)) (h.1 none))

    pub frame : Preserves call (Until R)
    frame = record {
      same = λ m. (grows_same m m refl, λ none. k.same m);
      through = λ {a} {b} {c}. goes_through a b c;
      packets = λ act. (grows_packets act, k.packets act);
      opening = λ act. (grows_opening act, k.opening act);
      closing = λ act. (grows_closing act, k.closing act);
      data_acts = λ act. (grows_if_no_packet_or_status (before_data act) (after_data act) (data_act_emits_no_packet_or_status act), k.data_acts act);
      acknowledging = λ act. (grows_if_no_packet_or_status (before_sack act) (after_sack act) (sack_act_emits_no_packet_or_status act), k.acknowledging act);
      sending = λ act. (grows_if_no_packet_or_status (before_sending act) (after_sending act) (sending_act_emits_no_packet_or_status act), k.sending act);
      time = λ act. (grows_if_no_packet_or_status (before_time act) (after_time act) (time_act_emits_no_packet_or_status act), k.time act);
      calls = λ act. (grows_if_no_packet_or_status (before_call act) (after_call act) (call_act_emits_no_packet_or_status act), k.calls act);
      resets = λ act. (grows_if_no_packet_or_status (before_reset act) (after_reset act) (reset_act_emits_no_packet_or_status act), k.resets act);
      handover = λ act. (grows_handover act, k.handover act);
      input = λ act. (grows_if_no_packet_or_status (before_input act) (after_input act) (input_act_emits_no_packet_or_status act), k.input act);
    }

-- What each act preserves as long as no association has ended, each call preserves that emits no end.
pub until_end : {P : Type 0} (call : Call) {R : EndWithPacket P → EndWithPacket P → Type 0} → PreservesUntilEnd call R → (s : Endpoint P) → HasNoEnd (calm (called call s))
    → R (calm s) (calm (called call s))
until_end call k s none = (keeps_call call (frame k) s).1 none

-- ---- where an end is emitted, up to there

-- an end at work that has emitted no association over, and what is emitted then in the same call
pub record FirstEnd {P : Type 0} (R : EndWithPacket P → EndWithPacket P → Type 0) (a b : EndWithPacket P) : Type 0 where
  pub here : EndWithPacket P
  pub none : HasNoEnd here
  pub kept : R a here
  pub event : Event P
  pub ends : ending event ≡ 1
  pub more : List (Event P)
  pub emitted : b.context.emitted.events ≡ here.context.emitted.events ++ event ∷ more

-- none is emitted, or there is a first one
abbrev pub ToFirstEnd : {P : Type 0} → (EndWithPacket P → EndWithPacket P → Type 0) → EndWithPacket P → EndWithPacket P → Type 0
ToFirstEnd R a b = (HasNoEnd b × R a b) ⊎ FirstEnd R a b

no_packet_or_status_has_no_end : {P : Type 0} (es : List (Event P)) → list_all is_no_packet_or_status es ≡ true → endings es ≡ 0
no_packet_or_status_has_no_end [] h = refl
no_packet_or_status_has_no_end (e ∷ es) h = let parts = and_parts (is_no_packet_or_status e) (list_all is_no_packet_or_status es) h in omega (arith, one e parts.0, no_packet_or_status_has_no_end es parts.1)
  where
    one : {P : Type 0} (e : Event P) → is_no_packet_or_status e ≡ true → ending e ≡ 0
    one OnClosed h = cc
    one (OnAborted kind text) h = cc
    one e h = refl

module _ {P : Type 0} {call : Call} {R : EndWithPacket P → EndWithPacket P → Type 0} (k : PreservesUntilEnd call R) where
  abbrev First : EndWithPacket P → EndWithPacket P → Type 0
  First a b = HasNoEnd a → ToFirstEnd R a b

  -- an act that emits these, none of them an end
  still : (a b : EndWithPacket P) (es : List (Event P)) → b.context.emitted.events ≡ a.context.emitted.events ++ es → endings es ≡ 0 → (HasNoEnd b → R a b) → First a b
  still a b es e none f h = let n : HasNoEnd b = omega (arith, ap endings e, endings_append a.context.emitted.events es, none, h) in inl (n, f n)

  first_if_no_packet_or_status : (a b : EndWithPacket P) → ActEmitsNoPacketOrStatus a b → (HasNoEnd b → R a b) → First a b
  first_if_no_packet_or_status a b l f = still a b l.events l.behind (no_packet_or_status_has_no_end l.events l.all) f

  first_through : (a b c : EndWithPacket P) → Grows b c → First a b → First b c → First a c
  first_through a b c grows f h none = go (f none)
    where
      go : ToFirstEnd R a b → ToFirstEnd R a c
      go (inl x) = later (h x.0)
        where
          later : ToFirstEnd R b c → ToFirstEnd R a c
          later (inl y) = inl (y.0, k.through x.1 y.1)
          later (inr y) = inr (record { here = y.here; none = y.none; kept = k.through x.1 y.kept; event = y.event; ends = y.ends; more = y.more; emitted = y.emitted })
      go (inr x) = inr (record {
        here = x.here;
        none = x.none;
        kept = x.kept;
        event = x.event;
        ends = x.ends;
        more = x.more ++ grows.events;
        emitted = grows.behind ∙ (ap (λ (es : List (Event P)). es ++ grows.events) x.emitted ∙ append_assoc x.here.context.emitted.events (x.event ∷ x.more) grows.events);
      })

  -- an act that ends it
  over_by : (a b : EndWithPacket P) (e : Event P) (more : List (Event P)) → b.context.emitted.events ≡ a.context.emitted.events ++ e ∷ more → ending e ≡ 1 → First a b
  over_by a b e more emitted_is is none = inr (record { here = a; none = none; kept = k.same a; event = e; ends = is; more = more; emitted = emitted_is })

  first_packets : (act : PacketAct P call) → First (before_packets act) (after_packets act)
  unfolding grows_packets grows_same grows_one
  first_packets act = still (before_packets act) (after_packets act) (grows_packets act).events (grows_packets act).behind (quiet act) (k.packets act)
    where
      quiet : (act : PacketAct P call) → endings (grows_packets act).events ≡ 0
      quiet (begins p m new summed to) = refl
      quiet (adds_plain chunk m plain others fair) = refl
      quiet (emits m some bundled) = refl
      quiet (emits_error kind text m) = refl
      quiet (counts m) = refl

  first_opening : (act : OpeningAct P call) → First (before_opening act) (after_opening act)
  unfolding grows_opening
  first_opening act = still (before_opening act) (after_opening act) (grows_opening act).events (grows_opening act).behind (quiet act) (k.opening act)
    where
      quiet : (act : OpeningAct P call) → endings (grows_opening act).events ≡ 0
      quiet (connects m is) = refl
      quiet (adds_init tag first t1 m to) = refl
      quiet (answers_new tag i m received to) = refl
      quiet (answers_waiting tag i my_tag first t1 m received to) = refl
      quiet (answers_echoed tag i t1 cookie t m received to) = refl
      quiet (answers_again tag i phase t m received late to) = refl
      quiet (echoes tag i cookie my_tag first t1 m received brought) = refl
      quiet (adds_cookie t1 cookie t m to) = refl
      quiet (establishes tag t1 cookie t m received) = refl
      quiet (opens tag c m echoed none own) = refl
      quiet (restarts tag c phase t m echoed resolution) =
          let l : EmitsNoPacketOrStatus m.context.emitted (emptied_if m.context.options.avoid_stalls m.context).emitted = restart_gives_up m.context in
          omega (arith, endings_append l.events (OnConnectionRestarted ∷ OnConnected ∷ []), no_packet_or_status_has_no_end l.events l.all)
      quiet (opens_again tag c phase t m echoed resolution) = refl
      quiet (maintains tag c t1 cookie t m echoed resolution) = refl
      quiet (adds_cookie_ack tag back phase t m echoed late) = refl

  first_closing : (act : ClosingAct P call) → First (before_closing act) (after_closing act)
  unfolding grows_closing
  first_closing (closes e m there is) = over_by m (after_closing {call = call} (closes e m there is)) e (over_gives_up e m.context).events (over_emits e m.context) is
  first_closing (shuts phase t m is early) =
      let act : ClosingAct P call = shuts phase t m is early in still (before_closing act) (after_closing act) [] (grows_closing act).behind refl (k.closing act)
  first_closing (shuts_on phase next t m late later) =
      let act : ClosingAct P call = shuts_on phase next t m late later in still (before_closing act) (after_closing act) [] (grows_closing act).behind refl (k.closing act)

  first_handover : (act : HandoverAct P call) → First (before_handover act) (after_handover act)
  first_handover (leaves phase t m is) =
      let act : HandoverAct P call = leaves phase t m is in over_by (before_handover act) (after_handover act) OnClosed [] refl refl
  first_handover (takes_up h m is valid) =
      let act : HandoverAct P call = takes_up h m is valid in still (before_handover act) (after_handover act) (OnConnected ∷ []) refl refl (k.handover act)

  first_frame : Preserves call (λ a b. Grows a b × First a b)
  first_frame = record {
    same = λ m. (grows_same m m refl, λ none. inl (none, k.same m));
    through = λ {a} {b} {c} g h. (grows_through a b c g.0 h.0, first_through a b c h.0 g.1 h.1);
    packets = λ act. (grows_packets act, first_packets act);
    opening = λ act. (grows_opening act, first_opening act);
    closing = λ act. (grows_closing act, first_closing act);
    data_acts = λ act. (grows_if_no_packet_or_status (before_data act) (after_data act) (data_act_emits_no_packet_or_status act), first_if_no_packet_or_status (before_data act) (after_data act) (data_act_emits_no_packet_or_status act) (k.data_acts act));
    acknowledging = λ act. (grows_if_no_packet_or_status (before_sack act) (after_sack act) (sack_act_emits_no_packet_or_status act), first_if_no_packet_or_status (before_sack act) (after_sack act) (sack_act_emits_no_packet_or_status act) (k.acknowledging act));
    sending = λ act. (grows_if_no_packet_or_status (before_sending act) (after_sending act) (sending_act_emits_no_packet_or_status act), first_if_no_packet_or_status (before_sending act) (after_sending act) (sending_act_emits_no_packet_or_status act) (k.sending act));
    time = λ act. (grows_if_no_packet_or_status (before_time act) (after_time act) (time_act_emits_no_packet_or_status act), first_if_no_packet_or_status (before_time act) (after_time act) (time_act_emits_no_packet_or_status act) (k.time act));
    calls = λ act. (grows_if_no_packet_or_status (before_call act) (after_call act) (call_act_emits_no_packet_or_status act), first_if_no_packet_or_status (before_call act) (after_call act) (call_act_emits_no_packet_or_status act) (k.calls act));
    resets = λ act. (grows_if_no_packet_or_status (before_reset act) (after_reset act) (reset_act_emits_no_packet_or_status act), first_if_no_packet_or_status (before_reset act) (after_reset act) (reset_act_emits_no_packet_or_status act) (k.resets act));
    handover = λ act. (grows_handover act, first_handover act);
    input = λ act. (grows_if_no_packet_or_status (before_input act) (after_input act) (input_act_emits_no_packet_or_status act), first_if_no_packet_or_status (before_input act) (after_input act) (input_act_emits_no_packet_or_status act) (k.input act));
  }

-- What each act preserves as long as no association has ended, each call preserves up to the first end that it emits.
pub until_first_end : {P : Type 0} (call : Call) {R : EndWithPacket P → EndWithPacket P → Type 0} → PreservesUntilEnd call R → (s : Endpoint P) → HasNoEnd (calm s)
    → ToFirstEnd R (calm s) (calm (called call s))
until_first_end call k s none = (keeps_call call (first_frame k) s).1 none
