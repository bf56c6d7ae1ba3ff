-- Resets of the own streams, act by act: a stream is prepared, those that are ready go into a request, and they have its answer
-- (RFC 6525 section 5.1.2).
use Rattle.std.proofs.Common.{◌≡◌, ℕ, suc, ◌+◌, ◌-◌, ◌<◌, ◌≤◌, Bool, true, false, cond, inl, inr, Option, Some, None, List, [], ◌∷◌, ◌++◌, length, map, refl, sym, ap, ◌∙◌, subst, arith, append-nil, length-append}
use Rattle.std.specs.Prelude.{◌&&◌, ◌||◌, ◌==◌, slice_get}
use Rattle.std.specs.List.{list_all}
use Rattle.std.proofs.lemmas.Bool.{cases_eq, eq-eqb, ne_eqb}
use Rattle.std.proofs.lemmas.List.Elements.{All-nil, All-cons}
use Rattle.std.proofs.lemmas.List.Folds.{list_all-append}
use Rattle.std.proofs.lemmas.Option.{same_Some, slice_get_within}
use Rattle.sctp_serial.specs.Unwrapped.{origin, u32_space, wire}
use Rattle.sctp_serial.specs.declared.types.tsn.Tsn.{Tsn}
use Rattle.sctp_wire.specs.Parameter.{ParameterTree, outgoing_reset_request, reset_response}
use Rattle.sctp_state.specs.Events.{Event, OnStreamsResetPerformed, Emitted, emit_events, emit_given_up, expired_events}
use Rattle.sctp_state.specs.RetransmissionTimeout as rtt
use Rattle.sctp_state.specs.declared.api.GivenUpCause.TheVariants.{Reset}
use Rattle.sctp_tx_queue.specs.declared.send_queue.stream.PauseState.{PauseState}
use Rattle.sctp_tx_queue.specs.declared.send_queue.stream.PauseState.TheVariants.{NotPaused, Pending, Paused, Resetting}
use Rattle.sctp_tx_queue.specs.SendQueue.{Queue, Queued, stream}
use Rattle.sctp_tx_queue.specs.Resets.{is_partly, emit_unsent, prepare_reset, streams_to_request, request_resets, commit_resets}
use Rattle.sctp_tx_outstanding.specs.OutstandingData.{begin_reset}
use Rattle.proof_protocol.specs.State.{Message, Transfer, IsAmong, has, count}
use Rattle.proof_protocol.specs.Rules.{TransferEvent as RuleEvent}
use Rattle.proof_protocol.specs.Resets.{Epochs, transfers, restarts, send_request, commit, MayAll, go_all}
use Rattle.proof_protocol.proofs.ToolsLemmas.{not_both, has_from}
use Rattle.proof_protocol.proofs.CommonLemmas.{get_last}
use Rattle.proof_refines.specs.SenderRefinement.{SenderRefines}
use Rattle.proof_refines.specs.Asked.{Raises, AreRequested}
use Rattle.proof_refines.specs.Following.{FollowsEpochs}
use Rattle.proof_refines.specs.Reachable.{is_sending, given_up_places, recorded_places, delivered_ids}
use Rattle.proof_refines.specs.Pauses.{IsPausedAs, unsent_of, give_up_rules, opens_next, prepare_events}
use Rattle.proof_refines.specs.Rows.{restart_numbers}
use Rattle.proof_refines.proofs.AskedLemmas.{prepare_asked, each_asked, requested_asked, answered_open}
use Rattle.proof_refines.proofs.BreakLemmas.{next_counted}
use Rattle.proof_refines.proofs.FollowLemmas.{preparing_follows, requesting_follows, answering_follows}
use Rattle.proof_refines.proofs.OpenedLemmas.{prepared_raises, requests_sent, answers_open}
use Rattle.proof_refines.proofs.RecordedLemmas.{prepares_lead}
use Rattle.proof_refines.proofs.ResetLemmas.{commits_row}
use Rattle.proof_refines.proofs.SackLemmas.{delivered_more}
use Rattle.spec_endpoint.specs.Association.{Tcb, Phase}
use Rattle.spec_endpoint.specs.ResetRequests.{Request, Requests, Outcome, Done, ids, next_number, request_chunk, start_request, outcome, handle_response, is_final}
use Rattle.spec_endpoint.specs.StreamReset as resets
use Rattle.spec_endpoint.specs.StreamReset.{on_outcome}
use Rattle.spec_endpoint.specs.Sending.{last_assigned, add_reset_breakpoint, request_started}
use Rattle.spec_endpoint.specs.Laws.{Call}
use Rattle.proof_endpoint.specs.Mapped.{Carried}
use Rattle.proof_endpoint.specs.Acts.{EndWithPacket, in_open, with_context, with_chunk, IsAsked}
use Rattle.spec_endpoint.specs.Packets.{packets_in}
use Rattle.proof_pair.proofs.JoinActsLemmas.{Setting, InvAt, packets_both}
use Rattle.proof_pair.proofs.EmittedLemmas.{emits_prepared}
use Rattle.proof_delivery.specs.Asks.{ResetRequest, SaysOutgoing, SaysDone, number_of, last_tsn_of, IsRequestOf, IsAsking, NoneCurrent}
use Rattle.proof_delivery.specs.StreamEpochs.{StreamEpoch, are_named, shut_if, shut_streams, reopen, performed_of}
use Rattle.proof_delivery.proofs.AnswersLemmas.{number_after, response_settles}
use Rattle.proof_delivery.proofs.AsksLemmas.{ask_is_sent, ask_is_answered}
use Rattle.proof_delivery.proofs.ClaimLemmas.{Direction, transfer_of, of_transfer, goes_out, IsKept, GoesOn, SaysOut, AreSo, SenderClaim, SenderGoes, SenderPremises}
use Rattle.proof_delivery.proofs.ReadingSackLemmas.{answer_is_received}
use Rattle.proof_delivery.proofs.ResetEventsLemmas.{resets_prepared, performed_both, named_both, none_failed_both}
use Rattle.proof_delivery.proofs.SenderAsksLemmas.{asking_stays, asking_unsettled, done_ends, named_later, named_more, so_opened}
use Rattle.proof_delivery.proofs.SenderStaysLemmas.{emits_nothing, goes_saying, goes_open}
use Rattle.proof_delivery.proofs.SenderToolLemmas.{transfer_more, of_transfers, all_transfers, goes_grows, same_packets, reports_none, asked_still, EmitsNoAnswer, no_answer, emits_no_answer, step_claims}

-- ---- a stream is prepared

-- what is emitted of the messages that are given up is no report
waiting_reports : (ms : List Queued) (t : Emitted Carried) → delivered_ids (emit_unsent ms t).events ≡ delivered_ids t.events
waiting_reports [] t = refl
waiting_reports (m ∷ ms) t = go (is_partly m) (waiting_reports ms)
  where
    said : Emitted Carried
    said = emit_events (expired_events m.lifecycle) (emit_given_up m.number Reset t)

    none : (l : Option ℕ) → delivered_ids (expired_events {P = Carried} l) ≡ []
    none None = refl
    none (Some id) = refl

    go : (b : Bool) → ((u : Emitted Carried) → delivered_ids (emit_unsent ms u).events ≡ delivered_ids u.events)
        → (let u : Emitted Carried = cond b t said in delivered_ids (emit_unsent ms u).events) ≡ delivered_ids t.events
    go true ih = ih t
    go false ih = ih said ∙ (delivered_more t.events (expired_events m.lifecycle) ∙ (ap (λ (ids : List ℕ). delivered_ids t.events ++ ids) (none m.lifecycle) ∙ append-nil (delivered_ids t.events)))

-- how its stream stands, where this is so of the epochs
abbrev IsSo : StreamEpoch → (raised opened : ℕ) → Type 0
IsSo e raised opened = (e.epoch ≡ raised) × (e.is_open ≡ true → raised ≡ opened) × (e.is_open ≡ false → raised ≡ suc opened)

-- a stream that was open waits now, and one that waits goes on to
shuts : (named is_open : Bool) (e : StreamEpoch) (raised opened later : ℕ) → e.is_open ≡ is_open → (raised ≡ opened → later ≡ suc raised) → (raised ≡ suc opened → later ≡ raised)
    → IsSo (shut_if (named && is_open) e) raised opened → IsSo (shut_if (true && is_open) e) later opened
shuts true true e raised opened later i opens waits h =
    let r = h.2 refl in
    let l = waits r in
    (h.0 ∙ sym l, λ g. cc, λ g. l ∙ r)
shuts true false e raised opened later i opens waits h =
    let r = h.2 i in
    let l = waits r in
    (h.0 ∙ sym l, λ g. l ∙ h.1 g, λ g. l ∙ r)
shuts false true e raised opened later i opens waits h =
    let r = h.1 i in
    let l = opens r in
    let epoch = h.0 in
    (omega (arith, l, epoch), λ g. cc, λ g. l ∙ ap suc r)
shuts false false e raised opened later i opens waits h =
    let r = h.2 i in
    let l = waits r in
    (h.0 ∙ sym l, λ g. l ∙ h.1 g, λ g. l ∙ r)

named_last : (s id : ℕ) (ids : List ℕ) (b : Bool) → (id == s) ≡ b → are_named (ids ++ id ∷ []) s ≡ (b || are_named ids s)
named_last s id ids b e = named_more s ids (id ∷ []) ∙ (ap (λ (c : Bool). are_named ids s || (c || false)) e ∙ swap (are_named ids s) b)
  where
    swap : (a b : Bool) → (a || (b || false)) ≡ (b || a)
    swap true true = refl
    swap true false = refl
    swap false true = refl
    swap false false = refl

so_shut : (x y : Epochs) (q : Queue) (id : ℕ) (ids : List ℕ) (f : ℕ → StreamEpoch) → Raises x y q id → IsPausedAs x id (stream id q.streams)
    → AreSo (reopen [] (shut_streams ids f)) x → AreSo (reopen [] (shut_streams (ids ++ id ∷ []) f)) y
so_shut x y q id ids f w paused h s = elim (cases_eq s id) [
  | inl e ↦ subst (λ (k : ℕ). IsSo (shut_if (are_named (ids ++ id ∷ []) k && (f k).is_open) (f k)) (y.raised k) (y.opened k)) (sym e) here
  | inr d ↦
      let named : are_named (ids ++ id ∷ []) s ≡ are_named ids s = named_last s id ids false (ne_eqb id s (λ e. d (sym e))) in
      let i = h s in
      let r = w.others s d in
      let o : y.opened s ≡ x.opened s = ap (λ (z : Epochs). z.opened s) w.rest in
      subst (λ (b : Bool). IsSo (shut_if (b && (f s).is_open) (f s)) (y.raised s) (y.opened s)) (sym named) (i.0 ∙ sym r, λ g. r ∙ (i.1 g ∙ sym o), λ g. r ∙ (i.2 g ∙ ap suc (sym o)))
]
  where
    same_opened : y.opened id ≡ x.opened id
    same_opened = ap (λ (z : Epochs). z.opened id) w.rest

    Follows : Type 0
    Follows = (x.raised id ≡ x.opened id → y.raised id ≡ suc (x.raised id)) × (x.raised id ≡ suc (x.opened id) → y.raised id ≡ x.raised id)

    waits : ((stream id q.streams).pause ≡ NotPaused → ⊥) → Follows
    waits n = (λ r. let o = paused.shut n in absurd (omega (arith, r, o)), λ r. ap (λ (g : ℕ → ℕ). g id) (w.waits n))

    by_pause : (p : PauseState) → (stream id q.streams).pause ≡ p → Follows
    by_pause NotPaused e = (λ r. w.opens e, λ r. let o = paused.flows e in absurd (omega (arith, r, o)))
    by_pause Pending e = waits (λ c. cc)
    by_pause Paused e = waits (λ c. cc)
    by_pause Resetting e = waits (λ c. cc)

    here : IsSo (shut_if (are_named (ids ++ id ∷ []) id && (f id).is_open) (f id)) (y.raised id) (y.opened id)
    here =
        let p = by_pause (stream id q.streams).pause refl in
        let named : are_named (ids ++ id ∷ []) id ≡ true = named_last id id ids true (eq-eqb id id refl) in
        subst (λ (b : Bool). IsSo (shut_if (b && (f id).is_open) (f id)) (y.raised id) (y.opened id)) (sym named)
        (subst (λ (o : ℕ). IsSo (shut_if (true && (f id).is_open) (f id)) (y.raised id) o) (sym same_opened)
        (shuts (are_named ids id) (f id).is_open (f id) (x.raised id) (x.opened id) (y.raised id) refl p.0 p.1 (h id)))

module _ (message : ℕ → Message) (lifecycle : ℕ → Option ℕ) (is_interleaved : Bool) (from : Direction) where
  opens_goes : (p : PauseState) (id : ℕ) → list_all goes_out (opens_next p id) ≡ true
  opens_goes NotPaused id = refl
  opens_goes Pending id = refl
  opens_goes Paused id = refl
  opens_goes Resetting id = refl

  opens_alone : (p : PauseState) (id : ℕ) → of_transfer (opens_next p id) ≡ []
  opens_alone NotPaused id = refl
  opens_alone Pending id = refl
  opens_alone Paused id = refl
  opens_alone Resetting id = refl

  prepare_goes : (q : Queue) (id : ℕ) → list_all is_sending (give_up_rules (unsent_of q id)) ≡ true → list_all goes_out (prepare_events q id) ≡ true
  prepare_goes q id sends =
      list_all-append goes_out (map transfers (give_up_rules (unsent_of q id))) (opens_next (stream id q.streams).pause id)
      ∙ (ap (λ (b : Bool). b && list_all goes_out (opens_next (stream id q.streams).pause id)) (all_transfers goes_out is_sending (λ e h. h) (give_up_rules (unsent_of q id)) sends)
      ∙ opens_goes (stream id q.streams).pause id)

  prepare_gives : (q : Queue) (id : ℕ) → of_transfer (prepare_events q id) ≡ give_up_rules (unsent_of q id)
  prepare_gives q id =
      transfer_more (map transfers (give_up_rules (unsent_of q id))) (opens_next (stream id q.streams).pause id)
      ∙ (ap (λ (es : List RuleEvent). es ++ of_transfer (opens_next (stream id q.streams).pause id)) (of_transfers (give_up_rules (unsent_of q id)))
      ∙ (ap (λ (es : List RuleEvent). give_up_rules (unsent_of q id) ++ es) (opens_alone (stream id q.streams).pause id) ∙ append-nil (give_up_rules (unsent_of q id))))

  -- where no answer was emitted in this action
  pub prepares_claims : (ids : List ℕ) (id : ℕ) (phase : Phase) (t : Tcb) (m : EndWithPacket Carried) (x : Direction) → performed_of m.context.emitted.events ≡ []
      → SenderClaim message lifecycle is_interleaved from ids (in_open phase t m) x
      → (y : Direction) × SenderClaim message lifecycle is_interleaved from (ids ++ id ∷ []) (in_open phase t (with_context (resets.prepare_reset_stream id m.context) m)) y
  prepares_claims ids id phase t m x none a =
      let q = m.context.queue in
      let emitted = m.context.emitted in
      let later = (prepare_reset id q emitted).emitted in
      let r : Queue = (prepare_reset id q emitted).queue in
      let items = t.sender.outstanding.items in
      let kept = a.kept.epochs.order.kept in
      let z = preparing_follows message lifecycle is_interleaved x.rules q items kept a.shown.refines a.shown.follows id emitted in
      let l = prepares_lead message lifecycle is_interleaved (transfer_of x) q items kept a.shown.refines id emitted in
      let y : Direction = record x { rules = go_all message is_interleaved x.rules (prepare_events q id) } in
      let w : Raises x.rules y.rules q id = prepared_raises message is_interleaved x.rules q id in
      let leads : transfer_of y ≡ l.leads.after = z.transfer_is ∙ sym l.leads_to in
      let sends : list_all is_sending (give_up_rules (unsent_of q id)) ≡ true = subst (λ (es : List RuleEvent). list_all is_sending es ≡ true) l.gives_up l.leads.leads.sends in
      let goes : GoesOn message is_interleaved goes_out x y = record {
        events = prepare_events q id;
        may = z.may;
        all = prepare_goes q id sends;
        leads = refl;
        more = [];
        asks = sym (append-nil x.asks);
        further = 0;
        done = omega arith;
        answered = omega arith;
      } in
      let given : given_up_places (of_transfer (prepare_events q id)) ≡ l.leads.places = ap given_up_places (prepare_gives q id ∙ sym l.gives_up) ∙ l.leads.leads.given_up in
      let quiet : EmitsNoAnswer emitted.events later.events = no_answer emitted.events later.events (resets_prepared id q emitted) in
      let counted = quiet.counted in
      let b : EndWithPacket Carried = in_open phase t (with_context (resets.prepare_reset_stream id m.context) m) in (
        y,
        step_claims message lifecycle is_interleaved from ids (ids ++ id ∷ []) (in_open phase t m) b x y a (record {
          goes = goes;
          asked = asked_still x.rules y.rules x.asks x.done x.answered (ap (λ (e : Epochs). e.opened) w.rest) (ap (λ (e : Epochs). e.performed) w.rest) (ap (λ (e : Epochs). e.requests) w.rest)
              (goes_grows message is_interleaved goes_out x y a.kept.epochs goes).numbered a.kept.asked;
          done = refl;
          shown = record {
            refines = subst (λ (tr : Transfer). SenderRefines message lifecycle is_interleaved tr r items) (sym leads) l.leads.refines;
            follows = z.follows;
            first = a.shown.first;
            room = a.shown.room;
            asks = asking_stays t.identity.my_first x.answered x.asks q r t.requests (prepare_asked id q emitted) a.shown.asks;
          };
          since = λ n. n;
          given_up = l.leads.recorded ∙ ap (λ (ps : List ℕ). recorded_places emitted ++ ps) (sym given);
          reported = reports_none lifecycle (transfer_of x) (transfer_of y) emitted.events later.events (ap (λ (tr : Transfer). tr.reports) (leads ∙ l.leads.leads.rest_stays))
              (waiting_reports (stream id q.streams).messages emitted);
          resets = record {
            performed = omega (arith, counted);
            epochs = λ f h. subst (λ (ns : List ℕ). AreSo (reopen ns (shut_streams (ids ++ id ∷ []) f)) y.rules) (sym (quiet.named ∙ none))
                (so_shut x.rules y.rules q id ids f w (a.shown.follows.paused id) (subst (λ (ns : List ℕ). AreSo (reopen ns (shut_streams ids f)) x.rules) none h));
            none_failed = λ e. quiet.failed ∙ e;
          };
          first = refl;
          packets = same_packets emitted later (emits_prepared id q emitted);
          made = λ h. h;
        }),
      )

  -- nor is any emitted then
  pub prepared_answers : (id : ℕ) (m : EndWithPacket Carried) → performed_of m.context.emitted.events ≡ [] → performed_of (resets.prepare_reset_stream id m.context).emitted.events ≡ []
  prepared_answers id m none = (no_answer m.context.emitted.events (resets.prepare_reset_stream id m.context).emitted.events (resets_prepared id m.context.queue m.context.emitted)).named ∙ none

  -- ---- a request

  requests_go : (ids : List ℕ) → list_all goes_out (map send_request ids) ≡ true
  requests_go [] = refl
  requests_go (id ∷ ids) = requests_go ids

  requests_alone : (ids : List ℕ) → of_transfer (map send_request ids) ≡ []
  requests_alone [] = refl
  requests_alone (id ∷ ids) = requests_alone ids

  -- where none waits
  unasked : (first answered : ℕ) (asks : List ResetRequest) (q : Queue) (r : Requests) → IsAsking first answered asks q r → r.current ≡ None → (length asks ≡ answered) × NoneCurrent q r.current
  unasked first answered asks q r h free = elim h.current [ inl n ↦ n | inr c ↦ absurd (none_some r.current c.1.request free c.1.is) ]
    where
      none_some : (o : Option Request) (c : Request) → o ≡ None → o ≡ Some c → ⊥
      none_some o c e f = cc

  -- the new one waits
  asking_new : (first now rto last_tsn : ℕ) (asks : List ResetRequest) (a : ResetRequest) (q r : Queue) (rs : Requests) → rs.next ≡ number_of first (length asks) → NoneCurrent q rs.current → AreRequested q r a.streams
      → last_tsn ≡ wire u32_space first (origin + a.upto - 1) → IsAsking first (length asks) (asks ++ a ∷ []) r (start_request now rto last_tsn a.streams rs)
  asking_new first now rto last_tsn asks a q r rs next none k last =
      let more : length (asks ++ a ∷ []) ≡ suc (length asks) = (let e = length-append asks (a ∷ []) in omega (arith, e)) in
      record {
        next = ap next_number next ∙ (number_after first (length asks) ∙ ap (number_of first) (sym more));
        current = inr (
          more,
          record {
            ask = a;
            there = get_last asks a;
            request = record { number = rs.next; last_tsn = last_tsn; streams = a.streams; is_deferred = false };
            is = refl;
            says = record { number = next; last_tsn = last; streams = refl };
            resetting = k.asked;
            others = λ s e. elim (k.others s e) [ inl h ↦ h | inr b ↦ absurd (none.resetting s b) ];
          },
        );
      }

  pub asks_reset_keeps : IsKept message is_interleaved from → (most first_of : ℕ) (others : List ℕ) (phase : Phase) (t : Tcb) (m : EndWithPacket Carried) → streams_to_request most m.context.queue ≡ first_of ∷ others → t.requests.current ≡ None
      → SenderGoes message lifecycle is_interleaved from (in_open phase t m)
      (in_open phase (request_started m.context.now (first_of ∷ others) t) (with_context (record m.context { queue = request_resets most m.context.queue }) m))
  asks_reset_keeps before most first_of others phase t m some free prepared x claim =
      let q = m.context.queue in
      let r : Queue = request_resets most q in
      let es = m.context.emitted.events in
      let items = t.sender.outstanding.items in
      let kept = claim.kept.epochs.order.kept in
      let first = t.identity.my_first in
      let h = claim.shown in
      let z = requesting_follows message lifecycle is_interleaved x.rules q items kept h.refines h.follows most in
      let k = subst (AreRequested q r) some (requested_asked q most h.follows.keyed) in
      let none = unasked first x.answered x.asks q t.requests h.asks free in
      let all = none.0 in
      let a : ResetRequest = record { streams = first_of ∷ others; upto = count (transfer_of x).sender } in
      let rules : Epochs = go_all message is_interleaved x.rules (map send_request (first_of ∷ others)) in
      let y : Direction = record { rules = rules; asks = x.asks ++ a ∷ []; done = x.done; answered = x.answered } in
      let same : go_all message is_interleaved x.rules (map send_request (streams_to_request most q)) ≡ rules = ap (λ (ids : List ℕ). go_all message is_interleaved x.rules (map send_request ids)) some in
      let transfer_is : transfer_of y ≡ transfer_of x = ap (λ (e : Epochs). e.transfer) (sym same) ∙ z.transfer_is in
      let w = requests_sent message is_interleaved (first_of ∷ others) x.rules in
      let raised : (s : ℕ) → has s a.streams ≡ true → x.rules.raised s ≡ suc (x.rules.opened s) = λ s e. (h.follows.paused s).shut (λ c. paused_flows (sym (k.ready s e) ∙ c)) in
      let goes : GoesOn message is_interleaved goes_out x y = record {
        events = map send_request (first_of ∷ others);
        may = subst (λ (ids : List ℕ). MayAll message is_interleaved x.rules (map send_request ids)) some z.may;
        all = requests_go (first_of ∷ others);
        leads = refl;
        more = a ∷ [];
        asks = refl;
        further = 0;
        done = omega arith;
        answered = omega arith;
      } in
      let most_before : ℕ = count (transfer_of from).sender in
      let grown : most_before ≤ count (transfer_of x).sender = (goes_grows message is_interleaved goes_out from x before.epochs claim.goes).numbered in
      let counted = next_counted message lifecycle is_interleaved (transfer_of x) q items h.refines in
      let last : last_assigned (add_reset_breakpoint t.sender) ≡ wire u32_space first (origin + a.upto - 1) =
      ap (λ (n : ℕ). wire u32_space t.sender.outstanding.first (n - 1)) counted ∙ ap (λ (n : ℕ). wire u32_space n (origin + a.upto - 1)) h.first in
      let u : Tcb = request_started m.context.now (first_of ∷ others) t in
      let b : EndWithPacket Carried = in_open phase u (with_context (record m.context { queue = r }) m) in
      let is_it : (c : ResetRequest) → slice_get (x.asks ++ a ∷ []) x.answered ≡ Some c → a ≡ c = λ c e.
      same_Some a c (sym (subst (λ (n : ℕ). slice_get (x.asks ++ a ∷ []) n ≡ Some a) all (get_last x.asks a)) ∙ e) in
      let follows : FollowsEpochs rules r (begin_reset items) = subst (λ (e : Epochs). FollowsEpochs e r (begin_reset items)) same z.follows in
      let shows : SenderRefines message lifecycle is_interleaved (transfer_of y) r (begin_reset items) = subst (λ (tr : Transfer). SenderRefines message lifecycle is_interleaved tr r (begin_reset items)) (sym transfer_is) z.refines in (
        y,
        step_claims message lifecycle is_interleaved from prepared prepared (in_open phase t m) b x y claim (record {
          goes = goes;
          asked = ask_is_sent message is_interleaved x.rules x.asks x.done x.answered claim.kept.asked a all (record { some = λ e. some_none first_of others e; distinct = k.once; within = omega arith }) refl raised;
          done = refl;
          shown = record {
            refines = shows;
            follows = follows;
            first = h.first;
            room = h.room;
            asks = subst (λ (n : ℕ). IsAsking first n (x.asks ++ a ∷ []) r u.requests) all
                (asking_new first m.context.now (rtt.rto t.rtt) (last_assigned (add_reset_breakpoint t.sender)) x.asks a q r t.requests h.asks.next none.1 k last);
          };
          since = λ n c e. let up : a.upto ≡ c.upto = ap (λ (d : ResetRequest). d.upto) (is_it c e) in inr (omega (arith, up, grown));
          given_up = sym (ap (λ (es : List RuleEvent). recorded_places m.context.emitted ++ given_up_places es) (requests_alone (first_of ∷ others)) ∙ append-nil (recorded_places m.context.emitted));
          reported = reports_none lifecycle (transfer_of x) (transfer_of y) es es (ap (λ (tr : Transfer). tr.reports) transfer_is) refl;
          resets = emits_no_answer prepared es es x y (emits_nothing es) refl (ap (λ (e : Epochs). e.raised) w.rest) (ap (λ (e : Epochs). e.opened) w.rest);
          first = refl;
          packets = refl;
          made = λ h. h;
        }),
      )
    where
      paused_flows : Paused ≡ NotPaused → ⊥
      paused_flows e = cc

      some_none : (n : ℕ) (ns : List ℕ) → n ∷ ns ≡ [] → ⊥
      some_none n ns e = cc

  -- the request goes along in a packet
  pub adds_request_keeps : (r : Request) (phase : Phase) (t : Tcb) (m : EndWithPacket Carried) → t.requests.current ≡ Some r
      → SenderGoes message lifecycle is_interleaved from (in_open phase t m) (with_chunk (request_chunk r) (in_open phase t m))
  adds_request_keeps r phase t m is =
      goes_saying message lifecycle is_interleaved from (in_open phase t m) (request_chunk r) says
    where
      none_some : (o : Option Request) → o ≡ None → o ≡ Some r → ⊥
      none_some o e f = cc

      says : (prepared : List ℕ) (x : Direction) → SenderClaim message lifecycle is_interleaved from prepared (in_open phase t m) x
          → SaysOut message is_interleaved t.sender.outstanding.first (transfer_of from).acknowledged x (request_chunk r)
      says prepared x claim =
          let first = t.sender.outstanding.first in
          let p : ParameterTree = outgoing_reset_request r.number r.number (record { 0 = r.last_tsn }) (ids r.streams) in
          let one : SaysOutgoing first x.asks p = elim claim.shown.asks.current [
            | inl n ↦ absurd (none_some t.requests.current n.1.none is)
            | inr c ↦
                let z = c.1 in
                let says = subst (IsRequestOf t.identity.my_first x.answered z.ask) (same_Some z.request r (sym z.is ∙ is)) z.says in
                record {
                  at = x.answered;
                  ask = z.ask;
                  there = z.there;
                  number_is = says.number ∙ ap (λ (n : ℕ). number_of n x.answered) (sym claim.shown.first);
                  last_is = says.last_tsn ∙ ap (λ (n : ℕ). last_tsn_of n z.ask) (sym claim.shown.first);
                  streams_are = ap ids says.streams;
                }
          ] in
          All-cons (SaysOutgoing first x.asks) p [] one (All-nil (SaysOutgoing first x.asks))

-- ---- the answer

module _ (message : ℕ → Message) (lifecycle : ℕ → Option ℕ) (is_interleaved : Bool) (from : Direction) where
  commits_go : (ids : List ℕ) → list_all goes_out (map commit ids) ≡ true
  commits_go [] = refl
  commits_go (id ∷ ids) = commits_go ids

  commits_alone : (ids : List ℕ) → of_transfer (map commit ids) ≡ []
  commits_alone [] = refl
  commits_alone (id ∷ ids) = commits_alone ids

  same_reports : (ids : List ℕ) (x : Transfer) → (restart_numbers ids x).reports ≡ x.reports
  same_reports [] x = refl
  same_reports (id ∷ ids) x = same_reports ids (record x { sender = restarts x.sender id })

  -- the ask that waits is the last
  current_of : (first answered : ℕ) (asks : List ResetRequest) (q : Queue) (r : Requests) → IsAsking first answered asks q r → (a : ResetRequest) → slice_get asks answered ≡ Some a
      → (length asks ≡ suc answered) × ((s : ℕ) → has s a.streams ≡ true → (stream s q.streams).pause ≡ Resetting) × ((s : ℕ) → (stream s q.streams).pause ≡ Resetting → has s a.streams ≡ true)
  current_of first answered asks q r h a there = elim h.current [
    | inl n ↦ let b = slice_get_within asks answered a there in let e = n.0 in absurd (omega (arith, b, e))
    | inr c ↦
        let z = c.1 in
        let same : z.ask ≡ a = same_Some z.ask a (sym z.there ∙ there) in
        (c.0, λ s e. z.resetting s (subst (λ (d : ResetRequest). has s d.streams ≡ true) (sym same) e), λ s e. subst (λ (d : ResetRequest). has s d.streams ≡ true) same (z.others s e))
  ]

  -- that was performed: its streams go on
  done_claims : (rto number result : ℕ) (phase : Phase) (t : Tcb) (m : EndWithPacket Carried) (prepared : List ℕ) (x : Direction) → SenderClaim message lifecycle is_interleaved from prepared (in_open phase t m) x
      → (a : ResetRequest) → slice_get x.asks x.answered ≡ Some a → x.answered < x.done → outcome number result t.requests.current ≡ Done a.streams
      → (y : Direction) × SenderClaim message lifecycle is_interleaved from prepared
      (in_open phase (record t { requests = handle_response m.context.now rto number result t.requests }) (with_context (on_outcome (Done a.streams) m.context) m)) y
  done_claims rto number result phase t m prepared x claim a there behind is =
      let q = m.context.queue in
      let es = m.context.emitted.events in
      let items = t.sender.outstanding.items in
      let kept = claim.kept.epochs.order.kept in
      let first = t.identity.my_first in
      let h = claim.shown in
      let ss = a.streams in
      let are = claim.kept.asked in
      let c = current_of first x.answered x.asks q t.requests h.asks a there in
      let raised : (s : ℕ) → has s ss ≡ true → x.rules.raised s ≡ suc (x.rules.opened s) = λ s e. (h.follows.paused s).shut (λ f. resetting_flows (sym (c.1 s e) ∙ f)) in
      let performed : (s : ℕ) → IsAmong s ss → x.rules.raised s ≤ x.rules.performed s = λ s i.
      let e = has_from s ss i in
      let r = raised s e in
      let o = are.opened s in
      let p = are.performed s in
      let n = named_later s x.answered x.done x.asks a there e behind in
      omega (arith, r, o, p, n) in
      let z = answering_follows message lifecycle is_interleaved x.rules q items kept h.refines h.follows ss (each_asked q ss (are.fine x.answered a there).distinct c.1) performed in
      let w = answers_open message is_interleaved ss x.rules in
      let y : Direction = record x { rules = go_all message is_interleaved x.rules (map commit ss); answered = suc x.answered } in
      let u : Tcb = record t { requests = handle_response m.context.now rto number result t.requests } in
      let b : EndWithPacket Carried = in_open phase u (with_context (on_outcome (Done ss) m.context) m) in
      let e : Event Carried = OnStreamsResetPerformed ss in
      let ends = done_ends m.context.now rto number result ss t.requests is in
      let counted = performed_both es (e ∷ []) in
      let goes : GoesOn message is_interleaved goes_out x y = record {
        events = map commit ss;
        may = z.may;
        all = commits_go ss;
        leads = refl;
        more = [];
        asks = sym (append-nil x.asks);
        further = 0;
        done = omega arith;
        answered = omega arith;
      } in
      let over : (d : ResetRequest) → slice_get x.asks (suc x.answered) ≡ Some d → ⊥ = λ d f. let below = slice_get_within x.asks (suc x.answered) d f in let long = c.0 in omega (arith, below, long) in (
        y,
        step_claims message lifecycle is_interleaved from prepared prepared (in_open phase t m) b x y claim (record {
          goes = goes;
          asked = ask_is_answered message is_interleaved x.asks x.answered a there x.rules x.done are behind raised;
          done = refl;
          shown = record {
            refines = subst (λ (tr : Transfer). SenderRefines message lifecycle is_interleaved tr (commit_resets ss q) items) (sym z.transfer_is) (commits_row message lifecycle is_interleaved items ss (transfer_of x) q h.refines);
            follows = z.follows;
            first = h.first;
            room = h.room;
            asks = record {
              next = ends.0 ∙ h.asks.next;
              current = inl (c.0, record { none = ends.1; resetting = λ s f. let o = answered_open ss q s f in not_both (c.2 s o.1) o.0 });
            };
          };
          since = λ n d f. absurd (over d f);
          given_up = sym (ap (λ (es : List RuleEvent). recorded_places m.context.emitted ++ given_up_places es) (commits_alone ss) ∙ append-nil (recorded_places m.context.emitted));
          reported = reports_none lifecycle (transfer_of x) (transfer_of y) es (es ++ e ∷ []) (ap (λ (tr : Transfer). tr.reports) z.transfer_is ∙ same_reports ss (transfer_of x))
              (delivered_more es (e ∷ []) ∙ append-nil (delivered_ids es));
          resets = record {
            performed = omega (arith, counted);
            epochs = λ f g. subst (λ (ns : List ℕ). AreSo (reopen ns (shut_streams prepared f)) y.rules) (sym (named_both es (e ∷ []) ∙ ap (λ (ns : List ℕ). performed_of es ++ ns) (append-nil ss)))
                (so_opened (performed_of es) ss (shut_streams prepared f) x.rules y.rules (ap (λ (d : Epochs). d.raised) w.rest) w.opened w.others g);
            none_failed = λ f. none_failed_both es (e ∷ []) f refl;
          };
          first = refl;
          packets = packets_both es (e ∷ []) ∙ append-nil (packets_in es);
          made = λ h. h;
        }),
      )
    where
      resetting_flows : Resetting ≡ NotPaused → ⊥
      resetting_flows e = cc

  module _ (g : Setting) (call : Call) (premises : SenderPremises message lifecycle is_interleaved g call from) where
    pub takes_response_keeps : (rto number result : ℕ) (sender receiver : Option Tsn) (phase : Phase) (t : Tcb) (m : EndWithPacket Carried) → IsAsked call (reset_response number result sender receiver)
        → InvAt g (in_open phase t m)
        → SenderGoes message lifecycle is_interleaved from (in_open phase t m)
        (in_open phase (record t { requests = handle_response m.context.now rto number result t.requests }) (with_context (on_outcome (outcome number result t.requests.current) m.context) m))
    takes_response_keeps rto number result sender receiver phase t m asked inv prepared x claim =
        let q = m.context.queue in
        let first = t.identity.my_first in
        let u : Tcb = record t { requests = handle_response m.context.now rto number result t.requests } in
        let order = claim.kept.asked.order in
        let before = premises.kept.asked.order in
        let same = claim.done in
        let below = before.1 in
        let few = premises.few in
        let more = ap length claim.goes.asks ∙ length-append from.asks claim.goes.more in
        let said : is_final result ≡ true → SaysDone first x.done (length x.asks) number result = λ final.
        let s = answer_is_received message lifecycle is_interleaved g call from premises phase t m inv number result sender receiver asked final in
        let at_below = s.below in
        record {
          at = s.at;
          number_is = s.number_is;
          below = omega (arith, at_below, same);
          performed_or_older = elim s.performed_or_older [ inl e ↦ inl e | inr l ↦ inr (omega (arith, l, more)) ];
        } in
        let Led : Outcome → Type 0 = λ o. (y : Direction) × SenderClaim message lifecycle is_interleaved from prepared (in_open phase u (with_context (on_outcome o m.context) m)) y in
        elim (response_settles first x.answered x.done x.asks q t.requests claim.shown.asks order.0 (omega (arith, same, below, few)) number result said) [
          | inl e ↦
              subst Led (sym e)
              (goes_open message lifecycle is_interleaved from phase phase t u m refl refl refl
              (λ z h. asking_unsettled first z.answered z.asks q m.context.now rto number result t.requests e h) prepared x claim)
          | inr d ↦ subst Led (sym d.3) (done_claims rto number result phase t m prepared x claim d.0 d.1 d.2 d.3)
        ]
