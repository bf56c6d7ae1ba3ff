-- Requests to reset streams at the end that performs them: each that is due is the next ask, which is deferred or performed; and
-- what is answered is true.
use Rattle.std.proofs.Common.{◌≡◌, ℕ, suc, ◌+◌, ◌-◌, ◌^◌, ◌<◌, ◌≤◌, Bool, true, false, cond, inl, inr, Option, Some, None, is_some, List, [], ◌∷◌, ◌++◌, length, map, slice_get, All, refl, sym, ap, ◌∙◌, subst, arith, append-nil}
use Rattle.std.specs.Prelude.{◌||◌, ◌==◌}
use Rattle.std.specs.List.{list_all}
use Rattle.std.proofs.lemmas.Bool.{cases_eq, both_ways, eqb-true, eq-eqb, ne_eqb, ltb-true, ltb-false, or_parts}
use Rattle.std.proofs.lemmas.List.Elements.{All-weaker}
use Rattle.std.proofs.lemmas.Option.{slice_get_within}
use Rattle.sctp_serial.specs.Messages as messages
use Rattle.sctp_serial.specs.Unwrapped.{origin, u32_space, wire}
use Rattle.sctp_serial.specs.declared.api.StreamId.{StreamId}
use Rattle.sctp_wire.specs.Parameter.{ParameterTree, reset_response}
use Rattle.sctp_state.specs.Events as events
use Rattle.sctp_state.specs.Events.{OnIncomingStreamReset, numbers_of}
use Rattle.sctp_rx.specs.DataTracker.{number_of}
use Rattle.sctp_rx.specs.ReassemblyQueue.{Reassembly, Deferred, defer, reset}
use Rattle.sctp_rx.specs.ReassemblyQueue as queue
use Rattle.proof_protocol.specs.State.{Message, has, count}
use Rattle.proof_protocol.specs.Resets as rules
use Rattle.proof_protocol.specs.Resets.{ResetEvent, perform, go_all}
use Rattle.proof_protocol.proofs.BasedLemmas.{all_in_epochs}
use Rattle.proof_refines.specs.Read.{shift_after}
use Rattle.proof_refines.specs.Near.{IsInWindow}
use Rattle.proof_refines.specs.Resets.{base_now, AreNextTo, AreNext, performs, named_by, Performs, Comes}
use Rattle.proof_refines.proofs.DeferralRowLemmas.{next_once_seen, waits_none, none_waits, deferred_row, deferred_again}
use Rattle.proof_refines.proofs.ResetRowLemmas.{reset_row}
use Rattle.spec_endpoint.specs.Association.{Tcb}
use Rattle.spec_endpoint.specs.ResetRequests.{Requests, ids, in_progress, performed, is_final, is_last_request, is_next_request, is_known_request, set_last_request}
use Rattle.spec_endpoint.specs.StreamReset.{is_ahead}
use Rattle.spec_endpoint.specs.Laws.{Call}
use Rattle.proof_endpoint.specs.Mapped.{Carried}
use Rattle.proof_endpoint.specs.Acts.{IsDue, HasRequest, AsksNoIncoming, Answers}
use Rattle.proof_delivery.specs.Asks as asks
use Rattle.proof_delivery.specs.Asks.{named_in, request_for, AreRequested, SaysDone, SaysIncoming, HasPerformed, HasDeferred, IsAnswering}
use Rattle.proof_delivery.specs.StreamEpochs.{are_named, resets_emitted}
use Rattle.proof_delivery.proofs.AsksLemmas.{named_next, ask_is_performed}
use Rattle.proof_delivery.proofs.AskedNextLemmas.{requests_of, next_ask, next_names}
use Rattle.proof_delivery.proofs.AnswersLemmas.{number_once, next_is_ask, last_is_ask, other_is_older}
use Rattle.proof_delivery.proofs.ClaimLemmas.{Direction, transfer_of, goes_in, IsKept, GoesOn, AsksStay, IsReceiving, AsksSoon}
use Rattle.proof_delivery.proofs.SenderToolLemmas.{goes_none}
use Rattle.proof_delivery.proofs.ReadingDataLemmas.{RequestReceived}
use Rattle.proof_delivery.proofs.ReadingLemmas.{front_of, front_at, front_unseen, below_front, last_is_read}
use Rattle.proof_delivery.proofs.ReceiverDataLemmas.{Leads}

-- ---- what is emitted

equal_tests : (a b : ℕ) → (a == b) ≡ (b == a)
equal_tests a b = elim (cases_eq a b) [ inl e ↦ eq-eqb a b e ∙ sym (eq-eqb b a (sym e)) | inr d ↦ ne_eqb a b d ∙ sym (ne_eqb b a (λ e. d (sym e))) ]

named_has : (ss : List ℕ) (s : ℕ) → are_named (numbers_of (ids ss)) s ≡ has s ss
named_has [] s = refl
named_has (k ∷ ss) s = ap (λ (b : Bool). b || are_named (numbers_of (ids ss)) s) (equal_tests k s) ∙ ap (λ (b : Bool). (s == k) || b) (named_has ss s)

-- one more reset
emitted_behind : {P : Type 0} (s : ℕ) (es : List (events.Event P)) (ss : List ℕ) → resets_emitted s (es ++ OnIncomingStreamReset ss ∷ []) ≡ resets_emitted s es + cond (are_named ss s) 1 0
emitted_behind s [] ss = by (are_named ss s)
  where
    by : (b : Bool) → cond b (1 + 0) 0 ≡ 0 + cond b 1 0
    by true = refl
    by false = refl
emitted_behind s (OnIncomingStreamReset streams ∷ es) ss = by (are_named streams s) (emitted_behind s es ss)
  where
    by : (b : Bool) → resets_emitted s (es ++ OnIncomingStreamReset ss ∷ []) ≡ resets_emitted s es + cond (are_named ss s) 1 0
        → cond b (1 + resets_emitted s (es ++ OnIncomingStreamReset ss ∷ [])) (resets_emitted s (es ++ OnIncomingStreamReset ss ∷ [])) ≡ cond b (1 + resets_emitted s es) (resets_emitted s es) + cond (are_named ss s) 1 0
    by true e = omega (arith, e)
    by false e = e
emitted_behind s (e ∷ es) ss = emitted_behind s es ss

-- streams are reset, with their event, and these values refine the state
pub record ResetsOn (message : ℕ → Message) (is_interleaved : Bool) (handed : List messages.Message) (x : Direction) (t : Tcb) (ss : List ℕ) : Type 0 where
  pub to : Direction
  pub goes : GoesOn message is_interleaved goes_in x to
  pub kept : IsKept message is_interleaved to
  pub stay : AsksStay x to
  pub performed : (s : ℕ) (es : List (events.Event Carried)) → to.rules.performed s + resets_emitted s es ≡ x.rules.performed s + resets_emitted s (es ++ OnIncomingStreamReset ss ∷ [])
  pub shown : IsReceiving message is_interleaved handed t to

-- ---- the requests of an ask, as they are performed

module _ (f : ℕ → rules.Request) where
  performs_are : (ss : List ℕ) → performs (map f ss) ≡ map (λ s. perform (f s)) ss
  performs_are [] = refl
  performs_are (s ∷ ss) = ap (λ (es : List ResetEvent). perform (f s) ∷ es) (performs_are ss)

all_in : (rs : List rules.Request) → list_all goes_in (performs rs) ≡ true
all_in [] = refl
all_in (r ∷ rs) = all_in rs

-- ---- a request that is due

module _ (message : ℕ → Message) (is_interleaved : Bool) (handed : List messages.Message) (x : Direction) (kept : IsKept message is_interleaved x) (t : Tcb) (shown : IsReceiving message is_interleaved handed t x)
    (few : length x.asks < 2 ^ 32) where
  first : ℕ
  first = t.tracker.first

  answering : IsAnswering t.tracker.first x.done x.asks t.requests t.reassembly.deferred
  answering = subst (λ (n : ℕ). IsAnswering n x.done x.asks t.requests t.reassembly.deferred) (sym shown.first) shown.answers

  below : x.done ≤ length x.asks
  below = kept.asked.order.1

  order : length x.asks ≤ suc x.done
  order = let a = kept.asked.order in let b = a.0 in let c = a.2 in omega (arith, b, c)

  -- ---- what is answered

  module _ (call : Call) (none : AsksNoIncoming call) (asked : (n : ℕ) → HasRequest call n → (at : ℕ) × (at < length x.asks) × (n ≡ asks.number_of t.tracker.first at)) where
    final_not : (result : ℕ) → result ≡ in_progress → is_final result ≡ true → ⊥
    final_not result e final = both_ways (is_final result) (ap is_final e) final

    module _ (n result : ℕ) (at : ℕ) (there : at < length x.asks) (number_is : n ≡ asks.number_of t.tracker.first at) (final : is_final result ≡ true) where
      said_last : is_last_request n t.requests ≡ true → result ≡ t.requests.result → SaysDone t.tracker.first x.done (length x.asks) n result
      said_last last same =
          let is : is_last_request (asks.number_of t.tracker.first at) t.requests ≡ true = subst (λ (m : ℕ). is_last_request m t.requests ≡ true) number_is last in
          elim (last_is_ask t.tracker.first x.done x.asks t.requests t.reassembly.deferred answering below order few at there is) [
            | inl e ↦
                let l = e.0 in
                record { at = at; number_is = number_is; below = omega (arith, l); performed_or_older = inl (same ∙ e.1 (ap is_final (sym same) ∙ final)) }
            | inr e ↦ absurd (final_not result (same ∙ e.1) final)
          ]

      said_older : is_known_request n t.requests ≡ false → SaysDone t.tracker.first x.done (length x.asks) n result
      said_older unknown =
          let is : is_known_request (asks.number_of t.tracker.first at) t.requests ≡ false = subst (λ (m : ℕ). is_known_request m t.requests ≡ false) number_is unknown in
          let parts = or_parts (is_last_request (asks.number_of t.tracker.first at) t.requests) (is_next_request (asks.number_of t.tracker.first at) t.requests) is in
          let e = other_is_older t.tracker.first x.done x.asks t.requests t.reassembly.deferred answering below order few at there parts.0 parts.1 in
          record { at = at; number_is = number_is; below = e.0; performed_or_older = inr e.1 }

    response_says : (p : ParameterTree) → Answers call t.requests p → SaysIncoming t.tracker.first x.done (length x.asks) p
    response_says (reset_response n result sender receiver) h = λ final.
        let a = asked n h.0 in
        elim (h.1 none) [
          | inl e ↦ said_last n result a.0 a.1 a.2 final e.0 e.1
          | inr e ↦ said_older n result a.0 a.1 a.2 final e.0
        ]
    response_says p h = absurd h

    pub responses_say : (responses : List ParameterTree) → All (Answers call t.requests) responses → All (SaysIncoming t.tracker.first x.done (length x.asks)) responses
    responses_say responses h = All-weaker (Answers call t.requests) (SaysIncoming t.tracker.first x.done (length x.asks)) response_says responses h

  -- ---- the next ask

  module _ (n last_tsn : ℕ) (streams : List StreamId) (h : RequestReceived x t.tracker n last_tsn streams) (due : IsDue n t.requests) where
    number_is : n ≡ asks.number_of t.tracker.first h.at
    number_is = h.number_is

    -- it isn't one that was performed
    last_open : is_last_request n t.requests ≡ true → h.at ≡ x.done
    last_open last = elim answering [
      | inl p ↦ absurd (both_ways (is_final t.requests.result) (due.undone last) (elim p.result [ inl e ↦ ap is_final e | inr e ↦ ap is_final e.0 ]))
      | inr d ↦
          let l = slice_get_within x.asks h.at h.ask h.there in
          let m = slice_get_within x.asks x.done d.ask d.there in
          number_once t.tracker.first h.at x.done (omega (arith, l, few)) (omega (arith, m, few)) (sym number_is ∙ (eqb-true n t.requests.last last ∙ d.last))
    ]

    next_open : is_next_request n t.requests ≡ true → h.at ≡ x.done
    next_open next =
        next_is_ask t.tracker.first x.done x.asks t.requests t.reassembly.deferred answering below order few h.at (slice_get_within x.asks h.at h.ask h.there)
        (subst (λ (m : ℕ). is_next_request m t.requests ≡ true) number_is next)

    at_is : h.at ≡ x.done
    at_is = by (is_last_request n t.requests) refl
      where
        by : (b : Bool) → is_last_request n t.requests ≡ b → h.at ≡ x.done
        by true e = last_open e
        by false e = next_open (sym (ap (λ (b : Bool). b || is_next_request n t.requests) e) ∙ due.known)

    there : slice_get x.asks x.done ≡ Some h.ask
    there = subst (λ (k : ℕ). slice_get x.asks k ≡ Some h.ask) at_is h.there

    number_now : n ≡ asks.number_of t.tracker.first x.done
    number_now = number_is ∙ ap (asks.number_of t.tracker.first) at_is

    abbrev rs : List rules.Request
    rs = requests_of x.rules x.asks x.done x.answered kept.asked h.ask there h.ask.streams

    next : AreNextTo x.rules h.ask.upto rs
    next = next_ask x.rules x.asks x.done x.answered kept.asked h.ask there

    names : streams ≡ named_by rs
    names = h.streams_are ∙ sym (next_names x.asks x.done h.ask.upto h.ask.streams)

    -- they are some
    some : (q : rules.Request) × (more : List rules.Request) × (rs ≡ q ∷ more)
    some = go h.ask.streams refl
      where
        go : (ss : List ℕ) → h.ask.streams ≡ ss → (q : rules.Request) × (more : List rules.Request)
            × (requests_of x.rules x.asks x.done x.answered kept.asked h.ask there ss ≡ q ∷ more)
        go [] e = absurd ((kept.asked.fine x.done h.ask there).some e)
        go (s ∷ ss) e = (request_for s x.done h.ask.upto x.asks, requests_of x.rules x.asks x.done x.answered kept.asked h.ask there ss, refl)

    some_named : streams ≡ named_by (some.0 ∷ some.1)
    some_named = names ∙ ap named_by some.2

    to_peer : (q : Requests) (d : Option Deferred) (done : ℕ) → IsAnswering t.tracker.first done x.asks q d → IsAnswering t.identity.peer_first done x.asks q d
    to_peer q d done a = subst (λ (m : ℕ). IsAnswering m done x.asks q d) shown.first a

    front_is : origin + front_of t.tracker.tracker ≡ suc t.tracker.tracker.seen.front
    front_is = front_at message is_interleaved (base_now x.rules) shown.shift (transfer_of x) kept.epochs.order.kept handed t.tracker.tracker t.reassembly shown.refines shown.is_tracker

    -- ---- it is deferred

    abbrev deferred_at : Reassembly → Tcb
    deferred_at r = record t { reassembly = r; requests = set_last_request n in_progress t.requests }

    leads_here : (u : Tcb) → IsReceiving message is_interleaved handed u x → Leads message is_interleaved handed x u
    leads_here u s = record { to = x; goes = goes_none message is_interleaved goes_in x; kept = kept; stay = (refl, refl); performed = λ s. refl; shown = s }

    -- where it was before
    again_leads : HasDeferred t.tracker.first x.done x.asks t.requests t.reassembly.deferred → Leads message is_interleaved handed x (deferred_at (defer last_tsn streams t.reassembly))
    again_leads d =
        subst (λ (r : Reassembly). Leads message is_interleaved handed x (deferred_at r)) (sym (deferred_again last_tsn streams t.reassembly d.reset d.is))
        (leads_here (deferred_at t.reassembly)
        (record {
          shift = shown.shift;
          refines = shown.refines;
          near = shown.near;
          is_tracker = shown.is_tracker;
          waiting = shown.waiting;
          first = shown.first;
          answers = to_peer (set_last_request n in_progress t.requests) t.reassembly.deferred x.done
              (inr (record { ask = d.ask; there = d.there; last = number_now; result = refl; reset = d.reset; is = d.is; streams = d.streams }));
        }))

    module _ (window : IsInWindow (transfer_of x)) (soon : AsksSoon x) where
      -- it waits for its answer
      waits_now : slice_get x.asks x.answered ≡ Some h.ask
      waits_now =
          let l = slice_get_within x.asks x.done h.ask there in
          let o = kept.asked.order in
          let a = o.0 in
          let b = o.2 in
          let same : x.answered ≡ x.done = omega (arith, l, a, b) in
          ap (λ (k : ℕ). slice_get x.asks k) same ∙ there

      -- so its last TSN is read as it was meant
      last_is : suc (number_of t.tracker last_tsn) ≡ origin + h.ask.upto
      last_is =
          last_is_read message is_interleaved (base_now x.rules) shown.shift (transfer_of x) handed t.tracker t.reassembly h.ask.upto last_tsn kept.epochs.order.kept window shown.refines shown.is_tracker
          h.within (soon h.ask waits_now) h.tsn_is

      module _ (ahead : is_ahead last_tsn t ≡ true) where
        front_before : front_of t.tracker.tracker < h.ask.upto
        front_before =
            let l = ltb-true t.tracker.tracker.seen.front (number_of t.tracker last_tsn) ahead in
            let e = front_is in
            let last = last_is in
            omega (arith, l, e, last)

        -- the fragment with its last TSN
        abbrev at : ℕ
        at = h.ask.upto - 1

        upto_is : h.ask.upto ≡ suc at
        upto_is = let l = front_before in omega (arith, l)

        within : at < count (transfer_of x).sender
        within = let l = front_before in let w = h.within in omega (arith, l, w)

        tsn_is : last_tsn ≡ wire u32_space t.tracker.first (origin + at)
        tsn_is = h.tsn_is ∙ ap (λ (m : ℕ). wire u32_space t.tracker.first m) (let l = front_before in omega (arith, l))

        postponed : t.reassembly.deferred ≡ None
            → Comes message is_interleaved t.tracker.first (shift_after t.reassembly.first shown.shift at) x.rules [] handed t.tracker.tracker (defer last_tsn streams t.reassembly)
        postponed none =
            let asked : AreNextTo x.rules (suc at) (some.0 ∷ some.1) = subst (AreNextTo x.rules (suc at)) some.2 (subst (λ (m : ℕ). AreNextTo x.rules m rs) upto_is next) in
            let l = front_before in
            subst (λ (is : List StreamId). Comes message is_interleaved t.tracker.first (shift_after t.reassembly.first shown.shift at) x.rules [] handed t.tracker.tracker (defer last_tsn is t.reassembly))
            (sym some_named)
            (deferred_row message is_interleaved t.tracker.first shown.shift x.rules kept.epochs window handed t.tracker.tracker t.reassembly shown.refines shown.near shown.waiting none at last_tsn some.0 some.1
            asked within (front_of t.tracker.tracker) (omega (arith, l))
            (front_unseen message is_interleaved (base_now x.rules) shown.shift (transfer_of x) kept.epochs.order.kept handed t.tracker.tracker t.reassembly shown.refines shown.is_tracker) tsn_is)

        abbrev waits : Deferred
        waits = record { last = queue.number_of t.reassembly last_tsn; streams = streams; waiting = [] }

        new_leads : HasPerformed t.tracker.first x.done t.requests t.reassembly.deferred → Leads message is_interleaved handed x (deferred_at (defer last_tsn streams t.reassembly))
        new_leads p =
            let c = postponed p.none in
            leads_here (deferred_at (defer last_tsn streams t.reassembly))
            (record {
              shift = shift_after t.reassembly.first shown.shift at;
              refines = c.refines;
              near = c.near;
              is_tracker = shown.is_tracker;
              waiting = c.waiting;
              first = shown.first;
              answers = to_peer (set_last_request n in_progress t.requests) (defer last_tsn streams t.reassembly).deferred x.done
                  (inr
                  (record {
                    ask = h.ask;
                    there = there;
                    last = number_now;
                    result = refl;
                    reset = waits;
                    is = ap (λ (o : Option Deferred). cond (is_some o) o (Some waits)) p.none;
                    streams = h.streams_are;
                  }));
            })

        pub deferred_leads : Leads message is_interleaved handed x (deferred_at (defer last_tsn streams t.reassembly))
        deferred_leads = elim answering [ inl p ↦ new_leads p | inr d ↦ again_leads d ]

      -- ---- it is performed

      module _ (come : is_ahead last_tsn t ≡ false) where
        all_seen : (k : ℕ) → k < h.ask.upto → (transfer_of x).receiver.seen k ≡ true
        all_seen k l =
            let m = ltb-false t.tracker.tracker.seen.front (number_of t.tracker last_tsn) come in
            let e = front_is in
            let last = last_is in
            sym (shown.refines.seen k)
            ∙ below_front message is_interleaved (base_now x.rules) shown.shift (transfer_of x) kept.epochs.order.kept handed t.tracker.tracker t.reassembly shown.refines shown.is_tracker k (omega (arith, l, m, e, last))

        row : Performs message is_interleaved t.tracker.first shown.shift x.rules rs handed t.tracker.tracker t.reassembly
        row =
            subst (λ (qs : List rules.Request). Performs message is_interleaved t.tracker.first shown.shift x.rules qs handed t.tracker.tracker t.reassembly) (sym some.2)
            (reset_row message is_interleaved t.tracker.first shown.shift x.rules kept.epochs handed t.tracker.tracker t.reassembly shown.refines shown.near some.0 some.1
            (subst (AreNext x.rules) some.2 (next_once_seen x.rules h.ask.upto rs next all_seen))
            (none_waits shown.shift x.rules t.reassembly.first t.reassembly.deferred shown.waiting))

        abbrev to : Direction
        to = record x { rules = go_all message is_interleaved x.rules (performs rs); done = suc x.done }

        asked_then : AreRequested to.rules x.asks (suc x.done) x.answered
        asked_then =
            subst (λ (es : List ResetEvent). AreRequested (go_all message is_interleaved x.rules es) x.asks (suc x.done) x.answered)
            (sym (performs_are (λ s. request_for s x.done h.ask.upto x.asks) h.ask.streams))
            (ask_is_performed message is_interleaved x.asks x.done h.ask there x.rules x.answered kept.asked)

        one_more : (b : Bool) (m : ℕ) → cond b (suc m) m ≡ m + cond b 1 0
        one_more true m = omega arith
        one_more false m = omega arith

        emitted_more : (s : ℕ) (es : List (events.Event Carried))
            → to.rules.performed s + resets_emitted s es ≡ x.rules.performed s + resets_emitted s (es ++ OnIncomingStreamReset (numbers_of streams) ∷ [])
        emitted_more s es =
            let a = asked_then.performed s in
            let b = named_next s x.done x.asks h.ask there in
            let c = kept.asked.performed s in
            let d = emitted_behind s es (numbers_of streams) in
            let e : are_named (numbers_of streams) s ≡ has s h.ask.streams = ap (λ (is : List StreamId). are_named (numbers_of is) s) h.streams_are ∙ named_has h.ask.streams s in
            let f = ap {B = ℕ} (λ (b : Bool). cond b 1 0) e in
            let g = one_more (has s h.ask.streams) (named_in s x.done x.asks) in
            omega (arith, a, b, c, d, f, g)

        abbrev reset_at : Reassembly → Tcb
        reset_at r = record t { reassembly = r; requests = set_last_request n performed t.requests }

        shown_then : IsReceiving message is_interleaved handed (reset_at (reset (named_by rs) t.reassembly)) to
        shown_then = record {
          shift = shown.shift;
          refines = row.refines;
          near = row.near;
          is_tracker = shown.is_tracker;
          waiting = waits_none shown.shift to.rules (reset (named_by rs) t.reassembly) row.none_deferred;
          first = shown.first;
          answers = to_peer (set_last_request n performed t.requests) (reset (named_by rs) t.reassembly).deferred (suc x.done)
              (inl (record { last = number_now ∙ ap (λ (m : ℕ). wire u32_space t.tracker.first m) (omega arith); result = inl refl; none = row.none_deferred }));
        }

        pub performed_on : ResetsOn message is_interleaved handed x (reset_at (reset streams t.reassembly)) (numbers_of streams)
        performed_on = record {
          to = to;
          goes = record {
            events = performs rs;
            may = row.may;
            all = all_in rs;
            leads = refl;
            more = [];
            asks = sym (append-nil x.asks);
            further = 1;
            done = omega arith;
            answered = omega arith;
          };
          kept = record { epochs = all_in_epochs message is_interleaved (performs rs) x.rules kept.epochs row.may; asked = asked_then };
          stay = (refl, refl);
          performed = emitted_more;
          shown = subst (λ (is : List StreamId). IsReceiving message is_interleaved handed (reset_at (reset is t.reassembly)) to) (sym names) shown_then;
        }
