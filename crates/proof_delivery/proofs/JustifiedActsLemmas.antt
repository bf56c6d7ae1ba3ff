-- Each act but for an acceptance leaves what an end knows of its messages, and makes right records alone.
use Rattle.std.proofs.Common.{◌≡◌, ℕ, ◌≤◌, ◌||◌, ◌==◌, Bool, true, false, Option, Some, None, List, [], ◌∷◌, ◌++◌, length, slice_get, refl, sym, subst, ◌∙◌, arith}
use Rattle.std.specs.List.{AllByRecursion, list_any}
use Rattle.std.proofs.lemmas.Bool.{ltb-false}
use Rattle.std.proofs.lemmas.Bool.Decides.{nat_tests}
use Rattle.sctp_serial.specs.Messages.{Message}
use Rattle.sctp_serial.specs.Time.{later}
use Rattle.sctp_state.specs.Numbers.{ms}
use Rattle.sctp_state.specs.Options.{SendOptions}
use Rattle.sctp_state.specs.declared.api.GivenUpCause.{GivenUpCause}
use Rattle.sctp_state.specs.declared.api.GivenUpCause.TheVariants.{Lifetime, Retransmissions, Reset, Ended}
use Rattle.sctp_state.specs.Events.{GivenUp, Emitted}
use Rattle.sctp_capabilities.specs.Capabilities.{negotiate}
use Rattle.sctp_state.specs.Handover.{HandoverState}
use Rattle.sctp_tx_queue.specs.declared.send_queue.stream.ResetStep.TheVariants.{Requested, Performed, Refused}
use Rattle.sctp_tx_queue.specs.SendQueue.{Queue, expiry_of}
use Rattle.sctp_tx_queue.specs.Restarted.{reset}
use Rattle.sctp_tx_queue.specs.Resets.{streams_to_request}
use Rattle.sctp_tx_queue.specs.SendQueue as queue
use Rattle.sctp_tx_outstanding.specs.Item.{Item}
use Rattle.sctp_tx.specs.RetransmissionQueue.{Sender}
use Rattle.spec_endpoint.specs.Association.{Context}
use Rattle.spec_endpoint.specs.Packets.{room}
use Rattle.spec_endpoint.specs.ResetRequests.{Outcome, Unsettled, Done, Denied, outcome}
use Rattle.spec_endpoint.specs.Sack.{clean_blocks}
use Rattle.spec_endpoint.specs.Opening.{agreed_by, queue_if, other_mode, queue_for}
use Rattle.spec_endpoint.specs.Shutdown.{ended, empty_if, emptied_if}
use Rattle.spec_endpoint.specs.StreamReset.{on_outcome}
use Rattle.spec_endpoint.specs.Sending.{fast_most}
use Rattle.spec_endpoint.specs.Laws.{Call, ResetStreams, Restore}
use Rattle.proof_endpoint.specs.Mapped.{Carried}
use Rattle.proof_endpoint.specs.Acts.{EndWithPacket, IsOffered, point_of, fragments_of, PacketAct, begins, adds_plain, emits, emits_error, counts, before_packets, after_packets, OpeningAct, connects, adds_init, answers_new, answers_waiting, answers_echoed, answers_again, echoes, adds_cookie, establishes, opens, restarts, opens_again, maintains, adds_cookie_ack, before_opening, after_opening, ClosingAct, closes, shuts, shuts_on, before_closing, after_closing, DataAct, takes_data, takes_idata, takes_forward, takes_iforward, before_data, after_data, SackAct, takes_sack, samples, counts_errors, before_sack, after_sack, SendingAct, asks, forces_ack, adds_ack, expires, adds_forward, forwards_later, asks_no_reset, asks_reset, adds_request, sends, sends_fast, before_sending, after_sending, TimeAct, advances, delay_ends, times_out, beats, times_init, times_cookie, times_request, times_items, wakes_request, before_time, after_time, CallAct, accepts, refuses, takes_message, sets_low_threshold, sets_priority, sets_max_message_size, before_call, after_call, ResetAct, prepares, defers, performs, processes, takes_response, adds_responses, before_reset, after_reset, HandoverAct, leaves, takes_up, before_handover, after_handover, InputAct, ends_packet, before_input, after_input, Preserves}
use Rattle.proof_delivery.specs.Justified.{Acceptance, limit_of, HasExpired, IsRight, dated_record, IsJustified}
use Rattle.proof_delivery.specs.GivenUp.{kept_in}
use Rattle.proof_delivery.proofs.JustifiedQueueLemmas.{Holds, holds_mode, holds_reset, holds_priority, holds_threshold, holds_prepared, holds_each_stepped, stream_stands, waits_right}
use Rattle.proof_delivery.proofs.JustifiedEmptiedLemmas.{holds_empty, empty_right}
use Rattle.proof_delivery.proofs.JustifiedItemLemmas.{AllStay, Goes, Fills, goes_sack, goes_expired, goes_timed_out, fills_sent, keeps_fast}

-- ---- what is known

-- of a message of this stream with this number, as it was accepted
pub record Known (accepted : List Acceptance) (stream number : ℕ) (expires : Option ℕ) (limit : ℕ) : Type 0 where
  pub acceptance : Acceptance
  pub there : slice_get accepted number ≡ Some acceptance
  pub on : acceptance.offer.message.stream ≡ stream
  pub moment : expires ≡ expiry_of acceptance.at acceptance.offer.options.lifetime
  pub often : limit ≡ limit_of acceptance.offer

-- a lifetime is over before the moment from which a message is expired
over_before : (at span now : ℕ) → later (later at span) ms ≤ now → later at span ≤ now
over_before at span now h = omega (arith, h)

has_expired : (a : Acceptance) (moment now : ℕ) (o : Option ℕ) → a.offer.options.lifetime ≡ o → Some moment ≡ expiry_of a.at o → moment ≤ now → HasExpired now a
has_expired a moment now None e f h = cc
has_expired a moment now (Some span) e f h =
    let same : moment ≡ later (later a.at span) ms = cc in
    record { lifetime = span; given = e; over = over_before a.at span now (subst (λ (n : ℕ). n ≤ now) same h) }

-- what is named is there
names_it : (stream : ℕ) (before behind : List ℕ) → list_any (λ id. id == stream) (before ++ stream ∷ behind) ≡ true
names_it stream [] behind = same_number stream (list_any (λ id. id == stream) behind)
  where
    same_number : (n : ℕ) (rest : Bool) → (n == n) || rest ≡ true
    same_number n rest = grind (arith, nat_tests)
names_it stream (id ∷ before) behind = or_right (id == stream) _ (names_it stream before behind)
  where
    or_right : (a b : Bool) → b ≡ true → a || b ≡ true
    or_right true b e = refl
    or_right false b e = e

-- a record that is made, or stands, at this moment, as these streams are reset, by an end that avoids stalls or not
abbrev pub IsJustifiedAt : List Acceptance → (avoids : Bool) → (resets : List ℕ) → (now : ℕ) → GivenUp → Type 0
IsJustifiedAt accepted avoids resets now g = IsJustified accepted (dated_record avoids now resets g)

module _ (accepted : List Acceptance) (avoids : Bool) (resets : List ℕ) where
  late : (now id n limit moment : ℕ) → Known accepted id n (Some moment) limit → moment ≤ now → IsJustifiedAt accepted avoids resets now (record { number = n; cause = Lifetime })
  late now id n limit moment k h = record {
    acceptance = k.acceptance;
    there = k.there;
    right = has_expired k.acceptance moment now k.acceptance.offer.options.lifetime refl k.moment h;
  }

  used : (now id n limit count : ℕ) (o : Option ℕ) → Known accepted id n o limit → limit ≤ count → IsJustifiedAt accepted avoids resets now (record { number = n; cause = Retransmissions count })
  used now id n limit count o k h = record { acceptance = k.acceptance; there = k.there; right = subst (λ (m : ℕ). m ≤ count) k.often h }

  cleared : (now id n limit : ℕ) (o : Option ℕ) → list_any (λ k. k == id) resets ≡ true → Known accepted id n o limit
      → IsJustifiedAt accepted avoids resets now (record { number = n; cause = Reset })
  cleared now id n limit o named k =
      record { acceptance = k.acceptance; there = k.there; right = subst (λ (s : ℕ). list_any (λ j. j == s) resets ≡ true) (sym k.on) named }

  ended_of : avoids ≡ true → (now id n limit : ℕ) (o : Option ℕ) → Known accepted id n o limit → IsJustifiedAt accepted avoids resets now (record { number = n; cause = Ended })
  ended_of is now id n limit o k = record { acceptance = k.acceptance; there = k.there; right = is }

  -- a record stays justified as time goes on
  right_on : (cause : GivenUpCause) (now next : ℕ) (a : Acceptance) → now ≤ next → IsRight cause avoids now resets a → IsRight cause avoids next resets a
  right_on Lifetime now next a h r = record { lifetime = r.lifetime; given = r.given; over = let o : later a.at r.lifetime ≤ now = r.over in omega (arith, o, h) }
  right_on (Retransmissions count) now next a h r = r
  right_on Reset now next a h r = r
  right_on Ended now next a h r = r

  pub justified_on : (now next : ℕ) (gs : List GivenUp) → now ≤ next → AllByRecursion (IsJustifiedAt accepted avoids resets now) gs → AllByRecursion (IsJustifiedAt accepted avoids resets next) gs
  justified_on now next [] h all = all
  justified_on now next (g ∷ gs) h all = (
    record { acceptance = all.0.acceptance; there = all.0.there; right = right_on g.cause now next all.0.acceptance h all.0.right },
    justified_on now next gs h all.1,
  )

-- ---- an end at work

-- after these acceptances: the queue, the kept items, and the records that were emitted
pub record Sound (accepted : List Acceptance) (avoids : Bool) (resets : List ℕ) (kept : List Item) (now : ℕ) (q : Queue) (records : List GivenUp) : Type 0 where
  pub holds : Holds (Known accepted) (length accepted) q
  pub stay : AllStay (Known accepted) kept
  pub justified : AllByRecursion (IsJustifiedAt accepted avoids resets now) records

abbrev pub SoundAt : List Acceptance → (resets : List ℕ) → EndWithPacket Carried → Type 0
SoundAt accepted resets m = Sound accepted m.context.options.avoid_stalls resets (kept_in m.state) m.context.now m.context.queue m.context.emitted.given_up

module _ (accepted : List Acceptance) (resets : List ℕ) where
  abbrev pub Onward : (before after : EndWithPacket Carried) → Type 0
  Onward a b = SoundAt accepted resets a → SoundAt accepted resets b

  abbrev K : ℕ → ℕ → Option ℕ → ℕ → Type 0
  K = Known accepted

  abbrev Q : Queue → Type 0
  Q q = Holds K (length accepted) q

  -- ---- queues

  reset_if : (b : Bool) (q : Queue) → Q q → Q (queue_if b q)
  reset_if true q h = holds_reset K (length accepted) q h
  reset_if false q h = h

  holds_for : (resets is_interleaved : Bool) (q : Queue) → Q q → Q (queue_for resets is_interleaved q)
  holds_for resets is_interleaved q h =
      let old : Bool = q.scheduler.is_interleaved in
      holds_mode K (length accepted) is_interleaved (queue_if (resets || other_mode is_interleaved old) q) (reset_if (resets || other_mode is_interleaved old) q h)

  -- another queue, and no items or the same
  with_queue : {avoids : Bool} (kept : List Item) (now : ℕ) (q next : Queue) (records : List GivenUp) → (Q q → Q next)
      → Sound accepted avoids resets kept now q records → Sound accepted avoids resets kept now next records
  with_queue kept now q next records f h = record { holds = f h.holds; stay = h.stay; justified = h.justified }

  anew : {avoids : Bool} (kept : List Item) (now : ℕ) (q next : Queue) (records : List GivenUp) → (Q q → Q next)
      → Sound accepted avoids resets kept now q records → Sound accepted avoids resets [] now next records
  anew kept now q next records f h = record { holds = f h.holds; stay = tt; justified = h.justified }

  -- what a sender goes on to, with the same queue
  onward : (avoids : Bool) (s t : Sender) (now : ℕ) (q : Queue) (emitted more : Emitted Carried)
      → (Goes K (IsJustifiedAt accepted avoids resets now) now (late accepted avoids resets now) (used accepted avoids resets now) s emitted
      → Goes K (IsJustifiedAt accepted avoids resets now) now (late accepted avoids resets now) (used accepted avoids resets now) t more)
      → Sound accepted avoids resets s.outstanding.items.kept now q emitted.given_up → Sound accepted avoids resets t.outstanding.items.kept now q more.given_up
  onward avoids s t now q emitted more f h =
      let g : Goes K (IsJustifiedAt accepted avoids resets now) now (late accepted avoids resets now) (used accepted avoids resets now) t more = f (record { keeps = h.stay; right = h.justified }) in
      record { holds = h.holds; stay = g.keeps; justified = g.right }

  on_answer : (o : Outcome) (kept : List Item) (c : Context Carried) → Sound accepted c.options.avoid_stalls resets kept c.now c.queue c.emitted.given_up
      → Sound accepted (on_outcome o c).options.avoid_stalls resets kept (on_outcome o c).now (on_outcome o c).queue (on_outcome o c).emitted.given_up
  on_answer Unsettled kept c h = h
  on_answer (Done streams) kept c h = record { holds = holds_each_stepped K (length accepted) Performed streams c.queue h.holds; stay = h.stay; justified = h.justified }
  on_answer (Denied streams) kept c h = record { holds = holds_each_stepped K (length accepted) Refused streams c.queue h.holds; stay = h.stay; justified = h.justified }

  -- where stalls are avoided, what waits is given up as the association is over, or the peer begins another one
  over_sound : (b : Bool) (kept : List Item) (now : ℕ) (q : Queue) (t : Emitted Carried) → Sound accepted b resets kept now q t.given_up
      → Sound accepted b resets kept now (empty_if b q t).queue (empty_if b q t).emitted.given_up
  over_sound false kept now q t h = h
  over_sound true kept now q t h = record {
    holds = holds_empty K (length accepted) q t h.holds;
    stay = h.stay;
    justified = empty_right K (IsJustifiedAt accepted true resets now) (ended_of accepted true resets refl now) (length accepted) q t h.holds h.justified;
  }

  -- ---- acts, of a call that offers no message and takes no handover up

  module _ (call : Call) (offers : (m : Message) (o : SendOptions) → IsOffered call m o → ⊥) (restores : (s : HandoverState) → call ≡ Restore s → ⊥)
      (asked : (streams : List ℕ) → call ≡ ResetStreams streams → resets ≡ streams) where
    sound_packets : (act : PacketAct Carried call) → Onward (before_packets act) (after_packets act)
    sound_packets (begins p m new summed to) h = h
    sound_packets (adds_plain chunk m plain others fair) h = h
    sound_packets (emits m some bundled) h = h
    sound_packets (emits_error kind text m) h = h
    sound_packets (counts m) h = h

    sound_opening : (act : OpeningAct Carried call) → Onward (before_opening act) (after_opening act)
    sound_opening (connects m is) h = h
    sound_opening (adds_init tag first t1 m to) h = h
    sound_opening (answers_new tag i m received to) h = h
    sound_opening (answers_waiting tag i my_tag first t1 m received to) h = h
    sound_opening (answers_echoed tag i t1 cookie t m received to) h = h
    sound_opening (answers_again tag i phase t m received late to) h = h
    sound_opening (echoes tag i cookie my_tag first t1 m received brought) h =
        anew [] m.context.now m.context.queue _ m.context.emitted.given_up
        (λ k. holds_mode K (length accepted) (agreed_by m.context.options i).message_interleaving (reset m.context.queue) (holds_reset K (length accepted) m.context.queue k)) h
    sound_opening (adds_cookie t1 cookie t m to) h = h
    sound_opening (establishes tag t1 cookie t m received) h = h
    sound_opening (opens tag k m echoed none own) h =
        anew (kept_in m.state) m.context.now m.context.queue _ m.context.emitted.given_up
        (holds_for m.context.options.avoid_stalls (negotiate m.context.options k.peer_capabilities).message_interleaving m.context.queue) h
    sound_opening (restarts tag k phase t m echoed verdict) h =
        let c : Context Carried = m.context in
        let d : Context Carried = emptied_if c.options.avoid_stalls c in
        let kept : List Item = t.sender.outstanding.items.kept in
        anew kept c.now d.queue _ d.emitted.given_up (holds_for true (negotiate c.options k.peer_capabilities).message_interleaving d.queue)
        (over_sound c.options.avoid_stalls kept c.now c.queue c.emitted h)
    sound_opening (opens_again tag k phase t m echoed verdict) h =
        anew t.sender.outstanding.items.kept m.context.now m.context.queue _ m.context.emitted.given_up
        (holds_for true (negotiate m.context.options k.peer_capabilities).message_interleaving m.context.queue) h
    sound_opening (maintains tag k t1 cookie t m echoed verdict) h = h
    sound_opening (adds_cookie_ack tag back phase t m echoed late) h = h

    sound_closing : (act : ClosingAct Carried call) → Onward (before_closing act) (after_closing act)
    sound_closing (closes e m there is) h =
        over_sound m.context.options.avoid_stalls [] m.context.now m.context.queue (ended e m.context).emitted
        (anew (kept_in m.state) m.context.now m.context.queue m.context.queue m.context.emitted.given_up (λ k. k) h)
    sound_closing (shuts phase t m is early) h = h
    sound_closing (shuts_on phase next t m late later) h = h

    sound_data : (act : DataAct Carried call) → Onward (before_data act) (after_data act)
    sound_data (takes_data tag tsn is_immediate f phase t m received right some takes) h = h
    sound_data (takes_idata tag tsn is_immediate f phase t m received right some takes) h = h
    sound_data (takes_forward tag tsn skipped phase t m received right valid) h = h
    sound_data (takes_iforward tag tsn skipped phase t m received right valid) h = h

    sound_sack : (act : SackAct Carried call) → Onward (before_sack act) (after_sack act)
    sound_sack (takes_sack tag k phase t m received valid) h =
        let avoids : Bool = m.context.options.avoid_stalls in
        onward avoids t.sender _ m.context.now m.context.queue m.context.emitted _
        (goes_sack K (IsJustifiedAt accepted avoids resets m.context.now) m.context.now (late accepted avoids resets m.context.now) (used accepted avoids resets m.context.now) true (point_of k t) k.a_rwnd
        (clean_blocks k.gap_ack_blocks) t.sender m.context.emitted) h
    sound_sack (samples r phase t m) h = h
    sound_sack (counts_errors e m) h = h

    sound_sending : (act : SendingAct Carried call) → Onward (before_sending act) (after_sending act)
    sound_sending (asks also_if_delayed phase t m) h = h
    sound_sending (forces_ack phase t m) h = h
    sound_sending (adds_ack phase t m) h = h
    sound_sending (expires phase t m) h =
        let avoids : Bool = m.context.options.avoid_stalls in
        onward avoids t.sender _ m.context.now m.context.queue m.context.emitted _
        (goes_expired K (IsJustifiedAt accepted avoids resets m.context.now) m.context.now (late accepted avoids resets m.context.now) (used accepted avoids resets m.context.now) t.sender m.context.emitted) h
    sound_sending (adds_forward phase t m due) h = h
    sound_sending (forwards_later n m) h = h
    sound_sending (asks_no_reset most m none) h =
        with_queue (kept_in m.state) m.context.now m.context.queue _ m.context.emitted.given_up
        (holds_each_stepped K (length accepted) Requested (streams_to_request most m.context.queue) m.context.queue) h
    sound_sending (asks_reset most stream streams phase t m some free) h =
        with_queue t.sender.outstanding.items.kept m.context.now m.context.queue _ m.context.emitted.given_up
        (holds_each_stepped K (length accepted) Requested (streams_to_request most m.context.queue) m.context.queue) h
    sound_sending (adds_request r phase t m is) h = h
    sound_sending (sends phase t m) h =
        let now : ℕ = m.context.now in
        let avoids : Bool = m.context.options.avoid_stalls in
        let f : Fills K (IsJustifiedAt accepted avoids resets now) now (late accepted avoids resets now) (used accepted avoids resets now) (length accepted) (fragments_of t m) =
        fills_sent K (IsJustifiedAt accepted avoids resets now) now (late accepted avoids resets now) (used accepted avoids resets now) (length accepted) (room m.packet) t.sender m.context.queue m.context.emitted h.holds h.stay h.justified in
        record { holds = f.holds; stay = f.keeps; justified = f.right }
    sound_sending (sends_fast phase t m some) h =
        record { holds = h.holds; stay = keeps_fast K m.context.now (fast_most m.context.options) t.sender h.stay; justified = h.justified }

    sound_time : (act : TimeAct Carried call) → Onward (before_time act) (after_time act)
    sound_time (advances now m is on) h =
        record { holds = h.holds; stay = h.stay; justified = justified_on accepted m.context.options.avoid_stalls resets m.context.now now m.context.emitted.given_up (ltb-false now m.context.now on) h.justified }
    sound_time (delay_ends phase t m) h = h
    sound_time (times_out phase t m due) h =
        let avoids : Bool = m.context.options.avoid_stalls in
        onward avoids t.sender _ m.context.now m.context.queue m.context.emitted _
        (goes_timed_out K (IsJustifiedAt accepted avoids resets m.context.now) m.context.now (late accepted avoids resets m.context.now) (used accepted avoids resets m.context.now) t.sender m.context.emitted) h
    sound_time (beats b m) h = h
    sound_time (times_init tag first old new m) h = h
    sound_time (times_cookie old new cookie t m) h = h
    sound_time (times_request timer phase t m) h = h
    sound_time (times_items timer phase t m) h = h
    sound_time (wakes_request phase t m) h = h

    sound_calls : (act : CallAct Carried call) → Onward (before_call act) (after_call act)
    sound_calls (accepts message o m offered fine) h = absurd (offers message o offered)
    sound_calls (refuses message o e m offered is) h = h
    sound_calls (takes_message phase t m is) h = h
    sound_calls (sets_low_threshold stream bytes m is) h =
        with_queue (kept_in m.state) m.context.now m.context.queue _ m.context.emitted.given_up (holds_threshold K (length accepted) stream bytes m.context.queue m.context.emitted) h
    sound_calls (sets_priority stream priority m is) h =
        with_queue (kept_in m.state) m.context.now m.context.queue _ m.context.emitted.given_up (holds_priority K (length accepted) stream priority m.context.queue) h
    sound_calls (sets_max_message_size bytes m is) h = h

    sound_resets : (act : ResetAct Carried call) → Onward (before_reset act) (after_reset act)
    sound_resets (prepares stream phase t m is can) h =
        let now : ℕ = m.context.now in
        let avoids : Bool = m.context.options.avoid_stalls in
        let named : list_any (λ id. id == stream) resets ≡ true =
        subst (λ (ids : List ℕ). list_any (λ id. id == stream) ids ≡ true) (sym (asked is.streams is.asked ∙ is.among.split)) (names_it stream is.among.before is.among.behind) in
        record {
          holds = holds_prepared K (length accepted) stream m.context.queue m.context.emitted h.holds;
          stay = h.stay;
          justified = waits_right K (IsJustifiedAt accepted avoids resets now) now (late accepted avoids resets now) stream (λ n limit o k. cleared accepted avoids resets now stream n limit o named k)
              (queue.stream stream m.context.queue.streams).messages m.context.emitted (stream_stands K stream m.context.queue.streams h.holds.stand) h.justified;
        }
    sound_resets (defers number response last_tsn streams phase t m asked known ahead) h = h
    sound_resets (performs number response last_tsn streams phase t m asked known there) h = h
    sound_resets (processes number streams phase t m asked known) h = h
    sound_resets (takes_response rto number result sender receiver phase t m asked) h =
        on_answer (outcome number result t.requests.current) t.sender.outstanding.items.kept m.context h
    sound_resets (adds_responses responses phase t m are answers) h = h

    sound_handover : (act : HandoverAct Carried call) → Onward (before_handover act) (after_handover act)
    sound_handover (leaves phase t m is) h = anew t.sender.outstanding.items.kept m.context.now m.context.queue m.context.queue m.context.emitted.given_up (λ k. k) h
    sound_handover (takes_up s m is valid) h = absurd (restores s is)

    sound_input : (act : InputAct Carried call) → Onward (before_input act) (after_input act)
    sound_input (ends_packet phase t m) h = h

    pub stays_sound : Preserves call Onward
    stays_sound = record {
      same = λ m h. h;
      through = λ {a} {b} {c} f g h. g (f h);
      packets = sound_packets;
      opening = sound_opening;
      closing = sound_closing;
      data_acts = sound_data;
      acknowledging = sound_sack;
      sending = sound_sending;
      time = sound_time;
      calls = sound_calls;
      resets = sound_resets;
      handover = sound_handover;
      input = sound_input;
    }
