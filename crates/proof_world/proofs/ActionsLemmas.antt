-- What an end makes of a call, a packet or bytes from elsewhere is an action of the trace.
use Rattle.std.proofs.Common.{◌≡◌, inl, inr, ℕ, ◌≤◌, ◌<◌, ◌^◌, ◌==◌, ◌||◌, ◌&&◌, Bool, true, false, Option, Some, None, List, [], ◌∷◌, ◌++◌, length, take, drop, slice_get, refl, sym, ap, subst, ◌∙◌, append-nil}
use Rattle.std.specs.Prelude.{All}
use Rattle.std.specs.Int.{w32, from_be_bytes}
use Rattle.std.specs.List.{list_any}
use Rattle.std.proofs.lemmas.Nat.{from_be_bytes-to_be_bytes_4}
use Rattle.std.proofs.lemmas.List.Folds.{list_any-append}
use Rattle.std.proofs.lemmas.Bool.{eqb-true, or_left, or_right, false_from_ne_true}
use Rattle.sctp_wire.specs.Field.{be16, be32}
use Rattle.sctp_packet.specs.Chunk.{ChunkTree}
use Rattle.sctp_packet.specs.Packet.{HeaderTree, PacketTree, FitsHeader, IsPacket, Accepts, lets_through, checksum_field, header_bytes, packet_bytes}
use Rattle.sctp_packet.proofs.PacketLemmas.{field_at}
use Rattle.sctp_packet.specs.Written.{chunks_bytes}
use Rattle.sctp_packet.proofs.LawLemmas.{one_packet_lem, never_both_lem}
use Rattle.sctp_state.specs.Options.{Options}
use Rattle.sctp_state.specs.Events.{Event, GivenUp, Emitted, nothing_emitted}
use Rattle.spec_endpoint.specs.Association.{Context, Endpoint}
use Rattle.spec_endpoint.specs.Input.{packet_refusal}
use Rattle.spec_endpoint.specs.Laws.{Call, ReceivePacket, ReceiveNoPacket, called}
use Rattle.spec_endpoint.specs.Receiving.{Receives, read, not_read, Judges, taken, refused, unread, policy_of}
use Rattle.spec_endpoint.specs.Wire.{field_of, word_at, AreBytes}
use Rattle.proof_endpoint.proofs.LawsLemmas.{stays_within}
use Rattle.proof_endpoint.specs.Mapped.{Mapping, Carried, map_end, as_written, as_bytes, as_carried}
use Rattle.proof_endpoint.specs.ReceivedBack.{IsReceivable}
use Rattle.proof_endpoint.specs.Sound.{IsSound, ArgumentFits}
use Rattle.proof_endpoint.specs.ReadBack.{EmitsWhatCanBeRead}
use Rattle.proof_endpoint.proofs.MappedLemmas.{maps_called}
use Rattle.proof_endpoint.proofs.ReceivedBackLemmas.{is_accepted}
use Rattle.proof_endpoint.proofs.SoundLawsLemmas.{stays_sound, can_be_read, stays_sound_refused, can_be_read_refused}
use Rattle.proof_endpoint.proofs.SoundReceivedLemmas.{emitted_fit}
use Rattle.proof_pair.specs.Trace as traces
use Rattle.proof_pair.specs.Trace.{EndAction, Calls, Refuses, drain, emitted_packets, give_carried, foreign_if, act, as_received}
use Rattle.proof_delivery.specs.GivenUp as giving
use Rattle.spec_world.specs.Observations.{End, A, B, same_end, Entry, Given, given_up}
use Rattle.spec_world.specs.World.{Side, association, news_of, take_emitted}
use Rattle.spec_endpoint.specs.Calls.{ready_at}
use Rattle.proof_world.specs.Traces.{is_let_through, give_action, IsGiveAction, IsForeign}
use Rattle.proof_world.specs.Consistent.{gets_init, is_init, is_some_init}
use Rattle.proof_world.proofs.EventLemmas.{Readable, all_readable, same_itself}
use Rattle.proof_world.proofs.LoggedLemmas.{given_up_news}
use Rattle.proof_world.proofs.SidesLemmas.{IsFirst, IsSilentOf, silent_first, silent_news, Good, stays_good, goes_good}
use Rattle.spec_endpoint.specs.Packets.{packets_in}

-- ---- one action of an end

-- the end is as after this action, its packets and the log have grown, and of the other end nothing is emitted
pub record Goes (word_of : List ℕ → ℕ) (x : End) (log : List Entry) (others : List (List ℕ)) (side : Side) (end beside : traces.Side) (action : EndAction) (new : Side) (longer : List Entry) : Type 0 where
  pub more : List Entry
  pub logged : longer ≡ log ++ more
  pub silent : (y : End) → same_end y x ≡ false → IsSilentOf y more
  pub sent : List (List ℕ)
  pub packets : new.packets ≡ side.packets ++ sent
  pub good : Good word_of x longer others new (act action end beside)
  pub given_up : given_up x more ≡ (giving.emitted_by action end beside).given_up

-- ---- what is emitted can be read back

readable_after : (c d : Context Carried) → c.emitted ≡ nothing_emitted → c.options.mtu ≤ 65535 → c.pack ≡ as_carried → EmitsWhatCanBeRead c d → All Readable (packets_in d.emitted.events)
readable_after c d quiet small is t =
    subst (λ (es : List (Event Carried)). All Readable (packets_in es)) (sym (t.behind ∙ ap (λ (z : Emitted Carried). z.events ++ t.events) quiet))
    (all_readable c.options.mtu c.pack small is t.events t.can_be_read)

-- ---- an INIT

tag_at : (h : HeaderTree) (word : ℕ) (cs : List ChunkTree) → FitsHeader h → from_be_bytes w32 (take 4 (drop 4 (packet_bytes h word cs))) ≡ h.verification_tag
unfolding packet_bytes header_bytes be16 be32
tag_at h word cs fits = from_be_bytes-to_be_bytes_4 h.verification_tag fits.verification_tag

-- ---- what a packet's field says

pub field_in : (h : HeaderTree) (word : ℕ) (cs : List ChunkTree) → word < 2 ^ 32 → checksum_field (packet_bytes h word cs) ≡ word
unfolding packet_bytes
field_in h word cs small = field_at h word (chunks_bytes cs) small

-- ---- an end

same_self : (x : End) (b : Bool) → b ≡ true → (same_end x x && b) ≡ true
same_self A b e = e
same_self B b e = e

or_of : (a b c : Bool) → (a ≡ true → c ≡ true) → (b ≡ true → c ≡ true) → (a || b) ≡ true → c ≡ true
or_of true b c f g e = f refl
or_of false b c f g e = g e

any_longer : (x : End) (ps : List (List ℕ)) (log more : List Entry) → list_any (gets_init x ps) log ≡ true → list_any (gets_init x ps) (log ++ more) ≡ true
any_longer x ps log more e = list_any-append (gets_init x ps) log more ∙ or_left (list_any (gets_init x ps) log) (list_any (gets_init x ps) more) e

module _ (word_of : List ℕ → ℕ) (x : End) (log : List Entry) (first : Entry) (others : List (List ℕ)) (side : Side) (end beside : traces.Side)
    (is_first : IsFirst first) (g : Good word_of x log others side end) (new : Side) (longer : List Entry) where
  abbrev written_of : Mapping Carried (List ℕ)
  written_of = as_bytes word_of

  abbrev own_endpoint : Endpoint Carried
  own_endpoint = end.end

  -- such an end as this went on to
  goes_by : (action : EndAction) (s : Endpoint Carried) (asked : Bool) → act action end beside ≡ record (drain s end) { got_init = asked }
      → s.endpoint_state.context.emitted.given_up ≡ (giving.emitted_by action end beside).given_up
      → IsSound s → s.endpoint_state.context.pack ≡ as_carried → All Readable (packets_in s.endpoint_state.context.emitted.events)
      → (asked ≡ true → list_any (gets_init x others) (log ++ first ∷ news_of x side (map_end written_of s)) ≡ true)
      → (after : Endpoint (List ℕ)) → after ≡ map_end written_of s → new ≡ take_emitted side after → longer ≡ log ++ first ∷ news_of x side after
      → Goes word_of x log others side end beside action new longer
  goes_by action s asked trace gave_up sound pack readable was after is news logged =
      let there : Endpoint (List ℕ) = map_end written_of s in
      let settles : new ≡ take_emitted side there = news ∙ ap (take_emitted side) is in
      let grows : longer ≡ log ++ first ∷ news_of x side there = logged ∙ ap (λ (z : Endpoint (List ℕ)). log ++ first ∷ news_of x side z) is in
      let good : Good word_of x (log ++ first ∷ news_of x side there) others (take_emitted side there) (record (drain s end) { got_init = asked }) =
      goes_good word_of x log first others side end s asked is_first sound pack readable was g in
      let moved : Good word_of x longer others (take_emitted side there) (record (drain s end) { got_init = asked }) =
      subst (λ (l : List Entry). Good word_of x l others (take_emitted side there) (record (drain s end) { got_init = asked })) (sym grows) good in
      let here : Good word_of x longer others new (record (drain s end) { got_init = asked }) =
      subst (λ (z : Side). Good word_of x longer others z (record (drain s end) { got_init = asked })) (sym settles) moved in
      record {
        more = first ∷ news_of x side there;
        logged = grows;
        silent = λ y d. silent_news y x d first is_first side there;
        sent = _;
        packets = ap (λ (z : Side). z.packets) settles;
        good = subst (λ (z : traces.Side). Good word_of x longer others new z) (sym trace) here;
        given_up =
            ap (λ (l : List GivenUp). l ++ given_up x (news_of x side there)) (is_first.given_up x)
            ∙ (given_up_news x (same_itself x) (length side.packets) (length (ready_at side.socket)) (association side.socket) there ∙ gave_up);
      }

  packing_after : (call : Call) → (called call own_endpoint).endpoint_state.context.pack ≡ as_carried
  packing_after call = (stays_within call own_endpoint g.sound.options.mtu_least).pack ∙ g.packing

  mapped_after : (call : Call) → called call side.socket ≡ map_end written_of (called call own_endpoint)
  mapped_after call = ap (called call) g.image.socket ∙ maps_called written_of call own_endpoint

  was_before : (more : List Entry) → end.got_init ≡ true → list_any (gets_init x others) (log ++ more) ≡ true
  was_before more e = any_longer x others log more (g.asked e)

  pub call_goes : (call : Call) → ArgumentFits call → (after : Endpoint (List ℕ)) → after ≡ called call side.socket → new ≡ take_emitted side after
      → longer ≡ log ++ first ∷ news_of x side after → Goes word_of x log others side end beside (Calls call) new longer
  call_goes call fits after is news logged =
      goes_by (Calls call) (called call own_endpoint) end.got_init refl refl (stays_sound call own_endpoint g.sound fits) (packing_after call)
      (readable_after own_endpoint.endpoint_state.context (called call own_endpoint).endpoint_state.context g.image.quiet g.sound.options.mtu_most g.packing (can_be_read call own_endpoint g.sound fits))
      (was_before (first ∷ news_of x side (map_end written_of (called call own_endpoint))))
      after (is ∙ mapped_after call) news logged

  -- ---- a packet of the other end

  module _ (word_beside : List ℕ → ℕ) (n clock : ℕ) (p : Carried) (reads : Readable p) (there : slice_get (emitted_packets beside) n ≡ Some p)
      (given_there : slice_get others n ≡ Some (as_written word_beside p)) (small : AreBytes (as_written word_beside p)) (is_given : first ≡ Given x clock n) where
    abbrev packet : List ℕ
    packet = as_written word_beside p

    abbrev sum : ℕ
    sum = field_of word_beside p.header p.is_summed p.chunks

    abbrev lenient : Options
    lenient = record own_endpoint.endpoint_state.context.options { disable_checksum_verification = true }

    hearable : IsReceivable lenient p
    hearable = record { header = reads.header; chunks = reads.chunks; short = reads.short; sum = refl }

    received_as : (q : PacketTree) → IsPacket packet q → q ≡ as_received p sum
    received_as q is = one_packet_lem packet q (as_received p sum) is (is_accepted word_beside p lenient hearable).packet

    an_init : p.header.verification_tag ≡ 0 → is_init packet ≡ true
    an_init e = ap (λ (k : ℕ). k == 0) (tag_at p.header sum p.chunks reads.header ∙ e)

    asks_first : (p.header.verification_tag == 0) ≡ true → gets_init x others first ≡ true
    asks_first e =
        ap (gets_init x others) is_given
        ∙ same_self x (is_some_init (slice_get others n)) (ap is_some_init given_there ∙ an_init (eqb-true p.header.verification_tag 0 e))

    was_now : (more : List Entry) → (end.got_init || (p.header.verification_tag == 0)) ≡ true → list_any (gets_init x others) (log ++ first ∷ more) ≡ true
    was_now more e =
        or_of end.got_init (p.header.verification_tag == 0) (list_any (gets_init x others) (log ++ first ∷ more))
        (was_before (first ∷ more))
        (λ z. list_any-append (gets_init x others) log (first ∷ more)
        ∙ or_right (list_any (gets_init x others) log) (list_any (gets_init x others) (first ∷ more)) (or_left (gets_init x others first) (list_any (gets_init x others) more) (asks_first z)))
        e

    abbrev call : Call
    call = ReceivePacket (as_received p sum)

    given_as : (q : PacketTree) → q ≡ as_received p sum → ArgumentFits (ReceivePacket q) → (after : Endpoint (List ℕ)) → after ≡ called (ReceivePacket q) side.socket
        → new ≡ take_emitted side after → longer ≡ log ++ first ∷ news_of x side after → Goes word_of x log others side end beside (traces.Gives n sum) new longer
    given_as q same q_fits after is news logged =
        let fits : ArgumentFits call = subst (λ (z : PacketTree). ArgumentFits (ReceivePacket z)) same q_fits in
        goes_by (traces.Gives n sum) (called call own_endpoint) (end.got_init || (p.header.verification_tag == 0)) (ap (λ (o : Option Carried). give_carried o sum end) there)
        (sym (ap (λ (o : Option Carried). (giving.emitted_given o sum end).given_up) there))
        (stays_sound call own_endpoint g.sound fits) (packing_after call)
        (readable_after own_endpoint.endpoint_state.context (called call own_endpoint).endpoint_state.context g.image.quiet g.sound.options.mtu_most g.packing (can_be_read call own_endpoint g.sound fits))
        (was_now (news_of x side (map_end written_of (called call own_endpoint))))
        after (is ∙ (ap (λ (z : PacketTree). called (ReceivePacket z) side.socket) same ∙ mapped_after call)) news logged

    module _ (by : List ℕ → ℕ) (is_own : by ≡ word_of) where
      same_options : side.socket.endpoint_state.context.options ≡ own_endpoint.endpoint_state.context.options
      same_options = ap (λ (z : Endpoint (List ℕ)). z.endpoint_state.context.options) g.image.socket

      same_word : word_at by packet ≡ word_at word_of packet
      same_word = ap (λ (f : List ℕ → ℕ). word_at f packet) is_own

      abbrev passes : Bool
      passes = is_let_through word_of word_beside own_endpoint.endpoint_state.context.options p

      passes_as : lets_through (policy_of side.socket.endpoint_state.context.options) (word_at by packet) sum ≡ passes
      passes_as =
          ap (λ (o : Options). lets_through (policy_of o) (word_at by packet) sum) same_options
          ∙ ap (λ (k : ℕ). lets_through (policy_of own_endpoint.endpoint_state.context.options) k sum) same_word

      accepts_it : passes ≡ true → Accepts (policy_of side.socket.endpoint_state.context.options) (word_at by packet) packet (as_received p sum)
      accepts_it e =
          let lenient_too : Accepts (policy_of lenient) (word_at word_beside packet) packet (as_received p sum) = is_accepted word_beside p lenient hearable in
          record { packet = lenient_too.packet; short_enough = lenient_too.short_enough; sum = passes_as ∙ e }

      received_action : (action : EndAction) (b : Bool) → passes ≡ b → action ≡ give_action b n sum → IsGiveAction word_of word_beside n end beside action
      received_action action b e is = record { carried = p; there = there; received = is ∙ ap (λ (c : Bool). give_action c n sum) (sym e) }

      pub given_goes : (after : Endpoint (List ℕ)) → Receives by packet side.socket after → new ≡ take_emitted side after
          → longer ≡ log ++ first ∷ news_of x side after
          → (action : EndAction) × IsGiveAction word_of word_beside n end beside action × Goes word_of x log others side end beside action new longer
      given_goes after (read q accepts is) news logged =
          let same : q ≡ as_received p sum = received_as q accepts.packet in
          let yes_it : passes ≡ true =
          sym passes_as ∙ (sym (ap (λ (z : PacketTree). lets_through (policy_of side.socket.endpoint_state.context.options) (word_at by packet) z.checksum) same) ∙ accepts.sum) in (
            traces.Gives n sum,
            received_action (traces.Gives n sum) true yes_it refl,
            given_as q same
                (emitted_fit word_beside 65535 p (policy_of side.socket.endpoint_state.context.options) (word_at by packet) q reads small accepts) after is news logged,
          )
      given_goes after (not_read fault is_fault refuses is) news logged =
          let no_it : passes ≡ false =
          false_from_ne_true passes (λ e. never_both_lem (policy_of side.socket.endpoint_state.context.options) (word_at by packet) packet fault (as_received p sum) is_fault refuses (accepts_it e)) in
          (Calls ReceiveNoPacket, received_action (Calls ReceiveNoPacket) false no_it refl, call_goes ReceiveNoPacket tt after is news logged)

  -- ---- bytes from elsewhere

  state_is : side.socket.endpoint_state.state ≡ own_endpoint.endpoint_state.state
  state_is = ap (λ (z : Endpoint (List ℕ)). z.endpoint_state.state) g.image.socket

  refused_as : (q : PacketTree) (text : List ℕ) → packet_refusal q.header.verification_tag q.chunks side.socket.endpoint_state.state ≡ Some text
      → (after : Endpoint (List ℕ)) → after ≡ called (ReceivePacket q) side.socket → new ≡ take_emitted side after → longer ≡ log ++ first ∷ news_of x side after
      → Goes word_of x log others side end beside (Refuses q) new longer
  refused_as q text why after is news logged =
      let e : packet_refusal q.header.verification_tag q.chunks own_endpoint.endpoint_state.state ≡ Some text =
      ap (packet_refusal q.header.verification_tag q.chunks) (sym state_is) ∙ why in
      goes_by (Refuses q) (called (ReceivePacket q) own_endpoint) end.got_init (ap (λ (o : Option (List ℕ)). foreign_if o q end) e)
      (sym (ap (λ (o : Option (List ℕ)). (giving.emitted_foreign o q end).given_up) e))
      (stays_sound_refused q text own_endpoint g.sound e) (packing_after (ReceivePacket q))
      (readable_after own_endpoint.endpoint_state.context (called (ReceivePacket q) own_endpoint).endpoint_state.context g.image.quiet g.sound.options.mtu_most g.packing (can_be_read_refused q text own_endpoint g.sound e))
      (was_before (first ∷ news_of x side (map_end written_of (called (ReceivePacket q) own_endpoint))))
      after (is ∙ mapped_after (ReceivePacket q)) news logged

  refused_by : (by : List ℕ → ℕ) (bytes : List ℕ) (q : PacketTree) → Accepts (policy_of side.socket.endpoint_state.context.options) (word_at by bytes) bytes q
      → (is_refused : Bool) → is_refused ≡ true → Judges by bytes side.socket.endpoint_state.context.options side.socket.endpoint_state.state is_refused
      → (text : List ℕ) × (packet_refusal q.header.verification_tag q.chunks side.socket.endpoint_state.state ≡ Some text)
  refused_by by bytes q accepts is_refused is_true (taken p a why is) = cc
  refused_by by bytes q accepts is_refused is_true (refused p text a why is) =
      (text, ap (λ (z : PacketTree). packet_refusal z.header.verification_tag z.chunks side.socket.endpoint_state.state) (one_packet_lem bytes q p accepts.packet a.packet) ∙ why)
  refused_by by bytes q accepts is_refused is_true (unread fault is_fault refuses is) =
      absurd (never_both_lem (policy_of side.socket.endpoint_state.context.options) (word_at by bytes) bytes fault q is_fault refuses accepts)

  pub foreign_goes : (by : List ℕ → ℕ) (bytes : List ℕ) → Judges by bytes side.socket.endpoint_state.context.options side.socket.endpoint_state.state true
      → (after : Endpoint (List ℕ)) → Receives by bytes side.socket after → new ≡ take_emitted side after → longer ≡ log ++ first ∷ news_of x side after
      → (action : EndAction) × IsForeign bytes action × Goes word_of x log others side end beside action new longer
  foreign_goes by bytes judges after (read q accepts is) news logged =
      let why = refused_by by bytes q accepts true refl judges in
      (Refuses q, inl (q, accepts.packet, refl), refused_as q why.0 why.1 after is news logged)
  foreign_goes by bytes judges after (not_read fault is_fault refuses is) news logged = (Calls ReceiveNoPacket, inr refl, call_goes ReceiveNoPacket tt after is news logged)

  -- bytes that the end would take are skipped
  pub skipped_goes : (by : List ℕ → ℕ) (bytes : List ℕ) (is_refused : Bool) → is_refused ≡ false → Judges by bytes side.socket.endpoint_state.context.options side.socket.endpoint_state.state is_refused
      → new ≡ side → longer ≡ log ++ first ∷ []
      → (action : EndAction) × IsForeign bytes action × Goes word_of x log others side end beside action new longer
  skipped_goes by bytes is_refused is_false (taken p a why is) same logged =
      let e : packet_refusal p.header.verification_tag p.chunks own_endpoint.endpoint_state.state ≡ None = ap (packet_refusal p.header.verification_tag p.chunks) (sym state_is) ∙ why in
      let stays : Good word_of x (log ++ first ∷ []) (others ++ []) side end = stays_good word_of x log (first ∷ []) others [] side end (silent_first x first is_first) g in
      let here : Good word_of x (log ++ first ∷ []) others side end = subst (λ (o : List (List ℕ)). Good word_of x (log ++ first ∷ []) o side end) (append-nil others) stays in
      let moved : Good word_of x longer others side end = subst (λ (l : List Entry). Good word_of x l others side end) (sym logged) here in
      let at_new : Good word_of x longer others new end = subst (λ (z : Side). Good word_of x longer others z end) (sym same) moved in (
        Refuses p,
        inl (p, a.packet, refl),
        record {
          more = first ∷ [];
          logged = logged;
          silent = λ y d. silent_first y first is_first;
          sent = [];
          packets = ap (λ (z : Side). z.packets) same ∙ sym (append-nil side.packets);
          good = subst (λ (z : traces.Side). Good word_of x longer others new z) (sym (ap (λ (o : Option (List ℕ)). foreign_if o p end) e)) at_new;
          given_up = ap (λ (l : List GivenUp). l ++ []) (is_first.given_up x) ∙ sym (ap (λ (o : Option (List ℕ)). (giving.emitted_foreign o p end).given_up) e);
        },
      )
  skipped_goes by bytes is_refused is_false (refused p text a why is) same logged = cc
  skipped_goes by bytes is_refused is_false (unread fault is_fault refuses is) same logged = cc
