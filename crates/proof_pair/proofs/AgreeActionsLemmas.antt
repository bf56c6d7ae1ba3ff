-- Along each trace in which no end draws a tag twice: an end that emits `OnConnected` holds what the other holds or held,
-- by what each held after an action.
use Rattle.std.proofs.Common.{◌≡◌, ℕ, ◌||◌, ◌==◌, Bool, true, false, Option, Some, None, List, [], ◌∷◌, ◌++◌, ◌⊎◌, inl, inr, map, slice_get, length, drop, All, refl, sym, ap, subst, ◌∙◌, append-nil}
use Rattle.std.proofs.lemmas.Bool.{both_ways}
use Rattle.std.proofs.lemmas.List.Elements.{All-nil, All-cons, All-head, All-tail, All-weaker}
use Rattle.rand_core.specs.Stream.{Stream}
use Rattle.sctp_packet.specs.Chunk.{ChunkTree}
use Rattle.sctp_packet.specs.Grammar.{carried}
use Rattle.sctp_packet.specs.Packet.{PacketTree}
use Rattle.sctp_state.specs.declared.api.ErrorKind.TheVariants.{ParseFailed}
use Rattle.sctp_state.specs.Events.{Event}
use Rattle.sctp_state.specs.Options.{Options}
use Rattle.spec_endpoint.specs.Association.{State, Closed, CookieWait, Open, Endpoint}
use Rattle.spec_endpoint.specs.Opening.{emit_parse_error}
use Rattle.spec_endpoint.specs.Input.{packet_refusal, count_packet_at, packet_unless, on_accepted_packet, receive, misuse, violation, in_endpoint_state, repeats_if, has_data_chunk}
use Rattle.spec_endpoint.specs.Laws.{Call, Connect, ReceivePacket, ReceiveNoPacket, called}
use Rattle.proof_endpoint.specs.Mapped.{Carried, as_carried}
use Rattle.proof_endpoint.specs.Acts.{calm, is_opened, BringsChunk}
use Rattle.proof_pair.specs.Trace.{Side, Pair, new_side, emitted_packets, has_connected, EndAction, Calls, Gives, Refuses, drain, as_received, give_carried, foreign_if, act, goes, AreValidOptions, start, state_of}
use Rattle.proof_pair.specs.Agreement.{Draw, Association, mirrored, Has, History, association_of, held_in, drawn_in, history_after, Histories, no_history, no_histories, histories_after, histories_along, AreDistinct, AreDistinctPerEnd, IsPlainCall, IsAllowed, AreAllowed, emitted_since, Agrees, AgreesAlong, EndsAgree}
use Rattle.spec_endpoint.specs.Packets.{packets_in}
use Rattle.proof_endpoint.proofs.PacketActsLemmas.{does_emit_error}
use Rattle.proof_endpoint.proofs.ActsLemmas.{keeps_call, does_receive, does_repeats_if}
use Rattle.proof_pair.proofs.AddedLemmas.{all_at, all_get}
use Rattle.proof_pair.proofs.NegotiatedLemmas.{Emits, emits_carried, emits_right, Able}
use Rattle.proof_pair.proofs.NegotiatedLemmas as negotiated
use Rattle.proof_pair.proofs.NegotiatedActsLemmas.{Setting, EmitsAll, InvAt, Receives, negotiates}
use Rattle.proof_pair.proofs.AgreeLemmas.{Past, Shape, Said}
use Rattle.proof_pair.proofs.AgreeNotesLemmas.{noted_taking, noted_given, noted_in, noted_all, same_draws}
use Rattle.proof_pair.proofs.AgreeWithoutOpeningLemmas.{BringsNoOpening, RestsAt, rests}
use Rattle.proof_pair.proofs.AgreeCookieLemmas.{past_of, has_behind}
use Rattle.proof_pair.proofs.AgreePacketLemmas.{shape_carried, distinct_behind}
use Rattle.proof_pair.proofs.AgreeTraceLemmas.{Knows, Turned, drop_emitted, knows_other, actions, knows_start}
use Rattle.proof_pair.proofs.AgreeWithinLemmas.{no_packet_brings_no_opening, Stands, not_yet, has_either, receives_within}

-- ---- what was negotiated, between actions

record Negotiated (o q : Options) (x : Side) : Type 0 where
  able : Able o q (negotiated.view_of (state_of x))
  size : ℕ
  options : x.end.endpoint_state.context.options ≡ record o { max_message_size = size }
  packing : x.end.endpoint_state.context.pack ≡ as_carried
  quiet : x.end.endpoint_state.context.emitted.events ≡ []
  said : All (EmitsAll o q) (packets_in x.emitted)

abbrev setting : (o q : Options) → Side → Setting
setting o q x = record { own = o; other = q; past = x.emitted }

negotiated_start : (o q : Options) (draws : Stream) → Negotiated o q (new_side o draws)
negotiated_start o q draws = record {
  able = tt;
  size = o.max_message_size;
  options = refl;
  packing = refl;
  quiet = refl;
  said = All-nil (EmitsAll o q);
}

negotiated_begins : (o q : Options) (x : Side) → Negotiated o q x → InvAt (setting o q x) (calm x.end)
negotiated_begins o q x k = record {
  able = k.able;
  size = k.size;
  options = k.options;
  packing = k.packing;
  said = subst (λ (es : List (Event Carried)). All (EmitsAll o q) (packets_in (x.emitted ++ es))) (sym k.quiet)
      (subst (λ (es : List (Event Carried)). All (EmitsAll o q) (packets_in es)) (sym (append-nil x.emitted)) k.said);
  made = All-nil (Emits o q);
}

negotiated_ends : (o q : Options) (x : Side) (e : Endpoint Carried) (asked : Bool) → InvAt (setting o q x) (calm e) → Negotiated o q (record (drain e x) { got_init = asked })
negotiated_ends o q x e asked i = record { able = i.able; size = i.size; options = i.options; packing = i.packing; quiet = refl; said = i.said }

-- what the other end said, as it is received
received_all : (o q : Options) (cs : List ChunkTree) → All (Emits q o) cs → All (Emits q o) (map carried cs)
received_all o q [] h = All-nil (Emits q o)
received_all o q (c ∷ cs) h =
    All-cons (Emits q o) (carried c) (map carried cs) (emits_carried q o c (All-head (Emits q o) c cs h)) (received_all o q cs (All-tail (Emits q o) c cs h))

module _ (o q : Options) (x : Side) (own : AreValidOptions o) (other : AreValidOptions q) where
  abbrev g : Setting
  g = setting o q x

  receives_user : (call : Call) → IsPlainCall call → Receives g call
  receives_user call u = record {
    says = λ tag chunk h. absurd (subst IsPlainCall h.given u);
    restores = λ h e. subst IsPlainCall e u;
    own = own;
    other = other;
  }

  receives_nothing : Receives g ReceiveNoPacket
  receives_nothing = receives_user ReceiveNoPacket tt

  receives_packet : (p : PacketTree) → All (Emits q o) p.chunks → Receives g (ReceivePacket p)
  receives_packet p all = record {
    says = λ tag chunk h.
        let same : p ≡ h.packet = ap (λ call. elim call [ ReceivePacket r ↦ r | call ↦ p ]) h.given in
        let there : All (Emits q o) h.packet.chunks = subst (λ (r : PacketTree). All (Emits q o) r.chunks) same all in
        all_at (Emits q o) h.among.before h.among.behind chunk (subst (All (Emits q o)) h.among.split there);
    restores = λ h e. cc;
    own = own;
    other = other;
  }

  -- a chunk of the other end is received
  receives_chunk : (p : PacketTree) (c : ChunkTree) (e : Endpoint Carried) → Emits q o c → InvAt g (calm e) → InvAt g (calm (receive p.header.verification_tag c e).end)
  receives_chunk p c e said i =
      let one : PacketTree = record p { chunks = c ∷ [] } in
      let h : BringsChunk (ReceivePacket one) p.header.verification_tag c =
      record { packet = one; given = refl; under = refl; among = record { before = []; behind = []; split = refl } } in
      does_receive (negotiates g (ReceivePacket one) (receives_packet one (All-cons (Emits q o) c [] said (All-nil (Emits q o))))) p.header.verification_tag c e h i

  right_in : (c : ChunkTree) (s : State) → Emits q o c → Able o q (negotiated.view_of s) → violation s c ≡ None
  right_in c Closed said able = refl
  right_in c (CookieWait tag first t1) said able = refl
  right_in c (Open phase t) said able = ap (λ k. misuse k c) able.agrees ∙ emits_right q o c said

  -- ---- actions

  negotiated_call : (call : Call) → IsPlainCall call → Negotiated o q x → Negotiated o q (drain (called call x.end) x)
  negotiated_call call u k =
      negotiated_ends o q x (called call x.end) x.got_init (keeps_call call (negotiates g call (receives_user call u)) x.end (negotiated_begins o q x k))

  emitted_error : (text : List ℕ) → Negotiated o q x → InvAt g (calm (emit_parse_error text (count_packet_at x.end)))
  emitted_error text k =
      does_emit_error (negotiates g ReceiveNoPacket receives_nothing) ParseFailed text (state_of x) (count_packet_at x.end).endpoint_state.context x.end.draws (negotiated_begins o q x k)

  negotiated_foreign : (r : Option (List ℕ)) (p : PacketTree) → packet_refusal p.header.verification_tag p.chunks (state_of x) ≡ r → Negotiated o q x
      → Negotiated o q (foreign_if r p x)
  negotiated_foreign None p is k = k
  negotiated_foreign (Some text) p is k =
      let e : Endpoint Carried = called (ReceivePacket p) x.end in
      let here : e ≡ emit_parse_error text (count_packet_at x.end) = ap (λ (r : Option (List ℕ)). packet_unless r p.header.verification_tag p.chunks (count_packet_at x.end)) is in
      negotiated_ends o q x e x.got_init (subst (λ (z : Endpoint Carried). InvAt g (calm z)) (sym here) (emitted_error text k))

  negotiated_given : (p : Option Carried) (checksum which : ℕ) (ps : List Carried) → All (EmitsAll q o) ps → slice_get ps which ≡ p → Negotiated o q x
      → Negotiated o q (give_carried p checksum x)
  negotiated_given None checksum which ps all is k = k
  negotiated_given (Some p) checksum which ps all is k =
      let h : PacketTree = as_received p checksum in
      let said : All (Emits q o) h.chunks = received_all o q p.chunks (all_get (EmitsAll q o) ps which p is all) in
      negotiated_ends o q x (called (ReceivePacket h) x.end) (x.got_init || (p.header.verification_tag == 0))
      (keeps_call (ReceivePacket h) (negotiates g (ReceivePacket h) (receives_packet h said)) x.end (negotiated_begins o q x k))

  negotiated_action : (t : EndAction) (y : Side) → IsAllowed t → Negotiated o q x → Negotiated q o y → Negotiated o q (act t x y)
  negotiated_action (Calls call) y may k l = negotiated_call call may k
  negotiated_action (Gives which checksum) y may k l = negotiated_given (slice_get (emitted_packets y) which) checksum which (emitted_packets y) l.said refl k
  negotiated_action (Refuses p) y may k l = negotiated_foreign (packet_refusal p.header.verification_tag p.chunks (state_of x)) p refl k

-- ---- within an action

-- what was held in an action was held before it or is held after it, and who emitted `OnConnected` is open
record Holds (x z : Side) (n m : History) : Type 0 where
  held : (a : Association) → Has a m.held → Has a n.held ⊎ (Has a (held_in (state_of x)) ⊎ Has a (held_in (state_of z)))
  stands : has_connected (emitted_since x z) ≡ true → is_opened (state_of z) ≡ true

module _ (x : Side) where
  silent : emitted_since x x ≡ []
  silent = ap (drop (length x.emitted)) (sym (append-nil x.emitted)) ∙ drop_emitted x.emitted []

  holds_same : (n : History) → Holds x x n n
  holds_same n = record { held = λ a h. inl h; stands = λ h. absurd (both_ways true (sym h ∙ ap has_connected silent) refl) }

  holds_on : (n m : History) (e : Endpoint Carried) (asked : Bool) → ((a : Association) → Has a m.held → Has a n.held ⊎ (Has a (held_in (state_of x)) ⊎ Has a (held_in e.endpoint_state.state)))
      → Stands e → Holds x (record (drain e x) { got_init = asked }) n m
  holds_on n m e asked held stands = record {
    held = held;
    stands = λ h. stands (sym (ap has_connected (drop_emitted x.emitted e.endpoint_state.context.emitted.events)) ∙ h);
  }

  -- where no association is taken up
  holds_if_rests : (n m : History) (e : Endpoint Carried) (asked : Bool) → m.held ≡ n.held → x.end.endpoint_state.context.emitted.events ≡ [] → RestsAt (calm x.end) (calm e)
      → Holds x (record (drain e x) { got_init = asked }) n m
  holds_if_rests n m e asked same quiet r =
      holds_on n m e asked (λ a h. inl (subst (Has a) same h)) (not_yet x.end e (ap has_connected quiet) r)

plain_call_brings_no_opening : (call : Call) → IsPlainCall call → BringsNoOpening call
plain_call_brings_no_opening call u = record { on_received = λ tag chunk h. absurd (subst IsPlainCall h.given u); restores = λ h e. subst IsPlainCall e u }

held_alike : (call : Call) (x y : Side) (n : History) → (noted_in (Calls call) x y n).held ≡ n.held
held_alike Connect x y n = refl
held_alike call x y n = refl

module _ (o q : Options) (x y : Side) (own : AreValidOptions o) (other : AreValidOptions q) (k : Negotiated o q x) (l : Negotiated q o y) where
  holds_call : (call : Call) → IsPlainCall call → (n : History) → Holds x (drain (called call x.end) x) n (noted_in (Calls call) x y n)
  holds_call call u n =
      holds_if_rests x n (noted_in (Calls call) x y n) (called call x.end) x.got_init (held_alike call x y n) k.quiet
      (keeps_call call (rests call (plain_call_brings_no_opening call u)) x.end)

  refused_packet_rests : (text : List ℕ) → RestsAt (calm x.end) (calm (emit_parse_error text (count_packet_at x.end)))
  refused_packet_rests text = does_emit_error (rests ReceiveNoPacket no_packet_brings_no_opening) ParseFailed text (state_of x) (count_packet_at x.end).endpoint_state.context x.end.draws

  holds_foreign : (r : Option (List ℕ)) (p : PacketTree) → packet_refusal p.header.verification_tag p.chunks (state_of x) ≡ r → (n : History) → Holds x (foreign_if r p x) n n
  holds_foreign None p is n = holds_same x n
  holds_foreign (Some text) p is n =
      let e : Endpoint Carried = called (ReceivePacket p) x.end in
      let here : e ≡ emit_parse_error text (count_packet_at x.end) = ap (λ (r : Option (List ℕ)). packet_unless r p.header.verification_tag p.chunks (count_packet_at x.end)) is in
      holds_if_rests x n n e x.got_init refl k.quiet (subst (λ (z : Endpoint Carried). RestsAt (calm x.end) (calm z)) (sym here) (refused_packet_rests text))

  holds_taken : (r : Option (List ℕ)) (p : PacketTree) (asked : Bool) → Shape p.chunks → All (Emits q o) p.chunks → (n : History)
      → Holds x (record (drain (packet_unless r p.header.verification_tag p.chunks (count_packet_at x.end)) x) { got_init = asked }) n (noted_taking r p x.end n)
  holds_taken (Some text) p asked shape said n = holds_if_rests x n n (emit_parse_error text (count_packet_at x.end)) asked refl k.quiet (refused_packet_rests text)
  holds_taken None p asked shape said n =
      let tag : ℕ = p.header.verification_tag in
      let first : Endpoint Carried = in_endpoint_state (repeats_if (has_data_chunk p.chunks)) (count_packet_at x.end) in
      let begun : InvAt (setting o q x) (calm first) =
      does_repeats_if (negotiates (setting o q x) ReceiveNoPacket (receives_nothing o q x own other)) (has_data_chunk p.chunks) (count_packet_at x.end).endpoint_state x.end.draws (negotiated_begins o q x k) in
      let calmly : RestsAt (calm x.end) (calm first) = does_repeats_if (rests ReceiveNoPacket no_packet_brings_no_opening) (has_data_chunk p.chunks) (count_packet_at x.end).endpoint_state x.end.draws in
      let w = receives_within p (λ e. InvAt (setting o q x) (calm e)) (Emits q o) (λ c e said i. receives_chunk o q x own other p c e said i)
      (λ c e said i. right_in o q x own other c e.endpoint_state.state said i.able) p.chunks x.end first n calmly (ap has_connected k.quiet) shape said begun in
      holds_on x n (noted_taking None p x.end n) (on_accepted_packet tag p.chunks (count_packet_at x.end)) asked w.held w.stands

  holds_given : (p : Option Carried) (checksum which : ℕ) (ps : List Carried) → All (EmitsAll q o) ps → All (λ r. Shape r.chunks) ps → slice_get ps which ≡ p → (n : History)
      → Holds x (give_carried p checksum x) n (noted_given p checksum x n)
  holds_given None checksum which ps all shapes is n = holds_same x n
  holds_given (Some p) checksum which ps all shapes is n =
      let h : PacketTree = as_received p checksum in
      holds_taken (packet_refusal h.header.verification_tag h.chunks (state_of x)) h (x.got_init || (p.header.verification_tag == 0))
      (shape_carried p.chunks (all_get (λ r. Shape r.chunks) ps which p is shapes)) (received_all o q p.chunks (all_get (EmitsAll q o) ps which p is all)) n

  holds_action : (t : EndAction) → IsAllowed t → All (λ r. Shape r.chunks) (emitted_packets y) → (n : History) → Holds x (act t x y) n (noted_in t x y n)
  holds_action (Calls call) may shapes n = holds_call call may n
  holds_action (Gives which checksum) may shapes n = holds_given (slice_get (emitted_packets y) which) checksum which (emitted_packets y) l.said shapes refl n
  holds_action (Refuses p) may shapes n = holds_foreign (packet_refusal p.header.verification_tag p.chunks (state_of x)) p refl n

-- ---- histories of actions beside those of chunks

pub has_front : {A : Type 0} (a : A) (xs ys : List A) → Has a xs → Has a (xs ++ ys)
has_front a [] ys h = absurd h
has_front a (x ∷ xs) ys (inl e) = inl e
has_front a (x ∷ xs) ys (inr h) = inr (has_front a xs ys h)

some_held : (s : State) → is_opened s ≡ true → (a : Association) × Has a (held_in s)
some_held Closed e = cc
some_held (CookieWait tag first t1) e = cc
some_held (Open phase t) e = (association_of t, inl refl)

record Matches (x : Side) (n m : History) : Type 0 where
  drawn : n.drawn ≡ m.drawn
  held : (a : Association) → Has a n.held → Has a m.held
  now : (a : Association) → Has a (held_in (state_of x)) → Has a m.held

matches_on : (t : EndAction) (x y : Side) (n m : History) → Holds x (act t x y) n (noted_in t x y n) → Matches x n m → Matches (act t x y) (noted_all t x y n) (history_after t x y m)
matches_on t x y n m w h =
    let z : List Association = held_in (state_of (act t x y)) in
    record {
      drawn = same_draws t x y n ∙ ap (λ (ds : List Draw). drawn_in t x y ++ ds) h.drawn;
      held = λ a k. elim (has_either a z (noted_in t x y n).held k) [
        | inl b ↦ has_front a z m.held b
        | inr b ↦ elim (w.held a b) [
          | inl c ↦ has_behind a z m.held (h.held a c)
          | inr c ↦ elim c [ inl d ↦ has_behind a z m.held (h.now a d) | inr d ↦ has_front a z m.held d ]
        ]
      ];
      now = λ a k. has_front a z m.held k;
    }

agrees_by : (o : Options) (x z : Side) (n n2 : History) (e1 e2 : List Association) (r s : History) (y : Side) → Turned o x z n e1 n2 (past_of r e2) → Matches y r s
    → (has_connected (emitted_since x z) ≡ true → is_opened (state_of z) ≡ true) → Agrees x z s
agrees_by o x z n n2 e1 e2 r s y d m stands t =
    let some = some_held (state_of z) (stands t) in
    (some.0, some.1, m.held (mirrored some.0) (d.agrees t some.0 some.1))

-- ---- draws before

distinct_before : (at_a : Bool) (t : EndAction) (w : Pair) (k : Histories) → AreDistinctPerEnd (histories_after at_a t w k) → AreDistinctPerEnd k
distinct_before true t w k h = (distinct_behind (drawn_in t w.a w.b) k.a.drawn h.0, h.1)
distinct_before false t w k h = (h.0, distinct_behind (drawn_in t w.b w.a) k.b.drawn h.1)

pub distinct_first : (es : List (Bool × EndAction)) (w : Pair) (k : Histories) → AreDistinctPerEnd (histories_along es w k) → AreDistinctPerEnd k
distinct_first [] w k h = h
distinct_first (e ∷ es) w k h = distinct_before e.0 e.1 w k (distinct_first es (goes e.0 e.1 w) (histories_after e.0 e.1 w k) h)

-- ---- traces

-- both ends, with histories of chunks and of actions
record Halves (o q : Options) (w : Pair) (k j : Histories) : Type 0 where
  e1 : List Association
  e2 : List Association
  a : Knows o w.a (past_of k.a e1) (past_of k.b e2)
  b : Knows q w.b (past_of k.b e2) (past_of k.a e1)
  can_a : Negotiated o q w.a
  can_b : Negotiated q o w.b
  notes_a : Matches w.a k.a j.a
  notes_b : Matches w.b k.b j.b

shapes_of : (x y : Past) (ps : List Carried) → All (Said x y) ps → All (λ r. Shape r.chunks) ps
shapes_of x y ps h = All-weaker (Said x y) (λ r. Shape r.chunks) (λ p s. s.shape) ps h

module _ (o q : Options) (fine : AreValidOptions o) (fine_too : AreValidOptions q) where
  along : (es : List (Bool × EndAction)) (w : Pair) (k j : Histories) → Halves o q w k j → AreAllowed es → AreDistinctPerEnd (histories_along es w j) → AgreesAlong es w j
  along [] w k j h may none = tt
  along ((true, t) ∷ es) w k j h may none =
      let z : Side = act t w.a w.b in
      let distinct : AreDistinctPerEnd (histories_after true t w j) = distinct_first es (goes true t w) (histories_after true t w j) none in
      let mine : AreDistinct (noted_all t w.a w.b k.a).drawn =
      subst AreDistinct (sym (same_draws t w.a w.b k.a ∙ ap (λ (ds : List Draw). drawn_in t w.a w.b ++ ds) h.notes_a.drawn)) distinct.0 in
      let theirs : AreDistinct k.b.drawn = subst AreDistinct (sym h.notes_b.drawn) distinct.1 in
      let d : Turned o w.a z k.a h.e1 (noted_all t w.a w.b k.a) (past_of k.b h.e2) = actions o q w.a w.b fine k.a k.b h.e1 h.e2 h.a h.b theirs t may.0 mine in
      let held : Holds w.a z k.a (noted_in t w.a w.b k.a) =
      holds_action o q w.a w.b fine fine_too h.can_a h.can_b t may.0 (shapes_of (past_of k.b h.e2) (past_of k.a h.e1) (emitted_packets w.b) h.b.said) k.a in (
        agrees_by o w.a z k.a (noted_all t w.a w.b k.a) h.e1 h.e2 k.b j.b w.b d h.notes_b held.stands,
        along es (goes true t w) (record k { a = noted_all t w.a w.b k.a }) (histories_after true t w j)
            (record {
              e1 = d.more;
              e2 = h.e2;
              a = d.knows;
              b = knows_other q w.b (past_of k.b h.e2) (past_of k.a h.e1) (past_of (noted_all t w.a w.b k.a) d.more) d.later h.b;
              can_a = negotiated_action o q w.a fine fine_too t w.b may.0 h.can_a h.can_b;
              can_b = h.can_b;
              notes_a = matches_on t w.a w.b k.a j.a held h.notes_a;
              notes_b = h.notes_b;
            }) may.1 none,
      )
  along ((false, t) ∷ es) w k j h may none =
      let z : Side = act t w.b w.a in
      let distinct : AreDistinctPerEnd (histories_after false t w j) = distinct_first es (goes false t w) (histories_after false t w j) none in
      let mine : AreDistinct (noted_all t w.b w.a k.b).drawn =
      subst AreDistinct (sym (same_draws t w.b w.a k.b ∙ ap (λ (ds : List Draw). drawn_in t w.b w.a ++ ds) h.notes_b.drawn)) distinct.1 in
      let theirs : AreDistinct k.a.drawn = subst AreDistinct (sym h.notes_a.drawn) distinct.0 in
      let d : Turned q w.b z k.b h.e2 (noted_all t w.b w.a k.b) (past_of k.a h.e1) = actions q o w.b w.a fine_too k.b k.a h.e2 h.e1 h.b h.a theirs t may.0 mine in
      let held : Holds w.b z k.b (noted_in t w.b w.a k.b) =
      holds_action q o w.b w.a fine_too fine h.can_b h.can_a t may.0 (shapes_of (past_of k.a h.e1) (past_of k.b h.e2) (emitted_packets w.a) h.a.said) k.b in (
        agrees_by q w.b z k.b (noted_all t w.b w.a k.b) h.e2 h.e1 k.a j.a w.a d h.notes_a held.stands,
        along es (goes false t w) (record k { b = noted_all t w.b w.a k.b }) (histories_after false t w j)
            (record {
              e1 = h.e1;
              e2 = d.more;
              a = knows_other o w.a (past_of k.a h.e1) (past_of k.b h.e2) (past_of (noted_all t w.b w.a k.b) d.more) d.later h.a;
              b = d.knows;
              can_a = h.can_a;
              can_b = negotiated_action q o w.b fine_too fine t w.a may.0 h.can_b h.can_a;
              notes_a = h.notes_a;
              notes_b = matches_on t w.b w.a k.b j.b held h.notes_b;
            }) may.1 none,
      )

matches_start : (x : Side) → state_of x ≡ Closed → Matches x no_history no_history
matches_start x is = record { drawn = refl; held = λ a h. h; now = λ a h. absurd (subst (λ (s : State). Has a (held_in s)) is h) }

pub ends_agree : EndsAgree
ends_agree a b draws_a draws_b es fine_a fine_b may none =
    along a b fine_a fine_b es (start a b draws_a draws_b) no_histories no_histories
    (record {
      e1 = [];
      e2 = [];
      a = knows_start a draws_a;
      b = knows_start b draws_b;
      can_a = negotiated_start a b draws_a;
      can_b = negotiated_start b a draws_b;
      notes_a = matches_start (new_side a draws_a) refl;
      notes_b = matches_start (new_side b draws_b) refl;
    }) may none
