-- One call on an end and on its image: what it emits is under the names of the call, and both go on as twins.
use Rattle.std.proofs.Common.{◌≡◌, ℕ, not, Bool, true, false, Some, None, List, [], ◌∷◌, ◌++◌, All, ◌⊎◌, inl, inr, refl, sym, ap, subst, ◌∙◌}
use Rattle.std.specs.Prelude.{⊤}
use Rattle.std.proofs.lemmas.Bool.{both_ways}
use Rattle.std.proofs.lemmas.List.Elements.{All-nil, All-cons, All-head, All-tail}
use Rattle.std.proofs.lemmas.Option.{same_Some}
use Rattle.sctp_packet.specs.Chunk.{ChunkTree, InitTree, init_chunk, init_ack_chunk, cookie_echo_chunk}
use Rattle.sctp_state.specs.Options.{Options}
use Rattle.sctp_state.specs.declared.api.ErrorKind.TheVariants.{ParseFailed}
use Rattle.sctp_state.specs.Events.{Event, SendPacket, OnError}
use Rattle.spec_endpoint.specs.Association.{CookieEchoed, Established, ShutdownPending, ShutdownSent, ShutdownReceived, ShutdownAckSent, State, Closed, CookieWait, Open, Context, EndpointState, Endpoint}
use Rattle.spec_endpoint.specs.Sending.{is_before_cookie_ack}
use Rattle.spec_endpoint.specs.Opening.{tsn_from, tag_from, word, drew_word, emit_parse_error}
use Rattle.spec_endpoint.specs.Input.{count_packet_at, count_packet}
use Rattle.spec_endpoint.specs.Laws.{Call, ReceivePacket, called, is_closed}
use Rattle.proof_endpoint.specs.Mapped.{Carried, as_carried}
use Rattle.proof_endpoint.specs.Acts.{is_opened}
use Rattle.proof_pair.specs.Trace.{Side, drain, state_of}
use Rattle.proof_pair.specs.Agreement.{Draw as Drawn}
use Rattle.spec_endpoint.specs.Packets.{packets_in}
use Rattle.proof_pair.proofs.JoinLemmas.{Draw, Both, view_of, IsInitAck, Says}
use Rattle.proof_pair.proofs.TraceLemmas.{SaysAll}
use Rattle.proof_pair.proofs.AgreeLemmas.{is_load}
use Rattle.proof_draws.specs.Names.{named_state, named_context}
use Rattle.proof_draws.specs.Images.{image}
use Rattle.proof_draws.specs.Pairing.{names, Knows, tags_of}
use Rattle.proof_draws.proofs.NamesLemmas.{same_tie, names_in, TagsAre, state_by, are_names}
use Rattle.proof_draws.proofs.ImageLemmas.{Mirrors, named, refused, emitted_under, asked_as, taken}
use Rattle.proof_draws.proofs.TwinLemmas.{Holds, HoldsOne, IsTaken, IsEchoing, Numbers, Marked, Stand, Twins, Twin, twins_on, twins_both, AreMarked, twins_under}
use Rattle.proof_draws.specs.Renamed.{rename}

-- ---- what a call emits, by what it receives and leaves

abbrev pub first_is_init : List ChunkTree → Bool
first_is_init [] = false
first_is_init (init_chunk i ∷ cs) = true
first_is_init (c ∷ cs) = false

abbrev pub receives_init : Call → Bool
receives_init (ReceivePacket p) = first_is_init p.chunks
receives_init c = false

-- the tag that a closed end draws for the answer to an INIT
abbrev pub drawn_tag : Endpoint Carried → ℕ
drawn_tag e = tag_from (word (drew_word e))

-- a first TSN and a tag, as a closed end draws them
abbrev pub two_of : Endpoint Carried → Drawn
two_of e = record { tag = tag_from (word (drew_word e)); first = tsn_from (word e) }

-- no cookie is kept
abbrev pub is_past : State → Bool
is_past Closed = true
is_past (CookieWait tag first t1) = true
is_past (Open phase t) = not (is_before_cookie_ack phase)

-- What holds numbers is emitted by an end with a control block; an INIT ACK by a closed end to an INIT, with the tag drawn for it; and where
-- an INIT is received, a cookie by an end that keeps it.
abbrev pub IsOwnIn : Call → (before : Endpoint Carried) → (after : State) → ChunkTree → Type 0
IsOwnIn c e s (init_ack_chunk i) = is_closed s ≡ true → (receives_init c ≡ true) × (i.initiate_tag ≡ drawn_tag e)
IsOwnIn c e s (cookie_echo_chunk cookie) = receives_init c ≡ true → is_past s ≡ false
IsOwnIn c e s chunk = is_load chunk ≡ true → is_opened s ≡ true

-- each chunk of each packet
abbrev pub EachChunk : (ChunkTree → Type 0) → List (Event Carried) → Type 0
EachChunk P [] = ⊤
EachChunk P (SendPacket p ∷ es) = All P p.chunks × EachChunk P es
EachChunk P (e ∷ es) = EachChunk P es

abbrev pub EmitsOwn : Call → Endpoint Carried → Type 0
EmitsOwn c e = EachChunk (IsOwnIn c e (called c e).endpoint_state.state) (called c e).endpoint_state.context.emitted.events

-- ---- of the packets behind those emitted before

abbrev EachPacket : (Carried → Type 0) → List (Event Carried) → Type 0
EachPacket P [] = ⊤
EachPacket P (SendPacket p ∷ es) = P p × EachPacket P es
EachPacket P (e ∷ es) = EachPacket P es

module _ (P : Carried → Type 0) where
  each_packet : (es : List (Event Carried)) → All P (packets_in es) → EachPacket P es
  each_packet [] h = tt
  each_packet (SendPacket p ∷ es) h = (All-head P p (packets_in es) h, each_packet es (All-tail P p (packets_in es) h))
  each_packet (e ∷ es) h = each_packet es h

  each_behind : (past es : List (Event Carried)) → All P (packets_in (past ++ es)) → EachPacket P es
  each_behind [] es h = each_packet es h
  each_behind (SendPacket p ∷ past) es h = each_behind past es (All-tail P p (packets_in (past ++ es)) h)
  each_behind (e ∷ past) es h = each_behind past es h

-- where each chunk has two facts, it has a third
all_by : (A B C : ChunkTree → Type 0) → ((c : ChunkTree) → A c → B c → C c) → (cs : List ChunkTree) → All A cs → All B cs → All C cs
all_by A B C f [] h k = All-nil C
all_by A B C f (c ∷ cs) h k =
    All-cons C c cs (f c (All-head A c cs h) (All-head B c cs k)) (all_by A B C f cs (All-tail A c cs h) (All-tail B c cs k))

-- ---- reading the state

pub one_held : (s : State) → (view_of s).is_opened ≡ true → HoldsOne s
one_held Closed e = cc
one_held (CookieWait tag first t1) e = cc
one_held (Open phase t) e = record { association = _; held = refl }

own_tag : (s : State) (mine peer : ℕ) (d : Draw) → (view_of s).mine ≡ Some d → TagsAre mine peer s → d.tag ≡ mine
own_tag Closed mine peer d e h = cc
own_tag (CookieWait tag first t1) mine peer d e h =
    sym (ap (λ (x : Draw). x.tag) (same_Some (record { tag = tag; first = first }) d e)) ∙ h
own_tag (Open phase t) mine peer d e h =
    sym (ap (λ (x : Draw). x.tag) (same_Some (record { tag = t.identity.my_tag; first = t.identity.my_first }) d e)) ∙ h.0

none_closed : (s : State) → (view_of s).mine ≡ None → is_closed s ≡ true
none_closed Closed e = refl
none_closed (CookieWait tag first t1) e = cc
none_closed (Open phase t) e = cc

holds_open : (s : State) (mine peer : ℕ) → is_opened s ≡ true → TagsAre mine peer s → Holds s mine peer
holds_open Closed mine peer e h = cc
holds_open (CookieWait tag first t1) mine peer e h = cc
holds_open (Open phase t) mine peer e h = record { association = _; held = refl; own = h.0; other = h.1 }

both_open : (s : State) (b : Both) → (view_of s).holds ≡ Some b → is_opened s ≡ true
both_open Closed b e = cc
both_open (CookieWait tag first t1) b e = cc
both_open (Open phase t) b e = refl

-- an error whose text holds other tags
error_twin : (ps : List (Drawn × Drawn)) (s u : State) (text other : List ℕ) (es fs : List (Event Carried)) → es ≡ [] → fs ≡ []
    → Twins ps s u (es ++ OnError ParseFailed text ∷ []) (fs ++ OnError ParseFailed other ∷ [])
error_twin ps s u text other [] [] p q = ((other, refl), tt)
error_twin ps s u text other [] (f ∷ fs) p q = cc
error_twin ps s u text other (e ∷ es) fs p q = cc

-- ---- the names of a call

-- an established end answers an INIT with its tie, for an end that holds an association
pub record IsLate (c : Call) (u after : State) : Type 0 where
  pub receives : receives_init c ≡ true
  pub held : HoldsOne u
  pub past : is_past after ≡ true

abbrev pub TieIs : Call → (u after : State) → (cookie_tie : ℕ → ℕ) → Type 0
TieIs c u after cookie_tie = (cookie_tie ≡ same_tie) ⊎ IsLate c u after

-- An end, its image and the other end; what a call makes of both.
pub record Named (ps : List (Drawn × Drawn)) (x z : Side) (u : State) (c : Call) (f : Endpoint Carried) : Type 0 where
  pub mine : ℕ
  pub peer : ℕ
  pub tie : ℕ → ℕ
  pub cookie_tie : ℕ → ℕ
  pub before : state_of z ≡ named_state (names ps mine peer tie cookie_tie) (state_of x)
  pub is : f.endpoint_state ≡ image (names ps mine peer tie cookie_tie) (called c x.end).endpoint_state
  pub tags : Stand (state_of x) (called c x.end).endpoint_state.state → TagsAre mine peer (called c x.end).endpoint_state.state
  pub ties : TieIs c u (called c x.end).endpoint_state.state cookie_tie
  pub drew : receives_init c ≡ true → is_closed (called c x.end).endpoint_state.state ≡ true → drawn_tag x.end ≡ mine

pub record Refused (x z : Side) (c : Call) (f : Endpoint Carried) : Type 0 where
  pub text : List ℕ
  pub other : List ℕ
  pub is : called c x.end ≡ emit_parse_error text (count_packet_at x.end)
  pub so : f ≡ emit_parse_error other (count_packet_at z.end)

abbrev pub Outcome : List (Drawn × Drawn) → (x z : Side) (u : State) → Call → Endpoint Carried → Type 0
Outcome ps x z u c f = Named ps x z u c f ⊎ Refused x z c f

module _ (ps : List (Drawn × Drawn)) (k : Knows ps) where
  pub mirrors : (x z : Side) (u : State) (c : Call) (f : Endpoint Carried) → (called c x.end).endpoint_state.context.pack ≡ as_carried → Outcome ps x z u c f
      → Mirrors x z (called c x.end) f
  mirrors x z u c f packing (inl n) =
      named (names ps n.mine n.peer n.tie n.cookie_tie) (are_names ps k n.mine n.peer n.tie n.cookie_tie) n.before n.is packing
  mirrors x z u c f packing (inr r) = refused r.text r.other r.is r.so

  state_past : (mine peer : ℕ) (tie a b : ℕ → ℕ) (s : State) → is_past s ≡ true → named_state (names ps mine peer tie a) s ≡ named_state (names ps mine peer tie b) s
  state_past mine peer tie a b Closed h = refl
  state_past mine peer tie a b (CookieWait tag first t1) h = refl
  state_past mine peer tie a b (Open (CookieEchoed t1 cookie) t) h = cc
  state_past mine peer tie a b (Open Established t) h = refl
  state_past mine peer tie a b (Open ShutdownPending t) h = refl
  state_past mine peer tie a b (Open (ShutdownSent t2) t) h = refl
  state_past mine peer tie a b (Open ShutdownReceived t) h = refl
  state_past mine peer tie a b (Open (ShutdownAckSent t2) t) h = refl

  -- ---- a chunk that is emitted

  module _ (o q : Options) (c : Call) (e : Endpoint Carried) (s u : State) (asked : Bool) (mine peer : ℕ) (cookie_tie : ℕ → ℕ) (tags : TagsAre mine peer s)
      (ties : TieIs c u s cookie_tie) (drew : receives_init c ≡ true → is_closed s ≡ true → drawn_tag e ≡ mine) where
    closed_takes : (i : InitTree) → (is_closed s ≡ true → (receives_init c ≡ true) × (i.initiate_tag ≡ drawn_tag e)) → is_closed s ≡ true → i.initiate_tag ≡ mine
    closed_takes i own closed = let r = own closed in r.1 ∙ drew r.0 closed

    ack_by : (i : InitTree) → i.initiate_tag ≡ mine → TieIs c u s cookie_tie → HoldsOne u ⊎ IsTaken i mine cookie_tie
    ack_by i own (inl tie) = inr (record { own = own; tie = tie })
    ack_by i own (inr late) = inl late.held

    ack_tag : (tag : ℕ) (i : InitTree) (h : IsInitAck o q (view_of s) (view_of u) asked i) → ((view_of s).mine ≡ None) ⊎ ((view_of s).mine ≡ Some h.draw)
        → (is_closed s ≡ true → (receives_init c ≡ true) × (i.initiate_tag ≡ drawn_tag e)) → i.initiate_tag ≡ mine
    ack_tag tag i h (inl none) own = closed_takes i own (none_closed s none)
    ack_tag tag i h (inr some) own = ap (λ (j : InitTree). j.initiate_tag) h.is ∙ own_tag s mine peer h.draw some tags

    ack_marked : (tag : ℕ) (i : InitTree) → IsInitAck o q (view_of s) (view_of u) asked i
        → (is_closed s ≡ true → (receives_init c ≡ true) × (i.initiate_tag ≡ drawn_tag e)) → HoldsOne u ⊎ IsTaken i mine cookie_tie
    ack_marked tag i h own =
        elim h.how [
          | inl opened ↦ inl (one_held u opened)
          | inr plain ↦ ack_by i (ack_tag tag i h plain.own own) ties
        ]

    echo_by : Holds s mine peer → (receives_init c ≡ true → is_past s ≡ false) → TieIs c u s cookie_tie → IsEchoing s mine peer cookie_tie
    echo_by h kept (inl tie) = record { holds = h; tie = tie }
    echo_by h kept (inr late) = absurd (both_ways (is_past s) (kept late.receives) late.past)

    numbers_by : (b : Bool) → (b ≡ true → is_opened s ≡ true) → Numbers b s mine peer
    numbers_by true f = holds_open s mine peer (f refl) tags
    numbers_by false f = tt

    pub marked : (tag : ℕ) (chunk : ChunkTree) → Says o q (view_of s) (view_of u) asked tag chunk → IsOwnIn c e s chunk → Marked s u mine peer cookie_tie chunk
    marked tag (init_chunk i) h own = ap (λ (j : InitTree). j.initiate_tag) h.is ∙ own_tag s mine peer h.draw h.own tags
    marked tag (init_ack_chunk i) h own = ack_marked tag i h own
    marked tag (cookie_echo_chunk cookie) h own = echo_by (holds_open s mine peer (both_open s h.both h.holds) tags) own ties
    marked tag chunk h own = numbers_by (is_load chunk) own

    all_marked : (es : List (Event Carried)) → EachPacket (λ p. All (Says o q (view_of s) (view_of u) asked p.header.verification_tag) p.chunks) es
        → EachChunk (IsOwnIn c e s) es → AreMarked ps s u mine peer cookie_tie es
    all_marked [] h own = tt
    all_marked (SendPacket p ∷ es) h own = (
      all_by (Says o q (view_of s) (view_of u) asked p.header.verification_tag) (IsOwnIn c e s) (Marked s u mine peer cookie_tie)
          (marked p.header.verification_tag) p.chunks h.0 own.0,
      all_marked es h.1 own.1,
    )
    all_marked (x ∷ es) h own = all_marked es h own

  -- ---- both go on

  module _ (o q : Options) (x y z : Side) (c : Call) (f : Endpoint Carried) (asked both_asked : Bool) (same : both_asked ≡ asked) (t : Twin ps x y z)
      (stand : Stand (state_of x) (called c x.end).endpoint_state.state) (packing : (called c x.end).endpoint_state.context.pack ≡ as_carried)
      (own : EmitsOwn c x.end) where
    abbrev e : Endpoint Carried
    e = called c x.end

    abbrev after : Side
    after = asked_as asked (drain e x)

    abbrev SaidAfter : Type 0
    SaidAfter = All (SaysAll o q (view_of e.endpoint_state.state) (view_of (state_of y)) asked) (packets_in (x.emitted ++ e.endpoint_state.context.emitted.events))

    state_after : (n : Named ps x z (state_of y) c f) → TieIs c (state_of y) e.endpoint_state.state n.cookie_tie
        → named_state (names ps n.mine n.peer n.tie n.cookie_tie) e.endpoint_state.state ≡ named_state (names_in ps e.endpoint_state.state n.tie) e.endpoint_state.state
    state_after n (inl tie) =
        ap (λ (g : ℕ → ℕ). named_state (names ps n.mine n.peer n.tie g) e.endpoint_state.state) tie
        ∙ sym (state_by ps n.mine n.peer n.tie e.endpoint_state.state (n.tags stand))
    state_after n (inr late) =
        state_past n.mine n.peer n.tie n.cookie_tie same_tie e.endpoint_state.state late.past
        ∙ sym (state_by ps n.mine n.peer n.tie e.endpoint_state.state (n.tags stand))

    named_after : Named ps x z (state_of y) c f → SaidAfter → Twin ps after y (asked_as both_asked (drain f z))
    named_after n said =
        let es : List (Event Carried) = e.endpoint_state.context.emitted.events in
        let s : State = e.endpoint_state.state in
        let u : State = state_of y in
        record {
          tie = n.tie;
          state = ap (λ (w : EndpointState Carried). w.state) n.is ∙ state_after n n.ties;
          context = ap (λ (w : EndpointState Carried). taken w.context) n.is ∙ ap (λ (w : _). record (named_context (rename (tags_of ps)) (taken e.endpoint_state.context)) { pack = w }) (sym packing);
          emitted = subst (λ (fs : List (Event Carried)). Twins ps s u (x.emitted ++ es) (z.emitted ++ fs))
              (sym (ap (λ (w : EndpointState Carried). w.context.emitted.events) n.is))
              (twins_both ps s u x.emitted z.emitted es (emitted_under (names ps n.mine n.peer n.tie n.cookie_tie) es)
              (twins_on ps (state_of x) s u u stand (λ a h. h) x.emitted z.emitted t.emitted)
              (twins_under ps s u n.mine n.peer n.cookie_tie n.tie es
              (all_marked o q c x.end s u asked n.mine n.peer n.cookie_tie (n.tags stand) n.ties n.drew es
              (each_behind (λ p. All (Says o q (view_of s) (view_of u) asked p.header.verification_tag) p.chunks) x.emitted es said) own)));
          asked = same;
        }

    -- both refused a packet
    refused_emitted : (text other : List ℕ) → x.end.endpoint_state.context.emitted.events ≡ [] → Twins ps (state_of x) (state_of y)
        (x.emitted ++ (x.end.endpoint_state.context.emitted.events ++ OnError ParseFailed text ∷ [])) (z.emitted ++ (z.end.endpoint_state.context.emitted.events ++ OnError ParseFailed other ∷ []))
    refused_emitted text other quiet =
        twins_both ps (state_of x) (state_of y) x.emitted z.emitted (x.end.endpoint_state.context.emitted.events ++ OnError ParseFailed text ∷ [])
        (z.end.endpoint_state.context.emitted.events ++ OnError ParseFailed other ∷ []) t.emitted
        (error_twin ps (state_of x) (state_of y) text other x.end.endpoint_state.context.emitted.events z.end.endpoint_state.context.emitted.events quiet
        (ap (λ (d : Context Carried). d.emitted.events) t.context ∙ quiet))

    refused_both : (text other : List ℕ) → x.end.endpoint_state.context.emitted.events ≡ []
        → Twin ps (asked_as asked (drain (emit_parse_error text (count_packet_at x.end)) x)) y (asked_as both_asked (drain (emit_parse_error other (count_packet_at z.end)) z))
    refused_both text other quiet = record {
      tie = t.tie;
      state = t.state;
      context = ap (λ (d : Context Carried). taken (count_packet d)) t.context;
      emitted = refused_emitted text other quiet;
      asked = same;
    }

    refused_after : Refused x z c f → x.end.endpoint_state.context.emitted.events ≡ [] → Twin ps after y (asked_as both_asked (drain f z))
    refused_after r quiet =
        subst (λ (w : Endpoint Carried). Twin ps (asked_as asked (drain w x)) y (asked_as both_asked (drain f z))) (sym r.is)
        (subst (λ (w : Endpoint Carried). Twin ps (asked_as asked (drain (emit_parse_error r.text (count_packet_at x.end)) x)) y (asked_as both_asked (drain w z))) (sym r.so)
        (refused_both r.text r.other quiet))

    pub twin_after : Outcome ps x z (state_of y) c f → x.end.endpoint_state.context.emitted.events ≡ [] → SaidAfter → Twin ps after y (asked_as both_asked (drain f z))
    twin_after (inl n) quiet said = named_after n said
    twin_after (inr r) quiet said = refused_after r quiet
