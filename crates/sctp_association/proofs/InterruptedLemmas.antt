-- Where memory ran out in a packet, the chunks before did what the table says.
use Rattle.std.proofs.Common.{◌≡◌, inl, inr, ℕ, Bool, true, false, List, [], ◌∷◌, refl, ap, sym, subst, ◌∙◌, Result, Ok, Err, OnErr}
use Rattle.std.specs.Prelude.{is_err}
use Rattle.sctp_packet.specs.Chunk.{ChunkTree, shutdown_chunk}
use Rattle.sctp_packet.specs.Packet.{PacketTree, Accepts}
use Rattle.sctp_wire.specs.declared.checksum.Policy.{Policy}
use Rattle.sctp_state.specs.Events.{SendPacket}
use Rattle.sctp_rx.specs.DataTracker.{wire_tsn}
use Rattle.rand_core.specs.Stream.{Stream}
use Rattle.sctp_endpoint.specs.declared.state.State as given_state
use Rattle.sctp_endpoint.specs.GoesOn.{GoesOn, announcements}
use Rattle.sctp_endpoint.specs.Views.{ContextValue, context_of, endpoint_state_of, state_of}
use Rattle.sctp_endpoint.proofs.KeepsReadyLemmas.{keeps_alone, keeps_same}
use Rattle.sctp_endpoint.proofs.QuietLemmas.{quietly_emitted}
use Rattle.spec_endpoint.specs.Association.{State, Closed, CookieWait, Open, CookieEchoed, Established, ShutdownPending, ShutdownSent, ShutdownReceived, ShutdownAckSent, Tcb, Context, EndpointState, Endpoint}
use Rattle.spec_endpoint.specs.Calls.{ready_in}
use Rattle.spec_endpoint.specs.Input.{AfterChunk, receive, receive_rest, receive_all, in_endpoint_state, repeats_if}
use Rattle.spec_endpoint.specs.Packets.{PacketDraft, add, emit_chunk, emit_if, has_chunks, header_to, new_packet}
use Rattle.spec_endpoint.specs.Receiving.{policy_of}
use Rattle.spec_endpoint.specs.Wire.{word_at}
use Rattle.sctp_association.specs.Interrupted.{Leaves, StopsIf, StopsAmong, StopsPacket, at_once, StopsIn, unread, read}

module _ {P : Type 0} (tag : ℕ) (now : EndpointState P) where
  -- in the first
  pub stops_first : (chunks : List ChunkTree) (s : Endpoint P) → Leaves s.endpoint_state now → StopsAmong tag chunks s now
  stops_first [] s k = k
  stops_first (chunk ∷ chunks) s k = inl k

  abbrev StopsBehind : List ChunkTree → AfterChunk P → Type 0
  StopsBehind chunks h = StopsIf h.allows_next (StopsAmong tag chunks h.end now) (Leaves h.end.endpoint_state now)

  behind : (chunks : List ChunkTree) (e : Endpoint P) (b : Bool) → ((s : Endpoint P) → Leaves (receive_all tag chunks s).endpoint_state now → StopsAmong tag chunks s now)
      → Leaves (receive_rest (receive_all tag chunks) (record { end = e; allows_next = b })).endpoint_state now → StopsBehind chunks (record { end = e; allows_next = b })
  behind chunks e true rest k = rest e k
  behind chunks e false rest k = k

  -- behind all
  pub stops_last : (chunks : List ChunkTree) (s : Endpoint P) → Leaves (receive_all tag chunks s).endpoint_state now → StopsAmong tag chunks s now
  stops_last [] s k = k
  stops_last (chunk ∷ chunks) s k = inr (behind chunks (receive tag chunk s).end (receive tag chunk s).allows_next (stops_last chunks) k)

  -- behind the first
  pub stops_next : (chunk : ChunkTree) (chunks : List ChunkTree) (s e : Endpoint P) → record { end = e; allows_next = true } ≡ receive tag chunk s → StopsAmong tag chunks e now
      → StopsAmong tag (chunk ∷ chunks) s now
  stops_next chunk chunks s e is k = inr (subst (λ (h : AfterChunk P). StopsBehind chunks h) is k)

pub all_next : {P : Type 0} (tag : ℕ) (chunk : ChunkTree) (chunks : List ChunkTree) (s e : Endpoint P) → record { end = e; allows_next = true } ≡ receive tag chunk s
    → receive_all tag chunks e ≡ receive_all tag (chunk ∷ chunks) s
all_next {P} tag chunk chunks s e is = ap (λ (h : AfterChunk P). receive_rest (receive_all tag chunks) h) is

pub allowed : {P : Type 0} (tag : ℕ) (chunk : ChunkTree) (s e : Endpoint P) (b : Bool) → b ≡ true → record { end = e; allows_next = b } ≡ receive tag chunk s
    → record { end = e; allows_next = true } ≡ receive tag chunk s
allowed {P} tag chunk s e b is h = subst (λ (a : Bool). record { end = e; allows_next = a } ≡ receive tag chunk s) is h

-- ---- before the chunks, and behind them

repeated_ready : {P : Type 0} (s : State) (c : Context P) → ready_in (repeats_if true (record { state = s; context = c })).state ≡ ready_in s
repeated_ready Closed c = refl
repeated_ready (CookieWait tag first t1) c = refl
repeated_ready (Open (CookieEchoed t1 cookie) t) c = refl
repeated_ready (Open Established t) c = refl
repeated_ready (Open ShutdownPending t) c = refl
repeated_ready (Open (ShutdownSent t2) t) c = refl
repeated_ready (Open ShutdownReceived t) c = refl
repeated_ready (Open (ShutdownAckSent t2) t) c = refl

repeats_ready : {P : Type 0} (b : Bool) (s : EndpointState P) → ready_in (repeats_if b s).state ≡ ready_in s.state
repeats_ready true s = repeated_ready s.state s.context
repeats_ready false s = refl

emitted_if : {P : Type 0} (b : Bool) (p : PacketDraft) (c : Context P) → announcements (emit_if b p c).emitted ≡ announcements c.emitted
emitted_if true p c = (quietly_emitted (SendPacket (c.pack.write (header_to c.options p.tag) p.is_summed p.chunks) ∷ []) c.emitted refl).announced
emitted_if false p c = refl

emitted_chunk : {P : Type 0} (chunk : ChunkTree) (t : Tcb) (c : Context P) → announcements (emit_chunk chunk t c).emitted ≡ announcements c.emitted
emitted_chunk chunk t c = emitted_if (has_chunks (add chunk (new_packet c.options t))) (add chunk (new_packet c.options t)) c

repeated_quietly : {P : Type 0} (s : State) (c : Context P) → announcements (repeats_if true (record { state = s; context = c })).context.emitted ≡ announcements c.emitted
repeated_quietly Closed c = refl
repeated_quietly (CookieWait tag first t1) c = refl
repeated_quietly (Open (CookieEchoed t1 cookie) t) c = refl
repeated_quietly (Open Established t) c = refl
repeated_quietly (Open ShutdownPending t) c = refl
repeated_quietly (Open (ShutdownSent t2) t) c = emitted_chunk (shutdown_chunk (wire_tsn t.tracker t.tracker.tracker.seen.front)) t c
repeated_quietly (Open ShutdownReceived t) c = refl
repeated_quietly (Open (ShutdownAckSent t2) t) c = refl

repeats_quietly : {P : Type 0} (b : Bool) (s : EndpointState P) → announcements (repeats_if b s).context.emitted ≡ announcements s.context.emitted
repeats_quietly true s = repeated_quietly s.state s.context
repeats_quietly false s = refl

pub stops_before : {P : Type 0} (tag : ℕ) (chunks : List ChunkTree) (b : Bool) (s : Endpoint P) (now : EndpointState P) → ready_in now.state ≡ ready_in s.endpoint_state.state
    → announcements now.context.emitted ≡ announcements s.endpoint_state.context.emitted → StopsAmong tag chunks (in_endpoint_state (repeats_if b) s) now
stops_before tag chunks b s now e quiet = stops_first tag now chunks (in_endpoint_state (repeats_if b) s) (record {
  ready = keeps_same (repeats_if b s.endpoint_state).state now.state (e ∙ sym (repeats_ready b s.endpoint_state));
  held = inl (quiet ∙ sym (repeats_quietly b s.endpoint_state));
})

pub stops_behind : {P : Type 0} (tag : ℕ) (chunks : List ChunkTree) (s m : Endpoint P) (now : EndpointState P) → m ≡ receive_all tag chunks s → ready_in now.state ≡ ready_in m.endpoint_state.state
    → announcements now.context.emitted ≡ announcements m.endpoint_state.context.emitted → StopsAmong tag chunks s now
stops_behind {P} tag chunks s m now is e quiet = stops_last tag now chunks s (record {
  ready = keeps_same (receive_all tag chunks s).endpoint_state.state now.state (e ∙ ap (λ (t : Endpoint P). ready_in t.endpoint_state.state) is);
  held = inl (quiet ∙ ap (λ (t : Endpoint P). announcements t.endpoint_state.context.emitted) is);
})

pub where_err : {T F P : Type 0} (r : Result T F) → P → OnErr r P
where_err (Ok x) p = tt
where_err (Err x) p = p

pub on_err_of : {T F P : Type 0} (r : Result T F) → is_err r ≡ true → OnErr r P → P
on_err_of (Ok x) e p = absurd (cc)
on_err_of (Err x) e p = p

-- ---- bytes that came

pub read_in : {T F : Type 0} (r : Result T F) (word_of : List ℕ → ℕ) (policy : Policy) (word : ℕ) (bytes : List ℕ) (p : PacketTree) (s : Endpoint (List ℕ)) (now : EndpointState (List ℕ))
    → policy ≡ policy_of s.endpoint_state.context.options → word ≡ word_at word_of bytes → Accepts policy word bytes p → OnErr r (StopsPacket p s now) → OnErr r (StopsIn word_of bytes s now)
read_in (Ok x) word_of policy word bytes p s now a b accepts k = tt
read_in (Err x) word_of policy word bytes p s now a b accepts k =
    read p (subst (λ (w : ℕ). Accepts (policy_of s.endpoint_state.context.options) w bytes p) b (subst (λ (q : Policy). Accepts q word bytes p) a accepts)) k

pub leaves_quietly : {P : Type 0} (s : State) (c d : Context P) → announcements d.emitted ≡ announcements c.emitted → Leaves (record { state = s; context = c }) (record { state = s; context = d })
leaves_quietly s c d quiet = record { ready = keeps_alone s; held = inl quiet }

-- a packet that is refused
pub stops_quietly : {T F C : Type 0} (r : Result T F) (p : PacketTree) (word_of : C → List ℕ → ℕ) (draws : Stream) (s : given_state.State) (c d : ContextValue C) → GoesOn c d
    → OnErr r (StopsPacket p (record { endpoint_state = endpoint_state_of word_of s c; draws = draws }) (endpoint_state_of word_of s d))
stops_quietly r p word_of draws s c d g = where_err r (at_once (leaves_quietly (state_of s) (context_of word_of c) (context_of word_of d) g.emitted.announced))

pub unread_in : {T F : Type 0} (r : Result T F) (word_of : List ℕ → ℕ) (bytes : List ℕ) (s : Endpoint (List ℕ)) (d : Context (List ℕ)) → announcements d.emitted ≡ announcements s.endpoint_state.context.emitted
    → OnErr r (StopsIn word_of bytes s (record { state = s.endpoint_state.state; context = d }))
unread_in r word_of bytes s d quiet = where_err r (unread (leaves_quietly s.endpoint_state.state s.endpoint_state.context d quiet))
