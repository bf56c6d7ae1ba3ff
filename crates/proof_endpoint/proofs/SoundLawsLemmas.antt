-- The laws of sound ends.
use Rattle.std.proofs.Common.{◌≡◌, ℕ, ◌^◌, ◌<◌, Bool, true, false, Option, Some, None, All, List, [], ◌∷◌, ◌++◌, refl, sym, ap, subst, ◌∙◌, append-nil, arith}
use Rattle.std.proofs.lemmas.List.Elements.{All-nil, All-weaker}
use Rattle.rand_core.specs.Stream.{Stream}
use Rattle.sctp_wire.specs.Parameter.{ParameterTree}
use Rattle.sctp_packet.specs.Chunk.{ChunkTree, re_config_chunk}
use Rattle.sctp_packet.specs.Grammar.{Each}
use Rattle.sctp_packet.specs.Packet.{PacketTree}
use Rattle.sctp_state.specs.declared.api.ErrorKind.TheVariants.{ParseFailed}
use Rattle.sctp_state.specs.Options.{Options}
use Rattle.sctp_state.specs.Events.{Event, SendPacket}
use Rattle.spec_endpoint.specs.Association.{State, Closed, CookieWait, Open, Context, Endpoint, fresh, Packing}
use Rattle.spec_endpoint.specs.Input.{packet_refusal, AfterChunk, in_endpoint_state, receive, receive_rest, receive_all, has_data_chunk, repeats_if, on_packet_end, count_packet_at as counts_row, packet_unless, on_packet}
use Rattle.spec_endpoint.specs.Laws.{Call, Connect, ReceivePacket, ReceiveNoPacket, called}
use Rattle.proof_endpoint.specs.Sound.{OptionsFit, FitsPacket, IsSound, ArgumentFits}
use Rattle.proof_endpoint.specs.Fair.{FitsReceived}
use Rattle.proof_endpoint.specs.ReadBack.{ReadsBack, CanBeRead, EmitsWhatCanBeRead, ReadsBackIn, EmitsWhatReadsBack}
use Rattle.proof_endpoint.specs.Mapped.{Carried, as_carried}
use Rattle.proof_endpoint.specs.Acts.{EndWithPacket, no_packet, calm, BringsChunk, HasRequest, for_outgoing, for_incoming, counts, Preserves}
use Rattle.proof_endpoint.proofs.ReceivedLemmas.{received_all}
use Rattle.proof_endpoint.proofs.GoesLemmas.{small_empty}
use Rattle.proof_endpoint.proofs.OpeningStepsLemmas.{end_in}
use Rattle.proof_endpoint.proofs.PacketActsLemmas.{does_emit_error}
use Rattle.proof_endpoint.proofs.RowActsLemmas.{does_where_open}
use Rattle.proof_endpoint.proofs.ActsLemmas.{does_receive, does_repeats_if, does_ended, does_no_packet, keeps_call}
use Rattle.proof_endpoint.proofs.SoundActsLemmas.{Start, SoundAt, FitsBesides, Argument, sounds}
use Rattle.proof_endpoint.proofs.SoundReconfigLemmas.{reconfigured}

-- ---- what a call hands in

besides : (call : Call) → ArgumentFits call → FitsBesides call
besides (ReceivePacket p) f = tt
besides call f = f

argument : (call : Call) → ArgumentFits call → (call ≡ ReceiveNoPacket → ⊥) → ((p : PacketTree) → call ≡ ReceivePacket p → ⊥) → Argument call
argument call f some none = record {
  fitting = record { some = some; chunks = λ tag chunk r. absurd (none r.packet r.given) };
  quiet = no_request;
  fits = besides call f;
}
  where
    no_request : (number : ℕ) → HasRequest call number → ⊥
    no_request number (for_outgoing response last_tsn streams asked) = none asked.received.packet asked.received.given
    no_request number (for_incoming streams asked) = none asked.received.packet asked.received.given

abbrev is_reconfig : ChunkTree → Bool
is_reconfig (re_config_chunk ps) = true
is_reconfig chunk = false

-- a packet of this chunk alone, of which all that is used fits
module _ (tag : ℕ) (chunk : ChunkTree) (small : tag < 2 ^ 32) (fits : FitsReceived chunk) (other : is_reconfig chunk ≡ false) (p : PacketTree)
    (under : p.header.verification_tag ≡ tag) (this : p.chunks ≡ chunk ∷ []) where
  alone : (c d : ChunkTree) (before behind : List ChunkTree) → (c ∷ []) ≡ before ++ d ∷ behind → c ≡ d
  alone c d [] behind e = cc
  alone c d (b ∷ []) behind e = cc
  alone c d (b ∷ x ∷ before) behind e = cc

  same : (q : PacketTree) → ReceivePacket p ≡ ReceivePacket q → p ≡ q
  same q e = cc

  is_it : (t : ℕ) (d : ChunkTree) → BringsChunk (ReceivePacket p) t d → chunk ≡ d
  is_it t d r = alone chunk d r.among.before r.among.behind (sym this ∙ (ap (λ (q : PacketTree). q.chunks) (same r.packet r.given) ∙ r.among.split))

  no_reconfig : (t : ℕ) (ps : List ParameterTree) → BringsChunk (ReceivePacket p) t (re_config_chunk ps) → ⊥
  no_reconfig t ps r = differs (sym other ∙ ap is_reconfig (is_it t (re_config_chunk ps) r))
    where
      differs : false ≡ true → ⊥
      differs e = cc

  one_chunk : Argument (ReceivePacket p)
  one_chunk = record {
    fitting = record {
      some = λ e. cc;
      chunks = λ t d r. (
        subst (λ (n : ℕ). n < 2 ^ 32) (sym under ∙ (ap (λ (q : PacketTree). q.header.verification_tag) (same r.packet r.given) ∙ r.under)) small,
        subst FitsReceived (is_it t d r) fits,
      );
    };
    quiet = no_request;
    fits = tt;
  }
    where
      no_request : (number : ℕ) → HasRequest (ReceivePacket p) number → ⊥
      no_request number (for_outgoing response last_tsn streams asked) = no_reconfig asked.tag asked.parameters asked.received
      no_request number (for_incoming streams asked) = no_reconfig asked.tag asked.parameters asked.received

module _ {P : Type 0} (g : Start P) where
  -- ---- packets

  -- for what a packet does that none of its chunks does
  k : Preserves Connect (λ (m n : EndWithPacket P). SoundAt g m → SoundAt g n)
  k = sounds g Connect (argument Connect tt (λ e. cc) (λ p e. cc))

  one_by : (b : Bool) (p : PacketTree) (chunk : ChunkTree) (s : Endpoint P) → is_reconfig chunk ≡ b → p.header.verification_tag < 2 ^ 32 → FitsReceived chunk
      → SoundAt g (calm s) → SoundAt g (calm (receive p.header.verification_tag chunk s).end)
  one_by false p chunk s other small fits h =
      let tag : ℕ = p.header.verification_tag in
      let one : PacketTree = record p { chunks = chunk ∷ [] } in
      let r : BringsChunk (ReceivePacket one) tag chunk = record { packet = one; given = refl; under = refl; among = record { before = []; behind = []; split = refl } } in
      does_receive (sounds g (ReceivePacket one) (one_chunk tag chunk small fits other one refl refl)) tag chunk s r h
  one_by true p (re_config_chunk ps) s is small fits h = by_state s.endpoint_state.state s h
    where
      by_state : (st : State) (s : Endpoint P) → SoundAt g (calm (end_in st s)) → SoundAt g (calm (receive p.header.verification_tag (re_config_chunk ps) (end_in st s)).end)
      by_state Closed s h = h
      by_state (CookieWait tag first t1) s h = h
      by_state (Open phase t) s h = reconfigured g phase s.draws Connect k ps t s.endpoint_state.context fits h
  one_by true p chunk s is small fits h = cc

  rest_of : (b : Bool) (rest : Endpoint P → Endpoint P) (s : Endpoint P) → ((t : Endpoint P) → SoundAt g (calm t) → SoundAt g (calm (rest t)))
      → SoundAt g (calm s) → SoundAt g (calm (receive_rest rest (record { end = s; allows_next = b })))
  rest_of true rest s f h = f s h
  rest_of false rest s f h = h

  all_chunks : (p : PacketTree) (chunks : List ChunkTree) (s : Endpoint P) → p.header.verification_tag < 2 ^ 32 → Each FitsReceived chunks → SoundAt g (calm s)
      → SoundAt g (calm (receive_all p.header.verification_tag chunks s))
  all_chunks p [] s small f h = h
  all_chunks p (chunk ∷ chunks) s small f h =
      let x : AfterChunk P = receive p.header.verification_tag chunk s in
      rest_of x.allows_next (receive_all p.header.verification_tag chunks) x.end (λ t i. all_chunks p chunks t small f.1 i)
      (one_by (is_reconfig chunk) p chunk s refl small f.0 h)

  taken : (o : Option (List ℕ)) (p : PacketTree) (s : Endpoint P) → FitsPacket p → SoundAt g (calm s)
      → SoundAt g (calm (packet_unless o p.header.verification_tag p.chunks s))
  taken (Some text) p s f h = does_emit_error k ParseFailed text s.endpoint_state.state s.endpoint_state.context s.draws h
  taken None p s f h =
      let first : Endpoint P = in_endpoint_state (repeats_if (has_data_chunk p.chunks)) s in
      let middle : Endpoint P = receive_all p.header.verification_tag p.chunks first in
      does_where_open k middle.draws on_packet_end middle.endpoint_state (does_ended k middle.draws)
      (all_chunks p p.chunks first f.tag (received_all p.chunks f.chunks f.cookies) (does_repeats_if k (has_data_chunk p.chunks) s.endpoint_state s.draws h))

  of_call : (call : Call) (s : Endpoint P) → ArgumentFits call → SoundAt g (calm s) → SoundAt g (calm (called call s))
  of_call (ReceivePacket p) s f h = taken (packet_refusal p.header.verification_tag p.chunks s.endpoint_state.state) p (counts_row s) f (k.packets (counts (calm s)) h)
  of_call ReceiveNoPacket s f h = does_no_packet k s h
  of_call call s f h = keeps_call call (sounds g call (argument call f (λ e. cc) (λ p e. cc))) s h

  -- whatever is in it
  of_refused : (o : Option (List ℕ)) (text : List ℕ) (p : PacketTree) (s : Endpoint P) → o ≡ Some text → SoundAt g (calm s)
      → SoundAt g (calm (packet_unless o p.header.verification_tag p.chunks s))
  of_refused None text p s e h = cc
  of_refused (Some reason) text p s e h = does_emit_error k ParseFailed reason s.endpoint_state.state s.endpoint_state.context s.draws h

-- ---- the laws

module _ {P : Type 0} where
  abbrev start_of : Endpoint P → Start P
  start_of s = record { pack = s.endpoint_state.context.pack; most = s.endpoint_state.context.options.mtu; past = s.endpoint_state.context.emitted.events }

  -- as it is, with nothing begun
  starts : (s : Endpoint P) → IsSound s → SoundAt (start_of s) (calm s)
  starts s h =
      let zero_small : 0 < 2 ^ 32 = omega arith in
      record {
        options = h.options;
        mtu = refl;
        packing = refl;
        queue = h.queue;
        since = record { events = []; behind = sym (append-nil s.endpoint_state.context.emitted.events); can_be_read = All-nil (CanBeRead _ _) };
        state = h.state;
        packet = record { small = small_empty s.endpoint_state.context.options.mtu no_packet h.options.mtu_least (omega arith) refl; tag = zero_small; chunks = tt };
      }

  -- what it is at last, and what it emitted
  sound_of : (g : Start P) (t : Endpoint P) → SoundAt g (calm t) → IsSound t
  sound_of g t h = record { options = h.options; queue = h.queue; state = h.state }

  emitted_of : (s t : Endpoint P) → SoundAt (start_of s) (calm t) → EmitsWhatCanBeRead s.endpoint_state.context t.endpoint_state.context
  emitted_of s t h = record { events = h.since.events; behind = h.since.behind; can_be_read = h.since.can_be_read }

  pub is_new : (o : Options) (pack : Packing P) (draws : Stream) → OptionsFit o → IsSound (fresh o pack draws)
  is_new o pack draws f = record { options = f; queue = tt; state = tt }

  pub stays_sound : (call : Call) (s : Endpoint P) → IsSound s → ArgumentFits call → IsSound (called call s)
  stays_sound call s h f = sound_of (start_of s) (called call s) (of_call (start_of s) call s f (starts s h))

  pub can_be_read : (call : Call) (s : Endpoint P) → IsSound s → ArgumentFits call → EmitsWhatCanBeRead s.endpoint_state.context (called call s).endpoint_state.context
  can_be_read call s h f = emitted_of s (called call s) (of_call (start_of s) call s f (starts s h))

  -- ---- a packet that is refused

  refused : (p : PacketTree) (text : List ℕ) (s : Endpoint P) → IsSound s → packet_refusal p.header.verification_tag p.chunks s.endpoint_state.state ≡ Some text
      → SoundAt (start_of s) (calm (on_packet p s))
  refused p text s h e =
      let g : Start P = start_of s in
      of_refused g (packet_refusal p.header.verification_tag p.chunks s.endpoint_state.state) text p (counts_row s) e ((k g).packets (counts (calm s)) (starts s h))

  pub stays_sound_refused : (p : PacketTree) (text : List ℕ) (s : Endpoint P) → IsSound s → packet_refusal p.header.verification_tag p.chunks s.endpoint_state.state ≡ Some text
      → IsSound (on_packet p s)
  stays_sound_refused p text s h e = sound_of (start_of s) (on_packet p s) (refused p text s h e)

  pub can_be_read_refused : (p : PacketTree) (text : List ℕ) (s : Endpoint P) → IsSound s → packet_refusal p.header.verification_tag p.chunks s.endpoint_state.state ≡ Some text
      → EmitsWhatCanBeRead s.endpoint_state.context (on_packet p s).endpoint_state.context
  can_be_read_refused p text s h e = emitted_of s (on_packet p s) (refused p text s h e)

-- ---- packets as the chunks that were put together

event_reads_back : (most : ℕ) (e : Event Carried) → CanBeRead as_carried most e → ReadsBackIn most e
event_reads_back most (SendPacket p) w = subst (ReadsBack most) (sym w.made) w.reads_back
event_reads_back most e w = tt

reads_back_of : (c d : Context Carried) → c.pack ≡ as_carried → EmitsWhatCanBeRead c d → EmitsWhatReadsBack c d
reads_back_of c d is w = record {
  events = w.events;
  behind = w.behind;
  reads_back = All-weaker (CanBeRead as_carried c.options.mtu) (ReadsBackIn c.options.mtu) (event_reads_back c.options.mtu) w.events
      (subst (λ (pack : Packing Carried). All (CanBeRead pack c.options.mtu) w.events) is w.can_be_read);
}

pub chunks_read_back : (call : Call) (s : Endpoint Carried) → s.endpoint_state.context.pack ≡ as_carried → IsSound s → ArgumentFits call
    → EmitsWhatReadsBack s.endpoint_state.context (called call s).endpoint_state.context
chunks_read_back call s is k f = reads_back_of s.endpoint_state.context (called call s).endpoint_state.context is (can_be_read call s k f)
