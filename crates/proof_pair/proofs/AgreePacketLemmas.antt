-- A packet that an end takes, over every trace: under which tag it came, and what it leaves.
use Rattle.std.proofs.Common.{◌≡◌, ℕ, ◌==◌, ◌&&◌, not, Bool, true, false, Option, Some, None, List, [], ◌∷◌, ◌++◌, map, All, ◌⊎◌, inl, inr, refl, sym, ap, ◌∙◌}
use Rattle.std.specs.List.{list_all}
use Rattle.std.proofs.lemmas.List.Elements.{All-nil, All-cons, All-head, All-tail, All-weaker}
use Rattle.std.proofs.lemmas.Bool.{and_parts, both_ways, eqb-true}
use Rattle.sctp_packet.specs.Chunk.{ChunkTree, init_chunk, init_ack_chunk, cookie_echo_chunk, cookie_ack_chunk, abort_chunk, shutdown_complete_chunk, shutdown_ack_chunk}
use Rattle.sctp_packet.specs.Grammar.{carried}
use Rattle.sctp_packet.specs.Packet.{PacketTree}
use Rattle.sctp_state.specs.Events.{Event}
use Rattle.sctp_state.specs.Options.{Options}
use Rattle.spec_endpoint.specs.Association.{State, Closed, CookieWait, Open, Endpoint}
use Rattle.spec_endpoint.specs.Input.{my_tag, abort_flag, complete_flag, has_shutdown_ack, begins_with_cookie, is_single_init, plain_refusal, has_more_counted, unless_many, packet_refusal_by, packet_refusal, AfterChunk, receive, receive_all, receive_rest, has_data_chunk, repeats_if, in_endpoint_state, on_packet_end, on_accepted_packet, count_packet_at}
use Rattle.spec_endpoint.specs.Laws.{ReceiveNoPacket}
use Rattle.proof_endpoint.specs.Mapped.{Carried}
use Rattle.proof_endpoint.specs.Acts.{calm, Preserves}
use Rattle.proof_pair.specs.Trace.{AreValidOptions}
use Rattle.proof_pair.specs.Agreement.{Draw, Association, History, drawn_for, AreDistinct}
use Rattle.proof_endpoint.proofs.RowActsLemmas.{does_where_open}
use Rattle.proof_endpoint.proofs.ActsLemmas.{does_repeats_if, does_ended}
use Rattle.proof_pair.proofs.AgreeLemmas.{Past, view_of, IsUnder, is_opening, is_silent, is_load, all_pass, Shape, Says, says_later, Later, later_same}
use Rattle.proof_pair.proofs.AgreeActsLemmas.{Setting, InvAt}
use Rattle.proof_pair.proofs.AgreeNotesLemmas.{noted, noted_after, noted_receiving, noted_taking}
use Rattle.proof_pair.proofs.AgreeOpeningLemmas.{Known, kept_quiet}
use Rattle.proof_pair.proofs.AgreeCookieLemmas.{past_of, bounded, Goes, goes_held}
use Rattle.proof_pair.proofs.AgreeReceivingLemmas.{is_mild, is_no_answer, Comes, goes_through, receives}

-- ---- under which tag a packet is taken

no_abort : (cs : List ChunkTree) → list_all is_mild cs ≡ true → abort_flag cs ≡ None
no_abort [] h = refl
no_abort (abort_chunk reflected causes ∷ cs) h = cc
no_abort (c ∷ cs) h = no_abort cs (and_parts (is_mild c) (list_all is_mild cs) h).1

no_complete : (cs : List ChunkTree) → list_all is_mild cs ≡ true → complete_flag cs ≡ None
no_complete [] h = refl
no_complete (shutdown_complete_chunk reflected ∷ cs) h = cc
no_complete (c ∷ cs) h = no_complete cs (and_parts (is_mild c) (list_all is_mild cs) h).1

no_shutdown_ack : (cs : List ChunkTree) → list_all is_mild cs ≡ true → has_shutdown_ack cs ≡ false
no_shutdown_ack [] h = refl
no_shutdown_ack (shutdown_ack_chunk ∷ cs) h = cc
no_shutdown_ack (c ∷ cs) h = no_shutdown_ack cs (and_parts (is_mild c) (list_all is_mild cs) h).1

no_cookie : (cs : List ChunkTree) → list_all is_mild cs ≡ true → begins_with_cookie cs ≡ false
no_cookie [] h = refl
no_cookie (cookie_echo_chunk c ∷ cs) h = cc
no_cookie (c ∷ cs) h = refl

pub record Admitted (tag : ℕ) (cs : List ChunkTree) (s : State) : Type 0 where
  pub under : Option ℕ
  pub comes : All (Comes under tag) cs
  pub fits : IsUnder under (view_of s)

comes_mild : (tag : ℕ) (cs : List ChunkTree) → list_all is_mild cs ≡ true → All (Comes (Some tag) tag) cs
comes_mild tag [] h = All-nil (Comes (Some tag) tag)
comes_mild tag (c ∷ cs) h =
    let parts = and_parts (is_mild c) (list_all is_mild cs) h in
    All-cons (Comes (Some tag) tag) c cs (record { answers = λ e. refl; cookies = λ e. absurd (both_ways (is_mild c) e parts.0) }) (comes_mild tag cs parts.1)

comes_silent : (tag : ℕ) (cs : List ChunkTree) → list_all is_no_answer cs ≡ true → All (Comes None tag) cs
comes_silent tag [] h = All-nil (Comes None tag)
comes_silent tag (c ∷ cs) h =
    let parts = and_parts (is_no_answer c) (list_all is_no_answer cs) h in
    All-cons (Comes None tag) c cs (record { answers = λ e. absurd (both_ways (is_no_answer c) e parts.0); cookies = λ e. refl }) (comes_silent tag cs parts.1)

under_own : (s : State) (tag : ℕ) → my_tag s ≡ tag → IsUnder (Some tag) (view_of s)
under_own Closed tag e = tt
under_own (CookieWait own first t1) tag e = e
under_own (Open phase t) tag e = e

single : (tag : ℕ) (cs : List ChunkTree) (s : State) → is_single_init cs ≡ true → Admitted tag cs s
single tag [] s h = cc
single tag (init_chunk i ∷ []) s h = record {
  under = None;
  comes = All-cons (Comes None tag) (init_chunk i) [] (record { answers = λ e. cc; cookies = λ e. cc }) (All-nil (Comes None tag));
  fits = tt;
}
single tag (init_chunk i ∷ d ∷ cs) s h = cc
single tag (c ∷ cs) s h = cc

by_tag : (is_zero is_init is_own : Bool) (tag own : ℕ) (cs : List ChunkTree) (s : State) → list_all is_mild cs ≡ true → (is_init ≡ true → is_single_init cs ≡ true)
    → (is_own ≡ true → my_tag s ≡ tag) → plain_refusal false is_zero is_init is_own tag own ≡ None → Admitted tag cs s
by_tag true true is_own tag own cs s h f e refused = single tag cs s (f refl)
by_tag true false is_own tag own cs s h f e refused = cc
by_tag false is_init true tag own cs s h f e refused = record { under = Some tag; comes = comes_mild tag cs h; fits = under_own s tag (e refl) }
by_tag false is_init false tag own cs s h f e refused = cc

-- the own tag is asked for, or no answer comes
abbrev ComesBy : List ChunkTree → Type 0
ComesBy cs = (list_all is_mild cs ≡ true) ⊎ (list_all is_no_answer cs ≡ true)

silent_answers_nothing : (c : ChunkTree) → is_silent c ≡ true → is_no_answer c ≡ true
silent_answers_nothing (init_ack_chunk i) e = cc
silent_answers_nothing cookie_ack_chunk e = cc
silent_answers_nothing c e = refl

load_is_mild : (c : ChunkTree) → is_load c ≡ true → is_mild c ≡ true
load_is_mild (abort_chunk reflected causes) e = cc
load_is_mild (shutdown_complete_chunk reflected) e = cc
load_is_mild shutdown_ack_chunk e = cc
load_is_mild (cookie_echo_chunk c) e = cc
load_is_mild c e = refl

load_answers_nothing : (c : ChunkTree) → is_load c ≡ true → is_no_answer c ≡ true
load_answers_nothing (init_ack_chunk i) e = cc
load_answers_nothing cookie_ack_chunk e = cc
load_answers_nothing c e = refl

comes_by : (cs : List ChunkTree) → Shape cs → ComesBy cs
comes_by cs (inl h) = inr (all_pass is_silent is_no_answer silent_answers_nothing cs h)
comes_by [] (inr h) = absurd h
comes_by (init_ack_chunk i ∷ cs) (inr h) = inl (all_pass is_load is_mild load_is_mild cs h.1)
comes_by (cookie_ack_chunk ∷ cs) (inr h) = inl (all_pass is_load is_mild load_is_mild cs h.1)
comes_by (cookie_echo_chunk c ∷ cs) (inr h) = inr (all_pass is_load is_no_answer load_answers_nothing cs h.1)
comes_by (c ∷ cs) (inr h) = let no : is_opening c ≡ true = h.0 in cc

few_none : (is_many : Bool) (refusal : Option (List ℕ)) → unless_many is_many refusal ≡ None → refusal ≡ None
few_none true refusal e = cc
few_none false refusal e = e

admitted_by : (tag : ℕ) (cs : List ChunkTree) (s : State) → ComesBy cs → packet_refusal tag cs s ≡ None → Admitted tag cs s
admitted_by tag cs s (inr h) refused = record { under = None; comes = comes_silent tag cs h; fits = tt }
admitted_by tag cs s (inl h) refused =
    by_tag (tag == 0) (is_single_init cs) (tag == my_tag s) tag (my_tag s) cs s h (λ e. e) (λ e. sym (eqb-true tag (my_tag s) e))
    (sym (ap (λ (a : Option Bool). packet_refusal_by a (complete_flag cs) (has_shutdown_ack cs) tag cs s) (no_abort cs h)
    ∙ (ap (λ (a : Option Bool). packet_refusal_by None a (has_shutdown_ack cs) tag cs s) (no_complete cs h)
    ∙ (ap (λ (a : Bool). packet_refusal_by None None a tag cs s) (no_shutdown_ack cs h)
    ∙ ap (λ (a : Bool). plain_refusal a (tag == 0) (is_single_init cs) (tag == my_tag s) tag (my_tag s)) (no_cookie cs h))))
    ∙ few_none (has_more_counted 4 cs) (packet_refusal_by (abort_flag cs) (complete_flag cs) (has_shutdown_ack cs) tag cs s) refused)

pub admitted : (tag : ℕ) (cs : List ChunkTree) (s : State) → Shape cs → packet_refusal tag cs s ≡ None → Admitted tag cs s
admitted tag cs s h refused = admitted_by tag cs s (comes_by cs h) refused

all_carried : (test : ChunkTree → Bool) → ((c : ChunkTree) → test (carried c) ≡ test c) → (cs : List ChunkTree) → list_all test (map carried cs) ≡ list_all test cs
all_carried test f [] = refl
all_carried test f (c ∷ cs) = ap (λ (b : Bool). b && list_all test (map carried cs)) (f c) ∙ ap (λ (b : Bool). test c && b) (all_carried test f cs)

opening_carried : (c : ChunkTree) → is_opening (carried c) ≡ is_opening c
opening_carried (init_chunk i) = refl
opening_carried c = refl

silent_carried : (c : ChunkTree) → is_silent (carried c) ≡ is_silent c
silent_carried c = ap not (opening_carried c)

load_carried : (c : ChunkTree) → is_load (carried c) ≡ is_load c
load_carried (init_chunk i) = refl
load_carried c = refl

pub shape_carried : (cs : List ChunkTree) → Shape cs → Shape (map carried cs)
shape_carried cs (inl h) = inl (all_carried is_silent silent_carried cs ∙ h)
shape_carried [] (inr h) = absurd h
shape_carried (c ∷ cs) (inr h) = inr (opening_carried c ∙ h.0, all_carried is_load load_carried cs ∙ h.1)

-- ---- draws before

pub distinct_behind : (ds es : List Draw) → AreDistinct (ds ++ es) → AreDistinct es
distinct_behind [] es h = h
distinct_behind (d ∷ ds) es h = distinct_behind ds es h.1

distinct_after : (b : Bool) (rest : Endpoint Carried → History → History) (e : Endpoint Carried) (m : History) → ((k : History) → AreDistinct (rest e k).drawn → AreDistinct k.drawn)
    → AreDistinct (noted_after rest (record { end = e; allows_next = b }) m).drawn → AreDistinct m.drawn
distinct_after true rest e m f h = f m h
distinct_after false rest e m f h = h

pub distinct_receiving : (tag : ℕ) (cs : List ChunkTree) (e : Endpoint Carried) (n : History) → AreDistinct (noted_receiving tag cs e n).drawn → AreDistinct n.drawn
distinct_receiving tag [] e n h = h
distinct_receiving tag (c ∷ cs) e n h =
    let x : AfterChunk Carried = receive tag c e in
    let m : History = noted (drawn_for c e) x.end.endpoint_state.state n in
    distinct_behind (drawn_for c e) n.drawn
    (distinct_after x.allows_next (noted_receiving tag cs) x.end m (λ k q. distinct_receiving tag cs x.end k q) h)

-- ---- chunk by chunk

module _ (o : Options) (past : List (Event Carried)) (y : Past) (fine : AreValidOptions o) (theirs : AreDistinct y.drawn) (p : PacketTree) (under : Option ℕ) where
  abbrev g : Setting
  g = bounded o past under None

  abbrev tag : ℕ
  tag = p.header.verification_tag

  says_on : (cs : List ChunkTree) (n m : History) (e1 e2 : List Association) → Later (past_of n e1) (past_of m e2) → All (Says y (past_of n e1) tag) cs
      → All (Says y (past_of m e2) tag) cs
  says_on cs n m e1 e2 l h = All-weaker (Says y (past_of n e1) tag) (Says y (past_of m e2) tag) (says_later y (past_of n e1) y (past_of m e2) (later_same y) l tag) cs h

  receives_rest : (b : Bool) (rest : Endpoint Carried → History → History) (f : Endpoint Carried → Endpoint Carried) (e : Endpoint Carried) (n m : History) (e1 : List Association)
      → Goes g y n e1 m e → ((a : Goes g y n e1 m e) → AreDistinct (rest e m).drawn → Goes g y m a.more (rest e m) (f e))
      → AreDistinct (noted_after rest (record { end = e; allows_next = b }) m).drawn
      → Goes g y n e1 (noted_after rest (record { end = e; allows_next = b }) m) (receive_rest f (record { end = e; allows_next = b }))
  receives_rest true rest f e n m e1 a next h = goes_through g y n e1 m (rest e m) e (f e) a (next a h)
  receives_rest false rest f e n m e1 a next h = a

  receives_all : (cs : List ChunkTree) (n : History) (e1 : List Association) (e : Endpoint Carried) → Known (past_of n e1) → All (Comes under tag) cs
      → All (Says y (past_of n e1) tag) cs → AreDistinct (noted_receiving tag cs e n).drawn → InvAt g (past_of n e1) y (calm e)
      → Goes g y n e1 (noted_receiving tag cs e n) (receive_all tag cs e)
  receives_all [] n e1 e known comes said mine inv = record { more = e1; later = later_same (past_of n e1); known = known; inv = inv }
  receives_all (c ∷ cs) n e1 e known comes said mine inv =
      let x : AfterChunk Carried = receive tag c e in
      let m : History = noted (drawn_for c e) x.end.endpoint_state.state n in
      let first : Goes g y n e1 m x.end =
      receives o past y fine theirs p under n e1 known c e (All-head (Comes under tag) c cs comes) (All-head (Says y (past_of n e1) tag) c cs said)
      (distinct_receiving tag (c ∷ cs) e n mine) inv in
      receives_rest x.allows_next (noted_receiving tag cs) (receive_all tag cs) x.end n m e1 first
      (λ a d. receives_all cs m a.more x.end a.known (All-tail (Comes under tag) c cs comes)
      (says_on cs n m e1 a.more a.later (All-tail (Says y (past_of n e1) tag) c cs said)) d a.inv) mine

  -- ---- the packet

  pub takes_packet : (n : History) (e1 : List Association) (e : Endpoint Carried) → Known (past_of n e1) → All (Comes under tag) p.chunks
      → All (Says y (past_of n e1) tag) p.chunks → AreDistinct (noted_taking None p e n).drawn → InvAt g (past_of n e1) y (calm e)
      → Goes g y n e1 (noted [] (on_accepted_packet tag p.chunks (count_packet_at e)).endpoint_state.state (noted_taking None p e n)) (on_accepted_packet tag p.chunks (count_packet_at e))
  takes_packet n e1 e known comes said mine inv =
      let x : Past = past_of n e1 in
      let first : Endpoint Carried = in_endpoint_state (repeats_if (has_data_chunk p.chunks)) (count_packet_at e) in
      let m : History = noted_taking None p e n in
      let begun : InvAt g x y (calm first) = does_repeats_if (kept_quiet g y fine x) (has_data_chunk p.chunks) (count_packet_at e).endpoint_state e.draws inv in
      let a : Goes g y n e1 m (receive_all tag p.chunks first) = receives_all p.chunks n e1 first known comes said mine begun in
      let middle : Endpoint Carried = receive_all tag p.chunks first in
      let last : Endpoint Carried = on_accepted_packet tag p.chunks (count_packet_at e) in
      let q : Preserves ReceiveNoPacket (λ s t. InvAt g (past_of m a.more) y s → InvAt g (past_of m a.more) y t) = kept_quiet g y fine (past_of m a.more) in
      let done : InvAt g (past_of m a.more) y (calm last) = does_where_open q middle.draws on_packet_end middle.endpoint_state (does_ended q middle.draws) a.inv in
      goes_through g y n e1 m (noted [] last.endpoint_state.state m) middle last a (goes_held g y m a.more last a.known done)
