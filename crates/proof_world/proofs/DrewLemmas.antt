-- An action draws at most one tag, and the generator's words say which: packets that an end emits have an INIT alone.
use Rattle.std.proofs.Common.{◌≡◌, ℕ, ◌&&◌, Bool, true, false, Option, Some, None, List, [], ◌∷◌, ◌++◌, map, slice_get, inl, inr, refl, sym, ap, subst, ◌∙◌}
use Rattle.std.specs.Prelude.{⊤}
use Rattle.std.specs.List.{list_all}
use Rattle.std.proofs.lemmas.Bool.{and_parts}
use Rattle.rand_core.specs.Stream.{Stream}
use Rattle.sctp_packet.specs.Chunk.{ChunkTree, InitTree, data_chunk, idata_chunk, init_chunk, init_ack_chunk}
use Rattle.sctp_packet.specs.Grammar.{carried}
use Rattle.spec_endpoint.specs.Association.{Tcb, Phase, CookieEchoed, Established, ShutdownPending, ShutdownSent, ShutdownReceived, ShutdownAckSent, State, Closed, CookieWait, Open, Context, Endpoint}
use Rattle.spec_endpoint.specs.Input.{AfterChunk, packet_refusal, packet_unless, on_accepted_packet, count_packet_at, in_endpoint_state, repeats_if, has_data_chunk, receive}
use Rattle.spec_endpoint.specs.Laws.{Connect, called}
use Rattle.proof_endpoint.specs.Mapped.{Carried}
use Rattle.proof_endpoint.specs.Acts.{goes_along, goes_first, takes_more, IsBundled, an_init_alone, an_init_ack_alone, all_along}
use Rattle.proof_pair.specs.Trace.{Side, EndAction, Calls, Gives, Refuses, as_received, give_carried, act, emitted_packets, state_of}
use Rattle.proof_pair.specs.Agreement.{Draw, drawn_for, drawn_to_connect, drawn_behind, drawn_receiving, drawn_taking, drawn_given, drawn_in}
use Rattle.proof_pair.proofs.AddedLemmas.{all_get}
use Rattle.proof_world.specs.Draws.{DrawsTag}
use Rattle.proof_world.proofs.BundledLemmas.{PacketIsBundled, SideIsBundled}

-- none, or one, which the streams before and behind say
abbrev pub DrawsSo : List Draw → Stream → Stream → Type 0
DrawsSo [] s t = ⊤
DrawsSo (d ∷ []) s t = DrawsTag s t d.tag
DrawsSo (d ∷ e ∷ ds) s t = ⊥

none_drawn : (ds : List Draw) (s t : Stream) → ds ≡ [] → DrawsSo ds s t
none_drawn ds s t e = subst (λ (xs : List Draw). DrawsSo xs s t) (sym e) tt

abbrev at_state : State → Context Carried → Stream → Endpoint Carried
at_state s c w = record { endpoint_state = record { state = s; context = c }; draws = w }

-- ---- calls

connect_so : (s : State) (c : Context Carried) (w : Stream) → DrawsSo (drawn_to_connect s (at_state s c w)) w (called Connect (at_state s c w)).draws
connect_so Closed c w = inr (refl, refl)
connect_so (CookieWait tag first t1) c w = tt
connect_so (Open phase t) c w = tt

-- ---- an INIT that is alone

open_so : (tag : ℕ) (i : InitTree) (phase : Phase) (t : Tcb) (c : Context Carried) (w : Stream)
    → DrawsSo (drawn_receiving tag (init_chunk i ∷ []) (at_state (Open phase t) c w)) w (on_accepted_packet tag (init_chunk i ∷ []) (at_state (Open phase t) c w)).draws
open_so tag i (CookieEchoed t1 cookie) t c w = tt
open_so tag i Established t c w = inl (refl, refl)
open_so tag i ShutdownPending t c w = inl (refl, refl)
open_so tag i (ShutdownSent t2) t c w = inl (refl, refl)
open_so tag i ShutdownReceived t c w = inl (refl, refl)
open_so tag i (ShutdownAckSent t2) t c w = tt

init_so : (tag : ℕ) (i : InitTree) (s : State) (c : Context Carried) (w : Stream)
    → DrawsSo (drawn_receiving tag (init_chunk i ∷ []) (at_state s c w)) w (on_accepted_packet tag (init_chunk i ∷ []) (at_state s c w)).draws
init_so tag i Closed c w = inr (refl, refl)
init_so tag i (CookieWait my_tag first t1) c w = tt
init_so tag i (Open phase t) c w = open_so tag i phase t c w

-- ---- other chunks draw no tag

behind_none : (b : Bool) (rest : Endpoint Carried → List Draw) (e : Endpoint Carried) → rest e ≡ [] → drawn_behind rest (record { end = e; allows_next = b }) ≡ []
behind_none true rest e none = none
behind_none false rest e none = refl

along_none : (c : ChunkTree) (e : Endpoint Carried) → goes_along c ≡ true → drawn_for c e ≡ []
along_none (init_chunk i) e h = cc
along_none c e h = refl

first_none : (c : ChunkTree) (e : Endpoint Carried) → goes_first c ≡ true → drawn_for c e ≡ []
first_none (init_chunk i) e h = cc
first_none c e h = refl

one_none : (tag : ℕ) (c : ChunkTree) (cs : List ChunkTree) (e : Endpoint Carried) → drawn_for c e ≡ [] → ((f : Endpoint Carried) → drawn_receiving tag cs f ≡ []) → drawn_receiving tag (c ∷ cs) e ≡ []
one_none tag c cs e none rest =
    let h : AfterChunk Carried = receive tag c e in
    ap (λ (ds : List Draw). ds ++ drawn_for c e) (behind_none h.allows_next (drawn_receiving tag cs) h.end (rest h.end)) ∙ none

all_none : (tag : ℕ) (cs : List ChunkTree) (e : Endpoint Carried) → list_all goes_along cs ≡ true → drawn_receiving tag cs e ≡ []
all_none tag [] e h = refl
all_none tag (c ∷ cs) e h =
    let parts = and_parts (goes_along c) (list_all goes_along cs) h in
    one_none tag c cs e (along_none c e parts.0) (λ f. all_none tag cs f parts.1)

more_none : (tag : ℕ) (cs : List ChunkTree) (e : Endpoint Carried) → takes_more cs ≡ true → drawn_receiving tag cs e ≡ []
more_none tag [] e h = refl
more_none tag (c ∷ cs) e h =
    let parts = and_parts (goes_first c) (list_all goes_along cs) h in
    one_none tag c cs e (first_none c e parts.0) (λ f. all_none tag cs f parts.1)

-- as they are carried
carried_along : (c : ChunkTree) → goes_along (carried c) ≡ goes_along c
carried_along (data_chunk tsn immediate f) = refl
carried_along (idata_chunk tsn immediate f) = refl
carried_along c = refl

carried_first : (c : ChunkTree) → goes_first (carried c) ≡ goes_first c
carried_first (data_chunk tsn immediate f) = refl
carried_first (idata_chunk tsn immediate f) = refl
carried_first c = refl

all_carried : (cs : List ChunkTree) → list_all goes_along (map carried cs) ≡ list_all goes_along cs
all_carried [] = refl
all_carried (c ∷ cs) =
    ap (λ (b : Bool). b && list_all goes_along (map carried cs)) (carried_along c) ∙ ap (λ (b : Bool). goes_along c && b) (all_carried cs)

more_carried : (cs : List ChunkTree) → takes_more (map carried cs) ≡ takes_more cs
more_carried [] = refl
more_carried (c ∷ cs) =
    ap (λ (b : Bool). b && list_all goes_along (map carried cs)) (carried_first c) ∙ ap (λ (b : Bool). goes_first c && b) (all_carried cs)

-- ---- a packet

module _ (tag : ℕ) (e : Endpoint Carried) where
  abbrev Takes : List ChunkTree → Type 0
  Takes cs = DrawsSo (drawn_receiving tag cs (in_endpoint_state (repeats_if (has_data_chunk cs)) e)) e.draws (on_accepted_packet tag cs e).draws

  bundle_so : (cs : List ChunkTree) → IsBundled cs → Takes (map carried cs)
  bundle_so cs (an_init_alone i alone) = subst Takes (sym (ap (map carried) alone)) (init_so tag i e.endpoint_state.state e.endpoint_state.context e.draws)
  bundle_so cs (an_init_ack_alone i alone) = subst Takes (sym (ap (map carried) alone)) (none_drawn _ _ _ (more_ack i))
    where
      more_ack : (i : InitTree) → drawn_receiving tag (init_ack_chunk i ∷ []) e ≡ []
      more_ack i = one_none tag (init_ack_chunk i) [] e refl (λ f. refl)
  bundle_so cs (all_along h) = none_drawn _ _ _ (more_none tag (map carried cs) _ (more_carried cs ∙ h))

given_so : (p : Carried) (checksum : ℕ) (x : Side) → IsBundled p.chunks → DrawsSo (drawn_given (Some p) checksum x) x.end.draws (give_carried (Some p) checksum x).end.draws
given_so p checksum x h = go (packet_refusal p.header.verification_tag (map carried p.chunks) (state_of x))
  where
    go : (r : Option (List ℕ)) → DrawsSo (drawn_taking r (as_received p checksum) x.end) x.end.draws (packet_unless r p.header.verification_tag (map carried p.chunks) (count_packet_at x.end)).draws
    go (Some text) = tt
    go None = bundle_so p.header.verification_tag (count_packet_at x.end) p.chunks h

pub act_so : (t : EndAction) (x y : Side) → SideIsBundled y → DrawsSo (drawn_in t x y) x.end.draws (act t x y).end.draws
act_so (Calls Connect) x y h = connect_so (state_of x) x.end.endpoint_state.context x.end.draws
act_so (Calls call) x y h = tt
act_so (Gives which checksum) x y h = go (slice_get (emitted_packets y) which) refl
  where
    go : (p : Option Carried) → slice_get (emitted_packets y) which ≡ p → DrawsSo (drawn_given p checksum x) x.end.draws (give_carried p checksum x).end.draws
    go None e = tt
    go (Some p) e = given_so p checksum x (all_get PacketIsBundled (emitted_packets y) which p e h.said)
act_so (Refuses p) x y h = tt
