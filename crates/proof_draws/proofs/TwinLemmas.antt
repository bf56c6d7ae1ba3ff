-- What holds between actions of both ends in both traces: the second is under the names of its draws, and so is each packet that it
-- emitted, under the names of whoever sent it.
use Rattle.std.proofs.Common.{◌≡◌, ℕ, zero, suc, Bool, true, false, Some, None, List, [], ◌∷◌, ◌++◌, slice_get, All, ◌⊎◌, inl, inr, refl, sym, subst}
use Rattle.std.specs.Prelude.{⊤}
use Rattle.std.proofs.lemmas.List.Elements.{All-weaker}
use Rattle.sctp_packet.specs.Chunk.{ChunkTree, InitTree, init_chunk, init_ack_chunk, cookie_echo_chunk}
use Rattle.sctp_state.specs.Events.{Event, SendPacket, OnError, OnAborted}
use Rattle.spec_endpoint.specs.Association.{State}
use Rattle.spec_endpoint.specs.Shown.{Association, association_in}
use Rattle.proof_endpoint.specs.Mapped.{Carried}
use Rattle.proof_pair.specs.Trace.{Side, state_of}
use Rattle.proof_pair.specs.Agreement.{Draw}
use Rattle.spec_endpoint.specs.Packets.{packets_in}
use Rattle.proof_pair.proofs.AgreeLemmas.{is_load}
use Rattle.proof_draws.specs.Names.{named_state, named_context}
use Rattle.proof_draws.specs.Images.{named_carried}
use Rattle.proof_draws.specs.Pairing.{names, Knows, tags_of}
use Rattle.proof_draws.specs.Alike.{IsAlike, AreEventsAlike, AreAlike}
use Rattle.proof_draws.proofs.NamesLemmas.{same_tie, names_in, are_names}
use Rattle.proof_draws.proofs.ImageLemmas.{emitted_under}
use Rattle.proof_draws.specs.Renamed.{rename}

-- ---- whose numbers a packet holds

-- an end holds the association of these tags
pub record Holds (s : State) (mine peer : ℕ) : Type 0 where
  pub association : Association
  pub held : association_in s ≡ Some association
  pub own : association.my_tag ≡ mine
  pub other : association.peer_tag ≡ peer

pub record HoldsOne (s : State) : Type 0 where
  pub association : Association
  pub held : association_in s ≡ Some association

-- an INIT ACK that may be taken yet
pub record IsTaken (i : InitTree) (mine : ℕ) (cookie_tie : ℕ → ℕ) : Type 0 where
  pub own : i.initiate_tag ≡ mine
  pub tie : cookie_tie ≡ same_tie

pub record IsEchoing (s : State) (mine peer : ℕ) (cookie_tie : ℕ → ℕ) : Type 0 where
  pub holds : Holds s mine peer
  pub tie : cookie_tie ≡ same_tie

abbrev pub Numbers : Bool → State → (mine peer : ℕ) → Type 0
Numbers true s mine peer = Holds s mine peer
Numbers false s mine peer = ⊤

-- Of an end in this state beside the other one: these are the tags whose numbers the chunk holds.
abbrev pub Marked : (s u : State) (mine peer : ℕ) (cookie_tie : ℕ → ℕ) → ChunkTree → Type 0
Marked s u mine peer cookie_tie (init_chunk i) = i.initiate_tag ≡ mine
Marked s u mine peer cookie_tie (init_ack_chunk i) = HoldsOne u ⊎ IsTaken i mine cookie_tie
Marked s u mine peer cookie_tie (cookie_echo_chunk c) = IsEchoing s mine peer cookie_tie
Marked s u mine peer cookie_tie c = Numbers (is_load c) s mine peer

-- what is held stays held
abbrev pub Stand : (before after : State) → Type 0
Stand before after = (a : Association) → association_in before ≡ Some a → association_in after ≡ Some a

holds_on : (s t : State) (mine peer : ℕ) → Stand s t → Holds s mine peer → Holds t mine peer
holds_on s t mine peer f h = record { association = h.association; held = f h.association h.held; own = h.own; other = h.other }

one_on : (s t : State) → Stand s t → HoldsOne s → HoldsOne t
one_on s t f h = record { association = h.association; held = f h.association h.held }

numbers_on : (b : Bool) (s t : State) (mine peer : ℕ) → Stand s t → Numbers b s mine peer → Numbers b t mine peer
numbers_on true s t mine peer f h = holds_on s t mine peer f h
numbers_on false s t mine peer f h = tt

module _ (s t u v : State) (f : Stand s t) (g : Stand u v) (mine peer : ℕ) (cookie_tie : ℕ → ℕ) where
  taken_on : (i : InitTree) → HoldsOne u ⊎ IsTaken i mine cookie_tie → HoldsOne v ⊎ IsTaken i mine cookie_tie
  taken_on i (inl h) = inl (one_on u v g h)
  taken_on i (inr h) = inr h

  pub marked_on : (c : ChunkTree) → Marked s u mine peer cookie_tie c → Marked t v mine peer cookie_tie c
  marked_on (init_chunk i) h = h
  marked_on (init_ack_chunk i) h = taken_on i h
  marked_on (cookie_echo_chunk c) h = record { holds = holds_on s t mine peer f h.holds; tie = h.tie }
  marked_on c h = numbers_on (is_load c) s t mine peer f h

-- ---- packets

pub record IsNamedBy (ps : List (Draw × Draw)) (s u : State) (p q : Carried) : Type 0 where
  pub mine : ℕ
  pub peer : ℕ
  pub tie : ℕ → ℕ
  pub cookie_tie : ℕ → ℕ
  pub is : q ≡ named_carried (names ps mine peer tie cookie_tie) p
  pub marks : All (Marked s u mine peer cookie_tie) p.chunks

abbrev pub IsTwin : List (Draw × Draw) → (s u : State) → Event Carried → Event Carried → Type 0
IsTwin ps s u (SendPacket p) e = (q : Carried) × (e ≡ SendPacket q) × IsNamedBy ps s u p q
IsTwin ps s u (OnError kind text) e = (other : List ℕ) × (e ≡ OnError kind other)
IsTwin ps s u (OnAborted kind text) e = (other : List ℕ) × (e ≡ OnAborted kind other)
IsTwin ps s u event e = e ≡ event

abbrev pub Twins : List (Draw × Draw) → (s u : State) → List (Event Carried) → List (Event Carried) → Type 0
Twins ps s u [] [] = ⊤
Twins ps s u [] (f ∷ fs) = ⊥
Twins ps s u (e ∷ es) [] = ⊥
Twins ps s u (e ∷ es) (f ∷ fs) = IsTwin ps s u e f × Twins ps s u es fs

-- an end beside another one, and its image in the second trace
pub record Twin (ps : List (Draw × Draw)) (x y z : Side) : Type 0 where
  pub tie : ℕ → ℕ
  pub state : state_of z ≡ named_state (names_in ps (state_of x) tie) (state_of x)
  pub context : z.end.endpoint_state.context ≡ named_context (rename (tags_of ps)) x.end.endpoint_state.context
  pub emitted : Twins ps (state_of x) (state_of y) x.emitted z.emitted
  pub asked : z.got_init ≡ x.got_init

module _ (ps : List (Draw × Draw)) (k : Knows ps) where
  twin_alike : (s u : State) (e f : Event Carried) → IsTwin ps s u e f → IsAlike e f
  twin_alike s u (SendPacket p) f h = (
    h.0,
    h.1,
    record {
      names = names ps h.2.mine h.2.peer h.2.tie h.2.cookie_tie;
      are = are_names ps k h.2.mine h.2.peer h.2.tie h.2.cookie_tie;
      is = h.2.is;
    },
  )
  twin_alike s u (OnError kind text) f h = h
  twin_alike s u (OnAborted kind text) f h = h
  twin_alike s u e f h = h

  twins_alike : (s u : State) (es fs : List (Event Carried)) → Twins ps s u es fs → AreEventsAlike es fs
  twins_alike s u [] [] h = tt
  twins_alike s u [] (f ∷ fs) h = absurd h
  twins_alike s u (e ∷ es) [] h = absurd h
  twins_alike s u (e ∷ es) (f ∷ fs) h = (twin_alike s u e f h.0, twins_alike s u es fs h.1)

  pub are_alike : (x y z : Side) → Twin ps x y z → AreAlike x z
  are_alike x y z t = record {
    names = names_in ps (state_of x) t.tie;
    are = are_names ps k _ _ t.tie same_tie;
    state = t.state;
    context = t.context;
    emitted = twins_alike (state_of x) (state_of y) x.emitted z.emitted t.emitted;
    asked = t.asked;
  }

-- ---- as both ends go on

module _ (ps : List (Draw × Draw)) where
  module _ (s t u v : State) (f : Stand s t) (g : Stand u v) where
    twin_on : (e h : Event Carried) → IsTwin ps s u e h → IsTwin ps t v e h
    twin_on (SendPacket p) h w = (
      w.0,
      w.1,
      record {
        mine = w.2.mine;
        peer = w.2.peer;
        tie = w.2.tie;
        cookie_tie = w.2.cookie_tie;
        is = w.2.is;
        marks = All-weaker (Marked s u w.2.mine w.2.peer w.2.cookie_tie) (Marked t v w.2.mine w.2.peer w.2.cookie_tie)
            (marked_on s t u v f g w.2.mine w.2.peer w.2.cookie_tie) p.chunks w.2.marks;
      },
    )
    twin_on (OnError kind text) h w = w
    twin_on (OnAborted kind text) h w = w
    twin_on e h w = w

    pub twins_on : (es fs : List (Event Carried)) → Twins ps s u es fs → Twins ps t v es fs
    twins_on [] [] h = tt
    twins_on [] (x ∷ fs) h = absurd h
    twins_on (e ∷ es) [] h = absurd h
    twins_on (e ∷ es) (x ∷ fs) h = (twin_on e x h.0, twins_on es fs h.1)

  module _ (s u : State) where
    pub twins_both : (es fs gs hs : List (Event Carried)) → Twins ps s u es fs → Twins ps s u gs hs → Twins ps s u (es ++ gs) (fs ++ hs)
    twins_both [] [] gs hs p q = q
    twins_both [] (f ∷ fs) gs hs p q = absurd p
    twins_both (e ∷ es) [] gs hs p q = absurd p
    twins_both (e ∷ es) (f ∷ fs) gs hs p q = (p.0, twins_both es fs gs hs p.1 q)

    -- what was emitted under one name
    module _ (mine peer : ℕ) (cookie_tie : ℕ → ℕ) where
      abbrev pub AllMarked : Carried → Type 0
      AllMarked p = All (Marked s u mine peer cookie_tie) p.chunks

      abbrev pub AreMarked : List (Event Carried) → Type 0
      AreMarked [] = ⊤
      AreMarked (SendPacket p ∷ es) = AllMarked p × AreMarked es
      AreMarked (e ∷ es) = AreMarked es

      pub twins_under : (tie : ℕ → ℕ) (es : List (Event Carried)) → AreMarked es → Twins ps s u es (emitted_under (names ps mine peer tie cookie_tie) es)
      twins_under tie [] h = tt
      twins_under tie (SendPacket p ∷ es) h = (
        (
          named_carried (names ps mine peer tie cookie_tie) p,
          refl,
          record {
            mine = mine;
            peer = peer;
            tie = tie;
            cookie_tie = cookie_tie;
            is = refl;
            marks = h.0;
          },
        ),
        twins_under tie es h.1,
      )
      twins_under tie (OnError kind text ∷ es) h = ((text, refl), twins_under tie es h)
      twins_under tie (OnAborted kind text ∷ es) h = ((text, refl), twins_under tie es h)
      twins_under tie (e ∷ es) h = (refl, twins_under tie es h)

    -- ---- packets by their places

    abbrev pub TwinPackets : List Carried → List Carried → Type 0
    TwinPackets [] [] = ⊤
    TwinPackets [] (q ∷ qs) = ⊥
    TwinPackets (p ∷ rs) [] = ⊥
    TwinPackets (p ∷ rs) (q ∷ qs) = IsNamedBy ps s u p q × TwinPackets rs qs

    pub packets_twin : (es fs : List (Event Carried)) → Twins ps s u es fs → TwinPackets (packets_in es) (packets_in fs)
    packets_twin [] [] h = tt
    packets_twin [] (f ∷ fs) h = absurd h
    packets_twin (e ∷ es) [] h = absurd h
    packets_twin (SendPacket p ∷ es) (f ∷ fs) h =
        subst (λ (z : Event Carried). TwinPackets (p ∷ packets_in es) (packets_in (z ∷ fs))) (sym h.0.1) (h.0.2, packets_twin es fs h.1)
    packets_twin (OnError kind text ∷ es) (f ∷ fs) h =
        subst (λ (z : Event Carried). TwinPackets (packets_in es) (packets_in (z ∷ fs))) (sym h.0.1) (packets_twin es fs h.1)
    packets_twin (OnAborted kind text ∷ es) (f ∷ fs) h =
        subst (λ (z : Event Carried). TwinPackets (packets_in es) (packets_in (z ∷ fs))) (sym h.0.1) (packets_twin es fs h.1)
    packets_twin (e ∷ es) (f ∷ fs) h = subst (λ (z : Event Carried). TwinPackets (packets_in es) (packets_in (z ∷ fs))) (sym h.0) (packets_twin es fs h.1)

    pub record Found (p : Carried) (qs : List Carried) (n : ℕ) : Type 0 where
      pub packet : Carried
      pub there : slice_get qs n ≡ Some packet
      pub named : IsNamedBy ps s u p packet

    pub twin_found : (rs qs : List Carried) (n : ℕ) (p : Carried) → TwinPackets rs qs → slice_get rs n ≡ Some p → Found p qs n
    twin_found [] qs n p h e = cc
    twin_found (r ∷ rs) [] n p h e = absurd h
    twin_found (r ∷ rs) (q ∷ qs) zero p h e =
        let one : r ≡ p = cc in
        record { packet = q; there = refl; named = subst (λ (z : Carried). IsNamedBy ps s u z q) one h.0 }
    twin_found (r ∷ rs) (q ∷ qs) (suc n) p h e =
        let rest : Found p qs n = twin_found rs qs n p h.1 e in record { packet = rest.packet; there = rest.there; named = rest.named }

    pub twin_none : (rs qs : List Carried) (n : ℕ) → TwinPackets rs qs → slice_get rs n ≡ None → slice_get qs n ≡ None
    twin_none [] [] n h e = e
    twin_none [] (q ∷ qs) n h e = absurd h
    twin_none (r ∷ rs) [] n h e = absurd h
    twin_none (r ∷ rs) (q ∷ qs) zero h e = cc
    twin_none (r ∷ rs) (q ∷ qs) (suc n) h e = twin_none rs qs n h.1 e
