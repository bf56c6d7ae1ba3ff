-- A call of the user, or a moment, on an end and on its image.
use Rattle.std.proofs.Common.{◌≡◌, ℕ, true, false, List, [], inl, refl, sym, ap, subst, ◌∙◌}
use Rattle.std.proofs.lemmas.Bool.{both_ways}
use Rattle.rand_core.specs.Stream.{Stream}
use Rattle.spec_endpoint.specs.Association.{State, Closed, CookieWait, Open}
use Rattle.spec_endpoint.specs.Opening.{connect_in}
use Rattle.spec_endpoint.specs.Input.{my_tag}
use Rattle.spec_endpoint.specs.Laws.{Call, Connect, Close, Shutdown, Send, SendMany, ResetStreams, TakeMessage, SetLowThreshold, SetPriority, SetMaxMessageSize, Advance, HandOver, Restore, ReceivePacket, ReceiveNoPacket, called}
use Rattle.proof_pair.specs.Trace.{Side, MayCall, state_of}
use Rattle.proof_endpoint.specs.Mapped.{as_carried}
use Rattle.proof_pair.specs.Agreement.{Draw, Has}
use Rattle.proof_draws.specs.NamedChunks.{Names}
use Rattle.proof_draws.specs.Names.{named_state}
use Rattle.proof_draws.specs.Laws.{DrawsTwo}
use Rattle.proof_draws.specs.NamedCalls.{named_call, CallIsNamed, EachCallIsNamed}
use Rattle.proof_draws.specs.Pairing.{names, Knows}
use Rattle.proof_draws.proofs.NamesLemmas.{same_tie, peer_in, names_in, TagsAre, are_names}
use Rattle.proof_draws.proofs.ImageLemmas.{mirrored}
use Rattle.proof_draws.proofs.TwinLemmas.{Twin}
use Rattle.proof_draws.proofs.GuideLemmas.{Guides, tags_after}
use Rattle.proof_draws.proofs.StepLemmas.{two_of, receives_init, Named}
use Rattle.proof_draws.proofs.FlowLemmas.{own_tags}

-- ---- calls that receive nothing

silent_call : (x : Side) (c : Call) → MayCall c x → receives_init c ≡ false
silent_call x (ReceivePacket p) may = absurd may
silent_call x c may = refl

same_call : (x : Side) (n : Names) (c : Call) → MayCall c x → named_call n c ≡ c
same_call x n (ReceivePacket p) may = absurd may
same_call x n c may = refl

call_is : (x : Side) (n : Names) (c : Call) (w v : Stream) → MayCall c x → (c ≡ Connect → state_of x ≡ Closed → DrawsTwo n w v)
    → CallIsNamed n c (state_of x) w v
call_is x n Connect w v may f = f refl
call_is x n (ReceivePacket p) w v may f = absurd may
call_is x n (Restore h) w v may f = absurd may
call_is x n c w v may f = tt

guides : (x : Side) (c : Call) (mine peer : ℕ) → MayCall c x → (c ≡ Connect → ⊥) → Guides c mine peer
guides x c mine peer may other = record {
  answers = λ tag i h. absurd (subst (λ (d : Call). MayCall d x) h.given may);
  own = λ tag k e. absurd (subst (λ (d : Call). MayCall d x) e.received.given may);
  other = λ tag k e. absurd (subst (λ (d : Call). MayCall d x) e.received.given may);
  connects = other;
  restores = λ h e. subst (λ (d : Call). MayCall d x) e may;
}

module _ (ps : List (Draw × Draw)) (k : Knows ps) (law : EachCallIsNamed) (x y z : Side) (t : Twin ps x y z) (packing : x.end.endpoint_state.context.pack ≡ as_carried)
    (quiet : x.end.endpoint_state.context.emitted.events ≡ []) where
  -- under the names of the state
  module _ (c : Call) (may : MayCall c x) where
    second : (n : Names) → (called c z.end).endpoint_state ≡ (called (named_call n c) z.end).endpoint_state
    second n = ap (λ (d : Call). (called d z.end).endpoint_state) (sym (same_call x n c may))

    in_state : TagsAre (my_tag (state_of x)) (peer_in (state_of x)) (called c x.end).endpoint_state.state → (c ≡ Connect → state_of x ≡ Closed → ⊥)
        → Named ps x z (state_of y) c (called c z.end)
    in_state tags other =
        let s : State = state_of x in
        let n : Names = names_in ps s t.tie in
        record {
          mine = my_tag s;
          peer = peer_in s;
          tie = t.tie;
          cookie_tie = same_tie;
          before = t.state;
          is = second n
              ∙ mirrored law n (are_names ps k (my_tag s) (peer_in s) t.tie same_tie) c x.end z.end packing quiet t.state t.context
              (call_is x n c x.end.draws z.end.draws may (λ e f. absurd (other e f)));
          tags = λ stand. tags;
          ties = inl refl;
          drew = λ receives closed. absurd (both_ways (receives_init c) (silent_call x c may) receives);
        }

    pub other_named : (c ≡ Connect → ⊥) → Named ps x z (state_of y) c (called c z.end)
    other_named other =
        in_state (tags_after c (my_tag (state_of x)) (peer_in (state_of x)) (guides x c (my_tag (state_of x)) (peer_in (state_of x)) may other) x.end (own_tags (state_of x)))
        (λ e f. other e)

  -- ---- connect

  -- an end that isn't closed does nothing
  kept_tags : (s : State) → (s ≡ Closed → ⊥) → TagsAre (my_tag (state_of x)) (peer_in (state_of x)) (connect_in s x.end).endpoint_state.state
  kept_tags Closed other = absurd (other refl)
  kept_tags (CookieWait tag first t1) other = own_tags (state_of x)
  kept_tags (Open phase u) other = own_tags (state_of x)

  not_anew : MayCall Connect x → (state_of x ≡ Closed → ⊥) → Named ps x z (state_of y) Connect (called Connect z.end)
  not_anew may other = in_state Connect may (kept_tags (state_of x) other) (λ e f. other f)

  anew : MayCall Connect x → state_of x ≡ Closed → Has (two_of x.end, two_of z.end) ps
      → Named ps x z (state_of y) Connect (called Connect z.end)
  anew may is there =
      let own : Draw = two_of x.end in
      let theirs : Draw = two_of z.end in
      let n : Names = names ps own.tag 0 t.tie same_tie in
      let state : state_of z ≡ named_state n (state_of x) =
      t.state ∙ (ap (λ (s : State). named_state (names_in ps s t.tie) s) is ∙ sym (ap (λ (s : State). named_state n s) is)) in
      record {
        mine = own.tag;
        peer = 0;
        tie = t.tie;
        cookie_tie = same_tie;
        before = state;
        is = mirrored law n (are_names ps k own.tag 0 t.tie same_tie) Connect x.end z.end packing quiet state t.context
            (λ closed. record { first = sym (k.firsts own theirs there); tag = sym (k.tags own theirs there) });
        tags = λ stand. subst (λ (s : State). TagsAre own.tag 0 (connect_in s x.end).endpoint_state.state) (sym is) refl;
        ties = inl refl;
        drew = λ receives closed. let never : false ≡ true = receives in cc;
      }

  connect_by : (s : State) → state_of x ≡ s → MayCall Connect x → (state_of x ≡ Closed → Has (two_of x.end, two_of z.end) ps)
      → Named ps x z (state_of y) Connect (called Connect z.end)
  connect_by Closed is may pair = anew may is (pair is)
  connect_by (CookieWait tag first t1) is may pair = not_anew may (λ e. let never : CookieWait tag first t1 ≡ Closed = sym is ∙ e in cc)
  connect_by (Open phase u) is may pair = not_anew may (λ e. let never : Open phase u ≡ Closed = sym is ∙ e in cc)

  pub call_named : (c : Call) → MayCall c x → (c ≡ Connect → state_of x ≡ Closed → Has (two_of x.end, two_of z.end) ps)
      → Named ps x z (state_of y) c (called c z.end)
  call_named Connect may pair = connect_by (state_of x) refl may (pair refl)
  call_named Close may pair = other_named Close may (λ e. cc)
  call_named Shutdown may pair = other_named Shutdown may (λ e. cc)
  call_named (Send m o) may pair = other_named (Send m o) may (λ e. cc)
  call_named (SendMany ms o) may pair = other_named (SendMany ms o) may (λ e. cc)
  call_named (ResetStreams streams) may pair = other_named (ResetStreams streams) may (λ e. cc)
  call_named TakeMessage may pair = other_named TakeMessage may (λ e. cc)
  call_named (SetLowThreshold stream bytes) may pair = other_named (SetLowThreshold stream bytes) may (λ e. cc)
  call_named (SetPriority stream priority) may pair = other_named (SetPriority stream priority) may (λ e. cc)
  call_named (SetMaxMessageSize bytes) may pair = other_named (SetMaxMessageSize bytes) may (λ e. cc)
  call_named (Advance now) may pair = other_named (Advance now) may (λ e. cc)
  call_named HandOver may pair = other_named HandOver may (λ e. cc)
  call_named (Restore h) may pair = absurd may
  call_named (ReceivePacket p) may pair = absurd may
  call_named ReceiveNoPacket may pair = other_named ReceiveNoPacket may (λ e. cc)
