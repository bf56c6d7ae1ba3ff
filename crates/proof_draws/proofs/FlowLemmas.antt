-- A packet that opens no association is received under the names of its sender, flipped; where it holds no numbers, under any.
use Rattle.std.proofs.Common.{◌≡◌, ℕ, Bool, true, false, None, List, [], ◌∷◌, map, All, ◌⊎◌, inl, inr, refl, sym, ap, ◌∙◌}
use Rattle.std.specs.List.{list_all}
use Rattle.std.proofs.lemmas.Bool.{both_ways, and_parts, and_from}
use Rattle.std.proofs.lemmas.List.Elements.{All-nil, All-cons, All-head, All-tail}
use Rattle.std.proofs.lemmas.Option.{same_Some}
use Rattle.sctp_wire.specs.Parameter.{ParameterTree, state_cookie}
use Rattle.sctp_packet.specs.Chunk.{ChunkTree, data_chunk, idata_chunk, init_chunk, init_ack_chunk, sack_chunk, heartbeat_request_chunk, heartbeat_ack_chunk, abort_chunk, shutdown_chunk, shutdown_ack_chunk, error_chunk, cookie_echo_chunk, cookie_ack_chunk, shutdown_complete_chunk, re_config_chunk, forward_tsn_chunk, i_forward_tsn_chunk, unknown_chunk}
use Rattle.sctp_packet.specs.Grammar.{carried}
use Rattle.spec_endpoint.specs.Association.{Tcb, State, Closed, CookieWait, Open, Endpoint}
use Rattle.spec_endpoint.specs.Shown.{Association}
use Rattle.spec_endpoint.specs.Input.{my_tag, packet_refusal}
use Rattle.spec_endpoint.specs.Laws.{Call, ReceivePacket, called}
use Rattle.proof_endpoint.specs.Mapped.{Carried, as_carried}
use Rattle.proof_pair.specs.Trace.{Side, as_received, state_of}
use Rattle.proof_pair.specs.Agreement.{Draw as Drawn}
use Rattle.proof_pair.proofs.JoinLemmas.{Draw, view_of, Faces}
use Rattle.proof_draws.specs.NamedChunks.{Names, flip, named_chunk, named_chunks, named_parameter}
use Rattle.proof_draws.specs.Names.{named_state}
use Rattle.proof_draws.specs.Laws.{NumbersFitIn, number_fits, is_flowing}
use Rattle.proof_draws.specs.NamedCalls.{flow, EachCallIsNamed}
use Rattle.proof_draws.specs.Renamed.{rename}
use Rattle.proof_draws.specs.Pairing.{tags_of, names, Knows}
use Rattle.proof_draws.proofs.NamesLemmas.{same_tie, peer_in, names_in, TagsAre, state_by}
use Rattle.proof_draws.proofs.TwinLemmas.{Holds, Marked, Twin, IsNamedBy}
use Rattle.proof_draws.proofs.ChunkLemmas.{named_with, is_bare, chunks_received, chunks_bare, all_flow_carried}
use Rattle.proof_draws.proofs.GuideLemmas.{Guides, tags_after}
use Rattle.proof_draws.proofs.StepLemmas.{first_is_init, receives_init, Named}
use Rattle.proof_draws.proofs.ReceivedLemmas.{all_received, taken_as, taken_too}
use Rattle.proof_draws.proofs.BlankLemmas.{on_chunks, chunks_blank}

-- ---- tags

pub own_tags : (s : State) → TagsAre (my_tag s) (peer_in s) s
own_tags Closed = tt
own_tags (CookieWait tag first t1) = refl
own_tags (Open phase t) = (refl, refl)

abbrev pub held_by : Tcb → Association
held_by t = record {
  my_tag = t.identity.my_tag;
  my_initial_tsn = t.identity.my_first;
  peer_tag = t.identity.peer_tag;
  peer_initial_tsn = t.identity.peer_first;
}

-- the end beside one that holds an association has its tags mirrored
pub faced_tags : (s u : State) (mine peer : ℕ) → Holds u mine peer → Faces (view_of u).holds (view_of s).mine → Faces (view_of s).holds (view_of u).mine
    → TagsAre peer mine s
faced_tags s Closed mine peer h f g = let none = h.held in cc
faced_tags s (CookieWait tag first t1) mine peer h f g = let none = h.held in cc
faced_tags Closed (Open phase t) mine peer h f g = tt
faced_tags (CookieWait tag first t1) (Open phase t) mine peer h f g =
    let same : held_by t ≡ h.association = same_Some (held_by t) h.association h.held in
    ap (λ (d : Draw). d.tag) f ∙ (ap (λ (a : Association). a.peer_tag) same ∙ h.other)
faced_tags (Open next u) (Open phase t) mine peer h f g =
    let same : held_by t ≡ h.association = same_Some (held_by t) h.association h.held in (
      ap (λ (d : Draw). d.tag) f ∙ (ap (λ (a : Association). a.peer_tag) same ∙ h.other),
      sym (ap (λ (d : Draw). d.tag) g) ∙ (ap (λ (a : Association). a.my_tag) same ∙ h.own),
    )

-- ---- tests of all chunks

pub all_true : (test : ChunkTree → Bool) (cs : List ChunkTree) → list_all test cs ≡ true → All (λ c. test c ≡ true) cs
all_true test [] h = All-nil (λ c. test c ≡ true)
all_true test (c ∷ cs) h =
    let parts = and_parts (test c) (list_all test cs) h in All-cons (λ c. test c ≡ true) c cs parts.0 (all_true test cs parts.1)

pub flow_silent : (cs : List ChunkTree) → list_all is_flowing cs ≡ true → first_is_init cs ≡ false
flow_silent [] h = refl
flow_silent (init_chunk i ∷ cs) h = cc
flow_silent (c ∷ cs) h = refl

-- ---- cookies are not in what flows

module _ (tag : ℕ → ℕ) (own peer : ℕ) (cookie other : List ℕ → List ℕ) (t c u d : ℕ → ℕ) where
  parameter_cookies : (p : ParameterTree) → number_fits p ≡ true
      → named_parameter (named_with tag own peer cookie t c) p ≡ named_parameter (named_with tag own peer other u d) p
  parameter_cookies (state_cookie k) h = cc
  parameter_cookies p h = refl

  parameters_cookies : (ps : List ParameterTree) → list_all number_fits ps ≡ true
      → map (named_parameter (named_with tag own peer cookie t c)) ps ≡ map (named_parameter (named_with tag own peer other u d)) ps
  parameters_cookies [] h = refl
  parameters_cookies (p ∷ ps) h =
      let parts = and_parts (number_fits p) (list_all number_fits ps) h in
      ap (λ (z : ParameterTree). z ∷ map (named_parameter (named_with tag own peer cookie t c)) ps) (parameter_cookies p parts.0)
      ∙ ap (λ (zs : List ParameterTree). named_parameter (named_with tag own peer other u d) p ∷ zs) (parameters_cookies ps parts.1)

  chunk_cookies : (k : ChunkTree) → is_flowing k ≡ true
      → named_chunk (named_with tag own peer cookie t c) k ≡ named_chunk (named_with tag own peer other u d) k
  chunk_cookies (data_chunk tsn immediate f) h = refl
  chunk_cookies (idata_chunk tsn immediate f) h = refl
  chunk_cookies (init_chunk i) h = cc
  chunk_cookies (init_ack_chunk i) h = cc
  chunk_cookies (sack_chunk k) h = refl
  chunk_cookies (heartbeat_request_chunk parameters) h = refl
  chunk_cookies (heartbeat_ack_chunk parameters) h = refl
  chunk_cookies (abort_chunk reflected causes) h = refl
  chunk_cookies (shutdown_chunk tsn) h = refl
  chunk_cookies shutdown_ack_chunk h = refl
  chunk_cookies (error_chunk causes) h = refl
  chunk_cookies (cookie_echo_chunk k) h = cc
  chunk_cookies cookie_ack_chunk h = refl
  chunk_cookies (shutdown_complete_chunk reflected) h = refl
  chunk_cookies (re_config_chunk parameters) h = ap (λ (ps : List ParameterTree). re_config_chunk ps) (parameters_cookies parameters h)
  chunk_cookies (forward_tsn_chunk tsn skipped) h = refl
  chunk_cookies (i_forward_tsn_chunk tsn skipped) h = refl
  chunk_cookies (unknown_chunk typ flags value) h = refl

  chunks_cookies : (ks : List ChunkTree) → list_all is_flowing ks ≡ true
      → named_chunks (named_with tag own peer cookie t c) ks ≡ named_chunks (named_with tag own peer other u d) ks
  chunks_cookies [] h = refl
  chunks_cookies (k ∷ ks) h =
      let parts = and_parts (is_flowing k) (list_all is_flowing ks) h in
      ap (λ (z : ChunkTree). z ∷ named_chunks (named_with tag own peer cookie t c) ks) (chunk_cookies k parts.0)
      ∙ ap (λ (zs : List ChunkTree). named_chunk (named_with tag own peer other u d) k ∷ zs) (chunks_cookies ks parts.1)

-- ---- numbers, or none

module _ (s u : State) (mine peer : ℕ) (cookie_tie : ℕ → ℕ) where
  chunk_holds : (c : ChunkTree) → is_flowing c ≡ true → Marked s u mine peer cookie_tie c → Holds s mine peer ⊎ (is_bare c ≡ true)
  chunk_holds (data_chunk tsn immediate f) h m = inl m
  chunk_holds (idata_chunk tsn immediate f) h m = inl m
  chunk_holds (init_chunk i) h m = cc
  chunk_holds (init_ack_chunk i) h m = cc
  chunk_holds (sack_chunk k) h m = inl m
  chunk_holds (heartbeat_request_chunk parameters) h m = inr refl
  chunk_holds (heartbeat_ack_chunk parameters) h m = inr refl
  chunk_holds (abort_chunk reflected causes) h m = inr refl
  chunk_holds (shutdown_chunk tsn) h m = inr refl
  chunk_holds shutdown_ack_chunk h m = inr refl
  chunk_holds (error_chunk causes) h m = inr refl
  chunk_holds (cookie_echo_chunk k) h m = cc
  chunk_holds cookie_ack_chunk h m = inr refl
  chunk_holds (shutdown_complete_chunk reflected) h m = inr refl
  chunk_holds (re_config_chunk parameters) h m = inl m
  chunk_holds (forward_tsn_chunk tsn skipped) h m = inl m
  chunk_holds (i_forward_tsn_chunk tsn skipped) h m = inl m
  chunk_holds (unknown_chunk typ flags value) h m = inr refl

  with_rest : (c : ChunkTree) (cs : List ChunkTree) → is_bare c ≡ true → Holds s mine peer ⊎ (list_all is_bare cs ≡ true) → Holds s mine peer ⊎ (list_all is_bare (c ∷ cs) ≡ true)
  with_rest c cs bare (inl h) = inl h
  with_rest c cs bare (inr h) = inr (and_from (is_bare c) (list_all is_bare cs) bare h)

  holds_or_bare : (cs : List ChunkTree) → list_all is_flowing cs ≡ true → All (Marked s u mine peer cookie_tie) cs
      → Holds s mine peer ⊎ (list_all is_bare cs ≡ true)
  holds_or_bare [] h m = inr refl
  holds_or_bare (c ∷ cs) h m =
      let parts = and_parts (is_flowing c) (list_all is_flowing cs) h in
      elim (chunk_holds c parts.0 (All-head (Marked s u mine peer cookie_tie) c cs m)) [
        | inl k ↦ inl k
        | inr bare ↦ with_rest c cs bare (holds_or_bare cs parts.1 (All-tail (Marked s u mine peer cookie_tie) c cs m))
      ]

-- ---- the packet

module _ (ps : List (Drawn × Drawn)) (k : Knows ps) (law : EachCallIsNamed) (x y z : Side) (t : Twin ps x y z) (p q : Carried) (checksum other : ℕ)
    (packing : x.end.endpoint_state.context.pack ≡ as_carried) (quiet : x.end.endpoint_state.context.emitted.events ≡ [])
    (none : packet_refusal p.header.verification_tag (map carried p.chunks) (state_of x) ≡ None) (numbers : NumbersFitIn (state_of x)) (n : IsNamedBy ps (state_of y) (state_of x) p q)
    (flows : list_all is_flowing p.chunks ≡ true) where
  abbrev call : Call
  call = ReceivePacket (as_received p checksum)

  abbrev f : Endpoint Carried
  f = called (ReceivePacket (as_received q other)) z.end

  abbrev received : List ChunkTree
  received = map carried p.chunks

  flow_received : list_all is_flowing received ≡ true
  flow_received = all_flow_carried p.chunks ∙ flows

  guides : (mine peer : ℕ) → Guides call mine peer
  guides mine peer =
      let all : All (λ c. is_flowing c ≡ true) received = all_true is_flowing received flow_received in
      record {
        answers = λ tag i h. let no : false ≡ true = all_received (λ c. is_flowing c ≡ true) (as_received p checksum) all tag (init_ack_chunk i) h in cc;
        own = λ tag c e. let no : false ≡ true = all_received (λ c. is_flowing c ≡ true) (as_received p checksum) all tag (cookie_echo_chunk e.cookie) e.received in cc;
        other = λ tag c e. let no : false ≡ true = all_received (λ c. is_flowing c ≡ true) (as_received p checksum) all tag (cookie_echo_chunk e.cookie) e.received in cc;
        connects = λ e. cc;
        restores = λ h e. cc;
      }

  silent : receives_init call ≡ false
  silent = flow_silent received flow_received

  -- under the names of its sender
  with_numbers : TagsAre n.peer n.mine (state_of x) → Named ps x z (state_of y) call f
  with_numbers tags =
      let state : state_of z ≡ named_state (names ps n.peer n.mine t.tie same_tie) (state_of x) = t.state ∙ state_by ps n.peer n.mine t.tie (state_of x) tags in
      let m : Names = flip (names ps n.peer n.mine t.tie n.cookie_tie) in
      let o : Names = flip (names ps n.peer n.mine t.tie same_tie) in
      let chunks : map carried (named_chunks (names ps n.mine n.peer n.tie n.cookie_tie) p.chunks) ≡ named_chunks o received =
      chunks_received ps n.mine n.peer n.tie t.tie n.cookie_tie p.chunks
      ∙ chunks_cookies m.tag m.own m.peer m.cookie o.cookie m.tie m.cookie_tie o.tie o.cookie_tie received flow_received in
      record {
        mine = n.peer;
        peer = n.mine;
        tie = t.tie;
        cookie_tie = same_tie;
        before = state;
        is = taken_too ps k x z p q checksum other n.mine n.peer n.tie n.cookie_tie n.is t.tie t.state law packing quiet t.context none numbers n.peer n.mine t.tie same_tie state chunks
            (flow flow_received);
        tags = λ stand. tags_after call n.peer n.mine (guides n.peer n.mine) x.end tags;
        ties = inl refl;
        drew = λ receives closed. absurd (both_ways (receives_init call) silent receives);
      }

  -- the TSN of a SHUTDOWN aside
  does : list_all is_bare p.chunks ≡ true
      → (on_chunks (rename (tags_of ps) p.header.verification_tag) (map carried (named_chunks (names ps n.mine n.peer n.tie n.cookie_tie) p.chunks)) z.end).endpoint_state
      ≡ (on_chunks (rename (tags_of ps) p.header.verification_tag) (named_chunks (flip (names_in ps (state_of x) t.tie)) received) z.end).endpoint_state
  does bare =
      let l : Names = names ps n.mine n.peer n.tie n.cookie_tie in
      let m : Names = flip (names_in ps (state_of x) t.tie) in
      let tag : ℕ = l.tag p.header.verification_tag in
      ap (λ (e : Endpoint Carried). e.endpoint_state)
      (sym (chunks_blank tag (map carried (named_chunks l p.chunks)) z.end)
      ∙ (ap (λ (cs : List ChunkTree). on_chunks tag cs z.end) (chunks_bare l m p.chunks bare) ∙ chunks_blank tag (named_chunks m received) z.end))

  without_numbers : list_all is_bare p.chunks ≡ true → Named ps x z (state_of y) call f
  without_numbers bare =
      let s : State = state_of x in
      record {
        mine = my_tag s;
        peer = peer_in s;
        tie = t.tie;
        cookie_tie = same_tie;
        before = t.state;
        is = taken_as ps k x z p q checksum other n.mine n.peer n.tie n.cookie_tie n.is t.tie t.state law packing quiet t.context none numbers (my_tag s) (peer_in s) t.tie same_tie
            t.state (does bare) (flow flow_received);
        tags = λ stand. tags_after call (my_tag s) (peer_in s) (guides (my_tag s) (peer_in s)) x.end (own_tags s);
        ties = inl refl;
        drew = λ receives closed. absurd (both_ways (receives_init call) silent receives);
      }

  pub flow_named : Faces (view_of (state_of y)).holds (view_of (state_of x)).mine → Faces (view_of (state_of x)).holds (view_of (state_of y)).mine
      → Named ps x z (state_of y) call f
  flow_named faced faces =
      elim (holds_or_bare (state_of y) (state_of x) n.mine n.peer n.cookie_tie p.chunks flows n.marks) [
        | inl h ↦ with_numbers (faced_tags (state_of x) (state_of y) n.mine n.peer h faced faces)
        | inr bare ↦ without_numbers bare
      ]
