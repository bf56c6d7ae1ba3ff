-- Tags are told apart as before: which packets are taken, and what becomes of a cookie that comes back.
use Rattle.std.proofs.Common.{◌≡◌, ℕ, zero, suc, ◌==◌, ◌||◌, not, Bool, true, false, Option, Some, None, is_some, List, [], ◌∷◌, refl, sym, ap, ◌∙◌, ◌&&◌, Result, Ok, Err}
use Rattle.sctp_packet.specs.Chunk.{ChunkTree, data_chunk, init_chunk, init_ack_chunk, sack_chunk, heartbeat_request_chunk, heartbeat_ack_chunk, abort_chunk, shutdown_chunk, shutdown_ack_chunk, error_chunk, cookie_echo_chunk, cookie_ack_chunk, shutdown_complete_chunk, idata_chunk, re_config_chunk, forward_tsn_chunk, i_forward_tsn_chunk, unknown_chunk}
use Rattle.sctp_capabilities.specs.StateCookie.{Cookie, read_cookie}
use Rattle.spec_endpoint.specs.Association.{Identity, Tcb, Phase, CookieEchoed, Established, ShutdownPending, ShutdownSent, ShutdownReceived, ShutdownAckSent, State, Closed, CookieWait, Open}
use Rattle.spec_endpoint.specs.Sending.{is_before_cookie_ack}
use Rattle.spec_endpoint.specs.Input.{my_tag, has_tag_in, abort_flag, complete_flag, has_shutdown_ack, has_data_chunk, begins_with_cookie, is_single_init, is_early, unless, plain_refusal, has_more_counted, unless_many, packet_refusal_by, packet_refusal}
use Rattle.spec_endpoint.specs.Opening.{by_tags, new_if, resolve_by_tags, resolve_cookie, new_unless, may_restart, is_taken, is_taken_in, goes_on_behind, CookieResolution, EstablishNew, RestartDetected, SimultaneousInit, MaintainExisting, Discard, InvalidTag, as_restart, is_spent}
use Rattle.sctp_capabilities.specs.declared.state_cookie.StateCookieError.{StateCookieError}
use Rattle.proof_draws.specs.NamedCalls.{read_under}
use Rattle.proof_draws.specs.NamedChunks.{Names, AreNames, named_chunks}
use Rattle.proof_draws.specs.Names.{named_identity, named_phase, named_state, named_cookie}
use Rattle.proof_draws.specs.Laws.{TiesTell}

-- ---- what a packet's chunks are

module _ (n : Names) where
  pub abort_named : (cs : List ChunkTree) → abort_flag (named_chunks n cs) ≡ abort_flag cs
  abort_named [] = refl
  abort_named (data_chunk tsn immediate f ∷ cs) = abort_named cs
  abort_named (idata_chunk tsn immediate f ∷ cs) = abort_named cs
  abort_named (init_chunk i ∷ cs) = abort_named cs
  abort_named (init_ack_chunk i ∷ cs) = abort_named cs
  abort_named (sack_chunk k ∷ cs) = abort_named cs
  abort_named (heartbeat_request_chunk parameters ∷ cs) = abort_named cs
  abort_named (heartbeat_ack_chunk parameters ∷ cs) = abort_named cs
  abort_named (abort_chunk reflected causes ∷ cs) = refl
  abort_named (shutdown_chunk tsn ∷ cs) = abort_named cs
  abort_named (shutdown_ack_chunk ∷ cs) = abort_named cs
  abort_named (error_chunk causes ∷ cs) = abort_named cs
  abort_named (cookie_echo_chunk cookie ∷ cs) = abort_named cs
  abort_named (cookie_ack_chunk ∷ cs) = abort_named cs
  abort_named (shutdown_complete_chunk reflected ∷ cs) = abort_named cs
  abort_named (re_config_chunk parameters ∷ cs) = abort_named cs
  abort_named (forward_tsn_chunk tsn skipped ∷ cs) = abort_named cs
  abort_named (i_forward_tsn_chunk tsn skipped ∷ cs) = abort_named cs
  abort_named (unknown_chunk typ flags value ∷ cs) = abort_named cs

  pub complete_named : (cs : List ChunkTree) → complete_flag (named_chunks n cs) ≡ complete_flag cs
  complete_named [] = refl
  complete_named (data_chunk tsn immediate f ∷ cs) = complete_named cs
  complete_named (idata_chunk tsn immediate f ∷ cs) = complete_named cs
  complete_named (init_chunk i ∷ cs) = complete_named cs
  complete_named (init_ack_chunk i ∷ cs) = complete_named cs
  complete_named (sack_chunk k ∷ cs) = complete_named cs
  complete_named (heartbeat_request_chunk parameters ∷ cs) = complete_named cs
  complete_named (heartbeat_ack_chunk parameters ∷ cs) = complete_named cs
  complete_named (abort_chunk reflected causes ∷ cs) = complete_named cs
  complete_named (shutdown_chunk tsn ∷ cs) = complete_named cs
  complete_named (shutdown_ack_chunk ∷ cs) = complete_named cs
  complete_named (error_chunk causes ∷ cs) = complete_named cs
  complete_named (cookie_echo_chunk cookie ∷ cs) = complete_named cs
  complete_named (cookie_ack_chunk ∷ cs) = complete_named cs
  complete_named (shutdown_complete_chunk reflected ∷ cs) = refl
  complete_named (re_config_chunk parameters ∷ cs) = complete_named cs
  complete_named (forward_tsn_chunk tsn skipped ∷ cs) = complete_named cs
  complete_named (i_forward_tsn_chunk tsn skipped ∷ cs) = complete_named cs
  complete_named (unknown_chunk typ flags value ∷ cs) = complete_named cs

  pub shut_named : (cs : List ChunkTree) → has_shutdown_ack (named_chunks n cs) ≡ has_shutdown_ack cs
  shut_named [] = refl
  shut_named (data_chunk tsn immediate f ∷ cs) = shut_named cs
  shut_named (idata_chunk tsn immediate f ∷ cs) = shut_named cs
  shut_named (init_chunk i ∷ cs) = shut_named cs
  shut_named (init_ack_chunk i ∷ cs) = shut_named cs
  shut_named (sack_chunk k ∷ cs) = shut_named cs
  shut_named (heartbeat_request_chunk parameters ∷ cs) = shut_named cs
  shut_named (heartbeat_ack_chunk parameters ∷ cs) = shut_named cs
  shut_named (abort_chunk reflected causes ∷ cs) = shut_named cs
  shut_named (shutdown_chunk tsn ∷ cs) = shut_named cs
  shut_named (shutdown_ack_chunk ∷ cs) = refl
  shut_named (error_chunk causes ∷ cs) = shut_named cs
  shut_named (cookie_echo_chunk cookie ∷ cs) = shut_named cs
  shut_named (cookie_ack_chunk ∷ cs) = shut_named cs
  shut_named (shutdown_complete_chunk reflected ∷ cs) = shut_named cs
  shut_named (re_config_chunk parameters ∷ cs) = shut_named cs
  shut_named (forward_tsn_chunk tsn skipped ∷ cs) = shut_named cs
  shut_named (i_forward_tsn_chunk tsn skipped ∷ cs) = shut_named cs
  shut_named (unknown_chunk typ flags value ∷ cs) = shut_named cs

  pub counted_named : (k : ℕ) (cs : List ChunkTree) → has_more_counted k (named_chunks n cs) ≡ has_more_counted k cs
  counted_named k [] = refl
  counted_named zero (sack_chunk s ∷ cs) = refl
  counted_named zero (cookie_echo_chunk cookie ∷ cs) = refl
  counted_named (suc k) (sack_chunk s ∷ cs) = counted_named k cs
  counted_named (suc k) (cookie_echo_chunk cookie ∷ cs) = counted_named k cs
  counted_named k (c ∷ cs) = counted_named k cs

  pub data_named : (cs : List ChunkTree) → has_data_chunk (named_chunks n cs) ≡ has_data_chunk cs
  data_named [] = refl
  data_named (data_chunk tsn immediate f ∷ cs) = refl
  data_named (idata_chunk tsn immediate f ∷ cs) = data_named cs
  data_named (init_chunk i ∷ cs) = data_named cs
  data_named (init_ack_chunk i ∷ cs) = data_named cs
  data_named (sack_chunk k ∷ cs) = data_named cs
  data_named (heartbeat_request_chunk parameters ∷ cs) = data_named cs
  data_named (heartbeat_ack_chunk parameters ∷ cs) = data_named cs
  data_named (abort_chunk reflected causes ∷ cs) = data_named cs
  data_named (shutdown_chunk tsn ∷ cs) = data_named cs
  data_named (shutdown_ack_chunk ∷ cs) = data_named cs
  data_named (error_chunk causes ∷ cs) = data_named cs
  data_named (cookie_echo_chunk cookie ∷ cs) = data_named cs
  data_named (cookie_ack_chunk ∷ cs) = data_named cs
  data_named (shutdown_complete_chunk reflected ∷ cs) = data_named cs
  data_named (re_config_chunk parameters ∷ cs) = data_named cs
  data_named (forward_tsn_chunk tsn skipped ∷ cs) = data_named cs
  data_named (i_forward_tsn_chunk tsn skipped ∷ cs) = data_named cs
  data_named (unknown_chunk typ flags value ∷ cs) = data_named cs

  pub cookie_named : (cs : List ChunkTree) → begins_with_cookie (named_chunks n cs) ≡ begins_with_cookie cs
  cookie_named [] = refl
  cookie_named (data_chunk tsn immediate f ∷ cs) = refl
  cookie_named (idata_chunk tsn immediate f ∷ cs) = refl
  cookie_named (init_chunk i ∷ cs) = refl
  cookie_named (init_ack_chunk i ∷ cs) = refl
  cookie_named (sack_chunk k ∷ cs) = refl
  cookie_named (heartbeat_request_chunk parameters ∷ cs) = refl
  cookie_named (heartbeat_ack_chunk parameters ∷ cs) = refl
  cookie_named (abort_chunk reflected causes ∷ cs) = refl
  cookie_named (shutdown_chunk tsn ∷ cs) = refl
  cookie_named (shutdown_ack_chunk ∷ cs) = refl
  cookie_named (error_chunk causes ∷ cs) = refl
  cookie_named (cookie_echo_chunk cookie ∷ cs) = refl
  cookie_named (cookie_ack_chunk ∷ cs) = refl
  cookie_named (shutdown_complete_chunk reflected ∷ cs) = refl
  cookie_named (re_config_chunk parameters ∷ cs) = refl
  cookie_named (forward_tsn_chunk tsn skipped ∷ cs) = refl
  cookie_named (i_forward_tsn_chunk tsn skipped ∷ cs) = refl
  cookie_named (unknown_chunk typ flags value ∷ cs) = refl

  pub single_named : (cs : List ChunkTree) → is_single_init (named_chunks n cs) ≡ is_single_init cs
  single_named [] = refl
  single_named (init_chunk i ∷ []) = refl
  single_named (init_chunk i ∷ c ∷ cs) = refl
  single_named (data_chunk tsn immediate f ∷ cs) = refl
  single_named (idata_chunk tsn immediate f ∷ cs) = refl
  single_named (init_ack_chunk i ∷ cs) = refl
  single_named (sack_chunk k ∷ cs) = refl
  single_named (heartbeat_request_chunk parameters ∷ cs) = refl
  single_named (heartbeat_ack_chunk parameters ∷ cs) = refl
  single_named (abort_chunk reflected causes ∷ cs) = refl
  single_named (shutdown_chunk tsn ∷ cs) = refl
  single_named (shutdown_ack_chunk ∷ cs) = refl
  single_named (error_chunk causes ∷ cs) = refl
  single_named (cookie_echo_chunk cookie ∷ cs) = refl
  single_named (cookie_ack_chunk ∷ cs) = refl
  single_named (shutdown_complete_chunk reflected ∷ cs) = refl
  single_named (re_config_chunk parameters ∷ cs) = refl
  single_named (forward_tsn_chunk tsn skipped ∷ cs) = refl
  single_named (i_forward_tsn_chunk tsn skipped ∷ cs) = refl
  single_named (unknown_chunk typ flags value ∷ cs) = refl

  pub alone_named : (phase : Phase) → is_before_cookie_ack (named_phase n phase) ≡ is_before_cookie_ack phase
  alone_named (CookieEchoed t1 cookie) = refl
  alone_named Established = refl
  alone_named ShutdownPending = refl
  alone_named (ShutdownSent t2) = refl
  alone_named ShutdownReceived = refl
  alone_named (ShutdownAckSent t2) = refl

  early_named : (s : State) → is_early (named_state n s) ≡ is_early s
  early_named Closed = refl
  early_named (CookieWait tag first t1) = refl
  early_named (Open phase t) = alone_named phase

-- ---- refusals, but for their texts

any_text : (c : Bool) (u v : List ℕ) → is_some (unless c u) ≡ is_some (unless c v)
any_text true u v = refl
any_text false u v = refl

refused_unless : (a b : Bool) (text other : List ℕ) → a ≡ b → is_some (unless a text) ≡ is_some (unless b other)
refused_unless a b text other h = any_text a text other ∙ ap (λ (c : Bool). is_some (unless c other)) h

same_plainly : (cookie none single own : Bool) (tag mine tag' mine' : ℕ)
    → is_some (plain_refusal cookie none single own tag' mine') ≡ is_some (plain_refusal cookie none single own tag mine)
same_plainly true none single own tag mine tag' mine' = refl
same_plainly false true single own tag mine tag' mine' = refl
same_plainly false false single own tag mine tag' mine' = any_text own _ _

-- by the four tests, whatever the tags in the text
refused_plainly : (cookie none single own cookie' none' single' own' : Bool) (tag mine tag' mine' : ℕ)
    → cookie' ≡ cookie → none' ≡ none → single' ≡ single → own' ≡ own
    → is_some (plain_refusal cookie' none' single' own' tag' mine') ≡ is_some (plain_refusal cookie none single own tag mine)
refused_plainly cookie none single own cookie' none' single' own' tag mine tag' mine' a b c d =
    ap (λ (x : Bool). is_some (plain_refusal x none' single' own' tag' mine')) a
    ∙ (ap (λ (x : Bool). is_some (plain_refusal cookie x single' own' tag' mine')) b
    ∙ (ap (λ (x : Bool). is_some (plain_refusal cookie none x own' tag' mine')) c
    ∙ (ap (λ (x : Bool). is_some (plain_refusal cookie none single x tag' mine')) d ∙ same_plainly cookie none single own tag mine tag' mine')))

many_alike : (is_many : Bool) (a b : Option (List ℕ)) → is_some a ≡ is_some b → is_some (unless_many is_many a) ≡ is_some (unless_many is_many b)
many_alike true a b e = refl
many_alike false a b e = e

no_tie : (other same none same' none' : Bool) → by_tags false other same none ≡ by_tags false other same' none'
no_tie true same none same' none' = refl
no_tie false same none same' none' = refl

module _ (n : Names) (are : AreNames n) where
  own_named : (s : State) → my_tag (named_state n s) ≡ n.tag (my_tag s)
  own_named Closed = sym are.none
  own_named (CookieWait tag first t1) = refl
  own_named (Open phase t) = refl

  is_own_named : (s : State) (tag : ℕ) → (n.tag tag == my_tag (named_state n s)) ≡ (tag == my_tag s)
  is_own_named s tag = ap (λ (k : ℕ). n.tag tag == k) (own_named s) ∙ are.apart tag (my_tag s)

  is_none_named : (tag : ℕ) → (n.tag tag == 0) ≡ (tag == 0)
  is_none_named tag = ap (λ (k : ℕ). n.tag tag == k) (sym are.none) ∙ are.apart tag 0

  has_tag_named : (s : State) (reflected : Bool) (tag : ℕ) → has_tag_in (named_state n s) reflected (n.tag tag) ≡ has_tag_in s reflected tag
  has_tag_named s false tag = is_own_named s tag
  has_tag_named Closed true tag = refl
  has_tag_named (CookieWait my first t1) true tag = refl
  has_tag_named (Open phase t) true tag = are.apart tag t.identity.peer_tag

  -- whose chunks have names of any kind
  refused_by_named : (m : Names) (abort complete : Option Bool) (shut : Bool) (tag : ℕ) (cs : List ChunkTree) (s : State)
      → is_some (packet_refusal_by abort complete shut (n.tag tag) (named_chunks m cs) (named_state n s)) ≡ is_some (packet_refusal_by abort complete shut tag cs s)
  refused_by_named m (Some reflected) complete shut tag cs s = refused_unless _ _ _ _ (has_tag_named s reflected tag)
  refused_by_named m None (Some reflected) shut tag cs s = refused_unless _ _ _ _ (has_tag_named s reflected tag)
  refused_by_named m None None true tag cs s =
      refused_unless _ _ _ _
      (ap (λ (b : Bool). b || (n.tag tag == my_tag (named_state n s))) (early_named n s) ∙ ap (λ (b : Bool). is_early s || b) (is_own_named s tag))
  refused_by_named m None None false tag cs s =
      refused_plainly (begins_with_cookie cs) (tag == 0) (is_single_init cs) (tag == my_tag s)
      (begins_with_cookie (named_chunks m cs)) (n.tag tag == 0) (is_single_init (named_chunks m cs)) (n.tag tag == my_tag (named_state n s))
      tag (my_tag s) (n.tag tag) (my_tag (named_state n s))
      (cookie_named m cs) (is_none_named tag) (single_named m cs) (is_own_named s tag)

  pub refused_named : (m : Names) (tag : ℕ) (cs : List ChunkTree) (s : State)
      → is_some (packet_refusal (n.tag tag) (named_chunks m cs) (named_state n s)) ≡ is_some (packet_refusal tag cs s)
  refused_named m tag cs s =
      let ds : List ChunkTree = named_chunks m cs in
      let r : State = named_state n s in
      let plain : Option (List ℕ) = packet_refusal_by (abort_flag cs) (complete_flag cs) (has_shutdown_ack cs) tag cs s in
      many_alike (has_more_counted 4 ds) (packet_refusal_by (abort_flag ds) (complete_flag ds) (has_shutdown_ack ds) (n.tag tag) ds r) plain
      (ap (λ (o : Option Bool). is_some (packet_refusal_by o (complete_flag ds) (has_shutdown_ack ds) (n.tag tag) ds r)) (abort_named m cs)
      ∙ (ap (λ (o : Option Bool). is_some (packet_refusal_by (abort_flag cs) o (has_shutdown_ack ds) (n.tag tag) ds r)) (complete_named m cs)
      ∙ (ap (λ (b : Bool). is_some (packet_refusal_by (abort_flag cs) (complete_flag cs) b (n.tag tag) ds r)) (shut_named m cs)
      ∙ refused_by_named m (abort_flag cs) (complete_flag cs) (has_shutdown_ack cs) tag cs s)))
      ∙ ap (λ (b : Bool). is_some (unless_many b plain)) (counted_named m 4 cs)

  -- ---- a cookie that came back

  -- where the ties say the same
  by_ties : (tag : ℕ) (i : Identity) (k : Cookie) → (n.cookie_tie k.tie_tag == n.tie i.tie) ≡ (k.tie_tag == i.tie) → (n.cookie_tie k.tie_tag == 0) ≡ (k.tie_tag == 0)
      → resolve_by_tags (n.tag tag) (named_identity n i) (named_cookie n k) ≡ resolve_by_tags tag i k
  by_ties tag i k same none =
      ap (λ (b : Bool). by_tags (not b) (not (n.tag k.peer_tag == n.tag i.peer_tag)) (n.cookie_tie k.tie_tag == n.tie i.tie) (n.cookie_tie k.tie_tag == 0)) (are.apart tag i.my_tag)
      ∙ (ap (λ (b : Bool). by_tags (not (tag == i.my_tag)) (not b) (n.cookie_tie k.tie_tag == n.tie i.tie) (n.cookie_tie k.tie_tag == 0)) (are.apart k.peer_tag i.peer_tag)
      ∙ (ap (λ (b : Bool). by_tags (not (tag == i.my_tag)) (not (k.peer_tag == i.peer_tag)) b (n.cookie_tie k.tie_tag == 0)) same
      ∙ ap (λ (b : Bool). by_tags (not (tag == i.my_tag)) (not (k.peer_tag == i.peer_tag)) (k.tie_tag == i.tie) b) none))

  -- under the own tag no tie is looked at
  pub by_own_tag : (tag : ℕ) (i : Identity) (k : Cookie) → (tag == i.my_tag) ≡ true → resolve_by_tags (n.tag tag) (named_identity n i) (named_cookie n k) ≡ resolve_by_tags tag i k
  by_own_tag tag i k own =
      let other : Bool = n.tag k.peer_tag == n.tag i.peer_tag in
      ap (λ (b : Bool). by_tags (not b) (not other) (n.cookie_tie k.tie_tag == n.tie i.tie) (n.cookie_tie k.tie_tag == 0)) (are.apart tag i.my_tag ∙ own)
      ∙ (no_tie (not other) _ _ (k.tie_tag == i.tie) (k.tie_tag == 0)
      ∙ (ap (λ (b : Bool). by_tags false (not b) (k.tie_tag == i.tie) (k.tie_tag == 0)) (are.apart k.peer_tag i.peer_tag)
      ∙ ap (λ (b : Bool). by_tags (not b) (not (k.peer_tag == i.peer_tag)) (k.tie_tag == i.tie) (k.tie_tag == 0)) (sym own)))

  compared_named : (tag : ℕ) (i : Identity) (k : Cookie) → TiesTell n tag i k → resolve_by_tags (n.tag tag) (named_identity n i) (named_cookie n k) ≡ resolve_by_tags tag i k
  compared_named tag i k (TiesTell.under_own own) = by_own_tag tag i k own
  compared_named tag i k (TiesTell.apart same none) = by_ties tag i k same none

  pub judged_named : (avoids_stalls : Bool) (tag : ℕ) (k : Cookie) (s : State) → ((phase : Phase) (t : Tcb) → s ≡ Open phase t → TiesTell n tag t.identity k)
      → resolve_cookie avoids_stalls (n.tag tag) (named_cookie n k) (named_state n s) ≡ resolve_cookie avoids_stalls tag k s
  judged_named avoids_stalls tag k Closed ties = ap (λ (b : Bool). new_if b) (are.apart tag k.my_tag)
  judged_named avoids_stalls tag k (CookieWait my first t1) ties =
      ap (λ (b : Bool). new_unless (avoids_stalls && not b) (n.tag tag == n.tag k.my_tag)) (are.apart k.my_tag my)
      ∙ ap (λ (b : Bool). new_unless (avoids_stalls && not (k.my_tag == my)) b) (are.apart tag k.my_tag)
  judged_named avoids_stalls tag k (Open phase t) ties =
      ap (λ (b : Bool). as_restart (avoids_stalls && not b) (resolve_by_tags (n.tag tag) (named_identity n t.identity) (named_cookie n k))) (alone_named n phase)
      ∙ ap (λ (v : CookieResolution). as_restart (avoids_stalls && not (is_before_cookie_ack phase)) v) (compared_named tag t.identity k (ties phase t refl))

  -- ---- what lies behind it

  may_restart_named : (s : State) → may_restart (named_state n s) ≡ may_restart s
  may_restart_named Closed = refl
  may_restart_named (CookieWait my first t1) = refl
  may_restart_named (Open (CookieEchoed t1 cookie) t) = refl
  may_restart_named (Open Established t) = refl
  may_restart_named (Open ShutdownPending t) = refl
  may_restart_named (Open (ShutdownSent t2) t) = refl
  may_restart_named (Open ShutdownReceived t) = refl
  may_restart_named (Open (ShutdownAckSent t2) t) = refl

  taken_named : (v : CookieResolution) (s : State) → is_taken v (named_state n s) ≡ is_taken v s
  taken_named EstablishNew s = refl
  taken_named RestartDetected s = may_restart_named s
  taken_named SimultaneousInit s = refl
  taken_named MaintainExisting s = refl
  taken_named Discard s = refl
  taken_named InvalidTag s = refl

  pub is_spent_named : (avoids_stalls : Bool) (last : ℕ) (k : Cookie) (s : State)
      → is_spent avoids_stalls (n.tag last) (named_cookie n k) (named_state n s) ≡ is_spent avoids_stalls last k s
  is_spent_named avoids_stalls last k Closed = ap (λ (b : Bool). avoids_stalls && b) (are.apart k.my_tag last)
  is_spent_named avoids_stalls last k (CookieWait my first t1) = refl
  is_spent_named avoids_stalls last k (Open phase t) = refl

  taken_in_named : (last tag : ℕ) (r : Result Cookie StateCookieError) (s : State)
      → ((k : Cookie) → r ≡ Ok k → (phase : Phase) (t : Tcb) → s ≡ Open phase t → TiesTell n tag t.identity k)
      → is_taken_in (n.tag last) (n.tag tag) (read_under n r) (named_state n s) ≡ is_taken_in last tag r s
  taken_in_named last tag (Ok k) s ties =
      ap (λ (b : Bool). not b && is_taken (resolve_cookie true (n.tag tag) (named_cookie n k) (named_state n s)) (named_state n s)) (is_spent_named true last k s)
      ∙ ap (λ (b : Bool). not (is_spent true last k s) && b)
      (ap (λ (v : CookieResolution). is_taken v (named_state n s)) (judged_named true tag k s (ties k refl)) ∙ taken_named (resolve_cookie true tag k s) s)
  taken_in_named last tag (Err fault) s ties = refl

  pub behind_named : (avoids_stalls : Bool) (last tag : ℕ) (cookie : List ℕ) (s : State) → read_cookie (n.cookie cookie) ≡ read_under n (read_cookie cookie)
      → ((k : Cookie) → read_cookie cookie ≡ Ok k → (phase : Phase) (t : Tcb) → s ≡ Open phase t → TiesTell n tag t.identity k)
      → goes_on_behind avoids_stalls (n.tag last) (n.tag tag) (n.cookie cookie) (named_state n s) ≡ goes_on_behind avoids_stalls last tag cookie s
  behind_named true last tag cookie s reads ties =
      ap (λ (r : Result Cookie StateCookieError). is_taken_in (n.tag last) (n.tag tag) r (named_state n s)) reads ∙ taken_in_named last tag (read_cookie cookie) s ties
  behind_named false last tag cookie s reads ties = refl
