-- A packet that was given to an end, and its image that was given to the image of the end.
use Rattle.std.proofs.Common.{◌≡◌, ℕ, ◌==◌, ◌||◌, Bool, true, false, Option, Some, None, is_some, codes, List, [], map, All, refl, ap, subst, ◌∙◌}
use Rattle.sctp_packet.specs.Chunk.{ChunkTree}
use Rattle.sctp_packet.specs.Grammar.{carried}
use Rattle.sctp_packet.specs.Packet.{PacketTree}
use Rattle.spec_endpoint.specs.Association.{CookieEchoed, Established, ShutdownPending, ShutdownSent, ShutdownReceived, ShutdownAckSent, State, Closed, CookieWait, Open, Endpoint}
use Rattle.spec_endpoint.specs.Opening.{emit_parse_error}
use Rattle.spec_endpoint.specs.Input.{my_tag, has_tag_in, abort_flag, complete_flag, has_shutdown_ack, begins_with_cookie, is_single_init, is_early, unless, plain_refusal, has_more_counted, unless_many, packet_refusal_by, packet_refusal, count_packet_at, packet_unless}
use Rattle.spec_endpoint.specs.Laws.{Call, ReceivePacket, called}
use Rattle.proof_endpoint.specs.Mapped.{Carried, as_carried}
use Rattle.proof_endpoint.specs.Acts.{BringsChunk}
use Rattle.proof_pair.specs.Trace.{Side, as_received, state_of}
use Rattle.proof_pair.specs.Agreement.{Draw}
use Rattle.proof_pair.proofs.AddedLemmas.{all_at}
use Rattle.proof_pair.proofs.TraceLemmas.{packet_of}
use Rattle.proof_draws.specs.NamedChunks.{Names, flip, named_chunks}
use Rattle.proof_draws.specs.Names.{named_state, named_context}
use Rattle.proof_draws.specs.Laws.{NumbersFitIn}
use Rattle.proof_draws.specs.NamedCalls.{AreNamed, EachCallIsNamed}
use Rattle.proof_draws.specs.Images.{named_carried, image}
use Rattle.proof_draws.proofs.TagLemmas.{refused_named}
use Rattle.proof_draws.proofs.TakenLemmas.{none_of}
use Rattle.proof_draws.specs.Pairing.{names, Knows, tags_of}
use Rattle.proof_draws.proofs.NamesLemmas.{names_in, are_names}
use Rattle.proof_draws.proofs.ImageLemmas.{mirrored}
use Rattle.proof_draws.proofs.ChunkLemmas.{all_carried_named}
use Rattle.proof_draws.proofs.BlankLemmas.{on_chunks}
use Rattle.proof_draws.proofs.StepLemmas.{Refused}
use Rattle.proof_draws.specs.Renamed.{rename}

-- a fact of each chunk that is received
pub all_received : (Q : ChunkTree → Type 0) (p : PacketTree) → All Q p.chunks → (tag : ℕ) (c : ChunkTree) → BringsChunk (ReceivePacket p) tag c → Q c
all_received Q p all tag c h =
    let same : p ≡ h.packet = ap (λ (k : Call). packet_of k p) h.given in
    let there : All Q h.packet.chunks = subst (λ (z : PacketTree). All Q z.chunks) same all in
    all_at Q h.among.before h.among.behind c (subst (All Q) h.among.split there)

-- ---- refused by one, refused by the other

refusal_same : (tag : ℕ) (cs : List ChunkTree) (s u : State) → ((r : Bool) → has_tag_in s r tag ≡ has_tag_in u r tag) → is_early s ≡ is_early u → my_tag s ≡ my_tag u
    → (a c : Option Bool) (b : Bool) → packet_refusal_by a c b tag cs s ≡ packet_refusal_by a c b tag cs u
refusal_same tag cs s u f g h (Some r) c b = ap (λ (x : Bool). unless x (codes "ABORT chunk verification tag was wrong")) (f r)
refusal_same tag cs s u f g h None (Some r) b = ap (λ (x : Bool). unless x (codes "SHUTDOWN_COMPLETE chunk verification tag was wrong")) (f r)
refusal_same tag cs s u f g h None None true =
    ap (λ (x : Bool). unless (x || (tag == my_tag s)) (codes "SHUTDOWN_ACK chunk verification tag was wrong")) g
    ∙ ap (λ (own : ℕ). unless (is_early u || (tag == own)) (codes "SHUTDOWN_ACK chunk verification tag was wrong")) h
refusal_same tag cs s u f g h None None false =
    ap (λ (own : ℕ). plain_refusal (begins_with_cookie cs) (tag == 0) (is_single_init cs) (tag == own) tag own) h

-- which packets are refused is decided by tags alone
refusal_by_tags : (tag : ℕ → ℕ) (own peer a b : ℕ) (cookie other : List ℕ → List ℕ) (t c u d : ℕ → ℕ) (n : ℕ) (cs : List ChunkTree) (s : State)
    → packet_refusal n cs (named_state (record { tag = tag; tie = t; cookie_tie = c; own = own; peer = peer; cookie = cookie }) s)
    ≡ packet_refusal n cs (named_state (record { tag = tag; tie = u; cookie_tie = d; own = a; peer = b; cookie = other }) s)
refusal_by_tags tag own peer a b cookie other t c u d n cs s =
    let first : Names = record { tag = tag; tie = t; cookie_tie = c; own = own; peer = peer; cookie = cookie } in
    let second : Names = record { tag = tag; tie = u; cookie_tie = d; own = a; peer = b; cookie = other } in
    ap (unless_many (has_more_counted 4 cs))
    (refusal_same n cs (named_state first s) (named_state second s) (tag_by s) (early_by s) (own_by s) (abort_flag cs) (complete_flag cs) (has_shutdown_ack cs))
  where
    tag_by : (s : State) (r : Bool)
        → has_tag_in (named_state (record { tag = tag; tie = t; cookie_tie = c; own = own; peer = peer; cookie = cookie }) s) r n
        ≡ has_tag_in (named_state (record { tag = tag; tie = u; cookie_tie = d; own = a; peer = b; cookie = other }) s) r n
    tag_by Closed true = refl
    tag_by Closed false = refl
    tag_by (CookieWait my first t1) true = refl
    tag_by (CookieWait my first t1) false = refl
    tag_by (Open phase b) true = refl
    tag_by (Open phase b) false = refl

    own_by : (s : State) → my_tag (named_state (record { tag = tag; tie = t; cookie_tie = c; own = own; peer = peer; cookie = cookie }) s)
        ≡ my_tag (named_state (record { tag = tag; tie = u; cookie_tie = d; own = a; peer = b; cookie = other }) s)
    own_by Closed = refl
    own_by (CookieWait my first t1) = refl
    own_by (Open phase b) = refl

    early_by : (s : State) → is_early (named_state (record { tag = tag; tie = t; cookie_tie = c; own = own; peer = peer; cookie = cookie }) s)
        ≡ is_early (named_state (record { tag = tag; tie = u; cookie_tie = d; own = a; peer = b; cookie = other }) s)
    early_by Closed = refl
    early_by (CookieWait my first t1) = refl
    early_by (Open (CookieEchoed t1 k) b) = refl
    early_by (Open Established b) = refl
    early_by (Open ShutdownPending b) = refl
    early_by (Open (ShutdownSent t2) b) = refl
    early_by (Open ShutdownReceived b) = refl
    early_by (Open (ShutdownAckSent t2) b) = refl

pub record SomeText (o : Option (List ℕ)) : Type 0 where
  pub text : List ℕ
  pub is : o ≡ Some text

some_text : (o : Option (List ℕ)) → is_some o ≡ true → SomeText o
some_text None h = cc
some_text (Some text) h = record { text = text; is = refl }

refused_end : (tag : ℕ) (cs : List ChunkTree) (e : Endpoint Carried) (text : List ℕ) → packet_refusal tag cs e.endpoint_state.state ≡ Some text
    → on_chunks tag cs e ≡ emit_parse_error text (count_packet_at e)
refused_end tag cs e text is = ap (λ (r : Option (List ℕ)). packet_unless r tag cs (count_packet_at e)) is

module _ (ps : List (Draw × Draw)) (k : Knows ps) (x z : Side) (p q : Carried) (checksum other : ℕ) (mine peer : ℕ) (tie cookie_tie : ℕ → ℕ)
    (named : q ≡ named_carried (names ps mine peer tie cookie_tie) p) (own_tie : ℕ → ℕ)
    (image_is : state_of z ≡ named_state (names_in ps (state_of x) own_tie) (state_of x)) where
  abbrev m : Names
  m = names ps mine peer tie cookie_tie

  abbrev tag : ℕ
  tag = p.header.verification_tag

  abbrev received : List ChunkTree
  received = map carried p.chunks

  abbrev received_too : List ChunkTree
  received_too = map carried (named_chunks m p.chunks)

  abbrev call : Call
  call = ReceivePacket (as_received p checksum)

  abbrev call_too : Call
  call_too = ReceivePacket (as_received q other)

  second_is : called call_too z.end ≡ on_chunks (m.tag tag) received_too z.end
  second_is = ap (λ (r : Carried). on_chunks r.header.verification_tag (map carried r.chunks) z.end) named

  both_refuse : is_some (packet_refusal (m.tag tag) received_too (state_of z)) ≡ is_some (packet_refusal tag received (state_of x))
  both_refuse =
      let n : Names = names_in ps (state_of x) own_tie in
      ap (λ (s : State). is_some (packet_refusal (m.tag tag) received_too s)) image_is
      ∙ (ap (λ (r : Option (List ℕ)). is_some r)
      (refusal_by_tags m.tag n.own n.peer m.own m.peer n.cookie m.cookie n.tie n.cookie_tie m.tie m.cookie_tie (m.tag tag) received_too (state_of x))
      ∙ (ap (λ (cs : List ChunkTree). is_some (packet_refusal (m.tag tag) cs (named_state m (state_of x)))) (all_carried_named m p.chunks)
      ∙ refused_named m (are_names ps k mine peer tie cookie_tie) m tag received (state_of x)))

  pub refused_too : (text : List ℕ) → packet_refusal tag received (state_of x) ≡ Some text → Refused x z call (called call_too z.end)
  refused_too text is =
      let there : SomeText (packet_refusal (m.tag tag) received_too (state_of z)) = some_text _ (both_refuse ∙ ap (λ (r : Option (List ℕ)). is_some r) is) in
      record {
        text = text;
        other = there.text;
        is = refused_end tag received x.end text is;
        so = second_is ∙ refused_end (m.tag tag) received_too z.end there.text there.is;
      }

  -- and what the one takes, the other takes
  pub refused_as_well : packet_refusal tag received (state_of x) ≡ None → packet_refusal q.header.verification_tag (map carried q.chunks) (state_of z) ≡ None
  refused_as_well none =
      ap (λ (a : Carried). packet_refusal a.header.verification_tag (map carried a.chunks) (state_of z)) named
      ∙ none_of (packet_refusal (m.tag tag) received_too (state_of z)) (both_refuse ∙ ap (λ (a : Option (List ℕ)). is_some a) none)

  -- ---- taken by both

  module _ (law : EachCallIsNamed) (packing : x.end.endpoint_state.context.pack ≡ as_carried) (quiet : x.end.endpoint_state.context.emitted.events ≡ [])
      (same : z.end.endpoint_state.context ≡ named_context (rename (tags_of ps)) x.end.endpoint_state.context) (none : packet_refusal tag received (state_of x) ≡ None) (numbers : NumbersFitIn (state_of x)) where
    -- under names by which the reader's image receives it, or what does the same
    pub taken_as : (own other_tag : ℕ) (t c : ℕ → ℕ) → state_of z ≡ named_state (names ps own other_tag t c) (state_of x)
        → (on_chunks (m.tag tag) received_too z.end).endpoint_state ≡ (on_chunks (m.tag tag) (named_chunks (flip (names ps own other_tag t c)) received) z.end).endpoint_state
        → AreNamed (names ps own other_tag t c) tag received (state_of x) x.end.draws z.end.draws
        → (called call_too z.end).endpoint_state ≡ image (names ps own other_tag t c) (called call x.end).endpoint_state
    taken_as own other_tag t c state does are =
        let n : Names = names ps own other_tag t c in
        ap (λ (e : Endpoint Carried). e.endpoint_state) second_is
        ∙ (does ∙ mirrored law n (are_names ps k own other_tag t c) call x.end z.end packing quiet state same (record { taken = none; numbers = numbers; chunks = are }))

    pub taken_too : (own other_tag : ℕ) (t c : ℕ → ℕ) → state_of z ≡ named_state (names ps own other_tag t c) (state_of x)
        → received_too ≡ named_chunks (flip (names ps own other_tag t c)) received
        → AreNamed (names ps own other_tag t c) tag received (state_of x) x.end.draws z.end.draws
        → (called call_too z.end).endpoint_state ≡ image (names ps own other_tag t c) (called call x.end).endpoint_state
    taken_too own other_tag t c state chunks are =
        taken_as own other_tag t c state (ap (λ (cs : List ChunkTree). (on_chunks (m.tag tag) cs z.end).endpoint_state) chunks) are
