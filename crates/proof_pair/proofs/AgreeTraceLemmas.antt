-- An action of a trace in which no end draws a tag twice: an end that emits `OnConnected` holds what the other holds or held.
use Rattle.std.proofs.Common.{◌≡◌, ℕ, ◌==◌, ◌||◌, Bool, true, false, Option, Some, None, List, [], ◌∷◌, ◌++◌, map, slice_get, length, drop, All, inl, inr, refl, sym, ap, subst, ◌∙◌, append-nil}
use Rattle.std.specs.Prelude.{⊤}
use Rattle.std.proofs.lemmas.List.Elements.{All-nil, All-cons, All-head, All-tail, All-weaker}
use Rattle.std.proofs.lemmas.Bool.{both_ways}
use Rattle.rand_core.specs.Stream.{Stream}
use Rattle.sctp_packet.specs.Chunk.{ChunkTree}
use Rattle.sctp_packet.specs.Grammar.{carried}
use Rattle.sctp_packet.specs.Packet.{PacketTree}
use Rattle.sctp_state.specs.declared.api.ErrorKind.TheVariants.{ParseFailed}
use Rattle.sctp_state.specs.Options.{Options}
use Rattle.sctp_state.specs.Events.{Event}
use Rattle.spec_endpoint.specs.Association.{State, Closed, CookieWait, Open, Context, Endpoint}
use Rattle.spec_endpoint.specs.Opening.{connect, emit_parse_error}
use Rattle.spec_endpoint.specs.Input.{packet_refusal, count_packet_at, packet_unless, on_accepted_packet}
use Rattle.spec_endpoint.specs.Laws.{Call, Connect, Restore, ReceivePacket, called}
use Rattle.proof_endpoint.specs.Mapped.{Carried, as_carried}
use Rattle.proof_endpoint.proofs.OpeningStepsLemmas.{end_in}
use Rattle.proof_endpoint.specs.Acts.{calm, no_packet}
use Rattle.proof_pair.specs.Trace.{Side, new_side, emitted_packets, has_connected, EndAction, Calls, Gives, Refuses, drain, as_received, give_carried, foreign_if, act, AreValidOptions, state_of}
use Rattle.proof_pair.specs.Agreement.{Association, mirrored, Has, History, held_in, drawn_to_connect, no_history, AreDistinct, IsAllowed, emitted_since}
use Rattle.spec_endpoint.specs.Packets.{packets_in}
use Rattle.proof_endpoint.proofs.PacketActsLemmas.{does_emit_error}
use Rattle.proof_endpoint.proofs.ActsLemmas.{keeps_call}
use Rattle.proof_pair.proofs.AddedLemmas.{all_get}
use Rattle.proof_pair.proofs.AgreeLemmas.{Past, view_of, IsUnder, Says, says_carried, Stands, stands_later, Agreed, Later, later_same, Said, said_later}
use Rattle.proof_pair.proofs.AgreeActsLemmas.{Setting, Inv, InvAt}
use Rattle.proof_pair.proofs.AgreeQuietLemmas.{Quiet, quiet}
use Rattle.proof_pair.proofs.AgreeNotesLemmas.{noted, noted_taking, noted_given, noted_all}
use Rattle.proof_pair.proofs.AgreeOpeningLemmas.{Known, kept_quiet, does_connect}
use Rattle.proof_pair.proofs.AgreeCookieLemmas.{past_of, bounded, Goes, has_behind, goes_held}
use Rattle.proof_pair.proofs.AgreePacketLemmas.{Admitted, admitted, shape_carried, takes_packet}

-- ---- between actions

pub record Knows (o : Options) (x : Side) (mine theirs : Past) : Type 0 where
  pub stands : Stands mine theirs (view_of (state_of x))
  pub size : ℕ
  pub options : x.end.endpoint_state.context.options ≡ record o { max_message_size = size }
  pub packing : x.end.endpoint_state.context.pack ≡ as_carried
  pub quiet : x.end.endpoint_state.context.emitted.events ≡ []
  pub said : All (Said mine theirs) (packets_in x.emitted)
  pub known : Known mine

-- an action of an end, from these histories to those
pub record Turned (o : Options) (x z : Side) (n : History) (echoed : List Association) (m : History) (theirs : Past) : Type 0 where
  pub more : List Association
  pub later : Later (past_of n echoed) (past_of m more)
  pub knows : Knows o z (past_of m more) theirs
  pub agrees : has_connected (emitted_since x z) ≡ true → (a : Association) → Has a (held_in (state_of z)) → Has (mirrored a) theirs.held

pub drop_emitted : (xs ys : List (Event Carried)) → drop (length xs) (xs ++ ys) ≡ ys
drop_emitted [] ys = refl
drop_emitted (x ∷ xs) ys = drop_emitted xs ys

agreed_at : (y : Past) (s : State) (a : Association) → Agreed y (view_of s) → Has a (held_in s) → Has (mirrored a) y.held
agreed_at y Closed a h n = absurd n
agreed_at y (CookieWait tag first t1) a h n = absurd n
agreed_at y (Open phase t) a h n = elim n [ inl e ↦ subst (λ (b : Association). Has (mirrored b) y.held) (sym e) h | inr r ↦ absurd r ]

module _ (o : Options) (x : Side) (y : Past) where
  begins : (u : Option ℕ) (px : Past) → Knows o x px y → IsUnder u (view_of (state_of x)) → InvAt (bounded o x.emitted u None) px y (calm x.end)
  begins u px k fits =
      let g : Setting = bounded o x.emitted u None in
      let c : Context Carried = x.end.endpoint_state.context in
      let inv : Inv g px y (view_of (state_of x)) c.options c.pack [] no_packet.tag [] = record {
        stands = k.stands;
        size = k.size;
        options = k.options;
        packing = k.packing;
        agreed = λ e. cc;
        tagged = record { under = fits; same = tt };
        said = subst (λ (es : List (Event Carried)). All (Said px y) (packets_in es)) (sym (append-nil x.emitted)) k.said;
        made = All-nil (Says px y no_packet.tag);
        shape = inl refl;
      } in
      subst (λ (es : List (Event Carried)). Inv g px y (view_of (state_of x)) c.options c.pack es no_packet.tag []) (sym k.quiet) inv

  ends : (u : Option ℕ) (n m : History) (e1 : List Association) (asked : Bool) (e : Endpoint Carried) → Goes (bounded o x.emitted u None) y n e1 m e
      → Turned o x (record (drain e x) { got_init = asked }) n e1 m y
  ends u n m e1 asked e h = record {
    more = h.more;
    later = h.later;
    knows = record {
      stands = h.inv.stands;
      size = h.inv.size;
      options = h.inv.options;
      packing = h.inv.packing;
      quiet = refl;
      said = h.inv.said;
      known = h.known;
    };
    agrees = λ t a there. agreed_at y e.endpoint_state.state a
        (h.inv.agreed (sym (ap has_connected (drop_emitted x.emitted e.endpoint_state.context.emitted.events)) ∙ t)) there;
  }

  same : (n : History) (e1 : List Association) → Knows o x (past_of n e1) y → Turned o x x n e1 (noted [] (state_of x) n) y
  same n e1 k =
      let m : History = noted [] (state_of x) n in
      let l : Later (past_of n e1) (past_of m e1) =
      record { drawn = λ d h. h; held = λ a h. has_behind a (held_in (state_of x)) n.held h; echoed = λ a h. h } in
      let silent : emitted_since x x ≡ [] = ap (drop (length x.emitted)) (sym (append-nil x.emitted)) ∙ drop_emitted x.emitted [] in
      record {
        more = e1;
        later = l;
        knows = record {
          stands = stands_later (past_of n e1) y (past_of m e1) y l (later_same y) refl (view_of (state_of x)) k.stands;
          size = k.size;
          options = k.options;
          packing = k.packing;
          quiet = k.quiet;
          said = All-weaker (Said (past_of n e1) y) (Said (past_of m e1) y) (said_later (past_of n e1) y (past_of m e1) y l (later_same y)) (packets_in x.emitted) k.said;
          known = k.known;
        };
        agrees = λ t a there. absurd (both_ways (has_connected (emitted_since x x)) (ap has_connected silent) t);
      }

-- the other end's half stays, as this end goes on
pub knows_other : (o : Options) (y : Side) (mine theirs now : Past) → Later theirs now → Knows o y mine theirs → Knows o y mine now
knows_other o y mine theirs now l k = record {
  stands = stands_later mine theirs mine now (later_same mine) l refl (view_of (state_of y)) k.stands;
  size = k.size;
  options = k.options;
  packing = k.packing;
  quiet = k.quiet;
  said = All-weaker (Said mine theirs) (Said mine now) (said_later mine theirs mine now (later_same mine) l) (packets_in y.emitted) k.said;
  known = k.known;
}

-- ---- calls

abbrev IsQuietCall : Call → Type 0
IsQuietCall Connect = ⊥
IsQuietCall (Restore h) = ⊥
IsQuietCall (ReceivePacket p) = ⊥
IsQuietCall call = ⊤

quiet_user : (call : Call) → IsQuietCall call → Quiet call
quiet_user call u = record {
  on_received = λ tag chunk h. absurd (subst IsQuietCall h.given u);
  connects = λ e. subst IsQuietCall e u;
  restores = λ h e. subst IsQuietCall e u;
}

module _ (o : Options) (x : Side) (y : Past) (fine : AreValidOptions o) (n : History) (e1 : List Association) (k : Knows o x (past_of n e1) y) where
  abbrev g : Setting
  g = bounded o x.emitted None None

  started : InvAt g (past_of n e1) y (calm x.end)
  started = begins o x y None (past_of n e1) k tt

  user_calls : (call : Call) → IsQuietCall call
      → Turned o x (drain (called call x.end) x) n e1 (noted [] (called call x.end).endpoint_state.state n) y
  user_calls call u =
      let e : Endpoint Carried = called call x.end in
      ends o x y None n (noted [] e.endpoint_state.state n) e1 x.got_init e
      (goes_held g y n e1 e k.known (keeps_call call (quiet g (past_of n e1) y call fine (quiet_user call u)) x.end started))

  connects_in : (st : State) (s : Endpoint Carried) → AreDistinct (drawn_to_connect st s ++ n.drawn) → has_connected s.endpoint_state.context.emitted.events ≡ false
      → InvAt g (past_of n e1) y (calm (end_in st s))
      → Goes g y n e1 (noted [] (connect (end_in st s)).endpoint_state.state (noted (drawn_to_connect st s) Closed n)) (connect (end_in st s))
  connects_in Closed s mine silent inv = record {
    more = e1;
    later = record { drawn = λ d h. inr h; held = λ a h. h; echoed = λ a h. h };
    known = λ b h. inr (k.known b h);
    inv = does_connect g y fine (past_of n e1) s k.known mine silent (record { under = tt; same = tt }) inv;
  }
  connects_in (CookieWait tag first t1) s mine silent inv = goes_held g y n e1 (end_in (CookieWait tag first t1) s) k.known inv
  connects_in (Open phase t) s mine silent inv = goes_held g y n e1 (end_in (Open phase t) s) k.known inv

  user_connects : AreDistinct (drawn_to_connect (state_of x) x.end ++ n.drawn)
      → Turned o x (drain (connect x.end) x) n e1 (noted [] (connect x.end).endpoint_state.state (noted (drawn_to_connect (state_of x) x.end) Closed n)) y
  user_connects mine =
      ends o x y None n (noted [] (connect x.end).endpoint_state.state (noted (drawn_to_connect (state_of x) x.end) Closed n)) e1 x.got_init (connect x.end)
      (connects_in (state_of x) x.end mine (ap has_connected k.quiet) started)

  -- ---- packets

  refuses : (text : List ℕ) → InvAt g (past_of n e1) y (calm (emit_parse_error text (count_packet_at x.end)))
  refuses text = does_emit_error (kept_quiet g y fine (past_of n e1)) ParseFailed text (state_of x) (count_packet_at x.end).endpoint_state.context x.end.draws started

  foreign : (r : Option (List ℕ)) (p : PacketTree) → packet_refusal p.header.verification_tag p.chunks (state_of x) ≡ r
      → Turned o x (foreign_if r p x) n e1 (noted [] (state_of (foreign_if r p x)) n) y
  foreign None p is = same o x y n e1 k
  foreign (Some text) p is =
      let e : Endpoint Carried = called (ReceivePacket p) x.end in
      let here : e ≡ emit_parse_error text (count_packet_at x.end) = ap (λ (r : Option (List ℕ)). packet_unless r p.header.verification_tag p.chunks (count_packet_at x.end)) is in
      ends o x y None n (noted [] e.endpoint_state.state n) e1 x.got_init e
      (goes_held g y n e1 e k.known (subst (λ (z : Endpoint Carried). InvAt g (past_of n e1) y (calm z)) (sym here) (refuses text)))

  says_all : (tag : ℕ) (cs : List ChunkTree) → All (Says y (past_of n e1) tag) cs → All (Says y (past_of n e1) tag) (map carried cs)
  says_all tag [] h = All-nil (Says y (past_of n e1) tag)
  says_all tag (c ∷ cs) h =
      All-cons (Says y (past_of n e1) tag) (carried c) (map carried cs) (says_carried y (past_of n e1) tag c (All-head (Says y (past_of n e1) tag) c cs h))
      (says_all tag cs (All-tail (Says y (past_of n e1) tag) c cs h))

  module _ (theirs : AreDistinct y.drawn) (p : Carried) (checksum : ℕ) (asked : Bool) (said : Said y (past_of n e1) p) where
    abbrev q : PacketTree
    q = as_received p checksum

    taken_by : (r : Option (List ℕ)) → packet_refusal q.header.verification_tag q.chunks (state_of x) ≡ r → AreDistinct (noted_taking r q x.end n).drawn
        → Turned o x (record (drain (packet_unless r q.header.verification_tag q.chunks (count_packet_at x.end)) x) { got_init = asked }) n e1
        (noted [] (packet_unless r q.header.verification_tag q.chunks (count_packet_at x.end)).endpoint_state.state (noted_taking r q x.end n)) y
    taken_by None is mine =
        let tag : ℕ = q.header.verification_tag in
        let may : Admitted tag q.chunks (state_of x) = admitted tag q.chunks (state_of x) (shape_carried p.chunks said.shape) is in
        let e : Endpoint Carried = on_accepted_packet tag q.chunks (count_packet_at x.end) in
        ends o x y may.under n (noted [] e.endpoint_state.state (noted_taking None q x.end n)) e1 asked e
        (takes_packet o x.emitted y fine theirs q may.under n e1 x.end k.known may.comes (says_all tag p.chunks said.says) mine
        (begins o x y may.under (past_of n e1) k may.fits))
    taken_by (Some text) is mine =
        let e : Endpoint Carried = emit_parse_error text (count_packet_at x.end) in
        ends o x y None n (noted [] e.endpoint_state.state n) e1 asked e (goes_held g y n e1 e k.known (refuses text))

  given_by : (theirs : AreDistinct y.drawn) (ps : List Carried) (p : Option Carried) (checksum which : ℕ) → All (Said y (past_of n e1)) ps → slice_get ps which ≡ p
      → AreDistinct (noted_given p checksum x n).drawn
      → Turned o x (give_carried p checksum x) n e1 (noted [] (state_of (give_carried p checksum x)) (noted_given p checksum x n)) y
  given_by theirs ps None checksum which all is mine = same o x y n e1 k
  given_by theirs ps (Some p) checksum which all is mine =
      taken_by theirs p checksum (x.got_init || (p.header.verification_tag == 0)) (all_get (Said y (past_of n e1)) ps which p is all)
      (packet_refusal (as_received p checksum).header.verification_tag (as_received p checksum).chunks (state_of x)) refl mine

-- ---- actions

module _ (o q : Options) (x y : Side) (fine : AreValidOptions o) (n r : History) (e1 e2 : List Association) (k : Knows o x (past_of n e1) (past_of r e2))
    (l : Knows q y (past_of r e2) (past_of n e1)) (theirs : AreDistinct r.drawn) where
  pub actions : (t : EndAction) → IsAllowed t → AreDistinct (noted_all t x y n).drawn → Turned o x (act t x y) n e1 (noted_all t x y n) (past_of r e2)
  actions (Calls Connect) may mine = user_connects o x (past_of r e2) fine n e1 k mine
  actions (Calls (Restore h)) may mine = absurd may
  actions (Calls (ReceivePacket p)) may mine = absurd may
  actions (Calls call) may mine = user_calls o x (past_of r e2) fine n e1 k call tt
  actions (Gives which checksum) may mine =
      given_by o x (past_of r e2) fine n e1 k theirs (emitted_packets y) (slice_get (emitted_packets y) which) checksum which l.said refl mine
  actions (Refuses p) may mine = foreign o x (past_of r e2) fine n e1 k (packet_refusal p.header.verification_tag p.chunks (state_of x)) p refl

-- ---- at the start

pub knows_start : (o : Options) (x : Stream) → Knows o (new_side o x) (past_of no_history []) (past_of no_history [])
knows_start o x = record {
  stands = tt;
  size = o.max_message_size;
  options = refl;
  packing = refl;
  quiet = refl;
  said = All-nil (Said (past_of no_history []) (past_of no_history []));
  known = λ b h. absurd h;
}
