-- What an association can do, over every trace: both ends negotiate the same, and no chunk that either emits is misused by it.
use Rattle.std.proofs.Common.{◌≡◌, ℕ, ◌^◌, ◌%◌, Bool, true, false, Option, Some, None, Result, Ok, Err, List, [], ◌∷◌, ◌++◌, refl, sym, ap, subst, ◌∙◌, arith}
use Rattle.std.proofs.lemmas.Option.{same_Some}
use Rattle.std.specs.Prelude.{⊤}
use Rattle.std.proofs.Math.Bool.{and_comm}
use Rattle.sctp_wire.specs.Field.{be32, be64}
use Rattle.sctp_packet.specs.Chunk.{ChunkTree, InitTree, init_chunk, init_ack_chunk, cookie_echo_chunk}
use Rattle.sctp_packet.specs.Grammar.{carried}
use Rattle.sctp_capabilities.specs.declared.state_cookie.StateCookieError.{StateCookieError}
use Rattle.sctp_capabilities.specs.Capabilities.{Capabilities, announced_parameters, announced_by, negotiate, agreed, announced_with, announced_by_init}
use Rattle.sctp_capabilities.specs.StateCookie.{Cookie, CapabilitiesFit, capability_bytes, cookie_bytes, cookie_from, check_cookie, read_cookie}
use Rattle.sctp_state.specs.Options.{Options}
use Rattle.sctp_capabilities.proofs.CapabilitiesLemmas.{announced_with_options, negotiated_by_init, negotiated_by_init_ack}
use Rattle.sctp_capabilities.proofs.CookieLemmas.{cookie_from_spelled, capabilities_spelled}
use Rattle.sctp_tx.specs.RetransmissionQueue.{Sender}
use Rattle.sctp_tx.specs.ForwardPoints.{chunk_if}
use Rattle.spec_endpoint.specs.Association.{Tcb, Phase, CookieEchoed, Established, ShutdownPending, ShutdownSent, ShutdownReceived, ShutdownAckSent, State, Closed, CookieWait, Open}
use Rattle.spec_endpoint.specs.Sending.{is_before_cookie_ack}
use Rattle.spec_endpoint.specs.Opening.{cookie_for, agreed_by, init_ack_of, cookie_in}
use Rattle.spec_endpoint.specs.Input.{misuse}
use Rattle.proof_pair.specs.Trace.{AreValidOptions}
use Rattle.proof_pair.proofs.JoinLemmas.{kept_in}
use Rattle.proof_pair.proofs.JoinKeepsLemmas.{emitted_with_cookie, cookie_found}

-- ---- a cookie says what was announced to its maker, whatever else it says

be32_wraps : (n : ℕ) → be32 (n % 2 ^ 32) ≡ be32 n
unfolding be32
be32_wraps n = four _ _ _ _ _ _ _ _ (omega arith) (omega arith) (omega arith) (omega arith)
  where
    four : (a b c d p q r s : ℕ) → a ≡ p → b ≡ q → c ≡ r → d ≡ s → (a ∷ b ∷ c ∷ d ∷ []) ≡ (p ∷ q ∷ r ∷ s ∷ [])
    four a b c d p q r s e1 e2 e3 e4 = rw (e1, e2, e3, e4) refl

pub be64_wraps : (n : ℕ) → be64 (n % 2 ^ 64) ≡ be64 n
unfolding be64
be64_wraps n =
    eight _ _ _ _ _ _ _ _ _ _ _ _ _ _ _ _ (omega arith) (omega arith) (omega arith) (omega arith) (omega arith) (omega arith) (omega arith) (omega arith)
  where
    eight : (a b c d e f g h p q r s t u v w : ℕ) → a ≡ p → b ≡ q → c ≡ r → d ≡ s → e ≡ t → f ≡ u → g ≡ v → h ≡ w
        → (a ∷ b ∷ c ∷ d ∷ e ∷ f ∷ g ∷ h ∷ []) ≡ (p ∷ q ∷ r ∷ s ∷ t ∷ u ∷ v ∷ w ∷ [])
    eight a b c d e f g h p q r s t u v w e1 e2 e3 e4 e5 e6 e7 e8 = rw (e1, e2, e3, e4, e5, e6, e7, e8) refl

-- with numbers that fit their fields
abbrev small : Cookie → Cookie
small k = record k {
  peer_tag = k.peer_tag % 2 ^ 32;
  my_tag = k.my_tag % 2 ^ 32;
  peer_initial_tsn = k.peer_initial_tsn % 2 ^ 32;
  my_initial_tsn = k.my_initial_tsn % 2 ^ 32;
  a_rwnd = k.a_rwnd % 2 ^ 32;
  tie_tag = k.tie_tag % 2 ^ 64;
}

same_bytes : (k : Cookie) → cookie_bytes k ≡ cookie_bytes (small k)
unfolding cookie_bytes
same_bytes k =
    rw (be32_wraps k.peer_tag, be32_wraps k.my_tag, be32_wraps k.peer_initial_tsn, be32_wraps k.my_initial_tsn, be32_wraps k.a_rwnd, be64_wraps k.tie_tag) refl

from_small : (k : Cookie) → CapabilitiesFit k.peer_capabilities → cookie_from (cookie_bytes (small k)) ≡ small k
unfolding cookie_bytes
from_small k fits =
    let c : Cookie = small k in
    cookie_from_spelled (cookie_bytes c)
    (be32 c.peer_tag ++ (be32 c.my_tag ++ (be32 c.peer_initial_tsn ++ (be32 c.my_initial_tsn ++ (be32 c.a_rwnd ++ (be64 c.tie_tag ++ capability_bytes c.peer_capabilities)))))) c refl
    (record {
      capabilities = capability_bytes c.peer_capabilities;
      spelled = refl;
      spells = capabilities_spelled c.peer_capabilities fits;
      fits = record {
        peer_tag = omega arith;
        my_tag = omega arith;
        peer_initial_tsn = omega arith;
        my_initial_tsn = omega arith;
        a_rwnd = omega arith;
        tie_tag = omega arith;
        peer_capabilities = fits;
      };
    })

is_tested : (a b c : Bool) (d k : Cookie) → check_cookie a b c d ≡ Ok k → k ≡ d
is_tested false b c d k e = cc
is_tested true false c d k e = cc
is_tested true true false d k e = cc
is_tested true true true d k e = sym (ap (λ (r : Result Cookie StateCookieError). elim r [ Ok x ↦ x | Err fault ↦ d ]) e)

read_as : (bytes : List ℕ) (k : Cookie) → read_cookie bytes ≡ Ok k → k ≡ cookie_from bytes
unfolding read_cookie
read_as bytes k e = is_tested _ _ _ (cookie_from bytes) k e

reads_emitted : (made k : Cookie) → CapabilitiesFit made.peer_capabilities → read_cookie (cookie_bytes made) ≡ Ok k → k.peer_capabilities ≡ made.peer_capabilities
reads_emitted made k fits e =
    ap (λ (z : Cookie). z.peer_capabilities) (read_as (cookie_bytes made) k e ∙ (ap cookie_from (same_bytes made) ∙ from_small made fits))

-- ---- what an end with these options announces to the other one

-- one that reads a cookie makes an association with what was agreed
abbrev pub Brings : (own other : Options) → List ℕ → Type 0
Brings o q c = (k : Cookie) → read_cookie c ≡ Ok k → negotiate o k.peer_capabilities ≡ agreed o q

pub record EmitsBack (o q : Options) (i : InitTree) : Type 0 where
  pub can : agreed_by q i ≡ agreed q o
  pub cookie : (c : List ℕ) → cookie_in i.parameters ≡ Some c → Brings o q c

-- the end with the first options speaks to the other one
abbrev pub Emits : (o q : Options) → ChunkTree → Type 0
Emits o q (init_chunk i) = announced_by i.nbr_outbound_streams i.nbr_inbound_streams i.parameters ≡ announced_by_init o
Emits o q (init_ack_chunk i) = EmitsBack o q i
Emits o q (cookie_echo_chunk c) = Brings q o c
Emits o q chunk = misuse (agreed q o) chunk ≡ None

pub emits_carried : (o q : Options) (c : ChunkTree) → Emits o q c → Emits o q (carried c)
emits_carried o q (init_chunk i) h = h
emits_carried o q c h = h

-- it isn't misused
pub emits_right : (o q : Options) (c : ChunkTree) → Emits o q c → misuse (agreed q o) c ≡ None
emits_right o q (init_chunk i) h = refl
emits_right o q (init_ack_chunk i) h = refl
emits_right o q (cookie_echo_chunk c) h = refl
emits_right o q c h = h

emitted_fits : (o : Options) → AreValidOptions o → CapabilitiesFit (announced_by_init o)
emitted_fits o fine =
    subst CapabilitiesFit (sym (announced_with_options o.zero_checksum_method o))
    (record { zero_checksum_method = fine.method; incoming = fine.outgoing; outgoing = fine.incoming })

-- an INIT of the other end is answered
pub emits_back : (o q : Options) (i : InitTree) (tag first tie : ℕ) → AreValidOptions q → Emits q o (init_chunk i) → EmitsBack o q (init_ack_of o i tag first tie)
emits_back o q i tag first tie fine said =
    let method : ℕ = (agreed_by o i).zero_checksum_method in
    let made : Cookie = cookie_for i tag first tie in
    let bytes : List ℕ = cookie_bytes made in
    record {
      can = ap (negotiate q) (emitted_with_cookie o.announced_maximum_outgoing_streams o.announced_maximum_incoming_streams (announced_parameters o method) bytes)
          ∙ (ap (λ (k : Capabilities). negotiate q (announced_with (negotiate o k).zero_checksum_method o)) said ∙ negotiated_by_init_ack q o);
      cookie = λ c brought k reads.
          let same : bytes ≡ c = same_Some bytes c (sym (cookie_found o method bytes) ∙ brought) in
          let is : k.peer_capabilities ≡ made.peer_capabilities =
          reads_emitted made k (subst CapabilitiesFit (sym said) (emitted_fits q fine)) (ap read_cookie same ∙ reads) in
          ap (negotiate o) (is ∙ said) ∙ negotiated_by_init o q;
    }

-- a forward point is sent where both ends know them
pub same_mode : (o q : Options) → (agreed q o).message_interleaving ≡ (agreed o q).message_interleaving
same_mode o q = and_comm q.enable_message_interleaving o.enable_message_interleaving

pub same_partial : (o q : Options) → (agreed q o).partial_reliability ≡ (agreed o q).partial_reliability
same_partial o q = and_comm q.enable_partial_reliability o.enable_partial_reliability

pub forward_right : (b : Bool) (k : Capabilities) (s : Sender) → k.message_interleaving ≡ b → k.partial_reliability ≡ true → misuse k (chunk_if b s) ≡ None
forward_right true k s mode partial = rw (mode, partial) refl
forward_right false k s mode partial = rw (mode, partial) refl

-- ---- what holds of a state

pub data View : Type 0 where
  alone : View
  can : (k : Capabilities) (is_partial is_interleaved : Bool) (kept : Option (List ℕ)) → View

abbrev pub view_of : State → View
view_of Closed = alone
view_of (CookieWait tag first t1) = alone
view_of (Open phase t) = can t.capabilities t.sender.outstanding.items.is_partial t.sender.outstanding.items.is_interleaved (kept_in phase)

abbrev late_view : Tcb → View
late_view t = can t.capabilities t.sender.outstanding.items.is_partial t.sender.outstanding.items.is_interleaved None

pub late_phase : (phase : Phase) (t : Tcb) → is_before_cookie_ack phase ≡ false → view_of (Open phase t) ≡ late_view t
late_phase (CookieEchoed t1 cookie) t e = cc
late_phase Established t e = refl
late_phase ShutdownPending t e = refl
late_phase (ShutdownSent t2) t e = refl
late_phase ShutdownReceived t e = refl
late_phase (ShutdownAckSent t2) t e = refl

abbrev pub Kept : (o q : Options) → Option (List ℕ) → Type 0
Kept o q None = ⊤
Kept o q (Some c) = Brings q o c

pub record IsAble (o q : Options) (k : Capabilities) (is_partial is_interleaved : Bool) (kept : Option (List ℕ)) : Type 0 where
  pub agrees : k ≡ agreed o q
  pub partial : is_partial ≡ k.partial_reliability
  pub mode : is_interleaved ≡ k.message_interleaving
  pub is_kept : Kept o q kept

abbrev pub Able : (o q : Options) → View → Type 0
Able o q alone = ⊤
Able o q (can k is_partial is_interleaved kept) = IsAble o q k is_partial is_interleaved kept
