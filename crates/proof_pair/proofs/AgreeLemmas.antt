-- What an end's state, and what it said, say of both ends, over every trace: by what each drew, held and echoed.
use Rattle.std.proofs.Common.{◌≡◌, ◌≢◌, ℕ, ◌^◌, ◌<◌, ◌&&◌, not, Bool, true, false, Option, Some, None, List, [], ◌∷◌, ◌++◌, ◌⊎◌, inl, inr, refl, sym, ap, subst, ◌∙◌, Ok, All}
use Rattle.std.specs.Prelude.{⊤}
use Rattle.std.specs.List.{list_all}
use Rattle.std.proofs.lemmas.List.Elements.{All-weaker}
use Rattle.std.proofs.lemmas.List.Folds.{list_all-append}
use Rattle.sctp_packet.specs.Chunk.{ChunkTree, InitTree, data_chunk, init_chunk, init_ack_chunk, sack_chunk, cookie_echo_chunk, cookie_ack_chunk, idata_chunk, re_config_chunk, forward_tsn_chunk, i_forward_tsn_chunk}
use Rattle.sctp_packet.specs.Grammar.{carried}
use Rattle.sctp_capabilities.specs.Capabilities.{announced_by}
use Rattle.sctp_capabilities.specs.StateCookie.{Cookie, CapabilitiesFit, read_cookie}
use Rattle.spec_endpoint.specs.Association.{Tcb, Phase, CookieEchoed, Established, ShutdownPending, ShutdownSent, ShutdownReceived, ShutdownAckSent, State, Closed, CookieWait, Open}
use Rattle.spec_endpoint.specs.Sending.{is_before_cookie_ack}
use Rattle.spec_endpoint.specs.Opening.{cookie_in}
use Rattle.proof_endpoint.specs.Mapped.{Carried}
use Rattle.proof_endpoint.specs.Acts.{is_plain}
use Rattle.proof_pair.specs.Agreement.{Draw, Association, mirrored, Has, association_of, AreDistinct}
use Rattle.proof_pair.proofs.JoinLemmas.{kept_in}

-- what an end drew, held, and echoed the cookie of
pub record Past : Type 0 where
  pub drawn : List Draw
  pub held : List Association
  pub echoed : List Association

pub data View : Type 0 where
  rests : View
  waits : (d : Draw) → View
  holds : (a : Association) (kept : Option (List ℕ)) → View

abbrev pub view_of : State → View
view_of Closed = rests
view_of (CookieWait tag first t1) = waits (record { tag = tag; first = first })
view_of (Open phase t) = holds (association_of t) (kept_in phase)

pub late_phase : (phase : Phase) (t : Tcb) → is_before_cookie_ack phase ≡ false → view_of (Open phase t) ≡ holds (association_of t) None
late_phase (CookieEchoed t1 cookie) t e = cc
late_phase Established t e = refl
late_phase ShutdownPending t e = refl
late_phase (ShutdownSent t2) t e = refl
late_phase ShutdownReceived t e = refl
late_phase (ShutdownAckSent t2) t e = refl

-- ---- cookies

abbrev pub own_in : Cookie → Draw
own_in k = record { tag = k.my_tag; first = k.my_initial_tsn }

abbrev pub peer_in : Cookie → Draw
peer_in k = record { tag = k.peer_tag; first = k.peer_initial_tsn }

-- a cookie names these draws
pub record Names (c : List ℕ) (own peer : Draw) : Type 0 where
  pub own_is : (k : Cookie) → read_cookie c ≡ Ok k → own_in k ≡ own
  pub peer_is : (k : Cookie) → read_cookie c ≡ Ok k → peer_in k ≡ peer

-- ---- what was said

abbrev pub draw_in : InitTree → Draw
draw_in i = record { tag = i.initiate_tag; first = i.initial_tsn }

pub record FitsDraw (d : Draw) : Type 0 where
  pub some : d.tag ≢ 0
  pub tag : d.tag < 2 ^ 32
  pub first : d.first < 2 ^ 32

pub record FitsInit (i : InitTree) : Type 0 where
  pub draw : FitsDraw (draw_in i)
  pub window : i.a_rwnd < 2 ^ 32
  pub can : CapabilitiesFit (announced_by i.nbr_outbound_streams i.nbr_inbound_streams i.parameters)

pub record SaysInit (x : Past) (i : InitTree) : Type 0 where
  pub own : Has (draw_in i) x.drawn
  pub fits : FitsInit i

pub record SaysInitAck (x y : Past) (tag : ℕ) (i : InitTree) : Type 0 where
  pub peer : Draw
  pub names : (c : List ℕ) → cookie_in i.parameters ≡ Some c → Names c (draw_in i) peer
  pub own : Has (draw_in i) x.drawn
  pub other : Has peer y.drawn
  pub under : tag ≡ peer.tag

-- the cookie of an association that it held
pub record SaysEcho (x y : Past) (tag : ℕ) (c : List ℕ) : Type 0 where
  pub a : Association
  pub echoed : Has a x.echoed
  pub held : Has a x.held
  pub names : Names c a.peer a.mine
  pub own : Has a.mine x.drawn
  pub other : Has a.peer y.drawn
  pub under : tag ≡ a.peer.tag

-- an answer to a cookie: a is what the other end held
pub record SaysAck (x y : Past) (tag : ℕ) : Type 0 where
  pub a : Association
  pub echoed : Has a y.echoed
  pub held : Has (mirrored a) x.held
  pub under : tag ≡ a.mine.tag

abbrev pub Says : (x y : Past) (tag : ℕ) → ChunkTree → Type 0
Says x y tag (init_chunk i) = SaysInit x i
Says x y tag (init_ack_chunk i) = SaysInitAck x y tag i
Says x y tag (cookie_echo_chunk c) = SaysEcho x y tag c
Says x y tag cookie_ack_chunk = SaysAck x y tag
Says x y tag chunk = ⊤

pub says_carried : (x y : Past) (tag : ℕ) (c : ChunkTree) → Says x y tag c → Says x y tag (carried c)
says_carried x y tag (init_chunk i) h = h
says_carried x y tag c h = h

-- ---- how packets are made

-- chunks by which an association is opened
abbrev pub is_opening : ChunkTree → Bool
is_opening (init_ack_chunk i) = true
is_opening (cookie_echo_chunk c) = true
is_opening cookie_ack_chunk = true
is_opening chunk = false

abbrev pub is_silent : ChunkTree → Bool
is_silent chunk = not (is_opening chunk)

-- what may stand behind one
abbrev pub is_load : ChunkTree → Bool
is_load (data_chunk tsn is_immediate f) = true
is_load (idata_chunk tsn is_immediate f) = true
is_load (sack_chunk k) = true
is_load (re_config_chunk parameters) = true
is_load (forward_tsn_chunk tsn skipped) = true
is_load (i_forward_tsn_chunk tsn skipped) = true
is_load chunk = false

-- the first chunk opens an association, and none behind it opens or ends one
abbrev pub Opens : List ChunkTree → Type 0
Opens [] = ⊥
Opens (c ∷ cs) = (is_opening c ≡ true) × (list_all is_load cs ≡ true)

abbrev pub Shape : List ChunkTree → Type 0
Shape cs = (list_all is_silent cs ≡ true) ⊎ Opens cs

pub all_with : (test : ChunkTree → Bool) (cs : List ChunkTree) (c : ChunkTree) → list_all test cs ≡ true → test c ≡ true → list_all test (cs ++ c ∷ []) ≡ true
all_with test cs c h e = list_all-append test cs (c ∷ []) ∙ (ap (λ (b : Bool). b && (test c && true)) h ∙ ap (λ (b : Bool). b && true) e)

pub load_is_silent : (c : ChunkTree) → is_load c ≡ true → is_silent c ≡ true
load_is_silent (init_ack_chunk i) e = cc
load_is_silent (cookie_echo_chunk c) e = cc
load_is_silent cookie_ack_chunk e = cc
load_is_silent c e = refl

pub shape_with : (cs : List ChunkTree) (c : ChunkTree) → Shape cs → is_load c ≡ true → Shape (cs ++ c ∷ [])
shape_with cs c (inl h) e = inl (all_with is_silent cs c h (load_is_silent c e))
shape_with [] c (inr h) e = absurd h
shape_with (d ∷ ds) c (inr h) e = inr (h.0, all_with is_load ds c h.1 e)

plain_is_silent : (c : ChunkTree) → is_plain c ≡ true → is_silent c ≡ true
plain_is_silent (init_ack_chunk i) e = cc
plain_is_silent (cookie_echo_chunk c) e = cc
plain_is_silent cookie_ack_chunk e = cc
plain_is_silent c e = refl

and_both : (a b c d : Bool) → (a ≡ true → b ≡ true) → (c ≡ true → d ≡ true) → (a && c) ≡ true → (b && d) ≡ true
and_both true b c d f g h = ap (λ (z : Bool). z && d) (f refl) ∙ g h
and_both false b c d f g h = cc

-- where each chunk passes one test, it passes the other
pub all_pass : (p q : ChunkTree → Bool) → ((c : ChunkTree) → p c ≡ true → q c ≡ true) → (cs : List ChunkTree) → list_all p cs ≡ true → list_all q cs ≡ true
all_pass p q f [] h = refl
all_pass p q f (c ∷ cs) h = and_both (p c) (q c) (list_all p cs) (list_all q cs) (f c) (λ e. all_pass p q f cs e) h

pub shape_plain : (cs : List ChunkTree) (c : ChunkTree) → list_all is_plain cs ≡ true → is_plain c ≡ true → Shape (cs ++ c ∷ [])
shape_plain cs c h e = inl (all_with is_silent cs c (all_pass is_plain is_silent plain_is_silent cs h) (plain_is_silent c e))

-- ---- what holds of a state

pub record Waits (x : Past) (d : Draw) : Type 0 where
  pub own : Has d x.drawn
  pub fits : FitsDraw d
  pub new : (b : Association) → Has b x.echoed → b.mine.tag ≡ d.tag → ⊥

-- the cookie of the association; no other was echoed under this tag
pub record IsKept (x : Past) (a : Association) (c : List ℕ) : Type 0 where
  pub names : Names c a.peer a.mine
  pub fits : FitsDraw a.mine
  pub echoed : Has a x.echoed
  pub only : (b : Association) → Has b x.echoed → b.mine.tag ≡ a.mine.tag → b ≡ a

abbrev pub Kept : Past → Association → Option (List ℕ) → Type 0
Kept x a None = ⊤
Kept x a (Some c) = IsKept x a c

pub record Holds (x y : Past) (a : Association) (kept : Option (List ℕ)) : Type 0 where
  pub own : Has a.mine x.drawn
  pub other : Has a.peer y.drawn
  pub held : Has a x.held
  pub is_kept : Kept x a kept

abbrev pub Stands : (x y : Past) → View → Type 0
Stands x y rests = ⊤
Stands x y (waits d) = Waits x d
Stands x y (holds a kept) = Holds x y a kept

-- one that emitted that it is connected
abbrev pub Agreed : Past → View → Type 0
Agreed y rests = ⊤
Agreed y (waits d) = ⊥
Agreed y (holds a kept) = Has (mirrored a) y.held

-- packets come under this tag
abbrev pub IsUnder : Option ℕ → View → Type 0
IsUnder None v = ⊤
IsUnder (Some tag) rests = ⊤
IsUnder (Some tag) (waits d) = d.tag ≡ tag
IsUnder (Some tag) (holds a kept) = a.mine.tag ≡ tag

-- no other association than this one is held
abbrev pub IsSame : Option Association → View → Type 0
IsSame None v = ⊤
IsSame (Some b) rests = ⊤
IsSame (Some b) (waits d) = ⊥
IsSame (Some b) (holds a kept) = b ≡ a

pub record Bound : Type 0 where
  pub tag : Option ℕ
  pub only : Option Association

pub record Tagged (u : Bound) (v : View) : Type 0 where
  pub under : IsUnder u.tag v
  pub same : IsSame u.only v

pub tagged_rests : (u : Bound) → Tagged u rests
tagged_rests u = record { under = under u.tag; same = same u.only }
  where
    under : (o : Option ℕ) → IsUnder o rests
    under None = tt
    under (Some tag) = tt

    same : (o : Option Association) → IsSame o rests
    same None = tt
    same (Some a) = tt

pub tagged_holds : (u : Bound) (a : Association) (k l : Option (List ℕ)) → Tagged u (holds a k) → Tagged u (holds a l)
tagged_holds u a k l h = record { under = under u.tag h.under; same = same u.only h.same }
  where
    under : (o : Option ℕ) → IsUnder o (holds a k) → IsUnder o (holds a l)
    under None f = tt
    under (Some tag) f = f

    same : (o : Option Association) → IsSame o (holds a k) → IsSame o (holds a l)
    same None f = tt
    same (Some b) f = f

-- ---- as time goes on

pub record Later (x z : Past) : Type 0 where
  pub drawn : (d : Draw) → Has d x.drawn → Has d z.drawn
  pub held : (a : Association) → Has a x.held → Has a z.held
  pub echoed : (a : Association) → Has a x.echoed → Has a z.echoed

pub later_same : (x : Past) → Later x x
later_same x = record { drawn = λ d h. h; held = λ a h. h; echoed = λ a h. h }

module _ (x y z w : Past) (l : Later x z) (m : Later y w) where
  pub says_later : (tag : ℕ) (c : ChunkTree) → Says x y tag c → Says z w tag c
  says_later tag (init_chunk i) h = record { own = l.drawn (draw_in i) h.own; fits = h.fits }
  says_later tag (init_ack_chunk i) h = record {
    peer = h.peer;
    names = h.names;
    own = l.drawn (draw_in i) h.own;
    other = m.drawn h.peer h.other;
    under = h.under;
  }
  says_later tag (cookie_echo_chunk c) h = record {
    a = h.a;
    echoed = l.echoed h.a h.echoed;
    held = l.held h.a h.held;
    names = h.names;
    own = l.drawn h.a.mine h.own;
    other = m.drawn h.a.peer h.other;
    under = h.under;
  }
  says_later tag cookie_ack_chunk h = record { a = h.a; echoed = m.echoed h.a h.echoed; held = l.held (mirrored h.a) h.held; under = h.under }
  says_later tag c h = h

  kept_later : z.echoed ≡ x.echoed → (a : Association) (k : Option (List ℕ)) → Kept x a k → Kept z a k
  kept_later e a None h = tt
  kept_later e a (Some c) h = record {
    names = h.names;
    fits = h.fits;
    echoed = l.echoed a h.echoed;
    only = λ b n. h.only b (subst (Has b) e n);
  }

  -- where nothing more was echoed
  pub stands_later : z.echoed ≡ x.echoed → (v : View) → Stands x y v → Stands z w v
  stands_later e rests h = tt
  stands_later e (waits d) h = record { own = l.drawn d h.own; fits = h.fits; new = λ b n. h.new b (subst (Has b) e n) }
  stands_later e (holds a kept) h = record {
    own = l.drawn a.mine h.own;
    other = m.drawn a.peer h.other;
    held = l.held a h.held;
    is_kept = kept_later e a kept h.is_kept;
  }

-- ---- packets that were said

pub record Said (x y : Past) (p : Carried) : Type 0 where
  pub says : All (Says x y p.header.verification_tag) p.chunks
  pub shape : Shape p.chunks

pub said_later : (x y z w : Past) → Later x z → Later y w → (p : Carried) → Said x y p → Said z w p
said_later x y z w l m p h = record {
  says = All-weaker (Says x y p.header.verification_tag) (Says z w p.header.verification_tag)
      (says_later x y z w l m p.header.verification_tag) p.chunks h.says;
  shape = h.shape;
}

-- ---- one tag, one draw

pub one_draw : (ds : List Draw) (d e : Draw) → AreDistinct ds → Has d ds → Has e ds → d.tag ≡ e.tag → d ≡ e
one_draw [] d e a m n t = absurd m
one_draw (x ∷ xs) d e a m n t =
    elim m [
      | inl p ↦ elim n [
        | inl q ↦ p ∙ sym q
        | inr q ↦ absurd (a.0 e q (sym t ∙ ap (λ (z : Draw). z.tag) p))
      ]
      | inr p ↦ elim n [
        | inl q ↦ absurd (a.0 d p (t ∙ ap (λ (z : Draw). z.tag) q))
        | inr q ↦ one_draw xs d e a.1 p q t
      ]
    ]
