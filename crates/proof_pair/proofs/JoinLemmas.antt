-- What two ends know of each other while an association is opened, read off their states and what they said.
use Rattle.std.proofs.Common.{◌≡◌, ◌≢◌, ℕ, ◌^◌, ◌<◌, not, Bool, true, false, Option, Some, None, List, ◌⊎◌, inl, inr, refl, sym, ap, ◌∙◌, arith}
use Rattle.std.proofs.lemmas.Option.{same_Some}
use Rattle.std.specs.Prelude.{⊤}
use Rattle.sctp_packet.specs.Chunk.{ChunkTree, InitTree, init_chunk, init_ack_chunk, cookie_echo_chunk, cookie_ack_chunk}
use Rattle.sctp_packet.specs.Grammar.{carried}
use Rattle.sctp_state.specs.Options.{Options}
use Rattle.sctp_capabilities.specs.Capabilities.{Capabilities, announced_parameters, agreed}
use Rattle.sctp_capabilities.specs.StateCookie.{Cookie, cookie_bytes}
use Rattle.spec_endpoint.specs.Association.{Tcb, Phase, CookieEchoed, Established, ShutdownPending, ShutdownSent, ShutdownReceived, ShutdownAckSent, State, Closed, CookieWait, Open}
use Rattle.spec_endpoint.specs.Sending.{is_before_cookie_ack}
use Rattle.spec_endpoint.specs.Opening.{tsn_from, tag_from, init_of, init_ack_of, cookie_for}
use Rattle.proof_protocol.proofs.ToolsLemmas.{not_both}

-- ---- draws

pub record Draw : Type 0 where
  pub tag : ℕ
  pub first : ℕ

pub record Both : Type 0 where
  pub mine : Draw
  pub peer : Draw

pub record IsDraw (d : Draw) : Type 0 where
  pub some : d.tag ≢ 0
  pub tag : d.tag < 2 ^ 32
  pub first : d.first < 2 ^ 32

pub drawn_is : (v w : ℕ) → IsDraw (record { tag = tag_from w; first = tsn_from v })
drawn_is v w = record { some = λ e. omega (arith, e); tag = omega arith; first = omega arith }

-- ---- what is seen of a state

pub record View : Type 0 where
  pub mine : Option Draw
  pub holds : Option Both
  pub is_opened : Bool
  pub is_late : Bool  -- the COOKIE ECHO was answered
  pub kept : Option (List ℕ)  -- the cookie
  pub can : Option Capabilities

abbrev pub kept_in : Phase → Option (List ℕ)
kept_in (CookieEchoed t1 cookie) = Some cookie
kept_in Established = None
kept_in ShutdownPending = None
kept_in (ShutdownSent t2) = None
kept_in ShutdownReceived = None
kept_in (ShutdownAckSent t2) = None

abbrev pub own_draw : Tcb → Draw
own_draw t = record { tag = t.identity.my_tag; first = t.identity.my_first }

abbrev pub peer_draw : Tcb → Draw
peer_draw t = record { tag = t.identity.peer_tag; first = t.identity.peer_first }

abbrev pub both_of : Tcb → Both
both_of t = record { mine = own_draw t; peer = peer_draw t }

abbrev pub view_of : State → View
view_of Closed = record { mine = None; holds = None; is_opened = false; is_late = false; kept = None; can = None }
view_of (CookieWait tag first t1) = record {
  mine = Some (record { tag = tag; first = first });
  holds = None;
  is_opened = false;
  is_late = false;
  kept = None;
  can = None;
}
view_of (Open phase t) = record {
  mine = Some (own_draw t);
  holds = Some (both_of t);
  is_opened = true;
  is_late = not (is_before_cookie_ack phase);
  kept = kept_in phase;
  can = Some t.capabilities;
}

abbrev pub late_view : Tcb → View
late_view t = record {
  mine = Some (own_draw t);
  holds = Some (both_of t);
  is_opened = true;
  is_late = true;
  kept = None;
  can = Some t.capabilities;
}

pub late_phase : (phase : Phase) (t : Tcb) → is_before_cookie_ack phase ≡ false → view_of (Open phase t) ≡ late_view t
late_phase (CookieEchoed t1 cookie) t e = cc
late_phase Established t e = refl
late_phase ShutdownPending t e = refl
late_phase (ShutdownSent t2) t e = refl
late_phase ShutdownReceived t e = refl
late_phase (ShutdownAckSent t2) t e = refl

-- ---- what was said

abbrev pub init_by : Options → Draw → InitTree
init_by o d = init_of o d.tag d.first (announced_parameters o o.zero_checksum_method)

-- the cookie that the end with the second draw makes for an INIT with the first one
abbrev pub cookie_by : Options → (mine peer : Draw) → Cookie
cookie_by o d e = cookie_for (init_by o d) e.tag e.first 0

pub record IsInit (o : Options) (v : View) (tag : ℕ) (i : InitTree) : Type 0 where
  pub draw : Draw
  pub own : v.mine ≡ Some draw
  pub is : i ≡ init_by o draw
  pub under : tag ≡ 0

pub record IsPlain (v : View) (d : Draw) (tie : ℕ) : Type 0 where
  pub tie_is : tie ≡ 0
  pub draw : IsDraw d
  pub own : (v.mine ≡ None) ⊎ (v.mine ≡ Some d)

-- an answer to an INIT of the other end; with the own draw, unless the other end has a control block by now
pub record IsInitAck (o q : Options) (v u : View) (asked : Bool) (i : InitTree) : Type 0 where
  pub draw : Draw
  pub other : Draw
  pub tie : ℕ
  pub to : u.mine ≡ Some other
  pub is : i ≡ init_ack_of o (init_by q other) draw.tag draw.first tie
  pub was : asked ≡ true
  pub how : (u.is_opened ≡ true) ⊎ IsPlain v draw tie

-- the cookie of the association that is held
pub record IsEcho (o : Options) (v : View) (tag : ℕ) (c : List ℕ) : Type 0 where
  pub both : Both
  pub holds : v.holds ≡ Some both
  pub is : c ≡ cookie_bytes (cookie_by o both.mine both.peer)
  pub under : tag ≡ both.peer.tag
  pub mine : IsDraw both.mine
  pub peer : IsDraw both.peer
  pub opened : v.is_opened ≡ true

-- an end with these options and this view, beside the other end, may have said this chunk under this tag
abbrev pub Says : (o q : Options) (v u : View) (asked : Bool) (tag : ℕ) → ChunkTree → Type 0
Says o q v u asked tag (init_chunk i) = IsInit o v tag i
Says o q v u asked tag (init_ack_chunk i) = IsInitAck o q v u asked i
Says o q v u asked tag (cookie_echo_chunk c) = IsEcho o v tag c
Says o q v u asked tag cookie_ack_chunk = v.is_opened ≡ true
Says o q v u asked tag chunk = ⊤

pub says_carried : (o q : Options) (v u : View) (asked : Bool) (tag : ℕ) (c : ChunkTree) → Says o q v u asked tag c → Says o q v u asked tag (carried c)
says_carried o q v u asked tag (init_chunk i) h = h
says_carried o q v u asked tag c h = h

-- ---- as the end goes on

pub record Leads (u v w : View) (asked : Bool) : Type 0 where
  pub mine : (d : Draw) → v.mine ≡ Some d → w.mine ≡ Some d
  pub holds : (b : Both) → v.holds ≡ Some b → w.holds ≡ Some b
  pub opened : v.is_opened ≡ true → w.is_opened ≡ true
  pub none : v.mine ≡ None → (w.mine ≡ None) ⊎ ((u.is_opened ≡ true) ⊎ (asked ≡ false))

module _ (o q : Options) (u v w : View) (asked : Bool) (l : Leads u v w asked) where
  plain_none : (d : Draw) (tie : ℕ) → IsPlain v d tie → asked ≡ true → ((w.mine ≡ None) ⊎ ((u.is_opened ≡ true) ⊎ (asked ≡ false)))
      → (u.is_opened ≡ true) ⊎ IsPlain w d tie
  plain_none d tie p was (inl none) = inr (record { tie_is = p.tie_is; draw = p.draw; own = inl none })
  plain_none d tie p was (inr (inl opened)) = inl opened
  plain_none d tie p was (inr (inr not_asked)) = absurd (not_both was not_asked)

  plain_leads : (d : Draw) (tie : ℕ) → IsPlain v d tie → asked ≡ true → ((v.mine ≡ None) ⊎ (v.mine ≡ Some d)) → (u.is_opened ≡ true) ⊎ IsPlain w d tie
  plain_leads d tie p was (inl none) = plain_none d tie p was (l.none none)
  plain_leads d tie p was (inr some) = inr (record { tie_is = p.tie_is; draw = p.draw; own = inr (l.mine d some) })

  how_leads : (d : Draw) (tie : ℕ) → asked ≡ true → ((u.is_opened ≡ true) ⊎ IsPlain v d tie) → (u.is_opened ≡ true) ⊎ IsPlain w d tie
  how_leads d tie was (inl opened) = inl opened
  how_leads d tie was (inr p) = plain_leads d tie p was p.own

  pub says_leads : (tag : ℕ) (c : ChunkTree) → Says o q v u asked tag c → Says o q w u asked tag c
  says_leads tag (init_chunk i) h = record { draw = h.draw; own = l.mine h.draw h.own; is = h.is; under = h.under }
  says_leads tag (init_ack_chunk i) h = record {
    draw = h.draw;
    other = h.other;
    tie = h.tie;
    to = h.to;
    is = h.is;
    was = h.was;
    how = how_leads h.draw h.tie h.was h.how;
  }
  says_leads tag (cookie_echo_chunk c) h = record {
    both = h.both;
    holds = l.holds h.both h.holds;
    is = h.is;
    under = h.under;
    mine = h.mine;
    peer = h.peer;
    opened = l.opened h.opened;
  }
  says_leads tag cookie_ack_chunk h = l.opened h
  says_leads tag c h = h

  -- what the other end said
  how_received : (d : Draw) (tie : ℕ) → ((v.is_opened ≡ true) ⊎ IsPlain u d tie) → (w.is_opened ≡ true) ⊎ IsPlain u d tie
  how_received d tie (inl opened) = inl (l.opened opened)
  how_received d tie (inr p) = inr p

  pub received_leads : (asked_other : Bool) (tag : ℕ) (c : ChunkTree) → Says q o u v asked_other tag c → Says q o u w asked_other tag c
  received_leads asked_other tag (init_ack_chunk i) h = record {
    draw = h.draw;
    other = h.other;
    tie = h.tie;
    to = l.mine h.other h.to;
    is = h.is;
    was = h.was;
    how = how_received h.draw h.tie h.how;
  }
  received_leads asked_other tag c h = h

-- ---- what holds of a state beside the other

-- the peer that is held is the other end, once this has a draw of its own
abbrev pub Faces : Option Both → Option Draw → Type 0
Faces None d = ⊤
Faces (Some b) None = ⊤
Faces (Some b) (Some d) = d ≡ b.peer

abbrev pub Drawn : Option Draw → Type 0
Drawn None = ⊤
Drawn (Some d) = IsDraw d

-- the cookie that is kept was made for the own INIT
pub record IsKept (o : Options) (c : List ℕ) (b : Both) : Type 0 where
  pub is : c ≡ cookie_bytes (cookie_by o b.mine b.peer)
  pub peer : IsDraw b.peer

abbrev pub Kept : Options → Option (List ℕ) → Option Both → Type 0
Kept o None b = ⊤
Kept o (Some c) None = ⊤
Kept o (Some c) (Some b) = IsKept o c b

abbrev pub Can : Capabilities → Option Capabilities → Type 0
Can k None = ⊤
Can k (Some can) = can ≡ k

pub record Stands (o q : Options) (v u : View) (asked asked_other : Bool) : Type 0 where
  pub faces : Faces v.holds u.mine
  pub faced : Faces u.holds v.mine
  pub late : v.is_late ≡ true → u.is_opened ≡ true
  pub other_late : u.is_late ≡ true → v.is_opened ≡ true
  pub draw : Drawn v.mine
  pub kept : Kept o v.kept v.holds
  pub can : Can (agreed o q) v.can
  pub was : u.is_opened ≡ true → v.is_opened ≡ false → asked ≡ true
  pub other_was : v.is_opened ≡ true → u.is_opened ≡ false → asked_other ≡ true

-- ---- reading it

pub faces_plain : (x : Option Draw) (b : Both) (d : Draw) → ((x ≡ None) ⊎ (x ≡ Some d)) → b.peer ≡ d → Faces (Some b) x
faces_plain None b d h e = tt
faces_plain (Some f) b d (inl none) e = cc
faces_plain (Some f) b d (inr some) e = same_Some f d some ∙ sym e

pub faced_by : (x : Option Both) (b : Both) (d : Draw) → x ≡ Some b → d ≡ b.peer → Faces x (Some d)
faced_by None b d h e = cc
faced_by (Some c) b d h e = e ∙ ap (λ (z : Both). z.peer) (sym (same_Some c b h))

pub faced_at : (x : Option Both) (b : Both) (d : Draw) → x ≡ Some b → Faces x (Some d) → d ≡ b.peer
faced_at None b d h e = cc
faced_at (Some c) b d h e = e ∙ ap (λ (z : Both). z.peer) (same_Some c b h)

pub faces_at : (x : Option Draw) (b : Both) (d : Draw) → x ≡ Some d → Faces (Some b) x → d ≡ b.peer
faces_at None b d h e = cc
faces_at (Some f) b d h e = sym (same_Some f d h) ∙ e

pub holds_mine : (s : State) (b : Both) → (view_of s).holds ≡ Some b → (view_of s).mine ≡ Some b.mine
holds_mine Closed b e = cc
holds_mine (CookieWait tag first t1) b e = cc
holds_mine (Open phase t) b e = ap (λ (z : Both). Some z.mine) (same_Some (both_of t) b e)

pub faced_none : (s : State) (d : Draw) → ((view_of s).is_opened ≡ true → ⊥) → Faces (view_of s).holds (Some d)
faced_none Closed d h = tt
faced_none (CookieWait tag first t1) d h = tt
faced_none (Open phase t) d h = absurd (h refl)
