-- Each run is a trace, and follows the trace's rules where the log follows its own.
use Rattle.std.proofs.Common.{◌≡◌, ◌⊎◌, inl, inr, ℕ, ◌≤◌, Bool, true, false, List, [], ◌∷◌, ◌++◌, length, refl, sym, ap, subst, ◌∙◌, append-nil, append_assoc}
use Rattle.std.specs.Prelude.{All}
use Rattle.std.specs.List.{flat_map, list_any}
use Rattle.std.proofs.lemmas.List.Elements.{All-nil, All-head, All-tail}
use Rattle.std.proofs.lemmas.Bool.{false_from_ne_true}
use Rattle.rand_core.specs.Stream.{Stream}
use Rattle.sctp_state.specs.Options.{Options}
use Rattle.spec_endpoint.specs.Association.{Endpoint}
use Rattle.proof_endpoint.specs.Mapped.{as_bytes, as_carried}
use Rattle.proof_endpoint.specs.Sound.{OptionsFit}
use Rattle.proof_endpoint.proofs.SoundLawsLemmas.{is_new}
use Rattle.proof_pair.specs.Trace as traces
use Rattle.proof_pair.specs.Trace.{Pair, EndAction, has_connected, MayCall, MayAct, goes, run, start, new_side}
use Rattle.spec_world.specs.Observations.{End, A, B, Entry, Answer, Called, Call, Connect, Shutdown, Close, Send, SendMany, TakeMessage, Reset, SetPriority, SetMaxMessageSize, SetLowThreshold, HandOver, connected_by, times_connected}
use Rattle.spec_world.specs.World.{Side, World, Action, CallOf, Give, GiveForeign, AdvanceTime, MeetsForeignAt, given, withheld, Happens, Runs, take_emitted, side_of, news_of, call_socket, call_entry, after_call, after_time, clock, answer_to, table_call, fresh_side, fresh_world}
use Rattle.proof_world.specs.Reachable.{ActionFits, IsInBytes}
use Rattle.proof_world.specs.Traces.{is_a, end_of, give_action, IsGiveAction, IsForeign, IsActionOf, AreActionsOf, WorldsHaveTraces}
use Rattle.proof_world.specs.Consistent.{gets_init, NoEndingIsLogged, MayFollow, WorldKeepsRules}
use Rattle.proof_world.proofs.EventLemmas.{Readable, connected_emitted}
use Rattle.proof_world.proofs.NewsLemmas.{connected_by_emitted}
use Rattle.proof_world.proofs.SidesLemmas.{Good, any_more}
use Rattle.proof_world.proofs.StandingLemmas.{stands_front}
use Rattle.proof_world.proofs.WorldLemmas.{Both, Extends, extends_same, extends_then, in_bytes_before, Stepped, steps}
use Rattle.proof_protocol.proofs.ToolsLemmas.{not_both}

-- ---- worlds grow

grows_a : (w u : World) (more : List Entry) (s : Endpoint (List ℕ)) → u.log ≡ w.log ++ more → u.a ≡ take_emitted w.a s → u.b ≡ w.b → Extends w u
grows_a w u more s logged is same = record {
  more = more;
  logged = logged;
  sent_a = _;
  sent_b = [];
  a = ap (λ (z : Side). z.packets) is;
  b = ap (λ (z : Side). z.packets) same ∙ sym (append-nil w.b.packets);
}

grows_b : (w u : World) (more : List Entry) (s : Endpoint (List ℕ)) → u.log ≡ w.log ++ more → u.b ≡ take_emitted w.b s → u.a ≡ w.a → Extends w u
grows_b w u more s logged is same = record {
  more = more;
  logged = logged;
  sent_a = [];
  sent_b = _;
  a = ap (λ (z : Side). z.packets) same ∙ sym (append-nil w.a.packets);
  b = ap (λ (z : Side). z.packets) is;
}

grows_log : (w u : World) (more : List Entry) → u.log ≡ w.log ++ more → u.a ≡ w.a → u.b ≡ w.b → Extends w u
grows_log w u more logged a b = record {
  more = more;
  logged = logged;
  sent_a = [];
  sent_b = [];
  a = ap (λ (z : Side). z.packets) a ∙ sym (append-nil w.a.packets);
  b = ap (λ (z : Side). z.packets) b ∙ sym (append-nil w.b.packets);
}

comes_a : (bytes : List ℕ) (w u : World) → MeetsForeignAt A bytes w.a u.a w.log u.log → u.b ≡ w.b → Extends w u
comes_a bytes w u (given t judged) same = grows_a w u _ t.after t.logged t.side same
comes_a bytes w u (withheld judged stays logged) same = grows_log w u _ logged stays same

comes_b : (bytes : List ℕ) (w u : World) → MeetsForeignAt B bytes w.b u.b w.log u.log → u.a ≡ w.a → Extends w u
comes_b bytes w u (given t judged) same = grows_b w u _ t.after t.logged t.side same
comes_b bytes w u (withheld judged stays logged) same = grows_log w u _ logged same stays

pub happens_extends : (action : Action) (w u : World) → Happens action w u → Extends w u
happens_extends (CallOf A call) w u e = grows_a w u _ (after_call call w.a.socket) (ap (λ (z : World). z.log) e) (ap (λ (z : World). z.a) e) (ap (λ (z : World). z.b) e)
happens_extends (CallOf B call) w u e = grows_b w u _ (after_call call w.b.socket) (ap (λ (z : World). z.log) e) (ap (λ (z : World). z.b) e) (ap (λ (z : World). z.a) e)
happens_extends (Give n A) w u g = grows_a w u _ g.takes_bytes.after g.takes_bytes.logged g.takes_bytes.side g.other_side
happens_extends (Give n B) w u g = grows_b w u _ g.takes_bytes.after g.takes_bytes.logged g.takes_bytes.side g.other_side
happens_extends (GiveForeign A bytes) w u g = comes_a bytes w u g.comes g.other_side
happens_extends (GiveForeign B bytes) w u g = comes_b bytes w u g.comes g.other_side
happens_extends (AdvanceTime A now) w u e = grows_a w u _ (after_time now w.a.socket) (ap (λ (z : World). z.log) e) (ap (λ (z : World). z.a) e) (ap (λ (z : World). z.b) e)
happens_extends (AdvanceTime B now) w u e = grows_b w u _ (after_time now w.b.socket) (ap (λ (z : World). z.log) e) (ap (λ (z : World). z.b) e) (ap (λ (z : World). z.a) e)

pub runs_extends : (actions : List Action) (w v : World) → Runs actions w v → Extends w v
runs_extends [] w v e = subst (Extends w) (sym e) (extends_same w)
runs_extends (action ∷ actions) w v r = extends_then w r.0 v (happens_extends action w r.0 r.1) (runs_extends actions r.0 v r.2)

-- ---- the rules

module _ (word_of : List ℕ → ℕ) (x : End) (log : List Entry) (others : List (List ℕ)) (side : Side) (end : traces.Side) (g : Good word_of x log others side end) where
  connected_of : 1 ≤ times_connected x log → has_connected end.emitted ≡ true
  connected_of h =
      connected_emitted (as_bytes word_of) x 0 end.emitted
      (subst (λ (l : List Entry). 1 ≤ length (flat_map (connected_by x) l)) g.image.emitted (subst (λ (l : List End). 1 ≤ length l) (connected_by_emitted x log) h))

  not_asked : (new : List (List ℕ)) → list_any (gets_init x (others ++ new)) log ≡ false → end.got_init ≡ false
  not_asked new none = false_from_ne_true end.got_init (λ e. not_both (any_more x others new log (g.asked e)) none)

  may_connect : (all new : List (List ℕ)) → all ≡ others ++ new → (1 ≤ times_connected x log) ⊎ (list_any (gets_init x all) log ≡ false)
      → (has_connected end.emitted ≡ true) ⊎ (end.got_init ≡ false)
  may_connect all new is (inl h) = inl (connected_of h)
  may_connect all new is (inr none) = inr (not_asked new (ap (λ (ps : List (List ℕ)). list_any (gets_init x ps) log) (sym is) ∙ none))

module _ (word_of_a word_of_b : List ℕ → ℕ) where
  may_call : (x : End) (call : Call) (clock : ℕ) (answer : Answer) (w v : World) (c : Pair) → Both word_of_a word_of_b w c → Extends w v → MayFollow v w.log (Called x clock call answer)
      → MayCall (table_call call) (traces.side_of (is_a x) c)
  may_call A Connect clock answer w v c h e may = may_connect word_of_a A w.log w.b.packets w.a c.a h.a v.b.packets e.sent_b e.b may
  may_call B Connect clock answer w v c h e may = may_connect word_of_b B w.log w.a.packets w.b c.b h.b v.a.packets e.sent_a e.a may
  may_call A Shutdown clock answer w v c h e may = connected_of word_of_a A w.log w.b.packets w.a c.a h.a may
  may_call B Shutdown clock answer w v c h e may = connected_of word_of_b B w.log w.a.packets w.b c.b h.b may
  may_call x Close clock answer w v c h e may = tt
  may_call x (Send m o) clock answer w v c h e may = tt
  may_call x (SendMany ms o) clock answer w v c h e may = tt
  may_call x TakeMessage clock answer w v c h e may = tt
  may_call x (Reset streams) clock answer w v c h e may = tt
  may_call x (SetPriority stream priority) clock answer w v c h e may = tt
  may_call x (SetMaxMessageSize bytes) clock answer w v c h e may = tt
  may_call x (SetLowThreshold stream bytes) clock answer w v c h e may = tt
  may_call x HandOver clock answer w v c h e may = tt

  logged_then : (before rest more log longer : List Entry) (entry : Entry) → log ≡ before ++ entry ∷ rest → longer ≡ log ++ more → longer ≡ before ++ entry ∷ (rest ++ more)
  logged_then before rest more log longer entry e f = f ∙ ap (λ (l : List Entry). l ++ more) e ∙ append_assoc before (entry ∷ rest) more

  may_follow : (x : End) (call : Call) (w u v : World) → u ≡ call_socket x call w → Extends u v → WorldKeepsRules v → NoEndingIsLogged w.log
      → MayFollow v w.log (call_entry x call (side_of x w).socket)
  may_follow A call w u v e f rules stands =
      rules w.log (call_entry A call w.a.socket) _ (logged_then w.log (news_of A w.a (after_call call w.a.socket)) f.more u.log v.log (call_entry A call w.a.socket)
      (ap (λ (z : World). z.log) e) f.logged) stands
  may_follow B call w u v e f rules stands =
      rules w.log (call_entry B call w.b.socket) _ (logged_then w.log (news_of B w.b (after_call call w.b.socket)) f.more u.log v.log (call_entry B call w.b.socket)
      (ap (λ (z : World). z.log) e) f.logged) stands

  may_receiving : (b : Bool) (n checksum : ℕ) (end : traces.Side) → MayAct (give_action b n checksum) end
  may_receiving true n checksum end = tt
  may_receiving false n checksum end = tt

  may_give : (f g : List ℕ → ℕ) (turn : EndAction) (n : ℕ) (own beside end : traces.Side) → IsGiveAction f g n own beside turn → MayAct turn end
  may_give f g turn n own beside end h = subst (λ (t : EndAction). MayAct t end) (sym h.received) (may_receiving _ n _ end)

  may_refuse : (turn : EndAction) (bytes : List ℕ) (end : traces.Side) → IsForeign bytes turn → MayAct turn end
  may_refuse turn bytes end (inl x) = subst (λ (t : EndAction). MayAct t end) (sym x.2) tt
  may_refuse turn bytes end (inr e) = subst (λ (t : EndAction). MayAct t end) (sym e) tt

  pub may_action : (action : Action) (w u v : World) (c : Pair) (turn : EndAction) → Happens action w u → Extends w u → Extends u v → Both word_of_a word_of_b w c → IsActionOf word_of_a word_of_b action turn c → WorldKeepsRules v → NoEndingIsLogged w.log
      → MayAct turn (traces.side_of (is_a (end_of action)) c)
  may_action (CallOf x call) w u v c turn happens e f h is rules stands =
      subst (λ (t : EndAction). MayAct t (traces.side_of (is_a x) c)) (sym is)
      (may_call x call (clock (side_of x w).socket) (answer_to call (side_of x w).socket) w v c h (extends_then w u v e f) (may_follow x call w u v happens f rules stands))
  may_action (Give n A) w u v c turn happens e f h is rules stands = may_give word_of_a word_of_b turn n c.a c.b c.a is
  may_action (Give n B) w u v c turn happens e f h is rules stands = may_give word_of_b word_of_a turn n c.b c.a c.b is
  may_action (GiveForeign x bytes) w u v c turn happens e f h is rules stands = may_refuse turn bytes (traces.side_of (is_a x) c) is
  may_action (AdvanceTime x now) w u v c turn happens e f h is rules stands = subst (λ (t : EndAction). MayAct t (traces.side_of (is_a x) c)) (sym is) tt

  -- ---- runs

  pub record Ran (actions : List Action) (w v : World) (c : Pair) : Type 0 where
    pub trace : List (Bool × EndAction)
    pub are : AreActionsOf word_of_a word_of_b actions trace c
    pub both : Both word_of_a word_of_b v (run trace c)
    pub follows : WorldKeepsRules v → NoEndingIsLogged v.log → traces.KeepsRules trace c

  unfoldable pub ran : (actions : List Action) (w v : World) (c : Pair) → All ActionFits actions → Runs actions w v → IsInBytes v → Both word_of_a word_of_b w c → Ran actions w v c
  ran [] w v c fit e small h = record {
    trace = [];
    are = tt;
    both = subst (λ (z : World). Both word_of_a word_of_b z c) (sym e) h;
    follows = λ rules stands. tt;
  }
  ran (action ∷ actions) w v c fit r small h =
      let u : World = r.0 in
      let later : Extends u v = runs_extends actions u v r.2 in
      let first : Extends w u = happens_extends action w u r.1 in
      let step : Stepped word_of_a word_of_b action w u c =
      steps word_of_a word_of_b action w u c (All-head ActionFits action actions fit) (in_bytes_before w v (extends_then w u v first later) small) r.1 h in
      let rest : Ran actions u v (goes (is_a (end_of action)) step.turn c) =
      ran actions u v (goes (is_a (end_of action)) step.turn c) (All-tail ActionFits action actions fit) r.2 small step.both in
      record {
        trace = (is_a (end_of action), step.turn) ∷ rest.trace;
        are = (refl, step.is, rest.are);
        both = rest.both;
        follows = λ rules stands.
            (may_action action w u v c step.turn r.1 first later h step.is rules (stands_front w.log (extends_then w u v first later).more v.log (extends_then w u v first later).logged stands), rest.follows rules stands);
      }

-- ---- new worlds

fresh_good : (word_of : List ℕ → ℕ) (x : End) (o : Options) (draws : Stream) → OptionsFit o → Good word_of x [] [] (fresh_side o draws word_of) (new_side o draws)
fresh_good word_of x o draws fits = record {
  image = record { socket = refl; quiet = refl; packets = refl; emitted = refl };
  sound = is_new o as_carried draws fits;
  packing = refl;
  readable = All-nil Readable;
  held = refl;
  asked = λ e. cc;
}

pub fresh_both : (a b : Options) (draws_a draws_b : Stream) (word_of_a word_of_b : List ℕ → ℕ) → OptionsFit a → OptionsFit b
    → Both word_of_a word_of_b (fresh_world a b draws_a draws_b word_of_a word_of_b) (start a b draws_a draws_b)
fresh_both a b draws_a draws_b word_of_a word_of_b fits_a fits_b = record {
  a = fresh_good word_of_a A a draws_a fits_a;
  b = fresh_good word_of_b B b draws_b fits_b;
}

pub have_traces : WorldsHaveTraces
have_traces a b draws_a draws_b word_of_a word_of_b actions w fits_a fits_b fit runs small =
    let r : Ran word_of_a word_of_b actions (fresh_world a b draws_a draws_b word_of_a word_of_b) w (start a b draws_a draws_b) =
    ran word_of_a word_of_b actions (fresh_world a b draws_a draws_b word_of_a word_of_b) w (start a b draws_a draws_b) fit runs small
    (fresh_both a b draws_a draws_b word_of_a word_of_b fits_a fits_b) in
    record { trace = r.trace; are = r.are; images = record { a = r.both.a.image; b = r.both.b.image } }
