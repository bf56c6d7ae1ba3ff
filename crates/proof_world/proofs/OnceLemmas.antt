-- What happens has one outcome: bytes have one reading.
use Rattle.std.proofs.Common.{◌≡◌, ℕ, Bool, true, false, Option, Some, None, List, [], ◌∷◌, ◌++◌, refl, sym, ap, subst, ◌∙◌}
use Rattle.sctp_packet.specs.Packet.{PacketTree}
use Rattle.sctp_packet.proofs.LawLemmas.{one_packet_lem, never_both_lem}
use Rattle.sctp_state.specs.Options.{Options}
use Rattle.spec_endpoint.specs.Association.{State, Endpoint}
use Rattle.spec_endpoint.specs.Input.{packet_refusal, on_packet}
use Rattle.spec_endpoint.specs.Receiving.{policy_of, Receives, read, not_read, Judges, taken, refused, unread}
use Rattle.spec_endpoint.specs.Wire.{word_at}
use Rattle.spec_world.specs.Observations.{End, A, B, Entry}
use Rattle.spec_world.specs.World.{Side, World, Action, CallOf, Give, GiveForeign, AdvanceTime, TakesBytes, MeetsForeignAt, given, withheld, Happens, Runs, IsDisabled, RunsUpToDisabled, take_emitted, news_of}

receives_once : (word_of : List ℕ → ℕ) (bytes : List ℕ) (s t u : Endpoint (List ℕ)) → Receives word_of bytes s t → Receives word_of bytes s u → t ≡ u
receives_once word_of bytes s t u (read p accepts is) (read q accepts_too is_too) =
    is ∙ (ap (λ (r : PacketTree). on_packet r s) (one_packet_lem bytes p q accepts.packet accepts_too.packet) ∙ sym is_too)
receives_once word_of bytes s t u (read p accepts is) (not_read fault is_fault refuses is_too) =
    absurd (never_both_lem (policy_of s.endpoint_state.context.options) (word_at word_of bytes) bytes fault p is_fault refuses accepts)
receives_once word_of bytes s t u (not_read fault is_fault refuses is) (read q accepts is_too) =
    absurd (never_both_lem (policy_of s.endpoint_state.context.options) (word_at word_of bytes) bytes fault q is_fault refuses accepts)
receives_once word_of bytes s t u (not_read fault is_fault refuses is) (not_read fault_too is_fault_too refuses_too is_too) = is ∙ sym is_too

-- an end doesn't both refuse and take
never_judged : (word_of : List ℕ → ℕ) (bytes : List ℕ) (o : Options) (s : State) (is_refused is_taken : Bool) → is_refused ≡ true → is_taken ≡ false
    → Judges word_of bytes o s is_refused → Judges word_of bytes o s is_taken → ⊥
never_judged word_of bytes o s is_refused is_taken e f (taken p accepts none is) j = cc
never_judged word_of bytes o s is_refused is_taken e f (refused p text accepts some is) (refused q text_too accepts_too some_too is_too) = cc
never_judged word_of bytes o s is_refused is_taken e f (refused p text accepts some is) (unread fault is_fault refuses is_too) = cc
never_judged word_of bytes o s is_refused is_taken e f (unread fault is_fault refuses is) (refused q text accepts some is_too) = cc
never_judged word_of bytes o s is_refused is_taken e f (unread fault is_fault refuses is) (unread fault_too is_fault_too refuses_too is_too) = cc
never_judged word_of bytes o s is_refused is_taken e f (refused p text accepts some is) (taken q accepts_too none is_too) =
    two_answers (sym some ∙ (ap (λ (r : PacketTree). packet_refusal r.header.verification_tag r.chunks s) (one_packet_lem bytes p q accepts.packet accepts_too.packet) ∙ none))
  where
    two_answers : ◌≡◌ {A = Option (List ℕ)} (Some text) None → ⊥
    two_answers g = cc
never_judged word_of bytes o s is_refused is_taken e f (unread fault is_fault refuses is) (taken q accepts none is_too) =
    never_both_lem (policy_of o) (word_at word_of bytes) bytes fault q is_fault refuses accepts

-- ---- a side

module _ (x : End) (first : Entry) (bytes : List ℕ) (old : Side) (log : List Entry) where
  after_once : (u v : Side) (more longer : List Entry) (t : TakesBytes x first bytes old u log more) (k : TakesBytes x first bytes old v log longer) → t.after ≡ k.after
  after_once u v more longer t k = receives_once old.socket.endpoint_state.context.pack.word_of bytes old.socket t.after k.after t.takes k.takes

  side_once : (u v : Side) (more longer : List Entry) → TakesBytes x first bytes old u log more → TakesBytes x first bytes old v log longer → u ≡ v
  side_once u v more longer t k = t.side ∙ (ap (take_emitted old) (after_once u v more longer t k) ∙ sym k.side)

  log_once : (u v : Side) (more longer : List Entry) → TakesBytes x first bytes old u log more → TakesBytes x first bytes old v log longer → more ≡ longer
  log_once u v more longer t k = t.logged ∙ (ap (λ (s : Endpoint (List ℕ)). log ++ first ∷ news_of x old s) (after_once u v more longer t k) ∙ sym k.logged)

module _ (x : End) (bytes : List ℕ) (old : Side) (log : List Entry) where
  comes_once : (u v : Side) (more longer : List Entry) → MeetsForeignAt x bytes old u log more → MeetsForeignAt x bytes old v log longer → (u ≡ v) × (more ≡ longer)
  comes_once u v more longer (given t j) (given k i) = (side_once x _ bytes old log u v more longer t k, log_once x _ bytes old log u v more longer t k)
  comes_once u v more longer (given t j) (withheld i same is) = absurd (never_judged _ bytes _ _ true false refl refl j i)
  comes_once u v more longer (withheld j same is) (given k i) = absurd (never_judged _ bytes _ _ true false refl refl i j)
  comes_once u v more longer (withheld j same is) (withheld i same_too is_too) = (same ∙ sym same_too, is ∙ sym is_too)

-- ---- a world

same_world : (u v : World) → u.a ≡ v.a → u.b ≡ v.b → u.log ≡ v.log → u ≡ v
same_world u v a b log =
    ap (λ (s : Side). record { a = s; b = u.b; log = u.log }) a
    ∙ (ap (λ (s : Side). record { a = v.a; b = s; log = u.log }) b ∙ ap (λ (l : List Entry). record { a = v.a; b = v.b; log = l }) log)

bytes_once : (o : Option (List ℕ)) (b c : List ℕ) → o ≡ Some b → o ≡ Some c → b ≡ c
bytes_once o b c e f = ap (λ (z : Option (List ℕ)). elim z [ None ↦ b | Some y ↦ y ]) (sym e ∙ f)

taken_as : (x : End) (first : Entry) (b c : List ℕ) (old new : Side) (log longer : List Entry) → b ≡ c → TakesBytes x first b old new log longer → TakesBytes x first c old new log longer
taken_as x first b c old new log longer e t = subst (λ (z : List ℕ). TakesBytes x first z old new log longer) e t

pub happens_once : (action : Action) (w u v : World) → Happens action w u → Happens action w v → u ≡ v
happens_once (CallOf x call) w u v e f = e ∙ sym f
happens_once (Give packet A) w u v g h =
    let t = taken_as A _ g.bytes h.bytes w.a u.a w.log u.log (bytes_once _ g.bytes h.bytes g.there h.there) g.takes_bytes in
    same_world u v (side_once A _ h.bytes w.a w.log u.a v.a u.log v.log t h.takes_bytes) (g.other_side ∙ sym h.other_side) (log_once A _ h.bytes w.a w.log u.a v.a u.log v.log t h.takes_bytes)
happens_once (Give packet B) w u v g h =
    let t = taken_as B _ g.bytes h.bytes w.b u.b w.log u.log (bytes_once _ g.bytes h.bytes g.there h.there) g.takes_bytes in
    same_world u v (g.other_side ∙ sym h.other_side) (side_once B _ h.bytes w.b w.log u.b v.b u.log v.log t h.takes_bytes) (log_once B _ h.bytes w.b w.log u.b v.b u.log v.log t h.takes_bytes)
happens_once (GiveForeign A bytes) w u v g h =
    let c = comes_once A bytes w.a w.log u.a v.a u.log v.log g.comes h.comes in
    same_world u v c.0 (g.other_side ∙ sym h.other_side) c.1
happens_once (GiveForeign B bytes) w u v g h =
    let c = comes_once B bytes w.b w.log u.b v.b u.log v.log g.comes h.comes in
    same_world u v (g.other_side ∙ sym h.other_side) c.0 c.1
happens_once (AdvanceTime x now) w u v e f = e ∙ sym f

pub runs_once : (actions : List Action) (w u v : World) → Runs actions w u → Runs actions w v → u ≡ v
runs_once [] w u v r s = r ∙ sym s
runs_once (action ∷ actions) w u v r s =
    runs_once actions r.0 u v r.2 (subst (λ (z : World). Runs actions z v) (happens_once action w s.0 r.0 s.1 r.1) s.2)

-- ---- an event whose packet isn't there doesn't happen

lacks_none : (action : Action) (w u : World) → Happens action w u → IsDisabled action w → ⊥
lacks_none (CallOf x call) w u e lacks = lacks
lacks_none (Give packet x) w u g lacks = two (sym g.there ∙ lacks)
  where
    two : ◌≡◌ {A = Option (List ℕ)} (Some g.bytes) None → ⊥
    two e = cc
lacks_none (GiveForeign x bytes) w u g lacks = lacks
lacks_none (AdvanceTime x now) w u e lacks = lacks

never_past : (before : List Action) (action : Action) (rest : List Action) (w v x : World) → Runs before w v → IsDisabled action v → Runs (before ++ action ∷ rest) w x → ⊥
never_past [] action rest w v x e lacks r = lacks_none action w r.0 r.1 (subst (IsDisabled action) e lacks)
never_past (b ∷ before) action rest w v x r lacks s =
    never_past before action rest r.0 v x r.2 lacks (subst (λ (z : World). Runs (before ++ action ∷ rest) z x) (happens_once b w s.0 r.0 s.1 r.1) s.2)

-- so no whole run has one
pub never_ran : (actions : List Action) (w v x : World) → Runs actions w x → RunsUpToDisabled actions w v → ⊥
never_ran actions w v x runs k = never_past k.before k.action k.rest w v x k.runs k.disabled (subst (λ (l : List Action). Runs l w x) k.split runs)
