-- A run that begins as an end connects, and in which none connects or shuts down again, follows the rules.
use Rattle.std.proofs.Common.{◌≡◌, inr, ℕ, Bool, true, false, Some, List, [], ◌∷◌, ◌++◌, length, refl, sym, ap, subst, ◌∙◌, append-nil, append_assoc}
use Rattle.std.specs.List.{flat_map, list_any}
use Rattle.std.proofs.lemmas.Grind.{flat_map-append}
use Rattle.std.proofs.lemmas.Bool.{or_parts}
use Rattle.spec_endpoint.specs.Association.{Endpoint}
use Rattle.spec_world.specs.Observations.{End, A, Entry, Called, Given, Foreign, Timed, Associated, EmittedPacket, EmittedEvent, GaveUp, BecameReady, Call, Connect, Shutdown, Close, Send, SendMany, TakeMessage, Reset, SetPriority, SetMaxMessageSize, SetLowThreshold, HandOver}
use Rattle.spec_world.specs.World.{Side, World, Action, CallOf, Give, GiveForeign, AdvanceTime, MeetsForeignAt, given, withheld, Happens, Runs, side_of, association, news_of, clock, call_entry, after_call, time_entry, after_time}
use Rattle.spec_endpoint.specs.Calls.{ready_at}
use Rattle.proof_world.specs.Consistent.{MayFollow, WorldKeepsRules}
use Rattle.proof_world.proofs.LoggedLemmas.{IsQuietOn, none_in_news}
use Rattle.proof_world.proofs.PrefixLemmas.{none_behind, none_before}
use Rattle.proof_world.proofs.DeliveredLemmas.{calls_log, time_log}
use Rattle.proof_world.proofs.FollowsLemmas.{Each, follows_by}

-- ---- calls of which the rules ask something

abbrev pub is_ruled : Call → Bool
is_ruled Connect = true
is_ruled Shutdown = true
is_ruled call = false

abbrev pub asks_rules : Action → Bool
asks_rules (CallOf x call) = is_ruled call
asks_rules action = false

abbrev ruled_if : Bool → Entry → List Entry
ruled_if true entry = entry ∷ []
ruled_if false entry = []

abbrev ruled_by : Entry → List Entry
ruled_by (Called x clock call answer) = ruled_if (is_ruled call) (Called x clock call answer)
ruled_by entry = []

abbrev ruled : List Entry → List Entry
ruled log = flat_map ruled_by log

quiet_ruled : (y : End) → IsQuietOn ruled_by y
quiet_ruled y = record { on_emitted = record { associated = λ a. refl; emitted = λ n. refl; happened = λ e. refl }; gave_up = λ g. refl }

-- ---- what a run adds

abbrev AddsNoRuled : (log longer : List Entry) → Type 0
AddsNoRuled log longer = (more : List Entry) × (longer ≡ log ++ more) × (ruled more ≡ [])

in_rest : (x : End) (side : Side) (s : Endpoint (List ℕ)) → ruled (news_of x side s) ≡ []
in_rest x side s = none_in_news ruled_by x (quiet_ruled x) (λ m. refl) (length side.packets) (length (ready_at side.socket)) (association side.socket) s

none_in_block : (x : End) (side : Side) (s : Endpoint (List ℕ)) (first : Entry) → ruled_by first ≡ [] → ruled (first ∷ news_of x side s) ≡ []
none_in_block x side s first e = ap (λ (l : List Entry). l ++ ruled (news_of x side s)) e ∙ in_rest x side s

comes : (x : End) (bytes : List ℕ) (old new : Side) (log longer : List Entry) → MeetsForeignAt x bytes old new log longer → AddsNoRuled log longer
comes x bytes old new log longer (given t judged) = (_, t.logged, none_in_block x old t.after (Foreign x (clock old.socket) (Some bytes)) refl)
comes x bytes old new log longer (withheld judged stays logged) = (_, logged, refl)

adds : (action : Action) (w u : World) → asks_rules action ≡ false → Happens action w u → AddsNoRuled w.log u.log
adds (CallOf x call) w u k e = (
  call_entry x call (side_of x w).socket ∷ news_of x (side_of x w) (after_call call (side_of x w).socket),
  ap (λ (z : World). z.log) e ∙ calls_log x call w,
  none_in_block x (side_of x w) (after_call call (side_of x w).socket) (call_entry x call (side_of x w).socket)
      (ap (λ (b : Bool). ruled_if b (call_entry x call (side_of x w).socket)) k),
)
adds (Give n x) w u k g = (_, g.takes_bytes.logged, none_in_block x (side_of x w) g.takes_bytes.after (Given x (clock (side_of x w).socket) n) refl)
adds (GiveForeign x bytes) w u k g = comes x bytes (side_of x w) (side_of x u) w.log u.log g.comes
adds (AdvanceTime x now) w u k e = (
  time_entry x now (side_of x w).socket ∷ news_of x (side_of x w) (after_time now (side_of x w).socket),
  ap (λ (z : World). z.log) e ∙ time_log x now w,
  none_in_block x (side_of x w) (after_time now (side_of x w).socket) (time_entry x now (side_of x w).socket) refl,
)

adds_run : (actions : List Action) (w v : World) → list_any asks_rules actions ≡ false → Runs actions w v → AddsNoRuled w.log v.log
adds_run [] w v k r = ([], ap (λ (z : World). z.log) r ∙ sym (append-nil w.log), refl)
adds_run (action ∷ actions) w v k r =
    let one = adds action w r.0 ((or_parts (asks_rules action) (list_any asks_rules actions) k).0) r.1 in
    let rest = adds_run actions r.0 v ((or_parts (asks_rules action) (list_any asks_rules actions) k).1) r.2 in (
      one.0 ++ rest.0,
      rest.1 ∙ (ap (λ (l : List Entry). l ++ rest.0) one.1 ∙ append_assoc w.log one.0 rest.0),
      flat_map-append ruled_by one.0 rest.0 ∙ (ap (λ (l : List Entry). l ++ ruled rest.0) one.2 ∙ rest.2),
    )

-- ---- the rules

may_any : (w : World) (before : List Entry) (e : Entry) → ruled_by e ≡ [] → MayFollow w before e
may_any w before (Called x clock Connect answer) h = cc
may_any w before (Called x clock Shutdown answer) h = cc
may_any w before (Called x clock Close answer) h = tt
may_any w before (Called x clock (Send m o) answer) h = tt
may_any w before (Called x clock (SendMany ms o) answer) h = tt
may_any w before (Called x clock TakeMessage answer) h = tt
may_any w before (Called x clock (Reset streams) answer) h = tt
may_any w before (Called x clock (SetPriority stream priority) answer) h = tt
may_any w before (Called x clock (SetMaxMessageSize bytes) answer) h = tt
may_any w before (Called x clock (SetLowThreshold stream bytes) answer) h = tt
may_any w before (Called x clock HandOver answer) h = tt
may_any w before (Given x clock packet) h = tt
may_any w before (Foreign x clock bytes) h = tt
may_any w before (Timed x clock now) h = tt
may_any w before (Associated x a) h = tt
may_any w before (EmittedPacket x packet) h = tt
may_any w before (EmittedEvent x event) h = tt
may_any w before (GaveUp x g) h = tt
may_any w before (BecameReady x m) h = tt

each_may : (w : World) (before log : List Entry) → ruled log ≡ [] → Each w before log
each_may w before [] h = tt
each_may w before (e ∷ log) h = (may_any w before e (none_before (ruled_by e) (ruled log) h), each_may w (before ++ e ∷ []) log (none_behind (ruled_by e) (ruled log) h))

-- at an empty log
pub connects_first : (actions : List Action) (w v : World) → w.log ≡ [] → list_any asks_rules actions ≡ false → Runs (CallOf A Connect ∷ actions) w v → WorldKeepsRules v
connects_first actions w v empty k r =
    let first : Entry = call_entry A Connect w.a.socket in
    let news : List Entry = news_of A w.a (after_call Connect w.a.socket) in
    let rest = adds_run actions r.0 v k r.2 in
    let one : r.0.log ≡ first ∷ news = ap (λ (z : World). z.log) r.1 ∙ (calls_log A Connect w ∙ ap (λ (l : List Entry). l ++ first ∷ news) empty) in
    let all : v.log ≡ first ∷ (news ++ rest.0) = rest.1 ∙ ap (λ (l : List Entry). l ++ rest.0) one in
    let none : ruled (news ++ rest.0) ≡ [] =
    flat_map-append ruled_by news rest.0 ∙ (ap (λ (l : List Entry). l ++ ruled rest.0) (in_rest A w.a (after_call Connect w.a.socket)) ∙ rest.2) in
    follows_by v (subst (Each v []) (sym all) (inr refl, each_may v (first ∷ []) (news ++ rest.0) none))
