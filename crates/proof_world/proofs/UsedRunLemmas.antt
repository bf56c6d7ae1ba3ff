-- Along each run of a new world each end stays within what it accepted, read off the log; so where the log uses few numbers, its ends do.
use Rattle.std.proofs.Common.{◌≡◌, ℕ, ◌+◌, ◌^◌, ◌≤◌, ◌<◌, true, false, List, [], ◌∷◌, ◌++◌, length, refl, sym, ap, subst, ◌∙◌, append-nil, arith}
use Rattle.std.proofs.lemmas.List.{length-append}
use Rattle.std.proofs.lemmas.Grind.{flat_map-append}
use Rattle.rand_core.specs.Stream.{Stream}
use Rattle.sctp_serial.specs.Unwrapped.{origin}
use Rattle.sctp_state.specs.Options.{Options}
use Rattle.sctp_state.specs.Events.{GivenUp}
use Rattle.sctp_tx_queue.specs.SendQueue.{Queue, stream}
use Rattle.spec_endpoint.specs.Association.{State, Closed, CookieWait, Open, Endpoint}
use Rattle.proof_delivery.specs.Accepted.{AcceptedMessage}
use Rattle.spec_world.specs.Observations.{End, A, B, same_end, Entry, given_up_by, given_up}
use Rattle.spec_world.specs.World.{Side, World, Action, CallOf, Give, GiveForeign, AdvanceTime, TakesBytes, MeetsForeignAt, given, withheld, Happens, Runs, fresh_world, association, news_of, take_emitted, after_call, after_time, call_entry, time_entry}
use Rattle.spec_endpoint.specs.Calls.{ready_at}
use Rattle.proof_world.specs.Consistent.{NoEndingIsLogged}
use Rattle.proof_world.specs.Delivered.{AlongRun, accepted_messages_by, accepted_messages}
use Rattle.proof_world.specs.Few.{most_fragments, ordered_on, UsesFew, LogUsesFew}
use Rattle.proof_world.proofs.FewLemmas.{AreFew, WorldNumbersFew, RunNumbersFew}
use Rattle.proof_world.proofs.LoggedLemmas.{quiet_offers, quiet_given_up, none_in_news, given_up_news}
use Rattle.proof_world.proofs.WorldLemmas.{Extends}
use Rattle.proof_world.proofs.RunsLemmas.{runs_extends}
use Rattle.proof_world.proofs.UsedStreamLemmas.{HasOrdered, keeps_ordered, stream_stands}
use Rattle.proof_world.proofs.UsedLemmas.{UsesIn}
use Rattle.proof_world.proofs.UsedCallLemmas.{uses_more, all_of, on_streams, Within, time_within, received_within, call_within}

-- ---- an end and the log

-- all its records are taken
record IsUsed (x : End) (side : Side) (log : List Entry) : Type 0 where
  taken : side.socket.endpoint_state.context.emitted.given_up ≡ []
  uses : UsesIn (all_of (accepted_messages x log) (length (given_up x log))) (on_streams (accepted_messages x log)) side.socket.endpoint_state.state side.socket.endpoint_state.context.queue 0

module _ (x : End) where
  abbrev so_far : List Entry → List AcceptedMessage
  so_far log = accepted_messages x log

  abbrev gone : List Entry → ℕ
  gone log = length (given_up x log)

  -- between events nothing is emitted and not taken
  within : (side : Side) (log : List Entry) → IsUsed x side log → Within (so_far log) (gone log) side.socket
  within side log k =
      subst (λ (n : ℕ). UsesIn (all_of (so_far log) (gone log)) (on_streams (so_far log)) side.socket.endpoint_state.state side.socket.endpoint_state.context.queue n)
      (sym (ap (λ (gs : List GivenUp). length gs) k.taken)) k.uses

  -- the log, an event longer
  longer_accepted : (z : End) (side : Side) (first : Entry) (s : Endpoint (List ℕ)) (log : List Entry) → so_far (log ++ first ∷ news_of z side s) ≡ so_far log ++ accepted_messages_by x first
  longer_accepted z side first s log =
      flat_map-append (accepted_messages_by x) log (first ∷ news_of z side s)
      ∙ (ap (λ (os : List AcceptedMessage). so_far log ++ (accepted_messages_by x first ++ os))
      (none_in_news (accepted_messages_by x) z (quiet_offers x z) (λ m. refl) (length side.packets) (length (ready_at side.socket)) (association side.socket) s)
      ∙ ap (λ (os : List AcceptedMessage). so_far log ++ os) (append-nil (accepted_messages_by x first)))

  longer_given_up : (z : End) (side : Side) (first : Entry) (s : Endpoint (List ℕ)) (log : List Entry) (gs : List GivenUp) → given_up_by x first ≡ [] → given_up x (news_of z side s) ≡ gs
      → gone (log ++ first ∷ news_of z side s) ≡ gone log + length gs
  longer_given_up z side first s log gs none new =
      let parts = ap (λ (l : List GivenUp). length l) (flat_map-append (given_up_by x) log (first ∷ news_of z side s)) in
      let sizes = length-append (given_up x log) (given_up x (first ∷ news_of z side s)) in
      let here : length (given_up x (first ∷ news_of z side s)) ≡ length gs = ap (λ (l : List GivenUp). length (l ++ given_up x (news_of z side s))) none ∙ ap (λ (l : List GivenUp). length l) new in
      omega (arith, parts, sizes, here)

  own_goes : same_end x x ≡ true → (side : Side) (first : Entry) (s : Endpoint (List ℕ)) (log : List Entry) → given_up_by x first ≡ []
      → Within (so_far log ++ accepted_messages_by x first) (gone log) s → IsUsed x (take_emitted side s) (log ++ first ∷ news_of x side s)
  own_goes itself side first s log none h =
      let longer : List Entry = log ++ first ∷ news_of x side s in
      let got : List AcceptedMessage = so_far log ++ accepted_messages_by x first in
      let gs : List GivenUp = s.endpoint_state.context.emitted.given_up in
      let is : so_far longer ≡ got = longer_accepted x side first s log in
      let more : gone longer ≡ gone log + length gs =
      longer_given_up x side first s log gs none (given_up_news x itself (length side.packets) (length (ready_at side.socket)) (association side.socket) s) in
      record {
        taken = refl;
        uses =
            uses_more (all_of got (gone log)) (all_of (so_far longer) (gone longer)) (on_streams got) (on_streams (so_far longer)) s.endpoint_state.state s.endpoint_state.context.queue (length gs) 0
            (omega (arith, more, ap (λ (os : List AcceptedMessage). most_fragments os) is)) (omega (arith, more, ap (λ (os : List AcceptedMessage). most_fragments os) is))
            (λ id. omega (arith, ap (λ (os : List AcceptedMessage). ordered_on id os) is)) h;
      }

  -- an entry of which the end has nothing
  beside : (side : Side) (log longer : List Entry) → so_far longer ≡ so_far log → gone longer ≡ gone log → IsUsed x side log → IsUsed x side longer
  beside side log longer is same k = record {
    taken = k.taken;
    uses =
        uses_more (all_of (so_far log) (gone log)) (all_of (so_far longer) (gone longer)) (on_streams (so_far log)) (on_streams (so_far longer)) side.socket.endpoint_state.state
        side.socket.endpoint_state.context.queue 0 0 (omega (arith, same, ap (λ (os : List AcceptedMessage). most_fragments os) is)) (omega (arith, same, ap (λ (os : List AcceptedMessage). most_fragments os) is))
        (λ id. omega (arith, ap (λ (os : List AcceptedMessage). ordered_on id os) is)) k.uses;
  }

  other_goes : (z : End) → same_end x z ≡ false → (side moved : Side) (first : Entry) (s : Endpoint (List ℕ)) (log : List Entry) → accepted_messages_by x first ≡ [] → given_up_by x first ≡ []
      → IsUsed x side log → IsUsed x side (log ++ first ∷ news_of z moved s)
  other_goes z apart side moved first s log accepts none k =
      beside side log (log ++ first ∷ news_of z moved s)
      (longer_accepted z moved first s log ∙ (ap (λ (os : List AcceptedMessage). so_far log ++ os) accepts ∙ append-nil (so_far log)))
      (omega (
        arith,
        longer_given_up z moved first s log [] none
            (none_in_news (given_up_by x) z (quiet_given_up x z apart) (λ m. refl) (length moved.packets) (length (ready_at moved.socket)) (association moved.socket) s),
      ))
      k

  one_more : (side : Side) (first : Entry) (log : List Entry) → accepted_messages_by x first ≡ [] → given_up_by x first ≡ [] → IsUsed x side log → IsUsed x side (log ++ first ∷ [])
  one_more side first log accepts none k =
      let sizes = ap (λ (l : List GivenUp). length l) (flat_map-append (given_up_by x) log (first ∷ [])) in
      let both = length-append (given_up x log) (given_up x (first ∷ [])) in
      let here : length (given_up x (first ∷ [])) ≡ 0 = ap (λ (l : List GivenUp). length (l ++ [])) none in
      beside side log (log ++ first ∷ [])
      (flat_map-append (accepted_messages_by x) log (first ∷ []) ∙ (ap (λ (os : List AcceptedMessage). so_far log ++ (os ++ [])) accepts ∙ append-nil (so_far log)))
      (omega (arith, sizes, both, here)) k

  -- ---- bytes

  own_took : same_end x x ≡ true → (first : Entry) (bytes : List ℕ) (old new : Side) (log longer : List Entry) → TakesBytes x first bytes old new log longer
      → accepted_messages_by x first ≡ [] → given_up_by x first ≡ [] → IsUsed x old log → IsUsed x new longer
  own_took itself first bytes old new log longer t accepts none k =
      let h : Within (so_far log) (gone log) t.after
      = received_within (so_far log) (gone log) old.socket.endpoint_state.context.pack.word_of bytes old.socket t.after t.takes (within old log k) in
      let got : so_far log ≡ so_far log ++ accepted_messages_by x first = sym (ap (λ (os : List AcceptedMessage). so_far log ++ os) accepts ∙ append-nil (so_far log)) in
      subst (λ (side : Side). IsUsed x side longer) (sym t.side)
      (subst (λ (entries : List Entry). IsUsed x (take_emitted old t.after) entries) (sym t.logged)
      (own_goes itself old first t.after log none (subst (λ (os : List AcceptedMessage). Within os (gone log) t.after) got h)))

  other_took : (z : End) → same_end x z ≡ false → (side : Side) (first : Entry) (bytes : List ℕ) (old new : Side) (log longer : List Entry) → TakesBytes z first bytes old new log longer
      → accepted_messages_by x first ≡ [] → given_up_by x first ≡ [] → IsUsed x side log → IsUsed x side longer
  other_took z apart side first bytes old new log longer t accepts none k =
      subst (λ (entries : List Entry). IsUsed x side entries) (sym t.logged) (other_goes z apart side old first t.after log accepts none k)

  own_came : same_end x x ≡ true → (bytes : List ℕ) (old new : Side) (log longer : List Entry) → MeetsForeignAt x bytes old new log longer → IsUsed x old log → IsUsed x new longer
  own_came itself bytes old new log longer (given t j) k = own_took itself _ bytes old new log longer t refl refl k
  own_came itself bytes old new log longer (withheld j is logged) k =
      subst (λ (side : Side). IsUsed x side longer) (sym is) (subst (λ (entries : List Entry). IsUsed x old entries) (sym logged) (one_more old _ log refl refl k))

  other_came : (z : End) → same_end x z ≡ false → (side : Side) (bytes : List ℕ) (old new : Side) (log longer : List Entry) → MeetsForeignAt z bytes old new log longer
      → IsUsed x side log → IsUsed x side longer
  other_came z apart side bytes old new log longer (given t j) k = other_took z apart side _ bytes old new log longer t refl refl k
  other_came z apart side bytes old new log longer (withheld j is logged) k = subst (λ (entries : List Entry). IsUsed x side entries) (sym logged) (one_more side _ log refl refl k)

-- ---- both ends

record AreUsed (w : World) : Type 0 where
  a : IsUsed A w.a w.log
  b : IsUsed B w.b w.log

happens_used : (action : Action) (w v : World) → Happens action w v → AreUsed w → AreUsed v
happens_used (CallOf A call) w v e k = subst AreUsed (sym e) (record {
  a = own_goes A refl w.a (call_entry A call w.a.socket) (after_call call w.a.socket) w.log refl
      (call_within (accepted_messages A w.log) (length (given_up A w.log)) call w.a.socket (within A w.a w.log k.a));
  b = other_goes B A refl w.b w.a (call_entry A call w.a.socket) (after_call call w.a.socket) w.log refl refl k.b;
})
happens_used (CallOf B call) w v e k = subst AreUsed (sym e) (record {
  a = other_goes A B refl w.a w.b (call_entry B call w.b.socket) (after_call call w.b.socket) w.log refl refl k.a;
  b = own_goes B refl w.b (call_entry B call w.b.socket) (after_call call w.b.socket) w.log refl
      (call_within (accepted_messages B w.log) (length (given_up B w.log)) call w.b.socket (within B w.b w.log k.b));
})
happens_used (Give packet A) w v g k = record {
  a = own_took A refl _ g.bytes w.a v.a w.log v.log g.takes_bytes refl refl k.a;
  b = subst (λ (side : Side). IsUsed B side v.log) (sym g.other_side) (other_took B A refl w.b _ g.bytes w.a v.a w.log v.log g.takes_bytes refl refl k.b);
}
happens_used (Give packet B) w v g k = record {
  a = subst (λ (side : Side). IsUsed A side v.log) (sym g.other_side) (other_took A B refl w.a _ g.bytes w.b v.b w.log v.log g.takes_bytes refl refl k.a);
  b = own_took B refl _ g.bytes w.b v.b w.log v.log g.takes_bytes refl refl k.b;
}
happens_used (GiveForeign A bytes) w v g k = record {
  a = own_came A refl bytes w.a v.a w.log v.log g.comes k.a;
  b = subst (λ (side : Side). IsUsed B side v.log) (sym g.other_side) (other_came B A refl w.b bytes w.a v.a w.log v.log g.comes k.b);
}
happens_used (GiveForeign B bytes) w v g k = record {
  a = subst (λ (side : Side). IsUsed A side v.log) (sym g.other_side) (other_came A B refl w.a bytes w.b v.b w.log v.log g.comes k.a);
  b = own_came B refl bytes w.b v.b w.log v.log g.comes k.b;
}
happens_used (AdvanceTime A now) w v e k = subst AreUsed (sym e) (record {
  a = own_goes A refl w.a (time_entry A now w.a.socket) (after_time now w.a.socket) w.log refl
      (subst (λ (os : List AcceptedMessage). Within os (length (given_up A w.log)) (after_time now w.a.socket)) (sym (append-nil (accepted_messages A w.log)))
      (time_within (accepted_messages A w.log) (length (given_up A w.log)) now w.a.socket (within A w.a w.log k.a)));
  b = other_goes B A refl w.b w.a (time_entry A now w.a.socket) (after_time now w.a.socket) w.log refl refl k.b;
})
happens_used (AdvanceTime B now) w v e k = subst AreUsed (sym e) (record {
  a = other_goes A B refl w.a w.b (time_entry B now w.b.socket) (after_time now w.b.socket) w.log refl refl k.a;
  b = own_goes B refl w.b (time_entry B now w.b.socket) (after_time now w.b.socket) w.log refl
      (subst (λ (os : List AcceptedMessage). Within os (length (given_up B w.log)) (after_time now w.b.socket)) (sym (append-nil (accepted_messages B w.log)))
      (time_within (accepted_messages B w.log) (length (given_up B w.log)) now w.b.socket (within B w.b w.log k.b)));
})

fresh_used : (oa ob : Options) (a b : Stream) (f g : List ℕ → ℕ) → AreUsed (fresh_world oa ob a b f g)
fresh_used oa ob a b f g = record {
  a = record { taken = refl; uses = record { whole = omega arith; used = omega arith; from = omega arith; streams = tt } };
  b = record { taken = refl; uses = record { whole = omega arith; used = omega arith; from = omega arith; streams = tt } };
}

-- ---- few numbers

few_ordered : (most : ℕ → ℕ) (s : State) (q : Queue) (all n : ℕ) → UsesIn all most s q n → ((id : ℕ) → most id < 32000) → (id : ℕ) → (stream id q.streams).next_ordered_mid < origin + 32000
few_ordered most s q all n h few id =
    let one : HasOrdered (most id) (stream id q.streams) = stream_stands (λ id s. HasOrdered (most id) s) (keeps_ordered most) id q.streams h.streams in
    let small = few id in
    omega (arith, one.numbered, small)

few_of : (s : State) (q : Queue) (all : ℕ) (most : ℕ → ℕ) → all < 2 ^ 30 → ((id : ℕ) → most id < 32000) → UsesIn all most s q 0 → AreFew s q
few_of Closed q all most small few h = tt
few_of (CookieWait tag first t1) q all most small few h = tt
few_of (Open phase t) q all most small few h = record {
  fragments = omega (arith, small, h.used);
  items = omega (arith, small, h.used, h.from);
  messages = few_ordered most (Open phase t) q all 0 h few;
}

few_there : (x : End) (side : Side) (log : List Entry) → UsesFew x log → IsUsed x side log → AreFew side.socket.endpoint_state.state side.socket.endpoint_state.context.queue
few_there x side log few k =
    few_of side.socket.endpoint_state.state side.socket.endpoint_state.context.queue (all_of (accepted_messages x log) (length (given_up x log))) (on_streams (accepted_messages x log))
    few.fragments few.messages k.uses

few_here : (w v : World) → Extends w v → LogUsesFew v.log → AreUsed w → NoEndingIsLogged w.log → WorldNumbersFew w
few_here w v e few k stands = record {
  a = few_there A w.a w.log (few A w.log e.more e.logged stands) k.a;
  b = few_there B w.b w.log (few B w.log e.more e.logged stands) k.b;
}

few_along : (actions : List Action) (w v : World) (r : Runs actions w v) → LogUsesFew v.log → AreUsed w → AlongRun (λ u. NoEndingIsLogged u.log → WorldNumbersFew u) actions w v r
few_along [] w v r few k = few_here w v (runs_extends [] w v r) few k
few_along (action ∷ actions) w v r few k = (few_here w v (runs_extends (action ∷ actions) w v r) few k, few_along actions r.0 v r.2 few (happens_used action w r.0 r.1 k))

as_many : (os : List AcceptedMessage) → length os ≤ most_fragments os
as_many [] = omega arith
as_many (o ∷ os) = omega (arith, as_many os)

pub log_few : (oa ob : Options) (a b : Stream) (f g : List ℕ → ℕ) (actions : List Action) (w : World) (r : Runs actions (fresh_world oa ob a b f g) w) → LogUsesFew w.log
    → RunNumbersFew actions (fresh_world oa ob a b f g) w r
log_few oa ob a b f g actions w r few = record {
  numbers = few_along actions (fresh_world oa ob a b f g) w r few (fresh_used oa ob a b f g);
  resets = λ x early late is stands. (few x early late is stands).resets;
  accepted = λ x early late is stands. let small = (few x early late is stands).fragments in omega (arith, small, as_many (accepted_messages x early));
}
