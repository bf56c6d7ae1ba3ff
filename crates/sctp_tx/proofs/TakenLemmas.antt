-- Fragments that are handed out one after the other, and the list of them: what a turn does doesn't depend on those that went before.
use Rattle.std.proofs.Common.{◌≡◌, ℕ, zero, suc, ◌<◌, Bool, true, false, Option, Some, None, List, [], ◌∷◌, ◌++◌, length, refl, ap, ap₂, sym, subst, ◌∙◌, inl, inr, arith}
use Rattle.std.specs.Prelude.{◌-◌, ◌&&◌, ◌||◌, ◌⊎◌, nat_lt, if◌then◌else◌}
use Rattle.std.proofs.lemmas.Bool.Decides.{nat_tests}
use Rattle.sctp_chunk.specs.Chunk.{FragmentTree}
use Rattle.sctp_state.specs.Events.{Emitted}
use Rattle.sctp_tx_outstanding.specs.OutstandingData.{Outstanding}
use Rattle.sctp_tx_queue.specs.SendQueue.{Queue}
use Rattle.sctp_tx_queue.specs.Produced.{Produced, produce}
use Rattle.sctp_tx.specs.RetransmissionQueue.{Sender}
use Rattle.sctp_tx.specs.Windows.{saturate_u64}
use Rattle.sctp_tx.specs.Resent.{sizes, is_interleaved, may_send_new, resent, resent_by, start_t3_if}
use Rattle.sctp_tx.specs.Sending.{Filling, QueueStep, append, filling, is_made, offered_payload, queue_step_if, next_turn, fill, discard_all, without_discards, filled_with, timed_filling, send}
use Rattle.sctp_tx.specs.Interrupted.{NotAppended, NotProduced, TurnStopped, after_turns, PartlyFilled}
use Rattle.sctp_tx.specs.Taken.{taken_all}
use Rattle.sctp_tx.proofs.SendingLemmas.{ended, goes_on}

module _ {C S : Type 0} (taken : C → S → S) where
  pub taken_append : (cs ds : List C) (s : S) → taken_all taken (cs ++ ds) s ≡ taken_all taken ds (taken_all taken cs s)
  taken_append [] ds s = refl
  taken_append (c ∷ cs) ds s = taken_append cs ds (taken c s)

joined : {C : Type 0} (cs ds es : List C) → (cs ++ ds) ++ es ≡ cs ++ (ds ++ es)
joined [] ds es = refl
joined (c ∷ cs) ds es = ap (λ l. c ∷ l) (joined cs ds es)

pub with_none : {C : Type 0} (cs : List C) → cs ++ [] ≡ cs
with_none [] = refl
with_none (c ∷ cs) = ap (λ l. c ∷ l) (with_none cs)

-- these went before
abbrev pub behind : {P : Type 0} → List (ℕ × FragmentTree) → Filling P → Filling P
behind cs x = record x { chunks = cs ++ x.chunks }

module _ {P : Type 0} (now : ℕ) (cs : List (ℕ × FragmentTree)) where
  made_behind : (made : Option Produced) (x : Filling P) → append now made (behind cs x) ≡ behind cs (append now made x)
  made_behind None x = refl
  made_behind (Some p) x =
      let after : Filling P = append now (Some p) x in
      ap (λ (l : List (ℕ × FragmentTree)). record after { chunks = l }) (joined cs x.chunks _)

  step_behind : (b : Bool) (x : Filling P) → queue_step_if b now (behind cs x) ≡ record { filling = behind cs (queue_step_if b now x).filling; is_more = (queue_step_if b now x).is_more }
  step_behind false x = refl
  step_behind true x =
      let t = produce now (offered_payload x.left x.sender) x.queue x.emitted in
      ap (λ (f : Filling P). record { filling = f; is_more = is_made t.made }) (made_behind t.made (record x { queue = t.queue; emitted = t.emitted }))

  pub turn_behind : (x : Filling P) → next_turn now (behind cs x) ≡ record { filling = behind cs (next_turn now x).filling; is_more = (next_turn now x).is_more }
  turn_behind x = step_behind (may_send_new x.sender && nat_lt 0 (offered_payload x.left x.sender)) x

  pub fill_behind : (turns : ℕ) (x : Filling P) → fill turns now (behind cs x) ≡ behind cs (fill turns now x)
  fill_behind zero x = refl
  fill_behind (suc turns) x =
      ap (λ (t : QueueStep P). if t.is_more then fill turns now t.filling else t.filling) (turn_behind x) ∙ either (next_turn now x).is_more (next_turn now x).filling (fill_behind turns (next_turn now x).filling) where
        either : (b : Bool) (f : Filling P) → fill turns now (behind cs f) ≡ behind cs (fill turns now f) → (if b then fill turns now (behind cs f) else behind cs f) ≡ behind cs (if b then fill turns now f else f)
        either true f e = e
        either false f e = refl

  pub after_behind : (turns : ℕ) (x : Filling P) → after_turns turns now (behind cs x) ≡ behind cs (after_turns turns now x)
  after_behind zero x = refl
  after_behind (suc turns) x =
      ap (λ (f : Filling P). (next_turn now f).filling) (after_behind turns x) ∙ ap (λ (t : QueueStep P). t.filling) (turn_behind (after_turns turns now x))

-- ---- turns with fragments before them, by turns with none

module _ {P : Type 0} (now left : ℕ) (s : Sender) (q : Queue) (emitted : Emitted P) (cs : List (ℕ × FragmentTree)) where
  abbrev pub alone : QueueStep P
  alone = next_turn now (filling s q emitted [] left)

  abbrev pub joint : QueueStep P
  joint = next_turn now (filling s q emitted cs left)

  pub turn_with : joint ≡ record { filling = behind cs alone.filling; is_more = alone.is_more }
  turn_with = ap (λ (l : List (ℕ × FragmentTree)). next_turn now (filling s q emitted l left)) (sym (with_none cs)) ∙ turn_behind now cs (filling s q emitted [] left)

  module _ (turns : ℕ) (all : Filling P) (enough : left < turns) (is : fill turns now (filling s q emitted cs left) ≡ all) where
    pub ended_with : alone.is_more ≡ false → behind cs alone.filling ≡ all
    ended_with stop =
        sym (ap (λ (t : QueueStep P). t.filling) turn_with)
        ∙ ended now turns left s q emitted cs all enough is (ap (λ (t : QueueStep P). t.is_more) turn_with ∙ stop)

  module _ (t : Sender) (r : Queue) (later : Emitted P) (rest : ℕ) (es : t ≡ alone.filling.sender) (eq : r ≡ alone.filling.queue) (et : later ≡ alone.filling.emitted) (el : rest ≡ alone.filling.left) where
    pub on_with : filling t r later (cs ++ alone.filling.chunks) rest ≡ joint.filling
    on_with = rw (es, eq, et, el) (sym (ap (λ (u : QueueStep P). u.filling) turn_with))

    pub goes_with : (turns : ℕ) (all : Filling P) → left < turns → fill turns now (filling s q emitted cs left) ≡ all → alone.is_more ≡ true → rest < left
        → (k : ℕ) × (rest < k) × (fill k now (filling t r later (cs ++ alone.filling.chunks) rest) ≡ all)
    goes_with turns all enough is more less =
        goes_on now turns left s q emitted cs all t r later (cs ++ alone.filling.chunks) rest enough is (ap (λ (u : QueueStep P). u.is_more) turn_with ∙ more)
        (ap (λ (f : Filling P). f.sender) on_with) (ap (λ (f : Filling P). f.queue) on_with) (ap (λ (f : Filling P). f.emitted) on_with)
        (ap (λ (f : Filling P). f.chunks) on_with) (ap (λ (f : Filling P). f.left) on_with) less

module _ {P : Type 0} (now : ℕ) where
  none_made : (made : Option Produced) (x : Filling P) → x.chunks ≡ [] → is_made made ≡ false → (append now made x).chunks ≡ []
  none_made None x none e = none
  none_made (Some p) x none e = absurd (cc)

  some_made : (made : Option Produced) (x : Filling P) → is_made made ≡ true → 0 < length (append now made x).chunks
  some_made None x e = absurd (cc)
  some_made (Some p) x e = longer x.chunks _ where
    longer : {C : Type 0} (cs : List C) (c : C) → 0 < length (cs ++ c ∷ [])
    longer [] c = omega arith
    longer (d ∷ cs) c = omega arith

  pub none_more : (left : ℕ) (s : Sender) (q : Queue) (emitted : Emitted P) → (next_turn now (filling s q emitted [] left)).is_more ≡ false → (next_turn now (filling s q emitted [] left)).filling.chunks ≡ []
  none_more left s q emitted = go (may_send_new s && nat_lt 0 (offered_payload left s)) where
    go : (b : Bool) → (queue_step_if b now (filling s q emitted [] left)).is_more ≡ false → (queue_step_if b now (filling s q emitted [] left)).filling.chunks ≡ []
    go false e = refl
    go true e =
        let t = produce now (offered_payload left s) q emitted in
        none_made t.made (filling s t.queue t.emitted [] left) refl e

  pub some_more : (left : ℕ) (s : Sender) (q : Queue) (emitted : Emitted P) → (next_turn now (filling s q emitted [] left)).is_more ≡ true → 0 < length (next_turn now (filling s q emitted [] left)).filling.chunks
  some_more left s q emitted = go (may_send_new s && nat_lt 0 (offered_payload left s)) where
    go : (b : Bool) → (queue_step_if b now (filling s q emitted [] left)).is_more ≡ true → 0 < length (queue_step_if b now (filling s q emitted [] left)).filling.chunks
    go false e = absurd (cc)
    go true e =
        let t = produce now (offered_payload left s) q emitted in
        some_made t.made (filling s t.queue t.emitted [] left) e

positive : (n : ℕ) → true ≡ nat_lt 0 (suc n)
positive n = grind (arith, nat_tests)

pub some_joined : {C : Type 0} (cs ds : List C) → 0 < length ds → true ≡ nat_lt 0 (length (cs ++ ds))
some_joined [] [] e = absurd (omega (arith, e))
some_joined [] (d ∷ ds) e = positive (length ds)
some_joined (c ∷ cs) ds e = positive (length (cs ++ ds))

pub either_some : {C : Type 0} (cs ds : List C) (a b : Bool) → a ≡ nat_lt 0 (length cs) → b ≡ nat_lt 0 (length ds) → (a || b) ≡ nat_lt 0 (length (cs ++ ds))
either_some [] ds a b ea eb = rw ea eb
either_some (c ∷ cs) ds a b ea eb = ap (λ (x : Bool). x || b) (ea ∙ sym (positive (length cs))) ∙ positive (length (cs ++ ds))

-- ---- where it stops

module _ {P : Type 0} (now left : ℕ) (s : Sender) (q : Queue) (emitted : Emitted P) (cs ds : List (ℕ × FragmentTree)) (after : Sender) (rest : Queue) (later : Emitted P) where
  stops : NotProduced now (filling s q emitted cs left) after rest later ⊎ NotAppended now (filling s q emitted cs left) after rest later
      → NotProduced now (filling s q emitted ds left) after rest later ⊎ NotAppended now (filling s q emitted ds left) after rest later
  stops (inl x) = inl (record { sender = x.sender; queue = x.queue })
  stops (inr x) = inr (record { fragment = x.fragment; made = x.made; sender = x.sender; queue = x.queue; events = x.events })

  pub stopped_with : TurnStopped now (filling s q emitted cs left) after rest later → TurnStopped now (filling s q emitted ds left) after rest later
  stopped_with h = record { may_send = h.may_send; room = h.room; stopped = stops h.stopped }

pub partly_behind : {P : Type 0} (now : ℕ) (cs : List (ℕ × FragmentTree)) (x : Filling P) (after : Sender) (rest : Queue) (later : Emitted P)
    → PartlyFilled now x after rest later → PartlyFilled now (behind cs x) after rest later
partly_behind now cs x after rest later h =
    let y : Filling _ = after_turns h.turns now x in
    let moved : TurnStopped now (behind cs y) after rest later = stopped_with now y.left y.sender y.queue y.emitted y.chunks (cs ++ y.chunks) after rest later h.turn in
    record { turns = h.turns; turn = subst (λ (z : Filling _). TurnStopped now z after rest later) (sym (after_behind now cs h.turns x)) moved }

-- ---- the whole: what is sent again, and new fragments behind it

module _ {P : Type 0} (now most : ℕ) (s : Sender) (q : Queue) (emitted : Emitted P) where
  abbrev pub begun : Filling P
  begun = filled_with most (without_discards s) (resent most (without_discards s)) (discard_all s.outstanding.items.discards q emitted)

  module _ (t : Sender) (r : Queue) (later : Emitted P) (left : ℕ) (is : filling t r later begun.chunks left ≡ begun) where
    abbrev pub new : Filling P
    new = fill (suc left) now (filling t r later [] left)

    pub sent_as : send now most s q emitted ≡ timed_filling now (behind begun.chunks new)
    sent_as =
        let one : fill (suc left) now (filling t r later begun.chunks left) ≡ behind begun.chunks new =
        ap (λ (l : List (ℕ × FragmentTree)). fill (suc left) now (filling t r later l left)) (sym (with_none begun.chunks)) ∙ fill_behind now begun.chunks (suc left) (filling t r later [] left) in
        ap (λ (x : Filling P). timed_filling now (fill (suc x.left) now x)) (sym is) ∙ ap (λ (x : Filling P). timed_filling now x) one

    pub filling_stopped : (after : Sender) (rest : Queue) (last : Emitted P) → PartlyFilled now (filling t r later [] left) after rest last → PartlyFilled now begun after rest last
    filling_stopped after rest last h =
        let one : behind begun.chunks (filling t r later [] left) ≡ begun = ap (λ (l : List (ℕ × FragmentTree)). filling t r later l left) (with_none begun.chunks) ∙ is in
        subst (λ (x : Filling P). PartlyFilled now x after rest last) one (partly_behind now begun.chunks (filling t r later [] left) after rest last h)

    module _ (last : Sender) (is_again is_new : Bool) (again_is : is_again ≡ nat_lt 0 (length begun.chunks)) (new_is : is_new ≡ nat_lt 0 (length new.chunks)) where
      pub sent_is : (is_again || is_new) ≡ nat_lt 0 (length (send now most s q emitted).chunks)
      sent_is = either_some begun.chunks new.chunks is_again is_new again_is new_is ∙ ap (λ (x : Filling P). nat_lt 0 (length x.chunks)) (sym sent_as)

      pub sender_is : (u : Sender) → u ≡ new.sender → last ≡ start_t3_if (is_again || is_new) now u → last ≡ (send now most s q emitted).sender
      sender_is u eu el =
          el ∙ (ap₂ (λ (b : Bool) (v : Sender). start_t3_if b now v) (either_some begun.chunks new.chunks is_again is_new again_is new_is) eu ∙ ap (λ (x : Filling P). x.sender) (sym sent_as))

    pub taken_is : {S : Type 0} (taken : ℕ × FragmentTree → S → S) (before between after : S) → between ≡ taken_all taken begun.chunks before → after ≡ taken_all taken new.chunks between
        → after ≡ taken_all taken (send now most s q emitted).chunks before
    taken_is taken before between after eb ea =
        ea ∙ (ap (taken_all taken new.chunks) eb ∙ (sym (taken_append taken begun.chunks new.chunks before) ∙ ap (λ (x : Filling P). taken_all taken x.chunks before) (sym sent_as)))

same_filling : {P : Type 0} (x : Filling P) (t : Sender) (r : Queue) (later : Emitted P) (left : ℕ) → t ≡ x.sender → r ≡ x.queue → later ≡ x.emitted → left ≡ x.left → filling t r later x.chunks left ≡ x
same_filling x t r later left et er el eleft = rw (et, er, el, eleft) refl

-- what was given up has left the queue of the sender `v`, and what waits is sent again
module _ {P : Type 0} (now most : ℕ) (s : Sender) (q : Queue) (emitted : Emitted P) (v : Sender) (d : Outstanding) (view_is : v ≡ s) (items : d ≡ record v.outstanding { items = record v.outstanding.items { discards = [] } }) where
  abbrev pub discarded : Sender
  discarded = record v { outstanding = d }

  pub discarded_is : discarded ≡ without_discards s
  discarded_is = ap (λ (o : Outstanding). record v { outstanding = o }) items ∙ ap without_discards view_is

  module _ (r : Queue) (later : Emitted P) (queue : r ≡ (discard_all v.outstanding.items.discards q emitted).queue) (events : later ≡ (discard_all v.outstanding.items.discards q emitted).emitted)
      (t : Sender) (bytes left : ℕ) (again : t ≡ resent_by discarded (resent most discarded)) (size : bytes ≡ saturate_u64 (sizes (is_interleaved t) (resent most discarded).chunks)) (rest : left ≡ most - bytes) where
    again_is : t ≡ (begun now most s q emitted).sender
    again_is = again ∙ ap (λ (x : Sender). resent_by x (resent most x)) discarded_is

    pub begun_is : filling t r later (begun now most s q emitted).chunks left ≡ begun now most s q emitted
    begun_is = same_filling (begun now most s q emitted) t r later left again_is
        (queue ∙ ap (λ (x : Sender). (discard_all x.outstanding.items.discards q emitted).queue) view_is)
        (events ∙ ap (λ (x : Sender). (discard_all x.outstanding.items.discards q emitted).emitted) view_is)
        (rest ∙ ap (λ (n : ℕ). most - n) (size ∙ ap₂ (λ (u x : Sender). saturate_u64 (sizes (is_interleaved u) (resent most x).chunks)) again_is discarded_is))

-- a list that takes each at its end
pub listed : {C : Type 0} (cs l : List C) → taken_all (λ (c : C) (m : List C). m ++ c ∷ []) cs l ≡ l ++ cs
listed [] l = sym (with_none l)
listed (c ∷ cs) l = listed cs (l ++ c ∷ []) ∙ joined l (c ∷ []) cs
