-- What waits on a stream that isn't open waits still, through discards, turns of streams, and whole packets.
use Rattle.std.proofs.Common.{◌≡◌, ◌≢◌, ℕ, zero, suc, ◌+◌, ◌<◌, Bool, true, false, cond, inl, inr, Option, Some, None, List, [], ◌∷◌, length, refl, sym, ap, ◌∙◌, subst}
use Rattle.std.specs.Prelude.{◌&&◌, nat_lt, is_some}
use Rattle.std.proofs.lemmas.Bool.{cases_eq, and_parts, ltb-true}
use Rattle.sctp_state.specs.Events.{Emitted}
use Rattle.sctp_tx_queue.specs.declared.send_queue.stream.PauseState.{PauseState}
use Rattle.sctp_tx_queue.specs.declared.send_queue.stream.PauseState.TheVariants.{NotPaused, Pending, Paused, Resetting}
use Rattle.sctp_tx_queue.specs.SendQueue.{Queued, Queue, Stream, stream, is_stopped}
use Rattle.sctp_tx_queue.specs.Produced.{Produced, Turn, fresh, numbers_of, move_past, ends, advance, turn, next_stream, produce_within, produce}
use Rattle.sctp_tx_queue.specs.Settings.{Changed, discard}
use Rattle.sctp_tx_queue.specs.InOrder.{is_first_begun, IsInOrder, IsNumbered}
use Rattle.sctp_tx_queue.proofs.InOrderLemmas.{turn_in_order}
use Rattle.sctp_tx_queue.proofs.NumberLemmas.{turn_numbered}
use Rattle.sctp_tx_queue.proofs.ProduceLemmas.{idles, gives, turned}
use Rattle.sctp_tx_outstanding.specs.OutstandingData.{Discard}
use Rattle.proof_protocol.specs.State.{Message, Sender}
use Rattle.proof_protocol.specs.Resets.{Epochs}
use Rattle.proof_protocol.proofs.ToolsLemmas.{not_both}
use Rattle.sctp_tx.specs.RetransmissionQueue as tx
use Rattle.sctp_tx.specs.Resent.{may_send_new, resent}
use Rattle.sctp_tx.specs.Sending as packets
use Rattle.sctp_tx.specs.Sending.{Filling, offered_payload, append, queue_step_if, fill, discard_all, without_discards, filled_with, send}
use Rattle.proof_refines.specs.SenderRefinement.{find, messages_of, AreDiscards, QueueRefines}
use Rattle.proof_refines.specs.Pauses.{ArePausedAs}
use Rattle.proof_refines.specs.Line.{are_ascending, IsInLine}
use Rattle.proof_refines.specs.Following.{WaitsOn}
use Rattle.proof_refines.proofs.FoundLemmas.{one_value, found_at, found_off}
use Rattle.proof_refines.proofs.DiscardLemmas as discards
use Rattle.proof_refines.proofs.DiscardLemmas.{discard_queue, discard_named}
use Rattle.proof_refines.proofs.PauseRowLemmas.{dropped_follows, discard_pauses, freshened, turned_follows, there, elsewhere, turn_pauses}
use Rattle.proof_refines.proofs.LineRowLemmas.{discarded_line, turned_line, next_flows}
use Rattle.proof_refines.proofs.QueueKeyLemmas.{discard_keyed, turn_keyed}

pub waits_same : (q : Queue) → WaitsOn q q
waits_same q = record { shut = λ k n. n; waiting = λ k p m n f e. f }

pub waits_then : (q r t : Queue) → WaitsOn q r → WaitsOn r t → WaitsOn q t
waits_then q r t a b = record { shut = λ k n. b.shut k (a.shut k n); waiting = λ k p m n f e. b.waiting k p m (a.shut k n) (a.waiting k p m n f e) e }

-- where one stream changes
waits_by : (q r : Queue) (id : ℕ) → ((j : ℕ) → j ≢ id → stream j r.streams ≡ stream j q.streams) → ((stream id r.streams).pause ≡ NotPaused → (stream id q.streams).pause ≡ NotPaused)
    → ((p : ℕ) (m : Queued) → ((stream id q.streams).pause ≡ NotPaused → ⊥) → find p (messages_of q id) ≡ Some m → m.numbers ≡ None → find p (messages_of r id) ≡ Some m) → WaitsOn q r
waits_by q r id elsewhere flows here = record {
  shut = λ k n e. elim (cases_eq k id) [
    | inl c ↦ n (subst (λ j. (stream j q.streams).pause ≡ NotPaused) (sym c) (flows (subst (λ j. (stream j r.streams).pause ≡ NotPaused) c e)))
    | inr d ↦ n (ap (λ (s : Stream). s.pause) (sym (elsewhere k d)) ∙ e)
  ];
  waiting = λ k p m n f e. elim (cases_eq k id) [
    | inl c ↦
        subst (λ j. find p (messages_of r j) ≡ Some m) (sym c)
        (here p m (subst (λ j. (stream j q.streams).pause ≡ NotPaused → ⊥) c n) (subst (λ j. find p (messages_of q j) ≡ Some m) c f) e)
    | inr d ↦ ap (λ (s : Stream). find p s.messages) (elsewhere k d) ∙ f
  ];
}

-- ---- a turn of a stream that isn't stopped

module _ {P : Type 0} (x : Epochs) (q : Queue) (ordered : IsInOrder q) (numbered : IsNumbered q) (h : ArePausedAs x q) (now id size : ℕ) (emitted : Emitted P)
    (goes_on : is_stopped (stream id q.streams).pause ≡ false) where
  abbrev t0 : Stream
  t0 = stream id q.streams

  -- behind a message that is partly sent, one that waits does so still
  still_behind : (p : ℕ) (m : Queued) → m.numbers ≡ None → (ms : List Queued) → is_first_begun ms ≡ true → find p ms ≡ Some m
      → find p (let z : Stream = advance size (record t0 { messages = ms }) in z).messages ≡ Some m
  still_behind p m e [] b f = absurd (cc)
  still_behind p m e (c ∷ rest) b f = by (ends size c)
    where
      other : c.number ≢ p
      other n = not_both b (ap (λ (v : Queued). is_some v.numbers) (one_value (find p (c ∷ rest)) c m (found_at p c rest n) f) ∙ ap is_some e)

      behind : find p rest ≡ Some m
      behind = sym (found_off p c rest other) ∙ f

      part : Queued
      part = move_past size (numbers_of (record t0 { messages = c ∷ rest }) c) c

      by : (b : Bool) → find p (cond b rest (part ∷ rest)) ≡ Some m
      by true = behind
      by false = found_off p part rest other ∙ behind

  still_there : (p : ℕ) (m : Queued) → m.numbers ≡ None → find p t0.messages ≡ Some m → (pause : PauseState) → t0.pause ≡ pause → (t0.pause ≡ NotPaused → ⊥)
      → find p (messages_of (turn now id size q emitted).queue id) ≡ Some m
  still_there p m e f NotPaused c n = absurd (n c)
  still_there p m e f Pending c n =
      let b = (h id).pending c in
      ap (λ (z : Stream). find p z.messages) (there x q ordered numbered h now id size emitted goes_on)
      ∙ (ap (λ (ms : List Queued). find p (let z : Stream = advance size (record t0 { messages = ms }) in z).messages) ((freshened x q ordered numbered h now id size emitted goes_on).begun b)
      ∙ still_behind p m e t0.messages b f)
  still_there p m e f Paused c n = absurd (not_both (ap is_stopped c) goes_on)
  still_there p m e f Resetting c n = absurd (not_both (ap is_stopped c) goes_on)

  pub turn_waits : WaitsOn q (turn now id size q emitted).queue
  turn_waits =
      waits_by q (turn now id size q emitted).queue id (elsewhere x q ordered numbered h now id size emitted goes_on)
      (λ e. (turned_follows x q ordered numbered h now id size emitted goes_on (fresh now t0.messages) refl).flows
      (ap (λ (z : Stream). z.pause) (sym (there x q ordered numbered h now id size emitted goes_on)) ∙ e))
      (λ p m n f e. still_there p m e f t0.pause refl n)

-- ---- all that a queue keeps

-- at these epochs
pub record Stands (x : Epochs) (q : Queue) : Type 0 where
  pub ordered : IsInOrder q
  pub numbered : IsNumbered q
  pub line : IsInLine q
  pub paused : ArePausedAs x q
  pub keyed : are_ascending 0 q.streams.entries ≡ true

pub record StandsOn (x : Epochs) (q r : Queue) : Type 0 where
  pub stands : Stands x r
  pub waits : WaitsOn q r

stands_same : (x : Epochs) (q : Queue) → Stands x q → StandsOn x q q
stands_same x q h = record { stands = h; waits = waits_same q }

stands_then : (x : Epochs) (q r t : Queue) → StandsOn x q r → StandsOn x r t → StandsOn x q t
stands_then x q r t a b = record { stands = b.stands; waits = waits_then q r t a.waits b.waits }

module _ {P : Type 0} (x : Epochs) (now size : ℕ) (some : 0 < size) where
  one_turn : (q : Queue) (emitted : Emitted P) (id : ℕ) → next_stream q ≡ Some id → Stands x q → StandsOn x q (turn now id size q emitted).queue
  one_turn q emitted id next h =
      let flows = next_flows x q h.ordered h.line h.paused id next in
      record {
        stands = record {
          ordered = turn_in_order now id size q emitted some next h.ordered;
          numbered = turn_numbered now id size q emitted h.numbered;
          line = turned_line now id size emitted q h.line;
          paused = turn_pauses x q h.ordered h.numbered h.paused now id size emitted flows;
          keyed = turn_keyed now id size q emitted h.keyed;
        };
        waits = turn_waits x q h.ordered h.numbered h.paused now id size emitted flows;
      }

  within : (n : ℕ) (q : Queue) (emitted : Emitted P) → Stands x q → StandsOn x q (produce_within n now size q emitted).queue
  within zero q emitted h = stands_same x q h
  within (suc n) q emitted h = go (next_stream q) refl (within n)
    where
      Rest : Type 0
      Rest = (r : Queue) (later : Emitted P) → Stands x r → StandsOn x r (produce_within n now size r later).queue

      given : (id : ℕ) → next_stream q ≡ Some id → Rest → (made : Option Produced) → (turn now id size q emitted).made ≡ made → StandsOn x q (produce_within (suc n) now size q emitted).queue
      given id next rest None e =
          let t = turn now id size q emitted in
          let one = one_turn q emitted id next h in
          subst (λ (t : Turn P). StandsOn x q t.queue) (sym (turned n now size id q emitted next (sym e)))
          (stands_then x q t.queue (produce_within n now size t.queue t.emitted).queue one (rest t.queue t.emitted one.stands))
      given id next rest (Some made) e = subst (λ (t : Turn P). StandsOn x q t.queue) (sym (gives n now size id q emitted made next (sym e))) (one_turn q emitted id next h)

      go : (o : Option ℕ) → next_stream q ≡ o → Rest → StandsOn x q (produce_within (suc n) now size q emitted).queue
      go None e rest = subst (λ (t : Turn P). StandsOn x q t.queue) (sym (idles n now size q emitted e)) (stands_same x q h)
      go (Some id) e rest = given id e rest (turn now id size q emitted).made refl

  pub produces_stand : (q : Queue) (emitted : Emitted P) → Stands x q → StandsOn x q (produce now size q emitted).queue
  produces_stand q emitted = within (length q.scheduler.times + 2) q emitted

-- ---- discards

module _ {P : Type 0} (message : ℕ → Message) (lifecycle : ℕ → Option ℕ) (is_interleaved : Bool) (o : Sender) (x : Epochs) where
  one_discard : (q : Queue) (id number : ℕ) (emitted : Emitted P) → QueueRefines message lifecycle is_interleaved o q → o.given_up number ≡ true → Stands x q → StandsOn x q (discard id number q emitted).queue
  one_discard q id number emitted h given_up a =
      let r : Queue = (discard id number q emitted).queue in
      let shown = discard_queue message lifecycle is_interleaved o q id number emitted h given_up in
      record {
        stands = record {
          ordered = shown.order;
          numbered = shown.rising;
          line = discarded_line id number emitted q a.line;
          paused = discard_pauses message lifecycle is_interleaved o q id number emitted h x a.paused;
          keyed = discard_keyed id number q emitted a.keyed;
        };
        waits = waits_by q r id (discards.elsewhere message lifecycle is_interleaved o q id number emitted)
            (λ e. (dropped_follows message lifecycle is_interleaved o q id number emitted h x a.paused (stream id q.streams).messages refl).flows
            (ap (λ (z : Stream). z.pause) (sym (discards.there message lifecycle is_interleaved o q id number emitted)) ∙ e)) still;
      }
    where
      still : (p : ℕ) (m : Queued) → ((stream id q.streams).pause ≡ NotPaused → ⊥) → find p (messages_of q id) ≡ Some m → m.numbers ≡ None
          → find p (messages_of (discard id number q emitted).queue id) ≡ Some m
      still p m n f e = elim (cases_eq p number) [
        | inl c ↦ absurd (not_both ((h.messages.entries id number m (ap (λ z. find z (messages_of q id)) (sym c) ∙ f)).partly_sent given_up) (ap is_some e))
        | inr d ↦ discards.same_found message lifecycle is_interleaved o q id number emitted h given_up id p d ∙ f
      ]

  pub discards_stand : (ds : List Discard) (q : Queue) (emitted : Emitted P) → QueueRefines message lifecycle is_interleaved o q → AreDiscards o (messages_of q) ds → Stands x q → StandsOn x q (discard_all ds q emitted).queue
  discards_stand [] q emitted h a s = stands_same x q s
  discards_stand (d ∷ ds) q emitted h a s =
      let given_up = a.given_up d (inl refl) in
      let y : Changed P = discard d.stream d.number q emitted in
      let one = one_discard q d.stream d.number emitted h given_up s in
      stands_then x q y.queue (discard_all ds y.queue y.emitted).queue one
      (discards_stand ds y.queue y.emitted (discard_queue message lifecycle is_interleaved o q d.stream d.number emitted h given_up) (discard_named message lifecycle is_interleaved o q d.stream d.number emitted h given_up ds a) one.stands)

-- ---- packets

module _ {P : Type 0} (x : Epochs) (now : ℕ) where
  appended_queue : (made : Option Produced) (f : Filling P) → (append now made f).queue ≡ f.queue
  appended_queue None f = refl
  appended_queue (Some p) f = refl

  turned_stands : (b : Bool) (f : Filling P) → (may_send_new f.sender && nat_lt 0 (offered_payload f.left f.sender)) ≡ b → Stands x f.queue → StandsOn x f.queue (queue_step_if b now f).filling.queue
  turned_stands false f e h = stands_same x f.queue h
  turned_stands true f e h =
      let size = offered_payload f.left f.sender in
      let t : Turn P = produce now size f.queue f.emitted in
      let some : 0 < size = ltb-true 0 size (and_parts (may_send_new f.sender) (nat_lt 0 size) e).1 in
      subst (λ (r : Queue). StandsOn x f.queue r) (sym (appended_queue t.made (record f { queue = t.queue; emitted = t.emitted }))) (produces_stand x now size some f.queue f.emitted h)

  fills_stand : (n : ℕ) (f : Filling P) → Stands x f.queue → StandsOn x f.queue (fill n now f).queue
  fills_stand zero f h = stands_same x f.queue h
  fills_stand (suc n) f h =
      let y : Filling P = (packets.next_turn now f).filling in
      let one : StandsOn x f.queue y.queue = turned_stands (may_send_new f.sender && nat_lt 0 (offered_payload f.left f.sender)) f refl h in
      by (packets.next_turn now f).is_more y (fill n now y) one (fills_stand n y one.stands)
    where
      by : (b : Bool) (y z : Filling P) → StandsOn x f.queue y.queue → StandsOn x y.queue z.queue → StandsOn x f.queue (cond b z y).queue
      by true y z a c = stands_then x f.queue y.queue z.queue a c
      by false y z a c = a

  pub send_stands : (message : ℕ → Message) (lifecycle : ℕ → Option ℕ) (is_interleaved : Bool) (o : Sender) (most : ℕ) (s : tx.Sender) (q : Queue) (emitted : Emitted P) → QueueRefines message lifecycle is_interleaved o q
      → AreDiscards o (messages_of q) s.outstanding.items.discards → Stands x q → StandsOn x q (send now most s q emitted).queue
  send_stands message lifecycle is_interleaved o most s q emitted h a stands =
      let left : Changed P = discard_all s.outstanding.items.discards q emitted in
      let begun : Filling P = filled_with most (without_discards s) (resent most (without_discards s)) left in
      let one = discards_stand message lifecycle is_interleaved o x s.outstanding.items.discards q emitted h a stands in
      stands_then x q left.queue (fill (suc begun.left) now begun).queue one (fills_stand (suc begun.left) begun one.stands)
