-- A stream is to be reset: its messages of which nothing was sent are given up.
use Rattle.std.proofs.Common.{◌≡◌, ◌≢◌, ℕ, ◌+◌, ◌^◌, ◌<◌, ◌≤◌, Bool, true, false, inl, inr, Option, None, List, [], ◌∷◌, ◌++◌, map, filter, refl, sym, ap, ◌∙◌, subst, arith, append-nil}
use Rattle.std.specs.Prelude.{not, ◌&&◌, ◌==◌, nat_le, nat_lt, is_some}
use Rattle.std.specs.List.{list_all}
use Rattle.std.proofs.lemmas.Bool.{cases_eq, and_parts, and_from, cond-true, cond-false, eqb-true, le-leb, lt-ltb, not-true, false_from_ne_true}
use Rattle.sctp_serial.specs.Unwrapped.{origin}
use Rattle.sctp_state.specs.Events.{Emitted, nothing_emitted}
use Rattle.sctp_tx_queue.specs.SendQueue.{Queued, Queue, Stream, stream}
use Rattle.sctp_tx_queue.specs.InOrder.{is_unsent, is_begun_or_waiting, are_in_order, are_rising}
use Rattle.sctp_tx_queue.specs.Resets.{is_partly, prepare_stream, prepare_reset}
use Rattle.sctp_tx_queue.proofs.InOrderLemmas.{set_bytes_mode, prepared_in_order}
use Rattle.sctp_tx_queue.proofs.NumberLemmas.{calls_number, lowered}
use Rattle.sctp_tx_queue.proofs.RestLemmas.{calls_leave_rests}
use Rattle.sctp_tx_outstanding.specs.OutstandingData.{Items}
use Rattle.proof_protocol.specs.State.{Message, Transfer, put}
use Rattle.proof_protocol.specs.Rules.{give_up, Happens, after, run}
use Rattle.proof_protocol.specs.Invariant.{Invariant}
use Rattle.proof_protocol.proofs.ToolsLemmas.{put_at, put_off, not_both}
use Rattle.proof_refines.specs.SenderRefinement.{find, messages_of, AreKept, AreQueued, AreDiscards, IsNext, SenderRefines}
use Rattle.proof_refines.specs.Pauses.{unsent_of, give_up_rules, Prepares}
use Rattle.proof_refines.proofs.FoundLemmas.{funext, found_off, once, rises}
use Rattle.proof_refines.proofs.FreshLemmas.{put_here, put_over, drops}
use Rattle.proof_refines.proofs.AcceptLemmas.{written, unwritten}

-- ---- one message among others

at_least : (least most : ℕ) (front : List Queued) (m : Queued) (rest : List Queued) → are_rising least most (front ++ m ∷ rest) ≡ true → least ≤ m.number
at_least least most [] m rest h = (rises least most m rest h).low
at_least least most (c ∷ cs) m rest h =
    let r = rises least most c (cs ++ m ∷ rest) h in
    let low = r.low in
    let l = at_least (c.number + 1) most cs m rest r.behind in
    omega (arith, low, l)

record IsAmongOthers (least most : ℕ) (front : List Queued) (m : Queued) (rest : List Queued) : Type 0 where
  before : find m.number front ≡ None
  behind : find m.number rest ≡ None
  without : are_rising least most (front ++ rest) ≡ true

among_others : (least most : ℕ) (front : List Queued) (m : Queued) (rest : List Queued) → are_rising least most (front ++ m ∷ rest) ≡ true → IsAmongOthers least most front m rest
among_others least most [] m rest h =
    let r = rises least most m rest h in
    let low = r.low in
    record { before = refl; behind = once least most m rest h; without = lowered least (m.number + 1) most rest (omega (arith, low)) r.behind }
among_others least most (c ∷ cs) m rest h =
    let r = rises least most c (cs ++ m ∷ rest) h in
    let z = among_others (c.number + 1) most cs m rest r.behind in
    let above = at_least (c.number + 1) most cs m rest r.behind in
    record {
      before = found_off m.number c cs (λ e. omega (arith, e, above)) ∙ z.before;
      behind = z.behind;
      without =
          and_from (nat_le least c.number && nat_lt c.number most) (are_rising (c.number + 1) most (cs ++ rest))
          (and_from (nat_le least c.number) (nat_lt c.number most) (le-leb least c.number r.low) (lt-ltb c.number most r.high)) z.without;
    }

-- ---- what is partly sent stands before the rest

abbrev pub is_new : Queued → Bool
is_new m = not (is_some m.numbers)

abbrev pub is_whole : Queued → Bool
is_whole m = not (is_partly m)

pub record Waits (ms : List Queued) : Type 0 where
  pub none : filter is_partly ms ≡ []
  pub all : filter is_whole ms ≡ ms
  pub new : list_all is_new ms ≡ true

pub waits : (ms : List Queued) → list_all is_unsent ms ≡ true → Waits ms
waits [] h = record { none = refl; all = refl; new = refl }
waits (m ∷ rest) h =
    let a = and_parts (is_unsent m) (list_all is_unsent rest) h in
    let w = and_parts (not (is_some m.numbers)) (m.offset == 0) a.0 in
    let z = waits rest a.1 in
    let p : is_partly m ≡ false = ap (λ n. nat_lt 0 n) (eqb-true m.offset 0 w.1) in
    record {
      none = cond-false (is_partly m) (m ∷ filter is_partly rest) (filter is_partly rest) p ∙ z.none;
      all = cond-true (is_whole m) (m ∷ filter is_whole rest) (filter is_whole rest) (ap not p) ∙ ap (λ (l : List Queued). m ∷ l) z.all;
      new = and_from (is_new m) (list_all is_new rest) w.0 z.new;
    }

record Splits (ms : List Queued) : Type 0 where
  is : ms ≡ filter is_partly ms ++ filter is_whole ms
  new : list_all is_new (filter is_whole ms) ≡ true

splits : (ms : List Queued) → are_in_order ms ≡ true → Splits ms
splits [] h = record { is = refl; new = refl }
splits (m ∷ rest) h = go (is_partly m) refl
  where
    a : (is_begun_or_waiting m ≡ true) × (list_all is_unsent rest ≡ true)
    a = and_parts (is_begun_or_waiting m) (list_all is_unsent rest) h

    z : Waits rest
    z = waits rest a.1

    go : (b : Bool) → is_partly m ≡ b → Splits (m ∷ rest)
    go true p =
        let front : filter is_partly (m ∷ rest) ≡ m ∷ [] = cond-true (is_partly m) (m ∷ filter is_partly rest) (filter is_partly rest) p ∙ ap (λ (l : List Queued). m ∷ l) z.none in
        let back : filter is_whole (m ∷ rest) ≡ rest = cond-false (is_whole m) (m ∷ filter is_whole rest) (filter is_whole rest) (ap not p) ∙ z.all in
        record {
          is = sym (ap (λ (l : List Queued). l ++ filter is_whole (m ∷ rest)) front ∙ ap (λ (l : List Queued). m ∷ l) back);
          new = ap (list_all is_new) back ∙ z.new;
        }
    go false p =
        let front : filter is_partly (m ∷ rest) ≡ [] = cond-false (is_partly m) (m ∷ filter is_partly rest) (filter is_partly rest) p ∙ z.none in
        let back : filter is_whole (m ∷ rest) ≡ m ∷ rest = cond-true (is_whole m) (m ∷ filter is_whole rest) (filter is_whole rest) (ap not p) ∙ ap (λ (l : List Queued). m ∷ l) z.all in
        let none : is_some m.numbers ≡ false =
        false_from_ne_true (is_some m.numbers) (λ e. not_both (sym (cond-true (is_some m.numbers) (nat_lt 0 m.offset) (m.offset == 0) e) ∙ a.0) p) in
        record {
          is = sym (ap (λ (l : List Queued). l ++ filter is_whole (m ∷ rest)) front ∙ back);
          new = ap (list_all is_new) back ∙ and_from (is_new m) (list_all is_new rest) (ap not none) z.new;
        }

-- ---- one after the other is given up

module _ (message : ℕ → Message) (lifecycle : ℕ → Option ℕ) (is_interleaved : Bool) (s : Items) (id : ℕ) (front : List Queued) where
  abbrev all_given : Transfer → List Queued → Transfer
  all_given x ws = run message is_interleaved x (give_up_rules (map (λ (m : Queued). m.number) ws))

  record Emptied (x : Transfer) (ms : ℕ → List Queued) (ws : List Queued) : Type 0 where
    may : Happens message is_interleaved x (give_up_rules (map (λ (m : Queued). m.number) ws))
    kept_is : Invariant message is_interleaved (all_given x ws)
    queued : AreQueued message lifecycle (all_given x ws).sender (put ms id front)
    items : AreKept message lifecycle (all_given x ws).sender (all_given x ws).acknowledged s.kept
    discards_are : AreDiscards (all_given x ws).sender (put ms id front) s.discards
    counts_stay : (all_given x ws).sender.following ≡ x.sender.following
    accepted_stays : (all_given x ws).sender.accepted ≡ x.sender.accepted
    acknowledged_stays : (all_given x ws).acknowledged ≡ x.acknowledged

  empties : (least most : ℕ) (ws : List Queued) (x : Transfer) (k : Invariant message is_interleaved x) (ms : ℕ → List Queued) → ms id ≡ front ++ ws
      → are_rising least most (front ++ ws) ≡ true → list_all is_new ws ≡ true → AreQueued message lifecycle x.sender ms
      → AreKept message lifecycle x.sender x.acknowledged s.kept → AreDiscards x.sender ms s.discards → Emptied x ms ws
  empties least most [] x k ms h r n a kept d =
      let same : put ms id front ≡ ms = put_here ms id front (h ∙ append-nil front) in
      record {
        may = tt;
        kept_is = k;
        queued = subst (λ (z : ℕ → List Queued). AreQueued message lifecycle x.sender z) (sym same) a;
        items = kept;
        discards_are = subst (λ (z : ℕ → List Queued). AreDiscards x.sender z s.discards) (sym same) d;
        counts_stay = refl;
        accepted_stays = refl;
        acknowledged_stays = refl;
      }
  empties least most (m ∷ rest) x k ms h r n a kept d =
      let z = among_others least most front m rest r in
      let u = and_parts (is_new m) (list_all is_new rest) n in
      let one = drops message lifecycle is_interleaved x k ms a s kept d id front m rest h z.before z.behind (not-true (is_some m.numbers) u.0) in
      let x1 : Transfer = after message is_interleaved x (give_up m.number) in
      let f = empties least most rest x1 one.kept_is (put ms id (front ++ rest)) (put_at ms id (front ++ rest) id refl) z.without u.1 one.queued one.items one.discards_are in
      let over = put_over ms id (front ++ rest) front in
      record {
        may = (one.may, f.may);
        kept_is = f.kept_is;
        queued = subst (λ (z : ℕ → List Queued). AreQueued message lifecycle (all_given x1 rest).sender z) over f.queued;
        items = f.items;
        discards_are = subst (λ (z : ℕ → List Queued). AreDiscards (all_given x1 rest).sender z s.discards) over f.discards_are;
        counts_stay = f.counts_stay;
        accepted_stays = f.accepted_stays;
        acknowledged_stays = f.acknowledged_stays;
      }

-- ---- the row

module _ {P : Type 0} (message : ℕ → Message) (lifecycle : ℕ → Option ℕ) (is_interleaved : Bool) (x : Transfer) (q : Queue) (s : Items) (k : Invariant message is_interleaved x)
    (sh : SenderRefines message lifecycle is_interleaved x q s) (id : ℕ) (emitted : Emitted P) where
  abbrev t : Stream
  t = stream id q.streams

  abbrev later : Queue
  later = (prepare_reset id q emitted).queue

  parted : Splits t.messages
  parted = splits t.messages (sh.queue.order.order id)

  emptied : Emptied message lifecycle is_interleaved s id (filter is_partly t.messages) x (messages_of q) (filter is_whole t.messages)
  emptied =
      empties message lifecycle is_interleaved s id (filter is_partly t.messages) 0 q.next_number (filter is_whole t.messages) x k (messages_of q) parted.is
      (ap (are_rising 0 q.next_number) (sym parted.is) ∙ sh.queue.rising.rising id) parted.new sh.queue.messages sh.items.kept sh.discards

  here : stream id later.streams ≡ prepare_stream t
  here = written id (prepare_stream t) q.streams

  off : (j : ℕ) → j ≢ id → stream j later.streams ≡ stream j q.streams
  off j d = unwritten j id (prepare_stream t) q.streams d

  all : messages_of later ≡ put (messages_of q) id (filter is_partly t.messages)
  all = funext (messages_of later) (put (messages_of q) id (filter is_partly t.messages)) each
    where
      each : (j : ℕ) → messages_of later j ≡ put (messages_of q) id (filter is_partly t.messages) j
      each j =
          elim (cases_eq j id) [
            | inl e ↦ ap (λ z. messages_of later z) e ∙ (ap (λ (z : Stream). z.messages) here ∙ sym (put_at (messages_of q) id (filter is_partly t.messages) j e))
            | inr d ↦ ap (λ (z : Stream). z.messages) (off j d) ∙ sym (put_off (messages_of q) id (filter is_partly t.messages) j d)
          ]

  pub prepares_row : Prepares message lifecycle is_interleaved x q s id emitted
  prepares_row =
      let e = emptied in
      let o' = (run message is_interleaved x (give_up_rules (unsent_of q id))).sender in
      let same : (kind : Bool) (j : ℕ) → o'.following kind j ≡ x.sender.following kind j = (λ kind j. ap (λ z. z kind j) e.counts_stay) in
      let next : (j : ℕ) (st : Stream) → IsNext x.sender j st → IsNext o' j st =
      (λ j st n. record {
        ssn = n.ssn ∙ ap (λ z. origin + z) (sym (same true j));
        ordered_mid = n.ordered_mid ∙ ap (λ z. origin + z) (sym (same true j));
        unordered_mid = n.unordered_mid ∙ ap (λ z. origin + z) (sym (same false j));
      }) in
      record {
        may = e.may;
        kept = e.kept_is;
        refines = record {
          queue = record {
            mode = set_bytes_mode id _ _ q.scheduler ∙ sh.queue.mode;
            order = prepared_in_order id q emitted sh.queue.order;
            rising = calls_number.prepared id q nothing_emitted sh.queue.rising;
            rests = calls_leave_rests.prepared id q nothing_emitted sh.queue.rests;
            accepted = sh.queue.accepted ∙ sym e.accepted_stays;
            few = subst (λ n. n < 2 ^ 32) (sym e.accepted_stays) sh.queue.few;
            next = λ j. next j (stream j later.streams) (elim (cases_eq j id) [
              | inl c ↦
                  let n = sh.queue.next id in
                  subst (λ z. IsNext x.sender z (stream z later.streams)) (sym c)
                  (subst (λ (z : Stream). IsNext x.sender id z) (sym here) (record { ssn = n.ssn; ordered_mid = n.ordered_mid; unordered_mid = n.unordered_mid }))
              | inr d ↦ subst (λ (z : Stream). IsNext x.sender j z) (sym (off j d)) (sh.queue.next j)
            ]);
            messages = subst (λ (z : ℕ → List Queued). AreQueued message lifecycle o' z) (sym all) e.queued;
          };
          items = record {
            mode = sh.items.mode;
            point = sh.items.point ∙ ap (λ n. origin + n) (sym e.acknowledged_stays);
            kept = e.items;
          };
          discards = subst (λ (z : ℕ → List Queued). AreDiscards o' z s.discards) (sym all) e.discards_are;
        };
      }
