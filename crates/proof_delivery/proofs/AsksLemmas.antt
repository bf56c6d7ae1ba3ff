-- The asks of a direction along the rules: what leaves them as they are, and how one is sent, performed and answered.
use Rattle.std.proofs.Common.{◌≡◌, ℕ, zero, suc, ◌+◌, ◌<◌, ◌≤◌, Bool, true, false, cond, ◌⊎◌, inl, inr, Option, Some, None, List, [], ◌∷◌, ◌++◌, length, map, slice_get, refl, ap, sym, ◌∙◌, subst, arith}
use Rattle.std.specs.Prelude.{◌||◌, ◌==◌}
use Rattle.std.proofs.lemmas.Bool.{eqb-true}
use Rattle.std.proofs.lemmas.Option.{slice_get_within}
use Rattle.sctp_wire.specs.Parameter.{ParameterTree, outgoing_reset_request, incoming_reset_request, reset_response}
use Rattle.proof_protocol.specs.State.{Message, IsAmong, has, count, put}
use Rattle.proof_protocol.specs.Rules.{TransferEvent, IsAllowed}
use Rattle.proof_protocol.specs.Invariant.{Invariant}
use Rattle.proof_protocol.specs.Resets as rules
use Rattle.proof_protocol.specs.Resets.{Epochs, ResetEvent, transfers, reset_stream, send_request, perform, commit, goes, go_all}
use Rattle.proof_protocol.proofs.StepLemmas.{later}
use Rattle.proof_protocol.proofs.CommonLemmas.{get_front}
use Rattle.proof_delivery.specs.Asks.{ResetRequest, named_in, request_for, IsResetRequest, AreRequested, SaysOutgoing, SaysIncoming}
use Rattle.proof_refines.proofs.AskedLemmas.{has_this}

-- ---- lists

-- with one more behind
get_added : {X : Type 0} (xs : List X) (y x : X) (n : ℕ) → slice_get (xs ++ y ∷ []) n ≡ Some x → (slice_get xs n ≡ Some x) ⊎ ((n ≡ length xs) × (x ≡ y))
get_added [] y x zero e = inr (refl, cc)
get_added [] y x (suc n) e = cc
get_added (z ∷ xs) y x zero e = inl e
get_added (z ∷ xs) y x (suc n) e = elim (get_added xs y x n e) [ inl a ↦ inl a | inr b ↦ inr (ap suc b.0, b.1) ]

length_more : {X : Type 0} (xs : List X) (y : X) → length (xs ++ y ∷ []) ≡ suc (length xs)
length_more [] y = refl
length_more (x ∷ xs) y = ap suc (length_more xs y)

has_cases : (s k : ℕ) (ks : List ℕ) → has s (k ∷ ks) ≡ true → (s ≡ k) ⊎ (has s ks ≡ true)
has_cases s k ks h = go (s == k) refl h
  where
    go : (b : Bool) → (s == k) ≡ b → (b || has s ks) ≡ true → (s ≡ k) ⊎ (has s ks ≡ true)
    go true e g = inl (eqb-true s k e)
    go false e g = inr g

-- ---- how many name a stream

named_front : (s n : ℕ) (asks more : List ResetRequest) → n ≤ length asks → named_in s n (asks ++ more) ≡ named_in s n asks
named_front s zero asks more l = refl
named_front s (suc n) [] more l = absurd (omega (arith, l))
named_front s (suc n) (a ∷ asks) more l = ap (λ (m : ℕ). cond (has s a.streams) (suc m) m) (named_front s n asks more (omega (arith, l)))

-- with the next one
pub named_next : (s n : ℕ) (asks : List ResetRequest) (a : ResetRequest) → slice_get asks n ≡ Some a → named_in s (suc n) asks ≡ cond (has s a.streams) (suc (named_in s n asks)) (named_in s n asks)
named_next s n [] a e = cc
named_next s zero (b ∷ asks) a e = ap (λ (o : Option ResetRequest). with_it o) e
  where
    with_it : Option ResetRequest → ℕ
    with_it None = 0
    with_it (Some c) = cond (has s c.streams) 1 0
named_next s (suc n) (b ∷ asks) a e =
    ap (λ (m : ℕ). cond (has s b.streams) (suc m) m) (named_next s n asks a e) ∙ swap (has s b.streams) (has s a.streams) (named_in s n asks)
  where
    swap : (c d : Bool) (m : ℕ) → cond c (suc (cond d (suc m) m)) (cond d (suc m) m) ≡ cond d (suc (cond c (suc m) m)) (cond c (suc m) m)
    swap true true m = refl
    swap true false m = refl
    swap false true m = refl
    swap false false m = refl

-- ---- what leaves them as they are

module _ (message : ℕ → Message) (is_interleaved : Bool) (x : Epochs) (asks : List ResetRequest) (done answered : ℕ) (are : AreRequested x asks done answered) where
  -- whatever the transfer does
  pub asks_stay : (e : TransferEvent) → Invariant message is_interleaved x.transfer → IsAllowed message is_interleaved x.transfer e → AreRequested (goes message is_interleaved x (transfers e)) asks done answered
  asks_stay e kept may = record {
    opened = are.opened;
    performed = are.performed;
    fine = λ j a g.
        let f = are.fine j a g in
        let w = f.within in
        let grows = (later message is_interleaved x.transfer kept e may).count_grows in
        record { some = f.some; distinct = f.distinct; within = omega (arith, w, grows) };
    sent = are.sent;
    order = are.order;
  }

  -- and a stream that waits from now on
  pub asks_stay_reset : (s : ℕ) → AreRequested (goes message is_interleaved x (reset_stream s)) asks done answered
  asks_stay_reset s = record {
    opened = are.opened;
    performed = are.performed;
    fine = λ j a g. let f = are.fine j a g in record { some = f.some; distinct = f.distinct; within = f.within };
    sent = are.sent;
    order = are.order;
  }

  -- ---- one is sent

  abbrev request_now : ℕ → rules.Request
  request_now s = record { stream = s; upto = count x.transfer.sender; epoch = x.raised s }

  record Sent (y : Epochs) (ss : List ℕ) : Type 0 where
    opened : y.opened ≡ x.opened
    performed : y.performed ≡ x.performed
    raised : y.raised ≡ x.raised
    transfer : y.transfer ≡ x.transfer
    old : (r : rules.Request) → IsAmong r x.requests → IsAmong r y.requests
    new : (s : ℕ) → has s ss ≡ true → IsAmong (request_now s) y.requests

  sends : (z : Epochs) → z.opened ≡ x.opened → z.performed ≡ x.performed → z.raised ≡ x.raised → z.transfer ≡ x.transfer → ((r : rules.Request) → IsAmong r x.requests → IsAmong r z.requests)
      → (before ss : List ℕ) → ((s : ℕ) → has s before ≡ true → IsAmong (request_now s) z.requests)
      → (((s : ℕ) → has s before ≡ true → IsAmong (request_now s) (go_all message is_interleaved z (map send_request ss)).requests) × Sent (go_all message is_interleaved z (map send_request ss)) ss)
  sends z a b c d old before [] new = (new, record { opened = a; performed = b; raised = c; transfer = d; old = old; new = λ s h. cc })
  sends z a b c d old before (k ∷ ss) new =
      let here : record { stream = k; upto = count z.transfer.sender; epoch = z.raised k } ≡ request_now k =
      (let e = ap (λ o. count o.sender) d in let f = ap (λ (r : ℕ → ℕ). r k) c in λ i. record { stream = k; upto = e i; epoch = f i }) in
      let l = sends (goes message is_interleaved z (send_request k)) a b c d (λ r h. inr (old r h)) (k ∷ before) ss
      (λ s h. elim (has_cases s k before h) [
        | inl e ↦ inl (subst (λ (n : ℕ). request_now n ≡ record { stream = k; upto = count z.transfer.sender; epoch = z.raised k }) (sym e) (sym here))
        | inr g ↦ inr (new s g)
      ]) in (
        λ s h. l.0 s (among_more s k before h),
        record {
          opened = l.1.opened;
          performed = l.1.performed;
          raised = l.1.raised;
          transfer = l.1.transfer;
          old = l.1.old;
          new = λ s h. elim (has_cases s k ss h) [ inl e ↦ l.0 s (has_this s k before e) | inr g ↦ l.1.new s g ];
        },
      )
    where
      among_more : (s k : ℕ) (ks : List ℕ) → has s ks ≡ true → has s (k ∷ ks) ≡ true
      among_more s k ks h = go (s == k)
        where
          go : (b : Bool) → (b || has s ks) ≡ true
          go true = refl
          go false = h

  pub ask_is_sent : (a : ResetRequest) → length asks ≡ answered → IsResetRequest x a → a.upto ≡ count x.transfer.sender → ((s : ℕ) → has s a.streams ≡ true → x.raised s ≡ suc (x.opened s))
      → AreRequested (go_all message is_interleaved x (map send_request a.streams)) (asks ++ a ∷ []) done answered
  ask_is_sent a all fine upto raised =
      let z = (sends x refl refl refl refl (λ r h. h) [] a.streams (λ s h. cc)).1 in
      let y : Epochs = go_all message is_interleaved x (map send_request a.streams) in
      let order = are.order in
      let lo = order.0 in
      let mid = order.1 in
      let more = length_more asks a in
      record {
        opened = λ s. ap (λ (f : ℕ → ℕ). f s) z.opened ∙ (are.opened s ∙ sym (named_front s answered asks (a ∷ []) (omega (arith, all))));
        performed = λ s. ap (λ (f : ℕ → ℕ). f s) z.performed ∙ (are.performed s ∙ sym (named_front s done asks (a ∷ []) mid));
        fine = λ j b g.
            let f : IsResetRequest x b = elim (get_added asks a b j g) [ inl h ↦ are.fine j b h | inr e ↦ subst (IsResetRequest x) (sym e.1) fine ] in
            record { some = f.some; distinct = f.distinct; within = subst (λ t. b.upto ≤ count t.sender) (sym z.transfer) f.within };
        sent = λ j b g s h. elim (get_added asks a b j g) [
          | inl i ↦
              let l = slice_get_within asks j b i in
              subst (λ (n : ℕ). IsAmong (record { stream = s; upto = b.upto; epoch = suc n }) y.requests) (sym (named_front s j asks (a ∷ []) (omega (arith, l)))) (z.old (request_for s j b.upto asks) (are.sent j b i s h))
          | inr e ↦
              let named : has s a.streams ≡ true = subst (λ (c : ResetRequest). has s c.streams ≡ true) e.1 h in
              let epoch : x.raised s ≡ suc (named_in s j (asks ++ a ∷ [])) =
              raised s named ∙ ap suc (are.opened s ∙ (ap (λ (n : ℕ). named_in s n asks) (sym all ∙ sym e.0) ∙ sym (named_front s j asks (a ∷ []) (let m = e.0 in omega (arith, m))))) in
              let to : count x.transfer.sender ≡ b.upto = sym upto ∙ ap (λ (c : ResetRequest). c.upto) (sym e.1) in
              let same : request_now s ≡ record { stream = s; upto = b.upto; epoch = suc (named_in s j (asks ++ a ∷ [])) } = (λ i. record { stream = s; upto = to i; epoch = epoch i }) in
              subst (λ (r : rules.Request). IsAmong r y.requests) same (z.new s named)
        ];
        order = (lo, omega (arith, mid, more), omega (arith, all, more));
      }

-- ---- one is performed, and answered

-- of these streams one value, of the others the one before
written_over : (s k : ℕ) (ks : List ℕ) (next before : ℕ → ℕ) → cond (has s ks) (next s) (put before k (next k) s) ≡ cond (has s (k ∷ ks)) (next s) (before s)
written_over s k ks next before = go (s == k) refl (has s ks)
  where
    go : (b : Bool) → (s == k) ≡ b → (c : Bool) → cond c (next s) (cond b (next k) (before s)) ≡ cond (b || c) (next s) (before s)
    go true e true = refl
    go true e false = ap next (sym (eqb-true s k e))
    go false e c = refl

module _ (message : ℕ → Message) (is_interleaved : Bool) (asks : List ResetRequest) (j : ℕ) (a : ResetRequest) (there : slice_get asks j ≡ Some a) where
  -- what else stays
  record SameButSome (x y : Epochs) : Type 0 where
    raised : y.raised ≡ x.raised
    requests : y.requests ≡ x.requests
    counted : count y.transfer.sender ≡ count x.transfer.sender

  fine_still : (x y : Epochs) → SameButSome x y → (b : ResetRequest) → IsResetRequest x b → IsResetRequest y b
  fine_still x y same b f = let w = f.within in let c = same.counted in record { some = f.some; distinct = f.distinct; within = omega (arith, w, c) }

  sent_still : (x y : Epochs) → SameButSome x y → (done answered : ℕ) → AreRequested x asks done answered
      → (i : ℕ) (b : ResetRequest) → slice_get asks i ≡ Some b → (s : ℕ) → has s b.streams ≡ true → IsAmong (request_for s i b.upto asks) y.requests
  sent_still x y same done answered are i b g s h = subst (λ (rs : List rules.Request). IsAmong (request_for s i b.upto asks) rs) (sym same.requests) (are.sent i b g s h)

  abbrev pub performs_of : List ℕ → List ResetEvent
  performs_of ss = map (λ s. perform (request_for s j a.upto asks)) ss

  record Performed (z y : Epochs) (ss : List ℕ) : Type 0 where
    same : SameButSome z y
    opened : y.opened ≡ z.opened
    performed : (s : ℕ) → y.performed s ≡ cond (has s ss) (suc (named_in s j asks)) (z.performed s)

  performed_along : (ss : List ℕ) (z : Epochs) → Performed z (go_all message is_interleaved z (performs_of ss)) ss
  performed_along [] z = record { same = record { raised = refl; requests = refl; counted = refl }; opened = refl; performed = λ s. refl }
  performed_along (k ∷ ss) z =
      let p = performed_along ss (goes message is_interleaved z (perform (request_for k j a.upto asks))) in
      record {
        same = record { raised = p.same.raised; requests = p.same.requests; counted = p.same.counted };
        opened = p.opened;
        performed = λ s. p.performed s ∙ written_over s k ss (λ n. suc (named_in n j asks)) z.performed;
      }

  pub ask_is_performed : (x : Epochs) (answered : ℕ) → AreRequested x asks j answered → AreRequested (go_all message is_interleaved x (performs_of a.streams)) asks (suc j) answered
  ask_is_performed x answered are =
      let p = performed_along a.streams x in
      let y : Epochs = go_all message is_interleaved x (performs_of a.streams) in
      let below = slice_get_within asks j a there in
      let order = are.order in
      let lo = order.0 in
      record {
        opened = λ s. ap (λ (f : ℕ → ℕ). f s) p.opened ∙ are.opened s;
        performed = λ s. p.performed s ∙ (ap (λ (n : ℕ). cond (has s a.streams) (suc (named_in s j asks)) n) (are.performed s) ∙ sym (named_next s j asks a there));
        fine = λ i b g. fine_still x y p.same b (are.fine i b g);
        sent = sent_still x y p.same j answered are;
        order = (omega (arith, lo), omega (arith, below), order.2);
      }

  record Committed (z y : Epochs) (ss : List ℕ) : Type 0 where
    same : SameButSome z y
    performed : y.performed ≡ z.performed
    opened : (s : ℕ) → y.opened s ≡ cond (has s ss) (z.raised s) (z.opened s)

  committed_along : (ss : List ℕ) (z : Epochs) → Committed z (go_all message is_interleaved z (map commit ss)) ss
  committed_along [] z = record { same = record { raised = refl; requests = refl; counted = refl }; performed = refl; opened = λ s. refl }
  committed_along (k ∷ ss) z =
      let p = committed_along ss (goes message is_interleaved z (commit k)) in
      record {
        same = record { raised = p.same.raised; requests = p.same.requests; counted = p.same.counted };
        performed = p.performed;
        opened = λ s. p.opened s ∙ written_over s k ss z.raised z.opened;
      }

  pub ask_is_answered : (x : Epochs) (done : ℕ) → AreRequested x asks done j → j < done → ((s : ℕ) → has s a.streams ≡ true → x.raised s ≡ suc (x.opened s))
      → AreRequested (go_all message is_interleaved x (map commit a.streams)) asks done (suc j)
  ask_is_answered x done are behind raised =
      let p = committed_along a.streams x in
      let y : Epochs = go_all message is_interleaved x (map commit a.streams) in
      let order = are.order in
      let hi = order.2 in
      record {
        opened = λ s. p.opened s ∙ (by s (has s a.streams) refl ∙ sym (named_next s j asks a there));
        performed = λ s. ap (λ (f : ℕ → ℕ). f s) p.performed ∙ are.performed s;
        fine = λ i b g. fine_still x y p.same b (are.fine i b g);
        sent = sent_still x y p.same done j are;
        order = (omega (arith, behind), order.1, omega (arith, hi));
      }
    where
      by : (s : ℕ) (b : Bool) → has s a.streams ≡ b → cond (has s a.streams) (x.raised s) (x.opened s) ≡ cond (has s a.streams) (suc (named_in s j asks)) (named_in s j asks)
      by s true e =
          ap (λ (b : Bool). cond b (x.raised s) (x.opened s)) e ∙ (raised s e ∙ (ap suc (are.opened s) ∙ sym (ap (λ (b : Bool). cond b (suc (named_in s j asks)) (named_in s j asks)) e)))
      by s false e = ap (λ (b : Bool). cond b (x.raised s) (x.opened s)) e ∙ (are.opened s ∙ sym (ap (λ (b : Bool). cond b (suc (named_in s j asks)) (named_in s j asks)) e))

-- ---- what was said stays true

pub asks_said : (first : ℕ) (asks more : List ResetRequest) (p : ParameterTree) → SaysOutgoing first asks p → SaysOutgoing first (asks ++ more) p
asks_said first asks more (outgoing_reset_request number response last_tsn streams) h =
    record { at = h.at; ask = h.ask; there = get_front asks more h.at h.ask h.there; number_is = h.number_is; last_is = h.last_is; streams_are = h.streams_are }
asks_said first asks more (incoming_reset_request number streams) h = h
asks_said first asks more p h = tt

pub answers_said : (first done asked more further : ℕ) (p : ParameterTree) → SaysIncoming first done asked p → SaysIncoming first (done + more) (asked + further) p
answers_said first done asked more further (reset_response number result sender receiver) h = λ final.
    let s = h final in
    let l = s.below in
    record { at = s.at; number_is = s.number_is; below = omega (arith, l); performed_or_older = elim s.performed_or_older [ inl e ↦ inl e | inr b ↦ inr (omega (arith, b)) ] }
answers_said first done asked more further p h = tt
