-- What a packet takes, and what its chunks carry.
use Rattle.std.proofs.Common.{◌≡◌, ℕ, zero, suc, ◌+◌, ◌-◌, ◌<◌, ◌≤◌, Bool, true, false, cond, Option, Some, None, List, [], ◌∷◌, ◌++◌, length, length-append, append-nil, refl, sym, ap, ◌∙◌, subst, arith}
use Rattle.std.specs.Prelude.{slice_get, nat_lt, nat_le, ◌&&◌, min}
use Rattle.std.proofs.lemmas.Bool.{false_from_ne_true, false≢true}
use Rattle.sctp_serial.specs.Unwrapped.{origin, u32_space, wire}
use Rattle.sctp_packet.specs.Chunk.{FragmentTree}
use Rattle.sctp_state.specs.Events.{Emitted}
use Rattle.sctp_tx_queue.specs.SendQueue.{Queue, stream}
use Rattle.sctp_tx_queue.specs.Settings.{discard, discard_from, front_discarded, streams_discarded}
use Rattle.sctp_tx_queue.specs.Produced.{Produced, Turn, produce}
use Rattle.sctp_tx_outstanding.specs.declared.item.ItemState.{ItemState}
use Rattle.sctp_tx_outstanding.specs.declared.item.ItemState.TheVariants.{InFlight, Missing, Queued, QueuedFast, Acked, GivenUp}
use Rattle.sctp_tx_outstanding.specs.Item.{Item, waits, waits_fast, is_given_up, is_fast, should_be_retransmitted, is_abandoned, mark_as_retransmitted, miss_fast}
use Rattle.sctp_tx_outstanding.specs.OutstandingData.{Items, Discard, Outstanding, next_number, append_item, wire_tsn}
use Rattle.sctp_tx_outstanding.specs.Losses.{change_items}
use Rattle.sctp_tx_outstanding.specs.Resending.{Resent, size_in, allowance, again_of, again_at, passed_over, turn_of, apply_turn, step_at, resent_below, empty_packet, resend}
use Rattle.sctp_tx.specs.RetransmissionQueue.{Sender}
use Rattle.sctp_tx.specs.Resent.{send_fast, resent, resent_by, flight, resent_fast, may_send_new, start_t3_if}
use Rattle.sctp_tx.specs.Sending.{Filling, offered_payload, item_of, append, take_turn, queue_step_if, next_turn, fill, discard_all, without_discards, filled_with}
use Rattle.proof_protocol.specs.State as rules
use Rattle.proof_protocol.specs.State.{Message, Transfer, fragment, place_of, count}
use Rattle.proof_protocol.specs.Rules.{TransferEvent, IsAllowed, Happens, after, run}
use Rattle.proof_protocol.specs.Invariant.{Invariant}
use Rattle.proof_protocol.proofs.RulesKeepLemmas.{keeps}
use Rattle.proof_protocol.proofs.StepLemmas.{later}
use Rattle.proof_protocol.proofs.ToolsLemmas.{not_both}
use Rattle.proof_refines.specs.SenderRefinement.{tree_of, StandsFor, SenderRefines, ItemsRefine, AreDiscards, messages_of}
use Rattle.proof_refines.specs.Reachable.{recorded_places, SenderLeads, SenderLeadsTo}
use Rattle.proof_refines.specs.Rows.{with_made, Carries, AllCarry, SenderSends}
use Rattle.proof_refines.proofs.ItemsLemmas.{Alike, kept_count, kept_changed, by_resending, by_missing}
use Rattle.proof_refines.proofs.LedLemmas.{leads_none, led_on, led_none}
use Rattle.proof_refines.proofs.LossLemmas.{kept_at}
use Rattle.proof_refines.proofs.TurnLemmas.{produces}
use Rattle.proof_refines.proofs.DiscardLemmas.{discards_all}
use Rattle.sctp_serial.proofs.NumberLemmas.{positive_of_both}

-- ---- what was carried once may come at any later time

module _ (message : ℕ → Message) (is_interleaved : Bool) (first : ℕ) where
  pub carries_once : (x : Transfer) (k : Invariant message is_interleaved x) (e : TransferEvent) → (l : IsAllowed message is_interleaved x e) → (c : ℕ × FragmentTree)
      → (a : Carries message first x.sender c) → (b : Carries message first (after message is_interleaved x e).sender c) × (b.at ≡ a.at)
  carries_once x k e l c a =
      let o = x.sender in
      let o' = (after message is_interleaved x e).sender in
      let n = later message is_interleaved x k e l in
      let grows = n.count_grows in
      let below = a.below in
      let same = n.same_fragment a.at a.below in
      let b : Carries message first o' c = record {
        at = a.at;
        below = omega (arith, below, grows);
        real = ap (λ (f : rules.Fragment). f.placeholder) same ∙ a.real;
        tsn = a.tsn;
        tree =
            a.tree
            ∙ (ap (λ (m : ℕ). tree_of message (record o { written = λ q. m }) (fragment o a.at)) (sym (n.written_stays (place_of o a.at) (k.outgoing.place_begun a.at a.below)))
            ∙ ap (λ (f : rules.Fragment). tree_of message o' f) (sym same));
      } in
      (b, refl)

  pub carries_along : (es : List TransferEvent) (x : Transfer) → Invariant message is_interleaved x → Happens message is_interleaved x es → (c : ℕ × FragmentTree)
      → (a : Carries message first x.sender c) → (b : Carries message first (run message is_interleaved x es).sender c) × (b.at ≡ a.at)
  carries_along [] x k h c a = (a, refl)
  carries_along (e ∷ es) x k h c a =
      let one = carries_once x k e h.0 c a in
      let rest = carries_along es (after message is_interleaved x e) (keeps message is_interleaved x k e h.0) h.1 c one.0 in
      (rest.0, rest.1 ∙ one.1)

  -- a chunk, and where its fragment is
  abbrev pub CarriesFrom : (least : ℕ) → rules.Sender → ℕ × FragmentTree → Type 0
  CarriesFrom least o c = (carries : Carries message first o c) × (least ≤ carries.at)

  pub carries_on : (least : ℕ) (x y : Transfer) (ps : List ℕ) → Invariant message is_interleaved x → SenderLeads message is_interleaved x y ps → (c : ℕ × FragmentTree)
      → CarriesFrom least x.sender c → CarriesFrom least y.sender c
  carries_on least x y ps k l c a =
      let b = carries_along l.events x k l.may c a.0 in
      subst (λ (z : Transfer). CarriesFrom least z.sender c) l.leads (b.0, subst (λ n. least ≤ n) (sym b.1) a.1)

  pub all_on : (least : ℕ) (x y : Transfer) (ps : List ℕ) → Invariant message is_interleaved x → SenderLeads message is_interleaved x y ps → (cs : List (ℕ × FragmentTree))
      → AllCarry message first least x.sender cs → AllCarry message first least y.sender cs
  all_on least x y ps k l [] a = tt
  all_on least x y ps k l (c ∷ cs) a = (carries_on least x y ps k l c a.0, all_on least x y ps k l cs a.1)

pub all_push : (message : ℕ → Message) (first least : ℕ) (o : rules.Sender) (cs : List (ℕ × FragmentTree)) (c : ℕ × FragmentTree) → AllCarry message first least o cs
    → (b : Carries message first o c) → least ≤ b.at → AllCarry message first least o (cs ++ c ∷ [])
all_push message first least o [] c a b l = ((b, l), tt)
all_push message first least o (d ∷ cs) c a b l = (a.0, all_push message first least o cs c a.1 b l)

-- ---- items that are sent again

waits_lives : (s : ItemState) → waits s ≡ true → is_given_up s ≡ false
waits_lives InFlight e = absurd (cc)
waits_lives Missing e = absurd (cc)
waits_lives Queued e = refl
waits_lives QueuedFast e = refl
waits_lives Acked e = absurd (cc)
waits_lives GivenUp e = absurd (cc)

fast_lives : (s : ItemState) → waits_fast s ≡ true → is_given_up s ≡ false
fast_lives InFlight e = absurd (cc)
fast_lives Missing e = absurd (cc)
fast_lives Queued e = absurd (cc)
fast_lives QueuedFast e = refl
fast_lives Acked e = absurd (cc)
fast_lives GivenUp e = absurd (cc)

-- what becomes of an item: it is sent again where it waits, or passed over, or left
module _ (P : Resent → Type 0) (k : ℕ) (x : Resent) (sent : (i : Item) → slice_get x.outstanding.items.kept k ≡ Some i → is_abandoned i ≡ false → P (again_at k x)) (missed : P (passed_over k x)) (left : P x) where
  fast_case : (i : Item) → slice_get x.outstanding.items.kept k ≡ Some i → (b c : Bool) → is_fast i ≡ b → nat_le (size_in x i) x.room ≡ c → P (apply_turn (turn_of true (Some i) x) k x)
  fast_case i h true true e f = rw e (rw f (sent i h (fast_lives i.state e)))
  fast_case i h true false e f = rw e (rw f missed)
  fast_case i h false c e f = rw e left

  queued_case : (i : Item) → slice_get x.outstanding.items.kept k ≡ Some i → (b c : Bool) → should_be_retransmitted i ≡ b → nat_le (size_in x i) (allowance x) ≡ c → P (apply_turn (turn_of false (Some i) x) k x)
  queued_case i h true true e f = rw e (rw f (sent i h (waits_lives i.state e)))
  queued_case i h true false e f = rw e (rw f left)
  queued_case i h false c e f = rw e left

  by_item : (fast : Bool) (o : Option Item) → slice_get x.outstanding.items.kept k ≡ o → P (apply_turn (turn_of fast o x) k x)
  by_item true None h = left
  by_item false None h = left
  by_item true (Some i) h = fast_case i h (is_fast i) (nat_le (size_in x i) x.room) refl refl
  by_item false (Some i) h = queued_case i h (should_be_retransmitted i) (nat_le (size_in x i) (allowance x)) refl refl

  pub by_turn : (fast : Bool) → P (step_at fast k x)
  by_turn fast = by_item fast (slice_get x.outstanding.items.kept k) refl

short : (k : ℕ) (is : List Item) (i : Item) → slice_get is k ≡ Some i → k < length is
short k [] i f = absurd (cc)
short zero (j ∷ is) i f = omega arith
short (suc k) (j ∷ is) i f = let l = short k is i f in omega (arith, l)

module _ (message : ℕ → Message) (lifecycle : ℕ → Option ℕ) (is_interleaved : Bool) (o : rules.Sender) (acknowledged first : ℕ) (fast : Bool) where
  -- the items show the same, and the chunks carry fragments
  pub record Shown (x : Resent) : Type 0 where
    pub items : ItemsRefine message lifecycle is_interleaved o acknowledged x.outstanding.items
    pub first_is : x.outstanding.first ≡ first
    pub chunks_are : AllCarry message first acknowledged o x.chunks

  altered : (x : Resent) (k : ℕ) (g : Item → Item) → ((i : Item) → Alike i (g i)) → Shown x → ItemsRefine message lifecycle is_interleaved o acknowledged (change_items k g x.outstanding.items)
  altered x k g alike a = record { mode = a.items.mode; point = a.items.point; kept = kept_changed message lifecycle o g alike k acknowledged x.outstanding.items.kept a.items.kept }

  one_sent : (k : ℕ) (x : Resent) → Shown x → (i : Item) → slice_get x.outstanding.items.kept k ≡ Some i → is_abandoned i ≡ false → Shown (again_at k x)
  one_sent k x a i f lives =
      let c : Carries message first o (wire_tsn x.outstanding (x.outstanding.items.acked + 1 + k), i.fragment) = record {
        at = acknowledged + k;
        below = below;
        real = false_from_ne_true ((fragment o (acknowledged + k)).placeholder) (λ h. not_both (s.given_up ∙ s.placeholder h) lives);
        tsn = ap (λ z. wire u32_space z (x.outstanding.items.acked + 1 + k)) a.first_is ∙ ap (wire u32_space first) (let p = a.items.point in let n : x.outstanding.items.acked + 1 + k ≡ origin + (acknowledged + k) = omega (arith, p) in n);
        tree = s.carried;
      } in
      subst (λ (o : Option Item). Shown (again_of k o x)) (sym f) (record {
        items = altered x k mark_as_retransmitted by_resending a;
        first_is = a.first_is;
        chunks_are = all_push message first acknowledged o x.chunks (wire_tsn x.outstanding (x.outstanding.items.acked + 1 + k), i.fragment) a.chunks_are c (omega arith);
      })
    where
      s : StandsFor message lifecycle o (fragment o (acknowledged + k)) i
      s = kept_at message lifecycle o acknowledged k x.outstanding.items.kept i f a.items.kept

      below : acknowledged + k < count o
      below = let l = short k x.outstanding.items.kept i f in let c = kept_count message lifecycle o acknowledged x.outstanding.items.kept a.items.kept in omega (arith, l, c)

  one_turn : (k : ℕ) (x : Resent) → Shown x → Shown (step_at fast k x)
  one_turn k x a = by_turn Shown k x (one_sent k x a) (record { items = altered x k miss_fast by_missing a; first_is = a.first_is; chunks_are = a.chunks_are }) a fast

  pub resent_shows : (n : ℕ) (x : Resent) → Shown x → Shown (resent_below fast n x)
  resent_shows zero x a = a
  resent_shows (suc n) x a = one_turn n (resent_below fast n x) (resent_shows n x a)

-- ---- new fragments

last_there : (i : Item) (is : List Item) → slice_get (is ++ i ∷ []) (length is) ≡ Some i
last_there i [] = refl
last_there i (j ∷ is) = last_there i is

module _ {P : Type 0} (message : ℕ → Message) (lifecycle : ℕ → Option ℕ) (is_interleaved : Bool) (x : Transfer) (emitted : Emitted P) (now first : ℕ) where
  pub record Filled (f : Filling P) : Type 0 where
    pub leads : SenderLeadsTo message lifecycle is_interleaved x emitted f.queue f.sender.outstanding.items f.emitted
    pub none_left : f.sender.outstanding.items.discards ≡ []
    pub first_is : f.sender.outstanding.first ≡ first
    pub carried : AllCarry message first x.acknowledged leads.after.sender f.chunks

  -- the chunk of a new fragment
  new_carries : (o : rules.Sender) (acknowledged : ℕ) (s : Items) (d : Outstanding) (p : Produced) → d.first ≡ first → d.items ≡ s → ItemsRefine message lifecycle is_interleaved o acknowledged (append_item (item_of now p) s)
      → (b : Carries message first o (wire_tsn d (next_number d.items), p.fragment)) × (acknowledged ≤ b.at)
  new_carries o acknowledged s d p f e a =
      let i = item_of now p in
      let st = kept_at message lifecycle o acknowledged (length s.kept) (s.kept ++ i ∷ []) i (last_there i s.kept) a.kept in
      let b : Carries message first o (wire_tsn d (next_number d.items), p.fragment) = record {
        at = acknowledged + length s.kept;
        below = (let c = kept_count message lifecycle o acknowledged (s.kept ++ i ∷ []) a.kept in let l = length-append s.kept (i ∷ []) in omega (arith, c, l));
        real = false_from_ne_true ((fragment o (acknowledged + length s.kept)).placeholder) (λ h. false≢true (st.given_up ∙ st.placeholder h));
        tsn =
            ap (λ z. wire u32_space z (next_number d.items)) f
            ∙ (ap (λ (z : Items). wire u32_space first (next_number z)) e ∙ ap (wire u32_space first) (let q = a.point in let n : s.acked + 1 + length s.kept ≡ origin + (acknowledged + length s.kept) = omega (arith, q) in n));
        tree = st.carried;
      } in
      (b, omega arith)

  made_carries : (f : Filling P) (size : ℕ) → 0 < size → Filled f → Filled (take_turn now (produce now size f.queue f.emitted) f).filling
  unfolding led_on
  made_carries f size some a = go (produce now size f.queue f.emitted).made refl
    where
      s : Items
      s = f.sender.outstanding.items

      t : Turn P
      t = produce now size f.queue f.emitted

      b : SenderLeadsTo message lifecycle is_interleaved a.leads.after f.emitted t.queue (with_made now t.made s) t.emitted
      b =
          produces message lifecycle is_interleaved a.leads.after f.emitted s a.none_left now size some (length f.queue.scheduler.times + 2) f.queue f.emitted
          (led_none message lifecycle is_interleaved a.leads.after f.emitted f.queue s a.leads.kept a.leads.refines)

      one : SenderLeadsTo message lifecycle is_interleaved x emitted t.queue (with_made now t.made s) t.emitted
      one = led_on message lifecycle is_interleaved x emitted f.emitted t.emitted f.queue t.queue s (with_made now t.made s) a.leads b

      step : Option Produced → Filling P
      step made = append now made (record f { queue = t.queue; emitted = t.emitted })

      before : AllCarry message first x.acknowledged one.after.sender f.chunks
      before = all_on message is_interleaved first x.acknowledged a.leads.after b.after b.places a.leads.kept b.leads f.chunks a.carried

      stays : one.after.acknowledged ≡ x.acknowledged
      stays = ap (λ (z : Transfer). z.acknowledged) one.leads.rest_stays

      go : (made : Option Produced) → t.made ≡ made → Filled (step t.made)
      go None e =
          subst (λ (m : Option Produced). Filled (step m)) (sym e) (record {
            leads = record { after = one.after; places = one.places; leads = one.leads; kept = one.kept; refines = subst (λ (m : Option Produced). SenderRefines message lifecycle is_interleaved one.after t.queue (with_made now m s)) e one.refines; recorded = one.recorded };
            none_left = a.none_left;
            first_is = a.first_is;
            carried = before;
          })
      go (Some p) e =
          let sh = subst (λ (m : Option Produced). SenderRefines message lifecycle is_interleaved one.after t.queue (with_made now m s)) e one.refines in
          let c = new_carries one.after.sender one.after.acknowledged s f.sender.outstanding p a.first_is refl sh.items in
          subst (λ (m : Option Produced). Filled (step m)) (sym e) (record {
            leads = record { after = one.after; places = one.places; leads = one.leads; kept = one.kept; refines = sh; recorded = one.recorded };
            none_left = a.none_left;
            first_is = a.first_is;
            carried =
                all_push message first x.acknowledged one.after.sender f.chunks (wire_tsn f.sender.outstanding (next_number s), p.fragment) before c.0
                (subst (λ n. n ≤ c.0.at) stays c.1);
          })

  turn_fills : (f : Filling P) → Filled f → Filled (next_turn now f).filling
  turn_fills f a = go (may_send_new f.sender && nat_lt 0 (offered_payload f.left f.sender)) refl
    where
      go : (b : Bool) → (may_send_new f.sender && nat_lt 0 (offered_payload f.left f.sender)) ≡ b → Filled (queue_step_if b now f).filling
      go true e = made_carries f (offered_payload f.left f.sender) (positive_of_both (may_send_new f.sender) (offered_payload f.left f.sender) e) a
      go false e = a

  pub fills : (n : ℕ) (f : Filling P) → Filled f → Filled (fill n now f)
  fills zero f a = a
  fills (suc n) f a = go (next_turn now f).is_more (turn_fills f a) (λ b. fills n (next_turn now f).filling b)
    where
      go : (more : Bool) → Filled (next_turn now f).filling → (Filled (next_turn now f).filling → Filled (fill n now (next_turn now f).filling)) → Filled (cond more (fill n now (next_turn now f).filling) (next_turn now f).filling)
      go true b ih = ih b
      go false b ih = b

-- ---- the whole

one_quiet : {P : Type 0} (id number : ℕ) (q : Queue) (emitted : Emitted P) → recorded_places (discard id number q emitted).emitted ≡ recorded_places emitted
one_quiet id number q emitted = go (front_discarded number (stream id q.streams).messages)
  where
    go : (f : Option (Option ℕ)) → recorded_places (discard_from id (streams_discarded id number q.streams) f q emitted).emitted ≡ recorded_places emitted
    go None = refl
    go (Some l) = refl

quiet_emitted : {P : Type 0} (ds : List Discard) (q : Queue) (emitted : Emitted P) → recorded_places (discard_all ds q emitted).emitted ≡ recorded_places emitted
quiet_emitted [] q emitted = refl
quiet_emitted (d ∷ ds) q emitted =
    let one = discard d.stream d.number q emitted in
    quiet_emitted ds one.queue one.emitted ∙ one_quiet d.stream d.number q emitted

module _ (message : ℕ → Message) (lifecycle : ℕ → Option ℕ) (is_interleaved : Bool) (x : Transfer) (s : Sender) (q : Queue) (sh : SenderRefines message lifecycle is_interleaved x q s.outstanding.items) where
  timed_same : (b : Bool) (now : ℕ) (s : Sender) → (start_t3_if b now s).outstanding ≡ s.outstanding
  timed_same true now s = refl
  timed_same false now s = refl

  resent_again : (fast : Bool) (room window : ℕ) (d : Outstanding) → ItemsRefine message lifecycle is_interleaved x.sender x.acknowledged d.items → Shown message lifecycle is_interleaved x.sender x.acknowledged d.first fast (resend fast room window d)
  resent_again fast room window d a = resent_shows message lifecycle is_interleaved x.sender x.acknowledged d.first fast (length d.items.kept) (empty_packet room window d) (record { items = a; first_is = refl; chunks_are = tt })

  discards_same : (fast : Bool) (n : ℕ) (r : Resent) → (resent_below fast n r).outstanding.items.discards ≡ r.outstanding.items.discards
  discards_same fast zero r = refl
  discards_same fast (suc n) r = one (resent_below fast n r) ∙ discards_same fast n r
    where
      again_same : (k : ℕ) (i : Option Item) (r : Resent) → (again_of k i r).outstanding.items.discards ≡ r.outstanding.items.discards
      again_same k None r = refl
      again_same k (Some i) r = refl

      one : (r : Resent) → (step_at fast n r).outstanding.items.discards ≡ r.outstanding.items.discards
      one r = by_turn (λ (z : Resent). z.outstanding.items.discards ≡ r.outstanding.items.discards) n r (λ i h l. again_same n (slice_get r.outstanding.items.kept n) r) refl refl fast

  pub fast_row : (now most : ℕ) → SenderRefines message lifecycle is_interleaved x q (send_fast now most s).outstanding.items × AllCarry message s.outstanding.first x.acknowledged x.sender (resent_fast most s).chunks
  fast_row now most =
      let r = resent_again true most 0 s.outstanding sh.items in
      let same = timed_same (nat_lt 0 (length (resent_fast most s).chunks)) now (resent_by s (resent_fast most s)) in (
        subst (λ (z : Outstanding). SenderRefines message lifecycle is_interleaved x q z.items) (sym same) (record {
          queue = sh.queue;
          items = r.items;
          discards = subst (λ ds. AreDiscards x.sender (messages_of q) ds) (sym (discards_same true (length s.outstanding.items.kept) (empty_packet most 0 s.outstanding))) sh.discards;
        }),
        r.chunks_are,
      )

  -- what a message that is given up leaves in the queue
  pub discard_row : {P : Type 0} (emitted : Emitted P) → SenderRefines message lifecycle is_interleaved x (discard_all s.outstanding.items.discards q emitted).queue (without_discards s).outstanding.items
      × (recorded_places (discard_all s.outstanding.items.discards q emitted).emitted ≡ recorded_places emitted)
  discard_row emitted =
      let d = discards_all message lifecycle is_interleaved x.sender s.outstanding.items.discards q emitted sh.queue sh.discards in (
        record { queue = d.queue_is; items = record { mode = sh.items.mode; point = sh.items.point; kept = sh.items.kept }; discards = d.none_left },
        quiet_emitted s.outstanding.items.discards q emitted,
      )

  pub send_row : {P : Type 0} → Invariant message is_interleaved x → (now most : ℕ) (emitted : Emitted P) → SenderSends message lifecycle is_interleaved x now most s q emitted
  send_row {P} k now most emitted =
      let quiet = without_discards s in
      let d = discards_all message lifecycle is_interleaved x.sender s.outstanding.items.discards q emitted sh.queue sh.discards in
      let left = discard_all s.outstanding.items.discards q emitted in
      let again = resent most quiet in
      let begun : Filling P = filled_with most quiet again left in
      let r = resent_again false (min most (quiet.windows.cwnd - flight quiet)) quiet.windows.rwnd quiet.outstanding (record { mode = sh.items.mode; point = sh.items.point; kept = sh.items.kept }) in
      let none = discards_same false (length s.outstanding.items.kept) (empty_packet (min most (quiet.windows.cwnd - flight quiet)) quiet.windows.rwnd quiet.outstanding) in
      let start : Filled message lifecycle is_interleaved x emitted now s.outstanding.first begun = record {
        leads = record {
          after = x;
          places = [];
          leads = leads_none message is_interleaved x;
          kept = k;
          refines = record { queue = d.queue_is; items = r.items; discards = subst (λ ds. AreDiscards x.sender (messages_of left.queue) ds) (sym none) d.none_left };
          recorded = quiet_emitted s.outstanding.items.discards q emitted ∙ sym (append-nil (recorded_places emitted));
        };
        none_left = none;
        first_is = r.first_is;
        carried = r.chunks_are;
      } in
      let f = fills message lifecycle is_interleaved x emitted now s.outstanding.first (suc begun.left) begun start in
      let whole = fill (suc begun.left) now begun in
      let same = timed_same (nat_lt 0 (length whole.chunks)) now whole.sender in
      record {
        leads = record {
          after = f.leads.after;
          places = f.leads.places;
          leads = f.leads.leads;
          kept = f.leads.kept;
          refines = subst (λ (z : Outstanding). SenderRefines message lifecycle is_interleaved f.leads.after whole.queue z.items) (sym same) f.leads.refines;
          recorded = f.leads.recorded;
        };
        carried = f.carried;
      }
