-- Each act preserves the handover invariant of an end.
use Rattle.std.proofs.Common.{◌≡◌, ℕ, ◌^◌, ◌<◌, ◌||◌, ◌==◌, not, Bool, true, false, Result, Ok, Err, List, [], ◌∷◌, ◌++◌, inl, inr, refl, sym, ap, subst, ◌∙◌, arith}
use Rattle.std.proofs.lemmas.Bool.Decides.{nat_tests}
use Rattle.std.proofs.lemmas.Bool.{and_parts}
use Rattle.sctp_serial.specs.Unwrapped.{u32_space}
use Rattle.sctp_packet.specs.Chunk.{ChunkTree, cookie_echo_chunk}
use Rattle.sctp_packet.specs.Packet.{PacketTree}
use Rattle.sctp_packet.specs.Grammar.{Each}
use Rattle.sctp_capabilities.specs.Capabilities.{zero_checksum_enabled}
use Rattle.sctp_capabilities.specs.declared.state_cookie.StateCookieError.{StateCookieError}
use Rattle.sctp_capabilities.specs.StateCookie.{Cookie, cookie_from, has_tags, check_cookie, read_cookie}
use Rattle.sctp_tx_queue.specs.SendQueue.{Queue}
use Rattle.sctp_tx_queue.specs.Settings.{set_mode}
use Rattle.sctp_tx_queue.specs.Restarted.{reset}
use Rattle.sctp_tx_queue.proofs.InOrderLemmas.{mode_in_order, reset_unsent, reset_in_order}
use Rattle.sctp_tx_queue.proofs.RestLemmas.{calls_leave_rests}
use Rattle.spec_endpoint.specs.Association.{Tcb, Phase, State, Closed, CookieWait, Open, Context}
use Rattle.spec_endpoint.specs.Handover.{method_if}
use Rattle.spec_endpoint.specs.Opening.{queue_anew, queue_if, other_mode, queue_for}
use Rattle.spec_endpoint.specs.Laws.{Call}
use Rattle.proof_endpoint.specs.HandoverRoundTrip.{IsConnected, IsNumberedOnce, CallsNumberOnce}
use Rattle.proof_endpoint.proofs.ReceivedLemmas.{IsByte, word_in_fits}
use Rattle.proof_endpoint.specs.Acts.{BringsChunk, IsEchoed}
use Rattle.proof_pair.specs.HandoverInvariants.{IsAssociated, IsOrdered, HandoverInvariantOf, NamesPeer, HandsIn}
use Rattle.proof_pair.proofs.StayLemmas.{Lasts, lasts_same}
use Rattle.proof_pair.proofs.QueueGoesLemmas.{Goes, goes_same, reset_sorted, reset_next}

-- ---- what a peer names

module _ {X : Type 0} (P : X → Type 0) where
  each_among : (before : List X) (x : X) (behind : List X) → Each P (before ++ x ∷ behind) → P x
  each_among [] x behind h = h.0
  each_among (y ∷ ys) x behind h = each_among ys x behind h.1

pub names : (call : Call) → HandsIn call → (tag : ℕ) (chunk : ChunkTree) → BringsChunk call tag chunk → NamesPeer chunk
names call h tag chunk received =
    let p : PacketTree = received.packet in
    let all : Each NamesPeer p.chunks = subst HandsIn received.given h in
    each_among NamesPeer received.among.before chunk received.among.behind (subst (Each NamesPeer) received.among.split all)

pub record IsNamed (k : Cookie) : Type 0 where
  pub my_tag : 0 < k.my_tag
  pub peer_tag : 0 < k.peer_tag
  pub my_first : k.my_initial_tsn < u32_space
  pub peer_first : k.peer_initial_tsn < u32_space

firsts_small : (bytes : List ℕ) → Each IsByte bytes → ((cookie_from bytes).my_initial_tsn < u32_space) × ((cookie_from bytes).peer_initial_tsn < u32_space)
unfolding cookie_from
firsts_small bytes h = (word_in_fits 20 bytes h, word_in_fits 16 bytes h)

not_zero : (n : ℕ) → not (n == 0) ≡ true → 0 < n
not_zero n e = grind (arith, nat_tests)

tags_some : (k : Cookie) → has_tags k ≡ true → (0 < k.my_tag) × (0 < k.peer_tag)
tags_some k e =
    let parts = and_parts (not (k.peer_tag == 0)) (not (k.my_tag == 0)) e in
    (not_zero k.my_tag parts.1, not_zero k.peer_tag parts.0)

tested_named : (a b c : Bool) (d k : Cookie) → has_tags d ≡ c → (d.my_initial_tsn < u32_space) × (d.peer_initial_tsn < u32_space) → check_cookie a b c d ≡ Ok k → IsNamed k
tested_named false b c d k e f is = absurd (cc)
tested_named true false c d k e f is = absurd (cc)
tested_named true true false d k e f is = absurd (cc)
tested_named true true true d k e f is =
    let tags : (0 < d.my_tag) × (0 < d.peer_tag) = tags_some d e in
    let named : IsNamed d = record { my_tag = tags.0; peer_tag = tags.1; my_first = f.0; peer_first = f.1 } in
    let same : d ≡ k = ap (λ (r : Result Cookie StateCookieError). elim r [ Ok x ↦ x | Err fault ↦ d ]) is in
    subst IsNamed same named

read_named : (bytes : List ℕ) (k : Cookie) → Each IsByte bytes → read_cookie bytes ≡ Ok k → IsNamed k
unfolding read_cookie
read_named bytes k h is = tested_named _ _ _ (cookie_from bytes) k refl (firsts_small bytes h) is

pub echo_named : (call : Call) → HandsIn call → (tag : ℕ) (k : Cookie) → IsEchoed call tag k → IsNamed k
echo_named call h tag k e = read_named e.cookie k (names call h tag (cookie_echo_chunk e.cookie) e.received) e.reads

-- ---- the queue of an association that begins

pub record Begins (mode : Bool) (q r : Queue) : Type 0 where
  pub ordered : IsOrdered q → IsOrdered r
  pub mode_is : r.scheduler.is_interleaved ≡ mode
  pub numbers : IsNumberedOnce q → IsNumberedOnce r
  pub next : r.next_number ≡ q.next_number

same_mode : (resets mode b : Bool) → (resets || other_mode mode b) ≡ false → b ≡ mode
same_mode true mode b e = absurd (cc)
same_mode false true true e = refl
same_mode false true false e = absurd (cc)
same_mode false false true e = absurd (cc)
same_mode false false false e = refl

module _ (once : CallsNumberOnce) where
  pub begins_anew : (mode : Bool) (q : Queue) → Begins mode q (queue_anew mode q)
  begins_anew mode q = record {
    ordered = λ h. record {
      sorted = reset_sorted q h.sorted;
      order = mode_in_order mode (reset q) (inr (reset_unsent q)) (reset_in_order q h.order);
      next = subst (λ (n : ℕ). n < 2 ^ 32) (sym (reset_next q)) h.next;
      rests = calls_leave_rests.mode mode (reset q) (calls_leave_rests.restarted q h.rests);
    };
    mode_is = refl;
    numbers = λ h. once.mode mode (reset q) (once.restarted q h);
    next = reset_next q;
  }

  begins_same : (mode : Bool) (q : Queue) → q.scheduler.is_interleaved ≡ mode → Begins mode q (set_mode mode q)
  begins_same mode q same = record {
    ordered = λ h. record { sorted = h.sorted; order = mode_in_order mode q (inl same) h.order; next = h.next; rests = calls_leave_rests.mode mode q h.rests };
    mode_is = refl;
    numbers = once.mode mode q;
    next = refl;
  }

  begins_if : (b mode : Bool) (q : Queue) → (b ≡ false → q.scheduler.is_interleaved ≡ mode) → Begins mode q (set_mode mode (queue_if b q))
  begins_if true mode q same = begins_anew mode q
  begins_if false mode q same = begins_same mode q (same refl)

  pub begins_for : (resets mode : Bool) (q : Queue) → Begins mode q (queue_for resets mode q)
  begins_for resets mode q = begins_if (resets || other_mode mode q.scheduler.is_interleaved) mode q (same_mode resets mode q.scheduler.is_interleaved)

-- ---- what an act leads to

-- of this call no message is offered, and nothing is restored
pub record Leads (IsQuiet : Type 0) (s : State) (c : Context (List ℕ)) (t : State) (d : Context (List ℕ)) : Type 0 where
  pub asked : HandoverInvariantOf s c → HandoverInvariantOf t d
  pub numbers : IsQuiet → IsNumberedOnce c.queue → IsNumberedOnce d.queue
  pub next : IsQuiet → d.queue.next_number ≡ c.queue.next_number

ordered_on : (q r : Queue) → Goes q r → IsOrdered q → IsOrdered r
ordered_on q r g h = record { sorted = g.sorted h.sorted; order = g.order h.order; next = subst (λ (n : ℕ). n < 2 ^ 32) (sym g.next) h.next; rests = g.rests h.rests }

connected_on : (t u : Tcb) (c d : Context (List ℕ)) → Lasts t u → d.queue.scheduler.is_interleaved ≡ c.queue.scheduler.is_interleaved
    → d.options.zero_checksum_method ≡ c.options.zero_checksum_method → IsConnected t c → IsConnected u d
connected_on t u c d l mode method h = record {
  my_tag = subst (λ i. 0 < i.my_tag) (sym l.identity) h.my_tag;
  peer_tag = subst (λ i. 0 < i.peer_tag) (sym l.identity) h.peer_tag;
  first = l.sent.first ∙ (h.first ∙ ap (λ i. i.my_first) (sym l.identity));
  small = subst (λ i. i.my_first < u32_space) (sym l.identity) h.small;
  peer_first = l.received ∙ (h.peer_first ∙ ap (λ i. i.peer_first) (sym l.identity));
  peer_first_small = subst (λ i. i.peer_first < u32_space) (sym l.identity) h.peer_first_small;
  partial = l.sent.items.partial ∙ (h.partial ∙ ap (λ k. k.partial_reliability) (sym l.capabilities));
  mode = l.sent.items.mode ∙ (h.mode ∙ ap (λ k. k.message_interleaving) (sym l.capabilities));
  receiver_mode = l.mode ∙ (h.receiver_mode ∙ ap (λ k. k.message_interleaving) (sym l.capabilities));
  mode_queued = mode ∙ (h.mode_queued ∙ ap (λ k. k.message_interleaving) (sym l.capabilities));
  method = subst (λ k. k.zero_checksum_method ≡ method_if (zero_checksum_enabled k) c.options.zero_checksum_method) (sym l.capabilities) h.method
      ∙ ap (λ (n : ℕ). method_if (zero_checksum_enabled u.capabilities) n) (sym method);
}

pub associated_on : (s : State) (c d : Context (List ℕ)) → d.queue.scheduler.is_interleaved ≡ c.queue.scheduler.is_interleaved
    → d.options.zero_checksum_method ≡ c.options.zero_checksum_method → IsAssociated s c → IsAssociated s d
associated_on Closed c d mode method h = tt
associated_on (CookieWait tag first t1) c d mode method h = h
associated_on (Open phase t) c d mode method h = connected_on t t c d (lasts_same t) mode method h

module _ (Quiet : Type 0) where
  pub leads_on : (s : State) (c d : Context (List ℕ)) → Goes c.queue d.queue → d.options.zero_checksum_method ≡ c.options.zero_checksum_method
      → Leads Quiet s c s d
  leads_on s c d g method = record {
    asked = λ h. record { association = associated_on s c d g.mode method h.association; queued = ordered_on c.queue d.queue g h.queued };
    numbers = λ q. g.numbers;
    next = λ q. g.next;
  }

  pub leads_still : (s : State) (c d : Context (List ℕ)) → d.queue ≡ c.queue → d.options.zero_checksum_method ≡ c.options.zero_checksum_method → Leads Quiet s c s d
  leads_still s c d same method = leads_on s c d (subst (Goes c.queue) (sym same) (goes_same c.queue)) method

  pub leads_block : (p q : Phase) (t u : Tcb) (c d : Context (List ℕ)) → Lasts t u → Goes c.queue d.queue
      → d.options.zero_checksum_method ≡ c.options.zero_checksum_method → Leads Quiet (Open p t) c (Open q u) d
  leads_block p q t u c d l g method = record {
    asked = λ h. record { association = connected_on t u c d l g.mode method h.association; queued = ordered_on c.queue d.queue g h.queued };
    numbers = λ x. g.numbers;
    next = λ x. g.next;
  }

  pub leads_closed : (s : State) (c d : Context (List ℕ)) → Goes c.queue d.queue → Leads Quiet s c Closed d
  leads_closed s c d g = record {
    asked = λ h. record { association = tt; queued = ordered_on c.queue d.queue g h.queued };
    numbers = λ x. g.numbers;
    next = λ x. g.next;
  }
