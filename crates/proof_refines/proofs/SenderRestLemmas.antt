-- Rest, and what the records of messages given up say.
use Rattle.std.proofs.Common.{◌≡◌, ℕ, suc, ◌<◌, Bool, true, false, cond, Option, Some, List, [], ◌∷◌, ◌++◌, length, refl, sym, ap, ◌∙◌, subst, arith}
use Rattle.std.specs.Prelude.{◌==◌, ◌||◌, unwrap_or}
use Rattle.std.specs.List.{list_all}
use Rattle.std.specs.Map.{lookup, values_of}
use Rattle.std.specs.Ordering.{nat_cmp}
use Rattle.std.specs.BTreeMap.{is_at}
use Rattle.std.proofs.lemmas.Bool.{and_parts, false_from_ne_true}
use Rattle.std.proofs.lemmas.Bool.Decides.{nat_tests}
use Rattle.std.proofs.Math.Bool.{or_assoc}
use Rattle.sctp_tx_queue.specs.SendQueue.{Queued, Queue, Stream, Entries, blank, has_nothing, is_empty}
use Rattle.sctp_tx_outstanding.specs.OutstandingData.{Items}
use Rattle.proof_protocol.specs.State.{Message, Transfer, has, stream_of}
use Rattle.proof_protocol.specs.Rules.{TransferEvent, accept, begin, number, end_with_placeholder, give_up, data_comes, late_comes, become_ready, send_sack, acknowledge_next, send_forward, forward_comes, perform_reset, after, run, IsSettled}
use Rattle.proof_protocol.specs.Claims.{AtRest}
use Rattle.proof_protocol.specs.Invariant.{Outgoing, Invariant}
use Rattle.proof_protocol.proofs.ToolsLemmas.{not_both}
use Rattle.proof_refines.specs.SenderRefinement.{find, messages_of, AreKept, SenderRefines}
use Rattle.proof_refines.specs.Reachable.{given_up_by, given_up_places, SenderLeads}
use Rattle.proof_refines.proofs.QueuedLemmas.{queue_lacks}

-- ---- rest

no_messages : (ms : List Queued) → (length ms == 0) ≡ true → ms ≡ []
no_messages [] h = refl
no_messages (m ∷ rest) h = absurd (no (length rest) h)
  where
    no : (n : ℕ) → (suc n == 0) ≡ true → ⊥
    no n h = grind (arith, nat_tests)

none_anywhere : (k : ℕ) (es : Entries) (d : Stream) → d.messages ≡ [] → list_all has_nothing (values_of es) ≡ true → (unwrap_or (lookup (is_at (nat_cmp k)) es) d).messages ≡ []
none_anywhere k [] d b h = b
none_anywhere k (e ∷ es) d b h = go (is_at (nat_cmp k) e.0) (none_anywhere k es d b hs.1)
  where
    hs : (has_nothing e.1 ≡ true) × (list_all has_nothing (values_of es) ≡ true)
    hs = and_parts (has_nothing e.1) (list_all has_nothing (values_of es)) h

    go : (c : Bool) → (unwrap_or (lookup (is_at (nat_cmp k)) es) d).messages ≡ [] → (unwrap_or (cond c (Some e.1) (lookup (is_at (nat_cmp k)) es)) d).messages ≡ []
    go true ih = no_messages e.1.messages hs.0
    go false ih = ih

pub rest_outgoing : (message : ℕ → Message) (lifecycle : ℕ → Option ℕ) (is_interleaved : Bool) (x : Transfer) (q : Queue) (s : Items) → Outgoing message x.sender → SenderRefines message lifecycle is_interleaved x q s
    → is_empty q ≡ true → s.kept ≡ [] → AtRest x
rest_outgoing message lifecycle is_interleaved x q s out sh empty none = record {
  no_queue = λ p l. (settled p l).begun_or_given_up;
  no_part = λ p. false_from_ne_true (x.sender.partly p) (λ y. not_both y (settled p (out.begun_below p (out.partly_begun p y))).not_partly);
  no_item = subst (λ is. AreKept message lifecycle x.sender x.acknowledged is) none sh.items.kept;
}
  where
    settled : (p : ℕ) → p < x.sender.accepted → IsSettled x.sender p
    settled p l =
        sh.queue.messages.queued.dequeued p l
        (queue_lacks message x.sender (messages_of q) p (ap (find p) (none_anywhere (stream_of message p) q.streams.entries (blank q.streams) refl empty)))

pub rest_row : (message : ℕ → Message) (lifecycle : ℕ → Option ℕ) (is_interleaved : Bool) (x : Transfer) (q : Queue) (s : Items) → Invariant message is_interleaved x → SenderRefines message lifecycle is_interleaved x q s
    → is_empty q ≡ true → s.kept ≡ [] → AtRest x
rest_row message lifecycle is_interleaved x q s k sh empty none = rest_outgoing message lifecycle is_interleaved x q s k.outgoing sh empty none

-- ---- records

pub has_more : (p : ℕ) (qs rs : List ℕ) → has p (qs ++ rs) ≡ (has p qs || has p rs)
has_more p [] rs = refl
has_more p (q ∷ qs) rs = ap (λ b. (p == q) || b) (has_more p qs rs) ∙ sym (or_assoc (p == q) (has p qs) (has p rs))

module _ (message : ℕ → Message) (is_interleaved : Bool) where
  one_record : (e : TransferEvent) (x : Transfer) (p : ℕ) → (after message is_interleaved x e).sender.given_up p ≡ (has p (given_up_by e) || x.sender.given_up p)
  one_record accept x p = refl
  one_record (begin q) x p = refl
  one_record (number q bytes more) x p = refl
  one_record (end_with_placeholder q) x p = refl
  one_record (give_up q) x p = go (p == q)
    where
      go : (b : Bool) → cond b true (x.sender.given_up p) ≡ ((b || false) || x.sender.given_up p)
      go true = refl
      go false = refl
  one_record (data_comes t) x p = refl
  one_record (late_comes t) x p = refl
  one_record (become_ready q) x p = refl
  one_record (send_sack c) x p = refl
  one_record (acknowledge_next c) x p = refl
  one_record (send_forward f) x p = refl
  one_record (forward_comes f) x p = refl
  one_record (perform_reset s c) x p = refl

  pub all_records : (es : List TransferEvent) (x : Transfer) (p : ℕ) → (run message is_interleaved x es).sender.given_up p ≡ (has p (given_up_places es) || x.sender.given_up p)
  all_records [] x p = refl
  all_records (e ∷ es) x p =
      all_records es (after message is_interleaved x e) p
      ∙ (ap (λ b. has p (given_up_places es) || b) (one_record e x p)
      ∙ (swapped (has p (given_up_places es)) (has p (given_up_by e)) (x.sender.given_up p) ∙ ap (λ b. b || x.sender.given_up p) (sym (has_more p (given_up_by e) (given_up_places es)))))
    where
      swapped : (a b c : Bool) → (a || (b || c)) ≡ ((b || a) || c)
      swapped true true c = refl
      swapped true false c = refl
      swapped false true c = refl
      swapped false false c = refl

  pub records_row : (x y : Transfer) (places : List ℕ) → SenderLeads message is_interleaved x y places → (p : ℕ) → y.sender.given_up p ≡ (has p places || x.sender.given_up p)
  records_row x y places l p =
      ap (λ (z : Transfer). z.sender.given_up p) (sym l.leads) ∙ (all_records l.events x p ∙ ap (λ ps. has p ps || x.sender.given_up p) l.given_up)
