-- Fragments that go out: the same ones, each under its other number.
use Rattle.std.proofs.Common.{◌≡◌, ℕ, zero, suc, ◌+◌, ◌-◌, ◌&&◌, nat_lt, nat_le, Bool, true, false, cond, Option, Some, None, List, [], ◌∷◌, ◌++◌, length, map, slice_get, refl, sym, ap, ◌∙◌}
use Rattle.std.specs.List.{fold}
use Rattle.std.proofs.lemmas.List.{map-append}
use Rattle.sctp_packet.specs.Chunk.{FragmentTree}
use Rattle.sctp_state.specs.Events.{Emitted}
use Rattle.sctp_tx_outstanding.specs.Item.{Item, size_of, is_fast, should_be_retransmitted}
use Rattle.sctp_tx_outstanding.specs.OutstandingData.{Outstanding, wire_tsn, next_number}
use Rattle.sctp_tx_outstanding.specs.Resending.{Resent, again, again_of, fast_turn, queued_turn, turn_of, allowance, size_in, apply_turn, step_at, resent_below, empty_packet, resend}
use Rattle.sctp_tx_queue.specs.SendQueue.{Queue}
use Rattle.sctp_tx_queue.specs.Produced.{Produced, produce}
use Rattle.sctp_tx_queue.specs.Produced as queue
use Rattle.sctp_tx_queue.specs.Settings.{Changed}
use Rattle.sctp_tx.specs.Windows.{saturate_u64}
use Rattle.sctp_tx.specs.RetransmissionQueue.{Sender}
use Rattle.sctp_tx.specs.Resent.{sizes, may_send_new, resent, resent_fast, count_retransmission, resent_by, start_t3_if, start_t3_if_sent, send_fast}
use Rattle.sctp_tx.specs.Sending.{Filling, QueueStep, offered_payload, append, take_turn, queue_step_if, next_turn, fill, discard_all, without_discards, filled_with, timed_filling, fill_and_start_t3, send}
use Rattle.proof_draws.specs.NamedChunks.{Names, move_by}
use Rattle.proof_draws.specs.Names.{named_outstanding, named_sender}
use Rattle.proof_draws.proofs.MovedLemmas.{moved_wire}

abbrev pub named_pair : Names → ℕ × FragmentTree → ℕ × FragmentTree
named_pair n c = (move_by n.own c.0, c.1)

abbrev pub named_pairs : Names → List (ℕ × FragmentTree) → List (ℕ × FragmentTree)
named_pairs n cs = map (named_pair n) cs

abbrev pub named_resent : Names → Resent → Resent
named_resent n x = record x { outstanding = named_outstanding n x.outstanding; chunks = named_pairs n x.chunks }

abbrev pub named_fragments : {P : Type 0} → Names → Filling P → Filling P
named_fragments n x = record x { sender = named_sender n x.sender; chunks = named_pairs n x.chunks }

abbrev named_turned : {P : Type 0} → Names → QueueStep P → QueueStep P
named_turned n x = record x { filling = named_fragments n x.filling }

abbrev resent_with : Resent → List (ℕ × FragmentTree) → Resent
resent_with x cs = record x { chunks = cs }

abbrev filling_with : {P : Type 0} → Filling P → List (ℕ × FragmentTree) → (left : ℕ) → Filling P
filling_with x cs left = record x { chunks = cs; left = left }

module _ (n : Names) where
  -- one more fragment behind the others
  behind_named : (d : Outstanding) (k : ℕ) (f : FragmentTree) (cs : List (ℕ × FragmentTree))
      → named_pairs n cs ++ (wire_tsn (named_outstanding n d) k, f) ∷ [] ≡ named_pairs n (cs ++ (wire_tsn d k, f) ∷ [])
  behind_named d k f cs =
      ap (λ (w : ℕ). named_pairs n cs ++ (w, f) ∷ []) (moved_wire n.own d.first k) ∙ sym (map-append (named_pair n) cs ((wire_tsn d k, f) ∷ []))

  pub length_pairs : (cs : List (ℕ × FragmentTree)) → length (named_pairs n cs) ≡ length cs
  length_pairs [] = refl
  length_pairs (c ∷ cs) = ap suc (length_pairs cs)

  sums_pairs : (m : Bool) (sum : ℕ) (cs : List (ℕ × FragmentTree))
      → fold (λ (a : ℕ) (c : ℕ × FragmentTree). a + size_of m c.1) sum (named_pairs n cs) ≡ fold (λ (a : ℕ) (c : ℕ × FragmentTree). a + size_of m c.1) sum cs
  sums_pairs m sum [] = refl
  sums_pairs m sum (c ∷ cs) = sums_pairs m (sum + size_of m c.1) cs

  pub sizes_pairs : (m : Bool) (cs : List (ℕ × FragmentTree)) → sizes m (named_pairs n cs) ≡ sizes m cs
  sizes_pairs m cs = sums_pairs m 0 cs

  -- ---- what is sent again

  again_named : (k : ℕ) (i : Item) (x : Resent) → again k i (named_resent n x) ≡ named_resent n (again k i x)
  again_named k i x =
      ap (λ (cs : List (ℕ × FragmentTree)). resent_with (named_resent n (again k i x)) cs)
      (behind_named x.outstanding (x.outstanding.items.acked + 1 + k) i.fragment x.chunks)

  again_of_named : (k : ℕ) (o : Option Item) (x : Resent) → again_of k o (named_resent n x) ≡ named_resent n (again_of k o x)
  again_of_named k None x = refl
  again_of_named k (Some i) x = again_named k i x

  fast_named : (a b : Bool) (i : Item) (k : ℕ) (x : Resent) → is_fast i ≡ a → nat_le (size_in x i) x.room ≡ b
      → apply_turn (fast_turn i (named_resent n x)) k (named_resent n x) ≡ named_resent n (apply_turn (fast_turn i x) k x)
  fast_named true true i k x e f = rw (e, f) (again_of_named k (slice_get x.outstanding.items.kept k) x)
  fast_named true false i k x e f = rw (e, f) refl
  fast_named false b i k x e f = rw e refl

  queued_named : (b : Bool) (i : Item) (k : ℕ) (x : Resent) → (should_be_retransmitted i && nat_le (size_in x i) (allowance x)) ≡ b
      → apply_turn (queued_turn i (named_resent n x)) k (named_resent n x) ≡ named_resent n (apply_turn (queued_turn i x) k x)
  queued_named true i k x e = rw e (again_of_named k (slice_get x.outstanding.items.kept k) x)
  queued_named false i k x e = rw e refl

  step_from : (fast : Bool) (o : Option Item) (k : ℕ) (x : Resent)
      → apply_turn (turn_of fast o (named_resent n x)) k (named_resent n x) ≡ named_resent n (apply_turn (turn_of fast o x) k x)
  step_from fast None k x = refl
  step_from true (Some i) k x = fast_named (is_fast i) (nat_le (size_in x i) x.room) i k x refl refl
  step_from false (Some i) k x = queued_named (should_be_retransmitted i && nat_le (size_in x i) (allowance x)) i k x refl

  step_named : (fast : Bool) (k : ℕ) (x : Resent) → step_at fast k (named_resent n x) ≡ named_resent n (step_at fast k x)
  step_named fast k x = step_from fast (slice_get x.outstanding.items.kept k) k x

  below_named : (fast : Bool) (count : ℕ) (x : Resent) → resent_below fast count (named_resent n x) ≡ named_resent n (resent_below fast count x)
  below_named fast zero x = refl
  below_named fast (suc count) x = ap (λ (y : Resent). step_at fast count y) (below_named fast count x) ∙ step_named fast count (resent_below fast count x)

  resend_named : (fast : Bool) (room window : ℕ) (d : Outstanding) → resend fast room window (named_outstanding n d) ≡ named_resent n (resend fast room window d)
  resend_named fast room window d = below_named fast (length d.items.kept) (empty_packet room window d)

  resent_by_named : (s : Sender) (x : Resent) → resent_by (named_sender n s) (named_resent n x) ≡ named_sender n (resent_by s x)
  resent_by_named s x =
      let by : Sender = named_sender n (record s { outstanding = x.outstanding }) in
      let m : Bool = x.outstanding.items.is_interleaved in
      ap (λ (k : ℕ). count_retransmission k (saturate_u64 (sizes m (named_pairs n x.chunks))) by) (length_pairs x.chunks)
      ∙ ap (λ (k : ℕ). count_retransmission (length x.chunks) (saturate_u64 k) by) (sizes_pairs m x.chunks)

  timed_if_named : (b : Bool) (now : ℕ) (s : Sender) → start_t3_if b now (named_sender n s) ≡ named_sender n (start_t3_if b now s)
  timed_if_named true now s = refl
  timed_if_named false now s = refl

  timed_named : (now : ℕ) (cs : List (ℕ × FragmentTree)) (s : Sender) → start_t3_if_sent now (named_pairs n cs) (named_sender n s) ≡ named_sender n (start_t3_if_sent now cs s)
  timed_named now cs s =
      ap (λ (k : ℕ). start_t3_if (nat_lt 0 k) now (named_sender n s)) (length_pairs cs) ∙ timed_if_named (nat_lt 0 (length cs)) now s

  -- the packet that ignores the congestion window
  pub fast_chunks_named : (most : ℕ) (s : Sender) → (resent_fast most (named_sender n s)).chunks ≡ named_pairs n (resent_fast most s).chunks
  fast_chunks_named most s = ap (λ (x : Resent). x.chunks) (resend_named true most 0 s.outstanding)

  pub send_fast_named : (now most : ℕ) (s : Sender) → send_fast now most (named_sender n s) ≡ named_sender n (send_fast now most s)
  send_fast_named now most s =
      let x : Resent = resent_fast most s in
      ap (λ (y : Resent). start_t3_if_sent now y.chunks (resent_by (named_sender n s) y)) (resend_named true most 0 s.outstanding)
      ∙ (ap (λ (r : Sender). start_t3_if_sent now (named_pairs n x.chunks) r) (resent_by_named s x) ∙ timed_named now x.chunks (resent_by s x))

-- ---- new fragments

module _ {P : Type 0} (n : Names) where
  appended_named : (now : ℕ) (o : Option Produced) (x : Filling P) → append now o (named_fragments n x) ≡ named_fragments n (append now o x)
  appended_named now None x = refl
  appended_named now (Some p) x =
      ap (λ (cs : List (ℕ × FragmentTree)). filling_with (named_fragments n (append now (Some p) x)) cs (append now (Some p) x).left)
      (behind_named n x.sender.outstanding (next_number x.sender.outstanding.items) p.fragment x.chunks)

  take_turn_named : (now : ℕ) (t : queue.Turn P) (x : Filling P) → take_turn now t (named_fragments n x) ≡ named_turned n (take_turn now t x)
  take_turn_named now t x =
      ap (λ (y : Filling P). record (take_turn now t x) { filling = y }) (appended_named now t.made (record x { queue = t.queue; emitted = t.emitted }))

  turned_if_named : (b : Bool) (now : ℕ) (x : Filling P) → queue_step_if b now (named_fragments n x) ≡ named_turned n (queue_step_if b now x)
  turned_if_named true now x = take_turn_named now (produce now (offered_payload x.left x.sender) x.queue x.emitted) x
  turned_if_named false now x = refl

  turned_named : (now : ℕ) (x : Filling P) → next_turn now (named_fragments n x) ≡ named_turned n (next_turn now x)
  turned_named now x = turned_if_named (may_send_new x.sender && nat_lt 0 (offered_payload x.left x.sender)) now x

  chosen_named : (b : Bool) (y : Filling P) (rest more : Filling P) → more ≡ named_fragments n rest
      → cond b more (named_fragments n y) ≡ named_fragments n (cond b rest y)
  chosen_named true y rest more h = h
  chosen_named false y rest more h = refl

  fill_named : (turns now : ℕ) (x : Filling P) → fill turns now (named_fragments n x) ≡ named_fragments n (fill turns now x)
  fill_named zero now x = refl
  fill_named (suc turns) now x =
      let t : QueueStep P = next_turn now x in
      ap (λ (u : QueueStep P). cond u.is_more (fill turns now u.filling) u.filling) (turned_named now x)
      ∙ chosen_named t.is_more t.filling (fill turns now t.filling) (fill turns now (named_fragments n t.filling)) (fill_named turns now t.filling)

  begun_named : (most : ℕ) (s : Sender) (x : Resent) (left : Changed P)
      → filled_with most (named_sender n s) (named_resent n x) left ≡ named_fragments n (filled_with most s x left)
  begun_named most s x left =
      let y : Filling P = named_fragments n (filled_with most s x left) in
      let m : Bool = x.outstanding.items.is_interleaved in
      ap (λ (r : Sender). record (filling_with y y.chunks (most - saturate_u64 (sizes m (named_pairs n x.chunks)))) { sender = r }) (resent_by_named n s x)
      ∙ ap (λ (k : ℕ). filling_with y y.chunks (most - saturate_u64 k)) (sizes_pairs n m x.chunks)

  timed_filling_named : (now : ℕ) (x : Filling P) → timed_filling now (named_fragments n x) ≡ named_fragments n (timed_filling now x)
  timed_filling_named now x = ap (λ (s : Sender). record (named_fragments n x) { sender = s }) (timed_named n now x.chunks x.sender)

  filled_named : (now : ℕ) (x : Filling P) → fill_and_start_t3 now (named_fragments n x) ≡ named_fragments n (fill_and_start_t3 now x)
  filled_named now x =
      ap (λ (y : Filling P). timed_filling now y) (fill_named (suc x.left) now x) ∙ timed_filling_named now (fill (suc x.left) now x)

  pub send_named : (now most : ℕ) (s : Sender) (q : Queue) (emitted : Emitted P)
      → send now most (named_sender n s) q emitted ≡ named_fragments n (send now most s q emitted)
  send_named now most s q emitted =
      let r : Sender = without_discards s in
      let left : Changed P = discard_all s.outstanding.items.discards q emitted in
      ap (λ (x : Resent). fill_and_start_t3 now (filled_with most (named_sender n r) x left)) (resend_named n false _ r.windows.rwnd r.outstanding)
      ∙ (ap (λ (y : Filling P). fill_and_start_t3 now y) (begun_named most r (resent most r) left) ∙ filled_named now (filled_with most r (resent most r) left))
