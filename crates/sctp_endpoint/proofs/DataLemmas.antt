-- Fragments that a packet takes one after the other, as they are sent.
use Rattle.std.proofs.Common.{◌≡◌, ◌<◌, ◌^◌, ℕ, zero, suc, Bool, true, List, [], ◌∷◌, map, refl, sym, ap, ◌∙◌, subst, arith}
use Rattle.std.specs.Prelude.{◌==◌, not, nat_lt, length}
use Rattle.std.proofs.lemmas.Bool.Decides.{nat_tests}
use Rattle.sctp_state.specs.Events.{Emitted}
use Rattle.sctp_packet.specs.Chunk.{FragmentTree, fragment_chunk}
use Rattle.sctp_tx_queue.specs.SendQueue.{Queue}
use Rattle.sctp_tx.specs.Taken.{taken_all}
use Rattle.sctp_tx.specs.RetransmissionQueue.{Sender}
use Rattle.sctp_tx.specs.Sending as fragments
use Rattle.sctp_tx.specs.Sending.{send, is_idle}
use Rattle.sctp_tx.proofs.IdleLemmas.{idle_send}
use Rattle.spec_endpoint.specs.Association.{Context}
use Rattle.spec_endpoint.specs.Heartbeats.{restart_interval_if}
use Rattle.spec_endpoint.specs.Packets.{PacketDraft, add, add_all, room}
use Rattle.spec_endpoint.specs.Sending.{Filling, asks_at_once, with_data, with_fragments}
use Rattle.sctp_endpoint.specs.declared.transmission_control_block.TransmissionControlBlock.{TransmissionControlBlock}
use Rattle.sctp_endpoint.specs.Views.{ContextValue, filling_of}

module _ (is_interleaved is_immediate : Bool) where
  abbrev pub taken : ℕ × FragmentTree → PacketDraft → PacketDraft
  taken c p = add (fragment_chunk is_interleaved is_immediate c) p

  pub taken_are_added : (chunks : List (ℕ × FragmentTree)) (p : PacketDraft) → taken_all taken chunks p ≡ add_all (map (fragment_chunk is_interleaved is_immediate) chunks) p
  taken_are_added [] p = refl
  taken_are_added (c ∷ cs) p = taken_are_added cs (add (fragment_chunk is_interleaved is_immediate c) p)

pub some_or_none : (n : ℕ) → nat_lt 0 n ≡ not (n == 0)
some_or_none zero = refl
some_or_none (suc n) = grind (arith, nat_tests)

-- with nothing to send nothing changes
pub nothing_added : {P : Type 0} (x : Filling P) → x.tcb.sender.rtx_bytes < 2 ^ 64 → is_idle x.tcb.sender x.context.queue ≡ true → x ≡ with_data x
nothing_added {P} x small idle = ap (λ (f : fragments.Filling P). with_fragments f x) (sym (idle_send x.context.now (room x.packet) x.tcb.sender x.context.queue x.context.emitted small idle))

-- what a sending hands over, in the words of the rules
module _ {P : Type 0} (x : Filling P) where
  abbrev pub sent : (most : ℕ) → fragments.Filling P
  sent most = send x.context.now most x.tcb.sender x.context.queue x.context.emitted

  abbrev pub filling : PacketDraft → Sender → Context P → Filling P
  filling packet s c = record { packet = packet; tcb = record x.tcb { sender = s }; context = c }

  abbrev pub context_with : Queue → Emitted P → (is_sent : Bool) → Context P
  context_with queue emitted is_sent = record x.context {
    queue = queue;
    emitted = emitted;
    heartbeats = restart_interval_if is_sent x.context.now x.context.heartbeats;
  }

  -- a packet that takes all in this form
  abbrev packet_with : (is_immediate : Bool) → PacketDraft
  packet_with is_immediate = taken_all (taken x.tcb.capabilities.message_interleaving is_immediate) (sent (room x.packet)).chunks x.packet

  packet_added : (is_immediate : Bool) → is_immediate ≡ asks_at_once x.context.options x.tcb.sender → packet_with is_immediate ≡ (with_data x).packet
  packet_added is_immediate small =
      taken_are_added x.tcb.capabilities.message_interleaving is_immediate (sent (room x.packet)).chunks x.packet
      ∙ ap (λ (b : Bool). add_all (map (fragment_chunk x.tcb.capabilities.message_interleaving b) (sent (room x.packet)).chunks) x.packet) small

  all_added : (packet : PacketDraft) (s : Sender) (c : Context P) (queue : Queue) (emitted : Emitted P) (is_immediate is_sent : Bool)
      → packet ≡ packet_with is_immediate → is_immediate ≡ asks_at_once x.context.options x.tcb.sender
      → s ≡ (sent (room x.packet)).sender → queue ≡ (sent (room x.packet)).queue → emitted ≡ (sent (room x.packet)).emitted
      → is_sent ≡ nat_lt 0 (length (sent (room x.packet)).chunks) → c ≡ context_with queue emitted is_sent → filling packet s c ≡ with_data x
  all_added packet s c queue emitted is_immediate is_sent added small sender in_queue in_events some context =
      let f = sent (room x.packet) in
      ap (λ (p : PacketDraft). filling p s c) (added ∙ packet_added is_immediate small)
      ∙ (ap (λ (t : Sender). filling (with_data x).packet t c) sender
      ∙ (ap (λ (d : Context P). filling (with_data x).packet f.sender d) context
      ∙ (ap (λ (q : Queue). filling (with_data x).packet f.sender (context_with q emitted is_sent)) in_queue
      ∙ (ap (λ (e : Emitted P). filling (with_data x).packet f.sender (context_with f.queue e is_sent)) in_events
      ∙ ap (λ (b : Bool). filling (with_data x).packet f.sender (context_with f.queue f.emitted b)) (some ∙ some_or_none (length f.chunks))))))

-- the same of the program's values
module _ {C : Type 0} (word_of : C → List ℕ → ℕ) (p : PacketDraft) (t : TransmissionControlBlock) (v now : ContextValue C) (most : ℕ) (is_immediate : Bool) where
  abbrev x : Filling (List ℕ)
  x = filling_of word_of p t v

  abbrev Taken : (packet : PacketDraft) (s : Sender) (queue : Queue) (emitted : Emitted (List ℕ)) (is_sent : Bool) → ℕ → Type 0
  Taken packet s queue emitted is_sent n =
      (packet ≡ taken_all (taken x.tcb.capabilities.message_interleaving is_immediate) (sent x n).chunks p) × (s ≡ (sent x n).sender)
      × (queue ≡ (sent x n).queue) × (emitted ≡ (sent x n).emitted) × (is_sent ≡ nat_lt 0 (length (sent x n).chunks))

  pub data_added : (packet : PacketDraft) (s : Sender) (c : Context (List ℕ)) (queue : Queue) (emitted : Emitted (List ℕ)) (is_sent b : Bool)
      → v ≡ now → most ≡ room p → is_immediate ≡ asks_at_once now.options x.tcb.sender
      → packet ≡ taken_all (taken x.tcb.capabilities.message_interleaving is_immediate) (sent x most).chunks p → s ≡ (sent x most).sender
      → queue ≡ (sent x most).queue → emitted ≡ (sent x most).emitted → is_sent ≡ nat_lt 0 (length (sent x most).chunks)
      → is_sent ≡ b → c ≡ context_with x queue emitted b
      → filling x packet s c ≡ with_data (filling_of word_of p t now)
  data_added packet s c queue emitted is_sent b viewed room_is asks added sender in_queue in_events some is context =
      let all : Taken packet s queue emitted is_sent (room p) = subst (Taken packet s queue emitted is_sent) room_is (added, sender, in_queue, in_events, some) in
      let here : is_immediate ≡ asks_at_once v.options x.tcb.sender = asks ∙ ap (λ (u : ContextValue C). asks_at_once u.options x.tcb.sender) (sym viewed) in
      all_added x packet s c queue emitted is_immediate is_sent all.0 here all.1 all.2 all.3 all.4
      (context ∙ ap (λ (o : Bool). context_with x queue emitted o) (sym is))
      ∙ ap (λ (u : ContextValue C). with_data (filling_of word_of p t u)) viewed
