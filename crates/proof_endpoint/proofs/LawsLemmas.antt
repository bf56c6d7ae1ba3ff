-- The two laws.
use Rattle.std.proofs.Common.{◌≡◌, ℕ, ◌≤◌, max, List, [], ◌∷◌, length, All, ap, subst, arith}
use Rattle.std.proofs.lemmas.List.Elements.{All-cons, All-nil, All-head, All-tail}
use Rattle.sctp_state.specs.Events.{Event, SendPacket}
use Rattle.spec_endpoint.specs.Association.{Context, Endpoint, Packing}
use Rattle.spec_endpoint.specs.Wire.{field_of, writing}
use Rattle.spec_endpoint.specs.Laws.{Call, Connect, Close, Shutdown, Send, SendMany, TakeMessage, SetLowThreshold, SetPriority, SetMaxMessageSize, Advance, HandOver, Restore, ReceivePacket, ReceiveNoPacket, called, IsWithin, IsShort, StaysWithin, HasAtMost, SendsAtMost, endings_in_call, EmitsEndings, ResetStreams}
use Rattle.proof_endpoint.proofs.StepsLemmas.{Goes}
use Rattle.proof_endpoint.proofs.RowStepsLemmas.{steps_close, steps_shutdown}
use Rattle.proof_endpoint.proofs.OpeningStepsLemmas.{steps_connect}
use Rattle.proof_endpoint.proofs.TimeStepsLemmas.{steps_advance}
use Rattle.proof_endpoint.proofs.CallStepsLemmas.{steps_send, steps_send_many, steps_threshold, steps_priority, steps_max_message_size, steps_take_message}
use Rattle.proof_endpoint.proofs.HandoverStepsLemmas.{steps_hand_over, steps_restore}
use Rattle.proof_endpoint.proofs.ResetStepsLemmas.{steps_reset_streams}
use Rattle.proof_endpoint.proofs.InputStepsLemmas.{goes_packet, steps_no_packet}
use Rattle.proof_endpoint.proofs.ReceivedBackLemmas.{length_written}

module _ {P : Type 0} where
  goes_call : (call : Call) (s : Endpoint P) → Goes (endings_in_call call s) s.endpoint_state.context (called call s).endpoint_state.context
  goes_call Connect s = steps_connect s
  goes_call Close s = steps_close s.endpoint_state
  goes_call Shutdown s = steps_shutdown s.endpoint_state
  goes_call (Send m o) s = steps_send m o s.endpoint_state
  goes_call (SendMany ms o) s = steps_send_many ms o s.endpoint_state
  goes_call (ResetStreams streams) s = steps_reset_streams streams s.endpoint_state
  goes_call TakeMessage s = steps_take_message s.endpoint_state
  goes_call (SetLowThreshold stream bytes) s = steps_threshold stream bytes s.endpoint_state
  goes_call (SetPriority stream priority) s = steps_priority stream priority s.endpoint_state
  goes_call (SetMaxMessageSize bytes) s = steps_max_message_size bytes s.endpoint_state
  goes_call (Advance now) s = steps_advance now s.endpoint_state
  goes_call HandOver s = steps_hand_over s.endpoint_state
  goes_call (Restore h) s = steps_restore h s.endpoint_state
  goes_call (ReceivePacket p) s = goes_packet p s
  goes_call ReceiveNoPacket s = steps_no_packet s

  within_of : (n : ℕ) (c d : Context P) → 12 ≤ c.options.mtu → Goes n c d → StaysWithin c d
  within_of n c d least g =
      let most : max 12 c.options.mtu ≡ c.options.mtu = omega (arith, least) in
      record {
        mtu = g.mtu;
        pack = g.pack;
        events = g.emits.events;
        behind = g.emits.behind;
        short = subst (λ (m : ℕ). All (IsShort c.pack m) g.emits.events) most g.emits.short;
      }

  pub stays_within : (call : Call) (s : Endpoint P) → 12 ≤ s.endpoint_state.context.options.mtu → StaysWithin s.endpoint_state.context (called call s).endpoint_state.context
  stays_within call s least = within_of (endings_in_call call s) s.endpoint_state.context (called call s).endpoint_state.context least (goes_call call s)

  endings_of : (n : ℕ) (c d : Context P) → Goes n c d → EmitsEndings n c d
  endings_of n c d g = record { events = g.emits.events; behind = g.emits.behind; counted = g.emits.ended }

  pub emits_endings : (call : Call) (s : Endpoint P) → EmitsEndings (endings_in_call call s) s.endpoint_state.context (called call s).endpoint_state.context
  emits_endings call s = endings_of (endings_in_call call s) s.endpoint_state.context (called call s).endpoint_state.context (goes_call call s)

-- ---- packets as bytes

length_within : (word_of : List ℕ → ℕ) (most : ℕ) (bytes : List ℕ) → IsWithin (writing word_of) most bytes → length bytes ≤ most
length_within word_of most bytes w =
    let field : ℕ = field_of word_of w.header w.is_summed w.chunks in
    omega (arith, ap length w.made, length_written w.header field w.chunks, w.short)

event_at_most : (word_of : List ℕ → ℕ) (most : ℕ) (e : Event (List ℕ)) → IsShort (writing word_of) most e → HasAtMost most e
event_at_most word_of most (SendPacket bytes) w = length_within word_of most bytes w
event_at_most word_of most e w = tt

all_at_most : (word_of : List ℕ → ℕ) (most : ℕ) (es : List (Event (List ℕ))) → All (IsShort (writing word_of) most) es → All (HasAtMost most) es
all_at_most word_of most [] w = All-nil (HasAtMost most)
all_at_most word_of most (e ∷ es) w =
    let P : Event (List ℕ) → Type 0 = IsShort (writing word_of) most in
    All-cons (HasAtMost most) e es (event_at_most word_of most e (All-head P e es w)) (all_at_most word_of most es (All-tail P e es w))

sends_of : (word_of : List ℕ → ℕ) (c d : Context (List ℕ)) → c.pack ≡ writing word_of → StaysWithin c d → SendsAtMost c.options.mtu c d
sends_of word_of c d is w = record {
  events = w.events;
  behind = w.behind;
  short = all_at_most word_of c.options.mtu w.events (subst (λ (pack : Packing (List ℕ)). All (IsShort pack c.options.mtu) w.events) is w.short);
}

pub sends_at_most : (word_of : List ℕ → ℕ) (call : Call) (s : Endpoint (List ℕ)) → s.endpoint_state.context.pack ≡ writing word_of → 12 ≤ s.endpoint_state.context.options.mtu
    → SendsAtMost s.endpoint_state.context.options.mtu s.endpoint_state.context (called call s).endpoint_state.context
sends_at_most word_of call s is least =
    sends_of word_of s.endpoint_state.context (called call s).endpoint_state.context is (stays_within call s least)
