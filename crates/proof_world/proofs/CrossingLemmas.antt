-- A message that crosses an open association, and its acknowledgement.
use Rattle.std.proofs.Common.{◌≡◌, ℕ, Bool, true, Option, Some, None, List, [], ◌∷◌, ◌++◌, refl, sym, ap, subst, ◌∙◌}
use Rattle.std.specs.Prelude.{slice_get}
use Rattle.rand_core.specs.Stream.{Stream}
use Rattle.sctp_serial.specs.Messages.{Message}
use Rattle.sctp_state.specs.declared.api.errors.SendError.{SendError}
use Rattle.sctp_state.specs.Options.{SendOptions, defaults}
use Rattle.sctp_state.specs.Events.{Event, SendPacket, OnBufferedAmountLow}
use Rattle.spec_endpoint.specs.Association.{Endpoint}
use Rattle.spec_endpoint.specs.Calls.{send, send_refusal_of}
use Rattle.spec_endpoint.specs.Input.{in_endpoint_state}
use Rattle.proof_endpoint.specs.FirstRun.{init_packet, init_ack_packet, cookie_echo_packet, cookie_ack_packet, data_packet, sack_packet, accepting, sending, taking, resting, association, IsSmall, LeadsOn}
use Rattle.sctp_tx_queue.specs.Produced.{fully_sent}
use Rattle.proof_endpoint.proofs.OpeningRunLemmas.{emitting, opened_a, opened_b, opens, accepts}
use Rattle.proof_endpoint.proofs.SendRunLemmas.{sent_end, sends, accepts_message}
use Rattle.proof_endpoint.proofs.TakeRunLemmas.{taken_end, takes_it}
use Rattle.proof_endpoint.proofs.RunPacketsLemmas.{leads_on}
use Rattle.proof_endpoint.proofs.FirstRunLemmas.{it_rests}
use Rattle.spec_world.specs.Observations.{A, B, Send, Sent, Entry, Called, Given, EmittedPacket, accepted, ready}
use Rattle.spec_world.specs.World.{Action, World, Takes, Gives, Runs, record_news, call_socket, emitted_entries, associated_unless, ready_entries, ready_before, is_at_rest, fresh_world}
use Rattle.spec_endpoint.specs.Packets.{packets_in, drained}
use Rattle.proof_world.specs.FirstRun.{opening, crossing, acknowledging, IsFresh, HasCrossed}
use Rattle.proof_world.proofs.FirstRunLemmas.{given_to_a, given_to_b, takes_on, same_self, pack, bytes_of, opened, opened_then, opened_log}

-- what is emitted as a message is sent holds one packet
pub packets_sent : (l : Option ℕ) (p : List ℕ) → packets_in (fully_sent l ++ SendPacket p ∷ []) ≡ p ∷ []
packets_sent None p = refl
packets_sent (Some id) p = refl

module _ (a b : Stream) (f : List ℕ → ℕ) (m : Message) (o : SendOptions) where
  abbrev pub packet : List ℕ
  packet = bytes_of a b f (data_packet a b m o)

  abbrev pub answer : List ℕ
  answer = bytes_of a b f (sack_packet a m)

  abbrev events : List (Event (List ℕ))
  events = OnBufferedAmountLow m.stream ∷ (fully_sent o.lifecycle_id ++ SendPacket packet ∷ [])

  abbrev sent_log : Option SendError → Bool → List Entry
  sent_log refused t =
      opened_log a b f ++ Called A 0 (Send m o) (Sent refused) ∷ (associated_unless t A (Some (association a b))
      ++ (emitted_entries A 2 events ++ ready_entries A (ready_before t 0) []))

  abbrev pub sent_world : Option SendError → Bool → World
  sent_world refused t = record (opened a b f) {
    a = record {
      socket = sent_end (pack a b f) a b m o;
      packets = bytes_of a b f (init_packet a) ∷ bytes_of a b f (cookie_echo_packet a b) ∷ packets_in (fully_sent o.lifecycle_id ++ SendPacket packet ∷ []);
    };
    log = sent_log refused t;
  }

  abbrev taken_log : Bool → List Entry
  taken_log t =
      sent_log None true ++ Given B 0 2 ∷ (associated_unless t B (Some (association b a)) ++ (EmittedPacket B 2 ∷ ready_entries B (ready_before t 0) (m ∷ [])))

  abbrev pub taken_world : Bool → World
  taken_world t = record (sent_world None true) {
    b = record {
      socket = taken_end (pack a b f) a b m o;
      packets = bytes_of a b f (init_ack_packet a b) ∷ bytes_of a b f (cookie_ack_packet a) ∷ answer ∷ [];
    };
    log = taken_log t;
  }

  module _ (small : IsSmall m) where
    leads : LeadsOn f a b m o
    leads = leads_on f a b m o small

    pub to_sent : (v : World) → v ≡ call_socket A (Send m o) (opened a b f) → v ≡ sent_world None true
    to_sent v e =
        e ∙ ap (λ (s : Endpoint (List ℕ)). record_news A (Called A 0 (Send m o) (Sent (send_refusal_of m (opened_a (pack a b f) a b).endpoint_state))) s (opened a b f)) sends_on
        ∙ ap (λ (t : Bool). sent_world (send_refusal_of m (opened_a (pack a b f) a b).endpoint_state) t) (same_self (association a b))
        ∙ ap (λ (r : Option SendError). sent_world r true) (accepts_message (pack a b f) a m small)
      where
        sends_on : in_endpoint_state (send m o) (opened_a (pack a b f) a b) ≡ emitting (OnBufferedAmountLow m.stream ∷ (fully_sent o.lifecycle_id ++ SendPacket packet ∷ [])) (sent_end (pack a b f) a b m o)
        sends_on = sym (ap (λ (s : Endpoint (List ℕ)). in_endpoint_state (send m o) (drained s)) (opens (pack a b f) a b)) ∙ sends (pack a b f) a b m o small

    accepted_it : drained (accepting (pack a b f) a b) ≡ opened_b (pack a b f) a b
    accepted_it = ap drained (accepts (pack a b f) a b)

    pub to_taken : (v : World) → Gives B 2 (sent_world None true) v → v ≡ taken_world true
    to_taken v g =
        given_to_b 2 (sent_world None true) v packet _ (ap (λ (ps : List (List ℕ)). slice_get ps 0) (packets_sent o.lifecycle_id packet))
        (λ t k. takes_on f (data_packet a b m o) (drained (accepting (pack a b f) a b)) (taking (pack a b f) a b m o) leads.message (ap (λ (s : Endpoint (List ℕ)). s.endpoint_state.context.pack) accepted_it) t
        (subst (λ (s : Endpoint (List ℕ)). Takes packet s t) (sym accepted_it) k) ∙ takes_it (pack a b f) a b m o small) g
        ∙ ap taken_world (same_self (association b a))

    has_sent : drained (sending (pack a b f) a b m o) ≡ sent_end (pack a b f) a b m o
    has_sent = ap drained (sends (pack a b f) a b m o small)

    pub to_rest : (v : World) → Gives A 2 (taken_world true) v → is_at_rest A v ≡ true
    to_rest v g =
        ap (is_at_rest A) (given_to_a 2 (taken_world true) v answer _ refl
        (λ t k. takes_on f (sack_packet a m) (drained (sending (pack a b f) a b m o)) (resting (pack a b f) a b m o) leads.sack (ap (λ (s : Endpoint (List ℕ)). s.endpoint_state.context.pack) has_sent) t
        (subst (λ (s : Endpoint (List ℕ)). Takes answer s t) (sym has_sent) k)) g)
        ∙ (it_rests (pack a b f) a b m o small).at_rest

-- ---- what the log says of it

accepted_at_a : (a b : Stream) (f : List ℕ → ℕ) (m : Message) (u : Bool) (life limit l : Option ℕ)
    → accepted A (taken_log a b f m (record { unordered = u; lifetime = life; max_retransmissions = limit; lifecycle_id = l }) true) ≡ m ∷ []
accepted_at_a a b f m u life limit None = refl
accepted_at_a a b f m u life limit (Some id) = refl

ready_at_b : (a b : Stream) (f : List ℕ → ℕ) (m : Message) (u : Bool) (life limit l : Option ℕ)
    → ready B (taken_log a b f m (record { unordered = u; lifetime = life; max_retransmissions = limit; lifecycle_id = l }) true) ≡ m ∷ []
ready_at_b a b f m u life limit None = refl
ready_at_b a b f m u life limit (Some id) = refl

mirrored_by : (a b : Stream) (f : List ℕ → ℕ) (m : Message) (o : SendOptions) (rest : List Action) (v : World) → IsSmall m
    → Runs (opening ++ (crossing m o ++ rest)) (fresh_world defaults defaults a b f f) v → Runs rest (taken_world a b f m o true) v
mirrored_by a b f m o rest v small r =
    let after = opened_then a b f (crossing m o ++ rest) v r in
    let six = to_sent a b f m o small after.0 after.1 in
    let seven = to_taken a b f m o small after.2.0 (subst (λ (w : World). Gives B 2 w after.2.0) six after.2.1) in
    subst (λ (w : World). Runs rest w v) seven after.2.2

pub it_crosses : (m : Message) (o : SendOptions) (w v : World) → IsSmall m → IsFresh w → Runs (opening ++ crossing m o) w v → HasCrossed m v
it_crosses m o w v small fresh runs =
    let there = mirrored_by fresh.a fresh.b fresh.word_of m o [] v small (subst (λ (x : World). Runs (opening ++ crossing m o) x v) fresh.is runs) in
    subst (HasCrossed m) (sym there) (record {
      accepted = accepted_at_a fresh.a fresh.b fresh.word_of m o.unordered o.lifetime o.max_retransmissions o.lifecycle_id;
      ready = ready_at_b fresh.a fresh.b fresh.word_of m o.unordered o.lifetime o.max_retransmissions o.lifecycle_id;
    })

pub comes_to_rest : (m : Message) (o : SendOptions) (w v : World) → IsSmall m → IsFresh w → Runs (opening ++ (crossing m o ++ acknowledging)) w v → is_at_rest A v ≡ true
comes_to_rest m o w v small fresh runs =
    let there = mirrored_by fresh.a fresh.b fresh.word_of m o acknowledging v small (subst (λ (x : World). Runs (opening ++ (crossing m o ++ acknowledging)) x v) fresh.is runs) in
    subst (λ (x : World). is_at_rest A x ≡ true) (sym there.2) (to_rest fresh.a fresh.b fresh.word_of m o small there.0 there.1)
