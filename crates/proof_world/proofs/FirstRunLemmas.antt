-- The first run, event by event: the opening.
use Rattle.std.proofs.Common.{◌≡◌, ℕ, Bool, true, ◌&&◌, ◌==◌, Some, List, [], ◌∷◌, ◌++◌, refl, sym, ap, subst, ◌∙◌, arith}
use Rattle.std.proofs.lemmas.Option.{same_Some}
use Rattle.std.specs.Prelude.{slice_get}
use Rattle.rand_core.specs.Stream.{Stream}
use Rattle.sctp_serial.specs.Messages.{Message}
use Rattle.sctp_state.specs.Options.{defaults, plainly}
use Rattle.sctp_state.specs.Events.{OnConnected}
use Rattle.spec_endpoint.specs.Association.{Endpoint, fresh, Packing}
use Rattle.spec_endpoint.specs.Shown.{Association}
use Rattle.spec_endpoint.specs.Receiving.{Receives}
use Rattle.spec_endpoint.specs.Wire.{writing}
use Rattle.proof_endpoint.specs.Mapped.{Carried, as_written}
use Rattle.proof_endpoint.specs.FirstRun.{init_packet, init_ack_packet, cookie_echo_packet, cookie_ack_packet, asking, answering, echoing, accepting, opening, association, IsSmall, Leads, LeadsOn}
use Rattle.proof_endpoint.proofs.OpeningRunLemmas.{waiting, answered, echoed, opened_a, opened_b, asks, answers, echoes, accepts, opens}
use Rattle.proof_endpoint.proofs.RunPacketsLemmas.{leads_on}
use Rattle.spec_world.specs.Observations.{A, B, same_association, Connect, Done, Entry, Called, Given, Associated, EmittedPacket, EmittedEvent}
use Rattle.spec_world.specs.World.{Action, Side, World, Takes, Gives, Runs, record_news, take_emitted, news_of, clock, call_socket, associated_unless, ready_entries, ready_before, fresh_side, fresh_world}
use Rattle.spec_endpoint.specs.Packets.{drained}
use Rattle.proof_world.specs.FirstRun as first_run
use Rattle.proof_world.specs.FirstRun.{IsOpen, IsFresh}
use Rattle.sctp_serial.proofs.NumberLemmas.{is_itself}

-- ---- a packet that is given

same_world : (v u : World) → v.a ≡ u.a → v.b ≡ u.b → v.log ≡ u.log → v ≡ u
same_world v u a b l =
    ap (λ (x : Side). record { a = x; b = v.b; log = v.log }) a
    ∙ ap (λ (x : Side). record { a = u.a; b = x; log = v.log }) b
    ∙ ap (λ (x : List Entry). record { a = u.a; b = u.b; log = x }) l

pub given_to_a : (k : ℕ) (w v : World) (p : List ℕ) (s : Endpoint (List ℕ)) → slice_get w.b.packets k ≡ Some p → ((t : Endpoint (List ℕ)) → Takes p w.a.socket t → t ≡ s)
    → Gives A k w v → v ≡ record_news A (Given A (clock w.a.socket) k) s w
given_to_a k w v p s there receives g =
    let e : g.takes_bytes.after ≡ s = receives g.takes_bytes.after (subst (λ (b : List ℕ). Takes b w.a.socket g.takes_bytes.after) (same_Some _ _ (sym g.there ∙ there)) g.takes_bytes.takes) in
    same_world v (record_news A (Given A (clock w.a.socket) k) s w) (g.takes_bytes.side ∙ ap (take_emitted w.a) e) g.other_side
    (g.takes_bytes.logged ∙ ap (λ (t : Endpoint (List ℕ)). w.log ++ Given A (clock w.a.socket) k ∷ news_of A w.a t) e)

pub given_to_b : (k : ℕ) (w v : World) (p : List ℕ) (s : Endpoint (List ℕ)) → slice_get w.a.packets k ≡ Some p → ((t : Endpoint (List ℕ)) → Takes p w.b.socket t → t ≡ s)
    → Gives B k w v → v ≡ record_news B (Given B (clock w.b.socket) k) s w
given_to_b k w v p s there receives g =
    let e : g.takes_bytes.after ≡ s = receives g.takes_bytes.after (subst (λ (b : List ℕ). Takes b w.b.socket g.takes_bytes.after) (same_Some _ _ (sym g.there ∙ there)) g.takes_bytes.takes) in
    same_world v (record_news B (Given B (clock w.b.socket) k) s w) g.other_side (g.takes_bytes.side ∙ ap (take_emitted w.b) e)
    (g.takes_bytes.logged ∙ ap (λ (t : Endpoint (List ℕ)). w.log ++ Given B (clock w.b.socket) k ∷ news_of B w.b t) e)

-- an end reads with the checksum by which the packet was written
pub takes_on : (f : List ℕ → ℕ) (p : Carried) (before after : Endpoint (List ℕ)) → Leads f p before after → before.endpoint_state.context.pack ≡ writing f
    → (t : Endpoint (List ℕ)) → Takes (as_written f p) before t → t ≡ after
takes_on f p before after leads own t k =
    leads t (subst (λ (pack : Packing (List ℕ)). Receives pack.word_of (as_written f p) before t) own k)

pub same_self : (a : Association) → same_association (Some a) (Some a) ≡ true
same_self a =
    ap (λ (t : Bool). t && ((a.my_initial_tsn == a.my_initial_tsn) && ((a.peer_tag == a.peer_tag) && (a.peer_initial_tsn == a.peer_initial_tsn)))) (is_itself a.my_tag)
    ∙ ap (λ (t : Bool). t && ((a.peer_tag == a.peer_tag) && (a.peer_initial_tsn == a.peer_initial_tsn))) (is_itself a.my_initial_tsn)
    ∙ ap (λ (t : Bool). t && (a.peer_initial_tsn == a.peer_initial_tsn)) (is_itself a.peer_tag)
    ∙ is_itself a.peer_initial_tsn

-- ---- the opening

-- any message, since the opening has none
abbrev some_message : Message
some_message = record { stream = 0; ppid = 0; payload = 0 ∷ [] }

some_small : IsSmall some_message
some_small = record { some = omega arith; few = omega arith; stream = omega arith; ppid = omega arith }

module _ (a b : Stream) (f : List ℕ → ℕ) where
  abbrev pub pack : Packing (List ℕ)
  pack = writing f

  abbrev pub bytes_of : Carried → List ℕ
  bytes_of p = as_written f p

  leads : LeadsOn f a b some_message plainly
  leads = leads_on f a b some_message plainly some_small

  abbrev first_log : List Entry
  first_log = Called A 0 Connect Done ∷ EmittedPacket A 0 ∷ []

  abbrev second_log : List Entry
  second_log = first_log ++ Given B 0 0 ∷ EmittedPacket B 0 ∷ []

  abbrev third_log : List Entry
  third_log = second_log ++ Given A 0 0 ∷ Associated A (Some (association a b)) ∷ EmittedPacket A 1 ∷ []

  abbrev fourth_log : List Entry
  fourth_log = third_log ++ Given B 0 1 ∷ Associated B (Some (association b a)) ∷ EmittedEvent B OnConnected ∷ EmittedPacket B 1 ∷ []

  abbrev pub opened_log : List Entry
  opened_log = fourth_log ++ Given A 0 1 ∷ EmittedEvent A OnConnected ∷ []

  abbrev pub first : World
  first = record { a = record { socket = waiting pack a; packets = bytes_of (init_packet a) ∷ [] }; b = fresh_side defaults b f; log = first_log }

  abbrev pub second : World
  second = record first { b = record { socket = answered pack b; packets = bytes_of (init_ack_packet a b) ∷ [] }; log = second_log }

  abbrev pub third : World
  third = record second {
    a = record { socket = echoed pack a b; packets = bytes_of (init_packet a) ∷ bytes_of (cookie_echo_packet a b) ∷ [] };
    log = third_log;
  }

  abbrev pub fourth : World
  fourth = record third {
    b = record { socket = opened_b pack a b; packets = bytes_of (init_ack_packet a b) ∷ bytes_of (cookie_ack_packet a) ∷ [] };
    log = fourth_log;
  }

  abbrev pub opened : World
  opened = record fourth {
    a = record { socket = opened_a pack a b; packets = bytes_of (init_packet a) ∷ bytes_of (cookie_echo_packet a b) ∷ [] };
    log = opened_log;
  }

  pub to_first : (v : World) → v ≡ call_socket A Connect (fresh_world defaults defaults a b f f) → v ≡ first
  to_first v e = e ∙ ap (λ (s : Endpoint (List ℕ)). record_news A (Called A 0 Connect Done) s (fresh_world defaults defaults a b f f)) (asks pack a b)

  pub to_second : (v : World) → Gives B 0 first v → v ≡ second
  to_second v g =
      given_to_b 0 first v (bytes_of (init_packet a)) _ refl
      (λ t k. takes_on f (init_packet a) (fresh defaults pack b) (answering pack a b) leads.init refl t k ∙ answers pack a b) g

  asked : drained (asking pack a b) ≡ waiting pack a
  asked = ap drained (asks pack a b)

  pub to_third : (v : World) → Gives A 0 second v → v ≡ third
  to_third v g =
      given_to_a 0 second v (bytes_of (init_ack_packet a b)) _ refl
      (λ t k. takes_on f (init_ack_packet a b) (drained (asking pack a b)) (echoing pack a b) leads.init_ack (ap (λ (s : Endpoint (List ℕ)). s.endpoint_state.context.pack) asked) t
      (subst (λ (s : Endpoint (List ℕ)). Takes (bytes_of (init_ack_packet a b)) s t) (sym asked) k) ∙ echoes pack a b) g

  replied : drained (answering pack a b) ≡ answered pack b
  replied = ap drained (answers pack a b)

  pub to_fourth : (v : World) → Gives B 1 third v → v ≡ fourth
  to_fourth v g =
      given_to_b 1 third v (bytes_of (cookie_echo_packet a b)) _ refl
      (λ t k. takes_on f (cookie_echo_packet a b) (drained (answering pack a b)) (accepting pack a b) leads.cookie_echo (ap (λ (s : Endpoint (List ℕ)). s.endpoint_state.context.pack) replied) t
      (subst (λ (s : Endpoint (List ℕ)). Takes (bytes_of (cookie_echo_packet a b)) s t) (sym replied) k) ∙ accepts pack a b) g

  has_echoed : drained (echoing pack a b) ≡ echoed pack a b
  has_echoed = ap drained (echoes pack a b)

  pub to_opened : (v : World) → Gives A 1 fourth v → v ≡ opened
  to_opened v g =
      given_to_a 1 fourth v (bytes_of (cookie_ack_packet a)) _ refl
      (λ t k. takes_on f (cookie_ack_packet a) (drained (echoing pack a b)) (opening pack a b) leads.cookie_ack (ap (λ (s : Endpoint (List ℕ)). s.endpoint_state.context.pack) has_echoed) t
      (subst (λ (s : Endpoint (List ℕ)). Takes (bytes_of (cookie_ack_packet a)) s t) (sym has_echoed) k) ∙ opens pack a b) g
      ∙ ap (λ (t : Bool). record fourth {
        a = record { socket = opened_a pack a b; packets = bytes_of (init_packet a) ∷ bytes_of (cookie_echo_packet a b) ∷ [] };
        log = fourth_log ++ Given A 0 1 ∷ (associated_unless t A (Some (association a b)) ++ (EmittedEvent A OnConnected ∷ ready_entries A (ready_before t 0) []));
      }) (same_self (association a b))

  pub opened_then : (rest : List Action) (v : World) → Runs (first_run.opening ++ rest) (fresh_world defaults defaults a b f f) v → Runs rest opened v
  opened_then rest v r =
      let one = to_first r.0 r.1 in
      let two = to_second r.2.0 (subst (λ (w : World). Gives B 0 w r.2.0) one r.2.1) in
      let three = to_third r.2.2.0 (subst (λ (w : World). Gives A 0 w r.2.2.0) two r.2.2.1) in
      let four = to_fourth r.2.2.2.0 (subst (λ (w : World). Gives B 1 w r.2.2.2.0) three r.2.2.2.1) in
      let five = to_opened r.2.2.2.2.0 (subst (λ (w : World). Gives A 1 w r.2.2.2.2.0) four r.2.2.2.2.1) in
      subst (λ (w : World). Runs rest w v) five r.2.2.2.2.2

  opened_is_open : IsOpen opened
  opened_is_open = record { association = association a b; held_by_a = refl; held_by_b = refl; connected_a = refl; connected_b = refl }

pub it_opens : (w v : World) → IsFresh w → Runs first_run.opening w v → IsOpen v
it_opens w v fresh runs =
    subst IsOpen (sym (opened_then fresh.a fresh.b fresh.word_of [] v (subst (λ (x : World). Runs first_run.opening x v) fresh.is runs))) (opened_is_open fresh.a fresh.b fresh.word_of)
