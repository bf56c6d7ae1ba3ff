-- The opening of an association, packet by packet.
use Rattle.std.proofs.Common.{◌≡◌, ℕ, Option, Some, None, ◌^◌, ◌<◌, ◌==◌, Bool, false, List, [], ◌∷◌, refl, ap, ◌∙◌, arith}
use Rattle.std.specs.Prelude.{Ok, Result}
use Rattle.std.proofs.lemmas.Bool.Decides.{nat_tests}
use Rattle.rand_core.specs.Stream.{Stream, next_u32, next_u64}
use Rattle.sctp_serial.specs.Messages.{Message}
use Rattle.sctp_wire.specs.Field.{be16, be32, be64}
use Rattle.sctp_wire.specs.Serialize.{padded_item, inner_items}
use Rattle.sctp_wire.specs.Parameter.{parameter_value}
use Rattle.sctp_packet.specs.Chunk.{ChunkTree, init_ack_chunk, sack_chunk, cookie_echo_chunk, cookie_ack_chunk}
use Rattle.sctp_packet.specs.Written.{chunk_bytes, chunks_bytes, chunk_value, init_fields}
use Rattle.sctp_state.specs.Options.{defaults}
use Rattle.sctp_capabilities.specs.Capabilities.{agreed}
use Rattle.sctp_capabilities.specs.StateCookie.{Cookie, CookieFits, cookie_bytes, capability_bytes, read_cookie}
use Rattle.sctp_capabilities.specs.declared.state_cookie.StateCookieError.{StateCookieError}
use Rattle.sctp_capabilities.proofs.CookieLemmas.{read_cookie_bytes}
use Rattle.sctp_state.specs.Events.{Event, OnConnected}
use Rattle.sctp_state.specs.declared.api.SctpImplementation.TheVariants.{DcsctpRs}
use Rattle.spec_endpoint.specs.Association.{Identity, Tcb, tcb, State, CookieEchoed, Established, Closed, CookieWait, Open, Context, Endpoint, context, where_open, Packing}
use Rattle.spec_endpoint.specs.Opening.{t1_init, t1_cookie, cookie_for, init_ack_of, new_if, on_resolution, on_read_cookie}
use Rattle.spec_endpoint.specs.Calls.{ready_in}
use Rattle.spec_endpoint.specs.Input.{my_tag, abort_flag, complete_flag, has_shutdown_ack, begins_with_cookie, has_more_counted, packet_refusal, packet_unless, count_packet_at, on_packet_end, in_endpoint_state}
use Rattle.spec_endpoint.specs.Shown.{Association, association_in}
use Rattle.spec_endpoint.specs.Association.{heartbeats}
use Rattle.spec_endpoint.specs.Heartbeats.{restart_interval}
use Rattle.proof_endpoint.specs.FirstRun.{first_of, tag_of, init_tree, init_packet, init_ack_packet, cookie_echo_packet, cookie_ack_packet, give, packet_event, asking, answering, echoing, accepting, opening, association, Shows, Opens}
use Rattle.spec_endpoint.specs.Packets.{drained}
use Rattle.sctp_serial.proofs.NumberLemmas.{is_itself}

-- ---- the ends, by their parts

module _ {P : Type 0} where
  abbrev pub emitting : List (Event P) → Endpoint P → Endpoint P
  emitting events s = record s { endpoint_state = record s.endpoint_state { context = record s.endpoint_state.context { emitted = record { events = events; given_up = [] } } } }

  -- a new end that took and gave so many packets
  abbrev pub counted : Packing P → (rx tx : ℕ) → Context P
  counted pack rx tx = record (context defaults pack) { counts = record { rx_packets = rx; tx_packets = tx; tx_messages = 0 } }

abbrev pub drawn : Stream → Stream
drawn draws = (next_u32 (next_u32 draws).1).1

-- ---- numbers

pub tag_some : (draws : Stream) → (tag_of draws == 0) ≡ false
tag_some draws = grind (arith, nat_tests)

pub tag_small : (draws : Stream) → tag_of draws < 2 ^ 32
tag_small draws = omega arith

pub first_small : (draws : Stream) → first_of draws < 2 ^ 32
first_small draws = omega arith

one_counted : (chunk : ChunkTree) → has_more_counted 4 (chunk ∷ []) ≡ false
one_counted (sack_chunk k) = refl
one_counted (cookie_echo_chunk cookie) = refl
one_counted chunk = refl

-- a packet under the own tag is taken
pub own_taken : (chunk : ChunkTree) (tag : ℕ) (s : State) → abort_flag (chunk ∷ []) ≡ None → complete_flag (chunk ∷ []) ≡ None → has_shutdown_ack (chunk ∷ []) ≡ false
    → begins_with_cookie (chunk ∷ []) ≡ false → (tag == 0) ≡ false → my_tag s ≡ tag → packet_refusal tag (chunk ∷ []) s ≡ None
own_taken chunk tag s no_abort no_end no_ack no_cookie some own = rw (one_counted chunk, no_abort, no_end, no_ack, no_cookie, some, own, is_itself tag) refl

module _ {P : Type 0} (pack : Packing P) where
  abbrev pub waiting : Stream → Endpoint P
  waiting a = record {
    endpoint_state = record { state = CookieWait (tag_of a) (first_of a) (t1_init (context defaults pack)); context = counted pack 0 1 };
    draws = drawn a;
  }

  pub asks : (a b : Stream) → asking pack a b ≡ emitting (packet_event pack (init_packet a) ∷ []) (waiting a)
  unfolding be16 be32 padded_item inner_items parameter_value chunk_bytes chunks_bytes chunk_value init_fields
  asks a b = refl

  abbrev pub answered : Stream → Endpoint P
  answered b = record { endpoint_state = record { state = Closed; context = counted pack 1 1 }; draws = drawn b }

  pub answers : (a b : Stream) → answering pack a b ≡ emitting (packet_event pack (init_ack_packet a b) ∷ []) (answered b)
  unfolding be16 be32 be64 padded_item inner_items parameter_value chunk_bytes chunks_bytes chunk_value init_fields cookie_bytes capability_bytes
  answers a b = refl

  abbrev pub cookie_of : (a b : Stream) → Cookie
  cookie_of a b = cookie_for (init_tree a) (tag_of b) (first_of b) 0

  abbrev pub identity_of : (mine peer : Stream) → Identity
  identity_of mine peer = record {
    my_tag = tag_of mine;
    my_first = first_of mine;
    peer_tag = tag_of peer;
    peer_first = first_of peer;
    tie = (next_u64 (drawn mine)).0;
  }

  -- an end with a control block that has sent no data
  abbrev pub block : (mine peer : Stream) → (a_rwnd : ℕ) → Tcb
  block mine peer a_rwnd = tcb defaults (identity_of mine peer) a_rwnd (agreed defaults defaults)

  -- with the association open
  abbrev pub open_a : (a : Stream) (rx tx : ℕ) → Context P
  open_a a rx tx = record (counted pack rx tx) { peer = DcsctpRs; last_tag = tag_of a; heartbeats = restart_interval 0 (heartbeats defaults) }

  abbrev pub open_b : (b : Stream) (rx tx : ℕ) → Context P
  open_b b rx tx = record (counted pack rx tx) { last_tag = tag_of b; heartbeats = restart_interval 0 (heartbeats defaults) }

  abbrev pub echoed : (a b : Stream) → Endpoint P
  echoed a b = record {
    endpoint_state = record {
      state = Open (CookieEchoed (t1_cookie (context defaults pack)) (cookie_bytes (cookie_of a b))) (block a b 5242880);
      context = record (counted pack 1 2) { peer = DcsctpRs; last_tag = tag_of a };
    };
    draws = (next_u64 (drawn a)).1;
  }

  receives_ack : (a b : Stream) → give (init_ack_packet a b) (waiting a) ≡ emitting (packet_event pack (cookie_echo_packet a b) ∷ []) (echoed a b)
  unfolding be16 be32 be64 padded_item inner_items parameter_value chunk_bytes chunks_bytes chunk_value init_fields cookie_bytes capability_bytes
  receives_ack a b =
      ap (λ (r : Option (List ℕ)). packet_unless r (tag_of a) (init_ack_packet a b).chunks (count_packet_at (waiting a)))
      (own_taken (init_ack_chunk (init_ack_of defaults (init_tree a) (tag_of b) (first_of b) 0)) (tag_of a) (waiting a).endpoint_state.state refl refl refl refl (tag_some a) refl)

  pub echoes : (a b : Stream) → echoing pack a b ≡ emitting (packet_event pack (cookie_echo_packet a b) ∷ []) (echoed a b)
  echoes a b = ap (λ (s : Endpoint P). give (init_ack_packet a b) (drained s)) (asks a b) ∙ receives_ack a b

  cookie_fits : (a b : Stream) → CookieFits (cookie_of a b)
  cookie_fits a b = record {
    peer_tag = tag_small a;
    my_tag = tag_small b;
    peer_initial_tsn = first_small a;
    my_initial_tsn = first_small b;
    a_rwnd = omega arith;
    tie_tag = omega arith;
    peer_capabilities = record { zero_checksum_method = omega arith; incoming = omega arith; outgoing = omega arith };
  }

  reads : (a b : Stream) → read_cookie (cookie_bytes (cookie_of a b)) ≡ Ok (cookie_of a b)
  reads a b = read_cookie_bytes (cookie_of a b) (cookie_fits a b) (grind (arith, nat_tests))

  abbrev pub opened_b : (a b : Stream) → Endpoint P
  opened_b a b = record {
    endpoint_state = record { state = Open Established (block b a 2000000); context = open_b b 2 2 };
    draws = (next_u64 (drawn b)).1;
  }

  receives_cookie : (a b : Stream) → give (cookie_echo_packet a b) (answered b) ≡ emitting (OnConnected ∷ packet_event pack (cookie_ack_packet a) ∷ []) (opened_b a b)
  unfolding padded_item chunk_bytes chunks_bytes chunk_value
  receives_cookie a b =
      ap (λ (r : Result Cookie StateCookieError). in_endpoint_state (where_open on_packet_end) (on_read_cookie (tag_of b) r (count_packet_at (answered b)))) (reads a b)
      ∙ ap (λ (v : Bool). in_endpoint_state (where_open on_packet_end) (on_resolution (new_if v) (cookie_of a b) (count_packet_at (answered b)))) (is_itself (tag_of b))

  pub accepts : (a b : Stream) → accepting pack a b ≡ emitting (OnConnected ∷ packet_event pack (cookie_ack_packet a) ∷ []) (opened_b a b)
  accepts a b = ap (λ (s : Endpoint P). give (cookie_echo_packet a b) (drained s)) (answers a b) ∙ receives_cookie a b

  abbrev pub opened_a : (a b : Stream) → Endpoint P
  opened_a a b = record {
    endpoint_state = record { state = Open Established (block a b 5242880); context = open_a a 2 2 };
    draws = (next_u64 (drawn a)).1;
  }

  receives_cookie_ack : (a b : Stream) → give (cookie_ack_packet a) (echoed a b) ≡ emitting (OnConnected ∷ []) (opened_a a b)
  unfolding chunks_bytes
  receives_cookie_ack a b =
      ap (λ (r : Option (List ℕ)). packet_unless r (tag_of a) (cookie_ack_chunk ∷ []) (count_packet_at (echoed a b)))
      (own_taken cookie_ack_chunk (tag_of a) (echoed a b).endpoint_state.state refl refl refl refl (tag_some a) refl)

  pub opens : (a b : Stream) → opening pack a b ≡ emitting (OnConnected ∷ []) (opened_a a b)
  opens a b = ap (λ (s : Endpoint P). give (cookie_ack_packet a) (drained s)) (echoes a b) ∙ receives_cookie_ack a b

  pub shows_by : (s t : Endpoint P) (events : List (Event P)) (held : Option Association) (ready : List Message) → s ≡ emitting events t
      → association_in t.endpoint_state.state ≡ held → ready_in t.endpoint_state.state ≡ ready → Shows s events held ready
  shows_by s t events held ready e h r = record {
    emits = ap (λ (x : Endpoint P). x.endpoint_state.context.emitted) e;
    holds = ap (λ (x : Endpoint P). association_in x.endpoint_state.state) e ∙ h;
    has = ap (λ (x : Endpoint P). ready_in x.endpoint_state.state) e ∙ r;
  }

  pub it_opens : (a b : Stream) → Opens pack a b
  it_opens a b = record {
    asked = shows_by (asking pack a b) (waiting a) _ None [] (asks a b) refl refl;
    answered = shows_by (answering pack a b) (answered b) _ None [] (answers a b) refl refl;
    echoed = shows_by (echoing pack a b) (echoed a b) _ (Some (association a b)) [] (echoes a b) refl refl;
    accepted = shows_by (accepting pack a b) (opened_b a b) _ (Some (association b a)) [] (accepts a b) refl refl;
    opened = shows_by (opening pack a b) (opened_a a b) _ (Some (association a b)) [] (opens a b) refl refl;
  }
