-- The TSN of a SHUTDOWN is not looked at: packets that differ in it alone are received alike.
use Rattle.std.proofs.Common.{◌≡◌, ℕ, zero, suc, ◌==◌, Bool, true, false, Option, Some, None, List, [], ◌∷◌, map, refl, sym, ap, ◌∙◌}
use Rattle.sctp_packet.specs.Chunk.{ChunkTree, init_chunk, sack_chunk, cookie_echo_chunk, data_chunk, abort_chunk, shutdown_chunk, shutdown_ack_chunk, shutdown_complete_chunk}
use Rattle.spec_endpoint.specs.Association.{State, Closed, CookieWait, Open, Endpoint}
use Rattle.spec_endpoint.specs.Input.{abort_flag, complete_flag, has_shutdown_ack, begins_with_cookie, is_single_init, my_tag, plain_refusal, has_more_counted, unless_many, packet_refusal_by, packet_refusal, AfterChunk, violation, received_unless, receive, receive_rest, receive_all, has_data_chunk, on_accepted_packet, packet_unless, count_packet_at, in_endpoint_state, repeats_if, on_packet_end}
use Rattle.spec_endpoint.specs.Association.{where_open}
use Rattle.proof_endpoint.specs.Mapped.{Carried}

-- under its own tag and the chunks, whatever its checksum
abbrev pub on_chunks : (tag : ℕ) → List ChunkTree → Endpoint Carried → Endpoint Carried
on_chunks tag cs e = packet_unless (packet_refusal tag cs e.endpoint_state.state) tag cs (count_packet_at e)

-- with 0 in its place
abbrev pub blank : ChunkTree → ChunkTree
blank (shutdown_chunk tsn) = shutdown_chunk 0
blank c = c

abbrev pub blanks : List ChunkTree → List ChunkTree
blanks cs = map blank cs

-- ---- which packets are refused

abort_blank : (cs : List ChunkTree) → abort_flag (blanks cs) ≡ abort_flag cs
abort_blank [] = refl
abort_blank (abort_chunk reflected causes ∷ cs) = refl
abort_blank (c ∷ cs) = abort_blank cs

complete_blank : (cs : List ChunkTree) → complete_flag (blanks cs) ≡ complete_flag cs
complete_blank [] = refl
complete_blank (shutdown_complete_chunk reflected ∷ cs) = refl
complete_blank (c ∷ cs) = complete_blank cs

ack_blank : (cs : List ChunkTree) → has_shutdown_ack (blanks cs) ≡ has_shutdown_ack cs
ack_blank [] = refl
ack_blank (shutdown_ack_chunk ∷ cs) = refl
ack_blank (c ∷ cs) = ack_blank cs

data_blank : (cs : List ChunkTree) → has_data_chunk (blanks cs) ≡ has_data_chunk cs
data_blank [] = refl
data_blank (data_chunk tsn immediate f ∷ cs) = refl
data_blank (c ∷ cs) = data_blank cs

cookie_blank : (cs : List ChunkTree) → begins_with_cookie (blanks cs) ≡ begins_with_cookie cs
cookie_blank [] = refl
cookie_blank (cookie_echo_chunk cookie ∷ cs) = refl
cookie_blank (c ∷ cs) = refl

single_blank : (cs : List ChunkTree) → is_single_init (blanks cs) ≡ is_single_init cs
single_blank [] = refl
single_blank (init_chunk i ∷ []) = refl
single_blank (init_chunk i ∷ d ∷ cs) = refl
single_blank (c ∷ cs) = refl

counted_blank : (n : ℕ) (cs : List ChunkTree) → has_more_counted n (blanks cs) ≡ has_more_counted n cs
counted_blank n [] = refl
counted_blank zero (sack_chunk k ∷ cs) = refl
counted_blank zero (cookie_echo_chunk cookie ∷ cs) = refl
counted_blank (suc n) (sack_chunk k ∷ cs) = counted_blank n cs
counted_blank (suc n) (cookie_echo_chunk cookie ∷ cs) = counted_blank n cs
counted_blank n (c ∷ cs) = counted_blank n cs

refusal_blank : (tag : ℕ) (cs : List ChunkTree) (s : State) → packet_refusal tag (blanks cs) s ≡ packet_refusal tag cs s
refusal_blank tag cs s =
    let ds : List ChunkTree = blanks cs in
    ap (λ (b : Bool). unless_many b (packet_refusal_by (abort_flag ds) (complete_flag ds) (has_shutdown_ack ds) tag ds s)) (counted_blank 4 cs)
    ∙ ap (unless_many (has_more_counted 4 cs))
    (ap (λ (a : Option Bool). packet_refusal_by a (complete_flag ds) (has_shutdown_ack ds) tag ds s) (abort_blank cs)
    ∙ (ap (λ (a : Option Bool). packet_refusal_by (abort_flag cs) a (has_shutdown_ack ds) tag ds s) (complete_blank cs)
    ∙ (ap (λ (b : Bool). packet_refusal_by (abort_flag cs) (complete_flag cs) b tag ds s) (ack_blank cs)
    ∙ by_flags (abort_flag cs) (complete_flag cs) (has_shutdown_ack cs))))
  where
    by_flags : (a c : Option Bool) (b : Bool) → packet_refusal_by a c b tag (blanks cs) s ≡ packet_refusal_by a c b tag cs s
    by_flags (Some x) c b = refl
    by_flags None (Some x) b = refl
    by_flags None None true = refl
    by_flags None None false =
        ap (λ (x : Bool). plain_refusal x (tag == 0) (is_single_init (blanks cs)) (tag == my_tag s) tag (my_tag s)) (cookie_blank cs)
        ∙ ap (λ (x : Bool). plain_refusal (begins_with_cookie cs) (tag == 0) x (tag == my_tag s) tag (my_tag s)) (single_blank cs)

-- ---- how it is received

module _ (tag : ℕ) where
  no_violation : (s : State) (tsn : ℕ) → violation s (shutdown_chunk tsn) ≡ None
  no_violation Closed tsn = refl
  no_violation (CookieWait own first t1) tsn = refl
  no_violation (Open phase t) tsn = refl

  receive_blank : (c : ChunkTree) (e : Endpoint Carried) → receive tag (blank c) e ≡ receive tag c e
  receive_blank (shutdown_chunk tsn) e =
      ap (λ (v : Option (List ℕ)). received_unless v tag (shutdown_chunk 0) e) (no_violation e.endpoint_state.state 0)
      ∙ sym (ap (λ (v : Option (List ℕ)). received_unless v tag (shutdown_chunk tsn) e) (no_violation e.endpoint_state.state tsn))
  receive_blank c e = refl

  rest_alike : (f g : Endpoint Carried → Endpoint Carried) → ((e : Endpoint Carried) → f e ≡ g e) → (h : AfterChunk Carried) → receive_rest f h ≡ receive_rest g h
  rest_alike f g same h = go h.allows_next
    where
      go : (b : Bool) → receive_rest f (record { end = h.end; allows_next = b }) ≡ receive_rest g (record { end = h.end; allows_next = b })
      go true = same h.end
      go false = refl

  receive_all_blank : (cs : List ChunkTree) (e : Endpoint Carried) → receive_all tag (blanks cs) e ≡ receive_all tag cs e
  receive_all_blank [] e = refl
  receive_all_blank (c ∷ cs) e =
      ap (λ (h : AfterChunk Carried). receive_rest (receive_all tag (blanks cs)) h) (receive_blank c e)
      ∙ rest_alike (receive_all tag (blanks cs)) (receive_all tag cs) (receive_all_blank cs) (receive tag c e)

  handled_blank : (cs : List ChunkTree) (e : Endpoint Carried) → on_accepted_packet tag (blanks cs) e ≡ on_accepted_packet tag cs e
  handled_blank cs e =
      ap (λ (b : Bool). in_endpoint_state (where_open on_packet_end) (receive_all tag (blanks cs) (in_endpoint_state (repeats_if b) e))) (data_blank cs)
      ∙ ap (λ (f : Endpoint Carried). in_endpoint_state (where_open on_packet_end) f) (receive_all_blank cs (in_endpoint_state (repeats_if (has_data_chunk cs)) e))

  taken_blank : (r : Option (List ℕ)) (cs : List ChunkTree) (e : Endpoint Carried) → packet_unless r tag (blanks cs) e ≡ packet_unless r tag cs e
  taken_blank None cs e = handled_blank cs e
  taken_blank (Some text) cs e = refl

  pub chunks_blank : (cs : List ChunkTree) (e : Endpoint Carried) → on_chunks tag (blanks cs) e ≡ on_chunks tag cs e
  chunks_blank cs e =
      ap (λ (r : Option (List ℕ)). packet_unless r tag (blanks cs) (count_packet_at e)) (refusal_blank tag cs e.endpoint_state.state)
      ∙ taken_blank (packet_refusal tag cs e.endpoint_state.state) cs (count_packet_at e)
