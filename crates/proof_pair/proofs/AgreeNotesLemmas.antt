-- Histories that are taken chunk by chunk: what was held within a packet too. The draws are those of the action.
use Rattle.std.proofs.Common.{◌≡◌, ℕ, Bool, true, false, Option, Some, None, List, [], ◌∷◌, ◌++◌, slice_get, refl, sym, ◌∙◌, append_assoc}
use Rattle.sctp_packet.specs.Chunk.{ChunkTree}
use Rattle.sctp_packet.specs.Packet.{PacketTree}
use Rattle.spec_endpoint.specs.Association.{State, Closed, Endpoint}
use Rattle.spec_endpoint.specs.Input.{AfterChunk, packet_refusal, count_packet_at, in_endpoint_state, repeats_if, has_data_chunk, receive}
use Rattle.spec_endpoint.specs.Laws.{Connect}
use Rattle.proof_endpoint.specs.Mapped.{Carried}
use Rattle.proof_pair.specs.Trace.{Side, emitted_packets, as_received, EndAction, Calls, Gives, Refuses, act, state_of}
use Rattle.proof_pair.specs.Agreement.{Draw, History, held_in, drawn_for, drawn_to_connect, drawn_behind, drawn_receiving, drawn_taking, drawn_given, drawn_in}

abbrev pub noted : (drew : List Draw) → State → History → History
noted drew s n = record { drawn = drew ++ n.drawn; held = held_in s ++ n.held }

abbrev pub noted_after : {P : Type 0} → (Endpoint P → History → History) → AfterChunk P → History → History
noted_after rest h n = elim h.allows_next [ true ↦ rest h.end n | false ↦ n ]

abbrev pub noted_receiving : {P : Type 0} → (tag : ℕ) → List ChunkTree → Endpoint P → History → History
noted_receiving tag [] e n = n
noted_receiving tag (c ∷ cs) e n = noted_after (noted_receiving tag cs) (receive tag c e) (noted (drawn_for c e) (receive tag c e).end.endpoint_state.state n)

abbrev pub noted_taking : {P : Type 0} → Option (List ℕ) → PacketTree → Endpoint P → History → History
noted_taking None p e n = noted_receiving p.header.verification_tag p.chunks (in_endpoint_state (repeats_if (has_data_chunk p.chunks)) (count_packet_at e)) n
noted_taking (Some text) p e n = n

abbrev pub noted_given : Option Carried → (checksum : ℕ) → Side → History → History
noted_given None checksum x n = n
noted_given (Some p) checksum x n =
    let q : PacketTree = as_received p checksum in
    noted_taking (packet_refusal q.header.verification_tag q.chunks (state_of x)) q x.end n

-- of one action: within it, and after it
abbrev pub noted_in : EndAction → (x y : Side) → History → History
noted_in (Calls Connect) x y n = noted (drawn_to_connect (state_of x) x.end) Closed n
noted_in (Calls call) x y n = n
noted_in (Gives which checksum) x y n = noted_given (slice_get (emitted_packets y) which) checksum x n
noted_in (Refuses p) x y n = n

abbrev pub noted_all : EndAction → (x y : Side) → History → History
noted_all action x y n = noted [] (state_of (act action x y)) (noted_in action x y n)

-- ---- the draws

drawn_after : {P : Type 0} (b : Bool) (rest : Endpoint P → History → History) (more : Endpoint P → List Draw) (e : Endpoint P) (ds : List Draw) (s : State) (n : History)
    → ((m : History) → (rest e m).drawn ≡ more e ++ m.drawn)
    → (noted_after rest (record { end = e; allows_next = b }) (noted ds s n)).drawn ≡ (drawn_behind more (record { end = e; allows_next = b }) ++ ds) ++ n.drawn
drawn_after true rest more e ds s n f = f (noted ds s n) ∙ sym (append_assoc (more e) ds n.drawn)
drawn_after false rest more e ds s n f = refl

pub same_receiving : {P : Type 0} (tag : ℕ) (cs : List ChunkTree) (e : Endpoint P) (n : History) → (noted_receiving tag cs e n).drawn ≡ drawn_receiving tag cs e ++ n.drawn
same_receiving tag [] e n = refl
same_receiving tag (c ∷ cs) e n =
    let h = receive tag c e in
    drawn_after h.allows_next (noted_receiving tag cs) (drawn_receiving tag cs) h.end (drawn_for c e) h.end.endpoint_state.state n (λ m. same_receiving tag cs h.end m)

same_taking : {P : Type 0} (r : Option (List ℕ)) (p : PacketTree) (e : Endpoint P) (n : History) → (noted_taking r p e n).drawn ≡ drawn_taking r p e ++ n.drawn
same_taking None p e n = same_receiving p.header.verification_tag p.chunks (in_endpoint_state (repeats_if (has_data_chunk p.chunks)) (count_packet_at e)) n
same_taking (Some text) p e n = refl

same_given : (p : Option Carried) (checksum : ℕ) (x : Side) (n : History) → (noted_given p checksum x n).drawn ≡ drawn_given p checksum x ++ n.drawn
same_given None checksum x n = refl
same_given (Some p) checksum x n =
    let q : PacketTree = as_received p checksum in
    same_taking (packet_refusal q.header.verification_tag q.chunks (state_of x)) q x.end n

pub same_draws : (action : EndAction) (x y : Side) (n : History) → (noted_all action x y n).drawn ≡ drawn_in action x y ++ n.drawn
same_draws (Calls Connect) x y n = refl
same_draws (Calls call) x y n = refl
same_draws (Gives which checksum) x y n = same_given (slice_get (emitted_packets y) which) checksum x n
same_draws (Refuses p) x y n = refl
