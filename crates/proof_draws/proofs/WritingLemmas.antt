-- Packets that are put together under other names take the same chunks, and are written the same by who knows the names.
use Rattle.std.proofs.Common.{◌≡◌, ℕ, ◌+◌, ◌-◌, ◌&&◌, nat_lt, nat_le, ◌^◌, Bool, true, false, List, [], ◌∷◌, length, refl, sym, ap, ◌∙◌}
use Rattle.std.proofs.lemmas.List.{map-append}
use Rattle.sctp_packet.specs.Chunk.{ChunkTree}
use Rattle.sctp_packet.specs.Written.{chunk_value, chunk_is_whole, chunk_bytes, chunks_bytes}
use Rattle.sctp_state.specs.Numbers.{more}
use Rattle.sctp_state.specs.Events.{SendPacket}
use Rattle.spec_endpoint.specs.Association.{Tcb, Context, Packing}
use Rattle.spec_endpoint.specs.Packets.{PacketDraft, fits, added_if, add, add_all, is_some_chunk, has_chunks, new_packet, emit_event_in, header_to, emit_if, emit, emit_chunk}
use Rattle.proof_draws.specs.NamedChunks.{Names, AreNames, named_chunk, named_chunks}
use Rattle.proof_draws.specs.Names.{named_packet, named_tcb, under, plain}
use Rattle.proof_draws.proofs.SizeLemmas.{same_value, size_named, sizes_named, whole_named}

-- ---- chunks that are put in

abbrev with_chunks : PacketDraft → List ChunkTree → PacketDraft
with_chunks p cs = record p { chunks = cs }

-- whether a chunk fits, by sizes alone
abbrev fits_by : (value : ℕ) → (is_whole : Bool) → (size taken limit : ℕ) → Bool
fits_by value is_whole size taken limit = (nat_lt (4 + value) (2 ^ 16) && is_whole) && nat_le size (limit - (12 + taken))

module _ (n : Names) (are : AreNames n) where
  pub same_fits : (p : PacketDraft) (c : ChunkTree) → fits (named_packet n p) (named_chunk n c) ≡ fits p c
  same_fits p c =
      let value : ℕ = length (chunk_value (named_chunk n c)) in
      let whole : Bool = chunk_is_whole (named_chunk n c) in
      let size : ℕ = length (chunk_bytes (named_chunk n c)) in
      ap (λ (k : ℕ). fits_by value whole size k p.limit) (sizes_named n are p.chunks)
      ∙ (ap (λ (k : ℕ). fits_by value whole k (length (chunks_bytes p.chunks)) p.limit) (size_named n are c)
      ∙ (ap (λ (b : Bool). fits_by value b (length (chunk_bytes c)) (length (chunks_bytes p.chunks)) p.limit) (whole_named n are c)
      ∙ ap (λ (k : ℕ). fits_by k (chunk_is_whole c) (length (chunk_bytes c)) (length (chunks_bytes p.chunks)) p.limit) (same_value n are c)))

  named_added : (b : Bool) (c : ChunkTree) (p : PacketDraft) → added_if b (named_chunk n c) (named_packet n p) ≡ named_packet n (added_if b c p)
  named_added true c p = ap (λ (cs : List ChunkTree). with_chunks (named_packet n p) cs) (sym (map-append (named_chunk n) p.chunks (c ∷ [])))
  named_added false c p = refl

  pub named_add : (c : ChunkTree) (p : PacketDraft) → add (named_chunk n c) (named_packet n p) ≡ named_packet n (add c p)
  named_add c p = ap (λ (b : Bool). added_if b (named_chunk n c) (named_packet n p)) (same_fits p c) ∙ named_added (fits p c) c p

  pub named_add_all : (cs : List ChunkTree) (p : PacketDraft) → add_all (named_chunks n cs) (named_packet n p) ≡ named_packet n (add_all cs p)
  named_add_all [] p = refl
  named_add_all (c ∷ cs) p = ap (λ (q : PacketDraft). add_all (named_chunks n cs) q) (named_add c p) ∙ named_add_all cs (add c p)

  some_named : (cs : List ChunkTree) → is_some_chunk (named_chunks n cs) ≡ is_some_chunk cs
  some_named [] = refl
  some_named (c ∷ cs) = refl

  pub some_in : (p : PacketDraft) → has_chunks (named_packet n p) ≡ has_chunks p
  some_in p = some_named p.chunks

-- ---- packets that go out

-- the end's packets are written by who knows the names
abbrev pub Knows : {P : Type 0} → Names → Packing P → Context P → Type 0
Knows n pack c = c.pack ≡ under n pack

-- a packet that this one writes goes out
abbrev sent_by : {P : Type 0} → Names → Packing P → PacketDraft → Context P → Packing P → Context P
sent_by n pack p c w = record (emit_event_in (SendPacket (w.write (header_to c.options p.tag) p.is_summed p.chunks)) (plain n pack c)) {
  counts = record c.counts { tx_packets = more c.counts.tx_packets };
}

module _ {P : Type 0} (n : Names) (are : AreNames n) (pack : Packing P) where
  named_emit_if : (b : Bool) (p : PacketDraft) (c : Context P) → Knows n pack c → emit_if b (named_packet n p) (plain n pack c) ≡ plain n pack (emit_if b p c)
  named_emit_if true p c k = ap (λ (w : Packing P). sent_by n pack p c w) (sym k)
  named_emit_if false p c k = refl

  pub named_emit : (p : PacketDraft) (c : Context P) → Knows n pack c → emit (named_packet n p) (plain n pack c) ≡ plain n pack (emit p c)
  named_emit p c k =
      ap (λ (b : Bool). emit_if b (named_packet n p) (plain n pack c)) (some_in n are p) ∙ named_emit_if (has_chunks p) p c k

  pub named_emit_chunk : (chunk : ChunkTree) (t : Tcb) (c : Context P) → Knows n pack c
      → emit_chunk (named_chunk n chunk) (named_tcb n t) (plain n pack c) ≡ plain n pack (emit_chunk chunk t c)
  named_emit_chunk chunk t c k =
      ap (λ (p : PacketDraft). emit p (plain n pack c)) (named_add n are chunk (new_packet c.options t)) ∙ named_emit (add chunk (new_packet c.options t)) c k

-- writing goes on as it did
emits_stay : {P : Type 0} (b : Bool) (p : PacketDraft) (c : Context P) → (emit_if b p c).pack ≡ c.pack
emits_stay true p c = refl
emits_stay false p c = refl

pub emit_stays : {P : Type 0} (p : PacketDraft) (c : Context P) → (emit p c).pack ≡ c.pack
emit_stays p c = emits_stay (has_chunks p) p c
