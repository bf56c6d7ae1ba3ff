-- Contexts: what is said, packets that are put together within the mtu, and how they go out.
use Rattle.std.proofs.Common.{◌≡◌, ℕ, ◌+◌, ◌-◌, ◌≤◌, max, nat_le, Bool, true, false, List, [], ◌∷◌, ◌++◌, length, refl, sym, ap, subst, ◌∙◌, arith}
use Rattle.std.proofs.lemmas.List.{length-append}
use Rattle.std.proofs.lemmas.Bool.{leb-true, and_parts}
use Rattle.sctp_wire.specs.Serialize.{is_encodable}
use Rattle.sctp_packet.specs.Chunk.{ChunkTree}
use Rattle.sctp_packet.specs.Written.{chunk_item, chunk_is_whole, chunk_bytes, chunks_bytes}
use Rattle.sctp_packet.proofs.BuilderLemmas.{holds_more}
use Rattle.sctp_state.specs.declared.api.ErrorKind.{ErrorKind}
use Rattle.sctp_state.specs.Events.{Event, SendPacket, OnError, Emitted, emit_event}
use Rattle.spec_endpoint.specs.Association.{Tcb, Context, Packing}
use Rattle.spec_endpoint.specs.Packets.{PacketDraft, room, fits, added_if, add, add_all, has_chunks, round_down_to_4, new_packet, emit_error, header_to, emit_if, emit, emit_chunk}
use Rattle.spec_endpoint.specs.Laws.{IsWithin, IsShort, ending}
use Rattle.proof_endpoint.proofs.StepsLemmas.{Emits, most_bytes, Goes}
use Rattle.proof_endpoint.proofs.EmitsLemmas.{emits_nothing, emits_one, emits_through}

-- ---- packets that are put together

pub record IsSmall (most : ℕ) (p : PacketDraft) : Type 0 where
  pub limit : p.limit ≤ most
  pub short : 12 + length (chunks_bytes p.chunks) ≤ most

pub no_bytes : length (chunks_bytes []) ≡ 0
unfolding chunks_bytes
no_bytes = refl

pub rounded_down_le : (mtu : ℕ) → round_down_to_4 mtu ≤ max 12 mtu
rounded_down_le mtu = omega arith

-- with nothing in it
pub small_empty : (most : ℕ) (p : PacketDraft) → 12 ≤ most → p.limit ≤ most → p.chunks ≡ [] → IsSmall most p
small_empty most p least h e = record {
  limit = h;
  short = omega (arith, least, no_bytes, ap (λ (cs : List ChunkTree). length (chunks_bytes cs)) e);
}

longer : (most limit : ℕ) (front : List ChunkTree) (c : ChunkTree) → limit ≤ most → 12 + length (chunks_bytes front) ≤ most
    → length (chunk_bytes c) ≤ limit - (12 + length (chunks_bytes front)) → 12 + length (chunks_bytes (front ++ c ∷ [])) ≤ most
longer most limit front c within h fit =
    let joined = holds_more (chunks_bytes front) (chunks_bytes front ++ chunk_bytes c) front c refl refl in
    omega (arith, within, h, fit, ap length joined, length-append (chunks_bytes front) (chunk_bytes c))

small_added : (most : ℕ) (p : PacketDraft) (c : ChunkTree) (b : Bool) → fits p c ≡ b → IsSmall most p → IsSmall most (added_if b c p)
small_added most p c true e h =
    let room_for = leb-true _ _ (and_parts (is_encodable (chunk_item c) (chunk_is_whole c)) (nat_le (length (chunk_bytes c)) (room p)) e).1 in
    record { limit = h.limit; short = longer most p.limit p.chunks c h.limit h.short room_for }
small_added most p c false e h = h

pub small_add : (most : ℕ) (p : PacketDraft) (c : ChunkTree) → IsSmall most p → IsSmall most (add c p)
small_add most p c h = small_added most p c (fits p c) refl h

pub small_add_all : (most : ℕ) (p : PacketDraft) (cs : List ChunkTree) → IsSmall most p → IsSmall most (add_all cs p)
small_add_all most p [] h = h
small_add_all most p (c ∷ cs) h = small_add_all most (add c p) cs (small_add most p c h)

-- ---- contexts

module _ {P : Type 0} where
  pub small_new : (t : Tcb) (c : Context P) → IsSmall (most_bytes c) (new_packet c.options t)
  small_new t c = small_empty (most_bytes c) (new_packet c.options t) (omega arith) (rounded_down_le c.options.mtu) refl

  -- an empty packet of the mtu
  pub small_whole : (c : Context P) (p : PacketDraft) → p.limit ≡ c.options.mtu → p.chunks ≡ [] → IsSmall (most_bytes c) p
  small_whole c p h e = small_empty (most_bytes c) p (omega arith) (omega (arith, h)) e

  -- one with the same options and packing
  pub goes_by : (n : ℕ) (c d : Context P) → d.options.mtu ≡ c.options.mtu → d.pack ≡ c.pack → Emits c.pack (most_bytes c) n c.emitted d.emitted → Goes n c d
  goes_by n c d mtu pack emits = record { mtu = mtu; pack = pack; emits = emits }

  -- nothing is emitted
  pub goes_silent : (c d : Context P) → d.options.mtu ≡ c.options.mtu → d.pack ≡ c.pack → d.emitted ≡ c.emitted → Goes 0 c d
  goes_silent c d mtu pack emitted = record {
    mtu = mtu;
    pack = pack;
    emits = subst (λ (t : Emitted P). Emits c.pack (most_bytes c) 0 c.emitted t) (sym emitted) (emits_nothing c.pack (most_bytes c) c.emitted);
  }

  pub goes_same : (c : Context P) → Goes 0 c c
  goes_same c = goes_silent c c refl refl refl

  same_terms : (n mtu_c mtu_d : ℕ) (pack_c pack_d : Packing P) (t u : Emitted P) → mtu_d ≡ mtu_c → pack_d ≡ pack_c
      → Emits pack_d (max 12 mtu_d) n t u → Emits pack_c (max 12 mtu_c) n t u
  same_terms n mtu_c mtu_d pack_c pack_d t u e f h =
      subst (λ (pack : Packing P). Emits pack (max 12 mtu_c) n t u) f (subst (λ (m : ℕ). Emits pack_d (max 12 m) n t u) e h)

  pub goes_through : (n m : ℕ) (c d e : Context P) → Goes n c d → Goes m d e → Goes (n + m) c e
  goes_through n m c d e a b = record {
    mtu = b.mtu ∙ a.mtu;
    pack = b.pack ∙ a.pack;
    emits = emits_through c.pack (most_bytes c) n m c.emitted d.emitted e.emitted a.emits
        (same_terms m c.options.mtu d.options.mtu c.pack d.pack d.emitted e.emitted a.mtu a.pack b.emits);
  }

  pub goes_then : (n : ℕ) (c d e : Context P) → Goes 0 c d → Goes n d e → Goes n c e
  goes_then n c d e a b =
      let sum : 0 + n ≡ n = omega arith in
      subst (λ (k : ℕ). Goes k c e) sum (goes_through 0 n c d e a b)

  pub goes_last : (n : ℕ) (c d e : Context P) → Goes n c d → Goes 0 d e → Goes n c e
  goes_last n c d e a b =
      let sum : n + 0 ≡ n = omega arith in
      subst (λ (k : ℕ). Goes k c e) sum (goes_through n 0 c d e a b)

  -- what is small stays so
  pub small_after : (c d : Context P) (p : PacketDraft) → Goes 0 c d → IsSmall (most_bytes c) p → IsSmall (most_bytes d) p
  small_after c d p g h = subst (λ (m : ℕ). IsSmall (max 12 m) p) (sym g.mtu) h

  -- ---- what is said

  pub goes_said : (n : ℕ) (c d : Context P) (e : Event P) → d.options.mtu ≡ c.options.mtu → d.pack ≡ c.pack → d.emitted ≡ emit_event e c.emitted
      → IsShort c.pack (most_bytes c) e → ending e ≡ n → Goes n c d
  goes_said n c d e mtu pack emitted short is = record {
    mtu = mtu;
    pack = pack;
    emits = subst (λ (t : Emitted P). Emits c.pack (most_bytes c) n c.emitted t) (sym emitted) (emits_one c.pack (most_bytes c) n e c.emitted short is);
  }

  pub goes_emit_error : (kind : ErrorKind) (text : List ℕ) (c : Context P) → Goes 0 c (emit_error kind text c)
  goes_emit_error kind text c = goes_said 0 c (emit_error kind text c) (OnError kind text) refl refl refl tt refl

  goes_emitted : (b : Bool) (p : PacketDraft) (c : Context P) → IsSmall (most_bytes c) p → Goes 0 c (emit_if b p c)
  goes_emitted true p c h =
      let header = header_to c.options p.tag in
      let short : IsWithin c.pack (most_bytes c) (c.pack.write header p.is_summed p.chunks) = record {
        header = header;
        is_summed = p.is_summed;
        chunks = p.chunks;
        made = refl;
        short = h.short;
      } in
      goes_said 0 c (emit_if true p c) (SendPacket (c.pack.write header p.is_summed p.chunks)) refl refl refl short refl
  goes_emitted false p c h = goes_same c

  pub goes_emit : (p : PacketDraft) (c : Context P) → IsSmall (most_bytes c) p → Goes 0 c (emit p c)
  goes_emit p c h = goes_emitted (has_chunks p) p c h

  pub goes_emit_chunk : (chunk : ChunkTree) (t : Tcb) (c : Context P) → Goes 0 c (emit_chunk chunk t c)
  goes_emit_chunk chunk t c = goes_emit (add chunk (new_packet c.options t)) c (small_add (most_bytes c) (new_packet c.options t) chunk (small_new t c))
