-- Packets that are put together of chunks that can be read back.
use Rattle.std.proofs.Common.{◌≡◌, ℕ, ◌^◌, ◌<◌, nat_le, Bool, true, false, List, [], ◌∷◌, ◌++◌, length, map, All, refl, sym, subst}
use Rattle.std.proofs.lemmas.List.Elements.{All-cons, All-nil}
use Rattle.std.proofs.lemmas.Bool.{and_parts}
use Rattle.sctp_serial.specs.declared.api.StreamId.{StreamId}
use Rattle.sctp_wire.specs.Parameter.{ParameterTree, state_cookie, outgoing_reset_request}
use Rattle.sctp_wire.specs.Serialize.{is_encodable}
use Rattle.sctp_packet.specs.Chunk.{ChunkTree, FragmentTree, InitTree, init_chunk, init_ack_chunk, cookie_echo_chunk, cookie_ack_chunk, re_config_chunk, fragment_chunk}
use Rattle.sctp_packet.specs.Grammar.{Each, FitsChunk}
use Rattle.sctp_packet.specs.Written.{chunk_item, chunk_is_whole, chunk_bytes}
use Rattle.sctp_packet.specs.ReadBack.{ChunkReadsBack}
use Rattle.sctp_state.specs.Options.{Options}
use Rattle.sctp_capabilities.specs.Capabilities.{announced_parameters}
use Rattle.sctp_capabilities.specs.StateCookie.{cookie_bytes}
use Rattle.sctp_tx.specs.RetransmissionQueue.{Sender}
use Rattle.sctp_tx.specs.Resent.{is_interleaved}
use Rattle.sctp_tx.specs.ForwardPoints.{chunk_if, forward_chunk}
use Rattle.spec_endpoint.specs.Association.{Tcb}
use Rattle.spec_endpoint.specs.ResetRequests.{Request, ids, request_chunk}
use Rattle.spec_endpoint.specs.Packets.{PacketDraft, room, fits, added_if, add, add_all}
use Rattle.spec_endpoint.specs.Sending.{selective_ack, data_chunks}
use Rattle.spec_endpoint.specs.Opening.{init_of, cookie_for, agreed_by, init_ack_of}
use Rattle.proof_endpoint.specs.Sound.{OptionsFit, FitsRequest, FitsTcb, HasSomeCookie}
use Rattle.proof_endpoint.specs.Fair.{IsFairParameter, IsFair}
use Rattle.proof_endpoint.specs.Acts.{is_plain}
use Rattle.proof_endpoint.proofs.GoesLemmas.{IsSmall, small_add}
use Rattle.proof_endpoint.proofs.FairLemmas.{fair_reads}
use Rattle.proof_endpoint.proofs.ReceivedLemmas.{each_push}
use Rattle.proof_endpoint.proofs.OwnChunksLemmas.{IsOwn, own_announced, own_with_cookie, own_fair, own_cookies, same_method_fits}
use Rattle.proof_endpoint.proofs.SoundTrackerLemmas.{sack_fits, window_small}
use Rattle.proof_endpoint.proofs.SoundItemsLemmas.{FitsSent}
use Rattle.proof_endpoint.proofs.SoundTxLemmas.{FitsSender, forward_chunk_fits}

-- ---- packets

-- a chunk that an end makes
pub record IsOwnChunk (c : ChunkTree) : Type 0 where
  pub fair : IsFair c
  pub cookie : HasSomeCookie c

pub record IsSoundChunk (c : ChunkTree) : Type 0 where
  pub reads_back : ChunkReadsBack c
  pub cookie : HasSomeCookie c

pub record IsGood (most : ℕ) (p : PacketDraft) : Type 0 where
  pub small : IsSmall most p
  pub tag : p.tag < 2 ^ 32
  pub chunks : Each IsSoundChunk p.chunks

chunks_added : (b : Bool) (p : PacketDraft) (c : ChunkTree) → fits p c ≡ b → IsOwnChunk c → Each IsSoundChunk p.chunks → Each IsSoundChunk (added_if b c p).chunks
chunks_added true p c e own h =
    let can : is_encodable (chunk_item c) (chunk_is_whole c) ≡ true =
    (and_parts (is_encodable (chunk_item c) (chunk_is_whole c)) (nat_le (length (chunk_bytes c)) (room p)) e).0 in
    each_push IsSoundChunk p.chunks c h (record { reads_back = fair_reads c own.fair can; cookie = own.cookie })
chunks_added false p c e own h = h

tag_added : (b : Bool) (p : PacketDraft) (c : ChunkTree) → (added_if b c p).tag ≡ p.tag
tag_added true p c = refl
tag_added false p c = refl

pub good_add : (most : ℕ) (p : PacketDraft) (c : ChunkTree) → IsOwnChunk c → IsGood most p → IsGood most (add c p)
good_add most p c own h = record {
  small = small_add most p c h.small;
  tag = subst (λ (n : ℕ). n < 2 ^ 32) (sym (tag_added (fits p c) p c)) h.tag;
  chunks = chunks_added (fits p c) p c refl own h.chunks;
}

good_add_all : (most : ℕ) (p : PacketDraft) (cs : List ChunkTree) → Each IsOwnChunk cs → IsGood most p → IsGood most (add_all cs p)
good_add_all most p [] own h = h
good_add_all most p (c ∷ cs) own h = good_add_all most (add c p) cs own.1 (good_add most p c own.0 h)

pub all_read_back : (cs : List ChunkTree) → Each IsSoundChunk cs → All ChunkReadsBack cs
all_read_back [] h = All-nil ChunkReadsBack
all_read_back (c ∷ cs) h = All-cons ChunkReadsBack c cs h.0.reads_back (all_read_back cs h.1)

pub all_cookies : (cs : List ChunkTree) → Each IsSoundChunk cs → All HasSomeCookie cs
all_cookies [] h = All-nil HasSomeCookie
all_cookies (c ∷ cs) h = All-cons HasSomeCookie c cs h.0.cookie (all_cookies cs h.1)

-- ---- chunks

plain_cookie : (c : ChunkTree) → is_plain c ≡ true → HasSomeCookie c
plain_cookie (init_ack_chunk i) h = cc
plain_cookie c h = tt

pub own_plain : (c : ChunkTree) → is_plain c ≡ true → IsFair c → IsOwnChunk c
own_plain c h fair = record { fair = fair; cookie = plain_cookie c h }

pub own_sack : (t : Tcb) → FitsTcb t → IsOwnChunk (selective_ack t)
own_sack t h = record { fair = record { fits = sack_fits _ t.tracker (window_small t.reassembly h.window) h.tracker; inside = tt }; cookie = tt }

own_point : (b : Bool) (s : Sender) → FitsSender s → FitsChunk (chunk_if b s) → IsOwnChunk (chunk_if b s)
own_point true s h f = record { fair = record { fits = f; inside = tt }; cookie = tt }
own_point false s h f = record { fair = record { fits = f; inside = tt }; cookie = tt }

pub own_forward : (s : Sender) → FitsSender s → IsOwnChunk (forward_chunk s)
own_forward s h = own_point (is_interleaved s) s h (forward_chunk_fits s h)

ids_fit : (ns : List ℕ) → Each (λ (id : ℕ). id < 2 ^ 16) ns → All (λ (id : StreamId). id.0 < 2 ^ 16) (ids ns)
ids_fit [] h = All-nil (λ (id : StreamId). id.0 < 2 ^ 16)
ids_fit (n ∷ ns) h = All-cons (λ (id : StreamId). id.0 < 2 ^ 16) _ (ids ns) h.0 (ids_fit ns h.1)

pub own_responses : (rs : List ParameterTree) → Each IsFairParameter rs → IsOwnChunk (re_config_chunk rs)
own_responses rs h = record { fair = record { fits = tt; inside = h }; cookie = tt }

pub own_request : (r : Request) → FitsRequest r → IsOwnChunk (request_chunk r)
own_request r h =
    let p : ParameterTree = outgoing_reset_request r.number r.number (record { 0 = r.last_tsn }) (ids r.streams) in
    own_responses (p ∷ []) (record { fits = (h.number, h.number, h.last_tsn, ids_fit r.streams h.streams); of_its_variant = tt }, tt)

own_datum : (b is_immediate : Bool) (c : ℕ × FragmentTree) → FitsSent c → IsOwnChunk (fragment_chunk b is_immediate c)
own_datum true is_immediate c h = record { fair = record { fits = (h.0, h.1); inside = tt }; cookie = tt }
own_datum false is_immediate c h = record { fair = record { fits = (h.0, h.1); inside = tt }; cookie = tt }

own_data : (b is_immediate : Bool) (cs : List (ℕ × FragmentTree)) → Each FitsSent cs → Each IsOwnChunk (map (fragment_chunk b is_immediate) cs)
own_data b is_immediate [] h = tt
own_data b is_immediate (c ∷ cs) h = (own_datum b is_immediate c h.0, own_data b is_immediate cs h.1)

pub good_data : (most : ℕ) (p : PacketDraft) (t : Tcb) (is_immediate : Bool) (cs : List (ℕ × FragmentTree)) → Each FitsSent cs → IsGood most p
    → IsGood most (add_all (data_chunks t is_immediate cs) p)
good_data most p t is_immediate cs f h =
    good_add_all most p (data_chunks t is_immediate cs) (own_data t.capabilities.message_interleaving is_immediate cs f) h

-- an INIT or an INIT ACK, which has a cookie
module _ (o : Options) (h : OptionsFit o) (tag first : ℕ) (t : tag < 2 ^ 32) (f : first < 2 ^ 32) where
  pub own_init : IsOwnChunk (init_chunk (init_of o tag first (announced_parameters o o.zero_checksum_method)))
  own_init = record {
    fair = record {
      fits = record { initiate_tag = t; a_rwnd = h.receiver_window; nbr_outbound_streams = h.outgoing_streams; nbr_inbound_streams = h.incoming_streams; initial_tsn = f };
      inside = own_fair _ (own_announced o o.zero_checksum_method h.zero_checksum_method);
    };
    cookie = tt;
  }

  pub own_init_ack : (i : InitTree) (tie : ℕ) → IsOwnChunk (init_ack_chunk (init_ack_of o i tag first tie))
  own_init_ack i tie =
      let method : ℕ = (agreed_by o i).zero_checksum_method in
      let ps : List ParameterTree = announced_parameters o method in
      let own : Each IsOwn (ps ++ state_cookie (cookie_bytes (cookie_for i tag first tie)) ∷ []) =
      own_with_cookie ps (cookie_for i tag first tie) (own_announced o method (same_method_fits o.zero_checksum_method _ h.zero_checksum_method)) in
      record {
        fair = record {
          fits = record { initiate_tag = t; a_rwnd = h.receiver_window; nbr_outbound_streams = h.outgoing_streams; nbr_inbound_streams = h.incoming_streams; initial_tsn = f };
          inside = own_fair _ own;
        };
        cookie = own_cookies _ own;
      }

pub own_cookie_echo : (cookie : List ℕ) → 0 < length cookie → IsOwnChunk (cookie_echo_chunk cookie)
own_cookie_echo cookie some = record { fair = record { fits = tt; inside = some }; cookie = tt }

pub own_cookie_ack : IsOwnChunk cookie_ack_chunk
own_cookie_ack = record { fair = record { fits = tt; inside = tt }; cookie = tt }
