-- What holds of an end at work, over every trace; and what leaves it so.
use Rattle.std.proofs.Common.{◌≡◌, ℕ, ◌||◌, Bool, true, false, List, [], ◌∷◌, ◌++◌, map, All, inl, refl, sym, ap, subst, ◌∙◌, append-nil}
use Rattle.std.specs.List.{list_all}
use Rattle.std.proofs.lemmas.List.Elements.{All-nil, All-push, All-weaker}
use Rattle.std.proofs.Math.Bool.{or-false}
use Rattle.sctp_packet.specs.Chunk.{ChunkTree, FragmentTree, init_chunk, init_ack_chunk, cookie_echo_chunk, cookie_ack_chunk, fragment_chunk}
use Rattle.sctp_state.specs.Options.{Options}
use Rattle.sctp_state.specs.Events.{Event, SendPacket}
use Rattle.spec_endpoint.specs.Packets.{PacketDraft, fits, added_if, add, add_all, header_to, packets_in}
use Rattle.spec_endpoint.specs.Association.{Tcb, Packing}
use Rattle.spec_endpoint.specs.Sending.{data_chunks}
use Rattle.proof_endpoint.specs.Mapped.{Carried, as_carried}
use Rattle.proof_endpoint.specs.Acts.{EndWithPacket, is_plain}
use Rattle.proof_pair.specs.Trace.{has_connected}
use Rattle.proof_pair.proofs.EmittedLemmas.{is_no_packet_or_status}
use Rattle.proof_pair.proofs.JoinActsLemmas.{no_packet_or_status_has_no_packets, no_packet_or_status_not_connected, connected_both, packets_now}
use Rattle.proof_pair.proofs.AgreeLemmas.{Past, View, view_of, Says, says_later, Shape, is_load, shape_with, shape_plain, Stands, stands_later, Agreed, Bound, Tagged, Later, later_same, Said, said_later}

-- the options of the end that acts, what it emitted before this action, and under which tag its packet came
pub record Setting : Type 0 where
  pub own : Options
  pub past : List (Event Carried)
  pub under : Bound

pub record Inv (g : Setting) (x y : Past) (v : View) (o : Options) (pack : Packing Carried) (es : List (Event Carried)) (tag : ℕ) (chunks : List ChunkTree) : Type 0 where
  pub stands : Stands x y v
  pub size : ℕ
  pub options : o ≡ record g.own { max_message_size = size }
  pub packing : pack ≡ as_carried
  pub agreed : has_connected es ≡ true → Agreed y v
  pub tagged : Tagged g.under v
  pub said : All (Said x y) (packets_in (g.past ++ es))
  pub made : All (Says x y tag) chunks
  pub shape : Shape chunks

abbrev pub InvAt : Setting → (x y : Past) → EndWithPacket Carried → Type 0
InvAt g x y m = Inv g x y (view_of m.state) m.context.options m.context.pack m.context.emitted.events m.packet.tag m.packet.chunks

module _ (g : Setting) (x y : Past) (v : View) (o : Options) (pack : Packing Carried) (es : List (Event Carried)) (tag : ℕ) (chunks : List ChunkTree) (i : Inv g x y v o pack es tag chunks) where
  -- another packet, or more in it
  pub inv_made : (new : ℕ) (cs : List ChunkTree) → All (Says x y new) cs → Shape cs → Inv g x y v o pack es new cs
  inv_made new cs h s = record {
    stands = i.stands;
    size = i.size;
    options = i.options;
    packing = i.packing;
    agreed = i.agreed;
    tagged = i.tagged;
    said = i.said;
    made = h;
    shape = s;
  }

  -- the state is seen otherwise, more is emitted, and no packet goes out
  pub inv_view : (w : View) (more : List (Event Carried)) → packets_in more ≡ [] → Stands x y w → (has_connected (es ++ more) ≡ true → Agreed y w)
      → Tagged g.under w → Inv g x y w o pack (es ++ more) tag chunks
  inv_view w more none stands agreed tagged = record {
    stands = stands;
    size = i.size;
    options = i.options;
    packing = i.packing;
    agreed = agreed;
    tagged = tagged;
    said = subst (All (Said x y)) (sym (packets_now g.past es more [] none ∙ append-nil (packets_in (g.past ++ es)))) i.said;
    made = i.made;
    shape = i.shape;
  }

  still : (more : List (Event Carried)) → has_connected more ≡ false → has_connected (es ++ more) ≡ true → has_connected es ≡ true
  still more none h =
      sym (connected_both es more ∙ (ap (λ (b : Bool). has_connected es || b) none ∙ or-false (has_connected es))) ∙ h

  -- more is emitted, that is no packet and no `OnConnected`
  pub inv_silent : (more : List (Event Carried)) → packets_in more ≡ [] → has_connected more ≡ false → Inv g x y v o pack (es ++ more) tag chunks
  inv_silent more none not_yet = inv_view v more none i.stands (λ h. i.agreed (still more not_yet h)) i.tagged

  pub inv_no_packet_or_status : (more now : List (Event Carried)) → now ≡ es ++ more → list_all is_no_packet_or_status more ≡ true → Inv g x y v o pack now tag chunks
  inv_no_packet_or_status more now behind light =
      subst (λ (z : List (Event Carried)). Inv g x y v o pack z tag chunks) (sym behind)
      (inv_silent more (no_packet_or_status_has_no_packets more light) (no_packet_or_status_not_connected more light))

  -- the packet goes out, and another one is begun
  pub inv_emitted : (h : Options) (is_summed : Bool) (new : ℕ) → Inv g x y v o pack (es ++ SendPacket (pack.write (header_to h tag) is_summed chunks) ∷ []) new []
  inv_emitted h is_summed new =
      let p : Carried = pack.write (header_to h tag) is_summed chunks in
      let is : p ≡ as_carried.write (header_to h tag) is_summed chunks = ap (λ (f : Packing Carried). f.write (header_to h tag) is_summed chunks) i.packing in
      let said : Said x y (as_carried.write (header_to h tag) is_summed chunks) = record { says = i.made; shape = i.shape } in
      record {
        stands = i.stands;
        size = i.size;
        options = i.options;
        packing = i.packing;
        agreed = λ e. i.agreed (still (SendPacket p ∷ []) refl e);
        tagged = i.tagged;
        said = subst (All (Said x y)) (sym (packets_now g.past es (SendPacket p ∷ []) (p ∷ []) refl))
            (All-push (Said x y) (packets_in (g.past ++ es)) p i.said (subst (Said x y) (sym is) said));
        made = All-nil (Says x y new);
        shape = inl refl;
      }

  pub inv_options : (p : Options) (size : ℕ) → p ≡ record g.own { max_message_size = size } → Inv g x y v p pack es tag chunks
  inv_options p size is = record {
    stands = i.stands;
    size = size;
    options = is;
    packing = i.packing;
    agreed = i.agreed;
    tagged = i.tagged;
    said = i.said;
    made = i.made;
    shape = i.shape;
  }

  -- both ends go on, and this one is seen otherwise
  pub inv_later : (z w : Past) → Later x z → Later y w → (u : View) → Stands z w u → (has_connected es ≡ true → Agreed w u) → Tagged g.under u
      → Inv g z w u o pack es tag chunks
  inv_later z w l m u stands agreed tagged = record {
    stands = stands;
    size = i.size;
    options = i.options;
    packing = i.packing;
    agreed = agreed;
    tagged = tagged;
    said = All-weaker (Said x y) (Said z w) (said_later x y z w l m) (packets_in (g.past ++ es)) i.said;
    made = All-weaker (Says x y tag) (Says z w tag) (says_later x y z w l m tag) chunks i.made;
    shape = i.shape;
  }

  -- and nothing more was echoed
  pub inv_grown : (z : Past) → Later x z → z.echoed ≡ x.echoed → Inv g z y v o pack es tag chunks
  inv_grown z l e = inv_later z y l (later_same y) v (stands_later x y z y l (later_same y) e v i.stands) i.agreed i.tagged

  -- under another bound
  pub inv_bound : (u : Bound) → Tagged u v → Inv (record g { under = u }) x y v o pack es tag chunks
  inv_bound u t = record {
    stands = i.stands;
    size = i.size;
    options = i.options;
    packing = i.packing;
    agreed = i.agreed;
    tagged = t;
    said = i.said;
    made = i.made;
    shape = i.shape;
  }

-- ---- chunks that are put into a packet

module _ (g : Setting) (x y : Past) (v : View) (o : Options) (pack : Packing Carried) (es : List (Event Carried)) where
  adds_by : (b : Bool) (p : PacketDraft) (c : ChunkTree) → Inv g x y v o pack es p.tag p.chunks → Says x y p.tag c → Shape (p.chunks ++ c ∷ [])
      → Inv g x y v o pack es (added_if b c p).tag (added_if b c p).chunks
  adds_by true p c i says shape = inv_made g x y v o pack es p.tag p.chunks i p.tag (p.chunks ++ c ∷ []) (All-push (Says x y p.tag) p.chunks c i.made says) shape
  adds_by false p c i says shape = i

  pub adds : (p : PacketDraft) (c : ChunkTree) → Inv g x y v o pack es p.tag p.chunks → Says x y p.tag c → Shape (p.chunks ++ c ∷ [])
      → Inv g x y v o pack es (add c p).tag (add c p).chunks
  adds p c i says shape = adds_by (fits p c) p c i says shape

  -- of no weight here, and taken along by packets of all kinds
  pub record IsLoad (c : ChunkTree) : Type 0 where
    pub says : (tag : ℕ) → Says x y tag c
    pub load : is_load c ≡ true

  pub adds_load : (p : PacketDraft) (c : ChunkTree) → Inv g x y v o pack es p.tag p.chunks → IsLoad c → Inv g x y v o pack es (add c p).tag (add c p).chunks
  adds_load p c i l = adds p c i (l.says p.tag) (shape_with p.chunks c i.shape l.load)

  data_load : (is_interleaved is_immediate : Bool) (c : ℕ × FragmentTree) → IsLoad (fragment_chunk is_interleaved is_immediate c)
  data_load true is_immediate c = record { says = λ tag. tt; load = refl }
  data_load false is_immediate c = record { says = λ tag. tt; load = refl }

  adds_data_by : (is_interleaved is_immediate : Bool) (cs : List (ℕ × FragmentTree)) (p : PacketDraft) → Inv g x y v o pack es p.tag p.chunks
      → Inv g x y v o pack es (add_all (map (fragment_chunk is_interleaved is_immediate) cs) p).tag (add_all (map (fragment_chunk is_interleaved is_immediate) cs) p).chunks
  adds_data_by is_interleaved is_immediate [] p i = i
  adds_data_by is_interleaved is_immediate (c ∷ cs) p i =
      let d : ChunkTree = fragment_chunk is_interleaved is_immediate c in
      adds_data_by is_interleaved is_immediate cs (add d p) (adds_load p d i (data_load is_interleaved is_immediate c))

  pub adds_data : (t : Tcb) (is_immediate : Bool) (cs : List (ℕ × FragmentTree)) (p : PacketDraft) → Inv g x y v o pack es p.tag p.chunks
      → Inv g x y v o pack es (add_all (data_chunks t is_immediate cs) p).tag (add_all (data_chunks t is_immediate cs) p).chunks
  adds_data t is_immediate cs p i = adds_data_by t.capabilities.message_interleaving is_immediate cs p i

  says_plain : (tag : ℕ) (c : ChunkTree) → is_plain c ≡ true → Says x y tag c
  says_plain tag (init_chunk i) e = cc
  says_plain tag (init_ack_chunk i) e = cc
  says_plain tag (cookie_echo_chunk c) e = cc
  says_plain tag cookie_ack_chunk e = cc
  says_plain tag c e = tt

  pub adds_simple : (p : PacketDraft) (c : ChunkTree) → Inv g x y v o pack es p.tag p.chunks → is_plain c ≡ true → list_all is_plain p.chunks ≡ true
      → Inv g x y v o pack es (add c p).tag (add c p).chunks
  adds_simple p c i plain others = adds p c i (says_plain p.tag c plain) (shape_plain p.chunks c others plain)
