-- What each act leaves of two ends that open an association.
use Rattle.std.proofs.Common.{◌≡◌, ℕ, ◌||◌, Bool, true, false, List, [], ◌∷◌, ◌++◌, map, All, refl, sym, ap, subst, ◌∙◌, append_assoc, append-nil}
use Rattle.std.specs.List.{list_all}
use Rattle.std.proofs.lemmas.List.Elements.{All-nil, All-cons, All-push, All-weaker}
use Rattle.std.proofs.lemmas.Bool.{and_parts}
use Rattle.std.proofs.Math.Bool.{or-false}
use Rattle.sctp_packet.specs.Chunk.{ChunkTree, FragmentTree, init_chunk, init_ack_chunk, cookie_echo_chunk, cookie_ack_chunk, fragment_chunk}
use Rattle.sctp_state.specs.Options.{Options}
use Rattle.sctp_state.specs.Events.{Event, SendPacket, OnConnected}
use Rattle.spec_endpoint.specs.Association.{Tcb, State, Packing}
use Rattle.spec_endpoint.specs.Packets.{header_to, packets_in}
use Rattle.spec_endpoint.specs.Sending.{data_chunks}
use Rattle.spec_endpoint.specs.Laws.{ending}
use Rattle.proof_endpoint.specs.Mapped.{Carried, as_carried}
use Rattle.proof_endpoint.specs.Acts.{EndWithPacket, is_plain}
use Rattle.proof_pair.specs.Trace.{has_connected}
use Rattle.proof_pair.proofs.EmittedLemmas.{is_no_packet_or_status}
use Rattle.proof_pair.proofs.JoinLemmas.{View, view_of, Says, Leads, says_leads, received_leads, Stands}

-- ---- what is emitted

pub packets_both : (es fs : List (Event Carried)) → packets_in (es ++ fs) ≡ packets_in es ++ packets_in fs
packets_both [] fs = refl
packets_both (SendPacket p ∷ es) fs = ap (λ (ps : List Carried). p ∷ ps) (packets_both es fs)
packets_both (e ∷ es) fs = packets_both es fs

pub packets_now : (past es more : List (Event Carried)) (ps : List Carried) → packets_in more ≡ ps → packets_in (past ++ (es ++ more)) ≡ packets_in (past ++ es) ++ ps
packets_now past es more ps e =
    ap packets_in (sym (append_assoc past es more)) ∙ (packets_both (past ++ es) more ∙ ap (λ (z : List Carried). packets_in (past ++ es) ++ z) e)

pub no_packet_or_status_has_no_packets : (es : List (Event Carried)) → list_all is_no_packet_or_status es ≡ true → packets_in es ≡ []
no_packet_or_status_has_no_packets [] h = refl
no_packet_or_status_has_no_packets (SendPacket p ∷ es) h = cc
no_packet_or_status_has_no_packets (e ∷ es) h = no_packet_or_status_has_no_packets es (and_parts (is_no_packet_or_status e) (list_all is_no_packet_or_status es) h).1

pub connected_both : (es fs : List (Event Carried)) → has_connected (es ++ fs) ≡ (has_connected es || has_connected fs)
connected_both [] fs = refl
connected_both (OnConnected ∷ es) fs = refl
connected_both (e ∷ es) fs = connected_both es fs

pub no_packet_or_status_not_connected : (es : List (Event Carried)) → list_all is_no_packet_or_status es ≡ true → has_connected es ≡ false
no_packet_or_status_not_connected [] h = refl
no_packet_or_status_not_connected (OnConnected ∷ es) h = cc
no_packet_or_status_not_connected (e ∷ es) h = no_packet_or_status_not_connected es (and_parts (is_no_packet_or_status e) (list_all is_no_packet_or_status es) h).1

module _ (past es more now : List (Event Carried)) (behind : now ≡ es ++ more) where
  later : past ++ now ≡ (past ++ es) ++ more
  later = ap (λ (z : List (Event Carried)). past ++ z) behind ∙ sym (append_assoc past es more)

  packets_later : (ps : List Carried) → packets_in more ≡ ps → packets_in (past ++ now) ≡ packets_in (past ++ es) ++ ps
  packets_later ps e = ap packets_in later ∙ (packets_both (past ++ es) more ∙ ap (λ (z : List Carried). packets_in (past ++ es) ++ z) e)

  connected_later : has_connected more ≡ false → has_connected (past ++ now) ≡ has_connected (past ++ es)
  connected_later e = ap has_connected later ∙ (connected_both (past ++ es) more ∙ (ap (λ (b : Bool). has_connected (past ++ es) || b) e ∙ or-false (has_connected (past ++ es))))

-- ---- what holds of the end that acts

-- its options and the other's, what it emitted before, the other end, whether INITs were given, and what the other end said
pub record Setting : Type 0 where
  pub own : Options
  pub other : Options
  pub past : List (Event Carried)
  pub beside : State
  pub asked : Bool
  pub other_asked : Bool
  pub others : List Carried

abbrev pub OwnSays : Setting → View → (tag : ℕ) → ChunkTree → Type 0
OwnSays g v tag chunk = Says g.own g.other v (view_of g.beside) g.asked tag chunk

abbrev pub OwnSaysAll : Setting → View → Carried → Type 0
OwnSaysAll g v p = All (OwnSays g v p.header.verification_tag) p.chunks

abbrev pub OtherSays : Setting → View → (tag : ℕ) → ChunkTree → Type 0
OtherSays g v tag chunk = Says g.other g.own (view_of g.beside) v g.other_asked tag chunk

abbrev pub OtherSaysAll : Setting → View → Carried → Type 0
OtherSaysAll g v p = All (OtherSays g v p.header.verification_tag) p.chunks

pub record Inv (g : Setting) (v : View) (o : Options) (pack : Packing Carried) (es : List (Event Carried)) (tag : ℕ) (chunks : List ChunkTree) : Type 0 where
  pub stands : Stands g.own g.other v (view_of g.beside) g.asked g.other_asked
  pub size : ℕ
  pub options : o ≡ record g.own { max_message_size = size }
  pub packing : pack ≡ as_carried
  pub connected : has_connected (g.past ++ es) ≡ true → v.is_late ≡ true
  pub said : All (OwnSaysAll g v) (packets_in (g.past ++ es))
  pub received : All (OtherSaysAll g v) g.others
  pub made : All (OwnSays g v tag) chunks

abbrev pub InvAt : Setting → EndWithPacket Carried → Type 0
InvAt g m = Inv g (view_of m.state) m.context.options m.context.pack m.context.emitted.events m.packet.tag m.packet.chunks

module _ (g : Setting) (v : View) (o : Options) (pack : Packing Carried) (es : List (Event Carried)) (tag : ℕ) (chunks : List ChunkTree) (i : Inv g v o pack es tag chunks) where
  -- another packet, or more in it
  pub inv_made : (new : ℕ) (cs : List ChunkTree) → All (OwnSays g v new) cs → Inv g v o pack es new cs
  inv_made new cs h = record {
    stands = i.stands;
    size = i.size;
    options = i.options;
    packing = i.packing;
    connected = i.connected;
    said = i.said;
    received = i.received;
    made = h;
  }

  -- more is emitted, and no packet goes out
  pub inv_events : (more now : List (Event Carried)) → now ≡ es ++ more → packets_in more ≡ [] → has_connected more ≡ false → Inv g v o pack now tag chunks
  inv_events more now behind none not_yet = record {
    stands = i.stands;
    size = i.size;
    options = i.options;
    packing = i.packing;
    connected = λ e. i.connected (sym (connected_later g.past es more now behind not_yet) ∙ e);
    said = subst (All (OwnSaysAll g v)) (sym (packets_later g.past es more now behind [] none ∙ append-nil (packets_in (g.past ++ es)))) i.said;
    received = i.received;
    made = i.made;
  }

  pub inv_no_packet_or_status : (more now : List (Event Carried)) → now ≡ es ++ more → list_all is_no_packet_or_status more ≡ true → Inv g v o pack now tag chunks
  inv_no_packet_or_status more now behind light = inv_events more now behind (no_packet_or_status_has_no_packets more light) (no_packet_or_status_not_connected more light)

  -- the packet goes out, and another one is begun
  pub inv_emitted : (h : Options) (is_summed : Bool) (new : ℕ) → Inv g v o pack (es ++ SendPacket (pack.write (header_to h tag) is_summed chunks) ∷ []) new []
  inv_emitted h is_summed new =
      let p : Carried = pack.write (header_to h tag) is_summed chunks in
      let now : List (Event Carried) = es ++ SendPacket p ∷ [] in
      let is : p ≡ as_carried.write (header_to h tag) is_summed chunks = ap (λ (f : Packing Carried). f.write (header_to h tag) is_summed chunks) i.packing in
      let uttered : OwnSaysAll g v p = subst (OwnSaysAll g v) (sym is) i.made in
      record {
        stands = i.stands;
        size = i.size;
        options = i.options;
        packing = i.packing;
        connected = λ e. i.connected (sym (connected_later g.past es (SendPacket p ∷ []) now refl refl) ∙ e);
        said = subst (All (OwnSaysAll g v)) (sym (packets_later g.past es (SendPacket p ∷ []) now refl (p ∷ []) refl))
            (All-push (OwnSaysAll g v) (packets_in (g.past ++ es)) p i.said uttered);
        received = i.received;
        made = All-nil (OwnSays g v new);
      }

  pub inv_options : (p : Options) (size : ℕ) → p ≡ record g.own { max_message_size = size } → Inv g v p pack es tag chunks
  inv_options p size is = record {
    stands = i.stands;
    size = size;
    options = is;
    packing = i.packing;
    connected = i.connected;
    said = i.said;
    received = i.received;
    made = i.made;
  }

  late_by : (b : Bool) (w : View) (more now : List (Event Carried)) → now ≡ es ++ more → has_connected more ≡ b
      → (has_connected more ≡ false → w.is_late ≡ v.is_late) → (has_connected more ≡ true → w.is_late ≡ true) → has_connected (g.past ++ now) ≡ true
      → w.is_late ≡ true
  late_by true w more now behind e as_before at_last so = at_last e
  late_by false w more now behind e as_before at_last so =
      as_before e ∙ i.connected (sym (connected_later g.past es more now behind e) ∙ so)

  -- the state is seen otherwise, and this was emitted
  pub inv_view : (w : View) (more now : List (Event Carried)) → now ≡ es ++ more → packets_in more ≡ [] → (has_connected more ≡ false → w.is_late ≡ v.is_late)
      → (has_connected more ≡ true → w.is_late ≡ true) → Leads (view_of g.beside) v w g.asked
      → Stands g.own g.other w (view_of g.beside) g.asked g.other_asked → Inv g w o pack now tag chunks
  inv_view w more now behind none as_before at_last l stands =
      let u : View = view_of g.beside in
      let all_utter : All (OwnSaysAll g v) (packets_in (g.past ++ now)) =
      subst (All (OwnSaysAll g v)) (sym (packets_later g.past es more now behind [] none ∙ append-nil (packets_in (g.past ++ es)))) i.said in
      record {
        stands = stands;
        size = i.size;
        options = i.options;
        packing = i.packing;
        connected = late_by (has_connected more) w more now behind refl as_before at_last;
        said = All-weaker (OwnSaysAll g v) (OwnSaysAll g w)
            (λ p. All-weaker (OwnSays g v p.header.verification_tag) (OwnSays g w p.header.verification_tag)
            (says_leads g.own g.other u v w g.asked l p.header.verification_tag) p.chunks) (packets_in (g.past ++ now)) all_utter;
        received = All-weaker (OtherSaysAll g v) (OtherSaysAll g w)
            (λ p. All-weaker (OtherSays g v p.header.verification_tag) (OtherSays g w p.header.verification_tag)
            (received_leads g.own g.other u v w g.asked l g.other_asked p.header.verification_tag) p.chunks) g.others i.received;
        made = All-weaker (OwnSays g v tag) (OwnSays g w tag) (says_leads g.own g.other u v w g.asked l tag) chunks i.made;
      }

-- ---- chunks of no weight here

module _ (g : Setting) (v : View) (tag : ℕ) where
  pub own_says_plain : (chunk : ChunkTree) → is_plain chunk ≡ true → OwnSays g v tag chunk
  own_says_plain (init_chunk i) e = cc
  own_says_plain (init_ack_chunk i) e = cc
  own_says_plain (cookie_echo_chunk c) e = cc
  own_says_plain cookie_ack_chunk e = cc
  own_says_plain chunk e = tt

  own_says_data_of : (is_interleaved is_immediate : Bool) (c : ℕ × FragmentTree) → OwnSays g v tag (fragment_chunk is_interleaved is_immediate c)
  own_says_data_of true is_immediate c = tt
  own_says_data_of false is_immediate c = tt

  own_says_data_by : (is_interleaved is_immediate : Bool) (cs : List (ℕ × FragmentTree))
      → All (OwnSays g v tag) (map (fragment_chunk is_interleaved is_immediate) cs)
  own_says_data_by is_interleaved is_immediate [] = All-nil (OwnSays g v tag)
  own_says_data_by is_interleaved is_immediate (c ∷ cs) =
      All-cons (OwnSays g v tag) (fragment_chunk is_interleaved is_immediate c) (map (fragment_chunk is_interleaved is_immediate) cs)
      (own_says_data_of is_interleaved is_immediate c) (own_says_data_by is_interleaved is_immediate cs)

  pub own_says_data : (t : Tcb) (is_immediate : Bool) (cs : List (ℕ × FragmentTree)) → All (OwnSays g v tag) (data_chunks t is_immediate cs)
  own_says_data t is_immediate cs = own_says_data_by t.capabilities.message_interleaving is_immediate cs

pub ends_no_packet : (e : Event Carried) → ending e ≡ 1 → packets_in (e ∷ []) ≡ []
ends_no_packet (SendPacket p) h = cc
ends_no_packet e h = refl
