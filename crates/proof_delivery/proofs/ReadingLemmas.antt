-- What an end receives of the other as sender is read as it was meant: fragments, forward points, and the last TSNs of requests.
use Rattle.std.proofs.Common.{◌≡◌, ℕ, suc, ◌+◌, ◌*◌, ◌-◌, ◌%◌, ◌^◌, ◌<◌, ◌≤◌, Bool, true, false, cond, inl, inr, List, [], ◌∷◌, map, All, leb, ltb, ◌||◌, refl, sym, ap, ◌∙◌, subst, arith}
use Rattle.std.specs.Prelude.{not, nat_le, nat_lt, ◌&&◌}
use Rattle.std.proofs.lemmas.Bool.{cond-true, cond-false, cases_lt, and_parts, lt-ltb, le-ltb, leb-true}
use Rattle.std.proofs.lemmas.Bool.Decides.{nat_tests}
use Rattle.sctp_serial.specs.Messages as messages
use Rattle.sctp_serial.specs.Unwrapped.{origin, u32_space, halves, wire, nearest}
use Rattle.sctp_serial.specs.declared.types.StreamKey.TheVariants.{Ordered, Unordered}
use Rattle.sctp_wire.specs.Parameter.{ParameterTree}
use Rattle.sctp_packet.specs.Chunk.{ChunkTree, FragmentTree, data_chunk, idata_chunk, re_config_chunk, forward_tsn_chunk, i_forward_tsn_chunk}
use Rattle.sctp_packet.specs.Grammar.{carried}
use Rattle.sctp_chunk.specs.declared.forward_tsn.SkippedStream.{SkippedStream}
use Rattle.sctp_chunk.specs.declared.forward_tsn.SkippedStream.TheVariants.{IForwardTsn}
use Rattle.sctp_tx_outstanding.specs.Entries.{ssn_skip, mid_skip}
use Rattle.sctp_rx.specs.DataTracker as tracker
use Rattle.sctp_rx.specs.Seen.{in_runs}
use Rattle.sctp_rx.specs.DataTracker.{DataTracker, Tracker, IsTracker}
use Rattle.sctp_rx.specs.ReassemblyQueue.{Reassembly}
use Rattle.sctp_rx.proofs.SeenRunsLemmas.{next_is_new}
use Rattle.proof_protocol.specs.State.{Message, Entry, ForwardPoint, Transfer, IsAmong, fragment, place_of, count, ordered_of}
use Rattle.proof_protocol.specs.Rules.{covers}
use Rattle.proof_protocol.specs.Invariant.{Invariant}
use Rattle.proof_protocol.specs.Points.{AreApart}
use Rattle.proof_protocol.proofs.ToolsLemmas.{not_both, among_covers}
use Rattle.proof_protocol.proofs.WindowsLemmas.{front_window}
use Rattle.proof_refines.specs.SenderRefinement.{tree_of}
use Rattle.proof_refines.specs.Points.{skip_of, chunk_of}
use Rattle.proof_refines.specs.View.{was_seen}
use Rattle.proof_refines.specs.Read.{Carries}
use Rattle.proof_refines.specs.ReceiverRefinement.{ReceiverRefines}
use Rattle.proof_refines.specs.Near.{IsWritten, IsEntry, AreEntries, IsInWindow}
use Rattle.proof_refines.proofs.NearTsnLemmas.{words_near}
use Rattle.proof_delivery.specs.Asks.{SaysOutgoing}
use Rattle.proof_delivery.proofs.ClaimLemmas.{Direction, transfer_of, SaysData, SaysPoint, SaysOut, WasSaid, AreShort}

-- ---- a fragment

-- it stands at a number, as the receiver of the rules asks it to
pub record DataSaid (message : ℕ → Message) (is_interleaved : Bool) (first least : ℕ) (x : Transfer) (tsn : ℕ) (f : FragmentTree) : Type 0 where
  pub at : ℕ
  pub from : least ≤ at
  pub below : at < count x.sender
  pub tsn_is : tsn ≡ wire u32_space first (origin + at)
  pub carries : Carries message is_interleaved x.sender at f
  pub written : IsWritten message is_interleaved x.sender at f

-- what DATA and I-DATA write of it
abbrev plain_part : FragmentTree → FragmentTree
plain_part f = record f { mid = 0; fsn = 0 }

abbrev interleaved_part : FragmentTree → FragmentTree
interleaved_part f = record f { ssn = 0; ppid = cond f.is_beginning f.ppid 0; fsn = cond f.is_beginning 0 f.fsn }

module _ (message : ℕ → Message) (is_interleaved : Bool) (d : Direction) (first least : ℕ) where
  abbrev x : Transfer
  x = transfer_of d

  ssn_of : (k : ℕ) → ordered_of message (place_of x.sender k) ≡ true → (tree_of message x.sender (fragment x.sender k)).ssn ≡ wire halves 0 (origin + x.sender.written (place_of x.sender k))
  ssn_of k o = ap (λ (b : Bool). wire halves 0 (cond b (origin + x.sender.written (place_of x.sender k)) origin)) o

  plain_said : (tsn : ℕ) (f g : FragmentTree) → SaysData message first least x.sender tsn g → f ≡ plain_part g → is_interleaved ≡ false
      → DataSaid message is_interleaved first least x tsn f
  plain_said tsn f g h e plain =
      let k : ℕ = h.carries.at in
      let is : f ≡ plain_part (tree_of message x.sender (fragment x.sender k)) = e ∙ ap plain_part h.carries.tree in
      record {
        at = k;
        from = h.from;
        below = h.carries.below;
        tsn_is = h.carries.tsn;
        carries = record {
          numbered = h.carries.below;
          real = h.carries.real;
          kind = ap (λ (z : FragmentTree). z.is_unordered) is;
          stream = ap (λ (z : FragmentTree). z.stream_id) is;
          protocol_id = λ b. ap (λ (z : FragmentTree). z.ppid) is;
          payload = ap (λ (z : FragmentTree). z.payload) is;
          begins = ap (λ (z : FragmentTree). z.is_beginning) is;
          ends = ap (λ (z : FragmentTree). z.is_end) is;
          fsn = λ m. absurd (not_both m plain);
        };
        written = record {
          ssn = λ p o. ap (λ (z : FragmentTree). z.ssn) is ∙ ssn_of k o;
          mid = λ m. absurd (not_both m plain);
        };
      }

  module _ (short : AreShort x.sender) where
    -- an FSN is written whole
    fsn_of : (k : ℕ) → k < count x.sender → (fragment x.sender k).placeholder ≡ false → (fragment x.sender k).index % 2 ^ 32 ≡ (fragment x.sender k).index
    fsn_of k below real = let l = short k below real in omega (arith, l)

    interleaved_said : (tsn : ℕ) (f g : FragmentTree) → SaysData message first least x.sender tsn g → f ≡ interleaved_part g → is_interleaved ≡ true
        → DataSaid message is_interleaved first least x tsn f
    interleaved_said tsn f g h e both =
        let k : ℕ = h.carries.at in
        let t : FragmentTree = tree_of message x.sender (fragment x.sender k) in
        let is : f ≡ interleaved_part t = e ∙ ap interleaved_part h.carries.tree in
        let begins : f.is_beginning ≡ t.is_beginning = ap (λ (z : FragmentTree). z.is_beginning) is in
        record {
          at = k;
          from = h.from;
          below = h.carries.below;
          tsn_is = h.carries.tsn;
          carries = record {
            numbered = h.carries.below;
            real = h.carries.real;
            kind = ap (λ (z : FragmentTree). z.is_unordered) is;
            stream = ap (λ (z : FragmentTree). z.stream_id) is;
            protocol_id = λ b. ap (λ (z : FragmentTree). z.ppid) is ∙ cond-true t.is_beginning t.ppid 0 (sym begins ∙ b);
            payload = ap (λ (z : FragmentTree). z.payload) is;
            begins = begins;
            ends = ap (λ (z : FragmentTree). z.is_end) is;
            fsn = λ m b. ap (λ (z : FragmentTree). z.fsn) is ∙ (cond-false t.is_beginning 0 t.fsn (sym begins ∙ b) ∙ fsn_of k h.carries.below h.carries.real);
          };
          written = record {
            ssn = λ p. absurd (not_both both p);
            mid = λ m. ap (λ (z : FragmentTree). z.mid) is;
          };
        }

  said_plain : (tsn : ℕ) (is_immediate : Bool) (f : FragmentTree) (said : ChunkTree) → data_chunk tsn is_immediate f ≡ carried said
      → SaysOut message is_interleaved first least d said → DataSaid message is_interleaved first least x tsn f
  said_plain tsn is_immediate f (data_chunk other more g) e h =
      subst (λ n. DataSaid message is_interleaved first least x n f) (tsn_same e) (plain_said other f g h.1 (part_same e) h.0)
    where
      tsn_same : data_chunk tsn is_immediate f ≡ data_chunk other more (plain_part g) → other ≡ tsn
      tsn_same e = cc

      part_same : data_chunk tsn is_immediate f ≡ data_chunk other more (plain_part g) → f ≡ plain_part g
      part_same e = cc
  said_plain tsn is_immediate f said e h = cc

  said_interleaved : AreShort x.sender → (tsn : ℕ) (is_immediate : Bool) (f : FragmentTree) (said : ChunkTree)
      → idata_chunk tsn is_immediate f ≡ carried said → SaysOut message is_interleaved first least d said → DataSaid message is_interleaved first least x tsn f
  said_interleaved short tsn is_immediate f (idata_chunk other more g) e h =
      subst (λ n. DataSaid message is_interleaved first least x n f) (tsn_same e) (interleaved_said short other f g h.1 (part_same e) h.0)
    where
      tsn_same : idata_chunk tsn is_immediate f ≡ idata_chunk other more (interleaved_part g) → other ≡ tsn
      tsn_same e = cc

      part_same : idata_chunk tsn is_immediate f ≡ idata_chunk other more (interleaved_part g) → f ≡ interleaved_part g
      part_same e = cc
  said_interleaved short tsn is_immediate f said e h = cc

  plain_mode : (tsn : ℕ) (is_immediate : Bool) (f : FragmentTree) (said : ChunkTree) → data_chunk tsn is_immediate f ≡ carried said
      → SaysOut message is_interleaved first least d said → is_interleaved ≡ false
  plain_mode tsn is_immediate f (data_chunk other more g) e h = h.0
  plain_mode tsn is_immediate f said e h = cc

  interleaved_mode : (tsn : ℕ) (is_immediate : Bool) (f : FragmentTree) (said : ChunkTree) → idata_chunk tsn is_immediate f ≡ carried said
      → SaysOut message is_interleaved first least d said → is_interleaved ≡ true
  interleaved_mode tsn is_immediate f (idata_chunk other more g) e h = h.0
  interleaved_mode tsn is_immediate f said e h = cc

  -- DATA is received of a sender without interleaving, I-DATA of one with it
  pub data_was_said : (tsn : ℕ) (is_immediate : Bool) (f : FragmentTree) → WasSaid (SaysOut message is_interleaved first least d) (data_chunk tsn is_immediate f)
      → (is_interleaved ≡ false) × DataSaid message is_interleaved first least x tsn f
  data_was_said tsn is_immediate f h =
      (plain_mode tsn is_immediate f h.said h.is h.says, said_plain tsn is_immediate f h.said h.is h.says)

  pub idata_was_said : AreShort x.sender → (tsn : ℕ) (is_immediate : Bool) (f : FragmentTree)
      → WasSaid (SaysOut message is_interleaved first least d) (idata_chunk tsn is_immediate f) → (is_interleaved ≡ true) × DataSaid message is_interleaved first least x tsn f
  idata_was_said short tsn is_immediate f h =
      let both : is_interleaved ≡ true = interleaved_mode tsn is_immediate f h.said h.is h.says in
      (both, said_interleaved short tsn is_immediate f h.said h.is h.says)

-- ---- a forward point

-- it was sent, and passes a number as its last
pub record PointSaid (is_interleaved : Bool) (first least : ℕ) (x : Transfer) (tsn : ℕ) (skipped : List SkippedStream) : Type 0 where
  pub point : ForwardPoint
  pub at : ℕ
  pub sent : IsAmong point x.forward_points
  pub upto : point.upto ≡ suc at
  pub from : least ≤ at
  pub below : at < count x.sender
  pub tsn_is : tsn ≡ wire u32_space first (origin + at)
  pub apart : AreApart point.entries
  pub entries : AreEntries is_interleaved skipped point.entries

-- an entry is written with its number
plain_entry : (e : Entry) → e.ordered ≡ true → IsEntry false (ssn_skip (skip_of false e)) e
plain_entry e o = (o, refl, omega arith)

interleaved_entry : (e : Entry) → IsEntry true (mid_skip (skip_of true e)) e
interleaved_entry e = go e.ordered refl
  where
    go : (b : Bool) → e.ordered ≡ b → IsEntry true (IForwardTsn (cond (not b) (Unordered (record { 0 = e.stream })) (Ordered (record { 0 = e.stream }))) (record { 0 = wire u32_space 0 (origin + e.written) })) e
    go true o = (o, refl, refl)
    go false o = (o, refl, refl)

plain_entries : (es : List Entry) → ((e : Entry) → IsAmong e es → e.ordered ≡ true) → AreEntries false (map ssn_skip (map (skip_of false) es)) es
plain_entries [] all = tt
plain_entries (e ∷ es) all = (plain_entry e (all e (inl refl)), plain_entries es (λ d a. all d (inr a)))

interleaved_entries : (es : List Entry) → AreEntries true (map mid_skip (map (skip_of true) es)) es
interleaved_entries [] = tt
interleaved_entries (e ∷ es) = (interleaved_entry e, interleaved_entries es)

-- how it is written
module _ (first : ℕ) (tsn : ℕ) (skipped : List SkippedStream) (f : ForwardPoint) where
  plain_chunk : (m : Bool) → forward_tsn_chunk tsn skipped ≡ chunk_of m first f
      → (m ≡ false) × (tsn ≡ wire u32_space first (origin + f.upto - 1)) × (skipped ≡ map ssn_skip (map (skip_of false) f.entries))
  plain_chunk true e = cc
  plain_chunk false e = (refl, tsn_same e, skipped_same e)
    where
      tsn_same : forward_tsn_chunk tsn skipped ≡ chunk_of false first f → tsn ≡ wire u32_space first (origin + f.upto - 1)
      tsn_same e = cc

      skipped_same : forward_tsn_chunk tsn skipped ≡ chunk_of false first f → skipped ≡ map ssn_skip (map (skip_of false) f.entries)
      skipped_same e = cc

  interleaved_chunk : (m : Bool) → i_forward_tsn_chunk tsn skipped ≡ chunk_of m first f
      → (m ≡ true) × (tsn ≡ wire u32_space first (origin + f.upto - 1)) × (skipped ≡ map mid_skip (map (skip_of true) f.entries))
  interleaved_chunk false e = cc
  interleaved_chunk true e = (refl, tsn_same e, skipped_same e)
    where
      tsn_same : i_forward_tsn_chunk tsn skipped ≡ chunk_of true first f → tsn ≡ wire u32_space first (origin + f.upto - 1)
      tsn_same e = cc

      skipped_same : i_forward_tsn_chunk tsn skipped ≡ chunk_of true first f → skipped ≡ map mid_skip (map (skip_of true) f.entries)
      skipped_same e = cc

module _ (message : ℕ → Message) (is_interleaved : Bool) (d : Direction) (kept : Invariant message is_interleaved (transfer_of d)) (first least : ℕ) where
  -- without interleaving each entry is of an ordered stream
  are_ordered : is_interleaved ≡ false → (f : ForwardPoint) → IsAmong f (transfer_of d).forward_points → (e : Entry) → IsAmong e f.entries → e.ordered ≡ true
  are_ordered plain f sent e a = go e.ordered refl
    where
      go : (b : Bool) → e.ordered ≡ b → b ≡ true
      go true o = refl
      go false o =
          absurd (not_both (subst (λ (z : Bool). covers f.entries z e.stream e.number ≡ true) o (among_covers e f.entries a))
          ((kept.forwards_true f sent).only_ordered plain e.stream e.number))

  point_said : (tsn : ℕ) (skipped : List SkippedStream) (f : ForwardPoint) → IsAmong f (transfer_of d).forward_points → AreApart f.entries → least < f.upto
      → tsn ≡ wire u32_space first (origin + f.upto - 1) → AreEntries is_interleaved skipped f.entries → PointSaid is_interleaved first least (transfer_of d) tsn skipped
  point_said tsn skipped f sent apart ahead tsn_is entries =
      let within : f.upto ≤ count (transfer_of d).sender = (kept.forwards_true f sent).within in
      let k : ℕ = f.upto - 1 in
      let same : origin + f.upto - 1 ≡ origin + k = omega (arith, ahead) in
      record {
        point = f;
        at = k;
        sent = sent;
        upto = omega (arith, ahead);
        from = omega (arith, ahead);
        below = omega (arith, ahead, within);
        tsn_is = tsn_is ∙ ap (λ (n : ℕ). wire u32_space first n) same;
        apart = apart;
        entries = entries;
      }

  plain_point : (tsn : ℕ) (skipped : List SkippedStream) → SaysPoint is_interleaved first least (transfer_of d) (forward_tsn_chunk tsn skipped)
      → (is_interleaved ≡ false) × PointSaid is_interleaved first least (transfer_of d) tsn skipped
  plain_point tsn skipped h =
      let c = plain_chunk first tsn skipped h.point is_interleaved h.written in
      let es : List Entry = h.point.entries in
      let are : AreEntries false (map ssn_skip (map (skip_of false) es)) es = plain_entries es (are_ordered c.0 h.point h.sent) in
      let written : AreEntries is_interleaved skipped es = subst (λ (m : Bool). AreEntries m skipped es) (sym c.0) (subst (λ (z : List SkippedStream). AreEntries false z es) (sym c.2) are) in
      (c.0, point_said tsn skipped h.point h.sent h.apart h.ahead c.1 written)

  interleaved_point : (tsn : ℕ) (skipped : List SkippedStream) → SaysPoint is_interleaved first least (transfer_of d) (i_forward_tsn_chunk tsn skipped)
      → (is_interleaved ≡ true) × PointSaid is_interleaved first least (transfer_of d) tsn skipped
  interleaved_point tsn skipped h =
      let c = interleaved_chunk first tsn skipped h.point is_interleaved h.written in
      let es : List Entry = h.point.entries in
      let written : AreEntries is_interleaved skipped es = subst (λ (m : Bool). AreEntries m skipped es) (sym c.0) (subst (λ (z : List SkippedStream). AreEntries true z es) (sym c.2) (interleaved_entries es)) in
      (c.0, point_said tsn skipped h.point h.sent h.apart h.ahead c.1 written)

  -- a point is received as it was sent
  pub point_was_said : (tsn : ℕ) (skipped : List SkippedStream) → WasSaid (SaysOut message is_interleaved first least d) (forward_tsn_chunk tsn skipped)
      → (is_interleaved ≡ false) × PointSaid is_interleaved first least (transfer_of d) tsn skipped
  point_was_said tsn skipped h = go h.said h.is h.says
    where
      go : (said : ChunkTree) → forward_tsn_chunk tsn skipped ≡ carried said → SaysOut message is_interleaved first least d said
          → (is_interleaved ≡ false) × PointSaid is_interleaved first least (transfer_of d) tsn skipped
      go (forward_tsn_chunk other more) e s = plain_point tsn skipped (subst (λ (c : ChunkTree). SaysPoint is_interleaved first least (transfer_of d) c) (sym e) s)
      go said e s = cc

  pub ipoint_was_said : (tsn : ℕ) (skipped : List SkippedStream) → WasSaid (SaysOut message is_interleaved first least d) (i_forward_tsn_chunk tsn skipped)
      → (is_interleaved ≡ true) × PointSaid is_interleaved first least (transfer_of d) tsn skipped
  ipoint_was_said tsn skipped h = go h.said h.is h.says
    where
      go : (said : ChunkTree) → i_forward_tsn_chunk tsn skipped ≡ carried said → SaysOut message is_interleaved first least d said
          → (is_interleaved ≡ true) × PointSaid is_interleaved first least (transfer_of d) tsn skipped
      go (i_forward_tsn_chunk other more) e s = interleaved_point tsn skipped (subst (λ (c : ChunkTree). SaysPoint is_interleaved first least (transfer_of d) c) (sym e) s)
      go said e s = cc

-- ---- requests and answers

-- each parameter was said
pub parameters_were_said : (message : ℕ → Message) (is_interleaved : Bool) (d : Direction) (first least : ℕ) (ps : List ParameterTree)
    → WasSaid (SaysOut message is_interleaved first least d) (re_config_chunk ps) → All (SaysOutgoing first d.asks) ps
parameters_were_said message is_interleaved d first least ps h = go h.said h.is h.says
  where
    go : (said : ChunkTree) → re_config_chunk ps ≡ carried said → SaysOut message is_interleaved first least d said → All (SaysOutgoing first d.asks) ps
    go (re_config_chunk qs) e s = subst (λ (z : List ParameterTree). All (SaysOutgoing first d.asks) z) (sym (same e)) s
      where
        same : re_config_chunk ps ≡ re_config_chunk qs → ps ≡ qs
        same e = cc
    go said e s = cc

-- ---- the front

-- the first fragment above the tracker's front
abbrev pub front_of : Tracker → ℕ
front_of t = suc t.seen.front - origin

module _ (message : ℕ → Message) (is_interleaved : Bool) (base : Bool → ℕ → ℕ) (shift : ℕ) (x : Transfer) (kept : Invariant message is_interleaved x) (handed : List messages.Message) (t : Tracker) (r : Reassembly)
    (shown : ReceiverRefines message is_interleaved base shift x handed t r) (is : IsTracker t) where
  pub front_at : origin + front_of t ≡ suc t.seen.front
  front_at = let l = is.least in let b = is.begun in omega (arith, l, b)

  pub front_unseen : was_seen t (front_of t) ≡ false
  front_unseen = go (was_seen t (front_of t)) (next_is_new t.seen.front (origin + front_of t) t.seen.runs is.runs (let e = front_at in omega (arith, e)))
    where
      go : (b : Bool) → true ≡ not b → b ≡ false
      go false e = refl
      go true e = cc

  pub below_front : (n : ℕ) → n < front_of t → was_seen t n ≡ true
  below_front n l = go (in_runs t.seen.runs (origin + n)) t.seen.front (front_of t) front_at l
    where
      go : (b : Bool) (c d : ℕ) → origin + d ≡ suc c → n < d → (leb (origin + n) c || b) ≡ true
      go b c d e l = grind (arith, nat_tests)

  -- it lies between what is acknowledged and what is numbered
  pub front_between : (x.acknowledged ≤ front_of t) × (front_of t ≤ count x.sender)
  front_between = front_window message is_interleaved x kept (front_of t) (sym (shown.seen (front_of t)) ∙ front_unseen) (λ n l. sym (shown.seen n) ∙ below_front n l)

-- ---- numbers as the tracker reads them

far_over : (m near more n : ℕ) → m ≤ near + 100000 → m ≡ near + more → near + more ≡ n + 2 ^ 32 → near ≤ n + 3 * 2 ^ 30 → ⊥
far_over m near more n valid read e past = omega (arith, valid, read, e, past)

-- a number that lies behind, and is read as one that is valid, is read as it was meant
words_valid : (first near n : ℕ) → near ≤ n + 3 * 2 ^ 30 → n < near + 2 ^ 31 → 2 ^ 31 ≤ near → nearest (2 ^ 32) first near (wire (2 ^ 32) first n) ≤ near + 100000
    → nearest (2 ^ 32) first near (wire (2 ^ 32) first n) ≡ n
words_valid first near n past ahead far valid = elim (cases_lt near (n + 2 ^ 31)) [ inl l ↦ words_near first near n (l, ahead) far | inr behind ↦ go behind ]
  where
    go : n + 2 ^ 31 ≤ near → nearest (2 ^ 32) first near (wire (2 ^ 32) first n) ≡ n
    go behind =
        let more = (wire (2 ^ 32) first n + 2 ^ 32 - wire (2 ^ 32) first near) % 2 ^ 32 in
        elim (cases_lt more (2 ^ 31)) [
          | inl p ↦
              let e : near + more ≡ n + 2 ^ 32 = omega (arith, past, behind, far, p) in
              absurd (far_over (nearest (2 ^ 32) first near (wire (2 ^ 32) first n)) near more n valid (cond-true (ltb more (2 ^ 31)) (near + more) ((near + more) - 2 ^ 32) (lt-ltb more (2 ^ 31) p)) e past)
          | inr p ↦
              let e : (near + more) - 2 ^ 32 ≡ n = omega (arith, past, behind, far, p) in
              cond-false (ltb more (2 ^ 31)) (near + more) ((near + more) - 2 ^ 32) (le-ltb more (2 ^ 31) p) ∙ e
        ]

-- where fewer than 3 * 2^30 are numbered from there on, a number that the tracker takes for valid is the one that was written
pub number_is_read : (message : ℕ → Message) (is_interleaved : Bool) (base : Bool → ℕ → ℕ) (shift : ℕ) (x : Transfer) (handed : List messages.Message) (d : DataTracker) (r : Reassembly) (k tsn : ℕ)
    → Invariant message is_interleaved x → IsInWindow x → ReceiverRefines message is_interleaved base shift x handed d.tracker r → IsTracker d.tracker → k < count x.sender
    → count x.sender < k + 3 * 2 ^ 30 → tsn ≡ wire u32_space d.first (origin + k) → tracker.is_valid d.tracker (tracker.number_of d tsn) ≡ true → tracker.number_of d tsn ≡ origin + k
number_is_read message is_interleaved base shift x handed d r k tsn kept window receives is_tracker below young tsn_is valid =
    let f : ℕ = front_of d.tracker in
    let m : ℕ = tracker.number_of d tsn in
    let front : ℕ = d.tracker.seen.front in
    let e : origin + f ≡ suc front = front_at message is_interleaved base shift x kept handed d.tracker r receives is_tracker in
    let w = front_between message is_interleaved base shift x kept handed d.tracker r receives is_tracker in
    let lo = w.0 in
    let hi = w.1 in
    let ahead : k < f + 2 ^ 30 =
    elim (cases_lt x.acknowledged (count x.sender)) [
      | inl l ↦ let i = window l in omega (arith, below, lo, i)
      | inr h ↦ omega (arith, below, lo, h)
    ] in
    let near = and_parts (nat_le front (m + tracker.window)) (nat_le m (front + tracker.window) && nat_lt m (d.tracker.begin + tracker.bound)) valid in
    let upper = leb-true m (front + tracker.window) (and_parts (nat_le m (front + tracker.window)) (nat_lt m (d.tracker.begin + tracker.bound)) near.1).0 in
    ap (λ (w : ℕ). tracker.number_of d w) tsn_is
    ∙ words_valid d.first front (origin + k) (omega (arith, e, hi, young)) (omega (arith, e, ahead)) (omega (arith, e)) (subst (λ (w : ℕ). tracker.number_of d w ≤ front + tracker.window) tsn_is upper)

-- it reads the last TSN of a request: where it is the one before the first, too
pub last_is_read : (message : ℕ → Message) (is_interleaved : Bool) (base : Bool → ℕ → ℕ) (shift : ℕ) (x : Transfer) (handed : List messages.Message) (d : DataTracker) (r : Reassembly) (upto tsn : ℕ)
    → Invariant message is_interleaved x → IsInWindow x → ReceiverRefines message is_interleaved base shift x handed d.tracker r → IsTracker d.tracker → upto ≤ count x.sender
    → count x.sender < upto + 2 ^ 31 → tsn ≡ wire u32_space d.first (origin + upto - 1)
    → suc (tracker.number_of d tsn) ≡ origin + upto
last_is_read message is_interleaved base shift x handed d r upto tsn kept window receives is_tracker within soon tsn_is =
    let f : ℕ = front_of d.tracker in
    let e : origin + f ≡ suc d.tracker.seen.front = front_at message is_interleaved base shift x kept handed d.tracker r receives is_tracker in
    let w = front_between message is_interleaved base shift x kept handed d.tracker r receives is_tracker in
    let lo = w.0 in
    let hi = w.1 in
    let ahead : upto < f + 2 ^ 31 =
    elim (cases_lt x.acknowledged (count x.sender)) [
      | inl l ↦ let i = window l in omega (arith, within, lo, i)
      | inr h ↦ omega (arith, within, lo, h)
    ] in
    let n : ℕ = origin + upto - 1 in
    let read : tracker.number_of d tsn ≡ n =
    ap (λ (w : ℕ). tracker.number_of d w) tsn_is ∙ words_near d.first d.tracker.seen.front n (omega (arith, e, hi, soon), omega (arith, e, ahead)) (omega (arith, e)) in
    omega (arith, read)
