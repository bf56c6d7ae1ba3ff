-- Each event of a world is an action of the trace, and each run a trace.
use Rattle.std.proofs.Common.{◌≡◌, ℕ, true, false, Option, Some, None, List, [], ◌∷◌, ◌++◌, map, slice_get, refl, sym, ap, subst, ◌∙◌, append-nil, append_assoc}
use Rattle.std.specs.Prelude.{All, option_map}
use Rattle.std.proofs.lemmas.Grind.{flat_map-append}
use Rattle.std.proofs.lemmas.List.{map-append}
use Rattle.std.proofs.lemmas.List.Elements.{All-nil, All-cons, All-head, All-tail}
use Rattle.std.proofs.lemmas.Option.{slice_get-map}
use Rattle.sctp_state.specs.Events.{GivenUp}
use Rattle.sctp_packet.specs.Packet.{PacketTree}
use Rattle.spec_endpoint.specs.Association.{Endpoint}
use Rattle.spec_endpoint.specs.Input.{packet_refusal}
use Rattle.spec_endpoint.specs.Laws as table
use Rattle.proof_endpoint.specs.Mapped.{Carried, as_written}
use Rattle.spec_endpoint.specs.Wire.{AreBytes}
use Rattle.proof_pair.specs.Trace as traces
use Rattle.proof_pair.specs.Trace.{Pair, EndAction, Calls, emitted_packets, goes, act}
use Rattle.proof_pair.proofs.AddedLemmas.{all_get}
use Rattle.proof_delivery.specs.GivenUp as giving
use Rattle.proof_delivery.specs.GivenUp.{given_up_at}
use Rattle.proof_delivery.specs.Justified.{records_given, records_foreign, records_by, records_at}
use Rattle.spec_world.specs.Observations.{End, A, B, Entry, Given, Foreign, Call, given_up_by, given_up}
use Rattle.spec_world.specs.World.{Side, World, Action, CallOf, Give, GiveForeign, AdvanceTime, MeetsForeignAt, given, withheld, Gives, Happens, table_call, call_socket, call_entry, advance_time, time_entry, Takes}
use Rattle.proof_world.specs.Reachable.{ActionFits, IsInBytes}
use Rattle.proof_world.specs.Traces.{is_a, end_of, IsActionOf}
use Rattle.proof_world.specs.Delivered.{given_up_places}
use Rattle.proof_world.proofs.EventLemmas.{Readable}
use Rattle.proof_world.proofs.SidesLemmas.{Good, stays_good}
use Rattle.proof_world.proofs.ActionsLemmas.{Goes, call_goes, given_goes, foreign_goes, skipped_goes}

-- ---- both sides

pub record Both (word_of_a word_of_b : List ℕ → ℕ) (w : World) (c : Pair) : Type 0 where
  pub a : Good word_of_a A w.log w.b.packets w.a c.a
  pub b : Good word_of_b B w.log w.a.packets w.b c.b

-- a later world
pub record Extends (w v : World) : Type 0 where
  pub more : List Entry
  pub logged : v.log ≡ w.log ++ more
  pub sent_a : List (List ℕ)
  pub sent_b : List (List ℕ)
  pub a : v.a.packets ≡ w.a.packets ++ sent_a
  pub b : v.b.packets ≡ w.b.packets ++ sent_b

joins : {X : Type 0} (xs ys zs m n : List X) → ys ≡ xs ++ m → zs ≡ ys ++ n → zs ≡ xs ++ (m ++ n)
joins {X} xs ys zs m n e f = f ∙ ap (λ (l : List X). l ++ n) e ∙ append_assoc xs m n

pub extends_same : (w : World) → Extends w w
extends_same w = record {
  more = [];
  logged = sym (append-nil w.log);
  sent_a = [];
  sent_b = [];
  a = sym (append-nil w.a.packets);
  b = sym (append-nil w.b.packets);
}

pub extends_then : (w u v : World) → Extends w u → Extends u v → Extends w v
extends_then w u v e f = record {
  more = e.more ++ f.more;
  logged = joins w.log u.log v.log e.more f.more e.logged f.logged;
  sent_a = e.sent_a ++ f.sent_a;
  sent_b = e.sent_b ++ f.sent_b;
  a = joins w.a.packets u.a.packets v.a.packets e.sent_a f.sent_a e.a f.a;
  b = joins w.b.packets u.b.packets v.b.packets e.sent_b f.sent_b e.b f.b;
}

pub all_front : {X : Type 0} (P : X → Type 0) (xs ys zs : List X) → zs ≡ xs ++ ys → All P zs → All P xs
all_front {X} P xs ys zs e h = front xs ys (subst (All P) e h)
  where
    front : (xs ys : List X) → All P (xs ++ ys) → All P xs
    front [] ys h = All-nil P
    front (x ∷ xs) ys h = All-cons P x xs (All-head P x (xs ++ ys) h) (front xs ys (All-tail P x (xs ++ ys) h))

pub in_bytes_before : (w v : World) → Extends w v → IsInBytes v → IsInBytes w
in_bytes_before w v e h = record {
  a = all_front AreBytes w.a.packets e.sent_a v.a.packets e.a h.a;
  b = all_front AreBytes w.b.packets e.sent_b v.b.packets e.b h.b;
}

found_in : (f : Carried → List ℕ) (o : Option Carried) (bytes : List ℕ) → option_map f o ≡ Some bytes → (p : Carried) × (o ≡ Some p) × (bytes ≡ f p)
found_in f None bytes e = cc
found_in f (Some p) bytes e = (p, refl, sym (ap (λ (o : Option (List ℕ)). elim o [ None ↦ bytes | Some z ↦ z ]) e))

-- a packet is one that was put in
found_at : (f : Carried → List ℕ) (ps : List Carried) (n : ℕ) (bytes : List ℕ) → slice_get (map f ps) n ≡ Some bytes
    → (p : Carried) × (slice_get ps n ≡ Some p) × (bytes ≡ f p)
found_at f ps n bytes e = found_in f (slice_get ps n) bytes (sym (slice_get-map f ps n) ∙ e)

-- ---- one event

pub record Stepped (word_of_a word_of_b : List ℕ → ℕ) (action : Action) (w u : World) (c : Pair) : Type 0 where
  pub turn : EndAction
  pub is : IsActionOf word_of_a word_of_b action turn c
  pub extends : Extends w u
  pub both : Both word_of_a word_of_b u (goes (is_a (end_of action)) turn c)
  pub gives_up : (x : End) → given_up_places x u.log ≡ given_up_places x w.log ++ given_up_at (is_a x) (is_a (end_of action)) turn c
  pub records : (x : End) → given_up x extends.more ≡ records_at (is_a x) (is_a (end_of action)) turn c

-- so many more are given up
pub given_up_places_more : (x : End) (log longer more : List Entry) (new : List ℕ) → longer ≡ log ++ more → given_up_places x more ≡ new → given_up_places x longer ≡ given_up_places x log ++ new
given_up_places_more x log longer more new e h =
    ap (given_up_places x) e
    ∙ (ap (map (λ (g : GivenUp). g.number)) (flat_map-append (given_up_by x) log more)
    ∙ (map-append (λ (g : GivenUp). g.number) (given_up x log) (given_up x more) ∙ ap (λ (l : List ℕ). given_up_places x log ++ l) h))

pub numbers_of : (gs hs : List GivenUp) → gs ≡ hs → map (λ (g : GivenUp). g.number) gs ≡ map (λ (g : GivenUp). g.number) hs
numbers_of gs hs e = ap (map (λ (g : GivenUp). g.number)) e

-- the records of an action, in two ways
given_records : (p : Option Carried) (checksum : ℕ) (own : traces.Side) → (giving.emitted_given p checksum own).given_up ≡ records_given p checksum own
given_records None checksum own = refl
given_records (Some p) checksum own = refl

refused_records : (r : Option (List ℕ)) (p : PacketTree) (own : traces.Side) → (giving.emitted_foreign r p own).given_up ≡ records_foreign r p own
refused_records None p own = refl
refused_records (Some text) p own = refl

same_records : (turn : EndAction) (own beside : traces.Side) → (giving.emitted_by turn own beside).given_up ≡ records_by turn own beside
same_records (Calls call) own beside = refl
same_records (traces.Gives which checksum) own beside = given_records (slice_get (emitted_packets beside) which) checksum own
same_records (traces.Refuses p) own beside = refused_records (packet_refusal p.header.verification_tag p.chunks (traces.state_of own)) p own

module _ (word_of_a word_of_b : List ℕ → ℕ) where
  stepped_a : (action : Action) (w u : World) (c : Pair) → end_of action ≡ A → Both word_of_a word_of_b w c → (turn : EndAction) → IsActionOf word_of_a word_of_b action turn c
      → Goes word_of_a A w.log w.b.packets w.a c.a c.b turn u.a u.log → u.b ≡ w.b → Stepped word_of_a word_of_b action w u c
  stepped_a action w u c at h turn is g same =
      let own : Good word_of_a A u.log u.b.packets u.a (act turn c.a c.b) =
      subst (λ (z : Side). Good word_of_a A u.log z.packets u.a (act turn c.a c.b)) (sym same) g.good in
      let beside : Good word_of_b B (w.log ++ g.more) (w.a.packets ++ g.sent) w.b c.b =
      stays_good word_of_b B w.log g.more w.a.packets g.sent w.b c.b (g.silent B refl) h.b in
      let one : Good word_of_b B u.log (w.a.packets ++ g.sent) w.b c.b = subst (λ (l : List Entry). Good word_of_b B l (w.a.packets ++ g.sent) w.b c.b) (sym g.logged) beside in
      let two : Good word_of_b B u.log u.a.packets w.b c.b = subst (λ (ps : List (List ℕ)). Good word_of_b B u.log ps w.b c.b) (sym g.packets) one in
      let three : Good word_of_b B u.log u.a.packets u.b c.b = subst (λ (z : Side). Good word_of_b B u.log u.a.packets z c.b) (sym same) two in
      record {
        turn = turn;
        is = is;
        extends = record {
          more = g.more;
          logged = g.logged;
          sent_a = g.sent;
          sent_b = [];
          a = g.packets;
          b = ap (λ (z : Side). z.packets) same ∙ sym (append-nil w.b.packets);
        };
        both = subst (λ (x : End). Both word_of_a word_of_b u (goes (is_a x) turn c)) (sym at) (record { a = own; b = three });
        gives_up = λ x. subst (λ (y : End). given_up_places x u.log ≡ given_up_places x w.log ++ given_up_at (is_a x) (is_a y) turn c) (sym at) (gives_up x);
        records = λ x. subst (λ (y : End). given_up x g.more ≡ records_at (is_a x) (is_a y) turn c) (sym at) (records_are x);
      }
    where
      records_are : (x : End) → given_up x g.more ≡ records_at (is_a x) true turn c
      records_are A = g.given_up ∙ same_records turn c.a c.b
      records_are B = (g.silent B refl).given_up

      gives_up : (x : End) → given_up_places x u.log ≡ given_up_places x w.log ++ given_up_at (is_a x) true turn c
      gives_up A = given_up_places_more A w.log u.log g.more (given_up_at true true turn c) g.logged (numbers_of (given_up A g.more) (giving.emitted_by turn c.a c.b).given_up g.given_up)
      gives_up B = given_up_places_more B w.log u.log g.more (given_up_at false true turn c) g.logged (numbers_of (given_up B g.more) [] (g.silent B refl).given_up)

  stepped_b : (action : Action) (w u : World) (c : Pair) → end_of action ≡ B → Both word_of_a word_of_b w c → (turn : EndAction) → IsActionOf word_of_a word_of_b action turn c
      → Goes word_of_b B w.log w.a.packets w.b c.b c.a turn u.b u.log → u.a ≡ w.a → Stepped word_of_a word_of_b action w u c
  stepped_b action w u c at h turn is g same =
      let own : Good word_of_b B u.log u.a.packets u.b (act turn c.b c.a) =
      subst (λ (z : Side). Good word_of_b B u.log z.packets u.b (act turn c.b c.a)) (sym same) g.good in
      let beside : Good word_of_a A (w.log ++ g.more) (w.b.packets ++ g.sent) w.a c.a =
      stays_good word_of_a A w.log g.more w.b.packets g.sent w.a c.a (g.silent A refl) h.a in
      let one : Good word_of_a A u.log (w.b.packets ++ g.sent) w.a c.a = subst (λ (l : List Entry). Good word_of_a A l (w.b.packets ++ g.sent) w.a c.a) (sym g.logged) beside in
      let two : Good word_of_a A u.log u.b.packets w.a c.a = subst (λ (ps : List (List ℕ)). Good word_of_a A u.log ps w.a c.a) (sym g.packets) one in
      let three : Good word_of_a A u.log u.b.packets u.a c.a = subst (λ (z : Side). Good word_of_a A u.log u.b.packets z c.a) (sym same) two in
      record {
        turn = turn;
        is = is;
        extends = record {
          more = g.more;
          logged = g.logged;
          sent_a = [];
          sent_b = g.sent;
          a = ap (λ (z : Side). z.packets) same ∙ sym (append-nil w.a.packets);
          b = g.packets;
        };
        both = subst (λ (x : End). Both word_of_a word_of_b u (goes (is_a x) turn c)) (sym at) (record { a = three; b = own });
        gives_up = λ x. subst (λ (y : End). given_up_places x u.log ≡ given_up_places x w.log ++ given_up_at (is_a x) (is_a y) turn c) (sym at) (gives_up x);
        records = λ x. subst (λ (y : End). given_up x g.more ≡ records_at (is_a x) (is_a y) turn c) (sym at) (records_are x);
      }
    where
      records_are : (x : End) → given_up x g.more ≡ records_at (is_a x) false turn c
      records_are A = (g.silent A refl).given_up
      records_are B = g.given_up ∙ same_records turn c.b c.a

      gives_up : (x : End) → given_up_places x u.log ≡ given_up_places x w.log ++ given_up_at (is_a x) false turn c
      gives_up A = given_up_places_more A w.log u.log g.more (given_up_at true false turn c) g.logged (numbers_of (given_up A g.more) [] (g.silent A refl).given_up)
      gives_up B = given_up_places_more B w.log u.log g.more (given_up_at false false turn c) g.logged (numbers_of (given_up B g.more) (giving.emitted_by turn c.b c.a).given_up g.given_up)

  -- ---- calls and moments

  step_call : (x : End) (call : Call) (w u : World) (c : Pair) → ActionFits (CallOf x call) → u ≡ call_socket x call w → Both word_of_a word_of_b w c
      → Stepped word_of_a word_of_b (CallOf x call) w u c
  step_call A call w u c fits e h =
      stepped_a (CallOf A call) w u c refl h (Calls (table_call call)) refl
      (call_goes word_of_a A w.log (call_entry A call w.a.socket) w.b.packets w.a c.a c.b (record { emitted = λ y. refl; quiet = λ y o. refl; given_up = λ y. refl }) h.a u.a u.log (table_call call) fits _ refl
      (ap (λ (z : World). z.a) e) (ap (λ (z : World). z.log) e)) (ap (λ (z : World). z.b) e)
  step_call B call w u c fits e h =
      stepped_b (CallOf B call) w u c refl h (Calls (table_call call)) refl
      (call_goes word_of_b B w.log (call_entry B call w.b.socket) w.a.packets w.b c.b c.a (record { emitted = λ y. refl; quiet = λ y o. refl; given_up = λ y. refl }) h.b u.b u.log (table_call call) fits _ refl
      (ap (λ (z : World). z.b) e) (ap (λ (z : World). z.log) e)) (ap (λ (z : World). z.a) e)

  step_time : (x : End) (now : ℕ) (w u : World) (c : Pair) → u ≡ advance_time x now w → Both word_of_a word_of_b w c → Stepped word_of_a word_of_b (AdvanceTime x now) w u c
  step_time A now w u c e h =
      stepped_a (AdvanceTime A now) w u c refl h (Calls (table.Advance now)) refl
      (call_goes word_of_a A w.log (time_entry A now w.a.socket) w.b.packets w.a c.a c.b (record { emitted = λ y. refl; quiet = λ y o. refl; given_up = λ y. refl }) h.a u.a u.log (table.Advance now) tt _ refl
      (ap (λ (z : World). z.a) e) (ap (λ (z : World). z.log) e)) (ap (λ (z : World). z.b) e)
  step_time B now w u c e h =
      stepped_b (AdvanceTime B now) w u c refl h (Calls (table.Advance now)) refl
      (call_goes word_of_b B w.log (time_entry B now w.b.socket) w.a.packets w.b c.b c.a (record { emitted = λ y. refl; quiet = λ y o. refl; given_up = λ y. refl }) h.b u.b u.log (table.Advance now) tt _ refl
      (ap (λ (z : World). z.b) e) (ap (λ (z : World). z.log) e)) (ap (λ (z : World). z.a) e)

  -- ---- packets

  step_give : (x : End) (n : ℕ) (w u : World) (c : Pair) → IsInBytes w → Gives x n w u → Both word_of_a word_of_b w c → Stepped word_of_a word_of_b (Give n x) w u c
  step_give A n w u c small g h =
      let found = found_at (as_written word_of_b) (emitted_packets c.b) n g.bytes (ap (λ (ps : List (List ℕ)). slice_get ps n) (sym h.b.image.packets) ∙ g.there) in
      let went = given_goes word_of_a A w.log (Given A w.a.socket.endpoint_state.context.now n) w.b.packets w.a c.a c.b (record { emitted = λ y. refl; quiet = λ y o. refl; given_up = λ y. refl }) h.a u.a u.log
      word_of_b n w.a.socket.endpoint_state.context.now found.0 (all_get Readable (emitted_packets c.b) n found.0 found.1 h.b.readable) found.1
      (g.there ∙ ap Some found.2) (subst AreBytes found.2 (all_get AreBytes w.b.packets n g.bytes g.there small.b)) refl
      w.a.socket.endpoint_state.context.pack.word_of (ap (λ (z : Endpoint (List ℕ)). z.endpoint_state.context.pack.word_of) h.a.image.socket) g.takes_bytes.after
      (subst (λ (bytes : List ℕ). Takes bytes w.a.socket g.takes_bytes.after) found.2 g.takes_bytes.takes) g.takes_bytes.side g.takes_bytes.logged in
      stepped_a (Give n A) w u c refl h went.0 went.1 went.2 g.other_side
  step_give B n w u c small g h =
      let found = found_at (as_written word_of_a) (emitted_packets c.a) n g.bytes (ap (λ (ps : List (List ℕ)). slice_get ps n) (sym h.a.image.packets) ∙ g.there) in
      let went = given_goes word_of_b B w.log (Given B w.b.socket.endpoint_state.context.now n) w.a.packets w.b c.b c.a (record { emitted = λ y. refl; quiet = λ y o. refl; given_up = λ y. refl }) h.b u.b u.log
      word_of_a n w.b.socket.endpoint_state.context.now found.0 (all_get Readable (emitted_packets c.a) n found.0 found.1 h.a.readable) found.1
      (g.there ∙ ap Some found.2) (subst AreBytes found.2 (all_get AreBytes w.a.packets n g.bytes g.there small.a)) refl
      w.b.socket.endpoint_state.context.pack.word_of (ap (λ (z : Endpoint (List ℕ)). z.endpoint_state.context.pack.word_of) h.b.image.socket) g.takes_bytes.after
      (subst (λ (bytes : List ℕ). Takes bytes w.b.socket g.takes_bytes.after) found.2 g.takes_bytes.takes) g.takes_bytes.side g.takes_bytes.logged in
      stepped_b (Give n B) w u c refl h went.0 went.1 went.2 g.other_side

  -- ---- bytes from elsewhere

  foreign_a : (bytes : List ℕ) (w u : World) (c : Pair) → MeetsForeignAt A bytes w.a u.a w.log u.log → u.b ≡ w.b → Both word_of_a word_of_b w c
      → Stepped word_of_a word_of_b (GiveForeign A bytes) w u c
  foreign_a bytes w u c (given t judged) same h =
      let went = foreign_goes word_of_a A w.log (Foreign A w.a.socket.endpoint_state.context.now (Some bytes)) w.b.packets w.a c.a c.b (record { emitted = λ y. refl; quiet = λ y o. refl; given_up = λ y. refl }) h.a u.a u.log
      w.a.socket.endpoint_state.context.pack.word_of bytes judged t.after t.takes t.side t.logged in
      stepped_a (GiveForeign A bytes) w u c refl h went.0 went.1 went.2 same
  foreign_a bytes w u c (withheld judged stays logged) same h =
      let went = skipped_goes word_of_a A w.log (Foreign A w.a.socket.endpoint_state.context.now None) w.b.packets w.a c.a c.b (record { emitted = λ y. refl; quiet = λ y o. refl; given_up = λ y. refl }) h.a u.a u.log
      w.a.socket.endpoint_state.context.pack.word_of bytes false refl judged stays logged in
      stepped_a (GiveForeign A bytes) w u c refl h went.0 went.1 went.2 same

  foreign_b : (bytes : List ℕ) (w u : World) (c : Pair) → MeetsForeignAt B bytes w.b u.b w.log u.log → u.a ≡ w.a → Both word_of_a word_of_b w c
      → Stepped word_of_a word_of_b (GiveForeign B bytes) w u c
  foreign_b bytes w u c (given t judged) same h =
      let went = foreign_goes word_of_b B w.log (Foreign B w.b.socket.endpoint_state.context.now (Some bytes)) w.a.packets w.b c.b c.a (record { emitted = λ y. refl; quiet = λ y o. refl; given_up = λ y. refl }) h.b u.b u.log
      w.b.socket.endpoint_state.context.pack.word_of bytes judged t.after t.takes t.side t.logged in
      stepped_b (GiveForeign B bytes) w u c refl h went.0 went.1 went.2 same
  foreign_b bytes w u c (withheld judged stays logged) same h =
      let went = skipped_goes word_of_b B w.log (Foreign B w.b.socket.endpoint_state.context.now None) w.a.packets w.b c.b c.a (record { emitted = λ y. refl; quiet = λ y o. refl; given_up = λ y. refl }) h.b u.b u.log
      w.b.socket.endpoint_state.context.pack.word_of bytes false refl judged stays logged in
      stepped_b (GiveForeign B bytes) w u c refl h went.0 went.1 went.2 same

  pub steps : (action : Action) (w u : World) (c : Pair) → ActionFits action → IsInBytes w → Happens action w u → Both word_of_a word_of_b w c
      → Stepped word_of_a word_of_b action w u c
  steps (CallOf x call) w u c fits small e h = step_call x call w u c fits e h
  steps (Give n x) w u c fits small g h = step_give x n w u c small g h
  steps (GiveForeign A bytes) w u c fits small g h = foreign_a bytes w u c g.comes g.other_side h
  steps (GiveForeign B bytes) w u c fits small g h = foreign_b bytes w u c g.comes g.other_side h
  steps (AdvanceTime x now) w u c fits small e h = step_time x now w u c e h
