-- What both traces drew, pair by pair, and what the names know of it.
use Rattle.std.proofs.Common.{◌≡◌, ◌≢◌, ℕ, ◌^◌, ◌<◌, ◌==◌, Bool, true, false, cond, Option, Some, None, List, [], ◌∷◌, ◌++◌, slice_get, ◌⊎◌, inl, inr, refl, sym, ap, subst, ◌∙◌, arith}
use Rattle.std.proofs.lemmas.Bool.{eq-eqb, ne_eqb}
use Rattle.sctp_packet.specs.Chunk.{ChunkTree, init_chunk}
use Rattle.sctp_packet.specs.Packet.{PacketTree}
use Rattle.spec_endpoint.specs.Association.{Tcb, Phase, CookieEchoed, Established, ShutdownPending, ShutdownSent, ShutdownReceived, ShutdownAckSent, State, Closed, CookieWait, Open, Endpoint}
use Rattle.spec_endpoint.specs.Input.{AfterChunk, packet_refusal, count_packet_at, in_endpoint_state, repeats_if, has_data_chunk, receive}
use Rattle.spec_endpoint.specs.Laws.{Connect}
use Rattle.proof_endpoint.specs.Mapped.{Carried}
use Rattle.proof_pair.specs.Trace.{Side, Pair, emitted_packets, as_received, EndAction, Calls, Gives, Refuses, goes, state_of}
use Rattle.proof_pair.specs.Agreement.{Draw, Has, two_drawn, one_drawn, drawn_open, drawn_for_init, drawn_for, drawn_to_connect, drawn_behind, drawn_receiving, drawn_taking, drawn_given, drawn_in, AreDistinct}
use Rattle.proof_pair.proofs.AgreeLemmas.{FitsDraw}
use Rattle.proof_pair.proofs.AgreeCookieLemmas.{has_behind}
use Rattle.proof_pair.proofs.AgreePacketLemmas.{distinct_behind}
use Rattle.proof_draws.specs.NamedChunks.{move_by}
use Rattle.proof_draws.specs.Renamed.{rename, DiffersFrom, AreApart, IsPaired, Renames}
use Rattle.proof_draws.proofs.RenamedLemmas.{renames}
use Rattle.proof_draws.specs.Pairing.{drawn_at, drawn, AllDrawnTagsAreDistinct, pairs_of, pairs, tags_of, distance, far, Knows}
use Rattle.sctp_serial.proofs.NumberLemmas.{either_fits}

-- ---- members

pub has_either : {A : Type 0} (x : A) (xs ys : List A) → Has x (xs ++ ys) → Has x xs ⊎ Has x ys
has_either x [] ys h = inr h
has_either x (y ∷ xs) ys (inl e) = inl (inl e)
has_either x (y ∷ xs) ys (inr h) = elim (has_either x xs ys h) [ inl k ↦ inl (inr k) | inr k ↦ inr k ]

-- ---- draws are tags above 0 and numbers of 32 bits

module _ {P : Type 0} where
  two_fit : (e : Endpoint P) (d : Draw) → Has d (two_drawn e) → FitsDraw d
  two_fit e d (inl is) = subst FitsDraw (sym is) (record { some = λ z. omega (arith, z); tag = omega arith; first = omega arith })
  two_fit e d (inr h) = absurd h

  one_fits : (t : Tcb) (e : Endpoint P) (d : Draw) → Has d (one_drawn t e) → FitsDraw d
  one_fits t e d (inl is) = subst FitsDraw (sym is) (record { some = λ z. omega (arith, z); tag = omega arith; first = omega arith })
  one_fits t e d (inr h) = absurd h

  open_fit : (phase : Phase) (t : Tcb) (e : Endpoint P) (d : Draw) → Has d (drawn_open phase t e) → FitsDraw d
  open_fit (CookieEchoed t1 cookie) t e d h = absurd h
  open_fit Established t e d h = one_fits t e d h
  open_fit ShutdownPending t e d h = one_fits t e d h
  open_fit (ShutdownSent t2) t e d h = one_fits t e d h
  open_fit ShutdownReceived t e d h = one_fits t e d h
  open_fit (ShutdownAckSent t2) t e d h = absurd h

  init_fits : (s : State) (e : Endpoint P) (d : Draw) → Has d (drawn_for_init s e) → FitsDraw d
  init_fits Closed e d h = two_fit e d h
  init_fits (CookieWait tag first t1) e d h = absurd h
  init_fits (Open phase t) e d h = open_fit phase t e d h

  chunk_fits : (c : ChunkTree) (e : Endpoint P) (d : Draw) → Has d (drawn_for c e) → FitsDraw d
  chunk_fits (init_chunk i) e d h = init_fits e.endpoint_state.state e d h
  chunk_fits c e d h = absurd h

  behind_fit : (b : Bool) (rest : Endpoint P → List Draw) (e : Endpoint P) (d : Draw) → (Has d (rest e) → FitsDraw d)
      → Has d (drawn_behind rest (record { end = e; allows_next = b })) → FitsDraw d
  behind_fit true rest e d f h = f h
  behind_fit false rest e d f h = absurd h

  receiving_fits : (tag : ℕ) (cs : List ChunkTree) (e : Endpoint P) (d : Draw) → Has d (drawn_receiving tag cs e) → FitsDraw d
  receiving_fits tag [] e d h = absurd h
  receiving_fits tag (c ∷ cs) e d h =
      let x : AfterChunk P = receive tag c e in
      elim (has_either d (drawn_behind (drawn_receiving tag cs) x) (drawn_for c e) h) [
        | inl k ↦ behind_fit x.allows_next (drawn_receiving tag cs) x.end d (receiving_fits tag cs x.end d) k
        | inr k ↦ chunk_fits c e d k
      ]

  taking_fits : (r : Option (List ℕ)) (p : PacketTree) (e : Endpoint P) (d : Draw) → Has d (drawn_taking r p e) → FitsDraw d
  taking_fits None p e d h = receiving_fits p.header.verification_tag p.chunks (in_endpoint_state (repeats_if (has_data_chunk p.chunks)) (count_packet_at e)) d h
  taking_fits (Some text) p e d h = absurd h

given_fits : (p : Option Carried) (checksum : ℕ) (x : Side) (d : Draw) → Has d (drawn_given p checksum x) → FitsDraw d
given_fits None checksum x d h = absurd h
given_fits (Some p) checksum x d h =
    let q : PacketTree = as_received p checksum in
    taking_fits (packet_refusal q.header.verification_tag q.chunks (state_of x)) q x.end d h

connect_fits : (s : State) (x : Side) (d : Draw) → Has d (drawn_to_connect s x.end) → FitsDraw d
connect_fits Closed x d h = two_fit x.end d h
connect_fits (CookieWait tag first t1) x d h = absurd h
connect_fits (Open phase t) x d h = absurd h

action_fits : (t : EndAction) (x y : Side) (d : Draw) → Has d (drawn_in t x y) → FitsDraw d
action_fits (Calls Connect) x y d h = connect_fits (state_of x) x d h
action_fits (Calls call) x y d h = absurd h
action_fits (Gives which checksum) x y d h = given_fits (slice_get (emitted_packets y) which) checksum x d h
action_fits (Refuses p) x y d h = absurd h

at_fits : (at_a : Bool) (t : EndAction) (w : Pair) (d : Draw) → Has d (drawn_at at_a t w) → FitsDraw d
at_fits true t w d h = action_fits t w.a w.b d h
at_fits false t w d h = action_fits t w.b w.a d h

pub drawn_fits : (es : List (Bool × EndAction)) (w : Pair) (d : Draw) → Has d (drawn es w) → FitsDraw d
drawn_fits [] w d h = absurd h
drawn_fits (e ∷ es) w d h =
    elim (has_either d (drawn_at e.0 e.1 w) (drawn es (goes e.0 e.1 w)) h) [
      | inl k ↦ at_fits e.0 e.1 w d k
      | inr k ↦ drawn_fits es (goes e.0 e.1 w) d k
    ]

-- ---- pairs of both traces

abbrev Pairs : Type 0
Pairs = List (Draw × Draw)

abbrev Within : Pairs → (xs ys : List Draw) → Type 0
Within ps xs ys = (d e : Draw) → Has (d, e) ps → Has d xs × Has e ys

within_pairs : (ds es : List Draw) (ps : Pairs) (xs ys : List Draw) → Within ps xs ys → Within (pairs_of ds es ++ ps) (ds ++ xs) (es ++ ys)
within_pairs [] es ps xs ys w d e h = let r : Has d xs × Has e ys = w d e h in (r.0, has_behind e es ys r.1)
within_pairs (a ∷ ds) [] ps xs ys w d e h = let r : Has d xs × Has e ys = w d e h in (has_behind d (a ∷ ds) xs r.0, r.1)
within_pairs (a ∷ ds) (b ∷ es) ps xs ys w d e (inl is) = (inl (ap (λ (z : Draw × Draw). z.0) is), inl (ap (λ (z : Draw × Draw). z.1) is))
within_pairs (a ∷ ds) (b ∷ es) ps xs ys w d e (inr h) =
    let r : Has d (ds ++ xs) × Has e (es ++ ys) = within_pairs ds es ps xs ys w d e h in (inr r.0, inr r.1)

differs_all : (tag name : ℕ) (qs : Pairs) → ((d e : Draw) → Has (d, e) qs → (tag ≢ d.tag) × (name ≢ e.tag)) → DiffersFrom tag name (tags_of qs)
differs_all tag name [] f = tt
differs_all tag name (q ∷ qs) f =
    let r : (tag ≢ q.0.tag) × (name ≢ q.1.tag) = f q.0 q.1 (inl refl) in (r.0, r.1, differs_all tag name qs (λ d e h. f d e (inr h)))

apart_pairs : (ds es : List Draw) (ps : Pairs) (xs ys : List Draw) → AreDistinct (ds ++ xs) → AreDistinct (es ++ ys)
    → ((d : Draw) → Has d (ds ++ xs) → FitsDraw d) → ((e : Draw) → Has e (es ++ ys) → FitsDraw e) → Within ps xs ys → AreApart (tags_of ps)
    → AreApart (tags_of (pairs_of ds es ++ ps))
apart_pairs [] es ps xs ys p q f g w a = a
apart_pairs (d ∷ ds) [] ps xs ys p q f g w a = a
apart_pairs (d ∷ ds) (e ∷ es) ps xs ys p q f g w a = (
  (f d (inl refl)).some,
  (g e (inl refl)).some,
  differs_all d.tag e.tag (pairs_of ds es ++ ps) (λ x y h.
      let r : Has x (ds ++ xs) × Has y (es ++ ys) = within_pairs ds es ps xs ys w x y h in (λ s. p.0 x r.0 (sym s), λ s. q.0 y r.1 (sym s))),
  apart_pairs ds es ps xs ys p.1 q.1 (λ z m. f z (inr m)) (λ z m. g z (inr m)) w a,
)

pairs_within : (es fs : List (Bool × EndAction)) (w v : Pair) → Within (pairs es fs w v) (drawn es w) (drawn fs v)
pairs_within [] fs w v d e h = absurd h
pairs_within (a ∷ es) [] w v d e h = absurd h
pairs_within (a ∷ es) (b ∷ fs) w v d e h =
    within_pairs (drawn_at a.0 a.1 w) (drawn_at b.0 b.1 v) (pairs es fs (goes a.0 a.1 w) (goes b.0 b.1 v)) (drawn es (goes a.0 a.1 w))
    (drawn fs (goes b.0 b.1 v)) (pairs_within es fs (goes a.0 a.1 w) (goes b.0 b.1 v)) d e h

pairs_apart : (es fs : List (Bool × EndAction)) (w v : Pair) → AllDrawnTagsAreDistinct es w → AllDrawnTagsAreDistinct fs v → AreApart (tags_of (pairs es fs w v))
pairs_apart [] fs w v p q = tt
pairs_apart (a ∷ es) [] w v p q = tt
pairs_apart (a ∷ es) (b ∷ fs) w v p q =
    let w1 : Pair = goes a.0 a.1 w in
    let v1 : Pair = goes b.0 b.1 v in
    apart_pairs (drawn_at a.0 a.1 w) (drawn_at b.0 b.1 v) (pairs es fs w1 v1) (drawn es w1) (drawn fs v1) p q (drawn_fits (a ∷ es) w) (drawn_fits (b ∷ fs) v)
    (pairs_within es fs w1 v1)
    (pairs_apart es fs w1 v1 (distinct_behind (drawn_at a.0 a.1 w) (drawn es w1) p) (distinct_behind (drawn_at b.0 b.1 v) (drawn fs v1) q))

-- ---- what is looked up by a tag

paired : (ps : Pairs) (d e : Draw) → Has (d, e) ps → IsPaired d.tag e.tag (tags_of ps)
paired [] d e h = absurd h
paired (p ∷ ps) d e (inl is) = inl (ap (λ (z : Draw × Draw). z.0.tag) is, ap (λ (z : Draw × Draw). z.1.tag) is)
paired (p ∷ ps) d e (inr h) = inr (paired ps d e h)

differs_at : (tag name : ℕ) (ps : Pairs) → DiffersFrom tag name (tags_of ps) → (d e : Draw) → Has (d, e) ps → tag ≢ d.tag
differs_at tag name [] h d e m s = absurd m
differs_at tag name (p ∷ ps) h d e (inl is) s = h.0 (s ∙ ap (λ (z : Draw × Draw). z.0.tag) is)
differs_at tag name (p ∷ ps) h d e (inr m) s = differs_at tag name ps h.2 d e m s

far_at : (ps : Pairs) (d e : Draw) → AreApart (tags_of ps) → Has (d, e) ps → far ps d.tag ≡ distance d.first e.first
far_at [] d e a h = absurd h
far_at (p ∷ ps) d e a (inl is) =
    ap (λ (b : Bool). cond b (distance p.0.first p.1.first) (far ps d.tag)) (eq-eqb p.0.tag d.tag (ap (λ (z : Draw × Draw). z.0.tag) (sym is)))
    ∙ ap (λ (z : Draw × Draw). distance z.0.first z.1.first) (sym is)
far_at (p ∷ ps) d e a (inr h) =
    ap (λ (b : Bool). cond b (distance p.0.first p.1.first) (far ps d.tag)) (ne_eqb p.0.tag d.tag (differs_at p.0.tag p.1.tag ps a.2 d e h))
    ∙ far_at ps d e a.3 h

pub far_below : (ps : Pairs) (tag : ℕ) → far ps tag < 2 ^ 32
far_below [] tag = omega arith
far_below (p ∷ ps) tag = either_fits (p.0.tag == tag) (distance p.0.first p.1.first) (far ps tag) (omega arith) (far_below ps tag)

pub distance_moves : (from to : ℕ) → from < 2 ^ 32 → to < 2 ^ 32 → move_by (distance from to) from ≡ to
distance_moves from to p q = omega (arith, p, q)

pub moved_distance : (from by : ℕ) → from < 2 ^ 32 → by < 2 ^ 32 → distance from (move_by by from) ≡ by
moved_distance from by p q = omega (arith, p, q)

-- ---- tags stay tags of 32 bits

swapped_by : (p q : Bool) (a b x : ℕ) → a < 2 ^ 32 → b < 2 ^ 32 → x < 2 ^ 32 → cond p b (cond q a x) < 2 ^ 32
swapped_by true q a b x m n k = n
swapped_by false true a b x m n k = m
swapped_by false false a b x m n k = k

abbrev AreBelow : Pairs → Type 0
AreBelow ps = (d e : Draw) → Has (d, e) ps → (d.tag < 2 ^ 32) × (e.tag < 2 ^ 32)

renamed_below : (ps : Pairs) → AreBelow ps → (tag : ℕ) → tag < 2 ^ 32 → rename (tags_of ps) tag < 2 ^ 32
renamed_below [] b tag small = small
renamed_below (p ∷ ps) b tag small =
    let here : (p.0.tag < 2 ^ 32) × (p.1.tag < 2 ^ 32) = b p.0 p.1 (inl refl) in
    let rest : (n : ℕ) → n < 2 ^ 32 → rename (tags_of ps) n < 2 ^ 32 = renamed_below ps (λ d e h. b d e (inr h)) in
    let r : ℕ = rename (tags_of ps) p.0.tag in
    let y : ℕ = rename (tags_of ps) tag in
    swapped_by (y == r) (y == p.1.tag) r p.1.tag y (rest p.0.tag here.0) here.1 (rest tag small)

-- ---- all of it

pub pairs_know : (es fs : List (Bool × EndAction)) (w v : Pair) → AllDrawnTagsAreDistinct es w → AllDrawnTagsAreDistinct fs v → Knows (pairs es fs w v)
pairs_know es fs w v p q =
    let ps : Pairs = pairs es fs w v in
    let apart : AreApart (tags_of ps) = pairs_apart es fs w v p q in
    let r : Renames (tags_of ps) = renames (tags_of ps) apart in
    let fits : (d e : Draw) → Has (d, e) ps → FitsDraw d × FitsDraw e =
    λ d e h. let k : Has d (drawn es w) × Has e (drawn fs v) = pairs_within es fs w v d e h in (drawn_fits es w d k.0, drawn_fits fs v e k.1) in
    record {
      renames = r;
      tags = λ d e h. r.pairs d.tag e.tag (paired ps d e h);
      by = λ d e h. far_at ps d e apart h;
      firsts = λ d e h.
          let f : FitsDraw d × FitsDraw e = fits d e h in
          ap (λ (n : ℕ). move_by n d.first) (far_at ps d e apart h) ∙ distance_moves d.first e.first f.0.first f.1.first;
      small = renamed_below ps (λ d e h. let f : FitsDraw d × FitsDraw e = fits d e h in (f.0.tag, f.1.tag));
    }
