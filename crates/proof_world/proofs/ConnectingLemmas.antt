-- Two runs of worlds in which both ends connect: their traces, computed, are those of worlds, and no tag is drawn twice.
use Rattle.std.proofs.Common.{◌≡◌, ◌⊎◌, ℕ, ◌+◌, ◌≤◌, ◌<◌, Bool, true, List, [], ◌∷◌, length, map, drop, arith, refl, sym, ap, subst, ◌∙◌, inl, inr}
use Rattle.std.specs.Prelude.{All}
use Rattle.std.specs.List.{list_any}
use Rattle.std.proofs.lemmas.Bool.{or_parts}
use Rattle.rand_core.specs.Stream.{Call, u32_call, Stream, next_u32, next_u64}
use Rattle.sctp_wire.specs.Field.{be16, be32, be64}
use Rattle.sctp_wire.specs.Serialize.{padded_item, inner_items}
use Rattle.sctp_wire.specs.Parameter.{parameter_value}
use Rattle.sctp_wire.specs.Cause.{cause_value}
use Rattle.sctp_wire.specs.CauseText.{cause_text}
use Rattle.sctp_wire.specs.Show.{join_texts}
use Rattle.sctp_packet.specs.Packet.{header_bytes, packet_bytes}
use Rattle.sctp_packet.specs.Written.{chunk_bytes, chunks_bytes, chunk_value, data_value, idata_value, init_fields, block_bytes, sack_value, skip_bytes, forward_value}
use Rattle.sctp_capabilities.specs.StateCookie.{cookie_bytes, capability_bytes, cookie_from, read_cookie}
use Rattle.sctp_state.specs.Options.{defaults}
use Rattle.spec_endpoint.specs.Pair.{counting_from}
use Rattle.spec_endpoint.specs.Timers.{tick_timers}
use Rattle.proof_endpoint.specs.Mapped.{as_written}
use Rattle.proof_pair.specs.Trace.{Pair, EndAction, emitted_packets, run, start}
use Rattle.proof_pair.specs.Opens.{one_connects}
use Rattle.proof_pair.proofs.OpensLemmas.{given_defaults}
use Rattle.spec_endpoint.specs.Opening.{tag_from}
use Rattle.spec_world.specs.Observations.{End, A, B}
use Rattle.spec_world.specs.World.{World, Action, Gives, Runs}
use Rattle.proof_world.specs.Draws.{draws, DrawsTag, IsDrawn, DrawsTagsOnce}
use Rattle.proof_world.specs.FirstRun.{opening, IsOpen}
use Rattle.proof_world.specs.Reachable.{ActionFits, Origin, origin, initial_world, IsReachable}
use Rattle.proof_world.specs.Traces.{end_of, AreActionsOf}
use Rattle.proof_world.specs.Consistent.{WorldKeepsRules}
use Rattle.proof_world.specs.Worlds.{is_foreign, NoneIsForeign, BothEmitBytes}
use Rattle.proof_world.specs.Agreed.{EachEndDrawsDistinctTags}
use Rattle.proof_world.specs.Alike.{NoneComesFromElsewhere, IsDrawnUpToEnd, DrawsTagsOnceUpToEnd}
use Rattle.proof_world.specs.Connecting.{EndsConnect, TwoWorldsConnect}
use Rattle.proof_world.proofs.FirstRunLemmas.{it_opens, first, second, third, fourth, opened, to_first, to_second, to_third, to_fourth, to_opened}
use Rattle.proof_world.proofs.ShownLemmas.{there, reachable}
use Rattle.proof_world.proofs.ConnectsLemmas.{connects_first}
use Rattle.proof_world.proofs.ComputedLemmas.{no_sum, actions_of, is_there, are_there, actions_are, are_small, all_small, all_true, fits_defaults, each_fits}

-- ---- nothing from elsewhere

none_comes : (actions : List Action) (w v : World) (r : Runs actions w v) → NoneIsForeign actions → NoneComesFromElsewhere actions w v r
none_comes [] w v r none = tt
none_comes (action ∷ actions) w v r none =
    let parts = or_parts (is_foreign action) (list_any is_foreign actions) none in
    ((λ stands. parts.0), none_comes actions r.0 v r.2 parts.1)

-- ---- generators that count

-- each word is one more than the one before it, from this number on
abbrev Counts : Stream → ℕ → Type 0
Counts s n = (calls : List Call) → s.u32_after calls ≡ n + length calls

-- a tag that is drawn is of a word from n on, and below m
of_words : (s t : Stream) (n m tag : ℕ) → Counts s n → Counts t m → DrawsTag s t tag → (k : ℕ) × (n ≤ k) × (k < m) × (tag ≡ tag_from k)
unfolding next_u32
of_words s t n m tag a b (inl h) =
    (n, omega arith, omega (arith, ap (λ (z : Stream). z.u32_after []) h.0, a (u32_call ∷ []), b []), h.1 ∙ ap tag_from (a [] ∙ more_none n))
  where
    more_none : (n : ℕ) → n + 0 ≡ n
    more_none n = omega arith
of_words s t n m tag a b (inr h) =
    (n + 1, omega arith, omega (arith, ap (λ (z : Stream). z.u32_after []) h.0, a (u32_call ∷ u32_call ∷ []), b []), h.1 ∙ ap tag_from (a (u32_call ∷ [])))

-- along a run
abbrev CountsAlong : (x : End) (limit : ℕ) (actions : List Action) (w v : World) → Runs actions w v → ℕ → Type 0
CountsAlong x limit [] w v r n = Counts (draws x w) n × (n < limit)
CountsAlong x limit (action ∷ actions) w v r n = Counts (draws x w) n × ((m : ℕ) × (n ≤ m) × CountsAlong x limit actions r.0 v r.2 m)

counts_there : (x : End) (limit : ℕ) (actions : List Action) (w v : World) (r : Runs actions w v) (n : ℕ) → CountsAlong x limit actions w v r n → Counts (draws x w) n
counts_there x limit [] w v r n h = h.0
counts_there x limit (action ∷ actions) w v r n h = h.0

counts_below : (x : End) (limit : ℕ) (actions : List Action) (w v : World) (r : Runs actions w v) (n : ℕ) → CountsAlong x limit actions w v r n → n < limit
counts_below x limit [] w v r n h = h.1
counts_below x limit (action ∷ actions) w v r n h = let below = counts_below x limit actions r.0 v r.2 h.1.0 h.1.2 in let grows = h.1.1 in omega (arith, below, grows)

-- of a word from this one on, and below that one
abbrev IsOfWord : (tag from limit : ℕ) → Type 0
IsOfWord tag from limit = (k : ℕ) × (from ≤ k) × (k < limit) × (tag ≡ tag_from k)

earlier : (tag n m limit : ℕ) → n ≤ m → IsOfWord tag m limit → IsOfWord tag n limit
earlier tag n m limit grows h = let from = h.1 in (h.0, omega (arith, from, grows), h.2, h.3)

within : (tag n m limit : ℕ) → m < limit → IsOfWord tag n m → IsOfWord tag n limit
within tag n m limit below h = let under = h.2 in (h.0, h.1, omega (arith, under, below), h.3)

-- two words make two tags
two_words : {X : Type 0} (tag n m k limit : ℕ) → m ≤ k → limit < 5000 → IsOfWord tag n m → IsOfWord tag k limit → X
two_words tag n m k limit apart low h g =
    let under = h.2 in
    let from = g.1 in
    let small = g.2 in
    let same : tag_from h.0 ≡ tag_from g.0 = sym h.3 ∙ g.3 in
    absurd (omega (arith, apart, low, under, from, small, same))

later_word : (x : End) (tag limit : ℕ) (actions : List Action) (w v : World) (r : Runs actions w v) (n : ℕ) → CountsAlong x limit actions w v r n → IsDrawn x tag actions w v r
    → IsOfWord tag n limit
later_word x tag limit [] w v r n h d = absurd d
later_word x tag limit (action ∷ actions) w v r n h (inl d) =
    within tag n h.1.0 limit (counts_below x limit actions r.0 v r.2 h.1.0 h.1.2)
    (of_words (draws x w) (draws x r.0) n h.1.0 tag h.0 (counts_there x limit actions r.0 v r.2 h.1.0 h.1.2) d)
later_word x tag limit (action ∷ actions) w v r n h (inr d) = earlier tag n h.1.0 limit h.1.1 (later_word x tag limit actions r.0 v r.2 h.1.0 h.1.2 d)

counts_once : (x : End) (limit : ℕ) → limit < 5000 → (actions : List Action) (w v : World) (r : Runs actions w v) (n : ℕ) → CountsAlong x limit actions w v r n → DrawsTagsOnce x actions w v r
counts_once x limit low [] w v r n h = tt
counts_once x limit low (action ∷ actions) w v r n h = (
  λ tag d later. two_words tag n h.1.0 h.1.0 limit (omega arith) low
      (of_words (draws x w) (draws x r.0) n h.1.0 tag h.0 (counts_there x limit actions r.0 v r.2 h.1.0 h.1.2) d)
      (later_word x tag limit actions r.0 v r.2 h.1.0 h.1.2 later),
  counts_once x limit low actions r.0 v r.2 h.1.0 h.1.2,
)

-- ---- both ends: the words of A are below 1000, and those of B from there on

record BothCount (actions : List Action) (w v : World) (r : Runs actions w v) (n m : ℕ) : Type 0 where
  a : CountsAlong A 1000 actions w v r n
  b : CountsAlong B 4000 actions w v r m
  apart : 1000 ≤ m

abbrev IsOfEither : (tag n n_limit m m_limit : ℕ) → Type 0
IsOfEither tag n n_limit m m_limit = IsOfWord tag n n_limit ⊎ IsOfWord tag m m_limit

module _ (action : Action) (actions : List Action) (w v : World) (r : Runs (action ∷ actions) w v) (n m : ℕ) (h : BothCount (action ∷ actions) w v r n m) where
  both_behind : BothCount actions r.0 v r.2 h.a.1.0 h.b.1.0
  both_behind = let apart = h.apart in let grows = h.b.1.1 in record { a = h.a.1.2; b = h.b.1.2; apart = omega (arith, apart, grows) }

  of_end : (x : End) (tag : ℕ) → DrawsTag (draws x w) (draws x r.0) tag → IsOfEither tag n h.a.1.0 m h.b.1.0
  of_end A tag d = inl (of_words (draws A w) (draws A r.0) n h.a.1.0 tag h.a.0 (counts_there A 1000 actions r.0 v r.2 h.a.1.0 h.a.1.2) d)
  of_end B tag d = inr (of_words (draws B w) (draws B r.0) m h.b.1.0 tag h.b.0 (counts_there B 4000 actions r.0 v r.2 h.b.1.0 h.b.1.2) d)

  low_a : h.a.1.0 < 1000
  low_a = counts_below A 1000 actions r.0 v r.2 h.a.1.0 h.a.1.2

  low_b : h.b.1.0 < 4000
  low_b = counts_below B 4000 actions r.0 v r.2 h.b.1.0 h.b.1.2

  not_again : (tag : ℕ) → IsOfEither tag n h.a.1.0 m h.b.1.0 → IsOfEither tag h.a.1.0 1000 h.b.1.0 4000 → ⊥
  not_again tag (inl d) (inl e) = two_words tag n h.a.1.0 h.a.1.0 1000 (omega arith) (omega arith) d e
  not_again tag (inl d) (inr e) = let apart = both_behind.apart in let below = low_a in two_words tag n h.a.1.0 h.b.1.0 4000 (omega (arith, apart, below)) (omega arith) d e
  not_again tag (inr d) (inl e) = let apart = h.apart in two_words tag h.a.1.0 1000 m h.b.1.0 apart (let below = low_b in omega (arith, below)) e d
  not_again tag (inr d) (inr e) = two_words tag m h.b.1.0 h.b.1.0 4000 (omega arith) (omega arith) d e

later_either : (tag : ℕ) (actions : List Action) (w v x y : World) (r : Runs actions w v) (s : Runs actions x y) (n m : ℕ) → BothCount actions x y s n m
    → IsDrawnUpToEnd tag actions w v x y r s → IsOfEither tag n 1000 m 4000
later_either tag [] w v x y r s n m h d = absurd d
later_either tag (action ∷ actions) w v x y r s n m h (_, inl d) = elim (of_end action actions x y s n m h (end_of action) tag d) [
  | inl e ↦ inl (within tag n h.a.1.0 1000 (low_a action actions x y s n m h) e)
  | inr e ↦ inr (within tag m h.b.1.0 4000 (low_b action actions x y s n m h) e)
]
later_either tag (action ∷ actions) w v x y r s n m h (_, inr d) =
    elim (later_either tag actions r.0 v s.0 y r.2 s.2 h.a.1.0 h.b.1.0 (both_behind action actions x y s n m h) d) [
      | inl e ↦ inl (earlier tag n h.a.1.0 1000 h.a.1.1 e)
      | inr e ↦ inr (earlier tag m h.b.1.0 4000 h.b.1.1 e)
    ]

both_once : (actions : List Action) (w v x y : World) (r : Runs actions w v) (s : Runs actions x y) (n m : ℕ) → BothCount actions x y s n m → DrawsTagsOnceUpToEnd actions w v x y r s
both_once [] w v x y r s n m h = tt
both_once (action ∷ actions) w v x y r s n m h = λ stands. (
  λ tag d later. not_again action actions x y s n m h tag (of_end action actions x y s n m h (end_of action) tag d)
      (later_either tag actions r.0 v s.0 y r.2 s.2 h.a.1.0 h.b.1.0 (both_behind action actions x y s n m h) later),
  both_once actions r.0 v s.0 y r.2 s.2 h.a.1.0 h.b.1.0 (both_behind action actions x y s n m h),
)

abbrev limit : End → ℕ
limit A = 1000
limit B = 4000

-- ---- two ends that connect

abbrev begin : Stream → Stream → Pair
begin x y = start defaults defaults x y

same_actions : actions_of opening ≡ one_connects
same_actions = refl

actions_fit : All ActionFits opening
actions_fit = each_fits opening (tt, (tt, (tt, (tt, (tt, tt)))))

module _ (x y : Stream) (all_are_there : are_there one_connects (begin x y) ≡ true) (small_a : all_small (map (as_written no_sum) (emitted_packets (run one_connects (begin x y)).a)) ≡ true)
    (small_b : all_small (map (as_written no_sum) (emitted_packets (run one_connects (begin x y)).b)) ≡ true) where
  are : AreActionsOf no_sum no_sum opening one_connects (begin x y)
  are =
      subst (λ (es : List (Bool × EndAction)). AreActionsOf no_sum no_sum opening es (begin x y)) same_actions
      (actions_are opening (begin x y) refl (subst (λ (es : List (Bool × EndAction)). are_there es (begin x y) ≡ true) (sym same_actions) all_are_there))

  bytes : BothEmitBytes no_sum no_sum (run one_connects (begin x y))
  bytes = record {
    a = all_true (map (as_written no_sum) (emitted_packets (run one_connects (begin x y)).a)) small_a;
    b = all_true (map (as_written no_sum) (emitted_packets (run one_connects (begin x y)).b)) small_b;
  }

  abbrev new : Origin
  new = origin defaults defaults x y no_sum no_sum

  abbrev world : World
  world = there defaults defaults x y no_sum no_sum opening one_connects given_defaults.valid given_defaults.valid fits_defaults fits_defaults actions_fit refl are bytes

  abbrev led : IsReachable new opening world
  led = reachable defaults defaults x y no_sum no_sum opening one_connects given_defaults.valid given_defaults.valid fits_defaults fits_defaults actions_fit refl are bytes

  is_open : IsOpen world
  is_open = it_opens (initial_world new) world (record { a = x; b = y; word_of = no_sum; is = refl }) led.runs

  own : NoneComesFromElsewhere opening (initial_world new) world led.runs
  own = none_comes opening (initial_world new) world led.runs refl

  keeps_rules : WorldKeepsRules world
  keeps_rules = connects_first (drop 1 opening) (initial_world new) world refl refl led.runs

-- ---- the words of the opening

abbrev begins : (n m : ℕ) → End → ℕ
begins n m A = n
begins n m B = m

counted : (x : End) (w u : World) (n : ℕ) → w ≡ u → Counts (draws x u) n → Counts (draws x w) n
counted x w u n e h = subst (λ (z : World). Counts (draws x z) n) (sym e) h

abbrev from_new : (n m : ℕ) → World
from_new n m = initial_world (origin defaults defaults (counting_from n) (counting_from m) no_sum no_sum)

module _ (n m : ℕ) (low : n + 3 < 1000) (high : m + 3 < 4000) (v : World) (r : Runs opening (from_new n m) v) where
  abbrev a : Stream
  a = counting_from n

  abbrev b : Stream
  b = counting_from m

  one : r.0 ≡ first a b no_sum
  one = to_first a b no_sum r.0 r.1

  two : r.2.0 ≡ second a b no_sum
  two = to_second a b no_sum r.2.0 (subst (λ (w : World). Gives B 0 w r.2.0) one r.2.1)

  three : r.2.2.0 ≡ third a b no_sum
  three = to_third a b no_sum r.2.2.0 (subst (λ (w : World). Gives A 0 w r.2.2.0) two r.2.2.1)

  four : r.2.2.2.0 ≡ fourth a b no_sum
  four = to_fourth a b no_sum r.2.2.2.0 (subst (λ (w : World). Gives B 1 w r.2.2.2.0) three r.2.2.2.1)

  five : r.2.2.2.2.0 ≡ opened a b no_sum
  five = to_opened a b no_sum r.2.2.2.2.0 (subst (λ (w : World). Gives A 1 w r.2.2.2.2.0) four r.2.2.2.2.1)

  opening_counts : (x : End) → CountsAlong x (limit x) opening (from_new n m) v r (begins n m x)
  unfolding next_u32 next_u64
  opening_counts A = ((λ calls. refl), (n + 2, omega arith, (counted A r.0 (first a b no_sum) (n + 2) one (λ calls. omega arith), (n + 2, omega arith, (counted A r.2.0 (second a b no_sum) (n + 2) two (λ calls. omega arith), (n + 3, omega arith, (counted A r.2.2.0 (third a b no_sum) (n + 3) three (λ calls. omega arith), (n + 3, omega arith, (counted A r.2.2.2.0 (fourth a b no_sum) (n + 3) four (λ calls. omega arith), (n + 3, omega arith, (counted A r.2.2.2.2.0 (opened a b no_sum) (n + 3) five (λ calls. omega arith), low)))))))))))
  opening_counts B = ((λ calls. refl), (m, omega arith, (counted B r.0 (first a b no_sum) (m) one (λ calls. omega arith), (m + 2, omega arith, (counted B r.2.0 (second a b no_sum) (m + 2) two (λ calls. omega arith), (m + 2, omega arith, (counted B r.2.2.0 (third a b no_sum) (m + 2) three (λ calls. omega arith), (m + 3, omega arith, (counted B r.2.2.2.0 (fourth a b no_sum) (m + 3) four (λ calls. omega arith), (m + 3, omega arith, (counted B r.2.2.2.2.0 (opened a b no_sum) (m + 3) five (λ calls. omega arith), high)))))))))))

  each_end : EachEndDrawsDistinctTags opening (from_new n m) v r
  each_end A = counts_once A 1000 (omega arith) opening (from_new n m) v r n (opening_counts A)
  each_end B = counts_once B 4000 (omega arith) opening (from_new n m) v r m (opening_counts B)

  both_ends : (w z : World) (s : Runs opening w z) → 1000 ≤ m → DrawsTagsOnceUpToEnd opening w z (from_new n m) v s r
  both_ends w z s apart = both_once opening w z (from_new n m) v s r n m (record { a = opening_counts A; b = opening_counts B; apart = apart })

-- ---- computed

there_one : are_there one_connects (begin (counting_from 456) (counting_from 1000)) ≡ true
unfolding are_there is_there next_u32 next_u64 be16 be32 be64 padded_item inner_items parameter_value cause_value cause_text join_texts chunk_bytes chunks_bytes chunk_value data_value idata_value init_fields block_bytes sack_value skip_bytes forward_value cookie_bytes capability_bytes cookie_from read_cookie tick_timers
there_one = refl

small_one_a : all_small (map (as_written no_sum) (emitted_packets (run one_connects (begin (counting_from 456) (counting_from 1000))).a)) ≡ true
unfolding all_small are_small packet_bytes header_bytes next_u32 next_u64 be16 be32 be64 padded_item inner_items parameter_value cause_value cause_text join_texts chunk_bytes chunks_bytes chunk_value data_value idata_value init_fields block_bytes sack_value skip_bytes forward_value cookie_bytes capability_bytes cookie_from read_cookie tick_timers
small_one_a = refl

small_one_b : all_small (map (as_written no_sum) (emitted_packets (run one_connects (begin (counting_from 456) (counting_from 1000))).b)) ≡ true
unfolding all_small are_small packet_bytes header_bytes next_u32 next_u64 be16 be32 be64 padded_item inner_items parameter_value cause_value cause_text join_texts chunk_bytes chunks_bytes chunk_value data_value idata_value init_fields block_bytes sack_value skip_bytes forward_value cookie_bytes capability_bytes cookie_from read_cookie tick_timers
small_one_b = refl

there_two : are_there one_connects (begin (counting_from 789) (counting_from 2000)) ≡ true
unfolding are_there is_there next_u32 next_u64 be16 be32 be64 padded_item inner_items parameter_value cause_value cause_text join_texts chunk_bytes chunks_bytes chunk_value data_value idata_value init_fields block_bytes sack_value skip_bytes forward_value cookie_bytes capability_bytes cookie_from read_cookie tick_timers
there_two = refl

small_two_a : all_small (map (as_written no_sum) (emitted_packets (run one_connects (begin (counting_from 789) (counting_from 2000))).a)) ≡ true
unfolding all_small are_small packet_bytes header_bytes next_u32 next_u64 be16 be32 be64 padded_item inner_items parameter_value cause_value cause_text join_texts chunk_bytes chunks_bytes chunk_value data_value idata_value init_fields block_bytes sack_value skip_bytes forward_value cookie_bytes capability_bytes cookie_from read_cookie tick_timers
small_two_a = refl

small_two_b : all_small (map (as_written no_sum) (emitted_packets (run one_connects (begin (counting_from 789) (counting_from 2000))).b)) ≡ true
unfolding all_small are_small packet_bytes header_bytes next_u32 next_u64 be16 be32 be64 padded_item inner_items parameter_value cause_value cause_text join_texts chunk_bytes chunks_bytes chunk_value data_value idata_value init_fields block_bytes sack_value skip_bytes forward_value cookie_bytes capability_bytes cookie_from read_cookie tick_timers
small_two_b = refl

abbrev first_world : World
first_world = world (counting_from 456) (counting_from 1000) there_one small_one_a small_one_b

abbrev second_world : World
second_world = world (counting_from 789) (counting_from 2000) there_two small_two_a small_two_b

abbrev first_led : IsReachable (origin defaults defaults (counting_from 456) (counting_from 1000) no_sum no_sum) opening first_world
first_led = led (counting_from 456) (counting_from 1000) there_one small_one_a small_one_b

abbrev second_led : IsReachable (origin defaults defaults (counting_from 789) (counting_from 2000) no_sum no_sum) opening second_world
second_led = led (counting_from 789) (counting_from 2000) there_two small_two_a small_two_b

pub ends_connect : EndsConnect
ends_connect = record {
  origin = origin defaults defaults (counting_from 456) (counting_from 1000) no_sum no_sum;
  world = first_world;
  reachable = first_led;
  tags = each_end 456 1000 (omega arith) (omega arith) first_world first_led.runs;
  are_open = is_open (counting_from 456) (counting_from 1000) there_one small_one_a small_one_b;
}

pub two_worlds_connect : TwoWorldsConnect
two_worlds_connect = record {
  origins = record {
    a = defaults;
    b = defaults;
    word_of = no_sum;
    draws_a = counting_from 456;
    draws_b = counting_from 1000;
    others_a = counting_from 789;
    others_b = counting_from 2000;
  };
  first = first_world;
  second = second_world;
  first_reachable = first_led;
  second_reachable = second_led;
  comparable = record {
    follows = keeps_rules (counting_from 456) (counting_from 1000) there_one small_one_a small_one_b;
    own = own (counting_from 456) (counting_from 1000) there_one small_one_a small_one_b;
    tags = both_ends 456 1000 (omega arith) (omega arith) first_world first_led.runs (from_new 456 1000) first_world first_led.runs (omega arith);
    tags_too = both_ends 789 2000 (omega arith) (omega arith) second_world second_led.runs (from_new 456 1000) first_world first_led.runs (omega arith);
  };
  first_open = is_open (counting_from 456) (counting_from 1000) there_one small_one_a small_one_b;
  second_open = is_open (counting_from 789) (counting_from 2000) there_two small_two_a small_two_b;
}
