-- A side of a world beside its side of a trace, as one of the two ends goes on.
use Rattle.std.proofs.Common.{◌≡◌, ℕ, ◌+◌, ◌||◌, ◌&&◌, Bool, true, false, Option, Some, None, List, [], ◌∷◌, ◌++◌, length, map, slice_get, refl, sym, ap, subst, ◌∙◌, append-nil, arith}
use Rattle.std.specs.Prelude.{All}
use Rattle.std.specs.List.{list_any}
use Rattle.std.proofs.lemmas.List.{map-append}
use Rattle.std.proofs.lemmas.List.Elements.{All-append}
use Rattle.std.proofs.lemmas.List.Folds.{list_any-append}
use Rattle.std.proofs.lemmas.Bool.{or_left}
use Rattle.sctp_state.specs.Events.{Event, GivenUp}
use Rattle.spec_endpoint.specs.Association.{Endpoint}
use Rattle.spec_endpoint.specs.Shown.{Association}
use Rattle.proof_endpoint.specs.Mapped.{Mapping, Carried, map_end, as_bytes, as_carried}
use Rattle.proof_endpoint.specs.Sound.{IsSound}
use Rattle.proof_pair.specs.Trace as traces
use Rattle.proof_pair.specs.Trace.{drain, emitted_packets}
use Rattle.proof_pair.proofs.JoinActsLemmas.{packets_both}
use Rattle.spec_world.specs.Observations.{End, same_end, Entry, Called, Given, Foreign, Timed, Associated, EmittedPacket, EmittedEvent, GaveUp, BecameReady, held_after, held_from, held, given_up_by, given_up}
use Rattle.spec_world.specs.World.{Side, association, emitted_entries, news_of, take_emitted}
use Rattle.spec_endpoint.specs.Calls.{ready_at}
use Rattle.spec_endpoint.specs.Packets.{packets_in}
use Rattle.proof_world.specs.Traces.{emitted_by, emitted_in, IsWrittenAs}
use Rattle.proof_world.specs.Consistent.{gets_init, is_some_init}
use Rattle.proof_world.proofs.EventLemmas.{mapped, packets_mapped, entries_both, Readable}
use Rattle.proof_world.proofs.LoggedLemmas.{none_in_news, quiet_given_up}
use Rattle.proof_world.proofs.NewsLemmas.{emitted_both, news_own, news_other, held_both, held_own, held_other}
use Rattle.proof_protocol.proofs.CommonLemmas.{get_front}

-- ---- the first entry of an event

pub record IsFirst (e : Entry) : Type 0 where
  pub emitted : (x : End) → emitted_by x e ≡ []
  pub quiet : (x : End) (h : Option Association) → held_after x h e ≡ h
  pub given_up : (x : End) → given_up_by x e ≡ []

-- entries that say nothing of this end
pub record IsSilentOf (x : End) (more : List Entry) : Type 0 where
  pub emitted : emitted_in x more ≡ []
  pub quiet : (h : Option Association) → held_from x h more ≡ h
  pub given_up : given_up x more ≡ []

pub silent_first : (x : End) (e : Entry) → IsFirst e → IsSilentOf x (e ∷ [])
silent_first x e f = record { emitted = ap (λ (l : List Entry). l ++ []) (f.emitted x); quiet = f.quiet x; given_up = ap (λ (l : List GivenUp). l ++ []) (f.given_up x) }

pub silent_news : (x y : End) → same_end x y ≡ false → (e : Entry) → IsFirst e → (side : Side) (s : Endpoint (List ℕ)) → IsSilentOf x (e ∷ news_of y side s)
silent_news x y d e f side s = record {
  emitted = ap (λ (l : List Entry). l ++ emitted_in x (news_of y side s)) (f.emitted x) ∙ news_other x y d (length side.packets) (length (ready_at side.socket)) (association side.socket) s;
  quiet = λ h. ap (λ (o : Option Association). held_from x o (news_of y side s)) (f.quiet x h)
      ∙ held_other x y d (length side.packets) (length (ready_at side.socket)) (association side.socket) h s;
  given_up =
      ap (λ (l : List GivenUp). l ++ given_up x (news_of y side s)) (f.given_up x)
      ∙ none_in_news (given_up_by x) y (quiet_given_up x y d) (λ m. refl) (length side.packets) (length (ready_at side.socket)) (association side.socket) s;
}

-- ---- what was given

and_right : (a b c : Bool) → (b ≡ true → c ≡ true) → (a && b) ≡ true → (a && c) ≡ true
and_right true b c f e = f e
and_right false b c f e = e

some_more : (o p : Option (List ℕ)) → ((bytes : List ℕ) → o ≡ Some bytes → p ≡ Some bytes) → is_some_init o ≡ true → is_some_init p ≡ true
some_more None p f e = cc
some_more (Some bytes) p f e = ap is_some_init (f bytes refl) ∙ e

asks_more : (x : End) (ps qs : List (List ℕ)) (e : Entry) → gets_init x ps e ≡ true → gets_init x (ps ++ qs) e ≡ true
asks_more x ps qs (Given y clock packet) h =
    and_right (same_end x y) (is_some_init (slice_get ps packet)) (is_some_init (slice_get (ps ++ qs) packet))
    (some_more (slice_get ps packet) (slice_get (ps ++ qs) packet) (λ bytes. get_front ps qs packet bytes)) h
asks_more x ps qs (Called y clock call answer) h = h
asks_more x ps qs (Foreign y clock bytes) h = h
asks_more x ps qs (Timed y clock now) h = h
asks_more x ps qs (Associated y a) h = h
asks_more x ps qs (EmittedPacket y packet) h = h
asks_more x ps qs (EmittedEvent y event) h = h
asks_more x ps qs (GaveUp y g) h = h
asks_more x ps qs (BecameReady y m) h = h

either : (a b c d : Bool) → (a ≡ true → c ≡ true) → (b ≡ true → d ≡ true) → (a || b) ≡ true → (c || d) ≡ true
either true b c d f g e = ap (λ (z : Bool). z || d) (f refl)
either false b true d f g e = refl
either false b false d f g e = g e

pub any_more : (x : End) (ps qs : List (List ℕ)) (log : List Entry) → list_any (gets_init x ps) log ≡ true → list_any (gets_init x (ps ++ qs)) log ≡ true
any_more x ps qs [] h = h
any_more x ps qs (e ∷ log) h =
    either (gets_init x ps e) (list_any (gets_init x ps) log) (gets_init x (ps ++ qs) e) (list_any (gets_init x (ps ++ qs)) log) (asks_more x ps qs e) (any_more x ps qs log) h

pub asked_longer : (x : End) (ps qs : List (List ℕ)) (log more : List Entry) → list_any (gets_init x ps) log ≡ true → list_any (gets_init x (ps ++ qs)) (log ++ more) ≡ true
asked_longer x ps qs log more h =
    list_any-append (gets_init x (ps ++ qs)) log more ∙ or_left (list_any (gets_init x (ps ++ qs)) log) (list_any (gets_init x (ps ++ qs)) more) (any_more x ps qs log h)

-- ---- a side

-- beside these packets of the other end
pub record Good (word_of : List ℕ → ℕ) (x : End) (log : List Entry) (others : List (List ℕ)) (side : Side) (end : traces.Side) : Type 0 where
  pub image : IsWrittenAs word_of x log side end
  pub sound : IsSound end.end
  pub packing : end.end.endpoint_state.context.pack ≡ as_carried
  pub readable : All Readable (emitted_packets end)
  pub held : held x log ≡ association side.socket
  pub asked : end.got_init ≡ true → list_any (gets_init x others) log ≡ true

-- as the log grows by what says nothing of it, and the other end's packets grow
pub stays_good : (word_of : List ℕ → ℕ) (x : End) (log more : List Entry) (others new : List (List ℕ)) (side : Side) (end : traces.Side) → IsSilentOf x more
    → Good word_of x log others side end → Good word_of x (log ++ more) (others ++ new) side end
stays_good word_of x log more others new side end s g = record {
  image = record {
    socket = g.image.socket;
    quiet = g.image.quiet;
    packets = g.image.packets;
    emitted = emitted_both x log more ∙ ap (λ (l : List Entry). emitted_in x log ++ l) s.emitted ∙ append-nil (emitted_in x log) ∙ g.image.emitted;
  };
  sound = g.sound;
  packing = g.packing;
  readable = g.readable;
  held = held_both x None log more ∙ s.quiet (held x log) ∙ g.held;
  asked = λ e. asked_longer x others new log more (g.asked e);
}

from_zero : (m n : ℕ) → m ≡ n → m ≡ 0 + n
from_zero m n e = omega (arith, e)

-- an end that goes on
module _ (word_of : List ℕ → ℕ) (x : End) (log : List Entry) (first : Entry) (others : List (List ℕ)) (side : Side) (end : traces.Side) (s : Endpoint Carried) (asked : Bool) where
  abbrev f : Mapping Carried (List ℕ)
  f = as_bytes word_of

  abbrev after : Endpoint (List ℕ)
  after = map_end f s

  abbrev events : List (Event Carried)
  events = s.endpoint_state.context.emitted.events

  abbrev now : traces.Side
  now = record (drain s end) { got_init = asked }

  packets_now : side.packets ≡ map f.of (emitted_packets end) → side.packets ++ packets_in (mapped f events) ≡ map f.of (emitted_packets now)
  packets_now e =
      ap (λ (ps : List (List ℕ)). ps ++ packets_in (mapped f events)) e
      ∙ ap (λ (ps : List (List ℕ)). map f.of (emitted_packets end) ++ ps) (packets_mapped f events)
      ∙ sym (map-append f.of (emitted_packets end) (packets_in events))
      ∙ ap (map f.of) (sym (packets_both end.emitted events))

  numbered : side.packets ≡ map f.of (emitted_packets end) → length side.packets ≡ 0 + length (packets_in (mapped f end.emitted))
  numbered e = from_zero _ _ (ap length (e ∙ sym (packets_mapped f end.emitted)))

  emitted_now : side.packets ≡ map f.of (emitted_packets end) → IsFirst first → emitted_in x log ≡ emitted_entries x 0 (mapped f end.emitted)
      → emitted_in x (log ++ first ∷ news_of x side after) ≡ emitted_entries x 0 (mapped f now.emitted)
  emitted_now e k emitted_before =
      emitted_both x log (first ∷ news_of x side after)
      ∙ ap (λ (l : List Entry). l ++ emitted_in x (first ∷ news_of x side after)) emitted_before
      ∙ ap (λ (l : List Entry). emitted_entries x 0 (mapped f end.emitted) ++ (l ++ emitted_in x (news_of x side after))) (k.emitted x)
      ∙ ap (λ (l : List Entry). emitted_entries x 0 (mapped f end.emitted) ++ l) (news_own x (length side.packets) (length (ready_at side.socket)) (association side.socket) after)
      ∙ ap (λ (n : ℕ). emitted_entries x 0 (mapped f end.emitted) ++ emitted_entries x n (mapped f events)) (numbered e)
      ∙ sym (entries_both x 0 (mapped f end.emitted) (mapped f events))
      ∙ ap (emitted_entries x 0) (sym (map-append _ end.emitted events))

  held_now : IsFirst first → held x log ≡ association side.socket → held x (log ++ first ∷ news_of x side after) ≡ association after
  held_now k h =
      held_both x None log (first ∷ news_of x side after)
      ∙ ap (λ (o : Option Association). held_from x o (news_of x side after)) (k.quiet x (held x log) ∙ h)
      ∙ held_own x (length side.packets) (length (ready_at side.socket)) (association side.socket) after

  pub goes_good : IsFirst first → IsSound s → s.endpoint_state.context.pack ≡ as_carried → All Readable (packets_in events)
      → (asked ≡ true → list_any (gets_init x others) (log ++ first ∷ news_of x side after) ≡ true)
      → Good word_of x log others side end → Good word_of x (log ++ first ∷ news_of x side after) others (take_emitted side after) now
  goes_good k sound pack readable was g = record {
    image = record {
      socket = refl;
      quiet = refl;
      packets = packets_now g.image.packets;
      emitted = emitted_now g.image.packets k g.image.emitted;
    };
    sound = record { options = sound.options; queue = sound.queue; state = sound.state };
    packing = pack;
    readable = subst (All Readable) (sym (packets_both end.emitted events)) (All-append Readable (emitted_packets end) (packets_in events) g.readable readable);
    held = held_now k g.held;
    asked = was;
  }
