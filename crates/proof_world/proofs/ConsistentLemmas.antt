-- Worlds are consistent, since their traces are.
use Rattle.std.proofs.Common.{◌≡◌, ℕ, Option, Some, None, List, length, refl, sym, ap, ◌∙◌}
use Rattle.std.specs.List.{flat_map}
use Rattle.sctp_state.specs.Options.{Options, IsValid}
use Rattle.spec_endpoint.specs.Association.{Identity, Tcb, Phase, State, Closed, CookieWait, Open, Endpoint}
use Rattle.spec_endpoint.specs.Laws.{endings}
use Rattle.spec_endpoint.specs.Shown.{Association, association_in}
use Rattle.proof_endpoint.specs.Mapped.{as_bytes}
use Rattle.proof_endpoint.specs.Sound.{OptionsFit}
use Rattle.proof_pair.specs.Trace as traces
use Rattle.proof_pair.specs.Trace.{Pair, AreValidOptions, AreMirrored, EndsAreConsistent, run, start}
use Rattle.spec_world.specs.Observations.{End, A, B, Entry, mirrored, held}
use Rattle.spec_world.specs.World.{Side}
use Rattle.proof_world.specs.Reachable.{initial_world}
use Rattle.proof_world.specs.Consistent.{association_ends_by, times_ended, WorldsAreConsistent}
use Rattle.proof_world.proofs.EventLemmas.{ended_emitted}
use Rattle.proof_world.proofs.NewsLemmas.{ended_by_emitted, made_same}
use Rattle.proof_world.proofs.SidesLemmas.{Good}
use Rattle.proof_world.proofs.RunsLemmas.{Ran, ran, fresh_both}

pub given_of : (o : Options) → IsValid o → OptionsFit o → AreValidOptions o
given_of o valid fits = record { valid = valid; incoming = fits.incoming_streams; outgoing = fits.outgoing_streams; method = fits.zero_checksum_method }

abbrev of : Identity → Association
of i = record { my_tag = i.my_tag; my_initial_tsn = i.my_first; peer_tag = i.peer_tag; peer_initial_tsn = i.peer_first }

-- an association is held by an open end
opened : (s : State) (i : Association) → association_in s ≡ Some i → (phase : Phase) × (t : Tcb) × (s ≡ Open phase t) × (i ≡ of t.identity)
opened Closed i e = cc
opened (CookieWait tag first t1) i e = cc
opened (Open phase t) i e = (phase, t, refl, sym (ap (λ (o : Option Association). elim o [ None ↦ i | Some z ↦ z ]) e))

mirrored_of : (i j : Identity) → AreMirrored i j → of j ≡ mirrored (of i)
mirrored_of i j c = made_same j.my_tag j.my_first j.peer_tag j.peer_first i.peer_tag i.peer_first i.my_tag i.my_first (sym c.peer_tag) (sym c.peer_first) (sym c.tag) (sym c.first)

module _ (word_of : List ℕ → ℕ) (x : End) (log : List Entry) (others : List (List ℕ)) (side : Side) (end : traces.Side) (g : Good word_of x log others side end) where
  pub none_ended : times_ended x log ≡ 0 → endings end.emitted ≡ 0
  none_ended h =
      ended_emitted (as_bytes word_of) x 0 end.emitted
      (ap (λ (l : List Entry). length (flat_map (association_ends_by x) l)) (sym g.image.emitted) ∙ (ap (λ (l : List End). length l) (sym (ended_by_emitted x log)) ∙ h))

  state_of : side.socket.endpoint_state.state ≡ end.end.endpoint_state.state
  state_of = ap (λ (z : Endpoint (List ℕ)). z.endpoint_state.state) g.image.socket

  held_open : (i : Association) → held x log ≡ Some i → (phase : Phase) × (t : Tcb) × (end.end.endpoint_state.state ≡ Open phase t) × (i ≡ of t.identity)
  held_open i e = opened end.end.endpoint_state.state i (ap association_in (sym state_of) ∙ (sym g.held ∙ e))

pub are_consistent : EndsAreConsistent → WorldsAreConsistent
are_consistent law origin actions w l u =
    let r : Ran origin.word_of_a origin.word_of_b actions (initial_world origin) w (start origin.a origin.b origin.draws_a origin.draws_b) =
    ran origin.word_of_a origin.word_of_b actions (initial_world origin) w (start origin.a origin.b origin.draws_a origin.draws_b) l.fit l.runs l.bytes
    (fresh_both origin.a origin.b origin.draws_a origin.draws_b origin.word_of_a origin.word_of_b l.fits_a l.fits_b) in
    let c : Pair = run r.trace (start origin.a origin.b origin.draws_a origin.draws_b) in
    let good_a : Good origin.word_of_a A w.log w.b.packets w.a c.a = r.both.a in
    let good_b : Good origin.word_of_b B w.log w.a.packets w.b c.b = r.both.b in
    let joined : traces.AreConsistent origin.a origin.b c =
    law origin.a origin.b origin.draws_a origin.draws_b r.trace (given_of origin.a l.valid_a l.fits_a) (given_of origin.b l.valid_b l.fits_b) (r.follows u.follows u.stands)
    (record { a = none_ended origin.word_of_a A w.log w.b.packets w.a c.a good_a (u.stands A); b = none_ended origin.word_of_b B w.log w.a.packets w.b c.b good_b (u.stands B) }) in
    record {
      a_negotiated = λ phase t e. joined.a_negotiated phase t (sym (state_of origin.word_of_a A w.log w.b.packets w.a c.a good_a) ∙ e);
      b_negotiated = λ phase t e. joined.b_negotiated phase t (sym (state_of origin.word_of_b B w.log w.a.packets w.b c.b good_b) ∙ e);
      are_mirrored = λ i j e f.
          let own = held_open origin.word_of_a A w.log w.b.packets w.a c.a good_a i e in
          let other = held_open origin.word_of_b B w.log w.a.packets w.b c.b good_b j f in
          other.3 ∙ (mirrored_of own.1.identity other.1.identity (joined.mirrored own.0 other.0 own.1 other.1 own.2 other.2) ∙ ap mirrored (sym own.3));
      counts = joined.counts;
    }
