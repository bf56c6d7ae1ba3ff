-- A message is given up, and a message is accepted.
use Rattle.std.proofs.Common.{◌≡◌, ◌≢◌, ℕ, ◌<◌, true, false, inl, inr, refl, sym, ap, ◌∙◌, subst, arith}
use Rattle.proof_protocol.specs.State.{Message, Sender}
use Rattle.proof_protocol.specs.Rules.{IsSettled, gives_up, accepts}
use Rattle.proof_protocol.specs.Invariant.{Outgoing, InRuns}
use Rattle.proof_protocol.proofs.ToolsLemmas.{put_off, put_keeps, put_true, not_both}
use Rattle.proof_protocol.proofs.LaterLemmas.{Later}

module _ (message : ℕ → Message) (o : Sender) (i : Outgoing message o) where
  pub settled_given : (p q : ℕ) → IsSettled o q → IsSettled (gives_up o p) q
  settled_given p q x = record {
    not_partly = x.not_partly;
    begun_or_given_up = elim x.begun_or_given_up [ inl b ↦ inl b | inr g ↦ inr (put_keeps o.given_up p q g) ];
  }

  pub gives_outgoing : (p : ℕ) → p < o.accepted → o.partly p ≡ false → Outgoing message (gives_up o p)
  gives_outgoing p within ended = record {
    partly_kept = λ q b.
        let d : q ≢ p = λ e. not_both b (ap o.partly e ∙ ended) in
        put_off o.given_up p true q d ∙ i.partly_kept q b;
    given_up_below = λ q g. elim (put_true o.given_up p q g) [ inl e ↦ subst (λ n. n < o.accepted) (sym e) within | inr h ↦ i.given_up_below q h ];
    place_begun = i.place_begun;
    begun_below = i.begun_below;
    partly_begun = i.partly_begun;
    fifo = i.fifo;
    settled = λ a q b l s. settled_given p q (i.settled a q b l s);
    rises = i.rises;
    counted = i.counted;
    following_counts = i.following_counts;
    dense = i.dense;
    ended = i.ended;
    last_ends = i.last_ends;
    partly_no_last = i.partly_no_last;
    whole = i.whole;
  }

  pub accepts_outgoing : Outgoing message (accepts o)
  accepts_outgoing = record {
    partly_kept = i.partly_kept;
    place_begun = i.place_begun;
    begun_below = λ p b. let l = i.begun_below p b in omega (arith, l);
    given_up_below = λ p b. let l = i.given_up_below p b in omega (arith, l);
    partly_begun = i.partly_begun;
    fifo = i.fifo;
    settled = λ a q b l s. let x = i.settled a q b l s in record { not_partly = x.not_partly; begun_or_given_up = x.begun_or_given_up };
    rises = i.rises;
    counted = i.counted;
    following_counts = i.following_counts;
    dense = i.dense;
    ended = i.ended;
    last_ends = i.last_ends;
    partly_no_last = i.partly_no_last;
    whole = i.whole;
  }

  pub gives_later : (p : ℕ) → Later message o (gives_up o p)
  gives_later p = record {
    count_grows = omega arith;
    same_fragment = λ t h. refl;
    given_stays = λ q h. put_keeps o.given_up p q h;
    begun_stays = λ q h. h;
    number_stays = λ q h. refl;
    written_stays = λ q h. refl;
    newly = λ q b. inl b;
    counts_grow = λ kind s. omega arith;
    ended_stays = λ q b e. e;
    new_part = λ t g l. absurd (omega (arith, g, l));
  }

  pub gives_runs : (p : ℕ) → InRuns message o → InRuns message (gives_up o p)
  gives_runs p r = record { next_same = r.next_same; tail_partly = r.tail_partly; single = r.single }

  pub accepts_later : Later message o (accepts o)
  accepts_later = record {
    count_grows = omega arith;
    same_fragment = λ t h. refl;
    given_stays = λ q h. h;
    begun_stays = λ q h. h;
    number_stays = λ q h. refl;
    written_stays = λ q h. refl;
    newly = λ q b. inl b;
    counts_grow = λ kind s. omega arith;
    ended_stays = λ q b e. e;
    new_part = λ t g l. absurd (omega (arith, g, l));
  }

  pub accepts_runs : InRuns message o → InRuns message (accepts o)
  accepts_runs r = record { next_same = r.next_same; tail_partly = r.tail_partly; single = r.single }
