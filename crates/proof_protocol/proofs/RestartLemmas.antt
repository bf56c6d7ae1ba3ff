-- A stream's numbers on the wire begin again: nothing else changes.
use Rattle.std.proofs.Common.{ℕ, ◌≤◌, Bool, true, false, cond, inl, refl, arith, eqb}
use Rattle.proof_protocol.specs.State.{Message, Sender, Transfer}
use Rattle.proof_protocol.specs.Invariant.{Outgoing, Invariant}
use Rattle.proof_protocol.specs.Resets.{restarts}
use Rattle.proof_protocol.proofs.LaterLemmas.{Later}
use Rattle.proof_protocol.proofs.RulesKeepLemmas.{sender_moves}

module _ (message : ℕ → Message) (o : Sender) (i : Outgoing message o) (s : ℕ) where
  following_counts : (kind : Bool) (a : ℕ) → (restarts o s).following kind a ≤ o.counts kind a
  following_counts kind a = go (eqb a s)
    where
      go : (b : Bool) → cond b 0 (o.following kind a) ≤ o.counts kind a
      go true = omega arith
      go false = i.following_counts kind a

  restarts_outgoing : Outgoing message (restarts o s)
  restarts_outgoing = record {
    place_begun = i.place_begun;
    begun_below = i.begun_below;
    given_up_below = i.given_up_below;
    partly_begun = i.partly_begun;
    partly_kept = i.partly_kept;
    fifo = i.fifo;
    settled = λ p q b l e. let z = i.settled p q b l e in record { not_partly = z.not_partly; begun_or_given_up = z.begun_or_given_up };
    rises = i.rises;
    counted = i.counted;
    following_counts = following_counts;
    dense = i.dense;
    ended = i.ended;
    last_ends = i.last_ends;
    partly_no_last = i.partly_no_last;
    whole = i.whole;
  }

  restarts_later : Later message o (restarts o s)
  restarts_later = record {
    count_grows = omega arith;
    same_fragment = λ t h. refl;
    given_stays = λ p h. h;
    begun_stays = λ p h. h;
    number_stays = λ p h. refl;
    written_stays = λ p h. refl;
    newly = λ p h. inl h;
    counts_grow = λ kind a. omega arith;
    ended_stays = λ p b e. e;
    new_part = λ t g l. absurd (omega (arith, g, l));
  }

pub restarts_kept : (message : ℕ → Message) (is_interleaved : Bool) (x : Transfer) → Invariant message is_interleaved x → (s : ℕ) → Invariant message is_interleaved (record x { sender = restarts x.sender s })
restarts_kept message is_interleaved x k s =
    sender_moves message is_interleaved x k (restarts x.sender s) (restarts_outgoing message x.sender k.outgoing s) (restarts_later message x.sender k.outgoing s)
    (λ m. let r = k.runs m in record { next_same = r.next_same; tail_partly = r.tail_partly; single = r.single }) k.indexed
