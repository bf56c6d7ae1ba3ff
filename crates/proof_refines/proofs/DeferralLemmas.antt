-- While a reset is deferred nothing waits for it: no fragment of its streams comes from above its last TSN, and no entry of a forward
-- point that goes on above that is of its streams.
use Rattle.std.proofs.Common.{◌≡◌, ℕ, suc, ◌+◌, ◌^◌, ◌<◌, Bool, true, false, not, cond, inl, inr, Option, Some, List, [], ◌∷◌, length, map, refl, ap, sym, ◌∙◌, subst, arith}
use Rattle.std.specs.Prelude.{◌&&◌, ◌||◌, ◌==◌, nat_lt}
use Rattle.std.specs.List.{list_any}
use Rattle.std.proofs.lemmas.Bool.{cond-true, cond-false, eqb-true, ne_eqb}
use Rattle.std.proofs.lemmas.Bool.Decides.{nat_tests}
use Rattle.std.proofs.Math.Bool.{and-false}
use Rattle.sctp_serial.specs.Unwrapped.{origin}
use Rattle.sctp_serial.specs.declared.api.StreamId.{StreamId}
use Rattle.sctp_chunk.specs.declared.forward_tsn.SkippedStream.{SkippedStream}
use Rattle.sctp_rx.specs.ReassemblyStreams.{Streams, is_named, is_far, entries_in, skipped_id}
use Rattle.sctp_rx.specs.ReassemblyQueue.{Reassembly, Deferred, number_of, came, is_kept_back, point_waits, resetting, waiting_in, keep_back, Forwarded, wait_with, forward_now, forward_or_wait, forward}
use Rattle.proof_protocol.specs.State.{Message, Entry, ForwardPoint, IsAmong, place_of, count, stream_of}
use Rattle.proof_protocol.specs.Lifted.{as_written, wire_point}
use Rattle.proof_protocol.specs.Rules.{covers}
use Rattle.proof_protocol.specs.Resets.{Request, Epochs}
use Rattle.proof_protocol.specs.Based.{InEpochs, NothingWaits}
use Rattle.proof_protocol.proofs.ToolsLemmas.{not_both, among_covers}
use Rattle.proof_protocol.proofs.EpochLawsLemmas.{nothing_waits}
use Rattle.proof_refines.specs.Read.{StandForAll}
use Rattle.proof_refines.specs.Resets.{IsNextTo, AreNextTo, IsDeferral, named_by}
use Rattle.proof_refines.proofs.EntryLemmas.{id_is}
use Rattle.proof_refines.proofs.ForwardRowLemmas.{not_far, called_at_once}

-- ---- the streams that are named

-- a stream that requests name is of one of them
pub named_some : (rs : List Request) (a : ℕ) → list_any (λ (i : StreamId). i.0 == a) (named_by rs) ≡ true → (r : Request) × IsAmong r rs × (r.stream ≡ a)
named_some [] a h = cc
named_some (r ∷ rs) a h = go (r.stream == a) refl (named_some rs a) h
  where
    go : (b : Bool) → (r.stream == a) ≡ b → (list_any (λ (i : StreamId). i.0 == a) (named_by rs) ≡ true → (q : Request) × IsAmong q rs × (q.stream ≡ a))
        → (b || list_any (λ (i : StreamId). i.0 == a) (named_by rs)) ≡ true → (q : Request) × IsAmong q (r ∷ rs) × (q.stream ≡ a)
    go true e ih k = (r, inl refl, eqb-true r.stream a e)
    go false e ih k = let z = ih k in (z.0, inr z.1, z.2)

-- they name some
names_only : (r : Request) (rs : List Request) (a : ℕ) → is_named (named_by (r ∷ rs)) a ≡ list_any (λ (i : StreamId). i.0 == a) (named_by (r ∷ rs))
names_only r rs a = ap (λ (b : Bool). b || list_any (λ (i : StreamId). i.0 == a) (named_by (r ∷ rs))) (ne_eqb (length (named_by (r ∷ rs))) 0 (λ e. omega (arith, e)))

-- each of them is a next one
pub next_among : (x : Epochs) (upto : ℕ) (rs : List Request) → AreNextTo x upto rs → (r : Request) → IsAmong r rs → IsNextTo x upto r
next_among x upto [] h r a = absurd a
next_among x upto (q ∷ rs) h r (inl e) = subst (λ (z : Request). IsNextTo x upto z) (sym e) h.0
next_among x upto (q ∷ rs) h r (inr a) = next_among x upto rs h.2 r a

module _ (message : ℕ → Message) (is_interleaved : Bool) (x : Epochs) (k : InEpochs message is_interleaved x) (shift : ℕ) (first : Option ℕ) (d : Deferred) (is : IsDeferral shift x first d) where
  abbrev rs : List Request
  rs = is.request ∷ is.more

  -- nothing is above the last TSN on a stream that is named
  pub none_above : (a : ℕ) → is_named d.streams a ≡ true → (r : Request) × (r.stream ≡ a) × (r.upto ≡ is.upto) × NothingWaits message x r
  none_above a h =
      let named : list_any (λ (i : StreamId). i.0 == a) (named_by rs) ≡ true = sym (names_only is.request is.more a) ∙ subst (λ (ids : List StreamId). is_named ids a ≡ true) is.names h in
      let z = named_some rs a named in
      let n = next_among x is.upto rs is.next z.0 z.1 in
      let e = n.epoch in
      (z.0, z.2, n.last, nothing_waits message is_interleaved x k z.0 n.sent (omega (arith, e)))

  -- ---- a fragment

  pub fragment_at_once : (n t id : ℕ) → n + shift ≡ origin + t → t < count x.transfer.sender → id ≡ stream_of message (place_of x.transfer.sender t) → is_kept_back n id (Some d) ≡ false
  fragment_at_once n t id at numbered on = go (is_named d.streams id) refl
    where
      low : (a b s u : ℕ) → a + s + 1 ≡ origin + u → b + s ≡ origin + t → t < u → nat_lt a b ≡ false
      low a b s u e g l = grind (arith, nat_tests)

      go : (b : Bool) → is_named d.streams id ≡ b → (nat_lt d.last n && b) ≡ false
      go false e = and-false (nat_lt d.last n)
      go true e =
          let z = none_above id e in
          let below = z.3.fragments t numbered (sym on ∙ sym z.1) in
          let upto = z.2 in
          ap (λ b. b && true) (low d.last n shift is.upto is.last at (omega (arith, below, upto)))

  -- ---- a forward point

  abbrev none_of : List SkippedStream
  none_of = []

  module _ (f : ForwardPoint) (sent : IsAmong f x.transfer.forward_points) (ss : Streams) (above : is.upto < f.upto) where
    off : (e : Entry) → IsAmong e f.entries → is_named d.streams e.stream ≡ false
    off e a = go (is_named d.streams e.stream) refl
      where
        go : (b : Bool) → is_named d.streams e.stream ≡ b → b ≡ false
        go false h = refl
        go true h =
            let z = none_above e.stream h in
            let upto = z.2 in
            let none = z.3.points f sent (omega (arith, above, upto)) e.ordered e.number in
            absurd (not_both (among_covers e f.entries a) (subst (λ s. covers f.entries e.ordered s e.number ≡ false) z.1 none))

    parts : (named : Bool) (xs : List SkippedStream) (es : List Entry) → ((e : Entry) → IsAmong e es → IsAmong e f.entries) → StandForAll is_interleaved ss xs (map as_written es)
        → entries_in named d.streams xs ≡ cond named [] xs
    parts named [] [] sub h = by named
      where
        by : (b : Bool) → none_of ≡ cond b none_of none_of
        by true = refl
        by false = refl
    parts named [] (e ∷ es) sub h = absurd h
    parts named (y ∷ xs) [] sub h = absurd h
    parts named (y ∷ xs) (e ∷ es) sub h = go named (parts named xs es (λ g a. sub g (inr a)) h.1)
      where
        here : is_named d.streams (skipped_id y) ≡ false
        here = ap (is_named d.streams) (id_is is_interleaved ss y (as_written e) h.0) ∙ off e (sub e (inl refl))

        go : (b : Bool) → entries_in b d.streams xs ≡ cond b [] xs → entries_in b d.streams (y ∷ xs) ≡ cond b [] (y ∷ xs)
        go true ih = cond-false (is_named d.streams (skipped_id y)) (y ∷ entries_in true d.streams xs) (entries_in true d.streams xs) here ∙ ih
        go false ih =
            cond-true (not (is_named d.streams (skipped_id y))) (y ∷ entries_in false d.streams xs) (entries_in false d.streams xs) (ap not here) ∙ ap (λ (ys : List SkippedStream). y ∷ ys) ih

  -- no entry of a point waits
  pub point_called : (r : Reassembly) → r.deferred ≡ Some d → (tsn t : ℕ) (xs : List SkippedStream) (f : ForwardPoint) → number_of r tsn + shift ≡ origin + t → t < 2 ^ 62 → f.upto ≡ suc t
      → IsAmong f x.transfer.forward_points → StandForAll is_interleaved r.streams xs (wire_point f).entries → forward tsn xs r ≡ forward_now (number_of r tsn) xs (came tsn r)
  point_called r deferred tsn t xs f at small last sent stand = go (nat_lt d.last (number_of r tsn)) refl
    where
      n : ℕ
      n = number_of r tsn

      high : (a b s u : ℕ) → a + s + 1 ≡ origin + u → b + s ≡ origin + t → nat_lt a b ≡ true → u < suc t
      high a b s u e g l = grind (arith, nat_tests)

      part : Reassembly
      part = forward_now n (entries_in false d.streams xs) (came tsn r)

      go : (b : Bool) → nat_lt d.last (number_of r tsn) ≡ b → forward tsn xs r ≡ forward_now (number_of r tsn) xs (came tsn r)
      go false e = called_at_once r tsn t shift xs at small (ap (point_waits (number_of r tsn)) deferred ∙ e)
      go true e =
          let over = high d.last (number_of r tsn) shift is.upto is.last at e in
          let above : is.upto < f.upto = omega (arith, over, last) in
          let here = parts f sent r.streams above true xs f.entries (λ g a. a) stand in
          let others = parts f sent r.streams above false xs f.entries (λ g a. a) stand in
          cond-false (is_far (number_of r tsn)) r (forward_or_wait (number_of r tsn) xs (came tsn r)) (not_far r tsn t shift xs at small)
          ∙ (ap (λ (o : Option Deferred). cond (point_waits (number_of r tsn) o) (wait_with (number_of r tsn) (entries_in true (resetting o) xs) (forward_now (number_of r tsn) (entries_in false (resetting o) xs) (came tsn r)))
          (forward_now (number_of r tsn) xs (came tsn r))) deferred
          ∙ (cond-true (nat_lt d.last (number_of r tsn)) (wait_with (number_of r tsn) (entries_in true d.streams xs) part) (forward_now (number_of r tsn) xs (came tsn r)) e
          ∙ (ap (λ (ys : List SkippedStream). wait_with (number_of r tsn) ys part) here
          ∙ (cond-true (length (waiting_in r.deferred) == 0) part (keep_back (Forwarded (number_of r tsn) []) part) (ap (λ (o : Option Deferred). length (waiting_in o) == 0) deferred ∙ ap (λ ws. length ws == 0) is.idle)
          ∙ ap (λ (ys : List SkippedStream). forward_now (number_of r tsn) ys (came tsn r)) others))))
