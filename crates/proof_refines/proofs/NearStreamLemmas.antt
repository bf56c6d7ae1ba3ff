-- Near what the MIDs of unordered streams are read after a call.
use Rattle.std.proofs.Common.{◌≡◌, ◌≢◌, ℕ, suc, ◌+◌, max, Bool, true, false, cond, inl, inr, List, [], ◌∷◌, refl, sym, ap, ◌∙◌, subst, arith}
use Rattle.std.specs.Prelude.{nat_lt}
use Rattle.std.specs.Prelude.{◌&&◌, ◌==◌}
use Rattle.std.proofs.lemmas.Bool.{cases_eq, cond-false, eq-eqb, ne_eqb}
use Rattle.sctp_serial.specs.Unwrapped.{origin}
use Rattle.sctp_packet.specs.Chunk.{FragmentTree}
use Rattle.sctp_chunk.specs.declared.forward_tsn.SkippedStream.{SkippedStream}
use Rattle.sctp_rx.specs.Held.{Held}
use Rattle.sctp_rx.specs.Delivery.{UnorderedDelivery, fresh_ordered, fresh_unordered, ordered_forward, unordered_arrival, unordered_forward}
use Rattle.sctp_rx.specs.ReassemblyStreams as streams
use Rattle.sctp_rx.specs.ReassemblyStreams.{Streams, Outcome, unchanged, with_ordered, with_unordered, is_far, held_as, add_in_order, ordered_number, skip, skip_each, by_stream, dropped_to}
use Rattle.sctp_rx.specs.Delivery.{ordered_arrival}
use Rattle.proof_protocol.specs.State.{Entry}
use Rattle.proof_protocol.specs.Rules.{same, raise}
use Rattle.proof_refines.specs.View.{ordered_at, unordered_at}
use Rattle.proof_refines.specs.Read.{StandForAll, number_read}
use Rattle.proof_protocol.specs.Points.{AreApart}
use Rattle.proof_refines.proofs.StreamLemmas.{changed_here, changed_off}
use Rattle.proof_refines.proofs.SkipLemmas.{Does, in_order, out_of_order, does, AreLike, all_still, passed_on}
use Rattle.proof_refines.proofs.ForwardLemmas.{unordered_kept}
use Rattle.proof_refines.proofs.EntryLemmas.{put_entries, sorted_stands, sorted_raised, sorted_apart}

-- ---- a fragment

module _ (n : ℕ) (f : FragmentTree) (ss : Streams) where
  pub ordered_leaves : f.is_unordered ≡ false → (s : ℕ) → unordered_at (streams.add n f ss).streams s ≡ unordered_at ss s
  ordered_leaves e s = ap (λ z. unordered_at (add_in_order z n f ss).streams s) e ∙ go (is_far (ordered_number ss.is_interleaved f (ordered_at ss f.stream_id)))
    where
      go : (b : Bool) → unordered_at (cond b (unchanged ss) (with_ordered f.stream_id (ordered_arrival (held_as ss.is_interleaved (number_read false f ss) n f) (ordered_at ss f.stream_id)) ss)).streams s ≡ unordered_at ss s
      go true = refl
      go false = refl

  abbrev item : Held
  item = held_as ss.is_interleaved (number_read true f ss) n f

  abbrev arrival : UnorderedDelivery
  arrival = unordered_arrival item (unordered_at ss f.stream_id)

  arrived : f.is_unordered ≡ true → is_far (number_read true f ss) ≡ false → streams.add n f ss ≡ with_unordered f.stream_id arrival ss
  arrived e near = ap (λ z. add_in_order z n f ss) e ∙ cond-false (is_far (number_read true f ss)) (unchanged ss) (with_unordered f.stream_id arrival ss) near

  arrival_near : arrival.stream.near ≡ max origin (number_read true f ss)
  arrival_near = go (nat_lt item.number (unordered_at ss f.stream_id).passed) refl
    where
      go : (b : Bool) → nat_lt item.number (unordered_at ss f.stream_id).passed ≡ b → arrival.stream.near ≡ max origin (number_read true f ss)
      go true e = rw (e) refl
      go false e = rw (e) refl

  pub near_here : f.is_unordered ≡ true → is_far (number_read true f ss) ≡ false → (s : ℕ) → s ≡ f.stream_id → (unordered_at (streams.add n f ss).streams s).near ≡ max origin (number_read true f ss)
  near_here e far s is =
      ap (λ z. (unordered_at z.streams s).near) (arrived e far) ∙ (ap (λ z. (unordered_at (with_unordered f.stream_id arrival ss).streams z).near) is
      ∙ (ap (λ z. z.near) (changed_here fresh_unordered f.stream_id arrival.stream ss.unordered) ∙ arrival_near))

  pub near_off : f.is_unordered ≡ true → is_far (number_read true f ss) ≡ false → (s : ℕ) → s ≢ f.stream_id → unordered_at (streams.add n f ss).streams s ≡ unordered_at ss s
  near_off e far s d = ap (λ z. unordered_at z.streams s) (arrived e far) ∙ changed_off fresh_unordered f.stream_id s d arrival.stream ss.unordered

-- ---- entries

module _ (s : ℕ) where
  abbrev near_at : Streams → ℕ
  near_at ss = (unordered_at ss s).near

  -- the streams' next numbers after all entries
  skip_nears : (xs : List SkippedStream) (es : List Entry) (ss : Streams) (n : ℕ) → StandForAll true ss xs es → AreApart es → ss.is_interleaved ≡ true → near_at ss ≡ origin + n
      → suc (near_at (skip_each xs ss).streams) ≡ origin + raise es false s (suc n)
  skip_nears [] [] ss n h apart mode is = omega (arith, is)
  skip_nears [] (e ∷ es) ss n h apart mode is = absurd h
  skip_nears (x ∷ xs) [] ss n h apart mode is = absurd h
  skip_nears (x ∷ xs) (e ∷ es) ss n h apart mode is = go (does ss e true x mode h.0) (skip_nears xs es)
    where
      Rest : Type 0
      Rest = (new : Streams) (m : ℕ) → StandForAll true new xs es → AreApart es → new.is_interleaved ≡ true → near_at new ≡ origin + m → suc (near_at (skip_each xs new).streams) ≡ origin + raise es false s (suc m)

      Goal : Streams → Type 0
      Goal new = suc (near_at (skip_each xs new).streams) ≡ origin + raise (e ∷ es) false s (suc n)

      go : Does ss x e → Rest → Goal (skip x ss).streams
      go (in_order o to) rest =
          let d = ordered_forward (origin + e.number) (ordered_at ss e.stream) in
          let new = (with_ordered e.stream d ss).streams in
          let like : AreLike es ss new = record {
            ordered = λ c a k. changed_off fresh_ordered e.stream c.stream (λ z. apart.0 c a (o ∙ sym k) (sym z)) d.stream ss.ordered;
            unordered = λ c a k. refl;
          } in
          let r = rest new n (all_still true ss new xs es like h.1) apart.1 mode is in
          let same_raise : raise es false s (suc n) ≡ raise (e ∷ es) false s (suc n) = sym (ap (λ z. raise es false s (cond (same z false && (e.stream == s)) (max (suc n) (suc e.number)) (suc n))) o) in
          subst (λ (z : Outcome). Goal z.streams) (sym to) (r ∙ ap (λ z. origin + z) same_raise)
      go (out_of_order o to) rest =
          let new = passed_on e.stream (origin + e.number) ss in
          let f = unordered_forward (origin + e.number) (unordered_at ss e.stream) in
          let like : AreLike es ss new = record {
            ordered = λ c a k. refl;
            unordered = λ c a k. changed_off fresh_unordered e.stream c.stream (λ z. apart.0 c a (o ∙ sym k) (sym z)) f ss.unordered;
          } in
          let stand = all_still true ss new xs es like h.1 in
          let first_raise : raise es false s (cond (e.stream == s) (max (suc n) (suc e.number)) (suc n)) ≡ raise (e ∷ es) false s (suc n) =
          sym (ap (λ z. raise es false s (cond (same z false && (e.stream == s)) (max (suc n) (suc e.number)) (suc n))) o) in
          subst (λ (z : Outcome). Goal z.streams) (sym to) (elim (cases_eq s e.stream) [
            | inl q ↦
                let here : near_at new ≡ max (unordered_at ss e.stream).near (origin + e.number) = ap (λ z. (unordered_at new z).near) q ∙ ap (λ z. z.near) (changed_here fresh_unordered e.stream f ss.unordered) in
                let was : (unordered_at ss e.stream).near ≡ origin + n = ap (λ z. (unordered_at ss z).near) (sym q) ∙ is in
                let r = rest new (max n e.number) stand apart.1 mode (omega (arith, here, was)) in
                let up : suc (max n e.number) ≡ max (suc n) (suc e.number) = omega arith in
                r ∙ ap (λ z. origin + z) (ap (λ z. raise es false s z) up ∙ (sym (ap (λ b. raise es false s (cond b (max (suc n) (suc e.number)) (suc n))) (eq-eqb e.stream s (sym q))) ∙ first_raise))
            | inr q ↦
                let off = ap (λ z. z.near) (changed_off fresh_unordered e.stream s q f ss.unordered) in
                let r = rest new n stand apart.1 mode (off ∙ is) in
                r ∙ ap (λ z. origin + z) (sym (ap (λ b. raise es false s (cond b (max (suc n) (suc e.number)) (suc n))) (ne_eqb e.stream s (λ z. q (sym z)))) ∙ first_raise)
          ])

  -- a whole forward point
  pub point_nears : (xs : List SkippedStream) (es : List Entry) (ss : Streams) (at n : ℕ) → StandForAll true ss xs es → AreApart es → ss.is_interleaved ≡ true → near_at ss ≡ origin + n
      → suc (near_at (streams.forward at xs ss).streams) ≡ origin + raise es false s (suc n)
  point_nears xs es ss at n stand apart mode is =
      let sorted = sorted_stands true ss xs es [] [] stand tt in
      let sorted_far = sorted_apart es [] apart tt (λ e d a b. absurd b) in
      let like : AreLike (put_entries es []) ss (dropped_to at ss) = record { ordered = λ e a o. refl; unordered = λ e a o. unordered_kept ss at true mode e.stream } in
      skip_nears (by_stream xs) (put_entries es []) (dropped_to at ss) n (all_still true ss (dropped_to at ss) (by_stream xs) (put_entries es []) like sorted) sorted_far mode (ap (λ z. z.near) (unordered_kept ss at true mode s) ∙ is)
      ∙ ap (λ z. origin + z) (sorted_raised false s es (suc n))
