-- Runs with one number more, computed.
use Rattle.std.specs.Prelude.{ℕ, ◌+◌, cond, List, [], ◌∷◌, nat_lt, nat_le, ◌==◌}
use Rattle.sctp_rx.specs.Seen.{Run, Seen}

abbrev pub run : ℕ → ℕ → Run
run f l = record { first = f; last = l }

abbrev pub seen_of : ℕ → List Run → Seen
seen_of front rs = record { front = front; runs = rs }

-- a run that grows to n at its end, and takes in a run that begins next to it
abbrev pub grown_to : ℕ → ℕ → List Run → List Run
grown_to f n [] = run f n ∷ []
grown_to f n (c ∷ cs) = cond (c.first == n + 1) (run f c.last ∷ cs) (run f n ∷ (c ∷ cs))

-- n added where b is the first run that does not end before n - 1
abbrev pub add_here : ℕ → Run → List Run → List Run
add_here n b bs =
    cond (nat_lt (n + 1) b.first) (run n n ∷ (b ∷ bs))
    (cond (n + 1 == b.first) (run n b.last ∷ bs)
    (cond (nat_le n b.last) (b ∷ bs) (grown_to b.first n bs)))

abbrev pub add_number : ℕ → List Run → List Run
add_number n [] = run n n ∷ []
add_number n (b ∷ bs) = cond (nat_lt (b.last + 1) n) (b ∷ add_number n bs) (add_here n b bs)
