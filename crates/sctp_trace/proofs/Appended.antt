-- What is appended item by item, and part by part.
use Rattle.std.proofs.Common.{◌≡◌, ℕ, ◌+◌, ◌<◌, ◌/◌, ◌%◌, ◌^◌, List, [], ◌∷◌, ◌++◌, map, take, length, get_or, append_assoc, ap, sym, ◌∙◌}
use Rattle.std.proofs.lemmas.List.{take_more, flat_map_more, map-append}
use Rattle.std.specs.List.{flat_map}
use Rattle.sctp_trace.specs.Bytes.{le32}
use Rattle.sctp_trace.specs.Pcapng.{pad, option_bytes, block, packet_body}

-- a loop that has appended what f makes of each item before, and appends that of this one
pub flat_more : {X A : Type 0} (f : X → List A) (old now new : List A) (xs : List X) (i : ℕ) (d : X) → i < length xs
    → now ≡ old ++ flat_map f (take i xs) → new ≡ now ++ f (get_or xs i d) → new ≡ old ++ flat_map f (take (i + 1) xs)
flat_more {X} {A} f old now new xs i d inside before put =
    put
    ∙ (ap (λ (l : List A). l ++ f (get_or xs i d)) before
    ∙ (flat_map_more f old (take i xs) (get_or xs i d) ∙ ap (λ (ys : List X). old ++ flat_map f ys) (sym (take_more xs i d inside))))

-- the same where each item makes one
pub map_more : {X A : Type 0} (f : X → A) (old now new : List A) (xs : List X) (i : ℕ) (d : X) → i < length xs
    → now ≡ old ++ map f (take i xs) → new ≡ now ++ (f (get_or xs i d) ∷ []) → new ≡ old ++ map f (take (i + 1) xs)
map_more {X} {A} f old now new xs i d inside before put =
    let x : X = get_or xs i d in
    put
    ∙ (ap (λ (l : List A). l ++ (f x ∷ [])) before
    ∙ (append_assoc old (map f (take i xs)) (f x ∷ [])
    ∙ ap (λ (l : List A). old ++ l) (sym (ap (map f) (take_more xs i d inside) ∙ map-append f (take i xs) (x ∷ [])))))

-- three parts in front of the rest
pub three_in_front : {A : Type 0} (old a b c rest front all : List A) → front ≡ old ++ (a ++ (b ++ c)) → all ≡ front ++ rest
    → all ≡ old ++ (a ++ (b ++ (c ++ rest)))
three_in_front {A} old a b c rest front all opened filled =
    filled
    ∙ (ap (λ (l : List A). l ++ rest) opened
    ∙ (append_assoc old (a ++ (b ++ c)) rest
    ∙ ap (λ (l : List A). old ++ l) (append_assoc a (b ++ c) rest ∙ ap (λ (l : List A). a ++ l) (append_assoc b c rest))))

-- four writers in turn
pub four_in_turn : {A : Type 0} (old w x y z a b c d : List A) → a ≡ old ++ w → b ≡ a ++ x → c ≡ b ++ y → d ≡ c ++ z
    → d ≡ old ++ (w ++ (x ++ (y ++ z)))
four_in_turn {A} old w x y z a b c d p q r s =
    s
    ∙ (ap (λ (l : List A). l ++ z) (r ∙ ap (λ (l : List A). l ++ y) (q ∙ ap (λ (l : List A). l ++ x) p))
    ∙ (append_assoc ((old ++ w) ++ x) y z ∙ (append_assoc (old ++ w) x (y ++ z) ∙ append_assoc old w (x ++ (y ++ z)))))

-- the block of a packet: seven numbers, the packet, its comment, and two numbers
pub packet_in_parts : (interface nanoseconds size : ℕ) (packet comment old a b c d : List ℕ)
    → size ≡ length (packet_body interface nanoseconds packet comment) + 12
    → a ≡ old ++ flat_map le32 (6 ∷ size ∷ interface ∷ nanoseconds / 2 ^ 32 ∷ nanoseconds % 2 ^ 32 ∷ length packet ∷ length packet ∷ [])
    → b ≡ a ++ pad packet → c ≡ b ++ option_bytes 1 comment → d ≡ c ++ flat_map le32 (0 ∷ size ∷ [])
    → d ≡ old ++ block 6 (packet_body interface nanoseconds packet comment)
unfolding le32 block packet_body
packet_in_parts interface nanoseconds size packet comment old a b c d is p q r s =
    let numbers : List ℕ = flat_map le32 (6 ∷ size ∷ interface ∷ nanoseconds / 2 ^ 32 ∷ nanoseconds % 2 ^ 32 ∷ length packet ∷ length packet ∷ []) in
    let body : List ℕ = packet_body interface nanoseconds packet comment in
    let comment_bytes : List ℕ = option_bytes 1 comment in
    let inner : pad packet ++ (comment_bytes ++ (le32 0 ++ le32 size)) ≡ (pad packet ++ (comment_bytes ++ le32 0)) ++ le32 size =
    sym (append_assoc (pad packet) (comment_bytes ++ le32 0) (le32 size) ∙ ap (λ (l : List ℕ). pad packet ++ l) (append_assoc comment_bytes (le32 0) (le32 size))) in
    four_in_turn old numbers (pad packet) comment_bytes (flat_map le32 (0 ∷ size ∷ [])) a b c d p q r s
    ∙ (ap (λ (l : List ℕ). old ++ (numbers ++ l)) inner
    ∙ ap (λ (n : ℕ). old ++ (le32 6 ++ (le32 n ++ (body ++ le32 n)))) is)
