-- What is known of chunks that are read from bytes.
use Rattle.std.proofs.Common.{ℕ, zero, suc, ◌+◌, ◌^◌, ◌<◌, List, [], ◌∷◌, ◌++◌, take, drop, length, subst, arith}
use Rattle.std.specs.Prelude.{All, slice_index}
use Rattle.std.specs.Int.{w16, w32, to_be_bytes, from_be_bytes}
use Rattle.std.proofs.lemmas.List.Elements.{All-head, All-tail}
use Rattle.sctp_wire.specs.Item.{Item, item_bytes, Takes, ParsesAll}
use Rattle.sctp_wire.specs.Parameter.{ParameterTree, IsParameter}
use Rattle.sctp_packet.specs.Chunk.{ChunkTree, data_chunk, init_chunk, init_ack_chunk, heartbeat_request_chunk, cookie_echo_chunk, idata_chunk, re_config_chunk}
use Rattle.sctp_packet.specs.Grammar.{Each, IsChunk}
use Rattle.sctp_capabilities.specs.declared.state_cookie.StateCookieError.{StateCookieError}
use Rattle.sctp_capabilities.specs.StateCookie.{Cookie, u32_in, cookie_from, check_cookie, read_cookie}
use Rattle.std.specs.Prelude.{Bool, true, false, Result, Ok, Err}
use Rattle.proof_endpoint.specs.Sound.{AreRead, HasSomeCookie}
use Rattle.proof_endpoint.specs.Fair.{IsFairParameter, FitsReceived}

-- ---- lists

module _ {X : Type 0} (P : X → Type 0) where
  pub each_append : (xs ys : List X) → Each P xs → Each P ys → Each P (xs ++ ys)
  each_append [] ys h k = k
  each_append (x ∷ xs) ys h k = (h.0, each_append xs ys h.1 k)

  pub each_push : (xs : List X) (y : X) → Each P xs → P y → Each P (xs ++ y ∷ [])
  each_push xs y h p = each_append xs (y ∷ []) h (p, tt)

  pub each_front : (xs ys : List X) → Each P (xs ++ ys) → Each P xs
  each_front [] ys h = tt
  each_front (x ∷ xs) ys h = (h.0, each_front xs ys h.1)

  pub each_back : (xs ys : List X) → Each P (xs ++ ys) → Each P ys
  each_back [] ys h = h
  each_back (x ∷ xs) ys h = each_back xs ys h.1

  pub each_take : (n : ℕ) (xs : List X) → Each P xs → Each P (take n xs)
  each_take zero xs h = tt
  each_take (suc n) [] h = tt
  each_take (suc n) (x ∷ xs) h = (h.0, each_take n xs h.1)

  pub each_drop : (n : ℕ) (xs : List X) → Each P xs → Each P (drop n xs)
  each_drop zero xs h = h
  each_drop (suc n) [] h = tt
  each_drop (suc n) (x ∷ xs) h = each_drop n xs h.1

  pub each_of_all : (xs : List X) → All P xs → Each P xs
  each_of_all [] h = tt
  each_of_all (x ∷ xs) h = (All-head P x xs h, each_of_all xs (All-tail P x xs h))

-- ---- bytes

abbrev pub IsByte : ℕ → Type 0
IsByte b = b < 2 ^ 8

byte_at : (bs : List ℕ) → Each IsByte bs → (i : ℕ) → slice_index bs i < 2 ^ 8
byte_at [] h i = omega arith
byte_at (b ∷ bs) h zero = h.0
byte_at (b ∷ bs) h (suc i) = byte_at bs h.1 i

word_small : (bs : List ℕ) → Each IsByte bs → from_be_bytes w32 bs < 2 ^ 32
word_small bs h =
    let a = byte_at bs h 0 in
    let b = byte_at bs h 1 in
    let c = byte_at bs h 2 in
    let d = byte_at bs h 3 in
    omega (arith, a, b, c, d)

-- ---- cookies

pub record FitsCookie (k : Cookie) : Type 0 where
  pub my_tag : k.my_tag < 2 ^ 32
  pub my_first : k.my_initial_tsn < 2 ^ 32
  pub peer_tag : k.peer_tag < 2 ^ 32

abbrev pub FitsRead : Result Cookie StateCookieError → Type 0
FitsRead (Ok k) = FitsCookie k
FitsRead (Err fault) = Unit {0}

pub word_in_fits : (place : ℕ) (bytes : List ℕ) → Each IsByte bytes → u32_in place bytes < 2 ^ 32
word_in_fits place bytes h = word_small (take 4 (drop place bytes)) (each_take IsByte 4 (drop place bytes) (each_drop IsByte place bytes h))

cookie_fits : (bytes : List ℕ) → Each IsByte bytes → FitsCookie (cookie_from bytes)
unfolding cookie_from
cookie_fits bytes h = record { my_tag = word_in_fits 12 bytes h; my_first = word_in_fits 20 bytes h; peer_tag = word_in_fits 8 bytes h }

tested_fits : (a b c : Bool) (k : Cookie) → FitsCookie k → FitsRead (check_cookie a b c k)
tested_fits false b c k h = tt
tested_fits true false c k h = tt
tested_fits true true false k h = tt
tested_fits true true true k h = h

pub read_fits : (bytes : List ℕ) → Each IsByte bytes → FitsRead (read_cookie bytes)
unfolding read_cookie
read_fits bytes h = tested_fits _ _ _ (cookie_from bytes) (cookie_fits bytes h)

-- ---- chunks

parameters_fair : (bytes : List ℕ) (ps : List ParameterTree) → ParsesAll IsParameter bytes ps [] → Each IsFairParameter ps
parameters_fair bytes [] h = tt
parameters_fair bytes (p ∷ ps) h = (record { fits = h.3.fits; of_its_variant = h.3.of_its_variant }, parameters_fair h.1 ps h.4)

received_one : (i : Item) (c : ChunkTree) → Each IsByte i.value → IsChunk i c → HasSomeCookie c → FitsReceived c
received_one i (data_chunk tsn immediate f) b is k = is.fits.0
received_one i (idata_chunk tsn immediate f) b is k = is.fits.0
received_one i (init_chunk init) b is k = is.fits.initiate_tag
received_one i (init_ack_chunk init) b is k = (is.fits.initiate_tag, k)
received_one i (heartbeat_request_chunk ps) b is k = parameters_fair i.value ps is.value
received_one i (re_config_chunk ps) b is k = parameters_fair i.value ps is.value
received_one i (cookie_echo_chunk cookie) b is k = subst (Each IsByte) is.value.0 b
received_one i c b is k = tt

value_bytes : (i : Item) (rest : List ℕ) → Each IsByte (item_bytes i ++ rest) → Each IsByte i.value
value_bytes i rest h =
    each_back IsByte (to_be_bytes w16 (4 + length i.value)) i.value (each_front IsByte (item_bytes i) rest h).1.1

received_parses_all : (bytes : List ℕ) (cs : List ChunkTree) → Each IsByte bytes → ParsesAll IsChunk bytes cs [] → Each HasSomeCookie cs → Each FitsReceived cs
received_parses_all bytes [] b h k = tt
received_parses_all bytes (c ∷ cs) b h k =
    let i : Item = h.0 in
    let after : List ℕ = h.1 in
    let t : Takes bytes i after = h.2 in
    let all : Each IsByte (item_bytes i ++ (t.pad ++ after)) = subst (Each IsByte) t.joined b in
    let behind : Each IsByte after = each_back IsByte t.pad after (each_back IsByte (item_bytes i) (t.pad ++ after) all) in
    (received_one i c (value_bytes i (t.pad ++ after) all) h.3 k.0, received_parses_all after cs behind h.4 k.1)

pub received_all : (cs : List ChunkTree) → AreRead cs → Each HasSomeCookie cs → Each FitsReceived cs
received_all cs r k = received_parses_all r.bytes cs (each_of_all IsByte r.bytes r.small) r.parses k
