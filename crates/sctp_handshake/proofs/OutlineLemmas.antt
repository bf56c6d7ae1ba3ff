-- An outline, chunk by chunk, and what it says of a packet.
use Rattle.std.proofs.Common.{◌≡◌, ◌||◌, ℕ, zero, suc, ◌==◌, Bool, true, false, Option, Some, None, List, [], ◌∷◌, refl, sym, ap, ◌∙◌, arith}
use Rattle.std.proofs.lemmas.Bool.Decides.{nat_tests}
use Rattle.std.specs.Option.{option_or}
use Rattle.std.specs.Bool.{then_some}
use Rattle.sctp_serial.proofs.NumberLemmas.{or_assoc}
use Rattle.sctp_wire.specs.Item.{Item}
use Rattle.sctp_wire.proofs.WordLemmas.{clash}
use Rattle.sctp_packet.specs.Chunk.{ChunkTree, data_chunk, init_chunk, init_ack_chunk, sack_chunk, heartbeat_request_chunk, heartbeat_ack_chunk, abort_chunk, shutdown_chunk, shutdown_ack_chunk, error_chunk, cookie_echo_chunk, cookie_ack_chunk, shutdown_complete_chunk, idata_chunk, re_config_chunk, forward_tsn_chunk, i_forward_tsn_chunk, unknown_chunk}
use Rattle.sctp_packet.specs.Written.{is_known_chunk, flag}
use Rattle.sctp_packet.specs.Grammar.{IsChunk}
use Rattle.spec_endpoint.specs.Association.{State}
use Rattle.spec_endpoint.specs.Input.{packet_refusal, packet_refusal_by, has_more_counted, unless_many, abort_flag, complete_flag, has_shutdown_ack, begins_with_cookie, is_single_init}
use Rattle.sctp_handshake.specs.declared.validation.Outline.{Outline}
use Rattle.sctp_handshake.specs.Outlines.{followed_by, outline_of, outlined_by, outlined_refusal}

-- ---- one chunk, as an item

abbrev pub outline_of_item : Item → Outline
outline_of_item i = record {
  abort = then_some (i.first == 6) (flag i.second 1);
  complete = then_some (i.first == 14) (flag i.second 1);
  has_shutdown_ack = i.first == 8;
  begins_with_cookie = i.first == 10;
  is_single_init = i.first == 1;
}

equal : (a b : ℕ) → (a == b) ≡ true → a ≡ b
equal a b e = grind (arith, nat_tests)

-- an unknown type is none of the known ones
differs : (typ known : ℕ) (is : Bool) → (typ == known) ≡ is → is_known_chunk typ ≡ false → is_known_chunk known ≡ true → is ≡ false
differs typ known true e unknown k = absurd (clash (sym k ∙ (ap is_known_chunk (sym (equal typ known e)) ∙ unknown)))
differs typ known false e unknown k = refl

no_known : (typ known : ℕ) → is_known_chunk typ ≡ false → is_known_chunk known ≡ true → (typ == known) ≡ false
no_known typ known unknown k = differs typ known (typ == known) refl unknown k

pub item_as : (i : Item) (t : ChunkTree) → IsChunk i t → outline_of_item i ≡ outline_of (t ∷ [])
item_as i (data_chunk tsn immediate f) h = rw h.kind refl
item_as i (init_chunk init) h = rw h.kind refl
item_as i (init_ack_chunk init) h = rw h.kind refl
item_as i (sack_chunk sack) h = rw h.kind refl
item_as i (heartbeat_request_chunk parameters) h = rw h.kind refl
item_as i (heartbeat_ack_chunk parameters) h = rw h.kind refl
item_as i (abort_chunk reflected causes) h = rw (h.kind, h.flags) refl
item_as i (shutdown_chunk tsn) h = rw h.kind refl
item_as i shutdown_ack_chunk h = rw h.kind refl
item_as i (error_chunk causes) h = rw h.kind refl
item_as i (cookie_echo_chunk cookie) h = rw h.kind refl
item_as i cookie_ack_chunk h = rw h.kind refl
item_as i (shutdown_complete_chunk reflected) h = rw (h.kind, h.flags) refl
item_as i (idata_chunk tsn immediate f) h = rw h.kind refl
item_as i (re_config_chunk parameters) h = rw h.kind refl
item_as i (forward_tsn_chunk tsn skipped) h = rw h.kind refl
item_as i (i_forward_tsn_chunk tsn skipped) h = rw h.kind refl
item_as i (unknown_chunk typ flags value) h =
    let no : (known : ℕ) → is_known_chunk known ≡ true → (typ == known) ≡ false = λ known k. no_known typ known h.of_its_type k in
    rw (h.kind, no 6 refl, no 14 refl, no 8 refl, no 10 refl, no 1 refl) refl

-- ---- one chunk behind another

two_as : (t u : ChunkTree) (ts : List ChunkTree) → outline_of (t ∷ u ∷ ts) ≡ followed_by (outline_of (t ∷ [])) (outline_of (u ∷ ts))
two_as (data_chunk tsn immediate f) u ts = refl
two_as (init_chunk init) u ts = refl
two_as (init_ack_chunk init) u ts = refl
two_as (sack_chunk sack) u ts = refl
two_as (heartbeat_request_chunk parameters) u ts = refl
two_as (heartbeat_ack_chunk parameters) u ts = refl
two_as (abort_chunk reflected causes) u ts = refl
two_as (shutdown_chunk tsn) u ts = refl
two_as shutdown_ack_chunk u ts = refl
two_as (error_chunk causes) u ts = refl
two_as (cookie_echo_chunk cookie) u ts = refl
two_as cookie_ack_chunk u ts = refl
two_as (shutdown_complete_chunk reflected) u ts = refl
two_as (idata_chunk tsn immediate f) u ts = refl
two_as (re_config_chunk parameters) u ts = refl
two_as (forward_tsn_chunk tsn skipped) u ts = refl
two_as (i_forward_tsn_chunk tsn skipped) u ts = refl
two_as (unknown_chunk typ flags value) u ts = refl

option_or_assoc : (a b c : Option Bool) → option_or (option_or a b) c ≡ option_or a (option_or b c)
option_or_assoc None b c = refl
option_or_assoc (Some x) b c = refl

followed_assoc : (o p q : Outline) → followed_by (followed_by o p) q ≡ followed_by o (followed_by p q)
followed_assoc o p q =
    rw (
      option_or_assoc o.abort p.abort q.abort,
      option_or_assoc o.complete p.complete q.complete,
      or_assoc o.has_shutdown_ack p.has_shutdown_ack q.has_shutdown_ack,
    ) refl

-- ---- the walk: what was seen, with what is left behind

abbrev pub with_left : Outline → (left : List ChunkTree) → Outline
with_left o [] = o
with_left o (t ∷ ts) = followed_by o (outline_of (t ∷ ts))

next_as : (o : Outline) (t : ChunkTree) (left : List ChunkTree) → with_left (followed_by o (outline_of (t ∷ []))) left ≡ with_left o (t ∷ left)
next_as o t [] = refl
next_as o t (u ∷ ts) = followed_assoc o (outline_of (t ∷ [])) (outline_of (u ∷ ts)) ∙ ap (followed_by o) (sym (two_as t u ts))

pub goes_on : (o next both : Outline) (t : ChunkTree) (from left chunks : List ChunkTree) → from ≡ t ∷ left → next ≡ outline_of (t ∷ []) → both ≡ followed_by o next
    → with_left o from ≡ outline_of chunks → with_left both left ≡ outline_of chunks
goes_on o next both t from left chunks e n b was = rw (b, n) (next_as o t left ∙ (ap (with_left o) (sym e) ∙ was))

-- ---- what it says of a packet is what the chunks say

refusal_as : (abort complete : Option Bool) (is_shutdown_ack : Bool) (tag : ℕ) (chunks : List ChunkTree) (s : State)
    → outlined_by abort complete is_shutdown_ack (begins_with_cookie chunks) (is_single_init chunks) tag s ≡ packet_refusal_by abort complete is_shutdown_ack tag chunks s
refusal_as (Some reflected) complete is_shutdown_ack tag chunks s = refl
refusal_as None (Some reflected) is_shutdown_ack tag chunks s = refl
refusal_as None None true tag chunks s = refl
refusal_as None None false tag chunks s = refl

abbrev by_tag : (tag : ℕ) → List ChunkTree → State → Option (List ℕ)
by_tag tag chunks s = packet_refusal_by (abort_flag chunks) (complete_flag chunks) (has_shutdown_ack chunks) tag chunks s

pub few_refused : (o : Outline) (tag : ℕ) (chunks : List ChunkTree) (s : State) → o ≡ outline_of chunks → false ≡ has_more_counted 4 chunks
    → outlined_refusal o tag s ≡ packet_refusal tag chunks s
few_refused o tag chunks s e few =
    ap (λ (p : Outline). outlined_refusal p tag s) e
    ∙ (refusal_as (abort_flag chunks) (complete_flag chunks) (has_shutdown_ack chunks) tag chunks s
    ∙ ap (λ (b : Bool). unless_many b (by_tag tag chunks s)) few)

-- ---- the walk that counts SACKs and COOKIE ECHOs

abbrev is_counted : ChunkTree → Bool
is_counted (sack_chunk k) = true
is_counted (cookie_echo_chunk cookie) = true
is_counted chunk = false

typed_counted : (i : Item) (t : ChunkTree) → IsChunk i t → ((i.first == 3) || (i.first == 10)) ≡ is_counted t
typed_counted i (data_chunk tsn immediate f) h = rw h.kind refl
typed_counted i (init_chunk init) h = rw h.kind refl
typed_counted i (init_ack_chunk init) h = rw h.kind refl
typed_counted i (sack_chunk sack) h = rw h.kind refl
typed_counted i (heartbeat_request_chunk parameters) h = rw h.kind refl
typed_counted i (heartbeat_ack_chunk parameters) h = rw h.kind refl
typed_counted i (abort_chunk reflected causes) h = rw h.kind refl
typed_counted i (shutdown_chunk tsn) h = rw h.kind refl
typed_counted i shutdown_ack_chunk h = rw h.kind refl
typed_counted i (error_chunk causes) h = rw h.kind refl
typed_counted i (cookie_echo_chunk cookie) h = rw h.kind refl
typed_counted i cookie_ack_chunk h = rw h.kind refl
typed_counted i (shutdown_complete_chunk reflected) h = rw h.kind refl
typed_counted i (idata_chunk tsn immediate f) h = rw h.kind refl
typed_counted i (re_config_chunk parameters) h = rw h.kind refl
typed_counted i (forward_tsn_chunk tsn skipped) h = rw h.kind refl
typed_counted i (i_forward_tsn_chunk tsn skipped) h = rw h.kind refl
typed_counted i (unknown_chunk typ flags value) h = rw (h.kind, no_known typ 3 h.of_its_type refl, no_known typ 10 h.of_its_type refl) refl

-- another chunk doesn't count
pub passed_over : (n : ℕ) (i : Item) (t : ChunkTree) (left : List ChunkTree) → IsChunk i t → ((i.first == 3) || (i.first == 10)) ≡ false → has_more_counted n (t ∷ left) ≡ has_more_counted n left
passed_over n i t left h e = go n t (sym (typed_counted i t h) ∙ e)
  where
    go : (n : ℕ) (t : ChunkTree) → is_counted t ≡ false → has_more_counted n (t ∷ left) ≡ has_more_counted n left
    go n (sack_chunk k) is = cc
    go n (cookie_echo_chunk cookie) is = cc
    go zero t is = refl
    go (suc n) t is = refl
