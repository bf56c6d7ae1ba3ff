-- The bytes of all streams when one stream changes.
use Rattle.std.proofs.Common.{◌≡◌, ℕ, ◌+◌, ◌-◌, ◌≤◌, Bool, true, false, cond, List, [], ◌∷◌, Option, Some, None, Less, Equal, Greater, refl, ap, sym, ◌∙◌, arith}
use Rattle.std.specs.Prelude.{unwrap_or, is_some, option_map, IsSome}
use Rattle.std.specs.Ordering.{nat_cmp, is_eq, match_ordering}
use Rattle.std.specs.declared.cmp.Ordering.{Ordering}
use Rattle.std.specs.List.Sorted.{IsStrictlySortedBy}
use Rattle.std.specs.Map.{lookup, set_value, keys_of}
use Rattle.std.specs.BTreeMap.{is_at, insert_entry}
use Rattle.std.proofs.lemmas.Cmp.{nat_cmp_total}
use Rattle.std.proofs.lemmas.Map.Entries.{sum_by-set_value, sum_by-insert_entry}
use Rattle.sctp_tx_queue.specs.SendQueue.{Stream, Streams, Entries, amount_of, total_of, Queued, blank_stream, blank, put_stream, push, with_stream, stream, sendable}
use Rattle.sctp_tx_queue.specs.Produced.{advance, streams_after}
use Rattle.sctp_tx_queue.specs.declared.send_queue.stream.ResetStep.TheVariants.{Requested}
use Rattle.sctp_tx_queue.specs.Resets.{after_step}
use Rattle.sctp_serial.proofs.NumberLemmas.{at_itself}

-- the total after a write
pub total_written : (id : ℕ) (es : Entries) (v w : Stream) → Some v ≡ lookup (is_at (nat_cmp id)) es → total_of (set_value (is_at (nat_cmp id)) es w) + amount_of v ≡ total_of es + amount_of w
total_written id es v w at = sum_by-set_value amount_of (is_at (nat_cmp id)) es v w (sym at)

pub amount_at_most : (id : ℕ) (es : Entries) (v : Stream) → Some v ≡ lookup (is_at (nat_cmp id)) es → amount_of v ≤ total_of es
amount_at_most id es v at = omega (arith, total_written id es v (blank_stream 0 0) at)

pub total_opened : (id priority threshold : ℕ) (es : Entries) → IsStrictlySortedBy nat_cmp (keys_of es) → None ≡ lookup (is_at (nat_cmp id)) es → total_of (insert_entry nat_cmp es id (blank_stream priority threshold)) ≡ total_of es
total_opened id priority threshold es sorted none =
    let sums = sum_by-insert_entry amount_of nat_cmp_total es id (blank_stream priority threshold) sorted in
    let none_there : unwrap_or (option_map amount_of (lookup (is_at (nat_cmp id)) es)) 0 ≡ 0 = ap (λ o. unwrap_or (option_map amount_of o) 0) (sym none) in
    omega (arith, sums, none_there)

-- a write of what is there, or where nothing is
pub written_same : {X : Type 0} (test : ℕ → Bool) (v : X) (es : List (ℕ × X)) → Some v ≡ lookup test es → set_value test es v ≡ es
written_same test v [] at = refl
written_same test v (e ∷ es) at = go (test e.0) at (written_same test v es)
  where
    go : (b : Bool) → Some v ≡ cond b (Some e.1) (lookup test es) → (Some v ≡ lookup test es → set_value test es v ≡ es) → cond b ((e.0, v) ∷ es) (e ∷ set_value test es v) ≡ e ∷ es
    go true at ih = ap (λ x. (e.0, x) ∷ es) (inside at)
      where
        inside : Some v ≡ Some e.1 → v ≡ e.1
        inside h = cc
    go false at ih = ap (λ xs. e ∷ xs) (ih at)

pub written_nowhere : {X : Type 0} (test : ℕ → Bool) (v : X) (es : List (ℕ × X)) → None ≡ lookup test es → set_value test es v ≡ es
written_nowhere test v [] at = refl
written_nowhere test v (e ∷ es) at = go (test e.0) at (written_nowhere test v es)
  where
    go : (b : Bool) → None ≡ cond b (Some e.1) (lookup test es) → (None ≡ lookup test es → set_value test es v ≡ es) → cond b ((e.0, v) ∷ es) (e ∷ set_value test es v) ≡ e ∷ es
    go true at ih = absurd (cc)
    go false at ih = ap (λ xs. e ∷ xs) (ih at)

pub put_nowhere : (id : ℕ) (s : Stream) (ss : Streams) → None ≡ lookup (is_at (nat_cmp id)) ss.entries → put_stream id s ss ≡ ss
put_nowhere id s ss at = ap (λ (es : Entries). let r : Streams = record ss { entries = es } in r) (written_nowhere (is_at (nat_cmp id)) s ss.entries at)

pub put_same : (id : ℕ) (s : Stream) (ss : Streams) → Some s ≡ lookup (is_at (nat_cmp id)) ss.entries → put_stream id s ss ≡ ss
put_same id s ss at = ap (λ (es : Entries). let r : Streams = record ss { entries = es } in r) (written_same (is_at (nat_cmp id)) s ss.entries at)

pub lookup_written : {X : Type 0} (test : ℕ → Bool) (v : X) (es : List (ℕ × X)) → IsSome (lookup test es) → lookup test (set_value test es v) ≡ Some v
lookup_written test v [] there = absurd (nothing there)
  where
    nothing : false ≡ true → ⊥
    nothing h = cc
lookup_written test v (e ∷ es) there = go (test e.0) refl there (lookup_written test v es)
  where
    go : (b : Bool) → test e.0 ≡ b → IsSome (cond b (Some e.1) (lookup test es)) → (IsSome (lookup test es) → lookup test (set_value test es v) ≡ Some v) → lookup test (cond b ((e.0, v) ∷ es) (e ∷ set_value test es v)) ≡ Some v
    go true h there ih = ap (λ t. cond t (Some v) (lookup test es)) h
    go false h there ih = ap (λ t. cond t (Some e.1) (lookup test (set_value test es v))) h ∙ ih there

-- the stream is what was put there
pub stream_put : (id : ℕ) (s : Stream) (ss : Streams) → IsSome (lookup (is_at (nat_cmp id)) ss.entries) → stream id (put_stream id s ss) ≡ s
stream_put id s ss there = ap (λ o. unwrap_or o (blank_stream ss.default_priority ss.default_threshold)) (lookup_written (is_at (nat_cmp id)) s ss.entries there)

-- what changes no priority changes none where it is put
pub priority_put : (id : ℕ) (f : Stream → Stream) (ss : Streams) → ((s : Stream) → (f s).priority ≡ s.priority) → (stream id (put_stream id (f (stream id ss)) ss)).priority ≡ (stream id ss).priority
priority_put id f ss keeps = go (lookup (is_at (nat_cmp id)) ss.entries) refl
  where
    go : (o : Option Stream) → lookup (is_at (nat_cmp id)) ss.entries ≡ o → (stream id (put_stream id (f (stream id ss)) ss)).priority ≡ (stream id ss).priority
    go None e = ap (λ (x : Streams). (stream id x).priority) (put_nowhere id (f (stream id ss)) ss (sym e))
    go (Some s) e = ap (λ (t : Stream). t.priority) (stream_put id (f (stream id ss)) ss (ap is_some e)) ∙ keeps (stream id ss)

-- the stream where it is there, and where it isn't
pub stream_there : (id : ℕ) (s : Stream) (ss : Streams) → Some s ≡ lookup (is_at (nat_cmp id)) ss.entries → stream id ss ≡ s
stream_there id s ss at = ap (λ o. unwrap_or o (blank ss)) (sym at)

pub stream_nowhere : (id : ℕ) (ss : Streams) → None ≡ lookup (is_at (nat_cmp id)) ss.entries → stream id ss ≡ blank ss
stream_nowhere id ss at = ap (λ o. unwrap_or o (blank ss)) (sym at)

-- what a stream is after a change, where it is there, and where it isn't
pub changed_there : (id : ℕ) (s t : Stream) (ss : Streams) → Some s ≡ lookup (is_at (nat_cmp id)) ss.entries → stream id (put_stream id t ss) ≡ t
changed_there id s t ss at = stream_put id t ss (ap is_some (sym at))

pub changed_nowhere : (id : ℕ) (t : Stream) (ss : Streams) → None ≡ lookup (is_at (nat_cmp id)) ss.entries → stream id (put_stream id t ss) ≡ blank ss
changed_nowhere id t ss at = ap (λ x. stream id x) (put_nowhere id t ss at) ∙ stream_nowhere id ss at

-- a stream that was not there is put there at once
pub inserted_written : (id : ℕ) (a b : Stream) (es : Entries) → None ≡ lookup (is_at (nat_cmp id)) es → set_value (is_at (nat_cmp id)) (insert_entry nat_cmp es id a) b ≡ insert_entry nat_cmp es id b
inserted_written id a b [] none = ap (λ t. cond t ((id, b) ∷ []) ((id, a) ∷ [])) (at_itself id)
inserted_written id a b (e ∷ es) none = go (nat_cmp id e.0) refl none (inserted_written id a b es)
  where
    go : (o : Ordering) → nat_cmp id e.0 ≡ o → None ≡ cond (is_eq o) (Some e.1) (lookup (is_at (nat_cmp id)) es)
        → (None ≡ lookup (is_at (nat_cmp id)) es → set_value (is_at (nat_cmp id)) (insert_entry nat_cmp es id a) b ≡ insert_entry nat_cmp es id b)
        → set_value (is_at (nat_cmp id)) (match_ordering o ((id, a) ∷ e ∷ es) ((e.0, a) ∷ es) (e ∷ insert_entry nat_cmp es id a)) b ≡ match_ordering o ((id, b) ∷ e ∷ es) ((e.0, b) ∷ es) (e ∷ insert_entry nat_cmp es id b)
    go Less q none ih = ap (λ t. cond t ((id, b) ∷ e ∷ es) ((id, a) ∷ set_value (is_at (nat_cmp id)) (e ∷ es) b)) (at_itself id)
    go Equal q none ih = absurd (cc)
    go Greater q none ih = ap (λ t. cond (is_eq t) ((e.0, b) ∷ insert_entry nat_cmp es id a) (e ∷ set_value (is_at (nat_cmp id)) (insert_entry nat_cmp es id a) b)) q ∙ ap (λ xs. e ∷ xs) (ih none)

-- a stream that goes into a request has nothing to send
pub requested_sendable : (id : ℕ) (ss : Streams) → sendable (stream id (put_stream id (after_step Requested (stream id ss)) ss)) ≡ 0
requested_sendable id ss = go (lookup (is_at (nat_cmp id)) ss.entries) refl
  where
    go : (o : Option Stream) → lookup (is_at (nat_cmp id)) ss.entries ≡ o → sendable (stream id (put_stream id (after_step Requested (stream id ss)) ss)) ≡ 0
    go None e = ap sendable (changed_nowhere id (after_step Requested (stream id ss)) ss (sym e))
    go (Some s) e = ap sendable (changed_there id s (after_step Requested (stream id ss)) ss (sym e))

pub total_inserted : (id : ℕ) (s : Stream) (es : Entries) → IsStrictlySortedBy nat_cmp (keys_of es) → None ≡ lookup (is_at (nat_cmp id)) es → total_of (insert_entry nat_cmp es id s) ≡ total_of es + amount_of s
total_inserted id s es sorted none =
    let sums = sum_by-insert_entry amount_of nat_cmp_total es id s sorted in
    let none_there : unwrap_or (option_map amount_of (lookup (is_at (nat_cmp id)) es)) 0 ≡ 0 = ap (λ o. unwrap_or (option_map amount_of o) 0) (sym none) in
    omega (arith, sums, none_there)

-- the first message of a stream that is made with it
pub first_is : (id : ℕ) (m : Queued) (ss : Streams) (es : Entries) (threshold : ℕ) → None ≡ lookup (is_at (nat_cmp id)) ss.entries → es ≡ insert_entry nat_cmp ss.entries id (push m (blank ss)) → threshold ≡ ss.total_threshold
    → (let r : Streams = record ss { entries = es; total_threshold = threshold } in r) ≡ put_stream id (push m (stream id ss)) (with_stream id ss)
first_is id m ss es threshold none is_entries is_threshold =
    ap (λ e. streams e threshold) is_entries ∙ ap (λ t. streams (insert_entry nat_cmp ss.entries id (push m (blank ss))) t) is_threshold ∙ sym back
  where
    streams : Entries → ℕ → Streams
    streams e t = record ss { entries = e; total_threshold = t }

    back : put_stream id (push m (stream id ss)) (with_stream id ss) ≡ streams (insert_entry nat_cmp ss.entries id (push m (blank ss))) ss.total_threshold
    back =
        ap (λ s. put_stream id (push m s) (with_stream id ss)) (stream_nowhere id ss none)
        ∙ ap (λ (o : Option Stream). put_stream id (push m (blank ss)) (cond (is_some o) ss (streams (insert_entry nat_cmp ss.entries id (blank ss)) ss.total_threshold))) (sym none)
        ∙ ap (λ e. streams e ss.total_threshold) (inserted_written id (blank ss) (push m (blank ss)) ss.entries none)

-- the total after a fragment
pub total_after : (id size bytes amount : ℕ) (s : Stream) (ss : Streams) → Some s ≡ lookup (is_at (nat_cmp id)) ss.entries → amount_of (advance size s) + bytes ≡ amount_of s → amount ≡ total_of ss.entries
    → amount - bytes ≡ total_of (streams_after id size ss).entries
total_after id size bytes amount s ss at whole is =
    let sums = total_written id ss.entries s (advance size (stream id ss)) at in
    let same = ap (λ t. amount_of (advance size t)) (stream_there id s ss at) in
    omega (arith, sums, same, whole, is, amount_at_most id ss.entries s at)
