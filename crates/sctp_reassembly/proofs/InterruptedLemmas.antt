-- What a call on one stream leaves where memory runs out before its end.
use Rattle.std.proofs.Common.{◌≡◌, ℕ, suc, ◌⊎◌, Bool, false, cond, nat_lt, Option, Some, List, [], ◌∷◌, ◌++◌, refl, ap, sym, ◌∙◌, append_assoc, append-nil, inr}
use Rattle.std.specs.List.{find}
use Rattle.std.specs.Prelude.{Result, Ok, Err, OnErr}
use Rattle.sctp_serial.specs.Messages.{Message}
use Rattle.sctp_fragments.specs.Runs.{with_item}
use Rattle.sctp_fragments.specs.Held.{Held, rank_of, intervals_of, is_in_turn, left_by, message_of_run}
use Rattle.sctp_reassembly.specs.Delivery.{OrderedStream, OrderedDelivery, at_rest, delivering, deliver_within, preceded_by}
use Rattle.sctp_reassembly.specs.ReassemblyStreams.{Entries, stream_at, with_stream, put_stream, set_stream}
use Rattle.sctp_reassembly.specs.InterruptedStreams.{losing_next, deliver_in_part, ordered_arrival_in_part}
use Rattle.sctp_reassembly.proofs.EntriesLemmas.{set_opened}

pub on_err : {T E P : Type 0} (r : Result T E) → P → OnErr r P
on_err (Ok x) p = tt
on_err (Err e) p = p

-- ---- messages in turn

-- what is done in part from here is done in part from the start
abbrev pub TurnsGoOn : ℕ → List Held → List Message → ℕ → List Held → List Message → Type 0
TurnsGoOn n hs ready first all before =
    (count : ℕ) → (total : ℕ) × (((deliver_in_part count n hs).stream ≡ (deliver_in_part total first all).stream) × (ready ++ (deliver_in_part count n hs).messages ≡ before ++ (deliver_in_part total first all).messages))

pub turns_begin : (n : ℕ) (hs : List Held) (ready : List Message) → TurnsGoOn n hs ready n hs ready
turns_begin n hs ready = λ count. (count, (refl, refl))

deliver_one : (count n : ℕ) (hs run : List Held) → find (is_in_turn n) (intervals_of hs) ≡ Some run → deliver_in_part (suc count) n hs ≡ preceded_by (message_of_run run) (deliver_in_part count (suc n) (left_by (is_in_turn n) hs))
deliver_one count n hs run is = ap (λ (o : Option (List Held)). losing_next (delivering o n hs (deliver_within count (suc n) (left_by (is_in_turn n) hs)))) is

pub turns_step : (n k : ℕ) (hs run new : List Held) (ready pushed : List Message) (m : Message) (first : ℕ) (all : List Held) (before : List Message) → find (is_in_turn n) (intervals_of hs) ≡ Some run → new ≡ left_by (is_in_turn n) hs
    → k ≡ suc n → pushed ≡ ready ++ m ∷ [] → m ≡ message_of_run run → TurnsGoOn n hs ready first all before → TurnsGoOn k new pushed first all before
turns_step n k hs run new ready pushed m first all before is left up made same h = λ count. go count (h (suc count))
  where
    here : (count : ℕ) → deliver_in_part count k new ≡ deliver_in_part count (suc n) (left_by (is_in_turn n) hs)
    here count = ap (λ (i : ℕ). deliver_in_part count i new) up ∙ ap (deliver_in_part count (suc n)) left

    go : (count : ℕ) → (total : ℕ) × (((deliver_in_part (suc count) n hs).stream ≡ (deliver_in_part total first all).stream) × (ready ++ (deliver_in_part (suc count) n hs).messages ≡ before ++ (deliver_in_part total first all).messages))
        → (total : ℕ) × (((deliver_in_part count k new).stream ≡ (deliver_in_part total first all).stream) × (pushed ++ (deliver_in_part count k new).messages ≡ before ++ (deliver_in_part total first all).messages))
    go count (total, (streams, messages)) =
        let one = deliver_one count n hs run is in
        let rest = deliver_in_part count (suc n) (left_by (is_in_turn n) hs) in (
          total,
          (
            ap (λ (d : OrderedDelivery). d.stream) (here count) ∙ (sym (ap (λ (d : OrderedDelivery). d.stream) one) ∙ streams),
            ap (λ (d : OrderedDelivery). pushed ++ d.messages) (here count)
                ∙ (ap (λ (t : List Message). t ++ rest.messages) (made ∙ ap (λ (t : Message). ready ++ t ∷ []) same)
                ∙ (append_assoc ready (message_of_run run ∷ []) rest.messages
                ∙ (sym (ap (λ (d : OrderedDelivery). ready ++ d.messages) one) ∙ messages))),
          ),
        )

pub turns_end : (n : ℕ) (hs new : List Held) (ready pushed : List Message) (first : ℕ) (all : List Held) (before : List Message) → new ≡ left_by (is_in_turn n) hs → pushed ≡ ready → TurnsGoOn n hs ready first all before
    → (count : ℕ) × (((let s : OrderedStream = record { next = n; held = new } in s) ≡ (deliver_in_part count first all).stream) × (pushed ≡ before ++ (deliver_in_part count first all).messages))
turns_end n hs new ready pushed first all before left made h = go (h 0)
  where
    state : List Held → OrderedStream
    state t = record { next = n; held = t }

    go : (total : ℕ) × (((deliver_in_part 0 n hs).stream ≡ (deliver_in_part total first all).stream) × (ready ++ [] ≡ before ++ (deliver_in_part total first all).messages))
        → (count : ℕ) × ((state new ≡ (deliver_in_part count first all).stream) × (pushed ≡ before ++ (deliver_in_part count first all).messages))
    go (total, (streams, messages)) = (total, (ap state left ∙ streams, made ∙ (sym (append-nil ready) ∙ messages)))

-- a fragment that is held by now
pub arrived_in_part : (x : Held) (s t new : OrderedStream) (hs : List Held) (before ready : List Message) → nat_lt x.number s.next ≡ false → t ≡ s → hs ≡ with_item rank_of x t.held
    → (count : ℕ) × ((new ≡ (deliver_in_part count t.next hs).stream) × (ready ≡ before ++ (deliver_in_part count t.next hs).messages))
    → (steps : ℕ) × ((new ≡ (ordered_arrival_in_part steps x s).stream) × (ready ≡ before ++ (ordered_arrival_in_part steps x s).messages))
arrived_in_part x s t new hs before ready due same held (count, (stream, messages)) =
    let whole : deliver_in_part count t.next hs ≡ ordered_arrival_in_part (suc count) x s =
    ap (deliver_in_part count t.next) held
    ∙ (ap (λ (q : OrderedStream). deliver_in_part count q.next (with_item rank_of x q.held)) same
    ∙ sym (ap (λ (b : Bool). cond b (at_rest s.next s.held) (deliver_in_part count s.next (with_item rank_of x s.held))) due)) in
    (suc count, (stream ∙ ap (λ (d : OrderedDelivery). d.stream) whole, messages ∙ ap (λ (d : OrderedDelivery). before ++ d.messages) whole))

-- ---- one stream of a map

pub set_in_part : {S : Type 0} (fresh : S) (id : ℕ) (opened old new : Entries S) (v w : S) (op : ℕ → S → S) (made : ℕ → S → List Message) (before ready : List Message) → new ≡ put_stream id w opened → opened ≡ with_stream fresh id old → v ≡ stream_at fresh id old
    → (steps : ℕ) × ((w ≡ op steps v) × (ready ≡ before ++ made steps v))
    → ((new ≡ old) × (ready ≡ before)) ⊎ ((steps : ℕ) × ((new ≡ set_stream fresh id (op steps (stream_at fresh id old)) old) × (ready ≡ before ++ made steps (stream_at fresh id old))))
set_in_part {S = S} fresh id opened old new v w op made before ready written is at (steps, (stream, messages)) =
    inr (steps, (set_opened fresh id opened old new v w (op steps) written is at stream, messages ∙ ap (λ (t : S). before ++ made steps t) at))
