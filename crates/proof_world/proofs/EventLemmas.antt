-- Lists of events: the packets in them, and the entries that the log has of them.
use Rattle.std.proofs.Common.{◌≡◌, ℕ, suc, ◌+◌, ◌≤◌, Bool, true, false, List, [], ◌∷◌, ◌++◌, length, map, refl, sym, ap, subst, ◌∙◌, arith}
use Rattle.std.specs.Prelude.{All}
use Rattle.std.specs.List.{flat_map}
use Rattle.std.proofs.lemmas.List.Elements.{All-nil, All-cons, All-head, All-tail}
use Rattle.sctp_state.specs.Events.{Event, SendPacket, OnConnected, OnClosed, OnConnectionRestarted, OnAborted, OnError, OnBufferedAmountLow, OnTotalBufferedAmountLow, OnStreamsResetFailed, OnStreamsResetPerformed, OnIncomingStreamReset, OnLifecycleMessageFullySent, OnLifecycleMessageMaybeExpired, OnLifecycleMessageExpired, OnLifecycleMessageDelivered, OnLifecycleEnd}
use Rattle.spec_endpoint.specs.Association.{Packing}
use Rattle.spec_endpoint.specs.Laws.{endings}
use Rattle.proof_endpoint.specs.Mapped.{Mapping, Carried, map_event, as_carried}
use Rattle.proof_endpoint.specs.ReadBack.{ReadsBack, CanBeRead}
use Rattle.proof_pair.specs.Trace.{has_connected}
use Rattle.spec_world.specs.Observations.{End, A, B, same_end, none_unless, Entry, EmittedPacket, EmittedEvent, connected_by}
use Rattle.spec_world.specs.World.{emitted_entries}
use Rattle.spec_endpoint.specs.Packets.{packets_in}
use Rattle.proof_world.specs.Traces.{emitted_in}
use Rattle.proof_world.specs.Consistent.{association_ends_by}

-- ---- packets

module _ (f : Mapping Carried (List ℕ)) where
  abbrev pub mapped : List (Event Carried) → List (Event (List ℕ))
  mapped es = map (map_event f) es

  pub packets_mapped : (es : List (Event Carried)) → packets_in (mapped es) ≡ map f.of (packets_in es)
  packets_mapped [] = refl
  packets_mapped (SendPacket p ∷ es) = ap (λ (ps : List (List ℕ)). f.of p ∷ ps) (packets_mapped es)
  packets_mapped (OnConnected ∷ es) = packets_mapped es
  packets_mapped (OnClosed ∷ es) = packets_mapped es
  packets_mapped (OnConnectionRestarted ∷ es) = packets_mapped es
  packets_mapped (OnAborted kind text ∷ es) = packets_mapped es
  packets_mapped (OnError kind text ∷ es) = packets_mapped es
  packets_mapped (OnBufferedAmountLow id ∷ es) = packets_mapped es
  packets_mapped (OnTotalBufferedAmountLow ∷ es) = packets_mapped es
  packets_mapped (OnStreamsResetFailed ids ∷ es) = packets_mapped es
  packets_mapped (OnStreamsResetPerformed ids ∷ es) = packets_mapped es
  packets_mapped (OnIncomingStreamReset ids ∷ es) = packets_mapped es
  packets_mapped (OnLifecycleMessageFullySent id ∷ es) = packets_mapped es
  packets_mapped (OnLifecycleMessageMaybeExpired id ∷ es) = packets_mapped es
  packets_mapped (OnLifecycleMessageExpired id ∷ es) = packets_mapped es
  packets_mapped (OnLifecycleMessageDelivered id ∷ es) = packets_mapped es
  packets_mapped (OnLifecycleEnd id ∷ es) = packets_mapped es

-- ---- entries

next : (x : End) (n k : ℕ) (fs : List (Event (List ℕ))) → emitted_entries x (n + 1 + k) fs ≡ emitted_entries x (n + suc k) fs
next x n k fs = ap (λ (m : ℕ). emitted_entries x m fs) (omega arith)

start : (x : End) (n : ℕ) (fs : List (Event (List ℕ))) → emitted_entries x n fs ≡ emitted_entries x (n + 0) fs
start x n fs = ap (λ (m : ℕ). emitted_entries x m fs) (omega arith)

pub entries_both : (x : End) (n : ℕ) (es fs : List (Event (List ℕ))) → emitted_entries x n (es ++ fs) ≡ emitted_entries x n es ++ emitted_entries x (n + length (packets_in es)) fs
entries_both x n [] fs = start x n fs
entries_both x n (SendPacket p ∷ es) fs =
    ap (λ (l : List Entry). EmittedPacket x n ∷ l) (entries_both x (n + 1) es fs ∙ ap (λ (l : List Entry). emitted_entries x (n + 1) es ++ l) (next x n (length (packets_in es)) fs))
entries_both x n (OnConnected ∷ es) fs = ap (λ (l : List Entry). EmittedEvent x OnConnected ∷ l) (entries_both x n es fs)
entries_both x n (OnClosed ∷ es) fs = ap (λ (l : List Entry). EmittedEvent x OnClosed ∷ l) (entries_both x n es fs)
entries_both x n (OnConnectionRestarted ∷ es) fs = ap (λ (l : List Entry). EmittedEvent x OnConnectionRestarted ∷ l) (entries_both x n es fs)
entries_both x n (OnAborted kind text ∷ es) fs = ap (λ (l : List Entry). EmittedEvent x (OnAborted kind text) ∷ l) (entries_both x n es fs)
entries_both x n (OnError kind text ∷ es) fs = ap (λ (l : List Entry). EmittedEvent x (OnError kind text) ∷ l) (entries_both x n es fs)
entries_both x n (OnBufferedAmountLow id ∷ es) fs = ap (λ (l : List Entry). EmittedEvent x (OnBufferedAmountLow id) ∷ l) (entries_both x n es fs)
entries_both x n (OnTotalBufferedAmountLow ∷ es) fs = ap (λ (l : List Entry). EmittedEvent x OnTotalBufferedAmountLow ∷ l) (entries_both x n es fs)
entries_both x n (OnStreamsResetFailed ids ∷ es) fs = ap (λ (l : List Entry). EmittedEvent x (OnStreamsResetFailed ids) ∷ l) (entries_both x n es fs)
entries_both x n (OnStreamsResetPerformed ids ∷ es) fs = ap (λ (l : List Entry). EmittedEvent x (OnStreamsResetPerformed ids) ∷ l) (entries_both x n es fs)
entries_both x n (OnIncomingStreamReset ids ∷ es) fs = ap (λ (l : List Entry). EmittedEvent x (OnIncomingStreamReset ids) ∷ l) (entries_both x n es fs)
entries_both x n (OnLifecycleMessageFullySent id ∷ es) fs = ap (λ (l : List Entry). EmittedEvent x (OnLifecycleMessageFullySent id) ∷ l) (entries_both x n es fs)
entries_both x n (OnLifecycleMessageMaybeExpired id ∷ es) fs = ap (λ (l : List Entry). EmittedEvent x (OnLifecycleMessageMaybeExpired id) ∷ l) (entries_both x n es fs)
entries_both x n (OnLifecycleMessageExpired id ∷ es) fs = ap (λ (l : List Entry). EmittedEvent x (OnLifecycleMessageExpired id) ∷ l) (entries_both x n es fs)
entries_both x n (OnLifecycleMessageDelivered id ∷ es) fs = ap (λ (l : List Entry). EmittedEvent x (OnLifecycleMessageDelivered id) ∷ l) (entries_both x n es fs)
entries_both x n (OnLifecycleEnd id ∷ es) fs = ap (λ (l : List Entry). EmittedEvent x (OnLifecycleEnd id) ∷ l) (entries_both x n es fs)

pub same_itself : (x : End) → same_end x x ≡ true
same_itself A = refl
same_itself B = refl

put : (x : End) (e : Entry) (l m : List Entry) (b : Bool) → b ≡ true → l ≡ m → none_unless b e ++ l ≡ e ∷ m
put x e l m true is same = ap (λ (k : List Entry). e ∷ k) same
put x e l m false is same = cc

skip : (e : Entry) (l : List Entry) (b : Bool) → b ≡ false → l ≡ [] → none_unless b e ++ l ≡ []
skip e l true is same = cc
skip e l false is same = same

-- an end's own entries
pub emitted_own : (x : End) (n : ℕ) (es : List (Event (List ℕ))) → emitted_in x (emitted_entries x n es) ≡ emitted_entries x n es
emitted_own x n [] = refl
emitted_own x n (SendPacket p ∷ es) = put x (EmittedPacket x n) _ _ (same_end x x) (same_itself x) (emitted_own x (n + 1) es)
emitted_own x n (OnConnected ∷ es) = put x (EmittedEvent x OnConnected) _ _ (same_end x x) (same_itself x) (emitted_own x n es)
emitted_own x n (OnClosed ∷ es) = put x (EmittedEvent x OnClosed) _ _ (same_end x x) (same_itself x) (emitted_own x n es)
emitted_own x n (OnConnectionRestarted ∷ es) = put x (EmittedEvent x OnConnectionRestarted) _ _ (same_end x x) (same_itself x) (emitted_own x n es)
emitted_own x n (OnAborted kind text ∷ es) = put x (EmittedEvent x (OnAborted kind text)) _ _ (same_end x x) (same_itself x) (emitted_own x n es)
emitted_own x n (OnError kind text ∷ es) = put x (EmittedEvent x (OnError kind text)) _ _ (same_end x x) (same_itself x) (emitted_own x n es)
emitted_own x n (OnBufferedAmountLow id ∷ es) = put x (EmittedEvent x (OnBufferedAmountLow id)) _ _ (same_end x x) (same_itself x) (emitted_own x n es)
emitted_own x n (OnTotalBufferedAmountLow ∷ es) = put x (EmittedEvent x OnTotalBufferedAmountLow) _ _ (same_end x x) (same_itself x) (emitted_own x n es)
emitted_own x n (OnStreamsResetFailed ids ∷ es) = put x (EmittedEvent x (OnStreamsResetFailed ids)) _ _ (same_end x x) (same_itself x) (emitted_own x n es)
emitted_own x n (OnStreamsResetPerformed ids ∷ es) = put x (EmittedEvent x (OnStreamsResetPerformed ids)) _ _ (same_end x x) (same_itself x) (emitted_own x n es)
emitted_own x n (OnIncomingStreamReset ids ∷ es) = put x (EmittedEvent x (OnIncomingStreamReset ids)) _ _ (same_end x x) (same_itself x) (emitted_own x n es)
emitted_own x n (OnLifecycleMessageFullySent id ∷ es) = put x (EmittedEvent x (OnLifecycleMessageFullySent id)) _ _ (same_end x x) (same_itself x) (emitted_own x n es)
emitted_own x n (OnLifecycleMessageMaybeExpired id ∷ es) = put x (EmittedEvent x (OnLifecycleMessageMaybeExpired id)) _ _ (same_end x x) (same_itself x) (emitted_own x n es)
emitted_own x n (OnLifecycleMessageExpired id ∷ es) = put x (EmittedEvent x (OnLifecycleMessageExpired id)) _ _ (same_end x x) (same_itself x) (emitted_own x n es)
emitted_own x n (OnLifecycleMessageDelivered id ∷ es) = put x (EmittedEvent x (OnLifecycleMessageDelivered id)) _ _ (same_end x x) (same_itself x) (emitted_own x n es)
emitted_own x n (OnLifecycleEnd id ∷ es) = put x (EmittedEvent x (OnLifecycleEnd id)) _ _ (same_end x x) (same_itself x) (emitted_own x n es)

-- of the other one it has none
pub emitted_other : (x y : End) → same_end x y ≡ false → (n : ℕ) (es : List (Event (List ℕ))) → emitted_in x (emitted_entries y n es) ≡ []
emitted_other x y d n [] = refl
emitted_other x y d n (SendPacket p ∷ es) = skip (EmittedPacket y n) _ (same_end x y) d (emitted_other x y d (n + 1) es)
emitted_other x y d n (OnConnected ∷ es) = skip (EmittedEvent y OnConnected) _ (same_end x y) d (emitted_other x y d n es)
emitted_other x y d n (OnClosed ∷ es) = skip (EmittedEvent y OnClosed) _ (same_end x y) d (emitted_other x y d n es)
emitted_other x y d n (OnConnectionRestarted ∷ es) = skip (EmittedEvent y OnConnectionRestarted) _ (same_end x y) d (emitted_other x y d n es)
emitted_other x y d n (OnAborted kind text ∷ es) = skip (EmittedEvent y (OnAborted kind text)) _ (same_end x y) d (emitted_other x y d n es)
emitted_other x y d n (OnError kind text ∷ es) = skip (EmittedEvent y (OnError kind text)) _ (same_end x y) d (emitted_other x y d n es)
emitted_other x y d n (OnBufferedAmountLow id ∷ es) = skip (EmittedEvent y (OnBufferedAmountLow id)) _ (same_end x y) d (emitted_other x y d n es)
emitted_other x y d n (OnTotalBufferedAmountLow ∷ es) = skip (EmittedEvent y OnTotalBufferedAmountLow) _ (same_end x y) d (emitted_other x y d n es)
emitted_other x y d n (OnStreamsResetFailed ids ∷ es) = skip (EmittedEvent y (OnStreamsResetFailed ids)) _ (same_end x y) d (emitted_other x y d n es)
emitted_other x y d n (OnStreamsResetPerformed ids ∷ es) = skip (EmittedEvent y (OnStreamsResetPerformed ids)) _ (same_end x y) d (emitted_other x y d n es)
emitted_other x y d n (OnIncomingStreamReset ids ∷ es) = skip (EmittedEvent y (OnIncomingStreamReset ids)) _ (same_end x y) d (emitted_other x y d n es)
emitted_other x y d n (OnLifecycleMessageFullySent id ∷ es) = skip (EmittedEvent y (OnLifecycleMessageFullySent id)) _ (same_end x y) d (emitted_other x y d n es)
emitted_other x y d n (OnLifecycleMessageMaybeExpired id ∷ es) = skip (EmittedEvent y (OnLifecycleMessageMaybeExpired id)) _ (same_end x y) d (emitted_other x y d n es)
emitted_other x y d n (OnLifecycleMessageExpired id ∷ es) = skip (EmittedEvent y (OnLifecycleMessageExpired id)) _ (same_end x y) d (emitted_other x y d n es)
emitted_other x y d n (OnLifecycleMessageDelivered id ∷ es) = skip (EmittedEvent y (OnLifecycleMessageDelivered id)) _ (same_end x y) d (emitted_other x y d n es)
emitted_other x y d n (OnLifecycleEnd id ∷ es) = skip (EmittedEvent y (OnLifecycleEnd id)) _ (same_end x y) d (emitted_other x y d n es)

-- ---- what can be read back

abbrev pub Readable : Carried → Type 0
Readable p = ReadsBack 65535 p

readable_of : (most : ℕ) (pack : Packing Carried) (p : Carried) → most ≤ 65535 → pack ≡ as_carried → CanBeRead pack most (SendPacket p) → Readable p
readable_of most pack p small is w =
    let made : p ≡ w.carried = w.made ∙ ap (λ (z : Packing Carried). z.write w.carried.header w.carried.is_summed w.carried.chunks) is in
    subst Readable (sym made) (record {
      header = w.reads_back.header;
      chunks = w.reads_back.chunks;
      cookies = w.reads_back.cookies;
      short = omega (arith, w.reads_back.short, small);
    })

pub all_readable : (most : ℕ) (pack : Packing Carried) → most ≤ 65535 → pack ≡ as_carried → (es : List (Event Carried)) → All (CanBeRead pack most) es
    → All Readable (packets_in es)
all_readable most pack small is [] h = All-nil Readable
all_readable most pack small is (SendPacket p ∷ es) h =
    All-cons Readable p (packets_in es) (readable_of most pack p small is (All-head (CanBeRead pack most) (SendPacket p) es h))
    (all_readable most pack small is es (All-tail (CanBeRead pack most) (SendPacket p) es h))
all_readable most pack small is (OnConnected ∷ es) h = all_readable most pack small is es (All-tail (CanBeRead pack most) OnConnected es h)
all_readable most pack small is (OnClosed ∷ es) h = all_readable most pack small is es (All-tail (CanBeRead pack most) OnClosed es h)
all_readable most pack small is (OnConnectionRestarted ∷ es) h = all_readable most pack small is es (All-tail (CanBeRead pack most) OnConnectionRestarted es h)
all_readable most pack small is (OnAborted kind text ∷ es) h = all_readable most pack small is es (All-tail (CanBeRead pack most) (OnAborted kind text) es h)
all_readable most pack small is (OnError kind text ∷ es) h = all_readable most pack small is es (All-tail (CanBeRead pack most) (OnError kind text) es h)
all_readable most pack small is (OnBufferedAmountLow id ∷ es) h = all_readable most pack small is es (All-tail (CanBeRead pack most) (OnBufferedAmountLow id) es h)
all_readable most pack small is (OnTotalBufferedAmountLow ∷ es) h = all_readable most pack small is es (All-tail (CanBeRead pack most) OnTotalBufferedAmountLow es h)
all_readable most pack small is (OnStreamsResetFailed ids ∷ es) h = all_readable most pack small is es (All-tail (CanBeRead pack most) (OnStreamsResetFailed ids) es h)
all_readable most pack small is (OnStreamsResetPerformed ids ∷ es) h = all_readable most pack small is es (All-tail (CanBeRead pack most) (OnStreamsResetPerformed ids) es h)
all_readable most pack small is (OnIncomingStreamReset ids ∷ es) h = all_readable most pack small is es (All-tail (CanBeRead pack most) (OnIncomingStreamReset ids) es h)
all_readable most pack small is (OnLifecycleMessageFullySent id ∷ es) h = all_readable most pack small is es (All-tail (CanBeRead pack most) (OnLifecycleMessageFullySent id) es h)
all_readable most pack small is (OnLifecycleMessageMaybeExpired id ∷ es) h = all_readable most pack small is es (All-tail (CanBeRead pack most) (OnLifecycleMessageMaybeExpired id) es h)
all_readable most pack small is (OnLifecycleMessageExpired id ∷ es) h = all_readable most pack small is es (All-tail (CanBeRead pack most) (OnLifecycleMessageExpired id) es h)
all_readable most pack small is (OnLifecycleMessageDelivered id ∷ es) h = all_readable most pack small is es (All-tail (CanBeRead pack most) (OnLifecycleMessageDelivered id) es h)
all_readable most pack small is (OnLifecycleEnd id ∷ es) h = all_readable most pack small is es (All-tail (CanBeRead pack most) (OnLifecycleEnd id) es h)

-- ---- what is read off them

module _ (f : Mapping Carried (List ℕ)) (x : End) where
  pub connected_emitted : (n : ℕ) (es : List (Event Carried)) → 1 ≤ length (flat_map (connected_by x) (emitted_entries x n (mapped f es))) → has_connected es ≡ true
  connected_emitted n [] h = absurd (omega (arith, h))
  connected_emitted n (SendPacket p ∷ es) h = connected_emitted (n + 1) es h
  connected_emitted n (OnConnected ∷ es) h = refl
  connected_emitted n (OnClosed ∷ es) h = connected_emitted n es h
  connected_emitted n (OnConnectionRestarted ∷ es) h = connected_emitted n es h
  connected_emitted n (OnAborted kind text ∷ es) h = connected_emitted n es h
  connected_emitted n (OnError kind text ∷ es) h = connected_emitted n es h
  connected_emitted n (OnBufferedAmountLow id ∷ es) h = connected_emitted n es h
  connected_emitted n (OnTotalBufferedAmountLow ∷ es) h = connected_emitted n es h
  connected_emitted n (OnStreamsResetFailed ids ∷ es) h = connected_emitted n es h
  connected_emitted n (OnStreamsResetPerformed ids ∷ es) h = connected_emitted n es h
  connected_emitted n (OnIncomingStreamReset ids ∷ es) h = connected_emitted n es h
  connected_emitted n (OnLifecycleMessageFullySent id ∷ es) h = connected_emitted n es h
  connected_emitted n (OnLifecycleMessageMaybeExpired id ∷ es) h = connected_emitted n es h
  connected_emitted n (OnLifecycleMessageExpired id ∷ es) h = connected_emitted n es h
  connected_emitted n (OnLifecycleMessageDelivered id ∷ es) h = connected_emitted n es h
  connected_emitted n (OnLifecycleEnd id ∷ es) h = connected_emitted n es h

  ended_more : (b : Bool) → b ≡ true → (m k : ℕ) (y : End) (l : List End) → m ≡ length (none_unless b y ++ l) → (length l ≡ 0 → k ≡ 0) → m ≡ 0 → 1 + k ≡ 0
  ended_more true is m k y l e f none = absurd (omega (arith, e, none))
  ended_more false is m k y l e f none = cc

  none_more : (k : ℕ) → k ≡ 0 → 0 + k ≡ 0
  none_more k e = omega (arith, e)

  pub ended_emitted : (n : ℕ) (es : List (Event Carried)) → length (flat_map (association_ends_by x) (emitted_entries x n (mapped f es))) ≡ 0 → endings es ≡ 0
  ended_emitted n [] h = refl
  ended_emitted n (SendPacket p ∷ es) h = none_more (endings es) (ended_emitted (n + 1) es h)
  ended_emitted n (OnConnected ∷ es) h = none_more (endings es) (ended_emitted n es h)
  ended_emitted n (OnClosed ∷ es) h = ended_more (same_end x x) (same_itself x) _ (endings es) x _ refl (ended_emitted n es) h
  ended_emitted n (OnConnectionRestarted ∷ es) h = none_more (endings es) (ended_emitted n es h)
  ended_emitted n (OnAborted kind text ∷ es) h = ended_more (same_end x x) (same_itself x) _ (endings es) x _ refl (ended_emitted n es) h
  ended_emitted n (OnError kind text ∷ es) h = none_more (endings es) (ended_emitted n es h)
  ended_emitted n (OnBufferedAmountLow id ∷ es) h = none_more (endings es) (ended_emitted n es h)
  ended_emitted n (OnTotalBufferedAmountLow ∷ es) h = none_more (endings es) (ended_emitted n es h)
  ended_emitted n (OnStreamsResetFailed ids ∷ es) h = none_more (endings es) (ended_emitted n es h)
  ended_emitted n (OnStreamsResetPerformed ids ∷ es) h = none_more (endings es) (ended_emitted n es h)
  ended_emitted n (OnIncomingStreamReset ids ∷ es) h = none_more (endings es) (ended_emitted n es h)
  ended_emitted n (OnLifecycleMessageFullySent id ∷ es) h = none_more (endings es) (ended_emitted n es h)
  ended_emitted n (OnLifecycleMessageMaybeExpired id ∷ es) h = none_more (endings es) (ended_emitted n es h)
  ended_emitted n (OnLifecycleMessageExpired id ∷ es) h = none_more (endings es) (ended_emitted n es h)
  ended_emitted n (OnLifecycleMessageDelivered id ∷ es) h = none_more (endings es) (ended_emitted n es h)
  ended_emitted n (OnLifecycleEnd id ∷ es) h = none_more (endings es) (ended_emitted n es h)
