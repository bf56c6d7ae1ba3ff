-- For laws of what packets hold: a fact of each chunk of a packet, as chunks are put in and as one is looked up.
use Rattle.std.proofs.Common.{◌≡◌, ℕ, zero, suc, Bool, true, false, Option, Some, None, List, [], ◌∷◌, ◌++◌, slice_get, All, ap, subst}
use Rattle.std.proofs.lemmas.List.Elements.{All-head, All-push, All-tail}
use Rattle.sctp_packet.specs.Chunk.{ChunkTree}
use Rattle.spec_endpoint.specs.Packets.{PacketDraft, fits, added_if, add, add_all}

-- ---- chunks that are put into a packet, a fact of its tag and the chunk

module _ (Q : ℕ → ChunkTree → Type 0) where
  added_by : (b : Bool) (p : PacketDraft) (c : ChunkTree) → All (Q p.tag) p.chunks → Q p.tag c → All (Q (added_if b c p).tag) (added_if b c p).chunks
  added_by true p c h q = All-push (Q p.tag) p.chunks c h q
  added_by false p c h q = h

  pub holds_added : (p : PacketDraft) (c : ChunkTree) → All (Q p.tag) p.chunks → Q p.tag c → All (Q (add c p).tag) (add c p).chunks
  holds_added p c h q = added_by (fits p c) p c h q

  pub holds_all_added : (cs : List ChunkTree) (p : PacketDraft) → All (Q p.tag) p.chunks → ((tag : ℕ) → All (Q tag) cs)
      → All (Q (add_all cs p).tag) (add_all cs p).chunks
  holds_all_added [] p h f = h
  holds_all_added (c ∷ cs) p h f =
      holds_all_added cs (add c p) (holds_added p c h (All-head (Q p.tag) c cs (f p.tag))) (λ tag. All-tail (Q tag) c cs (f tag))

-- ---- one of a list

pub all_at : {A : Type 0} (P : A → Type 0) (before behind : List A) (x : A) → All P (before ++ x ∷ behind) → P x
all_at P [] behind x h = All-head P x behind h
all_at P (y ∷ before) behind x h = all_at P before behind x (All-tail P y (before ++ x ∷ behind) h)

pub all_get : {A : Type 0} (P : A → Type 0) (xs : List A) (n : ℕ) (x : A) → slice_get xs n ≡ Some x → All P xs → P x
all_get P [] n x e h = cc
all_get {A} P (y ∷ ys) zero x e h = subst P (ap (λ (o : Option A). elim o [ None ↦ x | Some z ↦ z ]) e) (All-head P y ys h)
all_get P (y ∷ ys) (suc n) x e h = all_get P ys n x e (All-tail P y ys h)
