use Rattle.std.proofs.Common.{◌≡◌, ℕ, Bool, true, false, cond, List, ◌++◌, length, ap, ◌∙◌, append_assoc}
use Rattle.std.specs.Prelude.{codes}
use Rattle.std.specs.Fmt.{decimal}
use Rattle.std.proofs.lemmas.List.{append-nil}
use Rattle.sctp_serial.specs.declared.api.StreamId.{StreamId}
use Rattle.sctp_chunk.specs.Chunk.{FragmentTree, idata_chunk}
use Rattle.sctp_chunk.specs.Written.{key_stream, ppid_or_fsn}
use Rattle.sctp_chunk.specs.Views.{fragment_tree}
use Rattle.sctp_chunk.specs.ChunkText.{chunk_text, fragment_flags_text, ppid_or_fsn_name}
use Rattle.sctp_chunk.proofs.ValueLemmas.{key_id}
use Rattle.sctp_chunk.proofs.data.IDataChunkDisplay.fmt.Goals as goal

-- the text, with the name and the number of the field that a beginning and another fragment have in common
abbrev text : ℕ → Bool → FragmentTree → List ℕ → ℕ → List ℕ
text tsn i f name number =
    codes "I-DATA, tsn=" ++ (decimal tsn ++ (codes ", stream_key=" ++ (decimal f.stream_id ++ (codes ", mid=" ++ (decimal f.mid
    ++ (name ++ (decimal number ++ (codes ", payload=" ++ (decimal (length f.payload) ++ (codes " bytes" ++ fragment_flags_text i f.is_unordered f.is_beginning f.is_end))))))))))

named : (tsn : ℕ) (i : Bool) (f : FragmentTree)
    → chunk_text (idata_chunk tsn i f) ≡ text tsn i f (codes ", " ++ (ppid_or_fsn_name f.is_beginning ++ codes "=")) (ppid_or_fsn f)
unfolding chunk_text
named tsn i f = simp (append_assoc, append-nil)

abbrev by_place : ℕ → Bool → FragmentTree → Bool → List ℕ
by_place tsn i f beginning = text tsn i f (codes ", " ++ (ppid_or_fsn_name beginning ++ codes "=")) (cond beginning f.ppid f.fsn)

at_beginning : (tsn : ℕ) (i : Bool) (f : FragmentTree) → f.is_beginning ≡ true → chunk_text (idata_chunk tsn i f) ≡ text tsn i f (codes ", ppid=") f.ppid
at_beginning tsn i f h = named tsn i f ∙ ap (by_place tsn i f) h

behind : (tsn : ℕ) (i : Bool) (f : FragmentTree) → f.is_beginning ≡ false → chunk_text (idata_chunk tsn i f) ≡ text tsn i f (codes ", fsn=") f.fsn
behind tsn i f h = named tsn i f ∙ ap (by_place tsn i f) h

pub returns-then-self-clause-writes : goal.returns-then-self-clause-writes
returns-then-self-clause-writes g c = λ plain ok.
    let w = c.write.ensures.writes plain ok in
    let stream : c.id.result.0 ≡ key_stream c.args.self.now.data.stream_key = ap (λ (id : StreamId). id.0) c.id.ensures ∙ key_id c.args.self.now.data.stream_key in
    let many : c.len.result ≡ length c.args.self.now.data.payload.items = c.len.ensures ∙ c.args.self.now.data.payload.ok.0 in
    rw (at_beginning c.args.self.now.tsn.0 c.args.self.now.immediate_ack (fragment_tree c.args.self.now.data) c.if-self.true) (rw (stream, many, c.shown_flags-flags.ensures) at w)

pub returns-clause-writes : goal.returns-clause-writes
returns-clause-writes g c = λ plain ok.
    let w = c.write-2.ensures.writes plain ok in
    let stream : c.id-2.result.0 ≡ key_stream c.args.self.now.data.stream_key = ap (λ (id : StreamId). id.0) c.id-2.ensures ∙ key_id c.args.self.now.data.stream_key in
    let many : c.len-2.result ≡ length c.args.self.now.data.payload.items = c.len-2.ensures ∙ c.args.self.now.data.payload.ok.0 in
    rw (behind c.args.self.now.tsn.0 c.args.self.now.immediate_ack (fragment_tree c.args.self.now.data) c.if-self.false) (rw (stream, many, c.shown_flags-flags.ensures) at w)
