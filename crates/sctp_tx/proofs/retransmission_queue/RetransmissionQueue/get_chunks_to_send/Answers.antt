use Rattle.std.proofs.Common.{◌≡◌, ◌<◌, ◌^◌, ℕ, List, [], ◌∷◌, ◌++◌, map, sym, subst, ap, ◌∙◌, arith}
use Rattle.sctp_chunk.specs.Chunk.{FragmentTree}
use Rattle.sctp_tx_outstanding.specs.Views.{chunk_of}
use Rattle.sctp_tx.specs.Flight.{FitWithin}
use Rattle.sctp_tx.specs.Sending.{send}
use Rattle.sctp_tx.specs.Taken.{taken_all}
use Rattle.sctp_tx.proofs.FitLemmas.{sent_fits}
use Rattle.sctp_tx.proofs.TakenLemmas.{listed}
use Rattle.sctp_tx.proofs.retransmission_queue.RetransmissionQueue.get_chunks_to_send.Goals as goal

pub returns-clause-chunks : goal.returns-clause-chunks
returns-clause-chunks c =
    let all : List (ℕ × FragmentTree) = (send c.args.now c.args.max_bytes c.args.self.now c.args.queue.now c.args.events.now).chunks in
    c.into_chunks.ensures ∙ (c.in_ok-send_into.ensures.packet
    ∙ (ap (λ (l : List (ℕ × FragmentTree)). taken_all (λ (d : ℕ × FragmentTree) (m : List (ℕ × FragmentTree)). m ++ d ∷ []) all l) c.new-list.ensures ∙ listed all []))

pub returns-clause-fits : goal.returns-clause-fits
returns-clause-fits c =
    let all : List (ℕ × FragmentTree) = (send c.args.now c.args.max_bytes c.args.self.now c.args.queue.now c.args.events.now).chunks in
    let is : map chunk_of c.into_chunks.result.items ≡ all =
    c.into_chunks.ensures ∙ (c.in_ok-send_into.ensures.packet
    ∙ (ap (λ (l : List (ℕ × FragmentTree)). taken_all (λ (d : ℕ × FragmentTree) (m : List (ℕ × FragmentTree)). m ++ d ∷ []) all l) c.new-list.ensures ∙ listed all [])) in
    let small : c.args.max_bytes < 2 ^ 64 = omega (arith, c.requires.small) in
    subst (λ (l : List (ℕ × FragmentTree)). FitWithin c.args.max_bytes c.args.self.now l) (sym is) (sent_fits c.args.now c.args.max_bytes c.args.self.now c.args.queue.now c.args.events.now small)
