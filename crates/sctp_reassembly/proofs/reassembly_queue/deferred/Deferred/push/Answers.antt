use Rattle.std.proofs.Common.{◌+◌, ◌∷◌, [], map, ap, sym, subst, ◌∙◌, arith}
use Rattle.std.proofs.lemmas.List.{map-append}
use Rattle.std.proofs.lemmas.List.Sums.{sum_by_push}
use Rattle.sctp_reassembly.specs.ReassemblyQueue.{IsDeferred, waiting_bytes, waiting_entries, waiting_fragments}
use Rattle.sctp_reassembly.specs.Waiting.{waiting_of}
use Rattle.sctp_reassembly.proofs.WaitingLemmas.{small_more}
use Rattle.sctp_reassembly.proofs.reassembly_queue.deferred.Deferred.push.Goals as goal

pub invariant_of-self-2 : goal.invariant_of-self-2
invariant_of-self-2 c =
    let made = ap (map waiting_of) c.in_ok-push_back.ensures.items ∙ map-append waiting_of c.self.inside.waiting.items (c.args.waiting ∷ []) in
    subst (λ ws. IsDeferred (c.self.inside.bytes + c.bytes_of-bytes.result) (c.self.inside.fragments + c.fragments_of-fragments.result) c.saturating_add-self-inside.result ws) (sym made)
    (record {
      counted = omega (arith, c.self.invariant.counted, c.bytes_of-bytes.ensures, sum_by_push waiting_bytes (map waiting_of c.self.inside.waiting.items) (waiting_of c.args.waiting));
      fragments_counted = omega (arith, c.self.invariant.fragments_counted, c.fragments_of-fragments.ensures, sum_by_push waiting_fragments (map waiting_of c.self.inside.waiting.items) (waiting_of c.args.waiting));
      entered = omega (arith, c.self.invariant.entered, c.entries_of-entries.ensures, c.saturating_add-self-inside.ensures, sum_by_push waiting_entries (map waiting_of c.self.inside.waiting.items) (waiting_of c.args.waiting));
      small = small_more (map waiting_of c.self.inside.waiting.items) (waiting_of c.args.waiting) c.self.invariant.small c.requires.small;
    })
