use Rattle.std.proofs.Common.{rules, ◌≡◌, ℕ, true, [], ◌∷◌, ◌++◌, ap, sym, subst, ◌∙◌, arith}
use Rattle.sctp_fragments.specs.ReassemblyKey.{pair_rank}
use Rattle.sctp_serial.specs.Unwrapped.{origin}
use Rattle.sctp_reassembly.specs.Delivery.{fresh_unordered}
use Rattle.sctp_reassembly.specs.UnorderedByTsn.{NoneBelow}
use Rattle.sctp_reassembly.specs.ReassemblyStreams.{stream_at}
use Rattle.sctp_reassembly.proofs.NoteLemmas.{NotedOrDone, cut, forwarded_one, forwarded_next, none_left}
use Rattle.sctp_reassembly.proofs.unordered_by_tsn.forward_noted.Goals as goal

pub loop-id-init : goal.loop-id-init
loop-id-init c =
    let n = pair_rank c.args.first.number c.args.first.index in
    let number : c.args.first.number ≡ origin = search rules in
    let rest = subst (λ m. NoneBelow (pair_rank m c.args.first.index) c.take_below.new.notes.entries) (sym number) c.in-Some.ensures.rest in
    let parts = c.in-Some.ensures.parts ∙ ap (λ ks. ks ++ c.take_below.new.notes.entries) (sym c.into_iter-id-iterator.ensures.into_iter_gives.0) in
    record {
      same = search rules;
      fewer = search rules;
      fewer_fragments = search rules;
      noted = cut n c.args.notes.now.entries c.into_iter-id-iterator.result c.take_below.new.notes.entries c.args.streams.now parts rest;
    }

pub loop-id-preserved : goal.loop-id-preserved
loop-id-preserved c =
    let made : c.make_note.result ≡ true = search rules in
    let n = pair_rank c.args.first.number c.args.first.index in
    let note : ℕ × ℕ = (c.in-Some-2.field-0-0.now, c.in-Some-2.id.now) in
    let next : c.loop-id.id-iterator ≡ note ∷ c.next.new.self = search rules in
    record {
      same = forwarded_one n note.1 c.loop-id.streams c.forward_to.new.self c.forward_to.ensures.value ∙ c.loop-id.invariant.same;
      fewer = omega (arith, c.forward_to.ensures.bytes, c.loop-id.invariant.fewer);
      fewer_fragments = omega (arith, c.forward_to.ensures.fragments, c.loop-id.invariant.fewer_fragments);
      noted = λ all. forwarded_next n note c.next.new.self c.loop-id.notes.entries c.make_note.new.notes.entries c.loop-id.streams c.forward_to.new.self c.forward_to.ensures.value (c.make_note.ensures.kept made)
          (c.make_note.ensures.made made (stream_at fresh_unordered note.1 c.forward_to.new.self).held c.forward_to.ensures.some c.forward_to.ensures.none)
          (subst (λ rest. NotedOrDone n rest c.loop-id.notes.entries c.loop-id.streams) next (c.loop-id.invariant.noted all));
    }

pub returns-clause-done : goal.returns-clause-done
returns-clause-done c all t =
    let n = pair_rank c.args.first.number c.args.first.index in
    let ended : c.loop-id.id-iterator ≡ [] = search rules in
    (none_left n c.loop-id.notes.entries c.loop-id.streams c.rises.ensures (subst (λ rest. NotedOrDone n rest c.loop-id.notes.entries c.loop-id.streams) ended (c.loop-id.invariant.noted all))).0 ∙ c.loop-id.invariant.same

pub returns-clause-noted : goal.returns-clause-noted
returns-clause-noted c all t =
    let n = pair_rank c.args.first.number c.args.first.index in
    let ended : c.loop-id.id-iterator ≡ [] = search rules in
    (none_left n c.loop-id.notes.entries c.loop-id.streams c.rises.ensures (subst (λ rest. NotedOrDone n rest c.loop-id.notes.entries c.loop-id.streams) ended (c.loop-id.invariant.noted all))).1

pub returns-then-not-make_note-clause-same : goal.returns-then-not-make_note-clause-same
returns-then-not-make_note-clause-same c =
    forwarded_one (pair_rank c.args.first.number c.args.first.index) c.in-Some-2.id.now c.loop-id.streams c.forward_to.new.self c.forward_to.ensures.value ∙ c.loop-id.invariant.same
