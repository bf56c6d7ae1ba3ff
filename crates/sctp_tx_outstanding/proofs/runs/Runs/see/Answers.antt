use Rattle.std.proofs.Common.{◌≡◌, ◌≤◌, length, sym, subst, ◌∙◌, arith, rules}
use Rattle.std.proofs.lemmas.Option.{slice_get_past}
use Rattle.std.specs.Prelude.{Some, slice_get}
use Rattle.sctp_tx_outstanding.specs.Runs.{bit_of, known_of, IsKnown, IsKnownOf}
use Rattle.sctp_tx_outstanding.proofs.RunsLemmas.{listed, found, seen, seen_none, seen_past, of_each}
use Rattle.sctp_tx_outstanding.proofs.SizesLemmas.{followed, large_past, bounded}
use Rattle.sctp_tx_outstanding.proofs.runs.Runs.see.Goals as goal

pub returns-in_default : goal.returns-in_default
returns-in_default c = λ is same sum h.
    let items = c.args.items.now.items in
    let k = c.args.place in
    let least = c.args.self.now.least in
    let past : length items ≤ k = search rules in
    record {
      small = h.small;
      known = seen_none c.args.self.now.known.items c.args.self.now.offset k is items same h.known (slice_get_past items k past);
      least = followed least least k is items same (omega arith) (large_past least k items past) h.least;
    }

pub returns-in_default-get_mut : goal.returns-in_default-get_mut
returns-in_default-get_mut c = λ is same sum h. record {
  small = h.small;
  known = seen_past c.args.self.now.known.items c.args.self.now.offset c.args.place is c.args.items.now.items same h.known c.run_of-run.result c.run_of-run.ensures (search rules);
  least = bounded c.args.self.now.least c.lesser-all.result c.bound_of-self.result c.args.queued c.args.place is c.args.items.now.items c.in-Some.item.now (found c.args.items.now.items c.args.place c.in-Some.item.now (search rules) c.in-Some.ensures.lookup)
      same sum c.lesser-all.ensures.less (λ w. omega (arith, c.lesser-all.ensures.size (c.should_be_retransmitted-waits.ensures ∙ w), c.payload_size.ensures.size)) c.bound_of-self.ensures h.least;
}

pub returns : goal.returns
returns c = λ is same sum h.
    let runs = c.args.self.now.known.items in
    let o = c.args.self.now.offset in
    let run = c.run_of-run.result in
    let old = c.in-Some-get_mut.known.now in
    let at : known_of runs run ≡ old = listed runs run old (search rules) c.in-Some-get_mut.ensures.value in
    let lookup : slice_get c.args.items.now.items c.args.place ≡ Some c.in-Some.item.now = found c.args.items.now.items c.args.place c.in-Some.item.now (search rules) c.in-Some.ensures.lookup in
    let here : IsKnown c.with_item.result (bit_of o c.args.place) c.in-Some.item.now = subst (λ b. IsKnown c.with_item.result b c.in-Some.item.now) c.bit_of-bit.ensures.bit c.with_item.ensures.here in
    record {
      small = h.small;
      known = seen runs o c.args.place is c.args.items.now.items same h.known run c.with_item.result c.run_of-run.ensures
          (subst (λ x. IsKnownOf c.with_item.result (bit_of o c.args.place) x) (sym lookup) here)
          (of_each (known_of runs run) c.with_item.result (bit_of o c.args.place)
          (λ b i less other known. c.with_item.ensures.others b i less (λ e. other (e ∙ c.bit_of-bit.ensures.bit)) (subst (λ x. IsKnown x b i) at known)));
      least = bounded c.args.self.now.least c.lesser-all.result c.bound_of-self.result c.args.queued c.args.place is c.args.items.now.items c.in-Some.item.now lookup
          same sum c.lesser-all.ensures.less (λ w. omega (arith, c.lesser-all.ensures.size (c.should_be_retransmitted-waits.ensures ∙ w), c.payload_size.ensures.size)) c.bound_of-self.ensures h.least;
    }
