use Rattle.std.proofs.Common.{◌≡◌, ◌≤◌, ◌<◌, ◌+◌, ◌^◌, ◌++◌, ◌∷◌, ℕ, max, true, false, nat_lt, [], ap, sym, subst, ◌∙◌, append-nil, length, OnOk, OnErr, rules}
use Rattle.sctp_serial.specs.Unwrapped.{origin}
use Rattle.std.proofs.lemmas.Result.{on_ok_weaker, on_err_weaker}
use Rattle.sctp_fragments.specs.Held.{bytes_of, is_complete}
use Rattle.sctp_fragments.specs.Interval.{as_held}
use Rattle.sctp_reassembly.specs.Delivery.{UnorderedStream, unordered_arrival, ready_bytes}
use Rattle.sctp_reassembly.specs.InterruptedStreams.{unordered_arrival_in_part}
use Rattle.sctp_reassembly.specs.UnorderedState.{unordered_of}
use Rattle.sctp_reassembly.proofs.DeliverLemmas.{whole_alone}
use Rattle.sctp_reassembly.proofs.InterruptedLemmas.{on_err}
use Rattle.sctp_reassembly.proofs.unordered_stream.add_in.Goals as goal

pub returns-in_err-fragments-in-Idle-clause-err : goal.returns-in_err-fragments-in-Idle-clause-err
returns-in_err-fragments-in-Idle-clause-err g c =
    let x = as_held (g.K.ReassemblyKey.number c.args.key) (g.K.ReassemblyKey.index c.args.key) c.args.fragment in
    let idle : ℕ → UnorderedStream = λ k. record { near = k; passed = c.in-Idle.passed; held = [] } in
    let near : c.max.result ≡ max origin (g.K.ReassemblyKey.number c.args.key) = search rules in
    on_err c.from_residual.result (0, (ap idle near ∙ sym (ap (λ s. (unordered_arrival_in_part 0 x (unordered_of s)).stream) c.in-Idle.is), sym (append-nil c.args.ready.now)))

pub add-requires-clause-room : goal.add-requires-clause-room
add-requires-clause-room g c =
    let same = c.deref_mut.ensures.value ∙ sym (ap unordered_of c.in-Holding.is) in
    subst (λ (s : UnorderedStream). bytes_of s.held + ready_bytes c.args.ready.now + length c.args.fragment.payload.items < 2 ^ 64) (sym same) c.requires.room

pub add-requires-clause-fragments : goal.add-requires-clause-fragments
add-requires-clause-fragments g c =
    let same = c.deref_mut.ensures.value ∙ sym (ap unordered_of c.in-Holding.is) in
    subst (λ (s : UnorderedStream). length s.held + 1 < 2 ^ 64) (sym same) c.requires.fragments

pub returns-in-Holding-clause-ok : goal.returns-in-Holding-clause-ok
returns-in-Holding-clause-ok g c =
    let x = as_held (g.K.ReassemblyKey.number c.args.key) (g.K.ReassemblyKey.index c.args.key) c.args.fragment in
    let same = c.deref_mut.ensures.value ∙ sym (ap unordered_of c.in-Holding.is) in
    subst (λ (s : UnorderedStream). OnOk c.add.result (c.add.new.self ≡ (unordered_arrival x s).stream)) same c.add.ensures.ok

pub returns-in-Holding-clause-ready : goal.returns-in-Holding-clause-ready
returns-in-Holding-clause-ready g c =
    let x = as_held (g.K.ReassemblyKey.number c.args.key) (g.K.ReassemblyKey.index c.args.key) c.args.fragment in
    let same = c.deref_mut.ensures.value ∙ sym (ap unordered_of c.in-Holding.is) in
    subst (λ (s : UnorderedStream). OnOk c.add.result (c.add.new.ready ≡ c.args.ready.now ++ (unordered_arrival x s).messages)) same c.add.ensures.ready

pub returns-in-Holding-clause-err : goal.returns-in-Holding-clause-err
returns-in-Holding-clause-err g c =
    let x = as_held (g.K.ReassemblyKey.number c.args.key) (g.K.ReassemblyKey.index c.args.key) c.args.fragment in
    let same = c.deref_mut.ensures.value ∙ sym (ap unordered_of c.in-Holding.is) in
    subst (λ (s : UnorderedStream). OnErr c.add.result ((steps : ℕ) × ((c.add.new.self ≡ (unordered_arrival_in_part steps x s).stream) × (c.add.new.ready ≡ c.args.ready.now ++ (unordered_arrival_in_part steps x s).messages)))) same c.add.ensures.err

pub returns-in-Holding-clause-bytes : goal.returns-in-Holding-clause-bytes
returns-in-Holding-clause-bytes g c =
    let same = c.deref_mut.ensures.value ∙ sym (ap unordered_of c.in-Holding.is) in
    subst (λ (s : UnorderedStream). bytes_of c.add.new.self.held + ready_bytes c.add.new.ready ≤ bytes_of s.held + ready_bytes c.args.ready.now + length c.args.fragment.payload.items) same c.add.ensures.bytes

pub returns-in-Holding-clause-fragments : goal.returns-in-Holding-clause-fragments
returns-in-Holding-clause-fragments g c =
    let same = c.deref_mut.ensures.value ∙ sym (ap unordered_of c.in-Holding.is) in
    subst (λ (s : UnorderedStream). length c.add.new.self.held ≤ length s.held + 1) same c.add.ensures.fragments

pub returns-then-is_whole-clause-ok : goal.returns-then-is_whole-clause-ok
returns-then-is_whole-clause-ok g c =
    let x = as_held (g.K.ReassemblyKey.number c.args.key) (g.K.ReassemblyKey.index c.args.key) c.args.fragment in
    let told : c.is_whole.result ≡ true = search rules in
    let whole : is_complete (x ∷ []) ≡ true = sym (c.is_whole.ensures (g.K.ReassemblyKey.number c.args.key) (g.K.ReassemblyKey.index c.args.key)) ∙ told in
    let due : nat_lt x.number c.in-Idle.passed ≡ false = search rules in
    let near : c.max.result ≡ max origin x.number = search rules in
    let idle : ℕ → UnorderedStream = λ k. record { near = k; passed = c.in-Idle.passed; held = [] } in
    let all = ap (λ s. unordered_arrival x (unordered_of s)) c.in-Idle.is ∙ whole_alone x c.in-Idle.near c.in-Idle.passed whole due in
    on_ok_weaker c.hand_on.result (λ e. ap idle near ∙ sym (ap (λ d. d.stream) all)) c.hand_on.ensures.ready

pub returns-then-is_whole-clause-ready : goal.returns-then-is_whole-clause-ready
returns-then-is_whole-clause-ready g c =
    let x = as_held (g.K.ReassemblyKey.number c.args.key) (g.K.ReassemblyKey.index c.args.key) c.args.fragment in
    let told : c.is_whole.result ≡ true = search rules in
    let whole : is_complete (x ∷ []) ≡ true = sym (c.is_whole.ensures (g.K.ReassemblyKey.number c.args.key) (g.K.ReassemblyKey.index c.args.key)) ∙ told in
    let due : nat_lt x.number c.in-Idle.passed ≡ false = search rules in
    let all = ap (λ s. unordered_arrival x (unordered_of s)) c.in-Idle.is ∙ whole_alone x c.in-Idle.near c.in-Idle.passed whole due in
    on_ok_weaker c.hand_on.result (λ e. e ∙ ap (λ ms. c.args.ready.now ++ ms) (sym (ap (λ d. d.messages) all))) c.hand_on.ensures.ready

pub returns-then-is_whole-clause-err : goal.returns-then-is_whole-clause-err
returns-then-is_whole-clause-err g c =
    let x = as_held (g.K.ReassemblyKey.number c.args.key) (g.K.ReassemblyKey.index c.args.key) c.args.fragment in
    let idle : ℕ → UnorderedStream = λ k. record { near = k; passed = c.in-Idle.passed; held = [] } in
    let near : c.max.result ≡ max origin (g.K.ReassemblyKey.number c.args.key) = search rules in
    on_err_weaker c.hand_on.result (λ same. (0, (ap idle near ∙ sym (ap (λ s. (unordered_arrival_in_part 0 x (unordered_of s)).stream) c.in-Idle.is), same ∙ sym (append-nil c.args.ready.now)))) c.hand_on.ensures.err
