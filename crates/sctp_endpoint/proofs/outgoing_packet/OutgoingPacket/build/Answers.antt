use Rattle.std.proofs.Common.{[], ap, ◌∙◌, arith}
use Rattle.sctp_packet.specs.Builder.{BuilderTree}
use Rattle.spec_endpoint.specs.Wire.{word_at}
use Rattle.sctp_endpoint.proofs.OutgoingLemmas.{none_short, behind_header, bytes_of_some, made_written, some_short}
use Rattle.sctp_endpoint.proofs.outgoing_packet.OutgoingPacket.build.Goals as goal

pub invariant_of-self : goal.invariant_of-self
invariant_of-self g c = record { small = c.self.invariant.small; short = rw (c.in_err-bytes.ensures.err) c.self.invariant.short }

pub invariant_of-self-2 : goal.invariant_of-self-2
invariant_of-self-2 g c = record { small = c.self.invariant.small; short = none_short _ c.self.inside.limit c.in_ok-bytes.ensures.ok }

pub set_written-requires-clause-some : goal.set_written-requires-clause-some
set_written-requires-clause-some g c =
    let some = rw (← c.self.view_is) at c.requires in
    omega (arith, bytes_of_some c.self.inside.chunks some, behind_header c.self.inside.chunks c.in_ok-bytes.bytes.items some c.in_ok-bytes.ensures.bytes)

pub set_written-requires-clause-full : goal.set_written-requires-clause-full
set_written-requires-clause-full g c =
    omega (arith, ap (λ (b : BuilderTree). b.limit) c.write_checksum.ensures, ap (λ (b : BuilderTree). b.limit) c.new-builder.ensures, c.len.ensures, c.in_ok-bytes.bytes.ok.0)

pub returns-clause-packet : goal.returns-clause-packet
returns-clause-packet g c =
    let inside = c.self.inside in
    let word_of = g.C.Checksum.word_of c.args.checksum.now in
    let some = rw (← c.self.view_is) at c.requires in
    let before = c.write_checksum.ensures ∙ ap (λ (b : BuilderTree). record b { writes_checksum = inside.write_checksum }) c.new-builder.ensures in
    let wrote = c.set_written.ensures in
    rw (← c.self.view_is)
    (made_written word_of _ c.len.result inside.write_checksum inside.chunks c.set_written.new.self c.word_of-word.result c.build.result.items
    some (ap (λ (b : BuilderTree). b.body) wrote ∙ c.in_ok-bytes.ensures.bytes)
    (ap (λ (b : BuilderTree). record b { body = [] }) wrote ∙ ap (λ (b : BuilderTree). record b { body = [] }) before)
    (c.word_of-word.ensures ∙ ap (word_at word_of) c.unsummed.ensures) c.build.ensures.packet)

pub returns-clause-short : goal.returns-clause-short
returns-clause-short g c =
    let inside = c.self.inside in
    let some = rw (← c.self.view_is) at c.requires in
    let fits = some_short inside.chunks inside.limit some c.self.invariant.short in
    let made = ap (λ (b : BuilderTree). b.limit) c.set_written.ensures ∙ ap (λ (b : BuilderTree). b.limit) c.write_checksum.ensures ∙ ap (λ (b : BuilderTree). b.limit) c.new-builder.ensures in
    let whole = behind_header inside.chunks c.in_ok-bytes.bytes.items some c.in_ok-bytes.ensures.bytes in
    rw (← c.self.view_is) (omega (arith, c.build.ensures.short, made, fits, whole, c.len.ensures, c.in_ok-bytes.bytes.ok.0))
