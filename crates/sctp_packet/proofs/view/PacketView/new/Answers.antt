use Rattle.std.proofs.Common.{◌≡◌, ℕ, List, drop, sym, ap, subst, ◌∙◌, rules, arith}
use Rattle.sctp_wire.specs.Refusal.{FailsToParseAs}
use Rattle.sctp_chunk.specs.Grammar.{IsChunk, RefusesChunk}
use Rattle.sctp_packet.specs.Packet.{checksum_field, lets_through}
use Rattle.sctp_packet.specs.PacketView.{header_tree}
use Rattle.sctp_packet.proofs.PacketLemmas.{body_at, field_at}
use Rattle.sctp_packet.proofs.view.PacketView.new.Goals as goal

pub returns-then-not-accepts-clause-refused : goal.returns-then-not-accepts-clause-refused
returns-then-not-accepts-clause-refused c =
    let h = c.in-Ok.common_header in
    let field : checksum_field c.args.bytes.now ≡ h.checksum = ap checksum_field c.in-Ok.ensures.ok ∙ field_at (header_tree h) h.checksum c.in-Ok.body.now c.in-Ok.ensures.checksum_fits in
    (record { low = c.in-Ok.ensures.long; high = omega arith }, ap (lets_through c.args.policy.now c.args.word) field ∙ search rules)

pub returns-in-Err-clause-refused : goal.returns-in-Err-clause-refused
returns-in-Err-clause-refused c =
    let h = c.in-Ok.common_header in
    let field : checksum_field c.args.bytes.now ≡ h.checksum = ap checksum_field c.in-Ok.ensures.ok ∙ field_at (header_tree h) h.checksum c.in-Ok.body.now c.in-Ok.ensures.checksum_fits in
    let body : drop 12 c.args.bytes.now ≡ c.in-Ok.body.now = ap (drop 12) c.in-Ok.ensures.ok ∙ body_at (header_tree h) h.checksum c.in-Ok.body.now in (
      record { low = c.in-Ok.ensures.long; high = omega arith },
      ap (lets_through c.args.policy.now c.args.word) field ∙ search rules,
      subst (λ (b : List ℕ). FailsToParseAs IsChunk RefusesChunk b c.in-Err.fault) (sym body) c.in-Err.ensures.refused,
      c.in-Err.ensures.never_memory,
    )

pub invariant_of-result : goal.invariant_of-result
invariant_of-result c = c.in_default-check_chunks.ensures.ok

pub returns-clause-packet : goal.returns-clause-packet
returns-clause-packet c =
    let left = c.in_default-check_chunks.ensures.ok in (
      left.0,
      record {
        packet = record {
          body = c.in-Ok.body.now;
          joined = c.in-Ok.ensures.ok;
          header_fits = c.in-Ok.ensures.fits;
          checksum_fits = c.in-Ok.ensures.checksum_fits;
          chunks = left.1;
        };
        short_enough = omega arith;
        sum = search rules;
      },
      left.1,
    )
