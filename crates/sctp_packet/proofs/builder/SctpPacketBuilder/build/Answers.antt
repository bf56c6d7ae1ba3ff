use Rattle.std.proofs.Common.{◌≡◌, ◌<◌, ◌≤◌, ◌++◌, length, take, drop, arith, List, ℕ, Vec, Global, ap, ◌∙◌, vec_len}
use Rattle.sctp_wire.specs.Field.{be32}
use Rattle.sctp_packet.specs.PacketView.{header_tree}
use Rattle.sctp_packet.proofs.BuilderLemmas.{built_summed, built_short, built_off, built_none, some_bytes, no_bytes, written_whole}
use Rattle.sctp_packet.proofs.builder.SctpPacketBuilder.build.Goals as goal
use Rattle.sctp_packet.proofs.builder.SctpPacketBuilder.build.Goals.{then-self+then-not-is_empty, else-self, else-self-via-then-self+else-not-is_empty, else-self-via-else-self}

pub returns-clause-packet : goal.returns-clause-packet
returns-clause-packet c =
    let bytes : List ℕ = c.self.inside.bytes.items in
    let taken : c.replace-bytes.result.items ≡ bytes = ap (λ (v : Vec ℕ Global). v.items) c.replace-bytes.ensures.value in
    rw (← c.self.view_is) (elim c.if-self.branch [
      | then-self+then-not-is_empty w ↦
          let some : 0 < length bytes = some_bytes (vec_len c.replace-bytes.result) c.replace-bytes.result.items bytes w.if-not-is_empty.ensures c.replace-bytes.result.ok.0 taken in
          let wrote : w.write_word.new.bytes ≡ take 8 bytes ++ (be32 c.args.word ++ drop 12 bytes) = rw (w.deref_mut.ensures.value, taken) at w.write_word.ensures in
          let long : 12 ≤ length bytes = omega (arith, c.self.invariant.packet.more_than_header some) in
          built_summed (header_tree c.self.inside.header) c.self.inside.limit bytes c.if-self.bytes.items c.args.word c.self.inside.write_checksum c.self.invariant.packet
          some w.if-self.true
          (ap (λ (v : Vec ℕ Global). v.items) w.bytes-is
          ∙ written_whole c.replace-bytes.result.len w.write_word.new.bytes _ bytes c.args.word (c.replace-bytes.result.ok.0 ∙ ap length taken) long wrote ∙ wrote)
      | else-self w ↦ elim w.else-self.branch [
        | else-self-via-then-self+else-not-is_empty v ↦
            ap (λ (v : Vec ℕ Global). v.items) w.bytes-is ∙ taken ∙ built_none (header_tree c.self.inside.header) bytes c.args.word c.self.inside.write_checksum
            (no_bytes (vec_len c.replace-bytes.result) c.replace-bytes.result.items bytes v.if-not-is_empty.ensures c.replace-bytes.result.ok.0 taken)
        | else-self-via-else-self v ↦
            ap (λ (v : Vec ℕ Global). v.items) w.bytes-is ∙ taken ∙ built_off (header_tree c.self.inside.header) c.self.inside.limit bytes c.args.word c.self.inside.write_checksum c.self.invariant.packet v.if-self.false
      ]
    ])

pub returns-clause-short : goal.returns-clause-short
returns-clause-short c =
    let is_built = rw (← c.self.view_is) at (returns-clause-packet c) in
    rw (← c.self.view_is) (built_short (header_tree c.self.inside.header) c.self.inside.limit c.self.inside.bytes.items c.if-self.bytes.items c.args.word c.self.inside.write_checksum c.self.invariant.packet is_built)
