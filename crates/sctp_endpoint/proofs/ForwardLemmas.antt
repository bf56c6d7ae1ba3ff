-- A forward point goes along: what the packet holds then, and from when on another one may.
use Rattle.std.proofs.Common.{◌≡◌, ℕ, Bool, true, sym, ap, ◌∙◌}
use Rattle.std.specs.Prelude.{◌*◌, min}
use Rattle.sctp_serial.specs.Time.{later}
use Rattle.sctp_packet.specs.Chunk.{ChunkTree}
use Rattle.sctp_state.specs.Numbers.{ms}
use Rattle.sctp_state.specs.RetransmissionTimeout.{srtt}
use Rattle.sctp_tx.specs.ForwardPoints.{forward_chunk}
use Rattle.spec_endpoint.specs.Association.{Tcb, Context}
use Rattle.spec_endpoint.specs.Packets.{PacketDraft, add, added_if, fits}
use Rattle.spec_endpoint.specs.Sending.{Filling, forward_pause, forward_added_if}

module _ {P : Type 0} (p packet : PacketDraft) (t : Tcb) (c d : Context P) where
  abbrev x : Filling P
  x = record { packet = p; tcb = t; context = c }

  abbrev left : PacketDraft → Context P → Filling P
  left q e = record { packet = q; tcb = t; context = e }

  pub forward_pushed : (chunk : ChunkTree) (has_fit : Bool) (moment pause span : ℕ) → chunk ≡ forward_chunk t.sender → has_fit ≡ fits p chunk → has_fit ≡ true
      → packet ≡ added_if has_fit chunk p → moment ≡ later c.now pause → pause ≡ forward_pause c.options.avoid_stalls t.sender.t3 span → span ≡ min (200 * ms) (srtt t.rtt)
      → d ≡ record c { forward_from = moment } → left packet d ≡ forward_added_if (fits p (forward_chunk t.sender)) x
  forward_pushed chunk has_fit moment pause span point test fit added at paused spanned context =
      let from : moment ≡ later c.now (forward_pause c.options.avoid_stalls t.sender.t3 (min (200 * ms) (srtt t.rtt))) =
      at ∙ (ap (λ (n : ℕ). later c.now n) paused ∙ ap (λ (n : ℕ). later c.now (forward_pause c.options.avoid_stalls t.sender.t3 n)) spanned)
      in
      let holds : packet ≡ add (forward_chunk t.sender) p = added ∙ (ap (λ (b : Bool). added_if b chunk p) test ∙ ap (λ (k : ChunkTree). add k p) point) in
      let goes : fits p (forward_chunk t.sender) ≡ true = sym (ap (λ (k : ChunkTree). fits p k) point) ∙ (sym test ∙ fit) in
      ap (λ (q : PacketDraft). left q d) holds
      ∙ (ap (λ (e : Context P). left (add (forward_chunk t.sender) p) e) context
      ∙ (ap (λ (n : ℕ). left (add (forward_chunk t.sender) p) (record c { forward_from = n })) from ∙ sym (ap (λ (b : Bool). forward_added_if b x) goes)))
