-- What the reader answers of bytes, and what becomes of them.
use Rattle.std.proofs.Common.{◌≡◌, ℕ, List, Result, Ok, Err, OnOk, subst, false}
use Rattle.std.specs.Prelude.{is_err}
use Rattle.sctp_wire.specs.declared.checksum.Policy.{Policy}
use Rattle.sctp_packet.specs.declared.packet.PacketParseError.{PacketParseError}
use Rattle.sctp_packet.specs.Packet.{PacketTree, Accepts, Refuses, IsFault}
use Rattle.spec_endpoint.specs.Association.{Endpoint}
use Rattle.spec_endpoint.specs.Input.{on_packet, on_no_packet}
use Rattle.spec_endpoint.specs.Receiving.{Receives, read, not_read, policy_of}
use Rattle.spec_endpoint.specs.Wire.{word_at}

pub received_as : (word_of : List ℕ → ℕ) (policy : Policy) (word : ℕ) (bytes : List ℕ) (p : PacketTree) (s t : Endpoint (List ℕ))
    → policy ≡ policy_of s.endpoint_state.context.options → word ≡ word_at word_of bytes → Accepts policy word bytes p → t ≡ on_packet p s → Receives word_of bytes s t
received_as word_of policy word bytes p s t a b accepts e =
    read p (subst (λ (w : ℕ). Accepts (policy_of s.endpoint_state.context.options) w bytes p) b (subst (λ (q : Policy). Accepts q word bytes p) a accepts)) e

pub not_received : (word_of : List ℕ → ℕ) (policy : Policy) (word : ℕ) (bytes : List ℕ) (fault : PacketParseError) (s t : Endpoint (List ℕ))
    → policy ≡ policy_of s.endpoint_state.context.options → word ≡ word_at word_of bytes → Refuses policy word bytes fault → IsFault fault → t ≡ on_no_packet s → Receives word_of bytes s t
not_received word_of policy word bytes fault s t a b refuses is e =
    not_read fault is (subst (λ (w : ℕ). Refuses (policy_of s.endpoint_state.context.options) w bytes fault) b (subst (λ (q : Policy). Refuses q word bytes fault) a refuses)) e

-- ---- where memory was there

pub received_ok : {T E : Type 0} (r : Result T E) (word_of : List ℕ → ℕ) (policy : Policy) (word : ℕ) (bytes : List ℕ) (p : PacketTree) (s t : Endpoint (List ℕ))
    → policy ≡ policy_of s.endpoint_state.context.options → word ≡ word_at word_of bytes → Accepts policy word bytes p → OnOk r (t ≡ on_packet p s) → OnOk r (Receives word_of bytes s t)
received_ok (Ok x) word_of policy word bytes p s t a b accepts e = received_as word_of policy word bytes p s t a b accepts e
received_ok (Err x) word_of policy word bytes p s t a b accepts e = tt

pub not_received_ok : {T E : Type 0} (r : Result T E) (word_of : List ℕ → ℕ) (policy : Policy) (word : ℕ) (bytes : List ℕ) (fault : PacketParseError) (s t : Endpoint (List ℕ))
    → policy ≡ policy_of s.endpoint_state.context.options → word ≡ word_at word_of bytes → Refuses policy word bytes fault → OnOk r (IsFault fault) → OnOk r (t ≡ on_no_packet s)
    → OnOk r (Receives word_of bytes s t)
not_received_ok (Ok x) word_of policy word bytes fault s t a b refuses is e = not_received word_of policy word bytes fault s t a b refuses is e
not_received_ok (Err x) word_of policy word bytes fault s t a b refuses is e = tt

pub where_ok : {T E : Type 0} (r : Result T E) {P : Type 0} → is_err r ≡ false → OnOk r P → P
where_ok (Ok x) e p = p
where_ok (Err x) e p = absurd (cc)

pub on_ok_of : {T E : Type 0} (r : Result T E) {P : Type 0} → P → OnOk r P
on_ok_of (Ok x) p = p
on_ok_of (Err x) p = tt
