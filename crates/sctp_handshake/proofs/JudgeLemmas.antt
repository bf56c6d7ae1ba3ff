-- Whether bytes would be refused, by what the reader answers of them.
use Rattle.std.proofs.Common.{◌≡◌, ℕ, Bool, true, List, Option, Some, None, subst, sym}
use Rattle.std.specs.Prelude.{is_some, option_map}
use Rattle.sctp_wire.specs.declared.checksum.Policy.{Policy}
use Rattle.sctp_packet.specs.declared.packet.PacketParseError.{PacketParseError}
use Rattle.sctp_packet.specs.Packet.{PacketTree, Accepts, Refuses, IsFault}
use Rattle.sctp_state.specs.Options.{Options}
use Rattle.spec_endpoint.specs.Association.{State}
use Rattle.spec_endpoint.specs.Input.{packet_refusal}
use Rattle.spec_endpoint.specs.Receiving.{Judges, taken, refused, unread, policy_of}
use Rattle.spec_endpoint.specs.Wire.{word_at}

-- by the reason that was found, or none
pub judged_as : (word_of : List ℕ → ℕ) (policy : Policy) (word : ℕ) (bytes : List ℕ) (p : PacketTree) (o : Options) (s : State) (reason : Option (List ℕ)) (is_refused : Bool)
    → policy ≡ policy_of o → word ≡ word_at word_of bytes → Accepts policy word bytes p → reason ≡ packet_refusal p.header.verification_tag p.chunks s → is_refused ≡ is_some reason
    → Judges word_of bytes o s is_refused
judged_as word_of policy word bytes p o s None is_refused a b accepts r e =
    taken p (subst (λ (w : ℕ). Accepts (policy_of o) w bytes p) b (subst (λ (q : Policy). Accepts q word bytes p) a accepts)) (sym r) e
judged_as word_of policy word bytes p o s (Some text) is_refused a b accepts r e =
    refused p text (subst (λ (w : ℕ). Accepts (policy_of o) w bytes p) b (subst (λ (q : Policy). Accepts q word bytes p) a accepts)) (sym r) e

pub not_judged : (word_of : List ℕ → ℕ) (policy : Policy) (word : ℕ) (bytes : List ℕ) (fault : PacketParseError) (o : Options) (s : State) (is_refused : Bool)
    → policy ≡ policy_of o → word ≡ word_at word_of bytes → Refuses policy word bytes fault → IsFault fault → is_refused ≡ true → Judges word_of bytes o s is_refused
not_judged word_of policy word bytes fault o s is_refused a b refuses is e =
    unread fault is (subst (λ (w : ℕ). Refuses (policy_of o) w bytes fault) b (subst (λ (q : Policy). Refuses q word bytes fault) a refuses)) e

-- the reason is a text of what was found
pub some_by : {X Y : Type 0} (f : X → Y) (o : Option X) (b : Bool) → b ≡ is_some o → b ≡ is_some (option_map f o)
some_by f None b e = e
some_by f (Some x) b e = e
