-- The options of `send`: words spell them in one way at most.
use Rattle.std.proofs.Common.{◌≡◌, ℕ, zero, suc, Bool, true, false, Option, Some, None, List, [], ◌∷◌, codes, IfNone, sym, ap, subst, ◌∙◌, arith}
use Rattle.sctp_serial.specs.Messages.{Message}
use Rattle.sctp_state.specs.Options.{SendOptions}
use Rattle.spec_world.specs.Observations.{End, Connect, Shutdown, Close, Send, SendMany, TakeMessage, Reset, SetPriority, SetMaxMessageSize, SetLowThreshold, HandOver}
use Rattle.spec_world.specs.World.{CallOf, Give, GiveForeign, AdvanceTime}
use Rattle.sctp_world.specs.Command.{IsFlag, IsNamed, IsHex, SpellsLimit, SpellsLife, SpellsOptions, SpellsSend, SpellsWords, Asked, probe_of, happens, passes, shown}

module _ (name : List ℕ) (words rest other : List (List ℕ)) where
  one_rest : (n m : Option ℕ) → IsNamed name words rest n → IsNamed name words other m → other ≡ rest
  one_rest None None h k = sym k.0 ∙ h.0
  one_rest None (Some m) h k = absurd (h.1 (k.0 ∷ other) k.1)
  one_rest (Some n) None h k = absurd (k.1 (h.0 ∷ rest) h.1)
  one_rest (Some n) (Some m) h k = behind (sym k.1 ∙ h.1)
    where
      behind : name ∷ k.0 ∷ other ≡ name ∷ h.0 ∷ rest → other ≡ rest
      behind e = cc

  one_flag : (a b : Bool) → IsFlag name words rest a → IsFlag name words other b → other ≡ rest
  one_flag false false h k = sym k.0 ∙ h.0
  one_flag false true h k = absurd (h.1 other k)
  one_flag true false h k = absurd (k.1 rest h)
  one_flag true true h k = behind (sym k ∙ h)
    where
      behind : name ∷ other ≡ name ∷ rest → other ≡ rest
      behind e = cc

pub no_life : (words rest : List (List ℕ)) (n : Option ℕ) → IsNamed (codes "life") words rest n → ((limit id : Option ℕ) → SpellsLimit rest limit id → ⊥)
    → (life limit id : Option ℕ) → SpellsLife words life limit id → ⊥
no_life words rest n h none life limit id k =
    none limit id (subst (λ (r : List (List ℕ)). SpellsLimit r limit id) (one_rest (codes "life") words rest k.0 n life h k.1) k.2)

pub no_options : (words rest : List (List ℕ)) (b : Bool) → IsFlag (codes "unordered") words rest b → ((life limit id : Option ℕ) → SpellsLife rest life limit id → ⊥)
    → (options : SendOptions) → SpellsOptions words options → ⊥
no_options words rest b h none options k =
    none k.milliseconds options.max_retransmissions options.lifecycle_id
    (subst (λ (r : List (List ℕ)). SpellsLife r k.milliseconds options.max_retransmissions options.lifecycle_id) (one_flag (codes "unordered") words rest k.rest b options.unordered h k.order) k.others)

pub always : {A : Type 0} (o : Option A) (P : Type 0) → P → IfNone o P
always None P p = p
always (Some x) P p = tt

-- ---- `send`

-- a letter of the first word
abbrev letter : ℕ → List (List ℕ) → ℕ
letter k [] = 0
letter zero ([] ∷ ws) = 0
letter zero ((c ∷ cs) ∷ ws) = c
letter (suc k) ([] ∷ ws) = 0
letter (suc k) ((c ∷ cs) ∷ ws) = letter k (cs ∷ ws)

no_probe : (words more : List (List ℕ)) → codes "send" ∷ words ≡ codes "probe" ∷ more → ⊥
no_probe words more e = cc

no_connect : (words more : List (List ℕ)) → codes "send" ∷ words ≡ codes "connect" ∷ more → ⊥
no_connect words more e = cc

no_shutdown : (words more : List (List ℕ)) → codes "send" ∷ words ≡ codes "shutdown" ∷ more → ⊥
no_shutdown words more e = cc

no_close : (words more : List (List ℕ)) → codes "send" ∷ words ≡ codes "close" ∷ more → ⊥
no_close words more e = cc

no_recv : (words more : List (List ℕ)) → codes "send" ∷ words ≡ codes "recv" ∷ more → ⊥
no_recv words more e = omega (arith, ap (letter 0) e)

no_reset : (words more : List (List ℕ)) → codes "send" ∷ words ≡ codes "reset" ∷ more → ⊥
no_reset words more e = cc

no_give : (words more : List (List ℕ)) → codes "send" ∷ words ≡ codes "give" ∷ more → ⊥
no_give words more e = omega (arith, ap (letter 0) e)

no_foreign : (words more : List (List ℕ)) → codes "send" ∷ words ≡ codes "foreign" ∷ more → ⊥
no_foreign words more e = cc

no_time : (words more : List (List ℕ)) → codes "send" ∷ words ≡ codes "time" ∷ more → ⊥
no_time words more e = omega (arith, ap (letter 0) e)

no_show : (words more : List (List ℕ)) → codes "send" ∷ words ≡ codes "show" ∷ more → ⊥
no_show words more e = omega (arith, ap (letter 1) e)

-- words behind `send` spell a message that is sent, or nothing
only_send : (words : List (List ℕ)) → ((x : End) (m : Message) (o : SendOptions) → SpellsSend (codes "send" ∷ words) x m o → ⊥)
    → (asked : Asked) → SpellsWords (codes "send" ∷ words) asked → ⊥
only_send words none (probe_of bytes) k = no_probe words _ k.1
only_send words none (happens (CallOf x Connect)) k = no_connect words _ k
only_send words none (happens (CallOf x Shutdown)) k = no_shutdown words _ k
only_send words none (happens (CallOf x Close)) k = no_close words _ k
only_send words none (happens (CallOf x (Send m o))) k = none x m o k
only_send words none (happens (CallOf x (SendMany ms o))) k = k
only_send words none (happens (CallOf x TakeMessage)) k = no_recv words _ k
only_send words none (happens (CallOf x (Reset streams))) k = no_reset words _ k.2
only_send words none (happens (CallOf x (SetPriority stream priority))) k = k
only_send words none (happens (CallOf x (SetMaxMessageSize bytes))) k = k
only_send words none (happens (CallOf x (SetLowThreshold stream bytes))) k = k
only_send words none (happens (CallOf x HandOver)) k = k
only_send words none (happens (Give packet x)) k = no_give words _ k.1
only_send words none (happens (GiveForeign x bytes)) k = no_foreign words _ k.1
only_send words none (happens (AdvanceTime x now)) k = k
only_send words none (passes now) k = no_time words _ k.2
only_send words none (shown x packet) k = no_show words _ k.1

module _ (end stream ppid payload : List ℕ) (rest : List (List ℕ)) where
  pub no_send_options : ((o : SendOptions) → SpellsOptions rest o → ⊥) → (asked : Asked) → SpellsWords (codes "send" ∷ end ∷ stream ∷ ppid ∷ payload ∷ rest) asked → ⊥
  no_send_options none = only_send (end ∷ stream ∷ ppid ∷ payload ∷ rest) (λ x m o k. none o (subst (λ (r : List (List ℕ)). SpellsOptions r o) (behind k.stream k.ppid k.payload k.rest _ k.words_are) k.options_are))
    where
      behind : (s p h : List ℕ) (r : List (List ℕ)) (e : List ℕ) → codes "send" ∷ end ∷ stream ∷ ppid ∷ payload ∷ rest ≡ codes "send" ∷ e ∷ s ∷ p ∷ h ∷ r → r ≡ rest
      behind s p h r e is = cc

  pub no_send_payload : ((bytes : List ℕ) → IsHex payload bytes → ⊥) → (asked : Asked) → SpellsWords (codes "send" ∷ end ∷ stream ∷ ppid ∷ payload ∷ rest) asked → ⊥
  no_send_payload none = only_send (end ∷ stream ∷ ppid ∷ payload ∷ rest) (λ x m o k. none m.payload (subst (λ (h : List ℕ). IsHex h m.payload) (behind k.stream k.ppid k.payload k.rest _ k.words_are) k.payload_is))
    where
      behind : (s p h : List ℕ) (r : List (List ℕ)) (e : List ℕ) → codes "send" ∷ end ∷ stream ∷ ppid ∷ payload ∷ rest ≡ codes "send" ∷ e ∷ s ∷ p ∷ h ∷ r → h ≡ payload
      behind s p h r e is = cc
