-- Words that begin with none of the commands' names.
use Rattle.std.proofs.Common.{◌≡◌, ◌≢◌, ℕ, List, ◌∷◌, codes, sym, ◌∙◌}
use Rattle.spec_world.specs.Observations.{Connect, Shutdown, Close, Send, SendMany, TakeMessage, Reset, SetPriority, SetMaxMessageSize, SetLowThreshold, HandOver}
use Rattle.spec_world.specs.World.{CallOf, Give, GiveForeign, AdvanceTime}
use Rattle.sctp_world.specs.Command.{SpellsWords, Asked, probe_of, happens, passes, shown}

first : (a b : List ℕ) (more others : List (List ℕ)) → a ∷ more ≡ b ∷ others → a ≡ b
first a b more others e = cc

-- words of which the first is none of the names spell nothing
pub no_command : (words rest : List (List ℕ)) (name : List ℕ) → words ≡ name ∷ rest
    → name ≢ codes "probe" → name ≢ codes "connect" → name ≢ codes "shutdown" → name ≢ codes "close" → name ≢ codes "reset" → name ≢ codes "foreign"
    → name ≢ codes "send" → name ≢ codes "recv" → name ≢ codes "give" → name ≢ codes "time" → name ≢ codes "show"
    → (asked : Asked) → SpellsWords words asked → ⊥
no_command words rest name e probe connect shutdown close reset foreign send recv give time show (probe_of bytes) k = probe (first _ _ _ _ (sym e ∙ k.1))
no_command words rest name e probe connect shutdown close reset foreign send recv give time show (happens (CallOf x Connect)) k = connect (first _ _ _ _ (sym e ∙ k))
no_command words rest name e probe connect shutdown close reset foreign send recv give time show (happens (CallOf x Shutdown)) k = shutdown (first _ _ _ _ (sym e ∙ k))
no_command words rest name e probe connect shutdown close reset foreign send recv give time show (happens (CallOf x Close)) k = close (first _ _ _ _ (sym e ∙ k))
no_command words rest name e probe connect shutdown close reset foreign send recv give time show (happens (CallOf x (Send m o))) k = send (first _ _ _ _ (sym e ∙ k.words_are))
no_command words rest name e probe connect shutdown close reset foreign send recv give time show (happens (CallOf x (SendMany ms o))) k = k
no_command words rest name e probe connect shutdown close reset foreign send recv give time show (happens (CallOf x TakeMessage)) k = recv (first _ _ _ _ (sym e ∙ k))
no_command words rest name e probe connect shutdown close reset foreign send recv give time show (happens (CallOf x (Reset streams))) k = reset (first _ _ _ _ (sym e ∙ k.2))
no_command words rest name e probe connect shutdown close reset foreign send recv give time show (happens (CallOf x (SetPriority stream priority))) k = k
no_command words rest name e probe connect shutdown close reset foreign send recv give time show (happens (CallOf x (SetMaxMessageSize bytes))) k = k
no_command words rest name e probe connect shutdown close reset foreign send recv give time show (happens (CallOf x (SetLowThreshold stream bytes))) k = k
no_command words rest name e probe connect shutdown close reset foreign send recv give time show (happens (CallOf x HandOver)) k = k
no_command words rest name e probe connect shutdown close reset foreign send recv give time show (happens (Give packet x)) k = give (first _ _ _ _ (sym e ∙ k.1))
no_command words rest name e probe connect shutdown close reset foreign send recv give time show (happens (GiveForeign x bytes)) k = foreign (first _ _ _ _ (sym e ∙ k.1))
no_command words rest name e probe connect shutdown close reset foreign send recv give time show (happens (AdvanceTime x now)) k = k
no_command words rest name e probe connect shutdown close reset foreign send recv give time show (passes now) k = time (first _ _ _ _ (sym e ∙ k.2))
no_command words rest name e probe connect shutdown close reset foreign send recv give time show (shown x packet) k = show (first _ _ _ _ (sym e ∙ k.1))
