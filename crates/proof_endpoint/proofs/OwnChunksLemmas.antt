-- Chunks that an end makes of what it has are fair.
use Rattle.std.proofs.Common.{◌≡◌, ℕ, zero, suc, ◌==◌, ◌^◌, ◌<◌, Bool, true, false, not, Option, Some, None, List, [], ◌∷◌, ◌++◌, refl, subst, arith, codes}
use Rattle.std.specs.Prelude.{nat_lt}
use Rattle.std.specs.List.{list_all}
use Rattle.std.specs.Str.{IsUtf8, IsAscii}
use Rattle.std.proofs.lemmas.Str.{IsUtf8-from_ascii}
use Rattle.std.proofs.lemmas.Bool.{and_parts}
use Rattle.std.proofs.lemmas.List.Elements.{All-cons, All-nil}
use Rattle.sctp_wire.specs.Parameter.{ParameterTree, heartbeat_info, state_cookie, supported_extensions, forward_tsn_supported, zero_checksum_acceptable}
use Rattle.sctp_wire.specs.Cause.{CauseTree, missing_mandatory_parameter, cookie_received_while_shutting_down, user_initiated_abort}
use Rattle.sctp_packet.specs.Chunk.{ChunkTree, data_chunk, idata_chunk, forward_tsn_chunk, i_forward_tsn_chunk, abort_chunk, error_chunk, shutdown_chunk, shutdown_ack_chunk, shutdown_complete_chunk}
use Rattle.sctp_packet.specs.Grammar.{Each}
use Rattle.sctp_state.specs.Options.{Options}
use Rattle.sctp_rx.specs.DataTracker as tracker
use Rattle.sctp_capabilities.specs.Capabilities.{Capabilities, where_enabled, extensions, announced_parameters, same_method}
use Rattle.sctp_capabilities.specs.StateCookie.{Cookie, cookie_bytes}
use Rattle.sctp_capabilities.proofs.CookieLemmas.{length_cookie_bytes}
use Rattle.spec_endpoint.specs.Association.{Tcb, State, Closed, CookieWait, Open}
use Rattle.spec_endpoint.specs.Heartbeats.{info_of, heartbeat_chunk}
use Rattle.spec_endpoint.specs.Input.{unless, interleaving_text, no_interleaving_text, no_partial_text, forward_misused, misuse, violation}
use Rattle.proof_endpoint.specs.Sound.{HasBytes}
use Rattle.proof_endpoint.specs.Fair.{IsFairParameter, IsFairCause, IsFair}
use Rattle.proof_endpoint.proofs.ReceivedLemmas.{each_append, each_push}
use Rattle.proof_endpoint.proofs.SoundItemsLemmas.{word_small}
use Rattle.sctp_serial.proofs.NumberLemmas.{fits_or_zero}
use Rattle.spec_endpoint.specs.Opening.{spent_chunk}

-- ---- texts

abbrev is_letter : ℕ → Bool
is_letter b = nat_lt b 128

below : (b : ℕ) → is_letter b ≡ true → b < 128
below b h = grind (arith)

letter_at : (bs : List ℕ) → list_all is_letter bs ≡ true → IsAscii bs
letter_at [] h i = omega arith
letter_at (b ∷ bs) h zero = below b (and_parts (is_letter b) (list_all is_letter bs) h).0
letter_at (b ∷ bs) h (suc i) = letter_at bs (and_parts (is_letter b) (list_all is_letter bs) h).1 i

-- a text of letters
pub is_text : (bs : List ℕ) → list_all (λ (b : ℕ). nat_lt b 128) bs ≡ true → IsUtf8 bs
is_text bs h = IsUtf8-from_ascii bs (letter_at bs h)

interleaving_is_text : IsUtf8 interleaving_text
interleaving_is_text = is_text interleaving_text refl

no_interleaving_is_text : IsUtf8 no_interleaving_text
no_interleaving_is_text = is_text no_interleaving_text refl

no_partial_is_text : IsUtf8 no_partial_text
no_partial_is_text = is_text no_partial_text refl

abbrev IsReason : Option (List ℕ) → Type 0
IsReason None = Unit {0}
IsReason (Some reason) = IsUtf8 reason

unless_reason : (b : Bool) (text : List ℕ) → IsUtf8 text → IsReason (unless b text)
unless_reason true text h = tt
unless_reason false text h = h

forward_reason : (b : Bool) (text : List ℕ) (p : Bool) → IsUtf8 text → IsReason (forward_misused b text p)
forward_reason false text p h = h
forward_reason true text p h = unless_reason p no_partial_text no_partial_is_text

misuse_reason : (k : Capabilities) (chunk : ChunkTree) → IsReason (misuse k chunk)
misuse_reason k (data_chunk tsn immediate f) = unless_reason (not k.message_interleaving) interleaving_text interleaving_is_text
misuse_reason k (idata_chunk tsn immediate f) = unless_reason k.message_interleaving no_interleaving_text no_interleaving_is_text
misuse_reason k (forward_tsn_chunk tsn skipped) = forward_reason (not k.message_interleaving) interleaving_text k.partial_reliability interleaving_is_text
misuse_reason k (i_forward_tsn_chunk tsn skipped) = forward_reason k.message_interleaving no_interleaving_text k.partial_reliability no_interleaving_is_text
misuse_reason k chunk = tt

violation_reason : (s : State) (chunk : ChunkTree) → IsReason (violation s chunk)
violation_reason Closed chunk = tt
violation_reason (CookieWait tag first t1) chunk = tt
violation_reason (Open phase t) chunk = misuse_reason t.capabilities chunk

-- a reason to abort is a text
pub reason_is_text : (s : State) (chunk : ChunkTree) (reason : List ℕ) → violation s chunk ≡ Some reason → IsUtf8 reason
reason_is_text s chunk reason is = subst IsReason is (violation_reason s chunk)

-- ---- chunks

pub fair_user_abort : (text : List ℕ) → list_all (λ (b : ℕ). nat_lt b 128) text ≡ true → IsFairCause (user_initiated_abort text)
fair_user_abort text h = record { fits = tt; text = is_text text h; of_its_variant = tt }

pub fair_abort : (cause : CauseTree) → IsFairCause cause → IsFair (abort_chunk false (cause ∷ []))
fair_abort cause h = record { fits = tt; inside = (h, tt) }

pub fair_spent : IsFair spent_chunk
fair_spent = fair_abort (user_initiated_abort (codes "The association is over")) (fair_user_abort (codes "The association is over") refl)

pub fair_error : (cause : CauseTree) → IsFairCause cause → IsFair (error_chunk (cause ∷ []))
fair_error cause h = record { fits = tt; inside = (h, tt) }

pub fair_too_late : IsFair (error_chunk (cookie_received_while_shutting_down ∷ []))
fair_too_late = fair_error cookie_received_while_shutting_down (record { fits = tt; text = tt; of_its_variant = tt })

pub fair_missing : IsFair (abort_chunk false (missing_mandatory_parameter (7 ∷ []) ∷ []))
fair_missing =
    let seven : 7 < 2 ^ 16 = omega arith in
    let one : 1 < 2 ^ 32 = omega arith in
    fair_abort (missing_mandatory_parameter (7 ∷ []))
    (record { fits = (one, All-cons (λ (n : ℕ). n < 2 ^ 16) 7 [] seven (All-nil (λ (n : ℕ). n < 2 ^ 16))); text = tt; of_its_variant = tt })

pub fair_shutdown : (t : Tcb) → IsFair (shutdown_chunk (tracker.wire_tsn t.tracker t.tracker.tracker.seen.front))
fair_shutdown t = record { fits = word_small t.tracker.first _; inside = tt }

pub fair_shutdown_ack : IsFair shutdown_ack_chunk
fair_shutdown_ack = record { fits = tt; inside = tt }

pub fair_complete : (b : Bool) → IsFair (shutdown_complete_chunk b)
fair_complete b = record { fits = tt; inside = tt }

pub fair_heartbeat : (counter : ℕ) → IsFair (heartbeat_chunk counter)
fair_heartbeat counter =
    let fair : IsFairParameter (heartbeat_info (info_of counter)) = record { fits = tt; of_its_variant = tt } in
    record { fits = tt; inside = (fair, tt) }

-- ---- parameters

pub record IsOwn (p : ParameterTree) : Type 0 where
  pub fair : IsFairParameter p
  pub cookie : HasBytes p

where_each : (P : ParameterTree → Type 0) (b : Bool) (ps : List ParameterTree) → Each P ps → Each P (where_enabled b ps)
where_each P true ps h = h
where_each P false ps h = tt

pub own_announced : (o : Options) (method : ℕ) → method < 2 ^ 32 → Each IsOwn (announced_parameters o method)
own_announced o method h =
    let forward : IsOwn forward_tsn_supported = record { fair = record { fits = tt; of_its_variant = tt }; cookie = tt } in
    let sum : IsOwn (zero_checksum_acceptable method) = record { fair = record { fits = h; of_its_variant = tt }; cookie = tt } in
    let types : IsOwn (supported_extensions (extensions o)) = record { fair = record { fits = tt; of_its_variant = tt }; cookie = tt } in
    each_append IsOwn (where_enabled o.enable_partial_reliability (forward_tsn_supported ∷ [])) _
    (where_each IsOwn o.enable_partial_reliability (forward_tsn_supported ∷ []) (forward, tt))
    (each_append IsOwn (where_enabled (not (method == 0)) (zero_checksum_acceptable method ∷ [])) (supported_extensions (extensions o) ∷ [])
    (where_each IsOwn (not (method == 0)) (zero_checksum_acceptable method ∷ []) (sum, tt)) (types, tt))

pub own_with_cookie : (ps : List ParameterTree) (k : Cookie) → Each IsOwn ps → Each IsOwn (ps ++ state_cookie (cookie_bytes k) ∷ [])
own_with_cookie ps k h =
    each_push IsOwn ps (state_cookie (cookie_bytes k)) h
    (record { fair = record { fits = tt; of_its_variant = tt }; cookie = omega (arith, length_cookie_bytes k) })

pub own_fair : (ps : List ParameterTree) → Each IsOwn ps → Each IsFairParameter ps
own_fair [] h = tt
own_fair (p ∷ ps) h = (h.0.fair, own_fair ps h.1)

pub own_cookies : (ps : List ParameterTree) → Each IsOwn ps → Each HasBytes ps
own_cookies [] h = tt
own_cookies (p ∷ ps) h = (h.0.cookie, own_cookies ps h.1)

pub same_method_fits : (own other : ℕ) → own < 2 ^ 32 → same_method own other < 2 ^ 32
same_method_fits own other h = fits_or_zero (own == other) own h
