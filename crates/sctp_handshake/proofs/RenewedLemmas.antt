-- A cookie that is in place of an association stands for another one.
use Rattle.std.proofs.Common.{◌≡◌, ◌⊎◌, inl, inr, ℕ, Bool, true, false, Option, Some, None, not, ◌==◌, refl, ap, sym, ◌∙◌, arith, Result, Ok, Err, OnErr, ◌&&◌}
use Rattle.std.proofs.lemmas.Bool.Decides.{nat_tests}
use Rattle.sctp_capabilities.specs.StateCookie.{Cookie}
use Rattle.spec_endpoint.specs.Association.{State, Closed, CookieWait, Open}
use Rattle.spec_endpoint.specs.Calls.{ready_in}
use Rattle.spec_endpoint.specs.Opening.{CookieResolution, by_tags, resolve_cookie, as_restart, EstablishNew, RestartDetected, SimultaneousInit, MaintainExisting, Discard, InvalidTag, resolve_by_tags}
use Rattle.spec_endpoint.specs.Shown.{Association, association_in}
use Rattle.sctp_endpoint.specs.KeepsReady.{KeepsReady}
use Rattle.sctp_endpoint.proofs.KeepsReadyLemmas.{from_nothing, keeps_same}
use Rattle.sctp_handshake.specs.Beginning.{association_by, begins_anew}
use Rattle.spec_endpoint.specs.Sending.{is_before_cookie_ack}

other_peer : (o p same none : Bool) → begins_anew (by_tags o p same none) ≡ true → p ≡ true
other_peer true true true none e = refl
other_peer true true false none e = absurd (cc)
other_peer false true same none e = refl
other_peer true false same true e = absurd (cc)
other_peer true false same false e = absurd (cc)
other_peer false false same none e = absurd (cc)

by_tags_anew : (is_late : Bool) (v : CookieResolution) → begins_anew (as_restart is_late v) ≡ true → begins_anew v ≡ true
by_tags_anew false v e = e
by_tags_anew true EstablishNew e = e
by_tags_anew true RestartDetected e = e
by_tags_anew true SimultaneousInit e = refl
by_tags_anew true MaintainExisting e = e
by_tags_anew true Discard e = e
by_tags_anew true InvalidTag e = e

abbrev peer_in : Option Association → ℕ
peer_in None = 0
peer_in (Some a) = a.peer_tag

not_same : (n m : ℕ) → not (n == m) ≡ true → n ≡ m → ⊥
not_same n m other e = grind (arith, nat_tests)

pub renewed : (avoids_stalls : Bool) (tag : ℕ) (k : Cookie) (s t : State) → begins_anew (resolve_cookie avoids_stalls tag k s) ≡ true → association_in t ≡ Some (association_by k) → KeepsReady s t
renewed avoids_stalls tag k Closed t r a = from_nothing Closed t refl
renewed avoids_stalls tag k (CookieWait own first t1) t r a = from_nothing (CookieWait own first t1) t refl
renewed avoids_stalls tag k (Open phase u) t r a =
    let tags : begins_anew (resolve_by_tags tag u.identity k) ≡ true = by_tags_anew (avoids_stalls && not (is_before_cookie_ack phase)) (resolve_by_tags tag u.identity k) r in
    inr (λ e. not_same k.peer_tag u.identity.peer_tag (other_peer (not (tag == u.identity.my_tag)) (not (k.peer_tag == u.identity.peer_tag)) (k.tie_tag == u.identity.tie) (k.tie_tag == 0) tags) (ap peer_in (sym a ∙ e)))

-- what a cookie left, where memory ran out
pub left_by_cookie : {T F : Type 0} (result : Result T F) (resolution : CookieResolution) (avoids_stalls : Bool) (tag : ℕ) (k : Cookie) (s t : State)
    → resolution ≡ resolve_cookie avoids_stalls tag k s
    → OnErr result ((ready_in t ≡ ready_in s) ⊎ ((begins_anew resolution ≡ true) × (association_in t ≡ Some (association_by k)))) → OnErr result (KeepsReady s t)
left_by_cookie (Ok x) resolution avoids_stalls tag k s t is left = tt
left_by_cookie (Err x) resolution avoids_stalls tag k s t is (inl same) = keeps_same s t same
left_by_cookie (Err x) resolution avoids_stalls tag k s t is (inr both) = renewed avoids_stalls tag k s t (sym (ap begins_anew is) ∙ both.0) both.1
