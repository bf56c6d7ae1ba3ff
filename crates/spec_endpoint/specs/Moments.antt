-- Laws of time: before the moment that `poll_timeout` names, it moves the clock alone; a moment before the clock's changes nothing.
use Rattle.std.specs.Prelude.{◌≡◌, ℕ, ◌<◌, ◌≤◌, Bool, false, List}
use Rattle.spec_endpoint.specs.Association.{State, Closed, CookieWait, Open, EndpointState}
use Rattle.spec_endpoint.specs.Sending.{is_before_cookie_ack}
use Rattle.spec_endpoint.specs.Timers.{advance, poll_timeout}

abbrev pub at_moment : {P : Type 0} → (now : ℕ) → EndpointState P → EndpointState P
at_moment now s = record s { context = record s.context { now = now } }

-- there T1-cookie alone is named by `poll_timeout`, and the delay of an acknowledgement may end before
abbrev pub is_cookie_echoed : State → Bool
is_cookie_echoed Closed = false
is_cookie_echoed (CookieWait tag first t1) = false
is_cookie_echoed (Open phase t) = is_before_cookie_ack phase

abbrev pub AMomentBeforeMovesTheClock : Type 0
AMomentBeforeMovesTheClock =
    (now : ℕ) (s : EndpointState (List ℕ)) → is_cookie_echoed s.state ≡ false → s.context.now ≤ now → now < poll_timeout s → advance now s ≡ at_moment now s

abbrev pub AnEarlierMomentChangesNothing : Type 0
AnEarlierMomentChangesNothing = (now : ℕ) (s : EndpointState (List ℕ)) → now < s.context.now → advance now s ≡ s
