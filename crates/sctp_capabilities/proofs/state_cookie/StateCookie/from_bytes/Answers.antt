use Rattle.std.proofs.Common.{◌≡◌, Ok, false, ap, sym, ◌∙◌}
use Rattle.sctp_capabilities.specs.StateCookie.{cookie_of, has_tags, read_cookie}
use Rattle.sctp_capabilities.specs.declared.state_cookie.StateCookieError.TheVariants.{InvalidSize, InvalidMagic, InvalidVerificationTag}
use Rattle.sctp_capabilities.proofs.CookieLemmas.{refused_size, refused_magic, refused_tags, accepted, both_tags, no_peer_tag, no_own_tag, not_written, as_written}
use Rattle.sctp_capabilities.proofs.state_cookie.StateCookie.from_bytes.Goals as goal
use Rattle.sctp_capabilities.proofs.state_cookie.StateCookie.from_bytes.Goals.{then-cookie-eq0-via-then-cookie-eq0, then-cookie-eq0-via-else-cookie-eq0+then-cookie-eq0-2}

-- another size
pub returns-then-bytes-ne-STATE_COOKIE_SIZE-clause-refused :
    goal.returns-then-bytes-ne-STATE_COOKIE_SIZE-clause-refused
returns-then-bytes-ne-STATE_COOKIE_SIZE-clause-refused c = refused_size c.args.bytes.now c.if-bytes-ne-STATE_COOKIE_SIZE.true

pub returns-then-bytes-ne-STATE_COOKIE_SIZE-clause-written :
    goal.returns-then-bytes-ne-STATE_COOKIE_SIZE-clause-written
returns-then-bytes-ne-STATE_COOKIE_SIZE-clause-written c =
    not_written c.args.bytes.now InvalidSize (returns-then-bytes-ne-STATE_COOKIE_SIZE-clause-refused c)

-- another magic
pub returns-then-not-starts_with-clause-refused : goal.returns-then-not-starts_with-clause-refused
returns-then-not-starts_with-clause-refused c =
    refused_magic c.args.bytes.now c.if-bytes-ne-STATE_COOKIE_SIZE.false
    (sym c.starts_with.ensures.value ∙ c.if-not-starts_with.true)

pub returns-then-not-starts_with-clause-written : goal.returns-then-not-starts_with-clause-written
returns-then-not-starts_with-clause-written c =
    not_written c.args.bytes.now InvalidMagic (returns-then-not-starts_with-clause-refused c)

-- a tag of 0
pub returns-then-cookie-eq0-clause-refused : goal.returns-then-cookie-eq0-clause-refused
returns-then-cookie-eq0-clause-refused c =
    let k = cookie_of c.cookie_in-cookie.result in
    let none : has_tags k ≡ false = elim c.then-cookie-eq0.branch [
      | then-cookie-eq0-via-then-cookie-eq0 w ↦ no_peer_tag k w.if-cookie-eq0.true
      | then-cookie-eq0-via-else-cookie-eq0+then-cookie-eq0-2 w ↦ no_own_tag k w.if-cookie-eq0.false w.if-cookie-eq0-2.true
    ] in
    refused_tags c.args.bytes.now c.if-bytes-ne-STATE_COOKIE_SIZE.false
    (sym c.starts_with.ensures.value ∙ c.if-not-starts_with.false) (ap has_tags (sym c.cookie_in-cookie.ensures) ∙ none)

pub returns-then-cookie-eq0-clause-written : goal.returns-then-cookie-eq0-clause-written
returns-then-cookie-eq0-clause-written c = not_written c.args.bytes.now InvalidVerificationTag (returns-then-cookie-eq0-clause-refused c)

-- a cookie
pub returns-clause-ok : goal.returns-clause-ok
returns-clause-ok c =
    let k = cookie_of c.cookie_in-cookie.result in
    let same = sym c.cookie_in-cookie.ensures in
    accepted c.args.bytes.now c.if-bytes-ne-STATE_COOKIE_SIZE.false
    (sym c.starts_with.ensures.value ∙ c.if-not-starts_with.false)
    (ap has_tags same ∙ both_tags k c.if-cookie-eq0.false c.if-cookie-eq0-2.false) ∙ ap Ok same

pub returns-clause-written : goal.returns-clause-written
returns-clause-written c = as_written c.args.bytes.now (cookie_of c.cookie_in-cookie.result) (returns-clause-ok c)
