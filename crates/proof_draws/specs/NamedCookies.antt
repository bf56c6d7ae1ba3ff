-- Cookies under other names: what can be read is written anew, and what can't stays.
use Rattle.std.specs.Prelude.{◌≡◌, ℕ, true, Result, Ok, Err, List, length}
use Rattle.sctp_capabilities.specs.StateCookie.{Cookie, CookieFits, has_tags, cookie_bytes, read_cookie}
use Rattle.sctp_capabilities.specs.declared.state_cookie.StateCookieError.{StateCookieError}
use Rattle.spec_endpoint.specs.Opening.{maker}

abbrev pub rewritten : (Cookie → Cookie) → Result Cookie StateCookieError → List ℕ → List ℕ
rewritten name (Ok k) bytes = cookie_bytes (name k)
rewritten name (Err fault) bytes = bytes

abbrev pub cookie_named : (Cookie → Cookie) → List ℕ → List ℕ
cookie_named name bytes = rewritten name (read_cookie bytes) bytes

-- Each cookie keeps its length, and names its maker as before; one that an end makes is made under the names, and what is read is
-- read as the named one.
pub record NamesCookies (name : Cookie → Cookie) : Type 0 where
  pub size : (bytes : List ℕ) → length (cookie_named name bytes) ≡ length bytes
  pub makes : (k : Cookie) → CookieFits k → has_tags k ≡ true → cookie_named name (cookie_bytes k) ≡ cookie_bytes (name k)
  pub reads : (k : Cookie) → CookieFits k → has_tags k ≡ true → CookieFits (name k) → has_tags (name k) ≡ true
      → read_cookie (cookie_named name (cookie_bytes k)) ≡ Ok (name k)
  pub read : (bytes : List ℕ) (k : Cookie) → read_cookie bytes ≡ Ok k → CookieFits (name k) → has_tags (name k) ≡ true → read_cookie (cookie_named name bytes) ≡ Ok (name k)
  pub refused : (bytes : List ℕ) (fault : StateCookieError) → read_cookie bytes ≡ Err fault → read_cookie (cookie_named name bytes) ≡ Err fault
  pub same_maker : (bytes : List ℕ) → maker (cookie_named name bytes) ≡ maker bytes

abbrev pub CookiesAreNamed : Type 0
CookiesAreNamed = (name : Cookie → Cookie) → NamesCookies name
