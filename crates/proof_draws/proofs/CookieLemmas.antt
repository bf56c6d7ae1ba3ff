-- Cookies that are written anew.
use Rattle.std.proofs.Common.{◌≡◌, ℕ, nat_eq, nat_lt, Bool, true, false, Result, Ok, Err, List, length, take, codes, inl, inr, refl, sym, ap, ◌∙◌}
use Rattle.std.specs.Cmp.Lexicographic.{pointwise, same_text}
use Rattle.std.specs.List.{starts_with}
use Rattle.std.proofs.lemmas.Bool.{cases_eq}
use Rattle.sctp_state.specs.declared.api.SctpImplementation.{SctpImplementation}
use Rattle.sctp_state.specs.declared.api.SctpImplementation.TheVariants as implementations
use Rattle.sctp_capabilities.specs.StateCookie.{Cookie, CookieFits, has_tags, magic, cookie_bytes, read_cookie}
use Rattle.sctp_capabilities.specs.declared.state_cookie.StateCookieError.{StateCookieError}
use Rattle.sctp_capabilities.proofs.CookieLemmas.{refused_size, refused_magic, length_cookie_bytes, read_cookie_bytes}
use Rattle.spec_endpoint.specs.Opening.{maker_by, maker}
use Rattle.proof_draws.specs.NamedCookies.{rewritten, cookie_named, NamesCookies}

-- what can be read is 48 bytes long
of_size : (bytes : List ℕ) (k : Cookie) → read_cookie bytes ≡ Ok k → length bytes ≡ 48
of_size bytes k e =
    elim (cases_eq (length bytes) 48) [
      | inl same ↦ same
      | inr other ↦ let none = refused_size bytes other in cc
    ]

size_by : (name : Cookie → Cookie) (bytes : List ℕ) (r : Result Cookie StateCookieError) → read_cookie bytes ≡ r → length (rewritten name r bytes) ≡ length bytes
size_by name bytes (Ok k) e = length_cookie_bytes (name k) ∙ sym (of_size bytes k e)
size_by name bytes (Err fault) e = refl

made_by : (name : Cookie → Cookie) (k : Cookie) → CookieFits k → has_tags k ≡ true → cookie_named name (cookie_bytes k) ≡ cookie_bytes (name k)
made_by name k fits tags = ap (λ (r : Result Cookie StateCookieError). rewritten name r (cookie_bytes k)) (read_cookie_bytes k fits tags)

-- ---- who made it: what is read and what is written begin alike

begins_by : (bytes : List ℕ) (k : Cookie) (b : Bool) → read_cookie bytes ≡ Ok k → starts_with nat_eq bytes magic ≡ b → starts_with nat_eq bytes magic ≡ true
begins_by bytes k true e h = h
begins_by bytes k false e h = let none = refused_magic bytes (of_size bytes k e) h in cc

begins_written : (k : Cookie) → starts_with nat_eq (cookie_bytes k) magic ≡ true
unfolding cookie_bytes
begins_written k = refl

-- with these first eight bytes
abbrev made_as : (size : ℕ) → (front : List ℕ) → SctpImplementation
made_as size front =
    maker_by (nat_lt 8 size) (pointwise nat_eq (codes "dcSCTP00") front) (pointwise nat_eq magic front) (pointwise nat_eq (codes "KAME-BSD") front)

maker_begun : (bytes : List ℕ) → length bytes ≡ 48 → starts_with nat_eq bytes magic ≡ true → maker bytes ≡ implementations.DcsctpRs
maker_begun bytes size begins =
    ap (λ (k : ℕ). made_as k (take 8 bytes)) size ∙ ap (λ (front : List ℕ). made_as 48 front) (sym (same_text magic (take 8 bytes) (sym begins)))

maker_by_named : (name : Cookie → Cookie) (bytes : List ℕ) (r : Result Cookie StateCookieError) → read_cookie bytes ≡ r → maker (rewritten name r bytes) ≡ maker bytes
maker_by_named name bytes (Ok k) e =
    maker_begun (cookie_bytes (name k)) (length_cookie_bytes (name k)) (begins_written (name k))
    ∙ sym (maker_begun bytes (of_size bytes k e) (begins_by bytes k (starts_with nat_eq bytes magic) e refl))
maker_by_named name bytes (Err fault) e = refl

-- ---- read again

read_again : (name : Cookie → Cookie) (bytes : List ℕ) (r : Result Cookie StateCookieError) → read_cookie bytes ≡ r → read_cookie (cookie_named name bytes) ≡ read_cookie (rewritten name r bytes)
read_again name bytes r e = ap (λ (x : Result Cookie StateCookieError). read_cookie (rewritten name x bytes)) e

pub cookies_named : (name : Cookie → Cookie) → NamesCookies name
cookies_named name = record {
  size = λ bytes. size_by name bytes (read_cookie bytes) refl;
  makes = made_by name;
  reads = λ k fits tags named_fits named_tags.
      ap (λ (bytes : List ℕ). read_cookie bytes) (made_by name k fits tags) ∙ read_cookie_bytes (name k) named_fits named_tags;
  read = λ bytes k e named_fits named_tags. read_again name bytes (Ok k) e ∙ read_cookie_bytes (name k) named_fits named_tags;
  refused = λ bytes fault e. read_again name bytes (Err fault) e ∙ e;
  same_maker = λ bytes. maker_by_named name bytes (read_cookie bytes) refl;
}
