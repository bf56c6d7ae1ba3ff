-- Names by what was drawn: they are names, and know the cookies that ends make.
use Rattle.std.proofs.Common.{◌≡◌, ◌≢◌, ℕ, ◌^◌, ◌<◌, true, Result, Ok, List, refl, sym, ap, ◌∙◌, arith}
use Rattle.std.proofs.lemmas.Bool.{eq-eqb, eqb-true}
use Rattle.sctp_capabilities.specs.declared.state_cookie.StateCookieError.{StateCookieError}
use Rattle.sctp_capabilities.specs.StateCookie.{Cookie, CookieFits, has_tags, cookie_bytes, read_cookie}
use Rattle.sctp_capabilities.proofs.CookieLemmas.{both_tags, read_cookie_bytes}
use Rattle.spec_endpoint.specs.Association.{State, Closed, CookieWait, Open}
use Rattle.spec_endpoint.specs.Input.{my_tag}
use Rattle.proof_pair.specs.Agreement.{Draw}
use Rattle.proof_draws.specs.NamedChunks.{Names, AreNames, move_by}
use Rattle.proof_draws.specs.Names.{named_cookie, named_state}
use Rattle.proof_draws.specs.Laws.{Makes}
use Rattle.proof_draws.specs.NamedCalls.{read_under}
use Rattle.proof_draws.specs.Renamed.{rename}
use Rattle.proof_draws.proofs.CookieLemmas.{cookies_named}
use Rattle.proof_draws.specs.Pairing.{tags_of, far, cookie_under, names, Knows}

-- ---- of a state

abbrev pub peer_in : State → ℕ
peer_in Closed = 0
peer_in (CookieWait tag first t1) = 0
peer_in (Open phase t) = t.identity.peer_tag

abbrev pub same_tie : ℕ → ℕ
same_tie tie = tie

-- by the tags that it holds
abbrev pub names_in : List (Draw × Draw) → State → (tie : ℕ → ℕ) → Names
names_in ps s tie = names ps (my_tag s) (peer_in s) tie same_tie

-- these are its tags, as far as it has some
abbrev pub TagsAre : (mine peer : ℕ) → State → Type 0
TagsAre mine peer Closed = Unit {0}
TagsAre mine peer (CookieWait tag first t1) = tag ≡ mine
TagsAre mine peer (Open phase t) = (t.identity.my_tag ≡ mine) × (t.identity.peer_tag ≡ peer)

pub state_by : (ps : List (Draw × Draw)) (mine peer : ℕ) (tie : ℕ → ℕ) (s : State) → TagsAre mine peer s
    → named_state (names_in ps s tie) s ≡ named_state (names ps mine peer tie same_tie) s
state_by ps mine peer tie Closed h = refl
state_by ps mine peer tie (CookieWait tag first t1) h = ap (λ (m : ℕ). named_state (names ps m peer tie same_tie) (CookieWait tag first t1)) h
state_by ps mine peer tie (Open phase t) h =
    ap (λ (m : ℕ). named_state (names ps m t.identity.peer_tag tie same_tie) (Open phase t)) h.0
    ∙ ap (λ (p : ℕ). named_state (names ps mine p tie same_tie) (Open phase t)) h.1

module _ (ps : List (Draw × Draw)) (k : Knows ps) where
  pub are_names : (mine peer : ℕ) (tie cookie_tie : ℕ → ℕ) → AreNames (names ps mine peer tie cookie_tie)
  are_names mine peer tie cookie_tie = record {
    apart = k.renames.apart;
    none = k.renames.none;
    size = (cookies_named (cookie_under ps cookie_tie)).size;
  }

  -- a tag above 0 has a name above 0
  pub some_tag : (tag : ℕ) → tag ≢ 0 → rename (tags_of ps) tag ≢ 0
  some_tag tag some none =
      some (eqb-true tag 0 (sym (k.renames.apart tag 0) ∙ eq-eqb (rename (tags_of ps) tag) (rename (tags_of ps) 0) (none ∙ sym k.renames.none)))

  module _ (mine peer : ℕ) (tie cookie_tie : ℕ → ℕ) (c : Cookie) where
    abbrev n : Names
    n = names ps mine peer tie cookie_tie

    -- whose numbers begin where those of this end do, and of that peer
    pub record IsOwn : Type 0 where
      pub own : far ps c.my_tag ≡ far ps mine
      pub other : far ps c.peer_tag ≡ far ps peer

    same_cookie : IsOwn → cookie_under ps cookie_tie c ≡ named_cookie n c
    same_cookie is =
        let by : (o p : ℕ) → Cookie = λ o p. record c {
          peer_tag = n.tag c.peer_tag;
          my_tag = n.tag c.my_tag;
          peer_initial_tsn = move_by p c.peer_initial_tsn;
          my_initial_tsn = move_by o c.my_initial_tsn;
          tie_tag = cookie_tie c.tie_tag;
        } in
        ap (λ (o : ℕ). by o (far ps c.peer_tag)) is.own ∙ ap (λ (p : ℕ). by (far ps mine) p) is.other

    pub record Made : Type 0 where
      pub fits : CookieFits c
      pub some_peer : c.peer_tag ≢ 0
      pub some_own : c.my_tag ≢ 0

    -- it is made under the names
    pub makes : IsOwn → Made → Makes n c
    makes is made =
        (cookies_named (cookie_under ps cookie_tie)).makes c made.fits (both_tags c made.some_peer made.some_own) ∙ ap cookie_bytes (same_cookie is)

    fits_under : Made → cookie_tie c.tie_tag < 2 ^ 64 → CookieFits (cookie_under ps cookie_tie c)
    fits_under made small = record {
      peer_tag = k.small c.peer_tag made.fits.peer_tag;
      my_tag = k.small c.my_tag made.fits.my_tag;
      peer_initial_tsn = omega arith;
      my_initial_tsn = omega arith;
      a_rwnd = made.fits.a_rwnd;
      tie_tag = small;
      peer_capabilities = made.fits.peer_capabilities;
    }

    -- and read back
    pub reads : IsOwn → Made → cookie_tie c.tie_tag < 2 ^ 64 → read_cookie (n.cookie (cookie_bytes c)) ≡ read_under n (read_cookie (cookie_bytes c))
    reads is made small =
        let tags : has_tags c ≡ true = both_tags c made.some_peer made.some_own in
        (cookies_named (cookie_under ps cookie_tie)).reads c made.fits tags (fits_under made small)
        (both_tags (cookie_under ps cookie_tie c) (some_tag c.peer_tag made.some_peer) (some_tag c.my_tag made.some_own))
        ∙ (ap (λ (d : Cookie). Ok d) (same_cookie is) ∙ sym (ap (λ (r : Result Cookie StateCookieError). read_under n r) (read_cookie_bytes c made.fits tags)))
