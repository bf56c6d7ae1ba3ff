-- Cookies: what is written is read back, and each reading is the only one.
use Rattle.std.proofs.Common.{◌≡◌, ◌≢◌, ℕ, ◌+◌, Bool, true, false, Ok, Err, List, [], ◌∷◌, ◌++◌, length, get_or, drop, nat_eq, refl, sym, ap, ◌∙◌, arith}
use Rattle.std.specs.List.{starts_with}
use Rattle.std.proofs.lemmas.Nat.{from_be_bytes-to_be_bytes_2, from_be_bytes-to_be_bytes_4, from_be_bytes-to_be_bytes_8}
use Rattle.std.proofs.lemmas.Bool.{eq-eqb, ne_eqb}
use Rattle.sctp_wire.specs.Field.{be16, be32, be64}
use Rattle.sctp_wire.specs.Serialize.{IsEncodable}
use Rattle.sctp_wire.specs.Parameter.{state_cookie, parameter_item, parameter_value}
use Rattle.sctp_capabilities.specs.Capabilities.{Capabilities}
use Rattle.sctp_capabilities.specs.StateCookie.{Cookie, CapabilitiesFit, CookieFits, SpellsCapabilities, SpellsCookie, magic, flag_byte, is_set, capability_bytes, cookie_bytes, cookie_from, has_tags, read_cookie}
use Rattle.sctp_capabilities.specs.declared.state_cookie.StateCookieError.{StateCookieError}
use Rattle.sctp_capabilities.specs.declared.state_cookie.StateCookieError.TheVariants.{InvalidSize, InvalidMagic, InvalidVerificationTag}

-- ---- fields at their places

-- the bytes of these fields, behind the magic
abbrev fields : (peer_tag my_tag peer_tsn my_tsn a_rwnd tie : ℕ) → List ℕ → List ℕ
fields peer_tag my_tag peer_tsn my_tsn a_rwnd tie rest =
    be32 peer_tag ++ (be32 my_tag ++ (be32 peer_tsn ++ (be32 my_tsn ++ (be32 a_rwnd ++ (be64 tie ++ rest)))))

abbrev capability_fields : (p i r z : ℕ) (method incoming outgoing : ℕ) → List ℕ
capability_fields p i r z method incoming outgoing = (p ∷ i ∷ r ∷ z ∷ []) ++ (be32 method ++ (be16 incoming ++ be16 outgoing))

-- what stands at each place
fields_in : (c : Cookie) (p i r z : ℕ) → CookieFits c
    → c.peer_capabilities.partial_reliability ≡ is_set p → c.peer_capabilities.message_interleaving ≡ is_set i
    → c.peer_capabilities.reconfig ≡ is_set r
    → cookie_from (magic ++ fields c.peer_tag c.my_tag c.peer_initial_tsn c.my_initial_tsn c.a_rwnd c.tie_tag
    (capability_fields p i r z c.peer_capabilities.zero_checksum_method c.peer_capabilities.incoming c.peer_capabilities.outgoing)) ≡ c
unfolding be16 be32 be64 cookie_from
fields_in c p i r z h ep ei er =
    let tag = from_be_bytes-to_be_bytes_4 c.peer_tag h.peer_tag in
    let mine = from_be_bytes-to_be_bytes_4 c.my_tag h.my_tag in
    let tsn = from_be_bytes-to_be_bytes_4 c.peer_initial_tsn h.peer_initial_tsn in
    let my_tsn = from_be_bytes-to_be_bytes_4 c.my_initial_tsn h.my_initial_tsn in
    let window = from_be_bytes-to_be_bytes_4 c.a_rwnd h.a_rwnd in
    let tie = from_be_bytes-to_be_bytes_8 c.tie_tag h.tie_tag in
    let method = from_be_bytes-to_be_bytes_4 c.peer_capabilities.zero_checksum_method h.peer_capabilities.zero_checksum_method in
    let incoming = from_be_bytes-to_be_bytes_2 c.peer_capabilities.incoming h.peer_capabilities.incoming in
    let outgoing = from_be_bytes-to_be_bytes_2 c.peer_capabilities.outgoing h.peer_capabilities.outgoing in
    let flag = sym ep in
    let interleaving = sym ei in
    let reconfig = sym er in
    λ j. record {
      peer_tag = tag j;
      my_tag = mine j;
      peer_initial_tsn = tsn j;
      my_initial_tsn = my_tsn j;
      a_rwnd = window j;
      tie_tag = tie j;
      peer_capabilities = record {
        partial_reliability = flag j;
        message_interleaving = interleaving j;
        reconfig = reconfig j;
        zero_checksum_method = method j;
        incoming = incoming j;
        outgoing = outgoing j;
      };
    }

-- four bytes are four cells
four_cells : (flags rest : List ℕ) (c : Cookie) → length flags ≡ 4 → CookieFits c
    → c.peer_capabilities.partial_reliability ≡ is_set (get_or flags 0 0) → c.peer_capabilities.message_interleaving ≡ is_set (get_or flags 1 0)
    → c.peer_capabilities.reconfig ≡ is_set (get_or flags 2 0)
    → cookie_from (magic ++ fields c.peer_tag c.my_tag c.peer_initial_tsn c.my_initial_tsn c.a_rwnd c.tie_tag
    (flags ++ (be32 c.peer_capabilities.zero_checksum_method ++ (be16 c.peer_capabilities.incoming ++ be16 c.peer_capabilities.outgoing)))) ≡ c
four_cells (p ∷ i ∷ r ∷ z ∷ []) rest c four fits ep ei er = fields_in c p i r z fits ep ei er
four_cells flags rest c four fits ep ei er = absurd (omega arith)

pub cookie_from_spelled : (bytes rest : List ℕ) (c : Cookie) → bytes ≡ magic ++ rest → SpellsCookie rest c → cookie_from bytes ≡ c
cookie_from_spelled bytes rest c e s =
    let k = s.spells in
    rw (e, s.spelled, k.spelled) (four_cells k.flags rest c k.four s.fits k.partial_reliability k.message_interleaving k.reconfig)

-- ---- the three tests

pub refused_size : (bytes : List ℕ) → length bytes ≢ 48 → read_cookie bytes ≡ Err InvalidSize
unfolding read_cookie
refused_size bytes other = rw (ne_eqb (length bytes) 48 other) refl

pub refused_magic : (bytes : List ℕ) → length bytes ≡ 48 → starts_with nat_eq bytes magic ≡ false → read_cookie bytes ≡ Err InvalidMagic
unfolding read_cookie
refused_magic bytes size other = rw (eq-eqb (length bytes) 48 size, other) refl

pub refused_tags : (bytes : List ℕ) → length bytes ≡ 48 → starts_with nat_eq bytes magic ≡ true → has_tags (cookie_from bytes) ≡ false
    → read_cookie bytes ≡ Err InvalidVerificationTag
unfolding read_cookie
refused_tags bytes size begins none = rw (eq-eqb (length bytes) 48 size, begins, none) refl

pub accepted : (bytes : List ℕ) → length bytes ≡ 48 → starts_with nat_eq bytes magic ≡ true → has_tags (cookie_from bytes) ≡ true
    → read_cookie bytes ≡ Ok (cookie_from bytes)
unfolding read_cookie
accepted bytes size begins both = rw (eq-eqb (length bytes) 48 size, begins, both) refl

pub both_tags : (c : Cookie) → c.peer_tag ≢ 0 → c.my_tag ≢ 0 → has_tags c ≡ true
both_tags c peer mine = rw (ne_eqb c.peer_tag 0 peer, ne_eqb c.my_tag 0 mine) refl

pub no_peer_tag : (c : Cookie) → c.peer_tag ≡ 0 → has_tags c ≡ false
no_peer_tag c none = rw (eq-eqb c.peer_tag 0 none) refl

pub no_own_tag : (c : Cookie) → c.peer_tag ≢ 0 → c.my_tag ≡ 0 → has_tags c ≡ false
no_own_tag c peer none = rw (ne_eqb c.peer_tag 0 peer, eq-eqb c.my_tag 0 none) refl

-- bytes that spell a cookie are refused by its tags alone
begins_with_magic : (bytes rest : List ℕ) → bytes ≡ magic ++ rest → starts_with nat_eq bytes magic ≡ true
begins_with_magic bytes rest e = rw e refl

pub accepted_cookie : (bytes rest : List ℕ) (c : Cookie) → length bytes ≡ 48 → bytes ≡ magic ++ rest → SpellsCookie rest c
    → has_tags c ≡ true → read_cookie bytes ≡ Ok c
accepted_cookie bytes rest c size e s both =
    let same = cookie_from_spelled bytes rest c e s in
    accepted bytes size (begins_with_magic bytes rest e) (ap has_tags same ∙ both) ∙ ap Ok same

spelled_size : (flags : List ℕ) (c : Cookie) → length flags ≡ 4
    → length (magic ++ fields c.peer_tag c.my_tag c.peer_initial_tsn c.my_initial_tsn c.a_rwnd c.tie_tag
    (flags ++ (be32 c.peer_capabilities.zero_checksum_method ++ (be16 c.peer_capabilities.incoming ++ be16 c.peer_capabilities.outgoing)))) ≡ 48
unfolding be64 be32 be16
spelled_size (p ∷ i ∷ r ∷ z ∷ []) c four = refl
spelled_size flags c four = absurd (omega arith)

pub spelled_cookie : (bytes rest : List ℕ) (c : Cookie) → bytes ≡ magic ++ rest → SpellsCookie rest c → has_tags c ≡ true → read_cookie bytes ≡ Ok c
spelled_cookie bytes rest c e s both =
    let size : length bytes ≡ 48 = rw (e, s.spelled, s.spells.spelled) (spelled_size s.spells.flags c s.spells.four) in
    accepted_cookie bytes rest c size e s both

-- ---- what was written

pub is_set_flag_byte : (b : Bool) → b ≡ is_set (flag_byte b)
is_set_flag_byte true = refl
is_set_flag_byte false = refl

pub capabilities_spelled : (k : Capabilities) → CapabilitiesFit k → SpellsCapabilities (capability_bytes k) k
unfolding capability_bytes
capabilities_spelled k fits = record {
  flags = flag_byte k.partial_reliability ∷ flag_byte k.message_interleaving ∷ flag_byte k.reconfig ∷ 0 ∷ [];
  spelled = refl;
  four = refl;
  partial_reliability = is_set_flag_byte k.partial_reliability;
  message_interleaving = is_set_flag_byte k.message_interleaving;
  reconfig = is_set_flag_byte k.reconfig;
  fits = fits;
}

pub length_cookie_bytes : (c : Cookie) → length (cookie_bytes c) ≡ 48
unfolding cookie_bytes capability_bytes be64 be32 be16
length_cookie_bytes c = refl

-- A cookie that was made with two tags is read back: whoever sends its bytes brings it.
pub read_cookie_bytes : (c : Cookie) → CookieFits c → has_tags c ≡ true → read_cookie (cookie_bytes c) ≡ Ok c
unfolding cookie_bytes
read_cookie_bytes c fits both =
    accepted_cookie (cookie_bytes c) (drop 8 (cookie_bytes c)) c (length_cookie_bytes c) refl
    (record {
      capabilities = capability_bytes c.peer_capabilities;
      spelled = refl;
      spells = capabilities_spelled c.peer_capabilities fits.peer_capabilities;
      fits = fits;
    })
    both

-- bytes that are refused aren't those of a cookie
pub not_written : (bytes : List ℕ) (e : StateCookieError) → read_cookie bytes ≡ Err e
    → (c : Cookie) → CookieFits c → has_tags c ≡ true → bytes ≡ cookie_bytes c → ⊥
not_written bytes e refused c fits both same =
    let good = read_cookie_bytes c fits both in
    let joined = sym (ap read_cookie same ∙ good) ∙ refused in
    cc

-- bytes that say one cookie aren't those of another
pub as_written : (bytes : List ℕ) (d : Cookie) → read_cookie bytes ≡ Ok d
    → (c : Cookie) → CookieFits c → has_tags c ≡ true → bytes ≡ cookie_bytes c → d ≡ c
as_written bytes d said c fits both same =
    let good = read_cookie_bytes c fits both in
    let joined = sym said ∙ (ap read_cookie same ∙ good) in
    cc

-- the parameter that holds a cookie can be written
pub cookie_bytes_writable : (c : Cookie) → IsEncodable (parameter_item (state_cookie (cookie_bytes c)))
unfolding parameter_value
cookie_bytes_writable c = omega (arith, length_cookie_bytes c)
