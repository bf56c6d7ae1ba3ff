use Rattle.std.proofs.Common.{arith, Result, Ok, Err}
use Rattle.std.specs.Prelude.{OnOk}
use Rattle.sctp_capabilities.specs.StateCookie.{CookieFits, cookie_of}
use Rattle.sctp_capabilities.proofs.state_cookie.push_cookie.Goals as goal

on_ok : {A E : Type 0} (r : Result A E) (P : Type 0) → P → OnOk r P
on_ok (Ok x) P p = p
on_ok (Err e) P p = tt

pub returns-clause-fits : goal.returns-clause-fits
returns-clause-fits c = on_ok c.push_capabilities.result (CookieFits (cookie_of c.args.cookie.now)) (record {
  peer_tag = omega arith;
  my_tag = omega arith;
  peer_initial_tsn = omega arith;
  my_initial_tsn = omega arith;
  a_rwnd = omega arith;
  tie_tag = omega arith;
  peer_capabilities = c.push_capabilities.ensures.fits;
})
