use Rattle.sctp_reassembly.proofs.places.found_with.Goals as goal

pub returns-in-Some-clause-some : goal.returns-in-Some-clause-some
returns-in-Some-clause-some g c = c.in-Some.ensures
