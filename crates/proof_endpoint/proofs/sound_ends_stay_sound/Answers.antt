use Rattle.proof_endpoint.proofs.SoundLawsLemmas.{is_new, stays_sound, stays_sound_refused}
use Rattle.proof_endpoint.proofs.sound_ends_stay_sound.Goals as goal

pub returns-clause-anew : goal.returns-clause-anew
returns-clause-anew c = is_new

pub returns-clause-after : goal.returns-clause-after
returns-clause-after c = stays_sound

pub returns-clause-refusing : goal.returns-clause-refusing
returns-clause-refusing c = stays_sound_refused
