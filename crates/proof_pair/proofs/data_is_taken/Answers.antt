use Rattle.proof_pair.proofs.TakingLemmas.{refused_data, new_data, refused_points, points_reach}
use Rattle.proof_pair.proofs.data_is_taken.Goals as goal

pub returns-clause-refused : goal.returns-clause-refused
returns-clause-refused c = refused_data

pub returns-clause-added : goal.returns-clause-added
returns-clause-added c = new_data

pub returns-clause-ignored : goal.returns-clause-ignored
returns-clause-ignored c = refused_points

pub returns-clause-passed : goal.returns-clause-passed
returns-clause-passed c = points_reach
