use Rattle.hash_path.proofs.WordLaws.{position-below, position-injective, position-onto}
use Rattle.hash_path.proofs.laws.position_is_bijection.Goals as goal

pub returns-clause-below : goal.returns-clause-below
returns-clause-below c = position-below

pub returns-clause-injective : goal.returns-clause-injective
returns-clause-injective c = position-injective

pub returns-clause-onto : goal.returns-clause-onto
returns-clause-onto c = position-onto
