use Rattle.hash_path.proofs.WordLaws.{position-interval, prefix-interval, lowest-step}
use Rattle.hash_path.proofs.laws.shared_digits_are_interval.Goals as goal

pub returns-clause-interval : goal.returns-clause-interval
returns-clause-interval c = position-interval

pub returns-clause-step : goal.returns-clause-step
returns-clause-step c = lowest-step

pub returns-clause-prefix : goal.returns-clause-prefix
returns-clause-prefix c = prefix-interval
