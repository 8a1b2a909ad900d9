use Rattle.core_steps.specs.Queries.{divided}
use Rattle.core_steps.proofs.Runs.{run_of_machine}
use Rattle.core_steps.proofs.laws.law_of_runs.Goals as goal

pub returns : goal.returns
returns g c = λ s t xs ys run. run_of_machine _ (divided g.K.PathKey.path_of g.Q.Bulk.decides) s t xs ys run
