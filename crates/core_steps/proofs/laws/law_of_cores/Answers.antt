use Rattle.core_steps.specs.Queries.{divided}
use Rattle.core_steps.proofs.KeptBoards.{cuts_within}
use Rattle.core_steps.proofs.KeptCores.{new_is_core, step_kept}
use Rattle.core_steps.proofs.laws.law_of_cores.Goals as goal

pub returns : goal.returns
returns g c =
    let cuts = cuts_within g.K.PathKey.path_of c.law_of_cuts.ensures.divide in
    record {
      new = λ limits workers grain some. new_is_core limits workers grain some;
      kept = λ s t x y is step. step_kept _ (divided g.K.PathKey.path_of g.Q.Bulk.decides) cuts s x y t step is;
    }
