use Rattle.core_steps.specs.Queries.{divided}
use Rattle.core_steps.proofs.KeptBoards.{cuts_within}
use Rattle.core_steps.proofs.NeverTwice.{never_twice}
use Rattle.core_steps.proofs.laws.law_of_coverings.Goals as goal

pub returns : goal.returns
returns g c =
    let cuts = cuts_within g.K.PathKey.path_of c.law_of_cuts.ensures.divide in
    λ s t xs ys j is run. never_twice _ (divided g.K.PathKey.path_of g.Q.Bulk.decides) cuts s t xs ys j run is
