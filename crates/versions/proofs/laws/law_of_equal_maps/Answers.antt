use Rattle.versions.proofs.Maps.{same_map}
use Rattle.versions.proofs.laws.law_of_equal_maps.Goals as goal

pub returns : goal.returns
returns g c = λ same m n left right alike. same_map g.K.Ord.cmp g.met.K.Ord.total same m n left right alike
