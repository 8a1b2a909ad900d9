use Rattle.versions.proofs.Maps.{with_pair_is_map, value_at-with_pair}
use Rattle.versions.proofs.laws.law_of_put.Goals as goal

pub returns : goal.returns
returns g c = record { value = λ m k q v. value_at-with_pair g.K.Ord.cmp g.met.K.Ord.total m k q v; map = λ m k v h. with_pair_is_map g.K.Ord.cmp g.met.K.Ord.total m k v h }
