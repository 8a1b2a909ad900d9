use Rattle.versions.proofs.Maps.{without_is_map, value_at-without}
use Rattle.versions.proofs.laws.law_of_removal.Goals as goal

pub returns : goal.returns
returns g c = record { value = λ m k q. value_at-without g.K.Ord.cmp g.met.K.Ord.total m k q; map = λ m k h. without_is_map g.K.Ord.cmp m k h }
