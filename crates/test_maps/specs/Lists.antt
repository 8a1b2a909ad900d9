-- What a list of pairs stands for.
use Rattle.std.specs.declared.alloc.Global.{Global}
use Rattle.std.specs.declared.sync.Arc.{Arc}

module _ {K V : Type 0} where
  -- a pair without where its parts lie
  abbrev pub pair_values : Arc K Global × Arc V Global → K × V
  pair_values p = (p.0.value, p.1.value)
