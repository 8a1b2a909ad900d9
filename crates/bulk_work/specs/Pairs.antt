-- Pairs behind shared pointers.
use Rattle.std.specs.Arc.{arc_value}
use Rattle.std.specs.declared.sync.Arc.{Arc}
use Rattle.std.specs.declared.alloc.Global.{Global}

-- the pair of two shared pointers, wherever they lie
abbrev pub pair_of : {K V : Type 0} → Arc K Global × Arc V Global → K × V
pair_of x = (arc_value x.0, arc_value x.1)
