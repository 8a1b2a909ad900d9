use Rattle.std.proofs.Common.{◌≡◌, map, drop}
use Rattle.std.specs.FinMap.{find}
use Rattle.test_maps.specs.Lists.{pair_values}
use Rattle.test_maps.proofs.lists.find_pair.Given as goal

-- the key is not among the pairs so far
abbrev pub invariant-loop-each : goal.invariant-loop-each
invariant-loop-each g l = find g.K.Ord.cmp l.key (map pair_values (drop l.each-index l.pairs)) ≡ find g.K.Ord.cmp l.key (map pair_values l.pairs)
