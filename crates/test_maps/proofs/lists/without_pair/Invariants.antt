use Rattle.std.proofs.Common.{◌≡◌, map, drop, ◌++◌}
use Rattle.test_maps.specs.Lists.{pair_values}
use Rattle.versions.specs.Map.{without}
use Rattle.test_maps.proofs.lists.without_pair.Given as goal

-- the pairs so far that stay, with those that are left
abbrev pub invariant-loop-each : goal.invariant-loop-each
invariant-loop-each g l = map pair_values l.all.items ++ without g.K.Ord.cmp (map pair_values (drop l.each-index l.pairs)) l.key ≡ without g.K.Ord.cmp (map pair_values l.pairs) l.key
