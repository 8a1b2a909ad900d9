use Rattle.std.proofs.Common.{◌≡◌, map, drop, ◌++◌, cond}
use Rattle.std.specs.FinMap.Entries.{put}
use Rattle.test_maps.specs.Lists.{pair_values}
use Rattle.test_maps.proofs.lists.put_pair.Given as goal

-- the pairs so far, with what is left to be put
abbrev pub invariant-loop-each : goal.invariant-loop-each
invariant-loop-each g l =
    let rest = map pair_values (drop l.each-index l.pairs) in
    map pair_values l.all.items ++ cond l.placed rest (put g.K.Ord.cmp l.key.value l.value.value rest) ≡ put g.K.Ord.cmp l.key.value l.value.value (map pair_values l.pairs)
