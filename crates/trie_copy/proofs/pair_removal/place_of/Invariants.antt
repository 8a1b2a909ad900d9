use Rattle.std.proofs.Common.{◌≡◌, map, drop}
use Rattle.std.specs.FinMap.{find}
use Rattle.trie_shape.specs.View.{pair_values}
use Rattle.trie_copy.proofs.pair_removal.place_of.Given as goal

abbrev pub invariant-loop-i : goal.invariant-loop-i
invariant-loop-i g l = find g.K.Ord.cmp (g.Q.Sought.key_of l.key) (map pair_values (drop l.i l.pairs)) ≡ find g.K.Ord.cmp (g.Q.Sought.key_of l.key) (map pair_values l.pairs)
