use Rattle.std.proofs.Common.{◌≡◌, map, drop, ◌++◌, cond}
use Rattle.std.specs.FinMap.Entries.{put}
use Rattle.trie_shape.specs.View.{pair_values}
use Rattle.trie_shape.proofs.pairs.put_pair.Given as goal

abbrev pub invariant-loop-old : goal.invariant-loop-old
invariant-loop-old g l =
    let rest = map pair_values (drop l.old-index l.pairs) in
    map pair_values l.all.items ++ cond l.placed rest (put g.K.Ord.cmp l.pair.0 l.pair.1 rest) ≡ put g.K.Ord.cmp l.pair.0 l.pair.1 (map pair_values l.pairs)
