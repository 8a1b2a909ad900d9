use Rattle.std.proofs.Common.{map}
use Rattle.trie_shape.specs.View.{pair_values}
use Rattle.trie_puts.proofs.Placing.{ComesAfter}
use Rattle.trie_puts.proofs.bucket_puts.place_among.Given as goal

abbrev pub invariant-loop-i : goal.invariant-loop-i
invariant-loop-i g l = ComesAfter g.K.Ord.cmp l.key l.i (map pair_values l.pairs)
