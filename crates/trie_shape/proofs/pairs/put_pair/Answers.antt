use Rattle.std.proofs.Common.{rules, arith}
use Rattle.std.proofs.lemmas.Grind.{common_steps}
use Rattle.trie_shape.proofs.pairs.put_pair.Goals as goal
use Rattle.trie_shape.proofs.pairs.put_pair.Goals.{then-placed, else-placed}

pub loop-old-preserved : goal.loop-old-preserved
loop-old-preserved g c =
    elim c.if-placed.branch [
      | then-placed w ↦ search (rules, common_steps)
      | else-placed w ↦ grind (arith, common_steps)
    ]
