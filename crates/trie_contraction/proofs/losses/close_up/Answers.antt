use Rattle.std.proofs.Common.{refl}
use Rattle.trie_shape.specs.declared.node.Node.TheVariants.{Vacant}
use Rattle.trie_shape.proofs.Places.{closed}
use Rattle.trie_contraction.proofs.losses.close_up.Goals as goal

pub returns-clause-row : goal.returns-clause-row
returns-clause-row g c =
    let a = c.args in
    closed a.row.now a.used a.at Vacant c.rotate_left.new.self _ c.requires.at c.requires.used refl c.rotate_left.ensures.after
