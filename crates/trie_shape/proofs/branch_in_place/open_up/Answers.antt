use Rattle.std.proofs.Common.{refl}
use Rattle.trie_shape.proofs.Places.{turned}
use Rattle.trie_shape.proofs.branch_in_place.open_up.Goals as goal

pub returns-clause-row : goal.returns-clause-row
returns-clause-row g c =
    let a = c.args in
    turned a.row.now a.used a.at a.node c.rotate_right.new.self _ c.requires.at c.requires.used refl c.rotate_right.ensures.after
