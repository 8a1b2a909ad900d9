use Rattle.trie_shape.specs.View.{tree}
use Rattle.trie_shape.proofs.Roots.{find_entries, root_is_trie}
use Rattle.trie_lookups.proofs.way.Way.from_root.Goals as goal

pub invariant_of-result : goal.invariant_of-result
invariant_of-result g c =
    let root = root_is_trie g.K.Ord.cmp g.K.PathKey.path_of g.met.K.Ord.total g.met.K.PathKey.exact g.met.K.PathKey.small (tree c.args.root.now) c.requires in
    (root, c.path_sought.ensures)

pub returns : goal.returns
returns g c = find_entries g.K.Ord.cmp g.K.PathKey.path_of g.met.K.Ord.total (tree c.args.root.now) (g.Q.Sought.key_of c.args.key.now)
