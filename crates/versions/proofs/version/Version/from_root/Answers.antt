use Rattle.std.proofs.Common.{◌≤◌, sym, subst, length}
use Rattle.trie_shape.specs.Roots.{IsRoot, map_of, word_of}
use Rattle.trie_shape.specs.Shape.{NoneAbove, nodes}
use Rattle.versions.specs.declared.version.TheConstants.{MOST_PAIRS}
use Rattle.versions.proofs.version.Version.from_root.Goals as goal

-- what is required of the node is true of the root that holds it
pub invariant_of-result : goal.invariant_of-result
invariant_of-result g c =
    subst (λ t. IsRoot g.K.Ord.cmp g.K.PathKey.path_of t × (length (map_of g.K.Ord.cmp t) ≤ c.args.limit) × (1 ≤ c.args.limit) × (c.args.limit ≤ MOST_PAIRS) × NoneAbove c.args.stamp.0 (nodes (word_of g.K.PathKey.path_of) t))
    (sym c.new.ensures) (c.requires.root, c.requires.fits, c.requires.least, c.requires.most, c.requires.newest)
