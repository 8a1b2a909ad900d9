use Rattle.std.proofs.Common.{◌≡◌, ◌≤◌, ◌+◌, length}
use Rattle.combiner.specs.Unions.{AreApart}
use Rattle.trie_shape.specs.Roots.{map_of}
use Rattle.trie_shape.specs.View.{tree}
use Rattle.versions.specs.Map.{Map, IsMap, union}
use Rattle.versions.specs.declared.version.TheConstants.{MOST_PAIRS}
use Rattle.bulk_work.specs.Answers.{IsImage}
use Rattle.bulk_ops.specs.Meanings.{MeansImages}
use Rattle.bulk_work.proofs.Works.{Working}
use Rattle.bulk_ops.proofs.imaging.more_images.Given as goal

-- the map has the images of the pairs so far, beside those that it had, and room for those of the others
abbrev pub invariant-loop-key : goal.invariant-loop-key
invariant-loop-key g l = record {
  next : (goal.iterator-loop-key g).can_next l.key-iterator;
  finite : (goal.iterator-loop-key g).is_finite l.key-iterator;
  working : (p : g.row.K.Denot → g.row.V.Denot → g.row.K.Denot × g.row.V.Denot) (m : Map g.row.K.Denot g.row.V.Denot) → MeansImages (g.P.ImageFn.gives l.change.call) p → IsImage g.K.Ord.cmp p m l.fn.map.entries
      → AreApart g.K.Ord.cmp m (map_of g.K.Ord.cmp (tree l.root)) → Working g.K.Ord.cmp (λ m w. IsImage g.K.Ord.cmp p m w) l.key-iterator (union g.K.Ord.cmp m (map_of g.K.Ord.cmp (tree l.root))) l.all.entries;
  sorted : IsMap g.K.Ord.cmp l.all.entries;
  room : length l.all.entries + length l.key-iterator ≤ MOST_PAIRS;
  limit : l.all.limit ≡ MOST_PAIRS;
  stamp : l.all.stamp ≡ 0;
}
