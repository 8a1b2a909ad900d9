-- Pairs that are taken from a trie many at a time.
use Rattle.std.specs.Prelude.{ℕ, ◌≤◌, List, ◌++◌, length, map, flat_map, sum_by, option_map, Option}
use Rattle.std.specs.Option.{option_to_list}
use Rattle.trie_shape.specs.Counts.{node_count}
use Rattle.trie_shape.specs.Shape.{Fits}
use Rattle.trie_shape.specs.Tree.{entries}
use Rattle.trie_shape.specs.View.{pair_values, tree}
use Rattle.trie_shape.specs.declared.node.Node.{Node}
use Rattle.iter.specs.Subtries.{pairs_of_all}
use Rattle.iter.specs.Stacks.{subtries}
use Rattle.iter.specs.declared.ahead.Chunk.{Chunk}
use Rattle.iter.specs.declared.ahead.Chunk.TheVariants.{Few, Bucket}
use Rattle.iter.specs.declared.unread_pairs.UnreadPairs.{UnreadPairs}
use denote.Ref.{Bor}

module _ {K V : Type 0} where
  -- the pair that a place of a bunch holds, without where its parts lie
  abbrev pub held : Option (Bor (K × V)) → Option (K × V)
  held place = option_map (λ pair. pair_values pair.now) place

  -- the pairs that places hold, one after another
  abbrev pub pairs_held : List (Option (Bor (K × V))) → List (K × V)
  pairs_held places = flat_map (λ place. option_to_list (held place)) places

  -- the pairs below the nodes of a row, in the order of a walk, and how many nodes there are
  abbrev pub pairs_in : {S X Y : Type 0} → List (Node K V S X Y) → List (K × V)
  pairs_in row = flat_map (λ node. entries (tree node)) row

  -- how many nodes the subtries of a row have
  abbrev pub nodes_in : {S X Y : Type 0} → List (Node K V S X Y) → ℕ
  nodes_in row = sum_by (λ node. node_count (tree node)) row

  -- the pairs where a walk stops
  abbrev pub pairs_at : {S X Y : Type 0} → Chunk K V S X Y → List (K × V)
  pairs_at (Few node) = entries (tree node.now)
  pairs_at (Bucket pairs) = map pair_values pairs.now

  -- a subtrie where a walk stops has at most `most` pairs
  abbrev pub IsFew : {S X Y : Type 0} → ℕ → Chunk K V S X Y → Type 0
  IsFew most (Few node) = Fits (tree node.now) × (length (entries (tree node.now)) ≤ most)
  IsFew most (Bucket pairs) = Unit {0}

  -- the pairs that are still to be read
  abbrev pub unread_pairs : {S X Y : Type 0} → UnreadPairs K V S X Y → List (K × V)
  unread_pairs u = map pair_values u.bucket.now ++ pairs_of_all (subtries u.ahead)
