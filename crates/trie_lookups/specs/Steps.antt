-- What a step from a node finds for the keys of a path word.
use Rattle.std.specs.Prelude.{◌≡◌, ℕ, ◌+◌, ◌<◌, None, T, map}
use Rattle.std.specs.declared.cmp.Ordering.{Ordering}
use Rattle.std.specs.FinMap.{find, is_sorted}
use Rattle.hash_path.specs.Digits.{word_digits}
use Rattle.trie_shape.specs.Tree.{Tree, IsTrie, entries}
use Rattle.trie_shape.specs.View.{tree, pair_values}
use Rattle.trie_lookups.specs.declared.step.Step.{Step}
use Rattle.trie_lookups.specs.declared.step.Step.TheVariants.{Child, Pairs, Nothing}

module _ {K V S X Y : Type 0} (R : K → K → Ordering) (path : K → ℕ) where
  -- a child is a trie from the next level on, and finds what the node finds; the pairs of a leaf or bucket are all that it
  -- has, in order; and where there is nothing, the node has none of these keys
  abbrev pub Leads : ℕ → ℕ → Tree K V → Step K V S X Y → Type 0
  Leads level word t (Child node) = (level < word_digits) × IsTrie R path (level + 1) (tree node.now) × ((k : K) → word ≡ path k → find R k (entries t) ≡ find R k (entries (tree node.now)))
  Leads level word t (Pairs ps) = (entries t ≡ map pair_values ps.now) × T (is_sorted R (map pair_values ps.now))
  Leads level word t Nothing = (k : K) → word ≡ path k → find R k (entries t) ≡ None
