-- Where the pairs of a piece stand in a trie.
use Rattle.std.specs.Prelude.{◌≡◌, ℕ, ◌≤◌, All, length}
use Rattle.std.specs.declared.cmp.Ordering.{Ordering}
use Rattle.hash_path.specs.Digits.{digits_after, lowest}
use Rattle.trie_shape.specs.Looks.{ShowsBitmap}
use Rattle.trie_shape.specs.Map.{Map}
use Rattle.trie_shape.specs.Order.{walked}
use Rattle.trie_shape.specs.Outline.{children}
use Rattle.trie_shape.specs.Tree.{Tree, IsTrie, entries}
use Rattle.iter.specs.Subtries.{children_between, pairs_of_all}
use Rattle.iter.specs.Intervals.{part}
use Rattle.iter.specs.declared.interval.Interval.{Interval}

-- the pairs of an interval are those of some children of a branch at a level, from one number on and below another;
-- the words below the branch share the digits above its level, and base is the least position with these digits
pub record IsPlace {K V : Type 0} (R : K → K → Ordering) (path : K → ℕ) (m : Map K V) (i : Interval) (t : Tree K V) (bitmap level base from to : ℕ) : Type 0 where
  pub trie : IsTrie R path level t
  pub shown : ShowsBitmap bitmap t
  pub order : from ≤ to
  pub within : to ≤ length (children t)
  pub shared : All (λ e. lowest (digits_after 0 level (path e.0)) ≡ base) (entries t)
  pub walk : walked R path (part path m i) ≡ pairs_of_all (children_between t from to)
