-- What pieces and the spots where they are cut have to do with their map.
use Rattle.std.specs.Prelude.{◌≡◌, ℕ, ◌+◌, ◌<◌, ◌≤◌, ◌^◌, Option, Some, None, MatchOption, length}
use Rattle.std.specs.declared.cmp.Ordering.{Ordering}
use Rattle.hash_path.specs.Digits.{word_bits}
use Rattle.trie_shape.specs.Map.{Map, IsMap}
use Rattle.trie_shape.specs.Tree.{HasTwoWords, IsTrie, entries}
use Rattle.trie_shape.specs.View.{tree}
use Rattle.trie_shape.specs.declared.node.Node.{Node}
use Rattle.iter.specs.Intervals.{part, whole}
use Rattle.iter.specs.Subtries.{children_between, pairs_of_all}
use Rattle.iter.specs.declared.interval.Interval.{Interval}
use Rattle.splitter.specs.Cuts.{middle_of, words_of}
use Rattle.splitter.specs.Laws.{below, from}
use Rattle.splitter.specs.Places.{IsPlace}
use Rattle.splitter.specs.declared.place.Place.{Place}
use Rattle.splitter.specs.declared.place.Spot.{Spot}
use denote.Ref.{Bor}

module _ {K V : Type 0} (R : K → K → Ordering) (path : K → ℕ) where
  -- the interval is one of positions, and has this many pairs of the map, which stand at the place; where there is none it is the whole interval
  abbrev pub IsPortion : {S X Y : Type 0} → Map K V → Interval → ℕ → Option (Place K V S X Y) → Type 0
  IsPortion m i count place =
      (i.lo ≤ i.hi) × (i.hi ≤ 2 ^ word_bits) × IsMap R m × (count ≡ length (part path m i))
      × MatchOption place (i ≡ whole) (λ p. IsPlace R path m i (tree p.branch) p.bitmap p.level p.base p.from p.to)

  -- the part is cut at the spot, where two children of a branch or more have its pairs; where there is none it has no middle
  abbrev pub IsCutAt : {S X Y : Type 0} → Map K V → Interval → Option (Spot K V S X Y) → Type 0
  IsCutAt m i spot =
      MatchOption spot (middle_of (words_of path (part path m i)) ≡ None)
      (λ s. (s.from + 1 < s.to) × IsPlace R path m i (tree s.branch.now) s.bitmap s.level s.base s.from s.to)

  -- the spot is divided at the child of this number, whose words begin at mid: the middle of the words of the part
  pub record IsDivided {S X Y : Type 0} (m : Map K V) (i : Interval) (s : Spot K V S X Y) (half mid : ℕ) : Type 0 where
    pub low : i.lo ≤ mid
    pub high : mid ≤ i.hi
    pub middle : middle_of (words_of path (part path m i)) ≡ Some mid
    pub lower : IsPlace R path m (below i mid) (tree s.branch.now) s.bitmap s.level s.base s.from half
    pub upper : IsPlace R path m (from i mid) (tree s.branch.now) s.bitmap s.level s.base half s.to

  -- the pairs of the spot's children
  abbrev pub pairs_at : {S X Y : Type 0} → Spot K V S X Y → Map K V
  pairs_at s = pairs_of_all (children_between (tree s.branch.now) s.from s.to)

  -- the node is the leaf or bucket that is the spot's only child, below the first level; where there is none the pairs have two words, or the spot is a root's
  abbrev pub IsLoneAt : {S X Y : Type 0} → Spot K V S X Y → Option (Bor (Node K V S X Y)) → Type 0
  IsLoneAt s node =
      MatchOption node (0 < s.level → HasTwoWords R path (pairs_at s))
      (λ n. (0 < s.level) × IsTrie R path 1 (tree n.now) × (entries (tree n.now) ≡ pairs_at s))
