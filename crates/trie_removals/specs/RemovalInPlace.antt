-- What a removal does to a node where it stands.
use Rattle.std.specs.Prelude.{◌≡◌, ◌<◌, ℕ, Bool, false, List, Option, option_map}
use Rattle.std.specs.declared.cmp.Ordering.{Ordering}
use Rattle.std.specs.FinMap.{find}
use Rattle.trie_shape.specs.Tree.{Tree, IsTrie, bucket, entries}
use Rattle.trie_shape.specs.View.{tree}
use Rattle.trie_copy.specs.Removals.{is_removable, IsTaken, IsOnly, Leaves}
use Rattle.trie_removals.specs.declared.removal_in_place.RemovedIn.{RemovedIn}
use Rattle.trie_removals.specs.declared.removal_in_place.RemovedIn.TheVariants.{Nothing, Gone, Left}
use Rattle.trie_removals.specs.declared.removal_in_place.TakenInside.{TakenInside}
use Rattle.trie_removals.specs.declared.removal_in_place.TakenInside.TheVariants.{Done, GivesWay, Elsewhere}

module _ {K V S Y : Type 0} (value_of : Y → V) (R : K → K → Ordering) (path : K → ℕ) (level stamp : ℕ) (k : K) (holds : Option V → Bool) (old : Tree K V) where
  -- nothing was removed; or the only pair is left to the node's holder; or the new tree is without the pair
  abbrev pub TakesOut : RemovedIn V S Y → Tree K V → Type 0
  TakesOut (Nothing found) new = (option_map value_of found ≡ find R k (entries old)) × (is_removable R k holds (entries old) ≡ false) × (new ≡ old)
  TakesOut (Gone v) new = IsTaken R k holds old (value_of v) × IsOnly R k old × (0 < level) × (new ≡ old)
  TakesOut (Left v) new = Leaves R path level stamp k holds old (value_of v) new

  -- the same of a node where it stands, where another node may also be what is left, or nothing is changed and the key is still to be removed
  abbrev pub TakesInside : {X : Type 0} → TakenInside K V S X Y → Tree K V → Type 0
  TakesInside (Done r) new = TakesOut r new
  TakesInside (GivesWay node v) new = Leaves R path level stamp k holds old (value_of v) (tree node)
  TakesInside Elsewhere new = new ≡ old

module _ {K V S Y : Type 0} (value_of : Y → V) (R : K → K → Ordering) (path : K → ℕ) where
  -- the bucket, with the stamp of before, has become one with these pairs, by a removal of k, whatever level it stands at
  abbrev pub TakesFrom : ℕ → K → (Option V → Bool) → ℕ → List (K × V) → RemovedIn V S Y → ℕ → List (K × V) → Type 0
  TakesFrom stamp k holds before old removed after new =
      (level : ℕ) → IsTrie R path level (bucket before old) → TakesOut value_of R path level stamp k holds (bucket before old) removed (bucket after new)
