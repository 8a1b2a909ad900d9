-- What a put does to a node where it stands, if it can.
use Rattle.std.specs.Prelude.{◌≡◌, ℕ, ◌+◌, ◌*◌, ◌%◌, ◌^◌, Bool, true, false, List, [], ◌∷◌, map, Option, None, option_map, bit_or}
use Rattle.std.specs.List.{insert}
use Rattle.std.specs.declared.cmp.Ordering.{Ordering}
use Rattle.trie_shape.specs.Tree.{Tree, branch, bucket, trees}
use Rattle.trie_shape.specs.View.{tree}
use Rattle.trie_shape.specs.declared.node.Node.{Node}
use Rattle.trie_puts.specs.PutInPlace.{PutsIn}
use Rattle.trie_copy.specs.declared.put.NewPair.{NewPair}
use Rattle.trie_puts.specs.declared.put_in_place.PutInside.{PutInside}
use Rattle.trie_puts.specs.declared.put_in_place.PutInside.TheVariants.{Done, GivesWay, Elsewhere}

module _ {K V S X Y : Type 0} where
  -- the put is done; or another node, of the same put, is to take the node's place; or nothing is changed, and the entry is still to be put
  abbrev pub PutsInside : (Y → V) → (K → K → Ordering) → (K → ℕ) → ℕ → NewPair K V S X Y → (Option V → Bool) → Tree K V → PutInside K V S X Y → Tree K V → Type 0
  PutsInside value_of R path level entry holds old (Done d) new = PutsIn R path level entry.stamp.0 entry.pair.0 entry.pair.1 holds old (option_map value_of d.previous) d.written new
  PutsInside value_of R path level entry holds old (GivesWay node) new = PutsIn R path level entry.stamp.0 entry.pair.0 entry.pair.1 holds old None true (tree node)
  PutsInside value_of R path level entry holds old (Elsewhere e) new = (e ≡ entry) × (new ≡ old)

  -- the same of a leaf that is put where the condition holds of an absent key: added is the branch with it
  abbrev pub PutsLeaf : NewPair K V S X Y → Bool → Tree K V → Tree K V → PutInside K V S X Y → Tree K V → Type 0
  PutsLeaf entry holds added old (Done d) new = (d.previous ≡ None) × (d.written ≡ holds) × (d.written ≡ true → new ≡ added) × (d.written ≡ false → new ≡ old)
  PutsLeaf entry holds added old (GivesWay node) new = (holds ≡ true) × (tree node ≡ added)
  PutsLeaf entry holds added old (Elsewhere e) new = (e ≡ entry) × (new ≡ old)

  -- a branch of the children, with a leaf of the entry at a place among them, by a digit that none of them has
  abbrev pub with_leaf : NewPair K V S X Y → ℕ → ℕ → ℕ → ℕ → List (Node K V S X Y) → Tree K V
  with_leaf entry size bitmap digit at children =
      branch entry.stamp.0 (size + 1) (bit_or bitmap (1 * 2 ^ digit % 2 ^ 32)) (trees (insert (map tree children) at (bucket entry.stamp.0 ((entry.pair.0, entry.pair.1) ∷ []))))
